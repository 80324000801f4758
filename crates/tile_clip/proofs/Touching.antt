-- Edges that all touch a strip are those that touch it.
use Rattle.std.proofs.Common.{◌≡◌, true, cond, List, [], ◌∷◌, refl, ap, ◌∙◌}
use Rattle.std.specs.Prelude.{filter}
use Rattle.strip_clip.specs.declared.strip.Strip.{Strip}
use Rattle.tile_clip.specs.declared.edge.Edge.{Edge}
use Rattle.tile_clip.specs.declared.edge.EdgeHalves.{EdgeHalves}
use Rattle.tile_clip.specs.Outlines.{touches, all_touch}
use Rattle.tile_clip.proofs.SideEdges.{and_first, and_second}

pub all_kept : (s : Strip) (es : List Edge) → all_touch s es ≡ true → filter (touches s) es ≡ es
all_kept s [] h = refl
all_kept s (e ∷ es) h = ap (λ b. cond b (e ∷ filter (touches s) es) (filter (touches s) es)) (and_first (touches s e) (all_touch s es) h) ∙ ap (λ xs. e ∷ xs) (all_kept s es (and_second (touches s e) (all_touch s es) h))

abbrev both : List Edge → List Edge → EdgeHalves
both a b = record { first = a; second = b }

pub both_are : (a b c d : List Edge) → a ≡ c → b ≡ d → both a b ≡ both c d
both_are a b c d e f = ap (λ xs. both xs b) e ∙ ap (both c) f
