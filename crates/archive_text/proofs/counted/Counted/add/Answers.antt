use Rattle.std.proofs.Common.{◌≡◌, ℕ, None, List, [], ◌∷◌, ◌++◌, ap, sym, subst, ◌∙◌}
use Rattle.indexmap.proofs.CallerLemmas.{insert_entry-new}
use Rattle.archive_text.specs.declared.span.Span.{Span}
use Rattle.archive_text.specs.Counted.{features_at}
use Rattle.archive_text.proofs.counted.Counted.add.Goals as goal

pub returns : goal.returns
returns c =
    let new : features_at c.args.span c.self.inside.counts.entries ≡ None = subst (λ (counted : List (Span × ℕ)). features_at c.args.span counted ≡ None) (sym c.self.view_is) c.requires in
    c.in_ok-insert.ensures.entries
    ∙ (insert_entry-new _ c.self.inside.counts c.args.span c.args.features new ∙ ap (λ (counted : List (Span × ℕ)). counted ++ (c.args.span, c.args.features) ∷ []) c.self.view_is)
