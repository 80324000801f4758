use Rattle.std.proofs.Common.{ap, ◌∙◌, rules}
use Rattle.std.specs.Prelude.{filter}
use Rattle.std.proofs.lemmas.Fn.{filter_same}
use Rattle.tile_clip.specs.Outlines.{touches}
use Rattle.tile_clip.proofs.edge.only_touching.Goals as goal

pub returns : goal.returns
returns c = c.from_vec.ensures ∙ filter_same _ _ _ (λ x b f' k. search rules) _ _ c.retain.ensures.filtered ∙ ap (filter (touches c.args.strip)) c.into_vec-kept.ensures
