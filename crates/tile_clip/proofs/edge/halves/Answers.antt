use Rattle.std.proofs.Common.{sym, ap, ◌∙◌}
use Rattle.std.specs.Prelude.{filter}
use Rattle.tile_clip.specs.Outlines.{touches, all_touch}
use Rattle.tile_clip.proofs.Touching.{all_kept, both_are}
use Rattle.tile_clip.proofs.edge.halves.Goals as goal

pub returns-then-all_touch : goal.returns-then-all_touch
returns-then-all_touch c =
    let s = c.args.second in
    let whole = ap (all_touch s) (sym c.as_slice.ensures) ∙ sym c.all_touch.ensures ∙ c.if-all_touch.true in
    both_are _ _ _ _ (c.in_ok-in_first.ensures ∙ ap (filter (touches c.args.first)) c.as_slice-then-all_touch.ensures) (sym (all_kept s c.args.edges whole))
