use Rattle.std.proofs.Common.{◌≡◌, ◌+◌, ap, arith}
use Rattle.hilbert_ids.proofs.Numbers.{told_more, nothing_left}
use Rattle.hilbert_ids.specs.Curve.{place}
use Rattle.hilbert_ids.specs.Ids.{first_id_of, number_of}
use Rattle.hilbert_ids.proofs.id.tile_at.Goals as goal

pub loop-level-preserved : goal.loop-level-preserved
loop-level-preserved c = record {
  column = c.leave.ensures.column;
  row = c.leave.ensures.row;
  told = told_more c.loop-level.rest c.loop-level.level _ _ _ c.leave.ensures.place c.loop-level.invariant.told;
}

whole : (c : goal.After-loop-level) → place c.args.zoom c.loop-level.x c.loop-level.y ≡ c.args.at
whole c =
    let full : c.loop-level.level ≡ c.args.zoom = omega arith in
    nothing_left c.loop-level.rest c.args.zoom _ _ c.requires.below (rw full at c.loop-level.invariant.told)

pub returns-clause-number : goal.returns-clause-number
unfolding number_of
returns-clause-number c = ap (λ n. first_id_of c.args.zoom + n) (whole c)
