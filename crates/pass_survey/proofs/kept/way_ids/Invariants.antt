use Rattle.std.proofs.Common.{◌≡◌, take}
use Rattle.tile_model.specs.Relations.{way_ids}
use Rattle.pass_survey.proofs.kept.way_ids.Given as goal

abbrev pub invariant-loop-member : goal.invariant-loop-member
invariant-loop-member l = l.ids ≡ way_ids (take l.member-index l.members)
