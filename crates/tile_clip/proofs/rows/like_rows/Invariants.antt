use Rattle.std.proofs.Common.{◌-◌, Ok, Some}
use Rattle.tile_clip.specs.Given.{Gives}
use Rattle.tile_clip.specs.Pieces.{of_each}
use Rattle.tile_clip.specs.Steady.{like_piece}
use Rattle.tile_clip.proofs.rows.like_rows.Given as goal

-- the taker was given the rows so far
abbrev pub invariant-loop-y : goal.invariant-loop-y
invariant-loop-y g l = Gives g.T.PieceTaker.taken g.T.PieceTaker.steps g.T.PieceTaker.stops l.fn.take l.take (of_each (like_piece l.column.tiling.z l.column.x (Some l.piece)) l.first (l.y - l.first)) (Ok tt)
