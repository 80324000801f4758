use Rattle.std.proofs.Common.{◌+◌, ◌-ℤ◌, ◌+ℤ◌, pos, arith}
use Rattle.tile_clip.proofs.piece.polygons_cut.Goals as goal

pub polygon_cut-requires : goal.polygon_cut-requires
polygon_cut-requires c =
    let low = c.args.window.corner.x -ℤ pos c.args.window.buffer in
    let high = c.args.window.corner.x +ℤ pos (4096 + c.args.window.buffer) in
    rw c.rings-item.is (c.requires c.loop-rings.rings-index c.rings-item.result (omega arith))
