use Rattle.std.proofs.Common.{◌+◌, ◌-ℤ◌, ◌+ℤ◌, pos}
use Rattle.std.proofs.lemmas.List.Elements.{All-same}
use Rattle.strip_clip.specs.declared.axis.Axis.TheVariants.{X}
use Rattle.tile_clip.specs.Bounds.{AreRingsWithin}
use Rattle.tile_clip.proofs.piece.row_cut.Goals as goal

pub polygons_cut-requires : goal.polygons_cut-requires
polygons_cut-requires c =
    let low = c.args.window.corner.x -ℤ pos c.args.window.buffer in
    let high = c.args.window.corner.x +ℤ pos (4096 + c.args.window.buffer) in
    All-same (AreRingsWithin X low high) c.as_slice-in-Polygons.result.now c.in-Polygons.polygons c.as_slice-in-Polygons.ensures (rw c.in-Polygons.is at c.requires)
