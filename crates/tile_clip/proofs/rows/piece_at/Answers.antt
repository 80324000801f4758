use Rattle.std.proofs.Common.{◌+◌, pos, ◌+ℤ◌, ◌-ℤ◌, subst, sym}
use Rattle.strip_clip.specs.declared.axis.Axis.TheVariants.{X}
use Rattle.tile_clip.specs.Bounds.{IsWithin}
use Rattle.tile_clip.proofs.rows.piece_at.Goals as goal

pub row_cut-requires : goal.row_cut-requires
row_cut-requires c =
    let buffer = c.args.column.tiling.buffer in
    rw c.window.ensures.buffer (subst (λ p. IsWithin X (p.x -ℤ pos buffer) (p.x +ℤ pos (4096 + buffer)) c.args.outline.now) (sym c.window.ensures.corner) c.requires.within)
