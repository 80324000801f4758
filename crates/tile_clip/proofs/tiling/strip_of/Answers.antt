use Rattle.std.proofs.Common.{◌≤◌, ◌^◌, arith, lit<}
use Rattle.std.proofs.Math.Nat.{pow-le-pow_right}
use Rattle.tile_clip.proofs.tiling.strip_of.Goals as goal

pub low-requires-clause-at : goal.low-requires-clause-at
low-requires-clause-at c = let most : 2 ^ c.args.tiling.z ≤ 2 ^ 14 = pow-le-pow_right (lit< tt) c.args.tiling.zoom in omega (arith, c.requires)

pub high-requires-clause-at : goal.high-requires-clause-at
high-requires-clause-at c = let most : 2 ^ c.args.tiling.z ≤ 2 ^ 14 = pow-le-pow_right (lit< tt) c.args.tiling.zoom in omega (arith, c.requires)
