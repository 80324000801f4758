use Rattle.std.proofs.Common.{◌≡◌, ◌≤◌, ◌^◌, ap, arith, lit<}
use Rattle.std.proofs.Math.Nat.{pow-le-pow_right}
use Rattle.tile_clip.proofs.tiling.Column.window.Goals as goal

pub of_tile-requires-clause-x : goal.of_tile-requires-clause-x
of_tile-requires-clause-x c =
    let most : 2 ^ c.args.self.tiling.z ≤ 2 ^ 14 = pow-le-pow_right (lit< tt) c.args.self.tiling.zoom in
    let is : c.tile.result.x ≡ c.args.self.x = ap (λ t. t.x) c.tile.ensures in
    omega (arith, c.args.self.on_grid, is)

pub of_tile-requires-clause-y : goal.of_tile-requires-clause-y
of_tile-requires-clause-y c =
    let most : 2 ^ c.args.self.tiling.z ≤ 2 ^ 14 = pow-le-pow_right (lit< tt) c.args.self.tiling.zoom in
    let is : c.tile.result.y ≡ c.args.y = ap (λ t. t.y) c.tile.ensures in
    omega (arith, c.requires, is)
