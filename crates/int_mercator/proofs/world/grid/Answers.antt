use Rattle.std.proofs.Common.{◌≡◌, ◌+◌, ◌-◌, ◌*◌, ◌/◌, ◌%◌, ◌^◌, ◌<◌, ◌≤◌, w32, refl, arith}
use Rattle.std.proofs.lemmas.Nat.{one_shl}
use Rattle.std.proofs.lemmas.Int.{ints, to_z_pos}
use Rattle.int_mercator.specs.Places.{grid_of}
use Rattle.int_mercator.proofs.Division.{on_grid, grid_small}
use Rattle.int_mercator.proofs.world.grid.Goals as goal

same : (c : goal.After-from) → (c.from.result + 1 * 2 ^ (19 - c.args.z) % 2 ^ 64) / 2 ^ (20 - c.args.z) ≡ grid_of c.args.w c.args.z
unfolding grid_of
same c =
    let shift = one_shl (19 - c.args.z) 64 (omega arith) in
    rw (shift, c.from.ensures) refl

within : (c : goal.After-from) → grid_of c.args.w c.args.z ≤ 4096 * 2 ^ c.args.z
unfolding grid_of
within c = on_grid c.args.w c.args.z c.ranges.w.fits c.requires

small : (c : goal.After-from) → grid_of c.args.w c.args.z < 2 ^ 31
small c = omega (arith, within c, grid_small c.args.z c.requires)

pub overflow_cast-result-3 : goal.overflow_cast-result-3
overflow_cast-result-3 c = rw (same c) (omega (arith, ints, small c))

pub returns-clause-exact : goal.returns-clause-exact
returns-clause-exact c = rw (same c) (to_z_pos w32 (grid_of c.args.w c.args.z) (small c))

pub returns-clause-within : goal.returns-clause-within
returns-clause-within c = within c
