use Rattle.std.proofs.Common.{◌≡◌, ◌++◌, take}
use Rattle.pass_shapes.specs.Stores.{locate_in, shaped_in}
use Rattle.pass_shapes.proofs.shaped.put_shaped.Given as goal

abbrev pub invariant-loop-way : goal.invariant-loop-way
invariant-loop-way l = l.entries.items ≡ l.fn.entries.items ++ shaped_in l.needed (locate_in l.locations) l.block (take l.way-index l.ways)
