use Rattle.std.proofs.Common.{◌≡◌, ◌++◌, take}
use Rattle.pass_shapes.specs.Stores.{located_in}
use Rattle.pass_shapes.proofs.located.put_located.Given as goal

abbrev pub invariant-loop-node : goal.invariant-loop-node
invariant-loop-node l = l.entries.items ≡ l.fn.entries.items ++ located_in l.needed l.block (take l.node-index l.nodes)
