use Rattle.std.proofs.Common.{◌≡◌, ◌++◌, take, map}
use Rattle.std.specs.Prelude.{flat_map}
use Rattle.tb_wire.specs.Varint.{encoding}
use Rattle.pmtiles_dirs.proofs.put.put_lens.Given as goal

abbrev pub invariant-loop-e : goal.invariant-loop-e
invariant-loop-e l = l.out.items ≡ l.fn.out.items ++ flat_map encoding (map (λ e. e.len) (take l.e-index l.entries))
