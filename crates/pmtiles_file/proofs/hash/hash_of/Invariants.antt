use Rattle.std.proofs.Common.{◌≡◌, take}
use Rattle.std.specs.List.{fold}
use Rattle.pmtiles_file.specs.Hashes.{next_state}
use Rattle.pmtiles_file.proofs.hash.hash_of.Given as goal

abbrev pub invariant-loop-byte : goal.invariant-loop-byte
invariant-loop-byte l = l.state ≡ fold next_state 0 (take l.byte-index l.bytes)
