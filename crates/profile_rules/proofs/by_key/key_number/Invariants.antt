use Rattle.std.proofs.Common.{◌≡◌, ◌<◌, drop}
use Rattle.profile_rules.specs.ByKey.{key_number}
use Rattle.profile_rules.proofs.by_key.key_number.Given as goal

abbrev pub invariant-loop-byte : goal.invariant-loop-byte
invariant-loop-byte l = record {
  small : l.number < 65536;
  told : key_number l.number (drop l.byte-index l.key) ≡ key_number 0 l.key;
}
