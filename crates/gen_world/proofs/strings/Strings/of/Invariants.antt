use Rattle.std.proofs.Common.{◌≡◌, take, map}
use Rattle.gen_world.specs.Words.{pair_of}
use Rattle.gen_world.specs.Tables.{uses_of}
use Rattle.gen_world.proofs.strings.Strings.of.Given as goal

abbrev pub invariant-loop-tag : goal.invariant-loop-tag
invariant-loop-tag l = l.strings ≡ uses_of (map pair_of (take l.tag-index l.tags))
