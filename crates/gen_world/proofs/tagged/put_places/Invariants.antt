use Rattle.std.proofs.Common.{◌≡◌, ◌++◌, take, map}
use Rattle.gen_world.specs.Words.{pair_of}
use Rattle.gen_world.specs.Tables.{places_in}
use Rattle.gen_world.proofs.tagged.put_places.Given as goal

abbrev pub invariant-loop-tag : goal.invariant-loop-tag
invariant-loop-tag l = l.places.items ≡ l.initial.places.items ++ places_in l.strings (map pair_of (take l.tag-index l.tags))
