use Rattle.std.proofs.Common.{◌≡◌, take, map, flat_map}
use Rattle.gen_world.specs.Words.{pair_of}
use Rattle.gen_world.specs.Elements.{way_tags}
use Rattle.gen_world.proofs.block.tags_of_ways.Given as goal

abbrev pub invariant-loop-way : goal.invariant-loop-way
invariant-loop-way l = map pair_of l.tags.items ≡ flat_map way_tags (take l.way-index l.ways)
