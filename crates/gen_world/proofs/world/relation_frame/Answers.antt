use Rattle.std.proofs.Common.{arith}
use Rattle.gen_world.proofs.Draws.{draws_few}
use Rattle.gen_world.proofs.world.relation_frame.Goals as goal

pub draw_relations-requires-clause-room : goal.draw_relations-requires-clause-room
draw_relations-requires-clause-room c =
    let few = draws_few c.args.counts.ways in
    let counts = c.requires.counts in
    let nodes = counts.nodes in
    let ways = counts.ways in
    let relations = counts.relations in
    omega arith
