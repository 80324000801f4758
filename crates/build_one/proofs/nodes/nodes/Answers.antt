use Rattle.std.proofs.Common.{sym, subst}
use Rattle.shard_store.specs.Join.{IsJoinOf}
use Rattle.node_store.specs.Order.{located_join}
use Rattle.build_one.proofs.Moved.{placed}
use Rattle.build_one.proofs.nodes.nodes.Goals as goal

pub returns-in-Ok-clause-read : goal.returns-in-Ok-clause-read
returns-in-Ok-clause-read g c =
    let read = (c.in-Ok.ensures {u = tt}).read in (
      read.0,
      placed c.args.profile.now c.args.needed.now read.0 c.new-entries.result.items c.pass_nodes-passed.new.entries.items (g.S.Spill.seen c.args.spill.now) (g.S.Spill.seen c.pass_nodes-passed.new.spill) c.args.buffer.now c.pass_nodes-passed.new.buffer c.from_map.result
          c.new-entries.ensures.items read.1 (subst (IsJoinOf located_join c.pass_nodes-passed.new.entries.items) (sym c.from_map.ensures) c.joined.ensures),
      read.2,
    )
