use Rattle.std.proofs.Common.{sym, subst}
use Rattle.shard_store.specs.Join.{IsJoinOf}
use Rattle.node_store.specs.Order.{shaped_join}
use Rattle.build_one.proofs.Moved.{drawn}
use Rattle.build_one.proofs.ways.ways.Goals as goal

pub returns-in-Ok-clause-read : goal.returns-in-Ok-clause-read
returns-in-Ok-clause-read g c =
    let read = (c.in-Ok.ensures {u = tt}).read in (
      read.0,
      drawn c.args.profile.now c.args.needed.now c.args.locations.now read.0 c.new-entries.result.items c.pass_ways-passed.new.entries.items (g.S.Spill.seen c.args.spill.now) (g.S.Spill.seen c.pass_ways-passed.new.spill) c.args.buffer.now c.pass_ways-passed.new.buffer
          c.from_map.result c.new-entries.ensures.items read.1 (subst (IsJoinOf shaped_join c.pass_ways-passed.new.entries.items) (sym c.from_map.ensures) c.joined.ensures),
      read.2,
    )
