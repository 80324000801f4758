use Rattle.std.proofs.Common.{sym, subst}
use Rattle.shard_store.specs.Join.{IsJoinOf}
use Rattle.member_sets.specs.declared.unit.Unit as units
use Rattle.build_one.specs.Passes.{AreNeeded}
use Rattle.build_one.specs.Works.{members_meaning}
use Rattle.build_one.proofs.Loading.{reads-all, stopped-reads}
use Rattle.build_one.proofs.Refs.{needed-made, quiet-members}
use Rattle.build_one.proofs.members.members.Goals as goal

pub returns-in-Ok-clause-read : goal.returns-in-Ok-clause-read
returns-in-Ok-clause-read g c =
    let r = g.R.Source.seen c.args.reader.now in
    let p = (c.in-Ok.ensures {u = tt}).answers.told in
    reads-all members_meaning (λ b bytes read h. h) (λ needed read. AreNeeded c.args.profile.now c.args.ways.now needed read) c.from_map.result c.args.order.now c.args.blocks.now r (g.R.Source.seen c.pass_blocks-passed.new.reader) _ c.pass_blocks-passed.new.work p c.requires.kinds
    (needed-made c.args.order.now c.args.blocks.now r (g.R.Source.seen c.pass_blocks-passed.new.reader) _ c.pass_blocks-passed.new.work p c.new.ensures.items c.from_map.result (subst (IsJoinOf (λ (x y : units.Unit). x) c.pass_blocks-passed.new.work.ids.items) (sym c.from_map.ensures) c.joined.ensures))

pub returns-in-Err-clause-read : goal.returns-in-Err-clause-read
returns-in-Err-clause-read g c =
    stopped-reads members_meaning (λ b bytes stop h. h) quiet-members c.args.order.now c.args.blocks.now c.requires.kinds (g.R.Source.seen c.args.reader.now) (g.R.Source.seen c.pass_blocks-passed.new.reader) _ c.pass_blocks-passed.new.work (λ needed read. AreNeeded c.args.profile.now c.args.ways.now needed read) c.in-Err.e c.stop_of_blocks.result c.stop_of_blocks.ensures (c.in-Err.ensures {u = tt}).answers.told
