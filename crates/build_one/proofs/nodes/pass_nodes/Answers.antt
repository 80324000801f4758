use Rattle.std.proofs.Common.{ap, sym, ◌∙◌}
use Rattle.build_one.proofs.Moved.{nodes-read, nodes-refused}
use Rattle.build_one.proofs.nodes.pass_nodes.Goals as goal

pub returns-in-Ok-clause-read : goal.returns-in-Ok-clause-read
returns-in-Ok-clause-read g c =
    let p = (c.in-Ok.ensures {u = tt}).answers.told in
    let same = p.did.same in
    nodes-read g.S.Spill.seen c.args.order.now c.args.blocks.now c.requires.kinds (g.R.Source.seen c.args.reader.now) _ _ c.pass_blocks.new.work p _ _ _ (c.spill-1.given.1 (sym same.spill) ∙ c.drop-work.ensures.spill)
    (c.buffer-1.given.1 (sym same.buffer) ∙ c.drop-work.ensures.buffer) (ap (λ es. es.items) (c.entries-1.given.1 (sym same.entries) ∙ c.drop-work.ensures.entries))

pub returns-clause-read : goal.returns-clause-read
returns-clause-read g c = nodes-refused g.S.Spill.seen c.args.order.now c.args.blocks.now c.requires.kinds (g.R.Source.seen c.args.reader.now) (g.R.Source.seen c.pass_blocks.new.reader) _ c.pass_blocks.new.work c.in-Err.e c.stop_of_blocks.result c.stop_of_blocks.ensures (c.in-Err.ensures {u = tt}).answers.told c.spill-2-1.given.0 c.buffer-2-1.given.0 c.entries-2-1.given.0.items
