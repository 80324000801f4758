use Rattle.std.proofs.Common.{Ok, ap, subst, length, ◌∙◌, arith}
use Rattle.build_one.proofs.Adding.{tile-added}
use Rattle.mvt_codec.specs.Groups.{IsReadAgain}
use Rattle.build_one.proofs.Texts.{some-group, short-group, in-layers, items-are, items-fit, writable-group}
use Rattle.build_one.proofs.tiles.put_tile.Goals as goal

pub encode_items-requires-clause-layers : goal.encode_items-requires-clause-layers
encode_items-requires-clause-layers g c = in-layers c.args.names.now c.args.group.items c.requires.group.each

pub encode_items-requires-clause-writable : goal.encode_items-requires-clause-writable
encode_items-requires-clause-writable g c = writable-group c.args.names.now c.args.group.items c.requires.group.each

pub add-requires-clause-some : goal.add-requires-clause-some
add-requires-clause-some g c =
    let some = some-group c.args.names.now c.args.group.items c.requires.group.some c.requires.group.each in
    let size = ap length (c.in-Ok.ensures {u = tt}).text in
    omega (arith, some, size)

pub add-requires-clause-short : goal.add-requires-clause-short
add-requires-clause-short g c =
    let short = short-group c.args.names.now c.args.part c.args.group.bytes c.args.group.items c.requires.names c.requires.part c.requires.group.each c.requires.group.bytes c.requires.fits in
    let size = ap length (c.in-Ok.ensures {u = tt}).text in
    omega (arith, short, size)

pub returns-in-Ok-add-clause-written : goal.returns-in-Ok-add-clause-written
returns-in-Ok-add-clause-written g c =
    tile-added c.args.names.now c.args.group.tile.0 c.args.group.items c.args.writer.now c.add.new.self c.deref.result.now (g.S.Spill.seen c.args.spool.now) (g.S.Spill.seen c.add.new.spool) (Ok tt)
    (c.deref.ensures.value ∙ (c.in-Ok.ensures {u = tt}).text) (c.in-Ok-add.ensures {u = tt})

pub returns-in-Ok-add-clause-decoded : goal.returns-in-Ok-add-clause-decoded
returns-in-Ok-add-clause-decoded g c =
    let tile = c.in-Ok.ensures {u = tt} in
    let each = c.requires.group.each in
    subst (IsReadAgain c.args.names.now c.args.group.items) tile.text
    (tile.again c.requires.differ (items-are c.args.names.now c.args.group.items each) (items-fit c.args.names.now c.args.group.items each))
