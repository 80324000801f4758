use Rattle.std.proofs.Common.{rules, ◌<◌, ◌^◌, length}
use Rattle.profile_rules.specs.Fields.{layers_of}
use Rattle.pass_shapes.proofs.Emitting.{emits-memory, emits-one, is-item}
use Rattle.pass_shapes.proofs.emit.emit_item.Goals as goal

pub row_len-requires : goal.row_len-requires
row_len-requires g c = c.requires.item.attributes

pub add-requires : goal.add-requires
add-requires g c =
    let low : c.row_len.result < 2 ^ 32 = search rules in
    is-item (length (layers_of c.args.profile.now)) c.args.item c.row_len.result c.requires.few c.requires.item c.row_len.ensures low

pub returns : goal.returns
returns g c =
    let seen = g.S.Spill.seen in
    let low : c.row_len.result < 2 ^ 32 = search rules in
    let whole = is-item (length (layers_of c.args.profile.now)) c.args.item c.row_len.result c.requires.few c.requires.item c.row_len.ensures low in
    emits-one c.args.profile.now c.args.item (seen c.args.spill.now) (seen c.add.new.spill) c.args.buffer.now c.add.new.self c.add.result c.requires.item whole c.add.ensures.added c.add.ensures.told c.add.ensures.since c.add.ensures.frames

pub returns-then-row_len-ge-ROW_LIMIT : goal.returns-then-row_len-ge-ROW_LIMIT
returns-then-row_len-ge-ROW_LIMIT g c = emits-memory c.args.profile.now _ (g.S.Spill.seen c.args.spill.now) c.args.buffer.now c.args.buffer.now
