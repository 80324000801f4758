use Rattle.std.proofs.Common.{Option, Ok, sym, subst, arith}
use Rattle.mvt_codec.specs.declared.item.Group.{Group}
use Rattle.run_merge.specs.Answers.{IfNext}
use Rattle.run_merge.specs.Cursors.{AreTold, cursors_of}
use Rattle.run_merge.specs.Objects.{objects_of}
use Rattle.build_one.proofs.Tiling.{walk-start, walk-end, walk-refused, walk-next, walk-tile-refused, from-zero, some-bytes}
use Rattle.build_one.proofs.tiles.put_tiles.Goals as goal

pub tiles-init : goal.tiles-init
tiles-init g c =
    walk-start c.args.names.now c.args.part c.args.merge.now c.args.writer.now (objects_of g.S.Spill.seen c.args.lanes.now c.args.spool.now) c.requires.there c.requires.told
    (from-zero _ (cursors_of c.args.merge.now.readers) c.requires.first) c.requires.stand

pub next_group-requires-clause-told : goal.next_group-requires-clause-told
next_group-requires-clause-told g c =
    subst (λ l. AreTold (objects_of g.S.Spill.seen c.tiles.lanes c.tiles.spool) l c.tiles.merge.readers) (sym c.tiles.invariant.layers) c.tiles.invariant.told

pub put_tile-requires-clause-next : goal.put_tile-requires-clause-next
put_tile-requires-clause-next g c =
    let now = objects_of g.S.Spill.seen c.tiles.lanes c.tiles.spool in
    let n = objects_of g.S.Spill.seen c.next_group.new.lanes c.next_group.new.spool in
    let answer = subst (λ (o : Option Group). IfNext now n c.args.part c.tiles.merge c.next_group.new.self (Ok o)) c.in-Ok-Some.field-0-is c.in-Ok-Some.ensures.answer in
    answer.1.from _ c.tiles.invariant.next

pub tiles-smaller : goal.tiles-smaller
tiles-smaller g c =
    let now = objects_of g.S.Spill.seen c.tiles.lanes c.tiles.spool in
    let n = objects_of g.S.Spill.seen c.next_group.new.lanes c.next_group.new.spool in
    let answer = subst (λ (o : Option Group). IfNext now n c.args.part c.tiles.merge c.next_group.new.self (Ok o)) c.in-Ok-Some.field-0-is c.in-Ok-Some.ensures.answer in
    let some = some-bytes c.in-Ok-Some.group.items answer.1.is.some in
    let bytes = answer.1.bytes in
    omega (arith, some, bytes)

pub tiles-preserved : goal.tiles-preserved
tiles-preserved g c =
    let now = objects_of g.S.Spill.seen c.tiles.lanes c.tiles.spool in
    let n = objects_of g.S.Spill.seen c.next_group.new.lanes c.next_group.new.spool in
    let answer = subst (λ (o : Option Group). IfNext now n c.args.part c.tiles.merge c.next_group.new.self (Ok o)) c.in-Ok-Some.field-0-is c.in-Ok-Some.ensures.answer in
    walk-next c.args.names.now c.args.part c.args.merge.now c.args.writer.now (objects_of g.S.Spill.seen c.args.lanes.now c.args.spool.now) c.tiles.merge c.tiles.writer now c.tiles.invariant n c.next_group.new.self c.in-Ok-Some.group answer.0 answer.1
    c.put_tile.new.writer (g.S.Spill.seen c.put_tile.new.spool) (c.in-Ok.ensures {u = tt}).written (c.in-Ok.ensures {u = tt}).decoded

pub returns-in-Err-put_tile : goal.returns-in-Err-put_tile
returns-in-Err-put_tile g c =
    let now = objects_of g.S.Spill.seen c.tiles.lanes c.tiles.spool in
    let n = objects_of g.S.Spill.seen c.next_group.new.lanes c.next_group.new.spool in
    let answer = subst (λ (o : Option Group). IfNext now n c.args.part c.tiles.merge c.next_group.new.self (Ok o)) c.in-Ok-Some.field-0-is c.in-Ok-Some.ensures.answer in
    walk-tile-refused c.args.names.now c.args.part c.args.merge.now c.args.writer.now (objects_of g.S.Spill.seen c.args.lanes.now c.args.spool.now) c.tiles.merge c.tiles.writer now c.tiles.invariant n c.next_group.new.self c.in-Ok-Some.group answer.0 answer.1
    c.put_tile.new.writer (g.S.Spill.seen c.put_tile.new.spool) c.in-Err-put_tile.e (c.in-Err-put_tile.ensures {u = tt}).written

pub returns-in-Ok-None : goal.returns-in-Ok-None
returns-in-Ok-None g c =
    let now = objects_of g.S.Spill.seen c.tiles.lanes c.tiles.spool in
    let n = objects_of g.S.Spill.seen c.next_group.new.lanes c.next_group.new.spool in
    let answer = subst (λ (o : Option Group). IfNext now n c.args.part c.tiles.merge c.next_group.new.self (Ok o)) c.in-Ok-None.field-0-is c.in-Ok-None.ensures.answer in
    walk-end c.args.names.now c.args.part c.args.merge.now c.args.writer.now (objects_of g.S.Spill.seen c.args.lanes.now c.args.spool.now) c.tiles.merge c.tiles.writer now c.tiles.invariant n c.next_group.new.self tt answer.0 answer.1

pub returns-in-Err : goal.returns-in-Err
returns-in-Err g c =
    let now = objects_of g.S.Spill.seen c.tiles.lanes c.tiles.spool in
    let n = objects_of g.S.Spill.seen c.next_group.new.lanes c.next_group.new.spool in
    walk-refused c.args.names.now c.args.part c.args.merge.now c.args.writer.now (objects_of g.S.Spill.seen c.args.lanes.now c.args.spool.now) c.tiles.merge c.tiles.writer now c.tiles.invariant n c.next_group.new.self c.in-Err.e
    c.in-Err.ensures.keeps c.in-Err.ensures.answer
