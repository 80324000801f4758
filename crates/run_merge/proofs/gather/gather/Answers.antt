use Rattle.std.proofs.Common.{◌≡◌, ◌<◌, [], refl, sym, subst, ◌∙◌, arith, rules}
use Rattle.tb_types.specs.Needs.{group_need}
use Rattle.run_merge.specs.Objects.{Objects, objects_of}
use Rattle.run_merge.specs.Cursors.{AreThere, AreTold, cursors_of}
use Rattle.run_merge.specs.Steps.{Takes}
use Rattle.run_merge.specs.Answers.{IsTooLarge}
use Rattle.run_merge.proofs.Gathering.{next_sound, one_taken, first_taken, fewer_bytes}
use Rattle.run_merge.proofs.Ends.{there_same, at_end, gives, put_back_is, too_large}
use Rattle.run_merge.proofs.gather.gather.Goals as goal

pub returns-in_default-clause-answer : goal.returns-in_default-clause-answer
returns-in_default-clause-answer g c =
    let seen = g.S.Spill.seen in
    (refl, at_end (objects_of seen c.args.lanes.now c.args.spool.now) c.args.layers c.args.readers.now c.requires.sound c.requires.there c.requires.told c.in_default.ensures)

pub loop-number-init : goal.loop-number-init
loop-number-init g c =
    let seen = g.S.Spill.seen in
    let o = objects_of seen c.args.lanes.now c.args.spool.now in
    let none : c.new.result ≡ [] = search rules in
    record {
      objects = c.in-Ok-take.ensures.reads;
      winners = c.in-Ok-take.ensures.winners;
      so_far = first_taken o c.args.layers c.args.part c.tile_of-tile.result c.in-Some.number c.in-Some.head c.args.readers.now c.take.new.readers _ c.take.new.gathered c.requires.sound c.requires.told c.in-Some.ensures c.tile_of-tile.ensures refl refl refl none c.in-Ok-take.ensures.takes c.take.ensures.sound;
    }

pub take-requires-in-Some-least_of-clause-there : goal.take-requires-in-Some-least_of-clause-there
take-requires-in-Some-least_of-clause-there g c =
    let seen = g.S.Spill.seen in
    let o = objects_of seen c.args.lanes.now c.args.spool.now in
    let inv = c.loop-number.invariant in
    subst (λ (ob : Objects g.row.R.Denot). AreThere ob c.loop-number.readers) (sym inv.objects) (there_same o c.args.readers.now c.loop-number.readers inv.so_far.runs c.requires.there)

pub take-requires-in-Some-least_of-clause-told : goal.take-requires-in-Some-least_of-clause-told
take-requires-in-Some-least_of-clause-told g c =
    let inv = c.loop-number.invariant in
    subst (λ (ob : Objects g.row.R.Denot). AreTold ob c.args.layers c.loop-number.readers) (sym inv.objects) inv.so_far.told_are

pub loop-number-smaller : goal.loop-number-smaller
loop-number-smaller g c =
    let inv = c.loop-number.invariant in
    fewer_bytes (cursors_of c.loop-number.readers) (cursors_of c.take-in-Some-least_of.new.readers) c.in-Some-least_of.number c.in-Some-least_of.head c.in-Some-least_of.ensures.0 (next_sound c.loop-number.readers inv.so_far.sound) c.in-Ok-take-2.ensures.takes.bytes

pub loop-number-preserved : goal.loop-number-preserved
loop-number-preserved g c =
    let seen = g.S.Spill.seen in
    let o = objects_of seen c.args.lanes.now c.args.spool.now in
    let inv = c.loop-number.invariant in
    let now = c.loop-number.readers in
    let after = c.take-in-Some-least_of.new.readers in
    let head = c.in-Some-least_of.head in
    let takes = subst (λ (ob : Objects g.row.R.Denot). Takes ob c.args.layers head now after c.loop-number.gathered c.take-in-Some-least_of.new.gathered) inv.objects c.in-Ok-take-2.ensures.takes in
    record {
      objects = c.in-Ok-take-2.ensures.reads ∙ inv.objects;
      winners = c.in-Ok-take-2.ensures.winners;
      so_far = one_taken 1 o c.args.layers c.args.part c.tile_of-tile.result c.in-Some-least_of.number head c.args.readers.now now after c.loop-number.gathered c.take-in-Some-least_of.new.gathered inv.so_far c.in-Some-least_of.ensures.0 c.in-Some-least_of.ensures.1 takes c.take-in-Some-least_of.ensures.sound;
    }

pub returns-then-need-part-clause-answer : goal.returns-then-need-part-clause-answer
returns-then-need-part-clause-answer g c =
    let seen = g.S.Spill.seen in
    let o = objects_of seen c.args.lanes.now c.args.spool.now in
    let inv = c.loop-number.invariant in
    let before = c.args.readers.now in
    let now = c.loop-number.readers in
    let after = c.put_back.new.readers in
    let same : cursors_of after ≡ cursors_of before = c.put_back.ensures.cursors ∙ c.deref.ensures.value ∙ c.in-Ok-places_of.ensures in
    let back = put_back_is o c.args.layers before now after same c.put_back.ensures.windows inv.so_far.runs c.requires.sound c.requires.told inv.so_far.sound inv.so_far.told_are in
    let need : c.group_need-need.result ≡ group_need c.loop-number.gathered.bytes = c.group_need-need.ensures in
    let above : c.args.part < group_need c.loop-number.gathered.bytes = omega (arith, c.if-need-part.true, need) in (
      inv.objects,
      subst (IsTooLarge o c.args.part (record { layers = c.args.layers; readers = before }) (record { layers = c.args.layers; readers = after })) (sym need)
          (too_large o c.args.layers c.args.part c.tile_of-tile.result before now after c.loop-number.gathered inv.so_far c.in_default-least_of.ensures c.requires.there above same back.1),
    )

pub returns-then-need-part-clause-sound : goal.returns-then-need-part-clause-sound
returns-then-need-part-clause-sound g c =
    let seen = g.S.Spill.seen in
    let o = objects_of seen c.args.lanes.now c.args.spool.now in
    let inv = c.loop-number.invariant in
    let before = c.args.readers.now in
    let now = c.loop-number.readers in
    let after = c.put_back.new.readers in
    let same : cursors_of after ≡ cursors_of before = c.put_back.ensures.cursors ∙ c.deref.ensures.value ∙ c.in-Ok-places_of.ensures in
    (put_back_is o c.args.layers before now after same c.put_back.ensures.windows inv.so_far.runs c.requires.sound c.requires.told inv.so_far.sound inv.so_far.told_are).0

pub returns-clause-answer : goal.returns-clause-answer
returns-clause-answer g c =
    let seen = g.S.Spill.seen in
    let o = objects_of seen c.args.lanes.now c.args.spool.now in
    let inv = c.loop-number.invariant in
    let need : c.group_need-need.result ≡ group_need c.loop-number.gathered.bytes = c.group_need-need.ensures in
    (inv.objects, gives o c.args.layers c.args.part c.tile_of-tile.result c.in-Some.number c.in-Some.head c.args.readers.now c.loop-number.readers c.loop-number.gathered inv.so_far c.in-Some.ensures (sym c.tile_of-tile.ensures) c.in_default-least_of.ensures c.requires.there (omega (arith, c.if-need-part.false, need)))
