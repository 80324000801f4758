use Rattle.std.proofs.Common.{◌≡◌, ◌+◌, List, length, take, get_or, Ok, Err, sym, ap, subst, ◌∙◌, arith, rules}
use Rattle.std.proofs.lemmas.List.{take_all}
use Rattle.tb_outside.specs.Spill.{AppendAnswers}
use Rattle.feature_runs.specs.declared.slot.Slot.{Slot}
use Rattle.feature_runs.specs.Entry.{bytes_of}
use Rattle.feature_runs.specs.Index.{entries_in, slot_entry}
use Rattle.feature_runs.proofs.Appended.{Written, written_more, written_some, written_whole, bytes-more}
use Rattle.feature_runs.proofs.run_writer.append_all.Goals as goal

abbrev no_slot : Slot
no_slot = record { prefix = 0; suffix = 0; at = 0; len = 0 }

pub loop-slot-preserved : goal.loop-slot-preserved
loop-slot-preserved g c =
    let seen = g.S.Spill.seen in
    let arena = c.args.arena.now in
    let index = c.args.index.now in
    let i = c.loop-slot.slot-index in
    let more = bytes-more arena index i no_slot c.loop-slot-test.true in
    let next = written_more (seen c.args.spill.now) (seen c.loop-slot.spill) (seen c.put_slot.new.spill) c.loop-slot.block.items c.put_slot.new.block.items (bytes_of (entries_in arena (take i index))) (slot_entry arena (get_or index i no_slot)).text tt c.loop-slot.invariant (c.in-Ok.ensures {u = tt}) in
    subst (λ (b : List _). Written (seen c.args.spill.now) (seen c.put_slot.new.spill) c.put_slot.new.block.items b) (sym more) next

pub returns-in-Err : goal.returns-in-Err
returns-in-Err g c =
    let seen = g.S.Spill.seen in
    let arena = c.args.arena.now in
    let index = c.args.index.now in
    let i = c.loop-slot.slot-index in
    written_some (seen c.args.spill.now) (seen c.loop-slot.spill) (seen c.put_slot.new.spill) c.loop-slot.block.items c.put_slot.new.block.items (bytes_of (entries_in arena (take i index))) (slot_entry arena (get_or index i no_slot)).text (bytes_of (entries_in arena index)) c.in-Err.e c.loop-slot.invariant (c.in-Err.ensures {u = tt})

pub returns : goal.returns
returns g c =
    let seen = g.S.Spill.seen in
    let arena = c.args.arena.now in
    let whole = take_all c.loop-slot.slot-index c.args.index.now c.loop-slot-test.false in
    let so_far = subst (λ (xs : List Slot). Written (seen c.args.spill.now) (seen c.loop-slot.spill) c.loop-slot.block.items (bytes_of (entries_in arena xs))) whole c.loop-slot.invariant in
    let last = subst (λ (p : List _). AppendAnswers (seen c.loop-slot.spill) (seen c.append.new.self) p c.append.result) c.deref.ensures.value c.append.ensures in
    written_whole c.append.result so_far last
