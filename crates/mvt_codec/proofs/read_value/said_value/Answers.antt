use Rattle.std.proofs.Common.{◌≡◌, Some, sym, subst, ◌∙◌, arith, rules}
use Rattle.tb_wire.specs.Field.{entry_of}
use Rattle.tb_wire.proofs.Messages.{field_at-end}
use Rattle.mvt_codec.specs.Grammar.{note_value}
use Rattle.mvt_codec.specs.Reading.{IsFault, seen_some}
use Rattle.mvt_codec.proofs.MessageSteps.{said-field, said-fault, said-none, said-end}
use Rattle.mvt_codec.proofs.read_value.said_value.Goals as goal
use Rattle.mvt_codec.proofs.read_value.said_value.Goals.{else-loop-at-test, then-loop-at-test+in-Ok-None}

pub loop-at-preserved : goal.loop-at-preserved
loop-at-preserved c =
    let read = rw c.in-Ok-Some.field-0-is at c.in-Ok-Some.ensures.exact in
    let place = rw c.in-Ok-Some.field-0-is at c.in-Ok-Some.ensures.within in
    let noted : note_value (seen_some c.loop-at.value) (entry_of c.in-Ok-Some.field) ≡ Some (seen_some c.in-Ok.now) = search rules in
    record {
      within = place.1;
      told = sym (said-field note_value (seen_some c.loop-at.value) (seen_some c.in-Ok.now) c.args.bytes.now c.loop-at.at c.in-Ok-Some.field c.loop-at.invariant.within read noted) ∙ c.loop-at.invariant.told;
    }

pub returns-in-Err : goal.returns-in-Err
returns-in-Err c = sym c.loop-at.invariant.told ∙ said-none note_value (seen_some c.loop-at.value) c.args.bytes.now c.loop-at.at c.in-Err.field-0 c.loop-at.invariant.within c.in-Err.ensures.exact

pub returns : goal.returns
returns c =
    let bytes = c.args.bytes.now in
    elim c.loop-at-test.branch [
      | else-loop-at-test w ↦ sym c.loop-at.invariant.told ∙ said-end note_value (seen_some c.loop-at.value) bytes c.loop-at.at c.loop-at.invariant.within (sym (field_at-end bytes c.loop-at.at (omega arith)))
      | then-loop-at-test+in-Ok-None w ↦ sym c.loop-at.invariant.told ∙ said-end note_value (seen_some c.loop-at.value) bytes c.loop-at.at c.loop-at.invariant.within (rw w.in-Ok-None.field-0-is at w.in-Ok-None.ensures.exact)
    ]

pub returns-in-Err-noted : goal.returns-in-Err-noted
returns-in-Err-noted c =
    let read = rw c.in-Ok-Some.field-0-is at c.in-Ok-Some.ensures.exact in
    let stop : IsFault c.in-Err-noted.e (note_value (seen_some c.loop-at.value) (entry_of c.in-Ok-Some.field)) = c.in-Err-noted.ensures in
    subst (IsFault c.in-Err-noted.e) c.loop-at.invariant.told (said-fault note_value (seen_some c.loop-at.value) c.args.bytes.now c.loop-at.at c.in-Ok-Some.field c.in-Err-noted.e c.loop-at.invariant.within read stop)
