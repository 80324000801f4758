use Rattle.std.proofs.Common.{◌≡◌, Some, sym, subst, ◌∙◌, arith, rules}
use Rattle.tb_wire.specs.Field.{entry_of}
use Rattle.tb_wire.proofs.Messages.{field_at-end}
use Rattle.mvt_codec.specs.Grammar.{note_feature}
use Rattle.mvt_codec.specs.Reading.{IsFault, seen_feature}
use Rattle.mvt_codec.proofs.MessageSteps.{said-field, said-fault, said-none, said-end}
use Rattle.mvt_codec.proofs.read_feature.feature_in.Goals as goal

pub loop-at-preserved : goal.loop-at-preserved
loop-at-preserved c =
    let read = rw c.in-Ok-Some.field-0-is at c.in-Ok-Some.ensures.exact in
    let place = rw c.in-Ok-Some.field-0-is at c.in-Ok-Some.ensures.within in
    let noted : note_feature (seen_feature c.loop-at.feature c.loop-at.numbers) (entry_of c.in-Ok-Some.field) ≡ Some (seen_feature c.note.new.feature c.note.new.numbers) = search rules in
    record {
      within = place.1;
      told = sym (said-field note_feature (seen_feature c.loop-at.feature c.loop-at.numbers) (seen_feature c.note.new.feature c.note.new.numbers) c.args.bytes.now c.loop-at.at c.in-Ok-Some.field c.loop-at.invariant.within read noted) ∙ c.loop-at.invariant.told;
    }

pub returns-in-Err : goal.returns-in-Err
returns-in-Err c = sym c.loop-at.invariant.told ∙ said-none note_feature (seen_feature c.loop-at.feature c.loop-at.numbers) c.args.bytes.now c.loop-at.at c.in-Err.field-0 c.loop-at.invariant.within c.in-Err.ensures.exact

pub returns-after-loop-at : goal.returns-after-loop-at
returns-after-loop-at c =
    let bytes = c.args.bytes.now in
    sym c.loop-at.invariant.told ∙ said-end note_feature (seen_feature c.loop-at.feature c.loop-at.numbers) bytes c.loop-at.at c.loop-at.invariant.within (sym (field_at-end bytes c.loop-at.at (omega arith)))

pub returns-in-Ok-None : goal.returns-in-Ok-None
returns-in-Ok-None c =
    sym c.loop-at.invariant.told
    ∙ said-end note_feature (seen_feature c.loop-at.feature c.loop-at.numbers) c.args.bytes.now c.loop-at.at c.loop-at.invariant.within (rw c.in-Ok-None.field-0-is at c.in-Ok-None.ensures.exact)

pub returns-in-Err-note : goal.returns-in-Err-note
returns-in-Err-note c =
    let read = rw c.in-Ok-Some.field-0-is at c.in-Ok-Some.ensures.exact in
    let stop : IsFault c.in-Err-note.e (note_feature (seen_feature c.loop-at.feature c.loop-at.numbers) (entry_of c.in-Ok-Some.field)) = c.in-Err-note.ensures in
    subst (IsFault c.in-Err-note.e) c.loop-at.invariant.told (said-fault note_feature (seen_feature c.loop-at.feature c.loop-at.numbers) c.args.bytes.now c.loop-at.at c.in-Ok-Some.field c.in-Err-note.e c.loop-at.invariant.within read stop)
