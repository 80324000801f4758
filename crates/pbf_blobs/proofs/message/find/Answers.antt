use Rattle.std.proofs.Common.{sym, ◌∙◌, arith}
use Rattle.tb_wire.proofs.Messages.{field_at-end}
use Rattle.pbf_blobs.specs.Messages.{seen}
use Rattle.pbf_blobs.proofs.Folds.{found-field, found-none, found-end}
use Rattle.pbf_blobs.proofs.message.find.Goals as goal
use Rattle.pbf_blobs.proofs.message.find.Goals.{else-loop-at-test, then-loop-at-test+in-Ok-None}

pub loop-at-preserved : goal.loop-at-preserved
loop-at-preserved c =
    let read = rw c.in-Ok-Some.field-0-is at c.in-Ok-Some.ensures.exact in
    let place = rw c.in-Ok-Some.field-0-is at c.in-Ok-Some.ensures.within in
    record {
      within = place.1;
      told = rw c.with_field-found.ensures (sym (found-field c.args.message (seen c.loop-at.found) c.args.bytes.now c.loop-at.at c.in-Ok-Some.field c.loop-at.invariant.within read) ∙ c.loop-at.invariant.told);
    }

pub returns-in-Err : goal.returns-in-Err
returns-in-Err c = sym (found-none c.args.message (seen c.loop-at.found) c.args.bytes.now c.loop-at.at c.in-Err.e c.loop-at.invariant.within c.in-Err.ensures.exact) ∙ c.loop-at.invariant.told

pub returns : goal.returns
returns c =
    let bytes = c.args.bytes.now in
    elim c.loop-at-test.branch [
      | else-loop-at-test w ↦ sym (found-end c.args.message (seen c.loop-at.found) bytes c.loop-at.at c.loop-at.invariant.within (sym (field_at-end bytes c.loop-at.at (omega arith)))) ∙ c.loop-at.invariant.told
      | then-loop-at-test+in-Ok-None w ↦ sym (found-end c.args.message (seen c.loop-at.found) bytes c.loop-at.at c.loop-at.invariant.within (rw w.in-Ok-None.field-0-is at w.in-Ok-None.ensures.exact)) ∙ c.loop-at.invariant.told
    ]
