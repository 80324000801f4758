-- What the steps did is what the pass answers.
use Rattle.std.proofs.Common.{ℕ, ◌<◌, Result, Ok, Err, List, length, refl, ap, subst, ◌∙◌}
use Rattle.std.specs.Prelude.{⊤}
use Rattle.pass_order.specs.declared.error.OrderErr.{OrderErr}
use Rattle.block_pass.specs.declared.error.PassErr.{PassErr}
use Rattle.block_pass.specs.Passes.{PassAnswers}
use Rattle.block_pass.proofs.Passing.{answer_of, finished, none-done, all-ready}
use Rattle.block_pass.proofs.pass.pass_blocks.Goals as goal

pub returns-in-Err-clause-answers : goal.returns-in-Err-clause-answers
returns-in-Err-clause-answers g c = none-done g.W.Work.meaning g.met.W.Work.begins c.args.order.now c.args.blocks.now (g.R.Source.seen c.args.reader.now) c.args.work.now

pub drive-requires-clause-ready : goal.drive-requires-clause-ready
drive-requires-clause-ready g c =
    λ unit less. all-ready g.R.Source.seen g.W.Work.meaning c.args.blocks.now _ refl c.requires.within unit (subst (λ (needs : List ℕ). unit < length needs) (c.deref.ensures.value ∙ c.in-Ok.ensures {u = tt}) less)

pub returns-in-Ok-drive-clause-answers : goal.returns-in-Ok-drive-clause-answers
returns-in-Ok-drive-clause-answers g c =
    finished g.R.Source.seen g.W.Work.meaning g.met.W.Work.begins g.met.W.Work.stops_after c.args.order.now c.args.blocks.now c.requires.may c.deref.result.now (c.deref.ensures.value ∙ c.in-Ok.ensures {u = tt})
    _ c.drive.new.steps refl (Ok tt) (c.in-Ok-drive.ensures {u = tt}).drives _ _ c.reader-1.given.1 c.drop-steps.ensures.reader _ _ c.work-1.given.1 c.drop-steps.ensures.work

pub returns-in-Err-Failed-clause-answers : goal.returns-in-Err-Failed-clause-answers
returns-in-Err-Failed-clause-answers g c =
    let m = g.W.Work.meaning in
    let seen = g.R.Source.seen in
    subst (λ (e : Result ⊤ (OrderErr (PassErr g.row.W-Fault.Denot))). PassAnswers m c.args.order.now c.args.blocks.now (seen c.args.reader.now) (seen c.reader-in-Err-Failed-1.given.0) c.args.work.now c.work-in-Err-Failed-1.given.0 (answer_of e)) (c.in-Err-Failed.is ∙ ap Err c.in-Err-Failed.field-0-is)
    (finished seen m g.met.W.Work.begins g.met.W.Work.stops_after c.args.order.now c.args.blocks.now c.requires.may c.deref.result.now (c.deref.ensures.value ∙ c.in-Ok.ensures {u = tt})
    _ c.drive.new.steps refl c.drive.result c.drive.ensures.drives _ _ c.reader-in-Err-Failed-1.given.1 c.drop-steps-in-Err-Failed.ensures.reader _ _ c.work-in-Err-Failed-1.given.1 c.drop-steps-in-Err-Failed.ensures.work)

pub returns-clause-answers : goal.returns-clause-answers
returns-clause-answers g c =
    let m = g.W.Work.meaning in
    let seen = g.R.Source.seen in
    subst (λ (e : Result ⊤ (OrderErr (PassErr g.row.W-Fault.Denot))). PassAnswers m c.args.order.now c.args.blocks.now (seen c.args.reader.now) (seen c.reader-2-1.given.0) c.args.work.now c.work-2-1.given.0 (answer_of e)) (c.in-Err-Memory.is ∙ ap Err c.in-Err-Memory.field-0-is)
    (finished seen m g.met.W.Work.begins g.met.W.Work.stops_after c.args.order.now c.args.blocks.now c.requires.may c.deref.result.now (c.deref.ensures.value ∙ c.in-Ok.ensures {u = tt})
    _ c.drive.new.steps refl c.drive.result c.drive.ensures.drives _ _ c.reader-2-1.given.1 c.drop-steps-2.ensures.reader _ _ c.work-2-1.given.1 c.drop-steps-2.ensures.work)
