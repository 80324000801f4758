use Rattle.std.proofs.Common.{All, List, refl, sym, subst, ◌∙◌}
use Rattle.pbf_blobs.specs.declared.block.BlockAt.{BlockAt}
use Rattle.block_pass.specs.Loading.{FitsIn}
use Rattle.build_one.proofs.Surveying.{read-fits, survey-damage, survey-found, survey-of}
use Rattle.build_one.proofs.survey.survey.Goals as goal

pub pass_blocks-passed-requires-clause-within : goal.pass_blocks-passed-requires-clause-within
pass_blocks-passed-requires-clause-within g c =
    subst (λ (bs : List BlockAt). All (FitsIn (g.R.Source.seen c.args.reader.now).bytes) bs) (sym (c.deref-2.ensures.value ∙ c.in_ok-read.ensures)) (read-fits (g.R.Source.seen c.args.reader.now).bytes c.args.blocks.now c.requires.within)

pub returns-in-Some-clause-told : goal.returns-in-Some-clause-told
returns-in-Some-clause-told g c =
    survey-damage c.args.profile.now c.args.order.now c.args.blocks.now c.requires.numbered (g.R.Source.seen c.args.reader.now) (g.R.Source.seen c.pass_blocks-passed.new.reader) c.deref-2.result.now (c.deref-2.ensures.value ∙ c.in_ok-read.ensures) _ c.pass_blocks-passed.new.work
    (c.in-Ok.ensures {u = tt}).answers.told refl (c.new.ensures.none c.args.profile.now) c.arrange.new.self c.arrange.ensures.order c.in-Some.damage c.in-Some.is

pub returns-clause-told : goal.returns-clause-told
returns-clause-told g c =
    survey-found c.args.profile.now c.args.order.now c.args.blocks.now c.requires.numbered (g.R.Source.seen c.args.reader.now) (g.R.Source.seen c.pass_blocks-passed.new.reader) c.deref-2.result.now (c.deref-2.ensures.value ∙ c.in_ok-read.ensures) _ c.pass_blocks-passed.new.work
    (c.in-Ok.ensures {u = tt}).answers.told refl (c.new.ensures.none c.args.profile.now) c.arrange.new.self c.arrange.ensures.order c.in-None.is c.requires.within

pub returns-clause-ready : goal.returns-clause-ready
returns-clause-ready g c =
    let p = (c.in-Ok.ensures {u = tt}).answers.told in
    c.arrange.ensures.ready c.args.profile.now (p.did.ready (c.new.ensures.ready c.args.profile.now))

pub returns-clause-of : goal.returns-clause-of
returns-clause-of g c =
    survey-of c.args.profile.now c.args.order.now c.args.blocks.now c.requires.numbered (g.R.Source.seen c.args.reader.now) (g.R.Source.seen c.pass_blocks-passed.new.reader) c.deref-2.result.now (c.deref-2.ensures.value ∙ c.in_ok-read.ensures) _ c.pass_blocks-passed.new.work
    (c.in-Ok.ensures {u = tt}).answers.told refl (c.new.ensures.none c.args.profile.now) c.arrange.new.self c.arrange.ensures.order
