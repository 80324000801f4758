use Rattle.std.proofs.Common.{ℕ, Option, IfSome, Ok, Err, List, sym, subst, ◌∙◌, arith}
use Rattle.tb_types.specs.Counts.{Counted}
use Rattle.tb_types.specs.Needs.{batch_part}
use Rattle.tile_model.specs.declared.stop.Stop.{Stop}
use Rattle.tile_model.specs.Contents.{contents_at}
use Rattle.pass_survey.specs.declared.found.Found.{Found}
use Rattle.build_one.specs.Answers.{BuildAnswers}
use Rattle.build_one.specs.Extracts.{at_lane}
use Rattle.pass_order.specs.declared.order.Order.{Order}
use Rattle.tile_model.specs.Loads.{Logs}
use Rattle.build_one.specs.Made.{GatherAnswers, loads_behind}
use Rattle.build_one.specs.Survey.{Surveys, survey_failed}
use Rattle.build_one.proofs.Building.{framed, gather-from}
use Rattle.build_one.proofs.LoadCounts.{loads-due}
use Rattle.build_one.proofs.Builds.{scan-refused, survey-refused, gather-stops}
use Rattle.build_one.proofs.ItemsDue.{ready-box}
use Rattle.pbf_blobs.specs.Answers.{IsNumbered}
use Rattle.build_one.proofs.Surveying.{survey-may, found-goes-on}
use Rattle.build_one.proofs.extract.read_extract.Goals as goal

pub returns-in-Err : goal.returns-in-Err
returns-in-Err g c = λ from p p' o k q.
    let r0 = g.R.Source.seen c.args.reader.now in
    let s0 = g.S.Spill.seen c.args.spill.now in
    let a = c.in-Err.ensures {u = tt} in
    let r1 = g.R.Source.seen c.scan.new.source in
    subst (λ (stop : Stop). BuildAnswers from c.args.budget 1 (at_lane p r0 s0 o k) (at_lane p' r1 s0 o k) (Err stop)) (sym c.stop_of_survey.ensures)
    (scan-refused from c.args.budget p p' r0 s0 o k c.args.profile.now q r1 a.bytes c.in-Err.e a)

pub returns-in-Err-survey : goal.returns-in-Err-survey
returns-in-Err-survey g c = λ from p p' o k q.
    let parts = c.args.profile.now in
    let r0 = g.R.Source.seen c.args.reader.now in
    let s0 = g.S.Spill.seen c.args.spill.now in
    let scan = c.in-Ok.ensures {u = tt} in
    let blocks = c.as_slice-blocks.result.now in
    let f = framed (batch_part c.args.budget) c.largest_block-need.result r0.bytes blocks c.in-Ok.index.blocks scan.told c.as_slice-blocks.ensures c.largest_block-need.ensures (let no = c.if-need-part.false in let part = c.batch_part-part.ensures in omega (arith, no, part)) in
    let r2 = g.R.Source.seen c.survey.new.reader in
    let survey = c.in-Err-survey.ensures in
    let e = c.in-Err-survey.e in
    subst (λ (stop : Stop). BuildAnswers from c.args.budget 1 (at_lane p r0 s0 o k) (at_lane p' r2 s0 o k) (Err stop)) (sym c.stop_of_survey-in-Err-survey.ensures)
    (survey-refused from c.args.budget p p' r0 s0 o k parts q r2 (survey.bytes ∙ scan.bytes) blocks f e
    (subst (λ n. Counted (survey_failed {A = Found} (Err e)) n r2.faults) scan.counts survey.counts)
    (subst (λ (told : Option (List ℕ)). IfSome told (λ extract. Surveys parts extract blocks (Err e) (contents_at extract blocks))) scan.bytes survey.told))

pub returns : goal.returns
returns g c = λ from p p' o k q.
    let parts = c.args.profile.now in
    let r0 = g.R.Source.seen c.args.reader.now in
    let s0 = g.S.Spill.seen c.args.spill.now in
    let scan = c.in-Ok.ensures {u = tt} in
    let blocks = c.as_slice-blocks.result.now in
    let f = framed (batch_part c.args.budget) c.largest_block-need.result r0.bytes blocks c.in-Ok.index.blocks scan.told c.as_slice-blocks.ensures c.largest_block-need.ensures (let no = c.if-need-part.false in let part = c.batch_part-part.ensures in omega (arith, no, part)) in
    let r2 = g.R.Source.seen c.survey.new.reader in
    let survey = c.in-Ok-survey.ensures in
    let found = c.in-Ok-survey.found in
    let surveys = subst (λ (told : Option (List ℕ)). IfSome told (λ extract. Surveys parts extract blocks (Ok found) (contents_at extract blocks))) scan.bytes survey.told in
    let r3 = g.R.Source.seen c.gather.new.reader in
    let s1 = g.S.Spill.seen c.gather.new.spill in
    let stop = c.in-Err-gather.stop in
    let a = subst (λ part. GatherAnswers parts part c.run_limit-limit.result found r0 r3 s0 s1 (Err stop)) c.batch_part-part.ensures
    (gather-from parts c.batch_part-part.result c.run_limit-limit.result found r0 r2 r3 s0 s1 (Err stop) (survey.bytes ∙ scan.bytes) (survey.counts ∙ scan.counts) (c.in-Err-gather.ensures {u = tt}).answers) in
    gather-stops from c.args.budget p p' r0 s0 o k parts q r3 a.bytes blocks f found surveys c.run_limit-limit.result s1 stop a

pub returns-in-Ok-gather : goal.returns-in-Ok-gather
returns-in-Ok-gather g c =
    let parts = c.args.profile.now in
    let r0 = g.R.Source.seen c.args.reader.now in
    let s0 = g.S.Spill.seen c.args.spill.now in
    let scan = c.in-Ok.ensures {u = tt} in
    let blocks = c.as_slice-blocks.result.now in
    let f = framed (batch_part c.args.budget) c.largest_block-need.result r0.bytes blocks c.in-Ok.index.blocks scan.told c.as_slice-blocks.ensures c.largest_block-need.ensures (let no = c.if-need-part.false in let part = c.batch_part-part.ensures in omega (arith, no, part)) in
    let r2 = g.R.Source.seen c.survey.new.reader in
    let survey = c.in-Ok-survey.ensures in
    let found = c.in-Ok-survey.found in
    let surveys = subst (λ (told : Option (List ℕ)). IfSome told (λ extract. Surveys parts extract blocks (Ok found) (contents_at extract blocks))) scan.bytes survey.told in
    let r3 = g.R.Source.seen c.gather.new.reader in
    let s1 = g.S.Spill.seen c.gather.new.spill in
    let runs = c.in-Ok-gather.runs in
    let gathered = (c.in-Ok-gather.ensures {u = tt}) in
    let a = subst (λ limit. GatherAnswers parts (batch_part c.args.budget) limit found r0 r3 s0 s1 (Ok runs)) c.run_limit-limit.ensures
    (subst (λ part. GatherAnswers parts part c.run_limit-limit.result found r0 r3 s0 s1 (Ok runs)) c.batch_part-part.ensures
    (gather-from parts c.batch_part-part.result c.run_limit-limit.result found r0 r2 r3 s0 s1 (Ok runs) (survey.bytes ∙ scan.bytes) (survey.counts ∙ scan.counts) gathered.answers)) in
    record {
      blocks = blocks;
      framed = f;
      found = found;
      surveys = surveys;
      gathered = a;
      loaded = loads-due parts r0 (g.R.Source.seen c.scan.new.source) r2 r3 blocks found f.frames scan.loads surveys survey.loads (subst (λ (o : Order). Logs r2 r3 (loads_behind o found)) survey.order gathered.loads);
      box = c.bounds_of.ensures;
      ready = ready-box found.header c.bounds_of.result c.bounds_of.ensures survey.ready.box;
    }

pub survey-requires-clause-may : goal.survey-requires-clause-may
survey-requires-clause-may g c = survey-may c.as_slice-blocks.result.now (subst IsNumbered (sym c.as_slice-blocks.ensures) (c.in-Ok.ensures {u = tt}).numbered)

pub gather-requires-clause-may : goal.gather-requires-clause-may
gather-requires-clause-may g c =
    let survey = c.in-Ok-survey.ensures in
    found-goes-on c.as_slice-blocks.result.now c.in-Ok-survey.found c.survey.new.order survey.order (subst IsNumbered (sym c.as_slice-blocks.ensures) (c.in-Ok.ensures {u = tt}).numbered) survey.of
