use Rattle.std.proofs.Common.{[], ◌∷◌, sym, ap, subst}
use Rattle.build_one.specs.Answers.{BuildAnswers}
use Rattle.build_one.specs.Extracts.{ReadsParts, at_lane}
use Rattle.build_one.specs.Made.{IsKnown}
use Rattle.build_one.specs.Writing.{all_groups}
use Rattle.build_one.proofs.MapDue.{seen_by, told_of}
use Rattle.profile_rules.specs.Sound.{IsSound}
use Rattle.build_one.proofs.ItemsDue.{items-readable, items-written}
use Rattle.build_one.proofs.engine.build_in.Goals as goal

pub returns-in-Err-read_extract-clause-answers : goal.returns-in-Err-read_extract-clause-answers
returns-in-Err-read_extract-clause-answers g c =
    let q : ReadsParts c.args.from (g.P.Source.seen c.args.profile.now) (g.P.Source.seen c.profile_from.new.source) c.in-Ok.profile =
    record { told = c.in-Ok.ensures.told; bytes = c.in-Ok.ensures.bytes; faults = c.in-Ok.ensures.counts; alone = λ a. ap g.P.Source.seen (c.in-Ok.ensures.alone a) } in
    (c.in-Err-read_extract.ensures {u = tt}) c.args.from (g.P.Source.seen c.args.profile.now) (g.P.Source.seen c.profile_from.new.source) (g.S.Spill.seen c.args.spool.now) (g.K.Sink.seen c.args.archive.now) q

pub write_map-requires-clause-runs : goal.write_map-requires-clause-runs
write_map-requires-clause-runs g c =
    items-readable c.in-Ok.profile c.args.budget (g.R.Source.seen c.args.lane.now.reader) (g.R.Source.seen c.read_extract.new.reader) (g.S.Spill.seen c.args.lane.now.spill) (g.S.Spill.seen c.read_extract.new.spill) (g.S.Spill.seen c.args.spool.now) c.read_extract.new.reader
    (subst IsSound c.profile.view_is c.profile.invariant.sound) c.in-Ok-read_extract.items (c.in-Ok-read_extract.ensures {u = tt})

pub write_map-requires-clause-bounds : goal.write_map-requires-clause-bounds
write_map-requires-clause-bounds g c = (c.in-Ok-read_extract.ensures {u = tt}).ready

pub returns-clause-answers : goal.returns-clause-answers
returns-clause-answers g c =
    let parts = c.in-Ok.profile in
    let p = g.P.Source.seen c.args.profile.now in
    let p1 = g.P.Source.seen c.profile_from.new.source in
    let r0 = g.R.Source.seen c.args.lane.now.reader in
    let r1 = g.R.Source.seen c.read_extract.new.reader in
    let s0 = g.S.Spill.seen c.args.lane.now.spill in
    let s1 = g.S.Spill.seen c.read_extract.new.spill in
    let o = g.S.Spill.seen c.args.spool.now in
    let k = g.K.Sink.seen c.args.archive.now in
    let q : ReadsParts c.args.from p p1 parts = record { told = c.in-Ok.ensures.told; bytes = c.in-Ok.ensures.bytes; faults = c.in-Ok.ensures.counts; alone = λ a. ap g.P.Source.seen (c.in-Ok.ensures.alone a) } in
    let items = c.in-Ok-read_extract.items in
    subst (λ r. BuildAnswers c.args.from c.args.budget 1 (at_lane p r0 s0 o k) (at_lane p1 r (g.S.Spill.seen c.write_map.new.lane.spill) (g.S.Spill.seen c.write_map.new.spool) (g.K.Sink.seen c.write_map.new.archive)) c.write_map.result)
    (ap g.R.Source.seen (sym c.write_map.ensures.reader))
    (items-written c.args.from c.args.budget p p1 r0 s0 o k parts q r1 s1 c.read_extract.new.reader (subst IsSound c.profile.view_is c.profile.invariant.sound) items (c.in-Ok-read_extract.ensures {u = tt})
    (g.S.Spill.seen c.write_map.new.lane.spill) (g.S.Spill.seen c.write_map.new.spool) (g.K.Sink.seen c.write_map.new.archive) c.write_map.result
    (λ d known. c.write_map.ensures.written d (subst (λ part. IsKnown parts part (told_of s1 o) (all_groups (seen_by (c.read_extract.new.reader ∷ []) s1 o) (items.runs ∷ [])) items.bounds d) (sym c.batch_part-part.ensures) known)))
