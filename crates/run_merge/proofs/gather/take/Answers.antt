use Rattle.std.proofs.Common.{◌≡◌, ◌+◌, ◌-◌, ◌^◌, min, [], ◌∷◌, ◌++◌, refl, sym, ap, subst, rules}
use Rattle.run_merge.specs.Objects.{Objects, objects_of}
use Rattle.run_merge.specs.Cursors.{AreThere, AreTold, runs_of}
use Rattle.run_merge.specs.Steps.{AdvancesAt}
use Rattle.run_merge.proofs.Gathering.{takes_kept}
use Rattle.run_merge.proofs.Ends.{there_same}
use Rattle.run_merge.proofs.Slices.{on_ok}
use Rattle.run_merge.proofs.gather.take.Goals as goal

pub advance_at-requires-2-clause-there : goal.advance_at-requires-2-clause-there
advance_at-requires-2-clause-there g c =
    let seen = g.S.Spill.seen in
    let o = objects_of seen c.args.lanes.now c.args.spool.now in
    subst (λ (ob : Objects g.row.R.Denot). AreThere ob c.load_at-loaded.new.readers) (sym c.in-Ok.ensures.reads)
    (there_same o c.args.readers.now c.load_at-loaded.new.readers (ap runs_of c.in-Ok.ensures.loads.cursors) c.requires.there)

pub advance_at-requires-2-clause-told : goal.advance_at-requires-2-clause-told
advance_at-requires-2-clause-told g c =
    subst (λ (ob : Objects g.row.R.Denot). AreTold ob c.args.layers c.load_at-loaded.new.readers) (sym c.in-Ok.ensures.reads) c.in-Ok.ensures.loads.told_are

pub returns-clause-takes : goal.returns-clause-takes
returns-clause-takes g c =
    let seen = g.S.Spill.seen in
    let o = objects_of seen c.args.lanes.now c.args.spool.now in
    let mid = c.load_at-loaded.new.readers in
    let after = c.advance_at-2.new.readers in
    let old = c.args.gathered.now in
    let sum : c.saturating_add-sum.result ≡ min (old.bytes + c.args.head.len) (2 ^ 64 - 1) = search rules in
    let items : c.push.new.self ≡ old.items ++ c.in-Ok.item ∷ [] = search rules in
    on_ok c.advance_at-2.result (λ advances.
    takes_kept o c.args.layers c.args.number c.args.head c.args.readers.now mid after c.in-Ok.item old _ c.in-Ok.ensures.loads
    (subst (λ (ob : Objects g.row.R.Denot). AdvancesAt ob c.args.layers c.args.number c.args.head mid after) c.in-Ok.ensures.reads advances)
    refl refl sum items) c.advance_at-2.ensures.advances
