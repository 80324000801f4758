use Rattle.std.proofs.Common.{◌<◌, length, subst, arith}
use Rattle.std.proofs.lemmas.List.{length-map}
use Rattle.run_merge.specs.declared.named_run.Store.TheVariants as stores
use Rattle.run_merge.specs.Objects.{objects_of, IsThere}
use Rattle.run_merge.proofs.Lanes.{lane_same, lane_fault}
use Rattle.run_merge.proofs.read_from.read_from.Goals as goal

pub returns-in-Ok-clause-reads : goal.returns-in-Ok-clause-reads
returns-in-Ok-clause-reads g c =
    let seen = g.S.Spill.seen in
    let lanes = c.args.lanes.now in
    let k = c.in-Lane.lane in
    let there : IsThere (objects_of seen lanes c.args.spool.now) (stores.Lane k) = subst (IsThere (objects_of seen lanes c.args.spool.now)) c.in-Lane.is c.requires.there in
    let lt : k < length lanes = omega (arith, there, length-map lanes (λ lane. seen lane.spill)) in
    let runs = c.read_run.ensures.runs in
    let faults = c.in-Ok.ensures.ok in
    lane_same seen lanes k c.index-lanes-lane.result c.read_run.new.self c.args.spool.now lt (λ i. record { runs = runs i; faults = faults i })

pub returns-in-Err-clause-reads : goal.returns-in-Err-clause-reads
returns-in-Err-clause-reads g c =
    let seen = g.S.Spill.seen in
    let lanes = c.args.lanes.now in
    let k = c.in-Lane.lane in
    let there : IsThere (objects_of seen lanes c.args.spool.now) (stores.Lane k) = subst (IsThere (objects_of seen lanes c.args.spool.now)) c.in-Lane.is c.requires.there in
    let lt : k < length lanes = omega (arith, there, length-map lanes (λ lane. seen lane.spill)) in
    lane_fault seen lanes k c.index-lanes-lane.result c.read_run.new.self c.args.spool.now lt c.args.run c.whom.result c.in-Lane.is c.whom.ensures c.read_run.ensures.runs c.in-Err.ensures.err c.read_run.ensures.never_falls
