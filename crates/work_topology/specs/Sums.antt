-- What the lanes did, put together.
use Rattle.std.specs.Prelude.{◌≡◌, List, ℕ, map}
use Rattle.std.specs.List.{flat_map}
use Rattle.pbf_blobs.specs.declared.block.BlockAt.{BlockAt}
use Rattle.claim_desk.specs.Facts.{SeatFacts}
use Rattle.batch_queue.specs.Facts.{PassFacts}
use Rattle.work_topology.specs.declared.ends.Done.{Done}
use Rattle.work_topology.specs.declared.ends.Ends.{Ends}
use Rattle.work_topology.specs.declared.post.Report.{Report}
use Rattle.work_topology.specs.Lists.{Paired}
use Rattle.work_topology.specs.Blocks.{IsPlaceOf}

-- these are the places of the blocks that were worked
abbrev pub ArePlaces : List BlockAt → List Done → List ℕ → Type 0
ArePlaces blocks done places = Paired (λ d place. IsPlaceOf blocks d.block place) done places

-- these lists are what the reports say, lane after lane; `pushed` is a copy of `claims`
pub record SumsUp {Out : Type 0} (blocks : List BlockAt) (reports : List (Report Out)) (outs : List Out) (claims pushed popped : List (List ℕ)) (done : List Done) : Type 0 where
  pub all_outs : outs ≡ map (λ r. r.out) reports
  pub all_claims : claims ≡ map (λ r. r.claims) reports
  pub all_pushed : pushed ≡ map (λ r. r.claims) reports
  pub all_popped : Paired (λ r places. ArePlaces blocks r.done places) reports popped
  pub all_done : done ≡ flat_map (λ r. r.done) reports

-- the ends have these lists, and this seat and pass
pub record AreEnds {L Out : Type 0} (blocks : List BlockAt) (reports : List (Report Out)) (seat : SeatFacts) (pass : PassFacts) (ends : Ends L Out) : Type 0 where
  pub lists : SumsUp blocks reports ends.outs ends.claims ends.pushed ends.popped ends.done
  pub seats : ends.seat ≡ seat
  pub passes : ends.queue ≡ pass
