-- From the conditions of a pass to those of its work.
use Rattle.std.proofs.Common.{◌≡◌, ◌∙◌, ℕ, true, List, [], length, None, ap, sym, arith}
use Rattle.tb_outside.specs.declared.lane.Lane.{Lane}
use Rattle.tb_outside.specs.Source.{SourceSeen}
use Rattle.pbf_blobs.specs.declared.block.BlockAt.{BlockAt}
use Rattle.claim_desk.specs.Facts.{DeskFacts, SeatFacts}
use Rattle.work_topology.specs.declared.post.Report.{Report}
use Rattle.work_topology.specs.Job.{Meaning}
use Rattle.work_topology.specs.Start.{AreStarted}
use Rattle.work_topology.specs.Ends.{MayPass}
use Rattle.work_topology.specs.Parts.{MayWork, first_seat}
use Rattle.work_topology.proofs.Pairs.{inside, there}

pub may_work : {Seed Out R S : Type 0} (m : Meaning Seed Out S) (source : R → SourceSeen) (blocks : List BlockAt) (lanes : List (Lane R S)) (seeds : List Seed) (queue budget : ℕ) (desk : DeskFacts) (starts : List (Report Out))
    → MayPass m source blocks lanes seeds queue budget → AreStarted m seeds starts → desk.limit ≡ length blocks → MayWork m source blocks lanes desk starts queue
may_work m source blocks lanes seeds queue budget desk starts may st limit =
    record {
      some_lane = may.some_lane;
      few_lanes = may.few_lanes;
      same = st.same ∙ may.seeded;
      limit = limit;
      some_room = may.some_room;
      few_places = may.few_places;
      inside = may.inside;
      fresh = λ k start f.
          let less = inside starts k start f in let a = st.same in
          let seed = there seeds k (omega arith) in
          let s = st.each k seed.0 start seed.1 f in (s.claims, s.done);
      ready = λ k lane start e f.
          let less = inside starts k start f in let a = st.same in
          let seed = there seeds k (omega arith) in
          may.ready k lane seed.0 start.out e seed.1 (st.each k seed.0 start seed.1 f).starts;
    }

pub new_seat : (desk : DeskFacts) (n : ℕ) (seat : SeatFacts) → desk.limit ≡ n → seat ≡ record { place = desk.place; limit = n; first = true; out = 0; splits = 0; seen = None; past = 0; drawn = [] } → seat ≡ first_seat desk 0
new_seat desk n seat limit is = is ∙ ap (λ l. record { place = desk.place; limit = l; first = true; out = 0; splits = 0; seen = None; past = 0; drawn = [] }) (sym limit)
