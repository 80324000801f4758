-- What a pass gives that ended well, from what all lanes did.
use Rattle.std.proofs.Common.{◌≡◌, ◌∙◌, ℕ, suc, ◌+◌, ◌<◌, ◌≤◌, List, [], ◌∷◌, ◌++◌, length, map, None, ap, sym, refl, subst, arith}
use Rattle.std.specs.Prelude.{MatchOption, slice_index_or}
use Rattle.std.specs.Bool.{◌==◌}
use Rattle.std.specs.List.{sum_by, flat_map, concat}
use Rattle.std.specs.Option.{option_map}
use Rattle.std.proofs.lemmas.Bool.{eq-eqb, ne_eqb}
use Rattle.std.proofs.lemmas.List.{length-map, take_all}
use Rattle.std.proofs.lemmas.List.Sums.{position_or_len_is}
use mathlib.Core.Option.{some, some-injective}
use lib.ListN.{get_elem?}
use Rattle.tb_types.specs.Bags.{IsEachOnce, IsSameBag, below}
use Rattle.tb_types.specs.Needs.{block_need}
use Rattle.tb_outside.specs.declared.lane.Lane.{Lane}
use Rattle.tb_outside.specs.Source.{SourceSeen}
use Rattle.tb_outside.specs.Spill.{SpillSeen}
use Rattle.pbf_blobs.specs.declared.block.BlockAt.{BlockAt}
use Rattle.pbf_blobs.specs.declared.block.BlockKind.TheVariants as kinds
use Rattle.claim_desk.specs.Facts.{SeatFacts, has_ended}
use Rattle.claim_desk.specs.Facts as desks
use Rattle.batch_queue.specs.Facts.{PassFacts}
use Rattle.batch_queue.specs.Facts as queues
use Rattle.batch_queue.specs.declared.entry.Entry.{Entry}
use Rattle.flow_core.specs.Settled.{list_at}
use Rattle.work_topology.specs.declared.ends.Done.{Done}
use Rattle.work_topology.specs.declared.ends.Ends.{Ends}
use Rattle.work_topology.specs.declared.post.Report.{Report}
use Rattle.work_topology.specs.Lists.{Each, Paired}
use Rattle.work_topology.specs.Spread.{AllRun}
use Rattle.work_topology.specs.Start.{AreStarted}
use Rattle.work_topology.specs.Sums.{ArePlaces, AreEnds}
use Rattle.work_topology.specs.Blocks.{Ascend, IsLoaded, block_at, number_at, numbers_at, place_of, load_at}
use Rattle.work_topology.specs.Objects.{objects_of, AreUncounted}
use Rattle.work_topology.specs.Job.{Meaning, JobCause, NeverChanges}
use Rattle.work_topology.specs.Lane.{IsDone, EndsPart}
use Rattle.work_topology.specs.Parts.{HasWorked, HaveWorked}
use Rattle.work_topology.specs.Ends.{IsGiven, IsGranted, LaneEnds, PassEnds, done_by, places_done}
use Rattle.work_topology.proofs.Pairs.{inside, there, paired_len, paired_at}
use Rattle.work_topology.proofs.Steps.{at_place, paired_each}
use Rattle.work_topology.proofs.Bags.{bag_has, of_some, of_all, at_map, map_at}
use Rattle.work_topology.proofs.Beside.{sum_map, same_length, length-below, lists_same, maps_same, paired_map, concat_map, concat_flat, map_itself, map_each, map_map, at_below, map_below, filter_own, paired_flat}

-- the place of a block's own number
pub place_is : (blocks : List BlockAt) (k : ℕ) → Ascend blocks → k < length blocks → place_of blocks (number_at blocks k) ≡ k
place_is blocks k ascend less =
    position_or_len_is (λ block. block.no == number_at blocks k) blocks k (record { no = 0; at = 0; len = 0; kind = kinds.Header }) (omega arith)
    (λ j before. ne_eqb (number_at blocks j) (number_at blocks k) (λ same. absurd (let a = ascend j k before less in omega arith)))
    (λ inside. eq-eqb (number_at blocks k) (number_at blocks k) refl)

module _ {L Seed Out R S : Type 0} (m : Meaning Seed Out S) (source : R → SourceSeen) (spill : S → SpillSeen) (blocks : List BlockAt) (ascend : Ascend blocks)
    (lanes lanes' lanes'' : List (Lane R S)) (seeds : List Seed) (starts reports reports'' : List (Report Out)) (seat : SeatFacts) (pass : PassFacts) (ends : Ends L Out)
    (h : HaveWorked m source spill blocks lanes lanes' starts reports seat pass) (started : AreStarted m seeds starts) (seeded : length seeds ≡ length lanes)
    (last : AllRun (λ number lane report lane' report'. EndsPart m spill number lane report lane' report') 0 lanes' reports lanes'' reports'')
    (none : Each (λ r. r.trouble ≡ None) reports'') (e : AreEnds blocks reports'' seat pass ends) where
  abbrev place : Entry → ℕ
  place entry = place_of blocks entry.no

  abbrev pub IsOne : Entry → Type 0
  IsOne entry = (p : ℕ) × IsGiven source blocks lanes p entry

  reports_len : length reports'' ≡ length lanes
  reports_len = last.places_len ∙ h.reports_len

  lanes_len : length lanes'' ≡ length lanes
  lanes_len = last.items_len ∙ h.lanes_len

  -- what one lane did, by its number
  pub record Did (k : ℕ) (report'' : Report Out) (es fs : List Entry) : Type 0 where
    lane : Lane R S
    lane' : Lane R S
    lane'' : Lane R S
    start : Report Out
    report : Report Out
    at : get_elem? lanes k ≡ some lane
    at_start : get_elem? starts k ≡ some start
    at_end : get_elem? lanes'' k ≡ some lane''
    at_report : get_elem? reports k ≡ some report
    did : HasWorked m source spill blocks k lane lane' start report es fs
    ended : EndsPart m spill k lane' report lane'' report''

  did_at : (k : ℕ) (report'' : Report Out) (es fs : List Entry) → get_elem? reports'' k ≡ some report'' → get_elem? h.pushed k ≡ some es → get_elem? h.popped k ≡ some fs → Did k report'' es fs
  did_at k report'' es fs r x y =
      let less = inside reports'' k report'' r in
      let a = reports_len in let b = lanes_len in let c = h.lanes_len in let d = h.reports_len in let f = started.same in let g = seeded in
      let lane = there lanes k (omega arith) in let lane' = there lanes' k (omega arith) in let lane'' = there lanes'' k (omega arith) in
      let start = there starts k (omega arith) in let report = there reports k (omega arith) in
      record {
        lane = lane.0;
        lane' = lane'.0;
        lane'' = lane''.0;
        start = start.0;
        report = report.0;
        at = lane.1;
        at_start = start.1;
        at_end = lane''.1;
        at_report = report.1;
        did = h.each k lane.0 lane'.0 start.0 report.0 es fs lane.1 lane'.1 start.1 report.1 x y;
        ended = subst (λ n. EndsPart m spill n lane'.0 report.0 lane''.0 report'') (let z : 0 + k ≡ k = omega arith in z) (last.each k lane'.0 lane''.0 report.0 report'' lane'.1 lane''.1 report.1 r);
      }

  -- each entry that was pushed is a block that some lane's source gave
  pushed_one : Each IsOne (flat_map (λ es. es) h.pushed)
  pushed_one k entry at =
      let s = of_some (λ (es : List Entry). es) h.pushed k entry at in
      let a = h.pushed_len in let b = h.popped_len in let c = reports_len in
      let less = inside h.pushed s.0 s.1 s.3 in
      let report'' = there reports'' s.0 (omega arith) in let fs = there h.popped s.0 (omega arith) in
      let d = did_at s.0 report''.0 s.1 fs.0 report''.1 s.3 fs.1 in
      let p = paired_each (IsLoaded blocks (source d.lane.reader).bytes) d.report.claims s.1 d.did.loaded s.2 entry s.4 in
      (p.0, (s.0, d.lane, d.at, p.1))

  -- and so is each that was popped
  popped_one : Each IsOne (flat_map (λ es. es) h.popped)
  popped_one k entry at =
      let a = bag_has (flat_map (λ es. es) h.popped) pass.popped h.all_popped k entry at in
      let b = bag_has pass.popped pass.pushed (λ w. sym (h.moved w)) a.0 entry a.1 in
      pushed_one b.0 entry (ap (λ l. get_elem? l b.0) (sym h.all_pushed) ∙ b.1)

  number_of : (entry : Entry) → IsOne entry → number_at blocks (place entry) ≡ entry.no
  number_of entry one =
      let l = one.1.3 in
      ap (λ n. number_at blocks (place_of blocks n)) l.number ∙ ap (λ p. number_at blocks p) (place_is blocks one.0 ascend l.within) ∙ sym l.number

  -- a lane's claims are the places of what it pushed
  claims_of : (k : ℕ) (report'' : Report Out) (es fs : List Entry) → Did k report'' es fs → report''.claims ≡ map place es
  claims_of k report'' es fs d =
      d.ended.claims ∙ sym (map_itself d.report.claims)
      ∙ paired_map (IsLoaded blocks (source d.lane.reader).bytes) (λ p. p) place d.report.claims es (λ p entry l. sym (place_is blocks p ascend l.within) ∙ ap (λ n. place_of blocks n) (sym l.number)) d.did.loaded

  done_of : (k : ℕ) (report'' : Report Out) (es fs : List Entry) → Did k report'' es fs → Paired (IsDone k) fs report''.done
  done_of k report'' es fs d = subst (λ ds. Paired (IsDone k) fs ds) (sym d.ended.done) d.did.done

  -- the places of what it worked are those of what it popped
  places_of : (k : ℕ) (fs : List Entry) (ds : List Done) (ps : List ℕ) → Each IsOne fs → Paired (IsDone k) fs ds → ArePlaces blocks ds ps → ps ≡ map place fs
  places_of k [] [] [] one done are = refl
  places_of k [] [] (p ∷ ps) one done are = absurd are
  places_of k [] (d ∷ ds) ps one done are = absurd done
  places_of k (f ∷ fs) [] ps one done are = absurd done
  places_of k (f ∷ fs) (d ∷ ds) [] one done are = absurd are
  places_of k (f ∷ fs) (d ∷ ds) (p ∷ ps) one done are =
      let o = one 0 f refl in
      let l = o.1.3 in
      let same : p ≡ place f = are.0 ascend o.0 l.within (sym l.number ∙ sym done.0.block) ∙ sym (place_is blocks o.0 ascend l.within) ∙ ap (λ n. place_of blocks n) (sym l.number) in
      λ i. same i ∷ places_of k fs ds ps (λ j g at. one (suc j) g at) done.1 are.1 i

  -- the lists of lists, by places
  claims_are : ends.claims ≡ map (λ es. map place es) h.pushed
  claims_are =
      let a = reports_len in let b = h.pushed_len in let c = h.popped_len in
      e.lists.all_claims
      ∙ maps_same (λ r. r.claims) (λ es. map place es) reports'' h.pushed (omega arith)
      (λ k r es at x. let less = inside reports'' k r at in let fs = there h.popped k (omega arith) in claims_of k r es fs.0 (did_at k r es fs.0 at x fs.1))

  popped_are : ends.popped ≡ map (λ fs. map place fs) h.popped
  popped_are =
      let a = reports_len in let b = h.pushed_len in let c = h.popped_len in
      let len = paired_len (λ r ps. ArePlaces blocks r.done ps) reports'' ends.popped e.lists.all_popped in
      lists_same ends.popped (map (λ fs. map place fs) h.popped) (let z = length-map h.popped (λ fs. map place fs) in omega arith)
      (λ k ps qs at x.
      let f = at_map (λ (fs : List Entry). map place fs) h.popped k qs x in
      let less = inside h.popped k f.0 f.1 in
      let r = there reports'' k (omega arith) in let es = there h.pushed k (omega arith) in
      let d = did_at k r.0 es.0 f.0 r.1 es.1 f.1 in
      places_of k f.0 r.0.done ps (λ j g here. let o = of_all (λ (fs : List Entry). fs) h.popped k f.0 j g f.1 here in popped_one o.0 g o.1) (done_of k r.0 es.0 f.0 d)
      (paired_at (λ r ps. ArePlaces blocks r.done ps) reports'' ends.popped e.lists.all_popped k r.0 ps r.1 at)
      ∙ f.2)

  pushed_are : ends.pushed ≡ ends.claims
  pushed_are = e.lists.all_pushed ∙ sym e.lists.all_claims

  -- what is listed for a lane is what the lane listed
  own_done : (k : ℕ) (r : Report Out) → get_elem? reports'' k ≡ some r → done_by ends.done k ≡ r.done
  own_done k r at =
      ap (λ l. done_by l k) e.lists.all_done
      ∙ filter_own (λ (r : Report Out). r.done) (λ (d : Done). d.lane) k 0 k reports'' r (omega arith)
      (λ j q here i d inner.
      let a = reports_len in let b = h.pushed_len in let c = h.popped_len in
      let less = inside reports'' j q here in
      let es = there h.pushed j (omega arith) in let fs = there h.popped j (omega arith) in
      let len = paired_len (IsDone j) fs.0 q.done (done_of j q es.0 fs.0 (did_at j q es.0 fs.0 here es.1 fs.1)) in
      let short = inside q.done i d inner in
      let g = there fs.0 i (omega arith) in
      (paired_at (IsDone j) fs.0 q.done (done_of j q es.0 fs.0 (did_at j q es.0 fs.0 here es.1 fs.1)) i g.0 d g.1 inner).lane ∙ (let z : j ≡ 0 + j = omega arith in z))
      at

  -- each list of what was worked, by places, is what was popped
  done_are : places_done blocks (length lanes) ends.done ≡ ends.popped
  done_are =
      let a = reports_len in let b = h.pushed_len in let c = h.popped_len in
      let n = length-below (length lanes) in
      let len = paired_len (λ r ps. ArePlaces blocks r.done ps) reports'' ends.popped e.lists.all_popped in
      lists_same (places_done blocks (length lanes) ends.done) ends.popped (let z = length-map (below (length lanes)) (λ lane. map (λ d. place_of blocks d.block) (done_by ends.done lane)) in omega arith)
      (λ k ps qs at x.
      let f = at_map (λ lane. map (λ d. place_of blocks d.block) (done_by ends.done lane)) (below (length lanes)) k ps at in
      let own : k ≡ f.0 = at_below (length lanes) k f.0 f.1 in
      let less = inside ends.popped k qs x in
      let r = there reports'' k (omega arith) in let es = there h.pushed k (omega arith) in let fs = there h.popped k (omega arith) in
      let d = did_at k r.0 es.0 fs.0 r.1 es.1 fs.1 in
      sym f.2 ∙ ap (λ j. map (λ d. place_of blocks d.block) (done_by ends.done j)) (sym own) ∙ ap (λ l. map (λ d. place_of blocks d.block) l) (own_done k r.0 r.1)
      ∙ sym (paired_map (IsDone k) place (λ d. place_of blocks d.block) fs.0 r.0.done (λ g d done. ap (λ n. place_of blocks n) (sym done.block)) (done_of k r.0 es.0 fs.0 d))
      ∙ same_at k fs.0 qs fs.1 x)
    where
      same_at : (k : ℕ) (fs : List Entry) (qs : List ℕ) → get_elem? h.popped k ≡ some fs → get_elem? ends.popped k ≡ some qs → map place fs ≡ qs
      same_at k fs qs y x = some-injective (map place fs) qs (sym (map_at (λ (gs : List Entry). map place gs) h.popped k fs y) ∙ ap (λ l. get_elem? l k) (sym popped_are) ∙ x)

  -- all of them together
  concat_claims : concat ends.claims ≡ seat.drawn
  concat_claims =
      ap concat e.lists.all_claims
      ∙ ap concat
      (maps_same (λ (r : Report Out). r.claims) (λ (r : Report Out). r.claims) reports'' reports (let a = last.places_len in omega arith)
      (λ k r'' r at'' at.
      let a = reports_len in let b = lanes_len in let c = h.lanes_len in
      let less = inside reports'' k r'' at'' in
      let lane' = there lanes' k (omega arith) in let lane'' = there lanes'' k (omega arith) in
      (last.each k lane'.0 lane''.0 r r'' lane'.1 lane''.1 at at'').claims))
      ∙ concat_flat (λ (r : Report Out). r.claims) reports ∙ sym h.drawn

  pushed_places : concat ends.claims ≡ map place pass.pushed
  pushed_places = ap concat claims_are ∙ concat_map place h.pushed ∙ ap (λ l. map place l) (sym h.all_pushed)

  popped_places : concat ends.popped ≡ map place (flat_map (λ fs. fs) h.popped)
  popped_places = ap concat popped_are ∙ concat_map place h.popped

  numbers_of : (es : List Entry) → Each IsOne es → numbers_at blocks (map place es) ≡ map (λ x. x.no) es
  numbers_of es one = map_map (number_at blocks) place es ∙ map_each (λ x. number_at blocks (place x)) (λ x. x.no) es (λ k x at. number_of x (one k x at))

  pushed_numbers : numbers_at blocks (concat ends.pushed) ≡ map (λ x. x.no) pass.pushed
  pushed_numbers =
      ap (λ l. numbers_at blocks (concat l)) pushed_are ∙ ap (λ l. numbers_at blocks l) pushed_places ∙ numbers_of pass.pushed (λ k x at. pushed_one k x (ap (λ l. get_elem? l k) (sym h.all_pushed) ∙ at))

  popped_numbers : IsSameBag (map (λ x. x.no) pass.popped) (numbers_at blocks (concat ends.popped))
  popped_numbers w =
      sum_map w (λ (x : Entry). x.no) pass.popped ∙ sym (h.all_popped (λ x. w x.no)) ∙ sym (sum_map w (λ (x : Entry). x.no) (flat_map (λ fs. fs) h.popped))
      ∙ ap (λ l. sum_by w l) (sym (numbers_of (flat_map (λ fs. fs) h.popped) popped_one) ∙ ap (λ l. numbers_at blocks l) (sym popped_places))

  moved : IsSameBag (concat ends.pushed) (concat ends.popped)
  moved w =
      ap (λ l. sum_by w (concat l)) pushed_are ∙ ap (λ l. sum_by w l) pushed_places ∙ sum_map w place pass.pushed ∙ h.moved (λ x. w (place x)) ∙ sym (h.all_popped (λ x. w (place x)))
      ∙ sym (sum_map w place (flat_map (λ fs. fs) h.popped)) ∙ ap (λ l. sum_by w l) (sym popped_places)

  numbers_below : map (number_at blocks) (below (length blocks)) ≡ map (λ block. block.no) blocks
  numbers_below =
      sym (map_map (λ (block : BlockAt). block.no) (block_at blocks) (below (length blocks)))
      ∙ ap (λ l. map (λ (block : BlockAt). block.no) l) (map_below blocks (record { no = 0; at = 0; len = 0; kind = kinds.Header }) (length blocks) (omega arith) ∙ take_all (length blocks) blocks (omega arith))

  -- what was worked, beside what was popped
  abbrev Fits : Entry → Done → Type 0
  Fits f d = (d.block ≡ f.no) × (block_need (length f.bytes) ≤ d.granted)

  fit : (k : ℕ) (fs : List Entry) (ds : List Done) → Paired (IsDone k) fs ds → Paired Fits fs ds
  fit k [] [] p = tt
  fit k [] (d ∷ ds) p = absurd p
  fit k (f ∷ fs) [] p = absurd p
  fit k (f ∷ fs) (d ∷ ds) p = ((p.0.block, p.0.covers), fit k fs ds p.1)

  all_fit : Paired Fits (flat_map (λ fs. fs) h.popped) ends.done
  all_fit =
      let a = reports_len in let b = h.pushed_len in let c = h.popped_len in
      subst (λ l. Paired Fits (flat_map (λ fs. fs) h.popped) l) (sym e.lists.all_done)
      (paired_flat Fits (λ fs. fs) (λ (r : Report Out). r.done) h.popped reports'' (omega arith)
      (λ k fs r y at. let less = inside reports'' k r at in let es = there h.pushed k (omega arith) in fit k fs r.done (done_of k r es.0 fs (did_at k r es.0 fs at es.1 y))))

  granted : Each (IsGranted blocks) ends.done
  granted k d at =
      let len = paired_len Fits (flat_map (λ fs. fs) h.popped) ends.done all_fit in
      let less = inside ends.done k d at in
      let f = there (flat_map (λ fs. fs) h.popped) k (omega arith) in
      let both = paired_at Fits (flat_map (λ fs. fs) h.popped) ends.done all_fit k f.0 d f.1 at in
      let one = popped_one k f.0 f.1 in
      let l = one.1.3 in
      (one.0, l.within, both.0 ∙ l.number, subst (λ n. block_need n ≤ d.granted) l.size both.1)

  given_all : (fs : List Entry) → Each IsOne fs → Paired (IsGiven source blocks lanes) (map place fs) fs
  given_all [] one = tt
  given_all (f ∷ fs) one =
      let o = one 0 f refl in
      let l = o.1.3 in
      let same : o.0 ≡ place f = sym (place_is blocks o.0 ascend l.within) ∙ ap (λ n. place_of blocks n) (sym l.number) in
      (subst (λ p. IsGiven source blocks lanes p f) same o.1, given_all fs (λ k x at. one (suc k) x at))

  index_at : {A : Type 0} (xs : List A) (k : ℕ) (x d : A) → get_elem? xs k ≡ some x → slice_index_or xs k d ≡ x
  index_at xs k x d at = some-injective (slice_index_or xs k d) x (sym (at_place xs k d (inside xs k x at)) ∙ at)

  one_lane : (k : ℕ) (lane lane'' : Lane R S) (seed : Seed) (out : Out) (fs : List Entry) → get_elem? lanes k ≡ some lane → get_elem? lanes'' k ≡ some lane'' → get_elem? seeds k ≡ some seed → get_elem? ends.outs k ≡ some out → get_elem? h.popped k ≡ some fs
      → LaneEnds m source spill blocks lanes k lane lane'' seed out (list_at ends.claims k) (list_at ends.popped k) fs ends.done
  one_lane k lane lane'' seed out fs el el'' es eo ef =
      let a = reports_len in let b = lanes_len in let c = h.lanes_len in let d = h.reports_len in let g = started.same in let s = seeded in let p = h.pushed_len in
      let less = inside lanes k lane el in
      let r = at_map (λ (x : Report Out). x.out) reports'' k out (ap (λ l. get_elem? l k) (sym e.lists.all_outs) ∙ eo) in
      let lane' = there lanes' k (omega arith) in let start = there starts k (omega arith) in let report = there reports k (omega arith) in let pushed = there h.pushed k (omega arith) in
      let w = h.each k lane lane'.0 start.0 report.0 pushed.0 fs el lane'.1 start.1 report.1 pushed.1 ef in
      let part = subst (λ n. EndsPart m spill n lane'.0 report.0 lane'' r.0) (let z : 0 + k ≡ k = omega arith in z) (last.each k lane'.0 lane'' report.0 r.0 lane'.1 el'' report.1 r.1) in
      let well = ended_well k lane'.0 lane'' report.0 r.0 part (none k r.0 r.1) in
      let claims : list_at ends.claims k ≡ report.0.claims = index_at ends.claims k r.0.claims [] (ap (λ l. get_elem? l k) e.lists.all_claims ∙ map_at (λ (x : Report Out). x.claims) reports'' k r.0 r.1) ∙ part.claims in
      let popped : list_at ends.popped k ≡ map place fs = index_at ends.popped k (map place fs) [] (ap (λ l. get_elem? l k) popped_are ∙ map_at (λ (x : List Entry). map place x) h.popped k fs ef) in
      record {
        loads = ap (λ x. (source x).log) part.reader ∙ w.log ∙ ap (λ l. option_map (λ log. log ++ map (load_at blocks) l) (source lane.reader).log) (sym claims);
        counts = (ap (λ x. (source x).faults) part.reader ∙ w.counts.0, well.1 ∙ w.counts.1);
        given =
            subst (λ l. Paired (IsGiven source blocks lanes) l fs) (sym popped)
            (given_all fs (λ j f here. let o = of_all (λ (x : List Entry). x) h.popped k fs j f ef here in popped_one o.0 f o.1));
        numbers =
            ap (λ l. map (λ x. x.block) l) (own_done k r.0 r.1)
            ∙ sym (paired_map (IsDone k) (λ x. x.no) (λ x. x.block) fs r.0.done (λ f x done. sym done.block) (subst (λ ds. Paired (IsDone k) fs ds) (sym part.done) w.done));
        start = start.0.out;
        worked = report.0.out;
        between = objects_of lane'.0;
        started = (started.each k seed start.0 es start.1).starts;
        works = w.works;
        ended = subst (λ x. m.ends k report.0.out x (objects_of lane'.0) (objects_of lane'')) r.2 well.0;
      }
    where
      ended_well : (k : ℕ) (old new : Lane R S) (report report'' : Report Out) → EndsPart m spill k old report new report'' → report''.trouble ≡ None → m.ends k report.out report''.out (objects_of old) (objects_of new) × AreUncounted spill (objects_of old) (objects_of new)
      ended_well k old new report report'' part is =
          subst (λ t. MatchOption t (m.ends k report.out report''.out (objects_of old) (objects_of new) × AreUncounted spill (objects_of old) (objects_of new)) (JobCause m spill k NeverChanges (objects_of old) (objects_of new))) is part.ended

  pub pass_ends : IsEachOnce (length blocks) seat.drawn → IsSameBag seat.drawn (below (length blocks)) → PassEnds m source spill blocks lanes lanes'' seeds ends
  pass_ends once drawn =
      let a = reports_len in let b = h.pushed_len in let c = h.popped_len in
      let seats = e.seats in
      let q = e.passes in
      let len0 = paired_len (λ r ps. ArePlaces blocks r.done ps) reports'' ends.popped e.lists.all_popped in
      let len1 = ap length e.lists.all_outs ∙ length-map reports'' (λ (r : Report Out). r.out) in
      let len2 = ap length e.lists.all_claims ∙ length-map reports'' (λ (r : Report Out). r.claims) in
      let len3 = ap length pushed_are in
      let n0 = paired_len Fits (flat_map (λ fs. fs) h.popped) ends.done all_fit in
      let n1 = same_length (flat_map (λ fs. fs) h.popped) pass.popped h.all_popped in
      let n2 = same_length pass.pushed pass.popped h.moved in
      let n3 = ap length pushed_places ∙ length-map pass.pushed place in
      let n4 = ap length concat_claims in
      let n5 = same_length seat.drawn (below (length blocks)) drawn in
      let n6 = length-below (length blocks) in
      let pushed_all : (w : ℕ → ℕ) → sum_by w (map (λ x. x.no) pass.pushed) ≡ sum_by w (map (λ block. block.no) blocks) = λ w.
      ap (λ l. sum_by w l) (sym pushed_numbers ∙ ap (λ l. numbers_at blocks (concat l)) pushed_are ∙ ap (λ l. numbers_at blocks l) concat_claims)
      ∙ sum_map w (number_at blocks) seat.drawn ∙ drawn (λ p. w (number_at blocks p)) ∙ sym (sum_map w (number_at blocks) (below (length blocks))) ∙ ap (λ l. sum_by w l) numbers_below in
      record {
        settled =
            record {
              claimed_once = subst (λ l. IsEachOnce (length blocks) l) (sym concat_claims) once;
              moved = moved;
              lane_pushed = λ lane w. ap (λ l. sum_by w (list_at l lane)) (sym pushed_are);
              lane_did = λ lane w. ap (λ l. sum_by w (list_at l lane)) done_are;
            };
        lists = (omega arith, omega arith, omega arith, omega arith);
        one_each = omega arith;
        granted = granted;
        seat = ap (λ s. s.drawn) seats ∙ sym concat_claims;
        seats_joined = subst (λ s. desks.IsWhole s) (sym seats) h.seats;
        limit = ap (λ s. s.limit) seats ∙ h.limit;
        at_end = ap (λ s. has_ended (length blocks) s.seen) seats ∙ h.ended;
        passes_joined = subst (λ p. queues.IsWhole p) (sym q) h.passes;
        pushed = λ w. ap (λ p. sum_by w (map (λ x. x.no) p.pushed)) q ∙ ap (λ l. sum_by w l) (sym pushed_numbers);
        popped = λ w. ap (λ p. sum_by w (map (λ x. x.no) p.popped)) q ∙ popped_numbers w;
        pushed_once = λ w. ap (λ p. sum_by w (map (λ x. x.no) p.pushed)) q ∙ pushed_all w;
        popped_once = λ w.
            ap (λ p. sum_by w (map (λ x. x.no) p.popped)) q ∙ sum_map w (λ (x : Entry). x.no) pass.popped ∙ sym (h.moved (λ x. w x.no)) ∙ sym (sum_map w (λ (x : Entry). x.no) pass.pushed) ∙ pushed_all w;
        entries = h.popped;
        all_entries = λ w. h.all_popped w ∙ ap (λ p. sum_by w p.popped) (sym q);
        lanes = one_lane;
      }
