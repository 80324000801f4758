-- One step of a lane that is well.
use Rattle.std.proofs.Common.{◌≡◌, ⊎_elim, ℕ, zero, suc, ◌+◌, ◌<◌, ◌≤◌, List, [], ◌∷◌, ◌++◌, length, Option, Some, None, Ok, Err, ap, sym, ◌∙◌, refl, subst, arith, append_assoc}
use Rattle.std.specs.Prelude.{⊤, map, IfSome, slice_index_or, slice_range, true}
use Rattle.std.specs.Option.{option_map}
use Rattle.std.proofs.lemmas.List.{map-append}
use mathlib.Core.Option.{some, some-injective, some-ne-none}
use lib.ListN.{get_elem?}
use Rattle.atomic_table.proofs.Lists.{at_snoc, at_last}
use Rattle.tb_types.specs.Counts.{Rose}
use Rattle.tb_types.specs.declared.trouble.Trouble.{Trouble}
use Rattle.tb_types.specs.declared.trouble.Trouble.TheVariants as troubles
use Rattle.tb_outside.specs.declared.lane.Lane.{Lane}
use Rattle.tb_outside.specs.Source.{SourceSeen}
use Rattle.tb_outside.specs.Spill.{SpillSeen}
use Rattle.pbf_blobs.specs.declared.block.BlockAt.{BlockAt}
use Rattle.claim_desk.specs.Facts.{SeatFacts, IsSeatOf, has_ended}
use Rattle.batch_queue.specs.Facts.{PassFacts, BatchFacts}
use Rattle.batch_queue.specs.declared.entry.Entry.{Entry}
use Rattle.work_topology.specs.declared.post.Post.{Post}
use Rattle.work_topology.specs.Lists.{Each, Paired}
use Rattle.work_topology.specs.Blocks.{IsLoaded, IsSomeBlock, FitIn, block_at, load_at}
use Rattle.work_topology.specs.Objects.{Objects, objects_of, AreUncounted, NoneFell}
use Rattle.work_topology.specs.Job.{Meaning, Worked, JobCause, MayChange, SomeChanges, GoesOn}
use Rattle.work_topology.specs.Lane.{Scene, Going, Leaving, LaneCause, NoCountFell, IsDone, IsSamePass, IsSameSeat, TakesUp, Loads, LoadCause, AllPushed, HasSeenEnd, told_by}

-- the cause of a job's refusal is one of a lane's
module _ {Seed Out R S : Type 0} (m : Meaning Seed Out S) (source : R → SourceSeen) (spill : S → SpillSeen) (n : ℕ) where
  pub of_job : (changed changes : ℕ → ℕ → Type 0) (first lane lane' : Lane R S) (trouble : Trouble)
      → ((pass block : ℕ) → changed pass block → changes pass block)
      → (source lane.reader).faults ≡ (source first.reader).faults → AreUncounted spill (objects_of first) (objects_of lane) → lane'.reader ≡ lane.reader
      → JobCause m spill n changed (objects_of lane) (objects_of lane') trouble → LaneCause m source spill n changes first lane' trouble
  of_job changed changes first lane lane' (troubles.Source whom) wider read well reader cause = absurd cause
  of_job changed changes first lane lane' (troubles.Spill whom) wider read well reader cause = (
    ((cause.0.0, subst (λ f. Rose f (spill lane'.spill).faults) well cause.0.1), λ before. cause.1 before ∙ well),
    ap (λ r. (source r).faults) reader ∙ read,
  )
  of_job changed changes first lane lane' (troubles.Outside whom run at) wider read well reader cause =
      (cause.0, cause.1, cause.2, ap (λ r. (source r).faults) reader ∙ read, cause.3 ∙ well)
  of_job changed changes first lane lane' (troubles.Changed pass block) wider read well reader cause =
      (wider pass block cause.0, ap (λ r. (source r).faults) reader ∙ read, cause.1 ∙ well)
  of_job changed changes first lane lane' troubles.Memory wider read well reader cause = (ap (λ r. (source r).faults) reader ∙ read, cause ∙ well)

-- lists side by side

pub paired_push : {A B : Type 0} (R : A → B → Type 0) (xs : List A) (ys : List B) (x : A) (y : B) → Paired R xs ys → R x y → Paired R (xs ++ x ∷ []) (ys ++ y ∷ [])
paired_push R [] [] x y p r = (r, tt)
paired_push R [] (b ∷ ys) x y p r = absurd p
paired_push R (a ∷ xs) [] x y p r = absurd p
paired_push R (a ∷ xs) (b ∷ ys) x y p r = (p.0, paired_push R xs ys x y p.1 r)

-- each element of the second list has a partner
pub paired_each : {A B : Type 0} (R : A → B → Type 0) (xs : List A) (ys : List B) → Paired R xs ys → Each (λ y. (x : A) × R x y) ys
paired_each R [] [] p k y e = absurd (some-ne-none y (sym e))
paired_each R [] (b ∷ ys) p k y e = absurd p
paired_each R (a ∷ xs) [] p k y e = absurd p
paired_each {A} R (a ∷ xs) (b ∷ ys) p zero y e = subst (λ z. (x : A) × R x z) (some-injective b y e) (a, p.0)
paired_each R (a ∷ xs) (b ∷ ys) p (suc k) y e = paired_each R xs ys p.1 k y e

pub each_snoc : {A : Type 0} (P : A → Type 0) (xs : List A) (x : A) → Each P xs → P x → Each P (xs ++ x ∷ [])
each_snoc P xs x all p k y e = ⊎_elim (λ was. all k y was) (λ (s : x ≡ y). subst P s p) (at_snoc xs x y k e)

pub at_place : {A : Type 0} (xs : List A) (k : ℕ) (d : A) → k < length xs → get_elem? xs k ≡ some (slice_index_or xs k d)
at_place [] k d less = absurd (omega arith)
at_place (x ∷ xs) zero d less = refl
at_place (x ∷ xs) (suc k) d less = at_place xs k d (omega arith)

-- one more block is worked
pub worked_push : {Seed Out S : Type 0} (m : Meaning Seed Out S) (n : ℕ) (es : List Entry) (e : Entry) (a b c : Out) (o p q : Objects S)
    → Worked m n es a b o p → m.works n e b c p q → Worked m n (es ++ e ∷ []) a c o q
worked_push m n [] e a b c o p q w r = (c, q, subst (λ (t : _ × _). m.works n e t.0 c t.1 q) (λ i. (w.0 i, w.1 i)) r, (refl, refl))
worked_push m n (x ∷ es) e a b c o p q w r = (w.0, w.1, w.2, worked_push m n es e w.0 b c w.1 p q w.3 r)

-- seats and passes that stay the same ones

pub same_pass : (s q r : PassFacts) → IsSamePass s q → IsSamePass q r → IsSamePass s r
same_pass s q r a b =
    λ i. record {
      place = (ap (λ p. p.place) b ∙ ap (λ p. p.place) a) i;
      first = (ap (λ p. p.first) b ∙ ap (λ p. p.first) a) i;
      out = (ap (λ p. p.out) b ∙ ap (λ p. p.out) a) i;
      pushed = r.pushed;
      popped = r.popped;
      pushed_in_order = (ap (λ p. p.pushed_in_order) b ∙ ap (λ p. p.pushed_in_order) a) i;
      popped_in_order = (ap (λ p. p.popped_in_order) b ∙ ap (λ p. p.popped_in_order) a) i;
    }

pub same_seat : (s q r : SeatFacts) → IsSameSeat s q → IsSameSeat q r → IsSameSeat s r
same_seat s q r a b =
    λ i. record {
      place = (ap (λ p. p.place) b ∙ ap (λ p. p.place) a) i;
      limit = (ap (λ p. p.limit) b ∙ ap (λ p. p.limit) a) i;
      first = (ap (λ p. p.first) b ∙ ap (λ p. p.first) a) i;
      out = (ap (λ p. p.out) b ∙ ap (λ p. p.out) a) i;
      splits = (ap (λ p. p.splits) b ∙ ap (λ p. p.splits) a) i;
      seen = r.seen;
      past = r.past;
      drawn = r.drawn;
    }

after_pop : (q r : PassFacts) (xs : List Entry) → r ≡ record q { popped = xs } → IsSamePass q r
after_pop q r xs e =
    λ i. record {
      place = ap (λ p. p.place) e i;
      first = ap (λ p. p.first) e i;
      out = ap (λ p. p.out) e i;
      pushed = r.pushed;
      popped = r.popped;
      pushed_in_order = ap (λ p. p.pushed_in_order) e i;
      popped_in_order = ap (λ p. p.popped_in_order) e i;
    }

after_push : (q r : PassFacts) (xs : List Entry) → r ≡ record q { pushed = xs } → IsSamePass q r
after_push q r xs e =
    λ i. record {
      place = ap (λ p. p.place) e i;
      first = ap (λ p. p.first) e i;
      out = ap (λ p. p.out) e i;
      pushed = r.pushed;
      popped = r.popped;
      pushed_in_order = ap (λ p. p.pushed_in_order) e i;
      popped_in_order = ap (λ p. p.popped_in_order) e i;
    }

pub after_claim : {seen : Option ℕ} {drawn : List ℕ} (q r : SeatFacts) → r ≡ record q { seen = seen; drawn = drawn } → IsSameSeat q r
after_claim q r e =
    λ i. record {
      place = ap (λ p. p.place) e i;
      limit = ap (λ p. p.limit) e i;
      first = ap (λ p. p.first) e i;
      out = ap (λ p. p.out) e i;
      splits = ap (λ p. p.splits) e i;
      seen = r.seen;
      past = r.past;
      drawn = r.drawn;
    }

module _ {L Seed Out R S : Type 0} (c : Scene Seed Out R S) (laws : GoesOn c.job) (n : ℕ) (first : Lane R S) (start : Post L Out) where
  -- a batch was popped and worked
  pub took : (loaded pushed : List ℕ) (lane lane' : Lane R S) (post post' : Post L Out) (batch : BatchFacts) (u : ⊤)
      → Going c n first start loaded pushed lane post
      → post'.seat ≡ post.seat → post'.queue ≡ record post.queue { popped = post.queue.popped ++ batch.entry ∷ [] }
      → TakesUp c.job c.spill n batch lane post.report lane' post'.report (Ok u)
      → Going c n first start loaded pushed lane' post' × (post'.seat ≡ post.seat)
  took loaded pushed lane lane' post post' batch u i same is t =
      let entry : Entry = batch.entry in
      let popped : post'.queue.popped ≡ post.queue.popped ++ entry ∷ [] = ap (λ q. q.popped) is in (
        record {
          limit = i.limit;
          fit = i.fit;
          at_desk = subst (λ s. IsSeatOf c.desk s) (sym same) i.at_desk;
          at_queue = ap (λ q. q.place) is ∙ i.at_queue;
          seat = subst (λ s. IsSameSeat start.seat s) (sym same) i.seat;
          queue = same_pass start.queue post.queue post'.queue i.queue (after_pop post.queue post'.queue _ is);
          claims = t.claims ∙ i.claims ∙ ap (λ s. s.drawn) (sym same);
          within = subst (λ s. Each (λ place. place < length c.blocks) s.drawn) (sym same) i.within;
          loads_within = i.loads_within;
          entries = subst (λ es. Paired (IsLoaded c.blocks (told_by c first)) pushed es) (ap (λ q. q.pushed) (sym is)) i.entries;
          done =
              subst (λ es. Paired (IsDone n) es post'.report.done) (sym popped)
              (subst (λ ds. Paired (IsDone n) (post.queue.popped ++ entry ∷ []) ds) (sym t.listed.1) (paired_push (IsDone n) post.queue.popped post.report.done entry t.listed.0 i.done t.listed.2));
          worked =
              subst (λ es. Worked c.job n es start.report.out post'.report.out (objects_of first) (objects_of lane')) (sym popped)
              (worked_push c.job n post.queue.popped entry start.report.out post.report.out post'.report.out (objects_of first) (objects_of lane) (objects_of lane') i.worked t.worked.0);
          fits = t.worked.1;
          moves = laws.follows _ _ _ i.moves t.moves;
          bytes = ap (λ r. (c.source r).bytes) t.reader ∙ i.bytes;
          log = ap (λ r. (c.source r).log) t.reader ∙ i.log;
          read_well = ap (λ r. (c.source r).faults) t.reader ∙ i.read_well;
          spilled_well = t.worked.2 ∙ i.spilled_well;
        },
        same,
      )

  -- counts of a lane that is well, and of a call that leaves the reader alone
  still : (lane lane' : Lane R S) → (c.source lane.reader).faults ≡ (c.source first.reader).faults → AreUncounted c.spill (objects_of first) (objects_of lane)
      → lane'.reader ≡ lane.reader → NoneFell c.spill (objects_of lane) (objects_of lane') → NoCountFell c.source c.spill first lane'
  still lane lane' read well reader fell = let same = ap (λ r. (c.source r).faults) reader in (omega arith, omega arith)

  -- a batch was popped, and its work was refused
  pub took_not : (loaded pushed : List ℕ) (lane lane' : Lane R S) (post post' : Post L Out) (batch : BatchFacts) (trouble : Trouble)
      → Going c n first start loaded pushed lane post
      → post'.seat ≡ post.seat → post'.queue ≡ record post.queue { popped = post.queue.popped ++ batch.entry ∷ [] }
      → TakesUp c.job c.spill n batch lane post.report lane' post'.report (Err trouble)
      → Leaving c n first start lane' post' trouble
  took_not loaded pushed lane lane' post post' batch trouble i same is t =
      let entry : Entry = batch.entry in
      let popped : post'.queue.popped ≡ post.queue.popped ++ entry ∷ [] = ap (λ q. q.popped) is in
      record {
        seat = subst (λ s. IsSameSeat start.seat s) (sym same) i.seat;
        queue = same_pass start.queue post.queue post'.queue i.queue (after_pop post.queue post'.queue _ is);
        entries = subst (λ es. Each (IsSomeBlock c.blocks (told_by c first)) es) (ap (λ q. q.pushed) (sym is)) (paired_each (IsLoaded c.blocks (told_by c first)) pushed post.queue.pushed i.entries);
        moves = laws.follows _ _ _ i.moves t.moves;
        bytes = ap (λ r. (c.source r).bytes) t.reader ∙ i.bytes;
        log = (loaded, i.loads_within, ap (λ r. (c.source r).log) t.reader ∙ i.log);
        never_falls = still lane lane' i.read_well i.spilled_well t.reader t.never_falls;
        cause =
            of_job c.job c.source c.spill n (MayChange c.job entry) (SomeChanges c.job post'.queue.popped) first lane lane' trouble
            (λ pass block may. (length post.queue.popped, entry, ap (λ es. get_elem? es (length post.queue.popped)) popped ∙ at_last post.queue.popped entry (length post.queue.popped) refl, may))
            i.read_well i.spilled_well t.reader t.cause;
      }

  -- the same pass, by another name
  pub with_queue : (loaded pushed : List ℕ) (lane : Lane R S) (post : Post L Out) (q : PassFacts) → q ≡ post.queue → Going c n first start loaded pushed lane post → Going c n first start loaded pushed lane (record post { queue = q })
  with_queue loaded pushed lane post q e i = subst (λ r. Going c n first start loaded pushed lane (record post { queue = r })) (sym e) i

  -- a batch is pushed, whose block stands at this place
  pub pushed_one : (loaded pushed : List ℕ) (lane : Lane R S) (post : Post L Out) (q : PassFacts) (entry : Entry) (place : ℕ)
      → Going c n first start loaded pushed lane post → q ≡ record post.queue { pushed = post.queue.pushed ++ entry ∷ [] } → IsLoaded c.blocks (told_by c first) place entry
      → Going c n first start loaded (pushed ++ place ∷ []) lane (record post { queue = q })
  pushed_one loaded pushed lane post q entry place i is at =
      record {
        limit = i.limit;
        fit = i.fit;
        at_desk = i.at_desk;
        at_queue = ap (λ p. p.place) is ∙ i.at_queue;
        seat = i.seat;
        queue = same_pass start.queue post.queue q i.queue (after_push post.queue q _ is);
        claims = i.claims;
        within = i.within;
        loads_within = i.loads_within;
        entries =
            subst (λ es. Paired (IsLoaded c.blocks (told_by c first)) (pushed ++ place ∷ []) es) (ap (λ p. p.pushed) (sym is))
            (paired_push (IsLoaded c.blocks (told_by c first)) pushed post.queue.pushed place entry i.entries at);
        done = subst (λ es. Paired (IsDone n) es post.report.done) (ap (λ p. p.popped) (sym is)) i.done;
        worked = subst (λ es. Worked c.job n es start.report.out post.report.out (objects_of first) (objects_of lane)) (ap (λ p. p.popped) (sym is)) i.worked;
        fits = i.fits;
        moves = i.moves;
        bytes = i.bytes;
        log = i.log;
        read_well = i.read_well;
        spilled_well = i.spilled_well;
      }

  -- the seat has claimed or looked again, and the claims are listed
  pub seated : (loaded pushed : List ℕ) (lane : Lane R S) (post : Post L Out) (seat : SeatFacts) (claims : List ℕ)
      → Going c n first start loaded pushed lane post → IsSameSeat post.seat seat → claims ≡ seat.drawn → Each (λ place. place < length c.blocks) seat.drawn
      → Going c n first start loaded pushed lane (record post { seat = seat; report = record post.report { claims = claims } })
  seated loaded pushed lane post seat claims i same listed within =
      record {
        limit = i.limit;
        fit = i.fit;
        at_desk = (ap (λ p. p.place) same ∙ i.at_desk.0, ap (λ p. p.limit) same ∙ i.at_desk.1);
        at_queue = i.at_queue;
        seat = same_seat start.seat post.seat seat i.seat same;
        queue = i.queue;
        claims = listed;
        within = within;
        loads_within = i.loads_within;
        entries = i.entries;
        done = i.done;
        worked = i.worked;
        fits = i.fits;
        moves = i.moves;
        bytes = i.bytes;
        log = i.log;
        read_well = i.read_well;
        spilled_well = i.spilled_well;
      }

  -- memory is wanting after a claim
  pub short : (loaded pushed : List ℕ) (lane : Lane R S) (post post' : Post L Out) → Going c n first start loaded pushed lane post → IsSameSeat post.seat post'.seat → post'.queue ≡ post.queue
      → Leaving c n first start lane post' troubles.Memory
  short loaded pushed lane post post' i same q =
      record {
        seat = same_seat start.seat post.seat post'.seat i.seat same;
        queue = subst (λ r. IsSamePass start.queue r) (sym q) i.queue;
        entries = subst (λ r. Each (IsSomeBlock c.blocks (told_by c first)) r.pushed) (sym q) (paired_each (IsLoaded c.blocks (told_by c first)) pushed post.queue.pushed i.entries);
        moves = i.moves;
        bytes = i.bytes;
        log = (loaded, i.loads_within, i.log);
        never_falls = (let r = i.read_well in omega arith, let w = i.spilled_well in omega arith);
        cause = (i.read_well, i.spilled_well);
      }

  -- a body was loaded
  pub loaded_one : (loaded pushed : List ℕ) (lane lane' : Lane R S) (post : Post L Out) (place : ℕ) (block : BlockAt) (batch : BatchFacts)
      → Going c n first start loaded pushed lane post → place < length c.blocks → block ≡ block_at c.blocks place → Loads c.source n block lane lane' (Ok batch)
      → Going c n first start (loaded ++ place ∷ []) pushed lane' post × IsLoaded c.blocks (told_by c first) place batch.entry
  loaded_one loaded pushed lane lane' post place block batch i within is r =
      let same : objects_of lane' ≡ objects_of lane = λ k. record { spill = r.spill k } in (
        record {
          limit = i.limit;
          fit = i.fit;
          at_desk = i.at_desk;
          at_queue = i.at_queue;
          seat = i.seat;
          queue = i.queue;
          claims = i.claims;
          within = i.within;
          loads_within = each_snoc (λ p. p < length c.blocks) loaded place i.loads_within within;
          entries = i.entries;
          done = i.done;
          worked = subst (λ o. Worked c.job n post.queue.popped start.report.out post.report.out (objects_of first) o) (sym same) i.worked;
          fits = subst (λ o. c.job.fits n post.report.out o) (sym same) i.fits;
          moves = subst (λ o. c.job.moves (objects_of first) o) (sym same) i.moves;
          bytes = r.bytes ∙ i.bytes;
          log =
              r.log ∙ ap (λ l. option_map (λ loads. loads ++ (block.at, block.len) ∷ []) l) i.log ∙ more_loads loaded place block is (c.source first.reader).log;
          read_well = r.well ∙ i.read_well;
          spilled_well = ap (λ o. (c.spill o.spill).faults) same ∙ i.spilled_well;
        },
        record {
          within = within;
          number = r.numbered ∙ ap (λ b. b.no) is;
          size = r.size ∙ ap (λ b. b.len) is;
          bytes =
              subst (λ b. IfSome (told_by c first) (λ bytes. batch.entry.bytes ≡ slice_range bytes b.at (b.at + b.len))) is
              (subst (λ t. IfSome t (λ bytes. batch.entry.bytes ≡ slice_range bytes block.at (block.at + block.len))) i.bytes r.body);
        },
      )
    where
      more_loads : (loaded : List ℕ) (place : ℕ) (block : BlockAt) → block ≡ block_at c.blocks place → (log : Option (List (ℕ × ℕ)))
          → option_map (λ loads. loads ++ (block.at, block.len) ∷ []) (option_map (λ loads. loads ++ map (load_at c.blocks) loaded) log) ≡ option_map (λ loads. loads ++ map (load_at c.blocks) (loaded ++ place ∷ [])) log
      more_loads loaded place block is None = refl
      more_loads loaded place block is (Some loads) =
          ap (λ b. Some ((loads ++ map (load_at c.blocks) loaded) ++ (b.at, b.len) ∷ [])) is
          ∙ ap Some (append_assoc loads (map (load_at c.blocks) loaded) (load_at c.blocks place ∷ []) ∙ ap (λ l. loads ++ l) (sym (map-append (load_at c.blocks) loaded (place ∷ []))))

  -- a body couldn't be loaded
  pub not_loaded : (loaded pushed : List ℕ) (lane lane' : Lane R S) (post : Post L Out) (block : BlockAt) (trouble : Trouble)
      → Going c n first start loaded pushed lane post → Loads c.source n block lane lane' (Err trouble) → Leaving c n first start lane' post trouble
  not_loaded loaded pushed lane lane' post block trouble i r =
      let same : objects_of lane' ≡ objects_of lane = λ k. record { spill = r.spill k } in
      record {
        seat = i.seat;
        queue = i.queue;
        entries = paired_each (IsLoaded c.blocks (told_by c first)) pushed post.queue.pushed i.entries;
        moves = subst (λ o. c.job.moves (objects_of first) o) (sym same) i.moves;
        bytes = r.bytes ∙ i.bytes;
        log = (loaded, i.loads_within, r.kept ∙ i.log);
        never_falls = (let a = i.read_well in let b = r.never_falls in omega arith, let w = i.spilled_well in let b = ap (λ o. (c.spill o.spill).faults) same in omega arith);
        cause = why trouble r.cause (ap (λ o. (c.spill o.spill).faults) same ∙ i.spilled_well);
      }
    where
      why : (t : Trouble) → LoadCause n (c.source lane.reader) (c.source lane'.reader) t → AreUncounted c.spill (objects_of first) (objects_of lane') → LaneCause c.job c.source c.spill n (SomeChanges c.job post.queue.popped) first lane' t
      why (troubles.Source whom) cause well = (cause.0, subst (λ f. Rose f (c.source lane'.reader).faults) i.read_well cause.1, well)
      why (troubles.Spill whom) cause well = absurd cause
      why (troubles.Outside whom run at) cause well = absurd cause
      why (troubles.Changed pass block) cause well = absurd cause
      why troubles.Memory cause well = (cause ∙ i.read_well, well)

  -- a number was drawn and listed
  pub claimed_one : (lane : Lane R S) (post : Post L Out) (seat : SeatFacts) (claims : List ℕ) (place : ℕ)
      → Going c n first start post.seat.drawn post.seat.drawn lane post → place < c.desk.limit → seat ≡ record post.seat { seen = Some place; drawn = post.seat.drawn ++ place ∷ [] } → claims ≡ post.report.claims ++ place ∷ []
      → Going c n first start post.seat.drawn post.seat.drawn lane (record post { seat = seat; report = record post.report { claims = claims } })
  claimed_one lane post seat claims place i less is listed =
      let drawn : seat.drawn ≡ post.seat.drawn ++ place ∷ [] = ap (λ s. s.drawn) is in
      let few = i.limit in
      seated post.seat.drawn post.seat.drawn lane post seat claims i (after_claim post.seat seat is) (listed ∙ ap (λ l. l ++ place ∷ []) i.claims ∙ sym drawn)
      (subst (λ l. Each (λ p. p < length c.blocks) l) (sym drawn) (each_snoc (λ p. p < length c.blocks) post.seat.drawn place i.within (omega arith)))

  -- the body of a block lies inside the bytes of the lane's reader
  pub lies_inside : (loaded pushed : List ℕ) (lane : Lane R S) (post : Post L Out) (place : ℕ) (block : BlockAt)
      → Going c n first start loaded pushed lane post → place < length c.blocks → block ≡ block_at c.blocks place
      → IfSome (c.source lane.reader).bytes (λ bytes. block.at + block.len ≤ length bytes)
  lies_inside loaded pushed lane post place block i less is =
      subst (λ t. IfSome t (λ bytes. block.at + block.len ≤ length bytes)) (sym i.bytes)
      (subst (λ b. IfSome (told_by c first) (λ bytes. b.at + b.len ≤ length bytes)) (sym is) (each (told_by c first) i.fit))
    where
      each : (told : Option (List ℕ)) → FitIn c.blocks told → IfSome told (λ bytes. (block_at c.blocks place).at + (block_at c.blocks place).len ≤ length bytes)
      each None fit = tt
      each (Some bytes) fit = fit place (block_at c.blocks place) (at_place c.blocks place _ less)

  -- all that was claimed is pushed
  pub all_pushed : (claims : List ℕ) (lane : Lane R S) (post : Post L Out) → post.seat.drawn ≡ claims → Going c n first start claims claims lane post → AllPushed c n first start lane post
  all_pushed claims lane post is i = subst (λ l. Going c n first start l l lane post) (sym is) i

  -- after the queue was emptied, the lane has still seen the end
  pub emptied : (lane lane' : Lane R S) (post post' : Post L Out) → HasSeenEnd c post → Going c n first start post.seat.drawn post.seat.drawn lane' post' × (post'.seat ≡ post.seat)
      → AllPushed c n first start lane' post' × HasSeenEnd c post'
  emptied lane lane' post post' seen went = (all_pushed post.seat.drawn lane' post' (ap (λ s. s.drawn) went.1) went.0, subst (λ s. has_ended c.desk.limit s.seen ≡ true) (sym went.1) seen)
