-- What all lanes did where none had trouble, with what was left in the queue worked on the first.
use Rattle.std.proofs.Common.{◌≡◌, ◌∙◌, ℕ, zero, suc, ◌<◌, true, List, [], ◌∷◌, ◌++◌, length, map, Ok, Option, None, ap, sym, refl, subst, arith}
use Rattle.std.specs.Prelude.{MatchOption}
use Rattle.std.specs.List.{flat_map, sum_by}
use Rattle.std.specs.Option.{option_map}
use Rattle.std.proofs.lemmas.List.{length-map, append-nil}
use Rattle.std.proofs.lemmas.List.Sums.{sum_by-append}
use mathlib.Core.Option.{some, some-injective}
use lib.ListN.{get_elem?}
use Rattle.tb_types.specs.Bags.{IsSameBag}
use Rattle.tb_types.specs.declared.trouble.Trouble.{Trouble}
use Rattle.tb_outside.specs.declared.lane.Lane.{Lane}
use Rattle.claim_desk.specs.Facts.{SeatFacts, has_ended}
use Rattle.batch_queue.specs.Facts.{PassFacts}
use Rattle.batch_queue.specs.declared.entry.Entry.{Entry}
use Rattle.work_topology.specs.declared.post.Report.{Report}
use Rattle.work_topology.specs.declared.post.Post.{Post}
use Rattle.work_topology.specs.Lists.{Each, Paired}
use Rattle.work_topology.specs.Blocks.{IsLoaded, load_at}
use Rattle.work_topology.specs.Objects.{Objects, objects_of}
use Rattle.work_topology.specs.Job.{Meaning, Worked, GoesOn}
use Rattle.work_topology.specs.Lane.{Scene, Leaving, IsDone, AllPushed, HasSeenEnd, told_by}
use Rattle.work_topology.specs.Parts.{IsDealt, AreGathered, PopsAlso, WorksLeft, HasWorked, HaveWorked}
use Rattle.work_topology.proofs.Pairs.{inside, there, paired_at}
use Rattle.work_topology.proofs.Bags.{at_map, flat_map_each, flat_map_map}
use Rattle.work_topology.proofs.Left.{works_none}
use Rattle.work_topology.proofs.Runs.{HaveRun}

pub paired_append : {A B : Type 0} (P : A → B → Type 0) (xs xs' : List A) (ys ys' : List B) → Paired P xs ys → Paired P xs' ys' → Paired P (xs ++ xs') (ys ++ ys')
paired_append P [] xs' [] ys' p q = q
paired_append P [] xs' (y ∷ ys) ys' p q = absurd p
paired_append P (x ∷ xs) xs' [] ys' p q = absurd p
paired_append P (x ∷ xs) xs' (y ∷ ys) ys' p q = (p.0, paired_append P xs xs' ys ys' p.1 q)

pub worked_append : {Seed Out S : Type 0} (m : Meaning Seed Out S) (n : ℕ) (es fs : List Entry) (a b c : Out) (o p q : Objects S) → Worked m n es a b o p → Worked m n fs b c p q → Worked m n (es ++ fs) a c o q
worked_append m n [] fs a b c o p q w r = subst (λ (t : _ × _). Worked m n fs t.0 c t.1 q) (λ i. (w.0 i, w.1 i)) r
worked_append m n (e ∷ es) fs a b c o p q w r = (w.0, w.1, w.2, worked_append m n es fs w.0 b c w.1 p q w.3 r)

pub well_of : {A B : Type 0} (C : Trouble → Type 0) (t : Option Trouble) → t ≡ None → MatchOption t (A × B) C → A × B
well_of {A} {B} C t none r = subst (λ u. MatchOption u (A × B) C) none r

module _ {L Seed Out R S : Type 0} (c : Scene Seed Out R S) (laws : GoesOn c.job) where
  -- a lane that ran well, and then worked batches that were left
  part : (n : ℕ) (lane lane' lane'' : Lane R S) (start report'' : Report Out) (post post' : Post L Out) (es : List Entry)
      → post.report ≡ start → AllPushed c n lane post lane' post' → WorksLeft c.job c.spill n es lane' post'.report lane'' report'' (Ok tt)
      → HasWorked c.job c.source c.spill c.blocks n lane lane'' start report'' post'.queue.pushed (post'.queue.popped ++ es)
  part n lane lane' lane'' start report'' post post' es is i w =
      let claims : post'.seat.drawn ≡ report''.claims = sym i.claims ∙ sym w.claims in
      record {
        within = subst (λ l. Each (λ place. place < length c.blocks) l) claims i.within;
        loaded = subst (λ l. Paired (IsLoaded c.blocks (told_by c lane)) l post'.queue.pushed) claims i.entries;
        done =
            subst (λ ds. Paired (IsDone n) (post'.queue.popped ++ es) ds) (sym w.listed.1)
            (paired_append (IsDone n) post'.queue.popped es post'.report.done w.listed.0 i.done w.listed.2);
        works =
            worked_append c.job n post'.queue.popped es start.out post'.report.out report''.out (objects_of lane) (objects_of lane') (objects_of lane'')
            (subst (λ r. Worked c.job n post'.queue.popped r.out post'.report.out (objects_of lane) (objects_of lane')) is i.worked)
            w.worked.0;
        fits = w.worked.1;
        moves = laws.follows _ _ _ i.moves w.moves;
        bytes = ap (λ r. (c.source r).bytes) w.reader ∙ i.bytes;
        log = ap (λ r. (c.source r).log) w.reader ∙ subst (λ l. (c.source lane'.reader).log ≡ option_map (λ loads. loads ++ map (load_at c.blocks) l) (c.source lane.reader).log) claims i.log;
        counts = (ap (λ r. (c.source r).faults) w.reader ∙ i.read_well, w.worked.2 ∙ i.spilled_well);
      }

  -- the same without any that were left
  alone : (n : ℕ) (lane lane' : Lane R S) (start : Report Out) (post post' : Post L Out)
      → post.report ≡ start → AllPushed c n lane post lane' post' → HasWorked c.job c.source c.spill c.blocks n lane lane' start post'.report post'.queue.pushed post'.queue.popped
  alone n lane lane' start post post' is i =
      subst (λ l. HasWorked c.job c.source c.spill c.blocks n lane lane' start post'.report post'.queue.pushed l) (append-nil post'.queue.popped)
      (part n lane lane' lane' start post'.report post post' [] is i (works_none c.job laws c.spill n lane' post'.report i.fits))

  module _ (lanes : List (Lane R S)) (posts : List (Post L Out)) (starts : List (Report Out)) (l0 l0'' : Lane R S) (ls : List (Lane R S)) (p0 : Post L Out) (ps : List (Post L Out)) (r0'' : Report Out) (es : List Entry)
      (ran : HaveRun c lanes (l0 ∷ ls) posts (p0 ∷ ps)) (none : Each (λ post. post.report.trouble ≡ None) (p0 ∷ ps))
      (same : length starts ≡ length lanes) (dealt : Paired (IsDealt c.desk c.queue) starts posts) (left : WorksLeft c.job c.spill 0 es l0 p0.report l0'' r0'' (Ok tt)) where
    -- each lane ran well
    well : (k : ℕ) (lane lane' : Lane R S) (start : Report Out) (post' : Post L Out) → get_elem? lanes k ≡ some lane → get_elem? (l0 ∷ ls) k ≡ some lane' → get_elem? starts k ≡ some start → get_elem? (p0 ∷ ps) k ≡ some post'
        → (post : Post L Out) × (post.report ≡ start) × AllPushed c k lane post lane' post' × HasSeenEnd c post'
    well k lane lane' start post' e e' s f' =
        let b = ran.posts_len in
        let less = inside lanes k lane e in
        let post = there posts k (omega arith) in
        let r = well_of (Leaving c k lane post.0 lane' post') post'.report.trouble (none k post' f') (ran.each k lane lane' post.0 post' e e' post.1 f') in
        (post.0, (paired_at (IsDealt c.desk c.queue) starts posts dealt k start post.0 s post.1).reports, r.0, r.1)

    abbrev pushed : List (List Entry)
    pushed = map (λ post. post.queue.pushed) (p0 ∷ ps)

    abbrev popped : List (List Entry)
    popped = (p0.queue.popped ++ es) ∷ map (λ post. post.queue.popped) ps

    abbrev reports : List (Report Out)
    reports = r0'' ∷ map (λ post. post.report) ps

    each : (k : ℕ) (lane lane'' : Lane R S) (start report : Report Out) (xs ys : List Entry) → get_elem? lanes k ≡ some lane → get_elem? (l0'' ∷ ls) k ≡ some lane'' → get_elem? starts k ≡ some start → get_elem? reports k ≡ some report → get_elem? pushed k ≡ some xs → get_elem? popped k ≡ some ys
        → HasWorked c.job c.source c.spill c.blocks k lane lane'' start report xs ys
    each zero lane lane'' start report xs ys e e' s r x y =
        let w = well zero lane l0 start p0 e refl s refl in
        subst (λ (t : _ × _ × _ × _). HasWorked c.job c.source c.spill c.blocks zero lane t.0 start t.1 t.2 t.3)
        (λ i. (some-injective l0'' lane'' e' i, some-injective r0'' report r i, some-injective p0.queue.pushed xs x i, some-injective (p0.queue.popped ++ es) ys y i))
        (part zero lane l0 l0'' start r0'' w.0 p0 es w.1 w.2 left)
    each (suc k) lane lane'' start report xs ys e e' s r x y =
        let p = at_map (λ (post : Post L Out). post.report) ps k report r in
        let q = at_map (λ (post : Post L Out). post.queue.pushed) ps k xs x in
        let o = at_map (λ (post : Post L Out). post.queue.popped) ps k ys y in
        let pq : q.0 ≡ p.0 = some-injective q.0 p.0 (sym q.1 ∙ p.1) in
        let po : o.0 ≡ p.0 = some-injective o.0 p.0 (sym o.1 ∙ p.1) in
        let w = well (suc k) lane lane'' start p.0 e e' s p.1 in
        subst (λ (t : _ × _ × _). HasWorked c.job c.source c.spill c.blocks (suc k) lane lane'' start t.0 t.1 t.2)
        (λ i. (p.2 i, (ap (λ z. z.queue.pushed) (sym pq) ∙ q.2) i, (ap (λ z. z.queue.popped) (sym po) ∙ o.2) i))
        (alone (suc k) lane lane'' start w.0 p.0 w.1 w.2)

    -- each lane's claims are what its seat drew
    claims_of : Each (λ post. post.seat.drawn ≡ post.report.claims) (p0 ∷ ps)
    claims_of k post' at =
        let a = ran.lanes_len in let b = ran.posts_len in let d = ran.posts_len' in
        let less = inside (p0 ∷ ps) k post' at in
        let lane = there lanes k (omega arith) in let lane' = there (l0 ∷ ls) k (omega arith) in let start = there starts k (omega arith) in
        let w = well k lane.0 lane'.0 start.0 post' lane.1 lane'.1 start.1 at in sym w.2.claims

    pub all_worked : (seat : SeatFacts) (pass pass' : PassFacts) → c.desk.limit ≡ length c.blocks → AreGathered c.desk c.queue (p0 ∷ ps) seat pass (map (λ post. post.report) (p0 ∷ ps)) → PopsAlso pass es pass' → IsSameBag pass'.pushed pass'.popped
        → HaveWorked c.job c.source c.spill c.blocks lanes (l0'' ∷ ls) starts reports seat pass'
    all_worked seat pass pass' limit g pops settled =
        let a = ran.lanes_len in let b = ran.posts_len in let d = ran.posts_len' in
        let lens = length-map ps (λ (post : Post L Out). post.report) in
        let lens2 = length-map ps (λ (post : Post L Out). post.queue.pushed) in
        let lens3 = length-map ps (λ (post : Post L Out). post.queue.popped) in
        let lane = there lanes 0 (omega arith) in let start = there starts 0 (omega arith) in
        let seen = (well 0 lane.0 l0 start.0 p0 lane.1 refl start.1 refl).3 in
        record {
          lanes_len = omega arith;
          reports_len = omega arith;
          pushed = pushed;
          popped = popped;
          pushed_len = omega arith;
          popped_len = omega arith;
          each = each;
          seats = g.seats;
          limit = g.at_desk.1 ∙ limit;
          ended = subst (λ n. has_ended n seat.seen ≡ true) limit (g.ended seen);
          drawn =
              g.drawn ∙ flat_map_each (λ post. post.seat.drawn) (λ post. post.report.claims) (p0 ∷ ps) claims_of
              ∙ (λ i. sym left.claims i ++ sym (flat_map_map (λ (r : Report Out). r.claims) (λ (post : Post L Out). post.report) ps) i);
          passes = (ap (λ p. p.first) pops ∙ g.passes.0, ap (λ p. p.out) pops ∙ g.passes.1);
          all_pushed = ap (λ p. p.pushed) pops ∙ g.pushed ∙ sym (flat_map_map (λ (xs : List Entry). xs) (λ (post : Post L Out). post.queue.pushed) (p0 ∷ ps));
          all_popped = λ w.
              let rest : List Entry = flat_map (λ post. post.queue.popped) ps in
              let one = sum_by-append w (p0.queue.popped ++ es) (flat_map (λ xs. xs) (map (λ post. post.queue.popped) ps)) in
              let two = sum_by-append w p0.queue.popped es in
              let three = sum_by-append w p0.queue.popped rest in
              let four = sum_by-append w (p0.queue.popped ++ rest) es in
              let five = ap (λ l. sum_by w l) (flat_map_map (λ (xs : List Entry). xs) (λ (post : Post L Out). post.queue.popped) ps) in
              let six : sum_by w pass'.popped ≡ sum_by w ((p0.queue.popped ++ rest) ++ es) = ap (λ p. sum_by w p.popped) pops ∙ ap (λ l. sum_by w (l ++ es)) g.popped in
              omega arith;
          moved = settled;
        }
