-- All lanes after their runs: what was popped is one of the blocks, why a run ends early, and what all did where none had trouble.
use Rattle.std.proofs.Common.{◌≡◌, ◌∙◌, inl, inr, ℕ, List, map, Option, Some, None, ap, subst, arith}
use Rattle.std.specs.Prelude.{MatchOption, IfSome}
use Rattle.std.specs.List.{flat_map}
use mathlib.Core.Option.{some}
use lib.ListN.{get_elem?}
use Rattle.tb_types.specs.Bags.{IsSameBag}
use Rattle.tb_types.specs.declared.trouble.Trouble.{Trouble}
use Rattle.tb_outside.specs.declared.lane.Lane.{Lane}
use Rattle.batch_queue.specs.declared.entry.Entry.{Entry}
use Rattle.work_topology.specs.declared.post.Post.{Post}
use Rattle.work_topology.specs.Lists.{Each}
use Rattle.work_topology.specs.Blocks.{IsLoaded, IsSomeBlock}
use Rattle.work_topology.specs.Job.{SomeChanges}
use Rattle.work_topology.specs.Lane.{Scene, Leaving, AllPushed, HasSeenEnd, told_by}
use Rattle.work_topology.specs.Told.{IsFirstTold, NotBefore}
use Rattle.work_topology.specs.Ends.{IsGiven, IsChanged, PassCause, LaneStays, LanesStay}
use Rattle.work_topology.proofs.Pairs.{inside, there}
use Rattle.work_topology.proofs.Bags.{bag_has, of_some, at_map, map_at}
use Rattle.work_topology.proofs.Steps.{paired_each}
use Rattle.work_topology.proofs.Causes.{wider, Behind, pass_cause}
use Rattle.work_topology.proofs.Runs.{HaveRun}

module _ {L Seed Out R S : Type 0} (c : Scene Seed Out R S) (lanes lanes' : List (Lane R S)) (posts posts' : List (Post L Out)) (ran : HaveRun c lanes lanes' posts posts') where
  -- the lane, before and after, and the post before, of a post after
  pub record Found (k : ℕ) (post' : Post L Out) : Type 0 where
    lane : Lane R S
    lane' : Lane R S
    post : Post L Out
    at : get_elem? lanes k ≡ some lane
    at' : get_elem? lanes' k ≡ some lane'
    did : MatchOption post'.report.trouble (AllPushed c k lane post lane' post' × HasSeenEnd c post') (Leaving c k lane post lane' post')

  pub found : (k : ℕ) (post' : Post L Out) → get_elem? posts' k ≡ some post' → Found k post'
  found k post' at =
      let less = inside posts' k post' at in
      let a = ran.lanes_len in let b = ran.posts_len in let d = ran.posts_len' in
      let post = there posts k (omega arith) in let lane = there lanes k (omega arith) in let lane' = there lanes' k (omega arith) in
      record {
        lane = lane.0;
        lane' = lane'.0;
        post = post.0;
        at = lane.1;
        at' = lane'.1;
        did = ran.each k lane.0 lane'.0 post.0 post' lane.1 lane'.1 post.1 at;
      }

  -- each entry that a lane pushed is a block as that lane's source gave it
  pushed_of : (t : Option Trouble) (k : ℕ) (lane lane' : Lane R S) (post post' : Post L Out) → MatchOption t (AllPushed c k lane post lane' post' × HasSeenEnd c post') (Leaving c k lane post lane' post')
      → Each (IsSomeBlock c.blocks (told_by c lane)) post'.queue.pushed
  pushed_of None k lane lane' post post' r = paired_each (IsLoaded c.blocks (told_by c lane)) post'.seat.drawn post'.queue.pushed r.0.entries
  pushed_of (Some t) k lane lane' post post' r = r.entries

  abbrev pub IsOne : Entry → Type 0
  IsOne entry = (place : ℕ) × IsGiven c.source c.blocks lanes place entry

  -- so each entry in the bag of all that was pushed is a block that some lane's source gave
  pub is_one : (all : List Entry) → IsSameBag all (flat_map (λ post. post.queue.pushed) posts') → Each IsOne all
  is_one all same k entry at =
      let h = bag_has all (flat_map (λ post. post.queue.pushed) posts') same k entry at in
      let s = of_some (λ (post : Post L Out). post.queue.pushed) posts' h.0 entry h.1 in
      let f = found s.0 s.1 s.3 in
      let b = pushed_of s.1.report.trouble s.0 f.lane f.lane' f.post s.1 f.did s.2 entry s.4 in
      (b.0, (s.0, f.lane, f.at, b.1))

  -- what each lane is left as
  stays_of : (t : Option Trouble) (k : ℕ) (lane lane' : Lane R S) (post post' : Post L Out) → MatchOption t (AllPushed c k lane post lane' post' × HasSeenEnd c post') (Leaving c k lane post lane' post')
      → LaneStays c.job c.source c.spill c.blocks lane lane'
  stays_of None k lane lane' post post' r =
      let read = r.0.read_well in let well = r.0.spilled_well in
      record { bytes = r.0.bytes; loads = (post'.seat.drawn, r.0.within, r.0.log); never_falls = (omega arith, omega arith); moves = r.0.moves }
  stays_of (Some t) k lane lane' post post' r = record { bytes = r.bytes; loads = r.log; never_falls = r.never_falls; moves = r.moves }

  pub all_stay : LanesStay c.job c.source c.spill c.blocks lanes lanes'
  all_stay =
      record {
        same = ran.lanes_len;
        each = λ k lane lane' e e'.
            let b = ran.posts_len in let d = ran.posts_len' in
            let less = inside lanes k lane e in
            let post = there posts k (omega arith) in let post' = there posts' k (omega arith) in
            stays_of post'.0.report.trouble k lane lane' post.0 post'.0 (ran.each k lane lane' post.0 post'.0 e e' post.1 post'.1);
      }

  -- A lane's cause, where what it popped is in the bag of all that was pushed.
  module _ (all : List Entry) (same : IsSameBag all (flat_map (λ post. post.queue.pushed) posts')) (told_in : (k : ℕ) (post' : Post L Out) → get_elem? posts' k ≡ some post' → (i : ℕ) (entry : Entry) → get_elem? post'.queue.popped i ≡ some entry → (j : ℕ) × (get_elem? all j ≡ some entry)) where
    changed_one : (k : ℕ) (post' : Post L Out) → get_elem? posts' k ≡ some post' → (pass block : ℕ) → SomeChanges c.job post'.queue.popped pass block → IsChanged c.job c.source c.blocks lanes pass block
    changed_one k post' at pass block s =
        let h = told_in k post' at s.0 s.1 s.2 in
        let one = is_one all same h.0 s.1 h.1 in
        (one.0, s.1, one.1, s.3)

    behind_of : (told : Trouble) (t : Option Trouble) (k : ℕ) (lane lane' : Lane R S) (post post' : Post L Out) → get_elem? posts' k ≡ some post'
        → MatchOption t (AllPushed c k lane post lane' post' × HasSeenEnd c post') (Leaving c k lane post lane' post') → IfSome t (NotBefore told)
        → Behind c.job c.source c.spill (IsChanged c.job c.source c.blocks lanes) told k lane lane'
    behind_of told None k lane lane' post post' at r not = inl (r.0.read_well, r.0.spilled_well)
    behind_of told (Some t) k lane lane' post post' at r not = inr (t, wider c.job c.source c.spill k (SomeChanges c.job post'.queue.popped) (IsChanged c.job c.source c.blocks lanes) lane lane' t (changed_one k post' at) r.cause, not)

    -- why the lanes' runs end early
    pub runs_cause : (told : Trouble) → IsFirstTold (map (λ post. post.report) posts') told → PassCause c.job c.source c.spill c.blocks lanes lanes' told
    runs_cause told first =
        let p = at_map (λ (post : Post L Out). post.report) posts' first.place first.report first.at in
        let f = found first.place p.0 p.1 in
        let has : p.0.report.trouble ≡ Some told = ap (λ r. r.trouble) p.2 ∙ first.has in
        let left = subst (λ t. MatchOption t (AllPushed c first.place f.lane f.post f.lane' p.0 × HasSeenEnd c p.0) (Leaving c first.place f.lane f.post f.lane' p.0)) has f.did in
        pass_cause c.job c.source c.spill c.blocks lanes lanes' first.place f.lane f.lane' f.at f.at' told
        (wider c.job c.source c.spill first.place (SomeChanges c.job p.0.queue.popped) (IsChanged c.job c.source c.blocks lanes) f.lane f.lane' told (changed_one first.place p.0 p.1) left.cause)
        (
        λ j l l' e e'.
        let b = ran.posts_len in let d = ran.posts_len' in
        let less = inside lanes j l e in
        let post = there posts j (omega arith) in let post' = there posts' j (omega arith) in
        behind_of told post'.0.report.trouble j l l' post.0 post'.0 post'.1 (ran.each j l l' post.0 post'.0 e e' post.1 post'.1) (first.first j post'.0.report (map_at (λ (x : Post L Out). x.report) posts' j post'.0 post'.1))
        )
