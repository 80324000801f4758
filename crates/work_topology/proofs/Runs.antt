-- All lanes, before their runs and after.
use Rattle.std.proofs.Common.{◌≡◌, ◌∙◌, ℕ, ◌+◌, ◌-◌, ◌<◌, List, [], ◌∷◌, ◌++◌, length, Option, Some, None, ap, sym, refl, subst, arith}
use Rattle.std.specs.Prelude.{MatchOption}
use Rattle.std.specs.Option.{option_map}
use Rattle.std.proofs.lemmas.List.{append-nil}
use mathlib.Core.Option.{some, some-ne-none}
use lib.ListN.{get_elem?}
use Rattle.tb_types.specs.declared.trouble.Trouble.{Trouble}
use Rattle.tb_outside.specs.declared.lane.Lane.{Lane}
use Rattle.work_topology.specs.declared.post.Report.{Report}
use Rattle.work_topology.specs.declared.post.Post.{Post}
use Rattle.work_topology.specs.Lists.{Each, Paired}
use Rattle.work_topology.specs.Blocks.{IsLoaded, FitIn}
use Rattle.work_topology.specs.Spread.{AllReady, AllRun}
use Rattle.work_topology.specs.Objects.{objects_of}
use Rattle.work_topology.specs.Job.{Worked, GoesOn}
use Rattle.work_topology.specs.Lane.{Scene, Going, Leaving, IsDone, AllPushed, HasSeenEnd, IsReady, RunsOut, IsSameSeat, IsSamePass, told_by}
use Rattle.work_topology.specs.Parts.{IsDealt, Leads, OfFirst, AreDealt, AreTogether, MayWork}
use Rattle.work_topology.proofs.Pairs.{paired_len, paired_at, inside, there}

pub some_loads : {A : Type 0} (log : Option (List A)) → log ≡ option_map (λ loads. loads ++ []) log
some_loads None = refl
some_loads (Some loads) = ap Some (sym (append-nil loads))

paired_none : {A B : Type 0} (P : A → B → Type 0) (xs : List A) (ys : List B) → xs ≡ [] → ys ≡ [] → Paired P xs ys
paired_none P xs ys e f = subst (λ l. Paired P l ys) (sym e) (subst (λ l. Paired P [] l) (sym f) tt)

-- what became of each lane, since its start
pub record HaveRun {L Seed Out R S : Type 0} (c : Scene Seed Out R S) (lanes lanes' : List (Lane R S)) (posts posts' : List (Post L Out)) : Type 0 where
  pub lanes_len : length lanes' ≡ length lanes
  pub posts_len : length posts ≡ length lanes
  pub posts_len' : length posts' ≡ length lanes
  pub each :
      (k : ℕ) (lane lane' : Lane R S) (post post' : Post L Out) → get_elem? lanes k ≡ some lane → get_elem? lanes' k ≡ some lane' → get_elem? posts k ≡ some post → get_elem? posts' k ≡ some post'
      → MatchOption post'.report.trouble (AllPushed c k lane post lane' post' × HasSeenEnd c post') (Leaving c k lane post lane' post')

module _ {L Seed Out R S : Type 0} (c : Scene Seed Out R S) (laws : GoesOn c.job) where
  -- a post at which nothing was done is well since itself
  pub fresh : (n : ℕ) (lane : Lane R S) (start : Report Out) (post : Post L Out) → c.desk.limit ≡ length c.blocks → FitIn c.blocks (told_by c lane) → IsDealt c.desk c.queue start post
      → start.claims ≡ [] → start.done ≡ [] → c.job.fits n start.out (objects_of lane) → AllPushed c n lane post lane post
  fresh n lane start post limit fit d claims done fits =
      subst (λ l. Going c n lane post l l lane post) (sym d.no_claim)
      (record {
        limit = limit;
        fit = fit;
        at_desk = d.at_desk;
        at_queue = d.at_queue;
        seat = refl;
        queue = refl;
        claims = ap (λ r. r.claims) d.reports ∙ claims ∙ sym d.no_claim;
        within = subst (λ l. Each (λ place. place < length c.blocks) l) (sym d.no_claim) none;
        loads_within = none;
        entries = paired_none (IsLoaded c.blocks (told_by c lane)) [] post.queue.pushed refl d.no_push;
        done = paired_none (IsDone n) post.queue.popped post.report.done d.no_pop (ap (λ r. r.done) d.reports ∙ done);
        worked = subst (λ l. Worked c.job n l post.report.out post.report.out (objects_of lane) (objects_of lane)) (sym d.no_pop) (refl, refl);
        fits = subst (λ r. c.job.fits n r.out (objects_of lane)) (sym d.reports) fits;
        moves = laws.stays (objects_of lane);
        bytes = refl;
        log = some_loads (c.source lane.reader).log;
        read_well = refl;
        spilled_well = refl;
      })
    where
      none : Each (λ place. place < length c.blocks) []
      none k x e = absurd (some-ne-none x (sym e))

  module _ (lanes : List (Lane R S)) (starts : List (Report Out)) (posts : List (Post L Out)) (queue : ℕ) (may : MayWork c.job c.source c.blocks lanes c.desk starts queue) (dealt : AreDealt c.desk c.queue starts posts) where
    posts_len : length posts ≡ length lanes
    posts_len = paired_len _ starts posts dealt.each ∙ may.same

    -- each lane is well at its start
    pub fresh_at : (k : ℕ) (lane : Lane R S) (post : Post L Out) → get_elem? lanes k ≡ some lane → get_elem? posts k ≡ some post → AllPushed c k lane post lane post
    fresh_at k lane post e f =
        let same = may.same in
        let start = there starts k (let less = inside lanes k lane e in omega arith) in
        fresh k lane start.0 post may.limit (may.inside k lane e) (paired_at _ starts posts dealt.each k start.0 post start.1 f) (may.fresh k start.0 start.1).0 (may.fresh k start.0 start.1).1 (may.ready k lane start.0 e start.1)

    pub ready_all : AllReady (λ number lane post. IsReady c number lane post) 0 lanes posts
    ready_all =
        let len = posts_len in let few = may.few_lanes in
        record {
          same = len;
          some_item = may.some_lane;
          room = omega arith;
          each = λ k lane post e f. subst (λ n. IsReady c n lane post) (let z : k ≡ 0 + k = omega arith in z) (lane, post, fresh_at k lane post e f);
        }

    pub ran_all : (lanes' : List (Lane R S)) (posts' : List (Post L Out)) → AllRun (λ number lane post lane' post'. RunsOut c number lane post lane' post') 0 lanes posts lanes' posts' → HaveRun c lanes lanes' posts posts'
    ran_all lanes' posts' ran =
        record {
          lanes_len = ran.items_len;
          posts_len = posts_len;
          posts_len' = ran.places_len ∙ posts_len;
          each = λ k lane lane' post post' e e' f f'.
              subst (λ n. RunsOut c n lane post lane' post') (let z : 0 + k ≡ k = omega arith in z) (ran.each k lane lane' post post' e e' f f') lane post (fresh_at k lane post e f);
        }

    -- the seat and the pass of each post are those that were dealt
    same_of : (t : Option Trouble) (k : ℕ) (lane lane' : Lane R S) (post post' : Post L Out) → MatchOption t (AllPushed c k lane post lane' post' × HasSeenEnd c post') (Leaving c k lane post lane' post') → IsSameSeat post.seat post'.seat × IsSamePass post.queue post'.queue
    same_of None k lane lane' post post' r = (r.0.seat, r.0.queue)
    same_of (Some t) k lane lane' post post' r = (r.seat, r.queue)

    -- so the posts are still of one desk and one queue
    pub still_together : (lanes' : List (Lane R S)) (posts' : List (Post L Out)) → HaveRun c lanes lanes' posts posts' → AreTogether c.desk c.queue posts'
    still_together lanes' posts' ran =
        record {
          here = λ k post' f'.
              let less = inside posts' k post' f' in
              let a = ran.lanes_len in let b = ran.posts_len in let d = ran.posts_len' in
              let post = there posts k (omega arith) in let lane = there lanes k (omega arith) in let lane' = there lanes' k (omega arith) in
              let start = there starts k (let same = may.same in omega arith) in
              let s = same_of post'.report.trouble k lane.0 lane'.0 post.0 post' (ran.each k lane.0 lane'.0 post.0 post' lane.1 lane'.1 post.1 f') in
              let was = paired_at _ starts posts dealt.each k start.0 post.0 start.1 post.1 in
              ((ap (λ x. x.place) s.0 ∙ was.at_desk.0, ap (λ x. x.limit) s.0 ∙ was.at_desk.1), ap (λ x. x.place) s.1 ∙ was.at_queue);
          leads = first_leads (length starts) lanes lanes' posts posts' may.same ran.lanes_len ran.posts_len ran.posts_len' dealt.leads (λ lane lane' post post' e e' f f'. same_of post'.report.trouble 0 lane lane' post post' (ran.each 0 lane lane' post post' e e' f f'));
        }
      where
        first_leads : (n : ℕ) (ls ls' : List (Lane R S)) (ps ps' : List (Post L Out)) → n ≡ length ls → length ls' ≡ length ls → length ps ≡ length ls → length ps' ≡ length ls → OfFirst (Leads (n - 1)) ps
            → ((lane lane' : Lane R S) (post post' : Post L Out) → get_elem? ls 0 ≡ some lane → get_elem? ls' 0 ≡ some lane' → get_elem? ps 0 ≡ some post → get_elem? ps' 0 ≡ some post' → IsSameSeat post.seat post'.seat × IsSamePass post.queue post'.queue)
            → OfFirst (Leads (length ps' - 1)) ps'
        first_leads n ls ls' [] ps' z a b d leads same = absurd leads
        first_leads n ls ls' (p ∷ ps) [] z a b d leads same = absurd (omega arith)
        first_leads n [] ls' (p ∷ ps) (p' ∷ ps') z a b d leads same = absurd (omega arith)
        first_leads n (l ∷ ls) [] (p ∷ ps) (p' ∷ ps') z a b d leads same = absurd (omega arith)
        first_leads n (l ∷ ls) (l' ∷ ls') (p ∷ ps) (p' ∷ ps') z a b d leads same =
            let s = same l l' p p' refl refl refl refl in
            let one = leads.seat.1 in let two = leads.pass.1 in
            let out = ap (λ x. x.out) s.0 in let outs = ap (λ x. x.out) s.1 in
            let same_len : n - 1 ≡ length (p' ∷ ps') - 1 = omega arith in
            record {
              seat = (ap (λ x. x.first) s.0 ∙ leads.seat.0, out ∙ one ∙ same_len);
              pass = (ap (λ x. x.first) s.1 ∙ leads.pass.0, outs ∙ two ∙ same_len);
            }
