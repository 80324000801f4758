-- The walk over the groups of a merge: the tiles written so far, and the groups that are left.
use Rattle.std.proofs.Common.{◌≡◌, ℕ, ◌-◌, ◌<◌, ◌≤◌, ◌^◌, nat_lt, Bool, true, false, cond, min, Option, None, Some, IfSome, Ok, Err, List, [], ◌∷◌, ◌++◌, length, refl, sym, ap, subst, ◌∙◌, arith, append_assoc, All}
use Rattle.std.specs.Prelude.{⊤}
use Rattle.std.proofs.lemmas.Bool.{lt-ltb, le-ltb}
use Rattle.std.proofs.lemmas.List.{append-nil, map-append, length-append}
use Rattle.std.proofs.lemmas.List.Elements.{All-from_recursion, All-nil, All-cons, All-append}
use Rattle.std.proofs.lemmas.List.Concat.{flat_map-cons}
use Rattle.std.specs.List.{AllByRecursion}
use Rattle.mvt_codec.proofs.ItemLengths.{item_len}
use Rattle.run_merge.specs.declared.cursor.Cursor.{Cursor}
use Rattle.run_merge.specs.declared.cursor.Head.{Head}
use Rattle.tb_types.specs.Needs.{group_need}
use Rattle.tb_types.specs.declared.trouble.Whom.TheVariants as whom
use Rattle.tb_outside.specs.Spill.{SpillSeen, Runs}
use Rattle.mvt_codec.specs.declared.item.RunItem.{RunItem}
use Rattle.mvt_codec.specs.declared.item.Group.{Group}
use Rattle.mvt_codec.specs.Items.{item_text, items_bytes}
use Rattle.pmtiles_dirs.specs.Contents.{Tile}
use Rattle.feature_runs.specs.Writing as buffers
use Rattle.pmtiles_file.specs.Spool.{KeepsEnded}
use Rattle.pmtiles_file.specs.Writing.{WriterSeen, Wrote, RunsStand, next_id}
use Rattle.run_merge.specs.declared.merge_err.MergeErr.{MergeErr}
use Rattle.run_merge.specs.declared.merge_err.MergeErr.TheVariants as errors
use Rattle.run_merge.specs.declared.named_run.Store.TheVariants as stores
use Rattle.run_merge.specs.Answers.{Merging, IfNext, Gives, IsAtEnd, first_need}
use Rattle.run_merge.specs.Cursors.{AreThere, AreTold, AreFrom, IsFrom, cursors_of, head_tile, left_groups}
use Rattle.run_merge.specs.Objects.{Objects, AllTell, Keeps, NoneRose, spill_of}
use Rattle.run_merge.proofs.ObjectSteps.{keeps_refl, keeps_trans, keeps_same, keeps_spool, none_refl, none_trans, none_same, none_spool, only_after, only_spool, tell_still, kept_told, there_still, told_still, groups_still}
use Rattle.tile_model.specs.Map.{tile_from, tiles_from}
use Rattle.tile_model.specs.Needs.{tile_need, first_over}
use Rattle.build_one.specs.Writing.{HasWrote, IsDecoded, Writes, TileCounts, TileAnswers, Ends, Stays, TilesAnswers}
use Rattle.build_one.proofs.Kept.{of-kept, kept-of, kept-both}

-- ---- the first that is above the part

-- none of some groups is, and then none of more or this
pub over-behind : (part : ℕ) (done more : List (ℕ × List RunItem)) → first_over part done ≡ None → first_over part (done ++ more) ≡ first_over part more
over-behind part [] more h = refl
over-behind part (g ∷ done) more h = go (nat_lt part (tile_need g)) h (λ is. over-behind part done more is)
  where
    go : (b : Bool) → cond b (Some (tile_need g)) (first_over part done) ≡ None → (first_over part done ≡ None → first_over part (done ++ more) ≡ first_over part more)
        → cond b (Some (tile_need g)) (first_over part (done ++ more)) ≡ first_over part more
    go true is f = absurd cc
    go false is f = f is

pub over-not : (part : ℕ) (g : ℕ × List RunItem) (more : List (ℕ × List RunItem)) → tile_need g ≤ part → first_over part (g ∷ more) ≡ first_over part more
over-not part g more h = ap (λ b. cond b (Some (tile_need g)) (first_over part more)) (le-ltb part (tile_need g) h)

pub over-is : (part : ℕ) (g : ℕ × List RunItem) (more : List (ℕ × List RunItem)) → part < tile_need g → first_over part (g ∷ more) ≡ Some (tile_need g)
over-is part g more h = ap (λ b. cond b (Some (tile_need g)) (first_over part more)) (lt-ltb part (tile_need g) h)

-- the need of a group whose length counts as the last number of 64 bits where it is above it
pub need-of : (sum bytes : ℕ) → bytes ≡ min sum (2 ^ 64 - 1) → group_need bytes ≡ group_need sum
need-of sum bytes h = omega (arith, h)

is-over : (part need : ℕ) (groups : List (ℕ × List RunItem)) → part < need → need ≡ first_need groups → first_over part groups ≡ Some need
is-over part need [] above is = absurd (omega (arith, above, is))
is-over part need (g ∷ groups) above is = over-is part g groups (subst (λ n. part < n) is above) ∙ ap Some (sym is)

-- a group has bytes
pub some-bytes : (items : List RunItem) → 0 < length items → 1 ≤ length (items_bytes items)
some-bytes [] some = absurd (omega (arith, some))
some-bytes (x ∷ xs) some = omega (arith, item_len x, ap length (flat_map-cons item_text x xs), length-append (item_text x) (items_bytes xs))

-- every tile is from 0 on
from-each : (cursors : List Cursor) → AllByRecursion (IsFrom 0) cursors
from-each [] = tt
from-each (c ∷ cursors) = (by c.head, from-each cursors)
  where
    by : (head : Option Head) → IfSome head (λ h. 0 ≤ head_tile h)
    by None = tt
    by (Some h) = omega arith

pub from-zero : (n : ℕ) (cursors : List Cursor) → n ≡ 0 → AreFrom n cursors
from-zero n cursors is = subst (λ k. AreFrom k cursors) (sym is) (All-from_recursion (IsFrom 0) cursors (from-each cursors))

-- what a merge keeps
pub stays-of : {R : Type 0} (old new : Objects R) → Keeps old new → Stays old new
stays-of old new k = record { readers = k.readers; spills = k.spills; spool = kept-of old.spool.runs new.spool.runs k.spool }

-- and a writer, behind it
stays-spool : {R : Type 0} (old mid : Objects R) (t : SpillSeen) → Keeps old mid → KeepsEnded mid.spool.runs t.runs → Stays old (record { readers = mid.readers; spills = mid.spills; spool = t })
stays-spool old mid t k h = record { readers = k.readers; spills = k.spills; spool = kept-both old.spool.runs mid.spool.runs t.runs (kept-of old.spool.runs mid.spool.runs k.spool) h }

module _ {R : Type 0} (names : List (List ℕ)) (part : ℕ) (merge : Merging) (old : WriterSeen) (before : Objects R) where
  abbrev groups : List (ℕ × List RunItem)
  groups = left_groups before (cursors_of merge.readers)

  -- The walk, with the tiles written so far, of these groups.
  pub record Walk (m : Merging) (w : WriterSeen) (now : Objects R) : Type 0 where
    pub layers : m.layers ≡ merge.layers
    pub there : AreThere now m.readers
    pub told : AreTold now merge.layers m.readers
    pub keeps : Keeps before now
    pub counts : NoneRose before now
    pub meta : w.meta ≡ old.meta
    pub stand : RunsStand w now.spool.runs
    pub next : AreFrom (next_id w) (cursors_of m.readers)
    pub done : List (ℕ × List RunItem)
    pub all : AllTell before → groups ≡ done ++ left_groups now (cursors_of m.readers)
    pub small : AllTell before → first_over part done ≡ None
    pub wrote : AllTell before → (tiles : List Tile) → Writes old before.spool.runs before.spool.runs tiles → Writes w before.spool.runs now.spool.runs (tiles ++ tiles_from names done)
    pub decoded : All (IsDecoded names) done

  pub walk-start : AreThere before merge.readers → AreTold before merge.layers merge.readers → AreFrom (next_id old) (cursors_of merge.readers) → RunsStand old before.spool.runs → Walk merge old before
  walk-start there told from stand = record {
    layers = refl;
    there = there;
    told = told;
    keeps = keeps_refl before;
    counts = none_refl before;
    meta = refl;
    stand = stand;
    next = from;
    done = [];
    all = λ tell. refl;
    small = λ tell. refl;
    wrote = λ tell tiles h. subst (Writes old before.spool.runs before.spool.runs) (sym (append-nil tiles)) h;
    decoded = All-nil (IsDecoded names);
  }

  module _ (m : Merging) (w : WriterSeen) (now : Objects R) (walk : Walk m w now) where
    -- the merge is at its end
    pub walk-end : (n : Objects R) (m' : Merging) (u : ⊤) → n ≡ now → IsAtEnd now m m' → TilesAnswers names part merge old w before n (Ok u)
    walk-end n m' u same end = subst (λ (o : Objects R). TilesAnswers names part merge old w before o (Ok u)) (sym same) (record {
      meta = walk.meta;
      stays = stays-of before now walk.keeps;
      ends = (walk.counts, λ tell. ap (first_over part) (whole tell) ∙ walk.small tell);
      stands = walk.stand;
      decoded = λ tell. subst (All (IsDecoded names)) (sym (whole tell)) walk.decoded;
      wrote = λ tell tiles h. subst (λ gs. Writes w before.spool.runs now.spool.runs (tiles ++ tiles_from names gs)) (sym (whole tell)) (walk.wrote tell tiles h);
    })
      where
        whole : AllTell before → groups ≡ walk.done
        whole tell = walk.all tell ∙ (ap (λ gs. walk.done ++ gs) (end.groups (tell_still before now walk.keeps tell)) ∙ append-nil walk.done)

    -- the merge is refused
    refused : (n : Objects R) (e : MergeErr) → Keeps now n → Ends {A = ⊤} part groups before n (Err e) → TilesAnswers names part merge old w before n (Err e)
    refused n e keeps ends = record { meta = walk.meta; stays = stays-of before n (keeps_trans before now n walk.keeps keeps); ends = ends; stands = tt; decoded = tt; wrote = tt }

    pub walk-refused : (n : Objects R) (m' : Merging) (e : MergeErr) → Keeps now n → IfNext now n part m m' (Err e) → TilesAnswers names part merge old w before n (Err e)
    walk-refused n m' (errors.Spill whom) keeps h = refused n (errors.Spill whom) keeps (h.run.store, h.whom_is, only_after before now n h.run.store walk.counts h.only)
    walk-refused n m' (errors.Outside whom number at) keeps h =
        refused n (errors.Outside whom number at) keeps (h.run.store, h.whom_is, still-untold (spill_of before h.run.store).runs (spill_of now h.run.store).runs (kept_told before now h.run walk.keeps) h.untold, none_trans before now n walk.counts (none_same now n h.same))
      where
        still-untold : (o p : Option Runs) → buffers.KeepsEnded o p → p ≡ None → o ≡ None
        still-untold None p k is = refl
        still-untold (Some runs) p k is = absurd (subst (λ (q : Option Runs). buffers.KeepsEnded (Some runs) q) is k)
    walk-refused n m' (errors.TooLarge need) keeps h =
        refused n (errors.TooLarge need) keeps (
          none_trans before now n walk.counts (none_same now n h.0),
          λ tell.
              let still = tell_still before now walk.keeps tell in
              ap (first_over part) (walk.all tell) ∙ (over-behind part walk.done (left_groups now (cursors_of m.readers)) (walk.small tell) ∙ is-over part need (left_groups now (cursors_of m.readers)) h.1.above (h.1.need_is still)),
        )
    walk-refused n m' errors.Memory keeps h = refused n errors.Memory keeps (none_trans before now n walk.counts (none_same now n h))

    -- a group is given, and its tile is written
    module _ (n : Objects R) (m' : Merging) (g : Group) (same : n ≡ now) (gives : Gives now part m m' g) (w' : WriterSeen) (spool : SpillSeen) where
      abbrev after : Objects R
      after = record { readers = n.readers; spills = n.spills; spool = spool }

      abbrev entry : ℕ × List RunItem
      entry = (g.tile.0, g.items)

      pub walk-next : TileAnswers w w' (tile_from names entry) n.spool spool (Ok tt) → IsDecoded names entry → Walk m' w' after
      walk-next t decoded =
          let keeps : Keeps now after = keeps_trans now n after (keeps_same now n same) (keeps_spool n.readers n.spills n.spool spool (of-kept n.spool.runs spool.runs t.kept t.untold)) in
          let counts : NoneRose now after = none_trans now n after (none_same now n same) (none_spool n.readers n.spills n.spool spool t.counts) in
          record {
            layers = gives.ready.layers ∙ walk.layers;
            there = there_still now after keeps m'.readers gives.ready.there;
            told = told_still now after keeps merge.layers m'.readers (subst (λ l. AreTold now l m'.readers) walk.layers gives.ready.told_are);
            keeps = keeps_trans before now after walk.keeps keeps;
            counts = none_trans before now after walk.counts counts;
            meta = t.meta ∙ walk.meta;
            stand = t.stands;
            next = subst (λ k. AreFrom k (cursors_of m'.readers)) (sym t.next) gives.later;
            done = walk.done ++ entry ∷ [];
            all = λ tell.
                let still = tell_still before now walk.keeps tell in
                walk.all tell ∙ (ap (λ gs. walk.done ++ gs) (gives.groups still)
                ∙ (sym (append_assoc walk.done (entry ∷ []) (left_groups now (cursors_of m'.readers)))
                ∙ ap (λ gs. (walk.done ++ entry ∷ []) ++ gs) (sym (groups_still now after keeps merge.layers m'.readers (subst (λ l. AreTold now l m'.readers) walk.layers gives.ready.told_are)))));
            small = λ tell. over-behind part walk.done (entry ∷ []) (walk.small tell) ∙ over-not part entry [] (subst (λ k. k ≤ part) (need-of (length (items_bytes g.items)) g.bytes gives.is.bytes) gives.fits);
            wrote = λ tell tiles h. wrote-more tell tiles h;
            decoded = All-append (IsDecoded names) walk.done (entry ∷ []) walk.decoded (All-cons (IsDecoded names) entry [] decoded (All-nil (IsDecoded names)));
          }
        where
          moved : (a b : Runs) → Some a ≡ Some b → (ts : List Tile) → Wrote w a.ended ts → Wrote w b.ended ts
          moved a b e ts h = let same-runs : a ≡ b = cc in subst (λ (x : Runs). Wrote w x.ended ts) same-runs h

          wrote-more : AllTell before → (tiles : List Tile) → Writes old before.spool.runs before.spool.runs tiles → Writes w' before.spool.runs spool.runs (tiles ++ tiles_from names (walk.done ++ entry ∷ []))
          wrote-more tell tiles h = λ runs is.
              let one = walk.wrote tell tiles h runs is in
              let told : n.spool.runs ≡ Some one.runs = ap (λ (o : Objects R). o.spool.runs) same ∙ one.told in
              let again : Writes w n.spool.runs n.spool.runs (tiles ++ tiles_from names walk.done) = λ rs rs-is. record { runs = rs; told = rs-is; wrote = moved one.runs rs (sym told ∙ rs-is) (tiles ++ tiles_from names walk.done) one.wrote } in
              let more = t.added (tiles ++ tiles_from names walk.done) again one.runs told in
              subst (λ ts. HasWrote w' spool.runs ts)
              (append_assoc tiles (tiles_from names walk.done) (tile_from names entry ∷ []) ∙ ap (λ ts. tiles ++ ts) (sym (map-append (tile_from names) walk.done (entry ∷ [])))) more

      -- or its tile isn't
      pub walk-tile-refused : (e : MergeErr) → TileAnswers w w' (tile_from names entry) n.spool spool (Err e) → TilesAnswers names part merge old w' before after (Err e)
      walk-tile-refused e t = record {
        meta = t.meta ∙ walk.meta;
        stays = stays-spool before n spool (keeps_trans before now n walk.keeps (keeps_same now n same)) t.kept;
        ends = by e t.counts;
        stands = tt;
        decoded = tt;
        wrote = tt;
      }
        where
          so-far : NoneRose before n
          so-far = none_trans before now n walk.counts (none_same now n same)

          by : (e : MergeErr) → TileCounts {A = ⊤} (Err e) n.spool.faults spool.faults → Ends {A = ⊤} part groups before after (Err e)
          by (errors.Spill whom.Spool) rose = (stores.Spool, refl, only_after before n after stores.Spool so-far (only_spool n.readers n.spills n.spool spool rose t.never_falls))
          by (errors.Spill whom.Profile) h = absurd h
          by (errors.Spill (whom.Lane k)) h = absurd h
          by (errors.Spill whom.Archive) h = absurd h
          by (errors.Spill whom.Console) h = absurd h
          by (errors.Outside v run at) h = absurd h
          by (errors.TooLarge need) h = absurd h
          by errors.Memory stay = none_trans before n after so-far (none_spool n.readers n.spills n.spool spool stay)
