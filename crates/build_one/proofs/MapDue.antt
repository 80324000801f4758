-- The map that is written is the one that is due.
use Rattle.std.proofs.Common.{◌≡◌, ℕ, zero, suc, ◌≤◌, ◌<◌, ◌^◌, Option, None, Some, IfSome, IsSome, option_and_then, Result, Ok, Err, List, [], ◌∷◌, length, map, refl, sym, ap, subst, ◌∙◌, arith, inl, inr}
use Rattle.std.specs.List.{AllByRecursion}
use Rattle.std.proofs.lemmas.List.Elements.{recursion_from_All}
use Rattle.tb_types.specs.declared.location.Bounds.{Bounds}
use Rattle.tb_types.specs.declared.trouble.Stage.TheVariants as stages
use Rattle.tb_types.specs.declared.trouble.Whom.{Whom}
use Rattle.tb_types.specs.Counts.{Rose}
use Rattle.tb_outside.specs.Spill.{SpillSeen, Runs}
use Rattle.tb_outside.specs.Sink.{SinkSeen, with_more, GrowsByPrefix}
use Rattle.profile_rules.specs.declared.parts.Parts.{Parts}
use Rattle.profile_rules.specs.Sound.{IsSound}
use Rattle.mvt_codec.specs.declared.item.RunItem.{RunItem}
use Rattle.mvt_codec.specs.Grammar.{tile_of}
use Rattle.mvt_codec.specs.Groups.{layers_of}
use Rattle.pmtiles_dirs.specs.declared.meta.Meta.{Meta}
use Rattle.pmtiles_dirs.specs.declared.totals.Totals.{Totals}
use Rattle.pmtiles_dirs.specs.Archive.{archive_text}
use Rattle.pmtiles_dirs.specs.Back.{read_back}
use Rattle.pmtiles_dirs.specs.Contents.{Tile, entries_of}
use Rattle.pmtiles_file.specs.declared.finish_err.FinishErr.{FinishErr}
use Rattle.pmtiles_file.specs.declared.finish_err.FinishErr.TheVariants as finish_errors
use Rattle.pmtiles_file.specs.Finished.{FinishAnswers}
use Rattle.pmtiles_file.specs.Finished as finished
use Rattle.pmtiles_file.specs.Spool.{KeepsEnded}
use Rattle.pmtiles_file.specs.Writing.{WriterSeen}
use Rattle.run_merge.specs.declared.merge_err.MergeErr.{MergeErr}
use Rattle.run_merge.specs.declared.merge_err.MergeErr.TheVariants as errors
use Rattle.run_merge.specs.declared.named_run.Store.{Store}
use Rattle.run_merge.specs.declared.named_run.Store.TheVariants as stores
use Rattle.run_merge.specs.Objects.{Objects, AllTell, NoneRose, OnlyRose, spill_of, whom_of}
use Rattle.tile_model.specs.declared.stop.Stop.{Stop}
use Rattle.tile_model.specs.declared.stop.Stop.TheVariants as stops
use Rattle.tile_model.specs.Bounds.{first_box}
use Rattle.tile_model.specs.Due.{Due, Built, due_of_groups, if_small, built_of}
use Rattle.tile_model.specs.Extract.{features_of}
use Rattle.tile_model.specs.Map.{blocks_in, groups_of, layer_names, meta_of, tile_from, tiles_from}
use Rattle.tile_model.specs.Needs.{first_over}
use Rattle.tile_model.specs.Objects.{if_told}
use Rattle.build_one.specs.Answers.{OnBuilt, IfTold, IsDue, MayBuild, AreDecoded}
use Rattle.build_one.specs.Made.{IsDueBy, IsKnown, MapWritten, runs_named}
use Rattle.build_one.specs.Stages.{stop_of_tiles, stop_of_archive}
use Rattle.build_one.specs.Writing.{Stays, IsDecoded, MapAnswers}
use Rattle.build_one.proofs.Backs.{few-built}
use Rattle.build_one.proofs.Kept.{kept-self, kept-both}

-- ---- one lane's spill and the spool, as the merge sees them

abbrev pub seen_by : {R : Type 0} → List R → SpillSeen → SpillSeen → Objects R
seen_by readers s o = record { readers = readers; spills = s ∷ []; spool = o }

abbrev pub told_of : SpillSeen → SpillSeen → Option Runs
told_of s o = if_told (s ∷ []) o.runs

all-tell : {R : Type 0} (readers : List R) (s o : SpillSeen) (t u : Runs) → s.runs ≡ Some t → o.runs ≡ Some u → AllTell (seen_by readers s o)
all-tell readers s o t u e f = by
  where
    by : AllTell (seen_by readers s o)
    by (stores.Lane zero) = subst IsSome (sym e) refl
    by (stores.Lane (suc k)) = refl
    by stores.Spool = subst IsSome (sym f) refl

-- what holds where both tell
pub tell-if : {R : Type 0} (readers : List R) (s o : SpillSeen) (P : Type 0) → (AllTell (seen_by readers s o) → (runs : Runs) → o.runs ≡ Some runs → P) → IfTold (told_of s o) P
tell-if readers s o P f = by s.runs o.runs refl refl
  where
    by : (a b : Option Runs) → s.runs ≡ a → o.runs ≡ b → IfTold (option_and_then (λ (told : Runs). b) a) P
    by None b e g = tt
    by (Some t) None e g = tt
    by (Some t) (Some u) e g = f (all-tell readers s o t u e g) u g

both-if : (told : Option Runs) (A B : Type 0) → IfTold told A → IfTold told (A → B) → IfTold told B
both-if None A B h k = tt
both-if (Some runs) A B h k = k h

if-due : (parts : Parts) (part : ℕ) (told : Option Runs) (groups : List (ℕ × List RunItem)) (box : Option Bounds) (due : Option Due) (P : Due → Type 0) → IsKnown parts part told groups box due → ((d : Due) → IsDueBy parts part told groups box d → P d)
    → IfSome due P
if-due parts part told groups box None P known f = tt
if-due parts part told groups box (Some d) P known f = f d known

any-due : (due : Option Due) → IfSome due (λ d. Unit {0})
any-due None = tt
any-due (Some d) = tt

-- what is due by groups is an archive, or the need of a tile
may-build : (o : Option ℕ) (built : Built) → MayBuild (if_small o built)
may-build None built = tt
may-build (Some need) built = refl

-- tiles whose items are decoded are those of the groups
decoded-each : (names : List (List ℕ)) (groups : List (ℕ × List RunItem)) → AllByRecursion (IsDecoded names) groups
    → map (λ (tile : Tile). tile_of tile.bytes) (tiles_from names groups) ≡ map (λ (group : ℕ × List RunItem). Ok (layers_of names group.1)) groups
decoded-each names [] h = refl
decoded-each names (group ∷ groups) h = λ i. h.0 i ∷ decoded-each names groups h.1 i

-- a count that can't rise
no-rise : Rose 0 0 → ⊥
no-rise rose = absurd (omega (arith, rose))

-- the archive's answer is the build's
abbrev pub IsFinished : Result Totals FinishErr → Result Totals Stop → Type 0
IsFinished (Ok totals) r = r ≡ Ok totals
IsFinished (Err e) r = r ≡ Err (stop_of_archive e)

-- memory wants before anything is written
pub map-early : (due : Option Due) (s o : SpillSeen) (k : SinkSeen) → MapWritten due s s o o k k (Err stops.Memory)
map-early due s o k = record {
  told = any-due due;
  written = refl;
  back = tt;
  decoded = tt;
  counts = ((refl, refl), refl);
  spill_runs = refl;
  kept = kept-self o.runs;
  spill_never_falls = omega arith;
  spool_never_falls = omega arith;
  sink_never_falls = omega arith;
}

module _ {R : Type 0} (parts : Parts) (part : ℕ) (box : Option Bounds) (sound : IsSound parts) (groups : List (ℕ × List RunItem)) (readers later : List R) (s s' o mid : SpillSeen) (due : Option Due)
    (known : IsKnown parts part (told_of s o) groups box due) (stays : Stays (seen_by readers s o) (seen_by later s' mid)) where
  abbrev before : Objects R
  before = seen_by readers s o

  abbrev after : Objects R
  after = seen_by later s' mid

  spill-runs : s'.runs ≡ s.runs
  spill-runs = let e = stays.spills in cc

  still : NoneRose before after → (s'.faults ≡ s.faults) × (mid.faults ≡ o.faults)
  still none = (none (stores.Lane 0), none stores.Spool)

  same-le : (m n : ℕ) → n ≡ m → m ≤ n
  same-le m n h = omega (arith, h)

  -- ---- the tiles aren't written

  tile-due : (need : ℕ) → (AllTell before → first_over part groups ≡ Some need) → (d : Due) → IsDueBy parts part (told_of s o) groups box d → IfTold (told_of s o) (d ≡ Err (stops.Budget stages.Tile need))
  tile-due need over d by =
      both-if (told_of s o) (groups ≡ groups_of parts by.contents) (d ≡ Err (stops.Budget stages.Tile need)) by.same
      (tell-if readers s o (groups ≡ groups_of parts by.contents → d ≡ Err (stops.Budget stages.Tile need)) (λ tell runs is same.
      by.is ∙ ap (λ n. if_small n (built_of (meta_of parts (first_box by.contents)) (layer_names parts) (groups_of parts by.contents))) (ap (first_over part) (sym same) ∙ over tell)))

  spill-refused : (store : Store) (k : SinkSeen) → OnlyRose before after store → MapWritten due s s' o mid k k (Err (stops.Spill (whom_of store)))
  spill-refused (stores.Lane zero) k only = record {
    told = any-due due;
    written = inl refl;
    back = tt;
    decoded = tt;
    counts = (refl, only.rose, only.others stores.Spool (λ e. absurd cc), refl);
    spill_runs = spill-runs;
    kept = stays.spool;
    spill_never_falls = only.never_falls;
    spool_never_falls = same-le o.faults mid.faults (only.others stores.Spool (λ e. absurd cc));
    sink_never_falls = omega arith;
  }
  spill-refused (stores.Lane (suc n)) k only = absurd (no-rise only.rose)
  spill-refused stores.Spool k only = record {
    told = any-due due;
    written = inl refl;
    back = tt;
    decoded = tt;
    counts = (only.others (stores.Lane 0) (λ e. absurd cc), only.rose, refl);
    spill_runs = spill-runs;
    kept = stays.spool;
    spill_never_falls = same-le s.faults s'.faults (only.others (stores.Lane 0) (λ e. absurd cc));
    spool_never_falls = only.never_falls;
    sink_never_falls = omega arith;
  }

  outside-refused : (store : Store) (run at : ℕ) (k : SinkSeen) → (spill_of before store).runs ≡ None → NoneRose before after → MapWritten due s s' o mid k k (Err (stops.Outside (whom_of store) run at))
  outside-refused store run at k none counts = record {
    told = any-due due;
    written = refl;
    back = tt;
    decoded = tt;
    counts = (still counts, refl, named store none);
    spill_runs = spill-runs;
    kept = stays.spool;
    spill_never_falls = same-le s.faults s'.faults (still counts).0;
    spool_never_falls = same-le o.faults mid.faults (still counts).1;
    sink_never_falls = omega arith;
  }
    where
      named : (store : Store) → (spill_of before store).runs ≡ None → runs_named s o (whom_of store) None
      named (stores.Lane zero) e = (refl, e)
      named (stores.Lane (suc n)) e = absurd cc
      named stores.Spool e = e

  pub map-refused : (meta : Meta) (k : SinkSeen) (e : MergeErr) → MapAnswers parts part meta groups before after (Err e) → MapWritten due s s' o mid k k (Err (stop_of_tiles e))
  map-refused meta k (errors.Spill w) a = subst (λ (v : Whom). MapWritten due s s' o mid k k (Err (stops.Spill v))) (sym a.ends.1) (spill-refused a.ends.0 k a.ends.2)
  map-refused meta k (errors.Outside w run at) a = subst (λ (v : Whom). MapWritten due s s' o mid k k (Err (stops.Outside v run at))) (sym a.ends.1) (outside-refused a.ends.0 run at k a.ends.2 a.ends.3)
  map-refused meta k (errors.TooLarge need) a = record {
    told = if-due parts part (told_of s o) groups box due (λ d. IfTold (told_of s o) (d ≡ Err (stops.Budget stages.Tile need))) known (tile-due need a.ends.1);
    written = refl;
    back = tt;
    decoded = tt;
    counts = (still a.ends.0, refl);
    spill_runs = spill-runs;
    kept = stays.spool;
    spill_never_falls = same-le s.faults s'.faults (still a.ends.0).0;
    spool_never_falls = same-le o.faults mid.faults (still a.ends.0).1;
    sink_never_falls = omega arith;
  }
  map-refused meta k errors.Memory a = record {
    told = any-due due;
    written = refl;
    back = tt;
    decoded = tt;
    counts = (still a.ends, refl);
    spill_runs = spill-runs;
    kept = stays.spool;
    spill_never_falls = same-le s.faults s'.faults (still a.ends).0;
    spool_never_falls = same-le o.faults mid.faults (still a.ends).1;
    sink_never_falls = omega arith;
  }

  -- ---- they are

  module _ (meta : Meta) (meta_is : meta ≡ meta_of parts box) (w : WriterSeen) (a : MapAnswers parts part meta groups before after (Ok w)) (o' : SpillSeen) (k k' : SinkSeen) where
    abbrev tiles : List Tile
    tiles = tiles_from (layer_names parts) groups

    -- what is due, where both tell
    is-built : (d : Due) (by : IsDueBy parts part (told_of s o) groups box d) → IfTold (told_of s o) (d ≡ Ok (built_of w.meta (layer_names parts) groups))
    is-built d by =
        both-if (told_of s o) (groups ≡ groups_of parts by.contents) (d ≡ Ok (built_of w.meta (layer_names parts) groups)) by.same
        (tell-if readers s o (groups ≡ groups_of parts by.contents → d ≡ Ok (built_of w.meta (layer_names parts) groups)) (λ tell runs is same.
        let metas : w.meta ≡ meta_of parts (first_box by.contents) = a.ok.meta_is ∙ (meta_is ∙ ap (meta_of parts) by.box_is) in
        by.is ∙ (ap (λ gs. due_of_groups part (meta_of parts (first_box by.contents)) (layer_names parts) gs) (sym same)
        ∙ (ap (λ m. due_of_groups part m (layer_names parts) groups) (sym metas) ∙ ap (λ n. if_small n (built_of w.meta (layer_names parts) groups)) (a.ends.1 tell)))))

    -- what holds of the archive that is due, where both tell
    on-built : (P : Built → Type 0) → (AllTell before → (runs : Runs) → o.runs ≡ Some runs → P (built_of w.meta (layer_names parts) groups)) → IfTold (told_of s o) (IfSome due (λ d. OnBuilt d P))
    on-built P f = by-due due known
      where
        by-due : (due : Option Due) → IsKnown parts part (told_of s o) groups box due → IfTold (told_of s o) (IfSome due (λ d. OnBuilt d P))
        by-due None known = tell-if readers s o (Unit {0}) (λ tell runs is. tt)
        by-due (Some d) known =
            both-if (told_of s o) (d ≡ Ok (built_of w.meta (layer_names parts) groups)) (OnBuilt d P) (is-built d known)
            (tell-if readers s o (d ≡ Ok (built_of w.meta (layer_names parts) groups) → OnBuilt d P) (λ tell runs is same. subst (λ x. OnBuilt x P) (sym same) (f tell runs is)))

    few : (d : Due) (by : IsDueBy parts part (told_of s o) groups box d) → groups ≡ groups_of parts by.contents → length (entries_of tiles) < 2 ^ 35
    few d by same = subst (λ gs. length (entries_of (tiles_from (layer_names parts) gs)) < 2 ^ 35) (sym same) (few-built (features_of parts (blocks_in by.contents)) parts.min parts.max (tile_from (layer_names parts)) sound.ordered sound.last)

    module _ (r : Result Totals FinishErr) (f : FinishAnswers w mid o' k k' r) where
      both-kept : KeepsEnded o.runs o'.runs
      both-kept = kept-both o.runs mid.runs o'.runs stays.spool (subst (KeepsEnded mid.runs) (sym f.runs) (kept-self mid.runs))

      spool-up : o.faults ≤ o'.faults
      spool-up = let one = (still a.ends.0).1 in let two = f.spool_never_falls in omega (arith, one, two)

      spill-up : s.faults ≤ s'.faults
      spill-up = same-le s.faults s'.faults (still a.ends.0).0

      prefix-told : AllTell before → (runs : Runs) → o.runs ≡ Some runs → finished.Writes r k.bytes k'.bytes (archive_text w.meta tiles)
      prefix-told tell runs is = let h = a.ok.wrote tell runs is in f.told h.runs tiles h.told h.wrote

    read-again : (totals : Totals) → FinishAnswers w mid o' k k' (Ok totals) → (due : Option Due) → IsKnown parts part (told_of s o) groups box due → IfTold (told_of s o) (IfSome due (λ d. OnBuilt d (λ built. read_back built.bytes ≡ Some built.tiles)))
    read-again totals f None known = tell-if readers s o (Unit {0}) (λ tell runs is. tt)
    read-again totals f (Some d) by =
        both-if (told_of s o) (d ≡ Ok (built_of w.meta (layer_names parts) groups)) (OnBuilt d (λ built. read_back built.bytes ≡ Some built.tiles)) (is-built d by)
        (both-if (told_of s o) (groups ≡ groups_of parts by.contents) (d ≡ Ok (built_of w.meta (layer_names parts) groups) → OnBuilt d (λ built. read_back built.bytes ≡ Some built.tiles)) by.same
        (tell-if readers s o (groups ≡ groups_of parts by.contents → d ≡ Ok (built_of w.meta (layer_names parts) groups) → OnBuilt d (λ built. read_back built.bytes ≡ Some built.tiles)) (λ tell runs is same due-is.
        subst (λ x. OnBuilt x (λ built. read_back built.bytes ≡ Some built.tiles)) (sym due-is) (let h = a.ok.wrote tell runs is in f.back h.runs tiles h.told h.wrote (few d by same)))))

    map-ok : (totals : Totals) → FinishAnswers w mid o' k k' (Ok totals) → MapWritten due s s' o o' k k' (Ok totals)
    map-ok totals f = record {
      told = if-due parts part (told_of s o) groups box due (IsDue (told_of s o) (Ok totals)) known (λ d by. (
        subst MayBuild (sym by.is) (may-build (first_over part (groups_of parts by.contents)) (built_of (meta_of parts (first_box by.contents)) (layer_names parts) (groups_of parts by.contents))),
        both-if (told_of s o) (d ≡ Ok (built_of w.meta (layer_names parts) groups)) (OnBuilt d (λ built. totals ≡ built.totals)) (is-built d by)
            (tell-if readers s o (d ≡ Ok (built_of w.meta (layer_names parts) groups) → OnBuilt d (λ built. totals ≡ built.totals)) (λ tell runs is same.
            subst (λ x. OnBuilt x (λ built. totals ≡ built.totals)) (sym same) (let h = a.ok.wrote tell runs is in f.totals h.runs tiles h.told h.wrote))),
      ));
      written = on-built (λ built. k'.bytes ≡ with_more k.bytes built.bytes) (prefix-told (Ok totals) f);
      back = read-again totals f due known;
      decoded = on-built AreDecoded (λ tell runs is. decoded-each (layer_names parts) groups (recursion_from_All (IsDecoded (layer_names parts)) groups (a.ok.decoded tell)));
      counts = (((still a.ends.0).0, f.counts.0 ∙ (still a.ends.0).1), f.counts.1);
      spill_runs = spill-runs;
      kept = both-kept (Ok totals) f;
      spill_never_falls = spill-up (Ok totals) f;
      spool_never_falls = spool-up (Ok totals) f;
      sink_never_falls = f.sink_never_falls;
    }

    pub map-finished : (r : Result Totals FinishErr) → FinishAnswers w mid o' k k' r → (x : Result Totals Stop) → IsFinished r x → MapWritten due s s' o o' k k' x
    map-finished (Ok totals) f x is = subst (MapWritten due s s' o o' k k') (sym is) (map-ok totals f)
    map-finished (Err finish_errors.Memory) f x is = subst (MapWritten due s s' o o' k k') (sym is) (record {
      told = any-due due;
      written = f.counts.1;
      back = tt;
      decoded = tt;
      counts = (((still a.ends.0).0, ap (λ (y : SpillSeen). y.faults) f.counts.0 ∙ (still a.ends.0).1), f.counts.1);
      spill_runs = spill-runs;
      kept = both-kept (Err finish_errors.Memory) f;
      spill_never_falls = spill-up (Err finish_errors.Memory) f;
      spool_never_falls = spool-up (Err finish_errors.Memory) f;
      sink_never_falls = f.sink_never_falls;
    })
    map-finished (Err finish_errors.Spill) f x is = subst (MapWritten due s s' o o' k k') (sym is) (record {
      told = any-due due;
      written = inr (on-built (λ built. GrowsByPrefix k.bytes k'.bytes built.bytes) (prefix-told (Err finish_errors.Spill) f));
      back = tt;
      decoded = tt;
      counts = ((still a.ends.0).0, subst (λ n. Rose n o'.faults) (still a.ends.0).1 f.counts.0, f.counts.1);
      spill_runs = spill-runs;
      kept = both-kept (Err finish_errors.Spill) f;
      spill_never_falls = spill-up (Err finish_errors.Spill) f;
      spool_never_falls = spool-up (Err finish_errors.Spill) f;
      sink_never_falls = f.sink_never_falls;
    })
    map-finished (Err finish_errors.Sink) f x is = subst (MapWritten due s s' o o' k k') (sym is) (record {
      told = any-due due;
      written = on-built (λ built. GrowsByPrefix k.bytes k'.bytes built.bytes) (prefix-told (Err finish_errors.Sink) f);
      back = tt;
      decoded = tt;
      counts = (((still a.ends.0).0, f.counts.0 ∙ (still a.ends.0).1), f.counts.1);
      spill_runs = spill-runs;
      kept = both-kept (Err finish_errors.Sink) f;
      spill_never_falls = spill-up (Err finish_errors.Sink) f;
      spool_never_falls = spool-up (Err finish_errors.Sink) f;
      sink_never_falls = f.sink_never_falls;
    })
