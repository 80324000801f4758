-- The tiles of runs: a merge is begun, and its groups are written.
use Rattle.std.proofs.Common.{◌≡◌, ℕ, ◌≤◌, Option, None, Some, Result, Ok, Err, List, [], ◌∷◌, length, map, All, refl, sym, ap, subst, ◌∙◌}
use Rattle.std.specs.Prelude.{⊤}
use Rattle.std.specs.List.{AllByRecursion}
use Rattle.std.proofs.lemmas.List.{length-map}
use Rattle.std.proofs.lemmas.List.Elements.{All-from_recursion, recursion_from_All}
use Rattle.tb_outside.specs.Spill.{Runs}
use Rattle.tb_outside.specs.declared.spill.RunAt.{RunAt}
use Rattle.profile_rules.specs.declared.parts.LayerInfo.{LayerInfo}
use Rattle.profile_rules.specs.declared.parts.Parts.{Parts}
use Rattle.profile_rules.specs.Fields.{layers_of}
use Rattle.profile_rules.specs.Sound.{IsSound, IsSoundLayer}
use Rattle.mvt_codec.specs.declared.item.RunItem.{RunItem}
use Rattle.pmtiles_dirs.specs.declared.meta.Meta.{Meta}
use Rattle.pmtiles_file.specs.Writing.{WriterSeen, Wrote}
use Rattle.feature_runs.specs.Writing as buffers
use Rattle.run_merge.specs.declared.merge_err.MergeErr.{MergeErr}
use Rattle.run_merge.specs.declared.merge_err.MergeErr.TheVariants as errors
use Rattle.run_merge.specs.Answers.{Merging, Starts, named_runs}
use Rattle.run_merge.specs.Cursors.{cursors_of, left_groups}
use Rattle.run_merge.specs.Objects.{Objects, AllTell, Keeps, NoneRose, spill_of}
use Rattle.run_merge.proofs.ObjectSteps.{kept_told, none_trans, only_after, tell_still}
use Rattle.tile_model.specs.Map.{layer_names, tiles_from}
use Rattle.tile_model.specs.Needs.{first_over}
use Rattle.build_one.specs.Writing.{AreShort, all_groups, HasWrote, IsDecoded, Writes, Ends, Stays, TilesAnswers, MapAnswers}
use Rattle.build_one.proofs.Kept.{kept-both, kept-of}

-- each layer has its name
pub names-count : (parts : Parts) → length (layer_names parts) ≡ length (layers_of parts)
names-count parts = length-map (layers_of parts) (λ (layer : LayerInfo). layer.id)

short-each : (layers : List LayerInfo) → AllByRecursion IsSoundLayer layers → AllByRecursion (λ name. length name ≤ 1024) (map (λ (layer : LayerInfo). layer.id) layers)
short-each [] h = tt
short-each (layer ∷ layers) h = (h.0.short, short-each layers h.1)

pub short-names : (parts : Parts) (names : List (List ℕ)) → names ≡ layer_names parts → IsSound parts → AreShort names
short-names parts names is sound = subst AreShort (sym is) (record {
  few = subst (λ n. n ≤ 64) (sym (names-count parts)) sound.few_layers;
  each = All-from_recursion (λ name. length name ≤ 1024) (layer_names parts) (short-each (layers_of parts) (recursion_from_All IsSoundLayer (layers_of parts) sound.layers));
})

module _ {R : Type 0} (part : ℕ) (o n n' : Objects R) (keeps : Keeps o n) (counts : NoneRose o n) where
  stays-behind : Stays n n' → Stays o n'
  stays-behind h = record { readers = h.readers ∙ keeps.readers; spills = h.spills ∙ keeps.spills; spool = kept-both o.spool.runs n.spool.runs n'.spool.runs (kept-of o.spool.runs n.spool.runs keeps.spool) h.spool }

  still-untold : (a b : Option Runs) → buffers.KeepsEnded a b → b ≡ None → a ≡ None
  still-untold None b k is = refl
  still-untold (Some runs) b k is = absurd (subst (λ (q : Option Runs). buffers.KeepsEnded (Some runs) q) is k)

  ends-behind : {A : Type 0} (groups left : List (ℕ × List RunItem)) (r : Result A MergeErr) → (AllTell o → left ≡ groups) → Ends part left n n' r → Ends part groups o n' r
  ends-behind groups left (Ok x) same h = (none_trans o n n' counts h.0, λ tell. ap (first_over part) (sym (same tell)) ∙ h.1 (tell_still o n keeps tell))
  ends-behind groups left (Err (errors.Spill w)) same h = (h.0, h.1, only_after o n n' h.0 counts h.2)
  ends-behind groups left (Err (errors.Outside w run at)) same h =
      (h.0, h.1, still-untold (spill_of o h.0).runs (spill_of n h.0).runs (kept_told o n (record { store = h.0; run = record { run = 0; len = 0 } }) keeps) h.2, none_trans o n n' counts h.3)
  ends-behind groups left (Err (errors.TooLarge need)) same h = (none_trans o n n' counts h.0, λ tell. ap (first_over part) (sym (same tell)) ∙ h.1 (tell_still o n keeps tell))
  ends-behind groups left (Err errors.Memory) same h = none_trans o n n' counts h

  module _ (parts : Parts) (meta : Meta) (names : List (List ℕ)) (runs : List (List RunAt)) (layers : ℕ) (merge : Merging) (w w' : WriterSeen) (is : names ≡ layer_names parts) (started : Starts o n layers (named_runs runs) merge) where
    pub map-stopped : (e : MergeErr) → TilesAnswers names part merge w w' n n' (Err e) → MapAnswers parts part meta (all_groups o runs) o n' (Err e)
    map-stopped e t = record { stays = stays-behind t.stays; ends = ends-behind {A = WriterSeen} (all_groups o runs) (left_groups n (cursors_of merge.readers)) (Err e) started.groups (as-writer e t.ends); ok = tt }
      where
        as-writer : (e : MergeErr) → Ends {A = ⊤} part (left_groups n (cursors_of merge.readers)) n n' (Err e) → Ends {A = WriterSeen} part (left_groups n (cursors_of merge.readers)) n n' (Err e)
        as-writer (errors.Spill v) h = h
        as-writer (errors.Outside v run at) h = h
        as-writer (errors.TooLarge need) h = h
        as-writer errors.Memory h = h

    pub map-tiles : TilesAnswers names part merge w w' n n' (Ok tt) → w.meta ≡ meta → ((ended : List (List ℕ)) → Wrote w ended []) → MapAnswers parts part meta (all_groups o runs) o n' (Ok w')
    map-tiles t meta-is none = record {
      stays = stays-behind t.stays;
      ends = ends-behind (all_groups o runs) (left_groups n (cursors_of merge.readers)) (Ok w') started.groups t.ends;
      ok = record {
        meta_is = t.meta ∙ meta-is;
        stands = t.stands;
        decoded = λ tell. subst (λ ns. All (IsDecoded ns) (all_groups o runs)) is (subst (All (IsDecoded names)) (started.groups tell) (t.decoded (tell_still o n keeps tell)));
        wrote = λ tell. λ rs rs-is. by rs tell n.spool.runs refl (subst (λ (x : Option Runs). buffers.KeepsEnded x n.spool.runs) rs-is keeps.spool);
      };
    }
      where
        fresh : Writes w n.spool.runs n.spool.runs []
        fresh rs rs-is = record { runs = rs; told = rs-is; wrote = none rs.ended }

        by : (rs : Runs) → AllTell o → (x : Option Runs) → n.spool.runs ≡ x → buffers.KeepsEnded (Some rs) n.spool.runs → HasWrote w' n'.spool.runs (tiles_from (layer_names parts) (all_groups o runs))
        by rs tell None x-is k = absurd (subst (λ (y : Option Runs). buffers.KeepsEnded (Some rs) y) x-is k)
        by rs tell (Some there) x-is k =
            let wrote = t.wrote (tell_still o n keeps tell) [] fresh there x-is in
            subst (HasWrote w' n'.spool.runs) (ap (λ ns. tiles_from ns (left_groups n (cursors_of merge.readers))) is ∙ ap (tiles_from (layer_names parts)) (started.groups tell)) wrote
