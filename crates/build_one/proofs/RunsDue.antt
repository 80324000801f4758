-- The runs that a spill has more since a build began are those of the items of its tiles.
use Rattle.std.proofs.Common.{◌≡◌, ℕ, ◌<◌, ◌≤◌, inl, inr, Some, List, [], ◌∷◌, ◌++◌, length, map, flat_map, option_map, All, refl, sym, ap, subst, ◌∙◌, arith}
use Rattle.std.specs.List.{AllByRecursion}
use Rattle.std.specs.List.Sorted.{IsPermutation}
use Rattle.std.proofs.lemmas.List.{append-nil, length-map}
use Rattle.std.proofs.lemmas.List.Elements.{All-from_recursion, recursion_from_All, filter_map-append}
use Rattle.std.proofs.lemmas.List.Sorted.{All-permutation, IsPermutation-trans, IsPermutation-sym, IsPermutation-refl}
use Rattle.sorted_lists.proofs.Proved as lists
use Rattle.sorted_lists.specs.Grouping.{elements_of}
use Rattle.tb_outside.specs.Spill.{Runs, SpillSeen}
use Rattle.tb_outside.specs.declared.spill.RunAt.{RunAt}
use Rattle.profile_rules.specs.declared.parts.Parts.{Parts}
use Rattle.profile_rules.specs.Fields.{layers_of}
use Rattle.profile_rules.specs.Sound.{IsSound}
use Rattle.mvt_codec.specs.declared.item.RunItem.{RunItem}
use Rattle.mvt_codec.specs.Items.{items_bytes}
use Rattle.feature_runs.specs.Added.{joined}
use Rattle.feature_runs.specs.Entry.{Entry, entry_of, bytes_of, AreSorted}
use Rattle.feature_runs.specs.Since as since
use Rattle.feature_runs.specs.Writing as buffers
use Rattle.tile_model.specs.BuildLaws.{IsWithin}
use Rattle.tile_model.specs.Features.{Feature}
use Rattle.tile_model.specs.Tiles.{built_tiles, built_items, emitted_items}
use Rattle.tile_model.proofs.Proved as laws
use Rattle.build_one.specs.Answers.{IsRun, HasRuns, RunsAre}
use Rattle.build_one.specs.Passes.{Ran}
use Rattle.build_one.proofs.Runs.{read_of, IsGood, taken, again, bytes-taken, in-order, taken-again, good-items, each-item}

prefix-good : (layers : ℕ) (xs ys : List Entry) → AllByRecursion (IsGood layers) (xs ++ ys) → AllByRecursion (IsGood layers) xs
prefix-good layers [] ys h = tt
prefix-good layers (x ∷ xs) ys h = (h.0, prefix-good layers xs ys h.1)

rest-good : (layers : ℕ) (xs ys : List Entry) → AllByRecursion (IsGood layers) (xs ++ ys) → AllByRecursion (IsGood layers) ys
rest-good layers [] ys h = h
rest-good layers (x ∷ xs) ys h = rest-good layers xs ys h.1

module _ (layers limit : ℕ) where
  -- runs of entries are runs of their items
  texts : (lists : List (List Entry)) → AllByRecursion (IsGood layers) (joined lists) → map items_bytes (map (taken layers) lists) ≡ map bytes_of lists
  texts [] h = refl
  texts (es ∷ lists) h = λ i. sym (bytes-taken layers es (prefix-good layers es (joined lists) h)) i ∷ texts lists (rest-good layers es (joined lists) h) i

  one-run : (es : List Entry) → AllByRecursion (IsGood layers) es → since.IsRun limit es → IsRun limit (taken layers es)
  one-run es good run =
      let same : length (taken layers es) ≡ length es = sym (length-map (taken layers es) entry_of) ∙ ap length (again layers es good) in
      record {
        some = subst (λ n. 0 < n) (sym same) run.some;
        sorted = in-order layers (taken layers es) (subst AreSorted (sym (again layers es good)) run.sorted);
        short = elim run.short [
          | inl low ↦ inl (subst (λ bytes. length bytes ≤ limit) (bytes-taken layers es good) low)
          | inr one ↦ inr (subst (λ n. n ≤ 1) (sym same) one)
        ];
      }

  each-run : (lists : List (List Entry)) → AllByRecursion (IsGood layers) (joined lists) → AllByRecursion (since.IsRun limit) lists → AllByRecursion (IsRun limit) (map (taken layers) lists)
  each-run [] h runs = tt
  each-run (es ∷ lists) h runs = (one-run es (prefix-good layers es (joined lists) h) runs.0, each-run lists (rest-good layers es (joined lists) h) runs.1)

  all-taken : (lists : List (List Entry)) → flat_map (λ (run : List RunItem). run) (map (taken layers) lists) ≡ taken layers (joined lists)
  all-taken [] = refl
  all-taken (es ∷ lists) = ap (λ xs. taken layers es ++ xs) (all-taken lists) ∙ sym (filter_map-append read_of es (joined lists))

module _ {R : Type 0} (parts : Parts) (limit : ℕ) (readers : List R) (s t o : SpillSeen) (runs : List RunAt) (sound : IsSound parts) (ran : Ran parts limit s t runs) (kept : buffers.KeepsEnded s.runs t.runs) where
  abbrev layers : ℕ
  layers = length (layers_of parts)

  module _ (start : Runs) (told : s.runs ≡ Some start) (t' : SpillSeen) (still : t'.runs ≡ t.runs) where
    abbrev have : since.IsSince start t (record { limit = limit; runs = runs; entries = [] }) (map entry_of ran.items)
    have = ran.since start told

    same : IsPermutation (map entry_of ran.items) (joined have.lists)
    same = subst (IsPermutation (map entry_of ran.items)) (append-nil (joined have.lists)) have.same

    good : AllByRecursion (IsGood layers) (joined have.lists)
    good = recursion_from_All (IsGood layers) (joined have.lists) (All-permutation (IsGood layers) (map entry_of ran.items) (joined have.lists) same
        (All-from_recursion (IsGood layers) (map entry_of ran.items) (good-items layers ran.items (each-item parts limit readers s t o runs sound ran kept))))

    abbrev own : List (List RunItem)
    own = map (taken layers) have.lists

    moved : IsPermutation ran.items (taken layers (joined have.lists))
    moved = subst (λ xs. IsPermutation xs (taken layers (joined have.lists))) (taken-again layers ran.items (each-item parts limit readers s t o runs sound ran kept))
        ((lists.bags Entry Entry RunItem).valued read_of (map entry_of ran.items) (joined have.lists) same)

    one-lane : HasRuns limit s t' own
    one-lane = record {
      ended = still ∙ (have.told ∙ (ap (λ ts. Some (since.with_runs ts start)) (sym (texts layers limit have.lists good)) ∙ sym (ap (option_map (since.with_runs (map items_bytes own))) told)));
      each = All-from_recursion (IsRun limit) own (each-run layers limit have.lists good (recursion_from_All (since.IsRun limit) have.lists have.each));
    }

    pub runs-are : (features : List Feature) → All (IsWithin parts.min parts.max) features → IsPermutation (emitted_items features) ran.items → RunsAre limit (elements_of (built_tiles features parts.min parts.max)) (s ∷ []) (t' ∷ [])
    runs-are features within has =
        let few : parts.max ≤ 26 = let last = sound.last in omega (arith, last) in
        let built : IsPermutation (built_items features parts.min parts.max) (emitted_items features) = laws.build.emitted features features parts.min parts.max few within (IsPermutation-refl features) in
        let kept_all : IsPermutation (built_items features parts.min parts.max) (elements_of (built_tiles features parts.min parts.max)) = laws.build.kept features parts.min parts.max few in
        record {
          runs = own ∷ [];
          have = (one-lane, tt);
          same = subst (IsPermutation (elements_of (built_tiles features parts.min parts.max))) (sym (append-nil (flat_map (λ (run : List RunItem). run) own) ∙ all-taken layers limit have.lists))
              (IsPermutation-trans _ _ _ (IsPermutation-sym _ _ kept_all) (IsPermutation-trans _ _ _ built (IsPermutation-trans _ _ _ has moved)));
        }
