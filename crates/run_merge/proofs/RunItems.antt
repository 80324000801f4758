-- What bytes say that are items one behind another.
use Rattle.std.proofs.Common.{◌≡◌, ℕ, zero, suc, ◌+◌, ◌≤◌, false, None, List, [], ◌∷◌, ◌++◌, length, drop, refl, sym, ap, subst, ◌∙◌, arith, length-append}
use Rattle.std.specs.Cmp.{IsStrictWeakOrder}
use Rattle.std.specs.List.{AllByRecursion}
use Rattle.std.proofs.lemmas.List.{drop-drop, drop_at}
use Rattle.std.proofs.lemmas.List.Concat.{flat_map-cons}
use Rattle.sorted_lists.specs.Sorting.{by_rank}
use Rattle.sorted_lists.proofs.Orders.{Ascends, ascends_from_sorted, sorted_from_ascends}
use Rattle.sorted_lists.proofs.Keys.{ranked_order}
use Rattle.mvt_codec.specs.declared.item.RunItem.{RunItem}
use Rattle.mvt_codec.specs.Items.{item_text, items_bytes}
use Rattle.mvt_codec.proofs.ItemLengths.{item_len}
use Rattle.feature_runs.specs.ItemReading.{item_at, key_at}
use Rattle.feature_runs.proofs.ItemWhole.{item_again}
use Rattle.run_merge.specs.Items.{with_first, items_from, items_in, item_rank, IsItemOf, AreItems, AreInOrder}

-- items are in a weak order by their ranks
pub order : IsStrictWeakOrder (by_rank item_rank)
order = ranked_order item_rank

nothing_at_end : item_at [] ≡ None
unfolding item_at key_at
nothing_at_end = refl

from_again : (layers : ℕ) (xs : List RunItem) (n : ℕ) → AllByRecursion (IsItemOf layers) xs → length xs ≤ n → items_from n (items_bytes xs) ≡ xs
from_again layers [] zero h le = refl
from_again layers [] (suc n) h le = ap (with_first (items_from n)) nothing_at_end
from_again layers (x ∷ xs) zero h le = absurd (omega (arith, le))
from_again layers (x ∷ xs) (suc n) h le =
    ap (with_first (items_from n)) (ap item_at (flat_map-cons item_text x xs) ∙ item_again x (items_bytes xs) h.0.is h.0.types)
    ∙ ap (λ l. x ∷ l) (from_again layers xs n h.1 (omega (arith, le)))

few : (xs : List RunItem) → length xs ≤ length (items_bytes xs)
few [] = omega arith
few (x ∷ xs) = omega (arith, few xs, item_len x, ap length (flat_map-cons item_text x xs), length-append (item_text x) (items_bytes xs))

-- what is written of items is read again as these items
pub items_again : (layers : ℕ) (xs : List RunItem) → AllByRecursion (IsItemOf layers) xs → items_in (items_bytes xs) ≡ xs
unfolding items_in
items_again layers xs h = from_again layers xs (length (items_bytes xs)) h (few xs)

-- items in order are a run
pub run_made : (layers : ℕ) (xs : List RunItem) → AllByRecursion (IsItemOf layers) xs → AreInOrder xs → AreItems layers (items_bytes xs)
run_made layers xs each sorted =
    let again = items_again layers xs each in
    record { whole = ap items_bytes again; each = subst (AllByRecursion (IsItemOf layers)) (sym again) each; sorted = subst AreInOrder (sym again) sorted }

-- bytes of which an item is the first: what it is, and what is left behind it
pub record Front (layers : ℕ) (bytes : List ℕ) (x : RunItem) (xs : List RunItem) : Type 0 where
  pub parts : bytes ≡ item_text x ++ items_bytes xs
  pub item : IsItemOf layers x
  pub above : AllByRecursion (λ y. by_rank item_rank y x ≡ false) xs
  pub rest : AreItems layers (items_bytes xs)
  pub again : items_in (items_bytes xs) ≡ xs

pub front_is : (layers : ℕ) (bytes : List ℕ) (x : RunItem) (xs : List RunItem) → AreItems layers bytes → items_in bytes ≡ x ∷ xs → Front layers bytes x xs
front_is layers bytes x xs are e =
    let each : AllByRecursion (IsItemOf layers) (x ∷ xs) = subst (AllByRecursion (IsItemOf layers)) e are.each in
    let up : Ascends (by_rank item_rank) (x ∷ xs) = subst (Ascends (by_rank item_rank)) e (ascends_from_sorted (by_rank item_rank) order (items_in bytes) are.sorted) in
    record {
      parts = sym are.whole ∙ ap items_bytes e ∙ flat_map-cons item_text x xs;
      item = each.0;
      above = up.0;
      rest = run_made layers xs each.1 (sorted_from_ascends (by_rank item_rank) xs up.1);
      again = items_again layers xs each.1;
    }

-- bytes that say no item are none
pub none_left : (layers : ℕ) (bytes : List ℕ) → AreItems layers bytes → items_in bytes ≡ [] → bytes ≡ []
none_left layers bytes are e = sym are.whole ∙ ap items_bytes e

-- the bytes behind an item
pub dropped : (bytes : List ℕ) (at len : ℕ) (x : RunItem) (xs : List RunItem) → drop at bytes ≡ item_text x ++ items_bytes xs → len ≡ length (item_text x) → drop (at + len) bytes ≡ items_bytes xs
dropped bytes at len x xs e size = sym (drop-drop len at bytes) ∙ ap (drop len) e ∙ drop_at (item_text x) (items_bytes xs) len (sym size)
