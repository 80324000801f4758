-- Walks over numbers from one on, up to another.
use Rattle.std.proofs.Common.{◌≡◌, ℕ, ◌+◌, ◌-◌, ◌≤◌, ◌<◌, List, [], ◌∷◌, ◌++◌, map, flat_map, refl, sym, ap, ◌∙◌, arith}
use Rattle.std.proofs.lemmas.List.{append-nil, map-append}
use Rattle.std.proofs.lemmas.Grind.{flat_map-append}
use Rattle.std.specs.List.{range_with_len}
use Rattle.profile_rules.specs.declared.parts.Parts.{Parts}
use Rattle.mvt_codec.specs.declared.item.RunItem.{RunItem}
use Rattle.pass_shapes.proofs.Emitting.{State, Sends, sends-none, sends-both, sends-as, range-last}

-- the numbers from one on, below another
abbrev pub from_to : ℕ → ℕ → List ℕ
from_to a z = range_with_len a (z - a)

pub none-yet : (a : ℕ) → from_to a a ≡ []
none-yet a = let none : a - a ≡ 0 = omega arith in ap (range_with_len a) none

pub one-more : (a z : ℕ) → a ≤ z → from_to a (z + 1) ≡ from_to a z ++ z ∷ []
one-more a z h =
    let count : (z + 1) - a ≡ (z - a) + 1 = omega (arith, h) in
    let last : a + (z - a) ≡ z = omega (arith, h) in
    ap (range_with_len a) count ∙ (range-last a (z - a) ∙ ap (λ m. range_with_len a (z - a) ++ m ∷ []) last)

-- A walk that emits items number by number.
pub record Sent (parts : Parts) (f : ℕ → List RunItem) (a z end : ℕ) (old now : State) : Type 0 where
  pub items : Sends parts (flat_map f (from_to a z)) old now
  pub start : a ≤ z
  pub within : z ≤ end

pub sent-none : (parts : Parts) (f : ℕ → List RunItem) (a end : ℕ) (old : State) → a ≤ end → Sent parts f a a end old old
sent-none parts f a end old h = record { items = sends-as parts [] _ old old (sym (ap (flat_map f) (none-yet a))) (sends-none parts old); start = omega arith; within = h }

pub sent-more : (parts : Parts) (f : ℕ → List RunItem) (a z end : ℕ) (old now new : State) → z < end → Sent parts f a z end old now → Sends parts (f z) now new → Sent parts f a (z + 1) end old new
sent-more parts f a z end old now new more w adds = record {
  items = sends-as parts _ _ old new
      (sym (ap (flat_map f) (one-more a z w.start) ∙ (flat_map-append f (from_to a z) (z ∷ []) ∙ ap (λ xs. flat_map f (from_to a z) ++ xs) (append-nil (f z)))))
      (sends-both parts (flat_map f (from_to a z)) (f z) old now new w.items adds);
  start = let s = w.start in omega (arith, s);
  within = omega (arith, more);
}

pub sent-all : (parts : Parts) (f : ℕ → List RunItem) (a z end : ℕ) (old now : State) → end ≤ z → Sent parts f a z end old now → Sends parts (flat_map f (from_to a end)) old now
sent-all parts f a z end old now all w = let h = w.within in let same : z ≡ end = omega (arith, h, all) in sends-as parts _ _ old now (ap (λ n. flat_map f (from_to a n)) same) w.items

-- one item for each number, and a map over a walk
pub singles : {A : Type 0} (g : A → RunItem) (h : ℕ → A) (ns : List ℕ) → flat_map (λ n. g (h n) ∷ []) ns ≡ map g (map h ns)
singles g h [] = refl
singles g h (n ∷ ns) = ap (λ xs. g (h n) ∷ xs) (singles g h ns)

pub map-flat : {A : Type 0} (g : A → RunItem) (f : ℕ → List A) (ns : List ℕ) → flat_map (λ n. map g (f n)) ns ≡ map g (flat_map f ns)
map-flat g f [] = refl
map-flat g f (n ∷ ns) = ap (λ xs. map g (f n) ++ xs) (map-flat g f ns) ∙ sym (map-append g (f n) (flat_map f ns))
