-- Leaves have the least size whose root is short.
use Rattle.std.proofs.Common.{◌≡◌, ℕ, zero, suc, ◌+◌, ◌*◌, ◌^◌, ◌<◌, ◌≤◌, Bool, true, false, if◌then◌else◌, nat_lt, Result, Ok, Err, IfOk, List, [], ◌∷◌, length, take, drop, refl, ap, sym, subst, ◌∙◌, arith}
use Rattle.std.proofs.lemmas.Nat.{pow-add}
use Rattle.std.proofs.lemmas.Bool.{le-leb, ltb-true, ltb-false}
use Rattle.std.proofs.lemmas.List.{drop_all}
use Rattle.pmtiles_dirs.specs.declared.entry.DirEntry.{DirEntry}
use Rattle.pmtiles_dirs.specs.Directory.{dir_text}
use Rattle.pmtiles_dirs.specs.Leaves.{Plan, parts, leaf_size, plan_by, plan_from, plan_of, whole_plan, split_plan, is_short, HasLeastLeaves, IsPlan}
use Rattle.pmtiles_dirs.proofs.Lengths.{leaf_entries-most}
use Rattle.pmtiles_dirs.proofs.Parts.{parts-step, parts-end}

few-parts : (size : ℕ) (entries : List DirEntry) → 0 < size → length entries ≤ size → length (parts size entries) ≤ 1
few-parts size [] some h = rw parts-end (omega arith)
few-parts size (e ∷ entries) some h =
    let behind : drop size (e ∷ entries) ≡ [] = drop_all size (e ∷ entries) h in
    let one : parts size (e ∷ entries) ≡ take size (e ∷ entries) ∷ [] = parts-step size (e ∷ entries) some (omega arith) ∙ ap (λ ps. take size (e ∷ entries) ∷ ps) (ap (parts size) behind ∙ parts-end size) in
    rw one (omega arith)

-- the root of one leaf is short
one-leaf : (size : ℕ) (entries : List DirEntry) → 0 < size → length entries ≤ size → is_short (plan_by size entries).root ≡ true
unfolding plan_by
one-leaf size entries some h = le-leb _ _ (omega (arith, leaf_entries-most 0 (parts size entries), few-parts size entries some h))

-- the sizes before the first i are too small
abbrev AllLong : List DirEntry → ℕ → Type 0
AllLong entries i = (j : ℕ) → j < i → is_short (plan_by (leaf_size j) entries).root ≡ false

long-more : (entries : List DirEntry) (i : ℕ) → AllLong entries i → is_short (plan_by (leaf_size i) entries).root ≡ false → AllLong entries (i + 1)
long-more entries i long here j h = by_place (nat_lt j i) refl
  where
    by_place : (b : Bool) → nat_lt j i ≡ b → is_short (plan_by (leaf_size j) entries).root ≡ false
    by_place true t = long j (ltb-true j i t)
    by_place false t = let place : j ≡ i = omega (arith, h, ltb-false j i t) in rw place here

doubled : (i : ℕ) → leaf_size i + leaf_size i ≡ leaf_size (i + 1)
doubled i = let more : 2 ^ (i + 1) ≡ 2 ^ i * 2 = pow-add 2 i 1 in omega (arith, more)

by-test : (more i : ℕ) (entries : List DirEntry) (b : Bool) → is_short (plan_by (leaf_size i) entries).root ≡ b → AllLong entries i
    → (is_short (plan_by (leaf_size i) entries).root ≡ false → HasLeastLeaves entries (plan_from more (leaf_size (i + 1)) entries))
    → HasLeastLeaves entries (if b then plan_by (leaf_size i) entries else plan_from more (leaf_size i + leaf_size i) entries)
by-test more i entries true t long later = record { k = i; is = refl; short = t; least = long }
by-test more i entries false t long later = rw (doubled i) (later t)

least-from : (more i : ℕ) (entries : List DirEntry) → more + i ≡ 51 → length entries ≤ 2 ^ 63 → AllLong entries i → HasLeastLeaves entries (plan_from more (leaf_size i) entries)
least-from zero i entries all few long =
    let last : i ≡ 51 = omega (arith, all) in
    record { k = i; is = refl; short = rw last (one-leaf (leaf_size 51) entries (omega arith) (omega (arith, few))); least = long }
least-from (suc more) i entries all few long =
    by-test more i entries (is_short (plan_by (leaf_size i) entries).root) refl long (λ here. least-from more (i + 1) entries (omega (arith, all)) few (long-more entries i long here))

split-least : (entries : List DirEntry) → length entries ≤ 2 ^ 63 → HasLeastLeaves entries (split_plan entries)
unfolding split_plan
split-least entries few = least-from 51 0 entries (omega arith) few (λ j h. absurd (omega (arith, h)))

chosen : (b : Bool) (one other : Plan) → b ≡ true → (if b then one else other) ≡ one
chosen true one other h = refl
chosen false one other h = let no_way : false ≡ true = h in absurd cc

left : (b : Bool) (one other : Plan) → b ≡ false → (if b then one else other) ≡ other
left false one other h = refl
left true one other h = let no_way : true ≡ false = h in absurd cc

pub plan-least : (entries : List DirEntry) → length entries ≤ 2 ^ 63 → IsPlan entries (plan_of entries)
unfolding plan_of
plan-least entries few = record {
  whole = λ short. chosen (is_short (dir_text entries)) (whole_plan entries) (split_plan entries) short;
  split = λ long. subst (HasLeastLeaves entries) (sym (left (is_short (dir_text entries)) (whole_plan entries) (split_plan entries) long)) (split-least entries few);
}

pub if_ok : {A E : Type 0} (r : Result A E) (P Q : A → Type 0) → ((x : A) → P x → Q x) → IfOk r P → IfOk r Q
if_ok (Ok x) P Q f h = f x h
if_ok (Err e) P Q f h = tt
