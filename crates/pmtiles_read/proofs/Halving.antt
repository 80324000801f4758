-- The entry that covers an id is found by halving.
use Rattle.std.proofs.Common.{◌≡◌, ℕ, zero, suc, ◌+◌, ◌-◌, ◌^◌, ◌<◌, ◌≤◌, Bool, true, false, nat_lt, None, Some, List, [], ◌∷◌, length, get_or, refl, ap, sym, ◌∙◌, arith}
use Rattle.std.specs.List.{find}
use Rattle.std.proofs.lemmas.List.{get_or_default}
use Rattle.std.proofs.lemmas.Bool.{le-leb, lt-leb, lt-ltb, le-ltb, ltb-true, ltb-false}
use Rattle.pmtiles_dirs.specs.declared.entry.DirEntry.{DirEntry}
use Rattle.pmtiles_read.specs.Tiles.{AreTiles, AreApart, covers, covering_entry}

pub apart-of : (tiles_at next : ℕ) (entries : List DirEntry) → AreTiles tiles_at next entries → AreApart next entries
apart-of tiles_at next [] are = tt
apart-of tiles_at next (e ∷ entries) are = (are.2, apart-of tiles_at (e.id + e.run) entries are.4)

-- each entry begins where entries may begin, or behind
from-next : (next : ℕ) (entries : List DirEntry) (j : ℕ) (d : DirEntry) → AreApart next entries → j < length entries → next ≤ (get_or entries j d).id
from-next next [] j d are h = absurd (omega (arith, h))
from-next next (e ∷ entries) zero d are h = are.0
from-next next (e ∷ entries) (suc j) d are h = let later = from-next (e.id + e.run) entries j d are.1 (omega (arith, h)) in omega (arith, later, are.0)

pub ids-ascend : (next : ℕ) (entries : List DirEntry) (i j : ℕ) (d : DirEntry) → AreApart next entries → i < j → j < length entries → (get_or entries i d).id + (get_or entries i d).run ≤ (get_or entries j d).id
ids-ascend next [] i j d are h k = absurd (omega (arith, k))
ids-ascend next (e ∷ entries) i zero d are h k = absurd (omega (arith, h))
ids-ascend next (e ∷ entries) zero (suc j) d are h k = from-next (e.id + e.run) entries j d are.1 (omega (arith, k))
ids-ascend next (e ∷ entries) (suc i) (suc j) d are h k = ids-ascend (e.id + e.run) entries i j d are.1 (omega (arith, h)) (omega (arith, k))

-- below one place ids are at most the one that is asked for, from another place on they are above it
pub record Halved (entries : List DirEntry) (id low high : ℕ) : Type 0 where
  pub ordered : low ≤ high
  pub within : high ≤ length entries
  pub below : (k : ℕ) (d : DirEntry) → k < low → (get_or entries k d).id ≤ id
  pub above : (k : ℕ) (d : DirEntry) → high ≤ k → k < length entries → id < (get_or entries k d).id

pub halved-start : (entries : List DirEntry) (id : ℕ) → Halved entries id 0 (length entries)
halved-start entries id = record { ordered = omega arith; within = omega arith; below = λ k d h. absurd (omega (arith, h)); above = λ k d h l. absurd (omega (arith, h, l)) }

-- the half above a place whose id isn't above
pub halved-low : (entries : List DirEntry) (id low high middle : ℕ) (e : DirEntry) → AreApart 0 entries → middle < high → low ≤ middle → ((d : DirEntry) → e ≡ get_or entries middle d) → e.id ≤ id → Halved entries id low high → Halved entries id (middle + 1) high
halved-low entries id low high middle e are h l is here half = record {
  ordered = omega (arith, h);
  within = half.within;
  below = λ k d less. by_place k d less (nat_lt k middle) refl;
  above = half.above;
}
  where
    by_place : (k : ℕ) (d : DirEntry) → k < middle + 1 → (b : Bool) → nat_lt k middle ≡ b → (get_or entries k d).id ≤ id
    by_place k d less true t =
        let ascends : (get_or entries k d).id + (get_or entries k d).run ≤ (get_or entries middle d).id = ids-ascend 0 entries k middle d are (ltb-true k middle t) (omega (arith, h, half.within)) in
        let same : e.id ≡ (get_or entries middle d).id = ap (λ (x : DirEntry). x.id) (is d) in omega (arith, ascends, same, here)
    by_place k d less false t =
        let place : k ≡ middle = omega (arith, less, ltb-false k middle t) in
        let same : e.id ≡ (get_or entries middle d).id = ap (λ (x : DirEntry). x.id) (is d) in rw place (omega (arith, same, here))

-- the half below a place whose id is above
pub halved-high : (entries : List DirEntry) (id low high middle : ℕ) (e : DirEntry) → AreApart 0 entries → middle < high → low ≤ middle → ((d : DirEntry) → e ≡ get_or entries middle d) → id < e.id → Halved entries id low high → Halved entries id low middle
halved-high entries id low high middle e are h l is here half = record {
  ordered = l;
  within = omega (arith, h, half.within);
  below = half.below;
  above = λ k d more less. by_place k d more less (nat_lt middle k) refl;
}
  where
    by_place : (k : ℕ) (d : DirEntry) → middle ≤ k → k < length entries → (b : Bool) → nat_lt middle k ≡ b → id < (get_or entries k d).id
    by_place k d more less true t =
        let ascends : (get_or entries middle d).id + (get_or entries middle d).run ≤ (get_or entries k d).id = ids-ascend 0 entries middle k d are (ltb-true middle k t) less in
        let same : e.id ≡ (get_or entries middle d).id = ap (λ (x : DirEntry). x.id) (is d) in omega (arith, ascends, same, here)
    by_place k d more less false t =
        let place : k ≡ middle = omega (arith, more, ltb-false middle k t) in
        let same : e.id ≡ (get_or entries middle d).id = ap (λ (x : DirEntry). x.id) (is d) in rw place (omega (arith, same, here))

-- what is found in a list, by the places of its items
find-none : (p : DirEntry → Bool) (xs : List DirEntry) → ((k : ℕ) (d : DirEntry) → k < length xs → p (get_or xs k d) ≡ false) → find p xs ≡ None
find-none p [] h = refl
find-none p (x ∷ xs) h = rw (h 0 x (omega arith)) (find-none p xs (λ k d l. h (suc k) d (omega (arith, l))))

find-first : (p : DirEntry → Bool) (xs : List DirEntry) (i : ℕ) (d : DirEntry) → i < length xs → ((k : ℕ) (e : DirEntry) → k < i → p (get_or xs k e) ≡ false) → p (get_or xs i d) ≡ true → find p xs ≡ Some (get_or xs i d)
find-first p [] i d h no_other here = absurd (omega (arith, h))
find-first p (x ∷ xs) zero d h no_other here = rw here refl
find-first p (x ∷ xs) (suc i) d h no_other here = rw (no_other 0 x (omega arith)) (find-first p xs i d (omega (arith, h)) (λ k e l. no_other (suc k) e (omega (arith, l))) here)

above-not : (id : ℕ) (e : DirEntry) → id < e.id → covers id e ≡ false
above-not id e h = rw (lt-leb e.id id h) refl

below-not : (id : ℕ) (e : DirEntry) → e.id + e.run ≤ id → covers id e ≡ false
below-not id e h = rw (le-leb e.id id (omega (arith, h)), le-ltb id (e.id + e.run) h) refl

inside : (id : ℕ) (e : DirEntry) → e.id ≤ id → id < e.id + e.run → covers id e ≡ true
inside id e h l = rw (le-leb e.id id h, lt-ltb id (e.id + e.run) l) refl

pub none-below : (entries : List DirEntry) (id low high : ℕ) → high ≤ low → low ≡ 0 → Halved entries id low high → None ≡ covering_entry entries id
none-below entries id low high met none half = sym (find-none (covers id) entries (λ k d h. above-not id (get_or entries k d) (half.above k d (omega (arith, met, none)) h)))

others : (entries : List DirEntry) (id low : ℕ) → AreApart 0 entries → 0 < low → low ≤ length entries → ((k : ℕ) (d : DirEntry) → k < low → (get_or entries k d).id ≤ id) → (k : ℕ) (d : DirEntry) → k < low - 1 → covers id (get_or entries k d) ≡ false
others entries id low are some within below k d h =
    let ascends = ids-ascend 0 entries k (low - 1) d are h (omega (arith, some, within)) in
    let last = below (low - 1) d (omega (arith, some)) in below-not id (get_or entries k d) (omega (arith, ascends, last))

pub covering-found : (entries : List DirEntry) (id low high : ℕ) (e d : DirEntry) → AreApart 0 entries → high ≤ low → 0 < low → e ≡ get_or entries (low - 1) d → id - e.id < e.run → Halved entries id low high → Some e ≡ covering_entry entries id
covering-found entries id low high e d are met some is fits half =
    let all : low ≤ length entries = omega (arith, met, half.within, half.ordered) in
    let id_is : e.id ≡ (get_or entries (low - 1) d).id = ap (λ (x : DirEntry). x.id) is in
    let run_is : e.run ≡ (get_or entries (low - 1) d).run = ap (λ (x : DirEntry). x.run) is in
    let from : (get_or entries (low - 1) d).id ≤ id = half.below (low - 1) d (omega (arith, some)) in
    ap Some is ∙ sym (find-first (covers id) entries (low - 1) d (omega (arith, some, all)) (others entries id low are some all half.below) (inside id (get_or entries (low - 1) d) from (omega (arith, fits, id_is, run_is, from))))

pub covering-none : (entries : List DirEntry) (id low high : ℕ) (e d : DirEntry) → AreApart 0 entries → high ≤ low → 0 < low → ((d : DirEntry) → e ≡ get_or entries (low - 1) d) → e.run ≤ id - e.id → Halved entries id low high → None ≡ covering_entry entries id
covering-none entries id low high e d are met some is past half = sym (find-none (covers id) entries (λ k f h. by_place k f h (nat_lt k (low - 1)) refl (nat_lt k low) refl))
  where
    by_place : (k : ℕ) (f : DirEntry) → k < length entries → (a : Bool) → nat_lt k (low - 1) ≡ a → (b : Bool) → nat_lt k low ≡ b → covers id (get_or entries k f) ≡ false
    by_place k f h true s b t = others entries id low are some (omega (arith, met, half.within, half.ordered)) half.below k f (ltb-true k (low - 1) s)
    by_place k f h false s true t =
        let place : k ≡ low - 1 = omega (arith, ltb-false k (low - 1) s, ltb-true k low t) in
        let id_is : e.id ≡ (get_or entries (low - 1) f).id = ap (λ (x : DirEntry). x.id) (is f) in
        let run_is : e.run ≡ (get_or entries (low - 1) f).run = ap (λ (x : DirEntry). x.run) (is f) in
        let from : (get_or entries (low - 1) f).id ≤ id = half.below (low - 1) f (omega (arith, some)) in
        rw place (below-not id (get_or entries (low - 1) f) (omega (arith, past, id_is, run_is, from)))
    by_place k f h false s false t = above-not id (get_or entries k f) (half.above k f (omega (arith, met, ltb-false k low t)) h)

-- the same, of the entry in the middle
pub low-half : (entries : List DirEntry) (id low high middle : ℕ) (d : DirEntry) → AreApart 0 entries → middle < high → low ≤ middle → (get_or entries middle d).id ≤ id → Halved entries id low high → Halved entries id (middle + 1) high
low-half entries id low high middle d are h l here half = halved-low entries id low high middle (get_or entries middle d) are h l (λ e. get_or_default entries middle d e (omega (arith, h, half.within))) here half

pub high-half : (entries : List DirEntry) (id low high middle : ℕ) (d : DirEntry) → AreApart 0 entries → middle < high → low ≤ middle → id < (get_or entries middle d).id → Halved entries id low high → Halved entries id low middle
high-half entries id low high middle d are h l here half = halved-high entries id low high middle (get_or entries middle d) are h l (λ e. get_or_default entries middle d e (omega (arith, h, half.within))) here half

pub last-covers : (entries : List DirEntry) (id low high : ℕ) (d : DirEntry) → AreApart 0 entries → high ≤ low → 0 < low → id - (get_or entries (low - 1) d).id < (get_or entries (low - 1) d).run → Halved entries id low high → Some (get_or entries (low - 1) d) ≡ covering_entry entries id
last-covers entries id low high d are met some fits half = covering-found entries id low high (get_or entries (low - 1) d) d are met some refl fits half

pub last-ends : (entries : List DirEntry) (id low high : ℕ) (d : DirEntry) → AreApart 0 entries → high ≤ low → 0 < low → (get_or entries (low - 1) d).run ≤ id - (get_or entries (low - 1) d).id → Halved entries id low high → None ≡ covering_entry entries id
last-ends entries id low high d are met some past half =
    covering-none entries id low high (get_or entries (low - 1) d) d are met some (λ e. get_or_default entries (low - 1) d e (omega (arith, met, some, half.ordered, half.within))) past half

-- the entry that is found is one of the list
pub found-holds : (P : DirEntry → Type 0) (p : DirEntry → Bool) (xs : List DirEntry) (e : DirEntry) → ((k : ℕ) → k < length xs → P (get_or xs k e)) → Some e ≡ find p xs → P e
found-holds P p [] e h is = let no : Some e ≡ None = is in absurd cc
found-holds P p (x ∷ xs) e h is = by_test (p x) refl (λ later. found-holds P p xs e (λ k l. h (suc k) (omega (arith, l))) later)
  where
    by_test : (b : Bool) → p x ≡ b → (Some e ≡ find p xs → P e) → P e
    by_test true t more = let same : Some e ≡ Some x = rw t at is in let here : e ≡ x = cc in rw here (h 0 (omega arith))
    by_test false t more = let later : Some e ≡ find p xs = rw t at is in more later

pub tiles-end : (tiles_at next : ℕ) (entries : List DirEntry) (k : ℕ) (d : DirEntry) → AreTiles tiles_at next entries → k < length entries → tiles_at + (get_or entries k d).offset + (get_or entries k d).len < 2 ^ 64
tiles-end tiles_at next [] k d are h = absurd (omega (arith, h))
tiles-end tiles_at next (e ∷ entries) zero d are h = are.3
tiles-end tiles_at next (e ∷ entries) (suc k) d are h = tiles-end tiles_at (e.id + e.run) entries k d are.4 (omega (arith, h))
