-- The rounds of the tournament among runs.
use Rattle.std.proofs.Common.{◌≡◌, ◌≢◌, ℕ, zero, suc, ◌+◌, ◌*◌, ◌-◌, ◌/◌, ◌<◌, ◌≤◌, ◌⊎◌, inl, inr, ⊎_elim, nat_lt, true, false, List, [], ◌∷◌, ◌++◌, length, get_or, set, All, refl, sym, ap, subst, ◌∙◌, append_assoc, arith, length-append}
use Rattle.std.specs.List.{IsFirstBest}
use Rattle.std.proofs.lemmas.Bool.{cases_eq, le-ltb, lt-ltb, ltb-true, ltb-false}
use Rattle.std.proofs.lemmas.List.{append-nil, get_or_at, get_or_append_left, length-map, length-set, map-set, get_or-set_same, get_or-set_other, get_or_default, get_or-append-add}
use Rattle.std.proofs.lemmas.List.Elements.{All-append, All-set, All-get_or, All-from_get_or}
use Rattle.run_merge.specs.declared.cursor.Cursor.{Cursor}
use Rattle.run_merge.specs.declared.run_reader.RunReader.{RunReader}
use Rattle.run_merge.specs.Cursors.{cursors_of, ranks_of, rank_at}
use Rattle.run_merge.specs.Winners.{ComesFirst, Precedes, halved, IsAbove, AreRightBut, AreWinners, PlayedAt, PutsNumbers, AreTwice}

-- ---- which of two comes first

pub first_same : (x y a b : ℕ) → x ≡ y → a ≡ b → ComesFirst x y a b
first_same x y a b e f = inr (e, omega (arith, f))

pub first_then : (x y z a b c : ℕ) → ComesFirst x y a b → ComesFirst y z b c → ComesFirst x z a c
first_then x y z a b c (inl h) (inl k) = inl (omega (arith, h, k))
first_then x y z a b c (inl h) (inr k) = inl (omega (arith, h, k.0))
first_then x y z a b c (inr h) (inl k) = inl (omega (arith, h.0, k))
first_then x y z a b c (inr h) (inr k) = inr (h.0 ∙ k.0, omega (arith, h.1, k.1))

pub first_le : (x y a b : ℕ) → ComesFirst x y a b → x ≤ y
first_le x y a b (inl h) = omega (arith, h)
first_le x y a b (inr h) = omega (arith, h.0)

first_lt : (x y a b : ℕ) → b < a → ComesFirst x y a b → x < y
first_lt x y a b lt (inl h) = h
first_lt x y a b lt (inr h) = absurd (omega (arith, lt, h.1))

pub first_by_test : (x y x' y' a b : ℕ) → x ≡ x' → y ≡ y' → nat_lt x y ≡ true → ComesFirst x' y' a b
first_by_test x y x' y' a b e f h = inl (omega (arith, e, f, ltb-true _ _ h))

pub first_by_order : (x y x' y' a b : ℕ) → x ≡ x' → y ≡ y' → a ≤ b → nat_lt y x ≡ false → ComesFirst x' y' a b
first_by_order x y x' y' a b e f le h =
    let up : x' ≤ y' = omega (arith, e, f, ltb-false _ _ h) in
    ⊎_elim (λ same. inr (same, le)) (λ other. inl (omega (arith, up, other))) (cases_eq x' y')

-- the same of other numbers and ranks that are equal to these
first_moved : (ranks ranks' : List ℕ) (a a' b b' : ℕ) → a ≡ a' → b ≡ b' → get_or ranks a 0 ≡ get_or ranks' a 0 → get_or ranks b 0 ≡ get_or ranks' b 0 → Precedes ranks a b → Precedes ranks' a' b'
first_moved ranks ranks' a a' b b' e f x y h =
    subst (λ (n : ℕ). Precedes ranks' n b') e (subst (λ (n : ℕ). Precedes ranks' a n) f
    (subst (λ (n : ℕ). ComesFirst n (get_or ranks' b 0) a b) x (subst (λ (n : ℕ). ComesFirst (get_or ranks a 0) n a b) y h)))

-- ---- places above others

halved_in : (times place : ℕ) → halved (suc times) place ≡ halved times (place / 2)
halved_in zero place = refl
halved_in (suc times) place = ap (λ (n : ℕ). n / 2) (halved_in times place)

pub halved_zero : (times place : ℕ) → halved times 0 ≡ place → place ≡ 0
halved_zero zero place e = sym e
halved_zero (suc times) place e = let inner : halved times 0 ≡ 0 = halved_zero times (halved times 0) refl in omega (arith, e, inner)

halved_le : (times place : ℕ) → halved times place ≤ place
halved_le zero place = omega arith
halved_le (suc times) place = omega (arith, halved_le times place)

up : (below place x : ℕ) → below / 2 ≡ place → IsAbove below x → IsAbove place x
up below place x e is = (suc is.0, ap (λ (n : ℕ). n / 2) is.1 ∙ e)

above_cases : (times m place : ℕ) → halved times place ≡ m → (m ≡ place) ⊎ IsAbove m (place / 2)
above_cases zero m place e = inl (sym e)
above_cases (suc times) m place e = inr (times, sym (halved_in times place) ∙ e)

-- ---- one round

module _ (stale stale' : ℕ → Type 0) (n : ℕ) (ranks winners : List ℕ) (place : ℕ) (right : AreRightBut stale n ranks winners) (some : 0 < place) (within : place < n)
    (at_most : (m : ℕ) → stale m → m ≤ place) (covered : (m : ℕ) → stale m → (m ≡ place) ⊎ stale' m) (parent : stale' (place / 2)) where
  abbrev at : ℕ → ℕ
  at m = get_or winners m 0

  inside : place < length winners
  inside = omega (arith, within, right.len)

  fresh : (m : ℕ) → m ≢ place → (stale' m → ⊥) → stale m → ⊥
  fresh m other not h = ⊎_elim other not (covered m h)

  module _ (winner : ℕ) (one : (winner ≡ at (2 * place)) ⊎ (winner ≡ at (2 * place + 1))) (even : Precedes ranks winner (at (2 * place))) (odd : Precedes ranks winner (at (2 * place + 1))) where
    here : get_or (set winners place winner) place 0 ≡ winner
    here = get_or-set_same winners place winner 0 inside

    there : (m : ℕ) → m ≢ place → get_or (set winners place winner) m 0 ≡ at m
    there m other = get_or-set_other winners place m winner 0 other

    small : winner < n
    small = ⊎_elim
        (λ e. subst (λ (w : ℕ). w < n) (sym e) (All-get_or (λ (w : ℕ). w < n) winners (2 * place) 0 (omega (arith, within, right.len)) right.each))
        (λ e. subst (λ (w : ℕ). w < n) (sym e) (All-get_or (λ (w : ℕ). w < n) winners (2 * place + 1) 0 (omega (arith, within, right.len)) right.each))
        one

    above_here : IsAbove place (n + winner)
    above_here = ⊎_elim
        (λ e. subst (λ (w : ℕ). IsAbove place (n + w)) (sym e) (up (2 * place) place _ (omega arith) (right.above (2 * place) (omega (arith, some)) (omega (arith, within)) (λ h. omega (arith, some, at_most (2 * place) h)))))
        (λ e. subst (λ (w : ℕ). IsAbove place (n + w)) (sym e) (up (2 * place + 1) place _ (omega arith) (right.above (2 * place + 1) (omega arith) (omega (arith, within)) (λ h. omega (arith, some, at_most (2 * place + 1) h)))))
        one

    above_now : (m : ℕ) → 0 < m → m < 2 * n → (stale' m → ⊥) → IsAbove m (n + get_or (set winners place winner) m 0)
    above_now m pos lt not = ⊎_elim
        (λ e. subst (λ (k : ℕ). IsAbove k (n + get_or (set winners place winner) k 0)) (sym e) (subst (λ (w : ℕ). IsAbove place (n + w)) (sym here) above_here))
        (λ other. subst (λ (w : ℕ). IsAbove m (n + w)) (sym (there m other)) (right.above m pos lt (fresh m other not)))
        (cases_eq m place)

    first_here : (m : ℕ) → m / 2 ≡ place → Precedes ranks winner (at m)
    first_here m e = ⊎_elim
        (λ is. subst (λ (k : ℕ). Precedes ranks winner (at k)) (sym is) even)
        (λ other. let is : m ≡ 2 * place + 1 = omega (arith, e, other) in subst (λ (k : ℕ). Precedes ranks winner (at k)) (sym is) odd)
        (cases_eq m (2 * place))

    first_now : (m : ℕ) → 1 < m → m < 2 * n → (stale' (m / 2) → ⊥) → Precedes ranks (get_or (set winners place winner) (m / 2) 0) (get_or (set winners place winner) m 0)
    first_now m pos lt not = ⊎_elim
        (λ e. first_moved ranks ranks winner _ (at m) _ (sym (ap (λ (k : ℕ). get_or (set winners place winner) k 0) e ∙ here)) (sym (there m (λ is. omega (arith, e, is, some)))) refl refl (first_here m e))
        (λ other.
        let elsewhere : m ≢ place = λ is. not (subst stale' (ap (λ (k : ℕ). k / 2) (sym is)) parent) in
        first_moved ranks ranks (at (m / 2)) _ (at m) _ (sym (there (m / 2) other)) (sym (there m elsewhere)) refl refl (right.first m pos lt (fresh (m / 2) other not)))
        (cases_eq (m / 2) place)

    pub right_again : AreRightBut stale' n ranks (set winners place winner)
    right_again = record {
      len = length-set winners place winner ∙ right.len;
      each = All-set (λ (run : ℕ). run < n) winners place winner small right.each;
      runs = λ run lt. there (n + run) (λ e. omega (arith, e, within)) ∙ right.runs run lt;
      above = above_now;
      first = first_now;
    }

pub played : (stale stale' : ℕ → Type 0) (n : ℕ) (ranks before after : List ℕ) (place : ℕ) → AreRightBut stale n ranks before → 0 < place → place < n → ((m : ℕ) → stale m → m ≤ place) → ((m : ℕ) → stale m → (m ≡ place) ⊎ stale' m) → stale' (place / 2)
    → PlayedAt place ranks before after → AreRightBut stale' n ranks after
played stale stale' n ranks before after place right some within at_most covered parent p =
    subst (AreRightBut stale' n ranks) (sym p.put) (right_again stale stale' n ranks before place right some within at_most covered parent p.winner p.one p.even p.odd)

-- ---- rounds from the last place down

abbrev pub From : ℕ → ℕ → Type 0
From place m = m < place

pub played_down : (n : ℕ) (ranks before after : List ℕ) (place : ℕ) → AreRightBut (From (place + 1)) n ranks before → 0 < place → place < n → PlayedAt place ranks before after → AreRightBut (From place) n ranks after
played_down n ranks before after place right some within p = played (From (place + 1)) (From place) n ranks before after place right some within
    (λ m h. omega (arith, h))
    (λ m h. ⊎_elim (λ e. inl e) (λ other. inr (omega (arith, h, other))) (cases_eq m place))
    (omega (arith, some)) p

pub right_wider : (stale stale' : ℕ → Type 0) (n : ℕ) (ranks winners : List ℕ) → ((m : ℕ) → stale m → stale' m) → AreRightBut stale n ranks winners → AreRightBut stale' n ranks winners
right_wider stale stale' n ranks winners wider right = record {
  len = right.len;
  each = right.each;
  runs = right.runs;
  above = λ m pos lt not. right.above m pos lt (λ h. not (wider m h));
  first = λ m pos lt not. right.first m pos lt (λ h. not (wider (m / 2) h));
}

pub right_first : (n : ℕ) (ranks numbers : List ℕ) → AreTwice n numbers → AreRightBut (From n) n ranks numbers
right_first n ranks numbers twice = record {
  len = twice.len;
  each = twice.each;
  runs = twice.runs;
  above = λ m pos lt not. (0, leaf m lt not);
  first = λ m pos lt not. absurd (not (omega (arith, lt)));
}
  where
    leaf : (m : ℕ) → m < 2 * n → (m < n → ⊥) → n + get_or numbers m 0 ≡ m
    leaf m lt not =
        let is : m ≡ n + (m - n) = omega (arith, not) in
        ap (λ (k : ℕ). n + get_or numbers k 0) is ∙ ap (λ (k : ℕ). n + k) (twice.runs (m - n) (omega (arith, lt, not))) ∙ sym is

-- ---- rounds from a run up

pub played_up : (n : ℕ) (ranks before after : List ℕ) (place : ℕ) → AreRightBut (λ m. IsAbove m place) n ranks before → 0 < place → place < n → PlayedAt place ranks before after → AreRightBut (λ m. IsAbove m (place / 2)) n ranks after
played_up n ranks before after place right some within p = played (λ m. IsAbove m place) (λ m. IsAbove m (place / 2)) n ranks before after place right some within
    (λ m h. subst (λ (k : ℕ). k ≤ place) h.1 (halved_le h.0 place))
    (λ m h. above_cases h.0 m place h.1)
    (0, refl) p

pub right_at_last : (n : ℕ) (ranks winners : List ℕ) (place : ℕ) → place ≡ 0 → AreRightBut (λ m. IsAbove m place) n ranks winners → AreRightBut (λ m. m < 1) n ranks winners
right_at_last n ranks winners place e right = right_wider (λ m. IsAbove m place) (λ m. m < 1) n ranks winners
    (λ m h. omega (arith, halved_zero h.0 m (ap (halved h.0) (sym e) ∙ h.1))) right

-- a run's rank changed
module _ (n : ℕ) (ranks ranks' winners : List ℕ) (number : ℕ) (within : number < n) (same : (k : ℕ) → k ≢ number → get_or ranks k 0 ≡ get_or ranks' k 0) (right : AreRightBut (λ m. m < 1) n ranks winners) where
  abbrev Stale : ℕ → Type 0
  Stale m = IsAbove m ((n + number) / 2)

  stale_above : (m : ℕ) → m < n → IsAbove m (n + number) → Stale m
  stale_above m lt h = ⊎_elim (λ e. absurd (omega (arith, e, lt))) (λ is. is) (above_cases h.0 m (n + number) h.1)

  stale_half : (m : ℕ) → IsAbove m (n + number) → Stale (m / 2)
  stale_half m h = (h.0, sym (halved_in h.0 (n + number)) ∙ ap (λ (k : ℕ). k / 2) h.1)

  pub one_changed : AreRightBut (λ m. IsAbove m ((n + number) / 2)) n ranks' winners
  one_changed = record {
    len = right.len;
    each = right.each;
    runs = right.runs;
    above = λ m pos lt not. right.above m pos lt (λ h. omega (arith, pos, h));
    first = λ m pos lt not.
        let upper : IsAbove (m / 2) (n + get_or winners (m / 2) 0) = right.above (m / 2) (omega (arith, pos)) (omega (arith, lt)) (λ h. omega (arith, pos, h)) in
        let lower : IsAbove m (n + get_or winners m 0) = right.above m (omega (arith, pos)) lt (λ h. omega (arith, pos, h)) in
        let a : get_or winners (m / 2) 0 ≢ number = λ e. not (stale_above (m / 2) (omega (arith, lt)) (subst (λ (w : ℕ). IsAbove (m / 2) (n + w)) e upper)) in
        let b : get_or winners m 0 ≢ number = λ e. not (stale_half m (subst (λ (w : ℕ). IsAbove m (n + w)) e lower)) in
        first_moved ranks ranks' (get_or winners (m / 2) 0) _ (get_or winners m 0) _ refl refl (same _ a) (same _ b) (right.first m pos lt (λ h. omega (arith, pos, h)));
  }

-- ---- the winner of all

module _ (n : ℕ) (ranks winners : List ℕ) (right : AreRightBut (λ m. m < 1) n ranks winners) where
  first_of_all : (most place : ℕ) → place ≤ most → 0 < place → place < 2 * n → Precedes ranks (get_or winners 1 0) (get_or winners place 0)
  first_of_all zero place le pos lt = absurd (omega (arith, le, pos))
  first_of_all (suc most) place le pos lt = ⊎_elim
      (λ e. subst (λ (k : ℕ). Precedes ranks (get_or winners 1 0) (get_or winners k 0)) (sym e) (first_same _ _ _ _ refl refl))
      (λ other. first_then _ _ _ _ _ _
      (first_of_all most (place / 2) (omega (arith, le, pos)) (omega (arith, pos, other)) (omega (arith, lt)))
      (right.first place (omega (arith, pos, other)) lt (λ h. omega (arith, h, pos, other))))
      (cases_eq place 1)

  pub before_all : (k : ℕ) → k < n → Precedes ranks (get_or winners 1 0) k
  before_all k lt = subst (λ (b : ℕ). Precedes ranks (get_or winners 1 0) b) (right.runs k lt) (first_of_all (n + k) (n + k) (omega arith) (omega (arith, lt)) (omega (arith, lt)))

  pub winner_within : 0 < n → get_or winners 1 0 < n
  winner_within some = All-get_or (λ (run : ℕ). run < n) winners 1 0 (omega (arith, some, right.len)) right.each

  pub is_first : length ranks ≡ n → 0 < n → IsFirstBest nat_lt ranks n (get_or winners 1 0)
  is_first count some = (
    winner_within some,
    (λ k d lt.
        let le : get_or ranks (get_or winners 1 0) 0 ≤ get_or ranks k 0 = first_le _ _ (get_or winners 1 0) k (before_all k lt) in
        let k_is : get_or ranks k d ≡ get_or ranks k 0 = get_or_default ranks k d 0 (omega (arith, lt, count)) in
        let best_is : get_or ranks (get_or winners 1 0) d ≡ get_or ranks (get_or winners 1 0) 0 = get_or_default ranks (get_or winners 1 0) d 0 (omega (arith, winner_within some, count)) in
        le-ltb _ _ (omega (arith, le, k_is, best_is))),
    (λ k d lt.
        let within : k < n = omega (arith, lt, winner_within some) in
        let below : get_or ranks (get_or winners 1 0) 0 < get_or ranks k 0 = first_lt _ _ (get_or winners 1 0) k lt (before_all k within) in
        let k_is : get_or ranks k d ≡ get_or ranks k 0 = get_or_default ranks k d 0 (omega (arith, within, count)) in
        let best_is : get_or ranks (get_or winners 1 0) d ≡ get_or ranks (get_or winners 1 0) 0 = get_or_default ranks (get_or winners 1 0) d 0 (omega (arith, winner_within some, count)) in
        lt-ltb _ _ (omega (arith, below, k_is, best_is))),
  )

-- ---- numbers

pub puts_none : (before : List ℕ) → PutsNumbers 0 before before
puts_none before = record { more = []; put = sym (append-nil before); len = refl; each = λ k lt. absurd (omega (arith, lt)) }

pub puts_one : (n : ℕ) (before now next : List ℕ) → PutsNumbers n before now → next ≡ now ++ n ∷ [] → PutsNumbers (n + 1) before next
puts_one n before now next puts e = record {
  more = puts.more ++ n ∷ [];
  put = e ∙ ap (λ (l : List ℕ). l ++ n ∷ []) puts.put ∙ append_assoc before puts.more (n ∷ []);
  len = length-append puts.more (n ∷ []) ∙ ap (λ (k : ℕ). k + 1) puts.len;
  each = λ k lt. ⊎_elim
      (λ is. get_or_at puts.more n [] 0 k (puts.len ∙ sym is) ∙ sym is)
      (λ other. let within : k < n = omega (arith, lt, other) in get_or_append_left puts.more (n ∷ []) 0 k (omega (arith, within, puts.len)) ∙ puts.each k within)
      (cases_eq k n);
}

below_of : (n : ℕ) (more : List ℕ) → length more ≡ n → ((k : ℕ) → k < n → get_or more k 0 ≡ k) → All (λ (k : ℕ). k < n) more
below_of n more len each = All-from_get_or (λ (k : ℕ). k < n) more 0 (λ k lt. omega (arith, each k (omega (arith, lt, len)), lt, len))

pub put_twice : (n : ℕ) (first second : List ℕ) → PutsNumbers n [] first → PutsNumbers n first second → AreTwice n second
put_twice n first second a b =
    let whole : second ≡ a.more ++ b.more = b.put ∙ ap (λ (l : List ℕ). l ++ b.more) a.put in
    record {
      len = ap length whole ∙ length-append a.more b.more ∙ omega (arith, a.len, b.len);
      each = subst (All (λ (k : ℕ). k < n)) (sym whole) (All-append (λ (k : ℕ). k < n) a.more b.more (below_of n a.more a.len a.each) (below_of n b.more b.len b.each));
      runs = λ run lt. ap (λ (l : List ℕ). get_or l (n + run) 0) whole ∙ ap (λ (k : ℕ). get_or (a.more ++ b.more) (k + run) 0) (sym a.len) ∙ get_or-append-add a.more b.more run 0 ∙ b.each run lt;
    }

-- ---- runs and their ranks

pub count_ranks : (readers : List RunReader) → length (ranks_of (cursors_of readers)) ≡ length (cursors_of readers)
count_ranks readers = length-map (cursors_of readers) (λ (cursor : Cursor). rank_at cursor.head)

pub count_cursors : (readers : List RunReader) → length (cursors_of readers) ≡ length readers
count_cursors readers = length-map readers (λ (reader : RunReader). reader.cursor)

-- another reader stands at a place
pub reader_changed : (readers after : List RunReader) (number : ℕ) (next : RunReader) (winners : List ℕ) → number < length (cursors_of readers) → after ≡ set readers number next → AreWinners (cursors_of readers) winners
    → AreRightBut (λ m. IsAbove m ((length (cursors_of after) + number) / 2)) (length (cursors_of after)) (ranks_of (cursors_of after)) winners
reader_changed readers after number next winners within is right =
    let after_is : cursors_of after ≡ set (cursors_of readers) number next.cursor = ap cursors_of is ∙ map-set (λ (r : RunReader). r.cursor) readers number next in
    let ranks : ranks_of (cursors_of after) ≡ set (ranks_of (cursors_of readers)) number (rank_at next.cursor.head) = ap ranks_of after_is ∙ map-set (λ (c : Cursor). rank_at c.head) (cursors_of readers) number next.cursor in
    let count : length (cursors_of readers) ≡ length (cursors_of after) = sym (ap length after_is ∙ length-set (cursors_of readers) number next.cursor) in
    let changed = one_changed (length (cursors_of readers)) (ranks_of (cursors_of readers)) (ranks_of (cursors_of after)) winners number within
    (λ k other. sym (ap (λ (l : List ℕ). get_or l k 0) ranks ∙ get_or-set_other (ranks_of (cursors_of readers)) number k (rank_at next.cursor.head) 0 other)) right in
    subst (λ (n : ℕ). AreRightBut (λ m. IsAbove m ((n + number) / 2)) n (ranks_of (cursors_of after)) winners) count changed
