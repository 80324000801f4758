-- The count of seats is kept by each kind of step, and what the first seat knows where none is out.
use Rattle.std.proofs.Common.{◌≡◌, ◌≢◌, ℕ, zero, suc, ◌+◌, ◌-◌, ◌<◌, Bool, true, false, true≢false, List, [], ◌∷◌, ◌++◌, set, ap, sym, ◌∙◌, refl, arith, subst}
use mathlib.Core.Option.{some, some-ne-none}
use lib.ListN.{get_elem?}
use Rattle.tb_types.specs.Bags.{total}
use Rattle.tb_types.specs.Seats.{SeatCount, opener, kept_by, given, joined, spent, IsWhole, one, IsSeat, AreSeats}
use Rattle.tb_types.proofs.Totals.{Each, total_set, total_push, total_two, total_whole, each_set, each_push}

pub not_first : (b : Bool) → one b ≡ 0 → b ≡ false
not_first true e = absurd (omega arith)
not_first false e = refl

given_is_seat : IsSeat given
given_is_seat = record { lead = λ f. absurd (true≢false (sym f)); follows = λ _. refl }

spent_is_seat : IsSeat spent
spent_is_seat = record { lead = λ f. absurd (true≢false (sym f)); follows = λ _. refl }

first_is_seat : (s : SeatCount) → s.first ≡ true → s.live ≡ 1 → IsSeat s
first_is_seat s first live = record { lead = λ _. live; follows = λ f. absurd (true≢false (sym first ∙ f)) }

-- what a join finds: the other seat isn't the first one and counts none, and the first one counts it
pub record Joining (s other : SeatCount) : Type 0 where
  pub second : other.first ≡ false
  pub none : other.out ≡ 0
  pub some_out : 0 < s.out

-- of two views one changed: the other was there before
pub before_set : {V : Type 0} (vs : List V) (i j : ℕ) (w u : V) → j ≢ i → get_elem? (set vs i w) j ≡ some u → get_elem? vs j ≡ some u
before_set [] i j w u apart e = e
before_set (x ∷ xs) zero zero w u apart e = absurd (apart refl)
before_set (x ∷ xs) zero (suc j) w u apart e = e
before_set (x ∷ xs) (suc i) zero w u apart e = e
before_set (x ∷ xs) (suc i) (suc j) w u apart e = before_set xs i j w u (λ same. apart (ap suc same)) e

module _ {V : Type 0} (count : V → SeatCount) where
  -- a new table has one seat
  pub seats_open : (v : V) → count v ≡ opener → AreSeats count (v ∷ [])
  seats_open v is = record {
    firsts = ap (λ s. one s.first + 0) is;
    lives = (let a = ap (λ s. s.live) is in let b = ap (λ s. s.out) is in omega arith);
    each = each_push (λ u. IsSeat (count u)) [] v (subst IsSeat (sym is) (first_is_seat opener refl refl)) (λ i u e. absurd (some-ne-none u (sym e)));
  }

  -- a step that leaves the count of its seat as it was
  pub seats_stay : (vs : List V) (i : ℕ) (v w : V) → AreSeats count vs → get_elem? vs i ≡ some v → count w ≡ count v → AreSeats count (set vs i w)
  seats_stay vs i v w a at same =
      let p = a.firsts in let q = a.lives in
      let f = total_set (λ u. one (count u).first) vs i v w at in let sf = ap (λ s. one s.first) same in
      let l = total_set (λ u. (count u).live) vs i v w at in let sl = ap (λ s. s.live) same in
      let o = total_set (λ u. (count u).out) vs i v w at in let so = ap (λ s. s.out) same in
      record {
        firsts = omega arith;
        lives = omega arith;
        each = each_set (λ u. IsSeat (count u)) vs i w (subst IsSeat (sym same) (a.each i v at)) a.each;
      }

  -- a seat more
  pub seats_split : (vs : List V) (i : ℕ) (v w r : V) → AreSeats count vs → get_elem? vs i ≡ some v → (count v).first ≡ true → count w ≡ kept_by (count v) → count r ≡ given → AreSeats count (set vs i w ++ r ∷ [])
  seats_split vs i v w r a at lead kept new =
      let ws = set vs i w in
      let sums : (f : V → ℕ) → (total f ws + f v ≡ total f vs + f w) × (total f (ws ++ r ∷ []) ≡ total f ws + f r) = λ f. (total_set f vs i v w at, total_push f ws r) in
      let p = a.firsts in let q = a.lives in
      let f = sums (λ u. one (count u).first) in let fw = ap (λ s. one s.first) kept in let fr = ap (λ s. one s.first) new in
      let l = sums (λ u. (count u).live) in let lw = ap (λ s. s.live) kept in let lr = ap (λ s. s.live) new in
      let o = sums (λ u. (count u).out) in let ow = ap (λ s. s.out) kept in let or = ap (λ s. s.out) new in
      record {
        firsts = (let b = f.0 in let c = f.1 in omega arith);
        lives = (let b = l.0 in let c = l.1 in let d = o.0 in let e = o.1 in omega arith);
        each = each_push (λ u. IsSeat (count u)) ws r (subst IsSeat (sym new) given_is_seat)
            (each_set (λ u. IsSeat (count u)) vs i w (subst IsSeat (sym kept) (first_is_seat (kept_by (count v)) lead ((a.each i v at).lead lead))) a.each);
      }

  -- only the first seat counts others
  pub all_out : (vs : List V) (i : ℕ) (v : V) → AreSeats count vs → get_elem? vs i ≡ some v → (count v).first ≡ true → total (λ u. (count u).out) vs ≡ (count v).out
  all_out vs i v a at lead =
      let p = a.firsts in
      let is : one (count v).first ≡ 1 = ap one lead in
      total_whole (λ u. one (count u).first) (λ u. (count u).out) vs i v (λ j u e none. (a.each j u e).follows (not_first (count u).first none)) at (omega arith)

  -- what a join finds
  pub joining : (vs : List V) (i : ℕ) (v : V) (j : ℕ) (u : V) → AreSeats count vs → get_elem? vs i ≡ some v → (count v).first ≡ true → j ≢ i → get_elem? vs j ≡ some u → (count u).live ≡ 1 → Joining (count v) (count u)
  joining vs i v j u a at lead apart there alive =
      let p = a.firsts in let q = a.lives in
      let is : one (count v).first ≡ 1 = ap one lead in
      let leads = total_two (λ z. one (count z).first) vs j i u v apart there at in
      let lives = total_two (λ z. (count z).live) vs j i u v apart there at in
      let live = (a.each i v at).lead lead in
      let out = all_out vs i v a at lead in
      let second : (count u).first ≡ false = not_first (count u).first (omega arith) in
      record { second = second; none = (a.each j u there).follows second; some_out = omega arith }

  -- a seat less
  pub seats_join : (vs : List V) (i : ℕ) (v : V) (j : ℕ) (u w z : V) → AreSeats count vs → get_elem? vs i ≡ some v → (count v).first ≡ true → j ≢ i → get_elem? (set vs i w) j ≡ some u → (count u).live ≡ 1
      → count w ≡ joined (count v) → count z ≡ spent → AreSeats count (set (set vs i w) j z)
  seats_join vs i v j u w z a at lead apart there alive left gone =
      let ws = set vs i w in
      let sums : (f : V → ℕ) → (total f ws + f v ≡ total f vs + f w) × (total f (set ws j z) + f u ≡ total f ws + f z) = λ f. (total_set f vs i v w at, total_set f ws j u z there) in
      let found = joining vs i v j u a at lead apart (before_set vs i j w u apart there) alive in
      let p = a.firsts in let q = a.lives in
      let second : one (count u).first ≡ 0 = ap one found.second in let none = found.none in let more = found.some_out in
      let f = sums (λ y. one (count y).first) in let fw = ap (λ s. one s.first) left in let fz = ap (λ s. one s.first) gone in
      let l = sums (λ y. (count y).live) in let lw = ap (λ s. s.live) left in let lz = ap (λ s. s.live) gone in
      let o = sums (λ y. (count y).out) in let ow : (count w).out ≡ (count v).out - 1 = ap (λ s. s.out) left in let oz = ap (λ s. s.out) gone in
      record {
        firsts = (let b = f.0 in let c = f.1 in omega arith);
        lives = (let b = l.0 in let c = l.1 in let d = o.0 in let e = o.1 in omega arith);
        each = each_set (λ y. IsSeat (count y)) ws j z (subst IsSeat (sym gone) spent_is_seat)
            (each_set (λ y. IsSeat (count y)) vs i w (subst IsSeat (sym left) (first_is_seat (joined (count v)) lead ((a.each i v at).lead lead))) a.each);
      }

  -- where none is out, the first seat has all of what a spent one has none of
  pub has_all : (vs : List V) (i : ℕ) (v : V) → AreSeats count vs → get_elem? vs i ≡ some v → IsWhole (count v) → (g : V → ℕ) → Each (λ u. (count u).live ≡ 0 → g u ≡ 0) vs → total g vs ≡ g v
  has_all vs i v a at whole g idle =
      let out = all_out vs i v a at whole.0 in
      let none = whole.1 in
      let q = a.lives in
      let live = (a.each i v at).lead whole.0 in
      total_whole (λ u. (count u).live) g vs i v idle at (omega arith)

  -- and every other seat is spent
  pub others_spent : (vs : List V) (i : ℕ) (v : V) → AreSeats count vs → get_elem? vs i ≡ some v → IsWhole (count v) → (j : ℕ) (u : V) → j ≢ i → get_elem? vs j ≡ some u → (count u).live ≡ 0
  others_spent vs i v a at whole j u apart there =
      let all = has_all vs i v a at whole (λ y. (count y).live) (λ k y e none. none) in
      let two = total_two (λ y. (count y).live) vs j i u v apart there at in omega arith
