-- A point outside the box of a ring lies on none of its edges, and isn't inside it.
use Rattle.std.proofs.Common.{◌≡◌, ℕ, ◌+◌, ◌-◌, ◌*◌, ◌<◌, ◌≤◌, min, max, Bool, true, false, not, cond, ◌&&◌, ◌==◌, nat_lt, nat_le, inl, inr, List, [], ◌∷◌, ◌++◌, All, Some, None, slice_get, refl, sym, ap, ◌∙◌, le_refl, arith}
use Rattle.std.proofs.Math.Nat.{mul-add, mul-lt-mul_of_pos_right}
use Rattle.std.proofs.lemmas.Nat.{mul-le}
use Rattle.std.proofs.lemmas.Bool.{and_parts, and_from, and_left, and_right, or_from, leb-true, le-ltb, lt-ltb, le-leb, lt-leb, cond-true, cond-false, cases_lt, false_from_ne_true, true≢false}
use Rattle.std.proofs.lemmas.List.Elements.{All-head, All-tail, All-push, All-weaker}
use Rattle.std.specs.List.{find}
use Rattle.tb_types.specs.declared.location.World.{World}
use Rattle.ring_assembly.specs.declared.envelope.Envelope.{Envelope}
use Rattle.ring_assembly.specs.Sides.{forth_round, back_round, on_edge, passes, crosses, differ, on_path, lies_on, odd_path, is_inside, shown_along}
use Rattle.ring_assembly.specs.Nesting.{decided_by, encloses}
use Rattle.ring_assembly.specs.Envelopes.{in_box, IsAround, end_of}
use Rattle.ring_assembly.proofs.Boxes.{InBox, box_parts, in_box_from}

-- an edge lies within the box of its ends
edge_within : (e : Envelope) (a b p : World) → InBox e a → InBox e b → on_edge a b p ≡ true → InBox e p
unfolding on_edge
edge_within e a b p ca cb h =
    let s = and_parts (nat_le (min a.y b.y) p.y && nat_le p.y (max a.y b.y) && nat_le (min a.x b.x) p.x && nat_le p.x (max a.x b.x)) (forth_round a b p == back_round a b p) h in
    let t = and_parts (nat_le (min a.y b.y) p.y && nat_le p.y (max a.y b.y) && nat_le (min a.x b.x) p.x) (nat_le p.x (max a.x b.x)) s.0 in
    let u = and_parts (nat_le (min a.y b.y) p.y && nat_le p.y (max a.y b.y)) (nat_le (min a.x b.x) p.x) t.0 in
    let v = and_parts (nat_le (min a.y b.y) p.y) (nat_le p.y (max a.y b.y)) u.0 in
    let i = leb-true (min a.x b.x) p.x u.1 in
    let j = leb-true p.x (max a.x b.x) t.1 in
    let k = leb-true (min a.y b.y) p.y v.0 in
    let l = leb-true p.y (max a.y b.y) v.1 in
    record { left = omega (arith, i, ca.left, cb.left); right = omega (arith, j, ca.right, cb.right); top = omega (arith, k, ca.top, cb.top); bottom = omega (arith, l, ca.bottom, cb.bottom) }

off_edge : (e : Envelope) (a b p : World) → InBox e a → InBox e b → in_box e p ≡ false → on_edge a b p ≡ false
off_edge e a b p ca cb out = false_from_ne_true _ (λ on. absurd (true≢false (sym (in_box_from e p (edge_within e a b p ca cb on)) ∙ out)))

off_path : (e : Envelope) (p a : World) (rest : List World) → InBox e a → IsAround e rest → in_box e p ≡ false → on_path p a rest ≡ false
off_path e p a [] ca around out = refl
off_path e p a (b ∷ rest) ca around out =
    let cb = box_parts e b (All-head (λ q. in_box e q ≡ true) b rest around) in
    or_from _ _ (off_edge e a b p ca cb out) (off_path e p b rest cb (All-tail (λ q. in_box e q ≡ true) b rest around) out)

-- a point to the right or to the left of an edge through whose height it lies
parted : (m a k b : ℕ) → a + k ≡ b → m * b ≡ m * a + m * k
parted m a k b e = sym (ap (λ n. m * n) e) ∙ mul-add m a k

module _ (a b p : World) (low : a.y ≤ p.y) (high : p.y < b.y) where
  passes_right : a.x ≤ p.x → b.x ≤ p.x → passes a b p ≡ false
  passes_right h k =
      let u = p.y - a.y in
      let v = b.y - p.y in
      let rise : v + u ≡ b.y - a.y = omega arith in
      le-ltb (p.x * (b.y - a.y)) (a.x * v + b.x * u) (omega (arith, parted p.x v u (b.y - a.y) rise, mul-le a.x v p.x v h (le_refl v), mul-le b.x u p.x u k (le_refl u)))

  passes_left : p.x < a.x → p.x < b.x → passes a b p ≡ true
  passes_left h k =
      let u = p.y - a.y in
      let v = b.y - p.y in
      let rise : v + u ≡ b.y - a.y = omega arith in
      let positive : 0 < v = omega arith in
      let wider : p.x * v < a.x * v = mul-lt-mul_of_pos_right h positive in
      let more : p.x * u ≤ b.x * u = mul-le p.x u b.x u (omega arith) (le_refl u) in
      lt-ltb (p.x * (b.y - a.y)) (a.x * v + b.x * u) (omega (arith, parted p.x v u (b.y - a.y) rise))

-- what an edge crosses
module _ (a b p : World) where
  crosses_above : p.y < a.y → p.y < b.y → crosses a b p ≡ false
  unfolding crosses
  crosses_above h k = cond-false _ _ _ (and_left (nat_le a.y p.y) (nat_lt p.y b.y) (lt-leb a.y p.y h)) ∙ cond-false _ _ _ (and_left (nat_le b.y p.y) (nat_lt p.y a.y) (lt-leb b.y p.y k))

  crosses_below : a.y ≤ p.y → b.y ≤ p.y → crosses a b p ≡ false
  unfolding crosses
  crosses_below h k = cond-false _ _ _ (and_right (nat_le a.y p.y) (nat_lt p.y b.y) (le-ltb p.y b.y k)) ∙ cond-false _ _ _ (and_right (nat_le b.y p.y) (nat_lt p.y a.y) (le-ltb p.y a.y h))

  crosses_up : a.y ≤ p.y → p.y < b.y → crosses a b p ≡ passes a b p
  unfolding crosses
  crosses_up h k = cond-true _ _ _ (and_from (nat_le a.y p.y) (nat_lt p.y b.y) (le-leb a.y p.y h) (lt-ltb p.y b.y k))

  crosses_down : b.y ≤ p.y → p.y < a.y → crosses a b p ≡ passes b a p
  unfolding crosses
  crosses_down h k =
      cond-false _ _ _ (and_left (nat_le a.y p.y) (nat_lt p.y b.y) (lt-leb a.y p.y k))
      ∙ cond-true _ _ _ (and_from (nat_le b.y p.y) (nat_lt p.y a.y) (le-leb b.y p.y h) (lt-ltb p.y a.y k))

  crosses_right : a.x ≤ p.x → b.x ≤ p.x → crosses a b p ≡ false
  crosses_right h k = elim (cases_lt p.y a.y) [
    | inl above ↦ elim (cases_lt p.y b.y) [
      | inl above' ↦ crosses_above above above'
      | inr below ↦ crosses_down below above ∙ passes_right b a p below above k h
    ]
    | inr below ↦ elim (cases_lt p.y b.y) [
      | inl above ↦ crosses_up below above ∙ passes_right a b p below above h k
      | inr below' ↦ crosses_below below below'
    ]
  ]

  crosses_left : p.x < a.x → p.x < b.x → crosses a b p ≡ differ (nat_lt p.y a.y) (nat_lt p.y b.y)
  crosses_left h k = elim (cases_lt p.y a.y) [
    | inl above ↦ elim (cases_lt p.y b.y) [
      | inl above' ↦ crosses_above above above' ∙ sym (differs (lt-ltb p.y a.y above) (lt-ltb p.y b.y above'))
      | inr below ↦ crosses_down below above ∙ passes_left b a p below above k h ∙ sym (differs (lt-ltb p.y a.y above) (le-ltb p.y b.y below))
    ]
    | inr below ↦ elim (cases_lt p.y b.y) [
      | inl above ↦ crosses_up below above ∙ passes_left a b p below above h k ∙ sym (differs (le-ltb p.y a.y below) (lt-ltb p.y b.y above))
      | inr below' ↦ crosses_below below below' ∙ sym (differs (le-ltb p.y a.y below) (le-ltb p.y b.y below'))
    ]
  ]
    where
      differs : {s t : Bool} {x y : Bool} → x ≡ s → y ≡ t → differ x y ≡ differ s t
      differs e f = cc

-- a path of which no edge is crossed
odd_none : (P : World → Type 0) (p : World) → ((a b : World) → P a → P b → crosses a b p ≡ false) → (a : World) (rest : List World) → P a → All P rest → odd_path p a rest ≡ false
odd_none P p no_edge a [] pa around = refl
odd_none P p no_edge a (b ∷ rest) pa around =
    let pb = All-head P b rest around in
    ap (λ t. differ t (odd_path p b rest)) (no_edge a b pa pb) ∙ odd_none P p no_edge b rest pb (All-tail P b rest around)

differ_same : (x : Bool) → differ x x ≡ false
differ_same true = refl
differ_same false = refl

-- a path of which each edge is crossed where exactly one end is below p: only its ends count
odd_ends : (P : World → Type 0) (p : World) → ((a b : World) → P a → P b → crosses a b p ≡ differ (nat_lt p.y a.y) (nat_lt p.y b.y)) → (a : World) (rest : List World) → P a → All P rest → odd_path p a rest ≡ differ (nat_lt p.y a.y) (nat_lt p.y (end_of a rest).y)
odd_ends P p each a [] pa around = sym (differ_same (nat_lt p.y a.y))
odd_ends P p each a (b ∷ rest) pa around =
    let pb = All-head P b rest around in
    ap (λ t. differ t (odd_path p b rest)) (each a b pa pb) ∙ ap (λ t. differ (differ (nat_lt p.y a.y) (nat_lt p.y b.y)) t) (odd_ends P p each b rest pb (All-tail P b rest around))
    ∙ over (nat_lt p.y a.y) (nat_lt p.y b.y) (nat_lt p.y (end_of b rest).y)
  where
    over : (x y z : Bool) → differ (differ x y) (differ y z) ≡ differ x z
    over true true z = refl
    over true false true = refl
    over true false false = refl
    over false true true = refl
    over false true false = refl
    over false false z = refl

-- a path within a box that doesn't have p: to the left of the box its ends decide, and elsewhere it isn't crossed
module _ (e : Envelope) (a : World) (rest : List World) (p : World) (around : IsAround e (a ∷ rest)) (out : in_box e p ≡ false) where
  abbrev decided : Bool
  decided = differ (nat_lt p.y a.y) (nat_lt p.y (end_of a rest).y)

  beyond : (P : World → Type 0) → ((s t : World) → P s → P t → crosses s t p ≡ false) → ((q : World) → in_box e q ≡ true → P q) → odd_path p a rest ≡ false
  beyond P no_edge within =
      let all = All-weaker (λ q. in_box e q ≡ true) P within (a ∷ rest) around in
      odd_none P p no_edge a rest (All-head P a rest all) (All-tail P a rest all)

  pub before : p.x < e.low.x → odd_path p a rest ≡ decided
  before left =
      let all = All-weaker (λ q. in_box e q ≡ true) (λ q. p.x < q.x) (λ q h. omega (arith, (box_parts e q h).left)) (a ∷ rest) around in
      odd_ends (λ q. p.x < q.x) p (λ s t ps pt. crosses_left s t p ps pt) a rest (All-head (λ q. p.x < q.x) a rest all) (All-tail (λ q. p.x < q.x) a rest all)

  within_right : e.low.x ≤ p.x → odd_path p a rest ≡ false
  within_right left = elim (cases_lt e.high.x p.x) [
    | inl far ↦ beyond (λ q. q.x ≤ p.x) (λ s t h k. crosses_right s t p h k) (λ q h. omega (arith, (box_parts e q h).right))
    | inr right ↦ elim (cases_lt p.y e.low.y) [
      | inl far ↦ beyond (λ q. p.y < q.y) (λ s t h k. crosses_above s t p h k) (λ q h. omega (arith, (box_parts e q h).top))
      | inr top ↦ elim (cases_lt e.high.y p.y) [
        | inl far ↦ beyond (λ q. q.y ≤ p.y) (λ s t h k. crosses_below s t p h k) (λ q h. omega (arith, (box_parts e q h).bottom))
        | inr bottom ↦ absurd (true≢false (sym (in_box_from e p (record { left = left; right = right; top = top; bottom = bottom })) ∙ out))
      ]
    ]
  ]

  pub passed_off : on_path p a rest ≡ false
  passed_off = off_path e p a rest (box_parts e a (All-head (λ q. in_box e q ≡ true) a rest around)) (All-tail (λ q. in_box e q ≡ true) a rest around) out

  -- what such a path shows
  shows : (odd : Bool) → odd_path p a rest ≡ odd → shown_along p a rest ≡ Some odd
  shows odd e = ap (λ b. cond b None (Some (odd_path p a rest))) passed_off ∙ ap Some e

  pub passed_right : e.low.x ≤ p.x → shown_along p a rest ≡ Some false
  passed_right left = shows false (within_right left)

  pub passed_left : p.x < e.low.x → shown_along p a rest ≡ Some decided
  passed_left left = shows decided (before left)

-- a ring within a box that doesn't have p
end_of-push : (a : World) (rest : List World) (b : World) → end_of a (rest ++ b ∷ []) ≡ b
end_of-push a [] b = refl
end_of-push a (c ∷ rest) b = end_of-push c rest b

round : (e : Envelope) (a : World) (rest : List World) → IsAround e (a ∷ rest) → IsAround e (a ∷ (rest ++ a ∷ []))
round e a rest around = All-push (λ q. in_box e q ≡ true) (a ∷ rest) a around (All-head (λ q. in_box e q ≡ true) a rest around)

outside_off : (e : Envelope) (ring : List World) (p : World) → IsAround e ring → in_box e p ≡ false → lies_on ring p ≡ false
outside_off e [] p around out = refl
outside_off e (a ∷ rest) p around out = passed_off e a (rest ++ a ∷ []) p (round e a rest around) out

outside_out : (e : Envelope) (ring : List World) (p : World) → IsAround e ring → in_box e p ≡ false → is_inside ring p ≡ false
outside_out e [] p around out = refl
outside_out e (a ∷ rest) p around out =
    let path = rest ++ a ∷ [] in
    let whole = round e a rest around in
    elim (cases_lt p.x e.low.x) [
      | inl left ↦ before e a path p whole out left ∙ ap (λ (q : World). differ (nat_lt p.y a.y) (nat_lt p.y q.y)) (end_of-push a rest a) ∙ differ_same (nat_lt p.y a.y)
      | inr right ↦ within_right e a path p whole out right
    ]

-- a ring encloses none of which the first point lies outside its box
pub skipped : (e : Envelope) (outer inner : List World) (p : World) (first : Bool) → IsAround e outer → Some p ≡ slice_get inner 0 → in_box e p ≡ false → encloses outer inner first ≡ false
unfolding encloses
skipped e outer [] p first around is out = absurd (cc)
skipped e outer (q ∷ rest) p first around is out =
    let same : p ≡ q = cc in
    let off : lies_on outer q ≡ false = ap (lies_on outer) (sym same) ∙ outside_off e outer p around out in
    ap (λ t. decided_by (cond (not t) (Some q) (find (λ r. not (lies_on outer r)) rest)) outer (q ∷ rest) first) off ∙ ap (is_inside outer) (sym same) ∙ outside_out e outer p around out
