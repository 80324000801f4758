-- Edges that run straight through a tile's row and beyond.
use Rattle.std.proofs.Common.{◌≡◌, ℕ, Bool, true, false, not, ◌&&◌, ◌||◌, cond, ◌⊎◌, inl, inr, ℤ, ◌≤ℤ◌, ◌<ℤ◌, [], ◌∷◌, refl, ap, ◌∙◌, arith}
use Rattle.std.specs.Ordering.{int_eq}
use Rattle.std.specs.Prelude.{int_lt}
use Rattle.std.proofs.lemmas.Bool.Decides.{Decides-int_eq}
use Rattle.std.proofs.lemmas.Int.{ints}
use Rattle.tb_types.specs.declared.location.Grid.{Grid}
use Rattle.strip_clip.specs.declared.axis.Axis.TheVariants.{Y}
use Rattle.strip_clip.specs.declared.strip.Strip.{Strip}
use Rattle.strip_clip.specs.Axes.{point_at, forward_crossing, crossing_of}
use Rattle.strip_clip.specs.Edges.{below, above, inside, meets, reach}
use Rattle.strip_clip.specs.Rings.{edge_points}
use Rattle.strip_clip.specs.Cuts.{IsBetween, row}
use Rattle.strip_clip.proofs.Inside.{lt_true, lt_false, reach_across}

-- a point by its coordinates
abbrev pub at : ℤ → ℤ → Grid
at x y = record { x = x; y = y }

-- tests
pub and_first : (a b : Bool) → (a && b) ≡ true → a ≡ true
and_first true b e = refl
and_first false b e = e

pub and_second : (a b : Bool) → (a && b) ≡ true → b ≡ true
and_second true b e = e
and_second false b e = absurd (cc)

pub or_cases : (a b : Bool) → (a || b) ≡ true → (a ≡ true) ⊎ (b ≡ true)
or_cases true b e = inl refl
or_cases false b e = inr e

pub is_eq : (a b : ℤ) → int_eq a b ≡ true → a ≡ b
is_eq a b e = (Decides-int_eq a b).0 e

pub is_lt : (a b : ℤ) → int_lt a b ≡ true → a <ℤ b
is_lt a b e = grind (arith, ints)

-- where an edge runs along a line from one row to another
pub record Runs (bound first last : ℤ) (from to : Grid) : Type 0 where
  pub from_x : from.x ≡ bound
  pub to_x : to.x ≡ bound
  pub start : from.y <ℤ first
  pub end : last <ℤ to.y

crossing_y : (c : ℤ) (b : Bool) (d e : ℤ) → (cond b (point_at Y c d) (point_at Y c e)).y ≡ c
crossing_y c true d e = refl
crossing_y c false d e = refl

crosses_at : (c : ℤ) (p q : Grid) → (crossing_of Y c p q).y ≡ c
unfolding crossing_of forward_crossing
crosses_at c p q = crossing_y c (int_lt p.y q.y) _ _

pub grid_is : (p : Grid) (x y : ℤ) → p.x ≡ x → p.y ≡ y → p ≡ at x y
grid_is p x y a b = ap (λ s. at s p.y) a ∙ ap (λ t. at x t) b

same_bounds : (m z : ℤ) → IsBetween m m z → z ≡ m
same_bounds m z h = let a = h.low in let b = h.high in omega (arith, ints)

on_bound : (m z : ℤ) → z ≡ m → IsBetween m m z
on_bound m z e = record { low = omega (arith, ints); high = omega (arith, ints) }

module _ (corner : Grid) (buffer : ℕ) where
  abbrev strip : Strip
  strip = row corner buffer

  order : strip.lo ≤ℤ strip.hi
  order = omega (arith, ints)

  module _ (bound : ℤ) (p q : Grid) where
    -- downward
    module _ (runs : Runs bound strip.lo strip.hi p q) where
      down_below : below strip p ≡ true
      down_below = lt_true p.y strip.lo runs.start

      down_p_above : above strip p ≡ false
      down_p_above = let s = runs.start in lt_false strip.hi p.y (omega (arith, ints))

      down_q_below : below strip q ≡ false
      down_q_below = let e = runs.end in lt_false q.y strip.lo (omega (arith, ints))

      down_above : above strip q ≡ true
      down_above = lt_true strip.hi q.y runs.end

      down_meets : meets strip p q ≡ true
      down_meets = ap (λ b. not (b && below strip q) && not (above strip p && above strip q)) down_below ∙ ap (λ b. not b && not (above strip p && above strip q)) down_q_below ∙ ap (λ b. not (b && above strip q)) down_p_above

      down_inside : inside strip p ≡ false
      down_inside = ap (λ b. not b && not (above strip p)) down_below

      down_x : (e : Grid) → ((e ≡ p) ⊎ (e ≡ q)) → (reach strip p q e).x ≡ bound
      down_x e is = same_bounds bound (reach strip p q e).x (reach_across strip p q e bound bound down_meets is (on_bound bound p.x runs.from_x) (on_bound bound q.x runs.to_x))

      down_first : (reach strip p q p).y ≡ strip.lo
      unfolding reach
      down_first = ap (λ b. (cond b (crossing_of Y strip.lo p q) (cond (above strip p) (crossing_of Y strip.hi p q) p)).y) down_below ∙ crosses_at strip.lo p q

      down_last : (reach strip p q q).y ≡ strip.hi
      unfolding reach
      down_last = ap (λ b. (cond b (crossing_of Y strip.lo p q) (cond (above strip q) (crossing_of Y strip.hi p q) q)).y) down_q_below ∙ ap (λ b. (cond b (crossing_of Y strip.hi p q) q).y) down_above ∙ crosses_at strip.hi p q

      pub down_points : edge_points strip p q ≡ at bound strip.lo ∷ at bound strip.hi ∷ []
      down_points =
          let a = reach strip p q p in
          let b = reach strip p q q in
          ap (λ t. cond t (cond (inside strip p) (b ∷ []) (a ∷ b ∷ [])) []) down_meets ∙ ap (λ t. cond t (b ∷ []) (a ∷ b ∷ [])) down_inside ∙ ap (λ r. r ∷ b ∷ []) (grid_is a bound strip.lo (down_x p (inl refl)) down_first) ∙ ap (λ r. at bound strip.lo ∷ r ∷ []) (grid_is b bound strip.hi (down_x q (inr refl)) down_last)

    -- upward
    module _ (runs : Runs bound strip.lo strip.hi q p) where
      up_above : above strip p ≡ true
      up_above = lt_true strip.hi p.y runs.end

      up_p_below : below strip p ≡ false
      up_p_below = let e = runs.end in lt_false p.y strip.lo (omega (arith, ints))

      up_q_above : above strip q ≡ false
      up_q_above = let s = runs.start in lt_false strip.hi q.y (omega (arith, ints))

      up_below : below strip q ≡ true
      up_below = lt_true q.y strip.lo runs.start

      up_meets : meets strip p q ≡ true
      up_meets = ap (λ b. not (b && below strip q) && not (above strip p && above strip q)) up_p_below ∙ ap (λ b. not (b && above strip q)) up_above ∙ ap not up_q_above

      up_inside : inside strip p ≡ false
      up_inside = ap (λ b. not b && not (above strip p)) up_p_below ∙ ap not up_above

      up_x : (e : Grid) → ((e ≡ p) ⊎ (e ≡ q)) → (reach strip p q e).x ≡ bound
      up_x e is = same_bounds bound (reach strip p q e).x (reach_across strip p q e bound bound up_meets is (on_bound bound p.x runs.to_x) (on_bound bound q.x runs.from_x))

      up_first : (reach strip p q p).y ≡ strip.hi
      unfolding reach
      up_first = ap (λ b. (cond b (crossing_of Y strip.lo p q) (cond (above strip p) (crossing_of Y strip.hi p q) p)).y) up_p_below ∙ ap (λ b. (cond b (crossing_of Y strip.hi p q) p).y) up_above ∙ crosses_at strip.hi p q

      up_last : (reach strip p q q).y ≡ strip.lo
      unfolding reach
      up_last = ap (λ b. (cond b (crossing_of Y strip.lo p q) (cond (above strip q) (crossing_of Y strip.hi p q) q)).y) up_below ∙ crosses_at strip.lo p q

      pub up_points : edge_points strip p q ≡ at bound strip.hi ∷ at bound strip.lo ∷ []
      up_points =
          let a = reach strip p q p in
          let b = reach strip p q q in
          ap (λ t. cond t (cond (inside strip p) (b ∷ []) (a ∷ b ∷ [])) []) up_meets ∙ ap (λ t. cond t (b ∷ []) (a ∷ b ∷ [])) up_inside ∙ ap (λ r. r ∷ b ∷ []) (grid_is a bound strip.hi (up_x p (inl refl)) up_first) ∙ ap (λ r. at bound strip.hi ∷ r ∷ []) (grid_is b bound strip.lo (up_x q (inr refl)) up_last)
