-- Boxes that grow, and what lies outside of them.
use Rattle.std.proofs.Common.{◌≡◌, ℕ, ◌≤◌, min, max, true, ◌&&◌, nat_le, List, length, take, get_or, arith}
use Rattle.std.proofs.lemmas.Bool.{and_parts, and_from, leb-true, le-leb}
use Rattle.std.proofs.lemmas.List.{take_all}
use Rattle.tb_types.specs.declared.location.World.{World}
use Rattle.ring_assembly.specs.declared.envelope.Envelope.{Envelope}
use Rattle.ring_assembly.specs.Envelopes.{in_box, IsAround}

-- a point within a box, side by side
pub record InBox (e : Envelope) (p : World) : Type 0 where
  pub left : e.low.x ≤ p.x
  pub right : p.x ≤ e.high.x
  pub top : e.low.y ≤ p.y
  pub bottom : p.y ≤ e.high.y

pub box_parts : (e : Envelope) (p : World) → in_box e p ≡ true → InBox e p
box_parts e p h =
    let a = and_parts (nat_le e.low.x p.x && nat_le p.x e.high.x && nat_le e.low.y p.y) (nat_le p.y e.high.y) h in
    let b = and_parts (nat_le e.low.x p.x && nat_le p.x e.high.x) (nat_le e.low.y p.y) a.0 in
    let d = and_parts (nat_le e.low.x p.x) (nat_le p.x e.high.x) b.0 in
    record { left = leb-true _ _ d.0; right = leb-true _ _ d.1; top = leb-true _ _ b.1; bottom = leb-true _ _ a.1 }

pub in_box_from : (e : Envelope) (p : World) → InBox e p → in_box e p ≡ true
in_box_from e p h = and_from _ _ (and_from _ _ (and_from _ _ (le-leb _ _ h.left) (le-leb _ _ h.right)) (le-leb _ _ h.top)) (le-leb _ _ h.bottom)

-- a point of a list
abbrev pub point : List World → ℕ → World
point xs i = get_or xs i (record { x = 0; y = 0 })

-- a box that takes up one more point
abbrev pub box : ℕ → ℕ → ℕ → ℕ → Envelope
box a b m n = record { low = record { x = a; y = b }; high = record { x = m; y = n } }

module _ (low high p : World) (a b m n : ℕ) (left : a ≡ min low.x p.x) (top : b ≡ min low.y p.y) (right : m ≡ max high.x p.x) (bottom : n ≡ max high.y p.y) where
  pub in_box_more : (q : World) → in_box (record { low = low; high = high }) q ≡ true → in_box (box a b m n) q ≡ true
  in_box_more q h =
      let c = box_parts (record { low = low; high = high }) q h in
      in_box_from (box a b m n) q (record { left = omega (arith, c.left); right = omega (arith, c.right); top = omega (arith, c.top); bottom = omega (arith, c.bottom) })

  pub in_box_this : in_box (box a b m n) p ≡ true
  in_box_this = in_box_from (box a b m n) p (record { left = omega arith; right = omega arith; top = omega arith; bottom = omega arith })

pub around_all : (e : Envelope) (ring : List World) (n : ℕ) → length ring ≤ n → IsAround e (take n ring) → IsAround e ring
around_all e ring n h around = rw (take_all n ring h) at around
