-- Boxes around rings, and around stretches of them.
use Rattle.std.specs.Prelude.{◌≡◌, ℕ, ◌<◌, Bool, true, ◌&&◌, nat_le, List, [], ◌∷◌, length, take, drop, slice_index_or, All, ⊤}
use Rattle.tb_types.specs.declared.location.World.{World}
use Rattle.ring_assembly.specs.declared.envelope.Envelope.{Envelope}
use Rattle.ring_assembly.specs.declared.outline.Outline.{Outline}
use Rattle.ring_assembly.specs.Nesting.{ring_at}

-- a point lies within a box, bounds and all
abbrev pub in_box : Envelope → World → Bool
in_box e p = nat_le e.low.x p.x && nat_le p.x e.high.x && nat_le e.low.y p.y && nat_le p.y e.high.y

-- all points of a ring do
abbrev pub IsAround : Envelope → List World → Type 0
IsAround e ring = All (λ p. in_box e p ≡ true) ring

-- where a path from a on ends
abbrev pub end_of : World → List World → World
end_of a [] = a
end_of a (b ∷ rest) = end_of b rest

-- boxes lie around stretches of a path from a on: each stretch begins where the one before it ends, and goes over 64 points more
abbrev pub AreAlong : List Envelope → World → List World → Type 0
AreAlong [] a rest = ⊤
AreAlong (e ∷ es) a rest = IsAround e (a ∷ take 64 rest) × AreAlong es (end_of a (take 64 rest)) (drop 64 rest)

-- boxes lie around stretches of a ring, from its first point on
abbrev pub AreOnRing : List Envelope → List World → Type 0
AreOnRing es [] = ⊤
AreOnRing es (a ∷ rest) = AreAlong es a rest

-- a box around a ring, and boxes around stretches of it
pub record IsOutline (outline : Outline) (ring : List World) : Type 0 where
  pub whole : IsAround outline.whole ring
  pub stretches : AreOnRing outline.stretches.items ring

-- each ring has its outline
pub record AreOutlines (outlines : List Outline) (rings : List (List World)) : Type 0 where
  pub count : length outlines ≡ length rings
  pub each : (k : ℕ) (d : Outline) → k < length rings → IsOutline (slice_index_or outlines k d) (ring_at rings k)
