-- Outlines that lie between bounds.
use Rattle.std.proofs.Common.{◌≡◌, ℕ, ◌+◌, ◌*◌, Bool, true, false, not, ◌||◌, cond, ◌⊎◌, inl, inr, ℤ, pos, ◌+ℤ◌, ◌-ℤ◌, ◌≤ℤ◌, Option, Some, None, option_and_then, List, [], ◌∷◌, All, map, filter_map, refl, sym, arith}
use Rattle.std.specs.List.{cons_option}
use Rattle.std.specs.Prelude.{filter}
use Rattle.std.proofs.lemmas.Int.{ints}
use Rattle.std.proofs.lemmas.List.Elements.{All-nil, All-cons, All-head, All-tail, All-same, All-append, All-filter}
use Rattle.tb_types.specs.declared.location.Grid.{Grid}
use Rattle.strip_clip.specs.declared.axis.Axis.{Axis}
use Rattle.strip_clip.specs.declared.axis.Axis.TheVariants.{X}
use Rattle.strip_clip.specs.declared.strip.Strip.{Strip}
use Rattle.strip_clip.specs.Axes.{along}
use Rattle.strip_clip.specs.Edges.{inside, meets, reach}
use Rattle.strip_clip.specs.Rings.{edge_points}
use Rattle.strip_clip.specs.Cuts.{IsBetween, row, IsInTile}
use Rattle.strip_clip.proofs.Inside.{reach_inside, reach_across, inside_between}
use Rattle.tile_clip.specs.declared.edge.Edge.{Edge}
use Rattle.tile_clip.specs.declared.outline.RingEdges.{RingEdges}
use Rattle.tile_clip.specs.declared.outline.Outline.{Outline}
use Rattle.tile_clip.specs.declared.outline.Outline.TheVariants.{OnePoint, Paths, Polygons}
use Rattle.tile_clip.specs.Bounds.{IsEdgeWithin, IsEdgeInTile, AreRingsWithin, IsWithin}
use Rattle.tile_clip.specs.Outlines.{touches, some_edges, touching_rings, touching, edge_part, points_in, edges_to, ring_edges, ring_in, rings_in, outline_in}

-- of lists
module _ {A B : Type 0} (P : A → Type 0) (Q : B → Type 0) (f : A → Option B) (made : (x : A) (y : B) → P x → f x ≡ Some y → Q y) where
  one_made : (x : A) (o : Option B) (ys : List B) → f x ≡ o → P x → All Q ys → All Q (cons_option o ys)
  one_made x None ys e h k = k
  one_made x (Some y) ys e h k = All-cons Q y ys (made x y h e) k

  pub All-filter_map : (xs : List A) → All P xs → All Q (filter_map f xs)
  All-filter_map [] h = All-nil Q
  All-filter_map (x ∷ xs) h = one_made x (f x) (filter_map f xs) refl (All-head P x xs h) (All-filter_map xs (All-tail P x xs h))

module _ {A B : Type 0} (P : A → Type 0) (Q : B → Type 0) (f : A → B) (made : (x : A) → P x → Q (f x)) where
  All-mapped : (xs : List A) → All P xs → All Q (map f xs)
  All-mapped [] h = All-nil Q
  All-mapped (x ∷ xs) h = All-cons Q (f x) (map f xs) (made x (All-head P x xs h)) (All-mapped xs (All-tail P x xs h))

some_same : {A : Type 0} (x y : A) → Some x ≡ Some y → x ≡ y
some_same x y e = cc

module _ (corner : Grid) (buffer : ℕ) where
  order : (z : ℤ) → (z -ℤ pos buffer) ≤ℤ (z +ℤ pos (4096 + buffer))
  order z = omega (arith, ints)

  abbrev IsInColumn : Edge → Type 0
  IsInColumn e = IsEdgeWithin X (corner.x -ℤ pos buffer) (corner.x +ℤ pos (4096 + buffer)) e

  -- the part of an edge of the column in the row lies in the tile
  pub end-in-tile : (e : Edge) (end : Grid) → IsEdgeWithin X (corner.x -ℤ pos buffer) (corner.x +ℤ pos (4096 + buffer)) e → ((end ≡ e.from) ⊎ (end ≡ e.to)) → touches (row corner buffer) e ≡ true → IsInTile corner buffer (reach (row corner buffer) e.from e.to end)
  end-in-tile e end within is met = record {
    x = reach_across (row corner buffer) e.from e.to end (corner.x -ℤ pos buffer) (corner.x +ℤ pos (4096 + buffer)) met is within.from within.to;
    y = reach_inside (row corner buffer) e.from e.to end (order corner.y);
  }

  part_case : (m : Bool) (e f : Edge) → touches (row corner buffer) e ≡ m → IsInColumn e → cond m (Some (record { from = reach (row corner buffer) e.from e.to e.from; to = reach (row corner buffer) e.from e.to e.to; last = e.last || not (inside (row corner buffer) e.to) })) None ≡ Some f → IsEdgeInTile corner buffer f
  part_case false e f m h k = absurd (cc)
  part_case true e f m h k =
      let made : Edge = record { from = reach (row corner buffer) e.from e.to e.from; to = reach (row corner buffer) e.from e.to e.to; last = e.last || not (inside (row corner buffer) e.to) } in
      let all : IsEdgeInTile corner buffer made = record { from = end-in-tile e e.from h (inl refl) m; to = end-in-tile e e.to h (inr refl) m } in
      rw (some_same made f k) at all

  pub part-in-tile : (e f : Edge) → IsEdgeWithin X (corner.x -ℤ pos buffer) (corner.x +ℤ pos (4096 + buffer)) e → edge_part (row corner buffer) e ≡ Some f → IsEdgeInTile corner buffer f
  part-in-tile e f within is = part_case (touches (row corner buffer) e) e f refl within is

-- what is left in a strip lies in it
module _ (s : Strip) (ordered : s.lo ≤ℤ s.hi) where
  abbrev IsIn : Edge → Type 0
  IsIn e = IsEdgeWithin s.axis s.lo s.hi e

  abbrev IsPointIn : Grid → Type 0
  IsPointIn p = IsBetween s.lo s.hi (along s.axis p)

  in_case : (m : Bool) (e f : Edge) → cond m (Some (record { from = reach s e.from e.to e.from; to = reach s e.from e.to e.to; last = e.last || not (inside s e.to) })) None ≡ Some f → IsIn f
  in_case false e f k = absurd (cc)
  in_case true e f k =
      let made : Edge = record { from = reach s e.from e.to e.from; to = reach s e.from e.to e.to; last = e.last || not (inside s e.to) } in
      let all : IsIn made = record { from = reach_inside s e.from e.to e.from ordered; to = reach_inside s e.from e.to e.to ordered } in
      rw (some_same made f k) at all

  one_part : (e : Edge) (o : Option Edge) (more : List Edge) → edge_part s e ≡ o → All IsIn more → All IsIn (cons_option o more)
  one_part e None more k all = all
  one_part e (Some f) more k all = All-cons IsIn f more (in_case (touches s e) e f k) all

  parts_in : (es : List Edge) → All IsIn (filter_map (edge_part s) es)
  parts_in [] = All-nil IsIn
  parts_in (e ∷ es) = one_part e (edge_part s e) (filter_map (edge_part s) es) refl (parts_in es)

  points_case : (m i : Bool) (p q : Grid) → All IsPointIn (cond m (cond i (reach s p q q ∷ []) (reach s p q p ∷ reach s p q q ∷ [])) [])
  points_case true true p q = All-cons IsPointIn (reach s p q q) [] (reach_inside s p q q ordered) (All-nil IsPointIn)
  points_case true false p q = All-cons IsPointIn (reach s p q p) (reach s p q q ∷ []) (reach_inside s p q p ordered) (All-cons IsPointIn (reach s p q q) [] (reach_inside s p q q ordered) (All-nil IsPointIn))
  points_case false i p q = All-nil IsPointIn

  all_points : (es : List Edge) → All IsPointIn (points_in s es)
  all_points [] = All-nil IsPointIn
  all_points (e ∷ es) = All-append IsPointIn (edge_points s e.from e.to) (points_in s es) (points_case (meets s e.from e.to) (inside s e.from) e.from e.to) (all_points es)

  edges_to_in : (p : Grid) (rest : List Grid) (end : Grid) → IsPointIn p → All IsPointIn rest → IsPointIn end → All IsIn (edges_to p rest end)
  edges_to_in p [] end h k l = All-cons IsIn (record { from = p; to = end; last = false }) [] (record { from = h; to = l }) (All-nil IsIn)
  edges_to_in p (q ∷ rest) end h k l =
      let next = All-head IsPointIn q rest k in
      All-cons IsIn (record { from = p; to = q; last = false }) (edges_to q rest end) (record { from = h; to = next }) (edges_to_in q rest end next (All-tail IsPointIn q rest k) l)

  ring_edges_in : (ring : List Grid) → All IsPointIn ring → All IsIn (ring_edges ring)
  ring_edges_in [] h = All-nil IsIn
  ring_edges_in (p ∷ rest) h =
      let first = All-head IsPointIn p rest h in
      edges_to_in p rest p first (All-tail IsPointIn p rest h) first

  ring_in_in : (es : List Edge) → All IsIn (ring_in s es)
  ring_in_in es = ring_edges_in (points_in s es) (all_points es)

  inners_in : (inners : List (List Edge)) → All (λ inner. All IsIn inner) (map (ring_in s) inners)
  inners_in [] = All-nil (λ (inner : List Edge). All IsIn inner)
  inners_in (inner ∷ inners) = All-cons (λ (inner : List Edge). All IsIn inner) (ring_in s inner) (map (ring_in s) inners) (ring_in_in inner) (inners_in inners)

  polygons_in : (polygons : List RingEdges) → All (AreRingsWithin s.axis s.lo s.hi) (map (rings_in s) polygons)
  polygons_in [] = All-nil (AreRingsWithin s.axis s.lo s.hi)
  polygons_in (rings ∷ polygons) = All-cons (AreRingsWithin s.axis s.lo s.hi) (rings_in s rings) (map (rings_in s) polygons) (record { outer = ring_in_in rings.outer; inners = inners_in rings.inners }) (polygons_in polygons)

  place_case : (i : Bool) (p : Grid) → inside s p ≡ i → IsWithin s.axis s.lo s.hi (cond i (OnePoint p) (Paths []))
  place_case true p e = inside_between s p e
  place_case false p e = All-nil IsIn

  pub outline_in-within : (outline : Outline) → IsWithin s.axis s.lo s.hi (outline_in s outline)
  outline_in-within (OnePoint p) = place_case (inside s p) p refl
  outline_in-within (Paths es) = parts_in es
  outline_in-within (Polygons polygons) = polygons_in polygons

-- and what touches a strip lies where all of it lies
module _ (t : Strip) (axis : Axis) (lo hi : ℤ) where
  abbrev Is : Edge → Type 0
  Is e = IsEdgeWithin axis lo hi e

  some_case : (es left : List Edge) → some_edges es ≡ Some left → All Is es → All Is left
  some_case [] left e h = absurd (cc)
  some_case (x ∷ es) left e h = All-same Is left (x ∷ es) (sym (some_same (x ∷ es) left e)) h

  rings_case : (o : Option (List Edge)) (es : List Edge) (inners : List (List Edge)) (rings : RingEdges) → some_edges es ≡ o → option_and_then (λ outer. Some (record { outer = outer; inners = inners })) o ≡ Some rings → All Is es → All (λ inner. All Is inner) inners → AreRingsWithin axis lo hi rings
  rings_case None es inners rings e is h k = absurd (cc)
  rings_case (Some outer) es inners rings e is h k =
      let made : RingEdges = record { outer = outer; inners = inners } in
      let all : AreRingsWithin axis lo hi made = record { outer = some_case es outer e h; inners = k } in
      rw (some_same made rings is) at all

  inner_touching : (inner left : List Edge) → All Is inner → some_edges (filter (touches t) inner) ≡ Some left → All Is left
  inner_touching inner left h e = some_case (filter (touches t) inner) left e (All-filter (touches t) Is inner h)

  rings_touching : (rings left : RingEdges) → AreRingsWithin axis lo hi rings → touching_rings t rings ≡ Some left → AreRingsWithin axis lo hi left
  rings_touching rings left h e =
      rings_case (some_edges (filter (touches t) rings.outer)) (filter (touches t) rings.outer) (filter_map (λ inner. some_edges (filter (touches t) inner)) rings.inners) left refl e (All-filter (touches t) Is rings.outer h.outer) (All-filter_map (λ (inner : List Edge). All Is inner) (λ (inner : List Edge). All Is inner) (λ inner. some_edges (filter (touches t) inner)) inner_touching rings.inners h.inners)

  place_touching : (i : Bool) (p : Grid) → IsBetween lo hi (along axis p) → IsWithin axis lo hi (cond i (OnePoint p) (Paths []))
  place_touching true p h = h
  place_touching false p h = All-nil Is

  pub touching-within : (outline : Outline) → IsWithin axis lo hi outline → IsWithin axis lo hi (touching t outline)
  touching-within (OnePoint p) h = place_touching (inside t p) p h
  touching-within (Paths es) h = All-filter (touches t) Is es h
  touching-within (Polygons polygons) h = All-filter_map (AreRingsWithin axis lo hi) (AreRingsWithin axis lo hi) (touching_rings t) rings_touching polygons h

-- so it stays in its column
pub still-in-column : (buffer x : ℕ) (t : Strip) (outline : Outline) → IsWithin X (pos (4096 * x) -ℤ pos buffer) (pos (4096 * x) +ℤ pos (4096 + buffer)) outline → IsWithin X (pos (4096 * x) -ℤ pos buffer) (pos (4096 * x) +ℤ pos (4096 + buffer)) (touching t outline)
still-in-column buffer x t = touching-within t X (pos (4096 * x) -ℤ pos buffer) (pos (4096 * x) +ℤ pos (4096 + buffer))
