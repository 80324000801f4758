-- What holds of each cut: its points lie near the tile, its paths and rings are long enough, its rings have area of their sign.
use Rattle.std.proofs.Common.{◌≡◌, ◌≢◌, ℕ, ◌+◌, ◌≤◌, Bool, true, false, ◌&&◌, ◌||◌, cond, nat_lt, ℤ, pos, negsuc, neg_ℤ, ◌+ℤ◌, ◌-ℤ◌, ◌<ℤ◌, ◌≤ℤ◌, Option, Some, None, IfSome, option_and_then, List, [], ◌∷◌, length, map, reverse, take, drop, All, filter_map, length-append, length-take, length-drop, refl, sym, ap, ◌∙◌, arith}
use Rattle.std.specs.Ordering.{int_eq}
use Rattle.std.specs.List.{cons_option}
use Rattle.std.specs.Prelude.{int_lt, flat_map}
use Rattle.std.proofs.lemmas.Bool.{false≢true}
use Rattle.std.proofs.lemmas.Bool.Decides.{nat_tests, Decides-int_eq}
use Rattle.std.proofs.lemmas.Int.{ints, by_lt_z}
use Rattle.std.proofs.lemmas.List.{length-reverse}
use Rattle.std.proofs.lemmas.List.Elements.{All-append, All-take, All-drop}
use Rattle.tb_types.specs.declared.location.Grid.{Grid}
use Rattle.tb_types.specs.Clean.{x_of, y_of, doubled_area}
use Rattle.tb_types.specs.Clean as clean
use Rattle.tb_types.proofs.AreaLaws as areas
use Rattle.tb_types.specs.declared.tile.TileXyz.{TileXyz}
use Rattle.tb_types.specs.declared.shape.Shape.{Shape}
use Rattle.tb_types.specs.declared.shape.Shape.TheVariants.{Point, Line, Area}
use Rattle.tb_types.specs.declared.shape.GridPolygon.{GridPolygon}
use Rattle.strip_clip.specs.Edges.{inside}
use Rattle.strip_clip.specs.Lines.{line_paths}
use Rattle.strip_clip.specs.Rings.{ring_points}
use Rattle.strip_clip.specs.Cleaning.{same, distinct_after, distinct, unclosed, opened, distinct_ring, clean_paths, place_of_least, rotation, orientation, clean_ring}
use Rattle.strip_clip.specs.Cuts.{IsBetween, column, row, corner_of, relative, cut_line, cut_ring, leaves_some, with_holes, cut_polygon, some_line, some_area, cut_at, cut_of, IsInTile}
use Rattle.strip_clip.specs.CleanCuts.{IsNear, IsCleanCut}
use Rattle.strip_clip.proofs.Inside.{lt_true, lt_false, inside_between}
use Rattle.strip_clip.proofs.Turning.{area-rotation}
use Rattle.strip_clip.proofs.Everywhere.{Each, each-append, all_each, line_in_tile, ring_in_tile}

between_near : (z corner : ℤ) (buffer : ℕ) → buffer ≤ 256 → IsBetween (corner -ℤ pos buffer) (corner +ℤ pos (4096 + buffer)) z → IsBetween (negsuc 255) (pos 4352) (z -ℤ corner)
between_near z corner buffer small is = let low = is.low in let high = is.high in record { low = omega (arith, ints); high = omega (arith, ints) }

near : (corner : Grid) (buffer : ℕ) (p : Grid) → buffer ≤ 256 → IsInTile corner buffer p → IsNear (relative corner p)
near corner buffer p small is = record { x = between_near p.x corner.x buffer small is.x; y = between_near p.y corner.y buffer small is.y }

module _ {A B : Type 0} (P : A → Type 0) (Q : B → Type 0) (f : A → B) (made : (x : A) → P x → Q (f x)) where
  each-map : (xs : List A) → Each P xs → Each Q (map f xs)
  each-map [] h = tt
  each-map (x ∷ xs) h = (made x h.0, each-map xs h.1)

module _ {A B : Type 0} (Q : B → Type 0) (f : A → Option B) (made : (x : A) (y : B) → f x ≡ Some y → Q y) where
  one_made : (x : A) (o : Option B) (ys : List B) → f x ≡ o → Each Q ys → Each Q (cons_option o ys)
  one_made x None ys e h = h
  one_made x (Some y) ys e h = (made x y e, h)

  each-filter_map : (xs : List A) → Each Q (filter_map f xs)
  each-filter_map [] = tt
  each-filter_map (x ∷ xs) = one_made x (f x) (filter_map f xs) refl (each-filter_map xs)

module _ (P : Grid → Type 0) where
  after_case : (b : Bool) (q : Grid) (xs ys : List Grid) → P q → Each P xs → Each P ys → Each P (cond b xs (q ∷ ys))
  after_case true q xs ys p h k = h
  after_case false q xs ys p h k = (p, k)

  each-distinct_after : (p : Grid) (rest : List Grid) → Each P rest → Each P (distinct_after p rest)
  each-distinct_after p [] h = tt
  each-distinct_after p (q ∷ rest) h = after_case (same p q) q (distinct_after p rest) (distinct_after q rest) h.0 (each-distinct_after p rest h.1) (each-distinct_after q rest h.1)

  each-distinct : (path : List Grid) → Each P path → Each P (distinct path)
  each-distinct [] h = tt
  each-distinct (p ∷ rest) h = (h.0, each-distinct_after p rest h.1)

  last_case : (b : Bool) (p : Grid) → P p → Each P (cond b [] (p ∷ []))
  last_case true p h = tt
  last_case false p h = (h, tt)

  each-unclosed : (first : Grid) (rest : List Grid) → Each P rest → Each P (unclosed first rest)
  each-unclosed first [] h = tt
  each-unclosed first (p ∷ []) h = last_case (same first p) p h.0
  each-unclosed first (p ∷ q ∷ rest) h = (h.0, each-unclosed first (q ∷ rest) h.1)

  each-opened : (ring : List Grid) → Each P ring → Each P (opened ring)
  each-opened [] h = tt
  each-opened (p ∷ rest) h = (h.0, each-unclosed p rest h.1)

  each-reverse : (xs : List Grid) → Each P xs → Each P (reverse xs)
  each-reverse [] h = tt
  each-reverse (x ∷ xs) h = rw areas.reverse-cons (each-append P (reverse xs) (x ∷ []) (each-reverse xs h.1) (h.0, tt))

  oriented_case : (b : Bool) (ring : List Grid) → Each P ring → Each P (cond b ring (reverse ring))
  oriented_case true ring h = h
  oriented_case false ring h = each-reverse ring h

  all-rotation : (ring : List Grid) → Each P ring → All P (rotation ring)
  all-rotation ring h = All-append P (drop (place_of_least ring) ring) (take (place_of_least ring) ring) (All-drop P (place_of_least ring) ring (all_each P ring h)) (All-take P (place_of_least ring) ring (all_each P ring h))

at_least_2 : (n : ℕ) → nat_lt n 2 ≡ false → 2 ≤ n
at_least_2 n e = grind (arith, nat_tests)

at_least_3 : (n : ℕ) → nat_lt n 3 ≡ false → 3 ≤ n
at_least_3 n e = grind (arith, nat_tests)

path_case : (b : Bool) (path : List Grid) (left : List (List Grid)) → nat_lt (length path) 2 ≡ b → Each IsNear path → Each (clean.IsPath IsNear) left → Each (clean.IsPath IsNear) (cond b left (path ∷ left))
path_case true path left e h rest = rest
path_case false path left e h rest = (record { long = at_least_2 (length path) e; points = all_each IsNear path h }, rest)

each-clean_paths : (paths : List (List Grid)) → Each (Each IsNear) paths → Each (clean.IsPath IsNear) (clean_paths paths)
each-clean_paths [] h = tt
each-clean_paths (path ∷ paths) h = path_case (nat_lt (length (distinct path)) 2) (distinct path) (clean_paths paths) refl (each-distinct IsNear path h.0) (each-clean_paths paths h.1)

line_law : (corner : Grid) (buffer : ℕ) (paths : List (List Grid)) → buffer ≤ 256 → Each (clean.IsPath IsNear) (cut_line corner buffer paths)
unfolding cut_line
line_law corner buffer paths small =
    let cut = flat_map (line_paths (row corner buffer)) (flat_map (line_paths (column corner buffer)) paths) in
    each-clean_paths (map (map (relative corner)) cut) (each-map (Each (IsInTile corner buffer)) (Each IsNear) (map (relative corner)) (λ path h. each-map (IsInTile corner buffer) IsNear (relative corner) (λ p is. near corner buffer p small is) path h) cut (line_in_tile corner buffer paths))

-- the sign of a ring in the right sense
not_zero : (z : ℤ) → int_eq z (pos 0) ≡ false → z ≢ pos 0
not_zero z e = λ zero_is. false≢true (sym e ∙ (Decides-int_eq z (pos 0)).1 zero_is)

stays_positive : (a b : ℤ) → pos 0 <ℤ a → b ≡ a → pos 0 <ℤ b
stays_positive a b h e = omega (arith, ints)

turns_positive : (a b : ℤ) → a ≤ℤ pos 0 → a ≢ pos 0 → b ≡ neg_ℤ a → pos 0 <ℤ b
turns_positive a b h apart e = by_lt_z a (pos 0) (λ k. omega (arith, ints)) (λ k. absurd (apart (omega (arith, ints))))

stays_negative : (a b : ℤ) → a <ℤ pos 0 → b ≡ a → b <ℤ pos 0
stays_negative a b h e = omega (arith, ints)

turns_negative : (a b : ℤ) → pos 0 ≤ℤ a → a ≢ pos 0 → b ≡ neg_ℤ a → b <ℤ pos 0
turns_negative a b h apart e = by_lt_z (pos 0) a (λ k. omega (arith, ints)) (λ k. absurd (apart (omega (arith, ints))))

outer_positive : (ring : List Grid) → doubled_area ring ≢ pos 0 → pos 0 <ℤ doubled_area (orientation true ring)
outer_positive ring apart =
    let a = doubled_area ring in
    by_lt_z (pos 0) a
    (λ h. stays_positive a (doubled_area (orientation true ring)) h (ap (λ t. doubled_area (cond t ring (reverse ring))) (lt_true (pos 0) a h)))
    (λ h. turns_positive a (doubled_area (orientation true ring)) h apart (ap (λ t. doubled_area (cond t ring (reverse ring))) (lt_false (pos 0) a h) ∙ areas.area-reverse x_of y_of ring))

inner_negative : (ring : List Grid) → doubled_area ring ≢ pos 0 → doubled_area (orientation false ring) <ℤ pos 0
inner_negative ring apart =
    let a = doubled_area ring in
    by_lt_z a (pos 0)
    (λ h. stays_negative a (doubled_area (orientation false ring)) h (ap (λ t. doubled_area (cond t ring (reverse ring))) (lt_true a (pos 0) h)))
    (λ h. turns_negative a (doubled_area (orientation false ring)) h apart (ap (λ t. doubled_area (cond t ring (reverse ring))) (lt_false a (pos 0) h) ∙ areas.area-reverse x_of y_of ring))

length_case : (b : Bool) (ring : List Grid) → length (cond b ring (reverse ring)) ≡ length ring
length_case true ring = refl
length_case false ring = length-reverse ring

pub length-rotation : (ring : List Grid) → length (rotation ring) ≡ length ring
length-rotation ring = omega (arith, length-append (drop (place_of_least ring) ring) (take (place_of_least ring) ring), length-drop (place_of_least ring) ring, length-take (place_of_least ring) ring)

or_first : (a b : Bool) → (a || b) ≡ false → a ≡ false
or_first false b e = refl
or_first true b e = absurd (false≢true (sym e))

or_second : (a b : Bool) → (a || b) ≡ false → b ≡ false
or_second false b e = e
or_second true b e = absurd (false≢true (sym e))

some_same : {A : Type 0} (x y : A) → Some x ≡ Some y → x ≡ y
some_same x y e = cc

-- what a ring is after clean-up
pub clean_cases : (b : Bool) (outer : Bool) (ring left : List Grid) → (nat_lt (length ring) 3 || int_eq (doubled_area ring) (pos 0)) ≡ b → cond b None (Some (rotation (orientation outer ring))) ≡ Some left → ((nat_lt (length ring) 3 || int_eq (doubled_area ring) (pos 0)) ≡ false) × (rotation (orientation outer ring) ≡ left)
clean_cases true outer ring left e is = absurd (cc)
clean_cases false outer ring left e is = (e, some_same (rotation (orientation outer ring)) left is)

module _ (points left : List Grid) (all : Each IsNear points) where
  ring_near : (outer : Bool) → rotation (orientation outer (distinct_ring points)) ≡ left → All IsNear left
  ring_near outer is =
      let ring = distinct_ring points in
      rw (sym is) (all-rotation IsNear (orientation outer ring) (oriented_case IsNear (cond outer (int_lt (pos 0) (doubled_area ring)) (int_lt (doubled_area ring) (pos 0))) ring (each-opened IsNear (distinct points) (each-distinct IsNear points all))))

  ring_long : (outer : Bool) → rotation (orientation outer (distinct_ring points)) ≡ left → nat_lt (length (distinct_ring points)) 3 ≡ false → 3 ≤ length left
  ring_long outer is e =
      let ring = distinct_ring points in
      omega (arith, ap length (sym is), length-rotation (orientation outer ring), length_case (cond outer (int_lt (pos 0) (doubled_area ring)) (int_lt (doubled_area ring) (pos 0))) ring, at_least_3 (length ring) e)

  pub outer_law : clean_ring true points ≡ Some left → (clean.IsOuter IsNear) left
  unfolding clean_ring
  outer_law e =
      let ring = distinct_ring points in
      let both = clean_cases (nat_lt (length ring) 3 || int_eq (doubled_area ring) (pos 0)) true ring left refl e in
      let apart = not_zero (doubled_area ring) (or_second (nat_lt (length ring) 3) (int_eq (doubled_area ring) (pos 0)) both.0) in
      record {
        long = ring_long true both.1 (or_first (nat_lt (length ring) 3) (int_eq (doubled_area ring) (pos 0)) both.0);
        points = ring_near true both.1;
        positive = stays_positive (doubled_area (orientation true ring)) (doubled_area left) (outer_positive ring apart) (ap doubled_area (sym both.1) ∙ area-rotation (orientation true ring));
      }

  pub inner_law : clean_ring false points ≡ Some left → (clean.IsInner IsNear) left
  unfolding clean_ring
  inner_law e =
      let ring = distinct_ring points in
      let both = clean_cases (nat_lt (length ring) 3 || int_eq (doubled_area ring) (pos 0)) false ring left refl e in
      let apart = not_zero (doubled_area ring) (or_second (nat_lt (length ring) 3) (int_eq (doubled_area ring) (pos 0)) both.0) in
      record {
        long = ring_long false both.1 (or_first (nat_lt (length ring) 3) (int_eq (doubled_area ring) (pos 0)) both.0);
        points = ring_near false both.1;
        negative = stays_negative (doubled_area (orientation false ring)) (doubled_area left) (inner_negative ring apart) (ap doubled_area (sym both.1) ∙ area-rotation (orientation false ring));
      }

module _ (corner : Grid) (buffer : ℕ) (small : buffer ≤ 256) where
  moved_near : (ring : List Grid) → Each IsNear (map (relative corner) (ring_points (row corner buffer) (ring_points (column corner buffer) ring)))
  moved_near ring = each-map (IsInTile corner buffer) IsNear (relative corner) (λ p is. near corner buffer p small is) (ring_points (row corner buffer) (ring_points (column corner buffer) ring)) (ring_in_tile corner buffer ring)

  cut_outer : (ring left : List Grid) → cut_ring corner buffer true ring ≡ Some left → (clean.IsOuter IsNear) left
  unfolding cut_ring
  cut_outer ring left e = outer_law (map (relative corner) (ring_points (row corner buffer) (ring_points (column corner buffer) ring))) left (moved_near ring) e

  cut_inner : (ring left : List Grid) → cut_ring corner buffer false ring ≡ Some left → (clean.IsInner IsNear) left
  unfolding cut_ring
  cut_inner ring left e = inner_law (map (relative corner) (ring_points (row corner buffer) (ring_points (column corner buffer) ring))) left (moved_near ring) e

  holes_case : (b : Bool) (outer : List Grid) (inners : List (List Grid)) (left : GridPolygon) → cond b (Some (record { outer = outer; inners = inners })) None ≡ Some left → (clean.IsOuter IsNear) outer → Each (clean.IsInner IsNear) inners → (clean.IsPolygon IsNear) left
  holes_case true outer inners left e h k =
      let made : GridPolygon = record { outer = outer; inners = inners } in
      let is = some_same made left e in
      let whole : (clean.IsPolygon IsNear) made = record { outer = h; inners = all_each (clean.IsInner IsNear) inners k } in
      rw is at whole
  holes_case false outer inners left e h k = absurd (cc)

  polygon_case : (polygon left : GridPolygon) (o : Option (List Grid)) → cut_ring corner buffer true polygon.outer ≡ o → option_and_then (λ outer. with_holes outer (filter_map (cut_ring corner buffer false) polygon.inners)) o ≡ Some left → (clean.IsPolygon IsNear) left
  polygon_case polygon left None e is = absurd (cc)
  polygon_case polygon left (Some outer) e is = holes_case (leaves_some outer (filter_map (cut_ring corner buffer false) polygon.inners)) outer (filter_map (cut_ring corner buffer false) polygon.inners) left is (cut_outer polygon.outer outer e) (each-filter_map (clean.IsInner IsNear) (cut_ring corner buffer false) cut_inner polygon.inners)

  polygon_law : (polygon left : GridPolygon) → cut_polygon corner buffer polygon ≡ Some left → (clean.IsPolygon IsNear) left
  unfolding cut_polygon
  polygon_law polygon left e = polygon_case polygon left (cut_ring corner buffer true polygon.outer) refl e

  point_case : (a b : Bool) (p : Grid) → inside (column corner buffer) p ≡ a → inside (row corner buffer) p ≡ b → IfSome (cond (a && b) (Some (Point (relative corner p))) None) IsCleanCut
  point_case true true p e f = near corner buffer p small (record { x = inside_between (column corner buffer) p e; y = inside_between (row corner buffer) p f })
  point_case true false p e f = tt
  point_case false b p e f = tt

  lines_left : (paths : List (List Grid)) → Each (clean.IsPath IsNear) paths → IfSome (some_line paths) IsCleanCut
  lines_left [] h = tt
  lines_left (path ∷ paths) h = (omega arith, all_each (clean.IsPath IsNear) (path ∷ paths) h)

  areas_left : (polygons : List GridPolygon) → Each (clean.IsPolygon IsNear) polygons → IfSome (some_area polygons) IsCleanCut
  areas_left [] h = tt
  areas_left (polygon ∷ polygons) h = (omega arith, all_each (clean.IsPolygon IsNear) (polygon ∷ polygons) h)

  shape_law : (shape : Shape) → IfSome (cut_at corner buffer shape) IsCleanCut
  shape_law (Point p) = point_case (inside (column corner buffer) p) (inside (row corner buffer) p) p refl refl
  shape_law (Line paths) = lines_left (cut_line corner buffer paths) (line_law corner buffer paths small)
  shape_law (Area polygons) = areas_left (filter_map (cut_polygon corner buffer) polygons) (each-filter_map (clean.IsPolygon IsNear) (cut_polygon corner buffer) polygon_law polygons)

pub cut_law : (tile : TileXyz) (buffer : ℕ) (shape : Shape) → buffer ≤ 256 → IfSome (cut_of tile buffer shape) IsCleanCut
unfolding cut_of
cut_law tile buffer shape small = shape_law (corner_of tile) buffer small shape
