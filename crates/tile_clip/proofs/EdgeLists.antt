-- Paths and rings as their edges.
use Rattle.std.proofs.Common.{◌≡◌, ℕ, ◌<◌, Bool, true, false, not, ◌&&◌, ◌||◌, cond, Some, None, List, [], ◌∷◌, ◌++◌, append_assoc, append-nil, map, filter_map, length, nat_lt, nat_eq, refl, sym, ap, ◌∙◌, arith}
use Rattle.std.specs.List.{cons_option}
use Rattle.std.specs.Prelude.{flat_map}
use Rattle.std.proofs.lemmas.Bool.Decides.{nat_tests}
use Rattle.std.proofs.lemmas.List.Elements.{filter_map-append}
use Rattle.tb_types.specs.declared.location.Grid.{Grid}
use Rattle.strip_clip.specs.declared.strip.Strip.{Strip}
use Rattle.strip_clip.specs.Edges.{below, above, inside, meets, reach}
use Rattle.strip_clip.specs.Lines.{leading, line_paths}
use Rattle.strip_clip.specs.Rings.{edge_points, edges_points, ring_points}
use Rattle.strip_clip.specs.Cleaning.{distinct, clean_paths}
use Rattle.tile_clip.specs.declared.edge.Edge.{Edge}
use Rattle.tile_clip.specs.Outlines.{is_empty, path_edges, edges_to, ring_edges, touches, edge_part, points_in, paths_of}

-- a ring's edges go round, so its points in a strip are those of its edges
points-edges_to : (s : Strip) (p : Grid) (rest : List Grid) (end : Grid) → points_in s (edges_to p rest end) ≡ edges_points s p rest end
points-edges_to s p [] end = append-nil (edge_points s p end)
points-edges_to s p (q ∷ rest) end = ap (λ xs. edge_points s p q ++ xs) (points-edges_to s q rest end)

pub points-ring_edges : (s : Strip) (ring : List Grid) → points_in s (ring_edges ring) ≡ ring_points s ring
points-ring_edges s [] = refl
points-ring_edges s (p ∷ rest) = points-edges_to s p rest p

-- a point inside is its own reach
not_first : (a b : Bool) → not a && not b ≡ true → a ≡ false
not_first true b e = absurd (cc)
not_first false b e = refl

not_second : (a b : Bool) → not a && not b ≡ true → b ≡ false
not_second true b e = absurd (cc)
not_second false true e = absurd (cc)
not_second false false e = refl

reach_of : (s : Strip) (p q e : Grid) (b a : Bool) (x y : Grid) → b ≡ false → a ≡ false → cond b x (cond a y e) ≡ e
reach_of s p q e b a x y h k = ap (λ t. cond t x (cond a y e)) h ∙ ap (λ t. cond t y e) k

pub reach-inside : (s : Strip) (p q e : Grid) → inside s e ≡ true → reach s p q e ≡ e
unfolding reach
reach-inside s p q e h = reach_of s p q e (below s e) (above s e) _ _ (not_first (below s e) (above s e) h) (not_second (below s e) (above s e) h)

meets_first : (a b d e : Bool) → not a && not b ≡ true → not (a && d) && not (b && e) ≡ true
meets_first true b d e h = absurd (cc)
meets_first false true d e h = absurd (cc)
meets_first false false d e h = refl

pub inside-meets : (s : Strip) (p q : Grid) → inside s p ≡ true → meets s p q ≡ true
inside-meets s p q h = meets_first (below s p) (above s p) (below s q) (above s q) h

meets_last : (a b d e : Bool) → not d && not e ≡ true → not (a && d) && not (b && e) ≡ true
meets_last a b true e h = absurd (cc)
meets_last a b false true h = absurd (cc)
meets_last true true false false h = refl
meets_last true false false false h = refl
meets_last false true false false h = refl
meets_last false false false false h = refl

pub meets-inside : (s : Strip) (p q : Grid) → inside s q ≡ true → meets s p q ≡ true
meets-inside s p q h = meets_last (below s p) (above s p) (below s q) (above s q) h

-- the paths of a line whose first point is inside: the first path goes on from it, and ends there only where the line does
record Starts (s : Strip) (q : Grid) (rest : List Grid) : Type 0 where
  path : List Grid
  more : List (List Grid)
  is : line_paths s (q ∷ rest) ≡ (q ∷ path) ∷ more
  ends : is_empty path ≡ is_empty rest

starts_case : (s : Strip) (q r : Grid) (rest : List Grid) (i : Bool) → inside s q ≡ true → inside s r ≡ i → (inside s r ≡ true → Starts s r rest) → Starts s q (r ∷ rest)
starts_case s q r rest true h k later =
    let next = later k in
    let m = inside-meets s q r h in
    record {
      path = r ∷ next.path;
      more = next.more;
      is = ap (λ b. cond b (cond (inside s r) (leading (reach s q r q) (line_paths s (r ∷ rest))) ((reach s q r q ∷ reach s q r r ∷ []) ∷ line_paths s (r ∷ rest))) (line_paths s (r ∷ rest))) m ∙ ap (λ b. cond b (leading (reach s q r q) (line_paths s (r ∷ rest))) ((reach s q r q ∷ reach s q r r ∷ []) ∷ line_paths s (r ∷ rest))) k ∙ ap (λ xs. leading (reach s q r q) xs) next.is ∙ ap (λ p. (p ∷ r ∷ next.path) ∷ next.more) (reach-inside s q r q h);
      ends = refl;
    }
starts_case s q r rest false h k later =
    let m = inside-meets s q r h in
    record {
      path = reach s q r r ∷ [];
      more = line_paths s (r ∷ rest);
      is = ap (λ b. cond b (cond (inside s r) (leading (reach s q r q) (line_paths s (r ∷ rest))) ((reach s q r q ∷ reach s q r r ∷ []) ∷ line_paths s (r ∷ rest))) (line_paths s (r ∷ rest))) m ∙ ap (λ b. cond b (leading (reach s q r q) (line_paths s (r ∷ rest))) ((reach s q r q ∷ reach s q r r ∷ []) ∷ line_paths s (r ∷ rest))) k ∙ ap (λ p. (p ∷ reach s q r r ∷ []) ∷ line_paths s (r ∷ rest)) (reach-inside s q r q h);
      ends = refl;
    }

starts : (s : Strip) (q : Grid) (rest : List Grid) → inside s q ≡ true → Starts s q rest
starts s q [] h = record { path = []; more = []; is = ap (λ b. cond b ((q ∷ []) ∷ []) []) h; ends = refl }
starts s q (r ∷ rest) h = starts_case s q r rest (inside s r) h refl (λ k. starts s r rest k)

-- what is left of a path's edges are the edges of what is left of the path
or_true : (l : Bool) → (l || true) ≡ true
or_true true = refl
or_true false = refl

or_false : (l : Bool) → (l || false) ≡ l
or_false true = refl
or_false false = refl

part_of : (s : Strip) (e : Edge) → touches s e ≡ true → edge_part s e ≡ Some (record { from = reach s e.from e.to e.from; to = reach s e.from e.to e.to; last = e.last || not (inside s e.to) })
part_of s e m = ap (λ b. cond b (Some (record { from = reach s e.from e.to e.from; to = reach s e.from e.to e.to; last = e.last || not (inside s e.to) })) None) m

no_part : (s : Strip) (e : Edge) → touches s e ≡ false → edge_part s e ≡ None
no_part s e m = ap (λ b. cond b (Some (record { from = reach s e.from e.to e.from; to = reach s e.from e.to e.to; last = e.last || not (inside s e.to) })) None) m

abbrev first_edge : Grid → Grid → List Grid → Edge
first_edge p q rest = record { from = p; to = q; last = is_empty rest }

parts_step : (s : Strip) (p q : Grid) (rest : List Grid) (m i : Bool) → meets s p q ≡ m → inside s q ≡ i → filter_map (edge_part s) (path_edges (q ∷ rest)) ≡ flat_map path_edges (line_paths s (q ∷ rest)) → filter_map (edge_part s) (path_edges (p ∷ q ∷ rest)) ≡ flat_map path_edges (cond m (cond i (leading (reach s p q p) (line_paths s (q ∷ rest))) ((reach s p q p ∷ reach s p q q ∷ []) ∷ line_paths s (q ∷ rest))) (line_paths s (q ∷ rest)))
parts_step s p q rest false i m k later = ap (λ o. cons_option o (filter_map (edge_part s) (path_edges (q ∷ rest)))) (no_part s (first_edge p q rest) m) ∙ later
parts_step s p q rest true false m k later =
    let left = filter_map (edge_part s) (path_edges (q ∷ rest)) in
    let a = reach s p q p in
    let b = reach s p q q in
    ap (λ o. cons_option o left) (part_of s (first_edge p q rest) m) ∙ ap (λ t. record { from = a; to = b; last = is_empty rest || not t } ∷ left) k ∙ ap (λ t. record { from = a; to = b; last = t } ∷ left) (or_true (is_empty rest)) ∙ ap (λ xs. record { from = a; to = b; last = true } ∷ xs) later
parts_step s p q rest true true m k later =
    let left = filter_map (edge_part s) (path_edges (q ∷ rest)) in
    let a = reach s p q p in
    let next = starts s q rest k in
    ap (λ o. cons_option o left) (part_of s (first_edge p q rest) m) ∙ ap (λ t. record { from = a; to = reach s p q q; last = is_empty rest || not t } ∷ left) k ∙ ap (λ t. record { from = a; to = reach s p q q; last = t } ∷ left) (or_false (is_empty rest) ∙ sym next.ends) ∙ ap (λ b. record { from = a; to = b; last = is_empty next.path } ∷ left) (reach-inside s p q q k) ∙ ap (λ xs. record { from = a; to = q; last = is_empty next.path } ∷ xs) (later ∙ ap (flat_map path_edges) next.is) ∙ sym (ap (λ xs. flat_map path_edges (leading a xs)) next.is)

alone : (s : Strip) (p : Grid) (i : Bool) → flat_map path_edges (cond i ((p ∷ []) ∷ []) []) ≡ []
alone s p true = refl
alone s p false = refl

pub parts-path : (s : Strip) (path : List Grid) → filter_map (edge_part s) (path_edges path) ≡ flat_map path_edges (line_paths s path)
parts-path s [] = refl
parts-path s (p ∷ []) = sym (alone s p (inside s p))
parts-path s (p ∷ q ∷ rest) = parts_step s p q rest (meets s p q) (inside s q) refl refl (parts-path s (q ∷ rest))

flat-append : (xs ys : List (List Grid)) → flat_map path_edges (xs ++ ys) ≡ flat_map path_edges xs ++ flat_map path_edges ys
flat-append [] ys = refl
flat-append (x ∷ xs) ys = ap (λ zs. path_edges x ++ zs) (flat-append xs ys) ∙ sym (append_assoc (path_edges x) (flat_map path_edges xs) (flat_map path_edges ys))

pub parts-paths : (s : Strip) (paths : List (List Grid)) → filter_map (edge_part s) (flat_map path_edges paths) ≡ flat_map path_edges (flat_map (line_paths s) paths)
parts-paths s [] = refl
parts-paths s (path ∷ paths) =
    filter_map-append (edge_part s) (path_edges path) (flat_map path_edges paths) ∙ ap (λ xs. xs ++ filter_map (edge_part s) (flat_map path_edges paths)) (parts-path s path) ∙ ap (λ xs. flat_map path_edges (line_paths s path) ++ xs) (parts-paths s paths) ∙ sym (flat-append (line_paths s path) (flat_map (line_paths s) paths))

-- edges are paths_of to the paths that they are of
pub paths_of-path : (p q : Grid) (rest : List Grid) (es : List Edge) → paths_of (path_edges (p ∷ q ∷ rest) ++ es) ≡ (p ∷ q ∷ rest) ∷ paths_of es
paths_of-path p q [] es = refl
paths_of-path p q (r ∷ rest) es = ap (leading p) (paths_of-path q r rest es)

-- a path of fewer than two points has no edges, and goes in the clean-up
module _ (f : Grid → Grid) where
  pub clean-paths_of : (paths : List (List Grid)) → clean_paths (map (map f) (paths_of (flat_map path_edges paths))) ≡ clean_paths (map (map f) paths)
  clean-paths_of [] = refl
  clean-paths_of ([] ∷ paths) = clean-paths_of paths
  clean-paths_of ((p ∷ []) ∷ paths) = clean-paths_of paths
  clean-paths_of ((p ∷ q ∷ rest) ∷ paths) =
      let path = distinct (map f (p ∷ q ∷ rest)) in
      ap (λ xs. clean_paths (map (map f) xs)) (paths_of-path p q rest (flat_map path_edges paths)) ∙ ap (λ xs. cond (nat_lt (length path) 2) xs (path ∷ xs)) (clean-paths_of paths)

-- one edge of a path more
not_zero : (n : ℕ) → 0 < n → nat_eq n 0 ≡ false
not_zero n h = grind (arith, nat_tests)

pub last-edge : (later : List Grid) (left : ℕ) → left ≡ length later → nat_eq left 0 ≡ is_empty later
last-edge [] left e = rw e refl
last-edge (q ∷ later) left e = not_zero left (omega (arith, e))

pub add-edge : (before new whole : List Edge) (p q : Grid) (left later : List Grid) (b : Bool) → left ≡ q ∷ later → b ≡ is_empty later → before ++ path_edges (p ∷ left) ≡ whole → new ≡ before ++ record { from = p; to = q; last = b } ∷ [] → new ++ path_edges (q ∷ later) ≡ whole
add-edge before new whole p q left later b step is told pushed =
    ap (λ xs. xs ++ path_edges (q ∷ later)) pushed ∙ append_assoc before (record { from = p; to = q; last = b } ∷ []) (path_edges (q ∷ later)) ∙ ap (λ t. before ++ record { from = p; to = q; last = t } ∷ path_edges (q ∷ later)) is ∙ sym (ap (λ xs. before ++ path_edges (p ∷ xs)) step) ∙ told
