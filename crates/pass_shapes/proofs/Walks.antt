-- Walks over lists, element by element.
use Rattle.std.proofs.Common.{◌≡◌, ℕ, suc, ◌+◌, ◌-◌, ◌<◌, ◌≤◌, Bool, true, false, cond, ◌&&◌, nat_le, Option, None, Some, option_map, option_and_then, List, [], ◌∷◌, ◌++◌, length, take, drop, get_or, map, filter, filter_map, All, Result, Ok, Err, IfOk, refl, sym, ap, subst, ◌∙◌, append_assoc, arith, ℤ, pos, min}
use Rattle.std.proofs.lemmas.List.{take_more, drop_more, append-nil, map-append, drop_all}
use Rattle.std.proofs.lemmas.List.Elements.{filter-append, filter_map-append, All-from_recursion, recursion_from_All, All-append, All-cons, All-nil}
use Rattle.std.proofs.lemmas.Bool.Decides.{nat_tests}
use Rattle.std.specs.List.{AllByRecursion, cons_option}
use Rattle.tb_types.specs.Bags.{total}
use Rattle.tb_types.specs.Clean.{x_of, y_of}
use Rattle.tb_types.specs.Points.{same, distinct, distinct_after, opened, unclosed, distinct_ring}
use Rattle.tb_types.specs.declared.element.OsmId.{OsmId}
use Rattle.tb_types.specs.declared.location.Grid.{Grid}
use Rattle.tb_types.specs.declared.location.World.{World}
use Rattle.osm_elements.specs.declared.element.NodeEl.{NodeEl}
use Rattle.shard_store.specs.Join.{Entry}
use Rattle.member_sets.specs.declared.unit.Unit.{Unit}
use Rattle.ring_assembly.specs.Chains.{same_node}
use Rattle.std.specs.Prelude.{◌≤ℤ◌, ◌*◌, ◌^◌}
use Rattle.std.proofs.lemmas.Int.{ints}
use Rattle.hilbert_ids.proofs.Numbers.{two_mono}
use Rattle.line_simplify.specs.Key as simplified
use Rattle.tile_model.specs.Points.{IsOnGrid}
use Rattle.tile_model.specs.Ways.{all_located, ends_with, ends_meet, is_closed}
use Rattle.tile_model.specs.World.{round}
use Rattle.pass_shapes.specs.Stores.{is_needed, located_entry, located_in}

-- one element more
pub walk-next : {A B : Type 0} (f : List A → List B) → ((xs ys : List A) → f (xs ++ ys) ≡ f xs ++ f ys) → (xs : List A) (i : ℕ) (d : A) → i < length xs → f (take (i + 1) xs) ≡ f (take i xs) ++ f (get_or xs i d ∷ [])
walk-next f split xs i d more = ap f (take_more xs i d more) ∙ split (take i xs) (get_or xs i d ∷ [])

-- chosen values
pub chosen-some : {A B : Type 0} (g : A → Option B) (x : A) (y : B) → g x ≡ Some y → filter_map g (x ∷ []) ≡ y ∷ []
chosen-some g x y e = ap (λ o. cons_option o []) e

pub chosen-none : {A B : Type 0} (g : A → Option B) (x : A) → g x ≡ None → filter_map g (x ∷ []) ≡ []
chosen-none g x e = ap (λ o. cons_option o []) e

pub chosen_next : {A B : Type 0} (g : A → Option B) (xs : List A) (i : ℕ) (d : A) (y : B) → i < length xs → g (get_or xs i d) ≡ Some y → filter_map g (take (i + 1) xs) ≡ filter_map g (take i xs) ++ y ∷ []
chosen_next g xs i d y more e = walk-next (filter_map g) (filter_map-append g) xs i d more ∙ ap (λ ys. filter_map g (take i xs) ++ ys) (chosen-some g (get_or xs i d) y e)

pub chosen_not : {A B : Type 0} (g : A → Option B) (xs : List A) (i : ℕ) (d : A) → i < length xs → g (get_or xs i d) ≡ None → filter_map g (take (i + 1) xs) ≡ filter_map g (take i xs)
chosen_not g xs i d more e = walk-next (filter_map g) (filter_map-append g) xs i d more ∙ (ap (λ ys. filter_map g (take i xs) ++ ys) (chosen-none g (get_or xs i d) e) ∙ append-nil (filter_map g (take i xs)))

-- needed nodes
located-split : (needed : List (Entry Unit)) (block : ℕ) (xs ys : List NodeEl) → located_in needed block (xs ++ ys) ≡ located_in needed block xs ++ located_in needed block ys
located-split needed block xs ys = ap (map (located_entry block)) (filter-append (λ n. is_needed needed n.id) xs ys) ∙ map-append (located_entry block) (filter (λ n. is_needed needed n.id) xs) (filter (λ n. is_needed needed n.id) ys)

pub located_next : (needed : List (Entry Unit)) (block : ℕ) (nodes : List NodeEl) (i : ℕ) (d : NodeEl) → i < length nodes → is_needed needed (get_or nodes i d).id ≡ true
    → located_in needed block (take (i + 1) nodes) ≡ located_in needed block (take i nodes) ++ located_entry block (get_or nodes i d) ∷ []
located_next needed block nodes i d more is =
    walk-next (located_in needed block) (located-split needed block) nodes i d more
    ∙ ap (λ b. located_in needed block (take i nodes) ++ map (located_entry block) (cond b (get_or nodes i d ∷ []) [])) is

pub located_not : (needed : List (Entry Unit)) (block : ℕ) (nodes : List NodeEl) (i : ℕ) (d : NodeEl) → i < length nodes → is_needed needed (get_or nodes i d).id ≡ false
    → located_in needed block (take (i + 1) nodes) ≡ located_in needed block (take i nodes)
located_not needed block nodes i d more is =
    walk-next (located_in needed block) (located-split needed block) nodes i d more
    ∙ (ap (λ b. located_in needed block (take i nodes) ++ map (located_entry block) (cond b (get_or nodes i d ∷ []) [])) is ∙ append-nil (located_in needed block (take i nodes)))

-- the points of a way, node after node
abbrev pub WithRest : (OsmId → Option World) → List OsmId → ℕ → List World → Type 0
WithRest locate refs i points = all_located locate refs ≡ option_map (λ rest. points ++ rest) (all_located locate (drop i refs))

pub rest_start : (locate : OsmId → Option World) (refs : List OsmId) → WithRest locate refs 0 []
rest_start locate refs = sym (all-same (all_located locate refs))
  where
    all-same : (o : Option (List World)) → option_map (λ rest. rest) o ≡ o
    all-same None = refl
    all-same (Some points) = refl

one-more : (points : List World) (w : World) (o : Option (List World)) → option_map (λ rest. points ++ rest) (option_map (λ rest. w ∷ rest) o) ≡ option_map (λ rest. (points ++ w ∷ []) ++ rest) o
one-more points w None = refl
one-more points w (Some rest) = ap Some (sym (append_assoc points (w ∷ []) rest))

pub rest_next : (locate : OsmId → Option World) (refs : List OsmId) (i : ℕ) (d : OsmId) (points : List World) (w : World) → i < length refs → locate (get_or refs i d) ≡ Some w → WithRest locate refs i points → WithRest locate refs (i + 1) (points ++ w ∷ [])
rest_next locate refs i d points w more e h =
    h ∙ (ap (λ ids. option_map (λ rest. points ++ rest) (all_located locate ids)) (drop_more refs i d more)
    ∙ (ap (λ found. option_map (λ rest. points ++ rest) (option_and_then (λ p. option_map (λ rest. p ∷ rest) (all_located locate (drop (i + 1) refs))) found)) e ∙ one-more points w (all_located locate (drop (i + 1) refs))))

pub rest_missing : (locate : OsmId → Option World) (refs : List OsmId) (i : ℕ) (d : OsmId) (points : List World) → i < length refs → locate (get_or refs i d) ≡ None → WithRest locate refs i points → all_located locate refs ≡ None
rest_missing locate refs i d points more e h =
    h ∙ (ap (λ ids. option_map (λ rest. points ++ rest) (all_located locate ids)) (drop_more refs i d more)
    ∙ ap (λ found. option_map (λ rest. points ++ rest) (option_and_then (λ p. option_map (λ rest. p ∷ rest) (all_located locate (drop (i + 1) refs))) found)) e)

pub rest_all : (locate : OsmId → Option World) (refs : List OsmId) (i : ℕ) (points : List World) → length refs ≤ i → WithRest locate refs i points → Some points ≡ all_located locate refs
rest_all locate refs i points all h = sym (h ∙ (ap (λ ids. option_map (λ rest. points ++ rest) (all_located locate ids)) (drop_all i refs all) ∙ ap Some (append-nil points)))

-- the last node of a way
last-is : (id : OsmId) (refs : List OsmId) (r d : OsmId) → ends_with id (r ∷ refs) ≡ same_node id (get_or (r ∷ refs) (length refs) d)
last-is id [] r d = refl
last-is id (next ∷ refs) r d = last-is id refs next d

pub ends_are : (refs : List OsmId) (d : OsmId) → 2 ≤ length refs → ends_meet refs ≡ same_node (get_or refs 0 d) (get_or refs (length refs - 1) d)
ends_are [] d h = absurd (omega (arith, h))
ends_are (first ∷ []) d h = absurd (omega (arith, h))
ends_are (first ∷ next ∷ refs) d h = let last : length (first ∷ next ∷ refs) - 1 ≡ suc (length refs) = omega arith in rw last (last-is first refs next d)

pub closed_are : (refs : List OsmId) (d : OsmId) → 4 ≤ length refs → same_node (get_or refs 0 d) (get_or refs (length refs - 1) d) ≡ is_closed refs
closed_are refs d h = sym (ap (λ b. b && ends_meet refs) (long h) ∙ ends_are refs d (omega (arith, h)))
  where
    long : 4 ≤ length refs → nat_le 4 (length refs) ≡ true
    long k = grind (arith, nat_tests)

pub not_closed : (refs : List OsmId) → length refs < 4 → false ≡ is_closed refs
not_closed refs h = sym (ap (λ b. b && ends_meet refs) (short h))
  where
    short : length refs < 4 → nat_le 4 (length refs) ≡ false
    short k = grind (arith, nat_tests)

-- points of which each has a property still have it without repeats, and round a ring
module _ (P : Grid → Type 0) where
  after-each : (p : Grid) (points : List Grid) → AllByRecursion P points → AllByRecursion P (distinct_after x_of y_of p points)
  after-each p [] h = tt
  after-each p (q ∷ rest) h = go (same x_of y_of p q) (after-each p rest h.1) (after-each q rest h.1)
    where
      go : (b : Bool) → AllByRecursion P (distinct_after x_of y_of p rest) → AllByRecursion P (distinct_after x_of y_of q rest) → AllByRecursion P (cond b (distinct_after x_of y_of p rest) (q ∷ distinct_after x_of y_of q rest))
      go true k l = k
      go false k l = (h.0, l)

  distinct-each : (points : List Grid) → AllByRecursion P points → AllByRecursion P (distinct x_of y_of points)
  distinct-each [] h = tt
  distinct-each (p ∷ rest) h = (h.0, after-each p rest h.1)

  unclosed-each : (first : Grid) (points : List Grid) → AllByRecursion P points → AllByRecursion P (unclosed x_of y_of first points)
  unclosed-each first [] h = tt
  unclosed-each first (p ∷ []) h = go (same x_of y_of first p)
    where
      go : (b : Bool) → AllByRecursion P (cond b [] (p ∷ []))
      go true = tt
      go false = h
  unclosed-each first (p ∷ q ∷ rest) h = (h.0, unclosed-each first (q ∷ rest) h.1)

  opened-each : (points : List Grid) → AllByRecursion P points → AllByRecursion P (opened x_of y_of points)
  opened-each [] h = tt
  opened-each (p ∷ rest) h = (h.0, unclosed-each p rest h.1)

  behind-each : (points : List Grid) (q : Grid) → AllByRecursion P points → P q → AllByRecursion P (points ++ q ∷ [])
  behind-each [] q h k = (k, tt)
  behind-each (p ∷ points) q h k = (h.0, behind-each points q h.1 k)

  round-each : (points : List Grid) → AllByRecursion P points → AllByRecursion P (round points)
  round-each [] h = tt
  round-each (p ∷ points) h = (h.0, behind-each points p h.1 h.0)

  pub distinct_all : (points : List Grid) → All P points → All P (distinct x_of y_of points)
  distinct_all points h = All-from_recursion P (distinct x_of y_of points) (distinct-each points (recursion_from_All P points h))

  pub round_all : (points : List Grid) → All P points → All P (round (distinct_ring x_of y_of points))
  round_all points h = All-from_recursion P (round (distinct_ring x_of y_of points)) (round-each (distinct_ring x_of y_of points) (opened-each (distinct x_of y_of points) (distinct-each points (recursion_from_All P points h))))

-- sums that stop at a limit
pub stopped : (limit a b : ℕ) → min limit (min limit a + b) ≡ min limit (a + b)
stopped limit a b = grind (arith)

pub total_next : {A : Type 0} (f : A → ℕ) (xs : List A) (i : ℕ) (d : A) → i < length xs → total f (take (i + 1) xs) ≡ total f (take i xs) + f (get_or xs i d)
total_next f xs i d more = ap (total f) (take_more xs i d more) ∙ split (take i xs)
  where
    split : (ys : List _) → total f (ys ++ get_or xs i d ∷ []) ≡ total f ys + f (get_or xs i d)
    split [] = omega arith
    split (y ∷ ys) = let rest = split ys in omega (arith, rest)

-- a point of a zoom's grid is one that can be simplified
pub on_grid : (zoom : ℕ) (p : Grid) → zoom ≤ 14 → IsOnGrid zoom p → simplified.IsOnGrid p
on_grid zoom p h g =
    let most = two_mono zoom 14 h in
    let x_low = g.x.low in
    let x_high = g.x.high in
    let y_low = g.y.low in
    let y_high = g.y.high in
    record { x = record { low = x_low; high = below x_high most }; y = record { low = y_low; high = below y_high most } }
  where
    below : {z : ℤ} → z ≤ℤ pos (4096 * 2 ^ zoom) → 2 ^ zoom ≤ 2 ^ 14 → z ≤ℤ pos (2 ^ 28)
    below h k = grind (arith, ints)

pub if_ok : {A E : Type 0} (r : Result A E) (P Q : A → Type 0) → ((x : A) → P x → Q x) → IfOk r P → IfOk r Q
if_ok (Ok x) P Q f h = f x h
if_ok (Err e) P Q f h = tt

pub all_more : {A : Type 0} (P : A → Type 0) (xs ys : List A) (x : A) → ys ≡ xs ++ x ∷ [] → All P xs → P x → All P ys
all_more P xs ys x e h p = subst (All P) (sym e) (All-append P xs (x ∷ []) h (All-cons P x [] p (All-nil P)))

pub map_next : {A B : Type 0} (f : A → B) (xs : List A) (i : ℕ) (d : A) → i < length xs → map f (take (i + 1) xs) ≡ map f (take i xs) ++ f (get_or xs i d) ∷ []
map_next f xs i d more = walk-next (map f) (map-append f) xs i d more
