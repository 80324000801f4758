-- Walks over ways, one by one, and the ends of a way.
use Rattle.std.proofs.Common.{◌≡◌, ℕ, ◌+◌, ◌-◌, ◌<◌, ◌≤◌, Bool, true, false, true≢false, cond, not, ◌||◌, nat_le, Option, None, option_map, List, [], ◌∷◌, ◌++◌, length, take, get_or, map, filter, refl, sym, ap, ◌∙◌, arith, if◌then◌else◌}
use Rattle.std.proofs.lemmas.List.{take_more, append-nil, map-append}
use Rattle.std.proofs.lemmas.List.Elements.{filter-append}
use Rattle.std.proofs.lemmas.Bool.Decides.{nat_tests, Decides-int_eq}
use Rattle.std.specs.List.{list_any}
use Rattle.tb_types.specs.declared.element.OsmId.{OsmId}
use Rattle.tb_types.specs.declared.location.World.{World}
use Rattle.osm_elements.specs.declared.element.WayEl.{WayEl}
use Rattle.ring_assembly.specs.Chains.{same_node}
use Rattle.shard_store.proofs.Joins.{same_id}
use Rattle.shard_store.specs.Join.{Entry}
use Rattle.member_sets.specs.declared.unit.Unit.{Unit}
use Rattle.tile_model.specs.Relations.{last_of, way_along, first_each}
use Rattle.tile_model.specs.Ways.{all_located}
use Rattle.pass_shapes.specs.Stores.{is_needed, shaped_entry, shaped_in}
use Rattle.pass_shapes.proofs.Latest.{by_test}
use Rattle.pass_shapes.proofs.Walks.{walk-next}

-- needed ways
module _ (needed : List (Entry Unit)) (locate : OsmId → Option World) (block : ℕ) (ways : List WayEl) (i : ℕ) (d : WayEl) (more : i < length ways) where
  split : (xs ys : List WayEl) → shaped_in needed locate block (xs ++ ys) ≡ shaped_in needed locate block xs ++ shaped_in needed locate block ys
  split xs ys = ap (map (shaped_entry locate block)) (filter-append (λ w. is_needed needed w.id) xs ys) ∙ map-append (shaped_entry locate block) (filter (λ w. is_needed needed w.id) xs) (filter (λ w. is_needed needed w.id) ys)

  next : (b : Bool) → is_needed needed (get_or ways i d).id ≡ b → shaped_in needed locate block (take (i + 1) ways) ≡ shaped_in needed locate block (take i ways) ++ map (shaped_entry locate block) (cond b (get_or ways i d ∷ []) [])
  next b is = walk-next (shaped_in needed locate block) split ways i d more ∙ ap (λ b. shaped_in needed locate block (take i ways) ++ map (shaped_entry locate block) (cond b (get_or ways i d ∷ []) [])) is

  pub shaped_next : is_needed needed (get_or ways i d).id ≡ true → shaped_in needed locate block (take (i + 1) ways) ≡ shaped_in needed locate block (take i ways) ++ shaped_entry locate block (get_or ways i d) ∷ []
  shaped_next is = next true is

  pub shaped_not : is_needed needed (get_or ways i d).id ≡ false → shaped_in needed locate block (take (i + 1) ways) ≡ shaped_in needed locate block (take i ways)
  shaped_not is = next false is ∙ append-nil (shaped_in needed locate block (take i ways))

-- the ends of a way
last-is : (refs : List OsmId) (r d : OsmId) → last_of r refs ≡ get_or (r ∷ refs) (length refs) d
last-is [] r d = refl
last-is (next ∷ refs) r d = last-is refs next d

pub along_are : (locate : OsmId → Option World) (refs : List OsmId) (d : OsmId) → 2 ≤ length refs
    → way_along locate refs ≡ option_map (λ points. record { first = get_or refs 0 d; last = get_or refs (length refs - 1) d; points = points }) (all_located locate refs)
along_are locate [] d h = absurd (omega (arith, h))
along_are locate (first ∷ refs) d h =
    let last : length (first ∷ refs) - 1 ≡ length refs = omega arith in
    ap (λ found. option_map (λ points. record { first = first; last = last_of first refs; points = points }) found) (ap (λ b. cond b (all_located locate (first ∷ refs)) None) (long h))
    ∙ ap (λ (x : OsmId). option_map (λ points. record { first = first; last = x; points = points }) (all_located locate (first ∷ refs))) (last-is refs first d ∙ ap (λ n. get_or (first ∷ refs) n d) (sym last))
  where
    long : 2 ≤ length (first ∷ refs) → nat_le 2 (length (first ∷ refs)) ≡ true
    long k = grind (arith, nat_tests)

pub not_along : (locate : OsmId → Option World) (refs : List OsmId) → length refs < 2 → None ≡ way_along locate refs
not_along locate [] h = refl
not_along locate (first ∷ refs) h = sym (ap (λ b. option_map (λ points. record { first = first; last = last_of first refs; points = points }) (cond b (all_located locate (first ∷ refs)) None)) (short h))
  where
    short : length (first ∷ refs) < 2 → nat_le 2 (length (first ∷ refs)) ≡ false
    short k = grind (arith, nat_tests)

-- an id stands behind others at its first occurrence, unless it stands among them
abbrev pub with_id : List OsmId → OsmId → List OsmId
with_id ids id = if list_any (same_node id) ids then ids else ids ++ id ∷ []

any-kept : (x : OsmId) (P : OsmId → Bool) → P x ≡ true → (ids : List OsmId) → list_any (same_node x) (filter P ids) ≡ list_any (same_node x) ids
any-kept x P h [] = refl
any-kept x P h (z ∷ ids) = by_test (P z)
    (λ is. ap (λ b. list_any (same_node x) (cond b (z ∷ filter P ids) (filter P ids))) is ∙ ap (λ rest. same_node x z || rest) (any-kept x P h ids))
    (λ is. ap (λ b. list_any (same_node x) (cond b (z ∷ filter P ids) (filter P ids))) is ∙ (any-kept x P h ids ∙ sym (ap (λ b. b || list_any (same_node x) ids) (other is))))
  where
    other : P z ≡ false → same_node x z ≡ false
    other is = by_test (same_node x z) (λ same. absurd (true≢false (sym h ∙ (ap P (same_id x z same) ∙ is)))) (λ e. e)

same-back : (x y : OsmId) (b : Bool) → same_node y x ≡ b → same_node x y ≡ b
same-back x y true e = ap (λ z. same_node x z) (same_id y x e) ∙ (Decides-int_eq x.0 x.0).1 refl
same-back x y false e = by_test (same_node x y) (λ same. absurd (true≢false (sym (ap (λ z. same_node z x) (sym (same_id x y same)) ∙ (Decides-int_eq x.0 x.0).1 refl) ∙ e))) (λ is. is)

first-behind : (xs : List OsmId) (x : OsmId) → first_each (xs ++ x ∷ []) ≡ with_id (first_each xs) x
first-behind [] x = refl
first-behind (y ∷ xs) x = ap (λ ids. y ∷ filter apart ids) (first-behind xs x) ∙ by_test (same_node y x)
    (λ is. gone is (list_any (same_node x) before) ∙ sym (ap (λ b. cond (b || list_any (same_node x) (filter apart before)) (y ∷ filter apart before) ((y ∷ filter apart before) ++ x ∷ [])) (same-back x y true is)))
    (λ is. stays is (list_any (same_node x) before)
    ∙ sym (ap (λ b. cond (b || list_any (same_node x) (filter apart before)) (y ∷ filter apart before) ((y ∷ filter apart before) ++ x ∷ [])) (same-back x y false is)
    ∙ ap (λ b. cond b (y ∷ filter apart before) ((y ∷ filter apart before) ++ x ∷ [])) (any-kept x apart (ap not is) before)))
  where
    before : List OsmId
    before = first_each xs

    apart : OsmId → Bool
    apart other = not (same_node y other)

    gone : same_node y x ≡ true → (b : Bool) → y ∷ filter apart (cond b before (before ++ x ∷ [])) ≡ y ∷ filter apart before
    gone is true = refl
    gone is false = ap (λ ids. y ∷ ids) (filter-append apart before (x ∷ []) ∙ (ap (λ b. filter apart before ++ cond (not b) (x ∷ []) []) is ∙ append-nil (filter apart before)))

    stays : same_node y x ≡ false → (b : Bool) → y ∷ filter apart (cond b before (before ++ x ∷ [])) ≡ cond b (y ∷ filter apart before) ((y ∷ filter apart before) ++ x ∷ [])
    stays is true = refl
    stays is false = ap (λ ids. y ∷ ids) (filter-append apart before (x ∷ []) ∙ ap (λ b. filter apart before ++ cond (not b) (x ∷ []) []) is)

pub first_next : (ids : List OsmId) (i : ℕ) (d : OsmId) → i < length ids → first_each (take (i + 1) ids) ≡ with_id (first_each (take i ids)) (get_or ids i d)
first_next ids i d more = ap first_each (take_more ids i d more) ∙ first-behind (take i ids) (get_or ids i d)
