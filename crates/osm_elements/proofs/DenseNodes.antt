-- Dense nodes with their tags read run by run are those of the definition.
use Rattle.std.proofs.Common.{◌≡◌, ℕ, ℤ, suc, ◌+◌, ◌<◌, ◌≤◌, ◌==◌, ◌&&◌, min, Bool, true, false, if◌then◌else◌, Option, Result, Ok, Err, List, [], ◌∷◌, length, drop, get_or, pos, refl, ap, sym, subst, ◌∙◌, arith}
use Rattle.std.proofs.lemmas.List.{length-drop, drop_more, get_or_default}
use Rattle.tb_types.specs.declared.damage.Why.{Why}
use Rattle.tb_types.specs.declared.damage.Why.TheVariants as reasons
use Rattle.tb_types.specs.declared.element.OsmId.{OsmId}
use Rattle.tb_types.specs.declared.location.LatLon.{LatLon}
use Rattle.tb_wire.specs.Field.{Entry}
use Rattle.osm_elements.specs.declared.granularity.Granularity.{Granularity}
use Rattle.osm_elements.specs.declared.dense.Dense.{Dense}
use Rattle.tb_types.specs.Results.{◌>>=◌}
use Rattle.osm_elements.specs.Fields.{numbers}
use Rattle.osm_elements.specs.Tags.{Tag}
use Rattle.osm_elements.specs.Granularity.{next_sum, sums_from, sums, place}
use Rattle.osm_elements.specs.Elements.{Element, node, osm_id}
use Rattle.osm_elements.specs.Dense.{are_runs, first_run, tag_lists, no_tags_for, dense_tags, nodes_along, dense_lists, dense_of}
use Rattle.osm_elements.specs.Block.{Found, joined}
use Rattle.osm_elements.specs.Runs.{check_of}
use Rattle.osm_elements.specs.Walks.{merged_fields_in, dense_in}
use Rattle.osm_elements.specs.Lists.{lists_in, lists_of, with_node, bare_nodes, tagged_nodes, nodes_of, place_node}
use Rattle.osm_elements.specs.declared.taker.WalkErr.{WalkErr}
use Rattle.osm_elements.specs.SoFar.{Adds, Ends, Grows}
use Rattle.osm_elements.proofs.Joins.{Going, going_step, going_err, going_end, going_last}

abbrev fine : {A : Type 0} → A → Result A Why
fine x = Ok x

ok-is : {A : Type 0} (x y : A) → fine x ≡ fine y → x ≡ y
ok-is x y h = cc

-- where the runs can be read, nodes take them one by one
tagged-cons : (first : List Tag → Element) (coordinate : List (List Tag) → List Element) (lists : List ℕ → Result (List (List Tag)) Why) (others : List ℕ → Result (List Element) Why) (whole : List (List Tag) → List Element)
    → ((t : List Tag) (ts : List (List Tag)) → whole (t ∷ ts) ≡ first t ∷ coordinate ts) → ((pairs : List ℕ) (tags : List (List Tag)) → lists pairs ≡ Ok tags → Ok (coordinate tags) ≡ others pairs)
    → (r : Result (List Tag × List ℕ) Why) (tags : List (List Tag)) → r >>= (λ run. lists run.1 >>= λ later. Ok (run.0 ∷ later)) ≡ Ok tags → Ok (whole tags) ≡ r >>= with_node first others
tagged-cons first coordinate lists others whole some same (Err why) tags h = cc
tagged-cons first coordinate lists others whole some same (Ok run) tags h = go (lists run.1) refl h
  where
    go : (s : Result (List (List Tag)) Why) → lists run.1 ≡ s → s >>= (λ later. Ok (run.0 ∷ later)) ≡ Ok tags → Ok (whole tags) ≡ others run.1 >>= λ later. Ok (first run.0 ∷ later)
    go (Err why) e k = cc
    go (Ok later) e k =
        ap Ok (sym (ap whole (ok-is (run.0 ∷ later) tags k)) ∙ some run.0 later) ∙ ap (λ r. r >>= λ xs. Ok (first run.0 ∷ xs)) (same run.1 later e)

tagged-coordinate : (strings : List (List ℕ)) (granularity : Granularity) (ids lats lons : List ℤ) (pairs : List ℕ) (tags : List (List Tag)) → tag_lists strings (length ids) pairs ≡ Ok tags
    → Ok (nodes_along granularity ids lats lons tags) ≡ tagged_nodes strings granularity ids lats lons pairs
tagged-coordinate strings granularity [] lats lons pairs tags h = refl
tagged-coordinate strings granularity (id ∷ ids) [] lons pairs tags h = refl
tagged-coordinate strings granularity (id ∷ ids) (lat ∷ lats) [] pairs tags h = refl
tagged-coordinate strings granularity (id ∷ ids) (lat ∷ lats) (lon ∷ lons) pairs tags h =
    tagged-cons (node (osm_id id) (place granularity lat lon)) (nodes_along granularity ids lats lons) (tag_lists strings (length ids)) (tagged_nodes strings granularity ids lats lons) (nodes_along granularity (id ∷ ids) (lat ∷ lats) (lon ∷ lons))
    (λ t ts. refl) (λ behind later e. tagged-coordinate strings granularity ids lats lons behind later e) (first_run strings [] pairs) tags h

-- each sum is one of a difference
sum-more : (r : Result ℤ Why) (d : ℕ) (ds : List ℕ) (ns : List ℤ) → ((n : ℤ) (ms : List ℤ) → sums_from n ds ≡ Ok ms → length ms ≡ length ds)
    → r >>= (λ n. sums_from n ds >>= λ later. Ok (n ∷ later)) ≡ Ok ns → length ns ≡ length (d ∷ ds)
sum-more (Err why) d ds ns same h = cc
sum-more (Ok n) d ds ns same h = go (sums_from n ds) refl h
  where
    go : (s : Result (List ℤ) Why) → sums_from n ds ≡ s → s >>= (λ later. Ok (n ∷ later)) ≡ Ok ns → length ns ≡ length (d ∷ ds)
    go (Err why) e k = cc
    go (Ok later) e k = sym (ap length (ok-is (n ∷ later) ns k)) ∙ ap suc (same n later e)

sums-length : (ds : List ℕ) (before : ℤ) (ns : List ℤ) → sums_from before ds ≡ Ok ns → length ns ≡ length ds
sums-length [] before ns h = sym (ap length (ok-is [] ns h))
sums-length (d ∷ ds) before ns h = sum-more (next_sum before d) d ds ns (λ n ms e. sums-length ds n ms e) h

-- without pairs, no node has tags
bare-coordinate : (granularity : Granularity) (ds : List ℕ) (ids lats lons : List ℤ) → length ids ≡ length ds → nodes_along granularity ids lats lons (no_tags_for ds) ≡ bare_nodes granularity ids lats lons
bare-coordinate granularity ds [] lats lons h = refl
bare-coordinate granularity ds (id ∷ ids) [] lons h = refl
bare-coordinate granularity ds (id ∷ ids) (lat ∷ lats) [] h = refl
bare-coordinate granularity [] (id ∷ ids) (lat ∷ lats) (lon ∷ lons) h = absurd (omega (arith, h))
bare-coordinate granularity (d ∷ ds) (id ∷ ids) (lat ∷ lats) (lon ∷ lons) h = ap (λ xs. node (osm_id id) (place granularity lat lon) [] ∷ xs) (bare-coordinate granularity ds ids lats lons (omega (arith, h)))

behind_check : {A : Type 0} (r : Result (Unit {0}) Why) (lists : Result A Why) (tags : A) → r >>= (λ _. lists) ≡ Ok tags → lists ≡ Ok tags
behind_check (Ok u) lists tags h = h
behind_check (Err why) lists tags h = cc

with_either : (strings : List (List ℕ)) (granularity : Granularity) (ds pairs : List ℕ) (ids lats lons : List ℤ) (tags : List (List Tag)) (b : Bool) → length ids ≡ length ds
    → (if b then Ok (no_tags_for ds) else are_runs (length ds) pairs >>= λ _. tag_lists strings (length ds) pairs) ≡ Ok tags
    → Ok (nodes_along granularity ids lats lons tags) ≡ (if b then Ok (bare_nodes granularity ids lats lons) else tagged_nodes strings granularity ids lats lons pairs)
with_either strings granularity ds pairs ids lats lons tags true same h =
    ap Ok (ap (nodes_along granularity ids lats lons) (sym (ok-is (no_tags_for ds) tags h)) ∙ bare-coordinate granularity ds ids lats lons same)
with_either strings granularity ds pairs ids lats lons tags false same h =
    tagged-coordinate strings granularity ids lats lons pairs tags (subst (λ n. tag_lists strings n pairs ≡ Ok tags) (sym same) (behind_check (are_runs (length ds) pairs) (tag_lists strings (length ds) pairs) tags h))

module _ (strings : List (List ℕ)) (granularity : Granularity) where
  abbrev in_order : List ℤ × List ℤ × List ℤ × List (List Tag) → Result (List Element) Why
  in_order lists = Ok (nodes_along granularity lists.0 lists.1 lists.2 lists.3)

  sums-same : (ds pairs : List ℕ) (tags : List (List Tag)) (ids lats lons : Result (List ℤ) Why) → dense_tags strings ds pairs ≡ Ok tags → ((ns : List ℤ) → ids ≡ Ok ns → length ns ≡ length ds)
      → (ids >>= λ ids. lats >>= λ lats. lons >>= λ lons. Ok (ids, lats, lons, tags)) >>= in_order ≡ (ids >>= λ ids. lats >>= λ lats. lons >>= λ lons. Ok (ids, lats, lons, pairs)) >>= nodes_of strings granularity
  sums-same ds pairs tags (Err why) lats lons h k = refl
  sums-same ds pairs tags (Ok ids) (Err why) lons h k = refl
  sums-same ds pairs tags (Ok ids) (Ok lats) (Err why) h k = refl
  sums-same ds pairs tags (Ok ids) (Ok lats) (Ok lons) h k = with_either strings granularity ds pairs ids lats lons tags (length pairs == 0) (k ids refl) h

  tags-same : (ds pairs : List ℕ) (found : Result (List (List Tag)) Why) (ids lats lons : Result (List ℤ) Why) → dense_tags strings ds pairs ≡ found → ((ns : List ℤ) → ids ≡ Ok ns → length ns ≡ length ds)
      → (found >>= λ tags. ids >>= λ ids. lats >>= λ lats. lons >>= λ lons. Ok (ids, lats, lons, tags)) >>= in_order
      ≡ (check_of found >>= λ _. ids >>= λ ids. lats >>= λ lats. lons >>= λ lons. Ok (ids, lats, lons, pairs)) >>= nodes_of strings granularity
  tags-same ds pairs (Err why) ids lats lons h k = refl
  tags-same ds pairs (Ok tags) ids lats lons h k = sums-same ds pairs tags ids lats lons h k

  even-same : {A B : Type 0} (b : Bool) (p : Result A Why) (q : Result B Why) (f : A → Result (List Element) Why) (g : B → Result (List Element) Why) → p >>= f ≡ q >>= g
      → (if b then p else Err reasons.Uneven) >>= f ≡ (if b then q else Err reasons.Uneven) >>= g
  even-same true p q f g h = h
  even-same false p q f g h = refl

  lists-same : (ds lats lons pairs : List ℕ) → dense_lists strings ds lats lons pairs >>= in_order ≡ lists_of strings ds lats lons pairs >>= nodes_of strings granularity
  lists-same ds lats lons pairs =
      even-same ((length ds == length lats) && (length ds == length lons)) _ _ in_order (nodes_of strings granularity)
      (tags-same ds pairs (dense_tags strings ds pairs) (sums ds) (sums lats) (sums lons) refl (λ ns h. sums-length ds (pos 0) ns h))

  numbers-same : (ids lats lons pairs : Result (List ℕ) Why) → (ids >>= λ ids. lats >>= λ lats. lons >>= λ lons. pairs >>= λ pairs. dense_lists strings ids lats lons pairs) >>= in_order
      ≡ (ids >>= λ ids. lats >>= λ lats. lons >>= λ lons. pairs >>= λ pairs. lists_of strings ids lats lons pairs) >>= nodes_of strings granularity
  numbers-same (Err why) lats lons pairs = refl
  numbers-same (Ok ids) (Err why) lons pairs = refl
  numbers-same (Ok ids) (Ok lats) (Err why) pairs = refl
  numbers-same (Ok ids) (Ok lats) (Ok lons) (Err why) = refl
  numbers-same (Ok ids) (Ok lats) (Ok lons) (Ok pairs) = lists-same ids lats lons pairs

pub dense_of_checked : (strings : List (List ℕ)) (granularity : Granularity) (fields : List Entry) → dense_of strings granularity fields ≡ lists_in strings fields >>= nodes_of strings granularity
unfolding dense_of
dense_of_checked strings granularity fields = numbers-same strings granularity (numbers 1 fields) (numbers 8 fields) (numbers 9 fields) (numbers 10 fields)

-- the dense nodes of a group
pub dense_in_checked : (strings : List (List ℕ)) (granularity : Granularity) (group : List ℕ) → dense_in strings granularity group ≡ merged_fields_in 2 group >>= lists_in strings >>= nodes_of strings granularity
dense_in_checked strings granularity group = go (merged_fields_in 2 group)
  where
    go : (r : Result (List Entry) Why) → r >>= dense_of strings granularity ≡ r >>= lists_in strings >>= nodes_of strings granularity
    go (Ok fields) = dense_of_checked strings granularity fields
    go (Err why) = refl

cons-joined : (x : Element) (r : Found) → r >>= (λ later. Ok (x ∷ later)) ≡ joined (Ok (x ∷ [])) r
cons-joined x (Ok later) = refl
cons-joined x (Err why) = refl

no_bare : (granularity : Granularity) (ids lats lons : List ℤ) → min (min (length ids) (length lats)) (length lons) ≡ 0 → bare_nodes granularity ids lats lons ≡ []
no_bare granularity [] lats lons h = refl
no_bare granularity (id ∷ ids) [] lons h = refl
no_bare granularity (id ∷ ids) (lat ∷ lats) [] h = refl
no_bare granularity (id ∷ ids) (lat ∷ lats) (lon ∷ lons) h = absurd (omega (arith, h))

no_tagged : (strings : List (List ℕ)) (granularity : Granularity) (ids lats lons : List ℤ) (pairs : List ℕ) → min (min (length ids) (length lats)) (length lons) ≡ 0 → tagged_nodes strings granularity ids lats lons pairs ≡ Ok []
no_tagged strings granularity [] lats lons pairs h = refl
no_tagged strings granularity (id ∷ ids) [] lons pairs h = refl
no_tagged strings granularity (id ∷ ids) (lat ∷ lats) [] pairs h = refl
no_tagged strings granularity (id ∷ ids) (lat ∷ lats) (lon ∷ lons) pairs h = absurd (omega (arith, h))

-- the node of what was read at a place
pub place_read : (granularity : Granularity) (d : Dense) (i : ℕ) (id lat lon : ℤ) (its_id : OsmId) (at : Option LatLon) (tags : List Tag) → i < length d.ids.items.items → i < length d.lats.items.items → i < length d.lons.items.items
    → id ≡ get_or d.ids.items.items i id → lat ≡ get_or d.lats.items.items i lat → lon ≡ get_or d.lons.items.items i lon → its_id ≡ osm_id id → at ≡ place granularity lat lon → node its_id at tags ≡ place_node granularity d i tags
place_read granularity d i id lat lon its_id at tags h k l e f g same_id same_at =
    let ids : id ≡ get_or d.ids.items.items i (pos 0) = e ∙ get_or_default d.ids.items.items i id (pos 0) h in
    let lats : lat ≡ get_or d.lats.items.items i (pos 0) = f ∙ get_or_default d.lats.items.items i lat (pos 0) k in
    let lons : lon ≡ get_or d.lons.items.items i (pos 0) = g ∙ get_or_default d.lons.items.items i lon (pos 0) l in
    ap (λ x. node x at tags) (same_id ∙ ap osm_id ids) ∙ ap (λ x. node (osm_id (get_or d.ids.items.items i (pos 0))) x tags) (same_at ∙ (ap (λ x. place granularity x lon) lats ∙ ap (place granularity (get_or d.lats.items.items i (pos 0))) lons))

-- Nodes place by place: what is left at a place of the lists.
module _ (granularity : Granularity) (d : Dense) where
  abbrev pub bare_from : ℕ → List Element
  bare_from i = bare_nodes granularity (drop i d.ids.items.items) (drop i d.lats.items.items) (drop i d.lons.items.items)

  abbrev pub tagged_from : List (List ℕ) → ℕ → List ℕ → Found
  tagged_from strings i pairs = tagged_nodes strings granularity (drop i d.ids.items.items) (drop i d.lats.items.items) (drop i d.lons.items.items) pairs

  abbrev pub places : ℕ
  places = min (min (length d.ids.items.items) (length d.lats.items.items)) (length d.lons.items.items)

  past : (i : ℕ) → places ≤ i → min (min (length (drop i d.ids.items.items)) (length (drop i d.lats.items.items))) (length (drop i d.lons.items.items)) ≡ 0
  past i h = omega (arith, h, length-drop i d.ids.items.items, length-drop i d.lats.items.items, length-drop i d.lons.items.items)

  bare_next : (i : ℕ) → i < places → bare_from i ≡ place_node granularity d i [] ∷ bare_from (i + 1)
  bare_next i h =
      ap (λ xs. bare_nodes granularity xs (drop i d.lats.items.items) (drop i d.lons.items.items)) (drop_more d.ids.items.items i (pos 0) (omega (arith, h)))
      ∙ (ap (λ xs. bare_nodes granularity (get_or d.ids.items.items i (pos 0) ∷ drop (i + 1) d.ids.items.items) xs (drop i d.lons.items.items)) (drop_more d.lats.items.items i (pos 0) (omega (arith, h)))
      ∙ ap (λ xs. bare_nodes granularity (get_or d.ids.items.items i (pos 0) ∷ drop (i + 1) d.ids.items.items) (get_or d.lats.items.items i (pos 0) ∷ drop (i + 1) d.lats.items.items) xs) (drop_more d.lons.items.items i (pos 0) (omega (arith, h))))

  tagged_next : (strings : List (List ℕ)) (i : ℕ) (pairs : List ℕ) → i < places → tagged_from strings i pairs ≡ first_run strings [] pairs >>= with_node (place_node granularity d i) (tagged_from strings (i + 1))
  tagged_next strings i pairs h =
      ap (λ xs. tagged_nodes strings granularity xs (drop i d.lats.items.items) (drop i d.lons.items.items) pairs) (drop_more d.ids.items.items i (pos 0) (omega (arith, h)))
      ∙ (ap (λ xs. tagged_nodes strings granularity (get_or d.ids.items.items i (pos 0) ∷ drop (i + 1) d.ids.items.items) xs (drop i d.lons.items.items) pairs) (drop_more d.lats.items.items i (pos 0) (omega (arith, h)))
      ∙ ap (λ xs. tagged_nodes strings granularity (get_or d.ids.items.items i (pos 0) ∷ drop (i + 1) d.ids.items.items) (get_or d.lats.items.items i (pos 0) ∷ drop (i + 1) d.lats.items.items) xs pairs) (drop_more d.lons.items.items i (pos 0) (omega (arith, h))))

  tagged_one : (strings : List (List ℕ)) (i : ℕ) (pairs : List ℕ) (t : List Tag) (behind : List ℕ) → i < places → first_run strings [] pairs ≡ Ok (t, behind)
      → tagged_from strings i pairs ≡ joined (Ok (place_node granularity d i t ∷ [])) (tagged_from strings (i + 1) behind)
  tagged_one strings i pairs t behind h read =
      tagged_next strings i pairs h
      ∙ (ap (λ r. r >>= with_node (place_node granularity d i) (tagged_from strings (i + 1))) read ∙ cons-joined (place_node granularity d i t) (tagged_from strings (i + 1) behind))

  module _ {T Stop : Type 0} (steps : T → List Element → T → Type 0) (stops : T → List Element → T → Stop → Type 0) (old now : T × Option Why) (all : Found) where
    pub bare_read : (next : T × Option Why) (i : ℕ) → i < places → Going steps stops old now (Ok (bare_from i)) all → Grows steps stops now next (Ok (place_node granularity d i [] ∷ [])) → Going steps stops old next (Ok (bare_from (i + 1))) all
    bare_read next i h going grows =
        going_step steps stops old now next (Ok (place_node granularity d i [] ∷ [])) (Ok (bare_from (i + 1))) all (subst (λ x. Going steps stops old now (Ok x) all) (bare_next i h) going) grows

    pub bare_stops : (taker : T) (e : WalkErr Stop) (i : ℕ) → i < places → Going steps stops old now (Ok (bare_from i)) all → Ends steps stops now taker e (Ok (place_node granularity d i [] ∷ [])) → Ends steps stops old taker e all
    bare_stops taker e i h going ends =
        going_err steps stops old now taker e (Ok (place_node granularity d i [] ∷ [])) (Ok (bare_from (i + 1))) all (subst (λ x. Going steps stops old now (Ok x) all) (bare_next i h) going) ends

    pub bare_end : (i : ℕ) → places ≤ i → Going steps stops old now (Ok (bare_from i)) all → Grows steps stops old now all
    bare_end i h going =
        going_end steps stops old now all (subst (λ x. Going steps stops old now (Ok x) all) (no_bare granularity (drop i d.ids.items.items) (drop i d.lats.items.items) (drop i d.lons.items.items) (past i h)) going)

    pub tagged_read : (strings : List (List ℕ)) (next : T × Option Why) (i : ℕ) (pairs : List ℕ) (t : List Tag) (behind : List ℕ) → i < places → first_run strings [] pairs ≡ Ok (t, behind)
        → Going steps stops old now (tagged_from strings i pairs) all → Grows steps stops now next (Ok (place_node granularity d i t ∷ [])) → Going steps stops old next (tagged_from strings (i + 1) behind) all
    tagged_read strings next i pairs t behind h read going grows =
        going_step steps stops old now next (Ok (place_node granularity d i t ∷ [])) (tagged_from strings (i + 1) behind) all (subst (λ x. Going steps stops old now x all) (tagged_one strings i pairs t behind h read) going) grows

    pub tagged_stops : (strings : List (List ℕ)) (taker : T) (e : WalkErr Stop) (i : ℕ) (pairs : List ℕ) (t : List Tag) (behind : List ℕ) → i < places → first_run strings [] pairs ≡ Ok (t, behind)
        → Going steps stops old now (tagged_from strings i pairs) all → Ends steps stops now taker e (Ok (place_node granularity d i t ∷ [])) → Ends steps stops old taker e all
    tagged_stops strings taker e i pairs t behind h read going ends =
        going_err steps stops old now taker e (Ok (place_node granularity d i t ∷ [])) (tagged_from strings (i + 1) behind) all (subst (λ x. Going steps stops old now x all) (tagged_one strings i pairs t behind h read) going) ends

    pub tagged_end : (strings : List (List ℕ)) (i : ℕ) (pairs : List ℕ) → places ≤ i → Going steps stops old now (tagged_from strings i pairs) all → Grows steps stops old now all
    tagged_end strings i pairs h going =
        going_end steps stops old now all (subst (λ x. Going steps stops old now x all) (no_tagged strings granularity (drop i d.ids.items.items) (drop i d.lats.items.items) (drop i d.lons.items.items) pairs (past i h)) going)

    pub tagged_refused : {X : Type 0} (strings : List (List ℕ)) (new : T × Option Why) (r : Result X (WalkErr Stop)) (i : ℕ) (pairs : List ℕ) (why : Why) → i < places → first_run strings [] pairs ≡ Err why
        → Going steps stops old now (tagged_from strings i pairs) all → Adds steps stops now new r (Err why) → Adds steps stops old new r all
    tagged_refused strings new r i pairs why h read going adds =
        going_last steps stops old now new r (Err why) all
        (subst (λ x. Going steps stops old now x all) (tagged_next strings i pairs h ∙ ap (λ r. r >>= with_node (place_node granularity d i) (tagged_from strings (i + 1))) read) going) adds
