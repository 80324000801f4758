-- Where lists are read together, none is cut by a shorter one.
use Rattle.std.proofs.Common.{◌≡◌, ℕ, ℤ, zero, suc, ◌==◌, ◌&&◌, Bool, true, false, if◌then◌else◌, IfOk, Result, Ok, Err, List, [], ◌∷◌, length, pos, refl, ap, sym, subst, ◌∙◌, arith}
use Rattle.std.proofs.lemmas.List.{length-map}
use Rattle.std.proofs.lemmas.Bool.{eqb-true}
use Rattle.tb_types.specs.Results.{◌>>=◌}
use Rattle.tb_types.specs.declared.damage.Why.{Why}
use Rattle.tb_types.specs.declared.damage.Why.TheVariants as reasons
use Rattle.tb_types.specs.declared.element.OsmId.{OsmId}
use Rattle.tb_wire.specs.Field.{Entry}
use Rattle.osm_elements.specs.declared.granularity.Granularity.{Granularity}
use Rattle.osm_elements.specs.declared.element.Member.{Member}
use Rattle.osm_elements.specs.Reasons.{require}
use Rattle.osm_elements.specs.Fields.{numbers}
use Rattle.osm_elements.specs.Tags.{Tag, tags_of}
use Rattle.osm_elements.specs.Granularity.{sums}
use Rattle.osm_elements.specs.Dense.{are_runs, first_run, tag_lists, dense_tags, nodes_along, dense_lists, dense_of}
use Rattle.osm_elements.specs.Elements.{Element, node, way, relation, common_in, member_of, members_of, relation_in}
use Rattle.osm_elements.specs.Worked.{NothingDropped}
use Rattle.osm_elements.proofs.Few.{either, next, anyway, sums-length}

abbrev fine : {A : Type 0} → A → Result A Why
fine x = Ok x

ok-is : {A : Type 0} (x y : A) → fine x ≡ fine y → x ≡ y
ok-is x y h = cc

-- what is read where two numbers are one
where_same : {A : Type 0} (P : A → Type 0) (n m : ℕ) (r s : Result A Why) → (n ≡ m → IfOk r P) → IfOk s P → IfOk (if n == m then r else s) P
where_same P n m r s h k = go (n == m) refl
  where
    go : (b : Bool) → (n == m) ≡ b → IfOk (if b then r else s) P
    go true e = h (eqb-true n m e)
    go false e = k

-- a list of tags for each run
tag_lists-length : (strings : List (List ℕ)) (n : ℕ) (pairs : List ℕ) → IfOk (tag_lists strings n pairs) (λ ts. length ts ≡ n)
tag_lists-length strings zero [] = refl
tag_lists-length strings zero (k ∷ pairs) = tt
tag_lists-length strings (suc n) pairs =
    anyway (λ ts. length ts ≡ suc n) (first_run strings [] pairs) _
    (λ run. next (λ ts. length ts ≡ n) (λ ts. length ts ≡ suc n) (tag_lists strings n run.1) _ (tag_lists-length strings n run.1) (λ later h. omega (arith, h)))

dense_tags-length : (strings : List (List ℕ)) (ids pairs : List ℕ) → IfOk (dense_tags strings ids pairs) (λ ts. length ts ≡ length ids)
dense_tags-length strings ids pairs =
    either (λ ts. length ts ≡ length ids) (length pairs == 0) _ _ (length-map ids (λ _. []))
    (anyway (λ ts. length ts ≡ length ids) (are_runs (length ids) pairs) _ (λ _. tag_lists-length strings (length ids) pairs))

-- dense lists of one length
abbrev AreEven : ℕ → List ℤ × List ℤ × List ℤ × List (List Tag) → Type 0
AreEven n l = (length l.0 ≡ n) × (length l.1 ≡ n) × (length l.2 ≡ n) × (length l.3 ≡ n)

both : (a b : Bool) → (a && b) ≡ true → (a ≡ true) × (b ≡ true)
both true b h = (refl, h)
both false b h = cc

abbrev LikeBoth : List ℕ → List ℕ → List ℕ → Type 0
LikeBoth ids lats lons = (length ids ≡ length lats) × (length ids ≡ length lons)

dense_lists-even : (strings : List (List ℕ)) (ids lats lons pairs : List ℕ) → IfOk (dense_lists strings ids lats lons pairs) (λ l. AreEven (length ids) l × LikeBoth ids lats lons)
dense_lists-even strings ids lats lons pairs = go ((length ids == length lats) && (length ids == length lons)) refl
  where
    go : (b : Bool) → ((length ids == length lats) && (length ids == length lons)) ≡ b
        → IfOk (if b then (dense_tags strings ids pairs >>= λ tags. sums ids >>= λ ids. sums lats >>= λ lats. sums lons >>= λ lons. Ok (ids, lats, lons, tags)) else Err reasons.Uneven) (λ l. AreEven (length ids) l × LikeBoth ids lats lons)
    go true e =
        let same = both (length ids == length lats) (length ids == length lons) e in
        let of_lats : length ids ≡ length lats = eqb-true (length ids) (length lats) same.0 in
        let of_lons : length ids ≡ length lons = eqb-true (length ids) (length lons) same.1 in
        next (λ ts. length ts ≡ length ids) (λ l. AreEven (length ids) l × LikeBoth ids lats lons) (dense_tags strings ids pairs) _ (dense_tags-length strings ids pairs)
        (λ tags t. next (λ ns. length ns ≡ length ids) (λ l. AreEven (length ids) l × LikeBoth ids lats lons) (sums ids) _ (sums-length ids (pos 0))
        (λ is i. next (λ ns. length ns ≡ length lats) (λ l. AreEven (length ids) l × LikeBoth ids lats lons) (sums lats) _ (sums-length lats (pos 0))
        (λ las a. next (λ ns. length ns ≡ length lons) (λ l. AreEven (length ids) l × LikeBoth ids lats lons) (sums lons) _ (sums-length lons (pos 0))
        (λ los o. ((i, omega (arith, a, of_lats), omega (arith, o, of_lons), t), (of_lats, of_lons))))))
    go false e = tt

along-length : (granularity : Granularity) (ids lats lons : List ℤ) (tags : List (List Tag)) → length lats ≡ length ids → length lons ≡ length ids → length tags ≡ length ids → length (nodes_along granularity ids lats lons tags) ≡ length ids
along-length granularity [] lats lons tags h k l = refl
along-length granularity (id ∷ ids) [] lons tags h k l = absurd (omega (arith, h))
along-length granularity (id ∷ ids) (lat ∷ lats) [] tags h k l = absurd (omega (arith, k))
along-length granularity (id ∷ ids) (lat ∷ lats) (lon ∷ lons) [] h k l = absurd (omega (arith, l))
along-length granularity (id ∷ ids) (lat ∷ lats) (lon ∷ lons) (t ∷ tags) h k l = ap suc (along-length granularity ids lats lons tags (omega (arith, h)) (omega (arith, k)) (omega (arith, l)))

-- the nodes of these lists
abbrev AreAll : List ℕ → List ℕ → List ℕ → List Element → Type 0
AreAll ids lats lons nodes = (length nodes ≡ length ids) × (length nodes ≡ length lats) × (length nodes ≡ length lons)

nodes-all : (strings : List (List ℕ)) (granularity : Granularity) (r s t u : Result (List ℕ) Why) (ids lats lons : List ℕ) → r ≡ Ok ids → s ≡ Ok lats → t ≡ Ok lons
    → IfOk ((r >>= λ ids. s >>= λ lats. t >>= λ lons. u >>= λ pairs. dense_lists strings ids lats lons pairs) >>= λ l. Ok (nodes_along granularity l.0 l.1 l.2 l.3)) (AreAll ids lats lons)
nodes-all strings granularity (Err e) s t u ids lats lons h k l = tt
nodes-all strings granularity (Ok is) (Err e) t u ids lats lons h k l = tt
nodes-all strings granularity (Ok is) (Ok las) (Err e) u ids lats lons h k l = tt
nodes-all strings granularity (Ok is) (Ok las) (Ok los) (Err e) ids lats lons h k l = tt
nodes-all strings granularity (Ok is) (Ok las) (Ok los) (Ok pairs) ids lats lons h k l =
    next (λ x. AreEven (length is) x × LikeBoth is las los) (AreAll ids lats lons) (dense_lists strings is las los pairs) _ (dense_lists-even strings is las los pairs)
    (λ x even.
    let all : length (nodes_along granularity x.0 x.1 x.2 x.3) ≡ length x.0 =
    along-length granularity x.0 x.1 x.2 x.3 (omega (arith, even.0.0, even.0.1)) (omega (arith, even.0.0, even.0.2)) (omega (arith, even.0.0, even.0.3)) in
    let count : length (nodes_along granularity x.0 x.1 x.2 x.3) ≡ length is = all ∙ even.0.0 in
    (count ∙ ap length (ok-is is ids h), count ∙ (even.1.0 ∙ ap length (ok-is las lats k)), count ∙ (even.1.1 ∙ ap length (ok-is los lons l))))

from_ok : {A : Type 0} (P : A → Type 0) (r : Result A Why) (x : A) → r ≡ Ok x → IfOk r P → P x
from_ok P r x h k = subst (λ (r : Result _ Why). IfOk r P) h k

all_nodes : (strings : List (List ℕ)) (granularity : Granularity) (fields : List Entry) (ids lats lons : List ℕ) (nodes : List Element)
    → numbers 1 fields ≡ Ok ids → numbers 8 fields ≡ Ok lats → numbers 9 fields ≡ Ok lons → dense_of strings granularity fields ≡ Ok nodes → AreAll ids lats lons nodes
unfolding dense_of
all_nodes strings granularity fields ids lats lons nodes h k l m =
    from_ok (AreAll ids lats lons) (dense_of strings granularity fields) nodes m (nodes-all strings granularity (numbers 1 fields) (numbers 8 fields) (numbers 9 fields) (numbers 10 fields) ids lats lons h k l)

-- a member for each id and each kind
members-all : (ids : List ℤ) (kinds : List ℕ) → length ids ≡ length kinds → IfOk (members_of ids kinds) (λ ms. length ms ≡ length ids)
members-all [] kinds h = refl
members-all (id ∷ ids) [] h = absurd (omega (arith, h))
members-all (id ∷ ids) (k ∷ kinds) h =
    anyway (λ ms. length ms ≡ length (id ∷ ids)) (member_of id k) _
    (λ m. next (λ ms. length ms ≡ length ids) (λ ms. length ms ≡ length (id ∷ ids)) (members_of ids kinds) _ (members-all ids kinds (omega (arith, h))) (λ later l. omega (arith, l)))

abbrev HasAll : List ℕ → List ℕ → Element → Type 0
HasAll ids kinds (relation id tags members) = (length members ≡ length ids) × (length members ≡ length kinds)
HasAll ids kinds (node id at tags) = Unit {0}
HasAll ids kinds (way id tags refs) = Unit {0}

all_members : (strings : List (List ℕ)) (fields : List Entry) (ids kinds : List ℕ) (id : OsmId) (tags : List Tag) (members : List Member)
    → numbers 9 fields ≡ Ok ids → numbers 10 fields ≡ Ok kinds → relation_in strings fields ≡ Ok (relation id tags members) → (length members ≡ length ids) × (length members ≡ length kinds)
all_members strings fields ids kinds id tags members h k l =
    from_ok (HasAll ids kinds) (relation_in strings fields) (relation id tags members) l
    (anyway (HasAll ids kinds) (common_in fields) _
    (λ common. known (HasAll ids kinds) (numbers 9 fields) ids _ h (known (HasAll ids kinds) (numbers 10 fields) kinds _ k
    (anyway (HasAll ids kinds) (require common.id) _
    (λ id. where_same (HasAll ids kinds) (length ids) (length kinds) _ _
    (λ same. anyway (HasAll ids kinds) (tags_of strings common.keys common.values) _
    (λ tags. next (λ ns. length ns ≡ length ids) (HasAll ids kinds) (sums ids) _ (sums-length ids (pos 0))
    (λ ns n. next (λ ms. length ms ≡ length ns) (HasAll ids kinds) (members_of ns kinds) _ (members-all ns kinds (omega (arith, n, same))) (λ ms m. (omega (arith, m, n), omega (arith, m, n, same)))))) tt)))))
  where
    known : {A : Type 0} (P : Element → Type 0) (r : Result A Why) (x : A) (f : A → Result Element Why) → r ≡ Ok x → IfOk (f x) P → IfOk (r >>= f) P
    known P r x f h k = subst (λ (s : Result _ Why). IfOk (s >>= f) P) (sym h) k

pub nothing_dropped : NothingDropped
nothing_dropped = record { nodes = all_nodes; members = all_members }
