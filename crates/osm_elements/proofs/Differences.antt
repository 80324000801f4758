-- The steps of the loops over differences and over members.
use Rattle.std.proofs.Common.{◌≡◌, ℕ, ℤ, min, ◌+◌, ◌<◌, ◌≤◌, Result, Ok, Err, List, [], ◌∷◌, ◌++◌, length, map, drop, get_or, refl, ap, sym, ◌∙◌, arith, append_assoc}
use Rattle.std.proofs.lemmas.List.{drop_more, append-nil, length-drop}
use Rattle.tb_types.specs.declared.damage.Why.{Why}
use Rattle.tb_types.specs.Results.{◌>>=◌}
use Rattle.osm_elements.specs.Fields.{with_found}
use Rattle.tb_types.specs.declared.element.Kind.{Kind}
use Rattle.tb_types.specs.declared.element.OsmId.{OsmId}
use Rattle.osm_elements.specs.declared.element.Member.{Member}
use Rattle.osm_elements.specs.Granularity.{next_sum, sums_from}
use Rattle.osm_elements.specs.Elements.{kind_of, member_of, members_of, osm_id}
use Rattle.osm_elements.proofs.Prefixes.{with_found-item}

-- a sum joins those before it, or is out of range
pub sum_read : (ds : List ℕ) (i : ℕ) (sum next : ℤ) (prefix : List ℤ) (total : Result (List ℤ) Why) → i < length ds → next_sum sum (get_or ds i 0) ≡ Ok next
    → with_found prefix (sums_from sum (drop i ds)) ≡ total → with_found (prefix ++ next ∷ []) (sums_from next (drop (i + 1) ds)) ≡ total
sum_read ds i sum next prefix total h step told =
    sym (with_found-item prefix next (sums_from next (drop (i + 1) ds)))
    ∙ (sym (ap (λ r. with_found prefix (r >>= λ n. sums_from n (drop (i + 1) ds) >>= λ later. Ok (n ∷ later))) step)
    ∙ (sym (ap (λ xs. with_found prefix (sums_from sum xs)) (drop_more ds i 0 h)) ∙ told))

pub sum_stops : (ds : List ℕ) (i : ℕ) (sum : ℤ) (prefix : List ℤ) (why : Why) (total : Result (List ℤ) Why) → i < length ds → next_sum sum (get_or ds i 0) ≡ Err why
    → with_found prefix (sums_from sum (drop i ds)) ≡ total → total ≡ Err why
sum_stops ds i sum prefix why total h step told =
    sym told ∙ (ap (λ xs. with_found prefix (sums_from sum xs)) (drop_more ds i 0 h) ∙ ap (λ r. with_found prefix (r >>= λ n. sums_from n (drop (i + 1) ds) >>= λ later. Ok (n ∷ later))) step)

-- the same of ids
ids_item : (prefix : List OsmId) (n : ℤ) (later : Result (List ℤ) Why) → with_found prefix ((later >>= λ ns. Ok (n ∷ ns)) >>= λ ns. Ok (map osm_id ns)) ≡ with_found (prefix ++ osm_id n ∷ []) (later >>= λ ns. Ok (map osm_id ns))
ids_item prefix n (Ok ns) = ap Ok (sym (append_assoc prefix (osm_id n ∷ []) (map osm_id ns)))
ids_item prefix n (Err why) = refl

pub id_read : (ds : List ℕ) (i : ℕ) (sum next : ℤ) (prefix : List OsmId) (total : Result (List OsmId) Why) → i < length ds → next_sum sum (get_or ds i 0) ≡ Ok next
    → with_found prefix (sums_from sum (drop i ds) >>= λ ns. Ok (map osm_id ns)) ≡ total → with_found (prefix ++ osm_id next ∷ []) (sums_from next (drop (i + 1) ds) >>= λ ns. Ok (map osm_id ns)) ≡ total
id_read ds i sum next prefix total h step told =
    sym (ids_item prefix next (sums_from next (drop (i + 1) ds)))
    ∙ (sym (ap (λ r. with_found prefix ((r >>= λ n. sums_from n (drop (i + 1) ds) >>= λ later. Ok (n ∷ later)) >>= λ ns. Ok (map osm_id ns))) step)
    ∙ (sym (ap (λ xs. with_found prefix (sums_from sum xs >>= λ ns. Ok (map osm_id ns))) (drop_more ds i 0 h)) ∙ told))

pub id_stops : (ds : List ℕ) (i : ℕ) (sum : ℤ) (prefix : List OsmId) (why : Why) (total : Result (List OsmId) Why) → i < length ds → next_sum sum (get_or ds i 0) ≡ Err why
    → with_found prefix (sums_from sum (drop i ds) >>= λ ns. Ok (map osm_id ns)) ≡ total → total ≡ Err why
id_stops ds i sum prefix why total h step told =
    sym told ∙ (ap (λ xs. with_found prefix (sums_from sum xs >>= λ ns. Ok (map osm_id ns))) (drop_more ds i 0 h)
    ∙ ap (λ r. with_found prefix ((r >>= λ n. sums_from n (drop (i + 1) ds) >>= λ later. Ok (n ∷ later)) >>= λ ns. Ok (map osm_id ns))) step)

pub member_kind : (id : ℤ) (k : ℕ) (r : Result Kind Why) → kind_of k ≡ r → member_of id k ≡ r >>= λ kind. Ok (record { kind = kind; id = osm_id id })
member_kind id k r h = ap (λ r. r >>= λ kind. Ok (record { kind = kind; id = osm_id id })) h

members_next : (ids : List ℤ) (kinds : List ℕ) (i : ℕ) (d : ℤ) → i < length ids → i < length kinds
    → members_of (drop i ids) (drop i kinds) ≡ member_of (get_or ids i d) (get_or kinds i 0) >>= λ member. members_of (drop (i + 1) ids) (drop (i + 1) kinds) >>= λ later. Ok (member ∷ later)
members_next ids kinds i d h k =
    ap (λ xs. members_of xs (drop i kinds)) (drop_more ids i d h) ∙ ap (λ ys. members_of (get_or ids i d ∷ drop (i + 1) ids) ys) (drop_more kinds i 0 k)

pub member_read : (ids : List ℤ) (kinds : List ℕ) (i : ℕ) (d : ℤ) (prefix : List Member) (m : Member) (total : Result (List Member) Why) → i < length ids → i < length kinds
    → member_of (get_or ids i d) (get_or kinds i 0) ≡ Ok m
    → with_found prefix (members_of (drop i ids) (drop i kinds)) ≡ total → with_found (prefix ++ m ∷ []) (members_of (drop (i + 1) ids) (drop (i + 1) kinds)) ≡ total
member_read ids kinds i d prefix m total h k step told =
    sym (with_found-item prefix m (members_of (drop (i + 1) ids) (drop (i + 1) kinds)))
    ∙ (sym (ap (λ r. with_found prefix (r >>= λ m. members_of (drop (i + 1) ids) (drop (i + 1) kinds) >>= λ later. Ok (m ∷ later))) step)
    ∙ (sym (ap (with_found prefix) (members_next ids kinds i d h k)) ∙ told))

pub member_stops : (ids : List ℤ) (kinds : List ℕ) (i : ℕ) (d : ℤ) (prefix : List Member) (why : Why) (total : Result (List Member) Why) → i < length ids → i < length kinds
    → member_of (get_or ids i d) (get_or kinds i 0) ≡ Err why
    → with_found prefix (members_of (drop i ids) (drop i kinds)) ≡ total → total ≡ Err why
member_stops ids kinds i d prefix why total h k step told =
    sym told ∙ (ap (with_found prefix) (members_next ids kinds i d h k) ∙ ap (λ r. with_found prefix (r >>= λ m. members_of (drop (i + 1) ids) (drop (i + 1) kinds) >>= λ later. Ok (m ∷ later))) step)

no_members : (ids : List ℤ) (kinds : List ℕ) → min (length ids) (length kinds) ≡ 0 → members_of ids kinds ≡ Ok []
no_members [] kinds h = refl
no_members (id ∷ ids) [] h = refl
no_members (id ∷ ids) (k ∷ kinds) h = absurd (omega (arith, h))

pub all_members : (ids : List ℤ) (kinds : List ℕ) (i : ℕ) (prefix : List Member) (total : Result (List Member) Why) → min (length ids) (length kinds) ≤ i
    → with_found prefix (members_of (drop i ids) (drop i kinds)) ≡ total → total ≡ Ok prefix
all_members ids kinds i prefix total h told =
    let none : min (length (drop i ids)) (length (drop i kinds)) ≡ 0 = omega (arith, length-drop i ids, length-drop i kinds) in
    sym told ∙ (ap (with_found prefix) (no_members (drop i ids) (drop i kinds) none) ∙ ap Ok (append-nil prefix))
