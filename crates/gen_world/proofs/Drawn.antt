-- The elements that a loop has drawn, one more each time.
use Rattle.std.proofs.Common.{◌≡◌, ◌≤◌, ℕ, ◌+◌, ◌-◌, ◌*◌, ◌/◌, ℤ, pos, Option, List, [], ◌∷◌, ◌++◌, map, All, subst, arith, sym, ap, ◌∙◌}
use Rattle.std.specs.List.{range_with_len}
use Rattle.std.proofs.lemmas.List.Elements.{All-push}
use Rattle.std.proofs.lemmas.List.FromFn.{map-range_with_len_more}
use Rattle.gen_world.specs.declared.counts.Counts.{Counts}
use Rattle.gen_world.specs.declared.node.Node.{Node}
use Rattle.gen_world.specs.declared.node.Amenity.{Amenity}
use Rattle.gen_world.specs.declared.node.Spot.{Spot}
use Rattle.gen_world.specs.declared.way.Way.{Way}
use Rattle.gen_world.specs.declared.relation.Relation.{Relation}
use Rattle.gen_world.specs.Numbers.{draw}
use Rattle.gen_world.specs.Elements.{node_of, amenity_of, coordinate, way_of, way_draws, relation_of}
use Rattle.gen_world.specs.Places.{place_of}

-- one more of a list by numbers from `first` on
pub one_more : {X : Type 0} (f : ℕ → X) (first at : ℕ) (xs ys : List X) (x : X) → first ≤ at → xs ≡ map f (range_with_len first (at - first)) → x ≡ f at →
    ys ≡ xs ++ x ∷ [] → ys ≡ map f (range_with_len first (at + 1 - first))
one_more f first at xs ys x from before here pushed =
    let more : map f (range_with_len first (at - first + 1)) ≡ map f (range_with_len first (at - first)) ++ f at ∷ [] =
    map-range_with_len_more f first (at - first) at (omega arith) in
    let count : at - first + 1 ≡ at + 1 - first = omega arith in
    let counted : map f (range_with_len first (at - first + 1)) ≡ map f (range_with_len first (at + 1 - first)) = ap (λ n. map f (range_with_len first n)) count in
    cc (more, counted)

pub node_is : (seed i n : ℕ) (spot : Spot) (node : Node) → spot ≡ place_of seed i → n ≡ 3 * i + 3 → node.id ≡ pos (i + 1) → node.lat ≡ spot.lat → node.lon ≡ spot.lon →
    node.amenity ≡ amenity_of (draw seed n 4) → node ≡ node_of seed i
unfolding node_of
node_is seed i n spot node there at id lat lon amenity =
    let make : ℤ → ℤ → ℤ → Option Amenity → Node = λ a b c d. record { id = a; lat = b; lon = c; amenity = d } in
    ap (λ a. make a node.lat node.lon node.amenity) id
    ∙ ap (λ b. make (pos (i + 1)) b node.lon node.amenity) (lat ∙ ap (λ (s : Spot). s.lat) there)
    ∙ ap (λ b. make (pos (i + 1)) (coordinate seed i 1) b node.amenity) (lon ∙ ap (λ (s : Spot). s.lon) there)
    ∙ ap (λ b. make (pos (i + 1)) (coordinate seed i 1) (coordinate seed i 2) b) (amenity ∙ ap (λ m. amenity_of (draw seed m 4)) at)

pub way_is : (seed id n : ℕ) (counts : Counts) (way : Way) → way.id ≡ id → n ≡ 3 * counts.nodes + way_draws id → way.cluster ≡ draw seed n (counts.nodes / 10) → way ≡ way_of seed counts id
unfolding way_of
way_is seed id n counts way same at cluster =
    let make : ℕ → ℕ → Way = λ a b. record { id = a; cluster = b } in
    ap (λ a. make a way.cluster) same ∙ ap (λ b. make id b) (cluster ∙ ap (λ m. draw seed m (counts.nodes / 10)) at)

pub relation_is : (seed id n : ℕ) (counts : Counts) (relation : Relation) → relation.id ≡ id → n ≡ 3 * counts.nodes + way_draws counts.ways + id →
    relation.area ≡ draw seed n ((counts.ways + 1) / 4) → relation ≡ relation_of seed counts id
unfolding relation_of
relation_is seed id n counts relation same at area =
    let make : ℕ → ℕ → Relation = λ a b. record { id = a; area = b } in
    ap (λ a. make a relation.area) same ∙ ap (λ b. make id b) (area ∙ ap (λ m. draw seed m ((counts.ways + 1) / 4)) at)

-- the same of a list whose numbers are counted from 1
pub one_more_id : {X : Type 0} (f : ℕ → X) (first id : ℕ) (xs ys : List X) (x : X) → first + 1 ≤ id → xs ≡ map f (range_with_len (first + 1) (id - 1 - first)) → x ≡ f id →
    ys ≡ xs ++ x ∷ [] → ys ≡ map f (range_with_len (first + 1) (id + 1 - 1 - first))
one_more_id f first id xs ys x from before here pushed =
    let count : id - 1 - first ≡ id - (first + 1) = omega arith in
    let counted : id + 1 - (first + 1) ≡ id + 1 - 1 - first = omega arith in
    one_more f (first + 1) id xs ys x from (before ∙ ap (λ n. map f (range_with_len (first + 1) n)) count) here pushed
    ∙ ap (λ n. map f (range_with_len (first + 1) n)) counted

-- all of a list, and of one more
pub all_more : {X : Type 0} (P : X → Type 0) (xs ys : List X) (x : X) → All P xs → P x → ys ≡ xs ++ x ∷ [] → All P ys
all_more P xs ys x all one pushed = subst (All P) (sym pushed) (All-push P xs x all one)
