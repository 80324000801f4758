-- The frames one after another.
use Rattle.std.proofs.Common.{◌≡◌, ◌≤◌, ◌<◌, ℕ, ◌+◌, ◌-◌, ◌*◌, min, List, [], ◌∷◌, ◌++◌, map, drop, length, get_or, length-append, add-one, arith, refl, sym, ap, ◌∙◌}
use Rattle.std.specs.List.{range_with_len}
use Rattle.std.proofs.lemmas.List.{drop_more, drop_all, get_or_append_left, get_or-append_right}
use Rattle.std.proofs.lemmas.List.FromFn.{length-map-range_with_len, get_or-map-range_with_len}
use Rattle.gen_world.specs.declared.counts.Counts.{Counts}
use Rattle.gen_world.specs.Elements.{way_draws}
use Rattle.gen_world.specs.Frames.{header_frame, frames_for, frames_with, node_frame, way_frame, relation_frame}
use Rattle.gen_world.specs.Draws.{draws_before, frame_count, AreCounts}
use Rattle.gen_world.proofs.Draws.{ways_none}

-- the frames of three kinds one after another
abbrev pub kinds : (ℕ → List ℕ) → ℕ → (ℕ → List ℕ) → ℕ → (ℕ → List ℕ) → ℕ → List (List ℕ)
kinds f a g b r c = map f (range_with_len 0 a) ++ (map g (range_with_len 0 b) ++ map r (range_with_len 0 c))

next_of : (xs : List (List ℕ)) (k : ℕ) (x : List ℕ) → k < length xs → get_or xs k [] ≡ x → drop k xs ≡ x ∷ drop (k + 1) xs
next_of xs k x some is = drop_more xs k [] some ∙ ap (λ y. y ∷ drop (k + 1) xs) is

by_length : (f : ℕ → List ℕ) (n : ℕ) → length (map f (range_with_len 0 n)) ≡ n
by_length f n = length-map-range_with_len f 0 n

first_kind : (f : ℕ → List ℕ) (a k : ℕ) (rest : List (List ℕ)) → k < a → get_or (map f (range_with_len 0 a) ++ rest) k [] ≡ f k
first_kind f a k rest h =
    let long = by_length f a in
    get_or_append_left (map f (range_with_len 0 a)) rest [] k (omega arith) ∙ get_or-map-range_with_len f 0 a k k [] h (omega arith)

later_kind : (f : ℕ → List ℕ) (a k : ℕ) (rest : List (List ℕ)) → a ≤ k → get_or (map f (range_with_len 0 a) ++ rest) k [] ≡ get_or rest (k - a) []
later_kind f a k rest h = get_or-append_right (map f (range_with_len 0 a)) rest a k [] (by_length f a) h

all_long : (f : ℕ → List ℕ) (a : ℕ) (g : ℕ → List ℕ) (b : ℕ) (r : ℕ → List ℕ) (c : ℕ) → length (kinds f a g b r c) ≡ a + (b + c)
all_long f a g b r c =
    let x = by_length f a in
    let y = by_length g b in
    let z = by_length r c in
    simp length-append (omega arith)

-- one more frame before the others
behind : (h : List ℕ) (xs : List (List ℕ)) (k : ℕ) → drop (k + 1) (h ∷ xs) ≡ drop k xs
behind h xs k = rw (add-one k) refl

next_behind : (h : List ℕ) (xs : List (List ℕ)) (given : ℕ) (x : List ℕ) → 0 < given → given - 1 < length xs → get_or xs (given - 1) [] ≡ x →
    drop given (h ∷ xs) ≡ x ∷ drop (given + 1) (h ∷ xs)
next_behind h xs given x some small is =
    let back : given ≡ given - 1 + 1 = omega arith in
    ap (λ k. drop k (h ∷ xs)) back ∙ behind h xs (given - 1) ∙ next_of xs (given - 1) x small is
    ∙ ap (λ k. x ∷ drop k xs) (sym back) ∙ ap (λ ys. x ∷ ys) (sym (behind h xs given))

second_kind : (f : ℕ → List ℕ) (a : ℕ) (g : ℕ → List ℕ) (b : ℕ) (rest : List (List ℕ)) (at : ℕ) → a ≤ at → at - a < b →
    get_or (map f (range_with_len 0 a) ++ (map g (range_with_len 0 b) ++ rest)) at [] ≡ g (at - a)
second_kind f a g b rest at from to = later_kind f a at (map g (range_with_len 0 b) ++ rest) from ∙ first_kind g b (at - a) rest to

third_kind : (f : ℕ → List ℕ) (a : ℕ) (g : ℕ → List ℕ) (b : ℕ) (r : ℕ → List ℕ) (c : ℕ) (at : ℕ) → a ≤ at → b ≤ at - a → at - a - b < c →
    get_or (kinds f a g b r c) at [] ≡ r (at - a - b)
third_kind f a g b r c at from behind to =
    later_kind f a at (map g (range_with_len 0 b) ++ map r (range_with_len 0 c)) from ∙ later_kind g b (at - a) (map r (range_with_len 0 c)) behind
    ∙ get_or-map-range_with_len r 0 c (at - a - b) (at - a - b) [] to (omega arith)

pub header_next : (seed : ℕ) (counts : Counts) → drop 0 (frames_with seed counts) ≡ header_frame ∷ drop 1 (frames_with seed counts)
unfolding frames_with
header_next seed counts = refl

pub node_next : (seed : ℕ) (counts : Counts) (given : ℕ) → 0 < given → given - 1 < frames_for counts.nodes →
    drop given (frames_with seed counts) ≡ node_frame seed counts (given - 1) ∷ drop (given + 1) (frames_with seed counts)
unfolding frames_with
node_next seed counts given some small =
    let f = node_frame seed counts in
    let g = way_frame seed counts in
    let r = relation_frame seed counts in
    let a = frames_for counts.nodes in
    let b = frames_for counts.ways in
    let c = frames_for counts.relations in
    let long = all_long f a g b r c in
    next_behind header_frame (kinds f a g b r c) given (f (given - 1)) some (omega arith)
    (first_kind f a (given - 1) (map g (range_with_len 0 b) ++ map r (range_with_len 0 c)) small)

pub way_next : (seed : ℕ) (counts : Counts) (given : ℕ) → 0 < given → frames_for counts.nodes ≤ given - 1 → given - 1 < frames_for counts.nodes + frames_for counts.ways →
    drop given (frames_with seed counts) ≡ way_frame seed counts (given - 1 - frames_for counts.nodes) ∷ drop (given + 1) (frames_with seed counts)
unfolding frames_with
way_next seed counts given some from small =
    let f = node_frame seed counts in
    let g = way_frame seed counts in
    let r = relation_frame seed counts in
    let a = frames_for counts.nodes in
    let b = frames_for counts.ways in
    let c = frames_for counts.relations in
    let long = all_long f a g b r c in
    next_behind header_frame (kinds f a g b r c) given (g (given - 1 - a)) some (omega arith)
    (second_kind f a g b (map r (range_with_len 0 c)) (given - 1) from (omega arith))

pub relation_next : (seed : ℕ) (counts : Counts) (given : ℕ) → 0 < given → frames_for counts.nodes + frames_for counts.ways ≤ given - 1 →
    given - 1 < frames_for counts.nodes + frames_for counts.ways + frames_for counts.relations →
    drop given (frames_with seed counts) ≡ relation_frame seed counts (given - 1 - frames_for counts.nodes - frames_for counts.ways) ∷ drop (given + 1) (frames_with seed counts)
unfolding frames_with
relation_next seed counts given some from small =
    let f = node_frame seed counts in
    let g = way_frame seed counts in
    let r = relation_frame seed counts in
    let a = frames_for counts.nodes in
    let b = frames_for counts.ways in
    let c = frames_for counts.relations in
    let long = all_long f a g b r c in
    next_behind header_frame (kinds f a g b r c) given (r (given - 1 - a - b)) some (omega arith)
    (third_kind f a g b r c (given - 1) (omega arith) (omega arith) (omega arith))

pub none_next : (seed : ℕ) (counts : Counts) (given : ℕ) → 0 < given → frames_for counts.nodes + frames_for counts.ways + frames_for counts.relations ≤ given - 1 →
    drop given (frames_with seed counts) ≡ []
unfolding frames_with
none_next seed counts given some from =
    let f = node_frame seed counts in
    let g = way_frame seed counts in
    let r = relation_frame seed counts in
    let a = frames_for counts.nodes in
    let b = frames_for counts.ways in
    let c = frames_for counts.relations in
    let long = all_long f a g b r c in
    drop_all given (header_frame ∷ kinds f a g b r c) (omega arith)

-- the draws before a frame of each kind, and behind it
pub none_taken : (counts : Counts) → draws_before counts 0 ≡ 0
unfolding draws_before
none_taken counts = let w : min (200 * (0 - 1 - frames_for counts.nodes)) counts.ways ≡ 0 = omega arith in let z = ap way_draws w ∙ ways_none in omega arith

pub header_taken : (counts : Counts) → draws_before counts 1 ≡ 0
unfolding draws_before
header_taken counts = let w : min (200 * (1 - 1 - frames_for counts.nodes)) counts.ways ≡ 0 = omega arith in let z = ap way_draws w ∙ ways_none in omega arith

pub node_taken : (counts : Counts) (given : ℕ) → 0 < given → given - 1 < frames_for counts.nodes → draws_before counts given ≡ 3 * (200 * (given - 1))
unfolding draws_before frames_for
node_taken counts given some small =
    let w : min (200 * (given - 1 - frames_for counts.nodes)) counts.ways ≡ 0 = omega arith in
    let z = ap way_draws w ∙ ways_none in
    omega arith

pub node_takes : (counts : Counts) (given : ℕ) → 0 < given → given - 1 < frames_for counts.nodes →
    draws_before counts (given + 1) ≡ 3 * (200 * (given - 1) + min 200 (counts.nodes - 200 * (given - 1)))
unfolding draws_before frames_for
node_takes counts given some small =
    let w : min (200 * (given + 1 - 1 - frames_for counts.nodes)) counts.ways ≡ 0 = omega arith in
    let z = ap way_draws w ∙ ways_none in
    omega arith

pub way_taken : (counts : Counts) (given : ℕ) → 0 < given → frames_for counts.nodes ≤ given - 1 → given - 1 < frames_for counts.nodes + frames_for counts.ways →
    draws_before counts given ≡ 3 * counts.nodes + way_draws (200 * (given - 1 - frames_for counts.nodes))
unfolding draws_before frames_for
way_taken counts given some from small =
    let w : min (200 * (given - 1 - frames_for counts.nodes)) counts.ways ≡ 200 * (given - 1 - frames_for counts.nodes) = omega arith in
    let z = ap way_draws w in
    omega arith

pub way_takes : (counts : Counts) (given : ℕ) → 0 < given → frames_for counts.nodes ≤ given - 1 → given - 1 < frames_for counts.nodes + frames_for counts.ways →
    draws_before counts (given + 1) ≡ 3 * counts.nodes + way_draws (200 * (given - 1 - frames_for counts.nodes) + min 200 (counts.ways - 200 * (given - 1 - frames_for counts.nodes)))
unfolding draws_before frames_for
way_takes counts given some from small =
    let at = given - 1 - frames_for counts.nodes in
    let w : min (200 * (given + 1 - 1 - frames_for counts.nodes)) counts.ways ≡ 200 * at + min 200 (counts.ways - 200 * at) = omega arith in
    let z = ap way_draws w in
    omega arith

pub relation_taken : (counts : Counts) (given : ℕ) → 0 < given → frames_for counts.nodes + frames_for counts.ways ≤ given - 1 →
    given - 1 < frames_for counts.nodes + frames_for counts.ways + frames_for counts.relations →
    draws_before counts given ≡ 3 * counts.nodes + way_draws counts.ways + 200 * (given - 1 - frames_for counts.nodes - frames_for counts.ways)
unfolding draws_before frames_for
relation_taken counts given some from small =
    let w : min (200 * (given - 1 - frames_for counts.nodes)) counts.ways ≡ counts.ways = omega arith in
    let z = ap way_draws w in
    omega arith

pub relation_takes : (counts : Counts) (given : ℕ) → 0 < given → frames_for counts.nodes + frames_for counts.ways ≤ given - 1 →
    given - 1 < frames_for counts.nodes + frames_for counts.ways + frames_for counts.relations →
    draws_before counts (given + 1) ≡ 3 * counts.nodes + way_draws counts.ways
    + (200 * (given - 1 - frames_for counts.nodes - frames_for counts.ways) + min 200 (counts.relations - 200 * (given - 1 - frames_for counts.nodes - frames_for counts.ways)))
unfolding draws_before frames_for
relation_takes counts given some from small =
    let w : min (200 * (given + 1 - 1 - frames_for counts.nodes)) counts.ways ≡ counts.ways = omega arith in
    let z = ap way_draws w in
    omega arith

pub frame_within : (elements frame : ℕ) → frame < frames_for elements → 200 * frame < elements
unfolding frames_for
frame_within elements frame h = omega arith

pub frames_few : (elements : ℕ) → elements ≤ 10000000 → frames_for elements ≤ 50000
unfolding frames_for
frames_few elements h = omega arith

pub count_is : (counts : Counts) → frame_count counts ≡ 1 + (frames_for counts.nodes + frames_for counts.ways + frames_for counts.relations)
unfolding frame_count
count_is counts = refl

pub count_few : (counts : Counts) → AreCounts counts → frame_count counts ≤ 200000
unfolding frame_count
count_few counts are =
    let nodes = are.nodes in
    let ways = are.ways in
    let relations = are.relations in
    let a = frames_few counts.nodes (omega arith) in
    let b = frames_few counts.ways (omega arith) in
    let c = frames_few counts.relations (omega arith) in
    omega arith
