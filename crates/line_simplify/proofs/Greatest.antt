-- The first greatest of some numbers, as one number more comes to them.
use Rattle.std.proofs.Common.{◌≡◌, ℕ, ◌+◌, ◌<◌, ◌≤◌, max, cond, ltb, Option, Some, None, IfSome, List, [], ◌∷◌, ◌++◌, length, map, take, length-take, sym, ap, ◌∙◌, arith}
use Rattle.std.proofs.lemmas.List.{length-map, map_more}
use Rattle.tb_types.specs.declared.location.Grid.{Grid}
use Rattle.std.proofs.lemmas.Bool.Decides.{nat_tests}
use Rattle.line_simplify.specs.Rule.{greatest, place_of_greatest, place_above, point}

greatest-push : (ks : List ℕ) (k : ℕ) → greatest (ks ++ k ∷ []) ≡ max (greatest ks) k
greatest-push [] k = omega arith
greatest-push (x ∷ xs) k = let more = greatest-push xs k in omega arith

taken : (x g k more p n : ℕ) → more ≡ max g k → max x g < k → p ≡ n → cond (ltb x more) (p + 1) 0 ≡ n + 1
taken x g k more p n e h same = grind (arith, nat_tests)

stays : (x g k more p q : ℕ) → more ≡ max g k → k ≤ max x g → (k ≤ g → p ≡ q) → cond (ltb x more) (p + 1) 0 ≡ cond (ltb x g) (q + 1) 0
stays x g k more p q e h same = grind (arith, nat_tests)

first : (k : ℕ) → ◌≡◌ {A = ℕ} (cond (ltb k 0) 1 0) 0
first k = grind (arith, nat_tests)

place-push_greater : (ks : List ℕ) (k : ℕ) → greatest ks < k → place_of_greatest (ks ++ k ∷ []) ≡ length ks
place-push_greater [] k h = first k
place-push_greater (x ∷ xs) k h = taken x (greatest xs) k (greatest (xs ++ k ∷ [])) (place_of_greatest (xs ++ k ∷ [])) (length xs) (greatest-push xs k) h (place-push_greater xs k (omega arith)) ∙ omega arith

place-push : (ks : List ℕ) (k : ℕ) → k ≤ greatest ks → place_of_greatest (ks ++ k ∷ []) ≡ place_of_greatest ks
place-push [] k h = first k
place-push (x ∷ xs) k h = stays x (greatest xs) k (greatest (xs ++ k ∷ [])) (place_of_greatest (xs ++ k ∷ [])) (place_of_greatest xs) (greatest-push xs k) h (λ less. place-push xs k less)

above : (limit g k more p n : ℕ) → more ≡ max g k → max limit g < k → p ≡ n → Some n ≡ cond (ltb limit more) (Some p) None
above limit g k more p n e h same = grind (arith, nat_tests)

below : (limit g k more p q : ℕ) → more ≡ max g k → k ≤ max limit g → (k ≤ g → p ≡ q) → cond (ltb limit g) (Some q) None ≡ cond (ltb limit more) (Some p) None
below limit g k more p q e h same = grind (arith, nat_tests)

-- a number above the limit and above all before is found at its place, and is then the most
pub found_more : (limit most : ℕ) (ks : List ℕ) (k : ℕ) → most ≡ max limit (greatest ks) → most < k → Some (length ks) ≡ place_above limit (ks ++ k ∷ [])
found_more limit most ks k e h = above limit (greatest ks) k (greatest (ks ++ k ∷ [])) (place_of_greatest (ks ++ k ∷ [])) (length ks) (greatest-push ks k) (omega arith) (place-push_greater ks k (omega arith))

pub most_more : (limit most : ℕ) (ks : List ℕ) (k : ℕ) → most ≡ max limit (greatest ks) → most < k → k ≡ max limit (greatest (ks ++ k ∷ []))
most_more limit most ks k e h = let more = greatest-push ks k in omega arith

-- another number changes nothing
pub found_same : (limit most : ℕ) (ks : List ℕ) (k : ℕ) → most ≡ max limit (greatest ks) → k ≤ most → place_above limit ks ≡ place_above limit (ks ++ k ∷ [])
found_same limit most ks k e h = below limit (greatest ks) k (greatest (ks ++ k ∷ [])) (place_of_greatest (ks ++ k ∷ [])) (place_of_greatest ks) (greatest-push ks k) (omega arith) (λ less. place-push ks k less)

pub most_same : (limit most : ℕ) (ks : List ℕ) (k : ℕ) → most ≡ max limit (greatest ks) → k ≤ most → most ≡ max limit (greatest (ks ++ k ∷ []))
most_same limit most ks k e h = let more = greatest-push ks k in omega arith

-- a place that is found is one of the list
place_step : (x g p n : ℕ) → (0 < g → p < n) → cond (ltb x g) (p + 1) 0 < n + 1
place_step x g p n h = grind (arith, nat_tests)

place_within : (ks : List ℕ) → 0 < greatest ks → place_of_greatest ks < length ks
place_within [] h = absurd (omega arith)
place_within (x ∷ xs) h = let less = place_step x (greatest xs) (place_of_greatest xs) (length xs) (λ more. place_within xs more) in omega arith

found_at : (limit g p n at : ℕ) → (0 < g → p < n) → cond (ltb limit g) (Some p) None ≡ Some at → at < n
found_at limit g p n at h e = grind (arith, nat_tests)

pub found_within : (limit : ℕ) (ks : List ℕ) (at : ℕ) → place_above limit ks ≡ Some at → at < length ks
found_within limit ks at e = found_at limit (greatest ks) (place_of_greatest ks) (length ks) at (λ more. place_within ks more) e

no_more : (limit p : ℕ) → cond (ltb limit 0) (Some p) None ≡ None
no_more limit p = grind (arith, nat_tests)

pub found_none : (limit : ℕ) → place_above limit [] ≡ None
found_none limit = no_more limit 0

pub found_in : (limit n : ℕ) (ks : List ℕ) (found : Option ℕ) → found ≡ place_above limit ks → length ks ≤ n → IfSome found (λ i. i < n)
found_in limit n ks None e h = tt
found_in limit n ks (Some i) e h = omega (arith, found_within limit ks i (sym e))

-- the keys of one point more
pub keys_more : (f : Grid → ℕ) (ps : List Grid) (i key : ℕ) → i < length ps → key ≡ f (point ps i) → map f (take (i + 1) ps) ≡ map f (take i ps) ++ key ∷ []
keys_more f ps i key h e = map_more f ps i _ h ∙ ap (λ k. map f (take i ps) ++ k ∷ []) (sym e)

pub keys_length : (f : Grid → ℕ) (ps : List Grid) (i : ℕ) → i < length ps → i ≡ length (map f (take i ps))
keys_length f ps i h = omega (arith, length-map (take i ps) f, length-take i ps)
