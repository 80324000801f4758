-- Ascending numbers: two lists of the same numbers are one.
use Rattle.std.proofs.Common.{◌≡◌, ◌≢◌, ◌↔◌, ℕ, ◌<◌, false, List, Contains, AllPairs, arith, le-ltb}
use Rattle.sorted_lists.specs.Sorting.{by_rank}
use Rattle.sorted_lists.proofs.Orders.{Pairs, pairs_weaker, AllPairs_from_pairs, sorted_from_ascends}
use Rattle.sorted_lists.proofs.Groups.{Climbs}
use Rattle.sorted_lists.proofs.Keys.{ranked_order, ranks_differ}
use Rattle.sorted_lists.proofs.Members.{members}
use Rattle.sorted_lists.proofs.Only.{one_list}

differ : (ns : List ℕ) → Climbs ns → AllPairs (λ m n. m ≢ n) ns
differ ns up = AllPairs_from_pairs (λ m n. m ≢ n) ns (pairs_weaker (λ m n. m < n) (λ m n. m ≢ n) (λ m n h e. omega (arith, h, e)) ns up)

pub climbing-one : (ms ns : List ℕ) → Climbs ms → Climbs ns → ((n : ℕ) → Contains ms n ↔ Contains ns n) → ms ≡ ns
climbing-one ms ns up up' same =
    let lt = by_rank (λ (n : ℕ). n) in
    let ascends : (ks : List ℕ) → Climbs ks → Pairs (λ x y. lt y x ≡ false) ks = λ ks h. pairs_weaker (λ m n. m < n) (λ x y. lt y x ≡ false) (λ m n h. le-ltb n m (omega (arith, h))) ks h in
    one_list lt (ranked_order (λ n. n)) ms ns (ranks_differ (λ n. n) ms (differ ms up)) (sorted_from_ascends lt ms (ascends ms up)) (sorted_from_ascends lt ns (ascends ns up')) (members ms ns (differ ms up) (differ ns up') same)
