-- What is read of all places of a list.
use Rattle.std.proofs.lemmas.List.{length-map}
use Rattle.std.proofs.lemmas.Grind.{flat_map-append}
use Rattle.std.proofs.Common.{option_to_list, ◌≡◌, ℕ, zero, suc, Option, Some, List, [], ◌∷◌, ◌++◌, All, length, map, flat_map, slice_get, refl, sym, ap, subst, ◌∙◌, arith}
use Rattle.std.proofs.lemmas.List.{map-append}
use Rattle.std.proofs.lemmas.List.Elements.{All-nil, All-cons, All-head, All-tail}
use Rattle.std.proofs.lemmas.List.Folds.{flat_map-map}
use Rattle.tb_types.specs.Bags.{below}
use Rattle.tb_types.specs.Needs.{block_need}
use Rattle.pass_order.specs.declared.order.Order.TheVariants as orders
use Rattle.pass_order.specs.Whole.{load_of, loaded, steps_in_file, steps_on}
use Rattle.block_pass.specs.Orders.{blocks_at, load_order, needs_of}
use Rattle.pbf_blobs.specs.declared.block.BlockAt.{BlockAt}
use Rattle.block_pass.specs.Meaning.{Meaning}
use Rattle.block_pass.specs.Loading.{IsGiven}
use Rattle.block_pass.proofs.Chains.{both-at, read-at, IsUnit}

-- the first number, and those behind it
pub below-front : (n : ℕ) → below (suc n) ≡ 0 ∷ map suc (below n)
below-front zero = refl
below-front (suc n) = ap (λ xs. xs ++ suc n ∷ []) (below-front n) ∙ ap (λ xs. 0 ∷ xs) (sym (map-append suc (below n) (n ∷ [])))

-- all blocks with all bodies, each with its own
pub read-all : {B : Type 0} (blocks : List BlockAt) (bodies : List B) → length bodies ≡ length blocks → map (λ (x : BlockAt × B). x.0) (read-at blocks (slice_get bodies) (below (length blocks))) ≡ blocks
read-all [] [] e = refl
read-all [] (x ∷ bodies) e = absurd (omega (arith, e))
read-all (b ∷ blocks) [] e = absurd (omega (arith, e))
read-all {B} (b ∷ blocks) (x ∷ bodies) e =
    let f : ℕ → List (BlockAt × B) = λ u. both-at (slice_get (b ∷ blocks) u) (slice_get (x ∷ bodies) u) in
    ap (λ us. map (λ (y : BlockAt × B). y.0) (flat_map f us)) (below-front (length blocks))
    ∙ ap (λ xs. b ∷ map (λ (y : BlockAt × B). y.0) xs) (flat_map-map f suc (below (length blocks)))
    ∙ ap (λ xs. b ∷ xs) (read-all blocks bodies (omega (arith, e)))

module _ {W B F : Type 0} (m : Meaning W B F) (blocks : List BlockAt) (told : Option (List ℕ)) (bodies : ℕ → Option B) where
  -- each was given
  pub all-given : (units : List ℕ) → All (IsUnit m blocks told bodies) units → All (IsGiven m told) (read-at blocks bodies units)
  all-given [] h = All-nil (IsGiven m told)
  all-given (u ∷ units) h =
      let own = All-head (IsUnit m blocks told bodies) u units h in
      let rest = all-given units (All-tail (IsUnit m blocks told bodies) u units h) in
      let is : both-at (slice_get blocks u) (bodies u) ≡ (own.block, own.body) ∷ [] = ap (λ (o : Option BlockAt). both-at o (bodies u)) own.is ∙ ap (λ (o : Option B). both-at (Some own.block) o) own.known in
      subst (λ xs. All (IsGiven m told) (xs ++ read-at blocks bodies units)) (sym is) (All-cons (IsGiven m told) (own.block, own.body) (read-at blocks bodies units) own.given rest)

-- in the order of the file each block is loaded in its place
loads-rise : (n : ℕ) → loaded (steps_in_file n) ≡ below n
loads-rise zero = refl
loads-rise (suc n) =
    ap loaded (flat_map-append steps_on (below n) (n ∷ [])) ∙ (flat_map-append load_of (steps_in_file n) (steps_on n) ∙ ap (λ us. us ++ n ∷ []) (loads-rise n))

all-blocks : (blocks : List BlockAt) → blocks_at blocks (below (length blocks)) ≡ blocks
all-blocks [] = refl
all-blocks (b ∷ blocks) =
    let f : ℕ → List BlockAt = λ u. option_to_list (slice_get (b ∷ blocks) u) in
    ap (flat_map f) (below-front (length blocks)) ∙ ap (λ xs. b ∷ xs) (flat_map-map f suc (below (length blocks)) ∙ all-blocks blocks)

pub in-file : (blocks : List BlockAt) → load_order orders.InFile blocks ≡ blocks
in-file blocks =
    ap (blocks_at blocks) (loads-rise (length (needs_of blocks)) ∙ ap below (length-map blocks (λ (b : BlockAt). block_need b.len))) ∙ all-blocks blocks
