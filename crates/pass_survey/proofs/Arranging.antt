-- What was found of blocks, once its lists are in order, is what these blocks have in the order of their numbers.
use Rattle.std.proofs.Common.{◌≡◌, ℕ, ◌<◌, Bool, true, cond, IfSome, List, [], ◌∷◌, map, flat_map, All, sym, subst, ◌∙◌}
use Rattle.std.proofs.lemmas.Cmp.{nat_cmp_total}
use Rattle.std.proofs.lemmas.List.Elements.{recursion_from_All}
use Rattle.std.proofs.lemmas.List.Sorted.{IsPermutation-trans, All-permutation}
use Rattle.std.specs.List.{AllByRecursion}
use Rattle.std.specs.List.Sorted.{IsPermutation, IsSortedBy, IsStrictlyIncreasing}
use Rattle.std.specs.Ordering.{nat_cmp}
use Rattle.tb_types.specs.Orders.{place_order}
use Rattle.tb_types.specs.declared.damage.Damage.{Damage}
use Rattle.pbf_blobs.specs.declared.block.BlockAt.{BlockAt}
use Rattle.profile_rules.specs.declared.parts.Parts.{Parts}
use Rattle.member_sets.specs.declared.kept.KeptRelation.{KeptRelation}
use Rattle.sorted_lists.specs.Sorting.{by_key}
use Rattle.sorted_lists.proofs.Groups.{climbs_from_increasing}
use Rattle.sorted_lists.proofs.Orders.{each_weaker, Pairs}
use Rattle.sorted_lists.proofs.Proved as lists
use Rattle.pass_survey.specs.declared.header.HeaderAt.{HeaderAt}
use Rattle.pass_survey.specs.declared.found.Found.{Found}
use Rattle.pass_survey.specs.Kept.{IsSoundKept}
use Rattle.tile_model.specs.Loads.{has_nodes, has_ways, holds}
use Rattle.pass_survey.specs.Taken.{Taken, IsHeld, number_of, damage_of, header_of, kept_held, damages, headers, kept_by}
use Rattle.pass_survey.specs.Found.{FoundOf, InOrder, IsReady, IsOfElements, IsValidBox, damage_number, header_number}
use Rattle.pass_survey.proofs.Finding.{found-moved}
use Rattle.pass_survey.proofs.Leasts.{least-first}
use Rattle.pass_survey.proofs.Rising.{Ascend, walked, arranged, PlacedBefore, damage-own, damage-few, header-own, header-few, block-own, block-few, kept-own, place-first, place_total, place_exact, number_first}

-- blocks from their numbers
each-from : (n : ℕ) (ts : List Taken) → AllByRecursion (λ m. n < m) (map number_of ts) → AllByRecursion (λ t. n < number_of t) ts
each-from n [] h = tt
each-from n (t ∷ ts) h = (h.0, each-from n ts h.1)

ascend-from : (ts : List Taken) → Pairs (λ m n. m < n) (map number_of ts) → Ascend ts
ascend-from [] h = tt
ascend-from (t ∷ ts) h = (each-from (number_of t) ts h.0, ascend-from ts h.1)

-- a fact of each block that is held, and one of any
each-held : (P : Taken → Type 0) → ((t : Taken) → IsHeld t → P t) → (ts : List Taken) → All IsHeld ts → AllByRecursion P ts
each-held P f ts h = each_weaker IsHeld P f ts (recursion_from_All IsHeld ts h)

each-any : (P : Taken → Type 0) → ((t : Taken) → P t) → (ts : List Taken) → AllByRecursion P ts
each-any P f [] = tt
each-any P f (t ∷ ts) = (f t, each-any P f ts)

module _ (ts : List Taken) (held : All IsHeld ts) (up : Ascend ts) where
  damages-rise : Pairs (λ (d e : Damage). d.block < e.block) (damages ts)
  damages-rise =
      walked (λ (d e : Damage). d.block < e.block) (λ (d : Damage). d.block) (λ (t : Taken). damage_of t.held) (λ d e h. h) ts up
      (each-held (λ t. AllByRecursion (λ (d : Damage). d.block ≡ number_of t) (damage_of t.held)) damage-own ts held)
      (each-any (λ t. Pairs (λ (d e : Damage). d.block < e.block) (damage_of t.held)) (λ t. damage-few (λ (d e : Damage). d.block < e.block) t.held) ts)

  headers-rise : Pairs (λ (h k : HeaderAt). h.no < k.no) (headers ts)
  headers-rise =
      walked (λ (h k : HeaderAt). h.no < k.no) (λ (h : HeaderAt). h.no) (λ (t : Taken). header_of t.block.no t.held) (λ h k less. less) ts up
      (each-any (λ t. AllByRecursion (λ (h : HeaderAt). h.no ≡ number_of t) (header_of t.block.no t.held)) (λ t. header-own t.block.no t.held) ts)
      (each-any (λ t. Pairs (λ (h k : HeaderAt). h.no < k.no) (header_of t.block.no t.held)) (λ t. header-few (λ (h k : HeaderAt). h.no < k.no) t.block.no t.held) ts)

  blocks-rise : (has : Taken → Bool) → Pairs (λ a b. by_key (λ (b : BlockAt). b.no) nat_cmp a b ≡ true) (flat_map (λ (t : Taken). cond (has t) (t.block ∷ []) []) ts)
  blocks-rise has =
      walked (λ a b. by_key (λ (b : BlockAt). b.no) nat_cmp a b ≡ true) (λ (b : BlockAt). b.no) (λ (t : Taken). cond (has t) (t.block ∷ []) []) number_first ts up
      (each-any (λ t. AllByRecursion (λ (b : BlockAt). b.no ≡ number_of t) (cond (has t) (t.block ∷ []) [])) (λ t. block-own t.block (has t)) ts)
      (each-any (λ t. Pairs (λ a b. by_key (λ (b : BlockAt). b.no) nat_cmp a b ≡ true) (cond (has t) (t.block ∷ []) [])) (λ t. block-few (λ a b. by_key (λ (b : BlockAt). b.no) nat_cmp a b ≡ true) t.block (has t)) ts)

  kept-rise : (parts : Parts) → Pairs PlacedBefore (kept_by parts ts)
  kept-rise parts =
      walked PlacedBefore (λ (k : KeptRelation). k.place.block) (λ (t : Taken). kept_held parts t.held) place-first ts up
      (each-held (λ t. AllByRecursion (λ (k : KeptRelation). k.place.block ≡ number_of t) (kept_held parts t.held)) (λ t h. (kept-own parts t h).0) ts held)
      (each-held (λ t. Pairs PlacedBefore (kept_held parts t.held)) (λ t h. (kept-own parts t h).1) ts held)

-- the lists were put in order, and nothing else was changed
pub record Sorted (old new : Found) : Type 0 where
  pub damage : new.damage ≡ old.damage
  pub header : new.header ≡ old.header
  pub kept : IsPermutation old.kept.items new.kept.items
  pub kept_up : IsSortedBy (by_key (λ (k : KeptRelation). k.place) place_order) new.kept.items
  pub nodes : IsPermutation old.nodes.items new.nodes.items
  pub nodes_up : IsSortedBy (by_key (λ (b : BlockAt). b.no) nat_cmp) new.nodes.items
  pub ways : IsPermutation old.ways.items new.ways.items
  pub ways_up : IsSortedBy (by_key (λ (b : BlockAt). b.no) nat_cmp) new.ways.items

blocks-arranged : (ts : List Taken) (held : All IsHeld ts) (up : Ascend ts) (has : Taken → Bool) (old new : List BlockAt) → IsPermutation (flat_map (λ (t : Taken). cond (has t) (t.block ∷ []) []) ts) old → IsPermutation old new
    → IsSortedBy (by_key (λ (b : BlockAt). b.no) nat_cmp) new → new ≡ flat_map (λ (t : Taken). cond (has t) (t.block ∷ []) []) ts
blocks-arranged ts held up has old new are m sorted =
    arranged (λ (b : BlockAt). b.no) nat_cmp nat_cmp_total (λ m n e. (lists.keys BlockAt ℕ).number m n e) _ new (blocks-rise ts held up has) (IsPermutation-trans _ old new are m) sorted

in-order : (parts : Parts) (old new : Found) (ts : List Taken) → Sorted old new → FoundOf parts old ts → Ascend ts → InOrder parts new ts
in-order parts old new ts s f up = record {
  damage = s.damage ∙ least-first damage_number (damages ts) old.damage (damages-rise ts f.held up) f.damage;
  header = s.header ∙ least-first header_number (headers ts) old.header (headers-rise ts f.held up) f.header;
  kept = arranged (λ (k : KeptRelation). k.place) place_order place_total place_exact (kept_by parts ts) new.kept.items (kept-rise ts f.held up parts) (IsPermutation-trans (kept_by parts ts) old.kept.items new.kept.items f.kept s.kept) s.kept_up;
  nodes = blocks-arranged ts f.held up (λ (t : Taken). holds has_nodes t.held) old.nodes.items new.nodes.items f.nodes s.nodes s.nodes_up;
  ways = blocks-arranged ts f.held up (λ (t : Taken). holds has_ways t.held) old.ways.items new.ways.items f.ways s.ways s.ways_up;
}

pub found-arranged : (parts : Parts) (old new : Found) (taken ordered : List Taken) → Sorted old new → FoundOf parts old taken → IsPermutation taken ordered → IsStrictlyIncreasing (map number_of ordered) → InOrder parts new ordered
found-arranged parts old new taken ordered s f m up =
    in-order parts old new ordered s (found-moved parts old taken ordered m f) (ascend-from ordered (climbs_from_increasing (map number_of ordered) up))

pub ready-arranged : (parts : Parts) (old new : Found) → Sorted old new → IsReady parts old → IsReady parts new
ready-arranged parts old new s h = record {
  nodes = All-permutation IsOfElements old.nodes.items new.nodes.items s.nodes h.nodes;
  ways = All-permutation IsOfElements old.ways.items new.ways.items s.ways h.ways;
  kept = All-permutation (IsSoundKept parts) old.kept.items new.kept.items s.kept h.kept;
  box = subst (λ o. IfSome o IsValidBox) (sym s.header) h.box;
}
