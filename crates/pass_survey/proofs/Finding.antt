-- What was found of blocks, of others besides, and of the same blocks in another order.
use Rattle.std.proofs.Common.{◌≡◌, ℕ, ◌+◌, ◌<◌, Bool, true, false, cond, Option, None, Some, IfSome, Result, Ok, Err, OnOk, slice_get, List, [], ◌∷◌, ◌++◌, flat_map, All, refl, sym, ap, subst, ◌∙◌}
use Rattle.std.proofs.lemmas.Grind.{flat_map-append}
use Rattle.std.proofs.lemmas.List.{append-nil}
use Rattle.std.proofs.lemmas.List.Elements.{All-append, All-cons, All-nil}
use Rattle.std.proofs.lemmas.List.Sorted.{IsPermutation-refl, IsPermutation-append, IsPermutation-trans, IsPermutation-sym, All-permutation}
use Rattle.std.specs.List.Sorted.{IsPermutation}
use Rattle.tb_types.specs.declared.damage.Damage.{Damage}
use Rattle.pbf_blobs.specs.declared.block.BlockAt.{BlockAt}
use Rattle.profile_rules.specs.declared.parts.Parts.{Parts}
use Rattle.member_sets.specs.declared.kept.KeptRelation.{KeptRelation}
use Rattle.sorted_lists.proofs.Proved as lists
use Rattle.tile_model.specs.Contents.{Content, header, elements, unread}
use Rattle.pass_survey.specs.declared.header.HeaderAt.{HeaderAt}
use Rattle.pass_survey.specs.declared.found.Found.{Found}
use Rattle.pass_survey.specs.Least.{IsLeast, least_of}
use Rattle.tile_model.specs.Loads.{has_nodes, has_ways, holds}
use Rattle.pass_survey.specs.Taken.{Taken, IsHeld, taken_with, damage_of, header_of, kept_held, damages, headers, kept_by, with_nodes, with_ways}
use Rattle.pass_survey.specs.Found.{FoundOf, Brings, BringsBlock, IsReady, IsOfElements, IsValidBox, damage_number, header_number}
use Rattle.pass_survey.specs.Kept.{IsSoundKept}
use Rattle.pass_survey.proofs.Leasts.{least-append, least-one, least-moved}

-- what blocks have
record Has (parts : Parts) (taken : List Taken) (damage : Option Damage) (header : Option HeaderAt) (kept : List KeptRelation) (nodes ways : List BlockAt) : Type 0 where
  held : All IsHeld taken
  damage_is : IsLeast damage_number (damages taken) damage
  header_is : IsLeast header_number (headers taken) header
  kept_is : IsPermutation (kept_by parts taken) kept
  nodes_is : IsPermutation (with_nodes taken) nodes
  ways_is : IsPermutation (with_ways taken) ways

least-walked : {X : Type 0} (number : X → ℕ) (f : Taken → List X) (one two : List Taken) (o p now : Option X) → now ≡ least_of number o p → IsLeast number (flat_map f one) o → IsLeast number (flat_map f two) p
    → IsLeast number (flat_map f (one ++ two)) now
least-walked number f one two o p now is h k =
    subst (λ xs. IsLeast number xs now) (sym (flat_map-append f one two)) (subst (IsLeast number (flat_map f one ++ flat_map f two)) (sym is) (least-append number (flat_map f one) (flat_map f two) o p h k))

both-walked : {X : Type 0} (f : Taken → List X) (one two : List Taken) (xs ys now : List X) → now ≡ xs ++ ys → IsPermutation (flat_map f one) xs → IsPermutation (flat_map f two) ys → IsPermutation (flat_map f (one ++ two)) now
both-walked f one two xs ys now is h k =
    subst (λ zs. IsPermutation zs now) (sym (flat_map-append f one two)) (subst (IsPermutation (flat_map f one ++ flat_map f two)) (sym is) (IsPermutation-append (flat_map f one) xs (flat_map f two) ys h k))

brings : (parts : Parts) (old new : Found) (one two : List Taken) (damage : Option Damage) (head : Option HeaderAt) (kept : List KeptRelation) (nodes ways : List BlockAt)
    → FoundOf parts old one → Has parts two damage head kept nodes ways → Brings old new damage head kept nodes ways → FoundOf parts new (one ++ two)
brings parts old new one two damage head kept nodes ways f h b = record {
  held = All-append IsHeld one two f.held h.held;
  damage = least-walked damage_number (λ (t : Taken). damage_of t.held) one two old.damage damage new.damage b.damage_is f.damage h.damage_is;
  header = least-walked header_number (λ (t : Taken). header_of t.block.no t.held) one two old.header head new.header b.header_is f.header h.header_is;
  kept = both-walked (λ (t : Taken). kept_held parts t.held) one two old.kept.items kept new.kept.items b.kept_is f.kept h.kept_is;
  nodes = both-walked (λ (t : Taken). cond (holds has_nodes t.held) (t.block ∷ []) []) one two old.nodes.items nodes new.nodes.items b.nodes_is f.nodes h.nodes_is;
  ways = both-walked (λ (t : Taken). cond (holds has_ways t.held) (t.block ∷ []) []) one two old.ways.items ways new.ways.items b.ways_is f.ways h.ways_is;
}

pub found-joined : (parts : Parts) (old new other : Found) (one two : List Taken) → Brings old new other.damage other.header other.kept.items other.nodes.items other.ways.items → FoundOf parts old one → FoundOf parts other two
    → FoundOf parts new (one ++ two)
found-joined parts old new other one two b f g =
    brings parts old new one two other.damage other.header other.kept.items other.nodes.items other.ways.items f
    (record { held = g.held; damage_is = g.damage; header_is = g.header; kept_is = g.kept; nodes_is = g.nodes; ways_is = g.ways }) b

-- one block
least-damage : (held : Result Content Damage) → IsLeast damage_number (damage_of held ++ []) (slice_get (damage_of held) 0)
least-damage (Ok content) = refl
least-damage (Err damage) = least-one damage_number damage

least-header : (n : ℕ) (held : Result Content Damage) → IsLeast header_number (header_of n held ++ []) (slice_get (header_of n held) 0)
least-header n (Ok (header box)) = least-one header_number (record { no = n; bounds = box })
least-header n (Ok (elements m block)) = refl
least-header n (Ok unread) = refl
least-header n (Err damage) = refl

alone : {X : Type 0} (xs : List X) → IsPermutation (xs ++ []) xs
alone xs = subst (λ ys. IsPermutation ys xs) (sym (append-nil xs)) (IsPermutation-refl xs)

has-one : (parts : Parts) (t : Taken) → IsHeld t
    → Has parts (t ∷ []) (slice_get (damage_of t.held) 0) (slice_get (header_of t.block.no t.held) 0) (kept_held parts t.held) (cond (holds has_nodes t.held) (t.block ∷ []) []) (cond (holds has_ways t.held) (t.block ∷ []) [])
has-one parts t is = record {
  held = All-cons IsHeld t [] is (All-nil IsHeld);
  damage_is = least-damage t.held;
  header_is = least-header t.block.no t.held;
  kept_is = alone (kept_held parts t.held);
  nodes_is = alone (cond (holds has_nodes t.held) (t.block ∷ []) []);
  ways_is = alone (cond (holds has_ways t.held) (t.block ∷ []) []);
}

pub found-more : (parts : Parts) (old new : Found) (taken : List Taken) (b : BlockAt) (body : List ℕ) → BringsBlock parts old new (taken_with b body) → FoundOf parts old taken → FoundOf parts new (taken ++ taken_with b body ∷ [])
found-more parts old new taken b body more f = brings parts old new taken (taken_with b body ∷ []) _ _ _ _ _ f (has-one parts (taken_with b body) (body, refl)) more

-- the same blocks in another order
moved-walk : {X : Type 0} (f : Taken → List X) (taken ordered : List Taken) (xs : List X) → IsPermutation taken ordered → IsPermutation (flat_map f taken) xs → IsPermutation (flat_map f ordered) xs
moved-walk {X} f taken ordered xs m h =
    IsPermutation-trans (flat_map f ordered) (flat_map f taken) xs (IsPermutation-sym (flat_map f taken) (flat_map f ordered) ((lists.bags Taken Taken X).each f taken ordered m)) h

pub found-moved : (parts : Parts) (f : Found) (taken ordered : List Taken) → IsPermutation taken ordered → FoundOf parts f taken → FoundOf parts f ordered
found-moved parts f taken ordered m h = record {
  held = All-permutation IsHeld taken ordered m h.held;
  damage = least-moved damage_number (damages taken) (damages ordered) f.damage ((lists.bags Taken Taken Damage).each (λ (t : Taken). damage_of t.held) taken ordered m) h.damage;
  header = least-moved header_number (headers taken) (headers ordered) f.header ((lists.bags Taken Taken HeaderAt).each (λ (t : Taken). header_of t.block.no t.held) taken ordered m) h.header;
  kept = moved-walk (λ (t : Taken). kept_held parts t.held) taken ordered f.kept.items m h.kept;
  nodes = moved-walk (λ (t : Taken). cond (holds has_nodes t.held) (t.block ∷ []) []) taken ordered f.nodes.items m h.nodes;
  ways = moved-walk (λ (t : Taken). cond (holds has_ways t.held) (t.block ∷ []) []) taken ordered f.ways.items m h.ways;
}

-- what is found stays ready
least-valid : (o p : Option HeaderAt) → IfSome o IsValidBox → IfSome p IsValidBox → IfSome (least_of header_number o p) IsValidBox
least-valid None p h k = k
least-valid (Some x) None h k = h
least-valid (Some x) (Some y) h k = go _
  where
    go : (b : Bool) → IsValidBox (cond b y x)
    go true = k
    go false = h

pub ready-brought : (parts : Parts) (old new : Found) (damage : Option Damage) (head : Option HeaderAt) (kept : List KeptRelation) (nodes ways : List BlockAt) → Brings old new damage head kept nodes ways
    → All IsOfElements nodes → All IsOfElements ways → All (IsSoundKept parts) kept → IfSome head IsValidBox → IsReady parts old → IsReady parts new
ready-brought parts old new damage head kept nodes ways b ns ws ks box h = record {
  nodes = subst (All IsOfElements) (sym b.nodes_is) (All-append IsOfElements old.nodes.items nodes h.nodes ns);
  ways = subst (All IsOfElements) (sym b.ways_is) (All-append IsOfElements old.ways.items ways h.ways ws);
  kept = subst (All (IsSoundKept parts)) (sym b.kept_is) (All-append (IsSoundKept parts) old.kept.items kept h.kept ks);
  box = subst (λ o. IfSome o IsValidBox) (sym b.header_is) (least-valid old.header head h.box box);
}

pub ready-joined : (parts : Parts) (old new other : Found) → Brings old new other.damage other.header other.kept.items other.nodes.items other.ways.items → IsReady parts old → IsReady parts other → IsReady parts new
ready-joined parts old new other b h k = ready-brought parts old new other.damage other.header other.kept.items other.nodes.items other.ways.items b k.nodes k.ways k.kept k.box h

pub ready-plain : (parts : Parts) (old new : Found) (damage : Option Damage) (head : Option HeaderAt) → Brings old new damage head [] [] [] → IfSome head IsValidBox → IsReady parts old → IsReady parts new
ready-plain parts old new damage head b box h =
    ready-brought parts old new damage head [] [] [] b (All-nil IsOfElements) (All-nil IsOfElements) (All-nil (IsSoundKept parts)) box h

pub on_ok : {A E : Type 0} (r : Result A E) (P Q : Type 0) → (P → Q) → OnOk r P → OnOk r Q
on_ok (Ok x) P Q f h = f h
on_ok (Err e) P Q f h = tt
