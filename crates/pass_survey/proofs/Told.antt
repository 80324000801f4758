-- What the blocks of an extract have, in file order, is what the extract holds.
use Rattle.std.proofs.Common.{◌≡◌, ℕ, ◌<◌, Bool, true, false, cond, Option, None, Some, Result, Ok, Err, List, [], ◌∷◌, ◌++◌, length, map, filter, flat_map, slice_get, All, Contains, refl, sym, ap, subst, ◌∙◌, inl, inr}
use Rattle.std.proofs.lemmas.List.Elements.{All-append, All-cons, All-nil, All-head, All-tail, All-contains_itself}
use Rattle.std.specs.List.{range_with_len}
use Rattle.std.specs.List.Sorted.{IsStrictlyIncreasing}
use Rattle.tb_types.specs.declared.damage.Damage.{Damage}
use Rattle.tb_types.specs.declared.location.Bounds.{Bounds}
use Rattle.pbf_blobs.specs.Answers.{IsNumbered}
use Rattle.pbf_blobs.specs.declared.block.BlockAt.{BlockAt}
use Rattle.pbf_blobs.specs.declared.block.BlockKind.TheVariants as kinds
use Rattle.profile_rules.specs.declared.parts.Parts.{Parts}
use Rattle.sorted_lists.proofs.Proved as lists
use Rattle.tile_model.specs.Bounds.{boxes_in}
use Rattle.tile_model.specs.Contents.{Content, header, elements, unread, content_of, in_block, content_at, contents_at, with_later, body_at, IsBody}
use Rattle.tile_model.specs.Map.{blocks_in}
use Rattle.pass_survey.specs.declared.header.HeaderAt.{HeaderAt}
use Rattle.pass_survey.specs.declared.found.Found.{Found}
use Rattle.pass_survey.specs.Kept.{kept_in, all_kept}
use Rattle.tile_model.specs.Loads.{has_nodes, has_ways, holds}
use Rattle.pass_survey.specs.Taken.{Taken, taken_with, taken_at, number_of, damages, headers, kept_by, with_nodes, with_ways}
use Rattle.pass_survey.specs.Found.{InOrder}
use Rattle.pass_survey.specs.Told.{box_of, Holds, FoundLaws}

-- what is in the lists, by what blocks hold
record Lists (parts : Parts) (extract : List ℕ) (taken : List Taken) (contents : List Content) : Type 0 where
  none : damages taken ≡ []
  boxes : map (λ (h : HeaderAt). h.bounds) (headers taken) ≡ flat_map boxes_in contents
  kept : kept_by parts taken ≡ all_kept parts (blocks_in contents)
  nodes : contents_at extract (with_nodes taken) ≡ Ok (filter has_nodes contents)
  ways : contents_at extract (with_ways taken) ≡ Ok (filter has_ways contents)

abbrev Are : Parts → List ℕ → List Taken → Result (List Content) Damage → Type 0
Are parts extract taken (Ok contents) = Lists parts extract taken contents
Are parts extract taken (Err damage) = slice_get (damages taken) 0 ≡ Some damage

chosen : (extract : List ℕ) (b : BlockAt) (c : Content) (more : Bool) (blocks : List BlockAt) (contents : List Content) → content_at extract b ≡ Ok c → contents_at extract blocks ≡ Ok contents
    → contents_at extract (cond more (b ∷ []) [] ++ blocks) ≡ Ok (cond more (c ∷ contents) contents)
chosen extract b c true blocks contents is h = (λ i. with_later (is i) (h i))
chosen extract b c false blocks contents is h = h

step : (parts : Parts) (extract : List ℕ) (b : BlockAt) (taken : List Taken) (r : Result Content Damage) (later : Result (List Content) Damage) → content_at extract b ≡ r → Are parts extract taken later
    → Are parts extract (record { block = b; held = r } ∷ taken) (with_later r later)
step parts extract b taken (Ok (header box)) (Ok contents) is h = record { none = h.none; boxes = ap (λ bs. box ∷ bs) h.boxes; kept = h.kept; nodes = h.nodes; ways = h.ways }
step parts extract b taken (Ok (elements n block)) (Ok contents) is h = record {
  none = h.none;
  boxes = h.boxes;
  kept = ap (λ ks. kept_in parts n block.relations ++ ks) h.kept;
  nodes = chosen extract b (elements n block) (has_nodes (elements n block)) (with_nodes taken) (filter has_nodes contents) is h.nodes;
  ways = chosen extract b (elements n block) (has_ways (elements n block)) (with_ways taken) (filter has_ways contents) is h.ways;
}
step parts extract b taken (Ok unread) (Ok contents) is h = record { none = h.none; boxes = h.boxes; kept = h.kept; nodes = h.nodes; ways = h.ways }
step parts extract b taken (Ok c) (Err damage) is h = h
step parts extract b taken (Err damage) later is h = refl

all-blocks : (parts : Parts) (extract : List ℕ) (blocks : List BlockAt) → Are parts extract (map (taken_at extract) blocks) (contents_at extract blocks)
all-blocks parts extract [] = record { none = refl; boxes = refl; kept = refl; nodes = refl; ways = refl }
all-blocks parts extract (b ∷ blocks) = step parts extract b (map (taken_at extract) blocks) (content_at extract b) (contents_at extract blocks) refl (all-blocks parts extract blocks)

first-box : (hs : List HeaderAt) → box_of (slice_get hs 0) ≡ slice_get (map (λ (h : HeaderAt). h.bounds) hs) 0
first-box [] = refl
first-box (h ∷ hs) = refl

held : (parts : Parts) (extract : List ℕ) (f : Found) (taken : List Taken) (found : Result (List Content) Damage) → InOrder parts f taken → Are parts extract taken found → Holds parts extract f found
held parts extract f taken (Ok contents) o h = (
  o.damage ∙ ap (λ ds. slice_get ds 0) h.none,
  record {
    box = ap box_of o.header ∙ (first-box (headers taken) ∙ ap (λ bs. slice_get bs 0) h.boxes);
    kept = o.kept ∙ h.kept;
    nodes = ap (contents_at extract) o.nodes ∙ h.nodes;
    ways = ap (contents_at extract) o.ways ∙ h.ways;
  },
)
held parts extract f taken (Err damage) o h = o.damage ∙ h

-- a body that was loaded
loaded-body : (extract : List ℕ) (b : BlockAt) (body : List ℕ) → IsBody extract b body → taken_with b body ≡ taken_at extract b
loaded-body extract b body (inl other) =
    ap (λ k. record { block = b; held = in_block b.no (content_of b.no k body) }) other ∙ sym (ap (λ k. record { block = b; held = in_block b.no (content_of b.no k (body_at extract b)) }) other)
loaded-body extract b body (inr same) = ap (λ bytes. record { block = b; held = in_block b.no (content_of b.no b.kind bytes) }) same

-- numbers
same-numbers : (extract : List ℕ) (blocks : List BlockAt) → map (λ (b : BlockAt). b.no) blocks ≡ map number_of (map (taken_at extract) blocks)
same-numbers extract [] = refl
same-numbers extract (b ∷ blocks) = ap (λ ns. b.no ∷ ns) (same-numbers extract blocks)

numbers-ascend : (extract : List ℕ) (blocks : List BlockAt) → IsNumbered blocks → IsStrictlyIncreasing (map number_of (map (taken_at extract) blocks))
numbers-ascend extract blocks h =
    subst IsStrictlyIncreasing (sym (h.ascend ∙ lists.numbers.counting (length blocks)) ∙ same-numbers extract blocks) (lists.numbers.climbing 0 (length blocks))

-- blocks that were chosen
among-chosen : (P : BlockAt → Type 0) (extract : List ℕ) (has : Taken → Bool) (blocks : List BlockAt) → All P blocks → All P (flat_map (λ (t : Taken). cond (has t) (t.block ∷ []) []) (map (taken_at extract) blocks))
among-chosen P extract has [] h = All-nil P
among-chosen P extract has (b ∷ blocks) h =
    All-append P _ _ (one (has (taken_at extract b))) (among-chosen P extract has blocks (All-tail P b blocks h))
  where
    one : (more : Bool) → All P (cond more (b ∷ []) [])
    one true = All-cons P b [] (All-head P b blocks h) (All-nil P)
    one false = All-nil P

pub found : FoundLaws
found = record {
  loaded = loaded-body;
  numbered = numbers-ascend;
  told = λ parts extract f blocks o. held parts extract f (map (taken_at extract) blocks) (contents_at extract blocks) o (all-blocks parts extract blocks);
  among = λ parts extract f blocks o. (
    subst (All (Contains blocks)) (sym o.nodes) (among-chosen (Contains blocks) extract (λ (t : Taken). holds has_nodes t.held) blocks (All-contains_itself blocks)),
    subst (All (Contains blocks)) (sym o.ways) (among-chosen (Contains blocks) extract (λ (t : Taken). holds has_ways t.held) blocks (All-contains_itself blocks)),
  );
}
