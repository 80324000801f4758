-- What the survey found of an extract, by what it took up of the blocks that are read.
use Rattle.std.proofs.Common.{◌≡◌, ℕ, ◌^◌, ◌<◌, ◌≤◌, Bool, true, false, cond, Option, None, Some, IfSome, Result, Ok, Err, List, [], ◌∷◌, ◌++◌, All, Contains, length, map, filter, flat_map, slice_get, suc, sum_by, refl, sym, ap, subst, ◌∙◌, arith}
use Rattle.std.specs.List.{AllByRecursion}
use Rattle.std.specs.List.Sorted.{IsPermutation, IsStrictlyIncreasing}
use Rattle.std.proofs.lemmas.List.{length-map}
use Rattle.std.proofs.lemmas.List.Elements.{All-nil, All-cons, All-append, All-head, All-tail, All-contains, All-contains_itself, All-weaker, All-filter}
use Rattle.std.proofs.lemmas.List.Sorted.{All-permutation, IsPermutation-sym, sum_by-IsPermutation}
use Rattle.std.proofs.lemmas.List.Sums.{sum_by-cons}
use Rattle.sorted_lists.proofs.Groups.{Climbs, climbs_from_increasing, increasing_from_climbs}
use Rattle.sorted_lists.proofs.Proved as lists
use Rattle.tb_types.specs.declared.damage.Damage.{Damage}
use Rattle.tb_outside.specs.Source.{SourceSeen}
use Rattle.pbf_blobs.specs.Answers.{IsNumbered, IsShort}
use Rattle.pbf_blobs.specs.declared.block.BlockAt.{BlockAt}
use Rattle.pbf_blobs.specs.declared.block.BlockKind.{BlockKind}
use Rattle.pbf_blobs.specs.declared.block.BlockKind.TheVariants as kinds
use Rattle.pbf_blobs.specs.declared.stop.ScanStop.TheVariants as stops
use Rattle.profile_rules.specs.declared.parts.Parts.{Parts}
use Rattle.pass_order.specs.declared.order.Order.{Order}
use Rattle.tile_model.specs.Bounds.{boxes_in}
use Rattle.tile_model.specs.Contents.{Content, unread, body_at, content_at, contents_at, content_of, in_block, with_later}
use Rattle.tile_model.specs.Loads.{has_nodes, has_ways, holds, that_hold}
use Rattle.tile_model.specs.Map.{blocks_in}
use Rattle.tile_model.specs.Map as maps
use Rattle.tile_model.specs.Needs.{is_read}
use Rattle.block_pass.specs.Loading.{IsGiven}
use Rattle.block_pass.specs.Passes.{Passed}
use Rattle.pass_survey.specs.declared.found.Found.{Found}
use Rattle.pass_survey.specs.Taken.{Taken, taken_at, number_of, held_in, with_nodes, with_ways}
use Rattle.pass_survey.specs.Found.{FoundOf, InOrder}
use Rattle.pass_survey.specs.Kept.{all_kept}
use Rattle.pass_survey.specs.Told.{Holds}
use Rattle.pass_survey.proofs.Told.{found}
use Rattle.build_one.specs.declared.survey.Loaded.{Loaded}
use Rattle.build_one.specs.declared.survey.SurveyWork.{SurveyWork}
use Rattle.tb_types.specs.Needs.{block_need}
use Rattle.pass_order.specs.declared.order.Order.TheVariants as orders
use Rattle.pass_order.specs.Orders.{MayPass}
use Rattle.block_pass.specs.Loading.{FitsIn}
use Rattle.block_pass.specs.Orders.{needs_of}
use Rattle.build_one.specs.Survey.{AreListed, FitFound, HasFound, IsOf, LieWithin, MayGoOn, Surveys, read_of}
use Rattle.build_one.specs.Works.{survey_meaning, taken_of}
use Rattle.build_one.proofs.Apart.{apart}
use Rattle.build_one.proofs.Loading.{map_told, both_told}

abbrev reads : BlockAt → Bool
reads b = is_read b.kind

-- ---- the numbers of the blocks that are read rise

kept-above : (n : ℕ) (blocks : List BlockAt) → AllByRecursion (λ k. n < k) (map (λ (b : BlockAt). b.no) blocks) → AllByRecursion (λ k. n < k) (map (λ (b : BlockAt). b.no) (read_of blocks))
kept-above n [] h = tt
kept-above n (b ∷ blocks) h = by (is_read b.kind) (kept-above n blocks h.1)
  where
    by : (t : Bool) → AllByRecursion (λ k. n < k) (map (λ (x : BlockAt). x.no) (read_of blocks)) → AllByRecursion (λ k. n < k) (map (λ (x : BlockAt). x.no) (cond t (b ∷ read_of blocks) (read_of blocks)))
    by true rest = (h.0, rest)
    by false rest = rest

kept-climb : (blocks : List BlockAt) → Climbs (map (λ (b : BlockAt). b.no) blocks) → Climbs (map (λ (b : BlockAt). b.no) (read_of blocks))
kept-climb [] h = tt
kept-climb (b ∷ blocks) h = by (is_read b.kind) (kept-climb blocks h.1)
  where
    by : (t : Bool) → Climbs (map (λ (x : BlockAt). x.no) (read_of blocks)) → Climbs (map (λ (x : BlockAt). x.no) (cond t (b ∷ read_of blocks) (read_of blocks)))
    by true rest = (kept-above b.no blocks h.0, rest)
    by false rest = rest

rising : (blocks : List BlockAt) → IsNumbered blocks → IsStrictlyIncreasing (map (λ (b : BlockAt). b.no) (read_of blocks))
rising blocks h =
    let all : IsStrictlyIncreasing (map (λ (b : BlockAt). b.no) blocks) = subst IsStrictlyIncreasing (sym (h.ascend ∙ lists.numbers.counting (length blocks))) (lists.numbers.climbing 0 (length blocks)) in
    increasing_from_climbs _ (kept-climb blocks (climbs_from_increasing _ all))

-- ---- blocks that aren't read change nothing

-- the same is found of both
record Alike (xs ys : List Content) : Type 0 where
  boxes : flat_map boxes_in xs ≡ flat_map boxes_in ys
  blocks : blocks_in xs ≡ blocks_in ys
  nodes : filter has_nodes xs ≡ filter has_nodes ys
  ways : filter has_ways xs ≡ filter has_ways ys

abbrev AreAlike : Result (List Content) Damage → Result (List Content) Damage → Type 0
AreAlike (Ok xs) (Ok ys) = Alike xs ys
AreAlike (Ok xs) (Err damage) = ⊥
AreAlike (Err damage) (Ok ys) = ⊥
AreAlike (Err damage) (Err other) = damage ≡ other

more-nodes : (t : Bool) (c : Content) (xs ys : List Content) → xs ≡ ys → cond t (c ∷ xs) xs ≡ cond t (c ∷ ys) ys
more-nodes t c xs ys e = ap (λ zs. cond t (c ∷ zs) zs) e

alike-more : (r : Result Content Damage) (xs ys : Result (List Content) Damage) → AreAlike xs ys → AreAlike (with_later r xs) (with_later r ys)
alike-more (Ok c) (Ok xs) (Ok ys) h = record {
  boxes = ap (λ bs. boxes_in c ++ bs) h.boxes;
  blocks = ap (λ bs. maps.block_in c ++ bs) h.blocks;
  nodes = more-nodes (has_nodes c) c _ _ h.nodes;
  ways = more-nodes (has_ways c) c _ _ h.ways;
}
alike-more (Ok c) (Ok xs) (Err damage) h = absurd h
alike-more (Ok c) (Err damage) (Ok ys) h = absurd h
alike-more (Ok c) (Err damage) (Err other) h = h
alike-more (Err damage) xs ys h = refl

alike-unread : (xs ys : Result (List Content) Damage) → AreAlike xs ys → AreAlike xs (with_later (Ok unread) ys)
alike-unread (Ok xs) (Ok ys) h = record { boxes = h.boxes; blocks = h.blocks; nodes = h.nodes; ways = h.ways }
alike-unread (Ok xs) (Err damage) h = absurd h
alike-unread (Err damage) (Ok ys) h = absurd h
alike-unread (Err damage) (Err other) h = h

unread-at : (extract : List ℕ) (b : BlockAt) → b.kind ≡ kinds.Other → content_at extract b ≡ Ok unread
unread-at extract b kind = ap (λ k. in_block b.no (content_of b.no k (body_at extract b))) kind

read-alike : (extract : List ℕ) (blocks : List BlockAt) → AreAlike (contents_at extract (read_of blocks)) (contents_at extract blocks)
read-alike extract [] = record { boxes = refl; blocks = refl; nodes = refl; ways = refl }
read-alike extract (b ∷ blocks) = by b.kind refl (read-alike extract blocks)
  where
    by : (k : BlockKind) → b.kind ≡ k → AreAlike (contents_at extract (read_of blocks)) (contents_at extract blocks)
        → AreAlike (contents_at extract (cond (is_read k) (b ∷ read_of blocks) (read_of blocks))) (with_later (content_at extract b) (contents_at extract blocks))
    by kinds.Header is rest = alike-more (content_at extract b) _ _ rest
    by kinds.Elements is rest = alike-more (content_at extract b) _ _ rest
    by kinds.Other is rest = subst (λ r. AreAlike (contents_at extract (read_of blocks)) (with_later r (contents_at extract blocks))) (sym (unread-at extract b is)) (alike-unread _ _ rest)

holds-alike : (parts : Parts) (extract : List ℕ) (f : Found) (xs ys : Result (List Content) Damage) → AreAlike xs ys → Holds parts extract f xs → Holds parts extract f ys
holds-alike parts extract f (Ok xs) (Ok ys) h k = (
  k.0,
  record {
    box = k.1.box ∙ ap (λ bs. slice_get bs 0) h.boxes;
    kept = k.1.kept ∙ ap (all_kept parts) h.blocks;
    nodes = k.1.nodes ∙ ap Ok h.nodes;
    ways = k.1.ways ∙ ap Ok h.ways;
  },
)
holds-alike parts extract f (Ok xs) (Err damage) h k = absurd h
holds-alike parts extract f (Err damage) (Ok ys) h k = absurd h
holds-alike parts extract f (Err damage) (Err other) h k = k ∙ ap Some h

-- the lists of the blocks that hold something
listed : (extract : List ℕ) (has : Content → Bool) → has unread ≡ false → (blocks : List BlockAt)
    → flat_map (λ (t : Taken). cond (holds has t.held) (t.block ∷ []) []) (map (taken_at extract) (read_of blocks)) ≡ that_hold has extract blocks
listed extract has none [] = refl
listed extract has none (b ∷ blocks) = by b.kind refl (listed extract has none blocks)
  where
    among : List BlockAt → List BlockAt
    among xs = flat_map (λ (t : Taken). cond (holds has t.held) (t.block ∷ []) []) (map (taken_at extract) xs)

    one : (t : Bool) (xs ys : List BlockAt) → xs ≡ ys → cond t (b ∷ []) [] ++ xs ≡ cond t (b ∷ ys) ys
    one true xs ys e = ap (λ zs. b ∷ zs) e
    one false xs ys e = e

    by : (k : BlockKind) → b.kind ≡ k → flat_map (λ (t : Taken). cond (holds has t.held) (t.block ∷ []) []) (map (taken_at extract) (read_of blocks)) ≡ that_hold has extract blocks
        → flat_map (λ (t : Taken). cond (holds has t.held) (t.block ∷ []) []) (map (taken_at extract) (cond (is_read k) (b ∷ read_of blocks) (read_of blocks))) ≡ cond (holds has (content_at extract b)) (b ∷ that_hold has extract blocks) (that_hold has extract blocks)
    by kinds.Header is rest = one (holds has (content_at extract b)) _ _ rest
    by kinds.Elements is rest = one (holds has (content_at extract b)) _ _ rest
    by kinds.Other is rest = rest ∙ sym (ap (λ t. cond t (b ∷ that_hold has extract blocks) (that_hold has extract blocks)) (ap (holds has) (unread-at extract b is) ∙ none))

-- ---- what was taken up

held-damage : (parts : Parts) (extract : List ℕ) (f : Found) (damage : Damage) (contents : Result (List Content) Damage) → f.damage ≡ Some damage → Holds parts extract f contents → contents ≡ Err damage
held-damage parts extract f damage (Ok contents) is h = let no : None ≡ Some damage = sym h.0 ∙ is in absurd cc
held-damage parts extract f damage (Err before) is h = let same : Some before ≡ Some damage = sym h ∙ is in cc

held-found : (parts : Parts) (extract : List ℕ) (f : Found) (contents : Result (List Content) Damage) → f.damage ≡ None → Holds parts extract f contents → HasFound parts extract f contents
held-found parts extract f (Ok contents) is h = h.1
held-found parts extract f (Err damage) is h = let no : None ≡ Some damage = sym is ∙ h in absurd cc

-- blocks as they were given are those of the extract
given-taken : (extract : List ℕ) (read : List (BlockAt × Loaded)) → All (IsGiven survey_meaning (Some extract)) read → map taken_of read ≡ map (taken_at extract) (map (λ x. x.0) read)
given-taken extract [] h = refl
given-taken extract (x ∷ read) h =
    let own = All-head (IsGiven survey_meaning (Some extract)) x read h in
    let same : taken_of x ≡ taken_at extract x.0 = ap (λ bytes. record { block = x.0; held = held_in x.0 bytes }) (own.gives ∙ own.of) in
    (λ i. same i ∷ given-taken extract read (All-tail (IsGiven survey_meaning (Some extract)) x read h) i)

numbers-are : (read : List (BlockAt × Loaded)) → map number_of (map taken_of read) ≡ map (λ (b : BlockAt). b.no) (map (λ x. x.0) read)
numbers-are [] = refl
numbers-are (x ∷ read) = ap (λ ns. x.0.no ∷ ns) (numbers-are read)

-- blocks that were chosen of some
chosen-of : (P : BlockAt → Type 0) (has : Taken → Bool) (xs : List (BlockAt × Loaded)) → All (λ x. P x.0) xs → All P (flat_map (λ (t : Taken). cond (has t) (t.block ∷ []) []) (map taken_of xs))
chosen-of P has [] h = All-nil P
chosen-of P has (x ∷ xs) h = All-append P _ _ (one (has (taken_of x))) (chosen-of P has xs (All-tail (λ y. P y.0) x xs h))
  where
    one : (t : Bool) → All P (cond t (x.0 ∷ []) [])
    one true = All-cons P x.0 [] (All-head (λ y. P y.0) x xs h) (All-nil P)
    one false = All-nil P

few-of : (has : Taken → Bool) (xs : List (BlockAt × Loaded)) → length (flat_map (λ (t : Taken). cond (has t) (t.block ∷ []) []) (map taken_of xs)) ≤ length xs
few-of has [] = omega arith
few-of has (x ∷ xs) = by (has (taken_of x)) (few-of has xs)
  where
    by : (t : Bool) → length (flat_map (λ (y : Taken). cond (has y) (y.block ∷ []) []) (map taken_of xs)) ≤ length xs → length (cond t (x.0 ∷ []) [] ++ flat_map (λ (y : Taken). cond (has y) (y.block ∷ []) []) (map taken_of xs)) ≤ suc (length xs)
    by true h = omega (arith, h)
    by false h = omega (arith, h)

all-firsts : (P : BlockAt → Type 0) (xs : List (BlockAt × Loaded)) → All P (map (λ x. x.0) xs) → All (λ x. P x.0) xs
all-firsts P [] h = All-nil (λ x. P x.0)
all-firsts P (x ∷ xs) h = All-cons (λ y. P y.0) x xs (All-head P x.0 (map (λ y. y.0) xs) h) (all-firsts P xs (All-tail P x.0 (map (λ y. y.0) xs) h))

same-length : {A : Type 0} (xs ys : List A) → IsPermutation xs ys → length ys ≡ length xs
same-length {A} xs ys p = sym (counted ys) ∙ (sum_by-IsPermutation (λ x. 1) xs ys p ∙ counted xs)
  where
    counted : (zs : List A) → sum_by (λ x. 1) zs ≡ length zs
    counted [] = refl
    counted (z ∷ zs) = let c = sum_by-cons (λ x. 1) z zs in let r = counted zs in omega (arith, c, r)

module _ (parts : Parts) (order : Order) (blocks : List BlockAt) (numbered : IsNumbered blocks) (r r' : SourceSeen) (old new : SurveyWork) (is : old.profile.now ≡ parts) (none : FoundOf parts old.found []) (p : Passed survey_meaning order (read_of blocks) r r' old new) where
  taken : FoundOf parts new.found (map taken_of p.puts)
  taken = subst (λ (ps : Parts). FoundOf ps new.found (map taken_of p.puts)) is (p.did.found [] (subst (λ (ps : Parts). FoundOf ps old.found []) (sym is) none))

  in-file : IsPermutation (map taken_of p.puts) (map taken_of p.read)
  in-file = (lists.bags (BlockAt × Loaded) (BlockAt × Loaded) Taken).mapped taken_of p.puts p.read (IsPermutation-sym _ _ p.all_put)

  numbers : IsStrictlyIncreasing (map number_of (map taken_of p.read))
  numbers = subst IsStrictlyIncreasing (sym (numbers-are p.read ∙ ap (map (λ (b : BlockAt). b.no)) p.are)) (rising blocks numbered)

  firsts : (P : BlockAt → Type 0) → All P (read_of blocks) → All (λ x. P x.0) p.puts
  firsts P h = All-permutation (λ x. P x.0) p.read p.puts p.all_put (all-firsts P p.read (subst (All P) (sym p.are) h))

  many : length p.puts ≡ length (read_of blocks)
  many = same-length p.read p.puts p.all_put ∙ (sym (length-map p.read (λ x. x.0)) ∙ ap length p.are)

  -- what arranging gives
  arranged : (f : Found) → ((ps : Parts) (taken ordered : List Taken) → FoundOf ps new.found taken → IsPermutation taken ordered → IsStrictlyIncreasing (map number_of ordered) → InOrder ps f ordered) → InOrder parts f (map taken_of p.read)
  arranged f h = h parts (map taken_of p.puts) (map taken_of p.read) taken in-file numbers

  -- what the lists have, whatever is told
  of-blocks : (f : Found) → InOrder parts f (map taken_of p.read) → IsOf (read_of blocks) f
  of-blocks f o =
      let nodes = subst (λ bs. IsPermutation (with_nodes (map taken_of p.puts)) bs) (sym o.nodes) (moved has_nodes) in
      let ways = subst (λ bs. IsPermutation (with_ways (map taken_of p.puts)) bs) (sym o.ways) (moved has_ways) in
      record {
        nodes = All-permutation (Contains (read_of blocks)) _ _ nodes (chosen-of (Contains (read_of blocks)) (λ (t : Taken). holds has_nodes t.held) p.puts (firsts (Contains (read_of blocks)) (All-contains_itself (read_of blocks))));
        ways = All-permutation (Contains (read_of blocks)) _ _ ways (chosen-of (Contains (read_of blocks)) (λ (t : Taken). holds has_ways t.held) p.puts (firsts (Contains (read_of blocks)) (All-contains_itself (read_of blocks))));
        few_nodes = let a = same-length _ _ nodes in let b = few-of (λ (t : Taken). holds has_nodes t.held) p.puts in omega (arith, a, b, many);
        few_ways = let a = same-length _ _ ways in let b = few-of (λ (t : Taken). holds has_ways t.held) p.puts in omega (arith, a, b, many);
      }
    where
      moved : (has : Content → Bool) → IsPermutation (flat_map (λ (t : Taken). cond (holds has t.held) (t.block ∷ []) []) (map taken_of p.puts)) (flat_map (λ (t : Taken). cond (holds has t.held) (t.block ∷ []) []) (map taken_of p.read))
      moved has = (lists.bags Taken Taken BlockAt).each (λ (t : Taken). cond (holds has t.held) (t.block ∷ []) []) _ _ in-file

  module _ (f : Found) (o : InOrder parts f (map taken_of p.read)) where
    told-order : IfSome r.bytes (λ extract. InOrder parts f (map (taken_at extract) (read_of blocks)))
    told-order = by r.bytes p.given
      where
        by : (told : Option (List ℕ)) → All (IsGiven survey_meaning told) p.read → IfSome told (λ extract. InOrder parts f (map (taken_at extract) (read_of blocks)))
        by None h = tt
        by (Some extract) h = subst (InOrder parts f) (given-taken extract p.read h ∙ ap (map (taken_at extract)) p.are) o

    holds-all : IfSome r.bytes (λ extract. Holds parts extract f (contents_at extract blocks))
    holds-all = map_told r.bytes (λ extract. InOrder parts f (map (taken_at extract) (read_of blocks))) (λ extract. Holds parts extract f (contents_at extract blocks))
        (λ extract h. holds-alike parts extract f (contents_at extract (read_of blocks)) (contents_at extract blocks) (read-alike extract blocks) (found.told parts extract f (read_of blocks) h)) told-order

    surveyed-damage : (damage : Damage) → f.damage ≡ Some damage → IfSome r.bytes (λ extract. Surveys parts extract blocks (Err (stops.Damage damage)) (contents_at extract blocks))
    surveyed-damage damage at = map_told r.bytes (λ extract. Holds parts extract f (contents_at extract blocks)) (λ extract. contents_at extract blocks ≡ Err damage) (λ extract h. held-damage parts extract f damage (contents_at extract blocks) at h) holds-all

    surveyed-found : f.damage ≡ None → IfSome r.bytes (λ extract. All (IsShort (length extract)) blocks) → IfSome r.bytes (λ extract. Surveys parts extract blocks (Ok f) (contents_at extract blocks))
    surveyed-found sound short =
        both_told r.bytes (λ extract. LieWithin (length extract) f × AreListed extract blocks f) (λ extract. Holds parts extract f (contents_at extract blocks)) (λ extract. Surveys parts extract blocks (Ok f) (contents_at extract blocks))
        (λ extract k h. (held-found parts extract f (contents_at extract blocks) sound h, apart parts extract blocks numbered, k.0, k.1))
        (both_told r.bytes (λ extract. All (IsShort (length extract)) blocks) (λ extract. InOrder parts f (map (taken_at extract) (read_of blocks))) (λ extract. LieWithin (length extract) f × AreListed extract blocks f)
        (λ extract all h.
        let of = of-blocks f o in
        let each : All (IsShort (length extract)) (read_of blocks) = All-filter reads (IsShort (length extract)) blocks all in (
          record {
            nodes = All-weaker (Contains (read_of blocks)) (IsShort (length extract)) (λ b there. All-contains (IsShort (length extract)) (read_of blocks) b each there) f.nodes.items of.nodes;
            ways = All-weaker (Contains (read_of blocks)) (IsShort (length extract)) (λ b there. All-contains (IsShort (length extract)) (read_of blocks) b each there) f.ways.items of.ways;
          },
          record { nodes = h.nodes ∙ listed extract has_nodes refl blocks; ways = h.ways ∙ listed extract has_ways refl blocks },
        )) short told-order) holds-all

-- the same by what the code has at hand
module _ (parts : Parts) (order : Order) (blocks : List BlockAt) (numbered : IsNumbered blocks) (r r' : SourceSeen) (bs : List BlockAt) (are : bs ≡ read_of blocks) (old new : SurveyWork) (p : Passed survey_meaning order bs r r' old new) (is : old.profile.now ≡ parts)
    (none : FoundOf parts old.found []) (f : Found) (order-is : (ps : Parts) (taken ordered : List Taken) → FoundOf ps new.found taken → IsPermutation taken ordered → IsStrictlyIncreasing (map number_of ordered) → InOrder ps f ordered) where
  passed : Passed survey_meaning order (read_of blocks) r r' old new
  passed = subst (λ (xs : List BlockAt). Passed survey_meaning order xs r r' old new) are p

  in-order : InOrder parts f (map taken_of passed.read)
  in-order = arranged parts order blocks numbered r r' old new is none passed f order-is

  pub survey-damage : (damage : Damage) → f.damage ≡ Some damage → IfSome r.bytes (λ extract. Surveys parts extract blocks (Err (stops.Damage damage)) (contents_at extract blocks))
  survey-damage damage at = surveyed-damage parts order blocks numbered r r' old new is none passed f in-order damage at

  pub survey-found : f.damage ≡ None → IfSome r.bytes (λ extract. All (IsShort (length extract)) blocks) → IfSome r.bytes (λ extract. Surveys parts extract blocks (Ok f) (contents_at extract blocks))
  survey-found sound short = surveyed-found parts order blocks numbered r r' old new is none passed f in-order sound short

  pub survey-of : IsOf (read_of blocks) f
  survey-of = of-blocks parts order blocks numbered r r' old new is none passed f in-order

-- ---- what a pass asks

any-fits : (blocks : List BlockAt) → All (FitsIn None) blocks
any-fits [] = All-nil (FitsIn None)
any-fits (b ∷ blocks) = All-cons (FitsIn None) b blocks tt (any-fits blocks)

pub read-fits : (told : Option (List ℕ)) (blocks : List BlockAt) → IfSome told (λ extract. All (IsShort (length extract)) blocks) → All (FitsIn told) (read_of blocks)
read-fits None blocks h = any-fits (read_of blocks)
read-fits (Some extract) blocks h = All-weaker (IsShort (length extract)) (FitsIn (Some extract)) (λ b short. short.1) (read_of blocks) (All-filter reads (IsShort (length extract)) blocks h)

pub found-fits : (told : Option (List ℕ)) (blocks : List BlockAt) (f : Found) → IfSome told (λ extract. All (IsShort (length extract)) blocks) → IsOf (read_of blocks) f → FitFound told f
found-fits told blocks f h of =
    let each = read-fits told blocks h in
    record {
      nodes = All-weaker (Contains (read_of blocks)) (FitsIn told) (λ b there. All-contains (FitsIn told) (read_of blocks) b each there) f.nodes.items of.nodes;
      ways = All-weaker (Contains (read_of blocks)) (FitsIn told) (λ b there. All-contains (FitsIn told) (read_of blocks) b each there) f.ways.items of.ways;
    }

fewer : (blocks : List BlockAt) → length (read_of blocks) ≤ length blocks
fewer [] = omega arith
fewer (b ∷ blocks) = by (is_read b.kind) (fewer blocks)
  where
    by : (t : Bool) → length (read_of blocks) ≤ length blocks → length (cond t (b ∷ read_of blocks) (read_of blocks)) ≤ suc (length blocks)
    by true h = omega (arith, h)
    by false h = omega (arith, h)

needs-few : (blocks : List BlockAt) → length blocks ≤ 2 ^ 24 → length (needs_of blocks) < 2 ^ 32
needs-few blocks h = let e = length-map blocks (λ (b : BlockAt). block_need b.len) in omega (arith, e, h)

pub survey-may : (blocks : List BlockAt) → IsNumbered blocks → MayPass orders.InFile (needs_of (read_of blocks))
survey-may blocks h = let f = h.few in let e = fewer blocks in needs-few (read_of blocks) (omega (arith, e, f))

pub found-goes-on : (blocks : List BlockAt) (f : Found) (order : Order) → order ≡ orders.InFile → IsNumbered blocks → IsOf (read_of blocks) f → MayGoOn order f
found-goes-on blocks f order is h of =
    let few = h.few in
    let e = fewer blocks in
    let n = of.few_nodes in
    let w = of.few_ways in
    subst (λ (o : Order). MayGoOn o f) (sym is) (record { nodes = needs-few f.nodes.items (omega (arith, e, few, n)); ways = needs-few f.ways.items (omega (arith, e, few, w)) })
