-- No two features have one name: blocks have different numbers, and so have the nodes of a block.
use Rattle.std.proofs.Common.{◌≡◌, ◌≢◌, ℕ, ◌+◌, ◌≤◌, Option, Result, Ok, Err, List, [], ◌∷◌, length, map, refl, sym, subst, ◌∙◌, arith}
use Rattle.std.proofs.lemmas.List.Elements.{All-from_recursion}
use Rattle.std.specs.List.{AllByRecursion, range_with_len}
use Rattle.tb_types.specs.declared.damage.Damage.{Damage}
use Rattle.tb_types.specs.declared.damage.Why.{Why}
use Rattle.tb_types.specs.declared.location.Bounds.{Bounds}
use Rattle.tb_types.specs.Results.{◌>>=◌}
use Rattle.pbf_blobs.specs.declared.block.BlockAt.{BlockAt}
use Rattle.pbf_blobs.specs.declared.block.BlockKind.{BlockKind}
use Rattle.pbf_blobs.specs.declared.block.BlockKind.TheVariants as kinds
use Rattle.pbf_blobs.specs.Answers.{IsNumbered}
use Rattle.pbf_blobs.specs.Blob.{raw_of}
use Rattle.osm_elements.specs.declared.element.Block.{Block}
use Rattle.osm_elements.specs.Block.{block_of, elements_of}
use Rattle.osm_elements.specs.Block as osm
use Rattle.profile_rules.specs.declared.parts.Parts.{Parts}
use Rattle.sorted_lists.proofs.Orders.{Pairs, AllPairs_from_pairs}
use Rattle.sorted_lists.proofs.Proved as lists
use Rattle.tile_model.specs.ExtractLaws.{AreNumbered}
use Rattle.tile_model.proofs.Proved as laws
use Rattle.tile_model.specs.Contents.{Content, header, elements, unread, header_in, block_in, content_of, in_block, content_at, contents_at, with_later, body_at}
use Rattle.tile_model.specs.Map.{blocks_in}
use Rattle.build_one.specs.Survey.{AreApart}

-- numbers that ascend one by one, from one on
abbrev Counts : ℕ → List BlockAt → Type 0
Counts n [] = Unit {0}
Counts n (b ∷ blocks) = (b.no ≡ n) × Counts (n + 1) blocks

counts : (n : ℕ) (blocks : List BlockAt) → map (λ (b : BlockAt). b.no) blocks ≡ range_with_len n (length blocks) → Counts n blocks
counts n [] h = tt
counts n (b ∷ blocks) h =
    let first : b.no ≡ n = cc in
    let rest : map (λ (x : BlockAt). x.no) blocks ≡ range_with_len (n + 1) (length blocks) = cc in
    (first, counts (n + 1) blocks rest)

-- the nodes of each block have different numbers
abbrev AreRead : List (ℕ × Block) → Type 0
AreRead blocks = AllByRecursion (λ (b : ℕ × Block). AreNumbered b.1) blocks

-- the numbers of read blocks, from one on
abbrev From : ℕ → List (ℕ × Block) → Type 0
From n blocks = AllByRecursion (λ (b : ℕ × Block). n ≤ b.0) blocks

abbrev AreGood : ℕ → Result (List Content) Damage → Type 0
AreGood n (Ok contents) = From n (blocks_in contents) × Pairs (λ (a b : ℕ × Block). a.0 ≢ b.0) (blocks_in contents) × AreRead (blocks_in contents)
AreGood n (Err damage) = Unit {0}

from-later : (n : ℕ) (blocks : List (ℕ × Block)) → From (n + 1) blocks → From n blocks
from-later n [] h = tt
from-later n (b ∷ blocks) h = let le = h.0 in (omega (arith, le), from-later n blocks h.1)

from-apart : (n : ℕ) (block : Block) (blocks : List (ℕ × Block)) → From (n + 1) blocks → AllByRecursion (λ (b : ℕ × Block). n ≢ b.0) blocks
from-apart n block [] h = tt
from-apart n block (b ∷ blocks) h = let le = h.0 in (λ same. omega (arith, le, same), from-apart n block blocks h.1)

-- a block that is read, or is none of elements
abbrev IsGoodContent : ℕ → Result Content Damage → Type 0
IsGoodContent n (Ok (header box)) = Unit {0}
IsGoodContent n (Ok (elements number block)) = (number ≡ n) × AreNumbered block
IsGoodContent n (Ok unread) = Unit {0}
IsGoodContent n (Err damage) = Unit {0}

header-good : (n m : ℕ) (found : Result (Option Bounds) Why) → IsGoodContent n (in_block m (found >>= λ box. Ok (header box)))
header-good n m (Ok box) = tt
header-good n m (Err why) = tt

-- the nodes of a block that is read have different numbers
abbrev IsRead : Result Block Why → Type 0
IsRead (Ok block) = AreNumbered block
IsRead (Err why) = Unit {0}

read-if : (es : osm.Found) → IsRead (osm.block_if es)
read-if (Ok es) = laws.extracts.numbered es
read-if (Err why) = tt

read-raw : (raw : List ℕ) → IsRead (block_of raw)
unfolding block_of
read-raw raw = read-if (elements_of raw)

read-body : (raw : Result (List ℕ) Why) → IsRead (raw >>= block_of)
read-body (Ok raw) = read-raw raw
read-body (Err why) = tt

block-good : (m : ℕ) (found : Result Block Why) → IsRead found → IsGoodContent m (in_block m (found >>= λ block. Ok (elements m block)))
block-good m (Ok block) h = (refl, h)
block-good m (Err why) h = tt

good-content : (m : ℕ) (kind : BlockKind) (body : List ℕ) → IsGoodContent m (in_block m (content_of m kind body))
good-content m kinds.Header body = header-good m m (header_in body)
good-content m kinds.Elements body = block-good m (block_in body) (read-body (raw_of body))
good-content m kinds.Other body = tt

good-step : (n : ℕ) (c : Result Content Damage) (later : Result (List Content) Damage) → IsGoodContent n c → AreGood (n + 1) later → AreGood n (with_later c later)
good-step n (Ok (header box)) (Ok later) h g = (from-later n (blocks_in later) g.0, g.1, g.2)
good-step n (Ok unread) (Ok later) h g = (from-later n (blocks_in later) g.0, g.1, g.2)
good-step n (Ok (elements number block)) (Ok later) h g =
    let same = h.0 in
    let start : n ≤ number = omega (arith, same) in
    ((start, from-later n (blocks_in later) g.0), (from-apart number block (blocks_in later) (subst (λ m. From (m + 1) (blocks_in later)) (sym same) g.0), g.1), (h.1, g.2))
good-step n (Ok c) (Err damage) h g = tt
good-step n (Err damage) later h g = tt

good : (extract : List ℕ) (n : ℕ) (blocks : List BlockAt) → Counts n blocks → AreGood n (contents_at extract blocks)
good extract n [] h = (tt, tt, tt)
good extract n (b ∷ blocks) h =
    good-step n (content_at extract b) (contents_at extract blocks)
    (subst (λ m. IsGoodContent m (content_at extract b)) h.0 (good-content b.no b.kind (body_at extract b))) (good extract (n + 1) blocks h.1)

apart-if : (parts : Parts) (found : Result (List Content) Damage) → AreGood 0 found → AreApart parts found
apart-if parts (Ok contents) g =
    let differ = AllPairs_from_pairs (λ (a b : ℕ × Block). a.0 ≢ b.0) (blocks_in contents) g.1 in
    let numbered = All-from_recursion (λ (b : ℕ × Block). AreNumbered b.1) (blocks_in contents) g.2 in
    record { names = laws.extracts.differ parts (blocks_in contents) differ numbered; places = laws.extracts.placed (blocks_in contents) differ numbered; ways = laws.extracts.ways_placed (blocks_in contents) differ numbered }
apart-if parts (Err damage) g = tt

pub apart : (parts : Parts) (extract : List ℕ) (blocks : List BlockAt) → IsNumbered blocks → AreApart parts (contents_at extract blocks)
apart parts extract blocks h = apart-if parts (contents_at extract blocks) (good extract 0 blocks (counts 0 blocks (h.ascend ∙ lists.numbers.counting (length blocks))))
