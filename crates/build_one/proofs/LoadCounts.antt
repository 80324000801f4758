-- The loads of a build touch the body of each block so often as is due: frames lie apart, and each list of blocks has a block once.
use Rattle.std.proofs.Common.{◌≡◌, ℕ, zero, suc, ◌+◌, ◌-◌, ◌^◌, ◌<◌, ◌≤◌, ◌||◌, ◌&&◌, Bool, true, false, cond, if◌then◌else◌, nat_lt, nat_le, Option, None, Some, IfSome, option_map, Result, Ok, Err, List, [], ◌∷◌, ◌++◌, length, take, drop, map, filter, replicate, slice_range, All, refl, sym, ap, subst, ◌∙◌, arith, true≢false, inl, inr}
use Rattle.std.specs.List.{AllByRecursion}
use Rattle.std.proofs.lemmas.Bool.{cases_eq, lt-ltb, le-ltb}
use Rattle.std.proofs.lemmas.List.{append-nil}
use Rattle.std.proofs.lemmas.List.Elements.{All-from_recursion, recursion_from_All, filter-append}
use Rattle.tb_types.specs.Results.{◌>>=◌}
use Rattle.tb_types.specs.declared.damage.Damage.{Damage}
use Rattle.tb_types.specs.declared.damage.Why.{Why}
use Rattle.tb_types.specs.declared.damage.Why.TheVariants as why
use Rattle.tb_outside.specs.Source.{SourceSeen}
use Rattle.tb_wire.specs.Message.{message_at}
use Rattle.sorted_lists.proofs.Orders.{Pairs}
use Rattle.pbf_blobs.specs.Answers.{Grows, Misses, IsOfHeads}
use Rattle.pbf_blobs.specs.Blob.{raw_of}
use Rattle.pbf_blobs.specs.declared.block.BlockAt.{BlockAt}
use Rattle.pbf_blobs.specs.declared.block.BlockKind.{BlockKind}
use Rattle.pbf_blobs.specs.declared.block.BlockKind.TheVariants as kinds
use Rattle.pbf_blobs.specs.Frames.{Frames, block_at, end_at, faulty, with_rest, frames_from, all_frames, frames_before, frames_of, outcome}
use Rattle.pbf_blobs.specs.Kinds.{is_header}
use Rattle.pbf_blobs.proofs.Scanning.{frames-behind}
use Rattle.profile_rules.specs.declared.parts.Parts.{Parts}
use Rattle.osm_elements.specs.Header.{header_of}
use Rattle.osm_elements.specs.Block.{block_of}
use Rattle.tile_model.specs.Contents.{Content, header, elements, unread, body_at, content_at, content_of, contents_at, in_block, with_later}
use Rattle.tile_model.specs.Loads.{whole, touches, has_nodes, has_ways, holds, that_hold, loads_at, IsLoaded, Logs, AreLoaded}
use Rattle.tile_model.specs.Needs.{is_read}
use Rattle.pass_survey.specs.declared.found.Found.{Found}
use Rattle.build_one.specs.Survey.{AreListed, HasFound}
use Rattle.pass_order.specs.declared.order.Order.TheVariants as orders
use Rattle.block_pass.proofs.Places.{in-file}
use Rattle.build_one.specs.Made.{loads_behind, loads_in}
use Rattle.build_one.specs.Survey.{Surveys, loads_of, read_of}
use Rattle.block_pass.proofs.Logs.{logs-on}

-- ---- frames lie apart

abbrev Apart : BlockAt → BlockAt → Type 0
Apart a b = a.at + a.len ≤ b.at

either-apart : (b : Bool) (x y : Frames) → Pairs Apart x.blocks → Pairs Apart y.blocks → Pairs Apart (if b then x else y).blocks
either-apart true x y h k = h
either-apart false x y h k = k

rest-apart : (n : ℕ) (read_on : BlockAt → Frames) (r : Result BlockAt Why) → ((block : BlockAt) → AllByRecursion (Apart block) (read_on block).blocks) → ((block : BlockAt) → Pairs Apart (read_on block).blocks) → Pairs Apart (with_rest n read_on r).blocks
rest-apart n read_on (Ok block) h k = (h block, k block)
rest-apart n read_on (Err e) h k = tt

frames-apart : (bytes : List ℕ) (most n at : ℕ) (headed : Bool) → Pairs Apart (frames_from bytes most n at headed).blocks
unfolding frames_from
frames-apart bytes zero n at headed = tt
frames-apart bytes (suc most) n at headed =
    let read_on : BlockAt → Frames = λ block. frames_from bytes most (n + 1) (block.at + block.len) (headed || is_header block.kind) in
    either-apart (nat_le (length bytes) at) (end_at n headed) (with_rest n read_on (block_at bytes n at headed))
    (either-apart headed (record { blocks = []; fault = None }) (faulty n why.NoHeader) tt tt)
    (rest-apart n read_on (block_at bytes n at headed)
    (λ block. recursion_from_All (Apart block) (read_on block).blocks (frames-behind bytes most (n + 1) (block.at + block.len) (headed || is_header block.kind)))
    (λ block. frames-apart bytes most (n + 1) (block.at + block.len) (headed || is_header block.kind)))

before-apart : (extract : List ℕ) → Pairs Apart (frames_before extract).blocks
unfolding frames_before
before-apart extract = either-apart (nat_lt (2 ^ 40) (length extract)) (faulty 0 why.FileLong) (all_frames extract) tt (frames-apart extract (2 ^ 24 + 1) 0 0 false)

outcome-blocks : (found blocks : List BlockAt) (fault : Option Damage) → outcome found fault ≡ Ok blocks → found ≡ blocks
outcome-blocks found blocks None is = cc
outcome-blocks found blocks (Some damage) is = absurd cc

-- ---- what a load touches

and-false : (a : Bool) → (a && false) ≡ false
and-false true = refl
and-false false = refl

behind : (b : BlockAt) (load : ℕ × ℕ) → b.at + b.len ≤ load.0 → touches b load ≡ false
behind b load h = ap (λ x. x && nat_lt b.at (load.0 + load.1)) (le-ltb load.0 (b.at + b.len) h)

ahead : (b : BlockAt) (load : ℕ × ℕ) → load.0 + load.1 ≤ b.at → touches b load ≡ false
ahead b load h = ap (λ x. nat_lt load.0 (b.at + b.len) && x) (le-ltb b.at (load.0 + load.1) h) ∙ and-false (nat_lt load.0 (b.at + b.len))

own : (b : BlockAt) → 0 < b.len → touches b (whole b) ≡ true
own b some = let more : b.at < b.at + b.len = omega (arith, some) in ap (λ x. x && x) (lt-ltb b.at (b.at + b.len) more)

-- heads touch no body
missed : (b : BlockAt) (heads : List (ℕ × ℕ)) → AllByRecursion (λ load. Misses load b) heads → filter (touches b) heads ≡ []
missed b [] h = refl
missed b (load ∷ heads) h = ap (λ x. cond x (load ∷ filter (touches b) heads) (filter (touches b) heads)) (elim h.0 [ inl before ↦ ahead b load before | inr after ↦ behind b load after ]) ∙ missed b heads h.1

first-each : (b : BlockAt) (blocks : List BlockAt) (heads : List (ℕ × ℕ)) → AllByRecursion (λ load. AllByRecursion (Misses load) (b ∷ blocks)) heads → AllByRecursion (λ load. Misses load b) heads
first-each b blocks [] h = tt
first-each b blocks (load ∷ heads) h = (h.0.0, first-each b blocks heads h.1)

rest-each : (b : BlockAt) (blocks : List BlockAt) (heads : List (ℕ × ℕ)) → AllByRecursion (λ load. AllByRecursion (Misses load) (b ∷ blocks)) heads → AllByRecursion (λ load. AllByRecursion (Misses load) blocks) heads
rest-each b blocks [] h = tt
rest-each b blocks (load ∷ heads) h = (h.0.1, rest-each b blocks heads h.1)

all-missed : (blocks : List BlockAt) (heads : List (ℕ × ℕ)) → AllByRecursion (λ load. AllByRecursion (Misses load) blocks) heads → AllByRecursion (λ b. filter (touches b) heads ≡ []) blocks
all-missed [] heads h = tt
all-missed (b ∷ blocks) heads h = (missed b heads (first-each b blocks heads h), all-missed blocks heads (rest-each b blocks heads h))

-- ---- the bodies of those of some blocks that pass a test

module _ (p : BlockAt → Bool) where
  abbrev bodies : List BlockAt → List (ℕ × ℕ)
  bodies blocks = map whole (filter p blocks)

  none-touch : (b : BlockAt) (xs : List BlockAt) → AllByRecursion (Apart b) xs → filter (touches b) (bodies xs) ≡ []
  none-touch b [] h = refl
  none-touch b (x ∷ xs) h = go (p x) (none-touch b xs h.1)
    where
      go : (t : Bool) → filter (touches b) (bodies xs) ≡ [] → filter (touches b) (map whole (cond t (x ∷ filter p xs) (filter p xs))) ≡ []
      go true none = ap (λ y. cond y (whole x ∷ filter (touches b) (bodies xs)) (filter (touches b) (bodies xs))) (behind b (whole x) h.0) ∙ none
      go false none = none

  abbrev IsOnce : List BlockAt → BlockAt → Type 0
  IsOnce blocks b = filter (touches b) (bodies blocks) ≡ replicate (if p b then 1 else 0) (whole b)

  first : (x : BlockAt) (xs : List BlockAt) → (p x ≡ true → 0 < x.len) → AllByRecursion (Apart x) xs → IsOnce (x ∷ xs) x
  first x xs some apart = go (p x) refl
    where
      go : (t : Bool) → p x ≡ t → filter (touches x) (map whole (cond t (x ∷ filter p xs) (filter p xs))) ≡ replicate (if t then 1 else 0) (whole x)
      go true is = ap (λ y. cond y (whole x ∷ filter (touches x) (bodies xs)) (filter (touches x) (bodies xs))) (own x (some is)) ∙ ap (λ l. whole x ∷ l) (none-touch x xs apart)
      go false is = none-touch x xs apart

  skipped : (x b : BlockAt) (xs : List BlockAt) → Apart x b → filter (touches b) (bodies (x ∷ xs)) ≡ filter (touches b) (bodies xs)
  skipped x b xs apart = go (p x)
    where
      go : (t : Bool) → filter (touches b) (map whole (cond t (x ∷ filter p xs) (filter p xs))) ≡ filter (touches b) (bodies xs)
      go true = ap (λ y. cond y (whole x ∷ filter (touches b) (bodies xs)) (filter (touches b) (bodies xs))) (ahead b (whole x) apart)
      go false = refl

  with-first : (x : BlockAt) (xs ys : List BlockAt) → AllByRecursion (Apart x) ys → AllByRecursion (IsOnce xs) ys → AllByRecursion (IsOnce (x ∷ xs)) ys
  with-first x xs [] apart h = tt
  with-first x xs (y ∷ ys) apart h = (skipped x y xs apart.0 ∙ h.0, with-first x xs ys apart.1 h.1)

  once : (blocks : List BlockAt) → Pairs Apart blocks → AllByRecursion (λ b. p b ≡ true → 0 < b.len) blocks → AllByRecursion (IsOnce blocks) blocks
  once [] apart some = tt
  once (x ∷ xs) apart some = (first x xs some.0 apart.0, with-first x xs xs apart.0 (once xs apart.1 some.1))

-- ---- a block that is read has bytes

nothing-raw : raw_of [] ≡ Err why.NoRaw
unfolding raw_of message_at
nothing-raw = refl

empty-part : (bytes : List ℕ) (at len : ℕ) → len ≡ 0 → slice_range bytes at (at + len) ≡ []
empty-part bytes at len none = let count : at + len - at ≡ 0 = omega (arith, none) in ap (λ n. take n (drop at bytes)) count

abbrev IsBad : Result Content Damage → Type 0
IsBad r = (content : Content) → r ≡ Ok content → ⊥

bad-damage : (damage : Damage) → IsBad (Err damage)
bad-damage damage content is = absurd cc

nothing-held : (number : ℕ) (kind : BlockKind) → is_read kind ≡ true → IsBad (in_block number (content_of number kind []))
nothing-held number kinds.Header read =
    subst (λ (r : Result (List ℕ) Why). IsBad (in_block number ((r >>= header_of) >>= λ box. Ok (header box)))) (sym nothing-raw) (bad-damage (record { block = number; why = why.NoRaw }))
nothing-held number kinds.Elements read =
    subst (λ (r : Result (List ℕ) Why). IsBad (in_block number ((r >>= block_of) >>= λ block. Ok (elements number block)))) (sym nothing-raw) (bad-damage (record { block = number; why = why.NoRaw }))
nothing-held number kinds.Other read = absurd (true≢false (sym read))

has-bytes : (extract : List ℕ) (b : BlockAt) (content : Content) → content_at extract b ≡ Ok content → is_read b.kind ≡ true → 0 < b.len
has-bytes extract b content is read =
    elim (cases_eq b.len 0) [
      | inl none ↦
          absurd (nothing-held b.no b.kind read content (ap (λ body. in_block b.no (content_of b.no b.kind body)) (sym (empty-part extract b.at b.len none)) ∙ is))
      | inr some ↦ omega (arith, some)
    ]

abbrev IsFine : Result Content Damage → Type 0
IsFine r = (content : Content) × (r ≡ Ok content)

fine-first : (r : Result Content Damage) (later : Result (List Content) Damage) (contents : List Content) → with_later r later ≡ Ok contents → IsFine r × ((rest : List Content) × (later ≡ Ok rest))
fine-first (Ok c) (Ok rest) contents is = ((c, refl), (rest, refl))
fine-first (Ok c) (Err damage) contents is = absurd cc
fine-first (Err damage) later contents is = absurd cc

all-fine : (extract : List ℕ) (blocks : List BlockAt) (contents : List Content) → contents_at extract blocks ≡ Ok contents → AllByRecursion (λ b. IsFine (content_at extract b)) blocks
all-fine extract [] contents is = tt
all-fine extract (b ∷ blocks) contents is =
    let h = fine-first (content_at extract b) (contents_at extract blocks) contents is in
    (h.0, all-fine extract blocks h.1.0 h.1.1)

-- what isn't read passes no test
held-read : (test : Content → Bool) (extract : List ℕ) (b : BlockAt) → test unread ≡ false → holds test (content_at extract b) ≡ true → is_read b.kind ≡ true
held-read test extract b none is = go b.kind refl
  where
    go : (kind : BlockKind) → b.kind ≡ kind → is_read kind ≡ true
    go kinds.Header e = refl
    go kinds.Elements e = refl
    go kinds.Other e =
        let other : holds test (content_at extract b) ≡ test unread = ap (λ k. holds test (in_block b.no (content_of b.no k (body_at extract b)))) e in
        absurd (true≢false (sym is ∙ (other ∙ none)))

with-bytes : (p : BlockAt → Bool) (extract : List ℕ) (blocks : List BlockAt) → ((b : BlockAt) → p b ≡ true → is_read b.kind ≡ true) → AllByRecursion (λ b. IsFine (content_at extract b)) blocks → AllByRecursion (λ b. p b ≡ true → 0 < b.len) blocks
with-bytes p extract [] reads h = tt
with-bytes p extract (b ∷ blocks) reads h = (λ is. has-bytes extract b h.0.0 h.0.1 (reads b is), with-bytes p extract blocks reads h.1)

-- ---- all loads

sums : (read nodes ways : Bool) (load : ℕ × ℕ)
    → replicate (if read then 1 else 0) load ++ (replicate (if ways then 1 else 0) load ++ (replicate (if nodes then 1 else 0) load ++ replicate (if ways then 1 else 0) load))
    ≡ replicate ((if read then 1 else 0) + (if nodes then 1 else 0) + (if ways then 2 else 0)) load
sums true true true load = refl
sums true true false load = refl
sums true false true load = refl
sums true false false load = refl
sums false true true load = refl
sums false true false load = refl
sums false false true load = refl
sums false false false load = refl

module _ (extract : List ℕ) where
  abbrev of-nodes : BlockAt → Bool
  of-nodes b = holds has_nodes (content_at extract b)

  abbrev of-ways : BlockAt → Bool
  of-ways b = holds has_ways (content_at extract b)

  abbrev of-read : BlockAt → Bool
  of-read b = is_read b.kind

  abbrev all-loads : List (ℕ × ℕ) → List BlockAt → List (ℕ × ℕ)
  all-loads heads blocks = heads ++ (bodies of-read blocks ++ (bodies of-ways blocks ++ (bodies of-nodes blocks ++ bodies of-ways blocks)))

  together : (b : BlockAt) (heads read ways nodes : List (ℕ × ℕ)) → filter (touches b) heads ≡ [] → filter (touches b) read ≡ replicate (if of-read b then 1 else 0) (whole b) → filter (touches b) ways ≡ replicate (if of-ways b then 1 else 0) (whole b)
      → filter (touches b) nodes ≡ replicate (if of-nodes b then 1 else 0) (whole b) → filter (touches b) (heads ++ (read ++ (ways ++ (nodes ++ ways)))) ≡ replicate (loads_at extract b) (whole b)
  together b heads read ways nodes none r w n =
      filter-append (touches b) heads (read ++ (ways ++ (nodes ++ ways))) ∙ ((λ i. none i ++ more i) ∙ sums (of-read b) (of-nodes b) (of-ways b) (whole b))
    where
      last : filter (touches b) (nodes ++ ways) ≡ replicate (if of-nodes b then 1 else 0) (whole b) ++ replicate (if of-ways b then 1 else 0) (whole b)
      last = filter-append (touches b) nodes ways ∙ (λ i. n i ++ w i)

      behind-read : filter (touches b) (ways ++ (nodes ++ ways)) ≡ replicate (if of-ways b then 1 else 0) (whole b) ++ (replicate (if of-nodes b then 1 else 0) (whole b) ++ replicate (if of-ways b then 1 else 0) (whole b))
      behind-read = filter-append (touches b) ways (nodes ++ ways) ∙ (λ i. w i ++ last i)

      more : filter (touches b) (read ++ (ways ++ (nodes ++ ways)))
          ≡ replicate (if of-read b then 1 else 0) (whole b) ++ (replicate (if of-ways b then 1 else 0) (whole b) ++ (replicate (if of-nodes b then 1 else 0) (whole b) ++ replicate (if of-ways b then 1 else 0) (whole b)))
      more = filter-append (touches b) read (ways ++ (nodes ++ ways)) ∙ (λ i. r i ++ behind-read i)

  each : (heads : List (ℕ × ℕ)) (blocks xs : List BlockAt) → AllByRecursion (λ b. filter (touches b) heads ≡ []) xs → AllByRecursion (IsOnce of-read blocks) xs → AllByRecursion (IsOnce of-ways blocks) xs → AllByRecursion (IsOnce of-nodes blocks) xs
      → AllByRecursion (IsLoaded extract (all-loads heads blocks)) xs
  each heads blocks [] h r w n = tt
  each heads blocks (b ∷ xs) h r w n =
      (together b heads (bodies of-read blocks) (bodies of-ways blocks) (bodies of-nodes blocks) h.0 r.0 w.0 n.0, each heads blocks xs h.1 r.1 w.1 n.1)

  all-due : (heads : List (ℕ × ℕ)) (blocks : List BlockAt) (contents : List Content) → Pairs Apart blocks → contents_at extract blocks ≡ Ok contents → AllByRecursion (λ load. AllByRecursion (Misses load) blocks) heads
      → AllByRecursion (IsLoaded extract (all-loads heads blocks)) blocks
  all-due heads blocks contents apart is heads-miss =
      let fine = all-fine extract blocks contents is in
      each heads blocks blocks (all-missed blocks heads heads-miss)
      (once of-read blocks apart (with-bytes of-read extract blocks (λ b h. h) fine))
      (once of-ways blocks apart (with-bytes of-ways extract blocks (λ b h. held-read has_ways extract b refl h) fine))
      (once of-nodes blocks apart (with-bytes of-nodes extract blocks (λ b h. held-read has_nodes extract b refl h) fine))

-- a log that grows by some loads
record Heads (P : ℕ × ℕ → Type 0) (old new : SourceSeen) : Type 0 where
  heads : List (ℕ × ℕ)
  logged : Logs old new heads
  each : All P heads

grown-heads : (P : ℕ × ℕ → Type 0) (old new : SourceSeen) → Grows old.log new.log P → Heads P old new
grown-heads P old new h = by old.log refl h
  where
    by : (log : Option (List (ℕ × ℕ))) → old.log ≡ log → Grows log new.log P → Heads P old new
    by None is g = record { heads = []; logged = g ∙ sym (ap (option_map (λ loads. loads ++ [])) is); each = All-from_recursion P [] tt }
    by (Some loads) is g = record { heads = g.0; logged = g.1 ∙ sym (ap (option_map (λ some. some ++ g.0)) is); each = g.2 }

heads-each : (extract : List ℕ) (frames : Frames) (heads : List (ℕ × ℕ)) → AllByRecursion (IsOfHeads extract frames) heads → AllByRecursion (λ load. AllByRecursion (Misses load) frames.blocks) heads
heads-each extract frames [] h = tt
heads-each extract frames (load ∷ heads) h = (recursion_from_All (Misses load) frames.blocks h.0.0, heads-each extract frames heads h.1)

held : (parts : Parts) (extract : List ℕ) (found : Found) (r : Result (List Content) Damage) → HasFound parts extract found r → (contents : List Content) × (r ≡ Ok contents)
held parts extract found (Ok contents) h = (contents, refl)
held parts extract found (Err damage) h = absurd h

-- What a scan, a survey and the passes behind it loaded is due.
pub loads-due : (parts : Parts) (r0 r1 r2 r3 : SourceSeen) (blocks : List BlockAt) (found : Found) → IfSome r0.bytes (λ extract. frames_of extract ≡ Ok blocks) → IfSome r0.bytes (λ extract. Grows r0.log r1.log (IsOfHeads extract (frames_before extract)))
    → IfSome r0.bytes (λ extract. Surveys parts extract blocks (Ok found) (contents_at extract blocks)) → Logs r1 r2 (loads_in orders.InFile (read_of blocks)) → Logs r2 r3 (loads_behind orders.InFile found)
    → IfSome r0.bytes (λ extract. AreLoaded extract (r0 ∷ []) (r3 ∷ []))
loads-due parts r0 r1 r2 r3 blocks found frames scanned surveys surveyed gathered = by r0.bytes frames scanned surveys
  where
    by : (told : Option (List ℕ)) → IfSome told (λ extract. frames_of extract ≡ Ok blocks) → IfSome told (λ extract. Grows r0.log r1.log (IsOfHeads extract (frames_before extract)))
        → IfSome told (λ extract. Surveys parts extract blocks (Ok found) (contents_at extract blocks)) → IfSome told (λ extract. AreLoaded extract (r0 ∷ []) (r3 ∷ []))
    by None f g s = tt
    by (Some extract) f g s =
        let before = frames_before extract in
        let is : before.blocks ≡ blocks = outcome-blocks before.blocks blocks before.fault f in
        let heads = grown-heads (IsOfHeads extract before) r0 r1 g in
        let contents = held parts extract found (contents_at extract blocks) s.0 in
        let listed : AreListed extract blocks found = s.3 in
        let in-order : (bs : List BlockAt) → loads_in orders.InFile bs ≡ map whole bs = λ bs. ap (map whole) (in-file bs) in
        let behind-is : loads_behind orders.InFile found ≡ map whole (that_hold has_ways extract blocks) ++ (map whole (that_hold has_nodes extract blocks) ++ map whole (that_hold has_ways extract blocks)) =
        (λ i. in-order found.ways.items i ++ (in-order found.nodes.items i ++ in-order found.ways.items i)) ∙ (λ i. map whole (listed.ways i) ++ (map whole (listed.nodes i) ++ map whole (listed.ways i))) in
        let misses = subst (λ bs. AllByRecursion (λ load. AllByRecursion (Misses load) bs) heads.heads) is (heads-each extract before heads.heads (recursion_from_All (IsOfHeads extract before) heads.heads heads.each)) in
        let loads = all-loads extract heads.heads blocks in
        let due = all-due extract heads.heads blocks contents.0 (subst (Pairs Apart) is (before-apart extract)) contents.1 misses in
        record {
          loads = loads ∷ [];
          logged = (
            logs-on r0 r1 r3 heads.heads _ heads.logged
                (logs-on r1 r2 r3 (loads_of blocks) _ (subst (Logs r1 r2) (in-order (read_of blocks)) surveyed) (subst (Logs r2 r3) behind-is gathered)),
            tt,
          );
          each = λ others again.
              let same : others ≡ blocks = let both = sym again ∙ f in cc in
              subst (λ bs. All (IsLoaded extract (loads ++ [])) bs) (sym same)
              (subst (λ l. All (IsLoaded extract l) blocks) (sym (append-nil loads)) (All-from_recursion (IsLoaded extract loads) blocks due));
        }
