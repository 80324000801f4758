-- Blocks of ten bytes, one behind the other, and lanes over them.
use Rattle.std.proofs.Common.{◌≡◌, ◌∙◌, ⊎_elim, ℕ, ◌+◌, ◌*◌, ◌<◌, ◌≤◌, Option, None, Some, List, [], ◌∷◌, ◌++◌, length, length-append, ap, sym, subst, arith}
use Rattle.std.specs.Prelude.{IfSome}
use Rattle.std.proofs.lemmas.Bool.{cases_lt}
use Rattle.std.proofs.lemmas.List.{get_or_append_left}
use Rattle.std.proofs.Math.Seq.{get_or-append_seam}
use Rattle.tb_types.proofs.Totals.{each_push}
use Rattle.tb_types.specs.Needs.{block_need}
use Rattle.tb_outside.specs.declared.lane.Lane.{Lane}
use Rattle.tb_outside.specs.Source.{SourceSeen}
use Rattle.pbf_blobs.specs.declared.block.BlockAt.{BlockAt}
use Rattle.pbf_blobs.specs.declared.block.BlockKind.TheVariants as kinds
use Rattle.work_topology.specs.Lists.{Each}
use Rattle.work_topology.specs.Blocks.{Ascend, FitIn, block_at, number_at}
use Rattle.work_topology.specs.Objects.{Objects, objects_of}
use Rattle.work_topology.specs.Job.{Meaning}
use Rattle.work_topology.specs.Ends.{MayPass}
use Rattle.work_topology.proofs.Steps.{at_place}

-- what stands past the end of a list of blocks
abbrev past : BlockAt
past = record { no = 0; at = 0; len = 0; kind = kinds.Header }

-- one block more, with a greater number
pub ascend_push : (xs : List BlockAt) (x : BlockAt) → Ascend xs → Each (λ b. b.no < x.no) xs → Ascend (xs ++ x ∷ [])
ascend_push xs x up below j k less inside =
    let len = length-append xs (x ∷ []) in
    let all = xs ++ x ∷ [] in
    let left : number_at all j ≡ number_at xs j = ap (λ (b : BlockAt). b.no) (get_or_append_left xs (x ∷ []) past j (omega arith)) in
    ⊎_elim
    (
    λ (k_in : k < length xs).
    let a = up j k less k_in in
    let right : number_at all k ≡ number_at xs k = ap (λ (b : BlockAt). b.no) (get_or_append_left xs (x ∷ []) past k k_in) in
    omega arith
    )
    (
    λ (k_out : length xs ≤ k).
    let at_end : k ≡ length xs = omega arith in
    let a = below j (block_at xs j) (at_place xs j past (omega arith)) in
    let right : number_at all k ≡ x.no = ap (λ n. number_at all n) at_end ∙ ap (λ (b : BlockAt). b.no) (get_or-append_seam xs x [] past) in
    omega arith
    )
    (cases_lt k (length xs))

-- the first blocks of ten bytes: their numbers and places, and where the next one goes
abbrev pub AreTens : ℕ → List BlockAt → Type 0
AreTens n blocks = (length blocks ≡ n) × Ascend blocks × Each (λ block. (block.no < 2 * n) × (block.at + block.len ≤ 10 * n) × (block.len ≡ 10)) blocks

pub tens_push : (n : ℕ) (blocks : List BlockAt) (x : BlockAt) → AreTens n blocks → x.no ≡ 2 * n + 1 → x.at ≡ 10 * n → x.len ≡ 10 → AreTens (n + 1) (blocks ++ x ∷ [])
tens_push n blocks x tens number_is place_is len_is =
    let more = length-append blocks (x ∷ []) in let so_far = tens.0 in (
      omega arith,
      ascend_push blocks x tens.1 (λ k b e. let under = (tens.2 k b e).0 in omega arith),
      each_push (λ block. (block.no < 2 * (n + 1)) × (block.at + block.len ≤ 10 * (n + 1)) × (block.len ≡ 10)) blocks x (omega arith, omega arith, len_is)
          (λ k b e. let h = tens.2 k b e in let a = h.0 in let z = h.1 in (omega arith, omega arith, h.2)),
    )

-- lanes whose sources tell so many bytes
abbrev pub AreOver : {R S : Type 0} → (R → SourceSeen) → ℕ → List (Lane R S) → Type 0
AreOver source size lanes = Each (λ lane. IfSome (source lane.reader).bytes (λ bytes. length bytes ≡ size)) lanes

pub over_push : {R S : Type 0} (source : R → SourceSeen) (size n : ℕ) (lanes : List (Lane R S)) (lane : Lane R S) → (length lanes ≡ n) × AreOver source size lanes → IfSome (source lane.reader).bytes (λ bytes. length bytes ≡ size)
    → (length (lanes ++ lane ∷ []) ≡ n + 1) × AreOver source size (lanes ++ lane ∷ [])
over_push source size n lanes lane over told =
    let more = length-append lanes (lane ∷ []) in let so_far = over.0 in
    (omega arith, each_push (λ lane. IfSome (source lane.reader).bytes (λ bytes. length bytes ≡ size)) lanes lane told over.1)

fits : (told : Option (List ℕ)) (n : ℕ) (blocks : List BlockAt) → IfSome told (λ bytes. length bytes ≡ 10 * n) → AreTens n blocks → FitIn blocks told
fits None n blocks is tens = tt
fits (Some bytes) n blocks is tens = λ k block e. let a = (tens.2 k block e).1 in omega arith

-- the conditions of a pass
pub may_tens : {Seed Out R S : Type 0} (m : Meaning Seed Out S) (source : R → SourceSeen) (blocks : List BlockAt) (lanes : List (Lane R S)) (seeds : List Seed) (n queue count budget : ℕ)
    → (0 < n) × (n ≤ 64) × (0 < queue) × (queue ≤ 1024) × (count ≤ 100) × (65696 ≤ budget)
    → AreTens count blocks → (length lanes ≡ n) × AreOver source (10 * count) lanes → length seeds ≡ n
    → ((k : ℕ) (seed : Seed) (out : Out) (objects : Objects S) → m.starts k seed out → m.fits k out objects) → MayPass m source blocks lanes seeds queue budget
may_tens m source blocks lanes seeds n queue count budget may tens over seeded starts_fit =
    let a = may.0 in let b = may.1 in let c = may.4 in let d = may.5 in let e = tens.0 in let f = over.0 in
    record {
      some_lane = omega arith;
      few_lanes = omega arith;
      seeded = omega arith;
      few_blocks = omega arith;
      ascend = tens.1;
      some_room = may.2;
      few_places = may.3;
      affordable = λ k block at. subst (λ len. block_need len ≤ budget) (sym (tens.2 k block at).2) d;
      inside = λ k lane at. fits (source lane.reader).bytes count blocks (over.1 k lane at) tens;
      ready = λ k lane seed out at at' starts. starts_fit k seed out (objects_of lane) starts;
    }
