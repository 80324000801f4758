-- A pass over blocks, by what its steps did.
use Rattle.std.proofs.Common.{◌≡◌, ℕ, ◌<◌, ◌≤◌, Option, Some, Result, Ok, Err, List, [], All, Contains, inl, inr, length, slice_get, get_or, refl, sym, ap, subst, ◌∙◌}
use Rattle.std.specs.Prelude.{⊤}
use Rattle.std.proofs.lemmas.List.{length-map}
use Rattle.std.proofs.lemmas.List.Elements.{All-get_or, Contains-get_or}
use Rattle.std.proofs.lemmas.Option.{slice_get_within, slice_get-get_or, get_or_from_slice_get}
use Rattle.std.proofs.lemmas.List.Sorted.{All-permutation, IsPermutation-sym}
use Rattle.std.specs.List.Sorted.{IsPermutation}
use Rattle.sorted_lists.proofs.Proved as lists
use Rattle.tb_types.specs.Bags.{below, IsEachOnce}
use Rattle.tb_types.specs.Counts.{Rose}
use Rattle.tb_types.specs.Needs.{block_need}
use Rattle.tb_outside.specs.Source.{SourceSeen}
use Rattle.pbf_blobs.specs.declared.block.BlockAt.{BlockAt}
use Rattle.pbf_blobs.specs.declared.block.BlockKind.TheVariants as kinds
use Rattle.pass_order.specs.declared.error.OrderErr.{OrderErr}
use Rattle.pass_order.specs.declared.error.OrderErr.TheVariants as order_errors
use Rattle.pass_order.specs.declared.order.Order.{Order}
use Rattle.pass_order.specs.declared.step.Step.{Step}
use Rattle.pass_order.specs.declared.step.Step.TheVariants.{Load, Put, Emit}
use Rattle.pass_order.specs.Driven.{DidAll, DidSome, Drives, Fails}
use Rattle.pass_order.specs.Orders.{MayPass, pass_steps}
use Rattle.pass_order.specs.Whole.{IsWhole, loaded, stored, emitted}
use Rattle.pass_order.proofs.WholePasses.{order-whole}
use Rattle.block_pass.specs.declared.error.PassErr.{PassErr}
use Rattle.block_pass.specs.declared.error.PassErr.TheVariants as errors
use Rattle.block_pass.specs.declared.steps.BlockSteps.{BlockSteps}
use Rattle.block_pass.specs.Meaning.{Meaning, PutAnswers, EmitAnswers, Begins, StopsAfter}
use Rattle.block_pass.specs.Loading.{IsRefused, FitsIn}
use Rattle.block_pass.specs.Orders.{needs_of}
use Rattle.block_pass.specs.Steps.{IsSame, Loads, Works, IsReady, steps_meaning}
use Rattle.block_pass.specs.Passes.{Passed, SomeDid, PassTold, PassAnswers}
use Rattle.block_pass.proofs.Chains.{both-at, read-at, IsUnit, IsOver, Chain, chain, same-on}
use Rattle.block_pass.proofs.Places.{read-all, all-given}

-- the answer of a pass, by that of the steps
abbrev pub answer_of : {F : Type 0} → Result ⊤ (OrderErr (PassErr F)) → Result ⊤ (PassErr F)
answer_of (Ok _) = Ok tt
answer_of (Err (order_errors.Failed fault)) = Err fault
answer_of (Err order_errors.Memory) = Err errors.Memory

module _ {R W B F : Type 0} (seen : R → SourceSeen) (m : Meaning W B F) (begins : Begins m) (after : StopsAfter m) (order : Order) (blocks : List BlockAt) (may : MayPass order (needs_of blocks)) where
  many : length (needs_of blocks) ≡ length blocks
  many = length-map blocks (λ (b : BlockAt). block_need b.len)

  abbrev steps : List Step
  steps = pass_steps order (needs_of blocks)

  steps-whole : IsWhole (length blocks) steps
  steps-whole = subst (λ n. IsWhole n steps) many (order-whole order (needs_of blocks) may)

  module _ (old new : BlockSteps R W) (are : old.blocks.now ≡ blocks) where
    abbrev told : Option (List ℕ)
    told = (seen old.reader.now).bytes

    over : IsOver seen m blocks told old
    over = record { blocks_are = are; bytes = refl }

    -- all steps were done
    module _ (d : DidAll (steps_meaning seen m) (length blocks) steps old new) where
      abbrev bodies : ℕ → Option B
      bodies = slice_get d.bodies

      c : Chain seen m blocks told bodies steps old new
      c = chain seen m blocks told bodies steps old new over d.did

      -- each place, in the order in which blocks are put or emitted
      shuffled : (units : List ℕ) → IsEachOnce (length blocks) units → IsPermutation (read-at blocks bodies (below (length blocks))) (read-at blocks bodies units)
      shuffled units once =
          (lists.bags ℕ ℕ (BlockAt × B)).each (λ u. both-at (slice_get blocks u) (bodies u)) (below (length blocks)) units (IsPermutation-sym _ _ (lists.numbers.each_once (length blocks) units once))

      all-passed : Passed m order blocks (seen old.reader.now) (seen new.reader.now) old.work.now new.work.now
      all-passed = record {
        faults = c.faults;
        logs = c.logs;
        read = read-at blocks bodies (below (length blocks));
        are = read-all blocks d.bodies d.many;
        given = all-given m blocks told bodies (below (length blocks)) (All-permutation (IsUnit m blocks told bodies) (loaded steps) (below (length blocks)) (lists.numbers.each_once (length blocks) (loaded steps) steps-whole.loads) c.given);
        puts = read-at blocks bodies (stored steps);
        all_put = shuffled (stored steps) steps-whole.puts;
        emits = read-at blocks bodies (emitted steps);
        all_emitted = shuffled (emitted steps) steps-whole.emits;
        did = c.did old.work.now [] [] (begins old.work.now);
      }

    -- some were, and then one failed
    module _ (mid : BlockSteps R W) (puts emits : List (BlockAt × B)) (did : m.did puts emits old.work.now mid.work.now) (is_over : IsOver seen m blocks told mid) (faults : (seen mid.reader.now).faults ≡ (seen old.reader.now).faults) where
      some : mid.work.now ≡ new.work.now → SomeDid m old.work.now new.work.now
      some e = (puts, emits, subst (λ (w : W). m.did puts emits old.work.now w) e did)

      load-told : (fault : PassErr F) (unit : ℕ) → Loads seen m mid unit (Err fault) new → PassTold m order blocks (seen old.reader.now) (seen new.reader.now) old.work.now new.work.now (Err fault)
      load-told errors.Source unit h =
          let by = λ (n : ℕ). Rose n (seen new.reader.now).faults × (n ≤ (seen new.reader.now).faults) in
          let rose = subst by faults h.answers.told in
          (rose.0, rose.1, some (sym h.work))
      load-told (errors.Work fault) unit h =
          let is : slice_get blocks unit ≡ Some h.block = subst (λ (bs : List BlockAt). slice_get bs unit ≡ Some h.block) is_over.blocks_are h.is in
          let within = slice_get_within blocks unit h.block is in
          let there : Contains blocks h.block = subst (Contains blocks) (get_or_from_slice_get blocks unit h.block h.block is) (Contains-get_or blocks unit h.block within) in
          (h.answers.told.0 ∙ faults, inl ((h.block, there, subst (λ (o : Option (List ℕ)). IsRefused m o fault h.block) is_over.bytes h.answers.told.1), some (sym h.work)))
      load-told errors.Memory unit h = (h.answers.told ∙ faults, some (sym h.work))

      load-failed : (fault : PassErr F) (unit : ℕ) → Loads seen m mid unit (Err fault) new → PassAnswers m order blocks (seen old.reader.now) (seen new.reader.now) old.work.now new.work.now (Err fault)
      load-failed fault unit h = record { bytes = h.answers.bytes ∙ is_over.bytes; told = load-told fault unit h }

      module _ (answers : BlockAt → Result ⊤ F → Type 0) (stop : (block : BlockAt) (fault : F) → answers block (Err fault) → m.stops fault mid.work.now new.work.now) where
        work-told : (fault : PassErr F) (unit : ℕ) → Works seen m answers mid unit (Err fault) new → PassTold m order blocks (seen old.reader.now) (seen new.reader.now) old.work.now new.work.now (Err fault)
        work-told errors.Source unit h = absurd h.answers_are
        work-told (errors.Work fault) unit h = (ap (λ (r : R). (seen r).faults) h.reader ∙ faults, inr (after old.work.now mid.work.now new.work.now puts emits fault did (stop h.block fault h.answers_are)))
        work-told errors.Memory unit h = absurd h.answers_are

        work-failed : (fault : PassErr F) (unit : ℕ) → Works seen m answers mid unit (Err fault) new → PassAnswers m order blocks (seen old.reader.now) (seen new.reader.now) old.work.now new.work.now (Err fault)
        work-failed fault unit h = record { bytes = ap (λ (r : R). (seen r).bytes) h.reader ∙ is_over.bytes; told = work-told fault unit h }

      failed : (bodies : ℕ → Option B) (step : Step) (fault : PassErr F) → Fails (steps_meaning seen m) bodies step fault mid new → PassAnswers m order blocks (seen old.reader.now) (seen new.reader.now) old.work.now new.work.now (Err fault)
      failed bodies (Load unit) fault h = load-failed fault unit h
      failed bodies (Put unit) fault h = work-failed (λ block. PutAnswers m (block, h.0) mid.work.now new.work.now) (λ block f e. e) fault unit h.2
      failed bodies (Emit unit) fault h = work-failed (λ block. EmitAnswers m (block, h.0) mid.work.now new.work.now) (λ block f e. e) fault unit h.2

    some-failed : (bodies : ℕ → Option B) (fault : PassErr F) → DidSome (steps_meaning seen m) bodies steps fault old new → PassAnswers m order blocks (seen old.reader.now) (seen new.reader.now) old.work.now new.work.now (Err fault)
    some-failed bodies fault d =
        let before = chain seen m blocks told bodies d.done old d.mid over d.did in
        failed d.mid (read-at blocks bodies (stored d.done)) (read-at blocks bodies (emitted d.done)) (before.did old.work.now [] [] (begins old.work.now)) before.over before.faults bodies d.failed fault d.fails

    starved : new ≡ old → PassAnswers m order blocks (seen old.reader.now) (seen new.reader.now) old.work.now new.work.now (Err errors.Memory)
    starved e = record {
      bytes = ap (λ (s : BlockSteps R W). (seen s.reader.now).bytes) e;
      told = (ap (λ (s : BlockSteps R W). (seen s.reader.now).faults) e, ([], [], subst (λ (w : W). m.did [] [] old.work.now w) (sym (ap (λ (s : BlockSteps R W). s.work.now) e)) (begins old.work.now)));
    }

    -- the steps stay those over the same reader and worker
    same-failed : (mid : BlockSteps R W) → IsSame seen m old mid → (bodies : ℕ → Option B) (step : Step) (fault : PassErr F) → Fails (steps_meaning seen m) bodies step fault mid new → IsSame seen m old new
    same-failed mid same bodies (Load unit) fault h = same-on seen m blocks told old mid new same h.same
    same-failed mid same bodies (Put unit) fault h = same-on seen m blocks told old mid new same h.2.same
    same-failed mid same bodies (Emit unit) fault h = same-on seen m blocks told old mid new same h.2.same

    pub still-same : (result : Result ⊤ (OrderErr (PassErr F))) → Drives (steps_meaning seen m) (length (needs_of blocks)) steps old new result → IsSame seen m old new
    still-same (Ok _) d = (chain seen m blocks told (slice_get d.bodies) steps old new over d.did).same
    still-same (Err (order_errors.Failed fault)) d = same-failed d.1.mid (chain seen m blocks told d.0 d.1.done old d.1.mid over d.1.did).same d.0 d.1.failed fault d.1.fails
    still-same (Err order_errors.Memory) d = record { reader = ap (λ (s : BlockSteps R W). s.reader.ghost_name) d; work = ap (λ (s : BlockSteps R W). s.work.ghost_name) d; blocks = ap (λ (s : BlockSteps R W). s.blocks.now) d }

    pub answered : (result : Result ⊤ (OrderErr (PassErr F))) → Drives (steps_meaning seen m) (length (needs_of blocks)) steps old new result
        → PassAnswers m order blocks (seen old.reader.now) (seen new.reader.now) old.work.now new.work.now (answer_of result)
    answered (Ok _) d =
        let all : DidAll (steps_meaning seen m) (length blocks) steps old new = subst (λ n. DidAll (steps_meaning seen m) n steps old new) many d in
        record { bytes = (chain seen m blocks told (slice_get all.bodies) steps old new over all.did).over.bytes; told = all-passed all }
    answered (Err (order_errors.Failed fault)) d = some-failed d.0 fault d.1
    answered (Err order_errors.Memory) d = starved d

-- The reader and the worker, as they stand behind the steps.
pub finished : {R W B F : Type 0} (seen : R → SourceSeen) (m : Meaning W B F) → Begins m → StopsAfter m → (order : Order) (blocks : List BlockAt) → MayPass order (needs_of blocks) → (needs : List ℕ) → needs ≡ needs_of blocks
    → (old new : BlockSteps R W) → old.blocks.now ≡ blocks → (result : Result ⊤ (OrderErr (PassErr F))) → Drives (steps_meaning seen m) (length needs) (pass_steps order needs) old new result
    → (r r' : R) → (old.reader.ghost_name ≡ new.reader.ghost_name → r ≡ r') → r' ≡ new.reader.now
    → (w w' : W) → (old.work.ghost_name ≡ new.work.ghost_name → w ≡ w') → w' ≡ new.work.now
    → PassAnswers m order blocks (seen old.reader.now) (seen r) old.work.now w (answer_of result)
finished {R} {W} {B} {F} seen m begins after order blocks may needs is old new are result d r r' reader reader-is w w' work work-is =
    let drives : Drives (steps_meaning seen m) (length (needs_of blocks)) (pass_steps order (needs_of blocks)) old new result = subst (λ (ns : List ℕ). Drives (steps_meaning seen m) (length ns) (pass_steps order ns) old new result) is d in
    let same = still-same seen m begins after order blocks may old new are result drives in
    let read : r ≡ new.reader.now = reader (sym same.reader) ∙ reader-is in
    let worked : w ≡ new.work.now = work (sym same.work) ∙ work-is in
    subst (λ (x : R). PassAnswers m order blocks (seen old.reader.now) (seen x) old.work.now w (answer_of result)) (sym read)
    (subst (λ (x : W). PassAnswers m order blocks (seen old.reader.now) (seen new.reader.now) old.work.now x (answer_of result)) (sym worked) (answered seen m begins after order blocks may old new are result drives))

-- nothing was done, since memory wants
pub none-done : {W B F : Type 0} (m : Meaning W B F) → Begins m → (order : Order) (blocks : List BlockAt) (r : SourceSeen) (w : W) → PassAnswers m order blocks r r w w (Err errors.Memory)
none-done m begins order blocks r w = record { bytes = refl; told = (refl, ([], [], begins w)) }

-- each unit is a block that lies within the extract
pub all-ready : {R W B F : Type 0} (seen : R → SourceSeen) (m : Meaning W B F) (blocks : List BlockAt) (s : BlockSteps R W) → s.blocks.now ≡ blocks → All (FitsIn (seen s.reader.now).bytes) blocks
    → (unit : ℕ) → unit < length (needs_of blocks) → IsReady seen m s unit
all-ready seen m blocks s are within unit less =
    let least : BlockAt = record { no = 0; kind = kinds.Other; at = 0; len = 0 } in
    let inside : unit < length blocks = subst (λ n. unit < n) (length-map blocks (λ (b : BlockAt). block_need b.len)) less in
    record {
      block = get_or blocks unit least;
      is = subst (λ (bs : List BlockAt). slice_get bs unit ≡ Some (get_or blocks unit least)) (sym are) (slice_get-get_or blocks unit least inside);
      fits = All-get_or (FitsIn (seen s.reader.now).bytes) blocks unit least inside within;
    }
