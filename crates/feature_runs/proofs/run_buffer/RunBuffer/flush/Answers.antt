use Rattle.std.proofs.Common.{◌≡◌, ℕ, List, [], ◌∷◌, ◌++◌, length, get_or, All, refl, sym, ap, subst, ◌∙◌, inr, ◌<◌, ◌≤◌, ◌⊎◌, rules}
use Rattle.std.proofs.lemmas.List.{length-map}
use Rattle.std.proofs.lemmas.List.Sorted.{All-permutation, IsPermutation-map}
use Rattle.std.specs.List.Sorted.{IsPermutation}
use Rattle.tb_outside.specs.declared.spill.RunAt.{RunAt}
use Rattle.feature_runs.specs.declared.slot.Slot.{Slot}
use Rattle.feature_runs.specs.Entry.{Entry, Buffered}
use Rattle.feature_runs.specs.Index.{IsWithin, slot_entry, entries_in}
use Rattle.tb_outside.specs.Spill.{SpillSeen}
use Rattle.feature_runs.specs.Entry.{IsInOrder, bytes_of}
use Rattle.feature_runs.specs.Writing.{IsSameBuffer, IsWritten, Writes}
use Rattle.feature_runs.proofs.AddedSteps.{flushes_keep}
use Rattle.feature_runs.proofs.SinceSteps as since
use Rattle.feature_runs.proofs.Order.{in_order}
use Rattle.feature_runs.proofs.Limit.{still_limited, run_limited}
use Rattle.feature_runs.proofs.Held.{made}
use Rattle.feature_runs.proofs.run_buffer.RunBuffer.flush.Goals as goal

-- each item of the index lies within the bytes, also after the sort
sorted_within : (arena : List ℕ) (before after : List Slot) → IsPermutation before after → All (IsWithin arena) before → All (IsWithin arena) after
sorted_within arena before after same within = All-permutation (IsWithin arena) before after same within

-- what is held stays, in another order
same_buffer : (old : Buffered) (limit : ℕ) (runs after_runs : List RunAt) (arena : List ℕ) (before after : List Slot) → made limit runs (entries_in arena before) ≡ old → after_runs ≡ runs → IsPermutation before after
    → IsSameBuffer old (made limit after_runs (entries_in arena after))
same_buffer old limit runs after_runs arena before after is same_runs same = subst (λ (b : Buffered). IsSameBuffer b (made limit after_runs (entries_in arena after))) is (record {
  limit = refl;
  runs = same_runs;
  entries = IsPermutation-map (slot_entry arena) before after same;
})

pub invariant_of-self : goal.invariant_of-self
invariant_of-self g c = (
  sorted_within c.self.inside.arena.items c.self.inside.index.items c.sort_unstable.new.self.items c.sort_unstable.ensures.permutation c.self.invariant.0,
  still_limited c.self.inside.arena.items c.self.inside.limit c.self.inside.index.items c.sort_unstable.new.self.items c.sort_unstable.ensures.permutation c.self.invariant.1,
)

pub invariant_of-self-in-Err-write_run : goal.invariant_of-self-in-Err-write_run
invariant_of-self-in-Err-write_run g c = (
  sorted_within c.self.inside.arena.items c.self.inside.index.items c.sort_unstable.new.self.items c.sort_unstable.ensures.permutation c.self.invariant.0,
  still_limited c.self.inside.arena.items c.self.inside.limit c.self.inside.index.items c.sort_unstable.new.self.items c.sort_unstable.ensures.permutation c.self.invariant.1,
)

pub write_run-requires-clause-all : goal.write_run-requires-clause-all
write_run-requires-clause-all g c =
    let all = (still_limited c.self.inside.arena.items c.self.inside.limit c.self.inside.index.items c.sort_unstable.new.self.items c.sort_unstable.ensures.permutation c.self.invariant.1).0 in
    rw (c.deref.ensures.value, c.deref-2.ensures.value) all

pub write_run-requires-clause-within : goal.write_run-requires-clause-within
write_run-requires-clause-within g c =
    let within = sorted_within c.self.inside.arena.items c.self.inside.index.items c.sort_unstable.new.self.items c.sort_unstable.ensures.permutation c.self.invariant.0 in
    rw (c.deref.ensures.value, c.deref-2.ensures.value) within

pub returns-in-Err-clause-memory : goal.returns-in-Err-clause-memory
returns-in-Err-clause-memory g c = λ _. same_buffer c.args.self.now c.self.inside.limit c.self.inside.runs.items c.reserve.new.self.items c.self.inside.arena.items c.self.inside.index.items c.sort_unstable.new.self.items c.self.view_is (search rules) c.sort_unstable.ensures.permutation

pub returns-in-Err-write_run-clause-memory : goal.returns-in-Err-write_run-clause-memory
returns-in-Err-write_run-clause-memory g c = λ _. same_buffer c.args.self.now c.self.inside.limit c.self.inside.runs.items c.reserve.new.self.items c.self.inside.arena.items c.self.inside.index.items c.sort_unstable.new.self.items c.self.view_is (search rules) c.sort_unstable.ensures.permutation

-- what was written, over the bytes and the index that were handed on
handed : (old new : SpillSeen) (arena a : List ℕ) (index i : List Slot) (run : RunAt) → a ≡ arena → i ≡ index → Writes old.runs new.runs (bytes_of (entries_in a i)) run → Writes old.runs new.runs (bytes_of (entries_in arena index)) run
handed old new arena a index i run ea ei w = subst (λ (x : List ℕ). Writes old.runs new.runs (bytes_of (entries_in x index)) run) ea (subst (λ (x : List Slot). Writes old.runs new.runs (bytes_of (entries_in a x)) run) ei w)

-- a buffer whose index was written
written_buffer : (seen_old seen_new : SpillSeen) (old : Buffered) (limit : ℕ) (runs : List RunAt) (run : RunAt) (arena : List ℕ) (before after : List Slot) → made limit runs (entries_in arena before) ≡ old → 0 < length before → IsInOrder (entries_in arena before) (entries_in arena after)
    → (length (bytes_of (entries_in arena after)) ≤ limit) ⊎ (length (entries_in arena after) ≤ 1) → Writes seen_old.runs seen_new.runs (bytes_of (entries_in arena after)) run → IsWritten seen_old seen_new old (made limit (runs ++ run ∷ []) [])
written_buffer seen_old seen_new old limit runs run arena before after is some order limited writes = subst (λ (b : Buffered). IsWritten seen_old seen_new b (made limit (runs ++ run ∷ []) [])) is (record {
  some = rw (length-map before (slot_entry arena)) some;
  sorted = entries_in arena after;
  run = run;
  order = order;
  writes = writes;
  limit = limited;
  buffer = refl;
})

pub returns-clause-flushed : goal.returns-clause-flushed
returns-clause-flushed g c =
    let seen = g.S.Spill.seen in
    let arena = c.self.inside.arena.items in
    let before = c.self.inside.index.items in
    let after = c.sort_unstable.new.self.items in
    let run = c.in-Ok-write_run.run' in
    let within = sorted_within arena before after c.sort_unstable.ensures.permutation c.self.invariant.0 in
    let some : 0 < length before = search rules in
    let order = in_order arena before after c.sort_unstable.ensures.permutation c.sort_unstable.ensures.sorted within in
    let writes = handed (seen c.args.spill.now) (seen c.write_run.new.spill) arena c.deref.result.now after c.deref-2.result.now run (search rules) (search rules) (c.in-Ok-write_run.ensures {u = tt}).written in
    let written = written_buffer (seen c.args.spill.now) (seen c.write_run.new.spill) c.args.self.now c.self.inside.limit c.self.inside.runs.items run arena before after c.self.view_is some order (run_limited arena c.self.inside.limit after within (still_limited arena c.self.inside.limit before after c.sort_unstable.ensures.permutation c.self.invariant.1).1) writes in
    let runs : c.push_reserved.new.self.items ≡ c.self.inside.runs.items ++ run ∷ [] = search rules in
    let nothing : c.clear.new.self.items ≡ [] = c.clear.ensures.items in
    let empty : entries_in c.clear-2.new.self.items c.clear.new.self.items ≡ [] = ap (entries_in c.clear-2.new.self.items) nothing in
    inr (rw (runs, empty) written)

pub returns-clause-told : goal.returns-clause-told
returns-clause-told g c = flushes_keep (returns-clause-flushed g c)

pub returns-clause-since : goal.returns-clause-since
returns-clause-since g c = since.flushes_keep (returns-clause-flushed g c)
