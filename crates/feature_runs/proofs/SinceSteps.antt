-- What a buffer wrote since it was made: an entry is held, and what is held is written.
use Rattle.std.proofs.Common.{◌≡◌, ℕ, ◌+◌, Some, List, [], ◌∷◌, ◌++◌, length, map, refl, sym, ap, subst, ◌∙◌, append_assoc, arith, inl, inr}
use Rattle.std.specs.Option.{option_map}
use Rattle.std.specs.List.Sorted.{IsPermutation}
use Rattle.std.proofs.lemmas.List.{length-append, append-nil, map-append}
use Rattle.std.proofs.lemmas.List.Elements.{All-nil, All-cons, All-append}
use Rattle.std.proofs.lemmas.List.Sorted.{IsPermutation-refl, IsPermutation-trans, IsPermutation-append_left, IsPermutation-append_right, length_permutation}
use Rattle.tb_outside.specs.declared.spill.RunAt.{RunAt}
use Rattle.tb_outside.specs.Spill.{Runs, SpillSeen, closed}
use Rattle.feature_runs.specs.Entry.{Entry, Buffered, bytes_of}
use Rattle.feature_runs.specs.Writing.{Holds, IsWritten, Flushes, Adds, with_run}
use Rattle.feature_runs.specs.Added.{joined}
use Rattle.feature_runs.specs.Since.{with_runs, listed_at, IsRun, IsSince, KeepsSince}
use Rattle.feature_runs.proofs.AddedSteps.{joined-more}

-- one run more behind the others
with_runs-more : (texts : List (List ℕ)) (bytes : List ℕ) (runs : Runs) → with_runs (texts ++ bytes ∷ []) runs ≡ with_run bytes (with_runs texts runs)
with_runs-more [] bytes runs = refl
with_runs-more (text ∷ texts) bytes runs = with_runs-more texts bytes (with_run text runs)

-- the number of the next run
next_number : (texts : List (List ℕ)) (runs : Runs) → length (closed (with_runs texts runs)) ≡ length (closed runs) + length texts
next_number [] runs = omega arith
next_number (text ∷ texts) runs =
    let later = next_number texts (with_run text runs) in
    let one : length (closed (with_run text runs)) ≡ length (closed runs) + 1 = ap length (append-nil (closed runs ++ text ∷ [])) ∙ length-append (closed runs) (text ∷ []) in
    omega (arith, later, one)

run_is : (run : RunAt) (number len : ℕ) → run.run ≡ number → run.len ≡ len → run ≡ record { run = number; len = len }
run_is run number len is size = ap (λ (n : ℕ). record { run = n; len = run.len }) is ∙ ap (λ (n : ℕ). record { run = number; len = n }) size

listed-more : (number : ℕ) (texts : List (List ℕ)) (bytes : List ℕ) (run : RunAt) → run.run ≡ number + length texts → run.len ≡ length bytes → listed_at number (texts ++ bytes ∷ []) ≡ listed_at number texts ++ run ∷ []
listed-more number [] bytes run is size = ap (λ (r : RunAt). r ∷ []) (sym (run_is run number (length bytes) (omega (arith, is)) size))
listed-more number (text ∷ texts) bytes run is size = ap (λ (rs : List RunAt). record { run = number; len = length text } ∷ rs) (listed-more (number + 1) texts bytes run (omega (arith, is)) size)

pub nothing_since : (limit : ℕ) (start : Runs) (seen : SpillSeen) → seen.runs ≡ Some start → IsSince start seen (record { limit = limit; runs = []; entries = [] }) []
nothing_since limit start seen told = record { lists = []; told = told; listed = refl; each = All-nil _; same = IsPermutation-refl [] }

-- the spill is as it was
seen_same : (start : Runs) (old new : SpillSeen) (b : Buffered) (added : List Entry) → new ≡ old → IsSince start old b added → IsSince start new b added
seen_same start old new b added same since = subst (λ (s : SpillSeen). IsSince start s b added) (sym same) since

-- one entry more is held
one_held : (start : Runs) (seen : SpillSeen) (before after : Buffered) (added : List Entry) (entry : Entry) → Holds before after entry → IsSince start seen before added → IsSince start seen after (added ++ entry ∷ [])
one_held start seen before after added entry holds since = subst (λ (b : Buffered). IsSince start seen b (added ++ entry ∷ [])) (sym holds) (record {
  lists = since.lists;
  told = since.told;
  listed = since.listed;
  each = since.each;
  same = subst (IsPermutation (added ++ entry ∷ [])) (append_assoc (joined since.lists) before.entries (entry ∷ [])) (IsPermutation-append_left (entry ∷ []) added (joined since.lists ++ before.entries) since.same);
})

-- what is held is written as one more run
written_more : (start : Runs) (old new : SpillSeen) (before after : Buffered) (added : List Entry) → IsWritten old new before after → IsSince start old before added → IsSince start new after added
written_more start old new before after added w since =
    let bytes = bytes_of w.sorted in
    let texts = map bytes_of since.lists in
    let now = with_runs texts start in
    let all : map bytes_of (since.lists ++ w.sorted ∷ []) ≡ texts ++ bytes ∷ [] = map-append bytes_of since.lists (w.sorted ∷ []) in
    let count = length_permutation before.entries w.sorted w.order.same in
    let one : IsRun before.limit w.sorted = record { some = omega (arith, count, w.some); sorted = w.order.sorted; short = w.limit } in
    let at : w.run.run ≡ length (closed now) = rw since.told at w.writes.number in
    let number : w.run.run ≡ length (closed start) + length texts = at ∙ next_number texts start in
    let listed : before.runs ++ w.run ∷ [] ≡ listed_at (length (closed start)) (texts ++ bytes ∷ []) =
    ap (λ (rs : List RunAt). rs ++ w.run ∷ []) since.listed ∙ sym (listed-more (length (closed start)) texts bytes w.run number w.writes.len) in
    let told : new.runs ≡ Some (with_runs (texts ++ bytes ∷ []) start) =
    w.writes.runs ∙ ap (option_map (with_run bytes)) since.told ∙ ap (λ (r : Runs). Some r) (sym (with_runs-more texts bytes start)) in
    let same : IsPermutation added (joined since.lists ++ w.sorted) =
    IsPermutation-trans added (joined since.lists ++ before.entries) (joined since.lists ++ w.sorted) since.same (IsPermutation-append_right (joined since.lists) before.entries w.sorted w.order.same) in
    let whole : joined (since.lists ++ w.sorted ∷ []) ++ [] ≡ joined since.lists ++ w.sorted = append-nil (joined (since.lists ++ w.sorted ∷ [])) ∙ joined-more since.lists w.sorted in
    let made : Buffered = record { limit = before.limit; runs = before.runs ++ w.run ∷ []; entries = [] } in
    let is : IsSince start new made added = record {
      lists = since.lists ++ w.sorted ∷ [];
      told = told ∙ ap (λ (ts : List (List ℕ)). Some (with_runs ts start)) (sym all);
      listed = listed ∙ ap (listed_at (length (closed start))) (sym all);
      each = All-append (IsRun before.limit) since.lists (w.sorted ∷ []) since.each (All-cons (IsRun before.limit) w.sorted [] one (All-nil (IsRun before.limit)));
      same = subst (IsPermutation added) (sym whole) same;
    } in
    subst (λ (b : Buffered). IsSince start new b added) (sym w.buffer) is

pub flushes_keep : {old new : SpillSeen} {before after : Buffered} → Flushes old new before after → KeepsSince old new before after []
flushes_keep {old} {new} {before} {after} f = λ start added since.
    let none : added ++ [] ≡ added = append-nil added in
    elim f [
      | inl (empty, seen, same) ↦ subst (λ (b : Buffered). IsSince start new b (added ++ [])) (sym same) (subst (IsSince start new before) (sym none) (seen_same start old new before added seen since))
      | inr w ↦ subst (IsSince start new after) (sym none) (written_more start old new before after added w since)
    ]

pub adds_keep : {old new : SpillSeen} {before after : Buffered} {entry : Entry} → Adds old new before after entry → KeepsSince old new before after (entry ∷ [])
adds_keep {old} {new} {before} {after} {entry} a = λ start added since.
    elim a [
      | inl (seen, holds) ↦ one_held start new before after added entry holds (seen_same start old new before added seen since)
      | inr (middle, full, w, holds) ↦ one_held start new middle after added entry holds (written_more start old new before middle added w since)
    ]
