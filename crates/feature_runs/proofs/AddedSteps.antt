-- What was added stays added: an entry is held, what is held is written, and more runs are ended.
use Rattle.std.specs.Prelude.{option_to_list}
use Rattle.std.proofs.Common.{◌≡◌, ℕ, ◌+◌, ◌<◌, ◌≤◌, ◌⊎◌, Option, Some, List, [], ◌∷◌, ◌++◌, length, flat_map, refl, sym, ap, subst, ◌∙◌, append_assoc, arith, inl, inr}
use Rattle.std.specs.Option.{option_map}
use Rattle.std.specs.List.Sorted.{IsPermutation}
use Rattle.std.proofs.lemmas.List.{length-append, append-nil, get_or_append_left}
use Rattle.std.proofs.lemmas.List.Concat.{flat_map-append}
use Rattle.std.proofs.lemmas.List.Sorted.{IsPermutation-refl, IsPermutation-trans, IsPermutation-append_left, IsPermutation-append_right}
use Rattle.std.proofs.Math.Seq.{get_or-append_seam}
use Rattle.tb_outside.specs.declared.spill.RunAt.{RunAt}
use Rattle.tb_outside.specs.Spill.{Runs, SpillSeen, closed}
use Rattle.feature_runs.specs.Entry.{Entry, Buffered, bytes_of}
use Rattle.feature_runs.specs.Writing.{Holds, IsWritten, Flushes, Adds, with_run}
use Rattle.feature_runs.specs.Added.{IsListed, AreListed, joined, WereAdded, AreThere, KeepsAdded, RunsBehindChangeNothing}

-- more ended runs change nothing
listed_still : (limit : ℕ) (ended more : List (List ℕ)) (run : RunAt) (entries : List Entry) → IsListed limit ended run entries → IsListed limit (ended ++ more) run entries
listed_still limit ended more run entries is = record {
  stands = omega (arith, is.stands, length-append ended more);
  bytes = get_or_append_left ended more [] run.run is.stands ∙ is.bytes;
  len = is.len;
  sorted = is.sorted;
  short = is.short;
}

all_still : (limit : ℕ) (ended more : List (List ℕ)) (runs : List RunAt) (lists : List (List Entry)) → AreListed limit ended runs lists → AreListed limit (ended ++ more) runs lists
all_still limit ended more [] [] are = tt
all_still limit ended more [] (entries ∷ lists) are = are
all_still limit ended more (run ∷ runs) [] are = are
all_still limit ended more (run ∷ runs) (entries ∷ lists) are = (listed_still limit ended more run entries are.0, all_still limit ended more runs lists are.1)

one_more : (limit : ℕ) (ended : List (List ℕ)) (runs : List RunAt) (lists : List (List Entry)) (run : RunAt) (entries : List Entry) → AreListed limit ended runs lists → IsListed limit ended run entries → AreListed limit ended (runs ++ run ∷ []) (lists ++ entries ∷ [])
one_more limit ended [] [] run entries are is = (is, tt)
one_more limit ended [] (others ∷ lists) run entries are is = absurd are
one_more limit ended (other ∷ runs) [] run entries are is = absurd are
one_more limit ended (other ∷ runs) (others ∷ lists) run entries are is = (are.0, one_more limit ended runs lists run entries are.1 is)

pub joined-more : (lists : List (List Entry)) (entries : List Entry) → joined (lists ++ entries ∷ []) ≡ joined lists ++ entries
joined-more lists entries = flat_map-append (λ (es : List Entry). es) lists (entries ∷ []) ∙ ap (λ (es : List Entry). joined lists ++ es) (append-nil entries)

pub nothing_added : (limit : ℕ) (ended : List (List ℕ)) → WereAdded (record { limit = limit; runs = []; entries = [] }) ended []
nothing_added limit ended = record { lists = []; listed = tt; same = IsPermutation-refl [] }

-- one entry more is held
one_held : (before after : Buffered) (ended : List (List ℕ)) (added : List Entry) (entry : Entry) → Holds before after entry → WereAdded before ended added → WereAdded after ended (added ++ entry ∷ [])
one_held before after ended added entry holds were = subst (λ (b : Buffered). WereAdded b ended (added ++ entry ∷ [])) (sym holds) (record {
  lists = were.lists;
  listed = were.listed;
  same = subst (IsPermutation (added ++ entry ∷ [])) (append_assoc (joined were.lists) before.entries (entry ∷ [])) (IsPermutation-append_left (entry ∷ []) added (joined were.lists ++ before.entries) were.same);
})

-- what is held is written as one more run
written_more : (old new : SpillSeen) (before after : Buffered) (runs : Runs) (added : List Entry) → old.runs ≡ Some runs → IsWritten old new before after → WereAdded before runs.ended added → AreThere after new added
written_more old new before after runs added told w were =
    let bytes = bytes_of w.sorted in
    let behind = option_to_list runs.begun ++ bytes ∷ [] in
    let ended = closed runs ++ bytes ∷ [] in
    let number : w.run.run ≡ length (closed runs) = rw told at w.writes.number in
    let one : IsListed before.limit ended w.run w.sorted = record {
      stands = omega (arith, number, length-append (closed runs) (bytes ∷ []));
      bytes = rw number (get_or-append_seam (closed runs) bytes [] []);
      len = w.writes.len;
      sorted = w.order.sorted;
      short = w.limit;
    } in
    let grown : ended ≡ runs.ended ++ behind = append_assoc runs.ended (option_to_list runs.begun) (bytes ∷ []) in
    let others : AreListed before.limit ended before.runs were.lists =
    subst (λ (e : List (List ℕ)). AreListed before.limit e before.runs were.lists) (sym grown) (all_still before.limit runs.ended behind before.runs were.lists were.listed) in
    let same : IsPermutation added (joined were.lists ++ w.sorted) =
    IsPermutation-trans added (joined were.lists ++ before.entries) (joined were.lists ++ w.sorted) were.same (IsPermutation-append_right (joined were.lists) before.entries w.sorted w.order.same) in
    let whole : joined (were.lists ++ w.sorted ∷ []) ++ [] ≡ joined were.lists ++ w.sorted = append-nil (joined (were.lists ++ w.sorted ∷ [])) ∙ joined-more were.lists w.sorted in
    let made : Buffered = record { limit = before.limit; runs = before.runs ++ w.run ∷ []; entries = [] } in
    let all : WereAdded made ended added = record {
      lists = were.lists ++ w.sorted ∷ [];
      listed = one_more before.limit ended before.runs were.lists w.run w.sorted others one;
      same = subst (IsPermutation added) (sym whole) same;
    } in
    record {
      runs = with_run bytes runs;
      told = w.writes.runs ∙ ap (option_map (with_run bytes)) told;
      added_are = subst (λ (b : Buffered). WereAdded b ended added) (sym w.buffer) all;
    }

pub flushes_keep : {old new : SpillSeen} {before after : Buffered} → Flushes old new before after → KeepsAdded old new before after []
flushes_keep {old} {new} {before} {after} f = λ runs added told were.
    let none : added ++ [] ≡ added = append-nil added in
    elim f [
      | inl (empty, seen, same) ↦
          record {
            runs = runs;
            told = ap (λ (s : SpillSeen). s.runs) seen ∙ told;
            added_are = subst (λ (b : Buffered). WereAdded b runs.ended (added ++ [])) (sym same) (subst (WereAdded before runs.ended) (sym none) were);
          }
      | inr w ↦ subst (AreThere after new) (sym none) (written_more old new before after runs added told w were)
    ]

pub adds_keep : {old new : SpillSeen} {before after : Buffered} {entry : Entry} → Adds old new before after entry → KeepsAdded old new before after (entry ∷ [])
adds_keep {old} {new} {before} {after} {entry} a = λ runs added told were.
    elim a [
      | inl (seen, holds) ↦
          record {
            runs = runs;
            told = ap (λ (s : SpillSeen). s.runs) seen ∙ told;
            added_are = one_held before after runs.ended added entry holds were;
          }
      | inr (middle, full, w, holds) ↦
          let there = written_more old new before middle runs added told w were in
          record { runs = there.runs; told = there.told; added_are = one_held middle after there.runs.ended added entry holds there.added_are }
    ]

pub runs_behind : RunsBehindChangeNothing
runs_behind b ended more added were = record { lists = were.lists; listed = all_still b.limit ended more b.runs were.lists were.listed; same = were.same }
