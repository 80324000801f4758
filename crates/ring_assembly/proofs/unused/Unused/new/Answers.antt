use Rattle.std.proofs.Common.{false, length, ap, ◌∙◌, le_refl, arith}
use Rattle.std.proofs.lemmas.List.{length-replicate}
use Rattle.std.proofs.lemmas.List.Sorted.{IsNonDecreasingBy-from_sort, All-permutation, Contains-permutation}
use Rattle.ring_assembly.specs.Search.{unused_of, end_number, IsEnd}
use Rattle.ring_assembly.proofs.Marks.{unmarked}
use Rattle.ring_assembly.proofs.unused.Unused.new.Goals as goal

pub returns-clause-indexed : goal.returns-clause-indexed
returns-clause-indexed c =
    let ends = c.in_ok-ends.ends.items in
    let sorted = c.sort_unstable.new.self.items in
    record {
      marks = ap length (c.in_ok-used.ensures {u = tt}) ∙ length-replicate (length c.args.ways.now) false;
      indexes = omega (arith, (c.in_ok-next.ensures {u = tt}).count, c.len.ensures);
      sorted = IsNonDecreasingBy-from_sort (λ x. x) sorted c.sort_unstable.ensures.sorted;
      sound = All-permutation (IsEnd c.args.ways.now) ends sorted c.sort_unstable.ensures.permutation (c.in_ok-ends.ensures {u = tt}).sound;
      complete = record { at = λ k node d fit h f. Contains-permutation ends sorted (end_number node k) c.sort_unstable.ensures.permutation ((c.in_ok-ends.ensures {u = tt}).complete.at k node d fit h f) };
      forward = λ s h. (c.in_ok-next.ensures {u = tt}).each s (omega (arith, c.len.ensures));
      skipped = λ s p late early. absurd (omega (arith, (c.in_ok-next.ensures {u = tt}).below s));
    }

pub returns-clause-all : goal.returns-clause-all
returns-clause-all c =
    let ways = c.args.ways.now in
    ap (λ marks. unused_of marks ways) (c.in_ok-used.ensures {u = tt}) ∙ unmarked (length ways) ways (le_refl (length ways))
