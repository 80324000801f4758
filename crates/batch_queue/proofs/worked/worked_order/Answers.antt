use Rattle.std.proofs.Common.{refl, ℕ, List, [], ◌∷◌, ap, arith}
use Rattle.batch_queue.specs.declared.entry.Entry.{Entry}
use Rattle.batch_queue.proofs.worked.worked_order.Goals as goal

number_of : List Entry → ℕ
number_of [] = 0
number_of (e ∷ es) = e.no

pub returns : goal.returns
unfolding number_of
returns c =
    record {
      both = refl;
      left = refl;
      left_mixed = refl;
      right = refl;
      right_mixed = refl;
      popped = (λ w. refl, λ a b. refl);
      nothing_lost = λ h. (let t = h.0 (λ _. 1) in omega arith);
      out_of_order = λ h. (let t = ap number_of (h.1 refl refl) in omega arith);
    }
