use Rattle.std.proofs.Common.{refl, arith, ℕ, zero, suc, ◌≤◌, ◌∷◌, []}
use Rattle.tb_types.specs.Bags.{times, below}
use Rattle.claim_desk.proofs.worked.worked_seats.Goals as goal

at_most : (x : ℕ) → times x (2 ∷ 0 ∷ []) ≤ times x (below 3)
at_most zero = omega arith
at_most (suc zero) = omega arith
at_most (suc (suc zero)) = omega arith
at_most (suc (suc (suc x))) = omega arith

pub returns : goal.returns
returns c =
    record {
      fresh = refl;
      before = refl;
      at = refl;
      at_none = refl;
      later_left = refl;
      later_right = refl;
      later_one = refl;
      later_other = refl;
      once = at_most;
      twice = λ h. (let t = h 1 in omega arith);
      past = λ h. (let t = h 3 in omega arith);
    }
