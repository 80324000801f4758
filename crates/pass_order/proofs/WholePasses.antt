-- The steps of a pass are whole in each order.
use Rattle.std.proofs.Common.{◌≡◌, ℕ, zero, suc, ◌+◌, ◌-◌, inl, inr, List, [], ◌∷◌, ◌++◌, flat_map, length, take, sym, ap, refl, subst, ◌∙◌, arith}
use Rattle.std.proofs.lemmas.Bool.{cases_lt}
use Rattle.std.proofs.lemmas.List.{take-append-le}
use Rattle.std.proofs.Math.Seq.{take-nil, take-append-add}
use Rattle.std.proofs.lemmas.Grind.{flat_map-append}
use Rattle.tb_types.specs.Bags.{below, times}
use Rattle.pass_order.specs.declared.step.Step.{Step}
use Rattle.pass_order.specs.declared.step.Step.TheVariants.{Load, Put, Emit}
use Rattle.pass_order.specs.declared.order.Order.{Order}
use Rattle.pass_order.specs.declared.order.Order.TheVariants as orders
use Rattle.pass_order.specs.Whole.{load_of, put_of, emit_of, IsBehind, IsWhole, steps_on, steps_in_file}
use Rattle.pass_order.specs.Orders.{MayPass, pass_steps, pass_events}
use Rattle.pass_order.proofs.Times.{times-both}
use Rattle.pass_order.proofs.Following.{schedule-whole}
use Rattle.pass_order.proofs.Turning.{drawn-none}

-- the steps of one unit more
one-more : (n : ℕ) → steps_in_file (suc n) ≡ steps_in_file n ++ steps_on n
one-more n = flat_map-append steps_on (below n) (n ∷ [])

-- what is read off them: each number below n once, in order
in-order : (f : Step → List ℕ) → ((unit : ℕ) → flat_map f (steps_on unit) ≡ unit ∷ []) → (n : ℕ) → flat_map f (steps_in_file n) ≡ below n
in-order f own zero = refl
in-order f own (suc n) =
    ap (flat_map f) (one-more n) ∙ flat_map-append f (steps_in_file n) (steps_on n)
    ∙ ap (λ (xs : List ℕ). xs ++ flat_map f (steps_on n)) (in-order f own n) ∙ ap (λ (xs : List ℕ). below n ++ xs) (own n)

-- the steps of one unit are in turn
own-turn : (n j : ℕ) → IsBehind (take j (steps_on n))
own-turn n zero = record { puts = λ unit. omega arith; emits = λ unit. omega arith }
own-turn n (suc zero) = record { puts = λ unit. omega arith; emits = λ unit. omega arith }
own-turn n (suc (suc zero)) = record { puts = λ unit. omega arith; emits = λ unit. omega arith }
own-turn n (suc (suc (suc j))) =
    subst (λ (xs : List Step). IsBehind (Load n ∷ Put n ∷ Emit n ∷ xs)) (sym (take-nil j)) (record { puts = λ unit. omega arith; emits = λ unit. omega arith })

-- and behind the units before it
behind-units : (n : ℕ) (xs : List Step) → IsBehind xs → IsBehind (steps_in_file n ++ xs)
behind-units n xs h =
    record {
      puts = λ unit. omega (
        arith,
        h.puts unit,
        times-both put_of unit (steps_in_file n) xs,
        times-both load_of unit (steps_in_file n) xs,
        ap (times unit) (in-order put_of (λ _. refl) n),
        ap (times unit) (in-order load_of (λ _. refl) n),
      );
      emits = λ unit. omega (
        arith,
        h.emits unit,
        times-both emit_of unit (steps_in_file n) xs,
        times-both put_of unit (steps_in_file n) xs,
        ap (times unit) (in-order emit_of (λ _. refl) n),
        ap (times unit) (in-order put_of (λ _. refl) n),
      );
    }

file-turn : (n k : ℕ) → IsBehind (take k (steps_in_file n))
file-turn zero k = subst (λ (xs : List Step). IsBehind xs) (sym (take-nil k)) (record { puts = λ unit. omega arith; emits = λ unit. omega arith })
file-turn (suc n) k =
    let xs = steps_in_file n in
    elim (cases_lt (length xs) k) [
      | inl past ↦
          let at : k ≡ length xs + (k - length xs) = omega (arith, past) in
          let there : take k (steps_in_file (suc n)) ≡ xs ++ take (k - length xs) (steps_on n) =
          ap (take k) (one-more n) ∙ ap (λ i. take i (xs ++ steps_on n)) at ∙ take-append-add xs (steps_on n) (k - length xs) in
          subst (λ (ys : List Step). IsBehind ys) (sym there) (behind-units n (take (k - length xs) (steps_on n)) (own-turn n (k - length xs)))
      | inr front ↦
          let there : take k (steps_in_file (suc n)) ≡ take k xs = ap (take k) (one-more n) ∙ take-append-le k xs (steps_on n) front in
          subst (λ (ys : List Step). IsBehind ys) (sym there) (file-turn n k)
    ]

pub file-whole : (n : ℕ) → IsWhole n (steps_in_file n)
file-whole n =
    record {
      loads = λ x. ap (times x) (in-order load_of (λ _. refl) n);
      puts = λ x. ap (times x) (in-order put_of (λ _. refl) n);
      emits = λ x. ap (times x) (in-order emit_of (λ _. refl) n);
      in_turn = file-turn n;
    }

pub order-whole : (order : Order) (needs : List ℕ) → MayPass order needs → IsWhole (length needs) (pass_steps order needs)
order-whole orders.InFile needs may = file-whole (length needs)
order-whole (orders.Drawn d) needs may = schedule-whole needs d.lanes d.queue d.part (pass_events d needs) may (drawn-none d.last needs d.lanes d.queue d.part may)
