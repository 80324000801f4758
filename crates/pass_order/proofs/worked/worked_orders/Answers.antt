use Rattle.std.proofs.Common.{refl, arith}
use Rattle.gen_world.specs.Numbers.{number, draw, next_number}
use Rattle.pass_order.specs.Turns.{drawn_event, drawn_events}
use Rattle.pass_order.proofs.worked.worked_orders.Goals as goal

pub returns-clause-turns : goal.returns-clause-turns
unfolding number draw next_number drawn_event drawn_events
returns-clause-turns c = record { in_file = refl; round = refl; one_lane = refl; two_lanes = refl; goes_on = refl; next_pass = refl; none = refl; settled = refl }

pub returns-clause-refusals : goal.returns-clause-refusals
returns-clause-refusals c =
    record {
      put_first = λ w. omega (arith, (w.in_turn 1).puts 0);
      emitted_first = λ w. omega (arith, (w.in_turn 2).emits 0);
      not_emitted = λ w. omega (arith, w.emits 0);
      loaded_twice = λ w. omega (arith, w.loads 0);
      one_left_out = λ w. omega (arith, w.loads 1);
    }
