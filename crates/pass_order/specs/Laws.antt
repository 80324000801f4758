-- What holds of every order of steps.
use Rattle.std.specs.Prelude.{◌≡◌, ℕ, ◌+◌, ◌*◌, List, length}
use Rattle.flow_core.specs.declared.event.Event.{Event}
use Rattle.flow_core.specs.State.{start_state, left_of}
use Rattle.flow_core.specs.Runs.{run_of}
use Rattle.flow_core.specs.Laws.{MayStart, IsSettled}
use Rattle.pass_order.specs.declared.order.Order.{Order}
use Rattle.pass_order.specs.Turns.{drawn_events, IsDrawn}
use Rattle.pass_order.specs.Whole.{IsWhole, steps_along}
use Rattle.pass_order.specs.Orders.{MayPass, pass_steps}

-- however lanes take their turns: where they come to the end, their steps are a whole pass
abbrev pub EveryScheduleIsWhole : Type 0
EveryScheduleIsWhole =
    (needs : List ℕ) (lanes queue part : ℕ) (events : List Event) → MayStart needs lanes queue part
    → left_of (run_of events (start_state needs lanes queue part)) ≡ 0 → IsWhole (length needs) (steps_along events (start_state needs lanes queue part))

-- the steps of a pass, in any order, are a whole pass
abbrev pub EveryOrderIsWhole : Type 0
EveryOrderIsWhole = (order : Order) (needs : List ℕ) → MayPass order needs → IsWhole (length needs) (pass_steps order needs)

-- A pass of drawn lanes: the events are those of the lanes that are drawn, and no other list is. They are 8 for each unit and 1 for each
-- lane, and behind them all units are settled.
pub record HasDrawnEnd (last : ℕ) (needs : List ℕ) (lanes queue part : ℕ) : Type 0 where
  pub drawn : IsDrawn last (start_state needs lanes queue part) (drawn_events last (start_state needs lanes queue part))
  pub only : (events : List Event) → IsDrawn last (start_state needs lanes queue part) events → events ≡ drawn_events last (start_state needs lanes queue part)
  pub counted : length (drawn_events last (start_state needs lanes queue part)) ≡ 8 * length needs + lanes
  pub settled : IsSettled (run_of (drawn_events last (start_state needs lanes queue part)) (start_state needs lanes queue part))

abbrev pub EveryDrawnPassEnds : Type 0
EveryDrawnPassEnds = (last : ℕ) (needs : List ℕ) (lanes queue part : ℕ) → MayStart needs lanes queue part → HasDrawnEnd last needs lanes queue part
