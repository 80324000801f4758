-- Worked cases that the definitions were checked on, also what they refuse.
use Rattle.std.specs.Prelude.{◌≡◌, ℕ, List, [], ◌∷◌, length}
use Rattle.gen_world.specs.Numbers.{number}
use Rattle.flow_core.specs.declared.event.Event.TheVariants.{Claim}
use Rattle.flow_core.specs.State.{CoreState, start_state}
use Rattle.flow_core.specs.Runs.{run_of}
use Rattle.pass_order.specs.declared.step.Step.{Step}
use Rattle.pass_order.specs.declared.step.Step.TheVariants.{Load, Put, Emit}
use Rattle.pass_order.specs.Turns.{round, drawn_events}
use Rattle.pass_order.specs.Whole.{IsWhole, steps_in_file, steps_along}

-- two units of need 5 on so many lanes, with a queue of one place and a part of 10
abbrev pub two_units : ℕ → CoreState
two_units lanes = start_state (5 ∷ 5 ∷ []) lanes 1 10

-- no unit at all on two lanes
abbrev pub no_unit : CoreState
no_unit = start_state [] 2 1 10

abbrev pub drawn_steps : ℕ → CoreState → List Step
drawn_steps last state = steps_along (drawn_events last state) state

pub record WorkedTurns : Type 0 where
  pub in_file : steps_in_file 2 ≡ Load 0 ∷ Put 0 ∷ Emit 0 ∷ Load 1 ∷ Put 1 ∷ Emit 1 ∷ []
  -- from the drawn lane on, going round
  pub round : round 1 3 ≡ 1 ∷ 2 ∷ 0 ∷ []
  -- one lane loads a second unit before it works the first
  pub one_lane : drawn_steps 7 (two_units 1) ≡ Load 0 ∷ Load 1 ∷ Put 0 ∷ Emit 0 ∷ Put 1 ∷ Emit 1 ∷ []
  pub two_lanes : drawn_steps 7 (two_units 2) ≡ Load 0 ∷ Put 0 ∷ Load 1 ∷ Emit 0 ∷ Put 1 ∷ Emit 1 ∷ []
  -- the next pass begins with the number behind the 18 that were taken, so it has another order
  pub goes_on : number 7 18 ≡ 2892187164789250849
  pub next_pass : drawn_steps 2892187164789250849 (two_units 2) ≡ Load 1 ∷ Load 0 ∷ Put 1 ∷ Emit 1 ∷ Put 0 ∷ Emit 0 ∷ []
  -- without units each lane finds that none is left; then nothing is drawn any more
  pub none : length (drawn_events 5 no_unit) ≡ 2
  pub settled : drawn_events 5 (run_of (Claim 0 ∷ Claim 1 ∷ []) no_unit) ≡ []

-- what is no whole pass
pub record WorkedRefusals : Type 0 where
  pub put_first : IsWhole 1 (Put 0 ∷ Load 0 ∷ Emit 0 ∷ []) → ⊥
  pub emitted_first : IsWhole 1 (Load 0 ∷ Emit 0 ∷ Put 0 ∷ []) → ⊥
  pub not_emitted : IsWhole 1 (Load 0 ∷ Put 0 ∷ []) → ⊥
  pub loaded_twice : IsWhole 1 (Load 0 ∷ Load 0 ∷ Put 0 ∷ Emit 0 ∷ []) → ⊥
  pub one_left_out : IsWhole 2 (Load 0 ∷ Put 0 ∷ Emit 0 ∷ []) → ⊥
