-- Worked cases that the definitions were checked on, also what they refuse.
use Rattle.std.specs.Prelude.{◌≡◌, ℕ, Bool, true, false, Option, Some, None, List, [], ◌∷◌}
use Rattle.flow_core.specs.declared.event.Event.{Event}
use Rattle.flow_core.specs.declared.event.Event.TheVariants.{Claim, Book, Load, Push, Pop, Put, Emit, Give}
use Rattle.flow_core.specs.declared.lane.Own.{Own}
use Rattle.flow_core.specs.declared.lane.Own.TheVariants.{Free, Claimed, Booked, Loaded}
use Rattle.flow_core.specs.declared.lane.Work.{Work}
use Rattle.flow_core.specs.declared.lane.Work.TheVariants.{Idle, Popped, Stored, Emitted}
use Rattle.flow_core.specs.State.{CoreState, start_state, left_of}
use Rattle.flow_core.specs.Events.{unit_in, after, is_possible}
use Rattle.flow_core.specs.Runs.{run_of, taken}

-- three units of need 5, two lanes, a queue of one place, a part of 10
abbrev pub row : CoreState
row = start_state (5 ∷ 5 ∷ 5 ∷ []) 2 1 10

abbrev pub until_full : List Event
until_full = Claim 0 ∷ Book 0 ∷ Load 0 ∷ Claim 1 ∷ Book 1 ∷ Load 1 ∷ Push 0 ∷ []

abbrev pub until_given : List Event
until_given = Pop 1 ∷ Put 1 ∷ Emit 1 ∷ Give 1 ∷ []

pub record WorkedRow : Type 0 where
  pub left : left_of row ≡ 26
  pub taken : taken until_full row ≡ 7
  -- with the queue full the other lane can't push; once it has worked a unit it can
  pub full : is_possible (run_of until_full row) (Push 1) ≡ false
  pub free : is_possible (run_of until_given (run_of until_full row)) (Push 1) ≡ true
  -- with 10 booked no third unit can be booked
  pub booked : is_possible (run_of (Claim 0 ∷ []) (run_of until_full row)) (Book 0) ≡ false
  -- a lane that isn't there does nothing
  pub no_lane : after (Claim 2) row ≡ None

-- what a lane may do with these in hand, the queue having unit 7 at its front
abbrev pub about : Event → Own → Work → Bool → Option ℕ
about event own work over = unit_in event (record row { queue = 7 ∷ []; capacity = 2 }) own work over

pub record WorkedHands : Type 0 where
  pub claim : about (Claim 0) Free Idle false ≡ Some 0
  pub claim_over : about (Claim 0) Free Idle true ≡ None
  pub claim_working : about (Claim 0) Free (Popped 4) false ≡ None
  pub claim_twice : about (Claim 0) (Claimed 1) Idle false ≡ None
  pub book : about (Book 0) (Claimed 1) Idle true ≡ Some 1
  pub book_working : about (Book 0) (Claimed 1) (Stored 4) true ≡ None
  pub book_twice : about (Book 0) (Booked 1) Idle true ≡ None
  pub load_working : about (Load 0) (Booked 1) (Emitted 4) false ≡ Some 1
  pub load_unbooked : about (Load 0) (Claimed 1) Idle false ≡ None
  pub push : about (Push 0) (Loaded 1) Idle false ≡ Some 1
  pub push_working : about (Push 0) (Loaded 1) (Popped 4) false ≡ None
  pub push_unloaded : about (Push 0) (Booked 1) Idle false ≡ None
  pub pop_free : about (Pop 0) Free Idle true ≡ Some 7
  pub pop_loaded : about (Pop 0) (Loaded 1) Idle false ≡ Some 7
  pub pop_booked : about (Pop 0) (Booked 1) Idle false ≡ None
  pub pop_working : about (Pop 0) Free (Emitted 4) false ≡ None
  pub put : about (Put 0) (Booked 1) (Popped 4) false ≡ Some 4
  pub put_stored : about (Put 0) Free (Stored 4) false ≡ None
  pub emit_unstored : about (Emit 0) Free (Popped 4) false ≡ None
  pub give : about (Give 0) (Loaded 1) (Emitted 4) true ≡ Some 4
  pub give_idle : about (Give 0) (Loaded 1) Idle true ≡ None
