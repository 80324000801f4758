-- What a taker was given so far, and the first reason so far, are what was found so far.
use Rattle.std.specs.Prelude.{◌≡◌, Option, None, Some, Result, Ok, Err, List}
use Rattle.tb_types.specs.declared.damage.Why.{Why}
use Rattle.tb_types.specs.declared.damage.Why.TheVariants as reasons
use Rattle.osm_elements.specs.Elements.{Element}
use Rattle.osm_elements.specs.Block.{Found, joined}
use Rattle.osm_elements.specs.Taking.{TookSome, StepsByPrefix, StopsByPrefix}
use Rattle.osm_elements.specs.declared.taker.WalkErr.{WalkErr}
use Rattle.osm_elements.specs.declared.taker.WalkErr.TheVariants.{Bad, Memory, Taker}

module _ {T Stop : Type 0} (steps : T → List Element → T → Type 0) (stops : T → List Element → T → Stop → Type 0) where
  -- from its start on the taker has these elements and no reason stands, or the first reason does
  abbrev pub Holds : T → T × Option Why → Found → Type 0
  Holds start now (Ok elements) = (now.1 ≡ None) × steps start elements now.0
  Holds start now (Err why) = (now.1 ≡ Some why) × TookSome steps start now.0

  -- only what is no message, want of memory and the taker end the walk
  abbrev pub Ended : T → T → WalkErr Stop → Found → Type 0
  Ended start taker (Bad why) found = (why ≡ reasons.Wire) × (found ≡ Err reasons.Wire) × TookSome steps start taker
  Ended start taker Memory found = StepsByPrefix steps start taker found
  Ended start taker (Taker stop) found = StopsByPrefix stops start taker stop found

  -- what holds after a call
  abbrev pub After : {X : Type 0} → T → T × Option Why → Result X (WalkErr Stop) → Found → Type 0
  After start new (Ok x) found = Holds start new found
  After start new (Err e) found = Ended start new.0 e found

  -- a call adds something to whatever was found before
  abbrev pub Adds : {X : Type 0} → T × Option Why → T × Option Why → Result X (WalkErr Stop) → Found → Type 0
  Adds old new result more = (start : T) (so_far : Found) → Holds start old so_far → After start new result (joined so_far more)

  abbrev pub Grows : T × Option Why → T × Option Why → Found → Type 0
  Grows old new more = (start : T) (so_far : Found) → Holds start old so_far → Holds start new (joined so_far more)

  abbrev pub Ends : T × Option Why → T → WalkErr Stop → Found → Type 0
  Ends old taker e more = (start : T) (so_far : Found) → Holds start old so_far → Ended start taker e (joined so_far more)
