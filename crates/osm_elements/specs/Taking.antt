-- What a taker is given of a block.
use Rattle.std.specs.Prelude.{◌≡◌, Result, Ok, Err, List, ◌++◌, ⊤}
use Rattle.osm_elements.specs.Elements.{Element}
use Rattle.osm_elements.specs.Block.{Found}
use Rattle.osm_elements.specs.declared.taker.WalkErr.{WalkErr}
use Rattle.osm_elements.specs.declared.taker.WalkErr.TheVariants.{Bad, Memory, Taker}

-- these are first among the elements, where there are any
abbrev pub IsPrefixOf : List Element → Found → Type 0
IsPrefixOf given (Ok elements) = (rest : List Element) × (elements ≡ given ++ rest)
IsPrefixOf given (Err why) = Unit {0}

module _ {T : Type 0} (steps : T → List Element → T → Type 0) where
  -- some elements were taken
  abbrev pub TookSome : T → T → Type 0
  TookSome old new = (given : List Element) × steps old given new

  -- a prefix of the elements was taken
  abbrev pub StepsByPrefix : T → T → Found → Type 0
  StepsByPrefix old new found = (given : List Element) × steps old given new × IsPrefixOf given found

module _ {T Stop : Type 0} (stops : T → List Element → T → Stop → Type 0) where
  -- a prefix of the elements was given, and the last of it, or room behind it, was refused
  abbrev pub StopsByPrefix : T → T → Stop → Found → Type 0
  StopsByPrefix old new stop found = (given : List Element) × stops old given new stop × IsPrefixOf given found

module _ {T Stop : Type 0} (steps : T → List Element → T → Type 0) (stops : T → List Element → T → Stop → Type 0) where
  -- What a walk does to a taker: it takes all elements, or a prefix of them; where the block is refused, some of what stands
  -- before the reason that ends the walk.
  abbrev pub Walked : T → T → Result ⊤ (WalkErr Stop) → Found → Type 0
  Walked old new (Ok u) found = (elements : List Element) × (found ≡ Ok elements) × steps old elements new
  Walked old new (Err (Bad why)) found = (found ≡ Err why) × TookSome steps old new
  Walked old new (Err Memory) found = StepsByPrefix steps old new found
  Walked old new (Err (Taker stop)) found = StopsByPrefix stops old new stop found
