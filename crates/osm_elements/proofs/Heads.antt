-- A block is what stands once in it, and then its groups, one after another.
use Rattle.std.proofs.Common.{◌≡◌, ℕ, Option, None, Some, IsErrAnd, Result, Ok, Err, List, [], refl, ap, sym, subst, ◌∙◌}
use Rattle.std.specs.Prelude.{⊤}
use Rattle.tb_types.specs.declared.damage.Why.{Why}
use Rattle.tb_types.specs.declared.damage.Why.TheVariants as reasons
use Rattle.tb_types.specs.Results.{◌>>=◌}
use Rattle.tb_wire.specs.Field.{Entry}
use Rattle.osm_elements.specs.Reasons.{IsStop}
use Rattle.osm_elements.specs.Fields.{fields_of, all_of, one_body, last_number, bodies}
use Rattle.osm_elements.specs.Tags.{strings_of}
use Rattle.osm_elements.specs.Granularity.{granularity_of}
use Rattle.osm_elements.specs.Elements.{Element}
use Rattle.osm_elements.specs.Block.{Found, joined, group_of, groups_in, unit_check, elements_of}
use Rattle.osm_elements.specs.Walks.{bodies_at, each_from}
use Rattle.osm_elements.specs.Heads.{some_strings, granularity_from, head_from, head_of}
use Rattle.osm_elements.specs.Taking.{Walked}
use Rattle.osm_elements.specs.SoFar.{Holds, Ended, Ends, Grows}
use Rattle.osm_elements.specs.WalkErrs.{walk_err}
use Rattle.osm_elements.specs.declared.fault.BlockErr.{BlockErr}
use Rattle.osm_elements.specs.declared.fault.BlockErr.TheVariants as faults
use Rattle.osm_elements.specs.declared.granularity.Granularity.{Granularity}
use Rattle.osm_elements.specs.declared.taker.WalkErr.{WalkErr}
use Rattle.osm_elements.specs.declared.taker.WalkErr.TheVariants.{Bad, Memory, Taker}
use Rattle.osm_elements.proofs.Joins.{none-joined, nothing_given}
use Rattle.osm_elements.proofs.Walks.{OnlyWire, all_of-only, one_body-only, strings_of_walked, bodies_at-only, wire_unit}

-- what a head says of the groups
abbrev pub groups_under : List ℕ → List (List ℕ) × Granularity → Found
groups_under raw head = joined (each_from (group_of head.0 head.1) 2 raw 0) (unit_check head.1)

pub elements_of_walked : (raw : List ℕ) → elements_of raw ≡ head_of raw >>= groups_under raw
unfolding elements_of bodies_at
elements_of_walked raw = go (fields_of raw)
  where
    grouped : (g : Granularity) (strings : List (List ℕ)) (r : Result (List (List ℕ)) Why) → OnlyWire r → r >>= (λ groups. joined (groups_in strings g groups) (unit_check g)) ≡ joined (r >>= groups_in strings g) (unit_check g)
    grouped g strings (Ok groups) w = refl
    grouped g strings (Err why) w = wire_unit why w (unit_check g)

    parts : (fields : List Entry) (s : Result (List (List ℕ)) Why) (a b c : Result (Option ℕ) Why)
        → (s >>= λ strings. (a >>= λ unit. b >>= λ lat. c >>= λ lon. Ok (granularity_from unit lat lon)) >>= λ g. bodies 2 fields >>= λ groups. joined (groups_in strings g groups) (unit_check g))
        ≡ (s >>= λ strings. a >>= λ unit. b >>= λ lat. c >>= λ lon. Ok (strings, unit, lat, lon)) >>= head_from >>= λ head. joined (bodies 2 fields >>= groups_in head.0 head.1) (unit_check head.1)
    parts fields (Err why) a b c = refl
    parts fields (Ok strings) (Err why) b c = refl
    parts fields (Ok strings) (Ok unit) (Err why) c = refl
    parts fields (Ok strings) (Ok unit) (Ok lat) (Err why) = refl
    parts fields (Ok strings) (Ok unit) (Ok lat) (Ok lon) = grouped (granularity_from unit lat lon) strings (bodies 2 fields) (all_of-only one_body one_body-only 2 fields)

    go : (r : Result (List Entry) Why) → (r >>= λ fields. strings_of fields >>= λ strings. granularity_of fields >>= λ granularity. bodies 2 fields >>= λ groups. joined (groups_in strings granularity groups) (unit_check granularity))
        ≡ (r >>= λ fields. all_of some_strings 1 fields >>= λ strings. last_number 17 fields >>= λ unit. last_number 19 fields >>= λ lat. last_number 20 fields >>= λ lon. Ok (strings, unit, lat, lon))
        >>= head_from >>= λ head. joined (r >>= bodies 2 >>= groups_in head.0 head.1) (unit_check head.1)
    go (Err why) = refl
    go (Ok fields) =
        ap (λ s. s >>= λ strings. granularity_of fields >>= λ granularity. bodies 2 fields >>= λ groups. joined (groups_in strings granularity groups) (unit_check granularity)) (strings_of_walked fields)
        ∙ parts fields (all_of some_strings 1 fields) (last_number 17 fields) (last_number 19 fields) (last_number 20 fields)

module _ {T Stop : Type 0} (steps : T → List Element → T → Type 0) (stops : T → List Element → T → Stop → Type 0) (old : T) (none : steps old [] old) (found all : Found) (same : found ≡ all) where
  begun : Holds steps stops old (old, None) (Ok [])
  begun = (refl, none)

  -- all groups were walked, and no reason stands
  pub walked_all : (new : T) (why : Option Why) (u : ⊤) → Grows steps stops (old, None) (new, why) all → why ≡ None → Walked steps stops old new (Ok u) found
  walked_all new why u grows free = go all same (subst (Holds steps stops old (new, why)) (none-joined all) (grows old (Ok []) begun))
    where
      go : (all : Found) → found ≡ all → Holds steps stops old (new, why) all → Walked steps stops old new (Ok u) found
      go (Ok xs) is h = (xs, is, h.1)
      go (Err w) is h = let no_reason : Some w ≡ None = sym h.0 ∙ free in cc

  -- a reason stands
  pub walked_bad : (new : T) (why : Option Why) (reason : Why) → Grows steps stops (old, None) (new, why) all → why ≡ Some reason → Walked steps stops old new (Err (Bad reason)) found
  walked_bad new why reason grows stands = go all same (subst (Holds steps stops old (new, why)) (none-joined all) (grows old (Ok []) begun))
    where
      some_is : (v w : Why) → Some v ≡ Some w → v ≡ w
      some_is v w h = cc

      go : (all : Found) → found ≡ all → Holds steps stops old (new, why) all → Walked steps stops old new (Err (Bad reason)) found
      go (Ok xs) is h = let no_reason : Some reason ≡ None = sym stands ∙ h.0 in cc
      go (Err w) is h = (is ∙ ap Err (some_is w reason (sym h.0 ∙ stands)), h.1)

  ended_so : (new : T) (e : WalkErr Stop) → Ended steps stops old new e found → Walked steps stops old new (Err e) found
  ended_so new (Bad why) h = (h.1 ∙ ap Err (sym h.0), h.2)
  ended_so new Memory h = h
  ended_so new (Taker stop) h = h

  -- the walk ended before its end
  pub walked_part : (new : T) (e : WalkErr Stop) → Ends steps stops (old, None) new e all → Walked steps stops old new (Err e) found
  walked_part new e ends = ended_so new e (subst (Ended steps stops old new e) (none-joined all ∙ sym same) (ends old (Ok []) begun))

-- the head can't be read
pub no_head : {T Stop : Type 0} (steps : T → List Element → T → Type 0) (stops : T → List Element → T → Stop → Type 0) (old : T) (none : steps old [] old) (raw : List ℕ) (e : BlockErr) → IsStop e (head_of raw)
    → Walked steps stops old old (Err (walk_err e)) (elements_of raw)
no_head steps stops old none raw (faults.Bad why) stop = (elements_of_walked raw ∙ ap (λ r. r >>= groups_under raw) stop, ([], none))
no_head steps stops old none raw faults.Memory stop = ([], none, nothing_given (elements_of raw))

pub elements_under : (raw : List ℕ) (head : List (List ℕ) × Granularity) → head_of raw ≡ Ok head → elements_of raw ≡ groups_under raw head
elements_under raw head read = elements_of_walked raw ∙ ap (λ r. r >>= groups_under raw) read

-- what `?` hands on is the error of the call
pub walked_on : {T Stop : Type 0} (steps : T → List Element → T → Type 0) (stops : T → List Element → T → Stop → Type 0) (old new : T) (r : Result ⊤ (WalkErr Stop)) (e : WalkErr Stop) (found : Found) → IsErrAnd r (λ x. x ≡ e)
    → Walked steps stops old new (Err e) found → Walked steps stops old new r found
walked_on steps stops old new (Ok u) e found h k = absurd h
walked_on {Stop = Stop} steps stops old new (Err x) e found h k = subst (λ (y : WalkErr Stop). Walked steps stops old new (Err y) found) (sym h) k
