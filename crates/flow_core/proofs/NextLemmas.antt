-- What `next_event` finds is possible, and where it finds nothing no event is.
use Rattle.std.proofs.Common.{◌≡◌, ℕ, zero, suc, Bool, true, false, cond, Option, Some, None, is_some, option_map, IfSome, IfNone, List, [], ◌∷◌, slice_get, subst, sym, ap, refl, ◌∙◌}
use Rattle.std.specs.List.{find}
use Rattle.std.proofs.lemmas.Bool.{true≢false}
use Rattle.std.proofs.lemmas.Option.{none-some, same_Some}
use Rattle.flow_core.specs.declared.event.Event.{Event}
use Rattle.flow_core.specs.declared.event.Event.TheVariants.{Claim, Book, Load, Push, Pop, Put, Emit, Give}
use Rattle.flow_core.specs.State.{CoreState}
use Rattle.flow_core.specs.Events.{lane_of, unit_of, effect, in_order, is_possible, next_event, CanDoNothing, MayDo}

-- each of the events is of the lane
OfLane : ℕ → List Event → Type 0
OfLane lane [] = Unit {0}
OfLane lane (event ∷ events) = (lane_of event ≡ lane) × OfLane lane events

some_after : (s : CoreState) (event : Event) (o : Option ℕ) → is_some o ≡ true → is_some (option_map (λ unit. effect event unit s) o) ≡ true
some_after s event None e = e
some_after s event (Some unit) e = refl

none_after : (s : CoreState) (event : Event) (o : Option ℕ) → is_some o ≡ false → option_map (λ unit. effect event unit s) o ≡ None
none_after s event None e = refl
none_after s event (Some unit) e = absurd (true≢false e)

-- what is found of a list
module _ (lane : ℕ) (s : CoreState) where
  first_may : (b : Bool) (event : Event) (o : Option Event) → is_possible s event ≡ b → lane_of event ≡ lane → IfSome o (λ x. MayDo lane s x) → IfSome (cond b (Some event) o) (λ x. MayDo lane s x)
  first_may true event o e of_lane rest = (of_lane, some_after s event (unit_of event s) e)
  first_may false event o e of_lane rest = rest

  found_may : (events : List Event) → OfLane lane events → IfSome (find (is_possible s) events) (λ x. MayDo lane s x)
  unfolding OfLane
  found_may [] h = tt
  found_may (event ∷ events) h = first_may (is_possible s event) event (find (is_possible s) events) refl h.0 (found_may events h.1)

  next_may : IfSome (next_event lane s) (λ x. MayDo lane s x)
  unfolding OfLane
  next_may = found_may (in_order lane) (refl, (refl, (refl, (refl, (refl, (refl, (refl, (refl, tt))))))))

  pub may_if : (o : Option Event) → o ≡ next_event lane s → IfSome o (λ x. MayDo lane s x)
  may_if o e = subst (λ (x : Option Event). IfSome x (λ y. MayDo lane s y)) (sym e) next_may

-- what isn't found
not_first : (b : Bool) (event : Event) (o : Option Event) → cond b (Some event) o ≡ None → (b ≡ false) × (o ≡ None)
not_first true event o e = absurd (none-some event (sym e))
not_first false event o e = (refl, e)

not_found : (p : Event → Bool) (events : List Event) (k : ℕ) (event : Event) → slice_get events k ≡ Some event → find p events ≡ None → p event ≡ false
not_found p [] k event at e = absurd (none-some event at)
not_found p (x ∷ events) zero event at e = ap p (sym (same_Some x event at)) ∙ (not_first (p x) x (find p events) e).0
not_found p (x ∷ events) (suc k) event at e = not_found p events k event at (not_first (p x) x (find p events) e).1

none_of : (s : CoreState) (event : Event) → next_event (lane_of event) s ≡ None → is_possible s event ≡ false
none_of s (Give k) e = not_found (is_possible s) (in_order k) 0 (Give k) refl e
none_of s (Emit k) e = not_found (is_possible s) (in_order k) 1 (Emit k) refl e
none_of s (Load k) e = not_found (is_possible s) (in_order k) 2 (Load k) refl e
none_of s (Push k) e = not_found (is_possible s) (in_order k) 3 (Push k) refl e
none_of s (Put k) e = not_found (is_possible s) (in_order k) 4 (Put k) refl e
none_of s (Book k) e = not_found (is_possible s) (in_order k) 5 (Book k) refl e
none_of s (Claim k) e = not_found (is_possible s) (in_order k) 6 (Claim k) refl e
none_of s (Pop k) e = not_found (is_possible s) (in_order k) 7 (Pop k) refl e

pub nothing_if : (lane : ℕ) (s : CoreState) (o : Option Event) → o ≡ next_event lane s → IfNone o (CanDoNothing lane s)
nothing_if lane s None e = λ event of_lane.
    none_after s event (unit_of event s) (none_of s event (ap (λ (k : ℕ). next_event k s) of_lane ∙ sym e))
nothing_if lane s (Some event) e = tt
