-- Planned steps that were done, and the bodies that are held in between.
use Rattle.std.proofs.Common.{◌≡◌, ℕ, zero, suc, ◌+◌, ◌<◌, ◌≤◌, ◌==◌, inl, inr, Bool, true, false, true≢false, cond, Option, Some, None, is_some, IsSome, Ok, Err, List, [], ◌∷◌, ◌++◌, flat_map, length, length-set, set, take, drop, replicate, slice_get, add-one, append_assoc, get_or, sym, ap, refl, subst, ◌∙◌, arith}
use Rattle.std.proofs.lemmas.Bool.{eqb-true, eqb-false, eq-eqb, cond-true, cond-false, cases_Bool}
use Rattle.std.proofs.lemmas.List.{take-append-drop, get_or-set_same, get_or-set_other, length-replicate}
use Rattle.std.proofs.Math.Seq.{take-suc}
use Rattle.std.proofs.lemmas.Option.{none-some, same_Some}
use Rattle.tb_types.specs.Bags.{below, times, IsEachOnce}
use Rattle.pass_order.specs.declared.step.Step.{Step}
use Rattle.pass_order.specs.declared.step.Step.TheVariants.{Load, Put, Emit}
use Rattle.pass_order.specs.Whole.{load_of, put_of, emit_of, loaded, emitted, IsWhole}
use Rattle.pass_order.specs.Driven.{Meaning, IsLoaded, StaysReady, Does, Fails, Did, DidAll, DidSome}
use Rattle.pass_order.specs.Holding.{held, AreLoaded, HasBody, IsReadyFor, Takes}
use Rattle.pass_order.proofs.Times.{one, times-one, times-own, once-at-most, within-below, once-below, times-both, times-front}
use Rattle.pass_order.proofs.Doing.{Knows, did-more, did-append}

abbrev flag : {B : Type 0} → Option B → ℕ
flag o = cond (is_some o) 1 0

-- These steps were done. A body is known from its unit's load on, and held until its unit is emitted.
pub record Walking {S B E : Type 0} (m : Meaning S B E) (n : ℕ) (done : List Step) (places : List (Option B)) (old now : S) : Type 0 where
  pub bodies : ℕ → Option B
  pub did : Did m bodies done old now
  pub many : length places ≡ n
  pub known : (unit : ℕ) → times unit (loaded done) ≡ flag (bodies unit)
  pub holds : (unit : ℕ) → flag (held places unit) + times unit (emitted done) ≡ times unit (loaded done)
  pub same : (unit : ℕ) (body : B) → held places unit ≡ Some body → bodies unit ≡ Some body
  pub are : (unit : ℕ) (body : B) → bodies unit ≡ Some body → IsLoaded m unit body
  pub ready : (unit : ℕ) → unit < n → m.ready now unit

-- flags
some-flag : {B : Type 0} (o : Option B) → 0 < flag o → IsSome o
some-flag None h = absurd (omega (arith, h))
some-flag (Some x) h = refl

no-flag : {B : Type 0} (o : Option B) → flag o ≡ 0 → o ≡ None
no-flag None h = refl
no-flag (Some x) h = absurd (omega (arith, h))

flag-some : {B : Type 0} (o : Option B) (x : B) → o ≡ Some x → flag o ≡ 1
flag-some o x e = ap flag e

abbrev none_of : (B : Type 0) → Option B
none_of B = None

nothing : {B : Type 0} (n unit : ℕ) → held (replicate n (none_of B)) unit ≡ none_of B
nothing zero unit = refl
nothing (suc n) zero = refl
nothing (suc n) (suc unit) = nothing n unit

-- nothing was done yet
pub start : {S B E : Type 0} (m : Meaning S B E) (n : ℕ) (places : List (Option B)) (old : S) → places ≡ replicate n None → ((unit : ℕ) → unit < n → m.ready old unit) → Walking m n [] places old old
start {S} {B} m n places old e r =
    record {
      bodies = λ _. None;
      did = refl;
      many = ap length e ∙ length-replicate n None;
      known = λ _. refl;
      holds = λ unit. let a = ap (λ l. flag (held l unit)) e in let b = ap flag (nothing {B = B} n unit) in omega (arith, a, b);
      same = λ unit body h. absurd (none-some body (sym (ap (λ l. held l unit) e ∙ nothing {B = B} n unit) ∙ h));
      are = λ unit body h. absurd (none-some body h);
      ready = r;
    }

-- where step i is next
module _ (n : ℕ) (planned : List Step) (w : IsWhole n planned) (i : ℕ) (less : i < length planned) (step : Step) (is : get_or planned i (Load 0) ≡ step) where
  more : take (i + 1) planned ≡ take i planned ++ step ∷ []
  more = ap (λ k. take k planned) (add-one i) ∙ take-suc planned i (Load 0) less ∙ ap (λ x. take i planned ++ x ∷ []) is

  whole : planned ≡ take i planned ++ step ∷ drop (i + 1) planned
  whole = sym (take-append-drop (i + 1) planned) ∙ ap (λ l. l ++ drop (i + 1) planned) more ∙ append_assoc (take i planned) (step ∷ []) (drop (i + 1) planned)

  grown : (f : Step → List ℕ) (unit : ℕ) → times unit (flat_map f (take (i + 1) planned)) ≡ times unit (flat_map f (take i planned)) + times unit (flat_map f (step ∷ []))
  grown f unit = ap (λ l. times unit (flat_map f l)) more ∙ times-both f unit (take i planned) (step ∷ [])

  seldom : (f : Step → List ℕ) (unit : ℕ) → IsEachOnce n (flat_map f planned) → times unit (flat_map f (take i planned)) + times unit (flat_map f (step ∷ [])) ≤ times unit (below n)
  seldom f unit each = let a = grown f unit in let b = times-front f unit planned (i + 1) in let c = each unit in omega (arith, a, b, c)

  seldom-own : (f : Step → List ℕ) (unit : ℕ) → IsEachOnce n (flat_map f planned) → times unit (flat_map f (step ∷ [])) ≡ 1 → (unit < n) × (times unit (flat_map f (take i planned)) ≡ 0)
  seldom-own f unit each own =
      let a = seldom f unit each in
      let b = once-at-most n unit in
      (within-below n unit (omega (arith, a, own)), omega (arith, a, b, own))

-- what the next step meets: a load, a put and an emit of a unit
module _ (n : ℕ) (planned : List Step) (w : IsWhole n planned) (i : ℕ) (less : i < length planned) (unit : ℕ) where
  load-next : get_or planned i (Load 0) ≡ Load unit → (unit < n) × (times unit (loaded (take i planned)) ≡ 0)
  load-next is = seldom-own n planned w i less (Load unit) is load_of unit w.loads (times-own unit)

  put-next : get_or planned i (Load 0) ≡ Put unit → (unit < n) × (times unit (loaded (take i planned)) ≡ 1) × (times unit (emitted (take i planned)) ≡ 0)
  put-next is =
      let a = seldom-own n planned w i less (Put unit) is put_of unit w.puts (times-own unit) in
      let b = (w.in_turn i).emits unit in
      let c = (w.in_turn (i + 1)).puts unit in
      let d = grown n planned w i less (Put unit) is put_of unit in
      let e = grown n planned w i less (Put unit) is load_of unit in
      let f = times-own unit in
      let g = times-front load_of unit planned i in
      let h = w.loads unit in
      let j = once-at-most n unit in
      let none : times unit (flat_map load_of (Put unit ∷ [])) ≡ 0 = refl in
      let own : times unit (flat_map put_of (Put unit ∷ [])) ≡ 1 = f in
      (a.0, omega (arith, a.1, c, d, e, none, own, g, h, j), omega (arith, a.1, b))

  emit-next : get_or planned i (Load 0) ≡ Emit unit → (unit < n) × (times unit (loaded (take i planned)) ≡ 1) × (times unit (emitted (take i planned)) ≡ 0)
  emit-next is =
      let a = seldom-own n planned w i less (Emit unit) is emit_of unit w.emits (times-own unit) in
      let b = (w.in_turn (i + 1)).emits unit in
      let c = (w.in_turn (i + 1)).puts unit in
      let d = grown n planned w i less (Emit unit) is emit_of unit in
      let e = grown n planned w i less (Emit unit) is load_of unit in
      let g = times-front load_of unit planned i in
      let h = w.loads unit in
      let j = once-at-most n unit in
      let none : times unit (flat_map load_of (Emit unit ∷ [])) ≡ 0 = refl in
      let own : times unit (flat_map emit_of (Emit unit ∷ [])) ≡ 1 = times-own unit in
      (a.0, omega (arith, a.1, b, c, d, e, none, own, g, h, j), a.1)

-- by whether a unit is the one of the step: what is known and held of it
known-then : {B : Type 0} (b : Bool) (x : B) (o : Option B) (count before : ℕ) → count ≡ before + cond b 1 0 → before ≡ flag o → (b ≡ true → flag o ≡ 0) → count ≡ flag (cond b (Some x) o)
known-then true x o count before e f none = omega (arith, e, f, none refl)
known-then false x o count before e f none = omega (arith, e, f)

knows-then : {B : Type 0} (b : Bool) (x y : B) (o : Option B) → (b ≡ true → flag o ≡ 0) → o ≡ Some y → cond b (Some x) o ≡ Some y
knows-then true x y o none e = absurd (omega (arith, none refl, flag-some o y e))
knows-then false x y o none e = e

holds-then : {B : Type 0} (b : Bool) (x : B) (p : Option B) (loads emits loads' emits' : ℕ) → flag p + emits ≡ loads → loads' ≡ loads + cond b 1 0 → emits' ≡ emits + 0 → (b ≡ true → flag p ≡ 0) → flag (cond b (Some x) p) + emits' ≡ loads'
holds-then true x p loads emits loads' emits' e f g none = omega (arith, e, f, g, none refl)
holds-then false x p loads emits loads' emits' e f g none = omega (arith, e, f, g)

same-then : {B : Type 0} (b : Bool) (x y : B) (p o : Option B) → (p ≡ Some y → o ≡ Some y) → cond b (Some x) p ≡ Some y → cond b (Some x) o ≡ Some y
same-then true x y p o h e = e
same-then false x y p o h e = h e

are-then : {B : Type 0} (P : B → Type 0) (b : Bool) (x y : B) (o : Option B) → (b ≡ true → P x) → (o ≡ Some y → P y) → cond b (Some x) o ≡ Some y → P y
are-then P true x y o here else e = subst P (same_Some x y e) (here refl)
are-then P false x y o here else e = else e

gone-then : {B : Type 0} (b : Bool) (p empty : Option B) (loads emits loads' emits' : ℕ) → empty ≡ None → flag p + emits ≡ loads → loads' ≡ loads + 0 → emits' ≡ emits + cond b 1 0 → (b ≡ true → flag p ≡ 1) → flag (cond b empty p) + emits' ≡ loads'
gone-then true p empty loads emits loads' emits' n e f g some = omega (arith, ap flag n, e, f, g, some refl)
gone-then false p empty loads emits loads' emits' n e f g some = omega (arith, e, f, g)

left-then : {B : Type 0} (b : Bool) (y : B) (p empty : Option B) → empty ≡ None → cond b empty p ≡ Some y → p ≡ Some y
left-then true y p empty n e = absurd (none-some y (sym n ∙ e))
left-then false y p empty n e = e

-- a place that is set
held-set : {B : Type 0} (places : List (Option B)) (unit v : ℕ) (o : Option B) → unit < length places → held (set places unit o) v ≡ cond (unit == v) o (held places v)
held-set {B} places unit v o h =
    elim (cases_Bool (unit == v)) [
      | inl t ↦
          ap (λ k. held (set places unit o) k) (sym (eqb-true unit v t)) ∙ get_or-set_same places unit o None h
          ∙ sym (cond-true {A = Option B} (unit == v) o (held places v) t)
      | inr f ↦
          get_or-set_other places unit v o None (λ e. eqb-false unit v f (sym e)) ∙ sym (cond-false {A = Option B} (unit == v) o (held places v) f)
    ]

module _ {S B E : Type 0} (m : Meaning S B E) (n : ℕ) (planned : List Step) (w : IsWhole n planned) (i : ℕ) (less : i < length planned) (places : List (Option B)) (old now : S)
    (walk : Walking m n (take i planned) places old now) where
  holds-one : (unit : ℕ) → times unit (loaded (take i planned)) ≡ 1 → times unit (emitted (take i planned)) ≡ 0 → IsSome (held places unit)
  holds-one unit a b = some-flag (held places unit) (omega (arith, a, b, walk.holds unit))

  pub there : (step : Step) → get_or planned i (Load 0) ≡ step → HasBody places step
  there (Load unit) is = let a = load-next n planned w i less unit is in omega (arith, a.0, walk.many)
  there (Put unit) is = let a = put-next n planned w i less unit is in (omega (arith, a.0, walk.many), holds-one unit a.1 a.2)
  there (Emit unit) is = let a = emit-next n planned w i less unit is in (omega (arith, a.0, walk.many), holds-one unit a.1 a.2)

  pub is-ready : (step : Step) → get_or planned i (Load 0) ≡ step → IsReadyFor m now step
  is-ready (Load unit) is = walk.ready unit (load-next n planned w i less unit is).0
  is-ready (Put unit) is = walk.ready unit (put-next n planned w i less unit is).0
  is-ready (Emit unit) is = walk.ready unit (emit-next n planned w i less unit is).0

  pub are-loaded : AreLoaded m places
  are-loaded = λ unit body h. walk.are unit body (walk.same unit body h)

  -- the step failed
  pub failed : (step : Step) (after : List (Option B)) (fault : E) (new : S) → get_or planned i (Load 0) ≡ step → Takes m step places after now new (Err fault)
      → (bodies : ℕ → Option B) × DidSome m bodies planned fault old new
  failed step after fault new is t = (
    walk.bodies,
    record {
      done = take i planned;
      failed = step;
      rest = drop (i + 1) planned;
      are = whole n planned w i less step is;
      mid = now;
      did = walk.did;
      fails = fails-so step t;
    },
  )
    where
      fails-so : (step : Step) → Takes m step places after now new (Err fault) → Fails m walk.bodies step fault now new
      fails-so (Load unit) t = t
      fails-so (Put unit) t = (t.0, walk.same unit t.0 t.1, t.2)
      fails-so (Emit unit) t = (t.0, walk.same unit t.0 t.1, t.2)

  -- the step was done: one step more
  does-then : (f : ℕ → Option B) (step : Step) (mid new : S) → Knows walk.bodies f → get_or planned i (Load 0) ≡ step → Does m f step now new → Did m f (take (i + 1) planned) old new
  does-then f step mid new k is d =
      subst (λ (xs : List Step). Did m f xs old new) (sym (more n planned w i less step is))
      (did-append m f (take i planned) (step ∷ []) old now new (did-more m walk.bodies f k (take i planned) old now walk.did) (new, d, refl))

  ready-then : (new : S) → StaysReady m now new → (unit : ℕ) → unit < n → m.ready new unit
  ready-then new stays unit h = stays unit (walk.ready unit h)

  -- the body of a unit that is loaded
  with-body : ℕ → B → ℕ → Option B
  with-body unit body v = cond (unit == v) (Some body) (walk.bodies v)

  module _ (unit : ℕ) (after : List (Option B)) (new : S) (stays : StaysReady m now new) where
    next-load : get_or planned i (Load 0) ≡ Load unit → Takes m (Load unit) places after now new (Ok tt) → Walking m n (take (i + 1) planned) after old new
    unfolding with-body
    next-load is t =
        let own = load-next n planned w i less unit is in
        let loads : (v : ℕ) → times v (loaded (take (i + 1) planned)) ≡ times v (loaded (take i planned)) + one v unit = λ v. omega (arith, grown n planned w i less (Load unit) is load_of v, times-one v unit) in
        let emits : (v : ℕ) → times v (emitted (take (i + 1) planned)) ≡ times v (emitted (take i planned)) + 0 = λ v. grown n planned w i less (Load unit) is emit_of v in
        let unknown : (v : ℕ) → (unit == v) ≡ true → flag (walk.bodies v) ≡ 0 = λ v e. subst (λ (u : ℕ). flag (walk.bodies u) ≡ 0) (eqb-true unit v e) (sym (walk.known unit) ∙ own.1) in
        let unheld : (v : ℕ) → (unit == v) ≡ true → flag (held places v) ≡ 0 = λ v e. subst (λ (u : ℕ). flag (held places u) ≡ 0) (eqb-true unit v e) (omega (arith, walk.holds unit, own.1)) in
        let place : (v : ℕ) → held after v ≡ cond (unit == v) (Some t.0) (held places v) = λ v. ap (λ l. held l v) t.2 ∙ held-set places unit v (Some t.0) (omega (arith, own.0, walk.many)) in
        record {
          bodies = with-body unit t.0;
          did = does-then (with-body unit t.0) (Load unit) now new (λ v b e. knows-then (unit == v) t.0 b (walk.bodies v) (unknown v) e) is
              (t.0, cond-true {A = Option B} (unit == unit) (Some t.0) (walk.bodies unit) (eq-eqb unit unit refl), t.1);
          many = ap length t.2 ∙ length-set places unit (Some t.0) ∙ walk.many;
          known = λ v. known-then (unit == v) t.0 (walk.bodies v) (times v (loaded (take (i + 1) planned))) (times v (loaded (take i planned))) (loads v) (walk.known v) (unknown v);
          holds = λ v. ap (λ o. flag o + times v (emitted (take (i + 1) planned))) (place v)
              ∙ holds-then (unit == v) t.0 (held places v) (times v (loaded (take i planned))) (times v (emitted (take i planned))) (times v (loaded (take (i + 1) planned))) (times v (emitted (take (i + 1) planned))) (walk.holds v) (loads v) (emits v) (unheld v);
          same = λ v b e. same-then (unit == v) t.0 b (held places v) (walk.bodies v) (walk.same v b) (sym (place v) ∙ e);
          are = λ v b e. are-then (λ (x : B). IsLoaded m v x) (unit == v) t.0 b (walk.bodies v) (λ here. subst (λ (u : ℕ). IsLoaded m u t.0) (eqb-true unit v here) (now, new, t.1)) (walk.are v b) e;
          ready = ready-then new stays;
        }

    next-put : get_or planned i (Load 0) ≡ Put unit → Takes m (Put unit) places after now new (Ok tt) → Walking m n (take (i + 1) planned) after old new
    next-put is t =
        let loads : (v : ℕ) → times v (loaded (take (i + 1) planned)) ≡ times v (loaded (take i planned)) + 0 = λ v. grown n planned w i less (Put unit) is load_of v in
        let emits : (v : ℕ) → times v (emitted (take (i + 1) planned)) ≡ times v (emitted (take i planned)) + 0 = λ v. grown n planned w i less (Put unit) is emit_of v in
        let place : (v : ℕ) → held after v ≡ held places v = λ v. ap (λ l. held l v) t.3 in
        record {
          bodies = walk.bodies;
          did = does-then walk.bodies (Put unit) now new (λ v b e. e) is (t.0, walk.same unit t.0 t.1, t.2);
          many = ap length t.3 ∙ walk.many;
          known = λ v. omega (arith, loads v, walk.known v);
          holds = λ v. omega (arith, ap flag (place v), loads v, emits v, walk.holds v);
          same = λ v b e. walk.same v b (sym (place v) ∙ e);
          are = walk.are;
          ready = ready-then new stays;
        }

    next-emit : get_or planned i (Load 0) ≡ Emit unit → Takes m (Emit unit) places after now new (Ok tt) → Walking m n (take (i + 1) planned) after old new
    next-emit is t =
        let own = emit-next n planned w i less unit is in
        let loads : (v : ℕ) → times v (loaded (take (i + 1) planned)) ≡ times v (loaded (take i planned)) + 0 = λ v. grown n planned w i less (Emit unit) is load_of v in
        let emits : (v : ℕ) → times v (emitted (take (i + 1) planned)) ≡ times v (emitted (take i planned)) + one v unit = λ v. omega (arith, grown n planned w i less (Emit unit) is emit_of v, times-one v unit) in
        let kept : (v : ℕ) → (unit == v) ≡ true → flag (held places v) ≡ 1 = λ v e. subst (λ (u : ℕ). flag (held places u) ≡ 1) (eqb-true unit v e) (omega (arith, walk.holds unit, own.1, own.2)) in
        let place : (v : ℕ) → held after v ≡ cond (unit == v) (none_of B) (held places v) = λ v. ap (λ l. held l v) t.3 ∙ held-set places unit v (none_of B) (omega (arith, own.0, walk.many)) in
        record {
          bodies = walk.bodies;
          did = does-then walk.bodies (Emit unit) now new (λ v b e. e) is (t.0, walk.same unit t.0 t.1, t.2);
          many = ap length t.3 ∙ length-set places unit (none_of B) ∙ walk.many;
          known = λ v. omega (arith, loads v, walk.known v);
          holds = λ v. ap (λ o. flag o + times v (emitted (take (i + 1) planned))) (place v)
              ∙ gone-then (unit == v) (held places v) (none_of B) (times v (loaded (take i planned))) (times v (emitted (take i planned))) (times v (loaded (take (i + 1) planned))) (times v (emitted (take (i + 1) planned))) refl (walk.holds v) (loads v) (emits v) (kept v);
          same = λ v b e. walk.same v b (left-then (unit == v) b (held places v) (none_of B) refl (sym (place v) ∙ e));
          are = walk.are;
          ready = ready-then new stays;
        }

  pub next : (step : Step) (after : List (Option B)) (new : S) → get_or planned i (Load 0) ≡ step → Takes m step places after now new (Ok tt) → StaysReady m now new → Walking m n (take (i + 1) planned) after old new
  next (Load unit) after new is t stays = next-load unit after new stays is t
  next (Put unit) after new is t stays = next-put unit after new stays is t
  next (Emit unit) after new is t stays = next-emit unit after new stays is t

-- all bodies, as a list
listed : {B : Type 0} (n : ℕ) (f : ℕ → Option B) → ((unit : ℕ) → unit < n → IsSome (f unit)) → (bodies : List B) × (length bodies ≡ n) × ((unit : ℕ) → unit < n → slice_get bodies unit ≡ f unit)
listed zero f h = ([], refl, λ unit less. absurd (omega (arith, less)))
listed {B} (suc n) f h = by_first (f 0) refl (h 0 (omega arith)) (listed n (λ unit. f (suc unit)) (λ unit less. h (suc unit) (omega (arith, less))))
  where
    by_first : (o : Option B) → f 0 ≡ o → IsSome o → ((bodies : List B) × (length bodies ≡ n) × ((unit : ℕ) → unit < n → slice_get bodies unit ≡ f (suc unit)))
        → (bodies : List B) × (length bodies ≡ suc n) × ((unit : ℕ) → unit < suc n → slice_get bodies unit ≡ f unit)
    by_first None e some rest = absurd (true≢false (sym some))
    by_first (Some x) e some rest = (x ∷ rest.0, ap suc rest.1, at)
      where
        at : (unit : ℕ) → unit < suc n → slice_get (x ∷ rest.0) unit ≡ f unit
        at zero less = sym e
        at (suc unit) less = rest.2 unit (omega (arith, less))

-- all was done
pub finish : {S B E : Type 0} (m : Meaning S B E) (n : ℕ) (planned : List Step) (w : IsWhole n planned) (places : List (Option B)) (old now : S) → Walking m n planned places old now → DidAll m n planned old now
finish m n planned w places old now walk =
    let all = listed n walk.bodies (λ unit less. some-flag (walk.bodies unit) (omega (arith, walk.known unit, w.loads unit, once-below n unit less))) in
    record {
      bodies = all.0;
      many = all.1;
      did = did-more m walk.bodies (slice_get all.0) (λ unit body e. all.2 unit (within-below n unit (omega (arith, walk.known unit, w.loads unit, flag-some (walk.bodies unit) body e))) ∙ e) planned old now walk.did;
    }
