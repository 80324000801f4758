-- Unit after unit.
use Rattle.std.proofs.Common.{◌≡◌, ℕ, zero, suc, ◌+◌, ◌-◌, ◌<◌, Option, Some, None, Result, Ok, Err, List, [], ◌∷◌, ◌++◌, length, slice_get, append_assoc, append-nil, add-one, sym, ap, refl, subst, ◌∙◌, arith}
use Rattle.std.specs.Prelude.{⊤}
use Rattle.std.proofs.lemmas.List.{length_push}
use Rattle.std.proofs.lemmas.Option.{none-some}
use Rattle.std.proofs.lemmas.Grind.{flat_map-append}
use Rattle.tb_types.specs.Bags.{below}
use Rattle.pass_order.specs.declared.step.Step.{Step}
use Rattle.pass_order.specs.declared.step.Step.TheVariants.{Load, Put, Emit}
use Rattle.pass_order.specs.Whole.{steps_on, steps_in_file}
use Rattle.pass_order.specs.Driven.{Meaning, Did, DidAll, DidSome, DrivesUnit, StaysReady}
use Rattle.pass_order.proofs.Doing.{Knows, did-more, did-append, some-behind, some-before}

-- the steps of one unit more, and the units behind it
one-more : (n : ℕ) → steps_in_file (suc n) ≡ steps_in_file n ++ steps_on n
one-more n = flat_map-append steps_on (below n) (n ∷ [])

behind : (n more : ℕ) → (rest : List Step) × (steps_in_file (n + more) ≡ steps_in_file n ++ rest)
behind n zero = ([], ap steps_in_file (none n) ∙ sym (append-nil (steps_in_file n)))
  where
    none : (n : ℕ) → n + 0 ≡ n
    none n = omega arith
behind n (suc more) =
    let r = behind n more in
    (r.0 ++ steps_on (n + more), ap steps_in_file (next n more) ∙ one-more (n + more) ∙ ap (λ (xs : List Step). xs ++ steps_on (n + more)) r.1 ∙ append_assoc (steps_in_file n) r.0 (steps_on (n + more)))
  where
    next : (n more : ℕ) → n + suc more ≡ suc (n + more)
    next n more = omega arith

-- a list with one element more
got-more : {B : Type 0} (xs : List B) (x : B) → Knows (slice_get xs) (slice_get (xs ++ x ∷ []))
got-more [] x unit body e = absurd (none-some body e)
got-more (y ∷ xs) x zero body e = e
got-more (y ∷ xs) x (suc u) body e = got-more xs x u body e

got-last : {B : Type 0} (n : ℕ) (xs : List B) (x : B) → length xs ≡ n → slice_get (xs ++ x ∷ []) n ≡ Some x
got-last zero [] x e = refl
got-last zero (y ∷ xs) x e = absurd (omega (arith, e))
got-last (suc n) [] x e = absurd (omega (arith, e))
got-last (suc n) (y ∷ xs) x e = got-last n xs x (omega (arith, e))

got-none : {B : Type 0} (n : ℕ) (xs : List B) → length xs ≡ n → slice_get xs n ≡ None
got-none zero [] e = refl
got-none zero (y ∷ xs) e = absurd (omega (arith, e))
got-none (suc n) [] e = absurd (omega (arith, e))
got-none (suc n) (y ∷ xs) e = got-none n xs (omega (arith, e))

-- the steps of one unit, up to the one that failed
module _ {S B E : Type 0} (m : Meaning S B E) (unit : ℕ) (fault : E) (old new : S) where
  pub load-failed : m.loads old unit (Err fault) new → DrivesUnit m unit old new (Err fault)
  load-failed e = (
    None,
    λ bodies _. record {
      done = [];
      failed = Load unit;
      rest = Put unit ∷ Emit unit ∷ [];
      are = refl;
      mid = old;
      did = refl;
      fails = e;
    },
  )

  pub put-failed : (body : B) (mid : S) → m.loads old unit (Ok body) mid → m.puts mid unit body (Err fault) new → DrivesUnit m unit old new (Err fault)
  put-failed body mid l e = (
    Some body,
    λ bodies known. record {
      done = Load unit ∷ [];
      failed = Put unit;
      rest = Emit unit ∷ [];
      are = refl;
      mid = mid;
      did = (mid, (body, known, l), refl);
      fails = (body, known, e);
    },
  )

pub emitted-last : {S B E : Type 0} (m : Meaning S B E) (unit : ℕ) (body : B) (a b c d : S) (r : Result ⊤ E)
    → m.loads a unit (Ok body) b → m.puts b unit body (Ok tt) c → m.emits c unit body r d → DrivesUnit m unit a d r
emitted-last m unit body a b c d (Ok _) l p e = (body, λ bodies known. (b, (body, known, l), (c, (body, known, p), (d, (body, known, e), refl))))
emitted-last m unit body a b c d (Err fault) l p e = (
  Some body,
  λ bodies known. record {
    done = Load unit ∷ Put unit ∷ [];
    failed = Emit unit;
    rest = [];
    are = refl;
    mid = c;
    did = (b, (body, known, l), (c, (body, known, p), refl));
    fails = (body, known, e);
  },
)

module _ {S B E : Type 0} (m : Meaning S B E) where
  -- the first units were done, and all are ready
  pub record Doing (units unit : ℕ) (old now : S) : Type 0 where
    pub did : DidAll m unit (steps_in_file unit) old now
    pub ready : (u : ℕ) → u < units → m.ready now u

  pub start : (units : ℕ) (old : S) → ((u : ℕ) → u < units → m.ready old u) → Doing units 0 old old
  start units old r = record { did = record { bodies = []; many = refl; did = refl }; ready = r }

  pub next : (units unit : ℕ) (old now new : S) → Doing units unit old now → DrivesUnit m unit now new (Ok tt) → StaysReady m now new → Doing units (unit + 1) old new
  next units unit old now new d e stays = rw add-one (
      let bodies = d.did.bodies ++ e.0 ∷ [] in
      let known = got-last unit d.did.bodies e.0 d.did.many in
      let before = did-more m (slice_get d.did.bodies) (slice_get bodies) (got-more d.did.bodies e.0) (steps_in_file unit) old now d.did.did in
      record {
        did = record {
          bodies = bodies;
          many = omega (arith, length_push d.did.bodies e.0, d.did.many);
          did = subst (λ (xs : List Step). Did m (slice_get bodies) xs old new) (sym (one-more unit)) (did-append m (slice_get bodies) (steps_in_file unit) (steps_on unit) old now new before (e.1 (slice_get bodies) known));
        };
        ready = λ u h. stays u (d.ready u h);
      })

  -- a unit that failed
  failed-with : (units unit : ℕ) (fault : E) (old now new : S) → unit < units → (d : Doing units unit old now) (bodies : ℕ → Option B) → Knows (slice_get d.did.bodies) bodies
      → DidSome m bodies (steps_on unit) fault now new → DidSome m bodies (steps_in_file units) fault old new
  failed-with units unit fault old now new less d bodies k e =
      let rest = behind (suc unit) (units - suc unit) in
      let all : suc unit + (units - suc unit) ≡ units = omega (arith, less) in
      let before = did-more m (slice_get d.did.bodies) bodies k (steps_in_file unit) old now d.did.did in
      let some = some-behind m bodies (steps_in_file unit) (steps_on unit) fault old now new before e in
      let there : steps_in_file units ≡ (steps_in_file unit ++ steps_on unit) ++ rest.0 =
      ap steps_in_file (sym all) ∙ rest.1 ∙ ap (λ (xs : List Step). xs ++ rest.0) (one-more unit) in
      subst (λ (xs : List Step). DidSome m bodies xs fault old new) (sym there) (some-before m bodies (steps_in_file unit ++ steps_on unit) rest.0 fault old new some)

  pub failed : (units unit : ℕ) (fault : E) (old now new : S) → unit < units → Doing units unit old now → DrivesUnit m unit now new (Err fault) → (bodies : ℕ → Option B) × DidSome m bodies (steps_in_file units) fault old new
  failed units unit fault old now new less d e = by_known e.0 units unit fault old now new less d e.1
    where
      by_known : (known : Option B) (units unit : ℕ) (fault : E) (old now new : S) → unit < units → (d : Doing units unit old now)
          → ((bodies : ℕ → Option B) → bodies unit ≡ known → DidSome m bodies (steps_on unit) fault now new)
          → (bodies : ℕ → Option B) × DidSome m bodies (steps_in_file units) fault old new
      by_known None units unit fault old now new less d e =
          let bodies : ℕ → Option B = slice_get d.did.bodies in
          (bodies, failed-with units unit fault old now new less d bodies (λ _ _ known. known) (e bodies (got-none unit d.did.bodies d.did.many)))
      by_known (Some body) units unit fault old now new less d e =
          let bodies : ℕ → Option B = slice_get (d.did.bodies ++ body ∷ []) in
          (bodies, failed-with units unit fault old now new less d bodies (got-more d.did.bodies body) (e bodies (got-last unit d.did.bodies body d.did.many)))
