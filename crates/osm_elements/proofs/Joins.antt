-- Laws of what was found so far.
use Rattle.std.proofs.Common.{◌≡◌, ℕ, ◌+◌, ◌<◌, ◌≤◌, nat_lt, Bool, true, false, if◌then◌else◌, Option, None, Some, IsErrAnd, Result, Ok, Err, List, [], ◌∷◌, ◌++◌, refl, ap, sym, subst, ◌∙◌, arith, append_assoc, append-nil}
use Rattle.std.proofs.lemmas.Bool.{ltb-true, ltb-false, lt-ltb, le-ltb}
use Rattle.std.specs.Prelude.{is_some}
use Rattle.tb_types.specs.declared.damage.Why.{Why}
use Rattle.tb_types.specs.declared.damage.Why.TheVariants as reasons
use Rattle.osm_elements.specs.declared.fault.BlockErr.{BlockErr}
use Rattle.osm_elements.specs.declared.fault.BlockErr.TheVariants as faults
use Rattle.osm_elements.specs.declared.taker.WalkErr.{WalkErr}
use Rattle.osm_elements.specs.declared.taker.WalkErr.TheVariants.{Bad, Memory, Taker}
use Rattle.osm_elements.specs.Reasons.{rank, first, IsStop}
use Rattle.osm_elements.specs.Elements.{Element}
use Rattle.osm_elements.specs.Block.{Found, joined, every}
use Rattle.osm_elements.specs.WalkErrs.{walk_err}
use Rattle.osm_elements.specs.Taking.{IsPrefixOf, TookSome}
use Rattle.osm_elements.specs.SoFar.{Holds, Adds, After, Ended, Ends, Grows}

first-assoc : (u v w : Why) → first (first u v) w ≡ first u (first v w)
first-assoc u v w = go (nat_lt (rank v) (rank u)) (nat_lt (rank w) (rank v)) refl refl
  where
    go : (a b : Bool) → nat_lt (rank v) (rank u) ≡ a → nat_lt (rank w) (rank v) ≡ b → first (first u v) w ≡ first u (first v w)
    go true true p q =
        let less : rank w < rank u = omega (arith, ltb-true (rank v) (rank u) p, ltb-true (rank w) (rank v) q) in
        let r : nat_lt (rank w) (rank u) ≡ true = lt-ltb (rank w) (rank u) less in
        rw (p, q, r) refl
    go true false p q = rw (p, q, p) refl
    go false true p q = rw (p, q) refl
    go false false p q =
        let more : rank u ≤ rank w = omega (arith, ltb-false (rank v) (rank u) p, ltb-false (rank w) (rank v) q) in
        let r : nat_lt (rank w) (rank u) ≡ false = le-ltb (rank w) (rank u) more in
        rw (p, q, r, p) refl

first-wire : (u : Why) → first u reasons.Wire ≡ reasons.Wire
first-wire reasons.Wire = refl
first-wire _ = refl

wire-first : (u : Why) → first reasons.Wire u ≡ reasons.Wire
wire-first reasons.Wire = refl
wire-first _ = refl

pub joined-assoc : (a b c : Found) → joined (joined a b) c ≡ joined a (joined b c)
joined-assoc (Ok x) (Ok y) (Ok z) = ap Ok (append_assoc x y z)
joined-assoc (Ok x) (Ok y) (Err w) = refl
joined-assoc (Ok x) (Err v) (Ok z) = refl
joined-assoc (Ok x) (Err v) (Err w) = refl
joined-assoc (Err u) (Ok y) (Ok z) = refl
joined-assoc (Err u) (Ok y) (Err w) = refl
joined-assoc (Err u) (Err v) (Ok z) = refl
joined-assoc (Err u) (Err v) (Err w) = ap Err (first-assoc u v w)

pub joined-none : (a : Found) → joined a (Ok []) ≡ a
joined-none (Ok xs) = ap Ok (append-nil xs)
joined-none (Err why) = refl

pub none-joined : (a : Found) → joined (Ok []) a ≡ a
none-joined (Ok xs) = refl
none-joined (Err why) = refl

pub joined-wire : (a : Found) → joined a (Err reasons.Wire) ≡ Err reasons.Wire
joined-wire (Ok xs) = refl
joined-wire (Err why) = ap Err (first-wire why)

pub wire-joined : (a : Found) → joined (Err reasons.Wire) a ≡ Err reasons.Wire
wire-joined (Ok xs) = refl
wire-joined (Err why) = ap Err (wire-first why)

-- a prefix of the elements is one of more elements
prefix_more : (given : List Element) (a b : Found) → IsPrefixOf given a → IsPrefixOf given (joined a b)
prefix_more given (Ok xs) (Ok ys) h = (h.0 ++ ys, ap (λ zs. zs ++ ys) h.1 ∙ append_assoc given h.0 ys)
prefix_more given (Ok xs) (Err why) h = tt
prefix_more given (Err why) (Ok ys) h = tt
prefix_more given (Err why) (Err other) h = tt

pub nothing_given : (found : Found) → IsPrefixOf [] found
nothing_given (Ok xs) = (xs, refl)
nothing_given (Err why) = tt

all_given : (xs : List Element) → IsPrefixOf xs (Ok xs)
all_given xs = ([], sym (append-nil xs))

module _ {T Stop : Type 0} (steps : T → List Element → T → Type 0) (stops : T → List Element → T → Stop → Type 0) where
  -- On the way: with what is left to add, what is held gives all that is to be added to what was held at the start.
  abbrev pub Going : T × Option Why → T × Option Why → Found → Found → Type 0
  Going old now left all = (start : T) (so_far : Found) → Holds steps stops start old so_far → (m : Found) × Holds steps stops start now m × (joined m left ≡ joined so_far all)

  pub going_start : (now : T × Option Why) (all : Found) → Going now now all all
  going_start now all start so_far h = (so_far, h, refl)

  pub going_step : (old now next : T × Option Why) (part rest all : Found) → Going old now (joined part rest) all → Grows steps stops now next part → Going old next rest all
  going_step old now next part rest all going grows start so_far h =
      let before = going start so_far h in
      (joined before.0 part, grows start before.0 before.1, joined-assoc before.0 part rest ∙ before.2)

  ended_more : (start taker : T) (e : WalkErr Stop) (a b : Found) → Ended steps stops start taker e a → Ended steps stops start taker e (joined a b)
  ended_more start taker (Bad why) a b h = (h.0, ap (λ x. joined x b) h.1 ∙ wire-joined b, h.2)
  ended_more start taker Memory a b h = (h.0, h.1, prefix_more h.0 a b h.2)
  ended_more start taker (Taker stop) a b h = (h.0, h.1, prefix_more h.0 a b h.2)

  ended : (start taker : T) (e : WalkErr Stop) (m part rest whole : Found) → joined m (joined part rest) ≡ whole → Ended steps stops start taker e (joined m part) → Ended steps stops start taker e whole
  ended start taker e m part rest whole same h =
      subst (Ended steps stops start taker e) (joined-assoc m part rest ∙ same) (ended_more start taker e (joined m part) rest h)

  pub going_err : (old now : T × Option Why) (taker : T) (e : WalkErr Stop) (part rest all : Found) → Going old now (joined part rest) all → Ends steps stops now taker e part → Ends steps stops old taker e all
  going_err old now taker e part rest all going ends start so_far h =
      let before = going start so_far h in
      ended start taker e before.0 part rest (joined so_far all) before.2 (ends start before.0 before.1)

  pub going_end : (old now : T × Option Why) (all : Found) → Going old now (Ok []) all → Grows steps stops old now all
  going_end old now all going start so_far h =
      let before = going start so_far h in
      subst (Holds steps stops start now) (sym (joined-none before.0) ∙ before.2) before.1

  -- what the last call adds is all that was left
  pub going_last : {X : Type 0} (old now new : T × Option Why) (r : Result X (WalkErr Stop)) (part all : Found) → Going old now part all → Adds steps stops now new r part → Adds steps stops old new r all
  going_last old now new r part all going adds start so_far h =
      let before = going start so_far h in subst (After steps stops start new r) before.2 (adds start before.0 before.1)

  pub going_more : (old now new : T × Option Why) (part all : Found) → Going old now part all → Grows steps stops now new part → Grows steps stops old new all
  going_more old now new part all going grows start so_far h =
      let before = going start so_far h in subst (Holds steps stops start new) before.2 (grows start before.0 before.1)

  pub going_last_err : (old now : T × Option Why) (taker : T) (e : WalkErr Stop) (part all : Found) → Going old now part all → Ends steps stops now taker e part → Ends steps stops old taker e all
  going_last_err old now taker e part all going ends start so_far h =
      let before = going start so_far h in subst (Ended steps stops start taker e) before.2 (ends start before.0 before.1)

  -- nothing is added before what is added then
  pub going_after : (old mid : T × Option Why) (all : Found) → Grows steps stops old mid (Ok []) → Going old mid all all
  going_after old mid all grows start so_far h = (joined so_far (Ok []), grows start so_far h, ap (λ x. joined x all) (joined-none so_far))

  pub nothing_ends : (old : T × Option Why) (taker : T) (e : WalkErr Stop) (all : Found) → Ends steps stops old taker e (Ok []) → Ends steps stops old taker e all
  nothing_ends old taker e all ends start so_far h = ended start taker e so_far (Ok []) all (joined so_far all) (ap (joined so_far) (none-joined all)) (ends start so_far h)

  -- two parts, one after another
  pub first_ends : (old : T × Option Why) (taker : T) (e : WalkErr Stop) (a b : Found) → Ends steps stops old taker e a → Ends steps stops old taker e (joined a b)
  first_ends old taker e a b ends = going_err old old taker e a b (joined a b) (going_start old (joined a b)) ends

  pub then_adds : {X : Type 0} (old mid new : T × Option Why) (r : Result X (WalkErr Stop)) (a b : Found) → Grows steps stops old mid a → Adds steps stops mid new r b → Adds steps stops old new r (joined a b)
  then_adds old mid new r a b grows adds =
      going_last old mid new r b (joined a b) (going_step old old mid a b (joined a b) (going_start old (joined a b)) grows) adds

  -- what `?` hands on is the error of the call
  pub ended_on : {X : Type 0} (old new : T × Option Why) (r : Result X (WalkErr Stop)) (e : WalkErr Stop) (part : Found) → IsErrAnd r (λ x. x ≡ e) → Ends steps stops old new.0 e part → Adds steps stops old new r part
  ended_on old new (Ok x) e part h k = absurd h
  ended_on old new (Err x) e part h k = subst (λ (y : WalkErr Stop). Ends steps stops old new.0 y part) (sym h) k

  -- whatever was found, the taker took something
  took_some : (start : T) (now : T × Option Why) (so_far : Found) → Holds steps stops start now so_far → TookSome steps start now.0
  took_some start now (Ok xs) h = (xs, h.1)
  took_some start now (Err why) h = h.1

  -- want of memory before anything is added
  pub starved : (old : T × Option Why) (more : Found) → Ends steps stops old old.0 Memory more
  starved old more start (Ok xs) h = (xs, h.1, prefix_more xs (Ok xs) more (all_given xs))
  starved old more start (Err why) h = (h.1.0, h.1.1, prefix_more h.1.0 (Err why) more tt)

  -- no message
  pub wire_ends : (old : T × Option Why) (why : Why) (more : Found) → why ≡ reasons.Wire → more ≡ Err reasons.Wire → Ends steps stops old old.0 (Bad why) more
  wire_ends old why more wire is start so_far h = (wire, ap (joined so_far) is ∙ joined-wire so_far, took_some start old so_far h)

  -- what ends a call that asks no taker
  pub block_ends : (old : T × Option Why) (e : BlockErr) (more : Found) → ((why : Why) → e ≡ faults.Bad why → (why ≡ reasons.Wire) × (more ≡ Err reasons.Wire)) → Ends steps stops old old.0 (walk_err e) more
  block_ends old (faults.Bad why) more h = let is = h why refl in wire_ends old why more is.0 is.1
  block_ends old faults.Memory more h = starved old more

  -- where a reason stands, elements don't count
  pub skipped : (now : T × Option Why) (more : List Element) → is_some now.1 ≡ true → Grows steps stops now now (Ok more)
  skipped now more some start (Ok xs) h = absurd (none_there now.1 some h.0)
    where
      none_there : (w : Option Why) → is_some w ≡ true → w ≡ None → ⊥
      none_there None e k = cc
      none_there (Some x) e k = cc
  skipped now more some start (Err why) h = h

  -- a reason more
  pub refused : (taker : T) (old new : Option Why) (why : Why) → (old ≡ None → new ≡ Some why) → ((before : Why) → old ≡ Some before → new ≡ Some (first before why)) → Grows steps stops (taker, old) (taker, new) (Err why)
  refused taker old new why k l start (Ok xs) h = (k h.0, (xs, h.1))
  refused taker old new why k l start (Err before) h = (l before h.0, h.1)

  module _ (on : (a b c : T) (some more : List Element) → steps a some b → steps b more c → steps a (some ++ more) c)
      (after : (a b c : T) (some more : List Element) (stop : Stop) → steps a some b → stops b more c stop → stops a (some ++ more) c stop) where
    -- elements more
    pub taken : (old new : T) (why : Option Why) (more : List Element) → steps old more new → Grows steps stops (old, why) (new, why) (Ok more)
    taken old new why more step start (Ok xs) h = (h.0, on start old new xs more h.1 step)
    taken old new why more step start (Err w) h = (h.0, (h.1.0 ++ more, on start old new h.1.0 more h.1.1 step))

    -- the taker stops
    pub taker_stops : (old new : T) (why : Option Why) (more : List Element) (stop : Stop) → stops old more new stop → Ends steps stops (old, why) new (Taker stop) (Ok more)
    taker_stops old new why more stop h start (Ok xs) k = (xs ++ more, after start old new xs more stop k.1 h, all_given (xs ++ more))
    taker_stops old new why more stop h start (Err w) k = (k.1.0 ++ more, after start old new k.1.0 more stop k.1.1 h, tt)
