-- What was done by a list of steps over blocks.
use Rattle.std.proofs.Common.{◌≡◌, ℕ, Option, None, Some, option_to_list, Ok, List, [], ◌∷◌, ◌++◌, All, map, flat_map, slice_get, refl, sym, ap, subst, ◌∙◌}
use Rattle.std.proofs.lemmas.List.{append-nil, append_assoc, map-append}
use Rattle.std.proofs.lemmas.List.Elements.{All-nil, All-cons, All-append}
use Rattle.std.proofs.lemmas.Grind.{flat_map-append}
use Rattle.tb_outside.specs.Source.{SourceSeen}
use Rattle.pbf_blobs.specs.declared.block.BlockAt.{BlockAt}
use Rattle.pass_order.specs.declared.step.Step.{Step}
use Rattle.pass_order.specs.declared.step.Step.TheVariants.{Load, Put, Emit}
use Rattle.pass_order.specs.Driven.{Does, Did}
use Rattle.pass_order.specs.Whole.{load_of, put_of, emit_of, loaded, stored, emitted}
use Rattle.tile_model.specs.Loads.{whole, Logs}
use Rattle.block_pass.specs.declared.steps.BlockSteps.{BlockSteps}
use Rattle.block_pass.specs.Meaning.{Meaning, PutAnswers, EmitAnswers}
use Rattle.block_pass.specs.Loading.{IsGiven}
use Rattle.block_pass.specs.Orders.{blocks_at}
use Rattle.block_pass.specs.Steps.{IsSame, Loads, Works, steps_meaning}
use Rattle.block_pass.proofs.Logs.{logs-none, logs-on}

-- the block in a place, as it was read, where both are there
abbrev pub both-at : {B : Type 0} → Option BlockAt → Option B → List (BlockAt × B)
both-at None body = []
both-at (Some block) None = []
both-at (Some block) (Some body) = (block, body) ∷ []

abbrev pub read-at : {B : Type 0} → List BlockAt → (ℕ → Option B) → List ℕ → List (BlockAt × B)
read-at blocks bodies units = flat_map (λ u. both-at (slice_get blocks u) (bodies u)) units

module _ {W B F : Type 0} (m : Meaning W B F) (blocks : List BlockAt) (told : Option (List ℕ)) where
  -- the body of a unit was read so
  pub record IsUnit (bodies : ℕ → Option B) (unit : ℕ) : Type 0 where
    pub block : BlockAt
    pub is : slice_get blocks unit ≡ Some block
    pub body : B
    pub known : bodies unit ≡ Some body
    pub given : IsGiven m told (block, body)

module _ {R W B F : Type 0} (seen : R → SourceSeen) (m : Meaning W B F) (blocks : List BlockAt) (told : Option (List ℕ)) where
  -- the steps are those over these blocks and a reader that tells this
  pub record IsOver (s : BlockSteps R W) : Type 0 where
    pub blocks_are : s.blocks.now ≡ blocks
    pub bytes : (seen s.reader.now).bytes ≡ told

  pub record Chain (bodies : ℕ → Option B) (steps : List Step) (a b : BlockSteps R W) : Type 0 where
    pub same : IsSame seen m a b
    pub over : IsOver b
    pub faults : (seen b.reader.now).faults ≡ (seen a.reader.now).faults
    pub logs : Logs (seen a.reader.now) (seen b.reader.now) (map whole (blocks_at blocks (loaded steps)))
    pub given : All (IsUnit m blocks told bodies) (loaded steps)
    pub did :
        (start : W) (puts emits : List (BlockAt × B)) → m.did puts emits start a.work.now
        → m.did (puts ++ read-at blocks bodies (stored steps)) (emits ++ read-at blocks bodies (emitted steps)) start b.work.now

  pub same-on : (a b c : BlockSteps R W) → IsSame seen m a b → IsSame seen m b c → IsSame seen m a c
  same-on a b c h k = record { reader = k.reader ∙ h.reader; work = k.work ∙ h.work; blocks = k.blocks ∙ h.blocks }

  chain-none : (bodies : ℕ → Option B) (a : BlockSteps R W) → IsOver a → Chain bodies [] a a
  chain-none bodies a over = record {
    same = record { reader = refl; work = refl; blocks = refl };
    over = over;
    faults = refl;
    logs = logs-none (seen a.reader.now);
    given = All-nil (IsUnit m blocks told bodies);
    did = λ start puts emits h. subst (λ ps. m.did ps (emits ++ []) start a.work.now) (sym (append-nil puts)) (subst (λ es. m.did puts es start a.work.now) (sym (append-nil emits)) h);
  }

  -- some steps behind others
  chain-on : (bodies : ℕ → Option B) (xs ys : List Step) (a b c : BlockSteps R W) → Chain bodies xs a b → Chain bodies ys b c → Chain bodies (xs ++ ys) a c
  chain-on bodies xs ys a b c h k =
      let loads = flat_map-append load_of xs ys in
      let puts = flat_map-append put_of xs ys in
      let emits = flat_map-append emit_of xs ys in
      let read : List ℕ → List (BlockAt × B) = read-at blocks bodies in
      record {
        same = same-on a b c h.same k.same;
        over = k.over;
        faults = k.faults ∙ h.faults;
        logs =
            subst (λ (more : List (ℕ × ℕ)). Logs (seen a.reader.now) (seen c.reader.now) more)
            (sym (ap (λ us. map whole (blocks_at blocks us)) loads ∙ ap (map whole) (flat_map-append (λ place. option_to_list (slice_get blocks place)) (loaded xs) (loaded ys)) ∙ map-append whole (blocks_at blocks (loaded xs)) (blocks_at blocks (loaded ys))))
            (logs-on (seen a.reader.now) (seen b.reader.now) (seen c.reader.now) _ _ h.logs k.logs);
        given = subst (All (IsUnit m blocks told bodies)) (sym loads) (All-append (IsUnit m blocks told bodies) (loaded xs) (loaded ys) h.given k.given);
        did = λ start ps es d.
            let both = λ (us vs : List ℕ). flat_map-append (λ u. both-at (slice_get blocks u) (bodies u)) us vs in
            let put : (ps ++ read (stored xs)) ++ read (stored ys) ≡ ps ++ read (stored (xs ++ ys)) = append_assoc ps (read (stored xs)) (read (stored ys)) ∙ ap (λ zs. ps ++ zs) (sym (ap read puts ∙ both (stored xs) (stored ys))) in
            let emit : (es ++ read (emitted xs)) ++ read (emitted ys) ≡ es ++ read (emitted (xs ++ ys)) =
            append_assoc es (read (emitted xs)) (read (emitted ys)) ∙ ap (λ zs. es ++ zs) (sym (ap read emits ∙ both (emitted xs) (emitted ys))) in
            subst (λ zs. m.did zs (es ++ read (emitted (xs ++ ys))) start c.work.now) put
            (subst (λ zs. m.did ((ps ++ read (stored xs)) ++ read (stored ys)) zs start c.work.now) emit (k.did start (ps ++ read (stored xs)) (es ++ read (emitted xs)) (h.did start ps es d)));
      }

  -- one step
  over-next : (a b : BlockSteps R W) → IsOver a → IsSame seen m a b → (seen b.reader.now).bytes ≡ (seen a.reader.now).bytes → IsOver b
  over-next a b over same bytes = record { blocks_are = same.blocks ∙ over.blocks_are; bytes = bytes ∙ over.bytes }

  one-load : (bodies : ℕ → Option B) (unit : ℕ) (body : B) (a b : BlockSteps R W) → IsOver a → bodies unit ≡ Some body → Loads seen m a unit (Ok body) b → Chain bodies (Load unit ∷ []) a b
  one-load bodies unit body a b over known h =
      let is : slice_get blocks unit ≡ Some h.block = subst (λ (bs : List BlockAt). slice_get bs unit ≡ Some h.block) over.blocks_are h.is in
      record {
        same = h.same;
        over = over-next a b over h.same h.answers.bytes;
        faults = h.answers.told.0;
        logs = subst (λ (o : Option BlockAt). Logs (seen a.reader.now) (seen b.reader.now) (map whole (option_to_list o ++ []))) (sym is) h.answers.told.1;
        given = All-cons (IsUnit m blocks told bodies) unit [] (record { block = h.block; is = is; body = body; known = known; given = subst (λ (o : Option (List ℕ)). IsGiven m o (h.block, body)) over.bytes h.answers.told.2 }) (All-nil (IsUnit m blocks told bodies));
        did = λ start ps es d.
            subst (λ w. m.did (ps ++ []) (es ++ []) start w) (sym h.work) (subst (λ zs. m.did zs (es ++ []) start a.work.now) (sym (append-nil ps)) (subst (λ zs. m.did ps zs start a.work.now) (sym (append-nil es)) d));
      }

  module _ (bodies : ℕ → Option B) (unit : ℕ) (body : B) (a b : BlockSteps R W) (over : IsOver a) (known : bodies unit ≡ Some body) where
    one-read : (block : BlockAt) → slice_get a.blocks.now unit ≡ Some block → read-at blocks bodies (unit ∷ []) ≡ (block, body) ∷ []
    one-read block at =
        let is : slice_get blocks unit ≡ Some block = subst (λ (bs : List BlockAt). slice_get bs unit ≡ Some block) over.blocks_are at in
        ap (λ (o : Option BlockAt). both-at o (bodies unit) ++ []) is ∙ ap (λ (o : Option B). both-at (Some block) o ++ []) known

    still-logs : b.reader.now ≡ a.reader.now → Logs (seen a.reader.now) (seen b.reader.now) []
    still-logs same = subst (λ (r : R). Logs (seen a.reader.now) (seen r) []) (sym same) (logs-none (seen a.reader.now))

    one-put : Works seen m (λ block. PutAnswers m (block, body) a.work.now b.work.now) a unit (Ok tt) b → Chain bodies (Put unit ∷ []) a b
    one-put h = record {
      same = h.same;
      over = over-next a b over h.same (ap (λ (r : R). (seen r).bytes) h.reader);
      faults = ap (λ (r : R). (seen r).faults) h.reader;
      logs = still-logs h.reader;
      given = All-nil (IsUnit m blocks told bodies);
      did = λ start ps es d.
          subst (λ zs. m.did (ps ++ zs) (es ++ []) start b.work.now) (sym (one-read h.block h.is)) (subst (λ zs. m.did (ps ++ (h.block, body) ∷ []) zs start b.work.now) (sym (append-nil es)) (h.answers_are start ps es d));
    }

    one-emit : Works seen m (λ block. EmitAnswers m (block, body) a.work.now b.work.now) a unit (Ok tt) b → Chain bodies (Emit unit ∷ []) a b
    one-emit h = record {
      same = h.same;
      over = over-next a b over h.same (ap (λ (r : R). (seen r).bytes) h.reader);
      faults = ap (λ (r : R). (seen r).faults) h.reader;
      logs = still-logs h.reader;
      given = All-nil (IsUnit m blocks told bodies);
      did = λ start ps es d.
          subst (λ zs. m.did (ps ++ []) (es ++ zs) start b.work.now) (sym (one-read h.block h.is)) (subst (λ zs. m.did zs (es ++ (h.block, body) ∷ []) start b.work.now) (sym (append-nil ps)) (h.answers_are start ps es d));
    }

  one : (bodies : ℕ → Option B) (step : Step) (a b : BlockSteps R W) → IsOver a → Does (steps_meaning seen m) bodies step a b → Chain bodies (step ∷ []) a b
  one bodies (Load unit) a b over d = one-load bodies unit d.0 a b over d.1 d.2
  one bodies (Put unit) a b over d = one-put bodies unit d.0 a b over d.1 d.2
  one bodies (Emit unit) a b over d = one-emit bodies unit d.0 a b over d.1 d.2

  pub chain : (bodies : ℕ → Option B) (steps : List Step) (a b : BlockSteps R W) → IsOver a → Did (steps_meaning seen m) bodies steps a b → Chain bodies steps a b
  chain bodies [] a b over d = subst (λ s. Chain bodies [] a s) (sym d) (chain-none bodies a over)
  chain bodies (step ∷ steps) a b over d =
      let first = one bodies step a d.0 over d.1 in
      chain-on bodies (step ∷ []) steps a d.0 b first (chain bodies steps d.0 b first.over d.2)
