-- What blocks that were loaded say.
use Rattle.std.proofs.Common.{◌≡◌, ℕ, Option, None, Some, IfSome, Result, Ok, Err, List, [], ◌∷◌, map, All, Contains, inl, inr, refl, sym, ap, subst, ◌∙◌}
use Rattle.std.proofs.lemmas.List.Elements.{All-nil, All-cons, All-head, All-tail, All-contains}
use Rattle.tb_types.specs.Results.{◌>>=◌}
use Rattle.tb_types.specs.Counts.{Counted}
use Rattle.tb_types.specs.declared.damage.Damage.{Damage}
use Rattle.tb_types.specs.declared.damage.Why.{Why}
use Rattle.tb_outside.specs.Source.{SourceSeen}
use Rattle.pbf_blobs.specs.declared.block.BlockAt.{BlockAt}
use Rattle.pbf_blobs.specs.declared.block.BlockKind.TheVariants as kinds
use Rattle.osm_elements.specs.declared.element.Block.{Block}
use Rattle.pass_order.specs.declared.order.Order.{Order}
use Rattle.tile_model.specs.Contents.{Content, elements, block_in, body_at, content_at, contents_at, content_of, in_block, with_later}
use Rattle.block_pass.specs.declared.error.PassErr.{PassErr}
use Rattle.block_pass.specs.declared.error.PassErr.TheVariants as errors
use Rattle.block_pass.specs.Meaning.{Meaning}
use Rattle.block_pass.specs.Loading.{IsGiven}
use Rattle.block_pass.specs.Passes.{Passed, PassTold, SomeRefused}
use Rattle.pass_survey.specs.Found.{IsOfElements}
use Rattle.build_one.specs.declared.stop.PassStop.{PassStop}
use Rattle.build_one.specs.declared.stop.PassStop.TheVariants as stops
use Rattle.build_one.specs.Passes.{IsDamaged, Reads, as_content}
use Rattle.build_one.specs.Survey.{source_failed}
use Rattle.build_one.specs.Works.{ReadsElements, pass_stop_in, as_read}

-- what holds of an extract that is told
pub any_told : (told : Option (List ℕ)) (P : List ℕ → Type 0) → ((extract : List ℕ) → P extract) → IfSome told P
any_told None P f = tt
any_told (Some extract) P f = f extract

pub map_told : (told : Option (List ℕ)) (P Q : List ℕ → Type 0) → ((extract : List ℕ) → P extract → Q extract) → IfSome told P → IfSome told Q
map_told None P Q f h = tt
map_told (Some extract) P Q f h = f extract h

pub both_told : (told : Option (List ℕ)) (P Q S : List ℕ → Type 0) → ((extract : List ℕ) → P extract → Q extract → S extract) → IfSome told P → IfSome told Q → IfSome told S
both_told None P Q S f h k = tt
both_told (Some extract) P Q S f h k = f extract h k

pub elements-at : (extract : List ℕ) (b : BlockAt) (body : List ℕ) (found : Result Block Why) → IsOfElements b → body ≡ body_at extract b → block_in body ≡ found
    → content_at extract b ≡ in_block b.no (found >>= λ block. Ok (elements b.no block))
elements-at extract b body found kind same given =
    ap (λ k. in_block b.no (content_of b.no k (body_at extract b))) kind
    ∙ (ap (λ bytes. in_block b.no (content_of b.no kinds.Elements bytes)) (sym same) ∙ ap (λ r. in_block b.no (r >>= λ block. Ok (elements b.no block))) given)

-- blocks that aren't damaged
abbrev IsFine : {A : Type 0} → Result A Damage → Type 0
IsFine (Ok x) = Unit {0}
IsFine (Err damage) = ⊥

fine-both : (r : Result Content Damage) (later : Result (List Content) Damage) → IsFine (with_later r later) → IsFine r × IsFine later
fine-both (Ok c) (Ok contents) h = (tt, tt)
fine-both (Ok c) (Err damage) h = absurd h
fine-both (Err damage) later h = absurd h

all-fine : (extract : List ℕ) (blocks : List BlockAt) → IsFine (contents_at extract blocks) → All (λ b. IsFine (content_at extract b)) blocks
all-fine extract [] h = All-nil (λ b. IsFine (content_at extract b))
all-fine extract (b ∷ blocks) h =
    let both = fine-both (content_at extract b) (contents_at extract blocks) h in
    All-cons (λ x. IsFine (content_at extract x)) b blocks both.0 (all-fine extract blocks both.1)

damaged-from : (r : Result (List Content) Damage) → (IsFine r → ⊥) → IsDamaged r
damaged-from (Ok contents) h = h tt
damaged-from (Err damage) h = tt

-- a damaged block among others
some-damaged : (extract : List ℕ) (blocks : List BlockAt) (b : BlockAt) (damage : Damage) → Contains blocks b → content_at extract b ≡ Err damage → IsDamaged (contents_at extract blocks)
some-damaged extract blocks b damage there is =
    damaged-from (contents_at extract blocks) (λ h. subst IsFine is (All-contains (λ x. IsFine (content_at extract x)) blocks b (all-fine extract blocks h) there))

-- what ends a pass by itself: the spill, or want of memory
abbrev pub IsQuiet : PassStop → Type 0
IsQuiet (stops.Damage damage) = ⊥
IsQuiet stops.Source = ⊥
IsQuiet stops.Spill = Unit {0}
IsQuiet stops.Memory = Unit {0}

module _ {W : Type 0} (m : Meaning W Block PassStop) (gives : (b : BlockAt) (bytes : List ℕ) (read : Block) → m.gives b bytes read → block_in bytes ≡ Ok read) where
  contents-read : (extract : List ℕ) (read : List (BlockAt × Block)) → All (IsGiven m (Some extract)) read → All IsOfElements (map (λ x. x.0) read) → contents_at extract (map (λ x. x.0) read) ≡ Ok (map as_content (as_read read))
  contents-read extract [] given kinds = refl
  contents-read extract (x ∷ read) given kinds =
      let own = All-head (IsGiven m (Some extract)) x read given in
      let kind = All-head IsOfElements x.0 (map (λ y. y.0) read) kinds in
      let is = elements-at extract x.0 own.bytes (Ok x.1) kind own.of (gives x.0 own.bytes x.1 own.gives) in
      let rest = contents-read extract read (All-tail (IsGiven m (Some extract)) x read given) (All-tail IsOfElements x.0 (map (λ y. y.0) read) kinds) in
      (λ i. with_later (is i) (rest i))

  -- all blocks were read
  pub reads-all : {A : Type 0} (P : A → List (ℕ × Block) → Type 0) (x : A) (order : Order) (blocks : List BlockAt) (r r' : SourceSeen) (old new : W) (p : Passed m order blocks r r' old new) → All IsOfElements blocks → P x (as_read p.read) → Reads P blocks r.bytes (Ok x)
  reads-all P x order blocks r r' old new p kinds h = (as_read p.read, h, subst (λ bs. IfSome r.bytes (λ extract. contents_at extract bs ≡ Ok (map as_content (as_read p.read)))) p.are (by r.bytes p.given))
    where
      by : (told : Option (List ℕ)) → All (IsGiven m told) p.read → IfSome told (λ extract. contents_at extract (map (λ y. y.0) p.read) ≡ Ok (map as_content (as_read p.read)))
      by None given = tt
      by (Some extract) given = contents-read extract p.read given (subst (All IsOfElements) (sym p.are) kinds)

module _ {W : Type 0} (m : Meaning W Block PassStop) (refuses : (b : BlockAt) (bytes : List ℕ) (stop : PassStop) → m.refuses b bytes stop → ReadsElements b bytes (Err stop)) (quiet : (stop : PassStop) (a b : W) → m.stops stop a b → IsQuiet stop) where
  module _ (order : Order) (blocks : List BlockAt) (kinds : All IsOfElements blocks) (r r' : SourceSeen) (old new : W) where
    refused-at : {A : Type 0} (P : A → List (ℕ × Block) → Type 0) (stop : PassStop) → SomeRefused m blocks r stop → Reads P blocks r.bytes (Err stop)
    refused-at P (stops.Damage damage) (b, there, h) =
        let no = refuses b h.bytes (stops.Damage damage) h.refuses in
        map_told r.bytes (λ extract. h.bytes ≡ body_at extract b) (λ extract. IsDamaged (contents_at extract blocks))
        (λ extract of. some-damaged extract blocks b (record { block = b.no; why = no.0 }) there (elements-at extract b h.bytes (Err no.0) (All-contains IsOfElements blocks b kinds there) of no.2)) h.of
    refused-at P stops.Source h = tt
    refused-at P stops.Spill h = tt
    refused-at P stops.Memory h = tt

    quiet-reads : {A : Type 0} (P : A → List (ℕ × Block) → Type 0) (stop : PassStop) → IsQuiet stop → Reads P blocks r.bytes (Err stop)
    quiet-reads P (stops.Damage damage) h = absurd h
    quiet-reads P stops.Source h = absurd h
    quiet-reads P stops.Spill h = tt
    quiet-reads P stops.Memory h = tt

    quiet-counts : (A : Type 0) (stop : PassStop) → IsQuiet stop → r'.faults ≡ r.faults → Counted (source_failed {A = A} (Err stop)) r.faults r'.faults
    quiet-counts A (stops.Damage damage) h same = absurd h
    quiet-counts A stops.Source h same = absurd h
    quiet-counts A stops.Spill h same = same
    quiet-counts A stops.Memory h same = same

    refused-counts : (A : Type 0) (stop : PassStop) → SomeRefused m blocks r stop → r'.faults ≡ r.faults → Counted (source_failed {A = A} (Err stop)) r.faults r'.faults
    refused-counts A (stops.Damage damage) h same = same
    refused-counts A stops.Source (b, there, h) same = absurd (refuses b h.bytes stops.Source h.refuses)
    refused-counts A stops.Spill h same = same
    refused-counts A stops.Memory h same = same

    -- a pass that ended early
    pub reads-refused : {A : Type 0} (P : A → List (ℕ × Block) → Type 0) (e : PassErr PassStop) → PassTold m order blocks r r' old new (Err e) → Reads P blocks r.bytes (Err (pass_stop_in e))
    reads-refused P errors.Source h = tt
    reads-refused P (errors.Work stop) (same, inl it) = refused-at P stop it.0
    reads-refused P (errors.Work stop) (same, inr it) = quiet-reads P stop (quiet stop old new it)
    reads-refused P errors.Memory h = tt

    pub stopped-reads : {A : Type 0} (P : A → List (ℕ × Block) → Type 0) (e : PassErr PassStop) (stop : PassStop) → stop ≡ pass_stop_in e → PassTold m order blocks r r' old new (Err e) → Reads P blocks r.bytes (Err stop)
    stopped-reads P e stop is h = subst (λ (x : PassStop). Reads P blocks r.bytes (Err x)) (sym is) (reads-refused P e h)

    pub counts-refused : (A : Type 0) (e : PassErr PassStop) → PassTold m order blocks r r' old new (Err e) → Counted (source_failed {A = A} (Err (pass_stop_in e))) r.faults r'.faults
    counts-refused A errors.Source h = (h.0, h.1)
    counts-refused A (errors.Work stop) (same, inl it) = refused-counts A stop it.0 same
    counts-refused A (errors.Work stop) (same, inr it) = quiet-counts A stop (quiet stop old new it) same
    counts-refused A errors.Memory h = h.0
