-- Why a pass ends early: the trouble that is told, and what it says of all lanes.
use Rattle.std.proofs.Common.{◌≡◌, ◌∙◌, ◌⊎◌, ⊎_elim, ℕ, List, ap, refl}
use Rattle.std.specs.declared.cmp.Ordering.TheVariants.{Less}
use mathlib.Core.Option.{some}
use lib.ListN.{get_elem?}
use Rattle.tb_types.specs.Orders.{whom_order}
use Rattle.tb_types.specs.declared.trouble.Trouble.{Trouble}
use Rattle.tb_types.specs.declared.trouble.Trouble.TheVariants as troubles
use Rattle.tb_types.specs.declared.trouble.Whom.{Whom}
use Rattle.tb_outside.specs.declared.lane.Lane.{Lane}
use Rattle.tb_outside.specs.Source.{SourceSeen}
use Rattle.tb_outside.specs.Spill.{SpillSeen}
use Rattle.pbf_blobs.specs.declared.block.BlockAt.{BlockAt}
use Rattle.work_topology.specs.Objects.{objects_of, StayBefore}
use Rattle.work_topology.specs.Job.{Meaning}
use Rattle.work_topology.specs.Lane.{LaneCause}
use Rattle.work_topology.specs.Told.{trouble_order, NotBefore}
use Rattle.work_topology.specs.Ends.{IsUncounted, IsChanged, ReaderUncounted, ReaderStaysBefore, PassCause}

module _ {Seed Out R S : Type 0} (m : Meaning Seed Out S) (source : R → SourceSeen) (spill : S → SpillSeen) where
  -- a cause stays one where more counts as changed
  pub wider : (n : ℕ) (changed changes : ℕ → ℕ → Type 0) (old new : Lane R S) (t : Trouble) → ((pass block : ℕ) → changed pass block → changes pass block)
      → LaneCause m source spill n changed old new t → LaneCause m source spill n changes old new t
  wider n changed changes old new (troubles.Source whom) more cause = cause
  wider n changed changes old new (troubles.Spill whom) more cause = cause
  wider n changed changes old new (troubles.Outside whom run at) more cause = cause
  wider n changed changes old new (troubles.Changed pass block) more cause = (more pass block cause.0, cause.1, cause.2)
  wider n changed changes old new troubles.Memory more cause = cause

  module _ (n : ℕ) (changed : ℕ → ℕ → Type 0) (old new : Lane R S) where
    before_source : (whom : Whom) (t : Trouble) → LaneCause m source spill n changed old new t → NotBefore (troubles.Source whom) t → ReaderStaysBefore source n old new whom
    before_source whom (troubles.Source w) cause not less = absurd (not (ap (λ v. whom_order v whom) cause.0 ∙ less))
    before_source whom (troubles.Spill w) cause not less = cause.1
    before_source whom (troubles.Outside w run at) cause not less = cause.3
    before_source whom (troubles.Changed pass block) cause not less = cause.1
    before_source whom troubles.Memory cause not less = cause.0

    before_spill : (whom : Whom) (t : Trouble) → LaneCause m source spill n changed old new t → NotBefore (troubles.Spill whom) t → StayBefore spill n (objects_of old) (objects_of new) whom × ReaderUncounted source old new
    before_spill whom (troubles.Source w) cause not = absurd (not refl)
    before_spill whom (troubles.Spill w) cause not = (λ less. absurd (not (ap (λ v. whom_order v whom) cause.0.0.0 ∙ less)), cause.1)
    before_spill whom (troubles.Outside w run at) cause not = (λ less. cause.4, cause.3)
    before_spill whom (troubles.Changed pass block) cause not = (λ less. cause.2, cause.1)
    before_spill whom troubles.Memory cause not = (λ less. cause.1, cause.0)

    before_rest : (told : Trouble) → ((w : Whom) → trouble_order (troubles.Source w) told ≡ Less) → ((w : Whom) → trouble_order (troubles.Spill w) told ≡ Less)
        → (t : Trouble) → LaneCause m source spill n changed old new t → NotBefore told t → IsUncounted source spill old new
    before_rest told source_less spill_less (troubles.Source w) cause not = absurd (not (source_less w))
    before_rest told source_less spill_less (troubles.Spill w) cause not = absurd (not (spill_less w))
    before_rest told source_less spill_less (troubles.Outside w run at) cause not = (cause.3, cause.4)
    before_rest told source_less spill_less (troubles.Changed pass block) cause not = (cause.1, cause.2)
    before_rest told source_less spill_less troubles.Memory cause not = (cause.0, cause.1)

  -- the lane's counts are as they were, or its trouble isn't before the one that is told
  abbrev pub Behind : (ℕ → ℕ → Type 0) → Trouble → ℕ → Lane R S → Lane R S → Type 0
  Behind changed told n old new = IsUncounted source spill old new ⊎ ((t : Trouble) × LaneCause m source spill n changed old new t × NotBefore told t)

  module _ (blocks : List BlockAt) (lanes lanes' : List (Lane R S)) (k : ℕ) (lane lane' : Lane R S) (e : get_elem? lanes k ≡ some lane) (e' : get_elem? lanes' k ≡ some lane') where
    others : (told : Trouble) → ((w : Whom) → trouble_order (troubles.Source w) told ≡ Less) → ((w : Whom) → trouble_order (troubles.Spill w) told ≡ Less)
        → ((j : ℕ) (l l' : Lane R S) → get_elem? lanes j ≡ some l → get_elem? lanes' j ≡ some l' → Behind (IsChanged m source blocks lanes) told j l l')
        → (j : ℕ) (l l' : Lane R S) → get_elem? lanes j ≡ some l → get_elem? lanes' j ≡ some l' → IsUncounted source spill l l'
    others told source_less spill_less all j l l' f f' =
        ⊎_elim (λ u. u) (λ s. before_rest j (IsChanged m source blocks lanes) l l' told source_less spill_less s.0 s.1 s.2) (all j l l' f f')

    pub pass_cause : (told : Trouble) → LaneCause m source spill k (IsChanged m source blocks lanes) lane lane' told
        → ((j : ℕ) (l l' : Lane R S) → get_elem? lanes j ≡ some l → get_elem? lanes' j ≡ some l' → Behind (IsChanged m source blocks lanes) told j l l')
        → PassCause m source spill blocks lanes lanes' told
    pass_cause (troubles.Source whom) cause all = (
      (k, lane, lane', e, e', (cause.0, cause.1)),
      λ j l l' f f'. ⊎_elim (λ u less. u.0) (λ s. before_source j (IsChanged m source blocks lanes) l l' whom s.0 s.1 s.2) (all j l l' f f'),
    )
    pass_cause (troubles.Spill whom) cause all = (
      (k, lane, lane', e, e', cause.0.0),
      λ j l l' f f'. ⊎_elim (λ u. (λ less. u.1, u.0)) (λ s. before_spill j (IsChanged m source blocks lanes) l l' whom s.0 s.1 s.2) (all j l l' f f'),
    )
    pass_cause (troubles.Outside whom run at) cause all =
        (cause.0, (k, lane, lane', e, e', (cause.1, cause.2)), others (troubles.Outside whom run at) (λ w. refl) (λ w. refl) all)
    pass_cause (troubles.Changed pass block) cause all = (cause.0, others (troubles.Changed pass block) (λ w. refl) (λ w. refl) all)
    pass_cause troubles.Memory cause all = others troubles.Memory (λ w. refl) (λ w. refl) all
