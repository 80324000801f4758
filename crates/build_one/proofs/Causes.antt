-- The counts of the objects of a build on one lane, before and after: which rose, and which are as they were.
use Rattle.std.proofs.Common.{◌≡◌, zero, suc, ◌≤◌, true, [], ◌∷◌, refl, sym, arith, true≢false}
use Rattle.tb_types.specs.Counts.{Rose}
use Rattle.tb_types.specs.declared.trouble.Whom.{Whom}
use Rattle.tb_types.specs.declared.trouble.Whom.TheVariants.{Profile, Lane, Spool, Archive, Console}
use Rattle.tb_outside.specs.Source.{SourceSeen}
use Rattle.tb_outside.specs.Spill.{SpillSeen}
use Rattle.tb_outside.specs.Sink.{SinkSeen}
use Rattle.tile_model.specs.Objects.{Objects, Role, reading, spilling, writing, count_of, CountsStay, NoneFell, LeastRose, stands_before}

module _ (p p' r r' : SourceSeen) (s s' o o' : SpillSeen) (k k' : SinkSeen) where
  -- the objects of one lane
  abbrev pub before : Objects
  before = record { profile = p; readers = r ∷ []; spills = s ∷ []; spool = o; archive = k }

  abbrev pub after : Objects
  after = record { profile = p'; readers = r' ∷ []; spills = s' ∷ []; spool = o'; archive = k' }

  pub all-stay : p'.faults ≡ p.faults → r'.faults ≡ r.faults → s'.faults ≡ s.faults → o'.faults ≡ o.faults → k'.faults ≡ k.faults → CountsStay before after
  all-stay hp hr hs ho hk reading Profile = hp
  all-stay hp hr hs ho hk reading (Lane zero) = hr
  all-stay hp hr hs ho hk reading (Lane (suc n)) = refl
  all-stay hp hr hs ho hk reading Spool = refl
  all-stay hp hr hs ho hk reading Archive = refl
  all-stay hp hr hs ho hk reading Console = refl
  all-stay hp hr hs ho hk spilling Profile = refl
  all-stay hp hr hs ho hk spilling (Lane zero) = hs
  all-stay hp hr hs ho hk spilling (Lane (suc n)) = refl
  all-stay hp hr hs ho hk spilling Spool = ho
  all-stay hp hr hs ho hk spilling Archive = refl
  all-stay hp hr hs ho hk spilling Console = refl
  all-stay hp hr hs ho hk writing Profile = refl
  all-stay hp hr hs ho hk writing (Lane n) = refl
  all-stay hp hr hs ho hk writing Spool = refl
  all-stay hp hr hs ho hk writing Archive = hk
  all-stay hp hr hs ho hk writing Console = refl

  pub none-fell : p.faults ≤ p'.faults → r.faults ≤ r'.faults → s.faults ≤ s'.faults → o.faults ≤ o'.faults → k.faults ≤ k'.faults → NoneFell before after
  none-fell hp hr hs ho hk reading Profile = hp
  none-fell hp hr hs ho hk reading (Lane zero) = hr
  none-fell hp hr hs ho hk reading (Lane (suc n)) = omega arith
  none-fell hp hr hs ho hk reading Spool = omega arith
  none-fell hp hr hs ho hk reading Archive = omega arith
  none-fell hp hr hs ho hk reading Console = omega arith
  none-fell hp hr hs ho hk spilling Profile = omega arith
  none-fell hp hr hs ho hk spilling (Lane zero) = hs
  none-fell hp hr hs ho hk spilling (Lane (suc n)) = omega arith
  none-fell hp hr hs ho hk spilling Spool = ho
  none-fell hp hr hs ho hk spilling Archive = omega arith
  none-fell hp hr hs ho hk spilling Console = omega arith
  none-fell hp hr hs ho hk writing Profile = omega arith
  none-fell hp hr hs ho hk writing (Lane n) = omega arith
  none-fell hp hr hs ho hk writing Spool = omega arith
  none-fell hp hr hs ho hk writing Archive = hk
  none-fell hp hr hs ho hk writing Console = omega arith

  -- the spool's count rose
  spool-least : p'.faults ≡ p.faults → r'.faults ≡ r.faults → s'.faults ≡ s.faults → (role : Role) (whom : Whom) → stands_before role whom spilling Spool ≡ true → count_of after role whom ≡ count_of before role whom
  spool-least hp hr hs reading Profile h = hp
  spool-least hp hr hs reading (Lane zero) h = hr
  spool-least hp hr hs reading (Lane (suc n)) h = refl
  spool-least hp hr hs reading Spool h = refl
  spool-least hp hr hs reading Archive h = refl
  spool-least hp hr hs reading Console h = refl
  spool-least hp hr hs spilling Profile h = refl
  spool-least hp hr hs spilling (Lane zero) h = hs
  spool-least hp hr hs spilling (Lane (suc n)) h = refl
  spool-least hp hr hs spilling Spool h = absurd (true≢false (sym h))
  spool-least hp hr hs spilling Archive h = refl
  spool-least hp hr hs spilling Console h = refl
  spool-least hp hr hs writing Profile h = refl
  spool-least hp hr hs writing (Lane n) h = refl
  spool-least hp hr hs writing Spool h = refl
  spool-least hp hr hs writing Archive h = absurd (true≢false (sym h))
  spool-least hp hr hs writing Console h = refl

  pub spool-rose : p'.faults ≡ p.faults → r'.faults ≡ r.faults → s'.faults ≡ s.faults → Rose o.faults o'.faults → LeastRose before after spilling Spool
  spool-rose hp hr hs rose = record { rose = rose; least = spool-least hp hr hs }

  -- the spill's count rose
  spill-least : p'.faults ≡ p.faults → r'.faults ≡ r.faults → (role : Role) (whom : Whom) → stands_before role whom spilling (Lane 0) ≡ true → count_of after role whom ≡ count_of before role whom
  spill-least hp hr reading Profile h = hp
  spill-least hp hr reading (Lane zero) h = hr
  spill-least hp hr reading (Lane (suc n)) h = refl
  spill-least hp hr reading Spool h = refl
  spill-least hp hr reading Archive h = refl
  spill-least hp hr reading Console h = refl
  spill-least hp hr spilling Profile h = refl
  spill-least hp hr spilling (Lane zero) h = absurd (true≢false (sym h))
  spill-least hp hr spilling (Lane (suc n)) h = refl
  spill-least hp hr spilling Spool h = absurd (true≢false (sym h))
  spill-least hp hr spilling Archive h = refl
  spill-least hp hr spilling Console h = refl
  spill-least hp hr writing Profile h = refl
  spill-least hp hr writing (Lane n) h = refl
  spill-least hp hr writing Spool h = refl
  spill-least hp hr writing Archive h = absurd (true≢false (sym h))
  spill-least hp hr writing Console h = refl

  pub spill-rose : p'.faults ≡ p.faults → r'.faults ≡ r.faults → Rose s.faults s'.faults → LeastRose before after spilling (Lane 0)
  spill-rose hp hr rose = record { rose = rose; least = spill-least hp hr }

  -- the archive's sink's count rose
  sink-least : p'.faults ≡ p.faults → r'.faults ≡ r.faults → s'.faults ≡ s.faults → o'.faults ≡ o.faults → (role : Role) (whom : Whom) → stands_before role whom writing Archive ≡ true → count_of after role whom ≡ count_of before role whom
  sink-least hp hr hs ho reading Profile h = hp
  sink-least hp hr hs ho reading (Lane zero) h = hr
  sink-least hp hr hs ho reading (Lane (suc n)) h = refl
  sink-least hp hr hs ho reading Spool h = refl
  sink-least hp hr hs ho reading Archive h = refl
  sink-least hp hr hs ho reading Console h = refl
  sink-least hp hr hs ho spilling Profile h = refl
  sink-least hp hr hs ho spilling (Lane zero) h = hs
  sink-least hp hr hs ho spilling (Lane (suc n)) h = refl
  sink-least hp hr hs ho spilling Spool h = ho
  sink-least hp hr hs ho spilling Archive h = refl
  sink-least hp hr hs ho spilling Console h = refl
  sink-least hp hr hs ho writing Profile h = refl
  sink-least hp hr hs ho writing (Lane n) h = refl
  sink-least hp hr hs ho writing Spool h = refl
  sink-least hp hr hs ho writing Archive h = absurd (true≢false (sym h))
  sink-least hp hr hs ho writing Console h = refl

  pub sink-rose : p'.faults ≡ p.faults → r'.faults ≡ r.faults → s'.faults ≡ s.faults → o'.faults ≡ o.faults → Rose k.faults k'.faults → LeastRose before after writing Archive
  sink-rose hp hr hs ho rose = record { rose = rose; least = sink-least hp hr hs ho }

  -- the reader's count rose, and nothing stands before it but the profile's source
  reader-least : p'.faults ≡ p.faults → (role : Role) (whom : Whom) → stands_before role whom reading (Lane 0) ≡ true → count_of after role whom ≡ count_of before role whom
  reader-least hp reading Profile h = hp
  reader-least hp reading (Lane zero) h = absurd (true≢false (sym h))
  reader-least hp reading (Lane (suc n)) h = refl
  reader-least hp reading Spool h = refl
  reader-least hp reading Archive h = refl
  reader-least hp reading Console h = refl
  reader-least hp spilling Profile h = absurd (true≢false (sym h))
  reader-least hp spilling (Lane n) h = absurd (true≢false (sym h))
  reader-least hp spilling Spool h = absurd (true≢false (sym h))
  reader-least hp spilling Archive h = absurd (true≢false (sym h))
  reader-least hp spilling Console h = absurd (true≢false (sym h))
  reader-least hp writing Profile h = absurd (true≢false (sym h))
  reader-least hp writing (Lane n) h = absurd (true≢false (sym h))
  reader-least hp writing Spool h = absurd (true≢false (sym h))
  reader-least hp writing Archive h = absurd (true≢false (sym h))
  reader-least hp writing Console h = absurd (true≢false (sym h))

  pub reader-rose : p'.faults ≡ p.faults → Rose r.faults r'.faults → LeastRose before after reading (Lane 0)
  reader-rose hp rose = record { rose = rose; least = reader-least hp }

  profile-least : (role : Role) (whom : Whom) → stands_before role whom reading Profile ≡ true → count_of after role whom ≡ count_of before role whom
  profile-least reading Profile h = absurd (true≢false (sym h))
  profile-least reading (Lane n) h = absurd (true≢false (sym h))
  profile-least reading Spool h = absurd (true≢false (sym h))
  profile-least reading Archive h = absurd (true≢false (sym h))
  profile-least reading Console h = absurd (true≢false (sym h))
  profile-least spilling w h = absurd (true≢false (sym h))
  profile-least writing w h = absurd (true≢false (sym h))

  pub profile-rose : Rose p.faults p'.faults → LeastRose before after reading Profile
  profile-rose rose = record { rose = rose; least = profile-least }
