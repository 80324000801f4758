-- What the passes behind the survey answer together.
use Rattle.std.proofs.Common.{◌≡◌, ℕ, ◌≤◌, ◌<◌, Option, None, Some, IfSome, Result, Ok, Err, OnOk, List, [], ◌++◌, flat_map, map, refl, sym, ap, subst, ◌∙◌, arith, inl, inr}
use Rattle.std.specs.Prelude.{⊤}
use Rattle.std.specs.List.Sorted.{IsPermutation}
use Rattle.tb_types.specs.Counts.{Counted}
use Rattle.tb_types.specs.declared.damage.Damage.{Damage}
use Rattle.tb_outside.specs.Source.{SourceSeen}
use Rattle.tb_outside.specs.Spill.{Runs, SpillSeen}
use Rattle.tb_outside.specs.declared.spill.RunAt.{RunAt}
use Rattle.tb_outside.specs.declared.spill.SpillErr.{SpillErr}
use Rattle.tb_outside.specs.declared.spill.SpillErr.TheVariants as spill_errors
use Rattle.pbf_blobs.specs.declared.block.BlockAt.{BlockAt}
use Rattle.osm_elements.specs.declared.element.Block.{Block}
use Rattle.profile_rules.specs.declared.parts.Parts.{Parts}
use Rattle.shard_store.specs.Join.{Entry}
use Rattle.member_sets.specs.declared.unit.Unit as units
use Rattle.node_store.specs.declared.located.Located.{Located}
use Rattle.node_store.specs.declared.shaped.Shaped.{Shaped}
use Rattle.mvt_codec.specs.declared.item.RunItem.{RunItem}
use Rattle.feature_runs.specs.Entry.{Buffered, entry_of}
use Rattle.feature_runs.specs.Added.{WereAdded, AreThere}
use Rattle.feature_runs.specs.Since.{IsSince, KeepsSince}
use Rattle.feature_runs.specs.Writing.{Frames}
use Rattle.tile_model.specs.Contents.{Content, contents_at}
use Rattle.tile_model.specs.Needs.{largest}
use Rattle.tile_model.specs.Points.{points_of}
use Rattle.tile_model.specs.Tiles.{emitted_items}
use Rattle.tile_model.specs.Ways.{ways_of}
use Rattle.tile_model.specs.declared.stop.Stop.TheVariants as stops
use Rattle.pass_shapes.specs.Kept.{kept_features, needs_of}
use Rattle.pass_shapes.specs.Stores.{locate_in, shape_in}
use Rattle.std.proofs.lemmas.List.{append-nil}
use Rattle.feature_runs.specs.Added.{KeepsAdded}
use Rattle.feature_runs.specs.Writing.{Flushes}
use Rattle.pass_shapes.specs.Emitting.{Emits}
use Rattle.pass_shapes.specs.EmitLaws.{emits-none, emits-on, frames-memory, frames-on}
use Rattle.pass_survey.specs.declared.found.Found.{Found}
use Rattle.build_one.specs.declared.stop.PassStop.{PassStop}
use Rattle.build_one.specs.declared.stop.PassStop.TheVariants as pass_stops
use Rattle.build_one.specs.declared.stop.RelationStop.{RelationStop}
use Rattle.build_one.specs.declared.stop.RelationStop.TheVariants as relation_stops
use Rattle.pass_survey.specs.Told.{HasSurveyed}
use Rattle.build_one.specs.Made.{Gathers, GatherAnswers}
use Rattle.build_one.specs.Passes.{as_content, Adds, AreMembers, AreNeeded, ArePlaced, AreDrawn, IsGathered, IsOver, IsDamaged, needs_in, OfSurveyed, Ran, Reads, as_added}
use Rattle.build_one.specs.Stages.{stop_of_pass, stop_of_relations}
use Rattle.build_one.specs.Survey.{IsApart, NoSpill, source_failed, as_spilled, pass_stop_of}
use Rattle.build_one.proofs.Gathering.{gathered-needs, gathered-items}

-- ---- counts

le-same : (m n : ℕ) → n ≡ m → m ≤ n
le-same m n h = omega (arith, h)

module _ (parts : Parts) (part limit : ℕ) (found : Found) (r r' : SourceSeen) (s s' : SpillSeen) (bytes : r'.bytes ≡ r.bytes) where
  -- memory wants
  pub gather-memory : r'.faults ≡ r.faults → Frames {A = ⊤} s s' (Ok tt) → GatherAnswers parts part limit found r r' s s' (Err stops.Memory)
  gather-memory same f = record { told = tt; counts = (same, f.ok); bytes = bytes; reader_never_falls = le-same r.faults r'.faults same; spill_never_falls = f.never_falls; kept = f.kept }

  -- a pass is refused
  pub gather-refused : (A : Type 0) (pass : ℕ) (e : PassStop) → Counted (source_failed {A = A} (Err e)) r.faults r'.faults → Frames s s' (as_spilled {A = A} (Err e))
      → ((damage : Damage) → e ≡ pass_stops.Damage damage → OfSurveyed parts r.bytes found (λ contents. ⊥)) → GatherAnswers parts part limit found r r' s s' (Err (stop_of_pass pass e))
  gather-refused A pass (pass_stops.Damage damage) c f none =
      record { told = none damage refl; counts = (c, f.memory refl); bytes = bytes; reader_never_falls = le-same r.faults r'.faults c; spill_never_falls = f.never_falls; kept = f.kept }
  gather-refused A pass pass_stops.Source c f none = record { told = tt; counts = (refl, c.0); bytes = bytes; reader_never_falls = c.1; spill_never_falls = f.never_falls; kept = f.kept }
  gather-refused A pass pass_stops.Spill c f none =
      record { told = tt; counts = (refl, c, f.failed refl); bytes = bytes; reader_never_falls = le-same r.faults r'.faults c; spill_never_falls = f.never_falls; kept = f.kept }
  gather-refused A pass pass_stops.Memory c f none = record { told = tt; counts = (c, f.memory refl); bytes = bytes; reader_never_falls = le-same r.faults r'.faults c; spill_never_falls = f.never_falls; kept = f.kept }

-- what all passes read
module _ (parts : Parts) (part limit : ℕ) (found : Found) (told : Option (List ℕ)) (ways needed : List (Entry units.Unit)) (store : List (Entry Located)) (shapes : List (Entry Shaped)) (s0 s1 s2 s3 : SpillSeen) (b0 b1 b2 : Buffered)
    (empty : b0 ≡ record { limit = limit; runs = []; entries = [] }) (none : (ended : List (List ℕ)) → WereAdded b0 ended []) (fresh : (start : Runs) (seen : SpillSeen) → seen.runs ≡ Some start → IsSince start seen b0 []) (m : AreMembers found.kept.items ways) where
  abbrev Ones : Type 0
  Ones = Reads (λ needed read. AreNeeded parts ways needed read) found.ways.items told (Ok needed)

  abbrev Twos : Type 0
  Twos = Reads (λ locations read. ArePlaced parts needed s0 s1 b0 b1 locations read) found.nodes.items told (Ok store)

  abbrev Threes : Type 0
  Threes = Reads (λ shapes read. AreDrawn parts ways store s1 s2 b1 b2 shapes read) found.ways.items told (Ok shapes)

  abbrev wanted : List RunItem
  wanted = emitted_items (flat_map (kept_features parts (shape_in shapes)) found.kept.items)

  module _ (one : Ones) (two : Twos) (three : Threes) where
    -- what is said of the contents that the survey found
    surveyed : (P : List Content → Type 0) → ((extract : List ℕ) (contents : List Content) → HasSurveyed parts extract found contents → IsApart parts contents
        → contents_at extract found.ways.items ≡ Ok (map as_content one.0) → contents_at extract found.nodes.items ≡ Ok (map as_content two.0) → contents_at extract found.ways.items ≡ Ok (map as_content three.0) → P contents)
        → OfSurveyed parts told found P
    surveyed P f = by told one.2 two.2 three.2
      where
        by : (o : Option (List ℕ)) → IfSome o (λ extract. contents_at extract found.ways.items ≡ Ok (map as_content one.0)) → IfSome o (λ extract. contents_at extract found.nodes.items ≡ Ok (map as_content two.0))
            → IfSome o (λ extract. contents_at extract found.ways.items ≡ Ok (map as_content three.0)) → OfSurveyed parts o found P
        by None x y z = tt
        by (Some extract) x y z = λ contents h apart. f extract contents h apart x y z

    needs-are : (extract : List ℕ) (contents : List Content) → HasSurveyed parts extract found contents → IsApart parts contents → contents_at extract found.ways.items ≡ Ok (map as_content one.0)
        → contents_at extract found.nodes.items ≡ Ok (map as_content two.0) → contents_at extract found.ways.items ≡ Ok (map as_content three.0) → needs_of (shape_in shapes) found.kept.items ≡ needs_in parts contents
    needs-are extract contents h apart x y z = gathered-needs parts found extract contents h apart ways needed store shapes one.0 two.0 three.0 m one.1 x two.1.store y three.1.store_is z

    -- a relation needs too much
    pub over-told : (need : ℕ) → largest (needs_of (shape_in shapes) found.kept.items) ≡ need → part < need → OfSurveyed parts told found (λ contents. IsOver parts part contents need)
    over-told need is above = surveyed (λ contents. IsOver parts part contents need) (λ extract contents h apart x y z. record { is = ap largest (sym (needs-are extract contents h apart x y z)) ∙ is; above = above })

    -- all items are added
    pub so-far : Adds parts (emitted_items (points_of parts two.0) ++ emitted_items (ways_of parts (locate_in store) three.0)) s0 s2 b0 b2
    so-far = emits-on parts (emitted_items (points_of parts two.0)) (emitted_items (ways_of parts (locate_in store) three.0)) s0 s1 s2 b0 b1 b2 tt (Ok tt) two.1.items three.1.items

    module _ (runs : List RunAt) (fit : largest (needs_of (shape_in shapes) found.kept.items) ≤ part) (last : Adds parts wanted s2 s3 b2 (record { limit = b2.limit; runs = runs; entries = [] })) where
      abbrev rest : Adds parts (emitted_items (ways_of parts (locate_in store) three.0) ++ wanted) s1 s3 b1 (record { limit = b2.limit; runs = runs; entries = [] })
      rest = emits-on parts (emitted_items (ways_of parts (locate_in store) three.0)) wanted s1 s2 s3 b1 b2 (record { limit = b2.limit; runs = runs; entries = [] }) tt (Ok tt) three.1.items last

      abbrev whole : Adds parts (emitted_items (points_of parts two.0) ++ (emitted_items (ways_of parts (locate_in store) three.0) ++ wanted)) s0 s3 b0 (record { limit = b2.limit; runs = runs; entries = [] })
      whole = emits-on parts (emitted_items (points_of parts two.0)) (emitted_items (ways_of parts (locate_in store) three.0) ++ wanted) s0 s1 s3 b0 b1 (record { limit = b2.limit; runs = runs; entries = [] }) tt (Ok tt) two.1.items rest

      limit-is : b2.limit ≡ limit
      limit-is = so-far.ok.limit ∙ ap (λ (b : Buffered). b.limit) empty

      abbrev ran : Ran parts limit s0 s3 runs
      ran = record {
        items = whole.ok.items;
        sound = whole.ok.sound;
        whole = whole.ok.whole;
        listed = λ runs-told is. subst (λ l. AreThere (record { limit = l; runs = runs; entries = [] }) s3 (map entry_of whole.ok.items)) limit-is (whole.ok.keeps runs-told [] is (none runs-told.ended));
        since = λ runs-told is. subst (λ l. IsSince runs-told s3 (record { limit = l; runs = runs; entries = [] }) (map entry_of whole.ok.items)) limit-is (whole.ok.since runs-told [] (fresh runs-told s0 is));
      }

      pub all-told : Gathers parts part limit told found s0 s3 (Ok runs)
      all-told = (
        ran,
        surveyed (λ contents. IsGathered parts part contents whole.ok.items) (λ extract contents h apart x y z. record {
          fit = subst (λ ns. largest ns ≤ part) (needs-are extract contents h apart x y z) fit;
          same = subst (λ xs. IsPermutation xs whole.ok.items) (sym (gathered-items parts found extract contents h apart ways needed store shapes one.0 two.0 three.0 m one.1 x two.1.store y three.1.store_is z)) whole.ok.same;
        }),
      )

-- the pass over relations is refused
module _ (parts : Parts) (part limit : ℕ) (found : Found) (r r' : SourceSeen) (s t s' : SpillSeen) (bytes : r'.bytes ≡ r.bytes) (faults : r'.faults ≡ r.faults) (f : Frames {A = ⊤} s t (Ok tt)) where
  pub relations-refused : (e : RelationStop) → Frames t s' (as_added {A = List RunAt} (Err e)) → ((need : ℕ) → e ≡ relation_stops.TooLarge need → OfSurveyed parts r.bytes found (λ contents. IsOver parts part contents need))
      → GatherAnswers parts part limit found r r' s s' (Err (stop_of_relations e))
  relations-refused (relation_stops.TooLarge need) g over =
      let h = frames-on s t s' tt (Err spill_errors.Memory) f g in
      record { told = over need refl; counts = (faults, h.memory refl); bytes = bytes; reader_never_falls = le-same r.faults r'.faults faults; spill_never_falls = h.never_falls; kept = h.kept }
  relations-refused relation_stops.Spill g over =
      let h = frames-on s t s' tt (Err spill_errors.Failed) f g in
      record { told = tt; counts = (refl, faults, h.failed refl); bytes = bytes; reader_never_falls = le-same r.faults r'.faults faults; spill_never_falls = h.never_falls; kept = h.kept }
  relations-refused relation_stops.Memory g over =
      let h = frames-on s t s' tt (Err spill_errors.Memory) f g in
      record { told = tt; counts = (faults, h.memory refl); bytes = bytes; reader_never_falls = le-same r.faults r'.faults faults; spill_never_falls = h.never_falls; kept = h.kept }

  pub gathered-all : (runs : List RunAt) → Frames t s' (as_added {A = List RunAt} (Ok runs)) → Gathers parts part limit r.bytes found s s' (Ok runs) → GatherAnswers parts part limit found r r' s s' (Ok runs)
  gathered-all runs g told =
      let h = frames-on s t s' tt (Ok tt) f g in
      record { told = told; counts = (faults, h.ok); bytes = bytes; reader_never_falls = le-same r.faults r'.faults faults; spill_never_falls = h.never_falls; kept = h.kept }

-- what a buffer holds is written as its last run
pub emits-flushed : {A : Type 0} (parts : Parts) (emitted : List RunItem) (s t u : SpillSeen) (b c d : Buffered) (x : A) (r : Result ⊤ SpillErr) → Emits parts emitted s t b c (Ok x) → OnOk r (Flushes t u c d) → OnOk r (KeepsAdded t u c d []) → OnOk r (KeepsSince t u c d []) → Frames t u r
    → Emits parts emitted s u b d r
emits-flushed parts emitted s t u b c d x (Ok y) h flushed keeps since frames = record {
  ok = record {
    items = h.ok.items;
    same = h.ok.same;
    sound = h.ok.sound;
    whole = h.ok.whole;
    limit = elim flushed [ inl (none, seen, same) ↦ ap (λ (z : Buffered). z.limit) same | inr written ↦ ap (λ (z : Buffered). z.limit) written.buffer ] ∙ h.ok.limit;
    keeps = λ runs added told were.
        let one = h.ok.keeps runs added told were in
        subst (AreThere d u) (append-nil (added ++ map entry_of h.ok.items)) (keeps one.runs (added ++ map entry_of h.ok.items) one.told one.added_are);
    since = λ start added is. subst (IsSince start u d) (append-nil (added ++ map entry_of h.ok.items)) (since start (added ++ map entry_of h.ok.items) (h.ok.since start added is));
  };
  frames = frames-on s t u x (Ok y) h.frames frames;
}
emits-flushed parts emitted s t u b c d x (Err e) h flushed keeps since frames = record { ok = tt; frames = frames-on s t u x (Err e) h.frames frames }

-- a block isn't loaded behind others
pub load-frames : (A : Type 0) (parts : Parts) (emitted : List RunItem) (s t : SpillSeen) (b c : Buffered) (stop : PassStop) → NoSpill {A = A} (Err stop) → Adds parts emitted s t b c → Frames s t (as_spilled {A = A} (Err stop))
load-frames A parts emitted s t b c stop alone h = by stop alone
  where
    memory : Frames {A = ⊤} s t (Err spill_errors.Memory)
    memory = frames-on s t t tt (Err spill_errors.Memory) h.frames (frames-memory t)

    by : (stop : PassStop) → NoSpill {A = A} (Err stop) → Frames s t (as_spilled {A = A} (Err stop))
    by (pass_stops.Damage damage) alone = memory
    by pass_stops.Source alone = memory
    by pass_stops.Spill alone = absurd alone
    by pass_stops.Memory alone = memory

-- nor are a block's items added
pub add-refused : (A : Type 0) (parts : Parts) (emitted more : List RunItem) (s t u : SpillSeen) (b c d : Buffered) (e : SpillErr) → Adds parts emitted s t b c → Emits {A = ⊤} parts more t u c d (Err e) → Frames s u (as_spilled {A = A} (Err (pass_stop_of e)))
add-refused A parts emitted more s t u b c d spill_errors.Failed h k = frames-on s t u tt (Err spill_errors.Failed) h.frames k.frames
add-refused A parts emitted more s t u b c d spill_errors.Memory h k = frames-on s t u tt (Err spill_errors.Memory) h.frames k.frames

pub none-read : (A : Type 0) (P : A → List (ℕ × Block) → Type 0) (blocks : List BlockAt) (told : Option (List ℕ)) (e : SpillErr) → Reads P blocks told (Err (pass_stop_of e))
none-read A P blocks told spill_errors.Failed = tt
none-read A P blocks told spill_errors.Memory = tt

pub none-failed : (A : Type 0) (e : SpillErr) (m n : ℕ) → n ≡ m → Counted (source_failed {A = A} (Err (pass_stop_of e))) m n
none-failed A spill_errors.Failed m n h = h
none-failed A spill_errors.Memory m n h = h

-- a pass without items leaves the spill
pub same-frames : (A : Type 0) (parts : Parts) (s : SpillSeen) (stop : PassStop) → NoSpill {A = A} (Err stop) → Frames s s (as_spilled {A = A} (Err stop))
same-frames A parts s stop alone =
    let b : Buffered = record { limit = 0; runs = []; entries = [] } in
    load-frames A parts [] s s b b stop alone (emits-none parts s b)

-- a pass that found damage did so among its blocks
pub damaged-by : {A : Type 0} (P : A → List (ℕ × Block) → Type 0) (blocks other : List BlockAt) (told now : Option (List ℕ)) (e : PassStop) → blocks ≡ other → now ≡ told → Reads P blocks now (Err e) → (damage : Damage) → e ≡ pass_stops.Damage damage
    → IfSome told (λ extract. IsDamaged (contents_at extract other))
damaged-by P blocks other told now e same is r damage at =
    let found : IfSome now (λ extract. IsDamaged (contents_at extract blocks)) = subst (λ x. Reads P blocks now (Err x)) at r in
    subst (λ bs. IfSome told (λ extract. IsDamaged (contents_at extract bs))) same (subst (λ (o : Option (List ℕ)). IfSome o (λ extract. IsDamaged (contents_at extract blocks))) is found)
