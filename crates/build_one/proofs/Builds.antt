-- What a build answers by each of its ways, on one lane.
use Rattle.std.proofs.Common.{◌≡◌, ℕ, ◌≤◌, ◌<◌, true, Option, None, Some, IfSome, Result, Ok, Err, List, [], ◌∷◌, length, unwrap_or, refl, sym, ap, subst, ◌∙◌, arith, inl}
use Rattle.std.specs.Option.{option_map, option_and_then}
use Rattle.tb_types.specs.Counts.{Counted, Rose}
use Rattle.tb_types.specs.Needs.{batch_part}
use Rattle.tb_types.specs.declared.damage.Damage.{Damage}
use Rattle.tb_types.specs.declared.location.Bounds.{Bounds}
use Rattle.tb_types.specs.declared.trouble.Stage.TheVariants as stages
use Rattle.tb_types.specs.declared.trouble.Whom.{Whom}
use Rattle.tb_types.specs.declared.trouble.Whom.TheVariants as whom
use Rattle.tb_outside.specs.Source.{SourceSeen}
use Rattle.tb_outside.specs.Spill.{SpillSeen, Runs}
use Rattle.tb_outside.specs.Sink.{SinkSeen}
use Rattle.tb_outside.specs.declared.spill.RunAt.{RunAt}
use Rattle.pbf_blobs.specs.declared.block.BlockAt.{BlockAt}
use Rattle.pbf_blobs.specs.declared.stop.ScanStop.{ScanStop}
use Rattle.pbf_blobs.specs.declared.stop.ScanStop.TheVariants as scan_stops
use Rattle.pbf_blobs.specs.Answers.{ScanAnswers}
use Rattle.pbf_blobs.specs.Frames.{frames_of}
use Rattle.profile_rules.specs.declared.parts.Parts.{Parts}
use Rattle.profile_rules.specs.Sound.{IsSound}
use Rattle.pmtiles_dirs.specs.declared.totals.Totals.{Totals}
use Rattle.pmtiles_file.specs.Spool.{KeepsEnded}
use Rattle.feature_runs.specs.Writing as buffers
use Rattle.tile_model.specs.declared.from.ProfileFrom.{ProfileFrom}
use Rattle.tile_model.specs.declared.stop.Stop.{Stop}
use Rattle.tile_model.specs.declared.stop.Stop.TheVariants as stops
use Rattle.tile_model.specs.Bounds.{first_box}
use Rattle.tile_model.specs.Contents.{Content, contents_at}
use Rattle.tile_model.specs.Due.{Due, Built, built_of, items_of, due_of_groups, due_of_blocks, due_of_contents, due_of_frames, due_of_extract, parts_from}
use Rattle.tile_model.specs.Extract.{features_of}
use Rattle.tile_model.specs.Map.{blocks_in, groups_of, layer_names, meta_of}
use Rattle.tile_model.specs.Loads.{AreLoaded}
use Rattle.tile_model.specs.Needs.{largest, block_needs, first_over, run_limit}
use Rattle.tile_model.specs.Objects.{LeastRose, TellTheSame, spilling, spill_runs, runs_told}
use Rattle.tile_model.specs.Objects as models
use Rattle.tile_model.specs.Features.{name_of}
use Rattle.tile_model.proofs.Proved as laws
use Rattle.sorted_lists.specs.Sorting.{KeysDiffer}
use Rattle.profile_rules.specs.Fields.{layers_of}
use Rattle.run_merge.specs.Answers.{named_runs}
use Rattle.run_merge.specs.Objects.{Objects}
use Rattle.run_merge.specs.Steps.{AreReadable}
use Rattle.std.proofs.lemmas.List.Elements.{recursion_from_All}
use Rattle.tile_model.specs.Stops.{stage_of}
use Rattle.pass_survey.specs.declared.found.Found.{Found}
use Rattle.build_one.specs.Answers.{BuildAnswers, OnBuilt, IfTold, IsDue, IsJudged, HasCause, Writes, ReadsBack, Decodes, RunsAre, WritesRuns, Loads, reached}
use Rattle.build_one.specs.Made.{GatherAnswers, IsDueBy, IsKnown, MapCounts, MapWritten, runs_named}
use Rattle.build_one.specs.Passes.{IsGathered, IsOver, needs_in, OfSurveyed}
use Rattle.build_one.specs.Stages.{stop_of_survey}
use Rattle.build_one.specs.Extracts.{ReadsParts, AreFramed}
use Rattle.pass_survey.specs.Told.{HasSurveyed, box_of}
use Rattle.build_one.specs.Survey.{IsApart, Surveys, survey_failed}
use Rattle.build_one.specs.Writing.{all_groups}
use Rattle.build_one.proofs.Causes
use Rattle.build_one.proofs.DueBy.{due_by, on-due, above-part, within-part, due-framed, IfBuilt, if-built}
use Rattle.build_one.proofs.Kept.{kept-self, kept-of}
use Rattle.build_one.proofs.MapDue.{seen_by, told_of}
use Rattle.build_one.proofs.Runs.{runs-readable, runs-grouped}
use Rattle.build_one.proofs.RunsDue.{runs-are}

if-some : {A : Type 0} (o : Option A) (P Q : A → Type 0) → ((x : A) → P x → Q x) → IfSome o P → IfSome o Q
if-some None P Q f h = tt
if-some (Some x) P Q f h = f x h

any-some : {A : Type 0} (o : Option A) (P : A → Type 0) → ((x : A) → P x) → IfSome o P
any-some None P f = tt
any-some (Some x) P f = f x

same-le : (m n : ℕ) → n ≡ m → m ≤ n
same-le m n h = omega (arith, h)

both-up : (m n l : ℕ) → m ≤ n → n ≤ l → m ≤ l
both-up m n l h k = omega (arith, h, k)

module _ (from : ProfileFrom) (budget : ℕ) (p p' r : SourceSeen) (s o : SpillSeen) (k : SinkSeen) (parts : Parts) (q : ReadsParts from p p' parts) where
  abbrev part : ℕ
  part = batch_part budget

  abbrev due : Option Due
  due = due_by part (parts_from from p.bytes) r.bytes

  -- a fact of what is due, where the extract is told
  due-if : (P : Due → Type 0) → IfSome r.bytes (λ extract. P (due_of_extract parts part extract)) → IfSome due P
  due-if P h = on-due part (parts_from from p.bytes) parts r.bytes (λ d. IfSome d P) q.told tt (by r.bytes h)
    where
      by : (extract : Option (List ℕ)) → IfSome extract (λ e. P (due_of_extract parts part e)) → IfSome (option_map (due_of_extract parts part) extract) P
      by None h = tt
      by (Some e) h = h

  module _ (r' : SourceSeen) (bytes : r'.bytes ≡ r.bytes) where
    -- ---- before there are items

    early : (stop : Stop) → IfSome due (IsDue (told_of s o) (Err stop)) → IsJudged (Err stop) (Ok parts) → HasCause (Err stop) (Causes.before p p' r r' s s o o k k) (Causes.after p p' r r' s s o o k k) → r.faults ≤ r'.faults
        → Writes (Err stop) (told_of s o) due k k → (stage_of stop ≡ 0 → ⊥) → BuildAnswers from budget 1 (Causes.before p p' r r' s s o o k k) (Causes.after p p' r r' s s o o k k) (Err stop)
    early stop told judged cause up written later = record {
      told = told;
      judged = if-some (parts_from from p.bytes) _ (IsJudged (Err stop)) (λ f is. subst (IsJudged (Err stop)) (sym is) judged) q.told;
      cause = cause;
      never_falls = Causes.none-fell p p' r r' s s o o k k (same-le _ _ q.faults) up (omega arith) (omega arith) (omega arith);
      written = written;
      back = tt;
      decoded = tt;
      runs = tt;
      loads = tt;
      untouched = λ e. absurd (later e);
      profile_bytes = q.bytes;
      reader_bytes = ap (λ b. b ∷ []) bytes;
      alone = q.alone;
      spills_kept = (kept-self s.runs, tt);
      spills = λ e. refl;
      kept = kept-self o.runs;
      spool = λ e. refl;
    }

    damaged : (damage : Damage) → r'.faults ≡ r.faults → IfSome r.bytes (λ extract. due_of_extract parts part extract ≡ Err (stops.Damage damage))
        → BuildAnswers from budget 1 (Causes.before p p' r r' s s o o k k) (Causes.after p p' r r' s s o o k k) (Err (stops.Damage damage))
    damaged damage faults is =
        early (stops.Damage damage) (due-if (IsDue (told_of s o) (Err (stops.Damage damage))) is) tt (Causes.all-stay p p' r r' s s o o k k q.faults faults refl refl refl) (same-le _ _ faults) refl (λ e. omega (arith, e))

    failed : Counted true r.faults r'.faults → BuildAnswers from budget 1 (Causes.before p p' r r' s s o o k k) (Causes.after p p' r r' s s o o k k) (Err (stops.Source (whom.Lane 0)))
    failed c = early (stops.Source (whom.Lane 0)) (any-some due _ (λ d. tt)) tt (Causes.reader-rose p p' r r' s s o o k k q.faults c.0) c.1 refl (λ e. omega (arith, e))

    wants : r'.faults ≡ r.faults → BuildAnswers from budget 1 (Causes.before p p' r r' s s o o k k) (Causes.after p p' r r' s s o o k k) (Err stops.Memory)
    wants faults = early stops.Memory (any-some due _ (λ d. tt)) tt (Causes.all-stay p p' r r' s s o o k k q.faults faults refl refl refl) (same-le _ _ faults) refl (λ e. omega (arith, e))

    -- the frames are refused
    pub scan-refused : (e : ScanStop) → ScanAnswers r r' (Err e) → BuildAnswers from budget 1 (Causes.before p p' r r' s s o o k k) (Causes.after p p' r r' s s o o k k) (Err (stop_of_survey e))
    scan-refused (scan_stops.Damage damage) a = damaged damage a.counts (if-some r.bytes _ _ (λ extract is. ap (due_of_frames parts part extract) is) a.told)
    scan-refused scan_stops.Failed a = failed (a.counts, a.never_falls)
    scan-refused scan_stops.Memory a = wants a.counts

    -- a block needs too much
    pub block-refused : (blocks : List BlockAt) (need : ℕ) → r'.faults ≡ r.faults → IfSome r.bytes (λ extract. frames_of extract ≡ Ok blocks) → need ≡ largest (block_needs blocks) → part < need
        → BuildAnswers from budget 1 (Causes.before p p' r r' s s o o k k) (Causes.after p p' r r' s s o o k k) (Err (stops.Budget stages.Block need))
    block-refused blocks need faults frames is above =
        early (stops.Budget stages.Block need)
        (due-if (IsDue (told_of s o) (Err (stops.Budget stages.Block need))) (if-some r.bytes _ _ (λ extract f. ap (due_of_frames parts part extract) f
        ∙ (above-part part (largest (block_needs blocks)) stages.Block (due_of_contents parts part (contents_at extract blocks)) (subst (λ n. part < n) is above) ∙ ap (λ n. Err (stops.Budget stages.Block n)) (sym is))) frames))
        tt (Causes.all-stay p p' r r' s s o o k k q.faults faults refl refl refl) (same-le _ _ faults) refl (λ e. omega (arith, e))

    both-some : (o : Option (List ℕ)) (P Q S : List ℕ → Type 0) → ((x : List ℕ) → P x → Q x → S x) → IfSome o P → IfSome o Q → IfSome o S
    both-some None P Q S f h g = tt
    both-some (Some x) P Q S f h g = f x h g

    module _ (blocks : List BlockAt) (framed : AreFramed part r.bytes blocks) where
      -- the survey is refused
      pub survey-refused : (e : ScanStop) → Counted (survey_failed {A = Found} (Err e)) r.faults r'.faults → IfSome r.bytes (λ extract. Surveys parts extract blocks (Err e) (contents_at extract blocks))
          → BuildAnswers from budget 1 (Causes.before p p' r r' s s o o k k) (Causes.after p p' r r' s s o o k k) (Err (stop_of_survey e))
      survey-refused (scan_stops.Damage damage) c h =
          damaged damage c (both-some r.bytes _ _ _ (λ extract f is. due-framed parts part extract blocks f framed.fit ∙ ap (due_of_contents parts part) is) framed.frames h)
      survey-refused scan_stops.Failed c h = failed c
      survey-refused scan_stops.Memory c h = wants c

      -- ---- once there are items

      module _ (found : Found) (surveys : IfSome r.bytes (λ extract. Surveys parts extract blocks (Ok found) (contents_at extract blocks))) where
        -- what is said of the contents is true of what is due by them
        due-of-surveyed : (C : List Content → Type 0) (P : Due → Type 0) → OfSurveyed parts r.bytes found C → ((contents : List Content) → C contents → P (due_of_blocks parts part contents))
            → IfSome r.bytes (λ extract. P (due_of_extract parts part extract))
        due-of-surveyed C P c f = by r.bytes framed.frames surveys c
          where
            of-contents : (extract : List ℕ) (contents : Result (List Content) Damage) → Surveys parts extract blocks (Ok found) contents → ((cs : List Content) → HasSurveyed parts extract found cs → IsApart parts cs → C cs)
                → P (due_of_contents parts part contents)
            of-contents extract (Ok cs) h g = f cs (g cs h.0 h.1)
            of-contents extract (Err damage) h g = absurd h.0

            by : (told : Option (List ℕ)) → IfSome told (λ extract. frames_of extract ≡ Ok blocks) → IfSome told (λ extract. Surveys parts extract blocks (Ok found) (contents_at extract blocks)) → OfSurveyed parts told found C
                → IfSome told (λ extract. P (due_of_extract parts part extract))
            by None x y z = tt
            by (Some extract) x y z = subst P (sym (due-framed parts part extract blocks x framed.fit)) (of-contents extract (contents_at extract blocks) y z)

        module _ (limit : ℕ) (s' : SpillSeen) where
          later : (stop : Stop) → IfSome due (IsDue (told_of s o) (Err stop)) → IsJudged (Err stop) (Ok parts) → HasCause (Err stop) (Causes.before p p' r r' s s' o o k k) (Causes.after p p' r r' s s' o o k k) → r.faults ≤ r'.faults → s.faults ≤ s'.faults
              → KeepsEnded s.runs s'.runs → Writes (Err stop) (told_of s o) due k k → (stage_of stop ≤ 1 → ⊥) → BuildAnswers from budget 1 (Causes.before p p' r r' s s' o o k k) (Causes.after p p' r r' s s' o o k k) (Err stop)
          later stop told judged cause up spilled kept written late = record {
            told = told;
            judged = if-some (parts_from from p.bytes) _ (IsJudged (Err stop)) (λ f is. subst (IsJudged (Err stop)) (sym is) judged) q.told;
            cause = cause;
            never_falls = Causes.none-fell p p' r r' s s' o o k k (same-le _ _ q.faults) up spilled (omega arith) (omega arith);
            written = written;
            back = tt;
            decoded = tt;
            runs = tt;
            loads = tt;
            untouched = λ e. absurd (late (omega (arith, e)));
            profile_bytes = q.bytes;
            reader_bytes = ap (λ b. b ∷ []) bytes;
            alone = q.alone;
            spills_kept = (kept, tt);
            spills = λ e. absurd (late e);
            kept = kept-self o.runs;
            spool = λ e. refl;
          }

          relation-due : (need : ℕ) → OfSurveyed parts r.bytes found (λ contents. IsOver parts part contents need) → IfSome due (λ d. d ≡ Err (stops.Budget stages.Relation need))
          relation-due need over = due-if (λ d. d ≡ Err (stops.Budget stages.Relation need)) (due-of-surveyed (λ contents. IsOver parts part contents need) (λ d. d ≡ Err (stops.Budget stages.Relation need)) over
              (λ contents c. above-part part (largest (needs_in parts contents)) stages.Relation (due_of_groups part (meta_of parts (first_box contents)) (layer_names parts) (groups_of parts contents)) (subst (λ n. part < n) (sym c.is) c.above)
              ∙ ap (λ n. Err (stops.Budget stages.Relation n)) c.is))

          -- readers that tell the same tell what the first does
          untold : OfSurveyed parts r.bytes found (λ contents. ⊥) → TellTheSame (r ∷ []) → ⊥
          untold none same =
              let told : r.bytes ≡ Some same.0 = (recursion_from_All (λ (x : SourceSeen). x.bytes ≡ Some same.0) (r ∷ []) same.1).0 in
              subst (λ (x : Option (List ℕ)). IfSome x (λ extract. ⊥)) told (due-of-surveyed (λ contents. ⊥) (λ d. ⊥) none (λ contents no. no))

          pub gather-stops : (stop : Stop) → GatherAnswers parts part limit found r r' s s' (Err stop) → BuildAnswers from budget 1 (Causes.before p p' r r' s s' o o k k) (Causes.after p p' r r' s s' o o k k) (Err stop)
          gather-stops (stops.Budget stages.Block need) a = absurd a.counts
          gather-stops (stops.Budget stages.Relation need) a =
              later (stops.Budget stages.Relation need) (relation-due need a.told) tt (Causes.all-stay p p' r r' s s' o o k k q.faults a.counts.0 a.counts.1 refl refl) a.reader_never_falls a.spill_never_falls (kept-of s.runs s'.runs a.kept) refl (λ e. omega (arith, e))
          gather-stops (stops.Budget stages.Tile need) a = absurd a.counts
          gather-stops (stops.Source (whom.Lane n)) a =
              subst (λ l. BuildAnswers from budget 1 (Causes.before p p' r r' s s' o o k k) (Causes.after p p' r r' s s' o o k k) (Err (stops.Source (whom.Lane l)))) (sym a.counts.0)
              (later (stops.Source (whom.Lane 0)) (any-some due _ (λ d. tt)) tt (Causes.reader-rose p p' r r' s s' o o k k q.faults a.counts.1) a.reader_never_falls a.spill_never_falls (kept-of s.runs s'.runs a.kept) refl (λ e. omega (arith, e)))
          gather-stops (stops.Source whom.Profile) a = absurd a.counts
          gather-stops (stops.Source whom.Spool) a = absurd a.counts
          gather-stops (stops.Source whom.Archive) a = absurd a.counts
          gather-stops (stops.Source whom.Console) a = absurd a.counts
          gather-stops (stops.Spill (whom.Lane n)) a =
              subst (λ l. BuildAnswers from budget 1 (Causes.before p p' r r' s s' o o k k) (Causes.after p p' r r' s s' o o k k) (Err (stops.Spill (whom.Lane l)))) (sym a.counts.0)
              (later (stops.Spill (whom.Lane 0)) (any-some due _ (λ d. tt)) tt (Causes.spill-rose p p' r r' s s' o o k k q.faults a.counts.1 a.counts.2) a.reader_never_falls a.spill_never_falls (kept-of s.runs s'.runs a.kept) (inl refl) (λ e. omega (arith, e)))
          gather-stops (stops.Spill whom.Profile) a = absurd a.counts
          gather-stops (stops.Spill whom.Spool) a = absurd a.counts
          gather-stops (stops.Spill whom.Archive) a = absurd a.counts
          gather-stops (stops.Spill whom.Console) a = absurd a.counts
          gather-stops (stops.Changed pass block) a =
              later (stops.Changed pass block) (any-some due _ (λ d. tt)) tt (Causes.all-stay p p' r r' s s' o o k k q.faults a.counts.0 a.counts.1 refl refl, untold a.told) a.reader_never_falls a.spill_never_falls (kept-of s.runs s'.runs a.kept) refl
              (λ e. omega (arith, e))
          gather-stops stops.Memory a =
              later stops.Memory (any-some due _ (λ d. tt)) tt (Causes.all-stay p p' r r' s s' o o k k q.faults a.counts.0 a.counts.1 refl refl) a.reader_never_falls a.spill_never_falls (kept-of s.runs s'.runs a.kept) refl (λ e. omega (arith, e))
          gather-stops (stops.Profile spot why) a = absurd a.counts
          gather-stops (stops.Damage damage) a = absurd a.counts
          gather-stops (stops.Outside w run at) a = absurd a.counts
          gather-stops stops.Sink a = absurd a.counts

          -- ---- the map is written, or it isn't

          module _ {L : Type 0} (lane : L) (runs : List RunAt) (box : Option Bounds) (sound : IsSound parts) (is : box ≡ unwrap_or (box_of found.header) None) (a : GatherAnswers parts part limit found r r' s s' (Ok runs)) where
            abbrev lanes : Objects L
            lanes = seen_by (lane ∷ []) s' o

            pub readable : AreReadable lanes (length (layers_of parts)) (named_runs (runs ∷ []))
            readable = runs-readable parts limit (lane ∷ []) s s' o runs sound a.told.0 a.kept

            -- the contents whose box, needs and items were found
            abbrev IsFound : List Content → Type 0
            IsFound contents = (box ≡ first_box contents) × IsGathered parts part contents a.told.0.items × KeysDiffer name_of (features_of parts (blocks_in contents))

            found-all : OfSurveyed parts r.bytes found IsFound
            found-all = by r.bytes a.told.1
              where
                by : (told : Option (List ℕ)) → OfSurveyed parts told found (λ contents. IsGathered parts part contents a.told.0.items) → OfSurveyed parts told found IsFound
                by None h = tt
                by (Some extract) h = λ contents g apart. (is ∙ ap (λ b. unwrap_or b None) g.box, h contents g apart, apart.names)

            known : IsKnown parts part (told_of s' o) (all_groups lanes (runs ∷ [])) box due
            known = due-if (IsDueBy parts part (told_of s' o) (all_groups lanes (runs ∷ [])) box) (due-of-surveyed IsFound (IsDueBy parts part (told_of s' o) (all_groups lanes (runs ∷ [])) box) found-all (λ contents c. record {
              contents = contents;
              is = within-part part (largest (needs_in parts contents)) stages.Relation (due_of_groups part (meta_of parts (first_box contents)) (layer_names parts) (groups_of parts contents)) c.1.fit;
              same = runs-grouped parts limit (lane ∷ []) s s' o runs sound a.told.0 a.kept (features_of parts (blocks_in contents)) (laws.extracts.within parts (blocks_in contents) sound) c.2 c.1.same;
              box_is = c.0;
            }))

            -- the items of the archive that is due went through runs
            abbrev Went : SpillSeen → Built → Type 0
            Went s'' built = (start : Runs) → s.runs ≡ Some start → RunsAre limit (items_of built) (s ∷ []) (s'' ∷ [])

            went : (s'' : SpillSeen) → s''.runs ≡ s'.runs → IfSome due (λ d. IfBuilt d (Went s''))
            went s'' same = due-if (λ d. IfBuilt d (Went s'')) (due-of-surveyed IsFound (λ d. IfBuilt d (Went s'')) found-all (λ contents c.
                let groups = groups_of parts contents in
                let meta = meta_of parts (first_box contents) in
                subst (λ d. IfBuilt d (Went s'')) (sym (within-part part (largest (needs_in parts contents)) stages.Relation (due_of_groups part meta (layer_names parts) groups) c.1.fit))
                (if-built (first_over part groups) (built_of meta (layer_names parts) groups) (Went s'')
                (λ start told. runs-are parts limit (lane ∷ []) s s' o runs sound a.told.0 a.kept start told s'' same (features_of parts (blocks_in contents)) (laws.extracts.within parts (blocks_in contents) sound) c.1.same))))

            runs-of : (s'' : SpillSeen) (result : Result Totals Stop) → IfSome due (IsDue (told_of s o) result) → IfSome due (λ d. IfBuilt d (Went s'')) → WritesRuns result limit (told_of s o) due (s ∷ []) (s'' ∷ [])
            runs-of s'' (Err stop) told h = tt
            runs-of s'' (Ok totals) told h = by s.runs o.runs due (λ start is. is) told h
              where
                by : (x y : Option Runs) (d : Option Due) → ((start : Runs) → x ≡ Some start → s.runs ≡ Some start) → IfSome d (IsDue (option_and_then (λ (t : Runs). y) x) (Ok totals)) → IfSome d (λ z. IfBuilt z (Went s''))
                    → IfTold (option_and_then (λ (t : Runs). y) x) (IfSome d (λ z. OnBuilt z (λ built. RunsAre limit (items_of built) (s ∷ []) (s'' ∷ []))))
                by None y d is told h = tt
                by (Some start) None d is told h = tt
                by (Some start) (Some t) None is told h = tt
                by (Some start) (Some t) (Some (Ok built)) is told h = h start (is start refl)
                by (Some start) (Some t) (Some (Err stop)) is told h = absurd told.1

            told-same : told_of s' o ≡ told_of s o
            told-same = by s.runs s'.runs a.kept
              where
                by : (x y : Option Runs) → buffers.KeepsEnded x y → option_and_then (λ (t : Runs). o.runs) y ≡ option_and_then (λ (t : Runs). o.runs) x
                by None y h = ap (option_and_then (λ (t : Runs). o.runs)) h
                by (Some x) None h = absurd h
                by (Some x) (Some y) h = refl

            untold-before : s'.runs ≡ None → s.runs ≡ None
            untold-before none = by s.runs (subst (buffers.KeepsEnded s.runs) none a.kept)
              where
                by : (x : Option Runs) → buffers.KeepsEnded x None → x ≡ None
                by None h = refl
                by (Some x) h = absurd h

            judged-map : (result : Result Totals Stop) (s'' o' : SpillSeen) (k' : SinkSeen) → MapCounts result s' s'' o o' k k' → IsJudged result (Ok parts)
            judged-map (Ok totals) s'' o' k' h = tt
            judged-map (Err (stops.Profile spot why)) s'' o' k' h = absurd h
            judged-map (Err (stops.Damage damage)) s'' o' k' h = tt
            judged-map (Err (stops.Budget stage need)) s'' o' k' h = tt
            judged-map (Err (stops.Source w)) s'' o' k' h = tt
            judged-map (Err (stops.Spill w)) s'' o' k' h = tt
            judged-map (Err (stops.Outside w run at)) s'' o' k' h = tt
            judged-map (Err stops.Sink) s'' o' k' h = tt
            judged-map (Err (stops.Changed pass block)) s'' o' k' h = tt
            judged-map (Err stops.Memory) s'' o' k' h = tt

            last-stage : (result : Result Totals Stop) (s'' o' : SpillSeen) (k' : SinkSeen) → MapCounts result s' s'' o o' k k' → reached result ≡ 3
            last-stage (Ok totals) s'' o' k' h = refl
            last-stage (Err (stops.Profile spot why)) s'' o' k' h = absurd h
            last-stage (Err (stops.Damage damage)) s'' o' k' h = absurd h
            last-stage (Err (stops.Budget stages.Block need)) s'' o' k' h = absurd h
            last-stage (Err (stops.Budget stages.Relation need)) s'' o' k' h = absurd h
            last-stage (Err (stops.Budget stages.Tile need)) s'' o' k' h = refl
            last-stage (Err (stops.Source w)) s'' o' k' h = absurd h
            last-stage (Err (stops.Spill w)) s'' o' k' h = refl
            last-stage (Err (stops.Outside w run at)) s'' o' k' h = refl
            last-stage (Err stops.Sink) s'' o' k' h = refl
            last-stage (Err (stops.Changed pass block)) s'' o' k' h = absurd h
            last-stage (Err stops.Memory) s'' o' k' h = refl

            module _ (s'' o' : SpillSeen) (k' : SinkSeen) where
              abbrev here : models.Objects
              here = Causes.before p p' r r' s s'' o o' k k'

              abbrev there : models.Objects
              there = Causes.after p p' r r' s s'' o o' k k'

              named-untold : (w : Whom) → runs_named s' o w None → runs_told here w ≡ None
              named-untold (whom.Lane n) h = subst (λ l. spill_runs (s ∷ []) l ≡ None) (sym h.0) (untold-before h.1)
              named-untold whom.Spool h = h
              named-untold whom.Profile h = absurd h
              named-untold whom.Archive h = absurd h
              named-untold whom.Console h = absurd h

              caused : (result : Result Totals Stop) → MapCounts result s' s'' o o' k k' → HasCause result here there
              caused (Ok totals) h = Causes.all-stay p p' r r' s s'' o o' k k' q.faults a.counts.0 (h.0.0 ∙ a.counts.1) h.0.1 h.1
              caused (Err (stops.Profile spot why)) h = absurd h
              caused (Err (stops.Damage damage)) h = absurd h
              caused (Err (stops.Budget stages.Block need)) h = absurd h
              caused (Err (stops.Budget stages.Relation need)) h = absurd h
              caused (Err (stops.Budget stages.Tile need)) h = Causes.all-stay p p' r r' s s'' o o' k k' q.faults a.counts.0 (h.0.0 ∙ a.counts.1) h.0.1 (ap (λ (x : SinkSeen). x.faults) h.1)
              caused (Err (stops.Source w)) h = absurd h
              caused (Err (stops.Spill whom.Profile)) h = absurd h
              caused (Err (stops.Spill (whom.Lane n))) h =
                  subst (λ l. LeastRose here there spilling (whom.Lane l)) (sym h.0) (Causes.spill-rose p p' r r' s s'' o o' k k' q.faults a.counts.0 (subst (λ m. Rose m s''.faults) a.counts.1 h.1))
              caused (Err (stops.Spill whom.Spool)) h = Causes.spool-rose p p' r r' s s'' o o' k k' q.faults a.counts.0 (h.0 ∙ a.counts.1) h.1
              caused (Err (stops.Spill whom.Archive)) h = absurd h
              caused (Err (stops.Spill whom.Console)) h = absurd h
              caused (Err (stops.Outside w run at)) h = (Causes.all-stay p p' r r' s s'' o o' k k' q.faults a.counts.0 (h.0.0 ∙ a.counts.1) h.0.1 (ap (λ (x : SinkSeen). x.faults) h.1), named-untold w h.2)
              caused (Err stops.Sink) h = Causes.sink-rose p p' r r' s s'' o o' k k' q.faults a.counts.0 (h.0.0 ∙ a.counts.1) h.0.1 h.1
              caused (Err (stops.Changed pass block)) h = absurd h
              caused (Err stops.Memory) h = Causes.all-stay p p' r r' s s'' o o' k k' q.faults a.counts.0 (h.0.0 ∙ a.counts.1) h.0.1 (ap (λ (x : SinkSeen). x.faults) h.1)

              pub map-answers : (result : Result Totals Stop) → limit ≡ run_limit budget 1 → IfSome r.bytes (λ extract. AreLoaded extract (r ∷ []) (r' ∷ [])) → ((d : Option Due) → IsKnown parts part (told_of s' o) (all_groups lanes (runs ∷ [])) box d → MapWritten d s' s'' o o' k k' result) → BuildAnswers from budget 1 here there result
              map-answers result limit-is loaded writes =
                  let m : MapWritten due s' s'' o o' k k' result = writes due known in
                  let last = last-stage result s'' o' k' m.counts in
                  record {
                    told = subst (λ t. IfSome due (IsDue t result)) told-same m.told;
                    judged = if-some (parts_from from p.bytes) _ (IsJudged result) (λ f e. subst (IsJudged result) (sym e) (judged-map result s'' o' k' m.counts)) q.told;
                    cause = caused result m.counts;
                    never_falls = Causes.none-fell p p' r r' s s'' o o' k k' (same-le _ _ q.faults) a.reader_never_falls (both-up s.faults s'.faults s''.faults a.spill_never_falls m.spill_never_falls) m.spool_never_falls m.sink_never_falls;
                    written = subst (λ t. Writes result t due k k') told-same m.written;
                    back = subst (λ t. ReadsBack result t due) told-same m.back;
                    decoded = subst (λ t. Decodes result t due) told-same m.decoded;
                    runs = subst (λ l. WritesRuns result l (told_of s o) due (s ∷ []) (s'' ∷ [])) limit-is (runs-of s'' result (subst (λ t. IfSome due (IsDue t result)) told-same m.told) (went s'' m.spill_runs));
                    loads = loads-of result;
                    untouched = λ e. absurd (omega (arith, e, last));
                    profile_bytes = q.bytes;
                    reader_bytes = ap (λ b. b ∷ []) bytes;
                    alone = q.alone;
                    spills_kept = (subst (KeepsEnded s.runs) (sym m.spill_runs) (kept-of s.runs s'.runs a.kept), tt);
                    spills = λ e. absurd (omega (arith, e, last));
                    kept = m.kept;
                    spool = λ e. absurd (omega (arith, e, last));
                  }
                where
                  loads-of : (x : Result Totals Stop) → Loads x here there
                  loads-of (Ok totals) = loaded
                  loads-of (Err stop) = tt
