-- An extract that is appended frame after frame, and what the statuses of `gen` say.
use Rattle.std.proofs.Common.{◌≡◌, ◌⊎◌, inl, inr, ℕ, ◌+◌, ◌≤◌, Option, None, Some, Result, Ok, Err, List, [], ◌∷◌, ◌++◌, length, length-append, append_assoc, refl, sym, ap, subst, ◌∙◌, arith}
use Rattle.std.specs.List.{concat}
use Rattle.std.proofs.lemmas.List.{append-nil}
use Rattle.std.proofs.lemmas.List.Folds.{concat-append}
use Rattle.tb_types.specs.Counts.{Rose}
use Rattle.tb_types.specs.declared.trouble.Whom.TheVariants.{Profile, Lane, Spool, Archive, Console}
use Rattle.tb_outside.specs.Sink.{SinkSeen, with_more, GrowsByPrefix}
use Rattle.gen_world.specs.Frames.{frames_of, extract_of}
use Rattle.tile_model.specs.declared.stop.Stop.TheVariants as stops
use Rattle.tile_model.specs.Objects.{Objects, reading, spilling, writing, CountsStay, count_of}
use Rattle.build_cli.specs.declared.status.Refusal.TheVariants.{Stopped}
use Rattle.build_cli.specs.declared.generate.Generated.{Generated}
use Rattle.build_cli.specs.declared.generate.GenErr.{GenErr}
use Rattle.build_cli.specs.declared.generate.GenErr.TheVariants as gen_errors
use Rattle.build_cli.specs.Command.{Command, build, check, show, generate, trial}
use Rattle.build_cli.specs.Ended.{generate_ended}
use Rattle.build_cli.specs.Extract.{totals_of, generated_line}
use Rattle.build_cli.specs.Status.{done, status_of}
use Rattle.build_cli.specs.Answers.{Tells, GenerateAnswers, AnswersCommand}
use Rattle.build_cli.specs.Generated.{IfGenerates, IsGenerated}
use Rattle.build_cli.proofs.Appending.{more-twice, more-nothing, prefix-of}

-- some frames are appended and counted, and the others are left
pub record Generating (frames left : List (List ℕ)) (old now : SinkSeen) (totals : Generated) : Type 0 where
  pub appended : List (List ℕ)
  pub all : frames ≡ appended ++ left
  pub bytes : now.bytes ≡ with_more old.bytes (concat appended)
  pub faults : now.faults ≡ old.faults
  pub counted : totals ≡ totals_of appended

pub generating-start : (frames : List (List ℕ)) (s : SinkSeen) → Generating frames frames s s (record { blocks = 0; bytes = 0 })
generating-start frames s = record { appended = []; all = refl; bytes = more-nothing s.bytes; faults = refl; counted = refl }

-- the bytes of frames, and of one behind them
pub concat-next : (frames : List (List ℕ)) (frame : List ℕ) → concat (frames ++ frame ∷ []) ≡ concat frames ++ frame
concat-next frames frame = concat-append frames (frame ∷ []) ∙ ap (λ last. concat frames ++ last) (append-nil frame)

same-totals : (a b c d : ℕ) → a ≡ c → b ≡ d → (let x : Generated = record { blocks = a; bytes = b } in let y : Generated = record { blocks = c; bytes = d } in x ≡ y)
same-totals a b c d h k = cc

totals-next : (frames : List (List ℕ)) (frame : List ℕ) (t : Generated) (len : ℕ) → t ≡ totals_of frames → len ≡ length frame
    → (let more : Generated = record { blocks = t.blocks + 1; bytes = t.bytes + len } in more ≡ totals_of (frames ++ frame ∷ []))
totals-next frames frame t len is size =
    let blocks : t.blocks ≡ length frames = ap (λ (g : Generated). g.blocks) is in
    let bytes : t.bytes ≡ length (concat frames) = ap (λ (g : Generated). g.bytes) is in
    let one : length (frames ++ frame ∷ []) ≡ length frames + 1 = length-append frames (frame ∷ []) in
    let joined : length (concat (frames ++ frame ∷ [])) ≡ length (concat frames) + length frame = ap length (concat-next frames frame) ∙ length-append (concat frames) frame in
    same-totals (t.blocks + 1) (t.bytes + len) (length (frames ++ frame ∷ [])) (length (concat (frames ++ frame ∷ []))) (omega (arith, blocks, one)) (omega (arith, bytes, joined, size))

pub generating-next : (frames left later : List (List ℕ)) (frame : List ℕ) (old mid new : SinkSeen) (t : Generated) (len : ℕ) → Generating frames left old mid t → left ≡ frame ∷ later → len ≡ length frame
    → new.bytes ≡ with_more mid.bytes frame → new.faults ≡ mid.faults → Generating frames later old new (record { blocks = t.blocks + 1; bytes = t.bytes + len })
generating-next frames left later frame old mid new t len s is size grew same = record {
  appended = s.appended ++ frame ∷ [];
  all = s.all ∙ (ap (λ xs. s.appended ++ xs) is ∙ sym (append_assoc s.appended (frame ∷ []) later));
  bytes = grew ∙ (ap (λ o. with_more o frame) s.bytes ∙ (more-twice old.bytes (concat s.appended) frame ∙ ap (with_more old.bytes) (sym (concat-next s.appended frame))));
  faults = same ∙ s.faults;
  counted = totals-next s.appended frame t len s.counted size;
}

-- the totals of one frame more are no more than those of all
pub generating-room : (frames left later : List (List ℕ)) (frame : List ℕ) (old now : SinkSeen) (t : Generated) → Generating frames left old now t → left ≡ frame ∷ later
    → (t.blocks + 1 ≤ length frames) × (t.bytes + length frame ≤ length (concat frames))
generating-room frames left later frame old now t s is =
    let all : frames ≡ s.appended ++ (frame ∷ later) = s.all ∙ ap (λ xs. s.appended ++ xs) is in
    let blocks : t.blocks ≡ length s.appended = ap (λ (g : Generated). g.blocks) s.counted in
    let bytes : t.bytes ≡ length (concat s.appended) = ap (λ (g : Generated). g.bytes) s.counted in
    let count : length frames ≡ length s.appended + length (frame ∷ later) = ap length all ∙ length-append s.appended (frame ∷ later) in
    let joined : length (concat frames) ≡ length (concat s.appended) + length (frame ++ concat later) = ap length (ap concat all ∙ concat-append s.appended (frame ∷ later)) ∙ length-append (concat s.appended) (frame ++ concat later) in
    let one : length (frame ++ concat later) ≡ length frame + length (concat later) = length-append frame (concat later) in
    (omega (arith, blocks, count), omega (arith, bytes, joined, one))

pub generating-end : (frames left : List (List ℕ)) (old now : SinkSeen) (t : Generated) → Generating frames left old now t → left ≡ [] → GenerateAnswers frames old now (Ok t)
generating-end frames left old now t s none =
    let whole : s.appended ≡ frames = sym (s.all ∙ (ap (λ xs. s.appended ++ xs) none ∙ append-nil s.appended)) in
    (s.counted ∙ ap totals_of whole, record { told = s.bytes ∙ ap (λ xs. with_more old.bytes (concat xs)) whole; faults = s.faults })

-- the bytes of all frames are those that stand there, and those that are left
parts : (frames appended left : List (List ℕ)) → frames ≡ appended ++ left → concat frames ≡ concat appended ++ concat left
parts frames appended left is = ap concat is ∙ concat-append appended left

pub generating-stops : (frames left : List (List ℕ)) (old now : SinkSeen) (t : Generated) → Generating frames left old now t → GenerateAnswers frames old now (Err gen_errors.Memory)
generating-stops frames left old now t s = ((concat s.appended, concat left, parts frames s.appended left s.all, s.bytes), s.faults)

pub generating-fails : (frames left later : List (List ℕ)) (frame : List ℕ) (old mid new : SinkSeen) (t : Generated) → Generating frames left old mid t → left ≡ frame ∷ later
    → GrowsByPrefix mid.bytes new.bytes frame → Rose mid.faults new.faults → mid.faults ≤ new.faults → GenerateAnswers frames old new (Err gen_errors.Sink)
generating-fails frames left later frame old mid new t s is prefix rose rising = record {
  told = prefix-of old.bytes mid.bytes new.bytes (concat s.appended) frame (concat later) (concat frames) s.bytes (parts frames s.appended left s.all ∙ ap (λ xs. concat s.appended ++ concat xs) is) prefix;
  rose = subst (λ n. Rose n new.faults) s.faults rose;
  never_falls = omega (arith, s.faults, rising);
}

-- all counts but that of the archive's sink are of what isn't used
stays : (before : Objects) (archive : SinkSeen) → archive.faults ≡ before.archive.faults → CountsStay before (record before { archive = archive })
stays before archive h reading Profile = refl
stays before archive h reading (Lane k) = refl
stays before archive h reading Spool = refl
stays before archive h reading Archive = refl
stays before archive h reading Console = refl
stays before archive h spilling Profile = refl
stays before archive h spilling (Lane k) = refl
stays before archive h spilling Spool = refl
stays before archive h spilling Archive = refl
stays before archive h spilling Console = refl
stays before archive h writing Profile = refl
stays before archive h writing (Lane k) = refl
stays before archive h writing Spool = refl
stays before archive h writing Archive = h
stays before archive h writing Console = refl

generated-by : (seed count : ℕ) (before after : Objects) (console new_console : SinkSeen) (answer : ℕ) (result : Result Generated GenErr) → GenerateAnswers (frames_of seed count) before.archive after.archive result
    → after ≡ record before { archive = after.archive } → Tells (generate_ended result) console new_console answer → answer ≡ done → IsGenerated seed count before after console new_console
unfolding extract_of
generated-by seed count before after console new_console answer (Ok totals) made unused (inl t) is = record {
  written = made.1.told;
  told = t.1.told ∙ ap (λ (all : Generated). with_more console.bytes (generated_line all)) made.0;
  counts = λ role whom. ap (λ (o : Objects). count_of o role whom) unused ∙ stays before after.archive made.1.faults role whom;
  console_count = t.1.faults;
  unused = unused;
}
generated-by seed count before after console new_console answer (Ok totals) made unused (inr t) is = let nine : answer ≡ 9 = t.0 in absurd (omega arith)
generated-by seed count before after console new_console answer (Err gen_errors.Sink) made unused told is = let nine : answer ≡ 9 = told.0 in absurd (omega arith)
generated-by seed count before after console new_console answer (Err gen_errors.Memory) made unused told is = let ten : answer ≡ 10 = told.0 in absurd (omega arith)

complete-by : (frames : List (List ℕ)) (old new console new_console : SinkSeen) (answer : ℕ) (result : Result Generated GenErr) → GenerateAnswers frames old new result → Tells (generate_ended result) console new_console answer
    → (Rose old.faults new.faults → ⊥) → (Rose console.faults new_console.faults → ⊥) → (answer ≡ done) ⊎ (answer ≡ status_of (Stopped stops.Memory))
complete-by frames old new console new_console answer (Ok totals) made (inl t) still quiet = inl t.0
complete-by frames old new console new_console answer (Ok totals) made (inr t) still quiet = absurd (quiet t.1.rose)
complete-by frames old new console new_console answer (Err gen_errors.Sink) made told still quiet = absurd (still made.rose)
complete-by frames old new console new_console answer (Err gen_errors.Memory) made told still quiet = inr told.0

-- the same of the command that generates
pub generated_of : (command : Option Command) (before after : Objects) (console new_console : SinkSeen) (answer : ℕ) → AnswersCommand command before after console new_console answer → answer ≡ done
    → IfGenerates command (λ seed count. IsGenerated seed count before after console new_console)
generated_of None before after console new_console answer h is = tt
generated_of (Some (build rules extract archive budget)) before after console new_console answer h is = tt
generated_of (Some (check archive)) before after console new_console answer h is = tt
generated_of (Some (show archive tile)) before after console new_console answer h is = tt
generated_of (Some (generate seed count extract)) before after console new_console answer h is =
    generated-by seed count before after console new_console answer h.result h.generated h.unused h.told is
generated_of (Some (trial seed count archive)) before after console new_console answer h is = tt

pub complete_of : (command : Option Command) (before after : Objects) (console new_console : SinkSeen) (answer : ℕ) → AnswersCommand command before after console new_console answer → (Rose before.archive.faults after.archive.faults → ⊥)
    → (Rose console.faults new_console.faults → ⊥) → IfGenerates command (λ seed count. (answer ≡ done) ⊎ (answer ≡ status_of (Stopped stops.Memory)))
complete_of None before after console new_console answer h still quiet = tt
complete_of (Some (build rules extract archive budget)) before after console new_console answer h still quiet = tt
complete_of (Some (check archive)) before after console new_console answer h still quiet = tt
complete_of (Some (show archive tile)) before after console new_console answer h still quiet = tt
complete_of (Some (generate seed count extract)) before after console new_console answer h still quiet =
    complete-by (frames_of seed count) before.archive after.archive console new_console answer h.result h.generated h.told still quiet
complete_of (Some (trial seed count archive)) before after console new_console answer h still quiet = tt
