-- What the statuses of a look into an archive say.
use Rattle.std.proofs.Common.{◌≡◌, inl, inr, ℕ, zero, suc, Option, None, Some, IfSome, Result, Ok, Err, List, [], ◌∷◌, refl, sym, ap, subst, ◌∙◌, arith}
use Rattle.tb_types.specs.Counts.{Rose}
use Rattle.tb_types.specs.declared.trouble.Whom.TheVariants.{Profile, Lane, Spool, Archive, Console}
use Rattle.tb_outside.specs.Source.{SourceSeen}
use Rattle.tb_outside.specs.Sink.{SinkSeen, with_more}
use Rattle.pmtiles_dirs.specs.declared.fault.ArcFault.{ArcFault}
use Rattle.pmtiles_read.specs.declared.error.ReadErr.{ReadErr}
use Rattle.pmtiles_read.specs.declared.error.ReadErr.TheVariants as errors
use Rattle.archive_text.specs.Due.{first_fault, unless_fault, due_of}
use Rattle.tile_model.specs.Objects.{Objects, reading, spilling, writing, CountsStay, NoneRose, first_bytes, extract_in, reader_count, count_of}
use Rattle.build_cli.specs.Ended.{look_ended}
use Rattle.build_cli.specs.Status.{done}
use Rattle.build_cli.specs.Command.{Command, build, check, show, generate, trial}
use Rattle.build_cli.specs.Answers.{Tells, LooksAtFirst, AnswersLook, AnswersCommand}
use Rattle.build_cli.specs.Looks.{text_of, IsShown, Fits}

if-told : {A : Type 0} (o : Option A) (P : A → Type 0) → ((x : A) → o ≡ Some x → P x) → IfSome o P
if-told None P h = tt
if-told (Some x) P h = h x refl

-- all counts but those of the readers are of what isn't used
stay : (before : Objects) (readers : List SourceSeen) → ((k : ℕ) → reader_count readers k ≡ reader_count before.readers k) → CountsStay before (record before { readers = readers })
stay before readers h reading Profile = refl
stay before readers h reading (Lane k) = h k
stay before readers h reading Spool = refl
stay before readers h reading Archive = refl
stay before readers h reading Console = refl
stay before readers h spilling Profile = refl
stay before readers h spilling (Lane k) = refl
stay before readers h spilling Spool = refl
stay before readers h spilling Archive = refl
stay before readers h spilling Console = refl
stay before readers h writing Profile = refl
stay before readers h writing (Lane k) = refl
stay before readers h writing Spool = refl
stay before readers h writing Archive = refl
stay before readers h writing Console = refl

-- the counts of the readers stay where that of the first does
readers-stay : (text : List ℕ → List ℕ) (told : List ℕ) (olds news : List SourceSeen) → LooksAtFirst text olds news (Ok told) → (k : ℕ) → reader_count news k ≡ reader_count olds k
readers-stay text told [] news h k = absurd h
readers-stay text told (old ∷ others) [] h k = absurd h
readers-stay text told (old ∷ others) (new ∷ readers) h zero = h.0.reads.counts
readers-stay text told (old ∷ others) (new ∷ readers) h (suc k) = ap (λ rs. reader_count rs k) h.1

counts-stay : (text : List ℕ → List ℕ) (told : List ℕ) (before after : Objects) → LooksAtFirst text before.readers after.readers (Ok told) → after ≡ record before { readers = after.readers } → CountsStay before after
counts-stay text told before after h unused role whom =
    ap (λ (o : Objects). count_of o role whom) unused ∙ stay before after.readers (readers-stay text told before.readers after.readers h) role whom

-- what the first reader's answer says of what is due
due-first : (text : List ℕ → List ℕ) (told archive : List ℕ) (olds news : List SourceSeen) → LooksAtFirst text olds news (Ok told) → first_bytes olds ≡ Some archive → due_of text archive ≡ Ok told
due-first text told archive [] news h is = absurd h
due-first text told archive (old ∷ others) [] h is = absurd h
due-first text told archive (old ∷ others) (new ∷ readers) h is = h.0.told archive is

text-due : (f : Option ArcFault) (x y : List ℕ) → unless_fault f x ≡ Ok y → x ≡ y
text-due None x y h = cc
text-due (Some fault) x y h = absurd cc

shown-by : (text : List ℕ → List ℕ) (before after : Objects) (console new_console : SinkSeen) (answer : ℕ) (result : Result (List ℕ) ReadErr) → LooksAtFirst text before.readers after.readers result → after ≡ record before { readers = after.readers }
    → Tells (look_ended result) console new_console answer → answer ≡ done → (archive : List ℕ) → extract_in before ≡ Some archive → IsShown text archive before after console new_console
shown-by text before after console new_console answer (Ok told) looked unused (inl t) is archive tells =
    let due : due_of text archive ≡ Ok told = due-first text told archive before.readers after.readers looked tells in
    let same : text archive ≡ told = text-due (first_fault archive) (text archive) told due in
    record {
      due = due ∙ ap Ok (sym same);
      told = subst (λ (said : List ℕ). new_console.bytes ≡ with_more console.bytes said) (sym same) t.1.told;
      counts = counts-stay text told before after looked unused;
      console_count = t.1.faults;
    }
shown-by text before after console new_console answer (Ok told) looked unused (inr t) is archive tells = let nine : answer ≡ 9 = t.0 in absurd (omega arith)
shown-by text before after console new_console answer (Err errors.Failed) looked unused told is archive tells = let seven : answer ≡ 7 = told.0 in absurd (omega arith)
shown-by text before after console new_console answer (Err (errors.Bad fault)) looked unused told is archive tells = let eleven : answer ≡ 11 = told.0 in absurd (omega arith)
shown-by text before after console new_console answer (Err errors.Memory) looked unused told is archive tells = let ten : answer ≡ 10 = told.0 in absurd (omega arith)

shown : (text : List ℕ → List ℕ) (before after : Objects) (console new_console : SinkSeen) (answer : ℕ) → AnswersLook text before after console new_console answer → answer ≡ done
    → IfSome (extract_in before) (λ archive. IsShown text archive before after console new_console)
shown text before after console new_console answer h is =
    if-told (extract_in before) (λ archive. IsShown text archive before after console new_console) (shown-by text before after console new_console answer h.result h.looked h.unused h.told is)

-- want of memory fits whatever is due
memory-fits : (due : Result (List ℕ) ArcFault) (answer : ℕ) → answer ≡ 10 → Fits due answer
memory-fits (Ok text) answer is = inr is
memory-fits (Err fault) answer is = inr is

fits-by : (text : List ℕ → List ℕ) (olds news : List SourceSeen) (console new_console : SinkSeen) (answer : ℕ) (result : Result (List ℕ) ReadErr) → LooksAtFirst text olds news result → Tells (look_ended result) console new_console answer
    → (Rose (reader_count olds 0) (reader_count news 0) → ⊥) → (Rose console.faults new_console.faults → ⊥) → (archive : List ℕ) → first_bytes olds ≡ Some archive → Fits (due_of text archive) answer
fits-by text [] news console new_console answer result looked told still quiet archive tells = absurd looked
fits-by text (old ∷ others) [] console new_console answer result looked told still quiet archive tells = absurd looked
fits-by text (old ∷ others) (new ∷ readers) console new_console answer (Ok said) looked (inl t) still quiet archive tells =
    subst (λ (due : Result (List ℕ) ArcFault). Fits due answer) (sym (looked.0.told archive tells)) (inl t.0)
fits-by text (old ∷ others) (new ∷ readers) console new_console answer (Ok said) looked (inr t) still quiet archive tells = absurd (quiet t.1.rose)
fits-by text (old ∷ others) (new ∷ readers) console new_console answer (Err errors.Failed) looked told still quiet archive tells = absurd (still looked.0.reads.counts)
fits-by text (old ∷ others) (new ∷ readers) console new_console answer (Err (errors.Bad fault)) looked told still quiet archive tells =
    subst (λ (due : Result (List ℕ) ArcFault). Fits due answer) (sym (looked.0.told archive tells)) (inl told.0)
fits-by text (old ∷ others) (new ∷ readers) console new_console answer (Err errors.Memory) looked told still quiet archive tells = memory-fits (due_of text archive) answer told.0

fits : (text : List ℕ → List ℕ) (before after : Objects) (console new_console : SinkSeen) (answer : ℕ) → AnswersLook text before after console new_console answer → NoneRose before after → (Rose console.faults new_console.faults → ⊥)
    → IfSome (extract_in before) (λ archive. Fits (due_of text archive) answer)
fits text before after console new_console answer h none quiet =
    if-told (extract_in before) (λ archive. Fits (due_of text archive) answer)
    (fits-by text before.readers after.readers console new_console answer h.result h.looked h.told (none reading (Lane 0)) quiet)

-- the same of the command that looks
pub shown_of : (command : Option Command) (before after : Objects) (console new_console : SinkSeen) (answer : ℕ) → AnswersCommand command before after console new_console answer → answer ≡ done
    → IfSome (text_of command) (λ text. IfSome (extract_in before) (λ archive. IsShown text archive before after console new_console))
shown_of None before after console new_console answer h is = tt
shown_of (Some (build rules extract archive budget)) before after console new_console answer h is = tt
shown_of (Some (check archive)) before after console new_console answer h is = shown _ before after console new_console answer h is
shown_of (Some (show archive tile)) before after console new_console answer h is = shown _ before after console new_console answer h is
shown_of (Some (generate seed count extract)) before after console new_console answer h is = tt
shown_of (Some (trial seed count archive)) before after console new_console answer h is = tt

pub fits_of : (command : Option Command) (before after : Objects) (console new_console : SinkSeen) (answer : ℕ) → AnswersCommand command before after console new_console answer → NoneRose before after → (Rose console.faults new_console.faults → ⊥)
    → IfSome (text_of command) (λ text. IfSome (extract_in before) (λ archive. Fits (due_of text archive) answer))
fits_of None before after console new_console answer h none quiet = tt
fits_of (Some (build rules extract archive budget)) before after console new_console answer h none quiet = tt
fits_of (Some (check archive)) before after console new_console answer h none quiet = fits _ before after console new_console answer h none quiet
fits_of (Some (show archive tile)) before after console new_console answer h none quiet = fits _ before after console new_console answer h none quiet
fits_of (Some (generate seed count extract)) before after console new_console answer h none quiet = tt
fits_of (Some (trial seed count archive)) before after console new_console answer h none quiet = tt
