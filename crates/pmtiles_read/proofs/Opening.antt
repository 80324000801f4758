-- An archive is opened: its header is read, and then all directories are walked.
use Rattle.std.proofs.Common.{◌≡◌, ℕ, Result, Ok, Err, List, [], ap, sym, subst, ◌∙◌, arith}
use Rattle.std.specs.Prelude.{⊤}
use Rattle.std.proofs.lemmas.List.{append-nil}
use Rattle.tb_types.specs.Counts.{Rose}
use Rattle.tb_outside.specs.Source.{SourceSeen}
use Rattle.pmtiles_dirs.specs.declared.fault.ArcFault.{ArcFault}
use Rattle.pmtiles_dirs.specs.declared.header.Header.{Header}
use Rattle.pmtiles_dirs.specs.Fault.{Walk, Opened, ◌>>=◌, no_walk, opened_from, read_header, walk_root, walk_dir, opened}
use Rattle.pmtiles_read.specs.declared.error.ReadErr.{ReadErr}
use Rattle.pmtiles_read.specs.declared.error.ReadErr.TheVariants as errors
use Rattle.pmtiles_read.specs.Tiles.{AreTiles}
use Rattle.pmtiles_read.proofs.Backing.{back-is}
use Rattle.pmtiles_read.specs.Answers.{Gives, CountsFor, MayGoOn, WalkAnswers, HeaderAnswers, OpenAnswers}

header-stop : (archive : List ℕ) (e : ReadErr) → Gives {A = Header} (λ h. h) (Err e) (read_header archive) → Gives {A = Opened} (λ o. o) (Err e) (opened archive)
unfolding opened
header-stop archive (errors.Bad f) g = ap (λ r. r >>= λ h. walk_root archive h >>= λ walk. Ok (opened_from h walk)) g
header-stop archive errors.Failed g = tt
header-stop archive errors.Memory g = tt

counts-as : (A B : Type 0) (e : ReadErr) (old new : ℕ) → CountsFor {A = A} (Err e) old new → CountsFor {A = B} (Err e) old new
counts-as A B (errors.Bad f) old new h = h
counts-as A B errors.Failed old new h = h
counts-as A B errors.Memory old new h = h

pub opened-header : (old new : SourceSeen) (e : ReadErr) → HeaderAnswers old new (Err e) → OpenAnswers old new (Err e)
opened-header old new e h = record {
  told = λ archive is. header-stop archive e (h.told archive is);
  back = λ archive is. tt;
  reads = record { bytes = h.reads.bytes; counts = counts-as Header Opened e old.faults new.faults h.reads.counts; never_falls = h.reads.never_falls };
  sound = tt;
}

opened-by : (archive : List ℕ) (h : Header) (r : Result Walk ArcFault) → read_header archive ≡ Ok h → walk_root archive h ≡ r → opened archive ≡ r >>= λ walk. Ok (opened_from h walk)
unfolding opened
opened-by archive h r head walk = ap (λ x. x >>= λ one. walk_root archive one >>= λ w. Ok (opened_from one w)) head ∙ ap (λ x. x >>= λ w. Ok (opened_from h w)) walk

walk-stop : (archive : List ℕ) (h : Header) (after : Walk) (e : ReadErr) → read_header archive ≡ Ok h → Gives {A = ⊤} (λ _. after) (Err e) (walk_root archive h) → Gives {A = Opened} (λ o. o) (Err e) (opened archive)
walk-stop archive h after (errors.Bad f) head g = opened-by archive h (Err f) head g
walk-stop archive h after errors.Failed head g = tt
walk-stop archive h after errors.Memory head g = tt

counts-from : (A B : Type 0) (e : ReadErr) (a b c : ℕ) → b ≡ a → CountsFor {A = A} (Err e) b c → CountsFor {A = B} (Err e) a c
counts-from A B (errors.Bad f) a b c same k = k ∙ same
counts-from A B errors.Failed a b c same k = subst (λ n. Rose n c) same k
counts-from A B errors.Memory a b c same k = k ∙ same

pub opened-fault : (old mid new : SourceSeen) (h : Header) (before after : Walk) (e : ReadErr) → before ≡ no_walk → HeaderAnswers old mid (Ok h)
    → WalkAnswers h.tiles_at mid new before after (Err e) (λ a. walk_dir a h 4 h.root_at h.root_len before) → OpenAnswers old new (Err e)
opened-fault old mid new h before after e start head a =
    let b : WalkAnswers h.tiles_at mid new no_walk after (Err e) (λ a. walk_dir a h 4 h.root_at h.root_len no_walk) = subst (λ w. WalkAnswers h.tiles_at mid new w after (Err e) (λ a. walk_dir a h 4 h.root_at h.root_len w)) start a in
    record {
      told = λ archive is. walk-stop archive h after e (head.told archive is) (b.told archive (head.reads.bytes ∙ is));
      back = λ archive is. tt;
      reads = record { bytes = b.reads.bytes ∙ head.reads.bytes; counts = counts-from ⊤ Opened e old.faults mid.faults new.faults head.reads.counts b.reads.counts; never_falls = omega (arith, head.reads.never_falls, b.reads.never_falls) };
      sound = tt;
    }

pub opened-sound : (old new : SourceSeen) (h : Header) (before after : Walk) (u : ⊤) → before ≡ no_walk → WalkAnswers h.tiles_at old new before after (Ok u) (λ a. walk_dir a h 4 h.root_at h.root_len before) → AreTiles h.tiles_at 0 after.found
opened-sound old new h before after u start a =
    let goes_on : MayGoOn h.tiles_at before = subst (λ w. MayGoOn h.tiles_at w) (sym start) (record { next = omega arith; rest = λ entries are. are }) in
    rw append-nil at ((a.sound goes_on).rest [] tt)

pub opened-all : (old mid new : SourceSeen) (h : Header) (before after : Walk) (u : ⊤) → before ≡ no_walk → HeaderAnswers old mid (Ok h)
    → WalkAnswers h.tiles_at mid new before after (Ok u) (λ a. walk_dir a h 4 h.root_at h.root_len before) → OpenAnswers old new (Ok (opened_from h after))
opened-all old mid new h before after u start head a =
    let b : WalkAnswers h.tiles_at mid new no_walk after (Ok u) (λ a. walk_dir a h 4 h.root_at h.root_len no_walk) = subst (λ w. WalkAnswers h.tiles_at mid new w after (Ok u) (λ a. walk_dir a h 4 h.root_at h.root_len w)) start a in
    record {
      told = λ archive is. opened-by archive h (Ok after) (head.told archive is) (b.told archive (head.reads.bytes ∙ is));
      back = λ archive is. back-is archive (opened_from h after) (opened-by archive h (Ok after) (head.told archive is) (b.told archive (head.reads.bytes ∙ is)));
      reads = record { bytes = b.reads.bytes ∙ head.reads.bytes; counts = b.reads.counts ∙ head.reads.counts; never_falls = omega (arith, head.reads.never_falls, b.reads.never_falls) };
      sound = opened-sound mid new h before after u start a;
    }
