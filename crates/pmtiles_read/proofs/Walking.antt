-- The walk through a directory, entry by entry.
use Rattle.std.proofs.Common.{◌≡◌, ℕ, zero, suc, ◌+◌, ◌-◌, ◌<◌, ◌≤◌, Option, None, Some, Result, Ok, Err, List, [], ◌∷◌, length, drop, get_or, slice_range, refl, ap, sym, subst, ◌∙◌, arith}
use Rattle.std.specs.Prelude.{⊤}
use Rattle.std.proofs.lemmas.List.{drop_more, drop_all}
use Rattle.tb_types.specs.Counts.{Rose}
use Rattle.tb_outside.specs.Source.{SourceSeen}
use Rattle.pmtiles_dirs.specs.declared.entry.DirEntry.{DirEntry}
use Rattle.pmtiles_dirs.specs.declared.fault.ArcFault.{ArcFault}
use Rattle.pmtiles_dirs.specs.declared.fault.ArcWhy.TheVariants as reasons
use Rattle.pmtiles_dirs.specs.declared.header.Header.{Header}
use Rattle.pmtiles_dirs.specs.Directory.{AreEntries, dir_of}
use Rattle.pmtiles_dirs.specs.Fault.{Walk, ◌>>=◌, fault, with_entry, walk_entries, walk_found, walk_dir}
use Rattle.pmtiles_read.specs.declared.error.ReadErr.{ReadErr}
use Rattle.pmtiles_read.specs.declared.error.ReadErr.TheVariants as errors
use Rattle.pmtiles_read.specs.Answers.{Gives, CountsFor, IsNotBad, Reads, MayGoOn, WalkAnswers}

-- The entries of a directory up to some that are left: walking on from here gives what walking all gives.
pub record Walking (h : Header) (levels : ℕ) (old now : SourceSeen) (before so_far : Walk) (entries left : List DirEntry) : Type 0 where
  pub told : (archive : List ℕ) → old.bytes ≡ Some archive → walk_entries (walk_dir archive h (levels - 1)) h left so_far ≡ walk_entries (walk_dir archive h (levels - 1)) h entries before
  pub bytes : now.bytes ≡ old.bytes
  pub faults : now.faults ≡ old.faults
  pub sound : MayGoOn h.tiles_at before → MayGoOn h.tiles_at so_far
  pub last : Option DirEntry
  pub are : AreEntries last left

pub walking-start : (h : Header) (levels : ℕ) (old now : SourceSeen) (before : Walk) (entries : List DirEntry) → now.bytes ≡ old.bytes → now.faults ≡ old.faults → AreEntries None entries → Walking h levels old now before before entries entries
walking-start h levels old now before entries b f are = record { told = λ archive is. refl; bytes = b; faults = f; sound = λ g. g; last = None; are = are }

-- an entry more
pub walking-next : (h : Header) (levels : ℕ) (old mid new : SourceSeen) (before so_far after : Walk) (entries : List DirEntry) (i : ℕ) (d : DirEntry) (u : ⊤) → i < length entries
    → Walking h levels old mid before so_far entries (drop i entries)
    → WalkAnswers h.tiles_at mid new so_far after (Ok u) (λ a. with_entry (walk_dir a h (levels - 1)) h (get_or entries i d) so_far)
    → Walking h levels old new before after entries (drop (i + 1) entries)
walking-next h levels old mid new before so_far after entries i d u more w a =
    let step : drop i entries ≡ get_or entries i d ∷ drop (i + 1) entries = drop_more entries i d more in
    let are : AreEntries w.last (get_or entries i d ∷ drop (i + 1) entries) = subst (AreEntries w.last) step w.are in
    record {
      told = λ archive is.
          let leaf = walk_dir archive h (levels - 1) in
          sym (ap (λ es. walk_entries leaf h es so_far) step ∙ ap (λ r. r >>= walk_entries leaf h (drop (i + 1) entries)) (a.told archive (w.bytes ∙ is))) ∙ w.told archive is;
      bytes = a.reads.bytes ∙ w.bytes;
      faults = a.reads.counts ∙ w.faults;
      sound = λ g. a.sound (w.sound g);
      last = Some (get_or entries i d);
      are = are.2;
    }

-- a fault of an entry is one of the directory
fault-told : (leaf : ℕ → ℕ → Walk → Result Walk ArcFault) (h : Header) (so_far after : Walk) (e : DirEntry) (rest : List DirEntry) (err : ReadErr) → Gives {A = ⊤} (λ _. after) (Err err) (with_entry leaf h e so_far)
    → Gives {A = ⊤} (λ _. after) (Err err) (walk_entries leaf h (e ∷ rest) so_far)
fault-told leaf h so_far after e rest (errors.Bad f) g = ap (λ r. r >>= walk_entries leaf h rest) g
fault-told leaf h so_far after e rest errors.Failed g = tt
fault-told leaf h so_far after e rest errors.Memory g = tt

counts-from : (err : ReadErr) (a b c : ℕ) → b ≡ a → CountsFor {A = ⊤} (Err err) b c → CountsFor {A = ⊤} (Err err) a c
counts-from (errors.Bad f) a b c same k = k ∙ same
counts-from errors.Failed a b c same k = subst (λ n. Rose n c) same k
counts-from errors.Memory a b c same k = k ∙ same

-- the directory at a place, once it was read
dir-step : (archive : List ℕ) (h : Header) (levels at len : ℕ) (before : Walk) → 0 < levels → walk_dir archive h levels at len before ≡ walk_found (walk_dir archive h (levels - 1)) h at (dir_of (slice_range archive at (at + len))) before
dir-step archive h zero at len before some = absurd (omega (arith, some))
dir-step archive h (suc levels) at len before some = let same : suc levels - 1 ≡ levels = omega arith in rw same refl

dir-told : (archive : List ℕ) (h : Header) (levels at len : ℕ) (entries : List DirEntry) (before : Walk) → 0 < levels → Some entries ≡ dir_of (slice_range archive at (at + len))
    → walk_dir archive h levels at len before ≡ walk_entries (walk_dir archive h (levels - 1)) h entries before
dir-told archive h levels at len entries before some dir =
    dir-step archive h levels at len before some ∙ ap (λ found. walk_found (walk_dir archive h (levels - 1)) h at found before) (sym dir)

-- bytes that are no directory
pub walked-none : (h : Header) (levels at len : ℕ) (old new : SourceSeen) (before : Walk) → 0 < levels → ((archive : List ℕ) → old.bytes ≡ Some archive → None ≡ dir_of (slice_range archive at (at + len))) → new.bytes ≡ old.bytes → new.faults ≡ old.faults
    → WalkAnswers h.tiles_at old new before before (Err (errors.Bad (fault at reasons.Directory))) (λ a. walk_dir a h levels at len before)
walked-none h levels at len old new before some dir b f = record {
  told = λ archive is. dir-step archive h levels at len before some ∙ ap (λ found. walk_found (walk_dir archive h (levels - 1)) h at found before) (sym (dir archive is));
  reads = record { bytes = b; counts = f; never_falls = omega (arith, f) };
  sound = tt;
}

-- a directory that wasn't read
pub walked-stop : (h : Header) (levels at len : ℕ) (old new : SourceSeen) (before : Walk) (err : ReadErr) → IsNotBad {A = Option (List DirEntry)} (Err err) → Reads {A = Option (List DirEntry)} old new (Err err)
    → WalkAnswers h.tiles_at old new before before (Err err) (λ a. walk_dir a h levels at len before)
walked-stop h levels at len old new before (errors.Bad f) no_fault r = absurd no_fault
walked-stop h levels at len old new before errors.Failed no_fault r = record { told = λ archive is. tt; reads = record { bytes = r.bytes; counts = r.counts; never_falls = r.never_falls }; sound = tt }
walked-stop h levels at len old new before errors.Memory no_fault r = record { told = λ archive is. tt; reads = record { bytes = r.bytes; counts = r.counts; never_falls = r.never_falls }; sound = tt }

-- no level is left
pub walked-deep : (h : Header) (levels at len : ℕ) (old : SourceSeen) (before : Walk) → levels ≡ 0 → WalkAnswers h.tiles_at old old before before (Err (errors.Bad (fault at reasons.Depth))) (λ a. walk_dir a h levels at len before)
walked-deep h levels at len old before none = record {
  told = λ archive is. rw none refl;
  reads = record { bytes = refl; counts = refl; never_falls = omega arith };
  sound = tt;
}

pub walked-err : (h : Header) (levels at len : ℕ) (old mid new : SourceSeen) (before so_far after : Walk) (entries : List DirEntry) (i : ℕ) (d : DirEntry) (err : ReadErr) → 0 < levels → i < length entries
    → ((archive : List ℕ) → old.bytes ≡ Some archive → Some entries ≡ dir_of (slice_range archive at (at + len)))
    → Walking h levels old mid before so_far entries (drop i entries)
    → WalkAnswers h.tiles_at mid new so_far after (Err err) (λ a. with_entry (walk_dir a h (levels - 1)) h (get_or entries i d) so_far)
    → WalkAnswers h.tiles_at old new before after (Err err) (λ a. walk_dir a h levels at len before)
walked-err h levels at len old mid new before so_far after entries i d err some more dir w a =
    let step : drop i entries ≡ get_or entries i d ∷ drop (i + 1) entries = drop_more entries i d more in
    record {
      told = λ archive is.
          subst (λ (due : Result Walk ArcFault). Gives {A = ⊤} (λ _. after) (Err err) due)
          (sym (dir-told archive h levels at len entries before some (dir archive is) ∙ (sym (w.told archive is) ∙ ap (λ es. walk_entries (walk_dir archive h (levels - 1)) h es so_far) step)))
          (fault-told (walk_dir archive h (levels - 1)) h so_far after (get_or entries i d) (drop (i + 1) entries) err (a.told archive (w.bytes ∙ is)));
      reads = record { bytes = a.reads.bytes ∙ w.bytes; counts = counts-from err old.faults mid.faults new.faults w.faults a.reads.counts; never_falls = omega (arith, w.faults, a.reads.never_falls) };
      sound = tt;
    }

pub walked-all : (h : Header) (levels at len : ℕ) (old new : SourceSeen) (before after : Walk) (entries : List DirEntry) (i : ℕ) (u : ⊤) → 0 < levels → length entries ≤ i
    → ((archive : List ℕ) → old.bytes ≡ Some archive → Some entries ≡ dir_of (slice_range archive at (at + len)))
    → Walking h levels old new before after entries (drop i entries) → WalkAnswers h.tiles_at old new before after (Ok u) (λ a. walk_dir a h levels at len before)
walked-all h levels at len old new before after entries i u some done dir w =
    let none : drop i entries ≡ [] = drop_all i entries done in
    record {
      told = λ archive is. dir-told archive h levels at len entries before some (dir archive is) ∙ (sym (w.told archive is) ∙ ap (λ es. walk_entries (walk_dir archive h (levels - 1)) h es after) none);
      reads = record { bytes = w.bytes; counts = w.faults; never_falls = omega (arith, w.faults) };
      sound = w.sound;
    }
