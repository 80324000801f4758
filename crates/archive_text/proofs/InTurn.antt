-- Calls that read a source, one after another.
use Rattle.std.proofs.Common.{◌≡◌, ℕ, ◌≤◌, Option, None, Some, Result, Ok, Err, List, refl, sym, subst, ◌∙◌, arith}
use Rattle.std.specs.Prelude.{IfSome}
use Rattle.pmtiles_dirs.specs.declared.fault.ArcFault.{ArcFault}
use Rattle.tb_outside.specs.Source.{SourceSeen}
use Rattle.pmtiles_read.specs.declared.error.ReadErr.{ReadErr}
use Rattle.pmtiles_read.specs.declared.error.ReadErr.TheVariants as errors
use Rattle.pmtiles_read.specs.Answers.{Gives, CountsFor, IsNotBad, IsNotFailed, Reads}

-- a call that was answered, and the next one
pub reads-then : {A B : Type 0} (old mid new : SourceSeen) (x : A) (r : Result B ReadErr) → Reads old mid (Ok x) → Reads mid new r → Reads old new r
reads-then old mid new x r first next = record {
  bytes = next.bytes ∙ first.bytes;
  counts = subst (λ (n : ℕ). CountsFor r n new.faults) first.counts next.counts;
  never_falls = let a = first.never_falls in let b = next.never_falls in omega (arith, a, b);
}

-- an answer that is no fault of a source
pub reads-same : {B : Type 0} (s : SourceSeen) (r : Result B ReadErr) → IsNotFailed r → Reads s s r
reads-same s (Ok x) h = record { bytes = refl; counts = refl; never_falls = omega arith }
reads-same s (Err (errors.Bad fault)) h = record { bytes = refl; counts = refl; never_falls = omega arith }
reads-same s (Err errors.Failed) h = absurd h
reads-same s (Err errors.Memory) h = record { bytes = refl; counts = refl; never_falls = omega arith }

-- such an answer behind a call that was answered
pub reads-still : {A B : Type 0} (old new : SourceSeen) (x : A) (r : Result B ReadErr) → Reads old new (Ok x) → IsNotFailed r → Reads old new r
reads-still old new x r first h = record {
  bytes = first.bytes;
  counts = subst (λ (n : ℕ). CountsFor r n new.faults) first.counts ((reads-same new r h).counts);
  never_falls = first.never_falls;
}

-- an error is handed on
pub reads-err : {A B : Type 0} (old new : SourceSeen) (e : ReadErr) → Reads {A = A} old new (Err e) → Reads {A = B} old new (Err e)
reads-err old new (errors.Bad fault) h = record { bytes = h.bytes; counts = h.counts; never_falls = h.never_falls }
reads-err old new errors.Failed h = record { bytes = h.bytes; counts = h.counts; never_falls = h.never_falls }
reads-err old new errors.Memory h = record { bytes = h.bytes; counts = h.counts; never_falls = h.never_falls }

-- an error that is no fault of the bytes may come for any of them
pub gives-free : (A : Type 0) {B C : Type 0} (view : B → C) (e : ReadErr) (due : Result C ArcFault) → IsNotBad {A = A} (Err e) → Gives view (Err e) due
gives-free A view (errors.Bad fault) due h = absurd h
gives-free A view errors.Failed due h = tt
gives-free A view errors.Memory due h = tt

-- an error that is given is given for whatever has the same fault
pub gives-err : {A B C D : Type 0} (view : A → C) (see : B → D) (e : ReadErr) (found : Result C ArcFault) (due : Result D ArcFault) → ((fault : ArcFault) → found ≡ Err fault → due ≡ Err fault)
    → Gives view (Err e) found → Gives see (Err e) due
gives-err view see (errors.Bad fault) found due same h = same fault h
gives-err view see errors.Failed found due same h = tt
gives-err view see errors.Memory found due same h = tt

-- a result is a value or a fault, and only one
pub one-value : {A : Type 0} (r : Result A ArcFault) (x y : A) → r ≡ Ok x → r ≡ Ok y → x ≡ y
one-value r x y h k = cc

pub one-fault : {A : Type 0} (r : Result A ArcFault) (f g : ArcFault) → r ≡ Err f → r ≡ Err g → f ≡ g
one-fault r f g h k = cc

pub not-both : {A : Type 0} (r : Result A ArcFault) (x : A) (f : ArcFault) → r ≡ Ok x → r ≡ Err f → ⊥
not-both r x f h k = cc

-- what is so for the bytes that are told
pub if-told : (bytes : Option (List ℕ)) (P : List ℕ → Type 0) → ((archive : List ℕ) → bytes ≡ Some archive → P archive) → IfSome bytes P
if-told None P h = tt
if-told (Some archive) P h = h archive refl

pub told-is : (bytes : Option (List ℕ)) (P : List ℕ → Type 0) (archive : List ℕ) → IfSome bytes P → bytes ≡ Some archive → P archive
told-is bytes P archive told is = subst (λ (b : Option (List ℕ)). IfSome b P) is told
