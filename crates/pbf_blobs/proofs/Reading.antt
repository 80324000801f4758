-- What is read of a source part by part: what the parts answer makes what the whole answers.
use Rattle.std.proofs.Common.{◌≡◌, ℕ, ◌+◌, Option, None, Some, IfSome, Result, Ok, Err, List, [], ◌∷◌, ◌++◌, length, slice_range, refl, sym, ap, subst, ◌∙◌, arith, append_assoc}
use Rattle.std.specs.Prelude.{⊤}
use Rattle.std.specs.Option.{option_map, ForSome}
use Rattle.std.proofs.lemmas.List.{append-nil}
use Rattle.std.proofs.lemmas.List.Elements.{All-nil, All-cons, All-append, All-weaker}
use Rattle.tb_types.specs.declared.damage.Why.{Why}
use Rattle.tb_outside.specs.declared.failed.Failed.{Failed as SourceFailed}
use Rattle.tb_outside.specs.Source.{SourceSeen, LoadAnswers}
use Rattle.pbf_blobs.specs.declared.stop.FrameStop.{FrameStop}
use Rattle.pbf_blobs.specs.declared.stop.FrameStop.TheVariants.{Failed, Bad}
use Rattle.pbf_blobs.specs.Answers.{Grows, Reads, Counts, ReadAnswers}

abbrev pub Log : Type 0
Log = Option (List (ℕ × ℕ))

pub grows-same : (old new : Log) (P : ℕ × ℕ → Type 0) → new ≡ old → Grows old new P
grows-same None new P e = e
grows-same (Some loads) new P e = ([], e ∙ ap Some (sym (append-nil loads)), All-nil P)

pub grows-one : (old new : Log) (load : ℕ × ℕ) (P : ℕ × ℕ → Type 0) → new ≡ option_map (λ loads. loads ++ load ∷ []) old → P load → Grows old new P
grows-one None new load P e h = e
grows-one (Some loads) new load P e h = (load ∷ [], e, All-cons P load [] h (All-nil P))

pub grows-more : (a b c : Log) (P : ℕ × ℕ → Type 0) → Grows a b P → Grows b c P → Grows a c P
grows-more None b c P h k = subst (λ (x : Log). Grows x c P) h k
grows-more (Some loads) b c P h k =
    let l : Grows (Some (loads ++ h.0)) c P = subst (λ (x : Log). Grows x c P) h.1 k in
    (h.0 ++ l.0, l.1 ∙ ap Some (append_assoc loads h.0 l.0), All-append P h.0 l.0 h.2 l.2)

pub grows-weaker : (a b : Log) (P Q : ℕ × ℕ → Type 0) → ((l : ℕ × ℕ) → P l → Q l) → Grows a b P → Grows a b Q
grows-weaker None b P Q f h = h
grows-weaker (Some loads) b P Q f h = (h.0, h.1, All-weaker P Q f h.0 h.2)

-- nothing is read
pub reads_nothing : {A : Type 0} (s : SourceSeen) (reason : Why) (found : List ℕ → Result A Why) (P : List ℕ → ℕ × ℕ → Type 0) → ForSome s.bytes (λ bytes. found bytes ≡ Err reason) → ReadAnswers s s (Err (Bad reason)) found P
reads_nothing s reason found P h = record {
  told = h;
  bytes = refl;
  counts = refl;
  never_falls = omega arith;
  loads = λ bytes is. grows-same s.log s.log (P bytes) refl;
}

-- a load that failed
pub reads_failed : {A : Type 0} (old new : SourceSeen) (at : ℕ) (out : List ℕ) (e : SourceFailed) (found : List ℕ → Result A Why) (P : List ℕ → ℕ × ℕ → Type 0) → LoadAnswers old new at out (Err e) → ReadAnswers old new (Err Failed) found P
reads_failed old new at out e found P h = record {
  told = λ bytes is. tt;
  bytes = h.bytes;
  counts = h.err;
  never_falls = h.never_falls;
  loads = λ bytes is. grows-same old.log new.log (P bytes) h.log_err;
}

-- a load, and what is made of its bytes
pub reads_load : {A : Type 0} (old new : SourceSeen) (at : ℕ) (out : List ℕ) (u : ⊤) (result : Result A FrameStop) (found : List ℕ → Result A Why) (P : List ℕ → ℕ × ℕ → Type 0) → LoadAnswers old new at out (Ok u)
    → ((f : ℕ) → Counts result f f) → ((bytes : List ℕ) → old.bytes ≡ Some bytes → out ≡ slice_range bytes at (at + length out) → Reads result (found bytes)) → ((bytes : List ℕ) → P bytes (at, length out)) → ReadAnswers old new result found P
reads_load old new at out u result found P h quiet makes here = record {
  told = λ bytes is. makes bytes is (subst (λ (o : Option (List ℕ)). IfSome o (λ bs. out ≡ slice_range bs at (at + length out))) is h.value);
  bytes = h.bytes;
  counts = subst (λ (f : ℕ). Counts result old.faults f) (sym h.ok) (quiet old.faults);
  never_falls = h.never_falls;
  loads = λ bytes is. grows-one old.log new.log (at, length out) (P bytes) h.log_ok (here bytes);
}

-- a part that was read, and what is made of it
pub reads_after : {A B : Type 0} (old new : SourceSeen) (x : A) (part : List ℕ → Result A Why) (Q : List ℕ → ℕ × ℕ → Type 0) (result : Result B FrameStop) (found : List ℕ → Result B Why) (P : List ℕ → ℕ × ℕ → Type 0)
    → ReadAnswers old new (Ok x) part Q → ((f : ℕ) → Counts result f f) → ((bytes : List ℕ) → old.bytes ≡ Some bytes → part bytes ≡ Ok x → Reads result (found bytes))
    → ((bytes : List ℕ) (l : ℕ × ℕ) → part bytes ≡ Ok x → Q bytes l → P bytes l) → ReadAnswers old new result found P
reads_after old new x part Q result found P h quiet makes loads = record {
  told = λ bytes is. makes bytes is (h.told bytes is);
  bytes = h.bytes;
  counts = subst (λ (f : ℕ). Counts result old.faults f) (sym h.counts) (quiet old.faults);
  never_falls = h.never_falls;
  loads = λ bytes is. grows-weaker old.log new.log (Q bytes) (P bytes) (λ l q. loads bytes l (h.told bytes is) q) (h.loads bytes is);
}

-- a part that could not be read
pub reads_stop : {A B : Type 0} (old new : SourceSeen) (e : FrameStop) (part : List ℕ → Result A Why) (Q : List ℕ → ℕ × ℕ → Type 0) (found : List ℕ → Result B Why) (P : List ℕ → ℕ × ℕ → Type 0)
    → ReadAnswers old new (Err e) part Q → ((bytes : List ℕ) (reason : Why) → old.bytes ≡ Some bytes → part bytes ≡ Err reason → found bytes ≡ Err reason) → ((bytes : List ℕ) (l : ℕ × ℕ) → Q bytes l → P bytes l) → ReadAnswers old new (Err e) found P
reads_stop old new Failed part Q found P h makes loads = record {
  told = λ bytes is. tt;
  bytes = h.bytes;
  counts = h.counts;
  never_falls = h.never_falls;
  loads = λ bytes is. grows-weaker old.log new.log (Q bytes) (P bytes) (loads bytes) (h.loads bytes is);
}
reads_stop old new (Bad reason) part Q found P h makes loads = record {
  told = λ bytes is. makes bytes reason is (h.told bytes is);
  bytes = h.bytes;
  counts = h.counts;
  never_falls = h.never_falls;
  loads = λ bytes is. grows-weaker old.log new.log (Q bytes) (P bytes) (loads bytes) (h.loads bytes is);
}

-- a part that was read, and then what was read behind it
pub reads_both : {A B : Type 0} (a b c : SourceSeen) (x : A) (part : List ℕ → Result A Why) (Q : List ℕ → ℕ × ℕ → Type 0) (result : Result B FrameStop) (rest : List ℕ → Result B Why) (R : List ℕ → ℕ × ℕ → Type 0) (found : List ℕ → Result B Why) (P : List ℕ → ℕ × ℕ → Type 0)
    → ReadAnswers a b (Ok x) part Q → ReadAnswers b c result rest R → ((bytes : List ℕ) → a.bytes ≡ Some bytes → part bytes ≡ Ok x → rest bytes ≡ found bytes)
    → ((bytes : List ℕ) (l : ℕ × ℕ) → part bytes ≡ Ok x → Q bytes l → P bytes l) → ((bytes : List ℕ) (l : ℕ × ℕ) → a.bytes ≡ Some bytes → part bytes ≡ Ok x → R bytes l → P bytes l) → ReadAnswers a c result found P
reads_both a b c x part Q result rest R found P h k same first then' = record {
  told = λ bytes is. subst (λ (r : Result _ Why). Reads result r) (same bytes is (h.told bytes is)) (k.told bytes (h.bytes ∙ is));
  bytes = k.bytes ∙ h.bytes;
  counts = subst (λ (f : ℕ). Counts result f c.faults) h.counts k.counts;
  never_falls = omega (arith, h.never_falls, k.never_falls);
  loads = λ bytes is.
      grows-more a.log b.log c.log (P bytes) (grows-weaker a.log b.log (Q bytes) (P bytes) (λ l q. first bytes l (h.told bytes is) q) (h.loads bytes is))
      (grows-weaker b.log c.log (R bytes) (P bytes) (λ l r. then' bytes l is (h.told bytes is) r) (k.loads bytes (h.bytes ∙ is)));
}

-- what holds of told bytes
pub at_told : (o : Option (List ℕ)) (bytes : List ℕ) (P : List ℕ → Type 0) → o ≡ Some bytes → IfSome o P → P bytes
at_told o bytes P is h = subst (λ (x : Option (List ℕ)). IfSome x P) is h
