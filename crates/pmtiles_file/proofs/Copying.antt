-- Pieces and contents are appended to a sink, one behind another.
use Rattle.std.proofs.Common.{◌≡◌, ℕ, suc, ◌+◌, ◌-◌, ◌<◌, ◌≤◌, Option, None, Some, IfSome, Result, Ok, Err, List, [], ◌∷◌, ◌++◌, length, take, drop, map, get_or, slice_index_or, slice_range, refl, ap, sym, subst, ◌∙◌, arith, append_assoc}
use Rattle.std.specs.Prelude.{⊤}
use Rattle.std.specs.List.{concat}
use Rattle.std.proofs.lemmas.List.{take_all, take-append-drop, append-nil, take_more}
use Rattle.tb_types.specs.Counts.{Rose}
use Rattle.tb_outside.specs.Sink.{SinkSeen, with_more, GrowsByPrefix}
use Rattle.tb_outside.specs.Spill.{SpillSeen, Runs, ReadAnswers}
use borrow.Rule.Slice.PartMut.{put_mid}
use Rattle.std.proofs.lemmas.Slice.{take-put_mid}
use Rattle.pmtiles_file.specs.declared.stored.Stored.{Stored}
use Rattle.pmtiles_file.specs.declared.finish_err.FinishErr.{FinishErr}
use Rattle.pmtiles_file.specs.declared.finish_err.FinishErr.TheVariants as finish_errors
use Rattle.pmtiles_file.specs.Spool.{content_in, Stands, AllStand}
use Rattle.pmtiles_file.specs.Distinct.{StandIn}
use Rattle.pmtiles_file.specs.Finished.{FinishCounts, IsNotMemory, Passes, StepAnswers, PutAnswers, RoomAnswers, PartAnswers, all_contents}
use Rattle.pmtiles_file.proofs.Comparing.{take-part}

pub with_more-more : (old : Option (List ℕ)) (a b : List ℕ) → with_more (with_more old a) b ≡ with_more old (a ++ b)
with_more-more None a b = refl
with_more-more (Some bytes) a b = ap Some (append_assoc bytes a b)

pub with_more-nil : (old : Option (List ℕ)) → with_more old [] ≡ old
with_more-nil None = refl
with_more-nil (Some bytes) = ap Some (append-nil bytes)

-- a prefix of what comes behind what was written is a prefix of all
pub prefix-behind : (old mid new : Option (List ℕ)) (written rest whole : List ℕ) → mid ≡ with_more old written → written ++ rest ≡ whole → GrowsByPrefix mid new rest → GrowsByPrefix old new whole
prefix-behind old mid new written rest whole is all grows =
    (written ++ grows.0, grows.1, sym all ∙ (ap (λ xs. written ++ xs) grows.2 ∙ sym (append_assoc written grows.0 grows.1)), grows.3 ∙ (ap (λ o. with_more o grows.0) is ∙ with_more-more old written grows.0))

-- a prefix of a part is one of the part with more behind it
pub prefix-of-more : (old new : Option (List ℕ)) (part more : List ℕ) → GrowsByPrefix old new part → GrowsByPrefix old new (part ++ more)
prefix-of-more old new part more grows = (grows.0, grows.1 ++ more, ap (λ xs. xs ++ more) grows.2 ∙ append_assoc grows.0 grows.1 more, grows.3)

-- a piece, and then another
pub put-then : {A B : Type 0} (old mid new : SinkSeen) (piece rest : List ℕ) (u : A) (r : Result B FinishErr) → PutAnswers old mid piece (Ok u) → PutAnswers mid new rest r → PutAnswers old new (piece ++ rest) r
put-then old mid new piece rest u (Ok v) one other = record {
  put = other.put ∙ (ap (λ o. with_more o rest) one.put ∙ with_more-more old.bytes piece rest);
  counts = other.counts ∙ one.counts;
  never_falls = omega (arith, one.never_falls, other.never_falls);
}
put-then old mid new piece rest u (Err e) one other = record {
  put = prefix-behind old.bytes mid.bytes new.bytes piece rest (piece ++ rest) one.put refl other.put;
  counts = (other.counts.0, subst (λ n. Rose n new.faults) one.counts other.counts.1);
  never_falls = omega (arith, one.never_falls, other.never_falls);
}

pub put-refused : {A : Type 0} (old new : SinkSeen) (piece rest : List ℕ) (e : FinishErr) → PutAnswers {A = A} old new piece (Err e) → PutAnswers {A = A} old new (piece ++ rest) (Err e)
put-refused old new piece rest e p = record { put = prefix-of-more old.bytes new.bytes piece rest p.put; counts = p.counts; never_falls = p.never_falls }

-- so much was written of what is due, and the rest of it is pending
pub record Written (spool spool_now : SpillSeen) (sink sink_now : SinkSeen) (pending : List ℕ) (due : Runs → List ℕ) : Type 0 where
  pub runs : spool_now.runs ≡ spool.runs
  pub spool_faults : spool_now.faults ≡ spool.faults
  pub sink_faults : sink_now.faults ≡ sink.faults
  pub told : (r : Runs) → spool.runs ≡ Some r → (written : List ℕ) × (sink_now.bytes ≡ with_more sink.bytes written) × (written ++ pending ≡ due r)

pub written-none : (spool : SpillSeen) (sink : SinkSeen) (pending : List ℕ) (due : Runs → List ℕ) → ((r : Runs) → pending ≡ due r) → Written spool spool sink sink pending due
written-none spool sink pending due same = record { runs = refl; spool_faults = refl; sink_faults = refl; told = λ r is. ([], sym (with_more-nil sink.bytes), same r) }

-- what is pending was appended, or some of it
pub written-room : {A : Type 0} (spool spool_now : SpillSeen) (sink mid new : SinkSeen) (due : Runs → List ℕ) (pending : A → List ℕ) (before : List ℕ) (x : A) → Written spool spool_now sink mid before due → RoomAnswers pending before mid new (Ok x)
    → Written spool spool_now sink new (pending x) due
written-room spool spool_now sink mid new due pending before x w r = record {
  runs = w.runs;
  spool_faults = w.spool_faults;
  sink_faults = r.counts ∙ w.sink_faults;
  told = λ runs is.
      let one = w.told runs is in
      let other = r.told in (
        one.0 ++ other.0,
        other.1 ∙ (ap (λ o. with_more o other.0) one.1 ∙ with_more-more sink.bytes one.0 other.0),
        append_assoc one.0 other.0 (pending x) ∙ (ap (λ xs. one.0 ++ xs) other.2 ∙ one.2),
      );
}

-- the sink failed
pub room-refused : {A B : Type 0} (spool spool_now : SpillSeen) (sink mid new : SinkSeen) (due whole : Runs → List ℕ) (behind : Runs → List ℕ) (after : B → List ℕ) (pending : A → List ℕ) (before : List ℕ) (e : FinishErr)
    → ((r : Runs) → due r ++ behind r ≡ whole r) → spool.faults ≤ spool_now.faults → sink.faults ≤ mid.faults → Written spool spool_now sink mid before due → RoomAnswers {A = A} pending before mid new (Err e)
    → StepAnswers {A = B} after whole spool spool_now sink new (Err e)
room-refused spool spool_now sink mid new due whole behind after pending before e all f g w r = subst (λ (x : FinishErr). StepAnswers after whole spool spool_now sink new (Err x)) (sym r.counts.0) (record {
  told = λ runs is.
      let one = w.told runs is in
      subst (GrowsByPrefix sink.bytes new.bytes) (all runs) (prefix-of-more sink.bytes new.bytes (due runs) (behind runs) (prefix-behind sink.bytes mid.bytes new.bytes one.0 before (due runs) one.1 one.2 r.told));
  runs = w.runs;
  counts = (w.spool_faults, subst (λ n. Rose n new.faults) w.sink_faults r.counts.1);
  never_memory = tt;
  spool_never_falls = f;
  sink_never_falls = omega (arith, g, r.never_falls);
})

-- a part of a content as it is read into a buffer
pub part-read : (content : Stored) (at n filled k : ℕ) (old new : SpillSeen) (buffer out : List ℕ) (u : ⊤) → length out ≡ n → filled ≤ length buffer → ReadAnswers old new content.run at out (Ok u)
    → PartAnswers {A = ⊤} content at n old new (take filled buffer) (take (filled + n) (put_mid filled k buffer out)) (Ok u)
part-read content at n filled k old new buffer out u len within r = record {
  told = λ runs is.
      let count : at + n - at ≡ n = omega arith in
      let read : out ≡ slice_range (content_in runs.ended content) at (at + length out) = subst (λ (o : Option Runs). IfSome o (λ x. out ≡ slice_range (slice_index_or x.ended content.run []) at (at + length out))) is r.value in
      let part : out ≡ take n (drop at (content_in runs.ended content)) = rw (len, count) at read in
      take-put_mid filled k buffer out (filled + n) (omega (arith, len)) within ∙ ap (λ xs. take filled buffer ++ xs) part;
  runs = r.runs;
  counts = r.ok;
  never_falls = r.never_falls;
}

-- a part of a content was read behind what is pending
pub written-part : (spool mid new : SpillSeen) (sink sink_now : SinkSeen) (content : Stored) (start before after : List ℕ) (at n : ℕ) (u : ⊤)
    → Written spool mid sink sink_now before (λ r. start ++ take at (content_in r.ended content)) → PartAnswers content at n mid new before after (Ok u)
    → Written spool new sink sink_now after (λ r. start ++ take (at + n) (content_in r.ended content))
written-part spool mid new sink sink_now content start before after at n u w p = record {
  runs = p.runs ∙ w.runs;
  spool_faults = p.counts ∙ w.spool_faults;
  sink_faults = w.sink_faults;
  told = λ runs is.
      let one = w.told runs is in
      let bytes : List ℕ = content_in runs.ended content in
      let part : after ≡ before ++ take n (drop at bytes) = p.told runs (w.runs ∙ is) in (
        one.0,
        one.1,
        ap (λ xs. one.0 ++ xs) part ∙ (sym (append_assoc one.0 before (take n (drop at bytes))) ∙ (ap (λ xs. xs ++ take n (drop at bytes)) one.2 ∙ (append_assoc start (take at bytes) (take n (drop at bytes)) ∙ ap (λ xs. start ++ xs) (sym (take-part bytes at n))))),
      );
}

-- the spool failed
pub part-refused : {B : Type 0} (spool mid new : SpillSeen) (sink sink_now : SinkSeen) (content : Stored) (start before after : List ℕ) (at n : ℕ) (pending : B → List ℕ) (e : FinishErr) → spool.faults ≤ mid.faults → sink.faults ≤ sink_now.faults
    → Written spool mid sink sink_now before (λ r. start ++ take at (content_in r.ended content)) → PartAnswers {A = ⊤} content at n mid new before after (Err e)
    → StepAnswers {A = B} pending (λ r. start ++ content_in r.ended content) spool new sink sink_now (Err e)
part-refused spool mid new sink sink_now content start before after at n pending e f g w p =
    subst (λ (x : FinishErr). StepAnswers pending (λ r. start ++ content_in r.ended content) spool new sink sink_now (Err x)) (sym p.counts.0) (record {
      told = λ runs is.
          let one = w.told runs is in
          let bytes : List ℕ = content_in runs.ended content in
          let whole : one.0 ++ (before ++ drop at bytes) ≡ start ++ bytes =
          sym (append_assoc one.0 before (drop at bytes)) ∙ (ap (λ xs. xs ++ drop at bytes) one.2 ∙ (append_assoc start (take at bytes) (drop at bytes) ∙ ap (λ xs. start ++ xs) (take-append-drop at bytes))) in
          (one.0, before ++ drop at bytes, sym whole, one.1);
      runs = p.runs ∙ w.runs;
      counts = (subst (λ n. Rose n new.faults) w.spool_faults p.counts.1, w.sink_faults);
      never_memory = tt;
      spool_never_falls = omega (arith, f, p.never_falls);
      sink_never_falls = g;
    })

-- all of a content was read
pub written-all : {B : Type 0} (spool now : SpillSeen) (sink sink_now : SinkSeen) (content : Stored) (start : List ℕ) (at : ℕ) (pending : B → List ℕ) (x : B) → content.len ≤ at → IfSome spool.runs (λ r. Stands r.ended content)
    → Written spool now sink sink_now (pending x) (λ r. start ++ take at (content_in r.ended content)) → StepAnswers pending (λ r. start ++ content_in r.ended content) spool now sink sink_now (Ok x)
written-all spool now sink sink_now content start at pending x done stands w = record {
  told = λ runs is.
      let one = w.told runs is in
      let stand : Stands runs.ended content = subst (λ (o : Option Runs). IfSome o (λ r. Stands r.ended content)) is stands in
      (one.0, one.1, one.2 ∙ ap (λ xs. start ++ xs) (take_all at (content_in runs.ended content) (omega (arith, done, stand.1))));
  runs = w.runs;
  counts = (w.spool_faults, w.sink_faults);
  never_memory = tt;
  spool_never_falls = omega (arith, w.spool_faults);
  sink_never_falls = omega (arith, w.sink_faults);
}

-- contents, one more of them
contents-more : (stored : List Stored) (s : Stored) (r : Runs) → all_contents (stored ++ s ∷ []) r ≡ all_contents stored r ++ content_in r.ended s
contents-more [] s r = append-nil (content_in r.ended s)
contents-more (one ∷ stored) s r = ap (λ xs. content_in r.ended one ++ xs) (contents-more stored s r) ∙ sym (append_assoc (content_in r.ended one) (all_contents stored r) (content_in r.ended s))

contents-split : (stored : List Stored) (i : ℕ) (r : Runs) → all_contents (take i stored) r ++ all_contents (drop i stored) r ≡ all_contents stored r
contents-split stored i r = joined (take i stored) (drop i stored) ∙ ap (λ xs. all_contents xs r) (take-append-drop i stored)
  where
    joined : (xs ys : List Stored) → all_contents xs r ++ all_contents ys r ≡ all_contents (xs ++ ys) r
    joined [] ys = refl
    joined (x ∷ xs) ys = append_assoc (content_in r.ended x) (all_contents xs r) (all_contents ys r) ∙ ap (λ zs. content_in r.ended x ++ zs) (joined xs ys)

pub next-contents : (stored : List Stored) (i : ℕ) (d : Stored) (r : Runs) → i < length stored → all_contents (take i stored) r ++ content_in r.ended (get_or stored i d) ≡ all_contents (take (i + 1) stored) r
next-contents stored i d r h = sym (ap (λ xs. all_contents xs r) (take_more stored i d h) ∙ contents-more (take i stored) (get_or stored i d) r)

-- a content more
pub written-next : {B : Type 0} (spool mid new : SpillSeen) (sink sink_mid sink_new : SinkSeen) (stored : List Stored) (i : ℕ) (d : Stored) (before : List ℕ) (pending : B → List ℕ) (x : B) → i < length stored
    → Written spool mid sink sink_mid before (all_contents (take i stored)) → StepAnswers pending (λ r. before ++ content_in r.ended (get_or stored i d)) mid new sink_mid sink_new (Ok x)
    → Written spool new sink sink_new (pending x) (all_contents (take (i + 1) stored))
written-next spool mid new sink sink_mid sink_new stored i d before pending x h w s = record {
  runs = s.runs ∙ w.runs;
  spool_faults = s.counts.0 ∙ w.spool_faults;
  sink_faults = s.counts.1 ∙ w.sink_faults;
  told = λ runs is.
      let one = w.told runs is in
      let other = s.told runs (w.runs ∙ is) in
      let bytes : List ℕ = content_in runs.ended (get_or stored i d) in (
        one.0 ++ other.0,
        other.1 ∙ (ap (λ o. with_more o other.0) one.1 ∙ with_more-more sink.bytes one.0 other.0),
        append_assoc one.0 other.0 (pending x) ∙ (ap (λ xs. one.0 ++ xs) other.2 ∙ (sym (append_assoc one.0 before bytes) ∙ (ap (λ xs. xs ++ bytes) one.2 ∙ next-contents stored i d runs h))),
      );
}

step-counts : (A B : Type 0) (e : FinishErr) (spool mid new : SpillSeen) (sink sink_mid sink_new : SinkSeen) → mid.runs ≡ spool.runs → mid.faults ≡ spool.faults → sink_mid.faults ≡ sink.faults → IsNotMemory {A = A} (Err e)
    → FinishCounts {A = A} (Err e) mid new sink_mid sink_new → FinishCounts {A = B} (Err e) spool new sink sink_new
step-counts A B finish_errors.Memory spool mid new sink sink_mid sink_new r f g no_memory c = absurd no_memory
step-counts A B finish_errors.Spill spool mid new sink sink_mid sink_new r f g no_memory c = (subst (λ n. Rose n new.faults) f c.0, c.1 ∙ g)
step-counts A B finish_errors.Sink spool mid new sink sink_mid sink_new r f g no_memory c = (c.0 ∙ f, subst (λ n. Rose n sink_new.faults) g c.1)

not-memory : (A B : Type 0) (e : FinishErr) → IsNotMemory {A = A} (Err e) → IsNotMemory {A = B} (Err e)
not-memory A B finish_errors.Memory h = h
not-memory A B finish_errors.Spill h = tt
not-memory A B finish_errors.Sink h = tt

-- a content wasn't copied
pub next-refused : {A B : Type 0} (spool mid new : SpillSeen) (sink sink_mid sink_new : SinkSeen) (stored : List Stored) (i : ℕ) (d : Stored) (before : List ℕ) (pending : B → List ℕ) (after : A → List ℕ) (e : FinishErr) → i < length stored
    → Written spool mid sink sink_mid before (all_contents (take i stored)) → StepAnswers {A = B} pending (λ r. before ++ content_in r.ended (get_or stored i d)) mid new sink_mid sink_new (Err e)
    → StepAnswers {A = A} after (all_contents stored) spool new sink sink_new (Err e)
next-refused {A = A} {B = B} spool mid new sink sink_mid sink_new stored i d before pending after e h w s = record {
  told = λ runs is.
      let one = w.told runs is in
      let bytes : List ℕ = content_in runs.ended (get_or stored i d) in
      let so_far : one.0 ++ (before ++ bytes) ≡ all_contents (take (i + 1) stored) runs = sym (append_assoc one.0 before bytes) ∙ (ap (λ xs. xs ++ bytes) one.2 ∙ next-contents stored i d runs h) in
      subst (GrowsByPrefix sink.bytes sink_new.bytes) (contents-split stored (i + 1) runs)
      (prefix-of-more sink.bytes sink_new.bytes (all_contents (take (i + 1) stored) runs) (all_contents (drop (i + 1) stored) runs)
      (prefix-behind sink.bytes sink_mid.bytes sink_new.bytes one.0 (before ++ bytes) (all_contents (take (i + 1) stored) runs) one.1 so_far (s.told runs (w.runs ∙ is))));
  runs = s.runs ∙ w.runs;
  counts = step-counts B A e spool mid new sink sink_mid sink_new w.runs w.spool_faults w.sink_faults s.never_memory s.counts;
  never_memory = not-memory B A e s.never_memory;
  spool_never_falls = omega (arith, w.spool_faults, s.spool_never_falls);
  sink_never_falls = omega (arith, w.sink_faults, s.sink_never_falls);
}

-- all contents were copied, and what is pending was appended
pub copied-all : (spool now : SpillSeen) (sink sink_mid sink_new : SinkSeen) (stored : List Stored) (i : ℕ) (before : List ℕ) (u v : ⊤) → length stored ≤ i → Written spool now sink sink_mid before (all_contents (take i stored)) → PutAnswers sink_mid sink_new before (Ok u)
    → StepAnswers (λ _. []) (all_contents stored) spool now sink sink_new (Ok v)
copied-all spool now sink sink_mid sink_new stored i before u v done w p = record {
  told = λ runs is.
      let one = w.told runs is in (
        one.0 ++ before,
        p.put ∙ (ap (λ o. with_more o before) one.1 ∙ with_more-more sink.bytes one.0 before),
        append-nil (one.0 ++ before) ∙ (one.2 ∙ ap (λ xs. all_contents xs runs) (take_all i stored done)),
      );
  runs = w.runs;
  counts = (w.spool_faults, p.counts ∙ w.sink_faults);
  never_memory = tt;
  spool_never_falls = omega (arith, w.spool_faults);
  sink_never_falls = omega (arith, w.sink_faults, p.never_falls);
}

pub last-refused : (spool now : SpillSeen) (sink sink_mid sink_new : SinkSeen) (stored : List Stored) (i : ℕ) (before : List ℕ) (e : FinishErr) → length stored ≤ i → Written spool now sink sink_mid before (all_contents (take i stored)) → PutAnswers {A = ⊤} sink_mid sink_new before (Err e)
    → StepAnswers {A = ⊤} (λ _. []) (all_contents stored) spool now sink sink_new (Err e)
last-refused spool now sink sink_mid sink_new stored i before e done w p = subst (λ (x : FinishErr). StepAnswers {A = ⊤} (λ _. []) (all_contents stored) spool now sink sink_new (Err x)) (sym p.counts.0) (record {
  told = λ runs is.
      let one = w.told runs is in
      prefix-behind sink.bytes sink_mid.bytes sink_new.bytes one.0 before (all_contents stored runs) one.1 (one.2 ∙ ap (λ xs. all_contents xs runs) (take_all i stored done)) p.put;
  runs = w.runs;
  counts = (w.spool_faults, subst (λ n. Rose n sink_new.faults) w.sink_faults p.counts.1);
  never_memory = tt;
  spool_never_falls = omega (arith, w.spool_faults);
  sink_never_falls = omega (arith, w.sink_faults, p.never_falls);
})
