-- Items that are added to a buffer, some behind others.
use Rattle.std.proofs.Common.{◌≡◌, Option, None, Some, Result, Ok, Err, OnOk, List, [], ◌++◌, length, map, refl, sym, ap, subst, ◌∙◌, arith, append_assoc}
use Rattle.std.specs.Prelude.{⊤}
use Rattle.std.proofs.lemmas.List.{append-nil, map-append}
use Rattle.std.proofs.lemmas.List.Elements.{All-append, All-nil}
use Rattle.std.proofs.lemmas.List.Sorted.{IsPermutation-append, IsPermutation-refl, IsPermutation-trans}
use Rattle.std.specs.List.Sorted.{IsPermutation}
use Rattle.tb_types.specs.Counts.{Rose}
use Rattle.tb_outside.specs.Spill.{Runs, SpillSeen}
use Rattle.tb_outside.specs.declared.spill.SpillErr.{SpillErr}
use Rattle.tb_outside.specs.declared.spill.SpillErr.TheVariants as spill_errors
use Rattle.profile_rules.specs.declared.parts.Parts.{Parts}
use Rattle.profile_rules.specs.Fields.{layers_of}
use Rattle.mvt_codec.specs.declared.item.RunItem.{RunItem}
use Rattle.mvt_codec.specs.Items.{IsItem}
use Rattle.feature_runs.specs.Entry.{Buffered, Entry, entry_of}
use Rattle.feature_runs.specs.Added.{WereAdded, AreThere, KeepsAdded}
use Rattle.feature_runs.specs.Since.{IsSince, KeepsSince}
use Rattle.feature_runs.specs.Writing.{KeepsEnded, Frames}
use Rattle.tile_model.specs.Items.{IsSoundItem}
use Rattle.pass_shapes.specs.Emitting.{Emitted, Emits}

-- ---- ended runs and counts

kept-refl : (r : Option Runs) → KeepsEnded r r
kept-refl None = refl
kept-refl (Some runs) = ([], sym (append-nil runs.ended))

kept-trans : (a b c : Option Runs) → KeepsEnded a b → KeepsEnded b c → KeepsEnded a c
kept-trans None b c h k = subst (λ (o : Option Runs). KeepsEnded o c) h k
kept-trans (Some a) None c h k = absurd h
kept-trans (Some a) (Some b) None h k = absurd k
kept-trans (Some a) (Some b) (Some c) h k = (h.0 ++ k.0, k.1 ∙ (ap (λ xs. xs ++ k.0) h.1 ∙ append_assoc a.ended h.0 k.0))

pub frames-none : (s : SpillSeen) → Frames {A = ⊤} s s (Ok tt)
frames-none s = record { kept = kept-refl s.runs; ok = refl; memory = λ is. refl; failed = λ is. absurd cc; never_falls = omega arith }

-- memory wants, and the spill isn't touched
pub frames-memory : {A : Type 0} (s : SpillSeen) → Frames {A = A} s s (Err spill_errors.Memory)
frames-memory s = record { kept = kept-refl s.runs; ok = tt; memory = λ is. refl; failed = λ is. absurd cc; never_falls = omega arith }

pub frames-on : {A B : Type 0} (a b c : SpillSeen) (x : A) (r : Result B SpillErr) → Frames a b (Ok x) → Frames b c r → Frames a c r
frames-on {A} {B} a b c x r h k = record {
  kept = kept-trans a.runs b.runs c.runs h.kept k.kept;
  ok = on r k.ok;
  memory = λ is. k.memory is ∙ h.ok;
  failed = λ is. subst (λ n. Rose n c.faults) h.ok (k.failed is);
  never_falls = let one = h.ok in let two = k.never_falls in omega (arith, one, two);
}
  where
    on : (r : Result B SpillErr) → OnOk r (c.faults ≡ b.faults) → OnOk r (c.faults ≡ a.faults)
    on (Ok y) e = e ∙ h.ok
    on (Err e) t = tt

-- ---- what was added

pub keeps-none : (s : SpillSeen) (b : Buffered) → KeepsAdded s s b b []
keeps-none s b = λ runs added told were. record { runs = runs; told = told; added_are = subst (WereAdded b runs.ended) (sym (append-nil added)) were }

pub keeps-on : (s t u : SpillSeen) (b c d : Buffered) (some more : List Entry) → KeepsAdded s t b c some → KeepsAdded t u c d more → KeepsAdded s u b d (some ++ more)
keeps-on s t u b c d some more h k = λ runs added told were.
    let one = h runs added told were in
    subst (AreThere d u) (append_assoc added some more) (k one.runs (added ++ some) one.told one.added_are)

pub since-none : (s : SpillSeen) (b : Buffered) → KeepsSince s s b b []
since-none s b = λ start added is. subst (IsSince start s b) (sym (append-nil added)) is

pub since-on : (s t u : SpillSeen) (b c d : Buffered) (some more : List Entry) → KeepsSince s t b c some → KeepsSince t u c d more → KeepsSince s u b d (some ++ more)
since-on s t u b c d some more h k = λ start added is. subst (IsSince start u d) (append_assoc added some more) (k start (added ++ some) (h start added is))

pub emits-none : (parts : Parts) (s : SpillSeen) (b : Buffered) → Emits {A = ⊤} parts [] s s b b (Ok tt)
emits-none parts s b = record {
  ok = record { items = []; same = IsPermutation-refl []; sound = All-nil (IsSoundItem (length (layers_of parts))); whole = All-nil IsItem; limit = refl; keeps = keeps-none s b; since = since-none s b };
  frames = frames-none s;
}

emitted-on : (parts : Parts) (one other : List RunItem) (s t u : SpillSeen) (b c d : Buffered) → Emitted parts one s t b c → Emitted parts other t u c d → Emitted parts (one ++ other) s u b d
emitted-on parts one other s t u b c d h k = record {
  items = h.items ++ k.items;
  same = IsPermutation-append one h.items other k.items h.same k.same;
  sound = All-append (IsSoundItem (length (layers_of parts))) h.items k.items h.sound k.sound;
  whole = All-append IsItem h.items k.items h.whole k.whole;
  limit = k.limit ∙ h.limit;
  keeps = subst (KeepsAdded s u b d) (sym (map-append entry_of h.items k.items)) (keeps-on s t u b c d (map entry_of h.items) (map entry_of k.items) h.keeps k.keeps);
  since = subst (KeepsSince s u b d) (sym (map-append entry_of h.items k.items)) (since-on s t u b c d (map entry_of h.items) (map entry_of k.items) h.since k.since);
}

-- some behind others, or a refusal behind some
pub emits-on : {A B : Type 0} (parts : Parts) (one other : List RunItem) (s t u : SpillSeen) (b c d : Buffered) (x : A) (r : Result B SpillErr) → Emits parts one s t b c (Ok x) → Emits parts other t u c d r → Emits parts (one ++ other) s u b d r
emits-on parts one other s t u b c d x (Ok y) h k = record { ok = emitted-on parts one other s t u b c d h.ok k.ok; frames = frames-on s t u x (Ok y) h.frames k.frames }
emits-on parts one other s t u b c d x (Err e) h k = record { ok = tt; frames = frames-on s t u x (Err e) h.frames k.frames }

-- a refusal, whatever was wanted
pub emits-refused : {A : Type 0} (parts : Parts) (wanted : List RunItem) (s t : SpillSeen) (b c : Buffered) (e : SpillErr) → Frames {A = A} s t (Err e) → Emits {A = A} parts wanted s t b c (Err e)
emits-refused parts wanted s t b c e h = record { ok = tt; frames = h }

pub emits-as : {A : Type 0} (parts : Parts) (one other : List RunItem) (s t : SpillSeen) (b c : Buffered) (r : Result A SpillErr) → one ≡ other → Emits parts one s t b c r → Emits parts other s t b c r
emits-as parts one other s t b c r same h = subst (λ xs. Emits parts xs s t b c r) same h

-- another list of the same items
pub emits-permuted : {A : Type 0} (parts : Parts) (one other : List RunItem) (s t : SpillSeen) (b c : Buffered) (r : Result A SpillErr) → IsPermutation other one → Emits parts one s t b c r → Emits parts other s t b c r
emits-permuted parts one other s t b c (Ok x) same h = record {
  ok = record { items = h.ok.items; same = IsPermutation-trans other one h.ok.items same h.ok.same; sound = h.ok.sound; whole = h.ok.whole; limit = h.ok.limit; keeps = h.ok.keeps; since = h.ok.since };
  frames = h.frames;
}
emits-permuted parts one other s t b c (Err e) same h = record { ok = tt; frames = h.frames }
