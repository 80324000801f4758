-- Pieces that are appended one behind another.
use Rattle.std.proofs.Common.{◌≡◌, ℕ, ◌+◌, ◌<◌, ◌≤◌, Option, None, Some, Result, Ok, Err, List, [], ◌∷◌, ◌++◌, length, take, drop, get_or, map, refl, sym, ap, subst, ◌∙◌, arith, append_assoc}
use Rattle.std.specs.Prelude.{⊤}
use Rattle.std.specs.List.{concat}
use Rattle.std.specs.Borrow.{Bor}
use Rattle.std.proofs.lemmas.List.{append-nil, take_more, drop_more, take_all, map-append, take-append-drop}
use Rattle.std.proofs.lemmas.List.Folds.{concat-append}
use Rattle.tb_types.specs.Counts.{Rose}
use Rattle.tb_outside.specs.declared.failed.Failed.{Failed}
use Rattle.tb_outside.specs.Sink.{SinkSeen, SinkAnswers, with_more, GrowsByPrefix}

-- the bytes of all pieces
abbrev text_of : List (Bor (List ℕ)) → List ℕ
text_of pieces = concat (map (λ p. p.now) pieces)

text-append : (xs ys : List (Bor (List ℕ))) → text_of (xs ++ ys) ≡ text_of xs ++ text_of ys
text-append xs ys = ap concat (map-append (λ p. p.now) xs ys) ∙ concat-append (map (λ p. p.now) xs) (map (λ p. p.now) ys)

text-next : (pieces : List (Bor (List ℕ))) (i : ℕ) (d : Bor (List ℕ)) → i < length pieces → text_of (take (i + 1) pieces) ≡ text_of (take i pieces) ++ (get_or pieces i d).now
text-next pieces i d h = ap text_of (take_more pieces i d h) ∙ (text-append (take i pieces) (get_or pieces i d ∷ []) ∙ ap (λ last. text_of (take i pieces) ++ last) (append-nil (get_or pieces i d).now))

pub more-twice : (o : Option (List ℕ)) (a b : List ℕ) → with_more (with_more o a) b ≡ with_more o (a ++ b)
more-twice None a b = refl
more-twice (Some bytes) a b = ap Some (append_assoc bytes a b)

pub more-nothing : (o : Option (List ℕ)) → o ≡ with_more o []
more-nothing None = refl
more-nothing (Some bytes) = ap Some (sym (append-nil bytes))

-- what a sink holds after the first pieces
pub record Appended (pieces : List (Bor (List ℕ))) (old now : SinkSeen) (i : ℕ) : Type 0 where
  pub bytes : now.bytes ≡ with_more old.bytes (text_of (take i pieces))
  pub faults : now.faults ≡ old.faults

pub appended-start : (pieces : List (Bor (List ℕ))) (s : SinkSeen) → Appended pieces s s 0
appended-start pieces s = record { bytes = more-nothing s.bytes; faults = refl }

pub appended-next : (pieces : List (Bor (List ℕ))) (old mid new : SinkSeen) (i : ℕ) (d : Bor (List ℕ)) → i < length pieces → Appended pieces old mid i
    → new.bytes ≡ with_more mid.bytes (get_or pieces i d).now → new.faults ≡ mid.faults → Appended pieces old new (i + 1)
appended-next pieces old mid new i d h s more same = record {
  bytes = more ∙ (ap (λ o. with_more o (get_or pieces i d).now) s.bytes ∙ (more-twice old.bytes (text_of (take i pieces)) (get_or pieces i d).now ∙ ap (with_more old.bytes) (sym (text-next pieces i d h))));
  faults = same ∙ s.faults;
}

pub appended-end : (pieces : List (Bor (List ℕ))) (old now : SinkSeen) (i : ℕ) → length pieces ≤ i → Appended pieces old now i → SinkAnswers old now (text_of pieces) (Ok tt)
appended-end pieces old now i h s = record {
  appended = s.bytes ∙ ap (λ ps. with_more old.bytes (text_of ps)) (take_all i pieces h);
  prefix = tt;
  ok = s.faults;
  err = tt;
  never_falls = omega (arith, s.faults);
}

-- all pieces: those before one, that one, and those behind it
text-parts : (pieces : List (Bor (List ℕ))) (i : ℕ) (d : Bor (List ℕ)) → i < length pieces
    → text_of pieces ≡ text_of (take i pieces) ++ ((get_or pieces i d).now ++ text_of (drop (i + 1) pieces))
text-parts pieces i d h =
    ap text_of (sym (take-append-drop i pieces)) ∙ (text-append (take i pieces) (drop i pieces) ∙ ap (λ later. text_of (take i pieces) ++ text_of later) (drop_more pieces i d h))

pub prefix-of : (o mid new : Option (List ℕ)) (a piece later whole : List ℕ) → mid ≡ with_more o a → whole ≡ a ++ (piece ++ later) → GrowsByPrefix mid new piece → GrowsByPrefix o new whole
prefix-of o mid new a piece later whole is parts g = (
  a ++ g.0,
  g.1 ++ later,
  parts ∙ (ap (λ p. a ++ (p ++ later)) g.2 ∙ (ap (λ xs. a ++ xs) (append_assoc g.0 g.1 later) ∙ sym (append_assoc a g.0 (g.1 ++ later)))),
  g.3 ∙ (ap (λ m. with_more m g.0) is ∙ more-twice o a g.0),
)

pub appended-fails : (pieces : List (Bor (List ℕ))) (old mid new : SinkSeen) (i : ℕ) (d : Bor (List ℕ)) (e : Failed) → i < length pieces → Appended pieces old mid i
    → GrowsByPrefix mid.bytes new.bytes (get_or pieces i d).now → Rose mid.faults new.faults → mid.faults ≤ new.faults → SinkAnswers old new (text_of pieces) (Err e)
appended-fails pieces old mid new i d e h s prefix rose rising = record {
  appended = tt;
  prefix = prefix-of old.bytes mid.bytes new.bytes (text_of (take i pieces)) (get_or pieces i d).now (text_of (drop (i + 1) pieces)) (text_of pieces) s.bytes (text-parts pieces i d h) prefix;
  ok = tt;
  err = subst (λ n. Rose n new.faults) s.faults rose;
  never_falls = omega (arith, s.faults, rising);
}

-- two pieces are as they should be
pub also : (a b x y : List ℕ) → a ≡ b → x ≡ y → a ++ x ≡ b ++ y
also a b x y h k = ap (λ prefix. prefix ++ x) h ∙ ap (λ later. b ++ later) k

-- a text behind another one: both are appended, or a prefix of both
pub both-appended : (old mid new : SinkSeen) (a b : List ℕ) (r : Result ⊤ Failed) → SinkAnswers old mid a (Ok tt) → SinkAnswers mid new b r → SinkAnswers old new (a ++ b) r
both-appended old mid new a b (Ok x) h k = record {
  appended = k.appended ∙ (ap (λ o. with_more o b) h.appended ∙ more-twice old.bytes a b);
  prefix = tt;
  ok = k.ok ∙ h.ok;
  err = tt;
  never_falls = let one = h.never_falls in let two = k.never_falls in omega (arith, one, two);
}
both-appended old mid new a b (Err e) h k = record {
  appended = tt;
  prefix = prefix-of old.bytes mid.bytes new.bytes a b [] (a ++ b) h.appended (ap (λ xs. a ++ xs) (sym (append-nil b))) k.prefix;
  ok = tt;
  err = subst (λ n. Rose n new.faults) h.ok k.err;
  never_falls = let one = h.never_falls in let two = k.never_falls in omega (arith, one, two);
}

-- the first of two failed
pub first-fails : (old new : SinkSeen) (a b : List ℕ) (e : Failed) → SinkAnswers old new a (Err e) → SinkAnswers old new (a ++ b) (Err e)
first-fails old new a b e h = record {
  appended = tt;
  prefix = (h.prefix.0, h.prefix.1 ++ b, ap (λ xs. xs ++ b) h.prefix.2 ∙ append_assoc h.prefix.0 h.prefix.1 b, h.prefix.3);
  ok = tt;
  err = h.err;
  never_falls = h.never_falls;
}
