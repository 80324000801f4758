-- A message is read field by field, and a packed list number by number.
use Rattle.std.proofs.Common.{◌≡◌, ℕ, ◌<◌, ◌≤◌, ◌==◌, false, Option, None, Some, Result, Ok, Err, List, [], ◌∷◌, ◌++◌, length, refl, sym, ap, ◌∙◌, arith, append_assoc}
use Rattle.std.proofs.lemmas.Bool.{ne_eqb}
use Rattle.std.proofs.lemmas.List.{append-nil}
use Rattle.tb_wire.specs.declared.varint.Wire.{Wire}
use Rattle.tb_wire.specs.declared.field.Field.{Field}
use Rattle.tb_wire.specs.Varint.{varint_at}
use Rattle.tb_wire.specs.Field.{Entry, entry_of, field_at}
use Rattle.tb_wire.specs.Items.{◌>>=◌ as go_on, with_rest}
use Rattle.tb_wire.specs.Message.{message_at, number_at, packed_at}
use Rattle.tb_wire.proofs.Messages.{message_at-step, packed_at-step, number_at-end, field_at-end}
use Rattle.mvt_geom.specs.Options.{◌>>=◌}
use Rattle.mvt_codec.specs.Messages.{if_read, said_by, said_from, low_32}
use Rattle.mvt_codec.specs.declared.fault.Fault.{Fault}
use Rattle.mvt_codec.specs.declared.fault.Fault.TheVariants as faults
use Rattle.mvt_codec.specs.Reading.{with_numbers, IsFault}

module _ {S : Type 0} (note : S → Entry → Option S) where
  said-cons : (s now : S) (f : Entry) (left : Result (List Entry) Wire) → note s f ≡ Some now → (if_read (go_on left (λ rest. Ok (f ∷ rest))) >>= said_by note s) ≡ (if_read left >>= said_by note now)
  said-cons s now f (Ok rest) e = rw e refl
  said-cons s now f (Err w) e = refl

  none-cons : (s : S) (f : Entry) (left : Result (List Entry) Wire) → note s f ≡ None → (if_read (go_on left (λ rest. Ok (f ∷ rest))) >>= said_by note s) ≡ None
  none-cons s f (Ok rest) e = rw e refl
  none-cons s f (Err w) e = refl

  -- a field that is noted
  pub said-field : (s now : S) (bytes : List ℕ) (at : ℕ) (f : Field) → at ≤ length bytes → Ok (Some (entry_of f, f.next)) ≡ field_at bytes at → note s (entry_of f) ≡ Some now
      → said_from note s bytes at ≡ said_from note now bytes f.next
  said-field s now bytes at f h read e =
      ap (λ r. if_read r >>= said_by note s) (message_at-step bytes at h ∙ ap (λ r. go_on r (with_rest (message_at bytes))) (sym read)) ∙ said-cons s now (entry_of f) (message_at bytes f.next) e

  -- one that can't be noted
  pub said-bad : (s : S) (bytes : List ℕ) (at : ℕ) (f : Field) → at ≤ length bytes → Ok (Some (entry_of f, f.next)) ≡ field_at bytes at → note s (entry_of f) ≡ None → said_from note s bytes at ≡ None
  said-bad s bytes at f h read e =
      ap (λ r. if_read r >>= said_by note s) (message_at-step bytes at h ∙ ap (λ r. go_on r (with_rest (message_at bytes))) (sym read)) ∙ none-cons s (entry_of f) (message_at bytes f.next) e

  pub said-fault : (s : S) (bytes : List ℕ) (at : ℕ) (f : Field) (e : Fault) → at ≤ length bytes → Ok (Some (entry_of f, f.next)) ≡ field_at bytes at → IsFault e (note s (entry_of f)) → IsFault e (said_from note s bytes at)
  said-fault s bytes at f faults.Bad h read e = said-bad s bytes at f h read e
  said-fault s bytes at f faults.Memory h read e = tt

  -- no field where one should stand
  pub said-none : (s : S) (bytes : List ℕ) (at : ℕ) (e : Wire) → at ≤ length bytes → Err e ≡ field_at bytes at → said_from note s bytes at ≡ None
  said-none s bytes at e h read = ap (λ r. if_read r >>= said_by note s) (message_at-step bytes at h ∙ ap (λ r. go_on r (with_rest (message_at bytes))) (sym read))

  -- the end
  pub said-end : (s : S) (bytes : List ℕ) (at : ℕ) → at ≤ length bytes → Ok None ≡ field_at bytes at → said_from note s bytes at ≡ Some s
  said-end s bytes at h read = ap (λ r. if_read r >>= said_by note s) (message_at-step bytes at h ∙ ap (λ r. go_on r (with_rest (message_at bytes))) (sym read))

pub number_at-some : (bytes : List ℕ) (at : ℕ) (n : ℕ × ℕ) → at < length bytes → Ok n ≡ varint_at bytes at → number_at bytes at ≡ Ok (Some n)
unfolding number_at
number_at-some bytes at n h e =
    let more : (length bytes == at) ≡ false = ne_eqb (length bytes) at (λ same. absurd (omega (arith, h, same))) in
    rw (more, sym e) refl

number_at-none : (bytes : List ℕ) (at : ℕ) (e : Wire) → at < length bytes → Err e ≡ varint_at bytes at → number_at bytes at ≡ Err e
unfolding number_at
number_at-none bytes at w h e =
    let more : (length bytes == at) ≡ false = ne_eqb (length bytes) at (λ same. absurd (omega (arith, h, same))) in
    rw (more, sym e) refl

packed-cons : (prefix : List ℕ) (n : ℕ) (left : Result (List ℕ) Wire) → with_numbers prefix (if_read (go_on left (λ rest. Ok (n ∷ rest)))) ≡ with_numbers (prefix ++ low_32 n ∷ []) (if_read left)
packed-cons prefix n (Ok rest) = rw append_assoc refl
packed-cons prefix n (Err e) = refl

-- a number of a packed list
pub packed-number : (prefix bytes : List ℕ) (at n next : ℕ) → at < length bytes → Ok (n, next) ≡ varint_at bytes at
    → with_numbers prefix (if_read (packed_at bytes at)) ≡ with_numbers (prefix ++ low_32 n ∷ []) (if_read (packed_at bytes next))
packed-number prefix bytes at n next h read =
    ap (λ r. with_numbers prefix (if_read r)) (packed_at-step bytes at (omega (arith, h)) ∙ ap (λ r. go_on r (with_rest (packed_at bytes))) (number_at-some bytes at (n, next) h read)) ∙ packed-cons prefix n (packed_at bytes next)

pub packed-none : (prefix bytes : List ℕ) (at : ℕ) (e : Wire) → at < length bytes → Err e ≡ varint_at bytes at → with_numbers prefix (if_read (packed_at bytes at)) ≡ None
packed-none prefix bytes at e h read =
    ap (λ r. with_numbers prefix (if_read r)) (packed_at-step bytes at (omega (arith, h)) ∙ ap (λ r. go_on r (with_rest (packed_at bytes))) (number_at-none bytes at e h read))

pub packed-end : (prefix bytes : List ℕ) (at : ℕ) → length bytes ≡ at → with_numbers prefix (if_read (packed_at bytes at)) ≡ Some prefix
packed-end prefix bytes at h =
    ap (λ r. with_numbers prefix (if_read r)) (packed_at-step bytes at (omega (arith, h)) ∙ ap (λ r. go_on r (with_rest (packed_at bytes))) (number_at-end bytes at h)) ∙ ap Some (append-nil prefix)

-- the same of a field as the definitions have it, and of the end
module _ {S : Type 0} (note : S → Entry → Option S) where
  pub said-entry : (s now : S) (bytes : List ℕ) (at : ℕ) (f : Entry) (next : ℕ) → at ≤ length bytes → field_at bytes at ≡ Ok (Some (f, next)) → note s f ≡ Some now → said_from note s bytes at ≡ said_from note now bytes next
  said-entry s now bytes at f next h read e =
      ap (λ r. if_read r >>= said_by note s) (message_at-step bytes at h ∙ ap (λ r. go_on r (with_rest (message_at bytes))) read) ∙ said-cons note s now f (message_at bytes next) e

  pub said-over : (s : S) (bytes : List ℕ) → said_from note s bytes (length bytes) ≡ Some s
  said-over s bytes = said-end note s bytes (length bytes) (omega arith) (sym (field_at-end bytes (length bytes) refl))
