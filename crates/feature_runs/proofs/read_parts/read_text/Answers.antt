use Rattle.std.proofs.Common.{◌≡◌, ◌++◌, ℕ, Bool, true, false, List, None, Some, refl, ap, sym, ◌∙◌}
use Rattle.std.proofs.lemmas.Str.{IsUtf8-from_is_utf8, is_utf8-from_IsUtf8}
use Rattle.std.specs.Str.{IsUtf8, is_utf8}
use Rattle.feature_runs.specs.ItemReading.{utf8_text, only_if}
use Rattle.feature_runs.proofs.read_parts.read_text.Goals as goal

-- bytes that aren't UTF-8 fail the test, and the others pass it
fails : (bytes : List ℕ) (b : Bool) → is_utf8 bytes ≡ b → (IsUtf8 bytes → ⊥) → only_if b bytes ≡ None
fails bytes true e h = absurd (h (IsUtf8-from_is_utf8 bytes e))
fails bytes false e h = refl

passes : (bytes text : List ℕ) → is_utf8 bytes ≡ true → text ≡ bytes → utf8_text bytes ≡ Some text
passes bytes text e same = rw (e, same) refl

pub returns-in-Err : goal.returns-in-Err
returns-in-Err c = fails c.args.bytes.now (is_utf8 c.args.bytes.now) refl c.in-Err.ensures.cases.0

pub returns-in_ok-push_str-in-Ok : goal.returns-in_ok-push_str-in-Ok
returns-in_ok-push_str-in-Ok c =
    let read : c.push_str.new.self ≡ c.args.bytes.now = (c.in_ok-push_str-in-Ok.ensures {u = tt}).ok ∙ ap (λ x. x ++ c.in-Ok.text.now) c.new-copy.ensures ∙ c.in-Ok.ensures.cases.0 in
    passes c.args.bytes.now c.push_str.new.self (is_utf8-from_IsUtf8 c.args.bytes.now c.in-Ok.ensures.cases.1) read
