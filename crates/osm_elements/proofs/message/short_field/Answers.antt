use Rattle.std.proofs.Common.{◌≡◌, ◌+◌, ◌-◌, ◌/◌, ◌^◌, Ok, Some, length, get_or, ap, sym, ◌∙◌, arith}
use Rattle.std.proofs.lemmas.Bool.{ne_eqb, le-ltb}
use Rattle.osm_elements.proofs.ShortFields.{short_varint, second_varint, short_entry, short_field}
use Rattle.osm_elements.proofs.message.short_field.Goals as goal

pub returns-clause-exact : goal.returns-clause-exact
returns-clause-exact c =
    let bytes = c.args.bytes.now in
    let at = c.args.at in
    let tag = get_or bytes at 0 in
    let len = get_or bytes (at + 1) 0 in
    ap (λ n. Ok (Some (short_entry bytes at n len, at + 2 + len))) c.from.ensures
    ∙ sym (short_field bytes at tag len (ne_eqb (length bytes) at (λ e. absurd (omega (arith, e, c.if-bytes-at-lt2.false)))) (short_varint bytes at (omega arith) (omega (arith, c.if-tag-ge128.false)))
    (ne_eqb (tag / 8) 0 (λ e. absurd (omega (arith, e, c.if-tag-lt8.false)))) (le-ltb (2 ^ 29 - 1) (tag / 8) (omega (arith, c.if-tag-ge128.false))) c.if-tag-ne2.false
    (second_varint bytes at (omega arith) (omega (arith, c.if-len-ge128.false))) (le-ltb (length bytes - (at + 2)) len (omega (arith, c.if-next-bytes.false, c.if-bytes-at-lt2.false))))
