use Rattle.std.proofs.Common.{◌+◌, ◌-◌, ◌*◌, Ok, get_or, ap, sym, ◌∙◌, arith}
use Rattle.osm_elements.proofs.ShortFields.{short_varint, longer_varint}
use Rattle.osm_elements.proofs.varint.next_varint.Goals as goal

pub returns-then-byte-lt128-clause-exact : goal.returns-then-byte-lt128-clause-exact
returns-then-byte-lt128-clause-exact c =
    ap (λ b. Ok (b, c.args.at + 1)) c.from.ensures ∙ sym (short_varint c.args.bytes.now c.args.at (omega arith) c.if-byte-lt128.true)

pub returns-then-second-lt128-clause-exact : goal.returns-then-second-lt128-clause-exact
returns-then-second-lt128-clause-exact c =
    ap (λ b. Ok (b - 128 + 128 * c.from-then-second-lt128-2.result, c.args.at + 2)) c.from-then-second-lt128.ensures
    ∙ (ap (λ d. Ok (get_or c.args.bytes.now c.args.at 0 - 128 + 128 * d, c.args.at + 2)) c.from-then-second-lt128-2.ensures
    ∙ sym (longer_varint c.args.bytes.now c.args.at (omega (arith, c.if-bytes-at-gt1.true)) (omega (arith, c.if-byte-lt128.false)) (omega (arith, c.if-second-lt128.true))))
