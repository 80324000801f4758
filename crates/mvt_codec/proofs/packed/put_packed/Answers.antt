use Rattle.std.proofs.Common.{◌≡◌, Ok, ◌∷◌, [], ◌++◌, ap, sym, ◌∙◌, arith, rules}
use Rattle.tb_wire.specs.Varint.{varint_at}
use Rattle.tb_wire.specs.Message.{packed_at}
use Rattle.mvt_codec.specs.Messages.{if_read, low_32}
use Rattle.mvt_codec.specs.Reading.{with_numbers}
use Rattle.mvt_codec.proofs.MessageSteps.{packed-number, packed-none, packed-end}
use Rattle.mvt_codec.proofs.packed.put_packed.Goals as goal

pub loop-at-preserved : goal.loop-at-preserved
loop-at-preserved c =
    let bytes = c.args.bytes.now in
    let prefix = c.loop-at.out.items in
    let read : Ok (c.in-Ok.n, c.in-Ok.next) ≡ varint_at bytes c.loop-at.at = search rules in
    let pushed : c.push.new.self.items ≡ prefix ++ low_32 c.in-Ok.n ∷ [] = search rules in
    record {
      within = search rules;
      told = ap (λ l. with_numbers l (if_read (packed_at bytes c.in-Ok.next))) pushed ∙ sym (packed-number prefix bytes c.loop-at.at c.in-Ok.n c.in-Ok.next c.loop-at-test.true read) ∙ c.loop-at.invariant.told;
    }

pub returns-in-Err : goal.returns-in-Err
returns-in-Err c = sym c.loop-at.invariant.told ∙ packed-none c.loop-at.out.items c.args.bytes.now c.loop-at.at c.in-Err.field-0 c.loop-at-test.true c.in-Err.ensures.exact

pub returns : goal.returns
returns c = sym c.loop-at.invariant.told ∙ packed-end c.loop-at.out.items c.args.bytes.now c.loop-at.at (omega arith)
