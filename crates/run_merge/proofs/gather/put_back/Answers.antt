use Rattle.std.proofs.Common.{◌<◌, length, get_or, ◌∙◌, arith}
use Rattle.std.proofs.lemmas.List.{length-set}
use Rattle.run_merge.proofs.Ends.{cursors_more, windows_more}
use Rattle.run_merge.proofs.gather.put_back.Goals as goal

pub loop-number-preserved : goal.loop-number-preserved
loop-number-preserved c =
    let inv = c.loop-number.invariant in
    let readers = c.loop-number.readers in
    let i = c.loop-number.number in
    let within : i < length readers = omega (arith, c.loop-number-test.true) in
    record {
      len = length-set readers i _ ∙ inv.len;
      cursors = cursors_more readers c.args.places.now i (get_or readers i c.index-readers-number.result) _ within (omega (arith, within, inv.len)) inv.cursors;
      windows = windows_more readers c.args.readers.now i c.index-readers-number.result _ within inv.windows;
    }
