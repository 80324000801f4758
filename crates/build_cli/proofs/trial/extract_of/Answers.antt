use Rattle.std.proofs.Common.{rules}
use Rattle.build_cli.proofs.Trying.{trying-start, trying-next, trying-whole}
use Rattle.build_cli.proofs.trial.extract_of.Goals as goal

pub loop-bytes-init : goal.loop-bytes-init
loop-bytes-init c = trying-start _ _ _ (c.in_ok-world.ensures {u = tt}).frames c.new-bytes.ensures.items

pub loop-bytes-preserved : goal.loop-bytes-preserved
loop-bytes-preserved c =
    let first = rw c.in-Some.is at (c.in_ok-frame.ensures {u = tt}).some in
    let grew = rw c.deref.ensures.value at (c.in_ok-extend_from_slice.ensures {u = tt}).items in
    trying-next _ _ _ _ _ _ c.loop-bytes.invariant first grew

pub returns : goal.returns
returns c = trying-whole _ _ _ _ c.loop-bytes.invariant (search rules)
