use Rattle.std.proofs.Common.{[], length, length-drop, ap, arith}
use Rattle.ring_assembly.specs.Envelopes.{AreOnRing}
use Rattle.ring_assembly.proofs.Stretches.{box_more, all_boxes}
use Rattle.ring_assembly.proofs.outline.stretches_of.Goals as goal

pub loop-left-smaller : goal.loop-left-smaller
loop-left-smaller c = omega (arith, ap length c.split_stretch.ensures.more, length-drop 64 c.loop-left.left.now, c.loop-left-test.true)

pub loop-left-preserved : goal.loop-left-preserved
loop-left-preserved c =
    let l = c.loop-left in
    box_more (λ bs. AreOnRing bs c.args.ring.now) l.boxes.items c.push.new.self.items c.envelope_from.result l.from c.end_of-from.result l.left.now c.split_stretch.result.0.now c.split_stretch.result.1.now c.split_stretch.ensures.stretch c.split_stretch.ensures.more
    l.invariant c.envelope_from.ensures (c.in_ok-push.ensures {u = tt}).items c.end_of-from.ensures

pub returns : goal.returns
returns c = all_boxes (λ bs. AreOnRing bs c.args.ring.now) c.loop-left.boxes.items (c.loop-left.invariant [] tt)
