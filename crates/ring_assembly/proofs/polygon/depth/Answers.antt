use Rattle.std.proofs.Common.{ℕ, true, false, length, arith, sym, ◌∙◌}
use Rattle.ring_assembly.specs.Nesting.{contains}
use Rattle.ring_assembly.proofs.Numbers.{count_step}
use Rattle.ring_assembly.proofs.polygon.depth.Goals as goal
use Rattle.ring_assembly.proofs.polygon.depth.Goals.{then-contains, else-contains}

pub loop-outer-preserved : goal.loop-outer-preserved
loop-outer-preserved c =
    let p = λ (i : ℕ). contains c.args.rings.now i c.args.inner in
    let step = count_step p c.loop-outer.outer (length c.args.rings.now) in
    elim c.if-contains.branch [
      | then-contains w ↦
          let more = step true c.loop-outer-test.true (sym c.contains.ensures ∙ w.if-contains.true) in
          record { told = omega (arith, more, c.loop-outer.invariant.told, w.depth-is); small = omega (arith, c.loop-outer.invariant.small, w.depth-is) }
      | else-contains w ↦
          let same = step false c.loop-outer-test.true (sym c.contains.ensures ∙ w.if-contains.false) in
          record { told = omega (arith, same, c.loop-outer.invariant.told, w.depth-is); small = omega (arith, c.loop-outer.invariant.small, w.depth-is) }
    ]
