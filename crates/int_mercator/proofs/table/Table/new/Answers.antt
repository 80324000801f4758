use Rattle.std.proofs.Common.{◌+◌, sym, ap, ◌∙◌, arith}
use Rattle.int_mercator.specs.Quarter.{secant_of}
use Rattle.int_mercator.proofs.Heights.{height_none, heights_more, entries_more, quarter_is}
use Rattle.int_mercator.proofs.table.Table.new.Goals as goal

pub loop-knot-init : goal.loop-knot-init
loop-knot-init c = record {
  entries = c.in_ok-entries.ensures.items;
  height = sym height_none;
  low = omega arith;
  here = c.secant-here.ensures.exact;
  small = c.secant-here.ensures.small;
}

pub loop-knot-preserved : goal.loop-knot-preserved
loop-knot-preserved c =
    let loop = c.loop-knot in
    record {
      entries = entries_more loop.entries.items c.push.new.self.items loop.knot c.entry.result loop.height loop.invariant.entries loop.invariant.height c.entry.ensures c.in_ok-push.ensures.items;
      height = heights_more loop.knot loop.height c.rise-height.result loop.here c.secant-half.result c.secant-next.result loop.invariant.height c.rise-height.ensures.exact loop.invariant.here c.secant-half.ensures.exact c.secant-next.ensures.exact;
      low = omega (arith, c.rise-height.ensures.small);
      here = c.secant-next.ensures.exact ∙ ap secant_of (omega arith);
      small = c.secant-next.ensures.small;
    }

pub invariant_of-result : goal.invariant_of-result
invariant_of-result c =
    let loop = c.loop-knot in
    entries_more loop.entries.items c.push-2.new.self.items loop.knot c.entry-2.result loop.height loop.invariant.entries loop.invariant.height c.entry-2.ensures c.in_ok-push-2.ensures.items ∙ quarter_is (loop.knot + 1) (omega arith)

pub returns : goal.returns
returns c =
    let loop = c.loop-knot in
    entries_more loop.entries.items c.push-2.new.self.items loop.knot c.entry-2.result loop.height loop.invariant.entries loop.invariant.height c.entry-2.ensures c.in_ok-push-2.ensures.items ∙ quarter_is (loop.knot + 1) (omega arith)
