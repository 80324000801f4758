use Rattle.std.proofs.Common.{◌+◌, drop, arith, pos, ◌+ℤ◌, ◌-ℤ◌, ap, sym, ◌∙◌, unsigned_abs, rules}
use Rattle.std.proofs.lemmas.List.{at_drop_more, at_drop_all}
use Rattle.tb_types.specs.Points.{area_along}
use Rattle.ring_assembly.specs.Rings.{x_of, y_of}
use Rattle.ring_assembly.proofs.Boxes.{point}
use Rattle.ring_assembly.proofs.Areas.{edge_step, last_edge, difference}
use Rattle.ring_assembly.proofs.clean.absolute_doubled_area.Goals as goal

pub loop-q-preserved : goal.loop-q-preserved
loop-q-preserved c =
    let l = c.loop-q in
    let rest = c.in-Some.rest.now in
    let first = c.in-Some.first.now in
    let q = point rest l.q-index in
    record {
      told = edge_step l.p q l.forth l.back _ _ (area_along x_of y_of q (drop (l.q-index + 1) rest) first) (ap (λ n. l.forth + n) c.product-forth.ensures.exact) (ap (λ n. l.back + n) c.product-back.ensures.exact)
          ∙ ap (λ z. (pos l.forth -ℤ pos l.back) +ℤ z) (sym (at_drop_more (λ xs. area_along x_of y_of l.p xs first) rest l.q-index (record { x = 0; y = 0 }) (omega (arith, c.loop-q-test.true)))) ∙ l.invariant.told;
      small_forth = search rules;
      small_back = search rules;
    }

pub returns : goal.returns
returns c =
    let l = c.loop-q in
    let rest = c.in-Some.rest.now in
    let first = c.in-Some.first.now in
    c.abs_diff.ensures ∙ difference _ _
    ∙ ap unsigned_abs (last_edge l.p first l.forth l.back _ _ (ap (λ n. l.forth + n) c.product-forth-2.ensures.exact) (ap (λ n. l.back + n) c.product-back-2.ensures.exact)
    ∙ ap (λ z. (pos l.forth -ℤ pos l.back) +ℤ z) (sym (at_drop_all (λ xs. area_along x_of y_of l.p xs first) rest l.q-index (omega (arith, c.loop-q-test.false)))) ∙ l.invariant.told)
