use Rattle.std.proofs.Common.{◌≡◌, [], ◌∙◌, subst, rules}
use Rattle.std.proofs.lemmas.List.{get_or_read}
use Rattle.ring_assembly.specs.declared.outline.Outline.{Outline}
use Rattle.ring_assembly.specs.Nesting.{ring_at}
use Rattle.ring_assembly.specs.Envelopes.{IsOutline}
use Rattle.ring_assembly.proofs.Stretches.{each_more}
use Rattle.ring_assembly.proofs.polygon.outlines.Goals as goal

pub loop-ring-preserved : goal.loop-ring-preserved
loop-ring-preserved c =
    let l = c.loop-ring in
    let i = l.ring-index in
    let rings = c.args.rings.now in
    let ring : c.as_slice.result.now ≡ ring_at rings i = c.as_slice.ensures ∙ get_or_read rings i _ c.loop-ring-test.true c.ring-item.is [] in
    let made = subst (IsOutline c.in_ok-outline_of.field-0) ring (c.in_ok-outline_of.ensures {u = tt}) in
    record {
      count = search rules;
      each = each_more (λ k (o : Outline). IsOutline o (ring_at rings k)) l.outlines.items c.push.new.self.items i c.in_ok-outline_of.field-0 (c.in_ok-push.ensures {u = tt}).items l.invariant.count l.invariant.each made;
    }
