use Rattle.std.proofs.Common.{◌≡◌, ◌==◌, not, nat_lt, Some, [], slice_get, ap, sym, ◌∙◌, subst}
use Rattle.std.proofs.lemmas.Bool.{and_right}
use Rattle.std.proofs.lemmas.List.{get_or_read}
use Rattle.ring_assembly.specs.declared.outline.Outline.{Outline}
use Rattle.ring_assembly.specs.Nesting.{contains, ring_at}
use Rattle.ring_assembly.specs.Envelopes.{IsOutline, AreOnRing}
use Rattle.ring_assembly.proofs.Outside.{skipped}
use Rattle.ring_assembly.proofs.contain.contains.Goals as goal

pub encloses-requires : goal.encloses-requires
encloses-requires c =
    let rings = c.args.rings.now in
    let outer = c.args.outer in
    let ring : c.as_slice.result.now ≡ ring_at rings outer = c.as_slice.ensures ∙ get_or_read rings outer _ c.requires.outer c.index-rings-outer.is [] in
    let outline = subst (λ (o : Outline). IsOutline o (ring_at rings outer)) (sym c.index-outlines-outer.is) (c.requires.outlines.each outer c.index-outlines-outer.result c.requires.outer) in
    subst (λ es. AreOnRing es c.as_slice.result.now) (sym c.deref.ensures.value) (subst (AreOnRing c.index-outlines-outer.result.stretches.items) (sym ring) outline.stretches)

pub returns-then-not-has : goal.returns-then-not-has
unfolding contains
returns-then-not-has c =
    let rings = c.args.rings.now in
    let outer = c.args.outer in
    let ring : c.as_slice-ring.result.now ≡ ring_at rings c.args.inner = c.as_slice-ring.ensures ∙ get_or_read rings c.args.inner _ c.requires.inner c.index-rings-inner.is [] in
    let first : Some c.in-Some.p.now ≡ slice_get (ring_at rings c.args.inner) 0 = (c.in-Some.ensures {u = tt}).value ∙ ap (λ l. slice_get l 0) ring in
    let outline = subst (λ (o : Outline). IsOutline o (ring_at rings outer)) (sym c.index-outlines-outer.is) (c.requires.outlines.each outer c.index-outlines-outer.result c.requires.outer) in
    sym (and_right (not (outer == c.args.inner)) _ (skipped c.index-outlines-outer.result.whole (ring_at rings outer) (ring_at rings c.args.inner) c.in-Some.p.now (nat_lt outer c.args.inner) outline.whole first (sym c.has.ensures ∙ c.if-not-has.true)))
