use Rattle.std.proofs.Common.{◌≡◌, ℕ, ◌+◌, ◌++◌, ◌∷◌, [], None, map, length, ap, sym, ◌∙◌}
use Rattle.std.specs.List.{filter}
use Rattle.std.proofs.lemmas.List.{get_or_read}
use Rattle.ring_assembly.specs.Nesting.{ring_at, outer_of, is_number}
use Rattle.ring_assembly.proofs.Numbers.{left_from, kept_step, kept_skip}
use Rattle.ring_assembly.proofs.polygon.inners_of.Goals as goal
use Rattle.ring_assembly.proofs.polygon.inners_of.Goals.{then-is_number+in_ok-copied+in_ok-push, else-is_number}

pub loop-inner-preserved : goal.loop-inner-preserved
loop-inner-preserved c =
    let rings = c.args.rings.now in
    let inner = c.loop-inner.inner in
    let p = λ (j : ℕ). is_number (outer_of rings j) c.args.outer in
    let outer_ring_number = c.requires.each inner None c.loop-inner-test.true in
    let is = ap (λ o. is_number o c.args.outer) (sym outer_ring_number) ∙ sym c.is_number.ensures in
    elim c.if-is_number.branch [
      | then-is_number+in_ok-copied+in_ok-push w ↦
          let copy : w.in_ok-copied.field-0 ≡ ring_at rings inner = w.in_ok-copied.ensures {u = tt} ∙ w.as_slice.ensures ∙ get_or_read rings inner _ c.loop-inner-test.true w.index-rings-inner.is [] in
          let list : c.if-is_number.inners ≡ c.loop-inner.inners ++ ring_at rings inner ∷ [] = w.inners-is ∙ (w.in_ok-push.ensures {u = tt}).ok ∙ ap (λ x. c.loop-inner.inners ++ x ∷ []) copy in
          ap (λ l. l ++ map (ring_at rings) (filter p (left_from (inner + 1) (length rings)))) list ∙ sym (kept_step p (ring_at rings) c.loop-inner.inners inner (length rings) c.loop-inner-test.true (is ∙ w.if-is_number.true)) ∙ c.loop-inner.invariant
      | else-is_number w ↦
          ap (λ l. l ++ map (ring_at rings) (filter p (left_from (inner + 1) (length rings)))) w.inners-is ∙ sym (kept_skip p (ring_at rings) c.loop-inner.inners inner (length rings) c.loop-inner-test.true (is ∙ w.if-is_number.false)) ∙ c.loop-inner.invariant
    ]
