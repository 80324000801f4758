use Rattle.std.proofs.Common.{◌≡◌, ◌++◌, ◌∷◌, [], take, sym, ap, ◌∙◌, append_assoc}
use Rattle.osm_elements.specs.declared.element.RelEl.{RelEl}
use Rattle.pass_survey.specs.Kept.{kept_in}
use Rattle.pass_survey.proofs.Keeping.{kept_next}
use Rattle.pass_survey.proofs.kept.put_kept.Goals as goal

pub loop-relation-preserved : goal.loop-relation-preserved
loop-relation-preserved c =
    let put = c.in_ok-put_relation.ensures {u = tt} in
    let kept = kept_in c.args.profile.now c.args.block in
    let i = c.loop-relation.relation-index in
    let r = c.relation-item.result in
    let before = c.args.kept.now.items in (
      put.kept
          ∙ (ap (λ ks. ks ++ kept (r ∷ [])) c.loop-relation.invariant.0
          ∙ (append_assoc before (kept (take i c.args.relations.now)) (kept (r ∷ []))
          ∙ (ap (λ (x : RelEl). before ++ (kept (take i c.args.relations.now) ++ kept (x ∷ []))) c.relation-item.is
          ∙ ap (λ ks. before ++ ks) (sym (kept_next c.args.profile.now c.args.block c.args.relations.now i r c.loop-relation-test.true))))),
      λ h. put.sound (c.loop-relation.invariant.1 h),
    )
