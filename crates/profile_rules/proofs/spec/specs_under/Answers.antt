use Rattle.std.proofs.Common.{length, sym, ◌∙◌}
use Rattle.std.proofs.lemmas.Bool.{eqb-true}
use Rattle.profile_rules.proofs.Picked.{made, made_bare}
use Rattle.profile_rules.proofs.spec.specs_under.Goals as goal

pub returns-then-is_empty : goal.returns-then-is_empty
returns-then-is_empty c =
    let tags = c.as_slice-tags.result.now in
    made_bare c.specs_by.result c.args.tags.now.pairs tags c.args.kind c.args.parts.now.rules c.as_slice-rules.result.now c.args.places.now c.asking_none.result.now c.requires c.as_slice-tags.ensures c.as_slice-rules.ensures
    (eqb-true (length tags) 0 (sym c.is_empty.ensures ∙ c.if-is_empty.true)) c.asking_none.ensures c.specs_by.ensures

pub returns : goal.returns
returns c =
    made c.specs_by-2.result c.args.tags.now.pairs c.as_slice-tags.result.now c.args.kind c.args.parts.now.rules c.as_slice-rules.result.now c.args.places.now c.deref.result.now c.requires c.as_slice-tags.ensures c.as_slice-rules.ensures
    (c.deref.ensures.value ∙ c.in_ok-numbers.ensures) c.specs_by-2.ensures
