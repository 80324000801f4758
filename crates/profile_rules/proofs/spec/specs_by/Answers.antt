use Rattle.std.proofs.Common.{ap, ◌∙◌}
use Rattle.std.specs.Prelude.{slice_get}
use Rattle.std.specs.Option.{option_copied}
use Rattle.profile_rules.proofs.Picked.{found_at, specs_next}
use Rattle.profile_rules.proofs.spec.specs_by.Goals as goal

pub loop-number-preserved : goal.loop-number-preserved
loop-number-preserved c =
    let rules = c.args.rules.now in
    specs_next c.args.tags.now c.args.kind rules c.args.numbers.now c.loop-number.number-index (option_copied c.get.result) c.loop-number.specs c.add_spec.new.specs _ c.loop-number-test.true
    (found_at rules c.from.result c.get.result c.get.ensures.lookup ∙ ap (slice_get rules) c.from.ensures) c.in_ok-add_spec.ensures c.loop-number.invariant
