use Rattle.std.proofs.Common.{◌≡◌, drop}
use Rattle.profile_rules.specs.Features.{tag_value}
use Rattle.profile_rules.proofs.element.tag_value.Given as goal

abbrev pub invariant-loop-tag : goal.invariant-loop-tag
invariant-loop-tag l = tag_value l.key (drop l.tag-index l.tags) ≡ tag_value l.key l.tags
