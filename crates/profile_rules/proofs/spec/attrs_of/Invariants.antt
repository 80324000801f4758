use Rattle.std.proofs.Common.{◌≡◌, ◌++◌, drop}
use Rattle.std.specs.List.{filter_map}
use Rattle.profile_rules.specs.Features.{attr_of}
use Rattle.profile_rules.proofs.spec.attrs_of.Given as goal

abbrev pub invariant-loop-attribute : goal.invariant-loop-attribute
invariant-loop-attribute l = l.attrs ++ filter_map (attr_of l.tags) (drop l.attribute-index l.attributes) ≡ filter_map (attr_of l.tags) l.attributes
