use Rattle.std.proofs.Common.{◌∙◌, ap, sym, Ok, map}
use Rattle.toml.specs.View.{view}
use Rattle.profile_rules.proofs.Tables.{list_of-array}
use Rattle.profile_rules.proofs.kinds.list_of.Goals as goal

pub returns-in-Some : goal.returns-in-Some
returns-in-Some c =
    list_of-array (view c.args.value.now) c.in-Some.items.now.items (rw c.in-Some.is at c.as_array.ensures) ∙ ap (λ s. Ok (map view s)) (sym c.as_slice.ensures.value)
