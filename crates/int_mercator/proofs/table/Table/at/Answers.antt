use Rattle.std.proofs.Common.{length, get_or, ap, ◌∙◌, arith}
use Rattle.std.proofs.lemmas.List.{get_or_read}
use Rattle.int_mercator.proofs.Knots.{length_of_quarter, at_most_half}
use Rattle.int_mercator.proofs.table.Table.at.Goals as goal

pub index-requires : goal.index-requires
index-requires c = omega (arith, c.self.inside.entries.ok.0, ap length c.self.invariant, length_of_quarter)

pub returns-clause-exact : goal.returns-clause-exact
returns-clause-exact c =
    get_or_read c.self.inside.entries.items _ _ (omega (arith, ap length c.self.invariant, length_of_quarter)) c.index.ensures 0 ∙ ap (λ xs. get_or xs c.args.knot 0) c.self.invariant

pub returns-clause-small : goal.returns-clause-small
returns-clause-small c = omega (arith, returns-clause-exact c, at_most_half c.args.knot)
