use Rattle.std.proofs.Common.{◌*◌, ◌^◌, ap, ◌∙◌, arith}
use Rattle.std.proofs.lemmas.Nat.{one_shl}
use Rattle.hilbert_ids.proofs.Numbers.{four_shift, four_pos, four_mono}
use Rattle.hilbert_ids.proofs.zoom.area.Goals as goal

pub returns-clause-exact : goal.returns-clause-exact
returns-clause-exact c = one_shl (2 * c.from.result) 64 (omega arith) ∙ four_shift c.from.result ∙ ap (λ k. 4 ^ k) c.from.ensures

pub returns-clause-positive : goal.returns-clause-positive
returns-clause-positive c = omega (arith, returns-clause-exact c, four_pos c.args.zoom)

pub returns-clause-small : goal.returns-clause-small
returns-clause-small c = omega (arith, returns-clause-exact c, four_mono c.args.zoom 27 c.requires)
