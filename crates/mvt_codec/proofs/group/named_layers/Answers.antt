use Rattle.std.proofs.Common.{◌≡◌, length, ◌∙◌, arith}
use Rattle.mvt_codec.proofs.GroupRows.{named-end}
use Rattle.mvt_codec.proofs.group.named_layers.Goals as goal

pub returns-clause-layers : goal.returns-clause-layers
returns-clause-layers c =
    let rest = c.loop-rows.rows-iterator.rest in
    let done = (c.in-None.ensures {u = tt}).steps in
    let empty : length rest.items ≡ 0 = omega (arith, done.0, rest.ok) in
    c.from_vec-2.ensures ∙ named-end _ rest.items _ _ empty c.loop-rows.invariant.layers

pub returns-clause-texts : goal.returns-clause-texts
returns-clause-texts c = rw c.from_vec-2.ensures c.loop-rows.invariant.texts
