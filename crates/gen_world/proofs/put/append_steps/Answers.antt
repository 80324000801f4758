use Rattle.std.proofs.Common.{◌≡◌, ◌++◌, ◌+◌, ℤ, ◌-ℤ◌, pos, get_or, drop, flat_map, w32, to_z, sym, ap, subst, ◌∙◌, rules}
use Rattle.std.specs.Prelude.{FitsSigned}
use Rattle.std.proofs.lemmas.Int.{to_z-of_z}
use Rattle.std.proofs.lemmas.List.{get_or_default}
use Rattle.tb_types.specs.Zigzag.{zigzag_of}
use Rattle.tb_wire.specs.Varint.{encoding}
use Rattle.gen_world.specs.Blocks.{steps_from}
use Rattle.gen_world.proofs.Texts.{steps_more}
use Rattle.gen_world.proofs.put.append_steps.Goals as goal

pub loop-n-preserved : goal.loop-n-preserved
loop-n-preserved c =
    let numbers = c.args.numbers.now in
    let i = c.loop-n.n-index in
    let z : ℤ = get_or numbers i (pos 0) in
    let fit : FitsSigned w32 z = search rules in
    let stored = to_z-of_z w32 z fit in
    let last = to_z w32 c.loop-n.last-bits in
    let value : c.step.result ≡ zigzag_of (z -ℤ last) =
    c.step.ensures ∙ ap (λ v. zigzag_of (v -ℤ last)) stored in
    let put = (c.in_ok-put_varint.ensures {u = tt}).ok ∙ ap (λ n. c.loop-n.out.items ++ encoding n) value in
    let whole = c.args.out.now.items ++ flat_map encoding (steps_from (pos 0) numbers) in
    subst (λ v. c.put_varint.new.out.items ++ flat_map encoding (steps_from v (drop (i + 1) numbers)) ≡ whole) (sym stored)
    (steps_more numbers i last z c.loop-n.out.items c.put_varint.new.out.items whole c.loop-n-test.true (get_or_default numbers i z (pos 0) c.loop-n-test.true) c.loop-n.invariant put)
