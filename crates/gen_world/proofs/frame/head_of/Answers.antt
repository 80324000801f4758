use Rattle.std.proofs.Common.{◌≡◌, ◌≤◌, ◌++◌, length, sym, subst, ap, ◌∙◌}
use Rattle.tb_wire.specs.Message.{len_text}
use Rattle.gen_world.specs.Blocks.{number_text}
use Rattle.gen_world.specs.Frames.{head_text}
use Rattle.gen_world.proofs.Heads.{head_short}
use Rattle.gen_world.proofs.frame.head_of.Goals as goal

pub returns-clause-len : goal.returns-clause-len
unfolding head_text
returns-clause-len c =
    let put = (c.in_ok-put_len.ensures {u = tt}).ok in
    let more = c.in_ok-put_number.ensures {u = tt} in
    let total : c.put_number.new.out.items ≡ head_text c.args.kind.now c.args.size =
    more ∙ ap (λ l. l ++ number_text 3 c.args.size) (put ∙ ap (λ l. l ++ len_text 1 c.args.kind.now) c.new-head.ensures.items) in
    subst (λ xs. length xs ≤ 64) (sym total) (head_short c.args.kind.now c.args.size c.requires)
