use Rattle.std.proofs.Common.{◌≡◌, get_or, sym, rules}
use Rattle.gen_world.proofs.Texts.{found_there}
use Rattle.gen_world.proofs.strings.has_word.Goals as goal

pub returns-then-is_same : goal.returns-then-is_same
returns-then-is_same c =
    let words = c.args.words.now in
    let i = c.loop-own.own-index in
    let own = c.own-item.result in
    let at : get_or words i own ≡ own = search rules in
    sym (found_there words c.args.word own i c.loop-own-test.true at (sym (c.if-is_same.ensures {u = tt})))
