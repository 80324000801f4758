use Rattle.std.proofs.Common.{◌≡◌, length, sym, ap, ◌∙◌, arith, le_refl}
use Rattle.std.proofs.lemmas.List.{get_or_read, take_all}
use Rattle.std.proofs.lemmas.List.Elements.{All-more, All-nil, All-same}
use Rattle.sorted_lists.proofs.Fronts.{front-at}
use Rattle.sorted_lists.proofs.group.group_len.Goals as goal

pub loop-len-init : goal.loop-len-init
loop-len-init g c =
    let class = g.T.Classed.class_of in
    let xs = c.args.items.now in
    let first = c.index-items-0.result in
    All-more (λ x. class x ≡ c.class-class.result) xs 0 first c.requires (All-nil (λ x. class x ≡ c.class-class.result)) (sym (c.class-class.ensures ∙ ap class c.index-items-0.is))

pub loop-len-preserved : goal.loop-len-preserved
loop-len-preserved g c =
    let class = g.T.Classed.class_of in
    let xs = c.args.items.now in
    let next = c.index-items-len.result in
    All-more (λ x. class x ≡ c.class-class.result) xs c.loop-len.len next c.loop-len-test.true c.loop-len.invariant
    (ap class (sym c.index-items-len.is) ∙ sym c.class.ensures ∙ c.if-class.false)

pub returns-then-class-clause-group : goal.returns-then-class-clause-group
returns-then-class-clause-group g c =
    let class = g.T.Classed.class_of in
    let xs = c.args.items.now in
    let next = c.index-items-len.result in
    front-at class c.class-class.result xs c.loop-len.len c.loop-len.auto.len (omega (arith, c.loop-len-test.true)) c.loop-len.invariant
    (λ lt d e. c.if-class.true (c.class.ensures ∙ ap class (get_or_read xs c.loop-len.len next lt c.index-items-len.is d) ∙ e))

pub returns-clause-group : goal.returns-clause-group
returns-clause-group g c =
    let class = g.T.Classed.class_of in
    let xs = c.args.items.now in
    let whole = take_all (length xs) xs (le_refl (length xs)) ∙ sym (take_all c.loop-len.len xs c.loop-len-test.false) in
    front-at class c.class-class.result xs (length xs) c.requires (le_refl (length xs)) (All-same (λ x. class x ≡ c.class-class.result) _ _ whole c.loop-len.invariant)
    (λ lt d e. omega (arith, lt))
