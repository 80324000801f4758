use Rattle.std.proofs.Common.{◌≡◌, ◌||◌, true, false, min, length, take, drop, ap, ◌∙◌, arith}
use Rattle.osm_elements.proofs.TagLists.{has, first_or_others}
use Rattle.osm_elements.proofs.tag_list.TagList.has.Goals as goal

pub returns-then-has_key : goal.returns-then-has_key
returns-then-has_key c =
    let key = c.args.key.now in
    let tags = c.args.self.now.tags.items in
    let n = c.min-first.result in
    let few : n ≡ min (length tags) 32 = omega (arith, c.min-first.ensures, c.len.ensures, c.args.self.now.tags.ok.0) in
    let found : true ≡ has key (take n tags) = c.if-has_key.ensures {u = tt} ∙ ap (λ xs. has key (take n xs)) c.deref.ensures.value in
    c.if-has_key.true ∙ (ap (λ b. b || has key (drop 32 tags)) found ∙ first_or_others key tags n 32 few)

pub returns-else-has_key : goal.returns-else-has_key
returns-else-has_key c =
    let key = c.args.key.now in
    let tags = c.args.self.now.tags.items in
    let n = c.min-first.result in
    let few : n ≡ min (length tags) 32 = omega (arith, c.min-first.ensures, c.len.ensures, c.args.self.now.tags.ok.0) in
    let none : false ≡ has key (take n tags) = c.if-has_key.ensures {u = tt} ∙ ap (λ xs. has key (take n xs)) c.deref.ensures.value in
    c.contains.ensures ∙ (c.args.self.now.known key ∙ (ap (λ b. b || has key (drop 32 tags)) none ∙ first_or_others key tags n 32 few))
