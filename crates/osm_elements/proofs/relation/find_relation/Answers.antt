use Rattle.std.proofs.Common.{length, map, arith}
use Rattle.osm_elements.specs.Sums.{seen_sums}
use Rattle.osm_elements.proofs.Prefixes.{handed_on}
use Rattle.osm_elements.proofs.Numbering.{relation_refused}
use Rattle.osm_elements.specs.Words.{seen_words}
use Rattle.osm_elements.proofs.relation.find_relation.Goals as goal

pub returns-in_err-find_tags : goal.returns-in_err-find_tags
returns-in_err-find_tags c =
    let numbers = c.read_relation.new.numbers in
    let ids = c.read_relation.new.ids in
    let stop = c.in_err-find_tags.ensures {u = tt} in
    handed_on _ c.from_residual-in_err-find_tags.result c.in_err-find_tags.field-0.0 _ _ c.from_residual-in_err-find_tags.ensures.1 (rw (c.deref.ensures.value, c.deref-2.ensures.value) at stop)
    (λ why refused. relation_refused (seen_words c.args.strings.now) c.args.body.now (c.in_ok-id.id, numbers.keys.items, numbers.values.items, length ids.items.items, seen_sums ids, numbers.kinds.items) c.in_ok-id-2.id why
    (c.in_ok-id.ensures {u = tt}) (c.in_ok-id-2.ensures {u = tt}) (omega (arith, c.if-len.false, c.len.ensures, c.len-2.ensures, ids.items.ok.0, numbers.kinds.ok.0)) refused)
