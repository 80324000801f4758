use Rattle.std.proofs.Common.{◌<◌, length, ◌∙◌, arith}
use Rattle.std.proofs.lemmas.List.{length-set}
use Rattle.profile_rules.proofs.Placing.{next_placed}
use Rattle.profile_rules.proofs.by_key.by_key.Goals as goal

pub loop-i-preserved : goal.loop-i-preserved
loop-i-preserved c =
    let l = c.loop-i in
    let inside : c.place_of_rule-place.result < length l.places.items = omega (arith, c.place_of_rule-place.ensures.within, l.invariant.count) in
    record {
      few = l.invariant.few;
      count = length-set l.places.items c.place_of_rule-place.result _ ∙ l.invariant.count;
      placed = next_placed _ c.args.rules.now l.i c.index-rules-i.result l.places.items c.place_of_rule-place.result c.index_mut.result.now c.push.new.self l.invariant.placed c.loop-i-test.true c.index-rules-i.is
          c.place_of_rule-place.ensures.place inside c.index_mut.ensures.value c.in_ok-push.ensures.ok;
    }
