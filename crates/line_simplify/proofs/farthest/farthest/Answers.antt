use Rattle.std.proofs.Common.{◌*◌, max, Some, map, take, length-take, sym, ap, ◌∙◌, arith}
use Rattle.std.proofs.lemmas.List.{length-map}
use Rattle.line_simplify.specs.Key.{distance_of, key_of}
use Rattle.line_simplify.specs.Rule.{greatest, place_above}
use Rattle.line_simplify.proofs.Greatest.{found_more, most_more, found_same, most_same, found_in, keys_more, keys_length}
use Rattle.line_simplify.proofs.farthest.farthest.Goals as goal
use Rattle.line_simplify.proofs.farthest.farthest.Goals.{then-key-most, else-key-most}

pub loop-index-preserved : goal.loop-index-preserved
loop-index-preserved c =
    let f = key_of c.args.a c.args.b in
    let ps = c.args.between.now in
    let i = c.loop-index.index in
    let key = c.key-key.result in
    let most = c.loop-index.most in
    let keys = map f (take i ps) in
    let limit = c.args.tolerance * c.args.tolerance * max (distance_of c.args.a c.args.b) 1 in
    let more = keys_more f ps i key (omega arith) c.key-key.ensures in
    let place = keys_length f ps i (omega arith) in
    let before = c.loop-index.invariant in
    elim c.if-key-most.branch [
      | then-key-most w ↦
          record {
            found = w.found-is ∙ ap Some place ∙ found_more limit most keys key before.most w.if-key-most.true ∙ sym (ap (place_above limit) more);
            most = w.most-is ∙ most_more limit most keys key before.most w.if-key-most.true ∙ sym (ap (λ ks. max limit (greatest ks)) more);
          }
      | else-key-most w ↦
          record {
            found = w.found-is ∙ before.found ∙ found_same limit most keys key before.most w.if-key-most.false ∙ sym (ap (place_above limit) more);
            most = w.most-is ∙ most_same limit most keys key before.most w.if-key-most.false ∙ sym (ap (λ ks. max limit (greatest ks)) more);
          }
    ]

pub returns-clause-within : goal.returns-clause-within
returns-clause-within c =
    let f = key_of c.args.a c.args.b in
    let ps = take c.loop-index.index c.args.between.now in
    found_in _ _ (map f ps) c.loop-index.found c.loop-index.invariant.found (omega (arith, length-map ps f, length-take c.loop-index.index c.args.between.now))
