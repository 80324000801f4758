use Rattle.std.proofs.Common.{rules, ◌≡◌, ◌+◌, ◌++◌, ◌∷◌, [], sym, subst, take, get_or}
use Rattle.std.proofs.lemmas.List.{take_more}
use Rattle.work_topology.specs.declared.ends.Done.{Done}
use Rattle.work_topology.specs.Blocks.{IsPlaceOf}
use Rattle.work_topology.specs.Sums.{ArePlaces}
use Rattle.work_topology.proofs.Steps.{paired_push}
use Rattle.work_topology.proofs.lists.places_of.Goals as goal

pub loop-entry-preserved : goal.loop-entry-preserved
loop-entry-preserved c =
    let done = c.args.done.now in
    let k = c.loop-entry.entry-index in
    let one : Done = get_or done k (record { lane = 0; block = 0; granted = 0 }) in
    let placed : IsPlaceOf c.args.blocks.now one.block c.place_of.result = search rules in
    let more : take (k + 1) done ≡ take k done ++ one ∷ [] = take_more done k (record { lane = 0; block = 0; granted = 0 }) c.loop-entry-test.true in
    let pushed : c.push.new.self.items ≡ c.loop-entry.places.items ++ c.place_of.result ∷ [] = search rules in
    subst (λ (t : _ × _). ArePlaces c.args.blocks.now t.0 t.1) (λ i. (sym more i, sym pushed i))
    (paired_push (λ d place. IsPlaceOf c.args.blocks.now d.block place) (take k done) c.loop-entry.places.items one c.place_of.result c.loop-entry.invariant placed)
