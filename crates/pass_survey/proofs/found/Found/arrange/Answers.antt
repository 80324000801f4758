use Rattle.std.proofs.Common.{rules, refl}
use Rattle.std.proofs.lemmas.List.Sorted.{answers_always}
use Rattle.std.proofs.lemmas.Cmp.{nat_cmp_total}
use Rattle.tb_types.specs.Orders.{place_order}
use Rattle.pbf_blobs.specs.declared.block.BlockAt.{BlockAt}
use Rattle.member_sets.specs.declared.kept.KeptRelation.{KeptRelation}
use Rattle.sorted_lists.specs.Sorting.{by_key}
use Rattle.sorted_lists.proofs.Proved as lists
use Rattle.tb_types.specs.declared.element.Place.{Place}
use Rattle.pass_survey.specs.declared.found.Found.{Found}
use Rattle.pass_survey.proofs.Rising.{place_total}
use Rattle.pass_survey.proofs.Arranging.{Sorted, found-arranged, ready-arranged}
use Rattle.pass_survey.proofs.found.Found.arrange.Goals as goal

pub returns-clause-order : goal.returns-clause-order
returns-clause-order c =
    let done : Sorted c.args.self.now (record { damage = c.args.self.now.damage; header = c.args.self.now.header; kept = c.sort_unstable_by.new.self; nodes = c.sort_unstable_by_key.new.self; ways = c.sort_unstable_by_key-2.new.self }) = record {
      damage = refl;
      header = refl;
      kept = c.sort_unstable_by.ensures.permutation;
      kept_up = c.sort_unstable_by.ensures.sorted (by_key (λ (k : KeptRelation). k.place) place_order) ((lists.keys KeptRelation Place).order (λ (k : KeptRelation). k.place) place_order place_total) (answers_always _ _ _ (λ f a r h called. search rules));
      nodes = c.sort_unstable_by_key.ensures.permutation;
      nodes_up = c.sort_unstable_by_key.ensures.sorted (λ (b : BlockAt). b.no) (answers_always _ _ _ (λ f a r h called. search rules));
      ways = c.sort_unstable_by_key-2.ensures.permutation;
      ways_up = c.sort_unstable_by_key-2.ensures.sorted (λ (b : BlockAt). b.no) (answers_always _ _ _ (λ f a r h called. search rules));
    } in
    λ parts taken ordered f m up. found-arranged parts c.args.self.now _ taken ordered done f m up

pub returns-clause-ready : goal.returns-clause-ready
returns-clause-ready c =
    let done : Sorted c.args.self.now (record { damage = c.args.self.now.damage; header = c.args.self.now.header; kept = c.sort_unstable_by.new.self; nodes = c.sort_unstable_by_key.new.self; ways = c.sort_unstable_by_key-2.new.self }) = record {
      damage = refl;
      header = refl;
      kept = c.sort_unstable_by.ensures.permutation;
      kept_up = c.sort_unstable_by.ensures.sorted (by_key (λ (k : KeptRelation). k.place) place_order) ((lists.keys KeptRelation Place).order (λ (k : KeptRelation). k.place) place_order place_total) (answers_always _ _ _ (λ f a r h called. search rules));
      nodes = c.sort_unstable_by_key.ensures.permutation;
      nodes_up = c.sort_unstable_by_key.ensures.sorted (λ (b : BlockAt). b.no) (answers_always _ _ _ (λ f a r h called. search rules));
      ways = c.sort_unstable_by_key-2.ensures.permutation;
      ways_up = c.sort_unstable_by_key-2.ensures.sorted (λ (b : BlockAt). b.no) (answers_always _ _ _ (λ f a r h called. search rules));
    } in
    λ parts h. ready-arranged parts c.args.self.now _ done h
