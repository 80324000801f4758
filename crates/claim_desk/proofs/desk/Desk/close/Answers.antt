use Rattle.std.proofs.Common.{rules, ◌≡◌, min, subst, ap, ◌∙◌, arith}
use Rattle.std.specs.Prelude.{if◌then◌else◌, ◌==◌}
use Rattle.tb_types.specs.Bags.{IsSameBag, below, times}
use Rattle.claim_desk.specs.Facts.{SeatFacts, IsWhole, IsAtMostOnce}
use Rattle.claim_desk.proofs.Keeps.{looks}
use Rattle.claim_desk.proofs.desk.Desk.close.Goals as goal

pub load-requires : goal.load-requires
load-requires c = (search rules, search rules, looks _ _ _ _ (search rules))

pub returns-clause-once : goal.returns-clause-once
returns-clause-once c =
    let told = subst (λ (f : SeatFacts). IsAtMostOnce (min c.load.result f.limit) f.drawn) c.seat.view_is c.load.ensures.2.1.once in
    subst (λ n. IsAtMostOnce (min c.load.result n) c.args.seat.now.drawn) c.requires.desk.1 told

pub returns-clause-drawn : goal.returns-clause-drawn
returns-clause-drawn c whole =
    let told = subst (λ (f : SeatFacts). IsWhole f → IsSameBag f.drawn (below (min c.load.result f.limit))) c.seat.view_is c.load.ensures.2.1.whole in
    subst (λ n. IsSameBag c.args.seat.now.drawn (below (min c.load.result n))) c.requires.desk.1 (told whole)

pub returns-clause-whole : goal.returns-clause-whole
returns-clause-whole c whole ended x =
    let most : min c.load.result c.args.self.limit ≡ c.args.self.limit = omega arith in
    returns-clause-drawn c whole (λ y. if y == x then 1 else 0) ∙ ap (λ n. times x (below n)) most
