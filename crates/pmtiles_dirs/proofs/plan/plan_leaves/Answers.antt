use Rattle.std.proofs.Common.{◌≡◌, ◌≤◌, ◌^◌, length, rules, subst, sym}
use Rattle.pmtiles_dirs.specs.declared.entry.Dirs.{Dirs}
use Rattle.pmtiles_dirs.specs.Leaves.{IsPlan, plan_of, plan_in}
use Rattle.pmtiles_dirs.proofs.Least.{plan-least, if_ok}
use Rattle.pmtiles_dirs.proofs.plan.plan_leaves.Goals as goal

pub returns-clause-least : goal.returns-clause-least
returns-clause-least c =
    let few : length c.args.entries.now ≤ 2 ^ 63 = search rules in
    if_ok c.planned.result (λ (dirs : Dirs). plan_in dirs ≡ plan_of c.args.entries.now) (λ (dirs : Dirs). IsPlan c.args.entries.now (plan_in dirs)) (λ dirs same. subst (IsPlan c.args.entries.now) (sym same) (plan-least c.args.entries.now few)) c.planned.ensures
