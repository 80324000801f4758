use Rattle.std.proofs.Common.{◌≡◌, ◌^◌, ◌<◌, [], ◌∷◌, arith, rules}
use Rattle.feature_runs.proofs.Points.{point_is}
use Rattle.feature_runs.proofs.tests.point.Goals as goal

pub returns : goal.returns
returns c =
    let first : c.push.new.self ≡ 9 ∷ [] = search rules in
    let second : c.push-2.new.self ≡ 9 ∷ 0 ∷ [] = search rules in
    let third : c.push-3.new.self ≡ 9 ∷ 0 ∷ 0 ∷ [] = search rules in
    let none : c.new.result ≡ [] = search rules in
    let small : c.from.result < 2 ^ 32 = search rules in
    point_is c.from.result _ _ _ c.push-3.new.self c.new.result small third none
