use Rattle.std.proofs.Common.{◌≡◌, ◌+◌, ◌≤◌, ◌<◌, ◌∷◌, [], ◌++◌, Some, length, drop, get_or, ap, sym, ◌∙◌, rules, arith}
use Rattle.mvt_geom.specs.Geometry.{moved, points_of, cursor_after}
use Rattle.mvt_geom.specs.Walks.{with_prefix}
use Rattle.mvt_geom.proofs.PointSteps.{points-step, points-end, points-half, cursor_after-push}
use Rattle.mvt_geom.proofs.points.points_of.Goals as goal

pub loop-at-preserved : goal.loop-at-preserved
loop-at-preserved c =
    let prefix = c.loop-at.points.items in
    let more = c.args.path.more.now in
    let p = c.in-Some-moved.p in
    let pushed : c.push-in-loop-at.new.self.items ≡ prefix ++ p ∷ [] = search rules in
    let within : c.loop-at.at + 1 < length more = omega arith in
    let read : Some p ≡ moved c.loop-at.cursor (get_or more c.loop-at.at 0) (get_or more (c.loop-at.at + 1) 0) = search rules in
    record {
      told = ap (λ l. with_prefix l (points_of p (drop (c.loop-at.at + 2) more))) pushed ∙ sym (points-step c.loop-at.cursor p prefix more c.loop-at.at within read) ∙ c.loop-at.invariant.told;
      cursor = sym (ap (cursor_after c.args.from) pushed ∙ cursor_after-push c.args.from prefix p);
      within = omega (arith, within);
    }

pub returns : goal.returns
returns c =
    let more = c.args.path.more.now in
    let end : length more ≤ c.loop-at.at = search rules in
    (sym c.loop-at.invariant.told ∙ points-end c.loop-at.cursor c.loop-at.points.items more c.loop-at.at end ∙ ap Some (sym c.from_vec.ensures), c.loop-at.invariant.cursor ∙ ap (cursor_after c.args.from) (sym c.from_vec.ensures))

pub returns-then-at-path : goal.returns-then-at-path
returns-then-at-path c = sym c.loop-at.invariant.told ∙ points-half c.loop-at.cursor c.loop-at.points.items c.args.path.more.now c.loop-at.at c.if-at-path.true
