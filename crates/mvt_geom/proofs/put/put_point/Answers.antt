use Rattle.std.proofs.Common.{FitsSigned, w32, rules}
use Rattle.mvt_geom.proofs.Drawing.{point-put, difference-read}
use Rattle.mvt_geom.proofs.put.put_point.Goals as goal

pub returns-clause-ints : goal.returns-clause-ints
returns-clause-ints c =
    let p = c.args.p in
    let from = c.args.pen.now.at in
    let px : FitsSigned w32 c.args.p.x = search rules in
    let py : FitsSigned w32 c.args.p.y = search rules in
    let fx : FitsSigned w32 c.args.pen.now.at.x = search rules in
    let fy : FitsSigned w32 c.args.pen.now.at.y = search rules in
    point-put _ c.push.new.self.items _ c.parameter.result c.parameter-2.result from p (c.in_ok-push.ensures {u = tt}).items (c.in_ok-push-2.ensures {u = tt}).items
    (difference-read c.parameter.result p.x from.x px fx c.parameter.ensures) (difference-read c.parameter-2.result p.y from.y py fy c.parameter-2.ensures)
