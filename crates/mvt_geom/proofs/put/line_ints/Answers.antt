use Rattle.std.proofs.Common.{false, ◌∙◌}
use Rattle.mvt_geom.specs.Geometry.{origin}
use Rattle.mvt_geom.proofs.Drawing.{drawn-shape}
use Rattle.mvt_geom.proofs.put.line_ints.Goals as goal

pub returns : goal.returns
returns c =
    c.from_vec.ensures ∙ drawn-shape false c.fresh-pen.result c.put_paths.new.pen c.args.paths.now origin (c.in_ok-put_paths.ensures {u = tt}).draws c.fresh-pen.ensures.ints c.fresh-pen.ensures.at
