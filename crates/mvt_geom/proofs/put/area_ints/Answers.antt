use Rattle.std.proofs.Common.{true, ◌∙◌}
use Rattle.mvt_geom.specs.Geometry.{origin}
use Rattle.mvt_geom.specs.Text.{rings_of}
use Rattle.mvt_geom.proofs.Drawing.{drawn-shape}
use Rattle.mvt_geom.proofs.put.area_ints.Goals as goal

pub returns : goal.returns
returns c =
    c.from_vec.ensures
    ∙ drawn-shape true c.fresh-pen.result c.put_polygons.new.pen (rings_of c.args.polygons.now) origin (c.in_ok-put_polygons.ensures {u = tt}).draws c.fresh-pen.ensures.ints c.fresh-pen.ensures.at
