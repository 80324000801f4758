use Rattle.std.proofs.Common.{◌≡◌, ◌-◌, pos, Some, List, length, slice_index_or, option_map, sym, ap, ◌∙◌}
use Rattle.tb_types.specs.declared.element.OsmId.{OsmId}
use Rattle.tb_types.specs.declared.location.World.{World}
use Rattle.ring_assembly.specs.declared.way.WayShape.{WayShape}
use Rattle.pass_shapes.specs.Stores.{locate_in, seen_path}
use Rattle.tile_model.specs.Ways.{all_located}
use Rattle.pass_shapes.proofs.WayWalks.{along_are}
use Rattle.pass_shapes.proofs.path.way_along.Goals as goal

pub returns-in-Some : goal.returns-in-Some
returns-in-Some c =
    let locate = locate_in c.args.locations.now in
    let refs = c.args.refs.now in
    let none : OsmId = record { 0 = pos 0 } in
    let along : List World → WayShape = λ points. record { first = slice_index_or refs 0 none; last = slice_index_or refs (length refs - 1) none; points = points } in
    let found : all_located locate refs ≡ Some c.in-Some.points.items = sym (c.in_ok-points.ensures {u = tt}) ∙ ap seen_path c.in-Some.is in
    ap (λ points. Some (along points)) c.from_vec.ensures ∙ sym (along_are locate refs none c.if-refs-lt2.false ∙ ap (option_map along) found)
