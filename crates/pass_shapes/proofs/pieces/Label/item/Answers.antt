use Rattle.std.proofs.Common.{rules, length, subst, sym}
use Rattle.std.proofs.lemmas.List.Elements.{recursion_from_All}
use Rattle.mvt_codec.specs.Again.{FitsAttribute}
use Rattle.profile_rules.specs.Fields.{layers_of}
use Rattle.tile_model.specs.Items.{IsSoundItem}
use Rattle.pass_shapes.proofs.Drawable.{drawable}
use Rattle.pass_shapes.proofs.SoundItems.{piece-sound}
use Rattle.pass_shapes.proofs.pieces.Label.item.Goals as goal

pub put_geometry-requires : goal.put_geometry-requires
put_geometry-requires c = drawable c.args.piece.now c.requires.clean c.requires.few

pub returns-clause-sound : goal.returns-clause-sound
returns-clause-sound c =
    let layers = length (layers_of c.args.profile.now) in
    let texts = recursion_from_All FitsAttribute c.args.self.now.attributes (search rules) in
    let sound = piece-sound layers c.args.self.now c.args.tile c.args.piece.now c.requires.label c.requires.zoom c.requires.x c.requires.y c.requires.clean c.requires.few texts in
    subst (IsSoundItem layers) (sym (search rules)) sound
