use Rattle.std.proofs.Common.{rules, ◌^◌, ◌<◌, length, subst, sym}
use Rattle.std.proofs.lemmas.List.Elements.{recursion_from_All}
use Rattle.mvt_codec.specs.Again.{FitsAttribute}
use Rattle.profile_rules.specs.Fields.{layers_of}
use Rattle.tile_model.specs.Items.{IsSoundItem}
use Rattle.tb_types.specs.declared.element.Place.{Place}
use Rattle.tile_model.specs.Points.{node_origin}
use Rattle.pass_shapes.proofs.SoundItems.{label-sound, point-sound}
use Rattle.pass_shapes.proofs.points.item_in.Goals as goal

pub returns-clause-sound : goal.returns-clause-sound
returns-clause-sound c =
    let parts = c.args.profile.now in
    let block : c.args.block < 2 ^ 32 = search rules in
    let read : c.place_of.result.index < 2 ^ 32 = search rules in
    let index : c.args.node.now.index < 2 ^ 32 = subst (λ (p : Place). p.index < 2 ^ 32) c.place_of.ensures read in
    let label = label-sound parts (node_origin c.args.block c.args.node.now) c.args.spec.now c.requires.sound c.requires.spec block index in
    let texts = recursion_from_All FitsAttribute c.args.spec.now.attributes (search rules) in
    let sound = point-sound (length (layers_of parts)) c.args.block c.args.node.now c.args.spec.now c.args.p c.args.tile label c.requires.zoom c.requires.grid c.requires.column c.requires.row c.requires.low texts in
    subst (IsSoundItem (length (layers_of parts))) (sym (search rules)) sound
