use Rattle.std.proofs.Common.{◌∙◌, ap}
use Rattle.pmtiles_dirs.specs.Meta.{put_field}
use Rattle.pmtiles_dirs.specs.SeenFields.{seen_fields}
use Rattle.pmtiles_dirs.proofs.FieldMaps.{put-insert}
use Rattle.pmtiles_dirs.proofs.field.add_field.Goals as goal

pub returns : goal.returns
returns c =
    let old = c.args.found.now.entries in
    ap seen_fields c.in_ok-insert.ensures.entries ∙ (put-insert c.args.name c.joined_kind-kind.result old ∙ ap (λ k. put_field c.args.name.now k (seen_fields old)) c.joined_kind-kind.ensures)
