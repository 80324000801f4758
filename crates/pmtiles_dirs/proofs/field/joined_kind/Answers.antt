use Rattle.std.proofs.Common.{◌∙◌, ap, sym}
use Rattle.std.specs.Option.{option_copied}
use Rattle.pmtiles_dirs.proofs.FieldMaps.{with_found, joined-lookup}
use Rattle.pmtiles_dirs.proofs.field.joined_kind.Goals as goal

pub returns-in-Some : goal.returns-in-Some
returns-in-Some c =
    c.both_kinds.ensures ∙ (ap (with_found c.args.kind) (sym (ap option_copied c.in-Some.is) ∙ c.get.ensures.value) ∙ joined-lookup c.args.name.now c.args.kind c.args.found.now.entries)

pub returns-in-None : goal.returns-in-None
returns-in-None c =
    ap (with_found c.args.kind) (sym (ap option_copied c.in-None.is) ∙ c.get.ensures.value) ∙ joined-lookup c.args.name.now c.args.kind c.args.found.now.entries
