use Rattle.std.proofs.Common.{sym, subst}
use Rattle.std.proofs.lemmas.Str.{is_utf8-from_IsUtf8}
use Rattle.mvt_codec.specs.Again.{FitsValue}
use Rattle.pass_shapes.proofs.attributes.value_of.Goals as goal

pub returns-in_ok-copy_of-in-Text-clause-fits : goal.returns-in_ok-copy_of-in-Text-clause-fits
returns-in_ok-copy_of-in-Text-clause-fits c = subst FitsValue (sym c.in-Text.is) (is_utf8-from_IsUtf8 _ c.as_str.ensures.utf8)
