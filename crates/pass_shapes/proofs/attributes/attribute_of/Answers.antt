use Rattle.std.proofs.lemmas.Str.{is_utf8-from_IsUtf8}
use Rattle.pass_shapes.proofs.attributes.attribute_of.Goals as goal

pub returns-clause-fits : goal.returns-clause-fits
returns-clause-fits c = record { name = is_utf8-from_IsUtf8 _ c.as_str.ensures.utf8; value = (c.in_ok-value.ensures {u = tt}).fits }
