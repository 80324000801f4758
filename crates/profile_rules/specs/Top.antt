-- The top table of a profile.
use Rattle.std.specs.Prelude.{ℕ, ℤ, pos, negsuc, codes, Bool, ◌&&◌, ◌==◌, nat_le, if◌then◌else◌, Option, Result, Ok, Err, List, length, unwrap_or}
use Rattle.toml.specs.Data.{Members}
use Rattle.profile_rules.specs.declared.fault.ProfileWhy.{ProfileWhy}
use Rattle.profile_rules.specs.declared.fault.ProfileWhy.TheVariants as reasons
use Rattle.profile_rules.specs.declared.format.Format.{Format}
use Rattle.profile_rules.specs.declared.format.Format.TheVariants as formats
use Rattle.profile_rules.specs.declared.key.Key.TheVariants as keys
use Rattle.profile_rules.specs.Turns.{◌>>=◌}
use Rattle.profile_rules.specs.Keys.{top_keys, has_only}
use Rattle.profile_rules.specs.Kinds.{text_at, whole_at, tables_at, required}
use Rattle.profile_rules.specs.Ranges.{is_short, zooms_within}

-- a top table whose values are of the right kinds
pub record TopShape : Type 0 where
  pub format : ℤ
  pub name : Option (List ℕ)
  pub first : Option ℤ
  pub last : Option ℤ
  pub layers : List Members
  pub rules : List Members

-- what a top table says
pub record Top : Type 0 where
  pub name : List ℕ
  pub zooms : ℕ × ℕ
  pub layers : List Members
  pub rules : List Members

-- a list of layers isn't empty
abbrev pub some_of : List Members → Result (List Members) ProfileWhy
some_of layers = if length layers == 0 then Err reasons.Shape else Ok layers

abbrev pub top_shape : Members → Result TopShape ProfileWhy
top_shape table =
    whole_at keys.Format table >>= λ format. required format >>= λ format.
    text_at keys.Name table >>= λ name. whole_at keys.Minzoom table >>= λ first. whole_at keys.Maxzoom table >>= λ last.
    tables_at keys.Layer table >>= λ layers. some_of layers >>= λ layers. tables_at keys.Rule table >>= λ rules.
    Ok (record { format = format; name = name; first = first; last = last; layers = layers; rules = rules })

abbrev pub format_of : ℤ → Result Format ProfileWhy
format_of (pos n) = if n == 1 then Ok formats.One else Err reasons.Format
format_of (negsuc n) = Err reasons.Format

-- the last zoom that a format has
abbrev pub last_zoom : Format → ℕ
last_zoom formats.One = 14

unfoldable pub usual_name : List ℕ
usual_name = codes "map"

abbrev pub are_few : List Members → List Members → Bool
are_few layers rules = nat_le (length layers) 64 && nat_le (length rules) 1024

abbrev pub top_within : Format → TopShape → Result Top ProfileWhy
top_within format shape =
    let name = unwrap_or shape.name usual_name in
    if is_short name && are_few shape.layers shape.rules then
    (zooms_within 0 (last_zoom format) shape.first shape.last >>= λ zooms.
    Ok (record { name = name; zooms = zooms; layers = shape.layers; rules = shape.rules }))
    else Err reasons.Range

-- What a top table says, or the first of its reasons in the order unknown, shape, format, range.
abbrev pub top_of : Members → Result Top ProfileWhy
top_of table =
    if has_only top_keys table then
    (top_shape table >>= λ shape. format_of shape.format >>= λ format. top_within format shape)
    else Err reasons.Unknown
