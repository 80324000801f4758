-- The layers of a profile.
use Rattle.std.specs.Prelude.{ℕ, ℤ, Bool, ◌&&◌, ◌==◌, not, if◌then◌else◌, Option, None, Some, Result, Ok, Err, List, length, position}
use Rattle.std.specs.List.{list_any}
use Rattle.std.specs.Str.{bytes_eq}
use Rattle.toml.specs.Data.{Members}
use Rattle.profile_rules.specs.declared.fault.ProfileWhy.{ProfileWhy}
use Rattle.profile_rules.specs.declared.fault.ProfileWhy.TheVariants as reasons
use Rattle.profile_rules.specs.declared.key.Key.TheVariants as keys
use Rattle.profile_rules.specs.declared.parts.LayerInfo.{LayerInfo}
use Rattle.profile_rules.specs.Turns.{◌>>=◌}
use Rattle.profile_rules.specs.Keys.{layer_keys, has_only}
use Rattle.profile_rules.specs.Kinds.{text_at, whole_at, required}
use Rattle.profile_rules.specs.Ranges.{is_short, within_or}

-- a layer whose values are of the right kinds
pub record LayerShape : Type 0 where
  pub id : List ℕ
  pub buffer : Option ℤ
  pub tolerance : Option ℤ

abbrev pub layer_shape : Members → Result LayerShape ProfileWhy
layer_shape table =
    text_at keys.Id table >>= λ id. required id >>= λ id. whole_at keys.Buffer table >>= λ buffer. whole_at keys.Tolerance table >>= λ tolerance.
    Ok (record { id = id; buffer = buffer; tolerance = tolerance })

abbrev pub layer_within : LayerShape → Result LayerInfo ProfileWhy
layer_within shape =
    if is_short shape.id then
    (within_or 64 0 256 shape.buffer >>= λ buffer. within_or 1 0 64 shape.tolerance >>= λ tolerance.
    Ok (record { id = shape.id; buffer = buffer; tolerance = tolerance }))
    else Err reasons.Range

abbrev pub has_id : List ℕ → LayerInfo → Bool
has_id id layer = bytes_eq layer.id id

-- an id that isn't empty and is none of the layers before it
abbrev pub is_new : List LayerInfo → List ℕ → Bool
is_new before id = not (length id == 0) && not (list_any (has_id id) before)

abbrev pub if_new : List LayerInfo → LayerInfo → Result LayerInfo ProfileWhy
if_new before layer = if is_new before layer.id then Ok layer else Err reasons.Layer

-- A layer behind those before it, or the first of its reasons in the order unknown, shape, range, layer.
abbrev pub layer_of : List LayerInfo → Members → Result LayerInfo ProfileWhy
layer_of before table =
    if has_only layer_keys table then (layer_shape table >>= λ shape. layer_within shape >>= if_new before) else Err reasons.Unknown

abbrev pub if_found : Option ℕ → Result ℕ ProfileWhy
if_found None = Err reasons.Layer
if_found (Some number) = Ok number

-- the number of the layer of this id
abbrev pub layer_named : List LayerInfo → List ℕ → Result ℕ ProfileWhy
layer_named layers id = if_found (position (has_id id) layers)
