-- What a raw header says: the box, if it is valid.
use Rattle.std.specs.Prelude.{ℕ, ℤ, ◌==◌, ◌&&◌, ◌||◌, Bool, true, if◌then◌else◌, nat_abs, nat_le, int_le, codes, Option, None, Some, Result, Ok, Err, List, [], ◌∷◌, length}
use Rattle.std.specs.Str.{bytes_eq}
use Rattle.tb_types.specs.declared.damage.Why.{Why}
use Rattle.tb_types.specs.declared.damage.Why.TheVariants as reasons
use Rattle.tb_types.specs.declared.location.Bounds.{Bounds}
use Rattle.tb_types.specs.Zigzag.{unzigzag_of}
use Rattle.tb_wire.specs.Field.{Entry}
use Rattle.tb_types.specs.Results.{◌>>=◌}
use Rattle.osm_elements.specs.Reasons.{require}
use Rattle.osm_elements.specs.Fields.{fields_of, last_number, bodies, merged_fields}

-- the features that a reader may be require to have
unfoldable pub is_accepted : List ℕ → Bool
is_accepted feature = bytes_eq feature (codes "OsmSchema-V0.6") || bytes_eq feature (codes "DenseNodes")

abbrev pub are_accepted : List (List ℕ) → Bool
are_accepted [] = true
are_accepted (f ∷ features) = is_accepted f && are_accepted features

-- a box is within 180 and 90 degrees, with its left not above its right and its bottom not above its top
abbrev pub is_ordered : Bounds → Bool
is_ordered b = int_le b.left b.right && int_le b.bottom b.top

abbrev pub is_within : ℤ → ℤ → ℕ → Bool
is_within one other limit = nat_le (nat_abs one) limit && nat_le (nat_abs other) limit

abbrev pub is_valid : Bounds → Bool
is_valid b = is_ordered b && (is_within b.left b.right 180000000000 && is_within b.top b.bottom 90000000000)

abbrev pub if_valid : Bounds → Option Bounds
if_valid b = if is_valid b then Some b else None

-- the box of the fields of a HeaderBBox
abbrev pub box_in : List Entry → Result Bounds Why
box_in fields =
    last_number 1 fields >>= λ left. last_number 2 fields >>= λ right. last_number 3 fields >>= λ top. last_number 4 fields >>= λ bottom.
    require left >>= λ left. require right >>= λ right. require top >>= λ top. require bottom >>= λ bottom.
    Ok (record { left = unzigzag_of left; right = unzigzag_of right; top = unzigzag_of top; bottom = unzigzag_of bottom })

-- the box, if one stands
abbrev pub box_if : List (List ℕ) → List Entry → Result (Option Bounds) Why
box_if boxes fields = if length boxes == 0 then Ok None else box_in fields >>= λ b. Ok (if_valid b)

-- A HeaderBlock.
unfoldable pub header_of : List ℕ → Result (Option Bounds) Why
header_of raw =
    fields_of raw >>= λ fields. bodies 1 fields >>= λ boxes. merged_fields 1 fields >>= λ in_box. bodies 4 fields >>= λ features.
    box_if boxes in_box >>= λ box. if are_accepted features then Ok box else Err reasons.Feature
