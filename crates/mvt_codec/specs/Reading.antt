-- What the code answers, and where its walks have come to.
use Rattle.std.specs.Prelude.{◌≡◌, ℕ, true, false, Option, None, Some, Result, Ok, Err, List, ◌++◌, map}
use Rattle.mvt_geom.specs.Commands.{has_form}
use Rattle.mvt_codec.specs.declared.fault.Fault.{Fault}
use Rattle.mvt_codec.specs.declared.fault.Fault.TheVariants as faults
use Rattle.mvt_codec.specs.declared.fault.TileErr.{TileErr}
use Rattle.mvt_codec.specs.declared.fault.TileErr.TheVariants as errors
use Rattle.mvt_codec.specs.declared.row.LayerRows.{LayerRows}
use Rattle.mvt_codec.specs.declared.read_feature.Feature as code
use Rattle.mvt_codec.specs.declared.read_feature.Numbers as code_numbers
use Rattle.mvt_codec.specs.declared.read_layer.Layer as layers
use Rattle.mvt_codec.specs.declared.read_value.ReadValue as values
use Rattle.mvt_codec.specs.declared.read_value.ReadValue.TheVariants as variants
use Rattle.tb_types.specs.declared.attribute.AttrValue.{AttrValue}
use Rattle.tb_types.specs.declared.attribute.AttrValue.TheVariants.{Text, Whole, Truth, Bits32, Bits64}
use Rattle.mvt_codec.specs.Messages.{low_32}
use Rattle.mvt_codec.specs.Grammar.{Feature, Layer}

-- what is bad is nothing by the definition; want of memory says nothing
abbrev pub IsFault : {A : Type 0} → Fault → Option A → Type 0
IsFault faults.Bad found = found ≡ None
IsFault faults.Memory found = Unit {0}

-- The code gives what the definition does. It may want memory.
abbrev pub Gives : {X A : Type 0} → (X → A) → Result X Fault → Option A → Type 0
Gives view (Ok x) found = found ≡ Some (view x)
Gives view (Err e) found = IsFault e found

-- the layers of a tile, or the number of the first bad one
abbrev pub IsTile : Result (List LayerRows) TileErr → Result (List LayerRows) ℕ → Type 0
IsTile (Ok layers) found = found ≡ Ok layers
IsTile (Err (errors.Bad at)) found = found ≡ Err at
IsTile (Err errors.Memory) found = Unit {0}

-- numbers that were read, and the low 32 bits of those that are left
abbrev pub with_numbers : List ℕ → Option (List ℕ) → Option (List ℕ)
with_numbers prefix None = None
with_numbers prefix (Some numbers) = Some (prefix ++ map low_32 numbers)

abbrev pub with_list : {A : Type 0} → List A → Option (List A) → Option (List A)
with_list prefix None = None
with_list prefix (Some rest) = Some (prefix ++ rest)

-- a type whose form the integers have
abbrev pub IsForm : ℕ → List ℕ → Option ℕ → Type 0
IsForm form ints None = has_form form ints ≡ false
IsForm form ints (Some n) = (n ≡ form) × (has_form form ints ≡ true)

-- what a feature's message says, with the numbers that stand beside it
abbrev pub seen_feature : code.Feature → code_numbers.Numbers → Feature
seen_feature f numbers = record { id = f.id; tags = numbers.tags.items; form = f.form; ints = numbers.ints.items }

-- a value whose text lies in the tile
abbrev pub seen_value : values.ReadValue → AttrValue
seen_value (variants.Text text) = Text text.now
seen_value (variants.Whole z) = Whole z
seen_value (variants.Truth b) = Truth b
seen_value (variants.Bits32 n) = Bits32 n
seen_value (variants.Bits64 n) = Bits64 n

abbrev pub seen_some : Option values.ReadValue → Option AttrValue
seen_some None = None
seen_some (Some v) = Some (seen_value v)

abbrev pub seen_name : {N : Type 0} → (N → List ℕ) → Option N → Option (List ℕ)
seen_name see None = None
seen_name see (Some name) = Some (see name)

abbrev pub seen_layer : layers.Layer → Layer
seen_layer l = record { name = seen_name (λ n. n.now) l.name; features = map (λ b. b.now) l.features.items; keys = map (λ k. k.now) l.keys.items; values = map seen_value l.values.items; extent = l.extent; version = l.version }
