-- The parts of a profile that is read are sound.
use Rattle.std.proofs.Common.{◌≡◌, ℕ, ℤ, pos, negsuc, ◌+◌, ◌<◌, ◌≤◌, ◌==◌, ◌&&◌, not, nat_le, nat_lt, Bool, true, false, cond, IfOk, IfSome, Option, None, Some, List, [], ◌∷◌, ◌++◌, length, map, unwrap_or, refl, sym, arith}
use Rattle.std.specs.Prelude.{All}
use Rattle.std.specs.List.{IsDistinct, AllByRecursion, list_any, position_or_len}
use Rattle.std.specs.Str.{bytes_eq}
use Rattle.std.proofs.lemmas.Bool.{and_parts, or_parts, leb-true, ltb-true, eqb-false}
use Rattle.std.proofs.lemmas.List.Elements.{All-nil, All-push}
use Rattle.toml.specs.Data.{Data, Members, as_str, as_integer, as_bool}
use Rattle.profile_rules.specs.declared.fault.ProfileWhy.TheVariants as reasons
use Rattle.profile_rules.specs.declared.key.Key.TheVariants as keys
use Rattle.profile_rules.specs.declared.parts.LayerInfo.{LayerInfo}
use Rattle.profile_rules.specs.declared.attribute.Constant.{Constant}
use Rattle.profile_rules.specs.declared.attribute.Origin.{Origin}
use Rattle.profile_rules.specs.declared.attribute.Origin.TheVariants as origins
use Rattle.profile_rules.specs.declared.attribute.Attribute.{Attribute}
use Rattle.profile_rules.specs.Keys.{has_only, layer_keys, rule_keys, attribute_keys, value_at}
use Rattle.profile_rules.specs.Kinds.{text_or, if_there}
use Rattle.profile_rules.specs.Ranges.{is_short, within, within_or, zooms_within, fits_16, fits_64, order_or_0}
use Rattle.profile_rules.specs.Layers.{LayerShape, layer_shape, layer_within, layer_of, is_new, if_new, has_id, if_found, layer_named}
use Rattle.profile_rules.specs.Attributes.{constant_from, constant_of, form_or_text, named, attribute_from, attribute_of, has_name, next_attribute, attributes_of}
use Rattle.profile_rules.specs.Conditions.{conditions_of}
use Rattle.profile_rules.specs.Rules.{RuleShape, rule_shape, rule_within, rule_of, are_texts_short, are_lists_short}
use Rattle.profile_rules.specs.Sound.{IsSoundLayer, IsSoundConstant, IsSoundOrigin, IsSoundAttribute, IsSoundRule}
use Rattle.profile_rules.proofs.Reading.{IfOk-either, IfOk-next, IfOk-then, IfOk-weaker, IfOk-both, in_turn-keeps, in_turn-length}

within-bounds : (low high : ℕ) (n : ℤ) → IfOk (within low high n) (λ x. (low ≤ x) × (x ≤ high))
within-bounds low high (pos n) =
    IfOk-either (λ x. (low ≤ x) × (x ≤ high)) (nat_le low n && nat_le n high) _ _
    (λ e. let both = and_parts (nat_le low n) (nat_le n high) e in (leb-true low n both.0, leb-true n high both.1)) (λ _. tt)
within-bounds low high (negsuc n) = tt

within_or-bounds : (usual low high : ℕ) (n : Option ℤ) → low ≤ usual → usual ≤ high → IfOk (within_or usual low high n) (λ x. (low ≤ x) × (x ≤ high))
within_or-bounds usual low high None h k = (h, k)
within_or-bounds usual low high (Some n) h k = within-bounds low high n

-- zooms that are within two others
abbrev pub AreWithin : ℕ → ℕ → ℕ × ℕ → Type 0
AreWithin low high zooms = (low ≤ zooms.0) × (zooms.0 ≤ zooms.1) × (zooms.1 ≤ high)

pub zooms_within-bounds : (low high : ℕ) (first last : Option ℤ) → low ≤ high → IfOk (zooms_within low high first last) (AreWithin low high)
zooms_within-bounds low high first last h =
    IfOk-next (λ x. (low ≤ x) × (x ≤ high)) (AreWithin low high) (within_or low low high first) _ (within_or-bounds low low high first (omega arith) h)
    (λ a p. IfOk-next (λ x. (low ≤ x) × (x ≤ high)) (AreWithin low high) (within_or high low high last) _ (within_or-bounds high low high last h (omega arith))
    (λ b q. IfOk-either (AreWithin low high) (nat_le a b) _ _ (λ e. (p.0, leb-true a b e, q.1)) (λ _. tt)))

order-bounds : (n : Option ℤ) → IfOk (order_or_0 n) (λ n. fits_16 n ≡ true)
order-bounds None = refl
order-bounds (Some n) = IfOk-either (λ n. fits_16 n ≡ true) (fits_16 n) _ _ (λ e. e) (λ _. tt)

-- a layer but for its id, which may be empty
record IsWithin (layer : LayerInfo) : Type 0 where
  short : length layer.id ≤ 1024
  buffer : layer.buffer ≤ 256
  tolerance : layer.tolerance ≤ 64

layer_within-sound : (shape : LayerShape) → IfOk (layer_within shape) IsWithin
layer_within-sound shape =
    IfOk-either IsWithin (is_short shape.id) _ _
    (λ e. IfOk-next (λ x. (0 ≤ x) × (x ≤ 256)) IsWithin (within_or 64 0 256 shape.buffer) _ (within_or-bounds 64 0 256 shape.buffer (omega arith) (omega arith))
    (λ buffer p. IfOk-next (λ x. (0 ≤ x) × (x ≤ 64)) IsWithin (within_or 1 0 64 shape.tolerance) _ (within_or-bounds 1 0 64 shape.tolerance (omega arith) (omega arith))
    (λ tolerance q. record { short = leb-true (length shape.id) 1024 e; buffer = p.1; tolerance = q.1 })))
    (λ _. tt)

-- a sound layer, whose id is new
abbrev pub IsNext : List LayerInfo → LayerInfo → Type 0
IsNext before layer = IsSoundLayer layer × (list_any (has_id layer.id) before ≡ false)

not_not : (b : Bool) → not b ≡ true → b ≡ false
not_not true e = sym e
not_not false e = refl

nonzero : (n : ℕ) → (n == 0) ≡ false → 0 < n
nonzero n e = let ne = eqb-false n 0 e in omega arith

if_new-sound : (before : List LayerInfo) (layer : LayerInfo) → IsWithin layer → IfOk (if_new before layer) (IsNext before)
if_new-sound before layer h =
    IfOk-either (IsNext before) (is_new before layer.id) _ _
    (λ e.
    let both = and_parts (not (length layer.id == 0)) (not (list_any (has_id layer.id) before)) e in
    (record { named = nonzero (length layer.id) (not_not _ both.0); short = h.short; buffer = h.buffer; tolerance = h.tolerance }, not_not _ both.1))
    (λ _. tt)

pub layer_of-sound : (before : List LayerInfo) (table : Members) → IfOk (layer_of before table) (IsNext before)
layer_of-sound before table =
    IfOk-either (IsNext before) (has_only layer_keys table) _ _
    (λ _. IfOk-then (IsNext before) (layer_shape table) _
    (λ shape. IfOk-next IsWithin (IsNext before) (layer_within shape) _ (layer_within-sound shape) (λ layer h. if_new-sound before layer h)))
    (λ _. tt)

all_push : {X : Type 0} (P : X → Type 0) (xs : List X) (y : X) → AllByRecursion P xs → P y → AllByRecursion P (xs ++ y ∷ [])
all_push P [] y h p = (p, tt)
all_push P (x ∷ xs) y h p = (h.0, all_push P xs y h.1 p)

abbrev pub ids : List LayerInfo → List (List ℕ)
ids layers = map (λ layer. layer.id) layers

ids_push : (layers : List LayerInfo) (layer : LayerInfo) (P : List ℕ → Type 0) → AllByRecursion P (ids layers) → P layer.id → AllByRecursion P (ids (layers ++ layer ∷ []))
ids_push [] layer P h p = (p, tt)
ids_push (x ∷ layers) layer P h p = (h.0, ids_push layers layer P h.1 p)

pub distinct_push : (layers : List LayerInfo) (layer : LayerInfo) → IsDistinct bytes_eq (ids layers) → list_any (has_id layer.id) layers ≡ false → IsDistinct bytes_eq (ids (layers ++ layer ∷ []))
unfolding IsDistinct
distinct_push [] layer d e = (tt, tt)
distinct_push (x ∷ layers) layer d e =
    let both = or_parts (has_id layer.id x) (list_any (has_id layer.id) layers) e in
    (ids_push layers layer (λ y. bytes_eq x.id y ≡ false) d.0 both.0, distinct_push layers layer d.1 both.1)

pub no_ids : IsDistinct bytes_eq []
unfolding IsDistinct
no_ids = tt

constant_from-sound : (s : Option (List ℕ)) (n : Option ℤ) (b : Option Bool) → IfOk (constant_from s n b) IsSoundConstant
constant_from-sound (Some text) n b = tt
constant_from-sound None (Some n) b = IfOk-either IsSoundConstant (fits_64 n) _ _ (λ e. e) (λ _. tt)
constant_from-sound None None (Some b) = tt
constant_from-sound None None None = tt

constant_at-sound : (d : Option Data) → IfOk (if_there constant_of d) (λ o. IfSome o IsSoundConstant)
constant_at-sound None = tt
constant_at-sound (Some d) = IfOk-next IsSoundConstant (λ o. IfSome o IsSoundConstant) (constant_of d) _ (constant_from-sound (as_str d) (as_integer d) (as_bool d)) (λ x h. h)

named-sound : (name : List ℕ) (origin : Origin) → IsSoundOrigin origin → IfOk (named name origin) IsSoundAttribute
named-sound name origin h = IfOk-either IsSoundAttribute (length name == 0) _ _ (λ _. tt) (λ e. record { named = nonzero (length name) e; origin = h })

attribute_from-sound : (key name form : Option (List ℕ)) (value : Option Constant) → IfSome value IsSoundConstant → IfOk (attribute_from key name form value) IsSoundAttribute
attribute_from-sound (Some key) name form None h = IfOk-then IsSoundAttribute (form_or_text form) _ (λ f. named-sound (unwrap_or name key) (origins.Tag key f) tt)
attribute_from-sound None (Some name) None (Some value) h = named-sound name (origins.Constant value) h
attribute_from-sound None (Some name) (Some form) (Some value) h = tt
attribute_from-sound None (Some name) (Some form) None h = tt
attribute_from-sound None (Some name) None None h = tt
attribute_from-sound None None form value h = tt
attribute_from-sound (Some key) name form (Some value) h = tt

attribute_of-sound : (table : Members) → IfOk (attribute_of table) IsSoundAttribute
attribute_of-sound table =
    IfOk-either IsSoundAttribute (has_only attribute_keys table) _ _
    (λ _. IfOk-then IsSoundAttribute (if_there (text_or reasons.Attribute) (value_at keys.TagKey table)) _
    (λ key. IfOk-then IsSoundAttribute (if_there (text_or reasons.Attribute) (value_at keys.Name table)) _
    (λ name. IfOk-then IsSoundAttribute (if_there (text_or reasons.Attribute) (value_at keys.Form table)) _
    (λ form. IfOk-next (λ o. IfSome o IsSoundConstant) IsSoundAttribute (if_there constant_of (value_at keys.Value table)) _ (constant_at-sound (value_at keys.Value table))
    (λ value h. attribute_from-sound key name form value h)))))
    (λ _. tt)

next_attribute-sound : (before : List Attribute) (table : Members) → IfOk (next_attribute before table) IsSoundAttribute
next_attribute-sound before table =
    IfOk-next IsSoundAttribute IsSoundAttribute (attribute_of table) _ (attribute_of-sound table)
    (λ attribute h. IfOk-either IsSoundAttribute (list_any (has_name attribute.name) before) _ _ (λ _. tt) (λ _. h))

attributes_of-sound : (tables : List Members) → IfOk (attributes_of tables) (λ xs. All IsSoundAttribute xs × (length xs ≡ 0 + length tables))
attributes_of-sound tables =
    IfOk-both (All IsSoundAttribute) (λ xs. length xs ≡ 0 + length tables) (attributes_of tables)
    (in_turn-keeps (All IsSoundAttribute) next_attribute
    (λ before table h. IfOk-weaker IsSoundAttribute _ (next_attribute before table) (λ a k. All-push IsSoundAttribute before a h k) (next_attribute-sound before table))
    [] tables (All-nil IsSoundAttribute))
    (in_turn-length next_attribute [] tables)

placed-within : (place count : ℕ) → IfOk (if_found (cond (nat_lt place count) (Some place) None)) (λ n. n < count)
placed-within place count = by (nat_lt place count) refl
  where
    by : (b : Bool) → nat_lt place count ≡ b → IfOk (if_found (cond b (Some place) None)) (λ n. n < count)
    by true e = ltb-true place count e
    by false e = tt

layer_named-within : (layers : List LayerInfo) (id : List ℕ) → IfOk (layer_named layers id) (λ n. n < length layers)
layer_named-within layers id = placed-within (position_or_len (has_id id) layers) (length layers)

-- the zooms and the order of a rule
abbrev pub AreRuleNumbers : ℕ × ℕ → RuleShape → ℕ × ℕ × ℤ → Type 0
AreRuleNumbers zooms shape n = (zooms.0 ≤ n.0) × (n.0 ≤ n.1) × (n.1 ≤ zooms.1) × (fits_16 n.2 ≡ true) × (length shape.attributes ≤ 64)

rule_within-sound : (zooms : ℕ × ℕ) (shape : RuleShape) → zooms.0 ≤ zooms.1 → IfOk (rule_within zooms shape) (AreRuleNumbers zooms shape)
rule_within-sound zooms shape h =
    let P = AreRuleNumbers zooms shape in
    IfOk-either P (are_texts_short shape && are_lists_short shape) _ _
    (λ e.
    let lists = (and_parts (are_texts_short shape) (are_lists_short shape) e).1 in
    let few = (and_parts (nat_le (length shape.conditions) 16) (nat_le (length shape.attributes) 64) lists).1 in
    IfOk-next (AreWithin zooms.0 zooms.1) P (zooms_within zooms.0 zooms.1 shape.first shape.last) _ (zooms_within-bounds zooms.0 zooms.1 shape.first shape.last h)
    (λ own p. IfOk-next (λ n. fits_16 n ≡ true) P (order_or_0 shape.order) _ (order-bounds shape.order)
    (λ order q. (p.0, p.1, p.2, q, leb-true (length shape.attributes) 64 few))))
    (λ _. tt)

pub rule_of-sound : (zooms : ℕ × ℕ) (layers : List LayerInfo) (table : Members) → zooms.0 ≤ zooms.1 → IfOk (rule_of zooms layers table) (IsSoundRule (length layers) zooms.0 zooms.1)
rule_of-sound zooms layers table h =
    let P = IsSoundRule (length layers) zooms.0 zooms.1 in
    IfOk-either P (has_only rule_keys table) _ _
    (λ _. IfOk-then P (rule_shape table) _
    (λ shape. IfOk-next (AreRuleNumbers zooms shape) P (rule_within zooms shape) _ (rule_within-sound zooms shape h)
    (λ numbers n. IfOk-next (λ i. i < length layers) P (layer_named layers shape.layer) _ (layer_named-within layers shape.layer)
    (λ layer l. IfOk-then P (conditions_of shape.conditions) _
    (λ conditions. IfOk-next (λ xs. All IsSoundAttribute xs × (length xs ≡ 0 + length shape.attributes)) P (attributes_of shape.attributes) _ (attributes_of-sound shape.attributes)
    (λ attributes a. record { layer = l; first = n.0; ordered = n.1; last = n.2; order = n.3; few = omega (arith, a.1, n.4); attributes = a.0 }))))))
    (λ _. tt)
