-- Every profile is sound.
use Rattle.std.proofs.Common.{◌≡◌, ℕ, ◌+◌, ◌<◌, ◌≤◌, ◌==◌, ◌&&◌, nat_le, nat_lt, IfOk, Option, None, Some, Ok, List, [], ◌∷◌, ◌++◌, length, unwrap_or, refl, subst, arith}
use Rattle.std.specs.Prelude.{All}
use Rattle.std.specs.List.{IsDistinct}
use Rattle.std.specs.Str.{bytes_eq, is_utf8}
use Rattle.std.proofs.lemmas.Bool.{and_parts, leb-true, eqb-false}
use Rattle.std.proofs.lemmas.List.Elements.{All-nil, All-cons, All-push}
use Rattle.toml.specs.Data.{Members}
use Rattle.toml.specs.Parse.{parse_document}
use Rattle.profile_rules.specs.declared.format.Format.{Format}
use Rattle.profile_rules.specs.declared.format.Format.TheVariants.{One}
use Rattle.profile_rules.specs.declared.key.Key.TheVariants as keys
use Rattle.profile_rules.specs.declared.parts.LayerInfo.{LayerInfo}
use Rattle.profile_rules.specs.declared.parts.Parts.{Parts}
use Rattle.profile_rules.specs.Turns.{in_turn}
use Rattle.profile_rules.specs.Faults.{at_spot}
use Rattle.profile_rules.specs.Keys.{has_only, top_keys}
use Rattle.profile_rules.specs.Kinds.{text_at, whole_at, tables_at, required}
use Rattle.profile_rules.specs.Ranges.{is_short, zooms_within}
use Rattle.profile_rules.specs.Top.{Top, TopShape, some_of, top_shape, format_of, last_zoom, usual_name, are_few, top_within, top_of}
use Rattle.profile_rules.specs.Profile.{top_spot, next_layer, next_rule, parts_under, parts_in, profile_of}
use Rattle.profile_rules.specs.Layers.{layer_of}
use Rattle.profile_rules.specs.Rules.{rule_of}
use Rattle.profile_rules.specs.OneRule.{nodes_id, nodes_layer, key_attribute, key_rule, one_rule_of}
use Rattle.profile_rules.specs.Sound.{IsSoundLayer, IsSoundAttribute, IsSoundRule, IsSound}
use Rattle.profile_rules.proofs.Reading.{IfOk-either, IfOk-next, IfOk-then, IfOk-weaker, IfOk-both, IfOk-at_spot, in_turn-keeps, in_turn-length}
use Rattle.profile_rules.proofs.SoundParts.{AreWithin, zooms_within-bounds, IsNext, layer_of-sound, ids, distinct_push, no_ids, rule_of-sound}

has_some : (layers : List Members) → IfOk (some_of layers) (λ xs. 0 < length xs)
has_some layers = IfOk-either (λ xs. 0 < length xs) (length layers == 0) _ _ (λ _. tt) (λ e. let ne = eqb-false (length layers) 0 e in omega arith)

top_shape-sound : (table : Members) → IfOk (top_shape table) (λ shape. 0 < length shape.layers)
top_shape-sound table =
    let P : TopShape → Type 0 = λ shape. 0 < length shape.layers in
    IfOk-then P (whole_at keys.Format table) _ (λ format. IfOk-then P (required format) _ (λ format.
    IfOk-then P (text_at keys.Name table) _ (λ name. IfOk-then P (whole_at keys.Minzoom table) _ (λ first. IfOk-then P (whole_at keys.Maxzoom table) _ (λ last.
    IfOk-then P (tables_at keys.Layer table) _ (λ layers. IfOk-next (λ xs. 0 < length xs) P (some_of layers) _ (has_some layers) (λ some h.
    IfOk-then P (tables_at keys.Rule table) _ (λ rules. h))))))))

-- a top whose layers and rules are still to be read
record IsSoundTop (top : Top) : Type 0 where
  some_layers : 0 < length top.layers
  few_layers : length top.layers ≤ 64
  few_rules : length top.rules ≤ 1024
  zooms : AreWithin 0 14 top.zooms

last_zoom-within : (format : Format) → last_zoom format ≤ 14
last_zoom-within One = omega arith

top_within-sound : (format : Format) (shape : TopShape) → 0 < length shape.layers → IfOk (top_within format shape) IsSoundTop
top_within-sound format shape h =
    IfOk-either IsSoundTop (is_short (unwrap_or shape.name usual_name) && are_few shape.layers shape.rules) _ _
    (λ e.
    let few = (and_parts (is_short (unwrap_or shape.name usual_name)) (are_few shape.layers shape.rules) e).1 in
    let both = and_parts (nat_le (length shape.layers) 64) (nat_le (length shape.rules) 1024) few in
    IfOk-next (AreWithin 0 (last_zoom format)) IsSoundTop (zooms_within 0 (last_zoom format) shape.first shape.last) _
    (zooms_within-bounds 0 (last_zoom format) shape.first shape.last (omega arith))
    (λ zooms z. record {
      some_layers = h;
      few_layers = leb-true (length shape.layers) 64 both.0;
      few_rules = leb-true (length shape.rules) 1024 both.1;
      zooms = (z.0, z.1, omega (arith, z.2, last_zoom-within format));
    }))
    (λ _. tt)

top_of-sound : (table : Members) → IfOk (top_of table) IsSoundTop
top_of-sound table =
    IfOk-either IsSoundTop (has_only top_keys table) _ _
    (λ _. IfOk-next (λ shape. 0 < length shape.layers) IsSoundTop (top_shape table) _ (top_shape-sound table)
    (λ shape h. IfOk-then IsSoundTop (format_of shape.format) _ (λ format. top_within-sound format shape h)))
    (λ _. tt)

layers-sound : (tables : List Members) → IfOk (in_turn next_layer [] tables) (λ layers. (All IsSoundLayer layers × IsDistinct bytes_eq (ids layers)) × (length layers ≡ 0 + length tables))
layers-sound tables =
    let Q : List LayerInfo → Type 0 = λ layers. All IsSoundLayer layers × IsDistinct bytes_eq (ids layers) in
    IfOk-both Q (λ layers. length layers ≡ 0 + length tables) (in_turn next_layer [] tables)
    (in_turn-keeps Q next_layer
    (λ before table q. IfOk-weaker (IsNext before) (λ layer. Q (before ++ layer ∷ [])) (next_layer before table)
    (λ layer h. (All-push IsSoundLayer before layer q.0 h.0, distinct_push before layer q.1 h.1))
    (IfOk-at_spot (IsNext before) _ (layer_of before table) (layer_of-sound before table)))
    [] tables (All-nil IsSoundLayer, no_ids))
    (in_turn-length next_layer [] tables)

rules-sound : (zooms : ℕ × ℕ) (layers : List LayerInfo) (tables : List Members) → zooms.0 ≤ zooms.1
    → IfOk (in_turn (next_rule zooms layers) [] tables) (λ rules. All (IsSoundRule (length layers) zooms.0 zooms.1) rules × (length rules ≡ 0 + length tables))
rules-sound zooms layers tables h =
    let P = IsSoundRule (length layers) zooms.0 zooms.1 in
    IfOk-both (All P) (λ rules. length rules ≡ 0 + length tables) (in_turn (next_rule zooms layers) [] tables)
    (in_turn-keeps (All P) (next_rule zooms layers)
    (λ before table q. IfOk-weaker P (λ rule. All P (before ++ rule ∷ [])) (next_rule zooms layers before table) (λ rule r. All-push P before rule q r)
    (IfOk-at_spot P _ (rule_of zooms layers table) (rule_of-sound zooms layers table h)))
    [] tables (All-nil P))
    (in_turn-length (next_rule zooms layers) [] tables)

parts_under-sound : (top : Top) → IsSoundTop top → IfOk (parts_under top) IsSound
parts_under-sound top t =
    IfOk-next (λ layers. (All IsSoundLayer layers × IsDistinct bytes_eq (ids layers)) × (length layers ≡ 0 + length top.layers)) IsSound (in_turn next_layer [] top.layers) _ (layers-sound top.layers)
    (λ layers l. IfOk-next (λ rules. All (IsSoundRule (length layers) top.zooms.0 top.zooms.1) rules × (length rules ≡ 0 + length top.rules)) IsSound (in_turn (next_rule top.zooms layers) [] top.rules) _
    (rules-sound top.zooms layers top.rules t.zooms.1)
    (λ rules r. record {
      some_layers = omega (arith, l.1, t.some_layers);
      few_layers = omega (arith, l.1, t.few_layers);
      few_rules = omega (arith, r.1, t.few_rules);
      ordered = t.zooms.1;
      last = t.zooms.2;
      layers = l.0.0;
      differ = l.0.1;
      rules = r.0;
    }))

parts_in-sound : (document : Option Members) → IfOk (parts_in document) IsSound
parts_in-sound None = tt
parts_in-sound (Some table) = IfOk-next IsSoundTop IsSound (at_spot top_spot (top_of table)) _ (IfOk-at_spot IsSoundTop top_spot (top_of table) (top_of-sound table)) (λ top t. parts_under-sound top t)

profile_of-sound : (text : List ℕ) → IfOk (profile_of text) IsSound
unfolding profile_of
profile_of-sound text =
    IfOk-either IsSound (nat_lt 1048576 (length text)) _ _ (λ _. tt)
    (λ _. IfOk-either IsSound (is_utf8 text) _ _ (λ _. parts_in-sound (parse_document text)) (λ _. tt))

-- the parts that a text is are sound
pub read-sound : (text : List ℕ) (parts : Parts) → profile_of text ≡ Ok parts → IsSound parts
read-sound text parts e = subst (λ r. IfOk r IsSound) e (profile_of-sound text)

nodes_layer-sound : IsSoundLayer nodes_layer
unfolding nodes_id
nodes_layer-sound = record { named = omega arith; short = omega arith; buffer = omega arith; tolerance = omega arith }

one_id : IsDistinct bytes_eq (nodes_id ∷ [])
unfolding IsDistinct
one_id = (tt, tt)

key_rule-sound : (key : List ℕ) → 0 < length key → IsSoundRule 1 0 0 (key_rule key)
key_rule-sound key h = record {
  layer = omega arith;
  first = omega arith;
  ordered = omega arith;
  last = omega arith;
  order = refl;
  few = omega arith;
  attributes = All-cons IsSoundAttribute (key_attribute key) [] (record { named = h; origin = tt }) (All-nil IsSoundAttribute);
}

pub one_rule-sound : (key : List ℕ) → 0 < length key → IsSound (one_rule_of key)
one_rule-sound key h = record {
  some_layers = omega arith;
  few_layers = omega arith;
  few_rules = omega arith;
  ordered = omega arith;
  last = omega arith;
  layers = All-cons IsSoundLayer nodes_layer [] nodes_layer-sound (All-nil IsSoundLayer);
  differ = one_id;
  rules = All-cons (IsSoundRule 1 0 0) (key_rule key) [] (key_rule-sound key h) (All-nil (IsSoundRule 1 0 0));
}
