-- A point that tests add is an item.
use Rattle.std.proofs.Common.{◌≡◌, ℕ, ◌^◌, ◌<◌, ℤ, negsuc, List, [], ◌∷◌, length, refl, sym, subst, arith}
use Rattle.tb_types.specs.declared.attribute.Attr.{Attr}
use Rattle.tb_types.specs.declared.element.Kind.{Kind}
use Rattle.tb_types.specs.declared.element.Place.{Place}
use Rattle.tb_wire.specs.Varint.{encoding}
use Rattle.mvt_geom.specs.Commands.{has_form}
use Rattle.mvt_codec.specs.declared.item.ItemKey.{ItemKey}
use Rattle.mvt_codec.specs.declared.item.RunItem.{RunItem}
use Rattle.mvt_codec.specs.declared.row.TileRow.{TileRow}
use Rattle.mvt_codec.specs.Items.{row_text, tiles_end, IsItem}
use Rattle.mvt_codec.proofs.ItemLengths.{item_len}

abbrev point_row : List ℕ → List Attr → TileRow
point_row ints attributes = record { id = 0; form = 1; ints = ints; attributes = attributes }

abbrev point_item : ℕ → ℤ → Kind → Place → List ℕ → List Attr → RunItem
point_item tile order kind place ints attributes = record { key = record { tile = tile; layer = 0; order = order; kind = kind; place = place; rule = 0 }; row = point_row ints attributes }

row_len : length (row_text (point_row (9 ∷ 0 ∷ 0 ∷ []) [])) ≡ 7
unfolding row_text encoding
row_len = refl

is_point : (tile : ℕ) (order : ℤ) (kind : Kind) (place : Place) → tile < tiles_end → IsItem (point_item tile order kind place (9 ∷ 0 ∷ 0 ∷ []) [])
unfolding has_form
is_point tile order kind place lt = record {
  tile = lt;
  layer = omega arith;
  known = (omega arith, omega arith);
  form = refl;
  attributes = tt;
  len = omega (arith, item_len (point_item tile order kind place (9 ∷ 0 ∷ 0 ∷ []) []), row_len);
}

pub point_is : (tile : ℕ) (order : ℤ) (kind : Kind) (place : Place) (ints : List ℕ) (attributes : List Attr) → tile < 2 ^ 32 → ints ≡ 9 ∷ 0 ∷ 0 ∷ [] → attributes ≡ [] → IsItem (point_item tile order kind place ints attributes)
point_is tile order kind place ints attributes lt some none =
    subst (λ (as_ints : List ℕ). IsItem (point_item tile order kind place as_ints attributes)) (sym some)
    (subst (λ (none_left : List Attr). IsItem (point_item tile order kind place (9 ∷ 0 ∷ 0 ∷ []) none_left)) (sym none) (is_point tile order kind place (omega (arith, lt))))
