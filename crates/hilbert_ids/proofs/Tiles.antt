-- Tiles and ids stand one to one.
use Rattle.std.proofs.Common.{refl, ◌≡◌, ℕ, ◌+◌, ◌-◌, ◌^◌, ◌<◌, ap, ◌∙◌, arith}
use Rattle.tb_types.specs.declared.tile.TileXyz.{TileXyz}
use Rattle.hilbert_ids.specs.Curve.{place}
use Rattle.hilbert_ids.specs.Ids.{first_id_of, ids_end, number_of, IsTile, OneToOne}
use Rattle.hilbert_ids.proofs.Numbers.{first_id_more, first_id_mono, some_zoom, same_zoom}
use Rattle.hilbert_ids.proofs.Curves.{place_below, place_same, placed}

tile_is : (a b : TileXyz) → a.z ≡ b.z → a.x ≡ b.x → a.y ≡ b.y → a ≡ b
tile_is a b p q r =
    let made : ℕ → ℕ → ℕ → TileXyz = λ z x y. record { z = z; x = x; y = y } in
    ap (λ n. made n a.x a.y) p ∙ ap (λ n. made b.z n a.y) q ∙ ap (λ n. made b.z b.x n) r

-- the ids of a zoom are below the next zoom's first id
pub in_zoom : (z x y : ℕ) → x < 2 ^ z → y < 2 ^ z → first_id_of z + place z x y < first_id_of (z + 1)
in_zoom z x y a b = omega (arith, first_id_more z, place_below z x y a b)

same_in_zoom : (z w x y u v : ℕ) → z ≡ w → x < 2 ^ z → y < 2 ^ z → u < 2 ^ w → v < 2 ^ w → first_id_of z + place z x y ≡ first_id_of w + place w u v → (x ≡ u) × (y ≡ v)
same_in_zoom z w x y u v zooms a b c d same =
    let low_u : u < 2 ^ z = rw zooms c in
    let low_v : v < 2 ^ z = rw zooms d in
    let ids : first_id_of z + place z x y ≡ first_id_of z + place z u v = rw (← zooms) at same in
    place_same z x y u v a b low_u low_v (omega arith)

pub number_is : (tile : TileXyz) → number_of tile ≡ first_id_of tile.z + place tile.z tile.x tile.y
unfolding number_of
number_is tile = refl

pub below : (tile : TileXyz) → IsTile tile → number_of tile < ids_end
unfolding number_of
below tile is = omega (arith, in_zoom tile.z tile.x tile.y is.column is.row, first_id_mono (tile.z + 1) 27 (omega (arith, is.zoom)))

pub apart : (a b : TileXyz) → IsTile a → IsTile b → number_of a ≡ number_of b → a ≡ b
unfolding number_of
apart a b is_a is_b same =
    let in_a = in_zoom a.z a.x a.y is_a.column is_a.row in
    let in_b = in_zoom b.z b.x b.y is_b.column is_b.row in
    let zooms : a.z ≡ b.z = same_zoom a.z b.z (number_of a) (omega arith) in_a (omega (arith, same)) (omega (arith, same, in_b)) in
    let places = same_in_zoom a.z b.z a.x a.y b.x b.y zooms is_a.column is_a.row is_b.column is_b.row same in
    tile_is a b zooms places.0 places.1

pub all : (n : ℕ) → n < ids_end → (tile : TileXyz) × IsTile tile × (number_of tile ≡ n)
unfolding number_of
all n h =
    let zoom = some_zoom 27 n h in
    let at = placed zoom.0 (n - first_id_of zoom.0) (omega (arith, zoom.2, zoom.3, first_id_more zoom.0)) in (
      record { z = zoom.0; x = at.x; y = at.y },
      record { zoom = omega (arith, zoom.1); column = at.low_x; row = at.low_y },
      omega (arith, at.is, zoom.2),
    )

pub one_to_one : OneToOne
one_to_one = record { apart = apart; all = all; below = below }
