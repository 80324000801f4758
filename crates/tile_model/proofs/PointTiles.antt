-- The columns or rows whose strips with the buffer hold a coordinate, and what is left of a point by the cut.
use Rattle.std.proofs.Common.{◌≡◌, ◌↔◌, ℕ, ◌+◌, ◌-◌, ◌*◌, ◌/◌, ◌^◌, ◌<◌, ◌≤◌, min, Bool, true, false, cond, not, ◌&&◌, Some, None, is_some, ℤ, pos, ◌+ℤ◌, ◌-ℤ◌, ◌≤ℤ◌, Contains, negsuc, ◌≢◌, unsigned_abs, FitsSigned, w32, refl, sym, subst, ◌∙◌, true≢false, arith}
use Rattle.std.specs.Prelude.{int_lt}
use Rattle.std.proofs.lemmas.Int.{ints}
use Rattle.tb_types.specs.declared.location.Grid.{Grid}
use Rattle.tb_types.specs.declared.shape.Shape.TheVariants.{Point}
use Rattle.tb_types.specs.declared.tile.TileXyz.{TileXyz}
use Rattle.hilbert_ids.proofs.Numbers.{two_mono}
use Rattle.strip_clip.specs.Cuts.{cut_of, IsBetween}
use Rattle.tile_model.specs.Tiles.{IsTileAt}
use Rattle.tile_model.specs.Points.{AreStrips, HoldsAt, IsPointTold, strips, reach_tiles}
use Rattle.tile_model.specs.declared.reach.Strips.{Strips}
use Rattle.tile_model.specs.declared.reach.Reach.{Reach}
use Rattle.sorted_lists.proofs.Orders.{AllPairs_from_pairs}
use Rattle.tile_model.proofs.Lists.{contains-range, range-climbs}
use Rattle.tile_model.proofs.TileLists.{contains-tiles_in, tiles_in-once}

-- a strip with its buffer holds a coordinate
abbrev pub Holds : ℕ → ℕ → ℕ → Type 0
Holds b c n = (4096 * n ≤ c + b) × (c ≤ 4096 * n + 4096 + b)

module _ (c b side : ℕ) (within : c ≤ 4096 * side) (some : 1 ≤ side) (small : b ≤ 256) where
  pub strips-just : (n : ℕ) → (((c - (b + 1)) / 4096 ≤ n) × (n ≤ min ((c + b) / 4096) (side - 1))) ↔ ((n < side) × Holds b c n)
  strips-just n = (λ h. (omega (arith, h.0, h.1, some), (omega (arith, h.0, h.1, some), omega (arith, h.0, h.1, some))), λ h. (omega (arith, h.0, h.1.0, h.1.1), omega (arith, h.0, h.1.0, h.1.1, some)))

  pub strips-some : (c - (b + 1)) / 4096 ≤ min ((c + b) / 4096) (side - 1)
  strips-some = omega (arith, within, some, small)

  pub strips-few : min ((c + b) / 4096) (side - 1) ≤ (c - (b + 1)) / 4096 + 1
  strips-few = omega (arith, within, some, small)

  pub strips-low : min ((c + b) / 4096) (side - 1) < side
  strips-low = omega (arith, some)

abbrev point : ℕ → ℕ → Grid
point c d = record { x = pos c; y = pos d }

-- inside a strip, as the cut tests it
tested : (c n b : ℕ) → (not (int_lt (pos c) (pos (4096 * n) -ℤ pos b)) && not (int_lt (pos (4096 * n) +ℤ pos (4096 + b)) (pos c))) ≡ true ↔ Holds b c n
tested c n b = (λ e. (grind (arith, ints), grind (arith, ints)), λ h. grind (arith, ints))

some-cond : {A : Type 0} (b : Bool) (x : A) → is_some (cond b (Some x) None) ≡ b
some-cond true x = refl
some-cond false x = refl

both : (a b : Bool) → a && b ≡ true → (a ≡ true) × (b ≡ true)
both true b e = (refl, e)
both false b e = absurd (true≢false (sym e))

and-true : (a b : Bool) → a ≡ true → b ≡ true → a && b ≡ true
and-true a b p q = λ i. (p i) && (q i)

module _ (t : TileXyz) (buffer c d : ℕ) where
  abbrev p : Grid
  p = record { x = pos c; y = pos d }

  abbrev in_x : Bool
  in_x = not (int_lt (pos c) (pos (4096 * t.x) -ℤ pos buffer)) && not (int_lt (pos (4096 * t.x) +ℤ pos (4096 + buffer)) (pos c))

  abbrev in_y : Bool
  in_y = not (int_lt (pos d) (pos (4096 * t.y) -ℤ pos buffer)) && not (int_lt (pos (4096 * t.y) +ℤ pos (4096 + buffer)) (pos d))

  cut-is : is_some (cut_of t buffer (Point p)) ≡ (in_x && in_y)
  unfolding cut_of
  cut-is = some-cond (in_x && in_y) _

  pub cut-some : is_some (cut_of t buffer (Point p)) ≡ true ↔ (Holds buffer c t.x × Holds buffer d t.y)
  cut-some = (
    λ e. let h = both in_x in_y (sym cut-is ∙ e) in ((tested c t.x buffer).0 h.0, (tested d t.y buffer).0 h.1),
    λ h. cut-is ∙ and-true in_x in_y ((tested c t.x buffer).1 h.0) ((tested d t.y buffer).1 h.1),
  )

contains-strips : (s : Strips) (n : ℕ) → s.first ≤ s.last → Contains (strips s) n ↔ ((s.first ≤ n) × (n ≤ s.last))
contains-strips s n le = (
  λ c. let h = (contains-range s.first (s.last + 1 - s.first) n).0 c in (h.0, omega (arith, h.0, h.1, le)),
  λ h. (contains-range s.first (s.last + 1 - s.first) n).1 (h.0, omega (arith, h.0, h.1, le)),
)

-- the tiles where columns and rows cross are those in which the point is left
point-told : (zoom buffer c d : ℕ) (reach : Reach) → AreStrips zoom buffer c reach.columns → AreStrips zoom buffer d reach.rows
    → IsPointTold zoom buffer (record { x = pos c; y = pos d }) (reach_tiles zoom reach)
point-told zoom buffer c d reach columns rows = record {
  once = AllPairs_from_pairs (λ s t. s ≢ t) (reach_tiles zoom reach) (tiles_in-once zoom (strips reach.columns) (strips reach.rows) (range-climbs _ _) (range-climbs _ _));
  just = λ t. (there t, back t);
}
  where
    there : (t : TileXyz) → Contains (reach_tiles zoom reach) t → IsTileAt zoom t × (is_some (cut_of t buffer (Point (record { x = pos c; y = pos d }))) ≡ true)
    there t h =
        let r = (contains-tiles_in zoom (strips reach.columns) (strips reach.rows) t).0 h in
        let x = (columns.just t.x).0 ((contains-strips reach.columns t.x columns.few.some).0 r.1) in
        let y = (rows.just t.y).0 ((contains-strips reach.rows t.y rows.few.some).0 r.2) in
        (record { zoom = r.0; column = x.0; row = y.0 }, (cut-some t buffer c d).1 ((x.1, x.2), (y.1, y.2)))

    back : (t : TileXyz) → IsTileAt zoom t × (is_some (cut_of t buffer (Point (record { x = pos c; y = pos d }))) ≡ true) → Contains (reach_tiles zoom reach) t
    back t h =
        let s = (cut-some t buffer c d).0 h.1 in
        let x = (contains-strips reach.columns t.x columns.few.some).1 ((columns.just t.x).1 (h.0.column, s.0.0, s.0.1)) in
        let y = (contains-strips reach.rows t.y rows.few.some).1 ((rows.just t.y).1 (h.0.row, s.1.0, s.1.1)) in
        (contains-tiles_in zoom (strips reach.columns) (strips reach.rows) t).1 (h.0.zoom, x, y)

pub within : (z high : ℤ) (n : ℕ) → pos 0 ≤ℤ z → z ≤ℤ pos n → (z ≡ pos (unsigned_abs z)) × (unsigned_abs z ≤ n)
within (pos k) high n h l = (refl, omega (arith, ints, l))
within (negsuc k) high n h l = absurd (omega (arith, ints, h))

pub point-reached : (zoom buffer : ℕ) (p : Grid) (reach : Reach) → HoldsAt zoom buffer p.x reach.columns → HoldsAt zoom buffer p.y reach.rows
    → IsPointTold zoom buffer p (reach_tiles zoom reach)
point-reached zoom buffer p reach columns rows =
    let x = sym columns.0 in
    let y = sym rows.0 in
    let same : point (unsigned_abs p.x) (unsigned_abs p.y) ≡ p = λ i. record { x = x i; y = y i } in
    subst (λ q. IsPointTold zoom buffer q (reach_tiles zoom reach)) same (point-told zoom buffer (unsigned_abs p.x) (unsigned_abs p.y) reach columns.1 rows.1)

pub fits : (zoom : ℕ) (z : ℤ) → zoom ≤ 14 → IsBetween (pos 0) (pos (4096 * 2 ^ zoom)) z → FitsSigned w32 z
fits zoom (pos n) h is = let low = two_mono zoom 14 h in let high = is.high in record { sfits = omega (arith, ints) }
fits zoom (negsuc n) h is = let low = is.low in absurd (omega (arith, ints))
