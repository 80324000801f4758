-- A tile is read field by field.
use Rattle.std.proofs.Common.{◌≡◌, ℕ, suc, ◌+◌, ◌-◌, ◌<◌, ◌≤◌, None, Some, Ok, Err, List, length, refl, sym, arith}
use Rattle.tb_wire.specs.declared.varint.Wire.{Wire}
use Rattle.tb_wire.specs.declared.field.Field.{Field}
use Rattle.tb_wire.specs.Field.{entry_of, field_at}
use Rattle.mvt_codec.specs.declared.row.LayerRows.{LayerRows}
use Rattle.mvt_codec.specs.Grammar.{note_tile, tile_from}

pub tile-step : (bytes : List ℕ) (n turn : ℕ) (layers now : List LayerRows) (at : ℕ) (f : Field) → turn < n → Ok (Some (entry_of f, f.next)) ≡ field_at bytes at → note_tile layers (entry_of f) ≡ Some now
    → tile_from bytes (n - turn) layers at ≡ tile_from bytes (n - (turn + 1)) now f.next
tile-step bytes n turn layers now at f h read noted =
    let one : n - turn ≡ suc (n - (turn + 1)) = omega (arith, h) in
    rw (one, sym read, noted) refl

pub tile-bad : (bytes : List ℕ) (n turn : ℕ) (layers : List LayerRows) (at : ℕ) (f : Field) → turn < n → Ok (Some (entry_of f, f.next)) ≡ field_at bytes at → note_tile layers (entry_of f) ≡ None
    → tile_from bytes (n - turn) layers at ≡ Err (length layers)
tile-bad bytes n turn layers at f h read noted =
    let one : n - turn ≡ suc (n - (turn + 1)) = omega (arith, h) in
    rw (one, sym read, noted) refl

pub tile-cut : (bytes : List ℕ) (n turn : ℕ) (layers : List LayerRows) (at : ℕ) (e : Wire) → turn < n → Err e ≡ field_at bytes at → tile_from bytes (n - turn) layers at ≡ Err (length layers)
tile-cut bytes n turn layers at e h read = let one : n - turn ≡ suc (n - (turn + 1)) = omega (arith, h) in rw (one, sym read) refl

pub tile-end : (bytes : List ℕ) (n turn : ℕ) (layers : List LayerRows) (at : ℕ) → turn < n → Ok None ≡ field_at bytes at → tile_from bytes (n - turn) layers at ≡ Ok layers
tile-end bytes n turn layers at h read = let one : n - turn ≡ suc (n - (turn + 1)) = omega (arith, h) in rw (one, sym read) refl

pub tile-over : (bytes : List ℕ) (n turn : ℕ) (layers : List LayerRows) (at : ℕ) → n ≤ turn → tile_from bytes (n - turn) layers at ≡ Ok layers
tile-over bytes n turn layers at h = let none : n - turn ≡ 0 = omega (arith, h) in rw none refl
