-- The first entry whose content is no tile.
use Rattle.std.proofs.Common.{◌≡◌, ℕ, zero, suc, ◌+◌, ◌==◌, Bool, true, false, if◌then◌else◌, Option, None, Some, is_some, Result, Ok, Err, List, [], ◌∷◌, ◌++◌, refl, sym, ap, subst, ◌∙◌}
use Rattle.std.specs.Prelude.{is_ok, flat_map}
use Rattle.mvt_codec.specs.declared.row.LayerRows.{LayerRows}
use Rattle.mvt_codec.specs.Grammar.{tile_of}
use Rattle.pmtiles_dirs.specs.declared.entry.DirEntry.{DirEntry}
use Rattle.pmtiles_dirs.specs.declared.fault.ArcFault.{ArcFault}
use Rattle.pmtiles_dirs.specs.declared.fault.ArcWhy.TheVariants as reasons
use Rattle.pmtiles_dirs.specs.Contents.{Tile}
use Rattle.pmtiles_dirs.specs.Fault.{Opened, fault, content_at, tile_fault}
use Rattle.pmtiles_dirs.specs.Back.{tiles_from, tiles_in, tile_at}
use Rattle.archive_text.specs.Rows.{is_tile, rows_read, rows_of}
use Rattle.archive_text.specs.Counted.{tile_at_id, rows_due}
use Rattle.archive_text.proofs.InTurn.{one-value, one-fault, not-both}

read-rows : (r : Result (List LayerRows) ℕ) → is_ok r ≡ is_some (rows_read r)
read-rows (Ok layers) = refl
read-rows (Err at) = refl

-- bytes that have a number of features are a tile, and others are none
pub tile-rows : (bytes : List ℕ) → is_tile bytes ≡ is_some (rows_of bytes)
tile-rows bytes = read-rows (tile_of bytes)

rows-some : (id n : ℕ) (rows : Option ℕ) → tile_at_id id rows ≡ Ok n → rows ≡ Some n
rows-some id n (Some m) h = ap Some (one-value (tile_at_id id (Some m)) m n refl h)
rows-some id n None h = absurd (not-both (tile_at_id id None) n (fault id reasons.Tile) h refl)

rows-none : (id : ℕ) (f : ArcFault) (rows : Option ℕ) → tile_at_id id rows ≡ Err f → (rows ≡ None) × (f ≡ fault id reasons.Tile)
rows-none id f (Some m) h = absurd (not-both (tile_at_id id (Some m)) m f refl h)
rows-none id f None h = (refl, one-fault (tile_at_id id None) f (fault id reasons.Tile) h refl)

module _ (archive : List ℕ) (o : Opened) where
  pub due-some : (e : DirEntry) (n : ℕ) → rows_due archive o e ≡ Ok n → rows_of (content_at archive o e) ≡ Some n
  due-some e n h = rows-some e.id n (rows_of (content_at archive o e)) h

  due-tile : (e : DirEntry) (n : ℕ) → rows_due archive o e ≡ Ok n → is_tile (content_at archive o e) ≡ true
  due-tile e n h = tile-rows (content_at archive o e) ∙ ap is_some (due-some e n h)

  due-none : (e : DirEntry) (f : ArcFault) → rows_due archive o e ≡ Err f → (is_tile (content_at archive o e) ≡ false) × (f ≡ fault e.id reasons.Tile)
  due-none e f h =
      let none = rows-none e.id f (rows_of (content_at archive o e)) h in
      (tile-rows (content_at archive o e) ∙ ap is_some none.0, none.1)

  abbrev Faults : List DirEntry → Option ArcFault
  Faults entries = tile_fault is_tile archive o entries

  -- behind entries without a fault the next ones decide
  behind-one : (b : Bool) (id : ℕ) (here : Option ArcFault) → (if b then here else Some (fault id reasons.Tile)) ≡ None → (b ≡ true) × (here ≡ None)
  behind-one true id here h = (refl, h)
  behind-one false id here h = let no : Some (fault id reasons.Tile) ≡ None = h in absurd cc

  pub faults-behind : (entries later : List DirEntry) → Faults entries ≡ None → Faults (entries ++ later) ≡ Faults later
  faults-behind [] later h = refl
  faults-behind (e ∷ entries) later h =
      let parts = behind-one (is_tile (content_at archive o e)) e.id (Faults entries) h in
      ap (λ (b : Bool). if b then Faults (entries ++ later) else Some (fault e.id reasons.Tile)) parts.0 ∙ faults-behind entries later parts.1

  -- one more entry whose content is a tile
  pub faults-more : (done : List DirEntry) (e : DirEntry) (n : ℕ) → Faults done ≡ None → rows_due archive o e ≡ Ok n → Faults (done ++ e ∷ []) ≡ None
  faults-more done e n h due = faults-behind done (e ∷ []) h ∙ ap (λ (b : Bool). if b then Faults [] else Some (fault e.id reasons.Tile)) (due-tile e n due)

  -- an entry whose content is none
  pub faults-here : (done : List DirEntry) (e : DirEntry) (later : List DirEntry) (f : ArcFault) → Faults done ≡ None → rows_due archive o e ≡ Err f → Faults (done ++ e ∷ later) ≡ Some f
  faults-here done e later f h due =
      let none = due-none e f due in
      faults-behind done (e ∷ later) h ∙ (ap (λ (b : Bool). if b then Faults later else Some (fault e.id reasons.Tile)) none.0 ∙ ap Some (sym none.1))

  by-first : (b : Bool) (bytes content : List ℕ) (more : Option (List ℕ)) → is_tile bytes ≡ true → (more ≡ Some content → is_tile content ≡ true) → (if b then Some bytes else more) ≡ Some content → is_tile content ≡ true
  by-first true bytes content more here later h = let is : Some bytes ≡ Some content = h in let equal : bytes ≡ content = cc in subst (λ (x : List ℕ). is_tile x ≡ true) equal here
  by-first false bytes content more here later h = later h

  from-run : (run id at : ℕ) (bytes content : List ℕ) (rest : List Tile) → (tile_at rest at ≡ Some content → is_tile content ≡ true) → is_tile bytes ≡ true
      → tile_at (tiles_from id run bytes ++ rest) at ≡ Some content → is_tile content ≡ true
  from-run zero id at bytes content rest later here h = later h
  from-run (suc run) id at bytes content rest later here h = by-first (id == at) bytes content (tile_at (tiles_from (id + 1) run bytes ++ rest) at) here (from-run run (id + 1) at bytes content rest later here) h

  -- where no entry has a fault, each tile is one
  pub found-is_tile : (entries : List DirEntry) (at : ℕ) (content : List ℕ) → Faults entries ≡ None → tile_at (flat_map (tiles_in archive o) entries) at ≡ Some content → is_tile content ≡ true
  found-is_tile [] at content h found = let no : None ≡ Some content = found in absurd cc
  found-is_tile (e ∷ entries) at content h found =
      let parts = behind-one (is_tile (content_at archive o e)) e.id (Faults entries) h in
      from-run e.run e.id at (content_at archive o e) content (flat_map (tiles_in archive o) entries) (found-is_tile entries at content parts.1) parts.0 found
