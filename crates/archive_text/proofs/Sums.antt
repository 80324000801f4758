-- The tiles of an archive, and their features, summed entry by entry.
use Rattle.std.proofs.Common.{◌≡◌, ℕ, zero, suc, ◌+◌, ◌*◌, List, [], ◌∷◌, ◌++◌, length, refl, sym, ap, ◌∙◌, arith, length-append}
use Rattle.std.proofs.Math.Nat.{suc-mul, add_comm}
use Rattle.std.specs.Prelude.{flat_map, sum_by, unwrap_or}
use Rattle.std.proofs.lemmas.List.Sums.{sum_by-append, sum_by-cons}
use Rattle.pmtiles_dirs.specs.declared.entry.DirEntry.{DirEntry}
use Rattle.pmtiles_dirs.specs.Contents.{Tile}
use Rattle.pmtiles_dirs.specs.Fault.{Opened, content_at}
use Rattle.pmtiles_dirs.specs.Back.{tiles_from, tiles_in}
use Rattle.archive_text.specs.Rows.{rows_of, features_in}

-- the features of all tiles of an entry
abbrev pub entry_features : List ℕ → Opened → DirEntry → ℕ
entry_features archive o e = e.run * unwrap_or (rows_of (content_at archive o e)) 0

run-tiles : (run id : ℕ) (bytes : List ℕ) → length (tiles_from id run bytes) ≡ run
run-tiles zero id bytes = refl
run-tiles (suc run) id bytes = ap suc (run-tiles run (id + 1) bytes)

run-features : (run id : ℕ) (bytes : List ℕ) → sum_by features_in (tiles_from id run bytes) ≡ run * unwrap_or (rows_of bytes) 0
run-features zero id bytes = let none : 0 * unwrap_or (rows_of bytes) 0 ≡ 0 = omega arith in sym none
run-features (suc run) id bytes =
    let each : ℕ = unwrap_or (rows_of bytes) 0 in
    sum_by-cons features_in (record { id = id; bytes = bytes }) (tiles_from (id + 1) run bytes)
    ∙ (ap (λ (n : ℕ). each + n) (run-features run (id + 1) bytes) ∙ (add_comm each (run * each) ∙ sym (suc-mul run each)))

module _ (archive : List ℕ) (o : Opened) where
  pub tiles-counted : (entries : List DirEntry) → length (flat_map (tiles_in archive o) entries) ≡ sum_by (λ (e : DirEntry). e.run) entries
  tiles-counted [] = refl
  tiles-counted (e ∷ entries) =
      length-append (tiles_in archive o e) (flat_map (tiles_in archive o) entries) ∙ (ap (λ (n : ℕ). n + length (flat_map (tiles_in archive o) entries)) (run-tiles e.run e.id (content_at archive o e))
      ∙ (ap (λ (n : ℕ). e.run + n) (tiles-counted entries) ∙ sym (sum_by-cons (λ (x : DirEntry). x.run) e entries)))

  pub features-counted : (entries : List DirEntry) → sum_by features_in (flat_map (tiles_in archive o) entries) ≡ sum_by (entry_features archive o) entries
  features-counted [] = refl
  features-counted (e ∷ entries) =
      sum_by-append features_in (tiles_in archive o e) (flat_map (tiles_in archive o) entries) ∙ (ap (λ (n : ℕ). n + sum_by features_in (flat_map (tiles_in archive o) entries)) (run-features e.run e.id (content_at archive o e))
      ∙ (ap (λ (n : ℕ). entry_features archive o e + n) (features-counted entries) ∙ sym (sum_by-cons (entry_features archive o) e entries)))
