-- Columns of a directory, as they are put one number after another.
use Rattle.std.proofs.Common.{◌≡◌, ℕ, ◌+◌, ◌<◌, Option, Some, List, ◌++◌, length, drop, get_or, ap, sym, subst, ◌∙◌, append_assoc}
use Rattle.std.specs.Prelude.{flat_map}
use Rattle.std.proofs.lemmas.Grind.{flat_map-append}
use Rattle.std.proofs.lemmas.List.{drop_more}
use Rattle.tb_wire.specs.Varint.{encoding}
use Rattle.pmtiles_dirs.specs.declared.entry.DirEntry.{DirEntry}
use Rattle.pmtiles_dirs.specs.Directory.{IsEntry, IsBehind, AreEntries, column}

pub flat_map_joined : {X A : Type 0} (f : X → List A) (xs ys : List X) → flat_map f (xs ++ ys) ≡ flat_map f xs ++ flat_map f ys
flat_map_joined f xs ys = flat_map-append f xs ys

-- the next number of a column
pub column-next : (written : Option DirEntry → DirEntry → ℕ) (before : Option DirEntry) (whole out : List ℕ) (entries : List DirEntry) (i : ℕ) (e : DirEntry) → i < length entries
    → whole ≡ out ++ flat_map encoding (column written before (drop i entries))
    → whole ≡ (out ++ encoding (written before (get_or entries i e))) ++ flat_map encoding (column written (Some (get_or entries i e)) (drop (i + 1) entries))
column-next written before whole out entries i e h told =
    told ∙ (ap (λ rest. out ++ flat_map encoding (column written before rest)) (drop_more entries i e h)
    ∙ sym (append_assoc out (encoding (written before (get_or entries i e))) (flat_map encoding (column written (Some (get_or entries i e)) (drop (i + 1) entries)))))

-- what holds of the entries that are left
pub entries-next : (before : Option DirEntry) (entries : List DirEntry) (i : ℕ) (e : DirEntry) → i < length entries → AreEntries before (drop i entries)
    → IsEntry (get_or entries i e) × IsBehind before (get_or entries i e) × AreEntries (Some (get_or entries i e)) (drop (i + 1) entries)
entries-next before entries i e h are = subst (AreEntries before) (drop_more entries i e h) are
