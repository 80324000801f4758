-- Contents that are laid one behind another, and parts of a list.
use Rattle.std.proofs.Common.{◌≡◌, ℕ, ◌+◌, ◌-◌, ◌≤◌, Bool, true, false, if◌then◌else◌, List, [], ◌∷◌, ◌++◌, length, take, drop, slice_range, refl, ap, sym, ◌∙◌, arith}
use Rattle.std.specs.List.{concat}
use Rattle.std.specs.Str.{bytes_eq}
use Rattle.std.proofs.lemmas.List.{drop-drop, drop_at, take_at, length-append}
use Rattle.pmtiles_dirs.specs.Contents.{offset_in}
use Rattle.pmtiles_dirs.proofs.Stretches.{Among, same-bytes}

-- a part with something before and behind it
pub part-of : (prefix part behind : List ℕ) (at len : ℕ) → at ≡ length prefix → len ≡ length part → slice_range (prefix ++ (part ++ behind)) at (at + len) ≡ part
part-of prefix part behind at len place size =
    let count : at + len - at ≡ len = omega arith in
    rw (count, drop_at prefix (part ++ behind) at (sym place)) (take_at part behind len (sym size))

-- a part of what stands behind a prefix
pub part-behind : (prefix whole : List ℕ) (from at len : ℕ) → from ≡ length prefix → slice_range (prefix ++ whole) (from + at) (from + at + len) ≡ slice_range whole at (at + len)
part-behind prefix whole from at len place =
    let count : from + at + len - (from + at) ≡ at + len - at = omega arith in
    rw (count, ← drop-drop at from (prefix ++ whole), drop_at prefix whole from (sym place)) refl

laid-by : (content bytes : List ℕ) (contents : List (List ℕ)) (b : Bool) → bytes_eq bytes content ≡ b → Among bytes (content ∷ contents)
    → (Among bytes contents → take (length bytes) (drop (offset_in contents bytes) (concat contents)) ≡ bytes)
    → take (length bytes) (drop (if b then 0 else length content + offset_in contents bytes) (content ++ concat contents)) ≡ bytes
laid-by content bytes contents true test among later = let same : bytes ≡ content = same-bytes bytes content test in rw same (take_at content (concat contents) (length content) refl)
laid-by content bytes contents false test among later =
    let rest : Among bytes contents = rw test at among in
    ap (take (length bytes)) (sym (drop-drop (offset_in contents bytes) (length content) (content ++ concat contents)) ∙ ap (drop (offset_in contents bytes)) (drop_at content (concat contents) (length content) refl)) ∙ later rest

-- a content stands at its offset
laid : (contents : List (List ℕ)) (bytes : List ℕ) → Among bytes contents → take (length bytes) (drop (offset_in contents bytes) (concat contents)) ≡ bytes
laid [] bytes among = let no_way : false ≡ true = among in absurd cc
laid (content ∷ contents) bytes among = laid-by content bytes contents (bytes_eq bytes content) refl among (laid contents bytes)

pub laid-at : (contents : List (List ℕ)) (bytes : List ℕ) → Among bytes contents → slice_range (concat contents) (offset_in contents bytes) (offset_in contents bytes + length bytes) ≡ bytes
laid-at contents bytes among =
    let count : offset_in contents bytes + length bytes - offset_in contents bytes ≡ length bytes = omega arith in rw count (laid contents bytes among)

within-by : (content bytes : List ℕ) (contents : List (List ℕ)) (b : Bool) → bytes_eq bytes content ≡ b → Among bytes (content ∷ contents)
    → (Among bytes contents → offset_in contents bytes + length bytes ≤ length (concat contents))
    → (if b then 0 else length content + offset_in contents bytes) + length bytes ≤ length (content ++ concat contents)
within-by content bytes contents true test among later = omega (arith, ap length (same-bytes bytes content test), length-append content (concat contents))
within-by content bytes contents false test among later =
    let rest : Among bytes contents = rw test at among in omega (arith, later rest, length-append content (concat contents))

-- and within all of them
pub laid-within : (contents : List (List ℕ)) (bytes : List ℕ) → Among bytes contents → offset_in contents bytes + length bytes ≤ length (concat contents)
laid-within [] bytes among = let no_way : false ≡ true = among in absurd cc
laid-within (content ∷ contents) bytes among = within-by content bytes contents (bytes_eq bytes content) refl among (laid-within contents bytes)
