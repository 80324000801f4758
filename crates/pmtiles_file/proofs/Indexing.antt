-- An index of hashes with one hash more.
use Rattle.std.proofs.Common.{◌≡◌, ◌≢◌, ℕ, zero, suc, ◌+◌, ◌<◌, ◌≤◌, ◌==◌, Bool, true, false, if◌then◌else◌, nat_eq, Option, None, Some, List, [], ◌∷◌, ◌++◌, length, get_or, refl, ap, sym, subst, ◌∙◌, arith}
use Rattle.std.specs.HashMap.{get, HashMap, Updates}
use Rattle.std.specs.Map.{update}
use Rattle.std.proofs.lemmas.Map.{update_same, update_other}
use Rattle.std.proofs.lemmas.Bool.{eq-eqb, ne_eqb, eqb-true}
use Rattle.std.proofs.lemmas.List.{get_or_append_left, get_or_push, length_push}
use Rattle.pmtiles_file.specs.Hashes.{last_with}
use Rattle.pmtiles_file.specs.Index.{IsIndex}

-- what stands behind the first n changes nothing
last_with-prefix : (hash : ℕ) (hashes : List ℕ) (x n : ℕ) → n ≤ length hashes → last_with hash (hashes ++ x ∷ []) n ≡ last_with hash hashes n
last_with-prefix hash hashes x zero h = refl
last_with-prefix hash hashes x (suc n) h =
    rw (get_or_append_left hashes (x ∷ []) 0 n (omega (arith, h)), last_with-prefix hash hashes x n (omega (arith, h))) refl

last_with-push : (hash : ℕ) (hashes : List ℕ) (x : ℕ) → last_with hash (hashes ++ x ∷ []) (length (hashes ++ x ∷ [])) ≡ (if x == hash then Some (length hashes) else last_with hash hashes (length hashes))
last_with-push hash hashes x =
    let count : length (hashes ++ x ∷ []) ≡ suc (length hashes) = length_push hashes x ∙ omega arith in
    rw (count, get_or_push hashes x 0 (length hashes) refl, last_with-prefix hash hashes x (length hashes) (omega arith)) refl

pub index-push : {S : Type 0} (hashes : List ℕ) (earlier : List (Option ℕ)) (old new : HashMap ℕ ℕ S) (hash n : ℕ) (before : Option ℕ) → n ≡ length hashes → before ≡ get nat_eq old hash
    → ((q : ℕ) → get nat_eq new q ≡ update nat_eq (get nat_eq old) hash (Some n) q) → IsIndex hashes earlier old → IsIndex (hashes ++ hash ∷ []) (earlier ++ before ∷ []) new
index-push hashes earlier old new hash n before number was changes is = record {
  len = omega (arith, length_push hashes hash, length_push earlier before, is.len);
  chained = λ k d h. by_place k d h (nat_eq k (length hashes)) refl;
  last = λ q. changes q ∙ (by_hash q (nat_eq hash q) refl ∙ sym (last_with-push q hashes hash));
}
  where
    by_hash : (q : ℕ) (b : Bool) → nat_eq hash q ≡ b → update nat_eq (get nat_eq old) hash (Some n) q ≡ (if b then Some (length hashes) else last_with q hashes (length hashes))
    by_hash q true e = update_same nat_eq (get nat_eq old) hash (Some n) q e ∙ ap Some number
    by_hash q false e = update_other nat_eq (get nat_eq old) hash (Some n) q e ∙ is.last q

    by_place : (k : ℕ) (d : Option ℕ) → k < length (hashes ++ hash ∷ []) → (b : Bool) → nat_eq k (length hashes) ≡ b → get_or (earlier ++ before ∷ []) k d ≡ last_with (get_or (hashes ++ hash ∷ []) k 0) (hashes ++ hash ∷ []) k
    by_place k d h true e =
        let place : k ≡ length hashes = eqb-true k (length hashes) e in
        rw (place, get_or_push hashes hash 0 (length hashes) refl, last_with-prefix hash hashes hash (length hashes) (omega arith), get_or_push earlier before d (length hashes) is.len) (was ∙ is.last hash)
    by_place k d h false e =
        let less : k < length hashes = omega (arith, h, length_push hashes hash, apart k e) in
        rw (get_or_append_left hashes (hash ∷ []) 0 k less, last_with-prefix (get_or hashes k 0) hashes hash k (omega (arith, less)), get_or_append_left earlier (before ∷ []) d k (omega (arith, less, is.len))) (is.chained k d less)
      where
        apart : (k : ℕ) → nat_eq k (length hashes) ≡ false → k ≢ length hashes
        apart k e same = let yes_eq : nat_eq k (length hashes) ≡ true = eq-eqb k (length hashes) same in let no_way : true ≡ false = sym yes_eq ∙ e in absurd cc
