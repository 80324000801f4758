-- Sums that are kept while differences are read.
use Rattle.std.proofs.Common.{◌≡◌, ℕ, ℤ, ◌+◌, ◌<◌, Bool, true, false, if◌then◌else◌, Result, Ok, Err, List, [], ◌∷◌, ◌++◌, length, map, pos, refl, ap, sym, subst, ◌∙◌, arith, append_assoc, append-nil, map-id, length-append}
use Rattle.std.specs.Prelude.{⊤}
use Rattle.tb_types.specs.declared.damage.Why.{Why}
use Rattle.tb_types.specs.declared.damage.Why.TheVariants as reasons
use Rattle.tb_types.specs.Results.{◌>>=◌}
use Rattle.osm_elements.specs.declared.fault.BlockErr.{BlockErr}
use Rattle.osm_elements.specs.declared.sums.Sums.{Sums}
use Rattle.tb_wire.specs.declared.varint.Wire.{Wire}
use Rattle.tb_wire.specs.Items.{with_prefix}
use Rattle.tb_wire.specs.Message.{packed, packed_at}
use Rattle.tb_wire.specs.Varint.{varint_at}
use Rattle.osm_elements.specs.Fields.{or_wire, with_found}
use Rattle.osm_elements.specs.Granularity.{next_sum, sums_from, sums}
use Rattle.osm_elements.specs.Sums.{made_from, left_of, IsSummed, Notes, seen_sums}
use Rattle.osm_elements.proofs.Prefixes.{with_found_nil, with_prefix-nil, number_read, no_number, all_numbers}

module _ {T : Type 0} (made : ℤ → T) where
  item : (prefix : List T) (n : ℤ) (later : Result (List ℤ) Why) → with_found prefix ((later >>= λ ns. Ok (n ∷ ns)) >>= λ ns. Ok (map made ns)) ≡ with_found (prefix ++ made n ∷ []) (later >>= λ ns. Ok (map made ns))
  item prefix n (Ok ns) = ap Ok (sym (append_assoc prefix (made n ∷ []) (map made ns)))
  item prefix n (Err why) = refl

  -- nothing was read yet
  pub summed_start : (kept : Sums T) → kept.items.items ≡ [] → kept.sum ≡ pos 0 → kept.is_over ≡ false → IsSummed made [] kept
  summed_start kept none zero fine = (λ later. rw (fine, none, zero) (sym (with_found_nil (made_from made (pos 0) later))), ap length none)

  module _ (differences : List ℕ) (old new : Sums T) (d : ℕ) (summed : IsSummed made differences old) (x : T) (grown : new.items.items ≡ old.items.items ++ x ∷ []) where
    opened : (later : List ℕ) → made_from made (pos 0) ((differences ++ d ∷ []) ++ later) ≡ left_of made old (d ∷ later)
    opened later = ap (made_from made (pos 0)) (append_assoc differences (d ∷ []) later) ∙ summed.0 (d ∷ later)

    longer : length new.items.items ≡ length (differences ++ d ∷ [])
    longer = omega (arith, ap length grown, length-append old.items.items (x ∷ []), length-append differences (d ∷ []), summed.1)

    -- a sum of 64 bits
    pub summed_next : x ≡ made new.sum → next_sum old.sum d ≡ Ok new.sum → new.is_over ≡ old.is_over → IsSummed made (differences ++ d ∷ []) new
    summed_next is fits same = (λ later. opened later ∙ (ap (λ b. if b then Err reasons.Range else with_found old.items.items (made_from made old.sum (d ∷ later))) (sym same) ∙ go new.is_over later), longer)
      where
        go : (b : Bool) (later : List ℕ) → (if b then Err reasons.Range else with_found old.items.items (made_from made old.sum (d ∷ later))) ≡ (if b then Err reasons.Range else with_found new.items.items (made_from made new.sum later))
        go true later = refl
        go false later =
            ap (λ r. with_found old.items.items ((r >>= λ n. sums_from n later >>= λ ns. Ok (n ∷ ns)) >>= λ ns. Ok (map made ns))) fits
            ∙ (item old.items.items new.sum (sums_from new.sum later) ∙ ap (λ xs. with_found xs (made_from made new.sum later)) (ap (λ y. old.items.items ++ y ∷ []) (sym is) ∙ sym grown))

    -- a sum past 64 bits
    pub summed_over : next_sum old.sum d ≡ Err reasons.Range → new.is_over ≡ true → IsSummed made (differences ++ d ∷ []) new
    summed_over over is = (λ later. opened later ∙ (go old.is_over later ∙ ap (λ b. if b then Err reasons.Range else with_found new.items.items (made_from made new.sum later)) (sym is)), longer)
      where
        go : (b : Bool) (later : List ℕ) → (if b then Err reasons.Range else with_found old.items.items (made_from made old.sum (d ∷ later))) ≡ Err reasons.Range
        go true later = refl
        go false later = ap (λ r. with_found old.items.items ((r >>= λ n. sums_from n later >>= λ ns. Ok (n ∷ ns)) >>= λ ns. Ok (map made ns))) over

  -- what is kept of all differences
  pub summed_end : (differences : List ℕ) (kept : Sums T) → IsSummed made differences kept → made_from made (pos 0) differences ≡ seen_sums kept
  summed_end differences kept summed = ap (made_from made (pos 0)) (sym (append-nil differences)) ∙ (summed.0 [] ∙ go kept.is_over)
    where
      go : (b : Bool) → (if b then Err reasons.Range else with_found kept.items.items (made_from made kept.sum [])) ≡ (if b then Err reasons.Range else Ok kept.items.items)
      go true = refl
      go false = ap Ok (append-nil kept.items.items)

  -- what was read of a packed list so far
  abbrev pub Packed : List ℕ → Sums T → Sums T → ℕ → Type 0
  Packed bytes start now at =
      (more : List ℕ) × (with_prefix more (packed_at bytes at) ≡ packed bytes) × ((differences : List ℕ) → IsSummed made differences start → IsSummed made (differences ++ more) now)

  module _ (bytes : List ℕ) (start now : Sums T) (at : ℕ) (told : Packed bytes start now at) where
    pub packed_next : (new : Sums T) (d next : ℕ) (u : ⊤) → at < length bytes → Ok (d, next) ≡ varint_at bytes at → Notes made now new (Ok u) (Ok (d ∷ [])) → Packed bytes start new next
    packed_next new d next u here read given = (
      told.0 ++ given.0,
      subst (λ m. with_prefix (told.0 ++ m) (packed_at bytes next) ≡ packed bytes) (only (d ∷ []) given.0 given.1) (number_read bytes at told.0 d next (packed bytes) here read told.1),
      λ differences h. subst (λ m. IsSummed made m new) (append_assoc differences told.0 given.0) (given.2 (differences ++ told.0) (told.2 differences h)),
    )
      where
        only : (xs ys : List ℕ) → ◌≡◌ {A = Result (List ℕ) Why} (Ok xs) (Ok ys) → xs ≡ ys
        only xs ys h = cc

    behind_nothing : with_prefix told.0 (packed_at bytes at) ≡ with_prefix [] (packed bytes)
    behind_nothing = told.1 ∙ sym (with_prefix-nil (packed bytes))

    pub packed_stops : (e : Wire) → at < length bytes → Err e ≡ varint_at bytes at → or_wire (packed bytes) ≡ Err reasons.Wire
    packed_stops e here read = sym (with_found_nil (or_wire (packed bytes))) ∙ no_number bytes at told.0 [] e here read behind_nothing

    pub packed_end : (u : ⊤) → length bytes ≡ at → Notes made start now (Ok u) (or_wire (packed bytes))
    packed_end u all = (told.0, sym (with_found_nil (or_wire (packed bytes))) ∙ all_numbers bytes at told.0 [] all behind_nothing, told.2)

-- sums that are kept as they are
made-whole : (r : Result (List ℤ) Why) → r >>= (λ ns. Ok (map (λ (n : ℤ). n) ns)) ≡ r
made-whole (Ok ns) = ap Ok (map-id ns)
made-whole (Err why) = refl

pub summed_whole : (differences : List ℕ) (kept : Sums ℤ) → IsSummed (λ (n : ℤ). n) differences kept → sums differences ≡ seen_sums kept
summed_whole differences kept summed = sym (made-whole (sums differences)) ∙ summed_end (λ (n : ℤ). n) differences kept summed
