-- Pieces that are given one after another.
use Rattle.std.proofs.Common.{◌≡◌, ℕ, zero, suc, ◌+◌, ◌<◌, ◌≤◌, Option, Some, None, List, [], ◌∷◌, ◌++◌, append_assoc, append-nil, Result, Ok, Err, refl, sym, ap, ◌∙◌, arith}
use Rattle.std.specs.Prelude.{⊤}
use Rattle.tb_types.specs.declared.tile.TileXyz.{TileXyz}
use Rattle.tb_types.specs.declared.shape.Shape.{Shape}
use Rattle.tile_clip.specs.declared.taker.ClipErr.{ClipErr}
use Rattle.tile_clip.specs.declared.taker.ClipErr.TheVariants.{Taker, Memory}
use Rattle.tile_clip.specs.Given.{with_more, EndsBy, Gives}
use Rattle.tile_clip.specs.Pieces.{of_each}

pub with_more-nil : (told : Option (List (TileXyz × Shape))) → told ≡ with_more told []
with_more-nil None = refl
with_more-nil (Some taken) = ap Some (sym (append-nil taken))

pub with_more-more : (told : Option (List (TileXyz × Shape))) (xs ys : List (TileXyz × Shape)) → with_more (with_more told xs) ys ≡ with_more told (xs ++ ys)
with_more-more None xs ys = refl
with_more-more (Some taken) xs ys = ap Some (append_assoc taken xs ys)

module _ {T Stop : Type 0} (taken : T → Option (List (TileXyz × Shape))) (steps : T → List (TileXyz × Shape) → T → Type 0) (stops : T → T → Stop → Type 0) where
  -- no piece at all
  pub gives-none : (a : T) (u : ⊤) → steps a [] a → Gives taken steps stops a a [] (Ok u)
  gives-none a u none = record { all = with_more-nil (taken a); prefix = tt; ok = none; err = tt }

  -- want of memory before the first piece
  pub gives-starved : (a : T) (pieces : List (TileXyz × Shape)) → steps a [] a → Gives taken steps stops a a pieces (Err Memory)
  gives-starved a pieces none = record { all = tt; prefix = ([], pieces, refl, with_more-nil (taken a)); ok = tt; err = ([], pieces, refl, none) }

  -- one piece
  pub gives-one : (a b : T) (u : ⊤) (piece : TileXyz × Shape) → taken b ≡ with_more (taken a) (piece ∷ []) → steps a (piece ∷ []) b → Gives taken steps stops a b (piece ∷ []) (Ok u)
  gives-one a b u piece told step = record { all = told; prefix = tt; ok = step; err = tt }

  pub gives-refused : (a b : T) (piece : TileXyz × Shape) (stop : Stop) → taken b ≡ taken a → stops a b stop → Gives taken steps stops a b (piece ∷ []) (Err (Taker stop))
  gives-refused a b piece stop told refused = record { all = tt; prefix = ([], piece ∷ [], refl, told ∙ with_more-nil (taken a)); ok = tt; err = refused }

  ended : (a b : T) (xs ys : List (TileXyz × Shape)) (e : ClipErr Stop) → EndsBy taken steps stops a b xs e → EndsBy taken steps stops a b (xs ++ ys) e
  ended a b xs ys (Taker stop) h = h
  ended a b xs ys Memory h = (h.0, h.1 ++ ys, ap (λ zs. zs ++ ys) h.2 ∙ append_assoc h.0 h.1 ys, h.3)

  -- more pieces than those after which it ended
  pub gives-ended : (a b : T) (xs ys : List (TileXyz × Shape)) (e : ClipErr Stop) → Gives taken steps stops a b xs (Err e) → Gives taken steps stops a b (xs ++ ys) (Err e)
  gives-ended a b xs ys e h =
      let prefix = h.prefix in
      record { all = tt; prefix = (prefix.0, prefix.1 ++ ys, ap (λ zs. zs ++ ys) prefix.2 ∙ append_assoc prefix.0 prefix.1 ys, prefix.3); ok = tt; err = ended a b xs ys e h.err }

  module _ (on : (a b c : T) (xs ys : List (TileXyz × Shape)) → steps a xs b → steps b ys c → steps a (xs ++ ys) c)
      (after : (a b c : T) (xs : List (TileXyz × Shape)) (stop : Stop) → steps a xs b → stops b c stop → stops a c stop) where
    ends-after : (a b c : T) (xs ys : List (TileXyz × Shape)) (e : ClipErr Stop) → steps a xs b → EndsBy taken steps stops b c ys e → EndsBy taken steps stops a c (xs ++ ys) e
    ends-after a b c xs ys (Taker stop) h k = after a b c xs stop h k
    ends-after a b c xs ys Memory h k = (xs ++ k.0, k.1, ap (λ zs. xs ++ zs) k.2 ∙ sym (append_assoc xs k.0 k.1), on a b c xs k.0 h k.3)

    -- some pieces and then more
    pub gives-more : (a b c : T) (u : ⊤) (xs ys : List (TileXyz × Shape)) (r : Result ⊤ (ClipErr Stop)) → Gives taken steps stops a b xs (Ok u) → Gives taken steps stops b c ys r → Gives taken steps stops a c (xs ++ ys) r
    gives-more a b c u xs ys (Ok v) h k = record {
      all = k.all ∙ ap (λ told. with_more told ys) h.all ∙ with_more-more (taken a) xs ys;
      prefix = tt;
      ok = on a b c xs ys h.ok k.ok;
      err = tt;
    }
    gives-more a b c u xs ys (Err e) h k =
        let prefix = k.prefix in
        record {
          all = tt;
          prefix = (xs ++ prefix.0, prefix.1, ap (λ zs. xs ++ zs) prefix.2 ∙ sym (append_assoc xs prefix.0 prefix.1), prefix.3 ∙ ap (λ told. with_more told prefix.0) h.all ∙ with_more-more (taken a) xs prefix.0);
          ok = tt;
          err = ends-after a b c xs ys e h.ok k.err;
        }

-- what is given of numbers, in two parts
module _ {A : Type 0} where
  pub of_each-split : (f : ℕ → List A) (first m n : ℕ) → of_each f first (m + n) ≡ of_each f first m ++ of_each f (first + m) n
  of_each-split f first zero n = let e : 0 + n ≡ n = omega arith in let d : first + 0 ≡ first = omega arith in rw e (rw d refl)
  of_each-split f first (suc m) n =
      let e : suc m + n ≡ suc (m + n) = omega arith in
      let d : first + suc m ≡ (first + 1) + m = omega arith in
      rw e (rw d (ap (λ xs. f first ++ xs) (of_each-split f (first + 1) m n) ∙ sym (append_assoc (f first) (of_each f (first + 1) m) (of_each f ((first + 1) + m) n))))

  -- of two functions that are one on the numbers
  pub of_each-same : (f g : ℕ → List A) (first n : ℕ) → ((i : ℕ) → first ≤ i → i < first + n → f i ≡ g i) → of_each f first n ≡ of_each g first n
  of_each-same f g first zero h = refl
  of_each-same f g first (suc n) h =
      ap (λ xs. xs ++ of_each f (first + 1) n) (h first (omega arith) (omega arith)) ∙ ap (λ xs. g first ++ xs) (of_each-same f g (first + 1) n (λ i low high. h i (omega arith) (omega arith)))

  -- of one that gives nothing
  pub of_each-nothing : (f : ℕ → List A) (first n : ℕ) → ((i : ℕ) → first ≤ i → i < first + n → f i ≡ []) → of_each f first n ≡ []
  of_each-nothing f first zero h = refl
  of_each-nothing f first (suc n) h =
      ap (λ xs. xs ++ of_each f (first + 1) n) (h first (omega arith) (omega arith)) ∙ of_each-nothing f (first + 1) n (λ i low high. h i (omega arith) (omega arith))

  pub of_each-next : (f : ℕ → List A) (first n : ℕ) → of_each f first (n + 1) ≡ of_each f first n ++ f (first + n)
  of_each-next f first n = of_each-split f first n 1 ∙ ap (λ xs. of_each f first n ++ xs) (append-nil (f (first + n)))

  -- of one number
  pub of_each-one : (f : ℕ → List A) (first n : ℕ) → n ≡ 1 → of_each f first n ≡ f first
  of_each-one f first n e = ap (of_each f first) e ∙ append-nil (f first)
