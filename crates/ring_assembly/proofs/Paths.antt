-- What paths show that go on from each other.
use Rattle.std.proofs.Common.{◌≡◌, ℕ, zero, suc, ◌-◌, ◌<◌, min, Bool, true, false, cond, ◌||◌, Option, Some, None, List, [], ◌∷◌, ◌++◌, length, take, drop, get_or, refl, sym, ap, ◌∙◌, append_assoc, arith}
use Rattle.std.proofs.lemmas.List.{take-append-drop}
use Rattle.tb_types.specs.declared.location.World.{World}
use Rattle.ring_assembly.specs.Sides.{on_edge, crosses, differ, on_path, odd_path, shown_along}
use Rattle.ring_assembly.specs.Envelopes.{end_of}

-- what two paths show together, of which the second begins where the first ends
abbrev pub together : Option Bool → Option Bool → Option Bool
together None y = None
together (Some x) None = None
together (Some x) (Some y) = Some (differ x y)

differ_over : (x y z : Bool) → differ x (differ y z) ≡ differ (differ x y) z
differ_over true true true = refl
differ_over true true false = refl
differ_over true false z = refl
differ_over false y z = refl

on_append : (p a : World) (xs ys : List World) → on_path p a (xs ++ ys) ≡ on_path p a xs || on_path p (end_of a xs) ys
on_append p a [] ys = refl
on_append p a (b ∷ xs) ys = ap (λ t. on_edge a b p || t) (on_append p b xs ys) ∙ over (on_edge a b p) (on_path p b xs) (on_path p (end_of b xs) ys)
  where
    over : (x y z : Bool) → x || (y || z) ≡ (x || y) || z
    over true y z = refl
    over false y z = refl

odd_append : (p a : World) (xs ys : List World) → odd_path p a (xs ++ ys) ≡ differ (odd_path p a xs) (odd_path p (end_of a xs) ys)
odd_append p a [] ys = refl
odd_append p a (b ∷ xs) ys = ap (differ (crosses a b p)) (odd_append p b xs ys) ∙ differ_over (crosses a b p) (odd_path p b xs) (odd_path p (end_of b xs) ys)

pub shown_append : (p a : World) (xs ys : List World) → shown_along p a (xs ++ ys) ≡ together (shown_along p a xs) (shown_along p (end_of a xs) ys)
shown_append p a xs ys =
    let z = end_of a xs in
    ap (λ b. cond b None (Some (odd_path p a (xs ++ ys)))) (on_append p a xs ys) ∙ ap (λ o. cond (on_path p a xs || on_path p z ys) None (Some o)) (odd_append p a xs ys)
    ∙ merged (on_path p a xs) (on_path p z ys) (odd_path p a xs) (odd_path p z ys)
  where
    merged : (b c x y : Bool) → cond (b || c) None (Some (differ x y)) ≡ together (cond b None (Some x)) (cond c None (Some y))
    merged true c x y = refl
    merged false true x y = refl
    merged false false x y = refl

-- one edge
edge_shown : (b c : Bool) → cond (b || false) None (Some (differ c false)) ≡ cond b None (Some c)
edge_shown true c = refl
edge_shown false true = refl
edge_shown false false = refl

pub one_edge : (p a b : World) → shown_along p a (b ∷ []) ≡ cond (on_edge a b p) None (Some (crosses a b p))
one_edge p a b = edge_shown (on_edge a b p) (crosses a b p)

pub nothing_before : (o : Option Bool) → together (Some false) o ≡ o
nothing_before None = refl
nothing_before (Some x) = refl

together_over : (x y : Bool) (o : Option Bool) → together (Some (differ x y)) o ≡ together (Some x) (together (Some y) o)
together_over x y None = refl
together_over x y (Some z) = ap Some (sym (differ_over x y z))

-- a stretch more
module _ (p : World) (inside : Bool) (a : World) (left stretch more : List World) (end : World) (whole : Option Bool) (first : stretch ≡ take 64 left) (behind : more ≡ drop 64 left)
    (told : together (Some inside) (shown_along p a (left ++ end ∷ [])) ≡ whole) where
  parts : shown_along p a (left ++ end ∷ []) ≡ together (shown_along p a stretch) (shown_along p (end_of a stretch) (more ++ end ∷ []))
  parts =
      let cut : left ≡ stretch ++ more = sym (take-append-drop 64 left) ∙ ap (λ l. l ++ drop 64 left) (sym first) ∙ ap (λ l. stretch ++ l) (sym behind) in
      ap (λ l. shown_along p a (l ++ end ∷ [])) cut ∙ ap (shown_along p a) (append_assoc stretch more (end ∷ [])) ∙ shown_append p a stretch (more ++ end ∷ [])

  pub on_stretch : shown_along p a stretch ≡ None → None ≡ whole
  on_stretch e = sym (ap (together (Some inside)) (parts ∙ ap (λ o. together o (shown_along p (end_of a stretch) (more ++ end ∷ []))) e)) ∙ told

  pub behind_stretch : (odd : Bool) → shown_along p a stretch ≡ Some odd → together (Some (differ inside odd)) (shown_along p (end_of a stretch) (more ++ end ∷ [])) ≡ whole
  behind_stretch odd e =
      let rest = shown_along p (end_of a stretch) (more ++ end ∷ []) in
      together_over inside odd rest ∙ sym (ap (together (Some inside)) (parts ∙ ap (λ o. together o rest) e)) ∙ told

-- a path that goes on to one point more
module _ (p from : World) (path : List World) (first last : World) (ends : last ≡ end_of from path) where
  parted : shown_along p from (path ++ first ∷ []) ≡ together (shown_along p from path) (cond (on_edge last first p) None (Some (crosses last first p)))
  parted =
      shown_append p from path (first ∷ []) ∙ ap (together (shown_along p from path)) (one_edge p (end_of from path) first)
      ∙ ap (λ z. together (shown_along p from path) (cond (on_edge z first p) None (Some (crosses z first p)))) (sym ends)

  pub path_on : shown_along p from path ≡ None → None ≡ shown_along p from (path ++ first ∷ [])
  path_on e = sym (parted ∙ ap (λ o. together o (cond (on_edge last first p) None (Some (crosses last first p)))) e)

  pub last_on : (odd : Bool) → shown_along p from path ≡ Some odd → on_edge last first p ≡ true → None ≡ shown_along p from (path ++ first ∷ [])
  last_on odd e on =
      sym (parted ∙ ap (λ o. together o (cond (on_edge last first p) None (Some (crosses last first p)))) e ∙ ap (λ b. together (Some odd) (cond b None (Some (crosses last first p)))) on)

  pub last_off : (odd : Bool) → shown_along p from path ≡ Some odd → on_edge last first p ≡ false → Some (differ odd (crosses last first p)) ≡ shown_along p from (path ++ first ∷ [])
  last_off odd e off =
      sym (parted ∙ ap (λ o. together o (cond (on_edge last first p) None (Some (crosses last first p)))) e ∙ ap (λ b. together (Some odd) (cond b None (Some (crosses last first p)))) off)

-- where a path ends
pub end_last : (a : World) (xs : List World) (d : World) → 0 < length xs → end_of a xs ≡ get_or xs (length xs - 1) d
end_last a [] d h = absurd (omega arith)
end_last a (b ∷ []) d h = refl
end_last a (b ∷ c ∷ xs) d h =
    let last : length (b ∷ c ∷ xs) - 1 ≡ suc (length (c ∷ xs) - 1) = omega arith in
    end_last b (c ∷ xs) d (omega arith) ∙ ap (λ k. get_or (b ∷ c ∷ xs) k d) (sym last)

-- a stretch of a path that may be shorter
pub drop_min : (n : ℕ) (xs : List World) → drop (min n (length xs)) xs ≡ drop n xs
drop_min zero xs = let none : min 0 (length xs) ≡ 0 = omega arith in ap (λ k. drop k xs) none
drop_min (suc n) [] = let none : min (suc n) 0 ≡ 0 = omega arith in ap (λ k. drop {A = World} k []) none
drop_min (suc n) (x ∷ xs) = let less : min (suc n) (length (x ∷ xs)) ≡ suc (min n (length xs)) = omega arith in ap (λ k. drop k (x ∷ xs)) less ∙ drop_min n xs
