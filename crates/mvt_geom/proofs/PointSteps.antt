-- The points of a path are read one by one.
use Rattle.std.proofs.Common.{◌≡◌, ℕ, ◌+◌, ◌<◌, ◌≤◌, Option, None, Some, List, [], ◌∷◌, ◌++◌, length, drop, get_or, refl, sym, ap, ◌∙◌, arith, append_assoc, length-drop}
use Rattle.std.proofs.lemmas.List.{append-nil, drop_more}
use Rattle.tb_types.specs.declared.location.Grid.{Grid}
use Rattle.mvt_geom.specs.Options.{◌>>=◌}
use Rattle.mvt_geom.specs.Geometry.{moved, points_of, cursor_after}
use Rattle.mvt_geom.specs.Walks.{with_prefix}

-- a point, and then those of the other parameters
abbrev pub with_point : List ℕ → Grid → Option (List Grid)
with_point parameters p = points_of p parameters >>= λ later. Some (p ∷ later)

one_more : (prefix : List Grid) (p : Grid) (r : Option (List Grid)) → with_prefix prefix (r >>= λ later. Some (p ∷ later)) ≡ with_prefix (prefix ++ p ∷ []) r
one_more prefix p None = refl
one_more prefix p (Some later) = rw append_assoc refl

pub points-begin : (from p : Grid) (x y : ℕ) (more : List ℕ) → Some p ≡ moved from x y → with_prefix (p ∷ []) (points_of p more) ≡ points_of from (x ∷ y ∷ more)
points-begin from p x y more e = sym (ap (λ r. r >>= with_point more) (sym e) ∙ whole (points_of p more))
  where
    whole : (r : Option (List Grid)) → (r >>= λ later. Some (p ∷ later)) ≡ with_prefix (p ∷ []) r
    whole None = refl
    whole (Some later) = refl

pub points-none : (from : Grid) (x y : ℕ) (more : List ℕ) → None ≡ moved from x y → points_of from (x ∷ y ∷ more) ≡ None
points-none from x y more e = ap (λ r. r >>= with_point more) (sym e)

two_more : (more : List ℕ) (at : ℕ) → at + 1 < length more → drop at more ≡ get_or more at 0 ∷ get_or more (at + 1) 0 ∷ drop (at + 2) more
two_more more at h =
    let place : at + 1 + 1 ≡ at + 2 = omega arith in
    drop_more more at 0 (omega (arith, h)) ∙ ap (λ l. get_or more at 0 ∷ l) (drop_more more (at + 1) 0 h ∙ ap (λ n. get_or more (at + 1) 0 ∷ drop n more) place)

pub points-step : (from p : Grid) (prefix : List Grid) (more : List ℕ) (at : ℕ) → at + 1 < length more → Some p ≡ moved from (get_or more at 0) (get_or more (at + 1) 0)
    → with_prefix prefix (points_of from (drop at more)) ≡ with_prefix (prefix ++ p ∷ []) (points_of p (drop (at + 2) more))
points-step from p prefix more at h e =
    ap (λ l. with_prefix prefix (points_of from l)) (two_more more at h) ∙ ap (λ r. with_prefix prefix (r >>= with_point (drop (at + 2) more))) (sym e) ∙ one_more prefix p (points_of p (drop (at + 2) more))

pub points-far : (from : Grid) (prefix : List Grid) (more : List ℕ) (at : ℕ) → at + 1 < length more → None ≡ moved from (get_or more at 0) (get_or more (at + 1) 0)
    → with_prefix prefix (points_of from (drop at more)) ≡ None
points-far from prefix more at h e =
    ap (λ l. with_prefix prefix (points_of from l)) (two_more more at h) ∙ ap (λ r. with_prefix prefix (r >>= with_point (drop (at + 2) more))) (sym e)

none : (from : Grid) (parameters : List ℕ) → length parameters ≤ 0 → points_of from parameters ≡ Some []
none from [] h = refl
none from (x ∷ more) h = absurd (omega (arith, h))

pub points-end : (from : Grid) (prefix : List Grid) (more : List ℕ) (at : ℕ) → length more ≤ at → with_prefix prefix (points_of from (drop at more)) ≡ Some prefix
points-end from prefix more at h = ap (with_prefix prefix) (none from (drop at more) (omega (arith, h, length-drop at more))) ∙ ap Some (append-nil prefix)

half : (from : Grid) (parameters : List ℕ) → length parameters ≡ 1 → points_of from parameters ≡ None
half from [] h = absurd (omega (arith, h))
half from (x ∷ []) h = refl
half from (x ∷ y ∷ more) h = absurd (omega (arith, h))

-- a parameter alone is no point
pub points-half : (from : Grid) (prefix : List Grid) (more : List ℕ) (at : ℕ) → at + 1 ≡ length more → with_prefix prefix (points_of from (drop at more)) ≡ None
points-half from prefix more at h = ap (with_prefix prefix) (half from (drop at more) (omega (arith, h, length-drop at more)))

-- the cursor is at the last point
pub cursor_after-push : (from : Grid) (points : List Grid) (p : Grid) → cursor_after from (points ++ p ∷ []) ≡ p
cursor_after-push from [] p = refl
cursor_after-push from (q ∷ points) p = cursor_after-push q points p

pub cursor_after-append : (from : Grid) (points later : List Grid) → cursor_after from (points ++ later) ≡ cursor_after (cursor_after from points) later
cursor_after-append from [] later = refl
cursor_after-append from (p ∷ points) later = cursor_after-append p points later
