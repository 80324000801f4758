-- Paths are read one by one: what integers are is a path at the front and what the integers behind it are.
use Rattle.std.proofs.Common.{◌≡◌, ℕ, zero, suc, ◌*◌, ◌/◌, ◌<◌, ◌≤◌, ◌==◌, ◌&&◌, Bool, true, false, if◌then◌else◌, Option, None, Some, is_some, IfSome, List, [], ◌∷◌, ◌++◌, length, drop, refl, sym, ap, ◌∙◌, arith, length-drop, append_assoc, true≢false}
use Rattle.std.proofs.lemmas.Bool.{eqb-true}
use Rattle.std.proofs.lemmas.List.{append-nil}
use Rattle.tb_types.specs.declared.location.Grid.{Grid}
use Rattle.mvt_geom.specs.Options.{◌>>=◌}
use Rattle.mvt_geom.specs.Commands.{NextPath, command, close_path, move_to, least, is_line, ended, path_at, paths_within, paths_of, are_paths}
use Rattle.mvt_geom.specs.Geometry.{points_of, cursor_after, all_points}
use Rattle.mvt_geom.specs.Walks.{with_prefix}

-- of a choice it holds where it holds of both
pub IfSome-either : {A : Type 0} (P : A → Type 0) (b : Bool) (x y : Option A) → (b ≡ true → IfSome x P) → (b ≡ false → IfSome y P) → IfSome (if b then x else y) P
IfSome-either P true x y h k = h refl
IfSome-either P false x y h k = k refl

ended-within : (closed : Bool) (parameters behind : List ℕ) (n : ℕ) → length behind < n → IfSome (ended closed parameters behind) (λ path. length path.behind < n)
ended-within false parameters behind n h = h
ended-within true parameters [] n h = tt
ended-within true parameters (close ∷ behind) n h = IfSome-either (λ path. length path.behind < n) (close == command close_path 1) _ _ (λ _. omega (arith, h)) (λ _. tt)

-- a path takes some integers
pub path_at-within : (closed : Bool) (ints : List ℕ) → IfSome (path_at closed ints) (λ path. length path.behind < length ints)
unfolding path_at
path_at-within closed [] = tt
path_at-within closed (move ∷ []) = tt
path_at-within closed (move ∷ x ∷ []) = tt
path_at-within closed (move ∷ x ∷ y ∷ []) = tt
path_at-within closed (move ∷ x ∷ y ∷ line ∷ rest) =
    IfSome-either (λ path. length path.behind < length (move ∷ x ∷ y ∷ line ∷ rest)) ((move == command move_to 1) && is_line (least closed) line rest) _ _
    (λ _. ended-within closed _ (drop (2 * (line / 8)) rest) (length (move ∷ x ∷ y ∷ line ∷ rest)) (omega (arith, length-drop (2 * (line / 8)) rest))) (λ _. tt)

-- a path, and then what is read behind it
abbrev pub with_path : Bool → NextPath → Option (List (List ℕ))
with_path closed path = paths_of closed path.behind >>= λ later. Some (path.parameters ∷ later)

same_rest : (closed : Bool) (t u n : ℕ) (r : Option NextPath) → IfSome r (λ path. length path.behind < n) → ((ints : List ℕ) → length ints < n → paths_within t closed ints ≡ paths_within u closed ints)
    → (r >>= λ path. paths_within t closed path.behind >>= λ later. Some (path.parameters ∷ later)) ≡ (r >>= λ path. paths_within u closed path.behind >>= λ later. Some (path.parameters ∷ later))
same_rest closed t u n None h k = refl
same_rest closed t u n (Some path) h k = rw (k path.behind h) refl

-- where there is room for all paths, more room changes nothing
paths_within-enough : (closed : Bool) (t u : ℕ) (ints : List ℕ) → length ints ≤ t → length ints ≤ u → paths_within t closed ints ≡ paths_within u closed ints
paths_within-enough closed zero zero [] h k = refl
paths_within-enough closed zero (suc u) [] h k = refl
paths_within-enough closed (suc t) zero [] h k = refl
paths_within-enough closed (suc t) (suc u) [] h k = refl
paths_within-enough closed zero u (n ∷ ints) h k = absurd (omega (arith, h))
paths_within-enough closed (suc t) zero (n ∷ ints) h k = absurd (omega (arith, k))
paths_within-enough closed (suc t) (suc u) (n ∷ ints) h k =
    same_rest closed t u (suc (length ints)) (path_at closed (n ∷ ints)) (path_at-within closed (n ∷ ints)) (λ later l. paths_within-enough closed t u later (omega (arith, h, l)) (omega (arith, k, l)))

step_of : (closed : Bool) (t : ℕ) (r : Option NextPath) → IfSome r (λ path. length path.behind < suc t)
    → (r >>= λ path. paths_within t closed path.behind >>= λ later. Some (path.parameters ∷ later)) ≡ r >>= with_path closed
unfolding paths_of
step_of closed t None h = refl
step_of closed t (Some path) h = rw (paths_within-enough closed t (length path.behind) path.behind (omega (arith, h)) (omega arith)) refl

pub paths_of-step : (closed : Bool) (ints : List ℕ) → (length ints == 0) ≡ false → paths_of closed ints ≡ path_at closed ints >>= with_path closed
unfolding paths_of
paths_of-step closed [] h = absurd (true≢false h)
paths_of-step closed (n ∷ ints) h = step_of closed (length ints) (path_at closed (n ∷ ints)) (path_at-within closed (n ∷ ints))

pub paths_of-end : (closed : Bool) (ints : List ℕ) → (length ints == 0) ≡ true → paths_of closed ints ≡ Some []
unfolding paths_of
paths_of-end closed [] h = refl
paths_of-end closed (n ∷ ints) h = absurd (omega (arith, eqb-true _ _ h))

pub are_paths-some : (closed : Bool) (ints : List ℕ) → (length ints == 0) ≡ false → are_paths closed ints ≡ is_some (paths_of closed ints)
are_paths-some closed ints h = rw h refl

-- the form goes on behind a path
some_more : (parameters : List ℕ) (r : Option (List (List ℕ))) → is_some (r >>= λ later. Some (parameters ∷ later)) ≡ is_some r
some_more parameters None = refl
some_more parameters (Some later) = refl

pub form-step : (closed : Bool) (ints : List ℕ) (path : NextPath) → (length ints == 0) ≡ false → Some path ≡ path_at closed ints → is_some (paths_of closed ints) ≡ is_some (paths_of closed path.behind)
form-step closed ints path h e = ap is_some (paths_of-step closed ints h ∙ ap (λ r. r >>= with_path closed) (sym e)) ∙ some_more path.parameters (paths_of closed path.behind)

pub form-stop : (closed : Bool) (ints : List ℕ) → (length ints == 0) ≡ false → None ≡ path_at closed ints → is_some (paths_of closed ints) ≡ false
form-stop closed ints h e = ap is_some (paths_of-step closed ints h ∙ ap (λ r. r >>= with_path closed) (sym e))

-- the lines or rings of integers go on behind a path
path_more : (prefix : List (List Grid)) (points : List Grid) (parameters : List ℕ) (from : Grid) (r : Option (List (List ℕ))) → points_of from parameters ≡ Some points
    → with_prefix prefix (r >>= (λ later. Some (parameters ∷ later)) >>= all_points from) ≡ with_prefix (prefix ++ points ∷ []) (r >>= all_points (cursor_after from points))
path_more prefix points parameters from None e = refl
path_more prefix points parameters from (Some later) e = rw e (last (all_points (cursor_after from points) later))
  where
    last : (r : Option (List (List Grid))) → with_prefix prefix (r >>= λ rest. Some (points ∷ rest)) ≡ with_prefix (prefix ++ points ∷ []) r
    last None = refl
    last (Some rest) = rw append_assoc refl

pub lines-step : (closed : Bool) (ints : List ℕ) (path : NextPath) (from : Grid) (prefix : List (List Grid)) (points : List Grid) → (length ints == 0) ≡ false → Some path ≡ path_at closed ints → points_of from path.parameters ≡ Some points
    → with_prefix prefix (paths_of closed ints >>= all_points from) ≡ with_prefix (prefix ++ points ∷ []) (paths_of closed path.behind >>= all_points (cursor_after from points))
lines-step closed ints path from prefix points h e is =
    ap (λ r. with_prefix prefix (r >>= all_points from)) (paths_of-step closed ints h ∙ ap (λ r. r >>= with_path closed) (sym e)) ∙ path_more prefix points path.parameters from (paths_of closed path.behind) is

pub lines-stop : (closed : Bool) (ints : List ℕ) (from : Grid) (prefix : List (List Grid)) → (length ints == 0) ≡ false → None ≡ path_at closed ints → with_prefix prefix (paths_of closed ints >>= all_points from) ≡ None
lines-stop closed ints from prefix h e = ap (λ r. with_prefix prefix (r >>= all_points from)) (paths_of-step closed ints h ∙ ap (λ r. r >>= with_path closed) (sym e))

none_more : (prefix : List (List Grid)) (parameters : List ℕ) (from : Grid) (r : Option (List (List ℕ))) → points_of from parameters ≡ None
    → with_prefix prefix (r >>= (λ later. Some (parameters ∷ later)) >>= all_points from) ≡ None
none_more prefix parameters from None e = refl
none_more prefix parameters from (Some later) e = rw e refl

pub lines-far : (closed : Bool) (ints : List ℕ) (path : NextPath) (from : Grid) (prefix : List (List Grid)) → (length ints == 0) ≡ false → Some path ≡ path_at closed ints → points_of from path.parameters ≡ None
    → with_prefix prefix (paths_of closed ints >>= all_points from) ≡ None
lines-far closed ints path from prefix h e far =
    ap (λ r. with_prefix prefix (r >>= all_points from)) (paths_of-step closed ints h ∙ ap (λ r. r >>= with_path closed) (sym e)) ∙ none_more prefix path.parameters from (paths_of closed path.behind) far

pub lines-end : (closed : Bool) (ints : List ℕ) (from : Grid) (prefix : List (List Grid)) → (length ints == 0) ≡ true → with_prefix prefix (paths_of closed ints >>= all_points from) ≡ Some prefix
lines-end closed ints from prefix h = ap (λ r. with_prefix prefix (r >>= all_points from)) (paths_of-end closed ints h) ∙ ap Some (append-nil prefix)
