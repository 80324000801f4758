-- What is still to be kept of a path, by the ends of the parts that are still to be treated, the next one first.
use Rattle.std.proofs.Common.{◌≡◌, ℕ, suc, ◌+◌, ◌-◌, ◌*◌, ◌<◌, ◌≤◌, Some, None, List, [], ◌∷◌, ◌++◌, length, take, drop, slice_range, reverse, length-append, length-drop, append_assoc, sym, ap, ◌∙◌, arith}
use Rattle.std.proofs.lemmas.List.{take-take, drop-take, drop-drop, get_or-take, get_or-drop, length-take-le, reverse-append, length-reverse}
use Rattle.tb_types.specs.declared.location.Grid.{Grid}
use Rattle.line_simplify.specs.Rule.{split_of, point, kept, simplified, IsSplitAt}
use Rattle.line_simplify.proofs.Parts.{split_within, inner, inner_whole, inner_split}

-- the points strictly between two places
abbrev pub strictly : List Grid → ℕ → ℕ → List Grid
strictly path i j = take (j - (i + 1)) (drop (i + 1) path)

-- the points that are kept of the part between two places
abbrev pub part : ℕ → List Grid → ℕ → ℕ → List Grid
part t path i j = inner t (point path i) (strictly path i j) (point path j)

-- the points that are kept after a place, where parts end at these places
abbrev pub pending : ℕ → List Grid → ℕ → List ℕ → List Grid
pending t path from [] = []
pending t path from (e ∷ es) = part t path from e ++ point path e ∷ pending t path e es

-- places rise up to the last one
abbrev pub Rises : ℕ → List ℕ → ℕ → Type 0
Rises from [] last = from ≤ last
Rises from (e ∷ es) last = (from < e) × Rises e es last

pub rises_within : (from : ℕ) (es : List ℕ) (last : ℕ) → Rises from es last → from + length es ≤ last
rises_within from [] last h = omega arith
rises_within from (e ∷ es) last h = omega (arith, h.0, rises_within e es last h.1)

length_between : (path : List Grid) (i j : ℕ) → j < length path → i < j → length (strictly path i j) ≡ j - (i + 1)
length_between path i j h k = length-take-le (j - (i + 1)) (drop (i + 1) path) (omega (arith, length-drop (i + 1) path))

module _ (path : List Grid) (i j k : ℕ) (order : i < j) (within : j < length path) (inside : k < j - (i + 1)) where
  front : take k (strictly path i j) ≡ strictly path i (i + 1 + k)
  front =
      let count : k ≡ i + 1 + k - (i + 1) = omega arith in
      take-take k (j - (i + 1)) (drop (i + 1) path) (omega arith) ∙ ap (λ n. take n (drop (i + 1) path)) count

  back : drop (k + 1) (strictly path i j) ≡ strictly path (i + 1 + k) j
  back =
      let count : j - (i + 1) ≡ k + 1 + (j - (i + 1 + k + 1)) = omega arith in
      let place : i + 1 + (k + 1) ≡ i + 1 + k + 1 = omega arith in
      ap (λ n. drop (k + 1) (take n (drop (i + 1) path))) count ∙ drop-take (k + 1) (j - (i + 1 + k + 1)) (drop (i + 1) path) ∙ ap (λ xs. take (j - (i + 1 + k + 1)) xs) (drop-drop (k + 1) (i + 1) path ∙ ap (λ n. drop n path) place)

  at : point (strictly path i j) k ≡ point path (i + 1 + k)
  at = get_or-take (j - (i + 1)) (drop (i + 1) path) k _ inside ∙ get_or-drop (i + 1) path k _

pub split_place : (t : ℕ) (path : List Grid) (i j k : ℕ) → i < j → j < length path → split_of t (point path i) (strictly path i j) (point path j) ≡ Some k → i + 1 + k < j
split_place t path i j k order within e = omega (arith, split_within t (point path i) (strictly path i j) (point path j) k e, length_between path i j within order)

part_split : (t : ℕ) (path : List Grid) (i j k : ℕ) → i < j → j < length path → split_of t (point path i) (strictly path i j) (point path j) ≡ Some k → part t path i j ≡ part t path i (i + 1 + k) ++ point path (i + 1 + k) ∷ part t path (i + 1 + k) j
part_split t path i j k order within e =
    let place = split_place t path i j k order within e in
    let inside : k < j - (i + 1) = omega arith in
    let a = point path i in
    let b = point path j in
    let p = point path (i + 1 + k) in
    let is = at path i j k order within inside in
    let left = front path i j k order within inside in
    let right = back path i j k order within inside in
    inner_split t a (strictly path i j) b k e ∙ ap (λ q. inner t a (take k (strictly path i j)) q ++ q ∷ inner t q (drop (k + 1) (strictly path i j)) b) is ∙ ap (λ xs. inner t a xs p ++ p ∷ inner t p (drop (k + 1) (strictly path i j)) b) left ∙ ap (λ ys. inner t a (strictly path i (i + 1 + k)) p ++ p ∷ inner t p ys b) right

-- a part that is split becomes two
pub pending_split : (t : ℕ) (path : List Grid) (i j k : ℕ) (es : List ℕ) → i < j → j < length path → split_of t (point path i) (strictly path i j) (point path j) ≡ Some k → pending t path i (j ∷ es) ≡ pending t path i ((i + 1 + k) ∷ j ∷ es)
pending_split t path i j k es order within e =
    let p = point path (i + 1 + k) in
    let rest : List Grid = point path j ∷ pending t path j es in
    ap (λ xs. xs ++ rest) (part_split t path i j k order within e) ∙ append_assoc (part t path i (i + 1 + k)) (p ∷ part t path (i + 1 + k) j) rest

-- of a part that isn't split only the end is kept
pub pending_whole : (t : ℕ) (path : List Grid) (i j : ℕ) (es : List ℕ) → split_of t (point path i) (strictly path i j) (point path j) ≡ None → pending t path i (j ∷ es) ≡ point path j ∷ pending t path j es
pending_whole t path i j es e = ap (λ xs. xs ++ point path j ∷ pending t path j es) (inner_whole t (point path i) (strictly path i j) (point path j) e)

start_fuel : (t : ℕ) (a : Grid) (xs : List Grid) (b : Grid) (n : ℕ) → length xs ≡ n → kept n t a xs b ≡ inner t a xs b
start_fuel t a xs b n e = ap (λ m. kept m t a xs b) (sym e)

-- the whole path is one part
start_line : (t : ℕ) (a p : Grid) (ps : List Grid) → simplified t (a ∷ p ∷ ps) ≡ a ∷ pending t (a ∷ p ∷ ps) 0 (suc (length ps) ∷ [])
unfolding simplified
start_line t a p ps =
    let path : List Grid = a ∷ p ∷ ps in
    let b = point (p ∷ ps) (length ps) in
    let count : length ps ≡ suc (length ps) - 1 = omega arith in
    let fuel : length (take (length ps) (p ∷ ps)) ≡ length ps = length-take-le (length ps) (p ∷ ps) (omega arith) in
    ap (λ xs. a ∷ (xs ++ b ∷ [])) (start_fuel t a (take (length ps) (p ∷ ps)) b (length ps) fuel ∙ ap (λ n. inner t a (take n (p ∷ ps)) b) count)

pub start : (t : ℕ) (path : List Grid) → 2 ≤ length path → simplified t path ≡ point path 0 ∷ pending t path 0 ((length path - 1) ∷ [])
start t [] h = absurd (omega arith)
start t (a ∷ []) h = absurd (omega arith)
start t (a ∷ p ∷ ps) h =
    let last : suc (length ps) ≡ suc (suc (length ps)) - 1 = omega arith in
    start_line t a p ps ∙ ap (λ n. a ∷ pending t (a ∷ p ∷ ps) 0 (n ∷ [])) last

reverse-push : (xs : List ℕ) (x : ℕ) → reverse (xs ++ x ∷ []) ≡ x ∷ reverse xs
reverse-push xs x = reverse-append xs (x ∷ [])

pub stack_is : (old rest : List ℕ) (to : ℕ) → old ≡ rest ++ to ∷ [] → reverse old ≡ to ∷ reverse rest
stack_is old rest to e = ap reverse e ∙ reverse-push rest to

pub stack_more : (rest mid new : List ℕ) (to at : ℕ) → mid ≡ rest ++ to ∷ [] → new ≡ mid ++ at ∷ [] → reverse new ≡ at ∷ to ∷ reverse rest
stack_more rest mid new to at e f = stack_is new mid at f ∙ ap (λ es. at ∷ es) (stack_is mid rest to e)

pub length_of_stack : (from last : ℕ) (es : List ℕ) → Rises from (reverse es) last → from + length es ≤ last
length_of_stack from last es h = omega (arith, rises_within from (reverse es) last h, length-reverse es)

-- the turn that splits a part
module _ (t : ℕ) (path points : List Grid) (from at to : ℕ) (old rest mid new : List ℕ) (popped : old ≡ rest ++ to ∷ []) (first : mid ≡ rest ++ to ∷ []) (second : new ≡ mid ++ at ∷ []) (is : IsSplitAt t path from at to) where
  pub split_rises : (last : ℕ) → Rises from (reverse old) last → Rises from (reverse new) last
  split_rises last h =
      let before = rw (stack_is old rest to popped) at h in
      rw (stack_more rest mid new to at first second) (is.after, (is.before, before.1))

  pub split_told : from < to → to < length path → points ++ pending t path from (reverse old) ≡ simplified t path → points ++ pending t path from (reverse new) ≡ simplified t path
  split_told order within told =
      let place : from + 1 + (at - (from + 1)) ≡ at = omega (arith, is.after) in
      let more = pending_split t path from to (at - (from + 1)) (reverse rest) order within is.split ∙ ap (λ n. pending t path from (n ∷ to ∷ reverse rest)) place in
      ap (λ es. points ++ pending t path from es) (stack_more rest mid new to at first second) ∙ ap (λ xs. points ++ xs) (sym more) ∙ sym (ap (λ es. points ++ pending t path from es) (stack_is old rest to popped)) ∙ told

  pub split_smaller : (last n : ℕ) → last < n → Rises from (reverse old) last → 2 * (n - from) - length new < 2 * (n - from) - length old
  split_smaller last n h rises =
      let after = length_of_stack from last new (split_rises last rises) in
      omega (arith, ap length popped, ap length first, ap length second, length-append rest (to ∷ []), length-append mid (at ∷ []))

-- the turn that keeps the end of a part
module _ (t : ℕ) (path points more : List Grid) (from to : ℕ) (old rest : List ℕ) (popped : old ≡ rest ++ to ∷ []) (kept_more : more ≡ points ++ point path to ∷ []) where
  pub whole_rises : (last : ℕ) → Rises from (reverse old) last → Rises to (reverse rest) last
  whole_rises last h = (rw (stack_is old rest to popped) at h).1

  pub whole_told : split_of t (point path from) (slice_range path (from + 1) to) (point path to) ≡ None → points ++ pending t path from (reverse old) ≡ simplified t path → more ++ pending t path to (reverse rest) ≡ simplified t path
  whole_told none told =
      let next = pending t path to (reverse rest) in
      ap (λ xs. xs ++ next) kept_more ∙ append_assoc points (point path to ∷ []) next ∙ ap (λ xs. points ++ xs) (sym (pending_whole t path from to (reverse rest) none)) ∙ sym (ap (λ es. points ++ pending t path from es) (stack_is old rest to popped)) ∙ told

  pub whole_smaller : (last n : ℕ) → last < n → Rises from (reverse old) last → 2 * (n - to) - length rest < 2 * (n - from) - length old
  whole_smaller last n h rises =
      let before = rw (stack_is old rest to popped) at rises in
      let after = length_of_stack to last rest (whole_rises last rises) in
      omega (arith, before.0, ap length popped, length-append rest (to ∷ []))

-- before the first turn
module _ (t : ℕ) (path points none : List Grid) (ends empty : List ℕ) (line : 2 ≤ length path) (nothing : none ≡ []) (kept_first : points ≡ none ++ point path 0 ∷ []) (no_end : empty ≡ []) (only_last : ends ≡ empty ++ (length path - 1) ∷ []) where
  last_alone : reverse ends ≡ (length path - 1) ∷ []
  last_alone = stack_is ends empty (length path - 1) only_last ∙ ap (λ es. (length path - 1) ∷ reverse es) no_end

  pub start_told : points ++ pending t path 0 (reverse ends) ≡ simplified t path
  start_told =
      let one : points ≡ point path 0 ∷ [] = kept_first ∙ ap (λ xs. xs ++ point path 0 ∷ []) nothing in
      ap (λ xs. xs ++ pending t path 0 (reverse ends)) one ∙ ap (λ es. point path 0 ∷ pending t path 0 es) last_alone ∙ sym (start t path line)

  pub start_rises : Rises 0 (reverse ends) (length path - 1)
  start_rises = rw last_alone (omega arith, omega arith)
