-- What is pushed first is popped first: each move keeps the order.
use Rattle.std.proofs.Common.{◌≡◌, ◌≢◌, ◌⊎◌, inl, inr, ⊎_elim, ℕ, ◌+◌, Bool, true, false, true≢false, List, [], ◌∷◌, ◌++◌, set, length, ap, sym, ◌∙◌, refl, arith, append_assoc}
use Rattle.std.proofs.lemmas.List.{append-nil}
use mathlib.Core.Option.{some}
use lib.ListN.{get_elem?}
use Rattle.crossbeam_queue.proofs.Lists.{at_set, at_snoc}
use Rattle.tb_types.specs.Bags.{total}
use Rattle.tb_types.proofs.Totals.{total_set, total_push, total_at, total_two}
use Rattle.batch_queue.specs.declared.entry.Entry.{Entry}
use Rattle.batch_queue.specs.declared.entry.Hand.{Hand}
use Rattle.batch_queue.specs.Facts.{joins_in_order}
use Rattle.batch_queue.specs.Rule.{HasAll, InOrder}

pub nothing_in : (xs : List Entry) → length xs ≡ 0 → xs ≡ []
nothing_in [] e = refl
nothing_in (x ∷ xs) e = absurd (omega arith)

length_both : (xs ys : List Entry) → length (xs ++ ys) ≡ length xs + length ys
length_both [] ys = omega arith
length_both (x ∷ xs) ys = let r = length_both xs ys in omega arith

-- of two lists one behind the other that are in order one is empty
one_of : (a : Bool) (xs : List Entry) (b : Bool) (ys : List Entry) → joins_in_order a xs b ys ≡ true → ((a ≡ true) × (xs ++ ys ≡ xs)) ⊎ ((b ≡ true) × (xs ++ ys ≡ ys))
one_of a [] b ys e = inr (e, refl)
one_of a (x ∷ xs) b [] e = inl (e, append-nil (x ∷ xs))
one_of a (x ∷ xs) b (y ∷ ys) e = absurd (true≢false (sym e))

-- for the list of what was put, and for that of what was taken
module _ (list : Hand → List Entry) (flag : Hand → Bool) where
  -- a pass changes, but not its list
  pub all_same : (views : List Hand) (pass : ℕ) (v w : Hand) (xs : List Entry) → get_elem? views pass ≡ some v → list w ≡ list v → flag w ≡ flag v → HasAll list flag (set views pass w) xs → HasAll list flag views xs
  all_same views pass v w xs at same order h =
      let t = total_set (λ u. length (list u)) views pass v w at in
      let l = ap length same in
      let a = h.all in
      let every : total (λ u. length (list u)) views ≡ length xs = omega arith in
      ⊎_elim
      (λ (s : (h.place ≡ pass) × (w ≡ h.view)).
      record { place = pass; view = v; at = at; ordered = sym order ∙ ap flag s.1 ∙ h.ordered; listed = sym same ∙ ap list s.1 ∙ h.listed; all = every })
      (λ (s : (h.place ≢ pass) × (get_elem? views h.place ≡ some h.view)).
      record { place = h.place; view = h.view; at = s.1; ordered = h.ordered; listed = h.listed; all = every })
      (at_set views pass h.place w h.view h.at)

  -- a list gets one more: where one pass has all, it is that one
  pub all_grown : (views : List Hand) (pass : ℕ) (v w : Hand) (e : Entry) (xs : List Entry) → get_elem? views pass ≡ some v → list w ≡ list v ++ e ∷ [] → flag w ≡ flag v → HasAll list flag (set views pass w) xs
      → (front : List Entry) × (xs ≡ front ++ e ∷ []) × HasAll list flag views front
  all_grown views pass v w e xs at grown order h =
      let t = total_set (λ u. length (list u)) views pass v w at in
      let l : length (list w) ≡ length (list v) + 1 = ap length grown ∙ length_both (list v) (e ∷ []) in
      let a = h.all in
      ⊎_elim
      (λ (s : (h.place ≡ pass) × (w ≡ h.view)).
      let is : list w ≡ xs = ap list s.1 ∙ h.listed in
      let n = ap length is in
      let every : total (λ u. length (list u)) views ≡ length (list v) = omega arith in
      (list v, sym is ∙ grown, record { place = pass; view = v; at = at; ordered = sym order ∙ ap flag s.1 ∙ h.ordered; listed = refl; all = every }))
      (λ (s : (h.place ≢ pass) × (get_elem? views h.place ≡ some h.view)).
      let two = total_two (λ u. length (list u)) views h.place pass h.view v s.0 s.1 at in
      let n = ap length h.listed in
      absurd (omega arith))
      (at_set views pass h.place w h.view h.at)

  -- a pass more, with an empty list
  pub all_forked : (views : List Hand) (pass : ℕ) (v l r : Hand) (xs : List Entry) → get_elem? views pass ≡ some v → list l ≡ list v → flag l ≡ flag v → list r ≡ [] → flag r ≡ flag v
      → HasAll list flag (set views pass l ++ r ∷ []) xs → HasAll list flag views xs
  all_forked views pass v l r xs at same order empty alike h =
      let p = total_push (λ u. length (list u)) (set views pass l) r in
      let z = ap length empty in
      let a = h.all in
      ⊎_elim
      (λ (s : get_elem? (set views pass l) h.place ≡ some h.view).
      let every : total (λ u. length (list u)) (set views pass l) ≡ length xs = omega arith in
      all_same views pass v l xs at same order (record { place = h.place; view = h.view; at = s; ordered = h.ordered; listed = h.listed; all = every }))
      (λ (s : r ≡ h.view).
      let none : [] ≡ xs = sym empty ∙ ap list s ∙ h.listed in
      let n = ap length none in
      let t = total_set (λ u. length (list u)) views pass v l at in
      let k = ap length same in
      let every : total (λ u. length (list u)) views ≡ length xs = omega arith in
      let least = total_at (λ u. length (list u)) views pass v at in
      let gone : list v ≡ [] = nothing_in (list v) (omega arith) in
      record { place = pass; view = v; at = at; ordered = sym alike ∙ ap flag s ∙ h.ordered; listed = gone ∙ none; all = every })
      (at_snoc (set views pass l) r h.view h.place h.at)

  -- a pass less, whose list comes behind another
  pub all_merged : (views : List Hand) (pass : ℕ) (v : Hand) (other : ℕ) (u w gone : Hand) (xs : List Entry) → get_elem? views pass ≡ some v → get_elem? views other ≡ some u → get_elem? (set views pass w) other ≡ some u
      → list w ≡ list v ++ list u → flag w ≡ joins_in_order (flag v) (list v) (flag u) (list u) → list gone ≡ [] → flag gone ≡ false
      → HasAll list flag (set (set views pass w) other gone) xs → HasAll list flag views xs
  all_merged views pass v other u w gone xs at was there both order empty off h =
      let t = total_set (λ z. length (list z)) views pass v w at in
      let k = total_set (λ z. length (list z)) (set views pass w) other u gone there in
      let l : length (list w) ≡ length (list v) + length (list u) = ap length both ∙ length_both (list v) (list u) in
      let z = ap length empty in
      let a = h.all in
      let every : total (λ z. length (list z)) views ≡ length xs = omega arith in
      ⊎_elim
      (λ (s : (h.place ≡ other) × (gone ≡ h.view)). absurd (true≢false (sym h.ordered ∙ ap flag (sym s.1) ∙ off)))
      (λ (s : (h.place ≢ other) × (get_elem? (set views pass w) h.place ≡ some h.view)).
      ⊎_elim
      (λ (r : (h.place ≡ pass) × (w ≡ h.view)).
      let listed : list v ++ list u ≡ xs = sym both ∙ ap list r.1 ∙ h.listed in
      ⊎_elim
      (λ (o : (flag v ≡ true) × (list v ++ list u ≡ list v)). record { place = pass; view = v; at = at; ordered = o.0; listed = sym o.1 ∙ listed; all = every })
      (λ (o : (flag u ≡ true) × (list v ++ list u ≡ list u)). record { place = other; view = u; at = was; ordered = o.0; listed = sym o.1 ∙ listed; all = every })
      (one_of (flag v) (list v) (flag u) (list u) (sym order ∙ ap flag r.1 ∙ h.ordered)))
      (λ (r : (h.place ≢ pass) × (get_elem? views h.place ≡ some h.view)).
      record { place = h.place; view = h.view; at = r.1; ordered = h.ordered; listed = h.listed; all = every })
      (at_set views pass h.place w h.view s.1))
      (at_set (set views pass w) other h.place gone h.view h.at)

pub push_order : (held : List Entry) (views : List Hand) (pass : ℕ) (v w : Hand) (e : Entry) → get_elem? views pass ≡ some v
    → w.put ≡ v.put ++ e ∷ [] → w.put_in_order ≡ v.put_in_order → w.taken ≡ v.taken → w.taken_in_order ≡ v.taken_in_order → InOrder held views → InOrder (held ++ e ∷ []) (set views pass w)
push_order held views pass v w e at put puts taken takes o xs ys all_put all_taken =
    let g = all_grown (λ u. u.put) (λ u. u.put_in_order) views pass v w e xs at put puts all_put in
    let k = all_same (λ u. u.taken) (λ u. u.taken_in_order) views pass v w ys at taken takes all_taken in
    g.1 ∙ ap (λ l. l ++ e ∷ []) (o g.0 ys g.2 k) ∙ append_assoc ys held (e ∷ [])

pub pop_order : (held : List Entry) (views : List Hand) (pass : ℕ) (v w : Hand) (e : Entry) → get_elem? views pass ≡ some v
    → w.put ≡ v.put → w.put_in_order ≡ v.put_in_order → w.taken ≡ v.taken ++ e ∷ [] → w.taken_in_order ≡ v.taken_in_order → InOrder (e ∷ held) views → InOrder held (set views pass w)
pop_order held views pass v w e at put puts taken takes o xs ys all_put all_taken =
    let k = all_same (λ u. u.put) (λ u. u.put_in_order) views pass v w xs at put puts all_put in
    let g = all_grown (λ u. u.taken) (λ u. u.taken_in_order) views pass v w e ys at taken takes all_taken in
    o xs g.0 k g.2 ∙ sym (append_assoc g.0 (e ∷ []) held) ∙ ap (λ l. l ++ held) (sym g.1)
