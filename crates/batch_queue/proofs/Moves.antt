-- Each move keeps the queue's rule.
use Rattle.std.proofs.Common.{◌≡◌, ◌≢◌, ⊎_elim, ℕ, ◌+◌, Bool, true, false, true≢false, List, [], ◌∷◌, ◌++◌, set, length, ap, sym, ◌∙◌, refl, subst, arith}
use Rattle.std.specs.Prelude.{sum_by}
use Rattle.std.proofs.lemmas.List.Sums.{sum_by_push, sum_by-append, sum_by-cons}
use mathlib.Core.Option.{some, some-ne-none}
use lib.ListN.{get_elem?}
use Rattle.crossbeam_queue.specs.Fifo.{Pushes, Pops, Forks, Merges, Learns}
use Rattle.tb_types.specs.Bags.{total}
use Rattle.tb_types.specs.Seats.{IsWhole}
use Rattle.tb_types.proofs.Seats.{before_set, seats_open, seats_stay, seats_split, seats_join, has_all}
use Rattle.tb_types.proofs.Totals.{total_set, total_push, each_set, each_push}
use Rattle.batch_queue.specs.declared.entry.Entry.{Entry}
use Rattle.batch_queue.specs.declared.entry.Hand.{Hand}
use Rattle.batch_queue.specs.Facts.{BatchFacts}
use Rattle.batch_queue.specs.Rule.{count_of, opener, kept_by, given_by, joined, spent, putter, taker, entries, IsSpent, InOrder, Balanced, Left, Pushed, Popped, Learned}
use Rattle.batch_queue.proofs.Order.{nothing_in, all_forked, all_merged, push_order, pop_order}

entries-push : (items : List BatchFacts) (x : BatchFacts) → entries (items ++ x ∷ []) ≡ entries items ++ x.entry ∷ []
entries-push [] x = refl
entries-push (y ∷ ys) x = ap (λ l. y.entry ∷ l) (entries-push ys x)

pub length-entries : (items : List BatchFacts) → length (entries items) ≡ length items
length-entries [] = refl
length-entries (y ∷ ys) = let r = length-entries ys in omega arith

-- where none is out, the first pass has all of what a spent one has none of
all_of : (items : List BatchFacts) (views : List Hand) (pass : ℕ) (v : Hand) (list : Hand → List Entry) (f : List Entry → ℕ) → Balanced items views → get_elem? views pass ≡ some v → IsWhole (count_of v) → f [] ≡ 0
    → ((u : Hand) → IsSpent u → u.live ≡ 0 → list u ≡ []) → total (λ u. f (list u)) views ≡ f (list v)
all_of items views pass v list f b at knows none gone = has_all count_of views pass v b.seats at knows (λ u. f (list u)) (λ i u e over. ap f (gone u (b.each i u e) over) ∙ none)

-- and it knows what the queue holds
whole : (items : List BatchFacts) (views : List Hand) (pass : ℕ) (v : Hand) → Balanced items views → get_elem? views pass ≡ some v → IsWhole (count_of v) → Left v (entries items)
whole items views pass v b at knows =
    let put : (f : List Entry → ℕ) → f [] ≡ 0 → total (λ u. f u.put) views ≡ f v.put = λ f none. all_of items views pass v (λ u. u.put) f b at knows none (λ u spent over. (spent over).0) in
    let taken : (f : List Entry → ℕ) → f [] ≡ 0 → total (λ u. f u.taken) views ≡ f v.taken = λ f none. all_of items views pass v (λ u. u.taken) f b at knows none (λ u spent over. (spent over).1) in (
      (λ h.
          let p = put (sum_by h) refl in
          let t = taken (sum_by h) refl in
          let w = b.weighs h in
          let a = sum_by-append h v.taken (entries items) in omega arith),
      (λ puts takes.
          b.order v.put v.taken
          (record { place = pass; view = v; at = at; ordered = puts; listed = refl; all = put length refl })
          (record { place = pass; view = v; at = at; ordered = takes; listed = refl; all = taken length refl })),
    )

-- a new queue
pub begins : Balanced [] (opener ∷ [])
begins = record {
  seats = seats_open count_of opener refl;
  weighs = λ h. refl;
  order = λ put taken all_put all_taken.
      (let a = all_put.all in let b = all_taken.all in
      nothing_in put (omega arith) ∙ sym (ap (λ l. l ++ []) (nothing_in taken (omega arith))));
  each = each_push IsSpent [] opener (λ gone. absurd (omega arith)) (λ i v e. absurd (some-ne-none v (sym e)));
}

pub pushes : (n capacity pass : ℕ) (v : Hand) (x : BatchFacts) → n ≡ capacity → v.live ≡ 1 → Pushes Balanced n pass v x (Pushed capacity v x)
pushes n capacity pass v x same live items views room b at =
    let w = putter v x in
    let grown = entries-push items x in (
      w,
      record {
        seats = seats_stay count_of views pass v w b.seats at refl;
        weighs = λ h.
            let t = total_set (λ u. sum_by h u.put) views pass v w at in
            let k = total_set (λ u. sum_by h u.taken) views pass v w at in
            let c = b.weighs h in
            let d = sum_by_push h v.put x.entry in
            let e : sum_by h (entries (items ++ x ∷ [])) ≡ sum_by h (entries items) + h x.entry = ap (sum_by h) grown ∙ sum_by_push h (entries items) x.entry in
            omega arith;
        order = subst (λ held. InOrder held (set views pass w)) (sym grown) (push_order (entries items) views pass v w x.entry at refl refl refl refl b.order);
        each = each_set IsSpent views pass w (λ gone. absurd (omega arith)) b.each;
      },
      (refl, λ knows. (entries items, whole items views pass v b at knows, (let e = length-entries items in omega arith))),
    )

pub pops : (pass : ℕ) (v : Hand) → v.live ≡ 1 → Pops Balanced pass v (Popped v)
pops pass v live x items views b at =
    let w = taker v x in (
      w,
      record {
        seats = seats_stay count_of views pass v w b.seats at refl;
        weighs = λ h.
            let t = total_set (λ u. sum_by h u.put) views pass v w at in
            let k = total_set (λ u. sum_by h u.taken) views pass v w at in
            let c = b.weighs h in
            let d = sum_by_push h v.taken x.entry in
            let e = sum_by-cons h x.entry (entries items) in
            omega arith;
        order = pop_order (entries items) views pass v w x.entry at refl refl refl refl b.order;
        each = each_set IsSpent views pass w (λ gone. absurd (omega arith)) b.each;
      },
      (refl, λ knows. (entries items, whole (x ∷ items) views pass v b at knows)),
    )

pub forks : (pass : ℕ) (v : Hand) → v.live ≡ 1 → v.first ≡ true → Forks Balanced pass v (kept_by v) (given_by v)
forks pass v live first items views b at =
    let l = kept_by v in
    let r = given_by v in
    let vs = set views pass l in
    let split : (f : Hand → ℕ) → (total f vs + f v ≡ total f views + f l) × (total f (vs ++ r ∷ []) ≡ total f vs + f r) = λ f. (total_set f views pass v l at, total_push f vs r) in
    record {
      seats = seats_split count_of views pass v l r b.seats at first refl refl;
      weighs = λ h. (let t = split (λ u. sum_by h u.put) in let a = t.0 in let c = t.1 in let k = split (λ u. sum_by h u.taken) in let d = k.0 in let e = k.1 in let g = b.weighs h in omega arith);
      order = λ put taken all_put all_taken.
          b.order put taken
          (all_forked (λ u. u.put) (λ u. u.put_in_order) views pass v l r put at refl refl refl refl all_put)
          (all_forked (λ u. u.taken) (λ u. u.taken_in_order) views pass v l r taken at refl refl refl refl all_taken);
      each = each_push IsSpent vs r (λ _. (refl, refl)) (each_set IsSpent views pass l (λ gone. absurd (omega arith)) b.each);
    }

pub merges : (pass : ℕ) (v : Hand) (other : ℕ) (u : Hand) → v.live ≡ 1 → u.live ≡ 1 → v.first ≡ true → Merges Balanced pass v other u (joined v u) spent
merges pass v other u live alive first items views b at apart there =
    let w = joined v u in
    let vs = set views pass w in
    let was : get_elem? views other ≡ some u = before_set views pass other w u apart there in
    let joint : (f : Hand → ℕ) → (total f vs + f v ≡ total f views + f w) × (total f (set vs other spent) + f u ≡ total f vs + f spent) = λ f. (total_set f views pass v w at, total_set f vs other u spent there) in
    record {
      seats = seats_join count_of views pass v other u w spent b.seats at first apart there alive refl refl;
      weighs = λ h.
          (let t = joint (λ z. sum_by h z.put) in let a = t.0 in let c = t.1 in
          let k = joint (λ z. sum_by h z.taken) in let d = k.0 in let e = k.1 in
          let x = sum_by-append h v.put u.put in let y = sum_by-append h v.taken u.taken in
          let g = b.weighs h in omega arith);
      order = λ put taken all_put all_taken.
          b.order put taken
          (all_merged (λ z. z.put) (λ z. z.put_in_order) views pass v other u w spent put at was there refl refl refl refl all_put)
          (all_merged (λ z. z.taken) (λ z. z.taken_in_order) views pass v other u w spent taken at was there refl refl refl refl all_taken);
      each = each_set IsSpent vs other spent (λ _. (refl, refl)) (each_set IsSpent views pass w (λ gone. absurd (omega arith)) b.each);
    }

pub learns : (pass : ℕ) (v : Hand) → Learns Balanced pass v (Learned v)
learns pass v items views b at knows = whole items views pass v b at knows
