-- The rule of the queue: what all passes pushed is what they popped and what it holds. It speaks of numbers and bytes, never of a grant.
use Rattle.std.specs.Prelude.{◌≡◌, ℕ, ◌+◌, ◌<◌, Bool, true, false, List, [], ◌∷◌, ◌++◌, map, length, sum_by}
use mathlib.Core.Option.{some}
use lib.ListN.{get_elem?}
use Rattle.tb_types.specs.Bags.{total}
use Rattle.tb_types.specs.Seats as seats
use Rattle.tb_types.specs.Seats.{SeatCount, IsWhole, AreSeats}
use Rattle.batch_queue.specs.declared.entry.Entry.{Entry}
use Rattle.batch_queue.specs.declared.entry.Hand.{Hand}
use Rattle.batch_queue.specs.Facts.{BatchFacts, Leaves, joins_in_order}

-- what the pass has of the count of passes
abbrev pub count_of : Hand → SeatCount
count_of v = record { first = v.first; live = v.live; out = v.out }

-- a pass of this count that has put and taken nothing, with what it knows of the order
abbrev pub idle : SeatCount → Bool → Bool → Hand
idle count put_in_order taken_in_order =
    record { first = count.first; live = count.live; out = count.out; put_in_order = put_in_order; taken_in_order = taken_in_order; put = []; taken = [] }

-- the first pass of a new queue
abbrev pub opener : Hand
opener = idle seats.opener true true

-- the first pass after a split, and the new one
abbrev pub kept_by : Hand → Hand
kept_by v = record v { out = (seats.kept_by (count_of v)).out }

abbrev pub given_by : Hand → Hand
given_by v = idle seats.given v.put_in_order v.taken_in_order

-- the first pass that took in another one, and what is left of that
abbrev pub joined : Hand → Hand → Hand
joined v w =
    record v {
      out = (seats.joined (count_of v)).out;
      put_in_order = joins_in_order v.put_in_order v.put w.put_in_order w.put;
      taken_in_order = joins_in_order v.taken_in_order v.taken w.taken_in_order w.taken;
      put = v.put ++ w.put;
      taken = v.taken ++ w.taken;
    }

abbrev pub spent : Hand
spent = idle seats.spent false false

-- a pass that put a batch, and one that took one
abbrev pub putter : Hand → BatchFacts → Hand
putter v x = record v { put = v.put ++ x.entry ∷ [] }

abbrev pub taker : Hand → BatchFacts → Hand
taker v x = record v { taken = v.taken ++ x.entry ∷ [] }

-- the numbers and bytes of batches
abbrev pub entries : List BatchFacts → List Entry
entries batches = map (λ b. b.entry) batches

-- a pass that is joined into the first one has no lists of its own
abbrev pub IsSpent : Hand → Type 0
IsSpent v = v.live ≡ 0 → (v.put ≡ []) × (v.taken ≡ [])

-- these are all entries that passes have listed, by one pass and in order
pub record HasAll (list : Hand → List Entry) (in_order : Hand → Bool) (views : List Hand) (xs : List Entry) : Type 0 where
  pub place : ℕ
  pub view : Hand
  pub at : get_elem? views place ≡ some view
  pub ordered : in_order view ≡ true
  pub listed : list view ≡ xs
  pub all : total (λ v. length (list v)) views ≡ length xs

-- where one pass has all that was put, in order, and one all that was taken, the taken come first, and then what the queue holds
abbrev pub InOrder : List Entry → List Hand → Type 0
InOrder held views = (put taken : List Entry) → HasAll (λ v. v.put) (λ v. v.put_in_order) views put → HasAll (λ v. v.taken) (λ v. v.taken_in_order) views taken → put ≡ taken ++ held

-- the rule
pub record Balanced (items : List BatchFacts) (views : List Hand) : Type 0 where
  pub seats : AreSeats count_of views
  pub weighs : (weight : Entry → ℕ) → total (λ v. sum_by weight v.put) views ≡ total (λ v. sum_by weight v.taken) views + sum_by weight (entries items)
  pub order : InOrder (entries items) views
  pub each : (i : ℕ) (v : Hand) → get_elem? views i ≡ some v → IsSpent v

-- what the queue holds, by what the pass knows
abbrev pub Left : Hand → List Entry → Type 0
Left v held = Leaves v.put_in_order v.taken_in_order v.put v.taken held

-- what a push tells, where the queue has room for so many
abbrev pub Pushed : ℕ → Hand → BatchFacts → Hand → Type 0
Pushed capacity v x w =
    (w ≡ putter v x) × (IsWhole (count_of v) → (held : List Entry) × Left v held × (length held < capacity))

-- what a pop tells
abbrev pub Popped : Hand → BatchFacts → Hand → Type 0
Popped v x w =
    (w ≡ taker v x) × (IsWhole (count_of v) → (rest : List Entry) × Left v (x.entry ∷ rest))

-- what a look at the queue tells
abbrev pub Learned : Hand → List BatchFacts → Type 0
Learned v items = IsWhole (count_of v) → Left v (entries items)
