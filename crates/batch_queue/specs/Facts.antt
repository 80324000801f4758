-- What contracts see of a batch, of a queue and of its passes.
use Rattle.std.specs.Prelude.{◌≡◌, ℕ, Bool, true, false, List, [], ◌∷◌, ◌++◌}
use Rattle.atomic_table.specs.Seated.{TableId}
use Rattle.tb_types.specs.Bags.{IsSameBag}
use Rattle.batch_queue.specs.declared.entry.Entry.{Entry}

abbrev pub entry_of : ℕ → List ℕ → Entry
entry_of number bytes = record { no = number; bytes = bytes }

-- a batch: its number and bytes, and how many bytes of memory are granted for it
pub record BatchFacts : Type 0 where
  pub entry : Entry
  pub granted : ℕ

-- which queue it is, and how many batches it may hold
pub record QueueFacts : Type 0 where
  pub place : TableId
  pub capacity : ℕ

-- A pass: its queue; whether it is the first one, which counts the passes that are out; what it pushed and what it popped;
-- and of each of these lists whether it is known to be in the order in which the queue took or gave its entries. The lists of a new queue's first pass are,
-- and a split keeps that of both passes.
pub record PassFacts : Type 0 where
  pub place : TableId
  pub first : Bool
  pub out : ℕ
  pub pushed : List Entry
  pub popped : List Entry
  pub pushed_in_order : Bool
  pub popped_in_order : Bool

-- the pass is of this queue
abbrev pub IsPassHere : QueueFacts → PassFacts → Type 0
IsPassHere queue pass = pass.place ≡ queue.place

-- all passes are joined into this one: none is out
abbrev pub IsWhole : PassFacts → Type 0
IsWhole pass = (pass.first ≡ true) × (pass.out ≡ 0)

-- Two lists, one behind the other, are in order where one of them is empty and the other is in order. For more it isn't known how they were mixed.
abbrev pub joins_in_order : Bool → List Entry → Bool → List Entry → Bool
joins_in_order a [] b ys = b
joins_in_order a (x ∷ xs) b [] = a
joins_in_order a (x ∷ xs) b (y ∷ ys) = false

-- What was pushed is what was popped and what is left, each as often; and where both lists are in order, the popped come first, and what is left is in order too.
abbrev pub Leaves : Bool → Bool → List Entry → List Entry → List Entry → Type 0
Leaves pushed_in_order popped_in_order pushed popped left =
    IsSameBag pushed (popped ++ left) × (pushed_in_order ≡ true → popped_in_order ≡ true → pushed ≡ popped ++ left)

-- the queue holds these entries, oldest first, by all that the pass knows
abbrev pub Holds : PassFacts → List Entry → Type 0
Holds pass left = Leaves pass.pushed_in_order pass.popped_in_order pass.pushed pass.popped left
