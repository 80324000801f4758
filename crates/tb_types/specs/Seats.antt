-- The count of seats: of all views of a shared table or queue one is the first seat's, and it knows how many others are out.
use Rattle.std.specs.Prelude.{◌≡◌, ℕ, ◌+◌, ◌-◌, Bool, true, false, List}
use mathlib.Core.Option.{some}
use lib.ListN.{get_elem?}
use Rattle.tb_types.specs.Bags.{total}

-- What a view has of the count: whether it is the first seat's; 1 until its seat is joined into the first one, and then 0; and, of the first, how many others are out.
pub record SeatCount : Type 0 where
  pub first : Bool
  pub live : ℕ
  pub out : ℕ

-- the first seat of a new table
abbrev pub opener : SeatCount
opener = record { first = true; live = 1; out = 0 }

-- the first seat after a split, and the new one
abbrev pub kept_by : SeatCount → SeatCount
kept_by s = record s { out = s.out + 1 }

abbrev pub given : SeatCount
given = record { first = false; live = 1; out = 0 }

-- the first seat that took in another one, and what is left of that
abbrev pub joined : SeatCount → SeatCount
joined s = record s { out = s.out - 1 }

abbrev pub spent : SeatCount
spent = record { first = false; live = 0; out = 0 }

-- it is the first seat, and none is out: it stands for all
abbrev pub IsWhole : SeatCount → Type 0
IsWhole s = (s.first ≡ true) × (s.out ≡ 0)

-- one where it holds
abbrev pub one : Bool → ℕ
one true = 1
one false = 0

-- the first seat is never spent, and only it counts others
pub record IsSeat (s : SeatCount) : Type 0 where
  pub lead : s.first ≡ true → s.live ≡ 1
  pub follows : s.first ≡ false → s.out ≡ 0

-- what always holds of the views of all seats, by what each has of the count
pub record AreSeats {V : Type 0} (count : V → SeatCount) (views : List V) : Type 0 where
  pub firsts : total (λ v. one (count v).first) views ≡ 1
  pub lives : total (λ v. (count v).live) views ≡ total (λ v. (count v).out) views + 1
  pub each : (i : ℕ) (v : V) → get_elem? views i ≡ some v → IsSeat (count v)
