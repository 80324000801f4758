-- What contracts see of a desk and of its seats.
use Rattle.std.specs.Prelude.{◌≡◌, ℕ, Bool, true, false, nat_le, nat_lt, if◌then◌else◌, ◌≤◌, List, Option, Some, None}
use Rattle.atomic_table.specs.Seated.{TableId}
use Rattle.tb_types.specs.Bags.{below, times}

-- which desk it is, and below which number it gives out numbers
pub record DeskFacts : Type 0 where
  pub place : TableId
  pub limit : ℕ

-- A seat: its desk, with the limit; whether it is the first one, which counts the seats that are out, and all its splits, joined again or not;
-- the word that its last step found; how many of its steps found the limit or more; and the numbers that it drew.
pub record SeatFacts : Type 0 where
  pub place : TableId
  pub limit : ℕ
  pub first : Bool
  pub out : ℕ
  pub splits : ℕ
  pub seen : Option ℕ
  pub past : ℕ
  pub drawn : List ℕ

-- the seat is of this desk
abbrev pub IsSeatOf : DeskFacts → SeatFacts → Type 0
IsSeatOf desk seat = (seat.place ≡ desk.place) × (seat.limit ≡ desk.limit)

-- all seats are joined into this one: none is out
abbrev pub IsWhole : SeatFacts → Type 0
IsWhole seat = (seat.first ≡ true) × (seat.out ≡ 0)

-- the word that the last step found is the limit or more: all numbers are given out
abbrev pub has_ended : ℕ → Option ℕ → Bool
has_ended limit None = false
has_ended limit (Some found) = nat_le limit found

-- the later of two findings
abbrev pub later : Option ℕ → Option ℕ → Option ℕ
later None y = y
later (Some x) None = Some x
later (Some x) (Some y) = Some (if nat_lt x y then y else x)

-- these are numbers below n, none of them twice
abbrev pub IsAtMostOnce : ℕ → List ℕ → Type 0
IsAtMostOnce n xs = (x : ℕ) → times x xs ≤ times x (below n)
