-- The rule of a desk: its word counts the steps of all seats, and each number below the word and below the limit was drawn by one seat, once.
use Rattle.std.specs.Prelude.{◌≡◌, ℕ, ◌+◌, ◌*◌, ◌<◌, ◌≤◌, false, min, nat_lt, if◌then◌else◌, [], ◌∷◌, ◌++◌, Some, None, sum_by}
use mathlib.Core.Option.{some}
use lib.ListN.{get_elem?}
use Rattle.atomic_table.specs.Table.{State}
use Rattle.tb_types.specs.Bags.{below, total, IsSameBag}
use Rattle.tb_types.specs.Seats as seats
use Rattle.tb_types.specs.Seats.{SeatCount, IsWhole, AreSeats, one}
use Rattle.claim_desk.specs.Facts.{has_ended, later, IsAtMostOnce}
use Rattle.claim_desk.specs.declared.rule.View.{View}

-- a view of this count that has taken no step, at the limit n
abbrev pub idle : ℕ → SeatCount → View
idle n seat = record { limit = n; first = seat.first; live = seat.live; out = seat.out; splits = 0; past = 0; seen = None; drawn = [] }

-- what the view has of the count of seats
abbrev pub count_of : View → SeatCount
count_of v = record { first = v.first; live = v.live; out = v.out }

-- the first seat of a desk with the limit n
abbrev pub opener : ℕ → View
opener n = idle n seats.opener

-- after a step that found this number: it is drawn where it is below the limit
abbrev pub after_claim : View → ℕ → View
after_claim v found = if nat_lt found v.limit then record v { seen = Some found; drawn = v.drawn ++ found ∷ [] } else record v { past = v.past + 1; seen = Some found }

-- the first seat after a split, and the new one
abbrev pub kept_by : View → View
kept_by v = record v { out = (seats.kept_by (count_of v)).out; splits = v.splits + 1 }

abbrev pub given_by : View → View
given_by v = idle v.limit seats.given

-- the first seat that took in another one, and what is left of that
abbrev pub joined : View → View → View
joined v w = record v { out = (seats.joined (count_of v)).out; past = v.past + w.past; seen = later v.seen w.seen; drawn = v.drawn ++ w.drawn }

abbrev pub spent : View
spent = idle 0 seats.spent

-- What holds of each seat. A seat stands for itself, the first also for those joined into it, and each of these found the limit at most once.
pub record IsSound (n count : ℕ) (v : View) : Type 0 where
  pub limit : 0 < v.live → v.limit ≡ n
  pub bounded : v.past + v.out ≤ v.live + v.splits
  pub counted : v.out ≤ v.splits
  pub few : v.splits ≤ 63 * one v.first
  pub spent : v.live ≡ 0 → (v.drawn ≡ []) × (v.past ≡ 0)
  pub fresh : has_ended v.limit v.seen ≡ false → v.past ≡ 0
  pub behind : (x : ℕ) → v.seen ≡ Some x → x < count

-- the rule of the desk with the limit n
pub record IsKept (n : ℕ) (s : State ℕ View) : Type 0 where
  pub count : ℕ
  pub words : s.words ≡ count ∷ []
  pub seats : AreSeats count_of s.views
  pub steps : total (λ v. v.past) s.views + min count n ≡ count
  pub draws : (weight : ℕ → ℕ) → total (λ v. sum_by weight v.drawn) s.views ≡ sum_by weight (below (min count n))
  pub each : (i : ℕ) (v : View) → get_elem? s.views i ≡ some v → IsSound n count v

-- what a look at the word tells a seat; where it stands for all, this is the whole
pub record Told (v : View) (found : ℕ) : Type 0 where
  pub most : found ≤ v.limit + 64
  pub behind : (x : ℕ) → v.seen ≡ Some x → x < found
  pub once : IsAtMostOnce (min found v.limit) v.drawn
  pub whole : IsWhole (count_of v) → IsSameBag v.drawn (below (min found v.limit))
  pub word : IsWhole (count_of v) → found ≡ v.past + min found v.limit
