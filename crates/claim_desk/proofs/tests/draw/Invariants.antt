use Rattle.std.proofs.Common.{◌≡◌}
use Rattle.claim_desk.proofs.tests.draw.Given as goal

abbrev pub invariant-loop : goal.invariant-loop
invariant-loop l = (l.seat.place ≡ l.initial.seat.place) × (l.seat.limit ≡ l.initial.seat.limit) × (l.seat.first ≡ l.initial.seat.first)
