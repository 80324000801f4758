use Rattle.std.proofs.Common.{refl}
use Rattle.flow_core.proofs.worked.worked_events.Goals as goal

pub returns-clause-row : goal.returns-clause-row
returns-clause-row c = record { left = refl; taken = refl; full = refl; free = refl; booked = refl; no_lane = refl }

pub returns-clause-hands : goal.returns-clause-hands
returns-clause-hands c = record { claim = refl; claim_over = refl; claim_working = refl; claim_twice = refl; book = refl; book_working = refl; book_twice = refl; load_working = refl; load_unbooked = refl; push = refl; push_working = refl; push_unloaded = refl; pop_free = refl; pop_loaded = refl; pop_booked = refl; pop_working = refl; put = refl; put_stored = refl; emit_unstored = refl; give = refl; give_idle = refl }
