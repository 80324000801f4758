use Rattle.std.proofs.Common.{◌≡◌, [], replicate}
use Rattle.profile_rules.proofs.by_key.empty_places.Given as goal

abbrev pub invariant-loop-place : goal.invariant-loop-place
invariant-loop-place l = l.places.items ≡ replicate l.place []
