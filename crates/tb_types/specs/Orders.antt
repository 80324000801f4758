-- How places and objects outside are ordered.
use Rattle.std.specs.Prelude.{ℕ}
use Rattle.std.specs.Ordering.{nat_cmp, ordering_then}
use Rattle.std.specs.declared.cmp.Ordering.{Ordering}
use Rattle.tb_types.specs.declared.element.Place.{Place}
use Rattle.tb_types.specs.declared.trouble.Whom.{Whom}
use Rattle.tb_types.specs.declared.trouble.Whom.TheVariants.{Profile, Lane, Spool, Archive, Console}

-- places stand by their blocks, and in a block by their numbers
abbrev pub place_order : Place → Place → Ordering
place_order p q = ordering_then (nat_cmp p.block q.block) (nat_cmp p.index q.index)

-- the objects outside: the profile's source, the lanes' objects, the spool, the archive's sink, the console
abbrev pub whom_rank : Whom → ℕ
whom_rank Profile = 0
whom_rank (Lane k) = 1
whom_rank Spool = 2
whom_rank Archive = 3
whom_rank Console = 4

-- the number of a lane
abbrev pub lane_of : Whom → ℕ
lane_of (Lane k) = k
lane_of Profile = 0
lane_of Spool = 0
lane_of Archive = 0
lane_of Console = 0

-- lanes stand by their numbers
abbrev pub whom_order : Whom → Whom → Ordering
whom_order v w = ordering_then (nat_cmp (whom_rank v) (whom_rank w)) (nat_cmp (lane_of v) (lane_of w))
