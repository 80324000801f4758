-- The first lane and its report.
use Rattle.std.proofs.Common.{◌<◌, List, [], ◌∷◌, length, get_or, Result, refl, arith}
use Rattle.std.specs.Prelude.{⊤, slice_set}
use Rattle.tb_types.specs.declared.trouble.Trouble.{Trouble}
use Rattle.tb_outside.specs.declared.lane.Lane.{Lane}
use Rattle.tb_outside.specs.Spill.{SpillSeen}
use Rattle.batch_queue.specs.Facts.{PassFacts}
use Rattle.work_topology.specs.declared.post.Report.{Report}
use Rattle.work_topology.specs.Objects.{objects_of}
use Rattle.work_topology.specs.Job.{Meaning}
use Rattle.work_topology.specs.Parts.{EmptiesQueue, FirstFits, WorksOnFirst}
use Rattle.work_topology.proofs.Split.{at_first}

module _ {Seed Out R S : Type 0} (m : Meaning Seed Out S) (lanes : List (Lane R S)) (reports : List (Report Out)) where
  pub fits_first : (l : Lane R S) (r : Report Out) → FirstFits m lanes reports → 0 < length lanes → 0 < length reports → m.fits 0 (get_or reports 0 r).out (objects_of (get_or lanes 0 l))
  fits_first l r fits some_lane some_report = fits (get_or lanes 0 l) (get_or reports 0 r) (at_first lanes l some_lane) (at_first reports r some_report)

pub works_first : {Seed Out R S : Type 0} (m : Meaning Seed Out S) (spill : S → SpillSeen) (pass pass' : PassFacts) (lanes : List (Lane R S)) (reports : List (Report Out)) (l l' : Lane R S) (r r' : Report Out) (result : Result ⊤ Trouble)
    → 0 < length lanes → 0 < length reports → EmptiesQueue m spill 0 pass (get_or lanes 0 l) (get_or reports 0 r) pass' l' r' result → WorksOnFirst m spill pass lanes reports pass' (slice_set lanes 0 l') (slice_set reports 0 r') result
works_first m spill pass pass' [] reports l l' r r' result some_lane some_report does = absurd (omega arith)
works_first m spill pass pass' (x ∷ xs) [] l l' r r' result some_lane some_report does = absurd (omega arith)
works_first m spill pass pass' (x ∷ xs) (y ∷ ys) l l' r r' result some_lane some_report does =
    record {
      lane = x;
      lane' = l';
      rest = xs;
      report = y;
      report' = r';
      others = ys;
      were = (refl, refl);
      are = (refl, refl);
      does = does;
    }
