use Rattle.std.specs.Prelude.{slice_range}
use Rattle.std.proofs.Common.{◌≡◌, ◌+◌, ◌-◌, ◌≤◌, IfSome, ◌++◌, length, drop}
use Rattle.run_merge.specs.Cursors.{IsAhead, IsWithin, bytes_of_run}
use Rattle.run_merge.specs.Objects.{objects_of, told_of}
use Rattle.run_merge.proofs.run_reader.put_text.Given as goal

abbrev pub invariant-loop-put : goal.invariant-loop-put
invariant-loop-put g l =
    let seen = g.S.Spill.seen in
    record {
      objects : objects_of seen l.lanes l.spool ≡ objects_of seen l.fn.lanes l.fn.spool;
      put : l.put ≤ l.len;
      len : length l.out.items ≡ length l.fn.out.items + l.put;
      front : l.out.items ≡ l.fn.out.items ++ drop (length l.fn.out.items) l.out.items;
      text : IfSome (told_of (objects_of seen l.fn.lanes l.fn.spool) l.run) (λ runs. l.out.items ≡ l.fn.out.items ++ slice_range (bytes_of_run runs l.run) l.at (l.at + l.put));
      within : IsWithin l.run l.window;
      ahead : IfSome (told_of (objects_of seen l.fn.lanes l.fn.spool) l.run) (λ runs. IsAhead runs l.run l.window);
    }

abbrev pub decreases-loop-put : goal.decreases-loop-put
decreases-loop-put g l = l.len - l.put
