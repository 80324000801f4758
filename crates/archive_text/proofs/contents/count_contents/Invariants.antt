use Rattle.std.proofs.Common.{◌≡◌, ◌*◌, ◌^◌, ◌≤◌, take}
use Rattle.archive_text.proofs.Walking.{Walked}
use Rattle.archive_text.proofs.contents.count_contents.Given as goal

abbrev pub invariant-loop-e : goal.invariant-loop-e
invariant-loop-e g l = record {
  walked : Walked l.archive (g.R.Source.seen l.fn.source) (g.R.Source.seen l.source) (take l.e-index l.entries) l.counted l.tiles l.features;
  small : l.tiles ≤ l.e-index * 2 ^ 32;
}
