use Rattle.std.proofs.Common.{◌≡◌, ◌-◌, ◌≤◌, length}
use Rattle.mvt_codec.specs.Messages.{said_from}
use Rattle.mvt_codec.specs.Grammar.{note_value, no_value}
use Rattle.mvt_codec.specs.Reading.{seen_some}
use Rattle.mvt_codec.proofs.read_value.said_value.Given as goal

abbrev pub invariant-loop-at : goal.invariant-loop-at
invariant-loop-at l = record {
  within : l.at ≤ length l.bytes;
  told : said_from note_value (seen_some l.value) l.bytes l.at ≡ said_from note_value no_value l.bytes 0;
}

abbrev pub decreases-loop-at : goal.decreases-loop-at
decreases-loop-at l = length l.bytes - l.at
