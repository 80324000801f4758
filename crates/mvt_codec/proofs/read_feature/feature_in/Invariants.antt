use Rattle.std.proofs.Common.{◌≡◌, ◌-◌, ◌≤◌, length}
use Rattle.mvt_codec.specs.Messages.{said_from}
use Rattle.mvt_codec.specs.Grammar.{note_feature, no_feature}
use Rattle.mvt_codec.specs.Reading.{seen_feature}
use Rattle.mvt_codec.proofs.read_feature.feature_in.Given as goal

abbrev pub invariant-loop-at : goal.invariant-loop-at
invariant-loop-at l = record {
  within : l.at ≤ length l.bytes;
  told : said_from note_feature (seen_feature l.feature l.numbers) l.bytes l.at ≡ said_from note_feature no_feature l.bytes 0;
}

abbrev pub decreases-loop-at : goal.decreases-loop-at
decreases-loop-at l = length l.bytes - l.at
