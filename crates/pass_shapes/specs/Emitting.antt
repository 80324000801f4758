-- Items that a pass hands to a run buffer, which writes them to a spill as sorted runs.
use Rattle.std.specs.Prelude.{◌≡◌, List, All, map, Result, OnOk}
use Rattle.std.specs.List.Sorted.{IsPermutation}
use Rattle.tb_outside.specs.Spill.{SpillSeen}
use Rattle.tb_outside.specs.declared.spill.SpillErr.{SpillErr}
use Rattle.profile_rules.specs.declared.parts.Parts.{Parts}
use Rattle.mvt_codec.specs.declared.item.RunItem.{RunItem}
use Rattle.mvt_codec.specs.Items.{IsItem}
use Rattle.feature_runs.specs.Entry.{Buffered, entry_of}
use Rattle.feature_runs.specs.Added.{KeepsAdded}
use Rattle.feature_runs.specs.Since.{KeepsSince}
use Rattle.feature_runs.specs.Writing.{Frames}
use Rattle.tile_model.specs.Items.{AreSound}

-- These items were added to a buffer and the runs that it lists, in any order, beside those that were added before.
pub record Emitted (parts : Parts) (wanted : List RunItem) (old new : SpillSeen) (before after : Buffered) : Type 0 where
  pub items : List RunItem
  pub same : IsPermutation wanted items
  pub sound : AreSound parts items
  pub whole : All IsItem items
  pub limit : after.limit ≡ before.limit
  pub keeps : KeepsAdded old new before after (map entry_of items)
  pub since : KeepsSince old new before after (map entry_of items)

-- They were, or the spill failed, or memory wants. On every answer the runs that the spill had ended stay.
pub record Emits {A : Type 0} (parts : Parts) (wanted : List RunItem) (old new : SpillSeen) (before after : Buffered) (result : Result A SpillErr) : Type 0 where
  pub ok : OnOk result (Emitted parts wanted old new before after)
  pub frames : Frames old new result
