-- What is true of runs of items, and of merges after other calls.
use Rattle.std.specs.Prelude.{◌≡◌, ℕ, List}
use Rattle.std.specs.List.{AllByRecursion}
use Rattle.mvt_codec.specs.declared.item.RunItem.{RunItem}
use Rattle.mvt_codec.specs.Items.{items_bytes}
use Rattle.run_merge.specs.declared.run_reader.RunReader.{RunReader}
use Rattle.run_merge.specs.Items.{AreItems, AreInOrder, IsItemOf, items_in}
use Rattle.run_merge.specs.Objects.{Objects, Keeps}
use Rattle.run_merge.specs.Cursors.{AreThere, AreTold, cursors_of, left_groups}

-- items in order, written one behind another, are a run, and are read again
abbrev pub RunsAreReadAgain : Type 0
RunsAreReadAgain = (layers : ℕ) (items : List RunItem) → AllByRecursion (IsItemOf layers) items → AreInOrder items → AreItems layers (items_bytes items) × (items_in (items_bytes items) ≡ items)

-- the two conditions of `next_group` stay, and the groups that are left
pub record StaysReady {R : Type 0} (old new : Objects R) (layers : ℕ) (readers : List RunReader) : Type 0 where
  pub there : AreThere new readers
  pub told : AreTold new layers readers
  pub groups : left_groups new (cursors_of readers) ≡ left_groups old (cursors_of readers)

abbrev pub RunsBehindChangeNothing : Type 0 → Type 0
RunsBehindChangeNothing R = (old new : Objects R) (layers : ℕ) (readers : List RunReader) → Keeps old new → AreThere old readers → AreTold old layers readers → StaysReady old new layers readers
