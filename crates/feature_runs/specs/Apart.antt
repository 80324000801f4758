-- Items one behind another.
use Rattle.std.specs.Prelude.{◌≡◌, ℕ, List, ◌++◌}
use Rattle.mvt_codec.specs.declared.item.RunItem.{RunItem}
use Rattle.mvt_codec.specs.Items.{item_text, IsItem, Fits}

-- no item's text begins another's: what is written is read again, whatever stands behind it
abbrev pub ItemsStandApart : Type 0
ItemsStandApart = (a b : RunItem) (x y : List ℕ) → IsItem a → Fits a → IsItem b → Fits b → item_text a ++ x ≡ item_text b ++ y → (a ≡ b) × (x ≡ y)
