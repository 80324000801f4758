-- What is divided along an axis into columns or rows, whose pieces rest on what touches their strips.
use Rattle.std.specs.Prelude.{◌≡◌, ℕ, ◌+◌, ◌<◌, ◌≤◌, true, List, []}
use Rattle.tb_types.specs.declared.tile.TileXyz.{TileXyz}
use Rattle.tb_types.specs.declared.shape.Shape.{Shape}
use Rattle.strip_clip.specs.declared.axis.Axis.{Axis}
use Rattle.strip_clip.specs.declared.strip.Strip.{Strip}
use Rattle.tile_clip.specs.declared.outline.Outline.{Outline}
use Rattle.tile_clip.specs.Outlines.{touching, is_nothing, strip_of}

module _ (buffer : ℕ) (axis : Axis) (piece : Outline → ℕ → List (TileXyz × Shape)) where
  -- pieces of columns or rows rest on what touches the strip of some of them, and of nothing there are none
  pub record RestOnStrips : Type 0 where
    pub same : (outline half : Outline) (first count i : ℕ) → half ≡ touching (strip_of axis buffer first count) outline → first ≤ i → i < first + count → piece half i ≡ piece outline i
    pub none : (outline : Outline) (i : ℕ) → is_nothing outline ≡ true → piece outline i ≡ []

-- where an outline fits, what of it touches a strip fits too
abbrev pub StaysFit : (Outline → Type 0) → Type 0
StaysFit fits = (strip : Strip) (outline : Outline) → fits outline → fits (touching strip outline)
