-- The bounds between which an outline lies.
use Rattle.std.specs.Prelude.{ℕ, ℤ, pos, ◌+◌, ◌*◌, ◌+ℤ◌, ◌-ℤ◌, ◌≤ℤ◌, All}
use Rattle.tb_types.specs.declared.location.Grid.{Grid}
use Rattle.strip_clip.specs.declared.axis.Axis.{Axis}
use Rattle.strip_clip.specs.declared.axis.Axis.TheVariants.{X}
use Rattle.strip_clip.specs.Axes.{along}
use Rattle.strip_clip.specs.Cuts.{IsBetween, IsInTile}
use Rattle.tile_clip.specs.declared.edge.Edge.{Edge}
use Rattle.tile_clip.specs.declared.span.Span.{Span}
use Rattle.tile_clip.specs.declared.outline.RingEdges.{RingEdges}
use Rattle.tile_clip.specs.declared.outline.Outline.{Outline}
use Rattle.tile_clip.specs.declared.outline.Outline.TheVariants.{OnePoint, Paths, Polygons}

-- an edge lies between two bounds along an axis, both inside
pub record IsEdgeWithin (axis : Axis) (lo hi : ℤ) (e : Edge) : Type 0 where
  pub from : IsBetween lo hi (along axis e.from)
  pub to : IsBetween lo hi (along axis e.to)

-- an edge lies in a tile and its buffer
pub record IsEdgeInTile (corner : Grid) (buffer : ℕ) (e : Edge) : Type 0 where
  pub from : IsInTile corner buffer e.from
  pub to : IsInTile corner buffer e.to

-- the rings of a polygon lie between two bounds
pub record AreRingsWithin (axis : Axis) (lo hi : ℤ) (rings : RingEdges) : Type 0 where
  pub outer : All (IsEdgeWithin axis lo hi) rings.outer
  pub inners : All (λ inner. All (IsEdgeWithin axis lo hi) inner) rings.inners

-- and an outline
abbrev pub IsWithin : Axis → ℤ → ℤ → Outline → Type 0
IsWithin axis lo hi (OnePoint p) = IsBetween lo hi (along axis p)
IsWithin axis lo hi (Paths es) = All (IsEdgeWithin axis lo hi) es
IsWithin axis lo hi (Polygons polygons) = All (AreRingsWithin axis lo hi) polygons

-- an outline lies in a column and its buffer
abbrev pub IsInColumn : ℕ → ℕ → Outline → Type 0
IsInColumn buffer x outline = IsWithin X (pos (4096 * x) -ℤ pos buffer) (pos (4096 * x) +ℤ pos (4096 + buffer)) outline

-- a span has all of another
pub record IsWider (old new : Span) : Type 0 where
  pub low : new.lo ≤ℤ old.lo
  pub high : old.hi ≤ℤ new.hi
