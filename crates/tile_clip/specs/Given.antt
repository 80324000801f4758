-- What a taker is given.
use Rattle.std.specs.Prelude.{◌≡◌, Option, None, Some, List, ◌++◌, Result, OnOk, OnErr, IfErr, ⊤}
use Rattle.tb_types.specs.declared.tile.TileXyz.{TileXyz}
use Rattle.tb_types.specs.declared.shape.Shape.{Shape}
use Rattle.tile_clip.specs.declared.taker.ClipErr.{ClipErr}
use Rattle.tile_clip.specs.declared.taker.ClipErr.TheVariants.{Taker, Memory}

-- told pieces grow by more
abbrev pub with_more : Option (List (TileXyz × Shape)) → List (TileXyz × Shape) → Option (List (TileXyz × Shape))
with_more None more = None
with_more (Some taken) more = Some (taken ++ more)

-- told pieces grow by a prefix of some pieces
abbrev pub GrowsByPrefix : Option (List (TileXyz × Shape)) → Option (List (TileXyz × Shape)) → List (TileXyz × Shape) → Type 0
GrowsByPrefix old new pieces = (prefix rest : List (TileXyz × Shape)) × (pieces ≡ prefix ++ rest) × (new ≡ with_more old prefix)

module _ {T Stop : Type 0} (taken : T → Option (List (TileXyz × Shape))) (steps : T → List (TileXyz × Shape) → T → Type 0) (stops : T → T → Stop → Type 0) where
  -- a prefix of some pieces was taken
  abbrev pub StepsByPrefix : T → T → List (TileXyz × Shape) → Type 0
  StepsByPrefix old new pieces = (prefix rest : List (TileXyz × Shape)) × (pieces ≡ prefix ++ rest) × steps old prefix new

  -- the taker before, the taker after, the pieces, and why not all of them were given
  abbrev pub EndsBy : T → T → List (TileXyz × Shape) → ClipErr Stop → Type 0
  EndsBy old new pieces (Taker stop) = stops old new stop
  EndsBy old new pieces Memory = StepsByPrefix old new pieces

  -- what giving pieces to a taker, one after another, does to it
  pub record Gives (old new : T) (pieces : List (TileXyz × Shape)) (result : Result ⊤ (ClipErr Stop)) : Type 0 where
    pub all : OnOk result (taken new ≡ with_more (taken old) pieces)
    pub prefix : OnErr result (GrowsByPrefix (taken old) (taken new) pieces)
    pub ok : OnOk result (steps old pieces new)
    pub err : IfErr result (EndsBy old new pieces)
