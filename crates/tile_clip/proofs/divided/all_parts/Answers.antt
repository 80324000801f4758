use Rattle.std.proofs.Common.{◌^◌}
use Rattle.tile_clip.proofs.Halving.{reaches}
use Rattle.tile_clip.proofs.Takable.{takable-same}
use Rattle.tile_clip.proofs.divided.all_parts.Goals as goal

pub some_parts-requires-clause-pieces : goal.some_parts-requires-clause-pieces
some_parts-requires-clause-pieces g c =
    let d = g.D.Divided in
    let tiling = d.tiling c.args.divided in
    let part = c.reached-part in
    let within = rw c.tiling.ensures at part.ensures.within in
    let along = rw c.axis.ensures at part.ensures.others in
    let others = rw c.tiling.ensures at along in
    takable-same _ _ (reaches tiling.buffer d.axis (d.pieces c.args.divided) c.requires.rest c.args.outline part.result.first part.result.count (2 ^ tiling.z) within others) c.requires.pieces

pub some_parts-requires-clause-parts : goal.some_parts-requires-clause-parts
some_parts-requires-clause-parts g c = let within = rw c.tiling.ensures at c.reached-part.ensures.within in within

pub returns : goal.returns
returns g c =
    let d = g.D.Divided in
    let tiling = d.tiling c.args.divided in
    let part = c.reached-part in
    let within = rw c.tiling.ensures at part.ensures.within in
    let along = rw c.axis.ensures at part.ensures.others in
    let others = rw c.tiling.ensures at along in
    rw (reaches tiling.buffer d.axis (d.pieces c.args.divided) c.requires.rest c.args.outline part.result.first part.result.count (2 ^ tiling.z) within others) c.some_parts.ensures
