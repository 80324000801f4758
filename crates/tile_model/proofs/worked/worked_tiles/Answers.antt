use Rattle.tile_model.proofs.WorkedCases.{points, tiles, ways, relations, needs}
use Rattle.tile_model.proofs.worked.worked_tiles.Goals as goal

pub returns-clause-points : goal.returns-clause-points
returns-clause-points c = points

pub returns-clause-tiles : goal.returns-clause-tiles
returns-clause-tiles c = tiles

pub returns-clause-ways : goal.returns-clause-ways
returns-clause-ways c = ways

pub returns-clause-relations : goal.returns-clause-relations
returns-clause-relations c = relations

pub returns-clause-needs : goal.returns-clause-needs
returns-clause-needs c = needs
