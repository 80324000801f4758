-- The proofs of the laws of tiles, for callers to cite, as `(tiles F T X).grouped`.
use Rattle.tile_model.specs.TileLaws.{TileLaws, DifferLaws}
use Rattle.tile_model.specs.BuildLaws.{BuildLaws}
use Rattle.tile_model.specs.PointLaws.{PointLaws}
use Rattle.tile_model.proofs.Walking
use Rattle.tile_model.proofs.Tiled
use Rattle.tile_model.proofs.Differing
use Rattle.tile_model.proofs.TileLists
use Rattle.tile_model.proofs.Built
use Rattle.tile_model.specs.ExtractLaws.{ExtractLaws}
use Rattle.tile_model.proofs.PointFeatures
use Rattle.tile_model.proofs.Names
use Rattle.tile_model.proofs.Numbering
use Rattle.tile_model.proofs.Ranges

pub tiles : (F T X : Type 0) → TileLaws F T X
tiles F T X = record {
  walked = λ item features met tiles reach apart m r. Walking.walked item features met tiles reach apart m r;
  grouped = λ lt class id item features tiles ys are ties m up. Tiled.grouped lt class id item features tiles are ties ys m up;
  sorted = λ lt class id item features tiles ys are ties m. Tiled.sorted lt class id item features tiles are ties ys m;
  told = λ lt class id item features tiles ys groups are ties m told. Tiled.told lt class id item features tiles are ties ys m groups told;
  tells = λ lt class id item features tiles are. Tiled.tells lt class id item features tiles are;
}

pub differing : (F T X K N : Type 0) → DifferLaws F T X K N
differing F T X K N = record {
  differ = λ key name tag lt class id item features tiles tells are named apart. Differing.differ key name tag class id item tells lt features tiles are named apart;
}

pub build : BuildLaws
build = record {
  ids = TileLists.ids;
  emitted = λ features met min max h within m. Built.all-emitted features met min max within m;
  told_zoom = Built.told-zoom;
  differ = Built.keys-differ;
  kept = Built.kept;
  grouped = λ features min max items h differ m up. Built.grouped features min max items h differ m up;
  sorted = λ features min max items h differ m. Built.sorted features min max items h differ m;
  told = λ features min max items groups h differ m are. Built.told features min max items h differ m groups are;
}

pub points : PointLaws
points = record {
  told = PointFeatures.told;
  items = λ parts block n w spec zoom tiles low high is. PointFeatures.items parts block n w spec zoom low high tiles is;
  near = PointFeatures.near;
}

pub extracts : ExtractLaws
extracts = record {
  differ = Names.names-differ;
  numbered = Numbering.elements-numbered;
  placed = Numbering.nodes-placed;
  ways_placed = Numbering.ways-placed;
  within = Ranges.all-within;
}
