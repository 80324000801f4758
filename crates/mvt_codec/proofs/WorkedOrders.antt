-- The worked keys and items, by computing.
use Rattle.std.proofs.Common.{refl}
use Rattle.mvt_codec.specs.Groups.{layers_of}
use Rattle.mvt_codec.specs.WorkedKeys.{WorkedKeys}

pub worked_keys : WorkedKeys
unfolding layers_of
worked_keys = record {
  tiles = refl;
  layers = refl;
  orders = refl;
  below_zero = refl;
  kinds = refl;
  nodes = refl;
  blocks = refl;
  places = refl;
  rules = refl;
  same = refl;
  a_rank = refl;
  two_layers = refl;
  text = refl;
  no_items = refl;
}
