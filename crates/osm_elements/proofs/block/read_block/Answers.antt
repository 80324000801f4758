use Rattle.osm_elements.proofs.Few.{few}
use Rattle.osm_elements.proofs.block.read_block.Goals as goal

pub returns-clause-few : goal.returns-clause-few
returns-clause-few c = few c.args.raw.now c.find_block.result c.find_block.ensures
