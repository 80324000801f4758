use Rattle.std.proofs.Common.{map, sym, subst}
use Rattle.osm_elements.specs.Reasons.{Gives}
use Rattle.osm_elements.specs.Lists.{seen_lists}
use Rattle.osm_elements.proofs.DenseGroups.{group_found}
use Rattle.osm_elements.specs.Words.{seen_words}
use Rattle.osm_elements.proofs.dense.Dense.find.Goals as goal

pub returns : goal.returns
returns c =
    let read = c.in_ok-read.ensures {u = tt} in
    subst (λ r. Gives (λ _. seen_lists c.read.new.self) c.check.result r) (sym (group_found (seen_words c.args.strings.now) c.args.group.now read.0 c.read.new.self read.1 read.2)) c.check.ensures
