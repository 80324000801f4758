use Rattle.build_one.proofs.Completeness.{complete}
use Rattle.build_one.proofs.engine.builds_are_complete.Goals as goal

pub returns : goal.returns
returns c = λ from budget lanes before after result answers none. complete from budget lanes before after result answers none
