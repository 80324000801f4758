use Rattle.std.proofs.Common.{take, drop, ap, ◌∙◌}
use Rattle.std.proofs.lemmas.List.{take_min}
use Rattle.ring_assembly.proofs.Paths.{drop_min}
use Rattle.ring_assembly.proofs.outline.split_stretch.Goals as goal

pub returns-clause-stretch : goal.returns-clause-stretch
returns-clause-stretch c = c.split_at.ensures.front ∙ ap (λ n. take n c.args.path.now) c.min.ensures ∙ take_min 64 c.args.path.now

pub returns-clause-more : goal.returns-clause-more
returns-clause-more c = c.split_at.ensures.back ∙ ap (λ n. drop n c.args.path.now) c.min.ensures ∙ drop_min 64 c.args.path.now
