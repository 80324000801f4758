use Rattle.std.proofs.Common.{◌≡◌, Some, None, sym, ◌∙◌, rules}
use Rattle.feature_runs.specs.ItemReading.{head_at}
use Rattle.feature_runs.proofs.ItemWhole.{head_again}
use Rattle.feature_runs.proofs.head.read_head.Goals as goal

pub returns-in-Ok-clause-item : goal.returns-in-Ok-clause-item
returns-in-Ok-clause-item c = λ item rest is fits e thirty. sym c.in-Ok.ensures ∙ head_again item c.args.bytes.now rest is fits e thirty

pub returns-in-Err-NoItem-clause-item : goal.returns-in-Err-NoItem-clause-item
returns-in-Err-NoItem-clause-item c = λ item rest is fits e thirty.
    let none : head_at c.args.bytes.now ≡ None = search rules in
    sym none ∙ head_again item c.args.bytes.now rest is fits e thirty
