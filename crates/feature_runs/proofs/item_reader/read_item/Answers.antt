use Rattle.std.proofs.Common.{◌≡◌, ◌^◌, ◌<◌, ◌≤◌, ℕ, ◌-◌, List, drop, length, Some, None, refl, sym, ap, ◌∙◌, arith, rules}
use Rattle.mvt_codec.specs.declared.item.RunItem.{RunItem}
use Rattle.feature_runs.specs.ItemReading.{item_at}
use Rattle.feature_runs.proofs.ItemWhole.{found_at, read_there, one_item, nothing_read}
use Rattle.feature_runs.proofs.item_reader.read_item.Goals as goal

pub returns-in-Ok-clause-found : goal.returns-in-Ok-clause-found
returns-in-Ok-clause-found c =
    let short : length c.args.bytes.now < 2 ^ 64 = search rules in
    let le : c.args.at ≤ length c.args.bytes.now = omega arith in
    let read : item_at (drop c.args.at c.args.bytes.now) ≡ Some (c.in-Ok.item, c.in-Ok.rest.now) = search rules in
    rw c.saturating_sub.ensures (found_at c.args.bytes.now c.args.at c.in-Ok.item c.in-Ok.rest.now le (λ i. omega (arith, c.type_inv.bytes i)) short read)

pub returns-in-Ok-clause-only : goal.returns-in-Ok-clause-only
returns-in-Ok-clause-only c = λ item next is fits there.
    let read : item_at (drop c.args.at c.args.bytes.now) ≡ Some (c.in-Ok.item, c.in-Ok.rest.now) = search rules in
    let again = read_there c.args.bytes.now c.args.at item next is fits there in
    let same = one_item c.in-Ok.item item c.in-Ok.rest.now again.0 (length c.args.bytes.now) next (item_at (drop c.args.at c.args.bytes.now)) read again.1 again.2 in
    rw c.saturating_sub.ensures (ap Some same)

pub returns-in-Err-NoItem-clause-only : goal.returns-in-Err-NoItem-clause-only
returns-in-Err-NoItem-clause-only c = λ item next is fits there.
    let read : item_at (drop c.args.at c.args.bytes.now) ≡ None = search rules in
    let again = read_there c.args.bytes.now c.args.at item next is fits there in
    nothing_read (item, next) (item, again.0) (item_at (drop c.args.at c.args.bytes.now)) None read again.1
