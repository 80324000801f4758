use Rattle.std.proofs.Common.{◌≡◌, ◌+◌, ◌<◌, ◌≤◌, length, get_or, rules}
use Rattle.mvt_codec.proofs.ShortNumbers.{one-byte, two-bytes}
use Rattle.mvt_codec.proofs.packed.read_number.Goals as goal

pub returns-then-low-lt128-clause-exact : goal.returns-then-low-lt128-clause-exact
returns-then-low-lt128-clause-exact c =
    let bytes = c.args.bytes.now in
    let low : get_or bytes c.args.at 0 ≡ c.from.result = search rules in
    let small : c.from.result < 128 = search rules in
    one-byte bytes c.args.at c.from.result c.requires low small

pub returns-then-high-lt128-clause-exact : goal.returns-then-high-lt128-clause-exact
returns-then-high-lt128-clause-exact c =
    let bytes = c.args.bytes.now in
    let within : c.args.at + 1 < length bytes = search rules in
    let low : get_or bytes c.args.at 0 ≡ c.from-then-high-lt128.result = search rules in
    let high : get_or bytes (c.args.at + 1) 0 ≡ c.from-then-high-lt128-2.result = search rules in
    let large : 128 ≤ c.from-then-high-lt128.result = search rules in
    let small : c.from-then-high-lt128-2.result < 128 = search rules in
    two-bytes bytes c.args.at c.from-then-high-lt128.result c.from-then-high-lt128-2.result within low high large small
