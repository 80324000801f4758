use Rattle.std.proofs.Common.{◌-◌, ◌<◌, ◌≤◌, refl, arith, inl, inr, ◌⊎◌}
use Rattle.run_merge.specs.Objects.{objects_of, told_of}
use Rattle.run_merge.proofs.Reading.{outside_in, none_first, no_short, sees, sees_none, sees_bad, sees_good}
use Rattle.run_merge.proofs.run_reader.head_at.Goals as goal
use Rattle.run_merge.proofs.run_reader.head_at.Goals.{then-key-layers-via-then-key-layers, then-key-layers-via-else-key-layers+then-row_len-left}

pub returns-then-left-eq0-clause-first : goal.returns-then-left-eq0-clause-first
returns-then-left-eq0-clause-first g c =
    let seen = g.S.Spill.seen in
    let told = told_of (objects_of seen c.args.lanes.now c.args.spool.now) c.args.run in
    none_first told c.args.run c.args.at c.requires.stands (omega (arith, c.if-left-eq0.true))

pub returns-then-left-lt-HEAD-clause-reads : goal.returns-then-left-lt-HEAD-clause-reads
returns-then-left-lt-HEAD-clause-reads g c =
    let seen = g.S.Spill.seen in
    let old = objects_of seen c.args.lanes.now c.args.spool.now in
    let told = told_of old c.args.run in
    rw c.outside.ensures (outside_in old old c.args.run c.args.at c.requires.fits (no_short c.args.layers told c.args.run c.args.at c.requires.stands c.requires.items (omega (arith, c.if-left-eq0.false)) (omega (arith, c.if-left-lt-HEAD.true))) refl)

pub returns-then-key-layers-clause-reads : goal.returns-then-key-layers-clause-reads
returns-then-key-layers-clause-reads g c =
    let seen = g.S.Spill.seen in
    let old = objects_of seen c.args.lanes.now c.args.spool.now in
    let told = told_of old c.args.run in
    let s = sees c.args.layers told c.args.run c.args.at c.cover.new.self c.bytes_at.result.now c.in-Ok-read_head.head c.requires.stands c.requires.items c.in-Ok.ensures.ahead c.in-Ok.ensures.begin c.in-Ok.ensures.end c.bytes_at.ensures (omega (arith, c.if-left-lt-HEAD.false)) c.in-Ok-read_head.ensures.item in
    let bad = elim c.then-key-layers.branch as (λ w. (c.args.layers ≤ c.in-Some.key.layer) ⊎ (c.args.run.run.len - c.args.at - 30 < c.in-Some.row_len)) [
      | then-key-layers-via-then-key-layers w ↦ inl (omega (arith, w.if-key-layers.true))
      | then-key-layers-via-else-key-layers+then-row_len-left w ↦ inr (omega (arith, w.if-row_len-left.true))
    ] in
    rw c.outside-then-key-layers.ensures (outside_in old (objects_of seen c.cover.new.lanes c.cover.new.spool) c.args.run c.args.at c.requires.fits (sees_bad c.args.layers told c.args.run c.args.at c.in-Ok-read_head.head c.in-Some.key c.in-Some.row_len c.in-Some.is bad s) c.in-Ok.ensures.reads)

pub returns-in-None-clause-reads : goal.returns-in-None-clause-reads
returns-in-None-clause-reads g c =
    let seen = g.S.Spill.seen in
    let old = objects_of seen c.args.lanes.now c.args.spool.now in
    let told = told_of old c.args.run in
    let s = sees c.args.layers told c.args.run c.args.at c.cover.new.self c.bytes_at.result.now c.in-Ok-read_head.head c.requires.stands c.requires.items c.in-Ok.ensures.ahead c.in-Ok.ensures.begin c.in-Ok.ensures.end c.bytes_at.ensures (omega (arith, c.if-left-lt-HEAD.false)) c.in-Ok-read_head.ensures.item in
    rw c.outside-in-None.ensures (outside_in old (objects_of seen c.cover.new.lanes c.cover.new.spool) c.args.run c.args.at c.requires.fits (sees_none c.args.layers told c.args.run c.args.at c.in-Ok-read_head.head c.in-None.is s) c.in-Ok.ensures.reads)

pub returns-else-row_len-left-clause-first : goal.returns-else-row_len-left-clause-first
returns-else-row_len-left-clause-first g c =
    let seen = g.S.Spill.seen in
    let old = objects_of seen c.args.lanes.now c.args.spool.now in
    let told = told_of old c.args.run in
    let s = sees c.args.layers told c.args.run c.args.at c.cover.new.self c.bytes_at.result.now c.in-Ok-read_head.head c.requires.stands c.requires.items c.in-Ok.ensures.ahead c.in-Ok.ensures.begin c.in-Ok.ensures.end c.bytes_at.ensures (omega (arith, c.if-left-lt-HEAD.false)) c.in-Ok-read_head.ensures.item in
    sees_good c.args.layers told c.args.run c.args.at c.in-Ok-read_head.head c.in-Some.key c.rank_prefix-prefix.result c.rank_suffix-suffix.result c.in-Some.row_len c.in-Some.is c.rank_prefix-prefix.ensures c.rank_suffix-suffix.ensures.exact s
