use Rattle.std.proofs.Common.{◌+◌, refl, sym, subst, ◌∙◌, arith}
use Rattle.std.proofs.lemmas.Bool.{ltb-false}
use Rattle.run_merge.specs.Objects.{objects_of, told_of}
use Rattle.run_merge.specs.Cursors.{IsNext, IsHead}
use Rattle.run_merge.proofs.Heads.{rank_below}
use Rattle.run_merge.proofs.Reading.{outside_in, rest_is, not_below, reads_made, stands_of, left_behind}
use Rattle.run_merge.proofs.run_reader.RunReader.advance.Goals as goal

pub overflow_add-at : goal.overflow_add-at
overflow_add-at g c =
    let reader = c.args.self.now in
    let is : IsHead reader.cursor.run.run.len reader.cursor.at c.args.head = subst (IsNext reader.cursor.run.run.len reader.cursor.at) c.requires.head c.requires.sound.next in
    omega (arith, is.within)

pub head_at-requires-clause-items : goal.head_at-requires-clause-items
head_at-requires-clause-items g c =
    let seen = g.S.Spill.seen in
    let reader = c.args.self.now in
    rest_is c.args.layers (told_of (objects_of seen c.args.lanes.now c.args.spool.now) reader.cursor.run) reader c.args.head c.requires.head c.requires.told

pub returns-then-is_below-clause-reads : goal.returns-then-is_below-clause-reads
returns-then-is_below-clause-reads g c =
    let seen = g.S.Spill.seen in
    let reader = c.args.self.now in
    let old = objects_of seen c.args.lanes.now c.args.spool.now in
    let told = told_of old reader.cursor.run in
    let is : IsHead reader.cursor.run.run.len reader.cursor.at c.args.head = subst (IsNext reader.cursor.run.run.len reader.cursor.at) c.requires.head c.requires.sound.next in
    let first = rw c.in-Ok-Some.field-0-is at c.in-Ok-Some.ensures.first in
    rw c.outside.ensures (outside_in old (objects_of seen c.head_at.new.lanes c.head_at.new.spool) reader.cursor.run (reader.cursor.at + c.args.head.len) is.within
    (not_below c.args.layers told reader c.args.head c.in-Ok-Some.next c.requires.head c.requires.told first (sym c.is_below.ensures ∙ c.if-is_below.true)) c.in-Ok-Some.ensures.reads)

pub returns-in-Ok-None-clause-advances : goal.returns-in-Ok-None-clause-advances
returns-in-Ok-None-clause-advances g c =
    let seen = g.S.Spill.seen in
    let reader = c.args.self.now in
    let told = told_of (objects_of seen c.args.lanes.now c.args.spool.now) reader.cursor.run in
    let is : IsHead reader.cursor.run.run.len reader.cursor.at c.args.head = subst (IsNext reader.cursor.run.run.len reader.cursor.at) c.requires.head c.requires.sound.next in
    let first = rw c.in-Ok-None.field-0-is at c.in-Ok-None.ensures.first in
    record {
      run = refl;
      at = refl;
      rises = omega (arith, rank_below reader.cursor.run.run.len reader.cursor.at c.args.head is);
      told_is = reads_made c.args.layers told _ (stands_of c.args.layers told reader c.requires.told) (rest_is c.args.layers told reader c.args.head c.requires.head c.requires.told) first c.in-Ok-None.ensures.ahead;
      left = left_behind c.args.layers told reader c.args.head c.requires.head c.requires.told;
    }

pub returns-else-is_below-clause-advances : goal.returns-else-is_below-clause-advances
returns-else-is_below-clause-advances g c =
    let seen = g.S.Spill.seen in
    let reader = c.args.self.now in
    let told = told_of (objects_of seen c.args.lanes.now c.args.spool.now) reader.cursor.run in
    let first = rw c.in-Ok-Some.field-0-is at c.in-Ok-Some.ensures.first in
    record {
      run = refl;
      at = refl;
      rises = ltb-false _ _ (sym c.is_below.ensures ∙ c.if-is_below.false);
      told_is = reads_made c.args.layers told _ (stands_of c.args.layers told reader c.requires.told) (rest_is c.args.layers told reader c.args.head c.requires.head c.requires.told) first c.in-Ok-Some.ensures.ahead;
      left = left_behind c.args.layers told reader c.args.head c.requires.head c.requires.told;
    }
