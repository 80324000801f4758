use Rattle.std.proofs.Common.{refl}
use Rattle.std.proofs.lemmas.List.Elements.{All-set}
use Rattle.run_merge.specs.Cursors.{IsSound, cursors_of, runs_of}
use Rattle.run_merge.specs.Objects.{objects_of}
use Rattle.run_merge.proofs.Slices.{on_ok, reads_wider, named_one, inside, head_of_least, advances_at}
use Rattle.run_merge.proofs.steps.take_one.Goals as goal

pub advance-requires-clause-head : goal.advance-requires-clause-head
advance-requires-clause-head g c = head_of_least c.args.readers.now c.args.number c.args.head c.index-readers-number.result c.requires.least

pub returns-clause-advances : goal.returns-clause-advances
returns-clause-advances g c =
    let seen = g.S.Spill.seen in
    let o = objects_of seen c.args.lanes.now c.args.spool.now in
    on_ok c.advance.result (λ advances. advances_at c.args.readers.now c.args.number c.args.head c.index-readers-number.result c.requires.least o c.args.layers c.advance.new.self c.requires.sound c.requires.told advances) c.advance.ensures.advances

pub returns-clause-sound : goal.returns-clause-sound
returns-clause-sound g c = All-set IsSound c.args.readers.now c.args.number c.advance.new.self c.advance.ensures.sound c.requires.sound

pub returns-clause-reads : goal.returns-clause-reads
returns-clause-reads g c =
    let readers = c.args.readers.now in
    let lt = inside readers c.args.number c.args.head c.index-readers-number.result c.requires.least in
    reads_wider _ _ _ (runs_of (cursors_of readers)) c.advance.result (named_one readers c.args.number c.index-readers-number.result lt) c.advance.ensures.reads

pub returns-clause-one : goal.returns-clause-one
returns-clause-one g c = (c.advance.new.self, refl)
