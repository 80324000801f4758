use Rattle.std.proofs.Common.{Ok, Err, ◌∷◌, [], slice_index_or, refl, sym, ap, subst}
use Rattle.tile_model.specs.declared.stop.Stop.{Stop}
use Rattle.build_one.specs.Made.{MapWritten}
use Rattle.build_one.proofs.OneLane.{of-one, map-stopped, map-ended}
use Rattle.build_one.proofs.engine.write_map.Goals as goal

pub returns-in-Err-write_tiles-clause-written : goal.returns-in-Err-write_tiles-clause-written
returns-in-Err-write_tiles-clause-written g c = λ due known.
    let e = c.in-Err-write_tiles.e in
    let a = of-one g.S.Spill.seen c.args.profile.now c.args.part c.args.bounds c.requires.sound c.in-Ok.meta c.args.lane.now c.args.spool.now (c.args.runs ∷ []) c.write_tiles.new.lanes c.write_tiles.new.spool c.from_mut-lanes.result.now (Err e) c.from_mut-lanes.ensures.value (c.in-Err-write_tiles.ensures {u = tt}) in
    let k = g.K.Sink.seen c.args.archive.now in
    subst (λ (stop : Stop). MapWritten due (g.S.Spill.seen c.args.lane.now.spill) (g.S.Spill.seen (slice_index_or c.write_tiles.new.lanes 0 c.args.lane.now).spill) (g.S.Spill.seen c.args.spool.now) (g.S.Spill.seen c.write_tiles.new.spool) k k (Err stop)) (sym c.stop_of_tiles.ensures)
    (map-stopped g.S.Spill.seen c.args.profile.now c.args.part c.args.bounds c.requires.sound c.in-Ok.meta c.args.lane.now c.args.spool.now (c.args.runs ∷ []) c.write_tiles.new.lanes c.write_tiles.new.spool e a k due known)

pub returns-in-Ok-finish-clause-written : goal.returns-in-Ok-finish-clause-written
returns-in-Ok-finish-clause-written g c = λ due known.
    let w = c.in-Ok-write_tiles.writer in
    let a = of-one g.S.Spill.seen c.args.profile.now c.args.part c.args.bounds c.requires.sound c.in-Ok.meta c.args.lane.now c.args.spool.now (c.args.runs ∷ []) c.write_tiles.new.lanes c.write_tiles.new.spool c.from_mut-lanes.result.now (Ok w) c.from_mut-lanes.ensures.value (c.in-Ok-write_tiles.ensures {u = tt}) in
    let totals = c.in-Ok-finish.totals in
    map-ended g.S.Spill.seen c.args.profile.now c.args.part c.args.bounds c.requires.sound c.in-Ok.meta c.args.lane.now c.args.spool.now (c.args.runs ∷ []) c.write_tiles.new.lanes c.write_tiles.new.spool w a (c.in-Ok.ensures {u = tt}) (g.S.Spill.seen c.finish.new.spool) (g.K.Sink.seen c.args.archive.now) (g.K.Sink.seen c.finish.new.sink) (Ok totals) (c.in-Ok-finish.ensures {u = tt}) (Ok totals) refl due known

pub returns-in-Err-finish-clause-written : goal.returns-in-Err-finish-clause-written
returns-in-Err-finish-clause-written g c = λ due known.
    let w = c.in-Ok-write_tiles.writer in
    let a = of-one g.S.Spill.seen c.args.profile.now c.args.part c.args.bounds c.requires.sound c.in-Ok.meta c.args.lane.now c.args.spool.now (c.args.runs ∷ []) c.write_tiles.new.lanes c.write_tiles.new.spool c.from_mut-lanes.result.now (Ok w) c.from_mut-lanes.ensures.value (c.in-Ok-write_tiles.ensures {u = tt}) in
    let e = c.in-Err-finish.e in
    map-ended g.S.Spill.seen c.args.profile.now c.args.part c.args.bounds c.requires.sound c.in-Ok.meta c.args.lane.now c.args.spool.now (c.args.runs ∷ []) c.write_tiles.new.lanes c.write_tiles.new.spool w a (c.in-Ok.ensures {u = tt}) (g.S.Spill.seen c.finish.new.spool) (g.K.Sink.seen c.args.archive.now) (g.K.Sink.seen c.finish.new.sink) (Err e) (c.in-Err-finish.ensures {u = tt}) (Err c.stop_of_archive.result) (ap Err c.stop_of_archive.ensures) due known
