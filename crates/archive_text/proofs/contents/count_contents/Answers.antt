use Rattle.std.proofs.Common.{◌≡◌, ◌<◌, ◌^◌, ℕ, List, Option, get_or, arith, subst, sym}
use Rattle.std.specs.Prelude.{Contains, IfSome}
use Rattle.std.proofs.lemmas.List.Elements.{Contains-get_or}
use Rattle.pmtiles_dirs.specs.declared.entry.DirEntry.{DirEntry}
use Rattle.pmtiles_read.specs.Tiles.{IsOpenedFrom}
use Rattle.archive_text.proofs.Walking.{walked-start, walked-next, walked-fails, walked-all, run-fits}
use Rattle.archive_text.proofs.contents.count_contents.Goals as goal

pub loop-e-init : goal.loop-e-init
loop-e-init g c = record { walked = walked-start c.args.archive.now (g.R.Source.seen c.args.source.now) c.new-counted.result c.new-counted.ensures; small = omega arith }

pub features_of-requires-clause-entry : goal.features_of-requires-clause-entry
features_of-requires-clause-entry g c =
    let entries = c.entries-entries.result.now in
    subst (λ (all : List DirEntry). Contains all (get_or entries c.loop-e.e-index (record { id = 0; run = 0; len = 0; offset = 0 }))) c.entries-entries.ensures.entries
    (Contains-get_or entries c.loop-e.e-index (record { id = 0; run = 0; len = 0; offset = 0 }) c.loop-e-test.true)

pub features_of-requires-clause-told : goal.features_of-requires-clause-told
features_of-requires-clause-told g c = subst (λ (bytes : Option (List ℕ)). IfSome bytes (λ archive. IsOpenedFrom archive c.args.archive.now)) (sym c.loop-e.invariant.walked.reads.bytes) c.requires

pub returns-in-Err : goal.returns-in-Err
returns-in-Err g c =
    walked-fails c.args.archive.now (g.R.Source.seen c.args.source.now) (g.R.Source.seen c.loop-e.source) (g.R.Source.seen c.features_of.new.source) c.entries-entries.result.now c.loop-e.e-index (record { id = 0; run = 0; len = 0; offset = 0 }) c.loop-e.counted c.features_of.new.counted
    c.loop-e.tiles c.loop-e.features c.in-Err.e c.entries-entries.ensures.entries c.loop-e-test.true c.loop-e.invariant.walked c.in-Err.ensures

pub overflow_add-tiles : goal.overflow_add-tiles
overflow_add-tiles g c =
    let run = run-fits c.args.archive.now.tiles_at 0 c.entries-entries.result.now c.loop-e.e-index (record { id = 0; run = 0; len = 0; offset = 0 }) (rw c.entries-entries.ensures.entries c.entries-entries.ensures.sound) c.loop-e-test.true in
    let small = c.loop-e.invariant.small in
    omega (arith, run, small)

pub loop-e-preserved : goal.loop-e-preserved
loop-e-preserved g c =
    let run = run-fits c.args.archive.now.tiles_at 0 c.entries-entries.result.now c.loop-e.e-index (record { id = 0; run = 0; len = 0; offset = 0 }) (rw c.entries-entries.ensures.entries c.entries-entries.ensures.sound) c.loop-e-test.true in
    let small = c.loop-e.invariant.small in
    record {
      walked = walked-next c.args.archive.now (g.R.Source.seen c.args.source.now) (g.R.Source.seen c.loop-e.source) (g.R.Source.seen c.features_of.new.source) c.entries-entries.result.now c.loop-e.e-index (record { id = 0; run = 0; len = 0; offset = 0 }) c.loop-e.counted c.features_of.new.counted
          c.loop-e.tiles c.loop-e.features c.in-Ok.more c.from-tiles.result c.in_ok-features.features c.loop-e-test.true c.loop-e.invariant.walked c.in-Ok.ensures c.from-tiles.ensures (c.in_ok-features.ensures {u = tt});
      small = omega (arith, run, small);
    }

pub returns : goal.returns
returns g c =
    walked-all c.args.archive.now (g.R.Source.seen c.args.source.now) (g.R.Source.seen c.loop-e.source) c.entries-entries.result.now c.loop-e.e-index c.loop-e.counted c.loop-e.tiles c.loop-e.features _ _
    c.entries-entries.ensures.entries c.loop-e-test.false (omega arith) (omega arith) c.loop-e.invariant.walked
