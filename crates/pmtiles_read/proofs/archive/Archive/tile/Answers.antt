use Rattle.std.proofs.Common.{◌≡◌, ◌+◌, ◌^◌, ◌<◌, ◌≤◌, None, Some, Ok, length, arith, subst, sym}
use Rattle.pmtiles_dirs.specs.declared.entry.DirEntry.{DirEntry}
use Rattle.pmtiles_dirs.specs.Fault.{Opened}
use Rattle.pmtiles_read.specs.Tiles.{IsOpenedFrom, covers, covering_entry}
use Rattle.pmtiles_read.proofs.Halving.{apart-of, found-holds, tiles-end}
use Rattle.pmtiles_read.specs.Answers.{TileAnswers}
use Rattle.pmtiles_read.proofs.Backing.{tile-none, tile-some}
use Rattle.pmtiles_read.proofs.Within.{tile-within, if-some}
use Rattle.pmtiles_read.proofs.archive.Archive.tile.Goals as goal

pub covering-requires : goal.covering-requires
covering-requires g c = rw c.deref.ensures.value (apart-of c.self.inside.tiles_at 0 c.self.inside.entries.items c.self.invariant)

pub overflow_add-at : goal.overflow_add-at
overflow_add-at g c =
    let is : Some c.in-Some.e ≡ covering_entry c.self.inside.entries.items c.args.id.0 = rw c.deref.ensures.value at c.in-Some.ensures in
    let end : c.self.inside.tiles_at + c.in-Some.e.offset + c.in-Some.e.len < 2 ^ 64 = found-holds (λ (e : DirEntry). c.self.inside.tiles_at + e.offset + e.len < 2 ^ 64) (covers c.args.id.0) c.self.inside.entries.items c.in-Some.e
    (λ k l. tiles-end c.self.inside.tiles_at 0 c.self.inside.entries.items k c.in-Some.e c.self.invariant l) is in
    omega (arith, end)

pub load_bytes-requires : goal.load_bytes-requires
load_bytes-requires g c =
    let is : Some c.in-Some.e ≡ covering_entry c.self.inside.entries.items c.args.id.0 = rw c.deref.ensures.value at c.in-Some.ensures in
    if-some (λ archive. IsOpenedFrom archive c.args.self.now) (λ archive. c.self.inside.tiles_at + c.in-Some.e.offset + c.in-Some.e.len ≤ length archive) (g.R.Source.seen c.args.source.now).bytes
    (λ archive o. tile-within archive (record { tiles_at = c.self.inside.tiles_at; entries = c.self.inside.entries.items }) c.args.id.0 c.in-Some.e (subst (λ (x : Opened). IsOpenedFrom archive x) (sym c.self.view_is) o) is) c.requires

pub returns-in-None : goal.returns-in-None
returns-in-None g c =
    let o : Opened = record { tiles_at = c.self.inside.tiles_at; entries = c.self.inside.entries.items } in
    let source = g.R.Source.seen c.args.source.now in
    let told = if-some (λ archive. IsOpenedFrom archive c.args.self.now) (λ archive. IsOpenedFrom archive o) source.bytes (λ archive h. subst (λ (x : Opened). IsOpenedFrom archive x) (sym c.self.view_is) h) c.requires in
    subst (λ (x : Opened). TileAnswers x source source c.args.id.0 (Ok None)) c.self.view_is (tile-none o source c.args.id.0 told (rw c.deref.ensures.value at c.in-None.ensures))

pub returns-in-Ok : goal.returns-in-Ok
returns-in-Ok g c =
    let o : Opened = record { tiles_at = c.self.inside.tiles_at; entries = c.self.inside.entries.items } in
    let old = g.R.Source.seen c.args.source.now in
    let new = g.R.Source.seen c.load_bytes.new.source in
    let told = if-some (λ archive. IsOpenedFrom archive c.args.self.now) (λ archive. IsOpenedFrom archive o) old.bytes (λ archive h. subst (λ (x : Opened). IsOpenedFrom archive x) (sym c.self.view_is) h) c.requires in
    subst (λ (x : Opened). TileAnswers x old new c.args.id.0 (Ok (Some c.in-Ok.bytes.items))) c.self.view_is
    (tile-some o old new c.args.id.0 c.in-Some.e c.in-Ok.bytes.items told (rw c.deref.ensures.value at c.in-Some.ensures) c.in-Ok.ensures.len c.in-Ok.ensures.told c.in-Ok.ensures.reads.bytes c.in-Ok.ensures.reads.counts c.in-Ok.ensures.reads.never_falls)
