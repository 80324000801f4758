use Rattle.std.proofs.Common.{◌≡◌, ◌+◌, ◌≤◌, ℕ, length, arith, subst, sym, ◌∙◌}
use Rattle.std.specs.Prelude.{Contains}
use Rattle.pmtiles_dirs.specs.Fault.{Opened}
use Rattle.pmtiles_read.specs.Tiles.{IsOpenedFrom}
use Rattle.pmtiles_read.proofs.Within.{entry-within, entry-end, if-some}
use Rattle.pmtiles_read.proofs.archive.Archive.load_content.Goals as goal

pub overflow_add-at : goal.overflow_add-at
overflow_add-at g c =
    let o : Opened = record { tiles_at = c.self.inside.tiles_at; entries = c.self.inside.entries.items } in
    let end = entry-end o c.args.e c.self.invariant (subst (λ (x : Opened). Contains x.entries c.args.e) (sym c.self.view_is) c.requires.entry) in
    omega (arith, end)

pub load-requires : goal.load-requires
load-requires g c =
    let o : Opened = record { tiles_at = c.self.inside.tiles_at; entries = c.self.inside.entries.items } in
    let len : length c.as_mut_slice.result.now ≡ c.args.e.len = c.as_mut_slice.ensures.len ∙ c.in_ok-resize.ensures.len in
    let there = subst (λ (x : Opened). Contains x.entries c.args.e) (sym c.self.view_is) c.requires.entry in
    if-some (λ archive. IsOpenedFrom archive c.args.self.now) (λ archive. o.tiles_at + c.args.e.offset + length c.as_mut_slice.result.now ≤ length archive) (g.R.Source.seen c.args.source.now).bytes
    (λ archive is. subst (λ (n : ℕ). o.tiles_at + c.args.e.offset + n ≤ length archive) (sym len) (entry-within archive o c.args.e (subst (λ (x : Opened). IsOpenedFrom archive x) (sym c.self.view_is) is) there)) c.requires.told
