use Rattle.std.proofs.Common.{◌≡◌, ◌^◌, ◌<◌, ◌≤◌, Ok, rules, refl, ap, sym, subst}
use Rattle.std.specs.Prelude.{⊤}
use Rattle.pmtiles_file.specs.Writing.{WriterSeen, next_id, RunsStand, AddAnswers}
use Rattle.pmtiles_file.proofs.Adding.{add-answers}
use Rattle.pmtiles_file.proofs.writer.Writer.add.Goals as goal

pub returns : goal.returns
returns g c =
    let i = c.self.inside in
    let old : WriterSeen = record { meta = i.meta; contents = i.contents; entries = i.listed.entries; tiles = i.listed.tiles } in
    let new : WriterSeen = record { meta = i.meta; contents = c.place.new.self; entries = c.add.new.self.entries; tiles = c.add.new.self.tiles } in
    let fits : c.args.id.0 < 2 ^ 64 = search rules in
    let next : next_id old ≤ c.args.id.0 = subst (λ (w : WriterSeen). next_id w ≤ c.args.id.0) (sym c.self.view_is) c.requires.next in
    let stand : RunsStand old (g.S.Spill.seen c.args.spool.now).runs = subst (λ (w : WriterSeen). RunsStand w (g.S.Spill.seen c.args.spool.now).runs) (sym c.self.view_is) c.requires.stand in
    subst (λ (w : WriterSeen). AddAnswers w new c.args.id.0 c.args.bytes.now (g.S.Spill.seen c.args.spool.now) (g.S.Spill.seen c.place.new.spool) (Ok tt)) c.self.view_is
    (add-answers old new c.args.id.0 c.args.bytes.now (g.S.Spill.seen c.args.spool.now) (g.S.Spill.seen c.place.new.spool) c.in-Ok.content tt refl c.in-Ok.ensures c.in-Ok-add.ensures.entries c.in-Ok-add.ensures.tiles stand next fits c.requires.some c.requires.short)
