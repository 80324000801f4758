use Rattle.std.proofs.Common.{sym, subst, []}
use Rattle.pmtiles_file.specs.Distinct.{DistinctSeen, StandIn}
use Rattle.pmtiles_file.specs.Listed.{ListedSeen}
use Rattle.pmtiles_file.specs.Writing.{Wrote}
use Rattle.pmtiles_file.proofs.Adding.{wrote-none, none-stand}
use Rattle.pmtiles_file.proofs.writer.Writer.new.Goals as goal

pub returns-clause-none : goal.returns-clause-none
returns-clause-none c = λ ended.
    subst (λ (d : DistinctSeen). Wrote (record { meta = c.args.meta; contents = d; entries = c.new-2.result.entries; tiles = c.new-2.result.tiles }) ended []) (sym c.in_ok-contents.ensures)
    (subst (λ (l : ListedSeen). Wrote (record { meta = c.args.meta; contents = record { hashes = []; stored = []; end = 0 }; entries = l.entries; tiles = l.tiles }) ended []) (sym c.new-2.ensures) (wrote-none c.args.meta ended))

pub returns-clause-stand : goal.returns-clause-stand
returns-clause-stand c = λ runs. subst (λ (d : DistinctSeen). StandIn runs d.stored) (sym c.in_ok-contents.ensures) (none-stand runs)
