use Rattle.std.proofs.Common.{◌≡◌, length, arith, rules, subst, ℕ, Ok}
use Rattle.std.specs.Prelude.{⊤}
use Rattle.tb_outside.specs.Spill.{ReadAnswers}
use Rattle.pmtiles_file.proofs.Copying.{part-read}
use Rattle.pmtiles_file.proofs.copy.read_behind.Goals as goal

pub returns-in-Ok-clause-part : goal.returns-in-Ok-clause-part
returns-in-Ok-clause-part g c =
    let len : length c.read_run.new.out ≡ c.args.n = search rules in
    part-read c.args.content c.args.at c.args.n c.args.filled _ (g.S.Spill.seen c.args.spool.now) (g.S.Spill.seen c.read_run.new.self) c.args.buffer.now c.read_run.new.out c.in-Ok.field-0 len (omega (arith, c.requires.room))
    (subst (λ (n : ℕ). ReadAnswers (g.S.Spill.seen c.args.spool.now) (g.S.Spill.seen c.read_run.new.self) n c.args.at c.read_run.new.out (Ok c.in-Ok.field-0)) c.from.ensures c.in-Ok.ensures)
