use Rattle.std.proofs.Common.{◌∙◌, refl, subst}
use Rattle.tb_outside.specs.Sink.{SinkAnswers}
use Rattle.build_cli.specs.Line.{totals_text}
use Rattle.build_cli.proofs.Appending.{also}
use Rattle.build_cli.proofs.trial_line.tell_totals.Goals as goal

pub returns : goal.returns
unfolding totals_text
returns g c =
    subst (λ text. SinkAnswers (g.K.Sink.seen c.args.console.now) (g.K.Sink.seen c.append_all.new.sink) text c.append_all.result)
    (also _ _ _ _ c.as_slice.ensures (also _ _ _ _ (c.as_bytes.ensures.value ∙ c.format.ensures.text)
    (also _ _ _ _ c.as_slice-2.ensures (also _ _ _ _ (c.as_bytes-2.ensures.value ∙ c.format-2.ensures.text)
    (also _ _ _ _ c.as_slice-3.ensures (also _ _ _ _ (c.as_bytes-3.ensures.value ∙ c.format-3.ensures.text)
    (also _ _ _ _ c.as_slice-4.ensures (also _ _ _ _ (c.as_bytes-4.ensures.value ∙ c.format-4.ensures.text)
    (also _ _ _ _ c.as_slice-5.ensures refl)))))))))
    c.append_all.ensures
