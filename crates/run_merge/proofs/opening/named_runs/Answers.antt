use Rattle.std.proofs.Common.{◌≡◌, ℕ, ◌<◌, ◌++◌, List, [], length, map, take, get_or, sym, ap, ◌∙◌, arith}
use Rattle.std.proofs.lemmas.List.{take_all, get_or_default}
use Rattle.tb_outside.specs.declared.spill.RunAt.{RunAt}
use Rattle.run_merge.specs.declared.named_run.Store.TheVariants as stores
use Rattle.run_merge.specs.Answers.{named, named_from}
use Rattle.run_merge.proofs.Openings.{named_more}
use Rattle.run_merge.proofs.opening.named_runs.Goals as goal

pub loop-number-preserved : goal.loop-number-preserved
loop-number-preserved c =
    let lists = c.args.lists.now in
    let n = c.loop-number.number in
    let within : n < length lists = omega (arith, c.loop-number-test.true) in
    let slice : c.as_slice-run-items.result.now ≡ get_or lists n [] = c.as_slice-run-items.ensures ∙ c.index-lists-number.is ∙ get_or_default lists n c.index-lists-number.result [] within in
    let all : take c.loop-run.run-index (get_or lists n []) ≡ get_or lists n [] = take_all c.loop-run.run-index (get_or lists n []) (omega (arith, c.loop-run-test.false, ap length slice)) in
    c.loop-run.invariant
    ∙ ap (λ (l : List RunAt). named_from 0 (take n lists) ++ map (named (stores.Lane c.in_ok-lane.lane)) l) all
    ∙ ap (λ (k : ℕ). named_from 0 (take n lists) ++ map (named (stores.Lane k)) (get_or lists n [])) c.in_ok-lane.ensures
    ∙ sym (named_more lists n [] within)
