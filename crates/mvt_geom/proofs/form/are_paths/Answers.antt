use Rattle.std.proofs.Common.{◌≡◌, ◌==◌, true, false, is_some, length, ap, sym, ◌∙◌, rules}
use Rattle.mvt_geom.specs.Commands.{next_of}
use Rattle.mvt_geom.proofs.PathSteps.{are_paths-some, form-step, form-stop, paths_of-end}
use Rattle.mvt_geom.proofs.form.are_paths.Goals as goal

pub loop-rest-preserved : goal.loop-rest-preserved
loop-rest-preserved c =
    let some : (length c.loop-rest.rest.now == 0) ≡ false = search rules in
    let read = rw c.in-Some.path-is at c.in-Some.ensures.exact in
    sym (form-step c.args.closed c.loop-rest.rest.now (next_of c.in-Some.path) some read) ∙ c.loop-rest.invariant

pub returns-in-None : goal.returns-in-None
returns-in-None c =
    let all : (length c.args.ints.now == 0) ≡ false = search rules in
    let some : (length c.loop-rest.rest.now == 0) ≡ false = search rules in
    sym (are_paths-some c.args.closed c.args.ints.now all ∙ sym c.loop-rest.invariant ∙ form-stop c.args.closed c.loop-rest.rest.now some c.in-None.ensures.exact)

pub returns : goal.returns
returns c =
    let all : (length c.args.ints.now == 0) ≡ false = search rules in
    let none : (length c.loop-rest.rest.now == 0) ≡ true = search rules in
    sym (are_paths-some c.args.closed c.args.ints.now all ∙ sym c.loop-rest.invariant ∙ ap is_some (paths_of-end c.args.closed c.loop-rest.rest.now none))
