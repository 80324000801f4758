use Rattle.std.proofs.Common.{◌+◌, ◌++◌, length, ap, sym, ◌∙◌}
use Rattle.std.specs.List.{filter_map}
use Rattle.ring_assembly.specs.Nesting.{polygon_at}
use Rattle.ring_assembly.proofs.Numbers.{left_from, some_step, some_skip}
use Rattle.ring_assembly.proofs.polygon.all_polygons.Goals as goal
use Rattle.ring_assembly.proofs.polygon.all_polygons.Goals.{in-Some+in_ok-push-in-Some, in-None}

pub loop-number-preserved : goal.loop-number-preserved
loop-number-preserved c =
    let rings = c.args.rings.now in
    let number = c.loop-number.number in
    let found = sym (c.in_ok-polygon.ensures {u = tt}) in
    elim c.match-branch-5.branch [
      | in-Some+in_ok-push-in-Some w ↦
          let list = w.polygons-is ∙ (w.in_ok-push-in-Some.ensures {u = tt}).ok in
          ap (λ l. l ++ filter_map (polygon_at rings) (left_from (number + 1) (length rings))) list ∙ sym (some_step (polygon_at rings) c.loop-number.polygons number (length rings) w.in-Some.polygon c.loop-number-test.true (found ∙ w.in-Some.is)) ∙ c.loop-number.invariant
      | in-None w ↦
          ap (λ l. l ++ filter_map (polygon_at rings) (left_from (number + 1) (length rings))) w.polygons-is ∙ sym (some_skip (polygon_at rings) c.loop-number.polygons number (length rings) c.loop-number-test.true (found ∙ w.in-None.is)) ∙ c.loop-number.invariant
    ]
