use Rattle.std.proofs.Common.{Some, [], ◌∷◌, ◌++◌, ap, sym, ◌∙◌}
use Rattle.ring_assembly.specs.Sides.{differ, shown, shown_along}
use Rattle.ring_assembly.proofs.Paths.{together, on_stretch, behind_stretch}
use Rattle.ring_assembly.proofs.Stretches.{later_boxes}
use Rattle.ring_assembly.proofs.side.side.Goals as goal

pub returns-in-None : goal.returns-in-None
returns-in-None c =
    let l = c.loop-envelope in
    on_stretch c.args.p l.inside l.from l.left.now c.split_stretch.result.0.now c.split_stretch.result.1.now c.in-Some.first.now (shown c.args.ring.now c.args.p) c.split_stretch.ensures.stretch c.split_stretch.ensures.more l.invariant.told (sym c.crossed.ensures ∙ c.in-None.is)

pub loop-envelope-preserved : goal.loop-envelope-preserved
loop-envelope-preserved c =
    let l = c.loop-envelope in
    let stretch = c.split_stretch.result.0.now in
    let more = c.split_stretch.result.1.now in
    let p = c.args.p in
    let odd = c.in-Some-crossed.odd in
    record {
      boxed = later_boxes c.args.boxes.now l.envelope-index l.from l.left.now stretch more c.loop-envelope-test.true c.split_stretch.ensures.stretch c.split_stretch.ensures.more l.invariant.boxed c.end_of-from.result c.end_of-from.ensures;
      told = ap (λ b. together (Some b) (shown_along p c.end_of-from.result (more ++ c.in-Some.first.now ∷ []))) c.differ-inside.ensures
          ∙ ap (λ z. together (Some (differ l.inside odd)) (shown_along p z (more ++ c.in-Some.first.now ∷ []))) c.end_of-from.ensures
          ∙ behind_stretch p l.inside l.from l.left.now stretch more c.in-Some.first.now (shown c.args.ring.now p) c.split_stretch.ensures.stretch c.split_stretch.ensures.more l.invariant.told odd (sym c.crossed.ensures ∙ c.in-Some-crossed.is);
    }
