use Rattle.std.proofs.Common.{◌≡◌, ◌+◌, ◌-◌, ◌<◌, List, [], ◌∷◌, ◌++◌, length, take, All, refl, sym, ap, subst, ◌∙◌, arith, rules, inl, inr}
use Rattle.std.proofs.lemmas.List.{append-nil, length-append, length-drop, nil_from_length}
use Rattle.run_merge.specs.declared.named_run.NamedRun.{NamedRun}
use Rattle.run_merge.specs.Objects.{objects_of}
use Rattle.run_merge.specs.Steps.{RunsAreThere, AreReadable, IsOneOf, HaveAll}
use Rattle.run_merge.proofs.ObjectSteps.{keeps_refl, keeps_trans, none_refl, none_trans, stops_after, stops_wider}
use Rattle.run_merge.proofs.Openings.{have_none, have_more, part_there, part_readable, readable_now, part_named, part_parts}
use Rattle.run_merge.proofs.opening.merge_some.Goals as goal

pub loop-rest-init : goal.loop-rest-init
loop-rest-init g c =
    let seen = g.S.Spill.seen in
    let o = objects_of seen c.args.lanes.now c.args.spool.now in
    let none : c.new-merged.result.items ≡ [] = c.new-merged.ensures.items in
    record {
      keeps = keeps_refl o;
      counts = none_refl o;
      parts = ([], refl, subst (λ (l : List NamedRun). HaveAll o o c.args.layers [] l) (sym none) (have_none o c.args.layers));
      fewer = inl (ap length none, refl);
    }

pub as_one-requires-clause-there : goal.as_one-requires-clause-there
as_one-requires-clause-there g c =
    let seen = g.S.Spill.seen in
    let o = objects_of seen c.args.lanes.now c.args.spool.now in
    let now = objects_of seen c.loop-rest.lanes c.loop-rest.spool in
    let inv = c.loop-rest.invariant in
    subst (RunsAreThere now) (sym c.split_at.ensures.front) (part_there o now inv.keeps c.args.waiting.now inv.parts.0 c.loop-rest.rest.now c.at_once.result inv.parts.1 c.requires.there)

pub as_one-requires-clause-readable : goal.as_one-requires-clause-readable
as_one-requires-clause-readable g c =
    let seen = g.S.Spill.seen in
    let o = objects_of seen c.args.lanes.now c.args.spool.now in
    let now = objects_of seen c.loop-rest.lanes c.loop-rest.spool in
    let inv = c.loop-rest.invariant in
    let part = take c.at_once.result c.loop-rest.rest.now in
    subst (AreReadable now c.args.layers) (sym c.split_at.ensures.front) (readable_now o now inv.keeps c.args.layers part (part_readable o c.args.layers c.args.waiting.now inv.parts.0 c.loop-rest.rest.now c.at_once.result inv.parts.1 c.requires.readable))

pub loop-rest-preserved : goal.loop-rest-preserved
loop-rest-preserved g c =
    let seen = g.S.Spill.seen in
    let o = objects_of seen c.args.lanes.now c.args.spool.now in
    let now = objects_of seen c.loop-rest.lanes c.loop-rest.spool in
    let next = objects_of seen c.as_one.new.lanes c.as_one.new.spool in
    let inv = c.loop-rest.invariant in
    let layers = c.args.layers in
    let waiting = c.args.waiting.now in
    let done = inv.parts.0 in
    let rest = c.loop-rest.rest.now in
    let n = c.at_once.result in
    let chunk = c.split_at.result.0.now in
    let merged = c.loop-rest.merged.items in
    let one = c.in-Ok-as_one.one in
    let items : c.push_reserved.new.self.items ≡ merged ++ one ∷ [] = search rules in
    let readable = subst (AreReadable o layers) (sym c.split_at.ensures.front) (part_readable o layers waiting done rest n inv.parts.1 c.requires.readable) in
    let all = have_more o now next layers inv.keeps c.as_one.ensures.keeps done merged chunk one inv.parts.2 readable c.in-Ok-as_one.ensures.made c.in-Ok-as_one.ensures.name in
    let pushed : length c.push_reserved.new.self.items ≡ length merged + 1 = ap length items ∙ length-append merged (one ∷ []) in
    let left : length c.split_at.result.1.now ≡ length rest - n = ap length c.split_at.ensures.back ∙ length-drop n rest in
    record {
      keeps = keeps_trans o now next inv.keeps c.as_one.ensures.keeps;
      counts = none_trans o now next inv.counts c.in-Ok-as_one.ensures.works;
      parts = (
        done ++ chunk,
        part_parts waiting done rest chunk c.split_at.result.1.now n inv.parts.1 c.split_at.ensures.front c.split_at.ensures.back,
        subst (λ (l : List NamedRun). HaveAll o next layers (done ++ chunk) l) (sym items) all,
      );
      fewer = elim inv.fewer [
        | inl h ↦
            let long : 64 < length rest = omega (arith, h.1, c.requires.many) in
            let two = c.at_once.ensures.more long in
            inr (omega (arith, pushed, left, h.0, h.1, two, c.at_once.ensures.within))
        | inr h ↦ inr (omega (arith, pushed, left, h, c.at_once.ensures.some, c.at_once.ensures.within))
      ];
    }

pub returns-in-Err-as_one-clause-works : goal.returns-in-Err-as_one-clause-works
returns-in-Err-as_one-clause-works g c =
    let seen = g.S.Spill.seen in
    let o = objects_of seen c.args.lanes.now c.args.spool.now in
    let now = objects_of seen c.loop-rest.lanes c.loop-rest.spool in
    let next = objects_of seen c.as_one.new.lanes c.as_one.new.spool in
    let inv = c.loop-rest.invariant in
    let waiting = c.args.waiting.now in
    let names = subst (λ (l : List NamedRun). All (IsOneOf waiting) l) (sym c.split_at.ensures.front) (part_named waiting inv.parts.0 c.loop-rest.rest.now c.at_once.result inv.parts.1) in
    stops_after o now next waiting c.in-Err-as_one.e inv.counts inv.keeps (stops_wider now next c.split_at.result.0.now waiting c.in-Err-as_one.e names c.in-Err-as_one.ensures.works)

pub returns-in-Err-as_one-clause-keeps : goal.returns-in-Err-as_one-clause-keeps
returns-in-Err-as_one-clause-keeps g c =
    let seen = g.S.Spill.seen in
    let o = objects_of seen c.args.lanes.now c.args.spool.now in
    let now = objects_of seen c.loop-rest.lanes c.loop-rest.spool in
    let next = objects_of seen c.as_one.new.lanes c.as_one.new.spool in
    keeps_trans o now next c.loop-rest.invariant.keeps c.as_one.ensures.keeps

pub returns-clause-all : goal.returns-clause-all
returns-clause-all g c =
    let seen = g.S.Spill.seen in
    let o = objects_of seen c.args.lanes.now c.args.spool.now in
    let now = objects_of seen c.loop-rest.lanes c.loop-rest.spool in
    let inv = c.loop-rest.invariant in
    let empty : length c.loop-rest.rest.now ≡ 0 = search rules in
    let none : c.loop-rest.rest.now ≡ [] = nil_from_length c.loop-rest.rest.now empty in
    let whole : c.args.waiting.now ≡ inv.parts.0 = inv.parts.1 ∙ ap (λ (l : List NamedRun). inv.parts.0 ++ l) none ∙ append-nil inv.parts.0 in
    subst (λ (l : List NamedRun). HaveAll o now c.args.layers l c.loop-rest.merged.items) (sym whole) inv.parts.2
