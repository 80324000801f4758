use Rattle.std.proofs.Common.{◌≡◌, ◌<◌, true, length, le_refl, arith}
use Rattle.std.proofs.lemmas.List.Elements.{All-nil, All-cons, All-more, All-weaker}
use Rattle.ring_assembly.specs.Envelopes.{in_box}
use Rattle.ring_assembly.proofs.Boxes.{point, box, in_box_from, in_box_more, in_box_this, around_all}
use Rattle.ring_assembly.proofs.envelope.envelope_from.Goals as goal

pub loop-p-init : goal.loop-p-init
loop-p-init c =
    let from = c.args.from in
    record {
      first = in_box_from (record { low = from; high = from }) from (record { left = le_refl from.x; right = le_refl from.x; top = le_refl from.y; bottom = le_refl from.y });
      others = All-nil (λ q. in_box (record { low = from; high = from }) q ≡ true);
    }

pub loop-p-preserved : goal.loop-p-preserved
loop-p-preserved c =
    let path = c.args.path.now in
    let i = c.loop-p.p-index in
    let p = point path i in
    let within : i < length path = omega arith in
    let more = in_box_more c.loop-p.low c.loop-p.high p _ _ _ _ c.min.ensures c.min-in-loop-p.ensures c.max.ensures c.max-in-loop-p.ensures in
    let before = All-weaker _ (λ q. in_box (box c.min.result c.min-in-loop-p.result c.max.result c.max-in-loop-p.result) q ≡ true) more _ c.loop-p.invariant.others in
    record {
      first = more c.args.from c.loop-p.invariant.first;
      others = All-more (λ q. in_box (box c.min.result c.min-in-loop-p.result c.max.result c.max-in-loop-p.result) q ≡ true) path i (record { x = 0; y = 0 }) within before (in_box_this c.loop-p.low c.loop-p.high p _ _ _ _ c.min.ensures c.min-in-loop-p.ensures c.max.ensures c.max-in-loop-p.ensures);
    }

pub returns : goal.returns
returns c =
    All-cons (λ q. in_box (record { low = c.loop-p.low; high = c.loop-p.high }) q ≡ true) c.args.from c.args.path.now c.loop-p.invariant.first (around_all (record { low = c.loop-p.low; high = c.loop-p.high }) c.args.path.now c.loop-p.p-index (omega arith) c.loop-p.invariant.others)
