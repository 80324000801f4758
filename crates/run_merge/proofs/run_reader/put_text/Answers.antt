use Rattle.std.proofs.Common.{◌≡◌, ◌+◌, ◌-◌, IfSome, ◌++◌, length, drop, min, ap, subst, ◌∙◌, arith, rules}
use Rattle.std.proofs.lemmas.List.{length-append, length-take, length-drop}
use Rattle.run_merge.specs.Objects.{Objects, objects_of, told_of}
use Rattle.run_merge.specs.Cursors.{IsAhead}
use Rattle.run_merge.proofs.Reading.{front_more, put_more}
use Rattle.run_merge.proofs.run_reader.put_text.Goals as goal

pub loop-put-preserved : goal.loop-put-preserved
loop-put-preserved g c =
    let seen = g.S.Spill.seen in
    let run = c.args.run in
    let inv = c.loop-put.invariant in
    let old = c.args.out.now.items in
    let out = c.loop-put.out.items in
    let new : c.extend_from_slice.new.self.items ≡ out ++ c.bytes_at.result.now = search rules in
    let ahead = subst (λ (o : Objects g.row.R.Denot). IfSome (told_of o run) (λ runs. IsAhead runs run c.cover.new.self)) inv.objects c.in-Ok.ensures.ahead in
    let told = told_of (objects_of seen c.args.lanes.now c.args.spool.now) run in
    let size = c.min-size.result in
    let count : size ≡ min (c.args.len - c.loop-put.put) 4096 = search rules in
    let part_len : length c.bytes_at.result.now ≡ size = omega (arith, ap length c.bytes_at.ensures, length-take (c.args.at + c.loop-put.put - c.cover.new.self.from + size - (c.args.at + c.loop-put.put - c.cover.new.self.from)) (drop (c.args.at + c.loop-put.put - c.cover.new.self.from) c.cover.new.self.bytes.items), length-drop (c.args.at + c.loop-put.put - c.cover.new.self.from) c.cover.new.self.bytes.items, c.in-Ok.ensures.begin, c.in-Ok.ensures.end) in
    record {
      objects = c.in-Ok.ensures.reads ∙ inv.objects;
      put = omega (arith, count, c.loop-put-test.true);
      len = omega (arith, ap length new, length-append out c.bytes_at.result.now, part_len, inv.len);
      front = front_more old out c.extend_from_slice.new.self.items c.bytes_at.result.now inv.front new;
      text = put_more told run c.args.at c.loop-put.put size c.cover.new.self old out c.extend_from_slice.new.self.items c.bytes_at.result.now inv.text ahead c.in-Ok.ensures.begin c.in-Ok.ensures.end c.bytes_at.ensures new;
      within = c.cover.ensures.within;
      ahead = ahead;
    }
