use Rattle.std.proofs.Common.{◌≡◌, ℕ, ◌<◌, true, Some, List, ◌++◌, length, refl, sym, ap, subst, ◌∙◌, arith, rules, true≢false}
use Rattle.std.proofs.lemmas.List.{length-append}
use Rattle.mvt_codec.specs.Items.{item_text, StandsAt}
use Rattle.mvt_codec.specs.Order.{prefix_number, suffix_number}
use Rattle.run_merge.specs.Objects.{objects_of, told_of}
use Rattle.run_merge.specs.Cursors.{IsNext, IsHead}
use Rattle.run_merge.proofs.Heads.{head_of_item}
use Rattle.run_merge.proofs.Reading.{outside_in, text_behind, whole, ReadsItem, read_none, read_first, first_not, front_of, reads_window}
use Rattle.run_merge.proofs.run_reader.RunReader.load.Goals as goal
use Rattle.run_merge.proofs.run_reader.RunReader.load.Goals.{else-end-len-via-then-end-len+then-is_as_said+else-item-layers, else-end-len-via-then-end-len+else-is_as_said, else-end-len-via-else-end-len}

pub returns-then-item-layers-clause-text : goal.returns-then-item-layers-clause-text
returns-then-item-layers-clause-text g c =
    let old = c.args.out.now.items in
    let new = c.put_text.new.out.items in
    let begin : c.len-begin.result ≡ length old = search rules in
    let size : c.len.result ≡ length new = search rules in
    let found = rw c.in-Some.is at c.in-Ok-read_item.ensures.found in
    let stands : StandsAt new (length old) c.in-Some.item c.in-Some.end = subst (λ (l : List ℕ). StandsAt l (length old) c.in-Some.item c.in-Some.end) c.as_slice.ensures.value (subst (λ (n : ℕ). StandsAt c.as_slice.result.now n c.in-Some.item c.in-Some.end) begin found.0) in
    text_behind old new c.in-Some.item c.in-Some.end stands (c.if-end-len.true ∙ size) c.in-Ok.ensures.front

pub returns-then-item-layers-clause-loads : goal.returns-then-item-layers-clause-loads
returns-then-item-layers-clause-loads g c =
    let seen = g.S.Spill.seen in
    let reader = c.args.self.now in
    let told = told_of (objects_of seen c.args.lanes.now c.args.spool.now) reader.cursor.run in
    let old = c.args.out.now.items in
    let new = c.put_text.new.out.items in
    let begin : c.len-begin.result ≡ length old = search rules in
    let text : new ≡ old ++ item_text c.in-Some.item = returns-then-item-layers-clause-text g c in
    let found = rw c.in-Some.is at c.in-Ok-read_item.ensures.found in
    let said : c.is_as_said.result ≡ true = c.if-is_as_said.true in
    let ranks : (c.args.head.prefix ≡ prefix_number c.in-Some.item.key) × (c.args.head.suffix ≡ suffix_number c.in-Some.item.key) = c.is_as_said.ensures.0 said in
    let len : c.args.head.len ≡ length (item_text c.in-Some.item) = omega (arith, c.in-Ok.ensures.len, ap length text, length-append old (item_text c.in-Some.item)) in
    let reads : ReadsItem new (length old) c.in-Ok-read_item.read = λ item end is fits there.
    c.in-Ok-read_item.ensures.only item end is fits (subst (λ (l : List ℕ). StandsAt l c.len-begin.result item end) (sym c.as_slice.ensures.value) (subst (λ (n : ℕ). StandsAt new n item end) (sym begin) there)) in
    let w = whole c.args.layers told reader c.args.head old new c.requires.head c.requires.told c.in-Ok.ensures.text in
    record {
      cursor = refl;
      item_is = record { is = found.1; types = found.2; layer = c.if-item-layers.true };
      head = c.requires.head ∙ ap Some (head_of_item c.in-Some.item c.args.head ranks.0 ranks.1 len);
      told_is = reads_window c.args.layers told reader c.put_text.new.window c.requires.told c.in-Ok.ensures.ahead;
      first = front_of c.args.layers told reader c.args.head c.in-Some.item c.in-Some.end (length new) (read_first c.args.layers told reader c.args.head old new c.in-Ok-read_item.read c.in-Some.item c.in-Some.end w reads c.in-Some.is);
    }

pub returns-else-end-len-clause-reads : goal.returns-else-end-len-clause-reads
returns-else-end-len-clause-reads g c =
    let seen = g.S.Spill.seen in
    let reader = c.args.self.now in
    let objects = objects_of seen c.args.lanes.now c.args.spool.now in
    let told = told_of objects reader.cursor.run in
    let old = c.args.out.now.items in
    let new = c.put_text.new.out.items in
    let begin : c.len-begin.result ≡ length old = search rules in
    let size : c.len.result ≡ length new = search rules in
    let is : IsHead reader.cursor.run.run.len reader.cursor.at c.args.head = subst (IsNext reader.cursor.run.run.len reader.cursor.at) c.requires.head c.requires.sound.next in
    let reads : ReadsItem new (length old) c.in-Ok-read_item.read = λ item end is fits there.
    c.in-Ok-read_item.ensures.only item end is fits (subst (λ (l : List ℕ). StandsAt l c.len-begin.result item end) (sym c.as_slice.ensures.value) (subst (λ (n : ℕ). StandsAt new n item end) (sym begin) there)) in
    let w = whole c.args.layers told reader c.args.head old new c.requires.head c.requires.told c.in-Ok.ensures.text in
    let first = read_first c.args.layers told reader c.args.head old new c.in-Ok-read_item.read c.in-Some.item c.in-Some.end w reads c.in-Some.is in
    let wrong : (c.in-Some.end ≡ length new) → (c.args.head.prefix ≡ prefix_number c.in-Some.item.key) → (c.args.head.suffix ≡ suffix_number c.in-Some.item.key) → c.in-Some.item.key.layer < c.args.layers → ⊥ = λ e p s l.
    elim c.else-end-len.branch [
      | else-end-len-via-then-end-len+then-is_as_said+else-item-layers w ↦ omega (arith, l, w.if-item-layers.false)
      | else-end-len-via-then-end-len+else-is_as_said w ↦ true≢false (sym (w.is_as_said.ensures.1 (p, s)) ∙ w.if-is_as_said.false)
      | else-end-len-via-else-end-len w ↦ w.if-end-len.false (e ∙ sym size)
    ] in
    rw c.outside.ensures (outside_in objects (objects_of seen c.put_text.new.lanes c.put_text.new.spool) reader.cursor.run reader.cursor.at (omega (arith, is.within))
    (first_not c.args.layers told reader c.args.head c.in-Some.item c.in-Some.end (length new) first wrong) c.in-Ok.ensures.reads)

pub returns-in-None-clause-reads : goal.returns-in-None-clause-reads
returns-in-None-clause-reads g c =
    let seen = g.S.Spill.seen in
    let reader = c.args.self.now in
    let objects = objects_of seen c.args.lanes.now c.args.spool.now in
    let told = told_of objects reader.cursor.run in
    let old = c.args.out.now.items in
    let new = c.put_text.new.out.items in
    let begin : c.len-begin.result ≡ length old = search rules in
    let is : IsHead reader.cursor.run.run.len reader.cursor.at c.args.head = subst (IsNext reader.cursor.run.run.len reader.cursor.at) c.requires.head c.requires.sound.next in
    let reads : ReadsItem new (length old) c.in-Ok-read_item.read = λ item end is fits there.
    c.in-Ok-read_item.ensures.only item end is fits (subst (λ (l : List ℕ). StandsAt l c.len-begin.result item end) (sym c.as_slice.ensures.value) (subst (λ (n : ℕ). StandsAt new n item end) (sym begin) there)) in
    let w = whole c.args.layers told reader c.args.head old new c.requires.head c.requires.told c.in-Ok.ensures.text in
    rw c.outside-in-None.ensures (outside_in objects (objects_of seen c.put_text.new.lanes c.put_text.new.spool) reader.cursor.run reader.cursor.at (omega (arith, is.within))
    (read_none c.args.layers told reader c.args.head old new c.in-Ok-read_item.read w reads c.in-None.is) c.in-Ok.ensures.reads)
