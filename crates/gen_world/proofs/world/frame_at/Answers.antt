use Rattle.std.proofs.Common.{◌≡◌, ◌≤◌, ◌<◌, ◌+◌, ◌-◌, ◌*◌, min, ◌∷◌, drop, sym, ap, subst, ◌∙◌, arith}
use Rattle.gen_world.specs.Elements.{way_draws}
use Rattle.gen_world.specs.Frames.{frames_for, frames_with, way_frame, relation_frame}
use Rattle.gen_world.specs.Draws.{draws_before}
use Rattle.gen_world.proofs.FrameList.{header_next, node_next, way_next, relation_next, none_next, none_taken, header_taken, node_taken, node_takes, way_taken, way_takes, relation_taken, relation_takes, frame_within, frames_few, count_is}
use Rattle.gen_world.proofs.world.frame_at.Goals as goal

pub returns-then-given-eq0-clause-some : goal.returns-then-given-eq0-clause-some
returns-then-given-eq0-clause-some c =
    subst (λ given. drop given (frames_with c.args.numbers.now.seed c.args.counts) ≡ c.in_ok-header_frame.field-0.items ∷ drop (given + 1) (frames_with c.args.numbers.now.seed c.args.counts)) (sym c.if-given-eq0.true)
    (header_next c.args.numbers.now.seed c.args.counts ∙ ap (λ x. x ∷ drop 1 (frames_with c.args.numbers.now.seed c.args.counts)) (sym (c.in_ok-header_frame.ensures {u = tt})))

pub returns-then-given-eq0-clause-taken : goal.returns-then-given-eq0-clause-taken
returns-then-given-eq0-clause-taken c =
    c.requires.taken ∙ ap (draws_before c.args.counts) c.if-given-eq0.true ∙ none_taken c.args.counts ∙ sym (header_taken c.args.counts) ∙ ap (λ n. draws_before c.args.counts (n + 1)) (sym c.if-given-eq0.true)

pub returns-then-given-eq0-clause-within : goal.returns-then-given-eq0-clause-within
returns-then-given-eq0-clause-within c =
    let all = count_is c.args.counts in omega arith

pub node_frame-requires-clause-within : goal.node_frame-requires-clause-within
node_frame-requires-clause-within c =
    let some : 0 < c.args.given = omega arith in
    let small : c.args.given - 1 < frames_for c.args.counts.nodes = omega arith in
    frame_within c.args.counts.nodes (c.args.given - 1) small

pub node_frame-requires-clause-taken : goal.node_frame-requires-clause-taken
node_frame-requires-clause-taken c =
    let some : 0 < c.args.given = omega arith in
    let small : c.args.given - 1 < frames_for c.args.counts.nodes = omega arith in
    c.requires.taken ∙ node_taken c.args.counts c.args.given some small

pub returns-then-at-nodes-clause-some : goal.returns-then-at-nodes-clause-some
returns-then-at-nodes-clause-some c =
    let some : 0 < c.args.given = omega arith in
    let small : c.args.given - 1 < frames_for c.args.counts.nodes = omega arith in
    node_next c.args.numbers.now.seed c.args.counts c.args.given some small ∙ ap (λ x. x ∷ drop (c.args.given + 1) (frames_with c.args.numbers.now.seed c.args.counts)) (sym (c.in_ok-node_frame.ensures {u = tt}).text)

pub returns-then-at-nodes-clause-taken : goal.returns-then-at-nodes-clause-taken
returns-then-at-nodes-clause-taken c =
    let some : 0 < c.args.given = omega arith in
    let small : c.args.given - 1 < frames_for c.args.counts.nodes = omega arith in
    (c.in_ok-node_frame.ensures {u = tt}).taken ∙ sym (node_takes c.args.counts c.args.given some small)

pub returns-then-at-nodes-clause-within : goal.returns-then-at-nodes-clause-within
returns-then-at-nodes-clause-within c =
    let some : 0 < c.args.given = omega arith in
    let small : c.args.given - 1 < frames_for c.args.counts.nodes = omega arith in
    let all = count_is c.args.counts in omega arith

pub overflow_add-nodes : goal.overflow_add-nodes
overflow_add-nodes c =
    let counts = c.requires.counts in
    let a = frames_few c.args.counts.nodes (omega arith) in
    let b = frames_few c.args.counts.ways (omega arith) in
    omega arith

pub way_frame-requires-clause-within : goal.way_frame-requires-clause-within
way_frame-requires-clause-within c =
    let some : 0 < c.args.given = omega arith in
    let from : frames_for c.args.counts.nodes ≤ c.args.given - 1 = omega arith in
    let small : c.args.given - 1 < frames_for c.args.counts.nodes + frames_for c.args.counts.ways = omega arith in
    let nodes = c.frames_for-nodes in
    frame_within c.args.counts.ways (c.args.given - 1 - nodes.result) (omega arith)

pub way_frame-requires-clause-taken : goal.way_frame-requires-clause-taken
way_frame-requires-clause-taken c =
    let some : 0 < c.args.given = omega arith in
    let from : frames_for c.args.counts.nodes ≤ c.args.given - 1 = omega arith in
    let small : c.args.given - 1 < frames_for c.args.counts.nodes + frames_for c.args.counts.ways = omega arith in
    let nodes = c.frames_for-nodes in
    c.requires.taken ∙ way_taken c.args.counts c.args.given some from small ∙ ap (λ n. 3 * c.args.counts.nodes + way_draws (200 * (c.args.given - 1 - n))) (sym nodes.ensures)

pub returns-then-at-nodes-2-clause-some : goal.returns-then-at-nodes-2-clause-some
returns-then-at-nodes-2-clause-some c =
    let some : 0 < c.args.given = omega arith in
    let from : frames_for c.args.counts.nodes ≤ c.args.given - 1 = omega arith in
    let small : c.args.given - 1 < frames_for c.args.counts.nodes + frames_for c.args.counts.ways = omega arith in
    let nodes = c.frames_for-nodes in
    way_next c.args.numbers.now.seed c.args.counts c.args.given some from small
    ∙ ap (λ x. x ∷ drop (c.args.given + 1) (frames_with c.args.numbers.now.seed c.args.counts)) (ap (λ n. way_frame c.args.numbers.now.seed c.args.counts (c.args.given - 1 - n)) (sym nodes.ensures) ∙ sym (c.in_ok-way_frame.ensures {u = tt}).text)

pub returns-then-at-nodes-2-clause-taken : goal.returns-then-at-nodes-2-clause-taken
returns-then-at-nodes-2-clause-taken c =
    let some : 0 < c.args.given = omega arith in
    let from : frames_for c.args.counts.nodes ≤ c.args.given - 1 = omega arith in
    let small : c.args.given - 1 < frames_for c.args.counts.nodes + frames_for c.args.counts.ways = omega arith in
    let nodes = c.frames_for-nodes in
    (c.in_ok-way_frame.ensures {u = tt}).taken
    ∙ ap (λ n. 3 * c.args.counts.nodes + way_draws (200 * (c.args.given - 1 - n) + min 200 (c.args.counts.ways - 200 * (c.args.given - 1 - n)))) nodes.ensures
    ∙ sym (way_takes c.args.counts c.args.given some from small)

pub returns-then-at-nodes-2-clause-within : goal.returns-then-at-nodes-2-clause-within
returns-then-at-nodes-2-clause-within c =
    let some : 0 < c.args.given = omega arith in
    let from : frames_for c.args.counts.nodes ≤ c.args.given - 1 = omega arith in
    let small : c.args.given - 1 < frames_for c.args.counts.nodes + frames_for c.args.counts.ways = omega arith in
    let nodes = c.frames_for-nodes in
    let all = count_is c.args.counts in omega arith

pub overflow_add-nodes-3 : goal.overflow_add-nodes-3
overflow_add-nodes-3 c =
    let counts = c.requires.counts in
    let a = frames_few c.args.counts.nodes (omega arith) in
    let b = frames_few c.args.counts.ways (omega arith) in
    let d = frames_few c.args.counts.relations (omega arith) in
    omega arith

pub relation_frame-requires-clause-within : goal.relation_frame-requires-clause-within
relation_frame-requires-clause-within c =
    let some : 0 < c.args.given = omega arith in
    let from : frames_for c.args.counts.nodes + frames_for c.args.counts.ways ≤ c.args.given - 1 = omega arith in
    let small : c.args.given - 1 < frames_for c.args.counts.nodes + frames_for c.args.counts.ways + frames_for c.args.counts.relations = omega arith in
    let nodes = c.frames_for-nodes in
    let ways = c.frames_for-ways in
    frame_within c.args.counts.relations (c.args.given - 1 - nodes.result - ways.result) (omega arith)

pub relation_frame-requires-clause-taken : goal.relation_frame-requires-clause-taken
relation_frame-requires-clause-taken c =
    let some : 0 < c.args.given = omega arith in
    let from : frames_for c.args.counts.nodes + frames_for c.args.counts.ways ≤ c.args.given - 1 = omega arith in
    let small : c.args.given - 1 < frames_for c.args.counts.nodes + frames_for c.args.counts.ways + frames_for c.args.counts.relations = omega arith in
    let nodes = c.frames_for-nodes in
    let ways = c.frames_for-ways in
    let here : c.args.given - 1 - frames_for c.args.counts.nodes - frames_for c.args.counts.ways ≡ c.args.given - 1 - nodes.result - ways.result = omega arith in
    c.requires.taken ∙ relation_taken c.args.counts c.args.given some from small ∙ ap (λ n. 3 * c.args.counts.nodes + way_draws c.args.counts.ways + 200 * n) here

pub returns-then-at-nodes-3-clause-some : goal.returns-then-at-nodes-3-clause-some
returns-then-at-nodes-3-clause-some c =
    let some : 0 < c.args.given = omega arith in
    let from : frames_for c.args.counts.nodes + frames_for c.args.counts.ways ≤ c.args.given - 1 = omega arith in
    let small : c.args.given - 1 < frames_for c.args.counts.nodes + frames_for c.args.counts.ways + frames_for c.args.counts.relations = omega arith in
    let nodes = c.frames_for-nodes in
    let ways = c.frames_for-ways in
    let here : c.args.given - 1 - frames_for c.args.counts.nodes - frames_for c.args.counts.ways ≡ c.args.given - 1 - nodes.result - ways.result = omega arith in
    relation_next c.args.numbers.now.seed c.args.counts c.args.given some from small
    ∙ ap (λ x. x ∷ drop (c.args.given + 1) (frames_with c.args.numbers.now.seed c.args.counts)) (ap (relation_frame c.args.numbers.now.seed c.args.counts) here ∙ sym (c.in_ok-relation_frame.ensures {u = tt}).text)

pub returns-then-at-nodes-3-clause-taken : goal.returns-then-at-nodes-3-clause-taken
returns-then-at-nodes-3-clause-taken c =
    let some : 0 < c.args.given = omega arith in
    let from : frames_for c.args.counts.nodes + frames_for c.args.counts.ways ≤ c.args.given - 1 = omega arith in
    let small : c.args.given - 1 < frames_for c.args.counts.nodes + frames_for c.args.counts.ways + frames_for c.args.counts.relations = omega arith in
    let nodes = c.frames_for-nodes in
    let ways = c.frames_for-ways in
    let here : c.args.given - 1 - nodes.result - ways.result ≡ c.args.given - 1 - frames_for c.args.counts.nodes - frames_for c.args.counts.ways = omega arith in
    (c.in_ok-relation_frame.ensures {u = tt}).taken
    ∙ ap (λ n. 3 * c.args.counts.nodes + way_draws c.args.counts.ways + (200 * n + min 200 (c.args.counts.relations - 200 * n))) here
    ∙ sym (relation_takes c.args.counts c.args.given some from small)

pub returns-then-at-nodes-3-clause-within : goal.returns-then-at-nodes-3-clause-within
returns-then-at-nodes-3-clause-within c =
    let some : 0 < c.args.given = omega arith in
    let from : frames_for c.args.counts.nodes + frames_for c.args.counts.ways ≤ c.args.given - 1 = omega arith in
    let small : c.args.given - 1 < frames_for c.args.counts.nodes + frames_for c.args.counts.ways + frames_for c.args.counts.relations = omega arith in
    let nodes = c.frames_for-nodes in
    let ways = c.frames_for-ways in
    let all = count_is c.args.counts in omega arith

pub returns-clause-none : goal.returns-clause-none
returns-clause-none c =
    none_next c.args.numbers.now.seed c.args.counts c.args.given (omega arith) (omega arith)
