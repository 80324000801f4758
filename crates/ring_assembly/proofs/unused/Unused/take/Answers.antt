use Rattle.std.proofs.Common.{◌≡◌, ℕ, ◌<◌, ◌≤◌, ◌/◌, ◌%◌, ◌^◌, length, slice_index, inl, inr, ap, sym, ◌∙◌, arith}
use Rattle.std.proofs.lemmas.Bool.{cases_lt}
use Rattle.std.proofs.lemmas.List.{get_or_read}
use Rattle.ring_assembly.specs.Search.{IsUsed}
use Rattle.ring_assembly.proofs.EndIndex.{none_left, lowest_left}
use Rattle.ring_assembly.proofs.unused.Unused.take.Goals as goal
use Rattle.ring_assembly.proofs.unused.Unused.take.Goals.{After-unused_end-at}

pub returns-then-first-len-clause-lowest : goal.returns-then-first-len-clause-lowest
returns-then-first-len-clause-lowest c =
    let self = c.args.self.now in
    let short : length c.args.ways.now < 2 ^ 64 = omega (arith, c.requires.indexed.marks, self.used.ok.0) in
    let first = c.first_end-first.result in
    none_left c.args.ways.now self.used.items self.ends.items self.next.items c.requires.indexed short c.args.node c.first_end-first.ensures.fits first first c.first_end-first.ensures.before (λ p late early. absurd (omega arith))
    (λ within. absurd (omega (arith, c.len.ensures, self.ends.ok.0)))

-- the index from which the search went on, and the ends that are passed
module _ (c : After-unused_end-at) where
  first_within : c.first_end-first.result < length c.args.self.now.ends.items
  first_within = omega (arith, c.if-first-len.false, c.len.ensures, c.args.self.now.ends.ok.0, c.first_end-first.ensures.within)

  from_is : c.index.result.now ≡ slice_index c.args.self.now.next.items c.first_end-first.result
  from_is = get_or_read c.args.self.now.next.items c.first_end-first.result _ (omega (arith, first_within, c.requires.indexed.indexes)) c.index.ensures 0

  passed : (p : ℕ) → c.first_end-first.result ≤ p → p < c.unused_end-at.result → IsUsed c.args.self.now.used.items (slice_index c.args.self.now.ends.items p % 2 ^ 64)
  passed p late early = elim (cases_lt p (slice_index c.args.self.now.next.items c.first_end-first.result)) [
    | inl before ↦ c.requires.indexed.skipped c.first_end-first.result p late before
    | inr after ↦ c.unused_end-at.ensures.skipped p (omega (arith, from_is)) early
  ]

  in_order : c.first_end-first.result ≤ c.unused_end-at.result
  in_order = omega (arith, c.requires.indexed.forward c.first_end-first.result first_within, from_is, c.unused_end-at.ensures.after)

  short : length c.args.ways.now < 2 ^ 64
  short = omega (arith, c.requires.indexed.marks, c.args.self.now.used.ok.0)

pub returns-then-at-len-clause-lowest : goal.returns-then-at-len-clause-lowest
returns-then-at-len-clause-lowest c =
    let self = c.args.self.now in
    let turn = (goal.at.returns-then-at-len-clause-lowest c).After-unused_end-at in
    none_left c.args.ways.now self.used.items self.ends.items self.next.items c.requires.indexed (short turn) c.args.node c.first_end-first.ensures.fits c.first_end-first.result c.unused_end-at.result c.first_end-first.ensures.before (passed turn)
    (λ within. absurd (omega (arith, c.len-2.ensures, self.ends.ok.0, c.if-at-len.true)))

pub returns-then-node_of-node_number-clause-lowest : goal.returns-then-node_of-node_number-clause-lowest
returns-then-node_of-node_number-clause-lowest c =
    let self = c.args.self.now in
    let at = c.unused_end-at.result in
    let turn = (goal.at.returns-then-node_of-node_number-clause-lowest c).After-unused_end-at in
    none_left c.args.ways.now self.used.items self.ends.items self.next.items c.requires.indexed (short turn) c.args.node c.first_end-first.ensures.fits c.first_end-first.result at c.first_end-first.ensures.before (passed turn)
    (λ within.
    let end = get_or_read self.ends.items at _ within c.index-2.ensures 0 in
    (c.first_end-first.ensures.after at (in_order turn) within, λ e. c.if-node_of-node_number.true (c.node_of.ensures ∙ ap (λ n. n / 2 ^ 64) end ∙ e ∙ sym c.node_number.ensures.exact)))

pub returns-clause-lowest : goal.returns-clause-lowest
returns-clause-lowest c =
    let self = c.args.self.now in
    let at = c.unused_end-at.result in
    let turn = (goal.at.returns-clause-lowest c).After-unused_end-at in
    let within : at < length self.ends.items = omega (arith, c.len-2.ensures, self.ends.ok.0, c.if-at-len.false) in
    let end = get_or_read self.ends.items at _ within c.index-2.ensures 0 in
    let end' = get_or_read self.ends.items at _ within c.index-3.ensures 0 in
    let high = sym (ap (λ n. n / 2 ^ 64) end) ∙ sym c.node_of.ensures ∙ c.if-node_of-node_number.false ∙ c.node_number.ensures.exact in
    let low = c.way_of-way.ensures ∙ ap (λ n. n % 2 ^ 64) end' in
    lowest_left c.args.ways.now self.used.items self.ends.items self.next.items c.requires.indexed (short turn) c.args.node c.first_end-first.ensures.fits c.first_end-first.result at c.first_end-first.ensures.before (passed turn)
    c.way_of-way.result c.index-ways-way.result within high low c.index-ways-way.is (c.unused_end-at.ensures.stops within high)
