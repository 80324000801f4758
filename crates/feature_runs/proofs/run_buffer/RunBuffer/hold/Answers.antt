use Rattle.std.proofs.Common.{◌≡◌, ℕ, ◌+◌, ◌*◌, ◌^◌, ◌<◌, min, List, ◌∷◌, [], ◌++◌, length, refl, sym, ap, subst, ◌∙◌, arith, rules}
use Rattle.mvt_codec.specs.Items.{item_text}
use Rattle.mvt_codec.specs.Order.{rank_of}
use Rattle.feature_runs.specs.declared.slot.Slot.{Slot}
use Rattle.feature_runs.specs.Entry.{Entry, Buffered, entry_of}
use Rattle.feature_runs.specs.Index.{entries_in}
use Rattle.feature_runs.specs.Writing.{most_bytes, IsFull}
use Rattle.feature_runs.proofs.Held.{held, made}
use Rattle.feature_runs.proofs.Limit.{full_is}
use Rattle.feature_runs.proofs.run_buffer.RunBuffer.hold.Goals as goal

pub returns-clause-ok : goal.returns-clause-ok
returns-clause-ok c =
    let arena = c.self.inside.arena.items in
    let text : c.put_item.new.out.items ≡ item_text c.args.item.now = search rules in
    let bytes : c.extend_from_slice.new.self.items ≡ arena ++ c.put_item.new.out.items = search rules in
    let all : c.extend_from_slice.new.self.items ≡ arena ++ item_text c.args.item.now = bytes ∙ ap (λ (t : List ℕ). arena ++ t) text in
    let slot : Slot = record { prefix = c.rank_prefix.result; suffix = c.rank_suffix.result; at = c.in_ok-at.at; len = c.in_ok-len.len } in
    let slots : c.push_reserved.new.self.items ≡ c.self.inside.index.items ++ slot ∷ [] = search rules in
    let at : c.in_ok-at.at ≡ length arena = search rules in
    let size : c.in_ok-len.len ≡ length c.put_item.new.out.items = search rules in
    let len : c.in_ok-len.len ≡ length (item_text c.args.item.now) = size ∙ ap length text in
    let rank : c.rank_prefix.result * 2 ^ 48 + c.rank_suffix.result ≡ rank_of c.args.item.now.key = rw (c.rank_prefix.ensures, c.rank_suffix.ensures.exact) refl in
    let one = held arena (item_text c.args.item.now) c.self.inside.index.items slot (rank_of c.args.item.now.key) c.self.invariant.0 at len rank in
    let entries : entries_in c.extend_from_slice.new.self.items c.push_reserved.new.self.items ≡ entries_in arena c.self.inside.index.items ++ entry_of c.args.item.now ∷ [] =
    ap (λ (a : List ℕ). entries_in a c.push_reserved.new.self.items) all ∙ ap (entries_in (arena ++ item_text c.args.item.now)) slots ∙ one in
    rw (← c.self.view_is) (ap (made c.self.inside.limit c.self.inside.runs.items) entries)

pub returns-then-with_item-min-clause-ok : goal.returns-then-with_item-min-clause-ok
returns-then-with_item-min-clause-ok c =
    let arena = c.self.inside.arena.items in
    let index = c.self.inside.index.items in
    let entry = entry_of c.args.item.now in
    let text : c.put_item.new.out.items ≡ item_text c.args.item.now = search rules in
    let at : c.in_ok-at.at ≡ length arena = search rules in
    let size : c.in_ok-len.len ≡ length c.put_item.new.out.items = search rules in
    let len : c.in_ok-len.len ≡ length (item_text c.args.item.now) = size ∙ ap length text in
    let some : 0 < length index = search rules in
    let above : min c.self.inside.limit most_bytes < c.in_ok-at.at + c.in_ok-len.len = search rules in
    let more : min c.self.inside.limit most_bytes < length arena + length entry.text = omega (arith, above, at, len) in
    let full = full_is arena c.self.inside.limit c.self.inside.runs.items index entry c.self.invariant.0 c.self.invariant.1.0 some more in
    (c.self.view_is, subst (λ (b : Buffered). IsFull b entry) c.self.view_is full)
