use Rattle.std.proofs.Common.{◌+◌, Some, ap, arith, rules}
use Rattle.hilbert_ids.proofs.Numbers.{first_id_mono}
use Rattle.hilbert_ids.proofs.Tiles.{apart, below}
use Rattle.hilbert_ids.proofs.id.xyz_of.Goals as goal

pub returns-then-id-first_id-clause-some : goal.returns-then-id-first_id-clause-some
returns-then-id-first_id-clause-some c =
    let more = first_id_mono (c.loop-zoom.zoom + 1) 27 (omega arith) in
    (λ _. omega arith, λ _. search rules)

pub returns-then-id-first_id-clause-only : goal.returns-then-id-first_id-clause-only
returns-then-id-first_id-clause-only c = λ tile is same.
    ap Some (apart c.tile_at.result tile c.tile_at.ensures.tile is (omega (arith, same, c.tile_at.ensures.number)))

pub returns-clause-only : goal.returns-clause-only
returns-clause-only c = λ tile is same. absurd (omega (arith, same, below tile is, first_id_mono 27 c.loop-zoom.zoom (omega arith)))
