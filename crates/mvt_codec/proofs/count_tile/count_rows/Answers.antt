use Rattle.std.proofs.Common.{◌≡◌, ◌+◌, ◌^◌, ◌<◌, rules, None, Err, length, ap, sym, ◌∙◌, arith}
use Rattle.tb_wire.specs.Field.{entry_of}
use Rattle.mvt_codec.specs.Grammar.{note_tile, tile_of}
use Rattle.mvt_codec.proofs.TileSteps.{tile-step, tile-bad, tile-cut, tile-end, tile-over}
use Rattle.mvt_codec.proofs.CountSteps.{counted-more, is-count, names-many}
use Rattle.mvt_codec.proofs.count_tile.count_rows.Goals as goal

pub returns-in-Err-Bad : goal.returns-in-Err-Bad
unfolding tile_of
returns-in-Err-Bad c =
    let bytes = c.args.bytes.now in
    let layers = c.loop-turn.invariant.0 in
    let so_far = c.loop-turn.invariant.1 in
    let read = rw c.in-Ok-Some.field-0-is at c.in-Ok-Some.ensures.exact in
    let noted : note_tile layers (entry_of c.in-Ok-Some.field) ≡ None = rw c.in-Err-Bad.field-0-is at (c.in-Err-Bad.ensures layers so_far.counted.named) in
    let many = c.count-bad.ensures ∙ names-many layers c.loop-turn.names c.loop-turn.rows so_far.counted in
    sym so_far.told ∙ tile-bad bytes (length bytes) c.loop-turn._turn layers c.loop-turn.at c.in-Ok-Some.field c.loop-turn-test.true read noted ∙ ap Err (sym many)

pub returns-in-Ok-None : goal.returns-in-Ok-None
unfolding tile_of
returns-in-Ok-None c =
    let bytes = c.args.bytes.now in
    let layers = c.loop-turn.invariant.0 in
    let so_far = c.loop-turn.invariant.1 in
    let read = rw c.in-Ok-None.field-0-is at c.in-Ok-None.ensures.exact in
    is-count c.loop-turn.rows layers (tile_of bytes) (sym so_far.told ∙ tile-end bytes (length bytes) c.loop-turn._turn layers c.loop-turn.at c.loop-turn-test.true read) so_far.counted.counted

pub returns-in-Err : goal.returns-in-Err
unfolding tile_of
returns-in-Err c =
    let bytes = c.args.bytes.now in
    let layers = c.loop-turn.invariant.0 in
    let so_far = c.loop-turn.invariant.1 in
    let many = c.count.ensures ∙ names-many layers c.loop-turn.names c.loop-turn.rows so_far.counted in
    sym so_far.told ∙ tile-cut bytes (length bytes) c.loop-turn._turn layers c.loop-turn.at c.in-Err.field-0 c.loop-turn-test.true c.in-Err.ensures.exact ∙ ap Err (sym many)

pub loop-turn-preserved : goal.loop-turn-preserved
loop-turn-preserved c =
    let bytes = c.args.bytes.now in
    let layers = c.loop-turn.invariant.0 in
    let so_far = c.loop-turn.invariant.1 in
    let read = rw c.in-Ok-Some.field-0-is at c.in-Ok-Some.ensures.exact in
    let place = rw c.in-Ok-Some.field-0-is at c.in-Ok-Some.ensures.within in
    let fits : c.in-Ok.more < 2 ^ 64 = search rules in
    let on = c.in-Ok.ensures layers so_far.counted.named in (
      on.0,
      record {
        within = place.1;
        told = sym (tile-step bytes (length bytes) c.loop-turn._turn layers on.0 c.loop-turn.at c.in-Ok-Some.field c.loop-turn-test.true read on.1) ∙ so_far.told;
        counted = counted-more layers on.0 c.counted.new.names c.loop-turn.rows c.in-Ok.more _ so_far.counted.counted on.2 (ap (λ n. c.loop-turn.rows + n) c.from-rows.ensures);
        small = omega (arith, so_far.small, c.from-rows.ensures, fits);
      },
    )

pub returns : goal.returns
unfolding tile_of
returns c =
    let bytes = c.args.bytes.now in
    let layers = c.loop-turn.invariant.0 in
    let so_far = c.loop-turn.invariant.1 in
    is-count c.loop-turn.rows layers (tile_of bytes) (sym so_far.told ∙ tile-over bytes (length bytes) c.loop-turn._turn layers c.loop-turn.at c.loop-turn-test.false) so_far.counted.counted
