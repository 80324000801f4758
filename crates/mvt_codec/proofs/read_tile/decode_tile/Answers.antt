use Rattle.std.proofs.Common.{◌≡◌, None, Some, Err, length, ap, sym, ◌∙◌, rules}
use Rattle.tb_wire.specs.Field.{entry_of}
use Rattle.mvt_codec.specs.Grammar.{note_tile, tile_of}
use Rattle.mvt_codec.proofs.TileSteps.{tile-step, tile-bad, tile-cut, tile-end}
use Rattle.mvt_codec.proofs.read_tile.decode_tile.Goals as goal

pub loop-turn-preserved : goal.loop-turn-preserved
loop-turn-preserved c =
    let bytes = c.args.bytes.now in
    let read = rw c.in-Ok-Some.field-0-is at c.in-Ok-Some.ensures.exact in
    let place = rw c.in-Ok-Some.field-0-is at c.in-Ok-Some.ensures.within in
    let noted : note_tile c.loop-turn.layers (entry_of c.in-Ok-Some.field) ≡ Some c.note.new.layers = search rules in
    record {
      within = place.1;
      told = sym (tile-step bytes (length bytes) c.loop-turn._turn c.loop-turn.layers c.note.new.layers c.loop-turn.at c.in-Ok-Some.field c.loop-turn-test.true read noted) ∙ c.loop-turn.invariant.told;
      names = search rules;
    }

pub returns-in-Err-Bad : goal.returns-in-Err-Bad
unfolding tile_of
returns-in-Err-Bad c =
    let bytes = c.args.bytes.now in
    let read = rw c.in-Ok-Some.field-0-is at c.in-Ok-Some.ensures.exact in
    let noted : note_tile c.loop-turn.layers (entry_of c.in-Ok-Some.field) ≡ None = search rules in
    record {
      exact = sym c.loop-turn.invariant.told ∙ tile-bad bytes (length bytes) c.loop-turn._turn c.loop-turn.layers c.loop-turn.at c.in-Ok-Some.field c.loop-turn-test.true read noted
          ∙ ap (λ l. Err (length l)) (sym c.as_slice.ensures);
    }

pub returns-in-Ok-None : goal.returns-in-Ok-None
unfolding tile_of
returns-in-Ok-None c =
    let bytes = c.args.bytes.now in
    let read = rw c.in-Ok-None.field-0-is at c.in-Ok-None.ensures.exact in
    record { exact = sym c.loop-turn.invariant.told ∙ tile-end bytes (length bytes) c.loop-turn._turn c.loop-turn.layers c.loop-turn.at c.loop-turn-test.true read }

pub returns-in-Err : goal.returns-in-Err
unfolding tile_of
returns-in-Err c =
    let bytes = c.args.bytes.now in
    record {
      exact = sym c.loop-turn.invariant.told ∙ tile-cut bytes (length bytes) c.loop-turn._turn c.loop-turn.layers c.loop-turn.at c.in-Err.field-0 c.loop-turn-test.true c.in-Err.ensures.exact
          ∙ ap (λ l. Err (length l)) (sym c.as_slice-in-Err.ensures);
    }
