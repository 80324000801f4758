use Rattle.std.proofs.Common.{◌≡◌, true, Ok, Some, None, List, ℕ, Option, Result, subst}
use Rattle.mvt_codec.specs.Grammar.{tile_of}
use Rattle.pmtiles_read.specs.Answers.{Gives, TileAnswers}
use Rattle.archive_text.specs.Rows.{is_tile}
use Rattle.archive_text.specs.Show.{layers_in}
use Rattle.archive_text.proofs.Looking.{shown-none, shown-some}
use Rattle.archive_text.proofs.show.show_id.Goals as goal

pub returns-in-Ok-Some : goal.returns-in-Ok-Some
returns-in-Ok-Some g c =
    shown-some c.args.archive.now c.args.id.0 (g.R.Source.seen c.args.source.now) (g.R.Source.seen c.tile.new.source) c.in-Ok-Some.content.items c.content_text.result
    (subst (λ (bytes : List ℕ). is_tile bytes ≡ true → Gives (λ t. t) c.content_text.result (Ok (layers_in (tile_of bytes)))) c.deref.ensures.value c.content_text.ensures.gives) c.content_text.ensures.never_failed c.requires
    (rw c.in-Ok-Some.field-0-is at c.in-Ok-Some.ensures)

pub returns-in_ok-no_tile_text-in-Ok-None : goal.returns-in_ok-no_tile_text-in-Ok-None
returns-in_ok-no_tile_text-in-Ok-None g c =
    shown-none c.args.archive.now c.args.id.0 (g.R.Source.seen c.args.source.now) (g.R.Source.seen c.tile.new.source) c.in_ok-no_tile_text-in-Ok-None.field-0 (c.in_ok-no_tile_text-in-Ok-None.ensures {u = tt}) c.requires
    (rw c.in-Ok-None.field-0-is at c.in-Ok-None.ensures)
