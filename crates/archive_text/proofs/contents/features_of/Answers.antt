use Rattle.std.proofs.Common.{◌≡◌, ℕ, None, Ok, List, ap, sym, subst, ◌∙◌}
use Rattle.archive_text.specs.Rows.{rows_of}
use Rattle.archive_text.specs.Counted.{tile_at_id}
use Rattle.archive_text.proofs.Entries.{entry-found, entry-read}
use Rattle.archive_text.proofs.contents.features_of.Goals as goal

pub returns-in-Some : goal.returns-in-Some
returns-in-Some g c =
    entry-found c.args.archive.now c.args.e (g.R.Source.seen c.args.source.now) c.args.counted.now c.span_of-span.result c.in-Some.features c.span_of-span.ensures (sym c.features_at.ensures ∙ c.in-Some.is)

pub returns : goal.returns
returns g c =
    entry-read c.args.archive.now c.args.e (g.R.Source.seen c.args.source.now) (g.R.Source.seen c.load_content.new.source) c.args.counted.now c.add.new.self c.span_of-span.result c.in_ok-features.features c.load_content.new.content.items
    c.span_of-span.ensures (sym c.features_at.ensures ∙ c.in_default.is) c.in-Ok.ensures
    (subst (λ (bytes : List ℕ). tile_at_id c.args.e.id (rows_of bytes) ≡ Ok c.in_ok-features.features) c.deref.ensures.value c.in_ok-features.ensures.gives) (c.in_ok-add.ensures {u = tt})
