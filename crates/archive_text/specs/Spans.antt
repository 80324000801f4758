-- Where the contents of an archive lie, each once.
use Rattle.std.specs.Prelude.{◌==◌, ◌&&◌, Bool, if◌then◌else◌, List, [], ◌∷◌, ◌++◌, map, fold}
use Rattle.std.specs.List.{list_any}
use Rattle.pmtiles_dirs.specs.declared.entry.DirEntry.{DirEntry}
use Rattle.archive_text.specs.declared.span.Span.{Span}

abbrev pub span_of : DirEntry → Span
span_of e = record { offset = e.offset; len = e.len }

-- two contents are one where place and length are equal
abbrev pub is_same : Span → Span → Bool
is_same a b = (a.offset == b.offset) && (a.len == b.len)

-- contents with one more, if it isn't among them
abbrev pub with_span : List Span → Span → List Span
with_span spans span = if list_any (is_same span) spans then spans else spans ++ span ∷ []

-- the contents that entries name, in order of first use
abbrev pub spans_of : List DirEntry → List Span
spans_of entries = fold with_span [] (map span_of entries)
