-- Strings of the table as they are kept.
use Rattle.std.specs.Prelude.{ℕ, List, map}
use Rattle.osm_elements.specs.declared.word.Word.{Word}
use Rattle.osm_elements.specs.declared.word.Word.TheVariants as words

abbrev pub seen_word : Word → List ℕ
seen_word (words.Text t) = t.text.now
seen_word (words.Bytes b) = b.now

abbrev pub seen_words : List Word → List (List ℕ)
seen_words strings = map seen_word strings
