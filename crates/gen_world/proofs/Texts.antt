-- Loops over tags, words and differences, one more each time.
use Rattle.std.proofs.Common.{◌≡◌, ◌<◌, ℕ, ◌+◌, ℤ, ◌-ℤ◌, true, List, [], ◌∷◌, ◌++◌, map, flat_map, fold, length, take, drop, get_or, refl, ap, sym, subst, ◌∙◌, append_assoc}
use Rattle.std.specs.List.{list_any}
use Rattle.std.specs.Str.{bytes_eq}
use Rattle.std.proofs.lemmas.List.{map_more, drop_more, get_or-map, length-map}
use Rattle.std.proofs.lemmas.List.Concat.{flat_map-append}
use Rattle.std.proofs.lemmas.List.Folds.{list_any_at}
use Rattle.std.proofs.lemmas.List.Sums.{fold-append}
use Rattle.tb_types.specs.Zigzag.{zigzag_of}
use Rattle.tb_wire.specs.Varint.{encoding}
use Rattle.gen_world.specs.declared.word.Word.{Word}
use Rattle.gen_world.specs.declared.word.Tag.{Tag}
use Rattle.gen_world.specs.Words.{Pair, text_of, pair_of}
use Rattle.gen_world.specs.Tables.{with_text, texts_of, uses_of}
use Rattle.gen_world.specs.Blocks.{steps_from}

pub found_there : (words : List Word) (word own : Word) (i : ℕ) → i < length words → get_or words i own ≡ own → bytes_eq (text_of word) (text_of own) ≡ true →
    list_any (bytes_eq (text_of word)) (map text_of words) ≡ true
found_there words word own i some is same =
    let within = subst (λ n. i < n) (sym (length-map words text_of)) some in
    let there = get_or-map text_of words i own (text_of own) some ∙ ap text_of is in
    list_any_at (bytes_eq (text_of word)) (map text_of words) i (text_of own) within (ap (bytes_eq (text_of word)) there ∙ same)

pub uses_none : uses_of [] ≡ []
unfolding uses_of
uses_none = refl

pub uses_more : (tags : List Tag) (i : ℕ) (tag : Tag) → i < length tags → get_or tags i tag ≡ tag →
    uses_of (map pair_of (take (i + 1) tags)) ≡ with_text (with_text (uses_of (map pair_of (take i tags))) (text_of tag.key)) (text_of tag.value)
unfolding uses_of
uses_more tags i tag some is =
    let before = map pair_of (take i tags) in
    let pieces : Pair → List (List ℕ) = λ t. t.0 ∷ t.1 ∷ [] in
    ap (λ l. fold with_text [] (texts_of l)) (map_more pair_of tags i tag some ∙ ap (λ t. before ++ pair_of t ∷ []) is)
    ∙ ap (fold with_text []) (flat_map-append pieces before (pair_of tag ∷ []))
    ∙ fold-append with_text [] (texts_of before) (texts_of (pair_of tag ∷ []))

-- the difference of a number is put, and the rest is still to come
pub steps_more : (numbers : List ℤ) (i : ℕ) (last z : ℤ) (out new whole : List ℕ) → i < length numbers → get_or numbers i z ≡ z →
    out ++ flat_map encoding (steps_from last (drop i numbers)) ≡ whole → new ≡ out ++ encoding (zigzag_of (z -ℤ last)) →
    new ++ flat_map encoding (steps_from z (drop (i + 1) numbers)) ≡ whole
steps_more numbers i last z out new whole some is before put =
    let rest = flat_map encoding (steps_from z (drop (i + 1) numbers)) in
    let begun = drop_more numbers i z some ∙ ap (λ y. y ∷ drop (i + 1) numbers) is in
    ap (λ l. l ++ rest) put ∙ append_assoc out (encoding (zigzag_of (z -ℤ last))) rest
    ∙ sym (ap (λ l. out ++ flat_map encoding (steps_from last l)) begun) ∙ before
