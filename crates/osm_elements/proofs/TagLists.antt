-- Which keys the tags of an element have: those of the first tags and those of the others.
use Rattle.std.proofs.Common.{◌≡◌, ℕ, ◌<◌, ◌≤◌, ◌||◌, min, nat_lt, Bool, true, false, cond, List, [], ◌∷◌, ◌++◌, length, take, drop, refl, ap, sym, ◌∙◌, arith, length-append}
use Rattle.std.proofs.lemmas.Bool.{ltb-true, ltb-false}
use Rattle.std.proofs.lemmas.List.{take-append-drop, drop-append-le, at_drop_all}
use Rattle.std.proofs.lemmas.Map.Text.{is_eq-slice_cmp}
use Rattle.std.specs.Cmp.Lexicographic.{slice_cmp}
use Rattle.std.specs.Ordering.{is_eq, nat_cmp}
use Rattle.std.specs.Str.{bytes_eq}
use Rattle.osm_elements.specs.Tags.{has_key}
use Rattle.osm_elements.specs.TagRefs.{seen_tags}
use Rattle.osm_elements.specs.declared.element.TagRef.{TagRef}

or-assoc : (a b c : Bool) → (a || (b || c)) ≡ ((a || b) || c)
or-assoc true b c = refl
or-assoc false b c = refl

-- whether one of these tags has a key
abbrev pub has : List ℕ → List TagRef → Bool
has key tags = has_key key (seen_tags tags)

has-append : (key : List ℕ) (xs ys : List TagRef) → has key (xs ++ ys) ≡ (has key xs || has key ys)
has-append key [] ys = refl
has-append key (t ∷ xs) ys = ap (λ b. bytes_eq t.key.now key || b) (has-append key xs ys) ∙ or-assoc (bytes_eq t.key.now key) (has key xs) (has key ys)

none_left : (tags : List TagRef) (n : ℕ) → length tags ≤ n → drop n tags ≡ []
none_left tags n h = at_drop_all (λ xs. xs) tags n h

same_others : (tags : List TagRef) (n w : ℕ) → n ≡ min (length tags) w → drop n tags ≡ drop w tags
same_others tags n w h = go (nat_lt (length tags) w) refl
  where
    go : (b : Bool) → nat_lt (length tags) w ≡ b → drop n tags ≡ drop w tags
    go true e =
        let less : length tags < w = ltb-true (length tags) w e in
        let all : length tags ≤ n = omega (arith, h, less) in
        none_left tags n all ∙ sym (none_left tags w (omega (arith, less)))
    go false e = let more : w ≤ length tags = ltb-false (length tags) w e in let same : n ≡ w = omega (arith, h, more) in ap (λ m. drop m tags) same

-- a key is among the first tags or among the others
pub first_or_others : (key : List ℕ) (tags : List TagRef) (n w : ℕ) → n ≡ min (length tags) w → (has key (take n tags) || has key (drop w tags)) ≡ has key tags
first_or_others key tags n w h =
    ap (λ xs. has key (take n tags) || has key xs) (sym (same_others tags n w h))
    ∙ (sym (has-append key (take n tags) (drop n tags)) ∙ ap (has key) (take-append-drop n tags))

-- one more of the first tags
pub one_more_first : (q : List ℕ) (tags : List TagRef) (t : TagRef) (w : ℕ) → length tags < w → has q (drop w tags) ≡ has q (drop w (tags ++ t ∷ []))
one_more_first q tags t w h =
    ap (has q) (none_left tags w (omega (arith, h)) ∙ sym (none_left (tags ++ t ∷ []) w (omega (arith, h, length-append tags (t ∷ [])))))

-- one more of the others
cond-or : (a b : Bool) → cond a true b ≡ (b || (a || false))
cond-or true true = refl
cond-or true false = refl
cond-or false true = refl
cond-or false false = refl

pub one_more_other : (q : List ℕ) (t : TagRef) (tags : List TagRef) (w : ℕ) → w ≤ length tags
    → cond (is_eq (slice_cmp nat_cmp t.key.now q)) true (has q (drop w tags)) ≡ has q (drop w (tags ++ t ∷ []))
one_more_other q t tags w h =
    ap (λ b. cond b true (has q (drop w tags))) (is_eq-slice_cmp t.key.now q)
    ∙ (cond-or (bytes_eq t.key.now q) (has q (drop w tags))
    ∙ (sym (has-append q (drop w tags) (t ∷ [])) ∙ ap (has q) (sym (drop-append-le w tags (t ∷ []) h))))
