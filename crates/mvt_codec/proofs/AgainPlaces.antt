-- What an attribute uses has a place in its layer's keys and values, and is found there.
use Rattle.std.proofs.Common.{◌≡◌, ℕ, All, suc, ◌+◌, ◌^◌, ◌<◌, ◌≤◌, Bool, true, false, not, cond, ◌||◌, Some, List, [], ◌∷◌, ◌++◌, filter, length, refl, sym, ap, subst, ◌∙◌, arith, append_assoc, true≢false}
use Rattle.std.specs.Prelude.{slice_get}
use Rattle.std.specs.List.{list_any}
use Rattle.std.specs.Str.{bytes_eq}
use Rattle.std.proofs.lemmas.List.{map-append}
use Rattle.std.proofs.lemmas.List.Elements.{All-nil, All-cons, All-head, All-tail, All-filter}
use Rattle.std.proofs.lemmas.Slice.Eq.{bytes_eq-Decides}
use Rattle.tb_types.specs.declared.attribute.Attr.{Attr}
use Rattle.tb_types.specs.declared.attribute.AttrValue.{AttrValue}
use Rattle.mvt_codec.specs.declared.row.TileRow.{TileRow}
use Rattle.mvt_codec.specs.Value.{value_text}
use Rattle.mvt_codec.specs.Uses.{first_uses, place_in}
use Rattle.mvt_codec.specs.Growth.{with_use, with_uses}
use Rattle.mvt_codec.specs.Tile.{attributes_of, names_of, values_of, tags_of}
use Rattle.mvt_codec.specs.Grammar.{attributes_at}
use Rattle.mvt_codec.proofs.Growth.{itself, any-use, any-kept, with_uses-first}

-- an item is among some
abbrev pub Among : List (List ℕ) → List ℕ → Type 0
Among items x = list_any (bytes_eq x) items ≡ true

next : {A : Type 0} (i : A) (items : List A) (n : ℕ) → slice_get (i ∷ items) (1 + n) ≡ slice_get items n
next i items n = let e : 1 + n ≡ suc n = omega arith in ap (slice_get (i ∷ items)) e

-- its place leads to it
pub found : (items : List (List ℕ)) (x : List ℕ) → Among items x → slice_get items (place_in items x) ≡ Some x
found [] x h = absurd (true≢false (sym h))
found (i ∷ items) x h = by (λ there. found items x there) (bytes_eq x i) refl h
  where
    by : (Among items x → slice_get items (place_in items x) ≡ Some x) → (b : Bool) → bytes_eq x i ≡ b → (b || list_any (bytes_eq x) items) ≡ true → slice_get (i ∷ items) (cond (not b) (1 + place_in items x) 0) ≡ Some x
    by more true e there = ap Some (sym ((bytes_eq-Decides x i).0 e))
    by more false e there = next i items (place_in items x) ∙ more there

pub place-within : (items : List (List ℕ)) (x : List ℕ) → Among items x → place_in items x < length items
place-within [] x h = absurd (true≢false (sym h))
place-within (i ∷ items) x h = by (λ there. place-within items x there) (bytes_eq x i) h
  where
    by : (Among items x → place_in items x < length items) → (b : Bool) → (b || list_any (bytes_eq x) items) ≡ true → cond (not b) (1 + place_in items x) 0 < length (i ∷ items)
    by more true there = omega arith
    by more false there = let less = more there in omega (arith, less)

-- what is used is among the first uses
kept : (items uses : List (List ℕ)) (x : List ℕ) → Among items x → Among (with_uses items uses) x
kept items [] x h = h
kept items (y ∷ uses) x h = kept (with_use items y) uses x (any-kept items x y h)

used : (items uses : List (List ℕ)) (x : List ℕ) → Among uses x → Among (with_uses items uses) x
used items [] x h = absurd (true≢false (sym h))
used items (y ∷ uses) x h = by (λ there. used (with_use items y) uses x there) (bytes_eq x y) refl h
  where
    by : (Among uses x → Among (with_uses (with_use items y) uses) x) → (b : Bool) → bytes_eq x y ≡ b → (b || list_any (bytes_eq x) uses) ≡ true → Among (with_uses (with_use items y) uses) x
    by more true e there = kept (with_use items y) uses x (subst (λ z. Among (with_use items z) x) ((bytes_eq-Decides x y).0 e) (any-use items x))
    by more false e there = more there

pub first-used : (uses : List (List ℕ)) (x : List ℕ) → Among uses x → Among (first_uses uses) x
first-used uses x h = subst (λ items. Among items x) (with_uses-first [] uses) (used [] uses x h)

-- an item in the middle
middle : (prefix behind : List (List ℕ)) (x : List ℕ) → Among (prefix ++ x ∷ behind) x
middle [] behind x = ap (λ b. b || list_any (bytes_eq x) behind) (itself x)
middle (i ∷ prefix) behind x = by (middle prefix behind x) (bytes_eq x i)
  where
    by : Among (prefix ++ x ∷ behind) x → (b : Bool) → (b || list_any (bytes_eq x) (prefix ++ x ∷ behind)) ≡ true
    by more true = refl
    by more false = more

-- an attribute's name and value are among those of some attributes
pub record IsUsed (all : List Attr) (a : Attr) : Type 0 where
  pub name : Among (names_of all) a.name
  pub value : Among (values_of all) (value_text a.value)

uses-itself : (prefix behind : List Attr) (a : Attr) → IsUsed (prefix ++ a ∷ behind) a
uses-itself prefix behind a = record {
  name = subst (λ l. Among l a.name) (sym (map-append (λ (b : Attr). b.name) prefix (a ∷ behind))) (middle (names_of prefix) (names_of behind) a.name);
  value = subst (λ l. Among l (value_text a.value)) (sym (map-append (λ (b : Attr). value_text b.value) prefix (a ∷ behind))) (middle (values_of prefix) (values_of behind) (value_text a.value));
}

uses-own : (prefix attributes behind : List Attr) → All (IsUsed (prefix ++ (attributes ++ behind))) attributes
uses-own prefix [] behind = All-nil (IsUsed (prefix ++ behind))
uses-own prefix (a ∷ attributes) behind =
    let all = prefix ++ (a ∷ (attributes ++ behind)) in
    let rest : All (IsUsed ((prefix ++ a ∷ []) ++ (attributes ++ behind))) attributes = uses-own (prefix ++ a ∷ []) attributes behind in
    All-cons (IsUsed all) a attributes (uses-itself prefix (attributes ++ behind) a) (subst (λ l. All (IsUsed l) attributes) (append_assoc prefix (a ∷ []) (attributes ++ behind)) rest)

-- each row uses attributes of all rows
rows-use : (prefix : List Attr) (rows : List TileRow) → All (λ row. All (IsUsed (prefix ++ attributes_of rows)) row.attributes) rows
rows-use prefix [] = All-nil (λ row. All (IsUsed (prefix ++ [])) row.attributes)
rows-use prefix (row ∷ rows) =
    let all = prefix ++ (row.attributes ++ attributes_of rows) in
    let rest : All (λ (r : TileRow). All (IsUsed ((prefix ++ row.attributes) ++ attributes_of rows)) r.attributes) rows = rows-use (prefix ++ row.attributes) rows in
    All-cons (λ r. All (IsUsed all) r.attributes) row rows (uses-own prefix row.attributes (attributes_of rows))
    (subst (λ l. All (λ (r : TileRow). All (IsUsed l) r.attributes) rows) (append_assoc prefix row.attributes (attributes_of rows)) rest)

pub all-used : (rows : List TileRow) → All (λ row. All (IsUsed (attributes_of rows)) row.attributes) rows
all-used rows = rows-use [] rows

-- the tags of attributes that are used
module _ (all : List Attr) where
  pub tags-small : (attributes : List Attr) → All (IsUsed all) attributes → length (first_uses (names_of all)) ≤ 2 ^ 32 → length (first_uses (values_of all)) ≤ 2 ^ 32
      → All (λ n. n < 2 ^ 32) (tags_of (first_uses (names_of all)) (first_uses (values_of all)) attributes)
  tags-small [] is k v = All-nil (λ n. n < 2 ^ 32)
  tags-small (a ∷ attributes) is k v =
      let P : ℕ → Type 0 = λ n. n < 2 ^ 32 in
      let one = All-head (IsUsed all) a attributes is in
      let key = place-within (first_uses (names_of all)) a.name (first-used (names_of all) a.name one.name) in
      let value = place-within (first_uses (values_of all)) (value_text a.value) (first-used (values_of all) (value_text a.value) one.value) in
      let rest = tags-small attributes (All-tail (IsUsed all) a attributes is) k v in
      let small_key : place_in (first_uses (names_of all)) a.name < 2 ^ 32 = omega (arith, key, k) in
      let small_value : place_in (first_uses (values_of all)) (value_text a.value) < 2 ^ 32 = omega (arith, value, v) in
      let later = tags_of (first_uses (names_of all)) (first_uses (values_of all)) attributes in
      All-cons P (place_in (first_uses (names_of all)) a.name) (place_in (first_uses (values_of all)) (value_text a.value) ∷ later) small_key (All-cons P (place_in (first_uses (values_of all)) (value_text a.value)) later small_value rest)

  -- they name the attributes, where the values that are read are at the places of their texts
  pub named : (read : List AttrValue) (attributes : List Attr) → All (IsUsed all) attributes → All (λ a. slice_get read (place_in (first_uses (values_of all)) (value_text a.value)) ≡ Some a.value) attributes
      → attributes_at (first_uses (names_of all)) read (tags_of (first_uses (names_of all)) (first_uses (values_of all)) attributes) ≡ Some attributes
  named read [] is there = refl
  named read (a ∷ attributes) is there =
      let P : Attr → Type 0 = λ b. slice_get read (place_in (first_uses (values_of all)) (value_text b.value)) ≡ Some b.value in
      let one = All-head (IsUsed all) a attributes is in
      let key = found (first_uses (names_of all)) a.name (first-used (names_of all) a.name one.name) in
      let value = All-head P a attributes there in
      let rest = named read attributes (All-tail (IsUsed all) a attributes is) (All-tail P a attributes there) in
      rw (key, value, rest) refl

-- what holds of all items holds of their first uses
pub all-first : (P : List ℕ → Type 0) (items : List (List ℕ)) → All P items → All P (first_uses items)
all-first P [] h = All-nil P
all-first P (x ∷ items) h =
    All-cons P x (filter (λ other. not (bytes_eq x other)) (first_uses items)) (All-head P x items h) (All-filter (λ other. not (bytes_eq x other)) P (first_uses items) (all-first P items (All-tail P x items h)))
