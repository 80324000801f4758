-- Items that are emitted one behind another, element by element.
use Rattle.std.proofs.Common.{◌≡◌, ℕ, zero, suc, ◌+◌, ◌-◌, ◌<◌, ◌≤◌, ◌^◌, min, Result, Ok, Err, OnOk, List, [], ◌∷◌, ◌++◌, length, take, get_or, map, flat_map, refl, sym, ap, subst, ◌∙◌, arith, inl, inr}
use Rattle.std.specs.Prelude.{⊤}
use Rattle.std.proofs.lemmas.List.{append-nil, take_more}
use Rattle.std.proofs.lemmas.List.Elements.{All-cons, All-nil}
use Rattle.std.proofs.lemmas.List.Sorted.{IsPermutation-refl}
use Rattle.std.proofs.lemmas.Grind.{flat_map-append}
use Rattle.std.specs.List.{range_with_len}
use Rattle.tb_outside.specs.Spill.{SpillSeen}
use Rattle.tb_outside.specs.declared.spill.SpillErr.{SpillErr}
use Rattle.tb_outside.specs.declared.spill.SpillErr.TheVariants as spill_errors
use Rattle.profile_rules.specs.declared.parts.Parts.{Parts}
use Rattle.profile_rules.specs.Fields.{layers_of}
use Rattle.mvt_codec.specs.Items.{row_text, IsItem}
use Rattle.mvt_codec.specs.declared.item.RunItem.{RunItem}
use Rattle.mvt_codec.proofs.ItemLengths.{item_len}
use Rattle.feature_runs.specs.Entry.{Buffered, entry_of}
use Rattle.feature_runs.specs.Added.{KeepsAdded}
use Rattle.feature_runs.specs.Since.{KeepsSince}
use Rattle.feature_runs.specs.Writing.{Adds, Frames}
use Rattle.tile_model.specs.Items.{IsSoundItem}
use Rattle.pass_shapes.specs.Emitting.{Emits}
pub use Rattle.pass_shapes.specs.EmitLaws.{frames-none, frames-memory, frames-on, keeps-none, keeps-on, emits-none, emits-on, emits-refused, emits-as, emits-permuted}

-- a sound item whose row isn't large keeps to what stored items keep to
pub is-item : (layers : ℕ) (item : RunItem) (len : ℕ) → layers ≤ 64 → IsSoundItem layers item → len ≡ min (length (row_text item.row)) (2 ^ 64 - 1) → len < 2 ^ 32 → IsItem item
is-item layers item len few h is low =
    let layer = h.layer in
    record { tile = h.tile; layer = omega (arith, layer, few); known = h.known; form = h.form; attributes = h.attributes; len = omega (arith, item_len item, is, low) }

-- one item was added
pub emits-one : (parts : Parts) (item : RunItem) (old new : SpillSeen) (before after : Buffered) (r : Result ⊤ SpillErr) → IsSoundItem (length (layers_of parts)) item → IsItem item → OnOk r (Adds old new before after (entry_of item))
    → OnOk r (KeepsAdded old new before after (entry_of item ∷ [])) → OnOk r (KeepsSince old new before after (entry_of item ∷ [])) → Frames old new r → Emits parts (item ∷ []) old new before after r
emits-one parts item old new before after (Err e) sound whole adds keeps since frames = record { ok = tt; frames = frames }
emits-one parts item old new before after (Ok x) sound whole adds keeps since frames = record {
  ok = record {
    items = item ∷ [];
    same = IsPermutation-refl (item ∷ []);
    sound = All-cons (IsSoundItem (length (layers_of parts))) item [] sound (All-nil (IsSoundItem (length (layers_of parts))));
    whole = All-cons IsItem item [] whole (All-nil IsItem);
    limit = elim adds [ inl (seen, holds) ↦ ap (λ (b : Buffered). b.limit) holds | inr (middle, full, written, holds) ↦ ap (λ (b : Buffered). b.limit) holds ∙ ap (λ (b : Buffered). b.limit) written.buffer ];
    keeps = keeps;
    since = since;
  };
  frames = frames;
}

-- memory wants before anything is done
pub emits-memory : (parts : Parts) (wanted : List RunItem) (seen : SpillSeen) (before after : Buffered) → Emits {A = ⊤} parts wanted seen seen before after (Err spill_errors.Memory)
emits-memory parts wanted seen before after = emits-refused parts wanted seen seen before after spill_errors.Memory (frames-memory seen)

-- a spill as it is seen, and a buffer
abbrev pub State : Type 0
State = SpillSeen × Buffered

-- these items were emitted between
abbrev pub Sends : Parts → List RunItem → State → State → Type 0
Sends parts wanted old new = Emits {A = ⊤} parts wanted old.0 new.0 old.1 new.1 (Ok tt)

pub sends-none : (parts : Parts) (s : State) → Sends parts [] s s
sends-none parts s = emits-none parts s.0 s.1

pub sends-both : (parts : Parts) (one other : List RunItem) (old mid new : State) → Sends parts one old mid → Sends parts other mid new → Sends parts (one ++ other) old new
sends-both parts one other old mid new g h = emits-on parts one other old.0 mid.0 new.0 old.1 mid.1 new.1 tt (Ok tt) g h

pub sends-as : (parts : Parts) (one other : List RunItem) (old new : State) → one ≡ other → Sends parts one old new → Sends parts other old new
sends-as parts one other old new same g = emits-as parts one other old.0 new.0 old.1 new.1 (Ok tt) same g

-- some, and then a refusal of others
pub refused : (parts : Parts) (one other wanted : List RunItem) (e : SpillErr) (old mid new : State) → Sends parts one old mid → Emits {A = ⊤} parts other mid.0 new.0 mid.1 new.1 (Err e) → Emits {A = ⊤} parts wanted old.0 new.0 old.1 new.1 (Err e)
refused parts one other wanted e old mid new g h = emits-refused parts wanted old.0 new.0 old.1 new.1 e (frames-on old.0 mid.0 new.0 tt (Err e) g.frames h.frames)

last-of : {A : Type 0} (f : A → List RunItem) (xs : List A) (i : ℕ) (d : A) → i < length xs → flat_map f (take (i + 1) xs) ≡ flat_map f (take i xs) ++ f (get_or xs i d)
last-of f xs i d h =
    ap (flat_map f) (take_more xs i d h) ∙ (flat_map-append f (take i xs) (get_or xs i d ∷ []) ∙ ap (λ ys. flat_map f (take i xs) ++ ys) (append-nil (f (get_or xs i d))))

-- the items of one element of a list more
sends-next : {A : Type 0} (parts : Parts) (f : A → List RunItem) (xs : List A) (i : ℕ) (d : A) (old mid new : State) → i < length xs
    → Sends parts (flat_map f (take i xs)) old mid → Sends parts (f (get_or xs i d)) mid new → Sends parts (flat_map f (take (i + 1) xs)) old new
sends-next parts f xs i d old mid new within g h = sends-as parts _ _ old new (sym (last-of f xs i d within)) (sends-both parts _ _ old mid new g h)

-- the same where the element is known by itself
pub sends-item : {A : Type 0} (parts : Parts) (f : A → List RunItem) (xs ys : List A) (i : ℕ) (x : A) (old mid new : State) → ys ≡ xs → i < length ys → x ≡ get_or ys i x
    → Sends parts (flat_map f (take i xs)) old mid → Sends parts (f x) mid new → Sends parts (flat_map f (take (i + 1) xs)) old new
sends-item parts f xs ys i x old mid new same within is g h =
    sends-next parts f xs i x old mid new (subst (λ zs. i < length zs) same within) g (subst (λ y. Sends parts (f y) mid new) (is ∙ ap (λ zs. get_or zs i x) same) h)

pub range-last : (a n : ℕ) → range_with_len a (n + 1) ≡ range_with_len a n ++ (a + n) ∷ []
range-last a zero = let same : a ≡ a + 0 = omega arith in ap (λ m. m ∷ []) same
range-last a (suc n) =
    let same : (a + 1) + n ≡ a + suc n = omega arith in
    let next : suc n + 1 ≡ suc (n + 1) = omega arith in
    ap (range_with_len a) next ∙ ap (λ xs. a ∷ xs) (range-last (a + 1) n ∙ ap (λ m. range_with_len (a + 1) n ++ m ∷ []) same)

-- a walk inside a walk
pub flat-flat : {A B : Type 0} (f : B → List RunItem) (g : A → List B) (xs : List A) → flat_map f (flat_map g xs) ≡ flat_map (λ x. flat_map f (g x)) xs
flat-flat f g [] = refl
flat-flat f g (x ∷ xs) = flat_map-append f (g x) (flat_map g xs) ∙ ap (λ ys. flat_map f (g x) ++ ys) (flat-flat f g xs)

pub flat-map : {A B : Type 0} (f : B → List RunItem) (g : A → B) (xs : List A) → flat_map f (map g xs) ≡ flat_map (λ x. f (g x)) xs
flat-map f g [] = refl
flat-map f g (x ∷ xs) = ap (λ ys. f (g x) ++ ys) (flat-map f g xs)
