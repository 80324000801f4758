-- The box that a header gives is valid.
use Rattle.std.proofs.Common.{◌≡◌, ℕ, ◌==◌, Bool, true, false, if◌then◌else◌, Option, None, Some, IfSome, Result, Ok, Err, IfOk, List, length, refl, subst}
use Rattle.tb_types.specs.declared.damage.Why.{Why}
use Rattle.tb_types.specs.declared.damage.Why.TheVariants as reasons
use Rattle.tb_types.specs.declared.location.Bounds.{Bounds}
use Rattle.tb_wire.specs.Field.{Entry}
use Rattle.osm_elements.specs.declared.fault.BlockErr.{BlockErr}
use Rattle.tb_types.specs.Results.{◌>>=◌}
use Rattle.osm_elements.specs.Reasons.{Gives}
use Rattle.osm_elements.specs.Fields.{fields_of, bodies, merged_fields}
use Rattle.osm_elements.specs.Header.{is_valid, if_valid, box_in, box_if, are_accepted, header_of}

abbrev IsValidBox : Option Bounds → Type 0
IsValidBox box = IfSome box (λ b. is_valid b ≡ true)

next : {A B : Type 0} (Q : A → Type 0) (P : B → Type 0) (r : Result A Why) (f : A → Result B Why) → IfOk r Q → ((x : A) → Q x → IfOk (f x) P) → IfOk (r >>= f) P
next Q P (Ok x) f h k = k x h
next Q P (Err e) f h k = tt

any-next : {A B : Type 0} (P : B → Type 0) (r : Result A Why) (f : A → Result B Why) → ((x : A) → IfOk (f x) P) → IfOk (r >>= f) P
any-next P (Ok x) f k = k x
any-next P (Err e) f k = tt

either : {A : Type 0} (P : A → Type 0) (b : Bool) (x y : Result A Why) → IfOk x P → IfOk y P → IfOk (if b then x else y) P
either P true x y h k = h
either P false x y h k = k

if_valid-valid : (b : Bounds) → IsValidBox (if_valid b)
if_valid-valid b = go (is_valid b) refl
  where
    go : (v : Bool) → is_valid b ≡ v → IsValidBox (if v then Some b else None)
    go true is = is
    go false is = tt

box-valid : (boxes : List (List ℕ)) (fields : List Entry) → IfOk (box_if boxes fields) IsValidBox
box-valid boxes fields =
    either IsValidBox (length boxes == 0) (Ok None) (box_in fields >>= λ b. Ok (if_valid b)) tt (any-next IsValidBox (box_in fields) (λ b. Ok (if_valid b)) if_valid-valid)

pub header-valid : (raw : List ℕ) → IfOk (header_of raw) IsValidBox
unfolding header_of
header-valid raw =
    any-next IsValidBox (fields_of raw) _ (λ fields. any-next IsValidBox (bodies 1 fields) _ (λ boxes. any-next IsValidBox (merged_fields 1 fields) _ (λ in_box. any-next IsValidBox (bodies 4 fields) _ (λ features.
    next IsValidBox IsValidBox (box_if boxes in_box) _ (box-valid boxes in_box) (λ box valid. either IsValidBox (are_accepted features) (Ok box) (Err reasons.Feature) valid tt)))))

pub read-valid : (raw : List ℕ) (box : Option Bounds) → header_of raw ≡ Ok box → IsValidBox box
read-valid raw box is = subst (λ (r : Result (Option Bounds) Why). IfOk r IsValidBox) is (header-valid raw)

pub gives-valid : (r : Result (Option Bounds) BlockErr) (raw : List ℕ) → Gives (λ b. b) r (header_of raw) → IfOk r IsValidBox
gives-valid (Ok box) raw h = read-valid raw box h
gives-valid (Err e) raw h = tt
