-- An extract in memory, to which frame after frame is appended.
use Rattle.std.proofs.Common.{◌≡◌, ℕ, List, [], ◌∷◌, ◌++◌, sym, ap, ◌∙◌, append_assoc}
use Rattle.std.specs.List.{concat}
use Rattle.std.proofs.lemmas.List.{append-nil}
use Rattle.gen_world.specs.Frames.{frames_of, extract_of}
use Rattle.build_cli.proofs.Generating.{concat-next}

-- some frames are appended, and the others are left
pub record Trying (frames left : List (List ℕ)) (bytes : List ℕ) : Type 0 where
  pub appended : List (List ℕ)
  pub all : frames ≡ appended ++ left
  pub are : bytes ≡ concat appended

pub trying-start : (frames left : List (List ℕ)) (bytes : List ℕ) → left ≡ frames → bytes ≡ [] → Trying frames left bytes
trying-start frames left bytes is none = record { appended = []; all = sym is; are = none }

pub trying-next : (frames left later : List (List ℕ)) (frame bytes more : List ℕ) → Trying frames left bytes → left ≡ frame ∷ later → more ≡ bytes ++ frame → Trying frames later more
trying-next frames left later frame bytes more t is grew = record {
  appended = t.appended ++ frame ∷ [];
  all = t.all ∙ (ap (λ xs. t.appended ++ xs) is ∙ sym (append_assoc t.appended (frame ∷ []) later));
  are = grew ∙ (ap (λ xs. xs ++ frame) t.are ∙ sym (concat-next t.appended frame));
}

pub trying-whole : (seed count : ℕ) (left : List (List ℕ)) (bytes : List ℕ) → Trying (frames_of seed count) left bytes → left ≡ [] → bytes ≡ extract_of seed count
unfolding extract_of
trying-whole seed count left bytes t none = t.are ∙ ap concat (sym (t.all ∙ (ap (λ xs. t.appended ++ xs) none ∙ append-nil t.appended)))
