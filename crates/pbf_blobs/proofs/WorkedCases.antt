-- The worked cases, by computing.
use Rattle.std.proofs.Common.{◌≡◌, ℕ, zero, suc, ◌+◌, ◌^◌, ◌<◌, ◌≤◌, ◌||◌, Bool, None, Some, if◌then◌else◌, Result, Ok, Err, List, true, false, nat_lt, nat_le, sym, length, refl, ap, ◌∙◌, arith, add-one}
use Rattle.std.proofs.lemmas.Bool.{lt-ltb, le-leb, ltb-true, ltb-false, leb-true}
use Rattle.tb_wire.specs.Varint.{varint}
use Rattle.tb_wire.specs.Field.{value_at, field_at}
use Rattle.tb_wire.specs.Message.{message_at}
use Rattle.tb_types.specs.declared.damage.Why.{Why}
use Rattle.tb_types.specs.declared.damage.Why.TheVariants as why
use Rattle.pbf_blobs.specs.declared.block.BlockAt.{BlockAt}
use Rattle.pbf_blobs.specs.Blob.{fitting, raw_of}
use Rattle.pbf_blobs.specs.Header.{header_of}
use Rattle.pbf_blobs.specs.Kinds.{is_header}
use Rattle.pbf_blobs.specs.Frames.{header_len_at, frame_at, block_at, Frames, faulty, end_at, end_of, all_frames, with_rest, frames_from, frames_before, frames_of}
use Rattle.pbf_blobs.specs.Worked.{fault, Worked, FramesAreLimited}
use Rattle.pbf_blobs.proofs.FrameSteps.{block-too_many}
use Rattle.pbf_blobs.proofs.Scanning.{frames-step}

pub worked_cases : Worked
unfolding raw_of frames_before frames_from block_at frame_at header_len_at header_of message_at field_at value_at varint
worked_cases = record {
  header_alone = refl;
  header_and_data = refl;
  other_before = refl;
  two_bytes_more = refl;
  no_length_more = refl;
  header_cut = refl;
  body_cut = refl;
  header_long = refl;
  body_long = refl;
  body_negative = refl;
  mistyped = refl;
  nothing = refl;
  other_alone = refl;
  data_alone = refl;
  data_before = refl;
  raw = refl;
  compressed = refl;
  no_raw = refl;
  raw_again = refl;
  raw_and_compressed = refl;
  wire_before_compressed = refl;
  raw_size_of_bytes = refl;
}

file_long : (extract : List ℕ) → 2 ^ 40 < length extract → frames_of extract ≡ fault 0 why.FileLong
unfolding frames_before
file_long extract long = let passes : nat_lt (2 ^ 40) (length extract) ≡ true = lt-ltb (2 ^ 40) (length extract) long in rw passes refl

too_many : (extract : List ℕ) (most n at : ℕ) (headed : Bool) → 2 ^ 24 ≤ n → at < length extract → frames_from extract (most + 1) n at headed ≡ faulty n why.FileLong
too_many extract most n at headed many more =
    let read_on : BlockAt → Frames = λ block. frames_from extract most (n + 1) (block.at + block.len) (headed || is_header block.kind) in
    rw add-one (frames-step extract most n at headed more ∙ ap (with_rest n read_on) (block-too_many extract n at headed many))

raw_long : (raw : List ℕ) → 33554432 ≤ length raw → fitting (Some raw) ≡ Err why.Over32M
raw_long raw long = rw (le-leb 33554432 (length raw) long) refl

-- no byte is left behind the last block
IsWhole : ℕ → ℕ → Frames → Type 0
IsWhole size at frames = frames.fault ≡ None → size ≤ end_of at frames.blocks

either-whole : (size at : ℕ) (b : Bool) (x y : Frames) → (b ≡ true → IsWhole size at x) → (b ≡ false → IsWhole size at y) → IsWhole size at (if b then x else y)
either-whole size at true x y h k = h refl
either-whole size at false x y h k = k refl

rest-whole : (size n at : ℕ) (read_on : BlockAt → Frames) (r : Result BlockAt Why) → ((block : BlockAt) → r ≡ Ok block → IsWhole size (block.at + block.len) (read_on block)) → IsWhole size at (with_rest n read_on r)
unfolding IsWhole
rest-whole size n at read_on (Ok block) h = h block refl
rest-whole size n at read_on (Err e) h = λ none. absurd (cc none)

end-whole : (size n at : ℕ) (headed : Bool) → size ≤ at → IsWhole size at (end_at n headed)
unfolding IsWhole
end-whole size n at true h = λ none. h
end-whole size n at false h = λ none. absurd (cc none)

few_frames : (bytes : List ℕ) (n at : ℕ) (headed : Bool) (block : BlockAt) → block_at bytes n at headed ≡ Ok block → n < 2 ^ 24
few_frames bytes n at headed block read = go (nat_lt n (2 ^ 24)) refl
  where
    go : (b : Bool) → nat_lt n (2 ^ 24) ≡ b → n < 2 ^ 24
    go true e = ltb-true n (2 ^ 24) e
    go false e = let many : 2 ^ 24 ≤ n = ltb-false n (2 ^ 24) e in let no : Err why.FileLong ≡ Ok block = sym (block-too_many bytes n at headed many) ∙ read in absurd (cc no)

frames-whole : (bytes : List ℕ) (most n at : ℕ) (headed : Bool) → n ≤ 2 ^ 24 → n + most ≡ 2 ^ 24 + 1 → IsWhole (length bytes) at (frames_from bytes most n at headed)
unfolding frames_from
frames-whole bytes zero n at headed few all = absurd (omega (arith, few, all))
frames-whole bytes (suc most) n at headed few all =
    either-whole (length bytes) at (nat_le (length bytes) at) (end_at n headed) (with_rest n (λ block. frames_from bytes most (n + 1) (block.at + block.len) (headed || is_header block.kind)) (block_at bytes n at headed))
    (λ e. end-whole (length bytes) n at headed (leb-true (length bytes) at e))
    (λ _. rest-whole (length bytes) n at (λ block. frames_from bytes most (n + 1) (block.at + block.len) (headed || is_header block.kind)) (block_at bytes n at headed)
    (λ block read. let less : n < 2 ^ 24 = few_frames bytes n at headed block read in frames-whole bytes most (n + 1) (block.at + block.len) (headed || is_header block.kind) (omega (arith, less)) (omega (arith, all))))

long : (size : ℕ) → IsWhole size 0 (faulty 0 why.FileLong)
unfolding IsWhole
long size = λ none. absurd (cc none)

whole : (extract : List ℕ) → IsWhole (length extract) 0 (frames_before extract)
unfolding frames_before
whole extract =
    either-whole (length extract) 0 (nat_lt (2 ^ 40) (length extract)) (faulty 0 why.FileLong) (all_frames extract) (λ _. long (length extract))
    (λ _. frames-whole extract (2 ^ 24 + 1) 0 0 false (omega arith) (omega arith))

pub frames_are_limited : FramesAreLimited
unfolding IsWhole
frames_are_limited = record {
  bytes = file_long;
  frames = λ extract most at headed more. too_many extract most (2 ^ 24) at headed (omega arith) more;
  raw = raw_long;
  whole = whole;
}
