-- The definitions of a frame as the code meets them, and where its body lies.
use Rattle.std.proofs.Common.{◌⊎◌, inl, inr, sym, subst, ◌&&◌, not, ◌≡◌, ℕ, ◌+◌, ◌^◌, ◌<◌, ◌≤◌, Bool, true, false, nat_lt, nat_le, if◌then◌else◌, Result, Ok, Err, IfOk, List, length, slice_range, refl, ap, ◌∙◌, arith}
use Rattle.std.specs.Int.{w32, from_be_bytes}
use Rattle.std.proofs.lemmas.Bool.{lt-ltb, le-ltb, le-leb, lt-leb}
use Rattle.tb_types.specs.declared.damage.Why.{Why}
use Rattle.tb_types.specs.declared.damage.Why.TheVariants as why
use Rattle.pbf_blobs.specs.declared.block.BlockAt.{BlockAt}
use Rattle.pbf_blobs.specs.declared.header.Header.{Header}
use Rattle.tb_types.specs.Results.{◌>>=◌}
use Rattle.pbf_blobs.specs.Header.{header_of}
use Rattle.pbf_blobs.specs.Frames.{header_len_at, len_or_0, body_from, short_header, with_header, with_len, frame_at, in_order, block_at}
use Rattle.pbf_blobs.specs.Kinds.{is_elements}
use Rattle.pbf_blobs.specs.Answers.{IsInHead}

pub header_len-cut : (bytes : List ℕ) (at : ℕ) → length bytes < at + 4 → header_len_at bytes at ≡ Err why.Cut
unfolding header_len_at
header_len-cut bytes at h = rw (lt-ltb (length bytes) (at + 4) h) refl

pub header_len-told : (bytes out : List ℕ) (at : ℕ) → at + 4 ≤ length bytes → length out ≡ 4 → out ≡ slice_range bytes at (at + length out) → header_len_at bytes at ≡ short_header (from_be_bytes w32 out)
unfolding header_len_at
header_len-told bytes out at h four told =
    let here : out ≡ slice_range bytes at (at + 4) = rw four at told in
    rw (le-ltb (length bytes) (at + 4) h, ← here) refl

pub short_header-long : (len : ℕ) → 65535 < len → short_header len ≡ Err why.HeaderLong
short_header-long len h = rw (lt-ltb 65535 len h) refl

pub short_header-ok : (len : ℕ) → len ≤ 65535 → short_header len ≡ Ok len
short_header-ok len h = rw (le-ltb 65535 len h) refl

pub frame-no_len : (bytes : List ℕ) (n at : ℕ) (reason : Why) → header_len_at bytes at ≡ Err reason → frame_at bytes n at ≡ Err reason
unfolding frame_at
frame-no_len bytes n at reason h = rw h refl

pub frame-with_len : (bytes : List ℕ) (n at len : ℕ) → header_len_at bytes at ≡ Ok len → frame_at bytes n at ≡ with_len bytes n at len
unfolding frame_at
frame-with_len bytes n at len h = rw h refl

pub with_len-cut : (bytes : List ℕ) (n at len : ℕ) → length bytes < at + 4 + len → with_len bytes n at len ≡ Err why.Cut
with_len-cut bytes n at len h = rw (lt-ltb (length bytes) (at + 4 + len) h) refl

pub with_len-header : (bytes : List ℕ) (n at len : ℕ) → at + 4 + len ≤ length bytes → with_len bytes n at len ≡ header_of (slice_range bytes (at + 4) (at + 4 + len)) >>= with_header bytes n at len
with_len-header bytes n at len h = rw (le-ltb (length bytes) (at + 4 + len) h) refl

pub with_header-cut : (bytes : List ℕ) (n at len : ℕ) (header : Header) → length bytes < at + 4 + len + header.len → with_header bytes n at len header ≡ Err why.Cut
with_header-cut bytes n at len header h = rw (lt-ltb (length bytes) (at + 4 + len + header.len) h) refl

pub with_header-ok : (bytes : List ℕ) (n at len same : ℕ) (header : Header) → same ≡ len → at + 4 + len + header.len ≤ length bytes
    → with_header bytes n at len header ≡ Ok (record { no = n; at = at + 4 + same; len = header.len; kind = header.kind })
with_header-ok bytes n at len same header e h = rw (le-ltb (length bytes) (at + 4 + len + header.len) h, e) refl

IfOk-if : {A : Type 0} (P : A → Type 0) (b : Bool) (x y : Result A Why) → IfOk x P → IfOk y P → IfOk (if b then x else y) P
IfOk-if P true x y h k = h
IfOk-if P false x y h k = k

IfOk-bind : {A B : Type 0} (P : B → Type 0) (r : Result A Why) (f : A → Result B Why) → ((x : A) → IfOk (f x) P) → IfOk (r >>= f) P
IfOk-bind P (Ok x) f h = h x
IfOk-bind P (Err e) f h = tt

-- the body lies behind the header
with_len-place : (bytes : List ℕ) (n at len : ℕ) → IfOk (with_len bytes n at len) (λ block. block.at ≡ at + 4 + len)
with_len-place bytes n at len =
    let P : BlockAt → Type 0 = λ block. block.at ≡ at + 4 + len in
    IfOk-if P (nat_lt (length bytes) (at + 4 + len)) _ _ tt
    (IfOk-bind P (header_of (slice_range bytes (at + 4) (at + 4 + len))) (with_header bytes n at len)
    (λ header. IfOk-if P (nat_lt (length bytes) (at + 4 + len + header.len)) _ _ tt refl))

pub frame-place : (bytes : List ℕ) (n at : ℕ) → IfOk (frame_at bytes n at) (λ block. block.at ≡ body_from bytes at)
unfolding frame_at
frame-place bytes n at = go (header_len_at bytes at)
  where
    go : (r : Result ℕ Why) → IfOk (r >>= with_len bytes n at) (λ block. block.at ≡ at + 4 + len_or_0 r)
    go (Ok len) = with_len-place bytes n at len
    go (Err e) = tt

pub block-too_many : (bytes : List ℕ) (n at : ℕ) (headed : Bool) → 2 ^ 24 ≤ n → block_at bytes n at headed ≡ Err why.FileLong
unfolding block_at
block-too_many bytes n at headed h = rw (le-leb (2 ^ 24) n h) refl

pub block-of_frame : (bytes : List ℕ) (n at : ℕ) (headed : Bool) → n < 2 ^ 24 → block_at bytes n at headed ≡ frame_at bytes n at >>= in_order headed
unfolding block_at
block-of_frame bytes n at headed h = rw (lt-leb (2 ^ 24) n h) refl

-- the load of a length lies in the head of a frame, and so does that of a header
pub len_in_head : (bytes : List ℕ) (at : ℕ) (l : ℕ × ℕ) → l ≡ (at, 4) → IsInHead bytes at l
len_in_head bytes at l is = subst (λ (m : ℕ × ℕ). IsInHead bytes at m) (sym is) (omega arith, omega arith)

pub header_in_head : (bytes : List ℕ) (at len : ℕ) (l : ℕ × ℕ) → header_len_at bytes at ≡ Ok len → l ≡ (at + 4, len) → IsInHead bytes at l
header_in_head bytes at len l read is =
    let known : len_or_0 (header_len_at bytes at) ≡ len = ap len_or_0 read in
    subst (λ (m : ℕ × ℕ). IsInHead bytes at m) (sym is) (omega arith, omega (arith, known))

pub with_len-no_header : (bytes : List ℕ) (n at len : ℕ) (reason : Why) → at + 4 + len ≤ length bytes → header_of (slice_range bytes (at + 4) (at + 4 + len)) ≡ Err reason → with_len bytes n at len ≡ Err reason
with_len-no_header bytes n at len reason fits h = with_len-header bytes n at len fits ∙ ap (λ r. r >>= with_header bytes n at len) h

pub with_len-with_header : (bytes : List ℕ) (n at len : ℕ) (header : Header) → at + 4 + len ≤ length bytes → header_of (slice_range bytes (at + 4) (at + 4 + len)) ≡ Ok header → with_len bytes n at len ≡ with_header bytes n at len header
with_len-with_header bytes n at len header fits h = with_len-header bytes n at len fits ∙ ap (λ r. r >>= with_header bytes n at len) h

pub in_order-bad : (headed : Bool) (block : BlockAt) → is_elements block.kind ≡ true → headed ≡ false → in_order headed block ≡ Err why.NoHeader
in_order-bad headed block e h = rw (e, h) refl

pub in_order-ok : (headed : Bool) (block : BlockAt) (b : Bool) → b ≡ is_elements block.kind → ((b ≡ true) × (headed ≡ true)) ⊎ (b ≡ false) → in_order headed block ≡ Ok block
in_order-ok headed block b e (inl h) = let k : is_elements block.kind ≡ true = sym e ∙ h.0 in rw (k, h.1) refl
in_order-ok headed block b e (inr h) = let k : is_elements block.kind ≡ false = sym e ∙ h in rw k refl

in_order-behind : (P : BlockAt → Type 0) (headed : Bool) (r : Result BlockAt Why) → IfOk r P → IfOk (r >>= in_order headed) P
in_order-behind P headed (Ok block) h = IfOk-if P (is_elements block.kind && not headed) (Err why.NoHeader) (Ok block) (tt {0}) h
in_order-behind P headed (Err e) h = tt

-- the body of a block begins behind the head of its frame
pub block-place : (bytes : List ℕ) (n at : ℕ) (headed : Bool) → IfOk (block_at bytes n at headed) (λ block. block.at ≡ body_from bytes at)
unfolding block_at
block-place bytes n at headed =
    let P : BlockAt → Type 0 = λ block. block.at ≡ body_from bytes at in
    IfOk-if P (nat_le (2 ^ 24) n) (Err why.FileLong) (frame_at bytes n at >>= in_order headed) (tt {0}) (in_order-behind P headed (frame_at bytes n at) (frame-place bytes n at))

pub block-behind : (bytes : List ℕ) (n at : ℕ) (headed : Bool) → IfOk (block_at bytes n at headed) (λ block. at + 4 ≤ block.at)
block-behind bytes n at headed = go (block_at bytes n at headed) (block-place bytes n at headed)
  where
    go : (r : Result BlockAt Why) → IfOk r (λ block. block.at ≡ body_from bytes at) → IfOk r (λ block. at + 4 ≤ block.at)
    go (Ok block) h = omega (arith, h)
    go (Err e) h = tt
