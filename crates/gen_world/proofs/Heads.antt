-- How long the header of a frame is.
use Rattle.std.proofs.Common.{◌≤◌, ℕ, zero, suc, ◌+◌, ◌*◌, ◌/◌, ◌%◌, Bool, true, false, if◌then◌else◌, nat_lt, List, [], ◌∷◌, length, length-append, arith, lit≤}
use Rattle.tb_wire.specs.Varint.{encoding, encoding_within}
use Rattle.tb_wire.specs.Message.{len_text}
use Rattle.gen_world.specs.Blocks.{number_text}
use Rattle.gen_world.specs.Frames.{head_text}

shorter : (b : Bool) (more : ℕ) (one many : List ℕ) → length one ≤ suc more → length many ≤ suc more → length (if b then one else many) ≤ suc more
shorter true more one many h k = h
shorter false more one many h k = k

within_short : (more n : ℕ) → length (encoding_within more n) ≤ suc more
within_short zero n = lit≤ tt
within_short (suc more) n =
    let rest = within_short more (n / 128) in
    shorter (nat_lt n 128) (suc more) (n ∷ []) ((n % 128 + 128) ∷ encoding_within more (n / 128)) (omega arith) (omega arith)

pub encoding_short : (n : ℕ) → length (encoding n) ≤ 10
unfolding encoding
encoding_short n = within_short 9 n

pub head_short : (kind : List ℕ) (size : ℕ) → length kind ≤ 16 → length (head_text kind size) ≤ 64
unfolding head_text number_text len_text
head_short kind size h =
    let a = encoding_short (1 * 8 + 2) in
    let b = encoding_short (length kind) in
    let c = encoding_short (3 * 8) in
    let d = encoding_short size in
    simp length-append (omega arith)
