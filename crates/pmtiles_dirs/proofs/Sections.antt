-- The header of an archive is read again: where its sections lie, and that it has no fault.
use Rattle.std.proofs.Common.{◌≡◌, ℕ, ◌+◌, ◌^◌, ◌<◌, Ok, List, ◌++◌, length, take, nat_lt, false, refl, ap, ◌∙◌, arith}
use Rattle.std.proofs.lemmas.Nat.{from_le_bytes-to_le_bytes_8}
use Rattle.std.proofs.lemmas.Bool.{le-leb, le-ltb}
use Rattle.std.proofs.lemmas.List.{take_at}
use Rattle.pmtiles_dirs.specs.declared.bounds.MapBounds.{MapBounds}
use Rattle.pmtiles_dirs.specs.declared.header.Header.{Header}
use Rattle.pmtiles_dirs.specs.declared.sizes.Sizes.{Sizes}
use Rattle.pmtiles_dirs.specs.Header.{header_text, header_of, magic, longs_text, int_text, place_text, places_text}
use Rattle.pmtiles_dirs.specs.Archive.{header_in, length_of}
use Rattle.pmtiles_dirs.specs.Fault.{◌>>=◌, sections_within, checked_header, read_header}

pub record HasSections (h : Header) (s : Sizes) : Type 0 where
  pub root_at : h.root_at ≡ 127
  pub root_len : h.root_len ≡ s.root_len
  pub meta_at : h.meta_at ≡ 127 + s.root_len
  pub meta_len : h.meta_len ≡ s.meta_len
  pub leaves_at : h.leaves_at ≡ 127 + s.root_len + s.meta_len
  pub leaves_len : h.leaves_len ≡ s.leaves_len
  pub tiles_at : h.tiles_at ≡ 127 + s.root_len + s.meta_len + s.leaves_len
  pub tiles_len : h.tiles_len ≡ s.tiles_len

pub sections-read : (b : MapBounds) (min max : ℕ) (s : Sizes) → length_of s < 2 ^ 64 → HasSections (header_of (header_text (header_in b min max s))) s
unfolding header_of header_text magic longs_text places_text place_text int_text
sections-read b min max s fits = record {
  root_at = from_le_bytes-to_le_bytes_8 127 (omega arith);
  root_len = from_le_bytes-to_le_bytes_8 s.root_len (omega (arith, fits));
  meta_at = from_le_bytes-to_le_bytes_8 (127 + s.root_len) (omega (arith, fits));
  meta_len = from_le_bytes-to_le_bytes_8 s.meta_len (omega (arith, fits));
  leaves_at = from_le_bytes-to_le_bytes_8 (127 + s.root_len + s.meta_len) (omega (arith, fits));
  leaves_len = from_le_bytes-to_le_bytes_8 s.leaves_len (omega (arith, fits));
  tiles_at = from_le_bytes-to_le_bytes_8 (127 + s.root_len + s.meta_len + s.leaves_len) (omega (arith, fits));
  tiles_len = from_le_bytes-to_le_bytes_8 s.tiles_len (omega (arith, fits));
}

pub header-length : (h : Header) → length (header_text h) ≡ 127
unfolding header_text magic longs_text places_text place_text int_text
header-length h = refl

sections-fit : (h : Header) (s : Sizes) (size : ℕ) → HasSections h s → size ≡ length_of s → sections_within size h ≡ Ok 0
unfolding sections_within
sections-fit h s size has is =
    rw (
      le-leb (h.root_at + h.root_len) size (omega (arith, has.root_at, has.root_len, is)),
      le-leb (h.meta_at + h.meta_len) size (omega (arith, has.meta_at, has.meta_len, is)),
      le-leb (h.leaves_at + h.leaves_len) size (omega (arith, has.leaves_at, has.leaves_len, is)),
      le-leb (h.tiles_at + h.tiles_len) size (omega (arith, has.tiles_at, has.tiles_len, is)),
    ) refl

checked-again : (b : MapBounds) (min max : ℕ) (s : Sizes) (size : ℕ) → sections_within size (header_of (header_text (header_in b min max s))) ≡ Ok 0
    → checked_header (header_text (header_in b min max s)) size ≡ Ok (header_of (header_text (header_in b min max s)))
unfolding checked_header header_text magic longs_text places_text place_text int_text
checked-again b min max s size fit = ap (λ r. r >>= λ _. Ok (header_of (header_text (header_in b min max s)))) fit

pub header-again : (b : MapBounds) (min max : ℕ) (s : Sizes) (rest : List ℕ) → length_of s < 2 ^ 64 → length (header_text (header_in b min max s) ++ rest) ≡ length_of s
    → read_header (header_text (header_in b min max s) ++ rest) ≡ Ok (header_of (header_text (header_in b min max s)))
header-again b min max s rest fits size =
    let text : List ℕ = header_text (header_in b min max s) in
    let long : nat_lt (length (text ++ rest)) 127 ≡ false = le-ltb (length (text ++ rest)) 127 (omega (arith, size)) in
    let prefix : take 127 (text ++ rest) ≡ text = take_at text rest 127 (header-length (header_in b min max s)) in
    let fit : sections_within (length (text ++ rest)) (header_of text) ≡ Ok 0 = sections-fit (header_of text) s (length (text ++ rest)) (sections-read b min max s fits) size in
    rw long (ap (λ bytes. checked_header bytes (length (text ++ rest))) prefix ∙ checked-again b min max s (length (text ++ rest)) fit)
