-- A valid box can be written as a map's bounds.
use Rattle.std.proofs.Common.{◌≡◌, ℕ, ◌≤◌, Bool, true, false, true≢false, ◌&&◌, Option, None, Some, IfSome, ℤ, pos, negsuc, refl, sym, arith}
use Rattle.std.specs.Prelude.{unsigned_abs}
use Rattle.std.proofs.lemmas.Bool.{leb-true}
use Rattle.std.proofs.lemmas.Int.{ints}
use Rattle.tb_types.specs.declared.location.Bounds.{Bounds}
use Rattle.osm_elements.specs.Header.{is_ordered, is_within, is_valid}
use Rattle.pmtiles_dirs.specs.Bounds.{FitsFourBytes, CanBeWritten, hundredth}

and-left : (a b : Bool) → (a && b) ≡ true → a ≡ true
and-left true b h = refl
and-left false b h = h

and-right : (a b : Bool) → (a && b) ≡ true → b ≡ true
and-right true b h = h
and-right false b h = absurd (true≢false (sym h))

fits : (z : ℤ) → unsigned_abs z ≤ 180000000000 → FitsFourBytes (hundredth z)
fits (pos a) h = (omega (arith, ints), omega (arith, ints))
fits (negsuc a) h = (omega (arith, ints), omega (arith, ints))

within-left : (y z : ℤ) (limit : ℕ) → is_within y z limit ≡ true → unsigned_abs y ≤ limit
within-left y z limit h = leb-true _ _ (and-left _ _ h)

within-right : (y z : ℤ) (limit : ℕ) → is_within y z limit ≡ true → unsigned_abs z ≤ limit
within-right y z limit h = leb-true _ _ (and-right _ _ h)

valid-written : (b : Bounds) → is_valid b ≡ true → CanBeWritten b
valid-written b h =
    let both = and-right (is_ordered b) (is_within b.left b.right 180000000000 && is_within b.top b.bottom 90000000000) h in
    let lon = and-left (is_within b.left b.right 180000000000) (is_within b.top b.bottom 90000000000) both in
    let lat = and-right (is_within b.left b.right 180000000000) (is_within b.top b.bottom 90000000000) both in
    let left = within-left b.left b.right 180000000000 lon in
    let right = within-right b.left b.right 180000000000 lon in
    let top = within-left b.top b.bottom 90000000000 lat in
    let bottom = within-right b.top b.bottom 90000000000 lat in
    (fits b.left left, fits b.right right, fits b.top (omega arith), fits b.bottom (omega arith))

pub some-written : (found : Option Bounds) → IfSome found (λ b. is_valid b ≡ true) → IfSome found CanBeWritten
some-written None h = tt
some-written (Some b) h = valid-written b h
