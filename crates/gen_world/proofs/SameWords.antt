-- Words are one where they are written alike.
use Rattle.std.proofs.Common.{◌≡◌, ◌==◌, ◌<◌, ◌^◌, ℕ, decimal, refl, ap, arith}
use Rattle.std.specs.Str.{bytes_eq}
use Rattle.std.proofs.lemmas.Bool.Decides.{Decides-eqb, Decides-like, same_from_decides}
use Rattle.std.proofs.lemmas.Slice.Eq.{bytes_eq-Decides}
use Rattle.std.proofs.lemmas.Fmt.{decimal_injective}
use Rattle.gen_world.specs.declared.word.Word.{Word}
use Rattle.gen_world.specs.declared.word.Word.TheVariants.{Amenity, Cafe, Bench, Building, Yes, Highway, Residential, Name, WayName, Kind, Multipolygon, Landuse, Forest}
use Rattle.gen_world.specs.Words.{text_of}
use Rattle.gen_world.specs.contracts.word.WordPartialEq.TheImpl.{ghosts}

numbers_alike : (m n : ℕ) → m < 2 ^ 64 → n < 2 ^ 64 → (m == n) ≡ bytes_eq (decimal m) (decimal n)
numbers_alike m n h k =
    same_from_decides (m == n) (bytes_eq (decimal m) (decimal n)) (Decides-eqb m n)
    (Decides-like (bytes_eq (decimal m) (decimal n)) (decimal_injective m n h k) (λ e. ap decimal e) (bytes_eq-Decides (decimal m) (decimal n)))

pub alike : (v w : Word) → ghosts.eq v w ≡ bytes_eq (text_of v) (text_of w)
unfolding text_of
alike (WayName m) (WayName n) = let h = m.short in let k = n.short in numbers_alike m.id n.id (omega arith) (omega arith)
alike (WayName m) w = refl
alike Amenity Amenity = refl
alike Amenity w = refl
alike Cafe Cafe = refl
alike Cafe w = refl
alike Bench Bench = refl
alike Bench w = refl
alike Building Building = refl
alike Building w = refl
alike Yes Yes = refl
alike Yes w = refl
alike Highway Highway = refl
alike Highway w = refl
alike Residential Residential = refl
alike Residential w = refl
alike Name Name = refl
alike Name w = refl
alike Kind Kind = refl
alike Kind w = refl
alike Multipolygon Multipolygon = refl
alike Multipolygon w = refl
alike Landuse Landuse = refl
alike Landuse w = refl
alike Forest Forest = refl
alike Forest w = refl
