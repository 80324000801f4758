-- The extract that is generated: its totals, and the line of success.
use Rattle.std.specs.Prelude.{ℕ, List, [], ◌∷◌, length, codes, decimal}
use Rattle.std.specs.List.{concat}
use Rattle.build_cli.specs.declared.generate.Generated.{Generated}

-- how many frames there are, and how many bytes they have
abbrev pub totals_of : List (List ℕ) → Generated
totals_of frames = record { blocks = length frames; bytes = length (concat frames) }

unfoldable pub generated_line : Generated → List ℕ
generated_line totals = concat (codes "generated: blocks " ∷ decimal totals.blocks ∷ codes ", bytes " ∷ decimal totals.bytes ∷ codes "\n" ∷ [])
