-- The numbers of dense nodes, as they are read message by message, and the lists that hold their sums.
use Rattle.std.specs.Prelude.{◌≡◌, ◌⊎◌, ℕ, ℤ, ◌==◌, ◌&&◌, if◌then◌else◌, IfSome, Result, Ok, Err, List, ◌++◌, length, ⊤}
use Rattle.tb_types.specs.declared.damage.Why.{Why}
use Rattle.tb_types.specs.declared.damage.Why.TheVariants as reasons
use Rattle.tb_types.specs.Results.{◌>>=◌}
use Rattle.tb_wire.specs.Field.{Entry}
use Rattle.osm_elements.specs.declared.fault.BlockErr.{BlockErr}
use Rattle.osm_elements.specs.declared.dense.Dense.{Dense}
use Rattle.osm_elements.specs.Reasons.{IsStop, reason_of}
use Rattle.osm_elements.specs.Fields.{fields_of, numbers}
use Rattle.osm_elements.specs.Walks.{merged_fields_in}
use Rattle.osm_elements.specs.Runs.{runs_check}
use Rattle.osm_elements.specs.Lists.{DenseLists, lists_in}
use Rattle.osm_elements.specs.Sums.{IsSummed, seen_sums}

-- differences of ids, of latitudes and of longitudes, and the pairs of the tags
abbrev pub Four : Type 0
Four = List ℕ × List ℕ × List ℕ × List ℕ

abbrev pub behind : Four → Four → Four
behind a b = (a.0 ++ b.0, a.1 ++ b.1, a.2 ++ b.2, a.3 ++ b.3)

abbrev pub four_of : List Entry → Result Four Why
four_of fields = numbers 1 fields >>= λ ids. numbers 8 fields >>= λ lats. numbers 9 fields >>= λ lons. numbers 10 fields >>= λ pairs. Ok (ids, lats, lons, pairs)

-- the lists hold what is made of these numbers
abbrev pub Hold : Four → Dense → Type 0
Hold read d = IsSummed (λ (n : ℤ). n) read.0 d.ids × IsSummed (λ (n : ℤ). n) read.1 d.lats × IsSummed (λ (n : ℤ). n) read.2 d.lons × (d.pairs.items ≡ read.3)

-- the numbers of a message
pub record Reads (body : List ℕ) (more : Four) : Type 0 where
  pub ids : fields_of body >>= numbers 1 ≡ Ok more.0
  pub lats : fields_of body >>= numbers 8 ≡ Ok more.1
  pub lons : fields_of body >>= numbers 9 ≡ Ok more.2
  pub pairs : fields_of body >>= numbers 10 ≡ Ok more.3

-- some of them can't be read
abbrev pub Refused : List ℕ → Type 0
Refused body =
    (fields_of body >>= numbers 1 ≡ Err reasons.Wire) ⊎ ((fields_of body >>= numbers 8 ≡ Err reasons.Wire) ⊎ ((fields_of body >>= numbers 9 ≡ Err reasons.Wire) ⊎ (fields_of body >>= numbers 10 ≡ Err reasons.Wire)))

-- a call adds the numbers of a message to whatever the lists hold
abbrev pub NotesFour : Dense → Dense → Result ⊤ BlockErr → List ℕ → Type 0
NotesFour old new (Ok u) body = (more : Four) × Reads body more × ((before : Four) → Hold before old → Hold (behind before more) new)
NotesFour old new (Err e) body = IfSome (reason_of e) (λ why. (why ≡ reasons.Wire) × Refused body)

-- the lists hold the numbers of all messages of a group
abbrev pub AreSummed : Dense → Result ⊤ BlockErr → List ℕ → Type 0
AreSummed new (Ok u) group = (read : Four) × (merged_fields_in 2 group >>= four_of ≡ Ok read) × Hold read new
AreSummed new (Err e) group = IsStop e (merged_fields_in 2 group >>= four_of)

-- lists that belong together, where the runs and the sums can be read
abbrev pub together : List (List ℕ) → ℕ → ℕ → ℕ → List ℕ → Result (List ℤ) Why → Result (List ℤ) Why → Result (List ℤ) Why → Result DenseLists Why
together strings ids lats lons pairs a b c =
    if (ids == lats) && (ids == lons) then (runs_check strings ids pairs >>= λ _. a >>= λ ids. b >>= λ lats. c >>= λ lons. Ok (ids, lats, lons, pairs))
    else Err reasons.Uneven

abbrev pub checked : List (List ℕ) → Dense → Result DenseLists Why
checked strings d =
    together strings (length d.ids.items.items) (length d.lats.items.items) (length d.lons.items.items) d.pairs.items (seen_sums d.ids) (seen_sums d.lats) (seen_sums d.lons)

-- the lists of the dense nodes of a group
abbrev pub group_lists : List (List ℕ) → List ℕ → Result DenseLists Why
group_lists strings group = merged_fields_in 2 group >>= lists_in strings
