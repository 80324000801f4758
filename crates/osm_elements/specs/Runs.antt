-- The runs of pairs of dense nodes, one by one.
use Rattle.std.specs.Prelude.{ℕ, ◌==◌, if◌then◌else◌, Result, Ok, Err, List, [], ◌∷◌, length}
use Rattle.tb_types.specs.declared.damage.Why.{Why}
use Rattle.tb_types.specs.declared.damage.Why.TheVariants as reasons
use Rattle.tb_types.specs.Results.{◌>>=◌}
use Rattle.osm_elements.specs.Tags.{Tag}
use Rattle.osm_elements.specs.Dense.{are_runs, first_run, tag_lists}

-- whether it is refused, and why, without what was read
abbrev pub check_of : {A : Type 0} → Result A Why → Result (Unit {0}) Why
check_of (Ok x) = Ok tt
check_of (Err why) = Err why

-- what stands behind the first run, if each of its pairs can be read
abbrev pub run_check : List (List ℕ) → List Tag → List ℕ → Result (List ℕ) Why
run_check strings tags pairs = first_run strings tags pairs >>= λ run. Ok run.1

-- so many runs, of which each pair can be read, or none at all
abbrev pub runs_check : List (List ℕ) → ℕ → List ℕ → Result (Unit {0}) Why
runs_check strings nodes pairs = if length pairs == 0 then Ok tt else are_runs nodes pairs >>= λ _. check_of (tag_lists strings nodes pairs)

-- nothing stands behind the last run
abbrev pub no_more : List ℕ → Result (Unit {0}) Why
no_more [] = Ok tt
no_more (k ∷ more) = Err reasons.Uneven
