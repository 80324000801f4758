-- The steps of the loops over the runs of pairs of dense nodes.
use Rattle.std.proofs.Common.{◌≡◌, ◌≢◌, ℕ, zero, suc, ◌+◌, ◌<◌, ◌==◌, ◌||◌, Bool, true, false, if◌then◌else◌, Result, Ok, Err, List, [], ◌∷◌, refl, ap, sym, subst, ◌∙◌, arith}
use Rattle.std.proofs.lemmas.Bool.{eq-eqb, ne_eqb}
use Rattle.std.specs.Prelude.{nat_eq}
use Rattle.tb_types.specs.declared.damage.Why.{Why}
use Rattle.tb_types.specs.declared.damage.Why.TheVariants as reasons
use Rattle.tb_types.specs.Results.{◌>>=◌}
use Rattle.osm_elements.specs.Signed.{low_32}
use Rattle.osm_elements.specs.Tags.{Tag, string_at, is_negative, with_signed_pair}
use Rattle.osm_elements.specs.Runs.{check_of, run_check, no_more}
use Rattle.osm_elements.specs.Dense.{behind_run, are_runs, first_run, tag_lists}

is_zero : (k : ℕ) → low_32 k ≡ 0 → nat_eq (low_32 k) 0 ≡ true
is_zero k h = eq-eqb (low_32 k) 0 h

is_other : (k : ℕ) → low_32 k ≢ 0 → nat_eq (low_32 k) 0 ≡ false
is_other k h = ne_eqb (low_32 k) 0 h

abbrev fine : {A : Type 0} → A → Result A Why
fine x = Ok x

ok_is : {A : Type 0} (x y : A) → fine x ≡ fine y → x ≡ y
ok_is x y h = cc

-- what stands behind a run
pub run_behind : (k : ℕ) (behind : List ℕ) (total : Result (List ℕ) Why) → low_32 k ≡ 0 → behind_run (k ∷ behind) ≡ total → total ≡ Ok behind
run_behind k [] total none told = let h = rw (is_zero k none) at told in sym h
run_behind k (v ∷ more) total none told = let h = rw (is_zero k none) at told in sym h

pub pair_passed : (k v : ℕ) (more : List ℕ) (total : Result (List ℕ) Why) → low_32 k ≢ 0 → behind_run (k ∷ v ∷ more) ≡ total → behind_run more ≡ total
pair_passed k v more total some told = rw (is_other k some) at told

pub no_value : (k : ℕ) (total : Result (List ℕ) Why) → low_32 k ≢ 0 → behind_run (k ∷ []) ≡ total → total ≡ Err reasons.Uneven
no_value k total some told = let h = rw (is_other k some) at told in sym h

-- one run of a shape
shape-next : (r : Result (List ℕ) Why) (n : ℕ) (next : List ℕ) → r ≡ Ok next → r >>= are_runs n ≡ are_runs n next
shape-next r n next h = ap (λ x. x >>= are_runs n) h

pub shape_step : (left fewer : ℕ) (rest next : List ℕ) (total : Result (Unit {0}) Why) → left ≡ fewer + 1 → behind_run rest ≡ Ok next → are_runs left rest ≡ total → are_runs fewer next ≡ total
shape_step zero fewer rest next total one h told = absurd (omega (arith, one))
shape_step (suc n) fewer rest next total one h told =
    let same : n ≡ fewer = omega (arith, one) in
    subst (λ m. are_runs m next ≡ total) same (sym (shape-next (behind_run rest) n next h) ∙ told)

pub shape_stops : (left : ℕ) (rest : List ℕ) (total : Result (Unit {0}) Why) (why : Why) → 0 < left → behind_run rest ≡ Err why → are_runs left rest ≡ total → total ≡ Err why
shape_stops zero rest total why some h told = absurd (omega (arith, some))
shape_stops (suc n) rest total why some h told = sym told ∙ ap (λ x. x >>= are_runs n) h

pub shape_ends : (left : ℕ) (rest : List ℕ) (total : Result (Unit {0}) Why) → left ≡ 0 → are_runs left rest ≡ total → total ≡ no_more rest
shape_ends zero [] total none told = sym told
shape_ends zero (k ∷ rest) total none told = sym told
shape_ends (suc n) rest total none told = absurd (omega (arith, none))

-- what is refused of two choices, where it is the same of both
either : {A B : Type 0} (b : Bool) (p r : Result A Why) (q s : Result B Why) → check_of p ≡ check_of q → check_of r ≡ check_of s → check_of (if b then p else r) ≡ check_of (if b then q else s)
either true p r q s h k = h
either false p r q s h k = k

next : {A B : Type 0} (r s : Result A Why) (f g : A → Result B Why) → check_of r ≡ check_of s → ((x y : A) → check_of (f x) ≡ check_of (g y)) → check_of (r >>= f) ≡ check_of (s >>= g)
next (Ok x) (Ok y) f g h k = k x y
next (Ok x) (Err w) f g h k = cc
next (Err v) (Ok y) f g h k = cc
next (Err v) (Err w) f g h k = h

-- whether pairs are refused doesn't rest on the tags before them
pair-any : (strings : List (List ℕ)) (tags other : List Tag) (k v : ℕ) → check_of (with_signed_pair strings tags k v) ≡ check_of (with_signed_pair strings other k v)
pair-any strings tags other k v =
    either (is_negative k || is_negative v) _ _ _ _ refl
    (next (string_at strings k) (string_at strings k) _ _ refl (λ x y. next (string_at strings v) (string_at strings v) _ _ refl (λ z w. refl)))

kept : {A B : Type 0} (r : Result A Why) (f : A → B) → check_of (r >>= λ x. Ok (f x)) ≡ check_of r
kept (Ok x) f = refl
kept (Err w) f = refl

-- what stands behind a run
abbrev behind_it : Result (List Tag × List ℕ) Why → Result (List ℕ) Why
behind_it r = r >>= λ run. Ok run.1

ends-any : (tags other : List Tag) (rest : List ℕ) (b : Bool) (p q : Result (List Tag × List ℕ) Why) → behind_it p ≡ behind_it q
    → behind_it (if b then Ok (tags, rest) else p) ≡ behind_it (if b then Ok (other, rest) else q)
ends-any tags other rest true p q h = refl
ends-any tags other rest false p q h = h

next-any : (r s : Result (List Tag) Why) (f : List Tag → Result (List Tag × List ℕ) Why) → check_of r ≡ check_of s → ((x y : List Tag) → behind_it (f x) ≡ behind_it (f y)) → behind_it (r >>= f) ≡ behind_it (s >>= f)
next-any (Ok x) (Ok y) f h k = k x y
next-any (Ok x) (Err w) f h k = cc
next-any (Err v) (Ok y) f h k = cc
next-any (Err v) (Err w) f h k = cc

-- what stands behind a run doesn't rest on the tags before it
run-any : (strings : List (List ℕ)) (tags other : List Tag) (pairs : List ℕ) → run_check strings tags pairs ≡ run_check strings other pairs
run-any strings tags other [] = refl
run-any strings tags other (k ∷ []) = ends-any tags other [] (low_32 k == 0) (Err reasons.Uneven) (Err reasons.Uneven) refl
run-any strings tags other (k ∷ v ∷ more) =
    ends-any tags other (v ∷ more) (low_32 k == 0) _ _
    (next-any (with_signed_pair strings tags k v) (with_signed_pair strings other k v) (λ joined. first_run strings joined more) (pair-any strings tags other k v) (λ x y. run-any strings x y more))

-- the steps of the check of a run
pub check_ends : (strings : List (List ℕ)) (k : ℕ) (behind : List ℕ) (total : Result (List ℕ) Why) → low_32 k ≡ 0 → run_check strings [] (k ∷ behind) ≡ total → total ≡ Ok behind
check_ends strings k [] total none told = let h = rw (is_zero k none) at told in sym h
check_ends strings k (v ∷ more) total none told = let h = rw (is_zero k none) at told in sym h

passed : (r : Result (List Tag) Why) (f : List Tag → Result (List Tag × List ℕ) Why) (s : Result (List ℕ) Why) → check_of r ≡ Ok tt → ((x : List Tag) → behind_it (f x) ≡ s) → behind_it (r >>= f) ≡ s
passed (Ok x) f s h k = k x
passed (Err w) f s h k = cc

pub check_passes : (strings : List (List ℕ)) (k v : ℕ) (more : List ℕ) (total : Result (List ℕ) Why) → low_32 k ≢ 0 → check_of (with_signed_pair strings [] k v) ≡ Ok tt
    → run_check strings [] (k ∷ v ∷ more) ≡ total → run_check strings [] more ≡ total
check_passes strings k v more total some fine told =
    let h = rw (is_other k some) at told in
    sym (passed (with_signed_pair strings [] k v) (λ joined. first_run strings joined more) (run_check strings [] more) fine (λ x. run-any strings x [] more)) ∙ h

refused : (r : Result (List Tag) Why) (f : List Tag → Result (List Tag × List ℕ) Why) (why : Why) → check_of r ≡ Err why → behind_it (r >>= f) ≡ Err why
refused (Ok x) f why h = cc
refused (Err w) f why h = cc

pub check_stops : (strings : List (List ℕ)) (k v : ℕ) (more : List ℕ) (total : Result (List ℕ) Why) (why : Why) → low_32 k ≢ 0 → check_of (with_signed_pair strings [] k v) ≡ Err why
    → run_check strings [] (k ∷ v ∷ more) ≡ total → total ≡ Err why
check_stops strings k v more total why some stop told =
    let h = rw (is_other k some) at told in
    sym h ∙ refused (with_signed_pair strings [] k v) (λ joined. first_run strings joined more) why stop

pub check_no_value : (strings : List (List ℕ)) (k : ℕ) (total : Result (List ℕ) Why) → low_32 k ≢ 0 → run_check strings [] (k ∷ []) ≡ total → total ≡ Err reasons.Uneven
check_no_value strings k total some told = let h = rw (is_other k some) at told in sym h

-- the steps of the check of all runs
run-passed : (r : Result (List Tag × List ℕ) Why) (read : List ℕ → Result (List (List Tag)) Why) (next : List ℕ) → behind_it r ≡ Ok next
    → check_of (r >>= λ run. read run.1 >>= λ later. Ok (run.0 ∷ later)) ≡ check_of (read next)
run-passed (Ok run) read next h = kept (read run.1) (λ later. run.0 ∷ later) ∙ ap (λ rest. check_of (read rest)) (ok_is run.1 next h)
run-passed (Err why) read next h = cc

run-refused : (r : Result (List Tag × List ℕ) Why) (read : List ℕ → Result (List (List Tag)) Why) (why : Why) → behind_it r ≡ Err why → check_of (r >>= λ run. read run.1 >>= λ later. Ok (run.0 ∷ later)) ≡ Err why
run-refused (Ok run) read why h = cc
run-refused (Err w) read why h = cc

pub runs_step : (strings : List (List ℕ)) (left fewer : ℕ) (rest next : List ℕ) (total : Result (Unit {0}) Why) → left ≡ fewer + 1 → run_check strings [] rest ≡ Ok next
    → check_of (tag_lists strings left rest) ≡ total → check_of (tag_lists strings fewer next) ≡ total
runs_step strings zero fewer rest next total one h told = absurd (omega (arith, one))
runs_step strings (suc n) fewer rest next total one h told =
    let same : n ≡ fewer = omega (arith, one) in
    subst (λ m. check_of (tag_lists strings m next) ≡ total) same (sym (run-passed (first_run strings [] rest) (tag_lists strings n) next h) ∙ told)

pub runs_stop : (strings : List (List ℕ)) (left : ℕ) (rest : List ℕ) (total : Result (Unit {0}) Why) (why : Why) → 0 < left → run_check strings [] rest ≡ Err why
    → check_of (tag_lists strings left rest) ≡ total → total ≡ Err why
runs_stop strings zero rest total why some h told = absurd (omega (arith, some))
runs_stop strings (suc n) rest total why some h told = sym told ∙ run-refused (first_run strings [] rest) (tag_lists strings n) why h

pub runs_end : (strings : List (List ℕ)) (left : ℕ) (rest : List ℕ) (total : Result (Unit {0}) Why) → left ≡ 0 → check_of (tag_lists strings left rest) ≡ total → total ≡ no_more rest
runs_end strings zero [] total none told = sym told
runs_end strings zero (k ∷ rest) total none told = sym told
runs_end strings (suc n) rest total none told = absurd (omega (arith, none))

-- the steps of the reading of a run
pub run_read : (strings : List (List ℕ)) (tags : List Tag) (k : ℕ) (behind : List ℕ) (total : Result (List Tag × List ℕ) Why) → low_32 k ≡ 0
    → first_run strings tags (k ∷ behind) ≡ total → total ≡ Ok (tags, behind)
run_read strings tags k [] total none told = let h = rw (is_zero k none) at told in sym h
run_read strings tags k (v ∷ more) total none told = let h = rw (is_zero k none) at told in sym h

pub pair_joins : (strings : List (List ℕ)) (tags joined : List Tag) (k v : ℕ) (more : List ℕ) (total : Result (List Tag × List ℕ) Why) → low_32 k ≢ 0 → with_signed_pair strings tags k v ≡ Ok joined
    → first_run strings tags (k ∷ v ∷ more) ≡ total → first_run strings joined more ≡ total
pair_joins strings tags joined k v more total some step told =
    let h = rw (is_other k some) at told in
    sym (ap (λ r. r >>= λ these. first_run strings these more) step) ∙ h

pub pair_stops : (strings : List (List ℕ)) (tags : List Tag) (k v : ℕ) (more : List ℕ) (total : Result (List Tag × List ℕ) Why) (why : Why) → low_32 k ≢ 0 → with_signed_pair strings tags k v ≡ Err why
    → first_run strings tags (k ∷ v ∷ more) ≡ total → total ≡ Err why
pair_stops strings tags k v more total why some step told =
    let h = rw (is_other k some) at told in
    sym h ∙ ap (λ r. r >>= λ these. first_run strings these more) step

pub run_no_value : (strings : List (List ℕ)) (tags : List Tag) (k : ℕ) (total : Result (List Tag × List ℕ) Why) → low_32 k ≢ 0 → first_run strings tags (k ∷ []) ≡ total → total ≡ Err reasons.Uneven
run_no_value strings tags k total some told = let h = rw (is_other k some) at told in sym h
