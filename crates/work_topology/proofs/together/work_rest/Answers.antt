use Rattle.std.proofs.Common.{◌≡◌, inl, inr, None, refl, subst}
use Rattle.work_topology.specs.Lists.{Each}
use Rattle.work_topology.specs.Told.{IsFirstTold}
use Rattle.work_topology.proofs.together.work_rest.Goals as goal

pub work_left-requires-clause-fits : goal.work_left-requires-clause-fits
work_left-requires-clause-fits g c = c.requires.fits (subst (λ l. Each (λ r. r.trouble ≡ None) l) c.as_slice.ensures.value c.in-None.ensures)

pub returns-in-Some-clause-rest : goal.returns-in-Some-clause-rest
returns-in-Some-clause-rest g c = inr (record { err = tt; first = subst (λ l. IsFirstTold l c.in-Some.trouble) c.as_slice.ensures.value c.in-Some.ensures; same_pass = refl; same_lanes = refl })

pub returns-in-Ok-clause-rest : goal.returns-in-Ok-clause-rest
returns-in-Ok-clause-rest g c = inl (subst (λ l. Each (λ r. r.trouble ≡ None) l) c.as_slice.ensures.value c.in-None.ensures, c.in-Ok.ensures.left)

pub returns-in-Err-clause-rest : goal.returns-in-Err-clause-rest
returns-in-Err-clause-rest g c = inl (subst (λ l. Each (λ r. r.trouble ≡ None) l) c.as_slice.ensures.value c.in-None.ensures, c.in-Err.ensures.left)
