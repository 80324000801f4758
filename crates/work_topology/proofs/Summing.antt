-- What the lanes did, put together: one lane more.
use Rattle.std.proofs.Common.{◌≡◌, ◌∙◌, ℕ, List, [], ◌∷◌, ◌++◌, ap, sym, subst}
use Rattle.std.proofs.lemmas.List.{map_push, flat_map_more}
use Rattle.pbf_blobs.specs.declared.block.BlockAt.{BlockAt}
use Rattle.work_topology.specs.declared.ends.Done.{Done}
use Rattle.work_topology.specs.declared.post.Report.{Report}
use Rattle.work_topology.specs.Lists.{Paired}
use Rattle.work_topology.specs.Sums.{ArePlaces, SumsUp}
use Rattle.work_topology.proofs.Steps.{paired_push}

pub sums_more : {Out : Type 0} (blocks : List BlockAt) (reports : List (Report Out)) (report : Report Out) (outs outs' : List Out) (claims claims' pushed pushed' popped popped' : List (List ℕ)) (done done' : List Done) (places : List ℕ)
    → SumsUp blocks reports outs claims pushed popped done
    → outs' ≡ outs ++ report.out ∷ [] → claims' ≡ claims ++ report.claims ∷ [] → pushed' ≡ pushed ++ report.claims ∷ [] → popped' ≡ popped ++ places ∷ [] → ArePlaces blocks report.done places → done' ≡ done ++ report.done
    → SumsUp blocks (reports ++ report ∷ []) outs' claims' pushed' popped' done'
sums_more {Out} blocks reports report outs outs' claims claims' pushed pushed' popped popped' done done' places s o c p q are d =
    record {
      all_outs = o ∙ ap (λ l. l ++ report.out ∷ []) s.all_outs ∙ sym (map_push (λ (r : Report Out). r.out) reports report);
      all_claims = c ∙ ap (λ l. l ++ report.claims ∷ []) s.all_claims ∙ sym (map_push (λ (r : Report Out). r.claims) reports report);
      all_pushed = p ∙ ap (λ l. l ++ report.claims ∷ []) s.all_pushed ∙ sym (map_push (λ (r : Report Out). r.claims) reports report);
      all_popped = subst (λ l. Paired (λ r ps. ArePlaces blocks r.done ps) (reports ++ report ∷ []) l) (sym q) (paired_push (λ r ps. ArePlaces blocks r.done ps) reports popped report places s.all_popped are);
      all_done = d ∙ ap (λ l. l ++ report.done) s.all_done ∙ flat_map_more (λ (r : Report Out). r.done) [] reports report;
    }
