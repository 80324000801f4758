use Rattle.std.proofs.Common.{refl, arith, ap, sym, pos}
use Rattle.std.specs.Prelude.{sum_by}
use Rattle.std.proofs.lemmas.Option.{none-some}
use Rattle.shard_store.specs.Worked.{id}
use Rattle.shard_store.proofs.worked.worked_joins.Goals as goal

pub returns : goal.returns
returns c =
    record {
      shard = refl;
      shard_below = refl;
      shard_none = refl;
      in_order = refl;
      out_of_order = refl;
      not_there = refl;
      twice = λ h. none-some 5 (sym h.0);
      one_more = λ h. none-some 3 (sym (h.values (id (pos 7))));
      left_out = λ h. none-some 3 (h.values (id (pos 7)));
      of_seven = refl;
      dropped = λ h. (let a = h.often (λ _. 1) in let b = ap (sum_by (λ _. 1)) h.behind in omega arith);
      put_twice = λ h. (let a = h.often (λ _. 1) in let b = ap (sum_by (λ _. 1)) h.behind in omega arith);
    }
