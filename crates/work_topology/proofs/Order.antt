-- Troubles in the order in which they are told.
use Rattle.std.proofs.Common.{◌≡◌, ◌∙◌, ℕ, Bool, true, false, true≢false, if◌then◌else◌, List, [], ◌∷◌, ◌++◌, length, Option, Some, None, ap, sym, refl, subst}
use Rattle.std.specs.Prelude.{IfSome}
use Rattle.std.specs.Cmp.{IsTotalOrder}
use Rattle.std.specs.Ordering.{is_lt}
use Rattle.std.specs.declared.cmp.Ordering.{Ordering}
use Rattle.std.specs.declared.cmp.Ordering.TheVariants.{Less, Equal, Greater}
use Rattle.std.proofs.lemmas.Cmp.{nat_cmp_total, on_total, then_total, tied_itself}
use mathlib.Core.Option.{some}
use lib.ListN.{get_elem?}
use Rattle.atomic_table.proofs.Lists.{at_last, at_longer}
use Rattle.tb_types.specs.Orders.{whom_rank, lane_of}
use Rattle.tb_types.specs.declared.trouble.Trouble.{Trouble}
use Rattle.work_topology.specs.declared.post.Report.{Report}
use Rattle.work_topology.specs.Told.{rank, named, trouble_order, first_told, NotBefore, IsFirstTold, IsTold}
use Rattle.work_topology.proofs.Steps.{each_snoc}

pub trouble_total : IsTotalOrder trouble_order
trouble_total = then_total (on_total rank nat_cmp_total) (on_total named (then_total (on_total whom_rank nat_cmp_total) (on_total lane_of nat_cmp_total)))

is_less : (o : Ordering) → is_lt o ≡ true → o ≡ Less
is_less Less h = refl
is_less Equal h = absurd (true≢false (sym h))
is_less Greater h = absurd (true≢false (sym h))

-- no trouble stands before itself
pub not_itself : (t : Trouble) → NotBefore t t
not_itself t less = absurd (true≢false (ap is_lt (sym less ∙ tied_itself trouble_total t)))

some_told : (P Q : Trouble → Type 0) (t : Option Trouble) → ((u : Trouble) → P u → Q u) → IfSome t P → IfSome t Q
some_told P Q None wider p = tt
some_told P Q (Some u) wider p = wider u p

module _ {Out : Type 0} (reports : List (Report Out)) (report : Report Out) where
  -- a trouble that is told stays so behind one that isn't before it
  keeps : (t : Trouble) → IsFirstTold reports t → IfSome report.trouble (NotBefore t) → IsFirstTold (reports ++ report ∷ []) t
  keeps t told not =
      record {
        place = told.place;
        report = told.report;
        at = at_longer reports (report ∷ []) told.place told.report told.at;
        has = told.has;
        first = each_snoc (λ r. IfSome r.trouble (NotBefore t)) reports report told.first not;
      }

  -- the last one is told, where no other is before it
  takes : (t : Trouble) → report.trouble ≡ Some t → ((k : ℕ) (r : Report Out) → get_elem? reports k ≡ some r → IfSome r.trouble (NotBefore t)) → IsFirstTold (reports ++ report ∷ []) t
  takes t has not =
      record {
        place = length reports;
        report = report;
        at = at_last reports report (length reports) refl;
        has = has;
        first = each_snoc (λ r. IfSome r.trouble (NotBefore t)) reports report not (subst (λ u. IfSome u (NotBefore t)) (sym has) (not_itself t));
      }

  more : (told back : Option Trouble) → report.trouble ≡ back → IsTold reports told → IsTold (reports ++ report ∷ []) (first_told told back)
  more None None is all = each_snoc (λ r. r.trouble ≡ None) reports report all is
  more None (Some u) is all = takes u is (λ k r at. subst (λ t. IfSome t (NotBefore u)) (sym (all k r at)) tt)
  more (Some t) None is told = keeps t told (subst (λ u. IfSome u (NotBefore t)) (sym is) tt)
  more (Some t) (Some u) is told = choose (is_lt (trouble_order u t)) refl
    where
      choose : (b : Bool) → is_lt (trouble_order u t) ≡ b → IsTold (reports ++ report ∷ []) (if b then Some u else Some t)
      choose true less = takes u is (λ k r at. some_told (NotBefore t) (NotBefore u) r.trouble (λ v not before. not (trouble_total.trans v u t before (is_less (trouble_order u t) less))) (told.first k r at))
      choose false not = keeps t told (subst (λ v. IfSome v (NotBefore t)) (sym is) (λ less. absurd (true≢false (sym (ap is_lt less) ∙ not))))

  -- what is told of one report more
  pub told_more : (told : Option Trouble) → IsTold reports told → IsTold (reports ++ report ∷ []) (first_told told report.trouble)
  told_more told is = more told report.trouble refl is
