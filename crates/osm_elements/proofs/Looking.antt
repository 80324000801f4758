-- A first look over a group.
use Rattle.std.proofs.Common.{◌≡◌, ◌≢◌, ℕ, ◌≤◌, Option, None, Some, IsErrAnd, Result, Ok, Err, List, [], ◌∷◌, length, refl, ap, sym, subst, ◌∙◌}
use Rattle.tb_types.specs.declared.damage.Why.{Why}
use Rattle.tb_types.specs.declared.damage.Why.TheVariants as reasons
use Rattle.tb_types.specs.Results.{◌>>=◌}
use Rattle.tb_wire.specs.declared.varint.Wire.{Wire}
use Rattle.tb_wire.specs.declared.field.Field.{Field}
use Rattle.tb_wire.specs.Field.{Entry, entry_of, field_at}
use Rattle.tb_wire.specs.Items.{◌>>=◌ as ◌>>!◌, with_rest}
use Rattle.tb_wire.specs.Message.{message, message_at}
use Rattle.tb_wire.proofs.Messages.{message_at-step}
use Rattle.osm_elements.specs.declared.fault.BlockErr.{BlockErr}
use Rattle.osm_elements.specs.declared.fault.BlockErr.TheVariants as faults
use Rattle.osm_elements.specs.declared.granularity.Granularity.{Granularity}
use Rattle.osm_elements.specs.declared.group.Looked.{Looked}
use Rattle.osm_elements.specs.Fields.{or_wire, fields_of}
use Rattle.osm_elements.specs.Dense.{dense_of}
use Rattle.osm_elements.specs.Elements.{Element}
use Rattle.osm_elements.specs.Block.{Found, joined, every, group_of}
use Rattle.osm_elements.specs.Walks.{bodies_at, each_from, fields_in, merged_fields_in, dense_in}
use Rattle.osm_elements.specs.Looks.{Tells, LooksAt}
use Rattle.osm_elements.specs.SoFar.{Holds, Grows}
use Rattle.osm_elements.proofs.Walks.{body_skipped, no_field_left}
use Rattle.osm_elements.proofs.Joins.{joined-none}

-- what a look has passed of a group
pub record Passed (group : List ℕ) (seen : Looked) (at : ℕ) : Type 0 where
  pub nodes : seen.nodes ≡ 0 → bodies_at 1 group at ≡ bodies_at 1 group 0
  pub dense : seen.dense ≡ 0 → bodies_at 2 group at ≡ bodies_at 2 group 0
  pub ways : seen.ways ≡ 0 → bodies_at 3 group at ≡ bodies_at 3 group 0
  pub relations : seen.relations ≡ 0 → bodies_at 4 group at ≡ bodies_at 4 group 0
  pub message : or_wire (message_at group at) ≡ Err reasons.Wire → fields_of group ≡ Err reasons.Wire

pub look_start : (group : List ℕ) (seen : Looked) → Passed group seen 0
look_start group seen = record { nodes = λ z. refl; dense = λ z. refl; ways = λ z. refl; relations = λ z. refl; message = λ h. h }

module _ (group : List ℕ) (seen : Looked) (at : ℕ) (passed : Passed group seen at) (here : at ≤ length group) where
  pub look_step : (f : Field) → Ok (Some (entry_of f, f.next)) ≡ field_at group at → (next : Looked) → (next.nodes ≡ 0 → (seen.nodes ≡ 0) × (f.number ≢ 1)) → (next.dense ≡ 0 → (seen.dense ≡ 0) × (f.number ≢ 2))
      → (next.ways ≡ 0 → (seen.ways ≡ 0) × (f.number ≢ 3)) → (next.relations ≡ 0 → (seen.relations ≡ 0) × (f.number ≢ 4)) → Passed group next f.next
  look_step f is next nodes dense ways relations = record {
    nodes = λ z. let h = nodes z in body_skipped 1 group at f _ here is h.1 (passed.nodes h.0);
    dense = λ z. let h = dense z in body_skipped 2 group at f _ here is h.1 (passed.dense h.0);
    ways = λ z. let h = ways z in body_skipped 3 group at f _ here is h.1 (passed.ways h.0);
    relations = λ z. let h = relations z in body_skipped 4 group at f _ here is h.1 (passed.relations h.0);
    message = λ refused. passed.message (ap or_wire (message_at-step group at here ∙ ap (λ r. r >>! with_rest (message_at group)) (sym is)) ∙ go (message_at group f.next) refused);
  }
    where
      go : (r : Result (List Entry) Wire) → or_wire r ≡ Err reasons.Wire → or_wire (r >>! λ rest. Ok (entry_of f ∷ rest)) ≡ Err reasons.Wire
      go (Ok rest) h = cc
      go (Err e) h = refl

  pub look_end : Ok None ≡ field_at group at → Tells group seen
  look_end is = record {
    nodes = λ z. no_field_left 1 group at _ here is (passed.nodes z);
    dense = λ z. no_field_left 2 group at _ here is (passed.dense z);
    ways = λ z. no_field_left 3 group at _ here is (passed.ways z);
    relations = λ z. no_field_left 4 group at _ here is (passed.relations z);
  }

  pub look_stops : (r : Result Looked BlockErr) (e : BlockErr) (w : Wire) → IsErrAnd r (λ x. x ≡ e) → e ≡ faults.Bad reasons.Wire → Err w ≡ field_at group at → LooksAt group r
  look_stops (Ok x) e w h is none = absurd h
  look_stops (Err x) e w h is none = (h ∙ is, passed.message (ap or_wire (message_at-step group at here ∙ ap (λ r. r >>! with_rest (message_at group)) (sym none))))

-- what isn't there adds nothing
module _ {T Stop : Type 0} (steps : T → List Element → T → Type 0) (stops : T → List Element → T → Stop → Type 0) (now : T × Option Why) where
  adds_nothing : (found : Found) → found ≡ Ok [] → Grows steps stops now now found
  adds_nothing found is start so_far h = subst (Holds steps stops start now) (sym (ap (joined so_far) is ∙ joined-none so_far)) h

  pub no_messages : (read : List ℕ → Found) (n : ℕ) (group : List ℕ) → bodies_at n group 0 ≡ Ok [] → Grows steps stops now now (each_from read n group 0)
  no_messages read n group none = adds_nothing (each_from read n group 0) (ap (λ r. r >>= every read) none)

  pub no_dense : (strings : List (List ℕ)) (granularity : Granularity) (group : List ℕ) → bodies_at 2 group 0 ≡ Ok [] → Grows steps stops now now (dense_in strings granularity group)
  unfolding dense_of
  no_dense strings granularity group none = adds_nothing (dense_in strings granularity group) (ap (λ r. r >>= fields_in >>= dense_of strings granularity) none)

-- a group that is no message
pub no_group : (strings : List (List ℕ)) (granularity : Granularity) (group : List ℕ) (e : BlockErr) → LooksAt group (Err e) → (why : Why) → e ≡ faults.Bad why → (why ≡ reasons.Wire) × (group_of strings granularity group ≡ Err reasons.Wire)
unfolding group_of
no_group strings granularity group e h why is =
    let same : why ≡ reasons.Wire = the_reason why (sym is ∙ h.0) in
    (same, rw h.1 refl)
  where
    the_reason : (why : Why) → faults.Bad why ≡ faults.Bad reasons.Wire → why ≡ reasons.Wire
    the_reason why h = cc
