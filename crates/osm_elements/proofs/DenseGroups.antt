-- The lists of dense nodes, read message by message, are those of the fields of all messages.
use Rattle.std.proofs.Common.{◌≡◌, ◌≤◌, ◌⊎◌, Option, None, Some, inl, inr, ℕ, ℤ, ◌==◌, ◌&&◌, Bool, true, false, if◌then◌else◌, IsErrAnd, Result, Ok, Err, List, [], ◌∷◌, ◌++◌, length, refl, ap, sym, subst, ◌∙◌, append_assoc, append-nil}
use Rattle.std.specs.Prelude.{⊤}
use Rattle.tb_types.specs.declared.damage.Why.{Why}
use Rattle.tb_types.specs.declared.damage.Why.TheVariants as reasons
use Rattle.tb_types.specs.Results.{◌>>=◌}
use Rattle.tb_wire.specs.Field.{Entry, entry_of, field_at}
use Rattle.osm_elements.specs.declared.fault.BlockErr.{BlockErr}
use Rattle.osm_elements.specs.declared.fault.BlockErr.TheVariants as faults
use Rattle.osm_elements.specs.declared.dense.Dense.{Dense}
use Rattle.osm_elements.specs.Reasons.{IsStop}
use Rattle.osm_elements.specs.Fields.{fields_of, some_numbers, if_numbered, numbers, with_found}
use Rattle.osm_elements.specs.Granularity.{sums}
use Rattle.osm_elements.specs.Tags.{Tag}
use Rattle.osm_elements.specs.Dense.{are_runs, tag_lists, no_tags_for, dense_tags}
use Rattle.osm_elements.specs.Runs.{check_of, runs_check}
use Rattle.osm_elements.specs.Lists.{DenseLists, lists_of, lists_in}
use Rattle.osm_elements.specs.Walks.{bodies_at, with_body, fields_in, merged_fields_in}
use Rattle.osm_elements.specs.Sums.{IsSummed, Notes, seen_sums}
use Rattle.tb_wire.specs.declared.field.Field.{Field}
use Rattle.tb_wire.specs.declared.varint.Wire.{Wire}
use Rattle.osm_elements.specs.DenseLists.{Four, behind, four_of, Hold, Reads, Refused, NotesFour, AreSummed, together, checked}
use Rattle.osm_elements.proofs.Prefixes.{with_found_nil}
use Rattle.osm_elements.proofs.Walks.{OnlyWire, or_wire-only, bodies_at-only, fields_in-only, one-table}
use Rattle.osm_elements.proofs.Slots.{noted, list_start, list_step, list_refused, list_end, list_none, field_numbers-only, some_numbers-only, numbers-only, four_read, four_first, four_second, four_third, four_last}
use Rattle.osm_elements.proofs.Summing.{summed_whole}

-- the numbers of a field in all messages, one after another
abbrev pub each_numbers : ℕ → List (List ℕ) → Result (List ℕ) Why
each_numbers n [] = Ok []
each_numbers n (b ∷ bs) = fields_of b >>= numbers n >>= λ these. each_numbers n bs >>= λ later. Ok (these ++ later)

each_numbers-fields : (n : ℕ) (bs : List (List ℕ)) → fields_in bs >>= numbers n ≡ each_numbers n bs
each_numbers-fields n [] = refl
each_numbers-fields n (b ∷ bs) = one-table some_numbers some_numbers-only n (fields_of b) (fields_in bs) (each_numbers n bs) (fields_in-only bs) (each_numbers-fields n bs)

-- those from a place of a group on, behind what was read
abbrev pub told_from : ℕ → List ℕ → List ℕ → ℕ → Result (List ℕ) Why
told_from n group before at = with_found before (bodies_at 2 group at >>= each_numbers n)

pub told_start : (n : ℕ) (group : List ℕ) → told_from n group [] 0 ≡ merged_fields_in 2 group >>= numbers n
told_start n group = with_found_nil (bodies_at 2 group 0 >>= each_numbers n) ∙ go (bodies_at 2 group 0)
  where
    go : (r : Result (List (List ℕ)) Why) → r >>= each_numbers n ≡ r >>= fields_in >>= numbers n
    go (Ok bs) = sym (each_numbers-fields n bs)
    go (Err why) = refl

module _ (n : ℕ) (group : List ℕ) (before : List ℕ) (at next : ℕ) (b : List ℕ) (is : bodies_at 2 group at ≡ with_body b (bodies_at 2 group next)) where
  pub told_step : (more : List ℕ) (total : Result (List ℕ) Why) → fields_of b >>= numbers n ≡ Ok more → told_from n group before at ≡ total → told_from n group (before ++ more) next ≡ total
  told_step more total read told = sym (ap (λ r. with_found before (r >>= each_numbers n)) is ∙ go (bodies_at 2 group next)) ∙ told
    where
      turn : (s : Result (List ℕ) Why) → with_found before (s >>= λ later. Ok (more ++ later)) ≡ with_found (before ++ more) s
      turn (Ok later) = ap Ok (sym (append_assoc before more later))
      turn (Err why) = refl

      go : (r : Result (List (List ℕ)) Why) → with_found before (with_body b r >>= each_numbers n) ≡ with_found (before ++ more) (r >>= each_numbers n)
      go (Ok bs) = ap (λ s. with_found before (s >>= λ these. each_numbers n bs >>= λ later. Ok (these ++ later))) read ∙ turn (each_numbers n bs)
      go (Err why) = refl

  pub told_stops : (total : Result (List ℕ) Why) → fields_of b >>= numbers n ≡ Err reasons.Wire → told_from n group before at ≡ total → total ≡ Err reasons.Wire
  told_stops total read told = sym told ∙ (ap (λ r. with_found before (r >>= each_numbers n)) is ∙ go (bodies_at 2 group next) (bodies_at-only 2 group next))
    where
      go : (r : Result (List (List ℕ)) Why) → OnlyWire r → with_found before (with_body b r >>= each_numbers n) ≡ Err reasons.Wire
      go (Ok bs) w = ap (λ s. with_found before (s >>= λ these. each_numbers n bs >>= λ later. Ok (these ++ later))) read
      go (Err why) w = ap Err w

pub told_end : (n : ℕ) (group before : List ℕ) (at : ℕ) (total : Result (List ℕ) Why) → bodies_at 2 group at ≡ Ok [] → told_from n group before at ≡ total → total ≡ Ok before
told_end n group before at total none told = sym told ∙ (ap (λ r. with_found before (r >>= each_numbers n)) none ∙ ap Ok (append-nil before))

pub told_refused : (n : ℕ) (group before : List ℕ) (at : ℕ) (total : Result (List ℕ) Why) (why : Why) → bodies_at 2 group at ≡ Err why → told_from n group before at ≡ total → total ≡ Err why
told_refused n group before at total why stop told = sym told ∙ ap (λ r. with_found before (r >>= each_numbers n)) stop

-- what was read of a group so far
pub record Told (group : List ℕ) (before : Four) (at : ℕ) : Type 0 where
  pub ids : told_from 1 group before.0 at ≡ merged_fields_in 2 group >>= numbers 1
  pub lats : told_from 8 group before.1 at ≡ merged_fields_in 2 group >>= numbers 8
  pub lons : told_from 9 group before.2 at ≡ merged_fields_in 2 group >>= numbers 9
  pub pairs : told_from 10 group before.3 at ≡ merged_fields_in 2 group >>= numbers 10

abbrev pub none : Four
none = ([], [], [], [])

pub group_start : (group : List ℕ) → Told group none 0
group_start group = record { ids = told_start 1 group; lats = told_start 8 group; lons = told_start 9 group; pairs = told_start 10 group }

module _ (group : List ℕ) (before : Four) (at : ℕ) (told : Told group before at) where
  pub group_step : (next : ℕ) (b : List ℕ) (more : Four) → bodies_at 2 group at ≡ with_body b (bodies_at 2 group next) → Reads b more → Told group (behind before more) next
  group_step next b more is read = record {
    ids = told_step 1 group before.0 at next b is more.0 _ read.ids told.ids;
    lats = told_step 8 group before.1 at next b is more.1 _ read.lats told.lats;
    lons = told_step 9 group before.2 at next b is more.2 _ read.lons told.lons;
    pairs = told_step 10 group before.3 at next b is more.3 _ read.pairs told.pairs;
  }

  abbrev whole : Result Four Why
  whole = merged_fields_in 2 group >>= four_of

  group_refused : (next : ℕ) (b : List ℕ) → bodies_at 2 group at ≡ with_body b (bodies_at 2 group next) → Refused b → whole ≡ Err reasons.Wire
  group_refused next b is (inl h) =
      four_first (merged_fields_in 2 group) (numbers 1) (numbers 8) (numbers 9) (numbers 10) (numbers-only 1) (numbers-only 8) (numbers-only 9) (told_stops 1 group before.0 at next b is _ h told.ids)
  group_refused next b is (inr (inl h)) =
      four_second (merged_fields_in 2 group) (numbers 1) (numbers 8) (numbers 9) (numbers 10) (numbers-only 1) (numbers-only 8) (numbers-only 9) (told_stops 8 group before.1 at next b is _ h told.lats)
  group_refused next b is (inr (inr (inl h))) =
      four_third (merged_fields_in 2 group) (numbers 1) (numbers 8) (numbers 9) (numbers 10) (numbers-only 1) (numbers-only 8) (numbers-only 9) (told_stops 9 group before.2 at next b is _ h told.lons)
  group_refused next b is (inr (inr (inr h))) =
      four_last (merged_fields_in 2 group) (numbers 1) (numbers 8) (numbers 9) (numbers 10) (numbers-only 1) (numbers-only 8) (numbers-only 9) (told_stops 10 group before.3 at next b is _ h told.pairs)

  -- what `?` hands on where a message is refused
  pub message_stops : (old mid new : Dense) (r : Result ⊤ BlockErr) (e : BlockErr) (next : ℕ) (b : List ℕ) → bodies_at 2 group at ≡ with_body b (bodies_at 2 group next) → IsErrAnd r (λ x. x ≡ e) → NotesFour old mid (Err e) b → AreSummed new r group
  message_stops old mid new (Ok u) e next b is h k = absurd h
  message_stops old mid new (Err x) e next b is h k = subst (λ (y : BlockErr). IsStop y whole) (sym h) (go e k)
    where
      go : (e : BlockErr) → NotesFour old mid (Err e) b → IsStop e whole
      go (faults.Bad why) k = group_refused next b is k.1 ∙ ap Err (sym k.0)
      go faults.Memory k = tt

  -- or the group
  pub group_stops : (new : Dense) (r : Result ⊤ BlockErr) (e : BlockErr) → IsErrAnd r (λ x. x ≡ e) → IsStop e (bodies_at 2 group at) → AreSummed new r group
  group_stops new (Ok u) e h stop = absurd h
  group_stops new (Err x) e h stop = subst (λ (y : BlockErr). IsStop y whole) (sym h) (go e stop)
    where
      go : (e : BlockErr) → IsStop e (bodies_at 2 group at) → IsStop e whole
      go (faults.Bad why) stop =
          let wire : why ≡ reasons.Wire = subst OnlyWire stop (bodies_at-only 2 group at) in
          four_first (merged_fields_in 2 group) (numbers 1) (numbers 8) (numbers 9) (numbers 10) (numbers-only 1) (numbers-only 8) (numbers-only 9)
          (told_refused 1 group before.0 at _ why stop told.ids ∙ ap Err wire) ∙ ap Err (sym wire)
      go faults.Memory stop = tt

  pub group_end : bodies_at 2 group at ≡ Ok [] → whole ≡ Ok before
  group_end nothing =
      four_read (merged_fields_in 2 group) (numbers 1) (numbers 8) (numbers 9) (numbers 10) (numbers-only 1) (numbers-only 8) (numbers-only 9) before.0 before.1 before.2 before.3
      (told_end 1 group before.0 at _ nothing told.ids) (told_end 8 group before.1 at _ nothing told.lats) (told_end 9 group before.2 at _ nothing told.lons) (told_end 10 group before.3 at _ nothing told.pairs)

-- what `?` hands on where a number of a message is refused
pub four_stops : {A : Type 0} (old new : Dense) (r : Result ⊤ BlockErr) (e : BlockErr) (part : Result A Why) (body : List ℕ) → IsErrAnd r (λ x. x ≡ e) → IsStop e part → OnlyWire part → (part ≡ Err reasons.Wire → Refused body) → NotesFour old new r body
four_stops old new (Ok u) e part body h stop only rests = absurd h
four_stops old new (Err x) e part body h stop only rests = subst (λ (y : BlockErr). NotesFour old new (Err y) body) (sym h) (go e stop)
  where
    go : (e : BlockErr) → IsStop e part → NotesFour old new (Err e) body
    go (faults.Bad why) s = let wire : why ≡ reasons.Wire = subst OnlyWire s only in (wire, rests (s ∙ ap Err wire))
    go faults.Memory s = tt

-- or isn't there
pub wire_stops : (old new : Dense) (r : Result ⊤ BlockErr) (e : BlockErr) (body : List ℕ) → IsErrAnd r (λ x. x ≡ e) → e ≡ faults.Bad reasons.Wire → Refused body → NotesFour old new r body
wire_stops old new (Ok u) e body h is refused = absurd h
wire_stops old new (Err x) e body h is refused = subst (λ (y : BlockErr). NotesFour old new (Err y) body) (sym (h ∙ is)) (refl, refused)

-- whether the runs can be read doesn't rest on the ids
runs_same : (strings : List (List ℕ)) (ids pairs : List ℕ) → check_of (dense_tags strings ids pairs) ≡ runs_check strings (length ids) pairs
runs_same strings ids pairs = go (length pairs == 0) (are_runs (length ids) pairs)
  where
    go : (b : Bool) (r : Result (Unit {0}) Why) → check_of (if b then Ok (no_tags_for ids) else r >>= λ _. tag_lists strings (length ids) pairs) ≡ (if b then Ok tt else r >>= λ _. check_of (tag_lists strings (length ids) pairs))
    go true r = refl
    go false (Ok u) = refl
    go false (Err why) = refl

lists_together : (strings : List (List ℕ)) (n : Four) → lists_of strings n.0 n.1 n.2 n.3 ≡ together strings (length n.0) (length n.1) (length n.2) n.3 (sums n.0) (sums n.1) (sums n.2)
lists_together strings n =
    ap (λ r. if (length n.0 == length n.1) && (length n.0 == length n.2) then (r >>= λ _. sums n.0 >>= λ ids. sums n.1 >>= λ lats. sums n.2 >>= λ lons. Ok (ids, lats, lons, n.3)) else Err reasons.Uneven) (runs_same strings n.0 n.3)

lists_checked : (strings : List (List ℕ)) (n : Four) (d : Dense) → Hold n d → lists_of strings n.0 n.1 n.2 n.3 ≡ checked strings d
lists_checked strings n d h =
    lists_together strings n
    ∙ (ap (λ m. together strings m (length n.1) (length n.2) n.3 (sums n.0) (sums n.1) (sums n.2)) (sym h.0.1)
    ∙ (ap (λ m. together strings (length d.ids.items.items) m (length n.2) n.3 (sums n.0) (sums n.1) (sums n.2)) (sym h.1.1)
    ∙ (ap (λ m. together strings (length d.ids.items.items) (length d.lats.items.items) m n.3 (sums n.0) (sums n.1) (sums n.2)) (sym h.2.1)
    ∙ (ap (λ m. together strings (length d.ids.items.items) (length d.lats.items.items) (length d.lons.items.items) m (sums n.0) (sums n.1) (sums n.2)) (sym h.3)
    ∙ (ap (λ m. together strings (length d.ids.items.items) (length d.lats.items.items) (length d.lons.items.items) d.pairs.items m (sums n.1) (sums n.2)) (summed_whole n.0 d.ids h.0)
    ∙ (ap (λ m. together strings (length d.ids.items.items) (length d.lats.items.items) (length d.lons.items.items) d.pairs.items (seen_sums d.ids) m (sums n.2)) (summed_whole n.1 d.lats h.1)
    ∙ ap (λ m. together strings (length d.ids.items.items) (length d.lats.items.items) (length d.lons.items.items) d.pairs.items (seen_sums d.ids) (seen_sums d.lats) m) (summed_whole n.2 d.lons h.2)))))))

abbrev four_at : List ℕ → List ℕ → List ℕ → List ℕ → Result Four Why
four_at ids lats lons pairs = Ok (ids, lats, lons, pairs)

-- the lists of a group
from_four : (strings : List (List ℕ)) (r : Result (List Entry) Why) (n : Four) → r >>= four_of ≡ Ok n → r >>= lists_in strings ≡ lists_of strings n.0 n.1 n.2 n.3
from_four strings (Err why) n h = cc
from_four strings (Ok fields) n h = go (numbers 1 fields) (numbers 8 fields) (numbers 9 fields) (numbers 10 fields) h
  where
    same : (m : Four) → ◌≡◌ {A = Result Four Why} (Ok m) (Ok n) → m ≡ n
    same m k = cc

    go : (a b c d : Result (List ℕ) Why) → (a >>= λ ids. b >>= λ lats. c >>= λ lons. d >>= λ pairs. four_at ids lats lons pairs) ≡ Ok n
        → (a >>= λ ids. b >>= λ lats. c >>= λ lons. d >>= λ pairs. lists_of strings ids lats lons pairs) ≡ lists_of strings n.0 n.1 n.2 n.3
    go (Err why) b c d k = cc
    go (Ok x) (Err why) c d k = cc
    go (Ok x) (Ok y) (Err why) d k = cc
    go (Ok x) (Ok y) (Ok z) (Err why) k = cc
    go (Ok x) (Ok y) (Ok z) (Ok v) k = ap (λ m. lists_of strings m.0 m.1 m.2 m.3) (same (x, y, z, v) k)

pub group_found : (strings : List (List ℕ)) (group : List ℕ) (n : Four) (d : Dense) → merged_fields_in 2 group >>= four_of ≡ Ok n → Hold n d → merged_fields_in 2 group >>= lists_in strings ≡ checked strings d
group_found strings group n d read h = from_four strings (merged_fields_in 2 group) n read ∙ lists_checked strings n d h

refused_so : (strings : List (List ℕ)) (r : Result (List Entry) Why) (why : Why) → r >>= four_of ≡ Err why → r >>= lists_in strings ≡ Err why
refused_so strings (Err w) why h = cc
refused_so strings (Ok fields) why h = go (numbers 1 fields) (numbers 8 fields) (numbers 9 fields) (numbers 10 fields) h
  where
    go : (a b c d : Result (List ℕ) Why) → (a >>= λ ids. b >>= λ lats. c >>= λ lons. d >>= λ pairs. four_at ids lats lons pairs) ≡ Err why
        → (a >>= λ ids. b >>= λ lats. c >>= λ lons. d >>= λ pairs. lists_of strings ids lats lons pairs) ≡ Err why
    go (Err w) b c d k = cc
    go (Ok x) (Err w) c d k = cc
    go (Ok x) (Ok y) (Err w) d k = cc
    go (Ok x) (Ok y) (Ok z) (Err w) k = cc
    go (Ok x) (Ok y) (Ok z) (Ok v) k = cc

pub group_no_lists : (strings : List (List ℕ)) (group : List ℕ) (e : BlockErr) → IsStop e (merged_fields_in 2 group >>= four_of) → IsStop e (merged_fields_in 2 group >>= lists_in strings)
group_no_lists strings group (faults.Bad why) stop = refused_so strings (merged_fields_in 2 group) why stop
group_no_lists strings group faults.Memory stop = tt

-- what was read of a message so far, behind whatever the lists held
abbrev pub Putting : List ℕ → Dense → Dense → ℕ → Type 0
Putting message start now at =
    (more : Four) × (noted with_found some_numbers 1 message more.0 at ≡ fields_of message >>= numbers 1) × (noted with_found some_numbers 8 message more.1 at ≡ fields_of message >>= numbers 8)
    × (noted with_found some_numbers 9 message more.2 at ≡ fields_of message >>= numbers 9) × (noted with_found some_numbers 10 message more.3 at ≡ fields_of message >>= numbers 10)
    × ((before : Four) → Hold before start → Hold (behind before more) now)

same_as_before : (n d : Four) → n ≡ d → (x : Dense) → Hold n x → Hold d x
same_as_before n d e x = subst (λ m. Hold m x) e

after_none : (n : Four) → n ≡ behind n none
after_none n = four_same n.0 (n.0 ++ []) n.1 (n.1 ++ []) n.2 (n.2 ++ []) n.3 (n.3 ++ []) (sym (append-nil n.0)) (sym (append-nil n.1)) (sym (append-nil n.2)) (sym (append-nil n.3))
  where
    four_same : (a b c d e f g h : List ℕ) → a ≡ b → c ≡ d → e ≡ f → g ≡ h → ◌≡◌ {A = Four} (a, c, e, g) (b, d, f, h)
    four_same a b c d e f g h p q r s = rw (p, q, r, s) refl

pub put_start : (message : List ℕ) (now : Dense) → Putting message now now 0
put_start message now = (none, list_start some_numbers 1 message, list_start some_numbers 8 message, list_start some_numbers 9 message, list_start some_numbers 10 message, λ before h. same_as_before before (behind before none) (after_none before) now h)

found_more : (prefix xs : List ℕ) (r : Result (List ℕ) Why) → with_found prefix r ≡ Ok xs → (m : List ℕ) × (r ≡ Ok m) × (xs ≡ prefix ++ m)
found_more prefix xs (Ok m) h = (m, refl, same xs (prefix ++ m) h)
  where
    same : (xs ys : List ℕ) → ◌≡◌ {A = Result (List ℕ) Why} (Ok ys) (Ok xs) → xs ≡ ys
    same xs ys h = cc
found_more prefix xs (Err why) h = cc

module _ (message : List ℕ) (start now : Dense) (at : ℕ) (told : Putting message start now at) (here : at ≤ length message) where
  pub put_none : (w : Wire) → Err w ≡ field_at message at → Refused message
  put_none w is = inl (list_none some_numbers some_numbers-only 1 message at here told.0.0 _ w is told.1)

  pub put_end : Ok None ≡ field_at message at → (u : ⊤) → NotesFour start now (Ok u) message
  put_end is u = (
    told.0,
    record {
      ids = list_end some_numbers some_numbers-only 1 message at here told.0.0 _ is told.1;
      lats = list_end some_numbers some_numbers-only 8 message at here told.0.1 _ is told.2;
      lons = list_end some_numbers some_numbers-only 9 message at here told.0.2 _ is told.3;
      pairs = list_end some_numbers some_numbers-only 10 message at here told.0.3 _ is told.4;
    },
    told.5,
  )

  module _ (f : Field) (is : Ok (Some (entry_of f, f.next)) ≡ field_at message at) where
    pub ids_refused : if_numbered some_numbers 1 (entry_of f) ≡ Err reasons.Wire → Refused message
    ids_refused h = inl (list_refused some_numbers some_numbers-only 1 message at here f is told.0.0 _ h told.1)

    pub lats_refused : if_numbered some_numbers 8 (entry_of f) ≡ Err reasons.Wire → Refused message
    lats_refused h = inr (inl (list_refused some_numbers some_numbers-only 8 message at here f is told.0.1 _ h told.2))

    pub lons_refused : if_numbered some_numbers 9 (entry_of f) ≡ Err reasons.Wire → Refused message
    lons_refused h = inr (inr (inl (list_refused some_numbers some_numbers-only 9 message at here f is told.0.2 _ h told.3)))

    pub pairs_refused : with_found now.pairs.items (if_numbered some_numbers 10 (entry_of f)) ≡ Err reasons.Wire → Refused message
    pairs_refused h = inr (inr (inr (list_refused some_numbers some_numbers-only 10 message at here f is told.0.3 _ (within (if_numbered some_numbers 10 (entry_of f)) h) told.4)))
      where
        within : (r : Result (List ℕ) Why) → with_found now.pairs.items r ≡ Err reasons.Wire → r ≡ Err reasons.Wire
        within (Ok xs) h = cc
        within (Err why) h = cc

    pub put_step : (new : Dense) (u : ⊤) → Notes (λ (n : ℤ). n) now.ids new.ids (Ok u) (if_numbered some_numbers 1 (entry_of f)) → Notes (λ (n : ℤ). n) now.lats new.lats (Ok u) (if_numbered some_numbers 8 (entry_of f))
        → Notes (λ (n : ℤ). n) now.lons new.lons (Ok u) (if_numbered some_numbers 9 (entry_of f)) → with_found now.pairs.items (if_numbered some_numbers 10 (entry_of f)) ≡ Ok new.pairs.items → Putting message start new f.next
    put_step new u ids lats lons pairs =
        let found = found_more now.pairs.items new.pairs.items (if_numbered some_numbers 10 (entry_of f)) pairs in (
          behind told.0 (ids.0, lats.0, lons.0, found.0),
          list_step some_numbers some_numbers-only 1 message at here f is told.0.0 (told.0.0 ++ ids.0) _ (ap (with_found told.0.0) ids.1) told.1,
          list_step some_numbers some_numbers-only 8 message at here f is told.0.1 (told.0.1 ++ lats.0) _ (ap (with_found told.0.1) lats.1) told.2,
          list_step some_numbers some_numbers-only 9 message at here f is told.0.2 (told.0.2 ++ lons.0) _ (ap (with_found told.0.2) lons.1) told.3,
          list_step some_numbers some_numbers-only 10 message at here f is told.0.3 (told.0.3 ++ found.0) _ (ap (with_found told.0.3) found.1) told.4,
          λ before h. let held = told.5 before h in (
            subst (λ m. IsSummed (λ (n : ℤ). n) m new.ids) (append_assoc before.0 told.0.0 ids.0) (ids.2 (before.0 ++ told.0.0) held.0),
            subst (λ m. IsSummed (λ (n : ℤ). n) m new.lats) (append_assoc before.1 told.0.1 lats.0) (lats.2 (before.1 ++ told.0.1) held.1),
            subst (λ m. IsSummed (λ (n : ℤ). n) m new.lons) (append_assoc before.2 told.0.2 lons.0) (lons.2 (before.2 ++ told.0.2) held.2),
            found.2 ∙ (ap (λ xs. xs ++ found.0) held.3 ∙ append_assoc before.3 told.0.3 found.0),
          ),
        )
