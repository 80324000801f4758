-- Buckets of entries that are put shard by shard.
use Rattle.std.proofs.Common.{◌≡◌, ◌≢◌, ⊎_elim, inl, inr, ℕ, zero, suc, ◌+◌, ◌<◌, ◌==◌, ◌≤◌, ◌&&◌, Bool, true, false, List, [], ◌∷◌, ◌++◌, length, get_or, set, ap, sym, ◌∙◌, refl, subst, arith, append-nil, append_assoc, replicate, if◌then◌else◌}
use Rattle.std.proofs.lemmas.Bool.{cases_eq, eq-eqb, ne_eqb, eqb-true, cases_lt, and_parts}
use Rattle.shard_store.specs.Ids.{shard_number}
use Rattle.shard_store.specs.Join.{Entry}
use Rattle.shard_store.specs.Facts.{IsOfShard, SeatFacts}
use Rattle.shard_store.specs.PutAll.{of_shard, bucket, PutsAll, PutsSome, Moves, AreSorted, OnlyPuts}
use Rattle.shard_store.proofs.Bags.{same_often}
use Rattle.shard_store.proofs.Joins.{by_test}

module _ {V : Type 0} where
  chosen : (t : Bool) (x : Entry V) (all prefix back : List (Entry V)) → all ≡ prefix ++ back → ◌≡◌ {A = List (Entry V)} (if t then x ∷ all else all) ((if t then x ∷ prefix else prefix) ++ back)
  chosen true x all prefix back e = ap (λ l. x ∷ l) e
  chosen false x all prefix back e = e

  pub of_shard-append : (k : ℕ) (xs ys : (List (Entry V))) → of_shard k (xs ++ ys) ≡ of_shard k xs ++ of_shard k ys
  of_shard-append k [] ys = refl
  of_shard-append k (x ∷ xs) ys = chosen (shard_number x.0 == k) x (of_shard k (xs ++ ys)) (of_shard k xs) (of_shard k ys) (of_shard-append k xs ys)

  later_of : (k : ℕ) (x : Entry V) (xs : (List (Entry V))) → IsOfShard k (x ∷ xs) → IsOfShard k xs
  later_of k x xs h j d less = h (suc j) d (omega arith)

  -- entries of one shard
  pub own_shard : (k : ℕ) (xs : (List (Entry V))) → IsOfShard k xs → of_shard k xs ≡ xs
  own_shard k [] h = refl
  own_shard k (x ∷ xs) h =
      ap (λ t. if t then x ∷ of_shard k xs else of_shard k xs) (eq-eqb _ _ (h 0 x (omega arith))) ∙ ap (λ l. x ∷ l) (own_shard k xs (later_of k x xs h))

  pub other_shard : (j k : ℕ) (xs : (List (Entry V))) → IsOfShard k xs → j ≢ k → of_shard j xs ≡ []
  other_shard j k [] h apart = refl
  other_shard j k (x ∷ xs) h apart =
      ap (λ t. if t then x ∷ of_shard j xs else of_shard j xs) (ne_eqb _ _ (λ e. apart (sym e ∙ h 0 x (omega arith)))) ∙ other_shard j k xs (later_of k x xs h) apart

  cons_of : (k : ℕ) (x : Entry V) (xs : (List (Entry V))) → shard_number x.0 ≡ k → IsOfShard k xs → IsOfShard k (x ∷ xs)
  cons_of k x xs e h zero d less = e
  cons_of k x xs e h (suc j) d less = h j d (omega arith)

  pub is_of_shard : (k : ℕ) (xs : (List (Entry V))) → IsOfShard k (of_shard k xs)
  is_of_shard k [] = λ j d less. absurd (omega arith)
  is_of_shard k (x ∷ xs) =
      by_test (shard_number x.0 == k)
      (λ is. subst (λ t. IsOfShard k (if t then x ∷ of_shard k xs else of_shard k xs)) (sym is) (cons_of k x (of_shard k xs) (eqb-true _ _ is) (is_of_shard k xs)))
      (λ not_it. subst (λ t. IsOfShard k (if t then x ∷ of_shard k xs else of_shard k xs)) (sym not_it) (is_of_shard k xs))

  pub nothing_of : (k : ℕ) → IsOfShard {V = V} k []
  nothing_of k j d less = absurd (omega arith)

  -- nothing was put
  pub moves_nothing : (before after : List (List (Entry V))) (old new : (List (Entry V))) → new ≡ old → ((k : ℕ) → bucket k after ≡ bucket k before) → Moves before after old new
  moves_nothing before after old new same kept = record { added = []; behind = same ∙ sym (append-nil old); each = λ k. inl (refl, kept k) }

  -- one bucket was put
  pub moves_one : (before after : List (List (Entry V))) (old new : (List (Entry V))) (k : ℕ) → IsOfShard k (bucket k before) → new ≡ old ++ bucket k before → bucket k after ≡ [] → ((j : ℕ) → j ≢ k → bucket j after ≡ bucket j before)
      → Moves before after old new
  moves_one before after old new k sorted behind emptied others = record {
    added = bucket k before;
    behind = behind;
    each = λ j.
        ⊎_elim
        (λ (same : j ≡ k). inr (ap (λ i. of_shard i (bucket k before)) same ∙ own_shard k (bucket k before) sorted ∙ ap (λ i. bucket i before) (sym same), ap (λ i. bucket i after) same ∙ emptied))
        (λ (apart : j ≢ k). inl (other_shard j k (bucket k before) sorted apart, others j apart))
        (cases_eq j k);
  }

  pub moves_on : (a b c : List (List (Entry V))) (p q r : (List (Entry V))) → Moves a b p q → Moves b c q r → Moves a c p r
  moves_on a b c p q r one two = record {
    added = one.added ++ two.added;
    behind = two.behind ∙ ap (λ l. l ++ two.added) one.behind ∙ append_assoc p one.added two.added;
    each = λ k.
        let parts = of_shard-append k one.added two.added in
        ⊎_elim
        (λ (x : (of_shard k one.added ≡ []) × (bucket k b ≡ bucket k a)).
        let none_first : of_shard k (one.added ++ two.added) ≡ of_shard k two.added = parts ∙ ap (λ l. l ++ of_shard k two.added) x.0 in
        ⊎_elim
        (λ (y : (of_shard k two.added ≡ []) × (bucket k c ≡ bucket k b)). inl (none_first ∙ y.0, y.1 ∙ x.1))
        (λ (y : (of_shard k two.added ≡ bucket k b) × (bucket k c ≡ [])). inr (none_first ∙ y.0 ∙ x.1, y.1))
        (two.each k))
        (λ (x : (of_shard k one.added ≡ bucket k a) × (bucket k b ≡ [])).
        ⊎_elim
        (λ (y : (of_shard k two.added ≡ []) × (bucket k c ≡ bucket k b)).
        inr (parts ∙ ap (λ l. of_shard k one.added ++ l) y.0 ∙ append-nil (of_shard k one.added) ∙ x.0, y.1 ∙ x.1))
        (λ (y : (of_shard k two.added ≡ bucket k b) × (bucket k c ≡ [])).
        inr (parts ∙ ap (λ l. of_shard k one.added ++ l) (y.0 ∙ x.1) ∙ append-nil (of_shard k one.added) ∙ x.0, y.1))
        (two.each k))
        (one.each k);
  }

  pub moved_sorted : (a b : List (List (Entry V))) (p q : (List (Entry V))) → Moves a b p q → AreSorted a → AreSorted b
  moved_sorted a b p q moves h k =
      ⊎_elim
      (λ (x : (of_shard k moves.added ≡ []) × (bucket k b ≡ bucket k a)). subst (IsOfShard k) (sym x.1) (h k))
      (λ (x : (of_shard k moves.added ≡ bucket k a) × (bucket k b ≡ [])). subst (IsOfShard k) (sym x.1) (nothing_of k))
      (moves.each k)

  -- at the end all buckets are empty
  pub puts_all : (entries : (List (Entry V))) (a b : List (List (Entry V))) (p q : (List (Entry V))) → ((k : ℕ) → bucket k a ≡ of_shard k entries) → Moves a b p q → ((k : ℕ) → bucket k b ≡ []) → PutsAll p q entries
  puts_all entries a b p q filled moves emptied =
      let each : (k : ℕ) → of_shard k moves.added ≡ of_shard k entries = λ k.
      ⊎_elim
      (λ (x : (of_shard k moves.added ≡ []) × (bucket k b ≡ bucket k a)). x.0 ∙ sym (emptied k) ∙ x.1 ∙ filled k)
      (λ (x : (of_shard k moves.added ≡ bucket k a) × (bucket k b ≡ [])). x.0 ∙ filled k)
      (moves.each k) in
      record { added = moves.added; behind = moves.behind; each = each; often = same_often moves.added entries each }

  pub puts_some : (entries : (List (Entry V))) (a b : List (List (Entry V))) (p q : (List (Entry V))) → ((k : ℕ) → bucket k a ≡ of_shard k entries) → Moves a b p q → PutsSome p q entries
  puts_some entries a b p q filled moves = record {
    added = moves.added;
    behind = moves.behind;
    each = λ k.
        ⊎_elim
        (λ (x : (of_shard k moves.added ≡ []) × (bucket k b ≡ bucket k a)). inl x.0)
        (λ (x : (of_shard k moves.added ≡ bucket k a) × (bucket k b ≡ [])). inr (x.0 ∙ filled k))
        (moves.each k);
  }

  pub puts_none : (entries p : (List (Entry V))) → PutsSome p p entries
  puts_none entries p = record { added = []; behind = sym (append-nil p); each = λ k. inl refl }

  -- one more entry in its bucket
  bucket_set : (buckets : List (List (Entry V))) (i k : ℕ) (x : (List (Entry V))) → i < length buckets → bucket k (set buckets i x) ≡ (if i == k then x else bucket k buckets)
  bucket_set [] i k x inside = absurd (omega arith)
  bucket_set (b ∷ bs) zero zero x inside = refl
  bucket_set (b ∷ bs) zero (suc k) x inside = sym (ap (λ t. if t then x else bucket k bs) (ne_eqb 0 (suc k) (λ e. omega (arith, e))))
  bucket_set (b ∷ bs) (suc i) zero x inside = sym (ap (λ t. if t then x else b) (ne_eqb (suc i) 0 (λ e. omega (arith, e))))
  bucket_set (b ∷ bs) (suc i) (suc k) x inside =
      bucket_set bs i k x (omega arith)
      ∙ ⊎_elim
      (λ (same : i ≡ k). ap (λ t. if t then x else bucket k bs) (eq-eqb i k same) ∙ sym (ap (λ t. if t then x else bucket k bs) (eq-eqb (suc i) (suc k) (ap suc same))))
      (λ (apart : i ≢ k). ap (λ t. if t then x else bucket k bs) (ne_eqb i k apart) ∙ sym (ap (λ t. if t then x else bucket k bs) (ne_eqb (suc i) (suc k) (λ e. apart (omega (arith, e))))))
      (cases_eq i k)

  pub bucket_same : (buckets : List (List (Entry V))) (i : ℕ) (x : (List (Entry V))) → i < length buckets → bucket i (set buckets i x) ≡ x
  bucket_same buckets i x inside = bucket_set buckets i i x inside ∙ ap (λ t. if t then x else bucket i buckets) (eq-eqb i i refl)

  pub bucket_other : (buckets : List (List (Entry V))) (i k : ℕ) (x : (List (Entry V))) → i < length buckets → k ≢ i → bucket k (set buckets i x) ≡ bucket k buckets
  bucket_other buckets i k x inside apart = bucket_set buckets i k x inside ∙ ap (λ t. if t then x else bucket k buckets) (ne_eqb i k (λ e. apart (sym e)))

  pub one_more : (buckets : List (List (Entry V))) (seen : (List (Entry V))) (entry : Entry V) (i : ℕ) (d : (List (Entry V))) → i ≡ shard_number entry.0 → i < length buckets → ((k : ℕ) → bucket k buckets ≡ of_shard k seen)
      → (k : ℕ) → bucket k (set buckets i (get_or buckets i d ++ entry ∷ [])) ≡ of_shard k (seen ++ entry ∷ [])
  one_more buckets seen entry i d is inside filled k =
      let read : get_or buckets i d ≡ bucket i buckets = any_default buckets i d inside in
      ⊎_elim
      (λ (same : i ≡ k).
      let here : shard_number entry.0 ≡ k = sym is ∙ same in
      bucket_set buckets i k (get_or buckets i d ++ entry ∷ []) inside ∙ ap (λ t. if t then get_or buckets i d ++ entry ∷ [] else bucket k buckets) (eq-eqb i k same)
      ∙ ap (λ l. l ++ entry ∷ []) (read ∙ ap (λ j. bucket j buckets) same ∙ filled k)
      ∙ ap (λ t. of_shard k seen ++ (if t then entry ∷ [] else [])) (sym (eq-eqb _ _ here)) ∙ sym (of_shard-append k seen (entry ∷ [])))
      (λ (apart : i ≢ k).
      let elsewhere : shard_number entry.0 ≢ k = λ e. apart (is ∙ e) in
      bucket_set buckets i k (get_or buckets i d ++ entry ∷ []) inside ∙ ap (λ t. if t then get_or buckets i d ++ entry ∷ [] else bucket k buckets) (ne_eqb i k apart)
      ∙ filled k ∙ sym (append-nil (of_shard k seen))
      ∙ ap (λ t. of_shard k seen ++ (if t then entry ∷ [] else [])) (sym (ne_eqb _ _ elsewhere)) ∙ sym (of_shard-append k seen (entry ∷ [])))
      (cases_eq i k)
    where
      any_default : (bs : List (List (Entry V))) (j : ℕ) (z : (List (Entry V))) → j < length bs → get_or bs j z ≡ get_or bs j []
      any_default [] j z less = absurd (omega arith)
      any_default (b ∷ bs) zero z less = refl
      any_default (b ∷ bs) (suc j) z less = any_default bs j z (omega arith)

  -- at the start all buckets are empty
  pub none_yet : (n k : ℕ) → bucket {V = V} k (replicate n []) ≡ []
  none_yet zero k = refl
  none_yet (suc n) zero = refl
  none_yet (suc n) (suc k) = none_yet n k

  -- what was read at the place of a shard is its bucket
  pub bucket_read : (buckets : List (List (Entry V))) (i : ℕ) (x : List (Entry V)) → i < length buckets → x ≡ get_or buckets i x → x ≡ bucket i buckets
  bucket_read [] i x inside e = absurd (omega arith)
  bucket_read (b ∷ bs) zero x inside e = e
  bucket_read (b ∷ bs) (suc i) x inside e = bucket_read bs i x (omega arith) e

  -- one bucket more is empty
  pub emptied_on : (all emptied result : Bool) (before after : List (List (Entry V))) (shard : ℕ) → result ≡ (all && emptied) → (all ≡ true → (k : ℕ) → k < shard → bucket k before ≡ []) → (emptied ≡ true → bucket shard after ≡ [])
      → ((k : ℕ) → k ≢ shard → bucket k after ≡ bucket k before) → result ≡ true → (k : ℕ) → k < shard + 1 → bucket k after ≡ []
  emptied_on all emptied result before after shard is earlier here others e k below =
      let parts = and_parts all emptied (sym is ∙ e) in
      ⊎_elim
      (λ (same : k ≡ shard). ap (λ j. bucket j after) same ∙ here parts.1)
      (λ (apart : k ≢ shard). others k apart ∙ earlier parts.0 k (omega arith))
      (cases_eq k shard)

  past_all : (buckets : List (List (Entry V))) (k : ℕ) → length buckets ≤ k → bucket k buckets ≡ []
  past_all [] k past = refl
  past_all (b ∷ bs) zero past = absurd (omega arith)
  past_all (b ∷ bs) (suc k) past = past_all bs k (omega arith)

  pub all_empty : (buckets : List (List (Entry V))) → length buckets ≡ 64 → ((k : ℕ) → k < 64 → bucket k buckets ≡ []) → (k : ℕ) → bucket k buckets ≡ []
  all_empty buckets count h k = ⊎_elim (λ (below : k < 64). h k below) (λ (past : 64 ≤ k). past_all buckets k (omega arith)) (cases_lt k 64)

  pub only_on : (a b c : SeatFacts V) → OnlyPuts a b → OnlyPuts b c → OnlyPuts a c
  only_on a b c e f = f ∙ ap (λ (s : SeatFacts V). record s { found_taken = c.found_taken; puts = c.puts }) e
