-- Keys are ordered by their parts, and as the numbers that are made of them.
use Rattle.std.proofs.Common.{◌≡◌, ℕ, ◌+◌, ◌*◌, ◌^◌, ◌<◌, ℤ, pos, negsuc, inl, inr, refl, sym, ap, ◌∙◌, arith}
use Rattle.std.proofs.lemmas.Bool.{cases_lt}
use Rattle.std.proofs.lemmas.Bool.Decides.{nat_tests}
use Rattle.std.proofs.lemmas.Cmp.{on_total, then_total, nat_cmp_total, int_cmp_total, ranked, int_ranked}
use Rattle.std.specs.Cmp.{IsTotalOrder}
use Rattle.std.specs.Ordering.{nat_cmp, int_cmp, ordering_then}
use Rattle.std.specs.declared.cmp.Ordering.{Ordering}
use Rattle.std.specs.declared.cmp.Ordering.TheVariants.{Less, Equal, Greater}
use Rattle.tb_types.specs.declared.element.Kind.{Kind}
use Rattle.tb_types.specs.declared.element.Kind.TheVariants.{Node, Way, Relation}
use Rattle.tb_types.specs.contracts.element.KindOrd.TheImpl as kinds
use Rattle.tb_types.specs.Orders.{place_order}
use Rattle.mvt_codec.specs.declared.item.ItemKey.{ItemKey}
use Rattle.mvt_codec.specs.Order.{key_cmp, kind_number, order_number, rank_of, FitsOrder, FitsKey, KeyLaws}

-- kinds are ordered by their numbers
kinds_ordered : (a b : Kind) → kinds.ghosts.cmp a b ≡ nat_cmp (kind_number a) (kind_number b)
kinds_ordered Node Node = refl
kinds_ordered Node Way = refl
kinds_ordered Node Relation = refl
kinds_ordered Way Node = refl
kinds_ordered Way Way = refl
kinds_ordered Way Relation = refl
kinds_ordered Relation Node = refl
kinds_ordered Relation Way = refl
kinds_ordered Relation Relation = refl

-- the order of keys, where kinds have this order
abbrev with_kinds : ItemKey → ItemKey → Ordering → Ordering
with_kinds a b o =
    ordering_then (nat_cmp a.tile b.tile)
    (ordering_then (nat_cmp a.layer b.layer) (ordering_then (int_cmp a.order b.order) (ordering_then o (ordering_then (place_order a.place b.place) (nat_cmp a.rule b.rule)))))

pub by_kinds : (a b : ItemKey) (o : Ordering) → o ≡ with_kinds a b (kinds.ghosts.cmp a.kind b.kind) → o ≡ key_cmp a b
by_kinds a b o e = e ∙ ap (with_kinds a b) (kinds_ordered a.kind b.kind)

total : IsTotalOrder key_cmp
total =
    then_total (on_total (λ (k : ItemKey). k.tile) nat_cmp_total)
    (then_total (on_total (λ (k : ItemKey). k.layer) nat_cmp_total)
    (then_total (on_total (λ (k : ItemKey). k.order) int_cmp_total)
    (then_total (on_total (λ (k : ItemKey). kind_number k.kind) nat_cmp_total)
    (then_total (then_total (on_total (λ (k : ItemKey). k.place.block) nat_cmp_total) (on_total (λ (k : ItemKey). k.place.index) nat_cmp_total))
    (on_total (λ (k : ItemKey). k.rule) nat_cmp_total)))))

-- what stands level stands level in each part
parts : (o p : Ordering) → ordering_then o p ≡ Equal → (o ≡ Equal) × (p ≡ Equal)
parts Less p e = (e, absurd (cc))
parts Equal p e = (refl, e)
parts Greater p e = (e, absurd (cc))

same_number : (m n : ℕ) → nat_cmp m n ≡ Equal → m ≡ n
same_number m n e = ranked m n Equal (sym e)

same_order : (y z : ℤ) → int_cmp y z ≡ Equal → y ≡ z
same_order y z e = int_ranked y z Equal (sym e)

same_kind : (a b : Kind) → kind_number a ≡ kind_number b → a ≡ b
same_kind Node Node e = refl
same_kind Node Way e = absurd (omega arith)
same_kind Node Relation e = absurd (omega arith)
same_kind Way Node e = absurd (omega arith)
same_kind Way Way e = refl
same_kind Way Relation e = absurd (omega arith)
same_kind Relation Node e = absurd (omega arith)
same_kind Relation Way e = absurd (omega arith)
same_kind Relation Relation e = refl

level : (a b : ItemKey) → key_cmp a b ≡ Equal → a ≡ b
level a b e =
    let by_tile = parts (nat_cmp a.tile b.tile) _ e in
    let by_layer = parts (nat_cmp a.layer b.layer) _ by_tile.1 in
    let by_order = parts (int_cmp a.order b.order) _ by_layer.1 in
    let by_kind = parts (nat_cmp (kind_number a.kind) (kind_number b.kind)) _ by_order.1 in
    let by_place = parts (place_order a.place b.place) (nat_cmp a.rule b.rule) by_kind.1 in
    let in_place = parts (nat_cmp a.place.block b.place.block) (nat_cmp a.place.index b.place.index) by_place.0 in
    let tile = same_number a.tile b.tile by_tile.0 in
    let layer = same_number a.layer b.layer by_layer.0 in
    let order = same_order a.order b.order by_order.0 in
    let kind = same_kind a.kind b.kind (same_number _ _ by_kind.0) in
    let block = same_number a.place.block b.place.block in_place.0 in
    let index = same_number a.place.index b.place.index in_place.1 in
    let rule = same_number a.rule b.rule by_place.1 in
    λ i. record { tile = tile i; layer = layer i; order = order i; kind = kind i; place = record { block = block i; index = index i }; rule = rule i }

less : (m n : ℕ) → m < n → nat_cmp m n ≡ Less
less m n h = grind (arith, nat_tests)

more : (m n : ℕ) → n < m → nat_cmp m n ≡ Greater
more m n h = grind (arith, nat_tests)

-- two numbers whose first part decides, and else what follows it
first : (m n a b : ℕ) (o : Ordering) → (a < b → m < n) → (b < a → n < m) → (a ≡ b → nat_cmp m n ≡ o) → nat_cmp m n ≡ ordering_then (nat_cmp a b) o
first m n a b o up down same =
    elim (cases_lt a b) [
      | inl lt ↦ less m n (up lt) ∙ sym (ap (λ x. ordering_then x o) (less a b lt))
      | inr le ↦
          elim (cases_lt b a) [
            | inl gt ↦ more m n (down gt) ∙ sym (ap (λ x. ordering_then x o) (more a b gt))
            | inr ge ↦ let e : a ≡ b = omega (arith, le, ge) in same e ∙ sym (ap (λ x. ordering_then x o) (level_numbers a b e))
          ]
    ]
  where
    level_numbers : (a b : ℕ) → a ≡ b → nat_cmp a b ≡ Equal
    level_numbers a b e = grind (arith, nat_tests)

order_small : (z : ℤ) → FitsOrder z → order_number z < 65536
order_small (pos n) is = omega (arith, is)
order_small (negsuc n) is = omega arith

kind_small : (k : Kind) → kind_number k < 256
kind_small Node = omega arith
kind_small Way = omega arith
kind_small Relation = omega arith

-- orders are ordered as their numbers are
orders : (y z : ℤ) → FitsOrder y → FitsOrder z → int_cmp y z ≡ nat_cmp (order_number y) (order_number z)
orders (pos m) (pos n) hm hn = elim (cases_lt m n) [ inl lt ↦ grind (arith, nat_tests) | inr ge ↦ elim (cases_lt n m) [ inl gt ↦ grind (arith, nat_tests) | inr le ↦ grind (arith, nat_tests) ] ]
orders (pos m) (negsuc n) hm hn = sym (more (order_number (pos m)) (order_number (negsuc n)) (omega (arith, hn)))
orders (negsuc m) (pos n) hm hn = sym (less (order_number (negsuc m)) (order_number (pos n)) (omega (arith, hm)))
orders (negsuc m) (negsuc n) hm hn = elim (cases_lt m n) [ inl lt ↦ grind (arith, nat_tests) | inr ge ↦ elim (cases_lt n m) [ inl gt ↦ grind (arith, nat_tests) | inr le ↦ grind (arith, nat_tests) ] ]

-- seven numbers as one, each with so many bits
abbrev seven : ℕ → ℕ → ℕ → ℕ → ℕ → ℕ → ℕ → ℕ
seven t l o k b i r = (t * 2 ^ 64 + ((l * 65536 + o) * 2 ^ 40 + (k * 2 ^ 32 + b))) * 2 ^ 48 + (i * 65536 + r)

module _ (t l o k b i r t' l' o' k' b' i' r' : ℕ) (low : l < 256) (oo : o < 65536) (kk : k < 256) (bb : b < 2 ^ 32) (ii : i < 2 ^ 32) (rr : r < 65536)
    (low' : l' < 256) (oo' : o' < 65536) (kk' : k' < 256) (bb' : b' < 2 ^ 32) (ii' : i' < 2 ^ 32) (rr' : r' < 65536) where
  abbrev m : ℕ
  m = seven t l o k b i r

  abbrev n : ℕ
  n = seven t' l' o' k' b' i' r'

  by_parts : nat_cmp m n
      ≡ ordering_then (nat_cmp t t') (ordering_then (nat_cmp l l') (ordering_then (nat_cmp o o') (ordering_then (nat_cmp k k') (ordering_then (nat_cmp b b') (ordering_then (nat_cmp i i') (nat_cmp r r'))))))
  by_parts =
      first m n t t' _ (λ h. omega arith) (λ h. omega arith) (λ e.
      first m n l l' _ (λ h. omega arith) (λ h. omega arith) (λ e1.
      first m n o o' _ (λ h. omega arith) (λ h. omega arith) (λ e2.
      first m n k k' _ (λ h. omega arith) (λ h. omega arith) (λ e3.
      first m n b b' _ (λ h. omega arith) (λ h. omega arith) (λ e4.
      first m n i i' _ (λ h. omega arith) (λ h. omega arith) (λ e5.
      elim (cases_lt r r') [
        | inl lt ↦ less m n (omega arith) ∙ sym (less r r' lt)
        | inr le ↦ elim (cases_lt r' r) [ inl gt ↦ more m n (omega arith) ∙ sym (more r r' gt) | inr ge ↦ let e6 : r ≡ r' = omega (arith, le, ge) in level_both m n r r' (omega arith) e6 ]
      ]))))))
    where
      level_both : (m n r r' : ℕ) → m ≡ n → r ≡ r' → nat_cmp m n ≡ nat_cmp r r'
      level_both m n r r' e d = grind (arith, nat_tests)

-- brackets of a chain of orders
grouped : (o p q : Ordering) → ordering_then (ordering_then o p) q ≡ ordering_then o (ordering_then p q)
grouped Less p q = refl
grouped Equal p q = refl
grouped Greater p q = refl

ranks : (a b : ItemKey) → FitsKey a → FitsKey b → key_cmp a b ≡ nat_cmp (rank_of a) (rank_of b)
ranks a b fa fb =
    let by_order = orders a.order b.order fa.order fb.order in
    let by_place = grouped (nat_cmp a.place.block b.place.block) (nat_cmp a.place.index b.place.index) (nat_cmp a.rule b.rule) in
    let by_numbers = by_parts a.tile a.layer (order_number a.order) (kind_number a.kind) a.place.block a.place.index a.rule
    b.tile b.layer (order_number b.order) (kind_number b.kind) b.place.block b.place.index b.rule
    fa.layer (order_small a.order fa.order) (kind_small a.kind) fa.block fa.index fa.rule fb.layer (order_small b.order fb.order) (kind_small b.kind) fb.block fb.index fb.rule in
    ap (λ o. ordering_then (nat_cmp a.tile b.tile) (ordering_then (nat_cmp a.layer b.layer) (ordering_then o (ordering_then (nat_cmp (kind_number a.kind) (kind_number b.kind)) (ordering_then (place_order a.place b.place) (nat_cmp a.rule b.rule)))))) by_order
    ∙ ap (λ o. ordering_then (nat_cmp a.tile b.tile) (ordering_then (nat_cmp a.layer b.layer) (ordering_then (nat_cmp (order_number a.order) (order_number b.order)) (ordering_then (nat_cmp (kind_number a.kind) (kind_number b.kind)) o)))) by_place
    ∙ sym by_numbers

pub key_laws : KeyLaws
key_laws = record { total = total; level = level; ranks = ranks }
