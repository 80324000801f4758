-- What a keeper has of the elements that it took.
use Rattle.std.proofs.Common.{◌≡◌, ℕ, suc, ◌+◌, List, [], ◌∷◌, ◌++◌, length, refl, sym, ap, ◌∙◌, arith, append_assoc, append-nil, length-append}
use Rattle.osm_elements.specs.Elements.{Element}
use Rattle.osm_elements.specs.Block.{numbered, as_node, as_way, as_relation}
use Rattle.osm_elements.specs.declared.kept.Keeper.{Keeper}

-- nothing yet
abbrev pub IsEmpty : Keeper → Type 0
IsEmpty k = (k.count ≡ 0) × (k.nodes.items ≡ []) × (k.ways.items ≡ []) × (k.relations.items ≡ [])

-- these elements more, each with its number
abbrev pub Keeps : Keeper → List Element → Keeper → Type 0
Keeps a xs b =
    (b.count ≡ a.count + length xs) × (b.nodes.items ≡ a.nodes.items ++ numbered as_node a.count xs)
    × (b.ways.items ≡ a.ways.items ++ numbered as_way a.count xs) × (b.relations.items ≡ a.relations.items ++ numbered as_relation a.count xs)

numbered-append : {A : Type 0} (kind : ℕ → Element → List A) (index : ℕ) (xs ys : List Element) → numbered kind index (xs ++ ys) ≡ numbered kind index xs ++ numbered kind (index + length xs) ys
numbered-append kind index [] ys = let e : index + 0 ≡ index = omega arith in rw e refl
numbered-append kind index (x ∷ xs) ys =
    let e : index + suc (length xs) ≡ suc index + length xs = omega arith in
    rw e (ap (λ later. kind index x ++ later) (numbered-append kind (suc index) xs ys) ∙ sym (append_assoc (kind index x) (numbered kind (suc index) xs) (numbered kind (suc index + length xs) ys)))

pub keeps_none : (a : Keeper) → Keeps a [] a
keeps_none a = (omega arith, sym (append-nil a.nodes.items), sym (append-nil a.ways.items), sym (append-nil a.relations.items))

grown : {A : Type 0} (kind : ℕ → Element → List A) (old mid new : List A) (count next : ℕ) (some more : List Element) → next ≡ count + length some → mid ≡ old ++ numbered kind count some → new ≡ mid ++ numbered kind next more
    → new ≡ old ++ numbered kind count (some ++ more)
grown kind old mid new count next some more n h k =
    k ∙ (ap (λ m. mid ++ numbered kind m more) n ∙ (ap (λ xs. xs ++ numbered kind (count + length some) more) h
    ∙ (append_assoc old (numbered kind count some) (numbered kind (count + length some) more) ∙ ap (λ xs. old ++ xs) (sym (numbered-append kind count some more)))))

pub keeps_on : (a b c : Keeper) (some more : List Element) → Keeps a some b → Keeps b more c → Keeps a (some ++ more) c
keeps_on a b c some more h k = (
  omega (arith, h.0, k.0, length-append some more),
  grown as_node a.nodes.items b.nodes.items c.nodes.items a.count b.count some more h.0 h.1 k.1,
  grown as_way a.ways.items b.ways.items c.ways.items a.count b.count some more h.0 h.2 k.2,
  grown as_relation a.relations.items b.relations.items c.relations.items a.count b.count some more h.0 h.3 k.3,
)
