-- The needs of blocks, one by one.
use Rattle.std.proofs.Common.{◌≡◌, ℕ, ◌+◌, ◌<◌, true, false, cond, List, [], ◌∷◌, ◌++◌, length, take, get_or, map, filter, sym, ap, ◌∙◌, arith}
use Rattle.std.specs.Prelude.{max}
use Rattle.std.proofs.lemmas.List.{take_more, append-nil, map-append}
use Rattle.std.proofs.lemmas.List.Elements.{filter-append}
use Rattle.tb_types.specs.Needs.{block_need}
use Rattle.pbf_blobs.specs.declared.block.BlockAt.{BlockAt}
use Rattle.tile_model.specs.Needs.{largest, is_read, block_needs}

largest-last : (ns : List ℕ) (n : ℕ) → largest (ns ++ n ∷ []) ≡ max (largest ns) n
largest-last [] n = omega arith
largest-last (m ∷ ns) n = let rest = largest-last ns n in omega (arith, rest)

last-block : (blocks : List BlockAt) (i : ℕ) (d : BlockAt) → i < length blocks
    → block_needs (take (i + 1) blocks) ≡ block_needs (take i blocks) ++ map (λ (b : BlockAt). block_need b.len) (cond (is_read (get_or blocks i d).kind) (get_or blocks i d ∷ []) [])
last-block blocks i d more =
    ap block_needs (take_more blocks i d more)
    ∙ (ap (map (λ (b : BlockAt). block_need b.len)) (filter-append (λ (b : BlockAt). is_read b.kind) (take i blocks) (get_or blocks i d ∷ []))
    ∙ map-append (λ (b : BlockAt). block_need b.len) (filter (λ (b : BlockAt). is_read b.kind) (take i blocks)) (cond (is_read (get_or blocks i d).kind) (get_or blocks i d ∷ []) []))

-- one more that is read, and one that isn't
pub larger-next : (blocks : List BlockAt) (i most new : ℕ) (d : BlockAt) → i < length blocks → is_read (get_or blocks i d).kind ≡ true → most ≡ largest (block_needs (take i blocks)) → new ≡ max most (block_need (get_or blocks i d).len)
    → new ≡ largest (block_needs (take (i + 1) blocks))
larger-next blocks i most new d more read is next =
    next ∙ (ap (λ m. max m (block_need (get_or blocks i d).len)) is ∙ (sym (largest-last (block_needs (take i blocks)) (block_need (get_or blocks i d).len))
    ∙ ap largest (sym (last-block blocks i d more ∙ ap (λ b. block_needs (take i blocks) ++ map (λ (x : BlockAt). block_need x.len) (cond b (get_or blocks i d ∷ []) [])) read))))

pub same-next : (blocks : List BlockAt) (i most : ℕ) (d : BlockAt) → i < length blocks → is_read (get_or blocks i d).kind ≡ false → most ≡ largest (block_needs (take i blocks)) → most ≡ largest (block_needs (take (i + 1) blocks))
same-next blocks i most d more read is =
    is ∙ ap largest (sym (last-block blocks i d more ∙ (ap (λ b. block_needs (take i blocks) ++ map (λ (x : BlockAt). block_need x.len) (cond b (get_or blocks i d ∷ []) [])) read ∙ append-nil (block_needs (take i blocks)))))
