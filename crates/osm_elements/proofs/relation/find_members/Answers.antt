use Rattle.std.proofs.Common.{◌≡◌, ◌+◌, drop, get_or, pos, ap, ◌∙◌, Ok, Err, [], ◌∷◌, ◌++◌, arith, rules, FitsSigned, to_z, of_z, w64}
use Rattle.std.proofs.lemmas.Int.{to_z-of_z}
use Rattle.osm_elements.specs.Fields.{with_found}
use Rattle.osm_elements.specs.Elements.{osm_id, members_of}
use Rattle.osm_elements.proofs.Differences.{member_read, member_stops, all_members, member_kind}
use Rattle.osm_elements.proofs.Prefixes.{handed_on}
use Rattle.osm_elements.proofs.relation.find_members.Goals as goal

pub returns-in_err-kind : goal.returns-in_err-kind
returns-in_err-kind c =
    let ids = c.args.ids.now in
    let kinds = c.args.kinds.now in
    let i = c.loop-i.i in
    handed_on _ c.from_residual-in_err-kind.result c.in_err-kind.field-0.0 _ _ c.from_residual-in_err-kind.ensures.1 (c.in_err-kind.ensures {u = tt})
    (λ why stop. member_stops ids kinds i (pos 0) c.loop-i.members.items why _ (omega arith) (omega arith) (member_kind (get_or ids i (pos 0)) (get_or kinds i 0) (Err why) stop) c.loop-i.invariant)

pub loop-i-preserved : goal.loop-i-preserved
loop-i-preserved c =
    let ids = c.args.ids.now in
    let kinds = c.args.kinds.now in
    let i = c.loop-i.i in
    let id = get_or ids i (pos 0) in
    let kind = c.in_ok-kind.kind in
    let fits : FitsSigned w64 id = search rules in
    let same : to_z w64 (of_z w64 id) ≡ id = to_z-of_z w64 id fits in
    ap (λ xs. with_found xs (members_of (drop (i + 1) ids) (drop (i + 1) kinds))) c.in_ok-push.ensures.items
    ∙ (ap (λ n. with_found (c.loop-i.members.items ++ record { kind = kind; id = osm_id n } ∷ []) (members_of (drop (i + 1) ids) (drop (i + 1) kinds))) same
    ∙ member_read ids kinds i (pos 0) c.loop-i.members.items (record { kind = kind; id = osm_id id }) _ (omega arith) (omega arith) (member_kind id (get_or kinds i 0) (Ok kind) (c.in_ok-kind.ensures {u = tt})) c.loop-i.invariant)

pub returns : goal.returns
returns c = all_members c.args.ids.now c.args.kinds.now c.loop-i.i c.loop-i.members.items _ (omega arith) c.loop-i.invariant
