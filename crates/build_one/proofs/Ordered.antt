-- The orders of the passes behind the survey, and what these load.
use Rattle.std.proofs.Common.{◌≡◌, ℕ, List, sym, ap, subst, ◌∙◌}
use Rattle.tb_outside.specs.Source.{SourceSeen}
use Rattle.pbf_blobs.specs.declared.block.BlockAt.{BlockAt}
use Rattle.pass_order.specs.declared.order.Order.{Order}
use Rattle.pass_order.specs.declared.order.Order.TheVariants as orders
use Rattle.pass_order.specs.Orders.{MayPass, next_order}
use Rattle.tile_model.specs.Loads.{Logs}
use Rattle.block_pass.specs.Orders.{needs_of}
use Rattle.block_pass.proofs.Logs.{logs-on}
use Rattle.pass_survey.specs.declared.found.Found.{Found}
use Rattle.build_one.specs.Made.{loads_in, loads_behind, nodes_order, ways_order}

still-may : (order : Order) (ns needs : List ℕ) → MayPass order needs → MayPass (next_order order ns) needs
still-may orders.InFile ns needs h = h
still-may (orders.Drawn d) ns needs h = record { few_units = h.few_units; fit = h.fit; some_lane = h.some_lane; few_lanes = h.few_lanes; some_place = h.some_place; few_places = h.few_places }

-- the next pass may be done in the order that goes on
pub may-go-on : (order next : Order) (ns : List ℕ) (blocks same : List BlockAt) → next ≡ next_order order ns → same ≡ blocks → MayPass order (needs_of blocks) → MayPass next (needs_of same)
may-go-on order next ns blocks same is e h = subst (λ (o : Order). MayPass o (needs_of same)) (sym is) (subst (λ (bs : List BlockAt). MayPass (next_order order ns) (needs_of bs)) (sym e) (still-may order ns (needs_of blocks) h))

pub gathered-loads : (order one two : Order) (found : Found) (r0 r1 r2 r3 : SourceSeen) (bs cs ds : List BlockAt) → bs ≡ found.ways.items → cs ≡ found.nodes.items → ds ≡ found.ways.items → one ≡ next_order order (needs_of bs) → two ≡ next_order one (needs_of cs)
    → Logs r0 r1 (loads_in order bs) → Logs r1 r2 (loads_in one cs) → Logs r2 r3 (loads_in two ds) → Logs r0 r3 (loads_behind order found)
gathered-loads order one two found r0 r1 r2 r3 bs cs ds b c d o t h k l =
    let one-is : one ≡ nodes_order order found = o ∙ ap (λ (xs : List BlockAt). next_order order (needs_of xs)) b in
    let two-is : two ≡ ways_order order found = t ∙ (λ i. next_order (one-is i) (needs_of (c i))) in
    logs-on r0 r1 r3 (loads_in order found.ways.items) _ (subst (λ (xs : List BlockAt). Logs r0 r1 (loads_in order xs)) b h)
    (logs-on r1 r2 r3 (loads_in (nodes_order order found) found.nodes.items) (loads_in (ways_order order found) found.ways.items) (subst (Logs r1 r2) (λ i. loads_in (one-is i) (c i)) k) (subst (Logs r2 r3) (λ i. loads_in (two-is i) (d i)) l))
