use Rattle.std.proofs.Common.{◌≡◌, Ok, [], ◌∷◌, subst, ap, ◌∙◌, rules, FitsSigned, to_z, of_z, w64}
use Rattle.std.proofs.lemmas.Int.{to_z-of_z}
use Rattle.osm_elements.specs.Granularity.{place}
use Rattle.osm_elements.specs.Elements.{osm_id}
use Rattle.osm_elements.specs.TagRefs.{seen_tags}
use Rattle.osm_elements.specs.SoFar.{Adds}
use Rattle.osm_elements.proofs.DenseNodes.{place_read}
use Rattle.osm_elements.proofs.group.give_place.Goals as goal

pub returns : goal.returns
returns g c =
    let id = c.index-3.result.now in
    let lat = c.index.result.now in
    let lon = c.index-2.result.now in
    let same_id : to_z w64 (of_z w64 id) ≡ id = let fits : FitsSigned w64 id = search rules in to_z-of_z w64 id fits in
    let same_lat : to_z w64 (of_z w64 lat) ≡ lat = let fits : FitsSigned w64 lat = search rules in to_z-of_z w64 lat fits in
    let same_lon : to_z w64 (of_z w64 lon) ≡ lon = let fits : FitsSigned w64 lon = search rules in to_z-of_z w64 lon fits in
    let at = c.place-at.ensures ∙ (ap (λ x. place c.args.granularity x (to_z w64 (of_z w64 lon))) same_lat ∙ ap (λ x. place c.args.granularity lat x) same_lon) in
    subst (λ x. Adds g.T.ElementTaker.steps g.T.ElementTaker.stops (c.args.taker.now, c.args.why) (c.give.new.taker, c.args.why) c.give.result (Ok (x ∷ [])))
    (place_read c.args.granularity c.args.lists.now c.args.i id lat lon (osm_id (to_z w64 (of_z w64 id))) c.place-at.result (seen_tags c.args.tags.now) c.requires.ids c.requires.lats c.requires.lons c.index-3.ensures c.index.ensures c.index-2.ensures (ap osm_id same_id) at)
    c.give.ensures
