use Rattle.std.proofs.Common.{◌≡◌, map, ap, ◌∙◌, rules, FitsSigned, to_z, of_z, w64}
use Rattle.std.proofs.lemmas.Int.{to_z-of_z}
use Rattle.tb_types.specs.Zigzag.{unzigzag_of}
use Rattle.osm_elements.specs.Granularity.{place}
use Rattle.osm_elements.specs.Elements.{osm_id}
use Rattle.osm_elements.specs.TagRefs.{seen_tags}
use Rattle.osm_elements.proofs.Numbering.{node_given}
use Rattle.osm_elements.specs.Words.{seen_words}
use Rattle.osm_elements.proofs.node.find_node.Goals as goal

pub returns : goal.returns
returns c =
    let id = c.unzigzag-3.result in
    let lat = c.unzigzag.result in
    let lon = c.unzigzag-2.result in
    let same_id : to_z w64 (of_z w64 id) ≡ id = let fits : FitsSigned w64 id = search rules in to_z-of_z w64 id fits in
    let same_lat : to_z w64 (of_z w64 lat) ≡ lat = let fits : FitsSigned w64 lat = search rules in to_z-of_z w64 lat fits in
    let same_lon : to_z w64 (of_z w64 lon) ≡ lon = let fits : FitsSigned w64 lon = search rules in to_z-of_z w64 lon fits in
    let tags = c.in_ok-find_tags.ensures {u = tt} in
    let at = c.place-at.ensures ∙ (ap (λ x. place c.args.granularity x (to_z w64 (of_z w64 lon))) (same_lat ∙ c.unzigzag.ensures) ∙ ap (λ x. place c.args.granularity (unzigzag_of c.in_ok-lat.lat) x) (same_lon ∙ c.unzigzag-2.ensures)) in
    node_given (seen_words c.args.strings.now) c.args.granularity c.args.body.now (c.in_ok-read.read.id, c.read_node.new.numbers.keys.items, c.read_node.new.numbers.values.items, c.in_ok-read.read.lat, c.in_ok-read.read.lon)
    c.in_ok-id.id c.in_ok-lat.lat c.in_ok-lon.lon (seen_tags c.find_tags.new.tags.tags.items) (osm_id (to_z w64 (of_z w64 id))) c.place-at.result (c.in_ok-read.ensures {u = tt}) (c.in_ok-id.ensures {u = tt}) (c.in_ok-lat.ensures {u = tt}) (c.in_ok-lon.ensures {u = tt})
    (rw (c.deref.ensures.value, c.deref-2.ensures.value) at tags) (ap osm_id (same_id ∙ c.unzigzag-3.ensures)) at
