use Rattle.std.proofs.Common.{◌≡◌, ◌+◌, ◌++◌, false, drop, filter_map, slice_index_or, pos, refl, sym, ap, ◌∙◌, arith}
use Rattle.std.specs.List.{cons_option}
use Rattle.std.proofs.lemmas.List.{drop_more}
use Rattle.strip_clip.specs.Cuts.{relative, row}
use Rattle.strip_clip.specs.Cleaning.{clean_paths}
use Rattle.strip_clip.proofs.Paths.{onto}
use Rattle.tile_clip.specs.declared.edge.Edge.{Edge}
use Rattle.tile_clip.specs.Outlines.{edge_part, paths_cut}
use Rattle.tile_clip.proofs.Joining.{moved, joins}
use Rattle.tile_clip.proofs.Within.{part-in-tile}
use Rattle.tile_clip.proofs.piece.paths_cut.Goals as goal
use Rattle.tile_clip.proofs.piece.paths_cut.Goals.{in-Some+in_ok-add_edge, in_default}

abbrev none : Edge
none = record { from = record { x = pos 0; y = pos 0 }; to = record { x = pos 0; y = pos 0 }; last = false }

pub add_edge-requires : goal.add_edge-requires
add_edge-requires c =
    let corner = c.args.window.corner in
    let buffer = c.args.window.buffer in
    let i = c.loop-edge.edge-index in
    let e = slice_index_or c.args.edges.now i none in
    part-in-tile corner buffer e c.in-Some.part (c.requires i none c.loop-edge-test.true) (ap (λ s. edge_part s e) (sym c.row.ensures) ∙ sym c.edge_part.ensures ∙ c.in-Some.is)

pub loop-edge-preserved : goal.loop-edge-preserved
loop-edge-preserved c =
    let corner = c.args.window.corner in
    let buffer = c.args.window.buffer in
    let f = relative corner in
    let s = row corner buffer in
    let edges = c.args.edges.now in
    let whole = paths_cut corner buffer edges in
    let i = c.loop-edge.edge-index in
    let e = slice_index_or edges i none in
    let rest = filter_map (edge_part s) (drop (i + 1) edges) in
    let kept = c.loop-edge.kept in
    let path = c.loop-edge.path.items in
    let step = drop_more edges i none (omega arith) in
    let part = ap (λ t. edge_part t e) (sym c.row.ensures) ∙ sym c.edge_part.ensures in
    let told = ap (λ o. kept ++ clean_paths (onto path (moved f (cons_option o rest)))) (sym part) ∙ ap (λ es. kept ++ clean_paths (onto path (moved f (filter_map (edge_part s) es)))) (sym step) ∙ c.loop-edge.invariant in
    elim c.match-edge_part.branch as (λ _. c.match-edge_part.kept ++ clean_paths (onto c.match-edge_part.path.items (moved f rest)) ≡ whole) [
      | in-Some+in_ok-add_edge w ↦ rw w.kept-is (rw w.path-is (joins f w.in-Some.part rest kept w.add_edge.new.kept whole path w.add_edge.new.path.items w.in-Some.part.last refl w.in_ok-add_edge.ensures.path w.in_ok-add_edge.ensures.kept (ap (λ o. kept ++ clean_paths (onto path (moved f (cons_option o rest)))) (sym w.in-Some.is) ∙ told)))
      | in_default w ↦ rw w.kept-is (rw w.path-is (ap (λ o. kept ++ clean_paths (onto path (moved f (cons_option o rest)))) (sym w.in_default.is) ∙ told))
    ]
