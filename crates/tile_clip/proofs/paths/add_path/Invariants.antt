use Rattle.std.proofs.Common.{◌≡◌, ◌+◌, ◌∷◌, ◌++◌, drop, length}
use Rattle.tile_clip.specs.Outlines.{path_edges}
use Rattle.tile_clip.proofs.paths.add_path.Given as goal

-- the edges so far and those that are left are the whole
abbrev pub invariant-loop-q : goal.invariant-loop-q
invariant-loop-q l = record {
  told : l.edges ++ path_edges (l.p ∷ drop l.q-index l.rest) ≡ l.fn.edges ++ path_edges l.path;
  count : l.more + l.q-index ≡ length l.rest;
}
