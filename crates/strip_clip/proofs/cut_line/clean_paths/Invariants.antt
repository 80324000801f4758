use Rattle.std.proofs.Common.{◌≡◌, ◌++◌, drop, map}
use Rattle.strip_clip.specs.Cleaning.{clean_paths}
use Rattle.strip_clip.specs.Cuts.{relative}
use Rattle.strip_clip.proofs.cut_line.clean_paths.Given as goal

abbrev pub invariant-loop-path : goal.invariant-loop-path
invariant-loop-path l = l.left ++ clean_paths (map (map (relative l.window.corner)) (drop l.path-index l.paths)) ≡ clean_paths (map (map (relative l.window.corner)) l.paths)
