use Rattle.std.proofs.Common.{◌≡◌, map, take}
use Rattle.strip_clip.specs.Cuts.{relative}
use Rattle.strip_clip.proofs.window.Window.all_from_corner.Given as goal

abbrev pub invariant-loop-p : goal.invariant-loop-p
invariant-loop-p l = l.moved.items ≡ map (relative l.self.corner) (take l.p-index l.points)
