use Rattle.tile_clip.proofs.divided.+some_parts.Given as goal

abbrev pub decreases-some_parts : goal.decreases-some_parts
decreases-some_parts g l = l.count
