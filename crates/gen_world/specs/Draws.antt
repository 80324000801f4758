-- How far the sequence of numbers is behind the frames that were given.
use Rattle.std.specs.Prelude.{ℕ, ◌+◌, ◌-◌, ◌*◌, ◌≤◌, min}
use Rattle.gen_world.specs.declared.counts.Counts.{Counts}
use Rattle.gen_world.specs.Elements.{way_draws}
use Rattle.gen_world.specs.Frames.{frames_for}

-- how many frames there are
unfoldable pub frame_count : Counts → ℕ
frame_count counts = 1 + (frames_for counts.nodes + frames_for counts.ways + frames_for counts.relations)

-- of so many elements, those in the first frames
abbrev pub within : ℕ → ℕ → ℕ
within elements frames = min (200 * frames) elements

-- the draws of the first frames, of which one is the header
unfoldable pub draws_before : Counts → ℕ → ℕ
draws_before counts frames =
    3 * within counts.nodes (frames - 1) + way_draws (within counts.ways (frames - 1 - frames_for counts.nodes))
    + within counts.relations (frames - 1 - frames_for counts.nodes - frames_for counts.ways)

-- the numbers of elements of an extract of 100 to 10,000,000
pub record AreCounts (counts : Counts) : Type 0 where
  pub cluster : 10 ≤ counts.nodes
  pub nodes : counts.nodes ≤ 10000000
  pub ring : 3 ≤ counts.ways
  pub ways : counts.ways ≤ 1000000
  pub relations : counts.relations ≤ 100000
