use Rattle.std.proofs.Common.{◌≡◌, ◌+◌, drop, map}
use Rattle.std.specs.List.{position_or_len}
use Rattle.std.specs.Str.{bytes_eq}
use Rattle.gen_world.specs.Words.{text_of}
use Rattle.gen_world.proofs.strings.index_of.Given as goal

abbrev pub invariant-loop-index : goal.invariant-loop-index
invariant-loop-index l =
    l.index + position_or_len (bytes_eq (text_of l.word)) (map text_of (drop l.index l.words)) ≡ position_or_len (bytes_eq (text_of l.word)) (map text_of l.words)
