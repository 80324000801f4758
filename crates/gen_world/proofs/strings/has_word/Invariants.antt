use Rattle.std.proofs.Common.{◌≡◌, take, map, false}
use Rattle.std.specs.List.{list_any}
use Rattle.std.specs.Str.{bytes_eq}
use Rattle.gen_world.specs.Words.{text_of}
use Rattle.gen_world.proofs.strings.has_word.Given as goal

abbrev pub invariant-loop-own : goal.invariant-loop-own
invariant-loop-own l = list_any (bytes_eq (text_of l.word)) (map text_of (take l.own-index l.words)) ≡ false
