use Rattle.std.proofs.Common.{◌≡◌, ◌++◌, take, map, flat_map}
use Rattle.tb_wire.specs.Message.{len_text}
use Rattle.gen_world.specs.Words.{text_of}
use Rattle.gen_world.proofs.strings.put_words.Given as goal

abbrev pub invariant-loop-word : goal.invariant-loop-word
invariant-loop-word l = l.out.items ≡ l.initial.out.items ++ flat_map (len_text 1) (map text_of (take l.word-index l.words))
