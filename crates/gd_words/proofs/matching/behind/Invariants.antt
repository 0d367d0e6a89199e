use Rattle.std.proofs.Common.{◌≡◌, ◌∷◌, take, map, string_bytes}
use Rattle.gd_words.specs.Reads.{texts}
use Rattle.gd_words.proofs.matching.behind.Given as goal

abbrev pub invariant-loop-word : goal.invariant-loop-word
invariant-loop-word l = texts l.all.items ≡ l.fn.tool ∷ map string_bytes (take l.word-index l.words)
