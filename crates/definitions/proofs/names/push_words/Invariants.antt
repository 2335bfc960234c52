use Rattle.std.proofs.Common.{◌≡◌, ◌++◌, map, drop}
use Rattle.definitions.specs.Rows.{sign_word}
use Rattle.definitions.proofs.names.push_words.Given as goal

abbrev pub invariant-loop-sign : goal.invariant-loop-sign
invariant-loop-sign l = l.found ++ map (sign_word l.text) (drop l.sign-index l.signs) ≡ l.fn.found ++ map (sign_word l.text) l.signs
