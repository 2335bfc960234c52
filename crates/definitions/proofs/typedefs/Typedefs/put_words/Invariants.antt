use Rattle.std.proofs.Common.{◌≡◌, map, drop}
use Rattle.definitions.specs.Defined.{each_once}
use Rattle.definitions.specs.Rows.{sign_word}
use Rattle.definitions.proofs.typedefs.Typedefs.put_words.Given as goal

abbrev pub invariant-loop-sign : goal.invariant-loop-sign
invariant-loop-sign l = each_once l.self (map (sign_word l.text) (drop l.sign-index l.signs)) ≡ each_once l.fn.self (map (sign_word l.text) l.signs)
