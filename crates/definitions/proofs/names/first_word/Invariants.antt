use Rattle.std.proofs.Common.{◌≡◌, drop}
use Rattle.definitions.specs.Defined.{first_word}
use Rattle.definitions.proofs.names.first_word.Given as goal

abbrev pub invariant-loop-sign : goal.invariant-loop-sign
invariant-loop-sign l = first_word l.text (drop l.sign-index l.row) ≡ first_word l.text l.row
