use Rattle.std.proofs.Common.{◌≡◌, drop}
use Rattle.ctokens.specs.Need.{offers_main}
use Rattle.ctokens.proofs.entry.offers_main.Given as goal

abbrev pub invariant-loop-word : goal.invariant-loop-word
invariant-loop-word l = offers_main (drop l.word-index l.words) ≡ offers_main l.words
