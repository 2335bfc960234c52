use Rattle.std.proofs.Common.{◌≡◌, drop}
use Rattle.ctokens.specs.Need.{offers_built_in}
use Rattle.ctokens.proofs.entry.offers_built_in.Given as goal

abbrev pub invariant-loop-word : goal.invariant-loop-word
invariant-loop-word l = offers_built_in (drop l.word-index l.words) ≡ offers_built_in l.words
