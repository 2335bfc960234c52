use Rattle.std.proofs.Common.{◌≡◌, map, take}
use Rattle.ctokens.proofs.entry.words.Given as goal

abbrev pub invariant-loop-token : goal.invariant-loop-token
invariant-loop-token l = l.words.items ≡ map (λ token. token.word) (take l.token-index l.tokens)
