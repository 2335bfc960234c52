use Rattle.std.proofs.Common.{◌≡◌, ◌≤◌, length, map, take, vec_capacity, vec_len}
use Rattle.ctokens.specs.TokenSymbols.{token_symbol}
use Rattle.ctokens.proofs.symbols.symbols.Given as goal

abbrev pub invariant-loop-token : goal.invariant-loop-token
invariant-loop-token l = record {
  len : vec_len l.all ≡ l.token-index;
  room : length l.list ≤ vec_capacity l.all;
  symbols : l.all.items ≡ map (token_symbol l.text) (take l.token-index l.list);
}
