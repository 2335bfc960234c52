use Rattle.std.proofs.Common.{◌≡◌, ◌≤◌, ◌++◌, map, drop, length, vec_capacity, vec_len}
use Rattle.ctokens.specs.Passed.{read_from, read_symbols}
use Rattle.ctokens.specs.Symbol.{is_passed_over}
use Rattle.ctokens.specs.TokenSymbols.{token_symbol}
use Rattle.ctokens.proofs.passed.passed_over.Given as goal

abbrev pub invariant-loop-token : goal.invariant-loop-token
invariant-loop-token l = record {
  len : vec_len l.passed ≡ l.token-index;
  room : length l.list ≤ vec_capacity l.passed;
  few : l.unclosed ≤ l.token-index;
  rest : l.passed.items ++ map is_passed_over (read_from l.behind l.unclosed (map (token_symbol l.text) (drop l.token-index l.list)))
      ≡ map is_passed_over (read_symbols (map (token_symbol l.text) l.list));
}
