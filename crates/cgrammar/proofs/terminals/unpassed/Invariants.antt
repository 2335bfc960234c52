use Rattle.std.proofs.Common.{◌≡◌, ◌≤◌, ◌++◌, length, map, drop, vec_capacity, vec_len}
use Rattle.ctokens.specs.Passed.{unpassed}
use Rattle.cgrammar.specs.Terminals.{terminal_of}
use Rattle.cgrammar.proofs.terminals.unpassed.Given as goal

abbrev pub invariant-loop-index : goal.invariant-loop-index
invariant-loop-index l = record {
  len : vec_len l.row ≤ l.index;
  room : length l.list ≤ vec_capacity l.row;
  rest : l.row.items ++ unpassed (drop l.index l.passed) (map (terminal_of l.text) (drop l.index l.list)) ≡ unpassed l.passed (map (terminal_of l.text) l.list);
}
