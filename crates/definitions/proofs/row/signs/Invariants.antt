use Rattle.std.proofs.Common.{◌≡◌, ◌≤◌, ◌++◌, length, map, drop, vec_capacity, vec_len}
use Rattle.ctokens.specs.Passed.{unpassed}
use Rattle.definitions.specs.Rows.{outermost, sign_of}
use Rattle.definitions.proofs.row.signs.Given as goal

abbrev pub invariant-loop-i : goal.invariant-loop-i
invariant-loop-i l = record {
  len : vec_len l.row ≤ l.i;
  room : length l.tokens ≤ vec_capacity l.row;
  few : length l.row.items ≤ l.i;
  depth : l.depth ≤ l.i;
  rest : l.row.items ++ outermost l.depth (map (sign_of l.text) (unpassed (drop l.i l.passed) (drop l.i l.tokens))) ≡ outermost 0 (map (sign_of l.text) (unpassed l.passed l.tokens));
}
