use Rattle.std.proofs.Common.{◌≡◌, ◌≤◌, take, vec_len}
use Rattle.ctokens.specs.ItemRows.{kept}
use Rattle.ctokens.proofs.need.kept.Given as goal

abbrev pub invariant-loop-token : goal.invariant-loop-token
invariant-loop-token l = record {
  len : vec_len l.kept ≤ l.token-index;
  rest : l.kept.items ≡ kept (take l.token-index l.row);
}
