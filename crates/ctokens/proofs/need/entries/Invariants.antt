use Rattle.std.proofs.Common.{◌≡◌, take, vec_len}
use Rattle.ctokens.specs.Entry.{entries_of}
use Rattle.ctokens.proofs.need.entries.Given as goal

abbrev pub invariant-loop-span : goal.invariant-loop-span
invariant-loop-span l = record {
  len : vec_len l.entries ≡ l.span-index;
  rest : l.entries.items ≡ entries_of l.row (take l.span-index l.items);
}
