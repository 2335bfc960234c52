use Rattle.std.proofs.Common.{◌≡◌, ◌≤◌, ◌+◌, drop, false, map}
use Rattle.cgrammar.specs.Terminals.{terminal_of}
use Rattle.cconstructs.specs.LayoutFinding.{attribute_from, outside}
use Rattle.cconstructs.proofs.layout.first_attribute.Given as goal

abbrev pub invariant-loop-token : goal.invariant-loop-token
invariant-loop-token l = record {
  same : attribute_from l.number l.part (map (terminal_of l.text) (drop l.token-index l.list)) ≡ attribute_from l.from (outside false) (map (terminal_of l.text) l.list);
  counts : l.number ≡ l.from + l.token-index;
  few : l.part.unclosed ≤ l.token-index + 1;
}
