use Rattle.std.proofs.Common.{◌≡◌, ◌+◌, drop}
use Rattle.std.specs.List.{prefix_len}
use Rattle.ctokens.specs.Class.{is_of}
use Rattle.ctokens.proofs.byte.leading.Given as goal

-- the bytes so far are of the class, and the row goes on with what is left
abbrev pub invariant-loop-index : goal.invariant-loop-index
invariant-loop-index l =
    prefix_len (is_of l.class) l.text ≡ l.index + prefix_len (is_of l.class) (drop l.index l.text)
