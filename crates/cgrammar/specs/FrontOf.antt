-- The front of a row, up to what is left of it.
use Rattle.std.specs.Prelude.{List, length, take, ◌-◌}
use Rattle.cgrammar.specs.Terminals.{Terminal}

-- the tokens of a row before its rest
abbrev pub front_of : List Terminal → List Terminal → List Terminal
front_of start rest = take (length start - length rest) start
