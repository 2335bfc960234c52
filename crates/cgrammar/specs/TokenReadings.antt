-- What single tokens are read as.
use Rattle.std.specs.Prelude.{if◌then◌else◌, Option, None, Some, codes}
use Rattle.cbase.specs.declared.tree.decl.Storage.{Storage}
use Rattle.cbase.specs.declared.tree.decl.Storage.TheVariants.{Typedef, Extern, Static}
use Rattle.cgrammar.specs.Terminals.{Terminal, is_word}

-- the storage class that a word names (C11 6.7.1)
abbrev pub storage_of : Terminal → Option Storage
storage_of token =
    if is_word (codes "typedef") token then Some Typedef
    else (if is_word (codes "extern") token then Some Extern
    else (if is_word (codes "static") token then Some Static else None))
