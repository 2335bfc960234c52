-- A short word is no keyword that a declaration begins with.
use Rattle.std.proofs.Common.{◌≡◌, ◌<◌, Bool, true, false, ◌&&◌, ◌||◌, refl, List, length}
use Rattle.ctokens.proofs.WordLengths.{none_longer}
use Rattle.cgrammar.specs.Firsts.{begins_declaration, storage_words, type_words}
use Rattle.cgrammar.specs.Scope.{Names}
use Rattle.cgrammar.specs.Terminals.{Terminal, is_typedef, is_word_kind}

-- it begins one only where it is a typedef's name
pub short_declaration : (scopes : List Names) (token : Terminal) → length token.bytes < 3 → begins_declaration scopes token ≡ is_typedef scopes token
short_declaration scopes token short =
    rw (none_longer 3 storage_words token.bytes short refl)
    (rw (none_longer 3 type_words token.bytes short refl) (neither (is_word_kind token.kind) (is_typedef scopes token)))
  where
    neither : (word named : Bool) → (word && false || (word && false || named)) ≡ named
    neither true named = refl
    neither false named = refl
