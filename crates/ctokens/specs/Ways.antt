-- The names that an item offers, those of each way by themselves.
use Rattle.std.specs.Prelude.{◌≡◌, ℕ, Bool, false, List, [], ◌++◌}
use Rattle.ctokens.specs.declared.offered.Ways.{Ways}
use Rattle.ctokens.specs.declared.symbol.Symbol.{Symbol}
use Rattle.ctokens.specs.declared.symbol.Symbol.TheVariants.{Other}
use Rattle.ctokens.specs.declared.symbol.Lexeme.{Lexeme}
use Rattle.ctokens.specs.Offered.{bracketed, bracketed_at, declared, declared_at, enumerator_at, enumerators, pointer_at, pointers, tag_at, tags}

-- the words are those that the row offers in each way
pub record AreOffered (ways : Ways) (row : List (Lexeme ℕ)) : Type 0 where
  pub by_tag : ways.tags.items ≡ tags row
  pub by_constant : ways.enumerators.items ≡ enumerators Other Other [] row
  pub by_declarator : ways.declared.items ≡ declared 0 false row
  pub by_pointer : ways.pointers.items ≡ pointers 0 row
  pub by_brackets : ways.bracketed.items ≡ bracketed 0 false row

-- the words that the row offers at its front come behind those that were there
pub record AreOfferedAt (old new : Ways) (depth : ℕ) (set : Bool) (row : List (Lexeme ℕ)) : Type 0 where
  pub by_tag : new.tags.items ≡ old.tags.items ++ tag_at row
  pub by_constant : new.enumerators.items ≡ old.enumerators.items
  pub by_declarator : new.declared.items ≡ old.declared.items ++ declared_at depth set row
  pub by_pointer : new.pointers.items ≡ old.pointers.items ++ pointer_at depth row
  pub by_brackets : new.bracketed.items ≡ old.bracketed.items ++ bracketed_at depth set row

-- the word at which an enum constant is named comes behind those that were there
pub record IsEnumeratorAt (old new : Ways) (brackets : List Bool) (before : Symbol) (token : Lexeme ℕ) : Type 0 where
  pub by_tag : new.tags.items ≡ old.tags.items
  pub by_constant : new.enumerators.items ≡ old.enumerators.items ++ enumerator_at brackets before token
  pub by_declarator : new.declared.items ≡ old.declared.items
  pub by_pointer : new.pointers.items ≡ old.pointers.items
  pub by_brackets : new.bracketed.items ≡ old.bracketed.items
