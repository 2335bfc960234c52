-- Types that keywords alone spell (C11 6.7.2), and storage words (C11 6.7.1).
use Rattle.std.specs.Prelude.{◌≡◌, ℕ, Bool, true, false, ◌&&◌, if◌then◌else◌, IsTrue, List, [], ◌∷◌, Option, None, Some, codes, map, length, nat_eq, ◌+◌}
use Rattle.std.specs.List.{list_all}
use Rattle.std.specs.Str.{bytes_eq}
use Rattle.cbase.specs.declared.tree.decl.Storage.{Storage}
use Rattle.cbase.specs.declared.tree.decl.Storage.TheVariants.{Plain, Typedef, Extern, Static}
use Rattle.cbase.specs.declared.tree.spec.BasicType.{BasicType}
use Rattle.cbase.specs.declared.tree.spec.BasicType.TheVariants.{Void, Bool as TruthType, Integer}
use Rattle.cbase.specs.declared.tree.spec.Rank.TheVariants.{Char, Short, Int, Long, LongLong}
use Rattle.cgrammar.specs.Terminals.{Terminal, is_any_word, IsWord, bytes_of}

-- the keywords that basic types are spelled by (C11 6.7.2)
abbrev pub basic_words : List (List ℕ)
basic_words =
    codes "void" ∷ codes "_Bool" ∷ codes "char" ∷ codes "signed" ∷ codes "unsigned" ∷ codes "short" ∷ codes "int" ∷ codes "long" ∷ []

-- each type with the words of one way to spell it
abbrev pub basic_rows : List (List (List ℕ) × BasicType)
basic_rows =
    (codes "void" ∷ [], Void) ∷ (codes "_Bool" ∷ [], TruthType)
    ∷ (codes "char" ∷ [], Integer Char true) ∷ (codes "signed" ∷ codes "char" ∷ [], Integer Char true)
    ∷ (codes "unsigned" ∷ codes "char" ∷ [], Integer Char false)
    ∷ (codes "short" ∷ [], Integer Short true) ∷ (codes "signed" ∷ codes "short" ∷ [], Integer Short true)
    ∷ (codes "short" ∷ codes "int" ∷ [], Integer Short true)
    ∷ (codes "signed" ∷ codes "short" ∷ codes "int" ∷ [], Integer Short true)
    ∷ (codes "unsigned" ∷ codes "short" ∷ [], Integer Short false)
    ∷ (codes "unsigned" ∷ codes "short" ∷ codes "int" ∷ [], Integer Short false)
    ∷ (codes "int" ∷ [], Integer Int true) ∷ (codes "signed" ∷ [], Integer Int true)
    ∷ (codes "signed" ∷ codes "int" ∷ [], Integer Int true)
    ∷ (codes "unsigned" ∷ [], Integer Int false) ∷ (codes "unsigned" ∷ codes "int" ∷ [], Integer Int false)
    ∷ (codes "long" ∷ [], Integer Long true) ∷ (codes "signed" ∷ codes "long" ∷ [], Integer Long true)
    ∷ (codes "long" ∷ codes "int" ∷ [], Integer Long true)
    ∷ (codes "signed" ∷ codes "long" ∷ codes "int" ∷ [], Integer Long true)
    ∷ (codes "unsigned" ∷ codes "long" ∷ [], Integer Long false)
    ∷ (codes "unsigned" ∷ codes "long" ∷ codes "int" ∷ [], Integer Long false)
    ∷ (codes "long" ∷ codes "long" ∷ [], Integer LongLong true)
    ∷ (codes "signed" ∷ codes "long" ∷ codes "long" ∷ [], Integer LongLong true)
    ∷ (codes "long" ∷ codes "long" ∷ codes "int" ∷ [], Integer LongLong true)
    ∷ (codes "signed" ∷ codes "long" ∷ codes "long" ∷ codes "int" ∷ [], Integer LongLong true)
    ∷ (codes "unsigned" ∷ codes "long" ∷ codes "long" ∷ [], Integer LongLong false)
    ∷ (codes "unsigned" ∷ codes "long" ∷ codes "long" ∷ codes "int" ∷ [], Integer LongLong false) ∷ []

-- how often a word stands in a list
abbrev pub times : List ℕ → List (List ℕ) → ℕ
times word [] = 0
times word (first ∷ others) = if bytes_eq word first then 1 + times word others else times word others

-- the same words, each as often, in any order
abbrev pub are_same : List (List ℕ) → List (List ℕ) → Bool
are_same words others =
    nat_eq (length words) (length others) && list_all (λ word. nat_eq (times word words) (times word others)) words

abbrev pub basic_of : List (List (List ℕ) × BasicType) → List (List ℕ) → Option BasicType
basic_of [] words = None
basic_of (row ∷ rows) words = if are_same words row.0 then Some row.1 else basic_of rows words

-- the words of a basic type, in any order
abbrev pub IsBasic : List Terminal → BasicType → Type 0
IsBasic row type = IsTrue (list_all is_any_word row) × (basic_of basic_rows (map bytes_of row) ≡ Some type)

-- the word of a storage class
abbrev pub IsStorage : Storage → Terminal → Type 0
IsStorage Plain token = ⊥
IsStorage Typedef token = IsWord (codes "typedef") token
IsStorage Extern token = IsWord (codes "extern") token
IsStorage Static token = IsWord (codes "static") token

-- whether a declaration with that storage word declares typedefs
abbrev pub declares_typedef : Storage → Bool
declares_typedef Typedef = true
declares_typedef _ = false
