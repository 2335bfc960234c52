-- Which names are declared, as far as the grammar asks (C11 6.2.1, 6.7.8): for each scope that a place lies in, the
-- outermost first, the names that it declares before that place, each once, and of each whether it is a typedef's.
use Rattle.std.specs.Prelude.{ℕ, Bool, false, List, [], ◌∷◌, ◌++◌, Option, None, Some}
use Rattle.cgrammar.specs.NameTables.{value_in, with_value}

-- the names of one scope, each with whether it is a typedef's
abbrev pub Names : Type 0
Names = List (List ℕ × Bool)

-- the first of two answers, or the second where the first is none
abbrev pub first_answer : Option Bool → Option Bool → Option Bool
first_answer None other = other
first_answer (Some answer) other = Some answer

-- what the innermost scope that has a name says of it
abbrev pub found : List ℕ → List Names → Option Bool
found name [] = None
found name (outer ∷ inner) = first_answer (found name inner) (value_in name outer)

-- whether an answer is that the name is a typedef's
abbrev pub says_typedef : Option Bool → Bool
says_typedef None = false
says_typedef (Some typedef) = typedef

-- whether the innermost scope that has a name declares it as a typedef
abbrev pub is_typedef_name : List Names → List ℕ → Bool
is_typedef_name scopes name = says_typedef (found name scopes)

-- a name is declared in the innermost scope; one that it had already is now what it was declared as last
abbrev pub declared : List ℕ → Bool → List Names → List Names
declared name typedef [] = []
declared name typedef (names ∷ []) = with_value name typedef names ∷ []
declared name typedef (outer ∷ (next ∷ inner)) = outer ∷ declared name typedef (next ∷ inner)

-- a name is declared in the scope around the innermost one
abbrev pub declared_around : List ℕ → Bool → List Names → List Names
declared_around name typedef [] = []
declared_around name typedef (innermost ∷ []) = innermost ∷ []
declared_around name typedef (around ∷ (innermost ∷ [])) = with_value name typedef around ∷ (innermost ∷ [])
declared_around name typedef (outer ∷ (next ∷ (inner ∷ others))) = outer ∷ declared_around name typedef (next ∷ (inner ∷ others))

-- the file's scope, before its first declaration
abbrev pub file_scope : List Names
file_scope = [] ∷ []

-- inside one more scope
abbrev pub entered : List Names → List Names
entered scopes = scopes ++ [] ∷ []

-- outside the innermost scope
abbrev pub left : List Names → List Names
left [] = []
left (innermost ∷ []) = []
left (outer ∷ (next ∷ inner)) = outer ∷ left (next ∷ inner)
