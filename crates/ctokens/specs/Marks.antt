-- The marks (punctuators, C11 6.4.6) of the text.
use Rattle.std.specs.Prelude.{ℕ, Bool, false, List, [], ◌∷◌, nat_eq, codes}
use Rattle.std.specs.List.{list_any}
use Rattle.std.specs.Str.{bytes_eq}

-- the marks of one byte
abbrev pub single_marks : List ℕ
single_marks = codes "[](){}.&*+-~!/%<>^|?:;=,"

-- the marks of two bytes
abbrev pub double_marks : List (List ℕ)
double_marks =
    codes "->" ∷ codes "++" ∷ codes "--" ∷ codes "<<" ∷ codes ">>" ∷ codes "<=" ∷ codes ">=" ∷ codes "==" ∷ codes "!=" ∷ codes "&&"
    ∷ codes "||" ∷ codes "*=" ∷ codes "/=" ∷ codes "%=" ∷ codes "+=" ∷ codes "-=" ∷ codes "&=" ∷ codes "^=" ∷ codes "|=" ∷ []

-- the marks of three bytes
abbrev pub triple_marks : List (List ℕ)
triple_marks = codes "..." ∷ codes "<<=" ∷ codes ">>=" ∷ []

-- the bytes are a mark
abbrev pub is_mark : List ℕ → Bool
is_mark [] = false
is_mark (first ∷ []) = list_any (nat_eq first) single_marks
is_mark (first ∷ (second ∷ [])) = list_any (bytes_eq (first ∷ (second ∷ []))) double_marks
is_mark (first ∷ (second ∷ (third ∷ []))) = list_any (bytes_eq (first ∷ (second ∷ (third ∷ [])))) triple_marks
is_mark (first ∷ (second ∷ (third ∷ (fourth ∷ others)))) = false
