-- The number of the token at each place is that of the construct there.
use Rattle.std.proofs.Common.{◌≡◌, ℕ, zero, suc, nat_eq, Bool, true, false, not, ◌&&◌, if◌then◌else◌, refl, ap, sym, ◌∙◌, subst, List, [], ◌∷◌, Option, None, Some, codes}
use Rattle.std.specs.Prelude.{slice_get}
use Rattle.std.specs.List.{list_all, starts_with}
use Rattle.std.specs.Str.{bytes_eq}
use Rattle.std.proofs.lemmas.Slice.Eq.{bytes_eq-Decides}
use Rattle.ctokens.specs.declared.token.TokenKind.{TokenKind}
use Rattle.ctokens.specs.declared.token.TokenKind.TheVariants.{Word, Number, Letter, Quoted, Mark}
use Rattle.cgrammar.proofs.TokenKinds.{mark_kind_is, word_kind_is}
use Rattle.cgrammar.proofs.Integers.{integer_exact}
use Rattle.cgrammar.proofs.Truth.{and-left, and-right, and-both, clash, false-of, not-true}
use Rattle.cgrammar.specs.ConstantParts.{is_integer}
use Rattle.cgrammar.specs.Operators.{row_of}
use Rattle.cgrammar.specs.Terminals.{Terminal, is_mark_kind, is_word_kind, IsMark}
use Rattle.cconstructs.specs.declared.before.Before.{Before}
use Rattle.cconstructs.specs.Constructs.{word_rows, IsConstructAt, NamedWord, FloatingWord, FloatingConstant, VariableArguments, StringLiteral, FunctionPointer}
use Rattle.cconstructs.specs.Finding.{at_front, behind, mark_number, number_at, number_of, word_number}
use Rattle.cconstructs.proofs.Guards.{guarded_complete, guarded_sound, in_brackets}
use Rattle.cconstructs.proofs.Options.{no_some, same_some}
use Rattle.cconstructs.proofs.Pointers.{pointed_at, star_complete, star_sound}

-- the number of the token at a place
abbrev pub number_from : Before → List Terminal → ℕ → Option ℕ
number_from before [] at = None
number_from before (token ∷ others) zero = number_at before (token ∷ others)
number_from before (token ∷ others) (suc at) = number_from (behind before (token ∷ others)) others at

abbrev number_there : Bool → Bool → Option Terminal → Option ℕ
number_there guarded pointed None = None
number_there guarded pointed (Some token) = number_of token.kind guarded pointed token.bytes

there_same : (row : List Terminal) (before : Before) (at : ℕ)
    → number_from before row at ≡ number_there (in_brackets before.guarded before.asserting row at) (pointed_at before.opened before.headed row at) (slice_get row at)
unfolding behind
there_same [] before at = refl
there_same (token ∷ others) before zero = refl
there_same (token ∷ others) before (suc at) = there_same others (behind before (token ∷ others)) at

abbrev is_floating : List ℕ → Bool
is_floating bytes = starts_with nat_eq bytes (codes "_Float")

-- no word of the table begins with `_Float`
apart_in : (rows : List (List ℕ × ℕ)) (bytes : List ℕ) (number : ℕ) → list_all (λ row. not (is_floating row.0)) rows ≡ true → row_of bytes rows ≡ Some number → is_floating bytes ≡ false
apart_in [] bytes number all is = no_some number is
apart_in (row ∷ rows) bytes number all is =
    step (bytes_eq row.0 bytes) refl (apart_in rows bytes number (and-right (not (is_floating row.0)) (list_all (λ r. not (is_floating r.0)) rows) all)) is
  where
    step : (same : Bool) → bytes_eq row.0 bytes ≡ same → (row_of bytes rows ≡ Some number → is_floating bytes ≡ false)
        → (if same then Some row.1 else row_of bytes rows) ≡ Some number → is_floating bytes ≡ false
    step true e further h =
        ap is_floating (sym ((bytes_eq-Decides row.0 bytes).0 e))
        ∙ not-true (is_floating row.0) (and-left (not (is_floating row.0)) (list_all (λ r. not (is_floating r.0)) rows) all)
    step false e further h = further h

table_apart : (bytes : List ℕ) (number : ℕ) → row_of bytes word_rows ≡ Some number → is_floating bytes ≡ false
table_apart bytes number is = apart_in word_rows bytes number refl is

along : (row : List Terminal) (at one other : ℕ) → one ≡ other → IsConstructAt row at one → IsConstructAt row at other
along row at one other e = subst (λ (n : ℕ). IsConstructAt row at n) e

token_sound : (row : List Terminal) (at number : ℕ) (token : Terminal) → slice_get row at ≡ Some token
    → number_of token.kind (in_brackets 0 false row at) (pointed_at false false row at) token.bytes ≡ Some number → IsConstructAt row at number
unfolding word_number
token_sound row at number token there is = by_kind token.kind refl is
  where
    word : (b : Bool) → is_floating token.bytes ≡ b → token.kind ≡ Word → (if b then Some 4 else row_of token.bytes word_rows) ≡ Some number → IsConstructAt row at number
    word true e k h = along row at 4 number (same_some 4 number h) (FloatingWord token there (ap is_word_kind k) e)
    word false e k h = NamedWord token there (ap is_word_kind k) h

    constant : (b : Bool) → is_integer token.bytes ≡ b → token.kind ≡ Number → (if b then None else Some 4) ≡ Some number → IsConstructAt row at number
    constant true e k h = no_some number h
    constant false e k h = along row at 4 number (same_some 4 number h) (FloatingConstant token there k (λ integer. clash (is_integer token.bytes) ((integer_exact token.bytes).1 integer) e))

    text : (b : Bool) → in_brackets 0 false row at ≡ b → token.kind ≡ Quoted → (if b then None else Some 10) ≡ Some number → IsConstructAt row at number
    text true e k h = no_some number h
    text false e k h = along row at 10 number (same_some 10 number h)
        (StringLiteral token there k (λ asserted. let wrong : false ≡ true = sym e ∙ guarded_complete row at asserted in cc wrong))

    star : (b : Bool) → (pointed_at false false row at && bytes_eq token.bytes (codes "*")) ≡ b → token.kind ≡ Mark → (if b then Some 20 else None) ≡ Some number → IsConstructAt row at number
    star false e k h = no_some number h
    star true e k h =
        let found = star_sound row at (and-left (pointed_at false false row at) (bytes_eq token.bytes (codes "*")) e) in
        let marked : IsMark (codes "*") token = and-both (ap is_mark_kind k) (and-right (pointed_at false false row at) (bytes_eq token.bytes (codes "*")) e) in
        along row at 20 number (same_some 20 number h) (subst (λ (n : ℕ). IsConstructAt row n 20) (sym found.place)
        (FunctionPointer found.opening token found.there found.opens (ap (slice_get row) (sym found.place) ∙ there) marked found.apart found.behind))

    mark : (b : Bool) → bytes_eq token.bytes (codes "...") ≡ b → token.kind ≡ Mark
        → (if b then Some 5 else (if pointed_at false false row at && bytes_eq token.bytes (codes "*") then Some 20 else None)) ≡ Some number → IsConstructAt row at number
    mark true e k h = along row at 5 number (same_some 5 number h) (VariableArguments token there (and-both (ap is_mark_kind k) e))
    mark false e k h = star (pointed_at false false row at && bytes_eq token.bytes (codes "*")) refl k h

    by_kind : (kind : TokenKind) → token.kind ≡ kind → number_of kind (in_brackets 0 false row at) (pointed_at false false row at) token.bytes ≡ Some number → IsConstructAt row at number
    by_kind Word k h = word (is_floating token.bytes) refl k h
    by_kind Number k h = constant (is_integer token.bytes) refl k h
    by_kind Letter k h = no_some number h
    by_kind Quoted k h = text (in_brackets 0 false row at) refl k h
    by_kind Mark k h = mark (bytes_eq token.bytes (codes "...")) refl k h

construct_found : (row : List Terminal) (at number : ℕ) → IsConstructAt row at number
    → number_there (in_brackets 0 false row at) (pointed_at false false row at) (slice_get row at) ≡ Some number
unfolding word_number
construct_found row at number (NamedWord token there is listed) =
    ap (number_there (in_brackets 0 false row at) (pointed_at false false row at)) there
    ∙ (ap (λ (k : TokenKind). number_of k (in_brackets 0 false row at) (pointed_at false false row at) token.bytes) (word_kind_is token.kind is)
    ∙ (ap (λ (b : Bool). if b then Some 4 else row_of token.bytes word_rows) (table_apart token.bytes number listed) ∙ listed))
construct_found row at _ (FloatingWord token there is floats) =
    ap (number_there (in_brackets 0 false row at) (pointed_at false false row at)) there
    ∙ (ap (λ (k : TokenKind). number_of k (in_brackets 0 false row at) (pointed_at false false row at) token.bytes) (word_kind_is token.kind is)
    ∙ ap (λ (b : Bool). if b then Some 4 else row_of token.bytes word_rows) floats)
construct_found row at _ (FloatingConstant token there is floats) =
    ap (number_there (in_brackets 0 false row at) (pointed_at false false row at)) there
    ∙ (ap (λ (k : TokenKind). number_of k (in_brackets 0 false row at) (pointed_at false false row at) token.bytes) is
    ∙ ap (λ (b : Bool). if b then None else Some 4) (false-of (is_integer token.bytes) (λ whole. floats ((integer_exact token.bytes).0 whole))))
construct_found row at _ (VariableArguments token there is) =
    ap (number_there (in_brackets 0 false row at) (pointed_at false false row at)) there
    ∙ (ap (λ (k : TokenKind). number_of k (in_brackets 0 false row at) (pointed_at false false row at) token.bytes)
    (mark_kind_is token.kind (and-left (is_mark_kind token.kind) (bytes_eq token.bytes (codes "...")) is))
    ∙ ap (λ (b : Bool). if b then Some 5 else (if pointed_at false false row at && bytes_eq token.bytes (codes "*") then Some 20 else None))
    (and-right (is_mark_kind token.kind) (bytes_eq token.bytes (codes "...")) is))
construct_found row at _ (StringLiteral token there is outside) =
    ap (number_there (in_brackets 0 false row at) (pointed_at false false row at)) there
    ∙ (ap (λ (k : TokenKind). number_of k (in_brackets 0 false row at) (pointed_at false false row at) token.bytes) is
    ∙ ap (λ (b : Bool). if b then None else Some 10) (apart (in_brackets 0 false row at) refl))
  where
    apart : (b : Bool) → in_brackets 0 false row at ≡ b → in_brackets 0 false row at ≡ false
    apart true e = absurd (outside (guarded_sound row at e))
    apart false e = e
construct_found row _ _ (FunctionPointer {before} opening star first opens second marked headed pointed) =
    ap (number_there (in_brackets 0 false row (suc before)) (pointed_at false false row (suc before))) second
    ∙ (ap (λ (k : TokenKind). number_of k (in_brackets 0 false row (suc before)) (pointed_at false false row (suc before)) star.bytes)
    (mark_kind_is star.kind (and-left (is_mark_kind star.kind) (bytes_eq star.bytes (codes "*")) marked))
    ∙ (ap (λ (bytes : List ℕ). mark_number (pointed_at false false row (suc before)) bytes)
    ((bytes_eq-Decides star.bytes (codes "*")).0 (and-right (is_mark_kind star.kind) (bytes_eq star.bytes (codes "*")) marked))
    ∙ ap (λ (b : Bool). mark_number b (codes "*")) (star_complete row before opening star first opens second headed pointed)))

pub number_sound : (row : List Terminal) (at number : ℕ) → number_from at_front row at ≡ Some number → IsConstructAt row at number
number_sound row at number is = step (slice_get row at) refl (sym (there_same row at_front at) ∙ is)
  where
    step : (o : Option Terminal) → slice_get row at ≡ o → number_there (in_brackets 0 false row at) (pointed_at false false row at) o ≡ Some number → IsConstructAt row at number
    step None e h = no_some number h
    step (Some token) e h = token_sound row at number token e h

pub number_complete : (row : List Terminal) (at number : ℕ) → IsConstructAt row at number → number_from at_front row at ≡ Some number
number_complete row at number is = there_same row at_front at ∙ construct_found row at number is
