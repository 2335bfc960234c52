-- What is gathered of the tokens in front of one of a row, and what is still to come.
use Rattle.std.proofs.Common.{◌≡◌, ℕ, ◌+◌, ◌<◌, Bool, true, false, ◌&&◌, not, if◌then◌else◌, List, [], ◌∷◌, ◌++◌, drop, length, get_or, refl, sym, ap, ◌∙◌, add-one, append_assoc, append-nil, subst}
use Rattle.std.proofs.Math.Seq.{drop-cons}
use Rattle.ctokens.specs.declared.offered.Ways.{Ways}
use Rattle.ctokens.specs.declared.symbol.Symbol.{Symbol}
use Rattle.ctokens.specs.declared.symbol.Symbol.TheVariants.{Other}
use Rattle.ctokens.specs.declared.symbol.Lexeme.{Lexeme}
use Rattle.ctokens.specs.Bodies.{ends_with_body, has_body}
use Rattle.ctokens.specs.ItemEnds.{body_after, ends_body}
use Rattle.ctokens.specs.Need.{contained}
use Rattle.ctokens.specs.Symbol.{is_selector, is_word}
use Rattle.ctokens.specs.Offered.{bracketed, brackets_after, declared, enumerator_at, enumerators, pointers, set_after, tags}
use Rattle.ctokens.specs.Passed.{depth_after}
use Rattle.ctokens.specs.Ways.{AreOffered, AreOfferedAt, IsEnumeratorAt}

-- what was found, and what the rest of the row gives behind it, is what the row gives
pub record AreGathered (ways : Ways) (names : List ℕ) (brackets : List Bool) (depth : ℕ) (set : Bool) (earlier before : Symbol) (body last : Bool) (rest row : List (Lexeme ℕ)) : Type 0 where
  pub by_tag : ways.tags.items ++ tags rest ≡ tags row
  pub by_constant : ways.enumerators.items ++ enumerators earlier before brackets rest ≡ enumerators Other Other [] row
  pub by_declarator : ways.declared.items ++ declared depth set rest ≡ declared 0 false row
  pub by_pointer : ways.pointers.items ++ pointers depth rest ≡ pointers 0 row
  pub by_brackets : ways.bracketed.items ++ bracketed depth set rest ≡ bracketed 0 false row
  pub inside : names ++ contained before rest ≡ contained Other row
  pub ending : has_body depth before body last rest ≡ ends_with_body row

behind : {A : Type 0} (old new one rest whole : List A) → new ≡ old ++ one → old ++ (one ++ rest) ≡ whole → new ++ rest ≡ whole
behind old new one rest whole is_new known = ap (λ xs. xs ++ rest) is_new ∙ (append_assoc old one rest ∙ known)

-- nothing is gathered before the first token
pub none_gathered : (ways : Ways) (names : List ℕ) (row : List (Lexeme ℕ)) → AreOffered ways [] → names ≡ []
    → AreGathered ways names [] 0 false Other Other false false row row
none_gathered ways names row no_ways no_names = record {
  by_tag = ap (λ xs. xs ++ tags row) no_ways.by_tag;
  by_constant = ap (λ xs. xs ++ enumerators Other Other [] row) no_ways.by_constant;
  by_declarator = ap (λ xs. xs ++ declared 0 false row) no_ways.by_declarator;
  by_pointer = ap (λ xs. xs ++ pointers 0 row) no_ways.by_pointer;
  by_brackets = ap (λ xs. xs ++ bracketed 0 false row) no_ways.by_brackets;
  inside = ap (λ xs. xs ++ contained Other row) no_names;
  ending = refl;
}

-- all is gathered behind the last one
pub all_gathered : (ways : Ways) (names : List ℕ) (brackets : List Bool) (depth : ℕ) (set : Bool) (earlier before : Symbol) (body last : Bool) (rest row : List (Lexeme ℕ))
    → rest ≡ [] → AreGathered ways names brackets depth set earlier before body last rest row
    → (AreOffered ways row) × (names ≡ contained Other row) × (last ≡ ends_with_body row)
all_gathered ways names brackets depth set earlier before body last [] row is known = (
  record {
    by_tag = sym (append-nil ways.tags.items) ∙ known.by_tag;
    by_constant = sym (append-nil ways.enumerators.items) ∙ known.by_constant;
    by_declarator = sym (append-nil ways.declared.items) ∙ known.by_declarator;
    by_pointer = sym (append-nil ways.pointers.items) ∙ known.by_pointer;
    by_brackets = sym (append-nil ways.bracketed.items) ∙ known.by_brackets;
  },
  sym (append-nil names) ∙ known.inside,
  known.ending,
)
all_gathered ways names brackets depth set earlier before body last (token ∷ rest) row is known = absurd cc

contained_more : (before : Symbol) (token : Lexeme ℕ) (rest : List (Lexeme ℕ))
    → contained before (token ∷ rest) ≡ contained before (token ∷ []) ++ contained token.symbol rest
contained_more before token rest = step (is_word token.symbol && not (is_selector before))
  where
    step : (b : Bool) → (if b then token.word ∷ contained token.symbol rest else contained token.symbol rest)
        ≡ (if b then token.word ∷ [] else []) ++ contained token.symbol rest
    step true = refl
    step false = refl

-- what is gathered behind one more token
gathered_more : (old new ways : Ways) (names more : List ℕ) (brackets : List Bool) (depth : ℕ) (set : Bool) (earlier before : Symbol) (body last : Bool)
    (part : List (Lexeme ℕ)) (token : Lexeme ℕ) (rest row : List (Lexeme ℕ))
    → part ≡ token ∷ rest → AreOfferedAt old new depth set part → IsEnumeratorAt new ways brackets before token → more ≡ names ++ contained before (token ∷ [])
    → AreGathered old names brackets depth set earlier before body last part row
    → AreGathered ways more (brackets_after earlier before brackets token.symbol) (depth_after depth token.symbol) (set_after depth set token.symbol) before token.symbol
    (body_after depth before body token.symbol) (ends_body depth body token.symbol) rest row
gathered_more old new ways names more brackets depth set earlier before body last [] token rest row is front constant is_more known = absurd cc
gathered_more old new ways names more brackets depth set earlier before body last (first ∷ others) token rest row is front constant is_more known =
    let same_token : first ≡ token = cc is in
    let same_rest : others ≡ rest = cc is in
    subst (λ xs. AreGathered ways more (brackets_after earlier before brackets token.symbol) (depth_after depth token.symbol) (set_after depth set token.symbol) before token.symbol
    (body_after depth before body token.symbol) (ends_body depth body token.symbol) xs row) same_rest
    (subst (λ t. AreGathered ways more (brackets_after earlier before brackets t.symbol) (depth_after depth t.symbol) (set_after depth set t.symbol) before t.symbol
    (body_after depth before body t.symbol) (ends_body depth body t.symbol) others row) same_token (record {
      by_tag = behind _ _ _ _ _ (constant.by_tag ∙ front.by_tag) known.by_tag;
      by_constant = behind _ _ _ _ _ (constant.by_constant ∙ (ap (λ xs. xs ++ enumerator_at brackets before token) front.by_constant ∙ ap (λ t. old.enumerators.items ++ enumerator_at brackets before t) (sym same_token))) known.by_constant;
      by_declarator = behind _ _ _ _ _ (constant.by_declarator ∙ front.by_declarator) known.by_declarator;
      by_pointer = behind _ _ _ _ _ (constant.by_pointer ∙ front.by_pointer) known.by_pointer;
      by_brackets = behind _ _ _ _ _ (constant.by_brackets ∙ front.by_brackets) known.by_brackets;
      inside = behind _ _ _ _ _ (is_more ∙ ap (λ t. names ++ contained before (t ∷ [])) (sym same_token)) (ap (λ xs. names ++ xs) (sym (contained_more before first others)) ∙ known.inside);
      ending = known.ending;
    }))

-- the row from a token of it on
row_front : (row : List (Lexeme ℕ)) (i : ℕ) (other : Lexeme ℕ) → i < length row → drop i row ≡ get_or row i other ∷ drop (i + 1) row
row_front row i other inside = rw add-one (drop-cons row i other inside)

-- what is gathered behind one more token, where `part` is the row from it on and `open_ones` are the open brackets
pub gathered_at : (old new ways : Ways) (names more : List ℕ) (brackets open_ones : List Bool) (depth : ℕ) (set : Bool) (earlier before : Symbol) (body last : Bool)
    (part row : List (Lexeme ℕ)) (i : ℕ) (other : Lexeme ℕ)
    → i < length row → part ≡ drop i row → AreOfferedAt old new depth set part → open_ones ≡ brackets → IsEnumeratorAt new ways open_ones before (get_or row i other)
    → more ≡ names ++ contained before (get_or row i other ∷ [])
    → AreGathered old names brackets depth set earlier before body last (drop i row) row
    → let symbol = (get_or row i other).symbol in AreGathered ways more (brackets_after earlier before brackets symbol) (depth_after depth symbol) (set_after depth set symbol) before symbol
    (body_after depth before body symbol) (ends_body depth body symbol) (drop (i + 1) row) row
gathered_at old new ways names more brackets open_ones depth set earlier before body last part row i other inside is_part front are_open constant is_more known =
    gathered_more old new ways names more brackets depth set earlier before body last (drop i row) (get_or row i other) (drop (i + 1) row) row (row_front row i other inside)
    (subst (λ xs. AreOfferedAt old new depth set xs) is_part front) (subst (λ bs. IsEnumeratorAt new ways bs before (get_or row i other)) are_open constant) is_more known
