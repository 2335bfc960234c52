-- What an item offers and contains, where each word is put in place of its number.
use Rattle.std.proofs.Common.{◌≡◌, ℕ, ◌-◌, Bool, true, false, cond, not, ◌&&◌, ◌||◌, nat_eq, List, [], ◌∷◌, ◌++◌, map, take, drop, refl, sym, ap, ◌∙◌}
use Rattle.std.specs.List.{slice_range}
use Rattle.std.proofs.lemmas.List.{map-append, take-map, drop-map}
use Rattle.ctokens.specs.declared.item_span.ItemSpan.{ItemSpan}
use Rattle.ctokens.specs.declared.symbol.Symbol.{Symbol}
use Rattle.ctokens.specs.declared.symbol.Lexeme.{Lexeme}
use Rattle.ctokens.specs.Symbol.{is_word, is_identifier, is_main, is_built_in, is_tag_word, is_left_brace, is_comma, is_star, is_left_parenthesis, is_passed_over, is_selector}
use Rattle.ctokens.specs.Passed.{depth_after}
use Rattle.ctokens.specs.ItemEnds.{ends_body, body_after}
use Rattle.ctokens.specs.Offered.{tag_at, tags, enumerator_at, enumerators, declared_at, declared, behind_stars, pointers, is_said, behind_brackets, bracketed, offered, is_in_enum, follows_declared, set_after, brackets_after}
use Rattle.ctokens.specs.Bodies.{has_body, ends_with_body}
use Rattle.ctokens.specs.Need.{offers_main, offers_built_in, defines_main, declares_built_in, needed_by, contained}
use Rattle.ctokens.specs.ItemRows.{lexemes, kept, item_row}
use Rattle.ctokens.specs.declared.symbol.Symbol.TheVariants.{Other}

module _ {M N : Type 0} (f : M → N) where
  abbrev pub renamed : Lexeme M → Lexeme N
  renamed token = record { symbol = token.symbol; word = f token.word }

  abbrev pub all_renamed : List (Lexeme M) → List (Lexeme N)
  all_renamed row = map renamed row

  cond-renamed : (b : Bool) (xs ys : List (Lexeme M)) → all_renamed (cond b xs ys) ≡ cond b (all_renamed xs) (all_renamed ys)
  cond-renamed true xs ys = refl
  cond-renamed false xs ys = refl

  joined : (xs ys : List (Lexeme M)) (us vs : List (Lexeme N)) → all_renamed xs ≡ us → all_renamed ys ≡ vs → all_renamed (xs ++ ys) ≡ us ++ vs
  joined xs ys us vs p q = map-append renamed xs ys ∙ (ap (λ zs. zs ++ all_renamed ys) p ∙ ap (λ zs. us ++ zs) q)

  tag_at-renamed : (row : List (Lexeme M)) → all_renamed (tag_at row) ≡ tag_at (all_renamed row)
  tag_at-renamed [] = refl
  tag_at-renamed (tag ∷ []) = refl
  tag_at-renamed (tag ∷ (word ∷ [])) = refl
  tag_at-renamed (tag ∷ (word ∷ (brace ∷ rest))) =
      cond-renamed (is_tag_word tag.symbol && (is_word word.symbol && is_left_brace brace.symbol)) (word ∷ []) []

  tags-renamed : (row : List (Lexeme M)) → all_renamed (tags row) ≡ tags (all_renamed row)
  tags-renamed [] = refl
  tags-renamed (token ∷ rest) =
      joined (tag_at (token ∷ rest)) (tags rest) (tag_at (all_renamed (token ∷ rest))) (tags (all_renamed rest))
      (tag_at-renamed (token ∷ rest)) (tags-renamed rest)

  enumerator_at-renamed : (brackets : List Bool) (before : Symbol) (token : Lexeme M)
      → all_renamed (enumerator_at brackets before token) ≡ enumerator_at brackets before (renamed token)
  enumerator_at-renamed brackets before token =
      cond-renamed (is_in_enum brackets && (is_word token.symbol && (is_left_brace before || is_comma before))) (token ∷ []) []

  enumerators-renamed : (earlier before : Symbol) (brackets : List Bool) (row : List (Lexeme M))
      → all_renamed (enumerators earlier before brackets row) ≡ enumerators earlier before brackets (all_renamed row)
  enumerators-renamed earlier before brackets [] = refl
  enumerators-renamed earlier before brackets (token ∷ rest) =
      joined (enumerator_at brackets before token) (enumerators before token.symbol (brackets_after earlier before brackets token.symbol) rest)
      (enumerator_at brackets before (renamed token)) (enumerators before token.symbol (brackets_after earlier before brackets token.symbol) (all_renamed rest))
      (enumerator_at-renamed brackets before token)
      (enumerators-renamed before token.symbol (brackets_after earlier before brackets token.symbol) rest)

  declared_at-renamed : (depth : ℕ) (set : Bool) (row : List (Lexeme M)) → all_renamed (declared_at depth set row) ≡ declared_at depth set (all_renamed row)
  declared_at-renamed depth set [] = refl
  declared_at-renamed depth set (word ∷ []) = refl
  declared_at-renamed depth set (word ∷ (next ∷ rest)) =
      cond-renamed ((nat_eq depth 0 && not set) && (is_identifier word.symbol && follows_declared next.symbol)) (word ∷ []) []

  declared-renamed : (depth : ℕ) (set : Bool) (row : List (Lexeme M)) → all_renamed (declared depth set row) ≡ declared depth set (all_renamed row)
  declared-renamed depth set [] = refl
  declared-renamed depth set (token ∷ rest) =
      joined (declared_at depth set (token ∷ rest)) (declared (depth_after depth token.symbol) (set_after depth set token.symbol) rest)
      (declared_at depth set (all_renamed (token ∷ rest))) (declared (depth_after depth token.symbol) (set_after depth set token.symbol) (all_renamed rest))
      (declared_at-renamed depth set (token ∷ rest))
      (declared-renamed (depth_after depth token.symbol) (set_after depth set token.symbol) rest)

  stars-by : (star word : Bool) (next : Lexeme M) (more : List (Lexeme M)) (others : List (Lexeme N)) → all_renamed more ≡ others
      → all_renamed (cond star more (cond word (next ∷ []) [])) ≡ cond star others (cond word (renamed next ∷ []) [])
  stars-by true word next more others p = p
  stars-by false word next more others p = cond-renamed word (next ∷ []) []

  behind_stars-renamed : (starred : Bool) (row : List (Lexeme M)) → all_renamed (behind_stars starred row) ≡ behind_stars starred (all_renamed row)
  behind_stars-renamed starred [] = refl
  behind_stars-renamed starred (next ∷ rest) =
      stars-by (is_star next.symbol) (starred && is_word next.symbol) next (behind_stars true rest) (behind_stars true (all_renamed rest)) (behind_stars-renamed true rest)

  bracket-by : (b : Bool) (xs : List (Lexeme M)) (ys : List (Lexeme N)) → all_renamed xs ≡ ys → all_renamed (cond b xs []) ≡ cond b ys []
  bracket-by true xs ys p = p
  bracket-by false xs ys p = refl

  pointers-renamed : (depth : ℕ) (row : List (Lexeme M)) → all_renamed (pointers depth row) ≡ pointers depth (all_renamed row)
  pointers-renamed depth [] = refl
  pointers-renamed depth (bracket ∷ rest) =
      joined (cond (nat_eq depth 0 && is_left_parenthesis bracket.symbol) (behind_stars false rest) []) (pointers (depth_after depth bracket.symbol) rest)
      (cond (nat_eq depth 0 && is_left_parenthesis bracket.symbol) (behind_stars false (all_renamed rest)) []) (pointers (depth_after depth bracket.symbol) (all_renamed rest))
      (bracket-by (nat_eq depth 0 && is_left_parenthesis bracket.symbol) (behind_stars false rest) (behind_stars false (all_renamed rest)) (behind_stars-renamed false rest))
      (pointers-renamed (depth_after depth bracket.symbol) rest)

  said-renamed : (row : List (Lexeme M)) → is_said row ≡ is_said (all_renamed row)
  said-renamed [] = refl
  said-renamed (next ∷ []) = refl
  said-renamed (next ∷ (after ∷ rest)) = refl

  behind_brackets-renamed : (nested : Bool) (row : List (Lexeme M)) → all_renamed (behind_brackets nested row) ≡ behind_brackets nested (all_renamed row)
  behind_brackets-renamed nested [] = refl
  behind_brackets-renamed nested (next ∷ rest) =
      stars-by (is_star next.symbol || is_left_parenthesis next.symbol) (is_identifier next.symbol && (nested || is_said rest)) next
      (behind_brackets true rest) (behind_brackets true (all_renamed rest)) (behind_brackets-renamed true rest)
      ∙ ap (λ said. cond (is_star next.symbol || is_left_parenthesis next.symbol) (behind_brackets true (all_renamed rest))
      (cond (is_identifier next.symbol && (nested || said)) (renamed next ∷ []) [])) (said-renamed rest)

  bracketed-renamed : (depth : ℕ) (set : Bool) (row : List (Lexeme M)) → all_renamed (bracketed depth set row) ≡ bracketed depth set (all_renamed row)
  bracketed-renamed depth set [] = refl
  bracketed-renamed depth set (bracket ∷ rest) =
      let here = (nat_eq depth 0 && not set) && is_left_parenthesis bracket.symbol in
      let deeper = depth_after depth bracket.symbol in
      let behind = set_after depth set bracket.symbol in
      joined (cond here (behind_brackets false rest) []) (bracketed deeper behind rest)
      (cond here (behind_brackets false (all_renamed rest)) []) (bracketed deeper behind (all_renamed rest))
      (bracket-by here (behind_brackets false rest) (behind_brackets false (all_renamed rest)) (behind_brackets-renamed false rest))
      (bracketed-renamed deeper behind rest)

  offered-renamed : (row : List (Lexeme M)) → all_renamed (offered row) ≡ offered (all_renamed row)
  offered-renamed row =
      joined (tags row) (enumerators Other Other [] row ++ (declared 0 false row ++ (pointers 0 row ++ bracketed 0 false row))) (tags (all_renamed row))
      (enumerators Other Other [] (all_renamed row) ++ (declared 0 false (all_renamed row) ++ (pointers 0 (all_renamed row) ++ bracketed 0 false (all_renamed row))))
      (tags-renamed row)
      (joined (enumerators Other Other [] row) (declared 0 false row ++ (pointers 0 row ++ bracketed 0 false row)) (enumerators Other Other [] (all_renamed row))
      (declared 0 false (all_renamed row) ++ (pointers 0 (all_renamed row) ++ bracketed 0 false (all_renamed row)))
      (enumerators-renamed Other Other [] row)
      (joined (declared 0 false row) (pointers 0 row ++ bracketed 0 false row) (declared 0 false (all_renamed row)) (pointers 0 (all_renamed row) ++ bracketed 0 false (all_renamed row))
      (declared-renamed 0 false row)
      (joined (pointers 0 row) (bracketed 0 false row) (pointers 0 (all_renamed row)) (bracketed 0 false (all_renamed row))
      (pointers-renamed 0 row) (bracketed-renamed 0 false row))))

  has_body-renamed : (depth : ℕ) (before : Symbol) (body last : Bool) (row : List (Lexeme M))
      → has_body depth before body last row ≡ has_body depth before body last (all_renamed row)
  has_body-renamed depth before body last [] = refl
  has_body-renamed depth before body last (token ∷ rest) =
      has_body-renamed (depth_after depth token.symbol) token.symbol (body_after depth before body token.symbol) (ends_body depth body token.symbol) rest

  offers_main-renamed : (words : List (Lexeme M)) → offers_main words ≡ offers_main (all_renamed words)
  offers_main-renamed [] = refl
  offers_main-renamed (word ∷ rest) = ap (λ b. is_main word.symbol || b) (offers_main-renamed rest)

  offers_built_in-renamed : (words : List (Lexeme M)) → offers_built_in words ≡ offers_built_in (all_renamed words)
  offers_built_in-renamed [] = refl
  offers_built_in-renamed (word ∷ rest) = ap (λ b. is_built_in word.symbol && b) (offers_built_in-renamed rest)

  pub defines_main-renamed : (row : List (Lexeme M)) → defines_main row ≡ defines_main (all_renamed row)
  unfolding defines_main
  defines_main-renamed row =
      ap (λ b. b && offers_main (declared 0 false row)) (has_body-renamed 0 Other false false row)
      ∙ ap (λ b. ends_with_body (all_renamed row) && b) (offers_main-renamed (declared 0 false row) ∙ ap (λ (xs : List (Lexeme N)). offers_main xs) (declared-renamed 0 false row))

  declares_built_in-renamed : (row : List (Lexeme M)) → declares_built_in row ≡ declares_built_in (all_renamed row)
  declares_built_in-renamed row =
      ap (λ b. not b && offers_built_in (offered row)) (has_body-renamed 0 Other false false row)
      ∙ ap (λ b. not (ends_with_body (all_renamed row)) && b) (offers_built_in-renamed (offered row) ∙ ap (λ (xs : List (Lexeme N)). offers_built_in xs) (offered-renamed row))

  words-renamed : (row : List (Lexeme M)) → map f (map (λ (token : Lexeme M). token.word) row) ≡ map (λ (token : Lexeme N). token.word) (all_renamed row)
  words-renamed [] = refl
  words-renamed (token ∷ rest) = ap (λ xs. f token.word ∷ xs) (words-renamed rest)

  none-by : (b : Bool) (xs : List M) (ys : List N) → map f xs ≡ ys → map f (cond b [] xs) ≡ cond b [] ys
  none-by true xs ys p = refl
  none-by false xs ys p = p

  pub needed_by-renamed : (row : List (Lexeme M)) → map f (needed_by row) ≡ needed_by (all_renamed row)
  unfolding needed_by
  needed_by-renamed row =
      none-by (declares_built_in row) (map (λ (token : Lexeme M). token.word) (offered row)) (map (λ (token : Lexeme N). token.word) (offered (all_renamed row)))
      (words-renamed (offered row) ∙ ap (λ (xs : List (Lexeme N)). map (λ (token : Lexeme N). token.word) xs) (offered-renamed row))
      ∙ ap (λ b. cond b [] (map (λ (token : Lexeme N). token.word) (offered (all_renamed row)))) (declares_built_in-renamed row)

  word-by : (b : Bool) (x : M) (xs : List M) (ys : List N) → map f xs ≡ ys → map f (cond b (x ∷ xs) xs) ≡ cond b (f x ∷ ys) ys
  word-by true x xs ys p = ap (λ zs. f x ∷ zs) p
  word-by false x xs ys p = p

  pub contained-renamed : (before : Symbol) (row : List (Lexeme M)) → map f (contained before row) ≡ contained before (all_renamed row)
  contained-renamed before [] = refl
  contained-renamed before (token ∷ rest) =
      word-by (is_word token.symbol && not (is_selector before)) token.word (contained token.symbol rest) (contained token.symbol (all_renamed rest))
      (contained-renamed token.symbol rest)

  pub lexemes-renamed : (symbols : List Symbol) (words : List M) → all_renamed (lexemes symbols words) ≡ lexemes symbols (map f words)
  lexemes-renamed [] words = refl
  lexemes-renamed (symbol ∷ symbols) [] = refl
  lexemes-renamed (symbol ∷ symbols) (word ∷ words) = ap (λ xs. record { symbol = symbol; word = f word } ∷ xs) (lexemes-renamed symbols words)

  kept-by : (b : Bool) (token : Lexeme M) (xs : List (Lexeme M)) (ys : List (Lexeme N)) → all_renamed xs ≡ ys
      → all_renamed (cond b (token ∷ xs) xs) ≡ cond b (renamed token ∷ ys) ys
  kept-by true token xs ys p = ap (λ zs. renamed token ∷ zs) p
  kept-by false token xs ys p = p

  kept-renamed : (row : List (Lexeme M)) → all_renamed (kept row) ≡ kept (all_renamed row)
  kept-renamed [] = refl
  kept-renamed (token ∷ rest) = kept-by (not (is_passed_over token.symbol)) token (kept rest) (kept (all_renamed rest)) (kept-renamed rest)

  pub item_row-renamed : (row : List (Lexeme M)) (span : ItemSpan) → all_renamed (item_row row span) ≡ item_row (all_renamed row) span
  item_row-renamed row span =
      kept-renamed (slice_range row span.first span.after)
      ∙ ap (λ (xs : List (Lexeme N)). kept xs)
      (sym (take-map renamed (span.after - span.first) (drop span.first row)) ∙ ap (λ (xs : List (Lexeme N)). take (span.after - span.first) xs) (sym (drop-map renamed span.first row)))
