-- What is known behind a row, token by token, says in which brackets of an attribute the row ends.
use Rattle.std.proofs.Common.{◌≡◌, ℕ, zero, suc, ◌+◌, ◌-◌, Bool, true, false, ◌&&◌, if◌then◌else◌, refl, ap, sym, ◌∙◌, subst, List, [], ◌∷◌, ◌++◌, append_assoc, append-nil, arith}
use Rattle.cgrammar.proofs.Truth.{and-left, and-right}
use Rattle.cgrammar.specs.Terminals.{Terminal}
use Rattle.cconstructs.specs.declared.part.Part.{Part}
use Rattle.cconstructs.specs.Layout.{is_attribute, separates, EndsInAttribute, EndsInNoAttribute}
use Rattle.cconstructs.specs.LayoutFinding.{outside, within, part_behind}
use Rattle.cconstructs.specs.OpenBrackets.{opens, closes, AreClosed, NothingMore, NoBracket, InBrackets, LeaveOpen, NoneOpen, OneOpen}
use Rattle.cgrammar.proofs.Truth.{not-true}
use Rattle.cconstructs.proofs.Closed.{closing_opens_none, attribute_opens_none, attribute_closes_none, open_more, plain_more, close_more}

-- what is known behind a row, where this is known before it
abbrev pub behind_row : Part → List Terminal → Part
behind_row part [] = part
behind_row part (token ∷ others) = behind_row (part_behind part.behind part.unclosed token) others

rows_behind : (part : Part) (one other : List Terminal) → behind_row part (one ++ other) ≡ behind_row (behind_row part one) other
rows_behind part [] other = refl
rows_behind part (token ∷ one) other = rows_behind (part_behind part.behind part.unclosed token) one other

one_behind : (part : Part) (row : List Terminal) (token : Terminal)
    → behind_row part (row ++ (token ∷ [])) ≡ part_behind (behind_row part row).behind (behind_row part row).unclosed token
one_behind part row token = rows_behind part row (token ∷ [])

-- within an attribute's brackets a token opens one more, or closes one
behind_opening : (part : Part) (token : Terminal) (count : ℕ) → part.unclosed ≡ suc count → opens token ≡ true → (part_behind part.behind part.unclosed token).unclosed ≡ suc (suc count)
behind_opening part token count is begins =
    ap (λ (n : ℕ). (part_behind part.behind n token).unclosed) is
    ∙ (ap (λ (b : Bool). if b then suc count + 1 else (if closes token then suc count - 1 else suc count)) begins ∙ omega arith)

behind_plain : (part : Part) (token : Terminal) (count : ℕ) → part.unclosed ≡ suc count → opens token ≡ false → closes token ≡ false → (part_behind part.behind part.unclosed token).unclosed ≡ suc count
behind_plain part token count is begins end =
    ap (λ (n : ℕ). (part_behind part.behind n token).unclosed) is
    ∙ (λ i. if begins i then suc count + 1 else (if end i then suc count - 1 else suc count))

behind_closing : (part : Part) (token : Terminal) (count : ℕ) → part.unclosed ≡ suc (suc count) → closes token ≡ true → (part_behind part.behind part.unclosed token).unclosed ≡ suc count
behind_closing part token count is end =
    ap (λ (n : ℕ). (part_behind part.behind n token).unclosed) is
    ∙ ((λ i. if closing_opens_none token end i then suc (suc count) + 1 else (if end i then suc (suc count) - 1 else suc (suc count))) ∙ omega arith)

-- a row whose brackets are closed leaves as many open as there were
through_closed : {row : List Terminal} → AreClosed row → (part : Part) (count : ℕ) → part.unclosed ≡ suc count → (behind_row part row).unclosed ≡ suc count
through_closed NothingMore part count is = is
through_closed (NoBracket token begins end rest) part count is =
    through_closed rest (part_behind part.behind part.unclosed token) count
    (behind_plain part token count is (not-true (opens token) begins) (not-true (closes token) end))
through_closed (InBrackets {inside} {rest} opening closing begins between end others) part count is =
    let first : Part = part_behind part.behind part.unclosed opening in
    let second : Part = behind_row first inside in
    ap (λ (p : Part). p.unclosed) (rows_behind first inside (closing ∷ rest))
    ∙ through_closed others (part_behind second.behind second.unclosed closing) count
    (behind_closing second closing count (through_closed between first (suc count) (behind_opening part opening count is begins)) end)

through_open : {row : List Terminal} {more : ℕ} → LeaveOpen more row → (part : Part) (count : ℕ) → part.unclosed ≡ suc count → (behind_row part row).unclosed ≡ suc (count + more)
through_open (NoneOpen closed) part count is = through_closed closed part count is ∙ omega arith
through_open (OneOpen {front} {rest} {count = fewer} opening closed begins further) part count is =
    let first : Part = behind_row part front in
    ap (λ (p : Part). p.unclosed) (rows_behind part front (opening ∷ rest))
    ∙ (through_open further (part_behind first.behind first.unclosed opening) (suc count)
    (behind_opening first opening count (through_closed closed part count is) begins) ∙ omega arith)

-- an attribute's word with the bracket behind it, outside of another attribute and in one
first_bracket : (part : Part) (word opening : Terminal) → is_attribute word ≡ true → opens opening ≡ true → part.unclosed ≡ 0
    → (behind_row part (word ∷ (opening ∷ []))).unclosed ≡ 1
first_bracket part word opening is begins none =
    ap (λ (p : Part). (part_behind p.behind p.unclosed opening).unclosed) (behind_word part.behind)
    ∙ ap (λ (b : Bool). (if b then within 1 true else outside (is_attribute opening)).unclosed) begins
  where
    behind_word : (behind : Bool) → part_behind behind part.unclosed word ≡ outside true
    behind_word true = ap (λ (n : ℕ). part_behind true n word) none ∙ (λ i. if attribute_opens_none word is i then within 1 true else outside (is i))
    behind_word false = ap (λ (n : ℕ). part_behind false n word) none ∙ ap outside is

deeper_bracket : (part : Part) (word opening : Terminal) (count : ℕ) → is_attribute word ≡ true → opens opening ≡ true → part.unclosed ≡ suc count
    → (behind_row part (word ∷ (opening ∷ []))).unclosed ≡ suc (suc count)
deeper_bracket part word opening count is begins there =
    let next : Part = part_behind part.behind part.unclosed word in
    behind_opening next opening count (behind_plain part word count there (attribute_opens_none word is) (attribute_closes_none word is)) begins

attribute_open : (part : Part) (row : List Terminal) (count : ℕ) (ends : EndsInAttribute count row) (first : ℕ)
    → (behind_row (behind_row part ends.before) (ends.word ∷ (ends.opening ∷ []))).unclosed ≡ suc first → (behind_row part row).unclosed ≡ suc (first + count)
attribute_open part row count ends first is =
    ap (λ (row : List Terminal). (behind_row part row).unclosed) ends.is
    ∙ (ap (λ (p : Part). p.unclosed) (rows_behind part ends.before (ends.word ∷ (ends.opening ∷ ends.inside)))
    ∙ through_open ends.left (behind_row (behind_row part ends.before) (ends.word ∷ (ends.opening ∷ []))) first is)

-- where a row ends in an attribute's brackets, some are open
never_closed : (part : Part) (row : List Terminal) (count : ℕ) → EndsInAttribute count row → (behind_row part row).unclosed ≡ 0 → ⊥
never_closed part row count ends none = step (behind_row part ends.before).unclosed refl
  where
    some : (first : ℕ) → (behind_row (behind_row part ends.before) (ends.word ∷ (ends.opening ∷ []))).unclosed ≡ suc first → ⊥
    some first is = let both : suc (first + count) ≡ 0 = sym (attribute_open part row count ends first is) ∙ none in absurd (omega (arith, both))

    step : (n : ℕ) → (behind_row part ends.before).unclosed ≡ n → ⊥
    step zero is = some 0 (first_bracket (behind_row part ends.before) ends.word ends.opening ends.attributes ends.begins is)
    step (suc n) is = some (suc n) (deeper_bracket (behind_row part ends.before) ends.word ends.opening n ends.attributes ends.begins is)

-- The brackets of an attribute that stands in no other one.
pub record EndsInOuter (count : ℕ) (row : List Terminal) : Type 0 where
  pub ends : EndsInAttribute count row
  pub apart : EndsInNoAttribute ends.before

abbrev start : Part
start = outside false

pub record EndsBehindWord (row : List Terminal) : Type 0 where
  pub before : List Terminal
  pub word : Terminal
  pub is : row ≡ before ++ (word ∷ [])
  pub attributes : is_attribute word ≡ true
  pub apart : (behind_row start before).unclosed ≡ 0

pub record EndsWith (row : List Terminal) (separated : Bool) : Type 0 where
  pub before : List Terminal
  pub last : Terminal
  pub is : row ≡ before ++ (last ∷ [])
  pub same : separated ≡ separates last

-- what the state behind a row says of the row
pub record Known (row : List Terminal) : Type 0 where
  pub inside : (count : ℕ) → (behind_row start row).unclosed ≡ suc count → EndsInOuter count row
  pub behind : (behind_row start row).behind ≡ true → EndsBehindWord row
  pub last : (count : ℕ) → (behind_row start row).unclosed ≡ suc (suc count) → EndsWith row (behind_row start row).separated

known_none : Known []
known_none = record {
  inside = λ count is. absurd (omega (arith, is));
  behind = λ is. let wrong : false ≡ true = is in cc wrong;
  last = λ count is. absurd (omega (arith, is));
}

one_more : {count : ℕ} {row : List Terminal} (more : ℕ) (token : Terminal) → ((inside : List Terminal) → LeaveOpen count inside → LeaveOpen more (inside ++ (token ∷ [])))
    → EndsInOuter count row → EndsInOuter more (row ++ (token ∷ []))
one_more more token opened outer = record {
  ends = record {
    before = outer.ends.before;
    word = outer.ends.word;
    opening = outer.ends.opening;
    inside = outer.ends.inside ++ (token ∷ []);
    is = ap (λ (row : List Terminal). row ++ (token ∷ [])) outer.ends.is ∙ append_assoc outer.ends.before (outer.ends.word ∷ (outer.ends.opening ∷ outer.ends.inside)) (token ∷ []);
    attributes = outer.ends.attributes;
    begins = outer.ends.begins;
    left = opened outer.ends.inside outer.ends.left;
  };
  apart = outer.apart;
}

-- the first bracket behind an attribute's word
first_more : {row : List Terminal} (token : Terminal) → EndsBehindWord row → opens token ≡ true → EndsInOuter 0 (row ++ (token ∷ []))
first_more token behind begins = record {
  ends = record {
    before = behind.before;
    word = behind.word;
    opening = token;
    inside = [];
    is = ap (λ (row : List Terminal). row ++ (token ∷ [])) behind.is ∙ append_assoc behind.before (behind.word ∷ []) (token ∷ []);
    attributes = behind.attributes;
    begins = begins;
    left = NoneOpen NothingMore;
  };
  apart = λ count ends. never_closed start behind.before count ends behind.apart;
}

module _ (row : List Terminal) (token : Terminal) (known : Known row) where
  abbrev state : Part
  state = behind_row start row

  -- a token in an attribute's brackets
  deeper : (n count : ℕ) → state.unclosed ≡ suc n → (part_behind state.behind (suc n) token).unclosed ≡ suc count → EndsInOuter count (row ++ (token ∷ []))
  deeper n count there is = step (opens token) (closes token) refl refl is
    where
      step : (begins end : Bool) → opens token ≡ begins → closes token ≡ end → (if begins then suc n + 1 else (if end then suc n - 1 else suc n)) ≡ suc count → EndsInOuter count (row ++ (token ∷ []))
      step true end opened ended counted =
          let same : suc n ≡ count = omega (arith, counted) in
          subst (λ (c : ℕ). EndsInOuter c (row ++ (token ∷ []))) same (one_more (suc n) token (λ inside left. open_more token opened left) (known.inside n there))
      step false true opened ended counted =
          let same : n ≡ suc count = omega (arith, counted) in
          one_more count token (λ inside left. close_more token ended left) (subst (λ (c : ℕ). EndsInOuter c row) same (known.inside n there))
      step false false opened ended counted =
          let same : n ≡ count = omega (arith, counted) in
          one_more count token (λ inside left. plain_more token opened ended left) (subst (λ (c : ℕ). EndsInOuter c row) same (known.inside n there))

  first : (count : ℕ) → (if state.behind && opens token then within 1 true else outside (is_attribute token)).unclosed ≡ suc count → EndsInOuter count (row ++ (token ∷ []))
  first count is = step (state.behind && opens token) refl is
    where
      step : (b : Bool) → (state.behind && opens token) ≡ b → (if b then within 1 true else outside (is_attribute token)).unclosed ≡ suc count → EndsInOuter count (row ++ (token ∷ []))
      step true both counted =
          let same : 0 ≡ count = omega (arith, counted) in
          subst (λ (c : ℕ). EndsInOuter c (row ++ (token ∷ []))) same
          (first_more token (known.behind (and-left state.behind (opens token) both)) (and-right state.behind (opens token) both))
      step false both counted = absurd (omega (arith, counted))

  inside_next : (n : ℕ) → state.unclosed ≡ n → (count : ℕ) → (part_behind state.behind n token).unclosed ≡ suc count → EndsInOuter count (row ++ (token ∷ []))
  inside_next zero there count is = first count is
  inside_next (suc n) there count is = deeper n count there is

  behind_next : (n : ℕ) → state.unclosed ≡ n → (part_behind state.behind n token).behind ≡ true → EndsBehindWord (row ++ (token ∷ []))
  behind_next (suc n) there is = let wrong : false ≡ true = is in cc wrong
  behind_next zero there is = step (state.behind && opens token) is
    where
      step : (b : Bool) → (if b then within 1 true else outside (is_attribute token)).behind ≡ true → EndsBehindWord (row ++ (token ∷ []))
      step true wrong = cc wrong
      step false word = record { before = row; word = token; is = refl; attributes = word; apart = there }

  last_next : (n : ℕ) → (count : ℕ) → (part_behind state.behind n token).unclosed ≡ suc (suc count) → EndsWith (row ++ (token ∷ [])) (part_behind state.behind n token).separated
  last_next (suc n) count is = record { before = row; last = token; is = refl; same = refl }
  last_next zero count is = step (state.behind && opens token) is
    where
      step : (b : Bool) → (if b then within 1 true else outside (is_attribute token)).unclosed ≡ suc (suc count)
          → EndsWith (row ++ (token ∷ [])) (part_behind state.behind zero token).separated
      step true wrong = absurd (omega (arith, wrong))
      step false wrong = absurd (omega (arith, wrong))

  known_next : Known (row ++ (token ∷ []))
  known_next = record {
    inside = λ count is. inside_next state.unclosed refl count (sym (ap (λ (p : Part). p.unclosed) (one_behind start row token)) ∙ is);
    behind = λ is. behind_next state.unclosed refl (sym (ap (λ (p : Part). p.behind) (one_behind start row token)) ∙ is);
    last = λ count is.
        subst (λ (p : Part). EndsWith (row ++ (token ∷ [])) p.separated) (sym (one_behind start row token))
        (last_next state.unclosed count (sym (ap (λ (p : Part). p.unclosed) (one_behind start row token)) ∙ is));
  }

known_behind : (front rest : List Terminal) → Known front → Known (front ++ rest)
known_behind front [] known = subst Known (sym (append-nil front)) known
known_behind front (token ∷ rest) known =
    subst Known (append_assoc front (token ∷ []) rest) (known_behind (front ++ (token ∷ [])) rest (known_next front token known))

pub known_all : (row : List Terminal) → Known row
known_all row = known_behind [] row known_none

-- where a row ends in the brackets of an attribute that stands in no other one, so many are open
pub outer_open : (row : List Terminal) (count : ℕ) → EndsInOuter count row → (behind_row start row).unclosed ≡ suc count
outer_open row count outer = step (behind_row start outer.ends.before).unclosed refl
  where
    step : (n : ℕ) → (behind_row start outer.ends.before).unclosed ≡ n → (behind_row start row).unclosed ≡ suc count
    step zero is = attribute_open start row count outer.ends 0 (first_bracket (behind_row start outer.ends.before) outer.ends.word outer.ends.opening outer.ends.attributes outer.ends.begins is) ∙ omega arith
    step (suc n) is = absurd (let found = (known_all outer.ends.before).inside n is in outer.apart n found.ends)

-- in two brackets and more the last token says whether a name may stand behind it
pub separated_last : (row : List Terminal) (token : Terminal) (count : ℕ) → (behind_row start (row ++ (token ∷ []))).unclosed ≡ suc (suc count)
    → (behind_row start (row ++ (token ∷ []))).separated ≡ separates token
separated_last row token count is =
    ap (λ (p : Part). p.separated) (one_behind start row token)
    ∙ step (behind_row start row).unclosed (behind_row start row).behind (sym (ap (λ (p : Part). p.unclosed) (one_behind start row token)) ∙ is)
  where
    step : (n : ℕ) (behind : Bool) → (part_behind behind n token).unclosed ≡ suc (suc count) → (part_behind behind n token).separated ≡ separates token
    step (suc n) behind counted = refl
    step zero behind counted = first (behind && opens token) counted
      where
        first : (b : Bool) → (if b then within 1 true else outside (is_attribute token)).unclosed ≡ suc (suc count)
            → (part_behind behind zero token).separated ≡ separates token
        first true wrong = absurd (omega (arith, wrong))
        first false wrong = absurd (omega (arith, wrong))
