-- Where the items end token by token is where they end by the rule.
use Rattle.std.proofs.Common.{◌≡◌, ℕ, ◌+◌, ◌<◌, ◌≤◌, ◌⊎◌, Bool, true, false, cond, ◌&&◌, ◌||◌, List, [], ◌∷◌, length, drop, Option, None, Some, MatchOption, Result, Ok, Err, zero, suc, refl, sym, ap, ◌∙◌, subst, inl, inr, arith, nat_eq}
use borrow.Author.Tests.{eqb-true, eqb-false}
use Rattle.std.proofs.lemmas.Bool.{false≢true, cases_lt}
use Rattle.std.specs.List.{slice_get}
use Rattle.cbase.specs.declared.place.Place.{Place}
use Rattle.ctokens.proofs.Choices.{true_and, or_true}
use Rattle.ctokens.specs.declared.item_span.ItemSpan.{ItemSpan}
use Rattle.ctokens.specs.declared.item_span.Deep.{Deep}
use Rattle.ctokens.specs.declared.symbol.Symbol.{Symbol}
use Rattle.ctokens.specs.declared.symbol.Symbol.TheVariants.{PassedOver, RightBrace, Semicolon, Other}
use Rattle.ctokens.specs.declared.token.Token.{Token}
use Rattle.ctokens.specs.declared.token.Tokens.{Tokens}
use Rattle.ctokens.specs.Symbol.{is_opening, is_closing, is_passed_over, is_left_brace, is_right_brace, is_right_parenthesis, is_semicolon}
use Rattle.ctokens.specs.TokenSymbols.{symbols}
use Rattle.ctokens.specs.Passed.{depth_after, read_symbols}
use Rattle.ctokens.specs.Items.{symbol_at, depth_behind, depth_at, IsBehindParenthesis, BeginsBody, EndsAt, WithSemicolon, WithBody, AreItems, NoToken, LeftOver, Ending, IsDeepAt, IsFirstDeep, AreSpans, IsItems}
use Rattle.ctokens.specs.ItemEnds.{ends_declaration, ends_body, body_after, item_ends, spans, spans_of, first_deep}

-- ---- tests

both_left : (a b : Bool) → (a && b) ≡ true → a ≡ true
both_left true b h = refl
both_left false b h = absurd (false≢true h)

both_right : (a b : Bool) → (a && b) ≡ true → b ≡ true
both_right true b h = h
both_right false b h = absurd (false≢true h)

either : (a b : Bool) → (a || b) ≡ true → (a ≡ true) ⊎ (b ≡ true)
either true b h = inl refl
either false b h = inr h

either_left : (a b : Bool) → a ≡ true → (a || b) ≡ true
either_left true b h = refl
either_left false b h = absurd (false≢true h)

-- ---- symbols

passed_depth : (symbol : Symbol) (depth : ℕ) → is_passed_over symbol ≡ true → depth_after depth symbol ≡ depth
passed_depth PassedOver depth h = refl
passed_depth _ depth h = absurd (false≢true h)

passed_parenthesis : (symbol : Symbol) → is_passed_over symbol ≡ true → is_right_parenthesis symbol ≡ true → ⊥
passed_parenthesis PassedOver h p = false≢true p
passed_parenthesis _ h p = false≢true h

passed_left_brace : (symbol : Symbol) → is_passed_over symbol ≡ true → is_left_brace symbol ≡ true → ⊥
passed_left_brace PassedOver h p = false≢true p
passed_left_brace _ h p = false≢true h

passed_right_brace : (symbol : Symbol) → is_passed_over symbol ≡ true → is_right_brace symbol ≡ true → ⊥
passed_right_brace PassedOver h p = false≢true p
passed_right_brace _ h p = false≢true h

passed_semicolon : (symbol : Symbol) → is_passed_over symbol ≡ true → is_semicolon symbol ≡ true → ⊥
passed_semicolon PassedOver h p = false≢true p
passed_semicolon _ h p = false≢true h

-- behind a `;` at depth 0, and behind a `}` at depth 1, no bracket is open, and neither is a `)`
after_semicolon : (symbol : Symbol) (depth : ℕ) → is_semicolon symbol ≡ true → depth ≡ 0 → (depth_after depth symbol ≡ 0) × (is_right_parenthesis symbol ≡ false)
after_semicolon Semicolon depth h e = (e, refl)
after_semicolon _ depth h e = absurd (false≢true h)

after_right_brace : (symbol : Symbol) (depth : ℕ) → is_right_brace symbol ≡ true → depth ≡ 1 → (depth_after depth symbol ≡ 0) × (is_right_parenthesis symbol ≡ false)
after_right_brace RightBrace depth h e = (omega arith, refl)
after_right_brace _ depth h e = absurd (false≢true h)

-- ---- a token of a row

head_is : (row : List Symbol) (at : ℕ) (symbol : Symbol) (rest : List Symbol) → drop at row ≡ symbol ∷ rest
    → (at < length row) × (symbol_at row at ≡ symbol) × (drop (suc at) row ≡ rest)
head_is [] zero symbol rest e = absurd cc
head_is [] (suc at) symbol rest e = absurd cc
head_is (x ∷ xs) zero symbol rest e = let first : x ≡ symbol = cc in let others : xs ≡ rest = cc in (omega arith, first, others)
head_is (x ∷ xs) (suc at) symbol rest e = let known = head_is xs at symbol rest e in let less = known.0 in (omega arith, known.1, known.2)

end_is : (row : List Symbol) (at : ℕ) → drop at row ≡ [] → length row ≤ at
end_is [] at e = omega arith
end_is (x ∷ xs) zero e = absurd cc
end_is (x ∷ xs) (suc at) e = let known = end_is xs at e in omega arith

depth_step : (row : List Symbol) (depth at : ℕ) → at < length row → depth_behind depth row (suc at) ≡ depth_after (depth_behind depth row at) (symbol_at row at)
depth_step [] depth at less = absurd (omega arith)
depth_step (x ∷ xs) depth zero less = refl
depth_step (x ∷ xs) depth (suc at) less = depth_step xs (depth_after depth x) at (omega arith)

-- ---- what is known before a token

record Opened (row : List Symbol) (at : ℕ) : Type 0 where
  begin : ℕ
  begins : BeginsBody row begin
  earlier : begin < at
  between : (k : ℕ) → begin < k → k ≤ at → 0 < depth_at row k

record Known (row : List Symbol) (at depth : ℕ) (before : Symbol) (body : Bool) : Type 0 where
  depth_is : depth ≡ depth_at row at
  behind : is_right_parenthesis before ≡ true → IsBehindParenthesis row at
  behind_back : IsBehindParenthesis row at → is_right_parenthesis before ≡ true
  opened : 0 < depth → body ≡ true → Opened row at
  opened_back : 0 < depth → Opened row at → body ≡ true

-- one more place behind a row of places
one_more : (P : ℕ → Type 0) (low at : ℕ) → ((k : ℕ) → low < k → k ≤ at → P k) → P (suc at) → (k : ℕ) → low < k → k ≤ suc at → P k
one_more P low at known here k above below =
    elim (cases_lt at k) as (λ _. P k) [
      | inl last ↦ let e : suc at ≡ k = omega arith in subst P e here
      | inr inside ↦ known k above inside
    ]

known_passed : (row : List Symbol) (at depth : ℕ) (before : Symbol) (body : Bool) (symbol : Symbol) → at < length row → symbol_at row at ≡ symbol
    → is_passed_over symbol ≡ true → Known row at depth before body → Known row (suc at) depth before body
known_passed row at depth before body symbol less is passed known =
    let here : is_passed_over (symbol_at row at) ≡ true = ap is_passed_over is ∙ passed in
    let same : depth_at row (suc at) ≡ depth_at row at = depth_step row 0 at less ∙ passed_depth (symbol_at row at) (depth_at row at) here in
    record {
      depth_is = known.depth_is ∙ sym same;
      behind = λ h. let old = known.behind h in record {
        before = old.before;
        earlier = let l = old.earlier in omega arith;
        parenthesis = old.parenthesis;
        between = λ k above below. elim (cases_lt k at) as (λ _. is_passed_over (symbol_at row k) ≡ true) [
          | inl inside ↦ old.between k above inside
          | inr last ↦ let e : at ≡ k = omega arith in subst (λ (x : ℕ). is_passed_over (symbol_at row x) ≡ true) e here
        ];
      };
      behind_back = λ now. elim (cases_lt now.before at) as (λ _. is_right_parenthesis before ≡ true) [
        | inl inside ↦ known.behind_back (record {
          before = now.before;
          earlier = inside;
          parenthesis = now.parenthesis;
          between = λ k above below. now.between k above (omega arith);
        })
        | inr last ↦
            let e : now.before ≡ at = let l = now.earlier in omega arith in
            absurd (passed_parenthesis (symbol_at row at) here (subst (λ (x : ℕ). is_right_parenthesis (symbol_at row x) ≡ true) e now.parenthesis))
      ];
      opened = λ deep h. let old = known.opened deep h in record {
        begin = old.begin;
        begins = old.begins;
        earlier = let l = old.earlier in omega arith;
        between = one_more (λ k. 0 < depth_at row k) old.begin at old.between (let l = known.depth_is in omega arith);
      };
      opened_back = λ deep now. elim (cases_lt now.begin at) as (λ _. body ≡ true) [
        | inl inside ↦ known.opened_back deep (record {
          begin = now.begin;
          begins = now.begins;
          earlier = inside;
          between = λ k above below. now.between k above (omega arith);
        })
        | inr last ↦
            let e : now.begin ≡ at = let l = now.earlier in omega arith in
            absurd (passed_left_brace (symbol_at row at) here (subst (λ (x : ℕ). is_left_brace (symbol_at row x) ≡ true) e now.begins.brace))
      ];
    }

closed_by : (opening closing : Bool) → opening ≡ false → 0 < cond opening 1 (cond closing 0 0) → ⊥
closed_by true closing e h = false≢true (sym e)
closed_by false true e h = omega arith
closed_by false false e h = omega arith

deeper : (depth : ℕ) (symbol : Symbol) → (nat_eq depth 0 && is_opening symbol) ≡ false → 0 < depth_after depth symbol → 0 < depth
deeper zero symbol e h = absurd (closed_by (is_opening symbol) (is_closing symbol) e h)
deeper (suc depth) symbol e h = omega arith

opened_by : (c : Bool) (row : List Symbol) (at depth : ℕ) (before : Symbol) (body : Bool) (symbol : Symbol) → (nat_eq depth 0 && is_opening symbol) ≡ c
    → at < length row → symbol_at row at ≡ symbol → depth_at row (suc at) ≡ depth_after depth symbol → Known row at depth before body
    → 0 < depth_after depth symbol → cond c (is_left_brace symbol && is_right_parenthesis before) body ≡ true → Opened row (suc at)
opened_by true row at depth before body symbol c less is after known deep h =
    let d : depth ≡ 0 = omega (arith, eqb-true depth 0 (both_left (nat_eq depth 0) (is_opening symbol) c)) in
    record {
      begin = at;
      begins = record {
        brace = ap is_left_brace is ∙ both_left (is_left_brace symbol) (is_right_parenthesis before) h;
        outermost = sym known.depth_is ∙ d;
        behind = known.behind (both_right (is_left_brace symbol) (is_right_parenthesis before) h);
      };
      earlier = omega arith;
      between = λ k above below. let e : suc at ≡ k = omega arith in subst (λ (x : ℕ). 0 < depth_at row x) e (omega arith);
    }
opened_by false row at depth before body symbol c less is after known deep h =
    let old = known.opened (deeper depth symbol c deep) h in
    record {
      begin = old.begin;
      begins = old.begins;
      earlier = let l = old.earlier in omega arith;
      between = one_more (λ k. 0 < depth_at row k) old.begin at old.between (omega arith);
    }

opened_back_by : (c : Bool) (row : List Symbol) (at depth : ℕ) (before : Symbol) (body : Bool) (symbol : Symbol) → (nat_eq depth 0 && is_opening symbol) ≡ c
    → symbol_at row at ≡ symbol → Known row at depth before body → 0 < depth_after depth symbol → Opened row (suc at)
    → cond c (is_left_brace symbol && is_right_parenthesis before) body ≡ true
opened_back_by true row at depth before body symbol c is known deep now =
    let d : depth ≡ 0 = omega (arith, eqb-true depth 0 (both_left (nat_eq depth 0) (is_opening symbol) c)) in
    elim (cases_lt now.begin at) as (λ _. (is_left_brace symbol && is_right_parenthesis before) ≡ true) [
      | inl inside ↦ let l = now.between at inside (omega arith) in let m = known.depth_is in absurd (omega arith)
      | inr last ↦
          let e : now.begin ≡ at = let l = now.earlier in omega arith in
          let begins : BeginsBody row at = subst (λ (x : ℕ). BeginsBody row x) e now.begins in
          true_and (is_left_brace symbol) (is_right_parenthesis before) (ap is_left_brace (sym is) ∙ begins.brace) (known.behind_back begins.behind)
    ]
opened_back_by false row at depth before body symbol c is known deep now =
    let positive = deeper depth symbol c deep in
    elim (cases_lt now.begin at) as (λ _. body ≡ true) [
      | inl inside ↦ known.opened_back positive (record {
        begin = now.begin;
        begins = now.begins;
        earlier = inside;
        between = λ k above below. now.between k above (omega arith);
      })
      | inr last ↦
          let e : now.begin ≡ at = let l = now.earlier in omega arith in
          let none = now.begins.outermost in
          let here : depth_at row at ≡ 0 = subst (λ (x : ℕ). depth_at row x ≡ 0) e none in
          let m = known.depth_is in absurd (omega arith)
    ]

known_token : (row : List Symbol) (at depth : ℕ) (before : Symbol) (body : Bool) (symbol : Symbol) → at < length row → symbol_at row at ≡ symbol
    → is_passed_over symbol ≡ false → Known row at depth before body → Known row (suc at) (depth_after depth symbol) symbol (body_after depth before body symbol)
known_token row at depth before body symbol less is stays known =
    let after : depth_at row (suc at) ≡ depth_after depth symbol =
    depth_step row 0 at less ∙ (ap (λ s. depth_after (depth_at row at) s) is ∙ ap (λ (d : ℕ). depth_after d symbol) (sym known.depth_is)) in
    record {
      depth_is = sym after;
      behind = λ h. record {
        before = at;
        earlier = omega arith;
        parenthesis = ap is_right_parenthesis is ∙ h;
        between = λ k above below. absurd (omega arith);
      };
      behind_back = λ now. elim (cases_lt now.before at) as (λ _. is_right_parenthesis symbol ≡ true) [
        | inl inside ↦ absurd (false≢true (sym (ap is_passed_over is ∙ stays) ∙ now.between at inside (omega arith)))
        | inr last ↦
            let e : now.before ≡ at = let l = now.earlier in omega arith in
            ap is_right_parenthesis (sym is) ∙ subst (λ (x : ℕ). is_right_parenthesis (symbol_at row x) ≡ true) e now.parenthesis
      ];
      opened = λ deep h. opened_by (nat_eq depth 0 && is_opening symbol) row at depth before body symbol refl less is after known deep h;
      opened_back = λ deep now. opened_back_by (nat_eq depth 0 && is_opening symbol) row at depth before body symbol refl is known deep now;
    }

-- ---- where an item may end

ends_by_rule : (row : List Symbol) (at depth : ℕ) (before : Symbol) (body : Bool) (symbol : Symbol) → symbol_at row at ≡ symbol → Known row at depth before body
    → (ends_declaration depth symbol || ends_body depth body symbol) ≡ true → EndsAt row at
ends_by_rule row at depth before body symbol is known h =
    elim (either (ends_declaration depth symbol) (ends_body depth body symbol) h) as (λ _. EndsAt row at) [
      | inl declaration ↦
          let d : depth ≡ 0 = omega (arith, eqb-true depth 0 (both_left (nat_eq depth 0) (is_semicolon symbol) declaration)) in
          WithSemicolon (ap is_semicolon is ∙ both_right (nat_eq depth 0) (is_semicolon symbol) declaration) (sym known.depth_is ∙ d)
      | inr ends ↦
          let d : depth ≡ 1 = omega (arith, eqb-true depth 1 (both_left (nat_eq depth 1) (body && is_right_brace symbol) ends)) in
          let rest = both_right (nat_eq depth 1) (body && is_right_brace symbol) ends in
          let opened = known.opened (omega arith) (both_left body (is_right_brace symbol) rest) in
          WithBody opened.begin opened.begins (record {
            later = opened.earlier;
            brace = ap is_right_brace is ∙ both_right body (is_right_brace symbol) rest;
            returns = sym known.depth_is ∙ d;
            between = opened.between;
          })
    ]

rule_ends : (row : List Symbol) (at depth : ℕ) (before : Symbol) (body : Bool) (symbol : Symbol) → symbol_at row at ≡ symbol → Known row at depth before body
    → EndsAt row at → (ends_declaration depth symbol || ends_body depth body symbol) ≡ true
rule_ends row at depth before body symbol is known (WithSemicolon semicolon none) =
    let d : depth ≡ 0 = known.depth_is ∙ none in
    either_left (ends_declaration depth symbol) (ends_body depth body symbol)
    (true_and (nat_eq depth 0) (is_semicolon symbol) (ap (λ (x : ℕ). nat_eq x 0) d) (ap is_semicolon (sym is) ∙ semicolon))
rule_ends row at depth before body symbol is known (WithBody begin begins returns) =
    let d : depth ≡ 1 = known.depth_is ∙ returns.returns in
    let opened : body ≡ true = known.opened_back (omega arith) (record { begin = begin; begins = begins; earlier = returns.later; between = returns.between }) in
    or_true (ends_declaration depth symbol) (ends_body depth body symbol)
    (true_and (nat_eq depth 1) (body && is_right_brace symbol) (ap (λ (x : ℕ). nat_eq x 1) d)
    (true_and body (is_right_brace symbol) opened (ap is_right_brace (sym is) ∙ returns.brace)))

passed_ends : (row : List Symbol) (at : ℕ) (symbol : Symbol) → symbol_at row at ≡ symbol → is_passed_over symbol ≡ true → EndsAt row at → ⊥
passed_ends row at symbol is passed (WithSemicolon semicolon none) = passed_semicolon symbol passed (ap is_semicolon (sym is) ∙ semicolon)
passed_ends row at symbol is passed (WithBody begin begins returns) = passed_right_brace symbol passed (ap is_right_brace (sym is) ∙ returns.brace)

after_end : (depth : ℕ) (body : Bool) (symbol : Symbol) → (ends_declaration depth symbol || ends_body depth body symbol) ≡ true
    → (depth_after depth symbol ≡ 0) × (is_right_parenthesis symbol ≡ false)
after_end depth body symbol h =
    elim (either (ends_declaration depth symbol) (ends_body depth body symbol) h) as (λ _. (depth_after depth symbol ≡ 0) × (is_right_parenthesis symbol ≡ false)) [
      | inl declaration ↦ after_semicolon symbol depth (both_right (nat_eq depth 0) (is_semicolon symbol) declaration)
          (omega (arith, eqb-true depth 0 (both_left (nat_eq depth 0) (is_semicolon symbol) declaration)))
      | inr ends ↦ after_right_brace symbol depth (both_right body (is_right_brace symbol) (both_right (nat_eq depth 1) (body && is_right_brace symbol) ends))
          (omega (arith, eqb-true depth 1 (both_left (nat_eq depth 1) (body && is_right_brace symbol) ends)))
    ]

known_first : (row : List Symbol) (depth : ℕ) (before : Symbol) (body : Bool) → depth ≡ 0 → is_right_parenthesis before ≡ false → Known row 0 depth before body
known_first row depth before body none no_parenthesis = record {
  depth_is = none;
  behind = λ h. absurd (false≢true (sym no_parenthesis ∙ h));
  behind_back = λ now. let l = now.earlier in absurd (omega arith);
  opened = λ deep h. absurd (omega arith);
  opened_back = λ deep now. absurd (omega arith);
}

not_before : (row : List Symbol) (at : ℕ) → ((k : ℕ) → k < at → EndsAt row k → ⊥) → (EndsAt row at → ⊥) → (k : ℕ) → k < suc at → EndsAt row k → ⊥
not_before row at earlier here k less ends =
    elim (cases_lt k at) as (λ _. ⊥) [
      | inl inside ↦ earlier k inside ends
      | inr last ↦ let e : k ≡ at = omega arith in here (subst (λ (x : ℕ). EndsAt row x) e ends)
    ]

-- ---- the whole row

left_by : (b : Bool) (first at : ℕ) (row : List Symbol) → nat_eq first (first + at) ≡ b → at ≡ length row → ((k : ℕ) → k < at → EndsAt row k → ⊥)
    → AreItems first row (cond b [] (record { first = first; after = first + at } ∷ []))
left_by true first at [] same all none = NoToken first
left_by true first at (x ∷ xs) same all none = let l = eqb-true first (first + at) same in absurd (omega arith)
left_by false first at [] same all none = let l = eqb-false first (first + at) same in absurd (omega arith)
left_by false first at (x ∷ xs) same all none =
    subst (λ (n : ℕ). AreItems first (x ∷ xs) (record { first = first; after = first + n } ∷ [])) (sym all)
    (LeftOver first (x ∷ xs) (omega arith) (λ k less. none k (omega arith)))

abbrev Cut : List Symbol → Type 0
Cut rest = (row : List Symbol) (first at depth : ℕ) (before : Symbol) (body : Bool) → drop at row ≡ rest → at ≤ length row → Known row at depth before body
    → ((k : ℕ) → k < at → EndsAt row k → ⊥) → AreItems first row (spans first (first + at) (item_ends depth before body rest))

-- the span goes on behind a token
goes_on : (rest row : List Symbol) (first at depth : ℕ) (before : Symbol) (body : Bool) → Cut rest → drop (suc at) row ≡ rest → at < length row
    → Known row (suc at) depth before body → ((k : ℕ) → k < suc at → EndsAt row k → ⊥)
    → AreItems first row (spans first (first + at + 1) (item_ends depth before body rest))
goes_on rest row first at depth before body later e less known none =
    subst (λ (n : ℕ). AreItems first row (spans first n (item_ends depth before body rest))) (let s : first + suc at ≡ first + at + 1 = omega arith in s)
    (later row first (suc at) depth before body e (omega arith) known none)

ends_by : (f : Bool) (rest row : List Symbol) (first at depth : ℕ) (before : Symbol) (body : Bool) (symbol : Symbol) → Cut rest
    → drop at row ≡ symbol ∷ rest → Known row at depth before body → ((k : ℕ) → k < at → EndsAt row k → ⊥) → is_passed_over symbol ≡ false
    → (ends_declaration depth symbol || ends_body depth body symbol) ≡ f
    → AreItems first row (spans first (first + at) (f ∷ item_ends (depth_after depth symbol) symbol (body_after depth before body symbol) rest))
ends_by true rest row first at depth before body symbol later e known none stays is_end =
    let here = head_is row at symbol rest e in
    let after = after_end depth body symbol is_end in
    let flags = item_ends (depth_after depth symbol) symbol (body_after depth before body symbol) rest in
    let next : AreItems (first + at + 1) rest (spans (first + at + 1) (first + at + 1) flags) =
    subst (λ (n : ℕ). AreItems (first + at + 1) rest (spans (first + at + 1) n flags)) (let s : first + at + 1 + 0 ≡ first + at + 1 = omega arith in s)
    (later rest (first + at + 1) 0 (depth_after depth symbol) symbol (body_after depth before body symbol) refl (omega arith)
    (known_first rest (depth_after depth symbol) symbol (body_after depth before body symbol) after.0 after.1) (λ k less ends. absurd (omega arith))) in
    Ending first at row (spans (first + at + 1) (first + at + 1) flags) here.0
    (ends_by_rule row at depth before body symbol here.1 known is_end) none
    (subst (λ xs. AreItems (first + at + 1) xs (spans (first + at + 1) (first + at + 1) flags)) (sym (ap (λ (n : ℕ). drop n row) (let s : at + 1 ≡ suc at = omega arith in s) ∙ here.2)) next)
ends_by false rest row first at depth before body symbol later e known none stays is_end =
    let here = head_is row at symbol rest e in
    goes_on rest row first at (depth_after depth symbol) symbol (body_after depth before body symbol) later here.2 here.0
    (known_token row at depth before body symbol here.0 here.1 stays known)
    (not_before row at none (λ ends. false≢true (sym is_end ∙ rule_ends row at depth before body symbol here.1 known ends)))

passed_by : (p : Bool) (rest row : List Symbol) (first at depth : ℕ) (before : Symbol) (body : Bool) (symbol : Symbol) → Cut rest
    → drop at row ≡ symbol ∷ rest → Known row at depth before body → ((k : ℕ) → k < at → EndsAt row k → ⊥) → is_passed_over symbol ≡ p
    → AreItems first row (spans first (first + at) (cond p (false ∷ item_ends depth before body rest)
    ((ends_declaration depth symbol || ends_body depth body symbol) ∷ item_ends (depth_after depth symbol) symbol (body_after depth before body symbol) rest)))
passed_by true rest row first at depth before body symbol later e known none passed =
    let here = head_is row at symbol rest e in
    goes_on rest row first at depth before body later here.2 here.0
    (known_passed row at depth before body symbol here.0 here.1 passed known)
    (not_before row at none (passed_ends row at symbol here.1 passed))
passed_by false rest row first at depth before body symbol later e known none stays =
    ends_by (ends_declaration depth symbol || ends_body depth body symbol) rest row first at depth before body symbol later e known none stays refl

cut : (rest : List Symbol) → Cut rest
cut [] row first at depth before body e inside known none =
    let all = end_is row at e in
    left_by (nat_eq first (first + at)) first at row refl (omega arith) none
cut (symbol ∷ rest) row first at depth before body e inside known none =
    passed_by (is_passed_over symbol) rest row first at depth before body symbol (cut rest) e known none refl

are_items : (row : List Symbol) → AreItems 0 row (spans 0 0 (item_ends 0 Other false row))
are_items row = cut row row 0 0 0 Other false refl (omega arith) (known_first row 0 Other false refl refl) (λ k less ends. absurd (omega arith))

-- ---- the first bracket that opens too deep

abbrev FirstDeep : List Symbol → Option ℕ → Type 0
FirstDeep row answer =
    MatchOption answer ((at : ℕ) → IsDeepAt row at → ⊥) (λ at. IsDeepAt row at × ((earlier : ℕ) → earlier < at → IsDeepAt row earlier → ⊥))

abbrev Looked : List Symbol → Type 0
Looked rest = (row : List Symbol) (at depth : ℕ) → drop at row ≡ rest → depth ≡ depth_at row at → ((k : ℕ) → k < at → IsDeepAt row k → ⊥) → FirstDeep row (first_deep at depth rest)

deep_by : (b : Bool) (rest row : List Symbol) (at depth : ℕ) (symbol : Symbol) → Looked rest → drop at row ≡ symbol ∷ rest → depth ≡ depth_at row at
    → ((k : ℕ) → k < at → IsDeepAt row k → ⊥) → (nat_eq depth 256 && is_opening symbol) ≡ b
    → FirstDeep row (cond b (Some at) (first_deep (at + 1) (depth_after depth symbol) rest))
deep_by true rest row at depth symbol later e is_depth none is =
    let here = head_is row at symbol rest e in
    let d : depth ≡ 256 = omega (arith, eqb-true depth 256 (both_left (nat_eq depth 256) (is_opening symbol) is)) in
    (record { inside = here.0; opening = ap is_opening here.1 ∙ both_right (nat_eq depth 256) (is_opening symbol) is; deep = sym is_depth ∙ d }, none)
deep_by false rest row at depth symbol later e is_depth none is =
    let here = head_is row at symbol rest e in
    let s : at + 1 ≡ suc at = omega arith in
    let after : depth_at row (suc at) ≡ depth_after depth symbol =
    depth_step row 0 at here.0 ∙ (ap (λ x. depth_after (depth_at row at) x) here.1 ∙ ap (λ (d : ℕ). depth_after d symbol) (sym is_depth)) in
    later row (at + 1) (depth_after depth symbol) (ap (λ (n : ℕ). drop n row) s ∙ here.2)
    (sym after ∙ ap (λ (n : ℕ). depth_at row n) (sym s))
    (λ k less deep. elim (cases_lt k at) as (λ _. ⊥) [
      | inl inside ↦ none k inside deep
      | inr last ↦
          let same : k ≡ at = omega arith in
          let there : IsDeepAt row at = subst (λ (x : ℕ). IsDeepAt row x) same deep in
          false≢true (sym is ∙ true_and (nat_eq depth 256) (is_opening symbol) (ap (λ (x : ℕ). nat_eq x 256) (is_depth ∙ there.deep)) (ap is_opening (sym here.1) ∙ there.opening))
    ])

look : (rest : List Symbol) → Looked rest
look [] row at depth e is_depth none = λ k deep. let all = end_is row at e in let l = deep.inside in none k (omega arith) deep
look (symbol ∷ rest) row at depth e is_depth none =
    deep_by (nat_eq depth 256 && is_opening symbol) rest row at depth symbol (look rest) e is_depth none refl

looked : (row : List Symbol) → FirstDeep row (first_deep 0 0 row)
looked row = look row row 0 0 refl refl (λ k less deep. absurd (omega arith))

pub deep_exact : (t : Tokens) (row : List Symbol) (at : ℕ) (deep : Deep) → Some at ≡ first_deep 0 0 row → row ≡ symbols t
    → (token : Token) × (slice_get t.list at ≡ Some token) × (deep.place ≡ token.place) → IsFirstDeep t deep
deep_exact t row at deep found is_row (token, is_token, place) =
    let known = subst (λ o. FirstDeep (symbols t) o) (sym (found ∙ ap (λ r. first_deep 0 0 r) is_row)) (looked (symbols t)) in
    record { at = at; is_deep = known.0; first = known.1; token = token; is_token = is_token; place = place }

pub spans_exact : (t : Tokens) (row : List Symbol) (items : List ItemSpan) → None ≡ first_deep 0 0 row → row ≡ symbols t
    → items ≡ spans_of row → AreSpans t items
spans_exact t row items none is_row is = record {
  none_deep = subst (λ o. FirstDeep (symbols t) o) (sym (none ∙ ap (λ r. first_deep 0 0 r) is_row)) (looked (symbols t));
  items = subst (λ xs. AreItems 0 (read_symbols (symbols t)) xs) (sym (is ∙ ap spans_of is_row)) (are_items (read_symbols (symbols t)));
}

-- ---- one row has one list of items

pub items_unique : (first : ℕ) (row : List Symbol) (spans others : List ItemSpan) → AreItems first row spans → AreItems first row others → spans ≡ others
items_unique _ _ _ _ (NoToken first) (NoToken _) = refl
items_unique _ _ _ _ (NoToken first) (LeftOver _ _ some none) = absurd (omega arith)
items_unique _ _ _ _ (NoToken first) (Ending _ at _ spans less ends none more) = absurd (omega arith)
items_unique _ _ _ _ (LeftOver first row some none) (NoToken _) = absurd (omega arith)
items_unique _ _ _ _ (LeftOver first row some none) (LeftOver _ _ _ _) = refl
items_unique _ _ _ _ (LeftOver first row some none) (Ending _ at _ spans less ends earlier more) = absurd (none at less ends)
items_unique _ _ _ _ (Ending first at row spans less ends earlier more) (NoToken _) = absurd (omega arith)
items_unique _ _ _ _ (Ending first at row spans less ends earlier more) (LeftOver _ _ some none) = absurd (none at less ends)
items_unique _ _ _ _ (Ending first at row spans less ends earlier more) (Ending _ place _ others below closes sooner rest) =
    let e : place ≡ at =
    elim (cases_lt at place) as (λ _. place ≡ at) [
      | inl before ↦ absurd (sooner at before ends)
      | inr after ↦ elim (cases_lt place at) as (λ _. place ≡ at) [ inl before ↦ absurd (earlier place before closes) | inr same ↦ omega arith ]
    ] in
    let same = items_unique (first + at + 1) (drop (at + 1) row) spans others more
    (subst (λ (x : ℕ). AreItems (first + x + 1) (drop (x + 1) row) others) e rest) in
    ap (λ xs. record { first = first; after = first + at + 1 } ∷ xs) same
    ∙ ap (λ (x : ℕ). record { first = first; after = first + x + 1 } ∷ others) (sym e)

-- ---- one text has one answer

-- what is in two equal options is equal
pub some_same : {A : Type 0} (a b : A) → Some a ≡ Some b → a ≡ b
some_same a b h = cc

first_deep_unique : (t : Tokens) (deep other : Deep) → IsFirstDeep t deep → IsFirstDeep t other → deep ≡ other
first_deep_unique t deep other is also =
    let e : also.at ≡ is.at =
    elim (cases_lt is.at also.at) as (λ _. also.at ≡ is.at) [
      | inl before ↦ absurd (also.first is.at before is.is_deep)
      | inr after ↦ elim (cases_lt also.at is.at) as (λ _. also.at ≡ is.at) [ inl before ↦ absurd (is.first also.at before also.is_deep) | inr same ↦ omega arith ]
    ] in
    let there : slice_get t.list is.at ≡ Some also.token = subst (λ (n : ℕ). slice_get t.list n ≡ Some also.token) e also.is_token in
    let same : is.token ≡ also.token = some_same _ _ (sym is.is_token ∙ there) in
    ap (λ (place : Place). record { place = place }) (is.place ∙ (ap (λ (token : Token). token.place) same ∙ sym also.place))

pub answers_unique : (t : Tokens) (answer other : Result (List ItemSpan) Deep) → IsItems t answer → IsItems t other → answer ≡ other
answers_unique t (Ok spans) (Ok others) is also = ap Ok (items_unique 0 (read_symbols (symbols t)) spans others is.items also.items)
answers_unique t (Ok spans) (Err deep) is also = absurd (is.none_deep also.at also.is_deep)
answers_unique t (Err deep) (Ok spans) is also = absurd (also.none_deep is.at is.is_deep)
answers_unique t (Err deep) (Err other) is also = ap Err (first_deep_unique t deep other is also)
