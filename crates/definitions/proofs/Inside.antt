-- What stands inside of brackets says nothing of what an item defines: a row without it has the same form and the same names.
use Rattle.std.proofs.Common.{◌≡◌, ℕ, zero, suc, Bool, true, false, ◌&&◌, ◌||◌, not, List, [], ◌∷◌, ◌++◌, if◌then◌else◌, map, nat_eq, refl, sym, ap, ◌∙◌, subst, arith}
use Rattle.std.proofs.lemmas.Bool.{ne_eqb}
use Rattle.definitions.specs.declared.form.Form.{Form}
use Rattle.definitions.specs.declared.form.Form.TheVariants.{Body, Typedef, Extern, Plain}
use Rattle.definitions.specs.declared.form.StorageWord.{StorageWord}
use Rattle.definitions.specs.declared.form.StorageWord.TheVariants as storage
use Rattle.definitions.specs.declared.role.Role.{Role}
use Rattle.definitions.specs.declared.role.Role.TheVariants.{Name, Typedef as TypedefWord, Extern as ExternWord, Static, LeftParenthesis, LeftBracket, LeftBrace, RightParenthesis, RightBracket, RightBrace, Other}
use Rattle.definitions.specs.declared.sign.Sign.{Sign}
use Rattle.definitions.specs.Roles.{follows_declared, is_comma, is_equals, is_left_brace, is_name, is_opening, is_right_parenthesis, is_semicolon, is_storage_word, is_tag_word}
use Rattle.definitions.specs.Defined.{begins_initialiser, bodied_by, bodied_in, defined_by, first_word, is_untyped, names_in, typedefs_in, with_body, declares, defined_in, defines, defines_word, ends_declarator, form_of, has_initialiser, is_function, set_after, typed_after}
use Rattle.ctokens.specs.Gathered.{is_among}
use Rattle.definitions.specs.Rows.{body_after, depth_after, ends_body, ends_with_body, has_body, has_storage, is_storage, outermost, sign_word}

-- so many brackets are open in a row, and in what is left of it
data Same : ℕ → ℕ → Type 0 where
  Shut : Same 0 0
  Open : (n : ℕ) → Same (suc n) 1

-- what a token of the role does: it stands at depth 0, it returns there, or it stands inside of brackets and is left out
data Step (role : Role) : ℕ → ℕ → Type 0 where
  Outside : Same (depth_after 0 role) (depth_after 0 role) → (nat_eq (depth_after 0 role) 0 ≡ false → is_storage_word role ≡ false) → Step role 0 0
  Returns : depth_after 1 role ≡ 0 → Step role 1 1
  Stays : (depth : ℕ) → nat_eq depth 0 ≡ false → nat_eq (depth_after depth role) 0 ≡ false → Same (depth_after depth role) 1
      → ((body : Bool) → ends_body depth body role ≡ false) → Step role depth 1

above : (n : ℕ) → nat_eq (suc n) 0 ≡ false
above n = ne_eqb (suc n) 0 (λ h. omega (arith, h))

both_false : (a b : Bool) → (a && (b && false)) ≡ false
both_false true true = refl
both_false true false = refl
both_false false b = refl

stays : (role : Role) (n m : ℕ) → depth_after (suc n) role ≡ suc m → ((body : Bool) → ends_body (suc n) body role ≡ false) → Step role (suc n) 1
stays role n m is unended =
    Stays (suc n) (above n) (subst (λ (a : ℕ). nat_eq a 0 ≡ false) (sym is) (above m)) (subst (λ (a : ℕ). Same a 1) (sym is) (Open m)) unended

unended_brace : (n : ℕ) (body : Bool) → ends_body (suc (suc n)) body RightBrace ≡ false
unended_brace n body = ap (λ (b : Bool). b && (body && true)) (ne_eqb (suc (suc n)) 1 (λ h. omega (arith, h)))

step_outside : (role : Role) → Step role 0 0
step_outside LeftParenthesis = Outside (Open 0) (λ h. refl)
step_outside LeftBracket = Outside (Open 0) (λ h. refl)
step_outside LeftBrace = Outside (Open 0) (λ h. refl)
step_outside role = Outside Shut (λ h. absurd cc)

step_inside : (n : ℕ) (role : Role) → Step role (suc n) 1
step_inside zero RightParenthesis = Returns refl
step_inside zero RightBracket = Returns refl
step_inside zero RightBrace = Returns refl
step_inside (suc n) RightParenthesis = stays RightParenthesis (suc n) n (omega arith) (λ body. both_false (nat_eq (suc (suc n)) 1) body)
step_inside (suc n) RightBracket = stays RightBracket (suc n) n (omega arith) (λ body. both_false (nat_eq (suc (suc n)) 1) body)
step_inside (suc n) RightBrace = stays RightBrace (suc n) n (omega arith) (unended_brace n)
step_inside n LeftParenthesis = stays LeftParenthesis n (suc n) (omega arith) (λ body. both_false (nat_eq (suc n) 1) body)
step_inside n LeftBracket = stays LeftBracket n (suc n) (omega arith) (λ body. both_false (nat_eq (suc n) 1) body)
step_inside n LeftBrace = stays LeftBrace n (suc n) (omega arith) (λ body. both_false (nat_eq (suc n) 1) body)
step_inside n role = stays role n n refl (λ body. both_false (nat_eq (suc n) 1) body)

step : (depth left : ℕ) → Same depth left → (role : Role) → Step role depth left
step _ _ Shut role = step_outside role
step _ _ (Open n) role = step_inside n role

stored_step : (word : StorageWord) (depth left : ℕ) (sign : Sign) (rest : List Sign) → Step sign.role depth left
    → ((d l : ℕ) → Same d l → has_storage word d rest ≡ has_storage word l (outermost d rest))
    → has_storage word depth (sign ∷ rest) ≡ has_storage word left (outermost depth (sign ∷ rest))
stored_step word _ _ sign rest (Outside same typed) later =
    ap (λ (b : Bool). is_storage word sign.role || b) (later (depth_after 0 sign.role) (depth_after 0 sign.role) same)
stored_step word _ _ sign rest (Returns is) later =
    subst (λ (a : ℕ). has_storage word a rest ≡ has_storage word 1 ((if nat_eq a 0 then sign ∷ [] else []) ++ outermost a rest)) (sym is)
    (subst (λ (a : ℕ). has_storage word 0 rest ≡ has_storage word a (outermost 0 rest)) (sym is) (later 0 0 Shut))
stored_step word _ _ sign rest (Stays depth opened after same unended) later =
    subst (λ (z : Bool). ((z && is_storage word sign.role) || has_storage word (depth_after depth sign.role) rest)
    ≡ has_storage word 1 ((if z || nat_eq (depth_after depth sign.role) 0 then sign ∷ [] else []) ++ outermost (depth_after depth sign.role) rest)) (sym opened)
    (subst (λ (z : Bool). has_storage word (depth_after depth sign.role) rest ≡ has_storage word 1 ((if z then sign ∷ [] else []) ++ outermost (depth_after depth sign.role) rest)) (sym after)
    (later (depth_after depth sign.role) 1 same))

same_stored : (word : StorageWord) (depth left : ℕ) → Same depth left → (row : List Sign) → has_storage word depth row ≡ has_storage word left (outermost depth row)
same_stored word depth left same [] = refl
same_stored word depth left same (sign ∷ rest) = stored_step word depth left sign rest (step depth left same sign.role) (λ d l s. same_stored word d l s rest)

begun_step : (depth left : ℕ) (sign : Sign) (rest : List Sign) → Step sign.role depth left
    → ((d l : ℕ) → Same d l → has_initialiser d rest ≡ has_initialiser l (outermost d rest))
    → has_initialiser depth (sign ∷ rest) ≡ has_initialiser left (outermost depth (sign ∷ rest))
begun_step _ _ sign rest (Outside same typed) later =
    ap (λ (b : Bool). if begins_initialiser 0 sign.role then true else (if ends_declarator 0 sign.role then false else b)) (later (depth_after 0 sign.role) (depth_after 0 sign.role) same)
begun_step _ _ sign rest (Returns is) later =
    subst (λ (a : ℕ). has_initialiser a rest ≡ has_initialiser 1 ((if nat_eq a 0 then sign ∷ [] else []) ++ outermost a rest)) (sym is)
    (subst (λ (a : ℕ). has_initialiser 0 rest ≡ has_initialiser a (outermost 0 rest)) (sym is) (later 0 0 Shut))
begun_step _ _ sign rest (Stays depth opened after same unended) later =
    subst (λ (z : Bool). (if z && is_equals sign.role then true else (if z && (is_comma sign.role || is_semicolon sign.role) then false else has_initialiser (depth_after depth sign.role) rest))
    ≡ has_initialiser 1 ((if z || nat_eq (depth_after depth sign.role) 0 then sign ∷ [] else []) ++ outermost (depth_after depth sign.role) rest)) (sym opened)
    (subst (λ (z : Bool). has_initialiser (depth_after depth sign.role) rest ≡ has_initialiser 1 ((if z then sign ∷ [] else []) ++ outermost (depth_after depth sign.role) rest)) (sym after)
    (later (depth_after depth sign.role) 1 same))

same_begun : (depth left : ℕ) → Same depth left → (row : List Sign) → has_initialiser depth row ≡ has_initialiser left (outermost depth row)
same_begun depth left same [] = refl
same_begun depth left same (sign ∷ rest) = begun_step depth left sign rest (step depth left same sign.role) (λ d l s. same_begun d l s rest)

-- the token before a row matters at depth 0 alone, and at no other depth does a body end before the row
body_step : (depth left : ℕ) (before held : Role) (body last : Bool) (sign : Sign) (rest : List Sign) → Step sign.role depth left
    → (nat_eq depth 0 ≡ true → before ≡ held) → (nat_eq depth 0 ≡ false → last ≡ false)
    → ((d l : ℕ) (b h : Role) (y e : Bool) → Same d l → (nat_eq d 0 ≡ true → b ≡ h) → (nat_eq d 0 ≡ false → e ≡ false) → has_body d b y e rest ≡ has_body l h y e (outermost d rest))
    → has_body depth before body last (sign ∷ rest) ≡ has_body left held body last (outermost depth (sign ∷ rest))
body_step _ _ before held body last sign rest (Outside same typed) agree clear later =
    subst (λ (h : Role). has_body 0 before body last (sign ∷ rest) ≡ has_body 0 h body last (outermost 0 (sign ∷ rest))) (agree refl)
    (later (depth_after 0 sign.role) (depth_after 0 sign.role) sign.role sign.role (body_after 0 before body sign.role) false same (λ h. refl) (λ h. refl))
body_step _ _ before held body last sign rest (Returns is) agree clear later =
    subst (λ (a : ℕ). has_body a sign.role body (ends_body 1 body sign.role) rest ≡ has_body 1 held body last ((if nat_eq a 0 then sign ∷ [] else []) ++ outermost a rest)) (sym is)
    (subst (λ (a : ℕ). has_body 0 sign.role body (ends_body 1 body sign.role) rest ≡ has_body a sign.role body (ends_body 1 body sign.role) (outermost 0 rest)) (sym is)
    (later 0 0 sign.role sign.role body (ends_body 1 body sign.role) Shut (λ h. refl) (λ h. absurd cc)))
body_step _ _ before held body last sign rest (Stays depth opened after same unended) agree clear later =
    subst (λ (z : Bool). has_body (depth_after depth sign.role) sign.role (if z && is_opening sign.role then is_left_brace sign.role && is_right_parenthesis before else body) (ends_body depth body sign.role) rest
    ≡ has_body 1 held body last ((if z || nat_eq (depth_after depth sign.role) 0 then sign ∷ [] else []) ++ outermost (depth_after depth sign.role) rest)) (sym opened)
    (subst (λ (z : Bool). has_body (depth_after depth sign.role) sign.role body (ends_body depth body sign.role) rest
    ≡ has_body 1 held body last ((if z then sign ∷ [] else []) ++ outermost (depth_after depth sign.role) rest)) (sym after)
    (subst (λ (e : Bool). has_body (depth_after depth sign.role) sign.role body e rest ≡ has_body 1 held body last (outermost (depth_after depth sign.role) rest)) (sym (unended body))
    (subst (λ (e : Bool). has_body (depth_after depth sign.role) sign.role body false rest ≡ has_body 1 held body e (outermost (depth_after depth sign.role) rest)) (sym (clear opened))
    (later (depth_after depth sign.role) 1 sign.role held body false same (λ h. let e : true ≡ false = sym h ∙ after in absurd cc) (λ h. refl)))))

same_body : (row : List Sign) (depth left : ℕ) (before held : Role) (body last : Bool) → Same depth left → (nat_eq depth 0 ≡ true → before ≡ held) → (nat_eq depth 0 ≡ false → last ≡ false)
    → has_body depth before body last row ≡ has_body left held body last (outermost depth row)
same_body [] depth left before held body last same agree clear = refl
same_body (sign ∷ rest) depth left before held body last same agree clear =
    body_step depth left before held body last sign rest (step depth left same sign.role) agree clear (λ d l b h y e. same_body rest d l b h y e)

-- no word inside of brackets is declared
undeclared : (form : Form) (before : Role) (depth : ℕ) (set typed : Bool) (row : List Sign) → nat_eq depth 0 ≡ false → defines_word form before depth set typed row ≡ false
undeclared form before depth set typed [] opened = refl
undeclared form before depth set typed (word ∷ []) opened = refl
undeclared form before depth set typed (word ∷ (next ∷ rest)) opened =
    ap (λ (z : Bool). ((z && not set) && ((is_name word.role && follows_declared next.role) && (typed && not (is_tag_word before)))) && defines form (is_function (word ∷ (next ∷ rest))) (has_initialiser depth (word ∷ (next ∷ rest)))) opened

not_both : (a b : Bool) → ((a && false) && b) ≡ false
not_both true b = refl
not_both false b = refl

-- nor is what is no word
unnamed : (form : Form) (before : Role) (set typed : Bool) (sign : Sign) (rest : List Sign) → is_name sign.role ≡ false → defines_word form before 0 set typed (sign ∷ rest) ≡ false
unnamed form before set typed sign [] h = refl
unnamed form before set typed sign (next ∷ rest) h =
    ap (λ (n : Bool). (not set && ((n && follows_declared next.role) && (typed && not (is_tag_word before)))) && defines form (is_function (sign ∷ (next ∷ rest))) (has_initialiser 0 (sign ∷ (next ∷ rest)))) h
    ∙ not_both (not set) (defines form (is_function (sign ∷ (next ∷ rest))) (has_initialiser 0 (sign ∷ (next ∷ rest))))

named_depth : (role : Role) → is_name role ≡ true → depth_after 0 role ≡ 0
named_depth Name h = refl
named_depth role h = absurd cc

-- what stands inside of brackets behind a token says nothing of the token
same_word : (form : Form) (before : Role) (set typed : Bool) (sign : Sign) (rest : List Sign)
    → defines_word form before 0 set typed (sign ∷ rest) ≡ defines_word form before 0 set typed (sign ∷ outermost (depth_after 0 sign.role) rest)
same_word form before set typed sign rest = split (is_name sign.role) refl
  where
    named : depth_after 0 sign.role ≡ 0 → (rest : List Sign) → defines_word form before 0 set typed (sign ∷ rest) ≡ defines_word form before 0 set typed (sign ∷ outermost 0 rest)
    named is [] = refl
    named is (next ∷ rest) =
        ap (λ (b : Bool). declares before 0 set typed (sign ∷ (next ∷ rest)) && defines form (is_function (sign ∷ (next ∷ rest))) b)
        (subst (λ (after : ℕ). has_initialiser 0 (sign ∷ (next ∷ rest)) ≡ has_initialiser 0 (sign ∷ outermost after (next ∷ rest))) is (same_begun 0 0 Shut (sign ∷ (next ∷ rest))))

    split : (b : Bool) → is_name sign.role ≡ b → defines_word form before 0 set typed (sign ∷ rest) ≡ defines_word form before 0 set typed (sign ∷ outermost (depth_after 0 sign.role) rest)
    split true h =
        subst (λ (after : ℕ). defines_word form before 0 set typed (sign ∷ rest) ≡ defines_word form before 0 set typed (sign ∷ outermost after rest)) (sym (named_depth sign.role h)) (named (named_depth sign.role h) rest)
    split false h = unnamed form before set typed sign rest h ∙ sym (unnamed form before set typed sign (outermost (depth_after 0 sign.role) rest) h)

or_true : (b : Bool) → (b || true) ≡ true
or_true true = refl
or_true false = refl

names_step : (form : Form) (depth left : ℕ) (before held : Role) (set typed : Bool) (sign : Sign) (rest : List Sign) → Step sign.role depth left
    → (nat_eq depth 0 ≡ true → before ≡ held) → (nat_eq depth 0 ≡ false → typed ≡ true)
    → ((d l : ℕ) (b h : Role) (s y : Bool) → Same d l → (nat_eq d 0 ≡ true → b ≡ h) → (nat_eq d 0 ≡ false → y ≡ true) → defined_in form b d s y rest ≡ defined_in form h l s y (outermost d rest))
    → defined_in form before depth set typed (sign ∷ rest) ≡ defined_in form held left set typed (outermost depth (sign ∷ rest))
names_step form _ _ before held set typed sign rest (Outside same storage) agree known later =
    subst (λ (h : Role). defined_in form before 0 set typed (sign ∷ rest) ≡ defined_in form h 0 set typed (outermost 0 (sign ∷ rest))) (agree refl)
    (ap (λ (here : Bool). (if here then sign ∷ [] else []) ++ defined_in form sign.role (depth_after 0 sign.role) (set_after 0 set sign.role) (typed_after typed sign.role) rest) (same_word form before set typed sign rest)
    ∙ ap (λ (others : List Sign). (if defines_word form before 0 set typed (sign ∷ outermost (depth_after 0 sign.role) rest) then sign ∷ [] else []) ++ others)
    (later (depth_after 0 sign.role) (depth_after 0 sign.role) sign.role sign.role (set_after 0 set sign.role) (typed_after typed sign.role) same (λ h. refl)
    (λ h. ap (λ (b : Bool). typed || not b) (storage h) ∙ or_true typed)))
names_step form _ _ before held set typed sign rest (Returns is) agree known later =
    ap (λ (here : Bool). (if here then sign ∷ [] else []) ++ defined_in form sign.role (depth_after 1 sign.role) set (typed_after typed sign.role) rest) (undeclared form before 1 set typed (sign ∷ rest) refl)
    ∙ subst (λ (a : ℕ). defined_in form sign.role a set (typed_after typed sign.role) rest ≡ defined_in form held 1 set typed ((if nat_eq a 0 then sign ∷ [] else []) ++ outermost a rest)) (sym is)
    (subst (λ (a : ℕ). defined_in form sign.role 0 set (typed_after typed sign.role) rest ≡ defined_in form sign.role a set (typed_after typed sign.role) (outermost 0 rest)) (sym is)
    (later 0 0 sign.role sign.role set (typed_after typed sign.role) Shut (λ h. refl) (λ h. absurd cc))
    ∙ sym (ap (λ (here : Bool). (if here then sign ∷ [] else []) ++ defined_in form sign.role (depth_after 1 sign.role) set (typed_after typed sign.role) (outermost 0 rest)) (undeclared form held 1 set typed (sign ∷ outermost 0 rest) refl)))
names_step form _ _ before held set typed sign rest (Stays depth opened after same unended) agree known later =
    ap (λ (here : Bool). (if here then sign ∷ [] else []) ++ defined_in form sign.role (depth_after depth sign.role) (set_after depth set sign.role) (typed_after typed sign.role) rest) (undeclared form before depth set typed (sign ∷ rest) opened)
    ∙ subst (λ (z : Bool). defined_in form sign.role (depth_after depth sign.role) (if z then is_equals sign.role || (not (is_comma sign.role) && set) else set) (typed_after typed sign.role) rest
    ≡ defined_in form held 1 set typed ((if z || nat_eq (depth_after depth sign.role) 0 then sign ∷ [] else []) ++ outermost (depth_after depth sign.role) rest)) (sym opened)
    (subst (λ (z : Bool). defined_in form sign.role (depth_after depth sign.role) set (typed_after typed sign.role) rest
    ≡ defined_in form held 1 set typed ((if z then sign ∷ [] else []) ++ outermost (depth_after depth sign.role) rest)) (sym after)
    (subst (λ (y : Bool). defined_in form sign.role (depth_after depth sign.role) set (typed_after y sign.role) rest ≡ defined_in form held 1 set y (outermost (depth_after depth sign.role) rest)) (sym (known opened))
    (later (depth_after depth sign.role) 1 sign.role held set true same (λ h. let e : true ≡ false = sym h ∙ after in absurd cc) (λ h. refl))))

all_names : (form : Form) (row : List Sign) (depth left : ℕ) (before held : Role) (set typed : Bool) → Same depth left → (nat_eq depth 0 ≡ true → before ≡ held) → (nat_eq depth 0 ≡ false → typed ≡ true)
    → defined_in form before depth set typed row ≡ defined_in form held left set typed (outermost depth row)
all_names form [] depth left before held set typed same agree known = refl
all_names form (sign ∷ rest) depth left before held set typed same agree known =
    names_step form depth left before held set typed sign rest (step depth left same sign.role) agree known (λ d l b h s y. all_names form rest d l b h s y)

-- the form of an item is that of its row without what stands inside of brackets
same_form : (row : List Sign) → form_of (outermost 0 row) ≡ form_of row
same_form row =
    sym (ap (λ (b : Bool). if b then Body else (if has_storage storage.Typedef 0 row then Typedef else (if has_storage storage.Extern 0 row then Extern else Plain)))
    (same_body row 0 0 Other Other false false Shut (λ h. refl) (λ h. refl))
    ∙ (ap (λ (b : Bool). if ends_with_body (outermost 0 row) then Body else (if b then Typedef else (if has_storage storage.Extern 0 row then Extern else Plain))) (same_stored storage.Typedef 0 0 Shut row)
    ∙ ap (λ (b : Bool). if ends_with_body (outermost 0 row) then Body else (if has_storage storage.Typedef 0 (outermost 0 row) then Typedef else (if b then Extern else Plain))) (same_stored storage.Extern 0 0 Shut row)))

-- so are the words that it defines
same_names : (form : Form) (untyped : Bool) (row : List Sign) → defined_in form Other 0 false untyped (outermost 0 row) ≡ defined_in form Other 0 false untyped row
same_names form untyped row = sym (all_names form row 0 0 Other Other false untyped Shut (λ h. refl) (λ h. absurd cc))

-- no bracket is open behind a storage word that stands at depth 0
storage_outermost : (role : Role) → is_storage_word role ≡ true → depth_after 0 role ≡ 0
storage_outermost TypedefWord h = refl
storage_outermost ExternWord h = refl
storage_outermost Static h = refl
storage_outermost role h = absurd cc

first_step : (text : List ℕ) (sign : Sign) (rest : List Sign) → first_word text (outermost 0 rest) ≡ first_word text rest → (storage : Bool) → is_storage_word sign.role ≡ storage
    → (if storage then first_word text (outermost (depth_after 0 sign.role) rest) else sign_word text sign) ≡ (if storage then first_word text rest else sign_word text sign)
first_step text sign rest later true is = subst (λ (depth : ℕ). first_word text (outermost depth rest) ≡ first_word text rest) (sym (storage_outermost sign.role is)) later
first_step text sign rest later false is = refl

-- so is its first word
same_first : (text : List ℕ) (row : List Sign) → first_word text (outermost 0 row) ≡ first_word text row
same_first text [] = refl
same_first text (sign ∷ rest) = first_step text sign rest (same_first text rest) (is_storage_word sign.role) refl

same_untyped : (text : List ℕ) (typedefs : List (List ℕ)) (kept row : List Sign) (first : List ℕ) (found : Bool) → kept ≡ outermost 0 row → first ≡ first_word text kept → found ≡ is_among first typedefs
    → not found ≡ is_untyped text typedefs row
same_untyped text typedefs kept row first found left is among =
    ap not (among ∙ ap (λ (word : List ℕ). is_among word typedefs) (is ∙ (ap (first_word text) left ∙ same_first text row)))

defined_there : (kept row names : List Sign) (untyped other : Bool) (form : Form) → kept ≡ outermost 0 row → untyped ≡ other → names ≡ defined_in form Other 0 false untyped kept
    → names ≡ defined_in form Other 0 false other row
defined_there kept row names untyped other form left same named =
    named ∙ (ap (λ (signs : List Sign). defined_in form Other 0 false untyped signs) left ∙ (same_names form untyped row ∙ ap (λ (u : Bool). defined_in form Other 0 false u row) same))

formed : (kept row : List Sign) (form : Form) → kept ≡ outermost 0 row → form ≡ form_of kept → form ≡ form_of row
formed kept row form left is = is ∙ (ap form_of left ∙ same_form row)

-- the names that an item defines, those that it defines with a body, and those that it makes a typedef's are found in its row without
-- what stands inside of brackets
pub same_defined : (text : List ℕ) (typedefs : List (List ℕ)) (kept row names : List Sign) (first : List ℕ) (found : Bool) (form : Form) → kept ≡ outermost 0 row → first ≡ first_word text kept
    → found ≡ is_among first typedefs → form ≡ form_of kept → names ≡ defined_in form Other 0 false (not found) kept → map (sign_word text) names ≡ defined_by text typedefs row
same_defined text typedefs kept row names first found form left is among formed_so named =
    ap (map (sign_word text)) (defined_there kept row names (not found) (is_untyped text typedefs row) form left (same_untyped text typedefs kept row first found left is among) named)
    ∙ ap (λ (f : Form). names_in text (is_untyped text typedefs row) f row) (formed kept row form left formed_so)

pub same_bodied : (text : List ℕ) (typedefs : List (List ℕ)) (kept row names : List Sign) (first : List ℕ) (found : Bool) (form : Form) → kept ≡ outermost 0 row → first ≡ first_word text kept
    → found ≡ is_among first typedefs → form ≡ form_of kept → names ≡ defined_in form Other 0 false (not found) kept → with_body form (map (sign_word text) names) ≡ bodied_by text typedefs row
unfolding with_body
same_bodied text typedefs kept row names first found form left is among formed_so named =
    ap (λ (signs : List Sign). with_body form (map (sign_word text) signs))
    (defined_there kept row names (not found) (is_untyped text typedefs row) form left (same_untyped text typedefs kept row first found left is among) named)
    ∙ (chosen form ∙ ap (λ (f : Form). bodied_in text (is_untyped text typedefs row) f row) (formed kept row form left formed_so))
  where
    chosen : (f : Form) → with_body f (names_in text (is_untyped text typedefs row) f row) ≡ bodied_in text (is_untyped text typedefs row) f row
    chosen Body = refl
    chosen Typedef = refl
    chosen Extern = refl
    chosen Plain = refl

pub same_typedefs : (text : List ℕ) (kept row names : List Sign) → kept ≡ outermost 0 row → Typedef ≡ form_of kept → names ≡ defined_in Body Other 0 false false kept
    → map (sign_word text) names ≡ typedefs_in text (form_of row) row
same_typedefs text kept row names left is named =
    ap (map (sign_word text)) (defined_there kept row names false false Body left refl named)
    ∙ ap (λ (f : Form). typedefs_in text f row) (formed kept row Typedef left is)

-- an item of another form makes no name a typedef's
pub no_typedefs : (text : List ℕ) (kept row : List Sign) (form : Form) → kept ≡ outermost 0 row → form ≡ form_of kept → (form ≡ Typedef → ⊥) → typedefs_in text (form_of row) row ≡ []
no_typedefs text kept row form left is other = ap (λ (f : Form). typedefs_in text f row) (sym (formed kept row form left is)) ∙ none form other
  where
    none : (f : Form) → (f ≡ Typedef → ⊥) → typedefs_in text f row ≡ []
    none Typedef h = absurd (h refl)
    none Body h = refl
    none Extern h = refl
    none Plain h = refl
