-- Which tokens stand in the brackets of an `__assert_fail`: those that are counted from its `(` on. What stands in
-- brackets that are matched needs no count of its own.
use Rattle.std.proofs.Common.{◌≡◌, ℕ, zero, suc, ◌+◌, ◌-◌, ◌<◌, ◌≤◌, nat_eq, nat_lt, Bool, true, false, ◌&&◌, ◌||◌, if◌then◌else◌, refl, ap, sym, ◌∙◌, subst, ◌⊎◌, inl, inr, List, [], ◌∷◌, ◌++◌, Option, None, Some, length, length-append, drop, codes, arith}
use Rattle.std.specs.List.{list_all}
use Rattle.std.specs.Str.{bytes_eq}
use Rattle.std.proofs.lemmas.Bool.Decides.{Decides-ltb}
use Rattle.std.proofs.lemmas.Slice.Eq.{bytes_eq-Decides}
use Rattle.cgrammar.proofs.Truth.{and-left, and-right, and-both}
use Rattle.cgrammar.specs.Brackets.{is_bracket}
use Rattle.cgrammar.specs.ReadOperands.{behind_matched, closer_of, matched_with}
use Rattle.cgrammar.specs.Terminals.{Terminal, is_mark, is_mark_kind, is_word, IsMark, IsWord}
use Rattle.cgrammar.specs.Closers.{behind_other, behind_token}
use Rattle.cconstructs.specs.Constructs.{IsAsserted}
use Rattle.cconstructs.specs.Finding.{guarded_behind, guarded_front, inside}
use Rattle.cgrammar.proofs.CompleteAssertions.{behind_assertion}
use Rattle.cgrammar.proofs.Matching.{matched_on, matched_one}
use Rattle.cgrammar.proofs.SoundBrackets.{brackets_close}
use Rattle.cconstructs.proofs.Options.{no_some, same_some}

abbrev pub is_assertion : Terminal → Bool
is_assertion token = is_word (codes "__assert_fail") token

-- whether the token at a place is counted
abbrev pub in_brackets : ℕ → Bool → List Terminal → ℕ → Bool
in_brackets guarded asserting [] at = false
in_brackets guarded asserting (token ∷ others) zero = nat_lt 0 guarded
in_brackets guarded asserting (token ∷ others) (suc at) = in_brackets (guarded_behind guarded asserting token others) (is_assertion token) others at

-- the `(` of an `__assert_fail` stands at a place
abbrev pub OpenedAt : Bool → List Terminal → ℕ → Type 0
OpenedAt asserting [] at = ⊥
OpenedAt asserting (token ∷ others) zero = (asserting ≡ true) × IsMark (codes "(") token
OpenedAt asserting (token ∷ others) (suc at) = OpenedAt (is_assertion token) others at

pub record Asserted (asserting : Bool) (row : List Terminal) (at : ℕ) : Type 0 where
  pub place : ℕ
  pub opens : OpenedAt asserting row place
  pub others : List Terminal
  pub matched : behind_matched (41 ∷ []) (drop (suc place) row) ≡ Some others
  pub after : place < at
  pub before : at + length others + 1 < length row

positive : (n : ℕ) → nat_lt 0 n ≡ true → 0 < n
positive n is = (Decides-ltb 0 n).0 is

is_positive : (n : ℕ) → 0 < n → nat_lt 0 n ≡ true
is_positive n is = (Decides-ltb 0 n).1 is

-- counted tokens stand in brackets
counted : (guarded : ℕ) (asserting : Bool) (token : Terminal) (others : List Terminal) (at : ℕ) → at < guarded_behind guarded asserting token others
    → (suc at < guarded) ⊎ Asserted asserting (token ∷ others) (suc at)
unfolding guarded_front
counted (suc count) asserting token others at less = inl (omega arith)
counted zero asserting token others at less = step (asserting && is_mark (codes "(") token) refl less
  where
    front : (o : Option (List Terminal)) → behind_matched (41 ∷ []) others ≡ o → (asserting && is_mark (codes "(") token) ≡ true → at < inside others o
        → (suc at < 0) ⊎ Asserted asserting (token ∷ others) (suc at)
    front None e opens h = absurd (omega arith)
    front (Some rest) e opens h = inr (record {
      place = 0;
      opens = (and-left asserting (is_mark (codes "(") token) opens, and-right asserting (is_mark (codes "(") token) opens);
      others = rest;
      matched = e;
      after = omega arith;
      before = omega arith;
    })

    step : (b : Bool) → (asserting && is_mark (codes "(") token) ≡ b → at < (if b then guarded_front others else 0)
        → (suc at < 0) ⊎ Asserted asserting (token ∷ others) (suc at)
    step true e h = front (behind_matched (41 ∷ []) others) refl e h
    step false e h = absurd (omega arith)

pub brackets_sound : (row : List Terminal) (guarded : ℕ) (asserting : Bool) (at : ℕ) → in_brackets guarded asserting row at ≡ true
    → (at < guarded) ⊎ Asserted asserting row at
brackets_sound [] guarded asserting at is = cc is
brackets_sound (token ∷ others) guarded asserting zero is = inl (positive guarded is)
brackets_sound (token ∷ others) guarded asserting (suc at) is =
    step (brackets_sound others (guarded_behind guarded asserting token others) (is_assertion token) at is)
  where
    step : (at < guarded_behind guarded asserting token others) ⊎ Asserted (is_assertion token) others at
        → (suc at < guarded) ⊎ Asserted asserting (token ∷ others) (suc at)
    step (inl less) = counted guarded asserting token others at less
    step (inr there) = inr (record {
      place = suc there.place;
      opens = there.opens;
      others = there.others;
      matched = there.matched;
      after = omega (arith, there.after);
      before = omega (arith, there.before);
    })

-- brackets that are open: what closes each is a closing bracket
abbrev pub is_closer : ℕ → Bool
is_closer byte = nat_eq byte 41 || (nat_eq byte 93 || nat_eq byte 125)

abbrev pub are_closers : List ℕ → Bool
are_closers stack = list_all is_closer stack

closer_closes : (token : Terminal) (byte : ℕ) → closer_of token ≡ Some byte → is_closer byte ≡ true
closer_closes token byte is = step (is_mark (codes "(") token) (is_mark (codes "[") token) (is_mark (codes "{") token) is
  where
    step : (a b c : Bool) → (if a then Some 41 else (if b then Some 93 else (if c then Some 125 else None))) ≡ Some byte → is_closer byte ≡ true
    step true b c e = ap is_closer (sym (same_some 41 byte e))
    step false true c e = ap is_closer (sym (same_some 93 byte e))
    step false false true e = ap is_closer (sym (same_some 125 byte e))
    step false false false e = cc e

-- what is known of the brackets that are open behind a token
record Onward (closer : ℕ) (others next : List ℕ) : Type 0 where
  pub longer : length others ≤ length next
  pub closers : are_closers (closer ∷ others) ≡ true → are_closers next ≡ true

onward : (closer : ℕ) (others : List ℕ) (token : Terminal) (next : List ℕ) → behind_token closer others token ≡ Some next → Onward closer others next
onward closer others token next is = step (is_mark (closer ∷ []) token) (closer_of token) refl is
  where
    along : (one : List ℕ) → one ≡ next → Onward closer others one → Onward closer others next
    along one e = subst (λ (n : List ℕ). Onward closer others n) e

    plain : (bracket : Bool) → (if bracket then None else Some (closer ∷ others)) ≡ Some next → Onward closer others next
    plain true e = no_some next e
    plain false e = along (closer ∷ others) (same_some (closer ∷ others) next e) (record { longer = omega arith; closers = λ all. all })

    step : (closes : Bool) (inner : Option ℕ) → closer_of token ≡ inner → (if closes then Some others else behind_other (closer ∷ others) token inner) ≡ Some next → Onward closer others next
    step true inner o e = along others (same_some others next e) (record { longer = omega arith; closers = λ all. and-right (is_closer closer) (are_closers others) all })
    step false (Some byte) o e = along (byte ∷ (closer ∷ others)) (same_some (byte ∷ (closer ∷ others)) next e)
        (record { longer = omega arith; closers = λ all. and-both (closer_closes token byte o) all })
    step false None o e = plain (is_bracket token) e

-- each bracket that is open takes a token
matched_shorter : (row : List Terminal) (stack : List ℕ) (rest : List Terminal) → behind_matched stack row ≡ Some rest → length rest + length stack ≤ length row
unfolding behind_matched
matched_shorter row [] rest is = omega (arith, ap length (same_some row rest is))
matched_shorter [] (closer ∷ others) rest is = cc is
matched_shorter (token ∷ row) (closer ∷ others) rest is =
    step (λ next. matched_shorter row next rest) (behind_token closer others token) refl (sym (matched_one closer others token row) ∙ is)
  where
    step : ((next : List ℕ) → behind_matched next row ≡ Some rest → length rest + length next ≤ length row)
        → (o : Option (List ℕ)) → behind_token closer others token ≡ o → matched_on o row ≡ Some rest → length rest + length (closer ∷ others) ≤ suc (length row)
    step further None e h = no_some rest h
    step further (Some next) e h = omega (arith, further next h, (onward closer others token next e).longer)

-- what is behind some of them, and then behind the others
record Halfway (one two : List ℕ) (row rest : List Terminal) : Type 0 where
  pub middle : List Terminal
  pub first : behind_matched one row ≡ Some middle
  pub second : behind_matched two middle ≡ Some rest

halfway : (row : List Terminal) (one two : List ℕ) (rest : List Terminal) → behind_matched (one ++ two) row ≡ Some rest → Halfway one two row rest
unfolding behind_matched
halfway row [] two rest is = record { middle = row; first = refl; second = is }
halfway [] (closer ∷ one) two rest is = cc is
halfway (token ∷ row) (closer ∷ one) two rest is = step (λ next. halfway row next two rest) (is_mark (closer ∷ []) token) (closer_of token) refl refl is
  where
    along : (next : List ℕ) → behind_token closer one token ≡ Some next → Halfway next two row rest → Halfway (closer ∷ one) two (token ∷ row) rest
    along next e half = record {
      middle = half.middle;
      first = matched_one closer one token row ∙ (ap (λ (o : Option (List ℕ)). matched_on o row) e ∙ half.first);
      second = half.second;
    }

    turned : {closes : Bool} {inner : Option ℕ} → is_mark (closer ∷ []) token ≡ closes → closer_of token ≡ inner
        → behind_token closer one token ≡ (if closes then Some one else behind_other (closer ∷ one) token inner)
    turned f o = λ i. if f i then Some one else behind_other (closer ∷ one) token (o i)

    plain : ((next : List ℕ) → behind_matched (next ++ two) row ≡ Some rest → Halfway next two row rest) → (bracket : Bool) → is_bracket token ≡ bracket → is_mark (closer ∷ []) token ≡ false → closer_of token ≡ None
        → (if bracket then None else behind_matched (closer ∷ (one ++ two)) row) ≡ Some rest → Halfway (closer ∷ one) two (token ∷ row) rest
    plain further true e f o h = no_some rest h
    plain further false e f o h = along (closer ∷ one)
        (turned f o ∙ ap (λ (b : Bool). if b then None else Some (closer ∷ one)) e) (further (closer ∷ one) h)

    step : ((next : List ℕ) → behind_matched (next ++ two) row ≡ Some rest → Halfway next two row rest) → (closes : Bool) (inner : Option ℕ) → is_mark (closer ∷ []) token ≡ closes → closer_of token ≡ inner
        → (if closes then behind_matched (one ++ two) row else matched_with (λ c. behind_matched (c ∷ (closer ∷ (one ++ two))) row) (behind_matched (closer ∷ (one ++ two)) row) token inner) ≡ Some rest
        → Halfway (closer ∷ one) two (token ∷ row) rest
    step further true inner f o h = along one (ap (λ (b : Bool). if b then Some one else behind_other (closer ∷ one) token (closer_of token)) f) (further one h)
    step further false (Some byte) f o h = along (byte ∷ (closer ∷ one))
        (turned f o) (further (byte ∷ (closer ∷ one)) h)
    step further false None f o h = plain further (is_bracket token) refl f o h

-- The count ends at the bracket that closes the last of some open ones.
pub record Unclosed (guarded : ℕ) (row : List Terminal) : Type 0 where
  pub stack : List ℕ
  pub closers : are_closers stack ≡ true
  pub some : 0 < length stack
  pub rest : List Terminal
  pub matched : behind_matched stack row ≡ Some rest
  pub count : guarded + 1 + length rest ≡ length row

abbrev pub IsCount : ℕ → List Terminal → Type 0
IsCount guarded row = (guarded ≡ 0) ⊎ Unclosed guarded row

count_onward : (guarded : ℕ) (token : Terminal) (others rest : List Terminal) (stack : List ℕ) → are_closers stack ≡ true → 0 < length stack
    → behind_matched stack (token ∷ others) ≡ Some rest → suc guarded + 1 + length rest ≡ suc (length others) → Unclosed guarded others
unfolding behind_matched
count_onward guarded token others rest [] closers some matched count = absurd (omega arith)
count_onward guarded token others rest (closer ∷ stack) closers some matched count =
    step (behind_token closer stack token) refl (sym (matched_one closer stack token others) ∙ matched)
  where
    step : (o : Option (List ℕ)) → behind_token closer stack token ≡ o → matched_on o others ≡ Some rest → Unclosed guarded others
    step None e h = no_some rest h
    step (Some []) e h = absurd (omega (arith, ap length (same_some others rest h)))
    step (Some (byte ∷ next)) e h = record {
      stack = byte ∷ next;
      closers = (onward closer stack token (byte ∷ next) e).closers closers;
      some = omega arith;
      rest = rest;
      matched = h;
      count = omega arith;
    }

count_behind : (guarded : ℕ) (asserting : Bool) (token : Terminal) (others : List Terminal) → IsCount guarded (token ∷ others)
    → IsCount (guarded_behind guarded asserting token others) others
unfolding guarded_front
count_behind (suc count) asserting token others (inl none) = absurd (omega arith)
count_behind (suc count) asserting token others (inr open_now) =
    inr (count_onward count token others open_now.rest open_now.stack open_now.closers open_now.some open_now.matched open_now.count)
count_behind zero asserting token others is = step (asserting && is_mark (codes "(") token)
  where
    front : (o : Option (List Terminal)) → behind_matched (41 ∷ []) others ≡ o → IsCount (inside others o) others
    front None e = inl refl
    front (Some rest) e = inr (record {
      stack = 41 ∷ [];
      closers = refl;
      some = omega arith;
      rest = rest;
      matched = e;
      count = omega (arith, matched_shorter others (41 ∷ []) rest e);
    })

    step : (b : Bool) → IsCount (if b then guarded_front others else 0) others
    step true = front (behind_matched (41 ∷ []) others) refl
    step false = inl refl

within : (row : List Terminal) (guarded : ℕ) (asserting : Bool) (at : ℕ) → IsCount guarded row → at < guarded → in_brackets guarded asserting row at ≡ true
within [] guarded asserting at (inl none) less = absurd (omega arith)
within [] guarded asserting at (inr open_now) less = absurd (omega (arith, open_now.count))
within (token ∷ others) guarded asserting zero is less = is_positive guarded less
within (token ∷ others) zero asserting (suc at) is less = absurd (omega arith)
within (token ∷ others) (suc count) asserting (suc at) is less =
    within others count (is_assertion token) at (count_behind (suc count) asserting token others is) (omega arith)

-- an opening bracket closes none
opens_more : (closer : ℕ) (stack : List ℕ) (token : Terminal) → is_closer closer ≡ true → IsMark (codes "(") token → behind_token closer stack token ≡ Some (41 ∷ (closer ∷ stack))
opens_more closer stack token closes opens =
    ap (λ (b : Bool). if b then Some stack else behind_other (closer ∷ stack) token (closer_of token)) apart
    ∙ ap (λ (o : Option ℕ). behind_other (closer ∷ stack) token o) (ap (λ (b : Bool). if b then Some 41 else (if is_mark (codes "[") token then Some 93 else (if is_mark (codes "{") token then Some 125 else None))) opens)
  where
    differs : (byte : ℕ) → is_closer byte ≡ true → bytes_eq (40 ∷ []) (byte ∷ []) ≡ false
    differs byte c = step (bytes_eq (40 ∷ []) (byte ∷ [])) refl
      where
        step : (same : Bool) → bytes_eq (40 ∷ []) (byte ∷ []) ≡ same → same ≡ false
        step false e = refl
        step true e =
            let lists : (40 ∷ []) ≡ (byte ∷ []) = (bytes_eq-Decides (40 ∷ []) (byte ∷ [])).0 e in
            let one : 40 ≡ byte = cc lists in
            let wrong : is_closer 40 ≡ true = ap is_closer one ∙ c in
            cc wrong

    kind : is_mark_kind token.kind ≡ true
    kind = and-left (is_mark_kind token.kind) (bytes_eq token.bytes (codes "(")) opens

    spelled : token.bytes ≡ codes "("
    spelled = (bytes_eq-Decides token.bytes (codes "(")).0 (and-right (is_mark_kind token.kind) (bytes_eq token.bytes (codes "(")) opens)

    apart : is_mark (closer ∷ []) token ≡ false
    apart = ap (λ (b : Bool). b && bytes_eq token.bytes (closer ∷ [])) kind ∙ (ap (λ (bytes : List ℕ). bytes_eq bytes (closer ∷ [])) spelled ∙ differs closer closes)

-- brackets inside of others close before them
nested : (guarded : ℕ) (token : Terminal) (others rest : List Terminal) (at : ℕ) → IsMark (codes "(") token → behind_matched (41 ∷ []) others ≡ Some rest
    → at + length rest + 1 < length others → Unclosed (suc guarded) (token ∷ others) → at < guarded
unfolding behind_matched
nested guarded token others rest at opens matched less unclosed = step unclosed.stack unclosed.closers unclosed.some unclosed.matched
  where
    step : (stack : List ℕ) → are_closers stack ≡ true → 0 < length stack → behind_matched stack (token ∷ others) ≡ Some unclosed.rest → at < guarded
    step [] closers some outer = absurd (omega arith)
    step (closer ∷ stack) closers some outer =
        let inner : behind_matched ((41 ∷ []) ++ (closer ∷ stack)) others ≡ Some unclosed.rest =
        ap (λ (o : Option (List ℕ)). matched_on o others) (sym (opens_more closer stack token (and-left (is_closer closer) (are_closers stack) closers) opens))
        ∙ (sym (matched_one closer stack token others) ∙ outer) in
        let half = halfway others (41 ∷ []) (closer ∷ stack) unclosed.rest inner in
        let same : half.middle ≡ rest = same_some half.middle rest (sym half.first ∙ matched) in
        let fewer : length unclosed.rest + length (closer ∷ stack) ≤ length rest =
        omega (arith, matched_shorter half.middle (closer ∷ stack) unclosed.rest half.second, ap length same) in
        omega (arith, fewer, unclosed.count)

pub brackets_complete : (row : List Terminal) (guarded : ℕ) (asserting : Bool) (at place : ℕ) (rest : List Terminal) → IsCount guarded row → OpenedAt asserting row place
    → behind_matched (41 ∷ []) (drop (suc place) row) ≡ Some rest → place < at → at + length rest + 1 < length row → in_brackets guarded asserting row at ≡ true
unfolding guarded_front
brackets_complete [] guarded asserting at place rest is opens matched after before = absurd opens
brackets_complete (token ∷ others) guarded asserting zero place rest is opens matched after before = absurd (omega arith)
brackets_complete (token ∷ others) guarded asserting (suc at) (suc place) rest is opens matched after before =
    brackets_complete others (guarded_behind guarded asserting token others) (is_assertion token) at place rest (count_behind guarded asserting token others is)
    opens matched (omega arith) (omega arith)
brackets_complete (token ∷ others) zero asserting (suc at) zero rest is opens matched after before =
    let here : guarded_behind zero asserting token others ≡ length others - length rest - 1 =
    ap (λ (b : Bool). if b then guarded_front others else 0) (and-both opens.0 opens.1) ∙ ap (inside others) matched in
    within others (guarded_behind zero asserting token others) (is_assertion token) at (count_behind zero asserting token others is) (omega arith)
brackets_complete (token ∷ others) (suc guarded) asserting (suc at) zero rest (inl none) opens matched after before = absurd (omega arith)
brackets_complete (token ∷ others) (suc guarded) asserting (suc at) zero rest (inr unclosed) opens matched after before =
    within others guarded (is_assertion token) at (count_behind (suc guarded) asserting token others (inr unclosed))
    (nested guarded token others rest at opens.1 matched (omega arith) unclosed)

-- the row around the `(` at a place
record Opened (row : List Terminal) (place : ℕ) : Type 0 where
  pub before : List Terminal
  pub word : Terminal
  pub opening : Terminal
  pub is : row ≡ before ++ (word ∷ (opening ∷ drop (suc (suc place)) row))
  pub counts : length before ≡ place
  pub asserts : IsWord (codes "__assert_fail") word
  pub opens : IsMark (codes "(") opening

around : (row : List Terminal) (asserting : Bool) (place : ℕ) → OpenedAt asserting row (suc place) → Opened row place
around [] asserting place opens = absurd opens
around (word ∷ []) asserting zero opens = absurd opens
around (word ∷ []) asserting (suc place) opens = absurd opens
around (word ∷ (opening ∷ others)) asserting zero opens =
    record { before = []; word = word; opening = opening; is = refl; counts = refl; asserts = opens.0; opens = opens.1 }
around (first ∷ (next ∷ others)) asserting (suc place) opens =
    let further = around (next ∷ others) (is_assertion first) place opens in
    record {
      before = first ∷ further.before;
      word = further.word;
      opening = further.opening;
      is = ap (λ (row : List Terminal). first ∷ row) further.is;
      counts = ap suc further.counts;
      asserts = further.asserts;
      opens = further.opens;
    }

opened_behind : (before : List Terminal) (word opening : Terminal) (others : List Terminal) (asserting : Bool) → IsWord (codes "__assert_fail") word → IsMark (codes "(") opening
    → OpenedAt asserting (before ++ (word ∷ (opening ∷ others))) (suc (length before))
opened_behind [] word opening others asserting asserts opens = (asserts, opens)
opened_behind (first ∷ before) word opening others asserting asserts opens = opened_behind before word opening others (is_assertion first) asserts opens

dropped_behind : (before : List Terminal) (word opening : Terminal) (others : List Terminal) → drop (suc (suc (length before))) (before ++ (word ∷ (opening ∷ others))) ≡ others
dropped_behind [] word opening others = refl
dropped_behind (first ∷ before) word opening others = dropped_behind before word opening others

length_around : (before inside behind : List Terminal) (word opening closing : Terminal)
    → length (before ++ (word ∷ (opening ∷ (inside ++ (closing ∷ behind))))) ≡ length before + (2 + (length inside + (1 + length behind)))
length_around before inside behind word opening closing =
    let whole = length-append before (word ∷ (opening ∷ (inside ++ (closing ∷ behind)))) in
    let part = length-append inside (closing ∷ behind) in
    omega (arith, whole, part)

pub guarded_sound : (row : List Terminal) (at : ℕ) → in_brackets 0 false row at ≡ true → IsAsserted row at
guarded_sound row at is = step (brackets_sound row 0 false at is)
  where
    there : (row : List Terminal) (place : ℕ) (rest : List Terminal) → OpenedAt false row place → behind_matched (41 ∷ []) (drop (suc place) row) ≡ Some rest
        → place < at → at + length rest + 1 < length row → IsAsserted row at
    there [] place rest opens matched after before = absurd opens
    there (token ∷ others) zero rest opens matched after before = let wrong : false ≡ true = opens.0 in cc wrong
    there (token ∷ others) (suc place) rest opens matched after before =
        let row : List Terminal = token ∷ others in
        let tokens = around row false place opens in
        let (inside, closing, more, split, closed, ends, same) = brackets_close (41 ∷ []) (drop (suc (suc place)) row) rest matched in
        let whole : row ≡ tokens.before ++ (tokens.word ∷ (tokens.opening ∷ (inside ++ (closing ∷ more)))) =
        tokens.is ∙ ap (λ (r : List Terminal). tokens.before ++ (tokens.word ∷ (tokens.opening ∷ r))) split.is in
        record {
          before = tokens.before;
          word = tokens.word;
          opening = tokens.opening;
          inside = inside;
          closing = closing;
          behind = more;
          is = whole;
          asserts = tokens.asserts;
          opens = tokens.opens;
          matched = closed;
          closes = ends;
          from = omega (arith, tokens.counts, after);
          to = omega (arith, tokens.counts, before, ap length same, ap length whole, length_around tokens.before inside more tokens.word tokens.opening closing);
        }

    step : (at < 0) ⊎ Asserted false row at → IsAsserted row at
    step (inl less) = absurd (omega arith)
    step (inr asserted) = there row asserted.place asserted.others asserted.opens asserted.matched asserted.after asserted.before

pub guarded_complete : (row : List Terminal) (at : ℕ) → IsAsserted row at → in_brackets 0 false row at ≡ true
guarded_complete row at is =
    let others : List Terminal = is.inside ++ (is.closing ∷ is.behind) in
    let whole : List Terminal = is.before ++ (is.word ∷ (is.opening ∷ others)) in
    let counted = length_around is.before is.inside is.behind is.word is.opening is.closing in
    subst (λ (row : List Terminal). in_brackets 0 false row at ≡ true) (sym is.is)
    (brackets_complete whole 0 false at (suc (length is.before)) is.behind (inl refl)
    (opened_behind is.before is.word is.opening others false is.asserts is.opens)
    (ap (behind_matched (41 ∷ [])) (dropped_behind is.before is.word is.opening others) ∙ behind_assertion is.inside is.behind is.closing is.matched is.closes)
    (omega (arith, is.from)) (omega (arith, is.to, counted)))
