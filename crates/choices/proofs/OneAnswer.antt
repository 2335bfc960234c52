-- A text has one answer.
use Rattle.std.proofs.Common.{◌≡◌, ℕ, zero, suc, ◌+◌, ◌^◌, ◌<◌, ◌≤◌, ◌==◌, ◌⊎◌, inl, inr, ◌&&◌, Bool, true, List, [], ◌∷◌, ◌++◌, length, take, drop, get_or, codes, refl, ap, sym, ◌∙◌, subst, add-one, arith, nat_lt, nat_le, lt-ltb, le-ltb, le-leb, if◌then◌else◌}
use Rattle.std.proofs.lemmas.List.{append-nil, take-append-drop, take-take, take_all}
use Rattle.std.proofs.lemmas.Bool.{cond-true, cond-false, cases_order, and_from, and_parts, leb-true, false_from_ne_true}
use Rattle.choices.specs.declared.choice.Choice.{Choice}
use Rattle.choices.specs.declared.part.Part.{Part}
use Rattle.choices.specs.declared.part.Part.TheVariants.{Begin, InWord, First, Digits, Contents, Hyphen, Half, Whole}
use Rattle.choices.specs.declared.reader.Reader.{Reader}
use Rattle.choices.specs.declared.refusal.Refusal.{Refusal}
use Rattle.choices.specs.declared.refusal.Refusal.TheVariants as refusal
use Rattle.choices.specs.declared.refusal.ReadChoices.{ReadChoices}
use Rattle.choices.specs.declared.refusal.ReadChoices.TheVariants.{Choices, Refused}
use Rattle.cbase.specs.Bytes.{is_digit, decimal_value}
use Rattle.choices.specs.Format.{SpellsChoices}
use Rattle.choices.specs.Reading.{refusal_at}
use Rattle.choices.specs.Run.{Turn, Goes, Stops, step, run, start}
use Rattle.choices.specs.Answers.{BeginsText, IsCutShort, IsRefusedAt, IsTooLong, IsRefusal, IsAnswer, part_before, part_number, is_hexadecimal}
use Rattle.choices.proofs.Digits.{between}
use Rattle.choices.proofs.Complete.{reading, spelled_run}
use Rattle.choices.proofs.Endings.{begins_before}
use Rattle.choices.proofs.Refusals.{cut_short, refused, one_more, read_whole}

-- ---- a text spells one list

pub one_list : (text : List ℕ) (a b : List Choice) → SpellsChoices text a → SpellsChoices text b → a ≡ b
one_list text a b first second =
    let one = spelled_run text a first in
    let two = spelled_run text b second in
    let same : reading a Begin [] ≡ reading b Begin [] = cc in
    ap (λ (r : Reader). r.choices) same

-- ---- a text is refused at one place

spelled_begins : (text : List ℕ) (choices : List Choice) → SpellsChoices text choices → BeginsText text
spelled_begins text choices s = ([], choices, subst (λ (w : List ℕ). SpellsChoices w choices) (sym (append-nil text)) s)

whole_stops : (text : List ℕ) (at : ℕ) → IsRefusedAt text at → ¬ BeginsText text
whole_stops text at r begins =
    r.goes_on_with_none (begins_before (take (at + 1) text) (drop (at + 1) text) (subst BeginsText (sym (take-append-drop (at + 1) text)) begins))

no_later : (text : List ℕ) (a b : ℕ) → IsRefusedAt text a → IsRefusedAt text b → ¬ (a < b)
no_later text a b first second less =
    let same : take (a + 1) (take b text) ≡ take (a + 1) text = take-take (a + 1) b text (omega arith) in
    let split : take (a + 1) text ++ drop (a + 1) (take b text) ≡ take b text =
    ap (λ (w : List ℕ). w ++ drop (a + 1) (take b text)) (sym same) ∙ take-append-drop (a + 1) (take b text) in
    first.goes_on_with_none (begins_before (take (a + 1) text) (drop (a + 1) (take b text)) (subst BeginsText (sym split) second.begins))

same_place : (text : List ℕ) (a b : ℕ) → IsRefusedAt text a → IsRefusedAt text b → ((a ≡ b) ⊎ ((a < b) ⊎ (b < a))) → a ≡ b
same_place text a b first second (inl same) = same
same_place text a b first second (inr (inl less)) = absurd (no_later text a b first second less)
same_place text a b first second (inr (inr more)) = absurd (no_later text b a second first more)

-- ---- a place has one name

abbrev pick : {A : Type 0} → ℕ → A → A → A → A
pick part word number contents = if part == 0 then word else (if part == 1 then number else contents)

abbrev named_in_number : Bool → ℕ → ℕ → Refusal
named_in_number digit value at = if digit then (if nat_lt value (2 ^ 64) then refusal.LeadingZero at else refusal.TooGreat at) else refusal.Number at

abbrev named_in_contents : Bool → ℕ → Refusal
named_in_contents long at = if long then refusal.TooLong at else refusal.Contents at

abbrev number_name : List ℕ → ℕ → Refusal
number_name text at = named_in_number (is_digit (get_or text at 0)) (decimal_value 0 (part_before text at ++ get_or text at 0 ∷ [])) at

abbrev contents_name : List ℕ → ℕ → Refusal
contents_name text at = named_in_contents (is_hexadecimal (get_or text at 0) && nat_le 131072 (length (part_before text at))) at

-- the name of a place, by what stands before it and at it
abbrev named : List ℕ → ℕ → Refusal
named text at = pick (part_number text at) (refusal.Word at) (number_name text at) (contents_name text at)

-- what is known of a refusal
record IsNamed (text : List ℕ) (name : Refusal) : Type 0 where
  at : ℕ
  refused : IsRefusedAt text at
  is : name ≡ named text at

in_part : (text : List ℕ) (at part : ℕ) → part_number text at ≡ part → pick part (refusal.Word at) (number_name text at) (contents_name text at) ≡ named text at
in_part text at part is = sym (ap (λ (n : ℕ). pick n (refusal.Word at) (number_name text at) (contents_name text at)) is)

zero_value : (text : List ℕ) (at : ℕ) → is_digit (get_or text at 0) ≡ true → part_before text at ≡ codes "0" → decimal_value 0 (part_before text at ++ get_or text at 0 ∷ []) < 2 ^ 64
zero_value text at digit is =
    let b = between 48 57 (get_or text at 0) digit in
    let high : get_or text at 0 ≤ 57 = b.1 in
    let small : decimal_value 0 (codes "0" ++ get_or text at 0 ∷ []) < 2 ^ 64 = omega arith in
    subst (λ (w : List ℕ). decimal_value 0 (w ++ get_or text at 0 ∷ []) < 2 ^ 64) (sym is) small

long_test : (text : List ℕ) (at : ℕ) → (is_hexadecimal (get_or text at 0) && nat_le 131072 (length (part_before text at))) ≡ true → IsTooLong text at
long_test text at is =
    let parts = and_parts (is_hexadecimal (get_or text at 0)) (nat_le 131072 (length (part_before text at))) is in
    record { digit = parts.0; full = leb-true 131072 (length (part_before text at)) parts.1 }

is_named : (text : List ℕ) (name : Refusal) → IsRefusal text name → (IsCutShort text × (name ≡ refusal.CutShort (length text))) ⊎ IsNamed text name
is_named text (refusal.CutShort at) is = inl (is.0, ap (λ (n : ℕ). refusal.CutShort n) is.1)
is_named text (refusal.Word at) is = inr (record { at = at; refused = is.refused; is = in_part text at 0 is.in_part })
is_named text (refusal.Number at) is = inr (record {
  at = at;
  refused = is.0.refused;
  is = sym (cond-false (is_digit (get_or text at 0)) _ (refusal.Number at) is.1) ∙ in_part text at 1 is.0.in_part;
})
is_named text (refusal.LeadingZero at) is = inr (record {
  at = at;
  refused = is.0.refused;
  is =
      sym (cond-true (is_digit (get_or text at 0)) _ (refusal.Number at) is.1
      ∙ cond-true (nat_lt (decimal_value 0 (part_before text at ++ get_or text at 0 ∷ [])) (2 ^ 64)) (refusal.LeadingZero at) (refusal.TooGreat at)
      (lt-ltb _ (2 ^ 64) (zero_value text at is.1 is.2)))
      ∙ in_part text at 1 is.0.in_part;
})
is_named text (refusal.TooGreat at) is = inr (record {
  at = at;
  refused = is.0.refused;
  is =
      sym (cond-true (is_digit (get_or text at 0)) _ (refusal.Number at) is.1
      ∙ cond-false (nat_lt (decimal_value 0 (part_before text at ++ get_or text at 0 ∷ [])) (2 ^ 64)) (refusal.LeadingZero at) (refusal.TooGreat at)
      (le-ltb _ (2 ^ 64) is.2))
      ∙ in_part text at 1 is.0.in_part;
})
is_named text (refusal.Contents at) is = inr (record {
  at = at;
  refused = is.0.refused;
  is =
      sym (cond-false (is_hexadecimal (get_or text at 0) && nat_le 131072 (length (part_before text at))) (refusal.TooLong at) (refusal.Contents at)
      (false_from_ne_true _ (λ long. is.1 (long_test text at long))))
      ∙ in_part text at 2 is.0.in_part;
})
is_named text (refusal.TooLong at) is = inr (record {
  at = at;
  refused = is.0.refused;
  is =
      sym (cond-true (is_hexadecimal (get_or text at 0) && nat_le 131072 (length (part_before text at))) (refusal.TooLong at) (refusal.Contents at)
      (and_from _ _ is.1.digit (le-leb 131072 (length (part_before text at)) is.1.full)))
      ∙ in_part text at 2 is.0.in_part;
})

-- ---- a text has one answer

same_refusal : (text : List ℕ) (a b : Refusal) → ((IsCutShort text × (a ≡ refusal.CutShort (length text))) ⊎ IsNamed text a) → ((IsCutShort text × (b ≡ refusal.CutShort (length text))) ⊎ IsNamed text b) → a ≡ b
same_refusal text a b (inl (cut, is)) (inl (cut', is')) = is ∙ sym is'
same_refusal text a b (inl (cut, is)) (inr n) = absurd (whole_stops text n.at n.refused cut.begins)
same_refusal text a b (inr n) (inl (cut, is)) = absurd (whole_stops text n.at n.refused cut.begins)
same_refusal text a b (inr n) (inr m) =
    n.is ∙ ap (named text) (same_place text n.at m.at n.refused m.refused (cases_order n.at m.at)) ∙ sym m.is

no_list : (text : List ℕ) (choices : List Choice) (name : Refusal) → SpellsChoices text choices → ((IsCutShort text × (name ≡ refusal.CutShort (length text))) ⊎ IsNamed text name) → ⊥
no_list text choices name s (inl (cut, is)) = cut.spells_none choices s
no_list text choices name s (inr n) = whole_stops text n.at n.refused (spelled_begins text choices s)

pub one_answer : (text : List ℕ) (a b : ReadChoices) → IsAnswer text a → IsAnswer text b → a ≡ b
one_answer text (Choices a) (Choices b) first second = ap (λ (c : List Choice). Choices c) (one_list text a b first second)
one_answer text (Choices a) (Refused b) first second = absurd (no_list text a b first (is_named text b second))
one_answer text (Refused a) (Choices b) first second = absurd (no_list text b a second (is_named text a first))
one_answer text (Refused a) (Refused b) first second = ap (λ (r : Refusal). Refused r) (same_refusal text a b (is_named text a first) (is_named text b second))

-- ---- and it has an answer

abbrev Answered : List ℕ → Type 0
Answered text = (answer : ReadChoices) × IsAnswer text answer

-- so many bytes of a text are read
record IsRead (text : List ℕ) (count : ℕ) : Type 0 where
  reader : Reader
  goes : run start (take count text) ≡ Goes reader

read_on : (text : List ℕ) (count : ℕ) → count < length text → (before : IsRead text count) → (turn : Turn) → step before.reader (get_or text count 0) ≡ turn → Answered text ⊎ IsRead text (suc count)
read_on text count within before (Goes next) is = inr (record {
  reader = next;
  goes = ap (λ (n : ℕ). run start (take n text)) (sym (add-one count)) ∙ one_more text count before.reader next before.goes within is;
})
read_on text count within before Stops is = inl (Refused (refusal_at before.reader.part (get_or text count 0) count), refused text count before.reader before.goes within is)

read_further : (text : List ℕ) (count : ℕ) → count < length text → (Answered text ⊎ IsRead text count) → Answered text ⊎ IsRead text (suc count)
read_further text count within (inl answered) = inl answered
read_further text count within (inr before) = read_on text count within before (step before.reader (get_or text count 0)) refl

read_so_far : (text : List ℕ) (count : ℕ) → count ≤ length text → Answered text ⊎ IsRead text count
read_so_far text zero within = inr (record { reader = start; goes = refl })
read_so_far text (suc count) within = read_further text count (omega arith) (read_so_far text count (omega arith))

at_end : (text : List ℕ) (reader : Reader) → run start text ≡ Goes reader → (part : Part) → reader.part ≡ part → Answered text
at_end text reader goes Begin is = (Choices reader.choices, read_whole text reader goes is)
at_end text reader goes (InWord word read) is = (Refused (refusal.CutShort (length text)), (cut_short text reader goes (λ begin. absurd (cc)), refl))
at_end text reader goes (First number) is = (Refused (refusal.CutShort (length text)), (cut_short text reader goes (λ begin. absurd (cc)), refl))
at_end text reader goes (Digits number value) is = (Refused (refusal.CutShort (length text)), (cut_short text reader goes (λ begin. absurd (cc)), refl))
at_end text reader goes (Contents base) is = (Refused (refusal.CutShort (length text)), (cut_short text reader goes (λ begin. absurd (cc)), refl))
at_end text reader goes (Hyphen base) is = (Refused (refusal.CutShort (length text)), (cut_short text reader goes (λ begin. absurd (cc)), refl))
at_end text reader goes (Half base high) is = (Refused (refusal.CutShort (length text)), (cut_short text reader goes (λ begin. absurd (cc)), refl))
at_end text reader goes (Whole base) is = (Refused (refusal.CutShort (length text)), (cut_short text reader goes (λ begin. absurd (cc)), refl))

to_end : (text : List ℕ) → (Answered text ⊎ IsRead text (length text)) → Answered text
to_end text (inl answered) = answered
to_end text (inr r) =
    at_end text r.reader (ap (λ (w : List ℕ). run start w) (sym (take_all (length text) text (omega arith))) ∙ r.goes) r.reader.part refl

pub some_answer : (text : List ℕ) → (answer : ReadChoices) × IsAnswer text answer
some_answer text = to_end text (read_so_far text (length text) (omega arith))
