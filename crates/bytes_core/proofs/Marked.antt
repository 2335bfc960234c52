-- The live blocks whose places are marked are just those to which chains lead.
use Rattle.std.proofs.Common.{◌≡◌, ℕ, zero, suc, ◌+◌, ◌<◌, Bool, true, false, ◌&&◌, ◌||◌, List, [], ◌∷◌, ◌++◌, length, take, drop, set, get_or, replicate, nat_eq, Option, None, Some, ◌⊎◌, inl, inr, refl, sym, ap, ◌∙◌, subst, arith}
use Rattle.std.specs.Prelude.{Contains, if◌then◌else◌}
use Rattle.std.specs.Option.{option_to_list}
use Rattle.std.proofs.lemmas.Bool.{and_parts, and_from, or_cases, or_left, or_right, eqb-true, eq-eqb, cases_eq, false≢true, true≢false, not-true, not-false}
use Rattle.std.proofs.lemmas.List.{length-set, length_push, length-replicate, get_or-set_same, get_or-set_other, get_or_default}
use Rattle.std.proofs.lemmas.List.Elements.{Contains-append_left, Contains-append_right, Contains-append_cases, Contains-push, Contains-push_cases}
use Rattle.bytes_core.specs.declared.byte.Byte.{Byte}
use Rattle.bytes_core.specs.declared.byte.Byte.TheVariants.{Num, Part}
use Rattle.bytes_core.specs.Value.{are_parts}
use Rattle.bytes_core.specs.Living.{places_of, place_of}
use Rattle.bytes_core.specs.Loss.{holds_pointer_to}
use Rattle.bytes_core.specs.Marking.{front_target, targets, Marking, marking, is_marked, is_open, with_mark, with_marks, AreMarks, Way, Begin, Onward}

-- the targets from a place on: that at the place, and those behind it
targets_on : (bytes : List Byte) (at : ℕ) → at < length bytes → targets (drop at bytes) ≡ option_to_list (front_target (drop at bytes)) ++ targets (drop (at + 1) bytes)
targets_on [] at inside = absurd (omega arith)
targets_on (byte ∷ rest) zero inside = refl
targets_on (byte ∷ rest) (suc at) inside =
    let there : suc (at + 1) ≡ suc at + 1 = omega arith in
    targets_on rest at (omega arith) ∙ ap (λ (n : ℕ). option_to_list (front_target (drop at rest)) ++ targets (drop n (byte ∷ rest))) there

pub marked_none : (state : Marking) (numbers places : List ℕ) (bytes : List Byte) (at : ℕ) → at < length bytes → front_target (drop at bytes) ≡ None →
    with_marks state (places_of numbers places (targets (drop (at + 1) bytes))) ≡ with_marks state (places_of numbers places (targets (drop at bytes)))
marked_none state numbers places bytes at inside none =
    sym (ap (λ (found : List ℕ). with_marks state (places_of numbers places found))
    (targets_on bytes at inside ∙ ap (λ (front : Option ℕ). option_to_list front ++ targets (drop (at + 1) bytes)) none))

-- a place that is marked before others
pub marked_before : (state : Marking) (found : Option ℕ) (rest : List ℕ) → with_marks (with_marks state (option_to_list found)) rest ≡ with_marks state (option_to_list found ++ rest)
marked_before state None rest = refl
marked_before state (Some place) rest = refl

pub marked_some : (state : Marking) (numbers places : List ℕ) (bytes : List Byte) (at target : ℕ) → at < length bytes → front_target (drop at bytes) ≡ Some target →
    with_marks (with_marks state (option_to_list (place_of numbers places target))) (places_of numbers places (targets (drop (at + 1) bytes)))
    ≡ with_marks state (places_of numbers places (targets (drop at bytes)))
marked_some state numbers places bytes at target inside some =
    marked_before state (place_of numbers places target) (places_of numbers places (targets (drop (at + 1) bytes)))
    ∙ sym (ap (λ (found : List ℕ). with_marks state (places_of numbers places found))
    (targets_on bytes at inside ∙ ap (λ (front : Option ℕ). option_to_list front ++ targets (drop (at + 1) bytes)) some))

-- how many blocks are not marked
abbrev pub unmarked : List Bool → ℕ
unmarked [] = 0
unmarked (true ∷ rest) = unmarked rest
unmarked (false ∷ rest) = 1 + unmarked rest

unmarked-set : (marks : List Bool) (number : ℕ) → get_or marks number true ≡ false → unmarked (set marks number true) + 1 ≡ unmarked marks
unmarked-set [] number is = absurd (true≢false is)
unmarked-set (true ∷ rest) zero is = absurd (true≢false is)
unmarked-set (false ∷ rest) zero is = omega arith
unmarked-set (true ∷ rest) (suc number) is = unmarked-set rest number is
unmarked-set (false ∷ rest) (suc number) is = let more = unmarked-set rest number is in omega arith

pub Contains-nil : (number : ℕ) → Contains [] number → ⊥
Contains-nil number there = absurd (omega (arith, there.1))

pub Contains-one : (one number : ℕ) → Contains (one ∷ []) number → one ≡ number
Contains-one one number there = at (Contains-push_cases [] one number there)
  where
    at : Contains [] number ⊎ (one ≡ number) → one ≡ number
    at (inl none) = absurd (Contains-nil number none)
    at (inr same) = same

-- what the marking of some blocks changes
record Grown (before : Marking) (numbers : List ℕ) (after : Marking) : Type 0 where
  size : length after.marks ≡ length before.marks
  kept : (number : ℕ) → is_marked before.marks number ≡ true → is_marked after.marks number ≡ true
  waits : (number : ℕ) → Contains before.waiting number → Contains after.waiting number
  new : (number : ℕ) → is_marked after.marks number ≡ true → (is_marked before.marks number ≡ true) ⊎ (Contains numbers number × Contains after.waiting number)
  from : (number : ℕ) → Contains after.waiting number → Contains before.waiting number ⊎ (is_marked after.marks number ≡ true)
  all : (number : ℕ) → Contains numbers number → number < length before.marks → is_marked after.marks number ≡ true
  measure : unmarked after.marks + length after.waiting ≡ unmarked before.marks + length before.waiting

Grown-none : (state : Marking) → Grown state [] state
Grown-none state = record {
  size = refl;
  kept = λ number is. is;
  waits = λ number there. there;
  new = λ number is. inl is;
  from = λ number there. inl there;
  all = λ number there inside. absurd (Contains-nil number there);
  measure = refl;
}

Grown-then : (one two three : Marking) (first second : List ℕ) → Grown one first two → Grown two second three → Grown one (first ++ second) three
Grown-then one two three first second before after = record {
  size = after.size ∙ before.size;
  kept = λ number is. after.kept number (before.kept number is);
  waits = λ number there. after.waits number (before.waits number there);
  new = λ number is. new_at number (after.new number is);
  from = λ number there. from_at number (after.from number there);
  all = λ number there inside. all_at number inside (Contains-append_cases first second number there);
  measure = after.measure ∙ before.measure;
}
  where
    earlier : (number : ℕ) → (is_marked one.marks number ≡ true) ⊎ (Contains first number × Contains two.waiting number) →
        (is_marked one.marks number ≡ true) ⊎ (Contains (first ++ second) number × Contains three.waiting number)
    earlier number (inl is) = inl is
    earlier number (inr (there, waits)) = inr (Contains-append_left first second number there, after.waits number waits)

    new_at : (number : ℕ) → (is_marked two.marks number ≡ true) ⊎ (Contains second number × Contains three.waiting number) →
        (is_marked one.marks number ≡ true) ⊎ (Contains (first ++ second) number × Contains three.waiting number)
    new_at number (inl is) = earlier number (before.new number is)
    new_at number (inr (there, waits)) = inr (Contains-append_right first second number there, waits)

    older : (number : ℕ) → Contains one.waiting number ⊎ (is_marked two.marks number ≡ true) → Contains one.waiting number ⊎ (is_marked three.marks number ≡ true)
    older number (inl there) = inl there
    older number (inr is) = inr (after.kept number is)

    from_at : (number : ℕ) → Contains two.waiting number ⊎ (is_marked three.marks number ≡ true) → Contains one.waiting number ⊎ (is_marked three.marks number ≡ true)
    from_at number (inl there) = older number (before.from number there)
    from_at number (inr is) = inr is

    all_at : (number : ℕ) → number < length one.marks → Contains first number ⊎ Contains second number → is_marked three.marks number ≡ true
    all_at number inside (inl there) = after.kept number (before.all number there inside)
    all_at number inside (inr there) = after.all number there (rw before.size inside)

-- one that is not marked is inside
open_inside : (marks : List Bool) (number : ℕ) → get_or marks number true ≡ false → number < length marks
open_inside [] number is = absurd (true≢false is)
open_inside (mark ∷ rest) zero is = omega arith
open_inside (mark ∷ rest) (suc number) is = let inside = open_inside rest number is in omega arith

Grown-cases : (state : Marking) (number : ℕ) (fresh : Bool) → is_open state.marks number ≡ fresh →
    Grown state (number ∷ []) (if fresh then marking (set state.marks number true) (state.waiting ++ number ∷ []) else state)
Grown-cases state number true fresh = record {
  size = length-set state.marks number true;
  kept = λ other is. kept_at other is (cases_eq other number);
  waits = λ other there. Contains-append_left state.waiting (number ∷ []) other there;
  new = λ other is. new_at other is (cases_eq other number);
  from = λ other there. from_at other (Contains-push_cases state.waiting number other there);
  all = λ other there within. marked_now other (sym (Contains-one number other there));
  measure = let fewer = unmarked-set state.marks number none in omega (arith, length_push state.waiting number);
}
  where
    none : get_or state.marks number true ≡ false
    none = not-true (get_or state.marks number true) fresh

    inside : number < length state.marks
    inside = open_inside state.marks number none

    marked_now : (other : ℕ) → other ≡ number → is_marked (set state.marks number true) other ≡ true
    marked_now other same = ap (is_marked (set state.marks number true)) same ∙ get_or-set_same state.marks number true false inside

    kept_at : (other : ℕ) → is_marked state.marks other ≡ true → (other ≡ number) ⊎ (other ≡ number → ⊥) → is_marked (set state.marks number true) other ≡ true
    kept_at other is (inl same) = marked_now other same
    kept_at other is (inr differ) = get_or-set_other state.marks number other true false differ ∙ is

    new_at : (other : ℕ) → is_marked (set state.marks number true) other ≡ true → (other ≡ number) ⊎ (other ≡ number → ⊥) →
        (is_marked state.marks other ≡ true) ⊎ (Contains (number ∷ []) other × Contains (state.waiting ++ number ∷ []) other)
    new_at other is (inl same) = inr (rw same (Contains-push [] number), rw same (Contains-push state.waiting number))
    new_at other is (inr differ) = inl (sym (get_or-set_other state.marks number other true false differ) ∙ is)

    from_at : (other : ℕ) → Contains state.waiting other ⊎ (number ≡ other) → Contains state.waiting other ⊎ (is_marked (set state.marks number true) other ≡ true)
    from_at other (inl there) = inl there
    from_at other (inr same) = inr (marked_now other (sym same))
Grown-cases state number false fresh = record {
  size = refl;
  kept = λ other is. is;
  waits = λ other there. there;
  new = λ other is. inl is;
  from = λ other there. inl there;
  all = λ other there within. rw (sym (Contains-one number other there)) (get_or_default state.marks number false true (rw (Contains-one number other there) within) ∙ not-false (get_or state.marks number true) fresh);
  measure = refl;
}

Grown-mark : (state : Marking) (number : ℕ) → Grown state (number ∷ []) (with_mark state number)
unfolding with_mark
Grown-mark state number = Grown-cases state number (is_open state.marks number) refl

Grown-marks : (state : Marking) (numbers : List ℕ) → Grown state numbers (with_marks state numbers)
Grown-marks state [] = Grown-none state
Grown-marks state (number ∷ rest) =
    Grown-then state (with_mark state number) (with_marks (with_mark state number) rest) (number ∷ []) rest (Grown-mark state number) (Grown-marks (with_mark state number) rest)

-- each mark that is made is one block less that is not marked, and one more that waits
pub marks_measure : (state : Marking) (numbers : List ℕ) →
    unmarked (with_marks state numbers).marks + length (with_marks state numbers).waiting ≡ unmarked state.marks + length state.waiting
marks_measure state numbers = (Grown-marks state numbers).measure

-- the targets of bytes are the blocks to which they hold whole pointers
pub targets_held : (target : ℕ) (bytes : List Byte) → Contains (targets bytes) target → holds_pointer_to target bytes ≡ true
targets_held target [] there = absurd (Contains-nil target there)
targets_held target (Num number ∷ rest) there = targets_held target rest there
targets_held target (Part block offset k ∷ rest) there =
    at (are_parts block offset 0 (take 8 (Part block offset k ∷ rest))) (λ later. targets_held target rest later) there
  where
    at : (parts : Bool) → (Contains (targets rest) target → holds_pointer_to target rest ≡ true) →
        Contains (option_to_list (if parts then Some block else None) ++ targets rest) target → ((nat_eq block target && parts) || holds_pointer_to target rest) ≡ true
    at true more found = by_cases (Contains-append_cases (block ∷ []) (targets rest) target found)
      where
        by_cases : Contains (block ∷ []) target ⊎ Contains (targets rest) target → ((nat_eq block target && true) || holds_pointer_to target rest) ≡ true
        by_cases (inl here) = or_left (nat_eq block target && true) (holds_pointer_to target rest) (and_from (nat_eq block target) true (eq-eqb block target (Contains-one block target here)) refl)
        by_cases (inr later) = or_right (nat_eq block target && true) (holds_pointer_to target rest) (more later)
    at false more found = or_right (nat_eq block target && false) (holds_pointer_to target rest) (more found)

pub held_targets : (target : ℕ) (bytes : List Byte) → holds_pointer_to target bytes ≡ true → Contains (targets bytes) target
held_targets target [] holds = absurd (false≢true holds)
held_targets target (Num number ∷ rest) holds = held_targets target rest holds
held_targets target (Part block offset k ∷ rest) holds =
    at (are_parts block offset 0 (take 8 (Part block offset k ∷ rest))) (λ later. held_targets target rest later) holds
  where
    at : (parts : Bool) → (holds_pointer_to target rest ≡ true → Contains (targets rest) target) → ((nat_eq block target && parts) || holds_pointer_to target rest) ≡ true →
        Contains (option_to_list (if parts then Some block else None) ++ targets rest) target
    at true more found = by_cases (or_cases (nat_eq block target && true) (holds_pointer_to target rest) found)
      where
        by_cases : ((nat_eq block target && true) ≡ true) ⊎ (holds_pointer_to target rest ≡ true) → Contains (block ∷ targets rest) target
        by_cases (inl here) =
            let same = eqb-true block target (and_parts (nat_eq block target) true here).0 in
            Contains-append_left (block ∷ []) (targets rest) target (rw (sym same) (Contains-push [] block))
        by_cases (inr later) = Contains-append_right (block ∷ []) (targets rest) target (more later)
    at false more found = by_cases (or_cases (nat_eq block target && false) (holds_pointer_to target rest) found)
      where
        by_cases : ((nat_eq block target && false) ≡ true) ⊎ (holds_pointer_to target rest ≡ true) → Contains (targets rest) target
        by_cases (inl here) = absurd (false≢true (and_parts (nat_eq block target) false here).1)
        by_cases (inr later) = more later

none_marked : (count number : ℕ) → is_marked (replicate count false) number ≡ false
none_marked zero number = refl
none_marked (suc count) zero = refl
none_marked (suc count) (suc number) = none_marked count number

-- the first places are marked first
pub marks_begin : (count : ℕ) (first : List ℕ) (next : ℕ → List ℕ) → AreMarks count first next (with_marks (marking (replicate count false) []) first)
marks_begin count first next = record {
  size = grown.size ∙ length-replicate count false;
  reached = λ place is. reached_at place (grown.new place is);
  begun = λ place there inside. grown.all place there (rw length-replicate inside);
  marked = λ place there. marked_at place (grown.from place there);
  followed = λ from place is there inside. followed_at from place (grown.new from is);
}
  where
    grown : Grown (marking (replicate count false) []) first (with_marks (marking (replicate count false) []) first)
    grown = Grown-marks (marking (replicate count false) []) first

    reached_at : (place : ℕ) → (is_marked (replicate count false) place ≡ true) ⊎ (Contains first place × Contains (with_marks (marking (replicate count false) []) first).waiting place) →
        Way first next place
    reached_at place (inl is) = absurd (false≢true (sym (none_marked count place) ∙ is))
    reached_at place (inr (there, waits)) = Begin place there

    marked_at : (place : ℕ) → Contains [] place ⊎ (is_marked (with_marks (marking (replicate count false) []) first).marks place ≡ true) →
        is_marked (with_marks (marking (replicate count false) []) first).marks place ≡ true
    marked_at place (inl there) = absurd (Contains-nil place there)
    marked_at place (inr is) = is

    followed_at : (from place : ℕ) → (is_marked (replicate count false) from ≡ true) ⊎ (Contains first from × Contains (with_marks (marking (replicate count false) []) first).waiting from) →
        (is_marked (with_marks (marking (replicate count false) []) first).marks place ≡ true) ⊎ Contains (with_marks (marking (replicate count false) []) first).waiting from
    followed_at from place (inl is) = absurd (false≢true (sym (none_marked count from) ∙ is))
    followed_at from place (inr (there, waits)) = inr waits

-- a place that waited is looked through
pub marks_follow : (count : ℕ) (first : List ℕ) (next : ℕ → List ℕ) (marks : List Bool) (waiting rest : List ℕ) (last : ℕ) → waiting ≡ rest ++ last ∷ [] →
    AreMarks count first next (marking marks waiting) → AreMarks count first next (with_marks (marking marks rest) (next last))
marks_follow count first next marks waiting rest last is are = looked (subst (λ (items : List ℕ). AreMarks count first next (marking marks items)) is are)
  where
    looked : AreMarks count first next (marking marks (rest ++ last ∷ [])) → AreMarks count first next (with_marks (marking marks rest) (next last))
    looked are = record {
      size = grown.size ∙ are.size;
      reached = λ place is. reached_at place (grown.new place is);
      begun = λ place there inside. grown.kept place (are.begun place there inside);
      marked = λ place there. marked_at place (grown.from place there);
      followed = λ from place is there inside. followed_at from place there inside (grown.new from is);
    }
      where
        grown : Grown (marking marks rest) (next last) (with_marks (marking marks rest) (next last))
        grown = Grown-marks (marking marks rest) (next last)

        way : Way first next last
        way = are.reached last (are.marked last (Contains-push rest last))

        reached_at : (place : ℕ) →
            (is_marked marks place ≡ true) ⊎ (Contains (next last) place × Contains (with_marks (marking marks rest) (next last)).waiting place) → Way first next place
        reached_at place (inl is) = are.reached place is
        reached_at place (inr (there, waits)) = Onward last place way there

        marked_at : (place : ℕ) → Contains rest place ⊎ (is_marked (with_marks (marking marks rest) (next last)).marks place ≡ true) →
            is_marked (with_marks (marking marks rest) (next last)).marks place ≡ true
        marked_at place (inl there) = grown.kept place (are.marked place (Contains-append_left rest (last ∷ []) place there))
        marked_at place (inr is) = is

        waited_at : (from place : ℕ) → Contains (next from) place → place < count → Contains rest from ⊎ (last ≡ from) →
            (is_marked (with_marks (marking marks rest) (next last)).marks place ≡ true) ⊎ Contains (with_marks (marking marks rest) (next last)).waiting from
        waited_at from place there inside (inl waits) = inr (grown.waits from waits)
        waited_at from place there inside (inr same) =
            inl (grown.all place (subst (λ (n : ℕ). Contains (next n) place) (sym same) there) (rw are.size inside))

        older : (from place : ℕ) → Contains (next from) place → place < count → (is_marked marks place ≡ true) ⊎ Contains (rest ++ last ∷ []) from →
            (is_marked (with_marks (marking marks rest) (next last)).marks place ≡ true) ⊎ Contains (with_marks (marking marks rest) (next last)).waiting from
        older from place there inside (inl is) = inl (grown.kept place is)
        older from place there inside (inr waits) = waited_at from place there inside (Contains-push_cases rest last from waits)

        followed_at : (from place : ℕ) → Contains (next from) place → place < count →
            (is_marked marks from ≡ true) ⊎ (Contains (next last) from × Contains (with_marks (marking marks rest) (next last)).waiting from) →
            (is_marked (with_marks (marking marks rest) (next last)).marks place ≡ true) ⊎ Contains (with_marks (marking marks rest) (next last)).waiting from
        followed_at from place there inside (inl is) = older from place there inside (are.followed from place is there inside)
        followed_at from place there inside (inr (held, waits)) = inr waits

-- a block that waited is one less that waits, or is not marked
pub look_smaller : (marks marks' : List Bool) (waiting waiting' rest : List ℕ) (last : ℕ) (numbers : List ℕ) → waiting ≡ rest ++ last ∷ [] →
    marking marks' waiting' ≡ with_marks (marking marks rest) numbers → unmarked marks' + length waiting' < unmarked marks + length waiting
look_smaller marks marks' waiting waiting' rest last numbers is after =
    let same : unmarked marks' + length waiting' ≡ unmarked marks + length rest =
    ap (λ (state : Marking). unmarked state.marks + length state.waiting) after ∙ marks_measure (marking marks rest) numbers in
    let one : length waiting ≡ length rest + 1 = ap length is ∙ length_push rest last in omega arith
