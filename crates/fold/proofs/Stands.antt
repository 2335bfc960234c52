-- How a value of the first neighbour stands in the second one, and what that says of words.
use Rattle.std.proofs.Common.{◌≡◌, ℕ, zero, suc, Bool, true, false, ◌&&◌, ◌||◌, List, [], ◌∷◌, nat_eq, ℤ, Option, None, Some, refl, sym, ◌∙◌, ap, subst, eqb-true, ◌⊎◌, inl, inr}
use Rattle.std.specs.Prelude.{slice_get, if◌then◌else◌}
use Rattle.std.specs.Ordering.{int_eq}
use Rattle.std.proofs.lemmas.Bool.{false≢true}
use Rattle.std.proofs.lemmas.Bool.Decides.{Decides-int_eq}
use Rattle.std.proofs.lemmas.Option.{same_Some, none-some}
use Rattle.bytes_core.specs.declared.word.Word.{Word}
use Rattle.fold.specs.declared.fold.Fold.{Fold}
use Rattle.fold.specs.declared.fold.Standing.{Standing}
use Rattle.fold.specs.declared.fold.Standing.TheVariants.{Same, Own, Apart, Barred}
use Rattle.graph.specs.declared.edges.HasValue.{HasValue}
use Rattle.graph.specs.declared.value.Target.{Target}
use Rattle.graph.specs.declared.value.Target.TheVariants.{Region, First, Last, Each}
use Rattle.graph.specs.declared.value.Value.{Value}
use Rattle.graph.specs.declared.value.Value.TheVariants.{Const, Number, Any, Address}
use Rattle.graph.specs.declared.parts.Parts.{Parts}
use Rattle.graph.specs.Maps.{value_at}
use Rattle.graph.specs.Meaning.{Ends, HasWord, own_offset}
use Rattle.graph.specs.WellFormed.{may_be_held}
use Rattle.graph.proofs.Tests.{and_left, and_right}
use Rattle.fold.specs.Folded.{with_own, own_addresses}
use Rattle.fold.specs.Linked.{key_in}
use Rattle.fold.specs.Standing.{is_plain, is_same_target, is_same_word, offset_of, own_in, apart, own_standing, standing_of, standing_at, standing_from, standing}

-- the second neighbour has a value there, that is the same or is its own
abbrev IsTold : Standing → Type 0
IsTold Same = Unit {0}
IsTold (Own offset) = Unit {0}
IsTold Apart = ⊥
IsTold Barred = ⊥

apart_untold : (plain : Bool) → IsTold (apart plain) → ⊥
apart_untold true told = told
apart_untold false told = told

pub record IsBeside (parts : Parts) (fold : Fold) (behind : List HasValue) (edge : HasValue) (standing : Standing) : Type 0 where
  pub one : Value
  pub key : ℕ
  pub other : Value
  pub one_is : value_at parts.values edge.value ≡ Some one
  pub key_is : key_in edge.at edge.size behind ≡ Some key
  pub other_is : value_at parts.values key ≡ Some other
  pub how : standing_of fold (nat_eq edge.value key) one other ≡ standing

pub beside : (parts : Parts) (fold : Fold) (behind : List HasValue) (edge : HasValue) (how : Standing) → IsTold how → standing parts fold behind edge ≡ how → IsBeside parts fold behind edge how
beside parts fold behind edge how told is = by_one (value_at parts.values edge.value) refl (key_in edge.at edge.size behind) refl is
  where
    untold : (other : Standing) → (IsTold other → ⊥) → other ≡ how → ⊥
    untold other none same = none (subst (λ (s : Standing). IsTold s) (sym same) told)

    by_other : (one : Value) → value_at parts.values edge.value ≡ Some one → (key : ℕ) → key_in edge.at edge.size behind ≡ Some key → (other : Option Value) → value_at parts.values key ≡ other →
        standing_at fold (nat_eq edge.value key) one other ≡ how → IsBeside parts fold behind edge how
    by_other one one_is key key_is None other_is same = absurd (untold Barred (λ none. none) same)
    by_other one one_is key key_is (Some other) other_is same = record { one = one; key = key; other = other; one_is = one_is; key_is = key_is; other_is = other_is; how = same }

    by_one : (one : Option Value) → value_at parts.values edge.value ≡ one → (key : Option ℕ) → key_in edge.at edge.size behind ≡ key → standing_from parts fold edge.value key one ≡ how → IsBeside parts fold behind edge how
    by_one None one_is key key_is same = absurd (untold Barred (λ none. none) same)
    by_one (Some one) one_is None key_is same = absurd (untold (apart (is_plain one)) (apart_untold (is_plain one)) same)
    by_one (Some one) one_is (Some key) key_is same = by_other one one_is key key_is (value_at parts.values key) refl same

-- What standings say.

abbrev IsSameStanding : Standing → Type 0
IsSameStanding Same = Unit {0}
IsSameStanding (Own offset) = ⊥
IsSameStanding Apart = ⊥
IsSameStanding Barred = ⊥

not_same : (one other : Option ℤ) (plain : Bool) → own_standing one other plain ≡ Same → ⊥
not_same None other true is = subst IsSameStanding (sym is) tt
not_same None other false is = subst IsSameStanding (sym is) tt
not_same (Some offset) None true is = subst IsSameStanding (sym is) tt
not_same (Some offset) None false is = subst IsSameStanding (sym is) tt
not_same (Some offset) (Some offset') plain is = by_test (int_eq offset offset') is
  where
    by_test : (b : Bool) → (if b then Own offset else Barred) ≡ Same → ⊥
    by_test true same = subst IsSameStanding (sym same) tt
    by_test false same = subst IsSameStanding (sym same) tt

abbrev offset_told : Standing → Option ℤ
offset_told Same = None
offset_told (Own offset) = Some offset
offset_told Apart = None
offset_told Barred = None

pub own_of : (one other : Option ℤ) (plain : Bool) (offset : ℤ) → own_standing one other plain ≡ Own offset → (one ≡ Some offset) × (other ≡ Some offset)
own_of None other true offset is = absurd (none-some offset (ap offset_told is))
own_of None other false offset is = absurd (none-some offset (ap offset_told is))
own_of (Some a) None true offset is = absurd (none-some offset (ap offset_told is))
own_of (Some a) None false offset is = absurd (none-some offset (ap offset_told is))
own_of (Some a) (Some b) plain offset is = by_test (int_eq a b) refl is
  where
    by_test : (t : Bool) → int_eq a b ≡ t → (if t then Own a else Barred) ≡ Own offset → (Some a ≡ Some offset) × (Some b ≡ Some offset)
    by_test true same told = let e = ap offset_told told in (e, ap Some (sym ((Decides-int_eq a b).0 same)) ∙ e)
    by_test false same told = absurd (none-some offset (ap offset_told told))

-- the same word
pub same_of : (fold : Fold) (same : Bool) (one other : Value) → standing_of fold same one other ≡ Same → ((same && may_be_held one) || is_same_word one other) ≡ true
same_of fold same one other is = by_test ((same && may_be_held one) || is_same_word one other) is
  where
    by_test : (b : Bool) → (if b then Same else own_standing (own_in fold.first one) (own_in fold.second other) (is_plain one && is_plain other)) ≡ Same → b ≡ true
    by_test true told = refl
    by_test false told = absurd (not_same (own_in fold.first one) (own_in fold.second other) (is_plain one && is_plain other) told)

-- each one's own address
pub own_standings : (fold : Fold) (same : Bool) (one other : Value) (offset : ℤ) → standing_of fold same one other ≡ Own offset → (own_in fold.first one ≡ Some offset) × (own_in fold.second other ≡ Some offset)
own_standings fold same one other offset is = by_test ((same && may_be_held one) || is_same_word one other) is
  where
    by_test : (b : Bool) → (if b then Same else own_standing (own_in fold.first one) (own_in fold.second other) (is_plain one && is_plain other)) ≡ Own offset →
        (own_in fold.first one ≡ Some offset) × (own_in fold.second other ≡ Some offset)
    by_test true told = absurd (none-some offset (ap offset_told told))
    by_test false told = own_of (own_in fold.first one) (own_in fold.second other) (is_plain one && is_plain other) offset told

held_alone : (value : Value) → may_be_held value ≡ true → own_offset (Some value) ≡ None
held_alone (Const number size) held = refl
held_alone (Number size) held = refl
held_alone Any held = refl
held_alone (Address object offset Region) held = refl
held_alone (Address object offset First) held = refl
held_alone (Address object offset Last) held = refl
held_alone (Address object offset Each) held = absurd (false≢true held)

-- a value that stands for one word
abbrev pub IsFixed : Value → Type 0
IsFixed (Const number size) = Unit {0}
IsFixed (Number size) = ⊥
IsFixed Any = ⊥
IsFixed (Address object offset target) = Unit {0}

fixed_word : (count : ℕ) (blocks : ℕ → List ℕ) (ends : ℕ → Ends) (value : Value) (one other : Word) → IsFixed value → HasWord count blocks ends value one → HasWord count blocks ends value other → one ≡ other
fixed_word count blocks ends (Const number size) one other fixed has has' = has ∙ sym has'
fixed_word count blocks ends (Number size) one other fixed has has' = absurd fixed
fixed_word count blocks ends Any one other fixed has has' = absurd fixed
fixed_word count blocks ends (Address object offset target) one other fixed has has' = has ∙ sym has'

target_same : (one other : Target) → is_same_target one other ≡ true → (one ≡ other) × ((object : ℕ) (offset : ℤ) → own_offset (Some (Address object offset one)) ≡ None)
target_same Region Region is = (refl, λ object offset. refl)
target_same Region First is = absurd (false≢true is)
target_same Region Last is = absurd (false≢true is)
target_same Region Each is = absurd (false≢true is)
target_same First Region is = absurd (false≢true is)
target_same First First is = (refl, λ object offset. refl)
target_same First Last is = absurd (false≢true is)
target_same First Each is = absurd (false≢true is)
target_same Last Region is = absurd (false≢true is)
target_same Last First is = absurd (false≢true is)
target_same Last Last is = (refl, λ object offset. refl)
target_same Last Each is = absurd (false≢true is)
target_same Each Region is = absurd (false≢true is)
target_same Each First is = absurd (false≢true is)
target_same Each Last is = absurd (false≢true is)
target_same Each Each is = absurd (false≢true is)

same_values : (one other : Value) → is_same_word one other ≡ true → (other ≡ one) × (IsFixed one × (own_offset (Some one) ≡ None))
same_values (Const number size) (Const number' size') is = (
  ap (λ (n : ℕ). Const n size') (eqb-true _ _ (and_left (nat_eq number' number) (nat_eq size' size) is)) ∙ ap (Const number) (eqb-true _ _ (and_right (nat_eq number' number) (nat_eq size' size) is)),
  (tt, refl),
)
same_values (Const number size) (Number size') is = absurd (false≢true is)
same_values (Const number size) Any is = absurd (false≢true is)
same_values (Const number size) (Address object offset target) is = absurd (false≢true is)
same_values (Number size) other is = absurd (false≢true is)
same_values Any other is = absurd (false≢true is)
same_values (Address object offset target) (Const number size) is = absurd (false≢true is)
same_values (Address object offset target) (Number size) is = absurd (false≢true is)
same_values (Address object offset target) Any is = absurd (false≢true is)
same_values (Address object offset target) (Address object' offset' target') is =
    let rest = and_right (nat_eq object' object) (int_eq offset' offset && is_same_target target target') is in
    let targets = target_same target target' (and_right (int_eq offset' offset) (is_same_target target target') rest) in (
      ap (λ (k : ℕ). Address k offset' target') (eqb-true _ _ (and_left (nat_eq object' object) (int_eq offset' offset && is_same_target target target') is))
          ∙ ap (λ (z : ℤ). Address object z target') ((Decides-int_eq offset' offset).0 (and_left (int_eq offset' offset) (is_same_target target target') rest)) ∙ ap (Address object offset) (sym targets.0),
      (tt, targets.1 object offset),
    )

-- values that stand as the same have one word, and are no node's own
pub same_words : (count : ℕ) (blocks : ℕ → List ℕ) (ends : ℕ → Ends) (word : ℕ → Word) (key key' : ℕ) (one other : Value) → HasWord count blocks ends one (word key) → HasWord count blocks ends other (word key') →
    ((nat_eq key key' && may_be_held one) || is_same_word one other) ≡ true → (nat_eq key key' ≡ true → one ≡ other) → (word key ≡ word key') × ((own_offset (Some one) ≡ None) × (own_offset (Some other) ≡ None))
same_words count blocks ends word key key' one other has has' is alike = by_test (nat_eq key key' && may_be_held one) refl is
  where
    by_test : (b : Bool) → (nat_eq key key' && may_be_held one) ≡ b → (b || is_same_word one other) ≡ true → (word key ≡ word key') × ((own_offset (Some one) ≡ None) × (own_offset (Some other) ≡ None))
    by_test true both told =
        let same = and_left (nat_eq key key') (may_be_held one) both in
        let alone = held_alone one (and_right (nat_eq key key') (may_be_held one) both) in
        (ap word (eqb-true _ _ same), (alone, ap (λ (v : Value). own_offset (Some v)) (sym (alike same)) ∙ alone))
    by_test false both told =
        let values = same_values one other told in (
          fixed_word count blocks ends one (word key) (word key') values.1.0 has (subst (λ (v : Value). HasWord count blocks ends v (word key')) values.0 has'),
          (values.1.1, ap (λ (v : Value). own_offset (Some v)) values.0 ∙ values.1.1),
        )

-- an own address
pub own_address : (key : ℕ) (value : Value) (offset : ℤ) → own_in key value ≡ Some offset → (value ≡ Address key offset Region) ⊎ (value ≡ Address key offset Each)
own_address key (Const number size) offset is = absurd (none-some offset is)
own_address key (Number size) offset is = absurd (none-some offset is)
own_address key Any offset is = absurd (none-some offset is)
own_address key (Address object place target) offset is = by_key (nat_eq object key) refl is
  where
    by_target : (target : Target) → object ≡ key → offset_of target place ≡ Some offset → (Address object place target ≡ Address key offset Region) ⊎ (Address object place target ≡ Address key offset Each)
    by_target Region same told = inl (ap (λ (k : ℕ). Address k place Region) same ∙ ap (λ (z : ℤ). Address key z Region) (same_Some _ _ told))
    by_target First same told = absurd (none-some offset told)
    by_target Last same told = absurd (none-some offset told)
    by_target Each same told = inr (ap (λ (k : ℕ). Address k place Each) same ∙ ap (λ (z : ℤ). Address key z Each) (same_Some _ _ told))

    by_key : (b : Bool) → nat_eq object key ≡ b → (if b then offset_of target place else None) ≡ Some offset → (Address object place target ≡ Address key offset Region) ⊎ (Address object place target ≡ Address key offset Each)
    by_key true same told = by_target target (eqb-true _ _ same) told
    by_key false other told = absurd (none-some offset told)

-- the values more are own addresses
pub owns_are : (key : ℕ) (stands : HasValue → Standing) (edges : List HasValue) (place : ℕ) (value : Value) → slice_get (own_addresses key stands edges) place ≡ Some value → (offset : ℤ) × (value ≡ Address key offset Each)
owns_are key stands [] place value is = absurd (none-some value is)
owns_are key stands (edge ∷ rest) place value is = by_standing (stands edge) place is (λ at there. owns_are key stands rest at value there)
  where
    by_standing : (standing : Standing) (place : ℕ) → slice_get (with_own key standing (own_addresses key stands rest)) place ≡ Some value →
        ((at : ℕ) → slice_get (own_addresses key stands rest) at ≡ Some value → (offset : ℤ) × (value ≡ Address key offset Each)) → (offset : ℤ) × (value ≡ Address key offset Each)
    by_standing Same place told later = later place told
    by_standing (Own offset) zero told later = (offset, sym (same_Some _ _ told))
    by_standing (Own offset) (suc place) told later = later place told
    by_standing Apart place told later = later place told
    by_standing Barred place told later = later place told
