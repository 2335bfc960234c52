-- Several operands go at once.
use Rattle.std.proofs.Common.{◌≡◌, ℕ, ◌-◌, List, [], ◌∷◌, ◌++◌, length, drop, Bool, true, false, refl, ap, subst, ◌∙◌, length-append, arith, nat_eq, inl, inr}
use Rattle.std.specs.List.{list_any}
use Rattle.std.proofs.lemmas.Bool.{and_parts, both_ways}
use Rattle.bytes_core.specs.declared.block.Block.{Block}
use Rattle.bytes_core.specs.declared.word.Word.{Word}
use Rattle.c_machine.specs.Statements.{oldest}
use Rattle.flow.specs.Holding.{Held, emptied}
use Rattle.simulation.specs.Slots.{Slot, InRegister, KnownAs, Truth, Gone, are_free, is_in, are_in, Stands, Among, Holds}
use Rattle.simulation.proofs.Holding.{stands-behind, holds-dropped}
use Rattle.simulation.proofs.Registers.{held-emptied, stands-emptied, IsFine, rooted-emptied, rooted-weaker, fine-popped, ascending-emptied}

-- as many words as slots
abbrev pub AreBeside : List Slot → List Word → Type 0
AreBeside [] [] = Unit {0}
AreBeside [] (word ∷ words) = ⊥
AreBeside (slot ∷ slots) [] = ⊥
AreBeside (slot ∷ slots) (word ∷ words) = AreBeside slots words

pub parted : (memory : List Block) (registers : List Held) (dropped slots : List Slot) (operands : List Word) → Stands memory registers (dropped ++ slots) operands →
    (words : List Word) × (behind : List Word) × (operands ≡ words ++ behind) × AreBeside dropped words
parted memory registers [] slots operands stands = ([], operands, refl, tt)
parted memory registers (slot ∷ dropped) slots [] stands = absurd stands
parted memory registers (slot ∷ dropped) slots (word ∷ operands) stands =
    let more = parted memory registers dropped slots operands (stands-behind memory registers slot (dropped ++ slots) word operands stands) in
    (word ∷ more.0, more.1, ap (λ (rest : List Word). word ∷ rest) more.2, more.3)

-- those that no register holds
pub holds-unheld : (memory : List Block) (registers : List Held) (dropped slots : List Slot) (words operands : List Word) → are_in [] dropped ≡ true → AreBeside dropped words →
    Holds memory registers (dropped ++ slots) (words ++ operands) → Holds memory registers slots operands
holds-unheld memory registers [] slots [] operands unheld beside holds = holds
holds-unheld memory registers [] slots (word ∷ words) operands unheld beside holds = absurd beside
holds-unheld memory registers (slot ∷ dropped) slots [] operands unheld beside holds = absurd beside
holds-unheld memory registers (slot ∷ dropped) slots (word ∷ words) operands unheld beside holds =
    let parts = and_parts (is_in [] slot) (are_in [] dropped) unheld in
    holds-unheld memory registers dropped slots words operands parts.1 beside (holds-dropped memory registers slot (dropped ++ slots) word (words ++ operands) parts.0 holds)

-- those whose registers are emptied
fine_behind : (gone : List ℕ) (dropped slots : List Slot) (words operands : List Word) → are_in gone dropped ≡ true → AreBeside dropped words → (held : Held) →
    list_any (nat_eq held.register) gone ≡ false → IsFine (dropped ++ slots) (words ++ operands) held → IsFine slots operands held
fine_behind gone [] slots [] operands is beside held stays fine = fine
fine_behind gone [] slots (word ∷ words) operands is beside held stays fine = absurd beside
fine_behind gone (slot ∷ dropped) slots [] operands is beside held stays fine = absurd beside
fine_behind gone (slot ∷ dropped) slots (word ∷ words) operands is beside held stays fine =
    let parts = and_parts (is_in gone slot) (are_in gone dropped) is in
    fine_behind gone dropped slots words operands parts.1 beside held stays (fine-popped gone slot word (dropped ++ slots) (words ++ operands) parts.0 held stays fine)

stands_behind : (memory : List Block) (registers : List Held) (dropped slots : List Slot) (words operands : List Word) → AreBeside dropped words →
    Stands memory registers (dropped ++ slots) (words ++ operands) → Stands memory registers slots operands
stands_behind memory registers [] slots [] operands beside stands = stands
stands_behind memory registers [] slots (word ∷ words) operands beside stands = absurd beside
stands_behind memory registers (slot ∷ dropped) slots [] operands beside stands = absurd beside
stands_behind memory registers (slot ∷ dropped) slots (word ∷ words) operands beside stands =
    stands_behind memory registers dropped slots words operands beside (stands-behind memory registers slot (dropped ++ slots) word (words ++ operands) stands)

pub holds-all_popped : (memory : List Block) (gone : List ℕ) (registers : List Held) (dropped slots : List Slot) (words operands : List Word) → are_free gone slots ≡ true → are_in gone dropped ≡ true →
    AreBeside dropped words → Holds memory registers (dropped ++ slots) (words ++ operands) → Holds memory (emptied gone registers) slots operands
holds-all_popped memory gone registers dropped slots words operands free is beside holds = record {
  stands = stands-emptied memory gone registers slots operands free (stands_behind memory registers dropped slots words operands beside holds.stands);
  rooted = rooted-emptied gone registers (dropped ++ slots) slots (words ++ operands) operands (fine_behind gone dropped slots words operands is beside) holds.rooted;
  ascending = ascending-emptied gone registers holds.ascending;
}

-- none is left where none has a slot that stays
no_more : (gone : List ℕ) (slots : List Slot) (words : List Word) → are_in gone slots ≡ true → (held : Held) → list_any (nat_eq held.register) gone ≡ false → Among slots words held → ⊥
no_more gone [] words is held stays among = among
no_more gone (slot ∷ slots) [] is held stays among = among
no_more gone (InRegister register size plain ∷ slots) (word ∷ words) is held stays (inl same) =
    let parts = and_parts (is_in gone (InRegister register size plain)) (are_in gone slots) is in
    both_ways (list_any (nat_eq held.register) gone) stays (subst (λ (r : ℕ). list_any (nat_eq r) gone ≡ true) same.0 parts.0)
no_more gone (InRegister register size plain ∷ slots) (word ∷ words) is held stays (inr among) =
    let parts = and_parts (is_in gone (InRegister register size plain)) (are_in gone slots) is in no_more gone slots words parts.1 held stays among
no_more gone (KnownAs number ∷ slots) (word ∷ words) is held stays among = no_more gone slots words is held stays among
no_more gone (Truth holds ∷ slots) (word ∷ words) is held stays among = no_more gone slots words is held stays among
no_more gone (Gone ∷ slots) (word ∷ words) is held stays among = no_more gone slots words is held stays among

pub holds-none : (memory : List Block) (registers : List Held) (slots : List Slot) (words : List Word) → are_in [] slots ≡ true → Holds memory registers slots words → Holds memory registers [] []
holds-none memory registers slots words is holds = record {
  stands = tt;
  rooted = rooted-weaker registers slots [] words [] (λ held among. no_more [] slots words is held refl among) holds.rooted;
  ascending = holds.ascending;
}

pub holds-no_more : (memory : List Block) (gone : List ℕ) (registers : List Held) (slots : List Slot) (words : List Word) → are_in gone slots ≡ true → Holds memory registers slots words →
    Holds memory (emptied gone registers) [] []
holds-no_more memory gone registers slots words is holds = record {
  stands = tt;
  rooted = rooted-emptied gone registers slots [] words [] each holds.rooted;
  ascending = ascending-emptied gone registers holds.ascending;
}
  where
    each : (held : Held) → list_any (nat_eq held.register) gone ≡ false → IsFine slots words held → IsFine [] [] held
    each held stays (inl is') = inl is'
    each held stays (inr among) = absurd (no_more gone slots words is held stays among)

-- one alone is left
pub holds-alone : (memory : List Block) (gone : List ℕ) (registers : List Held) (register size : ℕ) (plain : Bool) (slots : List Slot) (word : Word) (words : List Word) →
    list_any (nat_eq register) gone ≡ false → are_in gone slots ≡ true → Holds memory registers (InRegister register size plain ∷ slots) (word ∷ words) →
    Holds memory (emptied gone registers) (InRegister register size plain ∷ []) (word ∷ [])
holds-alone memory gone registers register size plain slots word words stays is holds = record {
  stands = (held-emptied gone registers register stays ∙ holds.stands.0, holds.stands.1, tt);
  rooted = rooted-emptied gone registers (InRegister register size plain ∷ slots) (InRegister register size plain ∷ []) (word ∷ words) (word ∷ []) each holds.rooted;
  ascending = ascending-emptied gone registers holds.ascending;
}
  where
    each : (held : Held) → list_any (nat_eq held.register) gone ≡ false → IsFine (InRegister register size plain ∷ slots) (word ∷ words) held → IsFine (InRegister register size plain ∷ []) (word ∷ []) held
    each held stays' (inl is') = inl is'
    each held stays' (inr (inl same)) = inr (inl same)
    each held stays' (inr (inr among)) = absurd (no_more gone slots words is held stays' among)

-- the operands that were computed first
pub drop_all : (words others : List Word) → drop (length words) (words ++ others) ≡ others
drop_all [] others = refl
drop_all (word ∷ words) others = drop_all words others

pub oldest_behind : (held : ℕ) (words others : List Word) → held ≡ length others → oldest held (words ++ others) ≡ others
oldest_behind held words others is =
    let total = length-append words others in
    let count : length (words ++ others) - held ≡ length words = omega arith in
    ap (λ (k : ℕ). drop k (words ++ others)) count ∙ drop_all words others
