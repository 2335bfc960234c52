-- What registers hold behind an instruction, beside the operands of unfinished expressions.
use Rattle.std.proofs.Common.{◌≡◌, ◌≢◌, ℕ, List, [], ◌∷◌, Bool, true, false, not, refl, sym, ◌∙◌, ◌⊎◌, inl, inr, Some, nat_eq}
use Rattle.std.specs.List.{list_any}
use Rattle.std.proofs.lemmas.Bool.{eq-eqb, ne_eqb, or_left, or_right, false≢true}
use Rattle.bytes_core.specs.declared.block.Block.{Block}
use Rattle.bytes_core.specs.declared.word.Word.{Word}
use Rattle.bytes_core.specs.declared.word.Word.TheVariants.{Plain}
use Rattle.bytes_core.specs.Access.{loaded}
use Rattle.c_machine.specs.Words.{is_true}
use Rattle.flow.specs.Holding.{Held, held_by, put, emptied}
use Rattle.simulation.specs.Slots.{Slot, InRegister, KnownAs, Truth, Gone, is_free, is_whole, are_free, is_in, Stands, Among, IsPlainWhere, Holds}
use Rattle.simulation.proofs.Registers.{held-put_same, held-emptied, free_first, stands-put, stands-emptied, stands-memory, IsFine, rooted-put, rooted-put_over, rooted-emptied, rooted-weaker, among-push, fine-popped, ascending-put, ascending-emptied}

-- what holds behind instructions
pub holds-put : (memory : List Block) (into size : ℕ) (word : Word) (plain : Bool) (registers : List Held) (slots : List Slot) (operands : List Word) →
    is_free into slots ≡ true → IsPlainWhere plain word → Holds memory registers slots operands →
    Holds memory (put (record { register = into; size = size; word = word }) registers) (InRegister into size plain ∷ slots) (word ∷ operands)
holds-put memory into size word plain registers slots operands free is holds =
    let new : Held = record { register = into; size = size; word = word } in
    record {
      stands = (held-put_same new registers, is, stands-put memory new registers slots operands free holds.stands);
      rooted = rooted-put new registers (InRegister into size plain ∷ slots) (word ∷ operands) (inr (inl (refl, refl)))
          (rooted-weaker registers slots (InRegister into size plain ∷ slots) operands (word ∷ operands) (among-push (InRegister into size plain) word slots operands) holds.rooted);
      ascending = ascending-put new registers holds.ascending;
    }

pub stands-behind : (memory : List Block) (registers : List Held) (slot : Slot) (slots : List Slot) (word : Word) (words : List Word) →
    Stands memory registers (slot ∷ slots) (word ∷ words) → Stands memory registers slots words
stands-behind memory registers (InRegister register size plain) slots word words stands = stands.2
stands-behind memory registers (KnownAs bits) slots word words stands = stands.1
stands-behind memory registers (Truth holds) slots word words stands = stands.1
stands-behind memory registers Gone slots word words stands = stands

pub holds-popped : (memory : List Block) (gone : List ℕ) (registers : List Held) (slot : Slot) (slots : List Slot) (word : Word) (operands : List Word) →
    are_free gone slots ≡ true → is_in gone slot ≡ true → Holds memory registers (slot ∷ slots) (word ∷ operands) → Holds memory (emptied gone registers) slots operands
holds-popped memory gone registers slot slots word operands free is holds = record {
  stands = stands-emptied memory gone registers slots operands free (stands-behind memory registers slot slots word operands holds.stands);
  rooted = rooted-emptied gone registers (slot ∷ slots) slots (word ∷ operands) operands (fine-popped gone slot word slots operands is) holds.rooted;
  ascending = ascending-emptied gone registers holds.ascending;
}

pub holds-both_popped : (memory : List Block) (gone : List ℕ) (registers : List Held) (slot slot' : Slot) (slots : List Slot) (word word' : Word) (operands : List Word) →
    are_free gone slots ≡ true → is_in gone slot ≡ true → is_in gone slot' ≡ true → Holds memory registers (slot ∷ slot' ∷ slots) (word ∷ word' ∷ operands) →
    Holds memory (emptied gone registers) slots operands
holds-both_popped memory gone registers slot slot' slots word word' operands free is is' holds = record {
  stands = stands-emptied memory gone registers slots operands free
      (stands-behind memory registers slot' slots word' operands (stands-behind memory registers slot (slot' ∷ slots) word (word' ∷ operands) holds.stands));
  rooted = rooted-emptied gone registers (slot ∷ slot' ∷ slots) slots (word ∷ word' ∷ operands) operands
      (λ held stays fine. fine-popped gone slot' word' slots operands is' held stays (fine-popped gone slot word (slot' ∷ slots) (word' ∷ operands) is held stays fine)) holds.rooted;
  ascending = ascending-emptied gone registers holds.ascending;
}

pub holds-memory : (memory memory' : List Block) (registers : List Held) (slots : List Slot) (operands : List Word) → is_whole slots ≡ true →
    Holds memory registers slots operands → Holds memory' registers slots operands
holds-memory memory memory' registers slots operands whole holds = record {
  stands = stands-memory memory memory' registers slots operands whole holds.stands;
  rooted = holds.rooted;
  ascending = holds.ascending;
}

pub holds-gone : (memory : List Block) (registers : List Held) (slots : List Slot) (word : Word) (operands : List Word) →
    Holds memory registers slots operands → Holds memory registers (Gone ∷ slots) (word ∷ operands)
holds-gone memory registers slots word operands holds = record {
  stands = holds.stands;
  rooted = rooted-weaker registers slots (Gone ∷ slots) operands (word ∷ operands) (among-push Gone word slots operands) holds.rooted;
  ascending = holds.ascending;
}

pub first_of : (one : ℕ) (gone : List ℕ) → list_any (nat_eq one) (one ∷ gone) ≡ true
first_of one gone = or_left (nat_eq one one) (list_any (nat_eq one) gone) (eq-eqb one one refl)

pub second_of : (one other : ℕ) (gone : List ℕ) → list_any (nat_eq one) (other ∷ one ∷ gone) ≡ true
second_of one other gone = or_right (nat_eq one other) (list_any (nat_eq one) (one ∷ gone)) (first_of one gone)

pub none_of : (register : ℕ) (slots : List Slot) → is_free register slots ≡ true → are_free (register ∷ []) slots ≡ true
none_of register slots free = rw free refl

-- a value is kept beside the two operands of a store
pub holds-kept : (memory : List Block) (at from kept size size' : ℕ) (plain plain' : Bool) (word address : Word) (registers : List Held) (slots : List Slot) (operands : List Word) →
    are_free (at ∷ from ∷ []) slots ≡ true → is_free kept (InRegister from size plain' ∷ InRegister at size' plain ∷ slots) ≡ true →
    Holds memory registers (InRegister from size plain' ∷ InRegister at size' plain ∷ slots) (word ∷ address ∷ operands) →
    Holds memory (emptied (at ∷ from ∷ []) (put (record { register = kept; size = size; word = word }) registers)) (InRegister kept size plain' ∷ slots) (word ∷ operands)
holds-kept memory at from kept size size' plain plain' word address registers slots operands free free' holds =
    let new : Held = record { register = kept; size = size; word = word } in
    let not_from = free_first kept from size plain' (InRegister at size' plain ∷ slots) free' in
    let not_at = free_first kept at size' plain slots not_from.1 in
    let stays : list_any (nat_eq kept) (at ∷ from ∷ []) ≡ false =
    rw (ne_eqb kept at (λ same. not_at.0 (sym same)), ne_eqb kept from (λ same. not_from.0 (sym same))) refl in
    let before = holds-put memory kept size word plain' registers (InRegister from size plain' ∷ InRegister at size' plain ∷ slots) (word ∷ address ∷ operands) free' holds.stands.1 holds in
    record {
      stands = (
        held-emptied (at ∷ from ∷ []) (put new registers) kept stays ∙ held-put_same new registers,
        holds.stands.1,
        stands-emptied memory (at ∷ from ∷ []) (put new registers) slots operands free (stands-put memory new registers slots operands not_at.1 holds.stands.2.2),
      );
      rooted = rooted-emptied (at ∷ from ∷ []) (put new registers)
          (InRegister kept size plain' ∷ InRegister from size plain' ∷ InRegister at size' plain ∷ slots) (InRegister kept size plain' ∷ slots)
          (word ∷ word ∷ address ∷ operands) (word ∷ operands) each before.rooted;
      ascending = ascending-emptied (at ∷ from ∷ []) (put new registers) (ascending-put new registers holds.ascending);
    }
  where
    behind : (held : Held) → IsFine slots operands held → IsFine (InRegister kept size plain' ∷ slots) (word ∷ operands) held
    behind held (inl is) = inl is
    behind held (inr among) = inr (inr among)

    each : (held : Held) → list_any (nat_eq held.register) (at ∷ from ∷ []) ≡ false →
        IsFine (InRegister kept size plain' ∷ InRegister from size plain' ∷ InRegister at size' plain ∷ slots) (word ∷ word ∷ address ∷ operands) held →
        IsFine (InRegister kept size plain' ∷ slots) (word ∷ operands) held
    each held stays (inl is) = inl is
    each held stays (inr (inl same)) = inr (inl same)
    each held stays (inr (inr among)) =
        behind held (fine-popped (at ∷ from ∷ []) (InRegister at size' plain) address slots operands (first_of at (from ∷ [])) held stays
        (fine-popped (at ∷ from ∷ []) (InRegister from size plain') word (InRegister at size' plain ∷ slots) (address ∷ operands) (second_of from at []) held stays (inr among)))

pub holds-behind : (memory : List Block) (registers : List Held) (slot : Slot) (slots : List Slot) (word : Word) (operands : List Word) →
    ((held : Held) → Among (slot ∷ slots) (word ∷ operands) held → Among slots operands held) → Holds memory registers (slot ∷ slots) (word ∷ operands) → Holds memory registers slots operands
holds-behind memory registers slot slots word operands each holds = record {
  stands = stands-behind memory registers slot slots word operands holds.stands;
  rooted = rooted-weaker registers (slot ∷ slots) slots (word ∷ operands) operands each holds.rooted;
  ascending = holds.ascending;
}

pub holds-known : (memory : List Block) (registers : List Held) (slots : List Slot) (bits : ℕ) (operands : List Word) → Holds memory registers slots operands →
    Holds memory registers (KnownAs bits ∷ slots) (Plain bits ∷ operands)
holds-known memory registers slots bits operands holds = record {
  stands = (refl, holds.stands);
  rooted = rooted-weaker registers slots (KnownAs bits ∷ slots) operands (Plain bits ∷ operands) (among-push (KnownAs bits) (Plain bits) slots operands) holds.rooted;
  ascending = holds.ascending;
}

-- one operand, and the others
abbrev pub IsAt : List Block → List Held → Slot → Word → Type 0
IsAt memory registers (InRegister register size plain) word =
    (held_by registers register ≡ Some (record { register = register; size = size; word = word })) × IsPlainWhere plain word
IsAt memory registers (KnownAs number) word = word ≡ Plain number
IsAt memory registers (Truth holds) word = is_true memory word ≡ holds
IsAt memory registers Gone word = Unit {0}

pub stands-split : (memory : List Block) (registers : List Held) (slot : Slot) (slots : List Slot) (word : Word) (words : List Word) →
    Stands memory registers (slot ∷ slots) (word ∷ words) → IsAt memory registers slot word × Stands memory registers slots words
stands-split memory registers (InRegister register size plain) slots word words stands = ((stands.0, stands.1), stands.2)
stands-split memory registers (KnownAs number) slots word words stands = (stands.0, stands.1)
stands-split memory registers (Truth holds) slots word words stands = (stands.0, stands.1)
stands-split memory registers Gone slots word words stands = (tt, stands)

pub stands-join : (memory : List Block) (registers : List Held) (slot : Slot) (slots : List Slot) (word : Word) (words : List Word) →
    IsAt memory registers slot word → Stands memory registers slots words → Stands memory registers (slot ∷ slots) (word ∷ words)
stands-join memory registers (InRegister register size plain) slots word words is stands = (is.0, is.1, stands)
stands-join memory registers (KnownAs number) slots word words is stands = (is, stands)
stands-join memory registers (Truth holds) slots word words is stands = (is, stands)
stands-join memory registers Gone slots word words is stands = stands

abbrev pub IsOne : Slot → Word → Held → Type 0
IsOne (InRegister register size plain) word held = (register ≡ held.register) × (word ≡ held.word)
IsOne (KnownAs number) word held = ⊥
IsOne (Truth holds) word held = ⊥
IsOne Gone word held = ⊥

pub among-split : (slot : Slot) (slots : List Slot) (word : Word) (words : List Word) (held : Held) → Among (slot ∷ slots) (word ∷ words) held → IsOne slot word held ⊎ Among slots words held
among-split (InRegister register size plain) slots word words held among = among
among-split (KnownAs number) slots word words held among = inr among
among-split (Truth holds) slots word words held among = inr among
among-split Gone slots word words held among = inr among

pub among-one : (slot : Slot) (slots : List Slot) (word : Word) (words : List Word) (held : Held) → IsOne slot word held → Among (slot ∷ slots) (word ∷ words) held
among-one (InRegister register size plain) slots word words held is = inl is
among-one (KnownAs number) slots word words held is = absurd is
among-one (Truth holds) slots word words held is = absurd is
among-one Gone slots word words held is = absurd is

-- two operands the other way round
stands-exchanged : (memory : List Block) (registers : List Held) (slot slot' : Slot) (slots : List Slot) (word word' : Word) (words : List Word) →
    Stands memory registers (slot ∷ slot' ∷ slots) (word ∷ word' ∷ words) → Stands memory registers (slot' ∷ slot ∷ slots) (word' ∷ word ∷ words)
stands-exchanged memory registers slot slot' slots word word' words stands =
    let one = stands-split memory registers slot (slot' ∷ slots) word (word' ∷ words) stands in
    let two = stands-split memory registers slot' slots word' words one.1 in
    stands-join memory registers slot' (slot ∷ slots) word' (word ∷ words) two.0 (stands-join memory registers slot slots word words one.0 two.1)

among-exchanged : (slot slot' : Slot) (slots : List Slot) (word word' : Word) (words : List Word) (held : Held) →
    Among (slot ∷ slot' ∷ slots) (word ∷ word' ∷ words) held → Among (slot' ∷ slot ∷ slots) (word' ∷ word ∷ words) held
among-exchanged slot slot' slots word word' words held among = by_place (among-split slot (slot' ∷ slots) word (word' ∷ words) held among)
  where
    behind : IsOne slot' word' held ⊎ Among slots words held → Among (slot' ∷ slot ∷ slots) (word' ∷ word ∷ words) held
    behind (inl is) = among-one slot' (slot ∷ slots) word' (word ∷ words) held is
    behind (inr among') = among-push slot' word' (slot ∷ slots) (word ∷ words) held (among-push slot word slots words held among')

    by_place : IsOne slot word held ⊎ Among (slot' ∷ slots) (word' ∷ words) held → Among (slot' ∷ slot ∷ slots) (word' ∷ word ∷ words) held
    by_place (inl is) = among-push slot' word' (slot ∷ slots) (word ∷ words) held (among-one slot slots word words held is)
    by_place (inr among') = behind (among-split slot' slots word' words held among')

pub exchanged : (memory : List Block) (registers : List Held) (slot slot' : Slot) (slots : List Slot) (word word' : Word) (words : List Word) →
    Holds memory registers (slot ∷ slot' ∷ slots) (word ∷ word' ∷ words) → Holds memory registers (slot' ∷ slot ∷ slots) (word' ∷ word ∷ words)
exchanged memory registers slot slot' slots word word' words holds = record {
  stands = stands-exchanged memory registers slot slot' slots word word' words holds.stands;
  rooted = rooted-weaker registers (slot ∷ slot' ∷ slots) (slot' ∷ slot ∷ slots) (word ∷ word' ∷ words) (word' ∷ word ∷ words) (among-exchanged slot slot' slots word word' words) holds.rooted;
  ascending = holds.ascending;
}

-- two operands the other way round below a third one
exchanged_below : (memory : List Block) (registers : List Held) (slot slot' slot'' : Slot) (slots : List Slot) (word word' word'' : Word) (words : List Word) →
    Holds memory registers (slot ∷ slot' ∷ slot'' ∷ slots) (word ∷ word' ∷ word'' ∷ words) → Holds memory registers (slot ∷ slot'' ∷ slot' ∷ slots) (word ∷ word'' ∷ word' ∷ words)
exchanged_below memory registers slot slot' slot'' slots word word' word'' words holds =
    let one = stands-split memory registers slot (slot' ∷ slot'' ∷ slots) word (word' ∷ word'' ∷ words) holds.stands in
    record {
      stands = stands-join memory registers slot (slot'' ∷ slot' ∷ slots) word (word'' ∷ word' ∷ words) one.0 (stands-exchanged memory registers slot' slot'' slots word' word'' words one.1);
      rooted = rooted-weaker registers (slot ∷ slot' ∷ slot'' ∷ slots) (slot ∷ slot'' ∷ slot' ∷ slots) (word ∷ word' ∷ word'' ∷ words) (word ∷ word'' ∷ word' ∷ words) each holds.rooted;
      ascending = holds.ascending;
    }
  where
    by_place : (held : Held) → IsOne slot word held ⊎ Among (slot' ∷ slot'' ∷ slots) (word' ∷ word'' ∷ words) held → Among (slot ∷ slot'' ∷ slot' ∷ slots) (word ∷ word'' ∷ word' ∷ words) held
    by_place held (inl is) = among-one slot (slot'' ∷ slot' ∷ slots) word (word'' ∷ word' ∷ words) held is
    by_place held (inr among) = among-push slot word (slot'' ∷ slot' ∷ slots) (word'' ∷ word' ∷ words) held (among-exchanged slot' slot'' slots word' word'' words held among)

    each : (held : Held) → Among (slot ∷ slot' ∷ slot'' ∷ slots) (word ∷ word' ∷ word'' ∷ words) held → Among (slot ∷ slot'' ∷ slot' ∷ slots) (word ∷ word'' ∷ word' ∷ words) held
    each held among = by_place held (among-split slot (slot' ∷ slot'' ∷ slots) word (word' ∷ word'' ∷ words) held among)

-- a value that is put into a register stands below two others
pub put_below : (memory : List Block) (into size : ℕ) (plain : Bool) (word : Word) (registers : List Held) (slot slot' : Slot) (slots : List Slot) (one other : Word) (words : List Word) →
    is_free into (slot ∷ slot' ∷ slots) ≡ true → IsPlainWhere plain word → Holds memory registers (slot ∷ slot' ∷ slots) (one ∷ other ∷ words) →
    Holds memory (put (record { register = into; size = size; word = word }) registers) (slot ∷ slot' ∷ InRegister into size plain ∷ slots) (one ∷ other ∷ word ∷ words)
put_below memory into size plain word registers slot slot' slots one other words free is holds =
    let after : List Held = put (record { register = into; size = size; word = word }) registers in
    exchanged_below memory after slot (InRegister into size plain) slot' slots one word other words
    (exchanged memory after (InRegister into size plain) slot (slot' ∷ slots) word one (other ∷ words)
    (holds-put memory into size word plain registers (slot ∷ slot' ∷ slots) (one ∷ other ∷ words) free is holds))

-- an operand that no register holds is dropped, or is let go of
among-unheld : (slot : Slot) (slots : List Slot) (word : Word) (words : List Word) (held : Held) → is_in [] slot ≡ true → Among (slot ∷ slots) (word ∷ words) held → Among slots words held
among-unheld (InRegister register size plain) slots word words held is among = absurd (false≢true is)
among-unheld (KnownAs number) slots word words held is among = among
among-unheld (Truth holds) slots word words held is among = among
among-unheld Gone slots word words held is among = among

pub holds-dropped : (memory : List Block) (registers : List Held) (slot : Slot) (slots : List Slot) (word : Word) (words : List Word) → is_in [] slot ≡ true →
    Holds memory registers (slot ∷ slots) (word ∷ words) → Holds memory registers slots words
holds-dropped memory registers slot slots word words is holds = holds-behind memory registers slot slots word words (λ held. among-unheld slot slots word words held is) holds

pub holds-let_go : (memory : List Block) (registers : List Held) (slot : Slot) (slots : List Slot) (word : Word) (words : List Word) → is_in [] slot ≡ true →
    Holds memory registers (slot ∷ slots) (word ∷ words) → Holds memory registers (Gone ∷ slots) (word ∷ words)
holds-let_go memory registers slot slots word words is holds = holds-gone memory registers slots word words (holds-dropped memory registers slot slots word words is holds)

-- a number in a register in which no operand stands
pub holds-beside : (memory : List Block) (into size bits : ℕ) (registers : List Held) (slots : List Slot) (words : List Word) → is_free into slots ≡ true →
    Holds memory registers slots words → Holds memory (put (record { register = into; size = size; word = Plain bits }) registers) slots words
holds-beside memory into size bits registers slots words free holds =
    let new : Held = record { register = into; size = size; word = Plain bits } in
    record {
      stands = stands-put memory new registers slots words free holds.stands;
      rooted = rooted-put new registers slots words (inl tt) holds.rooted;
      ascending = ascending-put new registers holds.ascending;
    }

-- another number is put over a value that is let go of
pub holds-forgotten : (memory : List Block) (register size size' bits : ℕ) (plain : Bool) (registers : List Held) (slots : List Slot) (word : Word) (words : List Word) → is_free register slots ≡ true →
    Holds memory registers (InRegister register size plain ∷ slots) (word ∷ words) →
    Holds memory (put (record { register = register; size = size'; word = Plain bits }) registers) (Gone ∷ slots) (word ∷ words)
holds-forgotten memory register size size' bits plain registers slots word words free holds = record {
  stands = stands-put memory (record { register = register; size = size'; word = Plain bits }) registers slots words free holds.stands.2;
  rooted = rooted-put_over (record { register = register; size = size'; word = Plain bits }) registers (InRegister register size plain ∷ slots) (Gone ∷ slots)
      (word ∷ words) (word ∷ words) (inl tt) holds.ascending fine holds.rooted;
  ascending = ascending-put (record { register = register; size = size'; word = Plain bits }) registers holds.ascending;
}
  where
    fine : (held : Held) → held.register ≢ register → IsFine (InRegister register size plain ∷ slots) (word ∷ words) held → IsFine (Gone ∷ slots) (word ∷ words) held
    fine held differ (inl is) = inl is
    fine held differ (inr (inl same)) = absurd (differ (sym same.0))
    fine held differ (inr (inr among)) = inr among

-- that a register holds a number is forgotten
among-leading : (register size : ℕ) (slots : List Slot) (word : Word) (words : List Word) (held : Held) →
    Among (InRegister register size true ∷ slots) (word ∷ words) held → Among (InRegister register size false ∷ slots) (word ∷ words) held
among-leading register size slots word words held among = among

pub holds-leading : (memory : List Block) (registers : List Held) (register size : ℕ) (slots : List Slot) (word : Word) (words : List Word) →
    Holds memory registers (InRegister register size true ∷ slots) (word ∷ words) → Holds memory registers (InRegister register size false ∷ slots) (word ∷ words)
holds-leading memory registers register size slots word words holds = record {
  stands = (holds.stands.0, tt, holds.stands.2);
  rooted = rooted-weaker registers (InRegister register size true ∷ slots) (InRegister register size false ∷ slots) (word ∷ words) (word ∷ words)
      (among-leading register size slots word words) holds.rooted;
  ascending = holds.ascending;
}

-- whether an operand is true is known
pub holds-truth : (memory : List Block) (registers : List Held) (slots : List Slot) (word : Word) (words : List Word) (truth : Bool) → is_true memory word ≡ truth →
    Holds memory registers slots words → Holds memory registers (Truth truth ∷ slots) (word ∷ words)
holds-truth memory registers slots word words truth is holds = record {
  stands = (is, holds.stands);
  rooted = rooted-weaker registers slots (Truth truth ∷ slots) words (word ∷ words) (among-push (Truth truth) word slots words) holds.rooted;
  ascending = holds.ascending;
}

-- registers are emptied in which no operand stands
pub holds-emptied : (memory : List Block) (gone : List ℕ) (registers : List Held) (slots : List Slot) (words : List Word) → are_free gone slots ≡ true → Holds memory registers slots words →
    Holds memory (emptied gone registers) slots words
holds-emptied memory gone registers slots words free holds = record {
  stands = stands-emptied memory gone registers slots words free holds.stands;
  rooted = rooted-emptied gone registers slots slots words words (λ held stays fine. fine) holds.rooted;
  ascending = ascending-emptied gone registers holds.ascending;
}

-- an address is kept beside the two operands of a fill or copy
pub holds-kept_address : (memory : List Block) (at from kept size size' : ℕ) (plain plain' : Bool) (address word : Word) (registers : List Held) (slots : List Slot) (words : List Word) →
    are_free (at ∷ from ∷ []) slots ≡ true → is_free kept (InRegister from size' plain' ∷ InRegister at size plain ∷ slots) ≡ true →
    Holds memory registers (InRegister from size' plain' ∷ InRegister at size plain ∷ slots) (word ∷ address ∷ words) →
    Holds memory (emptied (at ∷ from ∷ []) (put (record { register = kept; size = size; word = address }) registers)) (InRegister kept size plain ∷ slots) (address ∷ words)
holds-kept_address memory at from kept size size' plain plain' address word registers slots words free free' holds =
    let not_from = free_first kept from size' plain' (InRegister at size plain ∷ slots) free' in
    let not_at = free_first kept at size plain slots not_from.1 in
    let free'' : are_free (at ∷ from ∷ []) (InRegister kept size plain ∷ slots) ≡ true =
    rw (ne_eqb kept at (λ same. not_at.0 (sym same)), ne_eqb kept from (λ same. not_from.0 (sym same))) free in
    holds-both_popped memory (at ∷ from ∷ []) (put (record { register = kept; size = size; word = address }) registers) (InRegister from size' plain') (InRegister at size plain)
    (InRegister kept size plain ∷ slots) word address (address ∷ words) free'' (second_of from at []) (first_of at (from ∷ []))
    (put_below memory kept size plain address registers (InRegister from size' plain') (InRegister at size plain) slots word address words free' holds.stands.2.1 holds)

-- a value that is read as a number is one
pub loaded_plain : (memory : List Block) (at : Word) (bytes : ℕ) (pointer : Bool) → IsPlainWhere (not pointer) (loaded memory at bytes pointer)
loaded_plain memory at bytes true = tt
loaded_plain memory at bytes false = tt
