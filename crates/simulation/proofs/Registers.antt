-- What registers hold behind an instruction.
use Rattle.std.proofs.Common.{◌≡◌, ◌≢◌, ℕ, suc, ◌<◌, ◌≤◌, length, arith, List, [], ◌∷◌, Bool, true, false, not, ◌&&◌, refl, sym, ap, ◌∙◌, nat_eq, nat_lt, ◌⊎◌, inl, inr, Some, Option, subst, if◌then◌else◌, cond}
use Rattle.std.specs.List.{list_any}
use Rattle.std.proofs.lemmas.Bool.{eq-eqb, eqb-true, eqb-false, ltb-true, ltb-false, ne_eqb, and_parts, not-true, both_ways, false≢true}
use Rattle.bytes_core.specs.declared.block.Block.{Block}
use Rattle.bytes_core.specs.declared.word.Word.{Word}
use Rattle.flow.specs.Holding.{Held, held_by, put, emptied}
use Rattle.simulation.specs.Slots.{Slot, InRegister, KnownAs, Truth, Gone, is_free, is_whole, are_free, is_in, Stands, Among, IsPlain, AreRooted, AreAbove, AreAscending}

pub held-put_same : (new : Held) (registers : List Held) → held_by (put new registers) new.register ≡ Some new
held-put_same new [] = rw (eq-eqb new.register new.register refl) refl
held-put_same new (first ∷ rest) =
    by_order (nat_lt new.register first.register) (nat_eq first.register new.register) refl (held-put_same new rest)
  where
    by_order : (less same : Bool) → nat_eq first.register new.register ≡ same → held_by (put new rest) new.register ≡ Some new →
        held_by (if less then new ∷ first ∷ rest else (if same then new ∷ rest else first ∷ put new rest)) new.register ≡ Some new
    by_order true same is more = rw (eq-eqb new.register new.register refl) refl
    by_order false true is more = rw (eq-eqb new.register new.register refl) refl
    by_order false false is more = rw is more

pub held-put_other : (new : Held) (registers : List Held) (register : ℕ) → new.register ≢ register → held_by (put new registers) register ≡ held_by registers register
held-put_other new [] register differ = rw (ne_eqb new.register register differ) refl
held-put_other new (first ∷ rest) register differ =
    by_order (nat_lt new.register first.register) (nat_eq first.register new.register) refl (held-put_other new rest register differ)
  where
    by_order : (less same : Bool) → nat_eq first.register new.register ≡ same → held_by (put new rest) register ≡ held_by rest register →
        held_by (if less then new ∷ first ∷ rest else (if same then new ∷ rest else first ∷ put new rest)) register ≡ held_by (first ∷ rest) register
    by_order true same is more = rw (ne_eqb new.register register differ) refl
    by_order false true is more =
        rw (ne_eqb new.register register differ) (rw (ne_eqb first.register register (λ at. differ (sym (eqb-true first.register new.register is) ∙ at))) refl)
    by_order false false is more = ap (λ (found : Option Held). if nat_eq first.register register then Some first else found) more

pub held-emptied : (gone : List ℕ) (registers : List Held) (register : ℕ) → list_any (nat_eq register) gone ≡ false →
    held_by (emptied gone registers) register ≡ held_by registers register
held-emptied gone [] register stays = refl
held-emptied gone (first ∷ rest) register stays = by_test (list_any (nat_eq first.register) gone) refl (held-emptied gone rest register stays)
  where
    by_test : (goes : Bool) → list_any (nat_eq first.register) gone ≡ goes → held_by (emptied gone rest) register ≡ held_by rest register →
        held_by (cond (not goes) (first ∷ emptied gone rest) (emptied gone rest)) register ≡ held_by (first ∷ rest) register
    by_test false is more = ap (λ (found : Option Held). if nat_eq first.register register then Some first else found) more
    by_test true is more =
        let differ : first.register ≢ register = λ same. both_ways (list_any (nat_eq register) gone) stays (subst (λ (r : ℕ). list_any (nat_eq r) gone ≡ true) same is) in
        rw (ne_eqb first.register register differ) more

-- registers in which no operand stands
pub free_first : (register other size : ℕ) (plain : Bool) (slots : List Slot) → is_free register (InRegister other size plain ∷ slots) ≡ true →
    (other ≢ register) × (is_free register slots ≡ true)
free_first register other size plain slots free =
    let parts = and_parts (not (nat_eq other register)) (is_free register slots) free in
    (λ same. both_ways (nat_eq other register) (not-true (nat_eq other register) parts.0) (eq-eqb other register same), parts.1)

are_free_behind : (gone : List ℕ) (register size : ℕ) (plain : Bool) (slots : List Slot) → are_free gone (InRegister register size plain ∷ slots) ≡ true →
    (list_any (nat_eq register) gone ≡ false) × (are_free gone slots ≡ true)
are_free_behind [] register size plain slots free = (refl, refl)
are_free_behind (first ∷ gone) register size plain slots free =
    let parts = and_parts (is_free first (InRegister register size plain ∷ slots)) (are_free gone (InRegister register size plain ∷ slots)) free in
    let here = free_first first register size plain slots parts.0 in
    let more = are_free_behind gone register size plain slots parts.1 in
    (rw (ne_eqb register first here.0) more.0, rw here.1 more.1)

pub stands-put : (memory : List Block) (new : Held) (registers : List Held) (slots : List Slot) (words : List Word) → is_free new.register slots ≡ true →
    Stands memory registers slots words → Stands memory (put new registers) slots words
stands-put memory new registers [] [] free stands = tt
stands-put memory new registers [] (word ∷ words) free stands = absurd stands
stands-put memory new registers (slot ∷ slots) [] free stands = absurd stands
stands-put memory new registers (InRegister register size plain ∷ slots) (word ∷ words) free stands =
    let parts = free_first new.register register size plain slots free in
    (held-put_other new registers register (λ same. parts.0 (sym same)) ∙ stands.0, stands.1, stands-put memory new registers slots words parts.1 stands.2)
stands-put memory new registers (KnownAs number ∷ slots) (word ∷ words) free stands = (stands.0, stands-put memory new registers slots words free stands.1)
stands-put memory new registers (Truth holds ∷ slots) (word ∷ words) free stands = (stands.0, stands-put memory new registers slots words free stands.1)
stands-put memory new registers (Gone ∷ slots) (word ∷ words) free stands = stands-put memory new registers slots words free stands

free_known : (gone : List ℕ) (slots : List Slot) (slot : Slot) → ((register : ℕ) → is_free register (slot ∷ slots) ≡ is_free register slots) →
    are_free gone (slot ∷ slots) ≡ are_free gone slots
free_known [] slots slot same = refl
free_known (first ∷ gone) slots slot same = rw (same first) (ap (λ (b : Bool). is_free first slots && b) (free_known gone slots slot same))

pub stands-emptied : (memory : List Block) (gone : List ℕ) (registers : List Held) (slots : List Slot) (words : List Word) → are_free gone slots ≡ true →
    Stands memory registers slots words → Stands memory (emptied gone registers) slots words
stands-emptied memory gone registers [] [] free stands = tt
stands-emptied memory gone registers [] (word ∷ words) free stands = absurd stands
stands-emptied memory gone registers (slot ∷ slots) [] free stands = absurd stands
stands-emptied memory gone registers (InRegister register size plain ∷ slots) (word ∷ words) free stands =
    let parts = are_free_behind gone register size plain slots free in
    (held-emptied gone registers register parts.0 ∙ stands.0, stands.1, stands-emptied memory gone registers slots words parts.1 stands.2)
stands-emptied memory gone registers (KnownAs number ∷ slots) (word ∷ words) free stands =
    (stands.0, stands-emptied memory gone registers slots words (sym (free_known gone slots (KnownAs number) (λ register. refl)) ∙ free) stands.1)
stands-emptied memory gone registers (Truth holds ∷ slots) (word ∷ words) free stands =
    (stands.0, stands-emptied memory gone registers slots words (sym (free_known gone slots (Truth holds) (λ register. refl)) ∙ free) stands.1)
stands-emptied memory gone registers (Gone ∷ slots) (word ∷ words) free stands =
    stands-emptied memory gone registers slots words (sym (free_known gone slots Gone (λ register. refl)) ∙ free) stands

-- another memory changes nothing for operands that stand in registers or are known
pub stands-memory : (memory memory' : List Block) (registers : List Held) (slots : List Slot) (words : List Word) → is_whole slots ≡ true →
    Stands memory registers slots words → Stands memory' registers slots words
stands-memory memory memory' registers [] [] whole stands = tt
stands-memory memory memory' registers [] (word ∷ words) whole stands = absurd stands
stands-memory memory memory' registers (slot ∷ slots) [] whole stands = absurd stands
stands-memory memory memory' registers (InRegister register size plain ∷ slots) (word ∷ words) whole stands =
    (stands.0, stands.1, stands-memory memory memory' registers slots words whole stands.2)
stands-memory memory memory' registers (KnownAs number ∷ slots) (word ∷ words) whole stands = (stands.0, stands-memory memory memory' registers slots words whole stands.1)
stands-memory memory memory' registers (Truth holds ∷ slots) (word ∷ words) whole stands = absurd (false≢true whole)
stands-memory memory memory' registers (Gone ∷ slots) (word ∷ words) whole stands = absurd (false≢true whole)

-- what registers hold is a number or an operand
abbrev pub IsFine : List Slot → List Word → Held → Type 0
IsFine slots words held = IsPlain held.word ⊎ Among slots words held

pub rooted-put : (new : Held) (registers : List Held) (slots : List Slot) (words : List Word) → IsFine slots words new → AreRooted slots words registers →
    AreRooted slots words (put new registers)
rooted-put new [] slots words fine rooted = (fine, tt)
rooted-put new (first ∷ rest) slots words fine rooted =
    by_order (nat_lt new.register first.register) (nat_eq first.register new.register) (rooted-put new rest slots words fine rooted.1)
  where
    by_order : (less same : Bool) → AreRooted slots words (put new rest) →
        AreRooted slots words (if less then new ∷ first ∷ rest else (if same then new ∷ rest else first ∷ put new rest))
    by_order true same more = (fine, rooted)
    by_order false true more = (fine, rooted.1)
    by_order false false more = (rooted.0, more)

pub rooted-emptied : (gone : List ℕ) (registers : List Held) (slots slots' : List Slot) (words words' : List Word) →
    ((held : Held) → list_any (nat_eq held.register) gone ≡ false → IsFine slots words held → IsFine slots' words' held) → AreRooted slots words registers →
    AreRooted slots' words' (emptied gone registers)
rooted-emptied gone [] slots slots' words words' each rooted = tt
rooted-emptied gone (first ∷ rest) slots slots' words words' each rooted =
    by_test (list_any (nat_eq first.register) gone) refl (rooted-emptied gone rest slots slots' words words' each rooted.1)
  where
    by_test : (goes : Bool) → list_any (nat_eq first.register) gone ≡ goes → AreRooted slots' words' (emptied gone rest) →
        AreRooted slots' words' (cond (not goes) (first ∷ emptied gone rest) (emptied gone rest))
    by_test false is more = (each first is rooted.0, more)
    by_test true is more = more

pub rooted-weaker : (registers : List Held) (slots slots' : List Slot) (words words' : List Word) →
    ((held : Held) → Among slots words held → Among slots' words' held) → AreRooted slots words registers → AreRooted slots' words' registers
rooted-weaker [] slots slots' words words' each rooted = tt
rooted-weaker (first ∷ rest) slots slots' words words' each rooted =
    (by_word rooted.0, rooted-weaker rest slots slots' words words' each rooted.1)
  where
    by_word : IsFine slots words first → IsFine slots' words' first
    by_word (inl plain) = inl plain
    by_word (inr among) = inr (each first among)

pub among-push : (slot : Slot) (word : Word) (slots : List Slot) (words : List Word) (held : Held) → Among slots words held → Among (slot ∷ slots) (word ∷ words) held
among-push (InRegister register size plain) word slots words held among = inr among
among-push (KnownAs number) word slots words held among = among
among-push (Truth holds) word slots words held among = among
among-push Gone word slots words held among = among

-- an operand that stands in a register that is emptied is none any more
pub fine-popped : (gone : List ℕ) (slot : Slot) (word : Word) (slots : List Slot) (words : List Word) → is_in gone slot ≡ true → (held : Held) →
    list_any (nat_eq held.register) gone ≡ false → IsFine (slot ∷ slots) (word ∷ words) held → IsFine slots words held
fine-popped gone slot word slots words is held stays (inl plain) = inl plain
fine-popped gone (InRegister register size plain) word slots words is held stays (inr (inl same)) =
    absurd (both_ways (list_any (nat_eq held.register) gone) stays (subst (λ (r : ℕ). list_any (nat_eq r) gone ≡ true) same.0 is))
fine-popped gone (InRegister register size plain) word slots words is held stays (inr (inr among)) = inr among
fine-popped gone (KnownAs number) word slots words is held stays (inr among) = inr among
fine-popped gone (Truth holds) word slots words is held stays (inr among) = inr among
fine-popped gone Gone word slots words is held stays (inr among) = inr among

-- registers stay in ascending order
above-put : (register : ℕ) (new : Held) (registers : List Held) → register < new.register → AreAbove register registers → AreAbove register (put new registers)
above-put register new [] less above = (less, tt)
above-put register new (first ∷ rest) less above =
    by_order (nat_lt new.register first.register) (nat_eq first.register new.register) (above-put register new rest less above.1)
  where
    by_order : (before same : Bool) → AreAbove register (put new rest) →
        AreAbove register (if before then new ∷ first ∷ rest else (if same then new ∷ rest else first ∷ put new rest))
    by_order true same more = (less, above)
    by_order false true more = (less, above.1)
    by_order false false more = (above.0, more)

above-lower : (register other : ℕ) (registers : List Held) → register < other → AreAbove other registers → AreAbove register registers
above-lower register other [] less above = tt
above-lower register other (first ∷ rest) less above = (let h = above.0 in omega arith, above-lower register other rest less above.1)

pub ascending-put : (new : Held) (registers : List Held) → AreAscending registers → AreAscending (put new registers)
ascending-put new [] ascending = (tt, tt)
ascending-put new (first ∷ rest) ascending =
    by_order (nat_lt new.register first.register) refl (nat_eq first.register new.register) refl (ascending-put new rest ascending.1)
  where
    by_order : (less : Bool) → nat_lt new.register first.register ≡ less → (same : Bool) → nat_eq first.register new.register ≡ same → AreAscending (put new rest) →
        AreAscending (if less then new ∷ first ∷ rest else (if same then new ∷ rest else first ∷ put new rest))
    by_order true is same is' more =
        let below : new.register < first.register = ltb-true new.register first.register is in
        ((below, above-lower new.register first.register rest below ascending.0), ascending)
    by_order false is true is' more =
        (subst (λ (r : ℕ). AreAbove r rest) (eqb-true first.register new.register is') ascending.0, ascending.1)
    by_order false is false is' more =
        let least : first.register ≤ new.register = ltb-false new.register first.register is in
        let differ : first.register ≢ new.register = eqb-false first.register new.register is' in
        (above-put first.register new rest (omega arith) ascending.0, more)

above-emptied : (gone : List ℕ) (register : ℕ) (registers : List Held) → AreAbove register registers → AreAbove register (emptied gone registers)
above-emptied gone register [] above = tt
above-emptied gone register (first ∷ rest) above = by_test (list_any (nat_eq first.register) gone) (above-emptied gone register rest above.1)
  where
    by_test : (goes : Bool) → AreAbove register (emptied gone rest) → AreAbove register (cond (not goes) (first ∷ emptied gone rest) (emptied gone rest))
    by_test false more = (above.0, more)
    by_test true more = more

pub ascending-emptied : (gone : List ℕ) (registers : List Held) → AreAscending registers → AreAscending (emptied gone registers)
ascending-emptied gone [] ascending = tt
ascending-emptied gone (first ∷ rest) ascending = by_test (list_any (nat_eq first.register) gone) (ascending-emptied gone rest ascending.1)
  where
    by_test : (goes : Bool) → AreAscending (emptied gone rest) → AreAscending (cond (not goes) (first ∷ emptied gone rest) (emptied gone rest))
    by_test false more = (above-emptied gone first.register rest ascending.0, more)
    by_test true more = more

-- what is put over a register is all that the register holds
pub rooted-put_over : (new : Held) (registers : List Held) (slots slots' : List Slot) (words words' : List Word) → IsFine slots' words' new → AreAscending registers →
    ((held : Held) → held.register ≢ new.register → IsFine slots words held → IsFine slots' words' held) → AreRooted slots words registers →
    AreRooted slots' words' (put new registers)
rooted-put_over new [] slots slots' words words' fine ascending each rooted = (fine, tt)
rooted-put_over new (first ∷ rest) slots slots' words words' fine ascending each rooted =
    by_order (nat_lt new.register first.register) refl (nat_eq first.register new.register) refl
    (rooted-put_over new rest slots slots' words words' fine ascending.1 each rooted.1)
  where
    above : (registers : List Held) (register : ℕ) → new.register ≤ register → AreAbove register registers → AreRooted slots words registers → AreRooted slots' words' registers
    above [] register less over rooted' = tt
    above (next ∷ more) register less over rooted' =
        let h = over.0 in
        let differ : next.register ≢ new.register = λ same. absurd (omega arith) in
        (each next differ rooted'.0, above more register less over.1 rooted'.1)

    by_order : (less : Bool) → nat_lt new.register first.register ≡ less → (same : Bool) → nat_eq first.register new.register ≡ same → AreRooted slots' words' (put new rest) →
        AreRooted slots' words' (if less then new ∷ first ∷ rest else (if same then new ∷ rest else first ∷ put new rest))
    by_order true is same is' more =
        let below : new.register < first.register = ltb-true new.register first.register is in
        let differ : first.register ≢ new.register = λ same'. absurd (omega arith) in
        (fine, (each first differ rooted.0, above rest first.register (omega arith) ascending.0 rooted.1))
    by_order false is true is' more =
        let same' : first.register ≡ new.register = eqb-true first.register new.register is' in
        (fine, above rest first.register (omega arith) ascending.0 rooted.1)
    by_order false is false is' more = (each first (eqb-false first.register new.register is') rooted.0, more)

pub stands-length : (memory : List Block) (registers : List Held) (slots : List Slot) (words : List Word) → Stands memory registers slots words → length words ≡ length slots
stands-length memory registers [] [] stands = refl
stands-length memory registers [] (word ∷ words) stands = absurd stands
stands-length memory registers (slot ∷ slots) [] stands = absurd stands
stands-length memory registers (InRegister register size plain ∷ slots) (word ∷ words) stands = ap suc (stands-length memory registers slots words stands.2)
stands-length memory registers (KnownAs number ∷ slots) (word ∷ words) stands = ap suc (stands-length memory registers slots words stands.1)
stands-length memory registers (Truth holds ∷ slots) (word ∷ words) stands = ap suc (stands-length memory registers slots words stands.1)
stands-length memory registers (Gone ∷ slots) (word ∷ words) stands = ap suc (stands-length memory registers slots words stands)
