-- What registers hold that get something, or are emptied, as words.
use Rattle.std.proofs.Common.{◌≡◌, ℕ, Bool, true, false, not, ◌||◌, List, [], ◌∷◌, nat_eq, nat_lt, Option, None, Some, refl, sym, ◌∙◌, ap, eqb-true, eq-eqb}
use Rattle.std.specs.Prelude.{option_map, if◌then◌else◌}
use Rattle.std.specs.List.{list_any}
use Rattle.std.proofs.lemmas.Bool.{false≢true}
use Rattle.bytes_core.specs.declared.block.Block.{Block}
use Rattle.bytes_core.specs.declared.word.Word.{Word}
use Rattle.graph.specs.State as graphs
use Rattle.flow.specs.Holding as holding
use Rattle.flow.specs.Holding.{Held, held_by}
use Rattle.flow.specs.Machine.{State, at, with_value, with_memory, without_registers}
use Rattle.changes.specs.Following.{Leaves}
use Rattle.changes.specs.Parts.{is_among, emptied, put}
use Rattle.edge_steps.specs.Seen.{words_of, seen, IsSame}

pub eqb_sym : (a b : ℕ) → nat_eq a b ≡ nat_eq b a
eqb_sym a b = by_test (nat_eq a b) refl (nat_eq b a) refl
  where
    by_test : (x : Bool) → nat_eq a b ≡ x → (y : Bool) → nat_eq b a ≡ y → x ≡ y
    by_test true x_is true y_is = refl
    by_test false x_is false y_is = refl
    by_test true x_is false y_is = absurd (false≢true (sym y_is ∙ eq-eqb b a (sym (eqb-true _ _ x_is))))
    by_test false x_is true y_is = absurd (false≢true (sym x_is ∙ eq-eqb a b (sym (eqb-true _ _ y_is))))

-- a register in front of others
front : (new : Held) (registers : List Held) (register : ℕ) → words_of (new ∷ registers) register ≡ put new.register new.word (words_of registers) register
front new registers register = by_test (nat_eq new.register register) ∙ ap (λ (b : Bool). if b then Some new.word else words_of registers register) (eqb_sym new.register register)
  where
    by_test : (b : Bool) → option_map (λ (held : Held). held.word) (if b then Some new else held_by registers register) ≡ (if b then Some new.word else words_of registers register)
    by_test true = refl
    by_test false = refl

next_word : (first : Held) (registers : List Held) (register : ℕ) → words_of (first ∷ registers) register ≡ (if nat_eq first.register register then Some first.word else words_of registers register)
next_word first registers register = by_test (nat_eq first.register register)
  where
    by_test : (b : Bool) → option_map (λ (held : Held). held.word) (if b then Some first else held_by registers register) ≡ (if b then Some first.word else words_of registers register)
    by_test true = refl
    by_test false = refl

-- a register that gets something
pub words_put : (new : Held) (registers : List Held) (register : ℕ) → words_of (holding.put new registers) register ≡ put new.register new.word (words_of registers) register
words_put new [] register = front new [] register
words_put new (first ∷ rest) register = by_order (words_put new rest register) (nat_lt new.register first.register) (nat_eq first.register new.register) refl
  where
    -- in place of the first one
    in_place : (here : Bool) → nat_eq register new.register ≡ here → (same : Bool) → nat_eq first.register register ≡ same → first.register ≡ new.register →
        (if here then Some new.word else words_of rest register) ≡ (if here then Some new.word else (if same then Some first.word else words_of rest register))
    in_place true is same same_is equal = refl
    in_place false is false same_is equal = refl
    in_place false is true same_is equal = absurd (false≢true (sym is ∙ eq-eqb register new.register (sym (eqb-true _ _ same_is) ∙ equal)))

    -- behind the first one
    behind : (here : Bool) → nat_eq register new.register ≡ here → (same : Bool) → nat_eq first.register register ≡ same → nat_eq first.register new.register ≡ false →
        (if same then Some first.word else (if here then Some new.word else words_of rest register)) ≡ (if here then Some new.word else (if same then Some first.word else words_of rest register))
    behind true is true same_is differ = absurd (false≢true (sym differ ∙ eq-eqb first.register new.register (eqb-true _ _ same_is ∙ eqb-true _ _ is)))
    behind true is false same_is differ = refl
    behind false is same same_is differ = refl

    by_order : words_of (holding.put new rest) register ≡ put new.register new.word (words_of rest) register → (below same : Bool) → nat_eq first.register new.register ≡ same →
        words_of (if below then new ∷ first ∷ rest else (if same then new ∷ rest else first ∷ holding.put new rest)) register ≡ put new.register new.word (words_of (first ∷ rest)) register
    by_order later true same is = front new (first ∷ rest) register
    by_order later false true is =
        front new rest register ∙ in_place (nat_eq register new.register) refl (nat_eq first.register register) refl (eqb-true _ _ is)
        ∙ ap (λ (o : Option Word). if nat_eq register new.register then Some new.word else o) (sym (next_word first rest register))
    by_order later false false is =
        next_word first (holding.put new rest) register
        ∙ ap (λ (o : Option Word). if nat_eq first.register register then Some first.word else o) later
        ∙ behind (nat_eq register new.register) refl (nat_eq first.register register) refl is
        ∙ ap (λ (o : Option Word). if nat_eq register new.register then Some new.word else o) (sym (next_word first rest register))

-- registers that are emptied
pub among_same : (gone : List ℕ) (register : ℕ) → list_any (nat_eq register) gone ≡ is_among gone register
among_same [] register = refl
among_same (first ∷ rest) register = ap (λ (b : Bool). b || list_any (nat_eq register) rest) (eqb_sym register first) ∙ ap (λ (b : Bool). nat_eq first register || b) (among_same rest register)

pub words_emptied : (gone : List ℕ) (registers : List Held) (register : ℕ) → words_of (holding.emptied gone registers) register ≡ emptied gone (words_of registers) register
words_emptied gone [] register = by_test (is_among gone register)
  where
    by_test : (b : Bool) → ◌≡◌ {A = Option Word} None (if b then None else None)
    by_test true = refl
    by_test false = refl
words_emptied gone (first ∷ rest) register = by_first (list_any (nat_eq first.register) gone) refl (words_emptied gone rest register) ∙ ap (λ (o : Option Word). if is_among gone register then None else o) (sym (next_word first rest register))
  where
    by_same : (among : Bool) → list_any (nat_eq first.register) gone ≡ among → (same : Bool) → nat_eq first.register register ≡ same → (gone_too : Bool) → is_among gone register ≡ gone_too →
        (if among then (if gone_too then None else words_of rest register) else (if same then Some first.word else (if gone_too then None else words_of rest register)))
        ≡ (if gone_too then None else (if same then Some first.word else words_of rest register))
    by_same true is true same_is true gone_is = refl
    by_same true is true same_is false gone_is = absurd (false≢true (sym gone_is ∙ sym (among_same gone register) ∙ ap (λ (r : ℕ). list_any (nat_eq r) gone) (sym (eqb-true _ _ same_is)) ∙ is))
    by_same true is false same_is gone_too gone_is = refl
    by_same false is true same_is true gone_is = absurd (false≢true (sym is ∙ ap (λ (r : ℕ). list_any (nat_eq r) gone) (eqb-true _ _ same_is) ∙ among_same gone register ∙ gone_is))
    by_same false is true same_is false gone_is = refl
    by_same false is false same_is gone_too gone_is = refl

    by_first : (among : Bool) → list_any (nat_eq first.register) gone ≡ among → words_of (holding.emptied gone rest) register ≡ emptied gone (words_of rest) register →
        words_of (if not among then first ∷ holding.emptied gone rest else holding.emptied gone rest) register
        ≡ (if is_among gone register then None else (if nat_eq first.register register then Some first.word else words_of rest register))
    by_first true is later = later ∙ by_same true is (nat_eq first.register register) refl (is_among gone register) refl
    by_first false is later =
        next_word first (holding.emptied gone rest) register
        ∙ ap (λ (o : Option Word). if nat_eq first.register register then Some first.word else o) later
        ∙ by_same false is (nat_eq first.register register) refl (is_among gone register) refl

-- A step that changes the memory and the registers of the frame alone.

pub seen_leaves : (ports : List Word) (state next : State) (left : List Block) (held : ℕ → Option Word) → next.memory ≡ left → ((register : ℕ) → words_of next.frame.registers register ≡ held register) →
    ((variable : ℕ) → (seen ports next).variables variable ≡ (seen ports state).variables variable) → (seen ports next).roots ≡ (seen ports state).roots → Leaves left held (seen ports state) (seen ports next)
seen_leaves ports state next left held memory registers variables roots = record { memory = memory; registers = registers; variables = variables; ports = refl; roots = roots }

module _ (ports : List Word) (to : ℕ) (state : State) where
  -- registers are emptied, and the memory becomes another one
  pub leaves_emptied : (gone : List ℕ) (left : List Block) →
      Leaves left (emptied gone (words_of state.frame.registers)) (seen ports state) (seen ports (at to (with_memory left (without_registers gone state))))
  leaves_emptied gone left = seen_leaves ports state (at to (with_memory left (without_registers gone state))) left (emptied gone (words_of state.frame.registers)) refl
      (λ register. words_emptied gone state.frame.registers register) (λ variable. refl) refl

  pub leaves_without : (gone : List ℕ) → Leaves state.memory (emptied gone (words_of state.frame.registers)) (seen ports state) (seen ports (at to (without_registers gone state)))
  leaves_without gone = seen_leaves ports state (at to (without_registers gone state)) state.memory (emptied gone (words_of state.frame.registers)) refl
      (λ register. words_emptied gone state.frame.registers register) (λ variable. refl) refl

  -- registers are emptied, and then one gets a word
  pub leaves_value : (gone : List ℕ) (into size : ℕ) (word : Word) →
      Leaves state.memory (put into word (emptied gone (words_of state.frame.registers))) (seen ports state) (seen ports (at to (with_value into size word (without_registers gone state))))
  leaves_value gone into size word = seen_leaves ports state (at to (with_value into size word (without_registers gone state))) state.memory (put into word (emptied gone (words_of state.frame.registers))) refl
      (λ register. words_put (record { register = into; size = size; word = word }) (holding.emptied gone state.frame.registers) register
      ∙ ap (λ (o : Option Word). if nat_eq register into then Some word else o) (words_emptied gone state.frame.registers register))
      (λ variable. refl) refl

  -- one gets a word, and none is emptied
  pub leaves_word : (into size : ℕ) (word : Word) → Leaves state.memory (put into word (words_of state.frame.registers)) (seen ports state) (seen ports (at to (with_value into size word state)))
  leaves_word into size word = seen_leaves ports state (at to (with_value into size word state)) state.memory (put into word (words_of state.frame.registers)) refl
      (λ register. words_put (record { register = into; size = size; word = word }) state.frame.registers register) (λ variable. refl) refl

-- two states that are left by one step
pub same_left : (left : List Block) (held : ℕ → Option Word) (state one other : graphs.State) → Leaves left held state one → Leaves left held state other → IsSame one other
same_left left held state one other first second = record {
  memory = second.memory ∙ sym first.memory;
  variables = λ variable. second.variables variable ∙ sym (first.variables variable);
  registers = λ register. second.registers register ∙ sym (first.registers register);
  ports = second.ports ∙ sym first.ports;
  roots = second.roots ∙ sym first.roots;
}
