-- Registers that hold other values.
use Rattle.std.proofs.Common.{◌≡◌, ◌≢◌, ℕ, ◌<◌, ◌≤◌, Bool, true, false, not, List, [], ◌∷◌, ◌++◌, map, length, nat_eq, nat_lt, Option, None, Some, refl, sym, ◌∙◌, ap, subst, eqb-true, eq-eqb, ltb-true, lt-ltb, ltb-false, arith}
use Rattle.std.specs.Prelude.{IsSome, option_map, slice_get, if◌then◌else◌}
use Rattle.std.specs.List.{filter}
use Rattle.std.proofs.lemmas.Bool.{false≢true}
use Rattle.std.proofs.lemmas.Option.{none-some}
use Rattle.bytes_core.specs.declared.block.Block.{Block}
use Rattle.bytes_core.specs.declared.word.Word.{Word}
use Rattle.graph.specs.declared.object.Object.{Object}
use Rattle.graph.specs.declared.parts.Held.{Held}
use Rattle.graph.specs.declared.parts.Pair.{Pair}
use Rattle.graph.specs.declared.parts.Parts.{Parts}
use Rattle.graph.specs.declared.value.Value.{Value}
use Rattle.graph.specs.Maps.{held_by}
use Rattle.graph.specs.State.{State}
use Rattle.graph.specs.Meaning.{HasBlocks, ends_of, HasWord, own_offset, IsRooted, Maps, maps_of, Assignment, Meets}
use Rattle.changes.specs.Parts.{is_among, emptied, put, without_registers, with_register}
use Rattle.changes.proofs.Change.{HasWord-ends, HasBlocks-own}
use Rattle.changes.proofs.Objects.{eqb-miss}

-- two graphs differ in registers alone, and so do two states
pub record AgreeButRegisters (one other : Maps) : Type 0 where
  pub objects : (at : ℕ) → other.objects at ≡ one.objects at
  pub values : (at : ℕ) → other.values at ≡ one.values at
  pub variables : (at : ℕ) → other.variables at ≡ one.variables at
  pub ports : other.ports ≡ one.ports
  pub unequal : other.unequal ≡ one.unequal

pub AgreeButRegisters-back : (one other : Maps) → AgreeButRegisters one other → AgreeButRegisters other one
AgreeButRegisters-back one other agree = record {
  objects = λ at. sym (agree.objects at);
  values = λ at. sym (agree.values at);
  variables = λ at. sym (agree.variables at);
  ports = sym agree.ports;
  unequal = sym agree.unequal;
}

pub record AgreeButHeld (one other : State) : Type 0 where
  pub memory : other.memory ≡ one.memory
  pub variables : (at : ℕ) → other.variables at ≡ one.variables at
  pub ports : other.ports ≡ one.ports
  pub roots : other.roots ≡ one.roots

pub AgreeButHeld-back : (one other : State) → AgreeButHeld one other → AgreeButHeld other one
AgreeButHeld-back one other agree = record { memory = sym agree.memory; variables = λ at. sym (agree.variables at); ports = sym agree.ports; roots = sym agree.roots }

-- the graph stands for the state, if registers hold the words of their values; so it is in both directions
pub registers_changed : (one other : Maps) (state next : State) (given : Assignment) → AgreeButRegisters one other → AgreeButHeld state next →
    ((register : ℕ) → next.registers register ≡ option_map given.word (other.registers register)) → Meets one state given → Meets other next given
registers_changed one other state next given graphs states held meets = record {
  values = λ at found stands.
      HasWord-ends (length next.memory) given.blocks (ends_of one.objects given.word) (ends_of other.objects given.word) found (given.word at) (λ k. ap (λ (o : Option Object). ends_of (λ key. o) given.word k) (graphs.objects k))
      (subst (λ (memory : List Block). HasWord (length memory) given.blocks (ends_of one.objects given.word) found (given.word at)) (sym states.memory) (meets.values at found (sym (graphs.values at) ∙ stands)));
  objects = λ at object stands.
      HasBlocks-own next.memory object given.word (λ v. own_offset (one.values v)) (λ v. own_offset (other.values v)) (given.blocks at) (λ v. ap own_offset (graphs.values v))
      (subst (λ (memory : List Block). HasBlocks memory object given.word (λ v. own_offset (one.values v)) (given.blocks at)) (sym states.memory) (meets.objects at object (sym (graphs.objects at) ∙ stands)));
  owners = λ at place number some stands. meets.owners at place number (subst (λ (o : Option Object). IsSome o) (graphs.objects at) some) stands;
  places = λ at place number some stands. meets.places at place number (subst (λ (o : Option Object). IsSome o) (graphs.objects at) some) stands;
  used = λ number block stands live.
      let owned = meets.used number block (ap (λ (memory : List Block). slice_get memory number) (sym states.memory) ∙ stands) live in
      record { object = subst (λ (o : Option Object). IsSome o) (sym (graphs.objects (given.owner number))) owned.object; block = owned.block };
  variables = λ variable. ap (option_map (λ number. number ∷ [])) (states.variables variable) ∙ meets.variables variable ∙ ap (option_map given.blocks) (sym (graphs.variables variable));
  registers = held;
  ports = states.ports ∙ meets.ports ∙ ap (map given.word) (sym graphs.ports);
  rooted = λ place port stands.
      subst (λ (roots : List ℕ). IsRooted roots (other.values port) (given.word port)) (sym states.roots)
      (subst (λ (o : Option Value). IsRooted state.roots o (given.word port)) (sym (graphs.values port))
      (meets.rooted place port (ap (λ (ports : List ℕ). slice_get ports place) (sym graphs.ports) ∙ stands)));
  unequal = λ place pair stands. meets.unequal place pair (ap (λ (pairs : List Pair). slice_get pairs place) (sym graphs.unequal) ∙ stands);
}

-- What registers hold in a graph.

found_kept : (p : ℕ → Bool) (registers : List Held) (register : ℕ) → held_by (filter (λ held. p held.register) registers) register ≡ (if p register then held_by registers register else None)
found_kept p [] register = by_test (p register)
  where
    by_test : (b : Bool) → ◌≡◌ {A = Option ℕ} None (if b then None else None)
    by_test true = refl
    by_test false = refl
found_kept p (first ∷ rest) register = by_first (nat_eq first.register register) refl (p first.register) refl (found_kept p rest register)
  where
    by_first : (same : Bool) → nat_eq first.register register ≡ same → (b : Bool) → p first.register ≡ b → held_by (filter (λ held. p held.register) rest) register ≡ (if p register then held_by rest register else None) →
        held_by (if b then first ∷ filter (λ held. p held.register) rest else filter (λ held. p held.register) rest) register ≡ (if p register then (if same then Some first.value else held_by rest register) else None)
    by_first true is true kept later =
        ap (λ (hit : Bool). if hit then Some first.value else held_by (filter (λ held. p held.register) rest) register) is
        ∙ sym (ap (λ (b : Bool). if b then Some first.value else None) (ap p (sym (eqb-true _ _ is)) ∙ kept))
    by_first true is false gone later =
        later ∙ both (p register) (ap p (sym (eqb-true _ _ is)) ∙ gone)
      where
        both : (b : Bool) → b ≡ false → (if b then held_by rest register else None) ≡ (if b then Some first.value else None)
        both false is = refl
        both true is = absurd (false≢true (sym is))
    by_first false is true kept later = ap (λ (hit : Bool). if hit then Some first.value else held_by (filter (λ held. p held.register) rest) register) is ∙ later
    by_first false is false gone later = later

found_appended : (one other : List Held) (register : ℕ) → held_by one register ≡ None → held_by (one ++ other) register ≡ held_by other register
found_appended [] other register none = refl
found_appended (first ∷ rest) other register none = by_first (nat_eq first.register register) none (λ later. found_appended rest other register later)
  where
    by_first : (same : Bool) → (if same then Some first.value else held_by rest register) ≡ None → (held_by rest register ≡ None → held_by (rest ++ other) register ≡ held_by other register) →
        (if same then Some first.value else held_by (rest ++ other) register) ≡ held_by other register
    by_first true none later = absurd (none-some first.value (sym none))
    by_first false none later = later none

found_front : (one other : List Held) (register value : ℕ) → held_by one register ≡ Some value → held_by (one ++ other) register ≡ Some value
found_front [] other register value some = absurd (none-some value some)
found_front (first ∷ rest) other register value some = by_first (nat_eq first.register register) some (λ later. found_front rest other register value later)
  where
    by_first : (same : Bool) → (if same then Some first.value else held_by rest register) ≡ Some value → (held_by rest register ≡ Some value → held_by (rest ++ other) register ≡ Some value) →
        (if same then Some first.value else held_by (rest ++ other) register) ≡ Some value
    by_first true some later = some
    by_first false some later = later some

pub held_without : (gone : List ℕ) (parts : Parts) (register : ℕ) → held_by (without_registers gone parts).registers register ≡ emptied gone (held_by parts.registers) register
held_without gone parts register = found_kept (λ r. not (is_among gone r)) parts.registers register ∙ by_test (is_among gone register)
  where
    by_test : (b : Bool) → (if not b then held_by parts.registers register else None) ≡ (if b then None else held_by parts.registers register)
    by_test true = refl
    by_test false = refl

pub held_with : (into key : ℕ) (parts : Parts) (register : ℕ) → held_by (with_register into key parts).registers register ≡ put into key (held_by parts.registers) register
held_with into key parts register = by_order (nat_lt register into) refl (nat_eq register into) refl
  where
    front : List Held
    front = filter (λ held. nat_lt held.register into) parts.registers

    back : List Held
    back = filter (λ held. nat_lt into held.register) parts.registers

    by_front : (found : Option ℕ) → held_by parts.registers register ≡ found → nat_lt register into ≡ true → nat_eq register into ≡ false → held_by (with_register into key parts).registers register ≡ found
    by_front (Some value) is below differ =
        found_front front (record { register = into; value = key } ∷ back) register value (found_kept (λ r. nat_lt r into) parts.registers register ∙ ap (λ (b : Bool). if b then held_by parts.registers register else None) below ∙ is)
    by_front None is below differ =
        found_appended front (record { register = into; value = key } ∷ back) register (found_kept (λ r. nat_lt r into) parts.registers register ∙ ap (λ (b : Bool). if b then held_by parts.registers register else None) below ∙ is)
        ∙ ap (λ (b : Bool). if b then Some key else held_by back register) (eqb-miss into register (λ same. false≢true (sym differ ∙ eq-eqb register into (sym same))))
        ∙ found_kept (λ r. nat_lt into r) parts.registers register
        ∙ ap (λ (b : Bool). if b then held_by parts.registers register else None) (not_below into register (let l = ltb-true _ _ below in omega arith)) ∙ refl
      where
        not_below : (a b : ℕ) → b < a → nat_lt a b ≡ false
        not_below a b over = by_test (nat_lt a b) refl
          where
            by_test : (t : Bool) → nat_lt a b ≡ t → nat_lt a b ≡ false
            by_test true is = let l = ltb-true _ _ is in absurd (omega arith)
            by_test false is = is

    by_order : (below : Bool) → nat_lt register into ≡ below → (same : Bool) → nat_eq register into ≡ same → held_by (with_register into key parts).registers register ≡ (if same then Some key else held_by parts.registers register)
    by_order true below true same = let l = ltb-true _ _ below in let e = eqb-true _ _ same in absurd (omega arith)
    by_order true below false same = by_front (held_by parts.registers register) refl below same
    by_order false over true same =
        found_appended front (record { register = into; value = key } ∷ back) register (found_kept (λ r. nat_lt r into) parts.registers register ∙ ap (λ (b : Bool). if b then held_by parts.registers register else None) over)
        ∙ ap (λ (b : Bool). if b then Some key else held_by back register) (eq-eqb into register (sym (eqb-true _ _ same)))
    by_order false over false same =
        found_appended front (record { register = into; value = key } ∷ back) register (found_kept (λ r. nat_lt r into) parts.registers register ∙ ap (λ (b : Bool). if b then held_by parts.registers register else None) over)
        ∙ ap (λ (b : Bool). if b then Some key else held_by back register) (eqb-miss into register (λ equal. false≢true (sym same ∙ eq-eqb register into (sym equal))))
        ∙ found_kept (λ r. nat_lt into r) parts.registers register
        ∙ ap (λ (b : Bool). if b then held_by parts.registers register else None)
        (lt-ltb into register (let l = ltb-false register into over in above l))
      where
        above : into ≤ register → into < register
        above most = by_eq (nat_eq into register) refl
          where
            by_eq : (b : Bool) → nat_eq into register ≡ b → into < register
            by_eq true is = absurd (false≢true (sym same ∙ eq-eqb register into (sym (eqb-true _ _ is))))
            by_eq false is = let differ : into ≢ register = λ equal. false≢true (sym is ∙ eq-eqb into register equal) in omega arith

pub without_agrees : (gone : List ℕ) (parts : Parts) → AgreeButRegisters (maps_of parts) (maps_of (without_registers gone parts))
without_agrees gone parts = record { objects = λ at. refl; values = λ at. refl; variables = λ at. refl; ports = refl; unequal = refl }

pub with_agrees : (into key : ℕ) (parts : Parts) → AgreeButRegisters (maps_of parts) (maps_of (with_register into key parts))
with_agrees into key parts = record { objects = λ at. refl; values = λ at. refl; variables = λ at. refl; ports = refl; unequal = refl }

-- what registers hold, as words

pub emptied-words : (word : ℕ → Word) (gone : List ℕ) (keys : ℕ → Option ℕ) (words : ℕ → Option Word) (register : ℕ) → words register ≡ option_map word (keys register) →
    emptied gone words register ≡ option_map word (emptied gone keys register)
emptied-words word gone keys words register same = by_test (is_among gone register)
  where
    by_test : (b : Bool) → (if b then None else words register) ≡ option_map word (if b then None else keys register)
    by_test true = refl
    by_test false = same

pub put-words : (word : ℕ → Word) (into key : ℕ) (keys : ℕ → Option ℕ) (words : ℕ → Option Word) (register : ℕ) → words register ≡ option_map word (keys register) →
    put into (word key) words register ≡ option_map word (put into key keys register)
put-words word into key keys words register same = by_test (nat_eq register into)
  where
    by_test : (b : Bool) → (if b then Some (word key) else words register) ≡ option_map word (if b then Some key else keys register)
    by_test true = refl
    by_test false = same
