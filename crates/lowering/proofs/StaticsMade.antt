-- What the start of a graph makes of static variables: the block of each is numbered as it is, lives, has its bytes, and is none of the heap.
use Rattle.std.proofs.Common.{◌≡◌, ◌≢◌, ℕ, zero, suc, ◌+◌, ◌-◌, ◌<◌, ◌≤◌, Bool, true, false, not, ◌&&◌, ◌||◌, List, [], ◌∷◌, ◌++◌, map, length, refl, sym, ap, subst, ◌∙◌, arith, ◌⊎◌, inl, inr, ⊎_elim, Option, None, Some, nat_eq, nat_lt, slice_get, if◌then◌else◌}
use Rattle.std.specs.List.{list_all}
use Rattle.std.proofs.lemmas.Bool.{and_parts, eqb-true, eq-eqb, ne_eqb, cases_eq, cases_lt}
use Rattle.std.proofs.lemmas.List.{length-append, length-map}
use Rattle.std.proofs.lemmas.Option.{same_Some, none-some}
use Rattle.bytes_core.specs.declared.block.Block.{Block}
use Rattle.bytes_core.specs.declared.block.BlockKind.TheVariants as storage
use Rattle.bytes_core.specs.declared.byte.Byte.TheVariants.{Num}
use Rattle.bytes_core.specs.Placement.{new_block, is_new_block, placed}
use Rattle.bytes_core.specs.Release.{is_heap}
use Rattle.choices.specs.declared.choice.Choice.{Choice}
use Rattle.choices.specs.declared.choice.Choice.TheVariants as choice
use Rattle.c_machine.specs.declared.object.Object.{Object}
use Rattle.flow.specs.declared.flow_graph.Variable.{Variable}
use Rattle.flow.specs.Holding.{Owned, block_of, put_owned}
use Rattle.flow.specs.Machine as graph
use Rattle.flow.specs.Runs.{blank, with_statics}

-- the variables of objects that live as long as the program runs, and variables that do not
abbrev pub fixed_of : List Object → List Variable
fixed_of objects = map (λ object. record { size = object.bytes; fixed = true }) objects

abbrev pub AreLocal : List Variable → Type 0
AreLocal [] = Unit {0}
AreLocal (variable ∷ variables) = (variable.fixed ≡ false) × AreLocal variables

-- a variable begins to stand, and the others stand as before
put_here : (new : Owned) (owned : List Owned) → block_of owned new.variable ≡ None → block_of (put_owned new owned) new.variable ≡ Some new.block
put_here new [] missed = rw (eq-eqb new.variable new.variable refl) refl
put_here new (first ∷ rest) missed = by_order (nat_lt new.variable first.variable) (nat_eq first.variable new.variable) refl missed (put_here new rest)
  where
    by_order : (less same : Bool) → nat_eq first.variable new.variable ≡ same → (if same then Some first.block else block_of rest new.variable) ≡ None →
        (block_of rest new.variable ≡ None → block_of (put_owned new rest) new.variable ≡ Some new.block) → block_of (if less then new ∷ first ∷ rest else first ∷ put_owned new rest) new.variable ≡ Some new.block
    by_order true same is missed' more = rw (eq-eqb new.variable new.variable refl) refl
    by_order false true is missed' more = absurd (cc)
    by_order false false is missed' more = rw is (more missed')

put_other : (new : Owned) (owned : List Owned) (variable : ℕ) → new.variable ≢ variable → block_of (put_owned new owned) variable ≡ block_of owned variable
put_other new [] variable differ = rw (ne_eqb new.variable variable differ) refl
put_other new (first ∷ rest) variable differ = by_order (nat_lt new.variable first.variable) (put_other new rest variable differ)
  where
    by_order : (less : Bool) → block_of (put_owned new rest) variable ≡ block_of rest variable → block_of (if less then new ∷ first ∷ rest else first ∷ put_owned new rest) variable ≡ block_of (first ∷ rest) variable
    by_order true more = rw (ne_eqb new.variable variable differ) refl
    by_order false more = ap (λ (found : Option ℕ). if nat_eq first.variable variable then Some first.block else found) more

-- a list with one more at its end
pushed_old : {X : Type 0} (xs : List X) (x y : X) (place : ℕ) → slice_get xs place ≡ Some y → slice_get (xs ++ x ∷ []) place ≡ Some y
pushed_old [] x y place is = absurd (none-some y is)
pushed_old (first ∷ xs) x y zero is = is
pushed_old (first ∷ xs) x y (suc place) is = pushed_old xs x y place is

pushed_new : {X : Type 0} (xs : List X) (x : X) → slice_get (xs ++ x ∷ []) (length xs) ≡ Some x
pushed_new [] x = refl
pushed_new (first ∷ xs) x = pushed_new xs x

pushed_cases : {X : Type 0} (xs : List X) (x y : X) (place : ℕ) → slice_get (xs ++ x ∷ []) place ≡ Some y → (slice_get xs place ≡ Some y) ⊎ ((place ≡ length xs) × (x ≡ y))
pushed_cases [] x y zero is = inr (refl, same_Some x y is)
pushed_cases [] x y (suc place) is = absurd (none-some y is)
pushed_cases (first ∷ xs) x y zero is = inl is
pushed_cases (first ∷ xs) x y (suc place) is =
    ⊎_elim (λ (old : slice_get xs place ≡ Some y). inl old) (λ (last : (place ≡ length xs) × (x ≡ y)). inr (ap suc last.0, last.1)) (pushed_cases xs x y place is)

-- the block of a static object
pub record IsBlockOf (memory : List Block) (number bytes : ℕ) : Type 0 where
  pub block : Block
  pub stands : slice_get memory number ≡ Some block
  pub live : block.live ≡ true
  pub size : length block.bytes ≡ bytes

abbrev pub NoHeap : List Block → Type 0
NoHeap memory = (number : ℕ) (block : Block) → slice_get memory number ≡ Some block → is_heap block.kind ≡ false

-- the first variables of these have their blocks
pub record AreMadeTo (all : List Object) (made : ℕ) (owned : List Owned) (memory : List Block) : Type 0 where
  pub count : length memory ≡ made
  pub stand : (variable : ℕ) → variable < made → block_of owned variable ≡ Some variable
  pub missed : (variable : ℕ) → made ≤ variable → block_of owned variable ≡ None
  pub blocks : (variable : ℕ) (object : Object) → slice_get all variable ≡ Some object → variable < made → IsBlockOf memory variable object.bytes
  pub none : NoHeap memory

-- one more
one_more : (all : List Object) (made : ℕ) (owned : List Owned) (memory : List Block) (object : Object) (base : ℕ) (contents : List ℕ) → AreMadeTo all made owned memory →
    slice_get all made ≡ Some object → length contents ≡ object.bytes →
    AreMadeTo all (made + 1) (put_owned (record { variable = made; block = length memory }) owned) (placed memory (new_block storage.Static base contents))
one_more all made owned memory object base contents are is size =
    let new : Owned = record { variable = made; block = length memory } in
    let block : Block = new_block storage.Static base contents in
    let here : slice_get (memory ++ block ∷ []) made ≡ Some block = subst (λ (n : ℕ). slice_get (memory ++ block ∷ []) n ≡ Some block) are.count (pushed_new memory block) in
    record {
      count = length-append memory (block ∷ []) ∙ ap (λ (n : ℕ). n + 1) are.count;
      stand = λ variable less. ⊎_elim
          (λ (same : made ≡ variable). subst (λ (n : ℕ). block_of (put_owned new owned) n ≡ Some n) same (put_here new owned (are.missed made (omega arith)) ∙ ap Some are.count))
          (λ (differ : made ≢ variable). put_other new owned variable differ ∙ are.stand variable (omega arith))
          (cases_eq made variable);
      missed = λ variable least. put_other new owned variable (λ same. absurd (omega arith)) ∙ are.missed variable (omega arith);
      blocks = λ variable object' is' less. ⊎_elim
          (λ (same : variable ≡ made). record {
            block = block;
            stands = subst (λ (n : ℕ). slice_get (memory ++ block ∷ []) n ≡ Some block) (sym same) here;
            live = refl;
            size = length-map contents Num ∙ (size ∙ ap (λ (o : Object). o.bytes) (same_Some object object' (sym is ∙ (ap (slice_get all) (sym same) ∙ is'))));
          })
          (λ (differ : variable ≢ made).
          let before = are.blocks variable object' is' (omega arith) in
          record { block = before.block; stands = pushed_old memory block before.block variable before.stands; live = before.live; size = before.size })
          (cases_eq variable made);
      none = λ number found stands. ⊎_elim
          (λ (old : slice_get memory number ≡ Some found). are.none number found old)
          (λ (last : (number ≡ length memory) × (block ≡ found)). subst (λ (b : Block). is_heap b.kind ≡ false) last.1 refl)
          (pushed_cases memory block found number stands);
    }

locals_stay : (variables : List Variable) (number : ℕ) (state : graph.State) (choices : List Choice) → AreLocal variables → with_statics number variables state choices ≡ graph.Went state choices
locals_stay [] number state choices are = refl
locals_stay (variable ∷ variables) number state choices are =
    ap (λ (fixed : Bool). if fixed
    then graph.with_new_block storage.Static variable.size true state choices
    (λ after block more. with_statics (number + 1) variables (record after { statics = put_owned (record { variable = number; block = block }) after.statics }) more)
    else with_statics (number + 1) variables state choices) are.0
    ∙ locals_stay variables (number + 1) state choices are.1

abbrev next_state : graph.State → ℕ → ℕ → List ℕ → graph.State
next_state state number base contents =
    record state {
      statics = put_owned (record { variable = number; block = length state.memory }) state.statics;
      memory = placed state.memory (new_block storage.Static base contents);
    }

went_same : (one other : graph.State) (choices more : List Choice) → graph.Went one choices ≡ graph.Went other more → (one ≡ other) × (choices ≡ more)
went_same one other choices more is = (cc, cc)

module _ (all : List Object) (others : List Variable) (local : AreLocal others) (made : graph.State) (more : List Choice) where
  abbrev AreAllMade : Type 0
  AreAllMade = (variable : ℕ) (object : Object) → slice_get all variable ≡ Some object → (block_of made.statics variable ≡ Some variable) × IsBlockOf made.memory variable object.bytes

  -- whatever choices are taken
  made_by : (objects : List Object) (number : ℕ) (state : graph.State) (choices : List Choice) → AreMadeTo all number state.statics state.memory →
      ((place : ℕ) → slice_get all (number + place) ≡ slice_get objects place) → with_statics number (fixed_of objects ++ others) state choices ≡ graph.Went made more →
      AreAllMade × NoHeap made.memory
  made_by [] number state choices are rest goes =
      let same : state ≡ made = (went_same state made choices more (sym (locals_stay others number state choices local) ∙ goes)).0 in
      subst (λ (s : graph.State).
      ((variable : ℕ) (object : Object) → slice_get all variable ≡ Some object → (block_of s.statics variable ≡ Some variable) × IsBlockOf s.memory variable object.bytes) × NoHeap s.memory) same (
        λ variable object is.
            let less : variable < number = ⊎_elim (λ (less' : variable < number). less')
            (λ (least : number ≤ variable). absurd (none-some object
            (sym (subst (λ (n : ℕ). slice_get all n ≡ None) (let e : number + (variable - number) ≡ variable = omega arith in e) (rest (variable - number))) ∙ is)))
            (cases_lt variable number) in
            (are.stand variable less, are.blocks variable object is less),
        are.none,
      )
  made_by (object ∷ objects) number state [] are rest goes = absurd (cc)
  made_by (object ∷ objects) number state (choice.None ∷ choices) are rest goes = absurd (cc)
  made_by (object ∷ objects) number state (choice.Input bits ∷ choices) are rest goes = absurd (cc)
  made_by (object ∷ objects) number state (choice.Block base contents ∷ choices) are rest goes =
      by_test (is_new_block state.memory storage.Static object.bytes base contents && (not true || list_all (nat_eq 0) contents)) refl goes
      (λ size goes'. made_by objects (number + 1) (next_state state number base contents) choices
      (one_more all number state.statics state.memory object base contents are (subst (λ (n : ℕ). slice_get all n ≡ Some object) (let e : number + 0 ≡ number = omega arith in e) (rest 0)) size)
      (λ place. subst (λ (n : ℕ). slice_get all n ≡ slice_get objects place) (let e : number + suc place ≡ number + 1 + place = omega arith in e) (rest (suc place))) goes')
    where
      by_test : (test : Bool) → (is_new_block state.memory storage.Static object.bytes base contents && (not true || list_all (nat_eq 0) contents)) ≡ test →
          (if test then with_statics (number + 1) (fixed_of objects ++ others) (next_state state number base contents) choices else graph.Ended) ≡ graph.Went made more →
          (length contents ≡ object.bytes → with_statics (number + 1) (fixed_of objects ++ others) (next_state state number base contents) choices ≡ graph.Went made more → AreAllMade × NoHeap made.memory) → AreAllMade × NoHeap made.memory
      by_test true is goes' each = each (eqb-true (length contents) object.bytes (and_parts (nat_eq (length contents) object.bytes) _ (and_parts (is_new_block state.memory storage.Static object.bytes base contents) _ is).0).0) goes'
      by_test false is goes' each = absurd (cc)

  pub statics_made : (point : ℕ) (choices : List Choice) → with_statics 0 (fixed_of all ++ others) (blank point) choices ≡ graph.Went made more → AreAllMade × NoHeap made.memory
  statics_made point choices goes =
      made_by all 0 (blank point) choices
      (record {
        count = refl;
        stand = λ variable less. absurd (omega arith);
        missed = λ variable least. refl;
        blocks = λ variable object is less. absurd (omega arith);
        none = λ number block stands. absurd (none-some block stands);
      })
      (λ place. ap (slice_get all) (let e : 0 + place ≡ place = omega arith in e)) goes
