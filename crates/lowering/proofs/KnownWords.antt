-- What an expression comes to without a memory is what the machine works out, whatever stands in the memory.
use Rattle.std.proofs.Common.{◌≡◌, ◌≤◌, ℕ, zero, suc, ◌+◌, ◌*◌, arith, Bool, true, false, List, [], ◌∷◌, ◌++◌, refl, sym, ap, subst, ◌∙◌, pos, Option, None, Some, option_map, option_and_then, if◌then◌else◌}
use Rattle.std.proofs.lemmas.Option.{same_Some, none-some}
use Rattle.cbase.specs.declared.place.Place.{Place}
use Rattle.cbase.specs.declared.tree.operators.BinaryOp.{BinaryOp}
use Rattle.cbase.specs.declared.tree.operators.BinaryOp.TheVariants.{Add, Sub, Equal, NotEqual, Both, Either, Comma}
use Rattle.cbase.specs.declared.tree.operators.UnaryOp.{UnaryOp}
use Rattle.cbase.specs.declared.tree.operators.UnaryOp.TheVariants.{Address, Follow, Not}
use Rattle.bytes_core.specs.declared.block.Block.{Block}
use Rattle.bytes_core.specs.declared.word.Word.{Word}
use Rattle.bytes_core.specs.declared.word.Word.TheVariants.{Plain, To}
use Rattle.bytes_core.specs.Value.{moved, is_same_address}
use Rattle.choices.specs.declared.choice.Choice.{Choice}
use Rattle.c_machine.specs.declared.kind.Kind.{Kind}
use Rattle.c_machine.specs.declared.kind.Kind.TheVariants.{Integer, Pointer, Array, Void}
use Rattle.c_machine.specs.declared.task.Task.TheVariants.{ValueOf, AddressOf, Push, ObjectAt, Shift, Load, Convert, Apply, Operate, Answer, AndThen, OrElse, Pick}
use Rattle.c_machine.specs.Text.{Value as ValueInit, Braces, Standing, ObjectStands, ConstantStands, Form, Name as NameForm, Known, Unary, Binary, Choose, Cast, Index, Member, Text}
use Rattle.c_machine.specs.State.{TaskIn, StateIn, OutcomeIn, Scope, Went, block_in}
use Rattle.c_machine.specs.Step as machine
use Rattle.c_machine.specs.Step.{step, object_at, or_ended, or_stuck, arm}
use Rattle.c_machine.specs.Run.{then_go, done_within}
use Rattle.c_machine.specs.Expressions.{value_kind, named, address_parts, value_parts, binary_parts, name_parts, known as machine_known}
use Rattle.c_machine.specs.Words.{is_true, told, as_kind, as_address, applied, operated}
use Rattle.simulation.specs.Names.{Name, variable_in}
use Rattle.lowering.specs.Known.{Asked, Value, Place as PlaceAsked, operated_on, applied_to, converted_to, answered, truth_of, loaded_from, named_word, name_word, both, and_then, or_else, picked, binary_word, word_as, value_word, place_word, known_word}
use Rattle.lowering.proofs.StartSteps.{before_main, Takes, takes_none, takes_both, takes_less}

-- words that are plain numbers are the same to every memory
same_plain : (memory : List Block) (left right : Kind) (one other : ℕ) →
    is_same_address memory (as_address memory left (Plain one)) (as_address memory right (Plain other)) ≡ is_same_address [] (as_address [] left (Plain one)) (as_address [] right (Plain other))
same_plain memory (Integer left) (Integer right) one other = refl
same_plain memory (Integer left) right one other = refl
same_plain memory left (Integer right) one other = refl
same_plain memory left right one other = refl

operated_plain : (memory : List Block) (op : BinaryOp) (left right : Kind) (one other : ℕ) → operated memory op left right (Plain one) (Plain other) ≡ operated [] op left right (Plain one) (Plain other)
operated_plain memory op (Integer left) (Integer right) one other = refl
operated_plain memory Add (Pointer bytes) (Integer right) one other = refl
operated_plain memory Add (Integer left) (Pointer bytes) one other = refl
operated_plain memory Sub (Pointer bytes) (Integer right) one other = refl
operated_plain memory Equal left right one other = ap (λ (same : Bool). Some (told true same)) (same_plain memory left right one other)
operated_plain memory NotEqual left right one other = ap (λ (same : Bool). Some (told false same)) (same_plain memory left right one other)
operated_plain memory op left right one other = refl

pub operated_word : (memory : List Block) (op : BinaryOp) (left right : Kind) (one other word : Word) → operated_on op left right one other ≡ Some word → operated memory op left right one other ≡ Some word
operated_word memory op left right (Plain one) (Plain other) word is = operated_plain memory op left right one other ∙ is
operated_word memory Add (Pointer bytes) (Integer right) (To block offset) (Plain other) word is = is
operated_word memory Sub (Pointer bytes) (Integer right) (To block offset) (Plain other) word is = is
operated_word memory Add (Integer left) (Pointer bytes) (Plain one) (To block offset) word is = is
operated_word memory op left right one other word is = absurd (none-some word is)

as_kind_plain : (memory : List Block) (from to : Kind) (number : ℕ) → as_kind memory from to (Plain number) ≡ as_kind [] from to (Plain number)
as_kind_plain memory from Void number = refl
as_kind_plain memory (Integer from) (Integer to) number = refl
as_kind_plain memory (Integer from) (Pointer bytes) number = refl
as_kind_plain memory from (Integer to) number = refl
as_kind_plain memory from to number = refl

pub converted_word : (memory : List Block) (from to : Kind) (before word : Word) → converted_to from to before ≡ Some word → as_kind memory from to before ≡ word
converted_word memory from to (Plain number) word is = as_kind_plain memory from to number ∙ same_Some (as_kind [] from to (Plain number)) word is
converted_word memory (Pointer from) (Pointer to) (To block offset) word is = same_Some (To block offset) word is
converted_word memory from to (To block offset) word is = absurd (none-some word is)

pub applied_word : (memory : List Block) (op : UnaryOp) (kind : Kind) (before word : Word) → applied_to op kind before ≡ Some word → applied memory op kind before ≡ Some word
applied_word memory op (Integer of) (Plain number) word is = is
applied_word memory op kind (Plain number) word is = is
applied_word memory op kind (To block offset) word is = absurd (none-some word is)

pub answered_word : (memory : List Block) (asked : Bool) (before word : Word) → answered asked before ≡ Some word → told asked (is_true memory before) ≡ word
answered_word memory asked (Plain number) word is = same_Some (told asked (is_true [] (Plain number))) word is
answered_word memory asked (To block offset) word is = absurd (none-some word is)

pub truth_word : (memory : List Block) (before : Word) (holds : Bool) → truth_of before ≡ Some holds → is_true memory before ≡ holds
truth_word memory (Plain number) holds is = same_Some (is_true [] (Plain number)) holds is
truth_word memory (To block offset) holds is = absurd (none-some holds is)

pub array_at : (kind : Kind) (at : Option Word) (word : Word) → loaded_from kind at ≡ Some word → at ≡ Some word
array_at (Array bytes) at word is = is
array_at kind at word is = absurd (none-some word is)

-- what stands in front of a choice
pub some_both : (one other : Option Word) (make : Word → Word → Option Word) (word : Word) → both one other make ≡ Some word →
    (first : Word) × (second : Word) × (one ≡ Some first) × (other ≡ Some second) × (make first second ≡ Some word)
some_both (Some first) (Some second) make word is = (first, second, refl, refl, is)
some_both (Some first) None make word is = absurd (none-some word is)
some_both None (Some second) make word is = absurd (none-some word is)
some_both None None make word is = absurd (none-some word is)

pub some_then : {A B : Type 0} (make : A → Option B) (one : Option A) (word : B) → option_and_then make one ≡ Some word → (before : A) × (one ≡ Some before) × (make before ≡ Some word)
some_then make (Some before) word is = (before, refl, is)
some_then make None word is = absurd (none-some word is)

pub some_map : {A B : Type 0} (make : A → B) (one : Option A) (word : B) → option_map make one ≡ Some word → (before : A) × (one ≡ Some before) × (make before ≡ word)
some_map make (Some before) word is = (before, refl, same_Some (make before) word is)
some_map make None word is = absurd (none-some word is)

-- The parts of an expression that are worked out with it, and how many there are of those that were: any relation between expressions and numbers that has
-- each part, and none.
abbrev pub parts_of : {E S : Type 0} → Form E S → List E
parts_of (Unary op arg) = arg ∷ []
parts_of (Binary op left right) = left ∷ right ∷ []
parts_of (Choose test one other) = test ∷ one ∷ other ∷ []
parts_of (Cast arg) = arg ∷ []
parts_of (Index base index) = base ∷ index ∷ []
parts_of (Member base offset through) = base ∷ []
parts_of form = []

abbrev pub AllWeigh : {E : Type 0} → (E → ℕ → Type 0) → List E → ℕ → Type 0
AllWeigh Weighs [] count = count ≡ 0
AllWeigh Weighs (part ∷ parts) count = (one : ℕ) × (others : ℕ) × Weighs part one × AllWeigh Weighs parts others × (count ≡ one + others)

-- expressions, and initialisers that have some of them as values
pub record Weighing (t : Text) : Type 1 where
  pub expr : t.Expr → ℕ → Type 0
  pub init : t.Init → ℕ → Type 0
  pub nothing : (one : t.Expr) → expr one 0
  pub one_more : (one : t.Expr) (count : ℕ) → AllWeigh expr (parts_of (t.form one)) count → expr one (suc count)
  pub value : (one : t.Init) (value : t.Expr) (after : Place) (count : ℕ) → t.initialiser one ≡ ValueInit value after → expr value count → init one (suc count)
  pub braces : (one : t.Init) (parts : List t.Init) (count : ℕ) → t.initialiser one ≡ Braces parts → AllWeigh init parts count → init one (suc count)

module _ (t : Text) (statics : Scope) (names : List Name) (stand : (token variable : ℕ) → variable_in names token ≡ Some variable → block_in statics token ≡ Some variable)
    (Weighs : t.Expr → ℕ → Type 0) (nothing : (expr : t.Expr) → Weighs expr 0) (one_more : (expr : t.Expr) (count : ℕ) → AllWeigh Weighs (parts_of (t.form expr)) count → Weighs expr (suc count)) where
  abbrev At : List (TaskIn t) → List Word → List Block → StateIn t
  At tasks operands memory = before_main t statics tasks operands memory

  abbrev pub asks : Asked → t.Expr → TaskIn t
  asks Value expr = ValueOf expr
  asks PlaceAsked expr = AddressOf expr

  -- no value takes more than four steps for each part, and an address two less
  abbrev pub bound : Asked → ℕ → ℕ
  bound Value count = 4 + 4 * count
  bound PlaceAsked count = 2 + 4 * count

  -- what is to be done first is done, whatever is done behind it and whatever stands in the memory
  abbrev Done : ℕ → List (TaskIn t) → List Word → List Word → Type 0
  Done steps front before behind =
      (tasks : List (TaskIn t)) (operands : List Word) (memory : List Block) → Takes t steps (At (front ++ tasks) (before ++ operands) memory) (At tasks (behind ++ operands) memory)

  -- what is asked for is worked out
  pub record Works (asked : Asked) (expr : t.Expr) (word : Word) : Type 0 where
    pub count : ℕ
    pub weighs : Weighs expr (suc count)
    pub takes : Done (bound asked count) (asks asked expr ∷ []) [] (word ∷ [])

  abbrev pub AreWorked : (Asked → t.Expr → Option Word) → Type 0
  AreWorked known = (asked : Asked) (expr : t.Expr) (word : Word) → known asked expr ≡ Some word → Works asked expr word

  -- and so are parts
  record Parts (steps : ℕ) (parts : List t.Expr) (front : List (TaskIn t)) (before : List Word) (word : Word) : Type 0 where
    count : ℕ
    weigh : AllWeigh Weighs parts count
    takes : Done (steps + 4 * count) front before (word ∷ [])

  pub first_step : (task : TaskIn t) (tasks : List (TaskIn t)) (operands : List Word) (memory : List Block) (next other : StateIn t) (steps : ℕ) →
      ((choices : List Choice) → step t (At (task ∷ tasks) operands memory) choices ≡ Went next choices) → Takes t steps next other → Takes t (suc steps) (At (task ∷ tasks) operands memory) other
  first_step task tasks operands memory next other bounded goes takes steps choices =
      let more = takes steps choices in
      let h = more.1 in
      (suc more.0, omega arith, ap (λ (outcome : OutcomeIn t). then_go outcome (done_within more.0 t)) (goes choices) ∙ more.2)

  -- one step more, which leaves a value
  gives : (task : TaskIn t) (tasks : List (TaskIn t)) (operands after : List Word) (memory : List Block) →
      ((choices : List Choice) → step t (At (task ∷ tasks) operands memory) choices ≡ Went (At tasks after memory) choices) → Takes t 1 (At (task ∷ tasks) operands memory) (At tasks after memory)
  gives task tasks operands after memory goes = first_step task tasks operands memory (At tasks after memory) (At tasks after memory) 0 goes (takes_none t (At tasks after memory))

  unfolded : (expr : t.Expr) (form : Form t.Expr t.Stmt) (word : Word) → t.form expr ≡ form → Parts 3 (parts_of form) (value_parts t expr form) [] word → Works Value expr word
  unfolded expr form word is parts = record {
    count = parts.count;
    weighs = one_more expr parts.count (subst (λ (f : Form t.Expr t.Stmt). AllWeigh Weighs (parts_of f) parts.count) (sym is) parts.weigh);
    takes = λ tasks operands memory.
        takes_less t (suc (3 + 4 * parts.count)) (4 + 4 * parts.count) (At (ValueOf expr ∷ tasks) operands memory) (At tasks (word ∷ operands) memory) (omega arith)
        (first_step (ValueOf expr) tasks operands memory (At (value_parts t expr (t.form expr) ++ tasks) operands memory) (At tasks (word ∷ operands) memory) (3 + 4 * parts.count) (λ choices. refl)
        (subst (λ (f : Form t.Expr t.Stmt). Takes t (3 + 4 * parts.count) (At (value_parts t expr f ++ tasks) operands memory) (At tasks (word ∷ operands) memory)) (sym is) (parts.takes tasks operands memory)));
  }

  unfolded_place : (expr : t.Expr) (form : Form t.Expr t.Stmt) (word : Word) → t.form expr ≡ form → Parts 1 (parts_of form) (address_parts t expr form) [] word → Works PlaceAsked expr word
  unfolded_place expr form word is parts = record {
    count = parts.count;
    weighs = one_more expr parts.count (subst (λ (f : Form t.Expr t.Stmt). AllWeigh Weighs (parts_of f) parts.count) (sym is) parts.weigh);
    takes = λ tasks operands memory.
        takes_less t (suc (1 + 4 * parts.count)) (2 + 4 * parts.count) (At (AddressOf expr ∷ tasks) operands memory) (At tasks (word ∷ operands) memory) (omega arith)
        (first_step (AddressOf expr) tasks operands memory (At (address_parts t expr (t.form expr) ++ tasks) operands memory) (At tasks (word ∷ operands) memory) (1 + 4 * parts.count) (λ choices. refl)
        (subst (λ (f : Form t.Expr t.Stmt). Takes t (1 + 4 * parts.count) (At (address_parts t expr f ++ tasks) operands memory) (At tasks (word ∷ operands) memory)) (sym is) (parts.takes tasks operands memory)));
  }

  -- a step without parts
  alone : (steps : ℕ) (task : TaskIn t) (word : Word) → 1 ≤ steps → ((tasks : List (TaskIn t)) (operands : List Word) (memory : List Block) (choices : List Choice) →
      step t (At (task ∷ tasks) operands memory) choices ≡ Went (At tasks (word ∷ operands) memory) choices) → Parts steps [] (task ∷ []) [] word
  alone steps task word less goes = record {
    count = 0;
    weigh = refl;
    takes = λ tasks operands memory. takes_less t 1 (steps + 4 * 0) (At (task ∷ tasks) operands memory) (At tasks (word ∷ operands) memory) (omega arith) (gives task tasks operands (word ∷ operands) memory (goes tasks operands memory));
  }

  -- one part, and a step behind it
  one_part : (steps : ℕ) (asked : Asked) (arg : t.Expr) (task : TaskIn t) (before word : Word) (works : Works asked arg before) → bound asked works.count + 1 ≤ steps + 4 * suc works.count →
      ((tasks : List (TaskIn t)) (operands : List Word) (memory : List Block) (choices : List Choice) → step t (At (task ∷ tasks) (before ∷ operands) memory) choices ≡ Went (At tasks (word ∷ operands) memory) choices) →
      Parts steps (arg ∷ []) (asks asked arg ∷ task ∷ []) [] word
  one_part steps asked arg task before word works less goes = record {
    count = suc works.count + 0;
    weigh = (suc works.count, 0, works.weighs, refl, refl);
    takes = λ tasks operands memory.
        takes_less t (bound asked works.count + 1) (steps + 4 * (suc works.count + 0)) (At (asks asked arg ∷ task ∷ tasks) operands memory) (At tasks (word ∷ operands) memory) (omega arith)
        (takes_both t (bound asked works.count) 1 (At (asks asked arg ∷ task ∷ tasks) operands memory) (At (task ∷ tasks) (before ∷ operands) memory) (At tasks (word ∷ operands) memory)
        (works.takes (task ∷ tasks) operands memory) (gives task tasks (before ∷ operands) (word ∷ operands) memory (goes tasks operands memory)));
  }

  -- one part alone
  same_part : (steps : ℕ) (asked : Asked) (arg : t.Expr) (word : Word) (works : Works asked arg word) → bound asked works.count ≤ steps + 4 * suc works.count → Parts steps (arg ∷ []) (asks asked arg ∷ []) [] word
  same_part steps asked arg word works less = record {
    count = suc works.count + 0;
    weigh = (suc works.count, 0, works.weighs, refl, refl);
    takes = λ tasks operands memory.
        takes_less t (bound asked works.count) (steps + 4 * (suc works.count + 0)) (At (asks asked arg ∷ tasks) operands memory) (At tasks (word ∷ operands) memory) (omega arith) (works.takes tasks operands memory);
  }

  -- names
  named_worked : (standing : Standing) (word : Word) → named_word names standing ≡ Some word → Parts 1 [] (named t standing) [] word
  named_worked (ObjectStands token) word is =
      let found = some_map (λ (variable : ℕ). To variable (pos 0)) (variable_in names token) word is in
      alone 1 (ObjectAt token) word (omega arith)
      (λ tasks operands memory choices. ap (λ (at : Option ℕ). object_at at (At tasks operands memory) choices) (stand token found.0 found.1) ∙ ap (λ (at : Word). Went (At tasks (at ∷ operands) memory) choices) found.2)
  named_worked other word is = absurd (none-some word is)

  -- a load of an array is its address
  load_goes : (place : Place) (kind : Kind) (at : Option Word) (word : Word) → loaded_from kind at ≡ Some word → (tasks : List (TaskIn t)) (operands : List Word) (memory : List Block) (choices : List Choice) →
      step t (At (Load place kind ∷ tasks) (word ∷ operands) memory) choices ≡ Went (At tasks (word ∷ operands) memory) choices
  load_goes place (Array bytes) at word is tasks operands memory choices = refl
  load_goes place kind at word is tasks operands memory choices = absurd (none-some word is)

  -- so its value has the parts of its address
  loaded_worked : (expr : t.Expr) (form : Form t.Expr t.Stmt) (at : Option Word) (word : Word) → t.form expr ≡ form → value_parts t expr form ≡ AddressOf expr ∷ Load (t.place expr) (t.kind expr) ∷ [] →
      loaded_from (t.kind expr) at ≡ Some word → Works PlaceAsked expr word → Works Value expr word
  loaded_worked expr form at word is loads there works = record {
    count = works.count;
    weighs = works.weighs;
    takes = λ tasks operands memory.
        let last : TaskIn t = Load (t.place expr) (t.kind expr) in
        takes_less t (suc (2 + 4 * works.count + 1)) (4 + 4 * works.count) (At (ValueOf expr ∷ tasks) operands memory) (At tasks (word ∷ operands) memory) (omega arith)
        (first_step (ValueOf expr) tasks operands memory (At (value_parts t expr (t.form expr) ++ tasks) operands memory) (At tasks (word ∷ operands) memory) (2 + 4 * works.count + 1) (λ choices. refl)
        (subst (λ (list : List (TaskIn t)). Takes t (2 + 4 * works.count + 1) (At (list ++ tasks) operands memory) (At tasks (word ∷ operands) memory)) (sym (ap (value_parts t expr) is ∙ loads))
        (takes_both t (2 + 4 * works.count) 1 (At (AddressOf expr ∷ last ∷ tasks) operands memory) (At (last ∷ tasks) (word ∷ operands) memory) (At tasks (word ∷ operands) memory)
        (works.takes (last ∷ tasks) operands memory)
        (gives last tasks (word ∷ operands) (word ∷ operands) memory (load_goes (t.place expr) (t.kind expr) at word there tasks operands memory)))));
  }

  name_place : (expr : t.Expr) → t.form expr ≡ NameForm → (word : Word) → named_word names (t.stands expr) ≡ Some word → Works PlaceAsked expr word
  name_place expr form word is = unfolded_place expr NameForm word form (named_worked (t.stands expr) word is)

  name_worked : (expr : t.Expr) → t.form expr ≡ NameForm → (standing : Standing) → t.stands expr ≡ standing → (word : Word) → name_word names (t.kind expr) standing ≡ Some word → Works Value expr word
  name_worked expr form (ConstantStands bits) here word is =
      unfolded expr NameForm word form
      (subst (λ (standing : Standing). Parts 3 [] (name_parts t expr standing) [] word) (sym here)
      (alone 3 (Push bits) word (omega arith) (λ tasks operands memory choices. ap (λ (at : Word). Went (At tasks (at ∷ operands) memory) choices) (same_Some (Plain bits) word is))))
  name_worked expr form (ObjectStands token) here word is =
      loaded_worked expr NameForm (named_word names (ObjectStands token)) word form (ap (name_parts t expr) here) is
      (name_place expr form word (ap (named_word names) here ∙ array_at (t.kind expr) (named_word names (ObjectStands token)) word is))
  name_worked expr form other here word is = absurd (none-some word (array_at (t.kind expr) None word is))

  module _ (known : Asked → t.Expr → Option Word) (works : AreWorked known) where
    -- a value as one of a kind
    word_parts : (steps : ℕ) → 1 ≤ steps → (expr : t.Expr) (kind : Kind) (word : Word) → word_as t known expr kind ≡ Some word → Parts steps (expr ∷ []) (ValueOf expr ∷ Convert (value_kind t expr) kind ∷ []) [] word
    word_parts steps less expr kind word is =
        let found = some_then (converted_to (value_kind t expr) kind) (known Value expr) word is in
        one_part steps Value expr (Convert (value_kind t expr) kind) found.0 word (works Value expr found.0 found.1) (omega arith)
        (λ tasks operands memory choices. ap (λ (at : Word). Went (At tasks (at ∷ operands) memory) choices) (converted_word memory (value_kind t expr) kind found.0 word found.2))

    -- two values and an operator on them
    operated_parts : (steps : ℕ) → 1 ≤ steps → (op : BinaryOp) (left right : t.Expr) (word : Word) → both (known Value left) (known Value right) (operated_on op (value_kind t left) (value_kind t right)) ≡ Some word →
        Parts steps (left ∷ right ∷ []) (ValueOf left ∷ ValueOf right ∷ Operate op (value_kind t left) (value_kind t right) ∷ []) [] word
    operated_parts steps less op left right word is =
        let found = some_both (known Value left) (known Value right) (operated_on op (value_kind t left) (value_kind t right)) word is in
        let last : TaskIn t = Operate op (value_kind t left) (value_kind t right) in
        let one = works Value left found.0 found.2 in
        let other = works Value right found.1 found.3 in
        record {
          count = suc one.count + (suc other.count + 0);
          weigh = (suc one.count, suc other.count + 0, one.weighs, (suc other.count, 0, other.weighs, refl, refl), refl);
          takes = λ tasks operands memory.
              takes_less t (4 + 4 * one.count + (4 + 4 * other.count + 1)) (steps + 4 * (suc one.count + (suc other.count + 0))) (At (ValueOf left ∷ ValueOf right ∷ last ∷ tasks) operands memory) (At tasks (word ∷ operands) memory) (omega arith)
              (takes_both t (4 + 4 * one.count) (4 + 4 * other.count + 1) (At (ValueOf left ∷ ValueOf right ∷ last ∷ tasks) operands memory) (At (ValueOf right ∷ last ∷ tasks) (found.0 ∷ operands) memory) (At tasks (word ∷ operands) memory)
              (one.takes (ValueOf right ∷ last ∷ tasks) operands memory)
              (takes_both t (4 + 4 * other.count) 1 (At (ValueOf right ∷ last ∷ tasks) (found.0 ∷ operands) memory) (At (last ∷ tasks) (found.1 ∷ found.0 ∷ operands) memory) (At tasks (word ∷ operands) memory)
              (other.takes (last ∷ tasks) (found.0 ∷ operands) memory)
              (gives last tasks (found.1 ∷ found.0 ∷ operands) (word ∷ operands) memory
              (λ choices. ap (λ (at : Option Word). or_ended at (At tasks operands memory) choices) (operated_word memory op (value_kind t left) (value_kind t right) found.0 found.1 word found.4)))));
        }

    -- what a test of a plain number decides
    answer_parts : (steps : ℕ) → 1 ≤ steps → (asked : Bool) (expr : t.Expr) (word : Word) → option_and_then (answered asked) (known Value expr) ≡ Some word → Parts steps (expr ∷ []) (ValueOf expr ∷ Answer asked ∷ []) [] word
    answer_parts steps less asked expr word is =
        let found = some_then (answered asked) (known Value expr) word is in
        one_part steps Value expr (Answer asked) found.0 word (works Value expr found.0 found.1) (omega arith)
        (λ tasks operands memory choices. ap (λ (at : Word). Went (At tasks (at ∷ operands) memory) choices) (answered_word memory asked found.0 word found.2))

    applied_parts : (op : UnaryOp) (arg : t.Expr) (word : Word) → option_and_then (applied_to op (value_kind t arg)) (known Value arg) ≡ Some word → Parts 3 (arg ∷ []) (ValueOf arg ∷ Apply op (value_kind t arg) ∷ []) [] word
    applied_parts op arg word is =
        let found = some_then (applied_to op (value_kind t arg)) (known Value arg) word is in
        one_part 3 Value arg (Apply op (value_kind t arg)) found.0 word (works Value arg found.0 found.1) (omega arith)
        (λ tasks operands memory choices. ap (λ (at : Option Word). or_stuck at (At tasks operands memory) choices) (applied_word memory op (value_kind t arg) found.0 word found.2))

    -- what is behind the first part of `&&`, `||` and `?:`: a step alone, or one and a part
    decided : (steps : ℕ) (test : t.Expr) (others : List t.Expr) (task : TaskIn t) (before word : Word) (one : Works Value test before) (behind : ℕ) (front : List (TaskIn t)) (parts : Parts behind others front [] word) →
        4 + 4 * one.count + (1 + (behind + 4 * parts.count)) ≤ steps + 4 * (suc one.count + parts.count) →
        ((tasks : List (TaskIn t)) (operands : List Word) (memory : List Block) (choices : List Choice) → step t (At (task ∷ tasks) (before ∷ operands) memory) choices ≡ Went (At (front ++ tasks) operands memory) choices) →
        Parts steps (test ∷ others) (ValueOf test ∷ task ∷ []) [] word
    decided steps test others task before word one behind front parts less goes = record {
      count = suc one.count + parts.count;
      weigh = (suc one.count, parts.count, one.weighs, parts.weigh, refl);
      takes = λ tasks operands memory.
          takes_less t (4 + 4 * one.count + suc (behind + 4 * parts.count)) (steps + 4 * (suc one.count + parts.count)) (At (ValueOf test ∷ task ∷ tasks) operands memory) (At tasks (word ∷ operands) memory) (omega arith)
          (takes_both t (4 + 4 * one.count) (suc (behind + 4 * parts.count)) (At (ValueOf test ∷ task ∷ tasks) operands memory) (At (task ∷ tasks) (before ∷ operands) memory) (At tasks (word ∷ operands) memory)
          (one.takes (task ∷ tasks) operands memory)
          (first_step task tasks (before ∷ operands) memory (At (front ++ tasks) operands memory) (At tasks (word ∷ operands) memory) (behind + 4 * parts.count) (goes tasks operands memory) (parts.takes tasks operands memory)));
    }

    -- parts that are not worked out
    left_out : (parts : List t.Expr) → AllWeigh Weighs parts 0
    left_out [] = refl
    left_out (part ∷ parts) = (0, 0, nothing part, left_out parts, refl)

    -- a step behind the first part, which decides alone
    decided_alone : (test : t.Expr) (others : List t.Expr) (task : TaskIn t) (before word : Word) (one : Works Value test before) →
        ((tasks : List (TaskIn t)) (operands : List Word) (memory : List Block) (choices : List Choice) → step t (At (task ∷ tasks) (before ∷ operands) memory) choices ≡ Went (At tasks (word ∷ operands) memory) choices) →
        Parts 3 (test ∷ others) (ValueOf test ∷ task ∷ []) [] word
    decided_alone test others task before word one goes = record {
      count = suc one.count + 0;
      weigh = (suc one.count, 0, one.weighs, left_out others, refl);
      takes = λ tasks operands memory.
          takes_less t (4 + 4 * one.count + 1) (3 + 4 * (suc one.count + 0)) (At (ValueOf test ∷ task ∷ tasks) operands memory) (At tasks (word ∷ operands) memory) (omega arith)
          (takes_both t (4 + 4 * one.count) 1 (At (ValueOf test ∷ task ∷ tasks) operands memory) (At (task ∷ tasks) (before ∷ operands) memory) (At tasks (word ∷ operands) memory)
          (one.takes (task ∷ tasks) operands memory) (gives task tasks (before ∷ operands) (word ∷ operands) memory (goes tasks operands memory)));
    }

    and_parts_of : (left right : t.Expr) (one : Option Word) (word : Word) → known Value left ≡ one → and_then (option_and_then truth_of one) (option_and_then (answered true) (known Value right)) ≡ Some word →
        Parts 3 (left ∷ right ∷ []) (ValueOf left ∷ AndThen right ∷ []) [] word
    and_parts_of left right None word here is = absurd (none-some word is)
    and_parts_of left right (Some before) word here is = by_truth (truth_of before) refl is
      where
        by_truth : (truth : Option Bool) → truth_of before ≡ truth → and_then truth (option_and_then (answered true) (known Value right)) ≡ Some word → Parts 3 (left ∷ right ∷ []) (ValueOf left ∷ AndThen right ∷ []) [] word
        by_truth None there is' = absurd (none-some word is')
        by_truth (Some true) there is' =
            let parts = answer_parts 1 (omega arith) true right word is' in
            decided 3 left (right ∷ []) (AndThen right) before word (works Value left before here) 1 (ValueOf right ∷ Answer true ∷ []) parts (omega arith)
            (λ tasks operands memory choices. ap (λ (holds : Bool). machine.and_then holds (ValueOf right ∷ Answer true ∷ []) (At tasks operands memory) choices) (truth_word memory before true there))
        by_truth (Some false) there is' =
            decided_alone left (right ∷ []) (AndThen right) before word (works Value left before here)
            (λ tasks operands memory choices. ap (λ (holds : Bool). machine.and_then holds (ValueOf right ∷ Answer true ∷ []) (At tasks operands memory) choices) (truth_word memory before false there)
            ∙ ap (λ (at : Word). Went (At tasks (at ∷ operands) memory) choices) (same_Some (Plain 0) word is'))

    or_parts_of : (left right : t.Expr) (one : Option Word) (word : Word) → known Value left ≡ one → or_else (option_and_then truth_of one) (option_and_then (answered true) (known Value right)) ≡ Some word →
        Parts 3 (left ∷ right ∷ []) (ValueOf left ∷ OrElse right ∷ []) [] word
    or_parts_of left right None word here is = absurd (none-some word is)
    or_parts_of left right (Some before) word here is = by_truth (truth_of before) refl is
      where
        by_truth : (truth : Option Bool) → truth_of before ≡ truth → or_else truth (option_and_then (answered true) (known Value right)) ≡ Some word → Parts 3 (left ∷ right ∷ []) (ValueOf left ∷ OrElse right ∷ []) [] word
        by_truth None there is' = absurd (none-some word is')
        by_truth (Some false) there is' =
            let parts = answer_parts 1 (omega arith) true right word is' in
            decided 3 left (right ∷ []) (OrElse right) before word (works Value left before here) 1 (ValueOf right ∷ Answer true ∷ []) parts (omega arith)
            (λ tasks operands memory choices. ap (λ (holds : Bool). machine.or_else holds (ValueOf right ∷ Answer true ∷ []) (At tasks operands memory) choices) (truth_word memory before false there))
        by_truth (Some true) there is' =
            decided_alone left (right ∷ []) (OrElse right) before word (works Value left before here)
            (λ tasks operands memory choices. ap (λ (holds : Bool). machine.or_else holds (ValueOf right ∷ Answer true ∷ []) (At tasks operands memory) choices) (truth_word memory before true there)
            ∙ ap (λ (at : Word). Went (At tasks (at ∷ operands) memory) choices) (same_Some (Plain 1) word is'))

    -- the arms of `?:`, of which one is worked out
    pick_parts : (kind : Kind) (test first second : t.Expr) (one : Option Word) (word : Word) → known Value test ≡ one → picked (option_and_then truth_of one) (word_as t known first kind) (word_as t known second kind) ≡ Some word →
        Parts 3 (test ∷ first ∷ second ∷ []) (ValueOf test ∷ Pick kind first second ∷ []) [] word
    pick_parts kind test first second None word here is = absurd (none-some word is)
    pick_parts kind test first second (Some before) word here is = by_truth (truth_of before) refl is
      where
        by_truth : (truth : Option Bool) → truth_of before ≡ truth → picked truth (word_as t known first kind) (word_as t known second kind) ≡ Some word →
            Parts 3 (test ∷ first ∷ second ∷ []) (ValueOf test ∷ Pick kind first second ∷ []) [] word
        by_truth None there is' = absurd (none-some word is')
        by_truth (Some true) there is' =
            let parts = word_parts 1 (omega arith) first kind word is' in
            decided 3 test (first ∷ second ∷ []) (Pick kind first second) before word (works Value test before here) 1 (ValueOf first ∷ Convert (value_kind t first) kind ∷ [])
            (record { count = parts.count; weigh = (parts.weigh.0, 0, parts.weigh.2, left_out (second ∷ []), (let none = parts.weigh.3 in let all = parts.weigh.4 in let e : parts.count ≡ parts.weigh.0 + 0 = omega (arith, none, all) in e)); takes = parts.takes }) (omega arith)
            (λ tasks operands memory choices. ap (λ (holds : Bool). Went (At ((if holds then arm t kind first else arm t kind second) ++ tasks) operands memory) choices) (truth_word memory before true there))
        by_truth (Some false) there is' =
            let parts = word_parts 1 (omega arith) second kind word is' in
            decided 3 test (first ∷ second ∷ []) (Pick kind first second) before word (works Value test before here) 1 (ValueOf second ∷ Convert (value_kind t second) kind ∷ [])
            (record { count = parts.count; weigh = (0, parts.count, nothing first, parts.weigh, (let e : parts.count ≡ 0 + parts.count = omega arith in e)); takes = parts.takes }) (omega arith)
            (λ tasks operands memory choices. ap (λ (holds : Bool). Went (At ((if holds then arm t kind first else arm t kind second) ++ tasks) operands memory) choices) (truth_word memory before false there))

    binary_worked : (op : BinaryOp) (left right : t.Expr) (word : Word) → binary_word t known op left right ≡ Some word → Parts 3 (left ∷ right ∷ []) (binary_parts t op left right) [] word
    binary_worked Both left right word is = and_parts_of left right (known Value left) word refl is
    binary_worked Either left right word is = or_parts_of left right (known Value left) word refl is
    binary_worked Comma left right word is = absurd (none-some word is)
    binary_worked op left right word is = operated_parts 3 (omega arith) op left right word is

    value_worked : (expr : t.Expr) (form : Form t.Expr t.Stmt) → t.form expr ≡ form → (word : Word) → value_word t names known expr form ≡ Some word → Works Value expr word
    value_worked expr NameForm form word is = name_worked expr form (t.stands expr) refl word is
    value_worked expr (Known bits) form word is = unfolded expr (Known bits) word form (by_bits bits is)
      where
        by_bits : (bits : Option ℕ) → option_map Plain bits ≡ Some word → Parts 3 [] (machine_known t bits) [] word
        by_bits (Some number) is' =
            alone 3 (Push number) word (omega arith) (λ tasks operands memory choices. ap (λ (at : Word). Went (At tasks (at ∷ operands) memory) choices) (same_Some (Plain number) word is'))
        by_bits None is' = absurd (none-some word is')
    value_worked expr (Unary Address arg) form word is = unfolded expr (Unary Address arg) word form (same_part 3 PlaceAsked arg word (works PlaceAsked arg word is) (omega arith))
    value_worked expr (Unary Follow arg) form word is =
        loaded_worked expr (Unary Follow arg) (known PlaceAsked expr) word form refl is (works PlaceAsked expr word (array_at (t.kind expr) (known PlaceAsked expr) word is))
    value_worked expr (Unary Not arg) form word is = unfolded expr (Unary Not arg) word form (answer_parts 3 (omega arith) false arg word is)
    value_worked expr (Unary op arg) form word is = unfolded expr (Unary op arg) word form (applied_parts op arg word is)
    value_worked expr (Binary op left right) form word is = unfolded expr (Binary op left right) word form (binary_worked op left right word is)
    value_worked expr (Choose test one other) form word is = unfolded expr (Choose test one other) word form (pick_parts (value_kind t expr) test one other (known Value test) word refl is)
    value_worked expr (Cast arg) form word is = unfolded expr (Cast arg) word form (word_parts 3 (omega arith) arg (t.kind expr) word is)
    value_worked expr (Index base index) form word is =
        loaded_worked expr (Index base index) (known PlaceAsked expr) word form refl is (works PlaceAsked expr word (array_at (t.kind expr) (known PlaceAsked expr) word is))
    value_worked expr (Member base offset through) form word is =
        loaded_worked expr (Member base offset through) (known PlaceAsked expr) word form refl is (works PlaceAsked expr word (array_at (t.kind expr) (known PlaceAsked expr) word is))
    value_worked expr other form word is = absurd (none-some word is)

    shift_parts : (asked : Asked) (base : t.Expr) (offset : ℕ) (word : Word) → option_map (λ at. moved at (pos offset)) (known asked base) ≡ Some word → Parts 1 (base ∷ []) (asks asked base ∷ Shift offset ∷ []) [] word
    shift_parts asked base offset word is =
        let found = some_map (λ (at : Word). moved at (pos offset)) (known asked base) word is in
        let one = works asked base found.0 found.1 in
        one_part 1 asked base (Shift offset) found.0 word one (few asked one.count) (λ tasks operands memory choices. ap (λ (at : Word). Went (At tasks (at ∷ operands) memory) choices) found.2)
      where
        few : (asked' : Asked) (count : ℕ) → bound asked' count + 1 ≤ 1 + 4 * suc count
        few Value count = omega arith
        few PlaceAsked count = omega arith

    place_worked : (expr : t.Expr) (form : Form t.Expr t.Stmt) → t.form expr ≡ form → (word : Word) → place_word t names known expr form ≡ Some word → Works PlaceAsked expr word
    place_worked expr NameForm form word is = name_place expr form word is
    place_worked expr (Unary Follow arg) form word is = unfolded_place expr (Unary Follow arg) word form (same_part 1 Value arg word (works Value arg word is) (omega arith))
    place_worked expr (Index base index) form word is = unfolded_place expr (Index base index) word form (operated_parts 1 (omega arith) Add base index word is)
    place_worked expr (Member base offset false) form word is = unfolded_place expr (Member base offset false) word form (shift_parts PlaceAsked base offset word is)
    place_worked expr (Member base offset true) form word is = unfolded_place expr (Member base offset true) word form (shift_parts Value base offset word is)
    place_worked expr other form word is = absurd (none-some word is)

    -- a value of an initialiser, as one of its kind
    pub record Comes (expr : t.Expr) (kind : Kind) (word : Word) : Type 0 where
      pub count : ℕ
      pub weighs : Weighs expr (suc count)
      pub takes : (tasks : List (TaskIn t)) (operands : List Word) (memory : List Block) → Takes t (5 + 4 * count) (At (ValueOf expr ∷ Convert (value_kind t expr) kind ∷ tasks) operands memory) (At tasks (word ∷ operands) memory)

    pub word_worked : (expr : t.Expr) (kind : Kind) (word : Word) → word_as t known expr kind ≡ Some word → Comes expr kind word
    word_worked expr kind word is =
        let found = some_then (converted_to (value_kind t expr) kind) (known Value expr) word is in
        let one = works Value expr found.0 found.1 in
        let last : TaskIn t = Convert (value_kind t expr) kind in
        record {
          count = one.count;
          weighs = one.weighs;
          takes = λ tasks operands memory.
              takes_less t (4 + 4 * one.count + 1) (5 + 4 * one.count) (At (ValueOf expr ∷ last ∷ tasks) operands memory) (At tasks (word ∷ operands) memory) (omega arith)
              (takes_both t (4 + 4 * one.count) 1 (At (ValueOf expr ∷ last ∷ tasks) operands memory) (At (last ∷ tasks) (found.0 ∷ operands) memory) (At tasks (word ∷ operands) memory)
              (one.takes (last ∷ tasks) operands memory)
              (gives last tasks (found.0 ∷ operands) (word ∷ operands) memory
              (λ choices. ap (λ (at : Word). Went (At tasks (at ∷ operands) memory) choices) (converted_word memory (value_kind t expr) kind found.0 word found.2))));
        }

  -- within so many levels
  pub known_worked : (levels : ℕ) → AreWorked (known_word levels t names)
  known_worked zero asked expr word is = absurd (none-some word is)
  known_worked (suc levels) Value expr word is = value_worked (known_word levels t names) (known_worked levels) expr (t.form expr) refl word is
  known_worked (suc levels) PlaceAsked expr word is = place_worked (known_word levels t names) (known_worked levels) expr (t.form expr) refl word is
