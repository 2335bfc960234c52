-- What is placed for a call, whatever is called, where its value is used and where it is not.
use Rattle.std.proofs.Common.{◌≡◌, ℕ, max, List, [], ◌∷◌, ◌++◌, length, Bool, true, false, not, ◌&&◌, nat_eq, refl, sym, ◌∙◌, arith, subst, append_assoc, Option, None, Some, slice_get, if◌then◌else◌}
use Rattle.std.specs.List.{list_all}
use Rattle.std.proofs.lemmas.Bool.{false≢true, and_parts}
use Rattle.cbase.specs.declared.place.Place.{Place}
use Rattle.c_machine.specs.declared.built_in.BuiltIn.{BuiltIn}
use Rattle.c_machine.specs.declared.built_in.BuiltIn.TheVariants.{Malloc, Calloc, Free, Memset, Memcpy, Memmove, EndsRun, Assume, Expect, GivesInput}
use Rattle.c_machine.specs.declared.kind.Kind.{Kind}
use Rattle.c_machine.specs.declared.kind.Kind.TheVariants.{Integer, Pointer, Array, Struct, Void}
use Rattle.c_machine.specs.declared.task.Task.TheVariants.{ValueOf, RunBuiltIn}
use Rattle.c_machine.specs.Text.{Standing, ObjectStands, ConstantStands, BuiltInStands, BodyStands, NothingStands, Form, Call, Function, Text}
use Rattle.c_machine.specs.State.{TaskIn}
use Rattle.c_machine.specs.Expressions.{value_kind, value_parts, argument_tasks, call_parts, body_call, built_in}
use Rattle.flow.specs.declared.flow_graph.Flow.{Flow}
use Rattle.simulation.specs.Running.{Setting, Running}
use Rattle.simulation.specs.Slots.{Slot, InRegister, KnownAs, Gone}
use Rattle.simulation.specs.Lowered.{Stop, Values}
use Rattle.lowering.specs.Kinds.{width, is_void, is_address, fits}
use Rattle.lowering.specs.Known.{size_as, product_as}
use Rattle.lowering.specs.LetGo.{left_as, left_by_arguments, left_by_built_in, left_by_body, left_by_call, left_by_value, leaves_nothing, fills as fills_here, fills_by, left_of}
use Rattle.lowering.specs.Moves.{Fails}
use Rattle.lowering.specs.Table.{gives, have_values, built_in_line, body_line, call_line, result_of, kind_made, is_made, void_line}
use Rattle.lowering.specs.Placing.{Made, Around, with_registers, stands_at, along_line, place_value_form, go}
use Rattle.lowering.proofs.KindFacts.{IsAsPlain, of_address, address_width, fitted, not_holds, let_go}
use Rattle.lowering.proofs.Modes.{IsAround, Rest, Ready, ConvertIs}
use Rattle.lowering.proofs.Placings.{IsSpelled, spelled_registers}
use Rattle.lowering.proofs.Ready.{IsTarget, never}
use Rattle.lowering.proofs.SpellingArguments.{max_first, max_second}
use Rattle.lowering.proofs.SpellingBuiltIns.{free_form, assume_form, input_form, ends_form, expect_form}
use Rattle.lowering.proofs.SpellingMemory.{malloc_form, calloc_form, memset_form, copies_form}
use Rattle.lowering.proofs.SpellingCalls.{given_of, given_in, body_form}

void_address : (kind : Kind) → is_address kind ≡ true → is_void kind ≡ false
void_address (Integer of) is = refl
void_address (Pointer item) is = refl
void_address (Array item) is = refl
void_address (Struct size) is = refl
void_address Void is = absurd (false≢true is)

-- what is made as an address is asked for as one
asked_address : (made asked : Kind) → fits made asked ≡ true → is_void asked ≡ false → is_address made ≡ true → is_address asked ≡ true
asked_address made asked fit valued address = by_test (is_address asked) refl
  where
    by_test : (is : Bool) → is_address asked ≡ is → is ≡ true
    by_test true is = refl
    by_test false is = absurd (false≢true (sym ((fitted made asked fit valued).1 is) ∙ address))

-- what is made as a value is asked for as one
asked_value : (made asked : Kind) → fits made asked ≡ true → is_void asked ≡ false → is_void made ≡ false
asked_value (Integer of) asked fit valued = refl
asked_value (Pointer item) asked fit valued = refl
asked_value (Array item) asked fit valued = refl
asked_value (Struct size) asked fit valued = refl
asked_value Void asked fit valued = absurd (false≢true (sym valued ∙ fit))

void_by : (void : Bool) → (void ≡ false → false ≡ true) → void ≡ true
void_by true fills = refl
void_by false fills = fills refl

void_kind : (kind : Kind) → is_void kind ≡ true → kind ≡ Void
void_kind (Integer of) is = absurd (false≢true is)
void_kind (Pointer item) is = absurd (false≢true is)
void_kind (Array item) is = absurd (false≢true is)
void_kind (Struct size) is = absurd (false≢true is)
void_kind Void is = refl

first_valued : (param : Kind) (params : List Kind) → have_values (param ∷ params) ≡ true → is_void param ≡ false
first_valued param params is = not_holds (is_void param) (and_parts (not (is_void param)) (list_all (λ one. not (is_void one)) params) is).0

module _ (t : Text) (flow : Flow) (setting : Setting) (running : Running) where
  abbrev Goes : Around → List (Stop t) → List (Stop t) → List (TaskIn t) → List Slot → ℕ → Type 0
  Goes around now later tasks slots point = Rest t flow setting running around now later tasks slots point

  abbrev Wanted : Around → List (Stop t) → List (Stop t) → List (TaskIn t) → List Slot → ℕ → ℕ → Kind → Type 0
  Wanted around now later tasks slots into to kind =
      (plain : Bool) → IsAsPlain kind plain → Rest t flow setting running around (later ++ now) [] tasks (InRegister into (width kind) plain ∷ slots) to

  -- each function that the program defines is called by its number, and gives what its result is
  abbrev pub AreCalled : Type 0
  AreCalled = (number : ℕ) (function : Function t.Stmt) → slice_get t.functions number ≡ Some function → (setting.called number ≡ Some number) × (setting.gives number ≡ given_of function.result)

  -- an address is wanted of any kind that an address fits
  address_wanted : (around : Around) (now later : List (Stop t)) (tasks : List (TaskIn t)) (slots : List Slot) (into to : ℕ) (result kind : Kind) → fits result kind ≡ true → is_void kind ≡ false → is_address result ≡ true →
      Wanted around now later tasks slots into to kind → (plain : Bool) → Goes around (later ++ now) [] tasks (InRegister into 8 plain ∷ slots) to
  address_wanted around now later tasks slots into to result kind fit valued address cont plain =
      let asked = asked_address result kind fit valued address in
      subst (λ (n : ℕ). Goes around (later ++ now) [] tasks (InRegister into n plain ∷ slots) to) (address_width kind asked) (cont plain (of_address kind plain asked))

  -- and what a function makes
  given_wanted : (around : Around) (now later : List (Stop t)) (tasks : List (TaskIn t)) (slots : List Slot) (into to : ℕ) (result kind : Kind) → fits result kind ≡ true → is_void kind ≡ false →
      Wanted around now later tasks slots into to kind → Goes around (later ++ now) [] tasks (given_in result into ∷ slots) to
  given_wanted around now later tasks slots into to (Integer of) kind fit valued cont =
      subst (λ (n : ℕ). Goes around (later ++ now) [] tasks (InRegister into n true ∷ slots) to) (sym (fitted (Integer of) kind fit valued).0) (cont true (λ number. refl))
  given_wanted around now later tasks slots into to (Pointer item) kind fit valued cont = address_wanted around now later tasks slots into to (Pointer item) kind fit valued refl cont false
  given_wanted around now later tasks slots into to (Array item) kind fit valued cont = address_wanted around now later tasks slots into to (Array item) kind fit valued refl cont false
  given_wanted around now later tasks slots into to (Struct size) kind fit valued cont = address_wanted around now later tasks slots into to (Struct size) kind fit valued refl cont false
  given_wanted around now later tasks slots into to Void kind fit valued cont = absurd (false≢true (sym (asked_value Void kind fit valued)))

  -- a function that is built in, whose value is used
  abbrev ValueOfBuiltIn : ℕ → BuiltIn → Type 0
  ValueOfBuiltIn levels what =
      (around : Around) → IsAround setting around → (args : List t.Expr) (params : List Kind) (result kind : Kind) → gives what params result ≡ true → fits result kind ≡ true → is_void kind ≡ false →
      (made : Made) (from spare into : ℕ) (place : Place) (to : ℕ) →
      IsSpelled flow made from (along_line t around (go levels t around) made from (built_in_line t what args params result spare (Some into) made.registers place) to) →
      (now later : List (Stop t)) (tasks : List (TaskIn t)) (slots : List Slot) (base : ℕ) →
      Ready t flow setting running around now later tasks base made.registers slots spare (left_by_built_in t (left_of t) what args params (nat_eq into spare)) →
      IsTarget made.registers slots base spare (left_by_built_in t (left_of t) what args params (nat_eq into spare)) into → Wanted around now later tasks slots into to kind →
      Goes around now later ((argument_tasks t args params ++ RunBuiltIn what place result ∷ []) ++ tasks) slots from

  abbrev fails_here : {A : Type 0} (levels : ℕ) (around : Around) (made : Made) (from to : ℕ) → IsSpelled flow made from (along_line t around (go levels t around) made from (record { registers = 0; moves = Fails ∷ [] }) to) → A
  fails_here levels around made from to spelled = never t flow setting running levels around (with_registers 0 made) from to (spelled_registers 0 spelled)

  malloc_value : (levels : ℕ) → ValueOfBuiltIn levels Malloc
  malloc_value levels around good (size ∷ []) (param ∷ []) result kind given fit valued made from spare into place to spelled now later tasks slots base ready target cont =
      malloc_form t flow setting running levels around (with_registers 0 made) from into size param result place to (size_as t size param) refl (spelled_registers 0 spelled) now later tasks slots ready.whole target.free
      (address_wanted around now later tasks slots into to result kind fit valued given cont false)
  malloc_value levels around good args params result kind given fit valued made from spare into place to spelled now later tasks slots base ready target cont = fails_here levels around made from to spelled

  calloc_value : (levels : ℕ) → ValueOfBuiltIn levels Calloc
  calloc_value levels around good (count ∷ size ∷ []) (param ∷ param' ∷ []) result kind given fit valued made from spare into place to spelled now later tasks slots base ready target cont =
      calloc_form t flow setting running levels around (with_registers 0 made) from into count size param param' result place to (product_as t count param size param') refl (spelled_registers 0 spelled) now later tasks slots ready.whole
      target.free (address_wanted around now later tasks slots into to result kind fit valued given cont false)
  calloc_value levels around good args params result kind given fit valued made from spare into place to spelled now later tasks slots base ready target cont = fails_here levels around made from to spelled

  -- what a fill and a copy ask of the first two parameters and of the result
  given_parts : (param param' : Kind) (params : List Kind) (result : Kind) → (is_address param && (have_values (param' ∷ params) && is_address result)) ≡ true →
      (is_address param ≡ true) × (is_void param' ≡ false) × (is_address result ≡ true)
  given_parts param param' params result is =
      let one = and_parts (is_address param) (have_values (param' ∷ params) && is_address result) is in
      let two = and_parts (have_values (param' ∷ params)) (is_address result) one.1 in
      (one.0, first_valued param' params two.0, two.1)

  memset_value : (levels : ℕ) → ConvertIs t flow setting running levels → ValueOfBuiltIn levels Memset
  memset_value levels convert around good (at ∷ byte ∷ count ∷ []) (param ∷ param' ∷ param'' ∷ []) result kind given fit valued made from spare into place to spelled now later tasks slots base ready target cont =
      let parts = given_parts param param' (param'' ∷ []) result given in
      let one : ℕ = left_as t (left_of t) at false param in
      let other : ℕ = left_as t (left_of t) byte false param' in
      memset_form t flow setting running levels convert around good made from at param byte param' count param'' result spare (Some into) place to (size_as t count param'') refl (void_address param parts.0) parts.1 spelled now later tasks slots
      (target.within, target.free) base (max one other) ready (max_first one other (max one other) (omega arith)) (max_second one other (max one other) (omega arith))
      (λ plain. subst (λ (n : ℕ). Goes around (later ++ now) [] tasks (InRegister into n plain ∷ slots) to) (sym (address_width param parts.0)) (address_wanted around now later tasks slots into to result kind fit valued parts.2 cont plain))
  memset_value levels convert around good args params result kind given fit valued made from spare into place to spelled now later tasks slots base ready target cont = fails_here levels around made from to spelled

  memcpy_value : (levels : ℕ) → ConvertIs t flow setting running levels → ValueOfBuiltIn levels Memcpy
  memcpy_value levels convert around good (at ∷ other ∷ count ∷ []) (param ∷ param' ∷ param'' ∷ []) result kind given fit valued made from spare into place to spelled now later tasks slots base ready target cont =
      let parts = given_parts param param' (param'' ∷ []) result given in
      let first : ℕ = left_as t (left_of t) at false param in
      let second : ℕ = left_as t (left_of t) other false param' in
      copies_form t flow setting running levels convert around good made from true at param other param' count param'' result spare (Some into) place to (size_as t count param'') refl (void_address param parts.0) parts.1 spelled now later tasks slots
      (target.within, target.free) base (max first second) ready (max_first first second (max first second) (omega arith)) (max_second first second (max first second) (omega arith))
      (λ plain. subst (λ (n : ℕ). Goes around (later ++ now) [] tasks (InRegister into n plain ∷ slots) to) (sym (address_width param parts.0)) (address_wanted around now later tasks slots into to result kind fit valued parts.2 cont plain))
  memcpy_value levels convert around good args params result kind given fit valued made from spare into place to spelled now later tasks slots base ready target cont = fails_here levels around made from to spelled

  memmove_value : (levels : ℕ) → ConvertIs t flow setting running levels → ValueOfBuiltIn levels Memmove
  memmove_value levels convert around good (at ∷ other ∷ count ∷ []) (param ∷ param' ∷ param'' ∷ []) result kind given fit valued made from spare into place to spelled now later tasks slots base ready target cont =
      let parts = given_parts param param' (param'' ∷ []) result given in
      let first : ℕ = left_as t (left_of t) at false param in
      let second : ℕ = left_as t (left_of t) other false param' in
      copies_form t flow setting running levels convert around good made from false at param other param' count param'' result spare (Some into) place to (size_as t count param'') refl (void_address param parts.0) parts.1 spelled now later tasks slots
      (target.within, target.free) base (max first second) ready (max_first first second (max first second) (omega arith)) (max_second first second (max first second) (omega arith))
      (λ plain. subst (λ (n : ℕ). Goes around (later ++ now) [] tasks (InRegister into n plain ∷ slots) to) (sym (address_width param parts.0)) (address_wanted around now later tasks slots into to result kind fit valued parts.2 cont plain))
  memmove_value levels convert around good args params result kind given fit valued made from spare into place to spelled now later tasks slots base ready target cont = fails_here levels around made from to spelled

  ends_value : (levels : ℕ) → ConvertIs t flow setting running levels → ValueOfBuiltIn levels EndsRun
  ends_value levels convert around good args params result kind given fit valued made from spare into place to spelled now later tasks slots base ready target cont =
      let r : ℕ = made.registers in
      subst (λ (list : List (TaskIn t)). Goes around now later list slots from) (sym (append_assoc (argument_tasks t args params) (RunBuiltIn EndsRun place result ∷ []) tasks))
      (ends_form t flow setting running levels convert around good args params result (with_registers (length args) made) from spare r to (stands_at (with_registers (length args) made) from) place (spelled_registers (length args) spelled)
      now later tasks slots base (left_by_arguments t (left_of t) args params) ready (omega arith) (omega arith))

  expect_value : (levels : ℕ) → ConvertIs t flow setting running levels → ValueOfBuiltIn levels Expect
  expect_value levels convert around good (arg ∷ expected ∷ []) (param ∷ param' ∷ []) result kind given fit valued made from spare into place to spelled now later tasks slots base ready target cont =
      let made_valued = asked_value result kind fit valued in
      let first = fitted param result given made_valued in
      let second = fitted result kind fit valued in
      expect_form t flow setting running levels convert around good made from arg param expected param' result spare into place to (asked_value param result given made_valued) spelled now later tasks slots base ready target
      (λ plain number. subst (λ (n : ℕ). Goes around (later ++ now) [] tasks (InRegister into n plain ∷ slots) to) (sym (first.0 ∙ second.0)) (cont plain (λ asked. number (first.1 (second.1 asked)))))
  expect_value levels convert around good args params result kind given fit valued made from spare into place to spelled now later tasks slots base ready target cont = fails_here levels around made from to spelled

  input_value : (levels : ℕ) → ValueOfBuiltIn levels GivesInput
  input_value levels around good [] [] result kind given fit valued made from spare into place to spelled now later tasks slots base ready target cont =
      input_form t flow setting running levels around made from into result spare place to spelled now later tasks slots target.free
      (subst (λ (n : ℕ). Goes around (later ++ now) [] tasks (InRegister into n true ∷ slots) to) (sym (fitted result kind fit valued).0) (cont true (λ number. refl)))
  input_value levels around good args params result kind given fit valued made from spare into place to spelled now later tasks slots base ready target cont = fails_here levels around made from to spelled

  -- what has no value is not used as one
  void_never : {A : Type 0} (params : List Kind) (result kind : Kind) → (have_values params && is_void result) ≡ true → fits result kind ≡ true → is_void kind ≡ false → A
  void_never params result kind given fit valued = absurd (false≢true (sym (asked_value result kind fit valued) ∙ (and_parts (have_values params) (is_void result) given).1))

  free_value : (levels : ℕ) → ValueOfBuiltIn levels Free
  free_value levels around good args params result kind given fit valued made from spare into place to spelled now later tasks slots base ready target cont = void_never params result kind given fit valued

  assume_value : (levels : ℕ) → ValueOfBuiltIn levels Assume
  assume_value levels around good args params result kind given fit valued made from spare into place to spelled now later tasks slots base ready target cont = void_never params result kind given fit valued

  built_in_value : (levels : ℕ) → ConvertIs t flow setting running levels → (what : BuiltIn) → ValueOfBuiltIn levels what
  built_in_value levels convert Malloc = malloc_value levels
  built_in_value levels convert Calloc = calloc_value levels
  built_in_value levels convert Free = free_value levels
  built_in_value levels convert Memset = memset_value levels convert
  built_in_value levels convert Memcpy = memcpy_value levels convert
  built_in_value levels convert Memmove = memmove_value levels convert
  built_in_value levels convert EndsRun = ends_value levels convert
  built_in_value levels convert Assume = assume_value levels
  built_in_value levels convert Expect = expect_value levels convert
  built_in_value levels convert GivesInput = input_value levels

  -- a function that is built in, whose value is not used: it has none, or it leaves no register
  abbrev WorkOfBuiltIn : ℕ → BuiltIn → Type 0
  WorkOfBuiltIn levels what =
      (around : Around) → IsAround setting around → (args : List t.Expr) (params : List Kind) (result kind : Kind) → gives what params result ≡ true → (is_void kind ≡ true → is_void result ≡ true) →
      (is_void kind ≡ false → fills_here what ≡ true) → (made : Made) (from spare : ℕ) (place : Place) (to : ℕ) →
      IsSpelled flow made from (along_line t around (go levels t around) made from (built_in_line t what args params result spare None made.registers place) to) →
      (now later : List (Stop t)) (tasks : List (TaskIn t)) (slots : List Slot) (base : ℕ) →
      Ready t flow setting running around now later tasks base made.registers slots spare (left_by_built_in t (left_of t) what args params false) →
      Goes around (later ++ now) [] tasks (let_go kind ∷ slots) to →
      Goes around now later ((argument_tasks t args params ++ RunBuiltIn what place result ∷ []) ++ tasks) slots from

  -- behind what has no value the machine holds a 0
  zero_goes : (around : Around) (now later : List (Stop t)) (tasks : List (TaskIn t)) (slots : List Slot) (to : ℕ) (kind : Kind) → (is_void kind ≡ false → false ≡ true) → Goes around now later tasks (let_go kind ∷ slots) to →
      Goes around now later tasks (KnownAs 0 ∷ slots) to
  zero_goes around now later tasks slots to (Integer of) never_valued cont = absurd (false≢true (never_valued refl))
  zero_goes around now later tasks slots to (Pointer item) never_valued cont = absurd (false≢true (never_valued refl))
  zero_goes around now later tasks slots to (Array item) never_valued cont = absurd (false≢true (never_valued refl))
  zero_goes around now later tasks slots to (Struct size) never_valued cont = absurd (false≢true (never_valued refl))
  zero_goes around now later tasks slots to Void never_valued cont = cont

  gone_goes : (around : Around) (now later : List (Stop t)) (tasks : List (TaskIn t)) (slots : List Slot) (to : ℕ) (result kind : Kind) → (is_void kind ≡ true → is_void result ≡ true) → is_address result ≡ true →
      Goes around now later tasks (let_go kind ∷ slots) to → Goes around now later tasks (Gone ∷ slots) to
  gone_goes around now later tasks slots to result (Integer of) void address cont = cont
  gone_goes around now later tasks slots to result (Pointer item) void address cont = cont
  gone_goes around now later tasks slots to result (Array item) void address cont = cont
  gone_goes around now later tasks slots to result (Struct size) void address cont = cont
  gone_goes around now later tasks slots to result Void void address cont = absurd (false≢true (sym (void_address result address) ∙ void refl))

  malloc_work : (levels : ℕ) → WorkOfBuiltIn levels Malloc
  malloc_work levels around good (size ∷ []) (param ∷ []) result kind given void fills made from spare place to spelled now later tasks slots base ready cont = fails_here levels around made from to spelled
  malloc_work levels around good args params result kind given void fills made from spare place to spelled now later tasks slots base ready cont = fails_here levels around made from to spelled

  calloc_work : (levels : ℕ) → WorkOfBuiltIn levels Calloc
  calloc_work levels around good (count ∷ size ∷ []) (param ∷ param' ∷ []) result kind given void fills made from spare place to spelled now later tasks slots base ready cont = fails_here levels around made from to spelled
  calloc_work levels around good args params result kind given void fills made from spare place to spelled now later tasks slots base ready cont = fails_here levels around made from to spelled

  free_work : (levels : ℕ) → ConvertIs t flow setting running levels → WorkOfBuiltIn levels Free
  free_work levels convert around good (arg ∷ []) (param ∷ []) result kind given void fills made from spare place to spelled now later tasks slots base ready cont =
      free_form t flow setting running levels convert around good made from arg param result spare None place to (first_valued param [] (and_parts (have_values (param ∷ [])) (is_void result) given).0) spelled now later tasks slots base ready
      (zero_goes around (later ++ now) [] tasks slots to kind fills cont)
  free_work levels convert around good args params result kind given void fills made from spare place to spelled now later tasks slots base ready cont = fails_here levels around made from to spelled

  assume_work : (levels : ℕ) → ConvertIs t flow setting running levels → WorkOfBuiltIn levels Assume
  assume_work levels convert around good (arg ∷ []) (param ∷ []) result kind given void fills made from spare place to spelled now later tasks slots base ready cont =
      assume_form t flow setting running levels convert around good made from arg param result spare None place to (first_valued param [] (and_parts (have_values (param ∷ [])) (is_void result) given).0) spelled now later tasks slots base ready
      (zero_goes around (later ++ now) [] tasks slots to kind fills cont)
  assume_work levels convert around good args params result kind given void fills made from spare place to spelled now later tasks slots base ready cont = fails_here levels around made from to spelled

  memset_work : (levels : ℕ) → ConvertIs t flow setting running levels → WorkOfBuiltIn levels Memset
  memset_work levels convert around good (at ∷ byte ∷ count ∷ []) (param ∷ param' ∷ param'' ∷ []) result kind given void fills made from spare place to spelled now later tasks slots base ready cont =
      let parts = given_parts param param' (param'' ∷ []) result given in
      let one : ℕ = left_as t (left_of t) at false param in
      let other : ℕ = left_as t (left_of t) byte false param' in
      memset_form t flow setting running levels convert around good made from at param byte param' count param'' result spare None place to (size_as t count param'') refl (void_address param parts.0) parts.1 spelled now later tasks slots
      tt base (max one other) ready (max_first one other (max one other) (omega arith)) (max_second one other (max one other) (omega arith)) (λ plain. gone_goes around (later ++ now) [] tasks slots to result kind void parts.2 cont)
  memset_work levels convert around good args params result kind given void fills made from spare place to spelled now later tasks slots base ready cont = fails_here levels around made from to spelled

  memcpy_work : (levels : ℕ) → ConvertIs t flow setting running levels → WorkOfBuiltIn levels Memcpy
  memcpy_work levels convert around good (at ∷ other ∷ count ∷ []) (param ∷ param' ∷ param'' ∷ []) result kind given void fills made from spare place to spelled now later tasks slots base ready cont =
      let parts = given_parts param param' (param'' ∷ []) result given in
      let first : ℕ = left_as t (left_of t) at false param in
      let second : ℕ = left_as t (left_of t) other false param' in
      copies_form t flow setting running levels convert around good made from true at param other param' count param'' result spare None place to (size_as t count param'') refl (void_address param parts.0) parts.1 spelled now later tasks slots
      tt base (max first second) ready (max_first first second (max first second) (omega arith)) (max_second first second (max first second) (omega arith)) (λ plain. gone_goes around (later ++ now) [] tasks slots to result kind void parts.2 cont)
  memcpy_work levels convert around good args params result kind given void fills made from spare place to spelled now later tasks slots base ready cont = fails_here levels around made from to spelled

  memmove_work : (levels : ℕ) → ConvertIs t flow setting running levels → WorkOfBuiltIn levels Memmove
  memmove_work levels convert around good (at ∷ other ∷ count ∷ []) (param ∷ param' ∷ param'' ∷ []) result kind given void fills made from spare place to spelled now later tasks slots base ready cont =
      let parts = given_parts param param' (param'' ∷ []) result given in
      let first : ℕ = left_as t (left_of t) at false param in
      let second : ℕ = left_as t (left_of t) other false param' in
      copies_form t flow setting running levels convert around good made from false at param other param' count param'' result spare None place to (size_as t count param'') refl (void_address param parts.0) parts.1 spelled now later tasks slots
      tt base (max first second) ready (max_first first second (max first second) (omega arith)) (max_second first second (max first second) (omega arith)) (λ plain. gone_goes around (later ++ now) [] tasks slots to result kind void parts.2 cont)
  memmove_work levels convert around good args params result kind given void fills made from spare place to spelled now later tasks slots base ready cont = fails_here levels around made from to spelled

  ends_work : (levels : ℕ) → ConvertIs t flow setting running levels → WorkOfBuiltIn levels EndsRun
  ends_work levels convert around good args params result kind given void fills made from spare place to spelled now later tasks slots base ready cont =
      let r : ℕ = made.registers in
      subst (λ (list : List (TaskIn t)). Goes around now later list slots from) (sym (append_assoc (argument_tasks t args params) (RunBuiltIn EndsRun place result ∷ []) tasks))
      (ends_form t flow setting running levels convert around good args params result (with_registers (length args) made) from spare r to (stands_at (with_registers (length args) made) from) place (spelled_registers (length args) spelled)
      now later tasks slots base (left_by_arguments t (left_of t) args params) ready (omega arith) (omega arith))

  expect_work : (levels : ℕ) → WorkOfBuiltIn levels Expect
  expect_work levels around good (arg ∷ expected ∷ []) (param ∷ param' ∷ []) result kind given void fills made from spare place to spelled now later tasks slots base ready cont = fails_here levels around made from to spelled
  expect_work levels around good args params result kind given void fills made from spare place to spelled now later tasks slots base ready cont = fails_here levels around made from to spelled

  input_work : (levels : ℕ) → WorkOfBuiltIn levels GivesInput
  input_work levels around good [] [] result kind given void fills made from spare place to spelled now later tasks slots base ready cont = fails_here levels around made from to spelled
  input_work levels around good args params result kind given void fills made from spare place to spelled now later tasks slots base ready cont = fails_here levels around made from to spelled

  built_in_work : (levels : ℕ) → ConvertIs t flow setting running levels → (what : BuiltIn) → WorkOfBuiltIn levels what
  built_in_work levels convert Malloc = malloc_work levels
  built_in_work levels convert Calloc = calloc_work levels
  built_in_work levels convert Free = free_work levels convert
  built_in_work levels convert Memset = memset_work levels convert
  built_in_work levels convert Memcpy = memcpy_work levels convert
  built_in_work levels convert Memmove = memmove_work levels convert
  built_in_work levels convert EndsRun = ends_work levels convert
  built_in_work levels convert Assume = assume_work levels convert
  built_in_work levels convert Expect = expect_work levels
  built_in_work levels convert GivesInput = input_work levels

  -- what a function that has a body gives is known by its number
  result_found : (number : ℕ) (function : Function t.Stmt) → slice_get t.functions number ≡ Some function → result_of t (BodyStands number) ≡ function.result
  result_found number function there = rw there refl

  -- calls by what is called
  module _ (levels : ℕ) (convert : ConvertIs t flow setting running levels) (called : AreCalled) (around : Around) (good : IsAround setting around) (made : Made) (from : ℕ) (callee : t.Expr) (args : List t.Expr) (kind : Kind) (spare to : ℕ)
      (now later : List (Stop t)) (tasks : List (TaskIn t)) (slots : List Slot) (base : ℕ) where
    value_by : (into : ℕ) (standing : Standing) → fits (result_of t standing) kind ≡ true → is_void kind ≡ false →
        IsSpelled flow made from (along_line t around (go levels t around) made from (call_line t callee args spare (Some into) into made.registers standing) to) →
        Ready t flow setting running around now later tasks base made.registers slots spare (left_by_call t (left_of t) args (nat_eq into spare) standing) →
        IsTarget made.registers slots base spare (left_by_call t (left_of t) args (nat_eq into spare) standing) into → Wanted around now later tasks slots into to kind →
        Goes around now later (call_parts t callee args standing ++ tasks) slots from
    value_by into (BuiltInStands name params result) fit valued spelled ready target cont = by_gives (gives (built_in name) params result) refl spelled
      where
        by_gives : (given : Bool) → gives (built_in name) params result ≡ given →
            IsSpelled flow made from (along_line t around (go levels t around) made from (if given then built_in_line t (built_in name) args params result spare (Some into) made.registers (t.place callee)
            else (record { registers = 0; moves = Fails ∷ [] })) to) → Goes around now later (call_parts t callee args (BuiltInStands name params result) ++ tasks) slots from
        by_gives true given spelled' =
            built_in_value levels convert (built_in name) around good args params result kind given fit valued made from spare into (t.place callee) to spelled' now later tasks slots base ready target cont
        by_gives false given spelled' = fails_here levels around made from to spelled'
    value_by into (BodyStands number) fit valued spelled ready target cont = by_found (slice_get t.functions number) refl spelled ready target
      where
        by_found : (found : Option (Function t.Stmt)) → slice_get t.functions number ≡ found →
            IsSpelled flow made from (along_line t around (go levels t around) made from (body_line t args number spare into made.registers (t.place callee) found) to) →
            Ready t flow setting running around now later tasks base made.registers slots spare (left_by_body t (left_of t) args found) → IsTarget made.registers slots base spare (left_by_body t (left_of t) args found) into →
            Goes around now later (body_call t args number found ++ tasks) slots from
        by_found None there spelled' ready' target' = fails_here levels around made from to spelled'
        by_found (Some function) there spelled' ready' target' =
            let here = called number function there in
            let fit' : fits function.result kind ≡ true = subst (λ (result : Kind). fits result kind ≡ true) (result_found number function there) fit in
            body_form t flow setting running levels convert around good made from args number spare into (t.place callee) to function there here.0 here.1 spelled' now later tasks slots base ready' (λ is. target'.free)
            (given_wanted around now later tasks slots into to function.result kind fit' valued cont)
    value_by into (ObjectStands token) fit valued spelled ready target cont = fails_here levels around made from to spelled
    value_by into (ConstantStands bits) fit valued spelled ready target cont = fails_here levels around made from to spelled
    value_by into NothingStands fit valued spelled ready target cont = fails_here levels around made from to spelled

    work_by : (standing : Standing) → (is_void kind ≡ true → is_void (result_of t standing) ≡ true) → (is_void kind ≡ false → fills_by standing ≡ true) →
        IsSpelled flow made from (along_line t around (go levels t around) made from (call_line t callee args spare None spare made.registers standing) to) →
        Ready t flow setting running around now later tasks base made.registers slots spare (left_by_call t (left_of t) args false standing) →
        Goes around (later ++ now) [] tasks (let_go kind ∷ slots) to → Goes around now later (call_parts t callee args standing ++ tasks) slots from
    work_by (BuiltInStands name params result) void fills spelled ready cont = by_gives (gives (built_in name) params result) refl spelled
      where
        by_gives : (given : Bool) → gives (built_in name) params result ≡ given →
            IsSpelled flow made from (along_line t around (go levels t around) made from (if given then built_in_line t (built_in name) args params result spare None made.registers (t.place callee)
            else (record { registers = 0; moves = Fails ∷ [] })) to) → Goes around now later (call_parts t callee args (BuiltInStands name params result) ++ tasks) slots from
        by_gives true given spelled' = built_in_work levels convert (built_in name) around good args params result kind given void fills made from spare (t.place callee) to spelled' now later tasks slots base ready cont
        by_gives false given spelled' = fails_here levels around made from to spelled'
    work_by (BodyStands number) void fills spelled ready cont = by_found (slice_get t.functions number) refl spelled ready
      where
        by_found : (found : Option (Function t.Stmt)) → slice_get t.functions number ≡ found →
            IsSpelled flow made from (along_line t around (go levels t around) made from (body_line t args number spare spare made.registers (t.place callee) found) to) →
            Ready t flow setting running around now later tasks base made.registers slots spare (left_by_body t (left_of t) args found) → Goes around now later (body_call t args number found ++ tasks) slots from
        by_found None there spelled' ready' = fails_here levels around made from to spelled'
        by_found (Some function) there spelled' ready' =
            let here = called number function there in
            let no_value : is_void kind ≡ true = void_by (is_void kind) fills in
            let gives_none : is_void function.result ≡ true = subst (λ (result : Kind). is_void result ≡ true) (result_found number function there) (void no_value) in
            let void_is : function.result ≡ Void = void_kind function.result gives_none in
            body_form t flow setting running levels convert around good made from args number spare spare (t.place callee) to function there here.0 here.1 spelled' now later tasks slots base ready'
            (λ is. absurd (false≢true (sym is ∙ gives_none)))
            (subst (λ (result : Kind). Goes around (later ++ now) [] tasks (given_in result spare ∷ slots) to) (sym void_is)
            (subst (λ (k : Kind). Goes around (later ++ now) [] tasks (let_go k ∷ slots) to) (void_kind kind no_value) cont))
    work_by (ObjectStands token) void fills spelled ready cont = fails_here levels around made from to spelled
    work_by (ConstantStands bits) void fills spelled ready cont = fails_here levels around made from to spelled
    work_by NothingStands void fills spelled ready cont = fails_here levels around made from to spelled

  -- a call whose value is used
  pub call_form : (levels : ℕ) → ConvertIs t flow setting running levels → AreCalled → (callee : t.Expr) (args : List t.Expr) (around : Around) → IsAround setting around → (made : Made) (from : ℕ) (expr : t.Expr) (spare into to : ℕ) → t.form expr ≡ Call callee args →
      is_made t expr (Call callee args) ≡ true → IsSpelled flow made from (place_value_form t (go levels t) around made from expr spare into to (Call callee args)) →
      (now later : List (Stop t)) (tasks : List (TaskIn t)) (slots : List Slot) (base : ℕ) →
      Ready t flow setting running around now later tasks base made.registers slots spare (left_by_value t (left_of t) expr (nat_eq into spare) (Call callee args)) →
      IsTarget made.registers slots base spare (left_by_value t (left_of t) expr (nat_eq into spare) (Call callee args)) into → Wanted around now later tasks slots into to (value_kind t expr) →
      Goes around now later (ValueOf expr ∷ tasks) slots from
  call_form levels convert called callee args around good made from expr spare into to is shown spelled now later tasks slots base ready target cont =
      let kind : Kind = value_kind t expr in
      let parts = and_parts (not (is_void kind)) (fits (result_of t (t.stands callee)) kind) shown in
      Values expr
      (subst (λ (form : Form t.Expr t.Stmt). Goes around now later (value_parts t expr form ++ tasks) slots from) (sym is)
      (value_by levels convert called around good made from callee args kind spare to now later tasks slots base into (t.stands callee) parts.1 (not_holds (is_void kind) parts.0) spelled ready target cont))

  -- a call whose value is not used: it has none, or it leaves no register
  pub call_work : (levels : ℕ) → ConvertIs t flow setting running levels → AreCalled → (callee : t.Expr) (args : List t.Expr) (around : Around) → IsAround setting around → (made : Made) (from : ℕ) (expr : t.Expr) (spare to : ℕ) → t.form expr ≡ Call callee args →
      (is_void (value_kind t expr) ≡ true → is_void (kind_made t expr (Call callee args)) ≡ true) → (is_void (value_kind t expr) ≡ false → leaves_nothing t (Call callee args) ≡ true) →
      IsSpelled flow made from (along_line t around (go levels t around) made from (void_line t expr spare made.registers (Call callee args)) to) →
      (now later : List (Stop t)) (tasks : List (TaskIn t)) (slots : List Slot) (base : ℕ) →
      Ready t flow setting running around now later tasks base made.registers slots spare (left_by_value t (left_of t) expr false (Call callee args)) →
      Goes around (later ++ now) [] tasks (let_go (value_kind t expr) ∷ slots) to → Goes around now later (ValueOf expr ∷ tasks) slots from
  call_work levels convert called callee args around good made from expr spare to is void nothing spelled now later tasks slots base ready cont =
      Values expr
      (subst (λ (form : Form t.Expr t.Stmt). Goes around now later (value_parts t expr form ++ tasks) slots from) (sym is)
      (work_by levels convert called around good made from callee args (value_kind t expr) spare to now later tasks slots base (t.stands callee) void nothing spelled ready cont))
