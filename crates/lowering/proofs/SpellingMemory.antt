-- What is placed for calls of functions of memory that the language knows: `malloc`, `calloc`, `memset`, `memcpy` and `memmove`. Sizes and lengths are known.
use Rattle.std.proofs.Common.{◌≡◌, ◌<◌, ◌≤◌, ℕ, zero, suc, ◌+◌, ◌*◌, List, [], ◌∷◌, ◌++◌, Bool, true, false, nat_le, refl, sym, ap, arith, subst, Option, None, Some, if◌then◌else◌}
use Rattle.std.proofs.lemmas.Option.{same_Some, none-some}
use Rattle.cbase.specs.declared.place.Place.{Place}
use Rattle.bytes_core.specs.declared.word.Word.{Word}
use Rattle.bytes_core.specs.declared.word.Word.TheVariants.{Plain, To}
use Rattle.c_machine.specs.declared.built_in.BuiltIn.TheVariants.{Malloc, Calloc, Memset}
use Rattle.c_machine.specs.declared.kind.Kind.{Kind}
use Rattle.c_machine.specs.declared.task.Task.TheVariants.{ValueOf, Convert, RunBuiltIn}
use Rattle.c_machine.specs.Text.{Text}
use Rattle.c_machine.specs.State.{TaskIn}
use Rattle.c_machine.specs.Expressions.{value_kind}
use Rattle.flow.specs.declared.flow_graph.Flow.{Flow}
use Rattle.flow.specs.declared.flow_graph.Standing.{Standing as Stood}
use Rattle.flow.specs.declared.instruction.Instr.{Instr}
use Rattle.flow.specs.declared.instruction.Instr.TheVariants as i
use Rattle.simulation.specs.Edges.{One, Two}
use Rattle.simulation.specs.Running.{Setting, Running}
use Rattle.simulation.specs.Slots.{Slot, InRegister, KnownAs, Gone, is_free, is_whole}
use Rattle.simulation.specs.Lowered.{Stop, Mallocs, Callocs, Fills, FillsKept, Copies, CopiesKept, copying}
use Rattle.lowering.specs.Kinds.{width, is_void}
use Rattle.lowering.specs.LetGo.{left_as, left_of}
use Rattle.lowering.specs.Known.{argument_word, size_in_word, size_as, both, product_word, product_as, known_word}
use Rattle.lowering.specs.Moves.{Move, Emits, Pairs, Converts}
use Rattle.lowering.specs.Table.{keeps, allocates, fill_moves, copy_moves}
use Rattle.lowering.specs.Placing.{Made, Around, with_point, with_registers, stands_at, after, Begin, New, Goes as Goes_on, begins, along_from, along_at, along, go}
use Rattle.lowering.proofs.Placings.{IsSpelled, spelled_registers, pair_spelled}
use Rattle.lowering.proofs.KnownWords.{some_both}
use Rattle.lowering.proofs.KindFacts.{both_free, slot_made}
use Rattle.lowering.proofs.Modes.{IsAround, Rest, Ready, ConvertIs}
use Rattle.lowering.proofs.Ready.{free_below, free_beside, slot_of, mid, head_spelled, tail_spelled, one_at, never, fills}
use Rattle.lowering.proofs.SpellingArguments.{own_argument}
use Rattle.lowering.proofs.SpellingKnown.{word_known, levels_known}

-- a size is a number that is known
small_size : (small : Bool) (number bytes : ℕ) → (if small then Some number else None) ≡ Some bytes → number ≡ bytes
small_size true number bytes is = same_Some number bytes is
small_size false number bytes is = absurd (none-some bytes is)

size_word : (word : Option Word) (bytes : ℕ) → size_in_word word ≡ Some bytes → word ≡ Some (Plain bytes)
size_word None bytes is = absurd (none-some bytes is)
size_word (Some (Plain number)) bytes is = ap (λ (n : ℕ). Some (Plain n)) (small_size (nat_le number 65536) number bytes is)
size_word (Some (To block offset)) bytes is = absurd (none-some bytes is)

abbrev number_in : Word → ℕ
number_in (Plain number) = number
number_in (To block offset) = 0

product_word_is : (one other : ℕ) (bytes : ℕ) → product_word (Plain one) (Plain other) ≡ Some (Plain bytes) → one * other ≡ bytes
product_word_is one other bytes is = ap number_in (same_Some (Plain (one * other)) (Plain bytes) is)

module _ (t : Text) (flow : Flow) (setting : Setting) (running : Running) where
  abbrev Goes : Around → List (Stop t) → List (Stop t) → List (TaskIn t) → List Slot → ℕ → Type 0
  Goes around now later tasks slots point = Rest t flow setting running around now later tasks slots point

  -- an argument that is known takes no edge
  pub argument_known : (around : Around) (expr : t.Expr) (kind : Kind) (bytes : ℕ) → argument_word t expr kind ≡ Some (Plain bytes) → (now later : List (Stop t)) (tasks : List (TaskIn t)) (slots : List Slot) (point : ℕ) →
      Goes around now later tasks (KnownAs bytes ∷ slots) point → Goes around now later (ValueOf expr ∷ Convert (value_kind t expr) kind ∷ tasks) slots point
  argument_known around expr kind bytes is now later tasks slots point rest =
      let known = known_word t.enough t [] in
      let comes = word_known t flow setting running around.scopes known (levels_known t flow setting running around.scopes t.enough) expr kind (Plain bytes) is in
      comes.leads now later tasks slots point (subst (λ (n : ℕ). Goes around now later tasks (KnownAs n ∷ slots) point) (ap number_in comes.is) rest)

  -- the length of a fill or of a copy, and the size of an allocation
  pub size_known : (around : Around) (expr : t.Expr) (kind : Kind) (bytes : ℕ) → size_as t expr kind ≡ Some bytes → (now later : List (Stop t)) (tasks : List (TaskIn t)) (slots : List Slot) (point : ℕ) →
      Goes around now later tasks (KnownAs bytes ∷ slots) point → Goes around now later (ValueOf expr ∷ Convert (value_kind t expr) kind ∷ tasks) slots point
  size_known around expr kind bytes is now later tasks slots point rest =
      argument_known around expr kind bytes (size_word (argument_word t expr kind) bytes is) now later tasks slots point rest

  -- two edges to one point
  pairs_at : (levels : ℕ) (around : Around) (made : Made) (from to : ℕ) (one other : Instr) (place : Place) → IsSpelled flow made from (go levels t around made from (Pairs one other place) to) →
      Two flow from one to place other to place
  pairs_at zero around made from to one other place spelled = pair_spelled to to one other place spelled
  pairs_at (suc levels) around made from to one other place spelled = pair_spelled to to one other place spelled

  -- `malloc` (7.22.3.4): where there is no memory its value is null
  pub malloc_form : (levels : ℕ) (around : Around) (made : Made) (from into : ℕ) (size : t.Expr) (param result : Kind) (place : Place) (to : ℕ) (bytes : Option ℕ) → size_as t size param ≡ bytes →
      IsSpelled flow made from (along t around (go levels t around) made from (allocates (Some into) bytes false place) to) →
      (now later : List (Stop t)) (tasks : List (TaskIn t)) (slots : List Slot) → is_whole slots ≡ true → is_free into slots ≡ true →
      Goes around (later ++ now) [] tasks (InRegister into 8 false ∷ slots) to →
      Goes around now later (ValueOf size ∷ Convert (value_kind t size) param ∷ RunBuiltIn Malloc place result ∷ tasks) slots from
  malloc_form levels around made from into size param result place to None is spelled now later tasks slots whole free cont = never t flow setting running levels around made from to spelled
  malloc_form levels around made from into size param result place to (Some bytes) is spelled now later tasks slots whole free cont =
      size_known around size param bytes is now later (RunBuiltIn Malloc place result ∷ tasks) slots from
      (Mallocs place place place result bytes into to to whole free (pairs_at levels around made from to (i.Allocate into bytes false) (i.AllocateNone into) place spelled) cont cont)

  -- `calloc` (7.22.3.2): so many objects of a size, all zero
  product_known : (around : Around) (count size : t.Expr) (kind kind' : Kind) (bytes : ℕ) → product_as t count kind size kind' ≡ Some bytes → (now later : List (Stop t)) (tasks : List (TaskIn t)) (slots : List Slot) (point : ℕ) →
      ((one other : ℕ) → one * other ≡ bytes → Goes around now later tasks (KnownAs other ∷ KnownAs one ∷ slots) point) →
      Goes around now later (ValueOf count ∷ Convert (value_kind t count) kind ∷ ValueOf size ∷ Convert (value_kind t size) kind' ∷ tasks) slots point
  product_known around count size kind kind' bytes is now later tasks slots point rest =
      let found = some_both (argument_word t count kind) (argument_word t size kind') product_word (Plain bytes) (size_word (both (argument_word t count kind) (argument_word t size kind') product_word) bytes is) in
      by_words found.0 found.1 found.2 found.3 found.4
    where
      by_words : (one other : Word) → argument_word t count kind ≡ Some one → argument_word t size kind' ≡ Some other → product_word one other ≡ Some (Plain bytes) →
          Goes around now later (ValueOf count ∷ Convert (value_kind t count) kind ∷ ValueOf size ∷ Convert (value_kind t size) kind' ∷ tasks) slots point
      by_words (Plain one) (Plain other) there there' product =
          argument_known around count kind one there now later (ValueOf size ∷ Convert (value_kind t size) kind' ∷ tasks) slots point
          (argument_known around size kind' other there' now later tasks (KnownAs one ∷ slots) point (rest one other (product_word_is one other bytes product)))
      by_words one other there there' product = absurd (none-some (Plain bytes) product)

  pub calloc_form : (levels : ℕ) (around : Around) (made : Made) (from into : ℕ) (count size : t.Expr) (param param' result : Kind) (place : Place) (to : ℕ) (bytes : Option ℕ) → product_as t count param size param' ≡ bytes →
      IsSpelled flow made from (along t around (go levels t around) made from (allocates (Some into) bytes true place) to) →
      (now later : List (Stop t)) (tasks : List (TaskIn t)) (slots : List Slot) → is_whole slots ≡ true → is_free into slots ≡ true →
      Goes around (later ++ now) [] tasks (InRegister into 8 false ∷ slots) to →
      Goes around now later (ValueOf count ∷ Convert (value_kind t count) param ∷ ValueOf size ∷ Convert (value_kind t size) param' ∷ RunBuiltIn Calloc place result ∷ tasks) slots from
  calloc_form levels around made from into count size param param' result place to None is spelled now later tasks slots whole free cont = never t flow setting running levels around made from to spelled
  calloc_form levels around made from into count size param param' result place to (Some bytes) is spelled now later tasks slots whole free cont =
      product_known around count size param param' bytes is now later (RunBuiltIn Calloc place result ∷ tasks) slots from
      (λ one other same. Callocs place place place result other one bytes into to to same whole free
      (pairs_at levels around made from to (i.Allocate into bytes true) (i.AllocateNone into) place spelled) cont cont)

  -- the edges behind two arguments: a value that is used, too, is moved first
  abbrev Edges : Option ℕ → ℕ → ℕ → Instr → Place → ℕ → Type 0
  Edges None from r instr place to = One flow from instr to place
  Edges (Some into) from r instr place to = (middle : ℕ) × One flow from (i.Move into r) middle place × One flow middle instr to place

  edges_at : (levels : ℕ) (around : Around) (kept : Option ℕ) (made : Made) (from r : ℕ) (standing : Stood) (instr : Instr) (place : Place) (to : ℕ) →
      IsSpelled flow made from (along_at t around (go levels t around) made from standing (keeps kept r place ++ Emits instr place ∷ []) to) → Edges kept from r instr place to
  edges_at levels around None made from r standing instr place to spelled = one_at t flow setting running levels around made from to instr place spelled
  edges_at levels around (Some into) made from r standing instr place to spelled =
      let move : Move t = Emits (i.Move into r) place in
      let standing' : Stood = after t move standing in
      let last : Move t = Emits instr place in
      let first = head_spelled t flow setting running levels around made from standing' move (last ∷ []) to spelled in
      let rest = tail_spelled t flow setting running levels around made from standing' move (last ∷ []) to spelled in (
        made.points,
        one_at t flow setting running levels around (with_point standing' made) from made.points (i.Move into r) place first,
        one_at t flow setting running levels around (mid t flow setting running levels around made from standing' move) made.points to instr place rest,
      )

  keeps_new : (around : Around) (standing : Stood) (kept : Option ℕ) (r : ℕ) (instr : Instr) (place : Place) (to : ℕ) → begins t around standing (keeps kept r place ++ Emits instr place ∷ []) to ≡ New
  keeps_new around standing None r instr place to = refl
  keeps_new around standing (Some into) r instr place to = refl

  -- two arguments, each in a register of its own
  two_arguments : (levels : ℕ) → ConvertIs t flow setting running levels → (around : Around) → IsAround setting around → (made : Made) (from : ℕ) (one : t.Expr) (kind : Kind) (other : t.Expr) (kind' : Kind) (spare : ℕ) (kept : Option ℕ) (instr : Instr) (place : Place) (to : ℕ) →
      is_void kind ≡ false → is_void kind' ≡ false →
      IsSpelled flow made from (along t around (go levels t around) (with_registers 2 made) from
      (Converts one kind spare made.registers ∷ Converts other kind' spare (made.registers + 1) ∷ (keeps kept made.registers place ++ Emits instr place ∷ [])) to) →
      (now later : List (Stop t)) (tasks : List (TaskIn t)) (slots : List Slot) (base left : ℕ) → Ready t flow setting running around now later tasks base made.registers slots spare left →
      left_as t (left_of t) one false kind ≤ left → left_as t (left_of t) other false kind' ≤ left →
      ((point : ℕ) (plain plain' : Bool) → Edges kept point made.registers instr place to →
      Goes around (later ++ now) [] tasks (InRegister (made.registers + 1) (width kind') plain' ∷ InRegister made.registers (width kind) plain ∷ slots) point) →
      Goes around now later (ValueOf one ∷ Convert (value_kind t one) kind ∷ ValueOf other ∷ Convert (value_kind t other) kind' ∷ tasks) slots from
  two_arguments levels convert around good made from one kind other kind' spare kept instr place to valued valued' spelled now later tasks slots base left ready less less' cont =
      let r : ℕ = made.registers in
      let made1 : Made = with_registers 2 made in
      let first_move : Move t = Converts one kind spare r in
      let standing : Stood = after t first_move (stands_at made1 from) in
      let second_move : Move t = Converts other kind' spare (r + 1) in
      let standing' : Stood = after t second_move standing in
      let last : List (Move t) = keeps kept r place ++ Emits instr place ∷ [] in
      let spelled1 = spelled_registers 2 spelled in
      let first = head_spelled t flow setting running levels around made1 from standing first_move (second_move ∷ last) to spelled1 in
      let rest = tail_spelled t flow setting running levels around made1 from standing first_move (second_move ∷ last) to spelled1 in
      let h = fills t flow setting running levels around made1 from standing first_move spelled1.inside spelled1.sound in
      let made2 : Made = mid t flow setting running levels around made1 from standing first_move in
      let rest' = subst (λ (begin : Begin). IsSpelled flow made2 made.points
      (along_from t (λ made' point. along_at t around (go levels t around) made' point standing' last to) (go levels t around) made2 made.points second_move standing' Goes_on begin))
      (keeps_new around standing' kept r instr place to) rest in
      let second = head_spelled t flow setting running levels around made2 made.points standing' second_move last to rest' in
      let end = tail_spelled t flow setting running levels around made2 made.points standing' second_move last to rest' in
      let made3 : Made = mid t flow setting running levels around made2 made.points standing' second_move in
      let tasks' : List (TaskIn t) = ValueOf other ∷ Convert (value_kind t other) kind' ∷ tasks in
      own_argument t flow setting running levels convert around good (with_point standing made1) from one kind spare r made.points first now later tasks' slots base left ready less (omega arith)
      (λ plain number ready'. own_argument t flow setting running levels convert around good (with_point standing' made2) made.points other kind' spare (r + 1) made2.points second (later ++ now) [] tasks (slot_of kind r plain ∷ slots) base left
      (ready' (r + 1) (omega arith)) less' (omega arith)
      (λ plain' number' ready''. subst (λ (slot : Slot). Goes around (later ++ now) [] tasks (slot ∷ slot_of kind r plain ∷ slots) made2.points) (sym (slot_made kind' (r + 1) plain' valued'))
      (subst (λ (slot : Slot). Goes around (later ++ now) [] tasks (InRegister (r + 1) (width kind') plain' ∷ slot ∷ slots) made2.points) (sym (slot_made kind r plain valued))
      (cont made2.points plain plain' (edges_at levels around kept made3 made2.points r standing' instr place to end)))))

  -- where the value of a fill or of a copy stands: in no register where it is not used
  abbrev pub first_slot : Option ℕ → ℕ → Bool → Slot
  first_slot None size plain = Gone
  first_slot (Some into) size plain = InRegister into size plain

  abbrev pub IsBelow : Option ℕ → ℕ → List Slot → Type 0
  IsBelow None count slots = Unit {0}
  IsBelow (Some into) count slots = (into < count) × (is_free into slots ≡ true)

  -- `memset` (7.24.6.1)
  set_by : (around : Around) (kept : Option ℕ) (point r size size' bytes to : ℕ) (place : Place) (result : Kind) (plain plain' : Bool) → Edges kept point r (i.Fill r (r + 1) bytes) place to →
      (now later : List (Stop t)) (tasks : List (TaskIn t)) (slots : List Slot) → is_whole slots ≡ true → is_free r slots ≡ true → is_free (r + 1) slots ≡ true → IsBelow kept r slots →
      Goes around (later ++ now) [] tasks (first_slot kept size plain ∷ slots) to →
      Goes around now later (RunBuiltIn Memset place result ∷ tasks) (KnownAs bytes ∷ InRegister (r + 1) size' plain' ∷ InRegister r size plain ∷ slots) point
  set_by around None point r size size' bytes to place result plain plain' edge now later tasks slots whole free free' kept cont =
      Fills place result bytes (r + 1) size' r size to plain' plain whole (both_free r (r + 1) slots free free') edge cont
  set_by around (Some into) point r size size' bytes to place result plain plain' edges now later tasks slots whole free free' kept cont =
      let less = kept.0 in
      FillsKept place place result bytes (r + 1) size' r size into edges.0 to plain' plain whole (both_free r (r + 1) slots free free')
      (free_beside into (r + 1) size' plain' (InRegister r size plain ∷ slots) (λ same. absurd (omega arith)) (free_beside into r size plain slots (λ same. absurd (omega arith)) kept.1))
      edges.1 edges.2 cont

  pub memset_form : (levels : ℕ) → ConvertIs t flow setting running levels → (around : Around) → IsAround setting around → (made : Made) (from : ℕ) (at : t.Expr) (param : Kind) (byte : t.Expr) (param' : Kind) (count : t.Expr) (param'' result : Kind) (spare : ℕ) (kept : Option ℕ)
      (place : Place) (to : ℕ) (bytes : Option ℕ) → size_as t count param'' ≡ bytes → is_void param ≡ false → is_void param' ≡ false →
      IsSpelled flow made from (along t around (go levels t around) (with_registers 2 made) from (fill_moves t at param byte param' spare kept made.registers place bytes) to) →
      (now later : List (Stop t)) (tasks : List (TaskIn t)) (slots : List Slot) → IsBelow kept made.registers slots → (base left : ℕ) →
      Ready t flow setting running around now later tasks base made.registers slots spare left → left_as t (left_of t) at false param ≤ left → left_as t (left_of t) byte false param' ≤ left →
      ((plain : Bool) → Goes around (later ++ now) [] tasks (first_slot kept (width param) plain ∷ slots) to) →
      Goes around now later (ValueOf at ∷ Convert (value_kind t at) param ∷ ValueOf byte ∷ Convert (value_kind t byte) param' ∷ ValueOf count ∷ Convert (value_kind t count) param'' ∷ RunBuiltIn Memset place result ∷ tasks) slots from
  memset_form levels convert around good made from at param byte param' count param'' result spare kept place to None is valued valued' spelled now later tasks slots keeps base left ready less less' cont =
      never t flow setting running levels around (with_registers 2 made) from to (spelled_registers 2 spelled)
  memset_form levels convert around good made from at param byte param' count param'' result spare kept place to (Some bytes) is valued valued' spelled now later tasks slots keeps base left ready less less' cont =
      let r : ℕ = made.registers in
      two_arguments levels convert around good made from at param byte param' spare kept (i.Fill r (r + 1) bytes) place to valued valued' spelled now later
      (ValueOf count ∷ Convert (value_kind t count) param'' ∷ RunBuiltIn Memset place result ∷ tasks) slots base left ready less less'
      (λ point plain plain' edges. size_known around count param'' bytes is (later ++ now) [] (RunBuiltIn Memset place result ∷ tasks) (InRegister (r + 1) (width param') plain' ∷ InRegister r (width param) plain ∷ slots) point
      (set_by around kept point r (width param) (width param') bytes to place result plain plain' edges (later ++ now) [] tasks slots ready.whole (free_below r r slots (omega arith) ready.below) (free_below r (r + 1) slots (omega arith) ready.below)
      keeps (cont plain)))

  -- `memcpy` and `memmove` (7.24.2.1, 7.24.2.2)
  copied_by : (around : Around) (disjoint : Bool) (kept : Option ℕ) (point r size size' bytes to : ℕ) (place : Place) (result : Kind) (plain plain' : Bool) → Edges kept point r (i.Copy r (r + 1) bytes disjoint) place to →
      (now later : List (Stop t)) (tasks : List (TaskIn t)) (slots : List Slot) → is_whole slots ≡ true → is_free r slots ≡ true → is_free (r + 1) slots ≡ true → IsBelow kept r slots →
      Goes around (later ++ now) [] tasks (first_slot kept size plain ∷ slots) to →
      Goes around now later (RunBuiltIn (copying disjoint) place result ∷ tasks) (KnownAs bytes ∷ InRegister (r + 1) size' plain' ∷ InRegister r size plain ∷ slots) point
  copied_by around disjoint None point r size size' bytes to place result plain plain' edge now later tasks slots whole free free' kept cont =
      Copies disjoint place result bytes (r + 1) size' r size to plain' plain whole (both_free r (r + 1) slots free free') edge cont
  copied_by around disjoint (Some into) point r size size' bytes to place result plain plain' edges now later tasks slots whole free free' kept cont =
      let less = kept.0 in
      CopiesKept disjoint place place result bytes (r + 1) size' r size into edges.0 to plain' plain whole (both_free r (r + 1) slots free free')
      (free_beside into (r + 1) size' plain' (InRegister r size plain ∷ slots) (λ same. absurd (omega arith)) (free_beside into r size plain slots (λ same. absurd (omega arith)) kept.1))
      edges.1 edges.2 cont

  pub copies_form : (levels : ℕ) → ConvertIs t flow setting running levels → (around : Around) → IsAround setting around → (made : Made) (from : ℕ) (disjoint : Bool) (at : t.Expr) (param : Kind) (other : t.Expr) (param' : Kind) (count : t.Expr) (param'' result : Kind) (spare : ℕ) (kept : Option ℕ)
      (place : Place) (to : ℕ) (bytes : Option ℕ) → size_as t count param'' ≡ bytes → is_void param ≡ false → is_void param' ≡ false →
      IsSpelled flow made from (along t around (go levels t around) (with_registers 2 made) from (copy_moves t at param other param' spare kept made.registers disjoint place bytes) to) →
      (now later : List (Stop t)) (tasks : List (TaskIn t)) (slots : List Slot) → IsBelow kept made.registers slots → (base left : ℕ) →
      Ready t flow setting running around now later tasks base made.registers slots spare left → left_as t (left_of t) at false param ≤ left → left_as t (left_of t) other false param' ≤ left →
      ((plain : Bool) → Goes around (later ++ now) [] tasks (first_slot kept (width param) plain ∷ slots) to) →
      Goes around now later (ValueOf at ∷ Convert (value_kind t at) param ∷ ValueOf other ∷ Convert (value_kind t other) param' ∷ ValueOf count ∷ Convert (value_kind t count) param'' ∷ RunBuiltIn (copying disjoint) place result ∷ tasks) slots from
  copies_form levels convert around good made from disjoint at param other param' count param'' result spare kept place to None is valued valued' spelled now later tasks slots keeps base left ready less less' cont =
      never t flow setting running levels around (with_registers 2 made) from to (spelled_registers 2 spelled)
  copies_form levels convert around good made from disjoint at param other param' count param'' result spare kept place to (Some bytes) is valued valued' spelled now later tasks slots keeps base left ready less less' cont =
      let r : ℕ = made.registers in
      two_arguments levels convert around good made from at param other param' spare kept (i.Copy r (r + 1) bytes disjoint) place to valued valued' spelled now later
      (ValueOf count ∷ Convert (value_kind t count) param'' ∷ RunBuiltIn (copying disjoint) place result ∷ tasks) slots base left ready less less'
      (λ point plain plain' edges. size_known around count param'' bytes is (later ++ now) [] (RunBuiltIn (copying disjoint) place result ∷ tasks) (InRegister (r + 1) (width param') plain' ∷ InRegister r (width param) plain ∷ slots) point
      (copied_by around disjoint kept point r (width param) (width param') bytes to place result plain plain' edges (later ++ now) [] tasks slots ready.whole (free_below r r slots (omega arith) ready.below) (free_below r (r + 1) slots (omega arith) ready.below)
      keeps (cont plain)))
