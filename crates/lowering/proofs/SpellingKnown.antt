-- What is known of an expression without a memory takes no edge: sizes of allocations, and lengths of fills and copies.
use Rattle.std.proofs.Common.{◌≡◌, ℕ, zero, suc, Bool, true, false, not, List, [], ◌∷◌, ◌++◌, nat_eq, refl, sym, ap, subst, ◌∙◌, pos, Option, None, Some, option_map, option_and_then}
use Rattle.std.specs.Prelude.{neg_ℤ, ◌+ℤ◌, ◌*ℤ◌}
use Rattle.std.proofs.lemmas.Option.{same_Some, none-some}
use Rattle.cbase.specs.declared.tree.operators.BinaryOp.{BinaryOp}
use Rattle.cbase.specs.declared.tree.operators.BinaryOp.TheVariants.{Add, Sub, Equal, NotEqual, Both, Either, Comma}
use Rattle.cbase.specs.declared.tree.operators.UnaryOp.{UnaryOp}
use Rattle.cbase.specs.declared.tree.operators.UnaryOp.TheVariants.{Address, Follow, Not}
use Rattle.arithmetic.specs.Comparing.{answer}
use Rattle.arithmetic.specs.Conversion.{converted}
use Rattle.arithmetic.specs.Value.{value}
use Rattle.typing.specs.values.Values.{offset_as, of_unary, of_binary}
use Rattle.bytes_core.specs.declared.block.Block.{Block}
use Rattle.bytes_core.specs.declared.word.Word.{Word}
use Rattle.bytes_core.specs.declared.word.Word.TheVariants.{Plain}
use Rattle.bytes_core.specs.Value.{moved, wrapped, is_same_address}
use Rattle.c_machine.specs.declared.kind.Kind.{Kind}
use Rattle.c_machine.specs.declared.kind.Kind.TheVariants.{Integer, Pointer, Array, Void}
use Rattle.c_machine.specs.declared.task.Task.TheVariants.{ValueOf, AddressOf, Push, Shift, Load, Convert, Apply, Operate, Answer, AndThen, OrElse, Pick}
use Rattle.c_machine.specs.Text.{Standing, ObjectStands, ConstantStands, Form, Name as NameForm, Known, Unary, Binary, Choose, Cast, Index, Member, Text}
use Rattle.c_machine.specs.State.{TaskIn}
use Rattle.c_machine.specs.Expressions.{value_kind, address_parts, value_parts, binary_parts, name_parts, known as machine_known}
use Rattle.c_machine.specs.Words.{is_true, told, as_kind, as_address, integer_as}
use Rattle.flow.specs.declared.flow_graph.Flow.{Flow}
use Rattle.simulation.specs.Lowered.{Stop, Lowered, Values, Addresses, IsKnown, ShiftsKnown, LoadsNothing, ConvertsKnown, AppliesKnown, OperatesKnown, IsTrues, Answers, AndsOn, AndsOff, OrsOn, OrsOff, PicksOne, PicksOther}
use Rattle.simulation.specs.Names.{Name}
use Rattle.simulation.specs.Running.{Setting, Running}
use Rattle.simulation.specs.Slots.{Slot, KnownAs, Truth}
use Rattle.lowering.specs.Known.{Asked, Value, Place as PlaceAsked, operated_on, applied_to, converted_to, answered, truth_of, loaded_from, named_word, name_word, both, and_then, or_else, picked, binary_word, word_as, value_word, place_word, known_word}
use Rattle.lowering.proofs.KnownWords.{converted_word, applied_word, operated_word, answered_word, truth_word, array_at, some_both, some_then, some_map}

-- what becomes of a number is a number, whatever stands in the memory
converted_number : (from to : Kind) (number : ℕ) → (other : ℕ) × ((memory : List Block) → as_kind memory from to (Plain number) ≡ Plain other)
converted_number from Void number = (0, λ memory. refl)
converted_number (Integer from) (Integer to) number = (integer_as from to number, λ memory. refl)
converted_number (Integer from) (Pointer bytes) number = (converted from.bytes from.signed 8 number, λ memory. refl)
converted_number from (Integer to) number = (offset_as to number, λ memory. refl)
converted_number from to number = (number, λ memory. refl)

applied_number : (op : UnaryOp) (kind : Kind) (number : ℕ) (word : Word) → applied_to op kind (Plain number) ≡ Some word → (other : ℕ) × (word ≡ Plain other)
applied_number op (Integer of) number word is = let found = some_map Plain (of_unary op of number) word is in (found.0, sym found.2)
applied_number op kind number word is = absurd (none-some word is)

told_number : (asked holds : Bool) → (other : ℕ) × (told asked holds ≡ Plain other)
told_number true holds = (answer holds, refl)
told_number false holds = (answer (not holds), refl)

some_told : (asked holds : Bool) (word : Word) → Some (told asked holds) ≡ Some word → (other : ℕ) × (word ≡ Plain other)
some_told asked holds word is = let number = told_number asked holds in (number.0, sym (same_Some (told asked holds) word is) ∙ number.1)

operated_number : (op : BinaryOp) (left right : Kind) (one other : ℕ) (word : Word) → operated_on op left right (Plain one) (Plain other) ≡ Some word → (number : ℕ) × (word ≡ Plain number)
operated_number op (Integer left) (Integer right) one other word is = let found = some_map Plain (of_binary op left one right other) word is in (found.0, sym found.2)
operated_number Add (Pointer bytes) (Integer right) one other word is =
    let number : ℕ = wrapped (pos one +ℤ (value right.bytes right.signed other *ℤ pos bytes)) in (number, sym (same_Some (Plain number) word is))
operated_number Add (Integer left) (Pointer bytes) one other word is =
    let number : ℕ = wrapped (pos other +ℤ (value left.bytes left.signed one *ℤ pos bytes)) in (number, sym (same_Some (Plain number) word is))
operated_number Sub (Pointer bytes) (Integer right) one other word is =
    let number : ℕ = wrapped (pos one +ℤ neg_ℤ (value right.bytes right.signed other *ℤ pos bytes)) in (number, sym (same_Some (Plain number) word is))
operated_number Equal left right one other word is = some_told true (is_same_address [] (as_address [] left (Plain one)) (as_address [] right (Plain other))) word is
operated_number NotEqual left right one other word is = some_told false (is_same_address [] (as_address [] left (Plain one)) (as_address [] right (Plain other))) word is
operated_number op left right one other word is = absurd (none-some word is)

answered_number : (asked : Bool) (number : ℕ) (word : Word) → answered asked (Plain number) ≡ Some word → (other : ℕ) × (word ≡ Plain other)
answered_number asked number word is = some_told asked (is_true [] (Plain number)) word is

-- where no name is known none stands for an object
no_object : (standing : Standing) (word : Word) → named_word [] standing ≡ Some word → ⊥
no_object (ObjectStands token) word is = none-some word is
no_object other word is = none-some word is

module _ (t : Text) (flow : Flow) (setting : Setting) (running : Running) (scopes : List (List Name)) where
  abbrev Goes : List (Stop t) → List (Stop t) → List (TaskIn t) → List Slot → ℕ → Type 0
  Goes now later tasks slots point = Lowered t flow setting running now later scopes tasks slots point

  asked_for : Asked → t.Expr → TaskIn t
  asked_for Value expr = ValueOf expr
  asked_for PlaceAsked expr = AddressOf expr

  -- what is done first makes a number, of numbers or of nothing, and no edge is taken for it
  pub record Comes (front : List (TaskIn t)) (given : List Slot) (word : Word) : Type 0 where
    pub number : ℕ
    pub is : word ≡ Plain number
    pub leads : (now later : List (Stop t)) (tasks : List (TaskIn t)) (slots : List Slot) (point : ℕ) → Goes now later tasks (KnownAs number ∷ slots) point → Goes now later (front ++ tasks) (given ++ slots) point

  abbrev Asks : Asked → t.Expr → List (TaskIn t)
  Asks Value expr = ValueOf expr ∷ []
  Asks PlaceAsked expr = AddressOf expr ∷ []

  abbrev AreKnown : (Asked → t.Expr → Option Word) → Type 0
  AreKnown known = (asked : Asked) (expr : t.Expr) (word : Word) → known asked expr ≡ Some word → Comes (Asks asked expr) [] word

  unfolded : (expr : t.Expr) (form : Form t.Expr t.Stmt) (word : Word) → t.form expr ≡ form → Comes (value_parts t expr form) [] word → Comes (ValueOf expr ∷ []) [] word
  unfolded expr form word is comes = record {
    number = comes.number;
    is = comes.is;
    leads = λ now later tasks slots point rest.
        Values expr (subst (λ (f : Form t.Expr t.Stmt). Goes now later (value_parts t expr f ++ tasks) slots point) (sym is) (comes.leads now later tasks slots point rest));
  }

  unfolded_place : (expr : t.Expr) (form : Form t.Expr t.Stmt) (word : Word) → t.form expr ≡ form → Comes (address_parts t expr form) [] word → Comes (AddressOf expr ∷ []) [] word
  unfolded_place expr form word is comes = record {
    number = comes.number;
    is = comes.is;
    leads = λ now later tasks slots point rest.
        Addresses expr (subst (λ (f : Form t.Expr t.Stmt). Goes now later (address_parts t expr f ++ tasks) slots point) (sym is) (comes.leads now later tasks slots point rest));
  }

  pushed : (bits : ℕ) (word : Word) → Some (Plain bits) ≡ Some word → Comes (Push bits ∷ []) [] word
  pushed bits word is = record { number = bits; is = sym (same_Some (Plain bits) word is); leads = λ now later tasks slots point rest. IsKnown bits rest }

  -- an array is known by its address, which is a number here
  loaded_known : (expr : t.Expr) (at : Option Word) (word : Word) → loaded_from (t.kind expr) at ≡ Some word → Comes (AddressOf expr ∷ []) [] word → Comes (AddressOf expr ∷ Load (t.place expr) (t.kind expr) ∷ []) [] word
  loaded_known expr at word is comes = record { number = comes.number; is = comes.is; leads = λ now later tasks slots point rest. by_kind (t.kind expr) is now later tasks slots point rest }
    where
      by_kind : (kind : Kind) → loaded_from kind at ≡ Some word → (now later : List (Stop t)) (tasks : List (TaskIn t)) (slots : List Slot) (point : ℕ) → Goes now later tasks (KnownAs comes.number ∷ slots) point →
          Goes now later (AddressOf expr ∷ Load (t.place expr) kind ∷ tasks) slots point
      by_kind (Array bytes) is' now later tasks slots point rest =
          comes.leads now later (Load (t.place expr) (Array bytes) ∷ tasks) slots point (LoadsNothing (Array bytes) (t.place expr) (KnownAs comes.number) refl rest)
      by_kind kind is' now later tasks slots point rest = absurd (none-some word is')

  name_known : (expr : t.Expr) (standing : Standing) (word : Word) → name_word [] (t.kind expr) standing ≡ Some word → Comes (name_parts t expr standing) [] word
  name_known expr (ConstantStands bits) word is = pushed bits word is
  name_known expr other word is = absurd (no_object other word (array_at (t.kind expr) (named_word [] other) word is))

  module _ (known : Asked → t.Expr → Option Word) (knows : AreKnown known) where
    pub word_known : (expr : t.Expr) (kind : Kind) (word : Word) → word_as t known expr kind ≡ Some word → Comes (ValueOf expr ∷ Convert (value_kind t expr) kind ∷ []) [] word
    word_known expr kind word is =
        let from : Kind = value_kind t expr in
        let found = some_then (converted_to from kind) (known Value expr) word is in
        let comes = knows Value expr found.0 found.1 in
        let after = converted_number from kind comes.number in
        let there : as_kind [] from kind (Plain comes.number) ≡ word = subst (λ (w : Word). as_kind [] from kind w ≡ word) comes.is (converted_word [] from kind found.0 word found.2) in
        record {
          number = after.0;
          is = sym there ∙ after.1 [];
          leads = λ now later tasks slots point rest. comes.leads now later (Convert from kind ∷ tasks) slots point (ConvertsKnown from kind comes.number after.0 after.1 rest);
        }

    operated_known : (op : BinaryOp) (left right : t.Expr) (word : Word) → both (known Value left) (known Value right) (operated_on op (value_kind t left) (value_kind t right)) ≡ Some word →
        Comes (ValueOf left ∷ ValueOf right ∷ Operate op (value_kind t left) (value_kind t right) ∷ []) [] word
    operated_known op left right word is =
        let kind : Kind = value_kind t left in
        let kind' : Kind = value_kind t right in
        let found = some_both (known Value left) (known Value right) (operated_on op kind kind') word is in
        let one = knows Value left found.0 found.2 in
        let other = knows Value right found.1 found.3 in
        let first : operated_on op kind kind' (Plain one.number) found.1 ≡ Some word = subst (λ (w : Word). operated_on op kind kind' w found.1 ≡ Some word) one.is found.4 in
        let there : operated_on op kind kind' (Plain one.number) (Plain other.number) ≡ Some word = subst (λ (w : Word). operated_on op kind kind' (Plain one.number) w ≡ Some word) other.is first in
        let after = operated_number op kind kind' one.number other.number word there in
        record {
          number = after.0;
          is = after.1;
          leads = λ now later tasks slots point rest.
              one.leads now later (ValueOf right ∷ Operate op kind kind' ∷ tasks) slots point
              (other.leads now later (Operate op kind kind' ∷ tasks) (KnownAs one.number ∷ slots) point
              (OperatesKnown op kind kind' one.number other.number after.0
              (λ memory. operated_word memory op kind kind' (Plain one.number) (Plain other.number) word there ∙ ap Some after.1) rest));
        }

    -- what a test of a number decides
    answer_known : (asked : Bool) (expr : t.Expr) (word : Word) → option_and_then (answered asked) (known Value expr) ≡ Some word → Comes (ValueOf expr ∷ Answer asked ∷ []) [] word
    answer_known asked expr word is =
        let found = some_then (answered asked) (known Value expr) word is in
        let comes = knows Value expr found.0 found.1 in
        let there : answered asked (Plain comes.number) ≡ Some word = subst (λ (w : Word). answered asked w ≡ Some word) comes.is found.2 in
        let after = answered_number asked comes.number word there in
        record {
          number = after.0;
          is = after.1;
          leads = λ now later tasks slots point rest.
              comes.leads now later (Answer asked ∷ tasks) slots point
              (IsTrues comes.number
              (Answers asked (not (nat_eq comes.number 0)) after.0 (answered_word [] asked (Plain comes.number) word there ∙ after.1) rest));
        }

    and_known : (right : t.Expr) (truth : Option Bool) (number : ℕ) (after : Option Word) (word : Word) → truth_of (Plain number) ≡ truth → and_then truth after ≡ Some word →
        (after ≡ Some word → Comes (ValueOf right ∷ Answer true ∷ []) [] word) → Comes (AndThen right ∷ []) (KnownAs number ∷ []) word
    and_known right None number after word here is more = absurd (none-some word is)
    and_known right (Some true) number after word here is more =
        let rest_of = more is in
        record {
          number = rest_of.number;
          is = rest_of.is;
          leads = λ now later tasks slots point rest.
              IsTrues number
              (subst (λ (holds : Bool). Goes now later (AndThen right ∷ tasks) (Truth holds ∷ slots) point) (sym (truth_word [] (Plain number) true here))
              (AndsOn right (rest_of.leads now later tasks slots point rest)));
        }
    and_known right (Some false) number after word here is more = record {
      number = 0;
      is = sym (same_Some (Plain 0) word is);
      leads = λ now later tasks slots point rest.
          IsTrues number
          (subst (λ (holds : Bool). Goes now later (AndThen right ∷ tasks) (Truth holds ∷ slots) point) (sym (truth_word [] (Plain number) false here)) (AndsOff right rest));
    }

    or_known : (right : t.Expr) (truth : Option Bool) (number : ℕ) (after : Option Word) (word : Word) → truth_of (Plain number) ≡ truth → or_else truth after ≡ Some word →
        (after ≡ Some word → Comes (ValueOf right ∷ Answer true ∷ []) [] word) → Comes (OrElse right ∷ []) (KnownAs number ∷ []) word
    or_known right None number after word here is more = absurd (none-some word is)
    or_known right (Some true) number after word here is more = record {
      number = 1;
      is = sym (same_Some (Plain 1) word is);
      leads = λ now later tasks slots point rest.
          IsTrues number
          (subst (λ (holds : Bool). Goes now later (OrElse right ∷ tasks) (Truth holds ∷ slots) point) (sym (truth_word [] (Plain number) true here)) (OrsOn right rest));
    }
    or_known right (Some false) number after word here is more =
        let rest_of = more is in
        record {
          number = rest_of.number;
          is = rest_of.is;
          leads = λ now later tasks slots point rest.
              IsTrues number
              (subst (λ (holds : Bool). Goes now later (OrElse right ∷ tasks) (Truth holds ∷ slots) point) (sym (truth_word [] (Plain number) false here))
              (OrsOff right (rest_of.leads now later tasks slots point rest)));
        }

    pick_known : (kind : Kind) (one other : t.Expr) (truth : Option Bool) (number : ℕ) (first second : Option Word) (word : Word) → truth_of (Plain number) ≡ truth → picked truth first second ≡ Some word →
        (first ≡ Some word → Comes (ValueOf one ∷ Convert (value_kind t one) kind ∷ []) [] word) → (second ≡ Some word → Comes (ValueOf other ∷ Convert (value_kind t other) kind ∷ []) [] word) →
        Comes (Pick kind one other ∷ []) (KnownAs number ∷ []) word
    pick_known kind one other None number first second word here is more more' = absurd (none-some word is)
    pick_known kind one other (Some true) number first second word here is more more' =
        let rest_of = more is in
        record {
          number = rest_of.number;
          is = rest_of.is;
          leads = λ now later tasks slots point rest.
              IsTrues number
              (subst (λ (holds : Bool). Goes now later (Pick kind one other ∷ tasks) (Truth holds ∷ slots) point) (sym (truth_word [] (Plain number) true here))
              (PicksOne kind one other (rest_of.leads now later tasks slots point rest)));
        }
    pick_known kind one other (Some false) number first second word here is more more' =
        let rest_of = more' is in
        record {
          number = rest_of.number;
          is = rest_of.is;
          leads = λ now later tasks slots point rest.
              IsTrues number
              (subst (λ (holds : Bool). Goes now later (Pick kind one other ∷ tasks) (Truth holds ∷ slots) point) (sym (truth_word [] (Plain number) false here))
              (PicksOther kind one other (rest_of.leads now later tasks slots point rest)));
        }

    -- the first part of `&&`, `||` and `?:`, and what it decides
    behind : (test : t.Expr) (last : TaskIn t) (one : Option Word) (word : Word) → known Value test ≡ one →
        ((number : ℕ) → one ≡ Some (Plain number) → Comes (last ∷ []) (KnownAs number ∷ []) word) → (one ≡ None → ⊥) → Comes (ValueOf test ∷ last ∷ []) [] word
    behind test last None word here more some = absurd (some refl)
    behind test last (Some before) word here more some =
        let comes = knows Value test before here in
        let rest_of = more comes.number (ap Some comes.is) in
        record {
          number = rest_of.number;
          is = rest_of.is;
          leads = λ now later tasks slots point rest. comes.leads now later (last ∷ tasks) slots point (rest_of.leads now later tasks slots point rest);
        }

    and_never : (one : Option Word) (after : Option Word) (word : Word) → and_then (option_and_then truth_of one) after ≡ Some word → one ≡ None → ⊥
    and_never (Some before) after word is none = none-some before (sym none)
    and_never None after word is none = none-some word is

    or_never : (one : Option Word) (after : Option Word) (word : Word) → or_else (option_and_then truth_of one) after ≡ Some word → one ≡ None → ⊥
    or_never (Some before) after word is none = none-some before (sym none)
    or_never None after word is none = none-some word is

    pick_never : (one : Option Word) (first second : Option Word) (word : Word) → picked (option_and_then truth_of one) first second ≡ Some word → one ≡ None → ⊥
    pick_never (Some before) first second word is none = none-some before (sym none)
    pick_never None first second word is none = none-some word is

    binary_known : (op : BinaryOp) (left right : t.Expr) (word : Word) → binary_word t known op left right ≡ Some word → Comes (binary_parts t op left right) [] word
    binary_known Both left right word is =
        let after : Option Word = option_and_then (answered true) (known Value right) in
        behind left (AndThen right) (known Value left) word refl
        (λ number here. and_known right (truth_of (Plain number)) number after word refl
        (subst (λ (one : Option Word). and_then (option_and_then truth_of one) after ≡ Some word) here is) (λ there. answer_known true right word there))
        (and_never (known Value left) after word is)
    binary_known Either left right word is =
        let after : Option Word = option_and_then (answered true) (known Value right) in
        behind left (OrElse right) (known Value left) word refl
        (λ number here. or_known right (truth_of (Plain number)) number after word refl
        (subst (λ (one : Option Word). or_else (option_and_then truth_of one) after ≡ Some word) here is) (λ there. answer_known true right word there))
        (or_never (known Value left) after word is)
    binary_known Comma left right word is = absurd (none-some word is)
    binary_known op left right word is = operated_known op left right word is

    applied_known : (op : UnaryOp) (arg : t.Expr) (word : Word) → option_and_then (applied_to op (value_kind t arg)) (known Value arg) ≡ Some word → Comes (ValueOf arg ∷ Apply op (value_kind t arg) ∷ []) [] word
    applied_known op arg word is =
        let kind : Kind = value_kind t arg in
        let found = some_then (applied_to op kind) (known Value arg) word is in
        let comes = knows Value arg found.0 found.1 in
        let there : applied_to op kind (Plain comes.number) ≡ Some word = subst (λ (w : Word). applied_to op kind w ≡ Some word) comes.is found.2 in
        let after = applied_number op kind comes.number word there in
        record {
          number = after.0;
          is = after.1;
          leads = λ now later tasks slots point rest.
              comes.leads now later (Apply op kind ∷ tasks) slots point
              (AppliesKnown op kind comes.number after.0 (λ memory. applied_word memory op kind (Plain comes.number) word there ∙ ap Some after.1) rest);
        }

    value_known : (expr : t.Expr) (form : Form t.Expr t.Stmt) → t.form expr ≡ form → (word : Word) → value_word t [] known expr form ≡ Some word → Comes (ValueOf expr ∷ []) [] word
    value_known expr NameForm form word is = unfolded expr NameForm word form (name_known expr (t.stands expr) word is)
    value_known expr (Known bits) form word is = unfolded expr (Known bits) word form (by_bits bits is)
      where
        by_bits : (bits : Option ℕ) → option_map Plain bits ≡ Some word → Comes (machine_known t bits) [] word
        by_bits (Some number) is' = pushed number word is'
        by_bits None is' = absurd (none-some word is')
    value_known expr (Unary Address arg) form word is = unfolded expr (Unary Address arg) word form (knows PlaceAsked arg word is)
    value_known expr (Unary Follow arg) form word is =
        unfolded expr (Unary Follow arg) word form (loaded_known expr (known PlaceAsked expr) word is (knows PlaceAsked expr word (array_at (t.kind expr) (known PlaceAsked expr) word is)))
    value_known expr (Unary Not arg) form word is = unfolded expr (Unary Not arg) word form (answer_known false arg word is)
    value_known expr (Unary op arg) form word is = unfolded expr (Unary op arg) word form (applied_known op arg word is)
    value_known expr (Binary op left right) form word is = unfolded expr (Binary op left right) word form (binary_known op left right word is)
    value_known expr (Choose test one other) form word is =
        let kind : Kind = value_kind t expr in
        let first : Option Word = word_as t known one kind in
        let second : Option Word = word_as t known other kind in
        unfolded expr (Choose test one other) word form
        (behind test (Pick kind one other) (known Value test) word refl
        (λ number here. pick_known kind one other (truth_of (Plain number)) number first second word refl
        (subst (λ (asked : Option Word). picked (option_and_then truth_of asked) first second ≡ Some word) here is) (λ there. word_known one kind word there) (λ there. word_known other kind word there))
        (pick_never (known Value test) first second word is))
    value_known expr (Cast arg) form word is = unfolded expr (Cast arg) word form (word_known arg (t.kind expr) word is)
    value_known expr (Index base index) form word is =
        unfolded expr (Index base index) word form (loaded_known expr (known PlaceAsked expr) word is (knows PlaceAsked expr word (array_at (t.kind expr) (known PlaceAsked expr) word is)))
    value_known expr (Member base offset through) form word is =
        unfolded expr (Member base offset through) word form (loaded_known expr (known PlaceAsked expr) word is (knows PlaceAsked expr word (array_at (t.kind expr) (known PlaceAsked expr) word is)))
    value_known expr other form word is = absurd (none-some word is)

    moved_number : (before : Word) (number offset : ℕ) (word : Word) → before ≡ Plain number → moved before (pos offset) ≡ word → (word ≡ Plain (wrapped (pos number +ℤ pos offset)))
    moved_number before number offset word is is' = sym is' ∙ ap (λ (w : Word). moved w (pos offset)) is

    place_known : (expr : t.Expr) (form : Form t.Expr t.Stmt) → t.form expr ≡ form → (word : Word) → place_word t [] known expr form ≡ Some word → Comes (AddressOf expr ∷ []) [] word
    place_known expr NameForm form word is = absurd (no_object (t.stands expr) word is)
    place_known expr (Unary Follow arg) form word is = unfolded_place expr (Unary Follow arg) word form (knows Value arg word is)
    place_known expr (Index base index) form word is = unfolded_place expr (Index base index) word form (operated_known Add base index word is)
    place_known expr (Member base offset false) form word is =
        let found = some_map (λ (at : Word). moved at (pos offset)) (known PlaceAsked base) word is in
        let comes = knows PlaceAsked base found.0 found.1 in
        let after : ℕ = wrapped (pos comes.number +ℤ pos offset) in
        unfolded_place expr (Member base offset false) word form (record {
          number = after;
          is = moved_number found.0 comes.number offset word comes.is found.2;
          leads = λ now later tasks slots point rest. comes.leads now later (Shift offset ∷ tasks) slots point (ShiftsKnown offset comes.number after refl rest);
        })
    place_known expr (Member base offset true) form word is =
        let found = some_map (λ (at : Word). moved at (pos offset)) (known Value base) word is in
        let comes = knows Value base found.0 found.1 in
        let after : ℕ = wrapped (pos comes.number +ℤ pos offset) in
        unfolded_place expr (Member base offset true) word form (record {
          number = after;
          is = moved_number found.0 comes.number offset word comes.is found.2;
          leads = λ now later tasks slots point rest. comes.leads now later (Shift offset ∷ tasks) slots point (ShiftsKnown offset comes.number after refl rest);
        })
    place_known expr other form word is = absurd (none-some word is)

  -- within so many levels
  pub levels_known : (levels : ℕ) → AreKnown (known_word levels t [])
  levels_known zero asked expr word is = absurd (none-some word is)
  levels_known (suc levels) Value expr word is = value_known (known_word levels t []) (levels_known levels) expr (t.form expr) refl word is
  levels_known (suc levels) PlaceAsked expr word is = place_known (known_word levels t []) (levels_known levels) expr (t.form expr) refl word is
