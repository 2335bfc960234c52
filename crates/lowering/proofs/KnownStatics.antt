-- What an expression comes to without a memory is a number, or an address in one of the objects that names stand for.
use Rattle.std.proofs.Common.{◌≡◌, ℕ, zero, suc, Bool, true, false, List, [], subst, pos, ℤ, Option, None, Some, option_map, option_and_then}
use Rattle.std.proofs.lemmas.Option.{same_Some, none-some}
use Rattle.cbase.specs.declared.tree.operators.BinaryOp.{BinaryOp}
use Rattle.cbase.specs.declared.tree.operators.BinaryOp.TheVariants.{Add, Sub, Equal, NotEqual, Both, Either, Comma}
use Rattle.cbase.specs.declared.tree.operators.UnaryOp.{UnaryOp}
use Rattle.cbase.specs.declared.tree.operators.UnaryOp.TheVariants.{Address, Follow, Not}
use Rattle.bytes_core.specs.declared.word.Word.{Word}
use Rattle.bytes_core.specs.declared.word.Word.TheVariants.{Plain, To}
use Rattle.bytes_core.specs.Value.{moved, is_same_address}
use Rattle.c_machine.specs.declared.kind.Kind.{Kind}
use Rattle.c_machine.specs.declared.kind.Kind.TheVariants.{Integer, Pointer, Void}
use Rattle.c_machine.specs.Text.{Standing, ObjectStands, ConstantStands, Form, Name as NameForm, Known, Unary, Binary, Choose, Cast, Index, Member, Text}
use Rattle.c_machine.specs.Expressions.{value_kind}
use Rattle.c_machine.specs.Words.{is_true, told, as_kind, as_address, operated, moved_by}
use Rattle.typing.specs.values.Values.{of_unary, of_binary}
use Rattle.simulation.specs.Names.{Name, variable_in}
use Rattle.lowering.specs.Known.{Asked, Value, Place as PlaceAsked, operated_on, applied_to, converted_to, answered, truth_of, named_word, name_word, both, and_then, or_else, picked, binary_word, word_as, value_word, place_word, known_word}
use Rattle.lowering.proofs.KnownWords.{array_at, some_both, some_then, some_map}

module _ (t : Text) (names : List Name) (Is : ℕ → Type 0) (each : (token variable : ℕ) → variable_in names token ≡ Some variable → Is variable) where
  abbrev pub Leads : Word → Type 0
  Leads (Plain number) = Unit {0}
  Leads (To block offset) = Is block

  moved_leads : (word : Word) (by : ℤ) → Leads word → Leads (moved word by)
  moved_leads (Plain number) by leads = tt
  moved_leads (To block offset) by leads = leads

  plain_leads : (found : Option ℕ) (word : Word) → option_map Plain found ≡ Some word → Leads word
  plain_leads found word is = let number = some_map Plain found word is in subst Leads number.2 tt

  told_leads : (asked holds : Bool) (word : Word) → told asked holds ≡ word → Leads word
  told_leads true holds word is = subst Leads is tt
  told_leads false holds word is = subst Leads is tt

  plain_operated : (op : BinaryOp) (left right : Kind) (one other : ℕ) (word : Word) → operated [] op left right (Plain one) (Plain other) ≡ Some word → Leads word
  plain_operated op (Integer left) (Integer right) one other word is = plain_leads (of_binary op left one right other) word is
  plain_operated Add (Pointer bytes) (Integer right) one other word is = subst Leads (same_Some (moved_by [] bytes (Plain one) right (Plain other) true) word is) tt
  plain_operated Add (Integer left) (Pointer bytes) one other word is = subst Leads (same_Some (moved_by [] bytes (Plain other) left (Plain one) true) word is) tt
  plain_operated Sub (Pointer bytes) (Integer right) one other word is = subst Leads (same_Some (moved_by [] bytes (Plain one) right (Plain other) false) word is) tt
  plain_operated Equal left right one other word is =
      told_leads true (is_same_address [] (as_address [] left (Plain one)) (as_address [] right (Plain other))) word
      (same_Some (told true (is_same_address [] (as_address [] left (Plain one)) (as_address [] right (Plain other)))) word is)
  plain_operated NotEqual left right one other word is =
      told_leads false (is_same_address [] (as_address [] left (Plain one)) (as_address [] right (Plain other))) word
      (same_Some (told false (is_same_address [] (as_address [] left (Plain one)) (as_address [] right (Plain other)))) word is)
  plain_operated op left right one other word is = absurd (none-some word is)

  operated_leads : (op : BinaryOp) (left right : Kind) (one other word : Word) → operated_on op left right one other ≡ Some word → Leads one → Leads other → Leads word
  operated_leads op left right (Plain one) (Plain other) word is leads leads' = plain_operated op left right one other word is
  operated_leads Add (Pointer bytes) (Integer right) (To block offset) (Plain other) word is leads leads' =
      subst Leads (same_Some (moved_by [] bytes (To block offset) right (Plain other) true) word is) leads
  operated_leads Sub (Pointer bytes) (Integer right) (To block offset) (Plain other) word is leads leads' =
      subst Leads (same_Some (moved_by [] bytes (To block offset) right (Plain other) false) word is) leads
  operated_leads Add (Integer left) (Pointer bytes) (Plain one) (To block offset) word is leads leads' =
      subst Leads (same_Some (moved_by [] bytes (To block offset) left (Plain one) true) word is) leads'
  operated_leads op left right one other word is leads leads' = absurd (none-some word is)

  kind_leads : (from to : Kind) (number : ℕ) → Leads (as_kind [] from to (Plain number))
  kind_leads from Void number = tt
  kind_leads (Integer from) (Integer to) number = tt
  kind_leads (Integer from) (Pointer bytes) number = tt
  kind_leads from (Integer to) number = tt
  kind_leads from to number = tt

  converted_leads : (from to : Kind) (before word : Word) → converted_to from to before ≡ Some word → Leads before → Leads word
  converted_leads from to (Plain number) word is leads = subst Leads (same_Some (as_kind [] from to (Plain number)) word is) (kind_leads from to number)
  converted_leads (Pointer from) (Pointer to) (To block offset) word is leads = subst Leads (same_Some (To block offset) word is) leads
  converted_leads from to (To block offset) word is leads = absurd (none-some word is)

  applied_leads : (op : UnaryOp) (kind : Kind) (before word : Word) → applied_to op kind before ≡ Some word → Leads word
  applied_leads op (Integer of) (Plain number) word is = plain_leads (of_unary op of number) word is
  applied_leads op kind (Plain number) word is = absurd (none-some word is)
  applied_leads op kind (To block offset) word is = absurd (none-some word is)

  answered_leads : (asked : Bool) (before word : Word) → answered asked before ≡ Some word → Leads word
  answered_leads asked (Plain number) word is = told_leads asked (is_true [] (Plain number)) word (same_Some (told asked (is_true [] (Plain number))) word is)
  answered_leads asked (To block offset) word is = absurd (none-some word is)

  named_leads : (standing : Standing) (word : Word) → named_word names standing ≡ Some word → Leads word
  named_leads (ObjectStands token) word is =
      let found = some_map (λ (variable : ℕ). To variable (pos 0)) (variable_in names token) word is in subst Leads found.2 (each token found.0 found.1)
  named_leads other word is = absurd (none-some word is)

  name_leads : (kind : Kind) (standing : Standing) (word : Word) → name_word names kind standing ≡ Some word → Leads word
  name_leads kind (ConstantStands bits) word is = subst Leads (same_Some (Plain bits) word is) tt
  name_leads kind other word is = named_leads other word (array_at kind (named_word names other) word is)

  and_leads : (truth : Option Bool) (after : Option Word) (word : Word) → and_then truth after ≡ Some word → (after ≡ Some word → Leads word) → Leads word
  and_leads (Some true) after word is leads = leads is
  and_leads (Some false) after word is leads = subst Leads (same_Some (Plain 0) word is) tt
  and_leads None after word is leads = absurd (none-some word is)

  or_leads : (truth : Option Bool) (after : Option Word) (word : Word) → or_else truth after ≡ Some word → (after ≡ Some word → Leads word) → Leads word
  or_leads (Some true) after word is leads = subst Leads (same_Some (Plain 1) word is) tt
  or_leads (Some false) after word is leads = leads is
  or_leads None after word is leads = absurd (none-some word is)

  pick_leads : (truth : Option Bool) (one other : Option Word) (word : Word) → picked truth one other ≡ Some word → (one ≡ Some word → Leads word) → (other ≡ Some word → Leads word) → Leads word
  pick_leads (Some true) one other word is leads leads' = leads is
  pick_leads (Some false) one other word is leads leads' = leads' is
  pick_leads None one other word is leads leads' = absurd (none-some word is)

  abbrev AreLed : (Asked → t.Expr → Option Word) → Type 0
  AreLed known = (asked : Asked) (expr : t.Expr) (word : Word) → known asked expr ≡ Some word → Leads word

  pub word_led : (known : Asked → t.Expr → Option Word) → AreLed known → (expr : t.Expr) (kind : Kind) (word : Word) → word_as t known expr kind ≡ Some word → Leads word
  word_led known led expr kind word is =
      let found = some_then (converted_to (value_kind t expr) kind) (known Value expr) word is in
      converted_leads (value_kind t expr) kind found.0 word found.2 (led Value expr found.0 found.1)

  answer_led : (known : Asked → t.Expr → Option Word) (asked : Bool) (expr : t.Expr) (word : Word) → option_and_then (answered asked) (known Value expr) ≡ Some word → Leads word
  answer_led known asked expr word is = let found = some_then (answered asked) (known Value expr) word is in answered_leads asked found.0 word found.2

  two_led : (known : Asked → t.Expr → Option Word) → AreLed known → (op : BinaryOp) (left right : t.Expr) (word : Word) →
      both (known Value left) (known Value right) (operated_on op (value_kind t left) (value_kind t right)) ≡ Some word → Leads word
  two_led known led op left right word is =
      let found = some_both (known Value left) (known Value right) (operated_on op (value_kind t left) (value_kind t right)) word is in
      operated_leads op (value_kind t left) (value_kind t right) found.0 found.1 word found.4 (led Value left found.0 found.2) (led Value right found.1 found.3)

  binary_led : (known : Asked → t.Expr → Option Word) → AreLed known → (op : BinaryOp) (left right : t.Expr) (word : Word) → binary_word t known op left right ≡ Some word → Leads word
  binary_led known led Both left right word is =
      and_leads (option_and_then truth_of (known Value left)) (option_and_then (answered true) (known Value right)) word is (answer_led known true right word)
  binary_led known led Either left right word is =
      or_leads (option_and_then truth_of (known Value left)) (option_and_then (answered true) (known Value right)) word is (answer_led known true right word)
  binary_led known led Comma left right word is = absurd (none-some word is)
  binary_led known led op left right word is = two_led known led op left right word is

  shift_led : (known : Asked → t.Expr → Option Word) → AreLed known → (asked : Asked) (base : t.Expr) (offset : ℕ) (word : Word) → option_map (λ at. moved at (pos offset)) (known asked base) ≡ Some word → Leads word
  shift_led known led asked base offset word is =
      let found = some_map (λ (at : Word). moved at (pos offset)) (known asked base) word is in subst Leads found.2 (moved_leads found.0 (pos offset) (led asked base found.0 found.1))

  value_led : (known : Asked → t.Expr → Option Word) → AreLed known → (expr : t.Expr) (form : Form t.Expr t.Stmt) (word : Word) → value_word t names known expr form ≡ Some word → Leads word
  value_led known led expr NameForm word is = name_leads (t.kind expr) (t.stands expr) word is
  value_led known led expr (Known bits) word is = plain_leads bits word is
  value_led known led expr (Unary Address arg) word is = led PlaceAsked arg word is
  value_led known led expr (Unary Follow arg) word is = led PlaceAsked expr word (array_at (t.kind expr) (known PlaceAsked expr) word is)
  value_led known led expr (Unary Not arg) word is = answer_led known false arg word is
  value_led known led expr (Unary op arg) word is =
      let found = some_then (applied_to op (value_kind t arg)) (known Value arg) word is in applied_leads op (value_kind t arg) found.0 word found.2
  value_led known led expr (Binary op left right) word is = binary_led known led op left right word is
  value_led known led expr (Choose test one other) word is =
      pick_leads (option_and_then truth_of (known Value test)) (word_as t known one (value_kind t expr)) (word_as t known other (value_kind t expr)) word is
      (word_led known led one (value_kind t expr) word) (word_led known led other (value_kind t expr) word)
  value_led known led expr (Cast arg) word is = word_led known led arg (t.kind expr) word is
  value_led known led expr (Index base index) word is = led PlaceAsked expr word (array_at (t.kind expr) (known PlaceAsked expr) word is)
  value_led known led expr (Member base offset through) word is = led PlaceAsked expr word (array_at (t.kind expr) (known PlaceAsked expr) word is)
  value_led known led expr other word is = absurd (none-some word is)

  place_led : (known : Asked → t.Expr → Option Word) → AreLed known → (expr : t.Expr) (form : Form t.Expr t.Stmt) (word : Word) → place_word t names known expr form ≡ Some word → Leads word
  place_led known led expr NameForm word is = named_leads (t.stands expr) word is
  place_led known led expr (Unary Follow arg) word is = led Value arg word is
  place_led known led expr (Index base index) word is = two_led known led Add base index word is
  place_led known led expr (Member base offset false) word is = shift_led known led PlaceAsked base offset word is
  place_led known led expr (Member base offset true) word is = shift_led known led Value base offset word is
  place_led known led expr other word is = absurd (none-some word is)

  pub known_leads : (levels : ℕ) → AreLed (known_word levels t names)
  known_leads zero asked expr word is = absurd (none-some word is)
  known_leads (suc levels) Value expr word is = value_led (known_word levels t names) (known_leads levels) expr (t.form expr) word is
  known_leads (suc levels) PlaceAsked expr word is = place_led (known_word levels t names) (known_leads levels) expr (t.form expr) word is
