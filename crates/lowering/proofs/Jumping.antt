-- Where `break`, `continue` and `return` lead: what stands around them, and which operands are held there.
--
-- It is asked of whatever is still to be done only which loop and which body stand behind (`loop_left`, `body_left`), so it holds of parts of an expression, too.
use Rattle.std.proofs.Common.{◌≡◌, ◌<◌, ◌≤◌, ℕ, ◌+◌, List, [], ◌∷◌, ◌++◌, map, length, Bool, true, false, not, ◌&&◌, nat_eq, refl, sym, ap, ◌∙◌, arith, subst, Option, None, Some, option_map}
use Rattle.std.specs.Prelude.{replicate}
use Rattle.std.proofs.lemmas.Bool.{false≢true, ne_eqb, and_from, and_parts, not_from_false}
use Rattle.std.proofs.lemmas.List.{length-append}
use Rattle.cbase.specs.declared.place.Place.{Place}
use Rattle.c_machine.specs.declared.kind.Kind.{Kind}
use Rattle.c_machine.specs.declared.kind.Kind.TheVariants.{Integer, Void}
use Rattle.c_machine.specs.declared.task.Task.TheVariants.{LeaveBlock}
use Rattle.c_machine.specs.State.{TaskIn}
use Rattle.c_machine.specs.Statements.{LoopLeft, loop_left, one_more, after_break, after_continue, BodyLeft, body_left}
use Rattle.c_machine.specs.Text.{Text}
use Rattle.flow.specs.declared.flow_graph.Flow.{Flow}
use Rattle.flow.specs.declared.flow_graph.Standing.{Standing}
use Rattle.flow.specs.declared.flow_graph.Width.{Width}
use Rattle.flow.specs.declared.instruction.Instr.TheVariants as i
use Rattle.flow.specs.Valid.{is_local}
use Rattle.simulation.specs.Edges.{One}
use Rattle.simulation.specs.Lowered.{Stop, IsIn, Behind, Lowered}
use Rattle.simulation.specs.Names.{Name, names_of, variable_in, are_new}
use Rattle.simulation.specs.Running.{Setting, Running, given_slot}
use Rattle.simulation.specs.Slots.{Slot, InRegister, KnownAs, Truth, Gone, is_free, is_whole, are_free, is_in, are_in}
use Rattle.simulation.proofs.Wider.{wider}
use Rattle.lowering.specs.Placing.{Loop as LoopAround, Around, within, in_loop, registers_of}

-- registers below a number
abbrev pub AreUnder : ℕ → List ℕ → Type 0
AreUnder count [] = Unit {0}
AreUnder count (register ∷ registers) = (register < count) × AreUnder count registers

pub under_more : (count more : ℕ) (registers : List ℕ) → count ≤ more → AreUnder count registers → AreUnder more registers
under_more count more [] less under = tt
under_more count more (register ∷ registers) less under = (let h = under.0 in omega arith, under_more count more registers less under.1)

-- the registers that stand around the loop
abbrev pub registers_in : List Width → List ℕ
registers_in stands = map (λ one. one.register) stands

abbrev pub loop_registers : Option LoopAround → List ℕ
loop_registers None = []
loop_registers (Some loop) = registers_in loop.registers

-- a register that is neither that of the function's result nor one that stands around the loop
abbrev pub IsOwn : Around → ℕ → Type 0
IsOwn around register = (around.result < register) × AreUnder register (loop_registers around.loop)

free_under : (register size : ℕ) (plain : Bool) (registers : List ℕ) (slots : List Slot) → AreUnder register registers → are_free registers slots ≡ true → are_free registers (InRegister register size plain ∷ slots) ≡ true
free_under register size plain [] slots under free = refl
free_under register size plain (other ∷ registers) slots under free =
    let parts = and_parts (is_free other slots) (are_free registers slots) free in
    and_from (not (nat_eq register other) && is_free other slots) (are_free registers (InRegister register size plain ∷ slots))
    (and_from (not (nat_eq register other)) (is_free other slots) (not_from_false (nat_eq register other) (ne_eqb register other (λ same. let h = under.0 in absurd (omega arith)))) parts.0)
    (free_under register size plain registers slots under.1 parts.1)

free_else : (registers : List ℕ) (slot : Slot) (slots : List Slot) → is_in [] slot ≡ true → are_free registers slots ≡ true → are_free registers (slot ∷ slots) ≡ true
free_else registers (InRegister register size plain) slots is free = absurd (false≢true is)
free_else [] slot slots is free = refl
free_else (other ∷ registers) (KnownAs number) slots is free =
    let parts = and_parts (is_free other slots) (are_free registers slots) free in
    and_from (is_free other slots) (are_free registers (KnownAs number ∷ slots)) parts.0 (free_else registers (KnownAs number) slots is parts.1)
free_else (other ∷ registers) (Truth holds) slots is free =
    let parts = and_parts (is_free other slots) (are_free registers slots) free in
    and_from (is_free other slots) (are_free registers (Truth holds ∷ slots)) parts.0 (free_else registers (Truth holds) slots is parts.1)
free_else (other ∷ registers) Gone slots is free =
    let parts = and_parts (is_free other slots) (are_free registers slots) free in
    and_from (is_free other slots) (are_free registers (Gone ∷ slots)) parts.0 (free_else registers Gone slots is parts.1)

no_slots : (registers : List ℕ) → are_free registers [] ≡ true
no_slots [] = refl
no_slots (register ∷ registers) = no_slots registers

-- blocks are apart from those around them
abbrev pub AreApart : List (List Name) → Type 0
AreApart [] = Unit {0}
AreApart (names ∷ scopes) = (are_new names (names_of scopes) ≡ true) × AreApart scopes

-- where what a function gives stands: a number, or what may lead to a block
abbrev pub given_by : Kind → ℕ → Slot
given_by Void register = KnownAs 0
given_by (Integer of) register = InRegister register of.bytes true
given_by kind register = InRegister register 8 false

-- a stop among more of them
module _ (t : Text) where
  pub in_rest : (stop : Stop t) (one other : List (Stop t)) → IsIn t stop other → IsIn t stop (one ++ other)
  in_rest stop [] other is = is
  in_rest stop (first ∷ one) other is = Behind (in_rest stop one other is)

  pub none_within : (other : List (Stop t)) (stop : Stop t) → IsIn t stop [] → IsIn t stop other
  none_within other stop is = elim is [ ]

module _ (t : Text) (flow : Flow) (setting : Setting) (running : Running) where
  -- a jump: it leaves the innermost blocks, and goes on behind them with so many blocks and with the operands that are kept
  pub record JumpIs (around : Around) (stops : List (Stop t)) (kept : List Slot) (count at : ℕ) (onward : Place → List (TaskIn t) → List (TaskIn t)) : Type 0 where
    pub blocks : List (List Name)
    pub outside : List (List Name)
    pub scopes : around.scopes ≡ blocks ++ outside
    pub size : length outside ≡ count
    pub behind : List (TaskIn t)
    pub goes : (word : Place) (rest : List (TaskIn t)) → onward word rest ≡ (replicate (length blocks) (LeaveBlock word) ++ behind) ++ rest
    pub leads : Lowered t flow setting running stops [] outside behind kept at

  abbrev pub on_break : LoopLeft t.Expr t.Stmt t.Init → Place → List (TaskIn t) → List (TaskIn t)
  on_break found word rest = after_break t word (record found { rest = found.rest ++ rest })

  abbrev pub on_continue : LoopLeft t.Expr t.Stmt t.Init → Place → List (TaskIn t) → List (TaskIn t)
  on_continue found word rest = after_continue word (record found { rest = found.rest ++ rest })

  -- a loop around: the operands that it was begun with are kept, in registers that stand around it, and the others are dropped
  pub record IsInLoop (around : Around) (stops : List (Stop t)) (left : Option (LoopLeft t.Expr t.Stmt t.Init)) (slots : List Slot) (loop : LoopAround) : Type 0 where
    pub found : LoopLeft t.Expr t.Stmt t.Init
    pub is : left ≡ Some found
    pub dropped : List Slot
    pub kept : List Slot
    pub split : slots ≡ dropped ++ kept
    pub held : found.held ≡ length kept + running.base
    pub whole : is_whole kept ≡ true
    pub stand : are_in (registers_in loop.registers) kept ≡ true
    pub apart : are_free (registers_in loop.registers) dropped ≡ true
    pub order : loop.outer ≤ loop.inner
    pub breaks : JumpIs around stops kept loop.outer loop.behind (on_break found)
    pub continues : JumpIs around stops kept loop.inner loop.again (on_continue found)

  abbrev pub LoopIs : Around → List (Stop t) → Option (LoopLeft t.Expr t.Stmt t.Init) → List Slot → Option LoopAround → Type 0
  LoopIs around stops left slots None = Unit {0}
  LoopIs around stops left slots (Some loop) = IsInLoop around stops left slots loop

  -- the exit of the function that runs, where what it gives is given back
  pub record HasExit (around : Around) : Type 0 where
    pub closes : running.closes ≡ around.closes
    pub from : Option ℕ
    pub given : given_slot running.gives from ≡ Some (given_by around.kind around.result)
    pub to : ℕ
    pub place : Place
    pub edge : One flow around.exit (i.Return from) to place

  -- the body around
  pub record IsInBody (around : Around) (body : Option (BodyLeft t.Expr t.Stmt t.Init)) : Type 0 where
    pub found : BodyLeft t.Expr t.Stmt t.Init
    pub is : body ≡ Some found
    pub held : found.held ≡ running.base
    pub rest : found.rest ≡ []
    pub result : found.result ≡ around.kind
    pub exit : HasExit around

  -- registers from `count` on are new, and no block has a static variable
  pub record AreJumps (around : Around) (stops : List (Stop t)) (left : Option (LoopLeft t.Expr t.Stmt t.Init)) (body : Option (BodyLeft t.Expr t.Stmt t.Init)) (count : ℕ) (slots : List Slot) : Type 0 where
    pub blocks : AreApart around.scopes
    pub fixed : (token variable : ℕ) → variable_in around.statics token ≡ Some variable → is_local flow variable ≡ false
    pub result : around.result < count
    pub under : AreUnder count (loop_registers around.loop)
    pub free : is_free around.result slots ≡ true
    pub loop : LoopIs around stops left slots around.loop
    pub returns : IsInBody around body

  pub own_new : (around : Around) (stops : List (Stop t)) (left : Option (LoopLeft t.Expr t.Stmt t.Init)) (body : Option (BodyLeft t.Expr t.Stmt t.Init)) (count register : ℕ) (slots : List Slot) → count ≤ register →
      AreJumps around stops left body count slots → IsOwn around register
  own_new around stops left body count register slots less jumps = (let h = jumps.result in omega arith, under_more count register (loop_registers around.loop) less jumps.under)

  pub jumps_later : (around : Around) (stops : List (Stop t)) (left : Option (LoopLeft t.Expr t.Stmt t.Init)) (body : Option (BodyLeft t.Expr t.Stmt t.Init)) (count more : ℕ) (slots : List Slot) → count ≤ more →
      AreJumps around stops left body count slots → AreJumps around stops left body more slots
  jumps_later around stops left body count more slots less jumps = record {
    blocks = jumps.blocks;
    fixed = jumps.fixed;
    result = let h = jumps.result in omega arith;
    under = under_more count more (loop_registers around.loop) less jumps.under;
    free = jumps.free;
    loop = jumps.loop;
    returns = jumps.returns;
  }

  -- one operand more: it is dropped by a jump
  in_loop_with : (around : Around) (stops : List (Stop t)) (left : Option (LoopLeft t.Expr t.Stmt t.Init)) (slot : Slot) (slots : List Slot) (loop : LoopAround) →
      ((dropped : List Slot) → are_free (registers_in loop.registers) dropped ≡ true → are_free (registers_in loop.registers) (slot ∷ dropped) ≡ true) →
      IsInLoop around stops left slots loop → IsInLoop around stops left (slot ∷ slots) loop
  in_loop_with around stops left slot slots loop more inside = record {
    found = inside.found;
    is = inside.is;
    dropped = slot ∷ inside.dropped;
    kept = inside.kept;
    split = ap (λ (list : List Slot). slot ∷ list) inside.split;
    held = inside.held;
    whole = inside.whole;
    stand = inside.stand;
    apart = more inside.dropped inside.apart;
    order = inside.order;
    breaks = inside.breaks;
    continues = inside.continues;
  }

  loop_with : (around : Around) (stops : List (Stop t)) (left : Option (LoopLeft t.Expr t.Stmt t.Init)) (slot : Slot) (slots : List Slot) (loop : Option LoopAround) →
      ((dropped : List Slot) → are_free (loop_registers loop) dropped ≡ true → are_free (loop_registers loop) (slot ∷ dropped) ≡ true) → LoopIs around stops left slots loop → LoopIs around stops left (slot ∷ slots) loop
  loop_with around stops left slot slots None more inside = tt
  loop_with around stops left slot slots (Some loop) more inside = in_loop_with around stops left slot slots loop more inside

  pub jumps_more : (around : Around) (stops : List (Stop t)) (left : Option (LoopLeft t.Expr t.Stmt t.Init)) (body : Option (BodyLeft t.Expr t.Stmt t.Init)) (count register size : ℕ) (plain : Bool) (slots : List Slot) →
      IsOwn around register → AreJumps around stops left body count slots → AreJumps around stops left body count (InRegister register size plain ∷ slots)
  jumps_more around stops left body count register size plain slots own jumps = record {
    blocks = jumps.blocks;
    fixed = jumps.fixed;
    result = jumps.result;
    under = jumps.under;
    free = and_from (not (nat_eq register around.result)) (is_free around.result slots)
        (not_from_false (nat_eq register around.result) (ne_eqb register around.result (λ same. let h = own.0 in absurd (omega arith)))) jumps.free;
    loop = loop_with around stops left (InRegister register size plain) slots around.loop (λ dropped apart. free_under register size plain (loop_registers around.loop) dropped own.1 apart) jumps.loop;
    returns = jumps.returns;
  }

  free_of : (register : ℕ) (slot : Slot) (slots : List Slot) → is_in [] slot ≡ true → is_free register slots ≡ true → is_free register (slot ∷ slots) ≡ true
  free_of register (InRegister other size plain) slots is free = absurd (false≢true is)
  free_of register (KnownAs number) slots is free = free
  free_of register (Truth holds) slots is free = free
  free_of register Gone slots is free = free

  -- and one that stands in no register
  pub jumps_else : (around : Around) (stops : List (Stop t)) (left : Option (LoopLeft t.Expr t.Stmt t.Init)) (body : Option (BodyLeft t.Expr t.Stmt t.Init)) (count : ℕ) (slot : Slot) (slots : List Slot) → is_in [] slot ≡ true →
      AreJumps around stops left body count slots → AreJumps around stops left body count (slot ∷ slots)
  jumps_else around stops left body count slot slots is jumps = record {
    blocks = jumps.blocks;
    fixed = jumps.fixed;
    result = jumps.result;
    under = jumps.under;
    free = free_of around.result slot slots is jumps.free;
    loop = loop_with around stops left slot slots around.loop (λ dropped apart. free_else (loop_registers around.loop) slot dropped is apart) jumps.loop;
    returns = jumps.returns;
  }

  -- more stops
  jump_wider : (around : Around) (stops more : List (Stop t)) (kept : List Slot) (count at : ℕ) (onward : Place → List (TaskIn t) → List (TaskIn t)) → ((other : Stop t) → IsIn t other stops → IsIn t other more) →
      JumpIs around stops kept count at onward → JumpIs around more kept count at onward
  jump_wider around stops more kept count at onward within jump = record {
    blocks = jump.blocks;
    outside = jump.outside;
    scopes = jump.scopes;
    size = jump.size;
    behind = jump.behind;
    goes = jump.goes;
    leads = wider t flow setting running jump.leads more [] within (λ other inside. inside);
  }

  loop_wider : (around : Around) (stops more : List (Stop t)) (left : Option (LoopLeft t.Expr t.Stmt t.Init)) (slots : List Slot) (loop : Option LoopAround) → ((other : Stop t) → IsIn t other stops → IsIn t other more) →
      LoopIs around stops left slots loop → LoopIs around more left slots loop
  loop_wider around stops more left slots None within inside = tt
  loop_wider around stops more left slots (Some loop) within inside = record {
    found = inside.found;
    is = inside.is;
    dropped = inside.dropped;
    kept = inside.kept;
    split = inside.split;
    held = inside.held;
    whole = inside.whole;
    stand = inside.stand;
    apart = inside.apart;
    order = inside.order;
    breaks = jump_wider around stops more inside.kept loop.outer loop.behind (on_break inside.found) within inside.breaks;
    continues = jump_wider around stops more inside.kept loop.inner loop.again (on_continue inside.found) within inside.continues;
  }

  pub jumps_wider : (around : Around) (stops more : List (Stop t)) (left : Option (LoopLeft t.Expr t.Stmt t.Init)) (body : Option (BodyLeft t.Expr t.Stmt t.Init)) (count : ℕ) (slots : List Slot) →
      ((other : Stop t) → IsIn t other stops → IsIn t other more) → AreJumps around stops left body count slots → AreJumps around more left body count slots
  jumps_wider around stops more left body count slots within jumps = record {
    blocks = jumps.blocks;
    fixed = jumps.fixed;
    result = jumps.result;
    under = jumps.under;
    free = jumps.free;
    loop = loop_wider around stops more left slots around.loop within jumps.loop;
    returns = jumps.returns;
  }

  -- within a block: a jump leaves it first
  jump_within : (around : Around) (names : List Name) (stops : List (Stop t)) (kept : List Slot) (count at : ℕ) (onward onward' : Place → List (TaskIn t) → List (TaskIn t)) →
      ((word : Place) (rest : List (TaskIn t)) → onward' word rest ≡ LeaveBlock word ∷ onward word rest) → JumpIs around stops kept count at onward → JumpIs (within names around) stops kept count at onward'
  jump_within around names stops kept count at onward onward' first jump = record {
    blocks = names ∷ jump.blocks;
    outside = jump.outside;
    scopes = ap (λ (scopes : List (List Name)). names ∷ scopes) jump.scopes;
    size = jump.size;
    behind = jump.behind;
    goes = λ word rest. first word rest ∙ ap (λ (list : List (TaskIn t)). LeaveBlock word ∷ list) (jump.goes word rest);
    leads = jump.leads;
  }

  loop_within : (around : Around) (names : List Name) (stops : List (Stop t)) (left : Option (LoopLeft t.Expr t.Stmt t.Init)) (slots : List Slot) (loop : Option LoopAround) →
      LoopIs around stops left slots loop → LoopIs (within names around) stops (option_map one_more left) slots loop
  loop_within around names stops left slots None inside = tt
  loop_within around names stops left slots (Some loop) inside = record {
    found = one_more inside.found;
    is = ap (option_map one_more) inside.is;
    dropped = inside.dropped;
    kept = inside.kept;
    split = inside.split;
    held = inside.held;
    whole = inside.whole;
    stand = inside.stand;
    apart = inside.apart;
    order = inside.order;
    breaks = jump_within around names stops inside.kept loop.outer loop.behind (on_break inside.found) (on_break (one_more inside.found)) (λ word rest. refl) inside.breaks;
    continues = jump_within around names stops inside.kept loop.inner loop.again (on_continue inside.found) (on_continue (one_more inside.found)) (λ word rest. refl) inside.continues;
  }

  exit_of : (around inside : Around) → inside.exit ≡ around.exit → inside.closes ≡ around.closes → inside.kind ≡ around.kind → inside.result ≡ around.result → HasExit around → HasExit inside
  exit_of around inside at closes kind result exit = record {
    closes = exit.closes ∙ sym closes;
    from = exit.from;
    given = exit.given ∙ ap Some (ap (λ (k : Kind). given_by k around.result) (sym kind) ∙ ap (given_by inside.kind) (sym result));
    to = exit.to;
    place = exit.place;
    edge = subst (λ (n : ℕ). One flow n (i.Return exit.from) exit.to exit.place) (sym at) exit.edge;
  }

  body_of : (around inside : Around) (body : Option (BodyLeft t.Expr t.Stmt t.Init)) → inside.exit ≡ around.exit → inside.closes ≡ around.closes → inside.kind ≡ around.kind → inside.result ≡ around.result →
      IsInBody around body → IsInBody inside body
  body_of around inside body at closes kind result returns = record {
    found = returns.found;
    is = returns.is;
    held = returns.held;
    rest = returns.rest;
    result = returns.result ∙ sym kind;
    exit = exit_of around inside at closes kind result returns.exit;
  }

  pub in_block_jumps : (around : Around) (names : List Name) (stops : List (Stop t)) (left : Option (LoopLeft t.Expr t.Stmt t.Init)) (body : Option (BodyLeft t.Expr t.Stmt t.Init)) (count : ℕ) (slots : List Slot) →
      are_new names (names_of around.scopes) ≡ true → AreJumps around stops left body count slots → AreJumps (within names around) stops (option_map one_more left) body count slots
  in_block_jumps around names stops left body count slots new jumps = record {
    blocks = (new, jumps.blocks);
    fixed = jumps.fixed;
    result = jumps.result;
    under = jumps.under;
    free = jumps.free;
    loop = loop_within around names stops left slots around.loop jumps.loop;
    returns = body_of around (within names around) body refl refl refl refl jumps.returns;
  }

  -- within the body of a loop: operands stand in what stands at the loop. A `for` is a block of its own, which a `break` leaves
  pub in_body_of : (outside inside : Around) (again behind : ℕ) (standing : Standing) (stops : List (Stop t)) (left : LoopLeft t.Expr t.Stmt t.Init) (left' : Option (LoopLeft t.Expr t.Stmt t.Init)) (body : Option (BodyLeft t.Expr t.Stmt t.Init)) (count : ℕ) (slots : List Slot)
      (blocks : List (List Name)) (tasks tasks' : List (TaskIn t)) → inside.scopes ≡ blocks ++ outside.scopes → left.held ≡ length slots + running.base →
      ((word : Place) (rest : List (TaskIn t)) → on_break left word rest ≡ (replicate (length blocks) (LeaveBlock word) ++ tasks) ++ rest) →
      ((word : Place) (rest : List (TaskIn t)) → on_continue left word rest ≡ tasks' ++ rest) → is_whole slots ≡ true → are_in (registers_of standing) slots ≡ true →
      AreUnder count (registers_of standing) → Lowered t flow setting running stops [] outside.scopes tasks slots behind → Lowered t flow setting running stops [] inside.scopes tasks' slots again →
      AreJumps inside stops left' body count slots → AreJumps (in_loop outside inside again behind standing) stops (Some left) body count slots
  in_body_of outside inside again behind standing stops left left' body count slots blocks tasks tasks' scopes held breaks continues whole stand under leaves turns jumps = record {
    blocks = jumps.blocks;
    fixed = jumps.fixed;
    result = jumps.result;
    under = under;
    free = jumps.free;
    loop = record {
      found = left;
      is = refl;
      dropped = [];
      kept = slots;
      split = refl;
      held = held;
      whole = whole;
      stand = stand;
      apart = no_slots (registers_of standing);
      order = let many : length inside.scopes ≡ length blocks + length outside.scopes = ap length scopes ∙ length-append blocks outside.scopes in omega (arith, many);
      breaks = record { blocks = blocks; outside = outside.scopes; scopes = scopes; size = refl; behind = tasks; goes = breaks; leads = leaves };
      continues = record { blocks = []; outside = inside.scopes; scopes = refl; size = refl; behind = tasks'; goes = continues; leads = turns };
    };
    returns = body_of inside (in_loop outside inside again behind standing) body refl refl refl refl jumps.returns;
  }

  -- where a part of the function is in work: what is still to be done tells the loop and the body
  abbrev pub Jumps : Around → List (Stop t) → List (Stop t) → List (TaskIn t) → ℕ → List Slot → Type 0
  Jumps around now later tasks base slots = AreJumps around (later ++ now) (loop_left tasks) (body_left tasks) base slots
