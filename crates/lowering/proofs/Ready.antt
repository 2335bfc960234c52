-- What is asked of operands and registers where the placing of a form begins, and that a part of a line finds it as its line does.
use Rattle.std.proofs.Common.{◌≡◌, ◌≢◌, ◌<◌, ◌≤◌, ℕ, zero, suc, ◌+◌, List, [], ◌∷◌, Bool, true, not, nat_eq, refl, ◌∙◌, inl, arith, Option}
use Rattle.std.proofs.lemmas.Bool.{false≢true, ne_eqb, and_from, not_from_false}
use Rattle.cbase.specs.declared.place.Place.{Place}
use Rattle.c_machine.specs.declared.kind.Kind.{Kind}
use Rattle.c_machine.specs.declared.kind.Kind.TheVariants.{Integer, Pointer, Array, Struct, Void}
use Rattle.c_machine.specs.Statements.{LoopLeft, BodyLeft}
use Rattle.c_machine.specs.Text.{Text}
use Rattle.flow.specs.declared.flow_graph.Flow.{Flow}
use Rattle.flow.specs.declared.flow_graph.Standing.{Standing as Stood}
use Rattle.flow.specs.declared.instruction.Instr.{Instr}
use Rattle.simulation.specs.Edges.{One, Two, NoEdge}
use Rattle.simulation.specs.Lowered.{Stop}
use Rattle.simulation.specs.Running.{Setting, Running}
use Rattle.simulation.specs.Slots.{Slot, InRegister, KnownAs, Truth, Gone, is_free, is_whole}
use Rattle.lowering.specs.Kinds.{width}
use Rattle.lowering.specs.Moves.{Move, Emits, Parts, Stops, Fails}
use Rattle.lowering.specs.Placing.{Made, Around, with_point, along_at, go}
use Rattle.lowering.proofs.Jumping.{AreJumps, own_new, jumps_more, jumps_else}
use Rattle.lowering.proofs.Placings.{IsSound, IsPlacing, then_placing, point_placing, IsSpelled, spelled_point, spelled_first, spelled_rest, emit_spelled, pair_spelled, none_spelled}
use Rattle.lowering.proofs.PlacedForms.{standing_placing}
use Rattle.lowering.proofs.Placed.{go_placing}

-- registers of operands lie below a number
abbrev pub AreBelow : ℕ → List Slot → Type 0
AreBelow count [] = Unit {0}
AreBelow count (InRegister register size plain ∷ slots) = (register < count) × AreBelow count slots
AreBelow count (KnownAs bits ∷ slots) = AreBelow count slots
AreBelow count (Truth holds ∷ slots) = AreBelow count slots
AreBelow count (Gone ∷ slots) = AreBelow count slots

pub below_more : (count more : ℕ) (slots : List Slot) → count ≤ more → AreBelow count slots → AreBelow more slots
below_more count more [] less below = tt
below_more count more (InRegister register size plain ∷ slots) less below = (let h = below.0 in omega arith, below_more count more slots less below.1)
below_more count more (KnownAs bits ∷ slots) less below = below_more count more slots less below
below_more count more (Truth holds ∷ slots) less below = below_more count more slots less below
below_more count more (Gone ∷ slots) less below = below_more count more slots less below

pub free_below : (count register : ℕ) (slots : List Slot) → count ≤ register → AreBelow count slots → is_free register slots ≡ true
free_below count register [] less below = refl
free_below count register (InRegister other size plain ∷ slots) less below =
    and_from (not (nat_eq other register)) (is_free register slots)
    (not_from_false (nat_eq other register) (ne_eqb other register (λ same. let h = below.0 in absurd (omega arith)))) (free_below count register slots less below.1)
free_below count register (KnownAs bits ∷ slots) less below = free_below count register slots less below
free_below count register (Truth holds ∷ slots) less below = free_below count register slots less below
free_below count register (Gone ∷ slots) less below = free_below count register slots less below

pub free_beside : (register other size : ℕ) (plain : Bool) (slots : List Slot) → other ≢ register → is_free register slots ≡ true → is_free register (InRegister other size plain ∷ slots) ≡ true
free_beside register other size plain slots differ free =
    and_from (not (nat_eq other register)) (is_free register slots) (not_from_false (nat_eq other register) (ne_eqb other register differ)) free

-- where a value of a kind stands
abbrev pub slot_of : Kind → ℕ → Bool → Slot
slot_of Void into plain = KnownAs 0
slot_of kind into plain = InRegister into (width kind) plain

-- the registers that hold what is let go of are free
abbrev pub AreSpare : ℕ → ℕ → List Slot → Type 0
AreSpare spare count slots = (register : ℕ) → spare ≤ register → register < spare + count → is_free register slots ≡ true

pub spare_less : (spare left left' : ℕ) (slots : List Slot) → left' ≤ left → AreSpare spare left slots → AreSpare spare left' slots
spare_less spare left left' slots less are = λ register above below. are register above (omega arith)

pub spare_beside : (spare left register size : ℕ) (plain : Bool) (slots : List Slot) → spare + left ≤ register → AreSpare spare left slots → AreSpare spare left (InRegister register size plain ∷ slots)
spare_beside spare left register size plain slots above are =
    λ other least less. free_beside other register size plain slots (λ same. absurd (omega arith)) (are other least less)

-- the register that gets a value, where so many are taken and values are let go of in so many from the spare one on: it may be the spare one, and no other of
-- those
pub record IsTarget (count : ℕ) (slots : List Slot) (base spare left into : ℕ) : Type 0 where
  pub within : into < count
  pub free : is_free into slots ≡ true
  pub apart : (register : ℕ) → spare < register → register < spare + left → into ≢ register
  pub own : base ≤ into

-- a register of a form of its own, and that of the whole
pub own_target : {slots : List Slot} {base spare left : ℕ} (count register : ℕ) → base ≤ spare → spare + left ≤ register → register < count → is_free register slots ≡ true → IsTarget count slots base spare left register
own_target {base = base} {spare = spare} {left = left} count register least above within free =
    record { within = within; free = free; apart = λ other up down same. absurd (omega arith); own = omega arith }

pub same_target : {count : ℕ} {slots : List Slot} {base spare left into : ℕ} (count' left' : ℕ) → IsTarget count slots base spare left into → left' ≤ left → count ≤ count' → IsTarget count' slots base spare left' into
same_target {count = count} {spare = spare} {left = left} count' left' target less more =
    let h = target.within in
    record { within = omega arith; free = target.free; apart = λ register above below. target.apart register above (omega arith); own = target.own }

-- the same where another operand stands beside it
pub beside_target : {count : ℕ} {slots : List Slot} {base spare left into : ℕ} (count' left' register size : ℕ) (plain : Bool) → IsTarget count slots base spare left into → left' ≤ left → count ≤ count' → register ≢ into →
    IsTarget count' (InRegister register size plain ∷ slots) base spare left' into
beside_target {count = count} {slots = slots} {spare = spare} {left = left} {into = into} count' left' register size plain target less more differ =
    let h = target.within in
    record {
      within = omega arith;
      free = free_beside into register size plain slots differ target.free;
      apart = λ other above below. target.apart other above (omega arith);
      own = target.own;
    }

module _ (t : Text) (flow : Flow) (setting : Setting) (running : Running) where
  -- Where an expression begins: its unfinished operands stand in registers that were taken before, it lets go of values in so many registers from the spare one
  -- on, and it is known where `break`, `continue` and `return` lead from its statement expressions. Registers from `base` on are those of what begun within the
  -- loop around. Of what is still to be done only the loop and the body behind it are told.
  pub record IsReady (around : Around) (stops : List (Stop t)) (leaving : Option (LoopLeft t.Expr t.Stmt t.Init)) (body : Option (BodyLeft t.Expr t.Stmt t.Init)) (base count : ℕ) (slots : List Slot) (spare left : ℕ) : Type 0 where
    pub whole : is_whole slots ≡ true
    pub below : AreBelow count slots
    pub spares : AreSpare spare left slots
    pub room : spare + left ≤ count
    pub own : base ≤ spare
    pub jumps : AreJumps t flow setting running around stops leaving body base slots

module _ {t : Text} {flow : Flow} {setting : Setting} {running : Running} where
  -- a part that begins with the same operands
  pub part_ready : {around : Around} {stops : List (Stop t)} {leaving : Option (LoopLeft t.Expr t.Stmt t.Init)} {body : Option (BodyLeft t.Expr t.Stmt t.Init)} {base count : ℕ} {slots : List Slot} {spare left : ℕ} (count' left' : ℕ) →
      IsReady t flow setting running around stops leaving body base count slots spare left → count ≤ count' → left' ≤ left → IsReady t flow setting running around stops leaving body base count' slots spare left'
  part_ready {count = count} {slots = slots} {spare = spare} {left = left} count' left' ready more less =
      let h = ready.room in
      record {
        whole = ready.whole;
        below = below_more count count' slots more ready.below;
        spares = spare_less spare left left' slots less ready.spares;
        room = omega arith;
        own = ready.own;
        jumps = ready.jumps;
      }

  -- one that begins behind a value in a register of the form's own
  pub slot_ready : {around : Around} {stops : List (Stop t)} {leaving : Option (LoopLeft t.Expr t.Stmt t.Init)} {body : Option (BodyLeft t.Expr t.Stmt t.Init)} {base count : ℕ} {slots : List Slot} {spare left : ℕ}
      (count' left' into size : ℕ) (plain : Bool) → IsReady t flow setting running around stops leaving body base count slots spare left → count ≤ count' → left' ≤ left → spare + left' ≤ into → into < count' →
      IsReady t flow setting running around stops leaving body base count' (InRegister into size plain ∷ slots) spare left'
  slot_ready {around = around} {stops = stops} {leaving = leaving} {body = body} {base = base} {count = count} {slots = slots} {spare = spare} {left = left} count' left' into size plain ready more less above within =
      let h = ready.room in
      let k = ready.own in
      record {
        whole = ready.whole;
        below = (within, below_more count count' slots more ready.below);
        spares = spare_beside spare left' into size plain slots above (spare_less spare left left' slots less ready.spares);
        room = omega arith;
        own = ready.own;
        jumps = jumps_more t flow setting running around stops leaving body base into size plain slots (own_new t flow setting running around stops leaving body base into slots (omega arith) ready.jumps) ready.jumps;
      }

  -- and behind one that is known, or as one of a kind
  pub known_ready : {around : Around} {stops : List (Stop t)} {leaving : Option (LoopLeft t.Expr t.Stmt t.Init)} {body : Option (BodyLeft t.Expr t.Stmt t.Init)} {base count : ℕ} {slots : List Slot} {spare left : ℕ}
      (count' left' bits : ℕ) → IsReady t flow setting running around stops leaving body base count slots spare left → count ≤ count' → left' ≤ left → IsReady t flow setting running around stops leaving body base count' (KnownAs bits ∷ slots) spare left'
  known_ready {around = around} {stops = stops} {leaving = leaving} {body = body} {base = base} {count = count} {slots = slots} {spare = spare} {left = left} count' left' bits ready more less =
      let h = ready.room in
      record {
        whole = ready.whole;
        below = below_more count count' slots more ready.below;
        spares = spare_less spare left left' slots less ready.spares;
        room = omega arith;
        own = ready.own;
        jumps = jumps_else t flow setting running around stops leaving body base (KnownAs bits) slots refl ready.jumps;
      }

  pub kind_ready : {around : Around} {stops : List (Stop t)} {leaving : Option (LoopLeft t.Expr t.Stmt t.Init)} {body : Option (BodyLeft t.Expr t.Stmt t.Init)} {base count : ℕ} {slots : List Slot} {spare left : ℕ}
      (count' left' into : ℕ) (kind : Kind) (plain : Bool) → IsReady t flow setting running around stops leaving body base count slots spare left → count ≤ count' → left' ≤ left → spare + left' ≤ into → into < count' →
      IsReady t flow setting running around stops leaving body base count' (slot_of kind into plain ∷ slots) spare left'
  kind_ready count' left' into (Integer of) plain ready more less above within = slot_ready count' left' into of.bytes plain ready more less above within
  kind_ready count' left' into (Pointer item) plain ready more less above within = slot_ready count' left' into 8 plain ready more less above within
  kind_ready count' left' into (Array item) plain ready more less above within = slot_ready count' left' into 8 plain ready more less above within
  kind_ready count' left' into (Struct size) plain ready more less above within = slot_ready count' left' into 8 plain ready more less above within
  kind_ready count' left' into Void plain ready more less above within = known_ready count' left' 0 ready more less

  pub own_free : {around : Around} {stops : List (Stop t)} {leaving : Option (LoopLeft t.Expr t.Stmt t.Init)} {body : Option (BodyLeft t.Expr t.Stmt t.Init)} {base count : ℕ} {slots : List Slot} {spare left : ℕ} (register : ℕ) →
      IsReady t flow setting running around stops leaving body base count slots spare left → count ≤ register → is_free register slots ≡ true
  own_free {count = count} {slots = slots} register ready least = free_below count register slots least ready.below

module _ (t : Text) (flow : Flow) (setting : Setting) (running : Running) where
  -- the parts of a line
  abbrev pub mid : ℕ → Around → Made → ℕ → Stood → Move t → Made
  mid levels around made from standing move = go levels t around (with_point standing made) from move made.points

  abbrev pub rest_made : ℕ → Around → Made → ℕ → Stood → Move t → List (Move t) → ℕ → Made
  rest_made levels around made from standing move moves to = along_at t around (go levels t around) (mid levels around made from standing move) made.points standing moves to

  mid_placing : (levels : ℕ) (around : Around) (made : Made) (from : ℕ) (standing : Stood) (move : Move t) → from < made.points → IsSound made →
      IsPlacing (with_point standing made) from (mid levels around made from standing move)
  mid_placing levels around made from standing move inside sound =
      go_placing levels t around (with_point standing made) from move made.points (omega arith) (point_placing standing made from sound).sound

  pub head_spelled : (levels : ℕ) (around : Around) (made : Made) (from : ℕ) (standing : Stood) (move : Move t) (moves : List (Move t)) (to : ℕ) →
      IsSpelled flow made from (rest_made levels around made from standing move moves to) → IsSpelled flow (with_point standing made) from (mid levels around made from standing move)
  head_spelled levels around made from standing move moves to spelled =
      let inside = spelled.inside in
      let one = mid_placing levels around made from standing move inside spelled.sound in
      let h = one.points in
      spelled_first (spelled_point standing spelled)
      (standing_placing t around (go levels t around) (go_placing levels t around) (mid levels around made from standing move) made.points standing moves to (omega arith) one.sound)
      (omega arith) (λ same. absurd (omega arith))

  pub tail_spelled : (levels : ℕ) (around : Around) (made : Made) (from : ℕ) (standing : Stood) (move : Move t) (moves : List (Move t)) (to : ℕ) →
      IsSpelled flow made from (rest_made levels around made from standing move moves to) →
      IsSpelled flow (mid levels around made from standing move) made.points (rest_made levels around made from standing move moves to)
  tail_spelled levels around made from standing move moves to spelled =
      let inside = spelled.inside in
      let one = mid_placing levels around made from standing move inside spelled.sound in
      let h = one.points in
      spelled_rest spelled (then_placing (point_placing standing made from spelled.sound) one (inl refl)) (omega arith) (omega arith)
      (one.touches made.points (omega arith) (λ same. absurd (omega arith)) ∙ spelled.sound.fresh made.points (omega arith))

  pub fills : (levels : ℕ) (around : Around) (made : Made) (from : ℕ) (standing : Stood) (move : Move t) → from < made.points → IsSound made →
      made.registers ≤ (mid levels around made from standing move).registers
  fills levels around made from standing move inside sound = (mid_placing levels around made from standing move inside sound).registers

  -- an edge, and none
  pub one_at : (levels : ℕ) (around : Around) (made : Made) (from to : ℕ) (instr : Instr) (place : Place) → IsSpelled flow made from (go levels t around made from (Emits instr place) to) →
      One flow from instr to place
  one_at zero around made from to instr place spelled = emit_spelled to instr place spelled
  one_at (suc levels) around made from to instr place spelled = emit_spelled to instr place spelled

  pub none_at : (levels : ℕ) (around : Around) (made : Made) (from to : ℕ) → IsSpelled flow made from (go levels t around made from Stops to) → NoEdge flow from
  none_at zero around made from to spelled = none_spelled spelled
  none_at (suc levels) around made from to spelled = none_spelled spelled

  pub never : {A : Type 0} (levels : ℕ) (around : Around) (made : Made) (from to : ℕ) → IsSpelled flow made from (go levels t around made from Fails to) → A
  never zero around made from to spelled = absurd (false≢true spelled.graph)
  never (suc levels) around made from to spelled = absurd (false≢true spelled.graph)

  pub pair_at : (levels : ℕ) (around : Around) (made : Made) (from off on to : ℕ) (one other : Instr) (place : Place) → IsSpelled flow made from (go levels t around made from (Parts one off other on place) to) →
      Two flow from one off place other on place
  pair_at zero around made from off on to one other place spelled = pair_spelled off on one other place spelled
  pair_at (suc levels) around made from off on to one other place spelled = pair_spelled off on one other place spelled
