-- A scalar that stands in a static variable at the start, on a graph that shows a state.
use Rattle.std.proofs.Common.{◌≡◌, ℕ, ◌+◌, ◌^◌, ◌≤◌, Bool, true, not, List, [], ◌∷◌, length, take, set, replicate, nat_eq, pos, Option, Some, None, refl, sym, ◌∙◌, ap, subst, ltb-true, arith}
use Rattle.std.proofs.Math.Nat.{mod-eq_of_lt}
use Rattle.std.specs.Prelude.{filter}
use Rattle.std.specs.Option.{option_map_or}
use Rattle.std.proofs.lemmas.List.{length-replicate}
use Rattle.bytes_core.specs.declared.byte.Byte.{Byte}
use Rattle.bytes_core.specs.declared.block.Block.{Block}
use Rattle.bytes_core.specs.declared.word.Word.{Word}
use Rattle.bytes_core.specs.declared.word.Word.TheVariants.{Plain, To}
use Rattle.bytes_core.specs.Access.{stored}
use Rattle.bytes_core.specs.Value.{word_bytes}
use Rattle.graph.specs.declared.parts.Held.{Held}
use Rattle.graph.specs.declared.parts.Parts.{Parts}
use Rattle.graph.specs.declared.value.Value.{Value}
use Rattle.graph.specs.DeadBlocks.{with_memory}
use Rattle.graph.specs.Maps.{storage_of}
use Rattle.graph.specs.Meaning.{Assignment, Meets, ends_of, maps_of}
use Rattle.graph.specs.Sizes.{is_zero}
use Rattle.graph.specs.State.{State}
use Rattle.graph.proofs.Tests.{and_right}
use Rattle.changes.specs.Parts.{is_among, without_registers}
use Rattle.changes.specs.Ranges.{spliced, edge_for, class_for, cuts_none}
use Rattle.changes.proofs.Node.{block_with, low_has, low_long, written_holds}
use Rattle.changes.proofs.RangeForm.{fit_now}
use Rattle.changes.proofs.Region.{IsRegionBlock, region_block, region_changed}
use Rattle.changes.proofs.Value.{with_word, word-here}
use Rattle.changes.proofs.ValueForm.{value_new}
use Rattle.reinterpret.proofs.WriteSound.{stored_is}
use Rattle.flow.specs.declared.flow_graph.Flow.{Flow}
use Rattle.flow.specs.declared.flow_graph.Initial.{Initial}
use Rattle.flow.specs.declared.flow_graph.InitialWord.{InitialWord}
use Rattle.flow.specs.declared.flow_graph.InitialWord.TheVariants as initial
use Rattle.flow.specs.Holding.{Owned, block_of}
use Rattle.flow.specs.Runs.{initial_word}
use Rattle.flow.specs.Runs as runs
use Rattle.flow.specs.Valid.{is_fixed, is_initial, is_initial_word}
use Rattle.transfer.specs.Start.{AreNamed, address_of, initial_value, with_initial}
use Rattle.transfer.proofs.InitialWritten as written
use Rattle.plain.specs.Marks.{Mark, Marks, marked_at, with_marks, is_zero_in, written_mark}
use Rattle.plain.specs.Conditions.{CutNone}
use Rattle.plain.specs.Shown.{is_sure, IsShownBy, IsShown}
use Rattle.plain.specs.StartMarks.{with_initial_mark}
use Rattle.plain.proofs.RangedObjects.{ranged_marks, ranged_shown}
use Rattle.plain.proofs.Ranges.{range_high, cut_none}
use Rattle.plain.proofs.Registers.{more_shown}
use Rattle.plain.proofs.WritePlain.{some_scalar}
use Rattle.plain.proofs.WrittenMarks.{written_within, written_beside, written_tight, written_sure}

initial_sure : (parts : Parts) (size : ℕ) (word : InitialWord) → is_sure (initial_value parts size word) ≡ true
initial_sure parts size (initial.Number number) = refl
initial_sure parts size (initial.Address variable offset) = by_key (storage_of parts.variables variable)
  where
    by_key : (found : Option ℕ) → is_sure (address_of found offset) ≡ true
    by_key None = refl
    by_key (Some key) = refl

module _ (flow : Flow) (parts : Parts) (are : AreNamed flow parts) (scalar : Initial) (right : is_initial flow scalar ≡ true) (state : State) (statics : List Owned) (there : (at : ℕ) → state.variables at ≡ block_of statics at) (marks : Marks)
    (given : Assignment) (shown : IsShownBy parts state marks given) where
  abbrev key : ℕ
  key = length parts.values

  abbrev value : Value
  value = (written.v flow parts are scalar right).value

  abbrev more : Parts
  more = written.more flow parts are scalar right

  abbrev after : Parts
  after = written.after flow parts are scalar right

  abbrev word : Word
  word = initial_word statics scalar.word

  abbrev given' : Assignment
  given' = with_word key word given

  abbrev s : written.IsStored flow parts scalar.variable
  s = written.s flow parts are scalar right

  sure : is_sure value ≡ true
  sure = ap is_sure (sym (written.v flow parts are scalar right).is) ∙ initial_sure parts scalar.size scalar.word

  block_here : (variable : ℕ) (stored : written.IsStored flow parts variable) (number : ℕ) → given.blocks stored.key ≡ number ∷ [] → block_of statics variable ≡ Some number
  block_here = written.block_is flow parts are scalar right state statics there given shown.meets

  zero_of : (w : InitialWord) → is_initial_word flow scalar.size w ≡ true → is_zero_in scalar.size (initial_word statics w) ≡ is_zero (initial_value parts scalar.size w)
  zero_of (initial.Number number) valid = ap (λ (n : ℕ). nat_eq n 0) (mod-eq_of_lt (ltb-true number (256 ^ scalar.size) valid))
  zero_of (initial.Address variable offset) valid =
      let stored = written.stored_at flow parts variable are (and_right (nat_eq scalar.size 8) (is_fixed flow variable) valid) in
      let its = region_block parts state given stored.key stored.object shown.meets stored.stands stored.live stored.region in
      ap (λ (o : Option ℕ). is_zero_in scalar.size (option_map_or (λ block. To block offset) o (Plain 0))) (block_here variable stored its.number its.blocks)
      ∙ sym (ap (λ (o : Option ℕ). is_zero (address_of o offset)) stored.stored)

  zero : is_zero_in scalar.size word ≡ is_zero value
  zero = zero_of scalar.word (written.word_right flow parts are scalar right) ∙ ap is_zero (written.v flow parts are scalar right).is

  behind : IsShownBy more state marks given'
  behind = more_shown parts state marks given shown are.graph value word (written.v flow parts are scalar right).fit.held
      (written.has_word flow parts are scalar right state statics there given shown.meets scalar.word (written.word_right flow parts are scalar right))

  r : IsRegionBlock s.object state given' s.key
  r = region_block more state given' s.key s.object behind.meets s.stands s.live s.region

  abbrev bytes : List Byte
  bytes = take scalar.size (word_bytes (given'.word key))

  abbrev next : State
  next = with_memory (runs.with_initial statics scalar state.memory) state

  small : scalar.size ≤ 8
  small = written.small flow parts are scalar right

  room : scalar.at + scalar.size ≤ s.object.size
  room = written.room flow parts are scalar right

  number_is : block_of statics scalar.variable ≡ Some r.number
  number_is = block_here scalar.variable s r.number r.blocks

  meets_after : Meets (maps_of after) (with_memory (set state.memory r.number (block_with r.block (spliced r.block.bytes scalar.at bytes))) state) given'
  meets_after =
      region_changed more (written.more_graph flow parts are scalar right).well_formed state given' s.key scalar.at scalar.size s.object (edge_for value (written.edge flow parts are scalar right)) (replicate scalar.size (class_for value)) s.stands s.live s.region room
      r.number r.block bytes behind.meets r.blocks r.there r.node
      (low_long scalar.size (given'.word key) small)
      (low_has (length state.memory) given'.blocks (ends_of (maps_of more).objects given'.word) scalar.size value (given'.word key) small (behind.meets.values key value (value_new value parts are.graph)))
      (written_holds r.block.bytes (written.edge flow parts are scalar right) value given'.word small (let e = r.node.size in let most = room in omega arith))

  memory_is : runs.with_initial statics scalar state.memory ≡ set state.memory r.number (block_with r.block (spliced r.block.bytes scalar.at bytes))
  memory_is =
      ap (λ (o : Option ℕ). option_map_or (λ block. stored state.memory (To block (pos scalar.at)) scalar.size word) o state.memory) number_is
      ∙ ap (λ (w : Word). stored state.memory (To r.number (pos scalar.at)) scalar.size w) (sym (word-here key word given))
      ∙ stored_is state.memory r.number scalar.at scalar.size (given'.word key) r.block r.there

  meets_next : Meets (maps_of after) next given'
  meets_next = subst (λ (m : List Block). Meets (maps_of after) (with_memory m state) given') (sym memory_is) meets_after

  bare : without_registers [] after ≡ after
  bare = ap (λ (hs : List Held). record after { registers = filter (λ (held : Held). not (is_among [] held.register)) hs }) are.registers ∙ ap (λ (hs : List Held). record after { registers = hs }) (sym are.registers)

  marks_are : with_initial_mark statics scalar marks.of ≡ with_marks r.number scalar.at scalar.size (written_mark (is_zero_in scalar.size word) scalar.size scalar.at) marks.of
  marks_are = ap (λ (o : Option ℕ). option_map_or (λ block. marked_at (To block (pos scalar.at)) scalar.size (written_mark (is_zero_in scalar.size word) scalar.size) marks.of) o marks.of) number_is

  module _ (whole : (block : ℕ) → block_of statics scalar.variable ≡ Some block → CutNone (marks.of block) scalar.at scalar.size) where
    cuts : cuts_none scalar.at scalar.size s.object.edges ≡ true
    cuts =
        cut_none scalar.at scalar.size s.object.plane s.object.edges (some_scalar scalar.size (written.scalar_is flow parts are scalar right))
        (fit_now parts are.graph.well_formed s.key s.object s.stands s.region s.live).order
        (λ place piece size here is. whole r.number number_is place piece size here
        (shown.marked s.key r.number place s.object s.stands s.live r.blocks (let a = range_high scalar.at scalar.size place here in let b = room in omega arith) ∙ is))

    ranged : IsShownBy (without_registers [] after) next (ranged_marks r.number scalar.at scalar.size (written_mark (is_zero_in scalar.size word) scalar.size scalar.at) [] marks) given'
    ranged =
        ranged_shown more (written.more_graph flow parts are scalar right).well_formed state marks given' behind s.key scalar.at scalar.size s.object s.stands s.live s.region room r.number r.blocks
        (edge_for value (written.edge flow parts are scalar right)) (replicate scalar.size (class_for value)) (length-replicate scalar.size (class_for value))
        (written_mark (is_zero_in scalar.size word) scalar.size scalar.at) cuts
        (λ place here. ap (λ (b : Bool). written_mark b scalar.size scalar.at place) zero ∙ written_within scalar.at scalar.size key value place here)
        (written_beside scalar.at scalar.size key value) (written_tight scalar.at scalar.size key value)
        (written_sure scalar.at scalar.size key value more (value_new value parts are.graph) sure) [] next
        (subst (λ (p : Parts). Meets (maps_of p) next given') (sym bare) meets_next)

    pub initial_shown : IsShown (with_initial scalar parts) next (record { of = with_initial_mark statics scalar marks.of; input = marks.input })
    initial_shown = subst (λ (p : Parts). IsShown p next (record { of = with_initial_mark statics scalar marks.of; input = marks.input })) (sym (written.after_is flow parts are scalar right)) (record {
      given = given';
      by = subst (λ (of : ℕ → ℕ → Mark). IsShownBy after next (record { of = of; input = marks.input }) given') (sym marks_are)
          (subst (λ (p : Parts). IsShownBy p next (ranged_marks r.number scalar.at scalar.size (written_mark (is_zero_in scalar.size word) scalar.size scalar.at) [] marks) given') bare ranged);
    })
