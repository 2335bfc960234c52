-- The graph of the static variables, before a scalar stands in one, shows the states in which they are made.
use Rattle.std.proofs.Common.{◌≡◌, ℕ, zero, suc, ◌+◌, ◌^◌, ◌<◌, ◌≤◌, Bool, true, false, ◌&&◌, ◌||◌, List, [], ◌∷◌, length, get_or, replicate, nat_eq, nat_lt, Option, None, Some, refl, sym, ◌∙◌, ap, eqb-true, eq-eqb, arith, length-append}
use Rattle.std.specs.Prelude.{option_map, slice_get, if◌then◌else◌}
use Rattle.std.specs.List.{list_all, list_any}
use Rattle.std.proofs.lemmas.Bool.{false≢true}
use Rattle.std.proofs.lemmas.Option.{same_Some, none-some}
use Rattle.bytes_core.specs.declared.block.BlockKind.TheVariants.{Static}
use Rattle.graph.specs.declared.edges.HasValue.{HasValue}
use Rattle.graph.specs.declared.object.Object.{Object}
use Rattle.graph.specs.declared.parts.Held.{Held}
use Rattle.graph.specs.declared.parts.KeyedObject.{KeyedObject}
use Rattle.graph.specs.declared.parts.Parts.{Parts}
use Rattle.graph.specs.Maps.{object_at, storage_of, held_by}
use Rattle.graph.specs.WellFormed.{passes_at}
use Rattle.graph.specs.Whole.{no_parts}
use Rattle.changes.specs.Parts.{put}
use Rattle.changes.proofs.Appended.{found_new, found_else}
use Rattle.flow.specs.declared.flow_graph.Flow.{Flow}
use Rattle.flow.specs.declared.flow_graph.Variable.{Variable}
use Rattle.flow.specs.Holding.{Owned, block_of}
use Rattle.flow.specs.Machine.{State}
use Rattle.flow.specs.Machine as machine
use Rattle.flow.specs.Valid.{IsFlow}
use Rattle.edge_steps.specs.Seen.{seen}
use Rattle.block_steps.specs.Blocks.{new_object}
use Rattle.transfer.specs.Start.{AreNamed, with_static, with_statics}
use Rattle.transfer.proofs.StaticLoop.{AreStatics, IsMade, IsRest, rest_first, rest_later, small_at, objects_more, static_next, others_next, room, unnamed, shown}
use Rattle.transfer.proofs.StaticMade.{static_storage}
use Rattle.plain.specs.Marks.{Unwritten, Zeroed}
use Rattle.plain.specs.Shown.{is_sure, bare_mark, mark_at, is_loose_at, IsShownBy}
use Rattle.plain.specs.StartMarks.{static_marks}

-- the object of a static variable in which nothing stands
pub record IsZeros (parts : Parts) (key : ℕ) (object : Object) : Type 0 where
  pub variable : ℕ
  pub stored : storage_of parts.variables variable ≡ Some key
  pub size : ℕ
  pub is : object ≡ new_object Static size true

abbrev pub AreZeros : Parts → Type 0
AreZeros parts = (key : ℕ) (object : Object) → object_at parts.objects key ≡ Some object → IsZeros parts key object

module _ (flow : Flow) (number : ℕ) (parts : Parts) (are : AreStatics flow number parts) (variable : Variable) (there : slice_get flow.variables number ≡ Some variable) (small : variable.size ≤ 65536) (few : length parts.objects + 1 < 2 ^ 30)
    (fixed : variable.fixed ≡ true) (zeros : AreZeros parts) where
  abbrev next : Parts
  next = with_static number variable.size parts

  abbrev last : KeyedObject
  last = record { key = length parts.objects; object = new_object Static variable.size true }

  none_yet : storage_of parts.variables number ≡ None
  none_yet = unnamed flow number parts are variable there

  storage : (at : ℕ) → storage_of next.variables at ≡ put number (length parts.objects) (storage_of parts.variables) at
  storage = static_storage number variable.size parts are.graph small (room flow number parts are variable there small few fixed) none_yet are.below

  zeros_next : AreZeros next
  zeros_next key object stands = by_key (nat_eq key (length parts.objects)) refl
    where
      by_key : (b : Bool) → nat_eq key (length parts.objects) ≡ b → IsZeros next key object
      by_key true same = record {
        variable = number;
        stored = storage number ∙ ap (λ (b : Bool). if b then Some (length parts.objects) else storage_of parts.variables number) (eq-eqb number number refl) ∙ ap Some (sym (eqb-true _ _ same));
        size = variable.size;
        is = same_Some _ _ (sym stands ∙ ap (object_at next.objects) (eqb-true _ _ same) ∙ found_new (λ (entry : KeyedObject). entry.key) (λ entry. entry.object) parts.objects last are.graph.keys.objects refl);
      }
      by_key false apart =
          let was = zeros key object (sym (found_else (λ (entry : KeyedObject). entry.key) (λ entry. entry.object) parts.objects last key (λ same. false≢true (sym apart ∙ eq-eqb key (length parts.objects) same))) ∙ stands) in
          record { variable = was.variable; stored = storage was.variable ∙ miss was.variable was.stored; size = was.size; is = was.is }
        where
          miss : (at : ℕ) → storage_of parts.variables at ≡ Some key → put number (length parts.objects) (storage_of parts.variables) at ≡ Some key
          miss at stored = by_test (nat_eq at number) refl
            where
              by_test : (b : Bool) → nat_eq at number ≡ b → (if b then Some (length parts.objects) else storage_of parts.variables at) ≡ Some key
              by_test true same = absurd (none-some key (sym none_yet ∙ ap (storage_of parts.variables) (sym (eqb-true _ _ same)) ∙ stored))
              by_test false differ = stored

pub statics_zeros : (flow : Flow) (number : ℕ) (variables : List Variable) (parts : Parts) → IsFlow flow → IsRest flow number variables → length (with_statics number variables parts).objects < 2 ^ 30 → AreStatics flow number parts → AreZeros parts →
    AreZeros (with_statics number variables parts)
statics_zeros flow number [] parts valid rest_is few are zeros = zeros
statics_zeros flow number (variable ∷ rest) parts valid rest_is few are zeros =
    by_kind variable.fixed refl few (λ parts few are zeros. statics_zeros flow (number + 1) rest parts valid (rest_later flow number variable rest rest_is) few are zeros)
  where
    there : slice_get flow.variables number ≡ Some variable
    there = rest_first flow number variable rest rest_is

    by_kind : (b : Bool) → variable.fixed ≡ b → length (with_statics (number + 1) rest (if b then with_static number variable.size parts else parts)).objects < 2 ^ 30 →
        ((parts : Parts) → length (with_statics (number + 1) rest parts).objects < 2 ^ 30 → AreStatics flow (number + 1) parts → AreZeros parts → AreZeros (with_statics (number + 1) rest parts)) →
        AreZeros (with_statics (number + 1) rest (if b then with_static number variable.size parts else parts))
    by_kind true fixed few onward =
        onward (with_static number variable.size parts) few (static_next flow number parts are variable there small one_more fixed) (zeros_next flow number parts are variable there small one_more fixed zeros)
      where
        small : variable.size ≤ 65536
        small = small_at flow number variable valid there

        one_more : length parts.objects + 1 < 2 ^ 30
        one_more =
            let more = objects_more (number + 1) rest (with_static number variable.size parts) in
            let long = length-append parts.objects (record { key = length parts.objects; object = new_object Static variable.size true } ∷ []) in omega arith
    by_kind false loose few onward = onward parts few (others_next flow number parts are variable there loose) zeros

pub nothing_zeros : AreZeros no_parts
nothing_zeros key object stands = absurd (none-some object stands)

-- The state.

zero_at : (size place : ℕ) → ◌≡◌ {A = ℕ} (get_or (replicate size 0) place 0) 0
zero_at zero place = refl
zero_at (suc size) zero = refl
zero_at (suc size) (suc place) = zero_at size place

pub among_blocks : (statics : List Owned) (variable number : ℕ) → block_of statics variable ≡ Some number → list_any (λ (owned : Owned). nat_eq owned.block number) statics ≡ true
among_blocks [] variable number is = absurd (none-some number is)
among_blocks (first ∷ rest) variable number is = by_test (nat_eq first.variable variable) is (among_blocks rest variable number)
  where
    or_true : (b : Bool) → (b || true) ≡ true
    or_true true = refl
    or_true false = refl

    by_test : (b : Bool) → (if b then Some first.block else block_of rest variable) ≡ Some number → (block_of rest variable ≡ Some number → list_any (λ (owned : Owned). nat_eq owned.block number) rest ≡ true) →
        (nat_eq first.block number || list_any (λ (owned : Owned). nat_eq owned.block number) rest) ≡ true
    by_test true is later = ap (λ (b : Bool). b || list_any (λ (owned : Owned). nat_eq owned.block number) rest) (eq-eqb first.block number (same_Some _ _ is))
    by_test false is later = ap (λ (b : Bool). nat_eq first.block number || b) (later is) ∙ or_true (nat_eq first.block number)

pub statics_shown : (flow : Flow) (parts : Parts) (state : State) → AreNamed flow parts → AreZeros parts → (made : IsMade parts state) → IsShownBy parts (seen [] state) (record { of = static_marks state.statics; input = λ register. false }) made.stands.given
statics_shown flow parts state are zeros made = record {
  meets = made.stands.meets;
  marked = λ key number place object stands live blocks below.
      let zero = zeros key object stands in
      ap (λ (b : Bool). if b then Zeroed else Unwritten) (among_blocks state.statics zero.variable number (block_is zero.variable key number zero.stored blocks))
      ∙ sym (ap (λ (o : Object). mark_at o place) zero.is ∙ ap bare_mark (zero_at zero.size place));
  tight = λ key place object stands.
      let zero = zeros key object stands in ap (λ (o : Object). is_loose_at o place) zero.is ∙ ap (λ (class : ℕ). nat_lt 1 class && true) (zero_at zero.size place);
  edges = λ key object stands. let zero = zeros key object stands in ap (λ (o : Object). list_all (λ (edge : HasValue). passes_at parts is_sure edge.value) o.edges) zero.is;
  registers = λ register key held. absurd (none-some key (sym (ap (λ (hs : List Held). held_by hs register) are.registers) ∙ held));
}
  where
    block_is : (variable key number : ℕ) → storage_of parts.variables variable ≡ Some key → made.stands.given.blocks key ≡ number ∷ [] → block_of state.statics variable ≡ Some number
    block_is variable key number stored blocks =
        sym (shown state made.variables variable)
        ∙ by_found (machine.block_here state variable) (made.stands.meets.variables variable ∙ ap (option_map made.stands.given.blocks) stored ∙ ap Some blocks)
      where
        by_found : (found : Option ℕ) → option_map (λ (n : ℕ). n ∷ []) found ≡ Some (number ∷ []) → found ≡ Some number
        by_found None same = absurd (none-some _ same)
        by_found (Some other) same = ap (λ (ns : List ℕ). slice_get ns 0) (same_Some _ _ same)
