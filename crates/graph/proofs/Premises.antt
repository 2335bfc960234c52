-- The graph of the examples meets the premises of the laws.
use Rattle.std.proofs.Common.{◌≡◌, ℕ, zero, suc, ◌+◌, ◌-◌, ◌^◌, ◌<◌, ◌≤◌, Bool, true, false, not, List, [], ◌∷◌, nat_eq, nat_lt, Option, Some, refl, sym, ap, subst, ◌∙◌, arith, eqb-true, ltb-true, ltb-false}
use Rattle.std.specs.Prelude.{slice_get}
use Rattle.std.specs.Option.{option_map_or}
use Rattle.std.proofs.lemmas.Bool.{false≢true, lt-ltb, le-ltb}
use Rattle.std.proofs.lemmas.Option.{same_Some, none-some}
use Rattle.bytes_core.specs.declared.byte.Byte.TheVariants.{Num}
use Rattle.graph.specs.declared.object.Links.{Links}
use Rattle.graph.specs.declared.object.Object.{Object}
use Rattle.graph.specs.declared.parts.Held.{Held}
use Rattle.graph.specs.declared.parts.KeyedObject.{KeyedObject}
use Rattle.graph.specs.declared.parts.KeyedValue.{KeyedValue}
use Rattle.graph.specs.declared.parts.Pair.{Pair}
use Rattle.graph.specs.declared.parts.Parts.{Parts}
use Rattle.graph.specs.declared.value.Value.{Value}
use Rattle.graph.specs.declared.value.Value.TheVariants.{Const, Number, Any, Address}
use Rattle.graph.specs.Closed.{OnNamed}
use Rattle.graph.specs.Choices.{IsChoice}
use Rattle.graph.specs.DeadBlocks.{ChangesAbsent}
use Rattle.graph.specs.Example.{list_of_two, contents, example, known, null_word, zero_byte, HasState, raised, lowered, front, behind, hidden, MeetsPremises}
use Rattle.graph.specs.Laws.{IsRenaming}
use Rattle.graph.specs.Maps.{found_at, object_at, value_at}
use Rattle.graph.specs.Meaning.{HasClass}
use Rattle.graph.specs.Nodes.{links_in, own_node}
use Rattle.graph.specs.Numbers.{AreSomeNumbers, AreNumbers, IsMadeWithNumbers}
use Rattle.graph.specs.Unheld.{MayGo}
use Rattle.graph.specs.WellFormed.{IsWellFormed, ComesToAnEnd}
use Rattle.graph.specs.Whole.{IsGraph}
use Rattle.graph.proofs.AllPlaced.{HasPlaces-entries}
use Rattle.graph.proofs.Found.{found-all, found-here, found-later}
use Rattle.graph.proofs.Numbered.{ascending_from}
use Rattle.graph.proofs.OwnPlaces.{graph_numbered}
use Rattle.graph.proofs.Witness.{some_numbers_may_be_chosen}

module _ {Entry Item : Type 0} (key : Entry → ℕ) (item : Entry → Item) (P : ℕ → Item → Type 0) where
  abbrev Each : List Entry → Type 0
  Each [] = Unit {0}
  Each (first ∷ rest) = P (key first) (item first) × Each rest

  -- what holds of each entry holds of what is found
  each : (entries : List Entry) → Each entries → (at : ℕ) (found : Item) → found_at key item entries at ≡ Some found → P at found
  each [] all at found stands = absurd (none-some found stands)
  each (first ∷ rest) all at found stands = by_test (nat_eq (key first) at) refl (λ there. each rest all.1 at found there)
    where
      by_test : (hit : Bool) → nat_eq (key first) at ≡ hit → (found_at key item rest at ≡ Some found → P at found) → P at found
      by_test true is rest_does =
          subst (λ (k : ℕ). P k found) (eqb-true (key first) at is)
          (subst (λ (i : Item). P (key first) i) (same_Some (item first) found (sym (found-here key item first rest at is) ∙ stands)) all.0)
      by_test false is rest_does = rest_does (sym (found-later key item first rest at is) ∙ stands)

-- no segment may be empty
never_empty : (object : Object) (links : Links) → option_map_or (λ (links : Links). not (nat_eq links.least 0)) (links_in object.shape) true ≡ true → links_in object.shape ≡ Some links → links.least ≡ 0 → ⊥
never_empty object links all is none =
    let some : not (nat_eq links.least 0) ≡ true = subst (λ (o : Option Links). option_map_or (λ (links : Links). not (nat_eq links.least 0)) o true ≡ true) is all in
    let clash : not (nat_eq 0 0) ≡ true = subst (λ (n : ℕ). not (nat_eq n 0) ≡ true) none some in
    false≢true clash

at_end : (key : ℕ) (object : Object) (links : Links) → object_at example.objects key ≡ Some object → links_in object.shape ≡ Some links → links.least ≡ 0 → ⊥
at_end key object links stands is none =
    never_empty object links
    (found-all (λ (entry : KeyedObject). entry.key) (λ entry. entry.object) (λ object. option_map_or (λ (links : Links). not (nat_eq links.least 0)) (links_in object.shape) true) example.objects key object refl stands)
    is none

ends : ComesToAnEnd example
ends = record {
  ranks = record { first = λ key. 0; last = λ key. 0 };
  next = λ key object links stands is none. absurd (at_end key object links stands is none);
  prev = λ key object links stands is none. absurd (at_end key object links stands is none);
}

well_formed : IsWellFormed example
well_formed = record {
  edges_hold_values = refl;
  edges_are_at_home = refl;
  registers_hold_values = refl;
  ports_are_values = refl;
  addresses_lead_to_objects = refl;
  variables_have_storage = refl;
  storage_is_distinct = refl;
  variables_ascend = refl;
  registers_ascend = refl;
  objects_are_small = refl;
  planes_are_as_long = refl;
  dead_objects_are_bare = refl;
  segments_are_allocated = refl;
  edges_lie_inside = refl;
  edges_are_in_order = refl;
  edges_have_their_sizes = refl;
  edges_have_their_classes = refl;
  edges_are_not_zero = refl;
  links_lie_inside = refl;
  links_are_in_order = refl;
  links_have_no_edge = refl;
  links_may_be_pointers = refl;
  links_lead_on = refl;
  links_back_fit = refl;
  comes_to_an_end = ends;
  values_are_sized = refl;
  pairs_may_be_unequal = refl;
  pairs_are_different = refl;
}

is_graph : IsGraph example
is_graph = record { well_formed = well_formed; within_limits = refl; ascending = ascending_from contents; keys = HasPlaces-entries contents }

renaming : IsRenaming (λ key. key + 1) (λ key. key + 1) example
renaming = record {
  objects = record { same = λ one other there there' equal. omega (arith, equal) };
  values = record { same = λ one other there there' equal. omega (arith, equal) };
}

-- the object to which an address leads
abbrev object_of : Value → ℕ
object_of (Const number size) = 0
object_of (Number size) = 0
object_of Any = 0
object_of (Address object offset target) = object

may_go : MayGo (λ key. nat_lt key 5) (λ key. nat_lt key 3) example
may_go = record {
  named = each (λ (entry : KeyedObject). entry.key) (λ entry. entry.object) (λ key object. OnNamed (λ value. nat_lt value 5 ≡ true) object.shape (own_node object)) example.objects (((refl, tt), tt), ((tt, (refl, refl)), ((tt, tt), ((tt, tt), tt))));
  registers = each (λ (held : Held). held.register) (λ held. held.value) (λ register value. nat_lt value 5 ≡ true) example.registers (refl, (refl, (refl, tt)));
  ports = λ place value stands. absurd (none-some value stands);
  left_constants = λ place pair number size stands constant right. in_pair place pair stands;
  right_constants = λ place pair number size stands constant left. in_pair' place pair stands;
  live = each (λ (entry : KeyedObject). entry.key) (λ entry. entry.object) (λ key object. object.live ≡ true → nat_lt key 3 ≡ true) example.objects
      ((λ live. refl), ((λ live. refl), ((λ live. refl), ((λ live. absurd (false≢true live)), tt))));
  addresses = λ value key offset target stands stays.
      each (λ (entry : KeyedValue). entry.key) (λ entry. entry.value) (λ at value. nat_lt (object_of value) 3 ≡ true) example.values (refl, (refl, (refl, (refl, (refl, (refl, tt)))))) value (Address key offset target) stands;
}
  where
    in_pair : (place : ℕ) (pair : Pair) → slice_get example.unequal place ≡ Some pair → nat_lt pair.left 5 ≡ true
    in_pair zero pair stands = subst (λ (k : ℕ). nat_lt k 5 ≡ true) (ap (λ (p : Pair). p.left) (same_Some _ pair stands)) refl
    in_pair (suc place) pair stands = absurd (none-some pair stands)

    in_pair' : (place : ℕ) (pair : Pair) → slice_get example.unequal place ≡ Some pair → nat_lt pair.right 5 ≡ true
    in_pair' zero pair stands = subst (λ (k : ℕ). nat_lt k 5 ≡ true) (ap (λ (p : Pair). p.right) (same_Some _ pair stands)) refl
    in_pair' (suc place) pair stands = absurd (none-some pair stands)

zero_has : (class : ℕ) → HasClass class (Num 0)
zero_has zero = refl
zero_has (suc zero) = tt
zero_has (suc (suc class)) = tt

choice : IsChoice example null_word zero_byte
choice = record {
  words = λ key is. record { small = omega arith; named = tt };
  bytes = λ key object place class stands is. zero_has class;
  names = λ key place. tt;
  small = λ key place. omega arith;
}

-- a constant's number, and a number's size
abbrev constant_of : Value → ℕ
constant_of (Const number size) = number
constant_of (Number size) = 0
constant_of Any = 0
constant_of (Address object offset target) = 0

abbrev size_of : Value → ℕ
size_of (Const number size) = 0
size_of (Number size) = size
size_of Any = 0
size_of (Address object offset target) = 0

numbers : AreSomeNumbers example known
numbers = record {
  constants = λ key constant size stands. constants key (Const constant size) stands constant size refl;
  fits = λ key size number stands is. fits key (Number size) stands size number refl is;
  unequal = λ place pair one other stands left right. differ place pair one other stands right;
}
  where
    constants : (key : ℕ) (value : Value) → value_at example.values key ≡ Some value → (constant size : ℕ) → value ≡ Const constant size → known key ≡ Some constant
    constants = each (λ (entry : KeyedValue). entry.key) (λ entry. entry.value) (λ key value. (constant size : ℕ) → value ≡ Const constant size → known key ≡ Some constant) example.values
        ((λ constant size is. ap (λ (v : Value). Some (constant_of v)) is), ((λ constant size is. absurd (cc)), ((λ constant size is. absurd (cc)), ((λ constant size is. absurd (cc)), ((λ constant size is. absurd (cc)), ((λ constant size is. absurd (cc)), tt))))))

    seven : (size number : ℕ) → Number 4 ≡ Number size → Some 7 ≡ Some number → number < 256 ^ size
    seven size number is known_is =
        subst (λ (n : ℕ). n < 256 ^ size) (same_Some 7 number known_is) (subst (λ (s : ℕ). 7 < 256 ^ s) (ap size_of is) (ltb-true 7 (256 ^ 4) refl))

    fits : (key : ℕ) (value : Value) → value_at example.values key ≡ Some value → (size number : ℕ) → value ≡ Number size → known key ≡ Some number → number < 256 ^ size
    fits = each (λ (entry : KeyedValue). entry.key) (λ entry. entry.value) (λ key value. (size number : ℕ) → value ≡ Number size → known key ≡ Some number → number < 256 ^ size) example.values (
      (λ size number is known_is. absurd (cc)),
      (
        (λ size number is known_is. absurd (cc)),
        (
          seven,
          (
            (λ size number is known_is. absurd (none-some number known_is)),
            (
              (λ size number is known_is. absurd (cc)),
              ((λ size number is known_is. absurd (none-some number known_is)), tt),
            ),
          ),
        ),
      ),
    )

    differ : (place : ℕ) (pair : Pair) (one other : ℕ) → slice_get example.unequal place ≡ Some pair → known pair.right ≡ Some other → one ≡ other → ⊥
    differ zero pair one other stands right same =
        none-some other (ap (λ (p : Pair). known p.right) (same_Some _ pair stands) ∙ right)
    differ (suc place) pair one other stands right same = none-some pair stands

stands : HasState
stands =
    let found = some_numbers_may_be_chosen example known null_word zero_byte (ascending_from contents) well_formed refl
    (subst (λ (parts : Parts). IsChoice parts null_word zero_byte) (sym (graph_numbered example is_graph)) choice)
    (subst (λ (parts : Parts). AreSomeNumbers parts known) (sym (graph_numbered example is_graph)) numbers) in
    let state = found.3 in record {
      number = found.0;
      numbers = subst (λ (parts : Parts). AreNumbers parts found.0) (graph_numbered example is_graph) found.1;
      among = found.2;
      state = state.0;
      is = state.1;
      made = subst (λ (parts : Parts). IsMadeWithNumbers parts found.0 null_word zero_byte state.0) (graph_numbered example is_graph) state.2;
      room = state.3;
    }

below : (count number : ℕ) → number < count → nat_lt number count ≡ true
below count number less = lt-ltb number count less

past : (count number : ℕ) → count ≤ number → nat_lt number count ≡ false
past count number most = le-ltb number count most

raised_below : (count number : ℕ) → number < count → raised count number ≡ number
raised_below count number less = rw (below count number less) refl

raised_past : (count number : ℕ) → count ≤ number → raised count number ≡ number + 1
raised_past count number most = rw (past count number most) refl

lowered_below : (count number : ℕ) → number < count → lowered count number ≡ number
lowered_below count number less = rw (below count number less) refl

lowered_past : (count number : ℕ) → count ≤ number → lowered count number ≡ number - 1
lowered_past count number most = rw (past count number most) refl

absent : (count : ℕ) → ChangesAbsent count (raised count) (lowered count)
absent count = record {
  same = λ number. by_test number (nat_lt number count) refl;
  stay = λ number less. raised_below count number less;
  absent = λ number most. let up = raised_past count number most in omega (arith, up, most);
}
  where
    by_test : (number : ℕ) (low : Bool) → nat_lt number count ≡ low → lowered count (raised count number) ≡ number
    by_test number true is =
        let less : number < count = ltb-true number count is in
        ap (lowered count) (raised_below count number less) ∙ lowered_below count number less
    by_test number false is =
        let most : count ≤ number = ltb-false number count is in
        ap (lowered count) (raised_past count number most) ∙ lowered_past count (number + 1) (omega (arith, most)) ∙ (let e : number + 1 - 1 ≡ number = omega arith in e)

kept_block : (place number : ℕ) → slice_get (0 ∷ []) place ≡ Some number → slice_get (front ∷ hidden ∷ []) number ≡ slice_get (front ∷ behind ∷ []) number
kept_block zero number is = subst (λ (n : ℕ). slice_get (front ∷ hidden ∷ []) n ≡ slice_get (front ∷ behind ∷ []) n) (same_Some 0 number is) refl
kept_block (suc place) number is = absurd (none-some number is)

pub premises_met : MeetsPremises
premises_met = record {
  graph = is_graph;
  renaming = renaming;
  own_block = (0, refl, record { block = front; there = refl; node = record { live = refl; kind = refl; size = refl; edges = tt; classes = (refl, (refl, (refl, (refl, (refl, (refl, (refl, (refl, tt)))))))) } });
  kept_block = kept_block;
  unheld = may_go;
  fewer_objects = refl;
  fewer_values = refl;
  choice = choice;
  numbers = numbers;
  stands = stands;
  absent = absent;
  nodes = λ state made. made.lengths 1 list_of_two (record { twofold = false; head = 0; next = 0; prev = 0; back = 0; least = 2; next_value = 0; prev_value = 0 }) refl refl;
}
