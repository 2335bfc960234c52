-- What the marks tell: a value, or an object, is marked where it stays.
use Rattle.std.proofs.Common.{◌≡◌, ◌≢◌, ℕ, suc, ◌<◌, Bool, true, false, ◌&&◌, ◌||◌, cond, List, [], ◌∷◌, length, get_or, nat_eq, Option, None, Some, refl, sym, ◌∙◌, ap, subst, eqb-true, eq-eqb}
use Rattle.std.specs.Prelude.{slice_get, slice_set, replicate, option_map, IsSome, if◌then◌else◌}
use Rattle.std.specs.List.{fold, list_any, filter}
use Rattle.std.proofs.lemmas.Bool.{false≢true}
use Rattle.std.proofs.lemmas.List.{length-set, get_or-set_same, get_or-set_other, get_or-replicate, length-replicate}
use Rattle.std.proofs.lemmas.Option.{slice_get_within}
use Rattle.graph.specs.declared.edges.HasValue.{HasValue}
use Rattle.graph.specs.declared.object.Object.{Object}
use Rattle.graph.specs.declared.object.Shape.{Shape}
use Rattle.graph.specs.declared.object.Shape.TheVariants.{Region, Segment}
use Rattle.graph.specs.declared.value.Value.{Value}
use Rattle.graph.specs.declared.value.Value.TheVariants.{Const, Number, Any, Address}
use Rattle.graph.specs.declared.parts.Held.{Held}
use Rattle.graph.specs.declared.parts.KeyedObject.{KeyedObject}
use Rattle.graph.specs.declared.parts.KeyedValue.{KeyedValue}
use Rattle.graph.specs.declared.parts.Pair.{Pair}
use Rattle.graph.specs.declared.parts.Parts.{Parts}
use Rattle.graph.specs.Large.{leads_to}
use Rattle.graph.specs.Maps.{value_at}
use Rattle.graph.specs.Nodes.{node_of}
use Rattle.graph.specs.Sizes.{is_constant}
use Rattle.graph.specs.Unheld.{with_only}
use Rattle.graph.specs.WellFormed.{passes_at, is_unequal_pair}
use Rattle.graph.specs.Whole.{IsGraph}
use Rattle.graph.proofs.Closed.{passes-at, pair_there}
use Rattle.tidying.specs.Held.{is_linked, is_stored, is_held, tells_of, stays, object_stays}
use Rattle.tidying.specs.Marks.{is_marked, marked, marked_if, edges_marked, links_marked, object_marked, objects_marked, registers_marked, ports_marked, held_marks, pair_marked, pairs_marked, value_marks, live_marked, named_marked, value_marked, values_marked, object_marks}
use Rattle.tidying.proofs.Marked.{value_in_place}

or_false : (b : Bool) → (b || false) ≡ b
or_false true = refl
or_false false = refl

or_true : (b : Bool) → (b || true) ≡ true
or_true true = refl
or_true false = refl

or_assoc : (a b c : Bool) → ((a || b) || c) ≡ (a || (b || c))
or_assoc true b c = refl
or_assoc false b c = refl

-- a step over marks adds those of a test, and no others
record Adds {X : Type 0} (step : List Bool → X → List Bool) (test : ℕ → X → Bool) : Type 0 where
  long : (marks : List Bool) (x : X) → length (step marks x) ≡ length marks
  adds : (marks : List Bool) (x : X) (place : ℕ) → place < length marks → get_or (step marks x) place false ≡ (get_or marks place false || test place x)

-- so does one step behind another
Adds-both : {X Y : Type 0} (one : List Bool → X → List Bool) (other : List Bool → Y → List Bool) (test : ℕ → X → Bool) (check : ℕ → Y → Bool) → Adds one test → Adds other check →
    {Z : Type 0} (x : Z → X) (y : Z → Y) → Adds (λ marks z. other (one marks (x z)) (y z)) (λ place z. test place (x z) || check place (y z))
Adds-both one other test check first second x y = record {
  long = λ marks z. second.long (one marks (x z)) (y z) ∙ first.long marks (x z);
  adds = λ marks z place below.
      second.adds (one marks (x z)) (y z) place (subst (λ (n : ℕ). place < n) (sym (first.long marks (x z))) below)
      ∙ ap (λ (b : Bool). b || check place (y z)) (first.adds marks (x z) place below)
      ∙ or_assoc (get_or marks place false) (test place (x z)) (check place (y z));
}

Adds-fold : {X : Type 0} (step : List Bool → X → List Bool) (test : ℕ → X → Bool) → Adds step test → Adds (λ marks xs. fold step marks xs) (λ place xs. list_any (test place) xs)
Adds-fold {X} step test one = record { long = long; adds = adds }
  where
    long : (marks : List Bool) (xs : List X) → length (fold step marks xs) ≡ length marks
    long marks [] = refl
    long marks (x ∷ xs) = long (step marks x) xs ∙ one.long marks x

    adds : (marks : List Bool) (xs : List X) (place : ℕ) → place < length marks → get_or (fold step marks xs) place false ≡ (get_or marks place false || list_any (test place) xs)
    adds marks [] place below = sym (or_false (get_or marks place false))
    adds marks (x ∷ xs) place below =
        adds (step marks x) xs place (subst (λ (n : ℕ). place < n) (sym (one.long marks x)) below)
        ∙ ap (λ (b : Bool). b || list_any (test place) xs) (one.adds marks x place below)
        ∙ or_assoc (get_or marks place false) (test place x) (list_any (test place) xs)

-- a key is marked where a test holds
if_marked : (holds : Bool) (marks : List Bool) (key place : ℕ) → place < length marks → get_or (marked_if holds marks key) place false ≡ (get_or marks place false || (holds && nat_eq key place))
if_marked false marks key place below = sym (or_false (get_or marks place false))
if_marked true marks key place below = by_test (nat_eq key place) refl
  where
    by_test : (same : Bool) → nat_eq key place ≡ same → get_or (slice_set marks key true) place false ≡ (get_or marks place false || nat_eq key place)
    by_test true is =
        let here : key ≡ place = eqb-true key place is in
        let set : get_or (slice_set marks place true) place false ≡ true = get_or-set_same marks place true false below in
        ap (λ (k : ℕ). get_or (slice_set marks k true) place false) here ∙ set ∙ sym (ap (λ (b : Bool). get_or marks place false || b) is ∙ or_true (get_or marks place false))
    by_test false is =
        let other : place ≢ key = λ same. false≢true (sym is ∙ eq-eqb key place (sym same)) in
        get_or-set_other marks key place true false other ∙ sym (ap (λ (b : Bool). get_or marks place false || b) is ∙ or_false (get_or marks place false))

length-if : (holds : Bool) (marks : List Bool) (key : ℕ) → length (marked_if holds marks key) ≡ length marks
length-if true marks key = length-set marks key true
length-if false marks key = refl

Adds-if : {X : Type 0} (holds : X → Bool) (key : X → ℕ) → Adds (λ marks x. marked_if (holds x) marks (key x)) (λ place x. holds x && nat_eq (key x) place)
Adds-if holds key = record {
  long = λ marks x. length-if (holds x) marks (key x);
  adds = λ marks x place below. if_marked (holds x) marks (key x) place below;
}

Adds-by : {X : Type 0} (key : X → ℕ) → Adds (λ marks x. marked marks (key x)) (λ place x. nat_eq (key x) place)
Adds-by key = record {
  long = λ marks x. length-set marks (key x) true;
  adds = λ marks x place below. if_marked true marks (key x) place below;
}

-- Values that are held.

Adds-edges : Adds edges_marked (λ place edges. list_any (λ (edge : HasValue). nat_eq edge.value place) edges)
Adds-edges = Adds-fold (λ marks (edge : HasValue). marked marks edge.value) (λ place edge. nat_eq edge.value place) (Adds-by (λ (edge : HasValue). edge.value))

links_long : (marks : List Bool) (shape : Shape) → length (links_marked marks shape) ≡ length marks
links_long marks Region = refl
links_long marks (Segment twofold head next prev back least next_value prev_value node) = length-set (marked marks next_value) prev_value true ∙ length-set marks next_value true

links_add : (marks : List Bool) (shape : Shape) (place : ℕ) → place < length marks → get_or (links_marked marks shape) place false ≡ (get_or marks place false || is_linked place shape)
links_add marks Region place below = sym (or_false (get_or marks place false))
links_add marks (Segment twofold head next prev back least next_value prev_value node) place below =
    if_marked true (marked marks next_value) prev_value place (subst (λ (n : ℕ). place < n) (sym (length-set marks next_value true)) below)
    ∙ ap (λ (b : Bool). b || nat_eq prev_value place) (if_marked true marks next_value place below)
    ∙ or_assoc (get_or marks place false) (nat_eq next_value place) (nat_eq prev_value place)

Adds-links : Adds links_marked is_linked
Adds-links = record { long = links_long; adds = links_add }

Adds-object : Adds object_marked is_stored
Adds-object =
    Adds-both edges_marked links_marked (λ place edges. list_any (λ (edge : HasValue). nat_eq edge.value place) edges) is_linked Adds-edges Adds-links
    (λ (object : Object). (node_of object).edges) (λ (object : Object). object.shape)

Adds-objects : Adds objects_marked (λ place entries. list_any (λ (entry : KeyedObject). is_stored place entry.object) entries)
Adds-objects =
    Adds-fold (λ marks (entry : KeyedObject). object_marked marks entry.object) (λ place entry. is_stored place entry.object)
    (record { long = λ marks entry. Adds-object.long marks entry.object; adds = λ marks entry place below. Adds-object.adds marks entry.object place below })

Adds-registers : Adds registers_marked (λ place registers. list_any (λ (held : Held). nat_eq held.value place) registers)
Adds-registers = Adds-fold (λ marks (held : Held). marked marks held.value) (λ place held. nat_eq held.value place) (Adds-by (λ (held : Held). held.value))

Adds-ports : Adds ports_marked (λ place ports. list_any (λ port. nat_eq port place) ports)
Adds-ports = Adds-fold marked (λ place port. nat_eq port place) (Adds-by (λ port. port))

-- Tests of lists.

-- tests that agree at each place of a list
pub any_same : {X : Type 0} (test other : X → Bool) (xs : List X) → ((place : ℕ) (x : X) → slice_get xs place ≡ Some x → test x ≡ other x) → list_any test xs ≡ list_any other xs
any_same test other [] same = refl
any_same test other (x ∷ xs) same =
    ap (λ (b : Bool). b || list_any test xs) (same 0 x refl) ∙ ap (λ (b : Bool). other x || b) (any_same test other xs (λ place y is. same (suc place) y is))

filter_same : {X : Type 0} (test other : X → Bool) (xs : List X) → ((place : ℕ) (x : X) → slice_get xs place ≡ Some x → test x ≡ other x) → filter test xs ≡ filter other xs
filter_same test other [] same = refl
filter_same {X} test other (x ∷ xs) same =
    ap (λ (b : Bool). cond b (x ∷ filter test xs) (filter test xs)) (same 0 x refl)
    ∙ ap (λ (rest : List X). cond (other x) (x ∷ rest) rest) (filter_same test other xs (λ place y is. same (suc place) y is))

any_and : {X : Type 0} (holds : Bool) (test : X → Bool) (xs : List X) → list_any (λ x. holds && test x) xs ≡ (holds && list_any test xs)
any_and true test xs = refl
any_and false test [] = refl
any_and false test (x ∷ xs) = any_and false test xs

module _ (parts : Parts) where
  abbrev start : List Bool
  start = replicate (length parts.values) false

  abbrev behind_objects : List Bool
  behind_objects = objects_marked start parts.objects

  abbrev behind_registers : List Bool
  behind_registers = registers_marked behind_objects parts.registers

  held_long : length (held_marks parts) ≡ length parts.values
  held_long =
      Adds-ports.long behind_registers parts.ports ∙ Adds-registers.long behind_objects parts.registers ∙ Adds-objects.long start parts.objects ∙ length-replicate (length parts.values) false

  held_are : (place : ℕ) → place < length parts.values → is_marked (held_marks parts) place ≡ is_held parts place
  held_are place below =
      let first : place < length start = subst (λ (n : ℕ). place < n) (sym (length-replicate (length parts.values) false)) below in
      let second : place < length behind_objects = subst (λ (n : ℕ). place < n) (sym (Adds-objects.long start parts.objects)) first in
      let third : place < length behind_registers = subst (λ (n : ℕ). place < n) (sym (Adds-registers.long behind_objects parts.registers)) second in
      let ports : Bool = list_any (λ port. nat_eq port place) parts.ports in
      let registers : Bool = list_any (λ (held : Held). nat_eq held.value place) parts.registers in
      let objects : Bool = list_any (λ (entry : KeyedObject). is_stored place entry.object) parts.objects in
      Adds-ports.adds behind_registers parts.ports place third
      ∙ ap (λ (b : Bool). b || ports) (Adds-registers.adds behind_objects parts.registers place second)
      ∙ ap (λ (b : Bool). (b || registers) || ports)
      (Adds-objects.adds start parts.objects place first ∙ ap (λ (b : Bool). b || objects) (get_or-replicate (length parts.values) place false false below))
      ∙ or_assoc objects registers ports

-- Values that stay.

module _ (parts : Parts) (graph : IsGraph parts) where
  abbrev held : List Bool
  held = held_marks parts

  -- a value that is there has a place among the marks
  there_below : (key : ℕ) → IsSome (value_at parts.values key) → key < length parts.values
  there_below key some = by_found (slice_get parts.values key) refl (subst (λ (o : Option Value). IsSome o) (value_in_place parts graph key) some)
    where
      by_found : (found : Option KeyedValue) → slice_get parts.values key ≡ found → IsSome (option_map (λ (entry : KeyedValue). entry.value) found) → key < length parts.values
      by_found None is here = absurd (false≢true here)
      by_found (Some entry) is here = slice_get_within parts.values key entry is

  -- the constant of a pair is marked
  abbrev is_told : ℕ → Pair → Bool
  is_told place pair =
      ((passes_at parts is_constant pair.left && is_marked held pair.right) && nat_eq pair.left place)
      || ((passes_at parts is_constant pair.right && is_marked held pair.left) && nat_eq pair.right place)

  Adds-pair : Adds (pair_marked parts held) is_told
  Adds-pair =
      Adds-both (λ marks (pair : Pair). marked_if (passes_at parts is_constant pair.left && is_marked held pair.right) marks pair.left)
      (λ marks (pair : Pair). marked_if (passes_at parts is_constant pair.right && is_marked held pair.left) marks pair.right)
      (λ place pair. (passes_at parts is_constant pair.left && is_marked held pair.right) && nat_eq pair.left place)
      (λ place pair. (passes_at parts is_constant pair.right && is_marked held pair.left) && nat_eq pair.right place)
      (Adds-if (λ (pair : Pair). passes_at parts is_constant pair.left && is_marked held pair.right) (λ pair. pair.left))
      (Adds-if (λ (pair : Pair). passes_at parts is_constant pair.right && is_marked held pair.left) (λ pair. pair.right))
      (λ (pair : Pair). pair) (λ (pair : Pair). pair)

  Adds-pairs : Adds (pairs_marked parts held) (λ place pairs. list_any (is_told place) pairs)
  Adds-pairs = Adds-fold (pair_marked parts held) is_told Adds-pair

  -- a test at one of two equal keys is that at the other one
  moved_test : (test : ℕ → Bool) (key place : ℕ) (other : Bool) → ((test key && other) && nat_eq key place) ≡ (test place && (nat_eq key place && other))
  moved_test test key place other = by_test (nat_eq key place) refl
    where
      neither : (a b : Bool) → ((a && b) && false) ≡ false
      neither true true = refl
      neither true false = refl
      neither false b = refl

      no_more : (a : Bool) → (a && false) ≡ false
      no_more true = refl
      no_more false = refl

      all_of : (a b : Bool) → ((a && b) && true) ≡ (a && b)
      all_of true true = refl
      all_of true false = refl
      all_of false b = refl

      by_test : (same : Bool) → nat_eq key place ≡ same → ((test key && other) && nat_eq key place) ≡ (test place && (nat_eq key place && other))
      by_test true is =
          ap (λ (b : Bool). (test key && other) && b) is ∙ all_of (test key) other ∙ ap (λ (k : ℕ). test k && other) (eqb-true key place is)
          ∙ sym (ap (λ (b : Bool). test place && (b && other)) is)
      by_test false is =
          ap (λ (b : Bool). (test key && other) && b) is ∙ neither (test key) other ∙ sym (ap (λ (b : Bool). test place && (b && other)) is ∙ no_more (test place))

  both_and : (c a b : Bool) → ((c && a) || (c && b)) ≡ (c && (a || b))
  both_and true a b = refl
  both_and false a b = refl

  told_is : (place at : ℕ) (pair : Pair) → slice_get parts.unequal at ≡ Some pair → is_told place pair ≡ (passes_at parts is_constant place && tells_of parts place pair)
  told_is place at pair is =
      let there = pair_there parts graph.well_formed pair (passes-at (is_unequal_pair parts) parts.unequal at pair is graph.well_formed.pairs_may_be_unequal) in
      let left = held_are parts pair.left (there_below pair.left there.0) in
      let right = held_are parts pair.right (there_below pair.right there.1) in
      let constant : ℕ → Bool = passes_at parts is_constant in
      ap (λ (b : Bool). b || ((constant pair.right && is_marked held pair.left) && nat_eq pair.right place))
      (moved_test constant pair.left place (is_marked held pair.right) ∙ ap (λ (b : Bool). constant place && (nat_eq pair.left place && b)) right)
      ∙ ap (λ (b : Bool). (constant place && (nat_eq pair.left place && is_held parts pair.right)) || b)
      (moved_test constant pair.right place (is_marked held pair.left) ∙ ap (λ (b : Bool). constant place && (nat_eq pair.right place && b)) left)
      ∙ both_and (constant place) (nat_eq pair.left place && is_held parts pair.right) (nat_eq pair.right place && is_held parts pair.left)

  values_are : (place : ℕ) → place < length parts.values → is_marked (value_marks parts) place ≡ stays parts place
  values_are place below =
      Adds-pairs.adds held parts.unequal place (subst (λ (n : ℕ). place < n) (sym (held_long parts)) below)
      ∙ ap (λ (b : Bool). b || list_any (is_told place) parts.unequal) (held_are parts place below)
      ∙ ap (λ (b : Bool). is_held parts place || b)
      (any_same (is_told place) (λ pair. passes_at parts is_constant place && tells_of parts place pair) parts.unequal (λ at pair is. told_is place at pair is)
      ∙ any_and (passes_at parts is_constant place) (tells_of parts place) parts.unequal)

-- Objects that stay.

names_long : (marks : List Bool) (value : Value) → length (named_marked marks value) ≡ length marks
names_long marks (Const number size) = refl
names_long marks (Number size) = refl
names_long marks Any = refl
names_long marks (Address object offset target) = length-set marks object true

names_add : (marks : List Bool) (value : Value) (place : ℕ) → place < length marks → get_or (named_marked marks value) place false ≡ (get_or marks place false || leads_to place value)
names_add marks (Const number size) place below = sym (or_false (get_or marks place false))
names_add marks (Number size) place below = sym (or_false (get_or marks place false))
names_add marks Any place below = sym (or_false (get_or marks place false))
names_add marks (Address object offset target) place below = if_marked true marks object place below

value_long : (holds : Bool) (marks : List Bool) (value : Value) → length (if holds then named_marked marks value else marks) ≡ length marks
value_long true marks value = names_long marks value
value_long false marks value = refl

value_add : (holds : Bool) (marks : List Bool) (value : Value) (place : ℕ) → place < length marks →
    get_or (if holds then named_marked marks value else marks) place false ≡ (get_or marks place false || (holds && leads_to place value))
value_add true marks value place below = names_add marks value place below
value_add false marks value place below = sym (or_false (get_or marks place false))

Adds-values : (values : List Bool) → Adds (values_marked values) (λ place entries. list_any (λ (entry : KeyedValue). is_marked values entry.key && leads_to place entry.value) entries)
Adds-values values =
    Adds-fold (value_marked values) (λ place entry. is_marked values entry.key && leads_to place entry.value)
    (record {
      long = λ marks entry. value_long (is_marked values entry.key) marks entry.value;
      adds = λ marks entry place below. value_add (is_marked values entry.key) marks entry.value place below;
    })

Adds-live : Adds live_marked (λ place entries. list_any (λ (entry : KeyedObject). entry.object.live && nat_eq entry.key place) entries)
Adds-live =
    Adds-fold (λ marks (entry : KeyedObject). marked_if entry.object.live marks entry.key) (λ place entry. entry.object.live && nat_eq entry.key place)
    (Adds-if (λ (entry : KeyedObject). entry.object.live) (λ entry. entry.key))

module _ (parts : Parts) (graph : IsGraph parts) where
  abbrev none : List Bool
  none = replicate (length parts.objects) false

  abbrev living : List Bool
  living = live_marked none parts.objects

  value_within : (at : ℕ) (entry : KeyedValue) → slice_get parts.values at ≡ Some entry → entry.key < length parts.values
  value_within at entry is = subst (λ (k : ℕ). k < length parts.values) (sym (graph.keys.values at entry is)) (slice_get_within parts.values at entry is)

  object_within : (at : ℕ) (entry : KeyedObject) → slice_get parts.objects at ≡ Some entry → entry.key < length parts.objects
  object_within at entry is = subst (λ (k : ℕ). k < length parts.objects) (sym (graph.keys.objects at entry is)) (slice_get_within parts.objects at entry is)

  objects_are : (place : ℕ) → place < length parts.objects → is_marked (object_marks parts (value_marks parts)) place ≡ object_stays parts place
  objects_are place below =
      let first : place < length none = subst (λ (n : ℕ). place < n) (sym (length-replicate (length parts.objects) false)) below in
      let second : place < length living = subst (λ (n : ℕ). place < n) (sym (Adds-live.long none parts.objects)) first in
      let named : Bool = list_any (λ (entry : KeyedValue). is_marked (value_marks parts) entry.key && leads_to place entry.value) parts.values in
      let lives : Bool = list_any (λ (entry : KeyedObject). entry.object.live && nat_eq entry.key place) parts.objects in
      (Adds-values (value_marks parts)).adds living parts.values place second
      ∙ ap (λ (b : Bool). b || named) (Adds-live.adds none parts.objects place first ∙ ap (λ (b : Bool). b || lives) (get_or-replicate (length parts.objects) place false false below))
      ∙ ap (λ (b : Bool). lives || b)
      (any_same (λ (entry : KeyedValue). is_marked (value_marks parts) entry.key && leads_to place entry.value) (λ (entry : KeyedValue). stays parts entry.key && leads_to place entry.value) parts.values
      (λ at entry is. ap (λ (b : Bool). b && leads_to place entry.value) (values_are parts graph entry.key (value_within at entry is))))

  -- so what is marked is what stays
  kept_are : with_only (is_marked (value_marks parts)) (is_marked (object_marks parts (value_marks parts))) parts ≡ with_only (stays parts) (object_stays parts) parts
  kept_are =
      ap (λ (objects : List KeyedObject). record (with_only (is_marked (value_marks parts)) (is_marked (object_marks parts (value_marks parts))) parts) { objects = objects })
      (filter_same (λ (entry : KeyedObject). is_marked (object_marks parts (value_marks parts)) entry.key) (λ (entry : KeyedObject). object_stays parts entry.key) parts.objects
      (λ at entry is. objects_are entry.key (object_within at entry is)))
      ∙ ap (λ (values : List KeyedValue). record (with_only (is_marked (value_marks parts)) (object_stays parts) parts) { values = values })
      (filter_same (λ (entry : KeyedValue). is_marked (value_marks parts) entry.key) (λ (entry : KeyedValue). stays parts entry.key) parts.values
      (λ at entry is. values_are parts graph entry.key (value_within at entry is)))
      ∙ ap (λ (unequal : List Pair). record (with_only (stays parts) (object_stays parts) parts) { unequal = unequal })
      (filter_same (λ (pair : Pair). is_marked (value_marks parts) pair.left && is_marked (value_marks parts) pair.right) (λ (pair : Pair). stays parts pair.left && stays parts pair.right) parts.unequal
      (λ at pair is.
      let there = pair_there parts graph.well_formed pair (passes-at (is_unequal_pair parts) parts.unequal at pair is graph.well_formed.pairs_may_be_unequal) in
      ap (λ (b : Bool). b && is_marked (value_marks parts) pair.right) (values_are parts graph pair.left (there_below parts graph pair.left there.0))
      ∙ ap (λ (b : Bool). stays parts pair.left && b) (values_are parts graph pair.right (there_below parts graph pair.right there.1))))

  pub kept_marked : (values objects : List Bool) → values ≡ value_marks parts → objects ≡ object_marks parts (value_marks parts) →
      with_only (is_marked values) (is_marked objects) parts ≡ with_only (stays parts) (object_stays parts) parts
  kept_marked values objects values_is objects_is =
      ap (λ (marks : List Bool). with_only (is_marked marks) (is_marked objects) parts) values_is
      ∙ ap (λ (marks : List Bool). with_only (is_marked (value_marks parts)) (is_marked marks) parts) objects_is
      ∙ kept_are
