-- Marks of the objects whose addresses are held tell whether a graph is large.
use Rattle.std.proofs.Common.{◌≡◌, ◌≢◌, ℕ, suc, ◌+◌, ◌<◌, ◌≤◌, Bool, true, false, not, ◌&&◌, ◌||◌, cond, List, [], ◌∷◌, length, filter, get_or, nat_eq, nat_le, refl, sym, ap, subst, ◌∙◌, arith, Option, Some, None, eqb-true, eq-eqb, le-leb, leb-true}
use Rattle.std.specs.Prelude.{slice_get, slice_set, sum_by, replicate, if◌then◌else◌}
use Rattle.std.specs.List.{fold, list_any}
use Rattle.std.specs.Option.{option_map_or}
use Rattle.std.proofs.lemmas.Bool.{false≢true}
use Rattle.std.proofs.lemmas.List.{length-set, get_or-set_same, get_or-set_other, get_or-replicate, length-replicate}
use Rattle.std.proofs.lemmas.List.Sums.{sum_by-cons}
use Rattle.graph.specs.declared.contents.Contents.{Contents}
use Rattle.graph.specs.declared.edges.HasValue.{HasValue}
use Rattle.graph.specs.declared.object.Object.{Object}
use Rattle.graph.specs.declared.parts.Held.{Held}
use Rattle.graph.specs.declared.parts.KeyedObject.{KeyedObject}
use Rattle.graph.specs.declared.parts.Parts.{Parts}
use Rattle.graph.specs.declared.value.Value.{Value}
use Rattle.graph.specs.declared.value.Value.TheVariants.{Const, Number, Any, Address}
use Rattle.graph.specs.Addressed.{marked_by, marked, marked_edges, marked_object, marked_objects, marked_registers, marked_ports, marks_of, dead, dead_and_marked}
use Rattle.graph.specs.Large.{live_nodes_of, live_nodes, leads_to, holds_address, is_addressed, addressed_dead, is_large}
use Rattle.graph.specs.Nodes.{node_of, link_edges}
use Rattle.graph.specs.Renaming.{objects_from}
use Rattle.graph.specs.WellFormed.{passes_at}
use Rattle.graph.specs.Whole.{entries_of}
use Rattle.graph.proofs.AtPlaces.{value_at_place}

or_false : (b : Bool) → (b || false) ≡ b
or_false true = refl
or_false false = refl

or_true : (b : Bool) → (b || true) ≡ true
or_true true = refl
or_true false = refl

or_assoc : (a b c : Bool) → ((a || b) || c) ≡ (a || (b || c))
or_assoc true b c = refl
or_assoc false b c = refl

-- a step over marks adds those of a test, and no others
record Adds {X : Type 0} (step : List Bool → X → List Bool) (test : ℕ → X → Bool) : Type 0 where
  long : (marks : List Bool) (x : X) → length (step marks x) ≡ length marks
  adds : (marks : List Bool) (x : X) (place : ℕ) → place < length marks → get_or (step marks x) place false ≡ (get_or marks place false || test place x)

Adds-fold : {X : Type 0} (step : List Bool → X → List Bool) (test : ℕ → X → Bool) → Adds step test → Adds (λ marks xs. fold step marks xs) (λ place xs. list_any (test place) xs)
Adds-fold {X} step test one = record { long = long; adds = adds }
  where
    long : (marks : List Bool) (xs : List X) → length (fold step marks xs) ≡ length marks
    long marks [] = refl
    long marks (x ∷ xs) = long (step marks x) xs ∙ one.long marks x

    adds : (marks : List Bool) (xs : List X) (place : ℕ) → place < length marks → get_or (fold step marks xs) place false ≡ (get_or marks place false || list_any (test place) xs)
    adds marks [] place below = sym (or_false (get_or marks place false))
    adds marks (x ∷ xs) place below =
        adds (step marks x) xs place (subst (λ (n : ℕ). place < n) (sym (one.long marks x)) below)
        ∙ ap (λ (b : Bool). b || list_any (test place) xs) (one.adds marks x place below)
        ∙ or_assoc (get_or marks place false) (test place x) (list_any (test place) xs)

-- the values under their places for keys
module _ (contents : Contents) where
  abbrev all : Parts
  all = entries_of contents

  abbrev leads : ℕ → ℕ → Bool
  leads place key = passes_at all (leads_to place) key

  by_value : (value : Option Value) (marks : List Bool) (place : ℕ) → place < length marks →
      get_or (marked_by value marks) place false ≡ (get_or marks place false || option_map_or (leads_to place) value false)
  by_value None marks place below = sym (or_false (get_or marks place false))
  by_value (Some (Const number size)) marks place below = sym (or_false (get_or marks place false))
  by_value (Some (Number size)) marks place below = sym (or_false (get_or marks place false))
  by_value (Some Any) marks place below = sym (or_false (get_or marks place false))
  by_value (Some (Address object offset target)) marks place below = by_test (nat_eq object place) refl
    where
      by_test : (same : Bool) → nat_eq object place ≡ same → get_or (slice_set marks object true) place false ≡ (get_or marks place false || nat_eq object place)
      by_test true is =
          let here : object ≡ place = eqb-true object place is in
          let set : get_or (slice_set marks place true) place false ≡ true = get_or-set_same marks place true false below in
          ap (λ (o : ℕ). get_or (slice_set marks o true) place false) here ∙ set ∙ sym (ap (λ (b : Bool). get_or marks place false || b) is ∙ or_true (get_or marks place false))
      by_test false is =
          let other : place ≢ object = λ same. false≢true (sym is ∙ eq-eqb object place (sym same)) in
          get_or-set_other marks object place true false other ∙ sym (ap (λ (b : Bool). get_or marks place false || b) is ∙ or_false (get_or marks place false))

  length_by : (value : Option Value) (marks : List Bool) → length (marked_by value marks) ≡ length marks
  length_by None marks = refl
  length_by (Some (Const number size)) marks = refl
  length_by (Some (Number size)) marks = refl
  length_by (Some Any) marks = refl
  length_by (Some (Address object offset target)) marks = length-set marks object true

  Adds-key : Adds (marked contents.values) leads
  Adds-key = record {
    long = λ marks key. length_by (slice_get contents.values key) marks;
    adds = λ marks key place below.
        by_value (slice_get contents.values key) marks place below
        ∙ ap (λ (value : Option Value). get_or marks place false || option_map_or (leads_to place) value false) (sym (value_at_place contents.values key));
  }

  Adds-edges : Adds (marked_edges contents.values) (λ place edges. list_any (λ (edge : HasValue). leads place edge.value) edges)
  Adds-edges =
      Adds-fold (λ marks (edge : HasValue). marked contents.values marks edge.value) (λ place edge. leads place edge.value)
      (record { long = λ marks edge. Adds-key.long marks edge.value; adds = λ marks edge place below. Adds-key.adds marks edge.value place below })

  Adds-object : Adds (marked_object contents.values) (λ place object. holds_address all place object)
  Adds-object = record {
    long = λ marks object.
        Adds-edges.long (marked_edges contents.values marks (node_of object).edges) (link_edges object.shape) ∙ Adds-edges.long marks (node_of object).edges;
    adds = λ marks object place below.
        Adds-edges.adds (marked_edges contents.values marks (node_of object).edges) (link_edges object.shape) place
        (subst (λ (n : ℕ). place < n) (sym (Adds-edges.long marks (node_of object).edges)) below)
        ∙ ap (λ (b : Bool). b || list_any (λ (link : HasValue). leads place link.value) (link_edges object.shape)) (Adds-edges.adds marks (node_of object).edges place below)
        ∙ or_assoc (get_or marks place false) (list_any (λ (edge : HasValue). leads place edge.value) (node_of object).edges)
        (list_any (λ (link : HasValue). leads place link.value) (link_edges object.shape));
  }

  Adds-objects : Adds (marked_objects contents.values) (λ place objects. list_any (holds_address all place) objects)
  Adds-objects = Adds-fold (λ marks (object : Object). marked_object contents.values marks object) (λ place object. holds_address all place object) Adds-object

  Adds-registers : Adds (marked_registers contents.values) (λ place registers. list_any (λ (held : Held). leads place held.value) registers)
  Adds-registers =
      Adds-fold (λ marks (held : Held). marked contents.values marks held.value) (λ place held. leads place held.value)
      (record { long = λ marks held. Adds-key.long marks held.value; adds = λ marks held place below. Adds-key.adds marks held.value place below })

  Adds-ports : Adds (marked_ports contents.values) (λ place ports. list_any (leads place) ports)
  Adds-ports = Adds-fold (λ marks (port : ℕ). marked contents.values marks port) (λ place port. leads place port) Adds-key

  -- the objects under their places for keys
  any_from : (test : Object → Bool) (from : ℕ) (objects : List Object) → list_any (λ (entry : KeyedObject). test entry.object) (objects_from from objects) ≡ list_any test objects
  any_from test from [] = refl
  any_from test from (object ∷ rest) = ap (λ (b : Bool). test object || b) (any_from test (from + 1) rest)

  abbrev start : List Bool
  start = replicate (length contents.objects) false

  abbrev behind_objects : List Bool
  behind_objects = marked_objects contents.values start contents.objects

  abbrev behind_registers : List Bool
  behind_registers = marked_registers contents.values behind_objects contents.registers

  pub length_marks : length (marks_of contents) ≡ length contents.objects
  length_marks =
      Adds-ports.long behind_registers contents.ports ∙ Adds-registers.long behind_objects contents.registers
      ∙ Adds-objects.long start contents.objects ∙ length-replicate (length contents.objects) false

  marks_are : (place : ℕ) → place < length contents.objects → get_or (marks_of contents) place false ≡ is_addressed all place
  marks_are place below =
      let first : place < length start = subst (λ (n : ℕ). place < n) (sym (length-replicate (length contents.objects) false)) below in
      let second : place < length behind_objects = subst (λ (n : ℕ). place < n) (sym (Adds-objects.long start contents.objects)) first in
      let third : place < length behind_registers = subst (λ (n : ℕ). place < n) (sym (Adds-registers.long behind_objects contents.registers)) second in
      let ports : Bool = list_any (leads place) contents.ports in
      let registers : Bool = list_any (λ (held : Held). leads place held.value) contents.registers in
      Adds-ports.adds behind_registers contents.ports place third
      ∙ ap (λ (b : Bool). b || ports) (Adds-registers.adds behind_objects contents.registers place second)
      ∙ ap (λ (b : Bool). (b || registers) || ports)
      (Adds-objects.adds start contents.objects place first
      ∙ ap (λ (b : Bool). b || list_any (holds_address all place) contents.objects) (get_or-replicate (length contents.objects) place false false below)
      ∙ sym (any_from (holds_address all place) 0 contents.objects))
      ∙ or_assoc (list_any (λ (entry : KeyedObject). holds_address all place entry.object) all.objects) registers ports

-- how many there are
length_cond : {X : Type 0} (b : Bool) (x : X) (xs : List X) → length (cond b (x ∷ xs) xs) ≡ (if b then 1 else 0) + length xs
length_cond true x xs = (let e : suc (length xs) ≡ 1 + length xs = omega arith in e)
length_cond false x xs = (let e : length xs ≡ 0 + length xs = omega arith in e)

dead_from : (test : ℕ → Bool) (from : ℕ) (objects : List Object) (marks : List Bool) → length marks ≡ length objects →
    ((place : ℕ) → place < length objects → get_or marks place false ≡ test (from + place)) →
    length (filter (λ (entry : KeyedObject). not entry.object.live && test entry.key) (objects_from from objects)) ≡ dead_and_marked objects marks
dead_from test from [] marks long are = refl
dead_from test from (object ∷ rest) [] long are = absurd (omega (arith, long))
dead_from test from (object ∷ rest) (mark ∷ marks) long are =
    let here : mark ≡ test from = are 0 (omega arith) ∙ ap test (let e : from + 0 ≡ from = omega arith in e) in
    let others = dead_from test (from + 1) rest marks (omega (arith, long)) (λ place below. are (suc place) (omega arith) ∙ ap test (let e : from + suc place ≡ (from + 1) + place = omega arith in e)) in
    length_cond (not object.live && test from) (let e : KeyedObject = record { key = from; object = object } in e)
    (filter (λ (entry : KeyedObject). not entry.object.live && test entry.key) (objects_from (from + 1) rest))
    ∙ ap (λ (n : ℕ). (if not object.live && test from then 1 else 0) + n) others
    ∙ ap (λ (b : Bool). (if not object.live && b then 1 else 0) + dead_and_marked rest marks) (sym here)

dead_are : (contents : Contents) → addressed_dead (entries_of contents) ≡ dead_and_marked contents.objects (marks_of contents)
dead_are contents =
    dead_from (is_addressed (entries_of contents)) 0 contents.objects (marks_of contents) (length_marks contents)
    (λ place below. marks_are contents place below ∙ ap (is_addressed (entries_of contents)) (let e : place ≡ 0 + place = omega arith in e))

-- no more are marked than there are
marked_at_most : (objects : List Object) (marks : List Bool) → dead_and_marked objects marks ≤ dead objects
marked_at_most [] marks = omega arith
marked_at_most (object ∷ rest) [] = omega arith
marked_at_most (object ∷ rest) (mark ∷ marks) = by_life object.live mark (marked_at_most rest marks)
  where
    by_life : (live counted : Bool) → dead_and_marked rest marks ≤ dead rest → (if not live && counted then 1 else 0) + dead_and_marked rest marks ≤ (if live then 0 else 1) + dead rest
    by_life true counted fewer = omega (arith, fewer)
    by_life false true fewer = omega (arith, fewer)
    by_life false false fewer = omega (arith, fewer)

live_from : (from : ℕ) (objects : List Object) → sum_by (λ (entry : KeyedObject). live_nodes_of entry.object) (objects_from from objects) ≡ sum_by live_nodes_of objects
live_from from [] = refl
live_from from (object ∷ rest) =
    sum_by-cons (λ (entry : KeyedObject). live_nodes_of entry.object) (let e : KeyedObject = record { key = from; object = object } in e) (objects_from (from + 1) rest)
    ∙ ap (λ (n : ℕ). live_nodes_of object + n) (live_from (from + 1) rest)
    ∙ sym (sum_by-cons live_nodes_of object rest)

-- so the answers are right
pub by_live : (bound : ℕ) (contents : Contents) → bound ≤ sum_by live_nodes_of contents.objects → is_large bound (entries_of contents) ≡ true
by_live bound contents many =
    ap (λ (b : Bool). b || (nat_le bound (addressed_dead (entries_of contents)) || nat_le bound (length contents.unequal)))
    (ap (nat_le bound) (live_from 0 contents.objects) ∙ le-leb bound (sum_by live_nodes_of contents.objects) many)

pub by_pairs : (bound : ℕ) (contents : Contents) → bound ≤ length contents.unequal → is_large bound (entries_of contents) ≡ true
by_pairs bound contents many =
    ap (λ (b : Bool). nat_le bound (live_nodes (entries_of contents)) || (nat_le bound (addressed_dead (entries_of contents)) || b)) (le-leb bound (length contents.unequal) many)
    ∙ ap (λ (b : Bool). nat_le bound (live_nodes (entries_of contents)) || b) (or_true (nat_le bound (addressed_dead (entries_of contents))))
    ∙ or_true (nat_le bound (live_nodes (entries_of contents)))

above : (bound count : ℕ) → count < bound → nat_le bound count ≡ false
above bound count less = by_test (nat_le bound count) refl
  where
    by_test : (b : Bool) → nat_le bound count ≡ b → nat_le bound count ≡ false
    by_test false is = is
    by_test true is = let most : bound ≤ count = leb-true bound count is in absurd (omega (arith, most, less))

pub by_marks : (bound : ℕ) (contents : Contents) → sum_by live_nodes_of contents.objects < bound → length contents.unequal < bound →
    is_large bound (entries_of contents) ≡ nat_le bound (dead_and_marked contents.objects (marks_of contents))
by_marks bound contents few_live few_pairs =
    ap (λ (b : Bool). b || (nat_le bound (addressed_dead (entries_of contents)) || nat_le bound (length contents.unequal)))
    (ap (nat_le bound) (live_from 0 contents.objects) ∙ above bound (sum_by live_nodes_of contents.objects) few_live)
    ∙ ap (λ (b : Bool). nat_le bound (addressed_dead (entries_of contents)) || b) (above bound (length contents.unequal) few_pairs)
    ∙ or_false (nat_le bound (addressed_dead (entries_of contents)))
    ∙ ap (nat_le bound) (dead_are contents)

pub by_dead : (bound : ℕ) (contents : Contents) → sum_by live_nodes_of contents.objects < bound → length contents.unequal < bound → dead contents.objects < bound →
    is_large bound (entries_of contents) ≡ false
by_dead bound contents few_live few_pairs few_dead =
    by_marks bound contents few_live few_pairs
    ∙ above bound (dead_and_marked contents.objects (marks_of contents)) (let fewer = marked_at_most contents.objects (marks_of contents) in omega (arith, fewer, few_dead))

-- the sum is not below what it begins with
live_above : (objects : List Object) (before : ℕ) → before ≤ fold (λ count (object : Object). count + live_nodes_of object) before objects
live_above [] before = omega arith
live_above (object ∷ rest) before = let later = live_above rest (before + live_nodes_of object) in omega (arith, later)

pub enough : (objects : List Object) (bound count : ℕ) (left : List Object) → sum_by live_nodes_of objects ≡ fold (λ count (object : Object). count + live_nodes_of object) count left → bound ≤ count →
    bound ≤ sum_by live_nodes_of objects
enough objects bound count left is many = let later = live_above left count in omega (arith, is, many, later)
