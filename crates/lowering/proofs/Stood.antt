-- What stands at a point as the graph is placed is what the graph says of it; and which registers stand behind spare ones and emptied ones.
use Rattle.std.proofs.Common.{◌≡◌, ◌<◌, ◌≤◌, ◌⊎◌, ℕ, zero, suc, List, [], ◌∷◌, ◌++◌, map, length, filter, Bool, true, false, not, ◌&&◌, ◌||◌, nat_eq, refl, sym, ap, ◌∙◌, inl, inr, ⊎_elim, arith, Option, Some, slice_get, subst, if◌then◌else◌}
use Rattle.std.specs.Prelude.{nat_lt}
use Rattle.std.specs.List.{list_any}
use Rattle.std.specs.Option.{option_map_or}
use Rattle.std.proofs.Math.Nat.{le-max_left, le-max_right}
use Rattle.std.proofs.lemmas.Bool.{false≢true, eqb-true, eq-eqb, and_from, and_parts, not-true, not_from_false, ne_eqb, or_left, or_right, or_cases}
use Rattle.cbase.specs.declared.place.Place.{Place}
use Rattle.c_machine.specs.Text.{Text}
use Rattle.flow.specs.declared.flow_graph.Flow.{Flow}
use Rattle.flow.specs.declared.flow_graph.Standing.{Standing as Stood}
use Rattle.flow.specs.declared.flow_graph.Width.{Width}
use Rattle.flow.specs.Holding.{put_width, emptied_widths}
use Rattle.flow.specs.declared.instruction.Instr.TheVariants as i
use Rattle.flow.specs.Standing.{any, stands_at as flow_stands_at}
use Rattle.simulation.specs.Slots.{Slot, InRegister, KnownAs, Truth, Gone, is_free, are_in, are_free}
use Rattle.lowering.specs.Moves.{Emits, run_of}
use Rattle.lowering.specs.Placing.{Made, after, with_width, with_point, with_spares, registers_of, registers_left, behind_widths, stands_at}
use Rattle.lowering.proofs.Jumping.{AreUnder}
use Rattle.lowering.proofs.Placings.{IsSound, IsPlacing, IsSpelled}

-- what was there stays
front_get : {X : Type 0} (front back : List X) (number : ℕ) → number < length front → slice_get (front ++ back) number ≡ slice_get front number
front_get [] back number less = absurd (omega arith)
front_get (first ∷ front) back zero less = refl
front_get (first ∷ front) back (suc number) less = front_get front back number (omega arith)

pub stood_before : {before after : Made} {from : ℕ} (point : ℕ) → IsPlacing before from after → IsSound before → point < before.points → stands_at after point ≡ stands_at before point
stood_before {before = before} {after = after} point placing sound inside =
    ap (λ (found : Option Stood). option_map_or (λ standing. standing) found (record { variables = []; registers = [] }))
    (ap (λ (list : List Stood). slice_get list point) placing.stands.1 ∙ front_get before.stands placing.stands.0 point (let h = sound.stands in omega (arith, h)))

pub stood_in : {flow : Flow} {before after : Made} {from : ℕ} (point : ℕ) → IsSpelled flow before from after → IsPlacing before from after → point < before.points →
    stands_at before point ≡ flow_stands_at flow point
stood_in {flow = flow} {before = before} {after = after} point spelled placing inside =
    sym (ap (λ (found : Option Stood). option_map_or (λ standing. standing) found (record { variables = []; registers = [] }))
    (ap (λ (list : List Stood). slice_get list point) spelled.stands.1
    ∙ (front_get after.stands spelled.stands.0 point (let h = placing.sound.stands in let k = placing.points in omega (arith, h)))
    ) ∙ stood_before point placing spelled.sound inside)

-- the point that was taken last
last_get : {X : Type 0} (front : List X) (last : X) → slice_get (front ++ last ∷ []) (length front) ≡ Some last
last_get [] last = refl
last_get (first ∷ front) last = last_get front last

pub last_stood : (standing : Stood) (made : Made) → length made.stands ≡ made.points → stands_at (with_point standing made) made.points ≡ standing
last_stood standing made size =
    ap (λ (found : Option Stood). option_map_or (λ stood. stood) found (record { variables = []; registers = [] }))
    (subst (λ (n : ℕ). slice_get (made.stands ++ standing ∷ []) n ≡ Some standing) size (last_get made.stands standing))

abbrev pub registers_in : List Width → List ℕ
registers_in widths = map (λ one. one.register) widths

-- registers below a number, and what a head of a loop takes
pub under_widths : (count : ℕ) (widths : List Width) → behind_widths widths ≤ count → AreUnder count (registers_in widths)
under_widths count [] less = tt
under_widths count (one ∷ rest) less =
    let here = le-max_left (suc one.register) (behind_widths rest) in
    let more = le-max_right (suc one.register) (behind_widths rest) in
    (omega arith, under_widths count rest (omega arith))

-- registers behind those that are there, and those that are emptied
in_put : (register : ℕ) (new : Width) (widths : List Width) → list_any (nat_eq register) (registers_in widths) ≡ true → list_any (nat_eq register) (registers_in (put_width new widths)) ≡ true
in_put register new [] is = absurd (false≢true is)
in_put register new (first ∷ rest) is =
    by_order (nat_lt new.register first.register) (nat_eq first.register new.register) refl (or_cases (nat_eq register first.register) (list_any (nat_eq register) (registers_in rest)) is) (in_put register new rest)
  where
    by_order : (less same : Bool) → nat_eq first.register new.register ≡ same →
        (nat_eq register first.register ≡ true) ⊎ (list_any (nat_eq register) (registers_in rest) ≡ true) →
        (list_any (nat_eq register) (registers_in rest) ≡ true → list_any (nat_eq register) (registers_in (put_width new rest)) ≡ true) →
        list_any (nat_eq register) (registers_in (if less then new ∷ first ∷ rest else (if same then new ∷ rest else first ∷ put_width new rest))) ≡ true
    by_order true same order place more =
        or_right (nat_eq register new.register) (nat_eq register first.register || list_any (nat_eq register) (registers_in rest)) is
    by_order false true order (inl here) more =
        or_left (nat_eq register new.register) (list_any (nat_eq register) (registers_in rest)) (ap (λ (n : ℕ). nat_eq register n) (sym (eqb-true first.register new.register order)) ∙ here)
    by_order false true order (inr there) more = or_right (nat_eq register new.register) (list_any (nat_eq register) (registers_in rest)) there
    by_order false false order (inl here) more = or_left (nat_eq register first.register) (list_any (nat_eq register) (registers_in (put_width new rest))) here
    by_order false false order (inr there) more = or_right (nat_eq register first.register) (list_any (nat_eq register) (registers_in (put_width new rest))) (more there)

of_put : (register : ℕ) (new : Width) (widths : List Width) → list_any (nat_eq register) (registers_in (put_width new widths)) ≡ true →
    (register ≡ new.register) ⊎ (list_any (nat_eq register) (registers_in widths) ≡ true)
of_put register new [] is = ⊎_elim (λ here. inl (eqb-true register new.register here)) (λ never. absurd (false≢true never)) (or_cases (nat_eq register new.register) false is)
of_put register new (first ∷ rest) is = by_order (nat_lt new.register first.register) (nat_eq first.register new.register) refl (of_put register new rest) is
  where
    by_order : (less same : Bool) → nat_eq first.register new.register ≡ same →
        (list_any (nat_eq register) (registers_in (put_width new rest)) ≡ true → (register ≡ new.register) ⊎ (list_any (nat_eq register) (registers_in rest) ≡ true)) →
        list_any (nat_eq register) (registers_in (if less then new ∷ first ∷ rest else (if same then new ∷ rest else first ∷ put_width new rest))) ≡ true →
        (register ≡ new.register) ⊎ (list_any (nat_eq register) (registers_in (first ∷ rest)) ≡ true)
    by_order true same order more is' =
        ⊎_elim (λ here. inl (eqb-true register new.register here)) (λ there. inr there) (or_cases (nat_eq register new.register) (list_any (nat_eq register) (registers_in (first ∷ rest))) is')
    by_order false true order more is' =
        ⊎_elim (λ here. inl (eqb-true register new.register here)) (λ there. inr (or_right (nat_eq register first.register) (list_any (nat_eq register) (registers_in rest)) there))
        (or_cases (nat_eq register new.register) (list_any (nat_eq register) (registers_in rest)) is')
    by_order false false order more is' =
        ⊎_elim (λ here. inr (or_left (nat_eq register first.register) (list_any (nat_eq register) (registers_in rest)) here))
        (λ there. ⊎_elim (λ same. inl same) (λ among. inr (or_right (nat_eq register first.register) (list_any (nat_eq register) (registers_in rest)) among)) (more there))
        (or_cases (nat_eq register first.register) (list_any (nat_eq register) (registers_in (put_width new rest))) is')

in_emptied : (register : ℕ) (gone : List ℕ) (widths : List Width) → list_any (nat_eq register) gone ≡ false → list_any (nat_eq register) (registers_in widths) ≡ true →
    list_any (nat_eq register) (registers_in (emptied_widths gone widths)) ≡ true
in_emptied register gone [] stays is = is
in_emptied register gone (first ∷ rest) stays is =
    by_test (list_any (nat_eq first.register) gone) refl (or_cases (nat_eq register first.register) (list_any (nat_eq register) (registers_in rest)) is) (in_emptied register gone rest stays)
  where
    by_test : (goes : Bool) → list_any (nat_eq first.register) gone ≡ goes → (nat_eq register first.register ≡ true) ⊎ (list_any (nat_eq register) (registers_in rest) ≡ true) →
        (list_any (nat_eq register) (registers_in rest) ≡ true → list_any (nat_eq register) (registers_in (emptied_widths gone rest)) ≡ true) →
        list_any (nat_eq register) (registers_in (if not goes then first ∷ emptied_widths gone rest else emptied_widths gone rest)) ≡ true
    by_test true goes (inl here) more = absurd (false≢true (sym stays ∙ (ap (λ (n : ℕ). list_any (nat_eq n) gone) (eqb-true register first.register here) ∙ goes)))
    by_test true goes (inr there) more = more there
    by_test false goes (inl here) more = or_left (nat_eq register first.register) (list_any (nat_eq register) (registers_in (emptied_widths gone rest))) here
    by_test false goes (inr there) more = or_right (nat_eq register first.register) (list_any (nat_eq register) (registers_in (emptied_widths gone rest))) (more there)

pub of_emptied : (register : ℕ) (gone : List ℕ) (widths : List Width) → list_any (nat_eq register) (registers_in (emptied_widths gone widths)) ≡ true →
    (list_any (nat_eq register) gone ≡ false) × (list_any (nat_eq register) (registers_in widths) ≡ true)
of_emptied register gone [] is = absurd (false≢true is)
of_emptied register gone (first ∷ rest) is = by_test (list_any (nat_eq first.register) gone) refl (of_emptied register gone rest) is
  where
    by_test : (goes : Bool) → list_any (nat_eq first.register) gone ≡ goes →
        (list_any (nat_eq register) (registers_in (emptied_widths gone rest)) ≡ true → (list_any (nat_eq register) gone ≡ false) × (list_any (nat_eq register) (registers_in rest) ≡ true)) →
        list_any (nat_eq register) (registers_in (if not goes then first ∷ emptied_widths gone rest else emptied_widths gone rest)) ≡ true →
        (list_any (nat_eq register) gone ≡ false) × (list_any (nat_eq register) (registers_in (first ∷ rest)) ≡ true)
    by_test true goes more is' = (let found = more is' in (found.0, or_right (nat_eq register first.register) (list_any (nat_eq register) (registers_in rest)) found.1))
    by_test false goes more is' =
        ⊎_elim (λ here. (ap (λ (n : ℕ). list_any (nat_eq n) gone) (eqb-true register first.register here) ∙ goes, or_left (nat_eq register first.register) (list_any (nat_eq register) (registers_in rest)) here))
        (λ there. let found = more there in (found.0, or_right (nat_eq register first.register) (list_any (nat_eq register) (registers_in rest)) found.1))
        (or_cases (nat_eq register first.register) (list_any (nat_eq register) (registers_in (emptied_widths gone rest))) is')

-- spare registers more
in_spares : (register spare count : ℕ) (standing : Stood) → list_any (nat_eq register) (registers_of standing) ≡ true → list_any (nat_eq register) (registers_of (with_spares spare count standing)) ≡ true
in_spares register spare zero standing is = is
in_spares register spare (suc count) standing is = in_spares register (suc spare) count (with_width spare 8 standing) (in_put register (record { register = spare; size = 8 }) standing.registers is)

of_spares : (register spare count : ℕ) (standing : Stood) → list_any (nat_eq register) (registers_of (with_spares spare count standing)) ≡ true →
    (list_any (nat_eq register) (run_of spare count) ≡ true) ⊎ (list_any (nat_eq register) (registers_of standing) ≡ true)
of_spares register spare zero standing is = inr is
of_spares register spare (suc count) standing is =
    ⊎_elim (λ later. inl (or_right (nat_eq register spare) (list_any (nat_eq register) (run_of (suc spare) count)) later))
    (λ there. ⊎_elim (λ same. inl (or_left (nat_eq register spare) (list_any (nat_eq register) (run_of (suc spare) count)) (eq-eqb register spare same))) (λ among. inr among)
    (of_put register (record { register = spare; size = 8 }) standing.registers there))
    (of_spares register (suc spare) count (with_width spare 8 standing) is)

-- behind a condition whose spare registers are emptied stands what stood in front of it
abbrev pub behind_test : ℕ → ℕ → List Width → Stood → List Width
behind_test first count gone standing = emptied_widths (run_of first count) (with_spares first count standing).registers

pub of_behind : (register first count : ℕ) (standing : Stood) → list_any (nat_eq register) (registers_in (emptied_widths (run_of first count) (with_spares first count standing).registers)) ≡ true →
    list_any (nat_eq register) (registers_of standing) ≡ true
of_behind register first count standing is =
    let parts = of_emptied register (run_of first count) (with_spares first count standing).registers is in
    ⊎_elim (λ run. absurd (false≢true (sym parts.0 ∙ run))) (λ among. among) (of_spares register first count standing parts.1)

-- registers that are free of an operand and of those behind it
apart_by : (gone : List ℕ) (register size : ℕ) (plain : Bool) (slots : List Slot) → are_free gone (InRegister register size plain ∷ slots) ≡ true →
    (list_any (nat_eq register) gone ≡ false) × (are_free gone slots ≡ true)
apart_by [] register size plain slots free = (refl, refl)
apart_by (first ∷ gone) register size plain slots free =
    let parts = and_parts (not (nat_eq register first) && is_free first slots) (are_free gone (InRegister register size plain ∷ slots)) free in
    let here = and_parts (not (nat_eq register first)) (is_free first slots) parts.0 in
    let more = apart_by gone register size plain slots parts.1 in
    (rw (not-true (nat_eq register first) here.0) more.0, and_from (is_free first slots) (are_free gone slots) here.1 more.1)

else_free : (gone : List ℕ) (slot : Slot) (slots : List Slot) → ((register : ℕ) → is_free register (slot ∷ slots) ≡ is_free register slots) → are_free gone (slot ∷ slots) ≡ true → are_free gone slots ≡ true
else_free [] slot slots same free = refl
else_free (first ∷ gone) slot slots same free =
    let parts = and_parts (is_free first (slot ∷ slots)) (are_free gone (slot ∷ slots)) free in
    and_from (is_free first slots) (are_free gone slots) (sym (same first) ∙ parts.0) (else_free gone slot slots same parts.1)

-- operands whose registers stand, behind registers that none of them has
pub stand_behind : (gone : List ℕ) (first count : ℕ) (standing : Stood) (slots : List Slot) → are_free gone slots ≡ true → are_in (registers_of standing) slots ≡ true →
    are_in (registers_in (emptied_widths gone (with_spares first count standing).registers)) slots ≡ true
stand_behind gone first count standing [] free are = refl
stand_behind gone first count standing (InRegister register size plain ∷ slots) free are =
    let parts = and_parts (list_any (nat_eq register) (registers_of standing)) (are_in (registers_of standing) slots) are in
    let here = apart_by gone register size plain slots free in
    and_from (list_any (nat_eq register) (registers_in (emptied_widths gone (with_spares first count standing).registers))) (are_in (registers_in (emptied_widths gone (with_spares first count standing).registers)) slots)
    (in_emptied register gone (with_spares first count standing).registers here.0 (in_spares register first count standing parts.0)) (stand_behind gone first count standing slots here.1 parts.1)
stand_behind gone first count standing (KnownAs number ∷ slots) free are = stand_behind gone first count standing slots (else_free gone (KnownAs number) slots (λ register. refl) free) are
stand_behind gone first count standing (Truth holds ∷ slots) free are = stand_behind gone first count standing slots (else_free gone (Truth holds) slots (λ register. refl) free) are
stand_behind gone first count standing (Gone ∷ slots) free are = stand_behind gone first count standing slots (else_free gone Gone slots (λ register. refl) free) are

abbrev is_nil : {X : Type 0} → List X → Bool
is_nil [] = true
is_nil (first ∷ rest) = false

cons_nil : {X : Type 0} {first : X} {rest : List X} → first ∷ rest ≡ [] → ⊥
cons_nil is = false≢true (ap is_nil is)

turned : (one other : ℕ) → nat_eq one other ≡ true → nat_eq other one ≡ true
turned one other is = eq-eqb other one (sym (eqb-true one other is))

turn_round : (kept : List Width) (register : ℕ) → list_any (nat_eq register) (registers_in kept) ≡ true → list_any (λ other. nat_eq other.register register) kept ≡ true
turn_round [] register is = is
turn_round (first ∷ kept) register is =
    ⊎_elim (λ here. or_left (nat_eq first.register register) (list_any (λ other. nat_eq other.register register) kept) (turned register first.register here))
    (λ there. or_right (nat_eq first.register register) (list_any (λ other. nat_eq other.register register) kept) (turn_round kept register there))
    (or_cases (nat_eq register first.register) (list_any (nat_eq register) (registers_in kept)) is)

turn_back : (kept : List Width) (register : ℕ) → list_any (λ other. nat_eq other.register register) kept ≡ true → list_any (nat_eq register) (registers_in kept) ≡ true
turn_back [] register is = is
turn_back (first ∷ kept) register is =
    ⊎_elim (λ here. or_left (nat_eq register first.register) (list_any (nat_eq register) (registers_in kept)) (turned first.register register here))
    (λ there. or_right (nat_eq register first.register) (list_any (nat_eq register) (registers_in kept)) (turn_back kept register there))
    (or_cases (nat_eq first.register register) (list_any (λ other. nat_eq other.register register) kept) is)

-- what is left is none of what is kept
is_left : (register : ℕ) (stands kept : List Width) → list_any (nat_eq register) (registers_in kept) ≡ false → list_any (nat_eq register) (registers_in stands) ≡ true →
    list_any (nat_eq register) (registers_left stands kept) ≡ true
is_left register [] kept apart is = is
is_left register (first ∷ stands) kept apart is =
    by_test (list_any (λ other. nat_eq other.register first.register) kept) refl (or_cases (nat_eq register first.register) (list_any (nat_eq register) (registers_in stands)) is) (is_left register stands kept apart)
  where
    by_test : (stays : Bool) → list_any (λ other. nat_eq other.register first.register) kept ≡ stays → (nat_eq register first.register ≡ true) ⊎ (list_any (nat_eq register) (registers_in stands) ≡ true) →
        (list_any (nat_eq register) (registers_in stands) ≡ true → list_any (nat_eq register) (registers_left stands kept) ≡ true) →
        list_any (nat_eq register) (map (λ one. one.register) (if not stays then first ∷ filter (λ one. not (list_any (λ other. nat_eq other.register one.register) kept)) stands
        else filter (λ one. not (list_any (λ other. nat_eq other.register one.register) kept)) stands)) ≡ true
    by_test true stays (inl here) more =
        absurd (false≢true (sym apart ∙ turn_back kept register (ap (λ (n : ℕ). list_any (λ other. nat_eq other.register n) kept) (eqb-true register first.register here) ∙ stays)))
    by_test true stays (inr there) more = more there
    by_test false stays (inl here) more = or_left (nat_eq register first.register) (list_any (nat_eq register) (registers_left stands kept)) here
    by_test false stays (inr there) more = or_right (nat_eq register first.register) (list_any (nat_eq register) (registers_left stands kept)) (more there)

free_one : (register : ℕ) (kept : List Width) (slots : List Slot) → list_any (λ other. nat_eq other.register register) kept ≡ false → are_in (registers_in kept) slots ≡ true → is_free register slots ≡ true
free_one register kept [] apart are = refl
free_one register kept (InRegister other size plain ∷ slots) apart are =
    let parts = and_parts (list_any (nat_eq other) (registers_in kept)) (are_in (registers_in kept) slots) are in
    and_from (not (nat_eq other register)) (is_free register slots)
    (not_from_false (nat_eq other register)
    (ne_eqb other register (λ same. false≢true (sym apart ∙ turn_round kept register (ap (λ (n : ℕ). list_any (nat_eq n) (registers_in kept)) (sym same) ∙ parts.0)))))
    (free_one register kept slots apart parts.1)
free_one register kept (KnownAs number ∷ slots) apart are = free_one register kept slots apart are
free_one register kept (Truth holds ∷ slots) apart are = free_one register kept slots apart are
free_one register kept (Gone ∷ slots) apart are = free_one register kept slots apart are

each_apart : (stands kept : List Width) (slots : List Slot) → are_in (registers_in kept) slots ≡ true → are_free (registers_left stands kept) slots ≡ true
each_apart [] kept slots are = refl
each_apart (first ∷ stands) kept slots are = by_test (list_any (λ other. nat_eq other.register first.register) kept) refl (each_apart stands kept slots are)
  where
    by_test : (stays : Bool) → list_any (λ other. nat_eq other.register first.register) kept ≡ stays → are_free (registers_left stands kept) slots ≡ true →
        are_free (map (λ one. one.register) (if not stays then first ∷ filter (λ one. not (list_any (λ other. nat_eq other.register one.register) kept)) stands
        else filter (λ one. not (list_any (λ other. nat_eq other.register one.register) kept)) stands)) slots ≡ true
    by_test true stays more = more
    by_test false stays more = and_from (is_free first.register slots) (are_free (registers_left stands kept) slots) (free_one first.register kept slots stays are) more

-- a jump leaves the registers that stand and are none of those around its loop
left_by : (stands kept : List Width) → ((register : ℕ) → list_any (nat_eq register) (registers_in stands) ≡ true → list_any (λ other. nat_eq other.register register) kept ≡ true) → registers_left stands kept ≡ []
left_by [] kept each = refl
left_by (first ∷ stands) kept each =
    let here : list_any (λ other. nat_eq other.register first.register) kept ≡ true =
    each first.register (or_left (nat_eq first.register first.register) (list_any (nat_eq first.register) (registers_in stands)) (eq-eqb first.register first.register refl)) in
    rw here (left_by stands kept (λ register is. each register (or_right (nat_eq register first.register) (list_any (nat_eq register) (registers_in stands)) is)))

among_kept : (register : ℕ) (stands kept : List Width) → registers_left stands kept ≡ [] → list_any (nat_eq register) (registers_in stands) ≡ true → list_any (λ other. nat_eq other.register register) kept ≡ true
among_kept register [] kept none is = absurd (false≢true is)
among_kept register (first ∷ stands) kept none is =
    by_test (list_any (λ other. nat_eq other.register first.register) kept) refl none (or_cases (nat_eq register first.register) (list_any (nat_eq register) (registers_in stands)) is)
    (among_kept register stands kept)
  where
    by_test : (stays : Bool) → list_any (λ other. nat_eq other.register first.register) kept ≡ stays →
        map (λ one. one.register) (if not stays then first ∷ filter (λ one. not (list_any (λ other. nat_eq other.register one.register) kept)) stands
        else filter (λ one. not (list_any (λ other. nat_eq other.register one.register) kept)) stands) ≡ [] →
        (nat_eq register first.register ≡ true) ⊎ (list_any (nat_eq register) (registers_in stands) ≡ true) →
        (registers_left stands kept ≡ [] → list_any (nat_eq register) (registers_in stands) ≡ true → list_any (λ other. nat_eq other.register register) kept ≡ true) →
        list_any (λ other. nat_eq other.register register) kept ≡ true
    by_test false stays none' place more = absurd (cons_nil none')
    by_test true stays none' (inl here) more = ap (λ (n : ℕ). list_any (λ other. nat_eq other.register n) kept) (eqb-true register first.register here) ∙ stays
    by_test true stays none' (inr there) more = more none' there

-- where nothing is left nothing is left behind a condition, or of what is among it
pub left_among : (stands stands' kept : List Width) → ((register : ℕ) → list_any (nat_eq register) (registers_in stands) ≡ true → list_any (nat_eq register) (registers_in stands') ≡ true) →
    registers_left stands' kept ≡ [] → registers_left stands kept ≡ []
left_among stands stands' kept each none = left_by stands kept (λ register is. among_kept register stands' kept none (each register is))

pub left_itself : (stands kept : List Width) → ((register : ℕ) → list_any (nat_eq register) (registers_in stands) ≡ true → list_any (nat_eq register) (registers_in kept) ≡ true) → registers_left stands kept ≡ []
left_itself stands kept each = left_by stands kept (λ register is. turn_round kept register (each register is))

-- a register that is left is one that stands
pub left_apart : (stands kept : List Width) (slots : List Slot) → are_in (registers_in kept) slots ≡ true → are_free (registers_left stands kept) slots ≡ true
left_apart stands kept slots are = each_apart stands kept slots are

-- operands in registers that stand, in none of those around the loop
pub left_all : (stands kept : List Width) (slots : List Slot) → are_in (registers_in stands) slots ≡ true → are_free (registers_in kept) slots ≡ true → are_in (registers_left stands kept) slots ≡ true
left_all stands kept [] are free = refl
left_all stands kept (InRegister register size plain ∷ slots) are free =
    let parts = and_parts (list_any (nat_eq register) (registers_in stands)) (are_in (registers_in stands) slots) are in
    let here = apart_by (registers_in kept) register size plain slots free in
    and_from (list_any (nat_eq register) (registers_left stands kept)) (are_in (registers_left stands kept) slots) (is_left register stands kept here.0 parts.0) (left_all stands kept slots parts.1 here.1)
left_all stands kept (KnownAs number ∷ slots) are free = left_all stands kept slots are (else_free (registers_in kept) (KnownAs number) slots (λ register. refl) free)
left_all stands kept (Truth holds ∷ slots) are free = left_all stands kept slots are (else_free (registers_in kept) (Truth holds) slots (λ register. refl) free)
left_all stands kept (Gone ∷ slots) are free = left_all stands kept slots are (else_free (registers_in kept) Gone slots (λ register. refl) free)

-- the registers that a `Finish` empties
pub asked_all : (registers : List ℕ) → map (λ asked. asked.register) (map any registers) ≡ registers
asked_all [] = refl
asked_all (register ∷ registers) = ap (λ rest. register ∷ rest) (asked_all registers)

pub finished_widths : (t : Text) (gone : List ℕ) (place : Place) (standing : Stood) → (after t (Emits (i.Finish gone) place) standing).registers ≡ emptied_widths gone standing.registers
finished_widths t gone place standing = ap (λ (registers : List ℕ). emptied_widths registers standing.registers) (asked_all gone)

-- none is emptied
pub emptied_none : (widths : List Width) → emptied_widths [] widths ≡ widths
emptied_none [] = refl
emptied_none (first ∷ rest) = ap (λ (list : List Width). first ∷ list) (emptied_none rest)
