-- Each step of the search keeps what it knows, and is one of as many as there can be.
use Rattle.std.proofs.Common.{◌≡◌, ℕ, zero, suc, ◌+◌, ◌-◌, ◌<◌, ◌≤◌, ◌⊎◌, inl, inr, List, [], ◌∷◌, ◌++◌, map, length, get_or, min, refl, sym, ap, subst, ◌∙◌, arith, Bool, true, false, not, ◌&&◌, Option, Some}
use Rattle.std.specs.Prelude.{Contains, All, slice_index, slice_index_or, slice_get, slice_set, IsTrue, if◌then◌else◌, nat_eq, sum_by, replicate}
use Rattle.std.proofs.Math.Nat.{min-le_left, min-le_right, min-eq_left, min-eq_right}
use Rattle.std.proofs.lemmas.List.{length-append, length-set, length-map, length-replicate}
use Rattle.std.proofs.lemmas.List.Sums.{sum_by-append, sum_by-set}
use Rattle.std.proofs.lemmas.List.Elements.{Contains-push, Contains-push_cases, Contains-append_left, All-pop, All-push, All-weaker, All-nil}
use Rattle.std.proofs.lemmas.Option.{slice_get_within, get_or_from_slice_get, slice_get_read}
use Rattle.std.proofs.lemmas.Bool.{eqb-true}
use Rattle.flow.specs.declared.flow_graph.FlowEdge.{FlowEdge}
use Rattle.flow.specs.declared.counting.Mark.{Mark}
use Rattle.flow.specs.declared.counting.Mark.TheVariants.{New, Open, Done}
use Rattle.flow.specs.declared.counting.Visit.{Visit}
use Rattle.flow.specs.declared.counting.Turn.TheVariants.{On, Cycle, Counted}
use Rattle.flow.specs.Walks.{goes_from, is_return, IsStep, IsWalk, IsNumberOfWalks, ReachesCycle}
use Rattle.flow.specs.Counting.{is_way_from, last_below, ArePart, IsCapped, HasCounted, Says, IsTrail, IsSearch, Turns, AreLinks, steps_left, mark_steps}
use Rattle.flow.proofs.WalkLaws.{no_cycle}
use Rattle.flow.proofs.Parts.{ArePart-none, ArePart-last, ArePart-more, AreAllWalks-parts}
use Rattle.flow.proofs.Trails.{IsTrail-push, IsTrail-pop, trail_walk, walk_onward}
use Rattle.flow.proofs.Marks.{slice_set_cases, slice_get-replicate}

-- a sum of numbers that are kept up to 200,001
capped_sum : (one other kept first second : ℕ) → kept ≡ min (one + other) 200001 → IsCapped one first → IsCapped other second → IsCapped kept (first + second)
capped_sum one other kept first second is small small' = record {
  most = let e : min (one + other) 200001 ≤ 200001 = min-le_right (one + other) 200001 in omega arith;
  below = let e : min (one + other) 200001 ≤ one + other = min-le_left (one + other) 200001 in
      let a = small.below in let b = small'.below in omega arith;
  exact = exact;
}
  where
    exact : kept < 200001 → kept ≡ first + second
    exact less = by_order (ℕ-le_cases (one + other) 200001)
      where
        ℕ-le_cases : (a b : ℕ) → (a ≤ b) ⊎ (b ≤ a)
        ℕ-le_cases zero b = inl (omega arith)
        ℕ-le_cases (suc a) zero = inr (omega arith)
        ℕ-le_cases (suc a) (suc b) = elim (ℕ-le_cases a b) [ inl l ↦ inl (omega arith) | inr l ↦ inr (omega arith) ]

        by_order : (one + other ≤ 200001) ⊎ (200001 ≤ one + other) → kept ≡ first + second
        by_order (inl few) =
            let whole : min (one + other) 200001 ≡ one + other = min-eq_left few in
            let one_is : one ≡ first = small.exact (omega arith) in
            let other_is : other ≡ second = small'.exact (omega arith) in omega arith
        by_order (inr many) = let full : min (one + other) 200001 ≡ 200001 = min-eq_right many in absurd (omega arith)

last_below-le : (edges : List FlowEdge) (point count : ℕ) → last_below edges point count ≤ count
last_below-le edges point zero = omega arith
last_below-le edges point (suc count) = by_cases (is_way_from point (slice_get edges count)) (last_below-le edges point count)
  where
    by_cases : (way : Bool) → last_below edges point count ≤ count → (if way then suc count else last_below edges point count) ≤ suc count
    by_cases true below = omega arith
    by_cases false below = omega arith

-- the last one below the last one is itself
last_below-again : (edges : List FlowEdge) (point count : ℕ) → last_below edges point (last_below edges point count) ≡ last_below edges point count
last_below-again edges point zero = refl
last_below-again edges point (suc count) = by_cases (is_way_from point (slice_get edges count)) refl (last_below-again edges point count)
  where
    by_cases : (way : Bool) → is_way_from point (slice_get edges count) ≡ way → last_below edges point (last_below edges point count) ≡ last_below edges point count →
        last_below edges point (if way then suc count else last_below edges point count) ≡ (if way then suc count else last_below edges point count)
    by_cases true is again = rw is refl
    by_cases false is again = again

-- a cursor that stays says that its edge goes out of the point
goes_here : (edges : List FlowEdge) (point number : ℕ) (edge : FlowEdge) → last_below edges point (suc number) ≡ suc number →
    slice_get edges number ≡ Some edge → IsTrue (goes_from point edge)
goes_here edges point number edge stays stands = by_cases (goes_from point edge) refl
  where
    here : (if is_way_from point (Some edge) then suc number else last_below edges point number) ≡ suc number
    here = subst (λ (o : Option FlowEdge). (if is_way_from point o then suc number else last_below edges point number) ≡ suc number) stands stays

    by_cases : (goes : Bool) → goes_from point edge ≡ goes → goes_from point edge ≡ true
    by_cases true is = is
    by_cases false is =
        let small : last_below edges point number ≤ number = last_below-le edges point number in
        let big : last_below edges point number ≡ suc number =
        subst (λ (b : Bool). (if b then suc number else last_below edges point number) ≡ suc number) is here in
        absurd (omega arith)

from_goes : (point : ℕ) (edge : FlowEdge) → IsTrue (goes_from point edge) → edge.from ≡ point
from_goes point edge goes = eqb-true edge.from point (first_true (nat_eq edge.from point) (not (is_return edge.instr)) goes)
  where
    first_true : (a b : Bool) → (a && b) ≡ true → a ≡ true
    first_true true b is = refl
    first_true false b is = is

step_here : (edges : List FlowEdge) (visit : Visit) (number : ℕ) (edge : FlowEdge) → HasCounted edges visit → visit.cursor ≡ suc number →
    slice_get edges number ≡ Some edge → IsTrue (goes_from visit.point edge)
step_here edges visit number edge counted cursor stands =
    goes_here edges visit.point number edge (subst (λ (k : ℕ). last_below edges visit.point k ≡ k) cursor counted.next) stands

-- the items of a list and its last one
All-last : {X : Type 0} (P : X → Type 0) (xs : List X) (x : X) → All P (xs ++ x ∷ []) → All P xs × P x
All-last P xs x all = All-pop P (xs ++ x ∷ []) xs (Some x) refl all

-- a visit at whose end all edges are counted
ended : (edges : List FlowEdge) (visit : Visit) (kept : ℕ) → HasCounted edges visit → visit.cursor ≡ 0 → kept ≡ min (visit.number + 1) 200001 →
    (number : ℕ) × IsNumberOfWalks edges visit.point number × IsCapped kept number
ended edges visit kept counted end is = (
  length counted.walks + 1,
  record {
    walks = [] ∷ counted.walks;
    are_all = AreAllWalks-parts edges visit.point counted.walks (subst (λ (k : ℕ). ArePart edges visit.point k counted.walks) end counted.part);
    count = omega arith;
  },
  capped_sum visit.number 1 kept (length counted.walks) 1 is counted.capped (record { most = omega arith; below = omega arith; exact = λ less. refl }),
)

pub finished_all : (edges : List FlowEdge) (marks : List Mark) (earlier earlier' : List Visit) (visit : Visit) (kept : ℕ) →
    visit.cursor ≡ 0 → length earlier ≡ 0 → kept ≡ min (visit.number + 1) 200001 →
    Turns edges marks earlier visit (Counted kept) (slice_set marks visit.point (Done kept)) earlier' visit
finished_all edges marks earlier earlier' visit kept end none is = record {
  keeps = λ from known. at_entry from earlier none known;
  fewer = λ e. absurd (cc);
  points = length-set marks visit.point (Done kept);
}
  where
    at_entry : (from : ℕ) (visits : List Visit) → length visits ≡ 0 → IsSearch edges from marks visits visit →
        (number : ℕ) × IsNumberOfWalks edges from number × IsCapped kept number
    at_entry from [] empty known =
        subst (λ (p : ℕ). (number : ℕ) × IsNumberOfWalks edges p number × IsCapped kept number) (sym known.trail) (ended edges visit kept known.counted end is)
    at_entry from (first ∷ rest) empty known = absurd (omega arith)

pub finished_one : (edges : List FlowEdge) (marks : List Mark) (earlier earlier' : List Visit) (visit visit' : Visit) (kept : ℕ) →
    visit.cursor ≡ 0 → visit.point < length marks → earlier ≡ earlier' ++ visit' ∷ [] → kept ≡ min (visit.number + 1) 200001 →
    Turns edges marks earlier visit On (slice_set marks visit.point (Done kept)) earlier' visit'
finished_one edges marks earlier earlier' visit visit' kept end inside visits is = record {
  keeps = keeps;
  fewer = λ _. fewer;
  points = length-set marks visit.point (Done kept);
}
  where
    marks' : List Mark
    marks' = slice_set marks visit.point (Done kept)

    keeps : (from : ℕ) → IsSearch edges from marks earlier visit → IsSearch edges from (slice_set marks visit.point (Done kept)) earlier' visit'
    keeps from known = record {
      trail = (IsTrail-pop edges from earlier' visit' visit.point (subst (λ (vs : List Visit). IsTrail edges from vs visit.point) visits known.trail)).trail;
      counted = counted.1;
      earlier_counted = counted.0;
      inside = subst (λ (n : ℕ). visit'.point < n) (sym long) insides.1;
      earlier_inside = All-weaker (λ other. other.point < length marks) (λ other. other.point < length (slice_set marks visit.point (Done kept)))
          (λ other within. subst (λ (n : ℕ). other.point < n) (sym long) within) earlier' insides.0;
      marked = λ point mark here. by_mark point mark (slice_set_cases marks visit.point (Done kept) point mark here);
      opened = λ point here. by_open point (slice_set_cases marks visit.point (Done kept) point Open here);
    }
      where
        long : length (slice_set marks visit.point (Done kept)) ≡ length marks
        long = length-set marks visit.point (Done kept)

        counted : All (HasCounted edges) earlier' × HasCounted edges visit'
        counted = All-last (HasCounted edges) earlier' visit' (subst (λ (vs : List Visit). All (HasCounted edges) vs) visits known.earlier_counted)

        insides : All (λ other. other.point < length marks) earlier' × (visit'.point < length marks)
        insides = All-last (λ other. other.point < length marks) earlier' visit' (subst (λ (vs : List Visit). All (λ other. other.point < length marks) vs) visits known.earlier_inside)

        by_mark : (point : ℕ) (mark : Mark) → ((point ≡ visit.point) × (Done kept ≡ mark)) ⊎ ((point ≡ visit.point → ⊥) × (slice_get marks point ≡ Some mark)) → Says edges point mark
        by_mark point mark (inl (here, done)) =
            subst (λ (m : Mark). Says edges point m) done
            (subst (λ (p : ℕ). (number : ℕ) × IsNumberOfWalks edges p number × IsCapped kept number) (sym here) (ended edges visit kept known.counted end is))
        by_mark point mark (inr (other, here)) = known.marked point mark here

        by_open : (point : ℕ) → ((point ≡ visit.point) × (Done kept ≡ Open)) ⊎ ((point ≡ visit.point → ⊥) × (slice_get marks point ≡ Some Open)) →
            (point ≡ visit'.point) ⊎ ((other : Visit) × Contains earlier' other × (other.point ≡ point))
        by_open point (inl (here, done)) = absurd (cc)
        by_open point (inr (not_here, there)) = by_visit (known.opened point there)
          where
            by_place : (other : Visit) → other.point ≡ point → Contains earlier' other ⊎ (visit' ≡ other) →
                (point ≡ visit'.point) ⊎ ((other : Visit) × Contains earlier' other × (other.point ≡ point))
            by_place other at (inl within) = inr (other, within, at)
            by_place other at (inr last) = inl (sym at ∙ ap (λ (v : Visit). v.point) (sym last))

            by_visit : (point ≡ visit.point) ⊎ ((other : Visit) × Contains earlier other × (other.point ≡ point)) →
                (point ≡ visit'.point) ⊎ ((other : Visit) × Contains earlier' other × (other.point ≡ point))
            by_visit (inl here) = absurd (not_here here)
            by_visit (inr (other, within, at)) = by_place other at
                (Contains-push_cases earlier' visit' other (subst (λ (vs : List Visit). Contains vs other) visits within))

    fewer : steps_left edges (slice_set marks visit.point (Done kept)) earlier' visit' < steps_left edges marks earlier visit
    fewer =
        let one : sum_by (mark_steps (length edges + 2)) (slice_set marks visit.point (Done kept)) + mark_steps (length edges + 2) (get_or marks visit.point New) ≡ sum_by (mark_steps (length edges + 2)) marks + 0
        = sum_by-set (mark_steps (length edges + 2)) marks visit.point (Done kept) New inside in
        let all : sum_by (λ other. other.cursor + 1) earlier ≡ sum_by (λ other. other.cursor + 1) (earlier' ++ visit' ∷ [])
        = ap (λ (vs : List Visit). sum_by (λ other. other.cursor + 1) vs) visits in
        let two : sum_by (λ other. other.cursor + 1) (earlier' ++ visit' ∷ []) ≡ sum_by (λ other. other.cursor + 1) earlier' + (0 + (visit'.cursor + 1))
        = sum_by-append (λ other. other.cursor + 1) earlier' (visit' ∷ []) in
        omega arith

pub passed : (edges : List FlowEdge) (points : ℕ) (first next : List ℕ) (marks : List Mark) (earlier : List Visit) (visit visit' : Visit) (number kept : ℕ) (edge : FlowEdge) →
    AreLinks edges points (length edges) first next → visit.cursor ≡ suc number → slice_get edges number ≡ Some edge →
    slice_get marks edge.to ≡ Some (Done kept) → visit'.point ≡ visit.point → visit'.cursor ≡ slice_index next number →
    visit'.number ≡ min (visit.number + kept) 200001 → Turns edges marks earlier visit On marks earlier visit'
passed edges points first next marks earlier visit visit' number kept edge links cursor stands done same onward is = record {
  keeps = keeps;
  fewer = λ _. let small : last_below edges edge.from number ≤ number = last_below-le edges edge.from number in
      let e : slice_index next number ≡ last_below edges edge.from number = next_is in omega arith;
  points = refl;
}
  where
    next_is : slice_index next number ≡ last_below edges edge.from number
    next_is = links.next_is number edge (slice_get_within edges number edge stands) stands

    keeps : (from : ℕ) → IsSearch edges from marks earlier visit → IsSearch edges from marks earlier visit'
    keeps from known = record {
      trail = subst (λ (p : ℕ). IsTrail edges from earlier p) (sym same) known.trail;
      counted = counted (known.marked edge.to (Done kept) done);
      earlier_counted = known.earlier_counted;
      earlier_inside = known.earlier_inside;
      marked = known.marked;
      inside = subst (λ (p : ℕ). p < length marks) (sym same) known.inside;
      opened = λ point here. subst (λ (p : ℕ). (point ≡ p) ⊎ ((other : Visit) × Contains earlier other × (other.point ≡ point))) (sym same) (known.opened point here);
    }
      where
        goes : IsTrue (goes_from visit.point edge)
        goes = step_here edges visit number edge known.counted cursor stands

        cursor_is : last_below edges visit'.point number ≡ visit'.cursor
        cursor_is = ap (λ (p : ℕ). last_below edges p number) (same ∙ sym (from_goes visit.point edge goes)) ∙ (sym next_is ∙ sym onward)

        counted : (count : ℕ) × IsNumberOfWalks edges edge.to count × IsCapped kept count → HasCounted edges visit'
        counted (count, walks_on, small) = record {
          cursor = let a : last_below edges visit'.point number ≤ number = last_below-le edges visit'.point number in
              let b : number < length edges = slice_get_within edges number edge stands in let e = cursor_is in omega arith;
          next = subst (λ (k : ℕ). last_below edges visit'.point k ≡ k) cursor_is (last_below-again edges visit'.point number);
          walks = known.counted.walks ++ map (λ walk. number ∷ walk) walks_on.walks;
          part = subst (λ (k : ℕ). ArePart edges visit'.point k (known.counted.walks ++ map (λ walk. number ∷ walk) walks_on.walks)) cursor_is
              (ArePart-last edges visit'.point number (known.counted.walks ++ map (λ walk. number ∷ walk) walks_on.walks)
              (ArePart-more edges visit'.point number edge known.counted.walks walks_on.walks stands
              (subst (λ (p : ℕ). IsTrue (goes_from p edge)) (sym same) goes)
              (subst (λ (p : ℕ). ArePart edges p (suc number) known.counted.walks) (sym same)
              (subst (λ (k : ℕ). ArePart edges visit.point k known.counted.walks) cursor known.counted.part))
              walks_on.are_all));
          capped = subst (λ (n : ℕ). IsCapped visit'.number n) (sym long)
              (capped_sum visit.number kept visit'.number (length known.counted.walks) count is known.counted.capped small);
        }
          where
            long : length (known.counted.walks ++ map (λ walk. number ∷ walk) walks_on.walks) ≡ length known.counted.walks + count
            long = length-append known.counted.walks (map (λ walk. number ∷ walk) walks_on.walks)
                ∙ ap (λ (n : ℕ). length known.counted.walks + n) (length-map walks_on.walks (λ (walk : List ℕ). number ∷ walk) ∙ walks_on.count)

pub entered : (edges : List FlowEdge) (points : ℕ) (first next : List ℕ) (marks : List Mark) (earlier : List Visit) (visit visit' : Visit) (number : ℕ) (edge : FlowEdge) →
    AreLinks edges points (length edges) first next → edge.to < points → visit.cursor ≡ suc number → slice_get edges number ≡ Some edge →
    slice_get marks edge.to ≡ Some New → visit'.point ≡ edge.to → visit'.cursor ≡ slice_index first edge.to →
    visit'.number ≡ 0 → Turns edges marks earlier visit On (slice_set marks edge.to Open) (earlier ++ visit ∷ []) visit'
entered edges points first next marks earlier visit visit' number edge links in_range cursor stands new at begins none = record {
  keeps = keeps;
  fewer = λ _. fewer;
  points = long;
}
  where
    long : length (slice_set marks edge.to Open) ≡ length marks
    long = length-set marks edge.to Open

    below : edge.to < length marks
    below = slice_get_within marks edge.to New new

    begin : visit'.cursor ≡ last_below edges visit'.point (length edges)
    begin = begins ∙ (links.first_is edge.to in_range ∙ ap (λ (p : ℕ). last_below edges p (length edges)) (sym at))

    keeps : (from : ℕ) → IsSearch edges from marks earlier visit → IsSearch edges from (slice_set marks edge.to Open) (earlier ++ visit ∷ []) visit'
    keeps from known = record {
      trail = subst (λ (p : ℕ). IsTrail edges from (earlier ++ visit ∷ []) p) (sym at)
          (IsTrail-push edges from earlier visit edge.to (record {
            trail = known.trail;
            number = number;
            cursor = cursor;
            step = record { edge = edge; stands = stands; goes = step_here edges visit number edge known.counted cursor stands; leads = refl };
          }));
      counted = record {
        cursor = let small : last_below edges visit'.point (length edges) ≤ length edges = last_below-le edges visit'.point (length edges) in let e = begin in omega arith;
        next = subst (λ (k : ℕ). last_below edges visit'.point k ≡ k) (sym begin) (last_below-again edges visit'.point (length edges));
        walks = [];
        part = subst (λ (k : ℕ). ArePart edges visit'.point k []) (sym begin) (ArePart-last edges visit'.point (length edges) [] (ArePart-none edges visit'.point));
        capped = record { most = omega arith; below = omega arith; exact = λ less. none };
      };
      earlier_counted = All-push (HasCounted edges) earlier visit known.earlier_counted known.counted;
      inside = let e : visit'.point ≡ edge.to = at in let l = long in let b = below in omega arith;
      earlier_inside = All-weaker (λ other. other.point < length marks) (λ other. other.point < length (slice_set marks edge.to Open))
          (λ other within. subst (λ (n : ℕ). other.point < n) (sym long) within) (earlier ++ visit ∷ [])
          (All-push (λ other. other.point < length marks) earlier visit known.earlier_inside known.inside);
      marked = λ point mark here. by_mark point mark (slice_set_cases marks edge.to Open point mark here);
      opened = λ point here. by_open point (slice_set_cases marks edge.to Open point Open here);
    }
      where
        by_mark : (point : ℕ) (mark : Mark) → ((point ≡ edge.to) × (Open ≡ mark)) ⊎ ((point ≡ edge.to → ⊥) × (slice_get marks point ≡ Some mark)) → Says edges point mark
        by_mark point mark (inl (here, is)) = subst (λ (m : Mark). Says edges point m) is tt
        by_mark point mark (inr (other, here)) = known.marked point mark here

        by_open : (point : ℕ) → ((point ≡ edge.to) × (Open ≡ Open)) ⊎ ((point ≡ edge.to → ⊥) × (slice_get marks point ≡ Some Open)) →
            (point ≡ visit'.point) ⊎ ((other : Visit) × Contains (earlier ++ visit ∷ []) other × (other.point ≡ point))
        by_open point (inl (here, is)) = inl (here ∙ sym at)
        by_open point (inr (not_here, there)) = by_visit (known.opened point there)
          where
            by_visit : (point ≡ visit.point) ⊎ ((other : Visit) × Contains earlier other × (other.point ≡ point)) →
                (point ≡ visit'.point) ⊎ ((other : Visit) × Contains (earlier ++ visit ∷ []) other × (other.point ≡ point))
            by_visit (inl here) = inr (visit, Contains-push earlier visit, sym here)
            by_visit (inr (other, within, is)) = inr (other, Contains-append_left earlier (visit ∷ []) other within, is)

    fewer : steps_left edges (slice_set marks edge.to Open) (earlier ++ visit ∷ []) visit' < steps_left edges marks earlier visit
    fewer =
        let is_new : get_or marks edge.to New ≡ New = get_or_from_slice_get marks edge.to New New new in
        let weight : mark_steps (length edges + 2) (get_or marks edge.to New) ≡ length edges + 2 = ap (λ (m : Mark). mark_steps (length edges + 2) m) is_new in
        let one : sum_by (mark_steps (length edges + 2)) (slice_set marks edge.to Open) + mark_steps (length edges + 2) (get_or marks edge.to New) ≡ sum_by (mark_steps (length edges + 2)) marks + 0
        = sum_by-set (mark_steps (length edges + 2)) marks edge.to Open New below in
        let two : sum_by (λ other. other.cursor + 1) (earlier ++ visit ∷ []) ≡ sum_by (λ other. other.cursor + 1) earlier + (0 + (visit.cursor + 1))
        = sum_by-append (λ other. other.cursor + 1) earlier (visit ∷ []) in
        let small : last_below edges visit'.point (length edges) ≤ length edges = last_below-le edges visit'.point (length edges) in
        let e = begin in
        omega arith

pub cycled : (edges : List FlowEdge) (marks : List Mark) (earlier : List Visit) (visit : Visit) (number : ℕ) (edge : FlowEdge) →
    visit.cursor ≡ suc number → slice_get edges number ≡ Some edge → slice_get marks edge.to ≡ Some Open →
    Turns edges marks earlier visit Cycle marks earlier visit
cycled edges marks earlier visit number edge cursor stands again = record {
  keeps = keeps;
  fewer = λ e. absurd (cc);
  points = refl;
}
  where
    keeps : (from : ℕ) → IsSearch edges from marks earlier visit → ReachesCycle edges from
    keeps from known = by_visit (known.opened edge.to again)
      where
        way : (way : List ℕ) × IsWalk edges from way visit.point
        way = trail_walk edges from earlier visit.point known.trail

        step : IsStep edges visit.point number edge.to
        step = record { edge = edge; stands = stands; goes = step_here edges visit number edge known.counted cursor stands; leads = refl }

        around : (back : List ℕ) → IsWalk edges edge.to back visit.point → ReachesCycle edges from
        around back walk = record { point = visit.point; way = way.0; reached = way.1; first = number; rest = back; back = (edge.to, step, walk) }

        by_visit : (edge.to ≡ visit.point) ⊎ ((other : Visit) × Contains earlier other × (other.point ≡ edge.to)) → ReachesCycle edges from
        by_visit (inl here) = around [] here
        by_visit (inr (other, (k, below, is), at)) =
            let (back, walk) = walk_onward edges from earlier visit.point k other known.trail below is in
            around back (subst (λ (p : ℕ). IsWalk edges p back visit.point) at walk)

-- what is read of a list at a place
pub read_there : {X : Type 0} (xs : List X) (at at' : ℕ) (found x : X) → at < length xs → at ≡ at' → found ≡ slice_index_or xs at' found → found ≡ x →
    slice_get xs at ≡ Some x
read_there xs at at' found x below same read is =
    slice_get_read xs (length xs) at found refl below (read ∙ ap (λ (k : ℕ). slice_index_or xs k found) (sym same)) ∙ ap Some is

pub before : (n : ℕ) → (n ≡ 0 → ⊥) → n ≡ suc (n - 1)
before zero is_not = absurd (is_not refl)
before (suc n) is_not = omega arith

-- the search begins at a point whose mark alone is not new
pub begun : (edges : List FlowEdge) (points point : ℕ) (first next : List ℕ) (marks : List Mark) (visit : Visit) →
    AreLinks edges points (length edges) first next → point < points → marks ≡ replicate points New → visit.point ≡ point →
    visit.cursor ≡ slice_index first point → visit.number ≡ 0 → IsSearch edges point (slice_set marks point Open) [] visit
begun edges points point first next marks visit links below are at begins none = record {
  trail = sym at;
  counted = record {
    cursor = let small : last_below edges visit.point (length edges) ≤ length edges = last_below-le edges visit.point (length edges) in let e = begin in omega arith;
    next = subst (λ (k : ℕ). last_below edges visit.point k ≡ k) (sym begin) (last_below-again edges visit.point (length edges));
    walks = [];
    part = subst (λ (k : ℕ). ArePart edges visit.point k []) (sym begin) (ArePart-last edges visit.point (length edges) [] (ArePart-none edges visit.point));
    capped = record { most = omega arith; below = omega arith; exact = λ less. none };
  };
  earlier_counted = All-nil (HasCounted edges);
  inside = let l : length (slice_set marks point Open) ≡ length marks = length-set marks point Open in
      let m : length marks ≡ points = ap (λ (ms : List Mark). length ms) are ∙ length-replicate points New in omega arith;
  earlier_inside = All-nil (λ other. other.point < length (slice_set marks point Open));
  marked = λ place mark here. by_mark place mark (slice_set_cases marks point Open place mark here);
  opened = λ place here. by_open place (slice_set_cases marks point Open place Open here);
}
  where
    begin : visit.cursor ≡ last_below edges visit.point (length edges)
    begin = begins ∙ (links.first_is point below ∙ ap (λ (p : ℕ). last_below edges p (length edges)) (sym at))

    is_new : (place : ℕ) (mark : Mark) → slice_get marks place ≡ Some mark → New ≡ mark
    is_new place mark here = slice_get-replicate points New place mark (subst (λ (ms : List Mark). slice_get ms place ≡ Some mark) are here)

    by_mark : (place : ℕ) (mark : Mark) → ((place ≡ point) × (Open ≡ mark)) ⊎ ((place ≡ point → ⊥) × (slice_get marks place ≡ Some mark)) → Says edges place mark
    by_mark place mark (inl (here, is)) = subst (λ (m : Mark). Says edges place m) is tt
    by_mark place mark (inr (other, here)) = subst (λ (m : Mark). Says edges place m) (is_new place mark here) tt

    by_open : (place : ℕ) → ((place ≡ point) × (Open ≡ Open)) ⊎ ((place ≡ point → ⊥) × (slice_get marks place ≡ Some Open)) →
        (place ≡ visit.point) ⊎ ((other : Visit) × Contains [] other × (other.point ≡ place))
    by_open place (inl (here, is)) = inl (here ∙ sym at)
    by_open place (inr (other, here)) = let e : New ≡ Open = is_new place Open here in absurd (cc)

-- what is told of so many walks
pub told_number : (edges : List FlowEdge) (from count kept : ℕ) → IsNumberOfWalks edges from count → IsCapped kept count → kept < 200001 →
    (ReachesCycle edges from → ⊥) × IsNumberOfWalks edges from kept × (kept ≤ 200000)
told_number edges from count kept walks small few = (
  no_cycle edges from walks.walks walks.are_all,
  subst (λ (n : ℕ). IsNumberOfWalks edges from n) (sym (small.exact few)) walks,
  omega arith,
)

pub told_more : (edges : List FlowEdge) (from count kept : ℕ) → IsNumberOfWalks edges from count → IsCapped kept count → (kept < 200001 → ⊥) →
    (ReachesCycle edges from → ⊥) × ((number : ℕ) × IsNumberOfWalks edges from number × (200000 < number))
told_more edges from count kept walks small many =
    (no_cycle edges from walks.walks walks.are_all, (count, walks, (let b = small.below in omega arith)))
