-- Searches for how many registers an expression leaves, for each program that the context stands for.
use Rattle.std.proofs.Common.{◌≡◌, ℕ, suc, ◌+◌, ◌≤◌, Bool, List, [], ◌∷◌, add-one, sym, ap, ◌∙◌, arith}
use Rattle.std.specs.Prelude.{max, Result, OnOk}
use native.Mathlib.Nat.{add_comm, add-max-add_right, le_antisymm, le_trans, le-max_left, le-max_right, max-le}
use Rattle.cbase.specs.declared.tree.expr.Expr.{Expr}
use Rattle.c_machine.specs.declared.kind.Kind.{Kind}
use Rattle.c_machine.specs.Program.{Program}
use Rattle.c_machine.specs.Trees.{text_of}
use Rattle.lowering.specs.declared.left.Pending.{Pending}
use Rattle.lowering.specs.declared.left.Search.{Search}
use Rattle.lowering.specs.LetGo.{Wanted, left_within}
use Rattle.lowering.specs.Lefts.{Part, As, Whole, IsAdded, ComesTo, IsLeft, IsLeftAs, left_part, most_in, worth}
use Rattle.lowering.specs.Source.{Source, IsSource}
use Rattle.lowering.proofs.Onward.{on_ok}

-- the greatest of three
before : (a b c : ℕ) → max a (max b c) ≤ max b (max a c)
before a b c = max-le (le_trans (le-max_left a c) (le-max_right b (max a c))) (max-le (le-max_left b (max a c)) (le_trans (le-max_right a c) (le-max_right b (max a c))))

pub swapped : (a b c : ℕ) → max a (max b c) ≡ max b (max a c)
swapped a b c = le_antisymm (before a b c) (before b a c)

pub gathered : (a b c : ℕ) → max (max a b) c ≡ max a (max b c)
gathered a b c = le_antisymm
    (max-le (max-le (le-max_left a (max b c)) (le_trans (le-max_left b c) (le-max_right a (max b c)))) (le_trans (le-max_right b c) (le-max_right a (max b c))))
    (max-le (le_trans (le-max_left a b) (le-max_left (max a b) c)) (max-le (le_trans (le-max_right a b) (le-max_left (max a b) c)) (le-max_right (max a b) c)))

pub ahead_of : (n a b : ℕ) → n + max a b ≡ max (n + a) (n + b)
ahead_of n a b = add_comm n (max a b) ∙ sym (add-max-add_right a b n) ∙ (λ i. max (add_comm a n i) (add_comm b n i))

-- a part that is looked at later
pub whole_is : (source : Source) (levels ahead : ℕ) (wanted : Wanted) (expr : Expr) (front : Search) (pending : List Pending) →
    pending ≡ record { wanted = wanted; expr = expr; levels = levels; ahead = ahead } ∷ front.pending →
    IsAdded source levels ahead (Whole wanted expr) front (record front { pending = pending })
whole_is source levels ahead wanted expr front pending is = record {
  of = λ p source.
      ap (λ (pending : List Pending). max front.most (most_in p pending)) is
      ∙ swapped front.most (ahead + left_within levels (text_of p) wanted expr) (most_in p front.pending);
}

-- a part that leaves as much as another one, as much as two, and nothing
pub same_part : (source : Source) (levels ahead : ℕ) (part other : Part) (front behind : Search) →
    ((p : Program) → IsSource source p → left_part p levels part ≡ left_part p levels other) → IsAdded source levels ahead part front behind →
    IsAdded source levels ahead other front behind
same_part source levels ahead part other front behind same is = record {
  of = λ p reads.
      is.of p reads ∙ ap (λ (count : ℕ). max (ahead + count) (worth p front)) (same p reads);
}

pub both_parts : (source : Source) (levels ahead : ℕ) (one other whole : Part) (front between behind : Search) →
    ((p : Program) → IsSource source p → max (left_part p levels one) (left_part p levels other) ≡ left_part p levels whole) →
    IsAdded source levels ahead one front between → IsAdded source levels ahead other between behind → IsAdded source levels ahead whole front behind
both_parts source levels ahead one other whole front between behind same first second = record {
  of = λ p reads.
      second.of p reads
      ∙ ap (max (ahead + left_part p levels other)) (first.of p reads)
      ∙ swapped (ahead + left_part p levels other) (ahead + left_part p levels one) (worth p front)
      ∙ sym (gathered (ahead + left_part p levels one) (ahead + left_part p levels other) (worth p front))
      ∙ ap (λ (count : ℕ). max count (worth p front)) (sym (ahead_of ahead (left_part p levels one) (left_part p levels other)))
      ∙ ap (λ (count : ℕ). max (ahead + count) (worth p front)) (same p reads);
}

pub no_part : (source : Source) (levels ahead : ℕ) (part : Part) (front behind : Search) → behind ≡ record front { most = max front.most ahead } →
    ((p : Program) → IsSource source p → 0 ≡ left_part p levels part) → IsAdded source levels ahead part front behind
no_part source levels ahead part front behind is none = record {
  of = λ p reads.
      ap (worth p) is
      ∙ gathered front.most ahead (most_in p front.pending)
      ∙ swapped front.most ahead (most_in p front.pending)
      ∙ ap (λ (count : ℕ). max count (worth p front)) (omega arith)
      ∙ ap (λ (count : ℕ). max (ahead + count) (worth p front)) (none p reads);
}

-- the same of what a call gives
pub one_part : (source : Source) (levels ahead : ℕ) (part other : Part) (front behind : Search) {V E : Type 0} (result : Result V E) →
    OnOk result (IsAdded source levels ahead part front behind) → ((p : Program) → IsSource source p → left_part p levels part ≡ left_part p levels other) →
    OnOk result (IsAdded source levels ahead other front behind)
one_part source levels ahead part other front behind result is same =
    on_ok result (same_part source levels ahead part other front behind same) is

pub two_parts : (source : Source) (levels ahead : ℕ) (one other whole : Part) (front between behind : Search) {V E : Type 0} (result : Result V E) →
    IsAdded source levels ahead one front between → OnOk result (IsAdded source levels ahead other between behind) →
    ((p : Program) → IsSource source p → max (left_part p levels one) (left_part p levels other) ≡ left_part p levels whole) →
    OnOk result (IsAdded source levels ahead whole front behind)
two_parts source levels ahead one other whole front between behind result first second same =
    on_ok result (both_parts source levels ahead one other whole front between behind same first) second

-- what a search from nothing comes to
abbrev nothing_so_far : List Pending → Search
nothing_so_far pending = record { most = 0; pending = pending }

searched : (source : Source) (levels : ℕ) (part : Part) (pending : List Pending) (behind : Search) (count : ℕ) → levels ≡ source.levels → pending ≡ [] →
    IsAdded source levels 0 part (nothing_so_far pending) behind → ComesTo source behind count →
    (p : Program) → IsSource source p → count ≡ left_part p (text_of p).enough part
searched source levels part pending behind count enough none added comes p is =
    comes.of p is ∙ added.of p is ∙ ap (λ (pending : List Pending). max (0 + left_part p levels part) (worth p (nothing_so_far pending))) none
    ∙ right_zero (left_part p levels part) ∙ ap (λ (levels : ℕ). left_part p levels part) (enough ∙ is.levels)
  where
    right_zero : (n : ℕ) → max (0 + n) 0 ≡ n
    right_zero n = omega arith

pub left_is : (source : Source) (wanted : Wanted) (expr : Expr) (levels : ℕ) (pending : List Pending) (behind : Search) (count : ℕ) → levels ≡ source.levels → pending ≡ [] →
    IsAdded source levels 0 (Whole wanted expr) (nothing_so_far pending) behind → ComesTo source behind count → IsLeft source wanted expr count
left_is source wanted expr levels pending behind count enough none added comes = record {
  of = searched source levels (Whole wanted expr) pending behind count enough none added comes;
}

pub left_as_is : (source : Source) (expr : Expr) (in_spare : Bool) (kind : Kind) (levels : ℕ) (pending : List Pending) (behind : Search) (count : ℕ) → levels ≡ source.levels →
    pending ≡ [] → IsAdded source levels 0 (As expr in_spare kind) (nothing_so_far pending) behind → ComesTo source behind count → IsLeftAs source expr in_spare kind count
left_as_is source expr in_spare kind levels pending behind count enough none added comes = record {
  of = searched source levels (As expr in_spare kind) pending behind count enough none added comes;
}

-- what stands directly in an expression is one level deeper
pub layer_part : (source : Source) (levels ahead : ℕ) (part : Part) (wanted : Wanted) (expr : Expr) (front behind : Search) {V E : Type 0} (result : Result V E) →
    OnOk result (IsAdded source levels ahead part front behind) → ((p : Program) → IsSource source p → left_part p levels part ≡ left_within (suc levels) (text_of p) wanted expr) →
    OnOk result (IsAdded source (levels + 1) ahead (Whole wanted expr) front behind)
layer_part source levels ahead part wanted expr front behind result is same = on_ok result
    (λ added. record {
      of = λ p reads.
          added.of p reads ∙ ap (λ (count : ℕ). max (ahead + count) (worth p front))
          (same p reads ∙ ap (λ (levels : ℕ). left_within levels (text_of p) wanted expr) (sym (add-one levels)));
    })
    is

pub three_parts : (source : Source) (levels ahead : ℕ) (one other third whole : Part) (front between beyond behind : Search) {V E : Type 0} (result : Result V E) →
    IsAdded source levels ahead one front between → IsAdded source levels ahead other between beyond → OnOk result (IsAdded source levels ahead third beyond behind) →
    ((p : Program) → IsSource source p → max (left_part p levels one) (max (left_part p levels other) (left_part p levels third)) ≡ left_part p levels whole) →
    OnOk result (IsAdded source levels ahead whole front behind)
three_parts source levels ahead one other third whole front between beyond behind result first second last same =
    on_ok result (λ added. record {
      of = λ p reads.
          let a : ℕ = left_part p levels one in
          let b : ℕ = left_part p levels other in
          let c : ℕ = left_part p levels third in
          added.of p reads
          ∙ ap (max (ahead + c)) (second.of p reads ∙ ap (max (ahead + b)) (first.of p reads))
          ∙ three_in_front (ahead + a) (ahead + b) (ahead + c) (worth p front)
          ∙ ap (λ (count : ℕ). max count (worth p front)) (ap (max (ahead + a)) (sym (ahead_of ahead b c)) ∙ sym (ahead_of ahead a (max b c)))
          ∙ ap (λ (count : ℕ). max (ahead + count) (worth p front)) (same p reads);
    })
    last
  where
    three_in_front : (a b c d : ℕ) → max c (max b (max a d)) ≡ max (max a (max b c)) d
    three_in_front a b c d = omega arith

-- one register more than those ahead, and another part
pub least_part : (source : Source) (levels ahead : ℕ) (part whole : Part) (front behind : Search) {V E : Type 0} (result : Result V E) (least : ℕ) (between : Search) → least ≡ ahead + 1 →
    between ≡ record front { most = max front.most least } → OnOk result (IsAdded source levels ahead part between behind) →
    ((p : Program) → IsSource source p → max 1 (left_part p levels part) ≡ left_part p levels whole) → OnOk result (IsAdded source levels ahead whole front behind)
least_part source levels ahead part whole front behind result least between one more is same = on_ok result
    (λ added. record {
      of = λ p reads.
          added.of p reads
          ∙ ap (λ (between : Search). max (ahead + left_part p levels part) (worth p between)) more
          ∙ ap (λ (least : ℕ). max (ahead + left_part p levels part) (max (max front.most least) (most_in p front.pending))) one
          ∙ reordered ahead (left_part p levels part) front.most (most_in p front.pending)
          ∙ ap (λ (count : ℕ). max (ahead + count) (worth p front)) (same p reads);
    })
    is
  where
    reordered : (ahead count most rest : ℕ) → max (ahead + count) (max (max most (ahead + 1)) rest) ≡ max (ahead + max 1 count) (max most rest)
    reordered ahead count most rest = omega arith
