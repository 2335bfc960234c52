-- Following addresses through segments that may be empty: it comes to an end, or an end comes back.
use Rattle.std.proofs.Common.{◌≡◌, ℕ, zero, suc, ◌+◌, ◌*◌, ◌<◌, ◌≤◌, Bool, true, false, List, [], ◌∷◌, length, Option, None, Some, nat_eq, refl, sym, ◌∙◌, ap, subst, eqb-true, arith}
use Rattle.std.specs.Prelude.{IfSome, is_some, not, nat_lt, if◌then◌else◌}
use Rattle.std.proofs.lemmas.Bool.{false≢true, ltb-true, lt-ltb}
use Rattle.std.proofs.lemmas.Option.{same_Some, none-some}
use Rattle.graph.specs.declared.ends.End.{End}
use Rattle.graph.specs.declared.object.Links.{Links}
use Rattle.graph.specs.declared.object.Object.{Object}
use Rattle.graph.specs.declared.value.Target.TheVariants.{Region, First, Last, Each}
use Rattle.graph.specs.declared.value.Value.{Value}
use Rattle.graph.specs.declared.value.Value.TheVariants.{Const, Number, Any, Address}
use Rattle.graph.specs.declared.parts.KeyedObject.{KeyedObject}
use Rattle.graph.specs.declared.parts.Parts.{Parts}
use Rattle.graph.specs.Maps.{object_at, value_at}
use Rattle.graph.specs.Nodes.{links_in}
use Rattle.graph.specs.Ends.{value_end, beyond, beyond_in, end_at, next_end, followed, Stops, AllStop, Runs, SomeRuns}
use Rattle.graph.specs.WellFormed.{Falls, ComesToAnEnd}

-- how many entries have a rank below a bound
abbrev count_below : (ℕ → ℕ) → List KeyedObject → ℕ → ℕ
count_below rank [] bound = 0
count_below rank (entry ∷ rest) bound = (if nat_lt (rank entry.key) bound then 1 else 0) + count_below rank rest bound

one_at_most : (b : Bool) → (if b then 1 else 0) ≤ 1
one_at_most true = omega arith
one_at_most false = omega arith

count_most : (rank : ℕ → ℕ) (entries : List KeyedObject) (bound : ℕ) → count_below rank entries bound ≤ length entries
count_most rank [] bound = omega arith
count_most rank (entry ∷ rest) bound =
    let later = count_most rank rest bound in
    let here = one_at_most (nat_lt (rank entry.key) bound) in
    omega arith

one_rises : (rank low high : ℕ) → low ≤ high → (if nat_lt rank low then 1 else 0) ≤ (if nat_lt rank high then 1 else 0)
one_rises rank low high rise = by_cases (nat_lt rank low) refl (nat_lt rank high) refl
  where
    by_cases : (a : Bool) → nat_lt rank low ≡ a → (b : Bool) → nat_lt rank high ≡ b → (if a then 1 else 0) ≤ (if b then 1 else 0)
    by_cases false a_is b b_is = omega arith
    by_cases true a_is true b_is = omega arith
    by_cases true a_is false b_is =
        let below = ltb-true rank low a_is in
        absurd (false≢true (sym b_is ∙ lt-ltb rank high (omega arith)))

count_rises : (rank : ℕ → ℕ) (entries : List KeyedObject) (low high : ℕ) → low ≤ high → count_below rank entries low ≤ count_below rank entries high
count_rises rank [] low high rise = omega arith
count_rises rank (entry ∷ rest) low high rise =
    let later = count_rises rank rest low high rise in
    let here = one_rises (rank entry.key) low high rise in
    omega arith

one_more : (rank low high : ℕ) → rank < high → low ≤ rank → (if nat_lt rank low then 1 else 0) < (if nat_lt rank high then 1 else 0)
one_more rank low high below above = by_cases (nat_lt rank low) refl (nat_lt rank high) refl
  where
    by_cases : (a : Bool) → nat_lt rank low ≡ a → (b : Bool) → nat_lt rank high ≡ b → (if a then 1 else 0) < (if b then 1 else 0)
    by_cases true a_is b b_is = let under = ltb-true rank low a_is in absurd (omega arith)
    by_cases false a_is true b_is = omega arith
    by_cases false a_is false b_is = absurd (false≢true (sym b_is ∙ lt-ltb rank high below))

-- an object whose rank lies between the bounds counts below the higher one alone
count_more : (rank : ℕ → ℕ) (entries : List KeyedObject) (key : ℕ) (object : Object) (low high : ℕ) → object_at entries key ≡ Some object →
    rank key < high → low ≤ rank key → count_below rank entries low < count_below rank entries high
count_more rank [] key object low high stands below above = absurd (none-some object stands)
count_more rank (entry ∷ rest) key object low high stands below above = by_key (nat_eq entry.key key) refl (λ found. count_more rank rest key object low high found below above)
  where
    rise : low ≤ high
    rise = omega arith

    by_key : (b : Bool) → nat_eq entry.key key ≡ b → (object_at rest key ≡ Some object → count_below rank rest low < count_below rank rest high) → count_below rank (entry ∷ rest) low < count_below rank (entry ∷ rest) high
    by_key true is in_rest =
        let same : entry.key ≡ key = eqb-true entry.key key is in
        let here : (if nat_lt (rank entry.key) low then 1 else 0) < (if nat_lt (rank entry.key) high then 1 else 0) =
        subst (λ (k : ℕ). (if nat_lt (rank k) low then 1 else 0) < (if nat_lt (rank k) high then 1 else 0)) (sym same) (one_more (rank key) low high below above) in
        let later = count_rises rank rest low high rise in
        omega arith
    by_key false is in_rest =
        let found : object_at rest key ≡ Some object = sym (ap (λ (b : Bool). if b then Some entry.object else object_at rest key) is) ∙ stands in
        let later = in_rest found in
        let here = one_rises (rank entry.key) low high rise in
        omega arith

module _ (parts : Parts) where
  followed_none : (count : ℕ) → followed parts count None ≡ None
  followed_none zero = refl
  followed_none (suc count) = refl

  -- an end that leads to one that stops
  pub stops_before : (end next : End) → next_end parts end ≡ Some next → Stops parts next → Stops parts end
  stops_before end next is stops = record { count = suc stops.count; stops = ap (followed parts stops.count) is ∙ stops.stops }

  pub stops_here : (end : End) → next_end parts end ≡ None → Stops parts end
  stops_here end is = record { count = 1; stops = is }

  pub stops_behind : (end next : End) → next_end parts end ≡ Some next → Stops parts end → Stops parts next
  stops_behind end next is stops = by_count stops.count stops.stops
    where
      by_count : (count : ℕ) → followed parts count (Some end) ≡ None → Stops parts next
      by_count zero none = absurd (none-some end (sym none))
      by_count (suc count) none = record { count = count; stops = sym (ap (followed parts count) is) ∙ none }

  pub followed_more : (count : ℕ) (start end : End) → followed parts count (Some start) ≡ Some end → followed parts (count + 1) (Some start) ≡ next_end parts end
  followed_more zero start end is = ap (next_end parts) (same_Some start end is)
  followed_more (suc count) start end is = by_next (next_end parts start) refl (λ next on. followed_more count next end on)
    where
      by_next : (next : Option End) → next_end parts start ≡ next → ((next : End) → followed parts count (Some next) ≡ Some end → followed parts (count + 1) (Some next) ≡ next_end parts end) →
          followed parts (suc count + 1) (Some start) ≡ next_end parts end
      by_next None none later = absurd (none-some end (sym (ap (followed parts count) none ∙ followed_none count) ∙ is))
      by_next (Some next) there later =
          let more : suc count + 1 ≡ suc (count + 1) = omega arith in
          ap (λ (n : ℕ). followed parts n (Some start)) more
          ∙ ap (followed parts (count + 1)) there
          ∙ later next (sym (ap (followed parts count) there) ∙ is)

  -- what leads to an end that stops stops
  pub stops_from : (count : ℕ) (start end : End) → followed parts count (Some start) ≡ Some end → Stops parts end → Stops parts start
  stops_from zero start end is stops = subst (Stops parts) (sym (same_Some start end is)) stops
  stops_from (suc count) start end is stops = by_next (next_end parts start) refl (λ next on. stops_from count next end on stops)
    where
      by_next : (next : Option End) → next_end parts start ≡ next → ((next : End) → followed parts count (Some next) ≡ Some end → Stops parts next) → Stops parts start
      by_next None none later = stops_here start none
      by_next (Some next) there later = stops_before start next there (later next (sym (ap (followed parts count) there) ∙ is))

  -- how many steps come before the end
  abbrev length_of : ℕ → Option End → ℕ
  length_of zero end = 0
  length_of (suc count) None = 0
  length_of (suc count) (Some end) = suc (length_of count (next_end parts end))

  length_none : (count : ℕ) → length_of count None ≡ 0
  length_none zero = refl
  length_none (suc count) = refl

  length_same : (one other : ℕ) (end : Option End) → followed parts one end ≡ None → followed parts other end ≡ None → length_of one end ≡ length_of other end
  length_same one other None stops stops' = length_none one ∙ sym (length_none other)
  length_same zero other (Some end) stops stops' = absurd (none-some end (sym stops))
  length_same (suc one) zero (Some end) stops stops' = absurd (none-some end (sym stops'))
  length_same (suc one) (suc other) (Some end) stops stops' = ap suc (length_same one other (next_end parts end) stops stops')

  -- an end that leads on is one of an object that is there
  there : (end next : End) → next_end parts end ≡ Some next → (object : Object) × (object_at parts.objects end.object ≡ Some object)
  there end next is = by_found (object_at parts.objects end.object) refl
    where
      by_found : (found : Option Object) → object_at parts.objects end.object ≡ found → (object : Object) × (object_at parts.objects end.object ≡ Some object)
      by_found None none = absurd (none-some next (sym (ap (λ (o : Option Object). end_at parts (beyond_in o end.last)) none) ∙ is))
      by_found (Some object) stands = (object, stands)

  -- Where all ends stop, their lengths are ranks.

  all_at : (entries : List KeyedObject) → AllStop parts entries → (key : ℕ) (object : Object) → object_at entries key ≡ Some object → (last : Bool) → Stops parts (record { object = key; last = last })
  all_at [] all key object stands last = absurd (none-some object stands)
  all_at (entry ∷ rest) (first_stops, last_stops, others) key object stands last = by_key (nat_eq entry.key key) refl (λ found. all_at rest others key object found last)
    where
      by_end : entry.key ≡ key → (b : Bool) → Stops parts (record { object = key; last = b })
      by_end same false = subst (λ (k : ℕ). Stops parts (record { object = k; last = false })) same first_stops
      by_end same true = subst (λ (k : ℕ). Stops parts (record { object = k; last = true })) same last_stops

      by_key : (b : Bool) → nat_eq entry.key key ≡ b → (object_at rest key ≡ Some object → Stops parts (record { object = key; last = last })) → Stops parts (record { object = key; last = last })
      by_key true is in_rest = by_end (eqb-true entry.key key is) last
      by_key false is in_rest = in_rest (sym (ap (λ (b : Bool). if b then Some entry.object else object_at rest key) is) ∙ stands)

  module _ (all : AllStop parts parts.objects) where
    abbrev rank_by : (end : End) (found : Option Object) → object_at parts.objects end.object ≡ found → ℕ
    rank_by end None none = 0
    rank_by end (Some object) stands = length_of (all_at parts.objects all end.object object stands end.last).count (Some end)

    abbrev rank : End → ℕ
    rank end = rank_by end (object_at parts.objects end.object) refl

    -- the rank is the length, whatever count shows that it stops
    rank_is : (end : End) (found : Option Object) (is : object_at parts.objects end.object ≡ found) (count : ℕ) → followed parts count (Some end) ≡ None → rank_by end found is ≤ length_of count (Some end)
    rank_is end None none count stops = omega arith
    rank_is end (Some object) stands count stops =
        let same : rank_by end (Some object) stands ≡ length_of count (Some end) =
        length_same (all_at parts.objects all end.object object stands end.last).count count (Some end) (all_at parts.objects all end.object object stands end.last).stops stops in
        omega arith

    ranked : (end next : End) → next_end parts end ≡ Some next → (object : Object) (found : Option Object) (is : object_at parts.objects end.object ≡ found) → found ≡ Some object → rank next < rank_by end found is
    ranked end next leads object None is some = absurd (none-some object some)
    ranked end next leads object (Some other) is some = by_count (all_at parts.objects all end.object other is end.last).count (all_at parts.objects all end.object other is end.last).stops
      where
        by_count : (count : ℕ) → followed parts count (Some end) ≡ None → rank next < length_of count (Some end)
        by_count zero stops = absurd (none-some end (sym stops))
        by_count (suc count) stops =
            let on : followed parts count (Some next) ≡ None = sym (ap (followed parts count) leads) ∙ stops in
            let most = rank_is next (object_at parts.objects next.object) refl count on in
            let long : length_of (suc count) (Some end) ≡ suc (length_of count (Some next)) = ap (λ (o : Option End). suc (length_of count o)) leads in
            omega arith

    falls : (end : End) (object : Object) → object_at parts.objects end.object ≡ Some object → (value : Option Value) → next_end parts end ≡ value_end value →
        Falls (record { first = λ key. rank (record { object = key; last = false }); last = λ key. rank (record { object = key; last = true }) }) (rank end) value
    falls end object stands None leads = tt
    falls end object stands (Some (Const number size)) leads = tt
    falls end object stands (Some (Number size)) leads = tt
    falls end object stands (Some Any) leads = tt
    falls end object stands (Some (Address key offset Region)) leads = tt
    falls end object stands (Some (Address key offset First)) leads = ranked end (record { object = key; last = false }) leads object (object_at parts.objects end.object) refl stands
    falls end object stands (Some (Address key offset Last)) leads = ranked end (record { object = key; last = true }) leads object (object_at parts.objects end.object) refl stands
    falls end object stands (Some (Address key offset Each)) leads = tt

    -- what lies beyond an end of an object with such links
    leads_on : (key : ℕ) (object : Object) (links : Links) (last : Bool) → object_at parts.objects key ≡ Some object → links_in object.shape ≡ Some links → links.least ≡ 0 →
        next_end parts (record { object = key; last = last }) ≡ value_end (value_at parts.values (if last then links.prev_value else links.next_value))
    leads_on key object links last stands linked empty =
        let none : nat_eq links.least 0 ≡ true = ap (λ (n : ℕ). nat_eq n 0) empty in
        ap (λ (o : Option Object). end_at parts (beyond_in o last)) stands
        ∙ ap (λ (l : Option Links). end_at parts (beyond l last)) linked
        ∙ ap (λ (b : Bool). end_at parts (if b then Some (if last then links.prev_value else links.next_value) else None)) none

    pub comes_to_an_end : ComesToAnEnd parts
    comes_to_an_end = record {
      ranks = record { first = λ key. rank (record { object = key; last = false }); last = λ key. rank (record { object = key; last = true }) };
      next = λ key object links stands linked empty.
          falls (record { object = key; last = false }) object stands (value_at parts.values links.next_value) (leads_on key object links false stands linked empty);
      prev = λ key object links stands linked empty.
          falls (record { object = key; last = true }) object stands (value_at parts.values links.prev_value) (leads_on key object links true stands linked empty);
    }

  -- Where ranks fall, no end comes back.

  module _ (comes : ComesToAnEnd parts) where
    abbrev rank_of : End → ℕ
    rank_of end = if end.last then comes.ranks.last end.object else comes.ranks.first end.object

    falls_to : (bound : ℕ) (value : Option Value) (next : End) → value_end value ≡ Some next → Falls comes.ranks bound value → rank_of next < bound
    falls_to bound None next is below = absurd (none-some next is)
    falls_to bound (Some (Const number size)) next is below = absurd (none-some next is)
    falls_to bound (Some (Number size)) next is below = absurd (none-some next is)
    falls_to bound (Some Any) next is below = absurd (none-some next is)
    falls_to bound (Some (Address key offset Region)) next is below = absurd (none-some next is)
    falls_to bound (Some (Address key offset First)) next is below = subst (λ (end : End). rank_of end < bound) (same_Some _ _ is) below
    falls_to bound (Some (Address key offset Last)) next is below = subst (λ (end : End). rank_of end < bound) (same_Some _ _ is) below
    falls_to bound (Some (Address key offset Each)) next is below = absurd (none-some next is)

    fall : (end next : End) → next_end parts end ≡ Some next → rank_of next < rank_of end
    fall end next is = by_object (object_at parts.objects end.object) refl is
      where
        by_least : (object : Object) (links : Links) (empty : Bool) → object_at parts.objects end.object ≡ Some object → links_in object.shape ≡ Some links → nat_eq links.least 0 ≡ empty → (last : Bool) →
            end_at parts (if empty then Some (if last then links.prev_value else links.next_value) else None) ≡ Some next → rank_of next < (if last then comes.ranks.last end.object else comes.ranks.first end.object)
        by_least object links false stands linked least last leads = absurd (none-some next leads)
        by_least object links true stands linked least false leads = falls_to (comes.ranks.first end.object) (value_at parts.values links.next_value) next leads (comes.next end.object object links stands linked (eqb-true links.least 0 least))
        by_least object links true stands linked least true leads = falls_to (comes.ranks.last end.object) (value_at parts.values links.prev_value) next leads (comes.prev end.object object links stands linked (eqb-true links.least 0 least))

        by_links : (object : Object) (links : Option Links) → object_at parts.objects end.object ≡ Some object → links_in object.shape ≡ links → end_at parts (beyond links end.last) ≡ Some next → rank_of next < rank_of end
        by_links object None stands linked leads = absurd (none-some next leads)
        by_links object (Some links) stands linked leads = by_least object links (nat_eq links.least 0) stands linked refl end.last leads

        by_object : (found : Option Object) → object_at parts.objects end.object ≡ found → end_at parts (beyond_in found end.last) ≡ Some next → rank_of next < rank_of end
        by_object None stands leads = absurd (none-some next leads)
        by_object (Some object) stands leads = by_links object (links_in object.shape) stands refl leads

    -- how many ends have a rank below a bound
    abbrev ends_below : ℕ → ℕ
    ends_below bound = count_below comes.ranks.first parts.objects bound + count_below comes.ranks.last parts.objects bound

    fewer : (end : End) (object : Object) (bound : ℕ) → object_at parts.objects end.object ≡ Some object → rank_of end < bound → ends_below (rank_of end) < ends_below bound
    fewer end object bound stands below = by_end end.last below
      where
        by_end : (last : Bool) → (if last then comes.ranks.last end.object else comes.ranks.first end.object) < bound →
            ends_below (if last then comes.ranks.last end.object else comes.ranks.first end.object) < ends_below bound
        by_end false under =
            let more = count_more comes.ranks.first parts.objects end.object object (comes.ranks.first end.object) bound stands under (omega arith) in
            let others = count_rises comes.ranks.last parts.objects (comes.ranks.first end.object) bound (omega arith) in
            omega arith
        by_end true under =
            let more = count_more comes.ranks.last parts.objects end.object object (comes.ranks.last end.object) bound stands under (omega arith) in
            let others = count_rises comes.ranks.first parts.objects (comes.ranks.last end.object) bound (omega arith) in
            omega arith

    -- as many steps as lead to an end have ends below
    steps_below : (count : ℕ) (end last : End) → followed parts (suc count) (Some end) ≡ Some last → count ≤ ends_below (rank_of end)
    steps_below zero end last is = omega arith
    steps_below (suc count) end last is = by_next (next_end parts end) refl (λ next on. steps_below count next last on)
      where
        by_next : (next : Option End) → next_end parts end ≡ next → ((next : End) → followed parts (suc count) (Some next) ≡ Some last → count ≤ ends_below (rank_of next)) → suc count ≤ ends_below (rank_of end)
        by_next None none steps = absurd (none-some last (sym (ap (followed parts (suc count)) none) ∙ is))
        by_next (Some next) leads steps =
            let on : followed parts (suc count) (Some next) ≡ Some last = sym (ap (followed parts (suc count)) leads) ∙ is in
            let later = steps next on in
            let more = fewer next (stands next on).0 (rank_of end) (stands next on).1 (fall end next leads) in
            omega arith
          where
            stands : (next : End) → followed parts (suc count) (Some next) ≡ Some last → (object : Object) × (object_at parts.objects next.object ≡ Some object)
            stands next on = by_step (next_end parts next) refl
              where
                by_step : (further : Option End) → next_end parts next ≡ further → (object : Object) × (object_at parts.objects next.object ≡ Some object)
                by_step None none = absurd (none-some last (sym (ap (followed parts count) none ∙ followed_none count) ∙ on))
                by_step (Some further) leads_on = there next further leads_on

  pub never_ends : SomeRuns parts → ComesToAnEnd parts → ⊥
  never_ends runs comes = by_last (followed parts (2 * length parts.objects + 2) (Some runs.end)) refl
    where
      by_last : (last : Option End) → followed parts (2 * length parts.objects + 2) (Some runs.end) ≡ last → ⊥
      by_last None none = runs.runs none
      by_last (Some last) leads =
          let counted : 2 * length parts.objects + 2 ≡ suc (2 * length parts.objects + 1) = omega arith in
          let below = steps_below comes (2 * length parts.objects + 1) runs.end last (sym (ap (λ (n : ℕ). followed parts n (Some runs.end)) counted) ∙ leads) in
          let firsts = count_most comes.ranks.first parts.objects (rank_of comes runs.end) in
          let lasts = count_most comes.ranks.last parts.objects (rank_of comes runs.end) in
          omega arith

  -- three walks in a row
  followed_on : (one other : ℕ) (start end : End) → followed parts one (Some start) ≡ Some end → followed parts (one + other) (Some start) ≡ followed parts other (Some end)
  followed_on zero other start end is =
      let count : 0 + other ≡ other = omega arith in
      ap (λ (n : ℕ). followed parts n (Some start)) count ∙ ap (followed parts other) is
  followed_on (suc one) other start end is = by_next (next_end parts start) refl (λ next on. followed_on one other next end on)
    where
      by_next : (next : Option End) → next_end parts start ≡ next → ((next : End) → followed parts one (Some next) ≡ Some end → followed parts (one + other) (Some next) ≡ followed parts other (Some end)) →
          followed parts (suc one + other) (Some start) ≡ followed parts other (Some end)
      by_next None none later = absurd (none-some end (sym (ap (followed parts one) none ∙ followed_none one) ∙ is))
      by_next (Some next) leads later =
          let more : suc one + other ≡ suc (one + other) = omega arith in
          ap (λ (n : ℕ). followed parts n (Some start)) more ∙ ap (followed parts (one + other)) leads ∙ later next (sym (ap (followed parts one) leads) ∙ is)

  pub runs_of : (count : ℕ) (start one two three : End) → count ≡ length parts.objects → followed parts count (Some start) ≡ Some one → followed parts count (Some one) ≡ Some two → followed parts 2 (Some two) ≡ Some three → Runs parts start
  runs_of count start one two three is first second third none =
      let total : 2 * length parts.objects + 2 ≡ count + (count + 2) = omega arith in
      none-some three (sym none ∙ ap (λ (n : ℕ). followed parts n (Some start)) total ∙ followed_on count (count + 2) start one first ∙ followed_on count 2 one two second ∙ third)

  pub last_stops : (two : End) (result : Option End) → (result ≡ None → Stops parts two) → is_some result ≡ not true → Stops parts two
  last_stops two None stops is = stops refl
  last_stops two (Some three) stops is = absurd (false≢true (sym is))

  pub last_runs : (count : ℕ) (start one two : End) (result : Option End) → count ≡ length parts.objects → followed parts count (Some start) ≡ Some one → followed parts count (Some one) ≡ Some two →
      IfSome result (λ end. followed parts 2 (Some two) ≡ Some end) → is_some result ≡ not false → Runs parts start
  last_runs count start one two None is first second third some = absurd (false≢true some)
  last_runs count start one two (Some three) is first second third some = runs_of count start one two three is first second third
