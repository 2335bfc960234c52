-- Warnings are put in order.
use Rattle.std.proofs.Common.{◌≡◌, ℕ, zero, suc, ◌<◌, ◌+◌, Bool, true, false, not, ◌&&◌, ◌||◌, List, [], ◌∷◌, ◌++◌, take, drop, set, length, nat_eq, nat_lt, get_or, Some, refl, sym, ap, subst, ◌∙◌, ◌⊎◌, inl, inr, append_assoc, drop-cons, take-suc, if◌then◌else◌, arith}
use Rattle.std.specs.Prelude.{slice_get, insert, map, IfSome, Option, None}
use Rattle.std.proofs.lemmas.Bool.{cases_lt, eqb-true, eq-eqb, ltb-true, lt-ltb, and_parts, and_from}
use Rattle.std.proofs.lemmas.Option.{slice_get-get_or}
use Rattle.trail.proofs.Sound.{same_some}
use Rattle.driver.specs.declared.verdict.Warning.{Warning}
use Rattle.driver.specs.Telling.{IsAmong, IsTold}
use Rattle.driver.specs.Errors.{IsErrorTold}
use Rattle.driver.specs.Ordering.{ComesBefore, AreOrdered, is_before, is_same, better, put_warning, marked, ArePut}
use Rattle.driver.proofs.Leading.{nothing_at}

-- where a warning stands
among_here : (first : Warning) (rest : List Warning) → IsAmong (first ∷ rest) first
among_here first rest = record { number = 0; there = refl }

among_later : (first warning : Warning) (rest : List Warning) → IsAmong rest warning → IsAmong (first ∷ rest) warning
among_later first warning rest among = record { number = suc among.number; there = among.there }

among_cases : (first warning : Warning) (rest : List Warning) → IsAmong (first ∷ rest) warning → (warning ≡ first) ⊎ IsAmong rest warning
among_cases first warning rest among = by_place among.number among.there
  where
    by_place : (number : ℕ) → slice_get (first ∷ rest) number ≡ Some warning → (warning ≡ first) ⊎ IsAmong rest warning
    by_place zero there = inl (sym (same_some first warning there))
    by_place (suc number) there = inr (record { number = number; there = there })

-- the tests
before_of : (one other : Warning) → is_before one other ≡ true → ComesBefore one other
before_of one other is = by_test (nat_lt one.place.at other.place.at) refl is
  where
    by_test : (b : Bool) → nat_lt one.place.at other.place.at ≡ b → (b || (nat_eq one.place.at other.place.at && nat_lt one.kind other.kind)) ≡ true → ComesBefore one other
    by_test true less is = inl (ltb-true one.place.at other.place.at less)
    by_test false more is = let (same, less) = and_parts (nat_eq one.place.at other.place.at) (nat_lt one.kind other.kind) is in
        inr (eqb-true one.place.at other.place.at same, ltb-true one.kind other.kind less)

clash : {A : Type 0} (b : Bool) → b ≡ true → b ≡ false → A
clash b x y = cc

or_left : (a b : Bool) → a ≡ true → (a || b) ≡ true
or_left a b is = cc

or_right : (a b : Bool) → b ≡ true → (a || b) ≡ true
or_right true b is = refl
or_right false b is = is

-- what neither stands before nor is the same stands behind
behind_of : (one other : Warning) → is_before one other ≡ false → is_same one other ≡ false → ComesBefore other one
behind_of one other late same = elim (cases_lt other.place.at one.place.at) [
  | inl less ↦ inl less
  | inr more ↦ elim (cases_lt one.place.at other.place.at) [
    | inl less ↦ clash (is_before one other) (or_left (nat_lt one.place.at other.place.at) _ (lt-ltb one.place.at other.place.at less)) late
    | inr last' ↦ let equal : one.place.at ≡ other.place.at = omega arith in elim (cases_lt other.kind one.kind) [
      | inl less ↦ inr (sym equal, less)
      | inr past ↦ elim (cases_lt one.kind other.kind) [
        | inl less ↦ clash (is_before one other) (or_right (nat_lt one.place.at other.place.at) (nat_eq one.place.at other.place.at && nat_lt one.kind other.kind)
            (and_from (nat_eq one.place.at other.place.at) (nat_lt one.kind other.kind) (eq-eqb one.place.at other.place.at equal) (lt-ltb one.kind other.kind less))) late
        | inr last ↦ let kinds : one.kind ≡ other.kind = omega arith in clash (is_same one other)
            (and_from (nat_eq one.place.at other.place.at) (nat_eq one.kind other.kind) (eq-eqb one.place.at other.place.at equal) (eq-eqb one.kind other.kind kinds)) same
      ]
    ]
  ]
]

before_trans : (one other third : Warning) → ComesBefore one other → ComesBefore other third → ComesBefore one third
before_trans one other third (inl less) (inl more) = inl (omega arith)
before_trans one other third (inl less) (inr (same, more)) = inl (omega (arith, same))
before_trans one other third (inr (same, less)) (inl more) = inl (omega (arith, same))
before_trans one other third (inr (same, less)) (inr (same', more)) = inr (same ∙ same', omega arith)

-- the better of two has their token and kind
better_at : (one other : Warning) → is_same one other ≡ true → ((better one other).place.at ≡ one.place.at) × ((better one other).kind ≡ one.kind)
better_at one other is = by_test (not one.error && other.error)
  where
    by_test : (b : Bool) → ((if b then other else one).place.at ≡ one.place.at) × ((if b then other else one).kind ≡ one.kind)
    by_test true = let (same, kinds) = and_parts (nat_eq one.place.at other.place.at) (nat_eq one.kind other.kind) is in
        (sym (eqb-true one.place.at other.place.at same), sym (eqb-true one.kind other.kind kinds))
    by_test false = (refl, refl)

better_is : (one other : Warning) → (better one other ≡ one) ⊎ (better one other ≡ other)
better_is one other = by_test (not one.error && other.error)
  where
    by_test : (b : Bool) → ((if b then other else one) ≡ one) ⊎ ((if b then other else one) ≡ other)
    by_test true = inr refl
    by_test false = inl refl

-- and is an error where one of them is
better_first : (one other : Warning) → one.error ≡ true → (better one other).error ≡ true
better_first one other is = ap (λ (b : Bool). (if not b && other.error then other else one).error) is ∙ is

better_last : (one other : Warning) → other.error ≡ true → (better one other).error ≡ true
better_last one other is = by_test one.error refl
  where
    by_test : (b : Bool) → one.error ≡ b → (if not b && other.error then other else one).error ≡ true
    by_test true first = first
    by_test false first = ap (λ (b : Bool). (if b then other else one).error) is ∙ is

error_on : (first : Warning) (rest : List Warning) (token kind : ℕ) → IsErrorTold rest token kind → IsErrorTold (first ∷ rest) token kind
error_on first rest token kind told =
    record { warning = told.warning; among = among_later first told.warning rest told.among; token_is = told.token_is; kind_is = told.kind_is; error = told.error }

told_on : (first : Warning) (rest : List Warning) (token kind : ℕ) → IsTold rest token kind → IsTold (first ∷ rest) token kind
told_on first rest token kind told = record { warning = told.warning; among = among_later first told.warning rest told.among; token_is = told.token_is; kind_is = told.kind_is }

-- what a warning more tells, and in which order
record IsPut (new : Warning) (before after : List Warning) : Type 0 where
  keeps : (token kind : ℕ) → IsTold before token kind → IsTold after token kind
  told : IsTold after new.place.at new.kind
  each : (warning : Warning) → IsAmong after warning → IsAmong before warning ⊎ (warning ≡ new)
  stays : (token kind : ℕ) → IsErrorTold before token kind → IsErrorTold after token kind
  error : new.error ≡ true → IsErrorTold after new.place.at new.kind
  ordered : AreOrdered before → AreOrdered after

put_in : (new : Warning) (warnings : List Warning) → IsPut new warnings (put_warning new warnings)
put_in new [] = record {
  keeps = λ token kind told. nothing_at told.among.number told.warning told.among.there;
  told = record { warning = new; among = among_here new []; token_is = refl; kind_is = refl };
  each = λ warning among. elim (among_cases new warning [] among) [ inl one ↦ inr one | inr none ↦ nothing_at none.number warning none.there ];
  stays = λ token kind told. nothing_at told.among.number told.warning told.among.there;
  error = λ is. record { warning = new; among = among_here new []; token_is = refl; kind_is = refl; error = is };
  ordered = λ so. (λ other among. nothing_at among.number other among.there, tt);
}
put_in new (first ∷ rest) = by_before (put_in new rest) (is_before first new) refl
  where
    by_same : (same : Bool) → is_same first new ≡ same → is_before first new ≡ false → IsPut new (first ∷ rest) (if same then better first new ∷ rest else new ∷ first ∷ rest)
    by_same true same late = let (token_is, kind_is) = better_at first new same in record {
      keeps = λ token kind told. elim (among_cases first told.warning rest told.among) [
        | inl one ↦ record {
          warning = better first new;
          among = among_here (better first new) rest;
          token_is = token_is ∙ (ap (λ (w : Warning). w.place.at) (sym one) ∙ told.token_is);
          kind_is = kind_is ∙ (ap (λ (w : Warning). w.kind) (sym one) ∙ told.kind_is);
        }
        | inr later ↦ record { warning = told.warning; among = among_later (better first new) told.warning rest later; token_is = told.token_is; kind_is = told.kind_is }
      ];
      told = let (place, kinds) = and_parts (nat_eq first.place.at new.place.at) (nat_eq first.kind new.kind) same in record {
        warning = better first new;
        among = among_here (better first new) rest;
        token_is = token_is ∙ eqb-true first.place.at new.place.at place;
        kind_is = kind_is ∙ eqb-true first.kind new.kind kinds;
      };
      each = λ warning among. elim (among_cases (better first new) warning rest among) [
        | inl one ↦ elim (better_is first new) [
          | inl old ↦ inl (subst (λ (w : Warning). IsAmong (first ∷ rest) w) (sym (one ∙ old)) (among_here first rest))
          | inr newer ↦ inr (one ∙ newer)
        ]
        | inr later ↦ inl (among_later first warning rest later)
      ];
      stays = λ token kind told. elim (among_cases first told.warning rest told.among) [
        | inl one ↦ record {
          warning = better first new;
          among = among_here (better first new) rest;
          token_is = token_is ∙ (ap (λ (w : Warning). w.place.at) (sym one) ∙ told.token_is);
          kind_is = kind_is ∙ (ap (λ (w : Warning). w.kind) (sym one) ∙ told.kind_is);
          error = better_first first new (ap (λ (w : Warning). w.error) (sym one) ∙ told.error);
        }
        | inr later ↦ record { warning = told.warning; among = among_later (better first new) told.warning rest later; token_is = told.token_is; kind_is = told.kind_is; error = told.error }
      ];
      error = λ is. let (place, kinds) = and_parts (nat_eq first.place.at new.place.at) (nat_eq first.kind new.kind) same in record {
        warning = better first new;
        among = among_here (better first new) rest;
        token_is = token_is ∙ eqb-true first.place.at new.place.at place;
        kind_is = kind_is ∙ eqb-true first.kind new.kind kinds;
        error = better_last first new is;
      };
      ordered = λ so. (
        λ other among. elim (so.0 other among) [
          | inl less ↦ inl (omega (arith, token_is))
          | inr (same', less) ↦ inr (token_is ∙ same', omega (arith, kind_is))
        ],
        so.1,
      );
    }
    by_same false same late = record {
      keeps = λ token kind told. told_on new (first ∷ rest) token kind told;
      told = record { warning = new; among = among_here new (first ∷ rest); token_is = refl; kind_is = refl };
      each = λ warning among. elim (among_cases new warning (first ∷ rest) among) [ inl one ↦ inr one | inr old ↦ inl old ];
      stays = λ token kind told. error_on new (first ∷ rest) token kind told;
      error = λ is. record { warning = new; among = among_here new (first ∷ rest); token_is = refl; kind_is = refl; error = is };
      ordered = λ so. let behind : ComesBefore new first = behind_of first new late same in (
        λ other among. elim (among_cases first other rest among) [
          | inl one ↦ subst (λ (w : Warning). ComesBefore new w) (sym one) behind
          | inr later ↦ before_trans new first other behind (so.0 other later)
        ],
        so,
      );
    }

    by_before : IsPut new rest (put_warning new rest) → (before : Bool) → is_before first new ≡ before →
        IsPut new (first ∷ rest) (if before then first ∷ put_warning new rest else (if is_same first new then better first new ∷ rest else new ∷ first ∷ rest))
    by_before later true before = record {
      keeps = λ token kind told. elim (among_cases first told.warning rest told.among) [
        | inl one ↦ record {
          warning = first;
          among = among_here first (put_warning new rest);
          token_is = ap (λ (w : Warning). w.place.at) (sym one) ∙ told.token_is;
          kind_is = ap (λ (w : Warning). w.kind) (sym one) ∙ told.kind_is;
        }
        | inr among ↦ told_on first (put_warning new rest) token kind
            (later.keeps token kind (record { warning = told.warning; among = among; token_is = told.token_is; kind_is = told.kind_is }))
      ];
      told = told_on first (put_warning new rest) new.place.at new.kind later.told;
      each = λ warning among. elim (among_cases first warning (put_warning new rest) among) [
        | inl one ↦ inl (subst (λ (w : Warning). IsAmong (first ∷ rest) w) (sym one) (among_here first rest))
        | inr put ↦ elim (later.each warning put) [ inl old ↦ inl (among_later first warning rest old) | inr one ↦ inr one ]
      ];
      stays = λ token kind told. elim (among_cases first told.warning rest told.among) [
        | inl one ↦ record {
          warning = first;
          among = among_here first (put_warning new rest);
          token_is = ap (λ (w : Warning). w.place.at) (sym one) ∙ told.token_is;
          kind_is = ap (λ (w : Warning). w.kind) (sym one) ∙ told.kind_is;
          error = ap (λ (w : Warning). w.error) (sym one) ∙ told.error;
        }
        | inr among ↦ error_on first (put_warning new rest) token kind
            (later.stays token kind (record { warning = told.warning; among = among; token_is = told.token_is; kind_is = told.kind_is; error = told.error }))
      ];
      error = λ is. error_on first (put_warning new rest) new.place.at new.kind (later.error is);
      ordered = λ so. (
        λ other among. elim (later.each other among) [
          | inl old ↦ so.0 other old
          | inr one ↦ subst (λ (w : Warning). ComesBefore first w) (sym one) (before_of first new before)
        ],
        later.ordered so.1,
      );
    }
    by_before later false late = by_same (is_same first new) refl late

-- all of them
pub put_first : (raw : List Warning) → ArePut raw [] 0
put_first raw = record {
  told = λ number warning less there. absurd (omega arith);
  each = λ warning among. nothing_at among.number warning among.there;
  sorted = tt;
  errors = λ number warning less there error. absurd (omega arith);
}

pub put_next : (raw before after : List Warning) (count : ℕ) (new : Warning) → ArePut raw before count → slice_get raw count ≡ Some new → after ≡ put_warning new before →
    ArePut raw after (count + 1)
put_next raw before after count new so there is = subst (λ (ws : List Warning). ArePut raw ws (count + 1)) (sym is) (record {
  told = λ number warning less there'. elim (cases_lt number count) [
    | inl old ↦ put.keeps warning.place.at warning.kind (so.told number warning old there')
    | inr late ↦ let same : number ≡ count = omega arith in
        let one : new ≡ warning = same_some new warning (sym there ∙ (ap (slice_get raw) (sym same) ∙ there')) in
        subst (λ (w : Warning). IsTold (put_warning new before) w.place.at w.kind) one put.told
  ];
  each = λ warning among. elim (put.each warning among) [
    | inl old ↦ so.each warning old
    | inr one ↦ record { number = count; there = there ∙ ap (λ (w : Warning). Some w) (sym one) }
  ];
  sorted = put.ordered so.sorted;
  errors = λ number warning less there' error. elim (cases_lt number count) [
    | inl old ↦ put.stays warning.place.at warning.kind (so.errors number warning old there' error)
    | inr late ↦ let same : number ≡ count = omega arith in
        let one : new ≡ warning = same_some new warning (sym there ∙ (ap (slice_get raw) (sym same) ∙ there')) in
        subst (λ (w : Warning). IsErrorTold (put_warning new before) w.place.at w.kind) one (put.error (ap (λ (w : Warning). w.error) one ∙ error))
  ];
})
  where
    put : IsPut new before (put_warning new before)
    put = put_in new before

-- where they are marked
pub marked_there : (marks : List Bool) (warnings : List Warning) (number : ℕ) (warning : Warning) → slice_get warnings number ≡ Some warning →
    slice_get (map (marked marks) warnings) number ≡ Some (marked marks warning)
marked_there marks [] number warning there = absurd cc
marked_there marks (first ∷ rest) zero warning there = ap (λ (w : Warning). Some (marked marks w)) (same_some first warning there)
marked_there marks (first ∷ rest) (suc number) warning there = marked_there marks rest number warning there

pub marked_at : (marks : List Bool) (warnings : List Warning) (number : ℕ) (one default : Warning) → number < length warnings → one ≡ marked marks (get_or warnings number default) →
    slice_get (map (marked marks) warnings) number ≡ Some one
marked_at marks warnings number one default less is =
    marked_there marks warnings number (get_or warnings number default) (slice_get-get_or warnings number default less) ∙ ap (λ (w : Warning). Some w) (sym is)

pub record IsMarkedOne (marks : List Bool) (warnings : List Warning) (warning : Warning) : Type 0 where
  pub one : Warning
  pub among : IsAmong warnings one
  pub is : warning ≡ marked marks one

pub marked_of : (marks : List Bool) (warnings : List Warning) (warning : Warning) → IsAmong (map (marked marks) warnings) warning → IsMarkedOne marks warnings warning
marked_of marks warnings warning among = by_place warnings among.number among.there
  where
    by_place : (ws : List Warning) (number : ℕ) → slice_get (map (marked marks) ws) number ≡ Some warning → IsMarkedOne marks ws warning
    by_place [] number there = absurd cc
    by_place (first ∷ rest) zero there = record { one = first; among = among_here first rest; is = sym (same_some (marked marks first) warning there) }
    by_place (first ∷ rest) (suc number) there = let later = by_place rest number there in record { one = later.one; among = among_later first later.one rest later.among; is = later.is }

-- the place of a warning
pub passes : (new : Warning) (warnings : List Warning) (at : ℕ) (default : Warning) → at < length warnings → is_before (get_or warnings at default) new ≡ true →
    put_warning new warnings ≡ take at warnings ++ put_warning new (drop at warnings) → put_warning new warnings ≡ take (suc at) warnings ++ put_warning new (drop (suc at) warnings)
passes new warnings at default inside before is =
    let first : Warning = get_or warnings at default in
    let back : List Warning = drop (suc at) warnings in
    let goes : put_warning new (first ∷ back) ≡ first ∷ put_warning new back =
    ap (λ (b : Bool). if b then first ∷ put_warning new back else (if is_same first new then better first new ∷ back else new ∷ first ∷ back)) before in
    is ∙ (ap (λ (ws : List Warning). take at warnings ++ put_warning new ws) (drop-cons warnings at default inside)
    ∙ (ap (λ (ws : List Warning). take at warnings ++ ws) goes
    ∙ (sym (append_assoc (take at warnings) (first ∷ []) (put_warning new back))
    ∙ ap (λ (ws : List Warning). ws ++ put_warning new back) (sym (take-suc warnings at default inside)))))

drop_past : (warnings : List Warning) (at : ℕ) → slice_get warnings at ≡ None → drop at warnings ≡ []
drop_past [] zero none = refl
drop_past [] (suc at) none = refl
drop_past (first ∷ rest) zero none = absurd cc
drop_past (first ∷ rest) (suc at) none = drop_past rest at none

drop_at : (warnings : List Warning) (at : ℕ) (one : Warning) → slice_get warnings at ≡ Some one → drop at warnings ≡ one ∷ drop (suc at) warnings
drop_at [] at one there = nothing_at at one there
drop_at (first ∷ rest) zero one there = ap (λ (w : Warning). w ∷ rest) (same_some first one there)
drop_at (first ∷ rest) (suc at) one there = drop_at rest at one there

set_at : (warnings : List Warning) (at : ℕ) (one new : Warning) → slice_get warnings at ≡ Some one → set warnings at new ≡ take at warnings ++ new ∷ drop (suc at) warnings
set_at [] at one new there = nothing_at at one there
set_at (first ∷ rest) zero one new there = refl
set_at (first ∷ rest) (suc at) one new there = ap (λ (ws : List Warning). first ∷ ws) (set_at rest at one new there)

-- what is found at the place
found_before : (warnings : List Warning) (at : ℕ) (one new : Warning) → slice_get warnings at ≡ Some one → IfSome (slice_get warnings at) (λ w. is_before w new ≡ false) → is_before one new ≡ false
found_before warnings at one new there stays = subst (λ (o : Option Warning). IfSome o (λ w. is_before w new ≡ false)) there stays

pub put_end : (new : Warning) (warnings : List Warning) (at : ℕ) → put_warning new warnings ≡ take at warnings ++ put_warning new (drop at warnings) → slice_get warnings at ≡ None →
    insert warnings at new ≡ put_warning new warnings
put_end new warnings at is none =
    let empty : drop at warnings ≡ [] = drop_past warnings at none in
    ap (λ (ws : List Warning). take at warnings ++ new ∷ ws) empty ∙ sym (is ∙ ap (λ (ws : List Warning). take at warnings ++ put_warning new ws) empty)

pub put_same : (new one : Warning) (warnings : List Warning) (at : ℕ) → put_warning new warnings ≡ take at warnings ++ put_warning new (drop at warnings) → slice_get warnings at ≡ Some one →
    IfSome (slice_get warnings at) (λ w. is_before w new ≡ false) → is_same one new ≡ true → set warnings at (better one new) ≡ put_warning new warnings
put_same new one warnings at is there stays same =
    let late : is_before one new ≡ false = found_before warnings at one new there stays in
    let back : List Warning = drop (suc at) warnings in
    let goes : put_warning new (one ∷ back) ≡ better one new ∷ back =
    ap (λ (b : Bool). if b then one ∷ put_warning new back else (if is_same one new then better one new ∷ back else new ∷ one ∷ back)) late
    ∙ ap (λ (b : Bool). if b then better one new ∷ back else new ∷ one ∷ back) same in
    set_at warnings at one (better one new) there
    ∙ sym (is ∙ (ap (λ (ws : List Warning). take at warnings ++ put_warning new ws) (drop_at warnings at one there) ∙ ap (λ (ws : List Warning). take at warnings ++ ws) goes))

pub put_new : (new one : Warning) (warnings : List Warning) (at : ℕ) → put_warning new warnings ≡ take at warnings ++ put_warning new (drop at warnings) → slice_get warnings at ≡ Some one →
    IfSome (slice_get warnings at) (λ w. is_before w new ≡ false) → is_same one new ≡ false → insert warnings at new ≡ put_warning new warnings
put_new new one warnings at is there stays other =
    let late : is_before one new ≡ false = found_before warnings at one new there stays in
    let back : List Warning = drop (suc at) warnings in
    let goes : put_warning new (one ∷ back) ≡ new ∷ one ∷ back =
    ap (λ (b : Bool). if b then one ∷ put_warning new back else (if is_same one new then better one new ∷ back else new ∷ one ∷ back)) late
    ∙ ap (λ (b : Bool). if b then better one new ∷ back else new ∷ one ∷ back) other in
    ap (λ (ws : List Warning). take at warnings ++ new ∷ ws) (drop_at warnings at one there)
    ∙ sym (is ∙ (ap (λ (ws : List Warning). take at warnings ++ put_warning new ws) (drop_at warnings at one there) ∙ ap (λ (ws : List Warning). take at warnings ++ ws) goes))
