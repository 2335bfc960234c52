-- The name of a layout attribute that is found is the first that there is.
use Rattle.std.proofs.Common.{◌≡◌, ℕ, zero, suc, ◌+◌, nat_eq, Bool, true, false, ◌&&◌, if◌then◌else◌, refl, ap, sym, ◌∙◌, subst, List, [], ◌∷◌, ◌++◌, Some, take, arith}
use Rattle.std.specs.Prelude.{slice_get}
use Rattle.std.proofs.lemmas.Bool.{eqb-true}
use Rattle.cgrammar.proofs.Truth.{and-left, and-right, and-both}
use Rattle.cgrammar.specs.Terminals.{Terminal}
use Rattle.cconstructs.specs.declared.part.Part.{Part}
use Rattle.cconstructs.specs.Layout.{is_layout_name, NamesLayout}
use Rattle.cconstructs.specs.LayoutFinding.{attribute_from, outside, part_behind, shows_layout}
use Rattle.cconstructs.proofs.AttributeParts.{behind_row, known_all, outer_open, separated_last, EndsInOuter}
use Rattle.cconstructs.proofs.Least.{AtMost}
use Rattle.cconstructs.proofs.Options.{no_some, same_some}

-- a token of the row that shows a layout, where this is known before the row
record FoundAt (part : Part) (from : ℕ) (row : List Terminal) (number : ℕ) : Type 0 where
  pub at : ℕ
  pub name : Terminal
  pub counts : number ≡ from + at
  pub there : slice_get row at ≡ Some name
  pub shows : shows_layout (behind_row part (take at row)) name ≡ true

found_from : (row : List Terminal) (part : Part) (from number : ℕ) → attribute_from from part row ≡ Some number → FoundAt part from row number
unfolding attribute_from
found_from [] part from number is = no_some number is
found_from (token ∷ others) part from number is =
    step (shows_layout part token) refl is (found_from others (part_behind part.behind part.unclosed token) (from + 1) number)
  where
    step : (shows : Bool) → shows_layout part token ≡ shows → (if shows then Some from else attribute_from (from + 1) (part_behind part.behind part.unclosed token) others) ≡ Some number
        → (attribute_from (from + 1) (part_behind part.behind part.unclosed token) others ≡ Some number → FoundAt (part_behind part.behind part.unclosed token) (from + 1) others number)
        → FoundAt part from (token ∷ others) number
    step true e here further =
        let same : from ≡ number = same_some from number here in
        record { at = 0; name = token; counts = omega (arith, same); there = refl; shows = e }
    step false e later further =
        let found = further later in
        record { at = suc found.at; name = found.name; counts = omega (arith, found.counts); there = found.there; shows = found.shows }

least_from : (row : List Terminal) (part : Part) (from at : ℕ) (name : Terminal) → slice_get row at ≡ Some name → shows_layout (behind_row part (take at row)) name ≡ true
    → AtMost (attribute_from from part row) (from + at)
unfolding attribute_from
least_from [] part from at name there shows = no_some name there
least_from (token ∷ others) part from zero name there shows = record {
  least = from;
  is = ap (λ (b : Bool). if b then Some from else attribute_from (from + 1) (part_behind part.behind part.unclosed token) others)
      (ap (shows_layout part) (same_some token name there) ∙ shows);
  less = omega arith;
}
least_from (token ∷ others) part from (suc at) name there shows =
    step (shows_layout part token) refl (least_from others (part_behind part.behind part.unclosed token) (from + 1) at name there shows)
  where
    step : (b : Bool) → shows_layout part token ≡ b → AtMost (attribute_from (from + 1) (part_behind part.behind part.unclosed token) others) (from + 1 + at)
        → AtMost (if b then Some from else attribute_from (from + 1) (part_behind part.behind part.unclosed token) others) (from + suc at)
    step true e further = record { least = from; is = refl; less = omega arith }
    step false e further = record { least = further.least; is = further.is; less = omega (arith, further.less) }

-- such a token is the name of a layout attribute
names_sound : (row : List Terminal) (at : ℕ) (name : Terminal) → slice_get row at ≡ Some name → shows_layout (behind_row (outside false) (take at row)) name ≡ true → NamesLayout row at
names_sound row at name there shows =
    let part : Part = behind_row (outside false) (take at row) in
    let rest : (part.separated && is_layout_name name) ≡ true = and-right (nat_eq part.unclosed 2) (part.separated && is_layout_name name) shows in
    let two : part.unclosed ≡ 2 = eqb-true part.unclosed 2 (and-left (nat_eq part.unclosed 2) (part.separated && is_layout_name name) shows) in
    let known = known_all (take at row) in
    let outer = known.inside 1 two in
    let last = known.last 0 two in
    record {
      name = name;
      there = there;
      listed = and-right part.separated (is_layout_name name) rest;
      within = outer.ends;
      apart = outer.apart;
      front = last.before;
      separator = last.last;
      directly = last.is;
      separated = sym last.same ∙ and-left part.separated (is_layout_name name) rest;
    }

names_complete : (row : List Terminal) (at : ℕ) (names : NamesLayout row at) → shows_layout (behind_row (outside false) (take at row)) names.name ≡ true
names_complete row at names =
    let part : Part = behind_row (outside false) (take at row) in
    let outer : EndsInOuter 1 (take at row) = record { ends = names.within; apart = names.apart } in
    let two : part.unclosed ≡ 2 = outer_open (take at row) 1 outer in
    let there : (behind_row (outside false) (names.front ++ (names.separator ∷ []))).unclosed ≡ 2 =
    subst (λ (front : List Terminal). (behind_row (outside false) front).unclosed ≡ 2) names.directly two in
    let separated : part.separated ≡ true =
    ap (λ (front : List Terminal). (behind_row (outside false) front).separated) names.directly ∙ (separated_last names.front names.separator 0 there ∙ names.separated) in
    and-both (ap (λ (n : ℕ). nat_eq n 2) two) (and-both separated names.listed)

-- the first that is found
pub record NamedAt (row : List Terminal) (from number : ℕ) : Type 0 where
  pub at : ℕ
  pub counts : number ≡ from + at
  pub names : NamesLayout row at

pub attribute_sound : (row : List Terminal) (from number : ℕ) → attribute_from from (outside false) row ≡ Some number → NamedAt row from number
attribute_sound row from number is =
    let found = found_from row (outside false) from number is in
    record { at = found.at; counts = found.counts; names = names_sound row found.at found.name found.there found.shows }

pub attribute_least : (row : List Terminal) (from at : ℕ) → NamesLayout row at → AtMost (attribute_from from (outside false) row) (from + at)
attribute_least row from at names = least_from row (outside false) from at names.name names.there (names_complete row at names)
