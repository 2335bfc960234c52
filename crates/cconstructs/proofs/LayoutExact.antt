-- The change of layout that is found is the first that there is.
use Rattle.std.proofs.Common.{◌≡◌, ℕ, zero, suc, ◌+◌, ◌≤◌, nat_le, nat_lt, min, Bool, true, false, not, ◌&&◌, ◌||◌, if◌then◌else◌, refl, ap, sym, subst, ◌∙◌, ◌⊎◌, inl, inr, ◌↔◌, List, [], ◌∷◌, Option, None, Some, drop, codes, arith}
use Rattle.std.specs.Prelude.{slice_get}
use Rattle.std.proofs.lemmas.Bool.{le-leb, leb-true, ltb-false}
use Rattle.std.proofs.lemmas.Bool.Decides.{Decides-ltb}
use Rattle.ctokens.specs.declared.token.Tokens.{Tokens}
use Rattle.cgrammar.proofs.Truth.{and-left, and-right, and-both, or-cases, or-left, or-right}
use Rattle.cgrammar.specs.Readings.{row_between}
use Rattle.cgrammar.specs.Terminals.{Terminal, is_mark, is_name, is_word}
use Rattle.cconstructs.specs.Layout.{tokens_between, ClosesBehind, EndsBehind, IsStructWithMembers, Untagged, Tagged, IsLayoutAt, ByAttribute, ByPragma, IsFirstLayout, HasNoLayout}
use Rattle.cconstructs.specs.LayoutFinding.{attribute_from, ends_behind, first_closing, has_members, is_behind, is_filled, is_tagged, layout_found, least_struct, lesser, outside, packed_struct, struct_at}
use Rattle.cconstructs.proofs.LayoutNames.{attribute_least, attribute_sound}
use Rattle.cconstructs.proofs.Least.{AtMost}
use Rattle.cconstructs.proofs.Options.{no_some, same_some}
use Rattle.cconstructs.proofs.StructEnds.{closing_complete, closing_sound, members_closing}

-- the least of two
min_cases : (x y : ℕ) → (min x y ≡ x) ⊎ (min x y ≡ y)
min_cases x y = step (nat_lt x y) refl
  where
    step : (b : Bool) → nat_lt x y ≡ b → (min x y ≡ x) ⊎ (min x y ≡ y)
    step true e = inl (omega (arith, (Decides-ltb x y).0 e))
    step false e = inr (omega (arith, ltb-false x y e))

lesser_of : (one other : Option ℕ) (number : ℕ) → lesser one other ≡ Some number → (one ≡ Some number) ⊎ (other ≡ Some number)
lesser_of None other number is = inr is
lesser_of (Some one) None number is = inl is
lesser_of (Some one) (Some other) number is = step (min_cases one other)
  where
    step : (min one other ≡ one) ⊎ (min one other ≡ other) → (◌≡◌ {A = Option ℕ} (Some one) (Some number)) ⊎ (◌≡◌ {A = Option ℕ} (Some other) (Some number))
    step (inl e) = inl (ap (λ (n : ℕ). Some n) (sym e) ∙ is)
    step (inr e) = inr (ap (λ (n : ℕ). Some n) (sym e) ∙ is)

lesser_left : (one other : Option ℕ) (most : ℕ) → AtMost one most → AtMost (lesser one other) most
lesser_left None other most at = no_some at.least at.is
lesser_left (Some one) None most at = at
lesser_left (Some one) (Some other) most at = record { least = min one other; is = refl; less = omega (arith, same_some one at.least at.is, at.less) }

lesser_right : (one other : Option ℕ) (most : ℕ) → AtMost other most → AtMost (lesser one other) most
lesser_right None other most at = at
lesser_right (Some one) None most at = no_some at.least at.is
lesser_right (Some one) (Some other) most at = record { least = min one other; is = refl; less = omega (arith, same_some other at.least at.is, at.less) }

-- `struct` with members
record HasMembers (row : List Terminal) : Type 0 where
  pub members : List Terminal
  pub is : IsStructWithMembers row members

members_sound : (row : List Terminal) → has_members row ≡ true → HasMembers row
members_sound [] is = cc is
members_sound (word ∷ others) is =
    step (or-cases (is_filled others) (is_tagged others) (and-right (is_word (codes "struct") word) (is_filled others || is_tagged others) is))
  where
    struct : is_word (codes "struct") word ≡ true
    struct = and-left (is_word (codes "struct") word) (is_filled others || is_tagged others) is

    filled : (row : List Terminal) → is_filled row ≡ true → HasMembers (word ∷ row)
    filled [] e = cc e
    filled (opening ∷ []) e = cc e
    filled (opening ∷ (next ∷ more)) e = record {
      members = next ∷ more;
      is = Untagged word opening next more struct
          (and-left (is_mark (codes "{") opening) (not (is_mark (codes "}") next)) e) (and-right (is_mark (codes "{") opening) (not (is_mark (codes "}") next)) e);
    }

    tagged : (row : List Terminal) → is_tagged row ≡ true → HasMembers (word ∷ row)
    tagged [] e = cc e
    tagged (tag ∷ []) e = let wrong : false ≡ true = and-right (is_name tag) false e in cc wrong
    tagged (tag ∷ (opening ∷ [])) e = let wrong : false ≡ true = and-right (is_name tag) false e in cc wrong
    tagged (tag ∷ (opening ∷ (next ∷ more))) e =
        let full = and-right (is_name tag) (is_mark (codes "{") opening && not (is_mark (codes "}") next)) e in
        record {
          members = next ∷ more;
          is = Tagged word tag opening next more struct (and-left (is_name tag) (is_mark (codes "{") opening && not (is_mark (codes "}") next)) e)
              (and-left (is_mark (codes "{") opening) (not (is_mark (codes "}") next)) full) (and-right (is_mark (codes "{") opening) (not (is_mark (codes "}") next)) full);
        }

    step : (is_filled others ≡ true) ⊎ (is_tagged others ≡ true) → HasMembers (word ∷ others)
    step (inl e) = filled others e
    step (inr e) = tagged others e

members_complete : (row members : List Terminal) → IsStructWithMembers row members → has_members row ≡ true
members_complete _ _ (Untagged word opening next others struct opens full) =
    and-both struct (or-left (is_tagged (opening ∷ (next ∷ others))) (and-both opens full))
members_complete _ _ (Tagged word tag opening next others struct named opens full) =
    and-both struct (or-right (is_filled (tag ∷ (opening ∷ (next ∷ others)))) (and-both named (and-both opens full)))

-- where a struct ends
closing_found : (line : ℕ) (members : List Terminal) (found : Option Terminal) → first_closing 1 members ≡ found → is_behind line found ≡ true → ClosesBehind line members
closing_found line members None e is = cc is
closing_found line members (Some closing) e is =
    let (inside, others, split, closed, ends) = closing_sound members closing e in
    record { inside = inside; closing = closing; others = others; is = split; closed = closed; ends = ends; behind = leb-true line closing.place.at is }

ends_sound : (line : ℕ) (word : Terminal) (row members : List Terminal) → IsStructWithMembers row members → ends_behind line word row ≡ true → EndsBehind line word members
ends_sound line word row members full is = step (or-cases (nat_le line word.place.at) (is_behind line (first_closing 0 row)) is)
  where
    step : (nat_le line word.place.at ≡ true) ⊎ (is_behind line (first_closing 0 row) ≡ true) → EndsBehind line word members
    step (inl e) = inl (leb-true line word.place.at e)
    step (inr e) = inr (closing_found line members (first_closing 1 members) refl (ap (is_behind line) (sym (members_closing row members full)) ∙ e))

ends_complete : (line : ℕ) (word : Terminal) (row members : List Terminal) → IsStructWithMembers row members → EndsBehind line word members → ends_behind line word row ≡ true
ends_complete line word row members full (inl less) = or-left (is_behind line (first_closing 0 row)) (le-leb line word.place.at less)
ends_complete line word row members full (inr closes) =
    or-right (nat_le line word.place.at)
    (ap (is_behind line) (members_closing row members full ∙ (ap (first_closing 1) closes.is ∙ closing_complete closes.inside closes.others closes.closing closes.closed closes.ends))
    ∙ le-leb line closes.closing.place.at closes.behind)

-- a `struct` with members in the row that ends at or behind the line
pub record ShownAt (line : ℕ) (row : List Terminal) (number : ℕ) : Type 0 where
  pub at : ℕ
  pub word : Terminal
  pub there : slice_get row at ≡ Some word
  pub members : List Terminal
  pub full : IsStructWithMembers (drop at row) members
  pub behind : EndsBehind line word members
  pub numbered : word.place.at ≡ number

struct_sound : (line : ℕ) (row : List Terminal) (number : ℕ) → struct_at line row ≡ Some number → ShownAt line row number
struct_sound line [] number is = no_some number is
struct_sound line (word ∷ others) number is = step (has_members (word ∷ others) && ends_behind line word (word ∷ others)) refl is
  where
    step : (b : Bool) → (has_members (word ∷ others) && ends_behind line word (word ∷ others)) ≡ b → (if b then Some word.place.at else None) ≡ Some number → ShownAt line (word ∷ others) number
    step true e h =
        let full = members_sound (word ∷ others) (and-left (has_members (word ∷ others)) (ends_behind line word (word ∷ others)) e) in
        record {
          at = 0;
          word = word;
          there = refl;
          members = full.members;
          full = full.is;
          behind = ends_sound line word (word ∷ others) full.members full.is (and-right (has_members (word ∷ others)) (ends_behind line word (word ∷ others)) e);
          numbered = same_some word.place.at number h;
        }
    step false e h = no_some number h

least_sound : (line : ℕ) (row : List Terminal) (number : ℕ) → least_struct line row ≡ Some number → ShownAt line row number
unfolding least_struct
least_sound line [] number is = no_some number is
least_sound line (word ∷ others) number is =
    step (lesser_of (struct_at line (word ∷ others)) (least_struct line others) number is) (least_sound line others number)
  where
    step : (struct_at line (word ∷ others) ≡ Some number) ⊎ (least_struct line others ≡ Some number)
        → (least_struct line others ≡ Some number → ShownAt line others number) → ShownAt line (word ∷ others) number
    step (inl e) further = struct_sound line (word ∷ others) number e
    step (inr e) further =
        let shown = further e in
        record { at = suc shown.at; word = shown.word; there = shown.there; members = shown.members; full = shown.full; behind = shown.behind; numbered = shown.numbered }

least_least : (line : ℕ) (row : List Terminal) (at : ℕ) (word : Terminal) (members : List Terminal) → slice_get row at ≡ Some word → IsStructWithMembers (drop at row) members → EndsBehind line word members
    → AtMost (least_struct line row) word.place.at
unfolding least_struct
least_least line [] at word members there full behind = no_some word there
least_least line (first ∷ others) zero word members there full behind =
    lesser_left (struct_at line (first ∷ others)) (least_struct line others) word.place.at (record {
      least = first.place.at;
      is = ap (λ (b : Bool). if b then Some first.place.at else None)
          (and-both (members_complete (first ∷ others) members full) (ends_complete line first (first ∷ others) members full (subst (λ (t : Terminal). EndsBehind line t members) (sym same) behind)));
      less = subst (λ (t : Terminal). first.place.at ≤ t.place.at) same (omega arith);
    })
  where
    same : first ≡ word
    same = same_some first word there
least_least line (first ∷ others) (suc at) word members there full behind =
    lesser_right (struct_at line (first ∷ others)) (least_struct line others) word.place.at (least_least line others at word members there full behind)

packed_sound : (t : Tokens) (from to number : ℕ) → packed_struct t.packs (row_between t from to) ≡ Some number → IsLayoutAt t from to number
packed_sound t from to number is = step t.packs refl is
  where
    step : (lines : List ℕ) → t.packs ≡ lines → packed_struct lines (row_between t from to) ≡ Some number → IsLayoutAt t from to number
    step [] e h = no_some number h
    step (line ∷ lines) e h =
        let shown = least_sound line (row_between t from to) number h in
        subst (λ (n : ℕ). IsLayoutAt t from to n) shown.numbered
        (ByPragma shown.at line shown.word shown.members shown.there shown.full (ap (λ (all : List ℕ). slice_get all 0) e) shown.behind)

packed_least : (lines : List ℕ) (row : List Terminal) (at line : ℕ) (word : Terminal) (members : List Terminal) → slice_get row at ≡ Some word → IsStructWithMembers (drop at row) members
    → slice_get lines 0 ≡ Some line → EndsBehind line word members → AtMost (packed_struct lines row) word.place.at
packed_least [] row at line word members there full first behind = no_some line first
packed_least (one ∷ lines) row at line word members there full first behind =
    let same : one ≡ line = same_some one line first in
    least_least one row at word members there full (subst (λ (n : ℕ). EndsBehind n word members) (sym same) behind)

found_sound : (t : Tokens) (from to number : ℕ) → layout_found t from to ≡ Some number → IsLayoutAt t from to number
found_sound t from to number is =
    step (lesser_of (attribute_from from (outside false) (tokens_between t from to)) (packed_struct t.packs (row_between t from to)) number is)
  where
    step : (attribute_from from (outside false) (tokens_between t from to) ≡ Some number) ⊎ (packed_struct t.packs (row_between t from to) ≡ Some number) → IsLayoutAt t from to number
    step (inl e) =
        let named = attribute_sound (tokens_between t from to) from number e in
        subst (λ (n : ℕ). IsLayoutAt t from to n) (sym named.counts) (ByAttribute named.at named.names)
    step (inr e) = packed_sound t from to number e

found_least : (t : Tokens) (from to number : ℕ) → IsLayoutAt t from to number → AtMost (layout_found t from to) number
found_least t from to _ (ByAttribute at names) =
    lesser_left (attribute_from from (outside false) (tokens_between t from to)) (packed_struct t.packs (row_between t from to)) (from + at)
    (attribute_least (tokens_between t from to) from at names)
found_least t from to _ (ByPragma at line word members there full first behind) =
    lesser_right (attribute_from from (outside false) (tokens_between t from to)) (packed_struct t.packs (row_between t from to)) word.place.at
    (packed_least t.packs (row_between t from to) at line word members there full first behind)

sound : (t : Tokens) (from to number : ℕ) → layout_found t from to ≡ Some number → IsFirstLayout t from to number
sound t from to number is = record {
  is = found_sound t from to number is;
  first = λ earlier less layout.
      let found = found_least t from to earlier layout in
      let same : number ≡ found.least = same_some number found.least (sym is ∙ found.is) in
      absurd (omega (arith, same, found.less));
}

complete : (t : Tokens) (from to number : ℕ) → IsFirstLayout t from to number → layout_found t from to ≡ Some number
complete t from to number first = step (found_least t from to number first.is)
  where
    step : AtMost (layout_found t from to) number → layout_found t from to ≡ Some number
    step found = order (nat_lt found.least number) refl
      where
        order : (b : Bool) → nat_lt found.least number ≡ b → layout_found t from to ≡ Some number
        order true e = absurd (first.first found.least ((Decides-ltb found.least number).0 e) (found_sound t from to found.least found.is))
        order false e =
            let same : found.least ≡ number = omega (arith, found.less, ltb-false found.least number e) in
            found.is ∙ ap (λ (n : ℕ). Some n) same

-- of an answer that is what is found
pub layout_exact : (t : Tokens) (from to : ℕ) (answer : Option ℕ) → answer ≡ layout_found t from to → (number : ℕ) → (answer ≡ Some number) ↔ IsFirstLayout t from to number
layout_exact t from to answer is number =
    subst (λ (o : Option ℕ). (o ≡ Some number) ↔ IsFirstLayout t from to number) (sym is) (sound t from to number, complete t from to number)

pub none_exact : (t : Tokens) (from to : ℕ) (answer : Option ℕ) → answer ≡ layout_found t from to → (answer ≡ None) ↔ HasNoLayout t from to
none_exact t from to answer is =
    subst (λ (o : Option ℕ). (o ≡ None) ↔ HasNoLayout t from to) (sym is) (none, found)
  where
    none : layout_found t from to ≡ None → HasNoLayout t from to
    none e = λ number layout. let most = found_least t from to number layout in no_some most.least (sym e ∙ most.is)

    found : HasNoLayout t from to → layout_found t from to ≡ None
    found empty = step (layout_found t from to) refl
      where
        step : (o : Option ℕ) → layout_found t from to ≡ o → o ≡ None
        step None e = refl
        step (Some number) e = absurd (empty number (found_sound t from to number e))
