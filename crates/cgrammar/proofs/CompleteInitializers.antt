-- The reader of initialisers is complete, rule by rule of the grammar.
use Rattle.std.proofs.Common.{◌≡◌, ℕ, zero, suc, ◌+◌, ◌<◌, Bool, true, false, ◌||◌, refl, ap, sym, ◌∙◌, List, [], ◌∷◌, ◌++◌, length, map, codes, inl, inr, arith, Some, None, ◌⊎◌}
use Rattle.cbase.specs.declared.place.Place.{Place}
use Rattle.cbase.specs.declared.tree.expr.Expr.{Expr}
use Rattle.cbase.specs.declared.tree.init.Init.{Init}
use Rattle.cbase.specs.declared.tree.init.Init.TheVariants.{Value, Braces}
use Rattle.cbase.specs.declared.tree.init.InitPart.{InitPart}
use Rattle.ctrees.specs.Weight.{joined}
use Rattle.ctrees.specs.Levels.{depth, expr_levels, init_part_levels}
use Rattle.cgrammar.proofs.CompleteTypes.{last_comma, last_ends}
use Rattle.cgrammar.proofs.CompletingOutcomes.{go_true, go_read, go_past, list_of_one, list_of_more, row_of_two, row_of_three, shorter_behind}
use Rattle.cgrammar.proofs.CompletingTokens.{by_mark, begins_apart, operand_no_mark, operand_row_no_mark, begins_later}
use Rattle.cgrammar.proofs.CompletingParts.{read_levels, ends_known, assignment_read}
use Rattle.cgrammar.proofs.Firsts.{begins-append}
use Rattle.cgrammar.proofs.Reached.{Completes, goes_on_assignment}
use Rattle.cgrammar.proofs.Starting.{starts}
use Rattle.cgrammar.proofs.TokenKinds.{other_mark}
use Rattle.cgrammar.proofs.TreeLevels.{levels_value, levels_braces, levels_empty_braces, levels_initializer, joined_one}
use Rattle.cgrammar.proofs.Truth.{or-cases, or-left, or-right, not-true}
use Rattle.cgrammar.specs.Firsts.{Begins}
use Rattle.cgrammar.specs.Grammar.{Spells, IsMaybeComma, InitializedTo, EmptyBraces, InBraces, OneInitializer, MoreInitializers, NextPart, MemberPart}
use Rattle.cgrammar.specs.Outcomes.{Read, has_mark}
use Rattle.cgrammar.specs.Phrases.{Context, Assignment, Initializer, Initializers, DesignatedInitializer}
use Rattle.cgrammar.specs.ReadDeclarations.{read_part, in_braces, read_initializer}
use Rattle.cgrammar.specs.ReadLevels.{Level, read_list}
use Rattle.cgrammar.specs.ReadStarts.{postfix_start}
use Rattle.cgrammar.specs.ReadTypes.{closes_braces, behind_comma}
use Rattle.cgrammar.specs.Reader.{level}
use Rattle.cgrammar.specs.Starts.{begins_operand}
use Rattle.cgrammar.specs.Terminals.{Terminal, is_mark, IsMark, IsName, first_place}
use Rattle.cgrammar.specs.Trees.{identifier, initializer}

-- initialisers
abbrev begins_initializer : Terminal → Bool
begins_initializer token = is_mark (codes "{") token || begins_operand token

abbrev begins_part : Terminal → Bool
begins_part token = is_mark (codes ".") token || begins_initializer token

initializer_begins : (behind : Place) (init : Init) (before after : Context) (xs : List Terminal) → Spells (Initializer behind init) before xs after → Begins begins_initializer xs
initializer_begins behind init before after xs (InitializedTo value) = begins_later begins_operand begins_initializer (λ t on. or-right (is_mark (codes "{") t) on) xs (starts value)
initializer_begins behind init before after xs (EmptyBraces opening closing opens closes) = or-left (begins_operand opening) opens
initializer_begins behind init before after xs (InBraces last opening closing opens parts comma closes) = or-left (begins_operand opening) opens

part_begins : (behind : Place) (part : InitPart) (before after : Context) (xs : List Terminal) → Spells (DesignatedInitializer behind part) before xs after → Begins begins_part xs
part_begins behind part before after xs (NextPart {init} given) = begins_later begins_initializer begins_part (λ t on. or-right (is_mark (codes ".") t) on) xs (initializer_begins behind init before after xs given)
part_begins behind part before after xs (MemberPart dot name mark is named equals given) = or-left (begins_initializer dot) is

parts_begin : (behind : Place) (parts : List InitPart) (before after : Context) (xs : List Terminal) → Spells (Initializers behind parts) before xs after → Begins begins_part xs
parts_begin behind parts before after xs (OneInitializer {part} one) = part_begins behind part before after xs one
parts_begin behind parts before after xs (MoreInitializers {middle} {xs = ws} {ys} {part} comma one mark more) = begins-append begins_part ws (comma ∷ ys) (part_begins comma.place part before middle ws one)

initializer_no_dot : (token : Terminal) → begins_initializer token ≡ true → is_mark (codes ".") token ≡ false
initializer_no_dot token is = step (or-cases (is_mark (codes "{") token) (begins_operand token) is)
  where
    step : (is_mark (codes "{") token ≡ true) ⊎ (begins_operand token ≡ true) → is_mark (codes ".") token ≡ false
    step (inl brace) = other_mark (codes "{") (codes ".") token refl brace
    step (inr operand) = operand_no_mark (codes ".") refl token operand

part_no_brace : (token : Terminal) → begins_part token ≡ true → is_mark (codes "}") token ≡ false
part_no_brace token is = step (or-cases (is_mark (codes ".") token) (begins_initializer token) is)
  where
    further : (is_mark (codes "{") token ≡ true) ⊎ (begins_operand token ≡ true) → is_mark (codes "}") token ≡ false
    further (inl brace) = other_mark (codes "{") (codes "}") token refl brace
    further (inr operand) = operand_no_mark (codes "}") refl token operand

    step : (is_mark (codes ".") token ≡ true) ⊎ (begins_initializer token ≡ true) → is_mark (codes "}") token ≡ false
    step (inl dot) = other_mark (codes ".") (codes "}") token refl dot
    step (inr other) = further (or-cases (is_mark (codes "{") token) (begins_operand token) other)

pub complete_initialized_to : (before after : Context) (xs : List Terminal) (behind : Place) (value : Expr)
    → Spells (Assignment value) before xs after
    → Completes (Assignment value) before xs after
    → Completes (Initializer behind (Value value behind)) before xs after
unfolding read_initializer
complete_initialized_to before after xs behind value d1 c1 zero rest place small ends = absurd (omega (arith, small, levels_value value behind))
complete_initialized_to before after xs behind value d1 c1 (suc m) rest place small ends =
    let levels = levels_value value behind in
    go_past (is_mark (codes "{")) (xs ++ rest) _ _ (operand_row_no_mark (codes "{") xs rest refl (starts d1))
    ∙ go_read _ (assignment_read m before xs value after rest c1 (omega (arith, small, levels)) ends)
    (ap (λ (p : Place). Read (Value value p) (1 + expr_levels value) after rest) place ∙ read_levels _ after rest (sym levels))

pub complete_empty_braces : (before : Context) (behind : Place) (opening closing : Terminal)
    → IsMark (codes "{") opening
    → IsMark (codes "}") closing
    → Completes (Initializer behind (Braces [])) before (opening ∷ (closing ∷ [])) before
unfolding read_initializer
complete_empty_braces before behind opening closing p1 p2 zero rest place small ends = absurd (omega (arith, small, levels_empty_braces))
complete_empty_braces before behind opening closing p1 p2 (suc m) rest place small ends = go_true _ p1 (go_true _ p2 (read_levels _ before rest (sym levels_empty_braces)))

braces_read : (inner : Level) (before : Context) (row : List Terminal) (parts : List InitPart) (levels : ℕ) (behind : Context) (rest : List Terminal) (closing : Terminal) (end : List Terminal)
    → has_mark (codes "}") row ≡ false → read_list closes_braces (read_part inner) (length row + 1) before row ≡ Read parts levels behind rest → behind_comma rest ≡ closing ∷ end → IsMark (codes "}") closing
    → in_braces inner before row ≡ Read (Braces parts) (1 + levels) behind end
braces_read inner before row parts levels behind rest closing end none is comma closes =
    go_past (is_mark (codes "}")) row _ _ none ∙ go_read _ is (rw comma (go_true _ closes refl))

-- where the token behind the parts of a list in braces stands: a comma, or else the brace
place_before : (last : List Terminal) (closing : Terminal) (rest : List Terminal) → first_place (last ++ (closing ∷ rest)) ≡ first_place (last ++ (closing ∷ []))
place_before [] closing rest = refl
place_before (token ∷ last) closing rest = refl

pub complete_in_braces : (before after : Context) (xs : List Terminal) (behind : Place) (parts : List InitPart) (last : List Terminal) (opening closing : Terminal)
    → IsMark (codes "{") opening
    → Spells (Initializers (first_place (last ++ (closing ∷ []))) parts) before xs after
    → IsMaybeComma last
    → IsMark (codes "}") closing
    → Completes (Initializers (first_place (last ++ (closing ∷ []))) parts) before xs after
    → Completes (Initializer behind (Braces parts)) before (opening ∷ (xs ++ (last ++ (closing ∷ [])))) after
unfolding read_initializer postfix_start
complete_in_braces before after xs behind parts last opening closing p1 d1 p2 p3 c1 zero rest place small ends = absurd (omega (arith, small, levels_braces parts))
complete_in_braces before after xs behind parts last opening closing p1 d1 p2 p3 c1 (suc m) rest place small ends =
    let levels = levels_braces parts in
    let closed = last_comma last closing rest p2 p3 in
    let ended = last_ends goes_on_assignment last closing rest (λ t is. by_mark goes_on_assignment (codes ",") t is refl) (λ t is. by_mark goes_on_assignment (codes "}") t is refl) p2 p3 in
    ap (λ row. read_initializer (level m) before (opening ∷ row)) (row_of_three xs last (closing ∷ []) rest)
    ∙ go_true _ p1
    (braces_read (level m) before (xs ++ (last ++ (closing ∷ rest))) parts (joined depth (map init_part_levels parts)) after (last ++ (closing ∷ rest)) closing rest
    (begins_apart begins_part (is_mark (codes "}")) xs (last ++ (closing ∷ rest)) part_no_brace (parts_begin (first_place (last ++ (closing ∷ []))) parts before after xs d1))
    (c1 m (length (xs ++ (last ++ (closing ∷ rest))) + 1) (last ++ (closing ∷ rest)) (omega arith) (place_before last closing rest) (omega (arith, small, levels)) ended closed.1) closed.0 p3
    ∙ read_levels _ after rest (sym levels))

pub complete_one_initializer : (before after : Context) (xs : List Terminal) (behind : Place) (part : InitPart)
    → Spells (DesignatedInitializer behind part) before xs after
    → Completes (DesignatedInitializer behind part) before xs after
    → Completes (Initializers behind (part ∷ [])) before xs after
complete_one_initializer before after xs behind part d1 c1 n count rest enough place small ends closes =
    list_of_one closes_braces (read_part (level n)) count before (xs ++ rest) part (init_part_levels part) after rest enough (c1 n rest place (omega (arith, small)) ends) (not-true _ closes)
    ∙ read_levels (part ∷ []) after rest (sym (joined_one (init_part_levels part)))

pub complete_more_initializers : (before middle after : Context) (xs ys : List Terminal) (behind : Place) (part : InitPart) (others : List InitPart) (comma : Terminal)
    → Spells (DesignatedInitializer comma.place part) before xs middle
    → IsMark (codes ",") comma
    → Spells (Initializers behind others) middle ys after
    → Completes (DesignatedInitializer comma.place part) before xs middle
    → Completes (Initializers behind others) middle ys after
    → Completes (Initializers behind (part ∷ others)) before (xs ++ (comma ∷ ys)) after
unfolding postfix_start
complete_more_initializers before middle after xs ys behind part others comma d1 p1 d2 c1 c2 n zero rest enough place small ends closes = absurd (omega (arith, enough))
complete_more_initializers before middle after xs ys behind part others comma d1 p1 d2 c1 c2 n (suc count) rest enough place small ends closes =
    let less : length (ys ++ rest) < count = let far = shorter_behind xs comma (ys ++ rest) in let same = ap (λ (r : List Terminal). length r) (row_of_two xs (comma ∷ ys) rest) in omega (arith, enough, far, same) in
    ap (λ row. read_list closes_braces (read_part (level n)) (suc count) before row) (row_of_two xs (comma ∷ ys) rest)
    ∙ list_of_more closes_braces (read_part (level n)) count before (xs ++ (comma ∷ (ys ++ rest))) part (init_part_levels part) middle comma (ys ++ rest) others (joined depth (map init_part_levels others)) after rest
    (c1 n (comma ∷ (ys ++ rest)) refl (omega (arith, small)) (ends_known goes_on_assignment (codes ",") comma (ys ++ rest) p1 refl)) p1
    (begins_apart begins_part (is_mark (codes "}")) ys rest part_no_brace (parts_begin behind others middle after ys d2)) (c2 n count rest less place (omega (arith, small)) ends closes)

pub complete_next_part : (before after : Context) (xs : List Terminal) (behind : Place) (init : Init)
    → Spells (Initializer behind init) before xs after
    → Completes (Initializer behind init) before xs after
    → Completes (DesignatedInitializer behind (initializer None init)) before xs after
unfolding read_part
complete_next_part before after xs behind init d1 c1 n rest place small ends =
    let levels = levels_initializer None init in
    go_past (is_mark (codes ".")) (xs ++ rest) _ _ (begins_apart begins_initializer (is_mark (codes ".")) xs rest initializer_no_dot (initializer_begins behind init before after xs d1))
    ∙ go_read _ (c1 n rest place (omega (arith, small, levels)) ends) (read_levels _ after rest (sym levels))

pub complete_member_part : (before after : Context) (xs : List Terminal) (behind : Place) (init : Init) (dot name mark : Terminal)
    → IsMark (codes ".") dot
    → IsName name
    → IsMark (codes "=") mark
    → Spells (Initializer behind init) before xs after
    → Completes (Initializer behind init) before xs after
    → Completes (DesignatedInitializer behind (initializer (Some (identifier name)) init)) before (dot ∷ (name ∷ (mark ∷ xs))) after
unfolding read_part
complete_member_part before after xs behind init dot name mark p1 p2 p3 d1 c1 n rest place small ends =
    let levels = levels_initializer (Some (identifier name)) init in
    go_true _ p1 (go_true _ p2 (go_true _ p3 (go_read _ (c1 n rest place (omega (arith, small, levels)) ends) (read_levels _ after rest (sym levels)))))
