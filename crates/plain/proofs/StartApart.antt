-- No scalar that stands in a static variable at the start overlaps one before it in part.
use Rattle.std.proofs.Common.{◌≡◌, ℕ, suc, ◌+◌, ◌<◌, ◌≤◌, Bool, true, false, ◌&&◌, List, [], ◌∷◌, length, nat_eq, nat_lt, pos, Option, None, Some, ◌⊎◌, inl, inr, refl, sym, ◌∙◌, ap, subst, eqb-true, ltb-true, arith}
use Rattle.std.specs.Prelude.{All, AllPairs, if◌then◌else◌}
use Rattle.std.specs.List.{list_any}
use Rattle.std.specs.Option.{option_map_or}
use Rattle.std.proofs.lemmas.Bool.{false≢true}
use Rattle.std.proofs.lemmas.List.Elements.{All-head, All-tail}
use Rattle.std.proofs.lemmas.Option.{same_Some, none-some}
use Rattle.bytes_core.specs.declared.block.BlockKind.TheVariants as storage
use Rattle.bytes_core.specs.declared.word.Word.TheVariants.{To}
use Rattle.bytes_core.specs.Placement.{placed}
use Rattle.choices.specs.declared.choice.Choice.{Choice}
use Rattle.graph.proofs.Tests.{and_left, and_right}
use Rattle.flow.specs.declared.flow_graph.Initial.{Initial}
use Rattle.flow.specs.declared.flow_graph.Variable.{Variable}
use Rattle.flow.specs.Holding.{Owned, block_of, put_owned}
use Rattle.flow.specs.Machine.{State, with_new_block}
use Rattle.flow.specs.Runs.{with_statics, initial_word}
use Rattle.flow.specs.Valid.{AreApart}
use Rattle.flow.proofs.Outcomes.{Leaves, Leaves-new_block}
use Rattle.plain.specs.Conditions.{CutNone}
use Rattle.plain.specs.Marks.{Mark, Unwritten, Zeroed, Piece, is_in_range, marked_at, is_zero_in, written_mark}
use Rattle.plain.specs.StartMarks.{static_marks, with_initial_mark}
use Rattle.plain.proofs.Ranges.{range_low, range_high}
use Rattle.plain.proofs.StartBlocks.{are_below, HasBelow, below_next}

-- each scalar takes pieces before it whole, or not at all
abbrev pub CutNoInitial : List Owned → List Initial → (ℕ → ℕ → Mark) → Type 0
CutNoInitial statics [] marks = Unit {0}
CutNoInitial statics (first ∷ rest) marks =
    ((block : ℕ) → block_of statics first.variable ≡ Some block → CutNone (marks block) first.at first.size) × CutNoInitial statics rest (with_initial_mark statics first marks)

-- Static variables have blocks of their own.

abbrev pub HaveOwn : List Owned → Type 0
HaveOwn statics = (one other block : ℕ) → block_of statics one ≡ Some block → block_of statics other ≡ Some block → one ≡ other

owned_below : (count : ℕ) (statics : List Owned) (variable block : ℕ) → are_below count statics ≡ true → block_of statics variable ≡ Some block → block < count
owned_below count [] variable block below is = absurd (none-some block is)
owned_below count (first ∷ rest) variable block below is = by_test (nat_eq first.variable variable) is (owned_below count rest variable block (and_right (nat_lt first.block count) (are_below count rest) below))
  where
    by_test : (b : Bool) → (if b then Some first.block else block_of rest variable) ≡ Some block → (block_of rest variable ≡ Some block → block < count) → block < count
    by_test true is later = subst (λ (n : ℕ). n < count) (same_Some _ _ is) (ltb-true first.block count (and_left (nat_lt first.block count) (are_below count rest) below))
    by_test false is later = later is

-- a variable's block is the new one's, or was there
owned_either : (new : Owned) (statics : List Owned) (variable block : ℕ) → block_of (put_owned new statics) variable ≡ Some block → ((new.variable ≡ variable) × (new.block ≡ block)) ⊎ (block_of statics variable ≡ Some block)
owned_either new [] variable block is = by_test (nat_eq new.variable variable) refl is
  where
    by_test : (b : Bool) → nat_eq new.variable variable ≡ b → (if b then Some new.block else None) ≡ Some block → ((new.variable ≡ variable) × (new.block ≡ block)) ⊎ (◌≡◌ {A = Option ℕ} None (Some block))
    by_test true same is = inl (eqb-true _ _ same, same_Some _ _ is)
    by_test false same is = inr is
owned_either new (first ∷ rest) variable block is = by_order (nat_lt new.variable first.variable) is (owned_either new rest variable block)
  where
    by_new : (b : Bool) → nat_eq new.variable variable ≡ b → (if b then Some new.block else block_of (first ∷ rest) variable) ≡ Some block → ((new.variable ≡ variable) × (new.block ≡ block)) ⊎ (block_of (first ∷ rest) variable ≡ Some block)
    by_new true same is = inl (eqb-true _ _ same, same_Some _ _ is)
    by_new false same is = inr is

    by_first : (b : Bool) → (if b then Some first.block else block_of (put_owned new rest) variable) ≡ Some block →
        (block_of (put_owned new rest) variable ≡ Some block → ((new.variable ≡ variable) × (new.block ≡ block)) ⊎ (block_of rest variable ≡ Some block)) →
        ((new.variable ≡ variable) × (new.block ≡ block)) ⊎ ((if b then Some first.block else block_of rest variable) ≡ Some block)
    by_first true is later = inr is
    by_first false is later = later is

    by_order : (b : Bool) → block_of (if b then new ∷ first ∷ rest else first ∷ put_owned new rest) variable ≡ Some block →
        (block_of (put_owned new rest) variable ≡ Some block → ((new.variable ≡ variable) × (new.block ≡ block)) ⊎ (block_of rest variable ≡ Some block)) →
        ((new.variable ≡ variable) × (new.block ≡ block)) ⊎ (block_of (first ∷ rest) variable ≡ Some block)
    by_order true is later = by_new (nat_eq new.variable variable) refl is
    by_order false is later = by_first (nat_eq first.variable variable) is later

-- so it is still where one has a block behind all others
own_next : (number count : ℕ) (statics : List Owned) → are_below count statics ≡ true → HaveOwn statics → HaveOwn (put_owned (record { variable = number; block = count }) statics)
own_next number count statics below own one other block is is' =
    by_both (owned_either (record { variable = number; block = count }) statics one block is) (owned_either (record { variable = number; block = count }) statics other block is')
  where
    by_both : ((number ≡ one) × (count ≡ block)) ⊎ (block_of statics one ≡ Some block) → ((number ≡ other) × (count ≡ block)) ⊎ (block_of statics other ≡ Some block) → one ≡ other
    by_both (inl (same, new)) (inl (same', new')) = sym same ∙ same'
    by_both (inl (same, new)) (inr old) = let less : block < count = owned_below count statics other block below old in absurd (omega (arith, new))
    by_both (inr old) (inl (same, new)) = let less : block < count = owned_below count statics one block below old in absurd (omega (arith, new))
    by_both (inr old) (inr old') = own one other block old old'

abbrev pub HasOwn : State → Type 0
HasOwn state = HaveOwn state.statics

pub statics_own : (number : ℕ) (variables : List Variable) (state : State) (choices : List Choice) → HasBelow state → HasOwn state → Leaves (with_statics number variables state choices) HasOwn
statics_own number [] state choices below own = own
statics_own number (variable ∷ rest) state choices below own = by_kind variable.fixed (statics_own (number + 1) rest)
  where
    by_kind : (fixed : Bool) → ((state : State) (choices : List Choice) → HasBelow state → HasOwn state → Leaves (with_statics (number + 1) rest state choices) HasOwn) →
        Leaves (if fixed
        then with_new_block storage.Static variable.size true state choices (λ after block more. with_statics (number + 1) rest
        (record after { statics = put_owned (record { variable = number; block = block }) after.statics }) more)
        else with_statics (number + 1) rest state choices) HasOwn
    by_kind true more = Leaves-new_block storage.Static variable.size true state choices
        (λ after block more. with_statics (number + 1) rest
        (record after { statics = put_owned (record { variable = number; block = block }) after.statics }) more) HasOwn
        (λ block choices.
        more (record state { memory = placed state.memory block; statics = put_owned (record { variable = number; block = length state.memory }) state.statics }) choices
        (below_next number state block below) (own_next number (length state.memory) state.statics below own))
    by_kind false more = more state choices below own

pub nothing_own : HaveOwn []
nothing_own one other block is is' = absurd (none-some block is)

-- The pieces of the scalars that stand so far.

abbrev at_of : Mark → ℕ
at_of Unwritten = 0
at_of Zeroed = 0
at_of (Piece at size) = at

abbrev size_of : Mark → ℕ
size_of Unwritten = 0
size_of Zeroed = 0
size_of (Piece at size) = size

abbrev is_piece : Mark → Bool
is_piece Unwritten = false
is_piece Zeroed = false
is_piece (Piece at size) = true

-- a scalar's piece, with which none of the rest overlaps in part
record IsFrom (statics : List Owned) (rest : List Initial) (block place at size : ℕ) : Type 0 where
  scalar : Initial
  owned : block_of statics scalar.variable ≡ Some block
  at_is : scalar.at ≡ at
  size_is : scalar.size ≡ size
  within : is_in_range at size place ≡ true
  apart : All (AreApart scalar) rest

abbrev ArePieces : List Owned → List Initial → (ℕ → ℕ → Mark) → Type 0
ArePieces statics rest marks = (block place at size : ℕ) → marks block place ≡ Piece at size → IsFrom statics rest block place at size

later_from : (statics : List Owned) (first : Initial) (rest : List Initial) (block place at size : ℕ) → IsFrom statics (first ∷ rest) block place at size → IsFrom statics rest block place at size
later_from statics first rest block place at size from =
    record { scalar = from.scalar; owned = from.owned; at_is = from.at_is; size_is = from.size_is; within = from.within; apart = All-tail (AreApart from.scalar) first rest from.apart }

cut_first : (statics : List Owned) (first : Initial) (rest : List Initial) (marks : ℕ → ℕ → Mark) → HaveOwn statics → ArePieces statics (first ∷ rest) marks → (block : ℕ) → block_of statics first.variable ≡ Some block →
    CutNone (marks block) first.at first.size
cut_first statics first rest marks own pieces block owned place at size inside piece =
    by_apart ((All-head (AreApart from.scalar) first rest from.apart).apart (own from.scalar.variable first.variable block from.owned owned))
  where
    from : IsFrom statics (first ∷ rest) block place at size
    from = pieces block place at size piece

    low : at ≤ place
    low = range_low at size place from.within

    high : place < at + size
    high = range_high at size place from.within

    low' : first.at ≤ place
    low' = range_low first.at first.size place inside

    high' : place < first.at + first.size
    high' = range_high first.at first.size place inside

    by_apart : ((from.scalar.at ≡ first.at) × (from.scalar.size ≡ first.size)) ⊎ ((from.scalar.at + from.scalar.size ≤ first.at) ⊎ (first.at + first.size ≤ from.scalar.at)) → (first.at ≤ at) × (at + size ≤ first.at + first.size)
    by_apart (inl (same, same')) = let a : from.scalar.at ≡ at = from.at_is in let s : from.scalar.size ≡ size = from.size_is in (omega (arith, same, a), omega (arith, same, same', a, s))
    by_apart (inr (inl before)) = let a : from.scalar.at ≡ at = from.at_is in let s : from.scalar.size ≡ size = from.size_is in let h = high in let l = low' in absurd (omega (arith, a, s, h, l))
    by_apart (inr (inr behind)) = let a : from.scalar.at ≡ at = from.at_is in let l = low in let h = high' in absurd (omega (arith, a, h, l))

next_pieces : (statics : List Owned) (first : Initial) (rest : List Initial) (marks : ℕ → ℕ → Mark) → All (AreApart first) rest → ArePieces statics (first ∷ rest) marks → ArePieces statics rest (with_initial_mark statics first marks)
next_pieces statics first rest marks apart pieces block place at size = by_block (block_of statics first.variable) refl
  where
    by_zeros : (number : ℕ) → block_of statics first.variable ≡ Some number → block ≡ number → is_in_range first.at first.size place ≡ true → (zeros : Bool) → written_mark zeros first.size first.at place ≡ Piece at size → IsFrom statics rest block place at size
    by_zeros number is same inside true piece = absurd (false≢true (ap is_piece piece))
    by_zeros number is same inside false piece =
        let at_is : first.at ≡ at = ap at_of piece in
        let size_is : first.size ≡ size = ap size_of piece in
        record {
          scalar = first;
          owned = is ∙ ap Some (sym same);
          at_is = at_is;
          size_is = size_is;
          within = subst (λ (n : ℕ). is_in_range at n place ≡ true) size_is (subst (λ (n : ℕ). is_in_range n first.size place ≡ true) at_is inside);
          apart = apart;
        }

    by_place : (number : ℕ) → block_of statics first.variable ≡ Some number → (here inside : Bool) → nat_eq block number ≡ here → is_in_range first.at first.size place ≡ inside →
        (if here && inside then written_mark (is_zero_in first.size (initial_word statics first.word)) first.size first.at place else marks block place) ≡ Piece at size → IsFrom statics rest block place at size
    by_place number is true true same within piece = by_zeros number is (eqb-true _ _ same) within (is_zero_in first.size (initial_word statics first.word)) piece
    by_place number is true false same out piece = later_from statics first rest block place at size (pieces block place at size piece)
    by_place number is false inside other within piece = later_from statics first rest block place at size (pieces block place at size piece)

    by_block : (found : Option ℕ) → block_of statics first.variable ≡ found →
        option_map_or (λ number. marked_at (To number (pos first.at)) first.size (written_mark (is_zero_in first.size (initial_word statics first.word)) first.size) marks) found marks block place ≡ Piece at size → IsFrom statics rest block place at size
    by_block None is piece = later_from statics first rest block place at size (pieces block place at size piece)
    by_block (Some number) is piece = by_place number is (nat_eq block number) (is_in_range first.at first.size place) refl refl piece

cut_all : (statics : List Owned) (initials : List Initial) (marks : ℕ → ℕ → Mark) → HaveOwn statics → AllPairs AreApart initials → ArePieces statics initials marks → CutNoInitial statics initials marks
cut_all statics [] marks own apart pieces = tt
cut_all statics (first ∷ rest) marks own apart pieces = (
  cut_first statics first rest marks own pieces,
  cut_all statics rest (with_initial_mark statics first marks) own (λ i j d less below. apart (suc i) (suc j) d (omega arith) (omega arith))
      (next_pieces statics first rest marks (λ j d below. apart 0 (suc j) d (omega arith) (omega arith)) pieces),
)

pub cut_none_initial : (statics : List Owned) (initials : List Initial) → HaveOwn statics → AllPairs AreApart initials → CutNoInitial statics initials (static_marks statics)
cut_none_initial statics initials own apart = cut_all statics initials (static_marks statics) own apart (λ block place at size piece. absurd (no_piece (list_any (λ (owned : Owned). nat_eq owned.block block) statics) at size piece))
  where
    no_piece : (b : Bool) (at size : ℕ) → (if b then Zeroed else Unwritten) ≡ Piece at size → ⊥
    no_piece true at size is = false≢true (ap is_piece is)
    no_piece false at size is = false≢true (ap is_piece is)
