-- Each block that a state names stays one of its memory.
use Rattle.std.proofs.Common.{◌≡◌, ℕ, zero, suc, ◌<◌, List, [], ◌∷◌, ◌++◌, length, drop, take, reverse, Option, None, Some, Bool, true, false, sym, ap, ◌∙◌, subst, ◌≤◌, arith}
use Rattle.std.proofs.lemmas.List.{length-append, reverse-append}
use Rattle.std.specs.Prelude.{if◌then◌else◌, Result, Ok, Err, IfOk, IfSome, OnOk, OnErr}
use Rattle.cbase.specs.declared.no_memory.NoMemory.{NoMemory}
use Rattle.bytes_core.specs.declared.block.Block.{Block}
use Rattle.bytes_core.specs.declared.word.Word.{Word}
use Rattle.bytes_core.specs.declared.word.Word.TheVariants.{Plain, To}
use Rattle.bytes_core.specs.Placement.{placed}
use Rattle.bytes_core.specs.Valid.{WordNamesBelow}
use Rattle.c_machine.specs.declared.variable.Variable.{Variable}
use Rattle.c_machine.specs.State.{Scope, Frame, is_named, block_in, blocks_of, objects_of, led_to}
use Rattle.c_machine.specs.Step.{without_objects}
use Rattle.c_steps.specs.Named.{AreBelow, IsFrameBelow, AreFramesBelow, NamesBlocks}
use Rattle.c_steps.specs.Statics.{or_else}
use Rattle.c_steps.proofs.Lengths.{length_without_objects}
use Rattle.c_steps.proofs.Lookups.{found_behind_others}
use Rattle.c_steps.proofs.Names.{below_scope, below_outer}

-- operands
pub one_more_operand : (count : ℕ) (operand : Word) (operands : List Word) (frame : Frame) (callers : List Frame) (statics : Scope) →
    NamesBlocks count operands frame callers statics → WordNamesBelow count operand → NamesBlocks count (operand ∷ operands) frame callers statics
one_more_operand count (Plain number) operands frame callers statics valid names = record {
  operands_named = valid.operands_named;
  frame_named = valid.frame_named;
  callers_named = valid.callers_named;
  statics_named = valid.statics_named;
}
one_more_operand count (To block offset) operands frame callers statics valid names = record {
  operands_named = (names, valid.operands_named);
  frame_named = valid.frame_named;
  callers_named = valid.callers_named;
  statics_named = valid.statics_named;
}

pub one_operand_less : (count : ℕ) (operand : Word) (operands : List Word) (frame : Frame) (callers : List Frame) (statics : Scope) →
    NamesBlocks count (operand ∷ operands) frame callers statics → NamesBlocks count operands frame callers statics
one_operand_less count (Plain number) operands frame callers statics valid = record {
  operands_named = valid.operands_named;
  frame_named = valid.frame_named;
  callers_named = valid.callers_named;
  statics_named = valid.statics_named;
}
one_operand_less count (To block offset) operands frame callers statics valid = record {
  operands_named = valid.operands_named.1;
  frame_named = valid.frame_named;
  callers_named = valid.callers_named;
  statics_named = valid.statics_named;
}

pub first_operand : (count : ℕ) (operand : Word) (operands : List Word) (frame : Frame) (callers : List Frame) (statics : Scope) →
    NamesBlocks count (operand ∷ operands) frame callers statics → WordNamesBelow count operand
first_operand count (Plain number) operands frame callers statics valid = tt
first_operand count (To block offset) operands frame callers statics valid = valid.operands_named.0

fewer_operands : (count dropped : ℕ) (operands : List Word) → AreBelow count (led_to operands) → AreBelow count (led_to (drop dropped operands))
fewer_operands count zero operands named = named
fewer_operands count (suc dropped) [] named = tt
fewer_operands count (suc dropped) (Plain number ∷ operands) named = fewer_operands count dropped operands named
fewer_operands count (suc dropped) (To block offset ∷ operands) named = fewer_operands count dropped operands named.1

pub oldest_operands : (count dropped : ℕ) (operands : List Word) (frame : Frame) (callers : List Frame) (statics : Scope) →
    NamesBlocks count operands frame callers statics → NamesBlocks count (drop dropped operands) frame callers statics
oldest_operands count dropped operands frame callers statics valid = record {
  operands_named = fewer_operands count dropped operands valid.operands_named;
  frame_named = valid.frame_named;
  callers_named = valid.callers_named;
  statics_named = valid.statics_named;
}

-- a memory with as many blocks
pub same_count : (count other : ℕ) (operands : List Word) (frame : Frame) (callers : List Frame) (statics : Scope) →
    other ≡ count → NamesBlocks count operands frame callers statics → NamesBlocks other operands frame callers statics
same_count count other operands frame callers statics same valid =
    subst (λ (n : ℕ). NamesBlocks n operands frame callers statics) (sym same) valid

-- what is done with the memory keeps how many blocks there are, where it succeeds and where it does not
pub kept_by : (done : Result (Unit {0}) ℕ) (old made new : List Block) (operands : List Word) (frame : Frame) (callers : List Frame) (statics : Scope) →
    OnOk done (new ≡ made) → OnErr done (new ≡ old) → length made ≡ length old → NamesBlocks (length old) operands frame callers statics →
    NamesBlocks (length new) operands frame callers statics
kept_by (Ok value) old made new operands frame callers statics done failed same valid =
    same_count _ _ operands frame callers statics (ap length done ∙ same) valid
kept_by (Err kind) old made new operands frame callers statics done failed same valid =
    same_count _ _ operands frame callers statics (ap length failed) valid

pub kept_by_copy : (result : Result (Result (Unit {0}) ℕ) NoMemory) (old made new : List Block) (operands : List Word) (frame : Frame) (callers : List Frame) (statics : Scope) →
    IfOk result (λ copy. OnOk copy (new ≡ made)) → IfOk result (λ copy. OnErr copy (new ≡ old)) → OnErr result (new ≡ old) → length made ≡ length old →
    NamesBlocks (length old) operands frame callers statics → NamesBlocks (length new) operands frame callers statics
kept_by_copy (Ok copy) old made new operands frame callers statics done failed wanting same valid =
    kept_by copy old made new operands frame callers statics done failed same valid
kept_by_copy (Err error) old made new operands frame callers statics done failed wanting same valid =
    same_count _ _ operands frame callers statics (ap length wanting) valid

-- objects
pub after_frame : (count : ℕ) (operands : List Word) (frame next : Frame) (callers : List Frame) (statics : Scope) →
    NamesBlocks count operands frame callers statics → IsFrameBelow count next → NamesBlocks count operands next callers statics
after_frame count operands frame next callers statics valid named = record {
  operands_named = valid.operands_named;
  frame_named = named;
  callers_named = valid.callers_named;
  statics_named = valid.statics_named;
}

pub one_more_static : (count : ℕ) (operands : List Word) (frame : Frame) (callers : List Frame) (statics : Scope) (variable : Variable) →
    NamesBlocks count operands frame callers statics → variable.block < count → NamesBlocks count operands frame callers (statics ++ variable ∷ [])
one_more_static count operands frame callers statics variable valid below = record {
  operands_named = valid.operands_named;
  frame_named = valid.frame_named;
  callers_named = valid.callers_named;
  statics_named = below_scope count statics variable valid.statics_named below;
}

-- look-ups
pub own_block : (objects statics : Scope) (token block : ℕ) → block_in objects token ≡ Some block → block_in (objects ++ statics) token ≡ Some block
own_block objects statics token block is =
    found_behind_others objects statics token ∙ ap (λ (found : Option ℕ). or_else found (block_in statics token)) is

pub lasting_block : (objects statics : Scope) (token : ℕ) → block_in objects token ≡ None → block_in (objects ++ statics) token ≡ block_in statics token
lasting_block objects statics token is =
    found_behind_others objects statics token ∙ ap (λ (found : Option ℕ). or_else found (block_in statics token)) is

found_below : (count : ℕ) (scope : Scope) (token block : ℕ) → AreBelow count (blocks_of scope) → block_in scope token ≡ Some block → block < count
found_below count [] token block named is = absurd cc
found_below count (variable ∷ rest) token block named is = by_name count variable rest token block (is_named variable.token token) named is (found_below count rest token block)
  where
    by_name : (count : ℕ) (variable : Variable) (rest : Scope) (token block : ℕ) (found : Bool) → AreBelow count (blocks_of (variable ∷ rest)) →
        (if found then Some variable.block else block_in rest token) ≡ Some block → (AreBelow count (blocks_of rest) → block_in rest token ≡ Some block → block < count) → block < count
    by_name count variable rest token block true named is later = let same : variable.block ≡ block = cc in subst (λ (n : ℕ). n < count) same named.0
    by_name count variable rest token block false named is later = later named.1 is

pub below_own : (count : ℕ) (operands : List Word) (frame : Frame) (callers : List Frame) (statics : Scope) (token block : ℕ) →
    NamesBlocks count operands frame callers statics → block_in (objects_of frame) token ≡ Some block → block < count
below_own count operands frame callers statics token block valid is = found_below count (objects_of frame) token block valid.frame_named is

below_lasting : (count : ℕ) (operands : List Word) (frame : Frame) (callers : List Frame) (statics : Scope) (token block : ℕ) →
    NamesBlocks count operands frame callers statics → block_in statics token ≡ Some block → block < count
below_lasting count operands frame callers statics token block valid is = found_below count statics token block valid.statics_named is

pub lasting_below : (count : ℕ) (operands : List Word) (frame : Frame) (callers : List Frame) (statics : Scope) (token : ℕ) (found : Option ℕ) →
    NamesBlocks count operands frame callers statics → found ≡ block_in statics token → IfSome found (λ block. block < count)
lasting_below count operands frame callers statics token None valid is = tt
lasting_below count operands frame callers statics token (Some block) valid is = below_lasting count operands frame callers statics token block valid (sym is)

-- one more block
below_longer : (count other : ℕ) (blocks : List ℕ) → count ≤ other → AreBelow count blocks → AreBelow other blocks
below_longer count other [] longer named = tt
below_longer count other (block ∷ rest) longer named = (let first : block < count = named.0 in omega arith, below_longer count other rest longer named.1)

frames_longer : (count other : ℕ) (frames : List Frame) → count ≤ other → AreFramesBelow count frames → AreFramesBelow other frames
frames_longer count other [] longer named = tt
frames_longer count other (frame ∷ rest) longer named =
    (below_longer count other (blocks_of (objects_of frame)) longer named.0, frames_longer count other rest longer named.1)

longer_count : (count other : ℕ) (operands : List Word) (frame : Frame) (callers : List Frame) (statics : Scope) →
    count ≤ other → NamesBlocks count operands frame callers statics → NamesBlocks other operands frame callers statics
longer_count count other operands frame callers statics longer valid = record {
  operands_named = below_longer count other (led_to operands) longer valid.operands_named;
  frame_named = below_longer count other (blocks_of (objects_of frame)) longer valid.frame_named;
  callers_named = frames_longer count other callers longer valid.callers_named;
  statics_named = below_longer count other (blocks_of statics) longer valid.statics_named;
}

pub one_more_block : (memory : List Block) (block : Block) (operands : List Word) (frame : Frame) (callers : List Frame) (statics : Scope) →
    NamesBlocks (length memory) operands frame callers statics → NamesBlocks (length (placed memory block)) operands frame callers statics
one_more_block memory block operands frame callers statics valid =
    longer_count (length memory) (length (placed memory block)) operands frame callers statics (omega (arith, length-append memory (block ∷ []))) valid

-- a memory that is known by what made it
pub known_memory : (memory made : List Block) (operands : List Word) (frame : Frame) (callers : List Frame) (statics : Scope) →
    memory ≡ made → NamesBlocks (length made) operands frame callers statics → NamesBlocks (length memory) operands frame callers statics
known_memory memory made operands frame callers statics is valid = same_count _ _ operands frame callers statics (ap length is) valid

-- a block or a function is left, or a caller goes on
pub after_block : (memory : List Block) (scope : Scope) (operands : List Word) (frame : Frame) (callers : List Frame) (statics : Scope) →
    NamesBlocks (length memory) operands (scope ∷ frame) callers statics → NamesBlocks (length (without_objects (blocks_of scope) memory)) operands frame callers statics
after_block memory scope operands frame callers statics valid =
    same_count _ _ operands frame callers statics (length_without_objects (blocks_of scope) memory)
    (after_frame (length memory) operands (scope ∷ frame) frame callers statics valid (below_outer (length memory) scope frame valid.frame_named))

pub after_function : (memory : List Block) (blocks : List ℕ) (operands : List Word) (frame : Frame) (callers : List Frame) (statics : Scope) →
    NamesBlocks (length memory) operands frame callers statics → NamesBlocks (length (without_objects blocks memory)) operands [] callers statics
after_function memory blocks operands frame callers statics valid =
    same_count _ _ operands [] callers statics (length_without_objects blocks memory) (after_frame (length memory) operands frame [] callers statics valid tt)

pub after_return : (count : ℕ) (operands : List Word) (frame next : Frame) (callers : List Frame) (statics : Scope) →
    NamesBlocks count operands frame (next ∷ callers) statics → NamesBlocks count operands next callers statics
after_return count operands frame next callers statics valid = record {
  operands_named = valid.operands_named;
  frame_named = valid.callers_named.0;
  callers_named = valid.callers_named.1;
  statics_named = valid.statics_named;
}

-- operands that are turned round
named_words : (count : ℕ) (one other : List Word) → AreBelow count (led_to one) → AreBelow count (led_to other) → AreBelow count (led_to (one ++ other))
named_words count [] other first second = second
named_words count (Plain number ∷ one) other first second = named_words count one other first second
named_words count (To block offset ∷ one) other first second = (first.0, named_words count one other first.1 second)

first_operands : (count taken : ℕ) (operands : List Word) → AreBelow count (led_to operands) → AreBelow count (led_to (take taken operands))
first_operands count zero operands named = tt
first_operands count (suc taken) [] named = tt
first_operands count (suc taken) (Plain number ∷ operands) named = first_operands count taken operands named
first_operands count (suc taken) (To block offset ∷ operands) named = (named.0, first_operands count taken operands named.1)

reversed_operands : (count : ℕ) (operands : List Word) → AreBelow count (led_to operands) → AreBelow count (led_to (reverse operands))
reversed_operands count [] named = tt
reversed_operands count (Plain number ∷ operands) named =
    subst (λ (all : List Word). AreBelow count (led_to all)) (sym (reverse-append (Plain number ∷ []) operands))
    (named_words count (reverse operands) (Plain number ∷ []) (reversed_operands count operands named) tt)
reversed_operands count (To block offset ∷ operands) named =
    subst (λ (all : List Word). AreBelow count (led_to all)) (sym (reverse-append (To block offset ∷ []) operands))
    (named_words count (reverse operands) (To block offset ∷ []) (reversed_operands count operands named.1) (named.0, tt))

pub after_call : (count arguments : ℕ) (operands : List Word) (frame : Frame) (callers : List Frame) (statics : Scope) →
    NamesBlocks count operands frame callers statics → NamesBlocks count (reverse (take arguments operands) ++ drop arguments operands) [] (frame ∷ callers) statics
after_call count arguments operands frame callers statics valid = record {
  operands_named = named_words count (reverse (take arguments operands)) (drop arguments operands)
      (reversed_operands count (take arguments operands) (first_operands count arguments operands valid.operands_named))
      (fewer_operands count arguments operands valid.operands_named);
  frame_named = tt;
  callers_named = (valid.frame_named, valid.callers_named);
  statics_named = valid.statics_named;
}
