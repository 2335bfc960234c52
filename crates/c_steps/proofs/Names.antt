-- What keeps the blocks that a state names blocks of its memory.
use Rattle.std.proofs.Common.{◌≡◌, ℕ, ◌<◌, List, [], ◌∷◌, ◌++◌, refl, sym, ap, ◌∙◌, subst}
use Rattle.std.specs.Prelude.{slice_get}
use Rattle.bytes_core.specs.declared.block.Block.{Block}
use Rattle.bytes_core.specs.Release.{without}
use Rattle.c_machine.specs.declared.variable.Variable.{Variable}
use Rattle.c_machine.specs.State.{Scope, Frame, blocks_of, objects_of}
use Rattle.c_machine.specs.Step.{without_objects}
use Rattle.c_steps.specs.Named.{AreBelow, IsFrameBelow}

-- the blocks of objects behind others
pub blocks_of-append : (one other : Scope) → blocks_of (one ++ other) ≡ blocks_of one ++ blocks_of other
blocks_of-append [] other = refl
blocks_of-append (variable ∷ one) other = ap (λ (blocks : List ℕ). variable.block ∷ blocks) (blocks_of-append one other)

pub below_both : (count : ℕ) (one other : List ℕ) → AreBelow count one → AreBelow count other → AreBelow count (one ++ other)
below_both count [] other first second = second
below_both count (number ∷ one) other first second = (first.0, below_both count one other first.1 second)

pub below_back : (count : ℕ) (one other : List ℕ) → AreBelow count (one ++ other) → AreBelow count other
below_back count [] other both = both
below_back count (number ∷ one) other both = below_back count one other both.1

pub below_front : (count : ℕ) (one other : List ℕ) → AreBelow count (one ++ other) → AreBelow count one
below_front count [] other both = tt
below_front count (number ∷ one) other both = (both.0, below_front count one other both.1)

-- without the innermost block
pub below_outer : (count : ℕ) (scope : Scope) (frame : Frame) → IsFrameBelow count (scope ∷ frame) → IsFrameBelow count frame
below_outer count scope frame named =
    below_back count (blocks_of scope) (blocks_of (objects_of frame)) (subst (AreBelow count) (blocks_of-append scope (objects_of frame)) named)

pub below_inner : (count : ℕ) (scope : Scope) (frame : Frame) → IsFrameBelow count (scope ∷ frame) → AreBelow count (blocks_of scope)
below_inner count scope frame named =
    below_front count (blocks_of scope) (blocks_of (objects_of frame)) (subst (AreBelow count) (blocks_of-append scope (objects_of frame)) named)

below_frame : (count : ℕ) (scope : Scope) (frame : Frame) → AreBelow count (blocks_of scope) → IsFrameBelow count frame → IsFrameBelow count (scope ∷ frame)
below_frame count scope frame first second =
    subst (AreBelow count) (sym (blocks_of-append scope (objects_of frame))) (below_both count (blocks_of scope) (blocks_of (objects_of frame)) first second)

-- with one more object
pub below_scope : (count : ℕ) (scope : Scope) (variable : Variable) → AreBelow count (blocks_of scope) → variable.block < count → AreBelow count (blocks_of (scope ++ variable ∷ []))
below_scope count scope variable named below =
    subst (AreBelow count) (sym (blocks_of-append scope (variable ∷ []))) (below_both count (blocks_of scope) (variable.block ∷ []) named (below, tt))

pub below_more : (count : ℕ) (scope : Scope) (frame : Frame) (variable : Variable) → IsFrameBelow count (scope ∷ frame) → variable.block < count →
    IsFrameBelow count ((scope ++ variable ∷ []) ∷ frame)
below_more count scope frame variable named below =
    below_frame count (scope ++ variable ∷ []) frame (below_scope count scope variable (below_inner count scope frame named) below) (below_outer count scope frame named)

-- objects die one behind the other
without-append : (one other : List ℕ) (memory : List Block) → without_objects (one ++ other) memory ≡ without_objects other (without_objects one memory)
without-append [] other memory = refl
without-append (block ∷ one) other memory = without-append one other (without memory block (slice_get memory block))

pub ended_apart : (scope : Scope) (frame : Frame) (memory : List Block) →
    without_objects (blocks_of (objects_of frame)) (without_objects (blocks_of scope) memory) ≡ without_objects (blocks_of (objects_of (scope ∷ frame))) memory
ended_apart scope frame memory =
    sym (without-append (blocks_of scope) (blocks_of (objects_of frame)) memory)
    ∙ ap (λ (blocks : List ℕ). without_objects blocks memory) (sym (blocks_of-append scope (objects_of frame)))
