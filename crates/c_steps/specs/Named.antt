-- What always holds of a state: each block that it names is one of its memory.
use Rattle.std.specs.Prelude.{ℕ, ◌<◌, List, [], ◌∷◌}
use Rattle.bytes_core.specs.declared.word.Word.{Word}
use Rattle.c_machine.specs.State.{Scope, Frame, blocks_of, objects_of, led_to}

-- every number is less than a count
abbrev pub AreBelow : ℕ → List ℕ → Type 0
AreBelow count [] = Unit {0}
AreBelow count (number ∷ rest) = (number < count) × AreBelow count rest

-- so are the numbers of the blocks of the objects of a function, and of several
abbrev pub IsFrameBelow : ℕ → Frame → Type 0
IsFrameBelow count frame = AreBelow count (blocks_of (objects_of frame))

abbrev pub AreFramesBelow : ℕ → List Frame → Type 0
AreFramesBelow count [] = Unit {0}
AreFramesBelow count (frame ∷ rest) = IsFrameBelow count frame × AreFramesBelow count rest

pub record NamesBlocks (count : ℕ) (operands : List Word) (frame : Frame) (callers : List Frame) (statics : Scope) : Type 0 where
  pub operands_named : AreBelow count (led_to operands)
  pub frame_named : IsFrameBelow count frame
  pub callers_named : AreFramesBelow count callers
  pub statics_named : AreBelow count (blocks_of statics)
