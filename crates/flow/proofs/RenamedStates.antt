-- Frames whose blocks have other numbers.
use Rattle.std.proofs.Common.{◌≡◌, ℕ, List, [], ◌∷◌, ◌++◌, map, Bool, true, false, refl, sym, ap, ◌∙◌, Option, None, Some}
use Rattle.std.specs.Prelude.{not, if◌then◌else◌, nat_eq, nat_lt}
use Rattle.std.specs.List.{list_any}
use Rattle.std.specs.Option.{option_map}
use Rattle.std.proofs.lemmas.List.{map-append}
use Rattle.bytes_core.specs.declared.word.Word.{Word}
use Rattle.bytes_core.specs.declared.word.Word.TheVariants.{Plain, To}
use Rattle.bytes_core.specs.declared.block.Block.{Block}
use Rattle.flow.specs.Holding.{Held, Owned, held_by, put, emptied, block_of, put_owned, left}
use Rattle.flow.specs.Machine.{Frame, Caller, State, with_block_of, blocks_of, frame_roots, caller_roots, roots, or_else, block_here, result_of, with_result}
use Rattle.flow.specs.Renaming.{renamed_word}
use Rattle.flow.specs.RenamedSteps.{renamed_held, renamed_owned, renamed_frame, renamed_caller, renamed_state}

module _ (renames : ℕ → ℕ) where
  abbrev helds : List Held → List Held
  helds registers = map (renamed_held renames) registers

  abbrev owneds : List Owned → List Owned
  owneds variables = map (renamed_owned renames) variables

  pub held_by-renamed : (registers : List Held) (register : ℕ) → held_by (map (renamed_held renames) registers) register ≡ option_map (renamed_held renames) (held_by registers register)
  held_by-renamed [] register = refl
  held_by-renamed (first ∷ rest) register = by_test (nat_eq first.register register) (held_by-renamed rest register)
    where
      by_test : (here : Bool) → held_by (map (renamed_held renames) rest) register ≡ option_map (renamed_held renames) (held_by rest register) →
          (if here then Some (renamed_held renames first) else held_by (map (renamed_held renames) rest) register)
          ≡ option_map (renamed_held renames) (if here then Some first else held_by rest register)
      by_test true is = refl
      by_test false is = is

  pub put-renamed : (new : Held) (registers : List Held) → put (renamed_held renames new) (map (renamed_held renames) registers) ≡ map (renamed_held renames) (put new registers)
  put-renamed new [] = refl
  put-renamed new (first ∷ rest) = by_order (nat_lt new.register first.register) (nat_eq first.register new.register) (put-renamed new rest)
    where
      by_order : (less same : Bool) → put (renamed_held renames new) (map (renamed_held renames) rest) ≡ map (renamed_held renames) (put new rest) →
          (if less then renamed_held renames new ∷ renamed_held renames first ∷ map (renamed_held renames) rest
          else (if same then renamed_held renames new ∷ map (renamed_held renames) rest else renamed_held renames first ∷ put (renamed_held renames new) (map (renamed_held renames) rest)))
          ≡ map (renamed_held renames) (if less then new ∷ first ∷ rest else (if same then new ∷ rest else first ∷ put new rest))
      by_order true same is = refl
      by_order false true is = refl
      by_order false false is = ap (λ (more : List Held). renamed_held renames first ∷ more) is

  pub emptied-renamed : (gone : List ℕ) (registers : List Held) → emptied gone (map (renamed_held renames) registers) ≡ map (renamed_held renames) (emptied gone registers)
  emptied-renamed gone [] = refl
  emptied-renamed gone (first ∷ rest) = by_test (not (list_any (nat_eq first.register) gone)) (emptied-renamed gone rest)
    where
      by_test : (stays : Bool) → emptied gone (map (renamed_held renames) rest) ≡ map (renamed_held renames) (emptied gone rest) →
          (if stays then renamed_held renames first ∷ emptied gone (map (renamed_held renames) rest) else emptied gone (map (renamed_held renames) rest))
          ≡ map (renamed_held renames) (if stays then first ∷ emptied gone rest else emptied gone rest)
      by_test true is = ap (λ (more : List Held). renamed_held renames first ∷ more) is
      by_test false is = is

  pub put_emptied-renamed : (new new' : Held) (gone : List ℕ) (registers : List Held) → new' ≡ renamed_held renames new →
      put new' (emptied gone (map (renamed_held renames) registers)) ≡ map (renamed_held renames) (put new (emptied gone registers))
  put_emptied-renamed new new' gone registers is =
      ap (λ (new : Held). put new (emptied gone (map (renamed_held renames) registers))) is
      ∙ (ap (put (renamed_held renames new)) (emptied-renamed gone registers) ∙ put-renamed new (emptied gone registers))

  pub block_of-renamed : (owned : List Owned) (variable : ℕ) → block_of (map (renamed_owned renames) owned) variable ≡ option_map renames (block_of owned variable)
  block_of-renamed [] variable = refl
  block_of-renamed (first ∷ rest) variable = by_test (nat_eq first.variable variable) (block_of-renamed rest variable)
    where
      by_test : (here : Bool) → block_of (map (renamed_owned renames) rest) variable ≡ option_map renames (block_of rest variable) →
          (if here then Some (renames first.block) else block_of (map (renamed_owned renames) rest) variable)
          ≡ option_map renames (if here then Some first.block else block_of rest variable)
      by_test true is = refl
      by_test false is = is

  pub put_owned-renamed : (new : Owned) (owned : List Owned) → put_owned (renamed_owned renames new) (map (renamed_owned renames) owned) ≡ map (renamed_owned renames) (put_owned new owned)
  put_owned-renamed new [] = refl
  put_owned-renamed new (first ∷ rest) = by_order (nat_lt new.variable first.variable) (put_owned-renamed new rest)
    where
      by_order : (less : Bool) → put_owned (renamed_owned renames new) (map (renamed_owned renames) rest) ≡ map (renamed_owned renames) (put_owned new rest) →
          (if less then renamed_owned renames new ∷ renamed_owned renames first ∷ map (renamed_owned renames) rest
          else renamed_owned renames first ∷ put_owned (renamed_owned renames new) (map (renamed_owned renames) rest))
          ≡ map (renamed_owned renames) (if less then new ∷ first ∷ rest else first ∷ put_owned new rest)
      by_order true is = refl
      by_order false is = ap (λ (more : List Owned). renamed_owned renames first ∷ more) is

  pub left-renamed : (gone : List ℕ) (owned : List Owned) → left gone (map (renamed_owned renames) owned) ≡ map (renamed_owned renames) (left gone owned)
  left-renamed gone [] = refl
  left-renamed gone (first ∷ rest) = by_test (not (list_any (nat_eq first.variable) gone)) (left-renamed gone rest)
    where
      by_test : (stays : Bool) → left gone (map (renamed_owned renames) rest) ≡ map (renamed_owned renames) (left gone rest) →
          (if stays then renamed_owned renames first ∷ left gone (map (renamed_owned renames) rest) else left gone (map (renamed_owned renames) rest))
          ≡ map (renamed_owned renames) (if stays then first ∷ left gone rest else left gone rest)
      by_test true is = ap (λ (more : List Owned). renamed_owned renames first ∷ more) is
      by_test false is = is

  -- roots
  blocks_of-renamed : (registers : List Held) → blocks_of (map (renamed_held renames) registers) ≡ map renames (blocks_of registers)
  blocks_of-renamed [] = refl
  blocks_of-renamed (first ∷ rest) = by_word first.word (blocks_of-renamed rest)
    where
      by_word : (word : Word) → blocks_of (map (renamed_held renames) rest) ≡ map renames (blocks_of rest) →
          with_block_of (renamed_word renames word) (blocks_of (map (renamed_held renames) rest)) ≡ map renames (with_block_of word (blocks_of rest))
      by_word (Plain number) is = is
      by_word (To block offset) is = ap (λ (more : List ℕ). renames block ∷ more) is

  owned_blocks : (owned : List Owned) → map (λ one. one.block) (map (renamed_owned renames) owned) ≡ map renames (map (λ one. one.block) owned)
  owned_blocks [] = refl
  owned_blocks (first ∷ rest) = ap (λ (more : List ℕ). renames first.block ∷ more) (owned_blocks rest)

  frame_roots-renamed : (frame : Frame) → frame_roots (renamed_frame renames frame) ≡ map renames (frame_roots frame)
  frame_roots-renamed frame =
      ap (λ (front : List ℕ). front ++ blocks_of (map (renamed_held renames) frame.registers)) (owned_blocks frame.variables)
      ∙ (ap (λ (back : List ℕ). map renames (map (λ one. one.block) frame.variables) ++ back) (blocks_of-renamed frame.registers)
      ∙ sym (map-append renames (map (λ one. one.block) frame.variables) (blocks_of frame.registers)))

  caller_roots-renamed : (callers : List Caller) → caller_roots (map (renamed_caller renames) callers) ≡ map renames (caller_roots callers)
  caller_roots-renamed [] = refl
  caller_roots-renamed (first ∷ rest) =
      ap (λ (front : List ℕ). front ++ caller_roots (map (renamed_caller renames) rest)) (frame_roots-renamed first.frame)
      ∙ (ap (λ (back : List ℕ). map renames (frame_roots first.frame) ++ back) (caller_roots-renamed rest)
      ∙ sym (map-append renames (frame_roots first.frame) (caller_roots rest)))

  pub roots-renamed : (memory : List Block) (state : State) → roots (renamed_state renames memory state) ≡ map renames (roots state)
  roots-renamed memory state =
      let blocks : List ℕ = map (λ owned. owned.block) state.statics in
      ap (λ (front : List ℕ). front ++ (frame_roots (renamed_frame renames state.frame) ++ (caller_roots (map (renamed_caller renames) state.callers) ++ map renames state.outer))) (owned_blocks state.statics)
      ∙ (ap (λ (front : List ℕ). map renames blocks ++ (front ++ (caller_roots (map (renamed_caller renames) state.callers) ++ map renames state.outer))) (frame_roots-renamed state.frame)
      ∙ (ap (λ (front : List ℕ). map renames blocks ++ (map renames (frame_roots state.frame) ++ (front ++ map renames state.outer))) (caller_roots-renamed state.callers)
      ∙ (ap (λ (back : List ℕ). map renames blocks ++ (map renames (frame_roots state.frame) ++ back)) (sym (map-append renames (caller_roots state.callers) state.outer))
      ∙ (ap (λ (back : List ℕ). map renames blocks ++ back) (sym (map-append renames (frame_roots state.frame) (caller_roots state.callers ++ state.outer)))
      ∙ sym (map-append renames blocks (frame_roots state.frame ++ (caller_roots state.callers ++ state.outer)))))))

  -- the block of a variable, and a result
  pub block_here-renamed : (memory : List Block) (state : State) (variable : ℕ) → block_here (renamed_state renames memory state) variable ≡ option_map renames (block_here state variable)
  block_here-renamed memory state variable =
      ap (λ (found : Option ℕ). or_else found (block_of (map (renamed_owned renames) state.statics) variable)) (block_of-renamed state.frame.variables variable)
      ∙ (ap (or_else (option_map renames (block_of state.frame.variables variable))) (block_of-renamed state.statics variable)
      ∙ by_block (block_of state.frame.variables variable) (block_of state.statics variable))
    where
      by_block : (one other : Option ℕ) → or_else (option_map renames one) (option_map renames other) ≡ option_map renames (or_else one other)
      by_block None other = refl
      by_block (Some block) other = refl

  pub result_of-renamed : (from : Option ℕ) (registers : List Held) → result_of from (map (renamed_held renames) registers) ≡ option_map (renamed_held renames) (result_of from registers)
  result_of-renamed None registers = refl
  result_of-renamed (Some from) registers = held_by-renamed registers from

  pub with_result-renamed : (result : Option Held) (into : Option ℕ) (frame : Frame) →
      with_result (option_map (renamed_held renames) result) into (renamed_frame renames frame) ≡ renamed_frame renames (with_result result into frame)
  with_result-renamed (Some held) (Some into) frame =
      ap (λ (registers : List Held). record (renamed_frame renames frame) { registers = registers })
      (put-renamed (record { register = into; size = held.size; word = held.word }) frame.registers)
  with_result-renamed (Some held) None frame = refl
  with_result-renamed None into frame = refl
