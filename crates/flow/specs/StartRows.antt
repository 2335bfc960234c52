-- Worked examples of how runs begin: which blocks a start makes, what they hold, and where it comes to none.
use Rattle.std.specs.Prelude.{◌≡◌, ℕ, true, false, List, [], ◌∷◌, ◌++◌, map, replicate, pos, negsuc}
use Rattle.cbase.specs.declared.abi.Abi.TheVariants.{Lp64}
use Rattle.bytes_core.specs.declared.byte.Byte.{Byte}
use Rattle.bytes_core.specs.declared.byte.Byte.TheVariants.{Num, Part}
use Rattle.bytes_core.specs.declared.word.Word.TheVariants.{Plain, To}
use Rattle.bytes_core.specs.declared.block.BlockKind.TheVariants as storage
use Rattle.bytes_core.specs.declared.block.Block.{Block}
use Rattle.flow.specs.declared.flow_graph.Flow.{Flow}
use Rattle.flow.specs.declared.flow_graph.Initial.{Initial}
use Rattle.flow.specs.declared.flow_graph.InitialWord.TheVariants.{Number, Address}
use Rattle.flow.specs.Holding.{Owned}
use Rattle.choices.specs.declared.choice.Choice.{Choice}
use Rattle.choices.specs.declared.choice.Choice.TheVariants.{None as NoBlock, Block as NewBlock, Input as GivenInput}
use Rattle.flow.specs.Machine.{Went, Waits, Ended}
use Rattle.flow.specs.Runs.{blank, start, with_statics, initial_word, with_initials}

-- a static variable of 16 bytes, main's parameter of 4, and a static variable of 8 bytes. The first holds at the start
-- the address of byte 4 of the later one, and this one 258 in its last four bytes.
abbrev pub initial : List Initial
initial = record { variable = 0; at = 8; size = 8; word = Address 2 (pos 4) } ∷ record { variable = 2; at = 4; size = 4; word = Number 258 } ∷ []

abbrev pub graph : Flow
graph = record {
  points = 5;
  edges = [];
  functions = record { entry = 3; exit = 4; parameters = 1 ∷ [] } ∷ [];
  variables = record { size = 16; fixed = true } ∷ record { size = 4; fixed = false } ∷ record { size = 8; fixed = true } ∷ [];
  initial = initial;
  heads = [];
  main = 0;
  stands = [];
  abi = Lp64;
  strict = false;
}

-- choices of so many bytes that are zero, and of 4 bytes that are not
abbrev pub zeros : ℕ → ℕ → Choice
zeros count base = NewBlock base (replicate count 0)

abbrev pub four : ℕ → Choice
four base = NewBlock base (1 ∷ 2 ∷ 3 ∷ 4 ∷ [])

-- the blocks of the static variables
abbrev pub statics : List Owned
statics = record { variable = 0; block = 0 } ∷ record { variable = 2; block = 1 } ∷ []

abbrev pub block : ℕ → List Byte → Block
block base bytes = record { base = base; kind = storage.Static; live = true; bytes = bytes }

-- once they are made, and once they hold what they hold at the start
abbrev pub made : List Block
made = block 4096 (replicate 16 (Num 0)) ∷ block 8192 (replicate 8 (Num 0)) ∷ []

abbrev pub filled : List Block
filled =
    block 4096 (replicate 8 (Num 0) ++ map (Part 1 (pos 4)) (0 ∷ 1 ∷ 2 ∷ 3 ∷ 4 ∷ 5 ∷ 6 ∷ 7 ∷ []))
    ∷ block 8192 (replicate 4 (Num 0) ++ (Num 2 ∷ Num 1 ∷ Num 0 ∷ Num 0 ∷ []))
    ∷ []

abbrev pub parameter : Block
parameter = record { base = 12288; kind = storage.Local; live = true; bytes = map Num (1 ∷ 2 ∷ 3 ∷ 4 ∷ []) }

pub record AreStarts : Type 0 where
  -- static variables are made in order, zero and each with a choice of its own; others are not
  pub statics_made : with_statics 0 graph.variables (blank 3) (zeros 16 4096 ∷ zeros 8 8192 ∷ GivenInput 7 ∷ [])
      ≡ Went (record (blank 3) { statics = statics; memory = made }) (GivenInput 7 ∷ [])
  pub none_to_make : with_statics 0 (record { size = 4; fixed = false } ∷ []) (blank 3) [] ≡ Went (blank 3) []
  -- an address is that of the later static variable's block, one of a variable without a block is null
  pub number_held : initial_word statics (Number 258) ≡ Plain 258
  pub address_held : initial_word statics (Address 2 (pos 4)) ≡ To 1 (pos 4)
  pub address_before : initial_word statics (Address 0 (negsuc 0)) ≡ To 0 (negsuc 0)
  pub no_address : initial_word statics (Address 1 (pos 4)) ≡ Plain 0
  -- scalars are stored in order, and other bytes stay
  pub initials_held : with_initials statics initial made ≡ filled
  pub later_holds : with_initials statics
      (record { variable = 2; at = 0; size = 2; word = Number 65535 } ∷ record { variable = 2; at = 0; size = 1; word = Number 7 } ∷ []) made
      ≡ block 4096 (replicate 16 (Num 0)) ∷ block 8192 (Num 7 ∷ Num 255 ∷ replicate 6 (Num 0)) ∷ []
  pub no_initial : with_initials statics [] made ≡ made
  -- main's parameter is made last, with any bytes
  pub begins : start graph (zeros 16 4096 ∷ zeros 8 8192 ∷ four 12288 ∷ GivenInput 7 ∷ [])
      ≡ Went (record {
        point = 3;
        frame = record { variables = record { variable = 1; block = 2 } ∷ []; registers = [] };
        callers = [];
        statics = statics;
        memory = filled ++ (parameter ∷ []);
        outer = [];
      }) (GivenInput 7 ∷ [])
  -- a base that is taken
  pub second_over_first : start graph (zeros 16 4096 ∷ zeros 8 4096 ∷ four 12288 ∷ []) ≡ Ended
  pub parameter_over_first : start graph (zeros 16 4096 ∷ zeros 8 8192 ∷ four 4096 ∷ []) ≡ Ended
  pub parameter_over_second : start graph (zeros 16 4096 ∷ zeros 8 8192 ∷ four 8192 ∷ []) ≡ Ended
  -- other choices than those asked for, and too few
  pub not_zero : start graph (NewBlock 4096 (replicate 16 1) ∷ zeros 8 8192 ∷ four 12288 ∷ []) ≡ Ended
  pub second_not_zero : start graph (zeros 16 4096 ∷ NewBlock 8192 (replicate 8 1) ∷ four 12288 ∷ []) ≡ Ended
  pub exchanged : start graph (zeros 8 4096 ∷ zeros 16 8192 ∷ four 12288 ∷ []) ≡ Ended
  pub no_block : start graph (NoBlock ∷ []) ≡ Ended
  pub given : start graph (zeros 16 4096 ∷ GivenInput 0 ∷ []) ≡ Ended
  pub first_waits : start graph [] ≡ Waits
  pub second_waits : start graph (zeros 16 4096 ∷ []) ≡ Waits
  pub parameter_waits : start graph (zeros 16 4096 ∷ zeros 8 8192 ∷ []) ≡ Waits
