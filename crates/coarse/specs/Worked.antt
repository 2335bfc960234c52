-- Constants that are beyond a limit and some that are not, as they were worked out by hand, and a graph in which some are forgotten.
use Rattle.std.specs.Prelude.{◌≡◌, ◌^◌, ◌-◌, true, false, [], ◌∷◌, pos}
use Rattle.bytes_core.specs.declared.block.BlockKind.TheVariants.{Heap}
use Rattle.graph.specs.declared.value.Target.TheVariants.{First}
use Rattle.graph.specs.declared.object.Shape.TheVariants.{Segment}
use Rattle.graph.specs.declared.value.Value.TheVariants.{Const, Number, Address}
use Rattle.graph.specs.declared.parts.Parts.{Parts}
use Rattle.coarse.specs.Beyond.{is_beyond}
use Rattle.coarse.specs.Coarsened.{coarsened, is_coarse}

-- the limit is 10
pub record BeyondRows : Type 0 where
  pub at_the_limit : is_beyond 10 (Const 10 4) ≡ false
  pub above_it : is_beyond 10 (Const 11 4) ≡ true
  -- -10 and -11 of 4 bytes
  pub at_the_limit_below_0 : is_beyond 10 (Const (2 ^ 32 - 10) 4) ≡ false
  pub below_it : is_beyond 10 (Const (2 ^ 32 - 11) 4) ≡ true
  -- -1 of 1 byte, and 255 of 2 bytes
  pub one_byte : is_beyond 10 (Const 255 1) ≡ false
  pub two_bytes : is_beyond 10 (Const 255 2) ≡ true
  -- the least number of 8 bytes
  pub least : is_beyond 10 (Const (2 ^ 63) 8) ≡ true
  pub zero_limit : is_beyond 0 (Const 0 8) ≡ false
  pub number : is_beyond 10 (Number 4) ≡ false

-- A segment of two nodes and more ends with the constant 4,096, which a register holds as well; its nodes hold 17 in four bytes at 8, and a port is the constant 99 of four
-- bytes.
abbrev pub before : Parts
before = record {
  objects = record {
    key = 0;
    object = record {
      size = 16;
      kind = Heap;
      live = true;
      edges = [];
      plane = [];
      shape = Segment false 0 0 0 0 2 0 1 (record { edges = record { at = 8; size = 4; value = 2 } ∷ []; plane = 2 ∷ 2 ∷ 2 ∷ 2 ∷ 2 ∷ 2 ∷ 2 ∷ 2 ∷ 1 ∷ 1 ∷ 1 ∷ 1 ∷ 2 ∷ 2 ∷ 2 ∷ 2 ∷ [] });
    };
  } ∷ [];
  values =
      record { key = 0; value = Const 4096 8 }
      ∷ record { key = 1; value = Const 0 8 }
      ∷ record { key = 2; value = Const 17 4 }
      ∷ record { key = 3; value = Const 99 4 }
      ∷ record { key = 4; value = Const (2 ^ 32 - 17) 4 }
      ∷ record { key = 5; value = Address 0 (pos 0) First }
      ∷ [];
  variables = [];
  registers = record { register = 1; value = 0 } ∷ record { register = 2; value = 4 } ∷ record { register = 3; value = 5 } ∷ [];
  ports = 3 ∷ [];
  unequal = [];
}

-- what is left of its values with the limit 10
abbrev pub after : Parts
after = record before {
  values =
      record { key = 0; value = Const 4096 8 }
      ∷ record { key = 1; value = Const 0 8 }
      ∷ record { key = 2; value = Number 4 }
      ∷ record { key = 3; value = Const 99 4 }
      ∷ record { key = 4; value = Number 4 }
      ∷ record { key = 5; value = Address 0 (pos 0) First }
      ∷ [];
}

pub record CoarsenedRows : Type 0 where
  pub limit_10 : coarsened 10 before ≡ after
  pub limit_17 : coarsened 17 before ≡ before
  pub is_not : is_coarse 10 before ≡ false
  pub is : is_coarse 17 before ≡ true
