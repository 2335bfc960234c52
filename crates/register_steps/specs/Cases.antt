-- Lines worked out by hand, at the edges.
use Rattle.std.specs.Prelude.{◌≡◌, ◌-◌, ◌^◌, true, false, None, Some, pos, negsuc}
use Rattle.arithmetic.specs.declared.op.Op.TheVariants.{Add, Sub, Mul, Div, Rem, And, Left, Right, Less, LessEqual}
use Rattle.graph.specs.declared.value.Target.TheVariants.{Region, First}
use Rattle.graph.specs.declared.value.Value.TheVariants.{Const, Number, Any, Address}
use Rattle.register_steps.specs.Lines.{nothing, kept, exactly, losing, truth, number_line, address_line, shifted, shifted_by, computed_line, converted_line, input_line}

pub record AreMoved : Type 0 where
  -- an address by a constant, forwards and backwards, past the end and before the beginning
  pub forwards : shifted (Address 3 (pos 4) Region) (pos 8) ≡ exactly (Address 3 (pos 12) Region)
  pub backwards : shifted (Address 3 (pos 4) Region) (negsuc 7) ≡ exactly (Address 3 (negsuc 3) Region)
  -- an offset of 64 bits wraps
  pub around : shifted (Address 3 (pos (2 ^ 63 - 1)) Region) (pos 1) ≡ exactly (Address 3 (negsuc (2 ^ 63 - 1)) Region)
  -- of a segment the offset alone changes
  pub of_segment : shifted (Address 5 (pos 0) First) (pos 16) ≡ exactly (Address 5 (pos 16) First)
  -- a number modulo 2^64
  pub null : shifted (Const 0 8) (pos 16) ≡ exactly (Const 16 8)
  pub below_null : shifted (Const 0 8) (negsuc 0) ≡ exactly (Const (2 ^ 64 - 1) 8)
  pub number : shifted (Number 8) (pos 8) ≡ losing 1 (Number 8)
  pub any : shifted Any (pos 8) ≡ losing 1 Any
  -- by a register times a constant: -1 times 8 is 8 backwards, and so is 1 times -8
  pub items : shifted_by (Address 3 (pos 0) Region) (Const 2 8) (pos 12) ≡ exactly (Address 3 (pos 24) Region)
  pub items_backwards : shifted_by (Address 3 (pos 16) Region) (Const (2 ^ 64 - 1) 8) (pos 8) ≡ exactly (Address 3 (pos 8) Region)
  pub backwards_items : shifted_by (Address 3 (pos 16) Region) (Const 1 8) (negsuc 7) ≡ exactly (Address 3 (pos 8) Region)
  pub not_known : shifted_by (Address 3 (pos 0) Region) (Number 8) (pos 4) ≡ losing 7 Any
  pub by_pointer : shifted_by (Address 3 (pos 0) Region) Any (pos 4) ≡ losing 7 Any
  pub number_by_number : shifted_by (Const 16 8) (Number 8) (pos 4) ≡ losing 1 (Number 8)
  pub any_by_number : shifted_by Any (Number 8) (pos 4) ≡ losing 1 Any

pub record AreComputed : Type 0 where
  -- two constants
  pub sum : computed_line Add 4 true (Const 2 4) (Const 3 4) ≡ exactly (Const 5 4)
  -- a sum of ints wraps, which is a choice where C11 6.5p5 leaves it open
  pub sum_wraps : computed_line Add 4 true (Const (2 ^ 31 - 1) 4) (Const 1 4) ≡ exactly (Const (2 ^ 31) 4)
  pub below_zero : computed_line Sub 8 false (Const 0 8) (Const 1 8) ≡ exactly (Const (2 ^ 64 - 1) 8)
  -- the run ends
  pub by_zero : computed_line Div 4 true (Const 7 4) (Const 0 4) ≡ nothing
  pub remainder_by_zero : computed_line Rem 8 false (Const 7 8) (Const 0 8) ≡ nothing
  pub by_width : computed_line Left 4 true (Const 1 4) (Const 32 4) ≡ nothing
  pub by_minus_one : computed_line Right 8 true (Const 1 8) (Const (2 ^ 32 - 1) 4) ≡ nothing
  -- a test of order gives an int, by the sign
  pub less : computed_line Less 8 true (Const (2 ^ 64 - 1) 8) (Const 0 8) ≡ exactly (Const 1 4)
  pub not_less : computed_line Less 8 false (Const (2 ^ 64 - 1) 8) (Const 0 8) ≡ exactly (Const 0 4)
  pub not_greater : computed_line LessEqual 4 true (Const 7 4) (Const 7 4) ≡ exactly (Const 1 4)
  -- others
  pub some_sum : computed_line Add 4 true (Number 4) (Const 0 4) ≡ losing 1 (Number 4)
  pub some_product : computed_line Mul 4 true (Const 0 4) (Number 4) ≡ losing 1 (Number 4)
  pub some_bits : computed_line And 8 false Any (Const 7 8) ≡ losing 1 (Number 8)
  pub of_address : computed_line Sub 8 true (Address 3 (pos 8) Region) (Address 3 (pos 0) Region) ≡ losing 1 (Number 8)
  pub some_order : computed_line Less 8 true (Number 8) (Const 0 8) ≡ truth (Some 2) 4
  pub order_of_addresses : computed_line LessEqual 8 false (Address 3 (pos 0) Region) (Address 3 (pos 8) Region) ≡ truth (Some 2) 4

pub record AreConverted : Type 0 where
  pub constant : number_line 7 4 ≡ exactly (Const 7 4)
  pub variable : address_line (Some 2) ≡ exactly (Address 2 (pos 0) Region)
  pub no_variable : address_line None ≡ nothing
  -- -1 of a char is -1 of a long, and 255 of an unsigned char is 255
  pub wider : converted_line 9 (Const 255 1) 8 true ≡ exactly (Const (2 ^ 64 - 1) 8)
  pub wider_unsigned : converted_line 9 (Const 255 1) 8 false ≡ exactly (Const 255 8)
  pub narrower : converted_line 9 (Const 300 4) 1 true ≡ exactly (Const 44 1)
  pub of_one_size : converted_line 9 (Number 4) 4 true ≡ kept 9
  pub constant_of_one_size : converted_line 9 (Const 300 4) 4 false ≡ kept 9
  pub to_other_size : converted_line 9 (Number 1) 4 false ≡ losing 1 (Number 4)
  -- a pointer becomes a number, also in eight bytes
  pub of_pointer : converted_line 9 (Address 3 (pos 0) Region) 8 false ≡ losing 1 (Number 8)
  pub of_any : converted_line 9 Any 8 false ≡ losing 1 (Number 8)
  pub input : input_line 4 false ≡ exactly (Number 4)
  pub input_of_truth : input_line 1 true ≡ truth None 1
