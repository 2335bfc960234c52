-- The numbers by which constructs are given up.
use Rattle.std.specs.Prelude.{ℕ}

-- `goto` (C11 6.8.6.1)
abbrev pub goto_statement : ℕ
goto_statement = 1

-- `switch` (C11 6.8.4.2)
abbrev pub switch_statement : ℕ
switch_statement = 2

-- a union (C11 6.7.2.1)
abbrev pub union_type : ℕ
union_type = 3

-- a floating type or constant (C11 6.2.5p10, 6.4.4.2)
abbrev pub floating_type : ℕ
floating_type = 4

-- `...` (C11 6.7.6.3p9)
abbrev pub variable_arguments : ℕ
variable_arguments = 5

-- `asm` (C11 J.5.10)
abbrev pub inline_assembly : ℕ
inline_assembly = 6

-- an attribute of GNU C or a `#pragma pack` line that changes a layout
abbrev pub layout_attribute : ℕ
layout_attribute = 7

-- a complex type (C11 6.2.5p11)
abbrev pub complex_type : ℕ
complex_type = 8

-- an object of a thread (C11 6.7.1p3)
abbrev pub thread_local_object : ℕ
thread_local_object = 9

-- a string literal (C11 6.4.5)
abbrev pub string_literal : ℕ
string_literal = 10

-- a pointer to a function (C11 6.7.6.1, 6.7.6.3)
abbrev pub function_pointer : ℕ
function_pointer = 20
