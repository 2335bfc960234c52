-- The reader on the rows of the table, computed.
use Rattle.std.proofs.Common.{refl}
use Rattle.ctokens.specs.SymbolTables.{keyword_symbol, name_symbol, passed_symbol}
use Rattle.cgrammar.proofs.TextRowsRead.{have_blocks}
use Rattle.cgrammar.specs.ReadLevels.{read_list, read_until_brace}
use Rattle.cgrammar.specs.ReadOperators.{read_operations, read_choice, assignment_from, read_commas}
use Rattle.cgrammar.specs.ReadOperands.{read_cast, read_plain, read_postfixes, read_path, behind_matched, read_bracket, read_size_of, read_offset_of, read_assert_fail}
use Rattle.cgrammar.specs.ReadTypes.{read_sizes, read_type_name, read_field, read_fields, read_enumerator, read_struct, read_enum, read_specifier}
use Rattle.cgrammar.specs.ReadDeclarations.{read_specifiers, read_parameter, read_parameters, read_declarator, read_declaration, read_part, read_initializer}
use Rattle.cgrammar.specs.ReadStatements.{read_block, read_maybe, read_clause, read_if, read_while, read_do, read_for, read_return, read_unlabeled, read_statement, read_item}
use Rattle.cgrammar.specs.ReadStarts.{operand_start, postfix_start, type_start, statement_start}
use Rattle.cgrammar.specs.ScopeRows.{scope_table, ScopeRows}

pub scope_rows : ScopeRows
unfolding ScopeRows read_list read_until_brace read_operations read_choice assignment_from read_commas read_cast read_plain read_postfixes read_path behind_matched read_bracket read_size_of read_offset_of read_assert_fail read_sizes read_type_name read_field read_fields read_enumerator read_struct read_enum read_specifier read_specifiers read_parameter read_parameters read_declarator read_declaration read_part read_initializer read_block read_maybe read_clause read_if read_while read_do read_for read_return read_unlabeled read_statement read_item operand_start postfix_start type_start statement_start keyword_symbol name_symbol passed_symbol
scope_rows = have_blocks scope_table ((refl, (refl, refl)), ((refl, (refl, refl)), ((refl, (refl, refl)), ((refl, (refl, refl)), ((refl, (refl, refl)), (refl, ((refl, (refl, refl)), ((refl, (refl, refl)), ((refl, (refl, refl)), ((refl, (refl, refl)), (refl, ((refl, (refl, refl)), ((refl, (refl, refl)), ((refl, (refl, refl)), ((refl, (refl, refl)), ((refl, (refl, refl)), ((refl, (refl, refl)), ((refl, (refl, refl)), ((refl, (refl, refl)), ((refl, (refl, refl)), ((refl, (refl, refl)), ((refl, (refl, refl)), ((refl, (refl, refl)), ((refl, (refl, refl)), ((refl, (refl, refl)), ((refl, (refl, refl)), ((refl, (refl, refl)), (refl, ((refl, (refl, refl)), (refl, (refl, ((refl, (refl, refl)), ((refl, (refl, refl)), ((refl, (refl, refl)), ((refl, (refl, refl)), ((refl, (refl, refl)), ((refl, (refl, refl)), ((refl, (refl, refl)), ((refl, (refl, refl)), (refl, ((refl, (refl, refl)), ((refl, (refl, refl)), ((refl, (refl, refl)), ((refl, (refl, refl)), ((refl, (refl, refl)), ((refl, (refl, refl)), ((refl, (refl, refl)), ((refl, (refl, refl)), ((refl, (refl, refl)), ((refl, (refl, refl)), ((refl, (refl, refl)), ((refl, (refl, refl)), ((refl, (refl, refl)), (refl, tt))))))))))))))))))))))))))))))))))))))))))))))))))))))
