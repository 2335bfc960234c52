-- What typing hands on, in tables.
use Rattle.std.specs.Prelude.{◌≡◌, ℕ, true, List, [], length}
use Rattle.expressions.specs.declared.handed_row.HandedRow.{HandedRow}
use Rattle.expressions.specs.Context.{Context}
use Rattle.c_text.specs.declared.tables.Tables.{Tables}
use Rattle.c_text.specs.Rows.{row_at, row_in, are_known}
use Rattle.c_text.specs.Links.{AreLinks}
use Rattle.c_text.specs.Objects.{AreObjects}
use Rattle.c_text.specs.Stores.{AreStores}
use Rattle.c_text.specs.Functions.{AreFunctions}
use Rattle.c_text.specs.Results.{AreResults}

pub record AreEmpty (tables : Tables) : Type 0 where
  pub rows : tables.rows.items ≡ []
  pub links : tables.links.entries ≡ []
  pub objects : tables.objects.entries ≡ []
  pub stores : tables.stores.entries ≡ []
  pub functions : tables.functions.entries ≡ []
  pub results : tables.results.entries ≡ []

-- the tables of what is handed on
pub record AreGathered (handed : List HandedRow) (tables : Tables) : Type 0 where
  pub rows : (number : ℕ) → row_at tables.rows.items number ≡ row_in number handed
  pub links : AreLinks handed tables.links.entries
  pub objects : AreObjects handed tables.objects.entries
  pub stores : AreStores handed tables.stores.entries
  pub functions : AreFunctions handed tables.functions.entries
  pub results : AreResults handed tables.results.entries

-- the tables of a context, which has the types and signatures that they name
pub record AreTables (context : Context) (tables : Tables) : Type 0 where
  pub gathered : AreGathered context.handed tables
  pub known : are_known (length context.types) (length context.environment.signatures) context.handed ≡ true
