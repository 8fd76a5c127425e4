-- The tables of a file whose lists were all read.
use Rattle.std.specs.Prelude.{◌≡◌, List, ◌++◌, length}
use Rattle.model.specs.declared.types.Span.{Span}
use Rattle.model.specs.Section.{Log, NodeList, list_fragments}
use Rattle.tables.specs.declared.room.Row.{Row}
use Rattle.tables.specs.Rows.{rows_of}

-- the rows and the fragments are those of the lists ls, behind the log's
pub record Filed (log : Log) (ls : List NodeList) (rows : List Row) (all : List Span) : Type 0 where
  pub rows_are : rows ≡ rows_of (length log.fragments) ls
  pub fragments_are : all ≡ log.fragments ++ list_fragments ls
