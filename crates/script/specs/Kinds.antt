-- The words of the actions.
use Rattle.std.specs.Prelude.{ℕ, List, codes}
use Rattle.script.specs.declared.actions.Adding.{Adding}
use Rattle.script.specs.declared.actions.Adding.TheVariants as adding
use Rattle.script.specs.declared.actions.Calling.{Calling}
use Rattle.script.specs.declared.actions.Calling.TheVariants as calling
use Rattle.script.specs.declared.actions.Kind.{Kind}
use Rattle.script.specs.declared.actions.Kind.TheVariants as kind
use Rattle.script.specs.declared.actions.Looking.{Looking}
use Rattle.script.specs.declared.actions.Looking.TheVariants as looking

abbrev pub adding_word : Adding → List ℕ
adding_word adding.Plain = codes "add"
adding_word adding.Data = codes "data"
adding_word adding.Branch = codes "branch"

abbrev pub calling_word : Calling → List ℕ
calling_word calling.Open = codes "open"
calling_word calling.Begin = codes "begin"
calling_word calling.Commit = codes "commit"
calling_word calling.Abandon = codes "abandon"

abbrev pub looking_word : Looking → List ℕ
looking_word looking.Node = codes "node"
looking_word looking.Piece = codes "piece"
looking_word looking.Alike = codes "alike"
looking_word looking.Bytes = codes "bytes"
looking_word looking.Dump = codes "dump"
looking_word looking.List = codes "list"

abbrev pub kind_word : Kind → List ℕ
kind_word kind.Flat = codes "flat"
kind_word kind.Card = codes "card"
kind_word kind.Cover = codes "cover"
kind_word (kind.Adding k) = adding_word k
kind_word (kind.Calling k) = calling_word k
kind_word (kind.Looking k) = looking_word k
