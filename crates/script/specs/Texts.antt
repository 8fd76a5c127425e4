-- The kinds of what a line says, and the words that begin it.
use Rattle.std.specs.Prelude.{ℕ, List}
use Rattle.script.specs.declared.actions.Adding.{Adding}
use Rattle.script.specs.declared.actions.Adding.TheVariants as adding
use Rattle.script.specs.declared.actions.Calling.TheVariants as calling
use Rattle.script.specs.declared.actions.Kind.{Kind}
use Rattle.script.specs.declared.actions.Kind.TheVariants as kind
use Rattle.script.specs.declared.actions.Looking.{Looking}
use Rattle.script.specs.declared.actions.Looking.TheVariants as looking
use Rattle.script.specs.declared.actions.Look.{Look}
use Rattle.script.specs.declared.actions.Look.TheVariants as look
use Rattle.script.specs.declared.actions.NewWith.{NewWith}
use Rattle.script.specs.declared.actions.NewWith.TheVariants as with
use Rattle.script.specs.declared.actions.Verb.{Verb}
use Rattle.script.specs.declared.actions.Verb.TheVariants as verb
use Rattle.script.specs.Kinds.{kind_word}

abbrev pub adding_in : NewWith → Adding
adding_in with.Nothing = adding.Plain
adding_in (with.Data bytes) = adding.Data
adding_in (with.List id payload) = adding.Branch

abbrev pub looking_in : Look → Looking
looking_in (look.Node at room) = looking.Node
looking_in (look.Piece at place size room) = looking.Piece
looking_in (look.Alike at list index) = looking.Alike
looking_in look.Bytes = looking.Bytes
looking_in look.Dump = looking.Dump
looking_in look.List = looking.List

abbrev pub kind_in : Verb → Kind
kind_in (verb.Flat len bytes) = kind.Flat
kind_in (verb.Card len map bytes) = kind.Card
kind_in (verb.Cover blocks) = kind.Cover
kind_in (verb.Open mark) = kind.Calling calling.Open
kind_in (verb.Begin draft) = kind.Calling calling.Begin
kind_in (verb.Add draft new) = kind.Adding (adding_in new.with)
kind_in (verb.Commit draft guid) = kind.Calling calling.Commit
kind_in (verb.Abandon draft) = kind.Calling calling.Abandon
kind_in (verb.Look l) = kind.Looking (looking_in l)

abbrev pub verb_word : Verb → List ℕ
verb_word v = kind_word (kind_in v)
