-- The figures of a file.
use Rattle.std.specs.Prelude.{ℕ, ◌+◌, ◌*◌, ◌/◌, List, length}
use Rattle.model.specs.declared.types.Span.{Span}
use Rattle.model.specs.declared.types.Header.{Header}
use Rattle.model.specs.Section.{Section, fragments_of}
use Rattle.commits.specs.Extends.{sizes}
use Rattle.section.specs.declared.access.Access.{Access}
use Rattle.section.specs.declared.access.Figures.{Figures}

-- the whole percent of the file that is header and fragments, rounded down
abbrev pub percent_of : List Span → ℕ → ℕ
percent_of fs end = (1024 + sizes fs) * 100 / end

abbrev pub figures : Header → ℕ → List Span → Figures
figures h lists fs = record { count = h.count; end = h.end; lists = lists; fragments = length fs; percent = percent_of fs h.end }

abbrev pub figures_of : Section → Figures
figures_of s = figures s.header (length s.lists) (fragments_of s)

-- by what is known of a file with so many lists
abbrev pub figures_known : Access → ℕ → Figures
figures_known a lists = record { count = a.header.count; end = a.header.end; lists = lists; fragments = a.fragments; percent = a.used * 100 / a.header.end }
