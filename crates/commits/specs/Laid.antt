-- A layout and the lists that it stands for.
use Rattle.std.specs.Prelude.{◌≡◌, ℕ, ◌≤◌, List, ◌++◌, map, length}
use Rattle.std.specs.List.{AllByRecursion}
use Rattle.model.specs.Section.{NodeList, Section, list_fragments}
use Rattle.model.specs.Layouts.{Layout, tail_of}
use Rattle.commits.specs.Body.{Body, up_to}

-- the bytes c, with the draft's end as their end, hold the lists ls, and the layout y tells their tails and numbers
pub record Laid (c : List ℕ) (s : Section) (y : Layout) (ls : List NodeList) : Type 0 where
  pub body : Body c (up_to s.header y.end) s.log.fragments ls
  pub tails : y.tails ≡ map tail_of ls
  pub lists : y.lists ≡ length ls
  pub fragments : y.fragments ≡ length (s.log.fragments ++ list_fragments ls)
  pub known : AllByRecursion (λ l. l.id ≤ y.highest) ls
