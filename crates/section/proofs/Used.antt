-- How many bytes the header and the fragments of a file have: few enough to be counted, and each commit adds 1,024 for each fragment that it made.
use Rattle.std.proofs.Common.{◌≡◌, ℕ, ◌+◌, ◌-◌, ◌*◌, ◌^◌, ◌<◌, ◌≤◌, List, length, mul-le-mul, arith}
use Rattle.std.specs.List.{AllByRecursion}
use Rattle.std.proofs.lemmas.List.Elements.{All-from_recursion}
use Rattle.std.proofs.lemmas.List.Sums.{sum_by-le}
use Rattle.std.proofs.ByRecursion.{All-weaker, All-append}
use Rattle.model.specs.declared.types.Span.{Span}
use Rattle.model.specs.Section.{NodeList, Section, list_fragments, fragments_of}
use Rattle.model.specs.Means.{Inside, Stands, Means}
use Rattle.meaning.proofs.Members.{flat_all}
use Rattle.commits.specs.Extends.{sizes, Extends}

-- ranges that end by `end` are not larger
short : (least end : ℕ) (fs : List Span) → AllByRecursion (Inside least end) fs → AllByRecursion (λ f. f.size ≤ end) fs
short least end fs a = All-weaker (Inside least end) (λ f. f.size ≤ end) (λ f x. omega (arith, x.1)) fs a

-- the fragments of a file are not too large together
pub sizes_of : (b : List ℕ) (s : Section) → Means b s → sizes (fragments_of s) < 2 ^ 56
sizes_of b s m =
    let end = s.header.end in
    let Short = λ (f : Span). f.size ≤ end in
    let lists = flat_all Short (λ (l : NodeList). l.fragments) s.lists
    (All-weaker (Stands b s.header s.log) (λ l. AllByRecursion Short l.fragments) (λ l x. short 36 end l.fragments x.part.inside) s.lists m.lists) in
    let all = All-append Short s.log.fragments (list_fragments s.lists) (short 12 end s.log.fragments m.log.part.inside) lists in
    let most : length (fragments_of s) * end ≤ 2048 * 2 ^ 40 = mul-le-mul m.few_fragments m.header.most in
    omega (arith, sum_by-le (λ (f : Span). f.size) end (fragments_of s) (All-from_recursion Short (fragments_of s) all))

-- from the bytes before a commit to those after it, by how many fragments there were and are
pub used_more : (gs fs : List Span) (used m n : ℕ) → used ≡ 1024 + sizes gs → m ≡ length gs → n ≡ length fs → Extends gs fs → used + 1024 * (n - m) ≡ 1024 + sizes fs
used_more gs fs used m n u e f x =
    let a = x.number in
    let b = x.bytes in
    omega arith
