use Rattle.std.proofs.Common.{◌≡◌, ◌+◌, ◌^◌, ◌<◌, take}
use Rattle.commits.specs.Extends.{sizes}
use Rattle.section.proofs.opening.used_bytes.Given as goal

abbrev pub invariant-loop-fragment : goal.invariant-loop-fragment
invariant-loop-fragment l = sizes l.fragments < 2 ^ 56 → l.all ≡ 1024 + sizes (take l.fragment-index l.fragments)
