-- What a BaseType refers to: 1 to data, 2 to another list.
use Rattle.std.specs.Prelude.{ℕ, Some, None, Option, cond, ◌==◌}
use Rattle.format.specs.declared.nodes.Target.{Target}
use Rattle.format.specs.declared.nodes.Target.TheVariants.{Data, List}

abbrev pub base_of : Target → ℕ
base_of Data = 1
base_of List = 2

abbrev pub target_of : ℕ → Option Target
target_of base = cond (base == 1) (Some Data) (cond (base == 2) (Some List) None)
