-- An add of the code, in the model's words.
use Rattle.std.specs.Prelude.{ℕ, List}
use Rattle.model.specs.Layouts.{Add, plain, with_data, branch}
use Rattle.adding.specs.declared.adds.NewAdd.{NewAdd}
use Rattle.adding.specs.declared.adds.With.{With}
use Rattle.adding.specs.declared.adds.With.TheVariants.{Nothing, Data, List as NewList}

abbrev pub add_with : ℕ → ℕ → List ℕ → With → Add
add_with list id payload Nothing = plain list id payload
add_with list id payload (Data d) = with_data list id payload d.now
add_with list id payload (NewList first p) = branch list id payload first p.now

abbrev pub add_of : NewAdd → Add
add_of a = add_with a.list a.id a.payload.now a.with
