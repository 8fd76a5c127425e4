-- How a refusal is printed: its number and that number's word, its layer, its place, its list.
use Rattle.std.specs.Prelude.{ℕ, List, [], ◌∷◌, ◌++◌, codes, decimal, slice_index_or}
use Rattle.model.specs.declared.types.Fault.{Fault}

-- the words, each at its number
abbrev pub words : List (List ℕ)
words =
    codes "none" ∷ codes "short" ∷ codes "strange" ∷ codes "newer" ∷ codes "bare" ∷ codes "outside" ∷ codes "sum" ∷ codes "backward" ∷ codes "fragment" ∷ codes "node"
    ∷ codes "unlisted" ∷ codes "overlap" ∷ codes "twice" ∷ codes "full" ∷ codes "busy" ∷ codes "shut" ∷ codes "foreign" ∷ codes "no list" ∷ codes "size" ∷ codes "kind"
    ∷ codes "wide" ∷ codes "empty" ∷ codes "same" ∷ codes "last" ∷ codes "ceiling" ∷ codes "future" ∷ codes "no node" ∷ codes "range" ∷ codes "map" ∷ codes "cover" ∷ []

-- numbers past these want room
unfoldable pub word_of : ℕ → List ℕ
word_of n = slice_index_or words n (codes "room")

abbrev pub fault_text : Fault → List ℕ
fault_text f = decimal f.number ++ codes " " ++ word_of f.number ++ codes " layer " ++ decimal f.layer ++ codes " place " ++ decimal f.place ++ codes " list " ++ decimal f.list
