-- Drafts: what the adds of a draft are, and what a draft has laid out: its end, the tails of its lists, what it touched.
use Rattle.std.specs.Prelude.{ℕ, ◌+◌, ◌-◌, max, Bool, false, cond, ◌||◌, List, [], ◌∷◌, ◌++◌, map, length, ◌==◌}
use Rattle.model.specs.declared.types.Span.{Span}
use Rattle.model.specs.References.{span}
use Rattle.model.specs.Section.{NodeList, Section, flat, last_of, fragments_of}

-- one add to a list: a node's ID and payload, and for two of the kinds what it refers to
pub data Add : Type 0 where
  plain : (list id : ℕ) (payload : List ℕ) → Add
  with_data : (list id : ℕ) (payload content : List ℕ) → Add
  branch : (list id : ℕ) (payload : List ℕ) (first_id : ℕ) (first_payload : List ℕ) → Add

-- the end of a list: its last fragment and that one's number in the list, the place behind its last node, and its count
pub record Tail : Type 0 where
  pub id : ℕ
  pub fragment : Span
  pub number : ℕ
  pub free : ℕ
  pub count : ℕ

abbrev pub tail : ℕ → Span → ℕ → ℕ → ℕ → Tail
tail id fragment number free count = record { id = id; fragment = fragment; number = number; free = free; count = count }

-- a file with a draft in it: its end, how many fragments and lists it has, the lists that the draft touched in the order of first touch,
-- each list's tail, and the highest list ID known
pub record Layout : Type 0 where
  pub end : ℕ
  pub fragments : ℕ
  pub lists : ℕ
  pub touched : List ℕ
  pub tails : List Tail
  pub highest : ℕ

abbrev pub tail_of : NodeList → Tail
tail_of l = tail l.id (last_of (span 0 0) l.fragments) (length l.fragments - 1) l.free (length l.nodes)

unfoldable pub greatest : List ℕ → ℕ
greatest [] = 0
greatest (x ∷ xs) = max x (greatest xs)

-- a draft without adds: its end is the file's; the highest ID is that of the finished log and the reached lists
abbrev pub blank : Section → Layout
blank s = record {
  end = s.header.end;
  fragments = length (fragments_of s);
  lists = length s.lists;
  touched = [];
  tails = map tail_of s.lists;
  highest = max (greatest (map (λ e. e.source) (flat s.log.transactions))) (greatest (map (λ l. l.id) s.lists));
}

abbrev pub member : ℕ → List ℕ → Bool
member x [] = false
member x (y ∷ ys) = y == x || member x ys

-- a list is touched
abbrev pub touch : ℕ → List ℕ → List ℕ
touch id ids = cond (member id ids) ids (ids ++ (id ∷ []))

unfoldable pub find_tail : List Tail → ℕ → Tail
find_tail [] id = tail 0 (span 0 0) 0 0 0
find_tail (t ∷ ts) id = cond (t.id == id) t (find_tail ts id)

-- the tail of a list is t from now on
abbrev pub with_tail : Tail → List Tail → List Tail
with_tail t ts = map (λ u. cond (u.id == t.id) t u) ts

-- it ends at `end`
abbrev pub ending_at : ℕ → Layout → Layout
ending_at end y =
    record { end = end; fragments = y.fragments; lists = y.lists; touched = y.touched; tails = y.tails; highest = y.highest }

-- it has one fragment more
abbrev pub more_fragments : Layout → Layout
more_fragments y =
    record { end = y.end; fragments = y.fragments + 1; lists = y.lists; touched = y.touched; tails = y.tails; highest = y.highest }

-- the list of the tail t is touched, and t is its tail
abbrev pub touching : Tail → Layout → Layout
touching t y =
    record { end = y.end; fragments = y.fragments; lists = y.lists; touched = touch t.id y.touched; tails = with_tail t y.tails; highest = y.highest }

-- it has one list more, with the tail t, made in the list `parent`, which is touched before it
abbrev pub more_lists : ℕ → Tail → Layout → Layout
more_lists parent t y =
    record { end = y.end; fragments = y.fragments; lists = y.lists + 1; touched = touch t.id (touch parent y.touched); tails = y.tails ++ (t ∷ []); highest = t.id }
