-- The data of one list after the other.
use Rattle.std.proofs.Common.{◌≡◌, ℕ, zero, suc, ◌+◌, ◌<◌, ◌≤◌, List, [], ◌∷◌, ◌++◌, map, length, get_or, take, drop, IsErrAnd, Some, None, Ok, Err, Result, sym, refl, ap, ap₂, ◌∙◌, subst, add-zero, arith}
use Rattle.std.specs.List.{AllByRecursion}
use Rattle.std.proofs.lemmas.List.{append_assoc, append-nil, length-append, take-append-drop, take_all, take_more, drop_more}
use Rattle.std.proofs.ByRecursion.{All-get_or}
use Rattle.model.specs.declared.types.Span.{Span}
use Rattle.model.specs.declared.types.Header.{Header}
use Rattle.model.specs.Faults.{Check}
use Rattle.model.specs.Section.{Log, NodeList, flat, list_fragments}
use Rattle.model.specs.Opened.{all_data}
use Rattle.model.specs.Means.{Inside, Stands}
use Rattle.model.specs.Breaks.{Walked}
use Rattle.meaning.proofs.Members.{flat_append}
use Rattle.refusals.specs.declared.faults.InList.{InList}
use Rattle.refusals.specs.Refusals.{list_told}
use Rattle.refusals.specs.Checked.{told_by, Checked}
use Rattle.refusals.proofs.Told.{told_more, told_on}
use Rattle.tables.specs.declared.room.Row.{Row}
use Rattle.tables.specs.Rows.{row_of, rows_of}
use Rattle.data_pass.specs.Files.{Filed}
use Rattle.data_pass.specs.ListWalks.{Lies, list_data, Seen}

pub rows_length : (at : ℕ) (ls : List NodeList) → length (rows_of at ls) ≡ length ls
rows_length at [] = refl
rows_length at (l ∷ ls) = omega (arith, rows_length (at + length l.fragments) ls)

-- what is read at an index past the lists
abbrev no_list : NodeList
no_list = record { id = 0; fragments = []; nodes = []; free = 0 }

-- the k-th row is that of the k-th list, behind the fragments of those before
row_at : (at : ℕ) (ls : List NodeList) (k : ℕ) (d : Row) → k < length ls
    → get_or (rows_of at ls) k d ≡ row_of (at + length (list_fragments (take k ls))) (get_or ls k no_list)
row_at at [] k d lt = absurd (omega arith)
row_at at (l ∷ ls) zero d lt = ap (λ n. row_of n l) (sym (add-zero at))
row_at at (l ∷ ls) (suc k) d lt =
    let e : at + length l.fragments + length (list_fragments (take k ls)) ≡ at + length (l.fragments ++ list_fragments (take k ls)) = omega (arith, length-append l.fragments (list_fragments (take k ls))) in
    row_at (at + length l.fragments) ls k d (omega arith) ∙ ap (λ n. row_of n (get_or ls k no_list)) e

module _ (b : List ℕ) (h : Header) (log : Log) (ls : List NodeList) (rows : List Row) (all : List Span) (end : ℕ) (e : h.end ≡ end) (walked : Walked b h log ls []) (filed : Filed log ls rows all) where
  abbrev D : NodeList → List Check
  D = list_data end all

  -- the checks of all lists, where all fragments are theirs and the log's
  all_is : all_data h log ls ≡ flat (map D ls)
  all_is = ap₂ (λ n fs. flat (map (list_data n fs) ls)) e (sym filed.fragments_are)

  as_many : length rows ≡ length ls
  as_many = ap length filed.rows_are ∙ rows_length (length log.fragments) ls

  pub seen_end : (k : ℕ) → Seen end all ls k → length rows ≤ k → told_by (all_data h log ls) ≡ None
  seen_end k s le = ap told_by (all_is ∙ ap (λ xs. flat (map D xs)) (sym (take_all k ls (omega (arith, as_many))))) ∙ s

  -- the next list
  module _ (k : ℕ) (d : Row) (s : Seen end all ls k) (lt : k < length rows) where
    there : k < length ls
    there = omega (arith, as_many)

    abbrev l : NodeList
    l = get_or ls k no_list

    split : ls ≡ take k ls ++ (l ∷ drop (k + 1) ls)
    split = sym (take-append-drop k ls) ∙ ap (λ xs. take k ls ++ xs) (drop_more ls k no_list there)

    -- its fragments stand where its row says
    lies : Lies b end (get_or rows k d) all l
    lies =
        let ms = take k ls in
        let behind = drop (k + 1) ls in
        let part = (All-get_or (Stands b h log) ls k no_list there walked.lists).part in
        record {
          before = log.fragments ++ list_fragments ms;
          after = list_fragments behind;
          row_is = ap (λ rs. get_or rs k d) filed.rows_are ∙ row_at (length log.fragments) ls k d there ∙ ap (λ n. row_of n l) (sym (length-append log.fragments (list_fragments ms)));
          fragments_are = filed.fragments_are ∙ ap (λ xs. log.fragments ++ list_fragments xs) split
              ∙ ap (λ fs. log.fragments ++ fs) (flat_append (λ (m : NodeList). m.fragments) ms (l ∷ behind))
              ∙ sym (append_assoc log.fragments (list_fragments ms) (l.fragments ++ list_fragments behind));
          inside = subst (λ n. AllByRecursion (Inside 36 n) l.fragments) e part.inside;
          spread = part.spread;
        }

    pub seen_more : ((l : NodeList) → Lies b end (get_or rows k d) all l → told_by (list_data end all l) ≡ None) → Seen end all ls (k + 1)
    seen_more a =
        ap (λ xs. told_by (flat (map D xs))) (take_more ls k no_list there) ∙ ap told_by (flat_append D (take k ls) (l ∷ [])) ∙ told_on (flat (map D (take k ls))) (D l ++ []) s
        ∙ ap told_by (append-nil (D l)) ∙ a l lies

    pub seen_err : (y : InList) (r : Result (Unit {0}) InList) → ((l : NodeList) → Lies b end (get_or rows k d) all l → told_by (list_data end all l) ≡ Some (list_told y))
        → IsErrAnd r (λ z. z ≡ y) → Checked (all_data h log ls) r
    seen_err y (Ok u) a g = absurd g
    seen_err y (Err z) a g =
        let behind = flat (map D (drop (k + 1) ls)) in
        ap told_by (all_is ∙ ap (λ xs. flat (map D xs)) split ∙ flat_append D (take k ls) (l ∷ drop (k + 1) ls))
        ∙ told_on (flat (map D (take k ls))) (D l ++ behind) s ∙ told_more (D l) behind (list_told y) (a l lies) ∙ ap (λ v. Some (list_told v)) (sym g)
