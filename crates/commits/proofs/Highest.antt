-- The highest ID known after a commit is the draft's.
use Rattle.std.proofs.Common.{◌≡◌, ℕ, ◌≤◌, true, eqb, List, [], ◌∷◌, ◌++◌, map, sym, refl, ap, ◌∙◌, subst, inl, inr, arith}
use Rattle.std.specs.List.{AllByRecursion}
use Rattle.std.proofs.lemmas.Bool.{cases_Bool}
use Rattle.std.proofs.lemmas.Bool.Decides.{nat_tests}
use Rattle.std.proofs.ByRecursion.{All-append, All-weaker}
use Rattle.model.specs.declared.types.Entry.{Entry}
use Rattle.model.specs.LogFragments.{entry}
use Rattle.model.specs.Section.{NodeList, Section, flat}
use Rattle.model.specs.OpenedLists.{taken}
use Rattle.model.specs.Layouts.{Layout, member, find_tail, greatest, blank}
use Rattle.model.specs.Committing.{count_entries}
use Rattle.meaning.proofs.Base.{all_front}
use Rattle.meaning.proofs.Members.{In, in_map, in_unmap, all_in, all_from_in, flat_push}
use Rattle.commits.proofs.Bounds.{greatest_each, greatest_most}
use Rattle.commits.proofs.Counting.{Counting}
use Rattle.commits.proofs.DraftCommitted.{from_member}
use Rattle.commits.proofs.CommitReads.{taken_in, in_taken}

member_in : (id : ℕ) (ids : List ℕ) → member id ids ≡ true → In id ids
member_in id [] e = absurd (grind arith)
member_in id (x ∷ ids) e = elim (cases_Bool (eqb x id)) [
  | inl q ↦ inl (grind (arith, nat_tests))
  | inr q ↦ inr (member_in id ids (rw q at e))
]

-- the greatest source in the log, and the greatest ID of the lists
abbrev top_source : Section → ℕ
top_source t = greatest (map (λ (e : Entry). e.source) (flat t.log.transactions))

abbrev top_id : List NodeList → ℕ
top_id ls = greatest (map (λ (l : NodeList). l.id) ls)

-- the entries of a commit are those of touched lists, which the draft knows
entries_known : (s : Section) (y : Layout) (ls : List NodeList) → Counting s y.touched y.highest ls → AllByRecursion (λ l. l.id ≤ y.highest) ls
    → AllByRecursion (λ e. e.source ≤ y.highest) (count_entries y)
entries_known s y ls c k =
    let touched : AllByRecursion (λ i. i ≤ y.highest) y.touched
    = All-weaker (λ i. member i (map (λ (l : NodeList). l.id) ls) ≡ true) (λ i. i ≤ y.highest) (λ i u. from_member (λ x. x ≤ y.highest) i ls u k) y.touched c.known in
    all_from_in (λ e. e.source ≤ y.highest) (count_entries y) (λ e i.
    let (x, j, q) = in_unmap (λ i. entry i (find_tail y.tails i).count) y.touched e i in
    subst (λ (z : Entry). z.source ≤ y.highest) q (all_in (λ i. i ≤ y.highest) y.touched x touched j))

-- each touched list has an entry
touched_below : (y : Layout) (id n : ℕ) → member id y.touched ≡ true → AllByRecursion (λ e. e.source ≤ n) (count_entries y) → id ≤ n
touched_below y id n u a =
    let E : ℕ → Entry = λ i. entry i (find_tail y.tails i).count in
    all_in (λ e. e.source ≤ n) (count_entries y) (E id) a (in_map E y.touched id (member_in id y.touched u))

-- where all IDs of some lists are those of others
ids_most : (xs ys : List NodeList) → ((id : ℕ) → taken id xs ≡ true → taken id ys ≡ true) → top_id xs ≤ top_id ys
ids_most xs ys k = greatest_most (λ (l : NodeList). l.id) (top_id ys) xs (all_from_in (λ l. l.id ≤ top_id ys) xs (λ l i.
    let (m, j, q) = taken_in ys l.id (k l.id (in_taken xs l l.id i refl)) in
    subst (λ z. z ≤ top_id ys) q (all_in (λ l. l.id ≤ top_id ys) ys m (greatest_each (λ (l : NodeList). l.id) (top_id ys) ys (omega arith)) j)))

-- t has the log of s with a commit's entries, and the lists of the draft in some order
pub highest_after : (s : Section) (y : Layout) (ls : List NodeList) (t : Section) → t.log.transactions ≡ s.log.transactions ++ (count_entries y ∷ []) → Counting s y.touched y.highest ls
    → AllByRecursion (λ l. l.id ≤ y.highest) ls → ((l : NodeList) → In l t.lists → In l ls)
    → ((id : ℕ) → taken id s.lists ≡ true → taken id t.lists ≡ true)
    → (blank t).highest ≡ y.highest
highest_after s y ls t e c k to kept =
    let source : Entry → ℕ = λ e. e.source in
    let A : List Entry = flat s.log.transactions in
    let row : flat t.log.transactions ≡ A ++ count_entries y = ap flat e ∙ flat_push s.log.transactions (count_entries y) in
    let each : AllByRecursion (λ e. e.source ≤ top_source t) (flat t.log.transactions) = greatest_each source (top_source t) (flat t.log.transactions) (omega arith) in
    let (a, b) = all_front (λ e. e.source ≤ top_source t) A (count_entries y) (subst (λ z. AllByRecursion (λ e. e.source ≤ top_source t) z) row each) in
    let old_sources : top_source s ≤ top_source t = greatest_most source (top_source t) A a in
    let old_ids = ids_most s.lists t.lists kept in
    let known : AllByRecursion (λ e. e.source ≤ y.highest) (flat t.log.transactions)
    = subst (λ z. AllByRecursion (λ e. e.source ≤ y.highest) z) (sym row) (All-append (λ e. e.source ≤ y.highest) A (count_entries y) c.sources (entries_known s y ls c k)) in
    let all_sources : top_source t ≤ y.highest = greatest_most source y.highest (flat t.log.transactions) known in
    let all_ids : top_id t.lists ≤ y.highest
    = greatest_most (λ (l : NodeList). l.id) y.highest t.lists (all_from_in (λ l. l.id ≤ y.highest) t.lists (λ l i. all_in (λ l. l.id ≤ y.highest) ls l k (to l i))) in
    elim c.raised [
      | inl u ↦ let top = touched_below y y.highest (top_source t) u b in omega arith
      | inr u ↦ omega arith
    ]
