-- What the lists of a draft hold: what they held and then what is new for them.
use Rattle.std.proofs.Common.{◌≡◌, ℕ, ◌<◌, ◌≤◌, false, cond, eqb, ◌≢◌, List, [], ◌∷◌, ◌++◌, map, ap, ◌∙◌, inl, inr, arith}
use Rattle.std.specs.List.{AllByRecursion}
use Rattle.std.proofs.lemmas.List.{append-nil, map-append}
use Rattle.std.proofs.lemmas.Bool.{cases_Bool}
use Rattle.std.proofs.lemmas.Bool.Decides.{nat_tests}
use Rattle.std.proofs.ByRecursion.{All-weaker}
use Rattle.model.specs.declared.types.Span.{Span}
use Rattle.model.specs.Bytes.{written, applied}
use Rattle.model.specs.References.{end_of}
use Rattle.model.specs.Headers.{header_span}
use Rattle.model.specs.Nodes.{Node}
use Rattle.model.specs.Section.{NodeList, Section, list_fragments}
use Rattle.model.specs.OpenedLists.{taken}
use Rattle.model.specs.Means.{Apart, data_spans}
use Rattle.model.specs.Looks.{nodes_of}
use Rattle.model.specs.Layouts.{Layout}
use Rattle.model.specs.Saving.{Plan}
use Rattle.model.specs.Contents.{Content, holds}
use Rattle.meaning.proofs.Base.{DataFits, references}
use Rattle.commits.specs.Laid.{Laid}
use Rattle.commits.specs.Parts.{Part}
use Rattle.commits.proofs.Rows.{all_both}
use Rattle.commits.proofs.Store.{length_written, same_written}
use Rattle.commits.proofs.Contents.{DataSame, nodes_held, lists_held, nodes_push, nodes_list}
use Rattle.commits.proofs.Parting.{Parting}
use Rattle.commits.proofs.Layouts.{Addable, Pushed}

-- each list holds what it held and then what is new for it, and has the parts ps more; no ID that was known before names a list that was not there
pub record Grows (c : List ℕ) (y : Layout) (ls : List NodeList) (c' : List ℕ) (y' : Layout) (ms : List NodeList) (new : ℕ → List Content) (ps : List Part) : Type 0 where
  pub grown : (id : ℕ) → map (holds c') (nodes_of ms id) ≡ map (holds c) (nodes_of ls id) ++ new id
  pub known : (id : ℕ) → id ≤ y.highest → taken id ms ≡ taken id ls
  pub parting : Parting y.highest ls y'.highest ms ps

-- data that ends by the draft's end is as it was, where only what is behind that was written
pub longer_held : (c : List ℕ) (s : Section) (y : Layout) (ls : List NodeList) (new : List ℕ) (id : ℕ) → Laid c s y ls → map (holds (written c y.end new)) (nodes_of ls id) ≡ map (holds c) (nodes_of ls id)
longer_held c s y ls new id d =
    let wh = d.body.whole in
    let c' : List ℕ = written c y.end new in
    let lc = length_written c y.end new wh in
    lists_held c c' ls id (All-weaker (λ r. end_of r ≤ y.end) (DataSame c c') (λ r x. (omega arith, omega arith, same_written c y.end new r.start (end_of r) wh (inl x))) (data_spans ls) d.body.data_inside)

-- what the lists hold with one node more, if it holds X in the row before
pub pushed_holds : (c : List ℕ) (s : Section) (y : Layout) (pre : List NodeList) (l : NodeList) (post : List NodeList) (new : List ℕ) (n : ℕ → Node) (P : Plan) (ps : List Part) (X : Content) (id : ℕ)
    → Laid c s y (pre ++ (l ∷ post)) → Addable s y (pre ++ (l ∷ post)) new n → (q : Pushed c s y n pre l post P ps) → ((p : ℕ) → holds c (n p) ≡ X)
    → map (holds (applied c P.writes)) (nodes_of (pre ++ (q.list ∷ post)) id) ≡ map (holds c) (nodes_of (pre ++ (l ∷ post)) id) ++ cond (eqb l.id id) (X ∷ []) []
pushed_holds c s y pre l post new n P ps X id d a q what =
    let ls : List NodeList = pre ++ (l ∷ post) in
    let c' : List ℕ = applied c P.writes in
    let F : Span → Type 0 = DataFits y.end (s.log.fragments ++ list_fragments ls) in
    let wh = d.body.whole in
    let wh' = q.laid.body.whole in
    let ri = q.rises in
    let at : Node = n q.place in
    let same : (r : Span) → F r → DataSame c c' r = λ r x. (omega (arith, x.0), omega (arith, x.0), q.data_kept r x) in
    let olds : AllByRecursion F (data_spans ls) = all_both (λ r. end_of r ≤ y.end) (λ r. AllByRecursion (Apart r) (header_span ∷ (s.log.fragments ++ list_fragments ls))) F (data_spans ls) (λ r x z. (x, z)) d.body.data_inside d.body.data_apart in
    let h1 = lists_held c c' ls id (All-weaker F (DataSame c c') same (data_spans ls) olds) in
    let h2 : map (holds c') (at ∷ []) ≡ map (holds c) (at ∷ []) = nodes_held c c' (at ∷ []) (All-weaker F (DataSame c c') same (references (at ∷ [])) (a.data_fits q.place)) in
    let h3 : map (holds c') (at ∷ []) ≡ X ∷ [] = h2 ∙ ap (λ (z : Content). z ∷ []) (what q.place) in
    ap (λ (z : List Node). map (holds c') z) (nodes_push pre l q.list post at id q.same q.nodes d.body.ids_differ)
    ∙ map-append (holds c') (nodes_of ls id) (cond (eqb l.id id) (at ∷ []) [])
    ∙ ap (λ (z : List Content). z ++ map (holds c') (cond (eqb l.id id) (at ∷ []) [])) h1
    ∙ ap (λ (z : List Content). map (holds c) (nodes_of ls id) ++ z) (elim (cases_Bool (eqb l.id id)) [
      | inl e ↦ rw e h3
      | inr e ↦ rw e
    ])

-- what the lists hold with one list more
pub list_holds : (c c1 : List ℕ) (ls : List NodeList) (m : NodeList) (Y : Content) (id : ℕ) → AllByRecursion (λ l. l.id ≢ m.id) ls → map (holds c1) m.nodes ≡ Y ∷ []
    → map (holds c1) (nodes_of ls id) ≡ map (holds c) (nodes_of ls id) → map (holds c1) (nodes_of (ls ++ (m ∷ [])) id) ≡ map (holds c) (nodes_of ls id) ++ cond (eqb m.id id) (Y ∷ []) []
list_holds c c1 ls m Y id d e f =
    ap (λ (z : List Node). map (holds c1) z) (nodes_list ls m id d)
    ∙ map-append (holds c1) (nodes_of ls id) (cond (eqb m.id id) m.nodes [])
    ∙ ap (λ (z : List Content). z ++ map (holds c1) (cond (eqb m.id id) m.nodes [])) f
    ∙ ap (λ (z : List Content). map (holds c) (nodes_of ls id) ++ z) (elim (cases_Bool (eqb m.id id)) [
      | inl x ↦ rw x e
      | inr x ↦ rw x
    ])

-- of two IDs at most one is meant
pub either_sum : (A : List Content) (X Y : Content) (p q id : ℕ) → p < q → (A ++ cond (eqb q id) (Y ∷ []) []) ++ cond (eqb p id) (X ∷ []) [] ≡ A ++ cond (eqb p id) (X ∷ []) (cond (eqb q id) (Y ∷ []) [])
either_sum A X Y p q id h = elim (cases_Bool (eqb p id)) [
  | inl e ↦ let f : eqb q id ≡ false = grind (arith, nat_tests) in rw (e, f) (ap (λ (z : List Content). z ++ (X ∷ [])) (append-nil A))
  | inr e ↦ rw e (append-nil (A ++ cond (eqb q id) (Y ∷ []) []))
]
