-- A file with more behind its end: data, or a new list.
use Rattle.std.proofs.Common.{◌≡◌, ℕ, ◌+◌, ◌^◌, ◌<◌, ◌≤◌, ◌≢◌, List, [], ◌∷◌, ◌++◌, map, length, sym, ap, ◌∙◌, subst, arith}
use Rattle.std.specs.List.{AllByRecursion}
use Rattle.std.proofs.lemmas.List.{append_assoc, append-nil, length-append}
use Rattle.std.proofs.ByRecursion.{All-append, All-weaker}
use Rattle.model.specs.declared.types.Span.{Span}
use Rattle.model.specs.declared.types.Header.{Header}
use Rattle.model.specs.Bytes.{written}
use Rattle.model.specs.References.{span, end_of}
use Rattle.model.specs.Headers.{header_span}
use Rattle.model.specs.Nodes.{Node, referring}
use Rattle.model.specs.ListFragments.{nodes_to, new_fragment}
use Rattle.model.specs.Section.{NodeList, list_fragments}
use Rattle.model.specs.Means.{Apart, Pairwise, within, data_spans}
use Rattle.meaning.proofs.Members.{flat_append}
use Rattle.meaning.proofs.Base.{references, all_front}
use Rattle.commits.specs.Stored.{Stored}
use Rattle.commits.specs.Body.{Right, Body, up_to}
use Rattle.commits.proofs.Sizes.{length_new_fragment}
use Rattle.commits.proofs.Store.{length_written, stored_written, stored_front}
use Rattle.commits.proofs.FragmentBack.{fragment_back}
use Rattle.commits.proofs.Rows.{all_both, pair_between}
use Rattle.commits.proofs.NodeAdded.{Made}
use Rattle.commits.proofs.Bodies.{all_by_end, past_apart}
use Rattle.commits.proofs.Around.{past_kept}
use Rattle.commits.proofs.SameRow.{body_same}

-- the lists, with any bytes behind the end
pub body_longer : (b : List ℕ) (h : Header) (e : ℕ) (gs : List Span) (ls : List NodeList) (new : List ℕ) → Body b h gs ls → h.end + length new ≡ e → Body (written b h.end new) (up_to h e) gs ls
body_longer b h e gs ls new d k =
    let lc = length_written b h.end new d.whole in
    let a = (all_front (λ f. end_of f ≤ h.end) gs (list_fragments ls) (all_by_end b h gs ls d).1).1 in
    body_same b (written b h.end new) h (up_to h e) gs ls d (omega arith) (omega arith) (past_kept b h.end new (list_fragments ls) d.whole a)

-- a new list, of one node in one fragment
abbrev pub new_list : ℕ → ℕ → Node → ℕ → NodeList
new_list id start n q = record { id = id; fragments = span start 1024 ∷ []; nodes = n ∷ []; free = q }

new_right : (b : List ℕ) (h : Header) (id start : ℕ) (new pad : List ℕ) (n : ℕ → Node) → Made new n → start + 1024 ≤ h.end → 16 ≤ id → id < 2 ^ 32
    → Stored b start (new_fragment id 0 new ++ pad) → Right b h (new_list id start (n (start + 16)) (start + 16 + length new))
new_right b h id start new pad n m e r i s =
    let (mk, st) = fragment_back b start id 0 new i (omega arith) m.short (stored_front b start (new_fragment id 0 new) pad s) in
    let sh = m.short in
    record {
      part = record {
        inside = ((omega arith, omega arith), tt);
        marks = (mk, tt);
        real = r;
        spread = within (m.good b (nodes_to (span start 1024)) (start + 16) st (omega arith), ap (λ z. start + 16 + z) (m.size (start + 16)));
      };
      ends = omega (arith, m.some);
    }

-- the lists and a new one behind the end
pub body_list : (b : List ℕ) (h : Header) (e : ℕ) (gs : List Span) (ls : List NodeList) (id : ℕ) (new pad : List ℕ) (n : ℕ → Node)
    → Made new n → Body b h gs ls → h.end + 1024 + length pad ≡ e → 16 ≤ id → id < 2 ^ 32 → AllByRecursion (λ l. l.id ≢ id) ls → referring 1 (n (h.end + 16) ∷ []) ≡ []
    → Body (written b h.end (new_fragment id 0 new ++ pad)) (up_to h e) gs (ls ++ (new_list id h.end (n (h.end + 16)) (h.end + 16 + length new) ∷ []))
body_list b h e gs ls id new pad n m d k r i a w =
    let E = h.end in
    let l : NodeList = new_list id E (n (E + 16)) (E + 16 + length new) in
    let fresh : Span = span E 1024 in
    let piece : List ℕ = new_fragment id 0 new ++ pad in
    let c : List ℕ = written b E piece in
    let lp : length piece ≡ 1024 + length pad = length-append (new_fragment id 0 new) pad ∙ omega (arith, length_new_fragment id 0 new m.short) in
    let s : Stored c E piece = stored_written b E piece d.whole in
    let f : Body c (up_to h e) gs ls = body_longer b h e gs ls piece d (omega arith) in
    let F : List Span = header_span ∷ (gs ++ list_fragments ls) in
    let by_end : AllByRecursion (λ f. end_of f ≤ E) F = all_by_end b h gs ls d in
    let x : header_span ∷ (gs ++ list_fragments (ls ++ (l ∷ []))) ≡ F ++ (fresh ∷ [])
    = ap (λ z. header_span ∷ z) (ap (λ z. gs ++ z) (flat_append (λ (m : NodeList). m.fragments) ls (l ∷ [])) ∙ sym (append_assoc gs (list_fragments ls) (fresh ∷ []))) in
    let y : data_spans (ls ++ (l ∷ [])) ≡ data_spans ls
    = flat_append (λ (l : NodeList). references l.nodes) ls (l ∷ []) ∙ ap (λ (z : List Node). data_spans ls ++ (map (λ m. m.reference) z ++ [])) w ∙ append-nil (data_spans ls) in
    let both : AllByRecursion (λ r. (end_of r ≤ E) × AllByRecursion (Apart r) F) (data_spans ls)
    = all_both (λ r. end_of r ≤ E) (λ r. AllByRecursion (Apart r) F) (λ r. (end_of r ≤ E) × AllByRecursion (Apart r) F) (data_spans ls) (λ r x y. (x, y)) d.data_inside d.data_apart in
    record {
      whole = f.whole;
      least = f.least;
      lists = All-append (Right c (up_to h e)) ls (l ∷ []) f.lists (new_right c (up_to h e) id E new pad n m (omega arith) r i s, tt);
      ids_differ = pair_between (λ l m. l.id ≢ m.id) ls l [] (subst (λ z. Pairwise (λ l m. l.id ≢ m.id) z) (sym (append-nil ls)) d.ids_differ) a tt;
      log_inside = f.log_inside;
      apart = subst (λ z. Pairwise Apart z) (sym x) (pair_between Apart F fresh [] (subst (λ z. Pairwise Apart z) (sym (append-nil F)) d.apart)
          (All-weaker (λ f. end_of f ≤ E) (λ x. Apart x fresh) (λ x y. past_apart E fresh x (omega arith) y) F by_end) tt);
      data_inside = subst (λ z. AllByRecursion (λ r. end_of r ≤ e) z) (sym y) f.data_inside;
      data_apart = subst (λ z. AllByRecursion (λ r. AllByRecursion (Apart r) (header_span ∷ (gs ++ list_fragments (ls ++ (l ∷ []))))) z) (sym y)
          (All-weaker (λ r. (end_of r ≤ E) × AllByRecursion (Apart r) F) (λ r. AllByRecursion (Apart r) (header_span ∷ (gs ++ list_fragments (ls ++ (l ∷ []))))) (λ r z. subst (λ v. AllByRecursion (Apart r) v) (sym x) (All-append (Apart r) F (fresh ∷ []) z.1 (past_apart E fresh r (omega arith) z.0, tt))) (data_spans ls) both);
    }
