-- After a commit the bytes open to a section with the count one higher, in which each list holds what it held and then the draft's nodes.
use Rattle.std.proofs.Common.{◌≡◌, ℕ, ◌≤◌, true, false, eqb, ◌≢◌, List, [], ◌∷◌, ◌++◌, map, length, sym, refl, ap, ◌∙◌, inl, inr, arith}
use Rattle.std.proofs.lemmas.Bool.{cases_Bool}
use Rattle.std.proofs.lemmas.Bool.Decides.{nat_tests}
use Rattle.model.specs.Bytes.{applied, Bytes}
use Rattle.model.specs.Faults.{Outcome, done}
use Rattle.model.specs.Nodes.{Node}
use Rattle.model.specs.References.{span}
use Rattle.model.specs.Section.{Log, NodeList, Section, last_of, list_fragments}
use Rattle.model.specs.OpenedLists.{taken}
use Rattle.model.specs.Opened.{opened}
use Rattle.model.specs.Means.{Pairwise, Means}
use Rattle.model.specs.Looks.{nodes_of}
use Rattle.model.specs.Layouts.{Add, blank}
use Rattle.model.specs.Saving.{layout}
use Rattle.model.specs.Committing.{count_entries, logged, committing}
use Rattle.model.specs.Calls.{commit_checks}
use Rattle.model.specs.Contents.{holds, held_in, held, saved}
use Rattle.model.specs.Laws.{DoneAdds, add_writes, CommitReads}
use Rattle.meaning.proofs.Base.{Clean}
use Rattle.meaning.proofs.Members.{In, all_in}
use Rattle.meaning.proofs.ReadQueue.{Stock}
use Rattle.meaning.proofs.MeantOpens.{means_opens}
use Rattle.meaning.proofs.OpensMeans.{opens_means}
use Rattle.commits.specs.Laid.{Laid}
use Rattle.commits.specs.Extends.{Extends}
use Rattle.commits.specs.Parts.{parts}
use Rattle.commits.proofs.HeadBack.{headed}
use Rattle.commits.proofs.Parting.{Parting}
use Rattle.commits.proofs.Counting.{Counting}
use Rattle.commits.proofs.LogWritten.{last_then, used_then}
use Rattle.commits.proofs.Contents.{lists_held}
use Rattle.commits.proofs.Drafts.{blank_drafted, adds_drafted}
use Rattle.commits.proofs.DraftCommitted.{commit_done}

-- the order of the lists does not matter ---------------------------------------------------------------------------------

pub taken_in : (ls : List NodeList) (id : ℕ) → taken id ls ≡ true → (l : NodeList) × In l ls × (l.id ≡ id)
taken_in [] id e = absurd (grind arith)
taken_in (k ∷ ls) id e = elim (cases_Bool (eqb k.id id)) [
  | inl x ↦ (k, inl refl, grind (arith, nat_tests))
  | inr x ↦ let (l, i, q) = taken_in ls id (rw x at e) in (l, inr i, q)
]

pub in_taken : (ls : List NodeList) (l : NodeList) (id : ℕ) → In l ls → l.id ≡ id → taken id ls ≡ true
in_taken [] l id i e = absurd i
in_taken (k ∷ ls) l id (inl q) e =
    let u : k.id ≡ l.id = ap (λ (m : NodeList). m.id) q in
    let x : eqb k.id id ≡ true = grind (arith, nat_tests) in
    rw x
in_taken (k ∷ ls) l id (inr i) e = elim (cases_Bool (eqb k.id id)) [
  | inl x ↦ rw x
  | inr x ↦ rw x (in_taken ls l id i e)
]

nodes_none : (ls : List NodeList) (id : ℕ) → taken id ls ≡ false → nodes_of ls id ≡ []
unfolding nodes_of
nodes_none [] id e = refl
nodes_none (k ∷ ls) id e = elim (cases_Bool (eqb k.id id)) [
  | inl x ↦ absurd (grind (arith, nat_tests))
  | inr x ↦ rw x (nodes_none ls id (rw x at e))
]

pub nodes_in : (ls : List NodeList) (l : NodeList) (id : ℕ) → Pairwise (λ l m. l.id ≢ m.id) ls → In l ls → l.id ≡ id → nodes_of ls id ≡ l.nodes
unfolding nodes_of
nodes_in [] l id d i e = absurd i
nodes_in (k ∷ ls) l id (d, ds) (inl q) e =
    let u : k.id ≡ l.id = ap (λ (m : NodeList). m.id) q in
    let x : eqb k.id id ≡ true = grind (arith, nat_tests) in
    rw x (ap (λ (m : NodeList). m.nodes) q)
nodes_in (k ∷ ls) l id (d, ds) (inr i) e = elim (cases_Bool (eqb k.id id)) [
  | inl x ↦ absurd (all_in (λ m. k.id ≢ m.id) ls l d i (let u : k.id ≡ id = grind (arith, nat_tests) in u ∙ sym e))
  | inr x ↦ rw x (nodes_in ls l id ds i e)
]

pub taken_same : (S T : List NodeList) (id : ℕ) → ((l : NodeList) → In l S → In l T) → ((l : NodeList) → In l T → In l S) → taken id T ≡ taken id S
taken_same S T id f g = elim (cases_Bool (taken id S)) [
  | inl e ↦ let (l, i, q) = taken_in S id e in in_taken T l id (f l i) q ∙ sym e
  | inr e ↦ elim (cases_Bool (taken id T)) [
    | inl x ↦ let (l, i, q) = taken_in T id x in x ∙ sym (in_taken S l id (g l i) q)
    | inr x ↦ x ∙ sym e
  ]
]

nodes_same : (S T : List NodeList) (id : ℕ) → ((l : NodeList) → In l S → In l T) → ((l : NodeList) → In l T → In l S) → Pairwise (λ l m. l.id ≢ m.id) S → Pairwise (λ l m. l.id ≢ m.id) T
    → nodes_of T id ≡ nodes_of S id
nodes_same S T id f g c d = elim (cases_Bool (taken id S)) [
  | inl e ↦ let (l, i, q) = taken_in S id e in nodes_in T l id d (f l i) q ∙ sym (nodes_in S l id c i q)
  | inr e ↦ nodes_none T id (taken_same S T id f g ∙ e) ∙ sym (nodes_none S id e)
]

-- what is read after a commit ----------------------------------------------------------------------------------------------

pub record ReadAfter (b c : List ℕ) (s : Section) (adds : List Add) (guid : List ℕ) : Type 0 where
  pub lists : List NodeList
  pub log : Log
  pub opens : opened c ≡ done (record { header = headed s.header (logged s (layout s adds)).end guid; log = log; lists = lists })
  pub transactions : log.transactions ≡ s.log.transactions ++ (count_entries (layout s adds) ∷ [])
  pub grown : (id : ℕ) → map (holds c) (nodes_of lists id) ≡ map (holds b) (nodes_of s.lists id) ++ saved (blank s) adds id
  pub known : (id : ℕ) → id ≤ (blank s).highest → taken id lists ≡ taken id s.lists
  -- the lists of the draft, of which these are the same in some order
  pub draft : List NodeList
  pub laid : Laid (applied b (add_writes (blank s) adds)) s (layout s adds) draft
  pub counting : Counting s (layout s adds).touched (layout s adds).highest draft
  pub parting : Parting (blank s).highest s.lists (layout s adds).highest draft (parts (blank s) adds)
  pub stock : Stock (headed s.header (logged s (layout s adds)).end guid) log draft lists
  pub last : last_of (span 0 0) log.fragments ≡ last_then s (layout s adds)
  pub used : log.used ≡ used_then s (layout s adds)
  pub fragments : length (log.fragments ++ list_fragments draft) ≡ (logged s (layout s adds)).fragments
  pub extended : Extends s.log.fragments log.fragments

pub read_after : (b : List ℕ) (ceiling : ℕ) (s : Section) (adds : List Add) (guid : List ℕ) → Bytes b → length guid ≡ 16 → Means b s → DoneAdds ceiling (blank s) adds → Clean (commit_checks ceiling s adds guid)
    → ReadAfter b (applied (applied b (add_writes (blank s) adds)) (committing (applied b (add_writes (blank s) adds)) s adds guid)) s adds guid
read_after b ceiling s adds guid a g m k cs =
    let c : List ℕ = applied b (add_writes (blank s) adds) in
    let c2 : List ℕ = applied c (committing c s adds guid) in
    let (d0, f0) = blank_drafted b s a m in
    let (ms, d, gr, f) = adds_drafted b ceiling s (blank s) s.lists adds d0 f0 k in
    let r = commit_done c ceiling s adds ms guid d f g cs in
    let (T, o, st, io) = means_opens c2 _ r.means in
    record {
      lists = T;
      log = r.log;
      opens = o;
      transactions = r.transactions;
      grown = λ id. ap (λ (z : List Node). map (holds c2) z) (nodes_same ms T id st.from st.to r.means.ids_differ st.ids) ∙ lists_held c c2 ms id r.data_same ∙ gr.grown id;
      known = λ id h. taken_same ms T id st.from st.to ∙ gr.known id h;
      draft = ms;
      laid = d.laid;
      counting = d.counting;
      parting = gr.parting;
      stock = st;
      last = r.last;
      used = r.used;
      fragments = r.fragments;
      extended = r.extended;
    }

-- as the model states it
pub commit_reads : CommitReads
unfolding held
commit_reads b ceiling s adds guid a _ g o k cs =
    let c : List ℕ = applied b (add_writes (blank s) adds) in
    let c2 : List ℕ = applied c (committing c s adds guid) in
    let r = read_after b ceiling s adds guid a g (opens_means b s o).0 k cs in
    record {
      section = record { header = headed s.header (logged s (layout s adds)).end guid; log = r.log; lists = r.lists };
      opens = r.opens;
      count = refl;
      generation = refl;
      version = refl;
      end = refl;
      grown = λ id. ap (λ (z : Outcome Section). held_in c2 z id) r.opens ∙ r.grown id ∙ ap (λ (z : Outcome Section). held_in b z id ++ saved (blank s) adds id) (sym o);
    }
