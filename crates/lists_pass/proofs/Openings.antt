-- One list after the other: what is left to read gives what the whole gives.
use Rattle.std.proofs.Common.{◌≡◌, ℕ, zero, suc, ◌+◌, ◌-◌, ◌<◌, ◌≤◌, true, false, ltb, List, [], ◌∷◌, ◌++◌, length, get_or, Some, None, slice_get, drop, sym, refl, ap, ◌∙◌, ap₂, inl, inr, append_assoc, append-nil, add-zero, add-one, arith, drop-cons}
use Rattle.std.proofs.lemmas.List.{length-append, length-map, length-take, get_or-take, get_or-map, drop-append-le, drop_all}
use Rattle.std.proofs.lemmas.Option.{get_or_from_slice_get, slice_get_within, slice_get_cases}
use Rattle.std.proofs.lemmas.Bool.{cases_lt}
use Rattle.std.proofs.lemmas.Bool.Decides.{nat_tests}
use Rattle.model.specs.declared.types.Span.{Span}
use Rattle.model.specs.declared.types.Fault.{Fault}
use Rattle.model.specs.declared.types.Header.{Header}
use Rattle.model.specs.Faults.{done, refused, then}
use Rattle.model.specs.ListFragments.{owner}
use Rattle.model.specs.Section.{Log, NodeList, count_in, list_fragments}
use Rattle.model.specs.OpenedLists.{list_from, named_by, named_first, named_list, lists_from}
use Rattle.counts.specs.declared.changes.Change.{Change}
use Rattle.counts.specs.Noted.{noted}
use Rattle.tables.specs.declared.room.Row.{Row}
use Rattle.tables.specs.declared.queue.Named.{Named}
use Rattle.tables.specs.Queues.{pair_of, Held}
use Rattle.tables.specs.Rows.{row_of, rows_of}
use Rattle.pieces.specs.declared.piece.Piece.{Piece}
use Rattle.lists_pass.specs.ListPieces.{SameIds}
use Rattle.lists_pass.specs.Listings.{list_of, Listed}
use Rattle.lists_pass.specs.Opening.{Opening, AllRead}
use Rattle.lists_pass.proofs.Indexings.{same_ids, indexed_none, indexed_more}

rows_more : (at : ℕ) (ls : List NodeList) (l : NodeList) → rows_of at (ls ++ (l ∷ [])) ≡ rows_of at ls ++ (row_of (at + length (list_fragments ls)) l ∷ [])
rows_more at [] l = ap (λ k. row_of k l ∷ []) (sym (add-zero at))
rows_more at (m ∷ ls) l =
    let e : at + length m.fragments + length (list_fragments ls) ≡ at + length (m.fragments ++ list_fragments ls) = omega (arith, length-append m.fragments (list_fragments ls)) in
    ap (λ rs. row_of at m ∷ rs) (rows_more (at + length m.fragments) ls l ∙ ap (λ k. rows_of (at + length m.fragments) ls ++ (row_of k l ∷ [])) e)

fragments_more : (ls : List NodeList) (l : NodeList) → list_fragments (ls ++ (l ∷ [])) ≡ list_fragments ls ++ l.fragments
fragments_more [] l = append-nil l.fragments
fragments_more (m ∷ ls) l = ap (λ fs. m.fragments ++ fs) (fragments_more ls l) ∙ sym (append_assoc m.fragments (list_fragments ls) l.fragments)

-- the n-th of all names is the n-th of the queue
name_at : (queue : List Named) (names : List (ℕ × Span)) (n : ℕ) (q : Named) → Held queue names → n < length queue → n < 1025 → q ≡ get_or queue n q
    → drop n names ≡ pair_of q ∷ drop (n + 1) names
name_at queue names n q h l m e =
    let k : n < length names = omega (arith, ap length h, length-map queue pair_of, length-take 1025 names) in
    let at : get_or names n (pair_of q) ≡ pair_of q
    = sym (get_or-take 1025 names n (pair_of q) m) ∙ ap (λ xs. get_or xs n (pair_of q)) (sym h) ∙ get_or-map pair_of queue n q (pair_of q) l ∙ ap pair_of (sym e) in
    drop-cons names n (pair_of q) k ∙ ap (λ x. x ∷ drop (suc n) names) at ∙ rw add-one refl

names_end : (queue : List Named) (names : List (ℕ × Span)) (n : ℕ) → Held queue names → length queue ≤ n → n < 1025 → drop n names ≡ []
names_end queue names n h l m = drop_all n names (omega (arith, ap length h, length-map queue pair_of, length-take 1025 names))

-- a list as the code reads it is the list that the definitions name
list_named : (b : List ℕ) (h : Header) (log : Log) (cs : List Change) (before : List Span) (rows : List Row) (ls : List NodeList) (q : Named) → length rows < 1024
    → ((id : ℕ) → noted cs id ≡ count_in log.transactions id) → before ≡ log.fragments ++ list_fragments ls
    → list_of b h.end cs before rows ls q ≡ named_list b h log ls (pair_of q) (owner b q.span)
unfolding list_of
list_named b h log cs before rows ls q l c f =
    let id = owner b q.span in
    let e : ltb (length rows) 1024 ≡ true = grind (arith, nat_tests) in
    rw e (ap₂ (λ n fs. list_from (2048 - length fs) b h.end n ls fs id q.field q.span [] []) (c id) f)

lists_next : (n k : ℕ) (b : List ℕ) (h : Header) (log : Log) (q : ℕ × Span) (qs : List (ℕ × Span)) (ls : List NodeList) → n ≡ suc k
    → lists_from n b h log (q ∷ qs) ls ≡ then (named_list b h log ls q (owner b q.1)) (λ l. lists_from k b h log (qs ++ named_by l) (ls ++ (l ∷ [])))
unfolding lists_from
lists_next n k b h log q qs ls e = rw e

lists_full : (n : ℕ) (b : List ℕ) (h : Header) (log : Log) (cs : List Change) (before : List Span) (rows : List Row) (q : Named) (qs : List (ℕ × Span)) (ls : List NodeList) (e : Fault)
    → n ≡ 0 → 1024 ≤ length rows → list_of b h.end cs before rows ls q ≡ refused e → lists_from n b h log (pair_of q ∷ qs) ls ≡ refused e
unfolding lists_from list_of
lists_full n b h log cs before rows q qs ls e z l d =
    let t : ltb (length rows) 1024 ≡ false = grind (arith, nat_tests) in
    ap (λ j. lists_from j b h log (pair_of q ∷ qs) ls) z ∙ grind (arith, nat_tests)

pub opening_none : (b : List ℕ) (h : Header) (log : Log) (rows : List Row) (ps : List Piece) (all : List Span) (queue : List Named) → all ≡ log.fragments → rows ≡ [] → ps ≡ []
    → Held queue (named_first h) → Opening b h log 0 rows ps all queue
opening_none b h log rows ps all queue f r p q = record {
  lists = [];
  names = named_first h;
  number = refl;
  few = omega arith;
  held = q;
  row = r;
  fragments = f ∙ sym (append-nil log.fragments);
  indexed = indexed_none b rows ps r p;
  fewer = omega (arith, ap length p);
  goes = refl;
}

-- as many rows as lists were read
opening_length : {b : List ℕ} {h : Header} {log : Log} {n : ℕ} {rows : List Row} {ps : List Piece} {all : List Span} {queue : List Named} → Opening b h log n rows ps all queue → n ≡ length rows
opening_length o = o.number ∙ sym o.indexed.number

-- the next name is the first of those that are left
opening_next : {b : List ℕ} {h : Header} {log : Log} {n : ℕ} {rows : List Row} {ps : List Piece} {all : List Span} {queue : List Named} {q : Named} (o : Opening b h log n rows ps all queue)
    → n < 1025 → slice_get queue n ≡ Some q
    → lists_from 1024 b h log (named_first h) [] ≡ lists_from (1024 - n) b h log (pair_of q ∷ drop (n + 1) o.names) o.lists
opening_next {n = n} {queue = queue} {q} o l s =
    let d = name_at queue o.names n q o.held (slice_get_within queue n q s) l (sym (get_or_from_slice_get queue n q q s)) in
    o.goes ∙ rw d

pub opening_more : {b : List ℕ} {h : Header} {log : Log} (cs : List Change) {n : ℕ} {rows after : List Row} {ps qs : List Piece} {all more : List Span} {queue is : List Named} (q : Named)
    → Opening b h log n rows ps all queue → ((id : ℕ) → noted cs id ≡ count_in log.transactions id) → slice_get queue n ≡ Some q
    → Listed b h.end cs all rows q after ps qs more queue is → Opening b h log (n + 1) after qs more is
opening_more {b} {h} {log} cs {n} {rows} {after} {ps} {qs} {all} {queue = queue} q o c g x =
    let k = opening_length o in
    let l = slice_get_within queue n q g in
    let m : n < 1024 = omega (arith, x.few) in
    let named : named_list b h log o.lists (pair_of q) (owner b q.span) ≡ done x.list
    = sym (list_named b h log cs all rows o.lists q x.few c o.fragments) ∙ x.gives o.lists (same_ids o.indexed) in
    let long : n + 1 ≤ length o.names = omega (arith, ap length o.held, length-map queue pair_of, length-take 1025 o.names) in
    let size : length all ≡ length log.fragments + length (list_fragments o.lists) = rw o.fragments (length-append log.fragments (list_fragments o.lists)) in
    record {
      lists = o.lists ++ (x.list ∷ []);
      names = o.names ++ named_by x.list;
      number = omega (arith, o.number, length-append o.lists (x.list ∷ []));
      few = omega arith;
      held = x.names o.names o.held;
      row = x.row ∙ ap₂ (λ rs j. rs ++ (row_of j x.list ∷ [])) o.row size ∙ sym (rows_more (length log.fragments) o.lists x.list);
      fragments = x.held ∙ rw (o.fragments, fragments_more o.lists x.list, append_assoc);
      indexed = rw x.row (indexed_more x.list (row_of (length all) x.list) (record { id = refl; fragments = refl; nodes = refl; free = refl }) x.pieces x.new o.indexed);
      fewer = x.fewer;
      goes = opening_next o (omega arith) g ∙ lists_next (1024 - n) (1024 - (n + 1)) b h log (pair_of q) (drop (n + 1) o.names) o.lists (omega arith)
          ∙ rw (named, drop-append-le (n + 1) o.names (named_by x.list) long);
    }

pub opening_refused : {b : List ℕ} {h : Header} {log : Log} (cs : List Change) {n : ℕ} {rows : List Row} {ps : List Piece} {all : List Span} {queue : List Named} (q : Named) {e : Fault}
    → Opening b h log n rows ps all queue → ((id : ℕ) → noted cs id ≡ count_in log.transactions id) → n < 1025 → slice_get queue n ≡ Some q
    → ((ls : List NodeList) → SameIds ls ps → list_of b h.end cs all rows ls q ≡ refused e) → lists_from 1024 b h log (named_first h) [] ≡ refused e
opening_refused {b} {h} {log} cs {n} {rows} {ps} {all} q {e} o c m g x =
    let k = opening_length o in
    let here = x o.lists (same_ids o.indexed) in
    opening_next o m g
    ∙ elim (cases_lt n 1024) [
      | inl lt ↦ lists_next (1024 - n) (1024 - (n + 1)) b h log (pair_of q) (drop (n + 1) o.names) o.lists (omega arith)
          ∙ rw (sym (list_named b h log cs all rows o.lists q (omega arith) c o.fragments) ∙ here)
      | inr ge ↦ lists_full (1024 - n) b h log cs all rows q (drop (n + 1) o.names) o.lists e (omega arith) (omega arith) here
    ]

lists_none : (n : ℕ) (b : List ℕ) (h : Header) (log : Log) (ls : List NodeList) → lists_from n b h log [] ls ≡ done ls
unfolding lists_from
lists_none zero b h log ls = refl
lists_none (suc n) b h log ls = refl

pub opening_end : {b : List ℕ} {h : Header} {log : Log} {n : ℕ} {rows : List Row} {ps : List Piece} {all : List Span} {queue : List Named} → Opening b h log n rows ps all queue
    → None ≡ slice_get queue n → n < 1025 → AllRead b h log rows ps all
opening_end {b} {h} {log} {n} {queue = queue} o s m =
    let l : length queue ≤ n = grind (arith, slice_get_cases {X = Named}) in
    record {
      lists = o.lists;
      row = o.row;
      fragments = o.fragments;
      indexed = o.indexed;
      gives = o.goes ∙ rw (names_end queue o.names n o.held l m) (lists_none (1024 - n) b h log o.lists);
    }
