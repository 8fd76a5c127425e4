-- The log's writes of a commit, all cases: its entries fit into the last log fragment, or go on in a new one at the draft's end.
use Rattle.std.proofs.Common.{◌≡◌, ℕ, ◌+◌, ◌-◌, ◌*◌, ◌%◌, ◌<◌, ◌≤◌, Bool, cond, ltb, List, [], ◌∷◌, ◌++◌, length, take, drop, replicate, sym, refl, ap, ◌∙◌, subst, inl, inr, arith}
use Rattle.std.specs.List.{AllByRecursion}
use Rattle.std.proofs.lemmas.List.{append_assoc, length-append, length-take, length-drop, take_all, drop_all, take-append-drop}
use Rattle.std.proofs.lemmas.Bool.{cases_Bool}
use Rattle.std.proofs.lemmas.Bool.Decides.{nat_tests}
use Rattle.std.proofs.ByRecursion.{All-append, All-weaker}
use Rattle.model.specs.declared.types.Span.{Span}
use Rattle.model.specs.declared.types.Entry.{Entry}
use Rattle.model.specs.declared.types.Header.{Header}
use Rattle.model.specs.Bytes.{Write, put, written, applied, behind}
use Rattle.model.specs.References.{span, end_of, span_at, span_bytes}
use Rattle.model.specs.Headers.{header_span}
use Rattle.model.specs.LogFragments.{entry_bytes, entries_in, entry_place, log_next, new_log_fragment}
use Rattle.model.specs.Section.{Log, NodeList, Section, last_of, list_fragments}
use Rattle.model.specs.Means.{Apart, Pairwise, Inside, entries_of, closed, Logs, data_spans}
use Rattle.model.specs.Layouts.{Layout}
use Rattle.model.specs.Saving.{at_end}
use Rattle.model.specs.Committing.{count_entries, new_entries, if_any, logged}
use Rattle.meaning.proofs.Base.{all_front, pairs_split}
use Rattle.commits.specs.Stored.{Stored}
use Rattle.commits.specs.Body.{Body, up_to}
use Rattle.commits.specs.Around.{Around}
use Rattle.commits.specs.Extends.{Extends}
use Rattle.commits.proofs.Sizes.{length_span_bytes, length_entry_bytes, length_new_log_fragment}
use Rattle.commits.proofs.Store.{length_written, same_written, stored_written, stored_same, stored_front, span_stored}
use Rattle.commits.proofs.FragmentBack.{Small, entries_back, log_fragment_back}
use Rattle.commits.proofs.HeadBack.{headed}
use Rattle.meaning.proofs.Growth.{last_all, last_push}
use Rattle.commits.proofs.Rows.{all_both, all_between, pair_between}
use Rattle.commits.proofs.Extended.{extends_same, extends_one}
use Rattle.commits.proofs.Bodies.{all_by_end, past_apart}
use Rattle.commits.proofs.LogAdded.{LogAgree, Follows, log_fits, log_spills, log_some, split_log, next_inside}
use Rattle.commits.proofs.Adds.{Drafted, Fine}
use Rattle.commits.proofs.SameRow.{body_same}
use Rattle.commits.proofs.Around.{Kept, around_none, around_in, around_past, other_same}

-- the finished log, of whose last fragment only what is behind the used entries was written
around_log : (b c : List ℕ) (end : ℕ) (d : Span) (fs : List Span) (used lo : ℕ) → Around b c end (last_of d fs) lo 0 0 → Pairwise Apart fs → AllByRecursion (λ f. end_of f ≤ end) fs
    → (last_of d fs).start + 8 * used ≤ lo → lo ≤ end → LogAgree b c fs used
around_log b c end d [] used lo o a h k l = tt
around_log b c end d (f ∷ []) used lo o a h k l = λ i x y. o.kept i (omega arith) (inl (omega arith))
around_log b c end d (f ∷ (g ∷ gs)) used lo o (a, as') (h, hs) k l =
    (other_same b c end (last_of f (g ∷ gs)) lo 0 0 o f (λ i x y. last_all (Apart f) f g gs a i y x) h, around_log b c end f (g ∷ gs) used lo o as' hs k l)

-- the log afterwards -----------------------------------------------------------------------------------------------------

-- where the log ends then: in its old last fragment, or in a new one if the entries do not fit
abbrev pub runs_out : Section → Layout → Bool
runs_out s y = ltb (entries_in (last_of (span 0 0) s.log.fragments).size - s.log.used) (length (new_entries y))

abbrev pub last_then : Section → Layout → Span
last_then s y = cond (runs_out s y) (span y.end 1024) (last_of (span 0 0) s.log.fragments)

abbrev pub used_then : Section → Layout → ℕ
used_then s y = cond (runs_out s y) (length (drop (entries_in (last_of (span 0 0) s.log.fragments).size - s.log.used) (new_entries y))) (s.log.used + length (new_entries y))

-- in the row c1 the log has the draft's transaction, and the lists stand as before; the log ends in `end`, of which it uses so many entries, and there are `number` fragments
pub record LogDone (c c1 : List ℕ) (s : Section) (y : Layout) (ls : List NodeList) (h : Header) (end : Span) (used' number : ℕ) : Type 0 where
  pub log : Log
  pub end' : last_of (span 0 0) log.fragments ≡ end
  pub used : log.used ≡ used'
  pub fragments : length (log.fragments ++ list_fragments ls) ≡ number
  pub extended : Extends s.log.fragments log.fragments
  pub transactions : log.transactions ≡ s.log.transactions ++ (count_entries y ∷ [])
  pub logs : Logs c1 h log
  pub body : Body c1 h log.fragments ls
  pub few : number ≤ 2048
  pub last : Span
  pub place : ℕ
  pub around : Around c c1 y.end last place 0 0
  pub apart : AllByRecursion (Apart last) (header_span ∷ list_fragments ls)
  pub data_apart : AllByRecursion (Apart last) (data_spans ls)

-- the last log fragment: where it ends, what it is apart from
record Last (s : Section) (ls : List NodeList) (g : Span) : Type 0 where
  inside : Inside 12 s.header.end g
  others : AllByRecursion (Apart g) (header_span ∷ list_fragments ls)
  contents : AllByRecursion (Apart g) (data_spans ls)

last_log : (c : List ℕ) (s : Section) (y : Layout) (ls : List NodeList) → Drafted c s y ls → Last s ls (last_of (span 0 0) s.log.fragments)
last_log c s y ls d =
    let gs = s.log.fragments in
    let lf : List Span = list_fragments ls in
    let z : Span = span 0 0 in
    let k = d.logs.part in
    let some = log_some c s.header s.log d.logs in
    let (p0, p1) = all_front (Apart header_span) gs lf d.laid.body.apart.0 in
    let (p2, p3, p4) = pairs_split Apart gs lf d.laid.body.apart.1 in
    let at : (P : Span → Type 0) → AllByRecursion P gs → P (last_of z gs) = λ P a. split_log (λ (w : List Span). AllByRecursion P w → P (last_of z w)) gs some (λ f fs i. last_all P z f fs i) a in
    record {
      inside = at (Inside 12 s.header.end) k.inside;
      others = ((λ i x y. at (Apart header_span) p0 i y x), at (λ x. AllByRecursion (Apart x) lf) p4);
      contents = All-weaker (λ r. AllByRecursion (Apart r) (header_span ∷ (gs ++ lf))) (Apart (last_of z gs)) (λ r a i x y. at (Apart r) (all_front (Apart r) gs lf a.1).0 i y x) (data_spans ls) d.laid.body.data_apart;
    }

log_done_fits : (c : List ℕ) (s : Section) (y : Layout) (ls : List NodeList) (guid : List ℕ) → Drafted c s y ls → Fine y → Follows s.log.transactions (count_entries y) → AllByRecursion Small (new_entries y)
    → s.log.used + length (new_entries y) ≤ entries_in (last_of (span 0 0) s.log.fragments).size
    → LogDone c (written c (entry_place (last_of (span 0 0) s.log.fragments) s.log.used) (entry_bytes (new_entries y))) s y ls (headed s.header y.end guid)
    (last_of (span 0 0) s.log.fragments) (s.log.used + length (new_entries y)) y.fragments
log_done_fits c s y ls guid d f w sm p =
    let gs = s.log.fragments in
    let lf : List Span = list_fragments ls in
    let E = y.end in
    let H : Header = headed s.header E guid in
    let t : List Entry = count_entries y in
    let g : Span = last_of (span 0 0) gs in
    let at : ℕ = entry_place g s.log.used in
    let new : List ℕ = entry_bytes (closed t) in
    let a = last_log c s y ls d in
    let (i0, i1) = a.inside in
    let n = next_inside g i0 in
    let ln = length_entry_bytes (closed t) in
    let wh = d.laid.body.whole in
    let la = d.later in
    let c1 : List ℕ = written c at new in
    let by_end = all_by_end c (up_to s.header E) gs ls d.laid.body in
    let (e0, e1) = all_front (λ x. end_of x ≤ E) gs lf by_end.1 in
    let o : Around c c1 E g at 0 0 = around_in c c E g at 0 0 at new (omega arith) (omega arith) (omega arith) (around_none c E g at 0 0 (omega arith) wh) in
    let (p2, p3, p4) = pairs_split Apart gs lf d.laid.body.apart.1 in
    let ag : LogAgree c c1 gs s.log.used = around_log c c1 E (span 0 0) gs s.log.used at o p2 e0 (omega arith) (omega arith) in
    let st : Stored c1 at new = stored_written c at new (omega arith) in
    let en : entries_of c1 g s.log.used (length (closed t)) ≡ closed t = entries_back c1 g s.log.used (closed t) sm st in
    let kl : AllByRecursion (Kept c c1) lf = all_both (Apart g) (λ x. end_of x ≤ E) (Kept c c1) lf (λ x u v. other_same c c1 E g at 0 0 o x u v) a.others.1 e1 in
    record {
      log = record { fragments = gs; transactions = s.log.transactions ++ (t ∷ []); used = s.log.used + length (closed t) };
      transactions = refl;
      logs = log_fits c c1 s.header H s.log t d.logs ag la refl refl w p en;
      body = body_same c c1 (up_to s.header E) H gs ls d.laid.body (omega arith) o.after kl;
      end' = refl;
      used = refl;
      fragments = sym d.laid.fragments;
      extended = extends_same gs;
      few = f.fragments;
      last = g;
      place = at;
      around = o;
      apart = a.others;
      data_apart = a.contents;
    }

-- the lists beside one log fragment more, behind what there was
body_log : (c : List ℕ) (h : Header) (e : ℕ) (gs : List Span) (ls : List NodeList) (x : Span) → Body c h gs ls → AllByRecursion (λ f. end_of f ≤ e) (header_span ∷ (gs ++ list_fragments ls))
    → AllByRecursion (λ r. end_of r ≤ e) (data_spans ls) → e ≤ x.start → end_of x ≤ h.end → Body c h (gs ++ (x ∷ [])) ls
body_log c h e gs ls x d a k l m =
    let lf : List Span = list_fragments ls in
    let q : header_span ∷ ((gs ++ (x ∷ [])) ++ lf) ≡ (header_span ∷ gs) ++ (x ∷ lf) = ap (λ z. header_span ∷ z) (append_assoc gs (x ∷ []) lf) in
    let far : AllByRecursion (λ f. Apart f x) (header_span ∷ (gs ++ lf)) = All-weaker (λ f. end_of f ≤ e) (λ f. Apart f x) (λ f u. past_apart e x f l u) (header_span ∷ (gs ++ lf)) a in
    let (u, v) = all_front (λ f. Apart f x) (header_span ∷ gs) lf far in
    record {
      whole = d.whole;
      least = d.least;
      lists = d.lists;
      ids_differ = d.ids_differ;
      log_inside = All-append (λ f. end_of f ≤ h.end) gs (x ∷ []) d.log_inside (m, tt);
      apart = subst (λ z. Pairwise Apart z) (sym q) (pair_between Apart (header_span ∷ gs) x lf d.apart u (All-weaker (λ f. Apart f x) (Apart x) (λ f w i y z. w i z y) lf v));
      data_inside = d.data_inside;
      data_apart = all_both (λ r. end_of r ≤ e) (λ r. AllByRecursion (Apart r) (header_span ∷ (gs ++ lf))) (λ r. AllByRecursion (Apart r) (header_span ∷ ((gs ++ (x ∷ [])) ++ lf))) (data_spans ls)
          (λ r y z. subst (λ w. AllByRecursion (Apart r) w) (sym q) (all_between (Apart r) (header_span ∷ gs) x lf z (past_apart e x r l y))) k d.data_apart;
    }

-- three writes: the new fragment at the end, the old next reference, and the entries that fit, perhaps none
log_done_spills : (c : List ℕ) (s : Section) (y : Layout) (ls : List NodeList) (guid : List ℕ) (fit rest : List Entry) → Drafted c s y ls → Fine y → Follows s.log.transactions (count_entries y)
    → new_entries y ≡ fit ++ rest → AllByRecursion Small fit → AllByRecursion Small rest → s.log.used + length fit ≡ entries_in (last_of (span 0 0) s.log.fragments).size
    → 1 ≤ length rest → length rest ≤ 126 → y.fragments + 1 ≤ 2048
    → let g = last_of (span 0 0) s.log.fragments in
    let piece = at_end y (new_log_fragment rest) in
    LogDone c (written (written (written c y.end piece.new) (log_next g) (span_bytes (span y.end 1024))) (entry_place g s.log.used) (entry_bytes fit)) s y ls (headed s.header (behind piece) guid)
    (span y.end 1024) (length rest) (y.fragments + 1)
log_done_spills c s y ls guid fit rest d f w q sf sr p r1 r2 few =
    let gs = s.log.fragments in
    let lf : List Span = list_fragments ls in
    let E = y.end in
    let nf : List ℕ = new_log_fragment rest in
    let pad : List ℕ = replicate ((8 - (E + length nf) % 8) % 8) 0 in
    let P : List ℕ = nf ++ pad in
    let end : ℕ = E + length P in
    let lp : length P ≡ 1024 + length pad = length-append nf pad ∙ omega (arith, length_new_log_fragment rest r2) in
    let ln0 : length nf ≡ 1024 = length_new_log_fragment rest r2 in
    let H : Header = headed s.header end guid in
    let t : List Entry = count_entries y in
    let X : Span = span E 1024 in
    let g : Span = last_of (span 0 0) gs in
    let at : ℕ = entry_place g s.log.used in
    let next : ℕ = log_next g in
    let ref : List ℕ = span_bytes X in
    let new : List ℕ = entry_bytes fit in
    let a = last_log c s y ls d in
    let (i0, i1) = a.inside in
    let n = next_inside g i0 in
    let ln = length_entry_bytes fit in
    let lr = length_span_bytes X in
    let wh = d.laid.body.whole in
    let la = d.later in
    let fe = f.end in
    let ca : List ℕ = written c E P in
    let cb : List ℕ = written ca next ref in
    let c1 : List ℕ = written cb at new in
    let la1 = length_written c E P wh in
    let la2 = length_written ca next ref (omega arith) in
    let la3 = length_written cb at new (omega arith) in
    let by_end : AllByRecursion (λ x. end_of x ≤ E) (header_span ∷ (gs ++ lf)) = all_by_end c (up_to s.header E) gs ls d.laid.body in
    let (e0, e1) = all_front (λ x. end_of x ≤ E) gs lf by_end.1 in
    let oa : Around c ca E g at 0 0 = around_past c c E g at 0 0 E P (omega arith) wh (around_none c E g at 0 0 (omega arith) wh) in
    let ob : Around c cb E g at 0 0 = around_in c ca E g at 0 0 next ref (omega arith) (omega arith) (omega arith) oa in
    let o : Around c c1 E g at 0 0 = around_in c cb E g at 0 0 at new (omega arith) (omega arith) (omega arith) ob in
    let (p2, p3, p4) = pairs_split Apart gs lf d.laid.body.apart.1 in
    let ag : LogAgree c c1 gs s.log.used = around_log c c1 E (span 0 0) gs s.log.used at o p2 e0 (omega arith) (omega arith) in
    let en : entries_of c1 g s.log.used (length fit) ≡ fit = entries_back c1 g s.log.used fit sf (stored_written cb at new (omega arith)) in
    let sb : Stored cb E nf = stored_same ca cb E nf (same_written ca next ref E (E + length nf) (omega arith) (inr (omega arith))) (omega arith) (stored_front ca E nf pad (stored_written c E P wh)) in
    let sc : Stored c1 E nf = stored_same cb c1 E nf (same_written cb at new E (E + length nf) (omega arith) (inr (omega arith))) (omega arith) sb in
    let sn : Stored c1 next ref = stored_same cb c1 next ref (same_written cb at new next (next + length ref) (omega arith) (inr (omega arith))) (omega arith) (stored_written ca next ref (omega arith)) in
    let en2 : span_at c1 next ≡ X = span_stored c1 next X (omega arith) (omega arith) sn in
    let z8 : E + 8 * 0 ≡ E = omega arith in
    let en3 : entries_of c1 X 0 (length rest) ≡ rest = entries_back c1 X 0 rest sr (subst (λ z. Stored c1 z (entry_bytes rest)) (sym z8) (log_fragment_back c1 E rest sc)) in
    let kl : AllByRecursion (Kept c c1) lf = all_both (Apart g) (λ x. end_of x ≤ E) (Kept c c1) lf (λ x u v. other_same c c1 E g at 0 0 o x u v) a.others.1 e1 in
    let far : AllByRecursion (λ x. Apart x X) (header_span ∷ gs) = All-weaker (λ x. end_of x ≤ E) (λ x. Apart x X) (λ x u. past_apart E X x (omega arith) u) (header_span ∷ gs) (by_end.0, e0) in
    let lg = length-append gs lf in
    let lx : length ((gs ++ (X ∷ [])) ++ lf) ≡ length (gs ++ lf) + 1 = length-append (gs ++ (X ∷ [])) lf ∙ omega (arith, length-append gs (X ∷ [])) in
    let df = d.laid.fragments in
    record {
      log = record { fragments = gs ++ (X ∷ []); transactions = s.log.transactions ++ (t ∷ []); used = length rest };
      transactions = refl;
      logs = log_spills c c1 s.header H s.log t fit rest X d.logs ag (omega arith) refl refl w q p en en2 en3 r1 (omega arith) (omega arith, omega arith) far (omega arith);
      body = body_log c1 H E gs ls X (body_same c c1 (up_to s.header E) H gs ls d.laid.body (omega arith) (omega arith) kl) by_end d.laid.body.data_inside (omega arith) (omega arith);
      end' = last_push (span 0 0) gs X;
      used = refl;
      fragments = omega arith;
      extended = extends_one gs E;
      few = few;
      last = g;
      place = at;
      around = o;
      apart = a.others;
      data_apart = a.contents;
    }

-- as `logged` plans it ---------------------------------------------------------------------------------------------------

any_some : (es : List Entry) (ws : List Write) → 1 ≤ length es → if_any es ws ≡ ws
any_some [] ws h = absurd (omega arith)
any_some (e ∷ es) ws h = refl

-- a write of nothing
write_none : (b : List ℕ) (p : ℕ) → written b p [] ≡ b
unfolding written
write_none b p = let e : p + 0 ≡ p = omega arith in ap (λ z. take p b ++ drop z b) e ∙ take-append-drop p b

fit_write : (b : List ℕ) (es : List Entry) (p : ℕ) → applied b (if_any es (put p (entry_bytes es) ∷ [])) ≡ written b p (entry_bytes es)
unfolding applied entry_bytes
fit_write b [] p = sym (write_none b p)
fit_write b (e ∷ es) p = refl

-- after the log's writes, whichever they are
pub log_done : (c : List ℕ) (s : Section) (y : Layout) (ls : List NodeList) (guid : List ℕ) → Drafted c s y ls → Fine y → Follows s.log.transactions (count_entries y) → AllByRecursion Small (new_entries y)
    → length (new_entries y) ≤ 126 → (logged s y).fragments ≤ 2048
    → LogDone c (applied c (logged s y).writes) s y ls (headed s.header (logged s y).end guid) (last_then s y) (used_then s y) (logged s y).fragments
unfolding applied
log_done c s y ls guid d f w sm few k = elim (cases_Bool (ltb room (length es))) [
  | inl m ↦
      let u = length-take room es in
      let v = length-drop room es in
      let b1 : room < length es = grind (arith, nat_tests) in
      let r : if_any (drop room es) news ≡ news = any_some (drop room es) news (omega arith) in
      let (x0, x1) = all_front Small (take room es) (drop room es) (subst (λ z. AllByRecursion Small z) (sym (take-append-drop room es)) sm) in
      let pl = d.logs.part.places in
      let k1 : y.fragments + 1 ≤ 2048 = rw m at k in
      rw (r, m) (subst (λ (z : List ℕ). LogDone c z s y ls (headed s.header (behind (at_end y (new_log_fragment (drop room es)))) guid) (span y.end 1024) (length (drop room es)) (y.fragments + 1))
      (sym (fit_write _ (take room es) (entry_place g s.log.used)))
      (log_done_spills c s y ls guid (take room es) (drop room es) d f w (sym (take-append-drop room es)) x0 x1 (omega arith) (omega arith) (omega arith) k1))
  | inr m ↦
      let b1 : length es ≤ room = grind (arith, nat_tests) in
      let x : take room es ≡ es = take_all room es (omega arith) in
      let z : drop room es ≡ [] = drop_all room es (omega arith) in
      let pl = d.logs.part.places in
      rw (x, z, m) (subst (λ (z : List ℕ). LogDone c z s y ls (headed s.header y.end guid) g (s.log.used + length es) y.fragments)
      (sym (fit_write c es (entry_place g s.log.used))) (log_done_fits c s y ls guid d f w sm (omega arith)))
]
  where
    g : Span
    g = last_of (span 0 0) s.log.fragments

    es : List Entry
    es = new_entries y

    room : ℕ
    room = entries_in g.size - s.log.used

    news : List Write
    news = at_end y (new_log_fragment (drop room es)) ∷ put (log_next g) (span_bytes (span y.end 1024)) ∷ []
