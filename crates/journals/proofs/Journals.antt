-- The calls on a file are a journal.
use Rattle.std.proofs.Common.{◌≡◌, ℕ, suc, ◌<◌, ◌≤◌, List, [], ◌∷◌, ◌++◌, map, length, take, slice_index, None, Ok, Err, Option, Result, IfOk, sym, refl, ap, ◌∙◌, subst}
use Rattle.model.specs.declared.types.Fault.{Fault}
use Rattle.model.specs.Bytes.{Bytes, Write}
use Rattle.model.specs.Faults.{Outcome, done, refused}
use Rattle.model.specs.Section.{Section, last_of}
use Rattle.model.specs.Opened.{opened}
use Rattle.model.specs.Calls.{State, Call, open_file, begin, add, commit, abandon, looking, saving, effect, answer, writes, after}
use Rattle.model.specs.Journal.{Line, Follows, shut, Journal}
use Rattle.section.specs.declared.drafting.Draft as token
use Rattle.section.specs.declared.files.File.{File}
use Rattle.section.proofs.Calls.{refused_after, refused_writes, done_answer, done_writes}
use Rattle.journals.specs.declared.calls.Call as code
use Rattle.journals.specs.declared.calls.Line as told
use Rattle.journals.specs.Telling.{in_hand}
use Rattle.journals.specs.Making.{StandsAt}
use Rattle.journals.specs.Running.{writes_in, JournalOf, Begins, stays_shut, begins, RunsBegin, Runs, RunsNew}
use Rattle.journals.proofs.Answered.{opened_effect, look_stays, look_quiet}

take_all : (ls : List Line) → take (length ls) ls ≡ ls
take_all [] = refl
take_all (l ∷ ls) = ap (λ ms. l ∷ ms) (take_all ls)

pub journal_of : JournalOf
journal_of b ceiling mark s bytes below opens hand cs as' left end' ws ran = (
  record { bytes = b; ceiling = ceiling; mark = mark; section = s; lines = ran.lines; are_bytes = bytes; below_ceiling = below; opens = opens; follows = ran.follows },
  refl,
  refl,
  refl,
  refl,
  refl,
  ap (λ (ls : List Line). last_of (after (shut b ceiling) (open_file mark)) (map (λ l. l.state) ls)) (take_all ran.lines) ∙ ran.last,
)

-- ---- from a shut file on

module _ (b : List ℕ) (ceiling : ℕ) where
  -- a call leaves the file shut and writes nothing, or it is an opening that is accepted
  pub data OnShut (c : Call) : Type 0 where
    stays : after (shut b ceiling) c ≡ shut b ceiling → writes (shut b ceiling) c ≡ [] → OnShut c
    accepts : (mark : ℕ) (s : Section) → c ≡ open_file mark → effect (shut b ceiling) (open_file mark) ≡ done (opened_effect mark s) → OnShut c

  refuses : (c : Call) (f : Fault) → effect (shut b ceiling) c ≡ refused f → OnShut c
  refuses c f e = stays (refused_after (shut b ceiling) c f e) (refused_writes (shut b ceiling) c f e)

  on_shut : (c : Call) → OnShut c
  on_shut (open_file mark) = by_opened (opened b) refl
    where
      by_opened : (o : Outcome Section) → opened b ≡ o → OnShut (open_file mark)
      by_opened (done s) e = accepts mark s refl (rw e refl)
      by_opened (refused f) e = refuses (open_file mark) f (rw e refl)
  on_shut begin = refuses begin (saving 15) refl
  on_shut (add d a) = refuses (add d a) (saving 15) refl
  on_shut (commit d guid) = refuses (commit d guid) (saving 15) refl
  on_shut (abandon d) = refuses (abandon d) (saving 15) refl
  on_shut (looking l) = stays (look_stays (shut b ceiling) l) (look_quiet (shut b ceiling) l)

  module _ (are_bytes : Bytes b) (below : length b ≤ ceiling) (end' : State) where
    -- one more line before
    begins_later : (l : Line) (ls : List Line) (ws : List Write) → l.state ≡ shut b ceiling → writes (shut b ceiling) l.call ≡ [] → Begins b ceiling ls end' ws → Begins b ceiling (l ∷ ls) end' (writes (shut b ceiling) l.call ++ ws)
    begins_later l ls ws e q (stays_shut is none) = stays_shut is (rw (q, none) refl)
    begins_later l ls ws e q (begins before m j are shuts call said same_bytes same_ceiling last wrote) =
        begins (l ∷ before) m j (ap (λ ms. l ∷ ms) are) (e, shuts) call said same_bytes same_ceiling last (rw q wrote)

    begins_here : (l : Line) (ls : List Line) (mark : ℕ) (s : Section) → l.call ≡ open_file mark → effect (shut b ceiling) (open_file mark) ≡ done (opened_effect mark s) → l.answer ≡ answer (shut b ceiling) l.call
        → l.state ≡ after (shut b ceiling) l.call → Follows l.state ls → last_of l.state (map (λ m. m.state) ls) ≡ end' → Begins b ceiling (l ∷ ls) end' (writes (shut b ceiling) l.call ++ writes_in l.state ls)
    begins_here l ls mark s is does said then follows last =
        let says = done_answer (shut b ceiling) (open_file mark) (opened_effect mark s) does in
        let none : writes (shut b ceiling) l.call ≡ [] = ap (writes (shut b ceiling)) is ∙ done_writes (shut b ceiling) (open_file mark) (opened_effect mark s) does in
        let at : l.state ≡ after (shut b ceiling) (open_file mark) = then ∙ ap (after (shut b ceiling)) is in
        let j : Journal = record {
          bytes = b;
          ceiling = ceiling;
          mark = mark;
          section = s;
          lines = ls;
          are_bytes = are_bytes;
          below_ceiling = below;
          opens = says;
          follows = subst (λ st. Follows st ls) at follows;
        } in
        begins [] l j refl tt is (said ∙ ap (answer (shut b ceiling)) is ∙ says) refl refl
        (ap (λ (ms : List Line). last_of (after (shut b ceiling) (open_file mark)) (map (λ m. m.state) ms)) (take_all ls) ∙ ap (λ st. last_of st (map (λ (m : Line). m.state) ls)) (sym at) ∙ last)
        (ap (λ vs. vs ++ writes_in l.state ls) none ∙ ap (λ st. writes_in st ls) at)

    begins_from : (ls : List Line) → Follows (shut b ceiling) ls → last_of (shut b ceiling) (map (λ m. m.state) ls) ≡ end' → Begins b ceiling ls end' (writes_in (shut b ceiling) ls)
    begins_from [] follows last = stays_shut (sym last) refl
    begins_from (l ∷ ls) (fit, said, then, follows) last = elim (on_shut l.call) [
      | stays quiet none ↦
          let at : l.state ≡ shut b ceiling = then ∙ quiet in
          let rest = begins_from ls (subst (λ st. Follows st ls) at follows) (subst (λ st. last_of st (map (λ (m : Line). m.state) ls) ≡ end') at last) in
          subst (λ st. Begins b ceiling (l ∷ ls) end' (writes (shut b ceiling) l.call ++ writes_in st ls)) (sym at) (begins_later l ls (writes_in (shut b ceiling) ls) at none rest)
      | accepts mark s is does ↦ begins_here l ls mark s is does said then follows last
    ]

pub runs_begin : RunsBegin
runs_begin b ceiling are_bytes below hand cs as' left end' ws ran =
    subst (Begins b ceiling ran.lines end') ran.writes' (begins_from b ceiling are_bytes below end' ran.lines ran.follows ran.last)

-- ---- on a file that was just made

bytes_each : (c : List ℕ) → ((i : ℕ) → slice_index c i < 256) → Bytes c
bytes_each [] h = tt
bytes_each (x ∷ c) h = (h 0, bytes_each c (λ i. h (suc i)))

module _ {S : Type 0} (bytes : S → List ℕ) (most : S → ℕ) (wrote : S → List Write → S → Type 0) (store : S) (made new : File S) (cs : List code.Call) (before behind : List told.Line)
    (same : made.store ≡ store) (stands : StandsAt bytes most made (shut (bytes store) (most store))) (byte : (i : ℕ) → slice_index (bytes store) i < 256) (below : length (bytes store) ≤ most store) where
  runs_new : (left : Option token.Draft) → Runs bytes most wrote made None cs before new behind left → RunsNew bytes most wrote store cs before new behind left
  runs_new left r =
      let (end', ws, ran, trail, at) = r.ran (shut (bytes store) (most store)) stands in
      record {
        lines = r.lines;
        behind' = r.behind';
        end' = end';
        writes' = ws;
        ran = ran;
        wrote' = subst (λ (s : S). wrote s ws new.store) same trail;
        stands = at;
        begins' = runs_begin (bytes store) (most store) (bytes_each (bytes store) byte) below None cs r.lines (in_hand left) end' ws ran;
      }

  pub made_runs : {E : Type 0} (r : Result (Option token.Draft) E) → IfOk r (λ left. Runs bytes most wrote made None cs before new behind left) → IfOk r (λ left. RunsNew bytes most wrote store cs before new behind left)
  made_runs (Ok left) h = runs_new left h
  made_runs (Err e) h = tt
