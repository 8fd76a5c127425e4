-- The lists, the log and the header stand in another row that has their bytes.
use Rattle.std.proofs.Common.{◌≡◌, ℕ, ◌+◌, ◌≤◌, List, [], ◌∷◌, length, take, sym, ◌∙◌, arith}
use Rattle.std.specs.List.{AllByRecursion}
use Rattle.std.proofs.lemmas.List.{ext_get_or, length-take, get_or-take}
use Rattle.std.proofs.ByRecursion.{All-weaker}
use Rattle.model.specs.declared.types.Span.{Span}
use Rattle.model.specs.declared.types.Header.{Header}
use Rattle.model.specs.Bytes.{piece, Same}
use Rattle.model.specs.References.{span, end_of}
use Rattle.model.specs.Headers.{header_span, header_at}
use Rattle.model.specs.LogFragments.{entries_in}
use Rattle.model.specs.Section.{Log, NodeList, last_of, list_fragments}
use Rattle.model.specs.Means.{Inside, Headed, Logs, data_spans}
use Rattle.model.specs.Committing.{header_write}
use Rattle.meaning.proofs.Frames.{le_in, piece_in}
use Rattle.meaning.proofs.Local.{Agree, spread_local}
use Rattle.commits.specs.Body.{Right, Body}
use Rattle.meaning.proofs.Members.{all_flat}
use Rattle.commits.proofs.Rows.{all_both}
use Rattle.commits.proofs.PartKept.{EndsSame, numbered_same, kept_ends, spread_ends, inside_more}
use Rattle.commits.proofs.LogAdded.{LogAgree, row_local, chain_local, next_inside}
use Rattle.commits.proofs.Around.{Kept}

agree_same : (b c : List ℕ) (end : ℕ) (fs : List Span) (q : ℕ) → AllByRecursion (Inside 36 end) fs → AllByRecursion (Kept b c) fs → q ≤ end_of (last_of (span 0 0) fs) → end ≤ length b → end ≤ length c → Agree b c fs q
agree_same b c end [] q a k u x y = tt
agree_same b c end (f ∷ []) q ((v, w), a) (s, k) u x y = ((λ j l h. s j l (omega arith)), omega arith, omega arith)
agree_same b c end (f ∷ (g ∷ gs)) q ((v, w), a) (s, k) u x y = ((s, omega arith, omega arith, v), agree_same b c end (g ∷ gs) q a k u x y)

right_same : (b c : List ℕ) (h h' : Header) (l : NodeList) → h.end ≤ length b → h.end ≤ length c → h.end ≤ h'.end → AllByRecursion (Kept b c) l.fragments → Right b h l → Right c h' l
right_same b c h h' l x y z k r =
    let p = r.part in
    let (u, v, w, t) = spread_ends b h.end (span 0 0) p.spread p.inside in
    record {
      part = record {
        inside = inside_more h.end h'.end l.fragments z p.inside;
        marks = numbered_same b c h.end l.id 0 l.fragments p.inside
            (all_both (Inside 36 h.end) (Kept b c) (EndsSame b c) l.fragments (λ f i s. kept_ends b c f i.0 s) p.inside k) p.marks;
        real = p.real;
        spread = spread_local b c p.spread (agree_same b c h.end l.fragments l.free p.inside k (omega arith) x y);
      };
      ends = r.ends;
    }

-- the lists' fragments are the same
pub body_same : (b c : List ℕ) (h h' : Header) (gs : List Span) (ls : List NodeList) → Body b h gs ls → h.end ≤ h'.end → h'.end ≤ length c → AllByRecursion (Kept b c) (list_fragments ls) → Body c h' gs ls
body_same b c h h' gs ls d x y k =
    let bl = d.whole in
    record {
      whole = y;
      least = omega (arith, d.least);
      lists = all_both (λ l. AllByRecursion (Kept b c) l.fragments) (Right b h) (Right c h') ls (λ l u v. right_same b c h h' l bl (omega arith) x u v) (all_flat (Kept b c) (λ (m : NodeList). m.fragments) ls k) d.lists;
      ids_differ = d.ids_differ;
      log_inside = All-weaker (λ f. end_of f ≤ h.end) (λ f. end_of f ≤ h'.end) (λ f u. omega arith) gs d.log_inside;
      apart = d.apart;
      data_inside = All-weaker (λ r. end_of r ≤ h.end) (λ r. end_of r ≤ h'.end) (λ r u. omega arith) (data_spans ls) d.data_inside;
      data_apart = d.data_apart;
    }

kept_agree : (b c : List ℕ) (end : ℕ) (fs : List Span) (used : ℕ) → AllByRecursion (Inside 12 end) fs → AllByRecursion (Kept b c) fs → used ≤ entries_in (last_of (span 0 0) fs).size → LogAgree b c fs used
kept_agree b c end [] used i k u = tt
kept_agree b c end (f ∷ []) used ((x, y), i) (s, k) u = let n = next_inside f x in λ j l h. s j l (omega arith)
kept_agree b c end (f ∷ (g ∷ gs)) used ((x, y), i) (s, k) u = (s, kept_agree b c end (g ∷ gs) used i k u)

-- the log's bytes are the same
pub logs_agree : (b c : List ℕ) (h : Header) (l : Log) → LogAgree b c l.fragments l.used → Logs b h l → Logs c h l
logs_agree b c h l a g =
    let p = g.part in
    record {
      part = record {
        chain = chain_local b c h.end h.log l.fragments l.used p.inside a p.chain;
        inside = p.inside;
        apart = p.apart;
        few = p.few;
        places = p.places;
        row = sym (row_local b c h.end l.fragments l.used p.inside a) ∙ p.row;
        lists = p.lists;
        pending_lists = p.pending_lists;
        rising = p.rising;
      };
      finished = g.finished;
      ends = g.ends;
    }

pub logs_same : (b c : List ℕ) (h : Header) (l : Log) → AllByRecursion (Kept b c) l.fragments → Logs b h l → Logs c h l
logs_same b c h l k g = logs_agree b c h l (kept_agree b c h.end l.fragments l.used g.part.inside k g.part.places) g

-- the header's bytes are the same
pub headed_same : (b c : List ℕ) (h : Header) → Kept b c header_span → h.end ≤ length c → Headed b h → Headed c h
headed_same b c h s l m =
    let w = m.whole in
    let low = m.least in
    let v : Same b c 0 1024 = λ i x y. s i (omega arith) (omega arith) in
    let row : (p : ℕ) → p + 16 ≤ 1024 → piece b p 16 ≡ piece c p 16 = λ p k. piece_in b c 0 1024 p 16 v w (omega arith) (omega arith) k in
    let q : header_at b ≡ header_at c = grind (arith, le_in 4 b c 0 1024, le_in 8 b c 0 1024, row) in
    record {
      fields = m.fields ∙ q;
      whole = omega arith;
      stored = omega arith;
      least = m.least;
      most = m.most;
      type = sym (row 0x00 (omega arith)) ∙ m.type;
      format = sym (row 0x30 (omega arith)) ∙ m.format;
      readable = rw (← le_in 4 b c 0 1024 0x4C v (omega arith) (omega arith)) m.readable;
      counts = m.counts;
    }

-- the header's write is made from the first 512 bytes
take_same : (b c : List ℕ) (n : ℕ) → n ≤ length b → n ≤ length c → Same b c 0 n → take n b ≡ take n c
take_same b c n x y s =
    let u : length (take n b) ≡ n = length-take n b ∙ omega arith in
    let v : length (take n c) ≡ n = length-take n c ∙ omega arith in
    ext_get_or 0 (take n b) (take n c) (u ∙ sym v) (λ i k. get_or-take n b i 0 (omega arith) ∙ s i (omega arith) (omega arith) ∙ sym (get_or-take n c i 0 (omega arith)))

pub heading_same : (b c : List ℕ) (h : Header) (end : ℕ) (guid : List ℕ) → 1024 ≤ length b → 1024 ≤ length c → Kept b c header_span → header_write b h end guid ≡ header_write c h end guid
heading_same b c h end guid x y s = let e = take_same b c 512 (omega arith) (omega arith) (λ i l k. s i (omega arith) (omega arith)) in rw e
