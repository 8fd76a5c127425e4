-- A commit's last write, that of the header, makes the whole.
use Rattle.std.proofs.Common.{◌≡◌, ℕ, ◌+◌, ◌^◌, ◌<◌, ◌≤◌, List, [], ◌∷◌, ◌++◌, length, inl, inr, arith}
use Rattle.std.specs.List.{AllByRecursion}
use Rattle.std.proofs.lemmas.Bool.{cases_lt}
use Rattle.std.proofs.ByRecursion.{All-weaker}
use Rattle.model.specs.declared.types.Span.{Span}
use Rattle.model.specs.declared.types.Header.{Header}
use Rattle.model.specs.Bytes.{applied, Same}
use Rattle.model.specs.References.{end_of}
use Rattle.model.specs.Headers.{header_span}
use Rattle.model.specs.Section.{Log, NodeList, Section, count_in, list_fragments}
use Rattle.model.specs.Means.{Apart, Headed, Logs, Stands, Means}
use Rattle.model.specs.Committing.{header_write}
use Rattle.meaning.proofs.Base.{all_front}
use Rattle.commits.specs.Body.{Right, Body, Tied}
use Rattle.commits.proofs.HeadBack.{headed, header_back, head_rest}
use Rattle.commits.proofs.Rows.{all_both}
use Rattle.commits.proofs.SameRow.{body_same, logs_same}
use Rattle.commits.proofs.Around.{Kept}

-- the header's write leaves what is apart from the header
pub head_kept : (b c : List ℕ) (f : Span) → ((hi : ℕ) → Same b c 512 hi) → Apart header_span f → Kept b c f
head_kept b c f s a i l k = elim (cases_lt i 1024) [
  | inl x ↦ absurd (a i (omega arith, omega arith) (l, k))
  | inr x ↦ s (end_of f) i (omega arith) k
]

means_from : (c : List ℕ) (h : Header) (log : Log) (ls : List NodeList) → Headed c h → Logs c h log → Body c h log.fragments ls → Tied h ls
    → AllByRecursion (λ l. length l.nodes ≡ count_in log.transactions l.id) ls → length ls ≤ 1024 → length (log.fragments ++ list_fragments ls) ≤ 2048
    → Means c (record { header = h; log = log; lists = ls })
means_from c h log ls a g d t k x y = record {
  header = a;
  log = g;
  lists = all_both (Right c h) (λ l. length l.nodes ≡ count_in log.transactions l.id) (Stands c h log) ls (λ l u v. record { part = u.part; counted = v; ends = u.ends }) d.lists k;
  reached = t.reached;
  named = t.named;
  once = t.once;
  ids_differ = d.ids_differ;
  fragments_apart = d.apart;
  data_inside = d.data_inside;
  data_apart = d.data_apart;
  few_lists = x;
  few_fragments = y;
}

-- from the log and the lists as they stand before it
pub commit_head : (c : List ℕ) (s : Section) (log : Log) (ls : List NodeList) (end : ℕ) (guid : List ℕ) → Headed c s.header → length guid ≡ 16
    → s.header.count + 1 < 2 ^ 32 → s.header.generation + 1 < 2 ^ 64 → end ≤ 2 ^ 40
    → Logs c (headed s.header end guid) log → Body c (headed s.header end guid) log.fragments ls → Tied (headed s.header end guid) ls
    → AllByRecursion (λ l. length l.nodes ≡ count_in log.transactions l.id) ls → length ls ≤ 1024 → length (log.fragments ++ list_fragments ls) ≤ 2048
    → Means (applied c (header_write c s.header end guid ∷ [])) (record { header = headed s.header end guid; log = log; lists = ls })
commit_head c s log ls end guid a g u v w l d t k x y =
    let H : Header = headed s.header end guid in
    let c2 : List ℕ = applied c (header_write c s.header end guid ∷ []) in
    let lf : List Span = list_fragments ls in
    let (e, r) = head_rest c s.header end guid a.whole g in
    let wh = d.whole in
    let (p0, p1) = all_front (Apart header_span) log.fragments lf d.apart.0 in
    let k1 : AllByRecursion (Kept c c2) lf = All-weaker (Apart header_span) (Kept c c2) (λ f z. head_kept c c2 f r z) lf p1 in
    let k2 : AllByRecursion (Kept c c2) log.fragments = All-weaker (Apart header_span) (Kept c c2) (λ f z. head_kept c c2 f r z) log.fragments p0 in
    means_from c2 H log ls (header_back c s.header end guid a g u v d.least w wh) (logs_same c c2 H log k2 l) (body_same c c2 H H log.fragments ls d (omega arith) (omega arith) k1) t k x y
