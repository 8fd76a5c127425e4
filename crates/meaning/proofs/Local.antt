-- Nodes stand in another row that agrees on their fragments.
use Rattle.std.proofs.Common.{◌≡◌, ℕ, ◌+◌, ◌≤◌, true, List, [], ◌∷◌, length, ap, ◌∙◌, arith}
use Rattle.model.specs.declared.types.Span.{Span}
use Rattle.model.specs.Bytes.{le, Same}
use Rattle.model.specs.References.{end_of, span_at}
use Rattle.model.specs.Nodes.{Node, size_bits, reference_width, node_at, hands_over}
use Rattle.model.specs.ListFragments.{nodes_from, nodes_to}
use Rattle.model.specs.Means.{Good, Nodes, Spread, within, across}
use Rattle.meaning.proofs.Frames.{le_in, node_within}

pub good_local : (b c : List ℕ) (stop p : ℕ) (n : Node) (hi : ℕ) → Same b c p hi → hi ≤ length b → hi ≤ length c → p + n.size ≤ hi → Good b stop p n → Good c stop p n
good_local b c stop p n hi s x y h g =
    let e : n ≡ node_at b p = g.fields in
    let f : n.size ≡ size_bits (le 4 b p) = ap (λ m. m.size) e in
    let parts : 4 + reference_width (le 4 b p) ≤ size_bits (le 4 b p) = rw f at g.parts in
    let v : le 4 b p ≡ le 4 c p = le_in 4 b c p hi p s (omega arith) (omega arith) in
    let m : node_at b p ≡ node_at c p = node_within b c p hi p s x y (omega arith) parts (omega arith) in
    record {
      fields = e ∙ m;
      named = g.named;
      no_terminator = g.no_terminator;
      top = rw v at g.top;
      base = g.base;
      parts = rw v at g.parts;
      ends = g.ends;
    }

pub nodes_reach : (b : List ℕ) (stop p : ℕ) (ns : List Node) (q : ℕ) → Nodes b stop p ns q → p ≤ q
nodes_reach b stop p [] q h = omega arith
nodes_reach b stop p (n ∷ ns) q h = let k = nodes_reach b stop (p + n.size) ns q h.1 in omega arith

pub nodes_local : (b c : List ℕ) (stop p : ℕ) (ns : List Node) (q : ℕ) → Same b c p q → q ≤ length b → q ≤ length c → Nodes b stop p ns q → Nodes c stop p ns q
nodes_local b c stop p [] q s x y h = h
nodes_local b c stop p (n ∷ ns) q s x y h =
    let k = nodes_reach b stop (p + n.size) ns q h.1 in
    (good_local b c stop p n q s x y k h.0, nodes_local b c stop (p + n.size) ns q (λ i l j. s i (omega arith) j) x y h.1)

-- two rows agree on a chain: on each fragment but the last, and in that up to q
abbrev pub Agree : List ℕ → List ℕ → List Span → ℕ → Type 0
Agree b c [] q = Unit {0}
Agree b c (f ∷ []) q = Same b c f.start q × (q ≤ length b) × (q ≤ length c)
Agree b c (f ∷ (g ∷ gs)) q = (Same b c f.start (end_of f) × (end_of f ≤ length b) × (end_of f ≤ length c) × (36 ≤ f.size)) × Agree b c (g ∷ gs) q

pub nodes_inside : (b : List ℕ) (stop p : ℕ) (ns : List Node) (q : ℕ) → p ≤ stop → Nodes b stop p ns q → q ≤ stop
nodes_inside b stop p [] q l h = omega arith
nodes_inside b stop p (n ∷ ns) q l h = nodes_inside b stop (p + n.size) ns q h.0.ends h.1

pub span_local : (b c : List ℕ) (lo hi p : ℕ) → Same b c lo hi → lo ≤ p → p + 12 ≤ hi → span_at b p ≡ span_at c p
span_local b c lo hi p s l h = grind (arith, le_in 8 b c lo hi, le_in 4 b c lo hi)

pub hands_local : (b c : List ℕ) (f : Span) (p : ℕ) → Same b c f.start (end_of f) → 36 ≤ f.size → f.start ≤ p → p ≤ nodes_to f
    → hands_over (le 4 b p) (nodes_to f) p ≡ true → hands_over (le 4 c p) (nodes_to f) p ≡ true
hands_local b c f p s z l h e = rw (← le_in 4 b c f.start (end_of f) p s l (omega arith)) e

pub spread_local : (b c : List ℕ) {fs : List Span} {ns : List Node} {q : ℕ} → Spread b fs ns q → Agree b c fs q → Spread c fs ns q
spread_local b c (within {f = f} {ns = ns} {q = q} h) a = within (nodes_local b c (nodes_to f) (nodes_from f) ns q (λ i l j. a.0 i (omega arith) j) a.1 a.2 h)
spread_local b c (across {f = f} {g = g} {gs = gs} ns ms p h o e t u) a =
    let w = nodes_inside b (nodes_to f) (nodes_from f) ns p (omega arith) h in
    let r = nodes_reach b (nodes_to f) (nodes_from f) ns p h in
    across ns ms p
    (nodes_local b c (nodes_to f) (nodes_from f) ns p (λ i l j. a.0.0 i (omega arith) (omega arith)) (omega arith) (omega arith) h)
    (hands_local b c f p a.0.0 a.0.3 (omega arith) w o)
    (e ∙ span_local b c f.start (end_of f) (nodes_to f) a.0.0 (omega arith) (omega arith))
    (spread_local b c t a.1) u
