-- A list as far as it is right stays so, where no byte of it is written.
use Rattle.std.proofs.Common.{◌≡◌, ℕ, ◌+◌, ◌-◌, ◌≤◌, List, [], ◌∷◌, sym, refl, ap, ◌∙◌, inl, inr, arith}
use Rattle.std.specs.List.{AllByRecursion}
use Rattle.model.specs.declared.types.Span.{Span}
use Rattle.model.specs.declared.types.Header.{Header}
use Rattle.model.specs.Bytes.{Same}
use Rattle.model.specs.References.{span, end_of}
use Rattle.model.specs.Nodes.{Node}
use Rattle.model.specs.ListFragments.{nodes_from, nodes_to}
use Rattle.model.specs.Section.{last_of}
use Rattle.model.specs.Means.{Apart, Pairwise, Inside, Spread, within, across, Numbered, PartOfList}
use Rattle.meaning.proofs.Frames.{le_in}
use Rattle.meaning.proofs.Local.{Agree, spread_local, nodes_inside, nodes_reach}
use Rattle.meaning.proofs.Base.{apart_back}
use Rattle.commits.specs.Around.{Around, Ahead}
use Rattle.meaning.proofs.Growth.{last_all}
use Rattle.commits.proofs.Around.{Kept, other_same}

-- frames -----------------------------------------------------------------------------------------------------------

-- both ends of a fragment are the same: its first 16 bytes, and its last 8
abbrev pub EndsSame : List ℕ → List ℕ → Span → Type 0
EndsSame b c f = Same b c f.start (f.start + 16) × Same b c (end_of f - 8) (end_of f)

pub numbered_same : (b c : List ℕ) (end id i : ℕ) (fs : List Span) → AllByRecursion (Inside 36 end) fs → AllByRecursion (EndsSame b c) fs → Numbered b id i fs → Numbered c id i fs
numbered_same b c end id i [] a k m = tt
numbered_same b c end id i (f ∷ fs) ((x, y), a) ((s, t), k) (m, ms) = (
  record {
    first = sym (le_in 8 b c f.start (f.start + 16) f.start s (omega arith) (omega arith)) ∙ m.first;
    last = sym (le_in 8 b c (end_of f - 8) (end_of f) (end_of f - 8) t (omega arith) (omega arith)) ∙ m.last;
    list = sym (le_in 4 b c f.start (f.start + 16) (f.start + 8) s (omega arith) (omega arith)) ∙ m.list;
    sequence_number = sym (le_in 4 b c f.start (f.start + 16) (f.start + 12) s (omega arith) (omega arith)) ∙ m.sequence_number;
  },
  numbered_same b c end id (i + 1) fs a k ms,
)

pub kept_ends : (b c : List ℕ) (f : Span) → 36 ≤ f.size → Kept b c f → EndsSame b c f
kept_ends b c f h s = (λ i l j. s i l (omega arith), λ i l j. s i (omega arith) j)

ends_kept : (b c : List ℕ) (end : ℕ) (g : Span) (lo : ℕ) → Around b c end g lo 16 8 → (fs : List Span) (q : ℕ) → AllByRecursion (Inside 36 end) fs → Ahead g lo fs q → AllByRecursion (EndsSame b c) fs
ends_kept b c end g lo o [] q a h = tt
ends_kept b c end g lo o (f ∷ []) q ((x, y), as') (inl (e, l)) =
    let from = o.from in
    let start : f.start ≡ g.start = ap (λ (x : Span). x.start) e in
    let size : f.size ≡ g.size = ap (λ (x : Span). x.size) e in
    (((λ i m k. o.kept i (omega arith) (inl (omega arith))), λ i m k. o.kept i (omega arith) (inr (omega arith))), tt)
ends_kept b c end g lo o (f ∷ []) q ((x, y), as') (inr h) = (kept_ends b c f x (other_same b c end g lo 16 8 o f h y), tt)
ends_kept b c end g lo o (f ∷ (f' ∷ fs)) q ((x, y), as') (h, hs) = (kept_ends b c f x (other_same b c end g lo 16 8 o f h y), ends_kept b c end g lo o (f' ∷ fs) q as' hs)

agree_kept : (b c : List ℕ) (end : ℕ) (g : Span) (lo : ℕ) → Around b c end g lo 16 8 → (fs : List Span) (q : ℕ) → AllByRecursion (Inside 36 end) fs → q ≤ end_of (last_of (span 0 0) fs) → Ahead g lo fs q → Agree b c fs q
agree_kept b c end g lo o [] q a u h = tt
agree_kept b c end g lo o (f ∷ []) q ((x, y), as') u (inl (e, l)) =
    ((λ i m k. o.kept i (omega arith) (inl (omega arith))), omega (arith, o.before), omega (arith, o.after))
agree_kept b c end g lo o (f ∷ []) q ((x, y), as') u (inr h) =
    let s = other_same b c end g lo 16 8 o f h y in
    ((λ i m k. s i m (omega arith)), omega (arith, o.before), omega (arith, o.after))
agree_kept b c end g lo o (f ∷ (f' ∷ fs)) q ((x, y), as') u (h, hs) =
    let s = other_same b c end g lo 16 8 o f h y in
    ((s, omega (arith, o.before), omega (arith, o.after), x), agree_kept b c end g lo o (f' ∷ fs) q as' u hs)

-- where the nodes of a chain end
pub spread_ends : (b : List ℕ) (end : ℕ) (d : Span) {fs : List Span} {ns : List Node} {q : ℕ} → Spread b fs ns q → AllByRecursion (Inside 36 end) fs
    → (nodes_from (last_of d fs) ≤ q) × (q ≤ nodes_to (last_of d fs)) × (36 ≤ (last_of d fs).size) × (end_of (last_of d fs) ≤ end)
spread_ends b end d (within {f = f} {ns = ns} {q = q} h) ((x, y), as') =
    (nodes_reach b (nodes_to f) (nodes_from f) ns q h, nodes_inside b (nodes_to f) (nodes_from f) ns q (omega arith) h, x, y)
spread_ends b end d (across {f = f} {g = g} {gs = gs} ns ms p h o e t u) (x, as') = spread_ends b end f t as'

pub inside_more : (end end' : ℕ) (fs : List Span) → end ≤ end' → AllByRecursion (Inside 36 end) fs → AllByRecursion (Inside 36 end') fs
inside_more end end' [] h a = tt
inside_more end end' (f ∷ fs) h ((x, y), a) = ((x, omega arith), inside_more end end' fs h a)

-- a list's part, under a header with a later end
pub part_kept : (b c : List ℕ) (h h' : Header) (g : Span) (lo id : ℕ) (fs : List Span) (ns : List Node) (q : ℕ) → Around b c h.end g lo 16 8 → h.end ≤ h'.end → Ahead g lo fs q
    → PartOfList b h id fs ns q → PartOfList c h' id fs ns q
part_kept b c h h' g lo id fs ns q o k a p =
    let (x, y, z, w) = spread_ends b h.end (span 0 0) p.spread p.inside in
    record {
      inside = inside_more h.end h'.end fs k p.inside;
      marks = numbered_same b c h.end id 0 fs p.inside (ends_kept b c h.end g lo o fs q p.inside a) p.marks;
      real = p.real;
      spread = spread_local b c p.spread (agree_kept b c h.end g lo o fs q p.inside (omega arith) a);
    }

-- which fragments have none of the bytes -----------------------------------------------------------------------------------

pub ahead_other : (g : Span) (lo : ℕ) (fs : List Span) (q : ℕ) → AllByRecursion (Apart g) fs → Ahead g lo fs q
ahead_other g lo [] q a = tt
ahead_other g lo (f ∷ []) q (x, a) = inr x
ahead_other g lo (f ∷ (f' ∷ fs)) q (x, a) = (x, ahead_other g lo (f' ∷ fs) q a)

pub ahead_own : (d : Span) (fs : List Span) (q : ℕ) → Pairwise Apart fs → Ahead (last_of d fs) q fs q
ahead_own d [] q a = tt
ahead_own d (f ∷ []) q a = inl (refl, omega arith)
ahead_own d (f ∷ (f' ∷ fs)) q (a, as') = (apart_back f (last_of f (f' ∷ fs)) (last_all (Apart f) f f' fs a), ahead_own f (f' ∷ fs) q as')
