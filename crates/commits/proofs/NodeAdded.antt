-- One node more in a list: the bytes after the writes, and the list in them. It fits, or it goes into a new fragment.
use Rattle.std.proofs.Common.{◌≡◌, ℕ, ◌+◌, ◌^◌, ◌<◌, ◌≤◌, true, false, cond, leb, List, [], ◌∷◌, ◌++◌, length, sym, refl, ◌∙◌, inl, inr, arith}
use Rattle.std.proofs.lemmas.List.{length-append}
use Rattle.std.proofs.lemmas.Bool.{cases_lt}
use Rattle.std.proofs.lemmas.Bool.Decides.{nat_tests}
use Rattle.model.specs.declared.types.Span.{Span}
use Rattle.model.specs.declared.types.Header.{Header}
use Rattle.model.specs.Bytes.{le, Write, put, written, applied, Same}
use Rattle.model.specs.References.{span, end_of, span_at, span_bytes}
use Rattle.model.specs.Nodes.{Node, hands_over, plain_node, referring_node, terminator}
use Rattle.model.specs.ListFragments.{nodes_from, nodes_to, new_fragment}
use Rattle.model.specs.Section.{last_of}
use Rattle.model.specs.Means.{Apart, Pairwise, Good, PartOfList}
use Rattle.commits.specs.Stored.{Stored}
use Rattle.commits.specs.Around.{Around}
use Rattle.commits.proofs.Sizes.{length_digits, length_span_bytes, length_plain, length_referring, length_new_fragment}
use Rattle.commits.proofs.Store.{length_written, same_written, stored_written, stored_same, stored_front, span_stored}
use Rattle.commits.proofs.NodeBack.{Fair, plain_of, referring_of, plain_good, referring_good, terminator_hands, narrow_hands}
use Rattle.commits.proofs.FragmentBack.{fragment_back}
use Rattle.commits.proofs.PartKept.{part_kept, ahead_own, spread_ends}
use Rattle.meaning.proofs.Growth.{part_push, part_spill}
use Rattle.commits.proofs.Around.{around_none, around_in, around_past}

-- bytes that are a node, which depends on its place only
pub record Made (new : List ℕ) (n : ℕ → Node) : Type 0 where
  pub good : (c : List ℕ) (stop p : ℕ) → Stored c p new → p + length new ≤ stop → Good c stop p (n p)
  pub place : (p : ℕ) → (n p).place ≡ p
  pub size : (p : ℕ) → (n p).size ≡ length new
  pub short : length new ≤ 988
  pub some : 4 ≤ length new

pub plain_made : (id : ℕ) (payload : List ℕ) → Fair id → 4 + length payload ≤ 988 → Made (plain_node id payload) (λ p. plain_of p id payload)
plain_made id payload f k =
    let e = length_plain id payload in
    record {
      good = λ c stop p o h. plain_good c stop p id payload f k (omega arith) o;
      place = λ p. refl;
      size = λ p. sym e;
      short = omega arith;
      some = omega arith;
    }

pub referring_made : (id base : ℕ) (r : Span) (payload : List ℕ) → Fair id → 1 ≤ base → base ≤ 2 → 16 + length payload ≤ 988 → r.start < 2 ^ 64 → r.size < 2 ^ 32
    → Made (referring_node id base r payload) (λ p. referring_of p id base r payload)
referring_made id base r payload f j l k u w =
    let e = length_referring id base r payload in
    record {
      good = λ c stop p o h. referring_good c stop p id base r payload f j l k u w (omega arith) o;
      place = λ p. refl;
      size = λ p. sym e;
      short = omega arith;
      some = omega arith;
    }

-- it fits ------------------------------------------------------------------------------------------------------------

pub fits_list : (b : List ℕ) (h : Header) (id : ℕ) (fs : List Span) (ns : List Node) (q : ℕ) (new : List ℕ) (n : ℕ → Node)
    → Made new n → h.end ≤ length b → Pairwise Apart fs → PartOfList b h id fs ns q → q + length new ≤ nodes_to (last_of (span 0 0) fs)
    → Around b (written b q new) h.end (last_of (span 0 0) fs) q 16 8 × PartOfList (written b q new) h id fs (ns ++ (n q ∷ [])) (q + length new)
fits_list b h id fs ns q new n m e a p k =
    let g = last_of (span 0 0) fs in
    let (x, y, z, w) = spread_ends b h.end (span 0 0) p.spread p.inside in
    let o : Around b (written b q new) h.end g q 16 8 = around_in b b h.end g q 16 8 q new (omega arith) (omega arith) w (around_none b h.end g q 16 8 x e) in
    let s : Stored (written b q new) q new = stored_written b q new (omega arith) in
    let t : PartOfList (written b q new) h id fs ns q = part_kept b (written b q new) h h g q id fs ns q o (omega arith) (ahead_own (span 0 0) fs q a) p in
    (o, rw (← m.size q) (part_push (written b q new) h id fs ns q (n q) t (m.good (written b q new) (nodes_to g) q s k)))

-- it goes into a new fragment --------------------------------------------------------------------------------------------

-- the terminator, if there is room for one
abbrev pub ended : ℕ → ℕ → List Write
ended q stop = cond (leb (q + 4) stop) (put q terminator ∷ []) []

-- the row after a node went into a new fragment, the bytes of which are `piece`: it is written first, then the terminator, then the next reference
abbrev pub spilt : List ℕ → ℕ → List ℕ → ℕ → ℕ → List ℕ
spilt b end piece q stop = written (applied (written b end piece) (ended q stop)) stop (span_bytes (span end 1024))

-- the row before the last write: around the fragment, the new fragment stands, and the old one hands over
record Ready (b c : List ℕ) (end : ℕ) (g : Span) (q : ℕ) (piece : List ℕ) : Type 0 where
  around : Around b c end g q 16 8
  stands : Stored c end piece
  hands : (c' : List ℕ) → Same c c' q (nodes_to g) → end ≤ length c' → hands_over (le 4 c' q) (nodes_to g) q ≡ true

ready_ended : (b : List ℕ) (end : ℕ) (g : Span) (q : ℕ) (piece : List ℕ) → nodes_from g ≤ q → q + 4 ≤ nodes_to g → 36 ≤ g.size → end_of g ≤ end → end ≤ length b
    → Ready b (written (written b end piece) q terminator) end g q piece
ready_ended b end g q piece h j k l e =
    let c : List ℕ = written b end piece in
    let t4 = length_digits 4 0x800010FF in
    let lc = length_written b end piece e in
    let o : Around b c end g q 16 8 = around_past b b end g q 16 8 end piece (omega arith) e (around_none b end g q 16 8 h e) in
    let s : Stored c end piece = stored_written b end piece e in
    let lc' = length_written c q terminator (omega arith) in
    let w : Stored (written c q terminator) q terminator = stored_written c q terminator (omega arith) in
    record {
      around = around_in b c end g q 16 8 q terminator (omega arith) (omega arith) l o;
      stands = stored_same c (written c q terminator) end piece (same_written c q terminator end (end + length piece) (omega arith) (inr (omega arith))) (omega arith) s;
      hands = λ c' x v. terminator_hands c' (nodes_to g) q (stored_same (written c q terminator) c' q terminator (λ i y z. x i y (omega arith)) (omega arith) w);
    }

ready_narrow : (b : List ℕ) (end : ℕ) (g : Span) (q : ℕ) (piece : List ℕ) → nodes_from g ≤ q → nodes_to g < q + 4 → end ≤ length b → Ready b (written b end piece) end g q piece
ready_narrow b end g q piece h j e = record {
  around = around_past b b end g q 16 8 end piece (omega arith) e (around_none b end g q 16 8 h e);
  stands = stored_written b end piece e;
  hands = λ c' x v. narrow_hands (le 4 c' q) (nodes_to g) q j;
}

ready : (b : List ℕ) (end : ℕ) (g : Span) (q : ℕ) (piece : List ℕ) → nodes_from g ≤ q → 36 ≤ g.size → end_of g ≤ end → end ≤ length b
    → Ready b (applied (written b end piece) (ended q (nodes_to g))) end g q piece
unfolding applied
ready b end g q piece h k l e = elim (cases_lt (nodes_to g) (q + 4)) [
  | inl x ↦ let v : leb (q + 4) (nodes_to g) ≡ false = grind (arith, nat_tests) in rw v (ready_narrow b end g q piece h x e)
  | inr x ↦ let v : leb (q + 4) (nodes_to g) ≡ true = grind (arith, nat_tests) in rw v (ready_ended b end g q piece h x k l e)
]

spill_from : (b c : List ℕ) (h h' : Header) (id : ℕ) (fs : List Span) (ns : List Node) (q : ℕ) (new pad : List ℕ) (n : ℕ → Node)
    → Made new n → h.end + 1024 ≤ h'.end → h.end < 2 ^ 64 → id < 2 ^ 32 → length fs < 2 ^ 32 → Pairwise Apart fs → PartOfList b h id fs ns q
    → Ready b c h.end (last_of (span 0 0) fs) q (new_fragment id (length fs) new ++ pad)
    → let c' = written c (nodes_to (last_of (span 0 0) fs)) (span_bytes (span h.end 1024)) in
    Around b c' h.end (last_of (span 0 0) fs) q 16 8 × (h.end + 1024 + length pad ≤ length c')
    × PartOfList c' h' id (fs ++ (span h.end 1024 ∷ [])) (ns ++ (n (h.end + 16) ∷ [])) (h.end + 16 + length new)
spill_from b c h h' id fs ns q new pad n m e u i j a p r =
    let g = last_of (span 0 0) fs in
    let E = h.end in
    let stop = nodes_to g in
    let fresh : Span = span E 1024 in
    let ref : List ℕ = span_bytes fresh in
    let lr = length_span_bytes fresh in
    let sh = m.short in
    let (x, y, z, w) = spread_ends b E (span 0 0) p.spread p.inside in
    let c' : List ℕ = written c stop ref in
    let nf : List ℕ = new_fragment id (length fs) new in
    let ln : length nf ≡ 1024 = length_new_fragment id (length fs) new sh in
    let lp : length (nf ++ pad) ≡ 1024 + length pad = length-append nf pad ∙ omega arith in
    let fit = r.stands.fits in
    let lc' = length_written c stop ref (omega arith) in
    let o : Around b c' E g q 16 8 = around_in b c E g q 16 8 stop ref (omega arith) (omega arith) w r.around in
    let s : Stored c' E nf = stored_front c' E nf pad (stored_same c c' E (nf ++ pad) (same_written c stop ref E (E + length (nf ++ pad)) (omega arith) (inr (omega arith))) (omega arith) r.stands) in
    let (mk, st) = fragment_back c' E id (length fs) new i j sh s in
    let v : span_at c' stop ≡ fresh = span_stored c' stop fresh u (omega arith) (stored_written c stop ref (omega arith)) in
    let d : hands_over (le 4 c' q) stop q ≡ true = r.hands c' (same_written c stop ref q stop (omega arith) (inl (omega arith))) (omega arith) in
    let t : PartOfList c' h' id fs ns q = part_kept b c' h h' g q id fs ns q o (omega arith) (ahead_own (span 0 0) fs q a) p in
    let k : Good c' (nodes_to fresh) (E + 16) (n (E + 16)) = m.good c' (nodes_to fresh) (E + 16) st (omega arith) in
    (o, omega arith, rw (← m.size (E + 16)) (part_spill c' h' id fs ns q fresh (n (E + 16)) t d (sym v) k (omega arith, omega arith) mk))

pub spill_list : (b : List ℕ) (h h' : Header) (id : ℕ) (fs : List Span) (ns : List Node) (q : ℕ) (new pad : List ℕ) (n : ℕ → Node)
    → Made new n → h.end ≤ length b → h.end + 1024 ≤ h'.end → h.end < 2 ^ 64 → id < 2 ^ 32 → length fs < 2 ^ 32 → Pairwise Apart fs → PartOfList b h id fs ns q
    → let c = spilt b h.end (new_fragment id (length fs) new ++ pad) q (nodes_to (last_of (span 0 0) fs)) in
    Around b c h.end (last_of (span 0 0) fs) q 16 8 × (h.end + 1024 + length pad ≤ length c)
    × PartOfList c h' id (fs ++ (span h.end 1024 ∷ [])) (ns ++ (n (h.end + 16) ∷ [])) (h.end + 16 + length new)
spill_list b h h' id fs ns q new pad n m l e u i j a p =
    let (x, y, z, w) = spread_ends b h.end (span 0 0) p.spread p.inside in
    spill_from b (applied (written b h.end (new_fragment id (length fs) new ++ pad)) (ended q (nodes_to (last_of (span 0 0) fs)))) h h' id fs ns q new pad n m e u i j a p
    (ready b h.end (last_of (span 0 0) fs) q (new_fragment id (length fs) new ++ pad) x z w l)
