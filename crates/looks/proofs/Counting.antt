-- A list's count at k, by the table of counts.
use Rattle.std.proofs.Common.{◌≡◌, ℕ, ◌≤◌, false, List, [], length, take, vec_items, sym, ap, ◌∙◌, arith}
use Rattle.std.proofs.lemmas.List.{take-take, length-take-le}
use Rattle.std.proofs.lemmas.Bool.Decides.{nat_tests}
use Rattle.model.specs.declared.types.Header.{Header}
use Rattle.model.specs.Faults.{done}
use Rattle.model.specs.Section.{Log, Section, count_in, count_at}
use Rattle.counts.specs.declared.changes.Change.{Change}
use Rattle.counts.specs.Noted.{noted_at}
use Rattle.counts.proofs.Numbered.{noted_numbered, numbered_finish}
use Rattle.tables.specs.declared.room.Room.{Room}
use Rattle.looks.specs.Answers.{Opens, counted}
use Rattle.looks.specs.Finds.{future}

module _ (b : List ℕ) (room : Room) (h : Header) (s : Section) (o : Opens b room h s) (k : ℕ) where
  pub same_future : future s.header.count k ≡ future h.count k
  same_future = ap (λ (z : Header). future z.count k) (sym o.header)

  -- the table has the first transactions
  pub noted_is : (id : ℕ) → k ≤ room.counts.finished → noted_at (vec_items room.counts.changes) k id ≡ count_at s.log k id
  noted_is id few =
      let n = room.counts.finished in
      let ts = s.log.transactions in
      let most = o.kept.finished in
      let long : length (take n ts) ≡ n = length-take-le n ts most in
      ap (λ (cs : List Change). noted_at cs k id) (o.kept.changes ∙ sym (numbered_finish (take n ts) 1)) ∙ noted_numbered (take n ts) [] k id (omega arith)
      ∙ ap (λ z. count_in z id) (take-take k n ts few)

  pub counted_done : (c n id : ℕ) → n ≡ k → future h.count k ≡ false → c ≡ count_at s.log k id → done c ≡ counted s k id
  counted_done c n id e f is = let g = same_future ∙ f in rw (g, is)

-- a count at k that is known where the file has come to k
pub counted_here : (log : Log) (count n k c id : ℕ) → n ≡ k → future count k ≡ false → (n ≤ count → c ≡ count_at log n id) → c ≡ count_at log k id
counted_here log count n k c id e f is = let few : n ≤ count = grind (arith, nat_tests) in is few ∙ ap (λ z. count_at log z id) e
