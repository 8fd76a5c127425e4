-- Rows, fragments and counts, each as it is kept.
use Rattle.std.proofs.Common.{◌≡◌, ℕ, ◌+◌, ◌-◌, ◌≤◌, cond, List, [], ◌∷◌, ◌++◌, length, vec_len, ap, ◌∙◌, sym, subst, arith}
use Rattle.std.proofs.lemmas.Bool.Decides.{nat_tests}
use Rattle.model.specs.Faults.{done}
use Rattle.model.specs.Section.{Section}
use Rattle.model.specs.Opened.{opened}
use Rattle.model.specs.Layouts.{Add, blank}
use Rattle.meaning.proofs.OpensMeans.{opens_means}
use Rattle.commits.specs.Parts.{parts, Leaves}
use Rattle.counts.specs.declared.table.Counts.{Counts}
use Rattle.counts.specs.Noted.{changes_of}
use Rattle.pieces.specs.declared.piece.Piece.{Piece}
use Rattle.pieces.specs.declared.table.Pieces.{Pieces}
use Rattle.pieces.specs.Found.{of_list}
use Rattle.tables.specs.declared.room.Room.{Room}
use Rattle.tables.specs.declared.room.Row.{Row}
use Rattle.tables.specs.Kept.{Kept}
use Rattle.writing.specs.declared.tails.Tail.{Tail}
use Rattle.drafts.specs.declared.layout.DraftLayout.{DraftLayout}
use Rattle.drafts.specs.Lays.{Lays}
use Rattle.drafts.specs.Rowed.{Rowed}
use Rattle.keeping.specs.Given.{given, notes}
use Rattle.keeping.specs.Rows.{with_rows}
use Rattle.keeping.specs.Pieces.{put_all}
use Rattle.keeping.proofs.Tables.{indexed}
use Rattle.keeping.proofs.Touched.{counts_given}
use Rattle.keeping.proofs.Transactions.{NotesFirst, notes_on}

pub kept : (b c : List ℕ) (s : Section) (adds : List Add) (t : Section) (room : Room) (d : DraftLayout) (count : ℕ) (ts : List Tail) (qs : List Piece) (counts : Counts) (rows : List Row) (pieces : Pieces)
    → ts ≡ d.touched → qs ≡ d.added → rows ≡ with_rows ts room.lists
    → (length room.pieces.rows + length qs ≤ 2048 → (id : ℕ) → of_list id pieces.rows ≡ put_all qs id (of_list id room.pieces.rows))
    → counts.changes.items ≡ cond (notes room.counts.finished count (room.counts.room - vec_len room.counts.changes) ts) (room.counts.changes.items ++ changes_of (room.counts.finished + 1) (given ts)) room.counts.changes.items
    → counts.finished ≡ cond (notes room.counts.finished count (room.counts.room - vec_len room.counts.changes) ts) (room.counts.finished + 1) room.counts.finished
    → opened b ≡ done s → opened c ≡ done t → count ≡ s.header.count → Kept b s room → Lays s adds d → Rowed room.lists d → Leaves s adds t
    → Kept c t (record { counts = counts; fragments = room.fragments; lists = rows; queue = room.queue; pieces = pieces })
kept b c s adds t room d count ts qs counts rows pieces e f put_rows put noted finished o o' n k h r v =
    let log = (opens_means b s o).0.log in
    let all = log.finished in
    let right = notes room.counts.finished count (room.counts.room - vec_len room.counts.changes) ts in
    let on = notes_on s.log.transactions (given ts) room.counts.changes.items room.counts.finished right (λ x. grind (arith, nat_tests)) (k.changes, k.finished) in
    let same : s.log.transactions ++ (given ts ∷ []) ≡ t.log.transactions
    = ap (λ (ws : List Tail). s.log.transactions ++ (given ws ∷ [])) e ∙ ap (λ es. s.log.transactions ++ (es ∷ [])) (sym (counts_given s adds (parts (blank s) adds) d h)) ∙ sym v.transactions in
    let first = subst (λ z. NotesFirst z counts.changes.items counts.finished) same (rw (noted, finished) on) in
    record {
      changes = first.0;
      finished = first.1;
      lists = indexed b c s adds t room d (opens_means c t o').0 k h r v rows (put_rows ∙ ap (λ ws. with_rows ws room.lists) e) pieces.rows
          (subst (λ (ws : List Piece). length room.pieces.rows + length ws ≤ 2048 → (id : ℕ) → of_list id pieces.rows ≡ put_all ws id (of_list id room.pieces.rows)) f put);
    }
