-- The loops over what a draft touched and made, by what is left of it.
use Rattle.std.proofs.Common.{◌≡◌, ℕ, ◌+◌, ◌<◌, ◌≤◌, List, length, get_or, drop, ap, ◌∙◌, sym}
use Rattle.std.proofs.lemmas.List.{drop_more, drop_all}
use Rattle.pieces.specs.declared.piece.Piece.{Piece}
use Rattle.pieces.specs.Found.{put_in}
use Rattle.tables.specs.declared.room.Row.{Row}
use Rattle.writing.specs.declared.tails.Tail.{Tail}
use Rattle.keeping.specs.Rows.{with_row, with_rows}
use Rattle.keeping.specs.Pieces.{put_all}

pub rows_step : (ts : List Tail) (i : ℕ) (d : Tail) (rows whole : List Row) → i < length ts → with_rows (drop i ts) rows ≡ whole → with_rows (drop (i + 1) ts) (with_row (get_or ts i d) rows) ≡ whole
unfolding with_rows
rows_step ts i d rows whole l e = sym (ap (λ z. with_rows z rows) (drop_more ts i d l)) ∙ e

pub rows_end : (ts : List Tail) (i : ℕ) (rows : List Row) → length ts ≤ i → with_rows (drop i ts) rows ≡ rows
unfolding with_rows
rows_end ts i rows l = ap (λ z. with_rows z rows) (drop_all i ts l)

pub put_step : (ps : List Piece) (i : ℕ) (d : Piece) (id : ℕ) (qs whole : List Piece) → i < length ps → put_all (drop i ps) id qs ≡ whole → put_all (drop (i + 1) ps) id (put_in (get_or ps i d) id qs) ≡ whole
unfolding put_all
put_step ps i d id qs whole l e = sym (ap (λ z. put_all z id qs) (drop_more ps i d l)) ∙ e

pub put_end : (ps : List Piece) (i : ℕ) (id : ℕ) (qs : List Piece) → length ps ≤ i → put_all (drop i ps) id qs ≡ qs
unfolding put_all
put_end ps i id qs l = ap (λ z. put_all z id qs) (drop_all i ps l)
