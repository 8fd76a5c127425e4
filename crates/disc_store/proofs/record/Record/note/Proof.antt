-- An empty body. The borrow is opened and closed at another ghost value.
use Rattle.std.proofs.Common.{ℕ, List, [], ◌∷◌, ◌++◌, refl, MutBor}
use seplogic.Ra.Ura.{Ura}
use mir.Syntax.{named}
use mir.Val.{Val, vunit, vptr}
use base.Logic.{SProp, ent, sep, emp, via, fst∗, id⊢}
use base.Fml.{GName, Lft, Share, ftrue, flft, fobs, fbor}
use prog.Memory.{Memory}
use prog.Routine.{Routine}
use prog.Wp.{Calls, Loops, WpFn, Tables}
use types.Logic.{Logic}
use contract.Monad.{Fun}
use contract.Running.{tables, tables_of}
use types.Kit.{‵, ◌⊛◌, ◌$◌, ◌∵◌, !, qed, by, move, keep, drop, use1, split, join, fsplit, fsplit3, fjoin, fjoin3, feq_i, suffices, frame, done}
use types.Run.{unit_lit, of_opd, returns, enter}
use types.SemTy.{Body}
use types.ByLocal.{alloc_all, pass_all, free_all, look_at, sets}
use sound.WpLaws.{WpFn-mono}
use denote.RattleType.{owns}
use denote.Memory.{mem}
use denote.Ref.{MutRef, mut_vals, mut_Tells}
use denote.Signature.{plain}
use denote.Steps.{opens, closes}
use denote.Triple.Entry.{on_entry}
use denote.Triple.Spec.{Meets, triple_of}
use denote.Triple.Table.{entered}
use denote.Triple.Walked.{says, Stays, stay_ref, walk_of, AllGo, Goes-ref, Walks, ends_at, walked, walk_Meets}
use Rattle.disc_store.specs.declared.record.Record.{Record}
use Rattle.disc_store.specs.Events.{event_of}
use Rattle.disc_store.specs.contracts.record.Record as T
use Rattle.disc_store.specs.contracts.record.Record.note.Key.{name as #it}
use Rattle.disc_store.specs.contracts.record.Record.note as it
use Rattle.disc_store.proofs.record.Record.note.Statement as stated
use Rattle.disc_store.proofs.record.Record.note.Code as code
use denote.Ref.{Bor}
use denote.Builtin.{u8, u64}
use denote.Exit.{yes}
use denote.Slice.{ShrSlice, slice_val, shr_slice_vals, shr_slice_Tells}
use denote.Triple.Walked.{stay_none_slice, Goes-none_slice}
use Rattle.std.proofs.Common.{◌<◌, ◌^◌, length}

abbrev Arg : Type 0
Arg = MutBor Record × (Bor (List ℕ) × (Bor (List ℕ) × Unit {0}))

abbrev stayed : Stays (it.ended).signature.params (it.ended).kept
stayed = (stay_ref (0 ∷ []) tt (plain (λ _. T.the_row)), (stay_none_slice (1 ∷ []) tt (plain (λ _. u64)) yes, (stay_none_slice (2 ∷ []) tt (plain (λ _. u8)) yes, tt)))

module _ {M : Type 1} {𝓤 : Ura M} (𝓛 : Logic 𝓤) (at_mem : Memory → SProp 𝓤) (run : Routine → Fun 𝓤) (κ κ' κ'' : Lft) (q q' q'' : Share) (b o : ℕ) (γ : GName) (h : Record) (k s : Bor (List ℕ)) where
  open 𝓛 use {H, A}

  abbrev x : Arg
  x = (record { ref_ptr = (b, o); ghost_name = γ; now = h }, (k, (s, tt)))

  abbrev h' : Record
  h' = record { marker = h.marker; events = h.events ++ (event_of k.now s.now ∷ []) }

  abbrev at : List Val × (List Val × (List Val × Unit {0}))
  at = (vptr b o ∷ [], (slice_val k.ref_ptr (length k.now) ∷ [], (slice_val s.ref_ptr (length s.now) ∷ [], tt)))

  abbrev rest : base.Fml.Fml
  rest = owns (ShrSlice (named 1) κ' u64 ∷ ShrSlice (named 2) κ'' u8 ∷ []) x.1 at.1

  abbrev Post : Val → SProp 𝓤
  Post = (walk_of 𝓛 it.ended stayed (it.clauses 𝓛 at_mem run)).post (((κ, (κ', (κ'', tt))), (q, (q', (q'', tt))), tt, x, at), tt)

  exits : ent 𝓤 (sep 𝓤 (A.obs γ ((T.the_row).coded.code h')) (sep 𝓤 (A.bor κ (Body (mem T.the_row) b o γ)) (sep 𝓤 (A.lft κ q) (sep 𝓤 (types.Logic.sem 𝓛 rest) (sep 𝓤 (A.lft κ' q') (sep 𝓤 (A.lft κ'' q'') (emp 𝓤))))))) (Post vunit)
  exits =
      qed 𝓛 (‵ (fobs γ ((T.the_row).coded.code h')) ∷ ‵ (fbor κ (Body (mem T.the_row) b o γ)) ∷ ‵ (flft κ q) ∷ ‵ rest ∷ (‵ (flft κ' q') ⊛ (‵ (flft κ'' q'') ⊛ ‵ ftrue)) ∷ []) ∵
      suffices ! _ (ends_at 𝓛 it.ended stayed (it.clauses 𝓛 at_mem run) (((κ, (κ', (κ'', tt))), (q, (q', (q'', tt))), tt, x, at), tt) vunit tt (h', (tt, (tt, tt))) (tt, (tt, (tt, tt)))) $ says ! refl $ move ! (2 ∷ 4 ∷ []) $ join ! $
      frame ! $ feq_i ! (List Val) (vptr b o ∷ []) (vptr b o ∷ []) refl $ fjoin3 ! $ fjoin ! $
      feq_i ! (List Val) (vunit ∷ []) (vunit ∷ []) refl $ move ! (1 ∷ 0 ∷ []) $ done !

  module _ (C : Calls 𝓤 H) (Λ : Loops 𝓤 H) where
    walk : length k.now < 2 ^ 64 → length s.now < 2 ^ 64 → ent 𝓤 (on_entry 𝓛 it.signature (κ, (κ', (κ'', tt))) (q, (q', (q'', tt))) x at) (WpFn 𝓤 H C Λ code.function (vptr b o ∷ slice_val k.ref_ptr (length k.now) ∷ slice_val s.ref_ptr (length s.now) ∷ []) Post)
    walk fk fs =
        qed 𝓛 ((‵ (flft κ q) ⊛ (‵ (flft κ' q') ⊛ (‵ (flft κ'' q'') ⊛ ‵ ftrue))) ∷ ‵ (owns (MutRef (named 0) κ T.the_row ∷ ShrSlice (named 1) κ' u64 ∷ ShrSlice (named 2) κ'' u8 ∷ []) x at) ∷ []) ∵ split ! $ move ! (2 ∷ []) $ fsplit ! $ fsplit3 ! $ drop ! $ move ! (0 ∷ 1 ∷ 3 ∷ []) $
        enter ! C Λ code.function (vptr b o ∷ slice_val k.ref_ptr (length k.now) ∷ slice_val s.ref_ptr (length s.now) ∷ []) _ $
        alloc_all ! (λ l. pass_all ! refl ((tt, tt), ((tt, (tt, (record { fits = fk }, tt))), ((tt, (tt, (record { fits = fs }, tt))), tt))) $
        move ! (0 ∷ 1 ∷ 2 ∷ []) $ opens ! tt T.the_row {h = h} b o (λ vs.
        sets ! (of_opd ! (unit_lit !)) refl (tt, tt) $
        move ! (1 ∷ []) $ use1 𝓛 (‵ ((T.the_row).own_val h' vs)) (id⊢ 𝓤 _) $ move ! (1 ∷ 0 ∷ []) $ closes ! tt T.the_row h' vs b o $
        returns ! (look_at ! 0 refl) $ free_all ! refl $
        keep ! (0 ∷ 1 ∷ 2 ∷ 3 ∷ 4 ∷ []) $ by ! exits))

module _ {M : Type 1} {𝓤 : Ura M} (𝓛 : Logic 𝓤) (at_mem : Memory → SProp 𝓤) (run : Routine → Fun 𝓤) where
  open 𝓛 use {H}

  walks : (C : Calls 𝓤 H) (Λ : Loops 𝓤 H) → Walks 𝓛 it.ended stayed (WpFn 𝓤 H C Λ code.function) (it.clauses 𝓛 at_mem run)
  walks C Λ = walked 𝓛 it.ended stayed (it.clauses 𝓛 at_mem run) (WpFn 𝓤 H C Λ code.function) (λ κs. (mut_vals, (shr_slice_vals, (shr_slice_vals, tt)))) (λ κs. (mut_Tells (named 0) κs.0 T.the_row, (shr_slice_Tells (named 1) κs.1.0 u64, (shr_slice_Tells (named 2) κs.1.1.0 u8, tt))))
      (λ κs qs bounds a _ are. via 𝓤 _ (fst∗ 𝓤 _ (emp 𝓤)) (walk 𝓛 at_mem run κs.0 κs.1.0 κs.1.1.0 qs.0 qs.1.0 qs.1.1.0 a.0.ref_ptr.0 a.0.ref_ptr.1 a.0.ghost_name a.0.now a.1.0 a.1.1.0 C Λ are.1.0.0.1.0 are.1.1.0.0.1.0))

  goes : AllGo 𝓛 3 (it.signature).params (it.ended).kept stayed
  goes = (Goes-ref 𝓛 3 0 tt (plain (λ _. T.the_row)), (Goes-none_slice 𝓛 3 (1 ∷ []) tt (plain (λ _. u64)) yes, (Goes-none_slice 𝓛 3 (2 ∷ []) tt (plain (λ _. u8)) yes, tt)))

meets : {M : Type 1} {𝓤 : Ura M} (𝓛 : Logic 𝓤) → (at_mem : Memory → SProp 𝓤) (run : Routine → Fun 𝓤) (𝓣 : Tables 𝓤 𝓛.H)
    → Meets 𝓛 it.signature (WpFn 𝓤 𝓛.H 𝓣.C 𝓣.Λ code.function) (it.spec 𝓛 at_mem run)
meets {𝓤 = 𝓤} 𝓛 at_mem run 𝓣 = walk_Meets 𝓛 it.ended stayed (goes 𝓛 at_mem run) (it.clauses 𝓛 at_mem run) (WpFn 𝓤 𝓛.H 𝓣.C 𝓣.Λ code.function) (WpFn-mono 𝓤 𝓛.H 𝓛.laws 𝓣 code.function) (walks 𝓛 at_mem run 𝓣.C 𝓣.Λ)

pub note_spec : {M : Type 1} → stated.statement M
unfolding tables_of
note_spec 𝓤 𝓛 𝓜 𝓡 wired =
    entered 𝓤 𝓛.H (triple_of 𝓛 it.signature (it.spec 𝓛 𝓜.mem 𝓡.returns))
    (tables 𝓤 𝓛.H 𝓜 𝓡 𝓡.env).C (tables 𝓤 𝓛.H 𝓜 𝓡 𝓡.env).Λ #it code.function (code.unfolded 𝓤 𝓛.H 𝓜 𝓡 wired)
    (meets 𝓛 𝓜.mem 𝓡.returns (tables_of 𝓤 𝓛.H 𝓜 (tables 𝓤 𝓛.H 𝓜 𝓡 𝓡.env)))
