-- Opening a file that is not opened, and looking at one that is.
use Rattle.std.proofs.Common.{◌≡◌, ℕ, List, [], None, refl, arith}
use Rattle.model.specs.Bytes.{applied}
use Rattle.model.specs.Faults.{Outcome, done, refused, then}
use Rattle.model.specs.Section.{Section}
use Rattle.model.specs.Opened.{opened}
use Rattle.model.specs.Looks.{Look, look}
use Rattle.model.specs.Calls.{Access, open_file, looking, accepted, saw, Effect, access_of, answer_of, writes_of, access_after, answer, writes, after}
use Rattle.model.specs.Journal.{shut}
use Rattle.model.specs.Laws.{OpensSound}
use Rattle.lasting.proofs.Effects.{open_state}

-- what opening a shut file does, by what its bytes hold
abbrev opening_effect : ℕ → Outcome Section → Outcome Effect
opening_effect mark o = then o (λ section. done (record { answer = accepted section; writes = []; access = access_of mark 0 None }))

accepted_opened : (o : Outcome Section) (mark : ℕ) (section : Section) → answer_of (opening_effect mark o) ≡ accepted section → o ≡ done section
accepted_opened (done s) mark section e = grind arith
accepted_opened (refused f) mark section e = grind arith

pub opens_sound : OpensSound
unfolding answer after writes applied
opens_sound b ceiling mark section bytes below e =
    let o : opened b ≡ done section = accepted_opened (opened b) mark section e in
    let w : writes_of (opening_effect mark (opened b)) ≡ [] = rw o in
    let d : access_after None (opening_effect mark (opened b)) ≡ access_of mark 0 None = rw o in
    let bs : applied b (writes_of (opening_effect mark (opened b))) ≡ b = rw w in
    record {
      access = record { mark = mark; begins = 0; draft = None };
      open' = d;
      start = b;
      section = section;
      are_bytes = bytes;
      finished = o;
      count = refl;
      same_ceiling = refl;
      below_ceiling = rw bs below;
      adds = tt;
      bytes = bs;
    }

module _ (b : List ℕ) (s : Section) (opens : opened b ≡ done s) (ceiling mark : ℕ) where
  -- bytes that open as s are accepted as s
  pub opened_answer : answer (shut b ceiling) (open_file mark) ≡ accepted s
  unfolding answer
  opened_answer = rw opens

  -- and then looked at
  pub opened_look : (l : Look) → answer (after (shut b ceiling) (open_file mark)) (looking l) ≡ saw (look b l)
  unfolding answer after writes applied
  opened_look l = rw opens

-- a look at an opened file is one over its bytes
pub sees : (ceiling : ℕ) (b : List ℕ) (d : Access) (l : Look) → answer (open_state ceiling b d) (looking l) ≡ saw (look b l)
unfolding answer
sees ceiling b d l = refl
