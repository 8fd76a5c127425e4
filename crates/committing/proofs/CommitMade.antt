-- The log's writes and then the header's are the commit's.
use Rattle.std.proofs.Common.{◌≡◌, ℕ, List, [], ◌∷◌, ◌++◌, ◌+◌, length, take, refl, ap, subst, ◌∙◌, arith}
use Rattle.std.proofs.lemmas.List.{length-append, length-map}
use Rattle.model.specs.declared.types.Entry.{Entry}
use Rattle.model.specs.declared.types.Header.{Header}
use Rattle.model.specs.Bytes.{Write, put, applied}
use Rattle.model.specs.Laws.{Taken}
use Rattle.model.specs.LogFragments.{entry, sentinel}
use Rattle.writing.specs.declared.tails.Tail.{Tail}
use Rattle.committing.specs.declared.log_end.LogEnd.{LogEnd}
use Rattle.committing.specs.CommitWrites.{counts_of, entries_for, log_writes, end_then, commit_writes, Sizes}
use Rattle.committing.specs.Heads.{head_changes}
use Rattle.committing.specs.LogParts.{LogSizes}
use Rattle.committing.specs.Made.{Made}
use Rattle.committing.proofs.Trails.{made_both, made_all}

commit_is : (b : List ℕ) (h : Header) (l : LogEnd) (end behind : ℕ) (es made : List Entry) (guid old new : List ℕ)
    → made ≡ es → behind ≡ end_then l end made → old ≡ take 512 b → new ≡ applied old (head_changes h behind guid)
    → log_writes l end made ++ (put 0 new ∷ []) ≡ commit_writes b h l end es guid
unfolding commit_writes
commit_is b h l end behind es made guid old new m e o n = rw (n, o, e, m) refl

-- the entries of at most 16 lists, with the sentinel
log_sizes : (b : List ℕ) (h : Header) (l : LogEnd) (end : ℕ) (touched : List Tail) (guid : List ℕ) (es : List Entry) → Sizes b h l end touched guid
    → es ≡ entries_for touched → LogSizes l end es
log_sizes b h l end touched guid es sizes e =
    let few = sizes.few in
    let both : length es ≡ length (counts_of touched) + 1 = ap length e ∙ length-append (counts_of touched) (sentinel (counts_of touched) ∷ []) in
    let one : length (counts_of touched) ≡ length touched = length-map touched (λ (t : Tail). entry t.list t.count) in
    record { fragment = sizes.fragment; used = sizes.used; end' = sizes.end'; few = omega arith }

pub commit_made : {S : Type 0} (W : S → List Write → S → Type 0) (b : S → List ℕ) (m : S → ℕ) (s t u : S)
    (h : Header) (l : LogEnd) (end behind : ℕ) (touched : List Tail) (made : List Entry) (guid old new : List ℕ)
    → (LogSizes l end made → Made W b m s t (log_writes l end made)) → Made W b m t u (put 0 new ∷ []) → W u [] u
    → (LogSizes l end made → behind ≡ end_then l end made) → made ≡ entries_for touched
    → old ≡ take 512 (b s) → new ≡ applied old (head_changes h behind guid)
    → Sizes (b s) h l end touched guid → Taken (length (b s)) (m s) (commit_writes (b s) h l end (entries_for touched) guid)
    → W s (commit_writes (b s) h l end (entries_for touched) guid) u
commit_made W b m s t u h l end behind touched made guid old new log head none e k o n sizes taken =
    let ls = log_sizes (b s) h l end touched guid made sizes k in
    let is = commit_is (b s) h l end behind (entries_for touched) made guid old new k (e ls) o n in
    let all : Made W b m s u (commit_writes (b s) h l end (entries_for touched) guid) = subst (Made W b m s u) is (made_both W b m s t u (log_writes l end made) (put 0 new ∷ []) (log ls) head) in
    made_all W b m s u (commit_writes (b s) h l end (entries_for touched) guid) all none taken
