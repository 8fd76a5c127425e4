-- Fragments, and more of 1,024 bytes: what an add and a commit make of them.
use Rattle.std.proofs.Common.{◌≡◌, ℕ, ◌+◌, List, [], ◌∷◌, ◌++◌, length, arith}
use Rattle.std.proofs.lemmas.List.{length-append}
use Rattle.std.proofs.lemmas.List.Sums.{sum_by-append}
use Rattle.model.specs.declared.types.Span.{Span}
use Rattle.model.specs.References.{span}
use Rattle.model.specs.Section.{NodeList, list_fragments}
use Rattle.meaning.proofs.Members.{flat_append}
use Rattle.commits.specs.Extends.{sizes, Extends}

pub sizes_append : (xs ys : List Span) → sizes (xs ++ ys) ≡ sizes xs + sizes ys
sizes_append xs ys = sum_by-append (λ (f : Span). f.size) xs ys

pub extends_same : (fs : List Span) → Extends fs fs
extends_same fs = record { more = 0; number = omega arith; bytes = omega arith }

pub extends_one : (fs : List Span) (start : ℕ) → Extends fs (fs ++ (span start 1024 ∷ []))
extends_one fs start =
    let n = length-append fs (span start 1024 ∷ []) in
    let s = sizes_append fs (span start 1024 ∷ []) in
    record { more = 1; number = omega arith; bytes = omega arith }

pub extends_both : (gs gs' fs fs' : List Span) → Extends gs fs → Extends gs' fs' → Extends (gs ++ gs') (fs ++ fs')
extends_both gs gs' fs fs' e f =
    let n = length-append gs gs' in
    let m = length-append fs fs' in
    let s = sizes_append gs gs' in
    let t = sizes_append fs fs' in
    let a = e.number in
    let b = f.number in
    let c = e.bytes in
    let d = f.bytes in
    record { more = e.more + f.more; number = omega arith; bytes = omega arith }

-- as many fragments of as many bytes are extended alike
pub extends_as : (gs fs fs' : List Span) → length fs' ≡ length fs → sizes fs' ≡ sizes fs → Extends gs fs → Extends gs fs'
extends_as gs fs fs' n s e = let a = e.number in let b = e.bytes in record { more = e.more; number = omega arith; bytes = omega arith }

pub extends_then : (gs fs hs : List Span) → Extends gs fs → Extends fs hs → Extends gs hs
extends_then gs fs hs e f =
    let a = e.number in
    let b = f.number in
    let c = e.bytes in
    let d = f.bytes in
    record { more = e.more + f.more; number = omega arith; bytes = omega arith }

-- one list among others gets more
pub extends_instead : (pre : List NodeList) (l l' : NodeList) (post : List NodeList) → Extends l.fragments l'.fragments → Extends (list_fragments (pre ++ (l ∷ post))) (list_fragments (pre ++ (l' ∷ post)))
extends_instead pre l l' post e =
    let F : NodeList → List Span = λ l. l.fragments in
    let own = extends_both l.fragments (list_fragments post) l'.fragments (list_fragments post) e (extends_same (list_fragments post)) in
    let all = extends_both (list_fragments pre) (l.fragments ++ list_fragments post) (list_fragments pre) (l'.fragments ++ list_fragments post) (extends_same (list_fragments pre)) own in
    rw (flat_append F pre (l ∷ post), flat_append F pre (l' ∷ post)) all

-- a list of one fragment comes behind the others
pub extends_list : (ls : List NodeList) (l : NodeList) (start : ℕ) → l.fragments ≡ span start 1024 ∷ [] → Extends (list_fragments ls) (list_fragments (ls ++ (l ∷ [])))
extends_list ls l start e =
    let F : NodeList → List Span = λ l. l.fragments in
    rw (flat_append F ls (l ∷ []), e) (extends_one (list_fragments ls) start)
