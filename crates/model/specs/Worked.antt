-- Worked constants: what the rules give at the numbers of the list of `src/worked.rt`.
use Rattle.std.specs.Prelude.{ℕ, ◌-◌, Bool, true, cond, not, ◌&&◌, List, [], ◌∷◌, ◌++◌, length, ◌==◌}
use Rattle.model.specs.declared.worked.Rule.{Rule}
use Rattle.model.specs.declared.worked.Rule.TheVariants as rule
use Rattle.model.specs.declared.worked.Worked.{Worked}
use Rattle.model.specs.declared.types.Span.{Span}
use Rattle.model.specs.declared.types.Header.{Header}
use Rattle.model.specs.Bytes.{digits}
use Rattle.model.specs.Faults.{Outcome, done, refused}
use Rattle.model.specs.References.{span, share}
use Rattle.model.specs.Nodes.{id_bits, size_bits, stp_bits, cb_bits, base_bits, top_bit, node_at, hands_over}
use Rattle.model.specs.ListFragments.{nodes_from, nodes_to}
use Rattle.model.specs.LogFragments.{entry, entry_bytes, sentinel, entries_in, log_next}
use Rattle.model.specs.Section.{Section}
use Rattle.model.specs.OpenedLog.{reading, log_entries}
use Rattle.model.specs.Looks.{node_of}
use Rattle.model.specs.Layouts.{tail, Layout}
use Rattle.model.specs.Saving.{spilling}

-- 1 for yes
abbrev one_if : Bool → ℕ
one_if b = cond b 1 0

-- the number of a refusal, 0 for what is not refused
abbrev told : {A : Type 0} → Outcome A → ℕ
told (done a) = 0
told (refused f) = f.number

-- the reference of a node whose first four bytes are the number v, with three more bytes as the number r
abbrev reference_in : ℕ → ℕ → Span
reference_in v r = (node_at (digits 4 v ++ digits 3 r) 0).reference

-- how many writes a node makes that does not fit, where so many bytes are free behind the list's last node
abbrev spill_writes : ℕ → ℕ
spill_writes free =
    let y : Layout = record { end = 4096; fragments = 2; lists = 1; touched = []; tails = []; highest = 16 } in
    length (spilling y 16 [] (tail 16 (span 1024 1024) 0 (nodes_to (span 1024 1024) - free) 1)).writes

-- a log with two transactions, each with a count for the list 16
abbrev two_counts : ℕ → ℕ → ℕ
two_counts first second =
    let one = entry 16 first ∷ [] in
    let two = entry 16 second ∷ [] in
    told (log_entries 4 (entry_bytes (one ++ (sentinel one ∷ (two ++ (sentinel two ∷ []))))) 2 (span 0 44) 0 (reading [] []))

-- a look to k at node 0 of the list 16, where it is in each transaction of so many
abbrev look_back : ℕ → ℕ → ℕ
look_back count k =
    let h : Header = record { count = count; end = 0; generation = 0; version = []; hashed = span 0 0; log = span 0 0; root = span 0 0 } in
    let s : Section = record {
      header = h;
      log = record { fragments = []; transactions = (entry 16 1 ∷ []) ∷ (entry 16 2 ∷ []) ∷ []; used = 4 };
      lists = record { id = 16; fragments = []; nodes = []; free = 0 } ∷ [];
    } in
    told (node_of s k 16 0)

-- what a rule gives at two numbers
abbrev pub given : Rule → ℕ → ℕ → ℕ
given rule.NodeId v x = id_bits v
given rule.NodeSize v x = size_bits v
given rule.StartFormat v x = stp_bits v
given rule.SizeFormat v x = cb_bits v
given rule.BaseType v x = base_bits v
given rule.TopBit v x = top_bit v
given rule.ReferenceStart v r = (reference_in v r).start
given rule.ReferenceSize v r = (reference_in v r).size
given rule.IsTerminator v x = one_if (id_bits v == 0xFF)
given rule.NodeMayFollow free x = one_if (not (hands_over 0 free 0))
given rule.SpillWrites free x = spill_writes free
given rule.LogEntries size x = entries_in size
given rule.LogNext size x = log_next (span 0 size)
given rule.NodeRoom size x = nodes_to (span 0 size) - nodes_from (span 0 size)
given rule.Overlap start other = one_if (share (span start 1024) (span other 1024))
given rule.SecondCount first second = two_counts first second
given rule.LookBack count k = look_back count k

-- the rule of each gives its value
abbrev pub all_hold : List Worked → Bool
all_hold [] = true
all_hold (w ∷ ws) = given w.rule w.first w.second == w.value && all_hold ws
