-- A small file, computed: root list 16 at 1,024 with one node, the log at 2,048, both 1,024 long, one transaction, end 3,072.
use Rattle.std.specs.Prelude.{◌≡◌, ℕ, ◌-◌, ◌^◌, List, [], ◌∷◌, ◌++◌, map, length, take, replicate, Some, None, refl}
use Rattle.model.specs.Bytes.{le, digits, piece, same_row, put, written, applied}
use Rattle.model.specs.Crc.{steps, fed, run, crc_of, crc_32}
use Rattle.model.specs.Faults.{fault, done, refused}
use Rattle.model.specs.References.{span, nil, span_bytes, by_format}
use Rattle.model.specs.Headers.{file_type, file_format}
use Rattle.model.specs.Nodes.{node_at, hands_over, bad_node, plain_node, referring}
use Rattle.model.specs.ListFragments.{new_fragment}
use Rattle.model.specs.LogFragments.{entry, entry_bytes, sentinel, new_log_fragment}
use Rattle.model.specs.Section.{Section, latest}
use Rattle.model.specs.OpenedLog.{log_entries, log_from}
use Rattle.model.specs.OpenedLists.{nodes_at, list_from, lists_from}
use Rattle.model.specs.Opened.{opened}
use Rattle.model.specs.Looks.{node_look, node, nodes_of, look}
use Rattle.model.specs.Layouts.{with_data, branch, greatest, find_tail}
use Rattle.model.specs.Saving.{planned, laid}
use Rattle.model.specs.Committing.{committing}
use Rattle.model.specs.Calls.{Draft, State, Call, open_file, begin, add, commit, made, answer, writes, after}
use Rattle.model.specs.Journal.{shut}
use Rattle.model.specs.Contents.{content_of, held, saved}

-- every definition that a computed example needs open, named once
unfoldable pub computed : ℕ
unfolding le digits piece same_row written applied by_format bad_node hands_over crc_of run fed steps entry_bytes latest referring log_entries log_from nodes_at list_from lists_from opened nodes_of look greatest find_tail planned laid committing answer writes after held saved
computed = 0

-- the published sum of '123456789'
pub crc_published : crc_of crc_32 (0x31 ∷ 0x32 ∷ 0x33 ∷ 0x34 ∷ 0x35 ∷ 0x36 ∷ 0x37 ∷ 0x38 ∷ 0x39 ∷ []) ≡ 0xCBF43926
unfolding computed
crc_published = refl

-- 0x95006C08: ID 8, Size 27, formats 2 and 2, BaseType 2; 0x0180 and 0x24 there are 3,072 and 288
pub decoded : node_at (digits 4 0x95006C08 ++ digits 2 0x0180 ++ 0x24 ∷ replicate 20 1) 0
    ≡ record { place = 0; id = 8; size = 27; base = 2; reference = span 3072 288; payload = replicate 20 1 }
unfolding computed
decoded = refl

-- node 1 with the payload 7, 8
abbrev pub small : List ℕ
small = applied (replicate 3072 0) (
    put 0x00 file_type
    ∷ put 0x30 file_format
    ∷ put 0x4C (digits 4 0x2A)
    ∷ put 0x60 (digits 4 1)
    ∷ put 0x94 (span_bytes nil)
    ∷ put 0xA0 (span_bytes (span 2048 1024))
    ∷ put 0xAC (span_bytes (span 1024 1024))
    ∷ put 0xC4 (digits 8 3072)
    ∷ put 1024 (new_fragment 16 0 (plain_node 1 (7 ∷ 8 ∷ [])))
    ∷ put 2048 (new_log_fragment (entry 16 1 ∷ sentinel (entry 16 1 ∷ []) ∷ []))
    ∷ [])

pub small_length : length small ≡ 3072
unfolding computed
small_length = refl

-- what it holds
abbrev pub small_section : Section
small_section = record {
  header = record {
    count = 1;
    end = 3072;
    generation = 0;
    version = replicate 16 0;
    hashed = span (2 ^ 64 - 1) 0;
    log = span 2048 1024;
    root = span 1024 1024;
  };
  log = record { fragments = span 2048 1024 ∷ []; transactions = (entry 16 1 ∷ []) ∷ []; used = 2 };
  lists = record {
    id = 16;
    fragments = span 1024 1024 ∷ [];
    nodes = record { place = 1040; id = 1; size = 6; base = 0; reference = span 0 0; payload = 7 ∷ 8 ∷ [] } ∷ [];
    free = 1046;
  } ∷ [];
}

pub small_opens : opened small ≡ done small_section
unfolding computed
small_opens = refl

-- a byte of the sum is wrong: the sentinel, the log's second entry, is refused
pub wrong_sum : opened (written small 2060 (0 ∷ [])) ≡ refused (fault 6 2 2056 0)
unfolding computed
wrong_sum = refl

-- a store of 1,023 bytes
pub short_store : opened (take 1023 small) ≡ refused (fault 1 1 0 0)
unfolding computed
short_store = refl

-- a look at it: the payload fills the buffer's front, no more
pub small_look : look small (node_look 1 16 0 (9 ∷ 9 ∷ 9 ∷ [])) ≡ record { answer = done (node 1 0 None (7 ∷ 8 ∷ [])); buffer = 7 ∷ 8 ∷ 9 ∷ [] }
unfolding computed
small_look = refl

-- saving into it: opened, begun, then a node with the data 'abc', then a branch, then a commit
abbrev pub draft : Draft
draft = record { mark = 9; number = 1 }

abbrev pub begun_state : State
begun_state = after (after (shut small 9000) (open_file 9)) begin

abbrev pub add_data : Call
add_data = add draft (with_data 16 2 (5 ∷ []) (0x61 ∷ 0x62 ∷ 0x63 ∷ []))

abbrev pub add_branch : Call
add_branch = add draft (branch 16 3 [] 4 (0x0A ∷ []))

-- the data with its zeros goes to the end, and then the node behind the list's last
pub add_writes_two : writes begun_state add_data
    ≡ put 3072 (0x61 ∷ 0x62 ∷ 0x63 ∷ 0 ∷ 0 ∷ 0 ∷ 0 ∷ 0 ∷ [])
    ∷ put 1046 (digits 4 0x88004402 ++ (digits 8 3072 ++ (digits 4 3 ++ (5 ∷ []))))
    ∷ []
unfolding computed
add_writes_two = refl

-- a branch answers the ID of its list, one above the highest
pub branch_answers : answer (after begun_state add_data) add_branch ≡ made 17
unfolding computed
branch_answers = refl

abbrev pub drafted_state : State
drafted_state = after (after begun_state add_data) add_branch

abbrev pub commit_it : Call
commit_it = commit draft (replicate 16 1)

-- one write of entries (list 16 has 3 nodes now, list 17 one), and one of the first 512 bytes
pub commit_writes : map {B = ℕ × ℕ} (λ w. (w.place, length w.new)) (writes drafted_state commit_it) ≡ (2064, 24) ∷ (0, 512) ∷ []
unfolding computed
commit_writes = refl

pub commit_entries : map (λ w. w.new) (take 1 (writes drafted_state commit_it)) ≡ entry_bytes (entry 16 3 ∷ entry 17 1 ∷ entry 1 0x75AFF1EB ∷ []) ∷ []
unfolding computed
commit_entries = refl

-- and list 16 then holds what it held, and the two new nodes; list 17 its first one
pub commit_holds : held (after drafted_state commit_it).bytes 16
    ≡ content_of 1 0 None (7 ∷ 8 ∷ []) []
    ∷ content_of 2 1 (Some (span 3072 3)) (5 ∷ []) (0x61 ∷ 0x62 ∷ 0x63 ∷ [])
    ∷ content_of 3 2 (Some (span 3080 1024)) [] []
    ∷ []
unfolding computed
commit_holds = refl

pub branch_holds : held (after drafted_state commit_it).bytes 17 ≡ content_of 4 0 None (0x0A ∷ []) [] ∷ []
unfolding computed
branch_holds = refl
