-- What the aborts of ops are read by, one accepted snapshot after another.
use Rattle.std.specs.Prelude.{ℕ, Bool, true, false, Option, Some, None}
use Rattle.esr_model.specs.Values.{Bytes}
use Rattle.esr_core.specs.Entry as entry
use Rattle.esr_core.specs.Entry.{Snapshot, Clone, DeleteSnapshots, Step, AskStep, Accepted, Gave, ElectedTerm}
use Rattle.esr_report.specs.Replies.{Reply, final_given}

-- a delete was accepted
abbrev pub asks_delete : Step → entry.Reply → Bool
asks_delete (AskStep (DeleteSnapshots names)) (Accepted d) = true
asks_delete step reply = false

-- the op as which a snapshot or a clone was accepted
abbrev pub accepted_by : Step → entry.Reply → Option ℕ
accepted_by (AskStep (Snapshot name indices moment)) (Accepted o) = Some o
accepted_by (AskStep (Clone source name indices moment (Some taken))) (Accepted o) = Some o
accepted_by step reply = None

-- the answer, where a snapshot was accepted under a name
abbrev pub if_named : Option Bytes → Option Reply → Option Reply
if_named None answer = None
if_named (Some name) answer = answer

-- the answer, where no ticket is out
abbrev pub unless_out : Option ℕ → Option Reply → Option Reply
unless_out None answer = answer
unless_out (Some k) answer = None

-- the ticket of the op's finalization that is out after an answer: any but a take and an election leaves the one that is kept
abbrev pub final_by : ℕ → Option ℕ → entry.Reply → Option ℕ → Option ℕ
final_by op k (Gave ticket o unit) kept = final_given op k o unit ticket
final_by op k (ElectedTerm term) kept = None
final_by op k reply kept = kept
