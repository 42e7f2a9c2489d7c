-- What each line of a script was answered, by the history alone.
use Rattle.std.specs.Prelude.{ℕ, ◌-◌, ◌^◌, min, nat_lt, Bool, true, false, not, ◌==◌, ◌&&◌, ◌||◌, if◌then◌else◌, List, [], ◌∷◌, ◌++◌, length, take, map, sum_by, Option, Some, None, option_map, option_and_then}
use Rattle.esr_model.specs.Values.{Bytes, IndexRef, RootSnap}
use Rattle.esr_model.specs.Places.{places}
use Rattle.esr_model.specs.Uploads.{same_bytes}
use Rattle.esr_core.specs.After.{or_else, swaps_record}
use Rattle.esr_core.specs.Entry as entry
use Rattle.esr_core.specs.Entry.{Given, Asked, GivenShard, GivenFinalize, GivenDrop, GivenRestore, GivenClone, GivenDelete, GivenCleanup, Why, OfDepot, Read, RestoredShard, CheckedAll, VerifiedAll, ReadFails, SettlePruned, DeleteFails, Snapshot, Clone, DeleteSnapshots, Step, AskStep, SettleStep, FailedStep, FinishStep, DroppedStep, ElectStep, LookStep, ReadStep, PruneStep, Refusal, DeposedAt, DepotFault, Accepted, AcceptedRestore, Gave, WasSettled, HasEnded, ElectedTerm, Looked, Entry}
use Rattle.esr_script.specs.declared.item.Item.{Item}
use Rattle.esr_script.specs.declared.item.ScriptLine.{ScriptLine}
use Rattle.esr_script.specs.Kinds.{is_check, is_failover, is_wait}
use Rattle.esr_report.specs.Cleaned.{is_cleanup_ticket, blobs_gone, bytes_gone}

pub data Reply : Type 0 where
  -- the snapshot of this uuid is in the root
  Made : (uuid : ℕ) → Reply
  -- this op took snapshots out of the root
  Deleted : (op : ℕ) → Reply
  -- so many files are restored, of so many bytes
  Restored : (files bytes : ℕ) → Reply
  -- so many blobs are removed, of so many bytes
  Cleaned : (blobs bytes : ℕ) → Reply
  -- a failover began this term
  Term : (term : ℕ) → Reply
  Waited : Reply
  Listed : (snapshots : List RootSnap) → Reply
  -- a check has read all: so many snapshots and blobs
  Checked : (snapshots blobs : ℕ) → Reply
  Verified : Reply
  -- a rule refused the command
  Refused : (refusal : Refusal) → Reply
  -- with the op of an accepted delete, of no other command
  Failed : (why : Why) (op : Option ℕ) → Reply
  -- this delete aborted the command
  Aborted : (by : ℕ) → Reply
  -- a record swap had failed
  Deposed : Reply

-- ---- tickets

-- the op that a take gave to this ticket
abbrev pub op_by : entry.Reply → ℕ → Option ℕ
op_by (Gave ticket op unit) k = if ticket == k then Some op else None
op_by reply k = None

-- the op of a ticket
abbrev pub op_of_ticket : List Entry → ℕ → Option ℕ
op_of_ticket [] k = None
op_of_ticket (e ∷ es) k = or_else (op_by e.reply k) (op_of_ticket es k)

-- the uuid of the snapshot that a finalization is of
abbrev pub uuid_of_unit : Given → Option ℕ
uuid_of_unit (GivenFinalize info results) = Some info.uuid
uuid_of_unit (GivenShard index number base) = None
uuid_of_unit GivenDrop = None
uuid_of_unit (GivenRestore index number uuid) = None
uuid_of_unit (GivenClone index number source base) = None
uuid_of_unit (GivenDelete uuids) = None
uuid_of_unit GivenCleanup = None

abbrev pub uuid_by : entry.Reply → ℕ → Option ℕ
uuid_by (Gave ticket op unit) k = if ticket == k then uuid_of_unit unit else None
uuid_by reply k = None

abbrev pub uuid_of_ticket : List Entry → ℕ → Option ℕ
uuid_of_ticket [] k = None
uuid_of_ticket (e ∷ es) k = or_else (uuid_by e.reply k) (uuid_of_ticket es k)

-- ---- what a stale ticket reports

-- such a unit belongs to the term in which it was taken
abbrev pub is_of_term : Given → Bool
is_of_term (GivenFinalize info results) = true
is_of_term (GivenShard index number base) = false
is_of_term GivenDrop = true
is_of_term (GivenRestore index number uuid) = false
is_of_term (GivenClone index number source base) = false
is_of_term (GivenDelete uuids) = true
is_of_term GivenCleanup = true

-- a take gave such a unit to this ticket
abbrev pub takes_of_term : entry.Reply → ℕ → Bool
takes_of_term (Gave ticket op unit) k = (ticket == k) && is_of_term unit
takes_of_term reply k = false

abbrev pub begins_term : entry.Reply → Bool
begins_term (ElectedTerm term) = true
begins_term reply = false

-- a term begins in one of them
abbrev pub has_term : List Entry → Bool
has_term [] = false
has_term (e ∷ es) = begins_term e.reply || has_term es

-- after these entries the ticket is stale: a term has begun since its take
abbrev pub is_stale : List Entry → ℕ → Bool
is_stale [] k = false
is_stale (e ∷ es) k = if takes_of_term e.reply k then has_term es else is_stale es k

-- ---- the end of an op

abbrev pub is_op : ℕ → Option ℕ → Bool
is_op op None = false
is_op op (Some o) = o == op

-- what a ticket reports as failed is an answer, unless the ticket is stale: that ends the ticket alone
abbrev pub fails_by : Bool → Why → Option ℕ → Option Reply
fails_by true why op = None
fails_by false why op = Some (Failed why op)

-- the op of the delete that a ticket is of; a cleanup is none
abbrev pub delete_of_ticket : List Entry → ℕ → Option ℕ
delete_of_ticket all k = if is_cleanup_ticket all k then None else op_of_ticket all k

-- what the drop of an op answers its command: a cleanup has come to its end
abbrev pub cleaned_by : List Entry → ℕ → Bool → Option Reply
cleaned_by all k true = Some (Cleaned (blobs_gone all k) (bytes_gone all k))
cleaned_by all k false = None

-- What a step of a ticket answers the command of its op: the root is settled, a cleanup's op left, or the unit failed. A delete is answered
-- with its op.
abbrev pub ends_by : List Entry → Bool → ℕ → Step → entry.Reply → Option Reply
ends_by all stale who SettleStep WasSettled = option_map Made (uuid_of_ticket all who)
ends_by all stale who (FailedStep why) HasEnded = fails_by stale why None
ends_by all stale who (PruneStep SettlePruned) WasSettled = option_map Deleted (delete_of_ticket all who)
ends_by all stale who (PruneStep (DeleteFails why)) HasEnded = fails_by stale why (delete_of_ticket all who)
ends_by all stale who DroppedStep HasEnded = cleaned_by all who (is_cleanup_ticket all who)
ends_by all stale who step reply = None

-- what an entry after these answers the command of an op
abbrev pub ends_at : List Entry → List Entry → ℕ → Entry → Option Reply
ends_at all before op e = if is_op op (op_of_ticket all e.who) then ends_by all (is_stale before e.who) e.who e.step e.reply else None

-- ---- a delete that aborts a snapshot

-- the name under which a snapshot or a clone was accepted as this op
abbrev pub name_by : ℕ → Step → entry.Reply → Option Bytes
name_by op (AskStep (Snapshot name indices moment)) (Accepted o) = if o == op then Some name else None
name_by op (AskStep (Clone source name indices moment (Some taken))) (Accepted o) = if o == op then Some name else None
name_by op step reply = None

abbrev pub name_of_op : List Entry → ℕ → Option Bytes
name_of_op [] op = None
name_of_op (e ∷ es) op = or_else (name_by op e.step e.reply) (name_of_op es op)

-- the ticket has ended, or its swap has settled
abbrev pub is_over : Step → entry.Reply → Bool
is_over SettleStep WasSettled = true
is_over (FailedStep why) HasEnded = true
is_over FinishStep HasEnded = true
is_over step reply = false

-- the ticket of the op's finalization that is out, after one entry more: a term that begins leaves none
abbrev pub final_given : ℕ → Option ℕ → ℕ → Given → ℕ → Option ℕ
final_given op k o (GivenFinalize info results) ticket = if o == op then Some ticket else k
final_given op k o unit ticket = k

abbrev pub final_kept : Option ℕ → ℕ → Bool → Option ℕ
final_kept None who over = None
final_kept (Some k) who over = if over && (k == who) then None else Some k

abbrev pub final_step : ℕ → Option ℕ → Entry → entry.Reply → Option ℕ
final_step op k e (Gave ticket o unit) = final_given op k o unit ticket
final_step op k e (ElectedTerm term) = None
final_step op k e reply = final_kept k e.who (is_over e.step reply)

-- the ticket of the op's finalization that is out after these entries
abbrev pub final_from : ℕ → Option ℕ → List Entry → Option ℕ
final_from op k [] = k
final_from op k (e ∷ es) = final_from op (final_step op k e e.reply) es

abbrev pub final_out : List Entry → ℕ → Option ℕ
final_out before op = final_from op None before

abbrev pub has_name : List Bytes → Bytes → Bool
has_name [] name = false
has_name (x ∷ xs) name = same_bytes x name || has_name xs name

-- it asks for a delete of what has the name
abbrev pub names_it : Asked → Bytes → Bool
names_it (DeleteSnapshots names) name = has_name names name
names_it command name = false

-- a delete that names this was accepted
abbrev pub abort_by : Bytes → Step → entry.Reply → Option Reply
abort_by name (AskStep command) (Accepted d) = if names_it command name then Some (Aborted d) else None
abort_by name step reply = None

-- it aborts an accepted snapshot of which no finalization is out
abbrev pub abort_of : Option Bytes → Option ℕ → Step → entry.Reply → Option Reply
abort_of (Some name) None step reply = abort_by name step reply
abort_of (Some name) (Some k) step reply = None
abort_of None k step reply = None

-- what the entry after these answers the op by an abort
abbrev pub aborts_at : List Entry → ℕ → Entry → Option Reply
aborts_at before op e = abort_of (name_of_op before op) (final_out before op) e.step e.reply

-- the first of these, after those before
abbrev pub end_of_op : List Entry → ℕ → List Entry → List Entry → Option Reply
end_of_op all op before [] = None
end_of_op all op before (e ∷ es) = or_else (ends_at all before op e) (or_else (aborts_at before op e) (end_of_op all op (before ++ e ∷ []) es))

-- ---- the end of a restore

-- a shard that a restore reads: of this op, index and number, for the snapshot of this uuid
pub record ReadShard : Type 0 where
  pub op : ℕ
  pub index : ℕ
  pub number : ℕ
  pub uuid : ℕ

-- how it ended: so many files were restored, of so many bytes, or it failed
pub data ShardEnd : Type 0 where
  ShardRestored : (files bytes : ℕ) → ShardEnd
  ShardFailed : (why : Why) → ShardEnd

-- the first that is found in the list
abbrev pub first_by : {A B : Type 0} → (A → Option B) → List A → Option B
first_by f [] = None
first_by f (x ∷ xs) = or_else (f x) (first_by f xs)

abbrev pub same_shard : ReadShard → ReadShard → Bool
same_shard a b = (a.op == b.op) && (a.index == b.index) && (a.number == b.number) && (a.uuid == b.uuid)

-- a unit of this op is this shard
abbrev pub is_shard : ℕ → Given → ReadShard → Bool
is_shard op (GivenRestore index number uuid) s = same_shard (record { op = op; index = index; number = number; uuid = uuid }) s
is_shard op unit s = false

-- the ticket to which a take gave the shard
abbrev pub shard_ticket_by : entry.Reply → ReadShard → Option ℕ
shard_ticket_by (Gave ticket op unit) s = if is_shard op unit s then Some ticket else None
shard_ticket_by reply s = None

abbrev pub shard_ticket : List Entry → ReadShard → Option ℕ
shard_ticket all s = first_by (λ (e : Entry). shard_ticket_by e.reply s) all

-- how a step ends the shard of its ticket
abbrev pub shard_end_by : Step → entry.Reply → Option ShardEnd
shard_end_by (ReadStep (RestoredShard files bytes)) HasEnded = Some (ShardRestored files bytes)
shard_end_by (ReadStep (ReadFails why)) HasEnded = Some (ShardFailed why)
shard_end_by step reply = None

abbrev pub shard_end_at : ℕ → Entry → Option ShardEnd
shard_end_at k e = if e.who == k then shard_end_by e.step e.reply else None

-- how the shard of a ticket ended
abbrev pub ticket_end : List Entry → ℕ → Option ShardEnd
ticket_end all k = first_by (shard_end_at k) all

-- how a shard ended, if it has
abbrev pub shard_end : List Entry → ReadShard → Option ShardEnd
shard_end all s = option_and_then (ticket_end all) (shard_ticket all s)

abbrev pub and_ends : Option ShardEnd → Option (List ShardEnd) → Option (List ShardEnd)
and_ends (Some end) (Some ends) = Some (end ∷ ends)
and_ends end ends = None

-- how these shards ended, where each has
abbrev pub ends_of : List Entry → List ReadShard → Option (List ShardEnd)
ends_of all [] = Some []
ends_of all (s ∷ shards) = and_ends (shard_end all s) (ends_of all shards)

abbrev pub failure_of : ShardEnd → Option Why
failure_of (ShardRestored files bytes) = None
failure_of (ShardFailed why) = Some why

abbrev pub files_of : ShardEnd → ℕ
files_of (ShardRestored files bytes) = files
files_of (ShardFailed why) = 0

abbrev pub bytes_of : ShardEnd → ℕ
bytes_of (ShardRestored files bytes) = bytes
bytes_of (ShardFailed why) = 0

abbrev pub reply_by : Option Why → List ShardEnd → Reply
reply_by (Some why) ends = Failed why None
reply_by None ends = Restored (min (sum_by files_of ends) (2 ^ 64 - 1)) (min (sum_by bytes_of ends) (2 ^ 64 - 1))

-- what the ends of all its shards answer a restore: the first failure, else the sums, which stop at 2^64 - 1
abbrev pub reply_of_ends : List ShardEnd → Reply
reply_of_ends ends = reply_by (first_by failure_of ends) ends

abbrev pub read_shard : ℕ → ℕ → IndexRef × ℕ → ReadShard
read_shard op uuid place = record { op = op; index = place.0.id; number = place.1; uuid = uuid }

-- the shards of a restore, in the order of the work
abbrev pub restore_shards : ℕ → ℕ → List IndexRef → List ReadShard
restore_shards op uuid indices = map (read_shard op uuid) (places indices)

-- what an accepted restore is answered where each of its shards has ended
abbrev pub restore_reply : List Entry → ℕ → ℕ → List IndexRef → Option Reply
restore_reply all op uuid indices = option_map reply_of_ends (ends_of all (restore_shards op uuid indices))

-- ---- a record swap that failed

abbrev pub fails_swap : Step → entry.Reply → Bool
fails_swap step (entry.Refused DepotFault) = swaps_record step
fails_swap step reply = false

abbrev pub has_fallen : List Entry → Bool
has_fallen [] = false
has_fallen (e ∷ es) = fails_swap e.step e.reply || has_fallen es

-- Deposed where a record swap failed
abbrev pub deposed_by : Bool → Option Reply
deposed_by true = Some Deposed
deposed_by false = None

-- ---- lines

-- a call that failed, a record swap that had failed, a rule, or a number that is spent
abbrev pub refused_reply : Refusal → Reply
refused_reply DepotFault = Failed OfDepot None
refused_reply (DeposedAt place) = Deposed
refused_reply refusal = Refused refusal

-- an accepted command is answered by the end of its op, a restore by the ends of its shards; else by a record swap that failed
abbrev pub ask_reply : List Entry → entry.Reply → Option Reply
ask_reply all (Accepted op) = or_else (end_of_op all op [] all) (deposed_by (has_fallen all))
ask_reply all (AcceptedRestore op uuid indices) = or_else (restore_reply all op uuid indices) (deposed_by (has_fallen all))
ask_reply all (entry.Refused refusal) = Some (refused_reply refusal)
ask_reply all reply = None

abbrev pub look_reply : entry.Reply → Option Reply
look_reply (Looked snapshots safe) = Some (Listed snapshots)
look_reply (entry.Refused (DeposedAt place)) = Some Deposed
look_reply reply = None

-- what the end of a verification or of a check answers its line
abbrev pub ended_reply : Read → Option Reply
ended_reply VerifiedAll = Some Verified
ended_reply (CheckedAll snapshots blobs) = Some (Checked snapshots blobs)
ended_reply (ReadFails why) = Some (Failed why None)
ended_reply read = None

abbrev pub read_reply : Read → entry.Reply → Option Reply
read_reply read HasEnded = ended_reply read
read_reply read (entry.Refused (DeposedAt place)) = Some Deposed
read_reply read reply = None

abbrev pub answer_at : List Entry → Step → entry.Reply → Option Reply
answer_at all (AskStep command) reply = ask_reply all reply
answer_at all LookStep reply = look_reply reply
answer_at all (ReadStep read) reply = read_reply read reply
answer_at all step reply = None

-- a verification or a check ends by it
abbrev pub is_end : Read → Bool
is_end VerifiedAll = true
is_end (CheckedAll snapshots blobs) = true
is_end (ReadFails why) = true
is_end read = false

-- a verification or a check has ended; or it is over, since a step of it was refused as a record swap had failed
abbrev pub is_line_read : Read → entry.Reply → Bool
is_line_read read HasEnded = is_end read
is_line_read read (entry.Refused (DeposedAt place)) = true
is_line_read read reply = false

abbrev pub is_line_step : Step → entry.Reply → Bool
is_line_step (AskStep command) reply = true
is_line_step LookStep reply = true
is_line_step (ReadStep read) reply = is_line_read read reply
is_line_step step reply = false

-- an ask or a look of who 0 belongs to a line, and so does the end of a verification or a check; their other steps don't
abbrev pub is_of_line : Entry → Bool
is_of_line e = (e.who == 0) && is_line_step e.step e.reply

-- the entries from the next one on that belongs to a line
abbrev pub from_line : List Entry → List Entry
from_line [] = []
from_line (e ∷ es) = if is_of_line e then e ∷ es else from_line es

-- a record swap failed before that one
abbrev pub falls_before : List Entry → Bool
falls_before [] = false
falls_before (e ∷ es) = if is_of_line e then false else (fails_swap e.step e.reply || falls_before es)

-- ---- a check has two entries that belong to lines: its look, and its end

abbrev pub is_looked : entry.Reply → Bool
is_looked (Looked snapshots safe) = true
is_looked reply = false

-- a look that was answered
abbrev pub is_look_answered : Step → entry.Reply → Bool
is_look_answered LookStep reply = is_looked reply
is_look_answered step reply = false

-- after the look of a check, the entries from the next one on that belongs to a line
abbrev pub past_look : Bool → List Entry → List Entry
past_look checks [] = []
past_look checks (e ∷ es) = if checks && is_look_answered e.step e.reply then from_line es else e ∷ es

-- the entries from the one on that answers a line
abbrev pub from_item : Item → List Entry → List Entry
from_item item rest = past_look (is_check item) (from_line rest)

-- what the end of a check answers its line
abbrev pub checked_reply : Read → Option Reply
checked_reply (CheckedAll snapshots blobs) = Some (Checked snapshots blobs)
checked_reply (ReadFails why) = Some (Failed why None)
checked_reply read = None

abbrev pub check_ended : Read → entry.Reply → Option Reply
check_ended read HasEnded = checked_reply read
check_ended read reply = None

-- a look that was refused, as a record swap had failed
abbrev pub down_reply : entry.Reply → Option Reply
down_reply (entry.Refused (DeposedAt place)) = Some Deposed
down_reply reply = None

-- what an entry answers a check: its end, or its look where that was refused
abbrev pub check_answer : Step → entry.Reply → Option Reply
check_answer LookStep reply = down_reply reply
check_answer (ReadStep read) reply = check_ended read reply
check_answer step reply = None

abbrev pub line_answer : Item → List Entry → Step → entry.Reply → Option Reply
line_answer item all step reply = if is_check item then check_answer step reply else answer_at all step reply

-- what the line of the first of these entries was answered, and the entries after it
abbrev pub line_reply : Item → List Entry → List Entry → Option (Reply × List Entry)
line_reply item all [] = None
line_reply item all (e ∷ es) = option_map (λ (r : Reply). (r, es)) (line_answer item all e.step e.reply)

-- ---- failovers, each of which has the next election

abbrev pub is_election_step : Step → Bool
is_election_step ElectStep = true
is_election_step step = false

abbrev pub is_election : Entry → Bool
is_election e = (e.who == 0) && is_election_step e.step

-- the entries from the next election on
abbrev pub from_election : List Entry → List Entry
from_election [] = []
from_election (e ∷ es) = if is_election e then e ∷ es else from_election es

abbrev pub election_reply : entry.Reply → Option Reply
election_reply (ElectedTerm term) = Some (Term term)
election_reply (entry.Refused refusal) = Some (refused_reply refusal)
election_reply reply = None

-- what a failover is answered: by the first of these entries, its election, else by a record swap that failed
abbrev pub failover_reply : Bool → List Entry → Option Reply
failover_reply down [] = deposed_by down
failover_reply down (e ∷ es) = election_reply e.reply

abbrev pub past_first : List Entry → List Entry
past_first [] = []
past_first (e ∷ es) = es

-- ---- one line after another

-- a record swap failed in the first of them
abbrev pub falls_first : List Entry → Bool
falls_first [] = false
falls_first (e ∷ es) = fails_swap e.step e.reply

-- the wait at the script's end is answered when its units have ended, or by a record swap that had failed by then
abbrev pub wait_reply : Bool → Reply
wait_reply true = Deposed
wait_reply false = Waited

-- fewer entries than turns last for
abbrev pub is_short : List Entry → Bool
is_short all = nat_lt (length all) (2 ^ 33)

abbrev pub has_none : List Entry → Bool
has_none [] = true
has_none (e ∷ es) = false

-- A wait before these of the entries may have been left with its turns spent: there are so many entries, and none of them belongs to a
-- line after it.
abbrev pub is_cut : List Entry → List Entry → Bool
is_cut all rest = not (is_short all) && has_none (from_line rest)

-- So is a wait among the lines; one that may have been left is not answered.
abbrev pub wait_answer : Bool → Bool → Option Reply
wait_answer true cut = Some Deposed
wait_answer false true = None
wait_answer false false = Some Waited

-- Of the entries after those of the lines before, those before the next election of a failover after the line: a wait before that
-- failover had ended by then. `later`: the entries after the elections of the failovers before
abbrev pub before_election : List Entry → List Entry → List Entry
before_election later rest = take (length rest - length (from_election later)) rest

-- the reply of a line and those after it; a line without an answer ends the list
abbrev pub and_more : Option (Reply × List Entry) → (List Entry → List Reply) → List Reply
and_more None more = []
and_more (Some p) more = p.0 ∷ more p.1

-- the reply of a line before those of the lines after it; a line without an answer ends the list
abbrev pub and_those : Option Reply → List Reply → List Reply
and_those None those = []
and_those (Some r) those = r ∷ those

-- `rest`: the entries after those of the lines before; `down`: a record swap failed before them; `later`: the entries after the elections
-- of the failovers before
abbrev pub replies_from : List Entry → List ScriptLine → Bool → List Entry → List Entry → List Reply
replies_from all [] down later rest = []
replies_from all (line ∷ lines) down later rest =
    if is_wait line.item then and_those (wait_answer (down || falls_before (before_election later rest)) (is_cut all rest)) (replies_from all lines down later rest)
    else if is_failover line.item then and_those (failover_reply (has_fallen all) (from_election later)) (replies_from all lines down (past_first (from_election later)) rest)
    else and_more (line_reply line.item all (from_item line.item rest)) (replies_from all lines (down || (falls_before rest || falls_first (from_item line.item rest))) later)

-- the replies of the lines, in order, as far as there is an answer
unfoldable pub replies : List ScriptLine → List Entry → List Reply
replies script history = replies_from history script false history history

-- what the wait at the script's end is answered
abbrev pub end_reply : List Entry → Reply
end_reply history = wait_reply (has_fallen history)
