-- The ends of ops and of restores' shards that a history tells, in lists.
use Rattle.std.specs.Prelude.{◌≡◌, ℕ, Bool, ◌==◌, if◌then◌else◌, List, [], ◌∷◌, Option, Some, None}
use Rattle.std.specs.Ordering.{nat_cmp}
use Rattle.std.specs.Cmp.Lexicographic.{slice_cmp}
use Rattle.std.specs.BTreeSet.{BTreeSet, contains_by}
use Rattle.std.specs.declared.alloc.Global.{Global}
use Rattle.std.specs.declared.vec.Vec.{Vec}
use Rattle.esr_model.specs.Values.{Bytes}
use Rattle.esr_core.specs.After.{or_else}
use Rattle.esr_core.specs.Entry.{Entry}
use Rattle.esr_desk.specs.Entries.{why_of}
use Rattle.esr_report.specs.declared.tickets.End.{End}
use Rattle.esr_report.specs.declared.tickets.End.TheVariants as ends
use Rattle.esr_report.specs.declared.tickets.OpEnd.{OpEnd}
use Rattle.esr_report.specs.declared.restores.ReadShard.{ReadShard as CodeShard}
use Rattle.esr_report.specs.declared.restores.ShardTake.{ShardTake}
use Rattle.esr_report.specs.declared.restores.ShardEnd.{ShardEnd as CodeEnd}
use Rattle.esr_report.specs.declared.restores.ShardEnd.TheVariants as code
use Rattle.esr_report.specs.declared.restores.TicketEnd.{TicketEnd}
use Rattle.esr_report.specs.declared.told.ToldEnds.{ToldEnds}
use Rattle.esr_report.specs.Replies.{Reply, Made, Deleted, Cleaned, Failed, Aborted, end_of_op, ReadShard, ShardEnd, ShardRestored, ShardFailed, first_by, same_shard, shard_ticket, ticket_end}

-- what the end of an op answers its command
abbrev pub reply_of_end : End → Reply
reply_of_end (ends.Made uuid) = Made uuid.number
reply_of_end (ends.Deleted op) = Deleted op
reply_of_end (ends.Cleaned blobs bytes) = Cleaned blobs bytes
reply_of_end (ends.Failed why op) = Failed (why_of why) op
reply_of_end (ends.Aborted by) = Aborted by

-- what an end answers the command of this op, where it is the end of that one
abbrev pub end_for : OpEnd → ℕ → Option Reply
end_for e op = if e.op == op then Some (reply_of_end e.end) else None

abbrev pub end_in : Option OpEnd → ℕ → Option Reply
end_in None op = None
end_in (Some e) op = end_for e op

-- the first of them that is of the op
abbrev pub first_end : List OpEnd → ℕ → Option Reply
first_end [] op = None
first_end (e ∷ es) op = or_else (end_for e op) (first_end es op)

-- they tell how each op ended
abbrev pub AreEnds : List Entry → List OpEnd → Type 0
AreEnds all es = (op : ℕ) → first_end es op ≡ end_of_op all op [] all

-- ---- the shards of restores

abbrev pub shard_of_code : CodeShard → ReadShard
shard_of_code s = record { op = s.op; index = s.shard.index.number; number = s.shard.number; uuid = s.uuid.number }

abbrev pub end_of_code : CodeEnd → ShardEnd
end_of_code (code.Restored files bytes) = ShardRestored files bytes
end_of_code (code.Failed why) = ShardFailed (why_of why)

-- the ticket where it took this shard
abbrev pub ticket_for : ReadShard → ShardTake → Option ℕ
ticket_for s t = if same_shard (shard_of_code t.shard) s then Some t.ticket else None

-- the end where it is that of this ticket
abbrev pub shard_end_for : ℕ → TicketEnd → Option ShardEnd
shard_end_for k e = if e.ticket == k then Some (end_of_code e.end) else None

-- they tell to which ticket each shard was given
abbrev pub AreTakes : List Entry → List ShardTake → Type 0
AreTakes all takes = (s : ReadShard) → first_by (ticket_for s) takes ≡ shard_ticket all s

-- they tell how the shard of each ticket ended
abbrev pub AreShardEnds : List Entry → List TicketEnd → Type 0
AreShardEnds all es = (k : ℕ) → first_by (shard_end_for k) es ≡ ticket_end all k

-- they tell all of this
pub record AreAllEnds (all : List Entry) (e : ToldEnds) : Type 0 where
  pub ops : AreEnds all e.ops.items
  pub takes : AreTakes all e.takes.items
  pub shards : AreShardEnds all e.shards.items

-- ---- the texts of names that are gone

-- the set has the text
abbrev pub holds_text : BTreeSet (Vec ℕ Global) → Bytes → Bool
holds_text texts text = contains_by (λ (key : Vec ℕ Global). slice_cmp nat_cmp text key.items) texts
