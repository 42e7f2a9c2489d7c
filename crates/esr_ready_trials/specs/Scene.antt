-- Snapshots s1 and s2 are listed, and s3 is being made: worlds in which deletes are asked for.
use Rattle.std.specs.Prelude.{ℕ, false, List, [], ◌∷◌, Some, None, codes}
use Rattle.std.specs.Ordering.{nat_cmp}
use Rattle.std.specs.FinMap.{FinMap}
use Rattle.std.specs.FinMap as fin
use Rattle.esr_model.specs.Values.{Bytes, IndexRef, RootData}
use Rattle.esr_core.specs.World.{World, Op, ShardWork, Out, Deletion, Deleting, Ticket, opened, no_record}
use Rattle.esr_core.specs.Steps.{shard_ticket, plain_ticket}
use Rattle.esr_ready_trials.specs.Rows.{one, two}

abbrev pub s1 : Bytes
s1 = codes "s1"

abbrev pub s2 : Bytes
s2 = codes "s2"

abbrev pub s3 : Bytes
s3 = codes "s3"

abbrev pub root : RootData
root = record { snapshots = record { name = s1; uuid = 1; state = 1 } ∷ record { name = s2; uuid = 2; state = 1 } ∷ []; indices = [] }

abbrev pub docs : IndexRef
docs = record { id = 4; name = codes "docs"; shards = 1 }

-- its one shard is out
abbrev pub shard : ShardWork
shard = record { ref = docs; number = 0; place = codes "docs"; state = Out 1 }

abbrev pub making : Op
making = record { name = s3; uuid = 3; moment = 0; indices = docs ∷ []; shards = shard ∷ []; failed = false; source = None; aborted = None }

-- an open delete of these snapshots
abbrev pub naming : List ℕ → Deletion
naming uuids = record { uuids = uuids; clean = false; failed = false }

-- the root lists s1 and s2
abbrev pub listing : World
listing = opened fin.empty no_record root

abbrev pub shard_out : Ticket
shard_out = shard_ticket listing 1 making shard None

abbrev pub delete_out : Ticket
delete_out = plain_ticket listing 2 (Deleting (1 ∷ 2 ∷ 3 ∷ []) None)

-- these are open, and have these tickets
abbrev pub having : FinMap nat_cmp Op → FinMap nat_cmp Deletion → FinMap nat_cmp Ticket → ℕ → World
having ops deletes tickets next_op = record listing { ops = ops; deletes = deletes; tickets = tickets; next_op = next_op; next_ticket = 4 }

-- s3 is op 1
abbrev pub begun : World
begun = having (one 1 making) fin.empty (one 1 shard_out) 2

-- and op 2 a delete of these
abbrev pub deleting : List ℕ → World
deleting uuids = having (one 1 making) (one 2 (naming uuids)) (one 1 shard_out) 3

-- it has aborted s3
abbrev pub aborted : World
aborted = having (one 1 (record making { aborted = Some 2 })) (one 2 (naming (1 ∷ 2 ∷ 3 ∷ []))) (one 1 shard_out) 3

-- s3 was dropped, and the delete is out
abbrev pub running : World
running = having fin.empty (one 2 (naming (1 ∷ 2 ∷ 3 ∷ []))) (two 1 (record shard_out { out = false }) 3 delete_out) 3

-- a delete of s1 waits behind it
abbrev pub queued : World
queued = having fin.empty (two 2 (naming (1 ∷ 2 ∷ 3 ∷ [])) 3 (naming (1 ∷ []))) (two 1 (record shard_out { out = false }) 3 delete_out) 4
