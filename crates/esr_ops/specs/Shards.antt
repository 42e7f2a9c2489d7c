-- The shards of an open op, as the definitions see them, and tests on them.
use Rattle.std.specs.Prelude.{◌≡◌, ℕ, Bool, true, false, ◌&&◌, not, ◌==◌, nat_lt, if◌then◌else◌, List, [], Option, Some, None, slice_get, ◌<◌}
use Rattle.std.specs.List.{list_any}
use Rattle.esr_names.specs.declared.ids.Id.{Id}
use Rattle.esr_names.specs.declared.blob.ShardId.{ShardId}
use Rattle.esr_names.specs.declared.index_ref.IndexRef.{IndexRef as CodeRef}
use Rattle.esr_model.specs.Values.{Bytes, Has}
use Rattle.esr_core.specs.World.{ShardState, Pending, Out, Done, GivenUp, ShardWork, Op}
pub use Rattle.esr_core.specs.Steps.{is_done}
use Rattle.esr_ops.specs.declared.shard.ShardState.{ShardState as CodeState}
use Rattle.esr_ops.specs.declared.shard.ShardState.TheVariants as states
use Rattle.esr_ops.specs.declared.shard.OpenShard.{OpenShard}
use Rattle.esr_results.specs.declared.result.ShardResult.{ShardResult}
use Rattle.esr_results.specs.Results.{result_of}
use Rattle.esr_ops.specs.Plan.{RestorePlan}

-- how far the work on a shard is
abbrev pub state_of : CodeState → ShardState
state_of states.Pending = Pending
state_of (states.Out ticket) = Out ticket
state_of (states.Done outcome) = Done (result_of outcome)
state_of states.GivenUp = GivenUp

-- the name of an index, and its count of shards, where there is one
abbrev pub name_or_none : Option CodeRef → Bytes
name_or_none None = []
name_or_none (Some r) = r.name

abbrev pub count_or_none : Option CodeRef → ℕ
count_or_none None = 0
count_or_none (Some r) = r.shards

abbrev pub place_or_none : Option Bytes → Bytes
place_or_none None = []
place_or_none (Some place) = place

-- a shard of an op with these indices, and these places of their files
abbrev pub work_of_shard : List CodeRef → List Bytes → OpenShard → ShardWork
work_of_shard refs places s =
    record {
      ref = record { id = s.shard.index.number; name = name_or_none (slice_get refs s.at); shards = count_or_none (slice_get refs s.at) };
      number = s.shard.number;
      place = place_or_none (slice_get places s.at);
      state = state_of s.state;
    }

-- it is of this index and number
abbrev pub is_shard : ℕ → ℕ → ShardWork → Bool
is_shard index number s = (s.ref.id == index) && (s.number == number)

abbrev pub is_pending : ShardState → Bool
is_pending Pending = true
is_pending (Out k) = false
is_pending (Done r) = false
is_pending GivenUp = false

-- it is pending or out
abbrev pub waits : ShardState → Bool
waits Pending = true
waits (Out k) = true
waits (Done r) = false
waits GivenUp = false

-- a shard of this id and number waits
abbrev pub waits_for : ℕ → ℕ → ShardWork → Bool
waits_for index number s = is_shard index number s && waits s.state

abbrev pub waits_on : ShardId → ShardWork → Bool
waits_on shard = waits_for shard.index.number shard.number

-- it is done, or out with this ticket
abbrev pub is_done_with : ℕ → CodeState → Bool
is_done_with k states.Pending = false
is_done_with k (states.Out j) = j == k
is_done_with k (states.Done r) = true
is_done_with k states.GivenUp = false

-- the result where it is done
abbrev pub result_in : CodeState → Option ShardResult
result_in states.Pending = None
result_in (states.Out j) = None
result_in (states.Done r) = Some r
result_in states.GivenUp = None

-- the generation at which it is done, where the shard is of this id and number
abbrev pub generation_by : Bool → CodeState → Option Id
generation_by same states.Pending = None
generation_by same (states.Out j) = None
generation_by same (states.Done r) = if same then Some r.generation else None
generation_by same states.GivenUp = None

abbrev pub generation_open : ShardId → OpenShard → Option Id
generation_open shard s = generation_by ((s.shard.index.number == shard.index.number) && (s.shard.number == shard.number)) s.state

-- the shard is of this id and number, and waits
abbrev pub is_open_waiting : ShardId → OpenShard → Bool
is_open_waiting shard s = ((s.shard.index.number == shard.index.number) && (s.shard.number == shard.number)) && waits (state_of s.state)

-- an op before this number waits on the shard of this id and number
abbrev pub op_before : List (ℕ × Op) → ℕ → ℕ → ℕ → Bool
op_before ops o index number = list_any (λ (e : ℕ × Op). nat_lt e.0 o && list_any (waits_for index number) e.1.shards) ops

-- a restore before this number has the shard unread or being read
abbrev pub restore_before : List (ℕ × RestorePlan) → ℕ → ℕ → ℕ → Bool
restore_before restores o index number = list_any (λ (e : ℕ × RestorePlan). nat_lt e.0 o && list_any (waits_for index number) e.1.shards) restores

-- the shard is pending, and no op and no restore before the number of its op waits on one of its id and number
abbrev pub is_open_free : List (ℕ × Op) → List (ℕ × RestorePlan) → ℕ → OpenShard → Bool
is_open_free ops restores o s = (is_pending (state_of s.state) && not (op_before ops o s.shard.index.number s.shard.number)) && not (restore_before restores o s.shard.index.number s.shard.number)

-- shards of one id and number are equally far
abbrev pub AreAlike : List OpenShard → Type 0
AreAlike shards = (a b : OpenShard) → Has shards a → Has shards b → a.shard.index.number ≡ b.shard.index.number → a.shard.number ≡ b.shard.number → a.state ≡ b.state

-- ---- changes of a shard

abbrev pub given_open : ℕ → ShardId → OpenShard → OpenShard
given_open k shard s = record s { state = if (s.shard.index.number == shard.index.number) && (s.shard.number == shard.number) then states.Out k else s.state }

abbrev pub marked_state : ℕ → CodeState → CodeState → CodeState
marked_state k new (states.Out j) = if j == k then new else states.Out j
marked_state k new states.Pending = states.Pending
marked_state k new (states.Done r) = states.Done r
marked_state k new states.GivenUp = states.GivenUp

abbrev pub marked_open : ℕ → CodeState → OpenShard → OpenShard
marked_open k new s = record s { state = marked_state k new s.state }

abbrev pub failed_state : ℕ → CodeState → CodeState
failed_state k (states.Out j) = if j == k then states.GivenUp else states.Out j
failed_state k states.Pending = states.GivenUp
failed_state k (states.Done r) = states.Done r
failed_state k states.GivenUp = states.GivenUp

abbrev pub failed_open : ℕ → OpenShard → OpenShard
failed_open k s = record s { state = failed_state k s.state }

-- what holds of the shards of every open op: their numbers are of the layout, and those of one id and number are equally far
pub record AreShards (shards : List ShardWork) : Type 0 where
  pub few : (s : ShardWork) → Has shards s → s.number < 1024
  pub alike : (a b : ShardWork) → Has shards a → Has shards b → a.ref.id ≡ b.ref.id → a.number ≡ b.number → a.state ≡ b.state
