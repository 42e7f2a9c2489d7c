-- The tickets of restores as they were taken, and what their steps make of them.
use Rattle.std.specs.Prelude.{◌≡◌, ◌<◌, ℕ, true, List, [], Option, Some, None}
use Rattle.esr_model.specs.Names.{BlobName}
use Rattle.esr_model.specs.Values.{Bytes}
use Rattle.esr_core.specs.World.{World, Reader}
use Rattle.esr_core.specs.Restores.{read_more}
use Rattle.esr_core.specs.Entry.{Moment}
use Rattle.esr_ops.specs.Units.{IsCopyOf}
use Rattle.esr_ops.specs.declared.unit.Work.{Work}
use Rattle.esr_ops.specs.declared.unit.Work.TheVariants as works
use Rattle.esr_desk.specs.declared.unit.Unit.{Unit as Given}
use Rattle.esr_desk.specs.Start.{Start, world_of}
use Rattle.esr_desk.specs.Own.{reader_of}
use Rattle.esr_desk.specs.Taken.{Took}

-- one that has read nothing yet
abbrev pub fresh_reader : ℕ → ℕ → ℕ → ℕ → Bytes → Bytes → Reader
fresh_reader op uuid index number name place = record { op = op; uuid = uuid; index = index; number = number; name = name; place = place; read = []; out = true }

abbrev pub TookWork : Work → ℕ → Reader → Type 0
TookWork (works.RestoreShard uuid shard index place) op q = (q ≡ fresh_reader op uuid.number shard.index.number shard.number index place) × (shard.number < 1024)
TookWork work op q = ⊥

-- the ticket of a restore's shard is out, and has read nothing yet
abbrev pub TookRestore : Start → List Moment → Given → Type 0
TookRestore s log u = TookWork u.ready.work u.ready.op (reader_of s log u.ready.ticket)

-- this of a restore's unit, and that of each other
abbrev pub ByWork : Work → Type 0 → Type 0 → Type 0
ByWork (works.RestoreShard uuid shard index place) of_restore of_other = of_restore
ByWork work of_restore of_other = of_other

-- the ticket of a unit is out, and has done nothing yet
abbrev pub TookUnit : Start → List Moment → Given → Type 0
TookUnit s log u = ByWork u.ready.work (TookRestore s log u) (Took s log u)

-- a unit with no root to write and no base, which copies the safe root
pub record IsBareIn (w : World) (u : Given) : Type 0 where
  pub new_root : u.new_root ≡ None
  pub base : u.ready.copy.base ≡ None
  pub copy : IsCopyOf w u.ready.copy

-- so is that of a restore, as it is taken
abbrev pub IsBare : Start → List Moment → Given → Type 0
IsBare s log u = ByWork u.ready.work (IsBareIn (world_of s log) u) (Unit {0})

-- ---- what a step makes of the ticket

abbrev pub with_read : BlobName → Option Bytes → Reader → Reader
with_read name None q = q
with_read name (Some bytes) q = read_more q name bytes

-- a blob was fetched: what is told of it is noted
abbrev pub read_by : {F : Type 0} → (F → Option Bytes) → BlobName → Option F → Reader → Reader
read_by left name None q = q
read_by left name (Some f) q = with_read name (left f) q
