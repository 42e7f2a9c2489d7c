-- No unit has a base but that of a shard, or of a clone's.
use Rattle.std.proofs.Common.{◌≡◌, ℕ, suc, zero, ◌<◌, List, [], ◌∷◌, length, Option, None, refl, sym, subst, arith}
use Rattle.std.specs.Prelude.{IfSome, slice_get}
use Rattle.esr_names.specs.declared.ids.Id.{Id}
use Rattle.esr_model.specs.Values.{RootData}
use Rattle.esr_core.specs.World.{Op, ShardWork}
use Rattle.esr_ops.specs.Ops.{IsShardWork}
use Rattle.esr_ops.specs.declared.unit.SeatKind.{SeatKind}
use Rattle.esr_ops.specs.declared.unit.Work.{Work}
use Rattle.esr_ops.specs.declared.unit.Work.TheVariants as works
use Rattle.esr_progress.specs.declared.ready.Kind.{Kind}
use Rattle.esr_progress.specs.declared.ready.Kind.TheVariants as ready
use Rattle.esr_progress.specs.Choice.{IsPossible, IsWorkFor, IsSeatFor, IsBaseFor}
use Rattle.esr_progress.specs.Based.{base_for}

pub none_based : (work : Work) → ◌≡◌ {A = Option Id} None (base_for work None)
none_based (works.Shard uuid shard index place) = refl
none_based (works.Finalize info shards) = refl
none_based works.Drop = refl
none_based (works.RestoreShard uuid shard index place) = refl
none_based (works.CloneShard source uuid shard index) = refl
none_based (works.Delete uuids) = refl
none_based works.Cleanup = refl

no_base : (work : Work) (base : Option Id) → base ≡ None → base ≡ base_for work base
no_base work base none = subst (λ (b : Option Id). b ≡ base_for work b) (sym none) (none_based work)

by_shard : (op : Op) (s : ShardWork) (work : Work) (base : Option Id) → IsShardWork op s work → base ≡ base_for work base
by_shard op s (works.Shard uuid shard index place) base h = refl
by_shard op s (works.CloneShard source uuid shard index) base h = refl
by_shard op s (works.Finalize info shards) base h = absurd h
by_shard op s works.Drop base h = absurd h
by_shard op s (works.RestoreShard uuid shard index place) base h = absurd h
by_shard op s (works.Delete uuids) base h = absurd h
by_shard op s works.Cleanup base h = absurd h

in_shards : (op : Op) (shards : List ShardWork) (i : ℕ) (work : Work) (base : Option Id) → i < length shards → IfSome (slice_get shards i) (λ s. IsShardWork op s work) → base ≡ base_for work base
in_shards op [] i work base within h = absurd (omega arith)
in_shards op (s ∷ shards) zero work base within h = by_shard op s work base h
in_shards op (s ∷ shards) (suc i) work base within h = in_shards op shards i work base (omega arith) h

pub unit_based : (root : RootData) (ops : List (ℕ × Op)) (op : Op) (kind : Kind) (work : Work) (seat : SeatKind) (base : Option Id) → IsPossible op kind → IsWorkFor op kind work → IsSeatFor op kind seat → IsBaseFor root ops seat base
    → base ≡ base_for work base
unit_based root ops op (ready.Shard i) work seat base possible work_is seat_is base_is = in_shards op op.shards i work base possible work_is
unit_based root ops op ready.Finalize work seat base possible work_is seat_is base_is = no_base work base (subst (λ (k : SeatKind). IsBaseFor root ops k base) seat_is base_is)
unit_based root ops op ready.Drop work seat base possible work_is seat_is base_is = no_base work base (subst (λ (k : SeatKind). IsBaseFor root ops k base) seat_is base_is)
