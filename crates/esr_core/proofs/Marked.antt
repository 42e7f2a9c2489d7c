-- A shard that a ticket holds keeps its place as it goes on.
use Rattle.std.proofs.Common.{◌≡◌, ℕ, ap, inl, inr}
use Rattle.esr_core.specs.World.{ShardWork, ShardState, marked}
use Rattle.esr_core.specs.Laws.ShardStates.{marked_is}

pub marked_ref : (k : ℕ) (new : ShardState) (s : ShardWork) → (marked k new s).ref ≡ s.ref
marked_ref k new s = elim (marked_is k new s) [ inl h ↦ ap (λ (x : ShardWork). x.ref) h.is | inr h ↦ ap (λ (x : ShardWork). x.ref) h.is ]

pub marked_number : (k : ℕ) (new : ShardState) (s : ShardWork) → (marked k new s).number ≡ s.number
marked_number k new s = elim (marked_is k new s) [ inl h ↦ ap (λ (x : ShardWork). x.number) h.is | inr h ↦ ap (λ (x : ShardWork). x.number) h.is ]
