-- No ticket makes a step twice.
use Rattle.std.proofs.Common.{◌≡◌, ℕ, ◌≤◌, false, List, [], ◌∷◌, ◌++◌, sym, subst, inl, inr}
use Rattle.esr_model.specs.Values.{Has, Formats}
use Rattle.esr_core.specs.World.{World}
use Rattle.esr_core.specs.Entry.{ReadBlob, FetchShard, PlanShards, SettlePruned, RemoveDoomed, Step, DrawStep, BeginStep, CommitStep, LatestStep, FetchStep, ListStep, RaiseStep, SettleStep, DroppedStep, ReadStep, PruneStep, Refusal, Refused, Moment}
use Rattle.esr_core.specs.After.{after}
use Rattle.esr_core.specs.Allowed.{Allowed, Blocks, ByFailedSwap, ByDelete}
use Rattle.esr_core.specs.History.{world_from, IsLegal}
use Rattle.esr_core.specs.Past.{entries_by, IsNewStep, Repeats}
use Rattle.esr_desk.specs.Start.{Start, formats_of, Legal}
use Rattle.esr_desk.specs.Once.{IsSingle, uncounted, WasMade, NoneTwice}
use Rattle.esr_desk.specs.Made.{made_there}

-- ---- no step again

at : (f : Formats) (size : ℕ) (front back : List Moment) (w : World) (m : Moment) → IsLegal f size w (front ++ m ∷ back) → Allowed f size (world_from f w front) m
at f size [] back w m legal = legal.0
at f size (x ∷ front) back w m legal = at f size front back (after f w x) m legal.1

not_swap : (w : World) (m : Moment) (refusal : Refusal) → Blocks w m.entry.who m.entry.step refusal → m.entry.reply ≡ Refused refusal → WasMade m.entry.reply → w.deposed ≡ false
not_swap w m refusal (ByFailedSwap place deposed) is made = absurd (made place is)
not_swap w m refusal (ByDelete op alive aborted) is made = alive

alive : (f : Formats) (size : ℕ) (w : World) (m : Moment) → Allowed f size w m → WasMade m.entry.reply → w.deposed ≡ false
alive f size w m a made = elim a.answered [
  | inl now ↦ now.0
  | inr dead ↦ not_swap w m dead.refusal dead.blocks dead.refused made
]

-- two single steps that are one but for counts and shards
one_step : (a b : Step) → IsSingle b → uncounted a ≡ uncounted b → Repeats a b
one_step (DrawStep n) (DrawStep k) is same = tt
one_step (BeginStep n) (BeginStep k) is same = let e : n ≡ k = cc in e
one_step (CommitStep n) (CommitStep k) is same = let e : n ≡ k = cc in e
one_step LatestStep LatestStep is same = tt
one_step (FetchStep n) (FetchStep k) is same = let e : n ≡ k = cc in e
one_step (ListStep n) (ListStep k) is same = let e : n ≡ k = cc in e
one_step RaiseStep RaiseStep is same = tt
one_step SettleStep SettleStep is same = tt
one_step DroppedStep DroppedStep is same = tt
one_step (ReadStep (ReadBlob n)) (ReadStep (ReadBlob k)) is same = let e : n ≡ k = cc in e
one_step (PruneStep (FetchShard n)) (PruneStep (FetchShard k)) is same = let e : n ≡ k = cc in e
one_step (PruneStep (PlanShards n)) (PruneStep (PlanShards k)) is same = tt
one_step (PruneStep SettlePruned) (PruneStep SettlePruned) is same = tt
one_step (PruneStep (RemoveDoomed [])) (PruneStep (RemoveDoomed [])) is same = tt
one_step a (DrawStep k) is same = absurd cc
one_step a (BeginStep k) is same = absurd cc
one_step a (CommitStep k) is same = absurd cc
one_step a LatestStep is same = absurd cc
one_step a (FetchStep k) is same = absurd cc
one_step a (ListStep k) is same = absurd cc
one_step a RaiseStep is same = absurd cc
one_step a SettleStep is same = absurd cc
one_step a DroppedStep is same = absurd cc
one_step a (ReadStep (ReadBlob k)) is same = absurd cc
one_step a (PruneStep (FetchShard k)) is same = absurd cc
one_step a (PruneStep (PlanShards k)) is same = absurd cc
one_step a (PruneStep SettlePruned) is same = absurd cc
one_step a (PruneStep (RemoveDoomed [])) is same = absurd cc
one_step a b is same = absurd is

pub none_twice : (s : Start) (log : List Moment) → Legal s log → NoneTwice log
none_twice s log legal front back m is some single made x has by was same =
    let f = formats_of s in
    let a = at f s.part_size front back s.world m (subst (λ (l : List Moment). Legal s l) is legal) in
    let fresh : IsNewStep (world_from f s.world front) m.entry.who m.entry.step = a.once (alive f s.part_size (world_from f s.world front) m a made) in
    let mine : Has (entries_by (world_from f s.world front).entries x.entry.who) x.entry = made_there f s.world front x (subst (λ (k : ℕ). 1 ≤ k) (sym by) some) was has in
    fresh x.entry (subst (λ (k : ℕ). Has (entries_by (world_from f s.world front).entries k) x.entry) by mine) (one_step x.entry.step m.entry.step single same)
