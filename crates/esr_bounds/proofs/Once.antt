-- Of the steps of a ticket each has a key of its own.
use Rattle.std.proofs.Common.{◌≡◌, ◌≢◌, ◌⊎◌, ℕ, zero, suc, ◌<◌, ◌≤◌, List, [], ◌∷◌, Bool, true, false, Option, Some, refl, sym, ap, ◌∙◌, subst, inl, inr, ⊎_elim, arith, nat_cmp}
use Rattle.std.specs.Prelude.{if◌then◌else◌, ◌==◌}
use Rattle.std.proofs.lemmas.Bool.Decides.{eqb_tells}
use Rattle.std.specs.FinMap.{FinMap}
use Rattle.std.specs.FinMap as fin
use Rattle.std.proofs.lemmas.Option.{same_Some}
use Rattle.esr_model.specs.Names.{BlobName}
use Rattle.esr_model.specs.Values.{Has, Formats, ShardResult}
use Rattle.esr_model.specs.Delete.{PrunedShard}
use Rattle.esr_model.specs.Image.{Image}
use Rattle.esr_core.specs.World.{World, Op, Deletion, ReadState, Restored, NotRestored, Restoring, Reader, Work, Shard, Finalize, Deleting, Drop, Ticket}
use Rattle.esr_core.specs.Ready.{IsShard, IsMaster}
use Rattle.esr_core.specs.Restores.{AreOnce, IsReading}
use Rattle.esr_core.specs.Steps.{with_ticket}
use Rattle.esr_core.specs.Past.{Repeats, is_counted, begins_anew, entries_by}
use Rattle.esr_core.specs.Tracked.{Tracked}
use Rattle.esr_core.specs.ReadTracked.{ReadTracked}
use Rattle.esr_core.specs.Changes.{IsReaders, IsUnits, Maker, ClientStep, ReaderStep, UnitStep}
use Rattle.esr_core.specs.Entry.{Read, ReadBlob, RestoredShard, ReadFails, Prune, FetchShard, PlanShards, SettlePruned, RemoveDoomed, EndDelete, DeleteFails, Step, AskStep, TakeStep, DrawStep, BeginStep, CommitStep, LatestStep, FetchStep, ListStep, RaiseStep, SettleStep, DoneStep, FailedStep, FinishStep, DroppedStep, ElectStep, LookStep, ReadStep, PruneStep, DeposedAt, Refusal, Reply, Refused, Entry, Moment}
use Rattle.esr_core.specs.After.{with_given, is_stale, done_by, done_of, failed_by, failed_of, delete_failed_by, delete_failed, shard_over, read_over, answered, after}
use Rattle.esr_core.specs.Allowed as allowed
use Rattle.esr_core.specs.Allowed.{FailsDeletion, ReadAllows, PruneAllows, Allows, Blocks, ByFailedSwap, ByDelete, Allowed}
use Rattle.esr_core.specs.History.{world_from, IsLegal}
use Rattle.esr_bounds.specs.Keys.{Key, DrawKey, BeginKey, CommitKey, LatestKey, FetchKey, PageKey, RaiseKey, SettleKey, DropKey, ReadKey, IndexKey, PlanKey, PrunedKey, NoneKey, RemovalKey, EndKey, ClientKey, key, keys, IsUnheard, AreHeard, IsUntouched, IsHeard}
use Rattle.esr_bounds.specs.Laws.{StepLaws}
use Rattle.esr_core.specs.Laws.NumberMaps.{same_in}

-- ---- two steps of one key

-- a step of a ticket, or of that of a restore
abbrev pub IsTickets : Step → Type 0
IsTickets (AskStep command) = ⊥
IsTickets TakeStep = ⊥
IsTickets ElectStep = ⊥
IsTickets LookStep = ⊥
IsTickets (ReadStep read) = IsReaders (ReadStep read)
IsTickets step = Unit {0}

-- what a step is that has the key
abbrev pub Made : Step → Key → Type 0
Made a DrawKey = (count : ℕ) × (a ≡ DrawStep count)
Made a (BeginKey name) = a ≡ BeginStep name
Made a (CommitKey name) = a ≡ CommitStep name
Made a LatestKey = a ≡ LatestStep
Made a (FetchKey name) = a ≡ FetchStep name
Made a (PageKey from) = a ≡ ListStep from
Made a RaiseKey = a ≡ RaiseStep
Made a SettleKey = a ≡ SettleStep
Made a DropKey = a ≡ DroppedStep
Made a (ReadKey name) = a ≡ ReadStep (ReadBlob name)
Made a (IndexKey name) = a ≡ PruneStep (FetchShard name)
Made a PlanKey = (shards : List PrunedShard) × (a ≡ PruneStep (PlanShards shards))
Made a PrunedKey = a ≡ PruneStep SettlePruned
Made a NoneKey = a ≡ PruneStep (RemoveDoomed [])
Made a (RemovalKey name) = (names : List BlobName) × (a ≡ PruneStep (RemoveDoomed (name ∷ names)))
Made a EndKey = Unit {0}
Made a ClientKey = IsTickets a → ⊥

pub made : (a : Step) → Made a (key a)
made (DrawStep count) = (count, refl)
made (BeginStep name) = refl
made (CommitStep name) = refl
made LatestStep = refl
made (FetchStep name) = refl
made (ListStep from) = refl
made RaiseStep = refl
made SettleStep = refl
made DroppedStep = refl
made (DoneStep result) = tt
made (FailedStep why) = tt
made FinishStep = tt
made (ReadStep (ReadBlob name)) = refl
made (ReadStep (RestoredShard files bytes)) = tt
made (ReadStep (ReadFails why)) = tt
made (PruneStep (FetchShard name)) = refl
made (PruneStep (PlanShards shards)) = (shards, refl)
made (PruneStep SettlePruned) = refl
made (PruneStep (RemoveDoomed [])) = refl
made (PruneStep (RemoveDoomed (name ∷ names))) = (names, refl)
made (PruneStep EndDelete) = tt
made (PruneStep (DeleteFails why)) = tt
made a = λ h. h

as_steps : (a b x y : Step) → a ≡ x → b ≡ y → Repeats x y → Repeats a b
as_steps a b x y p q r = subst (λ (z : Step). Repeats z b) (sym p) (subst (λ (z : Step). Repeats x z) (sym q) r)

both_made : (a b : Step) (x : Key) → IsTickets b → Made a x → Made b x → Repeats a b ⊎ (x ≡ EndKey)
both_made a b DrawKey own p q = inl (as_steps a b (DrawStep p.0) (DrawStep q.0) p.1 q.1 tt)
both_made a b (BeginKey name) own p q = inl (as_steps a b (BeginStep name) (BeginStep name) p q refl)
both_made a b (CommitKey name) own p q = inl (as_steps a b (CommitStep name) (CommitStep name) p q refl)
both_made a b LatestKey own p q = inl (as_steps a b LatestStep LatestStep p q tt)
both_made a b (FetchKey name) own p q = inl (as_steps a b (FetchStep name) (FetchStep name) p q refl)
both_made a b (PageKey from) own p q = inl (as_steps a b (ListStep from) (ListStep from) p q refl)
both_made a b RaiseKey own p q = inl (as_steps a b RaiseStep RaiseStep p q tt)
both_made a b SettleKey own p q = inl (as_steps a b SettleStep SettleStep p q tt)
both_made a b DropKey own p q = inl (as_steps a b DroppedStep DroppedStep p q tt)
both_made a b (ReadKey name) own p q = inl (as_steps a b (ReadStep (ReadBlob name)) (ReadStep (ReadBlob name)) p q refl)
both_made a b (IndexKey name) own p q = inl (as_steps a b (PruneStep (FetchShard name)) (PruneStep (FetchShard name)) p q refl)
both_made a b PlanKey own p q = inl (as_steps a b (PruneStep (PlanShards p.0)) (PruneStep (PlanShards q.0)) p.1 q.1 tt)
both_made a b PrunedKey own p q = inl (as_steps a b (PruneStep SettlePruned) (PruneStep SettlePruned) p q tt)
both_made a b NoneKey own p q = inl (as_steps a b (PruneStep (RemoveDoomed [])) (PruneStep (RemoveDoomed [])) p q tt)
both_made a b (RemovalKey name) own p q = inl (as_steps a b (PruneStep (RemoveDoomed (name ∷ p.0))) (PruneStep (RemoveDoomed (name ∷ q.0))) p.1 q.1 (name, inl refl, inl refl))
both_made a b EndKey own p q = inr refl
both_made a b ClientKey own p q = absurd (q own)

repeats : (a b : Step) → IsTickets b → key a ≡ key b → Repeats a b ⊎ (key b ≡ EndKey)
repeats a b own same = both_made a b (key b) own (subst (Made a) same (made a)) (made b)

-- an entry of this key
of_key : (entries : List Entry) (x : Key) → Has (keys entries) x → (e : Entry) × Has entries e × (key e.step ≡ x)
of_key [] x h = absurd h
of_key (e ∷ entries) x (inl is) = (e, inl refl, is)
of_key (e ∷ entries) x (inr h) = let r = of_key entries x h in (r.0, inr r.1, r.2)

-- ---- whose steps they are

units_tickets : (step : Step) → IsUnits step → IsTickets step
units_tickets (AskStep command) h = h
units_tickets TakeStep h = h
units_tickets ElectStep h = h
units_tickets LookStep h = h
units_tickets (ReadStep read) h = absurd h
units_tickets step h = tt

readers_tickets : (step : Step) → IsReaders step → IsTickets step
readers_tickets (ReadStep read) h = h
readers_tickets step h = absurd h

-- ---- a ticket that is over

-- neither the ticket of this number is out, nor one of a restore
abbrev pub IsOver : FinMap nat_cmp Ticket → FinMap nat_cmp Reader → ℕ → Type 0
IsOver tickets readers k = ((t : Ticket) → fin.get tickets k ≡ Some t → t.out ≡ false) × ((q : Reader) → fin.get readers k ≡ Some q → q.out ≡ false)

on_off : (b : Bool) → b ≡ true → b ≡ false → ⊥
on_off b on off = let clash : true ≡ false = sym on ∙ off in cc

put_over : (tickets : FinMap nat_cmp Ticket) (k : ℕ) (v : Ticket) → v.out ≡ false → (t : Ticket) → fin.get (fin.insert tickets k v) k ≡ Some t → t.out ≡ false
put_over tickets k v off t there = ap (λ (x : Ticket). x.out) (same_Some t v (sym there ∙ same_in tickets k v)) ∙ off

-- the step has ended the ticket, and left those of restores
abbrev Closes : World → ℕ → World → Type 0
Closes w k new = ((t : Ticket) → fin.get new.tickets k ≡ Some t → t.out ≡ false) × (new.readers ≡ w.readers)

module _ (w : World) (k : ℕ) (t : Ticket) (there : fin.get w.tickets k ≡ Some t) where
  closed_alone : Closes w k (with_ticket w k (record t { out = false }))
  closed_alone = (put_over w.tickets k (record t { out = false }) refl, refl)

  closed_given : Closes w k (with_given w k (λ (x : Ticket). record x { out = false }) (fin.get w.tickets k))
  closed_given = subst (λ (o : Option Ticket). Closes w k (with_given w k (λ (x : Ticket). record x { out = false }) o)) (sym there) closed_alone

  closed_done : (r : ShardResult) (op : Op) → fin.get w.ops t.op ≡ Some op → Closes w k (done_of w k r (fin.get w.tickets k))
  closed_done r op op_there =
      subst (λ (o : Option Ticket). Closes w k (done_of w k r o)) (sym there)
      (subst (λ (o : Option Op). Closes w k (done_by w k r t o)) (sym op_there) (put_over w.tickets k (record t { out = false }) refl, refl))

  -- a unit that isn't stale is a shard's, or of the present term
  of_now : (work : Work) → IsShard work ⊎ IsMaster work → is_stale w t work ≡ false → IsShard work ⊎ (t.term ≡ w.term)
  of_now (Shard index number) unit fresh = inl tt
  of_now (Finalize info results made) unit fresh = inr (by_term fresh)
    where
      by_term : (if t.term == w.term then false else true) ≡ false → t.term ≡ w.term
      by_term fresh = elim (eqb_tells t.term w.term) [
        | inl same ↦ same.1
        | inr other ↦ let clash : true ≡ false = subst (λ (b : Bool). (if b then false else true) ≡ false) other.0 fresh in absurd cc
      ]
  of_now (Deleting uuids plan) unit fresh = inr (by_term fresh)
    where
      by_term : (if t.term == w.term then false else true) ≡ false → t.term ≡ w.term
      by_term fresh = elim (eqb_tells t.term w.term) [
        | inl same ↦ same.1
        | inr other ↦ let clash : true ≡ false = subst (λ (b : Bool). (if b then false else true) ≡ false) other.0 fresh in absurd cc
      ]
  of_now Drop unit fresh = absurd (⊎_elim (λ (h : IsShard Drop). h) (λ (h : IsMaster Drop). h) unit)

  closed_failed : IsShard t.work ⊎ IsMaster t.work → ((IsShard t.work ⊎ (t.term ≡ w.term)) → (op : Op) × (fin.get w.ops t.op ≡ Some op)) → Closes w k (failed_of w k (fin.get w.tickets k))
  closed_failed unit open_op = subst (λ (o : Option Ticket). Closes w k (failed_of w k o)) (sym there) (by (is_stale w t t.work) refl)
    where
      by : (b : Bool) → is_stale w t t.work ≡ b → Closes w k (if b then with_ticket w k (record t { out = false }) else failed_by w k t (fin.get w.ops t.op))
      by true stale = closed_alone
      by false fresh =
          let found = open_op (of_now t.work unit fresh) in
          subst (λ (o : Option Op). Closes w k (failed_by w k t o)) (sym found.1) (put_over w.tickets k (record t { out = false }) refl, refl)

  closed_delete : IsMaster t.work → (t.term ≡ w.term → (x : Deletion) × (fin.get w.deletes t.op ≡ Some x)) → (IsShard t.work → ⊥) → Closes w k (delete_failed w k (fin.get w.tickets k))
  closed_delete unit open_op no_shard = subst (λ (o : Option Ticket). Closes w k (delete_failed w k o)) (sym there) (by (is_stale w t t.work) refl)
    where
      by : (b : Bool) → is_stale w t t.work ≡ b → Closes w k (if b then with_ticket w k (record t { out = false }) else delete_failed_by w k t (fin.get w.deletes t.op))
      by true stale = closed_alone
      by false fresh =
          let found = open_op (⊎_elim (λ (shard : IsShard t.work). absurd (no_shard shard)) (λ (now : t.term ≡ w.term). now) (of_now t.work (inr unit) fresh)) in
          subst (λ (o : Option Deletion). Closes w k (delete_failed_by w k t o)) (sym found.1) (put_over w.tickets k (record t { out = false }) refl, refl)

  -- no ticket of a restore has its number
  over_ticket : ReadTracked w → (new : World) → Closes w k new → IsOver new.tickets new.readers k
  over_ticket reads new c = (c.0, λ q there_q. absurd (reads.apart.tickets k q t (subst (λ (m : FinMap nat_cmp Reader). fin.get m k ≡ Some q) c.1 there_q) there))

put_read : (readers : FinMap nat_cmp Reader) (k : ℕ) (v : Reader) → v.out ≡ false → (q : Reader) → fin.get (fin.insert readers k v) k ≡ Some q → q.out ≡ false
put_read readers k v off q there = ap (λ (x : Reader). x.out) (same_Some q v (sym there ∙ same_in readers k v)) ∙ off

over_reader : (w : World) (k : ℕ) (q : Reader) (state : ReadState) → ReadTracked w → IsReading w k q → IsOver (read_over w k state (fin.get w.readers k)).tickets (read_over w k state (fin.get w.readers k)).readers k
over_reader w k q state reads reading =
    subst (λ (o : Option Reader). IsOver (read_over w k state o).tickets (read_over w k state o).readers k) (sym reading.there)
    (subst (λ (o : Option Restoring). IsOver (shard_over w k state q o).tickets (shard_over w k state q o).readers k) (sym (reads.tracked.readers k q reading.there reading.out).there)
    ((λ t there. absurd (reads.apart.tickets k q t reading.there there)), put_read w.readers k (record q { out = false }) refl))

-- ---- a step that ends its ticket

module _ (f : Formats) (size : ℕ) (w : World) (tracked : Tracked w) (reads : ReadTracked w) where
  abbrev Over : ℕ → Step → Reply → Option Image → Type 0
  Over k step reply image = IsOver (answered f w k step reply image).tickets (answered f w k step reply image).readers k

  reading_over : (k : ℕ) (read : Read) (reply : Reply) (image : Option Image) → 1 ≤ k → IsReaders (ReadStep read) → key (ReadStep read) ≡ EndKey → ReadAllows f w k read reply image → Over k (ReadStep read) reply image
  reading_over zero read reply image some own is a = absurd (omega (arith, some))
  reading_over (suc k) (RestoredShard files bytes) reply image some own is (allowed.RestoringShard j fs bs im q reading told) = over_reader w (suc k) q (Restored files bytes) reads reading
  reading_over (suc k) (ReadFails why) reply image some own is (allowed.ReaderFailing j y im q reading) = over_reader w (suc k) q (NotRestored why) reads reading
  reading_over (suc k) (ReadBlob name) reply image some own is a = absurd cc
  reading_over (suc k) read reply image some own is a = absurd own

  pruning_over : (k : ℕ) (prune : Prune) (reply : Reply) (image : Option Image) → key (PruneStep prune) ≡ EndKey → PruneAllows f w k prune reply image → Over k (PruneStep prune) reply image
  pruning_over k EndDelete reply image is (allowed.EndingDelete j im d same) =
      over_ticket w k d.t d.deleting.out.there reads (with_given w k (λ (x : Ticket). record x { out = false }) (fin.get w.tickets k)) (closed_given w k d.t d.deleting.out.there)
  pruning_over k (DeleteFails why) reply image is (allowed.FailingDelete j y im d same) =
      over_ticket w k d.t d.deleting.out.there reads (delete_failed w k (fin.get w.tickets k)) (closed_delete w k d.t d.deleting.out.there (subst IsMaster (sym d.deleting.work) tt) (open_op d) (λ shard. subst IsShard d.deleting.work shard))
    where
      open_op : (d : FailsDeletion w k) → d.t.term ≡ w.term → (x : Deletion) × (fin.get w.deletes d.t.op ≡ Some x)
      open_op d now = elim d.may [
        | inl unsettled ↦ let h = tracked.deleting k d.t d.uuids d.plan d.deleting.out.there d.deleting.out.out unsettled now d.deleting.work in (h.x, h.there)
        | inr cleans ↦ cleans.1 now
      ]
  pruning_over k (RemoveDoomed []) reply image is a = absurd cc
  pruning_over k (RemoveDoomed (name ∷ names)) reply image is a = absurd cc
  pruning_over k prune reply image is a = absurd cc

  ended : (k : ℕ) (step : Step) (reply : Reply) (image : Option Image) → 1 ≤ k → IsTickets step → key step ≡ EndKey → Allows f size w k step reply image → Over k step reply image
  ended k (AskStep command) reply image some own is a = absurd own
  ended k TakeStep reply image some own is a = absurd own
  ended k ElectStep reply image some own is a = absurd own
  ended k LookStep reply image some own is a = absurd own
  ended k (DoneStep r) reply image some own is (allowed.Doing j x im d same) = over_ticket w k d.t d.out.there reads (done_of w k r (fin.get w.tickets k)) (closed_done w k d.t d.out.there r d.op d.op_there)
  ended k (FailedStep why) reply image some own is (allowed.Failing j y im d same) =
      over_ticket w k d.t d.out.there reads (failed_of w k (fin.get w.tickets k)) (closed_failed w k d.t d.out.there d.unit (λ now. (d.op, d.op_there now)))
  ended k FinishStep reply image some own is (allowed.Finishing j im d same) = over_ticket w k d.t d.out.there reads (with_given w k (λ (x : Ticket). record x { out = false }) (fin.get w.tickets k)) (closed_given w k d.t d.out.there)
  ended k (ReadStep read) reply image some own is (allowed.Reading j r rep im h same) = reading_over k read reply image some own is h
  ended k (ReadStep read) reply image some own is (allowed.Verifying r rep im h) = absurd (omega (arith, some))
  ended k (PruneStep prune) reply image some own is (allowed.Pruning j p rep im h) = pruning_over k prune reply image is h
  ended k step reply image some own is a = absurd cc

-- ---- what holds of a world

-- each entry of a ticket has a key of its own; one that has ended isn't out; and only tickets that were given have entries
pub record Kept (w : World) : Type 0 where
  pub once : (k : ℕ) → 1 ≤ k → AreOnce (keys (entries_by w.entries k))
  pub over : (k : ℕ) → 1 ≤ k → Has (keys (entries_by w.entries k)) EndKey → IsOver w.tickets w.readers k
  pub none : (k : ℕ) → 1 ≤ k → w.next_ticket ≤ k → entries_by w.entries k ≡ []

pub counted : (reply : Reply) → (IsUnheard reply → ⊥) → is_counted reply ≡ true
counted (Refused (DeposedAt place)) heard = absurd (heard tt)
counted reply heard = refl

pub never_anew : (who : ℕ) (step : Step) → 1 ≤ who → begins_anew who step ≡ false
never_anew zero step some = absurd (omega (arith, some))
never_anew (suc k) step some = refl

pub blocked_unheard : (w : World) (who : ℕ) (step : Step) (refusal : Refusal) → Blocks w who step refusal → IsUnheard (Refused refusal)
blocked_unheard w who step refusal (ByFailedSwap place dead) = tt
blocked_unheard w who step refusal (ByDelete by alive aborted) = tt

-- a ticket makes the step, and is out
pub record Turn (w : World) (k : ℕ) (step : Step) : Type 0 where
  pub own : IsTickets step
  pub below : k < w.next_ticket
  pub out : IsOver w.tickets w.readers k → ⊥

module _ (f : Formats) (size : ℕ) (laws : StepLaws f size) where
  pub looked_at : (w : World) (m : Moment) → Allowed f size w m → (IsUnheard m.entry.reply → ⊥) → (w.deposed ≡ false) × Allows f size w m.entry.who m.entry.step m.entry.reply m.image
  looked_at w m a heard = elim a.answered [
    | inl alive ↦ alive
    | inr dead ↦ absurd (heard (subst IsUnheard (sym dead.refused) (blocked_unheard w m.entry.who m.entry.step dead.refusal dead.blocks)))
  ]

  pub turn_of : (w : World) (m : Moment) → Tracked w → ReadTracked w → Allowed f size w m → (IsUnheard m.entry.reply → ⊥) → 1 ≤ m.entry.who → Turn w m.entry.who m.entry.step
  turn_of w m tracked reads a heard some = elim (laws.maker w m a) [
    | inl maker ↦ by maker
    | inr dead ↦ absurd (heard (subst IsUnheard (sym dead.refused) (blocked_unheard w m.entry.who m.entry.step dead.refusal dead.blocks)))
  ]
    where
      by : Maker w m.entry.who m.entry.step → Turn w m.entry.who m.entry.step
      by (ClientStep nobody own) = let no : m.entry.who ≡ 0 = nobody in absurd (omega (arith, some, no))
      by (ReaderStep q reading own) = record { own = readers_tickets m.entry.step own; below = (reads.tracked.tickets m.entry.who q reading.there).1; out = λ over. on_off q.out reading.out (over.1 q reading.there) }
      by (UnitStep t out own) = record { own = units_tickets m.entry.step own; below = (tracked.tickets m.entry.who t out.there).0; out = λ over. on_off t.out out.out (over.0 t out.there) }

  module _ (w : World) (m : Moment) (tracked : Tracked w) (reads : ReadTracked w) (a : Allowed f size w m) (heard : IsUnheard m.entry.reply → ⊥) (kept : Kept w) where
    abbrev new : World
    new = after f w m

    rises : w.next_ticket ≤ new.next_ticket
    rises = (laws.frame w m).next_ticket

    -- those of another
    module _ (k : ℕ) (some : 1 ≤ k) (other : k ≢ m.entry.who) where
      same_entries : entries_by new.entries k ≡ entries_by w.entries k
      same_entries = laws.others w.entries m.entry k other

      other_once : AreOnce (keys (entries_by new.entries k))
      other_once = subst (λ (es : List Entry). AreOnce (keys es)) (sym same_entries) (kept.once k some)

      other_over : Has (keys (entries_by new.entries k)) EndKey → IsOver new.tickets new.readers k
      other_over h =
          let before : Has (keys (entries_by w.entries k)) EndKey = subst (λ (es : List Entry). Has (keys es) EndKey) same_entries h in
          let over : IsOver w.tickets w.readers k = kept.over k some before in
          let given : k ≢ w.next_ticket = λ is. subst (λ (es : List Entry). Has (keys es) EndKey) (kept.none k some (let same : k ≡ w.next_ticket = is in omega (arith, same))) before in (
            λ t there. over.0 t (sym ((laws.frame w m).others k other given) ∙ there),
            λ q there. over.1 q (sym ((laws.frame w m).readers k other given) ∙ there),
          )

      other_none : new.next_ticket ≤ k → entries_by new.entries k ≡ []
      other_none past = same_entries ∙ kept.none k some (let up : w.next_ticket ≤ new.next_ticket = rises in let beyond : new.next_ticket ≤ k = past in omega (arith, up, beyond))

    -- its own
    module _ (some : 1 ≤ m.entry.who) where
      turn : Turn w m.entry.who m.entry.step
      turn = turn_of w m tracked reads a heard some

      own_entries : entries_by new.entries m.entry.who ≡ m.entry ∷ entries_by w.entries m.entry.who
      own_entries = laws.own w.entries m.entry (counted m.entry.reply heard) (never_anew m.entry.who m.entry.step some)

      fresh : Has (keys (entries_by w.entries m.entry.who)) (key m.entry.step) → ⊥
      fresh h =
          let e = of_key (entries_by w.entries m.entry.who) (key m.entry.step) h in
          ⊎_elim
          (λ (again : Repeats e.0.step m.entry.step). a.once (looked_at w m a heard).0 e.0 e.1 again)
          (λ (is : key m.entry.step ≡ EndKey). turn.out (kept.over m.entry.who some (subst (Has (keys (entries_by w.entries m.entry.who))) is h)))
          (repeats e.0.step m.entry.step turn.own e.2)

      own_over : Has (keys (entries_by new.entries m.entry.who)) EndKey → IsOver new.tickets new.readers m.entry.who
      own_over h = ⊎_elim
          (λ (is : key m.entry.step ≡ EndKey). ended f size w tracked reads m.entry.who m.entry.step m.entry.reply m.image some turn.own is (looked_at w m a heard).1)
          (λ (before : Has (keys (entries_by w.entries m.entry.who)) EndKey). absurd (turn.out (kept.over m.entry.who some before)))
          (subst (λ (es : List Entry). Has (keys es) EndKey) own_entries h)

      own_none : new.next_ticket ≤ m.entry.who → entries_by new.entries m.entry.who ≡ []
      own_none past = let up : w.next_ticket ≤ new.next_ticket = rises in let beyond : new.next_ticket ≤ m.entry.who = past in let below : m.entry.who < w.next_ticket = turn.below in absurd (omega (arith, up, beyond, below))

    abbrev KeptAt : ℕ → Type 0
    KeptAt k = AreOnce (keys (entries_by new.entries k)) × ((Has (keys (entries_by new.entries k)) EndKey → IsOver new.tickets new.readers k) × (new.next_ticket ≤ k → entries_by new.entries k ≡ []))

    kept_at : (k : ℕ) → 1 ≤ k → KeptAt k
    kept_at k some = elim (eqb_tells k m.entry.who) [
      | inl mine ↦ subst KeptAt (sym mine.1) (here (subst (λ (n : ℕ). 1 ≤ n) mine.1 some))
      | inr other ↦ (other_once k some other.1, (other_over k some other.1, other_none k some other.1))
    ]
      where
        here : 1 ≤ m.entry.who → KeptAt m.entry.who
        here some = (subst (λ (es : List Entry). AreOnce (keys es)) (sym (own_entries some)) (fresh some, kept.once m.entry.who some), (own_over some, own_none some))

    pub step_kept : Kept (after f w m)
    step_kept = record { once = λ k some. (kept_at k some).0; over = λ k some. (kept_at k some).1.0; none = λ k some. (kept_at k some).1.1 }

  first_heard : (m : Moment) (log : List Moment) → AreHeard (m ∷ log) → IsUnheard m.entry.reply → ⊥
  first_heard m log heard = heard m (inl refl)

  pub log_kept : (w : World) (log : List Moment) → Tracked w → ReadTracked w → Kept w → IsLegal f size w log → AreHeard log → Kept (world_from f w log)
  log_kept w [] tracked reads kept legal heard = kept
  log_kept w (m ∷ log) tracked reads kept legal heard =
      log_kept (after f w m) log (laws.tracks w m tracked legal.0) (laws.reads w m tracked reads legal.0) (step_kept w m tracked reads legal.0 (first_heard m log heard) kept) legal.1 (λ n h. heard n (inr h))

-- where nothing was done so far
pub untouched_kept : (w : World) → IsUntouched w → Kept w
untouched_kept w h = record {
  once = λ k some. subst (λ (es : List Entry). AreOnce (keys (entries_by es k))) (sym h.entries) tt;
  over = λ k some has. absurd (subst (λ (es : List Entry). Has (keys (entries_by es k)) EndKey) h.entries has);
  none = λ k some past. ap (λ (es : List Entry). entries_by es k) h.entries;
}

pub heard_kept : (f : Formats) (size : ℕ) (laws : StepLaws f size) (w : World) (log : List Moment) → IsHeard f size w log → Kept (world_from f w log)
heard_kept f size laws w log h = log_kept f size laws w log h.tracked h.readers (untouched_kept w h.untouched) h.legal h.heard
