-- A step that doesn't swap the record leaves it: what it changes of an op is not told there.
use Rattle.std.proofs.Common.{◌≡◌, ℕ, ◌+◌, Bool, true, false, cond, List, [], ◌∷◌, ◌++◌, Option, Some, None, map, refl, sym, ap, ◌∙◌, inl, inr, nat_cmp, subst, zero, suc, true≢false}
use Rattle.std.specs.Prelude.{option_map, if◌then◌else◌}
use Rattle.std.specs.Ordering.{eq_by_cmp}
use Rattle.std.specs.Cmp.{nat_cmp_total}
use Rattle.std.specs.FinMap.Entries.{find}
use Rattle.std.specs.FinMap.{FinMap, nat_cmp-IsAntisymmetric}
use Rattle.std.specs.FinMap as fin
use Rattle.esr_model.specs.Names.{BlobName}
use Rattle.esr_model.specs.Values.{RecordWork, ShardResult, Formats, Bytes}
use Rattle.esr_model.specs.Image.{Image}
use Rattle.esr_core.specs.World.{World, Op, Deletion, ShardWork, Done, Ticket, marked, work_by, work_of, deletion_work, record_ops, ledger_of, record_of}
use Rattle.esr_core.specs.Steps.{listing, with_ticket, given}
use Rattle.esr_core.specs.Turns.{fails}
use Rattle.esr_core.specs.Entry.{Given, GivenShard, GivenClone, GivenFinalize, Step, AskStep, TakeStep, ListStep, WasListed, DrawStep, BeginStep, CommitStep, LatestStep, FetchStep, RaiseStep, SettleStep, DoneStep, FailedStep, FinishStep, DroppedStep, ElectStep, DepotFault, Reply, Gave, WasDone, WasThere, WasFetched, Refused, Moment, Restore, GivenRestore, ReadStep, AcceptedRestore, Read, DrawTest, CommitTest, DrawnFrom, Prune, FetchShard, PlanShards, SettlePruned, EndDelete, DeleteFails, PruneStep}
use Rattle.esr_core.specs.After.{or_else, taken_shard, taken_by, shard_of, with_given, committing, told_blob, fetching, done_by, done_of, is_stale, failed_by, failed_of, done_step, swaps_record, is_latest, faulted, answered, after, read_by, test_left, delete_failed_by, delete_failed, prune_step}
use Rattle.esr_core.specs.Laws.Asides.{Aside, aside_step}
use Rattle.esr_core.proofs.Besides.{aside_taken}
use Rattle.esr_core.specs.Laws.Maps.{split, get_same, get_other}
use Rattle.esr_core.specs.Pruning.{planned}
use Rattle.esr_model.specs.Delete.{kept_count}

-- ---- the ops of the record, read key by key

find-mapped : {X Y : Type 0} (h : X → Y) (q : ℕ) (es : List (ℕ × X)) → find nat_cmp q (map (λ (e : ℕ × X). (e.0, h e.1)) es) ≡ option_map h (find nat_cmp q es)
find-mapped h q [] = refl
find-mapped {X} {Y} h q (e ∷ es) =
    elim (eq_by_cmp nat_cmp q e.0) as (λ b. cond b (Some (h e.1)) (find nat_cmp q (map {B = ℕ × Y} (λ (p : ℕ × X). (p.0, h p.1)) es)) ≡ option_map h (cond b (Some e.1) (find nat_cmp q es))) [ true ↦ refl | false ↦ find-mapped h q es ]

find-either : {Y : Type 0} (q : ℕ) (xs ys : List (ℕ × Y)) → find nat_cmp q (xs ++ ys) ≡ or_else (find nat_cmp q xs) (find nat_cmp q ys)
find-either q [] ys = refl
find-either q (x ∷ xs) ys =
    elim (eq_by_cmp nat_cmp q x.0) as (λ b. cond b (Some x.1) (find nat_cmp q (xs ++ ys)) ≡ or_else (cond b (Some x.1) (find nat_cmp q xs)) (find nat_cmp q ys)) [ true ↦ refl | false ↦ find-either q xs ys ]

-- the ops that the record lists, and the deletes
abbrev listed : FinMap nat_cmp Op → FinMap nat_cmp Deletion → List (ℕ × RecordWork)
listed ops deletes = map (λ (e : ℕ × Op). (e.0, work_of e.1)) (fin.entries ops) ++ map (λ (e : ℕ × Deletion). (e.0, deletion_work e.1)) (fin.entries deletes)

find-listed : (ops : FinMap nat_cmp Op) (deletes : FinMap nat_cmp Deletion) (q : ℕ)
    → find nat_cmp q (listed ops deletes) ≡ or_else (option_map work_of (fin.get ops q)) (option_map deletion_work (fin.get deletes q))
find-listed ops deletes q =
    let rest : List (ℕ × RecordWork) = map (λ (e : ℕ × Deletion). (e.0, deletion_work e.1)) (fin.entries deletes) in
    find-either q (map (λ (e : ℕ × Op). (e.0, work_of e.1)) (fin.entries ops)) rest
    ∙ ap (λ (o : Option RecordWork). or_else o (find nat_cmp q rest)) (find-mapped work_of q (fin.entries ops) ∙ ap (option_map work_of) (sym (fin.get-entries ops q)))
    ∙ ap (or_else (option_map work_of (fin.get ops q))) (find-mapped deletion_work q (fin.entries deletes) ∙ ap (option_map deletion_work) (sym (fin.get-entries deletes q)))

-- ops and deletes that do the same are listed alike
same_listed : (ops new : FinMap nat_cmp Op) (deletes now : FinMap nat_cmp Deletion) → ((q : ℕ) → option_map work_of (fin.get new q) ≡ option_map work_of (fin.get ops q))
    → ((q : ℕ) → option_map deletion_work (fin.get now q) ≡ option_map deletion_work (fin.get deletes q)) → record_ops new now ≡ record_ops ops deletes
same_listed ops new deletes now same alike =
    ap fin.entries (fin.same_map nat_cmp_total nat_cmp-IsAntisymmetric (fin.from_entries {R = nat_cmp} (listed new now)) (fin.from_entries {R = nat_cmp} (listed ops deletes)) (λ q.
    fin.get-from_entries nat_cmp_total (listed new now) q
    ∙ find-listed new now q
    ∙ (λ j. or_else (same q j) (alike q j))
    ∙ sym (find-listed ops deletes q)
    ∙ sym (fin.get-from_entries nat_cmp_total (listed ops deletes) q)))

-- ---- what keeps the record

record Keeps (w new : World) : Type 0 where
  ledger : ledger_of new ≡ ledger_of w
  deletes : (q : ℕ) → option_map deletion_work (fin.get new.deletes q) ≡ option_map deletion_work (fin.get w.deletes q)
  ops : (q : ℕ) → option_map work_of (fin.get new.ops q) ≡ option_map work_of (fin.get w.ops q)

keeps_record : (w new : World) → Keeps w new → record_of new ≡ record_of w
keeps_record w new k =
    let same : record_ops new.ops new.deletes ≡ record_ops w.ops w.deletes = same_listed w.ops new.ops w.deletes new.deletes k.ops k.deletes in
    λ i. record { ledger = k.ledger i; ops = same i }

keeps_same : (w : World) → Keeps w w
keeps_same w = record { ledger = refl; deletes = λ q. refl; ops = λ q. refl }

-- an op whose shards go on, or that has failed, does the same
same_work : (op : Op) (shards : List ShardWork) (failed : Bool) (source : Option ℕ) → work_by (record op { shards = shards; failed = failed }) source ≡ work_by op source
same_work op shards failed None = refl
same_work op shards failed (Some u) = refl

put_back : (ops : FinMap nat_cmp Op) (o : ℕ) (op : Op) (shards : List ShardWork) (failed : Bool) → fin.get ops o ≡ Some op → (q : ℕ)
    → option_map work_of (fin.get (fin.insert ops o (record op { shards = shards; failed = failed })) q) ≡ option_map work_of (fin.get ops q)
put_back ops o op shards failed there q = elim (split nat_cmp_total nat_cmp-IsAntisymmetric q o) [
  | inl e ↦
      let new : Op = record op { shards = shards; failed = failed } in
      ap (λ p. option_map work_of (fin.get (fin.insert ops o new) p)) e
      ∙ ap (option_map work_of) (get_same nat_cmp_total nat_cmp-IsAntisymmetric ops o new)
      ∙ ap Some (same_work op shards failed op.source)
      ∙ ap (option_map work_of) (sym there)
      ∙ ap (λ p. option_map work_of (fin.get ops p)) (sym e)
  | inr e ↦ ap (option_map work_of) (get_other nat_cmp_total nat_cmp-IsAntisymmetric ops o (record op { shards = shards; failed = failed }) q e.0)
]

-- and so does a delete that has failed
failed_back : (deletes : FinMap nat_cmp Deletion) (o : ℕ) (x : Deletion) → fin.get deletes o ≡ Some x → (q : ℕ)
    → option_map deletion_work (fin.get (fin.insert deletes o (record x { failed = true })) q) ≡ option_map deletion_work (fin.get deletes q)
failed_back deletes o x there q = elim (split nat_cmp_total nat_cmp-IsAntisymmetric q o) [
  | inl e ↦
      let new : Deletion = record x { failed = true } in
      ap (λ p. option_map deletion_work (fin.get (fin.insert deletes o new) p)) e
      ∙ ap (option_map deletion_work) (get_same nat_cmp_total nat_cmp-IsAntisymmetric deletes o new)
      ∙ ap (option_map deletion_work) (sym there)
      ∙ ap (λ p. option_map deletion_work (fin.get deletes p)) (sym e)
  | inr e ↦ ap (option_map deletion_work) (get_other nat_cmp_total nat_cmp-IsAntisymmetric deletes o (record x { failed = true }) q e.0)
]

-- ---- the steps

keeps_aside : (w new : World) → Aside w new → Keeps w new
keeps_aside w new a = subst (Keeps w) (sym a.new_is) (record { ledger = refl; deletes = λ q. refl; ops = λ q. refl })

keeps_change : (w : World) (k : ℕ) (g : Ticket → Ticket) (o : Option Ticket) → Keeps w (with_given w k g o)
keeps_change w k g None = keeps_same w
keeps_change w k g (Some t) = record { ledger = refl; deletes = λ q. refl; ops = λ q. refl }

keeps_shard : (w : World) (o : ℕ) (op : Op) (base : Option ℕ) (s : Option ShardWork) → fin.get w.ops o ≡ Some op → Keeps w (taken_shard w o op base s)
keeps_shard w o op base None there = keeps_same w
keeps_shard w o op base (Some s) there = record { ledger = refl; deletes = λ q. refl; ops = put_back w.ops o op (map (given w.next_ticket s.ref.id s.number) op.shards) op.failed there }

keeps_taken : (f : Formats) (w : World) (o : ℕ) (unit : Given) (op : Option Op) → fin.get w.ops o ≡ op → Keeps w (taken_by f w o unit op)
keeps_taken f w o (GivenShard index number base) (Some op) there = keeps_shard w o op base (shard_of op.shards index number) there
keeps_taken f w o (GivenShard index number base) None there = keeps_same w
keeps_taken f w o (GivenClone index number source base) (Some op) there = keeps_shard w o op base (shard_of op.shards index number) there
keeps_taken f w o (GivenClone index number source base) None there = keeps_same w
keeps_taken f w o (GivenFinalize info results) None there = keeps_same w
keeps_taken f w o (GivenRestore index number uuid) op there = keeps_aside w _ (aside_taken w o index number (fin.get w.restores o))
keeps_taken f w o unit op there = record { ledger = refl; deletes = λ q. refl; ops = λ q. refl }

keeps_done_by : (w : World) (k : ℕ) (r : ShardResult) (t : Ticket) (op : Option Op) → fin.get w.ops t.op ≡ op → Keeps w (done_by w k r t op)
keeps_done_by w k r t None there = keeps_same w
keeps_done_by w k r t (Some op) there = record { ledger = refl; deletes = λ q. refl; ops = put_back w.ops t.op op (map (marked k (Done r)) op.shards) op.failed there }

keeps_done : (w : World) (k : ℕ) (r : ShardResult) (o : Option Ticket) → Keeps w (done_of w k r o)
keeps_done w k r None = keeps_same w
keeps_done w k r (Some t) = keeps_done_by w k r t (fin.get w.ops t.op) refl

keeps_failed_by : (w : World) (k : ℕ) (t : Ticket) (op : Option Op) → fin.get w.ops t.op ≡ op → Keeps w (failed_by w k t op)
keeps_failed_by w k t None there = keeps_same w
keeps_failed_by w k t (Some op) there = record { ledger = refl; deletes = λ q. refl; ops = put_back w.ops t.op op (map (fails k) op.shards) true there }

keeps_either : (w a b : World) (stale : Bool) → Keeps w a → Keeps w b → Keeps w (if stale then a else b)
keeps_either w a b true first second = first
keeps_either w a b false first second = second

keeps_failed : (w : World) (k : ℕ) (o : Option Ticket) → Keeps w (failed_of w k o)
keeps_failed w k None = keeps_same w
keeps_failed w k (Some t) =
    keeps_either w (with_ticket w k (record t { out = false })) (failed_by w k t (fin.get w.ops t.op)) (is_stale w t t.work) (record { ledger = refl; deletes = λ q. refl; ops = λ q. refl }) (keeps_failed_by w k t (fin.get w.ops t.op) refl)

keeps_drawn : (w : World) (k n : ℕ) (g : Ticket → Ticket) (o : Option Ticket) → Keeps w (record (with_given w k g o) { next_id = w.next_id + n })
keeps_drawn w k n g None = record { ledger = refl; deletes = λ q. refl; ops = λ q. refl }
keeps_drawn w k n g (Some t) = record { ledger = refl; deletes = λ q. refl; ops = λ q. refl }

-- of who 0 too
keeps_read : (f : Formats) (w : World) (k : ℕ) (read : Read) (reply : Reply) (image : Option Image) → Keeps w (read_by f w k read reply image)
keeps_read f w zero DrawTest (DrawnFrom first) image = record { ledger = refl; deletes = λ q. refl; ops = λ q. refl }
keeps_read f w zero (CommitTest name) WasDone image = record { ledger = refl; deletes = λ q. refl; ops = λ q. refl }
keeps_read f w zero read reply image = keeps_same w
keeps_read f w (suc k) read reply image = keeps_aside w _ (aside_step f w (suc k) read reply image)

keeps_left : (w : World) (name : BlobName) (was now : Option Bytes) → Keeps w (test_left w name was now)
keeps_left w name None (Some bytes) = record { ledger = refl; deletes = λ q. refl; ops = λ q. refl }
keeps_left w name was now = keeps_same w

keeps_delete_failed_by : (w : World) (k : ℕ) (t : Ticket) (x : Option Deletion) → fin.get w.deletes t.op ≡ x → Keeps w (delete_failed_by w k t x)
keeps_delete_failed_by w k t None there = keeps_same w
keeps_delete_failed_by w k t (Some x) there = record { ledger = refl; deletes = failed_back w.deletes t.op x there; ops = λ q. refl }

keeps_delete_failed : (w : World) (k : ℕ) (o : Option Ticket) → Keeps w (delete_failed w k o)
keeps_delete_failed w k None = keeps_same w
keeps_delete_failed w k (Some t) =
    keeps_either w (with_ticket w k (record t { out = false })) (delete_failed_by w k t (fin.get w.deletes t.op)) (is_stale w t t.work)
    (record { ledger = refl; deletes = λ q. refl; ops = λ q. refl }) (keeps_delete_failed_by w k t (fin.get w.deletes t.op) refl)

keeps_prune : (f : Formats) (w : World) (k : ℕ) (prune : Prune) (reply : Reply) (image : Option Image) → swaps_record (PruneStep prune) ≡ false → Keeps w (prune_step f w k prune reply image)
keeps_prune f w k (FetchShard name) WasFetched image e = keeps_change w k (fetching name (told_blob f image name)) (fin.get w.tickets k)
keeps_prune f w k (PlanShards shards) reply image e = keeps_drawn w k (kept_count shards) (planned f shards w.next_id) (fin.get w.tickets k)
keeps_prune f w k SettlePruned reply image e = absurd (true≢false e)
keeps_prune f w k EndDelete reply image e = keeps_change w k (λ t. record t { out = false }) (fin.get w.tickets k)
keeps_prune f w k (DeleteFails why) reply image e = keeps_delete_failed w k (fin.get w.tickets k)
keeps_prune f w k prune reply image e = keeps_same w

keeps_step : (f : Formats) (w : World) (k : ℕ) (step : Step) (reply : Reply) (image : Option Image) → swaps_record step ≡ false → Keeps w (done_step f w k step reply image)
keeps_step f w k (AskStep (Restore name place)) (AcceptedRestore o uuid indices) image e = record { ledger = refl; deletes = λ q. refl; ops = λ q. refl }
keeps_step f w k (AskStep (Restore name place)) reply image e = keeps_same w
keeps_step f w k (AskStep command) reply image e = absurd (true≢false e)
keeps_step f w k (ReadStep read) reply image e = keeps_read f w k read reply image
keeps_step f w k (PruneStep prune) reply image e = keeps_prune f w k prune reply image e
keeps_step f w k RaiseStep reply image e = absurd (true≢false e)
keeps_step f w k SettleStep reply image e = absurd (true≢false e)
keeps_step f w k DroppedStep reply image e = absurd (true≢false e)
keeps_step f w k ElectStep reply image e = absurd (true≢false e)
keeps_step f w k TakeStep (Gave ticket op unit) image e = keeps_taken f w op unit (fin.get w.ops op) refl
keeps_step f w k (ListStep from) (WasListed page) image e = keeps_change w k (λ t. listing t page) (fin.get w.tickets k)
keeps_step f w k (DrawStep n) reply image e = keeps_drawn w k n (λ t. record t { first = w.next_id; drawn = n }) (fin.get w.tickets k)
keeps_step f w k (CommitStep name) WasDone image e = keeps_change w k (committing name (told_blob f image name)) (fin.get w.tickets k)
keeps_step f w k (CommitStep name) WasThere image e = keeps_change w k (λ t. record t { noted = name ∷ t.noted }) (fin.get w.tickets k)
keeps_step f w k LatestStep reply image e = keeps_change w k (λ t. record t { tried_latest = true }) (fin.get w.tickets k)
keeps_step f w k (FetchStep name) WasFetched image e = keeps_change w k (fetching name (told_blob f image name)) (fin.get w.tickets k)
keeps_step f w k (DoneStep result) reply image e = keeps_done w k result (fin.get w.tickets k)
keeps_step f w k (FailedStep why) reply image e = keeps_failed w k (fin.get w.tickets k)
keeps_step f w k FinishStep reply image e = keeps_change w k (λ t. record t { out = false }) (fin.get w.tickets k)
keeps_step f w k step reply image e = keeps_same w

keeps_fault : (f : Formats) (w : World) (k : ℕ) (step : Step) (image : Option Image) → swaps_record step ≡ false → Keeps w (faulted f w k step image)
keeps_fault f w k LatestStep image e = keeps_change w k (λ t. record t { tried_latest = true }) (fin.get w.tickets k)
keeps_fault f w k (BeginStep name) image e = keeps_either w _ w (is_latest name) (keeps_change w k (λ t. record t { tried_latest = true }) (fin.get w.tickets k)) (keeps_same w)
keeps_fault f w k (AskStep (Restore name place)) image e = keeps_same w
keeps_fault f w k (AskStep command) image e = absurd (true≢false e)
keeps_fault f w k RaiseStep image e = absurd (true≢false e)
keeps_fault f w k SettleStep image e = absurd (true≢false e)
keeps_fault f w k DroppedStep image e = absurd (true≢false e)
keeps_fault f w k ElectStep image e = absurd (true≢false e)
keeps_fault f w k (PruneStep SettlePruned) image e = absurd (true≢false e)
keeps_fault f w k (ReadStep (CommitTest name)) image e = keeps_left w name (fin.get w.blobs (f.names.text name)) (told_blob f image name)
keeps_fault f w k step image e = keeps_same w

keeps_answered : (f : Formats) (w : World) (k : ℕ) (step : Step) (reply : Reply) (image : Option Image) → swaps_record step ≡ false → Keeps w (answered f w k step reply image)
keeps_answered f w k step (Refused DepotFault) image e = keeps_fault f w k step image e
keeps_answered f w k step (Refused refusal) image e = keeps_same w
keeps_answered f w k step reply image e = keeps_step f w k step reply image e

-- a step that doesn't swap the record leaves it, whatever it answers
pub record_stays : (f : Formats) (w : World) (m : Moment) → swaps_record m.entry.step ≡ false → record_of (after f w m) ≡ record_of w
record_stays f w m e = keeps_record w (answered f w m.entry.who m.entry.step m.entry.reply m.image) (keeps_answered f w m.entry.who m.entry.step m.entry.reply m.image e)
