-- What holds of all tickets stays over each step.
use Rattle.std.proofs.Common.{◌≡◌, ◌≢◌, ◌⊎◌, ℕ, ◌<◌, ◌≤◌, Bool, true, false, cond, nat_cmp, List, [], ◌∷◌, Option, Some, None, refl, sym, ap, ◌∙◌, subst, inl, inr, ⊎_elim, true≢false, arith, le_refl}
use Rattle.std.specs.Prelude.{if◌then◌else◌, ◌==◌}
use Rattle.std.proofs.lemmas.Bool.Decides.{eqb_tells}
use Rattle.std.specs.Ordering.{eq_by_cmp}
use Rattle.std.specs.Cmp.{nat_cmp_total, eq_by_cmp_equiv}
use Rattle.std.specs.FinMap.{FinMap, nat_cmp-IsAntisymmetric}
use Rattle.std.specs.FinMap as fin
use Rattle.std.proofs.lemmas.Option.{same_Some, none-some}
use Rattle.esr_core.specs.Laws.NumberMaps.{tied}
use Rattle.esr_model.specs.Values.{Has, Formats}
use Rattle.esr_model.specs.Image.{Image}
use Rattle.esr_core.specs.World.{World, Op, Deletion, ShardWork, Restoring, RestoreShard, Deleting, Drop, Swap, Ticket}
use Rattle.esr_core.specs.Entry.{Entry, Given, GivenShard, GivenFinalize, GivenDrop, GivenRestore, GivenClone, GivenDelete, GivenCleanup, Step, TakeStep, StaleTerm, DepotFault, Reply, Gave, Refused, Moment}
use Rattle.esr_core.specs.After.{shard_of, taken_shard, taken_restore_shard, taken_restore, taken_by, answered, after}
use Rattle.esr_core.specs.Restores.{restore_shard}
use Rattle.esr_core.specs.Steps.{IsOut, shard_ticket, final_ticket, plain_ticket}
use Rattle.esr_core.specs.Turns.{cleaning_ticket}
use Rattle.esr_core.specs.Allowed.{Gives, Allowed, Blocks}
use Rattle.esr_core.specs.Past.{begins_anew, entries_by}
use Rattle.esr_core.specs.Tracked.{Tracked}
use Rattle.esr_core.specs.Changes.{SameUnit, SameOps, AsBefore, OneAnew, StepChange, NewOp, NewDeletion, MergedDeletion, NewTicket, OwnTicket, Settlement, UnitEnd, DeletionFailure, OpDrop, Election, SwapFault, StepFrame}
use Rattle.esr_core.specs.Causes.{RefusalCause, OfRule, OfTerm}
use Rattle.esr_desk.specs.Made.{counted_or_before}
use Rattle.esr_repo.specs.Laws.{Laws}
use Rattle.esr_repo.specs.Tickets.{AreStale, AreOfOps}
use Rattle.esr_repo.proofs.Coming.{uuids_same}
use Rattle.esr_repo.proofs.Frames.{le_next}

-- ---- terms rise

term_up : (f : Formats) (w : World) (who : ℕ) (step : Step) (new : World) → StepChange f w who step new → w.term ≤ new.term
term_up f w who step new (Election is) = le_next w.term
term_up f w who step new (SwapFault is up change) = term_up f w who step up change
term_up f w who step new other = le_refl w.term

-- ---- stale tickets

own_or : (x : Entry) (who : ℕ) (e : Entry) (rest : List Entry) (mine anew : Bool) → x.who ≡ who → Has (if mine then (if anew then [] else x ∷ rest) else rest) e → (e.who ≡ who) ⊎ Has rest e
own_or x who e rest true true is has = absurd has
own_or x who e rest true false is (inl same) = inl (ap (λ (y : Entry). y.who) (sym same) ∙ is)
own_or x who e rest true false is (inr has) = inr has
own_or x who e rest false anew is has = inr has

pub entry_who : (entries : List Entry) (who : ℕ) (e : Entry) → Has (entries_by entries who) e → e.who ≡ who
entry_who [] who e has = absurd has
entry_who (x ∷ entries) who e has = ⊎_elim
    (λ (same : ((x.who == who) ≡ true) × (x.who ≡ who)). ⊎_elim
    (λ (is : e.who ≡ who). is)
    (λ (before : Has (entries_by entries who) e). entry_who entries who e before)
    (own_or x who e (entries_by entries who) (x.who == who) (begins_anew who x.step) same.1 has))
    (λ (apart : ((x.who == who) ≡ false) × (x.who ≡ who → ⊥)). entry_who entries who e (subst (λ (b : Bool). Has (if b then (if begins_anew who x.step then [] else x ∷ entries_by entries who) else entries_by entries who) e) apart.0 has))
    (eqb_tells x.who who)

no_block : (w : World) (who : ℕ) (step : Step) (own now : ℕ) → Blocks w who step (StaleTerm own now) → ⊥
no_block w who step own now h = elim h [ ]

of_term : (f : Formats) (size : ℕ) (w : World) (who : ℕ) (step : Step) (image : Option Image) (own now : ℕ) → RefusalCause f size w who step image (StaleTerm own now) → (t : Ticket) × IsOut w who t × (t.term ≢ w.term)
of_term f size w who step image own now (OfRule refusal command is rule) = absurd rule
of_term f size w who step image own now (OfTerm t out other) = (t, out, other)

-- a ticket of an older term stays one
stays_over : (w new : World) (who : ℕ) (step : Step) (k : ℕ) (t : Ticket) → Tracked w → StepFrame w new who step → w.term ≤ new.term → fin.get w.tickets k ≡ Some t → t.term < w.term
    → (v : Ticket) × (fin.get new.tickets k ≡ Some v) × (v.term < new.term)
stays_over w new who step k t tracked frame up there less =
    let stays = frame.stay k t (given k w.next_ticket (tracked.tickets k t there).0) there in
    (stays.0, stays.1, later stays.0.term t.term w.term new.term stays.2.term less up)
  where
    given : (a b : ℕ) → a < b → a ≢ b
    given a b lt same = omega (arith, lt, same)

    later : (v t old now : ℕ) → v ≡ t → t < old → old ≤ now → v < now
    later v t old now e lt le = omega (arith, e, lt, le)

pub stale_step : (f : Formats) (size : ℕ) (w : World) (m : Moment) → Laws → Tracked w → Allowed f size w m → AreStale w → AreStale (after f w m)
stale_step f size w m laws tracked a h k was =
    let frame = laws.frames f w m in
    let up : w.term ≤ (after f w m).term = term_up f w m.entry.who m.entry.step _ (laws.changes f w m.entry.who m.entry.step m.entry.reply m.image) in
    ⊎_elim
    (λ (here : m.entry ≡ was.entry).
    let who : m.entry.who ≡ k = ap (λ (e : Entry). e.who) here ∙ entry_who (after f w m).entries k was.entry was.there in
    let told = cause (laws.causes f size w m (StaleTerm was.own was.now) a (ap (λ (e : Entry). e.reply) here ∙ was.refused)) in
    subst (λ (n : ℕ). (v : Ticket) × (fin.get (after f w m).tickets n ≡ Some v) × (v.term < (after f w m).term)) who
    (stays_over w (after f w m) m.entry.who m.entry.step m.entry.who told.0 tracked frame up told.1.there (less told.0.term w.term (tracked.tickets m.entry.who told.0 told.1.there).1 told.2)))
    (λ (before : Has (entries_by w.entries k) was.entry).
    let old = h k (record { entry = was.entry; there = before; own = was.own; now = was.now; refused = was.refused }) in
    stays_over w (after f w m) m.entry.who m.entry.step k old.0 tracked frame up old.1 old.2)
    (counted_or_before w.entries m.entry k was.entry was.there)
  where
    less : (a b : ℕ) → a ≤ b → a ≢ b → a < b
    less a b le other = omega (arith, le, other)

    cause : Blocks w m.entry.who m.entry.step (StaleTerm was.own was.now) ⊎ RefusalCause f size w m.entry.who m.entry.step m.image (StaleTerm was.own was.now) → (t : Ticket) × IsOut w m.entry.who t × (t.term ≢ w.term)
    cause (inl block) = absurd (no_block w m.entry.who m.entry.step was.own was.now block)
    cause (inr of) = of_term f size w m.entry.who m.entry.step m.image was.own was.now of

-- ---- ops and tickets as they come

-- what is there after an insertion is the new one, or was there
key_was : {X : Type 0} (m : FinMap nat_cmp X) (k : ℕ) (v : X) (q : ℕ) (x : X) → fin.get (fin.insert m k v) q ≡ Some x → ((q ≡ k) × (v ≡ x)) ⊎ (fin.get m q ≡ Some x)
key_was {X} m k v q x e = go (eq_by_cmp nat_cmp q k) refl
  where
    by : (b : Bool) → eq_by_cmp nat_cmp q k ≡ b → cond b (Some v) (fin.get m q) ≡ Some x
    by b is = sym (ap (λ (c : Bool). cond c (Some v) (fin.get m q)) is) ∙ sym (fin.get-insert nat_cmp_total m k v q) ∙ e

    go : (b : Bool) → eq_by_cmp nat_cmp q k ≡ b → ((q ≡ k) × (v ≡ x)) ⊎ (fin.get m q ≡ Some x)
    go true same = inl (nat_cmp-IsAntisymmetric q k (tied (nat_cmp q k) same), same_Some v x (by true same))
    go false apart = inr (by false apart)

left_was : {X : Type 0} (m : FinMap nat_cmp X) (k q : ℕ) (x : X) → fin.get (fin.remove m k) q ≡ Some x → fin.get m q ≡ Some x
left_was {X} m k q x e = go (eq_by_cmp nat_cmp q k) refl
  where
    by : (b : Bool) → eq_by_cmp nat_cmp q k ≡ b → cond b None (fin.get m q) ≡ Some x
    by b is = sym (ap (λ (c : Bool). cond c None (fin.get m q)) is) ∙ sym (fin.get-remove nat_cmp_total m k q) ∙ e

    go : (b : Bool) → eq_by_cmp nat_cmp q k ≡ b → fin.get m q ≡ Some x
    go true same = absurd (none-some x (by true same))
    go false apart = by false apart

abbrev HasOp : FinMap nat_cmp Op → ℕ → Type 0
HasOp ops o = (op : Op) × (fin.get ops o ≡ Some op)

same_ops : (ops now : FinMap nat_cmp Op) → SameOps ops now → (o : ℕ) (op : Op) → fin.get now o ≡ Some op → HasOp ops o
same_ops ops now AsBefore o op e = (op, e)
same_ops ops now (OneAnew p x v there same) o op e = ⊎_elim (λ (here : (o ≡ p) × (v ≡ op)). (x, ap (fin.get ops) here.0 ∙ there)) (λ (was : fin.get ops o ≡ Some op). (op, was)) (key_was ops p v o op e)

-- an open op was there, or has the next number
ops_come : (f : Formats) (w : World) (who : ℕ) (step : Step) (new : World) → StepChange f w who step new → (o : ℕ) (op : Op) → fin.get new.ops o ≡ Some op → HasOp w.ops o ⊎ (o ≡ w.next_op)
ops_come f w who step new (NewOp ask x completed next a b) o op e = ⊎_elim (λ (here : (o ≡ w.next_op) × (x ≡ op)). inr here.0) (λ (was : fin.get w.ops o ≡ Some op). inl (op, was)) (key_was w.ops w.next_op x o op e)
ops_come f w who step new (NewDeletion ask ops x aborts clean) o op e = let old = aborts.was o op e in inl (old.0, old.1)
ops_come f w who step new (MergedDeletion ask ops d x v aborts there clean failed) o op e = let old = aborts.was o op e in inl (old.0, old.1)
ops_come f w who step new (NewTicket take t one ops same) o op e = inl (same_ops w.ops ops same o op e)
ops_come f w who step new (Settlement settle t s n names deletes there swap raised how) o op e = inl (op, left_was w.ops t.op o op e)
ops_come f w who step new (UnitEnd t x v completed there op_there same) o op e =
    inl (⊎_elim (λ (here : (o ≡ t.op) × (v ≡ op)). (x, ap (fin.get w.ops) here.0 ∙ op_there)) (λ (was : fin.get w.ops o ≡ Some op). (op, was)) (key_was w.ops t.op v o op e))
ops_come f w who step new (OpDrop drop t there) o op e = inl (op, left_was w.ops t.op o op e)
ops_come f w who step new (SwapFault is up change) o op e = ops_come f w who step up change o op e
ops_come f w who step new other o op e = inl (op, e)

abbrev HasTicket : World → ℕ → Type 0
HasTicket w k = (t : Ticket) × (fin.get w.tickets k ≡ Some t)

put_was : (w : World) (who : ℕ) (t v : Ticket) (k : ℕ) (x : Ticket) → fin.get w.tickets who ≡ Some t → fin.get (fin.insert w.tickets who v) k ≡ Some x → HasTicket w k
put_was w who t v k x there e = ⊎_elim (λ (here : (k ≡ who) × (v ≡ x)). (t, ap (fin.get w.tickets) here.0 ∙ there)) (λ (was : fin.get w.tickets k ≡ Some x). (x, was)) (key_was w.tickets who v k x e)

-- a ticket was there, unless a take gave it
given_by : (f : Formats) (w : World) (who : ℕ) (step : Step) (new : World) → StepChange f w who step new → (k : ℕ) (x : Ticket) → fin.get new.tickets k ≡ Some x → HasTicket w k ⊎ (step ≡ TakeStep)
given_by f w who step new (NewTicket take t one ops same) k x e = inr take
given_by f w who step new (OwnTicket t v there same settled next pending a b) k x e = inl (put_was w who t v k x there e)
given_by f w who step new (Settlement settle t s n names deletes there swap raised how) k x e = inl (put_was w who t (record t { settled = true }) k x there e)
given_by f w who step new (UnitEnd t op v completed there op_there same) k x e = inl (put_was w who t (record t { out = false }) k x there e)
given_by f w who step new (DeletionFailure t d there d_there) k x e = inl (put_was w who t (record t { out = false }) k x there e)
given_by f w who step new (OpDrop drop t there) k x e = inl (put_was w who t (record t { out = false }) k x there e)
given_by f w who step new (SwapFault is up change) k x e = given_by f w who step up change k x e
given_by f w who step new other k x e = inl (x, e)

-- ---- a ticket that a take gives

-- it is of no delete or cleanup
abbrev IsOther : Ticket → Type 0
IsOther v = (v.clean ≡ false) × ((uuids : List ℕ) (plan : Option Swap) → v.work ≡ Deleting uuids plan → ⊥)

-- or of one: its number is no open op's, and a cleanup names no snapshot
abbrev IsPruner : FinMap nat_cmp Op → Ticket → Type 0
IsPruner ops v = ((op : Op) → fin.get ops v.op ≡ Some op → ⊥) × (v.clean ≡ true → v.work ≡ Deleting [] None)

module _ (f : Formats) (w : World) (tracked : Tracked w) (v : Ticket) where
  fresh_number : fin.get w.tickets w.next_ticket ≡ Some v → ⊥
  fresh_number there = below w.next_ticket (tracked.tickets w.next_ticket v there).0
    where
      below : (n : ℕ) → n < n → ⊥
      below n lt = omega (arith, lt)

  other_unit : (t : Ticket) → IsOther t → fin.get (fin.insert w.tickets w.next_ticket t) w.next_ticket ≡ Some v → IsOther v
  other_unit t other e =
      ⊎_elim (λ (here : (w.next_ticket ≡ w.next_ticket) × (t ≡ v)). subst IsOther here.1 other) (λ (was : fin.get w.tickets w.next_ticket ≡ Some v). absurd (fresh_number was)) (key_was w.tickets w.next_ticket t w.next_ticket v e)

  by_shard : (o : ℕ) (op : Op) (base : Option ℕ) (s : Option ShardWork) → fin.get (taken_shard w o op base s).tickets w.next_ticket ≡ Some v → IsOther v
  by_shard o op base None e = absurd (fresh_number e)
  by_shard o op base (Some s) e = other_unit (shard_ticket w o op s base) (refl, λ us p is. cc) e

  by_restore : (o index number : ℕ) (r : Option Restoring) → fin.get (taken_restore w o index number r).tickets w.next_ticket ≡ Some v → ⊥
  by_restore o index number None e = fresh_number e
  by_restore o index number (Some r) e = go (restore_shard r.shards index number) e
    where
      go : (s : Option RestoreShard) → fin.get (taken_restore_shard w o r s).tickets w.next_ticket ≡ Some v → ⊥
      go None e = fresh_number e
      go (Some s) e = fresh_number e

  -- of the deletion that is open under this number
  pruner_unit : (o : ℕ) (x : Deletion) (t : Ticket) → fin.get w.deletes o ≡ Some x → t.op ≡ o → (t.clean ≡ true → t.work ≡ Deleting [] None) → fin.get (fin.insert w.tickets w.next_ticket t) w.next_ticket ≡ Some v
      → IsPruner w.ops v
  pruner_unit o x t there own bare e =
      ⊎_elim
      (λ (here : (w.next_ticket ≡ w.next_ticket) × (t ≡ v)). subst (IsPruner w.ops) here.1 (λ op is_open. tracked.apart o op x (ap (fin.get w.ops) (sym own) ∙ is_open) there, bare))
      (λ (was : fin.get w.tickets w.next_ticket ≡ Some v). absurd (fresh_number was))
      (key_was w.tickets w.next_ticket t w.next_ticket v e)

  by_unit : (o : ℕ) (unit : Given) (given : Option Op) → Gives f w o unit → fin.get (taken_by f w o unit given).tickets w.next_ticket ≡ Some v → IsOther v ⊎ IsPruner (taken_by f w o unit given).ops v
  by_unit o (GivenShard index number base) (Some x) gives e = inl (by_shard o x base (shard_of x.shards index number) e)
  by_unit o (GivenClone index number source base) (Some x) gives e = inl (by_shard o x base (shard_of x.shards index number) e)
  by_unit o (GivenFinalize info results) (Some x) gives e = inl (other_unit (final_ticket f w o x results) (refl, λ us p is. cc) e)
  by_unit o GivenDrop given gives e = inl (other_unit (plain_ticket w o Drop) (refl, λ us p is. cc) e)
  by_unit o (GivenRestore index number uuid) given gives e = absurd (by_restore o index number (fin.get w.restores o) e)
  by_unit o (GivenDelete us) given gives e = inr (pruner_unit o gives.0 (plain_ticket w o (Deleting us None)) gives.1.there refl (λ clean. absurd (true≢false (sym clean))) e)
  by_unit o GivenCleanup given gives e = inr (pruner_unit o gives.0 (cleaning_ticket w o) gives.1.there refl (λ clean. refl) e)
  by_unit o unit given gives e = absurd (fresh_number e)

  by_take : (who : ℕ) (reply : Reply) (image : Option Image) → ((k o : ℕ) (unit : Given) → reply ≡ Gave k o unit → Gives f w o unit) → fin.get (answered f w who TakeStep reply image).tickets w.next_ticket ≡ Some v
      → IsOther v ⊎ IsPruner (answered f w who TakeStep reply image).ops v
  by_take who (Gave k o unit) image gives e = by_unit o unit (fin.get w.ops o) (gives k o unit refl) e
  by_take who (Refused DepotFault) image gives e = absurd (fresh_number e)
  by_take who reply image gives e = absurd (fresh_number e)

-- ---- the op of a ticket that has settled

none_left : {X : Type 0} (m : FinMap nat_cmp X) (k : ℕ) (x : X) → fin.get (fin.remove m k) k ≡ Some x → ⊥
none_left {X} m k x e = none-some x (sym here ∙ e)
  where
    here : fin.get (fin.remove m k) k ≡ None
    here = fin.get-remove nat_cmp_total m k k ∙ ap (λ (b : Bool). cond b None (fin.get m k)) ((eq_by_cmp_equiv nat_cmp_total).refl k)

abbrev HadSettled : World → ℕ → ℕ → Type 0
HadSettled w k o = (t : Ticket) × (fin.get w.tickets k ≡ Some t) × (t.settled ≡ true) × (t.op ≡ o)

ended_settled : (w : World) (who : ℕ) (t : Ticket) (k : ℕ) (v : Ticket) → fin.get w.tickets who ≡ Some t → v.settled ≡ true → fin.get (fin.insert w.tickets who (record t { out = false })) k ≡ Some v → HadSettled w k v.op
ended_settled w who t k v there is e =
    ⊎_elim
    (λ (here : (k ≡ who) × ((record t { out = false }) ≡ v)). (t, ap (fin.get w.tickets) here.0 ∙ there, ap (λ (x : Ticket). x.settled) here.1 ∙ is, ap (λ (x : Ticket). x.op) here.1))
    (λ (was : fin.get w.tickets k ≡ Some v). (v, was, is, refl))
    (key_was w.tickets who (record t { out = false }) k v e)

-- it had settled before, where its op is open
settled_come : (f : Formats) (w : World) (who : ℕ) (step : Step) (new : World) → StepChange f w who step new → (k : ℕ) (v : Ticket) (op : Op) → fin.get new.tickets k ≡ Some v → v.settled ≡ true → fin.get new.ops v.op ≡ Some op
    → HadSettled w k v.op
settled_come f w who step new (NewTicket take t one ops same) k v op e is is_open =
    ⊎_elim
    (λ (here : (k ≡ w.next_ticket) × (t ≡ v)). absurd (true≢false (sym is ∙ ap (λ (x : Ticket). x.settled) (sym here.1) ∙ one.settled)))
    (λ (was : fin.get w.tickets k ≡ Some v). (v, was, is, refl))
    (key_was w.tickets w.next_ticket t k v e)
settled_come f w who step new (OwnTicket t x there same settled next pending a b) k v op e is is_open =
    ⊎_elim
    (λ (here : (k ≡ who) × (x ≡ v)). (t, ap (fin.get w.tickets) here.0 ∙ there, sym settled ∙ ap (λ (y : Ticket). y.settled) here.1 ∙ is, sym same.op ∙ ap (λ (y : Ticket). y.op) here.1))
    (λ (was : fin.get w.tickets k ≡ Some v). (v, was, is, refl))
    (key_was w.tickets who x k v e)
settled_come f w who step new (Settlement settle t s n names deletes there swap raised how) k v op e is is_open =
    ⊎_elim
    (λ (here : (k ≡ who) × ((record t { settled = true }) ≡ v)). absurd (none_left w.ops t.op op (ap (fin.get (fin.remove w.ops t.op)) (ap (λ (x : Ticket). x.op) here.1) ∙ is_open)))
    (λ (was : fin.get w.tickets k ≡ Some v). (v, was, is, refl))
    (key_was w.tickets who (record t { settled = true }) k v e)
settled_come f w who step new (UnitEnd t x y completed there op_there same) k v op e is is_open = ended_settled w who t k v there is e
settled_come f w who step new (DeletionFailure t d there d_there) k v op e is is_open = ended_settled w who t k v there is e
settled_come f w who step new (OpDrop drop t there) k v op e is is_open = ended_settled w who t k v there is e
settled_come f w who step new (SwapFault swaps up change) k v op e is is_open = settled_come f w who step up change k v op e is is_open
settled_come f w who step new other k v op e is is_open = (v, e, is, refl)

-- ---- a ticket of a delete or cleanup has the number of no open op

was_deleting : (t v : Ticket) (uuids : List ℕ) (plan : Option Swap) → SameUnit t v → v.work ≡ Deleting uuids plan → (us : List ℕ) × (p : Option Swap) × (t.work ≡ Deleting us p)
was_deleting t v uuids plan same work = elim same.work [ inl e ↦ (uuids, plan, sym e ∙ work) | inr x ↦ (x.0, x.1, x.3) ]

stays_bare : (t v : Ticket) (plan : Option Swap) → SameUnit t v → t.work ≡ Deleting [] plan → (p : Option Swap) × (v.work ≡ Deleting [] p)
stays_bare t v plan same work = elim same.work [
  | inl e ↦ (plan, e ∙ work)
  | inr x ↦ (Some x.2, x.4 ∙ ap (λ (us : List ℕ). Deleting us (Some x.2)) (uuids_same x.0 [] x.1 plan (sym x.3 ∙ work)))
]

pub of_ops_step : (f : Formats) (size : ℕ) (w : World) (m : Moment) → Laws → Tracked w → Allowed f size w m → AreOfOps w → AreOfOps (after f w m)
of_ops_step f size w m laws tracked a h = record { some = some; apart = apart; bare = bare; over = over }
  where
    frame : StepFrame w (after f w m) m.entry.who m.entry.step
    frame = laws.frames f w m

    some : (k : ℕ) (t : Ticket) → fin.get (after f w m).tickets k ≡ Some t → 1 ≤ k
    some k t there = elim (frame.come k t there) [
      | inl was ↦ h.some k was.0 was.1
      | inr new ↦ subst (λ (n : ℕ). 1 ≤ n) (sym new.0) tracked.first_ticket
    ]

    past : (a b c : ℕ) → a ≡ b → b < c → a ≡ c → ⊥
    past a b c e lt d = omega (arith, e, lt, d)

    old : (k : ℕ) (t v : Ticket) (uuids : List ℕ) (plan : Option Swap) (op : Op) → fin.get w.tickets k ≡ Some t → SameUnit t v → v.work ≡ Deleting uuids plan → fin.get (after f w m).ops v.op ≡ Some op → ⊥
    old k t v uuids plan op there same work is_open =
        let unit = was_deleting t v uuids plan same work in
        ⊎_elim
        (λ (was : HasOp w.ops v.op). h.apart k t unit.0 unit.1 was.0 there unit.2 (ap (fin.get w.ops) (sym same.op) ∙ was.1))
        (λ (new : v.op ≡ w.next_op). past v.op t.op w.next_op same.op (tracked.begun k t there) new)
        (ops_come f w m.entry.who m.entry.step _ (laws.changes f w m.entry.who m.entry.step m.entry.reply m.image) v.op op is_open)

    given : (v : Ticket) → fin.get (after f w m).tickets w.next_ticket ≡ Some v → IsOther v ⊎ IsPruner (after f w m).ops v
    given v there = elim (given_by f w m.entry.who m.entry.step _ (laws.changes f w m.entry.who m.entry.step m.entry.reply m.image) w.next_ticket v there) [
      | inl was ↦ absurd (below w.next_ticket (tracked.tickets w.next_ticket was.0 was.1).0)
      | inr take ↦
          subst (λ (s : Step). IsOther v ⊎ IsPruner (answered f w m.entry.who s m.entry.reply m.image).ops v) (sym take)
          (by_take f w tracked v m.entry.who m.entry.reply m.image
          (λ k o unit is. (laws.gave f size w m k o unit a is).gives)
          (subst (λ (s : Step). fin.get (answered f w m.entry.who s m.entry.reply m.image).tickets w.next_ticket ≡ Some v) take there))
    ]
      where
        below : (n : ℕ) → n < n → ⊥
        below n lt = omega (arith, lt)

    apart : (k : ℕ) (v : Ticket) (uuids : List ℕ) (plan : Option Swap) (op : Op) → fin.get (after f w m).tickets k ≡ Some v → v.work ≡ Deleting uuids plan → fin.get (after f w m).ops v.op ≡ Some op → ⊥
    apart k v uuids plan op there work is_open = elim (frame.come k v there) [
      | inl was ↦ old k was.0 v uuids plan op was.1 was.2 work is_open
      | inr new ↦ elim (given v (ap (fin.get (after f w m).tickets) (sym new.0) ∙ there)) [ inl other ↦ other.1 uuids plan work | inr pruner ↦ pruner.0 op is_open ]
    ]

    bare : (k : ℕ) (v : Ticket) → fin.get (after f w m).tickets k ≡ Some v → v.clean ≡ true → (plan : Option Swap) × (v.work ≡ Deleting [] plan)
    bare k v there clean = elim (frame.come k v there) [
      | inl was ↦ let before = h.bare k was.0 was.1 (sym was.2.clean ∙ clean) in stays_bare was.0 v before.0 was.2 before.1
      | inr new ↦ elim (given v (ap (fin.get (after f w m).tickets) (sym new.0) ∙ there)) [ inl other ↦ absurd (true≢false (sym clean ∙ other.0)) | inr pruner ↦ (None, pruner.1 clean) ]
    ]

    over : (k : ℕ) (v : Ticket) (op : Op) → fin.get (after f w m).tickets k ≡ Some v → v.settled ≡ true → fin.get (after f w m).ops v.op ≡ Some op → ⊥
    over k v op there settled is_open =
        let change = laws.changes f w m.entry.who m.entry.step m.entry.reply m.image in
        let was : HadSettled w k v.op = settled_come f w m.entry.who m.entry.step _ change k v op there settled is_open in
        ⊎_elim
        (λ (had : HasOp w.ops v.op). h.over k was.0 had.0 was.1 was.2 (ap (fin.get w.ops) was.3 ∙ had.1))
        (λ (new : v.op ≡ w.next_op). past v.op was.0.op w.next_op (sym was.3) (tracked.begun k was.0 was.1) new)
        (ops_come f w m.entry.who m.entry.step _ change v.op op is_open)
