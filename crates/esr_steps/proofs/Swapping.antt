-- The steps of a ticket that swap the record.
use Rattle.std.proofs.Common.{◌≡◌, ◌≢◌, ◌⊎◌, ℕ, suc, ◌-◌, ◌^◌, ◌<◌, ◌≤◌, Bool, true, false, nat_cmp, List, map, Option, Some, None, Result, Ok, Err, ℤ, pos, negsuc, ◌+ℤ◌, ◌≤ℤ◌, ◌<ℤ◌, to_z, w64, refl, sym, ap, ◌∙◌, subst, inl, inr, arith}
use Rattle.std.specs.Prelude.{if◌then◌else◌, ◌==◌}
use Rattle.std.specs.Ordering.{int_eq}
use Rattle.std.specs.FinMap.{FinMap}
use Rattle.std.proofs.lemmas.Bool.{eqb-true, eq-eqb}
use Rattle.std.proofs.lemmas.Bool.Decides.{Decides-int_eq}
use Rattle.std.proofs.lemmas.Int.{ints, to_z_pos}
use Rattle.std.specs.FinMap as fin
use Rattle.esr_model.specs.Image.{Image}
use Rattle.esr_model.specs.Shelf.{Command}
use Rattle.esr_model.specs.Values.{ClusterRecord, RootData, SnapInfo, ShardResult, Formats}
use Rattle.esr_core.specs.World.{World, Op, AllDone, Ticket, Work, Finalize, Deleting, Drop, Swap, swap, swap_of, record_ops, ledger_of, record_of}
use Rattle.esr_core.specs.Steps.{MaySettle}
use Rattle.esr_core.specs.Tracked.{Tracked}
use Rattle.esr_core.specs.Entry.{RaiseStep, SettleStep, DroppedStep, RaisedTo, WasSettled, HasEnded, Refused, DepotFault, StaleTerm, GenerationsSpent, Refusal, Moment}
use Rattle.esr_core.specs.After.{with_given, change, raised, settled_by, settled_of, dropped_of, has_text, fallen}
use Rattle.esr_core.specs.Allowed.{HasCleaned, MayDrop, MayRaise, Raising, Settling, Dropping, RaiseStale, RaiseSpent, SettleStale, DropStale}
use Rattle.esr_core.specs.Ranked.{Ranked}
use Rattle.esr_root.specs.Root.{Root}
use Rattle.esr_record.specs.Record.{Record, AreNumbers}
use Rattle.esr_record.specs.Steps.{raised as record_raised}
use Rattle.esr_record.specs.declared.steps.RecordRefusal.{RecordRefusal}
use Rattle.esr_record.specs.declared.steps.RecordRefusal.TheVariants as records
use Rattle.esr_meta.specs.Info.{Info}
use Rattle.esr_formats.specs.Roots.{root_of}
use Rattle.esr_formats.specs.Clusters.{count_of, cluster_of, op_of}
use Rattle.esr_ops.specs.Plan.{Plan, Seat, seat_of, IsPlanOf}
use Rattle.esr_desk.specs.Conditions.{CanRaise, IsUnpruned, CanSettle}
use Rattle.esr_desk.specs.Refusals.{refusal_of}
use Rattle.esr_desk.specs.Taken.{LeftBy, HasRaised, IsSettled, HasEndedAs}
use Rattle.esr_desk.specs.declared.refusal.StepRefusal.{StepRefusal}
use Rattle.esr_desk.specs.declared.refusal.StepRefusal.TheVariants as steps
use Rattle.esr_desk.specs.declared.refusal.EntryRefusal.TheVariants as code
use Rattle.esr_desk.specs.Start.{Start, formats_of, world_of, or_no_ticket, ticket_of}
use Rattle.esr_repo.specs.Next.{Added, Did}
use Rattle.esr_repo.specs.May.{CanTell, IsMadeInfo, MaySwap, MayRefuse}
use Rattle.esr_repo.specs.InfosAfter.{InfosAfter}
use Rattle.esr_repo.specs.Grown.{out_is, put_there, added_ticket, changed_ticket}
use Rattle.esr_repo.specs.Stepping.{told_if}
use Rattle.esr_repo.specs.WithOps.{cluster_from}
use Rattle.esr_steps.specs.Leave.{CanLeave}
use Rattle.esr_steps.proofs.Stepping.{next_given, added_from}

abbrev IsFinal : Ticket → Type 0
IsFinal t = (info : SnapInfo) × (results : List ShardResult) × (made : Command) × (t.work ≡ Finalize info results made)

none_some : (b : Swap) → None ≡ Some b → ⊥
none_some b q = cc

-- a swap of no delete is that of a finalization
final_work : (f : Formats) (t : Ticket) (change : Swap) → IsUnpruned t → swap f t ≡ Some change → IsFinal t
final_work f t change unpruned is = go t.work refl is
  where
    go : (work : Work) → t.work ≡ work → swap_of f work t.root ≡ Some change → IsFinal t
    go (Finalize info results made) same e = (info, results, made, same)
    go (Deleting uuids plan) same e = absurd (unpruned uuids plan same)
    go work same e = absurd (none_some change e)

-- its op is there, with its shards done
pub info_there : (s : Start) (log : List Moment) (k : ℕ) (root : RootData) (seat : Seat) (plan : Plan) → Tracked (world_of s log) → IsUnpruned (ticket_of s log k) → CanSettle s (ticket_of s log k) root
    → (ticket_of s log k).term ≡ (world_of s log).term
    → seat ≡ seat_of (ticket_of s log k) → IsPlanOf (world_of s log) plan → ((x : Op) (results : List ShardResult) → fin.get plan.ops seat.op ≡ Some x → AllDone x.shards results → ⊥) → ⊥
info_there s log k root seat plan tracked unpruned can present seat_is plan_is none =
    let there = (out_is s log k can.put.out).there in
    let final = final_work (formats_of s) (ticket_of s log k) can.change unpruned can.is in
    let law = tracked.finals k (ticket_of s log k) final.0 final.1 final.2 there can.put.out can.put.unsettled present final.3 in
    none law.op final.1 (ap (λ (m : FinMap nat_cmp Op). fin.get m seat.op) plan_is.ops ∙ ap (λ (x : Seat). fin.get (world_of s log).ops x.op) seat_is ∙ law.op_there) law.done

-- ---- a raise

abbrev raise_by : ℕ → Ticket → Ticket
raise_by n t = record t { raised = Some n }

raised_root : (w : World) (k : ℕ) → (raised w k).root ≡ w.root
raised_root w k = go (fin.get w.tickets k)
  where
    go : (o : Option Ticket) → (with_given w k (raise_by w.pending) o).root ≡ w.root
    go None = refl
    go (Some t) = refl

abbrev raising : (s : Start) (log : List Moment) (k : ℕ) → CanRaise s (ticket_of s log k) → MayRaise (formats_of s) (world_of s log) k
raising s log k can = record { t = ticket_of s log k; out = out_is s log k can.out; s = can.change; is = can.is; unsettled = can.unsettled; once = can.once }

pub may_raise : (s : Start) (log : List Moment) (k n : ℕ) (cluster : Record) (plan p : Plan) (next : ℕ) → InfosAfter s log → CanRaise s (ticket_of s log k) → (ticket_of s log k).term ≡ (world_of s log).term
    → n ≡ (world_of s log).pending → n < 2 ^ 63
    → cluster_of cluster ≡ record_of (raised (world_of s log) k) → IsPlanOf (world_of s log) plan → ((w : World) → IsPlanOf w plan → w.pending ≡ n → IsPlanOf (raised w k) p) → next ≡ (world_of s log).next_id
    → MaySwap s log k RaiseStep (RaisedTo n) cluster None None None (Some p) next
may_raise s log k n cluster plan p next served can present n_is room cluster_is plan_is goes next_is = record {
  swaps = refl;
  answers = refl;
  allows = λ image tells same. Raising k n image (record { may = raising s log k can; present = present; n_is = n_is; room = subst (λ (m : ℕ). m < 2 ^ 63) n_is room }) same;
  cluster_is = cluster_is;
  root_is = λ old is. is ∙ sym (raised_root (world_of s log) k);
  infos_are = served.stay k RaiseStep tt;
  plan_is = λ old h. goes (world_of s log) plan_is (sym n_is);
  next_is = next_is ∙ sym (next_given (world_of s log) k (raise_by (world_of s log).pending));
}

-- the number after one that is -1 at least
count_next : (z safe : ℤ) → negsuc 0 ≤ℤ safe → safe ≤ℤ z → count_of (z +ℤ pos 1) ≡ suc (count_of z)
count_next (pos n) safe least order = ap suc (omega arith)
count_next (negsuc n) safe least order =
    let none : n ≡ 0 = omega (arith, ints) in
    subst (λ (m : ℕ). count_of (negsuc m +ℤ pos 1) ≡ suc (count_of (negsuc m))) (sym none) refl

abbrev with_pending : ℕ → ClusterRecord → ClusterRecord
with_pending n c = record c { ledger = record c.ledger { pending = n } }

-- the record has one generation more
pub raised_record : (w : World) (k : ℕ) (old new : Record) (n : ℤ) → cluster_of old ≡ record_of w → AreNumbers old.pending old.safe old.term → n ≡ old.pending +ℤ pos 1 → new ≡ record old { pending = n }
    → cluster_of new ≡ record_of (raised w k)
raised_record w k old new n is numbers n_is new_is =
    ap cluster_of new_is
    ∙ ap (λ (z : ℤ). with_pending (count_of z) (cluster_of old)) n_is
    ∙ ap (λ (m : ℕ). with_pending m (cluster_of old)) (count_next old.pending old.safe numbers.least numbers.order)
    ∙ ap (λ (c : ClusterRecord). with_pending (suc c.ledger.pending) c) is
    ∙ go (fin.get w.tickets k)
  where
    go : (o : Option Ticket) → with_pending (suc w.pending) (record_of w) ≡ record_of (record (with_given w k (raise_by w.pending) o) { pending = suc w.pending })
    go None = refl
    go (Some t) = refl

-- ---- why it is refused

abbrev IsSpent : ℕ → Record → RecordRefusal → Type 0
IsSpent own r e = (own ≡ r.term) × (r.pending ≡ pos (2 ^ 63 - 1)) × (e ≡ records.GenerationsSpent r.pending)

raise_refused : (own : ℕ) (r : Record) (e : RecordRefusal) → Err e ≡ record_raised own r → ((own ≢ r.term) × (e ≡ records.StaleTerm own r.term)) ⊎ IsSpent own r e
raise_refused own r e is = by_term (own == r.term) refl is
  where
    err_same : (a b : RecordRefusal) → ◌≡◌ {A = Result ℤ RecordRefusal} (Err a) (Err b) → a ≡ b
    err_same a b q = cc

    err_ok : (a : RecordRefusal) (z : ℤ) → ◌≡◌ {A = Result ℤ RecordRefusal} (Err a) (Ok z) → ⊥
    err_ok a z q = cc

    swapped : true ≡ false → ⊥
    swapped q = cc

    by_pending : own ≡ r.term → (c : Bool) → int_eq r.pending (pos (2 ^ 63 - 1)) ≡ c → Err e ≡ (if c then Err (records.GenerationsSpent r.pending) else Ok (r.pending +ℤ pos 1)) → IsSpent own r e
    by_pending same true q is = (same, (Decides-int_eq r.pending (pos (2 ^ 63 - 1))).0 q, err_same e (records.GenerationsSpent r.pending) is)
    by_pending same false q is = absurd (err_ok e (r.pending +ℤ pos 1) is)

    by_term : (b : Bool) → (own == r.term) ≡ b → Err e ≡ (if b then (if int_eq r.pending (pos (2 ^ 63 - 1)) then Err (records.GenerationsSpent r.pending) else Ok (r.pending +ℤ pos 1)) else Err (records.StaleTerm own r.term))
        → ((own ≢ r.term) × (e ≡ records.StaleTerm own r.term)) ⊎ IsSpent own r e
    by_term true q is = inr (by_pending (eqb-true own r.term q) (int_eq r.pending (pos (2 ^ 63 - 1))) refl is)
    by_term false q is = inl (λ same. swapped (sym (eq-eqb own r.term same) ∙ q), err_same e (records.StaleTerm own r.term) is)

pub may_refuse_raise : (s : Start) (log : List Moment) (k : ℕ) (seat : Seat) (r : Record) (e : RecordRefusal) (refusal : Refusal) → CanRaise s (ticket_of s log k) → seat ≡ seat_of (ticket_of s log k)
    → cluster_of r ≡ record_of (world_of s log)
    → Err e ≡ record_raised seat.term r → ((own now : ℕ) → e ≡ records.StaleTerm own now → refusal ≡ StaleTerm own now) → ((number : ℤ) → e ≡ records.GenerationsSpent number → refusal ≡ GenerationsSpent (count_of number))
    → MayRefuse s log k RaiseStep refusal
may_refuse_raise s log k seat r e refusal can seat_is r_is answer stale spent = go (raise_refused seat.term r e answer)
  where
    term_is : r.term ≡ (world_of s log).term
    term_is = ap (λ (c : ClusterRecord). c.ledger.term) r_is

    own_is : seat.term ≡ (ticket_of s log k).term
    own_is = ap (λ (x : Seat). x.term) seat_is

    by : (x : Refusal) → x ≡ refusal → MayRefuse s log k RaiseStep x → MayRefuse s log k RaiseStep refusal
    by x is may = subst (MayRefuse s log k RaiseStep) is may

    go : ((seat.term ≢ r.term) × (e ≡ records.StaleTerm seat.term r.term)) ⊎ IsSpent seat.term r e → MayRefuse s log k RaiseStep refusal
    go (inl h) =
        by (StaleTerm (ticket_of s log k).term (world_of s log).term) (sym (stale seat.term r.term h.1 ∙ ap (λ (n : ℕ). StaleTerm n r.term) own_is ∙ ap (StaleTerm (ticket_of s log k).term) term_is))
        (record { plain = refl; allows = λ image tells same. RaiseStale k image (raising s log k can) (λ q. h.0 (own_is ∙ q ∙ sym term_is)) same })
    go (inr h) =
        let last : (world_of s log).pending ≡ 2 ^ 63 = sym (ap (λ (c : ClusterRecord). c.ledger.pending) r_is) ∙ ap count_of h.1 in
        by (GenerationsSpent (world_of s log).pending) (sym (spent r.pending h.2 ∙ ap GenerationsSpent (ap (λ (c : ClusterRecord). c.ledger.pending) r_is)))
        (record { plain = refl; allows = λ image tells same. RaiseSpent k image (raising s log k can) (sym own_is ∙ h.0 ∙ term_is) (omega arith) same })

-- ---- why it isn't

ok_err : (n : ℤ) (e : RecordRefusal) → ◌≡◌ {A = Result ℤ RecordRefusal} (Ok n) (Err e) → ⊥
ok_err n e q = cc

raise_term : (own : ℕ) (r : Record) (n : ℤ) → ◌≡◌ {A = Result ℤ RecordRefusal} (Ok n) (record_raised own r) → own ≡ r.term
raise_term own r n is = go (own == r.term) refl is
  where
    go : (b : Bool) → (own == r.term) ≡ b
        → ◌≡◌ {A = Result ℤ RecordRefusal} (Ok n) (if b then (if int_eq r.pending (pos (2 ^ 63 - 1)) then Err (records.GenerationsSpent r.pending) else Ok (r.pending +ℤ pos 1)) else Err (records.StaleTerm own r.term))
        → own ≡ r.term
    go true q e = eqb-true own r.term q
    go false q e = absurd (ok_err n (records.StaleTerm own r.term) e)

raise_not_last : (own : ℕ) (r : Record) (n : ℤ) → ◌≡◌ {A = Result ℤ RecordRefusal} (Ok n) (record_raised own r) → r.pending ≡ pos (2 ^ 63 - 1) → ⊥
raise_not_last own r n is last = by_term (own == r.term) is
  where
    swapped : true ≡ false → ⊥
    swapped q = cc

    by_pending : (c : Bool) → int_eq r.pending (pos (2 ^ 63 - 1)) ≡ c → ◌≡◌ {A = Result ℤ RecordRefusal} (Ok n) (if c then Err (records.GenerationsSpent r.pending) else Ok (r.pending +ℤ pos 1)) → ⊥
    by_pending true q e = ok_err n (records.GenerationsSpent r.pending) e
    by_pending false q e = swapped (sym ((Decides-int_eq r.pending (pos (2 ^ 63 - 1))).1 last) ∙ q)

    by_term : (b : Bool)
        → ◌≡◌ {A = Result ℤ RecordRefusal} (Ok n) (if b then (if int_eq r.pending (pos (2 ^ 63 - 1)) then Err (records.GenerationsSpent r.pending) else Ok (r.pending +ℤ pos 1)) else Err (records.StaleTerm own r.term))
        → ⊥
    by_term true e = by_pending (int_eq r.pending (pos (2 ^ 63 - 1))) refl e
    by_term false e = ok_err n (records.StaleTerm own r.term) e

below_last : (z : ℤ) → z ≤ℤ pos (2 ^ 63 - 1) → (z ≡ pos (2 ^ 63 - 1) → ⊥) → count_of z < 2 ^ 63
below_last (pos n) most other =
    let differ : n ≡ 2 ^ 63 - 1 → ⊥ = λ same. other (ap pos same) in
    let below : suc n < 2 ^ 63 = omega (arith, ints, differ) in
    below
below_last (negsuc n) most other =
    let below : 0 < 2 ^ 63 = omega arith in
    below

-- the ticket is of the present term
pub raise_present : (s : Start) (log : List Moment) (k : ℕ) (seat : Seat) (r : Record) (n : ℤ) → seat ≡ seat_of (ticket_of s log k) → cluster_of r ≡ record_of (world_of s log)
    → ◌≡◌ {A = Result ℤ RecordRefusal} (Ok n) (record_raised seat.term r) → (ticket_of s log k).term ≡ (world_of s log).term
raise_present s log k seat r n seat_is r_is is = sym (ap (λ (x : Seat). x.term) seat_is) ∙ raise_term seat.term r n is ∙ ap (λ (c : ClusterRecord). c.ledger.term) r_is

-- a generation is left
pub raise_room : (w : World) (own : ℕ) (r : Record) (n : ℤ) (generation : ℕ) → cluster_of r ≡ record_of w → AreNumbers r.pending r.safe r.term
    → ◌≡◌ {A = Result ℤ RecordRefusal} (Ok n) (record_raised own r) → generation ≡ w.pending → generation < 2 ^ 63
raise_room w own r n generation r_is numbers is same =
    subst (λ (m : ℕ). m < 2 ^ 63) (ap (λ (c : ClusterRecord). c.ledger.pending) r_is ∙ sym same) (below_last r.pending numbers.most (raise_not_last own r n is))

-- ---- the ticket

pub raised_ticket : (s : Start) (old mid new : List Moment) (k n : ℕ) → mid ≡ old → n ≡ (world_of s mid).pending → CanRaise s (ticket_of s old k) → Added s mid new k RaiseStep (RaisedTo n)
    → ticket_of s new k ≡ record (ticket_of s old k) { raised = Some n }
raised_ticket s old mid new k n e n_is can a =
    let here : (ticket_of s mid k).out ≡ true = subst (λ (log : List Moment). (ticket_of s log k).out ≡ true) (sym e) can.out in
    added_ticket s mid new k RaiseStep (RaisedTo n) a k
    ∙ changed_ticket s mid k (raise_by (world_of s mid).pending) here
    ∙ ap (λ (m : ℕ). raise_by m (ticket_of s mid k)) (sym n_is)
    ∙ ap (λ (log : List Moment). raise_by n (ticket_of s log k)) e

raise_fell : (s : Start) (old : List Moment) (k : ℕ) (image : Option Image) (t : Ticket) → (ticket_of s old k).out ≡ true → t ≡ or_no_ticket (fin.get (fallen (formats_of s) (world_of s old) (raised (world_of s old) k) image).tickets k)
    → (t ≡ ticket_of s old k) ⊎ HasRaised (ticket_of s old k) t
raise_fell s old k image t out is = go (has_text image ((formats_of s).cluster.text (record_of (raised (world_of s old) k)))) is
  where
    go : (b : Bool) → t ≡ or_no_ticket (fin.get (if b then raised (world_of s old) k else world_of s old).tickets k) → (t ≡ ticket_of s old k) ⊎ HasRaised (ticket_of s old k) t
    go true q = inr ((world_of s old).pending, q ∙ changed_ticket s old k (raise_by (world_of s old).pending) out)
    go false q = inl q

pub raise_left : (s : Start) (old new : List Moment) (k : ℕ) (r : Result ℕ StepRefusal) → CanRaise s (ticket_of s old k) → Did s old new k RaiseStep (λ n. RaisedTo n) r
    → LeftBy (HasRaised (ticket_of s old k)) r (ticket_of s old k) (ticket_of s new k)
raise_left s old new k (Ok n) can did = tt
raise_left s old new k (Err steps.Memory) can did = ap (λ (l : List Moment). ticket_of s l k) did
raise_left s old new k (Err steps.TurnsSpent) can never = absurd never
raise_left s old new k (Err (steps.Refused code.DepotFault)) can did = raise_fell s old k did.image (ticket_of s new k) can.out (added_ticket s old new k RaiseStep (Refused DepotFault) did k)
raise_left s old new k (Err (steps.Refused x)) can did = added_ticket s old new k RaiseStep (Refused (refusal_of x)) did k

-- ---- the generation that is settled

-- a place above these counts is above the last of them
count_below : (z : ℤ) (n : ℕ) → count_of z ≤ n → z <ℤ pos n
count_below (pos m) n h = omega (arith, ints)
count_below (negsuc m) n h = omega (arith, ints)

count_above : (z : ℤ) (n : ℕ) → n < count_of z → pos n ≤ℤ z
count_above (pos m) n h = omega (arith, ints)
count_above (negsuc m) n h = absurd (omega arith)

count_most : (z : ℤ) → z ≤ℤ pos (2 ^ 63 - 1) → count_of z ≤ 2 ^ 63
count_most (pos m) h = omega (arith, ints)
count_most (negsuc m) h = omega arith

-- a generation that the ticket raised and can settle on
pub record IsRaised (r : Record) (n : ℕ) : Type 0 where
  pub signed : to_z w64 n ≡ pos n
  pub above : r.safe <ℤ to_z w64 n
  pub given : to_z w64 n ≤ℤ r.pending

pub raised_in : (s : Start) (log : List Moment) (k : ℕ) (root : RootData) (r : Record) (seat : Seat) (n : ℕ) → Ranked (world_of s log) → CanSettle s (ticket_of s log k) root → (ticket_of s log k).term ≡ (world_of s log).term
    → cluster_of r ≡ record_of (world_of s log) → AreNumbers r.pending r.safe r.term → seat ≡ seat_of (ticket_of s log k) → seat.raised ≡ Some n → IsRaised r n
raised_in s log k root r seat n ranked can present is numbers seat_is raised =
    let own : (ticket_of s log k).raised ≡ Some n = ap (λ (x : Seat). x.raised) (sym seat_is) ∙ raised in
    let there = (out_is s log k can.put.out).there in
    let below : n < (world_of s log).pending = (ranked.raised k n (ticket_of s log k) there own).1 in
    let above : (world_of s log).safe ≤ n = ranked.unsettled k n (ticket_of s log k) there can.put.out can.put.unsettled present own in
    let safe : count_of r.safe ≡ (world_of s log).safe = ap (λ (c : ClusterRecord). c.ledger.safe) is in
    let pending : count_of r.pending ≡ (world_of s log).pending = ap (λ (c : ClusterRecord). c.ledger.pending) is in
    let most : count_of r.pending ≤ 2 ^ 63 = count_most r.pending numbers.most in
    let few : n < 2 ^ 63 = omega arith in
    let signed : to_z w64 n ≡ pos n = to_z_pos w64 n few in
    record {
      signed = signed;
      above = subst (λ (z : ℤ). r.safe <ℤ z) (sym signed) (count_below r.safe n (omega arith));
      given = subst (λ (z : ℤ). z ≤ℤ r.pending) (sym signed) (count_above r.pending n (omega arith));
    }

some_number : (a b : ℕ) → Some a ≡ Some b → a ≡ b
some_number a b q = cc

pub settled_ledger : (s : Start) (log : List Moment) (k : ℕ) (r new : Record) (seat : Seat) (n m : ℕ) → cluster_of r ≡ record_of (world_of s log) → seat ≡ seat_of (ticket_of s log k) → seat.raised ≡ Some n → IsRaised r n
    → new ≡ record r { safe = to_z w64 n } → (ticket_of s log k).raised ≡ Some m → (cluster_of new).ledger ≡ record { safe = suc m; pending = (world_of s log).pending; term = (world_of s log).term }
settled_ledger s log k r new seat n m is seat_is raised in_it new_is own =
    let same : n ≡ m = some_number n m (sym raised ∙ ap (λ (x : Seat). x.raised) seat_is ∙ own) in
    let safe : count_of new.safe ≡ suc m = ap (λ (x : Record). count_of x.safe) new_is ∙ ap count_of in_it.signed ∙ ap suc same in
    let pending : count_of new.pending ≡ (world_of s log).pending = ap (λ (x : Record). count_of x.pending) new_is ∙ ap (λ (c : ClusterRecord). c.ledger.pending) is in
    let term : new.term ≡ (world_of s log).term = ap (λ (x : Record). x.term) new_is ∙ ap (λ (c : ClusterRecord). c.ledger.term) is in
    λ i. record { safe = safe i; pending = pending i; term = term i }

-- ---- a settle

abbrev settle : Ticket → Ticket
settle t = record t { settled = true }

-- the world, blobs aside, after a settle on this root
abbrev settled_world : World → ℕ → Ticket → ℕ → RootData → World
settled_world w k t n root = record w { safe = suc n; root = root; ops = fin.remove w.ops t.op; tickets = fin.insert w.tickets k (settle t); deletes = fin.remove w.deletes t.op }

settled_is : (f : Formats) (w : World) (k : ℕ) (t : Ticket) (change : Swap) (n : ℕ) → fin.get w.tickets k ≡ Some t → swap f t ≡ Some change → t.raised ≡ Some n
    → settled_of f w k (fin.get w.tickets k) ≡ settled_world w k t n change.root
settled_is f w k t change n there is raised = ap (settled_of f w k) there ∙ ap (λ (x : Option Swap). settled_by f w k t x t.raised) is ∙ ap (settled_by f w k t (Some change)) raised

abbrev may_settle : (s : Start) (log : List Moment) (k : ℕ) (root : RootData) (can : CanSettle s (ticket_of s log k) root) → MaySettle (formats_of s) (world_of s log) k can.n (ticket_of s log k) can.change
may_settle s log k root can = record { out = out_is s log k can.put.out; is = can.is; unsettled = can.put.unsettled; raised = can.put.raised; written = can.put.written; ready = can.ready; tried = can.tried }

-- the list of ops after it
settled_plan : (s : Start) (log : List Moment) (k : ℕ) (root : RootData) (plan p : Plan) → CanSettle s (ticket_of s log k) root → IsPlanOf (world_of s log) plan
    → ((f : Formats) (w : World) (t : Ticket) (c : Swap) (n : ℕ) → IsPlanOf w plan → fin.get w.tickets k ≡ Some t → swap f t ≡ Some c → t.raised ≡ Some n → IsPlanOf (settled_of f w k (Some t)) p)
    → IsPlanOf (settled_of (formats_of s) (world_of s log) k (fin.get (world_of s log).tickets k)) p
settled_plan s log k root plan p can plan_is goes =
    let there = (out_is s log k can.put.out).there in
    subst (λ (o : Option Ticket). IsPlanOf (settled_of (formats_of s) (world_of s log) k o) p) (sym there) (goes (formats_of s) (world_of s log) (ticket_of s log k) can.change can.n plan_is there can.is can.put.raised)

pub may_swap_settle : (s : Start) (log : List Moment) (k : ℕ) (root : Root) (info : Info) (cluster : Record) (plan p : Plan) (next : ℕ) → IsMadeInfo s log k info → InfosAfter s log → IsUnpruned (ticket_of s log k)
    → CanSettle s (ticket_of s log k) (root_of root) → (ticket_of s log k).term ≡ (world_of s log).term
    → IsPlanOf (world_of s log) plan → ((f : Formats) (w : World) (t : Ticket) (c : Swap) (n : ℕ) → IsPlanOf w plan → fin.get w.tickets k ≡ Some t → swap f t ≡ Some c → t.raised ≡ Some n → IsPlanOf (settled_of f w k (Some t)) p)
    → ((n : ℕ) → (ticket_of s log k).raised ≡ Some n → (cluster_of cluster).ledger ≡ record { safe = suc n; pending = (world_of s log).pending; term = (world_of s log).term }) → map op_of cluster.ops ≡ record_ops p.ops p.deletes
    → next ≡ (world_of s log).next_id → MaySwap s log k SettleStep WasSettled cluster (Some root) None (Some info) (Some p) next
may_swap_settle s log k root info cluster plan p next made served unpruned can present plan_is goes ledger ops next_is =
    let there = (out_is s log k can.put.out).there in
    let is = settled_is (formats_of s) (world_of s log) k (ticket_of s log k) can.change can.n there can.is can.put.raised in
    let final = final_work (formats_of s) (ticket_of s log k) can.change unpruned can.is in
    let new = settled_plan s log k (root_of root) plan p can plan_is goes in
    record {
      swaps = refl;
      answers = refl;
      allows =
          λ image tells same. Settling k image (record { t = ticket_of s log k; s = can.change; n = can.n; may = may_settle s log k (root_of root) can; present = present; info = final.0; results = final.1; made = final.2; work = final.3 }) same;
      cluster_is = cluster_from _ cluster p new (ledger can.n can.put.raised ∙ ap ledger_of (sym is)) ops;
      root_is = λ old h. can.root_is ∙ ap (λ (w : World). w.root) (sym is);
      infos_are = served.more k (root_of root) info final.0 final.1 final.2 made can present unpruned final.3;
      plan_is = λ old h. new;
      next_is = next_is ∙ ap (λ (w : World). w.next_id) (sym is);
    }

pub may_refuse_settle : (s : Start) (old log : List Moment) (k : ℕ) (root : RootData) (seat : Seat) (now : ℕ) → log ≡ old → CanSettle s (ticket_of s old k) root → seat ≡ seat_of (ticket_of s log k) → now ≡ (world_of s log).term
    → seat.term ≢ now
    → MayRefuse s log k SettleStep (StaleTerm seat.term now)
may_refuse_settle s old log k root seat now e before seat_is now_is stale =
    let can : CanSettle s (ticket_of s log k) root = subst (λ (l : List Moment). CanSettle s (ticket_of s l k) root) (sym e) before in
    let own_is : seat.term ≡ (ticket_of s log k).term = ap (λ (x : Seat). x.term) seat_is in
    subst (MayRefuse s log k SettleStep) (ap (λ (n : ℕ). StaleTerm n (world_of s log).term) (sym own_is) ∙ ap (StaleTerm seat.term) (sym now_is))
    (record { plain = refl; allows = λ image tells same. SettleStale k can.n (ticket_of s log k) can.change image (may_settle s log k root can) (λ q. stale (own_is ∙ q ∙ sym now_is)) same })

settled_puts : (s : Start) (old : List Moment) (k : ℕ) (root : RootData) → CanSettle s (ticket_of s old k) root
    → or_no_ticket (fin.get (settled_of (formats_of s) (world_of s old) k (fin.get (world_of s old).tickets k)).tickets k) ≡ settle (ticket_of s old k)
settled_puts s old k root can =
    ap (λ (w : World). or_no_ticket (fin.get w.tickets k)) (settled_is (formats_of s) (world_of s old) k (ticket_of s old k) can.change can.n (out_is s old k can.put.out).there can.is can.put.raised)
    ∙ ap or_no_ticket (put_there (world_of s old).tickets k (settle (ticket_of s old k)))

pub settled_ticket : (s : Start) (old mid new : List Moment) (k : ℕ) (root : RootData) → mid ≡ old → CanSettle s (ticket_of s old k) root → Added s mid new k SettleStep WasSettled
    → ticket_of s new k ≡ record (ticket_of s old k) { settled = true }
settled_ticket s old mid new k root e can a = added_ticket s old new k SettleStep WasSettled (added_from s old mid new k SettleStep WasSettled e a) k ∙ settled_puts s old k root can

-- after a record swap that failed the ticket is as before, or as where it was made
pub fell : (f : Formats) (w up : World) (image : Option Image) (k : ℕ) (old new t : Ticket) → old ≡ or_no_ticket (fin.get w.tickets k) → or_no_ticket (fin.get up.tickets k) ≡ new
    → t ≡ or_no_ticket (fin.get (fallen f w up image).tickets k) → (t ≡ old) ⊎ (t ≡ new)
fell f w up image k old new t old_is new_is is = go (has_text image (f.cluster.text (record_of up))) is
  where
    go : (b : Bool) → t ≡ or_no_ticket (fin.get (if b then up else w).tickets k) → (t ≡ old) ⊎ (t ≡ new)
    go true q = inr (q ∙ new_is)
    go false q = inl (q ∙ sym old_is)

pub settle_left : {X : Type 0} (s : Start) (old new : List Moment) (k : ℕ) (root : RootData) (r : Result X StepRefusal) → CanSettle s (ticket_of s old k) root → Did s old new k SettleStep (λ x. WasSettled) r
    → LeftBy (IsSettled (ticket_of s old k)) r (ticket_of s old k) (ticket_of s new k)
settle_left s old new k root (Ok n) can did = tt
settle_left s old new k root (Err steps.Memory) can did = ap (λ (l : List Moment). ticket_of s l k) did
settle_left s old new k root (Err steps.TurnsSpent) can never = absurd never
settle_left s old new k root (Err (steps.Refused code.DepotFault)) can did =
    fell (formats_of s) (world_of s old) (settled_of (formats_of s) (world_of s old) k (fin.get (world_of s old).tickets k)) did.image k (ticket_of s old k)
    (settle (ticket_of s old k)) (ticket_of s new k) refl (settled_puts s old k root can) (added_ticket s old new k SettleStep (Refused DepotFault) did k)
settle_left s old new k root (Err (steps.Refused x)) can did = added_ticket s old new k SettleStep (Refused (refusal_of x)) did k

-- ---- an op leaves

abbrev end : Ticket → Ticket
end t = record t { out = false }

abbrev dropped_world : World → ℕ → Ticket → World
dropped_world w k t = record w { ops = fin.remove w.ops t.op; deletes = fin.remove w.deletes t.op; tickets = fin.insert w.tickets k (end t) }

dropped_is : (w : World) (k : ℕ) (t : Ticket) → fin.get w.tickets k ≡ Some t → dropped_of w k (fin.get w.tickets k) ≡ dropped_world w k t
dropped_is w k t there = ap (dropped_of w k) there

pub leaves_out : (s : Start) (log : List Moment) (k : ℕ) → CanLeave s log k → (ticket_of s log k).out ≡ true
leaves_out s log k (inl can) = can.out
leaves_out s log k (inr can) = can.out

-- a cleanup of the present term has its op
leaves_by : (s : Start) (log : List Moment) (k : ℕ) (image : Option Image) → Tracked (world_of s log) → CanLeave s log k → CanTell s image
    → ((ticket_of s log k).work ≡ Drop) ⊎ HasCleaned (formats_of s) (world_of s log) k (ticket_of s log k) image
leaves_by s log k image tracked (inl can) tells = inl can.work
leaves_by s log k image tracked (inr can) tells = inr (record {
  uuids = can.uuids;
  s = can.plan;
  work = can.work;
  clean = can.cleans;
  settled = can.settled;
  open_op = λ present. let law = tracked.deletions.cleaning k (ticket_of s log k) (out_is s log k can.out).there can.out present can.cleans in (law.x, law.there, law.cleans);
  latest = can.latest;
  removals = can.removals;
  removed = told_if s image _ tells can.removed;
})

abbrev leaving : (s : Start) (log : List Moment) (k : ℕ) (image : Option Image) → Tracked (world_of s log) → CanLeave s log k → CanTell s image → MayDrop (formats_of s) (world_of s log) k image
leaving s log k image tracked can tells = record { t = ticket_of s log k; out = out_is s log k (leaves_out s log k can); unit = leaves_by s log k image tracked can tells }

pub may_swap_drop : (s : Start) (log : List Moment) (k : ℕ) (cluster : Record) (plan p : Plan) (next : ℕ) → InfosAfter s log → Tracked (world_of s log) → CanLeave s log k → (ticket_of s log k).term ≡ (world_of s log).term
    → IsPlanOf (world_of s log) plan → ((w : World) → IsPlanOf w plan → IsPlanOf (dropped_of w k (fin.get w.tickets k)) p)
    → (cluster_of cluster).ledger ≡ ledger_of (world_of s log) → map op_of cluster.ops ≡ record_ops p.ops p.deletes → next ≡ (world_of s log).next_id
    → MaySwap s log k DroppedStep HasEnded cluster None None None (Some p) next
may_swap_drop s log k cluster plan p next served tracked can present plan_is goes ledger ops next_is =
    let is = dropped_is (world_of s log) k (ticket_of s log k) (out_is s log k (leaves_out s log k can)).there in
    let new = goes (world_of s log) plan_is in
    record {
      swaps = refl;
      answers = refl;
      allows = λ image tells same. Dropping k image (record { may = leaving s log k image tracked can tells; present = present }) same;
      cluster_is = cluster_from _ cluster p new (ledger ∙ ap ledger_of (sym is)) ops;
      root_is = λ old h. h ∙ ap (λ (w : World). w.root) (sym is);
      infos_are = served.stay k DroppedStep tt;
      plan_is = λ old h. new;
      next_is = next_is ∙ ap (λ (w : World). w.next_id) (sym is);
    }

pub may_refuse_drop : (s : Start) (old log : List Moment) (k : ℕ) (seat : Seat) (now : ℕ) → log ≡ old → Tracked (world_of s log) → CanLeave s old k → seat ≡ seat_of (ticket_of s log k) → now ≡ (world_of s log).term
    → seat.term ≢ now → MayRefuse s log k DroppedStep (StaleTerm seat.term now)
may_refuse_drop s old log k seat now e tracked before seat_is now_is stale =
    let can : CanLeave s log k = subst (λ (l : List Moment). CanLeave s l k) (sym e) before in
    let own_is : seat.term ≡ (ticket_of s log k).term = ap (λ (x : Seat). x.term) seat_is in
    subst (MayRefuse s log k DroppedStep) (ap (λ (n : ℕ). StaleTerm n (world_of s log).term) (sym own_is) ∙ ap (StaleTerm seat.term) (sym now_is))
    (record { plain = refl; allows = λ image tells same. DropStale k image (leaving s log k image tracked can tells) (λ q. stale (own_is ∙ q ∙ sym now_is)) same })

dropped_puts : (s : Start) (old : List Moment) (k : ℕ) → CanLeave s old k → or_no_ticket (fin.get (dropped_of (world_of s old) k (fin.get (world_of s old).tickets k)).tickets k) ≡ end (ticket_of s old k)
dropped_puts s old k can =
    ap (λ (w : World). or_no_ticket (fin.get w.tickets k)) (dropped_is (world_of s old) k (ticket_of s old k) (out_is s old k (leaves_out s old k can)).there) ∙ ap or_no_ticket (put_there (world_of s old).tickets k (end (ticket_of s old k)))

pub dropped_ticket : (s : Start) (old mid new : List Moment) (k : ℕ) → mid ≡ old → CanLeave s old k → Added s mid new k DroppedStep HasEnded → ticket_of s new k ≡ record (ticket_of s old k) { out = false }
dropped_ticket s old mid new k e can a = added_ticket s old new k DroppedStep HasEnded (added_from s old mid new k DroppedStep HasEnded e a) k ∙ dropped_puts s old k can

pub drop_left : {X : Type 0} (s : Start) (old new : List Moment) (k : ℕ) (r : Result X StepRefusal) → CanLeave s old k → Did s old new k DroppedStep (λ x. HasEnded) r
    → LeftBy (HasEndedAs (ticket_of s old k)) r (ticket_of s old k) (ticket_of s new k)
drop_left s old new k (Ok n) can did = tt
drop_left s old new k (Err steps.Memory) can did = ap (λ (l : List Moment). ticket_of s l k) did
drop_left s old new k (Err steps.TurnsSpent) can never = absurd never
drop_left s old new k (Err (steps.Refused code.DepotFault)) can did =
    fell (formats_of s) (world_of s old) (dropped_of (world_of s old) k (fin.get (world_of s old).tickets k)) did.image k (ticket_of s old k)
    (end (ticket_of s old k)) (ticket_of s new k) refl (dropped_puts s old k can) (added_ticket s old new k DroppedStep (Refused DepotFault) did k)
drop_left s old new k (Err (steps.Refused x)) can did = added_ticket s old new k DroppedStep (Refused (refusal_of x)) did k
