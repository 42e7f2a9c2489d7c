-- What a history tells of its tickets and ops, over the world that it leads to.
use Rattle.std.proofs.Common.{◌≡◌, ◌⊎◌, ℕ, suc, ◌<◌, ◌≤◌, Bool, true, false, true≢false, ◌&&◌, ◌==◌, List, [], ◌∷◌, ◌++◌, append_assoc, Option, Some, None, if◌then◌else◌, refl, sym, ap, ◌∙◌, subst, inl, inr, arith}
use Rattle.std.proofs.lemmas.Bool.Decides.{eqb_tells}
use Rattle.std.specs.FinMap as fin
use Rattle.esr_core.specs.Laws.NumberMaps.{was_in, same_in, other_in, split_at}
use Rattle.esr_model.specs.Values.{Bytes, Has, SnapInfo, ShardResult}
use Rattle.esr_model.specs.Shelf.{Command}
use Rattle.esr_core.specs.World.{World, Op, Deletion, Work, Finalize, Deleting, Drop, Swap, Ticket}
use Rattle.esr_core.specs.Entry.{Snapshot, Clone, DeleteSnapshots, Restore, Cleanup, SettlePruned, Given, Step, AskStep, TakeStep, SettleStep, DroppedStep, ElectStep, LookStep, PruneStep, Reply, Accepted, Gave, WasSettled, HasEnded, ElectedTerm, Looked, Refused, AcceptedRestore, Entry}
use Rattle.esr_report.specs.Cleaned.{is_cleanup, cleanup_by, is_cleanup_ticket}
use Rattle.esr_report.specs.Replies as report
use Rattle.esr_report.specs.Replies.{op_by, op_of_ticket, is_op, uuid_of_unit, uuid_by, uuid_of_ticket, name_by, name_of_op, is_over, final_out, aborts_at}
use Rattle.esr_report.specs.Aborts.{accepted_by}
use Rattle.esr_core.specs.Laws.Asides.{Aside}
use Rattle.esr_model.specs.Lists.{Has-left, Has-append}
use Rattle.esr_core.specs.Laws.Maps.{Ops, Deletes, Tickets}
use Rattle.esr_complete.proofs.Tickets.{op_stays, uuid_stays, op_given, uuid_given, cleanup_given, cleanup_stays, cleanup_same, cleanup_other, cleanup_of, is_cleanup_op, cleans_stays, name_stays, name_given, IsGiftless, IsFinalGiven, final_on, final_was, final_gave}

-- what may be answered to a command, a look or an election
abbrev pub IsSaid : Step → Reply → Type 0
IsSaid (AskStep (Snapshot name indices moment)) (Accepted op) = Unit {0}
IsSaid (AskStep (Snapshot name indices moment)) (Refused refusal) = Unit {0}
IsSaid (AskStep (Snapshot name indices moment)) reply = ⊥
IsSaid (AskStep (Clone source name indices moment (Some taken))) (Accepted op) = Unit {0}
IsSaid (AskStep (Clone source name indices moment taken)) (Refused refusal) = Unit {0}
IsSaid (AskStep (Clone source name indices moment taken)) reply = ⊥
IsSaid (AskStep (DeleteSnapshots names)) (Accepted op) = Unit {0}
IsSaid (AskStep (DeleteSnapshots names)) (Refused refusal) = Unit {0}
IsSaid (AskStep (DeleteSnapshots names)) reply = ⊥
IsSaid (AskStep (Restore name place)) (AcceptedRestore op uuid indices) = Unit {0}
IsSaid (AskStep (Restore name place)) (Refused refusal) = Unit {0}
IsSaid (AskStep (Restore name place)) reply = ⊥
IsSaid (AskStep Cleanup) (Accepted op) = Unit {0}
IsSaid (AskStep Cleanup) (Refused refusal) = Unit {0}
IsSaid (AskStep Cleanup) reply = ⊥
IsSaid LookStep (Looked snapshots safe) = Unit {0}
IsSaid LookStep reply = ⊥
IsSaid ElectStep (ElectedTerm term) = Unit {0}
IsSaid ElectStep (Refused refusal) = Unit {0}
IsSaid ElectStep reply = ⊥
IsSaid step reply = Unit {0}

-- the op by which a delete or, where this is true, a cleanup is answered
abbrev pub delete_of : Step → Reply → Option (Bool × ℕ)
delete_of (AskStep (DeleteSnapshots names)) (Accepted op) = Some (false, op)
delete_of (AskStep Cleanup) (Accepted op) = Some (true, op)
delete_of step reply = None

abbrev pub IsOpenIn : Ops → ℕ → Type 0
IsOpenIn ops o = (op : Op) × (fin.get ops o ≡ Some op)

abbrev pub IsDeleteIn : Deletes → ℕ → Type 0
IsDeleteIn deletes d = (x : Deletion) × (fin.get deletes d ≡ Some x)

-- a ticket of the op settled
pub record IsSettledIn (es : List Entry) (o : ℕ) : Type 0 where
  pub e : Entry
  pub has : Has es e
  pub step : e.step ≡ SettleStep
  pub reply : e.reply ≡ WasSettled
  pub op_is : op_of_ticket es e.who ≡ Some o
  pub uuid : ℕ
  pub uuid_is : uuid_of_ticket es e.who ≡ Some uuid

-- so did that of the delete
pub record IsPrunedIn (es : List Entry) (d : ℕ) : Type 0 where
  pub e : Entry
  pub has : Has es e
  pub step : e.step ≡ PruneStep SettlePruned
  pub reply : e.reply ≡ WasSettled
  pub op_is : op_of_ticket es e.who ≡ Some d
  pub deletes : is_cleanup_ticket es e.who ≡ false

-- the op of a cleanup left by its ticket
pub record IsCleanedIn (es : List Entry) (d : ℕ) : Type 0 where
  pub e : Entry
  pub has : Has es e
  pub step : e.step ≡ DroppedStep
  pub reply : e.reply ≡ HasEnded
  pub op_is : op_of_ticket es e.who ≡ Some d
  pub cleans : is_cleanup_ticket es e.who ≡ true

-- a delete is over with its settle, a cleanup with the drop
abbrev pub IsOverIn : List Entry → Bool → ℕ → Type 0
IsOverIn es false d = IsPrunedIn es d
IsOverIn es true d = IsCleanedIn es d

-- a delete aborted the op
pub record IsAbortedIn (es : List Entry) (o : ℕ) : Type 0 where
  pub front : List Entry
  pub e : Entry
  pub back : List Entry
  pub is : es ≡ front ++ e ∷ back
  pub answer : report.Reply
  pub aborts : aborts_at front o e ≡ Some answer

-- a snapshot or a clone was accepted as this op; or none was, nor will be, and a cleanup was or wasn't
abbrev pub HasName : List Entry → ℕ → Type 0
HasName es o = (name : Bytes) × (name_of_op es o ≡ Some name)

pub record IsNameless (es : List Entry) (next : ℕ) (cleans : Bool) (o : ℕ) : Type 0 where
  pub unnamed : name_of_op es o ≡ None
  pub below : o < next
  pub kind : is_cleanup_op es o ≡ cleans

-- an open op has not failed, and where it was aborted the history tells of it
pub record IsToldOp (es : List Entry) (next o : ℕ) (op : Op) : Type 0 where
  pub unfailed : op.failed ≡ false
  pub aborted : (by : ℕ) → op.aborted ≡ Some by → IsAbortedIn es o
  pub named : name_of_op es o ≡ Some op.name
  pub below : o < next

pub record IsToldDelete (es : List Entry) (next d : ℕ) (x : Deletion) : Type 0 where
  pub unfailed : x.failed ≡ false
  pub nameless : IsNameless es next x.clean d

-- a drop is of an op that was aborted, a finalization of one with a name, and the unit of a delete or cleanup of one without
pub record IsToldTicket (es : List Entry) (next : ℕ) (t : Ticket) : Type 0 where
  pub drops : t.work ≡ Drop → IsAbortedIn es t.op × (t.clean ≡ false)
  pub finals : (info : SnapInfo) (results : List ShardResult) (made : Command) → t.work ≡ Finalize info results made → HasName es t.op
  pub deletes : (uuids : List ℕ) (plan : Option Swap) → t.work ≡ Deleting uuids plan → IsNameless es next t.clean t.op

abbrev pub IsFinal : Work → Type 0
IsFinal (Finalize info results made) = Unit {0}
IsFinal work = ⊥

-- a finalization is out
pub record IsOutFinal (t : Ticket) : Type 0 where
  pub out : t.out ≡ true
  pub unsettled : t.settled ≡ false
  pub final : IsFinal t.work

pub record IsFinalOut (tickets : Tickets) (o k : ℕ) : Type 0 where
  pub t : Ticket
  pub there : fin.get tickets k ≡ Some t
  pub op_is : t.op ≡ o
  pub is : IsOutFinal t

-- a settle is of an op with a name, that of a delete or cleanup of one without, and so is the drop of a cleanup
abbrev pub SettlesNamed : List Entry → Entry → Type 0
SettlesNamed es e = e.step ≡ SettleStep → e.reply ≡ WasSettled → (o : ℕ) × (op_of_ticket es e.who ≡ Some o) × HasName es o

abbrev pub PrunesNameless : List Entry → ℕ → Entry → Type 0
PrunesNameless es next e = e.step ≡ PruneStep SettlePruned → e.reply ≡ WasSettled → (d : ℕ) × (op_of_ticket es e.who ≡ Some d) × IsNameless es next (is_cleanup_ticket es e.who) d

abbrev pub CleansNameless : List Entry → ℕ → Entry → Type 0
CleansNameless es next e = e.step ≡ DroppedStep → e.reply ≡ HasEnded → (d : ℕ) × (op_of_ticket es e.who ≡ Some d) × (is_cleanup_ticket es e.who ≡ true → IsNameless es next true d)

-- under this name the entry accepted a snapshot or a clone as the op
abbrev pub IsNamedBy : List Entry → ℕ → Entry → Type 0
IsNamedBy es o e = (name : Bytes) × (name_by o e.step e.reply ≡ Some name) × (name_of_op es o ≡ Some name)

-- how it stands with an op as which a snapshot or a clone was accepted, and with one by which a delete or a cleanup is answered
abbrev pub IsEndedOr : Ops → List Entry → ℕ → Type 0
IsEndedOr ops es o = IsOpenIn ops o ⊎ (IsSettledIn es o ⊎ IsAbortedIn es o)

abbrev pub IsDeletedOr : Deletes → List Entry → Bool → ℕ → Type 0
IsDeletedOr deletes es cleans d = IsDeleteIn deletes d ⊎ IsOverIn es cleans d

-- The history tells the op of each ticket and whether it is a cleanup's, the uuid of each that finalizes, the name of each open op, and the
-- finalizations that are out. Each op as which a snapshot or a clone was accepted is open, a ticket of it settled, or a delete aborted it;
-- each by which a delete is answered is open, or its ticket settled; each of a cleanup is open, or left by its ticket. No op has failed.
pub record Follows (deposed : Bool) (open_ops : Ops) (open_deletes : Deletes) (tickets : Tickets) (next next_op : ℕ) (es : List Entry) : Type 0 where
  pub live : deposed ≡ false
  pub ops : (o : ℕ) (op : Op) → fin.get open_ops o ≡ Some op → IsToldOp es next_op o op
  pub deletes : (d : ℕ) (x : Deletion) → fin.get open_deletes d ≡ Some x → IsToldDelete es next_op d x
  pub coming : (o : ℕ) → next_op ≤ o → (name_of_op es o ≡ None) × (is_cleanup_op es o ≡ false)
  pub op_of : (k : ℕ) (t : Ticket) → fin.get tickets k ≡ Some t → op_of_ticket es k ≡ Some t.op
  pub uuid_of : (k : ℕ) (t : Ticket) (info : SnapInfo) (results : List ShardResult) (made : Command) → fin.get tickets k ≡ Some t → t.work ≡ Finalize info results made → uuid_of_ticket es k ≡ Some info.uuid
  pub cleans : (k : ℕ) (t : Ticket) → fin.get tickets k ≡ Some t → is_cleanup_ticket es k ≡ t.clean
  pub fresh : (k : ℕ) → next ≤ k → (op_of_ticket es k ≡ None) × (uuid_of_ticket es k ≡ None) × (is_cleanup_ticket es k ≡ false)
  pub units : (k : ℕ) (t : Ticket) → fin.get tickets k ≡ Some t → IsToldTicket es next_op t
  pub final : (o k : ℕ) → final_out es o ≡ Some k → IsFinalOut tickets o k
  pub said : (e : Entry) → Has es e → IsSaid e.step e.reply
  pub settles : (e : Entry) → Has es e → SettlesNamed es e
  pub prunes : (e : Entry) → Has es e → PrunesNameless es next_op e
  pub leaves : (e : Entry) → Has es e → CleansNameless es next_op e
  pub ended : (e : Entry) (o : ℕ) → Has es e → accepted_by e.step e.reply ≡ Some o → IsNamedBy es o e × IsEndedOr open_ops es o
  pub deleted : (e : Entry) (cleans : Bool) (d : ℕ) → Has es e → delete_of e.step e.reply ≡ Some (cleans, d) → IsNameless es next_op cleans d × IsDeletedOr open_deletes es cleans d

abbrev pub FollowsIn : World → List Entry → Type 0
FollowsIn w es = Follows w.deposed w.ops w.deletes w.tickets w.next_ticket w.next_op es

-- ---- ops

pub stands_at : (ops : Ops) (key : ℕ) (op : Op) → IsOpenIn (fin.insert ops key op) key
stands_at ops key op = (op, same_in ops key op)

pub stands_on : (ops : Ops) (key : ℕ) (op : Op) (o : ℕ) → IsOpenIn ops o → IsOpenIn (fin.insert ops key op) o
stands_on ops key op o was = elim (split_at o key) [
  | inl same ↦ subst (IsOpenIn (fin.insert ops key op)) (sym same) (stands_at ops key op)
  | inr apart ↦ (was.0, other_in ops key op o apart ∙ was.1)
]

pub delete_on : (deletes : Deletes) (key : ℕ) (x : Deletion) (d : ℕ) → IsDeleteIn deletes d → IsDeleteIn (fin.insert deletes key x) d
delete_on deletes key x d was = elim (split_at d key) [
  | inl same ↦ subst (IsDeleteIn (fin.insert deletes key x)) (sym same) (x, same_in deletes key x)
  | inr apart ↦ (was.0, other_in deletes key x d apart ∙ was.1)
]

-- ---- what a longer history tells

module _ (es : List Entry) (x : Entry) where
  pub settled_on : (o : ℕ) → IsSettledIn es o → IsSettledIn (es ++ x ∷ []) o
  settled_on o h =
      record {
        e = h.e;
        has = Has-left es (x ∷ []) h.e h.has;
        step = h.step;
        reply = h.reply;
        op_is = op_stays es (x ∷ []) h.e.who o h.op_is;
        uuid = h.uuid;
        uuid_is = uuid_stays es (x ∷ []) h.e.who h.uuid h.uuid_is;
      }

  pub aborted_on : (o : ℕ) → IsAbortedIn es o → IsAbortedIn (es ++ x ∷ []) o
  aborted_on o h = record { front = h.front; e = h.e; back = h.back ++ x ∷ []; is = ap (λ (l : List Entry). l ++ x ∷ []) h.is ∙ append_assoc h.front (h.e ∷ h.back) (x ∷ []); answer = h.answer; aborts = h.aborts }

  pub named_on : (o : ℕ) → HasName es o → HasName (es ++ x ∷ []) o
  named_on o h = (h.0, name_stays es (x ∷ []) o h.0 h.1)

  -- a ticket of which something is told is of a cleanup where it was
  abbrev pub SameTickets : Type 0
  SameTickets = (k o : ℕ) → op_of_ticket es k ≡ Some o → cleanup_by x.reply k ≡ false

  pub over_on : SameTickets → (cleans : Bool) (d : ℕ) → IsOverIn es cleans d → IsOverIn (es ++ x ∷ []) cleans d
  over_on same false d h =
      record {
        e = h.e;
        has = Has-left es (x ∷ []) h.e h.has;
        step = h.step;
        reply = h.reply;
        op_is = op_stays es (x ∷ []) h.e.who d h.op_is;
        deletes = cleanup_stays es x h.e.who (same h.e.who d h.op_is) ∙ h.deletes;
      }
  over_on same true d h =
      record {
        e = h.e;
        has = Has-left es (x ∷ []) h.e h.has;
        step = h.step;
        reply = h.reply;
        op_is = op_stays es (x ∷ []) h.e.who d h.op_is;
        cleans = cleanup_stays es x h.e.who (same h.e.who d h.op_is) ∙ h.cleans;
      }

  -- the entry accepts a snapshot, a clone or a cleanup as no op that was there, and as none from the next one on
  module _ (next more : ℕ) (up : next ≤ more) (none : (o : ℕ) → (o < next) ⊎ (more ≤ o) → (name_by o x.step x.reply ≡ None) × (is_op o (cleanup_of x.step x.reply) ≡ false)) where
    pub nameless_on : (cleans : Bool) (o : ℕ) → IsNameless es next cleans o → IsNameless (es ++ x ∷ []) more cleans o
    nameless_on cleans o h =
        record {
          unnamed = name_given es x o h.unnamed ∙ (none o (inl h.below)).0;
          below = let lt : o < next = h.below in omega (arith, lt, up);
          kind = cleans_stays es x o (none o (inl h.below)).1 ∙ h.kind;
        }

    pub op_on : (o : ℕ) (old op : Op) → IsToldOp es next o old → op.failed ≡ old.failed → op.aborted ≡ old.aborted → op.name ≡ old.name → IsToldOp (es ++ x ∷ []) more o op
    op_on o old op h failed aborted name =
        record {
          unfailed = failed ∙ h.unfailed;
          aborted = λ by e. aborted_on o (h.aborted by (sym aborted ∙ e));
          named = name_stays es (x ∷ []) o old.name h.named ∙ ap (λ (n : Bytes). Some n) (sym name);
          below = let lt : o < next = h.below in omega (arith, lt, up);
        }

    pub delete_told_on : (d : ℕ) (old y : Deletion) → IsToldDelete es next d old → y.failed ≡ old.failed → y.clean ≡ old.clean → IsToldDelete (es ++ x ∷ []) more d y
    delete_told_on d old y h failed clean = record { unfailed = failed ∙ h.unfailed; nameless = subst (λ (b : Bool). IsNameless (es ++ x ∷ []) more b d) (sym clean) (nameless_on old.clean d h.nameless) }

    -- of a ticket for what another was for
    pub unit_on : (was t : Ticket) → IsToldTicket es next was → was.op ≡ t.op → was.clean ≡ t.clean → (t.work ≡ Drop → was.work ≡ Drop)
        → ((info : SnapInfo) (results : List ShardResult) (made : Command) → t.work ≡ Finalize info results made → was.work ≡ Finalize info results made)
        → ((uuids : List ℕ) (plan : Option Swap) → t.work ≡ Deleting uuids plan → (p : Option Swap) × (was.work ≡ Deleting uuids p)) → IsToldTicket (es ++ x ∷ []) more t
    unit_on was t h op clean drops finals deletes =
        record {
          drops = λ e. let d = h.drops (drops e) in (subst (IsAbortedIn (es ++ x ∷ [])) op (aborted_on was.op d.0), sym clean ∙ d.1);
          finals = λ info results made e. subst (HasName (es ++ x ∷ [])) op (named_on was.op (h.finals info results made (finals info results made e)));
          deletes = λ uuids plan e.
              let d = deletes uuids plan e in
              subst (λ (p : Bool × ℕ). IsNameless (es ++ x ∷ []) more p.0 p.1) (λ i. (clean i, op i)) (nameless_on was.clean was.op (h.deletes uuids d.0 d.1));
        }

    settles_on : ((e : Entry) → Has es e → SettlesNamed es e) → SettlesNamed (es ++ x ∷ []) x → (e : Entry) → Has (es ++ x ∷ []) e → SettlesNamed (es ++ x ∷ []) e
    settles_on was new e has = elim (Has-append es x e has) [
      | inl before ↦ λ step reply. let (o, of, name) = was e before step reply in (o, op_stays es (x ∷ []) e.who o of, named_on o name)
      | inr is ↦ subst (SettlesNamed (es ++ x ∷ [])) is new
    ]

    prunes_on : SameTickets → ((e : Entry) → Has es e → PrunesNameless es next e) → PrunesNameless (es ++ x ∷ []) more x → (e : Entry) → Has (es ++ x ∷ []) e → PrunesNameless (es ++ x ∷ []) more e
    prunes_on same was new e has = elim (Has-append es x e has) [
      | inl before ↦ λ step reply.
          let (d, of, nameless) = was e before step reply in (
            d,
            op_stays es (x ∷ []) e.who d of,
            subst (λ (b : Bool). IsNameless (es ++ x ∷ []) more b d) (sym (cleanup_stays es x e.who (same e.who d of))) (nameless_on (is_cleanup_ticket es e.who) d nameless),
          )
      | inr is ↦ subst (PrunesNameless (es ++ x ∷ []) more) is new
    ]

    leaves_on : SameTickets → ((e : Entry) → Has es e → CleansNameless es next e) → CleansNameless (es ++ x ∷ []) more x → (e : Entry) → Has (es ++ x ∷ []) e → CleansNameless (es ++ x ∷ []) more e
    leaves_on same was new e has = elim (Has-append es x e has) [
      | inl before ↦ λ step reply.
          let (d, of, nameless) = was e before step reply in
          (d, op_stays es (x ∷ []) e.who d of, λ cleans. nameless_on true d (nameless (sym (cleanup_stays es x e.who (same e.who d of)) ∙ cleans)))
      | inr is ↦ subst (CleansNameless (es ++ x ∷ []) more) is new
    ]

    -- what was told before, and what one more entry tells
    ended_on : (ops now : Ops) → ((e : Entry) (o : ℕ) → Has es e → accepted_by e.step e.reply ≡ Some o → IsNamedBy es o e × IsEndedOr ops es o)
        → ((o : ℕ) → HasName es o → IsOpenIn ops o → IsEndedOr now (es ++ x ∷ []) o) → ((o : ℕ) → accepted_by x.step x.reply ≡ Some o → IsNamedBy (es ++ x ∷ []) o x × IsOpenIn now o)
        → (e : Entry) (o : ℕ) → Has (es ++ x ∷ []) e → accepted_by e.step e.reply ≡ Some o → IsNamedBy (es ++ x ∷ []) o e × IsEndedOr now (es ++ x ∷ []) o
    ended_on ops now was kept new e o has accepted = elim (Has-append es x e has) [
      | inl before ↦
          let (name, how) = was e o before accepted in (
            (name.0, name.1, name_stays es (x ∷ []) o name.0 name.2),
            elim how [
              | inl stands ↦ kept o (name.0, name.2) stands
              | inr over ↦ inr (elim over [ inl settled ↦ inl (settled_on o settled) | inr aborted ↦ inr (aborted_on o aborted) ])
            ],
          )
      | inr is ↦ let (name, stands) = new o (ap (λ (y : Entry). accepted_by y.step y.reply) is ∙ accepted) in (subst (IsNamedBy (es ++ x ∷ []) o) is name, inl stands)
    ]

    deleted_on : SameTickets → (deletes left : Deletes) → ((e : Entry) (cleans : Bool) (d : ℕ) → Has es e → delete_of e.step e.reply ≡ Some (cleans, d) → IsNameless es next cleans d × IsDeletedOr deletes es cleans d)
        → ((cleans : Bool) (d : ℕ) → IsNameless es next cleans d → IsDeleteIn deletes d → IsDeletedOr left (es ++ x ∷ []) cleans d)
        → ((cleans : Bool) (d : ℕ) → delete_of x.step x.reply ≡ Some (cleans, d) → IsNameless (es ++ x ∷ []) more cleans d × IsDeleteIn left d)
        → (e : Entry) (cleans : Bool) (d : ℕ) → Has (es ++ x ∷ []) e → delete_of e.step e.reply ≡ Some (cleans, d) → IsNameless (es ++ x ∷ []) more cleans d × IsDeletedOr left (es ++ x ∷ []) cleans d
    deleted_on same deletes left was kept new e cleans d has accepted = elim (Has-append es x e has) [
      | inl before ↦
          let (nameless, how) = was e cleans d before accepted in
          (nameless_on cleans d nameless, elim how [ inl stands ↦ kept cleans d nameless stands | inr over ↦ inr (over_on same cleans d over) ])
      | inr is ↦ let (nameless, stands) = new cleans d (ap (λ (y : Entry). delete_of y.step y.reply) is ∙ accepted) in (nameless, inl stands)
    ]

  said_on : ((e : Entry) → Has es e → IsSaid e.step e.reply) → IsSaid x.step x.reply → (e : Entry) → Has (es ++ x ∷ []) e → IsSaid e.step e.reply
  said_on was new e has = elim (Has-append es x e has) [ inl before ↦ was e before | inr is ↦ subst (λ (y : Entry). IsSaid y.step y.reply) is new ]

-- ---- a step that gives no ticket

-- it is one of before, and is for what it was for
pub record IsKin (tickets : Tickets) (k : ℕ) (t : Ticket) : Type 0 where
  pub was : Ticket
  pub there : fin.get tickets k ≡ Some was
  pub op_is : was.op ≡ t.op
  pub clean_is : was.clean ≡ t.clean
  pub drops : t.work ≡ Drop → was.work ≡ Drop
  pub finals : (info : SnapInfo) (results : List ShardResult) (made : Command) → t.work ≡ Finalize info results made → was.work ≡ Finalize info results made
  pub deletes : (uuids : List ℕ) (plan : Option Swap) → t.work ≡ Deleting uuids plan → (p : Option Swap) × (was.work ≡ Deleting uuids p)

pub kin_same : (tickets : Tickets) (k : ℕ) (t : Ticket) → fin.get tickets k ≡ Some t → IsKin tickets k t
kin_same tickets k t e = record { was = t; there = e; op_is = refl; clean_is = refl; drops = λ is. is; finals = λ info results made is. is; deletes = λ uuids plan is. (plan, is) }

pub kin_on : (tickets : Tickets) (key : ℕ) (old new : Ticket) → fin.get tickets key ≡ Some old → new.op ≡ old.op → new.clean ≡ old.clean → new.work ≡ old.work → (k : ℕ) (t : Ticket)
    → fin.get (fin.insert tickets key new) k ≡ Some t → IsKin tickets k t
kin_on tickets key old new there op clean work k t e = elim (was_in tickets key new k t e) [
  | inl is ↦
      let same : old.work ≡ t.work = sym work ∙ ap (λ (y : Ticket). y.work) is.1 in
      record {
        was = old;
        there = ap (fin.get tickets) is.0 ∙ there;
        op_is = sym op ∙ ap (λ (y : Ticket). y.op) is.1;
        clean_is = sym clean ∙ ap (λ (y : Ticket). y.clean) is.1;
        drops = λ d. same ∙ d;
        finals = λ info results made f. same ∙ f;
        deletes = λ uuids plan d. (plan, same ∙ d);
      }
  | inr is ↦ kin_same tickets k t is.1
]

-- a finalization that was out is out, unless the entry ended it
abbrev pub StaysOut : Tickets → Tickets → Entry → Type 0
StaysOut tickets later x = (k : ℕ) (t : Ticket) → fin.get tickets k ≡ Some t → IsOutFinal t → ((u : Ticket) × (fin.get later k ≡ Some u) × (u.op ≡ t.op) × IsOutFinal u) ⊎ ((is_over x.step x.reply ≡ true) × (k ≡ x.who))

pub out_same : (tickets : Tickets) (x : Entry) → StaysOut tickets tickets x
out_same tickets x k t e is = inl (t, e, refl, is)

-- one ticket is given anew
pub out_on : (tickets : Tickets) (key : ℕ) (old new : Ticket) (x : Entry) → fin.get tickets key ≡ Some old → new.op ≡ old.op → (IsOutFinal old → IsOutFinal new ⊎ ((is_over x.step x.reply ≡ true) × (key ≡ x.who)))
    → StaysOut tickets (fin.insert tickets key new) x
out_on tickets key old new x there op goes k t e is = elim (split_at k key) [
  | inl same ↦
      let one : t ≡ old = some_is t old (sym e ∙ ap (fin.get tickets) same ∙ there) in
      elim (goes (subst IsOutFinal one is)) [
        | inl out ↦ inl (new, ap (fin.get (fin.insert tickets key new)) same ∙ same_in tickets key new, op ∙ ap (λ (y : Ticket). y.op) (sym one), out)
        | inr over ↦ inr (over.0, same ∙ over.1)
      ]
  | inr apart ↦ inl (t, other_in tickets key new k apart ∙ e, refl, is)
]
  where
    some_is : (a b : Ticket) → Some a ≡ Some b → a ≡ b
    some_is a b h = cc

both_true : (b : Bool) (k who : ℕ) → b ≡ true → k ≡ who → (b && (k == who)) ≡ false → ⊥
both_true b k who over same e = elim (eqb_tells k who) [
  | inl h ↦ true≢false (sym (ap (λ (c : Bool). c && (k == who)) over ∙ h.0) ∙ e)
  | inr h ↦ h.1 same
]

final_stays : (tickets later : Tickets) (es : List Entry) (x : Entry) → IsGiftless x.reply → ((o k : ℕ) → final_out es o ≡ Some k → IsFinalOut tickets o k) → StaysOut tickets later x → (o k : ℕ)
    → final_out (es ++ x ∷ []) o ≡ Some k → IsFinalOut later o k
final_stays tickets later es x giftless was stays o k e =
    let (before, goes) = final_was o (final_out es o) x x.reply k giftless (sym (final_on o es x) ∙ e) in
    let h = was o k before in
    elim (stays k h.t h.there h.is) [
      | inl u ↦ record { t = u.0; there = u.1; op_is = u.2 ∙ h.op_is; is = u.3 }
      | inr over ↦ absurd (both_true (is_over x.step x.reply) k x.who over.0 over.1 goes)
    ]

-- what one more entry is, beside what it makes of the world
pub record IsOne (es : List Entry) (next more : ℕ) (x : Entry) : Type 0 where
  pub up : next ≤ more
  pub giftless : IsGiftless x.reply
  pub no_ticket : (k : ℕ) → (op_by x.reply k ≡ None) × (uuid_by x.reply k ≡ None) × (cleanup_by x.reply k ≡ false)
  pub no_name : (o : ℕ) → (o < next) ⊎ (more ≤ o) → (name_by o x.step x.reply ≡ None) × (is_op o (cleanup_of x.step x.reply) ≡ false)
  pub said : IsSaid x.step x.reply
  pub settles : SettlesNamed (es ++ x ∷ []) x
  pub prunes : PrunesNameless (es ++ x ∷ []) more x
  pub leaves : CleansNameless (es ++ x ∷ []) more x

pub goes_on : (deposed : Bool) (ops now : Ops) (deletes left : Deletes) (tickets later : Tickets) (next next_op more : ℕ) (es : List Entry) (x : Entry) → Follows deposed ops deletes tickets next next_op es → IsOne es next_op more x
    → ((o : ℕ) (op : Op) → fin.get now o ≡ Some op → IsToldOp (es ++ x ∷ []) more o op)
    → ((d : ℕ) (y : Deletion) → fin.get left d ≡ Some y → IsToldDelete (es ++ x ∷ []) more d y)
    → ((k : ℕ) (t : Ticket) → fin.get later k ≡ Some t → IsKin tickets k t)
    → StaysOut tickets later x
    → ((o : ℕ) → HasName es o → IsOpenIn ops o → IsEndedOr now (es ++ x ∷ []) o)
    → ((cleans : Bool) (d : ℕ) → IsNameless es next_op cleans d → IsDeleteIn deletes d → IsDeletedOr left (es ++ x ∷ []) cleans d)
    → ((o : ℕ) → accepted_by x.step x.reply ≡ Some o → IsNamedBy (es ++ x ∷ []) o x × IsOpenIn now o)
    → ((cleans : Bool) (d : ℕ) → delete_of x.step x.reply ≡ Some (cleans, d) → IsNameless (es ++ x ∷ []) more cleans d × IsDeleteIn left d)
    → Follows deposed now left later next more (es ++ x ∷ [])
goes_on deposed ops now deletes left tickets later next next_op more es x h one told_ops told_deletes kin out kept kept_deletes new new_delete =
    let same : SameTickets es x = λ k o of. (one.no_ticket k).2 in
    record {
      live = h.live;
      ops = told_ops;
      deletes = told_deletes;
      coming = λ o le.
          let up : next_op ≤ more = one.up in
          let was = h.coming o (omega (arith, up, le)) in
          (name_given es x o was.0 ∙ (one.no_name o (inr le)).0, cleans_stays es x o (one.no_name o (inr le)).1 ∙ was.1);
      op_of = λ k t e. let q = kin k t e in op_stays es (x ∷ []) k t.op (h.op_of k q.was q.there ∙ ap Some q.op_is);
      uuid_of = λ k t info results made e is. let q = kin k t e in uuid_stays es (x ∷ []) k info.uuid (h.uuid_of k q.was info results made q.there (q.finals info results made is));
      cleans = λ k t e. let q = kin k t e in cleanup_stays es x k (one.no_ticket k).2 ∙ h.cleans k q.was q.there ∙ q.clean_is;
      fresh = λ k le. let f = h.fresh k le in let n = one.no_ticket k in (op_given es x k f.0 ∙ n.0, uuid_given es x k f.1 ∙ n.1, cleanup_stays es x k n.2 ∙ f.2);
      units = λ k t e. let q = kin k t e in unit_on es x next_op more one.up one.no_name q.was t (h.units k q.was q.there) q.op_is q.clean_is q.drops q.finals q.deletes;
      final = final_stays tickets later es x one.giftless h.final out;
      said = said_on es x h.said one.said;
      settles = settles_on es x next_op more one.up one.no_name h.settles one.settles;
      prunes = prunes_on es x next_op more one.up one.no_name same h.prunes one.prunes;
      leaves = leaves_on es x next_op more one.up one.no_name same h.leaves one.leaves;
      ended = ended_on es x next_op more one.up one.no_name ops now h.ended kept new;
      deleted = deleted_on es x next_op more one.up one.no_name same deletes left h.deleted kept_deletes new_delete;
    }

-- ---- a step that gives one

abbrev pub told : ℕ → Step → Reply → Entry
told who step reply = record { who = who; step = step; reply = reply }

abbrev pub gave : ℕ → ℕ → Given → Entry
gave ticket op unit = record { who = 0; step = TakeStep; reply = Gave ticket op unit }

op_by_same : (ticket op : ℕ) (unit : Given) → op_by (Gave ticket op unit) ticket ≡ Some op
op_by_same ticket op unit = elim (eqb_tells ticket ticket) [ inl h ↦ ap (λ (b : Bool). if b then Some op else None) h.0 | inr h ↦ absurd (h.1 refl) ]

uuid_by_same : (ticket op : ℕ) (unit : Given) → uuid_by (Gave ticket op unit) ticket ≡ uuid_of_unit unit
uuid_by_same ticket op unit = elim (eqb_tells ticket ticket) [ inl h ↦ ap (λ (b : Bool). if b then uuid_of_unit unit else None) h.0 | inr h ↦ absurd (h.1 refl) ]

by_other : (ticket op : ℕ) (unit : Given) (k : ℕ) → suc ticket ≤ k → (op_by (Gave ticket op unit) k ≡ None) × (uuid_by (Gave ticket op unit) k ≡ None) × (cleanup_by (Gave ticket op unit) k ≡ false)
by_other ticket op unit k le = elim (eqb_tells ticket k) [
  | inl h ↦ absurd (let e : ticket ≡ k = h.1 in omega (arith, le, e))
  | inr h ↦ (ap (λ (b : Bool). if b then Some op else None) h.0, ap (λ (b : Bool). if b then uuid_of_unit unit else None) h.0, cleanup_other ticket op unit k h.1)
]

none_some : (o : ℕ) → ◌≡◌ {A = Option ℕ} None (Some o) → ⊥
none_some o e = cc

no_delete : (p : Bool × ℕ) → ◌≡◌ {A = Option (Bool × ℕ)} None (Some p) → ⊥
no_delete p e = cc

-- no ticket that is told has the number of the next one
untaken : (es : List Entry) (next op : ℕ) (unit : Given) → op_of_ticket es next ≡ None → (k o : ℕ) → op_of_ticket es k ≡ Some o → cleanup_by (Gave next op unit) k ≡ false
untaken es next op unit none k o of = cleanup_other next op unit k (λ same. none_some o (sym none ∙ ap (op_of_ticket es) same ∙ of))

module _ (deposed : Bool) (ops now : Ops) (open_deletes : Deletes) (tickets : Tickets) (next next_op : ℕ) (es : List Entry) (op : ℕ) (unit : Given) (h : Follows deposed ops open_deletes tickets next next_op es)
    (told_ops : (o : ℕ) (q : Op) → fin.get now o ≡ Some q → IsToldOp (es ++ gave next op unit ∷ []) next_op o q) (kept : (o : ℕ) → IsOpenIn ops o → IsOpenIn now o) where
  abbrev x : Entry
  x = gave next op unit

  same_next : next_op ≤ next_op
  same_next = omega arith

  no_name : (o : ℕ) → (o < next_op) ⊎ (next_op ≤ o) → (name_by o (gave next op unit).step (gave next op unit).reply ≡ None) × (is_op o (cleanup_of (gave next op unit).step (gave next op unit).reply) ≡ false)
  no_name o any = (refl, refl)

  later_is : (k : ℕ) → suc next ≤ k → (op_of_ticket (es ++ gave next op unit ∷ []) k ≡ None) × (uuid_of_ticket (es ++ gave next op unit ∷ []) k ≡ None) × (is_cleanup_ticket (es ++ gave next op unit ∷ []) k ≡ false)
  later_is k le = let g = h.fresh k (omega (arith, le)) in let n = by_other next op unit k le in (op_given es x k g.0 ∙ n.0, uuid_given es x k g.1 ∙ n.1, cleanup_stays es x k n.2 ∙ g.2)

  delete_told : (d : ℕ) (y : Deletion) → fin.get open_deletes d ≡ Some y → IsToldDelete (es ++ gave next op unit ∷ []) next_op d y
  delete_told d y e = delete_told_on es x next_op next_op same_next no_name d y y (h.deletes d y e) refl refl

  known : SameTickets es (gave next op unit)
  known = untaken es next op unit (h.fresh next (omega arith)).0

  pub given_on : (t : Ticket) → t.op ≡ op → t.clean ≡ is_cleanup unit → (t.work ≡ Drop → IsAbortedIn es op × (t.clean ≡ false))
      → ((info : SnapInfo) (results : List ShardResult) (made : Command) → t.work ≡ Finalize info results made → HasName es op)
      → ((uuids : List ℕ) (plan : Option Swap) → t.work ≡ Deleting uuids plan → IsNameless es next_op t.clean op) → (IsFinalGiven unit → IsOutFinal t)
      → ((info : SnapInfo) (results : List ShardResult) (made : Command) → t.work ≡ Finalize info results made → uuid_of_unit unit ≡ Some info.uuid)
      → Follows deposed now open_deletes (fin.insert tickets next t) (suc next) next_op (es ++ gave next op unit ∷ [])
  given_on t op_is clean_is drops finals deletes outs uuids_are =
      let f = h.fresh next (omega arith) in
      record {
        live = h.live;
        ops = told_ops;
        deletes = delete_told;
        coming = λ o le. let was = h.coming o le in (name_given es x o was.0, cleans_stays es x o refl ∙ was.1);
        op_of = λ k u e. elim (was_in tickets next t k u e) [
          | inl m ↦ subst (λ (j : ℕ). op_of_ticket (es ++ x ∷ []) j ≡ Some u.op) (sym m.0) (op_given es x next f.0 ∙ op_by_same next op unit ∙ ap Some (sym op_is ∙ ap (λ (y : Ticket). y.op) m.1))
          | inr m ↦ op_stays es (x ∷ []) k u.op (h.op_of k u m.1)
        ];
        uuid_of = λ k u info results made e is. elim (was_in tickets next t k u e) [
          | inl m ↦ subst (λ (j : ℕ). uuid_of_ticket (es ++ x ∷ []) j ≡ Some info.uuid) (sym m.0) (uuid_given es x next f.1 ∙ uuid_by_same next op unit ∙ uuids_are info results made (ap (λ (y : Ticket). y.work) m.1 ∙ is))
          | inr m ↦ uuid_stays es (x ∷ []) k info.uuid (h.uuid_of k u info results made m.1 is)
        ];
        cleans = λ k u e. elim (was_in tickets next t k u e) [
          | inl m ↦ subst (λ (j : ℕ). is_cleanup_ticket (es ++ x ∷ []) j ≡ u.clean) (sym m.0) (cleanup_given es x next f.2 ∙ cleanup_same next op unit ∙ sym clean_is ∙ ap (λ (y : Ticket). y.clean) m.1)
          | inr m ↦ cleanup_stays es x k (known k u.op (h.op_of k u m.1)) ∙ h.cleans k u m.1
        ];
        fresh = later_is;
        units = λ k u e. elim (was_in tickets next t k u e) [
          | inl m ↦ subst (IsToldTicket (es ++ x ∷ []) next_op) m.1 (record {
            drops = λ is. let d = drops is in (subst (IsAbortedIn (es ++ x ∷ [])) (sym op_is) (aborted_on es x op d.0), d.1);
            finals = λ info results made is. subst (HasName (es ++ x ∷ [])) (sym op_is) (named_on es x op (finals info results made is));
            deletes = λ uuids plan is. subst (IsNameless (es ++ x ∷ []) next_op t.clean) (sym op_is) (nameless_on es x next_op next_op same_next no_name t.clean op (deletes uuids plan is));
          })
          | inr m ↦ unit_on es x next_op next_op same_next no_name u u (h.units k u m.1) refl refl (λ is. is) (λ info results made is. is) (λ uuids plan is. (plan, is))
        ];
        final = λ o k e. elim (final_gave o (final_out es o) op unit next k (sym (final_on o es x) ∙ e)) [
          | inl before ↦
              let was = h.final o k before in
              elim (split_at k next) [
                | inl same ↦ absurd (taken k was.t same was.there)
                | inr apart ↦ record { t = was.t; there = other_in tickets next t k apart ∙ was.there; op_is = was.op_is; is = was.is }
              ]
          | inr mine ↦ record { t = t; there = ap (fin.get (fin.insert tickets next t)) (sym mine.1) ∙ same_in tickets next t; op_is = op_is ∙ mine.0; is = outs mine.2 }
        ];
        said = said_on es x h.said tt;
        settles = settles_on es x next_op next_op same_next no_name h.settles (λ step. absurd cc);
        prunes = prunes_on es x next_op next_op same_next no_name known h.prunes (λ step. absurd cc);
        leaves = leaves_on es x next_op next_op same_next no_name known h.leaves (λ step. absurd cc);
        ended = ended_on es x next_op next_op same_next no_name ops now h.ended (λ o name was. inl (kept o was)) (λ o e. absurd (none_some o e));
        deleted = deleted_on es x next_op next_op same_next no_name known open_deletes open_deletes h.deleted (λ cleans d nameless was. inl was) (λ cleans d e. absurd (no_delete (cleans, d) e));
      }
    where
      -- no ticket had this number
      taken : (k : ℕ) (u : Ticket) → k ≡ next → fin.get tickets k ≡ Some u → ⊥
      taken k u same there = none_some u.op (sym (h.fresh k (subst (λ (n : ℕ). next ≤ n) (sym same) (omega arith))).0 ∙ h.op_of k u there)

-- a shard of a restore is given: its ticket is none of these
pub handed_on : (deposed : Bool) (ops : Ops) (deletes : Deletes) (tickets : Tickets) (next next_op : ℕ) (es : List Entry) (op : ℕ) (unit : Given) → (IsFinalGiven unit → ⊥) → Follows deposed ops deletes tickets next next_op es
    → Follows deposed ops deletes tickets (suc next) next_op (es ++ gave next op unit ∷ [])
handed_on deposed ops deletes tickets next next_op es op unit no_final h =
    let x : Entry = gave next op unit in
    let same : next_op ≤ next_op = omega arith in
    let none : (o : ℕ) → (o < next_op) ⊎ (next_op ≤ o) → (name_by o x.step x.reply ≡ None) × (is_op o (cleanup_of x.step x.reply) ≡ false) = λ o any. (refl, refl) in
    let known : SameTickets es x = untaken es next op unit (h.fresh next (omega arith)).0 in
    record {
      live = h.live;
      ops = λ o q e. op_on es x next_op next_op same none o q q (h.ops o q e) refl refl refl;
      deletes = λ d y e. delete_told_on es x next_op next_op same none d y y (h.deletes d y e) refl refl;
      coming = λ o le. let was = h.coming o le in (name_given es x o was.0, cleans_stays es x o refl ∙ was.1);
      op_of = λ k u e. op_stays es (x ∷ []) k u.op (h.op_of k u e);
      uuid_of = λ k u info results made e is. uuid_stays es (x ∷ []) k info.uuid (h.uuid_of k u info results made e is);
      cleans = λ k u e. cleanup_stays es x k (known k u.op (h.op_of k u e)) ∙ h.cleans k u e;
      fresh = λ k le. let g = h.fresh k (omega (arith, le)) in let n = by_other next op unit k le in (op_given es x k g.0 ∙ n.0, uuid_given es x k g.1 ∙ n.1, cleanup_stays es x k n.2 ∙ g.2);
      units = λ k u e. unit_on es x next_op next_op same none u u (h.units k u e) refl refl (λ is. is) (λ info results made is. is) (λ uuids plan is. (plan, is));
      final = λ o k e. elim (final_gave o (final_out es o) op unit next k (sym (final_on o es x) ∙ e)) [ inl before ↦ h.final o k before | inr mine ↦ absurd (no_final mine.2) ];
      said = said_on es x h.said tt;
      settles = settles_on es x next_op next_op same none h.settles (λ step. absurd cc);
      prunes = prunes_on es x next_op next_op same none known h.prunes (λ step. absurd cc);
      leaves = leaves_on es x next_op next_op same none known h.leaves (λ step. absurd cc);
      ended = ended_on es x next_op next_op same none ops ops h.ended (λ o name was. inl was) (λ o e. absurd (none_some o e));
      deleted = deleted_on es x next_op next_op same none known deletes deletes h.deleted (λ cleans d nameless was. inl was) (λ cleans d e. absurd (no_delete (cleans, d) e));
    }

-- restores and their tickets aside, with more numbers
pub follows_aside : (w new : World) (es : List Entry) → Aside w new → FollowsIn w es → FollowsIn new es
follows_aside w new es a h =
    subst (λ (v : World). FollowsIn v es) (sym a.new_is) (record {
      live = h.live;
      ops = λ o op e. let t = h.ops o op e in let lt : o < w.next_op = t.below in let up : w.next_op ≤ a.next_op = a.ops in record { unfailed = t.unfailed; aborted = t.aborted; named = t.named; below = omega (arith, lt, up) };
      deletes = λ d x e. let t = h.deletes d x e in record { unfailed = t.unfailed; nameless = later x.clean d t.nameless };
      coming = λ o le. let up : w.next_op ≤ a.next_op = a.ops in h.coming o (omega (arith, up, le));
      op_of = h.op_of;
      uuid_of = h.uuid_of;
      cleans = h.cleans;
      fresh = λ k le. let up : w.next_ticket ≤ a.next_ticket = a.tickets in h.fresh k (omega (arith, up, le));
      units = λ k t e. let u = h.units k t e in record { drops = u.drops; finals = u.finals; deletes = λ uuids plan is. later t.clean t.op (u.deletes uuids plan is) };
      final = h.final;
      said = h.said;
      settles = h.settles;
      prunes = λ e has step reply. let (d, of, nameless) = h.prunes e has step reply in (d, of, later (is_cleanup_ticket es e.who) d nameless);
      leaves = λ e has step reply. let (d, of, nameless) = h.leaves e has step reply in (d, of, λ cleans. later true d (nameless cleans));
      ended = h.ended;
      deleted = λ e cleans d has accepted. let (nameless, how) = h.deleted e cleans d has accepted in (later cleans d nameless, how);
    })
  where
    later : (cleans : Bool) (o : ℕ) → IsNameless es w.next_op cleans o → IsNameless es a.next_op cleans o
    later cleans o n = record { unnamed = n.unnamed; below = let lt : o < w.next_op = n.below in let up : w.next_op ≤ a.next_op = a.ops in omega (arith, lt, up); kind = n.kind }
