-- The ends of the unit of a delete or cleanup.
use Rattle.std.proofs.Common.{◌≡◌, inl, inr, ℕ, ℤ, pos, negsuc, Bool, true, false, List, [], map, Option, None, Result, Ok, Err, IfOk, IfErr, refl, sym, ap, ◌∙◌, subst}
use Rattle.esr_model.specs.Values.{RootData}
use Rattle.esr_core.specs.World.{Ticket, Deleting}
use Rattle.esr_core.specs.Entry.{Moment}
use Rattle.esr_names.specs.declared.ids.Id.{Id}
use Rattle.esr_root.specs.Root as code
use Rattle.esr_ops.specs.declared.unit.Work.{Work}
use Rattle.esr_ops.specs.declared.unit.Work.TheVariants as works
use Rattle.esr_ops.specs.declared.unit.Copied.{Copied}
use Rattle.esr_formats.specs.Ids.{number_of}
use Rattle.esr_formats.specs.Clusters.{count_of}
use Rattle.esr_formats.specs.Roots.{root_of}
use Rattle.esr_desk.specs.declared.hand.Hand.TheVariants as hands
use Rattle.esr_desk.specs.declared.refusal.StepRefusal.{StepRefusal}
use Rattle.esr_desk.specs.declared.unit.UnitRefusal.{UnitRefusal}
use Rattle.esr_desk.specs.declared.unit.UnitRefusal.TheVariants as units
use Rattle.esr_desk.specs.Start.{Start, ticket_of}
use Rattle.esr_desk.specs.Taken.{fresh, TookWork, HasEndedAs}
use Rattle.esr_desk.specs.Evidence.{Evidence}
use Rattle.esr_desk.specs.Delete.Conditions.{CanFailDelete}
use Rattle.esr_dooming.specs.Pieces.{root_count}
use Rattle.esr_finish.specs.Refused.{IsGivenUp}
use Rattle.esr_delete.specs.Work.{last_root}
use Rattle.esr_delete.specs.Gathered.{IsUnplanned}
use Rattle.esr_delete.specs.Ticket.{HasWritten, HasDone, IsOver, Deleted}
use Rattle.esr_delete.specs.Went.{Worked}
use Rattle.esr_delete.specs.Refused.{Stops, HasEndedUnsettled, HasEnded, HasStopped, IsUnitRefused, IsEndedAt, IsLeftAt, IsHalted}
use Rattle.esr_delete.proofs.Passing.{halts_stops}

-- ---- the ticket as it was taken

-- it has done nothing, and copied this root
pub record IsFresh (t : Ticket) (clean : Bool) (copy : Copied) (uuids : List ℕ) : Type 0 where
  pub free : IsUnplanned t clean (root_of copy.root) uuids
  pub unread : t.read ≡ []
  pub safe : t.safe ≡ count_of copy.safe

-- so it is in either mode
fresh_as : (clean : Bool) (uuids : List ℕ) (op term : ℕ) (copy : Copied) → IsFresh (record (fresh (Deleting uuids None) op 0 [] [] term copy) { clean = clean }) clean copy uuids
fresh_as clean uuids op term copy = record {
  free = record {
    out = refl;
    unsettled = refl;
    work = refl;
    mode = refl;
    root_is = refl;
    unraised = refl;
    unnoted = refl;
    undrawn = refl;
    untried = refl;
    unlisted = record { listed = refl; whole = refl };
  };
  unread = refl;
  safe = refl;
}

pub took_delete : (t : Ticket) (work : Work) (uuids : List Id) (new : Option code.Root) (op : ℕ) (copy : Copied) → work ≡ works.Delete uuids → TookWork work new op copy t → IsFresh t false copy (map number_of uuids)
took_delete t work uuids new op copy is took =
    let (term, own) = subst (λ (w : Work). TookWork w new op copy t) is took in
    subst (λ (u : Ticket). IsFresh u false copy (map number_of uuids)) (sym own) (fresh_as false (map number_of uuids) op term copy)

pub took_cleanup : (t : Ticket) (work : Work) (uuids : List Id) (new : Option code.Root) (op : ℕ) (copy : Copied) → uuids ≡ [] → work ≡ works.Cleanup → TookWork work new op copy t → IsFresh t true copy (map number_of uuids)
took_cleanup t work uuids new op copy none is took =
    let (term, own) = subst (λ (w : Work). TookWork w new op copy t) is took in
    subst (λ (us : List Id). IsFresh t true copy (map number_of us)) (sym none) (subst (λ (u : Ticket). IsFresh u true copy []) (sym own) (fresh_as true [] op term copy))

-- how many generations there are up to its root
pub root_counts : (z : ℤ) → root_count (last_root z) ≡ count_of z
root_counts (pos n) = refl
root_counts (negsuc n) = refl

-- ---- it failed

pub can_fail : (old new : Ticket) → old.out ≡ true → old.settled ≡ false → Worked old new → CanFailDelete new
can_fail old new out unsettled worked = record {
  out = ap (λ (t : Ticket). t.out) worked.is ∙ out;
  may = inl (ap (λ (t : Ticket). t.settled) worked.is ∙ unsettled);
  uuids = worked.uuids;
  plan = worked.plan;
  work = ap (λ (t : Ticket). t.work) worked.is;
}

ended_unsettled : (old mid new : Ticket) → old.settled ≡ false → Worked old mid → HasEndedAs mid new → HasEndedUnsettled old new
ended_unsettled old mid new unsettled worked ended = record {
  worked = mid;
  is_worked = worked;
  is = ended;
  unsettled = ap (λ (t : Ticket). t.settled) (ended ∙ ap (λ (t : Ticket). record t { out = false }) worked.is) ∙ unsettled;
}

pub given_refused : {S F H T : Type 0} (e : Evidence S F H T) (s : Start) (old mid new : List Moment) (who : ℕ) (result : UnitRefusal) → (ticket_of s old who).out ≡ true → (ticket_of s old who).settled ≡ false
    → Worked (ticket_of s old who) (ticket_of s mid who)
    → IsGivenUp hands.Delete e s mid new who result → IsUnitRefused e s old new who result
given_refused e s old mid new who (units.Stopped refusal) out unsettled worked h = (
  inl (ap (λ (t : Ticket). t.out) (h.0 ∙ worked.is) ∙ out, inl (subst (λ (t : Ticket). Worked (ticket_of s old who) t) (sym h.0) worked)),
  halts_stops (ticket_of s old who).clean s new who refusal h.1,
)
given_refused e s old mid new who result out unsettled worked h = (inl (ended_unsettled (ticket_of s old who) (ticket_of s mid who) (ticket_of s new who) unsettled worked h.0), h.1)

-- ---- it has settled, or stopped at its settle or later

pub deleted : (clean : Bool) (s : Start) (old mid new : List Moment) (who : ℕ) → (ticket_of s old who).clean ≡ clean → HasWritten s (ticket_of s old who) (ticket_of s mid who) → IsOver clean s mid new who → Deleted s old new who
deleted clean s old mid new who mode written over = record {
  settled = record { written = ticket_of s mid who; is_written = written; is = over.is };
  done = subst (λ (c : Bool). HasDone c s new who) (sym mode) over.done;
}

-- what is known of the ticket before its settle
record IsDone (s : Start) (old mid : Ticket) (clean : Bool) : Type 0 where
  out : old.out ≡ true
  unsettled : old.settled ≡ false
  mode : old.clean ≡ clean
  worked : Worked old mid
  written : HasWritten s old mid

ended_at : (s : Start) (old mid new : Ticket) (clean : Bool) → IsDone s old mid clean → IsEndedAt clean mid new → HasEnded s old new
ended_at s old mid new clean is (inl ended) = inl (ended_unsettled old mid new is.unsettled is.worked ended)
ended_at s old mid new clean is (inr (cleans, ended)) = inr (is.mode ∙ cleans, record { written = mid; is_written = is.written; is = ended })

left_at : (s : Start) (log : List Moment) (who : ℕ) (refusal : StepRefusal) (old mid new : Ticket) (clean : Bool) → IsDone s old mid clean → IsLeftAt clean log who refusal mid new → HasStopped s log who refusal old new
left_at s log who refusal old mid new clean is (inl (inl same)) = inl (ap (λ (t : Ticket). t.out) (same ∙ is.worked.is) ∙ is.out, inl (subst (λ (t : Ticket). Worked old t) (sym same) is.worked))
left_at s log who refusal old mid new clean is (inl (inr settled)) =
    let out : mid.out ≡ true = ap (λ (t : Ticket). t.out) is.worked.is ∙ is.out in
    inl (ap (λ (t : Ticket). t.out) settled ∙ out, inr (record { written = mid; is_written = is.written; is = settled ∙ ap (λ (o : Bool). record mid { settled = true; out = o }) out }))
left_at s log who refusal old mid new clean is (inr (cleans, ended, fell)) = inr (is.mode ∙ cleans, record { written = mid; is_written = is.written; is = ended }, fell)

halted_as : {S F H T : Type 0} (e : Evidence S F H T) (s : Start) (old mid new : List Moment) (who : ℕ) (clean : Bool) (result : UnitRefusal) → IsDone s (ticket_of s old who) (ticket_of s mid who) clean → IsHalted clean e s mid new who result
    → IsUnitRefused e s old new who result
halted_as e s old mid new who clean (units.Stopped refusal) is h = (
  left_at s new who refusal (ticket_of s old who) (ticket_of s mid who) (ticket_of s new who) clean is h.0,
  subst (λ (c : Bool). Stops c s new who refusal) (sym is.mode) h.1,
)
halted_as e s old mid new who clean result is h = (ended_at s (ticket_of s old who) (ticket_of s mid who) (ticket_of s new who) clean is h.0, h.1)

pub halted : {S F H T : Type 0} (e : Evidence S F H T) (s : Start) (old mid new : List Moment) (who : ℕ) (clean : Bool) (root : RootData) (uuids : List ℕ) (result : UnitRefusal) → IsUnplanned (ticket_of s old who) clean root uuids
    → Worked (ticket_of s old who) (ticket_of s mid who)
    → HasWritten s (ticket_of s old who) (ticket_of s mid who) → IsHalted clean e s mid new who result → IsUnitRefused e s old new who result
halted e s old mid new who clean root uuids result free worked written h =
    halted_as e s old mid new who clean result (record { out = free.out; unsettled = free.unsettled; mode = free.mode; worked = worked; written = written }) h

pub if_ok : {T E : Type 0} (r : Result T E) (P Q : T → Type 0) → ((x : T) → P x → Q x) → IfOk r P → IfOk r Q
if_ok (Ok x) P Q more h = more x h
if_ok (Err e) P Q more h = tt

pub if_both : {T E : Type 0} (r : Result T E) (P Q R : T → Type 0) → ((x : T) → P x → Q x → R x) → IfOk r P → IfOk r Q → IfOk r R
if_both (Ok x) P Q R more h g = more x h g
if_both (Err e) P Q R more h g = tt

pub if_err : {T E : Type 0} (r : Result T E) (P Q : E → Type 0) → ((e : E) → P e → Q e) → IfErr r P → IfErr r Q
if_err (Ok x) P Q more h = tt
if_err (Err e) P Q more h = more e h
