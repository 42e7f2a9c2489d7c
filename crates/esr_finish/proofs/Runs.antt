-- Runs of steps, one after another.
use Rattle.std.proofs.Common.{◌≡◌, ◌⊎◌, inl, inr, IfOk, IfErr, ℕ, Bool, true, false, List, ◌∷◌, Option, Some, None, Result, Ok, Err, refl, sym, subst}
use Rattle.esr_core.specs.World.{Ticket}
use Rattle.std.specs.Prelude.{if◌then◌else◌}
use Rattle.esr_model.specs.Names.{BlobName}
use Rattle.esr_model.specs.Values.{Bytes}
use Rattle.esr_depot.specs.declared.depot.Commit.{Commit}
use Rattle.esr_depot.specs.declared.depot.Commit.TheVariants as commits
use Rattle.esr_core.specs.Entry.{BeginStep, CommitStep, WasBegun, RaiseStep, RaisedTo, Moment}
use Rattle.esr_core.specs.After.{is_latest}
use Rattle.esr_desk.specs.declared.refusal.StepRefusal.{StepRefusal}
use Rattle.esr_desk.specs.declared.refusal.StepRefusal.TheVariants as steps
use Rattle.esr_desk.specs.declared.refusal.EntryRefusal.TheVariants as refusals
use Rattle.esr_desk.specs.Start.{Start, ticket_of}
use Rattle.esr_desk.specs.Outcome.{Stepped, Outcome, commit_reply}
use Rattle.esr_desk.specs.Grew.{stepped_grew_by, outcome_grew_by}
use Rattle.esr_desk.specs.Taken.{committed_by, tried, tried_by, begun_by, LeftBy, HasRaised}
use Rattle.esr_finish.specs.Went.{Worked, Went}
use Rattle.esr_finish.specs.Runs.{worked_not}

-- ---- what a step makes of the ticket

pub worked_to : (a b c : Ticket) → Worked a b → c ≡ b → Worked a c
worked_to a b c worked same = subst (λ (t : Ticket). Worked a t) (sym same) worked

tried_worked : (t : Ticket) → Worked t (tried t)
tried_worked t = record { noted = t.noted; wrote = t.wrote; raised = t.raised; tried = true; is = refl }

pub tried_by_worked : {X : Type 0} (t : Ticket) (result : Result X StepRefusal) → Worked t (tried_by result t)
tried_by_worked t (Ok x) = tried_worked t
tried_by_worked t (Err (steps.Refused refusals.DepotFault)) = tried_worked t
tried_by_worked t (Err (steps.Refused (refusals.Deposed entry))) = worked_not t
tried_by_worked t result = worked_not t

tried_if : (latest : Bool) (t : Ticket) → Worked t (if latest then tried t else t)
tried_if true t = tried_worked t
tried_if false t = worked_not t

begun_by_worked : {X : Type 0} (name : BlobName) (t : Ticket) (result : Result X StepRefusal) → Worked t (begun_by name result t)
begun_by_worked name t (Err (steps.Refused refusals.DepotFault)) = tried_if (is_latest name) t
begun_by_worked name t (Err (steps.Refused (refusals.Deposed entry))) = worked_not t
begun_by_worked name t result = worked_not t

-- a begin, whatever it was answered
pub begin_went : {X : Type 0} (s : Start) (old new : List Moment) (who : ℕ) (name : BlobName) (result : Result X StepRefusal) → Outcome s old new who (BeginStep name) (λ x. WasBegun) result
    → ticket_of s new who ≡ begun_by name result (ticket_of s old who) → Went s old new who
begin_went s old new who name result step own = record {
  grew = outcome_grew_by s old new who (BeginStep name) (λ x. WasBegun) result step;
  worked = worked_to (ticket_of s old who) (begun_by name result (ticket_of s old who)) (ticket_of s new who) (begun_by_worked name (ticket_of s old who) result) own;
}

committed_worked : (name : BlobName) (contents : Option Bytes) (done : Commit) (t : Ticket) → Worked t (committed_by name contents done t)
committed_worked name None commits.Done t = record { noted = name ∷ t.noted; wrote = t.wrote; raised = t.raised; tried = t.tried_latest; is = refl }
committed_worked name (Some bytes) commits.Done t = record { noted = name ∷ t.noted; wrote = (name, bytes) ∷ t.wrote; raised = t.raised; tried = t.tried_latest; is = refl }
committed_worked name contents commits.Exists t = record { noted = name ∷ t.noted; wrote = t.wrote; raised = t.raised; tried = t.tried_latest; is = refl }

-- a commit that was made
pub commit_went : (s : Start) (old new : List Moment) (who : ℕ) (name : BlobName) (contents : Option Bytes) (done : Commit) → Stepped s old new who (CommitStep name) (commit_reply done)
    → ticket_of s new who ≡ committed_by name contents done (ticket_of s old who) → Went s old new who
commit_went s old new who name contents done step own = record {
  grew = stepped_grew_by s old new who (CommitStep name) (commit_reply done) step;
  worked = worked_to (ticket_of s old who) (committed_by name contents done (ticket_of s old who)) (ticket_of s new who) (committed_worked name contents done (ticket_of s old who)) own;
}

-- what a record swap that was refused left of the ticket
pub left_cases : {X : Type 0} (gone : Ticket → Type 0) (result : Result X StepRefusal) (t u : Ticket) → LeftBy gone result t u → IfErr result (λ e. (u ≡ t) ⊎ gone u)
left_cases gone (Ok x) t u h = tt
left_cases gone (Err (steps.Refused refusals.DepotFault)) t u h = h
left_cases gone (Err (steps.Refused (refusals.Deposed entry))) t u h = inl h
left_cases gone result t u h = inl h

raised_worked : (t u : Ticket) → (u ≡ t) ⊎ HasRaised t u → Worked t u
raised_worked t u (inl same) = worked_to t t u (worked_not t) same
raised_worked t u (inr gone) = record { noted = t.noted; wrote = t.wrote; raised = Some gone.0; tried = t.tried_latest; is = gone.1 }

raise_worked : (t u : Ticket) (result : Result ℕ StepRefusal) → IfOk result (λ n. u ≡ record t { raised = Some n }) → IfErr result (λ e. (u ≡ t) ⊎ HasRaised t u) → Worked t u
raise_worked t u (Ok n) own kept = raised_worked t u (inr (n, own))
raise_worked t u (Err e) own kept = raised_worked t u kept

-- a raise, whatever it was answered
pub raise_went : (s : Start) (old new : List Moment) (who : ℕ) (result : Result ℕ StepRefusal) → Outcome s old new who RaiseStep (λ n. RaisedTo n) result
    → IfOk result (λ n. ticket_of s new who ≡ record (ticket_of s old who) { raised = Some n }) → LeftBy (HasRaised (ticket_of s old who)) result (ticket_of s old who) (ticket_of s new who) → Went s old new who
raise_went s old new who result step own kept = record {
  grew = outcome_grew_by s old new who RaiseStep (λ n. RaisedTo n) result step;
  worked = raise_worked (ticket_of s old who) (ticket_of s new who) result own (left_cases (HasRaised (ticket_of s old who)) result (ticket_of s old who) (ticket_of s new who) kept);
}
