-- A command that is asked for.
use Rattle.std.proofs.Common.{◌≡◌, ℕ, suc, ◌+◌, ◌^◌, ◌<◌, true, List, map, Some, None, Result, Ok, Err, IfOk, IfSome, refl, sym, ap, ◌∙◌, subst, arith, IfErr, IsErrAnd}
use Rattle.esr_model.specs.Values.{Bytes}
use Rattle.esr_model.specs.Kept.{first_id}
use Rattle.esr_core.specs.World.{World, record_ops, ledger_of}
use Rattle.esr_core.specs.Entry.{Asked, Snapshot, DeleteSnapshots, Cleanup, is_recorded, TakesNothing, AskStep, Accepted, CleanupRunning, NameInUse, TooMany, IdsSpent, Moment}
use Rattle.esr_core.specs.After.{asked}
use Rattle.esr_core.specs.Allowed.{Accepting, Cleaning, Used, Full, AskSpent}
use Rattle.esr_root.specs.Root.{Root}
use Rattle.esr_record.specs.Record.{Record}
use Rattle.esr_formats.specs.Roots.{root_of}
use Rattle.esr_formats.specs.Clusters.{op_of, cluster_of}
use Rattle.esr_ops.specs.Asked.{IsAskable, IsForOp}
use Rattle.esr_ops.specs.Plan.{Plan, IsPlanOf, IsAskedIn}
use Rattle.esr_ops.specs.declared.refusal.Refusal.{Refusal as ListRefusal}
use Rattle.esr_ops.specs.declared.refusal.Refusal.TheVariants as refusals
use Rattle.esr_ops.specs.declared.command.Accepted.{Accepted as CodeAccepted}
use Rattle.esr_accept.specs.Accepting.{MayAccept, IsAccepted, IsRefused, name_asked, Accepting as IsAccepting, AcceptingDelete, AcceptingCleanup}
use Rattle.esr_desk.specs.Refusals.{refusal_of}
use Rattle.esr_desk.specs.Start.{Start, world_of}
use Rattle.esr_repo.specs.May.{MaySwap, MayRefuse}
use Rattle.esr_repo.specs.InfosAfter.{InfosAfter}
use Rattle.esr_repo.specs.WithOps.{cluster_from}
use Rattle.esr_client.specs.Asked.{entry_of, as_op, IsListed}
use Rattle.esr_client.proofs.Ruled.{ruled, ruled_at}
use Rattle.esr_client.proofs.AskedDeletes.{refuses_delete, may_ask_delete}
use Rattle.esr_client.proofs.AskedCleanups.{refuses_cleanup, may_ask_cleanup}

-- an error that is passed on
pub err_passed : {T E : Type 0} (r : Result T E) (P : E → Type 0) (x : E) → IsErrAnd r (λ e. e ≡ x) → P x → IfErr r P
err_passed (Ok t) P x is holds = tt
err_passed (Err e) P x is holds = subst P (sym is) holds

-- ---- why it is refused

-- each command that may be asked so is recorded
recorded : (command : Asked) → IsAskable command → is_recorded command ≡ true
recorded (Snapshot name indices moment) askable = refl
recorded command askable = absurd askable

takes_nothing : (command : Asked) → IsAskable command → TakesNothing command
takes_nothing (Snapshot name indices moment) askable = tt
takes_nothing command askable = absurd askable

refuses_snapshot : (s : Start) (log : List Moment) (command : Asked) (refusal : ListRefusal) → IsAskable command → IsRefused (world_of s log) (name_asked command) command refusal
    → IfSome (entry_of refusal) (λ e. MayRefuse s log 0 (AskStep command) (refusal_of e))
refuses_snapshot s log command refusals.Memory askable h = tt
refuses_snapshot s log command (refusals.CleanupRunning op) askable h = ruled s log command (CleanupRunning op) (Cleaning command op h.0 (recorded command askable) (takes_nothing command askable) h.1 h.2)
refuses_snapshot s log (Snapshot name indices moment) (refusals.NameInUse uuid) askable h = ruled s log (Snapshot name indices moment) (NameInUse uuid.number) (Used name indices moment uuid.number h.0 h.1)
refuses_snapshot s log (Snapshot name indices moment) (refusals.TooMany limit) askable h = ruled_at s log (Snapshot name indices moment) TooMany limit 1000 h.0 (Full name indices moment h.1 h.2 h.3)
refuses_snapshot s log (Snapshot name indices moment) (refusals.IdsSpent next) askable h =
    ruled_at s log (Snapshot name indices moment) IdsSpent next.number (world_of s log).next_id h.0 (AskSpent name indices moment h.1.no_cleanup h.1.unused h.1.room h.2)
refuses_snapshot s log (Snapshot name indices moment) other askable h = absurd h
refuses_snapshot s log command other askable h = absurd askable

-- by the rules of its kind
pub refuses : (s : Start) (log : List Moment) (command : Asked) (refusal : ListRefusal) → IsForOp command → IsListed (world_of s log) command (Err refusal) → IfSome (entry_of refusal) (λ e. MayRefuse s log 0 (AskStep command) (refusal_of e))
refuses s log (Snapshot name indices moment) refusal may h = refuses_snapshot s log (Snapshot name indices moment) refusal may h
refuses s log (DeleteSnapshots names) refusal may h = refuses_delete s log names refusal h
refuses s log Cleanup refusal may h = refuses_cleanup s log refusal h
refuses s log command refusal may h = absurd may

-- ---- what is kept

pub asked_in : (w : World) (plan : Plan) (root : Root) (term next : ℕ) → IsPlanOf w plan → root_of root ≡ w.root → term ≡ w.term → next ≡ w.next_id → IsAskedIn plan (root_of root) term next w
asked_in w plan root term next plan_is root_is term_is next_is = record { plan = plan_is; root_is = sym root_is; term_is = sym term_is; next_is = sym next_is }

may_ask_snapshot : (s : Start) (log : List Moment) (command : Asked) (cluster : Record) (p : Plan) (accepted : CodeAccepted) (next : ℕ) → InfosAfter s log → IsAskable command → MayAccept (world_of s log) (name_asked command)
    → IsAccepted (world_of s log) command p accepted
    → (cluster_of cluster).ledger ≡ ledger_of (world_of s log) → map op_of cluster.ops ≡ record_ops p.ops p.deletes → next ≡ (world_of s log).next_id + accepted.drawn
    → MaySwap s log 0 (AskStep command) (Accepted accepted.op) cluster None None None (Some p) next
may_ask_snapshot s log (Snapshot name indices moment) cluster p accepted next served askable may is ledger ops next_is =
    let fits = subst (λ (n : ℕ). (world_of s log).next_id + n < first_id (suc (world_of s log).term)) is.drawn is.fits in
    record {
      swaps = refl;
      answers = refl;
      allows = λ image tells same.
          Accepting name indices moment accepted.op image (record { number = is.number; distinct = askable.0; no_cleanup = may.no_cleanup; unused = may.unused; room = may.room; fits = fits; texts = is.texts s.known s.told }) same;
      cluster_is = cluster_from (asked (world_of s log) (Snapshot name indices moment)) cluster p is.plan ledger ops;
      root_is = λ old h. h;
      infos_are = served.stay 0 (AskStep (Snapshot name indices moment)) tt;
      plan_is = λ old h. is.plan;
      next_is = next_is ∙ ap (λ (n : ℕ). (world_of s log).next_id + n) is.drawn;
    }
may_ask_snapshot s log command cluster p accepted next served askable may is ledger ops next_is = absurd askable

no_more : (next first drawn : ℕ) → drawn ≡ 0 → next ≡ first + drawn → next ≡ first
no_more next first drawn none is = omega (arith, none, is)

pub may_ask : (s : Start) (log : List Moment) (command : Asked) (cluster : Record) (p : Plan) (accepted : CodeAccepted) (next : ℕ) → InfosAfter s log → IsForOp command → IsListed (world_of s log) command (Ok (p, accepted))
    → (cluster_of cluster).ledger ≡ ledger_of (world_of s log) → map op_of cluster.ops ≡ record_ops p.ops p.deletes → next ≡ (world_of s log).next_id + accepted.drawn
    → MaySwap s log 0 (AskStep command) (Accepted accepted.op) cluster None None None (Some p) next
may_ask s log (Snapshot name indices moment) cluster p accepted next served may h ledger ops next_is = may_ask_snapshot s log (Snapshot name indices moment) cluster p accepted next served may h.0 h.1 ledger ops next_is
may_ask s log (DeleteSnapshots names) cluster p accepted next served may h ledger ops next_is =
    may_ask_delete s log names cluster p accepted.op next served h.0.0 h.0.1 h.0.2 ledger ops (no_more next (world_of s log).next_id accepted.drawn h.1 next_is)
may_ask s log Cleanup cluster p accepted next served may h ledger ops next_is =
    may_ask_cleanup s log cluster p accepted.op next served h.0.0 h.0.1 h.0.2 ledger ops (no_more next (world_of s log).next_id accepted.drawn h.1 next_is)
may_ask s log command cluster p accepted next served may h ledger ops next_is = absurd may

-- ---- the list after it

pub listed_delete : (w : World) (names : List Bytes) (found : Result (Plan × ℕ) ListRefusal) (result : Result (Plan × CodeAccepted) ListRefusal) → result ≡ as_op found → AcceptingDelete w names found
    → IsListed w (DeleteSnapshots names) result
listed_delete w names (Ok (new, op)) result is h = subst (IsListed w (DeleteSnapshots names)) (sym is) (h, refl)
listed_delete w names (Err refusal) result is h = subst (IsListed w (DeleteSnapshots names)) (sym is) h

pub listed_cleanup : (w : World) (found : Result (Plan × ℕ) ListRefusal) (result : Result (Plan × CodeAccepted) ListRefusal) → result ≡ as_op found → AcceptingCleanup w found → IsListed w Cleanup result
listed_cleanup w (Ok (new, op)) result is h = subst (IsListed w Cleanup) (sym is) (h, refl)
listed_cleanup w (Err refusal) result is h = subst (IsListed w Cleanup) (sym is) h

-- ---- the number after the ids that it draws fits

accepted_fits : (w : World) (command : Asked) (p : Plan) (accepted : CodeAccepted) → w.term < 2 ^ 63 → IsAccepted w command p accepted → w.next_id + accepted.drawn < 2 ^ 128
accepted_fits w command p accepted most is = omega (arith, is.fits)

pub accepting_fits : (w : World) (command : Asked) (result : Result (Plan × CodeAccepted) ListRefusal) → w.term < 2 ^ 63 → IsAccepting w command result → IfOk result (λ r. w.next_id + r.1.drawn < 2 ^ 128)
accepting_fits w command (Ok (new, accepted)) most h = accepted_fits w command new accepted most h.1
accepting_fits w command (Err refusal) most h = tt

none_drawn : (term next : ℕ) → term < 2 ^ 63 → next < first_id (suc term) → next + 0 < 2 ^ 128
none_drawn term next most below = omega (arith, most, below)

pub op_fits : (w : World) (found : Result (Plan × ℕ) ListRefusal) (result : Result (Plan × CodeAccepted) ListRefusal) → w.term < 2 ^ 63 → w.next_id < first_id (suc w.term) → result ≡ as_op found
    → IfOk result (λ r. w.next_id + r.1.drawn < 2 ^ 128)
op_fits w (Ok (new, op)) result most below is = subst (λ (z : Result (Plan × CodeAccepted) ListRefusal). IfOk z (λ r. w.next_id + r.1.drawn < 2 ^ 128)) (sym is) (none_drawn w.term w.next_id most below)
op_fits w (Err refusal) result most below is = subst (λ (z : Result (Plan × CodeAccepted) ListRefusal). IfOk z (λ r. w.next_id + r.1.drawn < 2 ^ 128)) (sym is) tt
