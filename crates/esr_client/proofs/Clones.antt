-- A clone that is asked for.
use Rattle.std.proofs.Common.{◌≡◌, ℕ, suc, ◌+◌, ◌<◌, List, [], ◌∷◌, map, Option, Some, None, Result, Ok, Err, IsErrAnd, IfOk, IfSome, refl, sym, ap, ◌∙◌, subst, inl, inr, arith}
use Rattle.esr_model.specs.Kept.{first_id}
use Rattle.esr_model.specs.Values.{Bytes, Has, IndexRef}
use Rattle.esr_core.specs.World.{record_ops, ledger_of}
use Rattle.esr_core.specs.Generations.{OpTexts}
use Rattle.esr_core.specs.Restores.{AreOnce}
use Rattle.esr_core.specs.Entry.{CloneOf, Clone, Step, AskStep, Reply, Accepted, CleanupRunning, NameInUse, NoSnapshot, BeingDeleted, NoIndex, TooMany, IdsSpent, Moment}
use Rattle.esr_core.specs.After.{chosen_refs, cloned_op, clone_opened, asked}
use Rattle.esr_core.specs.Allowed.{open_count, MayClone, OpeningClone, CloneUsed, SourceNotListed, SourceDeleted, IndexMissing, FullOfClones, CloneSpent, Cleaning}
use Rattle.esr_record.specs.Record.{Record}
use Rattle.esr_formats.specs.Refs.{AreApart}
use Rattle.esr_formats.specs.Clusters.{op_of, cluster_of}
use Rattle.esr_progress.specs.Infos.{HasIndices}
use Rattle.esr_ops.specs.Plan.{Plan, IsPlanOf}
use Rattle.esr_accept.specs.Accepting.{IsCloneRefused}
use Rattle.esr_ops.specs.declared.refusal.Refusal.{Refusal as ListRefusal}
use Rattle.esr_ops.specs.declared.refusal.Refusal.TheVariants as refusals
use Rattle.esr_desk.specs.declared.refusal.StepRefusal.{StepRefusal}
use Rattle.esr_desk.specs.declared.refusal.StepRefusal.TheVariants as steps
use Rattle.esr_desk.specs.Refusals.{refusal_of}
use Rattle.esr_desk.specs.Start.{Start, formats_of, world_of}
use Rattle.esr_repo.specs.Next.{AddedOr, Did}
use Rattle.esr_client.specs.Asked.{entry_of}
use Rattle.esr_repo.specs.May.{MaySwap, MayRefuse}
use Rattle.esr_client.proofs.Restores.{told_so}
use Rattle.esr_repo.specs.InfosAfter.{InfosAfter}
use Rattle.esr_repo.specs.WithOps.{cluster_from}
use Rattle.esr_client.proofs.Ruled.{ruled, ruled_at}

-- ---- why it is refused

pub refuses_clone : (s : Start) (log : List Moment) (source name : Bytes) (names : List Bytes) (moment : ℕ) (refusal : ListRefusal) → IsCloneRefused (world_of s log) source name names refusal
    → IfSome (entry_of refusal) (λ e. MayRefuse s log 0 (AskStep (Clone source name names moment None)) (refusal_of e))
refuses_clone s log source name names moment (refusals.CleanupRunning op) h = ruled s log (Clone source name names moment None) (CleanupRunning op) (Cleaning (Clone source name names moment None) op h.0 refl tt h.1 h.2)
refuses_clone s log source name names moment (refusals.NameInUse uuid) h = ruled s log (Clone source name names moment None) (NameInUse uuid.number) (CloneUsed source name names moment uuid.number h.0 h.1)
refuses_clone s log source name names moment (refusals.NoSnapshot place) h = ruled_at s log (Clone source name names moment None) NoSnapshot place 0 h.0 (SourceNotListed source name names moment h.1 h.2)
refuses_clone s log source name names moment (refusals.BeingDeleted op) h = ruled s log (Clone source name names moment None) (BeingDeleted op) (SourceDeleted source name names moment h.1.0 op h.0 h.1.1 h.1.2)
refuses_clone s log source name names moment (refusals.NoIndex place) h = ruled s log (Clone source name names moment None) (NoIndex place) (IndexMissing source name names moment h.0 place h.1 h.2)
refuses_clone s log source name names moment (refusals.TooMany limit) h = ruled_at s log (Clone source name names moment None) TooMany limit 1000 h.0 (FullOfClones source name names moment h.1.0 h.1.1 h.1.2)
refuses_clone s log source name names moment (refusals.IdsSpent next) h = ruled_at s log (Clone source name names moment None) IdsSpent next.number (world_of s log).next_id h.0 (CloneSpent source name names moment h.1.0 h.1.1 h.1.2 h.1.3)
refuses_clone s log source name names moment other h = absurd h

-- ---- what is kept

-- no two indices that are apart have one name
named_once : (refs : List IndexRef) → AreApart refs → (r q : IndexRef) → Has refs r → Has refs q → r.name ≡ q.name → r ≡ q
named_once [] apart r q m n same = absurd m
named_once (x ∷ refs) apart r q (inl a) (inl b) same = sym a ∙ b
named_once (x ∷ refs) apart r q (inl a) (inr n) same = absurd ((apart.2 q n).0 (sym same ∙ ap (λ (z : IndexRef). z.name) (sym a)))
named_once (x ∷ refs) apart r q (inr m) (inl b) same = absurd ((apart.2 r m).0 (same ∙ ap (λ (z : IndexRef). z.name) (sym b)))
named_once (x ∷ refs) apart r q (inr m) (inr n) same = named_once refs apart.3 r q m n same

pub one_more : (n next : ℕ) → next ≡ n + 1 → next ≡ suc n
one_more n next is = omega (arith, is)

pub may_ask_clone : (s : Start) (log : List Moment) (source name : Bytes) (names : List Bytes) (moment : ℕ) (taken : CloneOf) (all : List IndexRef) (cluster : Record) (p : Plan) (o next : ℕ) → InfosAfter s log
    → MayClone (world_of s log) source name names taken.source × (open_count (world_of s log) < 1000) × (suc (world_of s log).next_id < first_id (suc (world_of s log).term)) → AreOnce names
    → HasIndices (formats_of s) (world_of s log) s.tells taken.source all → AreApart all → taken.indices ≡ chosen_refs all names
    → IsPlanOf (clone_opened (world_of s log) name moment taken) p → OpTexts (formats_of s) (cloned_op (world_of s log) name moment taken)
    → (cluster_of cluster).ledger ≡ ledger_of (world_of s log) → map op_of cluster.ops ≡ record_ops p.ops p.deletes → o ≡ (world_of s log).next_op → next ≡ (world_of s log).next_id + 1
    → MaySwap s log 0 (AskStep (Clone source name names moment (Some taken))) (Accepted o) cluster None None None (Some p) next
may_ask_clone s log source name names moment taken all cluster p o next served may once has apart chosen plan texts ledger ops o_is next_is =
    record {
      swaps = refl;
      answers = refl;
      allows = λ image tells same.
          OpeningClone source name names moment o taken image
          (record {
            number = o_is;
            may = may.0;
            once = once;
            room = may.1;
            fits = may.2;
            all = all;
            all_of = record { within = has.within; generations = has.generations; told = told_so s (world_of s log) taken.source all image tells has.told };
            named_once = named_once all apart;
            chosen_is = chosen;
            texts = texts;
          })
          same;
      cluster_is = cluster_from (asked (world_of s log) (Clone source name names moment (Some taken))) cluster p plan ledger ops;
      root_is = λ old h. h;
      infos_are = served.stay 0 (AskStep (Clone source name names moment (Some taken))) tt;
      plan_is = λ old h. plan;
      next_is = one_more (world_of s log).next_id next next_is;
    }

-- ---- what it does to the history

-- memory was wanting, and nothing was done
pub wanting : {X : Type 0} (s : Start) (log : List Moment) (who : ℕ) (step : Step) (ok : X → Reply) (r : Result X StepRefusal) → IsErrAnd r (λ e. e ≡ steps.Memory) → Did s log log who step ok r
wanting s log who step ok (Ok x) is = absurd is
wanting s log who step ok (Err e) is = subst (AddedOr s log log who step) (sym is) refl

-- a refusal that is passed on
pub passed_on : {X : Type 0} (s : Start) (old new : List Moment) (who : ℕ) (was step : Step) (ok : X → Reply) (r : Result X StepRefusal) (x : StepRefusal) → was ≡ step → IsErrAnd r (λ e. e ≡ x) → AddedOr s old new who was x
    → Did s old new who step ok r
passed_on s old new who was step ok (Ok y) x same is added = absurd is
passed_on s old new who was step ok (Err e) x same is added = subst (AddedOr s old new who step) (sym is) (subst (λ (z : Step). AddedOr s old new who z x) same added)

-- a step after a check that added nothing
pub took_from : {X : Type 0} (s : Start) (old mid new : List Moment) (source name : Bytes) (names : List Bytes) (moment : ℕ) (ok : X → Reply) (r : Result X StepRefusal) → mid ≡ old
    → (taken : Option CloneOf) × Did s mid new 0 (AskStep (Clone source name names moment taken)) ok r → (taken : Option CloneOf) × Did s old new 0 (AskStep (Clone source name names moment taken)) ok r
took_from s old mid new source name names moment ok r e h = (h.0, subst (λ (log : List Moment). Did s log new 0 (AskStep (Clone source name names moment h.0)) ok r) e h.1)

-- ---- the indices that it takes

pub chosen_from : {A E : Type 0} (s : Start) (log : List Moment) (uuid : ℕ) (all : List IndexRef) (names : List Bytes) (refs : A → List IndexRef) (result : Result A E) → HasIndices (formats_of s) (world_of s log) s.tells uuid all
    → AreApart all → IfOk result (λ x. refs x ≡ chosen_refs all names)
    → IfOk result (λ x. (all : List IndexRef) × HasIndices (formats_of s) (world_of s log) s.tells uuid all × AreApart all × (refs x ≡ chosen_refs all names))
chosen_from s log uuid all names refs (Ok x) has apart chosen = (all, has, apart, chosen)
chosen_from s log uuid all names refs (Err e) has apart chosen = tt
