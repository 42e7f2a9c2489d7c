-- Only a rule of accepting refuses a step where each world of the history is free, or its term a stale ticket's swap.
use Rattle.std.proofs.Common.{◌≡◌, ◌≢◌, ◌⊎◌, ℕ, true≢false, List, ◌∷◌, ◌++◌, Option, Some, refl, sym, ap, ◌∙◌, subst, inl, inr}
use Rattle.std.specs.FinMap as fin
use Rattle.esr_model.specs.Names.{BlobName}
use Rattle.esr_model.specs.Values.{Has, Formats}
use Rattle.esr_model.specs.Image.{Image, Present}
use Rattle.esr_core.specs.World.{World, Ticket}
use Rattle.esr_core.specs.Steps.{IsOut}
use Rattle.esr_core.specs.Entry.{Asked, Cleanup, Read, CommitTest, Prune, SettlePruned, Step, AskStep, CommitStep, RaiseStep, SettleStep, DroppedStep, ReadStep, PruneStep, StaleTerm, Refusal, Reply, Refused, DepotFault, Moment}
use Rattle.esr_core.specs.Allowed as allowed
use Rattle.esr_core.specs.Allowed.{Told, IsMetadata, ReadAllows, ReadFault, VerifyAllows, TestSpent, BeginTestFails, TestTaken, CommitTestFails, RemoveTestsFails, PruneAllows, FetchShardFails, PlanSpent, SettleDeleteStale, SettleDeleteFails, RemoveDoomedFails, Allows, RefusedBy}
use Rattle.esr_desk.specs.Start.{Start, formats_of, world_of, or_no_ticket}
use Rattle.esr_quiet.specs.Free.{Free}
use Rattle.esr_quiet.specs.Smooth.{IsSpent, IsSmooth}
use Rattle.esr_quiet.specs.Refusals.{HasAskedCleanup, IsOfCleanup, IsOfRule, IsSwapStep, IsOfTerm, AreByRule}
use Rattle.esr_quiet.specs.Prefixes.{Prefixes}
use Rattle.esr_quiet.specs.PrefixLaws.{place_of, has_at, quiet_at, legal_at, smooth_front}
use Rattle.esr_quiet.proofs.Prefixes.{told_at}
use Rattle.esr_quiet.specs.Askers.{AsksOrElects, asker}
use Rattle.esr_quiet.proofs.Terms.{stale_or_present}
use Rattle.esr_quiet.specs.QuietWorlds.{IsQuiet}
use Rattle.esr_quiet.proofs.FreeCommits.{taken}
use Rattle.esr_quiet.proofs.Unaborted.{none_blocked}
use Rattle.esr_core.specs.Refusing.{IsByRule}
use Rattle.esr_core.specs.Laws.Rules.{of_cleanup}

-- ---- each refusal

-- by a rule, after these moments
abbrev OfRule : List Moment → Step → Refusal → Type 0
OfRule log step refusal = (of : (command : Asked) × (step ≡ AskStep command)) × IsByRule of.0 refusal × IsOfCleanup log refusal

-- or of a ticket of an older term
record OfTerm (w : World) (who : ℕ) (step : Step) (refusal : Refusal) : Type 0 where
  own : ℕ
  now : ℕ
  is : refusal ≡ StaleTerm own now
  swaps : IsSwapStep step
  t : Ticket
  there : fin.get w.tickets who ≡ Some t
  older : t.term ≢ w.term

abbrev IsRuled : List Moment → World → ℕ → Step → Reply → Type 0
IsRuled log w who step (Refused refusal) = OfRule log step refusal ⊎ OfTerm w who step refusal
IsRuled log w who step reply = Unit {0}

-- who 0 asks where no ticket is out
abbrev AsksApart : World → Step → Type 0
AsksApart w step = (command : Asked) (k : ℕ) (t : Ticket) → step ≡ AskStep command → IsOut w k t → ⊥

-- a name is committed that its ticket has not noted
abbrev IsNew : World → ℕ → Step → Type 0
IsNew w who step = (name : BlobName) (t : Ticket) → step ≡ CommitStep name → fin.get w.tickets who ≡ Some t → (IsMetadata name → ⊥) → Has t.noted name → ⊥

-- and a test blob that who 0 has not committed
abbrev IsNewTest : World → Step → Type 0
IsNewTest w step = (name : BlobName) → step ≡ ReadStep (CommitTest name) → Has w.caller.committed name → ⊥

module _ (s : Start) (log : List Moment) (f : Formats) (size : ℕ) (w : World) (q : IsQuiet s (HasAskedCleanup log) w) (free : Free f w) where
  found : (name : BlobName) (image : Option Image) (i : Image) → image ≡ Some i → Told image (λ blobs. Present f w.blobs name × (blobs ≡ w.blobs)) → Present f w.blobs name
  found name image i is told = (subst (λ (im : Option Image). Told im (λ blobs. Present f w.blobs name × (blobs ≡ w.blobs))) is told).0

  -- a swap of a stale ticket is refused
  of_term : (k : ℕ) (t : Ticket) (step : Step) → IsOut w k t → t.term ≢ w.term → IsSwapStep step → IsRuled log w k step (Refused (StaleTerm t.term w.term))
  of_term k t step out older swaps = inr (record { own = t.term; now = w.term; is = refl; swaps = swaps; t = t; there = out.there; older = older })

  -- a rule refuses that is none of ids, nor of tickets that are out; a cleanup that runs was asked
  rules : (command : Asked) (refusal : Refusal) → (IsSpent (Refused refusal) → ⊥) → AsksApart w (AskStep command) → RefusedBy w command refusal → OfRule log (AskStep command) refusal
  rules command refusal unspent aside (allowed.Cleaning c d x recorded untaken there clean) = ((c, refl), of_cleanup c d recorded, q.cleanups d x there clean)
  rules command refusal unspent aside (allowed.AskSpent name indices moment clear unused room spent) = absurd (unspent tt)
  rules command refusal unspent aside (allowed.CloneSpent source name names moment uuid may room spent) = absurd (unspent tt)
  rules command refusal unspent aside (allowed.TicketStands k none lowest) = absurd (aside Cleanup k lowest.0.0 refl lowest.0.1)
  rules command refusal unspent aside other = ((command, refl), tt, tt)

  reads : (k : ℕ) (read : Read) (reply : Reply) (image : Option Image) → (reply ≢ Refused DepotFault) → ReadAllows f w k read reply image → IsRuled log w k (ReadStep read) reply
  reads k read reply image calm (ReadFault j name im stored by) = absurd (calm refl)
  reads k read reply image calm other = tt

  prunes : (k : ℕ) (prune : Prune) (reply : Reply) (image : Option Image) → (reply ≢ Refused DepotFault) → (IsSpent reply → ⊥) → PruneAllows f w k prune reply image → IsRuled log w k (PruneStep prune) reply
  prunes k prune reply image calm unspent (FetchShardFails j name im g same) = absurd (calm refl)
  prunes k prune reply image calm unspent (PlanSpent j shards im p spent same) = absurd (unspent tt)
  prunes k prune reply image calm unspent (SettleDeleteStale j im x apart same) = of_term j x.t (PruneStep SettlePruned) x.may.out apart tt
  prunes k prune reply image calm unspent (SettleDeleteFails j im x now same) = absurd (calm refl)
  prunes k prune reply image calm unspent (RemoveDoomedFails j names im r removed) = absurd (calm refl)
  prunes k prune reply image calm unspent other = tt

  -- a test blob that is there is one that who 0 committed
  verifies : (read : Read) (reply : Reply) (image : Option Image) (i : Image) → image ≡ Some i → (reply ≢ Refused DepotFault) → (IsSpent reply → ⊥) → IsNewTest w (ReadStep read) → VerifyAllows f w read reply image
      → IsRuled log w 0 (ReadStep read) reply
  verifies read reply image i told calm unspent new (TestSpent im idle spent same) = absurd (unspent tt)
  verifies read reply image i told calm unspent new (BeginTestFails name im own same) = absurd (calm refl)
  verifies read reply image i told calm unspent new (TestTaken name im own there) = absurd (new name refl (free.tests own.id name own.drawn own.test (found name im i told there)))
  verifies read reply image i told calm unspent new (CommitTestFails name bytes im own leaves) = absurd (calm refl)
  verifies read reply image i told calm unspent new (RemoveTestsFails names im may left) = absurd (calm refl)
  verifies read reply image i told calm unspent new other = tt

  ruled : (who : ℕ) (step : Step) (reply : Reply) (image : Option Image) (i : Image) → image ≡ Some i → (reply ≢ Refused DepotFault) → (IsSpent reply → ⊥) → IsNew w who step → IsNewTest w step → AsksApart w step
      → Allows f size w who step reply image → IsRuled log w who step reply
  ruled who step reply image i told calm unspent new new_test apart_ask (allowed.Reading k read rep im h same) = reads k read rep im calm h
  ruled who step reply image i told calm unspent new new_test apart_ask (allowed.Verifying read rep im h) = verifies read rep im i told calm unspent new_test h
  ruled who step reply image i told calm unspent new new_test apart_ask (allowed.Pruning k prune rep im h) = prunes k prune rep im calm unspent h
  ruled who step reply image i told calm unspent new new_test apart_ask (allowed.Ruled command refusal im rule same) = inl (rules command refusal unspent apart_ask rule)
  ruled who step reply image i told calm unspent new new_test apart_ask (allowed.DrawSpent k n im may spent same) = absurd (unspent tt)
  ruled who step reply image i told calm unspent new new_test apart_ask (allowed.RaiseStale k im may apart same) = of_term k may.t RaiseStep may.out apart tt
  ruled who step reply image i told calm unspent new new_test apart_ask (allowed.SettleStale k n t swapped im may apart same) = of_term k t SettleStep may.out apart tt
  ruled who step reply image i told calm unspent new new_test apart_ask (allowed.DropStale k im may apart same) = of_term k may.t DroppedStep may.out apart tt
  ruled who step reply image i told calm unspent new new_test apart_ask (allowed.RaiseSpent k im may now spent same) = absurd (unspent tt)
  ruled who step reply image i told calm unspent new new_test apart_ask (allowed.ElectSpent im spent same) = absurd (unspent tt)
  ruled who step reply image i told calm unspent new new_test apart_ask (allowed.Taken k name im c aside there) = absurd (taken f w free size k name c aside (found name im i told there) (new name c.t refl c.out.there aside))
  ruled who step reply image i told calm unspent new new_test apart_ask (allowed.BeginFails k name im c same) = absurd (calm refl)
  ruled who step reply image i told calm unspent new new_test apart_ask (allowed.BeginLatestFails k im c same) = absurd (calm refl)
  ruled who step reply image i told calm unspent new new_test apart_ask (allowed.CommitFails k name im c leaves) = absurd (calm refl)
  ruled who step reply image i told calm unspent new new_test apart_ask (allowed.ReplaceFails k im c named puts) = absurd (calm refl)
  ruled who step reply image i told calm unspent new new_test apart_ask (allowed.FetchFails k name im g same) = absurd (calm refl)
  ruled who step reply image i told calm unspent new new_test apart_ask (allowed.ListFails k from im g same) = absurd (calm refl)
  ruled who step reply image i told calm unspent new new_test apart_ask (allowed.AskFails name indices moment im acc same) = absurd (calm refl)
  ruled who step reply image i told calm unspent new new_test apart_ask (allowed.AskCloneFails source name names moment taken im acc same) = absurd (calm refl)
  ruled who step reply image i told calm unspent new new_test apart_ask (allowed.AskDeleteFails names im acc same) = absurd (calm refl)
  ruled who step reply image i told calm unspent new new_test apart_ask (allowed.AskCleanupFails im acc same) = absurd (calm refl)
  ruled who step reply image i told calm unspent new new_test apart_ask (allowed.RaiseFails k im r same) = absurd (calm refl)
  ruled who step reply image i told calm unspent new new_test apart_ask (allowed.SettleFails k im x same) = absurd (calm refl)
  ruled who step reply image i told calm unspent new new_test apart_ask (allowed.DropFails k im c same) = absurd (calm refl)
  ruled who step reply image i told calm unspent new new_test apart_ask (allowed.ElectFails im room same) = absurd (calm refl)
  ruled who step reply image i told calm unspent new new_test apart_ask a = tt

-- ---- of a history

-- what refuses in the world after a history
module _ (s : Start) (log : List Moment) (smooth : IsSmooth s log) (prefixes : Prefixes s log) where
  refused_in : (front back : List Moment) (m : Moment) (refusal : Refusal) → log ≡ front ++ m ∷ back → IsRuled front (world_of s front) m.entry.who m.entry.step (Refused refusal) → IsOfRule front m refusal ⊎ IsOfTerm s front m refusal
  refused_in front back m refusal is (inl rule) = inl rule
  refused_in front back m refusal is (inr old) =
      let before = smooth_front s log smooth front (m ∷ back) is in
      inr (record {
        own = old.own;
        now = old.now;
        is = old.is;
        swaps = old.swaps;
        stale = elim (stale_or_present s front before.image before.opened before.legal m.entry.who old.t old.there) [ inl same ↦ absurd (old.older same) | inr stale ↦ stale ];
      })

  apart_at : (front back : List Moment) (m : Moment) → log ≡ front ++ m ∷ back → AsksApart (world_of s front) m.entry.step
  apart_at front back m is command k t step out = elim (asker (formats_of s) s.part_size (world_of s front) m (legal_at s log smooth front back m is) (subst AsksOrElects (sym step) tt)) [
    | inl who ↦ true≢false (sym out.out ∙ sym (ap (λ (o : Option Ticket). (or_no_ticket o).out) out.there) ∙ smooth.apart front back m command is who step k)
    | inr dead ↦ none_blocked s log smooth prefixes front (m ∷ back) is m.entry.who m.entry.step dead.refusal dead.blocks
  ]

  pub by_rule : AreByRule s log
  by_rule front back m refusal is reply =
      let f : Formats = formats_of s in
      let w : World = world_of s front in
      let q : IsQuiet s (HasAskedCleanup front) w = quiet_at s log smooth front (m ∷ back) is in
      let has : Has log m = subst (λ (l : List Moment). Has l m) (sym is) (has_at front back m) in
      let told = told_at log m smooth.told has in
      let new : IsNew w m.entry.who m.entry.step = λ name t step there aside noted.
      smooth.once front back m name is step aside (subst (λ (x : Ticket). Has x.noted name) (sym (ap or_no_ticket there)) noted) in
      let new_test : IsNewTest w m.entry.step = λ name step committed. (smooth.tested front back m name is step).once committed in
      elim (legal_at s log smooth front back m is).answered [
        | inl alive ↦
            refused_in front back m refusal is
            (subst (IsRuled front w m.entry.who m.entry.step) reply
            (ruled s front f s.part_size w q (prefixes.free front (m ∷ back) is) m.entry.who m.entry.step m.entry.reply m.image told.0 told.1 (smooth.calm m has) (smooth.unspent m has) new new_test (apart_at front back m is) alive.1))
        | inr dead ↦ absurd (none_blocked s log smooth prefixes front (m ∷ back) is m.entry.who m.entry.step dead.refusal dead.blocks)
      ]

  -- so of a refusal that isn't of a term the command is told
  pub ruled_at : (m : Moment) (refusal : Refusal) → Has log m → m.entry.reply ≡ Refused refusal → ((own now : ℕ) → refusal ≡ StaleTerm own now → ⊥) → (command : Asked) × IsByRule command refusal
  ruled_at m refusal has reply other =
      let p = place_of log m has in
      elim (by_rule p.front p.back m refusal p.is reply) [ inl rule ↦ (rule.0.0, rule.1) | inr old ↦ absurd (other old.own old.now old.is) ]
