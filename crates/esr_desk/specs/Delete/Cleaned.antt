-- What the removals of a cleanup's ticket took away, and what shows that it is over.
use Rattle.std.specs.Prelude.{◌≡◌, ℕ, ◌≤◌, true, false, List, [], ◌∷◌}
use Rattle.std.proofs.Common.{refl, sym, ap, ◌∙◌, subst, inl, inr, ⊎_elim}
use Rattle.esr_model.specs.Names.{BlobName}
use Rattle.esr_model.specs.Values.{Has}
use Rattle.esr_core.specs.World.{Ticket}
use Rattle.esr_core.specs.Entry.{Step, LatestStep, DroppedStep, PruneStep, RemoveDoomed, Reply, WasReplaced, WasRemoved, HasEnded, Entry, Moment}
use Rattle.esr_core.specs.Past.{batch_gone, gone_names, IsRemoval}
use Rattle.esr_core.specs.Allowed.{HasPutLatest}
use Rattle.esr_core.specs.Pruning.{dooms}
use Rattle.esr_desk.specs.Start.{Start, formats_of, ticket_of, world_of}
use Rattle.esr_desk.specs.Own.{Own, made_of}
use Rattle.esr_desk.specs.Outcome.{Stepped}
use Rattle.esr_desk.specs.Last.{IsLast}
use Rattle.esr_desk.specs.Made.{waited_made, stepped_entry, kept_made, own_made, ticket_stays}
use Rattle.esr_desk.specs.Told.{TellsAll, none_removed}
use Rattle.esr_desk.specs.Delete.Conditions.{CanEndCleanup}
use Rattle.esr_desk.specs.Delete.Named.{has_front, has_back, has_either}

-- removals of the ticket that were answered Ok have named each of these
abbrev pub AreGone : Start → List Moment → ℕ → List BlobName → Type 0
AreGone s log who names = (name : BlobName) → Has names name → Has (gone_names (made_of s log who)) name

-- each removal of the ticket was answered Ok
abbrev pub NoneFailed : Start → List Moment → ℕ → Type 0
NoneFailed s log who = (e : Entry) → Has (made_of s log who) e → IsRemoval e.step → e.reply ≡ WasRemoved

-- The drop of the op of a cleanup's ticket was its last step. Before it the ticket had replaced `index.latest`, and its removals had
-- taken away all that it dooms, where the container tells.
pub record HasCleaned (s : Start) (log : List Moment) (who : ℕ) : Type 0 where
  pub last : IsLast log who DroppedStep HasEnded
  pub latest : HasPutLatest (world_of s last.front) who
  pub removals : NoneFailed s last.front who
  pub gone : s.tells ≡ true → AreGone s last.front who (dooms (formats_of s) (ticket_of s last.front who))

-- ---- entries

-- a name of a removal that was answered Ok is gone
gone_by : (entries : List Entry) (e : Entry) (name : BlobName) → Has entries e → Has (batch_gone e.step e.reply) name → Has (gone_names entries) name
gone_by [] e name has of = absurd has
gone_by (x ∷ entries) e name (inl same) of = has_front (batch_gone x.step x.reply) (gone_names entries) name (subst (λ (y : Entry). Has (batch_gone y.step y.reply) name) (sym same) of)
gone_by (x ∷ entries) e name (inr has) of = has_back (batch_gone x.step x.reply) (gone_names entries) name (gone_by entries e name has of)

-- what is gone stands in such a removal
removal_of : (entries : List Entry) (name : BlobName) → Has (gone_names entries) name → (e : Entry) × Has entries e × Has (batch_gone e.step e.reply) name
removal_of [] name h = absurd h
removal_of (x ∷ entries) name h = ⊎_elim
    (λ (here : Has (batch_gone x.step x.reply) name). (x, inl refl, here))
    (λ (later : Has (gone_names entries) name). let found = removal_of entries name later in (found.0, inr found.1, found.2))
    (has_either (batch_gone x.step x.reply) (gone_names entries) name h)

removal_is : (step : Step) → IsRemoval step → (names : List BlobName) × (step ≡ PruneStep (RemoveDoomed names))
removal_is (PruneStep (RemoveDoomed names)) is = (names, refl)
removal_is step is = absurd is

-- ---- removals

-- what a removal names that is answered Ok is gone
pub removal_gone : (s : Start) (old new : List Moment) (who : ℕ) (names : List BlobName) → 1 ≤ who → Stepped s old new who (PruneStep (RemoveDoomed names)) WasRemoved → AreGone s new who names
removal_gone s old new who names ticket h name has =
    gone_by (made_of s new who) (record { who = who; step = PruneStep (RemoveDoomed names); reply = WasRemoved }) name
    (own_made s old new who (PruneStep (RemoveDoomed names)) WasRemoved refl (ticket_stays who (PruneStep (RemoveDoomed names)) ticket) h) has

-- what was gone before stays gone, whatever the ticket does next
pub still_gone : (s : Start) (old new : List Moment) (who : ℕ) (step : Step) (reply : Reply) → 1 ≤ who → Stepped s old new who step reply → AreGone s new who (gone_names (made_of s old who))
still_gone s old new who step reply ticket h name has =
    let found = removal_of (made_of s old who) name has in
    gone_by (made_of s new who) found.0 name (kept_made s old new who step reply ticket (ticket_stays who step ticket) h found.0 found.1) found.2

-- a ticket that hasn't settled has removed nothing
pub none_failed_yet : (s : Start) (log : List Moment) (who : ℕ) → TellsAll s log who → (ticket_of s log who).settled ≡ false → NoneFailed s log who
none_failed_yet s log who tells unsettled e has is = let removal = removal_is e.step is in absurd (none_removed s log who e removal.0 tells unsettled has removal.1)

-- no removal has failed where its step is none, or is answered Ok
pub none_failed_on : (s : Start) (old new : List Moment) (who : ℕ) (step : Step) (reply : Reply) → 1 ≤ who → NoneFailed s old who → (IsRemoval step → reply ≡ WasRemoved) → Stepped s old new who step reply → NoneFailed s new who
none_failed_on s old new who step reply ticket none well h e has is =
    let last : Entry = record { who = who; step = step; reply = reply } in
    ⊎_elim
    (λ (before : Has (made_of s old who) e). none e before is)
    (λ (here : e ≡ last). ap (λ (x : Entry). x.reply) here ∙ well (subst (λ (x : Entry). IsRemoval x.step) here is))
    (stepped_entry s old new who step reply ticket h e has)

-- ---- `index.latest`

pub latest_put : (s : Start) (old new : List Moment) (who : ℕ) → 1 ≤ who → Stepped s old new who LatestStep WasReplaced → HasPutLatest (world_of s new) who
latest_put s old new who ticket h = record {
  entry = record { who = who; step = LatestStep; reply = WasReplaced };
  there = own_made s old new who LatestStep WasReplaced refl (ticket_stays who LatestStep ticket) h;
  step_is = refl;
  reply_is = refl;
}

pub still_put : (s : Start) (old new : List Moment) (who : ℕ) (step : Step) (reply : Reply) → 1 ≤ who → HasPutLatest (world_of s old) who → Stepped s old new who step reply → HasPutLatest (world_of s new) who
still_put s old new who step reply ticket put h = record {
  entry = put.entry;
  there = kept_made s old new who step reply ticket (ticket_stays who step ticket) h put.entry put.there;
  step_is = put.step_is;
  reply_is = put.reply_is;
}

-- ---- it is over

-- as a cleanup's ticket ends all is gone, whatever others did meanwhile
pub ended_cleaned : (s : Start) (old new : List Moment) (who : ℕ) → 1 ≤ who → CanEndCleanup s old who → Stepped s old new who DroppedStep HasEnded → HasCleaned s new who
ended_cleaned s old new who ticket may h =
    let own : ticket_of s old who ≡ ticket_of s h.front who = ap (λ (o : Own). o.ticket) (sym (h.waited.alone ticket)) in
    let made : made_of s old who ≡ made_of s h.front who = sym (waited_made s old h.front who ticket h.waited) in
    record {
      last = record { front = h.front; image = h.image; is = h.is };
      latest = record {
        entry = may.latest.entry;
        there = subst (λ (entries : List Entry). Has entries may.latest.entry) made may.latest.there;
        step_is = may.latest.step_is;
        reply_is = may.latest.reply_is;
      };
      removals = λ e has is. may.removals e (subst (λ (entries : List Entry). Has entries e) (sym made) has) is;
      gone = λ tells name doomed. subst (λ (entries : List Entry). Has (gone_names entries) name) made
          (may.removed tells name (subst (λ (t : Ticket). Has (dooms (formats_of s) t) name) (sym own) doomed));
    }
