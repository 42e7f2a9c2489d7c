-- What each step leaves, by the change that it is.
use Rattle.std.proofs.Common.{◌≡◌, ◌≢◌, ◌⊎◌, ℕ, zero, suc, ◌≤◌, List, true, false, Option, Some, refl, sym, ap, ◌∙◌, subst, inl, inr, nat_cmp, le_refl}
use Rattle.std.specs.Cmp.{nat_cmp_total}
use Rattle.std.proofs.lemmas.Bool.Decides.{eqb_tells}
use Rattle.std.specs.FinMap.{FinMap, nat_cmp-IsAntisymmetric}
use Rattle.std.proofs.lemmas.Option.{same_Some}
use Rattle.std.specs.FinMap as fin
use Rattle.esr_model.specs.Names.{BlobName}
use Rattle.esr_model.specs.Values.{Has, Formats}
use Rattle.esr_model.specs.Image.{Image}
use Rattle.esr_core.specs.World.{World, Ticket, Caller}
use Rattle.esr_core.specs.Entry.{Step, AskStep, LookStep, Reply, Moment}
use Rattle.esr_core.specs.After.{caller_after, answered, after}
use Rattle.esr_core.specs.Allowed.{Allowed}
use Rattle.esr_core.specs.Changes.{IsNewTicket, SameUnit, StepChange, NoChange, MergedDeletion, NewTicket, NewReader, OwnTicket, Settlement, UnitEnd, DeletionFailure, OpDrop, Election, ReaderFetch, ReaderEnd, PlainDraw, TestBlob, SwapFault, TicketsCome, TicketsStay, StepFrame, IsReaders, IsUnits, Maker, ClientStep, ReaderStep, UnitStep}
use Rattle.esr_core.specs.Laws.Asides.{blocked_stays}
use Rattle.esr_core.specs.Laws.ChangeLaws.{same_unit, over_unit, settled_unit, change_of, one_more as up}
use Rattle.esr_core.specs.Laws.Makers.{maker}
use Rattle.esr_core.specs.Laws.Maps.{get_same, get_other, get_was}
use Rattle.esr_model.specs.Lists.{Has-right}

-- all maps but its own place and the next stay
abbrev OthersStay : {X : Type 0} → World → ℕ → FinMap nat_cmp X → FinMap nat_cmp X → Type 0
OthersStay w who was now = (k : ℕ) → k ≢ who → k ≢ w.next_ticket → fin.get now k ≡ fin.get was k

others_same : {X : Type 0} (w : World) (who : ℕ) (m : FinMap nat_cmp X) → OthersStay w who m m
others_same w who m k a b = refl

others_put : {X : Type 0} (w : World) (who : ℕ) (m : FinMap nat_cmp X) (v : X) → OthersStay w who m (fin.insert m who v)
others_put w who m v k a b = get_other nat_cmp_total nat_cmp-IsAntisymmetric m who v k a

others_new : {X : Type 0} (w : World) (who : ℕ) (m : FinMap nat_cmp X) (v : X) → OthersStay w who m (fin.insert m w.next_ticket v)
others_new w who m v k a b = get_other nat_cmp_total nat_cmp-IsAntisymmetric m w.next_ticket v k b

record Kept (w : World) (who : ℕ) (now : FinMap nat_cmp Ticket) : Type 0 where
  others : OthersStay w who w.tickets now
  come : TicketsCome w now
  stay : TicketsStay w now

kept_same : (w : World) (who : ℕ) → Kept w who w.tickets
kept_same w who = record { others = others_same w who w.tickets; come = λ k v e. inl (v, e, same_unit v); stay = λ k t apart e. (t, e, same_unit t) }

kept_put : (w : World) (who : ℕ) (t v : Ticket) → fin.get w.tickets who ≡ Some t → SameUnit t v → Kept w who (fin.insert w.tickets who v)
kept_put w who t v there unit =
    record {
      others = others_put w who w.tickets v;
      come = λ k u e. elim (get_was nat_cmp_total nat_cmp-IsAntisymmetric w.tickets who v k u e) [
        | inl h ↦ inl (t, ap (fin.get w.tickets) h.0 ∙ there, subst (SameUnit t) h.1 unit)
        | inr h ↦ inl (u, h.1, same_unit u)
      ];
      stay = λ k x apart e. elim (eqb_tells k who) [
        | inl h ↦ (
          v,
          ap (fin.get (fin.insert w.tickets who v)) h.1 ∙ get_same nat_cmp_total nat_cmp-IsAntisymmetric w.tickets who v,
          subst (λ (y : Ticket). SameUnit y v) (same_Some t x (sym there ∙ ap (fin.get w.tickets) (sym h.1) ∙ e)) unit,
        )
        | inr h ↦ (x, get_other nat_cmp_total nat_cmp-IsAntisymmetric w.tickets who v k h.1 ∙ e, same_unit x)
      ];
    }

kept_new : (w : World) (who : ℕ) (t : Ticket) → IsNewTicket w t → Kept w who (fin.insert w.tickets w.next_ticket t)
kept_new w who t fresh =
    record {
      others = others_new w who w.tickets t;
      come = λ k u e. elim (get_was nat_cmp_total nat_cmp-IsAntisymmetric w.tickets w.next_ticket t k u e) [ inl h ↦ inr (h.0, subst (IsNewTicket w) h.1 fresh) | inr h ↦ inl (u, h.1, same_unit u) ];
      stay = λ k x apart e. (x, get_other nat_cmp_total nat_cmp-IsAntisymmetric w.tickets w.next_ticket t k apart ∙ e, same_unit x);
    }

module _ (f : Formats) (w : World) (who : ℕ) (step : Step) where
  -- neither the term nor the safe root changes
  quiet : (new : World) → Kept w who new.tickets → OthersStay w who w.readers new.readers → new.term ≡ w.term → new.safe ≡ w.safe → new.root ≡ w.root → w.next_op ≤ new.next_op → w.next_ticket ≤ new.next_ticket
      → w.pending ≤ new.pending
      → ((name : BlobName) → Has w.doomed name → Has new.doomed name) → StepFrame w new who step
  quiet new tickets readers term safe root next_op next_ticket pending doomed =
      record { others = tickets.others; readers = readers; come = tickets.come; stay = tickets.stay; term = inl term; root = inl (safe, root); next_op = next_op; next_ticket = next_ticket; pending = pending; doomed = doomed }

  put : (t v : Ticket) → fin.get w.tickets who ≡ Some t → SameUnit t v → (new : World) → new.tickets ≡ fin.insert w.tickets who v → new.readers ≡ w.readers → new.term ≡ w.term → new.safe ≡ w.safe → new.root ≡ w.root
      → w.next_op ≤ new.next_op
      → w.next_ticket ≤ new.next_ticket → w.pending ≤ new.pending → new.doomed ≡ w.doomed → StepFrame w new who step
  put t v there unit new tickets readers term safe root next_op next_ticket pending doomed =
      quiet new (subst (Kept w who) (sym tickets) (kept_put w who t v there unit)) (subst (OthersStay w who w.readers) (sym readers) (others_same w who w.readers)) term safe root next_op next_ticket pending
      (λ name h. subst (λ (names : List BlobName). Has names name) (sym doomed) h)

  frame : (new : World) → StepChange f w who step new → StepFrame w new who step
  frame new NoChange = quiet new (kept_same w who) (others_same w who w.readers) refl refl refl (le_refl w.next_op) (le_refl w.next_ticket) (le_refl w.pending) (λ name h. h)
  frame new (MergedDeletion ask ops d x v aborts there clean failed) = quiet new (kept_same w who) (others_same w who w.readers) refl refl refl (le_refl w.next_op) (le_refl w.next_ticket) (le_refl w.pending) (λ name h. h)
  frame new (NewTicket take t fresh ops same) = quiet new (kept_new w who t fresh) (others_same w who w.readers) refl refl refl (le_refl w.next_op) (up w.next_ticket) (le_refl w.pending) (λ name h. h)
  frame new (NewReader take o r s there) = quiet new (kept_same w who) (others_new w who w.readers _) refl refl refl (le_refl w.next_op) (up w.next_ticket) (le_refl w.pending) (λ name h. h)
  frame new (OwnTicket t v there unit settled next_id pending id_above above) = put t v there unit new refl refl refl refl refl (le_refl w.next_op) (le_refl w.next_ticket) above refl
  frame new (Settlement e t s n names deletes there is raised left) =
      let tickets = kept_put w who t (record t { settled = true }) there (settled_unit t) in
      record {
        others = tickets.others;
        readers = others_same w who w.readers;
        come = tickets.come;
        stay = tickets.stay;
        term = inl refl;
        root = inr e;
        next_op = le_refl w.next_op;
        next_ticket = le_refl w.next_ticket;
        pending = le_refl w.pending;
        doomed = λ name h. Has-right names w.doomed name h;
      }
  frame new (UnitEnd t op v completed there found same) = put t (record t { out = false }) there (over_unit t) new refl refl refl refl refl (le_refl w.next_op) (le_refl w.next_ticket) (le_refl w.pending) refl
  frame new (DeletionFailure t x there found) = put t (record t { out = false }) there (over_unit t) new refl refl refl refl refl (le_refl w.next_op) (le_refl w.next_ticket) (le_refl w.pending) refl
  frame new (OpDrop e t there) = put t (record t { out = false }) there (over_unit t) new refl refl refl refl refl (le_refl w.next_op) (le_refl w.next_ticket) (le_refl w.pending) refl
  frame new (Election e) =
      record {
        others = others_same w who w.tickets;
        readers = others_same w who w.readers;
        come = λ k v there. inl (v, there, same_unit v);
        stay = λ k t apart there. (t, there, same_unit t);
        term = inr e;
        root = inl (refl, refl);
        next_op = le_refl w.next_op;
        next_ticket = le_refl w.next_ticket;
        pending = le_refl w.pending;
        doomed = λ name h. h;
      }
  frame new (ReaderFetch q name bytes there) = quiet new (kept_same w who) (others_put w who w.readers _) refl refl refl (le_refl w.next_op) (le_refl w.next_ticket) (le_refl w.pending) (λ name h. h)
  frame new (ReaderEnd q r state there found) = quiet new (kept_same w who) (others_put w who w.readers _) refl refl refl (le_refl w.next_op) (le_refl w.next_ticket) (le_refl w.pending) (λ name h. h)
  frame new (PlainDraw next_id pending id_above above) = quiet new (kept_same w who) (others_same w who w.readers) refl refl refl (le_refl w.next_op) (le_refl w.next_ticket) above (λ name h. h)
  frame new (TestBlob name is) = quiet new (kept_same w who) (others_same w who w.readers) refl refl refl (le_refl w.next_op) (le_refl w.next_ticket) (le_refl w.pending) (λ m h. inr h)
  frame new (SwapFault e v h) =
      let s = frame v h in
      record { others = s.others; readers = s.readers; come = s.come; stay = s.stay; term = s.term; root = s.root; next_op = s.next_op; next_ticket = s.next_ticket; pending = s.pending; doomed = s.doomed }
  frame new other = quiet new (kept_same w who) (others_same w who w.readers) refl refl refl (up w.next_op) (le_refl w.next_ticket) (le_refl w.pending) (λ name h. h)

  -- what who 0 has done is told by the moment
  pub change_caller : (new : World) → StepChange f w who step new → new.caller ≡ w.caller
  change_caller new (SwapFault e v h) = change_caller v h
  change_caller new other = refl

-- of a moment
pub step_frame : (f : Formats) (w : World) (m : Moment) → StepFrame w (after f w m) m.entry.who m.entry.step
step_frame f w m =
    let s = frame f w m.entry.who m.entry.step _ (change_of f w m.entry.who m.entry.step m.entry.reply m.image) in
    record { others = s.others; readers = s.readers; come = s.come; stay = s.stay; term = s.term; root = s.root; next_op = s.next_op; next_ticket = s.next_ticket; pending = s.pending; doomed = s.doomed }

-- ---- what who 0 has done

-- a ticket's step leaves it
caller_kept : (f : Formats) (c : Caller) (who : ℕ) (step : Step) (reply : Reply) (image : Option Image) → who ≢ 0 → IsUnits step ⊎ IsReaders step → caller_after f c who step reply image ≡ c
caller_kept f c zero step reply image apart h = absurd (apart refl)
caller_kept f c (suc k) (AskStep command) reply image apart h = elim h [ inl x ↦ absurd x | inr x ↦ absurd x ]
caller_kept f c (suc k) LookStep reply image apart h = elim h [ inl x ↦ absurd x | inr x ↦ absurd x ]
caller_kept f c who step reply image apart h = refl

pub caller_stays : (f : Formats) (size : ℕ) (w : World) (m : Moment) → Allowed f size w m → m.entry.who ≢ 0 → (after f w m).caller ≡ w.caller
caller_stays f size w m a apart = elim (maker f size w m a) [
  | inl made ↦ by made
  | inr blocked ↦ ap (λ (x : World). x.caller) (blocked_stays f w m blocked)
]
  where
    before : (answered f w m.entry.who m.entry.step m.entry.reply m.image).caller ≡ w.caller
    before = change_caller f w m.entry.who m.entry.step _ (change_of f w m.entry.who m.entry.step m.entry.reply m.image)

    kept : IsUnits m.entry.step ⊎ IsReaders m.entry.step → (after f w m).caller ≡ w.caller
    kept h = caller_kept f (answered f w m.entry.who m.entry.step m.entry.reply m.image).caller m.entry.who m.entry.step m.entry.reply m.image apart h ∙ before

    by : Maker w m.entry.who m.entry.step → (after f w m).caller ≡ w.caller
    by (ClientStep who own) = absurd (apart who)
    by (ReaderStep q reading own) = kept (inr own)
    by (UnitStep t out own) = kept (inl own)
