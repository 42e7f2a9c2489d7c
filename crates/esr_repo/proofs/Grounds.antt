-- Why the last step of a history was refused.
use Rattle.std.proofs.Common.{◌≡◌, ℕ, ◌≤◌, ◌^◌, Bool, true, false, List, [], ◌∷◌, ◌++◌, length, Option, Some, None, refl, sym, ap, ◌∙◌, subst, inl, inr}
use Rattle.std.specs.FinMap as fin
use Rattle.esr_model.specs.Values.{Formats}
use Rattle.esr_core.specs.World.{World, Ticket, Reader}
use Rattle.esr_core.specs.Entry.{Step, AbortedBy, Refusal, Refused, Moment}
use Rattle.esr_core.specs.After.{after}
use Rattle.esr_core.specs.Allowed.{Allowed, IsAborted, Blocks, ByDelete}
use Rattle.esr_core.specs.History.{world_from, IsLegal}
use Rattle.esr_core.specs.Refusing.{MayRefuse, RefusedSo, ByRule}
use Rattle.esr_core.specs.ReadTracked.{ReadTracked}
use Rattle.esr_desk.specs.declared.refusal.EntryRefusal.{EntryRefusal}
use Rattle.esr_desk.specs.declared.refusal.StepRefusal.TheVariants as steps
use Rattle.esr_desk.specs.Refusals.{refusal_of}
use Rattle.esr_desk.specs.Start.{Start, formats_of, world_of, Legal, or_no_ticket, ticket_of}
use Rattle.esr_desk.specs.Own.{or_no_reader}
use Rattle.esr_desk.specs.Outcome.{IsOfOp, Grounds}
use Rattle.esr_desk.specs.Last.{IsLast}
use Rattle.esr_desk.specs.Evidence.{NeverFailed}
use Rattle.esr_desk.specs.Unquiet.{unquiet_last, quiet_grounds}
use Rattle.esr_repo.specs.Grown.{world_step}
use Rattle.esr_repo.specs.Tickets.{AreOfOps}
use Rattle.esr_core.specs.Laws.Rules.{never_rule}

-- how steps are refused
abbrev pub Refuses : Type 0
Refuses = (f : Formats) (size : ℕ) (w : World) (m : Moment) (refusal : Refusal) → Allowed f size w m → m.entry.reply ≡ Refused refusal → RefusedSo w m.entry.who m.entry.step refusal

at : (f : Formats) (size : ℕ) (front back : List Moment) (w : World) (m : Moment) → IsLegal f size w (front ++ m ∷ back) → Allowed f size (world_from f w front) m
at f size [] back w m legal = legal.0
at f size (x ∷ front) back w m legal = at f size front back (after f w x) m legal.1

no_rule : (step : Step) (by : ℕ) → MayRefuse step (AbortedBy by) → ⊥
no_rule step by (ByRule command refusal rule) = never_rule command (AbortedBy by) refl rule

of_block : (w : World) (who : ℕ) (step : Step) (by : ℕ) → Blocks w who step (AbortedBy by) → IsAborted w who step by
of_block w who step by (ByDelete op alive aborted) = aborted

by_delete : (w : World) (who : ℕ) (step : Step) (by : ℕ) → RefusedSo w who step (AbortedBy by) → IsAborted w who step by
by_delete w who step by (inl block) = of_block w who step by block
by_delete w who step by (inr may) = absurd (no_rule step by may)

-- such a refusal leaves tickets and ops
moved : (f : Formats) (w : World) (m : Moment) (by : ℕ) → m.entry.reply ≡ Refused (AbortedBy by) → IsAborted w m.entry.who m.entry.step by → IsAborted (after f w m) m.entry.who m.entry.step by
moved f w m by is x = subst (λ (v : World). IsAborted v m.entry.who m.entry.step by) (sym same) here
  where
    still : World
    still = after f w (record { entry = record { who = m.entry.who; step = m.entry.step; reply = Refused (AbortedBy by) }; image = m.image })

    same : after f w m ≡ still
    same = λ j. after f w (record { entry = record { who = m.entry.who; step = m.entry.step; reply = is j }; image = m.image })

    here : IsAborted still m.entry.who m.entry.step by
    here = record { t = x.t; out = record { there = x.out.there; out = x.out.out }; op = x.op; op_there = x.op_there; by_is = x.by_is; no_drop = x.no_drop; no_failure = x.no_failure }

-- its ticket is that of a shard or a finalization
of_op : (s : Start) (log : List Moment) (who : ℕ) (step : Step) (by : ℕ) → AreOfOps (world_of s log) → ReadTracked (world_of s log) → IsAborted (world_of s log) who step by → IsOfOp s log who
of_op s log who step by of_ops reads x =
    let is : ticket_of s log who ≡ x.t = ap or_no_ticket x.out.there in
    record {
      ticket = of_ops.some who x.t x.out.there;
      out = ap (λ (t : Ticket). t.out) is ∙ x.out.out;
      unsettled = unsettled x.t.settled refl (ap (λ (t : Ticket). t.settled) is);
      no_drop = λ drop. x.no_drop (sym (ap (λ (t : Ticket). t.work) is) ∙ drop);
      no_delete = λ uuids plan work. of_ops.apart who x.t uuids plan x.op x.out.there (sym (ap (λ (t : Ticket). t.work) is) ∙ work) x.op_there;
      no_reader = no_reader (fin.get (world_of s log).readers who) refl;
    }
  where
    unsettled : (b : Bool) → x.t.settled ≡ b → (ticket_of s log who).settled ≡ x.t.settled → (ticket_of s log who).settled ≡ false
    unsettled true settled is = absurd (of_ops.over who x.t x.op x.out.there settled x.op_there)
    unsettled false settled is = is ∙ settled

    no_reader : (o : Option Reader) → fin.get (world_of s log).readers who ≡ o → (or_no_reader o).out ≡ false
    no_reader None e = refl
    no_reader (Some q) e = absurd (reads.apart.tickets who q x.t e x.out.there)

pub grounds_of : (s : Start) (log : List Moment) → Refuses → Legal s log → (s.quiet ≡ true → length log ≤ 2 ^ 41 → NeverFailed log) → AreOfOps (world_of s log) → ReadTracked (world_of s log)
    → (who : ℕ) (step : Step) (refusal : EntryRefusal) → length log ≤ 2 ^ 41
    → IsLast log who step (Refused (refusal_of refusal)) → Grounds s log who (steps.Refused refusal)
grounds_of s log refuses legal calm of_ops reads who step refusal few last =
    quiet_grounds s log who refusal
    (λ is. unquiet_last s.quiet log who step (λ quiet. calm quiet few) (subst (λ (x : EntryRefusal). IsLast log who step (Refused (refusal_of x))) is last))
    (λ by is. aborted by (subst (λ (x : EntryRefusal). IsLast log who step (Refused (refusal_of x))) is last))
  where
    aborted : (by : ℕ) → IsLast log who step (Refused (AbortedBy by)) → IsOfOp s log who
    aborted by l =
        let m : Moment = record { entry = record { who = who; step = step; reply = Refused (AbortedBy by) }; image = l.image } in
        let f = formats_of s in
        let w : World = world_of s l.front in
        let a : Allowed f s.part_size w m = at f s.part_size l.front [] s.world m (subst (Legal s) l.is legal) in
        let now : world_of s log ≡ after f w m = ap (world_of s) l.is ∙ world_step s l.front m in
        of_op s log who step by of_ops reads (subst (λ (v : World). IsAborted v who step by) (sym now) (moved f w m by refl (by_delete w who step by (refuses f s.part_size w m (AbortedBy by) a refl))))
