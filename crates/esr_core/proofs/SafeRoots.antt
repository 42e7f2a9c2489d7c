-- Over any container no step takes the safe root back, by the order of generations alone; so a settle that was answered stays.
use Rattle.std.proofs.Common.{◌≡◌, ◌⊎◌, ℕ, suc, ◌≤◌, List, [], ◌∷◌, ◌++◌, Bool, true, false, true≢false, Option, Some, refl, sym, ap, ◌∙◌, subst, inl, inr, arith}
use Rattle.std.specs.Prelude.{if◌then◌else◌}
use Rattle.std.specs.FinMap as fin
use Rattle.std.proofs.lemmas.Option.{same_Some}
use Rattle.esr_model.specs.Values.{ClusterRecord, ReadsBack, Formats}
use Rattle.esr_model.specs.Image.{Image}
use Rattle.esr_core.specs.World.{World, Ticket, record_of}
use Rattle.esr_core.specs.Entry.{Step, AskStep, RaiseStep, SettleStep, DroppedStep, ElectStep, DepotFault, Reply, WasSettled, Refused, Moment, SettlePruned, PruneStep}
use Rattle.esr_core.specs.Entry as entry
use Rattle.esr_core.specs.After.{swaps_record, raised, settled_of, has_text, done_step, answered, after, delete_settled}
use Rattle.esr_core.specs.Allowed as allowed
use Rattle.esr_core.specs.Allowed.{Settles, SettlesDeletion, PruneAllows, Allows, Allowed}
use Rattle.esr_core.specs.History.{world_from, IsLegal, is_settle}
use Rattle.esr_core.specs.Left.{cut_off, Leaves, safe_in}
use Rattle.esr_core.specs.Ranked.{Ranked}
use Rattle.esr_core.specs.Tracked.{Tracked}
use Rattle.esr_core.specs.Laws.Moments.{moment, settled_plain, delete_settled_plain}
use Rattle.esr_core.specs.Laws.Asides.{blocked_stays}
use Rattle.esr_core.specs.Laws.Histories.{legal_parts}
use Rattle.esr_core.proofs.Recording.{record_stays}
use Rattle.esr_core.proofs.TrackingSteps.{tracked_step, tracked_history}
use Rattle.esr_core.proofs.Ranking.{ranked_step, ranked_history}
use Rattle.esr_core.proofs.Left.{given_safe, dropped_safe, fault_safe, safe_now, safe_cut, which, no_answer, settled_safe, allows_pruned, asked_safe}

-- ---- a step that swaps the record and is no settle leaves the safe root

done_safe : (f : Formats) (w : World) (k : ℕ) (step : Step) (reply : Reply) (image : Option Image) → swaps_record step ≡ true → is_settle step ≡ false → (done_step f w k step reply image).safe ≡ w.safe
done_safe f w k (AskStep (entry.Restore name place)) reply image s e = absurd (true≢false (sym s))
done_safe f w k (AskStep command) reply image s e = asked_safe w command
done_safe f w k RaiseStep reply image s e = given_safe w k (λ t. record t { raised = Some w.pending }) (fin.get w.tickets k)
done_safe f w k SettleStep reply image s e = absurd (true≢false e)
done_safe f w k DroppedStep reply image s e = dropped_safe w k (fin.get w.tickets k)
done_safe f w k ElectStep reply image s e = refl
done_safe f w k (PruneStep SettlePruned) reply image s e = absurd (true≢false e)
done_safe f w k step reply image s e = absurd (true≢false (sym s))

answered_safe : (f : Formats) (w : World) (k : ℕ) (step : Step) (reply : Reply) (image : Option Image) → swaps_record step ≡ true → is_settle step ≡ false → (answered f w k step reply image).safe ≡ w.safe
answered_safe f w k step (Refused DepotFault) image s e = fault_safe f w k step image e
answered_safe f w k step (Refused refusal) image s e = refl
answered_safe f w k step reply image s e = done_safe f w k step reply image s e

pub by_record : (f : Formats) (w : World) (m : Moment) (swaps : Bool) → swaps_record m.entry.step ≡ swaps → is_settle m.entry.step ≡ false → (after f w m).safe ≡ w.safe
by_record f w m true s e = answered_safe f w m.entry.who m.entry.step m.entry.reply m.image s e
by_record f w m false s e = ap (λ (c : ClusterRecord). c.ledger.safe) (record_stays f w m s)

-- ---- no settle takes it back

either_above : (w up : World) (b : Bool) → w.safe ≤ up.safe → w.safe ≤ (if b then up else w).safe
either_above w up true h = h
either_above w up false h = omega arith

settle_above : (f : Formats) (w : World) → Ranked w → (k : ℕ) (s : Settles f w k) → w.safe ≤ (settled_of f w k (fin.get w.tickets k)).safe
settle_above f w l k s =
    let now : (settled_of f w k (fin.get w.tickets k)).safe ≡ suc s.n = ap (λ (x : World). x.safe) (settled_plain f w k s) in
    let above : w.safe ≤ s.n = l.unsettled k s.n s.t s.may.out.there s.may.out.out s.may.unsettled s.present s.may.raised in
    omega (arith, now, above)

delete_above : (f : Formats) (w : World) → Ranked w → (k : ℕ) (s : SettlesDeletion f w k) → s.t.term ≡ w.term → w.safe ≤ (delete_settled f w k (fin.get w.tickets k)).safe
delete_above f w l k s present =
    let now : (delete_settled f w k (fin.get w.tickets k)).safe ≡ suc s.n = ap (λ (x : World). x.safe) (delete_settled_plain f w k s.n s.t s.s s.may) in
    let above : w.safe ≤ s.n = l.unsettled k s.n s.t s.may.out.there s.may.out.out s.may.unsettled present s.may.raised in
    omega (arith, now, above)

settle_rises : (f : Formats) (size : ℕ) (w : World) → Ranked w → (who : ℕ) (reply : Reply) (image : Option Image) → Allows f size w who SettleStep reply image → w.safe ≤ (after f w (moment who SettleStep reply image)).safe
settle_rises f size w l who reply image (allowed.Settling k im s same) = settle_above f w l k s
settle_rises f size w l who reply image (allowed.SettleStale k n t s im may apart same) = omega arith
settle_rises f size w l who reply image (allowed.SettleFails k im s same) =
    let up : World = settled_of f w k (fin.get w.tickets k) in either_above w up (has_text im (f.cluster.text (record_of up))) (settle_above f w l k s)

delete_rises : (f : Formats) (w : World) → Ranked w → (who : ℕ) (reply : Reply) (image : Option Image) → PruneAllows f w who SettlePruned reply image → w.safe ≤ (after f w (moment who (PruneStep SettlePruned) reply image)).safe
delete_rises f w l who reply image (allowed.SettlingDelete k im s present same) = delete_above f w l k s present
delete_rises f w l who reply image (allowed.SettleDeleteStale k im s apart same) = omega arith
delete_rises f w l who reply image (allowed.SettleDeleteFails k im s present same) =
    let up : World = delete_settled f w k (fin.get w.tickets k) in either_above w up (has_text im (f.cluster.text (record_of up))) (delete_above f w l k s present)

-- ---- each step, and what a crash leaves

step_rises : (f : Formats) (size : ℕ) (w : World) (m : Moment) → Ranked w → Allowed f size w m → w.safe ≤ (after f w m).safe
step_rises f size w m l a = elim a.answered [
  | inl alive ↦ elim (which m.entry.step) [
    | inl e ↦
        subst (λ x. w.safe ≤ (after f w (moment m.entry.who x m.entry.reply m.image)).safe) (sym e)
        (settle_rises f size w l m.entry.who m.entry.reply m.image (subst (λ x. Allows f size w m.entry.who x m.entry.reply m.image) e alive.1))
    | inr (inl e) ↦
        subst (λ x. w.safe ≤ (after f w (moment m.entry.who x m.entry.reply m.image)).safe) (sym e)
        (delete_rises f w l m.entry.who m.entry.reply m.image (allows_pruned (subst (λ x. Allows f size w m.entry.who x m.entry.reply m.image) e alive.1)))
    | inr (inr e) ↦ let same : (after f w m).safe ≡ w.safe = by_record f w m (swaps_record m.entry.step) refl e in omega (arith, same)
  ]
  | inr dead ↦ let same : (after f w m).safe ≡ w.safe = ap (λ (x : World). x.safe) (blocked_stays f w m dead) in omega (arith, same)
]

left_rises : (f : Formats) (size : ℕ) (log : List Moment) (w : World) (i : Image) → Tracked w → Ranked w → ReadsBack f.cluster (record_of w) → IsLegal f size w log → Leaves f size w log i → w.safe ≤ safe_in f i
left_rises f size [] w i q l back legal now = let e : safe_in f i ≡ w.safe = safe_now f w i back now in omega (arith, e)
left_rises f size (m ∷ log) w i q l back legal (inl now) = let e : safe_in f i ≡ w.safe = safe_now f w i back now in omega (arith, e)
left_rises f size (m ∷ log) w i q l back legal (inr (inl cut)) =
    let rises : w.safe ≤ (after f w (cut_off m i)).safe = step_rises f size w (cut_off m i) l cut in
    let e : safe_in f i ≡ (after f w (cut_off m i)).safe = safe_cut f size w m i cut in
    omega (arith, rises, e)
left_rises f size (m ∷ log) w i q l back legal (inr (inr later)) =
    let rises : w.safe ≤ (after f w m).safe = step_rises f size w m l legal.0 in
    let rest : (after f w m).safe ≤ safe_in f i = left_rises f size log (after f w m) i (tracked_step f size w m q legal.0) (ranked_step f size w m q l legal.0) legal.0.record_back legal.1 later in
    omega (arith, rises, rest)

-- ---- a settle that was answered

by_answer : {f : Formats} {w : World} {who : ℕ} {image : Option Image} → PruneAllows f w who SettlePruned WasSettled image → SettlesDeletion f w who
by_answer (allowed.SettlingDelete k im s present same) = s

deleted_safe : (f : Formats) (size : ℕ) (w : World) (m : Moment) (t : Ticket) (n : ℕ) → Allowed f size w m → m.entry.step ≡ PruneStep SettlePruned → m.entry.reply ≡ WasSettled → fin.get w.tickets m.entry.who ≡ Some t
    → t.raised ≡ Some n → (after f w m).safe ≡ suc n
deleted_safe f size w m t n a step reply there raised =
    let who : ℕ = m.entry.who in
    let allows : Allows f size w who m.entry.step m.entry.reply m.image = elim a.answered [ inl h ↦ h.1 | inr dead ↦ absurd (no_answer m.entry.reply dead.refusal reply dead.refused) ] in
    let s : SettlesDeletion f w who = by_answer (allows_pruned (subst (λ x. Allows f size w who (PruneStep SettlePruned) x m.image) reply (subst (λ x. Allows f size w who x m.entry.reply m.image) step allows))) in
    let one : s.t ≡ t = same_Some s.t t (sym s.may.out.there ∙ there) in
    let same : s.n ≡ n = same_Some s.n n (sym s.may.raised ∙ ap (λ (x : Ticket). x.raised) one ∙ raised) in
    ap (λ x. (answered f w who x m.entry.reply m.image).safe) step
    ∙ ap (λ x. (answered f w who (PruneStep SettlePruned) x m.image).safe) reply
    ∙ ap (λ (x : World). x.safe) (delete_settled_plain f w who s.n s.t s.s s.may)
    ∙ ap suc same

pub settle_stays : (f : Formats) (size : ℕ) (w : World) (before rest : List Moment) (m : Moment) (t : Ticket) (n : ℕ) (i : Image) → Tracked w → Ranked w → IsLegal f size w (before ++ m ∷ rest)
    → (m.entry.step ≡ SettleStep) ⊎ (m.entry.step ≡ PruneStep SettlePruned)
    → m.entry.reply ≡ WasSettled → fin.get (world_from f w before).tickets m.entry.who ≡ Some t → t.raised ≡ Some n → Leaves f size (after f (world_from f w before) m) rest i → suc n ≤ safe_in f i
settle_stays f size w before rest m t n i q l legal step reply there raised left =
    let here : World = world_from f w before in
    let legals = legal_parts f size before (m ∷ rest) w legal in
    let tracked : Tracked here = tracked_history f size before w q legals.0 in
    let ranked : Ranked here = ranked_history f size before w q l legals.0 in
    let rises = left_rises f size rest (after f here m) i (tracked_step f size here m tracked legals.1.0) (ranked_step f size here m tracked ranked legals.1.0) legals.1.0.record_back legals.1.1 left in
    let e : (after f here m).safe ≡ suc n = elim step [
      | inl final ↦ settled_safe f size here m t n legals.1.0 final reply there raised
      | inr delete ↦ deleted_safe f size here m t n legals.1.0 delete reply there raised
    ] in
    omega (arith, e, rises)
