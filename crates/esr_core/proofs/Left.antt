-- What a crash leaves over a history: the law holds of it as of the images of the history.
use Rattle.std.proofs.Common.{◌≡◌, ◌⊎◌, ℕ, suc, ◌≤◌, List, [], ◌∷◌, ◌++◌, Bool, true, false, true≢false, Option, Some, None, refl, sym, ap, ◌∙◌, subst, inl, inr, arith}
use Rattle.std.specs.Prelude.{if◌then◌else◌, ◌&&◌}
use Rattle.std.specs.FinMap as fin
use Rattle.std.proofs.lemmas.Option.{same_Some}
use Rattle.esr_model.specs.Names.{BlobName}
use Rattle.esr_model.specs.Values.{ClusterRecord, ReadsBack, Formats, Bytes}
use Rattle.esr_model.specs.Shelf.{Shelved, Command, shelf_after}
use Rattle.esr_model.specs.Image.{Image}
use Rattle.esr_model.specs.Kept.{Kept}
use Rattle.esr_core.specs.World.{World, Ticket, record_of, image_of}
use Rattle.esr_core.specs.Ids.{Law}
use Rattle.esr_core.specs.Entry.{Step, AskStep, BeginStep, LatestStep, RaiseStep, SettleStep, DroppedStep, ElectStep, Refusal, AbortedBy, DepotFault, Reply, WasSettled, Refused, Moment, Prune, SettlePruned, PruneStep, Asked}
use Rattle.esr_core.specs.After.{asked, raised, with_given, settled_of, dropped_of, done_step, has_text, is_latest, tried, faulted, answered, after, told_blob, test_left, delete_settled}
use Rattle.esr_core.specs.Entry as entry
use Rattle.esr_core.specs.Allowed as allowed
use Rattle.esr_core.specs.Allowed.{Settles, SettlesDeletion, PruneAllows, Allows, Blocks, ByFailedSwap, ByDelete, IsBlocked, Allowed}
use Rattle.esr_core.specs.History.{world_from, IsLegal, AreTold, counts, is_settle, command_of, commands_at, committed}
use Rattle.esr_core.specs.Left.{cut_off, Leaves, safe_of, safe_by, safe_in}
use Rattle.esr_core.specs.Laws.DeleteAsks.{delete_leaves}
use Rattle.esr_core.specs.Laws.Moments.{moment, settled_plain, delete_settled_plain}
use Rattle.esr_core.proofs.Laws.{kept_of}
use Rattle.esr_core.proofs.Lists.{shelf_after-append}
use Rattle.esr_core.specs.Laws.Asides.{blocked_stays}
use Rattle.esr_core.proofs.Blocked.{block_faultless, blocked_none}
use Rattle.esr_core.specs.Laws.Histories.{legal_parts}
use Rattle.esr_core.proofs.Histories.{settled_above, step_law, image_is, later_none}

-- ---- how many roots there are up to the safe one

safe_reads : (f : Formats) (i : Image) (c : ClusterRecord) → i.text ≡ Some (f.cluster.text c) → ReadsBack f.cluster c → safe_in f i ≡ c.ledger.safe
safe_reads f i c there back = ap (safe_by f) there ∙ ap safe_of back

pub safe_now : (f : Formats) (w : World) (i : Image) → ReadsBack f.cluster (record_of w) → i ≡ image_of f w → safe_in f i ≡ w.safe
safe_now f w i back same = safe_reads f i (record_of w) (ap (λ (x : Image). x.text) same) back

pub safe_cut : (f : Formats) (size : ℕ) (w : World) (m : Moment) (i : Image) → Allowed f size w (cut_off m i) → safe_in f i ≡ (after f w (cut_off m i)).safe
safe_cut f size w m i cut = safe_reads f i (record_of (after f w (cut_off m i))) (cut.text i refl) cut.record_back

-- ---- a call that fails and is no settle's leaves the safe root

pub given_safe : (w : World) (k : ℕ) (g : Ticket → Ticket) (o : Option Ticket) → (with_given w k g o).safe ≡ w.safe
given_safe w k g None = refl
given_safe w k g (Some t) = refl

pub dropped_safe : (w : World) (k : ℕ) (o : Option Ticket) → (dropped_of w k o).safe ≡ w.safe
dropped_safe w k None = refl
dropped_safe w k (Some t) = refl

either_safe : (w up : World) (b : Bool) → up.safe ≡ w.safe → (if b then up else w).safe ≡ w.safe
either_safe w up true e = e
either_safe w up false e = refl

either_below : (w up : World) (b : Bool) → w.safe ≤ up.safe → (if b then up else w).safe ≤ up.safe
either_below w up true h = omega arith
either_below w up false h = h

left_safe : (w : World) (name : BlobName) (was now : Option Bytes) → (test_left w name was now).safe ≡ w.safe
left_safe w name None (Some bytes) = refl
left_safe w name was now = refl

pub asked_safe : (w : World) (command : Asked) → (asked w command).safe ≡ w.safe
asked_safe w (entry.DeleteSnapshots names) = ap (λ (x : World). x.safe) (delete_leaves w names)
asked_safe w (entry.Clone source name indices time None) = refl
asked_safe w command = refl

pub fault_safe : (f : Formats) (w : World) (k : ℕ) (step : Step) (image : Option Image) → is_settle step ≡ false → (faulted f w k step image).safe ≡ w.safe
fault_safe f w k (AskStep (entry.Restore name place)) image e = refl
fault_safe f w k (AskStep command) image e = let up : World = asked w command in either_safe w up (has_text image (f.cluster.text (record_of up))) (asked_safe w command)
fault_safe f w k RaiseStep image e =
    let up : World = raised w k in either_safe w up (has_text image (f.cluster.text (record_of up))) (given_safe w k (λ t. record t { raised = Some w.pending }) (fin.get w.tickets k))
fault_safe f w k SettleStep image e = absurd (true≢false e)
fault_safe f w k DroppedStep image e =
    let up : World = dropped_of w k (fin.get w.tickets k) in either_safe w up (has_text image (f.cluster.text (record_of up))) (dropped_safe w k (fin.get w.tickets k))
fault_safe f w k ElectStep image e =
    let up : World = done_step f w k ElectStep entry.HasEnded image in either_safe w up (has_text image (f.cluster.text (record_of up))) refl
fault_safe f w k LatestStep image e = given_safe w k (λ t. record t { tried_latest = true }) (fin.get w.tickets k)
fault_safe f w k (BeginStep name) image e = either_safe w (tried w k) (is_latest name) (given_safe w k (λ t. record t { tried_latest = true }) (fin.get w.tickets k))
fault_safe f w k (PruneStep SettlePruned) image e = absurd (true≢false e)
fault_safe f w k (entry.ReadStep (entry.CommitTest name)) image e = left_safe w name (fin.get w.blobs (f.names.text name)) (told_blob f image name)
fault_safe f w k step image e = refl

-- ---- the answer of a step, and the failure that a crash might have left in its place

settles_by_fault : {f : Formats} {size : ℕ} {w : World} {who : ℕ} {image : Option Image} → Allows f size w who SettleStep (Refused DepotFault) image → Settles f w who
settles_by_fault (allowed.SettleFails k im s same) = s

settles_by_answer : {f : Formats} {size : ℕ} {w : World} {who : ℕ} {image : Option Image} → Allows f size w who SettleStep WasSettled image → Settles f w who
settles_by_answer (allowed.Settling k im s same) = s

no_block : (refusal : Refusal) → Refused DepotFault ≡ Refused refusal → refusal ≡ DepotFault
no_block refusal e = cc

-- a crash in a call comes in a world that isn't deposed
cut_alive : (f : Formats) (size : ℕ) (w : World) (m : Moment) (i : Image) → Allowed f size w (cut_off m i) → (w.deposed ≡ false) × Allows f size w m.entry.who m.entry.step (Refused DepotFault) (Some i)
cut_alive f size w m i cut = elim cut.answered [ inl alive ↦ alive | inr dead ↦ absurd (block_faultless w m.entry.who m.entry.step dead.refusal dead.blocks (no_block dead.refusal dead.refused)) ]

not_aborted : (by : ℕ) → Refused DepotFault ≡ Refused (AbortedBy by) → ⊥
not_aborted by e = cc

-- so the step was looked at there
allows_alive : (f : Formats) (size : ℕ) (w : World) (m : Moment) (i : Image) → w.deposed ≡ false → Allowed f size w (cut_off m i) → Allowed f size w m → Allows f size w m.entry.who m.entry.step m.entry.reply m.image
allows_alive f size w m i alive cut a = elim a.answered [ inl h ↦ h.1 | inr dead ↦ absurd (never dead.refusal dead.blocks) ]
  where
    never : (refusal : Refusal) → Blocks w m.entry.who m.entry.step refusal → ⊥
    never _ (ByFailedSwap place d) = true≢false (sym d ∙ alive)
    never _ (ByDelete by d aborted) = not_aborted by (cut.aborted by d aborted)

-- both count alike, and no later step counts in what the failure leaves: it is no later than the world after the answer, or that is deposed
record Alike (f : Formats) (w : World) (who : ℕ) (step : Step) (reply : Reply) (image left : Option Image) : Type 0 where
  counted : (safe : ℕ) → commands_at f safe w who step reply ≡ commands_at f safe w who step (Refused DepotFault)
  ends : ((after f w (moment who step reply image)).deposed ≡ true) ⊎ ((after f w (moment who step (Refused DepotFault) left)).safe ≤ (after f w (moment who step reply image)).safe)

settles_alike : (f : Formats) (size : ℕ) (w : World) (shelf : List Shelved) → Law f w shelf → (who : ℕ) (reply : Reply) (image left : Option Image) → Allows f size w who SettleStep reply image → Settles f w who
    → Alike f w who SettleStep reply image left
settles_alike f size w shelf l who reply image left (allowed.Settling k im s same) cut =
    let up : World = settled_of f w k (fin.get w.tickets k) in
    let now : up.safe ≡ suc s.n = ap (λ (x : World). x.safe) (settled_plain f w k s) in
    let above : w.safe ≤ s.n = settled_above f w shelf l k s.n s.t s.s s.may s.present in
    record { counted = λ safe. refl; ends = inr (either_below w up (has_text left (f.cluster.text (record_of up))) (omega (arith, now, above))) }
settles_alike f size w shelf l who reply image left (allowed.SettleStale k n t s im may apart same) cut =
    let one : t ≡ cut.t = same_Some t cut.t (sym may.out.there ∙ cut.may.out.there) in
    absurd (apart (ap (λ (x : Ticket). x.term) one ∙ cut.present))
settles_alike f size w shelf l who reply image left (allowed.SettleFails k im s same) cut = record { counted = λ safe. refl; ends = inl refl }

pub allows_pruned : {f : Formats} {size : ℕ} {w : World} {who : ℕ} {prune : Prune} {reply : Reply} {image : Option Image} → Allows f size w who (PruneStep prune) reply image → PruneAllows f w who prune reply image
allows_pruned (allowed.Pruning k prune rep im h) = h

deletes_by_fault : {f : Formats} {w : World} {who : ℕ} {image : Option Image} → PruneAllows f w who SettlePruned (Refused DepotFault) image → (s : SettlesDeletion f w who) × (s.t.term ≡ w.term)
deletes_by_fault (allowed.SettleDeleteFails k im s present same) = (s, present)

deletes_alike : (f : Formats) (w : World) (shelf : List Shelved) → Law f w shelf → (who : ℕ) (reply : Reply) (image left : Option Image) → PruneAllows f w who SettlePruned reply image → (cut : SettlesDeletion f w who)
    → cut.t.term ≡ w.term → Alike f w who (PruneStep SettlePruned) reply image left
deletes_alike f w shelf l who reply image left (allowed.SettlingDelete k im s present same) cut now =
    let up : World = delete_settled f w k (fin.get w.tickets k) in
    let root : up.safe ≡ suc s.n = ap (λ (x : World). x.safe) (delete_settled_plain f w k s.n s.t s.s s.may) in
    let above : w.safe ≤ s.n = settled_above f w shelf l k s.n s.t s.s s.may present in
    record { counted = λ safe. refl; ends = inr (either_below w up (has_text left (f.cluster.text (record_of up))) (omega (arith, root, above))) }
deletes_alike f w shelf l who reply image left (allowed.SettleDeleteStale k im s apart same) cut now =
    let one : s.t ≡ cut.t = same_Some s.t cut.t (sym s.may.out.there ∙ cut.may.out.there) in
    absurd (apart (ap (λ (x : Ticket). x.term) one ∙ now))
deletes_alike f w shelf l who reply image left (allowed.SettleDeleteFails k im s present same) cut now = record { counted = λ safe. refl; ends = inl refl }

-- a step that is no settle has no commands
no_command : (f : Formats) (safe : ℕ) (w : World) (who : ℕ) (step : Step) (reply : Reply) → is_settle step ≡ false → commands_at f safe w who step reply ≡ []
no_command f safe w who step reply e = ap (λ (x : Bool). if counts reply && x then command_of f safe (fin.get w.tickets who) else []) e ∙ both (counts reply)
  where
    both : (x : Bool) → (if x && false then command_of f safe (fin.get w.tickets who) else []) ≡ []
    both true = refl
    both false = refl

pub which : (step : Step) → (step ≡ SettleStep) ⊎ ((step ≡ PruneStep SettlePruned) ⊎ (is_settle step ≡ false))
which SettleStep = inl refl
which (PruneStep SettlePruned) = inr (inl refl)
which step = inr (inr refl)

alike_by : (f : Formats) (size : ℕ) (w : World) (shelf : List Shelved) → Law f w shelf → (who : ℕ) (step : Step) (reply : Reply) (image left : Option Image) → w.safe ≤ (after f w (moment who step reply image)).safe
    → Allows f size w who step reply image → Allows f size w who step (Refused DepotFault) left → Alike f w who step reply image left
alike_by f size w shelf l who step reply image left rises a cut = elim (which step) [
  | inl e ↦
      subst (λ x. Alike f w who x reply image left) (sym e)
      (settles_alike f size w shelf l who reply image left (subst (λ x. Allows f size w who x reply image) e a) (settles_by_fault (subst (λ x. Allows f size w who x (Refused DepotFault) left) e cut)))
  | inr (inl e) ↦
      let at = deletes_by_fault (allows_pruned (subst (λ x. Allows f size w who x (Refused DepotFault) left) e cut)) in
      subst (λ x. Alike f w who x reply image left) (sym e) (deletes_alike f w shelf l who reply image left (allows_pruned (subst (λ x. Allows f size w who x reply image) e a)) at.0 at.1)
  | inr (inr e) ↦
      let same : (faulted f w who step left).safe ≡ w.safe = fault_safe f w who step left e in
      record { counted = λ safe. no_command f safe w who step reply e ∙ sym (no_command f safe w who step (Refused DepotFault) e); ends = inr (omega (arith, same, rises)) }
]

-- ---- the safe root of what is left

-- it is not below that of the world, and from a deposed one on it stays
pub record LeftLasts (f : Formats) (w : World) (i : Image) : Type 0 where
  pub rises : w.safe ≤ safe_in f i
  pub alone : w.deposed ≡ true → safe_in f i ≡ w.safe

lasts_now : (f : Formats) (w : World) (i : Image) → safe_in f i ≡ w.safe → LeftLasts f w i
lasts_now f w i e = record { rises = omega (arith, e); alone = λ d. e }

pub left_lasts : (f : Formats) (size : ℕ) (log : List Moment) (w : World) (shelf : List Shelved) (i : Image) → Law f w shelf → ReadsBack f.cluster (record_of w) → IsLegal f size w log → AreTold log → Leaves f size w log i
    → LeftLasts f w i
left_lasts f size [] w shelf i l back legal told now = lasts_now f w i (safe_now f w i back now)
left_lasts f size (m ∷ log) w shelf i l back legal told (inl now) = lasts_now f w i (safe_now f w i back now)
left_lasts f size (m ∷ log) w shelf i l back legal told (inr (inl cut)) =
    let s = step_law f size w shelf l (cut_off m i) i refl cut in
    let e : safe_in f i ≡ (after f w (cut_off m i)).safe = safe_cut f size w m i cut in
    record { rises = omega (arith, s.rises, e); alone = λ d. e ∙ (s.alone d).1 }
left_lasts f size (m ∷ log) w shelf i l back legal told (inr (inr later)) =
    let s = step_law f size w shelf l m told.0.0 told.0.1 legal.0 in
    let rest = left_lasts f size log (after f w m) (shelf_after shelf s.commands) i s.law legal.0.record_back legal.1 told.1 later in
    record { rises = omega (arith, s.rises, rest.rises); alone = λ d. let h = s.alone d in rest.alone h.0 ∙ h.1 }

-- ---- what is left is kept

nil : (cs : List Command) → cs ++ [] ≡ cs
nil [] = refl
nil (c ∷ cs) = ap (λ ds. c ∷ ds) (nil cs)

-- in a deposed world nothing counts any more
deposed_none : (f : Formats) (size : ℕ) (log : List Moment) (w : World) (safe : ℕ) → w.deposed ≡ true → IsLegal f size w log → committed f safe w log ≡ []
deposed_none f size [] w safe d legal = refl
deposed_none f size (m ∷ log) w safe d legal =
    let dead : IsBlocked w m = elim legal.0.answered [ inl alive ↦ absurd (true≢false (sym d ∙ alive.0)) | inr h ↦ h ] in
    let mine : commands_at f safe w m.entry.who m.entry.step m.entry.reply ≡ [] = blocked_none f w safe m dead in
    let rest : committed f safe (after f w m) log ≡ [] = deposed_none f size log (after f w m) safe (ap (λ (x : World). x.deposed) (blocked_stays f w m dead) ∙ d) legal.1 in
    λ j. mine j ++ rest j

now_kept : (f : Formats) (size : ℕ) (log : List Moment) (w : World) (shelf : List Shelved) (i : Image) → Law f w shelf → ReadsBack f.cluster (record_of w) → IsLegal f size w log → AreTold log → i ≡ image_of f w
    → Kept f i (shelf_after shelf (committed f (safe_in f i) w log))
now_kept f size log w shelf i l back legal told now =
    let e : safe_in f i ≡ w.safe = safe_now f w i back now in
    let none : committed f (safe_in f i) w log ≡ [] = later_none f size log w shelf (safe_in f i) l (omega (arith, e)) legal told in
    subst (λ x. Kept f x (shelf_after shelf (committed f (safe_in f i) w log))) (sym now) (subst (λ cs. Kept f (image_of f w) (shelf_after shelf cs)) (sym none) (kept_of f w shelf l back))

cut_kept : (f : Formats) (size : ℕ) (m : Moment) (log : List Moment) (w : World) (shelf : List Shelved) (i : Image) → Law f w shelf → IsLegal f size w (m ∷ log) → AreTold (m ∷ log) → Allowed f size w (cut_off m i)
    → Kept f i (shelf_after shelf (committed f (safe_in f i) w (m ∷ log)))
cut_kept f size m log w shelf i l legal told cut =
    let safe : ℕ = safe_in f i in
    let fallen : World = after f w (cut_off m i) in
    let e : safe ≡ fallen.safe = safe_cut f size w m i cut in
    let c = step_law f size w shelf l (cut_off m i) i refl cut in
    let s = step_law f size w shelf l m told.0.0 told.0.1 legal.0 in
    let alive = cut_alive f size w m i cut in
    let a = alike_by f size w shelf l m.entry.who m.entry.step m.entry.reply m.image (Some i) s.rises (allows_alive f size w m i alive.0 cut legal.0) alive.1 in
    let mine : commands_at f safe w m.entry.who m.entry.step m.entry.reply ≡ c.commands = a.counted safe ∙ c.counted safe (omega (arith, e)) (λ d. e) in
    let rest : committed f safe (after f w m) log ≡ [] = elim a.ends [
      | inl d ↦ deposed_none f size log (after f w m) safe d legal.1
      | inr below ↦ let b : fallen.safe ≤ (after f w m).safe = below in later_none f size log (after f w m) (shelf_after shelf s.commands) safe s.law (omega (arith, e, b)) legal.1 told.1
    ] in
    let all : committed f safe w (m ∷ log) ≡ c.commands = (λ j. mine j ++ rest j) ∙ nil c.commands in
    subst (λ x. Kept f x (shelf_after shelf (committed f safe w (m ∷ log)))) (sym (image_is f size w (cut_off m i) i refl cut))
    (subst (λ cs. Kept f (image_of f fallen) (shelf_after shelf cs)) (sym all) (kept_of f fallen (shelf_after shelf c.commands) c.law cut.record_back))

pub left_kept : (f : Formats) (size : ℕ) (log : List Moment) (w : World) (shelf : List Shelved) (i : Image) → Law f w shelf → ReadsBack f.cluster (record_of w) → IsLegal f size w log → AreTold log → Leaves f size w log i
    → Kept f i (shelf_after shelf (committed f (safe_in f i) w log))
left_kept f size [] w shelf i l back legal told now = now_kept f size [] w shelf i l back legal told now
left_kept f size (m ∷ log) w shelf i l back legal told (inl now) = now_kept f size (m ∷ log) w shelf i l back legal told now
left_kept f size (m ∷ log) w shelf i l back legal told (inr (inl cut)) = cut_kept f size m log w shelf i l legal told cut
left_kept f size (m ∷ log) w shelf i l back legal told (inr (inr later)) =
    let s = step_law f size w shelf l m told.0.0 told.0.1 legal.0 in
    let lasts = left_lasts f size log (after f w m) (shelf_after shelf s.commands) i s.law legal.0.record_back legal.1 told.1 later in
    let cs : List Command = committed f (safe_in f i) (after f w m) log in
    let mine : commands_at f (safe_in f i) w m.entry.who m.entry.step m.entry.reply ≡ s.commands = s.counted (safe_in f i) lasts.rises lasts.alone in
    let kept : Kept f i (shelf_after (shelf_after shelf s.commands) cs) = left_kept f size log (after f w m) (shelf_after shelf s.commands) i s.law legal.0.record_back legal.1 told.1 later in
    subst (Kept f i) (sym (shelf_after-append shelf s.commands cs) ∙ ap (λ ds. shelf_after shelf (ds ++ cs)) (sym mine)) kept

-- ---- a settle that was answered

pub no_answer : (reply : Reply) (refusal : Refusal) → reply ≡ WasSettled → reply ≡ Refused refusal → ⊥
no_answer reply refusal a b = cc

-- its root is the safe one
pub settled_safe : (f : Formats) (size : ℕ) (w : World) (m : Moment) (t : Ticket) (n : ℕ) → Allowed f size w m → m.entry.step ≡ SettleStep → m.entry.reply ≡ WasSettled → fin.get w.tickets m.entry.who ≡ Some t → t.raised ≡ Some n
    → (after f w m).safe ≡ suc n
settled_safe f size w m t n a step reply there raised =
    let who : ℕ = m.entry.who in
    let allows : Allows f size w who m.entry.step m.entry.reply m.image = elim a.answered [ inl h ↦ h.1 | inr dead ↦ absurd (no_answer m.entry.reply dead.refusal reply dead.refused) ] in
    let s : Settles f w who = settles_by_answer (subst (λ x. Allows f size w who SettleStep x m.image) reply (subst (λ x. Allows f size w who x m.entry.reply m.image) step allows)) in
    let one : s.t ≡ t = same_Some s.t t (sym s.may.out.there ∙ there) in
    let same : s.n ≡ n = same_Some s.n n (sym s.may.raised ∙ ap (λ (x : Ticket). x.raised) one ∙ raised) in
    ap (λ x. (answered f w who x m.entry.reply m.image).safe) step
    ∙ ap (λ x. (answered f w who SettleStep x m.image).safe) reply
    ∙ ap (λ (x : World). x.safe) (settled_plain f w who s)
    ∙ ap suc same

-- ---- over a longer history a crash may leave the same

pub left_longer : (f : Formats) (size : ℕ) (w : World) (log rest : List Moment) (i : Image) → Leaves f size w log i → Leaves f size w (log ++ rest) i
left_longer f size w [] [] i now = now
left_longer f size w [] (m ∷ rest) i now = inl now
left_longer f size w (m ∷ log) rest i (inl now) = inl now
left_longer f size w (m ∷ log) rest i (inr (inl cut)) = inr (inl cut)
left_longer f size w (m ∷ log) rest i (inr (inr later)) = inr (inr (left_longer f size (after f w m) log rest i later))

pub left_later : (f : Formats) (size : ℕ) (w : World) (before rest : List Moment) (i : Image) → Leaves f size (world_from f w before) rest i → Leaves f size w (before ++ rest) i
left_later f size w [] rest i left = left
left_later f size w (m ∷ before) rest i left = inr (inr (left_later f size (after f w m) before rest i left))

pub left_now : (f : Formats) (size : ℕ) (w : World) (log rest : List Moment) (i : Image) → i ≡ image_of f (world_from f w log) → Leaves f size w (log ++ rest) i
left_now f size w log rest i now = left_later f size w log rest i (left_longer f size (world_from f w log) [] rest i now)

pub left_by_call : (f : Formats) (size : ℕ) (w : World) (log rest : List Moment) (m : Moment) (i : Image) → Allowed f size (world_from f w log) (cut_off m i) → Leaves f size w (log ++ m ∷ rest) i
left_by_call f size w log rest m i cut = left_later f size w log (m ∷ rest) i (inr (inl cut))

-- each image of the history is one of them
pub left_told : (f : Formats) (size : ℕ) (w : World) (log rest : List Moment) (m : Moment) (i : Image) → IsLegal f size w (log ++ m ∷ rest) → m.image ≡ Some i → Leaves f size w (log ++ m ∷ rest) i
left_told f size w log rest m i legal told =
    let here : World = world_from f w log in
    let now : i ≡ image_of f (after f here m) = image_is f size here m i told (legal_parts f size log (m ∷ rest) w legal).1.0 in
    left_later f size w log (m ∷ rest) i (inr (inr (left_longer f size (after f here m) [] rest i now)))
