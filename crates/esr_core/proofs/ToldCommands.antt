-- Over a history each snapshot among the commands that count is that of an op which was open, with the files that the sources tell.
use Rattle.std.proofs.Common.{◌≡◌, ◌⊎◌, ℕ, ◌<◌, Bool, true, false, true≢false, List, [], ◌∷◌, ◌++◌, Option, Some, None, refl, sym, ap, ◌∙◌, subst, inl, inr, arith, nat_cmp}
use Rattle.std.specs.Prelude.{nat_lt, ◌&&◌, if◌then◌else◌}
use Rattle.std.specs.Cmp.{nat_cmp_total}
use Rattle.std.specs.FinMap.{FinMap, nat_cmp-IsAntisymmetric}
use Rattle.std.specs.FinMap as fin
use Rattle.std.proofs.lemmas.Bool.{and_parts}
use Rattle.std.proofs.lemmas.Option.{same_Some}
use Rattle.esr_model.specs.Values.{Has, SnapInfo, ShardResult, Formats}
use Rattle.esr_model.specs.Shelf.{Shelved, Command, Create, shelf_after}
use Rattle.esr_model.specs.Image.{Image}
use Rattle.esr_core.specs.World.{World, Op, ShardWork, Work, Shard, Finalize, Deleting, Drop, Swap, Ticket, swap, swap_of, info_of, made_of, Opened, OpenedEmpty, OpenedRecord}
use Rattle.esr_core.specs.Steps.{shard_ticket, final_ticket, plain_ticket}
use Rattle.esr_core.specs.Turns.{cleaning_ticket}
use Rattle.esr_core.specs.Pruning.{commands_by}
use Rattle.esr_core.specs.Ids.{Law}
use Rattle.esr_core.specs.Entry.{Given, GivenShard, GivenClone, GivenFinalize, GivenDrop, GivenRestore, GivenDelete, GivenCleanup, Step, TakeStep, SettleStep, SettlePruned, PruneStep, DepotFault, Reply, Gave, Refused, Moment}
use Rattle.esr_core.specs.After.{shard_of, taken_shard, taken_by, answered, after}
use Rattle.esr_core.specs.Allowed as allowed
use Rattle.esr_core.specs.Allowed.{Settles, SettlesDeletion, Allows, Allowed}
use Rattle.esr_core.specs.History.{world_from, IsLegal, AreTold, counts, is_settle, command_by, command_of, commands_at, committed}
use Rattle.esr_core.specs.Changes.{StepChange, NewTicket, NewReader, OwnTicket, Settlement, UnitEnd, DeletionFailure, OpDrop, SwapFault}
use Rattle.esr_core.specs.Sources.{told_snap, told_from, told_command, IsOfSources, AreOfSources, IsOfOp, AreOfOps}
use Rattle.esr_core.proofs.Besides.{aside_taken}
use Rattle.esr_core.proofs.Blocked.{blocked_none}
use Rattle.esr_core.specs.Laws.ChangeLaws.{change_of}
use Rattle.esr_core.proofs.Histories.{step_law}
use Rattle.esr_core.proofs.Left.{allows_pruned}
use Rattle.esr_core.specs.Laws.Maps.{get_same, get_was, nothing}
use Rattle.esr_model.specs.Lists.{Has-either}
use Rattle.esr_core.specs.Laws.StepFrames.{step_frame}
use Rattle.esr_core.proofs.TidyHistories.{settles_delete}

no_shard : (index number : ℕ) (info : SnapInfo) (results : List ShardResult) (made : Command) → Shard index number ≡ Finalize info results made → ⊥
no_shard index number info results made e = cc

no_drop : (info : SnapInfo) (results : List ShardResult) (made : Command) → Drop ≡ Finalize info results made → ⊥
no_drop info results made e = cc

no_delete : (uuids : List ℕ) (plan : Option Swap) (info : SnapInfo) (results : List ShardResult) (made : Command) → Deleting uuids plan ≡ Finalize info results made → ⊥
no_delete uuids plan info results made e = cc

made_same : (a b : SnapInfo) (xs ys : List ShardResult) (x y : Command) → Finalize a xs x ≡ Finalize b ys y → x ≡ y
made_same a b xs ys x y e = cc

-- ---- the ticket of a finalization is given by a take

-- the next number of tickets is free
abbrev IsFree : World → Type 0
IsFree w = (t : Ticket) → fin.get w.tickets w.next_ticket ≡ Some t → ⊥

free_by : (f : Formats) (w : World) (shelf : List Shelved) → Law f w shelf → IsFree w
free_by f w shelf l t e = let b : w.next_ticket < w.next_ticket = l.lawful.sound.fresh w.next_ticket t e in omega (arith, b)

put_free : (w : World) (who : ℕ) (t v : Ticket) → fin.get w.tickets who ≡ Some t → IsFree w → (u : Ticket) → fin.get (fin.insert w.tickets who v) w.next_ticket ≡ Some u → ⊥
put_free w who t v there free u e = elim (get_was nat_cmp_total nat_cmp-IsAntisymmetric w.tickets who v w.next_ticket u e) [
  | inl h ↦ free t (ap (fin.get w.tickets) h.0 ∙ there)
  | inr h ↦ free u h.1
]

-- only a take gives one
module _ (f : Formats) (w : World) (who : ℕ) (step : Step) (other : step ≡ TakeStep → ⊥) (free : IsFree w) where
  none_new : (new : World) → StepChange f w who step new → (u : Ticket) → fin.get new.tickets w.next_ticket ≡ Some u → ⊥
  none_new new (NewTicket take t fresh ops same) u e = other take
  none_new new (NewReader take o r s there) u e = other take
  none_new new (OwnTicket t v there unit settled next_id pending id_above above) u e = put_free w who t v there free u e
  none_new new (Settlement settle t s n names deletes there is raised left) u e = put_free w who t (record t { settled = true }) there free u e
  none_new new (UnitEnd t op v completed there found same) u e = put_free w who t (record t { out = false }) there free u e
  none_new new (DeletionFailure t x there found) u e = put_free w who t (record t { out = false }) there free u e
  none_new new (OpDrop drops t there) u e = put_free w who t (record t { out = false }) there free u e
  none_new new (SwapFault swaps up h) u e = none_new up h u e
  none_new new other u e = free u e

-- the answer gives a finalization of an op, with this command
record IsGiven (f : Formats) (w : World) (reply : Reply) (made : Command) : Type 0 where
  ticket : ℕ
  number : ℕ
  info : SnapInfo
  results : List ShardResult
  op : Op
  gave : reply ≡ Gave ticket number (GivenFinalize info results)
  there : fin.get w.ops number ≡ Some op
  made_is : made ≡ made_of f w.blobs op

takes : (step : Step) → (step ≡ TakeStep) ⊎ (step ≡ TakeStep → ⊥)
takes TakeStep = inl refl
takes step = inr (λ e. cc)

-- for the ticket of a finalization under the next number
module _ (f : Formats) (w : World) (free : IsFree w) (v : Ticket) (info : SnapInfo) (results : List ShardResult) (made : Command) (is : v.work ≡ Finalize info results made) where
  new_work : (t : Ticket) → fin.get (fin.insert w.tickets w.next_ticket t) w.next_ticket ≡ Some v → t.work ≡ Finalize info results made
  new_work t e = ap (λ (x : Ticket). x.work) (same_Some t v (sym (get_same nat_cmp_total nat_cmp-IsAntisymmetric w.tickets w.next_ticket t) ∙ e)) ∙ is

  no_taken_shard : (o : ℕ) (op : Op) (base : Option ℕ) (s : Option ShardWork) → fin.get (taken_shard w o op base s).tickets w.next_ticket ≡ Some v → ⊥
  no_taken_shard o op base None e = free v e
  no_taken_shard o op base (Some s) e = no_shard s.ref.id s.number info results made (new_work (shard_ticket w o op s base) e)

  taken : (ticket o : ℕ) (unit : Given) (op : Option Op) → fin.get w.ops o ≡ op → fin.get (taken_by f w o unit op).tickets w.next_ticket ≡ Some v → IsGiven f w (Gave ticket o unit) made
  taken ticket o (GivenShard index number base) (Some op) there e = absurd (no_taken_shard o op base (shard_of op.shards index number) e)
  taken ticket o (GivenClone index number source base) (Some op) there e = absurd (no_taken_shard o op base (shard_of op.shards index number) e)
  taken ticket o (GivenFinalize sums shards) (Some op) there e =
      record {
        ticket = ticket;
        number = o;
        info = sums;
        results = shards;
        op = op;
        gave = refl;
        there = there;
        made_is = sym (made_same (info_of op shards) info shards results (made_of f w.blobs op) made (new_work (final_ticket f w o op shards) e));
      }
  taken ticket o GivenDrop op there e = absurd (no_drop info results made (new_work (plain_ticket w o Drop) e))
  taken ticket o (GivenRestore index number uuid) op there e = absurd (free v (sym (ap (λ (x : World). fin.get x.tickets w.next_ticket) (aside_taken w o index number (fin.get w.restores o)).new_is) ∙ e))
  taken ticket o (GivenDelete uuids) op there e = absurd (no_delete uuids None info results made (new_work (plain_ticket w o (Deleting uuids None)) e))
  taken ticket o GivenCleanup op there e = absurd (no_delete [] None info results made (new_work (cleaning_ticket w o) e))
  taken ticket o unit op there e = absurd (free v e)

  at_take : (who : ℕ) (reply : Reply) (image : Option Image) → fin.get (answered f w who TakeStep reply image).tickets w.next_ticket ≡ Some v → IsGiven f w reply made
  at_take who (Gave ticket o unit) image e = taken ticket o unit (fin.get w.ops o) refl e
  at_take who (Refused DepotFault) image e = absurd (free v e)
  at_take who reply image e = absurd (free v e)

  new_final : (m : Moment) → fin.get (after f w m).tickets w.next_ticket ≡ Some v → IsGiven f w m.entry.reply made
  new_final m e = elim (takes m.entry.step) [
    | inl take ↦ at_take m.entry.who m.entry.reply m.image (sym (ap (λ (x : Step). fin.get (answered f w m.entry.who x m.entry.reply m.image).tickets w.next_ticket) take) ∙ e)
    | inr other ↦ absurd (none_new f w m.entry.who m.entry.step other free (answered f w m.entry.who m.entry.step m.entry.reply m.image) (change_of f w m.entry.who m.entry.step m.entry.reply m.image) v e)
  ]

-- ---- what a settle counts

of_cond : (b : Bool) (cs : List Command) (c : Command) → Has (if b then cs else []) c → (b ≡ true) × Has cs c
of_cond true cs c h = (refl, h)
of_cond false cs c h = absurd h

settles : (step : Step) → is_settle step ≡ true → (step ≡ SettleStep) ⊎ (step ≡ PruneStep SettlePruned)
settles SettleStep e = inl refl
settles (PruneStep SettlePruned) e = inr refl
settles step e = absurd (true≢false (sym e))

settles_final : {f : Formats} {size : ℕ} {w : World} {who : ℕ} {reply : Reply} {image : Option Image} → Allows f size w who SettleStep reply image → counts reply ≡ true → Settles f w who
settles_final (allowed.Settling k im st same) e = st
settles_final (allowed.SettleStale k n t s im may apart same) e = absurd (true≢false (sym e))
settles_final (allowed.SettleFails k im st same) e = st

-- a swap of a ticket that has the command
record HasCommand (f : Formats) (w : World) (who : ℕ) (c : Command) : Type 0 where
  t : Ticket
  s : Swap
  there : fin.get w.tickets who ≡ Some t
  is : swap f t ≡ Some s
  has : Has s.commands c

module _ (f : Formats) (w : World) (who safe : ℕ) (c : Command) where
  of_swap : (t : Ticket) → fin.get w.tickets who ≡ Some t → (s : Option Swap) (n : Option ℕ) → swap f t ≡ s → Has (command_by safe s n) c → HasCommand f w who c
  of_swap t there (Some s) (Some n) is h = record { t = t; s = s; there = there; is = is; has = (of_cond (nat_lt n safe) s.commands c h).1 }
  of_swap t there s n is h = absurd h

  of_ticket : (o : Option Ticket) → fin.get w.tickets who ≡ o → Has (command_of f safe o) c → HasCommand f w who c
  of_ticket None there h = absurd h
  of_ticket (Some t) there h = of_swap t there (swap f t) t.raised refl h

-- a delete's swap and a cleanup's make no snapshot
no_snapshot : (clean : Bool) (uuids : List ℕ) (snap : Shelved) → Has (commands_by clean uuids) (Create snap) → ⊥
no_snapshot true uuids snap h = absurd h
no_snapshot false uuids snap (inl e) = cc
no_snapshot false uuids snap (inr h) = absurd h

abbrev commands_in : Option Swap → List Command
commands_in None = []
commands_in (Some s) = s.commands

one_command : (made c : Command) → Has (made ∷ []) c → made ≡ c
one_command made c (inl e) = e
one_command made c (inr h) = absurd h

-- ---- for something that holds of the snapshots of ops

-- it holds of the snapshot that a command makes, if it makes one
abbrev IsTold : (Shelved → Type 0) → Command → Type 0
IsTold Told (Create snap) = Told snap
IsTold Told command = Unit {0}

module _ (f : Formats) (size : ℕ) (Told : Shelved → Type 0) where
  -- the command of each finalization makes such a one
  abbrev FinalsTold : FinMap nat_cmp Ticket → Type 0
  FinalsTold tickets = (k : ℕ) (t : Ticket) (info : SnapInfo) (results : List ShardResult) (made : Command) → fin.get tickets k ≡ Some t → t.work ≡ Finalize info results made → IsTold Told made

  -- the files that the sources tell of an open op make such a one
  abbrev OpsTold : World → Type 0
  OpsTold w = (o : ℕ) (op : Op) → fin.get w.ops o ≡ Some op → Told (told_snap f op)

  of_op : (op : Op) → Told (told_snap f op) → (source : Option ℕ) → IsTold Told (told_from f op source)
  of_op op told None = told
  of_op op told (Some source) = tt

  given_told : (w : World) (m : Moment) (made : Command) → IsOfSources f w m → OpsTold w → IsGiven f w m.entry.reply made → IsTold Told made
  given_told w m made sourced ops g =
      let same : made ≡ told_command f g.op = g.made_is ∙ sourced g.ticket g.number g.info g.results g.op g.gave g.there in
      subst (IsTold Told) (sym same) (of_op g.op (ops g.number g.op g.there) g.op.source)

  finals_after : (w : World) (shelf : List Shelved) → Law f w shelf → (m : Moment) → IsOfSources f w m → OpsTold w → FinalsTold w.tickets → FinalsTold (after f w m).tickets
  finals_after w shelf l m sourced ops finals k t info results made there is = elim ((step_frame f w m).come k t there) [
    | inl was ↦ elim was.2.work [
      | inl same ↦ finals k was.0 info results made was.1 (sym same ∙ is)
      | inr plan ↦ absurd (no_delete plan.0 (Some plan.2) info results made (sym plan.4 ∙ is))
    ]
    | inr new ↦ given_told w m made sourced ops (new_final f w (free_by f w shelf l) t info results made is m (ap (fin.get (after f w m).tickets) (sym new.0) ∙ there))
  ]

  settled_told : (w : World) (who : ℕ) (step : Step) (reply : Reply) (image : Option Image) → Allows f size w who step reply image → counts reply ≡ true → (step ≡ SettleStep) ⊎ (step ≡ PruneStep SettlePruned) → FinalsTold w.tickets
      → (snap : Shelved) → HasCommand f w who (Create snap) → Told snap
  settled_told w who step reply image a counted (inl e) finals snap h =
      let st : Settles f w who = settles_final (subst (λ (x : Step). Allows f size w who x reply image) e a) counted in
      let same : h.t ≡ st.t = same_Some h.t st.t (sym h.there ∙ st.may.out.there) in
      let work : h.t.work ≡ Finalize st.info st.results st.made = ap (λ (x : Ticket). x.work) same ∙ st.work in
      let commands : h.s.commands ≡ st.made ∷ [] = ap commands_in (sym h.is ∙ ap (λ (x : Work). swap_of f x h.t.root) work) in
      subst (IsTold Told) (one_command st.made (Create snap) (subst (λ (cs : List Command). Has cs (Create snap)) commands h.has)) (finals who h.t st.info st.results st.made h.there work)
  settled_told w who step reply image a counted (inr e) finals snap h =
      let sd : SettlesDeletion f w who = (settles_delete (allows_pruned (subst (λ (x : Step). Allows f size w who x reply image) e a)) counted).0 in
      let same : h.t ≡ sd.t = same_Some h.t sd.t (sym h.there ∙ sd.may.out.there) in
      let swaps : h.s ≡ sd.s = same_Some h.s sd.s (sym h.is ∙ ap (swap f) same ∙ sd.may.is) in
      absurd (no_snapshot sd.t.clean sd.uuids snap (subst (λ (cs : List Command). Has cs (Create snap)) (ap (λ (x : Swap). x.commands) swaps ∙ sd.commands) h.has))

  counted_told : (w : World) (m : Moment) → Allowed f size w m → FinalsTold w.tickets → (safe : ℕ) (snap : Shelved) → Has (commands_at f safe w m.entry.who m.entry.step m.entry.reply) (Create snap) → Told snap
  counted_told w m a finals safe snap h = elim a.answered [
    | inl alive ↦
        let which = of_cond (counts m.entry.reply && is_settle m.entry.step) (command_of f safe (fin.get w.tickets m.entry.who)) (Create snap) h in
        let both = and_parts (counts m.entry.reply) (is_settle m.entry.step) which.0 in
        settled_told w m.entry.who m.entry.step m.entry.reply m.image alive.1 both.0 (settles m.entry.step both.1) finals snap (of_ticket f w m.entry.who safe (Create snap) (fin.get w.tickets m.entry.who) refl which.1)
    | inr dead ↦ absurd (subst (λ (cs : List Command). Has cs (Create snap)) (blocked_none f w safe m dead) h)
  ]

  pub all_told : (log : List Moment) (w : World) (shelf : List Shelved) → Law f w shelf → AreOfSources f w log → ((front back : List Moment) → log ≡ front ++ back → OpsTold (world_from f w front)) → FinalsTold w.tickets
      → IsLegal f size w log → AreTold log → (safe : ℕ) (snap : Shelved) → Has (committed f safe w log) (Create snap) → Told snap
  all_told [] w shelf l sourced ops finals legal told safe snap h = absurd h
  all_told (m ∷ log) w shelf l sourced ops finals legal told safe snap h =
      let s = step_law f size w shelf l m told.0.0 told.0.1 legal.0 in
      elim (Has-either (commands_at f safe w m.entry.who m.entry.step m.entry.reply) (committed f safe (after f w m) log) (Create snap) h) [
        | inl here ↦ counted_told w m legal.0 finals safe snap here
        | inr later ↦ all_told log (after f w m) (shelf_after shelf s.commands) s.law sourced.1 (λ front back is. ops (m ∷ front) back (ap (λ (l : List Moment). m ∷ l) is))
            (finals_after w shelf l m sourced.0 (ops [] (m ∷ log) refl) finals) legal.1 told.1 safe snap later
      ]

-- ---- from the opened world on

opened_none : (f : Formats) (image : Image) (w : World) → Opened f image w → (k : ℕ) (t : Ticket) → fin.get w.tickets k ≡ Some t → ⊥
opened_none f image w (OpenedEmpty none) k t e = nothing k t e
opened_none f image w (OpenedRecord cluster text root there reads is) k t e = nothing k t e

pub all_of_ops : (f : Formats) (size : ℕ) (image : Image) (shelf : List Shelved) (w : World) (log : List Moment) → Law f w shelf → Opened f image w → AreOfSources f w log → IsLegal f size w log → AreTold log → AreOfOps f w log
all_of_ops f size image shelf w log l opened sourced legal told safe snap h =
    all_told f size (IsOfOp f w log) log w shelf l sourced (λ front back is o op there. record { op = op; passed = record { front = front; back = back; log_is = is; number = o; there = there }; snap_is = refl })
    (λ k t info results made e is. absurd (opened_none f image w opened k t e)) legal told safe snap h
