-- No ticket of a cleanup is out while a verification is open.
use Rattle.std.proofs.Common.{◌≡◌, ◌≢◌, ◌⊎◌, ℕ, zero, suc, Bool, true, false, true≢false, if◌then◌else◌, List, [], ◌∷◌, ◌++◌, append-nil, append_assoc, Option, Some, None, refl, sym, ap, ◌∙◌, subst, inl, inr}
use Rattle.std.specs.FinMap as fin
use Rattle.esr_model.specs.Names.{BlobName}
use Rattle.esr_model.specs.Values.{Bytes, Formats}
use Rattle.esr_model.specs.Image.{Image}
use Rattle.esr_core.specs.World.{World, Op, ShardWork, Deleting, Drop, Ticket, RestoreShard, Restoring, Caller, no_caller, Opened, OpenedEmpty, OpenedRecord}
use Rattle.esr_core.specs.Restores.{restore_shard}
use Rattle.esr_core.specs.Steps.{shard_ticket, final_ticket, plain_ticket}
use Rattle.esr_core.specs.Entry.{Given, GivenShard, GivenFinalize, GivenDrop, GivenRestore, GivenClone, GivenDelete, GivenCleanup, Read, ReadBlob, CheckedAll, DrawTest, CommitTest, RemoveTests, VerifiedAll, ReadFails, Step, AskStep, TakeStep, LookStep, ReadStep, DepotFault, Reply, Gave, WasDone, WasFetched, WasRemoved, HasEnded, Refused, Moment}
use Rattle.esr_core.specs.After.{shard_of, taken_by, taken_shard, taken_restore, taken_restore_shard, told_blob, is_heard, caller_told, caller_wrote, caller_ended, caller_read, caller_by, caller_after, answered}
use Rattle.esr_core.specs.Changes.{StepChange, NewTicket, OwnTicket, Settlement, UnitEnd, DeletionFailure, OpDrop, SwapFault}
use Rattle.esr_core.specs.History.{world_from}
use Rattle.esr_desk.specs.Start.{Start, formats_of, world_of, or_no_ticket}
use Rattle.esr_quiet.specs.Smooth.{AreTestsApart}
use Rattle.esr_quiet.specs.CallerSteps.{caller_one}
use Rattle.esr_core.specs.Laws.NumberMaps.{some_none, was_in}
use Rattle.esr_core.specs.Laws.Maps.{Tickets}
use Rattle.esr_core.specs.Laws.Histories.{world_parts}

abbrev pub IsAlone : World → Type 0
IsAlone w = (id k : ℕ) (t : Ticket) → w.caller.drawn ≡ Some id → fin.get w.tickets k ≡ Some t → t.clean ≡ true → t.out ≡ true → ⊥

abbrev NoneCleans : Tickets → Type 0
NoneCleans tickets = (k : ℕ) (t : Ticket) → fin.get tickets k ≡ Some t → t.clean ≡ true → t.out ≡ true → ⊥

-- ---- tickets

module _ (tickets : Tickets) (h : NoneCleans tickets) where
  -- one goes on as the same unit
  goes_on : (k : ℕ) (t v : Ticket) → fin.get tickets k ≡ Some t → v.clean ≡ t.clean → (v.out ≡ true → t.out ≡ true) → NoneCleans (fin.insert tickets k v)
  goes_on k t v there clean_is was_out j u e clean out = elim (was_in tickets k v j u e) [
    | inl x ↦ h k t there (sym clean_is ∙ ap (λ (y : Ticket). y.clean) x.1 ∙ clean) (was_out (ap (λ (y : Ticket). y.out) x.1 ∙ out))
    | inr x ↦ h j u x.1 clean out
  ]

  -- one ends
  ends : (k : ℕ) (t : Ticket) → NoneCleans (fin.insert tickets k (record t { out = false }))
  ends k t j u e clean out = elim (was_in tickets k (record t { out = false }) j u e) [
    | inl x ↦ true≢false (sym out ∙ sym (ap (λ (y : Ticket). y.out) x.1))
    | inr x ↦ h j u x.1 clean out
  ]

  -- one that is no cleanup's comes
  comes : (k : ℕ) (t : Ticket) → t.clean ≡ false → NoneCleans (fin.insert tickets k t)
  comes k t other j u e clean out = elim (was_in tickets k t j u e) [
    | inl x ↦ true≢false (sym clean ∙ ap (λ (y : Ticket). y.clean) (sym x.1) ∙ other)
    | inr x ↦ h j u x.1 clean out
  ]

-- a step is one change of the world
abbrev pub OneChange : Type 0
OneChange = (f : Formats) (w : World) (who : ℕ) (step : Step) (reply : Reply) (image : Option Image) → StepChange f w who step (answered f w who step reply image)

abbrev pub IsTake : Step → Type 0
IsTake TakeStep = Unit {0}
IsTake step = ⊥

module _ (f : Formats) (w : World) (h : NoneCleans w.tickets) where
  -- but for a take
  kept : (who : ℕ) (step : Step) (new : World) → StepChange f w who step new → (IsTake step → ⊥) → NoneCleans new.tickets
  kept who step new (NewTicket take t is ops same) no_take = absurd (no_take (subst IsTake (sym take) tt))
  kept who step new (OwnTicket t v there unit settled next_id pending id_above above) no_take = goes_on w.tickets h who t v there unit.clean unit.out
  kept who step new (Settlement is t s n names deletes there swapped raised left) no_take = goes_on w.tickets h who t (record t { settled = true }) there refl (λ is. is)
  kept who step new (UnitEnd t op v completed there op_there same) no_take = ends w.tickets h who t
  kept who step new (DeletionFailure t x there found) no_take = ends w.tickets h who t
  kept who step new (OpDrop is t there) no_take = ends w.tickets h who t
  kept who step new (SwapFault e up change) no_take = kept who step up change no_take
  kept who step new other no_take = h

  -- a take that gives no cleanup
  shard : (o : ℕ) (op : Op) (base : Option ℕ) (s : Option ShardWork) → NoneCleans (taken_shard w o op base s).tickets
  shard o op base None = h
  shard o op base (Some s) = comes w.tickets h w.next_ticket (shard_ticket w o op s base) refl

  restored : (o : ℕ) (r : Restoring) (s : Option RestoreShard) → NoneCleans (taken_restore_shard w o r s).tickets
  restored o r None = h
  restored o r (Some s) = h

  restore : (o index number : ℕ) (r : Option Restoring) → NoneCleans (taken_restore w o index number r).tickets
  restore o index number None = h
  restore o index number (Some r) = restored o r (restore_shard r.shards index number)

  taken : (o : ℕ) (unit : Given) (op : Option Op) → unit ≢ GivenCleanup → NoneCleans (taken_by f w o unit op).tickets
  taken o (GivenShard index number base) (Some op) other = shard o op base (shard_of op.shards index number)
  taken o (GivenClone index number source base) (Some op) other = shard o op base (shard_of op.shards index number)
  taken o (GivenFinalize info results) (Some op) other = comes w.tickets h w.next_ticket (final_ticket f w o op results) refl
  taken o GivenDrop op other = comes w.tickets h w.next_ticket (plain_ticket w o Drop) refl
  taken o (GivenRestore index number uuid) op other = restore o index number (fin.get w.restores o)
  taken o (GivenDelete uuids) op other = comes w.tickets h w.next_ticket (plain_ticket w o (Deleting uuids None)) refl
  taken o GivenCleanup op other = absurd (other refl)
  taken o unit op other = h

  take : (who : ℕ) (reply : Reply) (image : Option Image) → ((k o : ℕ) → reply ≢ Gave k o GivenCleanup) → NoneCleans (answered f w who TakeStep reply image).tickets
  take who (Gave k o unit) image other = taken o unit (fin.get w.ops o) (λ e. other k o (ap (λ (u : Given). Gave k o u) e))
  take who (Refused DepotFault) image other = h
  take who reply image other = h

  by_step : OneChange → (who : ℕ) (step : Step) (reply : Reply) (image : Option Image) → ((k o : ℕ) → reply ≢ Gave k o GivenCleanup) → NoneCleans (answered f w who step reply image).tickets
  by_step change who TakeStep reply image other = take who reply image other
  by_step change who step reply image other = kept who step (answered f w who step reply image) (change f w who step reply image) (λ x. x)

-- ---- who 0

told_drawn : (c : Caller) (name : BlobName) (found : Option Bytes) → (caller_told c name found).drawn ≡ c.drawn
told_drawn c name None = refl
told_drawn c name (Some b) = refl

wrote_drawn : (c : Caller) (name : BlobName) (found : Option Bytes) → (caller_wrote c name found).drawn ≡ c.drawn
wrote_drawn c name None = refl
wrote_drawn c name (Some b) = refl

ended_drawn : (c : Caller) (reply : Reply) (id : ℕ) → (caller_ended c reply).drawn ≡ Some id → c.drawn ≡ Some id
ended_drawn c HasEnded id e = absurd (some_none id (sym e))
ended_drawn c reply id e = e

anew_drawn : (c next : Caller) (anew : Bool) (id : ℕ) → next.drawn ≡ None → (if anew then next else c).drawn ≡ Some id → c.drawn ≡ Some id
anew_drawn c next true id none e = absurd (some_none id (sym e ∙ none))
anew_drawn c next false id none e = e

read_drawn : (f : Formats) (c : Caller) (read : Read) (reply : Reply) (image : Option Image) (id : ℕ) → (caller_read f c read reply image).drawn ≡ Some id → (c.drawn ≡ Some id) ⊎ (read ≡ DrawTest)
read_drawn f c (ReadBlob name) WasFetched image id e = inl (sym (told_drawn c name (told_blob f image name)) ∙ e)
read_drawn f c (CheckedAll snapshots blobs) reply image id e = inl (ended_drawn c reply id e)
read_drawn f c DrawTest reply image id e = inr refl
read_drawn f c (CommitTest name) WasDone image id e = inl (sym (wrote_drawn c name (told_blob f image name)) ∙ e)
read_drawn f c (RemoveTests names) WasRemoved image id e = inl e
read_drawn f c VerifiedAll reply image id e = inl (ended_drawn c reply id e)
read_drawn f c (ReadFails why) reply image id e = inl (ended_drawn c reply id e)
read_drawn f c read reply image id e = inl e

by_drawn : (f : Formats) (c : Caller) (who : ℕ) (read : Read) (reply : Reply) (image : Option Image) (id : ℕ) → (caller_by f c who read reply image).drawn ≡ Some id → (c.drawn ≡ Some id) ⊎ ((who ≡ 0) × (read ≡ DrawTest))
by_drawn f c zero read reply image id e = elim (read_drawn f c read reply image id e) [ inl was ↦ inl was | inr draws ↦ inr (refl, draws) ]
by_drawn f c (suc k) read reply image id e = inl e

-- a verification that is open after a step was open before it, or begins with it
drawn_was : (f : Formats) (c : Caller) (who : ℕ) (step : Step) (reply : Reply) (image : Option Image) (id : ℕ) → (caller_after f c who step reply image).drawn ≡ Some id
    → (c.drawn ≡ Some id) ⊎ ((who ≡ 0) × (step ≡ ReadStep DrawTest))
drawn_was f c who (AskStep command) reply image id e = inl (anew_drawn c no_caller (is_heard reply) id refl e)
drawn_was f c who LookStep reply image id e = inl (anew_drawn c (record no_caller { looked = true }) (is_heard reply) id refl e)
drawn_was f c who (ReadStep read) reply image id e = elim (by_drawn f c who read reply image id e) [ inl was ↦ inl was | inr draws ↦ inr (draws.0, ap (λ (r : Read). ReadStep r) draws.1) ]
drawn_was f c who step reply image id e = inl e

-- ---- over a history

opened_alone : (f : Formats) (image : Image) (w : World) → Opened f image w → IsAlone w
opened_alone f image w (OpenedEmpty none) id k t drawn there clean out = some_none id (sym drawn)
opened_alone f image w (OpenedRecord cluster text root is reads of_root) id k t drawn there clean out = some_none id (sym drawn)

module _ (change : OneChange) (s : Start) (log : List Moment) (image : Image) (opened : Opened (formats_of s) image s.world) (apart : AreTestsApart s log) where
  abbrev AloneAt : List Moment → Type 0
  AloneAt front = IsAlone (world_of s front)

  one : (front back : List Moment) (m : Moment) → log ≡ front ++ m ∷ back → AloneAt front → AloneAt (front ++ m ∷ [])
  one front back m is h id k t drawn there clean out =
      let f : Formats = formats_of s in
      let w : World = world_of s front in
      let now : (caller_after f w.caller m.entry.who m.entry.step m.entry.reply m.image).drawn ≡ Some id = sym (ap (λ (c : Caller). c.drawn) (caller_one s front m)) ∙ drawn in
      let next : NoneCleans (answered f w m.entry.who m.entry.step m.entry.reply m.image).tickets = elim (drawn_was f w.caller m.entry.who m.entry.step m.entry.reply m.image id now) [
        | inl was ↦ by_step f w (λ j u. h id j u was) change m.entry.who m.entry.step m.entry.reply m.image (λ ticket op gave. some_none id (sym was ∙ apart.given front back m ticket op is gave))
        | inr draws ↦
            kept f w
            (λ j u e cleans is_out. true≢false (sym is_out ∙ sym (ap (λ (o : Option Ticket). (or_no_ticket o).out) e) ∙ apart.drawn front back m is draws.0 draws.1 j (ap (λ (o : Option Ticket). (or_no_ticket o).clean) e ∙ cleans)))
            m.entry.who m.entry.step (answered f w m.entry.who m.entry.step m.entry.reply m.image) (change f w m.entry.who m.entry.step m.entry.reply m.image) (λ takes. subst IsTake draws.1 takes)
      ] in
      next k t (ap (λ (x : World). fin.get x.tickets k) (sym (world_parts f front (m ∷ []) s.world)) ∙ there) clean out

  along : (done rest back : List Moment) → log ≡ done ++ (rest ++ back) → AloneAt done → AloneAt (done ++ rest)
  along done [] back is h = subst AloneAt (sym (append-nil done)) h
  along done (m ∷ rest) back is h =
      subst AloneAt (append_assoc done (m ∷ []) rest)
      (along (done ++ m ∷ []) rest back (is ∙ sym (append_assoc done (m ∷ []) (rest ++ back))) (one done (rest ++ back) m is h))

  pub all_alone : (front back : List Moment) → log ≡ front ++ back → IsAlone (world_from (formats_of s) s.world front)
  all_alone front back is = along [] front back is (opened_alone (formats_of s) image s.world opened)
