-- Where nobody asks while a ticket is out no delete aborts the op of one, so that no step is blocked.
use Rattle.std.proofs.Common.{◌≡◌, ◌≢◌, ℕ, true, false, true≢false, List, [], ◌∷◌, ◌++◌, append-nil, append_assoc, map, Option, Some, None, refl, sym, ap, ◌∙◌, subst, inl, inr}
use Rattle.std.specs.FinMap as fin
use Rattle.std.proofs.lemmas.Option.{same_Some}
use Rattle.esr_model.specs.Values.{Formats}
use Rattle.esr_model.specs.Image.{Image}
use Rattle.esr_core.specs.World.{World, Op, Deletion, ShardWork, Deleting, Drop, Swap, Ticket, RestoreShard, Restoring, Opened, OpenedEmpty, OpenedRecord}
use Rattle.esr_core.specs.Steps.{given, shard_ticket, final_ticket, plain_ticket}
use Rattle.esr_core.specs.Turns.{cleaning_ticket}
use Rattle.esr_core.specs.Entry.{Asked, Given, GivenShard, GivenFinalize, GivenDrop, GivenRestore, GivenClone, GivenDelete, GivenCleanup, Step, AskStep, TakeStep, Refusal, DepotFault, Reply, Gave, Refused, Moment}
use Rattle.esr_core.specs.After.{taken_by, taken_shard, taken_restore, taken_restore_shard, answered, after}
use Rattle.esr_core.specs.Allowed.{Gives, GivesShard, Blocks, ByFailedSwap, ByDelete, Allowed}
use Rattle.esr_core.specs.Changes.{IsAsk, SameUnit, StepChange, NewOp, NewDeletion, MergedDeletion, NewTicket, OwnTicket, Settlement, UnitEnd, DeletionFailure, OpDrop, SwapFault}
use Rattle.esr_core.specs.Laws.ChangeLaws.{settled_unit, change_of}
use Rattle.esr_core.specs.Laws.TakeAnswers.{take_gave}
use Rattle.esr_desk.specs.Start.{Start, formats_of, world_of, or_no_ticket}
use Rattle.esr_quiet.specs.Smooth.{IsSmooth}
use Rattle.esr_quiet.specs.Prefixes.{Prefixes}
use Rattle.esr_quiet.specs.Askers.{AsksOrElects, asker}
use Rattle.esr_core.specs.Laws.NumberMaps.{some_none, nothing, same_in, was_in, left_in}
use Rattle.esr_core.specs.Laws.Maps.{Tickets, Ops}
use Rattle.esr_core.specs.Laws.Histories.{world_parts}
use Rattle.esr_quiet.specs.PrefixLaws.{quiet_at, legal_at}
use Rattle.esr_quiet.proofs.Alone.{IsTake}

-- no ticket that is out is of an op that was aborted, unless it drops that
abbrev AreUnaborted : Ops → Tickets → Type 0
AreUnaborted ops tickets = (k : ℕ) (t : Ticket) (op : Op) → fin.get tickets k ≡ Some t → t.out ≡ true → t.work ≢ Drop → fin.get ops t.op ≡ Some op → op.aborted ≡ None

abbrev AreUnabortedIn : World → Type 0
AreUnabortedIn w = AreUnaborted w.ops w.tickets

abbrev NoneOutIn : Tickets → Type 0
NoneOutIn tickets = (k : ℕ) (t : Ticket) → fin.get tickets k ≡ Some t → t.out ≡ true → ⊥

-- ---- ops

-- none is aborted that was not
abbrev GoOn : Ops → Ops → Type 0
GoOn was now = (o : ℕ) (v : Op) → fin.get now o ≡ Some v → (op : Op) × (fin.get was o ≡ Some op) × (v.aborted ≡ op.aborted)

ops_same : (ops : Ops) → GoOn ops ops
ops_same ops o v e = (v, e, refl)

ops_put : (ops : Ops) (o : ℕ) (op v : Op) → fin.get ops o ≡ Some op → v.aborted ≡ op.aborted → GoOn ops (fin.insert ops o v)
ops_put ops o op v there same p u e = elim (was_in ops o v p u e) [
  | inl x ↦ (op, ap (fin.get ops) x.0 ∙ there, ap (λ (q : Op). q.aborted) (sym x.1) ∙ same)
  | inr x ↦ (u, x.1, refl)
]

ops_less : (ops : Ops) (o : ℕ) → GoOn ops (fin.remove ops o)
ops_less ops o p u e = (u, (left_in ops o p u e).1, refl)

-- ---- tickets

deleting_drop : (uuids : List ℕ) (plan : Option Swap) → Deleting uuids plan ≡ Drop → ⊥
deleting_drop uuids plan e = cc

was_drop : (t v : Ticket) → SameUnit t v → t.work ≡ Drop → v.work ≡ Drop
was_drop t v unit drop = elim unit.work [ inl same ↦ same ∙ drop | inr planned ↦ absurd (deleting_drop planned.0 planned.1 (sym planned.3 ∙ drop)) ]

none_out : (ops : Ops) (tickets : Tickets) → NoneOutIn tickets → AreUnaborted ops tickets
none_out ops tickets none k t op there out work op_there = absurd (none k t there out)

module _ (was now : Ops) (on : GoOn was now) (tickets : Tickets) (h : AreUnaborted was tickets) where
  -- they stay
  stay : AreUnaborted now tickets
  stay k t op there out work op_there = let (old, old_there, same) = on t.op op op_there in same ∙ h k t old there out work old_there

  -- one goes on as the same unit
  goes_on : (k : ℕ) (t v : Ticket) → fin.get tickets k ≡ Some t → SameUnit t v → AreUnaborted now (fin.insert tickets k v)
  goes_on k t v there unit j u op e out work op_there = elim (was_in tickets k v j u e) [
    | inl x ↦
        let same_unit : SameUnit t u = subst (SameUnit t) x.1 unit in
        stay k t op there (same_unit.out out) (λ drop. work (was_drop t u same_unit drop)) (ap (fin.get now) (sym same_unit.op) ∙ op_there)
    | inr x ↦ stay j u op x.1 out work op_there
  ]

  -- one ends
  ends : (k : ℕ) (t : Ticket) → AreUnaborted now (fin.insert tickets k (record t { out = false }))
  ends k t j u op e out work op_there = elim (was_in tickets k (record t { out = false }) j u e) [
    | inl x ↦ absurd (true≢false (sym out ∙ sym (ap (λ (y : Ticket). y.out) x.1)))
    | inr x ↦ stay j u op x.1 out work op_there
  ]

  -- one comes
  comes : (k : ℕ) (t : Ticket) → ((op : Op) → t.work ≢ Drop → fin.get now t.op ≡ Some op → op.aborted ≡ None) → AreUnaborted now (fin.insert tickets k t)
  comes k t mine j u op e out work op_there = elim (was_in tickets k t j u e) [
    | inl x ↦ subst (λ (y : Ticket). y.work ≢ Drop → fin.get now y.op ≡ Some op → op.aborted ≡ None) x.1 (mine op) work op_there
    | inr x ↦ stay j u op x.1 out work op_there
  ]

-- ---- each step

module _ (f : Formats) (w : World) (h : AreUnabortedIn w) where
  -- but for a take
  kept : (who : ℕ) (step : Step) (new : World) → StepChange f w who step new → (IsAsk step → NoneOutIn w.tickets) → (IsTake step → ⊥) → AreUnabortedIn new
  kept who step new (NewOp ask op completed next_id is above) none no_take = none_out (fin.insert w.ops w.next_op op) w.tickets (none ask)
  kept who step new (NewDeletion ask ops x aborts clean) none no_take = none_out ops w.tickets (none ask)
  kept who step new (MergedDeletion ask ops d x v aborts there clean failed) none no_take = none_out ops w.tickets (none ask)
  kept who step new (NewTicket take t is ops same) none no_take = absurd (no_take (subst IsTake (sym take) tt))
  kept who step new (OwnTicket t v there unit settled next_id pending id_above above) none no_take = goes_on w.ops w.ops (ops_same w.ops) w.tickets h who t v there unit
  kept who step new (Settlement is t s n names deletes there swapped raised left) none no_take = goes_on w.ops (fin.remove w.ops t.op) (ops_less w.ops t.op) w.tickets h who t (record t { settled = true }) there (settled_unit t)
  kept who step new (UnitEnd t op v completed there op_there same) none no_take = ends w.ops (fin.insert w.ops t.op v) (ops_put w.ops t.op op v op_there same.aborted) w.tickets h who t
  kept who step new (DeletionFailure t x there found) none no_take = ends w.ops w.ops (ops_same w.ops) w.tickets h who t
  kept who step new (OpDrop is t there) none no_take = ends w.ops (fin.remove w.ops t.op) (ops_less w.ops t.op) w.tickets h who t
  kept who step new (SwapFault e up change) none no_take = kept who step up change none no_take
  kept who step new other none no_take = h

  -- a take: the op of a shard or a finalization was not aborted, and a delete is no op
  module _ (apart : (o : ℕ) (op : Op) (x : Deletion) → fin.get w.ops o ≡ Some op → fin.get w.deletes o ≡ Some x → ⊥) where
    gives_shard : (o index number : ℕ) (source base : Option ℕ) (g : GivesShard w o index number source base) → AreUnabortedIn (taken_shard w o g.op base (Some g.s))
    gives_shard o index number source base g =
        let v : Op = record g.op { shards = map (given w.next_ticket g.s.ref.id g.s.number) g.op.shards } in
        comes w.ops (fin.insert w.ops o v) (ops_put w.ops o g.op v g.ready.op_there refl) w.tickets h w.next_ticket (shard_ticket w o g.op g.s base)
        (λ op work there. ap (λ (q : Op). q.aborted) (same_Some op v (sym there ∙ same_in w.ops o v)) ∙ g.ready.goes.unaborted)

    gives : (o : ℕ) (unit : Given) → Gives f w o unit → AreUnabortedIn (taken_by f w o unit (fin.get w.ops o))
    gives o (GivenShard index number base) g =
        subst (λ (y : Option Op). AreUnabortedIn (taken_by f w o (GivenShard index number base) y)) (sym g.ready.op_there)
        (subst (λ (y : Option ShardWork). AreUnabortedIn (taken_shard w o g.op base y)) (sym g.found) (gives_shard o index number None base g))
    gives o (GivenClone index number source base) g =
        subst (λ (y : Option Op). AreUnabortedIn (taken_by f w o (GivenClone index number source base) y)) (sym g.ready.op_there)
        (subst (λ (y : Option ShardWork). AreUnabortedIn (taken_shard w o g.op base y)) (sym g.found) (gives_shard o index number (Some source) base g))
    gives o (GivenFinalize info results) g =
        subst (λ (y : Option Op). AreUnabortedIn (taken_by f w o (GivenFinalize info results) y)) (sym g.ready.op_there)
        (comes w.ops w.ops (ops_same w.ops) w.tickets h w.next_ticket (final_ticket f w o g.op results)
        (λ op work there. ap (λ (q : Op). q.aborted) (same_Some op g.op (sym there ∙ g.ready.op_there)) ∙ g.ready.goes.unaborted))
    gives o GivenDrop g = comes w.ops w.ops (ops_same w.ops) w.tickets h w.next_ticket (plain_ticket w o Drop) (λ op work there. absurd (work refl))
    gives o (GivenRestore index number uuid) g =
        subst (λ (y : Option Restoring). AreUnabortedIn (taken_restore w o index number y)) (sym g.ready.there)
        (subst (λ (y : Option RestoreShard). AreUnabortedIn (taken_restore_shard w o g.r y)) (sym g.found) h)
    gives o (GivenDelete uuids) g =
        comes w.ops w.ops (ops_same w.ops) w.tickets h w.next_ticket (plain_ticket w o (Deleting uuids None)) (λ op work there. absurd (apart o op g.0 there g.1.there))
    gives o GivenCleanup g = comes w.ops w.ops (ops_same w.ops) w.tickets h w.next_ticket (cleaning_ticket w o) (λ op work there. absurd (apart o op g.0 there g.1.there))

    take : (who : ℕ) (reply : Reply) (image : Option Image) → ((k o : ℕ) (unit : Given) → reply ≡ Gave k o unit → Gives f w o unit) → AreUnabortedIn (answered f w who TakeStep reply image)
    take who (Gave k o unit) image given = gives o unit (given k o unit refl)
    take who (Refused DepotFault) image given = h
    take who reply image given = h

    by_step : (who : ℕ) (step : Step) (reply : Reply) (image : Option Image) → ((k o : ℕ) (unit : Given) → reply ≡ Gave k o unit → Gives f w o unit) → (IsAsk step → NoneOutIn w.tickets)
        → AreUnabortedIn (answered f w who step reply image)
    by_step who TakeStep reply image given none = take who reply image given
    by_step who step reply image given none = kept who step (answered f w who step reply image) (change_of f w who step reply image) none (λ x. x)

-- ---- over a history

asked_is : (step : Step) → IsAsk step → (command : Asked) × (step ≡ AskStep command)
asked_is (AskStep command) ask = (command, refl)
asked_is step ask = absurd ask

opened_unaborted : (f : Formats) (image : Image) (w : World) → Opened f image w → AreUnabortedIn w
opened_unaborted f image w (OpenedEmpty none) k t op there out work op_there = absurd (nothing fin.empty k t refl there)
opened_unaborted f image w (OpenedRecord cluster text root is reads of_root) k t op there out work op_there = absurd (nothing fin.empty k t refl there)

module _ (s : Start) (log : List Moment) (smooth : IsSmooth s log) (prefixes : Prefixes s log) where
  abbrev UnabortedAt : List Moment → Type 0
  UnabortedAt front = AreUnabortedIn (world_of s front)

  -- a world in which no op of a ticket is aborted blocks no step
  unblocked : (front back : List Moment) → log ≡ front ++ back → UnabortedAt front → (who : ℕ) (step : Step) (refusal : Refusal) → Blocks (world_of s front) who step refusal → ⊥
  unblocked front back is h who step _ (ByFailedSwap place deposed) = true≢false (sym deposed ∙ (quiet_at s log smooth front back is).present)
  unblocked front back is h who step _ (ByDelete by undeposed a) = some_none by (sym a.by_is ∙ h who a.t a.op a.out.there a.out.out a.no_drop a.op_there)

  none_asks : (front back : List Moment) (m : Moment) → log ≡ front ++ m ∷ back → UnabortedAt front → IsAsk m.entry.step → NoneOutIn (world_of s front).tickets
  none_asks front back m is h ask k t there out =
      let (command, step) = asked_is m.entry.step ask in
      let who : m.entry.who ≡ 0 = elim (asker (formats_of s) s.part_size (world_of s front) m (legal_at s log smooth front back m is) (subst AsksOrElects (sym step) tt)) [
        | inl zero ↦ zero
        | inr blocked ↦ absurd (unblocked front (m ∷ back) is h m.entry.who m.entry.step blocked.refusal blocked.blocks)
      ] in
      true≢false (sym out ∙ sym (ap (λ (o : Option Ticket). (or_no_ticket o).out) there) ∙ smooth.apart front back m command is who step k)

  one : (front back : List Moment) (m : Moment) → log ≡ front ++ m ∷ back → UnabortedAt front → UnabortedAt (front ++ m ∷ [])
  one front back m is h =
      let f : Formats = formats_of s in
      let w : World = world_of s front in
      let a : Allowed f s.part_size w m = legal_at s log smooth front back m is in
      let law = prefixes.lawful front (m ∷ back) is in
      let next : AreUnabortedIn (after f w m) =
      by_step f w h law.1.lawful.queue.apart m.entry.who m.entry.step m.entry.reply m.image (λ k o unit gave. (take_gave f s.part_size w m k o unit a gave).gives) (none_asks front back m is h) in
      subst AreUnabortedIn (sym (world_parts f front (m ∷ []) s.world)) next

  along : (done rest back : List Moment) → log ≡ done ++ (rest ++ back) → UnabortedAt done → UnabortedAt (done ++ rest)
  along done [] back is h = subst UnabortedAt (sym (append-nil done)) h
  along done (m ∷ rest) back is h =
      subst UnabortedAt (append_assoc done (m ∷ []) rest)
      (along (done ++ m ∷ []) rest back (is ∙ sym (append_assoc done (m ∷ []) (rest ++ back))) (one done (rest ++ back) m is h))

  -- no step is blocked
  pub none_blocked : (front back : List Moment) → log ≡ front ++ back → (who : ℕ) (step : Step) (refusal : Refusal) → Blocks (world_of s front) who step refusal → ⊥
  none_blocked front back is who step refusal blocks = unblocked front back is (along [] front back is (opened_unaborted (formats_of s) smooth.image s.world smooth.opened)) who step refusal blocks
