-- No shard of an op is given twice: once it was given it is never pending again.
use Rattle.std.proofs.Common.{◌≡◌, ℕ, ◌<◌, List, [], ◌∷◌, map, Bool, true, false, Option, Some, None, refl, sym, ap, ◌∙◌, subst, inl, inr, arith, nat_cmp}
use Rattle.std.specs.Prelude.{if◌then◌else◌, ◌==◌, ◌&&◌}
use Rattle.std.proofs.lemmas.Bool.{eq-eqb}
use Rattle.std.specs.FinMap.{FinMap}
use Rattle.std.specs.FinMap as fin
use Rattle.std.proofs.lemmas.Option.{same_Some, none-some}
use Rattle.esr_model.specs.Lists.{Has-mapped}
use Rattle.esr_model.specs.Values.{Has, IndexRef, Formats}
use Rattle.esr_model.specs.Image.{Image}
use Rattle.esr_core.specs.World.{World, Op, ShardWork, Pending, Out, RestoreShard, Restoring, Shard, Finalize, Deleting, Drop, Ticket, Swap, info_of, made_of}
use Rattle.esr_core.specs.Steps.{given, shard_ticket, final_ticket, plain_ticket}
use Rattle.esr_core.specs.Turns.{cleaning_ticket}
use Rattle.esr_core.specs.Tracked.{Tracked}
use Rattle.esr_core.specs.Changes.{SameUnit, StepFrame, StepChange, NewTicket, NewReader, OwnTicket, Settlement, UnitEnd, DeletionFailure, OpDrop, SwapFault}
use Rattle.esr_core.specs.Entry.{Given, GivenShard, GivenClone, GivenFinalize, GivenDrop, GivenRestore, GivenDelete, GivenCleanup, Step, TakeStep, Refusal, Refused, Reply, Moment}
use Rattle.esr_core.specs.After.{shard_of, taken_shard, taken_restore_shard, taken_restore, taken_by, answered, after}
use Rattle.esr_core.specs.Restores.{restore_shard}
use Rattle.esr_core.specs.Allowed as allowed
use Rattle.esr_core.specs.Allowed.{GivesShard, Gives, Allows, Blocks, ByFailedSwap, ByDelete, IsBlocked, Allowed}
use Rattle.esr_core.specs.History.{world_from, IsLegal}
use Rattle.esr_bounds.specs.Keys.{IsUntouched}
use Rattle.esr_core.specs.Laws.NumberMaps.{nothing, was_in, same_in}
use Rattle.esr_bounds.proofs.Works.{answered_works}

-- the shard of the op isn't pending, if the op is open
abbrev pub IsPast : FinMap nat_cmp Op → ℕ → ℕ → ℕ → Type 0
IsPast ops o index number = (op : Op) (s : ShardWork) → fin.get ops o ≡ Some op → Has op.shards s → s.ref.id ≡ index → s.number ≡ number → s.state ≡ Pending → ⊥

-- each shard that a ticket has is past, and no two tickets have one
pub record GivenOnce (w : World) : Type 0 where
  pub past : (k : ℕ) (t : Ticket) (index number : ℕ) → fin.get w.tickets k ≡ Some t → t.work ≡ Shard index number → IsPast w.ops t.op index number
  pub one : (j k : ℕ) (t u : Ticket) (index number : ℕ) → fin.get w.tickets j ≡ Some t → fin.get w.tickets k ≡ Some u → t.work ≡ Shard index number → u.work ≡ Shard index number → t.op ≡ u.op → j ≡ k

-- ---- a ticket is given by a take alone

module _ (f : Formats) (w : World) (tracked : Tracked w) where
  pub none_next : (v : Ticket) → fin.get w.tickets w.next_ticket ≡ Some v → ⊥
  none_next v there = let below : w.next_ticket < w.next_ticket = (tracked.tickets w.next_ticket v there).0 in omega (arith, below)

  -- what is put at a ticket that was there is no new one
  put_none : (who : ℕ) (t u v : Ticket) → fin.get w.tickets who ≡ Some t → fin.get (fin.insert w.tickets who u) w.next_ticket ≡ Some v → ⊥
  put_none who t u v there now = elim (was_in w.tickets who u w.next_ticket v now) [
    | inl here ↦ none_next t (ap (fin.get w.tickets) here.0 ∙ there)
    | inr other ↦ none_next v other.1
  ]

  pub by_take : (who : ℕ) (step : Step) (new : World) → StepChange f w who step new → (v : Ticket) → fin.get new.tickets w.next_ticket ≡ Some v → step ≡ TakeStep
  by_take who step new (NewTicket take t is ops same) v now = take
  by_take who step new (NewReader take o r s there) v now = take
  by_take who step new (OwnTicket t u there same is next pending up more) v now = absurd (put_none who t u v there now)
  by_take who step new (Settlement settle t s n names deletes there is raised left) v now = absurd (put_none who t (record t { settled = true }) v there now)
  by_take who step new (UnitEnd t op u completed there standing same) v now = absurd (put_none who t (record t { out = false }) v there now)
  by_take who step new (DeletionFailure t x there standing) v now = absurd (put_none who t (record t { out = false }) v there now)
  by_take who step new (OpDrop drop t there) v now = absurd (put_none who t (record t { out = false }) v there now)
  by_take who step new (SwapFault swaps up change) v now = by_take who step up change v now
  by_take who step new other v now = absurd (none_next v now)

-- ---- the ticket of a shard that is given

-- it is that of a pending shard of an open op, which goes on with this shard out
pub record FreshShard (w : World) (ops : FinMap nat_cmp Op) (v : Ticket) : Type 0 where
  pub op : Op
  pub there : fin.get w.ops v.op ≡ Some op
  pub s : ShardWork
  pub s_there : Has op.shards s
  pub pending : s.state ≡ Pending
  pub work : v.work ≡ Shard s.ref.id s.number
  pub place : v.place ≡ s.place
  pub name : v.name ≡ s.ref.name
  pub source : v.source ≡ op.source
  pub ops_are : ops ≡ fin.insert w.ops v.op (record op { shards = map (given w.next_ticket s.ref.id s.number) op.shards })

module _ (f : Formats) (size : ℕ) (w : World) (tracked : Tracked w) where
  -- of a shard of this op
  gave_shard : (o index number : ℕ) (source base : Option ℕ) (g : GivesShard w o index number source base) (op : Option Op) (found : Option ShardWork) (v : Ticket) → op ≡ Some g.op → found ≡ Some g.s
      → fin.get (taken_shard w o g.op base found).tickets w.next_ticket ≡ Some v → FreshShard w (taken_shard w o g.op base found).ops v
  gave_shard o index number source base g op None v is there now = absurd (none-some g.s there)
  gave_shard o index number source base g op (Some s) v is there now =
      let mine : shard_ticket w o g.op s base ≡ v = same_Some (shard_ticket w o g.op s base) v (sym (same_in w.tickets w.next_ticket (shard_ticket w o g.op s base)) ∙ now) in
      subst (FreshShard w (fin.insert w.ops o (record g.op { shards = map (given w.next_ticket s.ref.id s.number) g.op.shards }))) mine
      (record {
        op = g.op;
        there = g.ready.op_there;
        s = s;
        s_there = subst (Has g.op.shards) (sym (same_Some s g.s there)) g.ready.s_there;
        pending = ap (λ (x : ShardWork). x.state) (same_Some s g.s there) ∙ g.ready.pending;
        work = refl;
        place = refl;
        name = refl;
        source = refl;
        ops_are = refl;
      })

  shard_by : (o index number : ℕ) (source base : Option ℕ) → GivesShard w o index number source base → (unit : Given) → ((op : Option Op) → taken_by f w o unit op ≡ taken_by f w o (GivenShard index number base) op) → (v : Ticket)
      → fin.get (taken_by f w o unit (fin.get w.ops o)).tickets w.next_ticket ≡ Some v → FreshShard w (taken_by f w o unit (fin.get w.ops o)).ops v
  shard_by o index number source base g unit same v now =
      subst (λ (x : World). FreshShard w x.ops v) (sym there)
      (gave_shard o index number source base g (Some g.op) (shard_of g.op.shards index number) v refl g.found (subst (λ (x : World). fin.get x.tickets w.next_ticket ≡ Some v) there now))
    where
      there : taken_by f w o unit (fin.get w.ops o) ≡ taken_shard w o g.op base (shard_of g.op.shards index number)
      there = same (fin.get w.ops o) ∙ ap (taken_by f w o (GivenShard index number base)) g.ready.op_there

  -- a restore's shard is given no ticket of these
  read_none : (o : ℕ) (r : Option Restoring) (index number : ℕ) (v : Ticket) → fin.get (taken_restore w o index number r).tickets w.next_ticket ≡ Some v → ⊥
  read_none o None index number v now = none_next f w tracked v now
  read_none o (Some r) index number v now = by (restore_shard r.shards index number) now
    where
      by : (s : Option RestoreShard) → fin.get (taken_restore_shard w o r s).tickets w.next_ticket ≡ Some v → ⊥
      by None now = none_next f w tracked v now
      by (Some s) now = none_next f w tracked v now

  -- whichever unit is given
  unit_by : (o : ℕ) (unit : Given) → Gives f w o unit → (v : Ticket) (index number : ℕ) → fin.get (taken_by f w o unit (fin.get w.ops o)).tickets w.next_ticket ≡ Some v → v.work ≡ Shard index number
      → FreshShard w (taken_by f w o unit (fin.get w.ops o)).ops v
  unit_by o (GivenShard i n base) g v index number now is = shard_by o i n None base g (GivenShard i n base) (λ op. refl) v now
  unit_by o (GivenClone i n source base) g v index number now is = shard_by o i n (Some source) base g (GivenClone i n source base) same v now
    where
      same : (op : Option Op) → taken_by f w o (GivenClone i n source base) op ≡ taken_by f w o (GivenShard i n base) op
      same None = refl
      same (Some op) = refl
  unit_by o (GivenRestore i n uuid) g v index number now is = absurd (read_none o (fin.get w.restores o) i n v now)
  unit_by o (GivenFinalize info results) g v index number now is = absurd (by (fin.get w.ops o) now)
    where
      by : (op : Option Op) → fin.get (taken_by f w o (GivenFinalize info results) op).tickets w.next_ticket ≡ Some v → ⊥
      by None now = none_next f w tracked v now
      by (Some op) now = no_shard (ap (λ (x : Ticket). x.work) (same_Some _ v (sym (same_in w.tickets w.next_ticket (final_ticket f w o op results)) ∙ now)) ∙ is)
        where
          no_shard : Finalize (info_of op results) results (made_of f w.blobs op) ≡ Shard index number → ⊥
          no_shard e = cc
  unit_by o GivenDrop g v index number now is = absurd (no_shard (ap (λ (x : Ticket). x.work) (same_Some _ v (sym (same_in w.tickets w.next_ticket (plain_ticket w o Drop)) ∙ now)) ∙ is))
    where
      no_shard : Drop ≡ Shard index number → ⊥
      no_shard e = cc
  unit_by o (GivenDelete uuids) g v index number now is = absurd (no_shard (ap (λ (x : Ticket). x.work) (same_Some _ v (sym (same_in w.tickets w.next_ticket (plain_ticket w o (Deleting uuids None))) ∙ now)) ∙ is))
    where
      no_shard : Deleting uuids None ≡ Shard index number → ⊥
      no_shard e = cc
  unit_by o GivenCleanup g v index number now is = absurd (no_shard (ap (λ (x : Ticket). x.work) (same_Some _ v (sym (same_in w.tickets w.next_ticket (cleaning_ticket w o)) ∙ now)) ∙ is))
    where
      no_shard : Deleting [] None ≡ Shard index number → ⊥
      no_shard e = cc

  take_by : (who : ℕ) (reply : Reply) (image : Option Image) → Allows f size w who TakeStep reply image → (v : Ticket) (index number : ℕ) → fin.get (answered f w who TakeStep reply image).tickets w.next_ticket ≡ Some v
      → v.work ≡ Shard index number
      → FreshShard w (answered f w who TakeStep reply image).ops v
  take_by who reply image (allowed.GivingNothing im none same) v index number now is = absurd (none_next f w tracked v now)
  take_by who reply image (allowed.Giving k o unit im number_is lowest g same) v index number now is = unit_by o unit g v index number now is

-- the one of this index and number is out
out_now : (k index number : ℕ) (z s : ShardWork) → given k index number z ≡ s → s.ref.id ≡ index → s.number ≡ number → s.state ≡ Pending → ⊥
out_now k index number z s is index_is number_is pending = by ((z.ref.id == index) && (z.number == number)) refl
  where
    kept : (b : Bool) → (if b then record z { state = Out k } else z).ref ≡ z.ref
    kept true = refl
    kept false = refl

    kept_number : (b : Bool) → (if b then record z { state = Out k } else z).number ≡ z.number
    kept_number true = refl
    kept_number false = refl

    z_index : z.ref.id ≡ index
    z_index = ap (λ (r : IndexRef). r.id) (sym (kept ((z.ref.id == index) && (z.number == number))) ∙ ap (λ (x : ShardWork). x.ref) is) ∙ index_is

    z_number : z.number ≡ number
    z_number = sym (kept_number ((z.ref.id == index) && (z.number == number))) ∙ ap (λ (x : ShardWork). x.number) is ∙ number_is

    both : (z.ref.id == index) && (z.number == number) ≡ true
    both = ap (λ (x : Bool). x && (z.number == number)) (eq-eqb _ _ z_index) ∙ eq-eqb _ _ z_number

    by : (b : Bool) → ((z.ref.id == index) && (z.number == number)) ≡ b → ⊥
    by true e =
        let out : (if true then record z { state = Out k } else z).state ≡ Pending = ap (λ (b : Bool). (if b then record z { state = Out k } else z).state) (sym e) ∙ ap (λ (x : ShardWork). x.state) is ∙ pending in
        no_out out
      where
        no_out : Out k ≡ Pending → ⊥
        no_out e = cc
    by false e = let clash : true ≡ false = sym both ∙ e in cc

-- ---- a step

module _ (f : Formats) (size : ℕ) (change : (w : World) (who : ℕ) (step : Step) (reply : Reply) (image : Option Image) → StepChange f w who step (answered f w who step reply image))
    (frame : (w : World) (m : Moment) → StepFrame w (after f w m) m.entry.who m.entry.step) where
  -- what was refused before it was looked at changes nothing
  pub blocked_same : (w : World) (m : Moment) → IsBlocked w m → answered f w m.entry.who m.entry.step m.entry.reply m.image ≡ w
  blocked_same w m b = ap (λ (r : Reply). answered f w m.entry.who m.entry.step r m.image) b.refused ∙ leaves b.refusal b.blocks
    where
      leaves : (refusal : Refusal) → Blocks w m.entry.who m.entry.step refusal → answered f w m.entry.who m.entry.step (Refused refusal) m.image ≡ w
      leaves refusal (ByFailedSwap place dead) = refl
      leaves refusal (ByDelete d alive aborted) = refl

  module _ (w : World) (m : Moment) (tracked : Tracked w) (a : Allowed f size w m) where
    -- a shard's ticket that wasn't there was given
    pub fresh_shard : (v : Ticket) (index number : ℕ) → fin.get (after f w m).tickets w.next_ticket ≡ Some v → v.work ≡ Shard index number → FreshShard w (after f w m).ops v
    fresh_shard v index number now is = elim a.answered [
      | inl alive ↦ at m.entry.step (by_take f w tracked m.entry.who m.entry.step (answered f w m.entry.who m.entry.step m.entry.reply m.image) (change w m.entry.who m.entry.step m.entry.reply m.image) v now) alive.1 now
      | inr dead ↦ absurd (none_next f w tracked v (subst (λ (x : World). fin.get x.tickets w.next_ticket ≡ Some v) (blocked_same w m dead) now))
    ]
      where
        at : (step : Step) → step ≡ TakeStep → Allows f size w m.entry.who step m.entry.reply m.image → fin.get (answered f w m.entry.who step m.entry.reply m.image).tickets w.next_ticket ≡ Some v
            → FreshShard w (answered f w m.entry.who step m.entry.reply m.image).ops v
        at TakeStep take h there = take_by f size w tracked m.entry.who m.entry.reply m.image h v index number there is
        at step take h there = absurd cc

    -- the same unit
    same_work : (t v : Ticket) (index number : ℕ) → SameUnit t v → v.work ≡ Shard index number → t.work ≡ Shard index number
    same_work t v index number same is = elim same.work [
      | inl kept ↦ sym kept ∙ is
      | inr plans ↦ absurd (no_shard plans.0 plans.2 (sym plans.4 ∙ is))
    ]
      where
        no_shard : (uuids : List ℕ) (s : Swap) → Deleting uuids (Some s) ≡ Shard index number → ⊥
        no_shard uuids s e = cc

    -- what is past stays so
    past_on : (o index number : ℕ) → o < w.next_op → IsPast w.ops o index number → IsPast (after f w m).ops o index number
    past_on o index number below past op s there h index_is number_is pending = elim ((answered_works f w m.entry.who m.entry.step m.entry.reply m.image).ops o op there) [
      | inl new ↦ let is : o ≡ w.next_op = new.number in let less : o < w.next_op = below in omega (arith, is, less)
      | inr was ↦
          let z = was.shards s h in
          past was.op z.0 was.there z.1 (ap (λ (r : IndexRef). r.id) (sym z.2) ∙ index_is) (sym z.3 ∙ number_is) (z.5 pending)
    ]

    -- a shard that is given isn't pending
    given_past : (v : Ticket) (index number : ℕ) → FreshShard w (after f w m).ops v → v.work ≡ Shard index number → IsPast (after f w m).ops v.op index number
    given_past v index number fresh is op s there h index_is number_is pending =
        let now : record fresh.op { shards = map (given w.next_ticket fresh.s.ref.id fresh.s.number) fresh.op.shards } ≡ op =
        same_Some _ op (sym (same_in w.ops v.op (record fresh.op { shards = map (given w.next_ticket fresh.s.ref.id fresh.s.number) fresh.op.shards })) ∙ ap (λ (x : FinMap nat_cmp Op). fin.get x v.op) (sym fresh.ops_are) ∙ there) in
        let r = Has-mapped (given w.next_ticket fresh.s.ref.id fresh.s.number) fresh.op.shards s (subst (λ (x : Op). Has x.shards s) (sym now) h) in
        let same : Shard fresh.s.ref.id fresh.s.number ≡ Shard index number = sym fresh.work ∙ is in
        out_now w.next_ticket fresh.s.ref.id fresh.s.number r.0 s r.2 (index_is ∙ sym (first_of same)) (number_is ∙ sym (second_of same)) pending
      where
        first_of : Shard fresh.s.ref.id fresh.s.number ≡ Shard index number → fresh.s.ref.id ≡ index
        first_of e = cc

        second_of : Shard fresh.s.ref.id fresh.s.number ≡ Shard index number → fresh.s.number ≡ number
        second_of e = cc

    pub step_once : GivenOnce w → GivenOnce (after f w m)
    step_once h = record { past = past_now; one = one_now }
      where
        past_now : (k : ℕ) (t : Ticket) (index number : ℕ) → fin.get (after f w m).tickets k ≡ Some t → t.work ≡ Shard index number → IsPast (after f w m).ops t.op index number
        past_now k v index number there is = elim ((frame w m).come k v there) [
          | inl old ↦
              subst (λ (o : ℕ). IsPast (after f w m).ops o index number) (sym old.2.op)
              (past_on old.0.op index number (tracked.begun k old.0 old.1) (h.past k old.0 index number old.1 (same_work old.0 v index number old.2 is)))
          | inr new ↦ given_past v index number (fresh_shard v index number (subst (λ (n : ℕ). fin.get (after f w m).tickets n ≡ Some v) new.0 there) is) is
        ]

        -- one that was there, and one that was given
        apart : (j : ℕ) (t u v : Ticket) (index number : ℕ) → fin.get w.tickets j ≡ Some t → SameUnit t u → u.work ≡ Shard index number → FreshShard w (after f w m).ops v → v.work ≡ Shard index number → u.op ≡ v.op → ⊥
        apart j t u v index number there same is fresh also one =
            let shard : Shard fresh.s.ref.id fresh.s.number ≡ Shard index number = sym fresh.work ∙ also in
            h.past j t index number there (same_work t u index number same is) fresh.op fresh.s (ap (fin.get w.ops) (sym same.op ∙ one) ∙ fresh.there) fresh.s_there
            (first_of fresh.s.ref.id fresh.s.number shard) (second_of fresh.s.ref.id fresh.s.number shard) fresh.pending
          where
            first_of : (i n : ℕ) → Shard i n ≡ Shard index number → i ≡ index
            first_of i n e = cc

            second_of : (i n : ℕ) → Shard i n ≡ Shard index number → n ≡ number
            second_of i n e = cc

        fresh_at : (k : ℕ) (v : Ticket) (index number : ℕ) → k ≡ w.next_ticket → fin.get (after f w m).tickets k ≡ Some v → v.work ≡ Shard index number → FreshShard w (after f w m).ops v
        fresh_at k v index number at there is = fresh_shard v index number (subst (λ (n : ℕ). fin.get (after f w m).tickets n ≡ Some v) at there) is

        one_now : (j k : ℕ) (t u : Ticket) (index number : ℕ) → fin.get (after f w m).tickets j ≡ Some t → fin.get (after f w m).tickets k ≡ Some u → t.work ≡ Shard index number → u.work ≡ Shard index number
            → t.op ≡ u.op → j ≡ k
        one_now j k t u index number at_j at_k is also one = elim ((frame w m).come j t at_j) [
          | inl a ↦ elim ((frame w m).come k u at_k) [
            | inl b ↦ h.one j k a.0 b.0 index number a.1 b.1 (same_work a.0 t index number a.2 is) (same_work b.0 u index number b.2 also) (sym a.2.op ∙ one ∙ b.2.op)
            | inr b ↦ absurd (apart j a.0 t u index number a.1 a.2 is (fresh_at k u index number b.0 at_k also) also one)
          ]
          | inr a ↦ elim ((frame w m).come k u at_k) [
            | inl b ↦ absurd (apart k b.0 u t index number b.1 b.2 also (fresh_at j t index number a.0 at_j is) is (sym one))
            | inr b ↦ a.0 ∙ sym b.0
          ]
        ]

  pub log_once : ((w : World) (m : Moment) → Tracked w → Allowed f size w m → Tracked (after f w m)) → (w : World) (log : List Moment) → Tracked w → GivenOnce w → IsLegal f size w log → GivenOnce (world_from f w log)
  log_once tracks w [] tracked h legal = h
  log_once tracks w (m ∷ log) tracked h legal = log_once tracks (after f w m) log (tracks w m tracked legal.0) (step_once w m tracked legal.0 h) legal.1

-- where nothing was done so far
pub untouched_once : (w : World) → IsUntouched w → GivenOnce w
untouched_once w h = record { past = λ k t index number there is. absurd (nothing w.tickets k t h.tickets there); one = λ j k t u index number at_j at_k is also one. absurd (nothing w.tickets j t h.tickets at_j) }
