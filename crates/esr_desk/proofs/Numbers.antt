-- The numbers of tickets rise, and no step is made under a number before it is given.
use Rattle.std.proofs.Common.{◌≡◌, ◌⊎◌, ℕ, suc, ◌<◌, ◌≤◌, Bool, true, false, cond, nat_cmp, List, [], ◌∷◌, ◌++◌, Option, Some, None, sym, ap, ◌∙◌, subst, refl, inl, inr, ⊎_elim, arith}
use Rattle.std.specs.Ordering.{eq_by_cmp}
use Rattle.std.specs.Cmp.{nat_cmp_total}
use Rattle.std.specs.FinMap.{FinMap, nat_cmp-IsAntisymmetric}
use Rattle.std.specs.FinMap as fin
use Rattle.esr_core.specs.Laws.NumberMaps.{tied}
use Rattle.esr_model.specs.Values.{Has, Formats}
use Rattle.esr_model.specs.Image.{Image}
use Rattle.esr_core.specs.World.{World, Op, ShardWork, Restoring, RestoreShard, Ticket, Reader}
use Rattle.esr_core.specs.Restores.{reader_of, read_more, restore_shard}
use Rattle.esr_core.specs.Entry.{Step, TakeStep, Reply, Given, GivenShard, GivenFinalize, GivenDrop, GivenRestore, GivenClone, GivenDelete, GivenCleanup, Gave, Refusal, Refused, Moment}
use Rattle.esr_core.specs.After.{shard_of, taken_shard, taken_restore_shard, taken_restore, taken_by, answered, after}
use Rattle.esr_core.specs.Allowed.{Gives, Allowed, Blocks, ByFailedSwap, ByDelete, IsBlocked}
use Rattle.esr_core.specs.Causes.{TakeGave}
use Rattle.esr_core.specs.Changes.{StepChange, NoChange, NewTicket, NewReader, OwnTicket, Settlement, UnitEnd, DeletionFailure, OpDrop, ReaderFetch, ReaderEnd, SwapFault, Maker, ClientStep, ReaderStep, UnitStep}
use Rattle.esr_core.specs.History.{world_from, IsLegal}
use Rattle.esr_desk.specs.Start.{Start, formats_of, world_of, Legal}
use Rattle.esr_desk.specs.Once.{WasMade, HasMadeNone}
use Rattle.esr_desk.specs.Numbered.{Numbered}

-- each step is one change of the world
abbrev pub Changes : Type 0
Changes = (f : Formats) (w : World) (who : ℕ) (step : Step) (reply : Reply) (image : Option Image) → StepChange f w who step (answered f w who step reply image)

-- it has its maker
abbrev pub Makers : Type 0
Makers = (f : Formats) (part_size : ℕ) (w : World) (m : Moment) → Allowed f part_size w m → Maker w m.entry.who m.entry.step ⊎ IsBlocked w m

none_some : {X : Type 0} {x : X} → None ≡ Some x → ⊥
none_some e = cc

some_same : {X : Type 0} {x y : X} → Some x ≡ Some y → x ≡ y
some_same e = cc

-- ---- maps

-- a key of a map after an insertion is the new one or was there
key_was : {X : Type 0} (m : FinMap nat_cmp X) (k : ℕ) (v : X) (q : ℕ) (x : X) → fin.get (fin.insert m k v) q ≡ Some x → (q ≡ k) ⊎ (fin.get m q ≡ Some x)
key_was m k v q x e = go (eq_by_cmp nat_cmp q k) refl
  where
    go : (b : Bool) → eq_by_cmp nat_cmp q k ≡ b → (q ≡ k) ⊎ (fin.get m q ≡ Some x)
    go true same = inl (nat_cmp-IsAntisymmetric q k (tied (nat_cmp q k) same))
    go false apart = inr (sym (ap (λ c. cond c (Some v) (fin.get m q)) apart) ∙ sym (fin.get-insert nat_cmp_total m k v q) ∙ e)

-- the keys stay below a bound
keys_below : {X : Type 0} (m : FinMap nat_cmp X) (k : ℕ) (v : X) (bound : ℕ) → k < bound → ((q : ℕ) (x : X) → fin.get m q ≡ Some x → q < bound) → (q : ℕ) (x : X) → fin.get (fin.insert m k v) q ≡ Some x → q < bound
keys_below m k v bound less all q x e = ⊎_elim (λ (same : q ≡ k). subst (λ (j : ℕ). j < bound) (sym same) less) (λ was. all q x was) (key_was m k v q x e)

keys_rise : {X : Type 0} (m : FinMap nat_cmp X) (bound : ℕ) → ((q : ℕ) (x : X) → fin.get m q ≡ Some x → q < bound) → (q : ℕ) (x : X) → fin.get m q ≡ Some x → q < suc bound
keys_rise m bound all q x e = let less : q < bound = all q x e in omega (arith, less)

-- ---- the numbers rise

module _ (least : ℕ) where
  put_numbered : (w : World) (k : ℕ) (old t : Ticket) → Numbered least w → fin.get w.tickets k ≡ Some old → (q : ℕ) (x : Ticket) → fin.get (fin.insert w.tickets k t) q ≡ Some x → q < w.next_ticket
  put_numbered w k old t n is = keys_below w.tickets k t w.next_ticket (n.tickets k old is) n.tickets

  put_readers : (w : World) (k : ℕ) (old r : Reader) → Numbered least w → fin.get w.readers k ≡ Some old → (q : ℕ) (x : Reader) → fin.get (fin.insert w.readers k r) q ≡ Some x → q < w.next_ticket
  put_readers w k old r n is = keys_below w.readers k r w.next_ticket (n.readers k old is) n.readers

  more_tickets : (w : World) → Numbered least w → (q : ℕ) (x : Ticket) → fin.get w.tickets q ≡ Some x → q < suc w.next_ticket
  more_tickets w n = keys_rise w.tickets w.next_ticket n.tickets

  more_readers : (w : World) → Numbered least w → (q : ℕ) (x : Reader) → fin.get w.readers q ≡ Some x → q < suc w.next_ticket
  more_readers w n = keys_rise w.readers w.next_ticket n.readers

  more_numbered : (w : World) (t : Ticket) → Numbered least w → (q : ℕ) (x : Ticket) → fin.get (fin.insert w.tickets w.next_ticket t) q ≡ Some x → q < suc w.next_ticket
  more_numbered w t n = keys_below w.tickets w.next_ticket t (suc w.next_ticket) (omega arith) (more_tickets w n)

  put_reader : (w : World) (r : Reader) → Numbered least w → (q : ℕ) (x : Reader) → fin.get (fin.insert w.readers w.next_ticket r) q ≡ Some x → q < suc w.next_ticket
  put_reader w r n = keys_below w.readers w.next_ticket r (suc w.next_ticket) (omega arith) (more_readers w n)

  later : (w : World) → Numbered least w → least ≤ suc w.next_ticket
  later w n = let le : least ≤ w.next_ticket = n.next in omega (arith, le)

  -- ---- each step

  numbered_step : (f : Formats) (w : World) (who : ℕ) (step : Step) (new : World) → StepChange f w who step new → Numbered least w → Numbered least new
  numbered_step f w who step new NoChange n = n
  numbered_step f w who step new (NewTicket takes t fresh ops same) n = record { next = later w n; tickets = more_numbered w t n; readers = more_readers w n }
  numbered_step f w who step new (NewReader takes o r s is) n = record { next = later w n; tickets = more_tickets w n; readers = put_reader w (reader_of o r s) n }
  numbered_step f w who step new (OwnTicket t v is same settled next_id pending ids roots) n = record { next = n.next; tickets = put_numbered w who t v n is; readers = n.readers }
  numbered_step f w who step new (Settlement settles t s roots names deletes is swaps raised left) n = record { next = n.next; tickets = put_numbered w who t (record t { settled = true }) n is; readers = n.readers }
  numbered_step f w who step new (UnitEnd t op v completed is op_is same) n = record { next = n.next; tickets = put_numbered w who t (record t { out = false }) n is; readers = n.readers }
  numbered_step f w who step new (DeletionFailure t x is x_is) n = record { next = n.next; tickets = put_numbered w who t (record t { out = false }) n is; readers = n.readers }
  numbered_step f w who step new (OpDrop drops t is) n = record { next = n.next; tickets = put_numbered w who t (record t { out = false }) n is; readers = n.readers }
  numbered_step f w who step new (ReaderFetch q name bytes is) n = record { next = n.next; tickets = n.tickets; readers = put_readers w who q (read_more q name bytes) n is }
  numbered_step f w who step new (ReaderEnd q r state is r_is) n = record { next = n.next; tickets = n.tickets; readers = put_readers w who q (record q { out = false }) n is }
  numbered_step f w who step new (SwapFault swaps up change) n =
      let then_is = numbered_step f w who step up change n in
      record { next = then_is.next; tickets = then_is.tickets; readers = then_is.readers }
  numbered_step f w who step new other n = record { next = n.next; tickets = n.tickets; readers = n.readers }

  numbered_after : Changes → (f : Formats) (w : World) (m : Moment) → Numbered least w → Numbered least (after f w m)
  numbered_after law f w m n =
      let now = numbered_step f w m.entry.who m.entry.step (answered f w m.entry.who m.entry.step m.entry.reply m.image) (law f w m.entry.who m.entry.step m.entry.reply m.image) n in
      record { next = now.next; tickets = now.tickets; readers = now.readers }

  numbered_from : Changes → (f : Formats) (log : List Moment) (w : World) → Numbered least w → Numbered least (world_from f w log)
  numbered_from law f [] w n = n
  numbered_from law f (m ∷ log) w n = numbered_from law f log (after f w m) (numbered_after law f w m n)

-- ---- who makes a step

made_below : (w : World) (who : ℕ) (step : Step) → Numbered 1 w → Maker w who step → who < w.next_ticket
made_below w who step n (ClientStep is made) = let some : 1 ≤ w.next_ticket = n.next in omega (arith, is, some)
made_below w who step n (ReaderStep q reads made) = n.readers who q reads.there
made_below w who step n (UnitStep t out made) = n.tickets who t out.there

blocked_below : (w : World) (m : Moment) (refusal : Refusal) → Numbered 1 w → Blocks w m.entry.who m.entry.step refusal → m.entry.reply ≡ Refused refusal → WasMade m.entry.reply → m.entry.who < w.next_ticket
blocked_below w m refusal n (ByFailedSwap place deposed) is made = absurd (made place is)
blocked_below w m refusal n (ByDelete op alive aborted) is made = n.tickets m.entry.who aborted.t aborted.out.there

step_below : Makers → (f : Formats) (size : ℕ) (w : World) (m : Moment) → Numbered 1 w → Allowed f size w m → WasMade m.entry.reply → m.entry.who < w.next_ticket
step_below makers f size w m n a made = ⊎_elim
    (λ (maker : Maker w m.entry.who m.entry.step). made_below w m.entry.who m.entry.step n maker)
    (λ (dead : IsBlocked w m). blocked_below w m dead.refusal n dead.blocks dead.refused made)
    (makers f size w m a)

-- and so each step of a history
all_below : Changes → Makers → (f : Formats) (size : ℕ) (log : List Moment) (w : World) (m : Moment) → Numbered 1 w → IsLegal f size w log → Has log m → WasMade m.entry.reply → m.entry.who < (world_from f w log).next_ticket
all_below law makers f size [] w m n legal none made = absurd none
all_below law makers f size (x ∷ log) w m n legal (inl same) made =
    let less : m.entry.who < w.next_ticket = step_below makers f size w m n (subst (Allowed f size w) same legal.0) made in
    let more : w.next_ticket ≤ (world_from f w (x ∷ log)).next_ticket = (numbered_from w.next_ticket law f (x ∷ log) w (record { next = omega arith; tickets = n.tickets; readers = n.readers })).next in
    omega (arith, less, more)
all_below law makers f size (x ∷ log) w m n legal (inr has) made = all_below law makers f size log (after f w x) m (numbered_after 1 law f w x n) legal.1 has made

-- ---- a unit is given

-- it is so by a take
abbrev pub TakesGive : Type 0
TakesGive = (f : Formats) (part_size : ℕ) (w : World) (m : Moment) (ticket op : ℕ) (unit : Given) → Allowed f part_size w m → m.entry.reply ≡ Gave ticket op unit → TakeGave f w m.entry.who m.entry.step ticket op unit

-- ---- the next number

next_shard : (w : World) (o : ℕ) (op : Op) (base : Option ℕ) (s : ShardWork) (found : Option ShardWork) → found ≡ Some s → (taken_shard w o op base found).next_ticket ≡ suc w.next_ticket
next_shard w o op base s None is = absurd cc
next_shard w o op base s (Some z) is = refl

next_restore : (w : World) (o : ℕ) (r : Restoring) (s : RestoreShard) (found : Option RestoreShard) → found ≡ Some s → (taken_restore_shard w o r found).next_ticket ≡ suc w.next_ticket
next_restore w o r s None is = absurd cc
next_restore w o r s (Some z) is = refl

next_given : (f : Formats) (w : World) (o : ℕ) (unit : Given) (found : Option Op) → found ≡ fin.get w.ops o → Gives f w o unit → (taken_by f w o unit found).next_ticket ≡ suc w.next_ticket
next_given f w o (GivenShard index number base) (Some op) is g =
    ap (λ (p : Op). (taken_shard w o p base (shard_of p.shards index number)).next_ticket) (some_same (is ∙ g.ready.op_there)) ∙ next_shard w o g.op base g.s (shard_of g.op.shards index number) g.found
next_given f w o (GivenClone index number source base) (Some op) is g =
    ap (λ (p : Op). (taken_shard w o p base (shard_of p.shards index number)).next_ticket) (some_same (is ∙ g.ready.op_there)) ∙ next_shard w o g.op base g.s (shard_of g.op.shards index number) g.found
next_given f w o (GivenFinalize info results) (Some op) is g = refl
next_given f w o GivenDrop None is g = refl
next_given f w o GivenDrop (Some op) is g = refl
next_given f w o (GivenRestore index number uuid) None is g = ap (λ (r : Option Restoring). (taken_restore w o index number r).next_ticket) g.ready.there ∙ next_restore w o g.r g.s (restore_shard g.r.shards index number) g.found
next_given f w o (GivenRestore index number uuid) (Some op) is g = ap (λ (r : Option Restoring). (taken_restore w o index number r).next_ticket) g.ready.there ∙ next_restore w o g.r g.s (restore_shard g.r.shards index number) g.found
next_given f w o (GivenDelete uuids) None is g = refl
next_given f w o (GivenDelete uuids) (Some op) is g = refl
next_given f w o GivenCleanup None is g = refl
next_given f w o GivenCleanup (Some op) is g = refl
next_given f w o unit found is g = absurd (none_some (is ∙ g.ready.op_there))

next_after : (f : Formats) (w : World) (m : Moment) (ticket op : ℕ) (unit : Given) → TakeGave f w m.entry.who m.entry.step ticket op unit → m.entry.reply ≡ Gave ticket op unit → (after f w m).next_ticket ≡ suc w.next_ticket
next_after f w m ticket op unit gift is =
    ap (λ (who : ℕ). (answered f w who m.entry.step m.entry.reply m.image).next_ticket) gift.who_is
    ∙ ap (λ (step : Step). (answered f w 0 step m.entry.reply m.image).next_ticket) gift.step_is
    ∙ ap (λ (reply : Reply). (answered f w 0 TakeStep reply m.image).next_ticket) is
    ∙ next_given f w op unit (fin.get w.ops op) refl gift.gives

-- so each ticket that was given is below it
given_below : Changes → TakesGive → (f : Formats) (size : ℕ) (log : List Moment) (w : World) (m : Moment) (ticket op : ℕ) (unit : Given) → Numbered 1 w → IsLegal f size w log → Has log m → m.entry.reply ≡ Gave ticket op unit
    → ticket < (world_from f w log).next_ticket
given_below law takes f size [] w m ticket op unit n legal none is = absurd none
given_below law takes f size (x ∷ log) w m ticket op unit n legal (inl same) is =
    let gift = takes f size w m ticket op unit (subst (Allowed f size w) same legal.0) is in
    let number : ticket ≡ w.next_ticket = gift.number in
    let next : (after f w x).next_ticket ≡ suc w.next_ticket = ap (λ (y : Moment). (after f w y).next_ticket) same ∙ next_after f w m ticket op unit gift is in
    let then_is = numbered_after 1 law f w x n in
    let more : (after f w x).next_ticket ≤ (world_from f (after f w x) log).next_ticket =
    (numbered_from (after f w x).next_ticket law f log (after f w x) (record { next = omega arith; tickets = then_is.tickets; readers = then_is.readers })).next in
    omega (arith, number, next, more)
given_below law takes f size (x ∷ log) w m ticket op unit n legal (inr has) is = given_below law takes f size log (after f w x) m ticket op unit (numbered_after 1 law f w x n) legal.1 has is

pub below_next : Changes → TakesGive → (s : Start) (log : List Moment) (m : Moment) (ticket op : ℕ) (unit : Given) → Numbered 1 s.world → Legal s log → Has log m → m.entry.reply ≡ Gave ticket op unit
    → ticket < (world_of s log).next_ticket
below_next law takes s log m ticket op unit n legal has is = given_below law takes (formats_of s) s.part_size log s.world m ticket op unit n legal has is

-- ---- the history ends with it

pub front_legal : (f : Formats) (size : ℕ) (log : List Moment) (w : World) (m : Moment) → IsLegal f size w (log ++ m ∷ []) → IsLegal f size w log × Allowed f size (world_from f w log) m
front_legal f size [] w m legal = (tt, legal.0)
front_legal f size (x ∷ log) w m legal = let rest = front_legal f size log (after f w x) m legal.1 in ((legal.0, rest.0), rest.1)

pub is_next : TakesGive → (s : Start) (log : List Moment) (m : Moment) (ticket op : ℕ) (unit : Given) → Legal s (log ++ m ∷ []) → m.entry.reply ≡ Gave ticket op unit → ticket ≡ (world_of s log).next_ticket
is_next takes s log m ticket op unit legal is = (takes (formats_of s) s.part_size (world_of s log) m ticket op unit (front_legal (formats_of s) s.part_size log s.world m legal).1 is).number

has_either : (log : List Moment) (m x : Moment) → Has (log ++ m ∷ []) x → Has log x ⊎ (m ≡ x)
has_either [] m x (inl same) = inr same
has_either [] m x (inr none) = absurd none
has_either (y ∷ log) m x (inl same) = inl (inl same)
has_either (y ∷ log) m x (inr has) = ⊎_elim (λ before. inl (inr before)) (λ same. inr same) (has_either log m x has)

pub none_made : Changes → Makers → TakesGive → (s : Start) (log : List Moment) (m : Moment) (ticket op : ℕ) (unit : Given) → Numbered 1 s.world → Legal s (log ++ m ∷ []) → m.entry.reply ≡ Gave ticket op unit
    → HasMadeNone (log ++ m ∷ []) ticket
none_made law makers takes s log m ticket op unit n legal is x has by made =
    let f = formats_of s in
    let w = world_of s log in
    let front = front_legal f s.part_size log s.world m legal in
    let given = takes f s.part_size w m ticket op unit front.1 is in
    ⊎_elim
    (λ (before : Has log x).
    let less : x.entry.who < w.next_ticket = all_below law makers f s.part_size log s.world x n front.0 before made in
    let same : x.entry.who ≡ w.next_ticket = by ∙ given.number in
    omega (arith, less, same))
    (λ (here : m ≡ x).
    let zero_is : x.entry.who ≡ 0 = ap (λ (y : Moment). y.entry.who) (sym here) ∙ given.who_is in
    let same : x.entry.who ≡ w.next_ticket = by ∙ given.number in
    let some : 1 ≤ w.next_ticket = (numbered_from 1 law f log s.world n).next in
    omega (arith, zero_is, same, some))
    (has_either log m x has)
