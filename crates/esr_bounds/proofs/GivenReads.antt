-- No shard of a restore is given twice: once it was given it is never unread again.
use Rattle.std.proofs.Common.{◌≡◌, ◌⊎◌, ℕ, ◌<◌, ◌≤◌, List, [], ◌∷◌, map, Bool, true, false, Option, Some, None, refl, sym, ap, ◌∙◌, subst, inl, inr, arith, nat_cmp}
use Rattle.std.specs.Prelude.{if◌then◌else◌, ◌==◌, ◌&&◌}
use Rattle.std.proofs.lemmas.Bool.{eq-eqb}
use Rattle.std.specs.FinMap.{FinMap}
use Rattle.std.specs.FinMap as fin
use Rattle.std.proofs.lemmas.Option.{same_Some, none-some}
use Rattle.esr_model.specs.Lists.{Has-mapped}
use Rattle.esr_model.specs.Values.{Has, IndexRef, Formats}
use Rattle.esr_model.specs.Image.{Image}
use Rattle.esr_core.specs.World.{World, Op, ShardWork, Unread, BeingRead, RestoreShard, Restoring, Reader}
use Rattle.esr_core.specs.Restores.{restore_shard, handed, reader_of, read_more}
use Rattle.esr_core.specs.Tracked.{Tracked}
use Rattle.esr_core.specs.ReadTracked.{ReadTracked}
use Rattle.esr_core.specs.Changes.{StepFrame, StepChange, NewReader, ReaderFetch, ReaderEnd, SwapFault}
use Rattle.esr_core.specs.Entry.{Given, GivenShard, GivenClone, GivenFinalize, GivenRestore, Step, TakeStep, Reply, Moment}
use Rattle.esr_core.specs.After.{shard_of, taken_shard, taken_restore_shard, taken_restore, taken_by, answered, after}
use Rattle.esr_core.specs.Allowed as allowed
use Rattle.esr_core.specs.Allowed.{Gives, GivesRestore, Allows, Allowed}
use Rattle.esr_core.specs.History.{world_from, IsLegal}
use Rattle.esr_bounds.specs.Keys.{IsUntouched}
use Rattle.esr_core.specs.Laws.NumberMaps.{nothing, was_in, same_in}
use Rattle.esr_bounds.proofs.Works.{answered_works}
use Rattle.esr_bounds.proofs.Given.{blocked_same}

-- the shard of the restore isn't unread, if the restore is open
abbrev pub IsPastRead : FinMap nat_cmp Restoring → ℕ → ℕ → ℕ → Type 0
IsPastRead restores o index number = (r : Restoring) (s : RestoreShard) → fin.get restores o ≡ Some r → Has r.shards s → s.ref.id ≡ index → s.number ≡ number → s.state ≡ Unread → ⊥

-- each shard that a ticket of a restore has is past, and no two tickets have one
pub record ReadOnce (w : World) : Type 0 where
  pub begun : (k : ℕ) (q : Reader) → fin.get w.readers k ≡ Some q → q.op < w.next_op
  pub past : (k : ℕ) (q : Reader) → fin.get w.readers k ≡ Some q → IsPastRead w.restores q.op q.index q.number
  pub one : (j k : ℕ) (p q : Reader) → fin.get w.readers j ≡ Some p → fin.get w.readers k ≡ Some q → p.op ≡ q.op → p.index ≡ q.index → p.number ≡ q.number → j ≡ k

-- ---- the tickets of restores, after a step

-- it was there with the same shard
pub record WasReader (w : World) (k : ℕ) (v : Reader) : Type 0 where
  pub q : Reader
  pub there : fin.get w.readers k ≡ Some q
  pub op : v.op ≡ q.op
  pub index : v.index ≡ q.index
  pub number : v.number ≡ q.number

module _ (f : Formats) (w : World) where
  abbrev Comes : Step → FinMap nat_cmp Reader → Type 0
  Comes step readers = (k : ℕ) (v : Reader) → fin.get readers k ≡ Some v → WasReader w k v ⊎ ((k ≡ w.next_ticket) × (step ≡ TakeStep))

  same_readers : (step : Step) → Comes step w.readers
  same_readers step k v e = inl (record { q = v; there = e; op = refl; index = refl; number = refl })

  put_reader : (step : Step) (who : ℕ) (q u : Reader) → fin.get w.readers who ≡ Some q → u.op ≡ q.op → u.index ≡ q.index → u.number ≡ q.number → Comes step (fin.insert w.readers who u)
  put_reader step who q u there op index number k v e = elim (was_in w.readers who u k v e) [
    | inl here ↦ inl (record {
      q = q;
      there = ap (fin.get w.readers) here.0 ∙ there;
      op = ap (λ (x : Reader). x.op) (sym here.1) ∙ op;
      index = ap (λ (x : Reader). x.index) (sym here.1) ∙ index;
      number = ap (λ (x : Reader). x.number) (sym here.1) ∙ number;
    })
    | inr other ↦ inl (record { q = v; there = other.1; op = refl; index = refl; number = refl })
  ]

  readers_come : (who : ℕ) (step : Step) (new : World) → StepChange f w who step new → Comes step new.readers
  readers_come who step new (NewReader take o r s there) = λ k v e. elim (was_in w.readers w.next_ticket (reader_of o r s) k v e) [
    | inl here ↦ inr (here.0, take)
    | inr other ↦ inl (record { q = v; there = other.1; op = refl; index = refl; number = refl })
  ]
  readers_come who step new (ReaderFetch q name bytes there) = put_reader step who q (read_more q name bytes) there refl refl refl
  readers_come who step new (ReaderEnd q r state there standing) = put_reader step who q (record q { out = false }) there refl refl refl
  readers_come who step new (SwapFault swaps up change) = readers_come who step up change
  readers_come who step new other = same_readers step

-- ---- the ticket of a restore that is given

pub record FreshRead (w : World) (restores : FinMap nat_cmp Restoring) (v : Reader) : Type 0 where
  pub r : Restoring
  pub there : fin.get w.restores v.op ≡ Some r
  pub s : RestoreShard
  pub s_there : Has r.shards s
  pub unread : s.state ≡ Unread
  pub index : v.index ≡ s.ref.id
  pub number : v.number ≡ s.number
  pub restores_are : restores ≡ fin.insert w.restores v.op (record r { shards = map (handed w.next_ticket s.ref.id s.number) r.shards })

module _ (f : Formats) (size : ℕ) (w : World) (reads : ReadTracked w) where
  none_read : (v : Reader) → fin.get w.readers w.next_ticket ≡ Some v → ⊥
  none_read v there = let below : w.next_ticket < w.next_ticket = (reads.tracked.tickets w.next_ticket v there).1 in omega (arith, below)

  gave_read : (o index number uuid : ℕ) (g : GivesRestore w o index number uuid) (found : Option RestoreShard) (v : Reader) → found ≡ Some g.s → fin.get (taken_restore_shard w o g.r found).readers w.next_ticket ≡ Some v
      → FreshRead w (taken_restore_shard w o g.r found).restores v
  gave_read o index number uuid g None v there now = absurd (none-some g.s there)
  gave_read o index number uuid g (Some s) v there now =
      let mine : reader_of o g.r s ≡ v = same_Some (reader_of o g.r s) v (sym (same_in w.readers w.next_ticket (reader_of o g.r s)) ∙ now) in
      subst (FreshRead w (fin.insert w.restores o (record g.r { shards = map (handed w.next_ticket s.ref.id s.number) g.r.shards }))) mine
      (record {
        r = g.r;
        there = g.ready.there;
        s = s;
        s_there = subst (Has g.r.shards) (sym (same_Some s g.s there)) g.ready.s_there;
        unread = ap (λ (x : RestoreShard). x.state) (same_Some s g.s there) ∙ g.ready.unread;
        index = refl;
        number = refl;
        restores_are = refl;
      })

  shard_none : (o : ℕ) (op : Op) (base : Option ℕ) (s : Option ShardWork) (v : Reader) → fin.get (taken_shard w o op base s).readers w.next_ticket ≡ Some v → ⊥
  shard_none o op base None v now = none_read v now
  shard_none o op base (Some s) v now = none_read v now

  read_by : (o : ℕ) (unit : Given) → Gives f w o unit → (op : Option Op) (v : Reader) → fin.get (taken_by f w o unit op).readers w.next_ticket ≡ Some v → FreshRead w (taken_by f w o unit op).restores v
  read_by o (GivenRestore i n uuid) g op v now =
      subst (λ (x : World). FreshRead w x.restores v) (sym there) (gave_read o i n uuid g (restore_shard g.r.shards i n) v g.found (subst (λ (x : World). fin.get x.readers w.next_ticket ≡ Some v) there now))
    where
      there : taken_restore w o i n (fin.get w.restores o) ≡ taken_restore_shard w o g.r (restore_shard g.r.shards i n)
      there = ap (taken_restore w o i n) g.ready.there
  read_by o (GivenShard i n base) g (Some op) v now = absurd (shard_none o op base (shard_of op.shards i n) v now)
  read_by o (GivenClone i n source base) g (Some op) v now = absurd (shard_none o op base (shard_of op.shards i n) v now)
  read_by o (GivenFinalize info results) g (Some op) v now = absurd (none_read v now)
  read_by o unit g op v now = absurd (none_read v now)

  take_read : (who : ℕ) (step : Step) (reply : Reply) (image : Option Image) → step ≡ TakeStep → Allows f size w who step reply image → (v : Reader) → fin.get (answered f w who step reply image).readers w.next_ticket ≡ Some v
      → FreshRead w (answered f w who step reply image).restores v
  take_read who TakeStep reply image is (allowed.GivingNothing im none same) v now = absurd (none_read v now)
  take_read who TakeStep reply image is (allowed.Giving k o unit im number lowest g same) v now = read_by o unit g (fin.get w.ops o) v now
  take_read who step reply image is a v now = absurd cc

-- the one of this index and number is being read
read_now : (k index number : ℕ) (z s : RestoreShard) → handed k index number z ≡ s → s.ref.id ≡ index → s.number ≡ number → s.state ≡ Unread → ⊥
read_now k index number z s is index_is number_is unread = by ((z.ref.id == index) && (z.number == number)) refl
  where
    kept : (b : Bool) → (if b then record z { state = BeingRead k } else z).ref ≡ z.ref
    kept true = refl
    kept false = refl

    kept_number : (b : Bool) → (if b then record z { state = BeingRead k } else z).number ≡ z.number
    kept_number true = refl
    kept_number false = refl

    z_index : z.ref.id ≡ index
    z_index = ap (λ (r : IndexRef). r.id) (sym (kept ((z.ref.id == index) && (z.number == number))) ∙ ap (λ (x : RestoreShard). x.ref) is) ∙ index_is

    z_number : z.number ≡ number
    z_number = sym (kept_number ((z.ref.id == index) && (z.number == number))) ∙ ap (λ (x : RestoreShard). x.number) is ∙ number_is

    both : (z.ref.id == index) && (z.number == number) ≡ true
    both = ap (λ (x : Bool). x && (z.number == number)) (eq-eqb _ _ z_index) ∙ eq-eqb _ _ z_number

    no_read : BeingRead k ≡ Unread → ⊥
    no_read e = cc

    by : (b : Bool) → ((z.ref.id == index) && (z.number == number)) ≡ b → ⊥
    by true e =
        let out : (if true then record z { state = BeingRead k } else z).state ≡ Unread = ap (λ (b : Bool). (if b then record z { state = BeingRead k } else z).state) (sym e) ∙ ap (λ (x : RestoreShard). x.state) is ∙ unread in
        no_read out
    by false e = let clash : true ≡ false = sym both ∙ e in cc

-- ---- a step

module _ (f : Formats) (size : ℕ) (change : (w : World) (who : ℕ) (step : Step) (reply : Reply) (image : Option Image) → StepChange f w who step (answered f w who step reply image))
    (frame : (w : World) (m : Moment) → StepFrame w (after f w m) m.entry.who m.entry.step) where
  module _ (w : World) (m : Moment) (reads : ReadTracked w) (a : Allowed f size w m) (h : ReadOnce w) where
    pub come : (k : ℕ) (v : Reader) → fin.get (after f w m).readers k ≡ Some v → WasReader w k v ⊎ ((k ≡ w.next_ticket) × (m.entry.step ≡ TakeStep))
    come = readers_come f w m.entry.who m.entry.step (answered f w m.entry.who m.entry.step m.entry.reply m.image) (change w m.entry.who m.entry.step m.entry.reply m.image)

    pub fresh_at : (k : ℕ) (v : Reader) → (k ≡ w.next_ticket) × (m.entry.step ≡ TakeStep) → fin.get (after f w m).readers k ≡ Some v → FreshRead w (after f w m).restores v
    fresh_at k v new there = elim a.answered [
      | inl alive ↦ take_read f size w reads m.entry.who m.entry.step m.entry.reply m.image new.1 alive.1 v now
      | inr dead ↦ absurd (none_read f size w reads v (subst (λ (x : World). fin.get x.readers w.next_ticket ≡ Some v) (blocked_same f size change frame w m dead) now))
    ]
      where
        now : fin.get (after f w m).readers w.next_ticket ≡ Some v
        now = subst (λ (n : ℕ). fin.get (after f w m).readers n ≡ Some v) new.0 there

    begun_now : (k : ℕ) (v : Reader) → fin.get (after f w m).readers k ≡ Some v → v.op < (after f w m).next_op
    begun_now k v there = elim (come k v there) [
      | inl was ↦ let same : v.op ≡ was.q.op = was.op in let below : was.q.op < w.next_op = h.begun k was.q was.there in let rises : w.next_op ≤ (after f w m).next_op = (frame w m).next_op in omega (arith, same, below, rises)
      | inr new ↦
          let fresh = fresh_at k v new there in
          let below : v.op < w.next_op = reads.tracked.numbers v.op fresh.r fresh.there in
          let rises : w.next_op ≤ (after f w m).next_op = (frame w m).next_op in
          omega (arith, below, rises)
    ]

    -- what is past stays so
    past_on : (o index number : ℕ) → o < w.next_op → IsPastRead w.restores o index number → IsPastRead (after f w m).restores o index number
    past_on o index number below past r s there had index_is number_is unread = elim ((answered_works f w m.entry.who m.entry.step m.entry.reply m.image).restores o r there) [
      | inl new ↦ let is : o ≡ w.next_op = new in let less : o < w.next_op = below in omega (arith, is, less)
      | inr was ↦
          let z = was.shards s had in
          past was.r z.0 was.there z.1 (ap (λ (x : IndexRef). x.id) (sym z.2) ∙ index_is) (sym z.3 ∙ number_is) (z.4 unread)
    ]

    -- a shard that is given isn't unread
    given_past : (v : Reader) → FreshRead w (after f w m).restores v → IsPastRead (after f w m).restores v.op v.index v.number
    given_past v fresh r s there had index_is number_is unread =
        let now : record fresh.r { shards = map (handed w.next_ticket fresh.s.ref.id fresh.s.number) fresh.r.shards } ≡ r =
        same_Some _ r
        (sym (same_in w.restores v.op (record fresh.r { shards = map (handed w.next_ticket fresh.s.ref.id fresh.s.number) fresh.r.shards })) ∙ ap (λ (x : FinMap nat_cmp Restoring). fin.get x v.op) (sym fresh.restores_are) ∙ there) in
        let z = Has-mapped (handed w.next_ticket fresh.s.ref.id fresh.s.number) fresh.r.shards s (subst (λ (x : Restoring). Has x.shards s) (sym now) had) in
        read_now w.next_ticket fresh.s.ref.id fresh.s.number z.0 s z.2 (index_is ∙ fresh.index) (number_is ∙ fresh.number) unread

    -- one that was there, and one that was given
    apart : (j : ℕ) (p v : Reader) → WasReader w j p → FreshRead w (after f w m).restores v → p.op ≡ v.op → p.index ≡ v.index → p.number ≡ v.number → ⊥
    apart j p v was fresh op index number =
        h.past j was.q was.there fresh.r fresh.s (ap (fin.get w.restores) (sym was.op ∙ op) ∙ fresh.there) fresh.s_there (sym fresh.index ∙ sym index ∙ was.index) (sym fresh.number ∙ sym number ∙ was.number) fresh.unread

    past_now : (k : ℕ) (v : Reader) → fin.get (after f w m).readers k ≡ Some v → IsPastRead (after f w m).restores v.op v.index v.number
    past_now k v there = elim (come k v there) [
      | inl was ↦
          subst (λ (o : ℕ). IsPastRead (after f w m).restores o v.index v.number) (sym was.op)
          (subst (λ (i : ℕ). IsPastRead (after f w m).restores was.q.op i v.number) (sym was.index)
          (subst (λ (n : ℕ). IsPastRead (after f w m).restores was.q.op was.q.index n) (sym was.number) (past_on was.q.op was.q.index was.q.number (h.begun k was.q was.there) (h.past k was.q was.there))))
      | inr new ↦ given_past v (fresh_at k v new there)
    ]

    one_now : (j k : ℕ) (p q : Reader) → fin.get (after f w m).readers j ≡ Some p → fin.get (after f w m).readers k ≡ Some q → p.op ≡ q.op → p.index ≡ q.index → p.number ≡ q.number → j ≡ k
    one_now j k p q at_j at_k op index number = elim (come j p at_j) [
      | inl a ↦ elim (come k q at_k) [
        | inl b ↦ h.one j k a.q b.q a.there b.there (sym a.op ∙ op ∙ b.op) (sym a.index ∙ index ∙ b.index) (sym a.number ∙ number ∙ b.number)
        | inr b ↦ absurd (apart j p q a (fresh_at k q b at_k) op index number)
      ]
      | inr a ↦ elim (come k q at_k) [
        | inl b ↦ absurd (apart k q p b (fresh_at j p a at_j) (sym op) (sym index) (sym number))
        | inr b ↦ a.0 ∙ sym b.0
      ]
    ]

    pub read_once : ReadOnce (after f w m)
    read_once = record { begun = begun_now; past = past_now; one = one_now }

  pub reads_once : ((w : World) (m : Moment) → Tracked w → Allowed f size w m → Tracked (after f w m)) → ((w : World) (m : Moment) → Tracked w → ReadTracked w → Allowed f size w m → ReadTracked (after f w m))
      → (w : World) (log : List Moment) → Tracked w → ReadTracked w → ReadOnce w → IsLegal f size w log → ReadOnce (world_from f w log)
  reads_once tracks keeps w [] tracked reads h legal = h
  reads_once tracks keeps w (m ∷ log) tracked reads h legal = reads_once tracks keeps (after f w m) log (tracks w m tracked legal.0) (keeps w m tracked reads legal.0) (read_once w m reads legal.0 h) legal.1

-- where nothing was done so far
pub untouched_reads : (w : World) → IsUntouched w → ReadOnce w
untouched_reads w h =
    record {
      begun = λ k q there. absurd (nothing w.readers k q h.readers there);
      past = λ k q there. absurd (nothing w.readers k q h.readers there);
      one = λ j k p q at_j. absurd (nothing w.readers j p h.readers at_j);
    }
