-- The shards that tickets of restores have are those of the restores that were accepted.
use Rattle.std.proofs.Common.{◌≡◌, ℕ, suc, ◌+◌, ◌<◌, ◌≤◌, List, [], ◌∷◌, ◌++◌, append-nil, append_assoc, length, map, Bool, true, false, Option, Some, refl, ap, ◌∙◌, subst, inl, inr, arith, nat_cmp, sym}
use Rattle.std.specs.Prelude.{if◌then◌else◌}
use Rattle.std.proofs.lemmas.List.{length-append, length-map}
use Rattle.std.specs.FinMap.{FinMap}
use Rattle.std.specs.FinMap as fin
use Rattle.std.proofs.lemmas.Option.{same_Some, none-some}
use Rattle.esr_model.specs.Lists.{Has-left, Has-right, Has-map, Has-mapped}
use Rattle.esr_model.specs.Values.{Has, IndexRef, Formats}
use Rattle.esr_model.specs.Places.{places}
use Rattle.esr_model.specs.Kept.{first_id}
use Rattle.esr_model.specs.Image.{Image}
use Rattle.esr_core.specs.World.{World, RestoreShard, Restoring, Reader}
use Rattle.esr_core.specs.Restores.{restore_of, any_waits, unread, handed, ended}
use Rattle.esr_core.specs.Tracked.{Tracked}
use Rattle.esr_core.specs.ReadTracked.{ReadTracked}
use Rattle.esr_core.specs.Changes.{IsAsk, StepChange, NewOp, NewDeletion, MergedDeletion, NewRestore, NewReader, ReaderEnd, SwapFault}
use Rattle.esr_core.specs.Entry.{Asked, Restore, Step, AskStep, Reply, AcceptedRestore, Moment}
use Rattle.esr_core.specs.After.{answered, after}
use Rattle.esr_core.specs.Allowed as allowed
use Rattle.esr_core.specs.Allowed.{Allows, Allowed}
use Rattle.esr_core.specs.History.{world_from, IsLegal}
use Rattle.esr_core.specs.Laws.RestoreFrames.{goes_answered}
use Rattle.esr_core.specs.Laws.NumberMaps.{same_in, was_in, left_in, gone_in, nothing}
use Rattle.esr_bounds.specs.Keys.{IsUntouched}
use Rattle.esr_bounds.specs.Work.{restores_by, restores_in}
use Rattle.esr_bounds.specs.Laws.{MasterLaws}
use Rattle.esr_bounds.proofs.Works.{answered_works}
use Rattle.esr_bounds.proofs.Given.{blocked_same}
use Rattle.esr_bounds.proofs.GivenReads.{ReadOnce, come, fresh_at, read_once, untouched_reads}
use Rattle.esr_bounds.proofs.Totals.{length_places}

-- an op, and the index and number of a shard of it
abbrev pub restored_item : ℕ → IndexRef × ℕ → ℕ × (ℕ × ℕ)
restored_item o p = (o, (p.0.id, p.1))

abbrev pub shard_item : ℕ → RestoreShard → ℕ × (ℕ × ℕ)
shard_item o s = (o, (s.ref.id, s.number))

abbrev pub reader_item : Reader → ℕ × (ℕ × ℕ)
reader_item q = (q.op, (q.index, q.number))

abbrev pub restored_at : Reply → List (ℕ × (ℕ × ℕ))
restored_at (AcceptedRestore o uuid indices) = map (restored_item o) (places indices)
restored_at reply = []

abbrev pub all_restored : List Moment → List (ℕ × (ℕ × ℕ))
all_restored [] = []
all_restored (m ∷ log) = restored_at m.entry.reply ++ all_restored log

length_restored : (reply : Reply) → length (restored_at reply) ≡ restores_by reply
length_restored (AcceptedRestore o uuid indices) = length-map (places indices) (restored_item o) ∙ length_places indices
length_restored reply = refl

pub length_all : (log : List Moment) → length (all_restored log) ≡ restores_in log
length_all [] = refl
length_all (m ∷ log) = length-append (restored_at m.entry.reply) (all_restored log) ∙ ap (λ (n : ℕ). n + length (all_restored log)) (length_restored m.entry.reply) ∙ ap (λ (n : ℕ). restores_by m.entry.reply + n) (length_all log)

-- ---- a restore that is new

module _ (f : Formats) (w : World) (reads : ReadTracked w) where
  none_there : (r : Restoring) → fin.get w.restores w.next_op ≡ Some r → ⊥
  none_there r there = let below : w.next_op < w.next_op = reads.tracked.numbers w.next_op r there in omega (arith, below)

  put_none : (o : ℕ) (r x v : Restoring) → fin.get w.restores o ≡ Some r → fin.get (fin.insert w.restores o x) w.next_op ≡ Some v → ⊥
  put_none o r x v there now = elim (was_in w.restores o x w.next_op v now) [
    | inl here ↦ none_there r (ap (fin.get w.restores) here.0 ∙ there)
    | inr other ↦ none_there v other.1
  ]

  end_none : (o : ℕ) (r x v : Restoring) (b : Bool) → fin.get w.restores o ≡ Some r → fin.get (if b then fin.insert w.restores o x else fin.remove w.restores o) w.next_op ≡ Some v → ⊥
  end_none o r x v true there now = put_none o r x v there now
  end_none o r x v false there now = none_there v (left_in w.restores o w.next_op v now).1

  by_ask : (who : ℕ) (step : Step) (new : World) → StepChange f w who step new → (v : Restoring) → fin.get new.restores w.next_op ≡ Some v → IsAsk step
  by_ask who step new (NewOp ask op completed next_id is rises) v now = ask
  by_ask who step new (NewDeletion ask ops x aborts clean) v now = ask
  by_ask who step new (MergedDeletion ask ops d x y aborts there clean failed) v now = ask
  by_ask who step new (NewRestore ask r) v now = ask
  by_ask who step new (NewReader take o r s there) v now = absurd (put_none o r (record r { shards = map (handed w.next_ticket s.ref.id s.number) r.shards }) v there now)
  by_ask who step new (ReaderEnd q r state there standing) v now = absurd (end_none q.op r (record r { shards = map (ended who state) r.shards }) v (any_waits (map (ended who state) r.shards)) standing now)
  by_ask who step new (SwapFault swaps up change) v now = by_ask who step up change v now
  by_ask who step new other v now = absurd (none_there v now)

  opened_at : (r v : Restoring) (b : Bool) → fin.get (if b then fin.insert w.restores w.next_op r else fin.remove w.restores w.next_op) w.next_op ≡ Some v → r ≡ v
  opened_at r v true now = same_Some r v (sym (same_in w.restores w.next_op r) ∙ now)
  opened_at r v false now = absurd (none-some v (sym (gone_in w.restores w.next_op) ∙ now))

  abbrev AskedAt : ℕ → Asked → Reply → Option Image → Type 0
  AskedAt who command reply image = (v : Restoring) → fin.get (answered f w who (AskStep command) reply image).restores w.next_op ≡ Some v → (s : RestoreShard) → Has v.shards s → Has (restored_at reply) (shard_item w.next_op s)

  module _ (size : ℕ) (tracked : Tracked w) where
    room : w.next_id ≤ first_id (suc w.term)
    room = let below : w.next_id < first_id (suc w.term) = tracked.in_term.below in omega (arith, below)

    by_command : (who : ℕ) (command : Asked) (reply : Reply) (image : Option Image) → Allows f size w who (AskStep command) reply image → AskedAt who command reply image
    by_command who (Restore name place) reply image (allowed.OpeningRestore n at o uuid indices im acc same) v now s had =
        let mine : restore_of uuid at indices ≡ v = opened_at (restore_of uuid at indices) v (any_waits (restore_of uuid at indices).shards) now in
        let p = Has-mapped unread (places indices) s (subst (λ (x : Restoring). Has x.shards s) (sym mine) had) in
        subst (Has (map (restored_item o) (places indices))) (item_is o p.0 s acc.number p.2) (Has-map (restored_item o) (places indices) p.0 p.1)
      where
        item_is : (o : ℕ) (p : IndexRef × ℕ) (s : RestoreShard) → o ≡ w.next_op → unread p ≡ s → restored_item o p ≡ shard_item w.next_op s
        item_is o p s number is = ap (λ (x : ℕ). restored_item x p) number ∙ ap (shard_item w.next_op) is
    by_command who (Restore name place) reply image (allowed.Ruled command refusal im (allowed.NotListed n at none) same) v now s had = absurd (none_there v now)
    by_command who (Restore name place) reply image (allowed.Ruled command refusal im rule same) v now s had = absurd (none_there v now)
    by_command who command reply image a v now s had = absurd (none_there v (subst (λ (m : FinMap nat_cmp Restoring). fin.get m w.next_op ≡ Some v) (goes_answered f w room who (AskStep command) reply image tt).restores now))

    by_step : (who : ℕ) (step : Step) (reply : Reply) (image : Option Image) → IsAsk step → Allows f size w who step reply image → (v : Restoring) → fin.get (answered f w who step reply image).restores w.next_op ≡ Some v
        → (s : RestoreShard) → Has v.shards s → Has (restored_at reply) (shard_item w.next_op s)
    by_step who (AskStep command) reply image ask a v now s had = by_command who command reply image a v now s had
    by_step who step reply image ask a v now s had = absurd ask

-- ---- what holds of a world

-- the shards of open restores, and those of tickets, are among these
record RestoredIn (items : List (ℕ × (ℕ × ℕ))) (w : World) : Type 0 where
  open_in : (o : ℕ) (r : Restoring) (s : RestoreShard) → fin.get w.restores o ≡ Some r → Has r.shards s → Has items (shard_item o s)
  readers_in : (k : ℕ) (q : Reader) → fin.get w.readers k ≡ Some q → Has items (reader_item q)

module _ (f : Formats) (size : ℕ) (laws : MasterLaws f size) where
  module _ (w : World) (m : Moment) (tracked : Tracked w) (reads : ReadTracked w) (a : Allowed f size w m) (once : ReadOnce w) (items : List (ℕ × (ℕ × ℕ))) (all : RestoredIn items w) where
    abbrev more : List (ℕ × (ℕ × ℕ))
    more = restored_at m.entry.reply

    abbrev up : World
    up = answered f w m.entry.who m.entry.step m.entry.reply m.image

    new_in : (v : Restoring) (s : RestoreShard) → fin.get up.restores w.next_op ≡ Some v → Has v.shards s → Has more (shard_item w.next_op s)
    new_in v s now had = elim a.answered [
      | inl alive ↦ by_step f w reads size tracked m.entry.who m.entry.step m.entry.reply m.image (by_ask f w reads m.entry.who m.entry.step up (laws.change w m.entry.who m.entry.step m.entry.reply m.image) v now) alive.1 v now s had
      | inr dead ↦ absurd (none_there f w reads v (subst (λ (x : World). fin.get x.restores w.next_op ≡ Some v) (blocked_same f size laws.change laws.frame w m dead) now))
    ]

    open_now : (o : ℕ) (v : Restoring) (s : RestoreShard) → fin.get (after f w m).restores o ≡ Some v → Has v.shards s → Has (items ++ more) (shard_item o s)
    open_now o v s there had = elim ((answered_works f w m.entry.who m.entry.step m.entry.reply m.image).restores o v there) [
      | inl new ↦
          Has-right items more (shard_item o s)
          (subst (λ (n : ℕ). Has more (shard_item n s)) (sym new) (new_in v s (subst (λ (n : ℕ). fin.get up.restores n ≡ Some v) new there) had))
      | inr was ↦
          let z = was.shards s had in
          Has-left items more (shard_item o s)
          (subst (λ (r : IndexRef). Has items (o, (r.id, s.number))) (sym z.2) (subst (λ (n : ℕ). Has items (o, (z.0.ref.id, n))) (sym z.3) (all.open_in o was.r z.0 was.there z.1)))
    ]

    readers_now : (k : ℕ) (v : Reader) → fin.get (after f w m).readers k ≡ Some v → Has (items ++ more) (reader_item v)
    readers_now k v there = Has-left items more (reader_item v) (elim (come f size laws.change laws.frame w m reads a once k v there) [
      | inl was ↦
          subst (λ (o : ℕ). Has items (o, (v.index, v.number))) (sym was.op)
          (subst (λ (i : ℕ). Has items (was.q.op, (i, v.number))) (sym was.index) (subst (λ (n : ℕ). Has items (was.q.op, (was.q.index, n))) (sym was.number) (all.readers_in k was.q was.there)))
      | inr new ↦
          let fresh = fresh_at f size laws.change laws.frame w m reads a once k v new there in
          subst (λ (i : ℕ). Has items (v.op, (i, v.number))) (sym fresh.index) (subst (λ (n : ℕ). Has items (v.op, (fresh.s.ref.id, n))) (sym fresh.number) (all.open_in v.op fresh.r fresh.s fresh.there fresh.s_there))
    ])

    in_now : RestoredIn (items ++ more) (after f w m)
    in_now = record { open_in = open_now; readers_in = readers_now }

  in_from : (w : World) (log : List Moment) (items : List (ℕ × (ℕ × ℕ))) → Tracked w → ReadTracked w → ReadOnce w → IsLegal f size w log → RestoredIn items w → RestoredIn (items ++ all_restored log) (world_from f w log)
  in_from w [] items tracked reads once legal all = subst (λ (l : List (ℕ × (ℕ × ℕ))). RestoredIn l w) (sym (append-nil items)) all
  in_from w (m ∷ log) items tracked reads once legal all =
      subst (λ (l : List (ℕ × (ℕ × ℕ))). RestoredIn l (world_from f (after f w m) log)) (append_assoc items (restored_at m.entry.reply) (all_restored log))
      (in_from (after f w m) log (items ++ restored_at m.entry.reply) (laws.tracks w m tracked legal.0) (laws.reads w m tracked reads legal.0)
      (read_once f size laws.change laws.frame w m reads legal.0 once) legal.1 (in_now w m tracked reads legal.0 once items all))

  pub readers_asked : (w : World) (log : List Moment) → Tracked w → ReadTracked w → IsUntouched w → ((o : ℕ) (r : Restoring) → fin.get w.restores o ≡ Some r → ⊥) → IsLegal f size w log
      → (k : ℕ) (q : Reader) → fin.get (world_from f w log).readers k ≡ Some q → Has (all_restored log) (reader_item q)
  readers_asked w log tracked reads untouched none legal k q there =
      (in_from w log [] tracked reads (untouched_reads w untouched) legal (record { open_in = λ o r s at had. absurd (none o r at); readers_in = λ j p at. absurd (nothing w.readers j p untouched.readers at) })).readers_in k q there
