-- The shards and finalizations of tickets are those of ops that were asked.
use Rattle.std.proofs.Common.{◌≡◌, ℕ, suc, List, [], ◌∷◌, ◌++◌, append-nil, append_assoc, length, map, Option, Some, refl, sym, ap, ◌∙◌, subst, inl, inr}
use Rattle.std.specs.FinMap as fin
use Rattle.esr_model.specs.Lists.{Has-left, Has-right, Has-map}
use Rattle.esr_model.specs.Values.{Bytes, Has, IndexRef, SnapInfo, ShardResult, Formats}
use Rattle.esr_model.specs.Shelf.{Command}
use Rattle.esr_core.specs.World.{World, Op, ShardWork, Shard, Finalize, Deleting, Ticket, Swap}
use Rattle.esr_core.specs.Tracked.{Tracked}
use Rattle.esr_core.specs.ReadTracked.{ReadTracked}
use Rattle.esr_core.specs.Changes.{SameUnit}
use Rattle.esr_core.specs.Entry.{Step, Moment}
use Rattle.esr_core.specs.After.{after}
use Rattle.esr_core.specs.Allowed.{Allowed}
use Rattle.esr_core.specs.History.{world_from, IsLegal}
use Rattle.esr_bounds.specs.Keys.{IsUntouched}
use Rattle.esr_bounds.specs.Most.{most_of_shard}
use Rattle.esr_bounds.specs.Units.{asked_source, asked_shards, asked_indices, asked_counts}
use Rattle.esr_bounds.specs.Laws.{MasterLaws}
use Rattle.esr_core.specs.Laws.NumberMaps.{nothing}
use Rattle.esr_bounds.proofs.Works.{answered_works}
use Rattle.esr_bounds.proofs.Given.{fresh_shard}
use Rattle.esr_bounds.proofs.Masters.{MastersOnce, ReadyOf, ready_now, masters_on}

-- a shard of an op, with what its ticket is told of it
pub record Item : Type 0 where
  pub op : ℕ
  pub index : ℕ
  pub number : ℕ
  pub place : Bytes
  pub name : Bytes
  pub source : Option ℕ

abbrev pub item_of : ℕ → Option ℕ → ShardWork → Item
item_of o source s = record { op = o; index = s.ref.id; number = s.number; place = s.place; name = s.ref.name; source = source }

abbrev pub ticket_item : Ticket → ℕ → ℕ → Item
ticket_item t index number = record { op = t.op; index = index; number = number; place = t.place; name = t.name; source = t.source }

-- what its ticket makes at most, with the take that gives it
abbrev pub most_of_item : Formats → ℕ → Item → ℕ
most_of_item f size i = suc (most_of_shard f size i.place i.name i.number i.source)

abbrev pub asked_items : World → Step → List Item
asked_items w step = map (item_of w.next_op (asked_source step)) (asked_shards w step)

abbrev pub all_items : Formats → World → List Moment → List Item
all_items f w [] = []
all_items f w (m ∷ log) = asked_items w m.entry.step ++ all_items f (after f w m) log

abbrev pub all_counts : Formats → World → List Moment → List (ℕ × ℕ)
all_counts f w [] = []
all_counts f w (m ∷ log) = asked_counts w m.entry.step ++ all_counts f (after f w m) log

-- all that is open or was given is among these
pub record AllIn (items : List Item) (counts : List (ℕ × ℕ)) (w : World) : Type 0 where
  pub shards : (o : ℕ) (op : Op) (s : ShardWork) → fin.get w.ops o ≡ Some op → Has op.shards s → Has items (item_of o op.source s)
  pub ops : (o : ℕ) (op : Op) → fin.get w.ops o ≡ Some op → Has counts (o, length op.indices)
  pub tickets : (k : ℕ) (t : Ticket) (index number : ℕ) → fin.get w.tickets k ≡ Some t → t.work ≡ Shard index number → Has items (ticket_item t index number)
  pub finals : (k : ℕ) (t : Ticket) (info : SnapInfo) (results : List ShardResult) (made : Command) → fin.get w.tickets k ≡ Some t → t.work ≡ Finalize info results made → Has counts (t.op, length info.indices)

same_item : (o p : ℕ) (a b : Option ℕ) (s z : ShardWork) → o ≡ p → a ≡ b → s.ref ≡ z.ref → s.number ≡ z.number → s.place ≡ z.place → item_of o a s ≡ item_of p b z
same_item o p a b s z one two ref number place =
    ap (λ (x : ℕ). item_of x a s) one ∙ ap (λ (x : Option ℕ). item_of p x s) two
    ∙ ap (λ (x : IndexRef). record { op = p; index = x.id; number = s.number; place = s.place; name = x.name; source = b }) ref
    ∙ ap (λ (x : ℕ). record { op = p; index = z.ref.id; number = x; place = s.place; name = z.ref.name; source = b }) number
    ∙ ap (λ (x : Bytes). record { op = p; index = z.ref.id; number = z.number; place = x; name = z.ref.name; source = b }) place

-- of the same unit
same_ticket_item : (t v : Ticket) (index number : ℕ) → SameUnit t v → ticket_item v index number ≡ ticket_item t index number
same_ticket_item t v index number same =
    ap (λ (x : ℕ). record { op = x; index = index; number = number; place = v.place; name = v.name; source = v.source }) same.op
    ∙ ap (λ (x : Bytes). record { op = t.op; index = index; number = number; place = x; name = v.name; source = v.source }) same.place
    ∙ ap (λ (x : Bytes). record { op = t.op; index = index; number = number; place = t.place; name = x; source = v.source }) same.name
    ∙ ap (λ (x : Option ℕ). record { op = t.op; index = index; number = number; place = t.place; name = t.name; source = x }) same.source

-- of the shard that was given
given_item : (v : Ticket) (op : Op) (s : ShardWork) (index number : ℕ) → s.ref.id ≡ index → s.number ≡ number → v.place ≡ s.place → v.name ≡ s.ref.name → v.source ≡ op.source
    → item_of v.op op.source s ≡ ticket_item v index number
given_item v op s index number id n place name source =
    ap (λ (x : ℕ). record { op = v.op; index = x; number = s.number; place = s.place; name = s.ref.name; source = op.source }) id
    ∙ ap (λ (x : ℕ). record { op = v.op; index = index; number = x; place = s.place; name = s.ref.name; source = op.source }) n
    ∙ ap (λ (x : Bytes). record { op = v.op; index = index; number = number; place = x; name = s.ref.name; source = op.source }) (sym place)
    ∙ ap (λ (x : Bytes). record { op = v.op; index = index; number = number; place = v.place; name = x; source = op.source }) (sym name)
    ∙ ap (λ (x : Option ℕ). record { op = v.op; index = index; number = number; place = v.place; name = v.name; source = x }) (sym source)

-- the work of a unit that isn't a delete's stays
same_shard : (t v : Ticket) (index number : ℕ) → SameUnit t v → v.work ≡ Shard index number → t.work ≡ Shard index number
same_shard t v index number same is = elim same.work [
  | inl kept ↦ sym kept ∙ is
  | inr plans ↦ absurd (no_shard plans.0 plans.2 (sym plans.4 ∙ is))
]
  where
    no_shard : (uuids : List ℕ) (s : Swap) → Deleting uuids (Some s) ≡ Shard index number → ⊥
    no_shard uuids s e = cc

pub same_final : (t v : Ticket) (info : SnapInfo) (results : List ShardResult) (made : Command) → SameUnit t v → v.work ≡ Finalize info results made → t.work ≡ Finalize info results made
same_final t v info results made same is = elim same.work [
  | inl kept ↦ sym kept ∙ is
  | inr plans ↦ absurd (no_final plans.0 plans.2 (sym plans.4 ∙ is))
]
  where
    no_final : (uuids : List ℕ) (s : Swap) → Deleting uuids (Some s) ≡ Finalize info results made → ⊥
    no_final uuids s e = cc

first_of : (i n index number : ℕ) → Shard i n ≡ Shard index number → i ≡ index
first_of i n index number e = cc

second_of : (i n index number : ℕ) → Shard i n ≡ Shard index number → n ≡ number
second_of i n index number e = cc

module _ (f : Formats) (size : ℕ) (laws : MasterLaws f size) where
  module _ (w : World) (m : Moment) (tracked : Tracked w) (reads : ReadTracked w) (a : Allowed f size w m) (once : MastersOnce w) (items : List Item) (counts : List (ℕ × ℕ)) (all : AllIn items counts w) where
    abbrev more : List Item
    more = asked_items w m.entry.step

    abbrev more_counts : List (ℕ × ℕ)
    more_counts = asked_counts w m.entry.step

    shards_now : (o : ℕ) (op : Op) (s : ShardWork) → fin.get (after f w m).ops o ≡ Some op → Has op.shards s → Has (items ++ more) (item_of o op.source s)
    shards_now o op s there h = elim ((answered_works f w m.entry.who m.entry.step m.entry.reply m.image).ops o op there) [
      | inl new ↦
          Has-right items more (item_of o op.source s)
          (subst (Has more) (sym (same_item o w.next_op op.source (asked_source m.entry.step) s s new.number new.source refl refl refl))
          (Has-map (item_of w.next_op (asked_source m.entry.step)) (asked_shards w m.entry.step) s (subst (λ (l : List ShardWork). Has l s) new.shards h)))
      | inr was ↦
          let z = was.shards s h in
          Has-left items more (item_of o op.source s) (subst (Has items) (sym (same_item o o op.source was.op.source s z.0 refl was.source z.2 z.3 z.4)) (all.shards o was.op z.0 was.there z.1))
    ]

    ops_now : (o : ℕ) (op : Op) → fin.get (after f w m).ops o ≡ Some op → Has (counts ++ more_counts) (o, length op.indices)
    ops_now o op there = elim ((answered_works f w m.entry.who m.entry.step m.entry.reply m.image).ops o op there) [
      | inl new ↦
          Has-right counts more_counts (o, length op.indices)
          (subst (λ (l : List (ℕ × ℕ)). Has l (o, length op.indices)) (sym new.counted) (inl (ap (λ (x : ℕ). (x, length (asked_indices w m.entry.step))) (sym new.number) ∙ ap (λ (l : List IndexRef). (o, length l)) (sym new.indices))))
      | inr was ↦ Has-left counts more_counts (o, length op.indices) (subst (λ (l : List IndexRef). Has counts (o, length l)) (sym was.indices) (all.ops o was.op was.there))
    ]

    tickets_now : (k : ℕ) (v : Ticket) (index number : ℕ) → fin.get (after f w m).tickets k ≡ Some v → v.work ≡ Shard index number → Has (items ++ more) (ticket_item v index number)
    tickets_now k v index number there is = Has-left items more (ticket_item v index number) (elim ((laws.frame w m).come k v there) [
      | inl old ↦ subst (Has items) (sym (same_ticket_item old.0 v index number old.2)) (all.tickets k old.0 index number old.1 (same_shard old.0 v index number old.2 is))
      | inr new ↦
          let fresh = fresh_shard f size laws.change laws.frame w m tracked a v index number (subst (λ (n : ℕ). fin.get (after f w m).tickets n ≡ Some v) new.0 there) is in
          let same : Shard fresh.s.ref.id fresh.s.number ≡ Shard index number = sym fresh.work ∙ is in
          subst (Has items)
          (given_item v fresh.op fresh.s index number (first_of fresh.s.ref.id fresh.s.number index number same) (second_of fresh.s.ref.id fresh.s.number index number same) fresh.place fresh.name fresh.source)
          (all.shards v.op fresh.op fresh.s fresh.there fresh.s_there)
    ])

    finals_now : (k : ℕ) (v : Ticket) (info : SnapInfo) (results : List ShardResult) (made : Command) → fin.get (after f w m).tickets k ≡ Some v → v.work ≡ Finalize info results made
        → Has (counts ++ more_counts) (v.op, length info.indices)
    finals_now k v info results made there is = Has-left counts more_counts (v.op, length info.indices) (elim ((laws.frame w m).come k v there) [
      | inl old ↦ subst (λ (o : ℕ). Has counts (o, length info.indices)) (sym old.2.op) (all.finals k old.0 info results made old.1 (same_final old.0 v info results made old.2 is))
      | inr new ↦
          let ready = subst (ReadyOf w v.op) is (ready_now f size laws w m tracked reads a once v (subst (λ (n : ℕ). fin.get (after f w m).tickets n ≡ Some v) new.0 there)) in
          subst (λ (l : List IndexRef). Has counts (v.op, length l)) (sym ready.3) (all.ops v.op ready.0 ready.2.op_there)
    ])

    pub in_now : AllIn (items ++ more) (counts ++ more_counts) (after f w m)
    in_now = record { shards = shards_now; ops = ops_now; tickets = tickets_now; finals = finals_now }

  in_from : (w : World) (log : List Moment) (items : List Item) (counts : List (ℕ × ℕ)) → Tracked w → ReadTracked w → MastersOnce w → IsLegal f size w log → AllIn items counts w
      → AllIn (items ++ all_items f w log) (counts ++ all_counts f w log) (world_from f w log)
  in_from w [] items counts tracked reads once legal all =
      subst (λ (l : List Item). AllIn l (counts ++ []) w) (sym (append-nil items)) (subst (λ (l : List (ℕ × ℕ)). AllIn items l w) (sym (append-nil counts)) all)
  in_from w (m ∷ log) items counts tracked reads once legal all =
      subst (λ (l : List Item). AllIn l (counts ++ (asked_counts w m.entry.step ++ all_counts f (after f w m) log)) (world_from f (after f w m) log)) (append_assoc items (asked_items w m.entry.step) (all_items f (after f w m) log))
      (subst (λ (l : List (ℕ × ℕ)). AllIn ((items ++ asked_items w m.entry.step) ++ all_items f (after f w m) log) l (world_from f (after f w m) log)) (append_assoc counts (asked_counts w m.entry.step) (all_counts f (after f w m) log))
      (in_from (after f w m) log (items ++ asked_items w m.entry.step) (counts ++ asked_counts w m.entry.step) (laws.tracks w m tracked legal.0)
      (laws.reads w m tracked reads legal.0) (masters_on f size laws w m tracked reads legal.0 once) legal.1 (in_now w m tracked reads legal.0 once items counts all)))

  -- from a world in which nothing was done, and no op is open
  pub all_in : (w : World) (log : List Moment) → Tracked w → ReadTracked w → MastersOnce w → IsUntouched w → IsLegal f size w log → AllIn (all_items f w log) (all_counts f w log) (world_from f w log)
  all_in w log tracked reads once untouched legal =
      in_from w log [] [] tracked reads once legal
      (record {
        shards = λ o op s there. absurd (nothing w.ops o op untouched.ops there);
        ops = λ o op there. absurd (nothing w.ops o op untouched.ops there);
        tickets = λ k t index number there. absurd (nothing w.tickets k t untouched.tickets there);
        finals = λ k t info results made there. absurd (nothing w.tickets k t untouched.tickets there);
      })
