-- The steps of tickets together: each shard that was asked weighs once, each op in each term.
use Rattle.std.proofs.Common.{◌≡◌, ◌⊎◌, ℕ, zero, suc, ◌+◌, ◌*◌, ◌<◌, ◌≤◌, List, [], ◌∷◌, ◌++◌, length, map, Option, Some, None, refl, sym, ap, ◌∙◌, subst, inl, inr, ⊎_elim, arith, nat_cmp}
use Rattle.std.proofs.lemmas.Bool.Decides.{eqb_tells}
use Rattle.std.proofs.lemmas.List.{length-append}
use Rattle.std.proofs.Math.Nat.{mul-le-mul_right, zero-mul, suc-mul, mul-add, add-mul}
use Rattle.std.specs.FinMap.{FinMap}
use Rattle.std.specs.FinMap as fin
use Rattle.std.proofs.lemmas.Option.{none-some}
use Rattle.esr_model.specs.Lists.{Has-left, Has-right, Has-either, Has-map}
use Rattle.esr_model.specs.Values.{Bytes, Has, IndexRef, SnapInfo, ShardResult, Formats}
use Rattle.esr_model.specs.Shelf.{Command}
use Rattle.esr_model.specs.Places.{numbered, places}
use Rattle.esr_core.specs.World.{World, Op, ShardWork, RestoreShard, Restoring, Work, Shard, Finalize, Deleting, Drop, Ticket}
use Rattle.esr_core.specs.Restores.{AreOnce, restore_shard}
use Rattle.esr_core.specs.Tracked.{Tracked}
use Rattle.esr_core.specs.ReadTracked.{ReadTracked}
use Rattle.esr_core.specs.Changes.{IsAsk, StepChange, NewOp, NewDeletion, NewRestore, Election, SwapFault}
use Rattle.esr_core.specs.Entry.{AskedIndex, Snapshot, Clone, Given, GivenShard, GivenClone, GivenFinalize, GivenRestore, Step, AskStep, ElectStep, Reply, Gave, Moment}
use Rattle.esr_core.specs.Causes.{TakeGave}
use Rattle.esr_core.specs.After.{ref_by, known_id, next_by, refs_from, pending_shards, all_pending, copied_shard, shard_of, taken_shard, taken_restore_shard, taken_restore, taken_by, answered, after}
use Rattle.esr_core.specs.Allowed.{Gives, Allowed}
use Rattle.esr_core.specs.History.{world_from, IsLegal, AllKnown}
use Rattle.esr_bounds.specs.Keys.{made_by, AreHeard, IsHeard}
use Rattle.esr_bounds.specs.Most.{most_of_shard, most_of_final, most_of_drop}
use Rattle.esr_bounds.specs.Units.{IsFinalize, IsDropped, asked_counts}
use Rattle.esr_bounds.specs.Work.{work_of_shards, work_of_indices, count_of_shards, most_of_copy, shards_work, op_work, work_of, asks_by, asks_in, elections_by, elections_in, idle_in, made_if_delete, made_besides, made_of_others}
use Rattle.esr_bounds.specs.Laws.{StepLaws, MasterLaws}
use Rattle.esr_core.specs.Laws.NumberMaps.{nothing}
use Rattle.esr_bounds.proofs.Counting.{total, total_append, light_once, made_upto, all_made, units_upto, with_takes, gave_by, gave_in, nobody_made}
use Rattle.esr_bounds.proofs.Once.{turn_of}
use Rattle.esr_bounds.proofs.Bounded.{shard_few, final_few, drop_few}
use Rattle.esr_bounds.proofs.Given.{GivenOnce, untouched_once, log_once}
use Rattle.esr_bounds.proofs.Masters.{MastersOnce, untouched_masters, masters_log}
use Rattle.esr_bounds.proofs.Items.{Item, item_of, ticket_item, most_of_item, asked_items, all_items, all_counts, AllIn, all_in}

-- ---- what tickets up to a number have of a kind

pub once_append : {A : Type 0} (xs ys : List A) → AreOnce xs → AreOnce ys → ((z : A) → Has xs z → Has ys z → ⊥) → AreOnce (xs ++ ys)
once_append [] ys once also apart = also
once_append (x ∷ xs) ys once also apart =
    (λ h. ⊎_elim (λ (here : Has xs x). once.0 here) (λ (there : Has ys x). apart x (inl refl) there) (Has-either xs ys x h), once_append xs ys once.1 also (λ z a b. apart z (inr a) b))

module _ {A : Type 0} (of : Ticket → Work → List A) where
  abbrev pub at : Option Ticket → List A
  at None = []
  at (Some t) = of t t.work

  abbrev pub upto : FinMap nat_cmp Ticket → ℕ → List A
  upto tickets zero = []
  upto tickets (suc k) = at (fin.get tickets (suc k)) ++ upto tickets k

  of_at : (o : Option Ticket) (x : A) → Has (at o) x → (t : Ticket) × (o ≡ Some t) × Has (of t t.work) x
  of_at None x h = absurd h
  of_at (Some t) x h = (t, refl, h)

  pub of_upto : (tickets : FinMap nat_cmp Ticket) (n : ℕ) (x : A) → Has (upto tickets n) x → (k : ℕ) × (k ≤ n) × (t : Ticket) × (fin.get tickets k ≡ Some t) × Has (of t t.work) x
  of_upto tickets zero x h = absurd h
  of_upto tickets (suc n) x h = elim (Has-either (at (fin.get tickets (suc n))) (upto tickets n) x h) [
    | inl here ↦ let r = of_at (fin.get tickets (suc n)) x here in (suc n, same_le (suc n), r.0, r.1, r.2)
    | inr there ↦ let r = of_upto tickets n x there in (r.0, up r.0 n r.1, r.2, r.3, r.4)
  ]
    where
      same_le : (a : ℕ) → a ≤ a
      same_le a = omega arith

      up : (a b : ℕ) → a ≤ b → a ≤ suc b
      up a b h = let less : a ≤ b = h in omega (arith, less)

  pub once_upto : (tickets : FinMap nat_cmp Ticket) → ((t : Ticket) → AreOnce (of t t.work))
      → ((j k : ℕ) (t u : Ticket) (x : A) → fin.get tickets j ≡ Some t → fin.get tickets k ≡ Some u → Has (of t t.work) x → Has (of u u.work) x → j ≡ k) → (n : ℕ) → AreOnce (upto tickets n)
  once_upto tickets single one zero = tt
  once_upto tickets single one (suc n) =
      once_append (at (fin.get tickets (suc n))) (upto tickets n) (by (fin.get tickets (suc n))) (once_upto tickets single one n)
      (λ x here there.
      let a = of_at (fin.get tickets (suc n)) x here in
      let b = of_upto tickets n x there in
      let same : suc n ≡ b.0 = one (suc n) b.0 a.0 b.2 x a.1 b.3 a.2 b.4 in
      let below : b.0 ≤ n = b.1 in
      omega (arith, same, below))
    where
      by : (o : Option Ticket) → AreOnce (at o)
      by None = tt
      by (Some t) = single t

abbrev pub shard_of_ticket : Ticket → Work → List Item
shard_of_ticket t (Shard index number) = ticket_item t index number ∷ []
shard_of_ticket t (Finalize info results made) = []
shard_of_ticket t (Deleting uuids plan) = []
shard_of_ticket t Drop = []

-- an op, a term, and how many indices the op has
abbrev pub final_of_ticket : Ticket → Work → List (ℕ × (ℕ × ℕ))
final_of_ticket t (Shard index number) = []
final_of_ticket t (Finalize info results made) = (t.op, (t.term, length info.indices)) ∷ []
final_of_ticket t (Deleting uuids plan) = []
final_of_ticket t Drop = []

abbrev pub drop_of_ticket : Ticket → Work → List (ℕ × ℕ)
drop_of_ticket t (Shard index number) = []
drop_of_ticket t (Finalize info results made) = []
drop_of_ticket t (Deleting uuids plan) = []
drop_of_ticket t Drop = (t.op, t.term) ∷ []

abbrev pub final_weight : ℕ × (ℕ × ℕ) → ℕ
final_weight x = suc (most_of_final x.1.1)

abbrev pub drop_weight : ℕ × ℕ → ℕ
drop_weight x = suc most_of_drop

-- what the ticket of a number makes weighs no more than what it has of each kind, and what isn't weighed
module _ (f : Formats) (size : ℕ) (w : World) (log : List Moment)
    (shard_few : (k : ℕ) (t : Ticket) (index number : ℕ) → 1 ≤ k → fin.get w.tickets k ≡ Some t → t.work ≡ Shard index number → made_by log k ≤ most_of_shard f size t.place t.name number t.source)
    (final_few : (k : ℕ) (t : Ticket) (info : SnapInfo) (results : List ShardResult) (made : Command) → 1 ≤ k → fin.get w.tickets k ≡ Some t → t.work ≡ Finalize info results made
    → made_by log k ≤ most_of_final (length info.indices)) (drop_few : (k : ℕ) (t : Ticket) → 1 ≤ k → fin.get w.tickets k ≡ Some t → t.work ≡ Drop → made_by log k ≤ most_of_drop) where
  abbrev one_weight : ℕ → Option Ticket → ℕ
  one_weight k o = total (most_of_item f size) (at shard_of_ticket o) + (total final_weight (at final_of_ticket o) + (total drop_weight (at drop_of_ticket o) + made_besides log k o))

  weighed_shard : (a b : ℕ) → a ≤ b → suc a ≤ (suc b + 0) + (0 + (0 + 0))
  weighed_shard a b h = let less : a ≤ b = h in omega (arith, less)

  weighed_final : (a b : ℕ) → a ≤ b → suc a ≤ 0 + ((suc b + 0) + (0 + 0))
  weighed_final a b h = let less : a ≤ b = h in omega (arith, less)

  weighed_drop : (a b : ℕ) → a ≤ b → suc a ≤ 0 + (0 + ((suc b + 0) + 0))
  weighed_drop a b h = let less : a ≤ b = h in omega (arith, less)

  weighed_besides : (a : ℕ) → a ≤ 0 + (0 + (0 + a))
  weighed_besides a = omega arith

  one_ticket : (k : ℕ) (t : Ticket) (work : Work) → 1 ≤ k → fin.get w.tickets k ≡ Some t → t.work ≡ work
      → suc (made_by log k) ≤ total (most_of_item f size) (shard_of_ticket t work) + (total final_weight (final_of_ticket t work) + (total drop_weight (drop_of_ticket t work) + made_if_delete log k work))
  one_ticket k t (Shard index number) some there is = weighed_shard (made_by log k) (most_of_shard f size t.place t.name number t.source) (shard_few k t index number some there is)
  one_ticket k t (Finalize info results made) some there is = weighed_final (made_by log k) (most_of_final (length info.indices)) (final_few k t info results made some there is)
  one_ticket k t (Deleting uuids plan) some there is = weighed_besides (suc (made_by log k))
  one_ticket k t Drop some there is = weighed_drop (made_by log k) most_of_drop (drop_few k t some there is)

  one_number : (k : ℕ) (o : Option Ticket) → 1 ≤ k → fin.get w.tickets k ≡ o → suc (made_by log k) ≤ one_weight k o
  one_number k None some is = weighed_besides (suc (made_by log k))
  one_number k (Some t) some is = one_ticket k t t.work some is refl

  sum_up : (a b x y p q r s i j : ℕ) → a ≤ x + (p + (r + i)) → b ≤ y + (q + (s + j)) → a + b ≤ (x + y) + ((p + q) + ((r + s) + (i + j)))
  sum_up a b x y p q r s i j one rest = let first : a ≤ x + (p + (r + i)) = one in let second : b ≤ y + (q + (s + j)) = rest in omega (arith, first, second)

  pub weighed : (n : ℕ)
      → units_upto log n ≤ total (most_of_item f size) (upto shard_of_ticket w.tickets n) + (total final_weight (upto final_of_ticket w.tickets n) + (total drop_weight (upto drop_of_ticket w.tickets n) + made_of_others log w n))
  weighed zero = let none : 0 ≤ 0 = omega arith in none
  weighed (suc k) =
      subst (λ (n : ℕ). units_upto log (suc k) ≤ n + (total final_weight (upto final_of_ticket w.tickets (suc k)) + (total drop_weight (upto drop_of_ticket w.tickets (suc k)) + made_of_others log w (suc k))))
      (sym (total_append (most_of_item f size) (at shard_of_ticket (fin.get w.tickets (suc k))) (upto shard_of_ticket w.tickets k)))
      (subst (λ (n : ℕ). units_upto log (suc k) ≤ (total (most_of_item f size) (at shard_of_ticket (fin.get w.tickets (suc k))) + total (most_of_item f size) (upto shard_of_ticket w.tickets k))
      + (n + (total drop_weight (upto drop_of_ticket w.tickets (suc k)) + made_of_others log w (suc k)))) (sym (total_append final_weight (at final_of_ticket (fin.get w.tickets (suc k))) (upto final_of_ticket w.tickets k)))
      (subst (λ (n : ℕ). units_upto log (suc k) ≤ (total (most_of_item f size) (at shard_of_ticket (fin.get w.tickets (suc k))) + total (most_of_item f size) (upto shard_of_ticket w.tickets k))
      + ((total final_weight (at final_of_ticket (fin.get w.tickets (suc k))) + total final_weight (upto final_of_ticket w.tickets k)) + (n + made_of_others log w (suc k))))
      (sym (total_append drop_weight (at drop_of_ticket (fin.get w.tickets (suc k))) (upto drop_of_ticket w.tickets k)))
      (sum_up (suc (made_by log (suc k))) (units_upto log k) (total (most_of_item f size) (at shard_of_ticket (fin.get w.tickets (suc k)))) (total (most_of_item f size) (upto shard_of_ticket w.tickets k))
      (total final_weight (at final_of_ticket (fin.get w.tickets (suc k)))) (total final_weight (upto final_of_ticket w.tickets k)) (total drop_weight (at drop_of_ticket (fin.get w.tickets (suc k))))
      (total drop_weight (upto drop_of_ticket w.tickets k)) (made_besides log (suc k) (fin.get w.tickets (suc k))) (made_of_others log w k)
      (one_number (suc k) (fin.get w.tickets (suc k)) (one_le k) refl) (weighed k))))
    where
      one_le : (n : ℕ) → 1 ≤ suc n
      one_le n = omega arith

-- ---- each stands once

module _ (w : World) (given : GivenOnce w) (once : MastersOnce w) where
  single_shard : (t : Ticket) (work : Work) → AreOnce (shard_of_ticket t work)
  single_shard t (Shard index number) = (λ h. h, tt)
  single_shard t (Finalize info results made) = tt
  single_shard t work = tt

  single_final : (t : Ticket) (work : Work) → AreOnce (final_of_ticket t work)
  single_final t (Finalize info results made) = (λ h. h, tt)
  single_final t work = tt

  single_drop : (t : Ticket) (work : Work) → AreOnce (drop_of_ticket t work)
  single_drop t (Finalize info results made) = tt
  single_drop t Drop = (λ h. h, tt)
  single_drop t work = tt

  -- what a ticket is that has the item
  item_is : (t : Ticket) (work : Work) (x : Item) → Has (shard_of_ticket t work) x → (work ≡ Shard x.index x.number) × (t.op ≡ x.op)
  item_is t (Shard index number) x (inl e) = (both, ap (λ (i : Item). i.op) e)
    where
      both : Shard index number ≡ Shard x.index x.number
      both = ap (λ (i : Item). Shard i.index i.number) e
  item_is t (Shard index number) x (inr h) = absurd h
  item_is t (Finalize info results made) x h = absurd h
  item_is t work x h = absurd h

  final_is : (t : Ticket) (work : Work) (x : ℕ × (ℕ × ℕ)) → Has (final_of_ticket t work) x → IsFinalize work × ((t.op ≡ x.0) × (t.term ≡ x.1.0))
  final_is t (Finalize info results made) x (inl e) = (tt, (ap (λ (i : ℕ × (ℕ × ℕ)). i.0) e, ap (λ (i : ℕ × (ℕ × ℕ)). i.1.0) e))
  final_is t (Finalize info results made) x (inr h) = absurd h
  final_is t work x h = absurd h

  drop_is : (t : Ticket) (work : Work) (x : ℕ × ℕ) → Has (drop_of_ticket t work) x → IsDropped work × ((t.op ≡ x.0) × (t.term ≡ x.1))
  drop_is t Drop x (inl e) = (tt, (ap (λ (i : ℕ × ℕ). i.0) e, ap (λ (i : ℕ × ℕ). i.1) e))
  drop_is t Drop x (inr h) = absurd h
  drop_is t (Finalize info results made) x h = absurd h
  drop_is t work x h = absurd h

  pub items_once : (n : ℕ) → AreOnce (upto shard_of_ticket w.tickets n)
  items_once = once_upto shard_of_ticket w.tickets (λ t. single_shard t t.work) (λ j k t u x at_j at_k a b.
      let p = item_is t t.work x a in let q = item_is u u.work x b in given.one j k t u x.index x.number at_j at_k p.0 q.0 (p.1 ∙ sym q.1))

  pub finals_once : (n : ℕ) → AreOnce (upto final_of_ticket w.tickets n)
  finals_once = once_upto final_of_ticket w.tickets (λ t. single_final t t.work) (λ j k t u x at_j at_k a b.
      let p = final_is t t.work x a in let q = final_is u u.work x b in once.finals j k t u at_j at_k p.0 q.0 (p.1.0 ∙ sym q.1.0) (p.1.1 ∙ sym q.1.1))

  pub drops_once : (n : ℕ) → AreOnce (upto drop_of_ticket w.tickets n)
  drops_once = once_upto drop_of_ticket w.tickets (λ t. single_drop t t.work) (λ j k t u x at_j at_k a b.
      let p = drop_is t t.work x a in let q = drop_is u u.work x b in once.drops j k t u at_j at_k p.0 q.0 (p.1.0 ∙ sym q.1.0) (p.1.1 ∙ sym q.1.1))

-- ---- and is among what was asked

-- so many numbers from the first on
abbrev pub numbers : ℕ → ℕ → List ℕ
numbers first zero = []
numbers first (suc n) = first ∷ numbers (suc first) n

in_numbers : (first n x : ℕ) → first ≤ x → x < first + n → Has (numbers first n) x
in_numbers first zero x from below = let a : first ≤ x = from in let b : x < first + 0 = below in absurd (omega (arith, a, b))
in_numbers first (suc n) x from below = elim (eqb_tells first x) [
  | inl here ↦ inl here.1
  | inr other ↦ inr (in_numbers (suc first) n x (above first x from other.1) (beyond first n x below))
]
  where
    above : (a b : ℕ) → a ≤ b → (a ≡ b → ⊥) → suc a ≤ b
    above a b le apart = let less : a ≤ b = le in let differ : a ≡ b → ⊥ = apart in omega (arith, less, differ)

    beyond : (a c b : ℕ) → b < a + suc c → b < suc a + c
    beyond a c b under = let less : b < a + suc c = under in omega (arith, less)

pub times_more : (n c : ℕ) → c + n * c ≡ suc n * c
times_more n c = flip c (n * c) ∙ sym (suc-mul n c)
  where
    flip : (a b : ℕ) → a + b ≡ b + a
    flip a b = omega arith

pub total_numbers : {A : Type 0} (g : ℕ → A) (weight : A → ℕ) (c first n : ℕ) → ((x : ℕ) → weight (g x) ≡ c) → total weight (map g (numbers first n)) ≡ n * c
total_numbers g weight c first zero same = sym (zero-mul c)
total_numbers g weight c first (suc n) same = ap (λ k. k + total weight (map g (numbers (suc first) n))) (same first) ∙ ap (λ k. c + k) (total_numbers g weight c (suc first) n same) ∙ times_more n c

-- each op in each term
abbrev final_at : ℕ × ℕ → ℕ → ℕ × (ℕ × ℕ)
final_at c term = (c.0, (term, c.1))

abbrev finals_in : ℕ → ℕ → List (ℕ × ℕ) → List (ℕ × (ℕ × ℕ))
finals_in first terms [] = []
finals_in first terms (c ∷ counts) = map (final_at c) (numbers first terms) ++ finals_in first terms counts

in_finals : (first terms : ℕ) (counts : List (ℕ × ℕ)) (c : ℕ × ℕ) (term : ℕ) → Has counts c → Has (numbers first terms) term → Has (finals_in first terms counts) (final_at c term)
in_finals first terms [] c term h among = absurd h
in_finals first terms (d ∷ counts) c term (inl e) among =
    Has-left (map (final_at d) (numbers first terms)) (finals_in first terms counts) (final_at c term)
    (subst (λ (y : ℕ × ℕ). Has (map (final_at d) (numbers first terms)) (final_at y term)) e (Has-map (final_at d) (numbers first terms) term among))
in_finals first terms (d ∷ counts) c term (inr h) among =
    Has-right (map (final_at d) (numbers first terms)) (finals_in first terms counts) (final_at c term) (in_finals first terms counts c term h among)

abbrev pub count_weight : ℕ → ℕ × ℕ → ℕ
count_weight terms c = terms * suc (most_of_final c.1)

total_finals : (first terms : ℕ) (counts : List (ℕ × ℕ)) → total final_weight (finals_in first terms counts) ≡ total (count_weight terms) counts
total_finals first terms [] = refl
total_finals first terms (c ∷ counts) =
    total_append final_weight (map (final_at c) (numbers first terms)) (finals_in first terms counts)
    ∙ ap (λ n. n + total final_weight (finals_in first terms counts)) (total_numbers (final_at c) final_weight (suc (most_of_final c.1)) first terms (λ x. refl))
    ∙ ap (λ n. terms * suc (most_of_final c.1) + n) (total_finals first terms counts)

-- each number of an op in each term
abbrev pub drop_at : ℕ → ℕ → ℕ × ℕ
drop_at o term = (o, term)

abbrev pub drops_in : ℕ → ℕ → ℕ → List (ℕ × ℕ)
drops_in first terms zero = []
drops_in first terms (suc ops) = map (drop_at ops) (numbers first terms) ++ drops_in first terms ops

pub in_drops : (first terms ops o term : ℕ) → o < ops → Has (numbers first terms) term → Has (drops_in first terms ops) (drop_at o term)
in_drops first terms zero o term below among = let never : o < 0 = below in absurd (omega (arith, never))
in_drops first terms (suc ops) o term below among = elim (eqb_tells ops o) [
  | inl here ↦
      Has-left (map (drop_at ops) (numbers first terms)) (drops_in first terms ops) (drop_at o term)
      (subst (λ (y : ℕ). Has (map (drop_at ops) (numbers first terms)) (drop_at y term)) here.1 (Has-map (drop_at ops) (numbers first terms) term among))
  | inr other ↦ Has-right (map (drop_at ops) (numbers first terms)) (drops_in first terms ops) (drop_at o term) (in_drops first terms ops o term (under ops o below other.1) among)
]
  where
    under : (a b : ℕ) → b < suc a → (a ≡ b → ⊥) → b < a
    under a b most apart = let less : b < suc a = most in let differ : a ≡ b → ⊥ = apart in omega (arith, less, differ)

total_drops : (first terms ops : ℕ) → total drop_weight (drops_in first terms ops) ≡ ops * (terms * suc most_of_drop)
total_drops first terms zero = sym (zero-mul (terms * suc most_of_drop))
total_drops first terms (suc ops) =
    total_append drop_weight (map (drop_at ops) (numbers first terms)) (drops_in first terms ops)
    ∙ ap (λ n. n + total drop_weight (drops_in first terms ops)) (total_numbers (drop_at ops) drop_weight (suc most_of_drop) first terms (λ x. refl))
    ∙ ap (λ n. terms * suc most_of_drop + n) (total_drops first terms ops)
    ∙ times_more ops (terms * suc most_of_drop)

-- ---- what was asked weighs so much

total_map : {A B : Type 0} (weight : B → ℕ) (g : A → B) (xs : List A) → total weight (map g xs) ≡ total (λ x. weight (g x)) xs
total_map weight g [] = refl
total_map weight g (x ∷ xs) = ap (λ n. weight (g x) + n) (total_map weight g xs)

pub total_same : {A : Type 0} (weight : A → ℕ) (c : ℕ) (xs : List A) → ((x : A) → weight x ≡ c) → total weight xs ≡ length xs * c
total_same weight c [] same = sym (zero-mul c)
total_same weight c (x ∷ xs) same = ap (λ k. k + total weight xs) (same x) ∙ ap (λ k. c + k) (total_same weight c xs same) ∙ times_more (length xs) c

length_numbered : (r : IndexRef) (first n : ℕ) → length (numbered r first n) ≡ n
length_numbered r first zero = refl
length_numbered r first (suc n) = ap suc (length_numbered r (suc first) n)

pub length_places : (refs : List IndexRef) → length (places refs) ≡ count_of_shards refs
length_places [] = refl
length_places (r ∷ refs) = length-append (numbered r 0 r.shards) (places refs) ∙ ap (λ n. n + length (places refs)) (length_numbered r 0 r.shards) ∙ ap (λ n. r.shards + n) (length_places refs)

module _ (f : Formats) (size : ℕ) (w : World) where
  abbrev shard_weight : Option ℕ → ShardWork → ℕ
  shard_weight source s = most_of_item f size (item_of w.next_op source s)

  pending_weight : (a : AskedIndex) (r : IndexRef) (first n : ℕ) → r.name ≡ a.name → total (shard_weight None) (pending_shards a r first n) ≡ work_of_shards f size a first n
  pending_weight a r first zero same = refl
  pending_weight a r first (suc n) same = ap (λ (name : Bytes). suc (most_of_shard f size a.place name first None) + total (shard_weight None) (pending_shards a r (suc first) n)) same
      ∙ ap (λ k. suc (most_of_shard f size a.place a.name first None) + k) (pending_weight a r (suc first) n same)

  ref_name : (a : AskedIndex) (id : Option ℕ) (next : ℕ) → (ref_by a id next).name ≡ a.name
  ref_name a None next = refl
  ref_name a (Some id) next = refl

  ref_shards : (a : AskedIndex) (id : Option ℕ) (next : ℕ) → (ref_by a id next).shards ≡ a.shards
  ref_shards a None next = refl
  ref_shards a (Some id) next = refl

  indices_weight : (next : ℕ) (indices : List AskedIndex) → total (shard_weight None) (all_pending indices (refs_from w next indices)) ≡ work_of_indices f size indices
  indices_weight next [] = refl
  indices_weight next (a ∷ indices) =
      let r : IndexRef = ref_by a (known_id w a.name) next in
      total_append (shard_weight None) (pending_shards a r 0 r.shards) (all_pending indices (refs_from w (next_by (known_id w a.name) next) indices))
      ∙ ap (λ n. n + total (shard_weight None) (all_pending indices (refs_from w (next_by (known_id w a.name) next) indices)))
      (pending_weight a r 0 r.shards (ref_name a (known_id w a.name) next) ∙ ap (work_of_shards f size a 0) (ref_shards a (known_id w a.name) next))
      ∙ ap (λ n. work_of_shards f size a 0 a.shards + n) (indices_weight (next_by (known_id w a.name) next) indices)

  clone_weight : (source : ℕ) (refs : List IndexRef) → total (most_of_item f size) (map (item_of w.next_op (Some source)) (map copied_shard (places refs))) ≡ count_of_shards refs * most_of_copy
  clone_weight source refs =
      total_map (most_of_item f size) (item_of w.next_op (Some source)) (map copied_shard (places refs))
      ∙ total_map (shard_weight (Some source)) copied_shard (places refs)
      ∙ total_same (λ (p : IndexRef × ℕ). shard_weight (Some source) (copied_shard p)) most_of_copy (places refs) (λ p. refl)
      ∙ ap (λ n. n * most_of_copy) (length_places refs)

  pub asked_weight : (step : Step) → total (most_of_item f size) (asked_items w step) ≡ shards_work f size step
  asked_weight (AskStep (Snapshot name indices moment)) =
      total_map (most_of_item f size) (item_of w.next_op None) (all_pending indices (refs_from w (suc w.next_id) indices)) ∙ indices_weight (suc w.next_id) indices
  asked_weight (AskStep (Clone source name names moment (Some taken))) = clone_weight taken.source taken.indices
  asked_weight step = refl

  length_refs : (next : ℕ) (indices : List AskedIndex) → length (refs_from w next indices) ≡ length indices
  length_refs next [] = refl
  length_refs next (a ∷ indices) = ap suc (length_refs (next_by (known_id w a.name) next) indices)

-- whether the step asks for an op

spread : (terms a b : ℕ) → (terms * a + 0) + 1 * (terms * b) ≡ terms * (a + b)
spread terms a b = ap (λ n. (terms * a + 0) + n) (one_times (terms * b)) ∙ no_more (terms * a) (terms * b) ∙ sym (mul-add terms a b)
  where
    one_times : (n : ℕ) → 1 * n ≡ n
    one_times n = omega arith

    no_more : (a b : ℕ) → (a + 0) + b ≡ a + b
    no_more a b = omega arith

op_weight : (f : Formats) (size terms : ℕ) (w : World) (step : Step) → total (count_weight terms) (asked_counts w step) + asks_by step * (terms * suc most_of_drop) ≡ terms * op_work step
op_weight f size terms w (AskStep (Snapshot name indices moment)) =
    ap (λ n. (terms * suc (most_of_final n) + 0) + 1 * (terms * suc most_of_drop)) (length_refs f size w (suc w.next_id) indices) ∙ spread terms (suc (most_of_final (length indices))) (suc most_of_drop)
op_weight f size terms w (AskStep (Clone source name names moment (Some taken))) = spread terms (suc (most_of_final (length taken.indices))) (suc most_of_drop)
op_weight f size terms w (AskStep command) = once_more (terms * suc most_of_drop)
  where
    once_more : (n : ℕ) → 0 + 1 * n ≡ n
    once_more n = omega arith
op_weight f size terms w step = none terms (terms * suc most_of_drop)
  where
    none : (n x : ℕ) → 0 + 0 * x ≡ n * 0
    none n x = omega arith

zeros : (x : ℕ) → 0 + (0 + 0 * x) ≡ 0
zeros x = omega arith

pub all_weight : (f : Formats) (size terms : ℕ) (w : World) (log : List Moment)
    → total (most_of_item f size) (all_items f w log) + (total (count_weight terms) (all_counts f w log) + asks_in log * (terms * suc most_of_drop)) ≡ work_of f size terms log
all_weight f size terms w [] = zeros (terms * suc most_of_drop)
all_weight f size terms w (m ∷ log) =
    ap (λ n. n + (total (count_weight terms) (asked_counts w m.entry.step ++ all_counts f (after f w m) log) + (asks_by m.entry.step + asks_in log) * (terms * suc most_of_drop)))
    (total_append (most_of_item f size) (asked_items w m.entry.step) (all_items f (after f w m) log))
    ∙ ap (λ n. (total (most_of_item f size) (asked_items w m.entry.step) + total (most_of_item f size) (all_items f (after f w m) log)) + (n + (asks_by m.entry.step + asks_in log) * (terms * suc most_of_drop)))
    (total_append (count_weight terms) (asked_counts w m.entry.step) (all_counts f (after f w m) log))
    ∙ ap (λ n. (total (most_of_item f size) (asked_items w m.entry.step) + total (most_of_item f size) (all_items f (after f w m) log))
    + ((total (count_weight terms) (asked_counts w m.entry.step) + total (count_weight terms) (all_counts f (after f w m) log)) + n)) (add-mul (asks_by m.entry.step) (asks_in log) (terms * suc most_of_drop))
    ∙ six (total (most_of_item f size) (asked_items w m.entry.step)) (total (most_of_item f size) (all_items f (after f w m) log)) (total (count_weight terms) (asked_counts w m.entry.step))
    (total (count_weight terms) (all_counts f (after f w m) log)) (asks_by m.entry.step * (terms * suc most_of_drop)) (asks_in log * (terms * suc most_of_drop))
    ∙ ap (λ n. (n + (total (count_weight terms) (asked_counts w m.entry.step) + asks_by m.entry.step * (terms * suc most_of_drop)))
    + (total (most_of_item f size) (all_items f (after f w m) log) + (total (count_weight terms) (all_counts f (after f w m) log) + asks_in log * (terms * suc most_of_drop)))) (asked_weight f size w m.entry.step)
    ∙ ap (λ n. (shards_work f size m.entry.step + n) + (total (most_of_item f size) (all_items f (after f w m) log) + (total (count_weight terms) (all_counts f (after f w m) log) + asks_in log * (terms * suc most_of_drop))))
    (op_weight f size terms w m.entry.step)
    ∙ ap (λ n. (shards_work f size m.entry.step + terms * op_work m.entry.step) + n) (all_weight f size terms (after f w m) log)
  where
    six : (a b c d i j : ℕ) → (a + b) + ((c + d) + (i + j)) ≡ (a + (c + i)) + (b + (d + j))
    six a b c d i j = omega arith

-- ---- numbers of ops, and terms

module _ (f : Formats) (w : World) where
  next_on : (who : ℕ) (step : Step) (new : World) → StepChange f w who step new → (new.next_op ≡ w.next_op) ⊎ (IsAsk step × (new.next_op ≡ suc w.next_op))
  next_on who step new (NewOp ask op completed next_id is rises) = inr (ask, refl)
  next_on who step new (NewDeletion ask ops x aborts clean) = inr (ask, refl)
  next_on who step new (NewRestore ask r) = inr (ask, refl)
  next_on who step new (SwapFault swaps up change) = next_on who step up change
  next_on who step new other = inl refl

  elects_on : (who : ℕ) (step : Step) (new : World) → StepChange f w who step new → (new.term ≡ w.term) ⊎ ((step ≡ ElectStep) × (new.term ≡ suc w.term))
  elects_on who step new (Election elect) = inr (elect, refl)
  elects_on who step new (SwapFault swaps up change) = elects_on who step up change
  elects_on who step new other = inl refl

ask_one : (step : Step) → IsAsk step → asks_by step ≡ 1
ask_one (AskStep command) h = refl
ask_one step h = absurd h

module _ (f : Formats) (size : ℕ) (laws : MasterLaws f size) where
  pub ops_few : (w : World) (log : List Moment) → (world_from f w log).next_op ≤ w.next_op + asks_in log
  ops_few w [] = let same : w.next_op ≤ w.next_op + 0 = omega arith in same
  ops_few w (m ∷ log) = both (world_from f (after f w m) log).next_op (after f w m).next_op w.next_op (asks_by m.entry.step) (asks_in log) (ops_few (after f w m) log)
      (one (next_on f w m.entry.who m.entry.step (answered f w m.entry.who m.entry.step m.entry.reply m.image) (laws.change w m.entry.who m.entry.step m.entry.reply m.image)))
    where
      both : (last now was a b : ℕ) → last ≤ now + b → now ≤ was + a → last ≤ was + (a + b)
      both last now was a b p q = let rest : last ≤ now + b = p in let first : now ≤ was + a = q in omega (arith, rest, first)

      one : ((after f w m).next_op ≡ w.next_op) ⊎ (IsAsk m.entry.step × ((after f w m).next_op ≡ suc w.next_op)) → (after f w m).next_op ≤ w.next_op + asks_by m.entry.step
      one (inl same) = let is : (after f w m).next_op ≡ w.next_op = same in omega (arith, is)
      one (inr more) = let is : (after f w m).next_op ≡ suc w.next_op = more.1 in let asks : asks_by m.entry.step ≡ 1 = ask_one m.entry.step more.0 in omega (arith, is, asks)

  terms_few : (w : World) (log : List Moment) → (world_from f w log).term ≤ w.term + elections_in log
  terms_few w [] = let same : w.term ≤ w.term + 0 = omega arith in same
  terms_few w (m ∷ log) = both (world_from f (after f w m) log).term (after f w m).term w.term (elections_by m.entry.step) (elections_in log) (terms_few (after f w m) log)
      (one (elects_on f w m.entry.who m.entry.step (answered f w m.entry.who m.entry.step m.entry.reply m.image) (laws.change w m.entry.who m.entry.step m.entry.reply m.image)))
    where
      both : (last now was a b : ℕ) → last ≤ now + b → now ≤ was + a → last ≤ was + (a + b)
      both last now was a b p q = let rest : last ≤ now + b = p in let first : now ≤ was + a = q in omega (arith, rest, first)

      one : ((after f w m).term ≡ w.term) ⊎ ((m.entry.step ≡ ElectStep) × ((after f w m).term ≡ suc w.term)) → (after f w m).term ≤ w.term + elections_by m.entry.step
      one (inl same) = let is : (after f w m).term ≡ w.term = same in omega (arith, is)
      one (inr more) = let is : (after f w m).term ≡ suc w.term = more.1 in let elects : elections_by m.entry.step ≡ 1 = ap elections_by more.0 in omega (arith, is, elects)

  -- no ticket is of a term before the first
  abbrev TermsFrom : ℕ → World → Type 0
  TermsFrom first w = (first ≤ w.term) × ((k : ℕ) (t : Ticket) → fin.get w.tickets k ≡ Some t → first ≤ t.term)

  terms_from : (first : ℕ) (w : World) (log : List Moment) → TermsFrom first w → TermsFrom first (world_from f w log)
  terms_from first w [] h = h
  terms_from first w (m ∷ log) h = terms_from first (after f w m) log (now, tickets_now)
    where
      now : first ≤ (after f w m).term
      now = ⊎_elim
          (λ (same : (after f w m).term ≡ w.term). let is : (after f w m).term ≡ w.term = same in let from : first ≤ w.term = h.0 in omega (arith, is, from))
          (λ (more : (m.entry.step ≡ ElectStep) × ((after f w m).term ≡ suc w.term)). let is : (after f w m).term ≡ suc w.term = more.1 in let from : first ≤ w.term = h.0 in omega (arith, is, from))
          (elects_on f w m.entry.who m.entry.step (answered f w m.entry.who m.entry.step m.entry.reply m.image) (laws.change w m.entry.who m.entry.step m.entry.reply m.image))

      tickets_now : (k : ℕ) (v : Ticket) → fin.get (after f w m).tickets k ≡ Some v → first ≤ v.term
      tickets_now k v there = elim ((laws.frame w m).come k v there) [
        | inl old ↦ subst (λ (n : ℕ). first ≤ n) (sym old.2.term) (h.1 k old.0 old.1)
        | inr new ↦ subst (λ (n : ℕ). first ≤ n) (sym new.1.term) h.0
      ]

-- ---- all together

same_le : (n : ℕ) → n ≤ n
same_le n = omega arith

-- a ticket's entry is below the next one's
abbrev Below : World → Moment → Type 0
Below last m = m.entry.who ≤ last.next_ticket

module _ (f : Formats) (size : ℕ) (steps : StepLaws f size) where
  next_rises : (w : World) (log : List Moment) → w.next_ticket ≤ (world_from f w log).next_ticket
  next_rises w [] = let same : w.next_ticket ≤ w.next_ticket = omega arith in same
  next_rises w (m ∷ log) =
      let first : w.next_ticket ≤ (after f w m).next_ticket = (steps.frame w m).next_ticket in
      let rest : (after f w m).next_ticket ≤ (world_from f (after f w m) log).next_ticket = next_rises (after f w m) log in
      omega (arith, first, rest)

  -- each unit that is given has a number of its own
  given_shard_next : (w : World) (o : ℕ) (op : Op) (base : Option ℕ) (s : Option ShardWork) (z : ShardWork) → s ≡ Some z → suc w.next_ticket ≤ (taken_shard w o op base s).next_ticket
  given_shard_next w o op base None z is = absurd (none-some z is)
  given_shard_next w o op base (Some s) z is = same_le (suc w.next_ticket)

  given_restore_next : (w : World) (o : ℕ) (r : Restoring) (s : Option RestoreShard) (z : RestoreShard) → s ≡ Some z → suc w.next_ticket ≤ (taken_restore_shard w o r s).next_ticket
  given_restore_next w o r None z is = absurd (none-some z is)
  given_restore_next w o r (Some s) z is = same_le (suc w.next_ticket)

  unit_next : (w : World) (o : ℕ) (unit : Given) → Gives f w o unit → suc w.next_ticket ≤ (taken_by f w o unit (fin.get w.ops o)).next_ticket
  unit_next w o (GivenShard index number base) g =
      subst (λ (op : Option Op). suc w.next_ticket ≤ (taken_by f w o (GivenShard index number base) op).next_ticket) (sym g.ready.op_there) (given_shard_next w o g.op base (shard_of g.op.shards index number) g.s g.found)
  unit_next w o (GivenClone index number source base) g =
      subst (λ (op : Option Op). suc w.next_ticket ≤ (taken_by f w o (GivenClone index number source base) op).next_ticket) (sym g.ready.op_there) (given_shard_next w o g.op base (shard_of g.op.shards index number) g.s g.found)
  unit_next w o (GivenFinalize info results) g = subst (λ (op : Option Op). suc w.next_ticket ≤ (taken_by f w o (GivenFinalize info results) op).next_ticket) (sym g.ready.op_there) (same_le (suc w.next_ticket))
  unit_next w o (GivenRestore index number uuid) g =
      subst (λ (r : Option Restoring). suc w.next_ticket ≤ (taken_restore w o index number r).next_ticket) (sym g.ready.there) (given_restore_next w o g.r (restore_shard g.r.shards index number) g.s g.found)
  unit_next w o unit g = same_le (suc w.next_ticket)

  plus_one : (a b : ℕ) → suc a ≤ b → 1 + a ≤ b
  plus_one a b h = let less : suc a ≤ b = h in omega (arith, less)

  gave_next : (gave : (w : World) (m : Moment) (k o : ℕ) (unit : Given) → Allowed f size w m → m.entry.reply ≡ Gave k o unit → TakeGave f w m.entry.who m.entry.step k o unit) → (w : World) (m : Moment)
      → Allowed f size w m → gave_by m.entry.reply + w.next_ticket ≤ (after f w m).next_ticket
  gave_next gave w m a = by m.entry.reply refl
    where
      rises : 0 + w.next_ticket ≤ (after f w m).next_ticket
      rises = let up : w.next_ticket ≤ (after f w m).next_ticket = (steps.frame w m).next_ticket in omega (arith, up)

      by : (reply : Reply) → m.entry.reply ≡ reply → gave_by reply + w.next_ticket ≤ (after f w m).next_ticket
      by (Gave k o unit) is =
          let take = gave w m k o unit a is in
          subst (λ (r : Reply). 1 + w.next_ticket ≤ (answered f w m.entry.who m.entry.step r m.image).next_ticket) (sym is)
          (subst (λ (step : Step). 1 + w.next_ticket ≤ (answered f w m.entry.who step (Gave k o unit) m.image).next_ticket)
          (sym take.step_is) (plus_one w.next_ticket (taken_by f w o unit (fin.get w.ops o)).next_ticket (unit_next w o unit take.gives)))
      by reply is = rises

  gave_few : ((w : World) (m : Moment) (k o : ℕ) (unit : Given) → Allowed f size w m → m.entry.reply ≡ Gave k o unit → TakeGave f w m.entry.who m.entry.step k o unit) → (w : World) (log : List Moment)
      → IsLegal f size w log → gave_in log + w.next_ticket ≤ (world_from f w log).next_ticket
  gave_few gave w [] legal = let same : 0 + w.next_ticket ≤ w.next_ticket = omega arith in same
  gave_few gave w (m ∷ log) legal =
      let first : gave_by m.entry.reply + w.next_ticket ≤ (after f w m).next_ticket = gave_next gave w m legal.0 in
      let rest : gave_in log + (after f w m).next_ticket ≤ (world_from f (after f w m) log).next_ticket = gave_few gave (after f w m) log legal.1 in
      omega (arith, first, rest)

  pub makers_below : (w : World) (log : List Moment) → Tracked w → ReadTracked w → IsLegal f size w log → AreHeard log → (m : Moment) → Has log m → Below (world_from f w log) m
  makers_below w [] tracked reads legal heard m h = absurd h
  makers_below w (x ∷ log) tracked reads legal heard m (inr h) = makers_below (after f w x) log (steps.tracks w x tracked legal.0) (steps.reads w x tracked reads legal.0) legal.1 (λ n had. heard n (inr had)) m h
  makers_below w (x ∷ log) tracked reads legal heard m (inl same) = subst (Below (world_from f w (x ∷ log))) same (by (zero_or x.entry.who))
    where
      zero_or : (n : ℕ) → (n ≡ 0) ⊎ (1 ≤ n)
      zero_or zero = inl refl
      zero_or (suc n) = let some : 1 ≤ suc n = omega arith in inr some

      by : (x.entry.who ≡ 0) ⊎ (1 ≤ x.entry.who) → Below (world_from f w (x ∷ log)) x
      by (inl nobody) = let is : x.entry.who ≡ 0 = nobody in omega (arith, is)
      by (inr some) =
          let below : x.entry.who < w.next_ticket = (turn_of f size steps w x tracked reads legal.0 (heard x (inl refl)) some).below in
          let rises : w.next_ticket ≤ (world_from f w (x ∷ log)).next_ticket = next_rises w (x ∷ log) in
          omega (arith, below, rises)

module _ (f : Formats) (size : ℕ) (known : AllKnown f) (steps : StepLaws f size) (masters : MasterLaws f size)
    (gave : (v : World) (m : Moment) (k o : ℕ) (unit : Given) → Allowed f size v m → m.entry.reply ≡ Gave k o unit → TakeGave f v m.entry.who m.entry.step k o unit) (w : World) (log : List Moment) (h : IsHeard f size w log) where
  abbrev last : World
  last = world_from f w log

  abbrev terms : ℕ
  terms = suc (elections_in log)

  given : GivenOnce last
  given = log_once f size masters.change masters.frame masters.tracks w log h.tracked (untouched_once w h.untouched) h.legal

  pub once : MastersOnce last
  once = masters_log f size masters w log h.tracked h.readers (untouched_masters w h.untouched) h.legal

  all : AllIn (all_items f w log) (all_counts f w log) last
  all = all_in f size masters w log h.tracked h.readers (untouched_masters w h.untouched) h.untouched h.legal

  pub tracked_last : Tracked last
  tracked_last = on w log h.tracked h.legal
    where
      on : (v : World) (rest : List Moment) → Tracked v → IsLegal f size v rest → Tracked (world_from f v rest)
      on v [] tracked legal = tracked
      on v (m ∷ rest) tracked legal = on (after f v m) rest (masters.tracks v m tracked legal.0) legal.1

  -- the term of a ticket is one of these
  pub term_in : (k : ℕ) (t : Ticket) → fin.get last.tickets k ≡ Some t → Has (numbers w.term terms) t.term
  term_in k t there =
      let from : w.term ≤ t.term = (terms_from f size masters w.term w log (first_le w.term, λ j u at. absurd (nothing w.tickets j u h.untouched.tickets at))).1 k t there in
      let upto_last : t.term ≤ last.term = (tracked_last.tickets k t there).1 in
      let few : last.term ≤ w.term + elections_in log = terms_few f size masters w log in
      in_numbers w.term terms t.term from (below t.term last.term w.term (elections_in log) upto_last few)
    where
      first_le : (n : ℕ) → n ≤ n
      first_le n = omega arith

      below : (a b c d : ℕ) → a ≤ b → b ≤ c + d → a < c + suc d
      below a b c d p q = let one : a ≤ b = p in let two : b ≤ c + d = q in omega (arith, one, two)

  item_in : (t : Ticket) (work : Work) (k : ℕ) (x : Item) → t.work ≡ work → fin.get last.tickets k ≡ Some t → Has (shard_of_ticket t work) x → Has (all_items f w log) x
  item_in t (Shard index number) k x is there (inl e) = subst (Has (all_items f w log)) e (all.tickets k t index number there is)
  item_in t (Shard index number) k x is there (inr never) = absurd never
  item_in t (Finalize info results made) k x is there never = absurd never
  item_in t work k x is there never = absurd never

  final_in : (t : Ticket) (work : Work) (k : ℕ) (x : ℕ × (ℕ × ℕ)) → t.work ≡ work → fin.get last.tickets k ≡ Some t → Has (final_of_ticket t work) x → Has (finals_in w.term terms (all_counts f w log)) x
  final_in t (Finalize info results made) k x is there (inl e) =
      subst (Has (finals_in w.term terms (all_counts f w log))) e (in_finals w.term terms (all_counts f w log) (t.op, length info.indices) t.term (all.finals k t info results made there is) (term_in k t there))
  final_in t (Finalize info results made) k x is there (inr never) = absurd never
  final_in t work k x is there never = absurd never

  drop_in : (t : Ticket) (work : Work) (k : ℕ) (x : ℕ × ℕ) → t.work ≡ work → fin.get last.tickets k ≡ Some t → Has (drop_of_ticket t work) x → Has (drops_in w.term terms last.next_op) x
  drop_in t Drop k x is there (inl e) = subst (Has (drops_in w.term terms last.next_op)) e (in_drops w.term terms last.next_op t.op t.term (tracked_last.begun k t there) (term_in k t there))
  drop_in t Drop k x is there (inr never) = absurd never
  drop_in t (Finalize info results made) k x is there never = absurd never
  drop_in t work k x is there never = absurd never

  pub items_few : total (most_of_item f size) (upto shard_of_ticket last.tickets last.next_ticket) ≤ total (most_of_item f size) (all_items f w log)
  items_few = light_once (most_of_item f size) (upto shard_of_ticket last.tickets last.next_ticket) (all_items f w log) (items_once last given once last.next_ticket)
      (λ x had. let r = of_upto shard_of_ticket last.tickets last.next_ticket x had in item_in r.2 r.2.work r.0 x refl r.3 r.4)

  pub finals_few : total final_weight (upto final_of_ticket last.tickets last.next_ticket) ≤ total (count_weight terms) (all_counts f w log)
  finals_few =
      subst (λ n. total final_weight (upto final_of_ticket last.tickets last.next_ticket) ≤ n) (total_finals w.term terms (all_counts f w log))
      (light_once final_weight (upto final_of_ticket last.tickets last.next_ticket) (finals_in w.term terms (all_counts f w log)) (finals_once last given once last.next_ticket)
      (λ x had. let r = of_upto final_of_ticket last.tickets last.next_ticket x had in final_in r.2 r.2.work r.0 x refl r.3 r.4))

  pub drops_few : total drop_weight (upto drop_of_ticket last.tickets last.next_ticket) ≤ (w.next_op + asks_in log) * (terms * suc most_of_drop)
  drops_few =
      both (total drop_weight (upto drop_of_ticket last.tickets last.next_ticket)) (last.next_op * (terms * suc most_of_drop)) ((w.next_op + asks_in log) * (terms * suc most_of_drop))
      (subst (λ n. total drop_weight (upto drop_of_ticket last.tickets last.next_ticket) ≤ n) (total_drops w.term terms last.next_op)
      (light_once drop_weight (upto drop_of_ticket last.tickets last.next_ticket) (drops_in w.term terms last.next_op) (drops_once last given once last.next_ticket) (λ x had.
      let r = of_upto drop_of_ticket last.tickets last.next_ticket x had in
      drop_in r.2 r.2.work r.0 x refl r.3 r.4)))
      (mul-le-mul_right (terms * suc most_of_drop) (ops_few f size masters w log))
    where
      both : (a b c : ℕ) → a ≤ b → b ≤ c → a ≤ c
      both a b c p q = let one : a ≤ b = p in let two : b ≤ c = q in omega (arith, one, two)

  pub whole : length log ≤ idle_in log + ((work_of f size terms log + w.next_op * (terms * suc most_of_drop)) + made_of_others log last last.next_ticket)
  whole =
      add_up (length log) (made_by log 0) (made_upto log last.next_ticket) (total (most_of_item f size) (upto shard_of_ticket last.tickets last.next_ticket))
      (total final_weight (upto final_of_ticket last.tickets last.next_ticket)) (total drop_weight (upto drop_of_ticket last.tickets last.next_ticket)) (made_of_others log last last.next_ticket)
      (total (most_of_item f size) (all_items f w log)) (total (count_weight terms) (all_counts f w log)) (w.next_op * (terms * suc most_of_drop))
      (asks_in log * (terms * suc most_of_drop)) (work_of f size terms log) (idle_in log) (gave_in log) last.next_ticket (units_upto log last.next_ticket)
      (all_made log last.next_ticket (makers_below f size steps w log h.tracked h.readers h.legal h.heard))
      (weighed f size last log (λ k t index number some there is. shard_few f size known steps w log h k t some there index number is)
      (λ k t info results made some there is. final_few f size known steps w log h k t some there info results made is) (λ k t some there is. drop_few f size known steps w log h k t some there is) last.next_ticket)
      items_few finals_few (subst (λ n. total drop_weight (upto drop_of_ticket last.tickets last.next_ticket) ≤ n) (add-mul w.next_op (asks_in log) (terms * suc most_of_drop)) drops_few) (all_weight f size terms w log)
      (nobody_made log) (below_last (gave_in log) w.next_ticket last.next_ticket (gave_few f size steps gave w log h.legal)) (with_takes log last.next_ticket)
    where
      below_last : (a b c : ℕ) → a + b ≤ c → a ≤ c
      below_last a b c p = let most : a + b ≤ c = p in omega (arith, most)

      add_up : (l nobody made a b c others items counts kept asks work idle given next units : ℕ) → l ≤ nobody + made → units ≤ a + (b + (c + others)) → a ≤ items → b ≤ counts → c ≤ kept + asks
          → items + (counts + asks) ≡ work → nobody ≤ idle + given → given ≤ next → units ≡ made + next
          → l ≤ idle + ((work + kept) + others)
      add_up l nobody made a b c others items counts kept asks work idle given next units one two p q r e i g u =
          let all_of : l ≤ nobody + made = one in
          let of_kinds : units ≤ a + (b + (c + others)) = two in
          let shards : a ≤ items = p in
          let finals : b ≤ counts = q in
          let drops : c ≤ kept + asks = r in
          let is : items + (counts + asks) ≡ work = e in
          let who : nobody ≤ idle + given = i in
          let takes : given ≤ next = g in
          let both : units ≡ made + next = u in
          omega (arith, all_of, of_kinds, shards, finals, drops, is, who, takes, both)
