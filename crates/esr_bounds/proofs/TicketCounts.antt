-- All steps together, by how many units are asked: each delete and cleanup has one ticket a term, each shard of a restore has one.
use Rattle.std.proofs.Common.{◌≡◌, ◌⊎◌, ⊎_elim, ℕ, zero, suc, ◌+◌, ◌*◌, ◌<◌, ◌≤◌, List, [], ◌∷◌, ◌++◌, length, map, true, false, Option, Some, None, refl, sym, ap, ◌∙◌, subst, inl, inr, arith, nat_cmp, le_refl}
use Rattle.std.proofs.lemmas.Bool.Decides.{eqb_tells, leb_tells}
use Rattle.std.proofs.Math.Nat.{mul-le-mul_right, zero-mul}
use Rattle.std.specs.FinMap.{FinMap}
use Rattle.std.specs.FinMap as fin
use Rattle.esr_model.specs.Lists.{Has-either}
use Rattle.esr_model.specs.Values.{Has, Formats}
use Rattle.esr_core.specs.World.{World, Restoring, Reader, Work, Shard, Finalize, Deleting, Drop, Ticket, Swap}
use Rattle.esr_core.specs.Restores.{AreOnce, reader_of, read_more}
use Rattle.esr_core.specs.Changes.{StepChange, NewTicket, NewReader, OwnTicket, Settlement, UnitEnd, DeletionFailure, OpDrop, ReaderFetch, ReaderEnd, SwapFault}
use Rattle.esr_core.specs.Entry.{Given, Step, Gave, Moment}
use Rattle.esr_core.specs.After.{answered, after}
use Rattle.esr_core.specs.Causes.{TakeGave}
use Rattle.esr_core.specs.Allowed.{Allowed}
use Rattle.esr_core.specs.History.{world_from, AllKnown, AreTold}
use Rattle.esr_core.specs.Laws.NumberMaps.{some_none, same_in, other_in}
use Rattle.esr_bounds.specs.Keys.{made_by, IsHeard}
use Rattle.esr_bounds.specs.Most.{IsDelete, most_of_drop}
use Rattle.esr_bounds.specs.Work.{work_of, asks_in, elections_in, restores_in, idle_in, made_if_delete, made_besides, made_of_others}
use Rattle.esr_bounds.specs.Clients.{most_of_client}
use Rattle.esr_bounds.specs.Others.{most_asked}
use Rattle.esr_bounds.specs.Laws.{StepLaws, MasterLaws}
use Rattle.esr_bounds.proofs.Counting.{total, total_append, light_once}
use Rattle.esr_bounds.proofs.GivenReads.{ReadOnce, untouched_reads, reads_once}
use Rattle.esr_bounds.proofs.Masters.{MastersOnce}
use Rattle.esr_bounds.proofs.Totals.{at, upto, of_upto, once_append, once_upto, numbers, times_more, total_numbers, total_same, drop_at, drops_in, in_drops, ops_few, once, tracked_last, term_in, whole}
use Rattle.esr_bounds.proofs.Pieces.{none_made}
use Rattle.esr_bounds.proofs.RestoresAsked.{reader_item, all_restored, length_all, readers_asked}

-- ---- the tickets of deletes, and those of restores

abbrev pub delete_of_ticket : Ticket → Work → List (ℕ × ℕ)
delete_of_ticket t (Shard index number) = []
delete_of_ticket t (Finalize info results made) = []
delete_of_ticket t (Deleting uuids plan) = (t.op, t.term) ∷ []
delete_of_ticket t Drop = []

abbrev pub reader_at : Option Reader → List (ℕ × (ℕ × ℕ))
reader_at None = []
reader_at (Some q) = reader_item q ∷ []

abbrev pub readers_upto : FinMap nat_cmp Reader → ℕ → List (ℕ × (ℕ × ℕ))
readers_upto readers zero = []
readers_upto readers (suc k) = reader_at (fin.get readers (suc k)) ++ readers_upto readers k

-- a number that neither has
abbrev none_at : Option Ticket → Option Reader → ℕ
none_at (Some t) reader = 0
none_at None (Some q) = 0
none_at None None = 1

abbrev pub nones : World → ℕ → ℕ
nones w zero = 0
nones w (suc k) = none_at (fin.get w.tickets (suc k)) (fin.get w.readers (suc k)) + nones w k

-- ---- each stands once

single_delete : (t : Ticket) (work : Work) → AreOnce (delete_of_ticket t work)
single_delete t (Deleting uuids plan) = ((λ h. h), tt)
single_delete t work = tt

delete_is : (t : Ticket) (work : Work) (x : ℕ × ℕ) → Has (delete_of_ticket t work) x → IsDelete work × ((t.op ≡ x.0) × (t.term ≡ x.1))
delete_is t (Deleting uuids plan) x (inl e) = (tt, (ap (λ (i : ℕ × ℕ). i.0) e, ap (λ (i : ℕ × ℕ). i.1) e))
delete_is t (Deleting uuids plan) x (inr h) = absurd h
delete_is t work x h = absurd h

deletes_once : (w : World) → MastersOnce w → (n : ℕ) → AreOnce (upto delete_of_ticket w.tickets n)
deletes_once w masters = once_upto delete_of_ticket w.tickets (λ t. single_delete t t.work) (λ j k t u x at_j at_k a b.
    let p = delete_is t t.work x a in let q = delete_is u u.work x b in masters.deletes j k t u at_j at_k p.0 q.0 (p.1.0 ∙ sym q.1.0) (p.1.1 ∙ sym q.1.1))

of_reader : (o : Option Reader) (x : ℕ × (ℕ × ℕ)) → Has (reader_at o) x → (q : Reader) × (o ≡ Some q) × (reader_item q ≡ x)
of_reader None x h = absurd h
of_reader (Some q) x (inl e) = (q, refl, e)
of_reader (Some q) x (inr h) = absurd h

of_readers : (readers : FinMap nat_cmp Reader) (n : ℕ) (x : ℕ × (ℕ × ℕ)) → Has (readers_upto readers n) x → (k : ℕ) × (k ≤ n) × (q : Reader) × (fin.get readers k ≡ Some q) × (reader_item q ≡ x)
of_readers readers zero x h = absurd h
of_readers readers (suc n) x h = elim (Has-either (reader_at (fin.get readers (suc n))) (readers_upto readers n) x h) [
  | inl here ↦ let r = of_reader (fin.get readers (suc n)) x here in (suc n, le_refl (suc n), r.0, r.1, r.2)
  | inr there ↦ let r = of_readers readers n x there in (r.0, up r.0 n r.1, r.2, r.3, r.4)
]
  where
    up : (a b : ℕ) → a ≤ b → a ≤ suc b
    up a b less = let below : a ≤ b = less in omega (arith, below)

readers_once : (w : World) → ReadOnce w → (n : ℕ) → AreOnce (readers_upto w.readers n)
readers_once w reads zero = tt
readers_once w reads (suc n) =
    once_append (reader_at (fin.get w.readers (suc n))) (readers_upto w.readers n) (by (fin.get w.readers (suc n))) (readers_once w reads n)
    (λ x here there.
    let a = of_reader (fin.get w.readers (suc n)) x here in
    let b = of_readers w.readers n x there in
    let is : reader_item a.0 ≡ reader_item b.2 = a.2 ∙ sym b.4 in
    let same : suc n ≡ b.0 = reads.one (suc n) b.0 a.0 b.2 a.1 b.3 (ap (λ (i : ℕ × (ℕ × ℕ)). i.0) is) (ap (λ (i : ℕ × (ℕ × ℕ)). i.1.0) is) (ap (λ (i : ℕ × (ℕ × ℕ)). i.1.1) is) in
    let below : b.0 ≤ n = b.1 in
    omega (arith, same, below))
  where
    by : (o : Option Reader) → AreOnce (reader_at o)
    by None = tt
    by (Some q) = ((λ h. h), tt)

-- ---- each number in turn

-- the same weight for each of these
abbrev pub even : {A : Type 0} → ℕ → A → ℕ
even c x = c

module _ (w : World) (log : List Moment) (deleting restoring : ℕ)
    (delete_few : (k : ℕ) (t : Ticket) (uuids : List ℕ) (plan : Option Swap) → 1 ≤ k → fin.get w.tickets k ≡ Some t → t.work ≡ Deleting uuids plan → made_by log k ≤ deleting)
    (restore_few : (k : ℕ) (q : Reader) → 1 ≤ k → fin.get w.readers k ≡ Some q → made_by log k ≤ restoring)
    (none_few : (k : ℕ) → 1 ≤ k → fin.get w.tickets k ≡ None → fin.get w.readers k ≡ None → made_by log k ≤ 0) where
  abbrev DeleteWeight : List (ℕ × ℕ) → ℕ
  DeleteWeight xs = total (even (suc deleting)) xs

  abbrev ReadWeight : List (ℕ × (ℕ × ℕ)) → ℕ
  ReadWeight xs = total (even (suc restoring)) xs

  by_work : (k : ℕ) (t : Ticket) (reader : Option Reader) (work : Work) → 1 ≤ k → fin.get w.tickets k ≡ Some t → t.work ≡ work
      → made_if_delete log k work ≤ DeleteWeight (delete_of_ticket t work) + (ReadWeight (reader_at reader) + 0)
  by_work k t reader (Shard index number) some there is = none (ReadWeight (reader_at reader))
    where
      none : (n : ℕ) → 0 ≤ 0 + (n + 0)
      none n = omega arith
  by_work k t reader (Finalize info results made) some there is = none (ReadWeight (reader_at reader))
    where
      none : (n : ℕ) → 0 ≤ 0 + (n + 0)
      none n = omega arith
  by_work k t reader (Deleting uuids plan) some there is = one (made_by log k) deleting (ReadWeight (reader_at reader)) (delete_few k t uuids plan some there is)
    where
      one : (a b n : ℕ) → a ≤ b → suc a ≤ (suc b + 0) + (n + 0)
      one a b n h = let less : a ≤ b = h in omega (arith, less)
  by_work k t reader Drop some there is = none (ReadWeight (reader_at reader))
    where
      none : (n : ℕ) → 0 ≤ 0 + (n + 0)
      none n = omega arith

  by_number : (k : ℕ) (ticket : Option Ticket) (reader : Option Reader) → 1 ≤ k → fin.get w.tickets k ≡ ticket → fin.get w.readers k ≡ reader
      → made_besides log k ticket ≤ DeleteWeight (at delete_of_ticket ticket) + (ReadWeight (reader_at reader) + none_at ticket reader)
  by_number k (Some t) reader some there reads = by_work k t reader t.work some there refl
  by_number k None (Some q) some there reads = one (made_by log k) restoring (restore_few k q some reads)
    where
      one : (a b : ℕ) → a ≤ b → suc a ≤ 0 + ((suc b + 0) + 0)
      one a b h = let less : a ≤ b = h in omega (arith, less)
  by_number k None None some there reads = one (made_by log k) (none_few k some there reads)
    where
      one : (a : ℕ) → a ≤ 0 → suc a ≤ 0 + (0 + 1)
      one a h = let none : a ≤ 0 = h in omega (arith, none)

  pub weighed : (n : ℕ) → made_of_others log w n ≤ DeleteWeight (upto delete_of_ticket w.tickets n) + (ReadWeight (readers_upto w.readers n) + nones w n)
  weighed zero = let none : 0 ≤ 0 + (0 + 0) = omega arith in none
  weighed (suc k) =
      sum (made_besides log (suc k) (fin.get w.tickets (suc k))) (made_of_others log w k) (DeleteWeight (at delete_of_ticket (fin.get w.tickets (suc k))))
      (DeleteWeight (upto delete_of_ticket w.tickets k)) (DeleteWeight (upto delete_of_ticket w.tickets (suc k)))
      (ReadWeight (reader_at (fin.get w.readers (suc k)))) (ReadWeight (readers_upto w.readers k)) (ReadWeight (readers_upto w.readers (suc k))) (none_at (fin.get w.tickets (suc k)) (fin.get w.readers (suc k))) (nones w k)
      (by_number (suc k) (fin.get w.tickets (suc k)) (fin.get w.readers (suc k)) (first k) refl refl) (weighed k)
      (total_append (even (suc deleting)) (at delete_of_ticket (fin.get w.tickets (suc k))) (upto delete_of_ticket w.tickets k)) (total_append (even (suc restoring)) (reader_at (fin.get w.readers (suc k))) (readers_upto w.readers k))
    where
      first : (n : ℕ) → 1 ≤ suc n
      first n = omega arith

      sum : (a b d ds e r rs s n ns : ℕ) → a ≤ d + (r + n) → b ≤ ds + (rs + ns) → e ≡ d + ds → s ≡ r + rs → a + b ≤ e + (s + (n + ns))
      sum a b d ds e r rs s n ns p q u v = let one : a ≤ d + (r + n) = p in let two : b ≤ ds + (rs + ns) = q in let three : e ≡ d + ds = u in let four : s ≡ r + rs = v in omega (arith, one, two, three, four)

-- ---- numbers that nothing was given

-- from a number on each one below the next has a ticket, or one of a restore
abbrev AreGiven : ℕ → World → Type 0
AreGiven from w = (k : ℕ) → from ≤ k → k < w.next_ticket → fin.get w.tickets k ≡ None → fin.get w.readers k ≡ None → ⊥

module _ (f : Formats) (w : World) (from : ℕ) (given : AreGiven from w) where
  put_here : (k : ℕ) (v : Ticket) (j : ℕ) → fin.get (fin.insert w.tickets k v) j ≡ None → fin.get w.tickets j ≡ None
  put_here k v j none = elim (eqb_tells j k) [
    | inl here ↦ absurd (some_none v (sym (same_in w.tickets k v) ∙ subst (λ (n : ℕ). fin.get (fin.insert w.tickets k v) n ≡ None) here.1 none))
    | inr other ↦ sym (other_in w.tickets k v j other.1) ∙ none
  ]

  read_here : (k : ℕ) (v : Reader) (j : ℕ) → fin.get (fin.insert w.readers k v) j ≡ None → fin.get w.readers j ≡ None
  read_here k v j none = elim (eqb_tells j k) [
    | inl here ↦ absurd (some_none v (sym (same_in w.readers k v) ∙ subst (λ (n : ℕ). fin.get (fin.insert w.readers k v) n ≡ None) here.1 none))
    | inr other ↦ sym (other_in w.readers k v j other.1) ∙ none
  ]

  less_or : (j k : ℕ) → j < suc k → (j ≡ k → ⊥) → j < k
  less_or j k below apart = let less : j < suc k = below in let differ : j ≡ k → ⊥ = apart in omega (arith, less, differ)

  given_on : (who : ℕ) (step : Step) (new : World) → StepChange f w who step new → AreGiven from new
  given_on who step new (NewTicket take t is ops same) k low high a b = elim (eqb_tells k w.next_ticket) [
    | inl here ↦ some_none t (sym (same_in w.tickets w.next_ticket t) ∙ subst (λ (n : ℕ). fin.get (fin.insert w.tickets w.next_ticket t) n ≡ None) here.1 a)
    | inr other ↦ given k low (less_or k w.next_ticket high other.1) (put_here w.next_ticket t k a) b
  ]
  given_on who step new (NewReader take o r s there) k low high a b = elim (eqb_tells k w.next_ticket) [
    | inl here ↦ some_none (reader_of o r s) (sym (same_in w.readers w.next_ticket (reader_of o r s)) ∙ subst (λ (n : ℕ). fin.get (fin.insert w.readers w.next_ticket (reader_of o r s)) n ≡ None) here.1 b)
    | inr other ↦ given k low (less_or k w.next_ticket high other.1) a (read_here w.next_ticket (reader_of o r s) k b)
  ]
  given_on who step new (OwnTicket t u there same is next pending up more) k low high a b = given k low high (put_here who u k a) b
  given_on who step new (Settlement settle t s n names deletes there is raised left) k low high a b = given k low high (put_here who (record t { settled = true }) k a) b
  given_on who step new (UnitEnd t op u completed there standing same) k low high a b = given k low high (put_here who (record t { out = false }) k a) b
  given_on who step new (DeletionFailure t x there standing) k low high a b = given k low high (put_here who (record t { out = false }) k a) b
  given_on who step new (OpDrop drop t there) k low high a b = given k low high (put_here who (record t { out = false }) k a) b
  given_on who step new (ReaderFetch q name bytes there) k low high a b = given k low high a (read_here who (read_more q name bytes) k b)
  given_on who step new (ReaderEnd q r state there standing) k low high a b = given k low high a (read_here who (record q { out = false }) k b)
  given_on who step new (SwapFault swaps up change) k low high a b = given_on who step up change k low high a b
  given_on who step new other k low high a b = given k low high a b

given_from : (f : Formats) (size : ℕ) → MasterLaws f size → (from : ℕ) (w : World) (log : List Moment) → AreGiven from w → AreGiven from (world_from f w log)
given_from f size laws from w [] given = given
given_from f size laws from w (m ∷ log) given =
    given_from f size laws from (after f w m) log
    (λ k low high a b. given_on f w from given m.entry.who m.entry.step (answered f w m.entry.who m.entry.step m.entry.reply m.image) (laws.change w m.entry.who m.entry.step m.entry.reply m.image) k low high a b)

module _ (from : ℕ) (w : World) (given : AreGiven from w) (first : 1 ≤ from) where
  at_given : (k : ℕ) → from ≤ k → k < w.next_ticket → (ticket : Option Ticket) (reader : Option Reader) → fin.get w.tickets k ≡ ticket → fin.get w.readers k ≡ reader → none_at ticket reader ≡ 0
  at_given k low high None None there reads = absurd (given k low high there reads)
  at_given k low high ticket reader there reads = refl

  one_at : (ticket : Option Ticket) (reader : Option Reader) → none_at ticket reader ≤ 1
  one_at (Some t) reader = let is : 0 ≤ 1 = omega arith in is
  one_at None (Some q) = let is : 0 ≤ 1 = omega arith in is
  one_at None None = let is : 1 ≤ 1 = omega arith in is

  -- no more than there are numbers
  nones_all : (n : ℕ) → nones w n ≤ n
  nones_all zero = let is : 0 ≤ 0 = omega arith in is
  nones_all (suc k) = sum (none_at (fin.get w.tickets (suc k)) (fin.get w.readers (suc k))) (nones w k) k (one_at (fin.get w.tickets (suc k)) (fin.get w.readers (suc k))) (nones_all k)
    where
      sum : (a b n : ℕ) → a ≤ 1 → b ≤ n → a + b ≤ suc n
      sum a b n p q = let one : a ≤ 1 = p in let two : b ≤ n = q in omega (arith, one, two)

  at_or : (a b : ℕ) → (a ≤ b) ⊎ (b < a)
  at_or a b = elim (leb_tells a b) [ inl less ↦ inl less.1 | inr more ↦ inr more.1 ]

  nones_below : (n : ℕ) → n < w.next_ticket → suc (nones w n) ≤ from
  nones_below zero below = first
  nones_below (suc k) below = ⊎_elim
      (λ (low : from ≤ suc k).
      kept (none_at (fin.get w.tickets (suc k)) (fin.get w.readers (suc k))) (nones w k) (at_given (suc k) low below (fin.get w.tickets (suc k)) (fin.get w.readers (suc k)) refl refl) (nones_below k (less k w.next_ticket below)))
      (λ (high : suc k < from). all (nones w (suc k)) k (nones_all (suc k)) high)
      (at_or from (suc k))
    where
      less : (a b : ℕ) → suc a < b → a < b
      less a b h = let more : suc a < b = h in omega (arith, more)

      kept : (a b : ℕ) → a ≡ 0 → suc b ≤ from → suc (a + b) ≤ from
      kept a b p q = let none : a ≡ 0 = p in let few : suc b ≤ from = q in omega (arith, none, few)

      all : (a n : ℕ) → a ≤ suc n → suc n < from → suc a ≤ from
      all a n p q = let few : a ≤ suc n = p in let high : suc n < from = q in omega (arith, few, high)

  pub nones_few : (n : ℕ) → n ≡ w.next_ticket → nones w n ≤ from
  nones_few zero is = none from
    where
      none : (n : ℕ) → 0 ≤ n
      none n = omega arith
  nones_few (suc k) is = sum (none_at (fin.get w.tickets (suc k)) (fin.get w.readers (suc k))) (nones w k) (one_at (fin.get w.tickets (suc k)) (fin.get w.readers (suc k))) (nones_below k (below k w.next_ticket is))
    where
      below : (a b : ℕ) → suc a ≡ b → a < b
      below a b h = let same : suc a ≡ b = h in omega (arith, same)

      sum : (a b : ℕ) → a ≤ 1 → suc b ≤ from → a + b ≤ from
      sum a b p q = let one : a ≤ 1 = p in let few : suc b ≤ from = q in omega (arith, one, few)

-- ---- all together

total_pairs : (c first terms ops : ℕ) → total (even c) (drops_in first terms ops) ≡ ops * (terms * c)
total_pairs c first terms zero = sym (zero-mul (terms * c))
total_pairs c first terms (suc ops) =
    total_append (even c) (map (drop_at ops) (numbers first terms)) (drops_in first terms ops)
    ∙ ap (λ (n : ℕ). n + total (even c) (drops_in first terms ops)) (total_numbers (drop_at ops) (even c) c first terms (λ x. refl))
    ∙ ap (λ (n : ℕ). terms * c + n) (total_pairs c first terms ops)
    ∙ times_more ops (terms * c)

module _ (f : Formats) (size : ℕ) (known : AllKnown f) (steps : StepLaws f size) (masters : MasterLaws f size)
    (gave : (v : World) (m : Moment) (k o : ℕ) (unit : Given) → Allowed f size v m → m.entry.reply ≡ Gave k o unit → TakeGave f v m.entry.who m.entry.step k o unit) (w : World) (log : List Moment) (h : IsHeard f size w log) where
  abbrev last : World
  last = world_from f w log

  abbrev terms : ℕ
  terms = suc (elections_in log)

  delete_in : (t : Ticket) (work : Work) (k : ℕ) (x : ℕ × ℕ) → t.work ≡ work → fin.get last.tickets k ≡ Some t → Has (delete_of_ticket t work) x → Has (drops_in w.term terms last.next_op) x
  delete_in t (Deleting uuids plan) k x is there (inl e) =
      subst (Has (drops_in w.term terms last.next_op)) e
      (in_drops w.term terms last.next_op t.op t.term ((tracked_last f size known steps masters gave w log h).begun k t there) (term_in f size known steps masters gave w log h k t there))
  delete_in t (Deleting uuids plan) k x is there (inr never) = absurd never
  delete_in t work k x is there never = absurd never

  pub deletes_few : (c n : ℕ) → total (even c) (upto delete_of_ticket last.tickets n) ≤ (w.next_op + asks_in log) * (terms * c)
  deletes_few c n =
      both (total (even c) (upto delete_of_ticket last.tickets n)) (last.next_op * (terms * c)) ((w.next_op + asks_in log) * (terms * c))
      (subst (λ (a : ℕ). total (even c) (upto delete_of_ticket last.tickets n) ≤ a) (total_pairs c w.term terms last.next_op)
      (light_once (even c) (upto delete_of_ticket last.tickets n) (drops_in w.term terms last.next_op) (deletes_once last (once f size known steps masters gave w log h) n)
      (λ x had. let r = of_upto delete_of_ticket last.tickets n x had in delete_in r.2 r.2.work r.0 x refl r.3 r.4)))
      (mul-le-mul_right (terms * c) (ops_few f size masters w log))
    where
      both : (a b d : ℕ) → a ≤ b → b ≤ d → a ≤ d
      both a b d p q = let one : a ≤ b = p in let two : b ≤ d = q in omega (arith, one, two)

  read_once_last : ReadOnce last
  read_once_last = reads_once f size masters.change masters.frame masters.tracks masters.reads w log h.tracked h.readers (untouched_reads w h.untouched) h.legal

  pub restores_few : ((o : ℕ) (r : Restoring) → fin.get w.restores o ≡ Some r → ⊥) → (c n : ℕ) → total (even c) (readers_upto last.readers n) ≤ restores_in log * c
  restores_few none c n =
      subst (λ (a : ℕ). total (even c) (readers_upto last.readers n) ≤ a) (total_same (even c) c (all_restored log) (λ x. refl) ∙ ap (λ (a : ℕ). a * c) (length_all log))
      (light_once (even c) (readers_upto last.readers n) (all_restored log) (readers_once last read_once_last n)
      (λ x had. let r = of_readers last.readers n x had in subst (Has (all_restored log)) r.4 (readers_asked f size masters w log h.tracked h.readers h.untouched none h.legal r.0 r.2 r.3)))

  pub given_last : AreGiven w.next_ticket last
  given_last = given_from f size masters w.next_ticket w log (λ k low high a b. let from : w.next_ticket ≤ k = low in let below : k < w.next_ticket = high in omega (arith, from, below))

  pub whole_asked : AreTold log → ((o : ℕ) (r : Restoring) → fin.get w.restores o ≡ Some r → ⊥) → idle_in log ≤ most_of_client log → (deleting restoring : ℕ)
      → ((k : ℕ) (t : Ticket) (uuids : List ℕ) (plan : Option Swap) → 1 ≤ k → fin.get last.tickets k ≡ Some t → t.work ≡ Deleting uuids plan → made_by log k ≤ deleting)
      → ((k : ℕ) (q : Reader) → 1 ≤ k → fin.get last.readers k ≡ Some q → made_by log k ≤ restoring) → length log ≤ most_asked f size w log deleting restoring
  whole_asked told none client deleting restoring delete_few restore_few =
      sum (length log) (idle_in log) (most_of_client log) (work_of f size terms log + w.next_op * (terms * suc most_of_drop)) (made_of_others log last last.next_ticket)
      (total (even (suc deleting)) (upto delete_of_ticket last.tickets last.next_ticket)) ((w.next_op + asks_in log) * (terms * suc deleting))
      (total (even (suc restoring)) (readers_upto last.readers last.next_ticket)) (restores_in log * suc restoring)
      (nones last last.next_ticket) w.next_ticket (whole f size known steps masters gave w log h) client
      (weighed last log deleting restoring delete_few restore_few (none_made f size steps w log h told) last.next_ticket)
      (deletes_few (suc deleting) last.next_ticket) (restores_few none (suc restoring) last.next_ticket) (nones_few w.next_ticket last given_last h.tracked.first_ticket last.next_ticket refl)
    where
      sum : (l i c u o d e r s n m : ℕ) → l ≤ i + (u + o) → i ≤ c → o ≤ d + (r + n) → d ≤ e → r ≤ s → n ≤ m → l ≤ c + (u + (e + (s + m)))
      sum l i c u o d e r s n m p q a b x y =
          let one : l ≤ i + (u + o) = p in
          let two : i ≤ c = q in
          let three : o ≤ d + (r + n) = a in
          let four : d ≤ e = b in
          let five : r ≤ s = x in
          let six : n ≤ m = y in
          omega (arith, one, two, three, four, five, six)
