-- How many blobs are written: each shard, finalization and drop writes no more than it makes steps, a delete or cleanup the indices of
-- its plan, its root and `index.latest`, and who 0 test blobs.
use Rattle.std.proofs.Common.{◌≡◌, ◌⊎◌, ℕ, zero, suc, ◌+◌, ◌*◌, ◌≤◌, List, [], ◌∷◌, length, map, Bool, true, false, Option, Some, None, refl, sym, ap, ◌∙◌, subst, inl, inr, ⊎_elim, arith}
use Rattle.std.specs.Prelude.{if◌then◌else◌, ◌==◌}
use Rattle.std.proofs.lemmas.Bool.Decides.{eqb_tells}
use Rattle.std.proofs.lemmas.List.{length-map}
use Rattle.std.proofs.Math.Nat.{add-mul}
use Rattle.std.specs.FinMap as fin
use Rattle.esr_model.specs.Lists.{Has-either, Has-mapped}
use Rattle.esr_model.specs.Names.{BlobName}
use Rattle.esr_model.specs.Values.{Has, IsOneEach, Formats}
use Rattle.esr_core.specs.World.{World, Restoring, Reader, Deleting, Ticket, Swap}
use Rattle.esr_core.specs.Restores.{AreOnce}
use Rattle.esr_core.specs.Past.{with_entry, entries_by}
use Rattle.esr_core.specs.Tracked.{Tracked}
use Rattle.esr_core.specs.ReadTracked.{ReadTracked}
use Rattle.esr_core.specs.Changes.{IsClients}
use Rattle.esr_core.specs.Entry.{ReadBlob, RestoredShard, CommitTest, Given, Step, AskStep, TakeStep, ElectStep, LookStep, CommitStep, LatestStep, ReadStep, Gave, Entry, Moment}
use Rattle.esr_core.specs.Causes.{TakeGave}
use Rattle.esr_core.specs.After.{after}
use Rattle.esr_core.specs.Allowed.{Allowed}
use Rattle.esr_core.specs.History.{world_from, IsLegal, AllKnown, AreTold}
use Rattle.esr_core.specs.Laws.NumberMaps.{nothing}
use Rattle.esr_bounds.specs.Keys.{Key, BeginKey, CommitKey, LatestKey, FetchKey, ReadKey, EndKey, ClientKey, key, keys, made_by, AreHeard, IsHeard}
use Rattle.esr_bounds.specs.Most.{names_of, fetch_names, single_keys, keys_of, IsOfDelete, MayDo, most_of_shard, most_of_final, most_of_drop}
use Rattle.esr_bounds.specs.Work.{work_of, asks_in, elections_in, restores_in, made_of_others}
use Rattle.esr_bounds.specs.Clients.{tests_by, tests_in, most_tests, draws_in}
use Rattle.esr_bounds.specs.Others.{pieces_read, most_shards, writes_by, writes_in, most_writes}
use Rattle.esr_bounds.specs.Laws.{StepLaws, MasterLaws}
use Rattle.esr_bounds.proofs.Few.{few_once}
use Rattle.esr_bounds.proofs.Once.{counted, never_anew, heard_kept}
use Rattle.esr_bounds.proofs.Names.{own_keys, name_keys}
use Rattle.esr_bounds.proofs.Bounded.{names_by, bounded, shard_few, final_few, drop_few}
use Rattle.esr_bounds.proofs.Counting.{total, made_upto, all_made, units_upto, with_takes, none_more}
use Rattle.esr_bounds.proofs.Items.{most_of_item, all_items, all_counts}
use Rattle.esr_bounds.proofs.Totals as totals
use Rattle.esr_bounds.proofs.Totals.{upto, shard_of_ticket, final_of_ticket, drop_of_ticket, final_weight, drop_weight, count_weight, items_few, finals_few, drops_few, all_weight, makers_below}
use Rattle.esr_bounds.proofs.Idle.{NoneAtZero, still_none, client_step}
use Rattle.esr_bounds.proofs.Prunes.{pruned_last, few_swap}
use Rattle.esr_bounds.proofs.Pieces.{reader_keys, few_last, none_made}
use Rattle.esr_bounds.proofs.RootShards.{Placed, places_of, first_places, placed_last}
use Rattle.esr_bounds.proofs.FewShards.{plan_few, length_of}
use Rattle.esr_bounds.proofs.TicketCounts as counts
use Rattle.esr_bounds.proofs.TicketCounts.{delete_of_ticket, readers_upto, nones, even, deletes_few, restores_few, given_last, nones_few}
use Rattle.esr_bounds.proofs.Found.{has_key}

-- ---- the moments that write

abbrev keep : ℕ → Moment → List Moment → List Moment
keep zero m log = log
keep (suc n) m log = m ∷ log

abbrev writing : List Moment → List Moment
writing [] = []
writing (m ∷ log) = keep (writes_by m.entry.step) m (writing log)

one_at_most : (step : Step) → writes_by step ≤ 1
one_at_most (CommitStep name) = let is : 1 ≤ 1 = omega arith in is
one_at_most (ReadStep (CommitTest name)) = let is : 1 ≤ 1 = omega arith in is
one_at_most (ReadStep read) = let is : 0 ≤ 1 = omega arith in is
one_at_most LatestStep = let is : 1 ≤ 1 = omega arith in is
one_at_most step = let is : 0 ≤ 1 = omega arith in is

one_plus : (n : ℕ) → suc n ≡ 1 + n
one_plus n = omega arith

length_keep : (n : ℕ) (m : Moment) (log : List Moment) → n ≤ 1 → length (keep n m log) ≡ n + length log
length_keep zero m log few = none_more (length log)
length_keep (suc zero) m log few = one_plus (length log)
length_keep (suc (suc n)) m log few = let most : suc (suc n) ≤ 1 = few in absurd (omega (arith, most))

length_writing : (log : List Moment) → length (writing log) ≡ writes_in log
length_writing [] = refl
length_writing (m ∷ log) = length_keep (writes_by m.entry.step) m (writing log) (one_at_most m.entry.step) ∙ ap (λ (n : ℕ). writes_by m.entry.step + n) (length_writing log)

of_keep : (n : ℕ) (m : Moment) (log : List Moment) (x : Moment) → Has (keep n m log) x → (m ≡ x) ⊎ Has log x
of_keep zero m log x h = inr h
of_keep (suc n) m log x h = h

of_writing : (log : List Moment) (x : Moment) → Has (writing log) x → Has log x
of_writing [] x h = absurd h
of_writing (m ∷ log) x h = elim (of_keep (writes_by m.entry.step) m (writing log) x h) [ inl here ↦ inl here | inr there ↦ inr (of_writing log x there) ]

-- what one of them writes
abbrev wrote_by : List Moment → ℕ → ℕ
wrote_by [] who = 0
wrote_by (m ∷ log) who = if m.entry.who == who then writes_by m.entry.step + wrote_by log who else wrote_by log who

made_keep : (n : ℕ) (m : Moment) (log : List Moment) (k : ℕ) → n ≤ 1 → made_by (keep n m log) k ≡ (if m.entry.who == k then n + made_by log k else made_by log k)
made_keep zero m log k few = by (m.entry.who == k)
  where
    by : (b : Bool) → made_by log k ≡ (if b then 0 + made_by log k else made_by log k)
    by true = none_more (made_by log k)
    by false = refl
made_keep (suc zero) m log k few = by (m.entry.who == k)
  where
    by : (b : Bool) → (if b then suc (made_by log k) else made_by log k) ≡ (if b then 1 + made_by log k else made_by log k)
    by true = one_plus (made_by log k)
    by false = refl
made_keep (suc (suc n)) m log k few = let most : suc (suc n) ≤ 1 = few in absurd (omega (arith, most))

made_writing : (log : List Moment) (k : ℕ) → made_by (writing log) k ≡ wrote_by log k
made_writing [] k = refl
made_writing (m ∷ log) k = made_keep (writes_by m.entry.step) m (writing log) k (one_at_most m.entry.step) ∙ ap (λ (n : ℕ). if m.entry.who == k then writes_by m.entry.step + n else n) (made_writing log k)

wrote_few : (log : List Moment) (k : ℕ) → wrote_by log k ≤ made_by log k
wrote_few [] k = let is : 0 ≤ 0 = omega arith in is
wrote_few (m ∷ log) k = by (m.entry.who == k) (wrote_few log k)
  where
    one : (a b c : ℕ) → a ≤ 1 → b ≤ c → a + b ≤ suc c
    one a b c p q = let first : a ≤ 1 = p in let rest : b ≤ c = q in omega (arith, first, rest)

    by : (b : Bool) → wrote_by log k ≤ made_by log k → (if b then writes_by m.entry.step + wrote_by log k else wrote_by log k) ≤ (if b then suc (made_by log k) else made_by log k)
    by true rest = one (writes_by m.entry.step) (wrote_by log k) (made_by log k) (one_at_most m.entry.step) rest
    by false rest = rest

-- no more than the steps that it makes
written_few : (log : List Moment) (k n : ℕ) → made_by log k ≤ n → made_by (writing log) k ≤ n
written_few log k n few = both (made_by (writing log) k) (wrote_by log k) (made_by log k) n (made_writing log k) (wrote_few log k) few
  where
    both : (a b c d : ℕ) → a ≡ b → b ≤ c → c ≤ d → a ≤ d
    both a b c d p q r = let one : a ≡ b = p in let two : b ≤ c = q in let three : c ≤ d = r in omega (arith, one, two, three)

-- ---- who 0

client_writes : (step : Step) → IsClients step → writes_by step ≤ tests_by 0 step
client_writes (ReadStep (CommitTest name)) own = let is : 1 ≤ 1 = omega arith in is
client_writes (ReadStep (ReadBlob name)) own = none (tests_by 0 (ReadStep (ReadBlob name)))
  where
    none : (n : ℕ) → 0 ≤ n
    none n = omega arith
client_writes (ReadStep (RestoredShard files bytes)) own = absurd own
client_writes (ReadStep read) own = none (tests_by 0 (ReadStep read))
  where
    none : (n : ℕ) → 0 ≤ n
    none n = omega arith
client_writes (AskStep command) own = let is : 0 ≤ 0 = omega arith in is
client_writes TakeStep own = let is : 0 ≤ 0 = omega arith in is
client_writes ElectStep own = let is : 0 ≤ 0 = omega arith in is
client_writes LookStep own = let is : 0 ≤ 0 = omega arith in is
client_writes step own = absurd own

abbrev written : List Entry → ℕ
written [] = 0
written (e ∷ es) = writes_by e.step + written es

module _ (f : Formats) (size : ℕ) (laws : StepLaws f size) where
  nobody_writes : (w : World) (log : List Moment) → Tracked w → ReadTracked w → NoneAtZero w → IsLegal f size w log → AreHeard log → wrote_by log 0 ≤ tests_in log
  nobody_writes w [] tracked reads none legal heard = let is : 0 ≤ 0 = omega arith in is
  nobody_writes w (m ∷ log) tracked reads none legal heard =
      by (nobody_writes (after f w m) log (laws.tracks w m tracked legal.0) (laws.reads w m tracked reads legal.0) (still_none f size laws w m tracked none) legal.1 (λ n h. heard n (inr h)))
    where
      both : (a b c d : ℕ) → a ≤ b → c ≤ d → a + c ≤ b + d
      both a b c d p q = let one : a ≤ b = p in let two : c ≤ d = q in omega (arith, one, two)

      more : (a b c : ℕ) → b ≤ c → b ≤ a + c
      more a b c p = let less : b ≤ c = p in omega (arith, less)

      by : wrote_by log 0 ≤ tests_in log → (if m.entry.who == 0 then writes_by m.entry.step + wrote_by log 0 else wrote_by log 0) ≤ tests_by m.entry.who m.entry.step + tests_in log
      by rest = elim (eqb_tells m.entry.who 0) [
        | inl nobody ↦
            subst (λ (b : Bool). (if b then writes_by m.entry.step + wrote_by log 0 else wrote_by log 0) ≤ tests_by m.entry.who m.entry.step + tests_in log) (sym nobody.0)
            (subst (λ (who : ℕ). writes_by m.entry.step + wrote_by log 0 ≤ tests_by who m.entry.step + tests_in log) (sym nobody.1)
            (both (writes_by m.entry.step) (tests_by 0 m.entry.step) (wrote_by log 0) (tests_in log) (client_writes m.entry.step (client_step f size laws w m reads none legal.0 (heard m (inl refl)) nobody.1)) rest))
        | inr other ↦
            subst (λ (b : Bool). (if b then writes_by m.entry.step + wrote_by log 0 else wrote_by log 0) ≤ tests_by m.entry.who m.entry.step + tests_in log) (sym other.0)
            (more (tests_by m.entry.who m.entry.step) (wrote_by log 0) (tests_in log) rest)
      ]

  -- ---- what a ticket has written

  written_made : (w : World) (log : List Moment) (k : ℕ) → 1 ≤ k → AreHeard log → written (entries_by (world_from f w log).entries k) ≡ wrote_by log k + written (entries_by w.entries k)
  written_made w [] k some heard = none_more (written (entries_by w.entries k))
  written_made w (m ∷ log) k some heard = elim (eqb_tells m.entry.who k) [
    | inl mine ↦
        written_made (after f w m) log k some (λ n h. heard n (inr h)) ∙ ap (λ (n : ℕ). wrote_by log k + n) (ap written (own mine.1)) ∙ shift (wrote_by log k) (writes_by m.entry.step) (written (entries_by w.entries k))
        ∙ ap (λ b. (if b then writes_by m.entry.step + wrote_by log k else wrote_by log k) + written (entries_by w.entries k)) (sym mine.0)
    | inr other ↦
        written_made (after f w m) log k some (λ n h. heard n (inr h)) ∙ ap (λ (n : ℕ). wrote_by log k + n) (ap written (laws.others w.entries m.entry k (λ same. other.1 (sym same))))
        ∙ ap (λ b. (if b then writes_by m.entry.step + wrote_by log k else wrote_by log k) + written (entries_by w.entries k)) (sym other.0)
  ]
    where
      shift : (a b c : ℕ) → a + (b + c) ≡ (b + a) + c
      shift a b c = omega arith

      own : m.entry.who ≡ k → entries_by (with_entry w.entries m.entry) k ≡ m.entry ∷ entries_by w.entries k
      own mine =
          subst (λ (n : ℕ). entries_by (with_entry w.entries m.entry) n ≡ m.entry ∷ entries_by w.entries n) mine
          (laws.own w.entries m.entry (counted m.entry.reply (heard m (inl refl))) (never_anew m.entry.who m.entry.step (subst (λ (n : ℕ). 1 ≤ n) (sym mine) some)))

-- ---- the keys of what writes

abbrev keyed : ℕ → Key → List Key → List Key
keyed zero x xs = xs
keyed (suc n) x xs = x ∷ xs

abbrev written_keys : List Entry → List Key
written_keys [] = []
written_keys (e ∷ es) = keyed (writes_by e.step) (key e.step) (written_keys es)

length_keyed : (n : ℕ) (x : Key) (xs : List Key) → n ≤ 1 → length (keyed n x xs) ≡ n + length xs
length_keyed zero x xs few = none_more (length xs)
length_keyed (suc zero) x xs few = one_plus (length xs)
length_keyed (suc (suc n)) x xs few = let most : suc (suc n) ≤ 1 = few in absurd (omega (arith, most))

length_keys : (es : List Entry) → length (written_keys es) ≡ written es
length_keys [] = refl
length_keys (e ∷ es) = length_keyed (writes_by e.step) (key e.step) (written_keys es) (one_at_most e.step) ∙ ap (λ (n : ℕ). writes_by e.step + n) (length_keys es)

of_keyed : (n : ℕ) (x : Key) (xs : List Key) (y : Key) → Has (keyed n x xs) y → ((x ≡ y) × (n ≡ 0 → ⊥)) ⊎ Has xs y
of_keyed zero x xs y h = inr h
of_keyed (suc n) x xs y (inl e) = inl (e, λ none. no n none)
  where
    no : (n : ℕ) → suc n ≡ 0 → ⊥
    no n none = let is : suc n ≡ 0 = none in omega (arith, is)
of_keyed (suc n) x xs y (inr h) = inr h

of_written : (es : List Entry) (y : Key) → Has (written_keys es) y → (e : Entry) × Has es e × (key e.step ≡ y) × (writes_by e.step ≡ 0 → ⊥)
of_written [] y h = absurd h
of_written (e ∷ es) y h = elim (of_keyed (writes_by e.step) (key e.step) (written_keys es) y h) [
  | inl here ↦ (e, inl refl, here.0, here.1)
  | inr there ↦ let r = of_written es y there in (r.0, inr r.1, r.2, r.3)
]

keyed_once : (n : ℕ) (x : Key) (xs : List Key) → (Has xs x → ⊥) → AreOnce xs → AreOnce (keyed n x xs)
keyed_once zero x xs fresh once = once
keyed_once (suc n) x xs fresh once = (fresh, once)

written_once : (es : List Entry) → AreOnce (keys es) → AreOnce (written_keys es)
written_once [] once = tt
written_once (e ∷ es) once =
    keyed_once (writes_by e.step) (key e.step) (written_keys es) (λ h. let r = of_written es (key e.step) h in once.0 (subst (Has (keys es)) r.2 (has_key es r.0 r.1))) (written_once es once.1)

-- what writes is a commit, a replacement of `index.latest`, or a step of who 0
abbrev Writes : Key → Type 0
Writes x = (x ≡ LatestKey) ⊎ (((name : BlobName) × (x ≡ CommitKey name)) ⊎ (x ≡ ClientKey))

writer : (step : Step) → (writes_by step ≡ 0 → ⊥) → Writes (key step)
writer (CommitStep name) some = inr (inl (name, refl))
writer (ReadStep (CommitTest name)) some = inr (inr refl)
writer (ReadStep read) some = absurd (some refl)
writer LatestStep some = inl refl
writer step some = absurd (some refl)

-- ---- a ticket of a delete or cleanup

abbrev IsOther : Key → Type 0
IsOther (CommitKey name) = ⊥
IsOther ClientKey = ⊥
IsOther x = Unit {0}

single_other : (x : Key) → Has single_keys x → IsOther x
single_other x (inl e) = subst IsOther e tt
single_other x (inr (inl e)) = subst IsOther e tt
single_other x (inr (inr (inl e))) = subst IsOther e tt
single_other x (inr (inr (inr (inl e)))) = subst IsOther e tt
single_other x (inr (inr (inr (inr (inl e))))) = subst IsOther e tt
single_other x (inr (inr (inr (inr (inr (inl e)))))) = subst IsOther e tt
single_other x (inr (inr (inr (inr (inr (inr (inl e))))))) = subst IsOther e tt
single_other x (inr (inr (inr (inr (inr (inr (inr (inl e)))))))) = subst IsOther e tt
single_other x (inr (inr (inr (inr (inr (inr (inr (inr (inl e))))))))) = subst IsOther e tt
single_other x (inr (inr (inr (inr (inr (inr (inr (inr (inr (inl e)))))))))) = subst IsOther e tt
single_other x (inr (inr (inr (inr (inr (inr (inr (inr (inr (inr h)))))))))) = absurd h

module _ (f : Formats) (size : ℕ) (t : Ticket) where
  -- a key of it is another, or that of a commit
  own_or : (x : Key) → Has (keys_of f size t) x → IsOther x ⊎ Has (map CommitKey (names_of f size t)) x
  own_or x h = ⊎_elim
      (λ (single : Has single_keys x). inl (single_other x single))
      (λ (own : Has (own_keys f size t) x). ⊎_elim
      (λ (fetch : Has (map FetchKey (fetch_names t t.work)) x). let r = Has-mapped FetchKey (fetch_names t t.work) x fetch in inl (subst IsOther r.2 tt))
      (λ (named : Has (name_keys f size t) x). ⊎_elim
      (λ (begin : Has (map BeginKey (names_of f size t)) x). let r = Has-mapped BeginKey (names_of f size t) x begin in inl (subst IsOther r.2 tt))
      (λ (commit : Has (map CommitKey (names_of f size t)) x). inr commit)
      (Has-either (map BeginKey (names_of f size t)) (map CommitKey (names_of f size t)) x named))
      (Has-either (map FetchKey (fetch_names t t.work)) (name_keys f size t) x own))
      (Has-either single_keys (own_keys f size t) x h)

  write_in : (x : Key) → MayDo f size t x → Writes x → Has (LatestKey ∷ map CommitKey (names_of f size t)) x
  write_in x may (inl latest) = inl (sym latest)
  write_in x (inl own) (inr (inl commit)) = ⊎_elim (λ (other : IsOther x). absurd (subst IsOther commit.1 other)) (λ (mine : Has (map CommitKey (names_of f size t)) x). inr mine) (own_or x own)
  write_in x (inr besides) (inr (inl commit)) = absurd (subst IsOfDelete commit.1 besides.0)
  write_in x (inl own) (inr (inr client)) = ⊎_elim (λ (other : IsOther x). absurd (subst IsOther client other)) (λ (mine : Has (map CommitKey (names_of f size t)) x). inr mine) (own_or x own)
  write_in x (inr besides) (inr (inr client)) = absurd (subst IsOfDelete client besides.0)

-- ---- the ticket of a restore

abbrev IsRead : Key → Type 0
IsRead EndKey = Unit {0}
IsRead (ReadKey name) = Unit {0}
IsRead x = ⊥

reader_reads : (f : Formats) (q : Reader) (x : Key) → Has (reader_keys f q) x → IsRead x
reader_reads f q x (inl e) = subst IsRead e tt
reader_reads f q x (inr (inl e)) = subst IsRead e tt
reader_reads f q x (inr (inr h)) = let r = Has-mapped ReadKey (pieces_read f q.index q.number q.read) x h in subst IsRead r.2 tt

no_write : (x : Key) → IsRead x → Writes x → ⊥
no_write x reads (inl latest) = subst IsRead latest reads
no_write x reads (inr (inl commit)) = subst IsRead commit.1 reads
no_write x reads (inr (inr client)) = subst IsRead client reads

none_long : (xs : List Key) → ((x : Key) → Has xs x → ⊥) → length xs ≤ 0
none_long [] none = let is : 0 ≤ 0 = omega arith in is
none_long (x ∷ xs) none = absurd (none x (inl refl))

-- ---- all together

module _ (f : Formats) (size : ℕ) (known : AllKnown f) (steps : StepLaws f size) (masters : MasterLaws f size)
    (gave : (v : World) (m : Moment) (k o : ℕ) (unit : Given) → Allowed f size v m → m.entry.reply ≡ Gave k o unit → TakeGave f v m.entry.who m.entry.step k o unit)
    (w : World) (log : List Moment) (h : IsHeard f size w log) (told : AreTold log) where
  abbrev last : World
  last = world_from f w log

  abbrev terms : ℕ
  terms = suc (elections_in log)

  -- as many as its keys
  by_keys : (k n : ℕ) → 1 ≤ k → length (written_keys (entries_by last.entries k)) ≤ n → made_by (writing log) k ≤ n
  by_keys k n some few =
      sum (made_by (writing log) k) (wrote_by log k) (written (entries_by last.entries k)) (written (entries_by w.entries k)) (length (written_keys (entries_by last.entries k))) n (made_writing log k) (written_made f size steps w log k some h.heard)
      (length_keys (entries_by last.entries k)) few
    where
      sum : (a b c d e n : ℕ) → a ≡ b → c ≡ b + d → e ≡ c → e ≤ n → a ≤ n
      sum a b c d e n p q r s = let one : a ≡ b = p in let two : c ≡ b + d = q in let three : e ≡ c = r in let four : e ≤ n = s in omega (arith, one, two, three, four)

  once : (k : ℕ) → 1 ≤ k → AreOnce (keys (entries_by last.entries k))
  once k some = (heard_kept f size steps w log h).once k some

  delete_writes : IsOneEach w.root.indices → (k : ℕ) (t : Ticket) (uuids : List ℕ) (plan : Option Swap) → 1 ≤ k → fin.get last.tickets k ≡ Some t → t.work ≡ Deleting uuids plan → made_by (writing log) k ≤ 2 + most_shards w log
  delete_writes one_each k t uuids plan some there is =
      by_keys k (2 + most_shards w log) some
      (sum (length (written_keys (entries_by last.entries k))) (length (map CommitKey (names_of f size t))) (length (names_of f size t)) (length all) (most_shards w log)
      (few_once (written_keys (entries_by last.entries k)) (LatestKey ∷ map CommitKey (names_of f size t)) (written_once (entries_by last.entries k) (once k some))
      (λ x had.
      let r = of_written (entries_by last.entries k) x had in
      write_in f size t x ((bounded f size known steps w log h k t some there).listed k t x some there (subst (Has (keys (entries_by last.entries k))) r.2 (has_key (entries_by last.entries k) r.0 r.1))) (subst Writes r.2 (writer r.0.step r.3))))
      (length-map (names_of f size t) CommitKey)
      (names_by f size t (length all) (few_swap f size t uuids plan (length all) is (λ s planned. plan_few all t.root uuids s (placed.tickets k t there).0 ((pruned_last f size known steps masters w log h told).few k t some there uuids s planned))))
      (length_of f w log))
    where
      all : List (ℕ × ℕ)
      all = places_of (first_places w.root) (all_items f w log)

      placed : Placed all last
      placed = placed_last f size steps masters known w log h told one_each

      sum : (a b c d e : ℕ) → a ≤ suc b → b ≡ c → c ≤ 1 + d → d ≡ e → a ≤ 2 + e
      sum a b c d e p q r s = let one : a ≤ suc b = p in let two : b ≡ c = q in let three : c ≤ 1 + d = r in let four : d ≡ e = s in omega (arith, one, two, three, four)

  reader_writes : (k : ℕ) (q : Reader) → 1 ≤ k → fin.get last.readers k ≡ Some q → made_by (writing log) k ≤ 0
  reader_writes k q some there =
      by_keys k 0 some
      (none_long (written_keys (entries_by last.entries k)) (λ x had.
      let r = of_written (entries_by last.entries k) x had in
      no_write x (reader_reads f q x ((few_last f size steps w log h told).listed k q x some there (subst (Has (keys (entries_by last.entries k))) r.2 (has_key (entries_by last.entries k) r.0 r.1)))) (subst Writes r.2 (writer r.0.step r.3))))

  none_writes : (k : ℕ) → 1 ≤ k → fin.get last.tickets k ≡ None → fin.get last.readers k ≡ None → made_by (writing log) k ≤ 0
  none_writes k some no_ticket no_reader = written_few log k 0 (none_made f size steps w log h told k some no_ticket no_reader)

  pub writes_few : IsOneEach w.root.indices → ((o : ℕ) (r : Restoring) → fin.get w.restores o ≡ Some r → ⊥) → tests_in log ≤ most_tests * draws_in log → writes_in log ≤ most_writes f size w log
  writes_few one_each none tests =
      add_up (writes_in log) (length (writing log)) (made_by (writing log) 0) (made_upto (writing log) last.next_ticket) (units_upto (writing log) last.next_ticket) last.next_ticket
      (total (most_of_item f size) (upto shard_of_ticket last.tickets last.next_ticket)) (total final_weight (upto final_of_ticket last.tickets last.next_ticket))
      (total drop_weight (upto drop_of_ticket last.tickets last.next_ticket)) (made_of_others (writing log) last last.next_ticket)
      (total (most_of_item f size) (all_items f w log)) (total (count_weight terms) (all_counts f w log)) (w.next_op * (terms * suc most_of_drop)) (asks_in log * (terms * suc most_of_drop)) (work_of f size terms log)
      (total (even (suc (2 + most_shards w log))) (upto delete_of_ticket last.tickets last.next_ticket)) ((w.next_op + asks_in log) * (terms * suc (2 + most_shards w log)))
      (total (even 1) (readers_upto last.readers last.next_ticket)) (restores_in log * 1) (nones last last.next_ticket) w.next_ticket (tests_in log) (most_tests * draws_in log)
      (length_writing log)
      (all_made (writing log) last.next_ticket (λ m had. makers_below f size steps w log h.tracked h.readers h.legal h.heard m (of_writing log m had)))
      (with_takes (writing log) last.next_ticket)
      (totals.weighed f size last (writing log)
      (λ k t index number some there is. written_few log k (most_of_shard f size t.place t.name number t.source) (shard_few f size known steps w log h k t some there index number is))
      (λ k t info results made some there is. written_few log k (most_of_final (length info.indices)) (final_few f size known steps w log h k t some there info results made is))
      (λ k t some there is. written_few log k most_of_drop (drop_few f size known steps w log h k t some there is)) last.next_ticket)
      (items_few f size known steps masters gave w log h) (finals_few f size known steps masters gave w log h)
      (subst (λ n. total drop_weight (upto drop_of_ticket last.tickets last.next_ticket) ≤ n) (add-mul w.next_op (asks_in log) (terms * suc most_of_drop)) (drops_few f size known steps masters gave w log h)) (all_weight f size terms w log)
      (counts.weighed last (writing log) (2 + most_shards w log) 0 (delete_writes one_each) reader_writes none_writes last.next_ticket)
      (deletes_few f size known steps masters gave w log h (suc (2 + most_shards w log)) last.next_ticket) (restores_few f size known steps masters gave w log h none 1 last.next_ticket)
      (nones_few w.next_ticket last (given_last f size known steps masters gave w log h) h.tracked.first_ticket last.next_ticket refl)
      (nobody last.next_ticket) tests
    where
      nobody : ℕ → made_by (writing log) 0 ≤ tests_in log
      nobody n = both (made_by (writing log) 0) (wrote_by log 0) (tests_in log) (made_writing log 0) (nobody_writes f size steps w log h.tracked h.readers (λ t there. nothing w.tickets 0 t h.untouched.tickets there) h.legal h.heard)
        where
          both : (a b c : ℕ) → a ≡ b → b ≤ c → a ≤ c
          both a b c p q = let one : a ≡ b = p in let two : b ≤ c = q in omega (arith, one, two)

      add_up : (writes long nobody made units next a b c others items counts kept asks work d dels r reads n first tests drawn : ℕ) → long ≡ writes → long ≤ nobody + made → units ≡ made + next → units ≤ a + (b + (c + others))
          → a ≤ items → b ≤ counts → c ≤ kept + asks → items + (counts + asks) ≡ work → others ≤ d + (r + n) → d ≤ dels → r ≤ reads → n ≤ first → nobody ≤ tests → tests ≤ drawn
          → writes ≤ drawn + ((work + kept) + (dels + (reads + first)))
      add_up writes long nobody made units next a b c others items counts kept asks work d dels r reads n first tests drawn e1 e2 e3 e4 e5 e6 e7 e8 e9 e10 e11 e12 e13 e14 =
          let i1 : long ≡ writes = e1 in
          let i2 : long ≤ nobody + made = e2 in
          let i3 : units ≡ made + next = e3 in
          let i4 : units ≤ a + (b + (c + others)) = e4 in
          let i5 : a ≤ items = e5 in
          let i6 : b ≤ counts = e6 in
          let i7 : c ≤ kept + asks = e7 in
          let i8 : items + (counts + asks) ≡ work = e8 in
          let i9 : others ≤ d + (r + n) = e9 in
          let i10 : d ≤ dels = e10 in
          let i11 : r ≤ reads = e11 in
          let i12 : n ≤ first = e12 in
          let i13 : nobody ≤ tests = e13 in
          let i14 : tests ≤ drawn = e14 in
          omega (arith, i1, i2, i3, i4, i5, i6, i7, i8, i9, i10, i11, i12, i13, i14)
