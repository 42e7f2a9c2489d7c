-- The end of a restore's shard is a place of the history, and so is the giving of its ticket.
use Rattle.std.proofs.Common.{◌≡◌, ℕ, ◌==◌, Bool, true, false, true≢false, ◌&&◌, if◌then◌else◌, List, [], ◌∷◌, ◌++◌, Option, Some, None, option_and_then, refl, sym, ap, ◌∙◌, inl, inr}
use Rattle.std.proofs.lemmas.Bool.Decides.{eqb_tells}
use Rattle.std.proofs.lemmas.Option.{none-some, same_Some}
use Rattle.std.proofs.lemmas.Bool.{and_parts}
use Rattle.esr_core.specs.After.{or_else}
use Rattle.esr_core.specs.Entry.{Given, GivenRestore, RestoredShard, ReadFails, Step, ReadStep, Reply, Gave, HasEnded, Entry, Moment}
use Rattle.esr_readers.specs.Readers.{RestoresIn}
use Rattle.esr_report.specs.Replies.{ReadShard, ShardRestored, ShardFailed, first_by, same_shard, is_shard, shard_ticket_by, shard_ticket, shard_end_by, shard_end_at, ticket_end, shard_end}
use Rattle.esr_complete.specs.Lines.{entries_of}

-- ---- the first that is found

pub record FoundAt {B : Type 0} (g : Entry → Option B) (log : List Moment) (v : B) : Type 0 where
  pub front : List Moment
  pub m : Moment
  pub back : List Moment
  pub is : log ≡ front ++ m ∷ back
  pub gives : g m.entry ≡ Some v

found_by : {B : Type 0} (g : Entry → Option B) (m : Moment) (log : List Moment) (v : B) (o : Option B) → g m.entry ≡ o → or_else o (first_by g (entries_of log)) ≡ Some v → (first_by g (entries_of log) ≡ Some v → FoundAt g log v)
    → FoundAt g (m ∷ log) v
found_by g m log v None is e on =
    let r = on e in
    record { front = m ∷ r.front; m = r.m; back = r.back; is = ap (λ (l : List Moment). m ∷ l) r.is; gives = r.gives }
found_by g m log v (Some x) is e on = record { front = []; m = m; back = log; is = refl; gives = is ∙ e }

pub found_at : {B : Type 0} (g : Entry → Option B) (log : List Moment) (v : B) → first_by g (entries_of log) ≡ Some v → FoundAt g log v
found_at g [] v e = absurd (none-some v e)
found_at g (m ∷ log) v e = found_by g m log v (g m.entry) refl e (λ h. found_at g log v h)

-- ---- tests

is_equal : (a b : ℕ) → (a == b) ≡ true → a ≡ b
is_equal a b e = elim (eqb_tells a b) [ inl t ↦ t.1 | inr t ↦ absurd (true≢false (sym e ∙ t.0)) ]

if_some : {B : Type 0} (b : Bool) (o : Option B) (v : B) → (if b then o else None) ≡ Some v → (b ≡ true) × (o ≡ Some v)
if_some true o v e = (refl, e)
if_some false o v e = absurd (none-some v e)

-- ---- a ticket of the shard

pub record GivesTo (reply : Reply) (s : ReadShard) (k : ℕ) : Type 0 where
  pub reply_is : reply ≡ Gave k s.op (GivenRestore s.index s.number s.uuid)

same_given : (a b : ReadShard) → same_shard a b ≡ true → (a.op ≡ b.op) × (a.index ≡ b.index) × (a.number ≡ b.number) × (a.uuid ≡ b.uuid)
same_given a b e =
    let x = and_parts ((a.op == b.op) && (a.index == b.index) && (a.number == b.number)) (a.uuid == b.uuid) e in
    let y = and_parts ((a.op == b.op) && (a.index == b.index)) (a.number == b.number) x.0 in
    let z = and_parts (a.op == b.op) (a.index == b.index) y.0 in
    (is_equal a.op b.op z.0, is_equal a.index b.index z.1, is_equal a.number b.number y.1, is_equal a.uuid b.uuid x.1)

given_to : (ticket op : ℕ) (unit : Given) (s : ReadShard) (k : ℕ) → is_shard op unit s ≡ true → ticket ≡ k → GivesTo (Gave ticket op unit) s k
given_to ticket op (GivenRestore index number uuid) s k e is =
    let same = same_given (record { op = op; index = index; number = number; uuid = uuid }) s e in
    record {
      reply_is = ap (λ (x : ReadShard). Gave ticket x.op (GivenRestore x.index x.number x.uuid)) (λ i. record { op = same.0 i; index = same.1 i; number = same.2 i; uuid = same.3 i })
          ∙ ap (λ (x : ℕ). Gave x s.op (GivenRestore s.index s.number s.uuid)) is;
    }
given_to ticket op unit s k e is = absurd (true≢false (sym e))

gives_by : (reply : Reply) (s : ReadShard) (k : ℕ) → shard_ticket_by reply s ≡ Some k → GivesTo reply s k
gives_by (Gave ticket op unit) s k e =
    let h = if_some (is_shard op unit s) (Some ticket) k e in
    given_to ticket op unit s k h.0 (same_Some ticket k h.1)
gives_by reply s k e = absurd (none-some k e)

-- ---- its end

ends_by : (step : Step) (reply : Reply) (files bytes : ℕ) → shard_end_by step reply ≡ Some (ShardRestored files bytes) → (step ≡ ReadStep (RestoredShard files bytes)) × (reply ≡ HasEnded)
ends_by (ReadStep (RestoredShard n total)) HasEnded files bytes e =
    let same : ShardRestored n total ≡ ShardRestored files bytes = same_Some (ShardRestored n total) (ShardRestored files bytes) e in
    let count : n ≡ files = cc in
    let sum : total ≡ bytes = cc in
    (ap (λ (x : ℕ). ReadStep (RestoredShard x total)) count ∙ ap (λ (x : ℕ). ReadStep (RestoredShard files x)) sum, refl)
ends_by (ReadStep (ReadFails why)) HasEnded files bytes e = absurd (not_restored (same_Some (ShardFailed why) (ShardRestored files bytes) e))
  where
    not_restored : ShardFailed why ≡ ShardRestored files bytes → ⊥
    not_restored x = cc
ends_by step reply files bytes e = absurd (none-some (ShardRestored files bytes) e)

ends_at : (e : Entry) (k files bytes : ℕ) → shard_end_at k e ≡ Some (ShardRestored files bytes) → e ≡ record { who = k; step = ReadStep (RestoredShard files bytes); reply = HasEnded }
ends_at e k files bytes is =
    let h = if_some (e.who == k) (shard_end_by e.step e.reply) (ShardRestored files bytes) is in
    let who : e.who ≡ k = is_equal e.who k h.0 in
    let x = ends_by e.step e.reply files bytes h.1 in
    λ i. record { who = who i; step = x.0 i; reply = x.1 i }

-- ---- both

pub record EndedAt (log : List Moment) (s : ReadShard) (files bytes : ℕ) : Type 0 where
  pub k : ℕ
  pub before : List Moment
  pub gave : Moment
  pub after : List Moment
  pub gave_at : log ≡ before ++ gave ∷ after
  pub gives : gave.entry.reply ≡ Gave k s.op (GivenRestore s.index s.number s.uuid)
  pub front : List Moment
  pub m : Moment
  pub back : List Moment
  pub at : log ≡ front ++ m ∷ back
  pub restores : RestoresIn m k files bytes

ended_by : (log : List Moment) (s : ReadShard) (files bytes : ℕ) (ticket : Option ℕ) → shard_ticket (entries_of log) s ≡ ticket → option_and_then (ticket_end (entries_of log)) ticket ≡ Some (ShardRestored files bytes)
    → EndedAt log s files bytes
ended_by log s files bytes None is e = absurd (none-some (ShardRestored files bytes) e)
ended_by log s files bytes (Some k) is e =
    let given = found_at (λ (x : Entry). shard_ticket_by x.reply s) log k is in
    let end = found_at (shard_end_at k) log (ShardRestored files bytes) e in
    record {
      k = k;
      before = given.front;
      gave = given.m;
      after = given.back;
      gave_at = given.is;
      gives = (gives_by given.m.entry.reply s k given.gives).reply_is;
      front = end.front;
      m = end.m;
      back = end.back;
      at = end.is;
      restores = ends_at end.m.entry k files bytes end.gives;
    }

pub ended_at : (log : List Moment) (s : ReadShard) (files bytes : ℕ) → shard_end (entries_of log) s ≡ Some (ShardRestored files bytes) → EndedAt log s files bytes
ended_at log s files bytes e = ended_by log s files bytes (shard_ticket (entries_of log) s) refl e
