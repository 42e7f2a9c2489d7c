-- What a longer history tells of the tickets of restores and of their ends, and how a restore is answered whose shards ended well.
use Rattle.std.proofs.Common.{◌≡◌, ◌≢◌, ℕ, Bool, true, false, ◌&&◌, ◌==◌, List, [], ◌∷◌, ◌++◌, Option, Some, None, option_map, option_and_then, if◌then◌else◌, refl, ap, ◌∙◌, subst, inl, inr}
use Rattle.std.proofs.lemmas.Bool.Decides.{eqb_tells}
use Rattle.std.proofs.lemmas.Bool.{cond-true, cond-false}
use Rattle.esr_model.specs.Values.{Has, IndexRef}
use Rattle.esr_model.specs.Places.{places}
use Rattle.esr_core.specs.Entry.{GivenRestore, Gave, Entry}
use Rattle.esr_core.specs.After.{or_else}
use Rattle.esr_model.specs.Lists.{Has-mapped}
use Rattle.esr_core.specs.Laws.Tests.{same_number}
use Rattle.esr_report.specs.Replies as report
use Rattle.esr_report.specs.Replies.{ReadShard, ShardEnd, ShardRestored, first_by, same_shard, shard_ticket_by, shard_ticket, shard_end_by, shard_end_at, ticket_end, shard_end, and_ends, ends_of, failure_of, reply_by, reply_of_ends, read_shard, restore_shards, restore_reply}
use Rattle.esr_complete.proofs.Tickets.{or_none, or_assoc}

-- ---- the first that is found

first_append : {A B : Type 0} (f : A → Option B) (xs ys : List A) → first_by f (xs ++ ys) ≡ or_else (first_by f xs) (first_by f ys)
first_append f [] ys = refl
first_append f (x ∷ xs) ys = ap (or_else (f x)) (first_append f xs ys) ∙ or_assoc (f x) (first_by f xs) (first_by f ys)

first_stays : {A B : Type 0} (f : A → Option B) (xs ys : List A) (b : B) → first_by f xs ≡ Some b → first_by f (xs ++ ys) ≡ Some b
first_stays f xs ys b e = first_append f xs ys ∙ ap (λ a. or_else a (first_by f ys)) e

first_given : {A B : Type 0} (f : A → Option B) (xs : List A) (x : A) → first_by f xs ≡ None → first_by f (xs ++ x ∷ []) ≡ f x
first_given f xs x e = first_append f xs (x ∷ []) ∙ ap (λ a. or_else a (or_else (f x) None)) e ∙ or_none (f x)

-- ---- tickets and ends

abbrev ticket_by : ReadShard → Entry → Option ℕ
ticket_by y e = shard_ticket_by e.reply y

-- what is told of a shard's ticket, and of its end, stays
pub ticket_stays : (es rest : List Entry) (y : ReadShard) (k : ℕ) → shard_ticket es y ≡ Some k → shard_ticket (es ++ rest) y ≡ Some k
ticket_stays es rest y k e = first_stays (ticket_by y) es rest k e

pub end_stays : (es rest : List Entry) (k : ℕ) (end : ShardEnd) → ticket_end es k ≡ Some end → ticket_end (es ++ rest) k ≡ Some end
end_stays es rest k end e = first_stays (shard_end_at k) es rest end e

-- where nothing is told, one more entry tells what there is
pub ticket_given : (es : List Entry) (x : Entry) (y : ReadShard) → shard_ticket es y ≡ None → shard_ticket (es ++ x ∷ []) y ≡ shard_ticket_by x.reply y
ticket_given es x y e = first_given (ticket_by y) es x e

pub end_given : (es : List Entry) (x : Entry) (k : ℕ) → ticket_end es k ≡ None → ticket_end (es ++ x ∷ []) k ≡ shard_end_at k x
end_given es x k e = first_given (shard_end_at k) es x e

-- ---- one entry

pub ends_none : (k : ℕ) (x : Entry) → shard_end_by x.step x.reply ≡ None → shard_end_at k x ≡ None
ends_none k x e = ap (λ (a : Option ShardEnd). if x.who == k then a else None) e ∙ either (x.who == k)
  where
    either : (b : Bool) → ◌≡◌ {A = Option ShardEnd} (if b then None else None) None
    either true = refl
    either false = refl

-- the end of another ticket
pub other_end : (k : ℕ) (x : Entry) → x.who ≢ k → shard_end_at k x ≡ None
other_end k x apart = elim (eqb_tells x.who k) [ inl h ↦ absurd (apart h.1) | inr h ↦ cond-false _ _ _ h.0 ]

pub own_end : (k : ℕ) (x : Entry) → x.who ≡ k → shard_end_at k x ≡ shard_end_by x.step x.reply
own_end k x same = elim (eqb_tells x.who k) [ inl h ↦ cond-true _ _ _ h.0 | inr h ↦ absurd (h.1 same) ]

all_four : (a b c d : Bool) → a ≡ true → b ≡ true → c ≡ true → d ≡ true → (a && b && c && d) ≡ true
all_four a b c d p q r s = ap (λ (x : Bool). x && b && c && d) p ∙ ap (λ (x : Bool). true && x && c && d) q ∙ ap (λ (x : Bool). true && true && x && d) r ∙ s

not_second : (a b c d : Bool) → b ≡ false → (a && b && c && d) ≡ false
not_second true b c d p = ap (λ (x : Bool). true && x && c && d) p
not_second false b c d p = refl

not_third : (a b c d : Bool) → c ≡ false → (a && b && c && d) ≡ false
not_third true true c d p = ap (λ (x : Bool). true && true && x && d) p
not_third a b c d p = refl

pub same_true : (y : ReadShard) → same_shard y y ≡ true
same_true y = all_four (y.op == y.op) (y.index == y.index) (y.number == y.number) (y.uuid == y.uuid) (same_number y.op) (same_number y.index) (same_number y.number) (same_number y.uuid)

-- shards of other ops, or other places
pub other_op : (a b : ReadShard) → a.op ≢ b.op → same_shard a b ≡ false
other_op a b apart = elim (eqb_tells a.op b.op) [ inl h ↦ absurd (apart h.1) | inr h ↦ ap (λ (x : Bool). x && (a.index == b.index) && (a.number == b.number) && (a.uuid == b.uuid)) h.0 ]

pub other_place : (a b : ReadShard) → (a.index ≡ b.index → a.number ≡ b.number → ⊥) → same_shard a b ≡ false
other_place a b apart = elim (eqb_tells a.index b.index) [
  | inl i ↦ elim (eqb_tells a.number b.number) [
    | inl n ↦ absurd (apart i.1 n.1)
    | inr n ↦ not_third (a.op == b.op) (a.index == b.index) (a.number == b.number) (a.uuid == b.uuid) n.0
  ]
  | inr i ↦ not_second (a.op == b.op) (a.index == b.index) (a.number == b.number) (a.uuid == b.uuid) i.0
]

-- the shard to which a take gives the ticket
pub ticket_same : (k : ℕ) (y : ReadShard) → shard_ticket_by (Gave k y.op (GivenRestore y.index y.number y.uuid)) y ≡ Some k
ticket_same k y = cond-true _ _ _ (same_true y)

pub ticket_other : (k : ℕ) (a b : ReadShard) → same_shard a b ≡ false → shard_ticket_by (Gave k a.op (GivenRestore a.index a.number a.uuid)) b ≡ None
ticket_other k a b apart = cond-false _ _ _ apart

-- ---- a shard that was restored

pub record IsRestored (es : List Entry) (y : ReadShard) : Type 0 where
  pub k : ℕ
  pub ticket_is : shard_ticket es y ≡ Some k
  pub files : ℕ
  pub bytes : ℕ
  pub end_is : ticket_end es k ≡ Some (ShardRestored files bytes)

pub restored_stays : (es rest : List Entry) (y : ReadShard) → IsRestored es y → IsRestored (es ++ rest) y
restored_stays es rest y h =
    record {
      k = h.k;
      ticket_is = ticket_stays es rest y h.k h.ticket_is;
      files = h.files;
      bytes = h.bytes;
      end_is = end_stays es rest h.k (ShardRestored h.files h.bytes) h.end_is;
    }

restored_end : (es : List Entry) (y : ReadShard) (h : IsRestored es y) → shard_end es y ≡ Some (ShardRestored h.files h.bytes)
restored_end es y h = ap (option_and_then (ticket_end es)) h.ticket_is ∙ h.end_is

-- ---- a restore whose shards were restored

record AllRestored (all : List Entry) (shards : List ReadShard) : Type 0 where
  ends : List ShardEnd
  is : ends_of all shards ≡ Some ends
  unfailed : first_by failure_of ends ≡ None

all_restored : (all : List Entry) (shards : List ReadShard) → ((y : ReadShard) → Has shards y → IsRestored all y) → AllRestored all shards
all_restored all [] h = record { ends = []; is = refl; unfailed = refl }
all_restored all (y ∷ shards) h =
    let one = h y (inl refl) in
    let rest = all_restored all shards (λ z m. h z (inr m)) in
    let end : ShardEnd = ShardRestored one.files one.bytes in
    record {
      ends = end ∷ rest.ends;
      is = ap (λ (a : Option ShardEnd). and_ends a (ends_of all shards)) (restored_end all y one) ∙ ap (and_ends (Some end)) rest.is;
      unfailed = rest.unfailed;
    }

-- so many files were restored, of so many bytes
pub record IsRestoredReply (answer : Option report.Reply) : Type 0 where
  pub files : ℕ
  pub bytes : ℕ
  pub is : answer ≡ Some (report.Restored files bytes)

pub restored_reply : (all : List Entry) (op uuid : ℕ) (indices : List IndexRef) → ((p : IndexRef × ℕ) → Has (places indices) p → IsRestored all (read_shard op uuid p)) → IsRestoredReply (restore_reply all op uuid indices)
restored_reply all op uuid indices h =
    let each : (y : ReadShard) → Has (restore_shards op uuid indices) y → IsRestored all y = λ (y : ReadShard) (m : Has (restore_shards op uuid indices) y).
    let (p, pm, is) = Has-mapped (read_shard op uuid) (places indices) y m in
    subst (IsRestored all) is (h p pm) in
    let a = all_restored all (restore_shards op uuid indices) each in
    record { files = _; bytes = _; is = ap (option_map reply_of_ends) a.is ∙ ap (λ failed. Some (reply_by failed a.ends)) a.unfailed }
