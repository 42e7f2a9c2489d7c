-- How a run ends whose lines were answered.
use Rattle.std.proofs.Common.{◌≡◌, ◌⊎◌, ℕ, suc, ◌^◌, ◌<◌, Bool, true, false, not, ◌||◌, nat_lt, if◌then◌else◌, List, [], ◌∷◌, ◌++◌, length, Option, None, refl, ap, ◌∙◌, inl, inr, arith}
use Rattle.std.specs.List.{list_any}
use Rattle.std.proofs.lemmas.Bool.{le-ltb, lt-ltb, or_from}
use Rattle.esr_model.specs.Names.{BlobName}
use Rattle.esr_model.specs.Values.{Has}
use Rattle.esr_core.specs.After.{or_else}
use Rattle.esr_core.specs.Entry.{Asked, Snapshot, Clone, DeleteSnapshots, Restore, Cleanup, Refusal, GenerationsSpent, TermsSpent, IdsSpent, Entry, Moment}
use Rattle.esr_script.specs.declared.item.Item.{Item}
use Rattle.esr_script.specs.declared.item.Item.TheVariants as items
use Rattle.esr_script.specs.declared.item.ScriptLine.{ScriptLine}
use Rattle.esr_report.specs.Replies.{Reply, Refused, Failed, Deposed, fails_swap, has_fallen, wait_reply, is_short, end_reply, replies}
use Rattle.esr_report.specs.Status.{is_deposed, damaged_name, first_damaged, is_spent, are_ok, AllOk, SomeRefused, SwapFailed, ending_by, ending}
use Rattle.esr_core.specs.Refusing.{IsByRule}
use Rattle.esr_core.specs.Laws.Rules.{never_rule}
use Rattle.esr_complete.specs.Lines.{entries_of}
use Rattle.esr_complete.specs.Answers.{IsAnswer, AreAnsweredIn, AreAnswered, EndsWell}
use Rattle.esr_complete.proofs.Facts.{Fact}

-- no rule says that a number is spent
unspent_rule : (command : Asked) (refusal : Refusal) → IsByRule command refusal → is_spent (Refused refusal) ≡ false
unspent_rule command (GenerationsSpent pending) rule = absurd (never_rule command (GenerationsSpent pending) refl rule)
unspent_rule command (TermsSpent term) rule = absurd (never_rule command (TermsSpent term) refl rule)
unspent_rule command (IdsSpent next) rule = absurd (never_rule command (IdsSpent next) refl rule)
unspent_rule command refusal rule = refl

-- a reply that ends no run
abbrev IsFine : Reply → Type 0
IsFine (Refused refusal) = (command : Asked) × IsByRule command refusal
IsFine (Failed why op) = ⊥
IsFine Deposed = ⊥
IsFine reply = Unit {0}

fine_answer : (script before : List ScriptLine) (item : Item) (reply : Reply) → IsAnswer script before item reply → IsFine reply
fine_answer script before (items.Snapshot name indices) (Refused refusal) h = (Snapshot name [] 0, h.0)
fine_answer script before (items.Clone source name indices) (Refused refusal) h = (Clone source name indices 0 None, h.0)
fine_answer script before (items.Delete names) (Refused refusal) h = (DeleteSnapshots names, h.0)
fine_answer script before (items.Restore name place) (Refused refusal) h = (Restore name place, h)
fine_answer script before items.Cleanup (Refused refusal) h = (Cleanup, h.0)
fine_answer script before item (Refused refusal) h = absurd h
fine_answer script before item (Failed why op) h = absurd h
fine_answer script before item Deposed h = absurd h
fine_answer script before item reply h = tt

record Calm (reply : Reply) : Type 0 where
  undeposed : is_deposed reply ≡ false
  undamaged : damaged_name reply ≡ None
  unspent : is_spent reply ≡ false

calm_reply : (reply : Reply) → IsFine reply → Calm reply
calm_reply (Refused refusal) (command, rule) = record { undeposed = refl; undamaged = refl; unspent = unspent_rule command refusal rule }
calm_reply (Failed why op) fine = absurd fine
calm_reply Deposed fine = absurd fine
calm_reply reply fine = record { undeposed = refl; undamaged = refl; unspent = refl }

record AllCalm (lines : List ScriptLine) (rs : List Reply) : Type 0 where
  undeposed : list_any is_deposed rs ≡ false
  undamaged : first_damaged rs ≡ None
  unspent : list_any is_spent rs ≡ false
  as_many : length rs ≡ length lines

all_calm : (script before lines : List ScriptLine) (rs : List Reply) → AreAnsweredIn script before lines rs → AllCalm lines rs
all_calm script before [] [] h = record { undeposed = refl; undamaged = refl; unspent = refl; as_many = refl }
all_calm script before (line ∷ lines) (reply ∷ rs) h =
    let one = calm_reply reply (fine_answer script before line.item reply h.0) in
    let rest = all_calm script (before ++ line ∷ []) lines rs h.1 in
    record {
      undeposed = or_from (is_deposed reply) (list_any is_deposed rs) one.undeposed rest.undeposed;
      undamaged = ap (λ (a : Option BlobName). or_else a (first_damaged rs)) one.undamaged ∙ rest.undamaged;
      unspent = or_from (is_spent reply) (list_any is_spent rs) one.unspent rest.unspent;
      as_many = ap (λ (n : ℕ). suc n) rest.as_many;
    }
all_calm script before lines rs h = absurd h

unfallen : (script : List ScriptLine) (all es : List Entry) → ((x : Entry) → Has es x → Fact script all x) → has_fallen es ≡ false
unfallen script all [] facts = refl
unfallen script all (x ∷ es) facts = or_from (fails_swap x.step x.reply) (has_fallen es) (facts x (inl refl)).unfallen (unfallen script all es (λ y has. facts y (inr has)))

not_less : (m n : ℕ) → m ≡ n → nat_lt m n ≡ false
not_less m n e = le-ltb m n (omega (arith, e))

by_ok : (ok : Bool) → (ending_by None false ok ≡ AllOk) ⊎ (ending_by None false ok ≡ SomeRefused)
by_ok true = inl refl
by_ok false = inr refl

-- a history of a log that is short
pub short_told : (log : List Moment) → length log < 2 ^ 33 → is_short (entries_of log) ≡ true
short_told log few =
    let same : length (entries_of log) ≡ length log = as_many log in
    let less : length log < 2 ^ 33 = few in
    lt-ltb (length (entries_of log)) (2 ^ 33) (omega (arith, same, less))
  where
    as_many : (log : List Moment) → length (entries_of log) ≡ length log
    as_many [] = refl
    as_many (m ∷ log) = ap suc (as_many log)

ends : (lines : List ScriptLine) (rs : List Reply) (history : List Entry) → has_fallen history ≡ false → is_short history ≡ true → AllCalm lines rs
    → (if is_deposed (end_reply history) || list_any is_deposed rs then SwapFailed
    else ending_by (first_damaged rs) ((list_any is_spent rs || nat_lt (length rs) (length lines)) || not (is_short history)) (are_ok rs)) ≡ ending_by None false (are_ok rs)
ends lines rs history none short c =
    ap (λ (b : Bool). if b then SwapFailed else ending_by (first_damaged rs) ((list_any is_spent rs || nat_lt (length rs) (length lines)) || not (is_short history)) (are_ok rs))
    (or_from (is_deposed (end_reply history)) (list_any is_deposed rs) (ap (λ (b : Bool). is_deposed (wait_reply b)) none) c.undeposed)
    ∙ ap (λ (a : Option BlobName). ending_by a ((list_any is_spent rs || nat_lt (length rs) (length lines)) || not (is_short history)) (are_ok rs)) c.undamaged
    ∙ ap (λ (b : Bool). ending_by None b (are_ok rs))
    (or_from (list_any is_spent rs || nat_lt (length rs) (length lines)) (not (is_short history)) (or_from (list_any is_spent rs) (nat_lt (length rs) (length lines)) c.unspent (not_less (length rs) (length lines) c.as_many)) (ap not short))

pub ends_well : (lines : List ScriptLine) (history : List Entry) → ((x : Entry) → Has history x → Fact lines history x) → is_short history ≡ true → AreAnswered lines (replies lines history) → EndsWell lines history
unfolding ending
ends_well lines history facts short answered =
    let e = ends lines (replies lines history) history (unfallen lines history history facts) short (all_calm lines [] lines (replies lines history) answered) in
    elim (by_ok (are_ok (replies lines history))) [ inl ok ↦ inl (e ∙ ok) | inr ok ↦ inr (e ∙ ok) ]
