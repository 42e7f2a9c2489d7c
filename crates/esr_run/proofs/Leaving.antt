-- A run whose work was left ends neither with 0 nor with 1.
use Rattle.std.proofs.Common.{◌≡◌, ◌⊎◌, ℕ, suc, ◌^◌, ◌≤◌, Bool, true, false, not, nat_lt, List, [], ◌∷◌, length, Option, Some, None, refl, sym, ap, ◌∙◌, subst, inl, inr, arith}
use Rattle.std.specs.Prelude.{◌||◌, if◌then◌else◌}
use Rattle.std.specs.List.{list_any}
use Rattle.std.proofs.lemmas.Bool.{le-ltb, or_right}
use Rattle.esr_model.specs.Names.{BlobName}
use Rattle.esr_model.specs.Values.{Has}
use Rattle.esr_core.specs.Entry.{Reply, Entry, Moment}
use Rattle.esr_script.specs.declared.item.ScriptLine.{ScriptLine}
use Rattle.esr_report.specs.Replies.{fails_swap, has_fallen, wait_reply, is_short, end_reply, replies}
use Rattle.esr_report.specs.Status.{is_deposed, first_damaged, is_spent, are_ok, SwapFailed, ending_by, ending, status_of}
use Rattle.esr_desk.specs.Start.{Start}
use Rattle.esr_complete.specs.Lines.{entries_of}
use Rattle.esr_run.specs.Made.{HasFallen, AreDone}

-- the entries tell a record swap that failed
fallen_there : (log : List Moment) (m : Moment) → Has log m → fails_swap m.entry.step m.entry.reply ≡ true → has_fallen (entries_of log) ≡ true
fallen_there [] m h fails = absurd h
fallen_there (n ∷ log) m (inl e) fails = ap (λ (b : Bool). b || has_fallen (entries_of log)) (ap (λ (x : Moment). fails_swap x.entry.step x.entry.reply) e ∙ fails)
fallen_there (n ∷ log) m (inr h) fails = or_right (fails_swap n.entry.step n.entry.reply) (has_fallen (entries_of log)) (fallen_there log m h fails)

as_many : (log : List Moment) → length (entries_of log) ≡ length log
as_many [] = refl
as_many (m ∷ log) = ap suc (as_many log)

-- where a swap failed, or numbers are spent
badly : (down : Bool) (name : Option BlobName) (spent ok : Bool) → spent ≡ true → 2 ≤ status_of (if down then SwapFailed else ending_by name spent ok)
badly true name spent ok is = let three : 2 ≤ 3 = omega arith in three
badly false (Some name) spent ok is = let four : 2 ≤ 4 = omega arith in four
badly false None true ok is = let seven : 2 ≤ 7 = omega arith in seven
badly false None false ok is = absurd cc

fallen_ends : (lines : List ScriptLine) (history : List Entry) → has_fallen history ≡ true → 2 ≤ status_of (ending lines history)
unfolding ending
fallen_ends lines history fell =
    subst
    (λ (b : Bool). 2 ≤ status_of (
    if is_deposed (wait_reply b) || list_any is_deposed (replies lines history) then SwapFailed
    else ending_by (first_damaged (replies lines history)) ((list_any is_spent (replies lines history) || nat_lt (length (replies lines history)) (length lines)) || not (is_short history)) (are_ok (replies lines history))
    ))
    (sym fell) three
  where
    three : 2 ≤ 3
    three = omega arith

pub long_ends : (lines : List ScriptLine) (history : List Entry) → is_short history ≡ false → 2 ≤ status_of (ending lines history)
unfolding ending
long_ends lines history long =
    badly (is_deposed (end_reply history) || list_any is_deposed (replies lines history)) (first_damaged (replies lines history))
    ((list_any is_spent (replies lines history) || nat_lt (length (replies lines history)) (length lines)) || not (is_short history)) (are_ok (replies lines history))
    (or_right (list_any is_spent (replies lines history) || nat_lt (length (replies lines history)) (length lines)) (not (is_short history)) (ap not long))

-- the work was done, or it was left and the run ends so
pub worked_or_left : (s : Start) (moment : ℕ) (lines : List ScriptLine) (log : List Moment) (history : List Entry) → entries_of log ≡ history → AreDone s moment lines [] log ⊎ HasFallen s moment lines [] log
    → AreDone s moment lines [] log ⊎ (HasFallen s moment lines [] log × (2 ≤ status_of (ending lines history)))
worked_or_left s moment lines log history entries (inl done) = inl done
worked_or_left s moment lines log history entries (inr (inl fell)) =
    let fails : fails_swap fell.1.moment.entry.step fell.1.moment.entry.reply ≡ true = ap (λ (r : Reply). fails_swap fell.1.moment.entry.step r) fell.1.failed ∙ fell.1.swap in
    inr (inl fell, fallen_ends lines history (subst (λ (es : List Entry). has_fallen es ≡ true) entries (fallen_there log fell.1.moment fell.1.there fails)))
worked_or_left s moment lines log history entries (inr (inr many)) =
    let same : length (entries_of log) ≡ length log = as_many log in
    let most : 2 ^ 33 ≤ length log = many in
    let long : is_short (entries_of log) ≡ false = le-ltb (length (entries_of log)) (2 ^ 33) (omega (arith, same, most)) in
    inr (inr many, long_ends lines history (subst (λ (es : List Entry). is_short es ≡ false) entries long))
