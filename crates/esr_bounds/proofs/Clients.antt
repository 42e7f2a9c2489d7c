-- Who 0 ends as many checks and verifications at most as it begins.
use Rattle.std.proofs.Common.{◌≡◌, ◌≢◌, ℕ, zero, suc, ◌+◌, ◌≤◌, List, [], ◌∷◌, Bool, true, false, Option, Some, None, refl, sym, ap, ◌∙◌, subst, inl, inr, ⊎_elim, arith}
use Rattle.std.specs.Prelude.{if◌then◌else◌}
use Rattle.std.proofs.lemmas.Option.{none-some}
use Rattle.esr_model.specs.Names.{BlobName}
use Rattle.esr_model.specs.Values.{Bytes, Formats}
use Rattle.esr_model.specs.Image.{Image}
use Rattle.esr_core.specs.World.{World, Caller, no_caller}
use Rattle.esr_core.specs.ReadTracked.{ReadTracked}
use Rattle.esr_core.specs.Tracked.{Tracked}
use Rattle.esr_core.specs.Changes.{StepChange}
use Rattle.esr_core.specs.Entry.{Read, ReadBlob, CheckedAll, DrawTest, CommitTest, RemoveTests, VerifiedAll, ReadFails, Step, AskStep, LookStep, ReadStep, Reply, WasDone, WasFetched, WasRemoved, HasEnded, Moment}
use Rattle.esr_core.specs.After.{told_blob, is_heard, caller_told, caller_wrote, caller_ended, caller_read, caller_after, answered, after}
use Rattle.esr_core.specs.Allowed as allowed
use Rattle.esr_core.specs.Allowed.{ReadAllows, VerifyAllows, Allows, Allowed}
use Rattle.esr_core.specs.History.{IsLegal}
use Rattle.esr_core.specs.Laws.StepFrames.{change_caller}
use Rattle.esr_bounds.specs.Keys.{IsUnheard, AreHeard}
use Rattle.esr_bounds.specs.Clients.{draws_by, looks_by, ends_by, draws_in, looks_in, ends_in}
use Rattle.esr_bounds.specs.Laws.{StepLaws}
use Rattle.esr_bounds.proofs.Once.{looked_at}

-- ---- whether a check or a verification is open: 1, or 0

abbrev open_by : Bool → Option ℕ → Bool → ℕ
open_by true drawn spent = 1
open_by false (Some id) spent = 1
open_by false None true = 1
open_by false None false = 0

abbrev open_of : Caller → ℕ
open_of c = open_by c.looked c.drawn c.spent

same_le : (n : ℕ) → 0 + n ≤ (0 + 0) + n
same_le n = omega arith

open_le : (looked : Bool) (drawn : Option ℕ) (spent : Bool) → open_by looked drawn spent ≤ 1
open_le false None false = let none : 0 ≤ 1 = omega arith in none
open_le looked drawn spent = let one : 1 ≤ 1 = omega arith in one

open_looked : (looked : Bool) (drawn : Option ℕ) (spent : Bool) → looked ≡ true → open_by looked drawn spent ≡ 1
open_looked true drawn spent is = refl
open_looked false drawn spent is = absurd cc

open_drawn : (looked : Bool) (drawn : Option ℕ) (spent : Bool) (id : ℕ) → drawn ≡ Some id → open_by looked drawn spent ≡ 1
open_drawn false None spent id is = absurd (none-some id is)
open_drawn looked drawn spent id is = refl

open_spent : (looked : Bool) (drawn : Option ℕ) (spent : Bool) → spent ≡ true → open_by looked drawn spent ≡ 1
open_spent false None false is = absurd cc
open_spent looked drawn spent is = refl

-- ---- a step

module _ (f : Formats) (size : ℕ) (w : World) (reads : ReadTracked w) where
  abbrev Ended : Reply → Type 0
  Ended reply = (reply ≡ HasEnded) × (open_of w.caller ≡ 1)

  by_verify : (read : Read) (reply : Reply) (image : Option Image) → VerifyAllows f w read reply image → ends_by 0 (ReadStep read) ≡ 1 → Ended reply
  by_verify read reply image (allowed.VerifyingAll im v same) is = (refl, open_drawn w.caller.looked w.caller.drawn w.caller.spent v.id v.drawn)
  by_verify read reply image (allowed.VerifyFailing why im v same) is = (
    refl,
    ⊎_elim
        (λ (drew : (id : ℕ) × (w.caller.drawn ≡ Some id)). open_drawn w.caller.looked w.caller.drawn w.caller.spent drew.0 drew.1)
        (λ (none_left : w.caller.spent ≡ true). open_spent w.caller.looked w.caller.drawn w.caller.spent none_left)
        v,
  )
  by_verify read reply image other is = absurd cc

  by_read : (k : ℕ) (read : Read) (reply : Reply) (image : Option Image) → k ≡ 0 → ReadAllows f w k read reply image → ends_by 0 (ReadStep read) ≡ 1 → Ended reply
  by_read k read reply image nobody (allowed.ReaderFailing j why im q reading) is =
      let some : 1 ≤ k = (reads.tracked.tickets k q reading.there).0 in let none : k ≡ 0 = nobody in absurd (omega (arith, some, none))
  by_read k read reply image nobody (allowed.CheckingAll snapshots blobs im c) is = (refl, open_looked w.caller.looked w.caller.drawn w.caller.spent c.is_open.looked)
  by_read k read reply image nobody (allowed.CheckFailing why im o) is = (refl, open_looked w.caller.looked w.caller.drawn w.caller.spent o.looked)
  by_read k read reply image nobody other is = absurd cc

  by_step : (who : ℕ) (read : Read) (reply : Reply) (image : Option Image) → who ≡ 0 → Allows f size w who (ReadStep read) reply image → ends_by 0 (ReadStep read) ≡ 1 → Ended reply
  by_step who read reply image nobody (allowed.Verifying r rep im h) is = by_verify read reply image h is
  by_step who read reply image nobody (allowed.Reading k r rep im h same) is = by_read who read reply image nobody h is

  -- reads of who 0 that neither begin nor end leave what is open
  told_open : (c : Caller) (name : BlobName) (b : Option Bytes) → open_of (caller_told c name b) ≡ open_of c
  told_open c name None = refl
  told_open c name (Some bytes) = refl

  wrote_open : (c : Caller) (name : BlobName) (b : Option Bytes) → open_of (caller_wrote c name b) ≡ open_of c
  wrote_open c name None = refl
  wrote_open c name (Some bytes) = refl

  kept_le : (c d : ℕ) → c ≡ d → 0 + c ≤ (0 + 0) + d
  kept_le c d e = let is : c ≡ d = e in omega (arith, is)

  ended_le : (reply : Reply) → Ended reply → 1 + open_of (caller_ended w.caller reply) ≤ (0 + 0) + open_of w.caller
  ended_le reply e = subst (λ (r : Reply). 1 + open_of (caller_ended w.caller r) ≤ (0 + 0) + open_of w.caller) (sym e.0) (let one : open_of w.caller ≡ 1 = e.1 in let is : 1 + 0 ≤ (0 + 0) + open_of w.caller = omega (arith, one) in is)

  more_le : (c d : ℕ) → c ≤ 1 → 0 + c ≤ (0 + 1) + d
  more_le c d h = let one : c ≤ 1 = h in omega (arith, one)

  read_le : (read : Read) (reply : Reply) (image : Option Image) → Allows f size w 0 (ReadStep read) reply image
      → ends_by 0 (ReadStep read) + open_of (caller_read f w.caller read reply image) ≤ (looks_by 0 (ReadStep read) + draws_by 0 (ReadStep read)) + open_of w.caller
  read_le (CheckedAll snapshots blobs) reply image a = ended_le reply (by_step 0 (CheckedAll snapshots blobs) reply image refl a refl)
  read_le VerifiedAll reply image a = ended_le reply (by_step 0 VerifiedAll reply image refl a refl)
  read_le (ReadFails why) reply image a = ended_le reply (by_step 0 (ReadFails why) reply image refl a refl)
  read_le DrawTest reply image a =
      let c : Caller = caller_read f w.caller DrawTest reply image in
      more_le (open_of c) (open_of w.caller) (open_le c.looked c.drawn c.spent)
  read_le (ReadBlob name) WasFetched image a = kept_le (open_of (caller_told w.caller name (told_blob f image name))) (open_of w.caller) (told_open w.caller name (told_blob f image name))
  read_le (CommitTest name) WasDone image a = kept_le (open_of (caller_wrote w.caller name (told_blob f image name))) (open_of w.caller) (wrote_open w.caller name (told_blob f image name))
  read_le (RemoveTests names) WasRemoved image a = same_le (open_of w.caller)
  read_le read reply image a = same_le (open_of w.caller)

  asked_le : (b : Bool) → 0 + open_of (if b then no_caller else w.caller) ≤ (0 + 0) + open_of w.caller
  asked_le true = let none : 0 + 0 ≤ (0 + 0) + open_of w.caller = omega arith in none
  asked_le false = same_le (open_of w.caller)

  step_le : (step : Step) (reply : Reply) (image : Option Image) → Allows f size w 0 step reply image
      → ends_by 0 step + open_of (caller_after f w.caller 0 step reply image) ≤ (looks_by 0 step + draws_by 0 step) + open_of w.caller
  step_le (AskStep command) reply image a = asked_le (is_heard reply)
  step_le LookStep reply image a =
      let c : Caller = caller_after f w.caller 0 LookStep reply image in
      let one : open_of c ≤ 1 = open_le c.looked c.drawn c.spent in
      let is : 0 + open_of c ≤ (1 + 0) + open_of w.caller = omega (arith, one) in is
  step_le (ReadStep read) reply image a = read_le read reply image a
  step_le step reply image a = same_le (open_of w.caller)

-- ---- over a history

module _ (f : Formats) (size : ℕ) (steps : StepLaws f size) (change : (w : World) (who : ℕ) (step : Step) (reply : Reply) (image : Option Image) → StepChange f w who step (answered f w who step reply image))
    (others : (w : World) (m : Moment) → Allowed f size w m → m.entry.who ≢ 0 → (after f w m).caller ≡ w.caller) where
  one_le : (w : World) (m : Moment) → ReadTracked w → Allowed f size w m → (IsUnheard m.entry.reply → ⊥)
      → ends_by m.entry.who m.entry.step + open_of (after f w m).caller ≤ (looks_by m.entry.who m.entry.step + draws_by m.entry.who m.entry.step) + open_of w.caller
  one_le w m reads a heard = by m.entry.who refl
    where
      kept : (step : Step) (k : ℕ) → (after f w m).caller ≡ w.caller → ends_by (suc k) step + open_of (after f w m).caller ≤ (looks_by (suc k) step + draws_by (suc k) step) + open_of w.caller
      kept step k same = subst (λ (c : Caller). 0 + open_of c ≤ (0 + 0) + open_of w.caller) (sym same) (same_le (open_of w.caller))

      by : (who : ℕ) → m.entry.who ≡ who → ends_by who m.entry.step + open_of (after f w m).caller ≤ (looks_by who m.entry.step + draws_by who m.entry.step) + open_of w.caller
      by (suc k) is = kept m.entry.step k (others w m a (λ nobody. let clash : suc k ≡ 0 = sym is ∙ nobody in absurd (omega (arith, clash))))
      by zero is =
          subst (λ (c : Caller). ends_by 0 m.entry.step + open_of (caller_after f c m.entry.who m.entry.step m.entry.reply m.image) ≤ (looks_by 0 m.entry.step + draws_by 0 m.entry.step) + open_of w.caller)
          (sym (change_caller f w m.entry.who m.entry.step (answered f w m.entry.who m.entry.step m.entry.reply m.image) (change w m.entry.who m.entry.step m.entry.reply m.image)))
          (subst (λ (who : ℕ). ends_by 0 m.entry.step + open_of (caller_after f w.caller who m.entry.step m.entry.reply m.image) ≤ (looks_by 0 m.entry.step + draws_by 0 m.entry.step) + open_of w.caller) (sym is)
          (step_le f size w reads m.entry.step m.entry.reply m.image (subst (λ (who : ℕ). Allows f size w who m.entry.step m.entry.reply m.image) is (looked_at f size steps w m a heard).1)))

  ends_few : (w : World) (log : List Moment) → Tracked w → ReadTracked w → IsLegal f size w log → AreHeard log → ends_in log ≤ (looks_in log + draws_in log) + open_of w.caller
  ends_few w [] tracked reads legal heard = let none : 0 ≤ (0 + 0) + open_of w.caller = omega arith in none
  ends_few w (m ∷ log) tracked reads legal heard =
      both (ends_by m.entry.who m.entry.step) (open_of (after f w m).caller) (looks_by m.entry.who m.entry.step) (draws_by m.entry.who m.entry.step)
      (open_of w.caller) (ends_in log) (looks_in log) (draws_in log) (one_le w m reads legal.0 (heard m (inl refl)))
      (ends_few (after f w m) log (steps.tracks w m tracked legal.0) (steps.reads w m tracked reads legal.0) legal.1 (λ n h. heard n (inr h)))
    where
      both : (e now l d was es ls ds : ℕ) → e + now ≤ (l + d) + was → es ≤ (ls + ds) + now → e + es ≤ ((l + ls) + (d + ds)) + was
      both e now l d was es ls ds p q = let one : e + now ≤ (l + d) + was = p in let rest : es ≤ (ls + ds) + now = q in omega (arith, one, rest)

  pub ended_few : (w : World) (log : List Moment) → Tracked w → ReadTracked w → w.caller ≡ no_caller → IsLegal f size w log → AreHeard log → ends_in log ≤ looks_in log + draws_in log
  ended_few w log tracked reads none legal heard =
      let few : ends_in log ≤ (looks_in log + draws_in log) + open_of w.caller = ends_few w log tracked reads legal heard in
      let closed : open_of w.caller ≡ 0 = ap open_of none in
      omega (arith, few, closed)
