-- How a run ended, by its replies, and its exit status.
use Rattle.std.specs.Prelude.{ℕ, Bool, true, false, not, ◌||◌, nat_lt, if◌then◌else◌, List, [], ◌∷◌, length, Option, Some, None}
use Rattle.std.specs.List.{list_any}
use Rattle.esr_model.specs.Names.{BlobName}
use Rattle.esr_core.specs.After.{or_else}
use Rattle.esr_core.specs.Entry.{OfAbsence, OfUnreadable, OfAhead, OfIdsSpent, OfGenerationsSpent, OfPrint, OfDisagreement, GenerationsSpent, TermsSpent, IdsSpent, Entry}
use Rattle.esr_script.specs.declared.item.ScriptLine.{ScriptLine}
use Rattle.esr_report.specs.Replies.{Reply, Made, Deleted, Restored, Cleaned, Term, Waited, Listed, Checked, Verified, Refused, Failed, Aborted, Deposed, is_short, replies, end_reply}

abbrev pub is_deposed : Reply → Bool
is_deposed Deposed = true
is_deposed reply = false

abbrev pub damaged_name : Reply → Option BlobName
damaged_name (Failed (OfAbsence name) op) = Some name
damaged_name (Failed (OfUnreadable name reason) op) = Some name
damaged_name (Failed (OfAhead name id) op) = Some name
damaged_name (Failed (OfPrint name stated_len stated_digest found_len found_digest) op) = Some name
damaged_name (Failed (OfDisagreement name other) op) = Some name
damaged_name reply = None

-- the first blob that was damaged, in the order of lines
abbrev pub first_damaged : List Reply → Option BlobName
first_damaged [] = None
first_damaged (r ∷ rs) = or_else (damaged_name r) (first_damaged rs)

abbrev pub is_spent : Reply → Bool
is_spent (Refused (GenerationsSpent pending)) = true
is_spent (Refused (TermsSpent term)) = true
is_spent (Refused (IdsSpent next)) = true
is_spent (Failed (OfIdsSpent next) op) = true
is_spent (Failed (OfGenerationsSpent pending) op) = true
is_spent reply = false

abbrev pub is_ok : Reply → Bool
is_ok (Made uuid) = true
is_ok (Deleted op) = true
is_ok (Restored files bytes) = true
is_ok (Cleaned blobs bytes) = true
is_ok (Term term) = true
is_ok Waited = true
is_ok (Listed snapshots) = true
is_ok (Checked snapshots blobs) = true
is_ok Verified = true
is_ok (Refused refusal) = false
is_ok (Failed why op) = false
is_ok (Aborted by) = false
is_ok Deposed = false

abbrev pub are_ok : List Reply → Bool
are_ok [] = true
are_ok (r ∷ rs) = if is_ok r then are_ok rs else false

-- Why a run doesn't end with 0. A record swap failed; a blob is damaged; numbers are spent, or so many entries were made that a desk's turns
-- may be, so that not all lines were answered or the last wait was left; a command was refused or aborted, or it failed.
pub data Ending : Type 0 where
  AllOk : Ending
  SomeRefused : Ending
  SwapFailed : Ending
  BlobDamaged : (name : BlobName) → Ending
  NumbersSpent : Ending

abbrev pub ending_by : Option BlobName → Bool → Bool → Ending
ending_by (Some name) spent ok = BlobDamaged name
ending_by None true ok = NumbersSpent
ending_by None false true = AllOk
ending_by None false false = SomeRefused

-- the first that holds
unfoldable pub ending : List ScriptLine → List Entry → Ending
ending script history =
    let rs : List Reply = replies script history in
    if is_deposed (end_reply history) || list_any is_deposed rs then SwapFailed
    else ending_by (first_damaged rs) ((list_any is_spent rs || nat_lt (length rs) (length script)) || not (is_short history)) (are_ok rs)

abbrev pub status_of : Ending → ℕ
status_of AllOk = 0
status_of SomeRefused = 1
status_of SwapFailed = 3
status_of (BlobDamaged name) = 4
status_of NumbersSpent = 7
