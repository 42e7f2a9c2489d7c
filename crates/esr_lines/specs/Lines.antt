-- The text of a report.
use Rattle.std.specs.Prelude.{ℕ, ◌==◌, if◌then◌else◌, Bool, true, List, [], ◌∷◌, ◌++◌, length, get_or, Option, Some, None, codes, decimal}
use Rattle.std.specs.Ordering.{nat_cmp}
use Rattle.std.specs.Cmp.Lexicographic.{slice_cmp}
use Rattle.esr_names.specs.IdText.{id_text}
use Rattle.esr_model.specs.Values.{RootSnap}
use Rattle.esr_model.specs.Places.{by_order, sorted_by}
use Rattle.esr_core.specs.Entry.{Why, OfDepot, OfSource, OfChange, OfAbsence, OfUnreadable, OfAhead, OfTaken, OfAbort, OfIdsSpent, OfGenerationsSpent, OfTarget, OfPrint, OfDisagreement}
use Rattle.esr_core.specs.Entry.{Refusal, CleanupRunning, NameInUse, TooMany, DeposedAt, AbortedBy, StaleTerm, GenerationsSpent, TermsSpent, IdsSpent, NameTaken, DepotFault, NoSnapshot, NoIndex, BeingDeleted, CloneRunning, RestoreRunning, BusyOp, BusyTicket, Entry}
use Rattle.esr_formats.specs.Names.{name_kind}
use Rattle.esr_script.specs.declared.item.Item.{Item}
use Rattle.esr_script.specs.declared.item.Item.TheVariants as items
use Rattle.esr_script.specs.declared.item.ScriptLine.{ScriptLine}
use Rattle.esr_script.specs.Kinds.{verb_text}
use Rattle.esr_report.specs.Replies.{Reply, Made, Deleted, Restored, Cleaned, Term, Waited, Listed, Checked, Verified, Refused, Failed, Aborted, Deposed, replies}
use Rattle.esr_report.specs.Status.{Ending, AllOk, SomeRefused, SwapFailed, BlobDamaged, NumbersSpent, ending}

abbrev pub Text : Type 0
Text = List ℕ

-- the word of a failure, with what it carries
abbrev pub why_text : Why → Text
why_text OfDepot = codes "depot"
why_text OfSource = codes "source"
why_text (OfChange len digest len2 digest2) = codes "changed"
why_text (OfAbsence name) = codes "damaged " ++ name_kind.text name
why_text (OfUnreadable name reason) = codes "damaged " ++ name_kind.text name
why_text (OfAhead name id) = codes "damaged " ++ name_kind.text name
why_text (OfTaken name) = codes "name-taken " ++ name_kind.text name
why_text (OfAbort op) = codes "aborted " ++ decimal op
why_text (OfIdsSpent next) = codes "spent"
why_text (OfGenerationsSpent pending) = codes "spent"
why_text OfTarget = codes "target"
why_text (OfPrint name stated_len stated_digest found_len found_digest) = codes "damaged " ++ name_kind.text name
why_text (OfDisagreement name other) = codes "damaged " ++ name_kind.text name

-- the snapshot's name that stands at a place of a command, from 0 on
abbrev pub name_at : Item → ℕ → Text
name_at (items.Restore name target) place = name
name_at (items.Clone source name indices) place = source
name_at (items.Delete names) place = get_or names place []
name_at item place = []

-- the index's name that stands at a place of a command, from 0 on
abbrev pub index_at : Item → ℕ → Text
index_at (items.Clone source name indices) place = get_or indices place []
index_at item place = []

-- a rule that refused a command, or a number that is spent
abbrev pub refusal_text : Item → Refusal → Text
refusal_text item (NameInUse uuid) = codes " refused name-in-use " ++ id_text uuid
refusal_text item (TooMany limit) = codes " refused too-many " ++ decimal limit
refusal_text item (CleanupRunning op) = codes " refused cleanup-running " ++ decimal op
refusal_text item (AbortedBy op) = codes " aborted " ++ decimal op
refusal_text item (DeposedAt place) = codes " deposed"
refusal_text item (StaleTerm own now) = codes " deposed"
refusal_text item (GenerationsSpent pending) = codes " failed spent"
refusal_text item (TermsSpent term) = codes " failed spent"
refusal_text item (IdsSpent next) = codes " failed spent"
refusal_text item (NameTaken name) = codes " failed name-taken " ++ name_kind.text name
refusal_text item DepotFault = codes " failed depot"
refusal_text item (NoSnapshot place) = codes " refused no-snapshot " ++ name_at item place
refusal_text item (NoIndex place) = codes " refused no-index " ++ index_at item place
refusal_text item (BeingDeleted op) = codes " refused being-deleted " ++ decimal op
refusal_text item (CloneRunning op) = codes " refused clone-running " ++ decimal op
refusal_text item (RestoreRunning op) = codes " refused restore-running " ++ decimal op
refusal_text item (BusyOp op) = codes " refused busy op " ++ decimal op
refusal_text item (BusyTicket ticket) = codes " refused busy ticket " ++ decimal ticket

-- 1 is success and 3 partial
abbrev pub state_text : ℕ → Text
state_text state = if state == 1 then codes "success" else (if state == 3 then codes "partial" else codes "state " ++ decimal state)

abbrev pub snap_text : RootSnap → Text
snap_text s = codes "- " ++ s.name ++ codes " " ++ id_text s.uuid ++ codes " " ++ state_text s.state ++ codes "\n"

abbrev pub snap_texts : List RootSnap → Text
snap_texts [] = []
snap_texts (s ∷ ss) = snap_text s ++ snap_texts ss

-- by the byte order of names
abbrev pub name_first : RootSnap → RootSnap → Bool
name_first a b = by_order (slice_cmp nat_cmp a.name b.name) true

-- the op of a failed delete
abbrev pub op_text : Option ℕ → Text
op_text None = []
op_text (Some op) = codes " op " ++ decimal op

-- what follows a command's beginning, with the newline and the lines of a listing
abbrev pub reply_text : Item → Reply → Text
reply_text item (Made uuid) = codes " ok " ++ id_text uuid ++ codes "\n"
reply_text item (Deleted op) = codes " ok op " ++ decimal op ++ codes "\n"
reply_text item (Restored files bytes) = codes " ok files " ++ decimal files ++ codes " bytes " ++ decimal bytes ++ codes "\n"
reply_text item (Cleaned blobs bytes) = codes " ok blobs " ++ decimal blobs ++ codes " bytes " ++ decimal bytes ++ codes "\n"
reply_text item (Term term) = codes " term " ++ decimal term ++ codes "\n"
reply_text item Waited = codes "\n"
reply_text item (Listed snapshots) = codes " " ++ decimal (length snapshots) ++ codes "\n" ++ snap_texts (sorted_by name_first snapshots)
reply_text item (Checked snapshots blobs) = codes " ok snapshots " ++ decimal snapshots ++ codes " blobs " ++ decimal blobs ++ codes "\n"
reply_text item Verified = codes " ok\n"
reply_text item (Refused refusal) = refusal_text item refusal ++ codes "\n"
reply_text item (Failed why op) = codes " failed " ++ why_text why ++ op_text op ++ codes "\n"
reply_text item (Aborted by) = codes " aborted " ++ decimal by ++ codes "\n"
reply_text item Deposed = codes " deposed\n"

-- a space and the name that follows a command's verb, if one does
abbrev pub name_after : Item → Text
name_after (items.Snapshot name indices) = codes " " ++ name
name_after (items.Clone source name indices) = codes " " ++ name
name_after (items.Restore name place) = codes " " ++ name
name_after item = []

-- a command's beginning, its number aside
unfoldable pub item_text : Item → Text
item_text item = codes " " ++ verb_text item ++ name_after item

unfoldable pub line_text : ScriptLine → Reply → Text
line_text line reply = decimal line.number ++ item_text line.item ++ reply_text line.item reply

-- the lines of the commands that were answered
abbrev pub lines_text : List ScriptLine → List Reply → Text
lines_text (line ∷ lines) (reply ∷ more) = line_text line reply ++ lines_text lines more
lines_text lines more = []

-- the line after the commands' lines, if there is one
abbrev pub last_line : Ending → Text
last_line AllOk = []
last_line SomeRefused = []
last_line SwapFailed = codes "deposed\n"
last_line (BlobDamaged name) = codes "damaged " ++ name_kind.text name ++ codes "\n"
last_line NumbersSpent = codes "numbers spent\n"

-- the whole report of a run that opened the container
unfoldable pub report_text : List ScriptLine → List Entry → Text
report_text script history = lines_text script (replies script history) ++ last_line (ending script history)
