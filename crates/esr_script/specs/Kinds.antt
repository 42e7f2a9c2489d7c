-- The verbs of lines, and what lines are to a run by them: by this report, completeness, targets and the run tell them apart, but for what
-- each asks for and how it is answered.
use Rattle.std.specs.Prelude.{ℕ, Bool, true, false, List, codes}
use Rattle.esr_script.specs.declared.item.Item.{Item}
use Rattle.esr_script.specs.declared.item.Item.TheVariants as items
use Rattle.esr_script.specs.declared.item.Kind.{Kind}
use Rattle.esr_script.specs.declared.item.Kind.TheVariants as kinds

abbrev pub kind_of : Item → Kind
kind_of (items.Snapshot name indices) = kinds.Ask
kind_of (items.Clone source name indices) = kinds.Ask
kind_of (items.Delete names) = kinds.Ask
kind_of (items.Restore name place) = kinds.Ask
kind_of items.Cleanup = kinds.Ask
kind_of items.List = kinds.Ask
kind_of items.Check = kinds.Check
kind_of items.Verify = kinds.Verify
kind_of items.Failover = kinds.Failover
kind_of items.Wait = kinds.Wait

abbrev pub verb_text : Item → List ℕ
verb_text (items.Snapshot name indices) = codes "snapshot"
verb_text (items.Clone source name indices) = codes "clone"
verb_text (items.Delete names) = codes "delete"
verb_text (items.Restore name place) = codes "restore"
verb_text items.Cleanup = codes "cleanup"
verb_text items.List = codes "list"
verb_text items.Check = codes "check"
verb_text items.Verify = codes "verify"
verb_text items.Failover = codes "failover"
verb_text items.Wait = codes "wait"

abbrev pub is_check : Item → Bool
is_check item = elim (kind_of item) [ kinds.Check ↦ true | kind ↦ false ]

abbrev pub is_failover : Item → Bool
is_failover item = elim (kind_of item) [ kinds.Failover ↦ true | kind ↦ false ]

abbrev pub is_wait : Item → Bool
is_wait item = elim (kind_of item) [ kinds.Wait ↦ true | kind ↦ false ]

-- a line asks for one step; a wait for none, nor does a failover
abbrev pub asks_step : Item → Bool
asks_step item = elim (kind_of item) [ kinds.Failover ↦ false | kinds.Wait ↦ false | kind ↦ true ]
