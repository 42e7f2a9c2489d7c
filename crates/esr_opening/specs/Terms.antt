-- The record and the root on which the next term begins, and what its swap does.
use Rattle.std.specs.Prelude.{◌≡◌, ◌⊎◌, ℕ, suc, ◌+◌, ◌^◌, ◌≤◌, Bool, true, false, if◌then◌else◌, ℤ, pos, negsuc, List, [], ◌∷◌, length, map, Option, Some, None, Result, Ok}
use Rattle.esr_model.specs.Values.{Bytes}
use Rattle.esr_core.specs.World.{kept_deletes}
use Rattle.esr_depot.specs.Image.{Image as Held, Blobs, with_text}
use Rattle.esr_depot.specs.Look.{Look}
use Rattle.esr_depot.specs.Calls.{HasCause}
use Rattle.esr_record.specs.Record.{Record, AreNumbers}
use Rattle.esr_record.specs.declared.op.RecordOp.{RecordOp}
use Rattle.esr_record.specs.declared.op.OpWork.{OpWork}
use Rattle.esr_record.specs.declared.op.OpWork.TheVariants as works
use Rattle.esr_root.specs.Root.{Root, IsRoot}
use Rattle.esr_formats.specs.Clusters.{op_of, cluster_of, cluster_kind}
use Rattle.esr_ops.specs.Plan.{Plan}
use Rattle.esr_ops.specs.Deletes.{kept_plan}
use Rattle.esr_opening.specs.Found.{Obstacle, ◌>>=◌, root_in, infos_in, safe_number, known_ids, has_term}
use Rattle.esr_opening.specs.Opening.{IsAsBefore}
use Rattle.esr_opening.specs.declared.refusal.OpenRefusal.{OpenRefusal}
use Rattle.esr_opening.specs.declared.refusal.OpenRefusal.TheVariants as refusals

-- ---- what is looked at

-- the number of the safe root, or none
abbrev pub safe_place : ℤ → Option ℕ
safe_place (pos n) = Some n
safe_place (negsuc n) = None

-- the safe root, and the infos of its snapshots
abbrev pub whole_root_in : Blobs → ℤ → Result Root Obstacle
whole_root_in blobs safe = root_in blobs safe >>= λ root. infos_in blobs root (safe_number safe) root.snapshots >>= λ x. Ok root

-- what the record and the root say of themselves
abbrev pub own_checks : Record → Root → Result (Unit {0}) Obstacle
own_checks cluster root = known_ids root (safe_number cluster.safe) cluster.term >>= λ x. has_term cluster.term

-- they can be opened, as far as they say
pub record IsFit (cluster : Record) (root : Root) : Type 0 where
  pub numbers : AreNumbers cluster.pending cluster.safe cluster.term
  pub rules : IsRoot root
  pub checked : own_checks cluster root ≡ Ok tt

-- ---- the ops that stay open

abbrev pub is_delete : OpWork → Bool
is_delete (works.Create info) = false
is_delete (works.Clone info source) = false
is_delete (works.Delete uuids) = true
is_delete works.Cleanup = false

-- the deletes alone, numbered from n on
abbrev pub kept_ops : ℕ → List RecordOp → List RecordOp
kept_ops n [] = []
kept_ops n (o ∷ ops) = if is_delete o.work then record { op = n; work = o.work } ∷ kept_ops (suc n) ops else kept_ops n ops

-- what each of them deletes
abbrev pub kept_of : Record → List (List ℕ)
kept_of r = kept_deletes (map op_of r.ops)

-- the list of ops that has them alone
abbrev pub plan_of : Record → Plan
plan_of r = kept_plan (kept_of r)

-- there is room for ops beside them
abbrev pub AreFew : Record → Type 0
AreFew r = suc (length (kept_of r)) ≤ 2 ^ 61

-- ---- the swap

-- the record of the next term: of the ops that were open the deletes alone stay, numbered anew
abbrev pub next_term : Record → Record
next_term r = record { ops = kept_ops 1 r.ops; pending = r.pending; safe = r.safe; term = r.term + 1 }

abbrev pub text_of : Record → Bytes
text_of r = cluster_kind.text (cluster_of r)

abbrev pub term_text : Record → Bytes
term_text r = text_of (next_term r)

-- all is as it was, or the record has this text
abbrev pub MayHave : Option Held → Bytes → Held → Type 0
MayHave before text i = (before ≡ Some i) ⊎ ((j : Held) × (before ≡ Some j) × (i ≡ with_text j text))

-- the swap wasn't answered
abbrev pub NotBegun : {F : Type 0} → Look → Look → ℕ → ℕ → OpenRefusal F → Type 0
NotBegun before after old_faults new_faults refusals.Memory = IsAsBefore before after
NotBegun before after old_faults new_faults (refusals.DepotFault fetch) = HasCause old_faults new_faults true
NotBegun before after old_faults new_faults (refusals.Damaged name why) = ⊥
NotBegun before after old_faults new_faults (refusals.TermsSpent term) = ⊥
