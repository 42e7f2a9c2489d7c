-- Marks of the files of an index, one for each: 0 where no list has the file, and else the turn of the last list that has it.
use Rattle.std.specs.Prelude.{◌≡◌, ◌≤◌, ◌+◌, ◌==◌, ◌||◌, not, ℕ, Bool, true, false, if◌then◌else◌, List, [], ◌∷◌, length, slice_get, slice_index, Some, Result, Ok, Err}
use Rattle.std.specs.List.{list_any, list_all}
use Rattle.std.specs.Ordering.{nat_cmp}
use Rattle.std.specs.BTreeSet.{contains}
use Rattle.esr_names.specs.declared.ids.Id.{Id}
use Rattle.esr_json.specs.declared.refusal.Reason.{Reason}
use Rattle.esr_json.specs.declared.refusal.Reason.TheVariants.{Duplicate, Unlisted}
use Rattle.esr_shardidx.specs.Indices.{is_id, repeats, has_file, is_named}
use Rattle.esr_shardidx.specs.declared.entry.FileEntry.{FileEntry}
use Rattle.esr_shardidx.specs.declared.index.SnapList.{SnapList}
use Rattle.esr_shardidx.specs.declared.marks.Named.{Named}

-- the files that pass the test are those with a mark
pub record AreMarked (p : FileEntry → Bool) (files : List FileEntry) (marks : List ℕ) : Type 0 where
  pub len : length marks ≡ length files
  pub at : (i : ℕ) (e : FileEntry) → slice_get files i ≡ Some e → (slice_index marks i == 0) ≡ not (p e)

-- the files with a mark
abbrev pub marked_of : List FileEntry → List ℕ → List FileEntry
marked_of [] ms = []
marked_of (e ∷ es) [] = []
marked_of (e ∷ es) (m ∷ ms) = if m == 0 then marked_of es ms else e ∷ marked_of es ms

-- the list being read has this file
abbrev pub is_among : List Id → FileEntry → Bool
is_among us e = list_any (is_id e.name) us

-- the lists before were read, and of the next one, at this turn, these files
pub record AreMarks (files : List FileEntry) (lists : List SnapList) (us : List Id) (turn : ℕ) (marks : List ℕ) : Type 0 where
  pub any : AreMarked (λ e. is_named lists e || is_among us e) files marks
  pub now : (i : ℕ) (e : FileEntry) → slice_get files i ≡ Some e → (slice_index marks i == turn) ≡ is_among us e
  pub most : (i : ℕ) → slice_index marks i ≤ turn

-- different files that there are
abbrev pub files_checked : List FileEntry → List Id → Result (List Id) Reason
files_checked files us = if repeats us then Err Duplicate else (if list_all (has_file files) us then Ok us else Err Unlisted)

-- what is known of the lists before
pub record IsNamed (files : List FileEntry) (lists : List SnapList) (n : Named) : Type 0 where
  pub uuids : (q : ℕ) → contains nat_cmp n.uuids q ≡ list_any (λ l. l.uuid.number == q) lists
  pub marks : AreMarks files lists [] (length lists + 1) n.marks.items
