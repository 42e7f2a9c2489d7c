-- The files of a target whose restore wasn't ended well, and which target is given back.
use Rattle.std.proofs.Common.{◌≡◌, ◌⊎◌, inl, inr, ℕ, zero, suc, false, List, [], ◌∷◌, ◌++◌, append-nil, take, map, Option, Some, None, IfSome, option_map, refl, sym, ap, ◌∙◌, subst}
use Rattle.esr_names.specs.declared.blob.ShardId.{ShardId}
use Rattle.esr_model.specs.Values.{Bytes, FileEntry}
use Rattle.esr_model.specs.Image.{AllPairs}
use Rattle.esr_core.specs.World.{Reader}
use Rattle.esr_core.specs.Entry.{OfTarget, ReadFails, ReadStep, Refusal, Moment}
use Rattle.esr_source.specs.declared.address.Address.{Address}
use Rattle.esr_source.specs.Told.{TargetTold}
use Rattle.esr_shardidx.specs.declared.entry.FileEntry.{FileEntry as CodeEntry}
use Rattle.esr_shardidx.specs.Snapshots.{SnapValue}
use Rattle.esr_formats.specs.Shards.{entry_of, shard_snap_of}
use Rattle.esr_desk.specs.declared.hand.Hand.TheVariants as hands
use Rattle.esr_desk.specs.declared.entry.Why.{Why}
use Rattle.esr_desk.specs.declared.entry.Why.TheVariants as whys
use Rattle.esr_desk.specs.declared.fault.By.{By}
use Rattle.esr_desk.specs.declared.target.RestoredTarget.{RestoredTarget}
use Rattle.esr_desk.specs.declared.refusal.StepRefusal.{StepRefusal}
use Rattle.esr_desk.specs.declared.unit.UnitRefusal.{UnitRefusal}
use Rattle.esr_desk.specs.declared.unit.UnitRefusal.TheVariants as units
use Rattle.esr_desk.specs.Refusals.{told_refusal}
use Rattle.esr_desk.specs.Start.{Start}
use Rattle.esr_desk.specs.Own.{Own, reader_of}
use Rattle.esr_desk.specs.Outcome.{Refusing}
use Rattle.esr_desk.specs.Evidence.{Evidence}
use Rattle.esr_desk.specs.Restore.First.{IsRestoredAs, AreFirst, HasFirst}
use Rattle.esr_desk.specs.Restore.Shown.{IsFor}
use Rattle.esr_unit.specs.declared.ending.Ending.TheVariants as endings
use Rattle.esr_unit.specs.Fail.{GivenUp, IsReported}
use Rattle.esr_restore.specs.Files.{IsFile, RestoredAll}
use Rattle.esr_restore.specs.Left.{WasReportRefused, IsLeft}
use Rattle.esr_restore.specs.Snapped.{IsAt, HasSnap}
use Rattle.esr_restore.specs.Worked.{Worked}
use Rattle.esr_restore.specs.Pairs.{pairs_map}
use Rattle.esr_restore.proofs.Pairs.{pairs_of_map}
use Rattle.esr_restore.proofs.Listing.{FirstFiles, stands_more}
use Rattle.esr_restore.proofs.Finishing.{stands_own}

-- ---- the files that were ended

-- the entries after the first k
after : (es : List CodeEntry) (k : ℕ) → (rest : List FileEntry) × (map entry_of es ≡ map entry_of (take k es) ++ rest)
after es zero = (map entry_of es, refl)
after [] (suc k) = ([], refl)
after (e ∷ es) (suc k) = let more = after es k in (more.0, ap (λ (l : List FileEntry). entry_of e ∷ l) more.1)

again : (held : List (Bytes × Bytes)) (o files : Option (List (Bytes × Bytes))) → files ≡ option_map (λ _. held) o → files ≡ option_map (λ _. held) files
again held None files is = subst (λ (f : Option (List (Bytes × Bytes))). f ≡ option_map (λ _. held) f) (sym is) refl
again held (Some fs) files is = subst (λ (f : Option (List (Bytes × Bytes))). f ≡ option_map (λ _. held) f) (sym is) refl

held_first : (s : Start) (q : Reader) (at : ShardId) (uuid : ℕ) (snap : SnapValue) (es : List CodeEntry) (rest : List FileEntry) (held : List (Bytes × Bytes)) (files_old files : Option (List (Bytes × Bytes)))
    → IsAt q at.index.number at.number uuid → HasSnap s q snap
    → map entry_of snap.files ≡ map entry_of es ++ rest → AllPairs (IsFile s q at) es held → files ≡ option_map (λ _. held) files_old → HasFirst s q files
held_first s q at uuid snap es rest held files_old files is_at read is each are = record {
  entries = map entry_of es;
  first = inr (record { snap = shard_snap_of snap; snap_read = read; rest = rest; is = is });
  held = held;
  each = pairs_of_map entry_of (IsRestoredAs s q) es held
      (pairs_map (IsFile s q at) (λ (e : CodeEntry) (file : Bytes × Bytes). IsRestoredAs s q (entry_of e) file)
      (λ e file h. (h.0, λ tells. stands_own s q at uuid is_at tells (entry_of e) file.1 (h.1 tells))) es held each);
  are = again held files_old files are;
}

-- a new target has none
pub first_none : (s : Start) (q : Reader) (files : Option (List (Bytes × Bytes))) → IfSome files (λ fs. fs ≡ []) → HasFirst s q files
first_none s q files empty = record { entries = []; first = inl refl; held = []; each = tt; are = none files empty }
  where
    none : (o : Option (List (Bytes × Bytes))) → IfSome o (λ fs. fs ≡ []) → o ≡ option_map (λ _. []) o
    none None h = refl
    none (Some fs) h = ap (λ (l : List (Bytes × Bytes)). Some l) h

-- the next file wasn't ended
pub first_files : (s : Start) (a b : Reader) (at : ShardId) (uuid : ℕ) (snap : SnapValue) (k : ℕ) (files_old files_mid files_new : Option (List (Bytes × Bytes))) → Worked a b → IsAt b at.index.number at.number uuid → HasSnap s b snap
    → FirstFiles s a at snap.files k files_old files_mid → files_new ≡ files_mid → HasFirst s b files_new
first_files s a b at uuid snap k files_old files_mid files_new worked is_at read so same =
    let rest = after snap.files k in
    held_first s b at uuid snap (take k snap.files) rest.0 so.held files_old files_new is_at read rest.1
    (pairs_map (IsFile s a at) (IsFile s b at) (stands_more s a b at worked) (take k snap.files) so.held so.each) (same ∙ so.are)

-- all files were ended
pub first_all : (s : Start) (q : Reader) (at : ShardId) (uuid : ℕ) (snap : SnapValue) (files_old files : Option (List (Bytes × Bytes))) → IsAt q at.index.number at.number uuid → HasSnap s q snap
    → RestoredAll s q at snap.files files_old files → HasFirst s q files
first_all s q at uuid snap files_old files is_at read all =
    held_first s q at uuid snap snap.files [] all.held files_old files is_at read (sym (append-nil (map entry_of snap.files))) all.each all.are

-- ---- where the ticket has ended

of_ended : (q : Reader) (address : Address) → IsFor q address → IsFor (record q { out = false }) address
of_ended q address of = record { place = of.place; index = of.index; number = of.number }

are_first_ended : (s : Start) (q : Reader) (entries : List FileEntry) → (entries ≡ []) ⊎ AreFirst s q entries → (entries ≡ []) ⊎ AreFirst s (record q { out = false }) entries
are_first_ended s q entries (inl none) = inl none
are_first_ended s q entries (inr so) = inr (record { snap = so.snap; snap_read = so.snap_read; rest = so.rest; is = so.is })

first_ended : (s : Start) (q : Reader) (files : Option (List (Bytes × Bytes))) → HasFirst s q files → HasFirst s (record q { out = false }) files
first_ended s q files h = record {
  entries = h.entries;
  first = are_first_ended s q h.entries h.first;
  held = h.held;
  each = pairs_map (IsRestoredAs s q) (IsRestoredAs s (record q { out = false })) (λ e file one. (one.0, one.1)) h.entries h.held h.each;
  are = h.are;
}

-- ---- which target is given back

-- the report that the target failed was refused
pub report_refused : (s : Start) (old new : List Moment) (who : ℕ) (refusal : Option Refusal) → Refusing s old new who (ReadStep (ReadFails OfTarget)) refusal → WasReportRefused new who refusal
report_refused s old new who None h = tt
report_refused s old new who (Some refusal) h = record { front = h.front; image = h.image; is = h.is }

module _ {T : Type 0} (told : T → TargetTold) (s : Start) (old : Reader) (target : T) (of : IsFor old (told target).made_for) (first : HasFirst s old (told target).files) where
  abbrev IsGiven : Reader → Type 0
  IsGiven q = IsFor q (told target).made_for × HasFirst s q (told target).files

  -- the ticket has ended, or is out still
  given_ended : (log : List Moment) (who : ℕ) (refusal : UnitRefusal) → reader_of s log who ≡ record old { out = false } → IsLeft told s log who refusal (Some target)
  given_ended log who refusal is = subst IsGiven (sym is) (of_ended old (told target).made_for of, first_ended s old (told target).files first)

  pub given_out : (log : List Moment) (who : ℕ) (refusal : UnitRefusal) → reader_of s log who ≡ old → IsLeft told s log who refusal (Some target)
  given_out log who refusal is = subst IsGiven (sym is) (of, first)

-- the end of the ticket was refused, which gave the target back
pub left_unended : {T : Type 0} (told : T → TargetTold) (s : Start) (q : Reader) (log : List Moment) (who : ℕ) (refusal : UnitRefusal) (made unended : RestoredTarget T) (given : Option T) → IsFor q (told made.target).made_for
    → HasFirst s q (told made.target).files
    → reader_of s log who ≡ q → unended ≡ made → given ≡ Some unended.target → IsLeft told s log who refusal given
left_unended {T} told s q log who refusal made unended given of first same back is =
    subst (λ (o : Option T). IsLeft told s log who refusal o) (sym (is ∙ ap (λ (r : RestoredTarget T). Some r.target) back)) (given_out told s q made.target of first log who refusal same)

-- it failed for something else
pub left_given : {S F H T : Type 0} (e : Evidence S F H T) (s : Start) (old new : List Moment) (who : ℕ) (target : T) → IsFor (reader_of s old who) (e.target target).made_for → HasFirst s (reader_of s old who) (e.target target).files
    → (why : Why) (b : By S F H T) (result : UnitRefusal) → GivenUp hands.Restore e s old new who (endings.Failed why b) result → IsLeft e.target s new who result (Some target)
left_given e s old new who target of first why b (units.Failed reason) h = given_ended e.target s (reader_of s old who) target of first new who (units.Failed reason) (ap (λ (o : Own). o.reader) h.1)
left_given e s old new who target of first why b (units.Stopped refusal) h = given_out e.target s (reader_of s old who) target of first new who (units.Stopped refusal) (ap (λ (o : Own). o.reader) h.same)
left_given e s old new who target of first why b units.Stale h = absurd h

-- the target failed
pub left_taken : {S F H T : Type 0} (e : Evidence S F H T) (s : Start) (old new : List Moment) (who : ℕ) (b : By S F H T) (result : UnitRefusal) → GivenUp hands.Restore e s old new who (endings.Failed whys.Target b) result
    → IsReported hands.Restore s old new who (endings.Failed whys.Target b) result → IsLeft e.target s new who result None
left_taken e s old new who b (units.Failed reason) h report = h.0
left_taken e s old new who b (units.Stopped refusal) h report = report_refused s old new who (told_refusal refusal) report
left_taken e s old new who b units.Stale h report = absurd h

-- the unit was stopped, and none is given back
pub stopped_left : {T : Type 0} (told : T → TargetTold) (s : Start) (log : List Moment) (who : ℕ) (refusal : StepRefusal) (result : UnitRefusal) (target : Option T) → result ≡ units.Stopped refusal → target ≡ None
    → WasReportRefused log who (told_refusal refusal) → IsLeft told s log who result target
stopped_left {T} told s log who refusal result target is none h =
    subst (λ (r : UnitRefusal). IsLeft told s log who r target) (sym is) (subst (λ (o : Option T). IsLeft told s log who (units.Stopped refusal) o) (sym none) h)
