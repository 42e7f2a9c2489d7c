-- Where no restore was asked none is open, and none has a ticket.
use Rattle.std.proofs.Common.{◌≡◌, ◌≢◌, ℕ, zero, suc, ◌<◌, ◌≤◌, List, [], ◌∷◌, ◌++◌, append_assoc, Option, Some, None, refl, sym, ap, ◌∙◌, subst, inl, inr, arith}
use Rattle.std.specs.FinMap as fin
use Rattle.esr_model.specs.Names.{BlobName}
use Rattle.esr_model.specs.Values.{Bytes, Has, Formats}
use Rattle.esr_model.specs.Kept.{first_id}
use Rattle.esr_model.specs.Image.{Image}
use Rattle.esr_model.specs.Lists.{Has-left}
use Rattle.esr_core.specs.World.{World, ReadState, Restored, NotRestored, Restoring, Reader, Opened, OpenedEmpty, OpenedRecord}
use Rattle.esr_core.specs.Entry.{Restore, GivenRestore, Read, ReadBlob, RestoredShard, DrawTest, CommitTest, ReadFails, Step, AskStep, TakeStep, ReadStep, DepotFault, Reply, Gave, DrawnFrom, WasDone, WasFetched, Refused, Moment}
use Rattle.esr_core.specs.After.{taken_restore, told_blob, read_told, read_over, read_step, read_by, test_left, faulted, answered, after}
use Rattle.esr_core.specs.Allowed.{Allowed}
use Rattle.esr_core.specs.History.{world_from, IsLegal}
use Rattle.esr_core.specs.Laws.Asides.{blocked_stays}
use Rattle.esr_core.specs.Ids.{InTerm}
use Rattle.esr_core.specs.Laws.RestoreFrames.{goes_answered}
use Rattle.esr_core.specs.Laws.Makers.{maker}
use Rattle.esr_desk.specs.Start.{Start, formats_of, world_of}
use Rattle.esr_quiet.specs.Smooth.{IsSmooth, NoneAsked, NoneUnrestored}
use Rattle.esr_quiet.specs.Prefixes.{Prefixes}
use Rattle.esr_quiet.specs.Askers.{AsksOrElects, made_zero}
use Rattle.esr_core.specs.Laws.NumberMaps.{nothing}
use Rattle.esr_quiet.specs.PrefixLaws.{legal_front, place_of, quiet_at, legal_at}
use Rattle.esr_quiet.proofs.Restores.{reading_at}

-- no restore is open, and none has a ticket
record HasNone (w : World) : Type 0 where
  restores : w.restores ≡ fin.empty
  readers : w.readers ≡ fin.empty

-- the step asks no restore
abbrev AsksNone : Step → Type 0
AsksNone step = (name place : Bytes) → step ≢ AskStep (Restore name place)

-- the next id is one of the term
abbrev HasRoom : World → Type 0
HasRoom w = w.next_id ≤ first_id (suc w.term)

none_over : (w : World) → HasNone w → (k : ℕ) (state : ReadState) (q : Option Reader) → fin.get w.readers k ≡ q → HasNone (read_over w k state q)
none_over w n k state None is = n
none_over w n k state (Some q) is = absurd (nothing w.readers k q n.readers is)

none_told : (w : World) → HasNone w → (k : ℕ) (name : BlobName) (bytes : Option Bytes) (q : Option Reader) → fin.get w.readers k ≡ q → HasNone (read_told w k name bytes q)
none_told w n k name bytes None is = n
none_told w n k name bytes (Some q) is = absurd (nothing w.readers k q n.readers is)

none_given : (w : World) → HasNone w → (o index number : ℕ) (r : Option Restoring) → fin.get w.restores o ≡ r → HasNone (taken_restore w o index number r)
none_given w n o index number None is = n
none_given w n o index number (Some r) is = absurd (nothing w.restores o r n.restores is)

none_read : (f : Formats) (w : World) → HasNone w → (k : ℕ) (read : Read) (reply : Reply) (image : Option Image) → HasNone (read_step f w k read reply image)
none_read f w n k (ReadBlob name) WasFetched image = none_told w n k name (told_blob f image name) (fin.get w.readers k) refl
none_read f w n k (RestoredShard files bytes) reply image = none_over w n k (Restored files bytes) (fin.get w.readers k) refl
none_read f w n k (ReadFails why) reply image = none_over w n k (NotRestored why) (fin.get w.readers k) refl
none_read f w n k read reply image = n

none_read_by : (f : Formats) (w : World) → HasNone w → (k : ℕ) (read : Read) (reply : Reply) (image : Option Image) → HasNone (read_by f w k read reply image)
none_read_by f w n zero DrawTest (DrawnFrom first) image = record { restores = n.restores; readers = n.readers }
none_read_by f w n zero (CommitTest name) WasDone image = record { restores = n.restores; readers = n.readers }
none_read_by f w n zero read reply image = n
none_read_by f w n (suc k) read reply image = none_read f w n (suc k) read reply image

none_left : (w : World) → HasNone w → (name : BlobName) (was now : Option Bytes) → HasNone (test_left w name was now)
none_left w n name None (Some bytes) = record { restores = n.restores; readers = n.readers }
none_left w n name was now = n

none_fault : (f : Formats) (w : World) → HasNone w → (k : ℕ) (read : Read) (image : Option Image) → HasNone (faulted f w k (ReadStep read) image)
none_fault f w n k (CommitTest name) image = none_left w n name (fin.get w.blobs (f.names.text name)) (told_blob f image name)
none_fault f w n k read image = n

none_reads : (f : Formats) (w : World) → HasNone w → (k : ℕ) (read : Read) (reply : Reply) (image : Option Image) → HasNone (answered f w k (ReadStep read) reply image)
none_reads f w n k read (Refused DepotFault) image = none_fault f w n k read image
none_reads f w n k read (Refused refusal) image = n
none_reads f w n k read reply image = none_read_by f w n k read reply image

none_answered : (f : Formats) (w : World) → HasRoom w → HasNone w → (who : ℕ) (step : Step) (reply : Reply) (image : Option Image) → AsksNone step → HasNone (answered f w who step reply image)
none_answered f w room n who (AskStep (Restore name place)) reply image asks = absurd (asks name place refl)
none_answered f w room n who (ReadStep read) reply image asks = none_reads f w n who read reply image
none_answered f w room n who TakeStep (Gave k o (GivenRestore index number uuid)) image asks = none_given w n o index number (fin.get w.restores o) refl
none_answered f w room n who step reply image asks = let g = goes_answered f w room who step reply image tt in record { restores = g.restores ∙ n.restores; readers = g.readers ∙ n.readers }

none_after : (f : Formats) (w : World) → HasRoom w → HasNone w → (m : Moment) → AsksNone m.entry.step → HasNone (after f w m)
none_after f w room n m asks = let h = none_answered f w room n m.entry.who m.entry.step m.entry.reply m.image asks in record { restores = h.restores; readers = h.readers }

none_one : (f : Formats) (size : ℕ) (w : World) → HasRoom w → HasNone w → (m : Moment) → Allowed f size w m → ((name place : Bytes) → m.entry.who ≡ 0 → m.entry.step ≢ AskStep (Restore name place)) → HasNone (after f w m)
none_one f size w room n m a asks = elim (maker f size w m a) [
  | inl made ↦ none_after f w room n m (λ name place e. asks name place (made_zero w m.entry.who m.entry.step made (subst AsksOrElects (sym e) tt)) e)
  | inr blocked ↦ subst HasNone (sym (blocked_stays f w m blocked)) (record { restores = n.restores; readers = n.readers })
]

none_history : (f : Formats) (size : ℕ) (log : List Moment) (w : World) → HasNone w → IsLegal f size w log → ((front back : List Moment) → log ≡ front ++ back → HasRoom (world_from f w front)) → NoneAsked log
    → HasNone (world_from f w log)
none_history f size [] w n legal rooms asks = n
none_history f size (m ∷ log) w n legal rooms asks =
    none_history f size log (after f w m) (none_one f size w (rooms [] (m ∷ log) refl) n m legal.0 (λ name place. asks m name place (inl refl))) legal.1
    (λ front back is. rooms (m ∷ front) back (ap (λ (l : List Moment). m ∷ l) is)) (λ x name place h. asks x name place (inr h))

none_opened : (f : Formats) (image : Image) (w : World) → Opened f image w → HasNone w
none_opened f image w (OpenedEmpty none) = record { restores = refl; readers = refl }
none_opened f image w (OpenedRecord cluster text root there reads is) = record { restores = refl; readers = refl }

room_of : (w : World) → InTerm w → HasRoom w
room_of w h = let below : w.next_id < first_id (suc w.term) = h.below in omega (arith, below)

module _ (s : Start) (log : List Moment) (smooth : IsSmooth s log) (prefixes : Prefixes s log) (asks : NoneAsked log) where
  none_at : (front back : List Moment) → log ≡ front ++ back → HasNone (world_of s front)
  none_at front back is =
      none_history (formats_of s) s.part_size front s.world (none_opened (formats_of s) smooth.image s.world smooth.opened)
      (legal_front (formats_of s) s.part_size front back s.world (subst (IsLegal (formats_of s) s.part_size s.world) is smooth.legal))
      (λ a b e. room_of (world_of s a) (prefixes.lawful a (b ++ back) (is ∙ ap (λ (l : List Moment). l ++ back) e ∙ append_assoc a b back)).1.in_term)
      (λ m name place h. asks m name place (subst (λ (l : List Moment). Has l m) (sym is) (Has-left front back m h)))

  pub none_unasked : NoneUnrestored log
  none_unasked m why has some step reply =
      let p = place_of log m has in
      let w : World = world_of s p.front in
      let at = reading_at (formats_of s) s.part_size w m why (quiet_at s log smooth p.front (m ∷ p.back) p.is).present (legal_at s log smooth p.front p.back m p.is) step reply some in
      nothing w.readers m.entry.who at.0 (none_at p.front (m ∷ p.back) p.is).readers at.1.there
