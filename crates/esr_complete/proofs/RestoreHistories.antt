-- What the whole history tells of restores, and that none is open where no unit is ready and no ticket is out.
use Rattle.std.proofs.Common.{◌≡◌, ℕ, suc, ◌<◌, ◌≤◌, true, true≢false, List, [], ◌∷◌, ◌++◌, Some, append_assoc, append-nil, refl, sym, ap, subst, inl, inr, arith}
use Rattle.std.specs.FinMap as fin
use Rattle.esr_model.specs.Values.{Has, RootData, ClusterRecord, IndexRef, Formats}
use Rattle.esr_model.specs.Places.{places}
use Rattle.esr_model.specs.Kept.{first_id, Kept}
use Rattle.esr_model.specs.Shelf.{Shelved}
use Rattle.esr_model.specs.Image.{Blobs, Image}
use Rattle.esr_core.specs.World.{World, ReadState, Unread, BeingRead, RestoreShard, Restoring, Reader, opened, Opened, OpenedEmpty, OpenedRecord, no_record, no_root}
use Rattle.esr_core.specs.Restores.{waits}
use Rattle.esr_core.specs.ReadTracked.{RestoresTracked}
use Rattle.esr_core.specs.Ready.{AnyReady, ARestore}
use Rattle.esr_core.specs.Entry.{Entry, Moment}
use Rattle.esr_core.specs.After.{after}
use Rattle.esr_core.specs.History.{world_from, IsLegal, AreTold}
use Rattle.esr_core.specs.Laws.Histories.{legal_parts, told_parts}
use Rattle.esr_core.specs.Laws.Maps.{nothing}
use Rattle.esr_core.specs.Laws.RestoreMaps.{one_waits}
use Rattle.esr_desk.specs.Start.{Start, formats_of, world_of}
use Rattle.esr_report.specs.Replies.{read_shard}
use Rattle.esr_quiet.specs.Refusals.{AreByRule}
use Rattle.esr_quiet.specs.Smooth.{IsSmooth, NoneFailed, NoneUndeleted, NoneUnrestored}
use Rattle.esr_complete.specs.Lines.{entries_of}
use Rattle.esr_complete.specs.Answers.{IsIdle}
use Rattle.esr_complete.proofs.Following.{FollowsIn}
use Rattle.esr_complete.proofs.Stale.{IsStaleIn}
use Rattle.esr_complete.proofs.Steps.{follows_step}
use Rattle.esr_complete.proofs.RestoreTickets.{IsRestored}
use Rattle.esr_complete.proofs.FollowingRestores.{AskedRestore, opens, RestoresIn}
use Rattle.esr_complete.proofs.RestoreSteps.{IsOrdered, restores_step}
use Rattle.esr_complete.proofs.Histories.{Laws, read_opened, reader_out, AreCalm, all_calm, calm_then, AreSafe, all_safe, safe_here, safe_then, follows_start}

-- ---- each world of the history is in order

below_or_same : (a b : ℕ) → a < b → a ≤ b
below_or_same a b less = omega (arith, less)

ordered_by : Laws → (f : Formats) (size : ℕ) (first : Image) (shelf : List Shelved) (w : World) (log : List Moment) → Kept f first shelf → Opened f first w → IsLegal f size w log → AreTold log → IsOrdered (world_from f w log)
ordered_by laws f size first shelf w log kept start legal told =
    let law = laws.lawful f size first shelf w log kept start legal told in
    let reads = laws.restores_kept f size shelf w log (laws.opening f first shelf w kept start) (read_opened laws f first w start) legal told in
    record { tracked = reads.tracked; below = below_or_same (world_from f w log).next_id (first_id (suc (world_from f w log).term)) law.in_term.below }

-- and so is each that a history passes
abbrev AreOrdered : Formats → World → List Moment → Type 0
AreOrdered f w log = (front back : List Moment) → log ≡ front ++ back → IsOrdered (world_from f w front)

all_ordered : Laws → (f : Formats) (size : ℕ) (first : Image) (shelf : List Shelved) (w : World) (log : List Moment) → Kept f first shelf → Opened f first w → IsLegal f size w log → AreTold log → AreOrdered f w log
all_ordered laws f size first shelf w log kept start legal told front back is =
    ordered_by laws f size first shelf w front kept start (legal_parts f size front back w (subst (IsLegal f size w) is legal)).0 (told_parts front back (subst AreTold is told)).0

-- ---- from the opened world on

restores_opened : (blobs : Blobs) (cluster : ClusterRecord) (root : RootData) → RestoresIn (opened blobs cluster root) []
restores_opened blobs cluster root =
    record {
      unended = λ k q e out. refl;
      fresh = λ k le. refl;
      untaken = λ y le. refl;
      shards = λ o r s e m. absurd (nothing o r e);
      asked = λ e a has opened p m. absurd has;
    }

restores_start : (f : Formats) (image : Image) (w : World) → Opened f image w → RestoresIn w []
restores_start f image w (OpenedEmpty none) = restores_opened image.blobs no_record no_root
restores_start f image w (OpenedRecord cluster text root is reads root_is) = restores_opened image.blobs cluster root

restores_history : (f : Formats) (size : ℕ) (log : List Moment) (w : World) (es : List Entry) → FollowsIn w es → RestoresIn w es → IsLegal f size w log → AreCalm f w log → AreSafe f w es log → NoneUnrestored log → AreOrdered f w log
    → RestoresIn (world_from f w log) (es ++ entries_of log)
restores_history f size [] w es h r legal calm safe none ordered = subst (RestoresIn w) (sym (append-nil es)) r
restores_history f size (m ∷ log) w es h r legal calm safe none ordered =
    subst (RestoresIn (world_from f (after f w m) log)) (append_assoc es (m.entry ∷ []) (entries_of log))
    (restores_history f size log (after f w m) (es ++ m.entry ∷ []) (follows_step f size w es h m legal.0 (calm [] log m refl) (safe_here f w es (m ∷ log) safe))
    (restores_step (IsStaleIn w m.entry.who) f size w es r (ordered [] (m ∷ log) refl) h.live m legal.0 (calm [] log m refl) (λ why from is. none m why (inl refl) from is)) legal.1 (calm_then f w m log calm) (safe_then f w es m log safe)
    (λ n why has. none n why (inr has)) (λ front back is. ordered (m ∷ front) back (ap (λ (l : List Moment). m ∷ l) is)))

smooth_ordered : Laws → (s : Start) (log : List Moment) → IsSmooth s log → AreOrdered (formats_of s) s.world log
smooth_ordered laws s log smooth = all_ordered laws (formats_of s) s.part_size smooth.image smooth.shelf s.world log smooth.kept smooth.opened smooth.legal smooth.told

-- what the whole history tells
restores_all : Laws → (s : Start) (log : List Moment) → IsSmooth s log → NoneFailed log → NoneUndeleted s log → NoneUnrestored log → AreByRule s log → RestoresIn (world_of s log) (entries_of log)
restores_all laws s log smooth none undeleted unrestored by_rule =
    restores_history (formats_of s) s.part_size log s.world [] (follows_start (formats_of s) smooth.image s.world smooth.opened) (restores_start (formats_of s) smooth.image s.world smooth.opened) smooth.legal
    (all_calm s log none by_rule undeleted) (all_safe laws s log smooth) unrestored (smooth_ordered laws s log smooth)

-- ---- no restore is open at the end

-- a restore with no ticket out has a shard that is ready
restore_ready : (w : World) (o : ℕ) (r : Restoring) → RestoresTracked w.next_op w.next_ticket w.restores w.readers → fin.get w.restores o ≡ Some r → ((k : ℕ) (q : Reader) → fin.get w.readers k ≡ Some q → q.out ≡ true → ⊥)
    → AnyReady w
restore_ready w o r t there none_out =
    let (s, m, waiting) = one_waits r.shards (t.waiting o r there) in
    ready s m s.state refl waiting
  where
    ready : (s : RestoreShard) → Has r.shards s → (state : ReadState) → s.state ≡ state → waits state ≡ true → AnyReady w
    ready s m Unread is waiting = ARestore o r s (record { there = there; s_there = m; unread = is })
    ready s m (BeingRead k) is waiting = let h = t.held o r s k there m is in absurd (none_out k h.q h.there h.out)
    ready s m state is waiting = absurd (true≢false (sym waiting))

none_open_at : Laws → (s : Start) (log : List Moment) → IsSmooth s log → IsIdle s log → (o : ℕ) (r : Restoring) → fin.get (world_of s log).restores o ≡ Some r → ⊥
none_open_at laws s log smooth idle o r there =
    idle.none_ready
    (restore_ready (world_of s log) o r (smooth_ordered laws s log smooth log [] (sym (append-nil log))).tracked there
    (λ k q e out. reader_out (fin.get (world_of s log).readers k) q (idle.no_reader k) e out))

-- so each shard of each restore that was accepted was restored
pub all_restored : Laws → (s : Start) (log : List Moment) → IsSmooth s log → NoneFailed log → NoneUndeleted s log → NoneUnrestored log → AreByRule s log → IsIdle s log → (e : Entry) (a : AskedRestore) → Has (entries_of log) e
    → opens e.reply ≡ Some a
    → (p : IndexRef × ℕ) → Has (places a.indices) p → IsRestored (entries_of log) (read_shard a.op a.uuid p)
all_restored laws s log smooth none undeleted unrestored by_rule idle e a has opened p m = elim ((restores_all laws s log smooth none undeleted unrestored by_rule).asked e a has opened p m) [
  | inl stands ↦ absurd (none_open_at laws s log smooth idle a.op stands.r stands.there)
  | inr restored ↦ restored
]
