-- The images of a run.
use Rattle.std.proofs.Common.{◌≡◌, ◌⊎◌, ℕ, Bool, List, [], ◌∷◌, ◌++◌, Option, Some, is_some, inl, inr, ⊎_elim, refl, sym, ap, ◌∙◌, subst, append_assoc}
use Rattle.esr_model.specs.Values.{Formats, ReadsBack}
use Rattle.esr_model.specs.Image.{Image}
use Rattle.esr_model.specs.Shelf.{Shelved, shelf_after}
use Rattle.esr_model.specs.Kept.{Kept as IsKept}
use Rattle.esr_core.specs.World.{World, record_of, Opened, OpenedEmpty, OpenedRecord}
use Rattle.esr_core.specs.World as core
use Rattle.esr_core.specs.Entry.{Entry, Moment}
use Rattle.esr_core.specs.After.{after as world_after}
use Rattle.esr_core.specs.History.{world_from, IsLegal, AreTold, committed}
use Rattle.esr_core.specs.Left.{Leaves, safe_of, safe_by, safe_in}
use Rattle.esr_depot.specs.Image.{Image as Held}
use Rattle.esr_depot.specs.Look.{Look, now}
use Rattle.esr_root.specs.Root.{Root}
use Rattle.esr_record.specs.Record.{Record}
use Rattle.esr_formats.specs.Formats.{formats}
use Rattle.esr_formats.specs.Clusters.{cluster_kind}
use Rattle.esr_desk.specs.Start.{Start, world_of}
use Rattle.esr_opening.specs.Opening.{image_of, Kept, world_in, IsLeftOf, IsOpening, IsAsBefore, SwapFailed, IsOpenRefused}
use Rattle.esr_opening.specs.declared.refusal.OpenRefusal.{OpenRefusal}
use Rattle.esr_opening.specs.declared.refusal.OpenRefusal.TheVariants as refusals
use Rattle.esr_repo.specs.Log.{image_at, tick, ticks, log_from, log_of}
use Rattle.esr_repo.specs.Grown.{world_step}
use Rattle.esr_repo.specs.Past.{IsPast}
use Rattle.esr_run.specs.Start.{Telling, known_by, told_by, formats_by, start_of, LegalRun}
use Rattle.esr_run.specs.Images.{Holds, StaysKept, EveryImageKept, EveryImageWhole, SnapshotsOfSources, AnsweredStay}
use Rattle.esr_run.specs.Told.{EndKept}
use Rattle.esr_run.specs.Laws.{Laws}
use Rattle.esr_run.specs.Worlds.{opened_image, some_same}

-- ---- no command was carried out

kept_again : (f : Formats) (before : Look) (shelf : List Shelved) (h : Holds f before shelf) (i : Held) → now before ≡ Some i → IsKept f (image_of i) shelf
kept_again f before shelf h i e = subst (λ (x : Held). IsKept f (image_of x) shelf) (some_same h.image i (sym h.told ∙ e)) h.kept

pub untouched_kept : (f : Formats) (l : Look) → ((i : Held) → l.since l.clock i → now l ≡ Some i) → StaysKept f l l
untouched_kept f l only shelf h i left = kept_again f l shelf h i (only i left)

as_before_kept : (f : Formats) (before after : Look) → IsAsBefore before after → StaysKept f before after
as_before_kept f before after same shelf h i left = kept_again f before shelf h i (same.left.each i left)

-- the record of the opened world can be written
pub back_of : (files : Telling) (w : World) → ReadsBack cluster_kind (record_of w) → ReadsBack (formats_by files).cluster (record_of w)
unfolding formats
back_of files w back = back

-- what a crash in the opening leaves
left_by_opening : (files : Telling) (before : Look) (cluster : Record) (root : Root) (i : Held) → IsLeftOf (now before) cluster root i
    → (now before ≡ Some i) ⊎ (image_of i ≡ core.image_of (formats_by files) (world_in (now before) cluster root))
left_by_opening files before cluster root i (inl same) = inl same
left_by_opening files before cluster root i (inr (j, is, with)) = inr (ap image_of with ∙ opened_image files (now before) cluster root j is)

-- the image of the opened world is kept for the same shelf
opened_kept : (laws : Laws) (f : Formats) (image : Image) (shelf : List Shelved) (w : World) → IsKept f image shelf → Opened f image w → ReadsBack f.cluster (record_of w) → IsKept f (core.image_of f w) shelf
opened_kept laws f image shelf w kept opened back = laws.kept f w shelf (laws.lawful f image shelf w kept opened) back

swap_failed_kept : (laws : Laws) (files : Telling) (before after : Look) → SwapFailed before after → StaysKept (formats_by files) before after
swap_failed_kept laws files before after s shelf h i left =
    let w : World = world_in (now before) s.cluster s.root in
    ⊎_elim (λ same. kept_again (formats_by files) before shelf h i same)
    (λ is. subst (λ (x : Image). IsKept (formats_by files) x shelf) (sym is)
    (opened_kept laws (formats_by files) (image_of h.image) shelf w h.kept (s.opens h.image (known_by files) (told_by files) h.told) (back_of files w s.order.record_back)))
    (left_by_opening files before s.cluster s.root i (s.left.each i left))

pub refused_kept : {F : Type 0} (laws : Laws) (files : Telling) (count : F → ℕ) (before after : Look) (old_faults new_faults : ℕ) (refusal : OpenRefusal F)
    → IsOpenRefused count before after old_faults new_faults refusal → StaysKept (formats_by files) before after
refused_kept laws files count before after old_faults new_faults refusals.Memory r = as_before_kept (formats_by files) before after r
refused_kept laws files count before after old_faults new_faults (refusals.DepotFault fetch) r = ⊎_elim (λ same. as_before_kept (formats_by files) before after same) (λ failed. swap_failed_kept laws files before after failed) r.1
refused_kept laws files count before after old_faults new_faults refusal r = as_before_kept (formats_by files) before after r.0

-- ---- the safe roots of an image

safe_opened : (f : Formats) (image : Image) (w : World) → Opened f image w → safe_in f image ≡ w.safe
safe_opened f image w (OpenedEmpty none) = ap (safe_by f) none
safe_opened f image w (OpenedRecord cluster text root there reads is) = ap (safe_by f) there ∙ ap safe_of reads

safe_image : (f : Formats) (w : World) → ReadsBack f.cluster (record_of w) → safe_in f (core.image_of f w) ≡ w.safe
safe_image f w back = ap safe_of back

-- ---- commands were carried out

leaves_here : (f : Formats) (part_size : ℕ) (w : World) (log : List Moment) (i : Image) → i ≡ core.image_of f w → Leaves f part_size w log i
leaves_here f part_size w [] i e = e
leaves_here f part_size w (m ∷ log) i e = inl e

-- what holds of a history that began in the opened world of a kept image
pub record Ran (f : Formats) (part_size : ℕ) (image : Image) (shelf : List Shelved) (w : World) (log : List Moment) : Type 0 where
  pub kept : IsKept f image shelf
  pub opened : Opened f image w
  pub back : ReadsBack f.cluster (record_of w)
  pub legal : IsLegal f part_size w log
  pub told : AreTold log

left_kept : (laws : Laws) (f : Formats) (part_size : ℕ) (image : Image) (shelf : List Shelved) (w : World) (log : List Moment) → Ran f part_size image shelf w log → (i : Image) → Leaves f part_size w log i
    → IsKept f i (shelf_after shelf (committed f (safe_in f i) w log))
left_kept laws f part_size image shelf w log r i leaves = laws.left f part_size image shelf w log i r.kept r.opened r.back r.legal r.told leaves

-- in the image of the entry no command counts
entry_kept : (laws : Laws) (f : Formats) (part_size : ℕ) (image : Image) (shelf : List Shelved) (w : World) (log : List Moment) → Ran f part_size image shelf w log
    → IsKept f image (shelf_after shelf (committed f (safe_in f image) w log))
entry_kept laws f part_size image shelf w log r =
    let here : IsKept f (core.image_of f w) shelf = opened_kept laws f image shelf w r.kept r.opened r.back in
    let there : IsKept f (core.image_of f w) (shelf_after shelf (committed f (safe_in f (core.image_of f w)) w log)) =
    left_kept laws f part_size image shelf w log r (core.image_of f w) (leaves_here f part_size w log (core.image_of f w) refl) in
    let same : shelf ≡ shelf_after shelf (committed f (safe_in f (core.image_of f w)) w log) = laws.one_shelf f (core.image_of f w) shelf (shelf_after shelf (committed f (safe_in f (core.image_of f w)) w log)) here there in
    let safe : safe_in f (core.image_of f w) ≡ safe_in f image = safe_image f w r.back ∙ sym (safe_opened f image w r.opened) in
    subst (IsKept f image) (same ∙ ap (λ (n : ℕ). shelf_after shelf (committed f n w log)) safe) r.kept

-- the world that was opened, and what was told at the start
abbrev pub world_at : (before mid : Look) (k : Kept) → IsOpening before mid k → World
world_at before mid k o = world_in (now before) o.cluster o.root

abbrev pub start_at : (files : Telling) (size : ℕ) (quiet : Bool) (before mid : Look) (k : Kept) → IsOpening before mid k → Start
start_at files size quiet before mid k o = start_of files size quiet before (world_at before mid k o)

pub ran : (files : Telling) (size : ℕ) (quiet : Bool) (before mid after : Look) (k : Kept) (history : List Entry) (o : IsOpening before mid k)
    → LegalRun (start_at files size quiet before mid k o) mid.clock after history → IsPast (start_at files size quiet before mid k o) mid.clock mid.since after history
    → (shelf : List Shelved) (h : Holds (formats_by files) before shelf) → Ran (formats_by files) size (image_of h.image) shelf (world_at before mid k o) (log_of after mid.clock history)
ran files size quiet before mid after k history o run past shelf h =
    record {
      kept = h.kept;
      opened = o.opens h.image (known_by files) (told_by files) h.told;
      back = back_of files (world_at before mid k o) o.order.record_back;
      legal = run.legal;
      told = past.told (ap is_some h.told);
    }

pub every_image_kept : (laws : Laws) (files : Telling) (size : ℕ) (quiet : Bool) (before mid after : Look) (k : Kept) (history : List Entry) (o : IsOpening before mid k)
    → LegalRun (start_at files size quiet before mid k o) mid.clock after history → IsPast (start_at files size quiet before mid k o) mid.clock mid.since after history
    → EveryImageKept (formats_by files) (world_at before mid k o) (log_of after mid.clock history) before after
every_image_kept laws files size quiet before mid after k history o run past shelf h i left =
    ⊎_elim
    (λ was. ⊎_elim
    (λ same. subst (λ (x : Held). IsKept f (image_of x) (shelf_after shelf (committed f (safe_in f (image_of x)) w log))) (some_same h.image i (sym h.told ∙ same))
    (entry_kept laws f size (image_of h.image) shelf w log r))
    (λ is. left_kept laws f size (image_of h.image) shelf w log r (image_of i) (leaves_here f size w log (image_of i) is))
    (left_by_opening files before o.cluster o.root i (o.left.each i was)))
    (λ leaves. left_kept laws f size (image_of h.image) shelf w log r (image_of i) leaves)
    (past.before before.clock i o.left.later left)
  where
    f : Formats
    f = formats_by files

    w : World
    w = world_at before mid k o

    log : List Moment
    log = log_of after mid.clock history

    r : Ran f size (image_of h.image) shelf w log
    r = ran files size quiet before mid after k history o run past shelf h

pub every_image_whole : (laws : Laws) (files : Telling) (size : ℕ) (quiet : Bool) (before mid after : Look) (k : Kept) (history : List Entry) (o : IsOpening before mid k)
    → LegalRun (start_at files size quiet before mid k o) mid.clock after history → IsPast (start_at files size quiet before mid k o) mid.clock mid.since after history → EveryImageWhole (formats_by files) before after
every_image_whole laws files size quiet before mid after k history o run past shelf h i left =
    let f : Formats = formats_by files in
    let now_on : List Shelved = shelf_after shelf (committed f (safe_in f (image_of i)) (world_at before mid k o) (log_of after mid.clock history)) in
    laws.whole f (image_of i) now_on (every_image_kept laws files size quiet before mid after k history o run past shelf h i left)

-- ---- the files of the snapshots

pub snapshots_of_sources : (laws : Laws) (files : Telling) (size : ℕ) (quiet : Bool) (before mid after : Look) (k : Kept) (history : List Entry) (o : IsOpening before mid k)
    → LegalRun (start_at files size quiet before mid k o) mid.clock after history → IsPast (start_at files size quiet before mid k o) mid.clock mid.since after history
    → SnapshotsOfSources (formats_by files) (world_at before mid k o) (log_of after mid.clock history) before
snapshots_of_sources laws files size quiet before mid after k history o run past shelf h t =
    let f : Formats = formats_by files in
    let w : World = world_at before mid k o in
    let log : List Moment = log_of after mid.clock history in
    let r : Ran f size (image_of h.image) shelf w log = ran files size quiet before mid after k history o run past shelf h in
    record {
      given = laws.sourced f size (image_of h.image) shelf w log t.known t.honest r.kept r.opened r.legal r.told;
      counted = laws.counted f size (image_of h.image) shelf w log t.known t.honest r.kept r.opened r.legal r.told;
    }

-- ---- the image at the end

pub leaves_last : (f : Formats) (part_size : ℕ) (w : World) (log : List Moment) → Leaves f part_size w log (core.image_of f (world_from f w log))
leaves_last f part_size w [] = refl
leaves_last f part_size w (m ∷ log) = inr (inr (leaves_last f part_size (world_after f w m) log))

pub end_kept : (laws : Laws) (files : Telling) (size : ℕ) (quiet : Bool) (before mid after : Look) (k : Kept) (history : List Entry) (o : IsOpening before mid k)
    → LegalRun (start_at files size quiet before mid k o) mid.clock after history → IsPast (start_at files size quiet before mid k o) mid.clock mid.since after history
    → EndKept (formats_by files) (world_at before mid k o) (log_of after mid.clock history) before after
end_kept laws files size quiet before mid after k history o run past shelf h i now_is =
    let f : Formats = formats_by files in
    let w : World = world_at before mid k o in
    let log : List Moment = log_of after mid.clock history in
    left_kept laws f size (image_of h.image) shelf w log (ran files size quiet before mid after k history o run past shelf h) (image_of i) (subst (Leaves f size w log) (sym (run.image i now_is)) (leaves_last f size w log))

-- ---- settles that were answered

ticks_on : (t : ℕ) (front : List Entry) (e : Entry) → ticks t (front ++ e ∷ []) ≡ tick (ticks t front) e
ticks_on t [] e = refl
ticks_on t (x ∷ front) e = ticks_on (tick t x) front e

log_on : (at : ℕ → Option Image) (t : ℕ) (front : List Entry) (e : Entry) (back : List Entry)
    → log_from at t (front ++ e ∷ back) ≡ log_from at t front ++ record { entry = e; image = at (tick (ticks t front) e) } ∷ log_from at (tick (ticks t front) e) back
log_on at t [] e back = refl
log_on at t (x ∷ front) e back = ap (λ (l : List Moment). record { entry = x; image = at (tick t x) } ∷ l) (log_on at (tick t x) front e back)

pub answers_stay : (laws : Laws) (files : Telling) (size : ℕ) (quiet : Bool) (before mid after : Look) (k : Kept) (history : List Entry) (o : IsOpening before mid k)
    → LegalRun (start_at files size quiet before mid k o) mid.clock after history → IsPast (start_at files size quiet before mid k o) mid.clock mid.since after history
    → AnsweredStay (start_at files size quiet before mid k o) mid.clock history after
answers_stay laws files size quiet before mid after k history o run past front back e n split settles i left =
    laws.stays f size w first rest m settles.ticket n (image_of i) o.order.tracked o.order.ranked (subst (IsLegal f size w) log_is run.legal) settles.step settles.answered settles.there settles.raised since
  where
    s : Start
    s = start_at files size quiet before mid k o

    f : Formats
    f = formats_by files

    w : World
    w = world_at before mid k o

    first : List Moment
    first = log_of after mid.clock front

    rest : List Moment
    rest = log_of after (tick (ticks mid.clock front) e) back

    m : Moment
    m = record { entry = e; image = image_at after (tick (ticks mid.clock front) e) }

    log_is : log_of after mid.clock history ≡ first ++ m ∷ rest
    log_is = ap (log_of after mid.clock) split ∙ log_on (image_at after) mid.clock front e back

    world_is : world_of s (log_of after mid.clock (front ++ e ∷ [])) ≡ world_after f (world_of s first) m
    world_is = ap (world_of s) (log_on (image_at after) mid.clock front e []) ∙ world_step s first m

    leaves : Leaves f size (world_of s (log_of after mid.clock (front ++ e ∷ []))) (log_of after (ticks mid.clock (front ++ e ∷ [])) back) (image_of i)
    leaves = past.since (front ++ e ∷ []) back i (split ∙ sym (append_assoc front (e ∷ []) back)) left

    since : Leaves f size (world_after f (world_of s first) m) rest (image_of i)
    since = subst (λ (x : World). Leaves f size x rest (image_of i)) world_is (subst (λ (c : ℕ). Leaves f size (world_of s (log_of after mid.clock (front ++ e ∷ []))) (log_of after c back) (image_of i)) (ticks_on mid.clock front e) leaves)
