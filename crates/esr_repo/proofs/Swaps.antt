-- Entries of steps that swap the cluster record.
use Rattle.std.proofs.Common.{◌≡◌, ◌⊎◌, ℕ, ◌≤◌, Bool, true, false, List, [], ◌∷◌, Option, Some, None, Ok, Err, refl, sym, ap, ◌∙◌, subst, inl, inr, nat_cmp, true≢false}
use Rattle.std.specs.Prelude.{option_map, if◌then◌else◌}
use Rattle.std.specs.Option.{unwrap_or}
use Rattle.std.specs.Cmp.{eq_by_cmp_equiv}
use Rattle.std.specs.Cmp.Lexicographic.{slice_cmp, nat_list_cmp_total}
use Rattle.std.specs.FinMap.{nat_cmp-IsAntisymmetric, slice_cmp-IsAntisymmetric}
use Rattle.std.specs.FinMap as fin
use Rattle.std.proofs.lemmas.Option.{same_Some}
use Rattle.esr_core.specs.Laws.NumberMaps.{some_none, tied}
use Rattle.esr_model.specs.Values.{Bytes, ReadsBack, Formats}
use Rattle.esr_model.specs.Uploads.{same_bytes}
use Rattle.esr_model.specs.Image.{Image}
use Rattle.esr_core.specs.World.{World, Ticket, Swap, swap, record_of}
use Rattle.esr_core.specs.Entry.{Clone, DeleteSnapshots, Step, AskStep, RaiseStep, SettleStep, DroppedStep, ElectStep, Prune, SettlePruned, PruneStep, Reply, HasEnded, Refused, DepotFault, Entry, Moment, Restore}
use Rattle.esr_core.specs.After.{with_given, done_step, swaps_record, text_is, has_text, settled_by, settled_of, dropped_of, delete_settled_by, delete_settled, fallen, faulted, answered, blobs_in, after}
use Rattle.esr_core.specs.Allowed.{Accepts, Raises, AcceptsClone, PruneAllows, SettlingDelete, SettleDeleteFails, Allows, SameBlobs, Told, Allowed}
use Rattle.esr_core.specs.Allowed as allowed
use Rattle.esr_core.specs.Left.{Leaves}
use Rattle.esr_core.specs.Laws.DeleteAsks.{delete_leaves}
use Rattle.esr_root.specs.Root.{Root}
use Rattle.esr_record.specs.Record.{Record}
use Rattle.esr_meta.specs.Info.{Info}
use Rattle.esr_depot.specs.declared.error.CallError.{CallError}
use Rattle.esr_depot.specs.declared.error.CallError.TheVariants.{Failed}
use Rattle.esr_depot.specs.Image.{Image as Held, with_text, swap_known}
use Rattle.esr_depot.specs.Look.{Look, now}
use Rattle.esr_depot.specs.Calls.{Passed, Called}
use Rattle.esr_depot.specs.Changes.{Swapped, SwapMay}
use Rattle.esr_core.specs.Laws.Asides.{blobs_stay}
use Rattle.esr_formats.specs.Roots.{root_of}
use Rattle.esr_formats.specs.Clusters.{cluster_of, cluster_kind}
use Rattle.esr_ops.specs.Plan.{Plan, IsPlanOf}
use Rattle.esr_desk.specs.Start.{Start, formats_of, world_of}
use Rattle.esr_repo.specs.Log.{image_of, asks_container, calls}
use Rattle.esr_repo.specs.Repo.{Kept, TellsSo, HasInfos, IsSteady}
use Rattle.esr_repo.specs.May.{CanTell, Same, is_refused, swapped_world, infos_after, MaySwap}
use Rattle.esr_repo.proofs.Logs.{goes_passed, image_now}
use Rattle.esr_repo.proofs.Repos.{cluster_is, plan_aside, infos_aside, kept_now, steady_now, can_tell, text_same, added_repo}
use Rattle.esr_repo.proofs.BlobCalls.{Before, Pushed, IsCall, Made, more_is, made, failed_is, held_of, told_of}
use Rattle.esr_repo.specs.Next.{GoesOn}

-- ---- the steps

swap_asks : (step : Step) → swaps_record step ≡ true → asks_container step ≡ true
swap_asks (AskStep command) h = h
swap_asks RaiseStep h = refl
swap_asks SettleStep h = refl
swap_asks DroppedStep h = refl
swap_asks ElectStep h = refl
swap_asks (PruneStep SettlePruned) h = refl
swap_asks step h = absurd (true≢false (sym h))

-- it calls the container
swap_calls : (step : Step) (reply : Reply) → swaps_record step ≡ true → is_refused reply ≡ false → calls step reply ≡ true
swap_calls step (Refused refusal) h a = absurd (true≢false a)
swap_calls step reply h a = swap_asks step h

module _ (f : Formats) (w : World) (who : ℕ) where
  done_is : (step : Step) (reply : Reply) (image : Option Image) → swaps_record step ≡ true → done_step f w who step reply image ≡ done_step f w who step HasEnded None
  done_is (AskStep (Restore name place)) reply image h = absurd (true≢false (sym h))
  done_is (AskStep command) reply image h = refl
  done_is RaiseStep reply image h = refl
  done_is SettleStep reply image h = refl
  done_is DroppedStep reply image h = refl
  done_is ElectStep reply image h = refl
  done_is (PruneStep SettlePruned) reply image h = refl
  done_is step reply image h = absurd (true≢false (sym h))

  -- it leads to one world, whatever it answers
  answered_is : (step : Step) (reply : Reply) (image : Option Image) → swaps_record step ≡ true → is_refused reply ≡ false → answered f w who step reply image ≡ done_step f w who step HasEnded None
  answered_is step (Refused refusal) image h a = absurd (true≢false a)
  answered_is step reply image h a = done_is step reply image h

  -- or to one of two, where it failed
  faulted_is : (step : Step) (image : Option Image) → swaps_record step ≡ true → faulted f w who step image ≡ fallen f w (done_step f w who step HasEnded None) image
  faulted_is (AskStep (Restore name place)) image h = absurd (true≢false (sym h))
  faulted_is (AskStep command) image h = refl
  faulted_is RaiseStep image h = refl
  faulted_is SettleStep image h = refl
  faulted_is DroppedStep image h = refl
  faulted_is ElectStep image h = refl
  faulted_is (PruneStep SettlePruned) image h = refl
  faulted_is step image h = absurd (true≢false (sym h))

  given_live : (g : Ticket → Ticket) (o : Option Ticket) → (with_given w who g o).deposed ≡ w.deposed
  given_live g None = refl
  given_live g (Some t) = refl

  settled_live_by : (t : Ticket) (change : Option Swap) (n : Option ℕ) → (settled_by f w who t change n).deposed ≡ w.deposed
  settled_live_by t (Some x) (Some n) = refl
  settled_live_by t change n = refl

  settled_live : (o : Option Ticket) → (settled_of f w who o).deposed ≡ w.deposed
  settled_live None = refl
  settled_live (Some t) = settled_live_by t (swap f t) t.raised

  delete_settled_live_by : (t : Ticket) (change : Option Swap) (n : Option ℕ) → (delete_settled_by f w who t change n).deposed ≡ w.deposed
  delete_settled_live_by t (Some x) (Some n) = refl
  delete_settled_live_by t change n = refl

  delete_settled_live : (o : Option Ticket) → (delete_settled f w who o).deposed ≡ w.deposed
  delete_settled_live None = refl
  delete_settled_live (Some t) = delete_settled_live_by t (swap f t) t.raised

  dropped_live : (o : Option Ticket) → (dropped_of w who o).deposed ≡ w.deposed
  dropped_live None = refl
  dropped_live (Some t) = refl

  swapped_live : (step : Step) → swaps_record step ≡ true → (done_step f w who step HasEnded None).deposed ≡ w.deposed
  swapped_live (AskStep (DeleteSnapshots names)) h = ap (λ (v : World). v.deposed) (delete_leaves w names)
  swapped_live (AskStep (Clone source name indices moment None)) h = refl
  swapped_live (AskStep (Restore name place)) h = absurd (true≢false (sym h))
  swapped_live (AskStep command) h = refl
  swapped_live RaiseStep h = given_live (λ t. record t { raised = Some w.pending }) (fin.get w.tickets who)
  swapped_live SettleStep h = settled_live (fin.get w.tickets who)
  swapped_live DroppedStep h = dropped_live (fin.get w.tickets who)
  swapped_live ElectStep h = refl
  swapped_live (PruneStep SettlePruned) h = delete_settled_live (fin.get w.tickets who)
  swapped_live step h = absurd (true≢false (sym h))

-- where it may be answered it may fail
prune_may_fail : {f : Formats} {w : World} {who : ℕ} {prune : Prune} {reply : Reply} {image : Option Image} → PruneAllows f w who prune reply image → swaps_record (PruneStep prune) ≡ true → is_refused reply ≡ false
    → SameBlobs w image → PruneAllows f w who prune (Refused DepotFault) image
prune_may_fail (SettlingDelete k im s present same) h a is = SettleDeleteFails k im s present is
prune_may_fail other h a is = absurd cc

may_fail : {f : Formats} {part_size : ℕ} {w : World} {who : ℕ} {step : Step} {reply : Reply} {image : Option Image} → Allows f part_size w who step reply image → swaps_record step ≡ true → is_refused reply ≡ false
    → SameBlobs w image → Allows f part_size w who step (Refused DepotFault) image
may_fail {f} {part_size} {w} (allowed.Accepting name indices moment o im acc same) h a is = allowed.AskFails name indices moment im (subst (λ n. Accepts f w name indices moment n) acc.number acc) is
may_fail {f} {part_size} {w} (allowed.OpeningClone source name names moment o what im acc same) h a is = allowed.AskCloneFails source name names moment what im (subst (λ n. AcceptsClone f w source name names moment n what im) acc.number acc) is
may_fail (allowed.GoingInto names im acc same) h a is = allowed.AskDeleteFails names im acc is
may_fail (allowed.OpeningCleanup im acc same) h a is = allowed.AskCleanupFails im acc is
may_fail {f} {part_size} {w} (allowed.Raising k n im r same) h a is = allowed.RaiseFails k im (subst (λ n. Raises f w k n) r.n_is r) is
may_fail (allowed.Settling k im r same) h a is = allowed.SettleFails k im r is
may_fail (allowed.Dropping k im r same) h a is = allowed.DropFails k im r is
may_fail (allowed.Electing im room same) h a is = allowed.ElectFails im room is
may_fail (allowed.Pruning k prune reply im p) h a is = allowed.Pruning k prune (Refused DepotFault) im (prune_may_fail p h a is)
may_fail other h a is = absurd cc

-- ---- the image

-- the image stays told or untold, its blobs stay, and the record has its old text or the new one
record Swapping (old new : Option Held) (text : Bytes) : Type 0 where
  untold : old ≡ None → new ≡ None
  told : (i : Held) → old ≡ Some i → (j : Held) × (new ≡ Some j) × (j.blobs ≡ i.blobs) × ((j.text ≡ Some text) ⊎ (j.text ≡ i.text))

swapping_new : (old new : Option Held) (text : Bytes) → new ≡ swap_known old text → Swapping old new text
swapping_new old new text e =
    record { untold = λ n. e ∙ ap (λ (o : Option Held). swap_known o text) n; told = λ i is. (with_text i text, e ∙ ap (λ (o : Option Held). swap_known o text) is, refl, inl refl) }

swapping_by : (old new : Option Held) (text : Bytes) → SwapMay text old new → Swapping old new text
swapping_by old new text (inl same) = record { untold = λ n. same ∙ n; told = λ i is. (i, same ∙ is, refl, inr refl) }
swapping_by old new text (inr e) = swapping_new old new text e

-- an image that is told was told before
was_held : (old new : Option Held) (text : Bytes) → Swapping old new text → (j : Held) → new ≡ Some j → (i : Held) × (old ≡ Some i) × (j.blobs ≡ i.blobs) × ((j.text ≡ Some text) ⊎ (j.text ≡ i.text))
was_held old new text h j e = go old refl
  where
    go : (o : Option Held) → old ≡ o → (i : Held) × (old ≡ Some i) × (j.blobs ≡ i.blobs) × ((j.text ≡ Some text) ⊎ (j.text ≡ i.text))
    go None n = absurd (some_none j (sym e ∙ h.untold n))
    go (Some i) n =
        let x = h.told i n in
        let same : x.0 ≡ j = same_Some x.0 j (sym x.1 ∙ e) in
        (i, n, subst (λ (y : Held). (y.blobs ≡ i.blobs)) same x.2, subst (λ (y : Held). (y.text ≡ Some text) ⊎ (y.text ≡ i.text)) same x.3)

swapping_tells : (old new : Look) (tells : Bool) (text : Bytes) → TellsSo old tells → Swapping (now old) (now new) text → TellsSo new tells
swapping_tells old new tells text t h = record { untold = λ n. go (now old) refl n; told = λ j e. let x = was_held (now old) (now new) text h j e in t.told x.0 x.1 }
  where
    go : (o : Option Held) → now old ≡ o → now new ≡ None → tells ≡ false
    go None e n = t.untold e
    go (Some i) e n = absurd (some_none (h.told i e).0 (sym (h.told i e).1 ∙ n))

-- ---- which of the two worlds it is

same_is : (a b : Bytes) → same_bytes a b ≡ true → a ≡ b
same_is a b e = slice_cmp-IsAntisymmetric nat_cmp-IsAntisymmetric a b (tied (slice_cmp nat_cmp a b) e)

same_refl : (a : Bytes) → same_bytes a a ≡ true
same_refl a = (eq_by_cmp_equiv nat_list_cmp_total).refl a

-- the world's record has the text that the image has
text_fits : (f : Formats) (up w : World) (text : Bytes) (b : Bool) → same_bytes text (f.cluster.text (record_of up)) ≡ b
    → (text ≡ f.cluster.text (record_of up)) ⊎ (text ≡ f.cluster.text (record_of w)) → text ≡ f.cluster.text (record_of (if b then up else w))
text_fits f up w text true e is = same_is text (f.cluster.text (record_of up)) e
text_fits f up w text false e (inl new) = absurd (true≢false (sym (same_refl text) ∙ ap (same_bytes text) new ∙ e))
text_fits f up w text false e (inr old) = old

text_fallen : (f : Formats) (up w : World) (image : Image) (text : Bytes) → image.text ≡ Some text
    → (text ≡ f.cluster.text (record_of up)) ⊎ (text ≡ f.cluster.text (record_of w)) → image.text ≡ Some (f.cluster.text (record_of (fallen f w up (Some image))))
text_fallen f up w image text is which =
    let new : Bytes = f.cluster.text (record_of up) in
    let b : Bool = has_text (Some image) new in
    is ∙ ap Some (text_fits f up w text b (sym (ap (λ o. text_is o new) is)) which)

back_either : (up w : World) (b : Bool) → ReadsBack cluster_kind (record_of up) → ReadsBack cluster_kind (record_of w) → ReadsBack cluster_kind (record_of (if b then up else w))
back_either up w true p q = p
back_either up w false p q = q

-- what is kept after a swap that was answered
pub record Renews (k : Kept) (cluster : Record) (root : Option Root) (left : Option (List Info)) (info : Option Info) (plan : Option Plan) (next : ℕ) (k' : Kept) : Type 0 where
  pub cluster_new : k'.cluster ≡ cluster
  pub root_new : k'.root ≡ unwrap_or root k.root
  pub infos_new : k'.infos ≡ infos_after left info k.infos
  pub plan_new : k'.plan ≡ unwrap_or plan k.plan
  pub next_new : k'.next ≡ next

-- ---- the call

module _ {old : Look} {s : Start} {clock : ℕ} {es : List Entry} {k : Kept} {d : Option ℕ} {seen : List Moment} (b : Before old s clock es k d seen) (new : Look)
    (who : ℕ) (step : Step) (reply : Reply) (cluster : Record) (root : Option Root) (left : Option (List Info)) (info : Option Info)
    (plan : Option Plan) (next : ℕ) (m : MaySwap s seen who step reply cluster root left info plan next) (goes : GoesOn s seen who step)
    (text : Bytes) (text_of : text ≡ cluster_kind.text (cluster_of cluster)) (back : ReadsBack cluster_kind (cluster_of cluster)) where
  steady : IsSteady s seen old
  steady = steady_now old s clock es k d seen b.repo b.view

  blobs_are : (i : Held) → now old ≡ Some i → i.blobs ≡ (world_of s seen).blobs
  blobs_are i e = ap (λ (x : Image). x.blobs) (steady.image i e)

  abbrev was : World
  was = world_of s seen

  abbrev up : World
  up = swapped_world s seen who step

  cluster_text : (w : World) → (formats_of s).cluster.text (record_of w) ≡ cluster_kind.text (record_of w)
  cluster_text w = ap (λ kind. kind.text (record_of w)) (cluster_is s)

  -- the text that is put is that of the new world's record
  text_up : text ≡ (formats_of s).cluster.text (record_of up)
  text_up = text_of ∙ ap (λ r. cluster_kind.text r) m.cluster_is ∙ sym (cluster_text up)

  back_up : ReadsBack cluster_kind (record_of up)
  back_up = subst (λ r. ReadsBack cluster_kind r) m.cluster_is back

  told_blobs : (o : Option Held) → Swapping (now old) o text → Told (option_map image_of o) (Same s seen)
  told_blobs o h = told_of o (Same s seen) (λ j e. let x = was_held (now old) o text h j e in x.2 ∙ blobs_are x.0 x.1)

  tell_of : (o : Option Held) → Swapping (now old) o text → CanTell s (option_map image_of o)
  tell_of o h = can_tell s o (λ j e. let x = was_held (now old) o text h j e in b.repo.tells.told x.0 x.1)

  -- ---- the image that it leaves where it fails, or is cut off

  abbrev bad_entry : Entry
  bad_entry = record { who = who; step = step; reply = Refused DepotFault }

  module _ (o : Option Held) where
    abbrev bad_moment : Moment
    bad_moment = record { entry = bad_entry; image = option_map image_of o }

    bad_world : answered (formats_of s) was who step (Refused DepotFault) (option_map image_of o) ≡ fallen (formats_of s) was up (option_map image_of o)
    bad_world = faulted_is (formats_of s) was who step (option_map image_of o) m.swaps

    bad_record : record_of (after (formats_of s) was bad_moment) ≡ record_of (fallen (formats_of s) was up (option_map image_of o))
    bad_record = ap record_of bad_world

    bad_text : Swapping (now old) o text → (image : Image) → option_map image_of o ≡ Some image → image.text ≡ Some ((formats_of s).cluster.text (record_of (after (formats_of s) was bad_moment)))
    bad_text h image e =
        let x = held_of o image e in
        let y = was_held (now old) o text h x.0 x.1 in
        let old_text : y.0.text ≡ Some ((formats_of s).cluster.text (record_of was)) = text_same s seen old steady (image_of y.0) (ap (option_map image_of) y.1) in
        let here : image.text ≡ x.0.text = ap (λ (z : Image). z.text) (sym x.2) in
        by here y.3 old_text
        ∙ ap (λ (i : Option Image). Some ((formats_of s).cluster.text (record_of (fallen (formats_of s) was up i)))) (sym e)
        ∙ ap (λ r. Some ((formats_of s).cluster.text r)) (sym bad_record)
      where
        by : {now_text was_text : Option Bytes} → image.text ≡ now_text → (now_text ≡ Some text) ⊎ (now_text ≡ was_text) → was_text ≡ Some ((formats_of s).cluster.text (record_of was))
            → image.text ≡ Some ((formats_of s).cluster.text (record_of (fallen (formats_of s) was up (Some image))))
        by here (inl new_one) old_text = text_fallen (formats_of s) up was image text (here ∙ new_one) (inl text_up)
        by here (inr old_one) old_text = text_fallen (formats_of s) up was image ((formats_of s).cluster.text (record_of was)) (here ∙ old_one ∙ old_text) (inr refl)

    bad_allowed : Swapping (now old) o text → Allowed (formats_of s) s.part_size was bad_moment
    bad_allowed h =
        record {
          answered = inl (b.live, may_fail (m.allows (option_map image_of o) (tell_of o h) (told_blobs o h)) m.swaps m.answers (told_blobs o h));
          aborted = λ by live x. absurd (goes.unaborted by x);
          once = λ live. goes.fresh;
          record_back =
              subst (λ kind. ReadsBack kind (record_of (after (formats_of s) was bad_moment))) (sym (cluster_is s))
              (subst (λ r. ReadsBack cluster_kind r) (sym bad_record) (back_either up was (has_text (option_map image_of o) ((formats_of s).cluster.text (record_of up))) back_up steady.record_back));
          text = bad_text h;
        }

  swap_cut : (given : Reply) (image : Option Image) (i : Held) → SwapMay text (now old) (Some i)
      → Leaves (formats_of s) s.part_size was (record { entry = record { who = who; step = step; reply = given }; image = image } ∷ []) (image_of i)
  swap_cut given image i may = inr (inl (bad_allowed (Some i) (swapping_by (now old) (Some i) text may)))

  swap_since : (given : Reply) → Passed old new (SwapMay text) → (t : ℕ) (i : Held) → t ≤ old.clock → new.since t i
      → old.since t i ⊎ Leaves (formats_of s) s.part_size was (record { entry = record { who = who; step = step; reply = given }; image = image_now new } ∷ []) (image_of i)
  swap_since given passed t i le h = elim (passed.since t i le h) [ inl before ↦ inl before | inr may ↦ inr (swap_cut given (image_now new) i may) ]

  -- ---- it was answered

  abbrev ok_entry : Entry
  ok_entry = record { who = who; step = step; reply = reply }

  abbrev ok_moment : Moment
  ok_moment = record { entry = ok_entry; image = image_now new }

  ok_world : answered (formats_of s) was who step reply (image_now new) ≡ up
  ok_world = answered_is (formats_of s) was who step reply (image_now new) m.swaps m.answers

  ok_record : record_of (after (formats_of s) was ok_moment) ≡ record_of up
  ok_record = ap record_of ok_world

  ok_text : now new ≡ swap_known (now old) text → (image : Image) → image_now new ≡ Some image → image.text ≡ Some ((formats_of s).cluster.text (record_of (after (formats_of s) was ok_moment)))
  ok_text is image e =
      let x = held_of (now new) image e in
      let y = was_held (now old) (now new) text (swapping_new (now old) (now new) text is) x.0 x.1 in
      let holds : x.0 ≡ with_text y.0 text = same_Some x.0 (with_text y.0 text) (sym x.1 ∙ is ∙ ap (λ (o : Option Held). swap_known o text) y.1) in
      ap (λ (z : Image). z.text) (sym x.2) ∙ ap (λ (z : Held). z.text) holds ∙ ap Some (text_up ∙ ap (λ r. (formats_of s).cluster.text r) (sym ok_record))

  ok_call : (x : Unit {0}) → Called old new (λ _. Swapped text) (SwapMay text) (Ok x) → IsCall old new s seen ok_entry
  ok_call x c =
      let is : now new ≡ swap_known (now old) text = c.done in
      let h = swapping_new (now old) (now new) text is in
      record {
        goes = goes_passed old new (SwapMay text) ok_entry (swap_calls step reply m.swaps m.answers) (c.passed refl);
        tells = swapping_tells old new s.tells text b.repo.tells h;
        allowed =
            record {
              answered = inl (b.live, m.allows (image_now new) (tell_of (now new) h) (told_blobs (now new) h));
              aborted = λ by live x. absurd (goes.unaborted by x);
              once = λ live. goes.fresh;
              record_back = subst (λ kind. ReadsBack kind (record_of (after (formats_of s) was ok_moment))) (sym (cluster_is s)) (subst (λ r. ReadsBack cluster_kind r) (sym ok_record) back_up);
              text = ok_text is;
            };
        own = goes.own;
        left = swap_since reply (c.passed refl);
      }

  pub swap_ok : (x : Unit {0}) → Called old new (λ _. Swapped text) (SwapMay text) (Ok x) → (mid es' : List Entry) → Pushed es mid es' ok_entry → (k' : Kept) → Renews k cluster root left info plan next k'
      → Made old new s clock es es' k' d seen ok_entry
  swap_ok x c mid es' p k' new_one =
      let more = more_is es mid es' ok_entry p in
      let kept = kept_now old s clock es k d seen b.repo b.view b.live in
      let call = ok_call x c in
      let w : World = answered (formats_of s) was who step reply (image_now new) in
      let plan_up : IsPlanOf up k'.plan = subst (λ q. IsPlanOf up q) (sym new_one.plan_new) (m.plan_is k.plan kept.1.plan) in
      made old new s clock es es' k k' d d seen ok_entry b more call
      (added_repo old new s clock es es' k k' d d seen ok_entry b.laws b.repo b.view call.goes call.tells more call.allowed call.own
      (λ none. (
        ap (λ (y : World). y.deposed) ok_world ∙ swapped_live (formats_of s) was who step m.swaps ∙ b.live,
        record {
          cluster = ap cluster_of new_one.cluster_new ∙ m.cluster_is ∙ sym ok_record;
          root = ap root_of new_one.root_new ∙ m.root_is k.root kept.1.root ∙ ap (λ (y : World). y.root) (sym ok_world);
          plan = plan_aside w (blobs_in (image_now new) was.blobs) w.deposed (after (formats_of s) was ok_moment).caller (after (formats_of s) was ok_moment).entries k'.plan (subst (λ (y : World). IsPlanOf y k'.plan) (sym ok_world) plan_up);
          next = new_one.next_new ∙ m.next_is ∙ ap (λ (y : World). y.next_id) (sym ok_world);
        },
        subst (HasInfos s (after (formats_of s) was ok_moment)) (sym new_one.infos_new)
            (infos_aside s (record up { blobs = was.blobs }) (after (formats_of s) was ok_moment) (infos_after left info k.infos)
            (ap (λ (y : World). y.root) ok_world) (ap (λ (y : World). y.tickets) ok_world) (blobs_stay was (image_now new) (told_blobs (now new) (swapping_new (now old) (now new) text c.done)))
            (m.infos_are k.infos kept.2)),
      ))
      (λ place n. absurd (some_none place (sym n ∙ kept.0))))

  -- ---- it failed

  bad_call : (error : CallError) → error ≡ Failed → Called {T = Unit {0}} old new (λ _. Swapped text) (SwapMay text) (Err error) → IsCall old new s seen bad_entry
  bad_call error is c =
      let g = failed_is {T = Unit {0}} old new (λ _. Swapped text) (SwapMay text) error is c in
      let h = swapping_by (now old) (now new) text g.1 in
      record {
        goes = goes_passed old new (SwapMay text) bad_entry refl g.0;
        tells = swapping_tells old new s.tells text b.repo.tells h;
        allowed = bad_allowed (now new) h;
        own = goes.own;
        left = swap_since (Refused DepotFault) g.0;
      }

  pub swap_fault : (error : CallError) → error ≡ Failed → Called {T = Unit {0}} old new (λ _. Swapped text) (SwapMay text) (Err error) → (mid es' : List Entry) → Pushed es mid es' bad_entry → (place : ℕ)
      → Made old new s clock es es' k (Some place) seen bad_entry
  swap_fault error is c mid es' p place =
      let more = more_is es mid es' bad_entry p in
      let call = bad_call error is c in
      made old new s clock es es' k k d (Some place) seen bad_entry b more call
      (added_repo old new s clock es es' k k d (Some place) seen bad_entry b.laws b.repo b.view call.goes call.tells more call.allowed call.own
      (λ none. absurd (some_none place none))
      (λ other n. ap (λ (y : World). y.deposed) (bad_world (now new))))
