-- How a check ends.
use Rattle.std.proofs.Common.{◌≡◌, ◌⊎◌, ⊎_elim, ℕ, true, List, [], ◌∷◌, ◌++◌, append_assoc, length, map, refl, sym, ap, ◌∙◌, subst}
use Rattle.std.proofs.lemmas.List.{length-map}
use Rattle.esr_model.specs.Names.{BlobName}
use Rattle.esr_model.specs.Values.{RootSnap, RootData}
use Rattle.esr_model.specs.Image.{Blobs}
use Rattle.esr_core.specs.World.{World, no_caller}
use Rattle.esr_core.specs.Allowed.{IsChecking, InReach, IsWhole}
use Rattle.esr_core.specs.Entry.{ReadBlob, CheckedAll, ReadFails, LookStep, ReadStep, Looked, HasEnded, DeposedAt, Refused, Moment}
use Rattle.esr_root.specs.declared.snaps.RootSnap.{RootSnap as CodeSnap}
use Rattle.esr_formats.specs.Roots.{root_snap_of}
use Rattle.esr_desk.specs.declared.entry.Why.TheVariants as whys
use Rattle.esr_desk.specs.declared.fault.FailedObject.TheVariants as objects
use Rattle.esr_desk.specs.declared.fault.By.TheVariants as shows
use Rattle.esr_desk.specs.declared.refusal.EntryRefusal.{EntryRefusal}
use Rattle.esr_desk.specs.declared.refusal.EntryRefusal.TheVariants as refusals
use Rattle.esr_desk.specs.declared.refusal.StepRefusal.{StepRefusal}
use Rattle.esr_desk.specs.declared.refusal.StepRefusal.TheVariants as steps
use Rattle.esr_desk.specs.declared.unit.UnitRefusal.{UnitRefusal}
use Rattle.esr_desk.specs.declared.unit.UnitRefusal.TheVariants as units
use Rattle.esr_desk.specs.Entries.{why_of}
use Rattle.esr_desk.specs.Refusals.{refusal_of, told_refusal}
use Rattle.esr_desk.specs.Start.{Start, formats_of, world_of}
use Rattle.esr_desk.specs.Outcome.{Stepped, Refusing, Grounds}
use Rattle.esr_desk.specs.declared.entry.Why.{Why}
use Rattle.esr_desk.specs.Own.{Own, caller_of}
use Rattle.esr_desk.specs.Check.Conditions.{CanEndCheck}
use Rattle.esr_desk.specs.Check.Shown.{AllFetches, IsCheckShown}
use Rattle.esr_desk.specs.declared.hand.Hand.TheVariants as hands
use Rattle.esr_desk.specs.declared.fault.By.{By}
use Rattle.esr_desk.specs.Evidence.{Evidence}
use Rattle.esr_unit.specs.declared.trouble.Trouble.{Trouble}
use Rattle.esr_unit.specs.declared.trouble.Trouble.TheVariants as troubles
use Rattle.esr_unit.specs.declared.ending.Ending.{Ending}
use Rattle.esr_unit.specs.declared.ending.Ending.TheVariants as endings
use Rattle.esr_unit.specs.Ending.{ending_by}
use Rattle.esr_unit.specs.Shown.{Shown as ByUnit}
use Rattle.esr_unit.specs.Fail.{GivenUp, IsReported}
use Rattle.esr_unit.specs.Refusals.{RefusesSo}
use Rattle.esr_check.specs.Names.{IsAny}
use Rattle.esr_check.specs.Began.{HasEndedCheck}
use Rattle.esr_check.specs.Checked.{AreFetched, HasChecked, HasReadAll}
use Rattle.esr_check.specs.Trouble.{IsFetchRefusal, Shown}
use Rattle.esr_check.specs.Went.{IsAlive, IsSoFar, Went}
use Rattle.esr_check.specs.First.{NamesOne, TellsOne, FirstOf}
use Rattle.esr_check.specs.Refused.{EndsFailed, StopsCheck, IsCheckRefused}
use Rattle.esr_check.proofs.Living.{moment_of, stepped_is, world_is, look_alive, look_root, look_snapshots, look_safe, end_blobs, end_safe, in_reach_as}
use Rattle.esr_check.proofs.Counting.{look_so_far}
use Rattle.esr_check.specs.Fetches.{fetched_all}
use Rattle.esr_check.proofs.Refusing.{IsDeposal, IsAbort, HowRefused, refused_so, live_refusal, never_aborted}
use Rattle.esr_check.proofs.Failing.{unreported, ends_failed}

-- ---- the last look of a history

no_look : (b : List Moment) (n : Moment) (ys : List Moment) → AllFetches (b ++ n ∷ ys) → n.entry.step ≡ LookStep → ⊥
no_look [] n ys all looks = let other : ReadStep (ReadBlob all.1.0) ≡ LookStep = sym all.1.1 ∙ looks in cc
no_look (x ∷ b) n ys all looks = no_look b n ys all.2 looks

-- after it the same fetches follow
last_look : (a b : List Moment) (m n : Moment) (xs ys : List Moment) → a ++ m ∷ xs ≡ b ++ n ∷ ys → m.entry.step ≡ LookStep → n.entry.step ≡ LookStep → AllFetches xs → AllFetches ys → xs ≡ ys
last_look [] [] m n xs ys same one two all_xs all_ys = cc
last_look [] (y ∷ b) m n xs ys same one two all_xs all_ys =
    let rest : xs ≡ b ++ n ∷ ys = cc in
    absurd (no_look b n ys (subst AllFetches rest all_xs) two)
last_look (x ∷ a) [] m n xs ys same one two all_xs all_ys =
    let rest : a ++ m ∷ xs ≡ ys = cc in
    absurd (no_look a m xs (subst AllFetches (sym rest) all_ys) one)
last_look (x ∷ a) (y ∷ b) m n xs ys same one two all_xs all_ys =
    let rest : a ++ m ∷ xs ≡ b ++ n ∷ ys = cc in
    last_look a b m n xs ys rest one two all_xs all_ys

-- ---- a look

-- it was answered by the root of the world
pub look_as : (s : Start) (old new : List Moment) (snapshots : List RootSnap) (safe : ℕ) → s.alone ≡ true → Stepped s old new 0 LookStep (Looked snapshots safe)
    → Stepped s old new 0 LookStep (Looked (world_of s old).root.snapshots (world_of s old).safe)
look_as s old new snapshots safe alone h =
    subst (λ (n : ℕ). Stepped s old new 0 LookStep (Looked (world_of s old).root.snapshots n)) (look_safe s old new snapshots safe alone h)
    (subst (λ (l : List RootSnap). Stepped s old new 0 LookStep (Looked l safe)) (look_snapshots s old new snapshots safe alone h) h)

pub look_count : (s : Start) (old new : List Moment) (listing : List CodeSnap) (safe n : ℕ) → s.alone ≡ true → Stepped s old new 0 LookStep (Looked (map root_snap_of listing) safe) → n ≡ length listing
    → n ≡ length (world_of s old).root.snapshots
look_count s old new listing safe n alone h is =
    is ∙ sym (length-map listing root_snap_of) ∙ ap (λ (l : List RootSnap). length l) (look_snapshots s old new (map root_snap_of listing) safe alone h)

module _ (s : Start) (old first mid : List Moment) (snapshots : List RootSnap) (safe : ℕ) (alone : s.alone ≡ true) (look : Stepped s old first 0 LookStep (Looked snapshots safe)) (went : Went s first mid IsAny) where
  pub went_alive : IsAlive s mid
  went_alive = went.same.deposed ∙ look_alive s old first snapshots safe alone look

  pub went_open : IsChecking (world_of s mid)
  went_open =
      let was = (look_so_far s old first snapshots safe alone look).is_open in
      record { looked = went.same.looked ∙ was.looked; undrawn = went.same.drawn ∙ was.undrawn; unspent = went.same.spent ∙ was.unspent }

  -- the fetches of the check
  pub looked_went : mid ≡ old ++ moment_of s old first LookStep (Looked snapshots safe) alone look ∷ went.more
  looked_went =
      let m = moment_of s old first LookStep (Looked snapshots safe) alone look in
      went.is ∙ ap (λ (log : List Moment). log ++ went.more) (stepped_is s old first LookStep (Looked snapshots safe) alone look) ∙ append_assoc old (m ∷ []) went.more

  pub same_fetches : (count : ℕ) (so : IsSoFar s mid count) → so.looked.fetches ≡ went.more
  same_fetches count so =
      let m = moment_of s old first LookStep (Looked snapshots safe) alone look in
      last_look so.looked.before old so.looked.look m so.looked.fetches went.more (sym so.looked.is ∙ looked_went) so.looked.looks refl (fetched_all so.looked.fetches so.names so.looked.are) went.all

  -- ---- it ends well

  pub can_end : (count n : ℕ) → IsSoFar s mid count → HasReadAll s mid → n ≡ length (world_of s old).root.snapshots → CanEndCheck s mid n count
  can_end count n so read is = record {
    is_open = so.is_open;
    snapshots_is = is ∙ sym (ap (λ (l : List RootSnap). length l) (ap (λ (r : RootData). r.snapshots) (went.same.root ∙ look_root s old first snapshots safe alone look)));
    blobs_is = so.counted;
    present = λ name has. (so.looked.found name).1 ((so.looked.fetched name).0 has);
    done = read;
  }

  -- ---- or otherwise

  pub has_ended : {S F H T : Type 0} (e : Evidence S F H T) (new : List Moment) (why : Why) → EndsFailed e s mid new why → HasEndedCheck old new
  has_ended e new why ends =
      let m = moment_of s old first LookStep (Looked snapshots safe) alone look in
      let end : Moment = record { entry = record { who = 0; step = ReadStep (ReadFails (why_of why)); reply = HasEnded }; image = ends.image } in
      record {
        look = m;
        fetches = went.more;
        end = end;
        is = ends.is ∙ ap (λ (log : List Moment). log ++ end ∷ []) looked_went;
        looker = refl;
        looks = refl;
        all = went.all;
        ender = refl;
        read = ReadFails (why_of why);
        ends = refl;
        is_end = tt;
        ended = refl;
      }

  module _ {S F H T : Type 0} (e : Evidence S F H T) (law : RefusesSo) (new : List Moment) where
    for_cause : (why : Why) (b : By S F H T) (result : UnitRefusal) → IsCheckShown e s mid 0 (why_of why) b → NamesOne (FirstOf s mid) (why_of why) → GivenUp hands.Check e s mid new 0 (endings.Failed why b) result
        → IsReported hands.Check s mid new 0 (endings.Failed why b) result → IsCheckRefused e s old new result
    for_cause why b (units.Failed told) shown named h report =
        let ends = ends_failed e s mid new why b alone shown named report in
        (ap (λ (o : Own). o.caller) h.1, (mid, subst (λ (w : Why). EndsFailed e s mid new w) (sym h.0) ends), has_ended e new why ends)
    for_cause why b (units.Stopped steps.Memory) shown named h report = tt
    for_cause why b (units.Stopped steps.TurnsSpent) shown named h report = h.halts
    for_cause why b (units.Stopped (steps.Refused x)) shown named h report = absurd (unreported law s mid new why x alone went_alive report h.halts)
    for_cause why b units.Stale shown named h report = absurd h

    for_memory : (result : UnitRefusal) → GivenUp hands.Check e s mid new 0 (endings.Stopped steps.Memory) result → IsCheckRefused e s old new result
    for_memory (units.Stopped told) h = subst (λ (r : StepRefusal). IsCheckRefused e s old new (units.Stopped r)) (sym h.0) tt
    for_memory result h = absurd h

    for_turns : (result : UnitRefusal) → Grounds s mid 0 steps.TurnsSpent → GivenUp hands.Check e s mid new 0 (endings.Stopped steps.TurnsSpent) result → IsCheckRefused e s old new result
    for_turns (units.Stopped told) spends h =
        subst (λ (r : StepRefusal). IsCheckRefused e s old new (units.Stopped r)) (sym h.0) (subst (λ (log : List Moment). Grounds s log 0 steps.TurnsSpent) (sym h.1) spends)
    for_turns result spends h = absurd h

    refused_ends : (refusal : StepRefusal) (result : UnitRefusal) → IsFetchRefusal s mid refusal → ByUnit {S = S} {F = F} {H = H} {T = T} hands.Check e ⊥ s mid 0 (troubles.Step refusal)
        → GivenUp hands.Check e s mid new 0 (ending_by {S = S} {F = F} {H = H} {T = T} (troubles.Step refusal)) result
        → IsReported {S = S} {F = F} {H = H} {T = T} hands.Check s mid new 0 (ending_by {S = S} {F = F} {H = H} {T = T} (troubles.Step refusal)) result → IsCheckRefused e s old new result
    refused_ends steps.Memory result refused shown h report = for_memory result h
    refused_ends steps.TurnsSpent result refused shown h report = for_turns result refused h
    refused_ends (steps.Refused refusals.DepotFault) result refused shown h report = for_cause whys.Depot shows.Entry result shown tt h report
    refused_ends (steps.Refused x) result refused shown h report = absurd refused

    by_trouble : (trouble : Trouble S F) (result : UnitRefusal) → Shown e.fetch_faults s mid trouble → TellsOne (FirstOf s mid) trouble → ByUnit {S = S} {F = F} {H = H} {T = T} hands.Check e ⊥ s mid 0 trouble
        → GivenUp hands.Check e s mid new 0 (ending_by {S = S} {F = F} {H = H} {T = T} trouble) result
        → IsReported {S = S} {F = F} {H = H} {T = T} hands.Check s mid new 0 (ending_by {S = S} {F = F} {H = H} {T = T} trouble) result → IsCheckRefused e s old new result
    by_trouble (troubles.Step refusal) result was named shown h report = refused_ends refusal result was shown h report
    by_trouble (troubles.Fetch fetch) result was named shown h report = for_cause whys.Depot (shows.Object (objects.Fetch fetch)) result shown tt h report
    by_trouble (troubles.Found why) result was named shown h report = for_cause why shows.Nothing result shown named h report
    by_trouble trouble result was named shown h report = absurd was

    pub trouble_ends : (trouble : Trouble S F) (ending : Ending S F H T) (result : UnitRefusal) → ending ≡ ending_by trouble → Shown e.fetch_faults s mid trouble → TellsOne (FirstOf s mid) trouble
        → ByUnit {S = S} {F = F} {H = H} {T = T} hands.Check e ⊥ s mid 0 trouble → GivenUp hands.Check e s mid new 0 ending result → IsReported hands.Check s mid new 0 ending result → IsCheckRefused e s old new result
    trouble_ends trouble ending result is was named shown h report =
        by_trouble trouble result was named shown (subst (λ (x : Ending S F H T). GivenUp hands.Check e s mid new 0 x result) is h) (subst (λ (x : Ending S F H T). IsReported hands.Check s mid new 0 x result) is report)

-- the end of the check isn't refused, but for want of memory or of turns
pub end_stops : RefusesSo → (s : Start) (old mid new : List Moment) (snapshots blobs : ℕ) (e : StepRefusal) → s.alone ≡ true → IsAlive s mid
    → Refusing s mid new 0 (ReadStep (CheckedAll snapshots blobs)) (told_refusal e) × Grounds s new 0 e → StopsCheck s old new e
end_stops law s old mid new snapshots blobs steps.Memory alone alive h = tt
end_stops law s old mid new snapshots blobs steps.TurnsSpent alone alive h = h.1
end_stops law s old mid new snapshots blobs (steps.Refused x) alone alive h = absurd (⊎_elim
    (λ (abort : IsAbort (refusal_of x)). never_aborted s new x abort h.1)
    (λ (none : HowRefused (ReadStep (CheckedAll snapshots blobs)) (refusal_of x)). none)
    (live_refusal law s mid new (ReadStep (CheckedAll snapshots blobs)) (refusal_of x) alone alive h.0))

-- ---- the look was refused

deposed_caller : (s : Start) (old new : List Moment) (place : ℕ) → s.alone ≡ true → Stepped s old new 0 LookStep (Refused (DeposedAt place)) → caller_of s new ≡ caller_of s old
deposed_caller s old new place alone h = ap (λ (w : World). w.caller) (world_is s old new LookStep (Refused (DeposedAt place)) alone h)

look_other : RefusesSo → (s : Start) (old new : List Moment) (x : EntryRefusal) → Stepped s old new 0 LookStep (Refused (refusal_of x)) → Grounds s new 0 (steps.Refused x) → ((place : ℕ) → refusal_of x ≡ DeposedAt place → ⊥) → ⊥
look_other law s old new x h grounds live = ⊎_elim
    (λ (dead : IsDeposal (refusal_of x)). live dead.0 dead.1)
    (λ (rest : IsAbort (refusal_of x) ⊎ ⊥). ⊎_elim (λ (abort : IsAbort (refusal_of x)). never_aborted s new x abort grounds) (λ none. absurd none) rest)
    (refused_so law s old new LookStep (refusal_of x) h)

pub look_stops : RefusesSo → (s : Start) (old new : List Moment) (e : StepRefusal) → s.alone ≡ true → Refusing s old new 0 LookStep (told_refusal e) × Grounds s new 0 e → StopsCheck s old new e
look_stops law s old new steps.Memory alone h = tt
look_stops law s old new steps.TurnsSpent alone h = h.1
look_stops law s old new (steps.Refused (refusals.Deposed entry)) alone h = (record { front = h.0.front; image = h.0.image; is = h.0.is }, deposed_caller s old new entry alone h.0)
look_stops law s old new (steps.Refused x) alone h = absurd (look_other law s old new x h.0 h.1 (λ place e. cc))

-- ---- the check ended well

no_names : (names : List BlobName) → length names ≡ 0 → names ≡ []
no_names [] none = refl
no_names (n ∷ names) none = absurd cc

module _ (s : Start) (old first mid new : List Moment) (n count : ℕ) (alone : s.alone ≡ true) (look : Stepped s old first 0 LookStep (Looked (world_of s old).root.snapshots (world_of s old).safe)) (went : Went s first mid IsAny)
    (so : IsSoFar s mid count) (read : HasReadAll s mid) (end : Stepped s mid new 0 (ReadStep (CheckedAll n count)) HasEnded) where
  same_reach : (name : BlobName) → InReach (formats_of s) (world_of s mid) name → InReach (formats_of s) (world_of s new) name
  same_reach name reached = in_reach_as (formats_of s) (world_of s mid) (world_of s new) name (end_blobs s mid new n count alone end) (end_safe s mid new n count alone end) reached

  back_reach : (name : BlobName) → InReach (formats_of s) (world_of s new) name → InReach (formats_of s) (world_of s mid) name
  back_reach name reached = in_reach_as (formats_of s) (world_of s new) (world_of s mid) name (sym (end_blobs s mid new n count alone end)) (sym (end_safe s mid new n count alone end)) reached

  still_whole : IsWhole (formats_of s) (world_of s mid).blobs (world_of s mid).safe → IsWhole (formats_of s) (world_of s new).blobs (world_of s new).safe
  still_whole whole =
      subst (λ (b : Blobs). IsWhole (formats_of s) b (world_of s new).safe) (sym (end_blobs s mid new n count alone end))
      (subst (λ (safe : ℕ). IsWhole (formats_of s) (world_of s mid).blobs safe) (sym (end_safe s mid new n count alone end)) whole)

  pub has_checked : n ≡ length (world_of s old).root.snapshots → ((world_of s old).safe ≡ 0 → count ≡ 0) → caller_of s new ≡ no_caller → HasChecked s old new n count
  has_checked is rootless closed =
      let snapshots = (world_of s old).root.snapshots in
      let safe = (world_of s old).safe in
      let last = moment_of s mid new (ReadStep (CheckedAll n count)) HasEnded alone end in
      record {
        look = look.image;
        fetches = went.more;
        end = end.image;
        is =
            stepped_is s mid new (ReadStep (CheckedAll n count)) HasEnded alone end
            ∙ ap (λ (log : List Moment). log ++ last ∷ []) (looked_went s old first mid snapshots safe alone look went);
        names = so.names;
        are = subst (λ (l : List Moment). AreFetched l so.names) (same_fetches s old first mid snapshots safe alone look went count so) so.looked.are;
        once = so.looked.once;
        rootless = λ none. no_names so.names (sym so.count_is ∙ rootless none);
        snapshots_is = is;
        blobs_is = so.count_is;
        reached = λ tells name. (λ has. same_reach name (so.reached tells name has), λ reached. (so.looked.found name).0 ((read tells).all name (back_reach name reached)).0);
        whole = λ tells. still_whole (read tells).whole;
        closed = closed;
      }
