-- No check fails for damage where each world of the history is lawful: the safe root stands, so it agrees; nor at all where no call fails.
use Rattle.std.proofs.Common.{◌≡◌, ◌⊎◌, ℕ, suc, ◌≤◌, Bool, true, false, List, [], ◌∷◌, ◌++◌, append-nil, append_assoc, Option, Some, None, refl, sym, ap, ◌∙◌, subst, inl, inr, arith}
use Rattle.std.specs.Prelude.{length, if◌then◌else◌}
use Rattle.std.specs.List.{concat}
use Rattle.std.specs.FinMap as fin
use Rattle.std.proofs.lemmas.Option.{same_Some}
use Rattle.esr_model.specs.Names.{BlobName, Root, Snap, ShardIndex}
use Rattle.esr_model.specs.Values.{Bytes, Has, RootData, Kind, Formats}
use Rattle.esr_model.specs.Image.{Blobs, Image, IsStored, At, IsOne, Reads, Picked, Stands}
use Rattle.esr_model.specs.Agreement.{RootAgrees}
use Rattle.esr_model.specs.Reach.{Reached}
use Rattle.esr_core.specs.World.{World, Reader, Caller, no_caller, HeldIn}
use Rattle.esr_core.specs.Restores.{WasRead}
use Rattle.esr_core.specs.Entry.{Reason, Why, OfDepot, OfAbsence, OfUnreadable, OfPrint, OfDisagreement, Read, ReadBlob, Step, LookStep, ReadStep, Reply, WasFetched, WasAbsent, DepotFault, Refused, Moment}
use Rattle.esr_core.specs.After.{is_heard, told_blob, caller_told, caller_read, caller_after, answered, after}
use Rattle.esr_core.specs.Allowed as allowed
use Rattle.esr_core.specs.Allowed.{Fetcher, ByReader, ByCheck, ByVerify, SameBlobs, ReadAllows, ReadFound, ReadMissing, ReadFault, VerifyAllows, DrawingTest, Allows, Allowed}
use Rattle.esr_core.specs.Laws.OneValue.{reads_one}
use Rattle.esr_model.specs.Lists.{AllPairs-map}
use Rattle.esr_core.specs.Laws.BlobFrames.{stands_kept}
use Rattle.esr_core.specs.Laws.RootAgreement.{stands_agrees}
use Rattle.esr_formats.specs.Reasons.{unreadable_reads_not}
use Rattle.esr_desk.specs.declared.hand.Hand.TheVariants as hands
use Rattle.esr_desk.specs.declared.fault.Fault.{Fault}
use Rattle.esr_desk.specs.declared.fault.By.{By}
use Rattle.esr_desk.specs.Start.{Start, formats_of, world_of}
use Rattle.esr_desk.specs.Restore.Parts.{sized_parts, IsFront, AreFronts, AreExact}
use Rattle.esr_desk.specs.Own.{caller_of}
use Rattle.esr_desk.specs.Evidence.{Evidence}
use Rattle.esr_desk.specs.Verify.Shown.{IsVerifyShownBy}
use Rattle.esr_desk.specs.Check.Shown.{AllFetches, SinceLook, HadFetchIn, ReadAs, DoesNotRead, HasReadFile, IsMisprinted, Disagree, InfoBeside, GlobalBeside, IndexMetaBeside, IndexBeside, SnapBeside, FileBeside, IsShownBy}
use Rattle.esr_quiet.specs.Caused.{AreCaused}
use Rattle.esr_quiet.specs.Smooth.{IsSmooth, NoneUnverified}
use Rattle.esr_quiet.specs.Prefixes.{Prefixes}
use Rattle.esr_quiet.specs.OverKept.{IsLawful}
use Rattle.esr_quiet.specs.Undamaged.{IsDamage, NoCheckFindsDamage}
use Rattle.esr_core.specs.Laws.NumberMaps.{some_none}
use Rattle.esr_core.specs.Laws.Asides.{blobs_stay}
use Rattle.esr_core.specs.Laws.Histories.{world_parts}
use Rattle.esr_quiet.specs.PrefixLaws.{place_of, has_at}
use Rattle.esr_quiet.proofs.Prefixes.{told_at}
use Rattle.esr_quiet.proofs.OverKept.{IsAlive, lawful_front, step_at, smooth_lawful, smooth_alive, alive_before}
use Rattle.esr_quiet.proofs.Numbers.{Numbered, numbered_from, client_unblocked}
use Rattle.esr_quiet.proofs.Untaken.{opened_numbered}
use Rattle.esr_quiet.specs.CallerSteps.{caller_one}
use Rattle.esr_quiet.proofs.Failures.{read_shown, no_fetch_fault}
use Rattle.esr_quiet.proofs.Restores.{IsServing, ReadCoreLaws, missed_at, serves}
use Rattle.esr_quiet.proofs.Verifications as verifications
use Rattle.esr_quiet.proofs.Rooted.{AreListed, root_listed}
use Rattle.esr_quiet.proofs.Agreed.{IsIn, is_there, does_read, info_beside, global_beside, index_meta_beside, index_beside, snap_beside, file_of}

-- ---- what a step tells

abbrev Found : Formats → World → ℕ → BlobName → Reply → Option Image → Type 0
Found f w who name WasFetched image = IsStored f name × Fetcher f w name image who
Found f w who name reply image = Unit {0}

-- of a look and of a fetch
abbrev Tells : Formats → World → ℕ → Step → Reply → Option Image → Type 0
Tells f w who (ReadStep (ReadBlob name)) reply image = SameBlobs w image × Found f w who name reply image
Tells f w who LookStep reply image = is_heard reply ≡ true
Tells f w who step reply image = Unit {0}

read_tells : (f : Formats) (w : World) (who : ℕ) (read : Read) (reply : Reply) (image : Option Image) → SameBlobs w image → ReadAllows f w who read reply image → Tells f w who (ReadStep read) reply image
read_tells f w who read reply image same (ReadFound k name im stored by told) = (same, (stored, by))
read_tells f w who read reply image same (ReadMissing k name im stored by none) = (same, tt)
read_tells f w who read reply image same (ReadFault k name im stored by) = (same, tt)
read_tells f w who read reply image same a = tt

verify_tells : (f : Formats) (w : World) (read : Read) (reply : Reply) (image : Option Image) → VerifyAllows f w read reply image → Tells f w 0 (ReadStep read) reply image
verify_tells f w read reply image (DrawingTest im may fits same) = tt
verify_tells f w read reply image a = tt

tells : (f : Formats) (size : ℕ) (w : World) (who : ℕ) (step : Step) (reply : Reply) (image : Option Image) → Allows f size w who step reply image → Tells f w who step reply image
tells f size w who step reply image (allowed.Reading k read rep im a same) = read_tells f w k read rep im same a
tells f size w who step reply image (allowed.Verifying read rep im a) = verify_tells f w read rep im a
tells f size w who step reply image (allowed.Looking im same) = refl
tells f size w who step reply image a = tt

-- of who 0, which no delete aborts
told_by : (f : Formats) (size : ℕ) (w : World) (m : Moment) → Numbered w → m.entry.who ≡ 0 → w.deposed ≡ false → Allowed f size w m → Tells f w m.entry.who m.entry.step m.entry.reply m.image
told_by f size w m numbered who present a = elim a.answered [
  | inl alive ↦ tells f size w m.entry.who m.entry.step m.entry.reply m.image alive.1
  | inr dead ↦ absurd (client_unblocked w m.entry.who m.entry.step dead.refusal numbered who present dead.blocks)
]

-- ---- what a fetch leaves

answered_fetch : (f : Formats) (w : World) (name : BlobName) (reply : Reply) (image : Option Image) → answered f w 0 (ReadStep (ReadBlob name)) reply image ≡ w
answered_fetch f w name (Refused DepotFault) image = refl
answered_fetch f w name (Refused refusal) image = refl
answered_fetch f w name reply image = refl

fetch_leaves : (f : Formats) (w : World) (m : Moment) (name : BlobName) → m.entry.who ≡ 0 → m.entry.step ≡ ReadStep (ReadBlob name) → answered f w m.entry.who m.entry.step m.entry.reply m.image ≡ w
fetch_leaves f w m name who step = (λ i. answered f w (who i) (step i) m.entry.reply m.image) ∙ answered_fetch f w name m.entry.reply m.image

-- ---- what the check that is open has read

-- what the safe root, the last of so many, reaches, and its own name
abbrev IsReached : Formats → Blobs → ℕ → BlobName → Type 0
IsReached f blobs safe name = (n : ℕ) × (safe ≡ suc n) × ((name ≡ Root n) ⊎ ((root : RootData) × Reads (At f blobs) (Root n) f.root root × Reached f (At f blobs) root name))

-- nothing was committed, and what was read is there, and reached
record Known (f : Formats) (blobs : Blobs) (safe : ℕ) (c : Caller) : Type 0 where
  none : c.committed ≡ []
  read : (name : BlobName) (bytes : Bytes) → WasRead c.read name bytes → At f blobs name bytes × IsReached f blobs safe name

known_told : (f : Formats) (blobs : Blobs) (safe : ℕ) (c : Caller) → Known f blobs safe c → (name : BlobName) (told : Option Bytes) → ((bytes : Bytes) → told ≡ Some bytes → At f blobs name bytes × IsReached f blobs safe name)
    → Known f blobs safe (caller_told c name told)
known_told f blobs safe c h name None new = record { none = h.none; read = h.read }
known_told f blobs safe c h name (Some b) new = record {
  none = h.none;
  read = λ m bytes there. elim there [
    | inl e ↦ subst (λ (p : BlobName × Bytes). At f blobs p.0 p.1 × IsReached f blobs safe p.0) e (new b refl)
    | inr old ↦ h.read m bytes old
  ];
}

-- who 0 fetches for a check where it has committed nothing
reached_by : (f : Formats) (w : World) (name : BlobName) (image : Image) (who : ℕ) → who ≡ 0 → ((k : ℕ) (q : Reader) → fin.get w.readers k ≡ Some q → 1 ≤ k) → w.caller.committed ≡ [] → Fetcher f w name (Some image) who
    → IsReached f w.blobs w.safe name
reached_by f w name image who is numbered none (ByReader k q reading may) = absurd (let a : 1 ≤ k = numbered k q reading.there in omega (arith, a, is))
reached_by f w name image who is numbered none (ByCheck may) = may.reached
reached_by f w name image who is numbered none (ByVerify may) = absurd (subst (λ (names : List BlobName). Has names name) none may.committed)

module _ (f : Formats) (w : World) (numbered : (k : ℕ) (q : Reader) → fin.get w.readers k ≡ Some q → 1 ≤ k) (h : Known f w.blobs w.safe w.caller) where
  known_found : (name : BlobName) (image : Option Image) (i : Image) → image ≡ Some i → SameBlobs w image → IsStored f name → Fetcher f w name image 0 → Known f w.blobs w.safe (caller_told w.caller name (told_blob f image name))
  known_found name None i told same stored fetcher = absurd (some_none i (sym told))
  known_found name (Some x) i told same stored fetcher = known_told f w.blobs w.safe w.caller h name (fin.get x.blobs (f.names.text name))
      (λ bytes is. ((ap (λ (blobs : Blobs). fin.get blobs (f.names.text name)) (sym same) ∙ is, stored), reached_by f w name x 0 refl numbered h.none fetcher))

  known_fetch : (name : BlobName) (reply : Reply) (image : Option Image) (i : Image) → image ≡ Some i → SameBlobs w image → Found f w 0 name reply image → Known f w.blobs w.safe (caller_read f w.caller (ReadBlob name) reply image)
  known_fetch name WasFetched image i told same found = known_found name image i told same found.0 found.1
  known_fetch name WasAbsent image i told same found = record { none = h.none; read = h.read }
  known_fetch name reply image i told same found = h

-- ---- what stands

at_one : (f : Formats) (blobs : Blobs) → IsOne (At f blobs)
at_one f blobs name a b p q = same_Some a b (sym p.0 ∙ q.0)

first_fetches : (a b : List Moment) → AllFetches (a ++ b) → AllFetches a
first_fetches [] b all = tt
first_fetches (m ∷ a) b all = (all.0, all.1, first_fetches a b all.2)

suc_same : {a b : ℕ} → suc a ≡ suc b → a ≡ b
suc_same e = cc

-- in each world up to the last no record swap has failed
module _ (s : Start) (log : List Moment) (lawful : IsLawful s log) (alive : IsAlive s log) (all_serve : (front back : List Moment) → log ≡ front ++ back → IsServing (formats_of s) (world_of s front)) where
  abbrev f : Formats
  f = formats_of s

  abbrev KnownAt : List Moment → Type 0
  KnownAt front = Known f (world_of s front).blobs (world_of s front).safe (caller_of s front)

  numbered_at : (front : List Moment) → Numbered (world_of s front)
  numbered_at front = numbered_from f front s.world (opened_numbered f lawful.over.image s.world lawful.over.opened)

  tells_at : (front back : List Moment) (m : Moment) → log ≡ front ++ m ∷ back → m.entry.who ≡ 0 → Tells f (world_of s front) m.entry.who m.entry.step m.entry.reply m.image
  tells_at front back m is who = told_by f s.part_size (world_of s front) m (numbered_at front) who (alive front (m ∷ back) is) (step_at s log lawful.over front back m is)

  told : (front back : List Moment) (m : Moment) → log ≡ front ++ m ∷ back → (image : Image) × (m.image ≡ Some image)
  told front back m is = told_at log m lawful.over.told (subst (λ (l : List Moment). Has l m) (sym is) (has_at front back m))

  -- the look
  known_look : (front back : List Moment) (m : Moment) → log ≡ front ++ m ∷ back → m.entry.who ≡ 0 → m.entry.step ≡ LookStep → KnownAt (front ++ m ∷ [])
  known_look front back m is who step =
      let heard : is_heard m.entry.reply ≡ true = subst (λ st. Tells f (world_of s front) m.entry.who st m.entry.reply m.image) step (tells_at front back m is who) in
      let begun : Caller = record no_caller { looked = true } in
      let caller : caller_of s (front ++ m ∷ []) ≡ begun =
      caller_one s front m ∙ ap (λ st. caller_after f (caller_of s front) m.entry.who st m.entry.reply m.image) step ∙ ap (λ (b : Bool). if b then begun else caller_of s front) heard in
      subst (Known f (world_of s (front ++ m ∷ [])).blobs (world_of s (front ++ m ∷ [])).safe) (sym caller) (record { none = refl; read = λ name bytes there. absurd there })

  -- a fetch
  known_one : (front back : List Moment) (m : Moment) (name : BlobName) → log ≡ front ++ m ∷ back → m.entry.who ≡ 0 → m.entry.step ≡ ReadStep (ReadBlob name) → KnownAt front → KnownAt (front ++ m ∷ [])
  known_one front back m name is who step h =
      let w : World = world_of s front in
      let image = told front back m is in
      let tells_it : Tells f w 0 (ReadStep (ReadBlob name)) m.entry.reply m.image =
      subst (λ st. Tells f w 0 st m.entry.reply m.image) step (subst (λ k. Tells f w k m.entry.step m.entry.reply m.image) who (tells_at front back m is who)) in
      let known : Known f w.blobs w.safe (caller_read f w.caller (ReadBlob name) m.entry.reply m.image) =
      known_fetch f w (λ k q there. ((all_serve front (m ∷ back) is).law.tracked.tickets k q there).0) h name m.entry.reply m.image image.0 image.1 tells_it.0 tells_it.1 in
      let caller : caller_of s (front ++ m ∷ []) ≡ caller_read f w.caller (ReadBlob name) m.entry.reply m.image =
      caller_one s front m ∙ (λ i. caller_after f (caller_of s front) (who i) (step i) m.entry.reply m.image) in
      let world : world_of s (front ++ m ∷ []) ≡ after f w m = world_parts f front (m ∷ []) s.world in
      let safe : (world_of s (front ++ m ∷ [])).safe ≡ w.safe = ap (λ (x : World). x.safe) world ∙ ap (λ (x : World). x.safe) (fetch_leaves f w m name who step) in
      let blobs : (world_of s (front ++ m ∷ [])).blobs ≡ w.blobs = ap (λ (x : World). x.blobs) world ∙ blobs_stay w m.image tells_it.0 in
      subst (λ (b : Blobs). Known f b (world_of s (front ++ m ∷ [])).safe (caller_of s (front ++ m ∷ []))) (sym blobs)
      (subst (λ (n : ℕ). Known f w.blobs n (caller_of s (front ++ m ∷ []))) (sym safe)
      (subst (Known f w.blobs w.safe) (sym caller) known))

  known_on : (done rest back : List Moment) → log ≡ done ++ (rest ++ back) → AllFetches rest → KnownAt done → KnownAt (done ++ rest)
  known_on done [] back is all h = subst (λ (l : List Moment). KnownAt l) (sym (append-nil done)) h
  known_on done (m ∷ rest) back is all h =
      subst (λ (l : List Moment). KnownAt l) (append_assoc done (m ∷ []) rest)
      (known_on (done ++ m ∷ []) rest back (is ∙ sym (append_assoc done (m ∷ []) (rest ++ back))) all.2 (known_one done (rest ++ back) m all.1.0 is all.0 all.1.1 h))

  -- at each of its worlds
  known_at : (front back : List Moment) → log ≡ front ++ back → SinceLook front → KnownAt front
  known_at front back is h =
      let from : log ≡ h.before ++ h.look ∷ (h.fetches ++ back) = is ∙ ap (λ (l : List Moment). l ++ back) h.is ∙ append_assoc h.before (h.look ∷ h.fetches) back in
      subst (λ (l : List Moment). KnownAt l) (append_assoc h.before (h.look ∷ []) h.fetches ∙ sym h.is)
      (known_on (h.before ++ h.look ∷ []) h.fetches back (from ∙ sym (append_assoc h.before (h.look ∷ []) (h.fetches ++ back))) h.all (known_look h.before (h.fetches ++ back) h.look from h.looker h.looks))

  -- ---- the safe root agrees

  agrees : (front back : List Moment) → log ≡ front ++ back → (n : ℕ) → (world_of s front).safe ≡ suc n → RootAgrees f (At f (world_of s front).blobs) n
  agrees front back is n e =
      let w : World = world_of s front in
      let law = lawful.lawful front back is in
      let stands : Stands f (HeldIn f w) n law.0 = subst (λ (k : ℕ). Picked f (HeldIn f w) k law.0) e law.1.lawful.sound.rooted.kept.picked in
      stands_agrees f (At f w.blobs) n law.0 (stands_kept f (HeldIn f w) (At f w.blobs) (λ name bytes h. h.0) n law.0 stands)

  abbrev HeldAt : List Moment → BlobName → Bytes → Type 0
  HeldAt front = At f (world_of s front).blobs

  one_at : (front : List Moment) → IsOne (HeldAt front)
  one_at front = at_one f (world_of s front).blobs

  listed_at : (front back : List Moment) (is : log ≡ front ++ back) (n : ℕ) (e : (world_of s front).safe ≡ suc n) → AreListed (agrees front back is n e).root
  listed_at front back is n e = let a = agrees front back is n e in root_listed s a.root_reads.bytes a.root a.root_reads.reads

  -- what is reached is so by the root that agrees
  in_at : (front back : List Moment) (is : log ≡ front ++ back) (n : ℕ) (e : (world_of s front).safe ≡ suc n) (name : BlobName) → IsReached f (world_of s front).blobs (world_of s front).safe name
      → IsIn f (HeldAt front) (one_at front) n (agrees front back is n e) name
  in_at front back is n e name (m, at, how) =
      let a = agrees front back is n e in
      let same : m ≡ n = suc_same (sym at ∙ e) in
      elim how [
        | inl own ↦ inl (own ∙ ap Root same)
        | inr h ↦ inr (subst (λ (r : RootData). Reached f (HeldAt front) r name)
            (reads_one (HeldAt front) (one_at front) (Root n) f.root h.0 a.root (subst (λ (k : ℕ). Reads (HeldAt front) (Root k) f.root h.0) same h.1) a.root_reads) h.2)
      ]

  -- ---- each cause

  -- a fetch of the check that is open
  record Answered (name : BlobName) (reply : Reply) : Type 0 where
    before : List Moment
    moment : Moment
    rest : List Moment
    is : log ≡ before ++ moment ∷ rest
    since : SinceLook before
    step_is : moment.entry.step ≡ ReadStep (ReadBlob name)
    of : moment.entry.who ≡ 0
    reply_is : moment.entry.reply ≡ reply

  answered_at : (front back : List Moment) → log ≡ front ++ back → (since : SinceLook front) (name : BlobName) (reply : Reply) → HadFetchIn since.fetches name reply → Answered name reply
  answered_at front back is since name reply h =
      let m : Moment = record { entry = record { who = 0; step = ReadStep (ReadBlob name); reply = reply }; image = h.image } in
      let p = place_of since.fetches m h.there in
      let before : List Moment = since.before ++ since.look ∷ p.front in
      let front_is : front ≡ before ++ m ∷ p.back =
      since.is ∙ ap (λ (l : List Moment). since.before ++ since.look ∷ l) p.is ∙ sym (append_assoc since.before (since.look ∷ p.front) (m ∷ p.back)) in
      record {
        before = before;
        moment = m;
        rest = p.back ++ back;
        is = is ∙ ap (λ (l : List Moment). l ++ back) front_is ∙ append_assoc before (m ∷ p.back) back;
        since = record { before = since.before; look = since.look; fetches = p.front; is = refl; looker = since.looker; looks = since.looks; all = first_fetches p.front (m ∷ p.back) (subst AllFetches p.is since.all) };
        step_is = refl;
        of = refl;
        reply_is = refl;
      }

  -- no reached blob is absent
  pub found : (before rest : List Moment) (m : Moment) (is : log ≡ before ++ m ∷ rest) (name : BlobName) → IsReached f (world_of s before).blobs (world_of s before).safe name → fin.get (world_of s before).blobs (f.names.text name) ≡ None
      → ⊥
  found before rest m is name (n, e, how) none =
      let a = agrees before (m ∷ rest) is n e in
      elim (in_at before (m ∷ rest) is n e name (n, e, how)) [
        | inl own ↦ some_none a.root_reads.bytes (sym a.root_reads.there.0 ∙ ap (λ (b : BlobName). fin.get (world_of s before).blobs (f.names.text b)) (sym own) ∙ none)
        | inr reached ↦
            let it = is_there f (HeldAt before) (one_at before) n a (listed_at before (m ∷ rest) is n e) name reached in
            some_none it.0 (sym it.1.0 ∙ none)
      ]

  absent : (front back : List Moment) → log ≡ front ++ back → (since : SinceLook front) (name : BlobName) → HadFetchIn since.fetches name WasAbsent → ⊥
  absent front back is since name h =
      let r = answered_at front back is since name WasAbsent h in
      let w : World = world_of s r.before in
      let image = told r.before r.rest r.moment r.is in
      let missed = missed_at f s.part_size w r.moment name (alive r.before (r.moment ∷ r.rest) r.is) (step_at s log lawful.over r.before r.rest r.moment r.is) r.step_is r.reply_is image.0 image.1 in
      let known = known_at r.before (r.moment ∷ r.rest) r.is r.since in
      let reached : IsReached f w.blobs w.safe name =
      reached_by f w name image.0 r.moment.entry.who r.of (λ k q there. ((all_serve r.before (r.moment ∷ r.rest) r.is).law.tracked.tickets k q there).0) known.none missed.0 in
      found r.before r.rest r.moment r.is name reached missed.1

  module _ (front back : List Moment) (is : log ≡ front ++ back) (since : SinceLook front) where
    known : KnownAt front
    known = known_at front back is since

    uncommitted : (name : BlobName) → Has (caller_of s front).committed name → ⊥
    uncommitted name committed = subst (λ (names : List BlobName). Has names name) known.none committed

    abbrev has : BlobName → Bytes → Type 0
    has = HeldAt front

    -- what was read reads as that
    reads_as : {V : Type 0} (name : BlobName) (kind : Kind V) (v : V) → ReadAs s (caller_of s front) name kind v → Reads has name kind v
    reads_as name kind v r = let (there, reached) = known.read name r.bytes (r.fetched.read lawful.over.tells) in record { bytes = r.bytes; there = there; reads = r.reads }

    reached_as : {V : Type 0} (name : BlobName) (kind : Kind V) (v : V) → ReadAs s (caller_of s front) name kind v → IsReached f (world_of s front).blobs (world_of s front).safe name
    reached_as name kind v r = let (there, reached) = known.read name r.bytes (r.fetched.read lawful.over.tells) in reached

    -- each reached blob reads
    unread : (name : BlobName) (reason : Reason) → DoesNotRead s (caller_of s front) name reason → ⊥
    unread name reason (bytes, fetched, first) =
        let (there, reached) = known.read name bytes (fetched.read lawful.over.tells) in
        let (n, e, how) = reached in
        does_read f has (one_at front) n (agrees front back is n e) (listed_at front back is n e) name bytes (in_at front back is n e name reached) there
        (unreadable_reads_not s.known s.told name bytes reason first)

    -- of each file all was read, cut as stated
    file_at : (name : BlobName) (fronts : List Bytes) (h : HasReadFile s (caller_of s front) name fronts) → (length (concat fronts) ≡ h.e.len) × (f.digest (concat fronts) ≡ h.e.digest) × AreExact h.index h.shard h.e fronts
    file_at name fronts h =
        let index : BlobName = ShardIndex h.index h.shard h.generation in
        let reached = reached_as index f.shard_index h.held h.held_read in
        let (n, e, how) = reached in
        let read : AreFronts has h.index h.shard h.e fronts =
        AllPairs-map {R = IsFront (WasRead (caller_of s front).read)} {S = IsFront has} (λ part piece x. let (there, reached) = known.read part.0 x.0 x.1 in (x.0, there, x.2)) (sized_parts h.index h.shard h.e) fronts (h.read lawful.over.tells) in
        file_of f has (one_at front) n (agrees front back is n e) h.index h.shard h.generation h.held h.e fronts (in_at front back is n e index reached) (reads_as index f.shard_index h.held h.held_read) h.listed read

    printed : (name : BlobName) (stated_len : ℕ) (stated_digest : Bytes) (found_len : ℕ) (found_digest : Bytes) → IsMisprinted s (caller_of s front) name stated_len stated_digest found_len found_digest → ⊥
    printed name stated_len stated_digest found_len found_digest h =
        let x = file_at name h.fronts h.file in
        h.differ (h.stated_len_is ∙ sym x.0 ∙ sym h.found_len_is) (h.stated_digest_is ∙ sym x.1 ∙ sym h.found_digest_is)

    -- no two disagree
    agreed : (name other : BlobName) → Disagree s (caller_of s front) name other → ⊥
    agreed name other (InfoBeside m root snap info root_read there info_read differ) =
        let reached = reached_as (Root m) f.root root root_read in
        let (n, e, how) = reached in
        differ (info_beside f has (one_at front) n (agrees front back is n e) m root snap info (in_at front back is n e (Root m) reached) (reads_as (Root m) f.root root root_read) there (reads_as _ f.info info info_read))
    agreed name other (GlobalBeside uuid info meta info_read meta_read differ) =
        let reached = reached_as (Snap uuid) f.info info info_read in
        let (n, e, how) = reached in
        differ (global_beside f has (one_at front) n (agrees front back is n e) uuid info meta (in_at front back is n e (Snap uuid) reached) (reads_as _ f.info info info_read) (reads_as _ f.global meta meta_read))
    agreed name other (IndexMetaBeside uuid info r meta info_read rm meta_read differ) =
        let reached = reached_as (Snap uuid) f.info info info_read in
        let (n, e, how) = reached in
        differ (index_meta_beside f has (one_at front) n (agrees front back is n e) uuid info r meta (in_at front back is n e (Snap uuid) reached) (reads_as _ f.info info info_read) rm (reads_as _ f.index_meta meta meta_read))
    agreed name other (IndexBeside uuid info r index shard g held info_read rm id below held_read differ) =
        let reached = reached_as (Snap uuid) f.info info info_read in
        let (n, e, how) = reached in
        differ (index_beside f has (one_at front) n (agrees front back is n e) uuid info r index shard g held (in_at front back is n e (Snap uuid) reached) (reads_as _ f.info info info_read) rm id below
        (in_at front back is n e (ShardIndex index shard g) (reached_as (ShardIndex index shard g) f.shard_index held held_read)) (reads_as (ShardIndex index shard g) f.shard_index held held_read))
    agreed name other (SnapBeside uuid info r index shard g held snap info_read rm id below held_read snap_read differ) =
        let reached = reached_as (Snap uuid) f.info info info_read in
        let (n, e, how) = reached in
        differ (snap_beside f has (one_at front) n (agrees front back is n e) uuid info r index shard g held snap (in_at front back is n e (Snap uuid) reached) (reads_as _ f.info info info_read) rm id below
        (in_at front back is n e (ShardIndex index shard g) (reached_as (ShardIndex index shard g) f.shard_index held held_read)) (reads_as (ShardIndex index shard g) f.shard_index held held_read) (reads_as _ f.shard_snap snap snap_read))
    agreed name other (FileBeside file fronts h len digest differ) = let x = file_at file fronts h in differ x.2

    -- no damage is shown
    undamaged : {S F H T : Type 0} (e : Evidence S F H T) (why : Why) (b : By S F H T) → IsDamage why → IsShownBy e s since.fetches (caller_of s front) why b → ⊥
    undamaged e (OfAbsence name) b damage h = absent front back is since name (read_shown b _ h)
    undamaged e (OfUnreadable name reason) b damage h = unread name reason (read_shown b _ h)
    undamaged e (OfPrint name stated_len stated_digest found_len found_digest) b damage h = printed name stated_len stated_digest found_len found_digest (read_shown b _ h)
    undamaged e (OfDisagreement name other) b damage h = agreed name other (read_shown b _ h)
    undamaged e why b damage h = damage

    -- nor by a verification: none is open since the look
    unverified : {S F H T : Type 0} (e : Evidence S F H T) (why : Why) (b : By S F H T) → IsDamage why → IsVerifyShownBy e s front (caller_of s front) why b → ⊥
    unverified e (OfAbsence name) b damage h = uncommitted name (read_shown b _ h).committed
    unverified e (OfUnreadable name reason) b damage h = uncommitted name (read_shown b _ h).0.committed
    unverified e (OfPrint name stated_len stated_digest found_len found_digest) b damage h = uncommitted name (read_shown b _ h).committed
    unverified e (OfDisagreement name other) b damage h = h
    unverified e why b damage h = damage

-- so none is reported
pub none_damaged : {S F H T : Type 0} (laws : ReadCoreLaws) (s : Start) (log : List Moment) → IsLawful s log → (e : Evidence S F H T) (faults : List (Fault S F H T)) → AreCaused hands.Check e s log faults → NoCheckFindsDamage log
none_damaged laws s log lawful e faults shown front back m why is since who step reply damage =
    let up = lawful_front s log lawful front (m ∷ back) is in
    let alive = alive_before s log lawful.over front back m is reply in
    let end = sym (append-nil front) in
    let x = shown (length front) m.entry.who why (record { front = front; moment = m; back = back; is = is; place_is = refl; teller = who; of = refl; step = step; reply = reply }) in
    elim x.shown [
      | inl check ↦ undamaged s front up alive (serves laws s front up) front [] end check.since e why x.by damage check.shown
      | inr verification ↦ unverified s front up alive (serves laws s front up) front [] end since e why x.by damage verification.shown
    ]

-- ---- where no call fails

module _ (s : Start) (log : List Moment) (smooth : IsSmooth s log) (prefixes : Prefixes s log) (all_serve : (front back : List Moment) → log ≡ front ++ back → IsServing (formats_of s) (world_of s front)) where
  whole : {S F H T : Type 0} (front back : List Moment) → log ≡ front ++ back → (since : SinceLook front) (e : Evidence S F H T) (why : Why) (b : By S F H T) → IsDamage why → IsShownBy e s since.fetches (caller_of s front) why b → ⊥
  whole front back is since e why b damage h = undamaged s log (smooth_lawful s log smooth prefixes) (smooth_alive s log smooth) all_serve front back is since e why b damage h

  -- no cause is shown
  shows : {S F H T : Type 0} (front back : List Moment) → log ≡ front ++ back → (since : SinceLook front) (e : Evidence S F H T) (why : Why) (b : By S F H T) → IsShownBy e s since.fetches (caller_of s front) why b → ⊥
  shows front back is since e OfDepot b h = no_fetch_fault e s smooth.quiet ((name : BlobName) × HadFetchIn since.fetches name (Refused DepotFault)) b h
  shows front back is since e (OfAbsence name) b h = whole front back is since e (OfAbsence name) b tt h
  shows front back is since e (OfUnreadable name reason) b h = whole front back is since e (OfUnreadable name reason) b tt h
  shows front back is since e (OfPrint name stated_len stated_digest found_len found_digest) b h = whole front back is since e (OfPrint name stated_len stated_digest found_len found_digest) b tt h
  shows front back is since e (OfDisagreement name other) b h = whole front back is since e (OfDisagreement name other) b tt h
  shows front back is since e why b h = h

  -- so no verification fails, and no check
  pub none_ended : {S F H T : Type 0} (e : Evidence S F H T) (faults : List (Fault S F H T)) → AreCaused hands.Check e s log faults → NoneUnverified log
  none_ended e faults shown m why has_it who step reply =
      let p = place_of log m has_it in
      let x = shown (length p.front) m.entry.who why (record { front = p.front; moment = m; back = p.back; is = p.is; place_is = refl; teller = who; of = refl; step = step; reply = reply }) in
      elim x.shown [
        | inl check ↦ shows p.front (m ∷ p.back) p.is check.since e why x.by check.shown
        | inr verification ↦ verifications.shows s log smooth prefixes e p.front (m ∷ p.back) p.is why x.by verification.shown
      ]
