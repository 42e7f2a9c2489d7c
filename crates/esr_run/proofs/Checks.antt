-- Histories without a check that failed, and those whose checks are whole.
use Rattle.std.proofs.Common.{◌≡◌, ◌≢◌, ◌⊎◌, ℕ, true, false, true≢false, List, [], ◌∷◌, ◌++◌, append-nil, append_assoc, Option, Some, None, refl, sym, ap, ◌∙◌, subst, inl, inr, ⊎_elim}
use Rattle.std.specs.FinMap as fin
use Rattle.std.proofs.lemmas.Bool.{false≢true}
use Rattle.esr_model.specs.Values.{Bytes, Has, Formats}
use Rattle.esr_model.specs.Names.{BlobName}
use Rattle.esr_model.specs.Image.{Image}
use Rattle.esr_core.specs.World.{World, Ticket, Caller}
use Rattle.esr_core.specs.Entry.{Read, ReadBlob, BeginTest, CommitTest, RemoveTests, CheckedAll, DrawTest, VerifiedAll, ReadFails, Why, Step, ReadStep, Reply, WasFetched, WasDone, WasRemoved, DrawnFrom, IdsSpent, Refusal, Refused, HasEnded, Moment}
use Rattle.esr_core.specs.After.{told_blob, caller_told, caller_wrote, caller_after}
use Rattle.esr_core.specs.Allowed as allowed
use Rattle.esr_core.specs.Allowed.{IsChecking, ReadAllows, ReadFound, VerifyAllows, DrawingTest, Allows, Allowed, Blocks, ByFailedSwap, ByDelete}
use Rattle.esr_core.specs.Laws.Asides.{blocked_stays}
use Rattle.esr_desk.specs.Start.{Start, Legal, formats_of, world_of, no_ticket, or_no_ticket, ticket_of}
use Rattle.esr_desk.specs.Own.{caller_of}
use Rattle.esr_quiet.specs.CallerSteps.{caller_one}
use Rattle.esr_verify.specs.Began.{IsFurther, AllFurther, HasBegun, BeganOne, NotBegun, Begun}
use Rattle.esr_check.specs.First.{NamesOne, FirstOf}
use Rattle.esr_run.specs.Checked.{AreChecked}
use Rattle.esr_run.proofs.Making.{world_one, legal_one, legal_front}

-- ---- the last of a list

pub no_cons : {A : Type 0} (front : List A) (y : A) (back : List A) → [] ≡ front ++ y ∷ back → ⊥
no_cons [] y back e = cc
no_cons (x ∷ front) y back e = cc

-- where something stands in a list with one more: it is the last, or stands in the list
pub split_end : {A : Type 0} (xs : List A) (last : A) (front : List A) (y : A) (back : List A) → xs ++ last ∷ [] ≡ front ++ y ∷ back → ((front ≡ xs) × (last ≡ y)) ⊎ ((rest : List A) × (xs ≡ front ++ y ∷ rest))
split_end [] last [] y back e = inl (refl, cc)
split_end [] last (x ∷ front) y back e = absurd (no_cons front y back (let rest : [] ≡ front ++ y ∷ back = cc in rest))
split_end {A} (x ∷ xs) last [] y back e = let same : x ≡ y = cc in inr (xs, ap (λ (z : A). z ∷ xs) same)
split_end {A} (x ∷ xs) last (z ∷ front) y back e =
    let same : x ≡ z = cc in
    let rest : xs ++ last ∷ [] ≡ front ++ y ∷ back = cc in
    ⊎_elim
    (λ (here : (front ≡ xs) × (last ≡ y)). inl (ap (λ (w : A). w ∷ front) (sym same) ∙ ap (λ (l : List A). x ∷ l) here.0, here.1))
    (λ (earlier : (r : List A) × (xs ≡ front ++ y ∷ r)). inr (earlier.0, ap (λ (l : List A). x ∷ l) earlier.1 ∙ ap (λ (w : A). w ∷ (front ++ y ∷ earlier.0)) same))
    (split_end xs last front y back rest)

-- ---- whether a check is open, by what who 0 has done

abbrev IsOpen : Caller → Type 0
IsOpen c = (c.looked ≡ true) × (c.drawn ≡ None) × (c.spent ≡ false)

told_open : (c : Caller) (name : BlobName) (told : Option Bytes) → IsOpen (caller_told c name told) → IsOpen c
told_open c name None is_open = is_open
told_open c name (Some bytes) is_open = is_open

wrote_open : (c : Caller) (name : BlobName) (contents : Option Bytes) → IsOpen (caller_wrote c name contents) → IsOpen c
wrote_open c name None is_open = is_open
wrote_open c name (Some bytes) is_open = is_open

blob_open : (f : Formats) (c : Caller) (name : BlobName) (reply : Reply) (image : Option Image) → IsOpen (caller_after f c 0 (ReadStep (ReadBlob name)) reply image) → IsOpen c
blob_open f c name WasFetched image is_open = told_open c name (told_blob f image name) is_open
blob_open f c name reply image is_open = is_open

commit_open : (f : Formats) (c : Caller) (name : BlobName) (reply : Reply) (image : Option Image) → IsOpen (caller_after f c 0 (ReadStep (CommitTest name)) reply image) → IsOpen c
commit_open f c name WasDone image is_open = wrote_open c name (told_blob f image name) is_open
commit_open f c name reply image is_open = is_open

remove_open : (f : Formats) (c : Caller) (names : List BlobName) (reply : Reply) (image : Option Image) → IsOpen (caller_after f c 0 (ReadStep (RemoveTests names)) reply image) → IsOpen c
remove_open f c names WasRemoved image is_open = is_open
remove_open f c names reply image is_open = is_open

verified_open : (f : Formats) (c : Caller) (reply : Reply) (image : Option Image) → IsOpen (caller_after f c 0 (ReadStep VerifiedAll) reply image) → IsOpen c
verified_open f c HasEnded image is_open = absurd (false≢true is_open.0)
verified_open f c reply image is_open = is_open

failed_open : (f : Formats) (c : Caller) (why : Why) (reply : Reply) (image : Option Image) → IsOpen (caller_after f c 0 (ReadStep (ReadFails why)) reply image) → IsOpen c
failed_open f c why HasEnded image is_open = absurd (false≢true is_open.0)
failed_open f c why reply image is_open = is_open

-- no further step of a verification opens a check
further_open : (f : Formats) (c : Caller) (read : Read) (reply : Reply) (image : Option Image) → IsFurther read → IsOpen (caller_after f c 0 (ReadStep read) reply image) → IsOpen c
further_open f c (ReadBlob name) reply image further is_open = blob_open f c name reply image is_open
further_open f c (BeginTest name) reply image further is_open = is_open
further_open f c (CommitTest name) reply image further is_open = commit_open f c name reply image is_open
further_open f c (RemoveTests names) reply image further is_open = remove_open f c names reply image is_open
further_open f c VerifiedAll reply image further is_open = verified_open f c reply image is_open
further_open f c (ReadFails why) reply image further is_open = failed_open f c why reply image is_open
further_open f c read reply image further is_open = absurd further

-- ---- nor does a draw

abbrev OfDraw : Step → Reply → Type 0
OfDraw (ReadStep DrawTest) (DrawnFrom first) = Unit {0}
OfDraw (ReadStep DrawTest) (Refused (IdsSpent next)) = Unit {0}
OfDraw (ReadStep DrawTest) reply = ⊥
OfDraw step reply = Unit {0}

read_draws : (f : Formats) (w : World) (who : ℕ) (read : Read) (reply : Reply) (image : Option Image) → ReadAllows f w who read reply image → OfDraw (ReadStep read) reply
read_draws f w who read reply image (ReadFound k name im stored by told) = tt
read_draws f w who read reply image a = tt

verify_draws : (f : Formats) (w : World) (read : Read) (reply : Reply) (image : Option Image) → VerifyAllows f w read reply image → OfDraw (ReadStep read) reply
verify_draws f w read reply image (DrawingTest im may fits same) = tt
verify_draws f w read reply image other = tt

draws : (f : Formats) (size : ℕ) (w : World) (who : ℕ) (step : Step) (reply : Reply) (image : Option Image) → Allows f size w who step reply image → OfDraw step reply
draws f size w who step reply image (allowed.Reading k read rep im a same) = read_draws f w k read rep im a
draws f size w who step reply image (allowed.Verifying read rep im a) = verify_draws f w read rep im a
draws f size w who step reply image a = tt

some_not_none : (n : ℕ) → ◌≡◌ {A = Option ℕ} (Some n) None → ⊥
some_not_none n e = cc

draw_closed : (f : Formats) (c : Caller) (reply : Reply) (image : Option Image) → OfDraw (ReadStep DrawTest) reply → IsOpen (caller_after f c 0 (ReadStep DrawTest) reply image) → ⊥
draw_closed f c (DrawnFrom first) image of is_open = some_not_none first is_open.1
draw_closed f c (Refused (IdsSpent next)) image of is_open = true≢false is_open.2
draw_closed f c reply image of is_open = of

-- ---- worlds in which no check is open, or that are deposed

-- who 0 has no ticket
abbrev pub NoneZero : Start → Type 0
NoneZero s = (log : List Moment) → ticket_of s log 0 ≡ no_ticket

abbrev IsSafe : Start → List Moment → Type 0
IsSafe s log = (IsOpen (caller_of s log) → ⊥) ⊎ ((world_of s log).deposed ≡ true)

module _ (s : Start) (log : List Moment) (m : Moment) (legal : Legal s (log ++ m ∷ [])) where
  is_allowed : Allowed (formats_of s) s.part_size (world_of s log) m
  is_allowed = (legal_one (formats_of s) s.part_size s.world log m legal).1.0

  caller_then : (step : Step) → m.entry.who ≡ 0 → m.entry.step ≡ step → caller_of s (log ++ m ∷ []) ≡ caller_after (formats_of s) (caller_of s log) 0 step m.entry.reply m.image
  caller_then step who is =
      caller_one s log m
      ∙ ap (λ (k : ℕ). caller_after (formats_of s) (caller_of s log) k m.entry.step m.entry.reply m.image) who
      ∙ ap (λ (x : Step). caller_after (formats_of s) (caller_of s log) 0 x m.entry.reply m.image) is

  dead_then : (world_of s log).deposed ≡ true → (world_of s (log ++ m ∷ [])).deposed ≡ true
  dead_then dead = elim is_allowed.answered [
    | inl alive ↦ absurd (true≢false (sym dead ∙ alive.0))
    | inr blocked ↦ ap (λ (w : World). w.deposed) (world_one (formats_of s) s.world log m ∙ blocked_stays (formats_of s) (world_of s log) m blocked) ∙ dead
  ]

  safe_further : (read : Read) → m.entry.who ≡ 0 → m.entry.step ≡ ReadStep read → IsFurther read → IsSafe s log → IsSafe s (log ++ m ∷ [])
  safe_further read who is further (inl none) = inl (λ is_open. none (further_open (formats_of s) (caller_of s log) read m.entry.reply m.image further (subst IsOpen (caller_then (ReadStep read) who is) is_open)))
  safe_further read who is further (inr dead) = inr (dead_then dead)

  -- who 0 has no ticket, so that no delete blocks its steps
  client_deposed : NoneZero s → (refusal : Refusal) → m.entry.who ≡ 0 → Blocks (world_of s log) m.entry.who m.entry.step refusal → (world_of s log).deposed ≡ true
  client_deposed none _ who (ByFailedSwap place deposed) = deposed
  client_deposed none _ who (ByDelete by undeposed a) =
      let there : ticket_of s log 0 ≡ a.t = ap (λ (k : ℕ). or_no_ticket (fin.get (world_of s log).tickets k)) (sym who) ∙ ap or_no_ticket a.out.there in
      absurd (true≢false (sym a.out.out ∙ ap (λ (t : Ticket). t.out) (sym there ∙ none log)))

  safe_draw : NoneZero s → m.entry.who ≡ 0 → m.entry.step ≡ ReadStep DrawTest → IsSafe s (log ++ m ∷ [])
  safe_draw none who is = elim is_allowed.answered [
    | inl alive ↦ inl (λ is_open. draw_closed (formats_of s) (caller_of s log) m.entry.reply m.image
        (subst (λ (x : Step). OfDraw x m.entry.reply) is (draws (formats_of s) s.part_size (world_of s log) m.entry.who m.entry.step m.entry.reply m.image alive.1)) (subst IsOpen (caller_then (ReadStep DrawTest) who is) is_open))
    | inr blocked ↦ inr (dead_then (client_deposed none blocked.refusal who blocked.blocks))
  ]

  -- so it isn't the end of a check that failed
  safe_end : (why : Why) → m.entry.reply ≡ HasEnded → IsSafe s log → IsChecking (world_of s log) → ⊥
  safe_end why reply (inl none) is_open = none (is_open.looked, is_open.undrawn, is_open.unspent)
  safe_end why reply (inr dead) is_open = elim is_allowed.answered [
    | inl alive ↦ true≢false (sym dead ∙ alive.0)
    | inr blocked ↦ no_refusal blocked.refusal (sym reply ∙ blocked.refused)
  ]
    where
      no_refusal : (refusal : Refusal) → HasEnded ≡ Refused refusal → ⊥
      no_refusal refusal e = cc

-- ---- one moment more

-- of the end of each check that failed this holds
abbrev pub FailAs : (List Moment → Why → Type 0) → Start → List Moment → Type 0
FailAs P s log = (front back : List Moment) (m : Moment) (why : Why) → log ≡ front ++ m ∷ back → m.entry.who ≡ 0 → m.entry.step ≡ ReadStep (ReadFails why) → m.entry.reply ≡ HasEnded → IsChecking (world_of s front) → P front why

-- nothing does, so that none failed
abbrev pub Never : List Moment → Why → Type 0
Never front why = ⊥

-- it names the first blob that is damaged
abbrev pub NamesFirst : Start → List Moment → Why → Type 0
NamesFirst s front why = NamesOne (FirstOf s front) why

pub fails_other : (P : List Moment → Why → Type 0) (s : Start) (log : List Moment) (m : Moment) → ((why : Why) → m.entry.who ≡ 0 → m.entry.step ≡ ReadStep (ReadFails why) → ⊥) → FailAs P s log → FailAs P s (log ++ m ∷ [])
fails_other P s log m other was front back x why is who step reply is_open = elim (split_end log m front x back is) [
  | inl last ↦ absurd (other why (ap (λ (y : Moment). y.entry.who) last.1 ∙ who) (ap (λ (y : Moment). y.entry.step) last.1 ∙ step))
  | inr before ↦ was front before.0 x why before.1 who step reply is_open
]

fails_one : (P : List Moment → Why → Type 0) (s : Start) (log : List Moment) (m : Moment) → Legal s (log ++ m ∷ []) → IsSafe s log → FailAs P s log → FailAs P s (log ++ m ∷ [])
fails_one P s log m legal safe was front back x why is who step reply is_open = elim (split_end log m front x back is) [
  | inl last ↦ absurd (safe_end s log m legal why (ap (λ (y : Moment). y.entry.reply) last.1 ∙ reply) safe (subst (λ (l : List Moment). IsChecking (world_of s l)) last.0 is_open))
  | inr before ↦ was front before.0 x why before.1 who step reply is_open
]

fails_further : (P : List Moment → Why → Type 0) (s : Start) (log rest : List Moment) → AllFurther rest → Legal s (log ++ rest) → IsSafe s log → FailAs P s log → FailAs P s (log ++ rest)
fails_further P s log [] all legal safe was = subst (FailAs P s) (sym (append-nil log)) was
fails_further P s log (m ∷ rest) all legal safe was =
    let both : (log ++ m ∷ []) ++ rest ≡ log ++ m ∷ rest = append_assoc log (m ∷ []) rest in
    let whole : Legal s ((log ++ m ∷ []) ++ rest) = subst (Legal s) (sym both) legal in
    let one : Legal s (log ++ m ∷ []) = legal_front (formats_of s) s.part_size (log ++ m ∷ []) rest s.world whole in
    subst (FailAs P s) both (fails_further P s (log ++ m ∷ []) rest all.2 whole (safe_further s log m one all.1.0 all.0 all.1.1 all.1.2 safe) (fails_one P s log m one safe was))

draw_no_end : (why : Why) → ReadStep DrawTest ≡ ReadStep (ReadFails why) → ⊥
draw_no_end why e = cc

-- a verification ends no check
pub begun_fails : (P : List Moment → Why → Type 0) (s : Start) → NoneZero s → (old new : List Moment) → HasBegun old new → Legal s new → FailAs P s old → FailAs P s new
begun_fails P s none_zero old new h legal was =
    let both : (old ++ h.draw ∷ []) ++ h.rest ≡ new = append_assoc old (h.draw ∷ []) h.rest ∙ sym h.is in
    let whole : Legal s ((old ++ h.draw ∷ []) ++ h.rest) = subst (Legal s) (sym both) legal in
    let one : Legal s (old ++ h.draw ∷ []) = legal_front (formats_of s) s.part_size (old ++ h.draw ∷ []) h.rest s.world whole in
    subst (FailAs P s) both
    (fails_further P s (old ++ h.draw ∷ []) h.rest h.all whole (safe_draw s old h.draw one none_zero h.drawer h.drew) (fails_other P s old h.draw (λ why who is. draw_no_end why (sym h.drew ∙ is)) was))

pub maybe_fails : (P : List Moment → Why → Type 0) (s : Start) → NoneZero s → (old new : List Moment) → BeganOne old new → Legal s new → FailAs P s old → FailAs P s new
maybe_fails P s none_zero old new (NotBegun is) legal was = subst (FailAs P s) (sym is) was
maybe_fails P s none_zero old new (Begun draw rest is drawer drew all) legal was = begun_fails P s none_zero old new (record { draw = draw; rest = rest; is = is; drawer = drawer; drew = drew; all = all }) legal was

-- ---- checks that ended well

abbrev pub IsNoCheckEnd : Moment → Type 0
IsNoCheckEnd m = (snapshots blobs : ℕ) → m.entry.step ≡ ReadStep (CheckedAll snapshots blobs) → m.entry.reply ≢ HasEnded

checked_one : (s : Start) (log : List Moment) (m : Moment) → IsNoCheckEnd m → AreChecked s log → AreChecked s (log ++ m ∷ [])
checked_one s log m none was front back x snapshots blobs is who step reply = elim (split_end log m front x back is) [
  | inl last ↦ absurd (none snapshots blobs (ap (λ (y : Moment). y.entry.step) last.1 ∙ step) (ap (λ (y : Moment). y.entry.reply) last.1 ∙ reply))
  | inr before ↦ was front before.0 x snapshots blobs before.1 who step reply
]

pub checked_more : (s : Start) (log more : List Moment) → ((m : Moment) → Has more m → IsNoCheckEnd m) → AreChecked s log → AreChecked s (log ++ more)
checked_more s log [] none was = subst (AreChecked s) (sym (append-nil log)) was
checked_more s log (m ∷ more) none was = subst (AreChecked s) (append_assoc log (m ∷ []) more) (checked_more s (log ++ m ∷ []) more (λ x h. none x (inr h)) (checked_one s log m (none m (inl refl)) was))

no_check_read : (read : Read) (snapshots blobs : ℕ) → IsFurther read → ReadStep read ≡ ReadStep (CheckedAll snapshots blobs) → ⊥
no_check_read read snapshots blobs further e = let same : read ≡ CheckedAll snapshots blobs = cc in subst IsFurther same further

further_none : (rest : List Moment) → AllFurther rest → (m : Moment) → Has rest m → IsNoCheckEnd m
further_none [] all m none snapshots blobs step reply = none
further_none (x ∷ rest) all m (inl same) snapshots blobs step reply = no_check_read all.1.0 snapshots blobs all.1.2 (sym all.1.1 ∙ ap (λ (y : Moment). y.entry.step) same ∙ step)
further_none (x ∷ rest) all m (inr later) snapshots blobs step reply = further_none rest all.2 m later snapshots blobs step reply

draw_no_check : (snapshots blobs : ℕ) → ReadStep DrawTest ≡ ReadStep (CheckedAll snapshots blobs) → ⊥
draw_no_check snapshots blobs e = cc

pub begun_checked : (s : Start) (old new : List Moment) → HasBegun old new → AreChecked s old → AreChecked s new
begun_checked s old new h was =
    subst (AreChecked s) (sym h.is)
    (checked_more s old (h.draw ∷ h.rest)
    (λ m has. ⊎_elim (λ (same : h.draw ≡ m). λ snapshots blobs step reply. draw_no_check snapshots blobs (sym h.drew ∙ ap (λ (y : Moment). y.entry.step) same ∙ step)) (λ (later : Has h.rest m). further_none h.rest h.all m later) has)
    was)

pub maybe_checked : (s : Start) (old new : List Moment) → BeganOne old new → AreChecked s old → AreChecked s new
maybe_checked s old new (NotBegun is) was = subst (AreChecked s) (sym is) was
maybe_checked s old new (Begun draw rest is drawer drew all) was = begun_checked s old new (record { draw = draw; rest = rest; is = is; drawer = drawer; drew = drew; all = all }) was
