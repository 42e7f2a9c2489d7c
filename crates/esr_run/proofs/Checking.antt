-- What a line that asks for a check leaves.
use Rattle.std.proofs.Common.{◌≡◌, ◌≢◌, ℕ, ◌+◌, ◌==◌, ◌&&◌, if◌then◌else◌, Bool, true, false, true≢false, List, [], ◌∷◌, ◌++◌, append-nil, append_assoc, Option, nat_cmp, Result, Ok, Err, IfErr, refl, sym, ap, ◌∙◌, subst, inl, inr, ⊎_elim, arith}
use Rattle.std.specs.FinMap.{FinMap}
use Rattle.std.specs.FinMap as fin
use Rattle.std.proofs.Math.Bool.{and-false}
use Rattle.esr_model.specs.Lists.{Has-left}
use Rattle.esr_model.specs.Names.{BlobName}
use Rattle.esr_model.specs.Values.{Has, Formats}
use Rattle.esr_model.specs.Image.{Image}
use Rattle.esr_core.specs.World.{World, Ticket, Reader}
use Rattle.esr_core.specs.Tracked.{Tracked}
use Rattle.esr_core.specs.Allowed as allowed
use Rattle.esr_core.specs.Allowed.{Allows, Allowed}
use Rattle.esr_core.specs.Entry.{Given, Read, ReadBlob, CheckedAll, VerifiedAll, ReadFails, Step, LookStep, ReadStep, Reply, Gave, Looked, DeposedAt, Refusal, Refused, HasEnded, Entry, Moment}
use Rattle.esr_desk.specs.declared.refusal.StepRefusal.{StepRefusal}
use Rattle.esr_desk.specs.declared.refusal.StepRefusal.TheVariants as steps
use Rattle.esr_desk.specs.declared.refusal.EntryRefusal.{EntryRefusal}
use Rattle.esr_desk.specs.declared.refusal.EntryRefusal.TheVariants as refusals
use Rattle.esr_desk.specs.declared.unit.UnitRefusal.{UnitRefusal}
use Rattle.esr_desk.specs.declared.unit.UnitRefusal.TheVariants as units
use Rattle.esr_desk.specs.Start.{Start, Legal, formats_of, world_of, ticket_of}
use Rattle.esr_desk.specs.Own.{or_no_reader, caller_of}
use Rattle.esr_desk.specs.Evidence.{Evidence}
use Rattle.esr_quiet.specs.Asked.{is_line_ask, as_asked, asked_steps, GrewAsking}
use Rattle.esr_quiet.specs.Numbers.{HasNoTickets}
use Rattle.esr_drive.specs.Takes.{idle_take, idle_takes, takes_more}
use Rattle.esr_drive.specs.Elections.{election, elections, elections_more}
use Rattle.esr_verify.specs.Idle.{IsIdle}
use Rattle.esr_check.specs.Began.{IsOfCheck, AllOfCheck, HasBegun, BeganOne, NotBegun, Begun, AsksOne, NoneChecked, HasEndedCheck}
use Rattle.esr_check.specs.Fetches.{fetched_all}
use Rattle.esr_check.specs.Checked.{AreFetched, HasChecked}
use Rattle.esr_check.specs.First.{AreFirst}
use Rattle.esr_check.specs.Refused.{StopsCheck, IsCheckRefused}
use Rattle.esr_run.specs.Laws.{StepsStay}
use Rattle.esr_run.specs.Checked.{AreChecked, HasLooked}
use Rattle.esr_run.specs.Made.{MadeFirst, AreIn, LineMade, LineRests, LineSpends, WasLookRefused, CheckEnds}
use Rattle.esr_run.specs.Verified.{AreVerified, AreBegun, AreClosed, AreWhole, MayVerify, VerifiesOn}
use Rattle.esr_run.proofs.Completing.{in_middle}
use Rattle.esr_run.proofs.Making.{world_one, legal_one, legal_front, same_or_not, all_entries}
use Rattle.esr_run.proofs.Taking.{no_take, no_elect}
use Rattle.esr_run.proofs.Checks.{split_end, IsNoCheckEnd, checked_more}
use Rattle.esr_run.proofs.Verifying.{NoShard, AllRead, StandsAfter, TurnsAre, all_asked, none_asked, reads_in, reads_takes, reads_elect, same_read, none_idle, closed_one, begun_one, verified_more}

-- the answer of a line by that of its check
abbrev pub check_result : {X : Type 0} → Result X UnitRefusal → Result Unit StepRefusal
check_result (Ok x) = Ok tt
check_result (Err (units.Failed why)) = Ok tt
check_result (Err (units.Stopped refusal)) = Err refusal
check_result (Err units.Stale) = Ok tt

-- ---- what it adds asks for its look alone

check_asks : (read : Read) → IsOfCheck read → is_line_ask (ReadStep read) ≡ false
check_asks (ReadBlob name) h = refl
check_asks (CheckedAll snapshots blobs) h = refl
check_asks (ReadFails why) h = refl
check_asks read h = absurd h

unasked_more : (rest : List Moment) → AllOfCheck rest → asked_steps rest ≡ []
unasked_more [] all = refl
unasked_more (m ∷ rest) all =
    ap (λ (b : Bool). if b then as_asked m.entry.step ∷ asked_steps rest else asked_steps rest)
    (ap (λ (b : Bool). (m.entry.who == 0) && b) (ap is_line_ask all.1.1 ∙ check_asks all.1.0 all.1.2) ∙ and-false (m.entry.who == 0))
    ∙ unasked_more rest all.2

look_asked : (m : Moment) (rest : List Moment) → m.entry.who ≡ 0 → m.entry.step ≡ LookStep → AllOfCheck rest → asked_steps (m ∷ rest) ≡ LookStep ∷ []
look_asked m rest who step all =
    ap (λ (b : Bool). if b then as_asked m.entry.step ∷ asked_steps rest else asked_steps rest) (ap (λ (k : ℕ). (k == 0) && is_line_ask m.entry.step) who ∙ ap is_line_ask step)
    ∙ ap (λ (x : Step). as_asked x ∷ asked_steps rest) step ∙ ap (λ (l : List Step). LookStep ∷ l) (unasked_more rest all)

begun_asks : (s : Start) (old new : List Moment) → HasBegun old new → (Legal s old → Legal s new) → GrewAsking s (LookStep ∷ []) old new
begun_asks s old new h legal = record { more = h.look ∷ h.rest; is = h.is; legal = legal; asked = λ alone. look_asked h.look h.rest h.looker h.looks h.all }

front_asked : (s : Start) (old new : List Moment) → BeganOne old new → (Legal s old → Legal s new) → MadeFirst s (LookStep ∷ []) old new
front_asked s old new (NotBegun is) legal = none_asked s (LookStep ∷ []) old new is
front_asked s old new (Begun h) legal = all_asked s (LookStep ∷ []) old new (begun_asks s old new h legal)

pub check_made : {X : Type 0} (s : Start) (old new : List Moment) (r : Result X UnitRefusal) → AsksOne old new r → (Legal s old → Legal s new) → LineMade s (LookStep ∷ []) old new (check_result r)
check_made s old new (Err (units.Stopped steps.Memory)) h legal = front_asked s old new h legal
check_made s old new (Err (units.Stopped steps.TurnsSpent)) h legal = front_asked s old new h legal
check_made s old new (Err units.Stale) h legal = absurd h
check_made s old new r h legal = begun_asks s old new h legal

-- ---- its steps after the look read, and restore no shard

not_shard : (read : Read) → IsOfCheck read → NoShard read
not_shard (ReadBlob name) h = tt
not_shard (CheckedAll snapshots blobs) h = tt
not_shard (ReadFails why) h = tt
not_shard read h = absurd h

check_reads : (rest : List Moment) → AllOfCheck rest → AllRead rest
check_reads [] all = tt
check_reads (m ∷ rest) all = (all.0, (all.1.0, all.1.1, not_shard all.1.0 all.1.2), check_reads rest all.2)

-- ---- it leaves tickets

-- a look gives no unit
abbrev OfLook : Step → Reply → Type 0
OfLook LookStep (Gave ticket op unit) = ⊥
OfLook step reply = Unit {0}

looks_so : (f : Formats) (size : ℕ) (w : World) (who : ℕ) (step : Step) (reply : Reply) (image : Option Image) → Allows f size w who step reply image → OfLook step reply
looks_so f size w who step reply image (allowed.Looking im same) = tt
looks_so f size w who step reply image a = tt

no_gave : (reply : Reply) (ticket op : ℕ) (unit : Given) → OfLook LookStep reply → reply ≡ Gave ticket op unit → ⊥
no_gave reply ticket op unit of is = subst (λ (r : Reply). OfLook LookStep r) is of

refused_gave : (refusal : Refusal) (ticket op : ℕ) (unit : Given) → Refused refusal ≡ Gave ticket op unit → ⊥
refused_gave refusal ticket op unit e = cc

module _ (laws : StepsStay) (s : Start) (numbered : HasNoTickets s) (ops : Tracked s.world) where
  look_none : (log : List Moment) (m : Moment) → Allowed (formats_of s) s.part_size (world_of s log) m → m.entry.step ≡ LookStep → (ticket op : ℕ) (unit : Given) → m.entry.reply ≢ Gave ticket op unit
  look_none log m a step ticket op unit is = elim a.answered [
    | inl alive ↦ no_gave m.entry.reply ticket op unit (subst (λ (x : Step). OfLook x m.entry.reply) step (looks_so (formats_of s) s.part_size (world_of s log) m.entry.who m.entry.step m.entry.reply m.image alive.1)) is
    | inr blocked ↦ refused_gave blocked.refusal ticket op unit (sym blocked.refused ∙ is)
  ]

  look_in : (log : List Moment) (m : Moment) → m.entry.who ≡ 0 → m.entry.step ≡ LookStep → Legal s (log ++ m ∷ []) → AreIn s log → AreIn s (log ++ m ∷ [])
  look_in log m who step legal rest =
      let f = formats_of s in
      let both = legal_one f s.part_size s.world log m legal in
      let tracked : Tracked (world_of s log) = laws.tracked f s.part_size s.world log ops both.0 in
      record {
        tickets = λ k. ⊎_elim
            (λ (e : k ≡ 0). ap (λ (j : ℕ). (ticket_of s (log ++ m ∷ []) j).out) e ∙ ap (λ (t : Ticket). t.out) (laws.none s (log ++ m ∷ []) numbered))
            (λ (n : k ≢ 0). ap (λ (t : Ticket). t.out) (laws.nothing s log m k legal who (look_none log m both.1.0 step) n) ∙ rest.tickets k)
            (same_or_not k);
        readers = λ k. ap (λ (x : FinMap nat_cmp Reader). (or_no_reader (fin.get x k)).out) (ap (λ (w : World). w.readers) (world_one f s.world log m) ∙ laws.looks f s.part_size (world_of s log) m tracked both.1.0 step) ∙ rest.readers k;
      }

  begun_in : (old new : List Moment) → HasBegun old new → Legal s new → AreIn s old → AreIn s new
  begun_in old new h legal rest =
      let both : (old ++ h.look ∷ []) ++ h.rest ≡ new = append_assoc old (h.look ∷ []) h.rest ∙ sym h.is in
      let whole : Legal s ((old ++ h.look ∷ []) ++ h.rest) = subst (Legal s) (sym both) legal in
      let one : Legal s (old ++ h.look ∷ []) = legal_front (formats_of s) s.part_size (old ++ h.look ∷ []) h.rest s.world whole in
      subst (AreIn s) both (reads_in laws s numbered (old ++ h.look ∷ []) h.rest (check_reads h.rest h.all) whole (look_in old h.look h.looker h.looks one rest))

  pub check_rests : (X : Type 0) (old new : List Moment) (r : Result X UnitRefusal) → AsksOne old new r → Legal s new → s.earlier_turns ≡ 0 → IfErr r (TurnsAre s new) → AreIn s old → LineRests s new (check_result r)
  check_rests X old new (Ok x) asks legal earlier turns rest = begun_in old new asks legal rest
  check_rests X old new (Err (units.Failed why)) asks legal earlier turns rest = begun_in old new asks legal rest
  check_rests X old new (Err (units.Stopped (steps.Refused refusal))) asks legal earlier turns rest = inl (begun_in old new asks legal rest)
  check_rests X old new (Err (units.Stopped steps.Memory)) asks legal earlier turns rest = tt
  check_rests X old new (Err (units.Stopped steps.TurnsSpent)) asks legal earlier turns rest = all_entries s new earlier turns
  check_rests X old new (Err units.Stale) asks legal earlier turns rest = absurd asks

pub check_spends : {X : Type 0} (s : Start) (new : List Moment) (r : Result X UnitRefusal) → s.earlier_turns ≡ 0 → IfErr r (TurnsAre s new) → LineSpends new (check_result r)
check_spends s new (Err (units.Stopped steps.TurnsSpent)) earlier t = all_entries s new earlier t
check_spends s new r earlier t = tt

pub check_turns : {X S F H T : Type 0} (evidence : Evidence S F H T) (s : Start) (old new : List Moment) (r : Result X UnitRefusal) → IfErr r (IsCheckRefused evidence s old new) → IfErr r (TurnsAre s new)
check_turns evidence s old new (Err (units.Stopped steps.TurnsSpent)) h = h
check_turns evidence s old new r h = tt

-- ---- it takes no unit

begun_takes : (old new : List Moment) → HasBegun old new → idle_takes new ≡ idle_takes old
begun_takes old new h =
    let whole : idle_takes new ≡ idle_takes old + (idle_take h.look.entry.who h.look.entry.step h.look.entry.reply + idle_takes h.rest) = takes_more old (h.look ∷ h.rest) new h.is in
    let look : idle_take h.look.entry.who h.look.entry.step h.look.entry.reply ≡ 0 = ap (λ (k : ℕ). idle_take k h.look.entry.step h.look.entry.reply) h.looker ∙ no_take h.look.entry.step h.look.entry.reply (inr h.looks) in
    let rest : idle_takes h.rest ≡ 0 = reads_takes h.rest (check_reads h.rest h.all) in
    omega (arith, whole, look, rest)

maybe_takes : (old new : List Moment) → BeganOne old new → idle_takes new ≡ idle_takes old
maybe_takes old new (NotBegun is) = ap idle_takes is
maybe_takes old new (Begun h) = begun_takes old new h

pub check_takes : {X : Type 0} (old new : List Moment) (r : Result X UnitRefusal) → AsksOne old new r → idle_takes new ≡ idle_takes old
check_takes old new (Err (units.Stopped steps.Memory)) h = maybe_takes old new h
check_takes old new (Err (units.Stopped steps.TurnsSpent)) h = maybe_takes old new h
check_takes old new (Err units.Stale) h = absurd h
check_takes old new r h = begun_takes old new h

-- ---- nor does it elect

begun_elects : (old new : List Moment) → HasBegun old new → elections new ≡ elections old
begun_elects old new h =
    let whole : elections new ≡ elections old + (election h.look.entry.who h.look.entry.step + elections h.rest) = elections_more old (h.look ∷ h.rest) new h.is in
    let look : election h.look.entry.who h.look.entry.step ≡ 0 = ap (λ (k : ℕ). election k h.look.entry.step) h.looker ∙ no_elect h.look.entry.step (inr h.looks) in
    let rest : elections h.rest ≡ 0 = reads_elect h.rest (check_reads h.rest h.all) in
    omega (arith, whole, look, rest)

maybe_elects : (old new : List Moment) → BeganOne old new → elections new ≡ elections old
maybe_elects old new (NotBegun is) = ap elections is
maybe_elects old new (Begun h) = begun_elects old new h

pub check_elects : {X : Type 0} (old new : List Moment) (r : Result X UnitRefusal) → AsksOne old new r → elections new ≡ elections old
check_elects old new (Err (units.Stopped steps.Memory)) h = maybe_elects old new h
check_elects old new (Err (units.Stopped steps.TurnsSpent)) h = maybe_elects old new h
check_elects old new (Err units.Stale) h = absurd h
check_elects old new r h = begun_elects old new h

-- ---- and it is whole

look_no_read : (read : Read) → LookStep ≡ ReadStep read → ⊥
look_no_read read e = cc

check_stands : (log : List Moment) (m : Moment) (read : Read) → m.entry.step ≡ ReadStep read → IsOfCheck read → HasLooked log → StandsAfter true log m
check_stands log m read step of looked other is = inr (inr (refl, subst IsOfCheck (same_read read other (sym step ∙ is)) of, looked))

begun_rest : (log rest : List Moment) → HasLooked log → AllOfCheck rest → AreBegun true log → AreBegun true (log ++ rest)
begun_rest log [] looked all was = subst (AreBegun true) (sym (append-nil log)) was
begun_rest log (m ∷ rest) looked all was =
    subst (AreBegun true) (append_assoc log (m ∷ []) rest)
    (begun_rest (log ++ m ∷ []) rest (looked.0, Has-left log (m ∷ []) looked.0 looked.1, looked.2, looked.3) all.2 (begun_one true log m (check_stands log m all.1.0 all.1.1 all.1.2 looked) was))

begun_all : (old new : List Moment) → HasBegun old new → AreBegun true old → AreBegun true new
begun_all old new h was =
    subst (AreBegun true) (append_assoc old (h.look ∷ []) h.rest ∙ sym h.is)
    (begun_rest (old ++ h.look ∷ []) h.rest (h.look, in_middle old [] h.look, h.looker, h.looks) h.all (begun_one true old h.look (λ read is. absurd (look_no_read read (sym h.looks ∙ is))) was))

closed_rest : (s : Start) (log rest : List Moment) → AllOfCheck rest → AreClosed s log → AreClosed s (log ++ rest)
closed_rest s log [] all was = subst (AreClosed s) (sym (append-nil log)) was
closed_rest s log (m ∷ rest) all was =
    subst (AreClosed s) (append_assoc log (m ∷ []) rest)
    (closed_rest s (log ++ m ∷ []) rest all.2 (closed_one s log m (λ who asks. absurd (true≢false (sym asks ∙ ap is_line_ask all.1.1 ∙ check_asks all.1.0 all.1.2))) was))

closed_all : (s : Start) (old new : List Moment) → HasBegun old new → IsIdle (caller_of s old) → AreClosed s old → AreClosed s new
closed_all s old new h idle was =
    subst (AreClosed s) (append_assoc old (h.look ∷ []) h.rest ∙ sym h.is)
    (closed_rest s (old ++ h.look ∷ []) h.rest h.all (closed_one s old h.look (λ who asks. idle) was))

-- it ends no verification
no_end_read : (read : Read) → IsOfCheck read → ReadStep read ≡ ReadStep VerifiedAll → ⊥
no_end_read read of e = let same : read ≡ VerifiedAll = cc in subst IsOfCheck same of

look_no_end : LookStep ≡ ReadStep VerifiedAll → ⊥
look_no_end e = cc

rest_no_end : (rest : List Moment) → AllOfCheck rest → (m : Moment) → Has rest m → m.entry.step ≡ ReadStep VerifiedAll → m.entry.reply ≢ HasEnded
rest_no_end [] all m none step reply = none
rest_no_end (x ∷ rest) all m (inl same) step reply = no_end_read all.1.0 all.1.2 (sym all.1.1 ∙ ap (λ (y : Moment). y.entry.step) same ∙ step)
rest_no_end (x ∷ rest) all m (inr later) step reply = rest_no_end rest all.2 m later step reply

verified_all : (s : Start) (workers : ℕ) (old new : List Moment) → HasBegun old new → AreVerified s workers old → AreVerified s workers new
verified_all s workers old new h was =
    subst (AreVerified s workers) (sym h.is)
    (verified_more s workers old (h.look ∷ h.rest)
    (λ m has. ⊎_elim (λ (same : h.look ≡ m). λ step reply. look_no_end (sym h.looks ∙ ap (λ (y : Moment). y.entry.step) same ∙ step)) (λ (later : Has h.rest m). rest_no_end h.rest h.all m later) has) was)

err_checked : (s : Start) (old new : List Moment) → NoneChecked old new → AreChecked s old → AreChecked s new
err_checked s old new h was = subst (AreChecked s) (sym h.is) (checked_more s old h.more (λ m has snapshots blobs step. h.none m snapshots blobs has step) was)

-- ---- one that ended well

fetch_no_end : (name : BlobName) (snapshots blobs : ℕ) → ReadStep (ReadBlob name) ≡ ReadStep (CheckedAll snapshots blobs) → ⊥
fetch_no_end name snapshots blobs e = cc

look_no_check : (snapshots blobs : ℕ) → LookStep ≡ ReadStep (CheckedAll snapshots blobs) → ⊥
look_no_check snapshots blobs e = cc

fetches_no_end : (moments : List Moment) (names : List BlobName) → AreFetched moments names → (m : Moment) → Has moments m → IsNoCheckEnd m
fetches_no_end [] names are m none snapshots blobs step reply = none
fetches_no_end (x ∷ moments) [] are m has snapshots blobs step reply = are
fetches_no_end (x ∷ moments) (n ∷ names) are m (inl same) snapshots blobs step reply = fetch_no_end n snapshots blobs (sym (ap (λ (e : Entry). e.step) are.0) ∙ ap (λ (y : Moment). y.entry.step) same ∙ step)
fetches_no_end (x ∷ moments) (n ∷ names) are m (inr later) snapshots blobs step reply = fetches_no_end moments names are.1 m later snapshots blobs step reply

same_counts : (a b c d : ℕ) → ReadStep (CheckedAll a b) ≡ ReadStep (CheckedAll c d) → (a ≡ c) × (b ≡ d)
same_counts a b c d e = (cc, cc)

ok_checked : (s : Start) (old new : List Moment) (snapshots blobs : ℕ) → HasChecked s old new snapshots blobs → AreChecked s old → AreChecked s new
ok_checked s old new snapshots blobs h was front back m a b is who step reply =
    let look : Moment = record { entry = record { who = 0; step = LookStep; reply = Looked (world_of s old).root.snapshots (world_of s old).safe }; image = h.look } in
    let end : Moment = record { entry = record { who = 0; step = ReadStep (CheckedAll snapshots blobs); reply = HasEnded }; image = h.end } in
    let both : (old ++ look ∷ h.fetches) ++ end ∷ [] ≡ new = sym h.is in
    elim (split_end (old ++ look ∷ h.fetches) end front m back (both ∙ is)) [
      | inl last ↦
          let counts = same_counts snapshots blobs a b (ap (λ (y : Moment). y.entry.step) last.1 ∙ step) in
          let whole : new ≡ front ++ m ∷ [] = sym both ∙ ap (λ (l : List Moment). l ++ end ∷ []) (sym last.0) ∙ ap (λ (y : Moment). front ++ y ∷ []) last.1 in
          (old, subst (λ (n : ℕ). HasChecked s old (front ++ m ∷ []) a n) counts.1 (subst (λ (n : ℕ). HasChecked s old (front ++ m ∷ []) n blobs) counts.0 (subst (λ (l : List Moment). HasChecked s old l snapshots blobs) whole h)))
      | inr before ↦
          checked_more s old (look ∷ h.fetches)
          (λ x has. ⊎_elim (λ (same : look ≡ x). λ n k st rep. look_no_check n k (ap (λ (y : Moment). y.entry.step) same ∙ st)) (λ (later : Has h.fetches x). fetches_no_end h.fetches h.names h.are x later) has) was
          front before.0 m a b before.1 who step reply
    ]

pub check_well : (s : Start) (workers : ℕ) (old new : List Moment) (snapshots blobs : ℕ) → HasBegun old new → HasChecked s old new snapshots blobs → (AreFirst s old → AreFirst s new) → (Legal s old → Legal s new)
    → MayVerify s workers true old
    → MayVerify s workers true new
check_well s workers old new snapshots blobs asks ok first legal may = record {
  whole = record {
    verified = verified_all s workers old new asks may.whole.verified;
    checked = ok_checked s old new snapshots blobs ok may.whole.checked;
    begun = begun_all old new asks may.whole.begun;
    closed = closed_all s old new asks may.idle may.whole.closed;
    unchecked = λ no. absurd (true≢false no);
    first = first may.whole.first;
  };
  idle = subst IsIdle (sym ok.closed) none_idle;
  legal = legal may.legal;
}

-- ---- one that didn't

whole_then : (s : Start) (workers : ℕ) (old new : List Moment) → HasBegun old new → NoneChecked old new → (AreFirst s old → AreFirst s new) → MayVerify s workers true old → AreWhole s workers true new
whole_then s workers old new asks none first may = record {
  verified = verified_all s workers old new asks may.whole.verified;
  checked = err_checked s old new none may.whole.checked;
  begun = begun_all old new asks may.whole.begun;
  closed = closed_all s old new asks may.idle may.whole.closed;
  unchecked = λ no. absurd (true≢false no);
  first = first may.whole.first;
}

whole_maybe : (s : Start) (workers : ℕ) (old new : List Moment) → BeganOne old new → NoneChecked old new → (AreFirst s old → AreFirst s new) → MayVerify s workers true old → AreWhole s workers true new
whole_maybe s workers old new (NotBegun is) none first may = subst (AreWhole s workers true) (sym is) may.whole
whole_maybe s workers old new (Begun h) none first may = whole_then s workers old new h none first may

deposed_caller : (s : Start) (old new : List Moment) (refusal : EntryRefusal) → StopsCheck s old new (steps.Refused refusal) → caller_of s new ≡ caller_of s old
deposed_caller s old new (refusals.Deposed entry) h = h.1
deposed_caller s old new refusal h = absurd h

pub check_refused : (X : Type 0) {S F H T : Type 0} (evidence : Evidence S F H T) (s : Start) (workers : ℕ) (old new : List Moment) (e : UnitRefusal) → AsksOne {X = X} old new (Err e) → IsCheckRefused evidence s old new e
    → NoneChecked old new → (AreFirst s old → AreFirst s new) → (Legal s old → Legal s new) → MayVerify s workers true old → VerifiesOn s workers true new (check_result {X = X} (Err e))
check_refused X evidence s workers old new (units.Failed why) asks err none first legal may = record { whole = whole_then s workers old new asks none first may; idle = subst IsIdle (sym err.0) none_idle; legal = legal may.legal }
check_refused X evidence s workers old new (units.Stopped (steps.Refused refusal)) asks err none first legal may =
    record { whole = whole_then s workers old new asks none first may; idle = subst IsIdle (sym (deposed_caller s old new refusal err)) may.idle; legal = legal may.legal }
check_refused X evidence s workers old new (units.Stopped steps.Memory) asks err none first legal may = whole_maybe s workers old new asks none first may
check_refused X evidence s workers old new (units.Stopped steps.TurnsSpent) asks err none first legal may = whole_maybe s workers old new asks none first may
check_refused X evidence s workers old new units.Stale asks err none first legal may = absurd asks

-- ---- it has ended

pub well_ended : (s : Start) (old new : List Moment) (snapshots blobs : ℕ) → HasChecked s old new snapshots blobs → HasEndedCheck old new
well_ended s old new snapshots blobs h = record {
  look = record { entry = record { who = 0; step = LookStep; reply = Looked (world_of s old).root.snapshots (world_of s old).safe }; image = h.look };
  fetches = h.fetches;
  end = record { entry = record { who = 0; step = ReadStep (CheckedAll snapshots blobs); reply = HasEnded }; image = h.end };
  is = h.is;
  looker = refl;
  looks = refl;
  all = fetched_all h.fetches h.names h.are;
  ender = refl;
  read = CheckedAll snapshots blobs;
  ends = refl;
  is_end = tt;
  ended = refl;
}

same_rest : (a b c : List Moment) → a ++ b ≡ a ++ c → b ≡ c
same_rest [] b c e = e
same_rest (x ∷ a) b c e = same_rest a b c (let rest : a ++ b ≡ a ++ c = cc in rest)

read_no_look : (read : Read) → ReadStep read ≡ LookStep → ⊥
read_no_look read e = cc

no_last_look : (r : List Moment) (m : Moment) → AllOfCheck (r ++ m ∷ []) → m.entry.step ≡ LookStep → ⊥
no_last_look [] m all looks = read_no_look all.1.0 (sym all.1.1 ∙ looks)
no_last_look (x ∷ r) m all looks = no_last_look r m all.2 looks

-- its look was refused
was_refused : (s : Start) (old new : List Moment) (refusal : EntryRefusal) → HasBegun old new → StopsCheck s old new (steps.Refused refusal) → WasLookRefused old new
was_refused s old new (refusals.Deposed entry) h stops =
    let last = stops.0 in
    let m : Moment = record { entry = record { who = 0; step = LookStep; reply = Refused (DeposedAt entry) }; image = last.image } in
    let none : (r : List Moment) → last.front ≡ old ++ h.look ∷ r → ⊥ =
    λ r is. no_last_look r m (subst AllOfCheck (same_rest (old ++ h.look ∷ []) h.rest (r ++ m ∷ [])
    (append_assoc old (h.look ∷ []) h.rest ∙ sym h.is ∙ last.is ∙ ap (λ (l : List Moment). l ++ m ∷ []) is ∙ append_assoc old (h.look ∷ r) (m ∷ []) ∙ sym (append_assoc old (h.look ∷ []) (r ++ m ∷ [])))) h.all) refl in
    elim (split_end last.front m old h.look h.rest (sym last.is ∙ h.is)) [
      | inl here ↦ record {
        look = m;
        is = last.is ∙ ap (λ (l : List Moment). l ++ m ∷ []) (sym here.0);
        looker = refl;
        looks = refl;
        place = entry;
        refused = refl;
      }
      | inr before ↦ absurd (none before.0 before.1)
    ]
was_refused s old new refusal h stops = absurd stops

pub check_ended : (X : Type 0) {S F H T : Type 0} (evidence : Evidence S F H T) (s : Start) (old new : List Moment) (e : UnitRefusal) → AsksOne {X = X} old new (Err e) → IsCheckRefused evidence s old new e
    → CheckEnds old new (check_result {X = X} (Err e))
check_ended X evidence s old new (units.Failed why) asks err = err.2
check_ended X evidence s old new (units.Stopped (steps.Refused refusal)) asks err = was_refused s old new refusal asks err
check_ended X evidence s old new (units.Stopped steps.Memory) asks err = asks
check_ended X evidence s old new (units.Stopped steps.TurnsSpent) asks err = asks
check_ended X evidence s old new units.Stale asks err = absurd asks
