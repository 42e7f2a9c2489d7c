-- What who 0 has made since it began anew stays told over each step.
use Rattle.std.proofs.Common.{◌≡◌, ◌≢◌, ◌≤◌, ℕ, zero, suc, Bool, true, false, List, [], ◌∷◌, Option, Some, None, refl, sym, ap, ◌∙◌, subst, inl, inr, ⊎_elim, arith}
use Rattle.std.specs.Prelude.{if◌then◌else◌}
use Rattle.esr_model.specs.Names.{BlobName}
use Rattle.esr_model.specs.Values.{Bytes, Has, Formats}
use Rattle.esr_model.specs.Image.{Image}
use Rattle.esr_core.specs.World.{World, Caller, no_caller}
use Rattle.esr_core.specs.Entry.{Entry, Read, ReadBlob, RestoredShard, CheckedAll, DrawTest, BeginTest, CommitTest, RemoveTests, VerifiedAll, ReadFails, Step, AskStep, LookStep, ReadStep, Reply, DrawnFrom, WasDone, WasRemoved, WasFetched, WasAbsent, HasEnded, Refusal, Refused, IdsSpent, DeposedAt, Moment}
use Rattle.esr_core.specs.After.{told_blob, is_heard, caller_told, caller_wrote, caller_ended, caller_read, caller_after, after}
use Rattle.esr_core.specs.Past.{is_counted, with_entry, begins_anew, entries_by}
use Rattle.esr_core.specs.Allowed as allowed
use Rattle.esr_core.specs.Allowed.{ReadAllows, VerifyAllows, Allows, Blocks, ByFailedSwap, ByDelete, Allowed}
use Rattle.esr_desk.specs.Made.{counted_or_before}
use Rattle.esr_repo.specs.Client.{HasDrawn, TellsRead, TellsStep, ReadsOwn, TellsClient}
use Rattle.esr_repo.specs.Laws.{Laws}
use Rattle.esr_repo.specs.Tickets.{AreOfOps}
use Rattle.esr_repo.proofs.Callers.{caller_goes}
use Rattle.esr_repo.proofs.Tickets.{entry_who}

-- ---- what was told stays so

pub record Grows (c d : Caller) : Type 0 where
  pub drawn : HasDrawn c → HasDrawn d
  pub spent : c.spent ≡ true → d.spent ≡ true

grows_same : (c : Caller) → Grows c c
grows_same c = record { drawn = λ h. h; spent = λ h. h }

told_up : (c d : Caller) (step : Step) → Grows c d → TellsStep c step → TellsStep d step
told_up c d (ReadStep DrawTest) g h = ⊎_elim (λ (x : HasDrawn c). inl (g.drawn x)) (λ (x : c.spent ≡ true). inr (g.spent x)) h
told_up c d (ReadStep (BeginTest name)) g h = g.drawn h
told_up c d (ReadStep (CommitTest name)) g h = g.drawn h
told_up c d (ReadStep (RemoveTests names)) g h = λ name has. g.drawn (h name has)
told_up c d (ReadStep (ReadBlob name)) g h = λ id test. g.drawn (h id test)
told_up c d step g h = tt

grows_told : (c : Caller) (name : BlobName) (bytes : Option Bytes) → Grows c (caller_told c name bytes)
grows_told c name None = record { drawn = λ h. h; spent = λ h. h }
grows_told c name (Some bytes) = record { drawn = λ h. h; spent = λ h. h }

grows_wrote : (c : Caller) (name : BlobName) (bytes : Option Bytes) → Grows c (caller_wrote c name bytes)
grows_wrote c name None = record { drawn = λ h. h; spent = λ h. h }
grows_wrote c name (Some bytes) = record { drawn = λ h. h; spent = λ h. h }

drew : (first : ℕ) → Some first ≡ None → ⊥
drew first e = cc

-- over a step of who 0 that doesn't begin anew
grows_read : (f : Formats) (c : Caller) (read : Read) (reply : Reply) (image : Option Image) → begins_anew 0 (ReadStep read) ≡ false → Grows c (caller_read f c read reply image)
grows_read f c (ReadBlob name) WasFetched image old = grows_told c name (told_blob f image name)
grows_read f c (ReadBlob name) WasAbsent image old = record { drawn = λ h. h; spent = λ h. h }
grows_read f c (ReadBlob name) reply image old = grows_same c
grows_read f c (RestoredShard files bytes) reply image old = grows_same c
grows_read f c (CheckedAll snapshots blobs) reply image old = absurd cc
grows_read f c DrawTest (DrawnFrom first) image old = record { drawn = λ h. drew first; spent = λ h. h }
grows_read f c DrawTest (Refused (IdsSpent next)) image old = record { drawn = λ h. h; spent = λ h. refl }
grows_read f c (CommitTest name) WasDone image old = grows_wrote c name (told_blob f image name)
grows_read f c (RemoveTests names) WasRemoved image old = record { drawn = λ h. h; spent = λ h. h }
grows_read f c VerifiedAll reply image old = absurd cc
grows_read f c (ReadFails why) reply image old = absurd cc
grows_read f c read reply image old = grows_same c

grows_after : (f : Formats) (c : Caller) (step : Step) (reply : Reply) (image : Option Image) → begins_anew 0 step ≡ false → Grows c (caller_after f c 0 step reply image)
grows_after f c (AskStep command) reply image old = absurd cc
grows_after f c LookStep reply image old = absurd cc
grows_after f c (ReadStep read) reply image old = grows_read f c read reply image old
grows_after f c step reply image old = grows_same c

-- ---- what it has committed

abbrev Committed : Caller → Type 0
Committed c = (name : BlobName) → Has c.committed name → HasDrawn c

committed_either : (first : Bool) (a b : Caller) → Committed a → Committed b → Committed (if first then a else b)
committed_either true a b p q = p
committed_either false a b p q = q

committed_told : (c : Caller) (name : BlobName) (bytes : Option Bytes) → Committed c → Committed (caller_told c name bytes)
committed_told c name None h = h
committed_told c name (Some bytes) h = h

committed_wrote : (c : Caller) (name : BlobName) (bytes : Option Bytes) → HasDrawn c → Committed (caller_wrote c name bytes)
committed_wrote c name None drawn other has = drawn
committed_wrote c name (Some bytes) drawn other has = drawn

committed_ended : (c : Caller) (reply : Reply) → Committed c → Committed (caller_ended c reply)
committed_ended c HasEnded h = λ name has. absurd has
committed_ended c reply h = h

committed_read : (f : Formats) (c : Caller) (read : Read) (reply : Reply) (image : Option Image) → ((name : BlobName) → read ≡ CommitTest name → reply ≡ WasDone → HasDrawn c) → Committed c
    → Committed (caller_read f c read reply image)
committed_read f c (ReadBlob name) WasFetched image own h = committed_told c name (told_blob f image name) h
committed_read f c (ReadBlob name) reply image own h = h
committed_read f c (RestoredShard files bytes) reply image own h = h
committed_read f c (CheckedAll snapshots blobs) reply image own h = committed_ended c reply h
committed_read f c DrawTest (DrawnFrom first) image own h = λ name has. drew first
committed_read f c DrawTest (Refused (IdsSpent next)) image own h = h
committed_read f c (CommitTest name) WasDone image own h = committed_wrote c name (told_blob f image name) (own name refl refl)
committed_read f c (RemoveTests names) WasRemoved image own h = h
committed_read f c VerifiedAll reply image own h = committed_ended c reply h
committed_read f c (ReadFails why) reply image own h = committed_ended c reply h
committed_read f c read reply image own h = h

committed_after : (f : Formats) (c : Caller) (step : Step) (reply : Reply) (image : Option Image) → ((name : BlobName) → step ≡ ReadStep (CommitTest name) → reply ≡ WasDone → HasDrawn c) → Committed c
    → Committed (caller_after f c 0 step reply image)
committed_after f c (AskStep command) reply image own h = committed_either (is_heard reply) no_caller c (λ name has. absurd has) h
committed_after f c LookStep reply image own h = committed_either (is_heard reply) (record no_caller { looked = true }) c (λ name has. absurd has) h
committed_after f c (ReadStep read) reply image own h = committed_read f c read reply image (λ name e d. own name (ap ReadStep e) d) h
committed_after f c step reply image own h = h

-- ---- its own step

module _ (f : Formats) (size : ℕ) (w : World) (of_ops : AreOfOps w) (h : TellsClient w) where
  -- an id was drawn, which is some
  has_drawn : (id : ℕ) → w.caller.drawn ≡ Some id → HasDrawn w.caller
  has_drawn id is none = drew id (sym is ∙ none)

  by_verify : (read : Read) (reply : Reply) (image : Option Image) → VerifyAllows f w read reply image → TellsRead (caller_read f w.caller read reply image) read
  by_verify read reply image (allowed.DrawingTest im may fits same) = inl (drew w.next_id)
  by_verify read reply image (allowed.TestSpent im may fits same) = inr refl
  by_verify read reply image (allowed.BeginningTest name im own same) = has_drawn own.id own.drawn
  by_verify read reply image (allowed.BeginTestFails name im own same) = has_drawn own.id own.drawn
  by_verify read reply image (allowed.CommittingTest name bytes im own new adds) = (grows_wrote w.caller name (told_blob f image name)).drawn (has_drawn own.id own.drawn)
  by_verify read reply image (allowed.TestTaken name im own there) = has_drawn own.id own.drawn
  by_verify read reply image (allowed.CommitTestFails name bytes im own left) = has_drawn own.id own.drawn
  by_verify read reply image (allowed.RemovingTests names im may gone) = λ name has. h.committed name (may.committed name has)
  by_verify read reply image (allowed.RemoveTestsFails names im may less) = λ name has. h.committed name (may.committed name has)
  by_verify read reply image other = tt

  by_read : (read : Read) (reply : Reply) (image : Option Image) → ReadsOwn w.caller 0 (ReadStep read) → ReadAllows f w 0 read reply image → TellsRead (caller_read f w.caller read reply image) read
  by_read read reply image own (allowed.ReadFound k name im stored fetcher told) = told_up w.caller (caller_told w.caller name (told_blob f image name)) (ReadStep (ReadBlob name)) (grows_told w.caller name (told_blob f image name)) (own refl)
  by_read read reply image own (allowed.ReadMissing k name im stored fetcher told) = own refl
  by_read read reply image own (allowed.ReadFault k name im stored fetcher) = own refl
  by_read read reply image own other = tt

  by_step : (read : Read) (reply : Reply) (image : Option Image) → ReadsOwn w.caller 0 (ReadStep read) → Allows f size w 0 (ReadStep read) reply image → TellsRead (caller_read f w.caller read reply image) read
  by_step read reply image own (allowed.Verifying one given im may) = by_verify read reply image may
  by_step read reply image own (allowed.Reading k one given im may same) = by_read read reply image own may

  -- who 0 has no ticket, so no delete has aborted its op
  no_block : (step : Step) (reply : Reply) → is_counted reply ≡ true → (refusal : Refusal) → Blocks w 0 step refusal → reply ≡ Refused refusal → ⊥
  no_block step reply counted refusal (ByFailedSwap place deposed) is = never (sym (ap is_counted is) ∙ counted)
    where
      never : false ≡ true → ⊥
      never e = cc
  no_block step reply counted refusal (ByDelete op alive aborted) is = no_ticket (of_ops.some 0 aborted.t aborted.out.there)
    where
      no_ticket : 1 ≤ 0 → ⊥
      no_ticket e = omega arith

  own_told : (m : Moment) → m.entry.who ≡ 0 → ReadsOwn w.caller m.entry.who m.entry.step → Allowed f size w m → is_counted m.entry.reply ≡ true → begins_anew 0 m.entry.step ≡ false
      → TellsStep (caller_after f w.caller 0 m.entry.step m.entry.reply m.image) m.entry.step
  own_told m who own a counted old = elim a.answered [
    | inl alive ↦ go m.entry.step m.entry.reply (subst (λ (k : ℕ). ReadsOwn w.caller k m.entry.step) who own) (subst (λ (k : ℕ). Allows f size w k m.entry.step m.entry.reply m.image) who alive.1)
    | inr dead ↦ absurd (no_block m.entry.step m.entry.reply counted dead.refusal (subst (λ (k : ℕ). Blocks w k m.entry.step dead.refusal) who dead.blocks) dead.refused)
  ]
    where
      go : (step : Step) (reply : Reply) → ReadsOwn w.caller 0 step → Allows f size w 0 step reply m.image → TellsStep (caller_after f w.caller 0 step reply m.image) step
      go (ReadStep read) reply own may = by_step read reply m.image own may
      go step reply own may = tt

  own_commit : (m : Moment) → m.entry.who ≡ 0 → Allowed f size w m → (name : BlobName) → m.entry.step ≡ ReadStep (CommitTest name) → m.entry.reply ≡ WasDone → HasDrawn w.caller
  own_commit m who a name step reply = elim a.answered [
    | inl alive ↦ drawn_by (subst (λ (k : ℕ). Allows f size w k (ReadStep (CommitTest name)) WasDone m.image) who
        (subst (λ (r : Reply). Allows f size w m.entry.who (ReadStep (CommitTest name)) r m.image) reply (subst (λ (s : Step). Allows f size w m.entry.who s m.entry.reply m.image) step alive.1)))
    | inr dead ↦ absurd (refused dead.refusal (sym reply ∙ dead.refused))
  ]
    where
      refused : (refusal : Refusal) → WasDone ≡ Refused refusal → ⊥
      refused refusal e = cc

      of_verify : VerifyAllows f w (CommitTest name) WasDone m.image → HasDrawn w.caller
      of_verify (allowed.CommittingTest it bytes im own new adds) = has_drawn own.id own.drawn

      of_read : ReadAllows f w 0 (CommitTest name) WasDone m.image → HasDrawn w.caller
      of_read may = elim may [ ]

      drawn_by : Allows f size w 0 (ReadStep (CommitTest name)) WasDone m.image → HasDrawn w.caller
      drawn_by (allowed.Verifying one given im may) = of_verify may
      drawn_by (allowed.Reading k one given im may same) = of_read may

-- ---- the step

-- of another
others_step : (f : Formats) (size : ℕ) (w : World) (m : Moment) → Laws → Allowed f size w m → m.entry.who ≢ 0 → TellsClient w → TellsClient (after f w m)
others_step f size w m laws a other h =
    let same = laws.callers f size w m a other in
    record {
      made = λ e has. ⊎_elim
          (λ (here : m.entry ≡ e). absurd (other (ap (λ (x : Entry). x.who) here ∙ entry_who (after f w m).entries 0 e has)))
          (λ (before : Has (entries_by w.entries 0) e). subst (λ (c : Caller). TellsStep c e.step) (sym same) (h.made e before))
          (counted_or_before w.entries m.entry 0 e has);
      committed = λ name has. subst HasDrawn (sym same) (h.committed name (subst (λ (c : Caller). Has c.committed name) same has));
    }

-- of who 0
own_step : (f : Formats) (size : ℕ) (w : World) (m : Moment) → m.entry.who ≡ 0 → AreOfOps w → Allowed f size w m → ReadsOwn w.caller m.entry.who m.entry.step → TellsClient w → TellsClient (after f w m)
own_step f size w m who of_ops a own h =
    record {
      made = λ e has. subst (λ (c : Caller). TellsStep c e.step) (sym caller_is) (by (is_counted m.entry.reply) refl (begins_anew 0 m.entry.step) refl e has);
      committed = λ name has. subst HasDrawn (sym caller_is) (committed_after f w.caller m.entry.step m.entry.reply m.image (own_commit f size w of_ops h m who a) h.committed name (subst (λ (c : Caller). Has c.committed name) caller_is has));
    }
  where
    caller_is : (after f w m).caller ≡ caller_after f w.caller 0 m.entry.step m.entry.reply m.image
    caller_is = caller_goes f w m ∙ ap (λ (k : ℕ). caller_after f w.caller k m.entry.step m.entry.reply m.image) who

    -- the entries of who 0, where its step was counted
    anew : begins_anew 0 m.entry.step ≡ true → (e : Entry) → Has (entries_by (m.entry ∷ w.entries) 0) e → ⊥
    anew new e has = subst (λ (entries : List Entry). Has entries e) none has
      where
        none : entries_by (m.entry ∷ w.entries) 0 ≡ []
        none = ap (λ (k : ℕ). entries_by (record { who = k; step = m.entry.step; reply = m.entry.reply } ∷ w.entries) 0) who
            ∙ ap (λ (b : Bool). if b then [] else record { who = 0; step = m.entry.step; reply = m.entry.reply } ∷ entries_by w.entries 0) new

    uncounted : (reply : Reply) → is_counted reply ≡ false → caller_after f w.caller 0 m.entry.step reply m.image ≡ w.caller
    uncounted (Refused (DeposedAt place)) is = go m.entry.step
      where
        by_read : (read : Read) → caller_read f w.caller read (Refused (DeposedAt place)) m.image ≡ w.caller
        by_read (ReadBlob name) = refl
        by_read read = refl

        go : (step : Step) → caller_after f w.caller 0 step (Refused (DeposedAt place)) m.image ≡ w.caller
        go (ReadStep read) = by_read read
        go step = refl
    uncounted reply is = absurd cc

    by : (counted : Bool) → is_counted m.entry.reply ≡ counted → (new : Bool) → begins_anew 0 m.entry.step ≡ new → (e : Entry) → Has (entries_by (with_entry w.entries m.entry) 0) e
        → TellsStep (caller_after f w.caller 0 m.entry.step m.entry.reply m.image) e.step
    by false is new fresh e has =
        subst (λ (c : Caller). TellsStep c e.step) (sym (uncounted m.entry.reply is))
        (h.made e (subst (λ (b : Bool). Has (entries_by (if b then m.entry ∷ w.entries else w.entries) 0) e) is has))
    by true is true fresh e has = absurd (anew fresh e (subst (λ (b : Bool). Has (entries_by (if b then m.entry ∷ w.entries else w.entries) 0) e) is has))
    by true is false fresh e has = ⊎_elim
        (λ (here : m.entry ≡ e). subst (λ (x : Entry). TellsStep (caller_after f w.caller 0 m.entry.step m.entry.reply m.image) x.step) here (own_told f size w of_ops h m who own a is fresh))
        (λ (before : Has (entries_by w.entries 0) e). told_up w.caller (caller_after f w.caller 0 m.entry.step m.entry.reply m.image) e.step (grows_after f w.caller m.entry.step m.entry.reply m.image fresh) (h.made e before))
        (counted_or_before w.entries m.entry 0 e has)

pub client_step : (f : Formats) (size : ℕ) (w : World) (m : Moment) → Laws → AreOfOps w → Allowed f size w m → ReadsOwn w.caller m.entry.who m.entry.step → TellsClient w → TellsClient (after f w m)
client_step f size w m laws of_ops a own h = go m.entry.who refl
  where
    go : (k : ℕ) → m.entry.who ≡ k → TellsClient (after f w m)
    go zero is = own_step f size w m is of_ops a own h
    go (suc k) is = others_step f size w m laws a (λ zero_is. never (sym is ∙ zero_is)) h
      where
        never : suc k ≡ 0 → ⊥
        never e = cc
