-- No verification fails where each world of the history is lawful and free.
use Rattle.std.proofs.Common.{◌≡◌, ℕ, List, [], ◌∷◌, ◌++◌, Some, refl, sym, ap, ◌∙◌, subst, inr}
use Rattle.std.specs.Prelude.{length}
use Rattle.std.proofs.lemmas.Option.{same_Some}
use Rattle.esr_model.specs.Names.{BlobName}
use Rattle.esr_model.specs.Values.{Bytes, Has, Formats}
use Rattle.esr_core.specs.World.{World, Caller}
use Rattle.esr_core.specs.Restores.{IsTestOf, WasRead}
use Rattle.esr_core.specs.Entry.{Why, OfDepot, OfAbsence, OfUnreadable, OfTaken, OfIdsSpent, OfPrint, ReadBlob, DrawTest, Step, ReadStep, IdsSpent, NameTaken, Reply, DrawnFrom, WasAbsent, DepotFault, Refused, Moment}
use Rattle.esr_core.specs.Allowed.{MayVerify}
use Rattle.esr_names.specs.IdText.{id_text}
use Rattle.esr_model.specs.Lists.{Has-left}
use Rattle.esr_desk.specs.declared.fault.Fault.{Fault}
use Rattle.esr_desk.specs.declared.fault.By.{By}
use Rattle.esr_desk.specs.Start.{Start, formats_of, world_of}
use Rattle.esr_desk.specs.Own.{caller_of}
use Rattle.esr_desk.specs.Evidence.{Evidence}
use Rattle.esr_desk.specs.Verify.Shown.{HadAfterDraw, HadRefusalIn, HadNoId, IsAbsent, IsOther, IsMisprinted, IsVerifyShownBy}
use Rattle.esr_quiet.specs.Caused.{AreVerifyCaused}
use Rattle.esr_quiet.specs.Smooth.{IsSmooth, NoneUnverified}
use Rattle.esr_quiet.specs.Prefixes.{Prefixes}
use Rattle.esr_core.specs.Laws.NumberMaps.{some_none}
use Rattle.esr_quiet.specs.PrefixLaws.{place_of, quiet_at, legal_at}
use Rattle.esr_quiet.proofs.Prefixes.{told_at}
use Rattle.esr_quiet.proofs.Failures.{read_shown, step_shown, no_depot_fault}
use Rattle.esr_quiet.proofs.Restores.{missed_at}
use Rattle.esr_core.specs.Laws.Rules.{never_rule}
use Rattle.esr_quiet.proofs.Rules.{ruled_at}
use Rattle.esr_quiet.proofs.Texted.{by_verify, IsTexted, texted_at}

-- a step that got this answer
record Replied (log : List Moment) (step : Step) (reply : Reply) : Type 0 where
  front : List Moment
  back : List Moment
  moment : Moment
  is : log ≡ front ++ moment ∷ back
  there : Has log moment
  step_is : moment.entry.step ≡ step
  reply_is : moment.entry.reply ≡ reply

behind : (front : List Moment) (n : Moment) (more : List Moment) (m : Moment) → Has more m → Has (front ++ n ∷ more) m
behind [] n more m h = inr h
behind (x ∷ front) n more m h = inr (behind front n more m h)

replied : (log front back : List Moment) → log ≡ front ++ back → (c : Caller) (step : Step) (reply : Reply) → HadAfterDraw front c step reply → Replied log step reply
replied log front back is c step reply h =
    let draw : Moment = record { entry = record { who = 0; step = ReadStep DrawTest; reply = DrawnFrom h.id }; image = h.had.image } in
    let m : Moment = record { entry = record { who = 0; step = step; reply = reply }; image = h.had.had.image } in
    let within : Has front m = subst (λ (l : List Moment). Has l m) (sym h.had.is) (behind h.had.before draw h.had.more m h.had.had.there) in
    let there : Has log m = subst (λ (l : List Moment). Has l m) (sym is) (Has-left front back m within) in
    let p = place_of log m there in
    record { front = p.front; back = p.back; moment = m; is = p.is; there = there; step_is = refl; reply_is = refl }

module _ (s : Start) (log : List Moment) (smooth : IsSmooth s log) (prefixes : Prefixes s log) where
  texted : (front back : List Moment) → log ≡ front ++ back → IsTexted (caller_of s front)
  texted = texted_at s log smooth prefixes

  -- each test blob that was committed and not removed is there
  found : (front back : List Moment) (m : Moment) → log ≡ front ++ m ∷ back → Has log m → (id : ℕ) (name : BlobName) → IsTestOf id name → m.entry.step ≡ ReadStep (ReadBlob name) → m.entry.reply ≡ WasAbsent → ⊥
  found front back m is has id name test step reply =
      let f : Formats = formats_of s in
      let w : World = world_of s front in
      let told = told_at log m smooth.told has in
      let missed = missed_at f s.part_size w m name (quiet_at s log smooth front (m ∷ back) is).present (legal_at s log smooth front back m is) step reply told.0 told.1 in
      let may : MayVerify w name = by_verify f w name told.0 id m.entry.who test missed.0 in
      let (bytes, wrote) = (texted front (m ∷ back) is).written name may.committed in
      some_none bytes (sym ((prefixes.free front (m ∷ back) is).wrote name bytes wrote may.unremoved).0 ∙ missed.1)

  absent : (front back : List Moment) → log ≡ front ++ back → (name : BlobName) → IsAbsent front (caller_of s front) name → ⊥
  absent front back is name h =
      let (bytes, wrote) = (texted front back is).written name h.committed in
      let text = (texted front back is).texts name bytes wrote in
      let r = replied log front back is (caller_of s front) (ReadStep (ReadBlob name)) WasAbsent h.missing in
      found r.front r.back r.moment r.is r.there text.0 name text.2 r.step_is r.reply_is

  -- and what was read of it is the text of its id
  text_of : (front back : List Moment) → log ≡ front ++ back → (id : ℕ) (name : BlobName) (bytes : Bytes) → (caller_of s front).drawn ≡ Some id → Has (caller_of s front).committed name → WasRead (caller_of s front).read name bytes
      → bytes ≡ id_text id
  text_of front back is id name bytes drawn committed read =
      let h = texted front back is in
      let (first, wrote) = h.written name committed in
      let test = h.texts name first wrote in
      let text = h.texts name bytes (h.same name bytes test.0 test.2 read) in
      let one : text.0 ≡ id = same_Some text.0 id (sym text.1 ∙ drawn) in
      text.3 ∙ ap id_text one

  other : (front back : List Moment) → log ≡ front ++ back → (name : BlobName) → IsOther s (caller_of s front) name → ⊥
  other front back is name h = h.differ (text_of front back is h.id name h.bytes h.drawn h.committed (h.read smooth.tells))

  printed : (front back : List Moment) → log ≡ front ++ back → (name : BlobName) (stated_len : ℕ) (stated_digest : Bytes) (found_len : ℕ) (found_digest : Bytes)
      → IsMisprinted s (caller_of s front) name stated_len stated_digest found_len found_digest → ⊥
  printed front back is name stated_len stated_digest found_len found_digest h =
      let text : h.bytes ≡ id_text h.id = text_of front back is h.id name h.bytes h.drawn h.committed (h.read smooth.tells) in
      h.differ (h.stated_len_is ∙ ap (λ (b : Bytes). length b) (sym text) ∙ sym h.found_len_is) (h.stated_digest_is ∙ ap (formats_of s).digest (sym text) ∙ sym h.found_digest_is)

  -- no name is taken
  untaken : (front back : List Moment) → log ≡ front ++ back → (c : Caller) (step : Step) (name : BlobName) → HadAfterDraw front c step (Refused (NameTaken name)) → ⊥
  untaken front back is c step name h =
      let r = replied log front back is c step (Refused (NameTaken name)) h in
      let x = ruled_at s log smooth prefixes r.moment (NameTaken name) r.there r.reply_is (λ own now e. cc) in
      never_rule x.0 (NameTaken name) refl x.1

  -- and no id is spent
  unspent : (front back : List Moment) → log ≡ front ++ back → (c : Caller) (next : ℕ) → HadNoId front c next → ⊥
  unspent front back is c next h =
      let m : Moment = record { entry = record { who = 0; step = ReadStep DrawTest; reply = Refused (IdsSpent next) }; image = h.had.image } in
      smooth.unspent m (subst (λ (l : List Moment). Has l m) (sym is) (Has-left front back m h.had.there)) tt

  -- no cause is shown
  pub shows : {S F H T : Type 0} (e : Evidence S F H T) (front back : List Moment) → log ≡ front ++ back → (why : Why) (b : By S F H T) → IsVerifyShownBy e s front (caller_of s front) why b → ⊥
  shows e front back is OfDepot b h = no_depot_fault e s smooth.quiet (HadRefusalIn front (caller_of s front) DepotFault) b h
  shows e front back is (OfAbsence name) b h = absent front back is name (read_shown b _ h)
  shows e front back is (OfUnreadable name reason) b h = other front back is name (read_shown b _ h).0
  shows e front back is (OfPrint name stated_len stated_digest found_len found_digest) b h = printed front back is name stated_len stated_digest found_len found_digest (read_shown b _ h)
  shows e front back is (OfTaken name) b h = let x = step_shown b _ h in untaken front back is (caller_of s front) x.0 name x.1
  shows e front back is (OfIdsSpent next) b h = unspent front back is (caller_of s front) next (step_shown b _ h)
  shows e front back is why b h = h

  pub none_unverified : {S F H T : Type 0} (e : Evidence S F H T) (faults : List (Fault S F H T)) → AreVerifyCaused e s log faults → NoneUnverified log
  none_unverified e faults shown m why has who step reply =
      let p = place_of log m has in
      let x = shown (length p.front) m.entry.who why (record { front = p.front; moment = m; back = p.back; is = p.is; place_is = refl; teller = who; of = refl; step = step; reply = reply }) in
      shows e p.front (m ∷ p.back) p.is why x.0 x.1.shown
