-- No unit fails where each world of the history is lawful and free.
use Rattle.std.proofs.Common.{◌≡◌, ◌⊎◌, ℕ, Bool, true, false, true≢false, List, ◌∷◌, ◌++◌, Option, Some, None, refl, sym, ap, ◌∙◌, subst, inl, inr, append_assoc}
use Rattle.std.specs.Prelude.{length}
use Rattle.std.specs.FinMap as fin
use Rattle.esr_model.specs.Names.{BlobName, ShardSnap, ShardIndex}
use Rattle.esr_model.specs.Values.{Bytes, Has, ShardFiles, Formats, Kind}
use Rattle.esr_model.specs.Image.{Image}
use Rattle.esr_core.specs.World.{World, Shard, Ticket}
use Rattle.esr_core.specs.Steps.{IsOut, IsToFetch}
use Rattle.esr_core.specs.Entry.{Reason, Why, OfDepot, OfSource, OfChange, OfAbsence, OfUnreadable, OfAhead, OfTaken, OfAbort, OfIdsSpent, OfGenerationsSpent, Step, FetchStep, FailedStep, Refusal, NameTaken, AbortedBy, IdsSpent, GenerationsSpent, Reply, WasAbsent, HasEnded, Refused, Moment}
use Rattle.esr_core.specs.Allowed as allowed
use Rattle.esr_core.specs.Allowed.{Told, Fetches, Fails, Allows, Allowed}
use Rattle.esr_formats.specs.Formats.{formats}
use Rattle.esr_formats.specs.Reasons.{unreadable, unreadable_reads_not}
use Rattle.esr_formats.specs.Shards.{shard_index_kind}
use Rattle.esr_source.specs.declared.address.Address.{Address}
use Rattle.esr_model.specs.Lists.{Has-left}
use Rattle.esr_desk.specs.declared.fault.FailedObject.TheVariants as objects
use Rattle.esr_desk.specs.declared.hand.Hand.TheVariants as hands
use Rattle.esr_desk.specs.declared.fault.Fault.{Fault}
use Rattle.esr_desk.specs.declared.fault.By.{By}
use Rattle.esr_desk.specs.declared.fault.By.TheVariants as by
use Rattle.esr_desk.specs.Start.{Start, formats_of, world_of, or_no_ticket, ticket_of}
use Rattle.esr_desk.specs.Unit.Shown.{IsBase, WasAhead, SourceShown, IsUntold, HadFault, IsUnitShown}
use Rattle.esr_desk.specs.Evidence.{Evidence, HadFetch, WasUnreadable, FetchShown, DepotShown, ReadShown, StepShown, HadRefusal}
use Rattle.esr_quiet.specs.Caused.{AreCaused}
use Rattle.esr_quiet.specs.Smooth.{IsSpent, IsSmooth, NoneFailed}
use Rattle.esr_quiet.specs.Prefixes.{Prefixes}
use Rattle.esr_quiet.specs.PrefixLaws.{place_of, has_at, quiet_at, legal_at}
use Rattle.esr_quiet.proofs.Prefixes.{told_at}
use Rattle.esr_quiet.specs.QuietWorlds.{IsSteadyAt}
use Rattle.esr_quiet.proofs.Bases.{is_there, does_read, not_ahead}
use Rattle.esr_quiet.proofs.Sources.{source_there, source_reads}
use Rattle.esr_core.specs.Laws.Rules.{never_rule}
use Rattle.esr_quiet.proofs.Rules.{ruled_at}

-- ---- what a step tells

-- of a fetch that found nothing, and of a report
abbrev Tells : Formats → World → ℕ → Step → Reply → Option Image → Type 0
Tells f w who (FetchStep name) WasAbsent image = Fetches f w who name × Told image (λ blobs. (fin.get w.blobs (f.names.text name) ≡ None) × (blobs ≡ w.blobs))
Tells f w who (FailedStep why) HasEnded image = Fails w who
Tells f w who step reply image = Unit {0}

tells : (f : Formats) (size : ℕ) (w : World) (who : ℕ) (step : Step) (reply : Reply) (image : Option Image) → Allows f size w who step reply image → Tells f w who step reply image
tells f size w who step reply image (allowed.Missing k name im g found) = (g, found)
tells f size w who step reply image (allowed.Failing k why im c same) = c
tells f size w who step reply image a = tt

-- a refusal tells nothing
refused_tells : (f : Formats) (w : World) (who : ℕ) (step : Step) (refusal : Refusal) (image : Option Image) → Tells f w who step (Refused refusal) image
refused_tells f w who (FetchStep name) refusal image = tt
refused_tells f w who step refusal image = tt

told_by : (f : Formats) (size : ℕ) (w : World) (m : Moment) → w.deposed ≡ false → Allowed f size w m → Tells f w m.entry.who m.entry.step m.entry.reply m.image
told_by f size w m present a = elim a.answered [
  | inl alive ↦ tells f size w m.entry.who m.entry.step m.entry.reply m.image alive.1
  | inr dead ↦ subst (λ (r : Reply). Tells f w m.entry.who m.entry.step r m.image) (sym dead.refused) (refused_tells f w m.entry.who m.entry.step dead.refusal m.image)
]

pub fails_at : (f : Formats) (size : ℕ) (w : World) (m : Moment) (why : Why) → w.deposed ≡ false → Allowed f size w m → m.entry.step ≡ FailedStep why → m.entry.reply ≡ HasEnded → Fails w m.entry.who
fails_at f size w m why present a step reply =
    subst (λ st. Tells f w m.entry.who st HasEnded m.image) step (subst (λ r. Tells f w m.entry.who m.entry.step r m.image) reply (told_by f size w m present a))

pub misses_at : (f : Formats) (size : ℕ) (w : World) (m : Moment) (name : BlobName) → w.deposed ≡ false → Allowed f size w m → m.entry.step ≡ FetchStep name → m.entry.reply ≡ WasAbsent → (image : Image) → m.image ≡ Some image
    → Fetches f w m.entry.who name × (fin.get w.blobs (f.names.text name) ≡ None)
misses_at f size w m name present a step reply image is =
    let h = subst (λ st. Tells f w m.entry.who st WasAbsent m.image) step (subst (λ r. Tells f w m.entry.who m.entry.step r m.image) reply (told_by f size w m present a)) in
    (h.0, (subst (λ (im : Option Image). Told im (λ blobs. (fin.get w.blobs (f.names.text name) ≡ None) × (blobs ≡ w.blobs))) is h.1).0)

-- ---- what the formats are

known_is : (s : Start) → (formats_of s).known ≡ s.known
unfolding formats
known_is s = refl

index_is : (s : Start) → (formats_of s).shard_index ≡ shard_index_kind
unfolding formats
index_is s = refl

-- ---- each cause

pub read_shown : {S F H T : Type 0} (b : By S F H T) (shown : Type 0) → ReadShown b shown → shown
read_shown by.Nothing shown h = h
read_shown b shown h = absurd h

pub step_shown : {S F H T : Type 0} (b : By S F H T) (shown : Type 0) → StepShown b shown → shown
step_shown by.Entry shown h = h
step_shown b shown h = absurd h

-- where the container is quiet nothing of it is shown to have failed
pub no_fetch_fault : {S F H T : Type 0} (e : Evidence S F H T) (s : Start) → s.quiet ≡ true → (fault : Type 0) (b : By S F H T) → FetchShown e s fault b → ⊥
no_fetch_fault e s quiet fault (by.Object (objects.Fetch fetch)) h = true≢false (sym quiet ∙ h.1)
no_fetch_fault e s quiet fault (by.Object (objects.Shard shard)) h = h
no_fetch_fault e s quiet fault by.Entry h = true≢false (sym quiet ∙ h.1)
no_fetch_fault e s quiet fault b h = h

pub no_depot_fault : {S F H T : Type 0} (e : Evidence S F H T) (s : Start) → s.quiet ≡ true → (fault : Type 0) (b : By S F H T) → DepotShown e s fault b → ⊥
no_depot_fault e s quiet fault (by.Object (objects.Shard shard)) h = h
no_depot_fault e s quiet fault (by.Object (objects.Target target)) h = h
no_depot_fault e s quiet fault by.Nothing h = h
no_depot_fault e s quiet fault b h = true≢false (sym quiet ∙ h.1)

-- the ticket is of a shard that copies this
record IsCopied (t : Ticket) (name : BlobName) : Type 0 where
  index : ℕ
  number : ℕ
  source : ℕ
  work : t.work ≡ Shard index number
  source_is : t.source ≡ Some source
  name_is : name ≡ ShardSnap index number source

module _ (s : Start) (log : List Moment) (smooth : IsSmooth s log) (prefixes : Prefixes s log) where
  -- no shard fails
  source : {S F H T : Type 0} (e : Evidence S F H T) (t : Ticket) → ((index number : ℕ) → t.work ≡ Shard index number → IsSteadyAt s t.source t.place t.name number) → (b : By S F H T) → SourceShown e s t b → ⊥
  source e t steady (by.Object (objects.Stage stage)) h = h
  source e t steady (by.Object (objects.Shard shard)) h =
      let a : Address = (e.shard shard).address in
      let sure : s.steady t.place t.name a.number ≡ true = subst (λ (o : Option ℕ). IsSteadyAt s o t.place t.name a.number) h.1.source (steady h.1.index a.number h.1.work) in
      true≢false (sym sure ∙ (λ j. s.steady (h.1.place j) (h.1.name j) a.number) ∙ h.0.1)
  source e t steady number h = h

  -- the sources tell all files
  untold : (t : Ticket) → IsUntold s t → ⊥
  untold t (index, number, work, unknown) = true≢false (sym (smooth.known t.place t.name number) ∙ ap (λ (known : Bytes → Bytes → ℕ → Bool). known t.place t.name number) (known_is s) ∙ unknown)

  -- it fetches its base, or the snapshot of the shard that it copies
  to_fetch : (t : Ticket) (name : BlobName) → IsToFetch t name → IsBase t name ⊎ IsCopied t name
  to_fetch t name (index, number, work, from) = elim from [
    | inl h ↦ inl (record { index = index; number = number; base = h.0; work = work; base_is = h.1; name_is = h.2 })
    | inr h ↦ inr (record { index = index; number = number; source = h.0; work = work; source_is = h.1; name_is = h.2 })
  ]

  -- each is there
  found : (front rest : List Moment) (m : Moment) → log ≡ front ++ m ∷ rest → (name : BlobName) → m.entry.step ≡ FetchStep name → m.entry.reply ≡ WasAbsent → ⊥
  found front rest m is name step reply =
      let told = told_at log m smooth.told (subst (λ (l : List Moment). Has l m) (sym is) (has_at front rest m)) in
      let at = misses_at (formats_of s) s.part_size (world_of s front) m name (quiet_at s log smooth front (m ∷ rest) is).present (legal_at s log smooth front rest m is) step reply told.0 told.1 in
      let g = at.0 in
      let law = prefixes.lawful front (m ∷ rest) is in
      elim (to_fetch g.t name g.to_fetch) [
        | inl base ↦ is_there (formats_of s) (world_of s front) law.0 law.1 m.entry.who g.t g.out base.index base.number base.base base.work base.base_is
            (ap (λ (n : BlobName). fin.get (world_of s front).blobs ((formats_of s).names.text n)) (sym base.name_is) ∙ at.1)
        | inr from ↦ source_there (formats_of s) (world_of s front) law.0 law.1 m.entry.who g.t g.out from.index from.number from.source from.work from.source_is
            (ap (λ (n : BlobName). fin.get (world_of s front).blobs ((formats_of s).names.text n)) (sym from.name_is) ∙ at.1)
      ]

  missing : (front back : List Moment) → log ≡ front ++ back → (who : ℕ) (name : BlobName) → HadFetch hands.Unit front who name WasAbsent → ⊥
  missing front back is who name h =
      let m : Moment = record { entry = record { who = who; step = FetchStep name; reply = WasAbsent }; image = h.image } in
      let p = place_of front m h.there in
      found p.front (p.back ++ back) m (is ∙ ap (λ (l : List Moment). l ++ back) p.is ∙ append_assoc p.front (m ∷ p.back) back) name refl refl

  unread_base : (front back : List Moment) → log ≡ front ++ back → (who : ℕ) → IsOut (world_of s front) who (ticket_of s front who) → (name : BlobName) → IsBase (ticket_of s front who) name → (reason : Reason)
      → WasUnreadable hands.Unit s front who name reason → ⊥
  unread_base front back is who out name base reason (bytes, read, refuses) =
      let law = prefixes.lawful front back is in
      let t : Ticket = ticket_of s front who in
      let there : Has t.read (ShardIndex base.index base.number base.base, bytes) = subst (λ (n : BlobName). Has t.read (n, bytes)) base.name_is (read.read smooth.tells) in
      does_read (formats_of s) (world_of s front) law.0 law.1 who t out base.index base.number base.base base.work base.base_is bytes there
      (unreadable_reads_not s.known s.told (ShardIndex base.index base.number base.base) bytes reason (subst (λ (n : BlobName). unreadable n bytes ≡ Some reason) base.name_is refuses))

  unread_source : (front back : List Moment) → log ≡ front ++ back → (who : ℕ) → IsOut (world_of s front) who (ticket_of s front who) → (name : BlobName) → IsCopied (ticket_of s front who) name → (reason : Reason)
      → WasUnreadable hands.Unit s front who name reason → ⊥
  unread_source front back is who out name from reason (bytes, read, refuses) =
      let law = prefixes.lawful front back is in
      let t : Ticket = ticket_of s front who in
      let there : Has t.read (ShardSnap from.index from.number from.source, bytes) = subst (λ (n : BlobName). Has t.read (n, bytes)) from.name_is (read.read smooth.tells) in
      source_reads (formats_of s) (world_of s front) law.0 law.1 who t out from.index from.number from.source from.work from.source_is bytes there
      (unreadable_reads_not s.known s.told (ShardSnap from.index from.number from.source) bytes reason (subst (λ (n : BlobName). unreadable n bytes ≡ Some reason) from.name_is refuses))

  -- and reads
  unread : (front back : List Moment) → log ≡ front ++ back → (who : ℕ) → IsOut (world_of s front) who (ticket_of s front who) → (name : BlobName) → IsToFetch (ticket_of s front who) name → (reason : Reason)
      → WasUnreadable hands.Unit s front who name reason → ⊥
  unread front back is who out name fetched reason unreadable_is = elim (to_fetch (ticket_of s front who) name fetched) [
    | inl base ↦ unread_base front back is who out name base reason unreadable_is
    | inr from ↦ unread_source front back is who out name from reason unreadable_is
  ]

  -- a base isn't ahead
  ahead : (front back : List Moment) → log ≡ front ++ back → (who : ℕ) → IsOut (world_of s front) who (ticket_of s front who) → (name : BlobName) (id : ℕ) → WasAhead s front who name id → ⊥
  ahead front back is who out name id h =
      let law = prefixes.lawful front back is in
      let t : Ticket = ticket_of s front who in
      let base = h.base in
      let there : Has t.read (ShardIndex base.index base.number base.base, h.bytes) = subst (λ (n : BlobName). Has t.read (n, h.bytes)) base.name_is (h.read.read smooth.tells) in
      not_ahead (formats_of s) (world_of s front) law.0 law.1 who t out base.index base.number base.base base.work base.base_is (prefixes.free front back is) h.bytes there h.v
      (ap (λ (kind : Kind ShardFiles). kind.read h.bytes) (index_is s) ∙ h.reads) id h.ahead

  -- the refusal stands in the whole history
  had : (front back : List Moment) → log ≡ front ++ back → (who : ℕ) (refusal : Refusal) → HadRefusal front who refusal → (m : Moment) × Has log m × (m.entry.reply ≡ Refused refusal)
  had front back is who refusal (step, h) =
      let m : Moment = record { entry = record { who = who; step = step; reply = Refused refusal }; image = h.image } in
      (m, subst (λ (l : List Moment). Has l m) (sym is) (Has-left front back m h.there), refl)

  -- no name is taken
  pub untaken : (front back : List Moment) → log ≡ front ++ back → (who : ℕ) (name : BlobName) → HadRefusal front who (NameTaken name) → ⊥
  untaken front back is who name h =
      let r = had front back is who (NameTaken name) h in
      let x = ruled_at s log smooth prefixes r.0 (NameTaken name) r.1 r.2 (λ own now e. cc) in
      never_rule x.0 (NameTaken name) refl x.1

  -- no delete aborts an op whose ticket is out
  unaborted : (front back : List Moment) → log ≡ front ++ back → (who op : ℕ) → HadRefusal front who (AbortedBy op) → ⊥
  unaborted front back is who op h =
      let r = had front back is who (AbortedBy op) h in
      let x = ruled_at s log smooth prefixes r.0 (AbortedBy op) r.1 r.2 (λ own now e. cc) in
      never_rule x.0 (AbortedBy op) refl x.1

  -- and no number is spent
  pub unspent : (front back : List Moment) → log ≡ front ++ back → (who : ℕ) (refusal : Refusal) → IsSpent (Refused refusal) → HadRefusal front who refusal → ⊥
  unspent front back is who refusal spent h = let r = had front back is who refusal h in smooth.unspent r.0 r.1 (subst IsSpent (sym r.2) spent)

  -- no cause is shown
  shows : {S F H T : Type 0} (e : Evidence S F H T) (front back : List Moment) → log ≡ front ++ back → (who : ℕ) → IsOut (world_of s front) who (ticket_of s front who) → (why : Why) (b : By S F H T) → IsUnitShown e s front who why b
      → ⊥
  shows e front back is who out OfDepot b h = no_depot_fault e s smooth.quiet (HadFault s front who) b h
  shows e front back is who out OfSource b h = source e (ticket_of s front who) ((quiet_at s log smooth front back is).tickets who (ticket_of s front who) out.there).steady b h
  shows e front back is who out (OfChange first_len first_digest second_len second_digest) b h = untold (ticket_of s front who) (read_shown b _ h).untold
  shows e front back is who out (OfAbsence name) b h = let x = read_shown b _ h in missing front back is who name x.1
  shows e front back is who out (OfUnreadable name reason) b h = let x = read_shown b _ h in unread front back is who out name x.0 reason x.1
  shows e front back is who out (OfAhead name id) b h = ahead front back is who out name id (read_shown b _ h)
  shows e front back is who out (OfTaken name) b h = untaken front back is who name (step_shown b _ h)
  shows e front back is who out (OfAbort op) b h = unaborted front back is who op (step_shown b _ h)
  shows e front back is who out (OfIdsSpent next) b h = unspent front back is who (IdsSpent next) tt (step_shown b _ h)
  shows e front back is who out (OfGenerationsSpent pending) b h = unspent front back is who (GenerationsSpent pending) tt (step_shown b _ h)
  shows e front back is who out why b h = h

  pub none_failed : {S F H T : Type 0} (e : Evidence S F H T) (faults : List (Fault S F H T)) → AreCaused hands.Unit e s log faults → NoneFailed log
  none_failed e faults shown m why has step reply =
      let p = place_of log m has in
      let w : World = world_of s p.front in
      let fails = fails_at (formats_of s) s.part_size w m why (quiet_at s log smooth p.front (m ∷ p.back) p.is).present (legal_at s log smooth p.front p.back m p.is) step reply in
      let same : fails.t ≡ ticket_of s p.front m.entry.who = sym (ap or_no_ticket fails.out.there) in
      let x = shown (length p.front) m.entry.who why (record { front = p.front; moment = m; back = p.back; is = p.is; place_is = refl; teller = tt; of = refl; step = step; reply = reply }) in
      shows e p.front (m ∷ p.back) p.is m.entry.who (subst (IsOut w m.entry.who) same fails.out) why x.by x.shown
