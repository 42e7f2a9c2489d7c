-- No delete or cleanup of a present ticket fails for damage where each world of the history is lawful; nor at all where no call fails.
use Rattle.std.proofs.Common.{◌≡◌, ℕ, false, List, [], ◌∷◌, ◌++◌, append-nil, Option, Some, None, refl, sym, ap, ◌∙◌, subst, inl, inr}
use Rattle.std.specs.Prelude.{length}
use Rattle.std.specs.FinMap as fin
use Rattle.esr_model.specs.Names.{BlobName, ShardIndex}
use Rattle.esr_model.specs.Values.{Has, Formats}
use Rattle.esr_model.specs.Image.{Image}
use Rattle.esr_core.specs.World.{World, Ticket}
use Rattle.esr_core.specs.Entry.{Reason, Why, OfDepot, OfAbsence, OfUnreadable, OfTaken, OfIdsSpent, OfGenerationsSpent, OfPrint, OfDisagreement, FetchShard, PruneStep, IdsSpent, GenerationsSpent, WasAbsent, Moment}
use Rattle.esr_core.specs.Allowed.{Told, FetchesShard, FailsDeletion, Allowed}
use Rattle.esr_formats.specs.Reasons.{unreadable, unreadable_reads_not}
use Rattle.esr_desk.specs.declared.hand.Hand.TheVariants as hands
use Rattle.esr_desk.specs.declared.fault.Fault.{Fault}
use Rattle.esr_desk.specs.declared.fault.By.{By}
use Rattle.esr_desk.specs.Start.{Start, formats_of, world_of, or_no_ticket, ticket_of}
use Rattle.esr_desk.specs.Evidence.{Evidence, HadFetch, WasUnreadable}
use Rattle.esr_desk.specs.Delete.Shown.{HadDeleteFault, IsOfDelete, IsDeleteShown}
use Rattle.esr_quiet.specs.Caused.{AreCaused}
use Rattle.esr_quiet.specs.Smooth.{IsSmooth, NoneUndeleted}
use Rattle.esr_quiet.specs.Prefixes.{Prefixes}
use Rattle.esr_quiet.specs.OverKept.{IsLawful}
use Rattle.esr_quiet.specs.Undamaged.{IsDamage, NoDeleteFindsDamage}
use Rattle.esr_quiet.specs.PrefixLaws.{place_of, has_at, quiet_at, legal_at, smooth_front}
use Rattle.esr_quiet.specs.DeleteTells.{Tells, told_by, fails_at}
use Rattle.esr_quiet.proofs.Prefixes.{told_at}
use Rattle.esr_quiet.proofs.Terms.{stale_or_present, of_term_before}
use Rattle.esr_quiet.proofs.OverKept.{IsAlive, lawful_front, step_at, smooth_lawful, smooth_alive, alive_before}
use Rattle.esr_quiet.proofs.Pruned.{is_there, does_read}
use Rattle.esr_quiet.proofs.Failures.{read_shown, step_shown, no_depot_fault, untaken, unspent}

-- ---- what a step tells

misses_at : (f : Formats) (size : ℕ) (w : World) (m : Moment) (name : BlobName) → w.deposed ≡ false → Allowed f size w m → m.entry.step ≡ PruneStep (FetchShard name) → m.entry.reply ≡ WasAbsent → (image : Image)
    → m.image ≡ Some image
    → FetchesShard f w m.entry.who name × (fin.get w.blobs (f.names.text name) ≡ None)
misses_at f size w m name present a step reply image is =
    let h = subst (λ st. Tells f w m.entry.who st WasAbsent m.image) step (subst (λ r. Tells f w m.entry.who m.entry.step r m.image) reply (told_by f size w m present a)) in
    (h.0, (subst (λ (im : Option Image). Told im (λ blobs. (fin.get w.blobs (f.names.text name) ≡ None) × (blobs ≡ w.blobs))) is h.1).0)

-- ---- each cause

-- in no world up to the last has a record swap failed, and in that the ticket is of the present term
module _ (s : Start) (log : List Moment) (lawful : IsLawful s log) (alive : IsAlive s log) (who : ℕ) (c : FailsDeletion (world_of s log) who) (present : c.t.term ≡ (world_of s log).term) where
  -- each index that it fetches is there
  found : (front rest : List Moment) (m : Moment) → log ≡ front ++ m ∷ rest → m.entry.who ≡ who → (name : BlobName) → m.entry.step ≡ PruneStep (FetchShard name) → m.entry.reply ≡ WasAbsent → ⊥
  found front rest m is of name step reply =
      let told = told_at log m lawful.over.told (subst (λ (l : List Moment). Has l m) (sym is) (has_at front rest m)) in
      let at = misses_at (formats_of s) s.part_size (world_of s front) m name (alive front (m ∷ rest) is) (step_at s log lawful.over front rest m is) step reply told.0 told.1 in
      let g = at.0 in
      let law = lawful.lawful front (m ∷ rest) is in
      let then_present : g.t.term ≡ (world_of s front).term = of_term_before s log lawful front (m ∷ rest) is who g.t c.t (ap (fin.get (world_of s front).tickets) (sym of) ∙ g.deleting.out.there) c.deleting.out.there present in
      is_there (formats_of s) (world_of s front) law.0 law.1 m.entry.who g.t g.uuids None g.deleting.out.there g.deleting.out.out g.unsettled then_present g.deleting.work g.index g.number g.generation g.to_read
      (ap (λ (n : BlobName). fin.get (world_of s front).blobs ((formats_of s).names.text n)) (sym g.name_is) ∙ at.1)

  missing : (name : BlobName) → HadFetch hands.Delete log who name WasAbsent → ⊥
  missing name h =
      let m : Moment = record { entry = record { who = who; step = PruneStep (FetchShard name); reply = WasAbsent }; image = h.image } in
      let p = place_of log m h.there in
      found p.front p.back m p.is refl name refl refl

  same : c.t ≡ ticket_of s log who
  same = sym (ap or_no_ticket c.deleting.out.there)

  -- and reads
  unread : (name : BlobName) → IsOfDelete (ticket_of s log who) name → (reason : Reason) → WasUnreadable hands.Delete s log who name reason → ⊥
  unread name of reason (bytes, read, refuses) =
      let law = lawful.lawful log [] (sym (append-nil log)) in
      let t : Ticket = ticket_of s log who in
      let there : Has t.read (ShardIndex of.index of.number of.base, bytes) = subst (λ (n : BlobName). Has t.read (n, bytes)) of.name_is (read.read lawful.over.tells) in
      let at : fin.get (world_of s log).tickets who ≡ Some t = c.deleting.out.there ∙ ap (λ (x : Ticket). Some x) same in
      does_read (formats_of s) (world_of s log) law.0 law.1 who t of.uuids of.plan at (ap (λ (x : Ticket). x.out) (sym same) ∙ c.deleting.out.out) of.unsettled
      (ap (λ (x : Ticket). x.term) (sym same) ∙ present) of.work of.index of.number of.base of.to_read bytes there
      (unreadable_reads_not s.known s.told (ShardIndex of.index of.number of.base) bytes reason (subst (λ (n : BlobName). unreadable n bytes ≡ Some reason) of.name_is refuses))

  -- no damage is shown
  undamaged : {S F H T : Type 0} (e : Evidence S F H T) (why : Why) (b : By S F H T) → IsDamage why → IsDeleteShown e s log who why b → ⊥
  undamaged e (OfAbsence name) b damage h = let x = read_shown b _ h in missing name x.1
  undamaged e (OfUnreadable name reason) b damage h = let x = read_shown b _ h in unread name x.0 reason x.1
  undamaged e (OfPrint name stated_len stated_digest found_len found_digest) b damage h = h
  undamaged e (OfDisagreement name other) b damage h = h
  undamaged e why b damage h = damage

-- so none is reported but by a stale ticket
pub none_damaged : {S F H T : Type 0} (s : Start) (log : List Moment) → IsLawful s log → (e : Evidence S F H T) (faults : List (Fault S F H T)) → AreCaused hands.Delete e s log faults → NoDeleteFindsDamage s log
none_damaged s log lawful e faults shown front back m why is step reply damage =
    let up = lawful_front s log lawful front (m ∷ back) is in
    let alive = alive_before s log lawful.over front back m is reply in
    let fails = fails_at (formats_of s) s.part_size (world_of s front) m why (alive front [] (sym (append-nil front))) (step_at s log lawful.over front back m is) step reply in
    let x = shown (length front) m.entry.who why (record { front = front; moment = m; back = back; is = is; place_is = refl; teller = tt; of = refl; step = step; reply = reply }) in
    elim (stale_or_present s front up.over.image up.over.opened up.over.legal m.entry.who fails.t fails.deleting.out.there) [
      | inl present ↦ absurd (undamaged s front up alive m.entry.who fails present e why x.by damage x.shown)
      | inr stale ↦ stale
    ]

-- ---- where no call fails

module _ (s : Start) (log : List Moment) (smooth : IsSmooth s log) (prefixes : Prefixes s log) where
  module _ (front back : List Moment) (is : log ≡ front ++ back) (who : ℕ) (c : FailsDeletion (world_of s front) who) (present : c.t.term ≡ (world_of s front).term) where
    whole : {S F H T : Type 0} (e : Evidence S F H T) (why : Why) (b : By S F H T) → IsDamage why → IsDeleteShown e s front who why b → ⊥
    whole e why b damage h = undamaged s front (lawful_front s log (smooth_lawful s log smooth prefixes) front back is) (smooth_alive s front (smooth_front s log smooth front back is)) who c present e why b damage h

    -- no cause is shown
    shows : {S F H T : Type 0} (e : Evidence S F H T) (why : Why) (b : By S F H T) → IsDeleteShown e s front who why b → ⊥
    shows e OfDepot b h = no_depot_fault e s smooth.quiet (HadDeleteFault s front who) b h
    shows e (OfAbsence name) b h = whole e (OfAbsence name) b tt h
    shows e (OfUnreadable name reason) b h = whole e (OfUnreadable name reason) b tt h
    shows e (OfTaken name) b h = untaken s log smooth prefixes front back is who name (step_shown b _ h)
    shows e (OfIdsSpent next) b h = unspent s log smooth prefixes front back is who (IdsSpent next) tt (step_shown b _ h)
    shows e (OfGenerationsSpent pending) b h = unspent s log smooth prefixes front back is who (GenerationsSpent pending) tt (step_shown b _ h)
    shows e why b h = h

  pub none_undeleted : {S F H T : Type 0} (e : Evidence S F H T) (faults : List (Fault S F H T)) → AreCaused hands.Delete e s log faults → NoneUndeleted s log
  none_undeleted e faults shown front back m why is step reply =
      let fails = fails_at (formats_of s) s.part_size (world_of s front) m why (quiet_at s log smooth front (m ∷ back) is).present (legal_at s log smooth front back m is) step reply in
      let x = shown (length front) m.entry.who why (record { front = front; moment = m; back = back; is = is; place_is = refl; teller = tt; of = refl; step = step; reply = reply }) in
      let before = smooth_front s log smooth front (m ∷ back) is in
      elim (stale_or_present s front before.image before.opened before.legal m.entry.who fails.t fails.deleting.out.there) [
        | inl present ↦ absurd (shows front (m ∷ back) is m.entry.who fails present e why x.by x.shown)
        | inr stale ↦ stale
      ]
