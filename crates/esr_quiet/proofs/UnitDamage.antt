-- No unit fails for damage where each world of the history is lawful: the base of a shard, and of a clone's the snapshot that it copies, stand.
use Rattle.std.proofs.Common.{◌≡◌, ℕ, List, [], ◌∷◌, ◌++◌, append-nil, append_assoc, Some, None, refl, sym, ap, ◌∙◌, subst, inl, inr}
use Rattle.std.specs.Prelude.{length}
use Rattle.std.specs.FinMap as fin
use Rattle.std.proofs.lemmas.Option.{same_Some}
use Rattle.esr_model.specs.Names.{BlobName, ShardSnap}
use Rattle.esr_model.specs.Values.{Bytes, Has, Formats}
use Rattle.esr_model.specs.Shelf.{Shelved}
use Rattle.esr_model.specs.Image.{At}
use Rattle.esr_core.specs.World.{World, Shard, Ticket}
use Rattle.esr_core.specs.Ready.{IsShard}
use Rattle.esr_core.specs.Steps.{IsOut, IsToFetch}
use Rattle.esr_core.specs.Ids.{Law}
use Rattle.esr_core.specs.Entry.{Reason, Why, OfAbsence, OfUnreadable, OfPrint, OfDisagreement, FetchStep, WasAbsent, Moment}
use Rattle.esr_core.specs.Laws.CloneSources.{SourceStands, source_stands}
use Rattle.esr_formats.specs.Reasons.{IsUnreadable, unreadable_reads_not}
use Rattle.esr_desk.specs.declared.hand.Hand.TheVariants as hands
use Rattle.esr_desk.specs.declared.fault.Fault.{Fault}
use Rattle.esr_desk.specs.declared.fault.By.{By}
use Rattle.esr_desk.specs.Start.{Start, formats_of, world_of, or_no_ticket, ticket_of}
use Rattle.esr_desk.specs.Evidence.{HadFetch, WasUnreadable, Evidence}
use Rattle.esr_desk.specs.Unit.Shown.{IsUnitShown}
use Rattle.esr_quiet.specs.Caused.{AreCaused}
use Rattle.esr_quiet.specs.OverKept.{IsLawful}
use Rattle.esr_quiet.specs.Undamaged.{IsDamage, NoUnitFindsDamage}
use Rattle.esr_core.specs.Laws.NumberMaps.{some_none}
use Rattle.esr_quiet.specs.PrefixLaws.{place_of, has_at}
use Rattle.esr_quiet.proofs.Prefixes.{told_at}
use Rattle.esr_quiet.proofs.Bases as bases
use Rattle.esr_quiet.proofs.OverKept.{IsAlive, lawful_front, step_at, alive_before}
use Rattle.esr_quiet.proofs.Failures.{misses_at, fails_at, read_shown}

-- ---- what a shard's ticket fetches

module _ (f : Formats) (w : World) (shelf : List Shelved) (l : Law f w shelf) (k : ℕ) (t : Ticket) (out : IsOut w k t) where
  -- what a clone's copies is there
  module _ (index number source : ℕ) (work : t.work ≡ Shard index number) (source_is : t.source ≡ Some source) where
    stands : SourceStands f w t index number source
    stands = source_stands f w shelf l k t out index number work source source_is

    copied_there : fin.get w.blobs (f.names.text (ShardSnap index number source)) ≡ None → ⊥
    copied_there none = some_none stands.lists.snap_reads.bytes (sym stands.lists.snap_reads.there.0.0 ∙ none)

    -- and reads
    copied_reads : (bytes : Bytes) → Has t.read (ShardSnap index number source, bytes) → f.shard_snap.read bytes ≡ None → ⊥
    copied_reads bytes read none =
        let at : At f w.blobs (ShardSnap index number source) bytes = (l.written k t out.there out.out (subst IsShard (sym work) tt)).source index number source bytes work source_is read in
        some_none stands.lists.snap (sym stands.lists.snap_reads.reads ∙ ap f.shard_snap.read (same_Some stands.lists.snap_reads.bytes bytes (sym stands.lists.snap_reads.there.0.0 ∙ at.0)) ∙ none)

  -- each blob that it is to fetch is there
  fetched_there : (name : BlobName) → IsToFetch t name → fin.get w.blobs (f.names.text name) ≡ None → ⊥
  fetched_there name (index, number, work, from) none = elim from [
    | inl base ↦ bases.is_there f w shelf l k t out index number base.0 work base.1 (ap (λ (n : BlobName). fin.get w.blobs (f.names.text n)) (sym base.2) ∙ none)
    | inr source ↦ copied_there index number source.0 work source.1 (ap (λ (n : BlobName). fin.get w.blobs (f.names.text n)) (sym source.2) ∙ none)
  ]

  -- and reads
  fetched_reads : (name : BlobName) (bytes : Bytes) → IsToFetch t name → Has t.read (name, bytes) → IsUnreadable f name bytes → ⊥
  fetched_reads name bytes (index, number, work, from) read bad = elim from [
    | inl base ↦ bases.does_read f w shelf l k t out index number base.0 work base.1 bytes (subst (λ (n : BlobName). Has t.read (n, bytes)) base.2 read) (subst (λ (n : BlobName). IsUnreadable f n bytes) base.2 bad)
    | inr source ↦ copied_reads index number source.0 work source.1 bytes (subst (λ (n : BlobName). Has t.read (n, bytes)) source.2 read) (subst (λ (n : BlobName). IsUnreadable f n bytes) source.2 bad)
  ]

-- ---- each cause

-- in each world up to the last no record swap has failed
module _ (s : Start) (log : List Moment) (lawful : IsLawful s log) (alive : IsAlive s log) where
  found : (front rest : List Moment) (m : Moment) → log ≡ front ++ m ∷ rest → (name : BlobName) → m.entry.step ≡ FetchStep name → m.entry.reply ≡ WasAbsent → ⊥
  found front rest m is name step reply =
      let told = told_at log m lawful.over.told (subst (λ (l : List Moment). Has l m) (sym is) (has_at front rest m)) in
      let at = misses_at (formats_of s) s.part_size (world_of s front) m name (alive front (m ∷ rest) is) (step_at s log lawful.over front rest m is) step reply told.0 told.1 in
      let law = lawful.lawful front (m ∷ rest) is in
      fetched_there (formats_of s) (world_of s front) law.0 law.1 m.entry.who at.0.t at.0.out name at.0.to_fetch at.1

  missing : (front back : List Moment) → log ≡ front ++ back → (who : ℕ) (name : BlobName) → HadFetch hands.Unit front who name WasAbsent → ⊥
  missing front back is who name h =
      let m : Moment = record { entry = record { who = who; step = FetchStep name; reply = WasAbsent }; image = h.image } in
      let p = place_of front m h.there in
      found p.front (p.back ++ back) m (is ∙ ap (λ (l : List Moment). l ++ back) p.is ∙ append_assoc p.front (m ∷ p.back) back) name refl refl

  unread : (front back : List Moment) → log ≡ front ++ back → (who : ℕ) → IsOut (world_of s front) who (ticket_of s front who) → (name : BlobName) → IsToFetch (ticket_of s front who) name → (reason : Reason)
      → WasUnreadable hands.Unit s front who name reason → ⊥
  unread front back is who out name to_fetch reason (bytes, read, refuses) =
      let law = lawful.lawful front back is in
      fetched_reads (formats_of s) (world_of s front) law.0 law.1 who (ticket_of s front who) out name bytes to_fetch (read.read lawful.over.tells) (unreadable_reads_not s.known s.told name bytes reason refuses)

  -- no damage is shown
  undamaged : {S F H T : Type 0} (e : Evidence S F H T) (front back : List Moment) → log ≡ front ++ back → (who : ℕ) → IsOut (world_of s front) who (ticket_of s front who) → (why : Why) (b : By S F H T) → IsDamage why
      → IsUnitShown e s front who why b → ⊥
  undamaged e front back is who out (OfAbsence name) b damage h = let x = read_shown b _ h in missing front back is who name x.1
  undamaged e front back is who out (OfUnreadable name reason) b damage h = let x = read_shown b _ h in unread front back is who out name x.0 reason x.1
  undamaged e front back is who out (OfPrint name stated_len stated_digest found_len found_digest) b damage h = h
  undamaged e front back is who out (OfDisagreement name other) b damage h = h
  undamaged e front back is who out why b damage h = damage

-- so none is reported
pub none_damaged : {S F H T : Type 0} (s : Start) (log : List Moment) → IsLawful s log → (e : Evidence S F H T) (faults : List (Fault S F H T)) → AreCaused hands.Unit e s log faults → NoUnitFindsDamage log
none_damaged s log lawful e faults shown m why has step reply damage =
    let p = place_of log m has in
    let up = lawful_front s log lawful p.front (m ∷ p.back) p.is in
    let alive = alive_before s log lawful.over p.front p.back m p.is reply in
    let end = sym (append-nil p.front) in
    let fails = fails_at (formats_of s) s.part_size (world_of s p.front) m why (alive p.front [] end) (step_at s log lawful.over p.front p.back m p.is) step reply in
    let same : fails.t ≡ ticket_of s p.front m.entry.who = sym (ap or_no_ticket fails.out.there) in
    let x = shown (length p.front) m.entry.who why (record { front = p.front; moment = m; back = p.back; is = p.is; place_is = refl; teller = tt; of = refl; step = step; reply = reply }) in
    undamaged s p.front up alive e p.front [] end m.entry.who (subst (IsOut (world_of s p.front) m.entry.who) same fails.out) why x.by damage x.shown
