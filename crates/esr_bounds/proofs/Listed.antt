-- No cleanup lists more blobs than there ever were: each that it lists was there, and its pages rise.
use Rattle.std.proofs.Common.{◌≡◌, ◌≢◌, ◌⊎◌, ℕ, ◌+◌, ◌<◌, ◌≤◌, List, [], ◌∷◌, ◌++◌, append-nil, append_assoc, length, map, true, Less, Equal, Option, Some, refl, sym, ap, ◌∙◌, subst, inl, inr, ⊎_elim, arith, nat_cmp}
use Rattle.std.specs.Ordering.{eq_by_cmp}
use Rattle.std.specs.Cmp.{eq_by_cmp_equiv}
use Rattle.std.specs.Cmp.Lexicographic.{slice_cmp, nat_list_cmp_total}
use Rattle.std.specs.FinMap.{nat_cmp-IsAntisymmetric, slice_cmp-IsAntisymmetric, find}
use Rattle.std.specs.FinMap as fin
use Rattle.std.proofs.lemmas.Bool.{cases_Bool, cond-false}
use Rattle.std.proofs.lemmas.Bool.Decides.{eqb_tells}
use Rattle.std.proofs.lemmas.Option.{same_Some, none-some}
use Rattle.std.proofs.lemmas.List.{length-append, length-map}
use Rattle.esr_model.specs.Lists.{Has-left, Has-right, Has-either, Has-mapped}
use Rattle.esr_model.specs.Names.{Latest}
use Rattle.esr_model.specs.Values.{Bytes, Has, Formats}
use Rattle.esr_model.specs.Image.{Blobs, Image}
use Rattle.esr_model.specs.Cleanup.{BlobSize, IsAfter, last_text, IsRising, IsPageOf}
use Rattle.esr_core.specs.World.{World, Ticket}
use Rattle.esr_core.specs.Restores.{AreOnce}
use Rattle.esr_core.specs.Tracked.{Tracked}
use Rattle.esr_core.specs.ReadTracked.{ReadTracked}
use Rattle.esr_core.specs.Changes.{IsNewTicket, BlobsChange, NoBlobChange, NewBlob, NewLatest, Removal, Maker, ClientStep, ReaderStep, UnitStep}
use Rattle.esr_core.specs.Entry.{CommitTest, Step, CommitStep, LatestStep, ListStep, ReadStep, Reply, Moment}
use Rattle.esr_core.specs.After.{blobs_in, after}
use Rattle.esr_core.specs.Allowed as allowed
use Rattle.esr_core.specs.Allowed.{Told, Allows, Allowed}
use Rattle.esr_core.specs.History.{world_from, IsLegal, AllKnown, AreTold}
use Rattle.esr_core.specs.Laws.NumberMaps.{tied, nothing}
use Rattle.esr_bounds.specs.Keys.{IsUnheard, AreHeard, IsHeard}
use Rattle.esr_bounds.specs.Others.{writes_by, writes_in, most_blobs}
use Rattle.esr_bounds.specs.Laws.{StepLaws}
use Rattle.esr_bounds.proofs.Few.{few_once}
use Rattle.esr_bounds.proofs.Once.{blocked_unheard, looked_at}
use Rattle.esr_bounds.proofs.OwnSteps.{page_of, own_step}
use Rattle.esr_bounds.proofs.Prunes.{Tells, told_is}
use Rattle.esr_bounds.proofs.Idle.{NoneAtZero, still_none}

-- ---- the texts of blobs

same_text : (a b : Bytes) → eq_by_cmp (slice_cmp nat_cmp) a b ≡ true → a ≡ b
same_text a b e = slice_cmp-IsAntisymmetric nat_cmp-IsAntisymmetric a b (tied (slice_cmp nat_cmp a b) e)

found : (q v : Bytes) (es : List (Bytes × Bytes)) → find (slice_cmp nat_cmp) q es ≡ Some v → Has (map (λ (e : Bytes × Bytes). e.0) es) q
found q v [] is = absurd (none-some v is)
found q v (e ∷ es) is = elim (cases_Bool (eq_by_cmp (slice_cmp nat_cmp) q e.0)) [
  | inl here ↦ inl (sym (same_text q e.0 here))
  | inr other ↦ inr (found q v es (sym (cond-false _ _ _ other) ∙ is))
]

abbrev pub texts : Blobs → List Bytes
texts blobs = map (λ (e : Bytes × Bytes). e.0) (fin.entries blobs)

pub in_texts : (blobs : Blobs) (q v : Bytes) → fin.get blobs q ≡ Some v → Has (texts blobs) q
in_texts blobs q v is = found q v (fin.entries blobs) (sym (fin.get-entries blobs q) ∙ is)

-- what a step may write
abbrev pub written : Formats → Step → List Bytes
written f (CommitStep name) = f.names.text name ∷ []
written f (ReadStep (CommitTest name)) = f.names.text name ∷ []
written f LatestStep = f.names.text Latest ∷ []
written f step = []

length_written : (f : Formats) (step : Step) → length (written f step) ≡ writes_by step
length_written f (CommitStep name) = refl
length_written f (ReadStep (CommitTest name)) = refl
length_written f (ReadStep read) = refl
length_written f LatestStep = refl
length_written f step = refl

abbrev pub all_written : Formats → List Moment → List Bytes
all_written f [] = []
all_written f (m ∷ log) = written f m.entry.step ++ all_written f log

length_all : (f : Formats) (log : List Moment) → length (all_written f log) ≡ writes_in log
length_all f [] = refl
length_all f (m ∷ log) = length-append (written f m.entry.step) (all_written f log) ∙ ap (λ (n : ℕ). n + length (all_written f log)) (length_written f m.entry.step) ∙ ap (λ (n : ℕ). writes_by m.entry.step + n) (length_all f log)

pub length_seen : (f : Formats) (w : World) (log : List Moment) → length (texts w.blobs ++ all_written f log) ≡ most_blobs w log
length_seen f w log =
    length-append (texts w.blobs) (all_written f log) ∙ ap (λ (n : ℕ). n + length (all_written f log)) (length-map (fin.entries w.blobs) (λ (e : Bytes × Bytes). e.0)) ∙ ap (λ (n : ℕ). length (fin.entries w.blobs) + n) (length_all f log)

put_text : (blobs : Blobs) (key bytes text b : Bytes) → fin.get (fin.insert blobs key bytes) text ≡ Some b → (key ≡ text) ⊎ (fin.get blobs text ≡ Some b)
put_text blobs key bytes text b is = elim (cases_Bool (eq_by_cmp (slice_cmp nat_cmp) text key)) [
  | inl here ↦ inl (sym (same_text text key here))
  | inr other ↦ inr (sym (cond-false _ _ _ other) ∙ sym (fin.get-insert nat_list_cmp_total blobs key bytes text) ∙ is)
]

-- ---- pages that rise

less_not_same : (a b : Bytes) → slice_cmp nat_cmp a b ≡ Less → a ≡ b → ⊥
less_not_same a b less same = clash (tied (slice_cmp nat_cmp a a) ((eq_by_cmp_equiv nat_list_cmp_total).refl a)) (ap (slice_cmp nat_cmp a) same ∙ less)
  where
    no : Equal ≡ Less → ⊥
    no e = cc

    clash : slice_cmp nat_cmp a a ≡ Equal → slice_cmp nat_cmp a a ≡ Less → ⊥
    clash p q = no (sym p ∙ q)

rising_once : (xs : List BlobSize) → IsRising xs → AreOnce (map (λ (b : BlobSize). b.text) xs)
rising_once [] h = tt
rising_once (b ∷ rest) h = ((λ had. let r = Has-mapped (λ (c : BlobSize). c.text) rest b.text had in less_not_same b.text r.0.text (h.0 r.0 r.1) (sym r.2)), rising_once rest h.1)

one_rises : (b : BlobSize) (ys : List BlobSize) → IsRising ys → ((y : BlobSize) → Has ys y → IsAfter (Some b.text) y.text) → IsRising (b ∷ ys)
one_rises b ys rising above = (above, rising)

more_rises : (b c : BlobSize) (rest ys : List BlobSize) → slice_cmp nat_cmp b.text c.text ≡ Less → IsRising (c ∷ (rest ++ ys)) → IsRising (b ∷ c ∷ (rest ++ ys))
more_rises b c rest ys less rising = ((λ z had. by z had), rising)
  where
    by : (z : BlobSize) → Has (c ∷ (rest ++ ys)) z → slice_cmp nat_cmp b.text z.text ≡ Less
    by z (inl e) = subst (λ (x : BlobSize). slice_cmp nat_cmp b.text x.text ≡ Less) e less
    by z (inr had) = nat_list_cmp_total.trans b.text c.text z.text less (rising.0 z had)

rises : (xs ys : List BlobSize) → IsRising xs → IsRising ys → ((y : BlobSize) → Has ys y → IsAfter (last_text xs) y.text) → IsRising (xs ++ ys)
rises [] ys a b above = b
rises (x ∷ []) ys a b above = one_rises x ys b above
rises (x ∷ c ∷ rest) ys a b above = more_rises x c rest ys (a.0 c (inl refl)) (rises (c ∷ rest) ys a.1 b above)

-- ---- what holds of a world

-- each blob is one of these
abbrev pub SeenBlobs : List Bytes → World → Type 0
SeenBlobs seen w = (text bytes : Bytes) → fin.get w.blobs text ≡ Some bytes → Has seen text

pub record Seen (seen : List Bytes) (w : World) : Type 0 where
  pub blobs : SeenBlobs seen w
  pub listed : (k : ℕ) (t : Ticket) (b : BlobSize) → fin.get w.tickets k ≡ Some t → Has t.listed b → Has seen b.text
  pub rising : (k : ℕ) (t : Ticket) → fin.get w.tickets k ≡ Some t → IsRising t.listed

-- a page more
record Lists (w : World) (k : ℕ) (t : Ticket) (page : List BlobSize) : Type 0 where
  there : (b : BlobSize) → Has page b → (bytes : Bytes) × (fin.get w.blobs b.text ≡ Some bytes)
  rising : IsRising page
  above : (b : BlobSize) → Has page b → IsAfter (last_text t.listed) b.text

no_page : (w : World) (k : ℕ) (t : Ticket) → Lists w k t []
no_page w k t = record { there = λ b had. absurd had; rising = tt; above = λ b had. absurd had }

module _ (f : Formats) (size : ℕ) (w : World) where
  lists_page : (k : ℕ) (t : Ticket) → fin.get w.tickets k ≡ Some t → (step : Step) (reply : Reply) (image : Option Image) → Tells image → Allows f size w k step reply image → Lists w k t (page_of step reply)
  lists_page k t there (ListStep from) reply image told (allowed.Listing j start page im g shape here) =
      let mine : g.t ≡ t = same_Some g.t t (sym g.out.there ∙ there) in
      let page_is = told_is image told.0 (λ (blobs : Blobs). IsPageOf w.blobs from page × (blobs ≡ w.blobs)) told.1 here in
      record {
        there = λ b had. let r = page_is.0.there b had in (r.0, r.1);
        rising = shape.rising;
        above = λ b had. subst (λ (o : Option Bytes). IsAfter o b.text) (g.from_is ∙ ap (λ (x : Ticket). last_text x.listed) mine) (shape.follow b had);
      }
  lists_page k t there step reply image told other = no_page w k t

module _ (f : Formats) (size : ℕ) (change : (w : World) (m : Moment) (i : Image) → m.image ≡ Some i → Allowed f size w m → BlobsChange f w m.entry.step i.blobs)
    (w : World) (m : Moment) (a : Allowed f size w m) (told : Tells m.image) (seen : List Bytes) (h : SeenBlobs seen w) where
  abbrev now_seen : List Bytes
  now_seen = seen ++ written f m.entry.step

  old_text : (text : Bytes) → Has seen text → Has now_seen text
  old_text text had = Has-left seen (written f m.entry.step) text had

  new_text : (step : Step) (text : Bytes) → m.entry.step ≡ step → Has (written f step) text → Has now_seen text
  new_text step text is had = Has-right seen (written f m.entry.step) text (subst (λ (s : Step). Has (written f s) text) (sym is) had)

  by_change : (now : Blobs) → BlobsChange f w m.entry.step now → (text bytes : Bytes) → fin.get now text ≡ Some bytes → Has now_seen text
  by_change now (NoBlobChange same) text bytes is = old_text text (h text bytes (subst (λ (x : Blobs). fin.get x text ≡ Some bytes) same is))
  by_change now (NewBlob name b how stored absent e) text bytes is = ⊎_elim
      (λ (here : f.names.text name ≡ text).
      ⊎_elim (λ (commit : m.entry.step ≡ CommitStep name). new_text (CommitStep name) text commit (inl here)) (λ (test : m.entry.step ≡ ReadStep (CommitTest name)). new_text (ReadStep (CommitTest name)) text test (inl here)) how)
      (λ (old : fin.get w.blobs text ≡ Some bytes). old_text text (h text bytes old))
      (put_text w.blobs (f.names.text name) b text bytes (subst (λ (x : Blobs). fin.get x text ≡ Some bytes) e is))
  by_change now (NewLatest b latest back e) text bytes is = ⊎_elim
      (λ (here : f.names.text Latest ≡ text). new_text LatestStep text latest (inl here))
      (λ (old : fin.get w.blobs text ≡ Some bytes). old_text text (h text bytes old))
      (put_text w.blobs (f.names.text Latest) b text bytes (subst (λ (x : Blobs). fin.get x text ≡ Some bytes) e is))
  by_change now (Removal names how removes) text bytes is = old_text text (h text bytes (removes.left text bytes is))

  pub blobs_now : SeenBlobs now_seen (after f w m)
  blobs_now text bytes is = by_change told.0.blobs (change w m told.0 told.1 a) text bytes (subst (λ (o : Option Image). fin.get (blobs_in o w.blobs) text ≡ Some bytes) told.1 is)

module _ (f : Formats) (size : ℕ) (known : AllKnown f) (laws : StepLaws f size) (change : (w : World) (m : Moment) (i : Image) → m.image ≡ Some i → Allowed f size w m → BlobsChange f w m.entry.step i.blobs) where
  module _ (w : World) (m : Moment) (tracked : Tracked w) (reads : ReadTracked w) (a : Allowed f size w m) (heard : IsUnheard m.entry.reply → ⊥) (told : Tells m.image) (none_at : NoneAtZero w) (seen : List Bytes) (h : Seen seen w) where
    abbrev seen_then : List Bytes
    seen_then = seen ++ written f m.entry.step

    still_seen : (text : Bytes) → Has seen text → Has seen_then text
    still_seen text had = Has-left seen (written f m.entry.step) text had

    -- what each ticket has listed
    abbrev ListedAt : ℕ → Ticket → Type 0
    ListedAt k v = ((b : BlobSize) → Has v.listed b → Has seen_then b.text) × IsRising v.listed

    kept_at : (k : ℕ) (t v : Ticket) → fin.get w.tickets k ≡ Some t → (page : List BlobSize) → v.listed ≡ t.listed ++ page → Lists w k t page → ListedAt k v
    kept_at k t v there page is lists = (
      λ b had. ⊎_elim
          (λ (old : Has t.listed b). still_seen b.text (h.listed k t b there old))
          (λ (new : Has page b). let r = lists.there b new in still_seen b.text (h.blobs b.text r.0 r.1))
          (Has-either t.listed page b (subst (λ (l : List BlobSize). Has l b) is had)),
      subst IsRising (sym is) (rises t.listed page (h.rising k t there) lists.rising lists.above),
    )

    new_at : (k : ℕ) (v : Ticket) → IsNewTicket w v → ListedAt k v
    new_at k v new = ((λ b had. absurd (subst (λ (l : List BlobSize). Has l b) new.listed had)), subst IsRising (sym new.listed) tt)

    maker : Maker w m.entry.who m.entry.step
    maker = elim (laws.maker w m a) [
      | inl is ↦ is
      | inr dead ↦ absurd (heard (subst IsUnheard (sym dead.refused) (blocked_unheard w m.entry.who m.entry.step dead.refusal dead.blocks)))
    ]

    -- its own step
    mine_at : (v : Ticket) → fin.get (after f w m).tickets m.entry.who ≡ Some v → (t : Ticket) → fin.get w.tickets m.entry.who ≡ Some t → ListedAt m.entry.who v
    mine_at v now t there = by maker
      where
        alive : Allows f size w m.entry.who m.entry.step m.entry.reply m.image
        alive = (looked_at f size laws w m a heard).1

        by : Maker w m.entry.who m.entry.step → ListedAt m.entry.who v
        by (UnitStep u out unit) =
            let own = (own_step f size known w m.entry.who t there m.entry.step m.entry.reply m.image unit alive).0 in
            kept_at m.entry.who t v there (page_of m.entry.step m.entry.reply) (ap (λ (x : Ticket). x.listed) (sym (same_Some own.v v (sym own.at ∙ now))) ∙ own.further.listed)
            (lists_page f size w m.entry.who t there m.entry.step m.entry.reply m.image told alive)
        by (ReaderStep q reading own) = absurd (reads.apart.tickets m.entry.who q t reading.there there)
        by (ClientStep nobody own) = absurd (none_at t (subst (λ (who : ℕ). fin.get w.tickets who ≡ Some t) nobody there))

    listed_at : (k : ℕ) (v : Ticket) → fin.get (after f w m).tickets k ≡ Some v → ListedAt k v
    listed_at k v there = elim ((laws.frame w m).come k v there) [
      | inr new ↦ new_at k v new.1
      | inl old ↦ elim (eqb_tells k m.entry.who) [
        | inl mine ↦
            subst (λ (n : ℕ). ListedAt n v) (sym mine.1)
            (mine_at v (subst (λ (n : ℕ). fin.get (after f w m).tickets n ≡ Some v) mine.1 there) old.0 (subst (λ (n : ℕ). fin.get w.tickets n ≡ Some old.0) mine.1 old.1))
        | inr other ↦
            let aside : k ≢ w.next_ticket = λ is. let below : k < w.next_ticket = (tracked.tickets k old.0 old.1).0 in let same : k ≡ w.next_ticket = is in omega (arith, below, same) in
            kept_at k v v (sym ((laws.frame w m).others k other.1 aside) ∙ there) [] (sym (append-nil v.listed)) (no_page w k v)
      ]
    ]

    pub seen_now : Seen seen_then (after f w m)
    seen_now = record { blobs = blobs_now f size change w m a told seen h.blobs; listed = λ k v b there had. (listed_at k v there).0 b had; rising = λ k v there. (listed_at k v there).1 }

  seen_from : (w : World) (log : List Moment) (seen : List Bytes) → Tracked w → ReadTracked w → IsLegal f size w log → AreHeard log → AreTold log → NoneAtZero w → Seen seen w → Seen (seen ++ all_written f log) (world_from f w log)
  seen_from w [] seen tracked reads legal heard told none h = subst (λ (l : List Bytes). Seen l w) (sym (append-nil seen)) h
  seen_from w (m ∷ log) seen tracked reads legal heard told none h =
      subst (λ (l : List Bytes). Seen l (world_from f (after f w m) log)) (append_assoc seen (written f m.entry.step) (all_written f log))
      (seen_from (after f w m) log (seen ++ written f m.entry.step) (laws.tracks w m tracked legal.0) (laws.reads w m tracked reads legal.0) legal.1
      (λ n had. heard n (inr had)) told.1 (still_none f size laws w m tracked none) (seen_now w m tracked reads legal.0 (heard m (inl refl)) told.0 none seen h))

  pub listed_few : (w : World) (log : List Moment) → IsHeard f size w log → AreTold log → (k : ℕ) (t : Ticket) → fin.get (world_from f w log).tickets k ≡ Some t → length t.listed ≤ most_blobs w log
  listed_few w log h told k t there =
      sum (length t.listed) (length (map (λ (b : BlobSize). b.text) t.listed)) (length (texts w.blobs ++ all_written f log)) (most_blobs w log) (length-map t.listed (λ (b : BlobSize). b.text))
      (few_once (map (λ (b : BlobSize). b.text) t.listed) (texts w.blobs ++ all_written f log) (rising_once t.listed (last.rising k t there))
      (λ x had. let r = Has-mapped (λ (b : BlobSize). b.text) t.listed x had in subst (Has (texts w.blobs ++ all_written f log)) r.2 (last.listed k t r.0 there r.1)))
      (length_seen f w log)
    where
      last : Seen (texts w.blobs ++ all_written f log) (world_from f w log)
      last = seen_from w log (texts w.blobs) h.tracked h.readers h.legal h.heard told (λ u at. nothing w.tickets 0 u h.untouched.tickets at)
          (record { blobs = λ text bytes is. in_texts w.blobs text bytes is; listed = λ j u b at had. absurd (nothing w.tickets j u h.untouched.tickets at); rising = λ j u at. absurd (nothing w.tickets j u h.untouched.tickets at) })

      sum : (a b c d : ℕ) → b ≡ a → b ≤ c → c ≡ d → a ≤ d
      sum a b c d p q r = let one : b ≡ a = p in let two : b ≤ c = q in let three : c ≡ d = r in omega (arith, one, two, three)
