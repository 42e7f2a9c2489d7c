-- The world of a history where nothing fails, and that no op is open where no unit is ready and none is out.
use Rattle.std.proofs.Common.{◌≡◌, ◌⊎◌, ℕ, zero, suc, ◌+◌, ◌<◌, true, false, true≢false, List, [], ◌∷◌, ◌++◌, Option, Some, append_assoc, append-nil, refl, sym, ap, ◌∙◌, subst, inl, inr, arith}
use Rattle.std.specs.Prelude.{length}
use Rattle.std.specs.FinMap as fin
use Rattle.std.proofs.lemmas.Option.{none-some}
use Rattle.esr_core.specs.Laws.NumberMaps.{was_in}
use Rattle.esr_model.specs.Names.{BlobName}
use Rattle.esr_model.specs.Values.{Bytes, Has, RootIndex, RootData, ClusterRecord, Formats}
use Rattle.esr_model.specs.Shelf.{Shelved, shelf_after}
use Rattle.esr_model.specs.Kept.{first_id, RootIds, Kept}
use Rattle.esr_model.specs.Image.{Blobs, Image, At, RootIs}
use Rattle.esr_core.specs.World.{World, Deletion, Ticket, Reader, kept_deletes, numbered_deletes, opened, Opened, OpenedEmpty, OpenedRecord, no_record, no_root}
use Rattle.esr_core.specs.Ready.{IsOpen, HasRestore, NoTicketOut, AnyReady}
use Rattle.esr_core.specs.Tracked.{Tracked, IsOneIndex}
use Rattle.esr_core.specs.ReadTracked.{ReadTracked}
use Rattle.esr_core.specs.Ids.{Law}
use Rattle.esr_core.specs.ReadLaw.{ReadLaw}
use Rattle.esr_core.specs.Entry.{Why, Step, AskStep, FailedStep, PruneStep, DeleteFails, Refusal, StaleTerm, Reply, HasEnded, Refused, Entry, Moment}
use Rattle.esr_core.specs.After.{after}
use Rattle.esr_core.specs.History.{world_from, IsLegal, AreTold, committed}
use Rattle.esr_core.specs.Laws.Maps.{nothing}
use Rattle.esr_desk.specs.Start.{Start, formats_of, world_of, or_no_ticket}
use Rattle.esr_desk.specs.Own.{or_no_reader}
use Rattle.esr_quiet.specs.Refusals.{IsSwapStep, IsOfRule, IsOfTerm, AreByRule}
use Rattle.esr_report.specs.Replies.{is_stale}
use Rattle.esr_quiet.specs.Smooth.{IsSmooth, IsStaleTicket, NoneFailed, NoneUndeleted}
use Rattle.esr_quiet.specs.PrefixLaws.{place_of, has_at, smooth_front}
use Rattle.esr_quiet.specs.RootNames.{root_named}
use Rattle.esr_complete.specs.Lines.{entries_of}
use Rattle.esr_complete.specs.Answers.{IsIdle}
use Rattle.esr_complete.proofs.OpEnds.{IsCalm, AreCalmIn}
use Rattle.esr_complete.proofs.Stale.{IsStaleIn, terms_at, stale_told}
use Rattle.esr_complete.proofs.Following.{FollowsIn}
use Rattle.esr_complete.proofs.Steps.{IsSafe, follows_step}

-- ---- from the opened world on

-- the deletes that opening keeps
numbered_told : (number : ℕ) (kept : List (List ℕ)) (d : ℕ) (x : Deletion) → fin.get (numbered_deletes number kept) d ≡ Some x → (x.failed ≡ false) × (x.clean ≡ false) × (d < number + length kept)
numbered_told number [] d x e = absurd (nothing d x e)
numbered_told number (uuids ∷ kept) d x e = elim (was_in (numbered_deletes (suc number) kept) number (record { uuids = uuids; clean = false; failed = false }) d x e) [
  | inl is ↦ (ap (λ (y : Deletion). y.failed) (sym is.1), ap (λ (y : Deletion). y.clean) (sym is.1), let same : d ≡ number = is.0 in omega (arith, same))
  | inr is ↦ let rest = numbered_told (suc number) kept d x is.1 in (rest.0, rest.1, let below : d < suc number + length kept = rest.2 in omega (arith, below))
]

follows_opened : (blobs : Blobs) (cluster : ClusterRecord) (root : RootData) → FollowsIn (opened blobs cluster root) []
follows_opened blobs cluster root =
    record {
      live = refl;
      ops = λ o op e. absurd (nothing o op e);
      deletes = λ d x e.
          let t = numbered_told 1 (kept_deletes cluster.ops) d x e in
          record { unfailed = t.0; nameless = record { unnamed = refl; below = let below : d < 1 + length (kept_deletes cluster.ops) = t.2 in omega (arith, below); kind = sym t.1 } };
      coming = λ o le. (refl, refl);
      op_of = λ k t e. absurd (nothing k t e);
      uuid_of = λ k t info results made e is. absurd (nothing k t e);
      cleans = λ k t e. absurd (nothing k t e);
      fresh = λ k le. (refl, refl, refl);
      units = λ k t e. absurd (nothing k t e);
      final = λ o k e. absurd (none-some k e);
      said = λ e has. absurd has;
      settles = λ e has. absurd has;
      prunes = λ e has. absurd has;
      leaves = λ e has. absurd has;
      ended = λ e o has accepted. absurd has;
      deleted = λ e cleans d has accepted. absurd has;
    }

pub follows_start : (f : Formats) (image : Image) (w : World) → Opened f image w → FollowsIn w []
follows_start f image w (OpenedEmpty none) = follows_opened image.blobs no_record no_root
follows_start f image w (OpenedRecord cluster text root is reads root_is) = follows_opened image.blobs cluster root

-- ---- the place of an entry

-- the moment of the entry that stands after these
pub record Parted (log : List Moment) (before : List Entry) (e : Entry) : Type 0 where
  pub front : List Moment
  pub moment : Moment
  pub back : List Moment
  pub is : log ≡ front ++ moment ∷ back
  pub front_is : entries_of front ≡ before
  pub own : moment.entry ≡ e

pub heads : {A : Type 0} (a b : A) (xs ys : List A) → a ∷ xs ≡ b ∷ ys → (a ≡ b) × (xs ≡ ys)
heads a b xs ys e = (cc, cc)

no_entry : (e : Entry) (es : List Entry) → [] ≡ e ∷ es → ⊥
no_entry e es is = cc

pub parted : (log : List Moment) (before : List Entry) (e : Entry) (rest : List Entry) → entries_of log ≡ before ++ e ∷ rest → Parted log before e
parted [] [] e rest is = absurd (no_entry e rest is)
parted [] (x ∷ before) e rest is = absurd (no_entry x (before ++ e ∷ rest) is)
parted (m ∷ log) [] e rest is = record { front = []; moment = m; back = log; is = refl; front_is = refl; own = (heads m.entry e (entries_of log) rest is).0 }
parted (m ∷ log) (x ∷ before) e rest is =
    let both = heads m.entry x (entries_of log) (before ++ e ∷ rest) is in
    let p = parted log before e rest both.1 in
    record { front = m ∷ p.front; moment = p.moment; back = p.back; is = ap (λ (l : List Moment). m ∷ l) p.is; front_is = λ i. both.0 i ∷ p.front_is i; own = p.own }

-- each moment is of a step where nothing fails
abbrev pub AreCalm : Formats → World → List Moment → Type 0
AreCalm f w log = (front back : List Moment) (m : Moment) → log ≡ front ++ m ∷ back → IsCalm (IsStaleIn (world_from f w front) m.entry.who) m.entry.reply m.entry.step

calm_by : (stale : Type 0) (reply : Reply) (step : Step) → ((why : Why) → step ≡ FailedStep why → reply ≡ HasEnded → ⊥) → ((why : Why) → step ≡ PruneStep (DeleteFails why) → reply ≡ HasEnded → stale)
    → ((refusal : Refusal) → reply ≡ Refused refusal → IsCalm stale (Refused refusal) step) → IsCalm stale reply step
calm_by stale (Refused refusal) step none undeleted by_rule = by_rule refusal refl
calm_by stale HasEnded (FailedStep why) none undeleted by_rule = absurd (none why refl refl)
calm_by stale HasEnded (PruneStep (DeleteFails why)) none undeleted by_rule = undeleted why refl refl
calm_by stale reply step none undeleted by_rule = tt

swap_calm : (stale : Type 0) (own now : ℕ) (step : Step) → IsSwapStep step → IsCalm stale (Refused (StaleTerm own now)) step
swap_calm stale own now (AskStep command) swaps = absurd swaps
swap_calm stale own now step swaps = swaps

refusal_calm : (stale : Type 0) (s : Start) (front : List Moment) (m : Moment) (refusal : Refusal) → IsOfRule front m refusal ⊎ IsOfTerm s front m refusal → IsCalm stale (Refused refusal) m.entry.step
refusal_calm stale s front m refusal (inl rule) = subst (IsCalm stale (Refused refusal)) (sym rule.0.1) rule.1
refusal_calm stale s front m refusal (inr old) = subst (λ (r : Refusal). IsCalm stale (Refused r) m.entry.step) (sym old.is) (swap_calm stale old.own old.now m.entry.step old.swaps)

stale_in : (s : Start) (front : List Moment) (who : ℕ) → IsStaleTicket s front who → IsStaleIn (world_of s front) who
stale_in s front who stale t there same = stale.apart (ap (λ (o : Option Ticket). (or_no_ticket o).term) there ∙ same)

module _ (s : Start) (log : List Moment) (none : NoneFailed log) (by_rule : AreByRule s log) where
  -- a step where nothing fails, where a delete or cleanup fails only so
  calm_where : (stale : Type 0) (front back : List Moment) (m : Moment) → log ≡ front ++ m ∷ back → ((why : Why) → m.entry.step ≡ PruneStep (DeleteFails why) → m.entry.reply ≡ HasEnded → stale)
      → IsCalm stale m.entry.reply m.entry.step
  calm_where stale front back m is undeleted =
      calm_by stale m.entry.reply m.entry.step (λ why. none m why (subst (λ (l : List Moment). Has l m) (sym is) (has_at front back m))) undeleted (λ refusal reply. refusal_calm stale s front m refusal (by_rule front back m refusal is reply))

  pub calm_of : (m : Moment) → Has log m → IsCalm (Unit {0}) m.entry.reply m.entry.step
  calm_of m has = let p = place_of log m has in calm_where (Unit {0}) p.front p.back m p.is (λ why step reply. tt)

  pub all_calm : NoneUndeleted s log → AreCalm (formats_of s) s.world log
  all_calm undeleted front back m is = calm_where (IsStaleIn (world_of s front) m.entry.who) front back m is (λ why step reply. stale_in s front m.entry.who (undeleted front back m why is step reply))

  -- by the entries
  pub all_told : IsSmooth s log → NoneUndeleted s log → AreCalmIn (entries_of log)
  all_told smooth undeleted before e rest is =
      let p = parted log before e rest is in
      subst (λ (x : Entry). IsCalm (is_stale before x.who ≡ true) x.reply x.step) p.own
      (subst (λ (l : List Entry). IsCalm (is_stale l p.moment.entry.who ≡ true) p.moment.entry.reply p.moment.entry.step) p.front_is
      (calm_where (is_stale (entries_of p.front) p.moment.entry.who ≡ true) p.front p.back p.moment p.is
      (λ why step reply. stale_told s log smooth p.front p.back p.moment why p.is step reply (stale_in s p.front p.moment.entry.who (undeleted p.front p.back p.moment why p.is step reply)))))

-- each world that the history passes is lawful, and the finalizations that are out in it are of the present term
abbrev pub AreSafe : Formats → World → List Entry → List Moment → Type 0
AreSafe f w es log = (front back : List Moment) → log ≡ front ++ back → IsSafe f (world_from f w front) (es ++ entries_of front)

pub safe_here : (f : Formats) (w : World) (es : List Entry) (log : List Moment) → AreSafe f w es log → IsSafe f w es
safe_here f w es log safe = subst (IsSafe f w) (append-nil es) (safe [] log refl)

pub safe_then : (f : Formats) (w : World) (es : List Entry) (m : Moment) (log : List Moment) → AreSafe f w es (m ∷ log) → AreSafe f (after f w m) (es ++ m.entry ∷ []) log
safe_then f w es m log safe front back is = subst (IsSafe f (world_from f (after f w m) front)) (sym (append_assoc es (m.entry ∷ []) (entries_of front))) (safe (m ∷ front) back (ap (λ (l : List Moment). m ∷ l) is))

pub calm_then : (f : Formats) (w : World) (m : Moment) (log : List Moment) → AreCalm f w (m ∷ log) → AreCalm f (after f w m) log
calm_then f w m log calm front back n is = calm (m ∷ front) back n (ap (λ (l : List Moment). m ∷ l) is)

pub follows_history : (f : Formats) (size : ℕ) (log : List Moment) (w : World) (es : List Entry) → FollowsIn w es → IsLegal f size w log → AreCalm f w log → AreSafe f w es log → FollowsIn (world_from f w log) (es ++ entries_of log)
follows_history f size [] w es h legal calm safe = subst (FollowsIn w) (sym (append-nil es)) h
follows_history f size (m ∷ log) w es h legal calm safe =
    subst (FollowsIn (world_from f (after f w m) log)) (append_assoc es (m.entry ∷ []) (entries_of log))
    (follows_history f size log (after f w m) (es ++ m.entry ∷ []) (follows_step f size w es h m legal.0 (calm [] log m refl) (safe_here f w es (m ∷ log) safe)) legal.1 (calm_then f w m log calm) (safe_then f w es m log safe))

-- ---- no unit is ready

-- the laws of the core on which this rests
pub record Laws : Type 0 where
  pub lawful : (f : Formats) (part_size : ℕ) (image : Image) (shelf : List Shelved) (w : World) (log : List Moment) → Kept f image shelf → Opened f image w → IsLegal f part_size w log → AreTold log
      → Law f (world_from f w log) (shelf_after shelf (committed f (world_from f w log).safe w log))
  pub ready : (f : Formats) (w : World) (shelf : List Shelved) (o : ℕ) → Law f w shelf → ReadTracked w → IsOpen w o ⊎ HasRestore w o → NoTicketOut w → AnyReady w
  pub opening : (f : Formats) (image : Image) (shelf : List Shelved) (w : World) → Kept f image shelf → Opened f image w → Law f w shelf
  pub restores_open : (f : Formats) (blobs : Blobs) (cluster : ClusterRecord) (root : RootData) → ReadLaw f (opened blobs cluster root)
  pub restores_kept : (f : Formats) (part_size : ℕ) (shelf : List Shelved) (w : World) (log : List Moment) → Law f w shelf → ReadLaw f w → IsLegal f part_size w log → AreTold log → ReadLaw f (world_from f w log)
  pub opened_tracked : (blobs : Blobs) (cluster : ClusterRecord) (root : RootData) → RootIds root (first_id (suc cluster.ledger.term)) → ((x y : RootIndex) → Has root.indices x → Has root.indices y → IsOneIndex x.name x.id y.name y.id)
      → Tracked (opened blobs cluster root)
  pub opened_read_tracked : (blobs : Blobs) (cluster : ClusterRecord) (root : RootData) → ReadTracked (opened blobs cluster root)
  pub tracks : (f : Formats) (part_size : ℕ) (w : World) (log : List Moment) → Tracked w → ReadTracked w → IsLegal f part_size w log → ReadTracked (world_from f w log)

-- two indices of the opened root have one id exactly where they have one name
root_one : (s : Start) (has : BlobName → Bytes → Type 0) (n : ℕ) (root : RootData) → RootIs (formats_of s) has n root → (x y : RootIndex) → Has root.indices x → Has root.indices y → IsOneIndex x.name x.id y.name y.id
root_one s has zero root is x y has_x has_y = absurd (subst (λ (r : RootData). Has r.indices x) is has_x)
root_one s has (suc n) root reads x y has_x has_y =
    record {
      one_name = λ same. ap (λ (z : RootIndex). z.name) ((formats_of s).one_each reads.bytes root reads.reads x y has_x has_y same);
      one_id = λ same. ap (λ (z : RootIndex). z.id) (root_named s reads.bytes root reads.reads x y has_x has_y same);
    }

-- what it says of opened worlds
pub record OpenedLaws : Type 0 where
  pub opening : (f : Formats) (image : Image) (shelf : List Shelved) (w : World) → Kept f image shelf → Opened f image w → Law f w shelf
  pub tracked : (blobs : Blobs) (cluster : ClusterRecord) (root : RootData) → RootIds root (first_id (suc cluster.ledger.term)) → ((x y : RootIndex) → Has root.indices x → Has root.indices y → IsOneIndex x.name x.id y.name y.id)
      → Tracked (opened blobs cluster root)
  pub read_tracked : (blobs : Blobs) (cluster : ClusterRecord) (root : RootData) → ReadTracked (opened blobs cluster root)

-- the opened world is in order
pub opened_in_order : OpenedLaws → (s : Start) (image : Image) (shelf : List Shelved) (w : World) → Kept (formats_of s) image shelf → Opened (formats_of s) image w → Tracked w × ReadTracked w
opened_in_order laws s image shelf w kept (OpenedEmpty none) =
    let ids = (laws.opening (formats_of s) image shelf w kept (OpenedEmpty none)).ids in
    (laws.tracked image.blobs no_record no_root ids.root (λ x y has_x has_y. absurd has_x), laws.read_tracked image.blobs no_record no_root)
opened_in_order laws s image shelf w kept (OpenedRecord cluster text root is reads root_is) =
    let ids = (laws.opening (formats_of s) image shelf w kept (OpenedRecord cluster text root is reads root_is)).ids in
    (laws.tracked image.blobs cluster root ids.root (root_one s (At (formats_of s) image.blobs) cluster.ledger.safe root root_is), laws.read_tracked image.blobs cluster root)

pub read_opened : Laws → (f : Formats) (image : Image) (w : World) → Opened f image w → ReadLaw f w
read_opened laws f image w (OpenedEmpty none) = laws.restores_open f image.blobs no_record no_root
read_opened laws f image w (OpenedRecord cluster text root is reads root_is) = laws.restores_open f image.blobs cluster root

out_by : (found : Option Ticket) (t : Ticket) → (or_no_ticket found).out ≡ false → found ≡ Some t → t.out ≡ true → ⊥
out_by found t none is out = true≢false (sym out ∙ sym (ap (λ (o : Option Ticket). (or_no_ticket o).out) is) ∙ none)

pub reader_out : (found : Option Reader) (q : Reader) → (or_no_reader found).out ≡ false → found ≡ Some q → q.out ≡ true → ⊥
reader_out found q none is out = true≢false (sym out ∙ sym (ap (λ (o : Option Reader). (or_no_reader o).out) is) ∙ none)

-- no op is open at the end, nor a delete
pub all_closed : Laws → (s : Start) (log : List Moment) → IsSmooth s log → IsIdle s log → (o : ℕ) → IsOpen (world_of s log) o → ⊥
all_closed laws s log smooth idle o stands =
    let f = formats_of s in
    let law = laws.lawful f s.part_size smooth.image smooth.shelf s.world log smooth.kept smooth.opened smooth.legal smooth.told in
    let in_order = opened_in_order (record { opening = laws.opening; tracked = laws.opened_tracked; read_tracked = laws.opened_read_tracked }) s smooth.image smooth.shelf s.world smooth.kept smooth.opened in
    let tracked : ReadTracked (world_of s log) = laws.tracks f s.part_size s.world log in_order.0 in_order.1 smooth.legal in
    idle.none_ready
    (laws.ready f (world_of s log) (shelf_after smooth.shelf (committed f (world_of s log).safe s.world log)) o law tracked (inl stands)
    (record {
      tickets = λ k t e out. out_by (fin.get (world_of s log).tickets k) t (idle.none_out k) e out;
      readers = λ k q e out. reader_out (fin.get (world_of s log).readers k) q (idle.no_reader k) e out;
    }))

pub all_safe : Laws → (s : Start) (log : List Moment) → IsSmooth s log → AreSafe (formats_of s) s.world [] log
all_safe laws s log smooth front back is =
    let h = smooth_front s log smooth front back is in
    record {
      shelf = shelf_after h.shelf (committed (formats_of s) (world_of s front).safe s.world front);
      law = laws.lawful (formats_of s) s.part_size h.image h.shelf s.world front h.kept h.opened h.legal h.told;
      present = (terms_at s log smooth front back is).final;
    }

-- what the whole history tells
pub follows_all : Laws → (s : Start) (log : List Moment) → IsSmooth s log → NoneFailed log → NoneUndeleted s log → AreByRule s log → FollowsIn (world_of s log) (entries_of log)
follows_all laws s log smooth none undeleted by_rule =
    follows_history (formats_of s) s.part_size log s.world [] (follows_start (formats_of s) smooth.image s.world smooth.opened) smooth.legal (all_calm s log none by_rule undeleted) (all_safe laws s log smooth)
