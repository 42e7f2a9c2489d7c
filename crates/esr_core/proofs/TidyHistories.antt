-- Over a legal history from a tidy image the world stays tidy, and so do the images; so each delete dooms exactly what it leaves behind.
use Rattle.std.proofs.Common.{◌≡◌, ℕ, zero, suc, true, false, true≢false, List, [], ◌∷◌, ◌++◌, Option, None, refl, sym, ap, ◌∙◌, subst, inl, inr}
use Rattle.std.proofs.lemmas.Option.{same_Some, none-some}
use Rattle.esr_model.specs.Names.{BlobName, Root}
use Rattle.esr_model.specs.Values.{Bytes, RootData, ClusterRecord, ReadsBack, Formats}
use Rattle.esr_model.specs.Shelf.{Shelved, shelf_after}
use Rattle.esr_model.specs.Kept.{Kept}
use Rattle.esr_model.specs.Image.{Blobs, Image, Has, At, IsOne, RootIs}
use Rattle.esr_core.specs.World.{World, HeldIn, record_of, image_of, Opened, OpenedEmpty, OpenedRecord}
use Rattle.esr_core.specs.Pruning.{dooms}
use Rattle.esr_core.specs.Ids.{Law}
use Rattle.esr_core.specs.Entry.{SettlePruned, PruneStep, Reply, Moment}
use Rattle.esr_core.specs.After.{after}
use Rattle.esr_core.specs.Allowed as allowed
use Rattle.esr_core.specs.Allowed.{SettlesDeletion, PruneAllows, Allows, Allowed}
use Rattle.esr_core.specs.History.{world_from, IsLegal, AreTold, committed, counts}
use Rattle.esr_core.specs.Left.{cut_off, Leaves}
use Rattle.esr_core.specs.Tidy.{TidyRoot, TidyIn, TidyImage, DoomsExactly}
use Rattle.esr_core.specs.Laws.OneValue.{reads_one, held_one}
use Rattle.esr_core.proofs.Grows.{root_is_kept}
use Rattle.esr_core.specs.Laws.Maps.{nothing}
use Rattle.esr_core.proofs.Lists.{opening_law}
use Rattle.esr_core.proofs.Blocked.{block_uncounted}
use Rattle.esr_core.specs.Laws.Histories.{legal_parts, told_parts}
use Rattle.esr_core.proofs.Histories.{Stepped, step_law, legal_law, image_is}
use Rattle.esr_core.proofs.Left.{allows_pruned}
use Rattle.esr_core.proofs.PruneTurns.{was_reached, is_left}
use Rattle.esr_core.proofs.DoomsAll.{dooms_all, dooms_root}
use Rattle.esr_core.proofs.TidyTurns.{listed_kept, root_less, turn_tidy}

module _ (f : Formats) (w : World) (shelf : List Shelved) (l : Law f w shelf) where
  step_tidy : (size : ℕ) → TidyIn f w → (m : Moment) → Allowed f size w m → Stepped f w shelf m (after f w m) → TidyIn f (after f w m)
  step_tidy size tidy m a s = elim s.made [
    | inl h ↦ turn_tidy f w (after f w m) shelf l tidy h.1.0
    | inr h ↦ subst (TidyIn f) (sym h.0) tidy
  ]

pub legal_tidy : (f : Formats) (size : ℕ) (log : List Moment) (w : World) (shelf : List Shelved) → Law f w shelf → TidyIn f w → IsLegal f size w log → AreTold log → TidyIn f (world_from f w log)
legal_tidy f size [] w shelf l tidy legal told = tidy
legal_tidy f size (m ∷ log) w shelf l tidy legal told =
    let s = step_law f size w shelf l m told.0.0 told.0.1 legal.0 in
    legal_tidy f size log (after f w m) (shelf_after shelf s.commands) s.law (step_tidy f w shelf l size tidy m legal.0 s) legal.1 told.1

-- ---- images

pub empty_tidy : (f : Formats) (image : Image) → image.text ≡ None → TidyImage f image
empty_tidy f image none = λ text cluster root there. absurd (none-some text (sym none ∙ there))

pub opened_tidy : (f : Formats) (image : Image) (w : World) → TidyImage f image → Opened f image w → TidyIn f w
opened_tidy f image w tidy (OpenedEmpty e) = record {
  rooted = record { used = λ x m. absurd m; lists = λ i k g gen. absurd (none-some g gen) };
  done = λ u i k g a. absurd (nothing a.number a.op a.there);
  bases = λ k t e. absurd (nothing k t e);
}
opened_tidy f image w tidy (OpenedRecord cluster text root there reads is) = record {
  rooted = root_less f (At f image.blobs) (HeldIn f w) (λ name bytes h. h.0) root (tidy text cluster root there reads is);
  done = λ u i k g a. absurd (nothing a.number a.op a.there);
  bases = λ k t e. absurd (nothing k t e);
}

pub at_one : (f : Formats) (blobs : Blobs) → IsOne (At f blobs)
at_one f blobs name a b p q = same_Some a b (sym p.0 ∙ q.0)

-- the safe root is one
root_one : (f : Formats) (has : BlobName → Bytes → Type 0) → IsOne has → (safe : ℕ) (a b : RootData) → RootIs f has safe a → RootIs f has safe b → a ≡ b
root_one f has func zero a b p q = p ∙ sym q
root_one f has func (suc n) a b p q = reads_one has func (Root n) f.root a b p q

-- what is doomed is there still, but no index that the safe root reaches
image_tidy : (f : Formats) (w : World) (shelf : List Shelved) → Law f w shelf → TidyIn f w → ReadsBack f.cluster (record_of w) → TidyImage f (image_of f w)
image_tidy f w shelf l tidy back = λ text cluster root there reads is.
    let same_text : f.cluster.text (record_of w) ≡ text = same_Some (f.cluster.text (record_of w)) text there in
    let same : record_of w ≡ cluster = same_Some (record_of w) cluster (sym back ∙ ap f.cluster.read same_text ∙ reads) in
    let own : RootIs f (At f w.blobs) w.safe w.root = root_is_kept f (HeldIn f w) (At f w.blobs) (at_one f w.blobs) (held_one f w) (λ name bytes h. h.0) w.safe w.root l.lawful.sound.carried.root_is in
    let told : RootIs f (At f w.blobs) w.safe root = subst (λ (c : ClusterRecord). RootIs f (At f w.blobs) c.ledger.safe root) (sym same) is in
    subst (λ (r : RootData). TidyRoot f (At f w.blobs) r) (root_one f (At f w.blobs) (at_one f w.blobs) w.safe w.root root own told) (record {
      used = tidy.rooted.used;
      lists = λ i k g gen. listed_kept f (HeldIn f w) (At f w.blobs) (at_one f w.blobs) (λ name bytes h. h.0) w.root i k g (l.lawful.sound.carried.carries i k g (inl gen)).stands (tidy.rooted.lists i k g gen);
    })

now_tidy : (f : Formats) (w : World) (shelf : List Shelved) (i : Image) → Law f w shelf → TidyIn f w → ReadsBack f.cluster (record_of w) → i ≡ image_of f w → TidyImage f i
now_tidy f w shelf i l tidy back now = subst (TidyImage f) (sym now) (image_tidy f w shelf l tidy back)

pub left_tidy_image : (f : Formats) (size : ℕ) (log : List Moment) (w : World) (shelf : List Shelved) (i : Image) → Law f w shelf → TidyIn f w → ReadsBack f.cluster (record_of w) → IsLegal f size w log → AreTold log
    → Leaves f size w log i → TidyImage f i
left_tidy_image f size [] w shelf i l tidy back legal told now = now_tidy f w shelf i l tidy back now
left_tidy_image f size (m ∷ log) w shelf i l tidy back legal told (inl now) = now_tidy f w shelf i l tidy back now
left_tidy_image f size (m ∷ log) w shelf i l tidy back legal told (inr (inl cut)) =
    let s = step_law f size w shelf l (cut_off m i) i refl cut in
    now_tidy f (after f w (cut_off m i)) (shelf_after shelf s.commands) i s.law (step_tidy f w shelf l size tidy (cut_off m i) cut s) cut.record_back (image_is f size w (cut_off m i) i refl cut)
left_tidy_image f size (m ∷ log) w shelf i l tidy back legal told (inr (inr later)) =
    let s = step_law f size w shelf l m told.0.0 told.0.1 legal.0 in
    left_tidy_image f size log (after f w m) (shelf_after shelf s.commands) i s.law (step_tidy f w shelf l size tidy m legal.0 s) legal.0.record_back legal.1 told.1 later

-- ---- deletes

exact : (f : Formats) (w : World) (shelf : List Shelved) (k : ℕ) (s : SettlesDeletion f w k) → Law f w shelf → s.t.term ≡ w.term → s.t.clean ≡ false → TidyRoot f (HeldIn f w) w.root → DoomsExactly f w k s
exact f w shelf k s l present deletes tidy = record {
  all = λ name of_safe unreached. elim of_safe [
    | inl reached ↦ dooms_all f w shelf l k s present deletes tidy name reached unreached
    | inr h ↦ subst (Has (dooms f s.t)) (sym h.1) (dooms_root f w shelf l k s present deletes h.0 h.2)
  ];
  was = was_reached f w shelf l k s present deletes;
  left = is_left f w shelf l k s present;
}

pub exact_over : (f : Formats) (size : ℕ) (image : Image) (shelf : List Shelved) (w : World) (log : List Moment) (k : ℕ) → Kept f image shelf → TidyImage f image → Opened f image w → IsLegal f size w log → AreTold log
    → (s : SettlesDeletion f (world_from f w log) k) → s.t.term ≡ (world_from f w log).term → s.t.clean ≡ false → DoomsExactly f (world_from f w log) k s
exact_over f size image shelf w log k kept tidy opened legal told s present deletes =
    let l : Law f w shelf = opening_law f image shelf w kept opened in
    let last : World = world_from f w log in
    exact f (world_from f w log) (shelf_after shelf (committed f last.safe w log)) k s (legal_law f size log w shelf l legal told) present deletes (legal_tidy f size log w shelf l (opened_tidy f image w tidy opened) legal told).rooted

pub settles_delete : {f : Formats} {w : World} {who : ℕ} {reply : Reply} {image : Option Image} → PruneAllows f w who SettlePruned reply image → counts reply ≡ true → (s : SettlesDeletion f w who) × (s.t.term ≡ w.term)
settles_delete (allowed.SettlingDelete k im s present same) e = (s, present)
settles_delete (allowed.SettleDeleteStale k im s apart same) e = absurd (true≢false (sym e))
settles_delete (allowed.SettleDeleteFails k im s present same) e = (s, present)

pub settled_exact : (f : Formats) (size : ℕ) (image : Image) (shelf : List Shelved) (w : World) (before rest : List Moment) (m : Moment) → Kept f image shelf → TidyImage f image → Opened f image w
    → IsLegal f size w (before ++ m ∷ rest) → AreTold (before ++ m ∷ rest) → m.entry.step ≡ PruneStep SettlePruned → counts m.entry.reply ≡ true
    → (s : SettlesDeletion f (world_from f w before) m.entry.who) × (s.t.clean ≡ false → DoomsExactly f (world_from f w before) m.entry.who s)
settled_exact f size image shelf w before rest m kept tidy opened legal told step counted =
    let here : World = world_from f w before in
    let legals = legal_parts f size before (m ∷ rest) w legal in
    let allows : Allows f size here m.entry.who m.entry.step m.entry.reply m.image = elim legals.1.0.answered [
      | inl alive ↦ alive.1
      | inr dead ↦ absurd (true≢false (sym counted ∙ ap counts dead.refused ∙ block_uncounted here m.entry.who m.entry.step dead.refusal dead.blocks))
    ] in
    let (s, present) = settles_delete (allows_pruned (subst (λ x. Allows f size (world_from f w before) m.entry.who x m.entry.reply m.image) step allows)) counted in
    (s, λ deletes. exact_over f size image shelf w before m.entry.who kept tidy opened legals.0 (told_parts before (m ∷ rest) told).0 s present deletes)
