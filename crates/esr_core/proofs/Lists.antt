-- Over each list of turns, and from what opening makes.
use Rattle.std.proofs.Common.{◌≡◌, ℕ, suc, ◌<◌, false, true≢false, List, [], ◌∷◌, ◌++◌, Some, refl, sym, ap, ◌∙◌, subst, inl, inr, arith, ◌+◌}
use Rattle.std.specs.FinMap as fin
use Rattle.esr_model.specs.Values.{Has, RootData, RecordWork, Creating, Cloning, DeletingOf, Cleaning, ClusterRecord, Formats}
use Rattle.esr_model.specs.Image.{Image, RootIs, Blobs, At, Present, KeptAt}
use Rattle.esr_model.specs.Kept.{first_id, IdsBelow, RootIds, WorkIds, Kept}
use Rattle.esr_model.specs.Shelf.{Shelved, Command, apply, shelf_after}
use Rattle.esr_model.specs.Names.{BlobName}
use Rattle.esr_core.specs.World.{World, Deletion, kept_deletes, numbered_deletes, no_record, no_root, opened, Opened, OpenedEmpty, OpenedRecord}
use Rattle.esr_core.specs.Queue.{Lawful}
use Rattle.esr_core.specs.Turns.{Turns, NoTurn, OneMore, commands_of}
use Rattle.esr_core.specs.Laws.Maps.{nothing}
use Rattle.esr_core.specs.Laws.DeleteNumbers.{numbered_from}
use Rattle.esr_core.proofs.Opening.{opening_sound}
use Rattle.std.specs.Prelude.{length}
use Rattle.std.proofs.lemmas.Option.{none-some, same_Some}
use Rattle.esr_core.proofs.Turning.{turn_law}
use Rattle.esr_core.specs.Ids.{Law}

pub shelf_after-append : (shelf : List Shelved) (xs ys : List Command) → shelf_after shelf (xs ++ ys) ≡ shelf_after (shelf_after shelf xs) ys
shelf_after-append shelf [] ys = refl
shelf_after-append shelf (x ∷ xs) ys = shelf_after-append (apply shelf x) xs ys

pub turns_lawful : (f : Formats) (w last : World) (shelf : List Shelved) (cs : List Command) → Law f w shelf → Turns f w last cs → Law f last (shelf_after shelf cs)
turns_lawful f w last shelf cs l NoTurn = l
turns_lawful f w last shelf cs l (OneMore mid new ds before d turn) =
    subst (Law f new) (sym (shelf_after-append shelf ds (commands_of f mid new turn))) (turn_law f mid new (shelf_after shelf ds) (turns_lawful f w mid shelf ds l before) d turn)

pub opening_lawful : (f : Formats) (blobs : Blobs) (cluster : ClusterRecord) (root : RootData) (shelf : List Shelved) → KeptAt f blobs cluster.ledger shelf → RootIs f (At f blobs) cluster.ledger.safe root
    → Lawful f (opened blobs cluster root) shelf
opening_lawful f blobs cluster root shelf k is =
    let plain : (d : ℕ) (x : Deletion) → fin.get (numbered_deletes 1 (kept_deletes cluster.ops)) d ≡ Some x → (d < suc (length (kept_deletes cluster.ops))) × (x.clean ≡ false)
    = λ d x e. let (below, clean, from) = numbered_from 1 (kept_deletes cluster.ops) d x e in let b : d < 1 + length (kept_deletes cluster.ops) = below in (omega (arith, b), clean) in
    record {
      sound = opening_sound f blobs cluster root shelf k is;
      queue = record {
        numbers = λ o op e. absurd (nothing o op e);
        delete_numbers = λ o x e. (plain o x e).0;
        apart = λ o op x e. absurd (nothing o op e);
        behind = λ o op s e. absurd (nothing o op e);
        queued = λ o p a b s z lt e. absurd (nothing o a e);
        given_up = λ o op s e. absurd (nothing o op e);
        completes = λ o op rs e. absurd (nothing o op e);
        completed_numbers = λ o h. absurd h;
        lone = λ o x e clean. absurd (true≢false (sym clean ∙ (plain o x e).1));
        sources = λ o op u e. absurd (nothing o op e);
        sole = λ k t e. absurd (nothing k t e);
        completed_done = λ o op h e. absurd h;
        deleting = λ j t e. absurd (nothing j t e);
        drops = λ j t e. absurd (nothing j t e);
        one_swap = λ i j a. absurd (nothing i a.t a.there);
      };
    }

-- the uuids of the kept deletes are among those of the record
kept_of_record : (c : ℕ) (ops : List (ℕ × RecordWork)) → ((op : ℕ × RecordWork) → Has ops op → WorkIds op.1 c) → (us : List ℕ) → Has (kept_deletes ops) us → (u : ℕ) → Has us u → u < c
kept_of_record c [] all us h u m = absurd h
kept_of_record c ((o, DeletingOf uuids) ∷ ops) all us (inl e) u m = all (o, DeletingOf uuids) (inl refl) u (subst (λ list. Has list u) (sym e) m)
kept_of_record c ((o, DeletingOf uuids) ∷ ops) all us (inr h) u m = kept_of_record c ops (λ op there. all op (inr there)) us h u m
kept_of_record c ((o, Creating name uuid moment indices) ∷ ops) all us h u m = kept_of_record c ops (λ op there. all op (inr there)) us h u m
kept_of_record c ((o, Cloning name uuid moment indices source) ∷ ops) all us h u m = kept_of_record c ops (λ op there. all op (inr there)) us h u m
kept_of_record c ((o, Cleaning) ∷ ops) all us h u m = kept_of_record c ops (λ op there. all op (inr there)) us h u m

-- the ids that opening finds lie below the first one of its term
pub record_opens : (f : Formats) (blobs : Blobs) (cluster : ClusterRecord) (root : RootData) (shelf : List Shelved) → KeptAt f blobs cluster.ledger shelf → RootIs f (At f blobs) cluster.ledger.safe root
    → ((name : BlobName) → Present f blobs name → IdsBelow name (first_id (suc cluster.ledger.term))) → RootIds root (first_id (suc cluster.ledger.term))
    → ((op : ℕ × RecordWork) → Has cluster.ops op → WorkIds op.1 (first_id (suc cluster.ledger.term))) → Law f (opened blobs cluster root) shelf
record_opens f blobs cluster root shelf k is below root_below ops_below =
    record {
      lawful = opening_lawful f blobs cluster root shelf k is;
      ids = record { blobs = below; doomed = λ name m. absurd m; root = root_below; ops = λ o op e. absurd (nothing o op e); tickets = λ j t e. absurd (nothing j t e) };
      deletions = λ d x e u m. let (b, clean, from) = numbered_from 1 (kept_deletes cluster.ops) d x e in let (us, um, has) = from u m in kept_of_record (first_id (suc cluster.ledger.term)) cluster.ops ops_below us um u has;
      in_term = record { from = omega arith; below = omega arith };
      written = λ k t e. absurd (nothing k t e);
      pruned = record { unsettled = λ k t uuids plan e. absurd (nothing k t e); settled = λ k t uuids s e. absurd (nothing k t e) };
      texts = record {
        swaps = λ k t info rs made e. absurd (nothing k t e);
        ops = λ o op e. absurd (nothing o op e);
        agree = λ k t info rs made o op e. absurd (nothing k t e);
        one = λ j k t u a b rs qs m n e. absurd (nothing j t e);
        plans = λ k t uuids s e. absurd (nothing k t e);
      };
    }

-- the opened world of a kept image is lawful
pub opening_law : (f : Formats) (image : Image) (shelf : List Shelved) (w : World) → Kept f image shelf → Opened f image w → Law f w shelf
opening_law f image shelf w (inl h) (OpenedEmpty e) =
    record_opens f image.blobs no_record no_root shelf
    (record { ordered = omega arith; picked = h.no_snapshot; begun = λ n p. absurd (h.no_blob _ p.0 p.1.0); whole = λ n p. absurd (h.no_blob _ p.0 p.1.0); named = λ text b there. absurd (h.no_blob text b there) })
    refl
    (λ name p. absurd (h.no_blob _ p.0 p.1.0))
    (record { generations = λ i k g e. absurd (none-some g e); snapshots = λ s m. absurd m; ids = λ x m. absurd m; uuids = λ x u m. absurd m; one_name = λ x y m. absurd m })
    (λ op m. absurd m)
opening_law f image shelf w (inl h) (OpenedRecord cluster text root there reads is) = absurd (none-some text (sym h.no_record ∙ there))
opening_law f image shelf w (inr h) (OpenedEmpty e) = absurd (none-some h.text (sym e ∙ h.there))
opening_law f image shelf w (inr h) (OpenedRecord cluster text root there reads is) =
    let same_text : h.text ≡ text = same_Some _ _ (sym h.there ∙ there) in
    let same : h.cluster ≡ cluster = same_Some _ _ (sym h.reads ∙ ap f.cluster.read same_text ∙ reads) in
    record_opens f image.blobs cluster root shelf
    (subst (λ (c : ClusterRecord). KeptAt f image.blobs c.ledger shelf) same h.kept) is
    (subst (λ (c : ClusterRecord). (name : BlobName) → Present f image.blobs name → IdsBelow name (first_id (suc c.ledger.term))) same h.names_below)
    (subst (λ (c : ClusterRecord). (r : RootData) → RootIs f (At f image.blobs) c.ledger.safe r → RootIds r (first_id (suc c.ledger.term))) same h.root_below root is)
    (subst (λ (c : ClusterRecord). (op : ℕ × RecordWork) → Has c.ops op → WorkIds op.1 (first_id (suc c.ledger.term))) same h.ops_below)
