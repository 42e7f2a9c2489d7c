-- A delete that is asked: what its names name, the delete that it goes into, and what it makes of the open ops.
use Rattle.std.proofs.Common.{◌≡◌, ℕ, true, false, not, ◌==◌, List, [], ◌∷◌, Option, Some, None, refl, sym, ap, ◌∙◌, subst, inl, inr}
use Rattle.std.specs.Prelude.{option_map}
use Rattle.std.specs.FinMap as fin
use Rattle.std.proofs.lemmas.Bool.{eq-eqb, and_from, cond-true, cond-false, cases_Bool, and_right}
use Rattle.esr_model.specs.Values.{Bytes, Has, Formats}
use Rattle.esr_model.specs.Shelf.{names_uuid}
use Rattle.esr_core.specs.World.{World, Op, Work, Finalize, Deleting, Ticket}
use Rattle.esr_core.specs.Ready.{IsMaster}
use Rattle.esr_core.specs.Deletes.{uuid_named, with_uuid, with_named, named_uuids, has_op, waiting_delete, running_delete, is_swap, swaps_op, is_swapped, is_unaborted, aborts_op, aborted_ops, delete_opened, delete_merged, delete_by, asked_delete}
use Rattle.esr_core.specs.Turns.{IsKnown, SparesRestores, AskDelete, MergeDelete, Turn, Stays, AsksDelete, Merges, commands_of}
use Rattle.esr_core.specs.Allowed.{IsNameOf, MayDelete}
use Rattle.esr_model.specs.Lists.{Has-left, Has-right}
use Rattle.esr_core.specs.Laws.Maps.{got_entry}
use Rattle.esr_core.specs.Laws.Tests.{clash, any_of}
use Rattle.esr_core.specs.Laws.DeleteRoots.{has_names, names_has}
use Rattle.esr_core.specs.Laws.DeleteAsks.{named_is, more_named, Waits, waits, now_at as law-now_at, get_at as law-get_at, spared as law-spared, aborts}

-- ---- what a name names

pub name_known : (w : World) (name : Bytes) (u : ℕ) → IsNameOf w name u → IsKnown w u
name_known w name u (inl s) = inl (s.0, s.1, s.3)
name_known w name u (inr o) = inr (o.0, o.1, o.2, o.4)

-- ---- the uuids of its names

has_with : (uuids : List ℕ) (o : Option ℕ) (u : ℕ) → Has uuids u → Has (with_uuid uuids o) u
has_with uuids None u m = m
has_with uuids (Some v) u m = elim (cases_Bool (names_uuid uuids v)) [
  | inl b ↦ subst (λ (us : List ℕ). Has us u) (sym (cond-true _ _ _ b)) m
  | inr b ↦ subst (λ (us : List ℕ). Has us u) (sym (cond-false _ _ _ b)) (Has-left uuids (v ∷ []) u m)
]

has_added : (uuids : List ℕ) (u : ℕ) → Has (with_uuid uuids (Some u)) u
has_added uuids u = elim (cases_Bool (names_uuid uuids u)) [
  | inl b ↦ subst (λ (us : List ℕ). Has us u) (sym (cond-true _ _ _ b)) (names_has uuids u b)
  | inr b ↦ subst (λ (us : List ℕ). Has us u) (sym (cond-false _ _ _ b)) (Has-right uuids (u ∷ []) u (inl refl))
]

has_on : (w : World) (names : List Bytes) (uuids : List ℕ) (u : ℕ) → Has uuids u → Has (with_named w uuids names) u
has_on w [] uuids u m = m
has_on w (name ∷ names) uuids u m = has_on w names (with_uuid uuids (uuid_named w name)) u (has_with uuids (uuid_named w name) u m)

-- each name's is among them
pub has_named : (w : World) (names : List Bytes) (uuids : List ℕ) (name : Bytes) (u : ℕ) → Has names name → uuid_named w name ≡ Some u → Has (with_named w uuids names) u
has_named w [] uuids name u m e = absurd m
has_named w (x ∷ names) uuids name u (inl same) e =
    has_on w names (with_uuid uuids (uuid_named w x)) u (subst (λ (o : Option ℕ). Has (with_uuid uuids o) u) (sym (ap (uuid_named w) same ∙ e)) (has_added uuids u))
has_named w (x ∷ names) uuids name u (inr m) e = has_named w names (with_uuid uuids (uuid_named w x)) name u m e

-- ---- the ops that it aborts

master_swap : (work : Work) → IsMaster work → is_swap work ≡ true
master_swap (Finalize info results made) m = refl
master_swap (Deleting uuids plan) m = refl
master_swap work m = absurd m

module _ (w : World) (uuids : List ℕ) (by : ℕ) where
  abbrev now_at : ℕ → Op → Op
  now_at = law-now_at w uuids by

  get_at : (o : ℕ) → fin.get (aborted_ops w uuids by) o ≡ option_map (now_at o) (fin.get w.ops o)
  get_at = law-get_at w uuids by

  spared : (o : ℕ) (op : Op) → aborts_op w uuids (o, op) ≡ false → now_at o op ≡ op
  spared = law-spared w uuids by

  swapped_stays : (o : ℕ) → is_swapped w o ≡ true → fin.get (aborted_ops w uuids by) o ≡ fin.get w.ops o
  swapped_stays o e = get_at o ∙ go (fin.get w.ops o)
    where
      go : (found : Option Op) → option_map (now_at o) found ≡ found
      go None = refl
      go (Some op) = ap Some (spared o op (and_right (names_uuid uuids op.uuid) _ (and_right (is_unaborted op.aborted) _ (ap not e))))

  -- not one whose swap is out
  pub unfinal : (k : ℕ) (t : Ticket) → fin.get w.tickets k ≡ Some t → t.out ≡ true → t.settled ≡ false → t.term ≡ w.term → IsMaster t.work → fin.get (aborted_ops w uuids by) t.op ≡ fin.get w.ops t.op
  unfinal k t there out unsettled present master =
      swapped_stays t.op (any_of (swaps_op w.term t.op) (fin.entries w.tickets) (k, t) (got_entry w.tickets k t there)
      (and_from (has_op w.term t.op (k, t)) _ (and_from t.out _ out (and_from (t.term == w.term) (t.op == t.op) (eq-eqb _ _ present) (eq-eqb _ _ refl))) (and_from (not t.settled) _ (ap not unsettled) (master_swap t.work master))))

-- ---- the world after it

-- a delete that nothing refuses is a turn that counts for nothing
module _ (f : Formats) (w : World) (names : List Bytes) (may : MayDelete w names) where
  more_known : (uuids : List ℕ) (u : ℕ) → Has (more_named w names uuids).more u → IsKnown w u
  more_known uuids u m = let (name, there, e) = (more_named w names uuids).from u m in name_known w name u (named_is w name u e)

  -- what it adds it names
  more_is : (uuids : List ℕ) (u : ℕ) → Has (more_named w names uuids).more u → Has (named_uuids w names) u
  more_is uuids u m = let (name, there, e) = (more_named w names uuids).from u m in has_named w names [] name u there e

  unmore : (uuids : List ℕ) (u : ℕ) → names_uuid (named_uuids w names) u ≡ false → names_uuid (more_named w names uuids).more u ≡ false
  unmore uuids u e = elim (cases_Bool (names_uuid (more_named w names uuids).more u)) [
    | inl b ↦ absurd (clash _ (has_names (named_uuids w names) u (more_is uuids u (names_has (more_named w names uuids).more u b))) e)
    | inr b ↦ b
  ]

  spares : (o : ℕ) (op : Op) (u : ℕ) → fin.get w.ops o ≡ Some op → op.source ≡ Some u → names_uuid (named_uuids w names) u ≡ false
  spares o op u there is = elim (cases_Bool (names_uuid (named_uuids w names) u)) [ inl b ↦ absurd (may.no_clone o (record { op = op; there = there; source = u; source_is = is; names = b })) | inr b ↦ b ]

  spares_restores : SparesRestores w (named_uuids w names)
  spares_restores o r there = elim (cases_Bool (names_uuid (named_uuids w names) r.uuid)) [ inl b ↦ absurd (may.no_restore o (record { r = r; there = there; names = b })) | inr b ↦ b ]

  new_delete : AskDelete w (named_uuids w names) (delete_opened w (named_uuids w names))
  new_delete =
      record {
        no_cleanup = may.no_cleanup;
        known = λ u m. more_known [] u (subst (λ (us : List ℕ). Has us u) (more_named w names []).is m);
        spares = spares;
        spares_restores = spares_restores;
        ops = aborted_ops w (named_uuids w names) w.next_op;
        aborts = aborts w (named_uuids w names) w.next_op;
        unfinal = unfinal w (named_uuids w names) w.next_op;
        new_is = refl;
      }

  merges : (d : ℕ) → Waits w d → MergeDelete w (named_uuids w names) d (delete_merged w names d (fin.get w.deletes d))
  merges d h =
      let m = more_named w names h.x.uuids in
      record {
        ops = aborted_ops w (named_uuids w names) d;
        aborts = aborts w (named_uuids w names) d;
        unfinal = unfinal w (named_uuids w names) d;
        x = h.x;
        there = h.there;
        unfailed = h.unfailed;
        waiting = h.idle;
        more = m.more;
        known = more_known h.x.uuids;
        spares = λ o op u there is. unmore h.x.uuids u (spares o op u there is);
        spares_restores = λ o r there. unmore h.x.uuids r.uuid (spares_restores o r there);
        new_is = ap (delete_merged w names d) h.there ∙ λ j. record w { ops = aborted_ops w (named_uuids w names) d; deletes = fin.insert w.deletes d (record h.x { uuids = m.is j }) };
      }

  pub delete_turn : (turn : Turn f w (asked_delete w names)) × (commands_of f w (asked_delete w names) turn ≡ [])
  delete_turn = by (waiting_delete w) (running_delete w (named_uuids w names)) refl
    where
      by : (waiting running : Option ℕ) → waiting_delete w ≡ waiting → (turn : Turn f w (delete_by w names waiting running)) × (commands_of f w (delete_by w names waiting running) turn ≡ [])
      by (Some d) running is = (Merges _ (named_uuids w names) d (merges d (waits w d is)), refl)
      by None (Some d) is = (Stays _ refl, refl)
      by None None is = (AsksDelete _ (named_uuids w names) new_delete, refl)
