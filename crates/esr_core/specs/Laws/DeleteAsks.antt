-- A delete that is asked: what its names name, the delete that it goes into, and what it makes of the open ops.
use Rattle.std.proofs.Common.{◌≡◌, ◌⊎◌, ℕ, Bool, true, false, not, ◌==◌, List, [], ◌∷◌, ◌++◌, append-nil, append_assoc, Option, Some, None, refl, sym, ap, ◌∙◌, subst, inl, inr}
use Rattle.std.specs.Prelude.{option_map}
use Rattle.std.proofs.lemmas.Bool.{eq-eqb, and_parts, and_from, not-true, cond-true, cond-false, cases_Bool, and_right, and_left}
use Rattle.std.proofs.lemmas.Option.{same_Some, none-some}
use Rattle.std.specs.FinMap as fin
use Rattle.esr_model.specs.Values.{Bytes, Has, RootSnap}
use Rattle.esr_model.specs.Shelf.{names_uuid}
use Rattle.esr_core.specs.World.{World, Op, Deletion, Ticket}
use Rattle.esr_core.specs.Deletes.{open_uuid, uuid_among, uuid_named, with_uuid, with_named, named_uuids, has_op, is_taken, first_delete, waits_for_ticket, waiting_delete, running_delete, is_unaborted, aborts_op, aborting, aborted_ops, delete_merged, delete_by, asked_delete}
use Rattle.esr_core.specs.Turns.{Aborts}
use Rattle.esr_core.specs.Allowed.{IsNameOf}
use Rattle.esr_core.specs.Laws.AbortLaws.{aborted_at}
use Rattle.esr_core.specs.Laws.Maps.{entry_got, got_entry}
use Rattle.esr_core.specs.Laws.Tests.{same_one, clash, any_of}
use Rattle.esr_model.specs.Lists.{Has-either}

-- ---- what a name names

open_named : (ops : List (ℕ × Op)) (name : Bytes) (u : ℕ) → open_uuid ops name ≡ Some u → (e : ℕ × Op) × Has ops e × (e.1.name ≡ name) × (e.1.uuid ≡ u)
open_named [] name u e = absurd (none-some u e)
open_named (x ∷ ops) name u e = elim (same_one x.1.name name) [
  | inl h ↦ (x, inl refl, h.1, same_Some _ _ (sym (cond-true _ _ _ h.0) ∙ e))
  | inr h ↦ let (y, m, n, i) = open_named ops name u (sym (cond-false _ _ _ h) ∙ e) in (y, inr m, n, i)
]

among_named : (snaps : List RootSnap) (ops : List (ℕ × Op)) (name : Bytes) (u : ℕ) → uuid_among snaps ops name ≡ Some u → ((s : RootSnap) × Has snaps s × (s.name ≡ name) × (s.uuid ≡ u)) ⊎ (open_uuid ops name ≡ Some u)
among_named [] ops name u e = inr e
among_named (s ∷ snaps) ops name u e = elim (same_one s.name name) [
  | inl h ↦ inl (s, inl refl, h.1, same_Some _ _ (sym (cond-true _ _ _ h.0) ∙ e))
  | inr h ↦ elim (among_named snaps ops name u (sym (cond-false _ _ _ h) ∙ e)) [ inl z ↦ inl (z.0, inr z.1, z.2, z.3) | inr z ↦ inr z ]
]

-- the uuid is that of a snapshot of this name
pub named_is : (w : World) (name : Bytes) (u : ℕ) → uuid_named w name ≡ Some u → IsNameOf w name u
named_is w name u e = elim (among_named w.root.snapshots (fin.entries w.ops) name u e) [
  | inl s ↦ inl s
  | inr o ↦ let (x, m, n, i) = open_named (fin.entries w.ops) name u o in inr (x.0, x.1, entry_got w.ops x.0 x.1 m, n, i)
]

-- ---- the uuids of its names

-- what the names add to the uuids from before
pub record MoreNamed (w : World) (uuids : List ℕ) (names : List Bytes) : Type 0 where
  pub more : List ℕ
  pub is : with_named w uuids names ≡ uuids ++ more
  pub from : (u : ℕ) → Has more u → (name : Bytes) × Has names name × (uuid_named w name ≡ Some u)

one_more : (uuids : List ℕ) (o : Option ℕ) → (more : List ℕ) × (with_uuid uuids o ≡ uuids ++ more) × ((u : ℕ) → Has more u → o ≡ Some u)
one_more uuids None = ([], sym (append-nil uuids), λ u m. absurd m)
one_more uuids (Some u) = elim (cases_Bool (names_uuid uuids u)) [
  | inl b ↦ ([], cond-true _ _ _ b ∙ sym (append-nil uuids), λ v m. absurd m)
  | inr b ↦ (u ∷ [], cond-false _ _ _ b, λ v m. elim m [ inl e ↦ ap Some e | inr none ↦ absurd none ])
]

pub more_named : (w : World) (names : List Bytes) (uuids : List ℕ) → MoreNamed w uuids names
more_named w [] uuids = record { more = []; is = sym (append-nil uuids); from = λ u m. absurd m }
more_named w (name ∷ names) uuids =
    let (first, is, told) = one_more uuids (uuid_named w name) in
    let rest = more_named w names (with_uuid uuids (uuid_named w name)) in
    record {
      more = first ++ rest.more;
      is = rest.is ∙ ap (λ (us : List ℕ). us ++ rest.more) is ∙ append_assoc uuids first rest.more;
      from = λ u m. elim (Has-either first rest.more u m) [
        | inl h ↦ (name, inl refl, told u h)
        | inr h ↦ let (n, there, e) = rest.from u h in (n, inr there, e)
      ];
    }

-- ---- the delete that it goes into

-- a delete that waits hasn't failed, and no ticket of the present term has it
pub record Waits (w : World) (d : ℕ) : Type 0 where
  pub x : Deletion
  pub there : fin.get w.deletes d ≡ Some x
  pub unfailed : x.failed ≡ false
  pub idle : (k : ℕ) (t : Ticket) → fin.get w.tickets k ≡ Some t → t.out ≡ true → t.term ≡ w.term → t.op ≡ d → ⊥

first_found : (test : ℕ × Deletion → Bool) (es : List (ℕ × Deletion)) (d : ℕ) → first_delete test es ≡ Some d → (x : Deletion) × Has es (d, x) × (test (d, x) ≡ true)
first_found test [] d e = absurd (none-some d e)
first_found test (p ∷ es) d e = elim (cases_Bool (test p)) [
  | inl b ↦ let same : p.0 ≡ d = same_Some _ _ (sym (cond-true _ _ _ b) ∙ e) in (p.1, inl (λ i. (same i, p.1)), subst (λ (k : ℕ). test (k, p.1) ≡ true) same b)
  | inr b ↦ let (x, m, t) = first_found test es d (sym (cond-false _ _ _ b) ∙ e) in (x, inr m, t)
]

pub waits : (w : World) (d : ℕ) → waiting_delete w ≡ Some d → Waits w d
waits w d e =
    let (x, m, test) = first_found (waits_for_ticket w) (fin.entries w.deletes) d e in
    let parts = and_parts (not x.failed) (not (is_taken w d)) test in
    record {
      x = x;
      there = entry_got w.deletes d x m;
      unfailed = not-true x.failed parts.0;
      idle = λ k t there out present of.
          clash (is_taken w d)
          (any_of (has_op w.term d) (fin.entries w.tickets) (k, t) (got_entry w.tickets k t there) (and_from t.out _ out (and_from (t.term == w.term) (t.op == d) (eq-eqb _ _ present) (eq-eqb _ _ of))))
          (not-true (is_taken w d) parts.1);
    }

-- ---- the ops that it aborts

module _ (w : World) (uuids : List ℕ) (by : ℕ) where
  -- the op of this number after it
  abbrev pub now_at : ℕ → Op → Op
  now_at o op = (aborting w uuids by (o, op)).1

  pub get_at : (o : ℕ) → fin.get (aborted_ops w uuids by) o ≡ option_map (now_at o) (fin.get w.ops o)
  get_at o = aborted_at w uuids by o

  became : (o : ℕ) (op : Op) → (now_at o op ≡ op) ⊎ (now_at o op ≡ record op { aborted = Some by })
  became o op = elim (cases_Bool (aborts_op w uuids (o, op))) [
    | inl b ↦ let is : aborting w uuids by (o, op) ≡ (o, record op { aborted = Some by }) = cond-true _ _ _ b in inr (ap (λ (e : ℕ × Op). e.1) is)
    | inr b ↦ let is : aborting w uuids by (o, op) ≡ (o, op) = cond-false _ _ _ b in inl (ap (λ (e : ℕ × Op). e.1) is)
  ]

  pub spared : (o : ℕ) (op : Op) → aborts_op w uuids (o, op) ≡ false → now_at o op ≡ op
  spared o op b = let is : aborting w uuids by (o, op) ≡ (o, op) = cond-false _ _ _ b in ap (λ (e : ℕ × Op). e.1) is

  pub aborts : Aborts w.ops (aborted_ops w uuids by) by
  aborts =
      record {
        was = λ o op e. was_at o op (fin.get w.ops o) refl (sym (get_at o) ∙ e);
        stays = λ o old e. (now_at o old, get_at o ∙ ap (option_map (now_at o)) e, became o old);
        first = λ o old op b e now aborted.
            same_Some _ _ (sym now ∙ get_at o ∙ ap (option_map (now_at o)) e)
            ∙ spared o old (and_right (names_uuid uuids old.uuid) _ (and_left (is_unaborted old.aborted) _ (ap is_unaborted aborted)));
      }
    where
      was_at : (o : ℕ) (op : Op) (found : Option Op) → fin.get w.ops o ≡ found → option_map (now_at o) found ≡ Some op → (old : Op) × (fin.get w.ops o ≡ Some old) × ((op ≡ old) ⊎ (op ≡ record old { aborted = Some by }))
      was_at o op None is e = absurd (none-some op e)
      was_at o op (Some old) is e = let same : op ≡ now_at o old = sym (same_Some _ _ e) in (old, is, elim (became o old) [ inl h ↦ inl (same ∙ h) | inr h ↦ inr (same ∙ h) ])

-- ---- the world after it

-- it leaves all but the ops, the deletes and the next number
pub delete_leaves : (w : World) (names : List Bytes) → asked_delete w names ≡ record w { ops = (asked_delete w names).ops; deletes = (asked_delete w names).deletes; next_op = (asked_delete w names).next_op }
delete_leaves w names = by (waiting_delete w) (running_delete w (named_uuids w names))
  where
    merged : (d : ℕ) (x : Option Deletion) → delete_merged w names d x ≡ record w { ops = (delete_merged w names d x).ops; deletes = (delete_merged w names d x).deletes; next_op = (delete_merged w names d x).next_op }
    merged d None = refl
    merged d (Some x) = refl

    by : (waiting running : Option ℕ) → delete_by w names waiting running ≡ record w { ops = (delete_by w names waiting running).ops; deletes = (delete_by w names waiting running).deletes; next_op = (delete_by w names waiting running).next_op }
    by (Some d) running = merged d (fin.get w.deletes d)
    by None (Some d) = refl
    by None None = refl
