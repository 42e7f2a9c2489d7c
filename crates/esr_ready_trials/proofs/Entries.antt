-- A delete that is asked for, by what stands in the maps of the world.
use Rattle.std.proofs.Common.{◌≡◌, ℕ, suc, Bool, false, not, ◌&&◌, List, [], ◌∷◌, map, length, Option, Some, None, Ordering, Greater, nat_cmp, refl, sym, ap, ◌∙◌, arith}
use Rattle.std.specs.Prelude.{if◌then◌else◌}
use Rattle.std.specs.List.{list_any, filter}
use Rattle.std.specs.Cmp.{nat_cmp_total}
use Rattle.std.specs.FinMap.Entries.{by_order}
use Rattle.std.specs.FinMap.{FinMap}
use Rattle.std.specs.FinMap as fin
use Rattle.esr_model.specs.Values.{Bytes, RootSnap}
use Rattle.esr_model.specs.Shelf.{names_uuid}
use Rattle.esr_core.specs.World.{World, Op, Deletion, Ticket}
use Rattle.esr_core.specs.Deletes.{uuid_among, with_uuid, with_named, named_uuids, has_op, is_listed_uuid, name_the_same, first_delete, waiting_delete, running_delete, number_by, delete_number, swaps_op, is_unaborted, aborted_ops, delete_merged, delete_by, asked_delete}
use Rattle.esr_ready_trials.specs.Rows.{one, two}

-- ---- the entries of maps of none, of one and of two

no_length : {A : Type 0} (xs : List A) → length xs ≡ 0 → xs ≡ []
no_length [] e = refl
no_length (x ∷ xs) e = absurd (omega (arith, e))

pub entries_none : {A : Type 0} → fin.entries (fin.empty {K = ℕ} {X = A} {R = nat_cmp}) ≡ []
entries_none {A} = no_length (fin.entries fin.empty) (sym (fin.len-entries fin.empty) ∙ fin.len-empty nat_cmp A)

pub entries_one : {A : Type 0} (n : ℕ) (x : A) → fin.entries (one n x) ≡ (n, x) ∷ []
entries_one n x = fin.entries-insert nat_cmp_total fin.empty n x ∙ ap (fin.put nat_cmp n x) entries_none

pub entries_two : {A : Type 0} (n : ℕ) (x : A) (k : ℕ) (y : A) → nat_cmp k n ≡ Greater → fin.entries (two n x k y) ≡ (n, x) ∷ (k, y) ∷ []
entries_two n x k y later = fin.entries-insert nat_cmp_total (one n x) k y ∙ ap (fin.put nat_cmp k y) (entries_one n x) ∙ ap (λ (o : Ordering). by_order o ((k, y) ∷ (n, x) ∷ []) ((n, y) ∷ []) ((n, x) ∷ (k, y) ∷ [])) later

-- what is put again stands there alone
pub again : {A : Type 0} (x y : A) → fin.insert (one 2 x) 2 y ≡ one 2 y
again x y = fin.same_entries_map (fin.insert (one 2 x) 2 y) (one 2 y) (fin.entries-insert nat_cmp_total (one 2 x) 2 y ∙ ap (fin.put nat_cmp 2 y) (entries_one 2 x) ∙ sym (entries_one 2 y))

-- ---- what is asked, over entries

abbrev pub named_in : List RootSnap → List (ℕ × Op) → List ℕ → List Bytes → List ℕ
named_in snaps ops uuids [] = uuids
named_in snaps ops uuids (name ∷ names) = named_in snaps ops (with_uuid uuids (uuid_among snaps ops name)) names

abbrev pub waits_in : ℕ → List (ℕ × Ticket) → ℕ × Deletion → Bool
waits_in term tickets e = not e.1.failed && not (list_any (has_op term e.0) tickets)

abbrev pub runs_in : ℕ → List (ℕ × Ticket) → List RootSnap → List ℕ → ℕ × Deletion → Bool
runs_in term tickets snaps uuids e = not e.1.failed && (list_any (has_op term e.0) tickets && name_the_same (filter (is_listed_uuid snaps) e.1.uuids) uuids)

abbrev pub aborting_in : ℕ → List (ℕ × Ticket) → List ℕ → ℕ → ℕ × Op → ℕ × Op
aborting_in term tickets uuids by e = if names_uuid uuids e.1.uuid && (is_unaborted e.1.aborted && not (list_any (swaps_op term e.0) tickets)) then (e.0, record e.1 { aborted = Some by }) else e

-- a world and its entries
pub record Told (w : World) : Type 0 where
  pub ops : List (ℕ × Op)
  pub deletes : List (ℕ × Deletion)
  pub tickets : List (ℕ × Ticket)
  pub ops_is : fin.entries w.ops ≡ ops
  pub deletes_is : fin.entries w.deletes ≡ deletes
  pub tickets_is : fin.entries w.tickets ≡ tickets

module _ (w : World) (t : Told w) (names : List Bytes) where
  named_from : (some : List Bytes) (uuids : List ℕ) → with_named w uuids some ≡ named_in w.root.snapshots t.ops uuids some
  named_from [] uuids = refl
  named_from (name ∷ some) uuids =
      ap (λ (es : List (ℕ × Op)). with_named w (with_uuid uuids (uuid_among w.root.snapshots es name)) some) t.ops_is ∙ named_from some (with_uuid uuids (uuid_among w.root.snapshots t.ops name))

  abbrev pub named : List ℕ
  named = named_in w.root.snapshots t.ops [] names

  abbrev pub waiting : Option ℕ
  waiting = first_delete (waits_in w.term t.tickets) t.deletes

  abbrev pub running : Option ℕ
  running = first_delete (runs_in w.term t.tickets w.root.snapshots named) t.deletes

  abbrev pub ops_by : ℕ → FinMap nat_cmp Op
  ops_by by = fin.from_entries {R = nat_cmp} (map (aborting_in w.term t.tickets named by) t.ops)

  waiting_is : waiting_delete w ≡ waiting
  waiting_is = λ j. first_delete (waits_in w.term (t.tickets_is j)) (t.deletes_is j)

  running_is : running_delete w (named_uuids w names) ≡ running
  running_is = λ j. first_delete (runs_in w.term (t.tickets_is j) w.root.snapshots (named_from names [] j)) (t.deletes_is j)

  ops_are : (by : ℕ) → aborted_ops w (named_uuids w names) by ≡ ops_by by
  ops_are by = λ j. fin.from_entries {R = nat_cmp} (map (aborting_in w.term (t.tickets_is j) (named_from names [] j) by) (t.ops_is j))

  pub number_is : delete_number w names ≡ number_by w.next_op waiting running
  number_is = λ j. number_by w.next_op (waiting_is j) (running_is j)

  chosen : (first second : Option ℕ) → waiting ≡ first → running ≡ second → asked_delete w names ≡ delete_by w names first second
  chosen first second p q = λ j. delete_by w names ((waiting_is ∙ p) j) ((running_is ∙ q) j)

  pub opened_is : waiting ≡ None → running ≡ None
      → asked_delete w names ≡ record w { ops = ops_by w.next_op; deletes = fin.insert w.deletes w.next_op (record { uuids = named; clean = false; failed = false }); next_op = suc w.next_op }
  opened_is p q = chosen None None p q ∙ λ j. record w { ops = ops_are w.next_op j; deletes = fin.insert w.deletes w.next_op (record { uuids = named_from names [] j; clean = false; failed = false }); next_op = suc w.next_op }

  pub merged_is : (d : ℕ) (x : Deletion) → waiting ≡ Some d → fin.get w.deletes d ≡ Some x
      → asked_delete w names ≡ record w { ops = ops_by d; deletes = fin.insert w.deletes d (record x { uuids = named_in w.root.snapshots t.ops x.uuids names }) }
  merged_is d x p there = chosen (Some d) running p refl ∙ ap (delete_merged w names d) there ∙ λ j. record w { ops = ops_are d j; deletes = fin.insert w.deletes d (record x { uuids = named_from names x.uuids j }) }

  pub joined_is : (d : ℕ) → waiting ≡ None → running ≡ Some d → asked_delete w names ≡ w
  joined_is d p q = chosen None (Some d) p q
