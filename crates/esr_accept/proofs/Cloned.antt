-- The op of a clone as it begins, and the indices that it takes.
use Rattle.std.proofs.Common.{◌≡◌, ◌≢◌, ℕ, zero, suc, ◌+◌, ◌<◌, ◌≤◌, ◌==◌, Bool, true, false, true≢false, cond, List, [], ◌∷◌, ◌++◌, Option, Some, None, map, length, get_or, drop, replicate, append_assoc, refl, sym, ap, ◌∙◌, subst, inl, inr, arith, slice_get}
use Rattle.std.specs.Str.{bytes_eq}
use Rattle.std.specs.FinMap as fin
use Rattle.std.proofs.lemmas.List.{map-append, length-replicate, append-nil, drop_all}
use Rattle.std.proofs.lemmas.Option.{same_Some, none-some}
use Rattle.esr_names.specs.declared.ids.Id.{Id}
use Rattle.esr_names.specs.declared.index_ref.IndexRef.{IndexRef as CodeRef}
use Rattle.esr_record.specs.declared.op.Making.{Making}
use Rattle.esr_record.specs.Op.{IsMaking}
use Rattle.esr_model.specs.Values.{Bytes, Has, IndexRef}
use Rattle.esr_model.specs.Places.{numbered, places}
use Rattle.esr_model.specs.Uploads.{same_bytes}
use Rattle.esr_core.specs.World.{World, Op, Pending}
use Rattle.esr_core.specs.Restores.{AreOnce}
use Rattle.esr_core.specs.Steps.{completing}
use Rattle.esr_core.specs.Entry.{CloneOf}
use Rattle.esr_core.specs.After.{ref_by_name, and_ref, named_refs, chosen_refs, copied_shard, cloned_op, clone_opened}
use Rattle.esr_formats.specs.Refs.{ref_of_code, AreApart}
use Rattle.esr_ops.specs.declared.shard.OpenShard.{OpenShard}
use Rattle.esr_ops.specs.Shards.{work_of_shard, name_or_none, count_or_none, place_or_none}
use Rattle.esr_ops.specs.Ops.{op_with, IsOpenOp}
use Rattle.esr_ops.specs.Plan.{Plan, IsPlanOf}
use Rattle.esr_accept.specs.Asking.{shards_from, shards_of, clone_begun}
use Rattle.esr_ops.specs.Entries.{eqb_is}
use Rattle.esr_ops.specs.Lists.{left_from, same_bytes-is}
use Rattle.esr_accept.proofs.Begun.{begun_open}
use Rattle.esr_accept.proofs.Finds.{same_true}

-- ---- a clone as it begins

nowhere : (n i : ℕ) → place_or_none (slice_get (replicate n []) i) ≡ []
nowhere (suc n) (suc i) = nowhere n i
nowhere n i = refl

module _ (refs : List CodeRef) (texts : List Bytes) (none : (i : ℕ) → place_or_none (slice_get texts i) ≡ []) where
  copies-from : (at : ℕ) (r : CodeRef) → slice_get refs at ≡ Some r → (first n : ℕ) → map (work_of_shard refs texts) (shards_from at r.id first n) ≡ map copied_shard (numbered (ref_of_code r) first n)
  copies-from at r is first zero = refl
  copies-from at r is first (suc n) =
      λ j. record { ref = record { id = r.id.number; name = name_or_none (is j); shards = count_or_none (is j) }; number = first; place = none at j; state = Pending } ∷ copies-from at r is (suc first) n j

  copies-of : (at : ℕ) (rs : List CodeRef) → ((i : ℕ) → slice_get refs (at + i) ≡ slice_get rs i) → map (work_of_shard refs texts) (shards_of at rs) ≡ map copied_shard (places (map ref_of_code rs))
  copies-of at [] are = refl
  copies-of at (r ∷ rs) are =
      let here : at + 0 ≡ at = omega arith in
      map-append (work_of_shard refs texts) (shards_from at r.id 0 r.shards) (shards_of (suc at) rs)
      ∙ (λ j. copies-from at r (ap (slice_get refs) (sym here) ∙ are 0) 0 r.shards j ++ copies-of (suc at) rs (λ i. let past : suc at + i ≡ at + suc i = omega arith in ap (slice_get refs) past ∙ are (suc i)) j)
      ∙ sym (map-append copied_shard (numbered (ref_of_code r) 0 r.shards) (places (map ref_of_code rs)))

module _ (m : Making) (texts : List Bytes) (shards : List OpenShard) (are : texts ≡ replicate (length m.indices) []) (is : shards ≡ shards_of 0 m.indices) where
  pub clone_open : IsMaking m → AreApart (map ref_of_code m.indices) → IsOpenOp m texts shards
  clone_open valid apart = begun_open m texts shards valid apart (ap length are ∙ length-replicate (length m.indices) []) is

  copies-begun : map (work_of_shard m.indices texts) shards ≡ map copied_shard (places (map ref_of_code m.indices))
  copies-begun =
      ap (map (work_of_shard m.indices texts)) is
      ∙ copies-of m.indices texts (λ i. ap (λ (ts : List Bytes). place_or_none (slice_get ts i)) are ∙ nowhere (length m.indices) i) 0 m.indices (λ i. let z : 0 + i ≡ i = omega arith in ap (slice_get m.indices) z)

  pub clone_begins : (source : Id) → op_with m texts shards false (Some source) None ≡ clone_begun m source.number
  clone_begins source = λ j. record {
    name = m.name;
    uuid = m.uuid.number;
    moment = m.moment;
    indices = map ref_of_code m.indices;
    shards = copies-begun j;
    failed = false;
    source = Some source.number;
    aborted = None;
  }

-- ---- the op that is added

pub cloned_is : (w : World) (m : Making) (name : Bytes) (moment source next : ℕ) (indices : List IndexRef) → m.name ≡ name → m.moment ≡ moment → m.uuid.number ≡ next → w.next_id ≡ next → map ref_of_code m.indices ≡ indices
    → clone_begun m source ≡ cloned_op w name moment (record { source = source; indices = indices })
cloned_is w m name moment source next indices name_is moment_is uuid_is next_is are = λ j. record {
  name = name_is j;
  uuid = (uuid_is ∙ sym next_is) j;
  moment = moment_is j;
  indices = are j;
  shards = map copied_shard (places (are j));
  failed = false;
  source = Some source;
  aborted = None;
}

pub plan_cloned : (w : World) (p : Plan) → IsPlanOf w p → (name : Bytes) (moment : ℕ) (taken : CloneOf) (op : Op) → op ≡ cloned_op w name moment taken → (e : ℕ × Op) → e ≡ (p.next_op, op)
    → (new : Plan) → new ≡ record p { ops = fin.insert p.ops e.0 e.1; completed = completing p.completed e.0 e.1.shards; next_op = suc p.next_op } → IsPlanOf (clone_opened w name moment taken) new
plan_cloned w p is name moment taken op op_is e e_is new new_is =
    let number : e.0 ≡ w.next_op = ap (λ (x : ℕ × Op). x.0) e_is ∙ is.next_op in
    let work : e.1 ≡ cloned_op w name moment taken = ap (λ (x : ℕ × Op). x.1) e_is ∙ op_is in
    subst (IsPlanOf (clone_opened w name moment taken)) (sym new_is) (record {
      ops = λ j. fin.insert (is.ops j) (number j) (work j);
      deletes = is.deletes;
      completed = λ j. completing (is.completed j) (number j) (work j).shards;
      seats = is.seats;
      next_op = ap suc is.next_op;
      next_ticket = is.next_ticket;
      restores = is.restores;
      restore_count = is.restore_count;
      readers = is.readers;
    })

-- ---- the indices that are taken

pub all_taken : (all : List IndexRef) (names : List Bytes) → (length names == 0) ≡ true → all ≡ chosen_refs all names
all_taken all [] e = refl
all_taken all (name ∷ names) e = absurd (omega (arith, eqb_is _ _ e))

pub named_taken : (all : List IndexRef) (names : List Bytes) → (length names == 0) ≡ false → named_refs all names ≡ chosen_refs all names
named_taken all [] e = absurd (true≢false e)
named_taken all (name ∷ names) e = refl

-- the loop over the names
more_ref : (o : Option IndexRef) (rest : List IndexRef) → and_ref o rest ≡ and_ref o [] ++ rest
more_ref None rest = refl
more_ref (Some r) rest = refl

pub named_step : (all : List IndexRef) (names : List Bytes) (i : ℕ) (name : Bytes) → i < length names → name ≡ get_or names i name → (whole now new : List IndexRef) → whole ≡ now ++ named_refs all (drop i names)
    → new ≡ now ++ and_ref (ref_by_name all name) [] → whole ≡ new ++ named_refs all (drop (i + 1) names)
named_step all names i name lt is whole now new so pushed =
    so ∙ ap (λ (ns : List Bytes). now ++ named_refs all ns) (left_from names i name lt is) ∙ ap (λ (rs : List IndexRef). now ++ rs) (more_ref (ref_by_name all name) (named_refs all (drop (i + 1) names)))
    ∙ sym (append_assoc now (and_ref (ref_by_name all name) []) (named_refs all (drop (i + 1) names))) ∙ ap (λ (rs : List IndexRef). rs ++ named_refs all (drop (i + 1) names)) (sym pushed)

pub named_end : (all : List IndexRef) (names : List Bytes) (i : ℕ) → length names ≤ i → (whole now : List IndexRef) → whole ≡ now ++ named_refs all (drop i names) → now ≡ whole
named_end all names i past whole now so = sym (so ∙ ap (λ (ns : List Bytes). now ++ named_refs all ns) (drop_all i names past) ∙ append-nil now)

-- the loop over the indices
module _ (all : List CodeRef) (i : ℕ) (x : CodeRef) (lt : i < length all) (is : x ≡ get_or all i x) (name : Bytes) where
  step : (b : Bool) → bytes_eq x.name name ≡ b → ref_by_name (map ref_of_code (drop i all)) name ≡ cond b (Some (ref_of_code x)) (ref_by_name (map ref_of_code (drop (i + 1) all)) name)
  step b e = ap (λ (rs : List CodeRef). ref_by_name (map ref_of_code rs) name) (left_from all i x lt is) ∙ ap (λ t. cond t (Some (ref_of_code x)) (ref_by_name (map ref_of_code (drop (i + 1) all)) name)) (same_bytes-is x.name name ∙ e)

  pub ref_here : bytes_eq x.name name ≡ true → ref_by_name (map ref_of_code (drop i all)) name ≡ Some (ref_of_code x)
  ref_here e = step true e

  pub ref_on : bytes_eq x.name name ≡ false → ref_by_name (map ref_of_code (drop i all)) name ≡ ref_by_name (map ref_of_code (drop (i + 1) all)) name
  ref_on e = step false e

pub ref_none : (all : List CodeRef) (i : ℕ) → length all ≤ i → (name : Bytes) → ref_by_name (map ref_of_code (drop i all)) name ≡ None
ref_none all i past name = ap (λ (rs : List CodeRef). ref_by_name (map ref_of_code rs) name) (drop_all i all past)

pub ref_pushed : (old new : List CodeRef) (copy x : CodeRef) (o : Option IndexRef) → new ≡ old ++ copy ∷ [] → copy ≡ x → o ≡ Some (ref_of_code x) → map ref_of_code new ≡ map ref_of_code old ++ and_ref o []
ref_pushed old new copy x o new_is copy_is found =
    ap (map ref_of_code) new_is ∙ map-append ref_of_code old (copy ∷ []) ∙ (λ j. map ref_of_code old ++ ref_of_code (copy_is j) ∷ []) ∙ ap (λ (z : Option IndexRef). map ref_of_code old ++ and_ref z []) (sym found)

pub ref_left : (old new : List CodeRef) (o : Option IndexRef) → new ≡ old → o ≡ None → map ref_of_code new ≡ map ref_of_code old ++ and_ref o []
ref_left old new o new_is none = ap (map ref_of_code) new_is ∙ sym (append-nil (map ref_of_code old)) ∙ ap (λ (z : Option IndexRef). map ref_of_code old ++ and_ref z []) (sym none)

-- no two of them have one name or one id
by_name : (r : IndexRef) (refs : List IndexRef) (name : Bytes) (b : Bool) → same_bytes r.name name ≡ b → (q : IndexRef) → cond b (Some r) (ref_by_name refs name) ≡ Some q
    → (ref_by_name refs name ≡ Some q → Has refs q × (q.name ≡ name)) → Has (r ∷ refs) q × (q.name ≡ name)
by_name r refs name true h q e rest = let same = same_Some r q e in (inl same, ap (λ (x : IndexRef). x.name) (sym same) ∙ same_true r.name name h)
by_name r refs name false h q e rest = let (m, is) = rest e in (inr m, is)

named_so : (refs : List IndexRef) (name : Bytes) (q : IndexRef) → ref_by_name refs name ≡ Some q → Has refs q × (q.name ≡ name)
named_so [] name q e = absurd (none-some q e)
named_so (r ∷ refs) name q e = by_name r refs name (same_bytes r.name name) refl q e (λ later. named_so refs name q later)

one_of : (all : List IndexRef) (name : Bytes) (names : List Bytes) (q : IndexRef) (o : Option IndexRef) → ref_by_name all name ≡ o → (rest : List IndexRef) → (Has rest q → Has all q × Has names q.name) → Has (and_ref o rest) q
    → Has all q × Has (name ∷ names) q.name
one_of all name names q None e rest more m = let (a, b) = more m in (a, inr b)
one_of all name names q (Some r) e rest more (inl is) = let (a, b) = named_so all name r e in (subst (Has all) is a, inl (sym b ∙ ap (λ (x : IndexRef). x.name) is))
one_of all name names q (Some r) e rest more (inr m) = let (a, b) = more m in (a, inr b)

taken_of : (all : List IndexRef) (names : List Bytes) (q : IndexRef) → Has (named_refs all names) q → Has all q × Has names q.name
taken_of all [] q m = absurd m
taken_of all (name ∷ names) q m = one_of all name names q (ref_by_name all name) refl (named_refs all names) (λ k. taken_of all names q k) m

one_id : (all : List IndexRef) → AreApart all → (a b : IndexRef) → Has all a → Has all b → a.id ≡ b.id → a ≡ b
one_id [] apart a b ha hb e = absurd ha
one_id (r ∷ rs) apart a b (inl x) (inl y) e = sym x ∙ y
one_id (r ∷ rs) apart a b (inl x) (inr n) e = absurd ((apart.2 b n).1 (sym e ∙ ap (λ (z : IndexRef). z.id) (sym x)))
one_id (r ∷ rs) apart a b (inr m) (inl y) e = absurd ((apart.2 a m).1 (e ∙ ap (λ (z : IndexRef). z.id) (sym y)))
one_id (r ∷ rs) apart a b (inr m) (inr n) e = one_id rs apart.3 a b m n e

some_shards : (all : List IndexRef) → AreApart all → (a : IndexRef) → Has all a → (1 ≤ a.shards) × (a.shards ≤ 1024)
some_shards [] apart a m = absurd m
some_shards (r ∷ rs) apart a (inl x) = (subst (λ (z : IndexRef). 1 ≤ z.shards) x apart.0, subst (λ (z : IndexRef). z.shards ≤ 1024) x apart.1)
some_shards (r ∷ rs) apart a (inr m) = some_shards rs apart.3 a m

apart_and : (all : List IndexRef) (name : Bytes) (names : List Bytes) → AreApart all → (Has names name → ⊥) → (o : Option IndexRef) → ref_by_name all name ≡ o → AreApart (named_refs all names)
    → AreApart (and_ref o (named_refs all names))
apart_and all name names apart once None e rest = rest
apart_and all name names apart once (Some r) e rest =
    let (there, name_is) = named_so all name r e in
    let (least, most) = some_shards all apart r there in (
      least,
      most,
      λ q m.
          let (hq, hn) = taken_of all names q m in
          let two : q.name ≢ r.name = (λ same. once (subst (Has names) (same ∙ name_is) hn)) in
          (two, λ same. two (ap (λ (x : IndexRef). x.name) (one_id all apart q r hq there same))),
      rest,
    )

pub named_apart : (all : List IndexRef) (names : List Bytes) → AreApart all → AreOnce names → AreApart (named_refs all names)
named_apart all [] apart once = tt
named_apart all (name ∷ names) apart once = apart_and all name names apart once.0 (ref_by_name all name) refl (named_apart all names apart once.1)
