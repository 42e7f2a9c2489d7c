-- The tickets that restored the shards of a history.
use Rattle.std.proofs.Common.{◌≡◌, ℕ, ◌<◌, ◌≤◌, List, [], ◌∷◌, ◌++◌, Some, append_assoc, sym, ap, ◌∙◌, subst, inl, inr, arith}
use Rattle.std.specs.FinMap as fin
use Rattle.std.proofs.lemmas.Option.{same_Some}
use Rattle.esr_model.specs.Values.{Formats}
use Rattle.esr_core.specs.World.{World, Reader}
use Rattle.esr_core.specs.Restores.{IsReading}
use Rattle.esr_core.specs.Entry.{GivenRestore, Moment}
use Rattle.esr_core.specs.After.{after}
use Rattle.esr_core.specs.Allowed.{Allowed}
use Rattle.esr_core.specs.History.{world_from, IsLegal}
use Rattle.esr_core.specs.Tracked.{Tracked}
use Rattle.esr_core.specs.ReadTracked.{ReadTracked}
use Rattle.esr_core.specs.Laws.Histories.{legal_parts, world_parts}
use Rattle.esr_readers.specs.Readers.{IsThereAs, IsGiven, IsReaderOf}
use Rattle.esr_desk.specs.Start.{Start, formats_of, world_of, Legal}
use Rattle.esr_report.specs.Replies.{ReadShard}
use Rattle.esr_targets.specs.Lines.{AcceptedLine}
use Rattle.esr_script.specs.declared.item.ScriptLine.{ScriptLine}
use Rattle.esr_targets.proofs.Splits.{IsBefore, compared}
use Rattle.esr_targets.proofs.Ended.{EndedAt}
use Rattle.esr_targets.proofs.Laws.{ReaderLaws}

one_there : (k : ℕ) (v w : World) (x y : Reader) → v ≡ w → fin.get w.readers k ≡ Some x → fin.get v.readers k ≡ Some y → x ≡ y
one_there k v w x y same a b = same_Some x y (sym a ∙ ap (λ (z : World). fin.get z.readers k) (sym same) ∙ b)

-- the ticket is of this shard
pub record IsReaderFor (q : Reader) (shard : ReadShard) : Type 0 where
  pub op_is : q.op ≡ shard.op
  pub index_is : q.index ≡ shard.index
  pub number_is : q.number ≡ shard.number
  pub uuid_is : q.uuid ≡ shard.uuid

-- a ticket that was given for the shard stays for it
for_shard : (k : ℕ) (shard : ReadShard) (w v last : World) (given : IsGiven w k shard.op shard.index shard.number shard.uuid) (x : IsThereAs v k given.q) (q : Reader) → last ≡ v → fin.get last.readers k ≡ Some q → IsReaderFor q shard
for_shard k shard w v last given x q is there =
    let one : x.q ≡ q = one_there k last v x.q q is x.there there in
    record {
      op_is = ap (λ (z : Reader). z.op) (sym one) ∙ x.same.op_is ∙ given.op_is;
      index_is = ap (λ (z : Reader). z.index) (sym one) ∙ x.same.index_is ∙ given.index_is;
      number_is = ap (λ (z : Reader). z.number) (sym one) ∙ x.same.number_is ∙ given.number_is;
      uuid_is = ap (λ (z : Reader). z.uuid) (sym one) ∙ x.same.uuid_is ∙ given.uuid_is;
    }

module _ (laws : ReaderLaws) (s : Start) (t : Tracked s.world) (l : ReadTracked s.world) (log : List Moment) (legal : Legal s log) where
  parts : (front back : List Moment) → log ≡ front ++ back → Legal s front × IsLegal (formats_of s) s.part_size (world_of s front) back
  parts front back is = legal_parts (formats_of s) s.part_size front back s.world (subst (Legal s) is legal)

  pub legal_front : (front back : List Moment) → log ≡ front ++ back → Legal s front
  legal_front front back is = (parts front back is).0

  pub allowed_at : (front back : List Moment) (m : Moment) → log ≡ front ++ m ∷ back → Allowed (formats_of s) s.part_size (world_of s front) m
  allowed_at front back m is = (parts front (m ∷ back) is).1.0

  pub tracked_at : (front back : List Moment) → log ≡ front ++ back → Tracked (world_of s front)
  tracked_at front back is = laws.tracked (formats_of s) s.part_size s.world front t (legal_front front back is)

  pub reads_at : (front back : List Moment) → log ≡ front ++ back → ReadTracked (world_of s front)
  reads_at front back is = laws.read_tracked (formats_of s) s.part_size s.world front t l (legal_front front back is)

  -- ---- the numbers of ops

  pub rises_to : (front more back : List Moment) → log ≡ (front ++ more) ++ back → (world_of s front).next_op ≤ (world_of s (front ++ more)).next_op
  rises_to front more back is =
      let split : log ≡ front ++ (more ++ back) = is ∙ append_assoc front more back in
      let both = legal_parts (formats_of s) s.part_size front more s.world (legal_front (front ++ more) back is) in
      subst (λ (w : World). (world_of s front).next_op ≤ w.next_op) (sym (world_parts (formats_of s) front more s.world)) (laws.rises (formats_of s) s.part_size (world_of s front) more (tracked_at front (more ++ back) split) both.1)

  pub rises_after : (front more back : List Moment) (m : Moment) → log ≡ (front ++ m ∷ more) ++ back → (after (formats_of s) (world_of s front) m).next_op ≤ (world_of s (front ++ m ∷ more)).next_op
  rises_after front more back m is =
      let split : log ≡ front ++ (m ∷ (more ++ back)) = is ∙ append_assoc front (m ∷ more) back in
      let both = legal_parts (formats_of s) s.part_size front (m ∷ more) s.world (legal_front (front ++ m ∷ more) back is) in
      let now : Tracked (after (formats_of s) (world_of s front) m) = laws.tracked (formats_of s) s.part_size (world_of s front) (m ∷ []) (tracked_at front (m ∷ (more ++ back)) split) (both.1.0, tt) in
      subst (λ (w : World). (after (formats_of s) (world_of s front) m).next_op ≤ w.next_op) (sym (world_parts (formats_of s) front (m ∷ more) s.world))
      (laws.rises (formats_of s) s.part_size (after (formats_of s) (world_of s front) m) more now both.1.1)

  op_below : (front back : List Moment) → log ≡ front ++ back → (k : ℕ) (q : Reader) → IsReading (world_of s front) k q → q.op < (world_of s front).next_op
  op_below front back is k q reading =
      let r = reads_at front back is in
      let x = r.tracked.readers k q reading.there reading.out in
      r.tracked.numbers q.op x.r x.there

  -- ---- a ticket of a line's restore

  module _ (moment : ℕ) (lines : List ScriptLine) (a : AcceptedLine moment lines log) where
    pub allowed_ask : Allowed (formats_of s) s.part_size (world_of s a.at.before) a.at.answer
    allowed_ask = allowed_at a.at.before a.at.after a.at.answer a.at.log_is

    pub ask_number : (a.op ≡ (world_of s a.at.before).next_op) × (a.op < (after (formats_of s) (world_of s a.at.before) a.at.answer).next_op)
    ask_number = laws.numbered (formats_of s) s.part_size (world_of s a.at.before) a.at.answer a.op a.uuid a.indices allowed_ask a.accepted

    module _ (front back : List Moment) (m : Moment) (is : log ≡ front ++ m ∷ back) (k : ℕ) (q : Reader) (reading : IsReading (world_of s front) k q) (op : q.op ≡ a.op) where
      too_early : (world_of s front).next_op ≤ (world_of s a.at.before).next_op → ⊥
      too_early le =
          let below : q.op < (world_of s front).next_op = op_below front (m ∷ back) is k q reading in
          let number : a.op ≡ (world_of s a.at.before).next_op = ask_number.0 in
          omega (arith, below, number, le, op)

      -- it was asked before
      pub asked_before : IsBefore a.at.before a.at.answer front
      asked_before = elim (compared a.at.before front a.at.answer m a.at.after back (sym a.at.log_is ∙ is)) [
        | inl first ↦ first
        | inr (inl same) ↦
            let one : (world_of s a.at.before).next_op ≡ (world_of s front).next_op = ap (λ (x : List Moment). (world_of s x).next_op) same in
            absurd (too_early (omega (arith, one)))
        | inr (inr later) ↦
            let up : (world_of s front).next_op ≤ (world_of s (front ++ m ∷ later.between)).next_op =
            rises_to front (m ∷ later.between) (a.at.answer ∷ a.at.after) (a.at.log_is ∙ ap (λ (x : List Moment). x ++ a.at.answer ∷ a.at.after) later.is) in
            absurd (too_early (subst (λ (x : List Moment). (world_of s front).next_op ≤ (world_of s x).next_op) (sym later.is) up))
      ]

      pub reader_is : IsReaderOf q a.uuid a.place a.indices
      reader_is =
          let b = asked_before in
          laws.of (formats_of s) s.part_size s.world a.at.before b.between a.at.answer a.name a.place a.op a.uuid a.indices k q t l
          (subst (Legal s) b.is (legal_front front (m ∷ back) is)) a.step_is a.accepted (subst (λ (x : List Moment). IsReading (world_of s x) k q) b.is reading) op

  -- ---- a ticket that was given for a shard and restored it

  module _ (shard : ReadShard) (files bytes : ℕ) (e : EndedAt log shard files bytes) (q : Reader) (reading : IsReading (world_of s e.front) e.k q) where
    -- a ticket of this number isn't there before it is given
    unknown : (z : Reader) → fin.get (world_of s e.before).readers e.k ≡ Some z → ⊥
    unknown z there =
        let below : e.k < (world_of s e.before).next_ticket = ((reads_at e.before (e.gave ∷ e.after) e.gave_at).tracked.tickets e.k z there).1 in
        let next : e.k ≡ (world_of s e.before).next_ticket =
        (laws.takes (formats_of s) s.part_size (world_of s e.before) e.gave e.k shard.op (GivenRestore shard.index shard.number shard.uuid) (allowed_at e.before e.after e.gave e.gave_at) e.gives).number in
        omega (arith, below, next)

    given_first : IsBefore e.before e.gave e.front
    given_first = elim (compared e.before e.front e.gave e.m e.after e.back (sym e.gave_at ∙ e.at)) [
      | inl first ↦ first
      | inr (inl same) ↦ absurd (unknown q (subst (λ (x : List Moment). fin.get (world_of s x).readers e.k ≡ Some q) (sym same) reading.there))
      | inr (inr later) ↦
          let both = legal_parts (formats_of s) s.part_size e.front (e.m ∷ later.between) s.world (subst (Legal s) later.is (legal_front e.before (e.gave ∷ e.after) e.gave_at)) in
          let x = laws.stay (formats_of s) s.part_size (world_of s e.front) (e.m ∷ later.between) e.k q (tracked_at e.front (e.m ∷ e.back) e.at) (reads_at e.front (e.m ∷ e.back) e.at) both.1 reading.there in
          absurd (unknown x.q (ap (λ (w : World). fin.get w.readers e.k) (ap (world_of s) later.is ∙ world_parts (formats_of s) e.front (e.m ∷ later.between) s.world) ∙ x.there))
    ]

    pub reader_for : IsReaderFor q shard
    reader_for =
        let b = given_first in
        let f : Formats = formats_of s in
        let w : World = world_of s e.before in
        let both = legal_parts f s.part_size e.before (e.gave ∷ b.between) s.world (subst (Legal s) b.is (legal_front e.front (e.m ∷ e.back) e.at)) in
        let given : IsGiven (after f w e.gave) e.k shard.op shard.index shard.number shard.uuid = laws.given f s.part_size w e.gave e.k shard.op shard.index shard.number shard.uuid both.1.0 e.gives in
        let tw : Tracked w = tracked_at e.before (e.gave ∷ e.after) e.gave_at in
        let lw : ReadTracked w = reads_at e.before (e.gave ∷ e.after) e.gave_at in
        let x : IsThereAs (world_from f (after f w e.gave) b.between) e.k given.q =
        laws.stay f s.part_size (after f w e.gave) b.between e.k given.q (laws.tracked f s.part_size w (e.gave ∷ []) tw (both.1.0, tt)) (laws.read_tracked f s.part_size w (e.gave ∷ []) tw lw (both.1.0, tt)) both.1.1 given.there in
        for_shard e.k shard (after f w e.gave) (world_from f (after f w e.gave) b.between) (world_of s e.front) given x q (ap (world_of s) b.is ∙ world_parts f e.before (e.gave ∷ b.between) s.world) reading.there
