-- Histories and tickets of restores that go on.
use Rattle.std.proofs.Common.{◌≡◌, inr, ⊎_elim, ℕ, List, Option, Some, None, refl, sym, ap, ◌∙◌, subst}
use Rattle.esr_model.specs.Names.{BlobName}
use Rattle.esr_model.specs.Values.{Bytes}
use Rattle.esr_core.specs.World.{Reader}
use Rattle.esr_core.specs.Entry.{Moment}
use Rattle.esr_desk.specs.declared.hand.Hand.TheVariants as hands
use Rattle.esr_desk.specs.Start.{Start, told_bytes}
use Rattle.esr_desk.specs.Grew.{GrewBy, grew_by_none, grew_by_on}
use Rattle.esr_desk.specs.Own.{Own, own_of, reader_of}
use Rattle.esr_desk.specs.Readers.{with_read, read_by}
use Rattle.esr_desk.specs.Hands.{own_fetched}
use Rattle.esr_desk.specs.Calls.{Call, HasTaken}
use Rattle.esr_unit.specs.Fetch.{IsFetched}
use Rattle.esr_restore.specs.Worked.{Worked}
use Rattle.esr_restore.specs.Went.{Went}
use Rattle.esr_restore.specs.Snapped.{IsAt}

-- ---- tickets

pub worked_none : (q : Reader) → Worked q q
worked_none q = record { same = refl; more = λ blob has. has }

pub worked_on : (a b c : Reader) → Worked a b → Worked b c → Worked a c
worked_on a b c one two = record {
  same = two.same ∙ ap (λ (q : Reader). record q { read = c.read }) one.same;
  more = λ blob has. two.more blob (one.more blob has);
}

pub with_read_worked : (q : Reader) (name : BlobName) (left : Option Bytes) → Worked q (with_read name left q)
with_read_worked q name None = worked_none q
with_read_worked q name (Some bytes) = record { same = refl; more = λ blob has. inr has }

-- it stays out, and for its shard of the snapshot
pub worked_at : (a b : Reader) (index number uuid : ℕ) → Worked a b → IsAt a index number uuid → IsAt b index number uuid
worked_at a b index number uuid worked at = record {
  out = ap (λ (q : Reader). q.out) worked.same ∙ at.out;
  index_is = ap (λ (q : Reader). q.index) worked.same ∙ at.index_is;
  number_is = ap (λ (q : Reader). q.number) worked.same ∙ at.number_is;
  uuid_is = ap (λ (q : Reader). q.uuid) worked.same ∙ at.uuid_is;
}

pub worked_same : (a b : Reader) → b ≡ a → Worked a b
worked_same a b is = subst (λ (q : Reader). Worked a q) (sym is) (worked_none a)

-- ---- histories

pub went_none : (s : Start) (log : List Moment) (who : ℕ) → Went s log log who
went_none s log who = record { grew = grew_by_none s who log; worked = worked_none (reader_of s log who) }

pub went_on : (s : Start) (old mid new : List Moment) (who : ℕ) → Went s old mid who → Went s mid new who → Went s old new who
went_on s old mid new who first second = record {
  grew = grew_by_on s who old mid new first.grew second.grew;
  worked = worked_on (reader_of s old who) (reader_of s mid who) (reader_of s new who) first.worked second.worked;
}

pub went_at : (s : Start) (old new : List Moment) (who index number uuid : ℕ) → Went s old new who → IsAt (reader_of s old who) index number uuid → IsAt (reader_of s new who) index number uuid
went_at s old new who index number uuid went at = worked_at (reader_of s old who) (reader_of s new who) index number uuid went.worked at

-- by a step that leaves the ticket as it was
pub went_same : (s : Start) (old new : List Moment) (who : ℕ) → GrewBy s who old new → reader_of s new who ≡ reader_of s old who → Went s old new who
went_same s old new who grew same = record { grew = grew; worked = worked_same (reader_of s old who) (reader_of s new who) same }

-- ---- a fetch

read_worked : {F : Type 0} (left : F → Option Bytes) (name : BlobName) (o : Option F) (q : Reader) → Worked q (read_by left name o q)
read_worked left name None q = worked_none q
read_worked left name (Some f) q = with_read_worked q name (left f)

pub read_went : {F : Type 0} (left : F → Option Bytes) (name : BlobName) (o : Option F) (s : Start) (old new : List Moment) (who : ℕ) → GrewBy s who old new → own_of s new who ≡ own_fetched hands.Restore left name o (own_of s old who)
    → Went s old new who
read_went left name o s old new who grew own = record {
  grew = grew;
  worked = subst (λ (q : Reader). Worked (reader_of s old who) q) (sym (ap (λ (o : Own). o.reader) own)) (read_worked left name o (reader_of s old who));
}

-- also where it was refused, or failed
pub left_went : (s : Start) (old new : List Moment) (who : ℕ) (name : BlobName) → GrewBy s who old new → IsFetched hands.Restore s name (own_of s old who) (own_of s new who) → Went s old new who
left_went s old new who name grew left = ⊎_elim
    (λ (same : own_of s new who ≡ own_of s old who). went_same s old new who grew (ap (λ (o : Own). o.reader) same))
    (λ (here : (bytes : Bytes) × (own_of s new who ≡ own_fetched hands.Restore (told_bytes s) name (Some bytes) (own_of s old who))). read_went (told_bytes s) name (Some here.0) s old new who grew here.1)
    left

-- ---- the desk that took the ticket

pub still_mine : (old new : List Call) (who : ℕ) → new ≡ old → HasTaken old who → HasTaken new who
still_mine old new who same mine = subst (λ (calls : List Call). HasTaken calls who) (sym same) mine
