-- The codes of a plan and its parts, by which a model can have them as its value.
use Rattle.std.specs.Prelude.{◌≡◌, ◌⊎◌, ℕ, Bool, true, false, List, Option, refl}
use Rattle.std.proofs.Common.{inl, inr}
use Rattle.std.specs.Coded.{Coded, code_by, coded_ℕ, coded_bool, coded_list, coded_option, coded×, coded⊎}
use Rattle.std.specs.Ordering.{nat_cmp}
use Rattle.std.specs.FinMap.{FinMap}
use Rattle.std.specs.FinMap as fin
use Rattle.esr_model.specs.Values.{IndexRef, ShardResult}
use Rattle.esr_core.specs.World.{ShardState, Pending, Out, Done, GivenUp, ShardWork, Op, Deletion}
use Rattle.esr_ops.specs.Plan.{UnitKind, OfShard, OfFinalize, OfDelete, OfDrop, Seat, ReaderSeat, RestorePlan, TicketMaps, Plan}

abbrev pub coded_text : Coded (List ℕ)
coded_text = coded_list coded_ℕ

abbrev pub ref_code : Coded IndexRef
ref_code = code_by (ℕ × (List ℕ × ℕ)) (coded× coded_ℕ (coded× coded_text coded_ℕ)) (λ r. (r.id, (r.name, r.shards))) (λ p. record { id = p.0; name = p.1.0; shards = p.1.1 }) (λ _. refl)

abbrev pub result_code : Coded ShardResult
result_code =
    code_by (ℕ × (ℕ × (ℕ × (ℕ × ℕ)))) (coded× coded_ℕ (coded× coded_ℕ (coded× coded_ℕ (coded× coded_ℕ coded_ℕ)))) (λ r. (r.index, (r.shard, (r.generation, (r.files, r.bytes)))))
    (λ p. record { index = p.0; shard = p.1.0; generation = p.1.1.0; files = p.1.1.1.0; bytes = p.1.1.1.1 }) (λ _. refl)

abbrev pub state_parts : ShardState → Bool ⊎ (ℕ ⊎ ShardResult)
state_parts Pending = inl false
state_parts GivenUp = inl true
state_parts (Out k) = inr (inl k)
state_parts (Done r) = inr (inr r)

abbrev pub state_from : Bool ⊎ (ℕ ⊎ ShardResult) → ShardState
state_from (inl false) = Pending
state_from (inl true) = GivenUp
state_from (inr (inl k)) = Out k
state_from (inr (inr r)) = Done r

pub state_back : (s : ShardState) → state_from (state_parts s) ≡ s
state_back Pending = refl
state_back s = refl

abbrev pub state_code : Coded ShardState
state_code = code_by (Bool ⊎ (ℕ ⊎ ShardResult)) (coded⊎ coded_bool (coded⊎ coded_ℕ result_code)) state_parts state_from state_back

abbrev pub work_code : Coded ShardWork
work_code =
    code_by (IndexRef × (ℕ × (List ℕ × ShardState))) (coded× ref_code (coded× coded_ℕ (coded× coded_text state_code))) (λ s. (s.ref, (s.number, (s.place, s.state))))
    (λ p. record { ref = p.0; number = p.1.0; place = p.1.1.0; state = p.1.1.1 }) (λ _. refl)

abbrev pub op_code : Coded Op
op_code =
    code_by (List ℕ × (ℕ × (ℕ × (List IndexRef × (List ShardWork × (Bool × (Option ℕ × Option ℕ)))))))
    (coded× coded_text (coded× coded_ℕ (coded× coded_ℕ (coded× (coded_list ref_code) (coded× (coded_list work_code) (coded× coded_bool (coded× (coded_option coded_ℕ) (coded_option coded_ℕ))))))))
    (λ o. (o.name, (o.uuid, (o.moment, (o.indices, (o.shards, (o.failed, (o.source, o.aborted))))))))
    (λ p. record { name = p.0; uuid = p.1.0; moment = p.1.1.0; indices = p.1.1.1.0; shards = p.1.1.1.1.0; failed = p.1.1.1.1.1.0; source = p.1.1.1.1.1.1.0; aborted = p.1.1.1.1.1.1.1 }) (λ _. refl)

abbrev pub deletion_code : Coded Deletion
deletion_code = code_by (List ℕ × (Bool × Bool)) (coded× coded_text (coded× coded_bool coded_bool)) (λ x. (x.uuids, (x.clean, x.failed))) (λ p. record { uuids = p.0; clean = p.1.0; failed = p.1.1 }) (λ _. refl)

abbrev pub kind_parts : UnitKind → (ℕ × ℕ) ⊎ (Bool ⊎ Bool)
kind_parts (OfShard index number) = inl (index, number)
kind_parts OfFinalize = inr (inl false)
kind_parts OfDelete = inr (inl true)
kind_parts OfDrop = inr (inr false)

abbrev pub kind_from : (ℕ × ℕ) ⊎ (Bool ⊎ Bool) → UnitKind
kind_from (inl p) = OfShard p.0 p.1
kind_from (inr (inl false)) = OfFinalize
kind_from (inr (inl true)) = OfDelete
kind_from (inr (inr b)) = OfDrop

pub kind_back : (k : UnitKind) → kind_from (kind_parts k) ≡ k
kind_back (OfShard index number) = refl
kind_back k = refl

abbrev pub kind_code : Coded UnitKind
kind_code = code_by ((ℕ × ℕ) ⊎ (Bool ⊎ Bool)) (coded⊎ (coded× coded_ℕ coded_ℕ) (coded⊎ coded_bool coded_bool)) kind_parts kind_from kind_back

abbrev pub seat_code : Coded Seat
seat_code =
    code_by (UnitKind × (ℕ × (ℕ × (Option ℕ × (Bool × Bool))))) (coded× kind_code (coded× coded_ℕ (coded× coded_ℕ (coded× (coded_option coded_ℕ) (coded× coded_bool coded_bool)))))
    (λ s. (s.kind, (s.op, (s.term, (s.raised, (s.settled, s.clean))))))
    (λ p. record { kind = p.0; op = p.1.0; term = p.1.1.0; raised = p.1.1.1.0; settled = p.1.1.1.1.0; clean = p.1.1.1.1.1 }) (λ _. refl)

abbrev pub reader_code : Coded ReaderSeat
reader_code =
    code_by (ℕ × (ℕ × ℕ)) (coded× coded_ℕ (coded× coded_ℕ coded_ℕ)) (λ q. (q.op, (q.index, q.number))) (λ p. record { op = p.0; index = p.1.0; number = p.1.1 }) (λ _. refl)

abbrev pub tickets_code : Coded TicketMaps
tickets_code =
    code_by (FinMap nat_cmp Seat × (FinMap nat_cmp ReaderSeat × ℕ)) (coded× (fin.code coded_ℕ seat_code) (coded× (fin.code coded_ℕ reader_code) coded_ℕ))
    (λ t. (t.seats, (t.readers, t.next))) (λ p. record { seats = p.0; readers = p.1.0; next = p.1.1 }) (λ _. refl)

abbrev pub restore_code : Coded RestorePlan
restore_code = code_by (ℕ × List ShardWork) (coded× coded_ℕ (coded_list work_code)) (λ r. (r.uuid, r.shards)) (λ p. record { uuid = p.0; shards = p.1 }) (λ _. refl)

abbrev pub plan_code : Coded Plan
plan_code =
    code_by (FinMap nat_cmp Op × (FinMap nat_cmp Deletion × (List ℕ × (FinMap nat_cmp Seat × (FinMap nat_cmp RestorePlan × (FinMap nat_cmp ReaderSeat × (ℕ × ℕ)))))))
    (coded× (fin.code coded_ℕ op_code) (coded× (fin.code coded_ℕ deletion_code) (coded× coded_text (coded× (fin.code coded_ℕ seat_code)
    (coded× (fin.code coded_ℕ restore_code) (coded× (fin.code coded_ℕ reader_code) (coded× coded_ℕ coded_ℕ)))))))
    (λ p. (p.ops, (p.deletes, (p.completed, (p.seats, (p.restores, (p.readers, (p.next_op, p.next_ticket))))))))
    (λ p. record { ops = p.0; deletes = p.1.0; completed = p.1.1.0; seats = p.1.1.1.0; restores = p.1.1.1.1.0; readers = p.1.1.1.1.1.0; next_op = p.1.1.1.1.1.1.0; next_ticket = p.1.1.1.1.1.1.1 }) (λ _. refl)
