-- What is kept after a record swap, where its record has the ops of the new list.
use Rattle.std.proofs.Common.{◌≡◌, ℕ, List, map, Option, Some, Result, Ok, Err, IfOk, sym, subst, nat_cmp, ap, ◌∙◌}
use Rattle.std.specs.FinMap.{FinMap}
use Rattle.esr_core.specs.World.{record_ops, World, Op, ledger_of, record_of}
use Rattle.esr_core.specs.Entry.{Step, Reply, Moment}
use Rattle.esr_names.specs.declared.ids.Id.{Id}
use Rattle.esr_root.specs.Root.{Root}
use Rattle.esr_record.specs.Record.{Record}
use Rattle.esr_meta.specs.Info.{Info}
use Rattle.esr_formats.specs.Clusters.{cluster_of, op_of}
use Rattle.esr_ops.specs.Plan.{Plan, IsPlanOf}
use Rattle.esr_desk.specs.Start.{Start}
use Rattle.esr_repo.specs.May.{MaySwap}
use Rattle.esr_repo.specs.declared.swap.Renewed.{Renewed}

-- a record with the generations and the term of the world, and the ops of its plan
pub cluster_from : (w : World) (c : Record) (p : Plan) → IsPlanOf w p → (cluster_of c).ledger ≡ ledger_of w → map op_of c.ops ≡ record_ops p.ops p.deletes → cluster_of c ≡ record_of w
cluster_from w c p plan ledger ops =
    let all : map op_of c.ops ≡ record_ops w.ops w.deletes = ops ∙ ap (λ (m : FinMap nat_cmp Op). record_ops m p.deletes) plan.ops ∙ ap (record_ops w.ops) plan.deletes in
    λ i. record { ledger = ledger i; ops = all i }

pub swap_is : (s : Start) (log : List Moment) (k : ℕ) (step : Step) (reply : Reply) (root : Option Root) (left : Option (List Info)) (info : Option Info) (p : Plan) (next : Id) (r : Renewed)
    → r ≡ record { cluster = r.cluster; root = root; left = left; info = info; progress = Some p; next = next } → MaySwap s log k step reply r.cluster root left info (Some p) next.number
    → MaySwap s log k step reply r.cluster r.root r.left r.info r.progress r.next.number
swap_is s log k step reply root left info p next r is may = subst (λ (x : Renewed). MaySwap s log k step reply x.cluster x.root x.left x.info x.progress x.next.number) (sym is) may

pub swap_with : {E : Type 0} (s : Start) (log : List Moment) (k : ℕ) (step : Step) (reply : Reply) (old : Record) (root : Option Root) (left : Option (List Info)) (info : Option Info) (p : Plan) (next : Id) (result : Result Renewed E)
    → IfOk result (λ r. r ≡ record { cluster = r.cluster; root = root; left = left; info = info; progress = Some p; next = next })
    → IfOk result (λ r. (cluster_of r.cluster).ledger ≡ (cluster_of old).ledger) → IfOk result (λ r. map op_of r.cluster.ops ≡ record_ops p.ops p.deletes)
    → ((cluster : Record) → (cluster_of cluster).ledger ≡ (cluster_of old).ledger → map op_of cluster.ops ≡ record_ops p.ops p.deletes → MaySwap s log k step reply cluster root left info (Some p) next.number)
    → IfOk result (λ r. MaySwap s log k step reply r.cluster r.root r.left r.info r.progress r.next.number)
swap_with s log k step reply old root left info p next (Ok r) is ledger ops may = swap_is s log k step reply root left info p next r is (may r.cluster ledger ops)
swap_with s log k step reply old root left info p next (Err e) is ledger ops may = tt
