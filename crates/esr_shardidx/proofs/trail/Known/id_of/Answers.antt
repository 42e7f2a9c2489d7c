use Rattle.std.proofs.Common.{ℕ, ◌<◌, ◌^◌, Some, sym, ap, ◌∙◌, subst, rules}
use Rattle.esr_names.specs.declared.ids.Id.{Id}
use Rattle.esr_shardidx.proofs.Trails.{name_read}
use Rattle.esr_shardidx.proofs.trail.Known.id_of.Goals as goal

pub returns-then-eq : goal.returns-then-eq
returns-then-eq c =
    let fits = subst (λ (n : ℕ). n < 2 ^ 128) c.number-number.ensures c.number-number.type_inv in
    let told = name_read c.args.self.now.id c.args.self.now.name c.args.name.now fits c.args.self.now.named (search rules) in
    let one : ℕ → Id = λ n. record { number = n } in
    told ∙ ap (λ (n : ℕ). Some (one n)) (sym c.number-number.ensures)
