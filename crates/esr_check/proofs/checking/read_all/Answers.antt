use Rattle.std.proofs.Common.{◌≡◌, ◌∙◌, ◌<◌, ◌^◌, ℕ, sym, ap, to_z, of_z, w64, rules}
use Rattle.std.proofs.lemmas.Int.{to_z-of_z}
use Rattle.esr_formats.specs.Clusters.{count_of}
use Rattle.esr_check.specs.Checked.{last_root}
use Rattle.esr_check.specs.Names.{IsAny}
use Rattle.esr_check.proofs.Going.{went_none}
use Rattle.esr_check.proofs.Counting.{fetch_came}
use Rattle.esr_check.proofs.Ending.{nothing_read, no_count, no_root, some_count, any_if}
use Rattle.esr_check.proofs.checking.read_all.Goals as goal

pub read_root-requires-clause-number : goal.read_root-requires-clause-number
read_root-requires-clause-number g c κs within = fetch_came c.last_root.result c.in-Some.number (λ (n : ℕ). n < 2 ^ 63) c.in-Some.is c.last_root.ensures.few

pub read_root-requires-clause-safe : goal.read_root-requires-clause-safe
read_root-requires-clause-safe g c κs within =
    let passed : to_z w64 (of_z w64 c.args.safe) ≡ c.args.safe = to_z-of_z w64 c.args.safe (search rules) in
    sym c.requires.safe ∙ some_count c.args.safe c.in-Some.number (sym (ap last_root passed) ∙ sym c.last_root.ensures.place ∙ c.in-Some.is)

pub returns-in-Some-clause-rootless : goal.returns-in-Some-clause-rootless
returns-in-Some-clause-rootless g c =
    let passed : to_z w64 (of_z w64 c.args.safe) ≡ c.args.safe = to_z-of_z w64 c.args.safe (search rules) in
    any_if c.read_root.result (λ (n : ℕ). count_of c.args.safe ≡ 0 → n ≡ 0)
    (λ n none. absurd (no_root c.in-Some.number (count_of c.args.safe) none (some_count c.args.safe c.in-Some.number (sym (ap last_root passed) ∙ sym c.last_root.ensures.place ∙ c.in-Some.is))))

pub returns-in-None-clause-read : goal.returns-in-None-clause-read
returns-in-None-clause-read g c =
    let passed : to_z w64 (of_z w64 c.args.safe) ≡ c.args.safe = to_z-of_z w64 c.args.safe (search rules) in
    nothing_read g.Q.Desk.start (g.Q.Desk.seen c.args.desk.now) (sym c.requires.safe ∙ no_count c.args.safe (sym (ap last_root passed) ∙ sym c.last_root.ensures.place ∙ c.in-None.is)) c.requires.first

pub returns-in-None-clause-went : goal.returns-in-None-clause-went
returns-in-None-clause-went g c = went_none g.Q.Desk.start (g.Q.Desk.seen c.args.desk.now) IsAny
