use Rattle.std.proofs.Common.{◌≡◌, ◌∙◌, ap, sym, subst, Result, Ok}
use Rattle.serde_json.specs.Data.{Data}
use Rattle.serde_json.specs.Read.{max_depth}
use Rattle.esr_json.specs.declared.refusal.Reason.{Reason}
use Rattle.esr_json.specs.Steps.{◌>>=◌}
use Rattle.esr_json.specs.Shallow.{IsShallow}
use Rattle.esr_record.specs.Reading.{record_of, record_from}
use Rattle.esr_record.specs.RoundTrip.{record_plain, record_of-record_data}
use Rattle.esr_record.proofs.writing.record_text.Goals as goal

pub write-requires : goal.write-requires
write-requires c = subst (IsShallow max_depth) (sym c.in_ok-value.ensures.value) (record_plain c.args.cluster.now)

pub returns-clause-reads : goal.returns-clause-reads
returns-clause-reads c =
    ap record_from c.from_vec.ensures
    ∙ ap (λ (r : Result Data Reason). r >>= record_of) (c.in_ok-write.ensures.reads ∙ ap Ok c.in_ok-value.ensures.value)
    ∙ record_of-record_data c.args.cluster.now c.in_ok-value.ensures.valid
