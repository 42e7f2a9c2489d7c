use Rattle.std.proofs.Common.{◌∙◌, ap, sym, subst, Result, Ok}
use Rattle.serde_json.specs.Data.{Data}
use Rattle.serde_json.specs.Read.{max_depth}
use Rattle.esr_json.specs.declared.refusal.Reason.{Reason}
use Rattle.esr_json.specs.Steps.{◌>>=◌}
use Rattle.esr_json.specs.Shallow.{IsShallow}
use Rattle.esr_meta.specs.Info.{info_of, info_from}
use Rattle.esr_meta.specs.RoundTrip.{info_plain, info_of-info_data}
use Rattle.esr_meta.proofs.info.info_text.Goals as goal

pub write-requires : goal.write-requires
write-requires c = subst (IsShallow max_depth) (sym c.in_ok-value.ensures.value) (info_plain c.args.info.now)

pub returns-clause-reads : goal.returns-clause-reads
returns-clause-reads c =
    ap info_from c.from_vec.ensures
    ∙ ap (λ (r : Result Data Reason). r >>= info_of) (c.in_ok-write.ensures.reads ∙ ap Ok c.in_ok-value.ensures.value)
    ∙ info_of-info_data c.args.info.now c.in_ok-value.ensures.valid
