use Rattle.std.proofs.Common.{◌∙◌, ap, sym, subst, Result, Ok}
use Rattle.serde_json.specs.Data.{Data}
use Rattle.serde_json.specs.Read.{max_depth}
use Rattle.esr_json.specs.declared.refusal.Reason.{Reason}
use Rattle.esr_json.specs.Steps.{◌>>=◌}
use Rattle.esr_json.specs.Shallow.{IsShallow}
use Rattle.esr_meta.specs.Index.{index_meta_of, index_meta_from}
use Rattle.esr_meta.specs.RoundTrip.{index_meta_plain, index_meta_of-index_meta_data}
use Rattle.esr_meta.proofs.index.index_meta_text.Goals as goal

pub write-requires : goal.write-requires
write-requires c = subst (IsShallow max_depth) (sym c.in_ok-value.ensures.value) (index_meta_plain c.args.meta.now)

pub returns-clause-reads : goal.returns-clause-reads
returns-clause-reads c =
    ap index_meta_from c.from_vec.ensures
    ∙ ap (λ (r : Result Data Reason). r >>= index_meta_of) (c.in_ok-write.ensures.reads ∙ ap Ok c.in_ok-value.ensures.value)
    ∙ index_meta_of-index_meta_data c.args.meta.now c.in_ok-value.ensures.valid
