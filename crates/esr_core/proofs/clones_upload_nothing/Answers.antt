use Rattle.esr_core.proofs.Cloning.{in_base, wrote_two}
use Rattle.esr_core.proofs.clones_upload_nothing.Goals as goal

pub returns : goal.returns
returns c = record { based = λ f w shelf k t r source l out is copies b e m. in_base f w shelf l k t out r is source copies b e m; wrote = λ f t r source b name bytes m. wrote_two f t source r b name bytes m }
