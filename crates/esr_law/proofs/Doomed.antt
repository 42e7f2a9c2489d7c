-- What a cleanup dooms was listed, and isn't `index.latest`.
use Rattle.std.proofs.Common.{◌≡◌, ℕ, true, false, true≢false, List, ◌++◌, Some, sym, ap, ◌∙◌, subst}
use Rattle.std.proofs.lemmas.Option.{same_Some}
use Rattle.esr_model.specs.Names.{BlobName, Latest}
use Rattle.esr_model.specs.Values.{Has, ReadsBack, Formats}
use Rattle.esr_model.specs.Cleanup.{BlobSize, reaches, cleaned_names}
use Rattle.esr_core.specs.World.{Deleting, Ticket, Swap}
use Rattle.esr_core.specs.Pruning.{doomed_as, doomed_by, dooms}
use Rattle.esr_core.specs.Laws.BlobFrames.{text_one}
use Rattle.esr_core.specs.Laws.CleanupReach.{cleaned_was, listed_was}
use Rattle.esr_law.proofs.OwnSteps.{IsCleaning}

-- what a cleanup with a plan dooms
cleans : (f : Formats) (t : Ticket) (uuids : List ℕ) (s : Swap) → t.work ≡ Deleting uuids (Some s) → t.clean ≡ true → dooms f t ≡ cleaned_names f t.raised s.root (s.own ++ t.read) t.listed
cleans f t uuids s work clean = ap (doomed_by f t) work ∙ ap (doomed_as f t uuids s) clean

-- each text that it listed is that of a name of the layout
abbrev pub ListedBack : Formats → Ticket → Type 0
ListedBack f t = (b : BlobSize) → Has t.listed b → (name : BlobName) × (f.names.text name ≡ b.text) × ReadsBack f.names name

pub doomed_apart : (f : Formats) (t : Ticket) → IsCleaning t → (uuids : List ℕ) (s : Swap) → t.work ≡ Deleting uuids (Some s) → ListedBack f t → ReadsBack f.names Latest → (name : BlobName) → Has (dooms f t) name
    → f.names.text name ≡ f.names.text Latest → ⊥
doomed_apart f t c uuids s work backs latest_back name h same =
    let (listed, left) = cleaned_was f t.raised s.root (s.own ++ t.read) t.listed name (subst (λ (names : List BlobName). Has names name) (cleans f t uuids s work c.clean) h) in
    let (b, among, reads) = listed_was f t.listed name listed in
    let (n, text, back) = backs b among in
    let one : name ≡ n = same_Some name n (sym reads ∙ ap f.names.read (sym text) ∙ back) in
    let is : name ≡ Latest = text_one f name Latest (subst (λ (x : BlobName). ReadsBack f.names x) (sym one) back) latest_back same in
    true≢false (subst (λ (x : BlobName). reaches f t.raised s.root (s.own ++ t.read) x ≡ false) is left)
