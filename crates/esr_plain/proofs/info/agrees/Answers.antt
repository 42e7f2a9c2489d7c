use Rattle.std.proofs.Common.{◌≡◌, true, List, map, sym, ap, ◌∙◌, subst}
use Rattle.std.proofs.lemmas.Result.{IfOk-weaker}
use Rattle.esr_names.specs.declared.index_ref.IndexRef.{IndexRef as CodeRef}
use Rattle.esr_meta.specs.Info.{Info}
use Rattle.esr_formats.specs.Roots.{root_of, root_snap_of}
use Rattle.esr_formats.specs.Infos.{info_of_code}
use Rattle.esr_formats.specs.Refs.{ref_of_code}
use Rattle.esr_formats.specs.Formats.{formats}
use Rattle.esr_model.specs.Image.{At}
use Rattle.esr_plain.specs.Exactly.{Always}
use Rattle.esr_plain.specs.Infos.{AreListed, AreExact, HaveMetas, Agrees}
use Rattle.esr_plain.proofs.Loops.{exact_as, so}
use Rattle.esr_plain.proofs.info.agrees.Goals as goal

pub returns : goal.returns
returns c =
    let indices = c.as_slice-indices.ensures ∙ ap (λ (i : Info). i.indices) c.info.view_is in
    let root = root_of c.args.root.now in
    let snap = root_snap_of c.args.snap.now in
    let info = info_of_code c.args.info.now in
    let listed = subst (λ (rs : List CodeRef). AreListed root snap.uuid (map ref_of_code rs)) indices (so c.are_listed.result c.are_listed.ensures c.if-not-are_listed.false) in
    let exact = subst (λ (rs : List CodeRef). AreExact root snap.uuid (map ref_of_code rs)) indices (so c.are_exact.result c.are_exact.ensures c.if-not-are_exact.false) in
    IfOk-weaker c.have_metas.result
    (λ b.
    Always (λ f. (b ≡ true → HaveMetas f (At f c.args.image.now) snap.uuid (map ref_of_code c.as_slice-indices.result.now)) × (HaveMetas f (At f c.args.image.now) snap.uuid (map ref_of_code c.as_slice-indices.result.now) → b ≡ true)))
    (λ b. Always (λ f. (b ≡ true → Agrees f (At f c.args.image.now) root snap info) × (Agrees f (At f c.args.image.now) root snap info → b ≡ true)))
    (λ b test known told.
    let f = formats known told in
    let has = At f c.args.image.now in
    exact_as b (test known told)
    (λ metas. record {
      of = so c.is_of.result c.is_of.ensures c.if-not-is_of.false;
      global = so c.in_ok-has_global.field-0 (c.in_ok-has_global.ensures known told) c.if-not-branch.false;
      metas = subst (λ (rs : List CodeRef). HaveMetas f has snap.uuid (map ref_of_code rs)) indices metas;
      listed = listed;
      exact = exact;
    })
    (λ all. subst (λ (rs : List CodeRef). HaveMetas f has snap.uuid (map ref_of_code rs)) (sym indices) all.metas))
    c.have_metas.ensures
