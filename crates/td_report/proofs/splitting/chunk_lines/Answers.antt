-- `chunk_lines`: what it answers.
use Rattle.std.proofs.Common.{◌≡◌, ◌<◌, max, refl, ap, subst, sym, ◌∙◌, string_bytes, rules}
use Rattle.std.specs.List.{flat_map, AllZip}
use Rattle.std.proofs.lemmas.List.Folds.{flat_map-map}
use Rattle.rayon.specs.Lists.{chunks_of}
use Rattle.rayon.proofs.ToStd.{chunks_of-concat}
use Rattle.td_report.specs.inner.LinesText.{lines_text}
use Rattle.td_report.proofs.Splits.{flat_map-zipped, text-parts, IfOk-matched}
use Rattle.td_report.proofs.Texts.{lines-append}
use Rattle.td_report.proofs.splitting.chunk_lines.Goals as goal

pub returns : goal.returns
returns g c =
    let shown = c.args.shown in
    let made = c.in_ok-collect.ensures in
    let chain = made.1 in
    let same = ap (λ it. it.base) c.map.ensures.base ∙ c.with_min_len.ensures.base in
    let slice = ap (λ it. it.slice.now) same ∙ c.par_chunks.ensures.slice in
    let size = max c.map.result.base.base.size 1 in
    let pos : 0 < size = search rules in
    let whole = chunks_of-concat size c.map.result.base.base.slice.now pos ∙ slice in
    IfOk-matched c.in_ok-collect.field-0 _ _ _ made.2 (λ v h.
    ap (λ ts. flat_map (λ t. string_bytes t) ts) h.2
    ∙ flat_map-zipped _ (λ x. lines_text shown x.now) (λ t. string_bytes t)
    (λ x y says. subst (λ f. string_bytes y ≡ lines_text f.1.now x.now) c.map.ensures.f says)
    chain.0 h.0 (subst (AllZip _ chain.0) h.1 chain.2)
    ∙ sym (flat_map-map (lines_text shown) (λ x. x.now) chain.0)
    ∙ ap (flat_map (lines_text shown)) chain.1
    ∙ text-parts (lines_text shown) refl (lines-append shown)
    (chunks_of size c.map.result.base.base.slice.now)
    ∙ ap (lines_text shown) whole)
