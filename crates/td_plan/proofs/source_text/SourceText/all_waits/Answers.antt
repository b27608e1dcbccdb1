-- `SourceText::all_waits`: its loop, and what it answers.
use Rattle.std.proofs.Common.{◌≡◌, ◌+◌, List, ap, arith, inl, inr, length, slice_get, subst, sym, ℕ}
use Rattle.std.proofs.Common.{◌∙◌}
use Rattle.std.proofs.lemmas.List.{length_push}
use Rattle.td_indices.specs.Archive.{Contents}
use Rattle.td_plan.specs.declared.waits.Waits.{Waits}
use Rattle.td_plan.specs.inner.Sources.{AreRowWaits}
use Rattle.td_plan.proofs.Owners.{last-or}
use Rattle.td_plan.proofs.source_text.SourceText.all_waits.Goals as goal

pub loop-place-preserved : goal.loop-place-preserved
loop-place-preserved c =
    let new = c.in_ok-waits_at.field-0 in
    let old = c.loop-place.all.items in
    let pushed = c.in_ok-push.ensures.items in
    record {
      len = ap length pushed ∙ length_push old new
          ∙ ap (λ (k : ℕ). k + 1) c.loop-place.invariant.len;
      at = λ p x s is at place w there.
          elim (last-or old new w place
          (ap (λ (l : List Waits). slice_get l place) (sym pushed) ∙ there)) [
            | inl mine ↦ c.loop-place.invariant.at p x s is at place w mine
            | inr last ↦
                let here : place ≡ c.loop-place.place =
                omega (arith, last.0, c.loop-place.invariant.len) in
                subst (λ (v : Waits). AreRowWaits p x s place v) last.1
                (subst (λ (n : ℕ). AreRowWaits p x s n new) (sym here)
                (c.in_ok-waits_at.ensures p x s is at))
          ];
    }

pub returns : goal.returns
returns c =
    let all : c.loop-place.place ≡ length c.args.self.now.archive.now.table = omega arith in
    let len = c.loop-place.invariant.len ∙ all in
    record {
      len = len;
      waits = λ p x s is at. record {
        len = len ∙ ap (λ (a : Contents). length a.table) is.archive;
        at = c.loop-place.invariant.at p x s is at;
      };
    }
