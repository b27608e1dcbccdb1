-- What a claim answers; a finished hand is released first.
use Rattle.std.proofs.Common.{◌≡◌, ◌≢◌, ℕ, ◌<◌, Bool, true, false, [], ◌∷◌, ◌++◌, sym, refl, ap}
use Rattle.std.proofs.Common.{◌∙◌, subst, inl, inr, append-nil, append_assoc}
use Rattle.std.specs.Prelude.{MatchBool}
use Rattle.td_board.specs.declared.outcome.OutcomeCode.{OutcomeCode}
use Rattle.td_board.specs.declared.views.Hand.{Hand}
use Rattle.td_board.specs.declared.views.Hand.TheVariants.{Free, Holding, Finished}
use Rattle.td_board.specs.declared.views.BuilderTry.TheVariants.{ClaimWon, ClaimLost, ReleaseDone}
use Rattle.td_board.specs.declared.views.BuilderTry.TheVariants.{ReleaseEarly}
use Rattle.td_board.specs.Knowledge.{with_claim, with_free_hand, builder_tried, row_of}
use Rattle.td_board.specs.Answers.{IsWon, IsLost, LostWith, LostAtOnce, released}
use Rattle.td_board.specs.Seats.{BuilderModel}

-- what a claim at once answers
abbrev pub AtOnce : Bool → ℕ → ℕ → BuilderModel → BuilderModel → Type 0
AtOnce won rows row mid new = MatchBool won
    ((mid.builder.hand ≡ Free) × (row < rows)
    × (new ≡ record mid { builder = with_claim row mid.builder }))
    (LostAtOnce rows row mid new)

-- what a claim answers
abbrev pub Claims : Bool → ℕ → ℕ → BuilderModel → BuilderModel → Type 0
Claims won rows row old new = MatchBool won (IsWon rows row old new) (IsLost rows row old new)

-- nothing was tried
untried : (rows row : ℕ) (old new : BuilderModel) (h : Hand) → old.builder.hand ≡ h
    → LostWith rows row h h [] → new ≡ old → IsLost rows row old new
untried rows row old new h e how is = (
  h,
  [],
  subst (λ x. LostWith rows row x h []) (sym e) how,
  is
      ∙ (λ i. record old {
        builder = record old.builder {
          hand = e i;
          tried = sym (append-nil old.builder.tried) i;
        };
      }),
)

-- no hand to release, and the claim is lost
lost_at_once : (rows row : ℕ) (old new : BuilderModel) (h : Hand) → old.builder.hand ≡ h
    → ((r : ℕ) (c : OutcomeCode) → h ≢ Finished r c) → LostAtOnce rows row old new
    → IsLost rows row old new
lost_at_once rows row old new Free e none (inl (beyond, is)) =
    untried rows row old new Free e (refl, inl (beyond, refl)) is
lost_at_once rows row old new Free e none (inr (inl (full, is))) = absurd (full e)
lost_at_once rows row old new Free e none (inr (inr (free, inside, is))) = (
  Free,
  ClaimLost row ∷ [],
  subst (λ x. LostWith rows row x Free (ClaimLost row ∷ [])) (sym e) (refl, inr (inside, refl)),
  is
      ∙ (λ i. record old {
        builder = record old.builder {
          hand = e i;
          tried = old.builder.tried ++ ClaimLost row ∷ [];
        };
      }),
)
lost_at_once rows row old new (Holding r) e none (inl (beyond, is)) =
    untried rows row old new (Holding r) e (refl, refl) is
lost_at_once rows row old new (Holding r) e none (inr (inl (full, is))) =
    untried rows row old new (Holding r) e (refl, refl) is
lost_at_once rows row old new (Holding r) e none (inr (inr (free, inside, is))) =
    absurd (let bad : Free ≡ Holding r = sym free ∙ e in cc)
lost_at_once rows row old new (Finished r c) e none lost = absurd (none r c refl)

-- no hand to release
pub claims_at_once : (won : Bool) (rows row : ℕ) (old new : BuilderModel)
    → ((r : ℕ) (c : OutcomeCode) → old.builder.hand ≢ Finished r c) → AtOnce won rows row old new
    → Claims won rows row old new
claims_at_once true rows row old new none (free, inside, is) = (
  inside,
  (λ r e. absurd (let bad : Free ≡ Holding r = sym free ∙ e in cc)),
  is
      ∙ (λ i. record old {
        builder = record (with_claim row old.builder) {
          tried = old.builder.tried ++ (released (sym free i) ++ ClaimWon row ∷ []);
        };
      }),
)
claims_at_once false rows row old new none lost =
    lost_at_once rows row old new old.builder.hand refl none lost

-- a finished hand was freed
pub claims_freed : (won : Bool) (rows row : ℕ) (old new : BuilderModel) (r : ℕ) (c : OutcomeCode)
    → old.builder.hand ≡ Finished r c
    → (let mid : BuilderModel = record old { builder = with_free_hand old.builder } in
    AtOnce won rows row mid new) → Claims won rows row old new
claims_freed true rows row old new r c e (free, inside, is) =
    let v = old.builder in (
      inside,
      (λ s h. absurd (let bad : Finished r c ≡ Holding s = sym e ∙ h in cc)),
      is
          ∙ (λ i. record old {
            builder = record (with_claim row v) {
              tried = (append_assoc v.tried (ReleaseDone (row_of v.hand) ∷ []) (ClaimWon row ∷ [])
                  ∙ ap (λ l. v.tried ++ l)
                  (ap (λ (h : Hand). ReleaseDone (row_of h) ∷ ClaimWon row ∷ []) e
                  ∙ sym (ap (λ (h : Hand). released h ++ ClaimWon row ∷ []) e))) i;
            };
          }),
    )
claims_freed false rows row old new r c e (inl (beyond, is)) =
    let v = old.builder in (
      Free,
      ReleaseDone r ∷ [],
      subst (λ x. LostWith rows row x Free (ReleaseDone r ∷ [])) (sym e)
          (inr (refl, ([], refl, inl (beyond, refl)))),
      is
          ∙ (λ i. record old {
            builder = record v {
              hand = Free;
              tried = v.tried ++ ReleaseDone (row_of (e i)) ∷ [];
            };
          }),
    )
claims_freed false rows row old new r c e (inr (inl (full, is))) = absurd (full refl)
claims_freed false rows row old new r c e (inr (inr (free, inside, is))) =
    let v = old.builder in (
      Free,
      ReleaseDone r ∷ ClaimLost row ∷ [],
      subst (λ x. LostWith rows row x Free (ReleaseDone r ∷ ClaimLost row ∷ [])) (sym e)
          (inr (refl, (ClaimLost row ∷ [], refl, inr (inside, refl)))),
      is
          ∙ (λ i. record old {
            builder = record v {
              hand = Free;
              tried = (append_assoc v.tried (ReleaseDone (row_of v.hand) ∷ []) (ClaimLost row ∷ [])
                  ∙ ap (λ (h : Hand). v.tried ++ (ReleaseDone (row_of h) ∷ ClaimLost row ∷ []))
                  e) i;
            };
          }),
    )

-- the release came too early
kept_hand : (rows row : ℕ) (old new : BuilderModel) (r : ℕ) (c : OutcomeCode)
    → old.builder.hand ≡ Finished r c
    → (let mid : BuilderModel =
    record old { builder = builder_tried (ReleaseEarly (row_of old.builder.hand)) old.builder } in
    new ≡ mid) → IsLost rows row old new
kept_hand rows row old new r c e is =
    let v = old.builder in (
      Finished r c,
      ReleaseEarly r ∷ [],
      subst (λ x. LostWith rows row x (Finished r c) (ReleaseEarly r ∷ [])) (sym e)
          (inl (refl, refl)),
      is
          ∙ (λ i. record old {
            builder = record v {
              hand = e i;
              tried = v.tried ++ ReleaseEarly (row_of (e i)) ∷ [];
            };
          }),
    )

pub claims_kept : (won : Bool) (rows row : ℕ) (old new : BuilderModel) (r : ℕ) (c : OutcomeCode)
    → old.builder.hand ≡ Finished r c
    → (let mid : BuilderModel =
    record old { builder = builder_tried (ReleaseEarly (row_of old.builder.hand)) old.builder } in
    AtOnce won rows row mid new) → Claims won rows row old new
claims_kept true rows row old new r c e (free, inside, is) =
    absurd (let bad : Free ≡ Finished r c = sym free ∙ e in cc)
claims_kept false rows row old new r c e (inl (beyond, is)) = kept_hand rows row old new r c e is
claims_kept false rows row old new r c e (inr (inl (full, is))) =
    kept_hand rows row old new r c e is
claims_kept false rows row old new r c e (inr (inr (free, inside, is))) =
    absurd (let bad : Free ≡ Finished r c = sym free ∙ e in cc)

-- by what the release answered
pub claims_behind : (done won : Bool) (rows row : ℕ) (old mid new : BuilderModel) (r : ℕ)
    (c : OutcomeCode) → old.builder.hand ≡ Finished r c
    → MatchBool done (mid ≡ record old { builder = with_free_hand old.builder })
    (mid ≡ record old {
      builder = builder_tried (ReleaseEarly (row_of old.builder.hand)) old.builder;
    })
    → AtOnce won rows row mid new → Claims won rows row old new
claims_behind true won rows row old mid new r c e is claims =
    claims_freed won rows row old new r c e
    (subst (λ (m : BuilderModel). AtOnce won rows row m new) is claims)
claims_behind false won rows row old mid new r c e is claims =
    claims_kept won rows row old new r c e
    (subst (λ (m : BuilderModel). AtOnce won rows row m new) is claims)
