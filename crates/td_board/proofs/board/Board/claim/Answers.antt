-- `Board::claim`: what it answers.
use Rattle.std.proofs.Common.{◌≡◌, ℕ, sym, ap, ◌∙◌, subst}
use Rattle.std.specs.Prelude.{MatchBool}
use Rattle.td_board.specs.declared.views.BuilderTry.TheVariants.{ReleaseEarly}
use Rattle.td_board.specs.Knowledge.{with_free_hand, builder_tried, row_of}
use Rattle.td_board.specs.Seats.{BuilderModel}
use Rattle.td_board.proofs.ClaimLaws.{AtOnce, claims_at_once, claims_behind}
use Rattle.td_board.proofs.board.Board.claim.Goals as goal
use Rattle.td_board.proofs.board.Board.claim.Goals.{in-Finished, in_default}

pub returns : goal.returns
returns c =
    let old : BuilderModel = c.args.seat.now in
    let rows : ℕ = c.args.self.now.rows in
    let hand = c.seat.invariant.1.hand_is
    ∙ ap (λ (m : BuilderModel). m.builder.hand) c.seat.view_is in
    elim c.match-seat.branch [
      | in-Finished w ↦
          claims_behind w.release.result c.claim_at_once.result rows c.args.row old
          c.match-seat.seat c.claim_at_once.new.seat w.in-Finished.field-0 w.in-Finished.field-1
          (sym hand ∙ w.in-Finished.is)
          (subst (λ (m : BuilderModel).
          MatchBool w.release.result (m ≡ record old { builder = with_free_hand old.builder })
          (m ≡ record old {
            builder = builder_tried (ReleaseEarly (row_of old.builder.hand)) old.builder;
          })) (sym w.seat-is) w.release.ensures) c.claim_at_once.ensures
      | in_default w ↦
          claims_at_once c.claim_at_once.result rows c.args.row old c.claim_at_once.new.seat
          (λ r o e. w.in_default.not-Finished r o (hand ∙ e))
          (subst (λ (m : BuilderModel).
          AtOnce c.claim_at_once.result rows c.args.row m c.claim_at_once.new.seat) w.seat-is
          c.claim_at_once.ensures)
    ]
