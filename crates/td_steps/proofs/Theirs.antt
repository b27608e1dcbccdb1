-- The steps of builders in a run that grows, against what their seats at the board tell.
use Rattle.std.proofs.Common.{◌≡◌, ◌≢◌, ℕ, suc, ◌<◌, List, [], ◌∷◌, ◌++◌}
use Rattle.std.proofs.Common.{length, set, ap, refl, sym, subst}
use Rattle.std.proofs.Common.{◌∙◌, ⊎_elim, arith, length-set, append-nil}
use Rattle.std.proofs.lemmas.List.Elements.{filter-append}
use mathlib.Core.Option.{some}
use lib.ListN.{get_elem?}
use Rattle.atomic_table.proofs.Lists.{at_set, at_longer, set_here, set_else}
use Rattle.td_board.specs.declared.views.BuilderTry.{BuilderTry}
use Rattle.td_board.specs.declared.views.BuilderTry.TheVariants.{ClaimWon, ClaimLost, FinishDone}
use Rattle.td_board.specs.declared.views.BuilderTry.TheVariants.{FinishEarly, ReleaseDone}
use Rattle.td_board.specs.declared.views.BuilderTry.TheVariants.{ReleaseEarly}
use Rattle.td_board.specs.declared.views.BuilderView.{BuilderView}
use Rattle.td_board.specs.declared.views.DeskView.{DeskView}
use Rattle.td_board.specs.declared.views.View.{View}
use Rattle.td_board.specs.declared.views.View.TheVariants.{Desk as DeskSeat, Builder}
use Rattle.td_board.specs.Knowledge.{new_builder, with_builder}
use Rattle.td_board.specs.Steps.{Moment, DeskKnows, BuilderKnows, new_board, seated}
use Rattle.td_board.proofs.Lists.{at_less, one_at, there_is, at_snoc_or_end}
use Rattle.td_board.proofs.RowLaws.{not_both, same_builder}
use Rattle.td_rows.specs.declared.key.Key.{Key}
use Rattle.td_core.specs.declared.step.Step.{Step}
use Rattle.td_steps.specs.Theirs.{is_by, steps_by, steps_in, AreSteps, AreTaken}
use Rattle.td_steps.proofs.Showing.{desk-hands, nobody}

-- ---- 1. lists

pub steps_in-append : (a b : List BuilderTry) → steps_in (a ++ b) ≡ steps_in a ++ steps_in b
steps_in-append [] b = refl
steps_in-append (ClaimWon r ∷ a) b =
    ap (λ (l : List BuilderTry). ClaimWon r ∷ l) (steps_in-append a b)
steps_in-append (ClaimLost r ∷ a) b = steps_in-append a b
steps_in-append (FinishDone r c ∷ a) b =
    ap (λ (l : List BuilderTry). FinishDone r c ∷ l) (steps_in-append a b)
steps_in-append (FinishEarly r c ∷ a) b = steps_in-append a b
steps_in-append (ReleaseDone r ∷ a) b =
    ap (λ (l : List BuilderTry). ReleaseDone r ∷ l) (steps_in-append a b)
steps_in-append (ReleaseEarly r ∷ a) b = steps_in-append a b

are-then : (keys : List Key) (ts us : List BuilderTry) (ss rs : List Step)
    → AreSteps keys ts ss → AreSteps keys us rs → AreSteps keys (ts ++ us) (ss ++ rs)
are-then keys [] us [] rs first rest = rest
are-then keys [] us (s ∷ ss) rs first rest = absurd first
are-then keys (t ∷ ts) us [] rs first rest = absurd first
are-then keys (t ∷ ts) us (s ∷ ss) rs first rest =
    (first.0, are-then keys ts us ss rs first.1 rest)

-- ---- 2. what the seats tell

module _ (keys : List Key) (ss : List Step) where
  -- on a new board nobody has done anything
  pub taken-new : (rows : ℕ) → AreTaken keys (new_board rows) []
  taken-new rows =
      record { own = λ b v at. absurd (nobody rows b v at); others = λ b none. refl }

  -- each builder's view stays where the desk's changes
  stays : (views : List View) (d d1 : DeskView) → get_elem? views 0 ≡ some (DeskSeat d)
      → (b : ℕ) (v : BuilderView) → get_elem? views b ≡ some (Builder v)
      → get_elem? (set views 0 (DeskSeat d1)) b ≡ some (Builder v)
  stays views d d1 seat b v at =
      set_else views 0 b (DeskSeat d1) (λ e.
      not_both d v
      (one_at views 0 (DeskSeat d) (Builder v) seat
      (subst (λ i. get_elem? views i ≡ some (Builder v)) e at)))
      ∙ at

  pub taken-desk : (m m' : Moment) (d d1 : DeskView) → DeskKnows m d
      → m'.views ≡ set m.views 0 (DeskSeat d1) → AreTaken keys m ss → AreTaken keys m' ss
  taken-desk m m' d d1 seat is a = record {
    own = λ b v at.
        desk-hands (λ c u. AreSteps keys (steps_in u.tried) (steps_by c ss)) m.views d1 a.own b v
        (ap (λ (l : List View). get_elem? l b) (sym is) ∙ at);
    others = λ b none. a.others b (λ v at.
        none v (ap (λ (l : List View). get_elem? l b) is ∙ stays m.views d d1 seat b v at));
  }

  -- a builder more
  pub taken-seated : (m : Moment) (d : DeskView) → DeskKnows m d → AreTaken keys m ss
      → AreTaken keys (seated d m) ss
  taken-seated m d seat a =
      let d' : DeskView = with_builder d in
      let vs : List View = set m.views 0 (DeskSeat d') in
      let new : BuilderView = new_builder (suc (length d.noted)) in
      let same : length vs ≡ length m.views = length-set m.views 0 (DeskSeat d') in
      record {
        own = λ b v at.
            ⊎_elim
            (λ (h : b < length vs).
            let t = there_is vs b h in
            let is : Builder v ≡ t.0 = one_at (vs ++ Builder new ∷ []) b (Builder v) t.0 at
            (at_longer vs (Builder new ∷ []) b t.0 t.1) in
            desk-hands (λ c u. AreSteps keys (steps_in u.tried) (steps_by c ss)) m.views d' a.own b
            v
            (t.1 ∙ ap some (sym is)))
            (λ (t : (b ≡ length vs) × (Builder new ≡ Builder v)).
            let none : steps_by b ss ≡ [] = a.others b (λ u there.
            let within = at_less m.views b (Builder u) there in
            let end = t.0 ∙ same in omega (arith, within, end)) in
            subst (λ (z : BuilderView). AreSteps keys (steps_in z.tried) (steps_by b ss))
            (same_builder new v t.1)
            (subst (λ (l : List Step). AreSteps keys [] l) (sym none) tt))
            (at_snoc_or_end vs (Builder new) (Builder v) b at);
        others = λ b none. a.others b (λ v at.
            none v
            (at_longer vs (Builder new ∷ []) b (Builder v) (stays m.views d d' seat b v at)));
      }

  -- a builder's view changes, for these steps of its own
  module _ (m m' : Moment) (b : ℕ) (y y' : BuilderView) (seat : BuilderKnows m b y)
      (is : m'.views ≡ set m.views b (Builder y')) (ts : List BuilderTry) (more : List Step) where
    pub taken-builder : AreSteps keys ts more → steps_by b more ≡ more
        → ((c : ℕ) → c ≢ b → steps_by c more ≡ []) → steps_in y'.tried ≡ steps_in y.tried ++ ts
        → AreTaken keys m ss → AreTaken keys m' (ss ++ more)
    taken-builder are his not_theirs adds a = record {
      own = λ c v at.
          ⊎_elim
          (λ (t : (c ≡ b) × (Builder y' ≡ Builder v)).
          subst (λ (z : BuilderView). AreSteps keys (steps_in z.tried) (steps_by c (ss ++ more)))
          (same_builder y' v t.1)
          (subst (λ i. AreSteps keys (steps_in y'.tried) (steps_by i (ss ++ more))) (sym t.0) both))
          (λ (t : (c ≢ b) × (get_elem? m.views c ≡ some (Builder v))).
          subst (λ (l : List Step). AreSteps keys (steps_in v.tried) l) (sym (beside c t.0))
          (a.own c v t.1))
          (at_set m.views b c (Builder y') (Builder v)
          (ap (λ (l : List View). get_elem? l c) (sym is) ∙ at));
      others = λ c none.
          let apart : c ≢ b =
          λ e. none y' (subst (λ i. get_elem? m'.views i ≡ some (Builder y')) (sym e) here) in
          beside c apart
          ∙ a.others c (λ v at.
          none v
          (ap (λ (l : List View). get_elem? l c) is ∙ set_else m.views b c (Builder y') apart
          ∙ at));
    }
      where
        here : get_elem? m'.views b ≡ some (Builder y')
        here =
            ap (λ (l : List View). get_elem? l b) is
            ∙ set_here m.views b (Builder y') (at_less m.views b (Builder y) seat)

        both : AreSteps keys (steps_in y'.tried) (steps_by b (ss ++ more))
        both =
            subst (λ (l : List Step). AreSteps keys (steps_in y'.tried) l)
            (sym (filter-append (is_by b) ss more ∙ ap (λ (l : List Step). steps_by b ss ++ l) his))
            (subst (λ (l : List BuilderTry). AreSteps keys l (steps_by b ss ++ more)) (sym adds)
            (are-then keys (steps_in y.tried) ts (steps_by b ss) more (a.own b y seat) are))

        beside : (c : ℕ) → c ≢ b → steps_by c (ss ++ more) ≡ steps_by c ss
        beside c apart =
            filter-append (is_by c) ss more
            ∙ ap (λ (l : List Step). steps_by c ss ++ l) (not_theirs c apart)
            ∙ append-nil (steps_by c ss)
