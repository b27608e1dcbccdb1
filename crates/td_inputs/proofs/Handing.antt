-- What a reader answered is handed on, and its fault as another.
use Rattle.std.proofs.Common.{◌≡◌, Result, Ok, Err, IfOk, IfErr, subst, sym}

module _ {A B E F : Type 0} (f : A → B) (g : E → F) where
  -- what was read is handed on as `f` makes it, and a fault as `g` does
  abbrev pub IsHanded : Result A E → Result B F → Type 0
  IsHanded read given = IfOk read (λ a. given ≡ Ok (f a)) × IfErr read (λ e. given ≡ Err (g e))

  pub handed_ok : (P : B → Type 0) (read : Result A E) (given : Result B F)
      → IsHanded read given → IfOk read (λ a. P (f a)) → IfOk given P
  handed_ok P (Ok a) given is h = subst (λ r. IfOk r P) (sym is.0) h
  handed_ok P (Err e) given is h = subst (λ r. IfOk r P) (sym is.1) tt

  pub handed_err : (Q : F → Type 0) (read : Result A E) (given : Result B F)
      → IsHanded read given → IfErr read (λ e. Q (g e)) → IfErr given Q
  handed_err Q (Ok a) given is h = subst (λ r. IfErr r Q) (sym is.0) tt
  handed_err Q (Err e) given is h = subst (λ r. IfErr r Q) (sym is.1) h
