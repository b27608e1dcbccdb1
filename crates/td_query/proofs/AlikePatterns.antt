-- Which patterns match alike: what `regex` makes of one text, however often.
use Rattle.std.proofs.Common.{◌≡◌, ◌⊎◌, ℕ, zero, suc, true, List, [], ◌∷◌, map, Option, None, Some}
use Rattle.std.proofs.Common.{IsSomeAnd, refl, sym, subst, ◌∙◌}
use Rattle.std.specs.List.{AllZip}
use Rattle.regex.specs.Failures.{IsPattern}
use Rattle.regex.specs.Names.{names_of}
use Rattle.regex.specs.Patterns.{Re, Reads, Refuses, SameCaptures, default_config}
use Rattle.regex.specs.Strings.{regex_pattern, regex_source}
use Rattle.regex.specs.declared.string.regex.Regex.{Regex}
use Rattle.regex.proofs.ForCallers.{is_match_alike}
use Rattle.regex_hir.specs.Meaning.{meaning}
use Rattle.td_query.specs.Sources.{AreDefault, IsDefault, IsReadAs}
use Rattle.td_query.specs.inner.Alike.{AreAlike}

-- ---- 1. what `regex` compiles is what its grammar reads

read_default : (r : Regex) → IsDefault r → IsReadAs (regex_source r) (regex_pattern r)
read_default r is =
    ((r.pattern.program.hir, names_of r.pattern.names.items, rw is.0 at is.1), refl)

pub are_read : (rs : List Regex) → AreDefault rs
    → AllZip IsReadAs (map regex_source rs) (map regex_pattern rs)
are_read [] are = tt
are_read (r ∷ rs) are = (read_default r are.0, are_read rs are.1)

-- ---- 2. what the grammar of `regex` reads in one text is one pattern

-- what two facts on an option come to. Only the function `names` says what the option is: what the
-- grammar of `regex` reads in a text, for which this crate has no name
both_hold : {A B K : Type 0} {J N : K → Type 0} (o : Option A) (P Q : A → Type 0)
    → ((k : K) → J k ⊎ (o ≡ None) ⊎ N k → Unit {0}) → IsSomeAnd o P → IsSomeAnd o Q
    → ((x : A) → P x → Q x → B) → B
both_hold None P Q names p q f = absurd p
both_hold (Some x) P Q names p q f = f x p q

same_by : {a b c : Re} → SameCaptures a c → SameCaptures b c → SameCaptures a b
same_by p q = record { at = λ hay ok k i. p.at hay ok k i ∙ sym (q.at hay ok k i) }

same_meaning : (text : List ℕ) (p q : IsPattern default_config text)
    → SameCaptures (meaning p.0) (meaning q.0)
unfolding Reads Refuses
same_meaning text p q =
    both_hold _ _ _ (λ kind (refused : Refuses default_config text kind). tt) p.2 q.2
    (λ x f g. same_by f.1 g.1)

same_read : (text : List ℕ) (a b : Re) → IsReadAs text a → IsReadAs text b → SameCaptures a b
same_read text a b is also = rw (is.1, also.1) (same_meaning text is.0 also.0)

-- the patterns that are read in the same texts match alike, one by one
pub same_patterns : (texts : List (List ℕ)) (ps qs : List Re) → AllZip IsReadAs texts ps
    → AllZip IsReadAs texts qs → AllZip SameCaptures ps qs
same_patterns [] [] [] are also = tt
same_patterns [] [] (q ∷ qs) are also = absurd also
same_patterns [] (p ∷ ps) qs are also = absurd are
same_patterns (text ∷ texts) [] qs are also = absurd are
same_patterns (text ∷ texts) (p ∷ ps) [] are also = absurd also
same_patterns (text ∷ texts) (p ∷ ps) (q ∷ qs) are also =
    (same_read text p q are.0 also.0, same_patterns texts ps qs are.1 also.1)

-- ---- 3. patterns that match alike are found alike

-- patterns that find as some others do still do so if these stay the same
pub alike_still : {now was : List Re} (ps : List Re) → now ≡ was → AreAlike ps was → AreAlike ps now
alike_still ps same alike = subst (λ (qs : List Re). AreAlike ps qs) (sym same) alike

pub alike_all : (ps qs : List Re) → AllZip SameCaptures ps qs → AreAlike ps qs
alike_all [] [] same number text bytes = refl
alike_all [] (q ∷ qs) same number text bytes = absurd same
alike_all (p ∷ ps) [] same number text bytes = absurd same
alike_all (p ∷ ps) (q ∷ qs) same zero text bytes = is_match_alike same.0 text bytes true 0
alike_all (p ∷ ps) (q ∷ qs) same (suc number) text bytes =
    alike_all ps qs same.1 number text bytes
