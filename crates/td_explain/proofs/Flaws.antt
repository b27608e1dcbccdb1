-- A line has no flaw if and only if it is read.
use Rattle.std.proofs.Common.{◌≡◌, ◌↔◌, ℕ, Bool, true, false, List, Option, Some, None, refl}
use Rattle.std.proofs.Common.{if◌then◌else◌}
use Rattle.std.specs.Prelude.{◌&&◌, not, IsSome}
use Rattle.td_text.specs.Chain.{◌>>=◌}
use Rattle.td_text.specs.Cut.{cut}
use Rattle.td_relation.specs.Arch.{ArchWords, is_machine_word, is_reserved, is_table_name}
use Rattle.td_relation.specs.ArchReading.{arch_at}
use Rattle.td_explain.specs.ArchFlaw.{flaw_after, flaw_of_cut}
use Rattle.td_explain.specs.FlawLaws.{FlawsAreExact}
use Rattle.td_explain.specs.declared.flaw.ArchFlaw.TheVariants as flaw

-- a reserved name is no name of a table
no_name : (a r rest : Bool) → r ≡ true → (a && (not r && rest)) ≡ false
no_name true true rest is = refl
no_name false true rest is = refl
no_name a false rest is = absurd cc

reserved_is_no_name : (name : List ℕ) → is_reserved name ≡ true → is_table_name name ≡ false
reserved_is_no_name name is = no_name _ (is_reserved name) _ is

-- by whether the name is reserved, and whether each word is one
by_words : (r t o c : Bool) (words : ArchWords) → (r ≡ true → t ≡ false)
    → ((if r then flaw.Reserved
    else (if not t then flaw.Name
    else (if not o then flaw.Os else (if not c then flaw.Cpu else flaw.Nothing)))) ≡ flaw.Nothing)
    ↔ IsSome (if t && (o && c) then Some words else None)
by_words true true o c words apart = (let wrong : true ≡ false = apart refl in absurd cc)
by_words true false o c words apart = (
  λ e. (let wrong : flaw.Reserved ≡ flaw.Nothing = e in absurd cc),
  λ some. (let wrong : false ≡ true = some in absurd cc),
)
by_words false false o c words apart = (
  λ e. (let wrong : flaw.Name ≡ flaw.Nothing = e in absurd cc),
  λ some. (let wrong : false ≡ true = some in absurd cc),
)
by_words false true false c words apart = (
  λ e. (let wrong : flaw.Os ≡ flaw.Nothing = e in absurd cc),
  λ some. (let wrong : false ≡ true = some in absurd cc),
)
by_words false true true false words apart = (
  λ e. (let wrong : flaw.Cpu ≡ flaw.Nothing = e in absurd cc),
  λ some. (let wrong : false ≡ true = some in absurd cc),
)
by_words false true true true words apart = (λ e. refl, λ some. refl)

abbrev arch_after : List ℕ → Option (List ℕ × List ℕ) → Option ArchWords
arch_after name o = do
  b ← o
  if is_table_name name && (is_machine_word b.0 && is_machine_word b.1) then Some (record {
    name =
        name;
    os = b.0;
    cpu = b.1;
  }) else None

abbrev arch_of_cut : Option (List ℕ × List ℕ) → Option ArchWords
arch_of_cut o = do
  a ← o
  arch_after a.0 (cut 32 a.1)

after_name : (name : List ℕ) (o : Option (List ℕ × List ℕ))
    → (flaw_after name o ≡ flaw.Nothing) ↔ IsSome (arch_after name o)
after_name name None = (
  λ e. (let wrong : flaw.Words ≡ flaw.Nothing = e in absurd cc),
  λ some. (let wrong : false ≡ true = some in absurd cc),
)
after_name name (Some p) =
    by_words (is_reserved name) (is_table_name name) (is_machine_word p.0) (is_machine_word p.1)
    (record { name = name; os = p.0; cpu = p.1 }) (reserved_is_no_name name)

of_cut : (o : Option (List ℕ × List ℕ))
    → (flaw_of_cut o ≡ flaw.Nothing) ↔ IsSome (arch_of_cut o)
of_cut None = (
  λ e. (let wrong : flaw.Words ≡ flaw.Nothing = e in absurd cc),
  λ some. (let wrong : false ≡ true = some in absurd cc),
)
of_cut (Some p) = after_name p.0 (cut 32 p.1)

pub flaws_are_exact : FlawsAreExact
unfolding arch_at
flaws_are_exact line = of_cut (cut 32 line)
