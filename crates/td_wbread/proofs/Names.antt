-- The rows that a command names, by what it holds.
use Rattle.std.proofs.Common.{◌≡◌, ◌∙◌, ℕ, List, ◌&&◌, Option, Some, None, is_none, refl, sym, ap}
use Rattle.std.proofs.Common.{string_bytes}
use Rattle.std.specs.List.{list_any}
use Rattle.std.specs.Option.{option_map, unwrap_or}
use Rattle.std.specs.Borrow.{Bor}
use Rattle.std.specs.Str.{bytes_eq}
use Rattle.td_text.proofs.Chain.{list_any-map}
use Rattle.td_version.specs.Rebuild.{IsRebuild}
use Rattle.td_version.specs.Splitting.{rebuild_at}
use Rattle.td_version.specs.Version.{Parts}
use Rattle.td_version.proofs.Rebuilds.{found_some, found_none, same_rebuild}
use Rattle.td_wbread.specs.declared.command.Command.{Command}
use Rattle.td_wbread.specs.declared.command.Package.{Package}
use Rattle.td_wbread.specs.Naming.{is_bare, is_matched, split_of, version_matches}
use Rattle.td_wbread.specs.Packages.{PackageText}
use Rattle.td_wbread.specs.Views.{package_of, parts_of}

pub split_is : (text base : List ℕ) (n : ℕ) → IsRebuild text base n → (base, n) ≡ split_of text
split_is text base n is = by (rebuild_at text) refl
  where
    by : (o : Option (List ℕ × ℕ)) → rebuild_at text ≡ o → (base, n) ≡ unwrap_or o (text, 0)
    by None e = let same = same_rebuild text base text n 0 is (found_none text e) in cc
    by (Some p) e =
        let same = same_rebuild text base p.0 n p.1 is (found_some text p.0 p.1 e) in
        let left : (base, n) ≡ (p.0, n) = ap (λ (b : List ℕ). (b, n)) same.0 in
        let right : (p.0, n) ≡ (p.0, p.1) = ap (λ (m : ℕ). (p.0, m)) same.1 in
        left ∙ right

pub has_source : (c : Command) (source : List ℕ)
    → list_any (λ (p : Package). bytes_eq (string_bytes p.source) source) c.packages.items
    ≡ list_any (λ (p : PackageText). bytes_eq p.source source) (parts_of c).packages
has_source c source =
    sym (list_any-map (λ (p : PackageText). bytes_eq p.source source) package_of c.packages.items)

pub has_arch : (c : Command) (arch : List ℕ)
    → list_any (λ (a : Bor (List ℕ)). bytes_eq a.now arch) c.archs.items
    ≡ list_any (λ (a : List ℕ). bytes_eq a arch) (parts_of c).archs
has_arch c arch =
    sym (list_any-map (λ (a : List ℕ). bytes_eq a arch) (λ (a : Bor (List ℕ)). a.now) c.archs.items)

pub has_package : (c : Command) (source : List ℕ) (version : Parts) (number : ℕ)
    → list_any
    (λ (p : Package). bytes_eq (string_bytes p.source) source
    && version_matches version number (option_map string_bytes p.version)) c.packages.items
    ≡ is_matched (parts_of c) source version number
has_package c source version number =
    sym (list_any-map (λ (p : PackageText). bytes_eq p.source source && version_matches version
    number p.version) package_of c.packages.items)

pub has_bare : (c : Command) (source : List ℕ)
    → list_any (λ (p : Package). bytes_eq (string_bytes p.source) source
    && is_none (option_map string_bytes p.version)) c.packages.items ≡ is_bare (parts_of c) source
has_bare c source =
    sym (list_any-map (λ (p : PackageText). bytes_eq p.source source && is_none p.version)
    package_of c.packages.items)
