-- `Supply::push`: its type's invariant.
use Rattle.std.proofs.Common.{◌≡◌, ℕ, Bool, false, List, [], ◌∷◌, ◌++◌, Option, None, length}
use Rattle.std.proofs.Common.{option_map, sym, subst, ap, ◌∙◌, if◌then◌else◌}
use Rattle.std.specs.Option.{option_map_or}
use Rattle.std.specs.Str.{bytes_eq}
use Rattle.td_supply.specs.declared.stocked.Build.{Build}
use Rattle.td_supply.specs.declared.stocked.Stocked.{Stocked}
use Rattle.td_supply.specs.declared.supply.Supply.TheInside.{Inside}
use Rattle.td_supply.specs.Numbers.{numbers_of}
use Rattle.td_supply.specs.Places.{places_from}
use Rattle.td_supply.specs.Supplied.{Built}
use Rattle.td_supply.specs.SupplyViews.{built, is_under, is_by, sources_of}
use Rattle.td_supply.specs.VersionTexts.{AreVersions}
use Rattle.td_supply.proofs.Places.{agrees-push, agrees-other}
use Rattle.td_supply.proofs.supply.Supply.push.Goals as goal
use Rattle.td_supply.proofs.supply.Supply.push.Goals.{in-Some+in_default-push, in_default}

-- whether a build is one of the source
abbrev of_source : List ℕ → Option Build → Bool
of_source q b = option_map_or (λ (b : Built). bytes_eq q b.source) (option_map built b) false

pub invariant_of-self-2 : goal.invariant_of-self-2
invariant_of-self-2 c =
    let xs = c.self.inside.items.items in
    let x : Stocked = record {
      name = c.args.name;
      version = c.args.version;
      arch = c.args.arch;
      build = c.args.build;
      rebuilt = None;
    } in
    let last : c.len-number.result ≡ length xs =
    c.len-number.ensures ∙ c.reserve.ensures.len ∙ c.self.inside.items.ok.0 in
    let names : (q : List ℕ)
    → numbers_of c.push.new.self q ≡ places_from (is_under q) 0 (xs ++ x ∷ []) =
    λ q. agrees-push (is_under q) xs x (numbers_of c.self.inside.by_name q)
    (numbers_of c.push.new.self q) c.len-number.result (c.self.invariant.0 q) last
    (c.in_ok-push.ensures.ok q) in
    elim c.match-build.branch [
      | in-Some+in_default-push w ↦
          let items : c.push_reserved.new.self.items ≡ xs ++ x ∷ [] =
          c.push_reserved.ensures.items
          ∙ ap (λ (i : Inside). i.items.items ++ x ∷ []) w.self-inside-is
          ∙ ap (λ (l : List Stocked). l ++ x ∷ []) c.reserve.ensures.items in (
            λ q. ap (λ (i : Inside). numbers_of i.by_name q) w.self-inside-is ∙ names q
                ∙ ap (places_from (is_under q) 0) (sym items),
            λ q.
                let test : bytes_eq q w.in-Some.build.source.now ≡ is_by q x =
                ap (of_source q) (sym w.in-Some.is) in
                let old = numbers_of c.self.inside.by_source q in
                ap (λ (i : Inside). numbers_of i.by_source q) w.self-inside-is
                ∙ agrees-push (is_by q) xs x old (numbers_of w.push-in-Some.new.self q)
                c.len-number.result (c.self.invariant.1 q) last
                (w.in_default-push.ensures.ok q
                ∙ ap (λ (b : Bool). if b then old ++ c.len-number.result ∷ [] else old) test)
                ∙ ap (places_from (is_by q) 0) (sym items),
            subst AreVersions (sym
                (ap (λ (i : Inside). sources_of i.sources.entries) w.self-inside-is))
                c.self.invariant.2,
          )
      | in_default w ↦
          let items : c.push_reserved.new.self.items ≡ xs ++ x ∷ [] =
          c.push_reserved.ensures.items
          ∙ ap (λ (i : Inside). i.items.items ++ x ∷ []) w.self-inside-is
          ∙ ap (λ (l : List Stocked). l ++ x ∷ []) c.reserve.ensures.items in (
            λ q. ap (λ (i : Inside). numbers_of i.by_name q) w.self-inside-is ∙ names q
                ∙ ap (places_from (is_under q) 0) (sym items),
            λ q. ap (λ (i : Inside). numbers_of i.by_source q) w.self-inside-is
                ∙ agrees-other (is_by q) xs x (numbers_of c.self.inside.by_source q)
                (c.self.invariant.1 q) (ap (of_source q) w.in_default.is)
                ∙ ap (places_from (is_by q) 0) (sym items),
            subst AreVersions (sym
                (ap (λ (i : Inside). sources_of i.sources.entries) w.self-inside-is))
                c.self.invariant.2,
          )
    ]
