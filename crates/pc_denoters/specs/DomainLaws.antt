-- Domains of pointer types: laws.
use Rattle.std.specs.Prelude.{◌≡◌, ◌<◌, ◌+◌, ◌++◌, List, [], ◌∷◌, length, map, get_or}
use Rattle.std.proofs.Common.{refl, ap, ◌∙◌, arith, length-append}
use Rattle.pc_types.specs.Growth.{AddsDomain}
use Rattle.pc_types.specs.Shapes.{Domain}
use Rattle.pc_types.specs.Table.{Table, nowhere, place_of, place_at}
use Rattle.pc_types.specs.declared.form.DomainId.{DomainId}
use Rattle.pc_type_rules.specs.ExtendsLaws.{Extends-same}

pub ruleset unchanged = (Extends-same)

place-last : (ds : List Domain) (d : Domain) → get_or (map place_of (ds ++ d ∷ [])) (length ds) nowhere ≡ place_of d
place-last [] d = refl
place-last (e ∷ ds) d = place-last ds d

-- where a domain that was added is declared
pub place-added : (old new : Table) (d : Domain) (i : DomainId) → AddsDomain old new d → i.0 ≡ length old.domains → place_at new i ≡ place_of d
place-added old new d i g is =
    ap (λ (ds : List Domain). get_or (map place_of ds) i.0 nowhere) g.domains ∙ ap (λ n. get_or (map place_of (old.domains ++ d ∷ [])) n nowhere) is ∙ place-last old.domains d

pub domain-there : (old new : Table) (d : Domain) (i : DomainId) → AddsDomain old new d → i.0 ≡ length old.domains → i.0 < length new.domains
domain-there old new d i g is = let n : length new.domains ≡ length old.domains + 1 = ap length g.domains ∙ length-append old.domains (d ∷ []) in omega (arith, n, is)
