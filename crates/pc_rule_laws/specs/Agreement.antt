-- When what a name means by environment is what it means by the places of declarations.
use Rattle.std.proofs.Common.{List, None, Option, Some, [], if◌then◌else◌, suc, ℕ, ◌==◌, ◌∷◌}
use Rattle.std.specs.Option.{option_map_or}
use Rattle.pc_rules.specs.Attributes.{first}
use Rattle.pc_rules.specs.Places.{beside, inner}
use Rattle.pc_rules.specs.Decorated.{decorate}
use Rattle.pc_rules.specs.Meanings.{Class, Found, Here, Later, Local, Missing, Outside, Required}
use Rattle.pc_scope.specs.Around.{first_declared}
use Rattle.pc_scope.specs.Declarations.{Declared, HereAt, LaterAt, Meant, MissingAt, RequiredAt}
use Rattle.pc_scope.specs.Headings.{is_routine_kind}
use Rattle.pc_scope.specs.Lookup.{Declaration, seen_from}
use Rattle.pc_syntax.specs.Plain.{Cons, Forest, Nil}
use Rattle.pc_syntax.specs.declared.kind.Kind.{Kind}

-- the same standing, and where a declaration is meant, its class is that of the one at the place; T says which class the declaration at a
-- place has. Nothing is said of a field
abbrev pub Agrees : (List ℕ → Class → Type 0) → Found → Meant → Type 0
Agrees T (Here m) (HereAt p) = T p m.class
Agrees T (Later c) (LaterAt p) = T p c
Agrees T (Required n) RequiredAt = Unit {0}
Agrees T Missing MissingAt = Unit {0}
Agrees T _ _ = ⊥

-- what a name means by the declarations of a block, seen from a place: by the first of the name, and where there is none, what it means around the block
abbrev pub seen_among : List ℕ → List Declared → List ℕ → Meant → Meant
seen_among q ds n outer = option_map_or (λ d. seen_from q d) (first_declared n ds) outer

-- the same by the declaration that counts, if there is one: with it `lookup` ends
abbrev pub seen_or : List ℕ → Option Declaration → Meant → Meant
seen_or q d outer = option_map_or (λ x. seen_from q x.declared) d outer

-- a node of a block: where it stands, its kind and word
pub record Spot : Type 0 where
  pub local : Local
  pub kind : Kind
  pub word : List ℕ

-- where a way leads from the tree with a number on: to nowhere, to that tree, into it, or to those behind it
pub data Turn : Type 0 where
  Lost : Turn
  Arrived : Turn
  Inside : List ℕ → Turn
  Behind : Turn

abbrev pub turn : ℕ → List ℕ → Turn
turn i [] = Lost
turn i (j ∷ []) = if i == j then Arrived else Behind
turn i (j ∷ m ∷ way) = if i == j then Inside (m ∷ way) else Behind

-- the node to which a way leads among trees, the first of which has the number i; the headings of the routines in a block are theirs
unfoldable pub spot : Outside → Local → ℕ → Forest → List ℕ → Option Spot
spot out l i Nil way = None
spot out l i (Cons k w ns ks ts) way =
    elim (turn i way) as (λ x. Option Spot) [
      | Lost ↦ None
      | Arrived ↦ Some (record { local = l; kind = k; word = w })
      | Inside rest ↦ if is_routine_kind k then None else spot out (inner l k ks) 1 ks rest
      | Behind ↦ spot out (beside l k (first (decorate out l (Cons k w ns ks Nil)))) (suc i) ts way
    ]
