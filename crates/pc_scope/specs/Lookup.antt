-- What a name means at a place of a program, by the places of declarations (ISO 7185, 6.2.2).
use Rattle.std.specs.Prelude.{ℕ, not, ◌&&◌, ◌==◌, if◌then◌else◌, List, [], ◌∷◌, Option, Some, None}
use Rattle.std.specs.Option.{option_or, option_map, option_map_or, option_and_then}
use Rattle.pc_syntax.specs.Plain.{Plain}
use Rattle.pc_syntax.specs.Words.{lowered}
use Rattle.pc_scope.specs.Around.{Block, program_block, declared_in, first_declared, inner_block}
use Rattle.pc_scope.specs.Declarations.{Declared, Meant, HereAt, LaterAt, RequiredAt, MissingAt}
use Rattle.pc_scope.specs.Places.{is_before, in_definition}
use Rattle.pc_scope.specs.Required.{is_required}

-- a declaration, and the key of the routine that declares, or of the nearest around it that has one
pub record Declaration : Type 0 where
  pub declared : Declared
  pub owner : List (List ℕ)

-- the first declaration of a name in a block
abbrev pub declared_here : List ℕ → Block → Option Declaration
declared_here n b = option_map (λ d. record { declared = d; owner = b.owner.key }) (first_declared n (declared_in b))

-- the block that the way down from a block enters: that of routine `i`, where `a` is the number of the routines and `k` that of the routine's block
abbrev pub entered : Block → ℕ → ℕ → ℕ → Option Block
entered b a i k = option_and_then (λ c. if a == 4 && c.number == k then Some c else None) (inner_block b i)

-- The declaration of a name that counts at a place, where `way` leads from a block to the place: the innermost block around the place whose
-- own declarations have the name decides.
unfoldable pub declaration_in : List ℕ → Block → List ℕ → Option Declaration
declaration_in n b (a ∷ i ∷ k ∷ way) =
    elim (entered b a i k) as (λ x. Option Declaration) [
      | None ↦ declared_here n b
      | Some c ↦ option_or (declaration_in n c way) (declared_here n b)
    ]
declaration_in n b way = declared_here n b

-- the declaration of a name in small letters that counts at a place; no block is around a place outside the program's block
abbrev pub declaration_at : Plain → List ℕ → List ℕ → Option Declaration
declaration_at t n [] = None
declaration_at t n (a ∷ way) = if a == 3 then declaration_in n (program_block t) way else None

-- the declaration of a name, spelled in any case, that counts at a place
unfoldable pub declaration : Plain → List ℕ → List ℕ → Option Declaration
declaration t name q = declaration_at t (lowered name) q

-- a declaration seen from a place: later where it stands behind, or is a constant or type in whose definition the place stands
abbrev pub seen_from : List ℕ → Declared → Meant
seen_from q d = if not (is_before q d.place) && not (in_definition d.definition q) then HereAt d.place else LaterAt d.place

-- a name that no block declares
abbrev pub required_or_not : List ℕ → Meant
required_or_not n = if is_required n then RequiredAt else MissingAt

-- what a name, spelled in any case, means at a place
unfoldable pub lookup : Plain → List ℕ → List ℕ → Meant
lookup t name q = option_map_or (λ d. seen_from q d.declared) (declaration t name q) (required_or_not (lowered name))
