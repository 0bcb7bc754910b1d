-- What the names of routines have as parameters and results, by the tables and by the rules (ISO 7185, 6.2.2, 6.6.1).
use Rattle.std.specs.Prelude.{◌≡◌, ◌<◌, ℕ, true, false, if◌then◌else◌, List, [], ◌∷◌, Option, Some, length, get_or, slice_get}
use Rattle.pc_syntax.specs.Plain.{Forest, Nil, Cons}
use Rattle.pc_scope.specs.Headings.{is_routine_kind}
use Rattle.pc_types.specs.Shapes.{Owner}
use Rattle.pc_types.specs.Table.{nobody}
use Rattle.pc_names.specs.Standing.{meant}
use Rattle.pc_names.specs.Table.{Table, slot_named}
use Rattle.pc_names.specs.declared.id.DeclarationId.{DeclarationId}
use Rattle.pc_rules.specs.Meanings.{Class, Signature, Meaning, Found, Here, is_routine_class}
use Rattle.pc_facts.specs.Known.{Known}
use Rattle.pc_facts.specs.Shows.{ShowsSignatures}
use Rattle.pc_facts.specs.declared.sighting.Declared.{Declared}

-- the parameters and the result of each routine, by the block that declares it and its name
abbrev pub Signatures : Type 0
Signatures = Owner → List ℕ → Option Signature

-- a found routine's meaning with its parameters and its result
abbrev pub signed : Signatures → List ℕ → Found → Found
signed sig n (Here m) = Here (if is_routine_class m.class then record m { signature = sig m.owner n } else m)
signed sig n f = f

-- the declaration of a routine under a name has the parameters and the result of that routine
abbrev pub HasSignature : Known → Signatures → List ℕ → Declared → Type 0
HasSignature k sig n x = (x.owner.0 < length k.table.owners) × ShowsSignatures k x.signature (sig (get_or k.table.owners x.owner.0 nobody) n)

-- whatever a block has as the complete declaration of a name, if it is that of a routine, has the parameters and the result of the
-- routine of this name
abbrev pub IsSignedIn : Table → Known → List Declared → Signatures → ℕ → Type 0
IsSignedIn t k ds sig b =
    (n : List ℕ) (d : DeclarationId) (x : Declared) → (slot_named t b n).known ≡ Some d → slice_get ds d.0 ≡ Some x → is_routine_class (meant x.class) ≡ true → HasSignature k sig n x

-- the same of each of some blocks
abbrev pub IsSigned : Table → Known → List Declared → Signatures → List ℕ → Type 0
IsSigned t k ds sig [] = Unit {0}
IsSigned t k ds sig (b ∷ bs) = IsSignedIn t k ds sig b × IsSigned t k ds sig bs

-- of each declaration something holds by its class and its block
abbrev pub AllDeclared : (Class → Owner → Type 0) → List (List ℕ × Meaning) → Type 0
AllDeclared P [] = Unit {0}
AllDeclared P (d ∷ ds) = P d.1.class d.1.owner × AllDeclared P ds

-- each routine among some declarations is one of this block
abbrev pub OwnsRoutines : Owner → List (List ℕ × Meaning) → Type 0
OwnsRoutines o ds = AllDeclared (λ c p. is_routine_class c ≡ true → p ≡ o) ds

-- none of some declarations is a routine
abbrev pub NoRoutines : List (List ℕ × Meaning) → Type 0
NoRoutines ds = AllDeclared (λ c p. is_routine_class c ≡ false) ds

-- no routine stands among some trees
abbrev pub HaveNoRoutine : Forest → Type 0
HaveNoRoutine Nil = Unit {0}
HaveNoRoutine (Cons k w ns ks ts) = (is_routine_kind k ≡ false) × HaveNoRoutine ks × HaveNoRoutine ts
