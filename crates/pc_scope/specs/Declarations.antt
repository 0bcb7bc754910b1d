-- The declarations of a block, by their places (ISO 7185, 6.2.2).
use Rattle.std.specs.Prelude.{ℕ, if◌then◌else◌, List, [], ◌∷◌, Option, Some, None, ◌++◌, suc}
use Rattle.pc_syntax.specs.declared.kind.Kind.{Kind}
use Rattle.pc_syntax.specs.Plain.{Forest, Nil, Cons}
use Rattle.pc_syntax.specs.Sorts.{is_hole}
use Rattle.pc_syntax.specs.Words.{lowered}
use Rattle.pc_scope.specs.Headings.{is_routine_kind}
use Rattle.pc_syntax.specs.declared.kind.Kind.TheVariants as kind

-- a declaration: its name, the place of that name, and that of the constant or type definition which it names
pub record Declared : Type 0 where
  pub name : List ℕ
  pub place : List ℕ
  pub definition : Option (List ℕ)

-- what a name means at a place: the declaration that stands before, the one that stands later, a required name, or nothing
pub data Meant : Type 0 where
  HereAt : List ℕ → Meant
  LaterAt : List ℕ → Meant
  RequiredAt : Meant
  MissingAt : Meant

-- the names of a list whose first is kid j of the node at a place
abbrev pub names_at : Option (List ℕ) → List ℕ → ℕ → Forest → List Declared
names_at d p j Nil = []
names_at d p j (Cons k w ns ks ts) =
    if is_hole k then names_at d p (suc j) ts else record { name = lowered w; place = p ++ j ∷ []; definition = d } ∷ names_at d p (suc j) ts

-- the name of the first node, which is a name or a hole
abbrev pub name_at : Option (List ℕ) → List ℕ → Forest → List Declared
name_at d p Nil = []
name_at d p (Cons k w ns ks ts) = names_at d p 1 (Cons k w ns ks Nil)

-- the names below the first node, which is a list of names
abbrev pub names_below : List ℕ → Forest → List Declared
names_below p Nil = []
names_below p (Cons k w ns ks ts) = names_at None (p ++ 1 ∷ []) 1 ks

-- what a node at a place declares by its own names
abbrev pub declared_by_node : Kind → List ℕ → Forest → List Declared
declared_by_node kind.Constdef q ks = name_at (Some q) q ks
declared_by_node kind.Typedef q ks = name_at (Some q) q ks
declared_by_node kind.Vardef q ks = names_below q ks
declared_by_node kind.Enum q ks = names_below q ks
declared_by_node kind.Valparam q ks = names_below q ks
declared_by_node kind.Varparam q ks = names_below q ks
declared_by_node kind.Procedure q ks = name_at None q ks
declared_by_node kind.Function q ks = name_at None q ks
declared_by_node kind.Funbody q ks = name_at None q ks
declared_by_node k q ks = []

-- the declarations in trees whose first is kid i of the node at a place, in text order; those inside routines aside
abbrev pub declared_at : List ℕ → ℕ → Forest → List Declared
declared_at p i Nil = []
declared_at p i (Cons k w ns ks ts) =
    declared_by_node k (p ++ i ∷ []) ks ++ (if is_routine_kind k then [] else declared_at (p ++ i ∷ []) 1 ks) ++ declared_at p (suc i) ts
