-- The kind of the node that declares each name of a routine, as it comes on the way through the routine's declarations.
use Rattle.std.specs.Prelude.{◌≡◌, ℕ, suc, if◌then◌else◌, List, [], ◌∷◌, ◌++◌, map}
use Rattle.pc_syntax.specs.declared.kind.Kind.{Kind}
use Rattle.pc_syntax.specs.Plain.{Forest, Nil, Cons, Plain}
use Rattle.pc_syntax.specs.WellFormed.{IsProper}
use Rattle.pc_scope.specs.Blocks.{block_kids}
use Rattle.pc_scope.specs.Declarations.{Declared, declared_by_node}
use Rattle.pc_scope.specs.Headings.{is_routine_kind}
use Rattle.pc_rules.specs.Routines.{Routine}
use Rattle.pc_decl.specs.Annotated.{Annotation, annotated}
use Rattle.pc_decl.specs.Declared.{heading_names, block_names}
use Rattle.pc_decl.specs.DeclsText.{declaring_kind}
use Rattle.pc_decl.specs.Nodes.{kids_at}
use Rattle.pc_decl_laws.specs.OwnTypes.{IsAmong}
use Rattle.pc_syntax.specs.declared.kind.Kind.TheVariants as kind

-- these names, all declared by a node of this kind
abbrev pub of_kind : Kind → List Declared → List (Declared × Kind)
of_kind k ds = map (λ (d : Declared). (d, k)) ds

-- the declarations in trees whose first is kid i of the node at a place, each with the kind of its node, in text order
abbrev pub kinds_at : List ℕ → ℕ → Forest → List (Declared × Kind)
kinds_at p i Nil = []
kinds_at p i (Cons k w ns ks ts) =
    of_kind k (declared_by_node k (p ++ i ∷ []) ks) ++ (if is_routine_kind k then [] else kinds_at (p ++ i ∷ []) 1 ks) ++ kinds_at p (suc i) ts

-- the same of the parameters that a routine at a place declares by its own heading
abbrev pub parameter_kinds : List ℕ → Forest → List (Declared × Kind)
parameter_kinds q (Cons k w ns ks (Cons kind.Params v ms js ts)) = kinds_at (q ++ 2 ∷ []) 1 js
parameter_kinds q ks = []

-- and of all that a routine declares, of equal names all
abbrev pub routine_kinds : Plain → Routine → List (Declared × Kind)
routine_kinds t r =
    (if r.is_later then [] else parameter_kinds r.place (kids_at t r.place)) ++ kinds_at (r.place ++ r.block_kid ∷ []) 1 (block_kids (kids_at t r.place))

-- without the kinds they are the names that the routine declares
abbrev pub KindNamesLaw : Type 0
KindNamesLaw = (t : Plain) (r : Routine) → map (λ (x : Declared × Kind). x.0) (routine_kinds t r) ≡ heading_names t r ++ block_names t r

-- and each kind is the one that the view takes the class of the name from
abbrev pub DeclaringLaw : Type 0
DeclaringLaw = (t : Plain) (r : Annotation) (x : Declared × Kind) → IsProper t → IsAmong (annotated t).routines r → IsAmong (routine_kinds t r.routine) x →
    declaring_kind t x.0.place ≡ x.1

-- the kinds of the nodes that declare the names of a routine
pub record KindsLaw : Type 0 where
  pub names : KindNamesLaw
  pub kinds : DeclaringLaw
