-- Only type definitions declare types.
use Rattle.std.proofs.Common.{◌≡◌, ℕ, zero, suc, Bool, true, false, not, if◌then◌else◌, List, [], ◌∷◌, ◌++◌, get_or, refl, sym, subst}
use Rattle.std.proofs.lemmas.Bool.{true≢false}
use Rattle.pc_syntax.specs.declared.kind.Kind.{Kind}
use Rattle.pc_syntax.specs.declared.kind.Kind.TheVariants as kind
use Rattle.pc_syntax.specs.Plain.{Forest, Nil, Cons}
use Rattle.pc_syntax.specs.Sorts.{is_hole}
use Rattle.pc_syntax.specs.Words.{lowered}
use Rattle.pc_rules.specs.Attributes.{Marked, Done, Mark, Node, nodes, missing, kids_below}
use Rattle.pc_rules.specs.Declarations.{is_later_declaration}
use Rattle.pc_rules.specs.DeclaringNames.{names_in}
use Rattle.pc_rules.specs.Decorated.{seen, rule, decorate}
use Rattle.pc_rules.specs.HandedOn.{all_defines}
use Rattle.pc_rules.specs.Meanings.{Class, ElementName, VariableName, ConstantName, Meaning, Local, Outside}
use Rattle.pc_rules.specs.NameClasses.{is_type_class}
use Rattle.pc_rules.specs.OwnBlock.{all_of_class}
use Rattle.pc_rules.specs.Places.{inner, beside}
use Rattle.pc_rule_laws.specs.Roles.{Role, Quiet, Gap, Gathers, GathersOne, GathersTwo, TypePart, RoutinePart, ParameterPart, DefinesConstant, DefinesType, DeclaresVariables, ListsElements, DeclaresRoutine, DeclaresParameters, role, keys, keys-append, first_node, second_node, one, defines_by, defines-role}
use Rattle.pc_program_laws.specs.Unsigned.{AllOfKind}
use Rattle.pc_carrying.specs.Carrying.{is_denoting, AllDenoting}
use Rattle.pc_block_laws.specs.OwnTypes.{NoTypes}

-- ---- names with classes

-- none of these names is declared as a type
abbrev pub NoTypeNames : List (List ℕ × Class) → Type 0
NoTypeNames [] = Unit {0}
NoTypeNames (d ∷ ds) = (is_type_class d.1 ≡ false) × NoTypeNames ds

pub no-types : (ds : List (List ℕ × Meaning)) → NoTypeNames (keys ds) → NoTypes ds
no-types [] h = tt
no-types (d ∷ ds) h = (h.0, no-types ds h.1)

both-free : (xs ys : List (List ℕ × Class)) → NoTypeNames xs → NoTypeNames ys → NoTypeNames (xs ++ ys)
both-free [] ys h g = g
both-free (x ∷ xs) ys h g = (h.0, both-free xs ys h.1 g)

one-free : (c : Class) (a : Node) → is_type_class c ≡ false → NoTypeNames (one c a)
one-free c a e = by (is_hole a.kind) where
  by : (b : Bool) → NoTypeNames (if b then [] else (lowered a.word, c) ∷ [])
  by true = tt
  by false = (e, tt)

all-free : (c : Class) (ns : List (List ℕ)) → is_type_class c ≡ false → NoTypeNames (all_of_class c ns)
all-free c [] e = tt
all-free c (n ∷ ns) e = (e, all-free c ns e)

-- ---- nodes

-- no node declares a type
abbrev pub TypelessMarks : Marked → Type 0
TypelessMarks Done = Unit {0}
TypelessMarks (Mark a below rest) = NoTypeNames (keys a.defines) × TypelessMarks below × TypelessMarks rest

-- nor do these
abbrev pub TypelessNodes : List Node → Type 0
TypelessNodes [] = Unit {0}
TypelessNodes (n ∷ ns) = NoTypeNames (keys n.defines) × TypelessNodes ns

pub typeless-nodes : (m : Marked) → TypelessMarks m → TypelessNodes (nodes m)
typeless-nodes Done h = tt
typeless-nodes (Mark a below rest) h = (h.0, typeless-nodes rest h.2)

pub typeless-at : (ns : List Node) (i : ℕ) → TypelessNodes ns → NoTypeNames (keys (get_or ns i missing).defines)
typeless-at [] i h = tt
typeless-at (n ∷ ns) zero h = h.0
typeless-at (n ∷ ns) (suc i) h = typeless-at ns i h.1

pub typeless-all : (ns : List Node) → TypelessNodes ns → NoTypeNames (keys (all_defines ns))
typeless-all [] h = tt
typeless-all (n ∷ ns) h = subst NoTypeNames (sym (keys-append n.defines (all_defines ns))) (both-free (keys n.defines) (keys (all_defines ns)) h.0 (typeless-all ns h.1))

-- ---- roles

-- whether a role declares no types
abbrev is_typeless_role : Role → Bool
is_typeless_role DefinesType = false
is_typeless_role (DeclaresRoutine c) = not (is_type_class c)
is_typeless_role (DeclaresParameters c) = not (is_type_class c)
is_typeless_role _ = true

not-so : (b : Bool) → not b ≡ true → b ≡ false
not-so true e = absurd (true≢false (sym e))
not-so false e = refl

routine-free : (later : Bool) (c : Class) (a : Node) → is_type_class c ≡ false → NoTypeNames (if later then [] else one c a)
routine-free true c a e = tt
routine-free false c a e = one-free c a e

role-free : (r : Role) (l : Local) (m : Marked) → is_typeless_role r ≡ true → TypelessMarks m → NoTypeNames (defines_by r l m)
role-free Quiet l m e h = tt
role-free Gap l m e h = tt
role-free Gathers l m e h = typeless-all (nodes m) (typeless-nodes m h)
role-free GathersOne l m e h = typeless-all (first_node m ∷ []) (typeless-at (nodes m) 0 (typeless-nodes m h), tt)
role-free GathersTwo l m e h = let ns = typeless-nodes m h in typeless-all (first_node m ∷ second_node m ∷ []) (typeless-at (nodes m) 0 ns, (typeless-at (nodes m) 1 ns, tt))
role-free TypePart l m e h = typeless-all (nodes m) (typeless-nodes m h)
role-free RoutinePart l m e h = typeless-all (nodes m) (typeless-nodes m h)
role-free ParameterPart l m e h = typeless-all (nodes m) (typeless-nodes m h)
role-free DefinesConstant l m e h = one-free ConstantName (first_node m) refl
role-free DefinesType l m e h = absurd (true≢false (sym e))
role-free DeclaresVariables l m e h =
    both-free (all_of_class VariableName (names_in (kids_below (first_node m)))) (keys (second_node m).defines) (all-free VariableName (names_in (kids_below (first_node m))) refl) (typeless-at (nodes m) 1 (typeless-nodes m h))
role-free ListsElements l m e h = all-free ElementName (names_in (kids_below (first_node m))) refl
role-free (DeclaresRoutine c) l m e h = routine-free (is_later_declaration l) c (first_node m) (not-so (is_type_class c) e)
role-free (DeclaresParameters c) l m e h = all-free c (names_in (kids_below (first_node m))) (not-so (is_type_class c) e)

-- ---- trees

-- all kinds but type definitions
abbrev pub is_typeless : Kind → Bool
is_typeless kind.Typedef = false
is_typeless _ = true

kind-role : (k : Kind) → is_typeless k ≡ true → is_typeless_role (role k) ≡ true
kind-role (kind.Hole s) e = refl
kind-role kind.Typedef e = absurd (true≢false (sym e))
kind-role _ e = refl

pub rule-typeless : (out : Outside) (l : Local) (k : Kind) (w : List ℕ) (m : Marked) → is_typeless k ≡ true → TypelessMarks m → NoTypeNames (keys (rule l k w (seen out l k w) m).defines)
rule-typeless out l k w m e h = subst NoTypeNames (sym (defines-role l k w (seen out l k w) m)) (role-free (role k) l m (kind-role k e) h)

pub marks-typeless : (out : Outside) (l : Local) (f : Forest) → AllOfKind is_typeless f → TypelessMarks (decorate out l f)
unfolding decorate
marks-typeless out l Nil a = tt
marks-typeless out l (Cons k w ns ks ts) a =
    let below = marks-typeless out (inner l k ks) ks a.1 in
    let m = decorate out (inner l k ks) ks in
    (rule-typeless out l k w m a.0 below, below, marks-typeless out (beside l k (rule l k w (seen out l k w) m)) ts a.2)

-- denoters have none
denoting-typeless : (k : Kind) → is_denoting k ≡ true → is_typeless k ≡ true
denoting-typeless (kind.Hole s) e = refl
denoting-typeless kind.Typedef e = absurd (true≢false (sym e))
denoting-typeless _ e = refl

pub denoters-typeless : (f : Forest) → AllDenoting f → AllOfKind is_typeless f
denoters-typeless Nil a = tt
denoters-typeless (Cons k w ns ks ts) a = (denoting-typeless k a.0, denoters-typeless ks a.1, denoters-typeless ts a.2)
