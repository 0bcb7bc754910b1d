-- What the nodes of a tree declare is in small letters.
use Rattle.std.proofs.Common.{ℕ, zero, suc, Bool, true, false, if◌then◌else◌, List, [], ◌∷◌, ◌++◌, get_or, sym, subst}
use Rattle.pc_syntax.specs.Plain.{Forest, Nil, Cons}
use Rattle.pc_syntax.specs.Sorts.{is_hole}
use Rattle.pc_syntax.specs.Words.{is_among, lowered}
use Rattle.pc_scope.proofs.Firsts.{lowered-twice}
use Rattle.pc_rules.specs.Attributes.{Marked, Node, kids_below, missing, nodes}
use Rattle.pc_rules.specs.Declarations.{is_later_declaration}
use Rattle.pc_rules.specs.DeclaringNames.{names_in}
use Rattle.pc_rules.specs.Decorated.{decorate, rule, seen}
use Rattle.pc_rules.specs.HandedOn.{all_defines}
use Rattle.pc_rules.specs.Meanings.{Class, ConstantName, ElementName, Local, Meaning, Outside, TypeName, VariableName}
use Rattle.pc_rules.specs.OwnBlock.{all_of_class}
use Rattle.pc_rules.specs.Places.{beside, inner}
use Rattle.pc_rules.specs.Routines.{firsts}
use Rattle.pc_rule_laws.specs.Roles.{DeclaresParameters, DeclaresRoutine, DeclaresVariables, DefinesConstant, DefinesType, Gap, Gathers, GathersOne, GathersTwo, ListsElements, ParameterPart, Quiet, Role, RoutinePart, TypePart, defines-role, defines_by, first_node, keys, keys-append, one, role, second_node}
use Rattle.pc_block_names.specs.Small.{IsSmall}

-- ---- names with classes

-- names with what they were declared as, in small letters
abbrev SmallKeys : List (List ℕ × Class) → Type 0
SmallKeys [] = Unit {0}
SmallKeys (d ∷ ds) = IsSmall d.0 × SmallKeys ds

-- the same of names with their meanings
abbrev pub SmallMeanings : List (List ℕ × Meaning) → Type 0
SmallMeanings [] = Unit {0}
SmallMeanings (d ∷ ds) = IsSmall d.0 × SmallMeanings ds

small-keys : (ds : List (List ℕ × Meaning)) → SmallKeys (keys ds) → SmallMeanings ds
small-keys [] h = tt
small-keys (d ∷ ds) h = (h.0, small-keys ds h.1)

both-small : (xs ys : List (List ℕ × Class)) → SmallKeys xs → SmallKeys ys → SmallKeys (xs ++ ys)
both-small [] ys h g = g
both-small (x ∷ xs) ys h g = (h.0, both-small xs ys h.1 g)

one-small : (c : Class) (a : Node) → SmallKeys (one c a)
one-small c a = by (is_hole a.kind) where
  by : (b : Bool) → SmallKeys (if b then [] else (lowered a.word, c) ∷ [])
  by true = tt
  by false = (lowered-twice a.word, tt)

all-small : (c : Class) (ns : List Node) → SmallKeys (all_of_class c (names_in ns))
all-small c [] = tt
all-small c (a ∷ rest) = by (all-small c rest) (is_hole a.kind) where
  by : SmallKeys (all_of_class c (names_in rest)) → (b : Bool) → SmallKeys (all_of_class c (if b then names_in rest else lowered a.word ∷ names_in rest))
  by more true = more
  by more false = (lowered-twice a.word, more)

-- ---- nodes

-- what each of these nodes declares is in small letters
abbrev SmallNodes : List Node → Type 0
SmallNodes [] = Unit {0}
SmallNodes (n ∷ ns) = SmallKeys (keys n.defines) × SmallNodes ns

node-at : (ns : List Node) (i : ℕ) → SmallNodes ns → SmallKeys (keys (get_or ns i missing).defines)
node-at [] i h = tt
node-at (n ∷ ns) zero h = h.0
node-at (n ∷ ns) (suc i) h = node-at ns i h.1

nodes-small : (ns : List Node) → SmallNodes ns → SmallKeys (keys (all_defines ns))
nodes-small [] h = tt
nodes-small (n ∷ ns) h = subst SmallKeys (sym (keys-append n.defines (all_defines ns))) (both-small (keys n.defines) (keys (all_defines ns)) h.0 (nodes-small ns h.1))

unless-small : (b : Bool) (xs : List (List ℕ × Class)) → SmallKeys xs → SmallKeys (if b then [] else xs)
unless-small true xs h = tt
unless-small false xs h = h

-- what a node declares, by its role
by-small : (r : Role) (l : Local) (m : Marked) → SmallNodes (nodes m) → SmallKeys (defines_by r l m)
by-small Quiet l m h = tt
by-small Gap l m h = tt
by-small Gathers l m h = nodes-small (nodes m) h
by-small GathersOne l m h = nodes-small (first_node m ∷ []) (node-at (nodes m) 0 h, tt)
by-small GathersTwo l m h = nodes-small (first_node m ∷ second_node m ∷ []) (node-at (nodes m) 0 h, (node-at (nodes m) 1 h, tt))
by-small TypePart l m h = nodes-small (nodes m) h
by-small RoutinePart l m h = nodes-small (nodes m) h
by-small ParameterPart l m h = nodes-small (nodes m) h
by-small DefinesConstant l m h = one-small ConstantName (first_node m)
by-small DefinesType l m h = both-small (one TypeName (first_node m)) (keys (second_node m).defines) (one-small TypeName (first_node m)) (node-at (nodes m) 1 h)
by-small DeclaresVariables l m h =
    both-small (all_of_class VariableName (names_in (kids_below (first_node m)))) (keys (second_node m).defines) (all-small VariableName (kids_below (first_node m))) (node-at (nodes m) 1 h)
by-small ListsElements l m h = all-small ElementName (kids_below (first_node m))
by-small (DeclaresRoutine c) l m h = unless-small (is_later_declaration l) (one c (first_node m)) (one-small c (first_node m))
by-small (DeclaresParameters c) l m h = all-small c (kids_below (first_node m))

-- what trees in a row declare
marks-small : (out : Outside) (l : Local) (f : Forest) → SmallNodes (nodes (decorate out l f))
unfolding decorate
marks-small out l Nil = tt
marks-small out l (Cons k w ns ks ts) =
    let m = decorate out (inner l k ks) ks in
    let a = rule l k w (seen out l k w) m in
    (subst SmallKeys (sym (defines-role l k w (seen out l k w) m)) (by-small (role k) l m (marks-small out (inner l k ks) ks)), marks-small out (beside l k a) ts)

-- what the second of them declares, as the parameters of a heading
pub second-small : (out : Outside) (l : Local) (f : Forest) → SmallMeanings (get_or (nodes (decorate out l f)) 1 missing).defines
second-small out l f = small-keys (get_or (nodes (decorate out l f)) 1 missing).defines (node-at (nodes (decorate out l f)) 1 (marks-small out l f))

-- and the first of each name
pub firsts-small : (before : List (List ℕ)) (ds : List (List ℕ × Meaning)) → SmallMeanings ds → SmallMeanings (firsts before ds)
firsts-small before [] h = tt
firsts-small before (d ∷ ds) h = by (firsts-small before ds h.1) (h.0, firsts-small (d.0 ∷ before) ds h.1) (is_among before d.0) where
  by : SmallMeanings (firsts before ds) → SmallMeanings (d ∷ firsts (d.0 ∷ before) ds) → (b : Bool) → SmallMeanings (if b then firsts before ds else d ∷ firsts (d.0 ∷ before) ds)
  by rest all true = rest
  by rest all false = all
