-- Where a name stands in its block, its Local knows the declarations of the block that stand before, and no others.
use Rattle.std.proofs.Common.{Bool, List, Some, [], ap, bytes_eq, false, if◌then◌else◌, map, option_map, refl, sym, true, ℕ, ◌++◌, ◌<◌, ◌∙◌, ◌∷◌, ◌≡◌}
use Rattle.pc_rule_laws.specs.ClassedPlaces.{classed_at, tree-under, under-here, with_class}
use Rattle.pc_rule_laws.specs.DeclaredNames.{tree-declares}
use Rattle.pc_rule_laws.specs.Matching.{Matches}
use Rattle.pc_rule_laws.specs.Orderly.{InOrder, Orderly}
use Rattle.pc_rule_laws.specs.Roles.{DeclaresParameters, DeclaresRoutine, DeclaresVariables, DefinesConstant, DefinesType, Gap, ParameterPart, Role, TypePart, behind-role, behind_by, class_by, defines-role, defines_by, entered-role, entered_by, is_routine_role, keys, places_by, role}
use Rattle.pc_rule_laws.specs.Standing.{AllAre, Classed, Knows, Knows-all, Knows-moved}
use Rattle.pc_rules.specs.Attributes.{Attributes, Marked}
use Rattle.pc_rules.specs.DeclaringNames.{all_as}
use Rattle.pc_rules.specs.Places.{beside, inner, pass, pass_all}
use Rattle.pc_rules.specs.ClosedTypes.{carried, close_type, own_domains}
use Rattle.pc_rules.specs.Decorated.{decorate, rule, seen}
use Rattle.pc_rules.specs.NameClasses.{is_type_class}
use Rattle.pc_rules.specs.Meanings.{Local, Meaning, Outside, VariableName, declared_as, define, define_all, entry_of}
use Rattle.pc_scope.specs.Headings.{first_name, names_of_first}
use Rattle.pc_syntax.specs.Plain.{Forest}
use Rattle.pc_syntax.specs.declared.kind.Kind.{Kind}
use Rattle.pc_types.specs.Domains.{closed}
use Rattle.pc_types.specs.Sameness.{same}
use Rattle.pc_types.specs.Shapes.{Domain, Typed}

-- ---- what a block declares stays

pass-names : (l : Local) (n : List ℕ) → (pass l n).names ≡ l.names
pass-names l [] = refl
pass-names l (c ∷ cs) = refl

pass_all-names : (l : Local) (ds : List (List ℕ × Meaning)) → (pass_all l ds).names ≡ l.names
pass_all-names l [] = refl
pass_all-names l (d ∷ ds) = pass_all-names (pass l d.0) ds ∙ pass-names l d.0

define_all-names : (l : Local) (ds : List (List ℕ × Meaning)) → (define_all l ds).names ≡ l.names
define_all-names l [] = refl
define_all-names l (d ∷ ds) = define_all-names (define l d.0 d.1) ds

entered-names : (r : Role) (l : Local) (ks : Forest) → (entered_by r l ks).names ≡ l.names
entered-names DefinesConstant l ks = pass-names l (first_name ks)
entered-names DefinesType l ks = pass-names l (first_name ks)
entered-names DeclaresVariables l ks = define_all-names l (all_as (declared_as VariableName l.owner) (names_of_first ks))
entered-names _ l ks = refl

behind-names : (r : Role) (l : Local) (ds : List (List ℕ × Meaning)) → (behind_by r l ds).names ≡ l.names
behind-names TypePart l ds = define_all-names l ds
behind-names (DeclaresRoutine c) l ds = define_all-names l ds
behind-names Gap l ds = refl
behind-names (DeclaresParameters c) l ds = pass_all-names l ds
behind-names ParameterPart l ds = pass_all-names l ds
behind-names _ l ds = define_all-names l ds

pub inner-names : (l : Local) (k : Kind) (ks : Forest) → (inner l k ks).names ≡ l.names
inner-names l k ks = ap (λ (x : Local). x.names) (entered-role l k ks) ∙ entered-names (role k) l ks

pub beside-names : (l : Local) (k : Kind) (a : Attributes) → (beside l k a).names ≡ l.names
beside-names l k a = ap (λ (x : Local). x.names) (behind-role l k a) ∙ behind-names (role k) l a.defines

-- ---- behind a tree

-- the types of a block are completed under their names
keys-closed : (t : List Domain) (ds : List (List ℕ × Meaning)) (n : List ℕ) → entry_of (keys (map (close_type t) ds)) n ≡ entry_of (keys ds) n
keys-closed t [] n = refl
keys-closed t (d ∷ ds) n = by (is_type_class d.1.class) ∙ ap (λ o. if bytes_eq d.0 n then Some d.1.class else o) (keys-closed t ds n) where
  by : (b : Bool) → entry_of (keys ((if b then (d.0, record d.1 { type = closed t (option_map (λ (x : Typed). x.shape) d.1.type) }) else d) ∷ map (close_type t) ds)) n
      ≡ (if bytes_eq d.0 n then Some d.1.class else entry_of (keys (map (close_type t) ds)) n)
  by true = refl
  by false = refl

known-behind : (q n : List ℕ) (r : Role) (l next : Local) (m : Marked) (ms : List (List ℕ × Meaning)) (es fs : List Classed) (ks : Forest) → InOrder r ks (Orderly ks) →
    next.passed ≡ (behind_by r l ms).passed → next.known ≡ (behind_by r l ms).known → keys ms ≡ defines_by r l m →
    Knows q n l es → Matches n (keys ms) fs → AllAre true q fs → Knows q n next (es ++ fs)
known-behind q n TypePart l next m ms es fs ks o p k made h same all =
    Knows-moved q n (define_all l ms) next (es ++ fs) p
    (ap (λ ds. entry_of (keys ds) n) k ∙ keys-closed (own_domains (define_all l ms).known ++ carried (define_all l ms).known) (define_all l ms).known n) (Knows-all q n l ms es fs h same all)
known-behind q n Gap l next m ms es fs ks o p k made h same all =
    Knows-moved q n l next (es ++ fs) p (ap (λ ds. entry_of (keys ds) n) k) (Knows-all q n l [] es fs h (ap (λ ds. entry_of ds n) (sym made) ∙ same) all)
known-behind q n ParameterPart l next m ms es fs ks o p k made h same all = absurd o
known-behind q n (DeclaresRoutine c) l next m ms es fs ks o p k made h same all = absurd o
known-behind q n (DeclaresParameters c) l next m ms es fs ks o p k made h same all = absurd o
known-behind q n _ l next m ms es fs ks o p k made h same all =
    Knows-moved q n (define_all l ms) next (es ++ fs) p (ap (λ ds. entry_of (keys ds) n) k) (Knows-all q n l ms es fs h same all)

-- a place in a later kid
pub known-beside : (out : Outside) (b : ℕ) (bs p r : List ℕ) (i j : ℕ) (l : Local) (k : Kind) (w : List ℕ) (ks : Forest) (es : List Classed) → InOrder (role k) ks (Orderly ks) → i < j →
    Knows (p ++ j ∷ r) (b ∷ bs) l es →
    Knows (p ++ j ∷ r) (b ∷ bs) (beside l k (rule l k w (seen out l k w) (decorate out (inner l k ks) ks)))
    (es ++ (with_class (class_by (role k)) (places_by (role k) (p ++ i ∷ []) ks) ++ (if is_routine_role (role k) then [] else classed_at (p ++ i ∷ []) 1 ks)))
known-beside out b bs p r i j l k w ks es o less h =
    let m : Marked = decorate out (inner l k ks) ks in
    let a : Attributes = rule l k w (seen out l k w) m in
    known-behind (p ++ j ∷ r) (b ∷ bs) (role k) l (beside l k a) m a.defines es _ ks o (ap (λ (x : Local). x.passed) (behind-role l k a)) (ap (λ (x : Local). x.known) (behind-role l k a))
    (defines-role l k w (seen out l k w) m) h (tree-declares out b bs (p ++ i ∷ []) l k w ks o) (under-here p r i j _ less (tree-under (p ++ i ∷ []) (role k) ks))
