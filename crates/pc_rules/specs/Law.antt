-- What a block needs from outside determines what is found in it: the meanings of the names that it uses.
use Rattle.std.specs.Prelude.{ℕ, ◌≡◌, Bool, true, false, ◌&&◌, if◌then◌else◌, List, [], ◌∷◌, Option, Some, None, ◌++◌, refl}
use Rattle.std.proofs.Common.{refl, ap, sym, subst, ◌∙◌}
use Rattle.pc_syntax.specs.declared.kind.Kind.{Kind}
use Rattle.pc_syntax.specs.Plain.{Forest, Nil, Cons}
use Rattle.pc_syntax.specs.Words.{lowered}
use Rattle.pc_scope.specs.Headings.{is_function_kind, first_name, names_of_first}
use Rattle.pc_rules.specs.Decorated.{seen, unseen, rule, decorate}
use Rattle.pc_rules.specs.Attributes.{at_kid, Attributes, Mark, nodes}
use Rattle.pc_rules.specs.Routines.{block_start, Routine, bare, heading_start, firsts, heading_marks, params_in, start_of}
use Rattle.pc_rules.specs.Places.{inner, uses_first, uses_next, pass, pass_all, beside}
use Rattle.pc_rules.specs.DeclaringNames.{all_as}
use Rattle.pc_rules.specs.Errors.{own_entries}
use Rattle.pc_rules.specs.HandedOn.{kid_entries}
use Rattle.pc_rules.specs.Headings.{entries_of_heading}
use Rattle.pc_rules.specs.Meanings.{Class, VariableName, Meaning, declared_as, Found, Here, Local, Outside, entry_of, is_routine_class, known_or, later_or, field_or, find, define, define_all}
use Rattle.pc_rules.specs.Outsides.{outside_of}
use Rattle.pc_syntax.specs.declared.kind.Kind.TheVariants as kind

-- the name of a node, if names here are used ones
abbrev pub name_used : Bool → Kind → List ℕ → List (List ℕ)
name_used u kind.Name w = if u then lowered w ∷ [] else []
name_used u k w = []

-- the names that trees use, given whether the first and the next ones are in places of used names
unfoldable pub names_used : Bool → Bool → Forest → List (List ℕ)
names_used u v Nil = []
names_used u v (Cons k w ns ks ts) = name_used u k w ++ names_used (uses_first k u) (uses_next k u) ks ++ names_used v v ts

-- a name has one meaning: around the block, unless the block declares it; as the name of a routine in it; and as that of a variable of
-- the block that a routine in it changes
pub record SameAt (names : List (List ℕ × Class)) (a b : Outside) (n : List ℕ) : Type 0 where
  pub means : entry_of names n ≡ None → a.means n ≡ b.means n
  pub heading : a.heading n ≡ b.heading n
  pub touched : a.touched n ≡ b.touched n

-- the same of each of these names
abbrev pub AgreeOn : List (List ℕ × Class) → List (List ℕ) → Outside → Outside → Type 0
AgreeOn names [] a b = Unit {0}
AgreeOn names (n ∷ ns) a b = SameAt names a b n × AgreeOn names ns a b

-- A change doesn't affect a routine: in both programs it has the same key, name and kind, the same heading, the same parameters if it is a later
-- declaration, and the same own block; each name that its heading uses has one meaning around it; and each name that its block uses has one
-- meaning: around the block unless the block declares it, as a routine in it, and as a variable that a routine in it changes.
pub record Unaffected (rs us : List Routine) (r u : Routine) : Type 0 where
  pub kind : r.kind ≡ u.kind
  pub owner : r.owner ≡ u.owner
  pub parent : r.parent ≡ u.parent
  pub name : r.name ≡ u.name
  pub key : r.has_key ≡ u.has_key
  pub later : r.is_later ≡ u.is_later
  pub given : r.given ≡ u.given
  pub heading : r.heading ≡ u.heading
  pub block : r.block ≡ u.block
  pub kid : r.block_kid ≡ u.block_kid
  pub heading_names : AgreeOn [] (names_used false true r.heading) (bare r.means) (bare u.means)
  pub block_names : AgreeOn (start_of r).names (names_used true true r.block) (outside_of rs r) (outside_of us u)

-- Such a routine has the same entries, from its own place on, and the same is found at each node of its block.
pub record SameFound (rs us : List Routine) (r u : Routine) : Type 0 where
  pub entries : own_entries rs r ≡ own_entries us u
  pub marks : decorate (outside_of rs r) (start_of r) r.block ≡ decorate (outside_of us u) (start_of u) u.block

-- a routine that a change doesn't affect has the same errors, and the same is found in its block
abbrev pub UnaffectedLaw : Type 0
UnaffectedLaw = (rs us : List Routine) (r u : Routine) → Unaffected rs us r u → SameFound rs us r u
