-- Where the nodes of a block stand: the kids of a node, and the nodes beside it (ISO 7185, 6.2.2).
use Rattle.std.specs.Prelude.{ℕ, Bool, true, false, if◌then◌else◌, List, [], ◌∷◌, ◌+◌, ◌++◌, suc, ◌*◌}
use Rattle.std.specs.Str.{bytes_eq}
use Rattle.pc_syntax.specs.declared.kind.Kind.{Kind}
use Rattle.pc_syntax.specs.Plain.{Forest}
use Rattle.pc_types.specs.Shapes.{Definition}
use Rattle.pc_scope.specs.Headings.{first_name, headings_in, without_pairs, names_of_first}
use Rattle.pc_rules.specs.Declarations.{rest_of, heading_here}
use Rattle.pc_rules.specs.Attributes.{Attributes}
use Rattle.pc_rules.specs.ClosedTypes.{close_types}
use Rattle.pc_rules.specs.DeclaringNames.{all_as}
use Rattle.pc_rules.specs.Denoters.{defined_here}
use Rattle.pc_rules.specs.Meanings.{VariableName, Meaning, declared_as, Local, define_all}
use Rattle.pc_syntax.specs.declared.kind.Kind.TheVariants as kind

-- whether the first kid's names are used ones, where a node's own would be
abbrev pub uses_first : Kind → Bool → Bool
uses_first kind.Constdef u = false
uses_first kind.Typedef u = false
uses_first kind.Vardef u = false
uses_first kind.Field u = false
uses_first kind.Enum u = false
uses_first kind.Valparam u = false
uses_first kind.Varparam u = false
uses_first kind.Procedure u = false
uses_first kind.Function u = false
uses_first kind.Funbody u = false
uses_first kind.Names u = u
uses_first kind.Heads u = false
uses_first _ u = true

-- the same of the kids behind the first
abbrev pub uses_next : Kind → Bool → Bool
uses_next kind.Select u = false
uses_next kind.Enum u = false
uses_next kind.Procedure u = false
uses_next kind.Function u = false
uses_next kind.Funbody u = false
uses_next kind.Names u = u
uses_next kind.Heads u = false
uses_next _ u = true

-- whether the accesses among the kids open their records for what stands to the right
abbrev pub opens_records : Kind → Bool
opens_records kind.With = true
opens_records kind.Accesses = true
opens_records _ = false

-- whether the kid is a packed type
abbrev pub is_packed_kind : Kind → Bool
is_packed_kind kind.Packed = true
is_packed_kind _ = false

-- a name, if it is one, stands before
abbrev pub pass : Local → List ℕ → Local
pass l [] = l
pass l (c ∷ cs) = record l { passed = l.passed ++ (c ∷ cs) ∷ [] }

-- a constant or a type is no longer only ahead in its own definition, but not declared yet; a variable is, though its type is not known
abbrev pub entered : Local → Kind → Forest → Local
entered l kind.Constdef ks = pass l (first_name ks)
entered l kind.Typedef ks = pass l (first_name ks)
entered l kind.Vardef ks = define_all l (all_as (declared_as VariableName l.owner) (names_of_first ks))
entered l kind.Routines ks = record l { ahead = headings_in ks; waiting = [] }
entered l _ ks = l

-- how often a name is among these
abbrev pub times_in : List (List ℕ) → List ℕ → ℕ
times_in [] n = 0
times_in (m ∷ ms) n = if bytes_eq m n then suc (times_in ms n) else times_in ms n

-- the definition of a denoter that has this name; one without a name is numbered among those
abbrev pub denoter_named : Local → ℕ → List ℕ → Definition
denoter_named l part [] = record { owner = l.owner; name = []; number = 2 * l.kid + part; inside = [] }
denoter_named l part (c ∷ cs) = record { owner = l.owner; name = c ∷ cs; number = times_in l.passed (c ∷ cs); inside = [] }

-- the first of some names
abbrev pub first_of_names : List (List ℕ) → List ℕ
first_of_names [] = []
first_of_names (n ∷ ns) = n

-- the definition around the kids of a node: a type's name, or the first name that variables declare, begins a new one
abbrev pub around_kids : Local → Kind → Forest → Definition
around_kids l kind.Typedef ks = denoter_named l 0 (first_name ks)
around_kids l kind.Vardef ks = denoter_named l 1 (first_of_names (names_of_first ks))
around_kids l _ ks = defined_here l

-- where the first kid stands
abbrev pub inner : Local → Kind → Forest → Local
inner l k ks = record (entered l k ks) {
  using = uses_first k l.using;
  using_next = uses_next k l.using;
  opening = opens_records k;
  kid = 1;
  around = around_kids l k ks;
  packed = is_packed_kind k;
}

-- the routine counts for the ones behind it
abbrev pub past_routine : Local → Local
past_routine l =
    record l {
      ahead = rest_of l.ahead;
      waiting = if (heading_here l).is_forward then heading_here l ∷ l.waiting else without_pairs (heading_here l) l.waiting;
    }

-- the names of a heading's parameters stand before, but the block around doesn't declare them
abbrev pub pass_all : Local → List (List ℕ × Meaning) → Local
pass_all l [] = l
pass_all l (d ∷ ds) = pass_all (pass l d.0) ds

-- what stands behind a node sees what it declares, and the types of a block are complete behind their part
abbrev pub behind : Local → Kind → Attributes → Local
behind l kind.Types a = close_types (define_all l a.defines)
behind l kind.Procedure a = past_routine (define_all l a.defines)
behind l kind.Function a = past_routine (define_all l a.defines)
behind l kind.Funbody a = past_routine (define_all l a.defines)
behind l (kind.Hole s) a = record l { ahead = rest_of l.ahead }
behind l kind.Valparam a = pass_all l a.defines
behind l kind.Varparam a = pass_all l a.defines
behind l kind.Params a = pass_all l a.defines
behind l _ a = define_all l a.defines

-- where the next kid stands
abbrev pub beside : Local → Kind → Attributes → Local
beside l k a = record (behind l k a) {
  using = l.using_next;
  using_next = l.using_next;
  opening = l.opening;
  kid = suc l.kid;
  around = l.around;
  packed = l.packed;
  fields = if l.opening then a.opens ++ l.fields else l.fields;
}
