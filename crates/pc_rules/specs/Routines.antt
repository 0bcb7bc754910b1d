-- The routines of a program: what is known of each, and where its heading and its own block begin (ISO 7185, 6.6.1, 6.6.2).
use Rattle.std.specs.Prelude.{ℕ, Bool, true, false, ◌&&◌, if◌then◌else◌, List, [], ◌∷◌, Option, Some, None, ◌++◌, map, get_or}
use Rattle.pc_syntax.specs.declared.kind.Kind.{Kind}
use Rattle.pc_syntax.specs.Plain.{Forest}
use Rattle.pc_syntax.specs.Words.{is_among}
use Rattle.pc_types.specs.Shapes.{Owner, Definition}
use Rattle.pc_scope.specs.Headings.{is_function_kind}
use Rattle.pc_rules.specs.Attributes.{Marked, Node, nodes, missing}
use Rattle.pc_rules.specs.Decorated.{decorate}
use Rattle.pc_rules.specs.Meanings.{Meaning, Found, Local, Outside}
use Rattle.pc_rules.specs.OwnBlock.{declared_in}

-- a routine: its place and kind; the block that it has and the one it is declared in; its name there, and whether it is the first of
-- that name; whether it has a key, and is the later declaration of a forward one, whose parameters are then given; what names mean
-- around it, its own name included; its heading; its own block, and which kid that is
pub record Routine : Type 0 where
  pub place : List ℕ
  pub kind : Kind
  pub owner : Owner
  pub parent : Owner
  pub name : List ℕ
  pub is_first : Bool
  pub has_key : Bool
  pub is_later : Bool
  pub given : List (List ℕ × Meaning)
  pub means : List ℕ → Found
  pub heading : Forest
  pub block : Forest
  pub block_kid : ℕ

-- what names mean, where nothing is said of routines
abbrev pub bare : (List ℕ → Found) → Outside
bare m = record { means = m; heading = λ n. None; touched = λ n. false }

-- the definition around the nodes of a block or a heading itself
abbrev pub nowhere : Owner → Definition
nowhere o = record { owner = o; name = []; number = 0; inside = [] }

-- where an own block of a routine begins: its parameters stand before
abbrev pub block_start : Owner → Option (Owner × List ℕ) → List (List ℕ × Meaning) → Forest → Local
block_start o self parameters b = record {
  owner = o;
  self = self;
  names = map (λ (d : List ℕ × Meaning). (d.0, d.1.class)) parameters ++ declared_in b;
  passed = map (λ (d : List ℕ × Meaning). d.0) parameters;
  known = parameters;
  fields = [];
  waiting = [];
  ahead = [];
  using = true;
  using_next = true;
  opening = false;
  kid = 1;
  around = nowhere o;
  packed = false;
}

-- where a heading begins: its names are looked up outside
abbrev pub heading_start : Owner → Local
heading_start o = record {
  owner = o;
  self = None;
  names = [];
  passed = [];
  known = [];
  fields = [];
  waiting = [];
  ahead = [];
  using = false;
  using_next = true;
  opening = false;
  kid = 1;
  around = nowhere o;
  packed = false;
}

-- the parameters, the first of each name
abbrev pub firsts : List (List ℕ) → List (List ℕ × Meaning) → List (List ℕ × Meaning)
firsts before [] = []
firsts before (d ∷ ds) = if is_among before d.0 then firsts before ds else d ∷ firsts (d.0 ∷ before) ds

-- what is found at the nodes of a heading
unfoldable pub heading_marks : Routine → Marked
heading_marks r = decorate (bare r.means) (heading_start r.owner) r.heading

-- the parameters among the nodes of a heading, the program's too: they stand behind the name
abbrev pub params_in : Marked → Node
params_in m = get_or (nodes m) 1 missing

-- the result type, which stands behind the parameters
abbrev pub result_in : Marked → Node
result_in m = get_or (nodes m) 2 missing

-- the parameters of a routine: those of the forward heading, or its own
abbrev pub parameters_of : Routine → List (List ℕ × Meaning)
parameters_of r = if r.is_later then r.given else firsts [] (params_in (heading_marks r)).defines

-- the function whose block this is, by where it is declared
abbrev pub self_of : Routine → Option (Owner × List ℕ)
self_of r = if r.has_key && is_function_kind r.kind then Some (r.parent, r.name) else None

-- where its own block begins
abbrev pub start_of : Routine → Local
start_of r = block_start r.owner (self_of r) (parameters_of r) r.block
