-- When facts by numbers are what the rules find at a node.
use Rattle.std.specs.Prelude.{◌≡◌, ℕ, ◌<◌, Bool, true, false, List, [], ◌∷◌, Option, Some, None, option_map, slice_get, get_or, length}
use Rattle.std.specs.Option.{ForSome}
use Rattle.pc_syntax.specs.Words.{lowered}
use Rattle.pc_syntax.specs.Sorts.{is_hole}
use Rattle.pc_scope.specs.Spelled.{spelling}
use Rattle.pc_types.specs.Shapes.{Owner, Shape, Typed}
use Rattle.pc_types.specs.Table.{Table, shape_at, nobody, IsThere, numbered}
use Rattle.pc_types.specs.declared.operand.Operand.{Operand}
use Rattle.pc_types.specs.declared.form.TypeId.{TypeId}
use Rattle.pc_names.specs.Standing.{meant}
use Rattle.pc_rules.specs.Meanings as rules
use Rattle.pc_rules.specs.Attributes as found
use Rattle.pc_rules.specs.Arguments.{is_width}
use Rattle.pc_rules.specs.RequiredFunctions.{is_reference}
use Rattle.pc_rules.specs.SetConstructors.{is_span}
use Rattle.pc_rules.specs.CaseStatements.{labels_of}
use Rattle.pc_facts.specs.Known.{Known}
use Rattle.pc_facts.specs.declared.judged.Judged.{Judged}
use Rattle.pc_facts.specs.declared.judged.Judgement.{Judgement}
use Rattle.pc_facts.specs.declared.judged.Judgement.TheVariants.{Same, ByUse}
use Rattle.pc_facts.specs.declared.sighting.Constant.{Constant}
use Rattle.pc_facts.specs.declared.sighting.Constant.TheVariants as constant
use Rattle.pc_facts.specs.declared.sighting.Value.{Value}
use Rattle.pc_facts.specs.declared.sighting.Declared.{Declared}
use Rattle.pc_facts.specs.declared.sighting.Sighting.{Sighting}
use Rattle.pc_facts.specs.declared.sighting.Sighting.TheVariants as sighting
use Rattle.pc_facts.specs.declared.sighting.Variable.{Variable}
use Rattle.pc_facts.specs.declared.sighting.Formal.{Formal}
use Rattle.pc_facts.specs.declared.sighting.Signature.{Signature}
use Rattle.pc_facts.specs.declared.sighting.SignatureId.{SignatureId}
use Rattle.pc_facts.specs.declared.facts.Facts.{Facts}
use Rattle.pc_facts.specs.declared.facts.Argument.{Argument}
use Rattle.pc_facts.specs.declared.facts.Arm.{Arm}
use Rattle.pc_facts.specs.declared.facts.Member.{Member}
use Rattle.pc_facts.specs.declared.facts.Member.TheVariants as member
use Rattle.pc_facts.specs.declared.sighting.Named.{Named}

-- ---- types and constants

-- the shape of a type, if it is known
abbrev pub shape_of : Option Typed → Option Shape
shape_of t = option_map (λ (x : Typed). x.shape) t

-- a type by its number is this one; what is reached from it through pointers is left open
pub record ShowsType (t : Table) (o : Option Operand) (ty : Option Typed) : Type 0 where
  pub shape : option_map (shape_at t) o ≡ shape_of ty
  pub there : ForSome o (IsThere t)

-- a constant
abbrev pub ShowsConstant : Known → Constant → rules.Constant → Type 0
ShowsConstant k (constant.Ordinal i) (rules.Ordinal j) = i ≡ j
ShowsConstant k (constant.Chars c) (rules.Chars cs) = slice_get k.texts c.0 ≡ Some cs
ShowsConstant k _ _ = ⊥

-- a constant with its type
pub record ShowsValue (k : Known) (v : Value) (w : rules.Value) : Type 0 where
  pub shape : shape_at k.table v.of ≡ w.type
  pub there : IsThere k.table v.of
  pub constant : ShowsConstant k v.constant w.constant

-- the same where there may be none
abbrev pub ShowsValues : Known → Option Value → Option rules.Value → Type 0
ShowsValues k None None = Unit {0}
ShowsValues k (Some v) (Some w) = ShowsValue k v w
ShowsValues k _ _ = ⊥

-- ---- names

-- formal parameters
abbrev pub ShowsFormals : Known → List Formal → List rules.Formal → Type 0
ShowsFormals k [] [] = Unit {0}
ShowsFormals k (f ∷ fs) (g ∷ gs) =
    (slice_get k.names f.name.0 ≡ Some g.name) × (f.by_place ≡ g.by_place) × (numbered k.table.shapes f.of ≡ g.type.shape) × (f.of.0 < length k.table.shapes) × ShowsFormals k fs gs
ShowsFormals k _ _ = ⊥

-- a signature
pub record ShowsSignature (k : Known) (s : Signature) (r : rules.Signature) : Type 0 where
  pub formals : ShowsFormals k s.formals.items r.formals
  pub result : option_map (numbered k.table.shapes) s.result ≡ shape_of r.result
  pub there : ForSome s.result (λ i. i.0 < length k.table.shapes)

-- a signature by its number, where there may be none
abbrev pub ShowsSignatures : Known → Option SignatureId → Option rules.Signature → Type 0
ShowsSignatures k None None = Unit {0}
ShowsSignatures k (Some i) (Some r) = (s : Signature) × (slice_get k.signatures i.0 ≡ Some s) × ShowsSignature k s r
ShowsSignatures k _ _ = ⊥

-- a declaration of this name
pub record ShowsMeaning (k : Known) (n : List ℕ) (d : Declared) (m : rules.Meaning) : Type 0 where
  pub class : meant d.class ≡ m.class
  pub owner : get_or k.table.owners d.owner.0 nobody ≡ m.owner
  pub owner_there : d.owner.0 < length k.table.owners
  pub name : slice_get k.names d.name.0 ≡ Some n
  pub value : ShowsValues k d.value m.value
  pub type : ShowsType k.table d.of m.type
  pub signature : ShowsSignatures k d.signature m.signature

-- what a used name, in small letters, means
abbrev pub ShowsFound : Known → List ℕ → Sighting → rules.Found → Type 0
ShowsFound k n (sighting.Here d) (rules.Here m) = ShowsMeaning k n d m
ShowsFound k n (sighting.Later c) (rules.Later x) = meant c ≡ x
ShowsFound k n (sighting.Component o p) (rules.Component t q) = ShowsType k.table (Some o) (Some t) × (p ≡ q)
ShowsFound k n (sighting.Required b) (rules.Required r) = spelling b ≡ r
ShowsFound k n sighting.Missing rules.Missing = Unit {0}
ShowsFound k n _ _ = ⊥

-- a variable that a node names as a whole; the rules have a list of at most one
abbrev pub ShowsVariable : Known → Option Variable → List (Owner × List ℕ) → Type 0
ShowsVariable k None [] = Unit {0}
ShowsVariable k (Some v) (w ∷ []) =
    (get_or k.table.owners v.owner.0 nobody ≡ w.0) × (v.owner.0 < length k.table.owners) × (slice_get k.names v.name.0 ≡ Some w.1)
ShowsVariable k _ _ = ⊥

-- ---- nodes

-- a judgement
pub record ShowsJudged (t : Table) (j : Judged) (s : found.Judged) : Type 0 where
  pub entries : j.entries.items ≡ s.entries
  pub type : ShowsType t j.of s.type

-- a node's judgement where a value is needed, where a variable is, and where it is a target
abbrev pub value_of : Judgement → Judged
value_of (Same j) = j
value_of (ByUse v p g) = v

abbrev pub place_of : Judgement → Judged
place_of (Same j) = j
place_of (ByUse v p g) = p

abbrev pub target_of : Judgement → Judged
target_of (Same j) = j
target_of (ByUse v p g) = g

-- a node that is no name
pub record ShowsNode (k : Known) (f : Facts) (a : found.Attributes) : Type 0 where
  pub kind : f.kind ≡ a.kind
  pub hole : f.hole ≡ a.hole
  pub value : ShowsJudged k.table (value_of f.judgement) a.as_value
  pub place : ShowsJudged k.table (place_of f.judgement) a.as_place
  pub target : ShowsJudged k.table (target_of f.judgement) a.as_target
  pub constant : ShowsValues k f.constant a.constant
  pub variable : ShowsVariable k f.variable a.variable
  pub packed_part : f.packed_part ≡ a.packed_part

-- a used name, or a hole in its place
pub record ShowsName (k : Known) (n : Named) (a : found.Attributes) : Type 0 where
  pub hole : n.hole ≡ is_hole a.kind
  pub is_hole : a.hole ≡ is_hole a.kind
  pub found : ShowsFound k (lowered a.word) n.sighting a.found

-- an argument of a call: of a name alone also what the name means, and of a value with a width the types of both
pub record ShowsArgument (k : Known) (g : Argument) (n : found.Node) : Type 0 where
  pub at : ShowsNode k g.at n.at
  pub name : is_reference n.at.kind ≡ true → ShowsFound k (lowered (found.first_below n).at.word) g.name (found.first_below n).at.found
  pub first : is_width n.at.kind ≡ true → ShowsType k.table g.first (found.first_below n).at.as_value.type
  pub second : is_width n.at.kind ≡ true → ShowsType k.table g.second (found.second_below n).at.as_value.type

-- a member of a set constructor
abbrev pub ShowsMember : Known → Member → found.Node → Type 0
ShowsMember k (member.One f) n = (is_span n.at.kind ≡ false) × ShowsNode k f n.at
ShowsMember k (member.Span f g) n = (is_span n.at.kind ≡ true) × ShowsNode k f (found.first_below n).at × ShowsNode k g (found.second_below n).at

-- the values of labels, where they have one
abbrev pub ShowsLabels : Known → List (Option Value) → List found.Node → Type 0
ShowsLabels k [] [] = Unit {0}
ShowsLabels k (v ∷ vs) (n ∷ ns) = ShowsValues k v n.at.constant × ShowsLabels k vs ns
ShowsLabels k _ _ = ⊥

-- an arm of a case statement, with the values of its labels
pub record ShowsArm (k : Known) (g : Arm) (n : found.Node) : Type 0 where
  pub at : ShowsNode k g.at n.at
  pub labels : ShowsLabels k g.labels.items (labels_of n)

-- nodes in a row, each by this relation
abbrev pub AllShow : {X : Type 0} → (X → found.Node → Type 0) → List X → List found.Node → Type 0
AllShow shows [] [] = Unit {0}
AllShow shows (f ∷ fs) (n ∷ ns) = shows f n × AllShow shows fs ns
AllShow shows _ _ = ⊥
