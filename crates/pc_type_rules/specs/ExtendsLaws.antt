-- What facts show, they show of a table that has more.
use Rattle.std.proofs.Common.{◌≡◌, ℕ, ◌<◌, List, [], ◌∷◌, ◌++◌, ◌+◌, Option, Some, None, get_or, length, option_map, refl, sym, ◌∙◌, ap, subst, arith, append_assoc, append-nil, length-append}
use Rattle.std.proofs.lemmas.List.{get_or_append_left}
use Rattle.std.specs.Option.{ForSome}
use Rattle.pc_types.specs.Shapes.{Owner, Shape, Domain, Definition, NoMembers, MembersType, Typed}
use Rattle.pc_types.specs.Table.{Table, numbered, shape_at, IsThere, nobody, definition_in}
use Rattle.pc_types.specs.Growth.{GrowsBy, AddsDomain}
use Rattle.pc_types.specs.declared.form.TypeId.{TypeId}
use Rattle.pc_types.specs.declared.form.Definition.{Definition as Written}
use Rattle.pc_types.specs.declared.operand.Operand.{Operand}
use Rattle.pc_types.specs.declared.operand.Operand.TheVariants as operand
use Rattle.pc_rules.specs.Meanings as rules
use Rattle.pc_rules.specs.Attributes as found
use Rattle.pc_facts.specs.Known.{Known}
use Rattle.pc_facts.specs.Shows.{ShowsType, ShowsConstant, ShowsValue, ShowsValues, ShowsFormals, ShowsSignature, ShowsSignatures, ShowsMeaning, ShowsFound, ShowsVariable, ShowsJudged, ShowsNode, ShowsName}
use Rattle.pc_facts.specs.declared.judged.Judged.{Judged}
use Rattle.pc_facts.specs.declared.sighting.Constant.{Constant}
use Rattle.pc_facts.specs.declared.sighting.Constant.TheVariants as constant
use Rattle.pc_facts.specs.declared.sighting.Value.{Value}
use Rattle.pc_facts.specs.declared.sighting.Declared.{Declared}
use Rattle.pc_facts.specs.declared.sighting.Sighting.{Sighting}
use Rattle.pc_facts.specs.declared.sighting.Sighting.TheVariants as sighting
use Rattle.pc_facts.specs.declared.sighting.Variable.{Variable}
use Rattle.pc_facts.specs.declared.sighting.Formal.{Formal}
use Rattle.pc_facts.specs.declared.sighting.Signature.{Signature}
use Rattle.pc_facts.specs.declared.sighting.SignatureId.{SignatureId}
use Rattle.pc_facts.specs.declared.facts.Facts.{Facts}
use Rattle.pc_facts.specs.declared.sighting.Named.{Named}
use Rattle.pc_type_rules.specs.Extends.{Extends}

-- ---- tables

pub Extends-same : (t : Table) → Extends t t
Extends-same t = record {
  more_shapes = [];
  shapes = sym (append-nil t.shapes);
  owners = refl;
  more_domains = [];
  domains = sym (append-nil t.domains);
}

pub ruleset unchanged = (Extends-same)

pub Extends-then : (a b c : Table) → Extends a b → Extends b c → Extends a c
Extends-then a b c f g = record {
  more_shapes = f.more_shapes ++ g.more_shapes;
  shapes = g.shapes ∙ ap (λ (s : List Shape). s ++ g.more_shapes) f.shapes ∙ append_assoc a.shapes f.more_shapes g.more_shapes;
  owners = g.owners ∙ f.owners;
  more_domains = f.more_domains ++ g.more_domains;
  domains = g.domains ∙ ap (λ (s : List Domain). s ++ g.more_domains) f.domains ∙ append_assoc a.domains f.more_domains g.more_domains;
}

pub Extends-grown : (a b : Table) (t : Shape) → GrowsBy a b t → Extends a b
Extends-grown a b t g = record {
  more_shapes = t ∷ [];
  shapes = g.shapes;
  owners = g.owners;
  more_domains = [];
  domains = g.domains ∙ sym (append-nil a.domains);
}

pub Extends-domain : (a b : Table) (d : Domain) → AddsDomain a b d → Extends a b
Extends-domain a b d g = record {
  more_shapes = [];
  shapes = g.shapes ∙ sym (append-nil a.shapes);
  owners = g.owners;
  more_domains = d ∷ [];
  domains = g.domains;
}

front-longer : {X : Type 0} → (xs ys zs : List X) (i : ℕ) → zs ≡ xs ++ ys → i < length xs → i < length zs
front-longer xs ys zs i e h = let n : length zs ≡ length xs + length ys = ap length e ∙ length-append xs ys in omega (arith, n, h)

front-at : {X : Type 0} → (xs ys zs : List X) (d : X) (i : ℕ) → zs ≡ xs ++ ys → i < length xs → get_or zs i d ≡ get_or xs i d
front-at xs ys zs d i e h = ap (λ v. get_or v i d) e ∙ get_or_append_left xs ys d i h

-- a type by its number
pub there-extends : (a b : Table) (i : TypeId) → Extends a b → i.0 < length a.shapes → i.0 < length b.shapes
there-extends a b i g h = front-longer a.shapes g.more_shapes b.shapes i.0 g.shapes h

pub numbered-extends : (a b : Table) (i : TypeId) → Extends a b → i.0 < length a.shapes → numbered b.shapes i ≡ numbered a.shapes i
numbered-extends a b i g h = front-at a.shapes g.more_shapes b.shapes NoMembers i.0 g.shapes h

-- an owner by its number
pub owner_there-extends : (a b : Table) (i : ℕ) → Extends a b → i < length a.owners → i < length b.owners
owner_there-extends a b i g h = subst (λ (os : List Owner). i < length os) (sym g.owners) h

pub owner-extends : (a b : Table) (i : ℕ) → Extends a b → i < length a.owners → get_or b.owners i nobody ≡ get_or a.owners i nobody
owner-extends a b i g h = ap (λ (os : List Owner). get_or os i nobody) g.owners

pub definition_in-extends : (a b : Table) (d : Written) → Extends a b → d.owner.0 < length a.owners → definition_in b.owners d ≡ definition_in a.owners d
definition_in-extends a b d g h =
    ap (λ (o : Owner). let e : Definition = record { owner = o; name = d.name; number = d.number; inside = d.inside } in e) (owner-extends a b d.owner.0 g h)

-- the type of an expression
pub IsThere-extends : (a b : Table) (x : Operand) → Extends a b → IsThere a x → IsThere b x
IsThere-extends a b (operand.Id i) g h = there-extends a b i g h
IsThere-extends a b (operand.Text n) g h = h
IsThere-extends a b (operand.Members i) g h = there-extends a b i g h
IsThere-extends a b operand.NoMembers g h = h

pub shape_at-extends : (a b : Table) (x : Operand) → Extends a b → IsThere a x → shape_at b x ≡ shape_at a x
shape_at-extends a b (operand.Id i) g h = numbered-extends a b i g h
shape_at-extends a b (operand.Text n) g h = refl
shape_at-extends a b (operand.Members i) g h = ap MembersType (numbered-extends a b i g h)
shape_at-extends a b operand.NoMembers g h = refl

-- ---- types and constants

pub ShowsType-extends : (a b : Table) (o : Option Operand) (ty : Option Typed) → Extends a b → ShowsType a o ty → ShowsType b o ty
ShowsType-extends a b None ty g h = record { shape = h.shape; there = λ y e. IsThere-extends a b y g (h.there y e) }
ShowsType-extends a b (Some x) ty g h = record { shape = ap Some (shape_at-extends a b x g (h.there x refl)) ∙ h.shape; there = λ y e. IsThere-extends a b y g (h.there y e) }

ShowsConstant-table : (k : Known) (t : Table) (c : Constant) (d : rules.Constant) → ShowsConstant k c d → ShowsConstant (record k { table = t }) c d
ShowsConstant-table k t (constant.Ordinal i) (rules.Ordinal j) h = h
ShowsConstant-table k t (constant.Chars c) (rules.Chars cs) h = h
ShowsConstant-table k t (constant.Ordinal i) (rules.Chars cs) h = h
ShowsConstant-table k t (constant.Chars c) (rules.Ordinal j) h = h

pub ShowsValue-extends : (k : Known) (t : Table) (v : Value) (w : rules.Value) → Extends k.table t → ShowsValue k v w → ShowsValue (record k { table = t }) v w
ShowsValue-extends k t v w g h = record {
  shape = shape_at-extends k.table t v.of g h.there ∙ h.shape;
  there = IsThere-extends k.table t v.of g h.there;
  constant = ShowsConstant-table k t v.constant w.constant h.constant;
}

pub ShowsValues-extends : (k : Known) (t : Table) (v : Option Value) (w : Option rules.Value) → Extends k.table t → ShowsValues k v w → ShowsValues (record k { table = t }) v w
ShowsValues-extends k t None None g h = h
ShowsValues-extends k t (Some v) (Some w) g h = ShowsValue-extends k t v w g h
ShowsValues-extends k t None (Some w) g h = h
ShowsValues-extends k t (Some v) None g h = h

-- ---- names

pub ShowsFormals-extends : (k : Known) (t : Table) (fs : List Formal) (gs : List rules.Formal) → Extends k.table t → ShowsFormals k fs gs → ShowsFormals (record k { table = t }) fs gs
ShowsFormals-extends k t [] [] g h = h
ShowsFormals-extends k t (f ∷ fs) (e ∷ es) g h =
    (h.0, h.1, numbered-extends k.table t f.of g h.3 ∙ h.2, there-extends k.table t f.of g h.3, ShowsFormals-extends k t fs es g h.4)
ShowsFormals-extends k t [] (e ∷ es) g h = h
ShowsFormals-extends k t (f ∷ fs) [] g h = h

ids-extend : (a b : Table) (o : Option TypeId) → Extends a b → ForSome o (λ i. i.0 < length a.shapes) → ForSome o (λ i. i.0 < length b.shapes)
ids-extend a b o g h = λ i e. there-extends a b i g (h i e)

shapes-extend : (a b : Table) (o : Option TypeId) → Extends a b → ForSome o (λ i. i.0 < length a.shapes) → option_map (numbered b.shapes) o ≡ option_map (numbered a.shapes) o
shapes-extend a b None g h = refl
shapes-extend a b (Some i) g h = ap Some (numbered-extends a b i g (h i refl))

pub ShowsSignature-extends : (k : Known) (t : Table) (s : Signature) (r : rules.Signature) → Extends k.table t → ShowsSignature k s r → ShowsSignature (record k { table = t }) s r
ShowsSignature-extends k t s r g h = record {
  formals = ShowsFormals-extends k t s.formals.items r.formals g h.formals;
  result = shapes-extend k.table t s.result g h.there ∙ h.result;
  there = ids-extend k.table t s.result g h.there;
}

pub ShowsSignatures-extends : (k : Known) (t : Table) (s : Option SignatureId) (r : Option rules.Signature) → Extends k.table t → ShowsSignatures k s r →
    ShowsSignatures (record k { table = t }) s r
ShowsSignatures-extends k t None None g h = h
ShowsSignatures-extends k t (Some i) (Some r) g h = (h.0, h.1, ShowsSignature-extends k t h.0 r g h.2)
ShowsSignatures-extends k t None (Some r) g h = h
ShowsSignatures-extends k t (Some i) None g h = h

pub ShowsMeaning-extends : (k : Known) (t : Table) (n : List ℕ) (d : Declared) (m : rules.Meaning) → Extends k.table t → ShowsMeaning k n d m → ShowsMeaning (record k { table = t }) n d m
ShowsMeaning-extends k t n d m g h = record {
  class = h.class;
  owner = owner-extends k.table t d.owner.0 g h.owner_there ∙ h.owner;
  owner_there = owner_there-extends k.table t d.owner.0 g h.owner_there;
  name = h.name;
  value = ShowsValues-extends k t d.value m.value g h.value;
  type = ShowsType-extends k.table t d.of m.type g h.type;
  signature = ShowsSignatures-extends k t d.signature m.signature g h.signature;
}

pub ShowsFound-extends : (k : Known) (t : Table) (n : List ℕ) (s : Sighting) (f : rules.Found) → Extends k.table t → ShowsFound k n s f → ShowsFound (record k { table = t }) n s f
ShowsFound-extends k t n (sighting.Here d) (rules.Here m) g h = ShowsMeaning-extends k t n d m g h
ShowsFound-extends k t n (sighting.Here d) (rules.Later c) g h = h
ShowsFound-extends k t n (sighting.Here d) (rules.Component x p) g h = h
ShowsFound-extends k t n (sighting.Here d) (rules.Required r) g h = h
ShowsFound-extends k t n (sighting.Here d) rules.Missing g h = h
ShowsFound-extends k t n (sighting.Later c) (rules.Here m) g h = h
ShowsFound-extends k t n (sighting.Later c) (rules.Later x) g h = h
ShowsFound-extends k t n (sighting.Later c) (rules.Component x p) g h = h
ShowsFound-extends k t n (sighting.Later c) (rules.Required r) g h = h
ShowsFound-extends k t n (sighting.Later c) rules.Missing g h = h
ShowsFound-extends k t n (sighting.Component o p) (rules.Here m) g h = h
ShowsFound-extends k t n (sighting.Component o p) (rules.Later x) g h = h
ShowsFound-extends k t n (sighting.Component o p) (rules.Component x q) g h = (ShowsType-extends k.table t (Some o) (Some x) g h.0, h.1)
ShowsFound-extends k t n (sighting.Component o p) (rules.Required r) g h = h
ShowsFound-extends k t n (sighting.Component o p) rules.Missing g h = h
ShowsFound-extends k t n (sighting.Required b) (rules.Here m) g h = h
ShowsFound-extends k t n (sighting.Required b) (rules.Later x) g h = h
ShowsFound-extends k t n (sighting.Required b) (rules.Component x p) g h = h
ShowsFound-extends k t n (sighting.Required b) (rules.Required r) g h = h
ShowsFound-extends k t n (sighting.Required b) rules.Missing g h = h
ShowsFound-extends k t n sighting.Missing (rules.Here m) g h = h
ShowsFound-extends k t n sighting.Missing (rules.Later x) g h = h
ShowsFound-extends k t n sighting.Missing (rules.Component x p) g h = h
ShowsFound-extends k t n sighting.Missing (rules.Required r) g h = h
ShowsFound-extends k t n sighting.Missing rules.Missing g h = h

pub ShowsVariable-extends : (k : Known) (t : Table) (v : Option Variable) (ws : List (Owner × List ℕ)) → Extends k.table t → ShowsVariable k v ws → ShowsVariable (record k { table = t }) v ws
ShowsVariable-extends k t None [] g h = h
ShowsVariable-extends k t None (w ∷ ws) g h = h
ShowsVariable-extends k t (Some v) [] g h = h
ShowsVariable-extends k t (Some v) (w ∷ []) g h = (owner-extends k.table t v.owner.0 g h.1 ∙ h.0, owner_there-extends k.table t v.owner.0 g h.1, h.2)
ShowsVariable-extends k t (Some v) (w ∷ x ∷ ws) g h = h

-- ---- nodes

pub ShowsJudged-extends : (a b : Table) (j : Judged) (s : found.Judged) → Extends a b → ShowsJudged a j s → ShowsJudged b j s
ShowsJudged-extends a b j s g h = record { entries = h.entries; type = ShowsType-extends a b j.of s.type g h.type }

pub ShowsNode-extends : (k : Known) (t : Table) (f : Facts) (a : found.Attributes) → Extends k.table t → ShowsNode k f a → ShowsNode (record k { table = t }) f a
ShowsNode-extends k t f a g h = record {
  kind = h.kind;
  hole = h.hole;
  value = ShowsJudged-extends k.table t _ a.as_value g h.value;
  place = ShowsJudged-extends k.table t _ a.as_place g h.place;
  target = ShowsJudged-extends k.table t _ a.as_target g h.target;
  constant = ShowsValues-extends k t f.constant a.constant g h.constant;
  variable = ShowsVariable-extends k t f.variable a.variable g h.variable;
  packed_part = h.packed_part;
}

pub ShowsName-extends : (k : Known) (t : Table) (n : Named) (a : found.Attributes) → Extends k.table t → ShowsName k n a → ShowsName (record k { table = t }) n a
ShowsName-extends k t n a g h = record {
  hole = h.hole;
  is_hole = h.is_hole;
  found = ShowsFound-extends k t _ n.sighting a.found g h.found;
}
