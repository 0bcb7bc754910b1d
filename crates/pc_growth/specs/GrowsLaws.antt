-- What facts show by numbers, they show when more is numbered.
use Rattle.std.proofs.Common.{◌≡◌, ℕ, ◌<◌, ◌≤◌, List, [], ◌∷◌, ◌++◌, ◌+◌, Option, Some, None, get_or, slice_get, length, option_map, refl, sym, ◌∙◌, ap, arith, append_assoc, append-nil, length-append}
use Rattle.std.proofs.lemmas.List.{get_or_append_left}
use Rattle.std.proofs.lemmas.Option.{slice_get_within, get_or_from_slice_get, slice_get-get_or}
use Rattle.std.specs.Option.{ForSome}
use Rattle.pc_types.specs.Shapes.{Owner, Shape, NoMembers, MembersType, Typed}
use Rattle.pc_types.specs.Table.{Table, numbered, shape_at, IsThere, nobody}
use Rattle.pc_types.specs.declared.form.TypeId.{TypeId}
use Rattle.pc_types.specs.declared.operand.Operand.{Operand}
use Rattle.pc_types.specs.declared.operand.Operand.TheVariants as operand
use Rattle.pc_rules.specs.Meanings as rules
use Rattle.pc_rules.specs.Attributes as found
use Rattle.pc_rules.specs.CaseStatements.{labels_of}
use Rattle.pc_facts.specs.Known.{Known}
use Rattle.pc_facts.specs.Shows.{ShowsType, ShowsConstant, ShowsValue, ShowsValues, ShowsFormals, ShowsSignature, ShowsSignatures, ShowsMeaning, ShowsFound, ShowsVariable, ShowsJudged, ShowsNode, ShowsName, ShowsArgument, ShowsMember, ShowsLabels, ShowsArm, AllShow}
use Rattle.pc_facts.specs.declared.judged.Judged.{Judged}
use Rattle.pc_facts.specs.declared.sighting.Constant.{Constant}
use Rattle.pc_facts.specs.declared.sighting.Constant.TheVariants as constant
use Rattle.pc_facts.specs.declared.sighting.Value.{Value}
use Rattle.pc_facts.specs.declared.sighting.Declared.{Declared}
use Rattle.pc_facts.specs.declared.sighting.Sighting.{Sighting}
use Rattle.pc_facts.specs.declared.sighting.Sighting.TheVariants as sighting
use Rattle.pc_facts.specs.declared.sighting.Variable.{Variable}
use Rattle.pc_facts.specs.declared.sighting.Formal.{Formal}
use Rattle.pc_facts.specs.declared.sighting.Signature.{Signature}
use Rattle.pc_facts.specs.declared.sighting.SignatureId.{SignatureId}
use Rattle.pc_facts.specs.declared.sighting.Named.{Named}
use Rattle.pc_facts.specs.declared.facts.Facts.{Facts}
use Rattle.pc_facts.specs.declared.facts.Argument.{Argument}
use Rattle.pc_facts.specs.declared.facts.Arm.{Arm}
use Rattle.pc_facts.specs.declared.facts.Member.{Member}
use Rattle.pc_facts.specs.declared.facts.Member.TheVariants as member
use Rattle.pc_type_rules.specs.Extends.{Extends}
use Rattle.pc_call_rules.specs.Parameters.{ShowsRoutine, ShowsVariables, Logs}
use Rattle.pc_growth.specs.Grows.{Begins, Grows}

-- ---- lists

pub Begins-same : {X : Type 0} (xs : List X) → Begins xs xs
Begins-same xs = record { more = []; is = sym (append-nil xs) }

pub Begins-append : {X : Type 0} (xs ys : List X) → Begins xs (xs ++ ys)
Begins-append xs ys = record { more = ys; is = refl }

pub Begins-then : {X : Type 0} (a b c : List X) → Begins a b → Begins b c → Begins a c
Begins-then {X = X} a b c f g = record {
  more = f.more ++ g.more;
  is = g.is ∙ ap (λ (s : List X). s ++ g.more) f.is ∙ append_assoc a f.more g.more;
}

pub length-begins : {X : Type 0} (a b : List X) → Begins a b → length a ≤ length b
length-begins a b g = let n : length b ≡ length a + length g.more = ap length g.is ∙ length-append a g.more in omega (arith, n)

pub less-begins : {X : Type 0} (a b : List X) (i : ℕ) → Begins a b → i < length a → i < length b
less-begins a b i g h = let n = length-begins a b g in omega (arith, n, h)

pub get_or-begins : {X : Type 0} (a b : List X) (i : ℕ) (d : X) → Begins a b → i < length a → get_or b i d ≡ get_or a i d
get_or-begins {X = X} a b i d g h = ap (λ (v : List X). get_or v i d) g.is ∙ get_or_append_left a g.more d i h

pub slice_get-begins : {X : Type 0} (a b : List X) (i : ℕ) (x : X) → Begins a b → slice_get a i ≡ Some x → slice_get b i ≡ Some x
slice_get-begins a b i x g e =
    let h = slice_get_within a i x e in
    slice_get-get_or b i x (less-begins a b i g h) ∙ ap Some (get_or-begins a b i x g h ∙ get_or_from_slice_get a i x x e)

-- ---- all numbers together

pub Grows-same : (k : Known) → Grows k k
Grows-same k = record {
  shapes = Begins-same k.table.shapes;
  owners = Begins-same k.table.owners;
  names = Begins-same k.names;
  texts = Begins-same k.texts;
  signatures = Begins-same k.signatures;
}

pub Grows-then : (a b c : Known) → Grows a b → Grows b c → Grows a c
Grows-then a b c f g = record {
  shapes = Begins-then a.table.shapes b.table.shapes c.table.shapes f.shapes g.shapes;
  owners = Begins-then a.table.owners b.table.owners c.table.owners f.owners g.owners;
  names = Begins-then a.names b.names c.names f.names g.names;
  texts = Begins-then a.texts b.texts c.texts f.texts g.texts;
  signatures = Begins-then a.signatures b.signatures c.signatures f.signatures g.signatures;
}

pub Grows-texts : (k : Known) (ts : List (List ℕ)) → Begins k.texts ts → Grows k (record k { texts = ts })
Grows-texts k ts g = record {
  shapes = Begins-same k.table.shapes;
  owners = Begins-same k.table.owners;
  names = Begins-same k.names;
  texts = g;
  signatures = Begins-same k.signatures;
}

pub Grows-extends : (k : Known) (t : Table) → Extends k.table t → Grows k (record k { table = t })
Grows-extends k t g = record {
  shapes = record { more = g.more_shapes; is = g.shapes };
  owners = record { more = []; is = g.owners ∙ sym (append-nil k.table.owners) };
  names = Begins-same k.names;
  texts = Begins-same k.texts;
  signatures = Begins-same k.signatures;
}

-- ---- types and constants

pub IsThere-begins : (a b : Table) (x : Operand) → Begins a.shapes b.shapes → IsThere a x → IsThere b x
IsThere-begins a b (operand.Id i) g h = less-begins a.shapes b.shapes i.0 g h
IsThere-begins a b (operand.Text n) g h = h
IsThere-begins a b (operand.Members i) g h = less-begins a.shapes b.shapes i.0 g h
IsThere-begins a b operand.NoMembers g h = h

pub numbered-begins : (a b : List Shape) (i : TypeId) → Begins a b → i.0 < length a → numbered b i ≡ numbered a i
numbered-begins a b i g h = get_or-begins a b i.0 NoMembers g h

pub shape_at-begins : (a b : Table) (x : Operand) → Begins a.shapes b.shapes → IsThere a x → shape_at b x ≡ shape_at a x
shape_at-begins a b (operand.Id i) g h = numbered-begins a.shapes b.shapes i g h
shape_at-begins a b (operand.Text n) g h = refl
shape_at-begins a b (operand.Members i) g h = ap MembersType (numbered-begins a.shapes b.shapes i g h)
shape_at-begins a b operand.NoMembers g h = refl

pub ShowsType-grows : (a b : Table) (o : Option Operand) (ty : Option Typed) → Begins a.shapes b.shapes → Begins a.owners b.owners → ShowsType a o ty → ShowsType b o ty
ShowsType-grows a b None ty g w h = record { shape = h.shape; there = λ y e. IsThere-begins a b y g (h.there y e) }
ShowsType-grows a b (Some x) ty g w h = record { shape = ap Some (shape_at-begins a b x g (h.there x refl)) ∙ h.shape; there = λ y e. IsThere-begins a b y g (h.there y e) }

pub ShowsConstant-grows : (a b : Known) (c : Constant) (d : rules.Constant) → Grows a b → ShowsConstant a c d → ShowsConstant b c d
ShowsConstant-grows a b (constant.Ordinal i) (rules.Ordinal j) g h = h
ShowsConstant-grows a b (constant.Chars c) (rules.Chars cs) g h = slice_get-begins a.texts b.texts c.0 cs g.texts h
ShowsConstant-grows a b (constant.Ordinal i) (rules.Chars cs) g h = h
ShowsConstant-grows a b (constant.Chars c) (rules.Ordinal j) g h = h

pub ShowsValue-grows : (a b : Known) (v : Value) (w : rules.Value) → Grows a b → ShowsValue a v w → ShowsValue b v w
ShowsValue-grows a b v w g h = record {
  shape = shape_at-begins a.table b.table v.of g.shapes h.there ∙ h.shape;
  there = IsThere-begins a.table b.table v.of g.shapes h.there;
  constant = ShowsConstant-grows a b v.constant w.constant g h.constant;
}

pub ShowsValues-grows : (a b : Known) (v : Option Value) (w : Option rules.Value) → Grows a b → ShowsValues a v w → ShowsValues b v w
ShowsValues-grows a b None None g h = h
ShowsValues-grows a b (Some v) (Some w) g h = ShowsValue-grows a b v w g h
ShowsValues-grows a b None (Some w) g h = h
ShowsValues-grows a b (Some v) None g h = h

-- ---- names

pub ShowsFormals-grows : (a b : Known) (fs : List Formal) (gs : List rules.Formal) → Grows a b → ShowsFormals a fs gs → ShowsFormals b fs gs
ShowsFormals-grows a b [] [] g h = h
ShowsFormals-grows a b (f ∷ fs) (e ∷ es) g h = (
  slice_get-begins a.names b.names f.name.0 e.name g.names h.0,
  h.1,
  numbered-begins a.table.shapes b.table.shapes f.of g.shapes h.3 ∙ h.2,
  less-begins a.table.shapes b.table.shapes f.of.0 g.shapes h.3,
  ShowsFormals-grows a b fs es g h.4,
)
ShowsFormals-grows a b [] (e ∷ es) g h = h
ShowsFormals-grows a b (f ∷ fs) [] g h = h

shapes-grow : (a b : List Shape) (o : Option TypeId) → Begins a b → ForSome o (λ i. i.0 < length a) → option_map (numbered b) o ≡ option_map (numbered a) o
shapes-grow a b None g h = refl
shapes-grow a b (Some i) g h = ap Some (numbered-begins a b i g (h i refl))

pub ShowsSignature-grows : (a b : Known) (s : Signature) (r : rules.Signature) → Grows a b → ShowsSignature a s r → ShowsSignature b s r
ShowsSignature-grows a b s r g h = record {
  formals = ShowsFormals-grows a b s.formals.items r.formals g h.formals;
  result = shapes-grow a.table.shapes b.table.shapes s.result g.shapes h.there ∙ h.result;
  there = λ i e. less-begins a.table.shapes b.table.shapes i.0 g.shapes (h.there i e);
}

pub ShowsSignatures-grows : (a b : Known) (s : Option SignatureId) (r : Option rules.Signature) → Grows a b → ShowsSignatures a s r → ShowsSignatures b s r
ShowsSignatures-grows a b None None g h = h
ShowsSignatures-grows a b (Some i) (Some r) g h = (h.0, slice_get-begins a.signatures b.signatures i.0 h.0 g.signatures h.1, ShowsSignature-grows a b h.0 r g h.2)
ShowsSignatures-grows a b None (Some r) g h = h
ShowsSignatures-grows a b (Some i) None g h = h

pub ShowsRoutine-grows : (a b : Known) (s : Option Signature) (r : Option rules.Signature) → Grows a b → ShowsRoutine a s r → ShowsRoutine b s r
ShowsRoutine-grows a b None None g h = h
ShowsRoutine-grows a b (Some s) (Some r) g h = ShowsSignature-grows a b s r g h
ShowsRoutine-grows a b None (Some r) g h = h
ShowsRoutine-grows a b (Some s) None g h = h

pub ShowsMeaning-grows : (a b : Known) (n : List ℕ) (d : Declared) (m : rules.Meaning) → Grows a b → ShowsMeaning a n d m → ShowsMeaning b n d m
ShowsMeaning-grows a b n d m g h = record {
  class = h.class;
  owner = get_or-begins a.table.owners b.table.owners d.owner.0 nobody g.owners h.owner_there ∙ h.owner;
  owner_there = less-begins a.table.owners b.table.owners d.owner.0 g.owners h.owner_there;
  name = slice_get-begins a.names b.names d.name.0 n g.names h.name;
  value = ShowsValues-grows a b d.value m.value g h.value;
  type = ShowsType-grows a.table b.table d.of m.type g.shapes g.owners h.type;
  signature = ShowsSignatures-grows a b d.signature m.signature g h.signature;
}

pub ShowsFound-grows : (a b : Known) (n : List ℕ) (s : Sighting) (f : rules.Found) → Grows a b → ShowsFound a n s f → ShowsFound b n s f
ShowsFound-grows a b n (sighting.Here d) (rules.Here m) g h = ShowsMeaning-grows a b n d m g h
ShowsFound-grows a b n (sighting.Here d) (rules.Later c) g h = h
ShowsFound-grows a b n (sighting.Here d) (rules.Component x p) g h = h
ShowsFound-grows a b n (sighting.Here d) (rules.Required r) g h = h
ShowsFound-grows a b n (sighting.Here d) rules.Missing g h = h
ShowsFound-grows a b n (sighting.Later c) (rules.Here m) g h = h
ShowsFound-grows a b n (sighting.Later c) (rules.Later x) g h = h
ShowsFound-grows a b n (sighting.Later c) (rules.Component x p) g h = h
ShowsFound-grows a b n (sighting.Later c) (rules.Required r) g h = h
ShowsFound-grows a b n (sighting.Later c) rules.Missing g h = h
ShowsFound-grows a b n (sighting.Component o p) (rules.Here m) g h = h
ShowsFound-grows a b n (sighting.Component o p) (rules.Later x) g h = h
ShowsFound-grows a b n (sighting.Component o p) (rules.Component x q) g h = (ShowsType-grows a.table b.table (Some o) (Some x) g.shapes g.owners h.0, h.1)
ShowsFound-grows a b n (sighting.Component o p) (rules.Required r) g h = h
ShowsFound-grows a b n (sighting.Component o p) rules.Missing g h = h
ShowsFound-grows a b n (sighting.Required c) (rules.Here m) g h = h
ShowsFound-grows a b n (sighting.Required c) (rules.Later x) g h = h
ShowsFound-grows a b n (sighting.Required c) (rules.Component x p) g h = h
ShowsFound-grows a b n (sighting.Required c) (rules.Required r) g h = h
ShowsFound-grows a b n (sighting.Required c) rules.Missing g h = h
ShowsFound-grows a b n sighting.Missing (rules.Here m) g h = h
ShowsFound-grows a b n sighting.Missing (rules.Later x) g h = h
ShowsFound-grows a b n sighting.Missing (rules.Component x p) g h = h
ShowsFound-grows a b n sighting.Missing (rules.Required r) g h = h
ShowsFound-grows a b n sighting.Missing rules.Missing g h = h

pub ShowsVariable-grows : (a b : Known) (v : Option Variable) (ws : List (Owner × List ℕ)) → Grows a b → ShowsVariable a v ws → ShowsVariable b v ws
ShowsVariable-grows a b None [] g h = h
ShowsVariable-grows a b None (w ∷ ws) g h = h
ShowsVariable-grows a b (Some v) [] g h = h
ShowsVariable-grows a b (Some v) (w ∷ []) g h = (
  get_or-begins a.table.owners b.table.owners v.owner.0 nobody g.owners h.1 ∙ h.0,
  less-begins a.table.owners b.table.owners v.owner.0 g.owners h.1,
  slice_get-begins a.names b.names v.name.0 w.1 g.names h.2,
)
ShowsVariable-grows a b (Some v) (w ∷ x ∷ ws) g h = h

-- ---- nodes

pub ShowsJudged-grows : (a b : Table) (j : Judged) (s : found.Judged) → Begins a.shapes b.shapes → Begins a.owners b.owners → ShowsJudged a j s → ShowsJudged b j s
ShowsJudged-grows a b j s g w h = record { entries = h.entries; type = ShowsType-grows a b j.of s.type g w h.type }

pub ShowsNode-grows : (a b : Known) (f : Facts) (n : found.Attributes) → Grows a b → ShowsNode a f n → ShowsNode b f n
ShowsNode-grows a b f n g h = record {
  kind = h.kind;
  hole = h.hole;
  value = ShowsJudged-grows a.table b.table _ n.as_value g.shapes g.owners h.value;
  place = ShowsJudged-grows a.table b.table _ n.as_place g.shapes g.owners h.place;
  target = ShowsJudged-grows a.table b.table _ n.as_target g.shapes g.owners h.target;
  constant = ShowsValues-grows a b f.constant n.constant g h.constant;
  variable = ShowsVariable-grows a b f.variable n.variable g h.variable;
  packed_part = h.packed_part;
}

pub ShowsName-grows : (a b : Known) (n : Named) (t : found.Attributes) → Grows a b → ShowsName a n t → ShowsName b n t
ShowsName-grows a b n t g h = record {
  hole = h.hole;
  is_hole = h.is_hole;
  found = ShowsFound-grows a b _ n.sighting t.found g h.found;
}

pub ShowsArgument-grows : (a b : Known) (x : Argument) (n : found.Node) → Grows a b → ShowsArgument a x n → ShowsArgument b x n
ShowsArgument-grows a b x n g h = record {
  at = ShowsNode-grows a b x.at n.at g h.at;
  name = λ e. ShowsFound-grows a b _ x.name _ g (h.name e);
  first = λ e. ShowsType-grows a.table b.table x.first _ g.shapes g.owners (h.first e);
  second = λ e. ShowsType-grows a.table b.table x.second _ g.shapes g.owners (h.second e);
}

pub ShowsMember-grows : (a b : Known) (x : Member) (n : found.Node) → Grows a b → ShowsMember a x n → ShowsMember b x n
ShowsMember-grows a b (member.One f) n g h = (h.0, ShowsNode-grows a b f _ g h.1)
ShowsMember-grows a b (member.Span f e) n g h = (h.0, ShowsNode-grows a b f _ g h.1, ShowsNode-grows a b e _ g h.2)

pub ShowsLabels-grows : (a b : Known) (vs : List (Option Value)) (ns : List found.Node) → Grows a b → ShowsLabels a vs ns → ShowsLabels b vs ns
ShowsLabels-grows a b [] [] g h = h
ShowsLabels-grows a b (v ∷ vs) (n ∷ ns) g h = (ShowsValues-grows a b v n.at.constant g h.0, ShowsLabels-grows a b vs ns g h.1)
ShowsLabels-grows a b [] (n ∷ ns) g h = h
ShowsLabels-grows a b (v ∷ vs) [] g h = h

pub ShowsArm-grows : (a b : Known) (x : Arm) (n : found.Node) → Grows a b → ShowsArm a x n → ShowsArm b x n
ShowsArm-grows a b x n g h = record {
  at = ShowsNode-grows a b x.at n.at g h.at;
  labels = ShowsLabels-grows a b x.labels.items (labels_of n) g h.labels;
}

pub AllShow-with : {X : Type 0} (S T : X → found.Node → Type 0) → ((x : X) (n : found.Node) → S x n → T x n) → (xs : List X) (ns : List found.Node) → AllShow S xs ns → AllShow T xs ns
AllShow-with S T each [] [] h = h
AllShow-with S T each (x ∷ xs) (n ∷ ns) h = (each x n h.0, AllShow-with S T each xs ns h.1)
AllShow-with S T each [] (n ∷ ns) h = h
AllShow-with S T each (x ∷ xs) [] h = h

-- ---- variables in a row

pub ShowsVariables-grows : (a b : Known) (vs : List Variable) (ws : List (Owner × List ℕ)) → Grows a b → ShowsVariables a vs ws → ShowsVariables b vs ws
ShowsVariables-grows a b [] [] g h = h
ShowsVariables-grows a b (v ∷ vs) (w ∷ ws) g h = (ShowsVariable-grows a b (Some v) (w ∷ []) g h.0, ShowsVariables-grows a b vs ws g h.1)
ShowsVariables-grows a b [] (w ∷ ws) g h = h
ShowsVariables-grows a b (v ∷ vs) [] g h = h

pub ShowsVariables-then : (k : Known) (xs : List Variable) (ws : List (Owner × List ℕ)) (ys : List Variable) (vs : List (Owner × List ℕ)) → ShowsVariables k xs ws → ShowsVariables k ys vs → ShowsVariables k (xs ++ ys) (ws ++ vs)
ShowsVariables-then k [] [] ys vs h g = g
ShowsVariables-then k (x ∷ xs) (w ∷ ws) ys vs h g = (h.0, ShowsVariables-then k xs ws ys vs h.1 g)
ShowsVariables-then k [] (w ∷ ws) ys vs h g = absurd h
ShowsVariables-then k (x ∷ xs) [] ys vs h g = absurd h

pub Logs-none : (k : Known) (xs : List Variable) → Logs k xs xs []
Logs-none k xs = ([], sym (append-nil xs), tt)

pub Logs-then : (k : Known) (a b c : List Variable) (ws vs : List (Owner × List ℕ)) → Logs k a b ws → Logs k b c vs → Logs k a c (ws ++ vs)
Logs-then k a b c ws vs h g = (h.0 ++ g.0, g.1 ∙ ap (λ (x : List Variable). x ++ g.0) h.1 ∙ append_assoc a h.0 g.0, ShowsVariables-then k h.0 ws g.0 vs h.2 g.2)

pub Logs-grows : (a b : Known) (old new : List Variable) (ws : List (Owner × List ℕ)) → Grows a b → Logs a old new ws → Logs b old new ws
Logs-grows a b old new ws g h = (h.0, h.1, ShowsVariables-grows a b h.0 ws g h.2)
