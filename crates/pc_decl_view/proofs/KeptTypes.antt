-- The type of a name by what was kept of its meaning is the one that the rules find.
use Rattle.std.specs.Prelude.{◌≡◌, ℕ, List, codes, Option, Some, None, option_map}
use Rattle.std.specs.Option.{option_and_then}
use Rattle.std.proofs.Common.{refl, ap, ◌∙◌}
use Rattle.pc_types.specs.Expanded.{expanded}
use Rattle.pc_types.specs.Shapes.{Shape, NilType, NoMembers}
use Rattle.pc_types.specs.Table.{Table, shape_at, numbered}
use Rattle.pc_types.specs.declared.form.TypeId.{TypeId}
use Rattle.pc_types.specs.declared.operand.Operand.{Operand}
use Rattle.pc_types.specs.declared.operand.Operand.TheVariants as operand
use Rattle.pc_names.specs.Standing.{meant}
use Rattle.pc_names.specs.declared.name_class.NameClass.{NameClass}
use Rattle.pc_names.specs.declared.name_class.NameClass.TheVariants as class
use Rattle.pc_rules.specs.Meanings as rules
use Rattle.pc_facts.specs.Known.{Known}
use Rattle.pc_facts.specs.Shows.{ShowsValues, ShowsSignatures, ShowsMeaning, ShowsFound}
use Rattle.pc_facts.specs.declared.sighting.Declared.{Declared}
use Rattle.pc_facts.specs.declared.sighting.Sighting.{Sighting}
use Rattle.pc_facts.specs.declared.sighting.Sighting.TheVariants as sighting
use Rattle.pc_facts.specs.declared.sighting.Signature.{Signature}
use Rattle.pc_facts.specs.declared.sighting.SignatureId.{SignatureId}
use Rattle.pc_facts.specs.declared.sighting.Value.{Value}
use Rattle.pc_decl.specs.Annotated.{Annotation}
use Rattle.pc_decl.specs.Declared.{declaration_found, meaning_in, result_shape, shape_declared}
use Rattle.pc_decl.specs.TypeAt.{structure_of}
use Rattle.pc_decl.specs.TypeText.{type_text, known_or}
use Rattle.pc_decl_laws.specs.OwnTypes.{own_type}
use Rattle.pc_decl_view.specs.KeptLines.{type_of_value, result_in, result_type, type_declared, type_meant, type_shown}

-- a type without a structure is shown as an unknown one
structure-shown : (s : Shape) → type_text (expanded s) ≡ known_or (codes "?") (structure_of s)
structure-shown NilType = refl
structure-shown NoMembers = refl
structure-shown s = refl

-- the text of a type by its number is that of its structure
operand-shown : (table : Table) (o : Option Operand) → type_shown table o ≡ known_or (codes "?") (option_and_then structure_of (option_map (shape_at table) o))
operand-shown table None = refl
operand-shown table (Some o) = structure-shown (shape_at table o)

-- the types that go with a declaration
value-shown : (k : Known) (v : Option Value) (w : Option rules.Value) → ShowsValues k v w → option_map (shape_at k.table) (type_of_value v) ≡ option_map (λ (x : rules.Value). x.type) w
value-shown k None None h = refl
value-shown k (Some v) (Some w) h = ap Some h.shape
value-shown k None (Some w) h = absurd h
value-shown k (Some v) None h = absurd h

number-shown : (table : Table) (o : Option TypeId) → option_map (shape_at table) (option_map operand.Id o) ≡ option_map (numbered table.shapes) o
number-shown table None = refl
number-shown table (Some i) = refl

result-shown : (k : Known) (s : Option SignatureId) (r : Option rules.Signature) → ShowsSignatures k s r → option_map (shape_at k.table) (result_type k.signatures s) ≡ option_and_then result_shape r
result-shown k None None h = refl
result-shown k (Some i) (Some r) h =
    ap (λ (s : Option Signature). option_map (shape_at k.table) (option_and_then result_in s)) h.1 ∙ number-shown k.table h.0.result ∙ h.2.result
result-shown k None (Some r) h = absurd h
result-shown k (Some i) None h = absurd h

class-shown : (k : Known) (n : List ℕ) (d : Declared) (m : rules.Meaning) → ShowsMeaning k n d m → (c : NameClass) → option_map (shape_at k.table) (type_declared k.signatures c d) ≡ shape_declared (meant c) m
class-shown k n d m h class.Constant = value-shown k d.value m.value h.value
class-shown k n d m h class.Element = value-shown k d.value m.value h.value
class-shown k n d m h class.Function = result-shown k d.signature m.signature h.signature
class-shown k n d m h class.Procedure = refl
class-shown k n d m h class.Type = h.type.shape
class-shown k n d m h class.Variable = h.type.shape
class-shown k n d m h class.Value = h.type.shape
class-shown k n d m h class.Reference = h.type.shape

-- the type that goes with what is found
found-shown : (k : Known) (n : List ℕ) (s : Sighting) (f : rules.Found) → ShowsFound k n s f →
    option_map (shape_at k.table) (type_meant k.signatures s) ≡ option_and_then (λ (m : rules.Meaning). shape_declared m.class m) (declaration_found f)
found-shown k n (sighting.Here d) (rules.Here m) h = class-shown k n d m h d.class ∙ ap (λ (c : rules.Class). shape_declared c m) h.class
found-shown k n (sighting.Here d) f h = absurd h
found-shown k n s (rules.Here m) h = absurd h
found-shown k n s f h = refl

-- the text of the type of a name where its routine's block ends
pub type-shown : (k : Known) (a : Annotation) (n : List ℕ) (s : Sighting) → ShowsFound k n s (rules.find a.outside a.ending n) →
    type_shown k.table (type_meant k.signatures s) ≡ known_or (codes "?") (own_type a n)
unfolding meaning_in
type-shown k a n s h =
    operand-shown k.table (type_meant k.signatures s)
    ∙ ap (λ (o : Option Shape). known_or (codes "?") (option_and_then structure_of o)) (found-shown k n s (rules.find a.outside a.ending n) h)
