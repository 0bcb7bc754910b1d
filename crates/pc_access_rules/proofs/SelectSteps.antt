-- A field of a record: lemmas.
use Rattle.std.specs.Prelude.{◌≡◌, ℕ, Bool, ◌||◌, ◌&&◌, List, [], ◌++◌, Option, IfSome, option_map, codes}
use Rattle.std.specs.Option.{is_some}
use Rattle.std.proofs.Common.{ap}
use Rattle.pc_syntax.specs.Words.{lowered}
use Rattle.pc_syntax.specs.Sorts.{is_hole}
use Rattle.pc_types.specs.Shapes.{Typed}
use Rattle.pc_types.specs.Table.{Table, shape_at, IsThere}
use Rattle.pc_types.specs.declared.operand.Operand.{Operand}
use Rattle.pc_rules.specs.Attributes.{Entry, Node, at_kid}
use Rattle.pc_rules.specs.Components as components
use Rattle.pc_rules.specs.Entries.{note_if}
use Rattle.pc_judgements.specs.Judged as judged
use Rattle.pc_judgements.specs.JudgedLaws.{field_type-judged, packed_type-judged}
use Rattle.pc_facts.specs.Shows.{ShowsType, shape_of}
use Rattle.pc_access_rules.specs.Accessed.{is_no_record, lacks_field}
use Rattle.pc_access_rules.specs.AccessedLaws.{no_record-judged, no_field-judged}
use Rattle.pc_access_rules.proofs.TypeSteps.{begun, known-same, shape-in, shown}

pub entries-of : (s t : Table) (o : Option Operand) (ty : Option Typed) (b : Node) (w : List ℕ) (hole p q : Bool) (base own with_own none missed old first all : List Entry) →
    s ≡ t → ShowsType s o ty → is_hole b.at.kind ≡ hole → b.at.word ≡ w → own ≡ base → with_own ≡ own ++ note_if p 15 (codes "not a record") → p ≡ is_no_record (option_map (shape_at t) o) →
    none ≡ [] → missed ≡ none ++ note_if q 4 (codes "not a field: " ++ w) → q ≡ lacks_field (option_map (shape_at t) o) (lowered w) hole →
    old ≡ [] → first ≡ old ++ at_kid 1 with_own → all ≡ first ++ at_kid 2 missed →
    all ≡ at_kid 1 (base ++ components.no_record ty) ++ at_kid 2 (components.no_field ty b)
entries-of s t o ty b w hole p q base own with_own none missed old first all e h hb wb is_base is_own is_p is_none is_missed is_q is_old is_first is_all =
    let shape = shape-in s t o ty e h in
    let record_law = no_record-judged ty in
    let field_law = no_field-judged ty b in
    let missed_is = begun none _ missed is_none is_missed in
    let first_is = begun old _ first is_old is_first in
    let own_is : with_own ≡ base ++ components.no_record ty = cc in
    let lack : missed ≡ components.no_field ty b = cc in
    cc

pub type-of : (s t : Table) (o r : Option Operand) (ty : Option Typed) (m n : List ℕ) → s ≡ t → ShowsType s o ty → m ≡ n →
    option_map (shape_at t) r ≡ judged.field_type (option_map (shape_at t) o) (lowered n) → IfSome r (IsThere t) → ShowsType s r (components.field_type ty (lowered m))
type-of s t o r ty m n e h w shape there =
    let is = shape-in s t o ty e h in
    let law = field_type-judged ty (lowered m) in
    let small = ap (λ x. judged.field_type (option_map (shape_at t) o) (lowered x)) w in
    let found : option_map (shape_at t) r ≡ shape_of (components.field_type ty (lowered m)) = cc in
    shown s t r (components.field_type ty (lowered m)) e found there

pub packed-of : (s t : Table) (o : Option Operand) (ty : Option Typed) (packed known either packing part p : Bool) → s ≡ t → ShowsType s o ty → packed ≡ (known && either) →
    known ≡ is_some o → either ≡ (packing || part) → packing ≡ judged.packed_type (option_map (shape_at t) o) → part ≡ p →
    packed ≡ (is_some ty && (components.packed_type ty || p))
packed-of s t o ty packed known either packing part p e h a b c d f =
    let is = shape-in s t o ty e h in
    let same = known-same s o ty h in
    let law = packed_type-judged ty in
    cc
