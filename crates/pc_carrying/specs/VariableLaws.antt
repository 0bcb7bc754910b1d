-- Variable declarations behind the type part: their types are settled, and what names mean stays good.
use Rattle.std.proofs.Common.{◌≡◌, ℕ, Bool, true, false, if◌then◌else◌, List, [], ◌∷◌, ◌++◌, Option, Some, None, refl}
use Rattle.std.specs.Prelude.{get_or}
use Rattle.std.specs.Str.{bytes_eq}
use Rattle.pc_syntax.specs.declared.kind.Kind.TheVariants as kind
use Rattle.pc_syntax.specs.Plain.{Forest}
use Rattle.pc_syntax.specs.Words.{is_among}
use Rattle.pc_types.specs.Shapes.{Domain, Typed}
use Rattle.pc_scope.specs.Headings.{names_of_first}
use Rattle.pc_rules.specs.Attributes.{Marked, nodes, missing, kids_below}
use Rattle.pc_rules.specs.DeclaringNames.{names_in, all_as}
use Rattle.pc_rules.specs.Declarations.{completed}
use Rattle.pc_rules.specs.Decorated.{Seen, seen, rule, decorate}
use Rattle.pc_rules.specs.Meanings.{VariableName, Meaning, Value, Found, Local, Outside, declared_as, entry_of, is_routine_class, with_signature, known_or, later_or, field_or, find, define, define_all}
use Rattle.pc_rules.specs.NameClasses.{is_type_class}
use Rattle.pc_rules.specs.Places.{inner}
use Rattle.pc_pointers.specs.Good.{Targets, IsGoodType, IsGoodConstant, IsGoodMeaning, IsGoodFound, GoodPlace}
use Rattle.pc_closed.specs.LeadLaws.{nowhere-leads}
use Rattle.pc_closed.specs.Settled.{AllAgree, AllAgreeApart, IsSettledType, IsGoodBeside, AllGoodBeside}
use Rattle.pc_closed.specs.Carried.{IsCarriedType}
use Rattle.pc_closed.specs.BlockLaws.{closed-law}
use Rattle.pc_carrying.specs.Carrying.{IsPlainValue, CarriedPlace, AllPlain, CarriedMarks, AllDenoting}
use Rattle.pc_carrying.specs.Parts.{AllBeside, IsSettledPart, GoodHeadings}
use Rattle.pc_carrying.specs.KnownLaws.{plain-beside, beside-both, beside-carried}
use Rattle.pc_carrying.specs.LaterLaws.{inner-later}
use Rattle.pc_carrying.specs.ConfinedLaws.{moved-place}
use Rattle.pc_carrying.specs.NodeLaws.{nodes-carried, kid-carried}
use Rattle.pc_carrying.specs.DenoterLaws.{marks-carried}

-- ---- a completed type is settled

all-agree : (targets : Targets) (ds : List Domain) → AllAgreeApart targets [] ds → AllAgree targets ds
all-agree targets [] h = tt
all-agree targets (d ∷ ds) h = (h.0 refl, all-agree targets ds h.1)

pub completed-settled : (targets : Targets) (t : Option Typed) → IsCarriedType targets [] t → IsSettledType targets (completed t)
completed-settled targets None h = tt
completed-settled targets (Some t) h = closed-law.complete targets t h.hosts h.further (all-agree targets t.domains h.others)

settled-good : (targets : Targets) (t : Option Typed) → IsSettledType targets t → IsGoodType targets t
settled-good targets None s = tt
settled-good targets (Some t) s = s.good

-- ---- what is declared is good

pub constant-good : (targets : Targets) (v : Option Value) → IsPlainValue v → IsGoodConstant targets v
constant-good targets None h = tt
constant-good targets (Some v) h = record { leads = nowhere-leads [] targets v.type h; reached = tt }

plain-good : (targets : Targets) (ds : List (List ℕ × Meaning)) → AllPlain ds → AllGoodBeside targets ds
plain-good targets [] h = tt
plain-good targets (d ∷ ds) h = (
  record {
    constant = constant-good targets d.1.value h.0.value;
    result = let e = h.0.unsigned in rw e tt;
    typed = λ c. let e = h.0.untyped in rw e tt;
  },
  plain-good targets ds h.1,
)

pub good-both : (targets : Targets) (ds es : List (List ℕ × Meaning)) → AllGoodBeside targets ds → AllGoodBeside targets es → AllGoodBeside targets (ds ++ es)
good-both targets [] es h g = g
good-both targets (d ∷ ds) es h g = (h.0, good-both targets ds es h.1 g)

-- variables of one type
variables-good : (targets : Targets) (m : Meaning) (ns : List (List ℕ)) → IsGoodBeside targets m → AllGoodBeside targets (all_as m ns)
variables-good targets m [] h = tt
variables-good targets m (n ∷ ns) h = (h, variables-good targets m ns h)

variables-beside : (m : Meaning) (ns : List (List ℕ)) → is_type_class m.class ≡ false → IsPlainValue m.value → AllBeside (all_as m ns)
variables-beside m [] c v = tt
variables-beside m (n ∷ ns) c v = (c, v, variables-beside m ns c v)

-- ---- a declaration

rule-settled : (targets : Targets) (l : Local) (w : List ℕ) (s : Seen) (m : Marked) → CarriedMarks targets [] m → IsSettledPart targets (rule l kind.Vardef w s m).defines
unfolding rule
rule-settled targets l w s m g =
    let denoter = get_or (nodes m) 1 missing in
    let h = (kid-carried targets [] (nodes m) 1 (nodes-carried targets [] m g)).here in
    let v : Meaning = record (declared_as VariableName l.owner) { type = completed denoter.as_value.type } in
    let ns = names_in (kids_below (get_or (nodes m) 0 missing)) in
    let settled = settled-good targets (completed denoter.as_value.type) (completed-settled targets denoter.as_value.type h.type) in
    record {
      good = good-both targets (all_as v ns) denoter.defines (variables-good targets v ns (record { constant = tt; result = tt; typed = λ c. settled })) (plain-good targets denoter.defines h.declared);
      beside = beside-both (all_as v ns) denoter.defines (variables-beside v ns refl tt) (plain-beside denoter.defines h.declared);
    }

-- the denoter stands behind the names, whose types aren't known yet
inner-carried : (targets : Targets) (own : List Domain) (out : Outside) (l : Local) (ks : Forest) → CarriedPlace targets own out l → CarriedPlace targets own out (inner l kind.Vardef ks)
inner-carried targets own out l ks g =
    moved-place targets own out l (inner l kind.Vardef ks) (inner-later l kind.Vardef ks)
    (beside-carried targets own l (all_as (declared_as VariableName l.owner) (names_of_first ks)) (variables-beside (declared_as VariableName l.owner) (names_of_first ks) refl tt) g.known) g

pub variables-settled : (targets : Targets) (out : Outside) (l : Local) (w : List ℕ) (ks : Forest) → AllDenoting ks → CarriedPlace targets [] out l →
    IsSettledPart targets (rule l kind.Vardef w (seen out l kind.Vardef w) (decorate out (inner l kind.Vardef ks) ks)).defines
variables-settled targets out l w ks a g =
    rule-settled targets l w (seen out l kind.Vardef w) (decorate out (inner l kind.Vardef ks) ks) (marks-carried targets [] out (inner l kind.Vardef ks) ks a (inner-carried targets [] out l ks g))

-- ---- what names mean behind declarations that are good

signed-good : (targets : Targets) (out : Outside) (n : List ℕ) (m : Meaning) → GoodHeadings targets out → is_type_class m.class ≡ false → IsGoodBeside targets m →
    IsGoodMeaning targets (with_signature out n m)
signed-good targets out n m r c g = by (is_routine_class m.class) where
  by : (b : Bool) → IsGoodMeaning targets (if b then record m { signature = out.heading n } else m)
  by true = record { typed = g.typed c; constant = g.constant; result = r n }
  by false = record { typed = g.typed c; constant = g.constant; result = g.result }

known-good : (targets : Targets) (out : Outside) (n : List ℕ) (ds : List (List ℕ × Meaning)) (x : List ℕ) (m : Meaning) (other : Found) → IsGoodMeaning targets (with_signature out n m) →
    IsGoodFound targets (known_or out n (entry_of ds n) other) → IsGoodFound targets (known_or out n (entry_of (ds ++ (x, m) ∷ []) n) other)
known-good targets out n [] x m other g h = by (bytes_eq x n) where
  by : (b : Bool) → IsGoodFound targets (known_or out n (if b then Some m else None) other)
  by true = g
  by false = h
known-good targets out n (d ∷ ds) x m other g h = by (known-good targets out n ds x m other g) (bytes_eq d.0 n) h where
  by : (IsGoodFound targets (known_or out n (entry_of ds n) other) → IsGoodFound targets (known_or out n (entry_of (ds ++ (x, m) ∷ []) n) other)) → (b : Bool) →
      IsGoodFound targets (known_or out n (if b then Some d.1 else entry_of ds n) other) →
      IsGoodFound targets (known_or out n (if b then Some d.1 else entry_of (ds ++ (x, m) ∷ []) n) other)
  by rest true h = h
  by rest false h = rest h

field-good : (targets : Targets) (f : Option (Typed × Bool)) (a b : Found) → (IsGoodFound targets a → IsGoodFound targets b) → IsGoodFound targets (field_or f a) → IsGoodFound targets (field_or f b)
field-good targets None a b h g = h g
field-good targets (Some f) a b h g = g

define-good : (targets : Targets) (out : Outside) (l : Local) (x : List ℕ) (m : Meaning) → GoodHeadings targets out → is_type_class m.class ≡ false → IsGoodBeside targets m →
    GoodPlace out l targets → GoodPlace out (define l x m) targets
unfolding find
define-good targets out l x m r c g h n = by (is_among l.passed x) where
  by : (b : Bool) → IsGoodFound targets
      (field_or (entry_of l.fields n) (known_or out n (entry_of (if b then l.known else l.known ++ (x, m) ∷ []) n) (later_or (entry_of l.names n) (out.means n))))
  by true = h n
  by false =
      field-good targets (entry_of l.fields n) _ _ (known-good targets out n l.known x m (later_or (entry_of l.names n) (out.means n)) (signed-good targets out n m r c g)) (h n)

pub defined-good : (targets : Targets) (out : Outside) (l : Local) (ds : List (List ℕ × Meaning)) → GoodHeadings targets out → IsSettledPart targets ds → GoodPlace out l targets →
    GoodPlace out (define_all l ds) targets
defined-good targets out l [] r g h = h
defined-good targets out l (d ∷ ds) r g h =
    defined-good targets out (define l d.0 d.1) ds r (record { good = g.good.1; beside = g.beside.2 }) (define-good targets out l d.0 d.1 r g.beside.0 g.good.0 h)
