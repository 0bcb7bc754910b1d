-- What pointers lead to agrees at every node of a statement part.
use Rattle.std.proofs.Common.{◌≡◌, ℕ, List, Option, subst}
use Rattle.pc_syntax.specs.Plain.{Forest, Nil, Cons}
use Rattle.pc_types.specs.Shapes.{Owner, Definition, Shape, PointerType, Typed}
use Rattle.pc_types.specs.Domains.{domain_in}
use Rattle.pc_rules.specs.Meanings.{Local, Outside}
use Rattle.pc_rules.specs.Places.{inner, beside}
use Rattle.pc_rules.specs.Decorated.{seen, rule, decorate}
use Rattle.pc_rules.specs.Components.{component_of, field_type, domain_of}
use Rattle.pc_environment.specs.QuietLaws.{rule-defines}
use Rattle.pc_pointers.specs.Good.{Targets, Leads, IsGood, IsGoodType, GoodMarks, GoodPlace, AllBody}
use Rattle.pc_pointers.specs.GoodLaws.{component-good, field-good, domain-good}
use Rattle.pc_pointers.specs.PlaceLaws.{place-inner, place-beside, seen-good}
use Rattle.pc_pointers.specs.RuleLaws.{rule-good}

-- the types of all nodes of a statement part are good, where those of what names mean at its place are
pub good-marks : (out : Outside) (l : Local) (targets : Targets) (f : Forest) → GoodPlace out l targets → AllBody f → GoodMarks targets (decorate out l f)
unfolding decorate
good-marks out l targets Nil g b = tt
good-marks out l targets (Cons k w ns ks ts) g b =
    let s = seen out l k w in
    let below = decorate out (inner l k ks) ks in
    let under = good-marks out (inner l k ks) targets ks (place-inner out l targets k ks b.0 g) b.1 in
    let here = rule-good targets l k w s below b.0 (seen-good out l targets k w g) under in
    let behind = place-beside out l targets k (rule l k w s below) b.0 (rule-defines l k w s below b.0) here.opened g in
    (here, under, good-marks out (beside l k (rule l k w s below)) targets ts behind b.2)

-- the pointers of all types that are found at the nodes of a statement part lead to what the targets say
abbrev pub PointersAgree : Type 0
PointersAgree = (out : Outside) (l : Local) (targets : Targets) (f : Forest) → GoodPlace out l targets → AllBody f → GoodMarks targets (decorate out l f)

-- a pointer of a good type leads to what the targets say; what it leads to, the elements and the fields are of good types too
pub record PartsAgree : Type 0 where
  pub pointer : (targets : Targets) (t : Typed) (d : Definition) (o : Owner) (n : List ℕ) → IsGood targets t → t.shape ≡ PointerType d o n → domain_in t.domains o n ≡ targets o n
  pub domain : (targets : Targets) (t : Typed) → IsGood targets t → IsGoodType targets (domain_of t.domains t.shape)
  pub element : (targets : Targets) (t : Option Typed) → IsGoodType targets t → IsGoodType targets (component_of t)
  pub field : (targets : Targets) (t : Option Typed) (n : List ℕ) → IsGoodType targets t → IsGoodType targets (field_type t n)

-- these hold
pub parts-agree : PartsAgree
parts-agree = record {
  pointer = λ targets t d o n g e. subst (λ (s : Shape). Leads t.domains targets s) e g.leads;
  domain = λ targets t g. domain-good targets t.domains t.shape g.reached;
  element = component-good;
  field = field-good;
}
