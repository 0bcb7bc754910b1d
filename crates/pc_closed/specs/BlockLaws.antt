-- Behind the type part of a block what names mean is good; targets of a block and those around it go together.
use Rattle.std.proofs.Common.{◌≡◌, ℕ, Bool, true, false, if◌then◌else◌, List, [], ◌∷◌, ◌++◌, Option, Some, None, option_map, map, refl, sym, ◌∙◌}
use Rattle.std.specs.Str.{bytes_eq}
use Rattle.pc_types.specs.Shapes.{Owner, Shape, IntegerType, BooleanType, CharType, NilType, NoMembers, MembersType, TextType, EnumeratedType, SubrangeType, ArrayType, RecordType, SetType, PointerType, Fields, LastField, FieldOf, Domain, Typed}
use Rattle.pc_types.specs.Domains.{stands_in, closed}
use Rattle.pc_rules.specs.ClosedTypes.{own_domains, carried, close_type, close_types}
use Rattle.pc_rules.specs.Declarations.{completed}
use Rattle.pc_rules.specs.Meanings.{Class, Meaning, Found, Local, Outside, entry_of, is_routine_class, with_signature, known_or, later_or, field_or, find}
use Rattle.pc_rules.specs.NameClasses.{is_type_class}
use Rattle.pc_rules.specs.Variables.{result_of}
use Rattle.pc_pointers.specs.Good.{Targets, Leads, LeadFields, LeadsIfAny, LeadAll, IsGoodType, IsGoodMeaning, IsGoodFound, AllOpenedGood, GoodPlace}
use Rattle.pc_closed.specs.Settled.{HostsLeadNowhere, AllHostsLeadNowhere, AllAgree, AllAgreeApart, Tells, IsSettled, IsSettledType, AllTypesSettled, NamesNone, FieldsNameNone, NamesNoneIfAny, AllElsewhere, IsElsewhere, with_types, FitsBlock, AllGoodBeside, IsGoodAround, ClosedLaw, OuterLaw}
use Rattle.pc_closed.specs.ClosedLaws.{closed-settled-type, alone-settled, agreeing-settled, own-stands, block-settled}

-- ---- what names mean

settled-good : (targets : Targets) (t : Option Typed) → IsSettledType targets t → IsGoodType targets t
settled-good targets None s = tt
settled-good targets (Some t) s = s.good

-- a declaration whose types are good
abbrev AllMeaningsGood : Targets → List (List ℕ × Meaning) → Type 0
AllMeaningsGood targets [] = Unit {0}
AllMeaningsGood targets (d ∷ ds) = IsGoodMeaning targets d.1 × AllMeaningsGood targets ds

-- closed declarations: their types are settled, and what else they have is good
meanings-good : (table : List Domain) (targets : Targets) (ds : List (List ℕ × Meaning)) → AllTypesSettled targets (map (close_type table) ds) → AllGoodBeside targets ds →
    AllMeaningsGood targets (map (close_type table) ds)
meanings-good table targets [] s g = tt
meanings-good table targets (d ∷ ds) s g = (by (is_type_class d.1.class) refl s.0, meanings-good table targets ds s.1 g.1) where
  by : (b : Bool) → is_type_class d.1.class ≡ b →
      (is_type_class (if b then (d.0, record d.1 { type = closed table (option_map (λ (t : Typed). t.shape) d.1.type) }) else d).1.class ≡ true →
      IsSettledType targets (if b then (d.0, record d.1 { type = closed table (option_map (λ (t : Typed). t.shape) d.1.type) }) else d).1.type) →
      IsGoodMeaning targets (if b then (d.0, record d.1 { type = closed table (option_map (λ (t : Typed). t.shape) d.1.type) }) else d).1
  by true e h = record { typed = settled-good targets _ (h e); constant = g.0.constant; result = g.0.result }
  by false e h = record { typed = g.0.typed e; constant = g.0.constant; result = g.0.result }

-- a declaration with its parameters and result
signature-good : (targets : Targets) (out : Outside) (n : List ℕ) (m : Meaning) → IsGoodType targets (result_of (out.heading n)) → IsGoodMeaning targets m → IsGoodMeaning targets (with_signature out n m)
signature-good targets out n m r g = by (is_routine_class m.class) where
  by : (b : Bool) → IsGoodMeaning targets (if b then record m { signature = out.heading n } else m)
  by true = record { typed = g.typed; constant = g.constant; result = r }
  by false = g

-- a name that the block declares later, or that it doesn't declare
later-good : (targets : Targets) (c : Option Class) (other : Found) → IsGoodFound targets other → IsGoodFound targets (later_or c other)
later-good targets (Some c) other g = tt
later-good targets None other g = g

-- a declaration of the block, if there is one
known-good : (targets : Targets) (out : Outside) (n : List ℕ) (ds : List (List ℕ × Meaning)) (other : Found) → IsGoodType targets (result_of (out.heading n)) →
    AllMeaningsGood targets ds → IsGoodFound targets other → IsGoodFound targets (known_or out n (entry_of ds n) other)
known-good targets out n [] other r h g = g
known-good targets out n (d ∷ ds) other r h g = by (known-good targets out n ds other r h.1 g) (bytes_eq d.0 n) where
  by : IsGoodFound targets (known_or out n (entry_of ds n) other) → (b : Bool) → IsGoodFound targets (known_or out n (if b then Some d.1 else entry_of ds n) other)
  by rest true = signature-good targets out n d.1 r h.0
  by rest false = rest

-- a field that is open, if there is one
fields-good : (targets : Targets) (fs : List (List ℕ × (Typed × Bool))) (n : List ℕ) (other : Found) → AllOpenedGood targets fs → IsGoodFound targets other →
    IsGoodFound targets (field_or (entry_of fs n) other)
fields-good targets [] n other h g = g
fields-good targets (f ∷ fs) n other h g = by (fields-good targets fs n other h.1 g) (bytes_eq f.0 n) where
  by : IsGoodFound targets (field_or (entry_of fs n) other) → (b : Bool) → IsGoodFound targets (field_or (if b then Some f.1 else entry_of fs n) other)
  by rest true = h.0
  by rest false = rest

-- what names mean behind the type part of a block
place-good : (targets : Targets) (out : Outside) (l : Local) → FitsBlock targets l → IsGoodAround targets out l → GoodPlace out (close_types l) targets
unfolding find
place-good targets out l f a n =
    let known = meanings-good (own_domains l.known ++ carried l.known) targets l.known (block-settled targets l f) a.known in
    let later = later-good targets (entry_of l.names n) (out.means n) (a.outside n) in
    fields-good targets l.fields n _ a.fields (known-good targets out n (close_types l).known _ (a.headings n) known later)

-- a type that is completed by the domains that go with it
complete-settled : (targets : Targets) (t : Typed) → HostsLeadNowhere t.shape → AllHostsLeadNowhere t.domains → AllAgree targets t.domains → IsSettledType targets (completed (Some t))
complete-settled targets t h k a = closed-settled-type t.domains targets (Some t.shape) h (λ s typed g e. agreeing-settled targets t.domains s typed g k a e)

-- these hold
pub closed-law : ClosedLaw
closed-law = record {
  alone = alone-settled;
  agreeing = agreeing-settled;
  complete = complete-settled;
  block = block-settled;
  place = place-good;
}

-- ---- targets of a block, and those around it

pub with-tells : (own : List Domain) (outer : Targets) → Tells (with_types own outer) own
with-tells own outer o n s = rw s refl

pub with-elsewhere : (own : List Domain) (outer : Targets) (o : Owner) (n : List ℕ) → stands_in own o n ≡ false → with_types own outer o n ≡ outer o n
with-elsewhere own outer o n s = rw s refl

-- where the places are those of the types behind, domains apart from these agree with either
with-apart : (before own ds : List Domain) (outer : Targets) → ((o : Owner) (n : List ℕ) → stands_in own o n ≡ stands_in before o n) → AllAgreeApart outer before ds →
    AllAgreeApart (with_types own outer) before ds
with-apart before own [] outer e h = tt
with-apart before own (d ∷ ds) outer e h =
    ((λ s. h.0 s ∙ sym (with-elsewhere own outer d.owner d.name (e d.owner d.name ∙ s))), with-apart before own ds outer e h.1)

with-fits : (outer : Targets) (l : Local) → AllAgreeApart outer (own_domains l.known) (carried l.known) → AllHostsLeadNowhere (own_domains l.known) →
    AllHostsLeadNowhere (carried l.known) → FitsBlock (with_types (own_domains (close_types l).known) outer) l
with-fits outer l a h k = record {
  tells = with-tells (own_domains (close_types l).known) outer;
  others = with-apart (own_domains l.known) (own_domains (close_types l).known) (carried l.known) outer (own-stands (own_domains l.known ++ carried l.known) l.known) a;
  own_hosts = h;
  other_hosts = k;
}

-- what names none of a block's types leads on to what the targets around it say
mutual
  none-leads : (own ds : List Domain) (outer : Targets) (t : Shape) → NamesNone own t → Leads ds outer t → Leads ds (with_types own outer) t
  none-leads own ds outer (PointerType d o n) e h = h ∙ sym (with-elsewhere own outer o n e)
  none-leads own ds outer (SubrangeType d t a b) e h = none-leads own [] outer t e h
  none-leads own ds outer (ArrayType d p i t) e h = none-leads own ds outer t e h
  none-leads own ds outer (RecordType d p fs) e h = none-lead own ds outer fs e h
  none-leads own ds outer IntegerType e h = tt
  none-leads own ds outer BooleanType e h = tt
  none-leads own ds outer CharType e h = tt
  none-leads own ds outer NilType e h = tt
  none-leads own ds outer NoMembers e h = tt
  none-leads own ds outer (MembersType b) e h = tt
  none-leads own ds outer (TextType n) e h = tt
  none-leads own ds outer (EnumeratedType d ns) e h = tt
  none-leads own ds outer (SetType d p b) e h = tt

  none-lead : (own ds : List Domain) (outer : Targets) (fs : Fields) → FieldsNameNone own fs → LeadFields ds outer fs → LeadFields ds (with_types own outer) fs
  none-lead own ds outer LastField e h = tt
  none-lead own ds outer (FieldOf n t fs) e h = (none-leads own ds outer t e.0 h.0, none-lead own ds outer fs e.1 h.1)

option-stays : (own ds : List Domain) (outer : Targets) (t : Option Shape) → NamesNoneIfAny own t → LeadsIfAny ds outer t → LeadsIfAny ds (with_types own outer) t
option-stays own ds outer None e h = tt
option-stays own ds outer (Some t) e h = none-leads own ds outer t e h

all-stay : (own ds es : List Domain) (outer : Targets) → AllElsewhere own es → LeadAll ds outer es → LeadAll ds (with_types own outer) es
all-stay own ds [] outer e h = tt
all-stay own ds (d ∷ es) outer e h = (option-stays own ds outer d.shape e.1 h.0, all-stay own ds es outer e.2 h.1)

agree-stays : (own ds : List Domain) (outer : Targets) → AllElsewhere own ds → AllAgree outer ds → AllAgree (with_types own outer) ds
agree-stays own [] outer e h = tt
agree-stays own (d ∷ ds) outer e h = (h.0 ∙ sym (with-elsewhere own outer d.owner d.name e.0), agree-stays own ds outer e.2 h.1)

outer-stays : (own : List Domain) (outer : Targets) (t : Typed) → IsElsewhere own t → IsSettled outer t → IsSettled (with_types own outer) t
outer-stays own outer t e s = record {
  good = record { leads = none-leads own t.domains outer t.shape e.names s.good.leads; reached = all-stay own t.domains t.domains outer e.reached s.good.reached };
  agree = agree-stays own t.domains outer e.reached s.agree;
}

-- these hold
pub outer-law : OuterLaw
outer-law = record { fits = with-fits; stays = outer-stays }
