-- The pointers of what is carried lead to what the targets say, but for those to a block's own types; so they do by more domains.
use Rattle.std.proofs.Common.{◌≡◌, ℕ, Bool, true, false, List, [], ◌∷◌, ◌++◌, Option, Some, None, refl, sym, ◌∙◌}
use Rattle.std.proofs.lemmas.Bool.{true≢false, and_parts, false_from_ne_true}
use Rattle.pc_types.specs.Shapes.{Owner, Shape, IntegerType, BooleanType, CharType, NilType, NoMembers, MembersType, TextType, EnumeratedType, SubrangeType, ArrayType, RecordType, SetType, PointerType, Fields, LastField, FieldOf, Domain}
use Rattle.pc_types.specs.Domains.{domain_in, stands_in}
use Rattle.pc_pointers.specs.Good.{Targets, Leads, LeadFields, LeadsIfAny, LeadAll}
use Rattle.pc_closed.specs.Reached.{Covers}
use Rattle.pc_closed.specs.PlaceLaws.{domain-none, stands-front, stands-back}
use Rattle.pc_closed.specs.Settled.{leads_nowhere, lead_nowhere, HostsLeadNowhere, FieldHostsLeadNowhere, AllAgreeApart}
use Rattle.pc_closed.specs.ClosedLaws.{apart-at}
use Rattle.pc_closed.specs.Carried.{LeadsApart, FieldsLeadApart, LeadsApartIfAny, AllLeadApart}

-- ---- more domains

-- what few domains lead to more of them do, where these agree with the targets
wider-at : (targets : Targets) (own few more : List Domain) (o : Owner) (n : List ℕ) → AllAgreeApart targets own more → Covers more few → stands_in own o n ≡ false → domain_in few o n ≡ targets o n →
    domain_in more o n ≡ targets o n
wider-at targets own few more o n a c s h = by (stands_in more o n) refl where
  by : (b : Bool) → stands_in more o n ≡ b → domain_in more o n ≡ targets o n
  by true e = apart-at targets own more o n a s e
  by false e =
      let none = false_from_ne_true (stands_in few o n) (λ t. true≢false (sym (c o n t) ∙ e)) in
      domain-none more o n e ∙ sym (domain-none few o n none) ∙ h

mutual
  pub leads-wider : (targets : Targets) (own few more : List Domain) (t : Shape) → AllAgreeApart targets own more → Covers more few → LeadsApart targets own few t → LeadsApart targets own more t
  leads-wider targets own few more (PointerType d o n) a c h = λ s. wider-at targets own few more o n a c s (h s)
  leads-wider targets own few more (ArrayType d p i t) a c h = leads-wider targets own few more t a c h
  leads-wider targets own few more (RecordType d p fs) a c h = fields-wider targets own few more fs a c h
  leads-wider targets own few more (SubrangeType d t x y) a c h = tt
  leads-wider targets own few more IntegerType a c h = tt
  leads-wider targets own few more BooleanType a c h = tt
  leads-wider targets own few more CharType a c h = tt
  leads-wider targets own few more NilType a c h = tt
  leads-wider targets own few more NoMembers a c h = tt
  leads-wider targets own few more (MembersType b) a c h = tt
  leads-wider targets own few more (TextType n) a c h = tt
  leads-wider targets own few more (EnumeratedType d ns) a c h = tt
  leads-wider targets own few more (SetType d p b) a c h = tt

  pub fields-wider : (targets : Targets) (own few more : List Domain) (fs : Fields) → AllAgreeApart targets own more → Covers more few → FieldsLeadApart targets own few fs → FieldsLeadApart targets own more fs
  fields-wider targets own few more LastField a c h = tt
  fields-wider targets own few more (FieldOf n t fs) a c h = (leads-wider targets own few more t a c h.0, fields-wider targets own few more fs a c h.1)

pub option-wider : (targets : Targets) (own few more : List Domain) (t : Option Shape) → AllAgreeApart targets own more → Covers more few → LeadsApartIfAny targets own few t → LeadsApartIfAny targets own more t
option-wider targets own few more None a c h = tt
option-wider targets own few more (Some t) a c h = leads-wider targets own few more t a c h

pub all-wider : (targets : Targets) (own few more ds : List Domain) → AllAgreeApart targets own more → Covers more few → AllLeadApart targets own few ds → AllLeadApart targets own more ds
all-wider targets own few more [] a c h = tt
all-wider targets own few more (d ∷ ds) a c h = (option-wider targets own few more d.shape a c h.0, all-wider targets own few more ds a c h.1)

-- ---- two lists

pub lead-both : (targets : Targets) (own all ds es : List Domain) → AllLeadApart targets own all ds → AllLeadApart targets own all es → AllLeadApart targets own all (ds ++ es)
lead-both targets own all [] es h k = k
lead-both targets own all (d ∷ ds) es h k = (h.0, lead-both targets own all ds es h.1 k)

-- each by itself, and so both together
pub lead-append : (targets : Targets) (own ds es : List Domain) → AllAgreeApart targets own (ds ++ es) → AllLeadApart targets own ds ds → AllLeadApart targets own es es →
    AllLeadApart targets own (ds ++ es) (ds ++ es)
lead-append targets own ds es a h k =
    lead-both targets own (ds ++ es) ds es (all-wider targets own ds (ds ++ es) ds a (stands-front ds es) h) (all-wider targets own es (ds ++ es) es a (stands-back ds es) k)

-- ---- what has no pointers

-- its hosts have none
mutual
  pub nowhere-hosts : (t : Shape) → leads_nowhere t ≡ true → HostsLeadNowhere t
  nowhere-hosts (SubrangeType d t a b) e = e
  nowhere-hosts (ArrayType d p i t) e = nowhere-hosts t e
  nowhere-hosts (RecordType d p fs) e = nowhere-field-hosts fs e
  nowhere-hosts (PointerType d o n) e = tt
  nowhere-hosts IntegerType e = tt
  nowhere-hosts BooleanType e = tt
  nowhere-hosts CharType e = tt
  nowhere-hosts NilType e = tt
  nowhere-hosts NoMembers e = tt
  nowhere-hosts (MembersType b) e = tt
  nowhere-hosts (TextType n) e = tt
  nowhere-hosts (EnumeratedType d ns) e = tt
  nowhere-hosts (SetType d p b) e = tt

  nowhere-field-hosts : (fs : Fields) → lead_nowhere fs ≡ true → FieldHostsLeadNowhere fs
  nowhere-field-hosts LastField e = tt
  nowhere-field-hosts (FieldOf n t fs) e = let p = and_parts (leads_nowhere t) (lead_nowhere fs) e in (nowhere-hosts t p.0, nowhere-field-hosts fs p.1)

mutual
  pub nowhere-apart : (targets : Targets) (own ds : List Domain) (t : Shape) → leads_nowhere t ≡ true → LeadsApart targets own ds t
  nowhere-apart targets own ds (PointerType d o n) e = absurd (true≢false (sym e))
  nowhere-apart targets own ds (ArrayType d p i t) e = nowhere-apart targets own ds t e
  nowhere-apart targets own ds (RecordType d p fs) e = nowhere-fields-apart targets own ds fs e
  nowhere-apart targets own ds (SubrangeType d t x y) e = tt
  nowhere-apart targets own ds IntegerType e = tt
  nowhere-apart targets own ds BooleanType e = tt
  nowhere-apart targets own ds CharType e = tt
  nowhere-apart targets own ds NilType e = tt
  nowhere-apart targets own ds NoMembers e = tt
  nowhere-apart targets own ds (MembersType b) e = tt
  nowhere-apart targets own ds (TextType n) e = tt
  nowhere-apart targets own ds (EnumeratedType d ns) e = tt
  nowhere-apart targets own ds (SetType d p b) e = tt

  nowhere-fields-apart : (targets : Targets) (own ds : List Domain) (fs : Fields) → lead_nowhere fs ≡ true → FieldsLeadApart targets own ds fs
  nowhere-fields-apart targets own ds LastField e = tt
  nowhere-fields-apart targets own ds (FieldOf n t fs) e =
      let p = and_parts (leads_nowhere t) (lead_nowhere fs) e in
      (nowhere-apart targets own ds t p.0, nowhere-fields-apart targets own ds fs p.1)

-- ---- what is good leads apart from any types

mutual
  pub leads-apart : (targets : Targets) (own ds : List Domain) (t : Shape) → Leads ds targets t → LeadsApart targets own ds t
  leads-apart targets own ds (PointerType d o n) h = λ s. h
  leads-apart targets own ds (ArrayType d p i t) h = leads-apart targets own ds t h
  leads-apart targets own ds (RecordType d p fs) h = fields-apart targets own ds fs h
  leads-apart targets own ds (SubrangeType d t x y) h = tt
  leads-apart targets own ds IntegerType h = tt
  leads-apart targets own ds BooleanType h = tt
  leads-apart targets own ds CharType h = tt
  leads-apart targets own ds NilType h = tt
  leads-apart targets own ds NoMembers h = tt
  leads-apart targets own ds (MembersType b) h = tt
  leads-apart targets own ds (TextType n) h = tt
  leads-apart targets own ds (EnumeratedType d ns) h = tt
  leads-apart targets own ds (SetType d p b) h = tt

  fields-apart : (targets : Targets) (own ds : List Domain) (fs : Fields) → LeadFields ds targets fs → FieldsLeadApart targets own ds fs
  fields-apart targets own ds LastField h = tt
  fields-apart targets own ds (FieldOf n t fs) h = (leads-apart targets own ds t h.0, fields-apart targets own ds fs h.1)

option-apart : (targets : Targets) (own ds : List Domain) (t : Option Shape) → LeadsIfAny ds targets t → LeadsApartIfAny targets own ds t
option-apart targets own ds None h = tt
option-apart targets own ds (Some t) h = leads-apart targets own ds t h

pub lead-apart : (targets : Targets) (own ds es : List Domain) → LeadAll ds targets es → AllLeadApart targets own ds es
lead-apart targets own ds [] h = tt
lead-apart targets own ds (e ∷ es) h = (option-apart targets own ds e.shape h.0, lead-apart targets own ds es h.1)
