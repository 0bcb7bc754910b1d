-- Records of fields whose types are carried.
use Rattle.std.specs.Prelude.{ℕ, Bool, List, [], ◌∷◌, ◌++◌, Option, Some, None, option_map}
use Rattle.std.specs.Option.{option_and_then}
use Rattle.pc_types.specs.Shapes.{Definition, Shape, RecordType, Fields, Domain, Typed}
use Rattle.pc_rules.specs.Attributes.{Node}
use Rattle.pc_rules.specs.DeclaringNames.{names_in}
use Rattle.pc_rules.specs.StructuredTypes.{Row, fields_named, field_names, field_denoter, row_of}
use Rattle.pc_pointers.specs.Good.{Targets}
use Rattle.pc_closed.specs.PlaceLaws.{stands-front, stands-back}
use Rattle.pc_closed.specs.Settled.{HostsLeadNowhere, FieldHostsLeadNowhere, AllHostsLeadNowhere, AllAgreeApart}
use Rattle.pc_closed.specs.Carried.{LeadsApart, FieldsLeadApart, AllLeadApart, IsCarriedType, AllCarried}
use Rattle.pc_closed.specs.ApartLaws.{leads-wider, fields-wider, lead-append}

-- ---- two lists

pub apart-both : (targets : Targets) (own ds es : List Domain) → AllAgreeApart targets own ds → AllAgreeApart targets own es → AllAgreeApart targets own (ds ++ es)
apart-both targets own [] es h k = k
apart-both targets own (d ∷ ds) es h k = (h.0, apart-both targets own ds es h.1 k)

pub hosts-append : (ds es : List Domain) → AllHostsLeadNowhere ds → AllHostsLeadNowhere es → AllHostsLeadNowhere (ds ++ es)
hosts-append [] es h k = k
hosts-append (d ∷ ds) es h k = (h.0, hosts-append ds es h.1 k)

-- ---- fields

named-hosts : (ns : List (List ℕ)) (t : Shape) (fs : Fields) → HostsLeadNowhere t → FieldHostsLeadNowhere fs → FieldHostsLeadNowhere (fields_named ns t fs)
named-hosts [] t fs h g = g
named-hosts (n ∷ ns) t fs h g = (h, named-hosts ns t fs h g)

named-lead : (targets : Targets) (own ds : List Domain) (ns : List (List ℕ)) (t : Shape) (fs : Fields) → LeadsApart targets own ds t → FieldsLeadApart targets own ds fs →
    FieldsLeadApart targets own ds (fields_named ns t fs)
named-lead targets own ds [] t fs h g = g
named-lead targets own ds (n ∷ ns) t fs h g = (h, named-lead targets own ds ns t fs h g)

-- fields whose types are carried
record IsCarriedRow (targets : Targets) (own : List Domain) (r : Row) : Type 0 where
  others : AllAgreeApart targets own r.domains
  hosts : FieldHostsLeadNowhere r.fields
  further : AllHostsLeadNowhere r.domains
  leads : FieldsLeadApart targets own r.domains r.fields
  lead : AllLeadApart targets own r.domains r.domains

abbrev IsCarriedRowIfAny : Targets → List Domain → Option Row → Type 0
IsCarriedRowIfAny targets own None = Unit {0}
IsCarriedRowIfAny targets own (Some r) = IsCarriedRow targets own r

more-carried : (targets : Targets) (own : List Domain) (ns : List (List ℕ)) (t : Option Typed) (rest : Option Row) → IsCarriedType targets own t → IsCarriedRowIfAny targets own rest →
    IsCarriedRowIfAny targets own (option_and_then (λ (x : Typed). option_map (λ (r : Row). record { fields = fields_named ns x.shape r.fields; domains = x.domains ++ r.domains }) rest) t)
more-carried targets own ns None rest h g = tt
more-carried targets own ns (Some t) None h g = tt
more-carried targets own ns (Some t) (Some r) h g =
    let all = t.domains ++ r.domains in
    let apart = apart-both targets own t.domains r.domains h.others g.others in
    let here = leads-wider targets own t.domains all t.shape apart (stands-front t.domains r.domains) h.leads in
    let rest = fields-wider targets own r.domains all r.fields apart (stands-back t.domains r.domains) g.leads in
    record {
      others = apart;
      hosts = named-hosts ns t.shape r.fields h.hosts g.hosts;
      further = hosts-append t.domains r.domains h.further g.further;
      leads = named-lead targets own all ns t.shape r.fields here rest;
      lead = lead-append targets own t.domains r.domains apart h.lead g.lead;
    }

row-carried : (targets : Targets) (own : List Domain) (ns : List Node) → AllCarried targets own field_denoter ns → IsCarriedRowIfAny targets own (row_of ns)
row-carried targets own [] h = record { others = tt; hosts = tt; further = tt; leads = tt; lead = tt }
row-carried targets own (n ∷ ns) h = more-carried targets own (names_in (field_names n)) (field_denoter n).as_value.type (row_of ns) h.0 (row-carried targets own ns h.1)

-- a record of fields whose denoters are carried
row-type : (targets : Targets) (own : List Domain) (d : Definition) (p : Bool) (r : Option Row) → IsCarriedRowIfAny targets own r →
    IsCarriedType targets own (option_map (λ (x : Row). record { shape = RecordType d p x.fields; domains = x.domains }) r)
row-type targets own d p None h = tt
row-type targets own d p (Some r) h = record { others = h.others; hosts = h.hosts; further = h.further; leads = h.leads; lead = h.lead }

pub record-carried : (targets : Targets) (own : List Domain) (d : Definition) (p : Bool) (ns : List Node) → AllCarried targets own field_denoter ns →
    IsCarriedType targets own (option_map (λ (r : Row). record { shape = RecordType d p r.fields; domains = r.domains }) (row_of ns))
record-carried targets own d p ns h = row-type targets own d p (row_of ns) (row-carried targets own ns h)
