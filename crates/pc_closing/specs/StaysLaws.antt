-- What a table has stays where it gets more types and domains at the end: types, places, what rows tell, and which types are whole.
use Rattle.std.proofs.Common.{◌≡◌, ℕ, ◌<◌, ◌≤◌, Bool, true, List, [], None, get_or, length, map, refl, sym, ◌∙◌, ap, arith, length-append}
use Rattle.std.proofs.lemmas.List.{get_or_append_left, length-map, map-append}
use Rattle.pc_types.specs.Shapes.{Owner, Shape, NoMembers, MembersType, Domain}
use Rattle.pc_types.specs.Domains.{domain_in, stands_in, reached}
use Rattle.pc_types.specs.Table.{Table, Place, place_of, nobody, nowhere, numbered, shape_at, place_at, domain_at, IsThere}
use Rattle.pc_types.specs.Rows.{Kept, seen, IsInOrder}
use Rattle.pc_types.specs.declared.form.TypeId.{TypeId}
use Rattle.pc_types.specs.declared.form.DomainId.{DomainId}
use Rattle.pc_types.specs.declared.operand.Operand.{Operand}
use Rattle.pc_types.specs.declared.operand.Operand.TheVariants as operand
use Rattle.pc_pointers.specs.Good.{Targets}
use Rattle.pc_closed.specs.PlaceLaws.{domain-front}
use Rattle.pc_closed.specs.WalkLaws.{reached-law}
use Rattle.pc_closing.specs.Whole.{is_whole_in, AreWhole, AgreeAt}
use Rattle.pc_closing.specs.AgreeLaws.{agree-law}
use Rattle.pc_closing.specs.RowedLaws.{operand-rowed, target-rowed, option-rowed}
use Rattle.pc_closing.specs.Truth.{TellRows, IsLonger}

-- ---- types

stays-numbered : (a b : Table) (i : TypeId) → IsLonger a b → i.0 < length a.shapes → numbered b.shapes i ≡ numbered a.shapes i
stays-numbered a b i g l = ap (λ (v : List Shape). numbered v i) g.shapes ∙ get_or_append_left a.shapes g.more_shapes NoMembers i.0 l

pub stays-shape : (a b : Table) (x : Operand) → IsLonger a b → IsThere a x → shape_at b x ≡ shape_at a x
stays-shape a b (operand.Id i) g l = stays-numbered a b i g l
stays-shape a b (operand.Text n) g l = refl
stays-shape a b (operand.Members i) g l = ap MembersType (stays-numbered a b i g l)
stays-shape a b operand.NoMembers g l = refl

more-types : (a b : Table) → IsLonger a b → length a.shapes ≤ length b.shapes
more-types a b g = let e = ap (λ (v : List Shape). length v) g.shapes in omega (arith, e, length-append a.shapes g.more_shapes)

pub stays-there : (a b : Table) (x : Operand) → IsLonger a b → IsThere a x → IsThere b x
stays-there a b (operand.Id i) g l = omega (arith, l, more-types a b g)
stays-there a b (operand.Text n) g l = tt
stays-there a b (operand.Members i) g l = omega (arith, l, more-types a b g)
stays-there a b operand.NoMembers g l = tt

-- ---- domains

pub stays-domain : (a b : Table) (x : DomainId) → IsLonger a b → x.0 < length a.domains → domain_at b x ≡ domain_at a x
stays-domain a b x g l =
    ap (λ (ds : List Domain). get_or ds x.0 (record { owner = nobody; name = []; shape = None })) g.domains
    ∙ get_or_append_left a.domains g.more_domains (record { owner = nobody; name = []; shape = None }) x.0 l

pub stays-place : (a b : Table) (x : DomainId) → IsLonger a b → x.0 < length a.domains → place_at b x ≡ place_at a x
stays-place a b x g l =
    ap (λ (ds : List Domain). get_or (map place_of ds) x.0 nowhere) g.domains
    ∙ ap (λ (ps : List Place). get_or ps x.0 nowhere) (map-append place_of a.domains g.more_domains)
    ∙ get_or_append_left (map place_of a.domains) (map place_of g.more_domains) nowhere x.0 (omega (arith, l, length-map a.domains place_of))

-- the rows that told the truth still do
pub stays-told : (truth : Targets) (a b : Table) (count : ℕ) → IsLonger a b → count ≤ length a.domains → TellRows truth a count → TellRows truth b count
stays-told truth a b count g few h x l =
    ap (λ (p : Place). truth p.owner p.name) (stays-place a b x g (omega (arith, l, few)))
    ∙ h x l ∙ sym (ap (λ (d : Domain). d.shape) (stays-domain a b x g (omega (arith, l, few))))

-- ---- which types are whole

-- what is reached from a type of a table stands among the table's domains
pub reached-stands : (k : Kept) (x : Operand) → IsInOrder k → IsThere (seen k) x → (o : Owner) (n : List ℕ) → stands_in (reached (seen k).domains (shape_at (seen k) x)) o n ≡ true →
    stands_in (seen k).domains o n ≡ true
reached-stands k x h l =
    reached-law.least (seen k).domains (shape_at (seen k) x) (seen k).domains (operand-rowed k (seen k).domains x h l)
    (λ o n s. option-rowed (seen k).domains (seen k).domains (domain_in (seen k).domains o n) (target-rowed k (seen k).domains h o n))

-- so it is the same where more domains follow
stays-agree : (k : Kept) (b : Table) (x : Operand) → IsInOrder k → IsLonger (seen k) b → IsThere (seen k) x → AgreeAt (seen k).domains b.domains (shape_at (seen k) x)
stays-agree k b x h g l o n r = sym (ap (λ (ds : List Domain). domain_in ds o n) g.domains ∙ domain-front (seen k).domains g.more_domains o n (reached-stands k x h l o n r))

pub stays-whole : (k : Kept) (b : Table) (x : Operand) → IsInOrder k → IsLonger (seen k) b → IsThere (seen k) x →
    is_whole_in (seen k).domains (shape_at (seen k) x) ≡ is_whole_in b.domains (shape_at b x)
stays-whole k b x h g l =
    agree-law.whole (seen k).domains b.domains (shape_at (seen k) x) (stays-agree k b x h g l) ∙ ap (is_whole_in b.domains) (sym (stays-shape (seen k) b x g l))

pub stays-right : (k : Kept) (b : Table) (flags : List Bool) → IsInOrder k → IsLonger (seen k) b → length flags ≤ length (seen k).shapes → AreWhole (seen k) flags → AreWhole b flags
stays-right k b flags h g few w i l = w i l ∙ stays-whole k b (operand.Id (record { 0 = i })) h g (omega (arith, l, few))
