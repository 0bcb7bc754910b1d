-- Each routine of a program has a block by places, so the two look-ups agree in all of them.
use Rattle.pc_syntax.specs.declared.kind.Kind.TheVariants.{Hole}
use Rattle.std.proofs.Common.{Bool, List, Option, Some, [], ap, arith, false, refl, subst, suc, sym, true, zero, ℕ, ◌++◌, ◌+◌, ◌∙◌, ◌∷◌, ◌≡◌}
use Rattle.std.proofs.lemmas.Bool.{and_parts}
use Rattle.std.specs.Prelude.{slice_get}
use Rattle.pc_lookup_law.specs.ClassAt.{HasClass, class_inside}
use Rattle.pc_lookup_law.specs.ProgramLaw.{AgreesInBlock, AgreesInHeading, ProgramLaw}
use Rattle.pc_lookup_law.proofs.BelongsLaws.{Belongs, names-of-block}
use Rattle.pc_lookup_law.proofs.BlockKidsLaws.{BlockKids, below-block, block-cases, kids-other, whole-is}
use Rattle.pc_lookup_law.proofs.GoingLaws.{Going, going-hole, going-routine, next_of}
use Rattle.pc_lookup_law.proofs.InnerBlockLaws.{ListOf, forward_parameters, inner-belongs, this_block}
use Rattle.pc_lookup_law.proofs.KidsLaws.{EndsInBlock, ProgramKids, headed, headed-ends, is_whole, program-kids}
use Rattle.pc_lookup_law.proofs.ListLaws.{list-going, list-of, list-routines, list_start}
use Rattle.pc_lookup_law.proofs.ProgramBlockLaws.{program-belongs}
use Rattle.pc_rule_laws.specs.Agreement.{Agrees, spot}
use Rattle.pc_rule_laws.specs.HeadingNames.{heading-agrees}
use Rattle.pc_rule_laws.specs.Orderly.{IsNil}
use Rattle.pc_rule_laws.specs.Roles.{role}
use Rattle.pc_rules.specs.OwnBlock.{heading_part, own}
use Rattle.pc_rules.specs.Outsides.{outside_of}
use Rattle.pc_rules.specs.RequiredMeanings.{required_or_missing}
use Rattle.pc_types.specs.Shapes.{Keyed}
use Rattle.pc_rule_laws.specs.Quiet.{Asked, asked, hole-nil}
use Rattle.pc_rules.specs.Meanings.{Class, Local, find}
use Rattle.pc_rules.specs.RoutineList.{Forwarded, forwarded_by, key_of, program_routine, routine_of, routines_below, routines_in, routines_of}
use Rattle.pc_rules.specs.Routines.{Routine, bare, heading_start, start_of}
use Rattle.pc_scope.specs.Around.{Block, program_block}
use Rattle.pc_scope.specs.Blocks.{block_kids, kid_count, routines_among}
use Rattle.pc_scope.specs.Headings.{Heading, heading_of, is_routine_kind}
use Rattle.pc_syntax.specs.Classes.{is_program, is_routine}
use Rattle.pc_syntax.specs.Fits.{takes_from}
use Rattle.pc_syntax.specs.Plain.{Cons, Forest, Nil, Plain, kinds}
use Rattle.pc_syntax.specs.WellFormed.{IsWellFormed, WellFormed}
use Rattle.pc_syntax.specs.Words.{lower, lowered}
use Rattle.pc_syntax.specs.declared.kind.Kind.{Kind}
use Rattle.pc_syntax.specs.declared.sort.Sort.{Sort}
use Rattle.pc_syntax.specs.declared.kind.Kind.TheVariants as kind

-- a routine has a block by places
pub record Settled (t : Plain) (r : Routine) : Type 0 where
  pub block : Block
  pub belongs : Belongs t r block

-- each of these has one
abbrev pub AllSettled : Plain → List Routine → Type 0
AllSettled t [] = Unit {0}
AllSettled t (r ∷ rs) = Settled t r × AllSettled t rs

AllSettled-append : (t : Plain) (xs ys : List Routine) → AllSettled t xs → AllSettled t ys → AllSettled t (xs ++ ys)
AllSettled-append t [] ys a b = b
AllSettled-append t (x ∷ xs) ys a b = (a.0, AllSettled-append t xs ys a.1 b)

-- routines, or holes
abbrev RoutineKinds : Forest → Type 0
RoutineKinds Nil = Unit {0}
RoutineKinds (Cons k w ns ks ts) = (is_routine k ≡ true) × RoutineKinds ts

routine-kinds : (i : ℕ) (f : Forest) → takes_from kind.Routines i (kinds f) ≡ true → RoutineKinds f
routine-kinds i Nil e = tt
routine-kinds i (Cons k w ns ks ts) e =
    let a = and_parts (is_routine k) (takes_from kind.Routines (suc i) (kinds ts)) e in
    (a.0, routine-kinds (suc i) ts a.1)

-- what is to be shown of a list of routines from one on, and of the kids of a block
abbrev ListClaim : Plain → Forest → Type 0
ListClaim t f =
    (r : Routine) (b : Block) (start : Local) (c : Option Class) (l : Local) (fs : List Forwarded) (gs : List Heading) (key : Option (List (List ℕ))) →
    ListOf t r b start → WellFormed f → RoutineKinds f → Going t (bare r.means) (b.place ++ 4 ∷ []) (routines_among b.kids) c start l fs gs f →
    AllSettled t (routines_in r.means l fs (b.place ++ 4 ∷ []) key f)

abbrev BlockClaim : Plain → Forest → Type 0
BlockClaim t f = (r : Routine) (b : Block) (key : Option (List (List ℕ))) → Belongs t r b → b.kids ≡ f → AllSettled t (routines_in r.means (start_of r) [] b.place key f)

-- ---- one routine

last-kid : (n : ℕ) → suc n ≡ 1 + n
last-kid n = omega arith

settled-below : (t : Plain) (r : Routine) (b : Block) (ks : Forest) → Belongs t r b → b.kids ≡ block_kids ks → r.block_kid ≡ kid_count ks → EndsInBlock ks → BlockClaim t (block_kids ks) →
    AllSettled t (routines_below r 1 ks)
settled-below t r b ks h same number ends claim =
    let e : routines_below r 1 ks ≡ routines_in r.means (start_of r) [] b.place (key_of r.owner) (block_kids ks) =
    below-block r 1 (kid_count ks) ks ends (last-kid (kid_count ks))
    ∙ ap (λ z. routines_in r.means (start_of r) [] z (key_of r.owner) (block_kids ks)) (ap (λ n. r.place ++ n ∷ []) (sym number) ∙ sym h.place) in
    subst (AllSettled t) (sym e) (claim r b (key_of r.owner) h same)

abbrev routine_at : Routine → Local → List Forwarded → List ℕ → Option (List (List ℕ)) → Kind → List ℕ → List (List ℕ) → Forest → Routine
routine_at r l fs p key k w ns ks = routine_of (find (bare r.means) (next_of (bare r.means) l k w ns ks)) l fs (p ++ l.kid ∷ []) key k ks

routine-settled : (t : Plain) (k : Kind) (w : List ℕ) (ns : List (List ℕ)) (ks ts : Forest) → is_routine_kind k ≡ true → BlockClaim t (block_kids ks) → ListClaim t ts →
    (r : Routine) (b : Block) (start : Local) (c : Option Class) (l : Local) (fs : List Forwarded) (gs : List Heading) (key : Option (List (List ℕ))) →
    ListOf t r b start → WellFormed (Cons k w ns ks ts) → RoutineKinds ts → Going t (bare r.means) (b.place ++ 4 ∷ []) (routines_among b.kids) c start l fs gs (Cons k w ns ks ts) →
    AllSettled t
    ((routine_at r l fs (b.place ++ 4 ∷ []) key k w ns ks ∷ routines_below (routine_at r l fs (b.place ++ 4 ∷ []) key k w ns ks) 1 ks)
    ++ routines_in r.means (next_of (bare r.means) l k w ns ks) (forwarded_by l (routine_at r l fs (b.place ++ 4 ∷ []) key k w ns ks) fs) (b.place ++ 4 ∷ []) key ts)
routine-settled t k w ns ks ts is claim rest r b start c l fs gs key list sound kinds going =
    let u : Routine = routine_at r l fs (b.place ++ 4 ∷ []) key k w ns ks in
    let d : Block = this_block t r b start c l fs gs key k w ns ks ts list is sound going in
    let h : Belongs t u d = inner-belongs t r b start c l fs gs key k w ns ks ts list is sound going in
    AllSettled-append t (u ∷ routines_below u 1 ks) (routines_in r.means (next_of (bare r.means) l k w ns ks) (forwarded_by l u fs) (b.place ++ 4 ∷ []) key ts)
    (record { block = d; belongs = h }, settled-below t u d ks h refl refl (headed-ends ks (headed k w ks is (asked k w ks sound.0))) claim)
    (rest r b start c (next_of (bare r.means) l k w ns ks) (forwarded_by l u fs) (gs ++ heading_of k ks ∷ []) key list sound.4 kinds
    (going-routine t (bare r.means) (b.place ++ 4 ∷ []) (routines_among b.kids) c start l fs gs k w ns ks ts u is going (forward_parameters t r b start c l fs gs key k w ns ks ts list is sound going)))

-- ---- all of them

hole-settled : (t : Plain) (z : Sort) (w : List ℕ) (ns : List (List ℕ)) (ks ts : Forest) → ListClaim t ts →
    (r : Routine) (b : Block) (start : Local) (c : Option Class) (l : Local) (fs : List Forwarded) (gs : List Heading) (key : Option (List (List ℕ))) →
    ListOf t r b start → WellFormed (Cons (kind.Hole z) w ns ks ts) → RoutineKinds ts → Going t (bare r.means) (b.place ++ 4 ∷ []) (routines_among b.kids) c start l fs gs (Cons (kind.Hole z) w ns ks ts) →
    AllSettled t (routines_in r.means (next_of (bare r.means) l (kind.Hole z) w ns ks) fs (b.place ++ 4 ∷ []) key ts)
hole-settled t z w ns Nil ts rest r b start c l fs gs key list sound kinds going =
    rest r b start c (next_of (bare r.means) l (kind.Hole z) w ns Nil) fs (gs ++ heading_of (kind.Hole z) Nil ∷ []) key list sound.4 kinds
    (going-hole t (bare r.means) (b.place ++ 4 ∷ []) (routines_among b.kids) c start l fs gs z w ns ts going)
hole-settled t z w ns (Cons j v os js us) ts rest r b start c l fs gs key list sound kinds going = cc (asked (kind.Hole z) w (Cons j v os js us) sound.0).placed

list-cons : (t : Plain) (k : Kind) (w : List ℕ) (ns : List (List ℕ)) (ks ts : Forest) → BlockClaim t (block_kids ks) → ListClaim t ts → ListClaim t (Cons k w ns ks ts)
unfolding routines_in routines_below
list-cons t kind.Procedure w ns ks ts claim rest r b start c l fs gs key list sound kinds going =
    routine-settled t kind.Procedure w ns ks ts refl claim rest r b start c l fs gs key list sound kinds.1 going
list-cons t kind.Function w ns ks ts claim rest r b start c l fs gs key list sound kinds going =
    routine-settled t kind.Function w ns ks ts refl claim rest r b start c l fs gs key list sound kinds.1 going
list-cons t kind.Funbody w ns ks ts claim rest r b start c l fs gs key list sound kinds going =
    routine-settled t kind.Funbody w ns ks ts refl claim rest r b start c l fs gs key list sound kinds.1 going
list-cons t (kind.Hole z) w ns ks ts claim rest r b start c l fs gs key list sound kinds going = hole-settled t z w ns ks ts rest r b start c l fs gs key list sound kinds.1 going
list-cons t _ w ns ks ts claim rest r b start c l fs gs key list sound kinds going = cc kinds.0

-- of the kids of the trees, that of the n-th
abbrev KidsClaim : Plain → ℕ → Forest → Type 0
KidsClaim t n Nil = Unit {0}
KidsClaim t zero (Cons k w ns ks ts) = ListClaim t ks
KidsClaim t (suc n) (Cons k w ns ks ts) = KidsClaim t n ts

nothing-settled : (t : Plain) → BlockClaim t Nil
unfolding routines_in
nothing-settled t r b key h same = tt

block-claim : (t : Plain) (f : Forest) → ((n : ℕ) → KidsClaim t n f) → BlockClaim t f
block-claim t f claims r b key h same =
    block-cases
    (λ f. ((n : ℕ) → KidsClaim t n f) → WellFormed f → b.kids ≡ f → AllSettled t (routines_in r.means (start_of r) [] b.place key f))
    (λ claims sound same. nothing-settled t r b key h same)
    (λ w1 w2 w3 w4 n1 n2 n3 n4 c1 c2 c3 rs rest claims sound same.
    let start : Local = list_start t r b w1 w2 w3 w4 n1 n2 n3 n4 c1 c2 c3 rs rest in
    subst (AllSettled t) (sym (list-routines t r b w1 w2 w3 w4 n1 n2 n3 n4 c1 c2 c3 rs rest key h same))
    (claims 3 r b start (class_inside h.given kind.Routines) start [] [] key (list-of t r b w1 w2 w3 w4 n1 n2 n3 n4 c1 c2 c3 rs rest h same) sound.4.4.4.3
    (routine-kinds 0 rs (asked kind.Routines w4 rs sound.4.4.4.0).placed) (list-going t r b w1 w2 w3 w4 n1 n2 n3 n4 c1 c2 c3 rs rest h same)))
    f (subst BlockKids same h.kids.kids) claims (subst WellFormed same h.kids.sound) same

below-cons : (t : Plain) (k : Kind) (w : List ℕ) (ns : List (List ℕ)) (ks ts : Forest) → BlockClaim t ks → BlockClaim t (block_kids ts) → BlockClaim t (block_kids (Cons k w ns ks ts))
below-cons t k w ns ks ts inside behind = by (is_whole k) refl where
  by : (b : Bool) → is_whole k ≡ b → BlockClaim t (block_kids (Cons k w ns ks ts))
  by true e = subst (λ (x : Kind). BlockClaim t (block_kids (Cons x w ns ks ts))) (sym (whole-is k e)) inside
  by false e = subst (BlockClaim t) (sym (kids-other k w ns ks ts e)) behind

record Claims (t : Plain) (f : Forest) : Type 0 where
  list : ListClaim t f
  kids : (n : ℕ) → KidsClaim t n f
  below : BlockClaim t (block_kids f)

nothing-listed : (t : Plain) → ListClaim t Nil
unfolding routines_in
nothing-listed t r b start c l fs gs key list sound kinds going = tt

kids-claim : (t : Plain) (k : Kind) (w : List ℕ) (ns : List (List ℕ)) (ks ts : Forest) → ListClaim t ks → ((n : ℕ) → KidsClaim t n ts) → (n : ℕ) → KidsClaim t n (Cons k w ns ks ts)
kids-claim t k w ns ks ts a b zero = a
kids-claim t k w ns ks ts a b (suc n) = b n

all-claims : (t : Plain) (f : Forest) → Claims t f
all-claims t Nil = record { list = nothing-listed t; kids = λ n. tt; below = nothing-settled t }
all-claims t (Cons k w ns ks ts) =
    let a : Claims t ks = all-claims t ks in
    let b : Claims t ts = all-claims t ts in
    record { list = list-cons t k w ns ks ts a.below b.list; kids = kids-claim t k w ns ks ts a.list b.kids; below = below-cons t k w ns ks ts (block-claim t ks a.kids) b.below }

-- each routine of a program has a block
pub routines-settled : (t : Plain) → IsWellFormed t → t.kind ≡ kind.Program → AllSettled t (routines_of t)
unfolding routines_of
routines-settled t sound is =
    let h : Belongs t (program_routine t) (program_block t) = program-belongs t sound is in
    let k : ProgramKids t.kids = program-kids t.word t.kids (subst (λ z. Asked z t.word t.kids) is (asked t.kind t.word t.kids sound.0)) in
    (record { block = program_block t; belongs = h }, settled-below t (program_routine t) (program_block t) t.kids h refl (sym k.count) k.ends (all-claims t t.kids).below)

-- ---- the law

-- at the used names of a heading
pub names-of-heading : (t : Plain) (r : Routine) (b : Block) → Belongs t r b → AgreesInHeading t r
names-of-heading t r b h x xs j way s e u =
    let n : List ℕ = lowered (x ∷ xs) in
    let used = h.heading.used (bare r.means) r.owner j way s e u in
    subst (λ m. Agrees (HasClass t) (find (bare r.means) s.local n) m) (sym (h.beside (x ∷ xs) j way used.1))
    (subst (λ f. Agrees (HasClass t) f (h.outer n (r.place ++ j ∷ way))) (sym (heading-agrees r.means n r.owner r.heading j way s h.heading.trees e)) (h.around (lower x) (lowered xs) j way used.0))

settled-agrees : (t : Plain) (rs : List Routine) (i : ℕ) (r : Routine) → AllSettled t rs → slice_get rs i ≡ Some r → AgreesInBlock t r × AgreesInHeading t r
settled-agrees t [] i r a e = cc e
settled-agrees t (u ∷ rs) zero r a e =
    let same : u ≡ r = cc e in
    subst (λ (x : Routine). AgreesInBlock t x × AgreesInHeading t x) same (names-of-block t (routines_of t) u a.0.block a.0.belongs, names-of-heading t u a.0.block a.0.belongs)
settled-agrees t (u ∷ rs) (suc i) r a e = settled-agrees t rs i r a.1 e

-- a program that is a hole uses no names
nothing-used : (t : Plain) → t.kids ≡ Nil → AgreesInBlock t (program_routine t) × AgreesInHeading t (program_routine t)
unfolding own spot
nothing-used t none = (
  λ x xs j way s e u no_field. absurd (cc (sym (ap (λ f. spot (outside_of (routines_of t) (program_routine t)) (start_of (program_routine t)) 1 (own (block_kids f)) (j ∷ way)) none) ∙ e)),
  λ x xs j way s e u. absurd (cc (sym (ap (λ f. spot (bare required_or_missing) (heading_start (Keyed [])) 1 (heading_part f) (j ∷ way)) none) ∙ e)),
)

hole-agrees : (t : Plain) → t.kids ≡ Nil → (i : ℕ) (r : Routine) → slice_get (routines_of t) i ≡ Some r → AgreesInBlock t r × AgreesInHeading t r
unfolding routines_of routines_in routines_below
hole-agrees t none zero r e =
    let same : program_routine t ≡ r = cc e in
    subst (λ (x : Routine). AgreesInBlock t x × AgreesInHeading t x) same (nothing-used t none)
hole-agrees t none (suc i) r e = absurd (cc (sym (ap (λ f. slice_get (routines_below (program_routine t) 1 f) i) none) ∙ e))

nil-is : (f : Forest) → IsNil f → f ≡ Nil
nil-is Nil h = refl
nil-is (Cons k w ns ks ts) h = absurd h

law-of : (k : Kind) (t : Plain) → t.kind ≡ k → is_program k ≡ true → IsWellFormed t → (i : ℕ) (r : Routine) → slice_get (routines_of t) i ≡ Some r → AgreesInBlock t r × AgreesInHeading t r
law-of kind.Program t same is sound i r e = settled-agrees t (routines_of t) i r (routines-settled t sound same) e
law-of (kind.Hole z) t same is sound i r e = hole-agrees t (nil-is t.kids (hole-nil t.kind t.kids (ap role same) (asked t.kind t.word t.kids sound.0).placed)) i r e
law-of _ t same is sound i r e = cc is

pub program-law : ProgramLaw
program-law t sound is i r e = law-of t.kind t refl is sound i r e
