-- The parts of a routine's own block, and the types that it knows.
use Rattle.std.specs.Prelude.{◌≡◌, ℕ, Bool, true, false, List, [], ◌∷◌, map}
use Rattle.std.specs.Option.{is_some}
use Rattle.std.proofs.Common.{refl, ap, sym, ◌∙◌, subst, true≢false, inl, inr}
use Rattle.pc_syntax.specs.declared.kind.Kind.{Kind}
use Rattle.pc_syntax.specs.declared.kind.Kind.TheVariants as kind
use Rattle.pc_syntax.specs.Layout.{layout}
use Rattle.pc_syntax.specs.Plain.{Forest, Nil, Cons, Plain, count, kinds, forest_of}
use Rattle.pc_syntax.specs.WellFormed.{WellFormed, IsWellFormed, IsProper, fits_some}
use Rattle.pc_syntax.specs.Words.{is_among}
use Rattle.pc_rules.specs.Meanings.{Class, Meaning, entry_of}
use Rattle.pc_rules.specs.OwnBlock.{own, declared_in}
use Rattle.pc_rules.specs.RoutineList.{routines_of}
use Rattle.pc_rules.specs.Routines.{Routine, parameters_of, start_of}
use Rattle.pc_needs.specs.Unaffected.{IsOneOf}
use Rattle.pc_needs.proofs.Lists.{each-one}
use Rattle.pc_program_laws.specs.Routines.{with_bare_routines}
use Rattle.pc_program_laws.proofs.BlockLemmas.{block-parts}
use Rattle.pc_program_laws.proofs.OwnLemmas.{own-block}
use Rattle.pc_program_laws.proofs.TouchLemmas.{IsOwn, HasOwn, routines-own}
use Rattle.pc_carrying.specs.KindLaws.{kind-law}
use Rattle.pc_carrying.specs.Parts.{AllRoutines}
use Rattle.pc_block_laws.specs.Block.{type_names}
use Rattle.pc_block_laws.specs.OwnTypes.{IsOwnBlock, ParametersLaw, PartsLaw, RoutineTypesLaw, OwnLaw}
use Rattle.pc_block_laws.proofs.OwnTypesLemmas.{type-part, own-types}
use Rattle.pc_block_laws.proofs.RoutineParameters.{routine-parameters}
use Rattle.pc_block_laws.proofs.TypeNameLemmas.{some-back, some-front, definitions-declared}

-- ---- the trees of a row

abbrev nobody-there : Plain
nobody-there = record { kind = kind.Empty; word = []; notes = []; kids = Nil }

abbrev front : Forest → Plain
front Nil = nobody-there
front (Cons k w ns ks ts) = record { kind = k; word = w; notes = ns; kids = ks }

abbrev behind : Forest → Forest
behind Nil = Nil
behind (Cons k w ns ks ts) = ts

abbrev is_none : Forest → Bool
is_none Nil = true
is_none (Cons k w ns ks ts) = false

-- ---- the parts of an own block

-- well-formed parts of their kinds; the routines are bare
pub record ArePartsOf (constants types variables routines body : Plain) : Type 0 where
  pub first : constants.kind ≡ kind.Consts
  pub second : types.kind ≡ kind.Types
  pub third : variables.kind ≡ kind.Vars
  pub fourth : routines.kind ≡ kind.Routines
  pub constants_fit : IsWellFormed constants
  pub types_fit : IsWellFormed types
  pub variables_fit : IsWellFormed variables
  pub bare : AllRoutines routines.kids

own-parts : (w : List ℕ) (f : Forest) (constants types variables routines body : Plain) → fits_some (layout kind.Block w (count f)) (kinds f) ≡ true → WellFormed f →
    own f ≡ forest_of (constants ∷ types ∷ variables ∷ routines ∷ body ∷ []) → ArePartsOf constants types variables routines body
own-parts w f constants types variables routines body fit h e =
    let b = block-parts w f fit in
    let g = subst WellFormed b.is h in
    let bare : forest_of (constants ∷ types ∷ variables ∷ routines ∷ body ∷ []) ≡ with_bare_routines (Cons kind.Consts b.v1 b.n1 b.k1 (Cons kind.Types b.v2 b.n2 b.k2 (Cons kind.Vars b.v3 b.n3 b.k3 (Cons kind.Routines b.v4 b.n4 b.k4 (Cons b.j b.v5 b.n5 b.k5 Nil))))) =
    sym e ∙ own-block w f fit h ∙ ap with_bare_routines b.is in
    let one = ap front bare in
    let two = ap (λ (x : Forest). front (behind x)) bare in
    let three = ap (λ (x : Forest). front (behind (behind x))) bare in
    let four = ap (λ (x : Forest). front (behind (behind (behind x)))) bare in
    let listed : IsWellFormed (record { kind = kind.Routines; word = b.v4; notes = b.n4; kids = b.k4 }) = (g.4.4.4.0, g.4.4.4.1, g.4.4.4.2, g.4.4.4.3, tt) in
    record {
      first = ap (λ (x : Plain). x.kind) one;
      second = ap (λ (x : Plain). x.kind) two;
      third = ap (λ (x : Plain). x.kind) three;
      fourth = ap (λ (x : Plain). x.kind) four;
      constants_fit = subst IsWellFormed (sym one) (g.0, g.1, g.2, g.3, tt);
      types_fit = subst IsWellFormed (sym two) (g.4.0, g.4.1, g.4.2, g.4.3, tt);
      variables_fit = subst IsWellFormed (sym three) (g.4.4.0, g.4.4.1, g.4.4.2, g.4.4.3, tt);
      bare = subst AllRoutines (sym (ap (λ (x : Plain). x.kids) four)) (kind-law.own_routines b.k4 (kind-law.routines (record { kind = kind.Routines; word = b.v4; notes = b.n4; kids = b.k4 }) listed refl));
    }

pub routine-parts : (t : Plain) (r : Routine) (constants types variables routines body : Plain) → IsProper t → IsOneOf (routines_of t) r → IsOwnBlock r constants types variables routines body →
    ArePartsOf constants types variables routines body
routine-parts t r constants types variables routines body proper i e = by (each-one HasOwn (routines_of t) r i (routines-own t proper)) where
  by : IsOwn r.block → ArePartsOf constants types variables routines body
  by (inl none) = absurd (true≢false (ap is_none (sym none ∙ e)))
  by (inr x) = own-parts x.0 x.1 constants types variables routines body x.2 x.3 (sym x.4 ∙ e)

pub are-parts : PartsLaw
are-parts t r constants types variables routines body proper i e =
    let p = routine-parts t r constants types variables routines body proper i e in
    record {
      first = p.first;
      second = p.second;
      third = p.third;
      fourth = p.fourth;
      in_constants = kind-law.constants constants p.constants_fit p.first;
      in_types = kind-law.types types p.types_fit p.second;
      in_variables = kind-law.variables variables p.variables_fit p.third;
      in_routines = p.bare;
    }

-- ---- the types that it knows

-- a block with this type part declares the names in it
types-declared : (constants types : Plain) (rest : Forest) (n : List ℕ) → constants.kind ≡ kind.Consts → types.kind ≡ kind.Types → IsWellFormed types → is_among (type_names types.kids) n ≡ true →
    is_some (entry_of (declared_in (Cons constants.kind constants.word constants.notes constants.kids (Cons types.kind types.word types.notes types.kids rest))) n) ≡ true
types-declared constants types rest n kc kt c q =
    subst (λ (k : Kind). is_some (entry_of (declared_in (Cons k constants.word constants.notes constants.kids (Cons types.kind types.word types.notes types.kids rest))) n) ≡ true) (sym kc)
    (some-back {X = Class} (declared_in constants.kids) (declared_in (Cons types.kind types.word types.notes types.kids rest)) n
    (subst (λ (k : Kind). is_some (entry_of (declared_in (Cons k types.word types.notes types.kids rest)) n) ≡ true) (sym kt)
    (some-front {X = Class} (declared_in types.kids) (declared_in rest) n (definitions-declared types.kids n c.3 (type-part types c kt) q))))

pub parameters-law : ParametersLaw
parameters-law t r proper program i = (routine-parameters t r proper program i).1

pub routine-types : RoutineTypesLaw
routine-types t r out constants types variables routines body proper program i e =
    let p = routine-parts t r constants types variables routines body proper i e in
    own-types out (start_of r) constants types p.constants_fit p.types_fit p.first p.second (parameters-law t r proper program i)
    (λ n q. some-back {X = Class} (map (λ (d : List ℕ × Meaning). (d.0, d.1.class)) (parameters_of r)) (declared_in r.block) n
    (subst (λ (b : Forest). is_some (entry_of (declared_in b) n) ≡ true) (sym e)
    (types-declared constants types (forest_of (variables ∷ routines ∷ body ∷ [])) n p.first p.second p.types_fit q)))

pub own-law : OwnLaw
own-law = record { place = own-types; parameters = parameters-law; parts = are-parts; routine = routine-types }
