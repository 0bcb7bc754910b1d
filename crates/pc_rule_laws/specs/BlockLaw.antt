-- The two look-ups agree in a block.
use Rattle.std.proofs.Common.{Bool, List, None, Option, Some, [], ap, append-nil, bytes_eq, false, if◌then◌else◌, is_some, map, refl, subst, suc, sym, true, ℕ, ◌++◌, ◌||◌, ◌∙◌, ◌∷◌, ◌≡◌}
use Rattle.pc_rule_laws.specs.Agreement.{Agrees, Spot, seen_among, spot}
use Rattle.pc_rule_laws.specs.Block.{reach}
use Rattle.pc_rule_laws.specs.ClassedPlaces.{classed_at, places_in-append, places_in-classed, with_class}
use Rattle.pc_rule_laws.specs.Matching.{Matches, Matches-append, matches-declared}
use Rattle.pc_rule_laws.specs.Orderly.{Orderly}
use Rattle.pc_rule_laws.specs.Reached.{BehindIt, IntoIt, IsUse, Reached, ToIt, leads}
use Rattle.pc_rule_laws.specs.Roles.{DeclaresParameters, DeclaresRoutine, DeclaresVariables, DefinesConstant, DefinesType, ListsElements, Quiet, Role, class_by, is_routine_role, keys, places_by, role, routine-role}
use Rattle.pc_rule_laws.specs.Standing.{AllAre, AllClassed, Classed, Knows, Knows-agrees, class_of, first_of, first_of-all, is_some-class, places_in, visible}
use Rattle.pc_rule_laws.specs.Within.{beside-names, inner-names}
use Rattle.pc_rules.specs.Attributes.{Attributes, first}
use Rattle.pc_rules.specs.Places.{beside, inner}
use Rattle.pc_rules.specs.Decorated.{decorate}
use Rattle.pc_rules.specs.Meanings.{Class, Local, Meaning, Outside, entry_of, find}
use Rattle.pc_rules.specs.OwnBlock.{bare_heading, declared_in, own}
use Rattle.pc_rules.specs.Routines.{block_start}
use Rattle.pc_scope.specs.Declarations.{Meant, declared_at, name_at, names_at, names_below}
use Rattle.pc_scope.specs.Headings.{is_routine_kind}
use Rattle.pc_syntax.specs.Plain.{Cons, Forest, Nil}
use Rattle.pc_syntax.specs.Sorts.{is_hole}
use Rattle.pc_syntax.specs.Words.{is_among, lowered}
use Rattle.pc_types.specs.Sameness.{same}
use Rattle.pc_types.specs.Shapes.{Owner}
use Rattle.pc_syntax.specs.declared.kind.Kind.TheVariants as kind

-- ---- what a block declares, with its routines cut down to headings

bare-head : (q : List ℕ) (d : Option (List ℕ)) (ks : Forest) → name_at d q (bare_heading ks) ≡ name_at d q ks
bare-head q d Nil = refl
bare-head q d (Cons kind.Params w ns ks ts) = refl
bare-head q d (Cons kind.Block w ns ks ts) = refl
bare-head q d (Cons k w ns ks ts) = refl

bare-names : (q : List ℕ) (d : Option (List ℕ)) (j : ℕ) (ks : Forest) → names_at d q j (bare_heading ks) ≡ names_at d q j ks
bare-names q d j Nil = refl
bare-names q d j (Cons kind.Params w ns ks ts) = ap (λ z. record { name = lowered w; place = q ++ j ∷ []; definition = d } ∷ z) (bare-names q d (suc j) ts)
bare-names q d j (Cons kind.Block w ns ks ts) = ap (λ z. record { name = lowered w; place = q ++ j ∷ []; definition = d } ∷ z) (bare-names q d (suc j) ts)
bare-names q d j (Cons k w ns ks ts) = ap (λ z. if is_hole k then z else record { name = lowered w; place = q ++ j ∷ []; definition = d } ∷ z) (bare-names q d (suc j) ts)

own-names : (q : List ℕ) (d : Option (List ℕ)) (j : ℕ) (f : Forest) → names_at d q j (own f) ≡ names_at d q j f
unfolding own
own-names q d j Nil = refl
own-names q d j (Cons k w ns ks ts) = ap (λ z. if is_hole k then z else record { name = lowered w; place = q ++ j ∷ []; definition = d } ∷ z) (own-names q d (suc j) ts)

own-head : (q : List ℕ) (d : Option (List ℕ)) (f : Forest) → name_at d q (own f) ≡ name_at d q f
unfolding own
own-head q d Nil = refl
own-head q d (Cons k w ns ks ts) = refl

own-below : (q : List ℕ) (f : Forest) → names_below q (own f) ≡ names_below q f
unfolding own
own-below q Nil = refl
own-below q (Cons k w ns ks ts) =
    elim (is_routine_kind k) as (λ (b : Bool). names_at None (q ++ 1 ∷ []) 1 (if b then bare_heading ks else own ks) ≡ names_at None (q ++ 1 ∷ []) 1 ks) [
      | true ↦ bare-names (q ++ 1 ∷ []) None 1 ks
      | false ↦ own-names (q ++ 1 ∷ []) None 1 ks
    ]

own-places : (r : Role) (q : List ℕ) (f : Forest) → is_routine_role r ≡ false → places_by r q (own f) ≡ places_by r q f
own-places DefinesConstant q f e = own-head q (Some q) f
own-places DefinesType q f e = own-head q (Some q) f
own-places DeclaresVariables q f e = own-below q f
own-places ListsElements q f e = own-below q f
own-places (DeclaresRoutine c) q f e = cc e
own-places (DeclaresParameters c) q f e = own-below q f
own-places _ q f e = refl

bare-places : (r : Role) (q : List ℕ) (f : Forest) → is_routine_role r ≡ true → places_by r q (bare_heading f) ≡ places_by r q f
bare-places (DeclaresRoutine c) q f e = bare-head q None f
bare-places Quiet q f e = cc e
bare-places _ q f e = cc e

-- it declares the same
pub own-classed : (p : List ℕ) (i : ℕ) (f : Forest) → classed_at p i (own f) ≡ classed_at p i f
unfolding own
own-classed p i Nil = refl
own-classed p i (Cons k w ns ks ts) =
    let q : List ℕ = p ++ i ∷ [] in
    ap (λ (b : Bool). (with_class (class_by (role k)) (places_by (role k) q (if b then bare_heading ks else own ks))
    ++ (if is_routine_role (role k) then [] else classed_at q 1 (if b then bare_heading ks else own ks))) ++ classed_at p (suc i) (own ts)) (routine-role k)
    ∙ (λ j. by (is_routine_role (role k)) refl (own-classed q 1 ks) j ++ own-classed p (suc i) ts j) where
      by : (b : Bool) → is_routine_role (role k) ≡ b → classed_at (p ++ i ∷ []) 1 (own ks) ≡ classed_at (p ++ i ∷ []) 1 ks →
          with_class (class_by (role k)) (places_by (role k) (p ++ i ∷ []) (if b then bare_heading ks else own ks)) ++ (if b then [] else classed_at (p ++ i ∷ []) 1 (if b then bare_heading ks else own ks))
          ≡ with_class (class_by (role k)) (places_by (role k) (p ++ i ∷ []) ks) ++ (if b then [] else classed_at (p ++ i ∷ []) 1 ks)
      by true e ih = ap (λ z. with_class (class_by (role k)) z ++ []) (bare-places (role k) (p ++ i ∷ []) ks e)
      by false e ih = λ j. with_class (class_by (role k)) (own-places (role k) (p ++ i ∷ []) ks e j) ++ ih j

-- ---- where a block begins

passed-names : (ds : List (List ℕ × Meaning)) (n : List ℕ) → is_among (map (λ (d : List ℕ × Meaning). d.0) ds) n ≡ is_some (entry_of (keys ds) n)
passed-names [] n = refl
passed-names (d ∷ ds) n = elim (bytes_eq d.0 n) as (λ (b : Bool). (b || is_among (map (λ (d : List ℕ × Meaning). d.0) ds) n) ≡ is_some {T = Class} (if b then Some d.1.class else entry_of (keys ds) n)) [
  | true ↦ refl
  | false ↦ passed-names ds n
]

-- its parameters are known
pub Knows-start : (q n : List ℕ) (o : Owner) (self : Option (Owner × List ℕ)) (ds : List (List ℕ × Meaning)) (f : Forest) (es : List Classed) →
    Matches n (keys ds) es → AllAre true q es → Knows q n (block_start o self ds f) es
Knows-start q n o self ds f es same all = record {
  passed = passed-names ds n ∙ ap is_some same ∙ is_some-class (first_of es n);
  known = same ∙ by (first_of es n) refl;
} where
  by : (x : Option Classed) → first_of es n ≡ x → class_of x ≡ visible q x
  by None e = refl
  by (Some e) is = sym (ap (λ b. if b then Some e.class else None) (first_of-all true q n es e all is))

-- the names of the block are the same at each of its nodes
pub spot-names : (out : Outside) (l : Local) (i : ℕ) (f : Forest) (j : ℕ) (way : List ℕ) (s : Spot) → spot out l i f (j ∷ way) ≡ Some s → s.local.names ≡ l.names
unfolding spot
spot-names out l i Nil j way s e = cc e
spot-names out l i (Cons k w ns ks ts) j way s e =
    elim (leads out l i k w ns ks ts j way s e) [
      | ToIt same end here kind ↦ ap (λ (x : Local). x.names) here
      | IntoIt same m rest is apart e ↦ spot-names out (inner l k ks) 1 ks m rest s e ∙ inner-names l k ks
      | BehindIt less e ↦
          let a : Attributes = first (decorate out l (Cons k w ns ks Nil)) in
          spot-names out (beside l k a) (suc i) ts j way s e ∙ beside-names l k a
    ]

-- The law in a block. T says which class the declaration at a place has; `ds` are the parameters that the block f at the place p knows, and `es`
-- the same with their places; the way j ∷ way leads from the block to a used name. Where what the name means around the block agrees with
-- `outer`, both look-ups agree: in standing, and in the class of the declaration that is meant. A field of a with's record is aside.
pub record BlockQuery (T : List ℕ → Class → Type 0) (out : Outside) (start : Local) (ds : List (List ℕ × Meaning)) (f : Forest) (es : List Classed) (p : List ℕ) (n q : List ℕ)
    (way : List ℕ) (s : Spot) (outer : Meant) : Type 0 where
  pub orderly : Orderly (own f)
  pub parameters : Matches n (keys ds) es
  pub before : AllAre true q es
  pub classed : AllClassed T (es ++ classed_at p 1 f)
  pub stands : spot out start 1 (own f) way ≡ Some s
  pub used : IsUse s
  pub no_field : entry_of s.local.fields n ≡ None
  pub around : Agrees T (out.means n) outer

abbrev pub BlockLaw : (List ℕ → Class → Type 0) → Type 0
BlockLaw T =
    (out : Outside) (o : Owner) (self : Option (Owner × List ℕ)) (ds : List (List ℕ × Meaning)) (f : Forest) (es : List Classed)
    (p : List ℕ) (b : ℕ) (bs : List ℕ) (j : ℕ) (way : List ℕ) (s : Spot) (outer : Meant) →
    BlockQuery T out (block_start o self ds (own f)) ds f es p (b ∷ bs) (p ++ j ∷ way) (j ∷ way) s outer →
    Agrees T (find out s.local (b ∷ bs)) (seen_among (p ++ j ∷ way) (places_in es ++ declared_at p 1 f) (b ∷ bs) outer)

pub block-agrees : (T : List ℕ → Class → Type 0) → BlockLaw T
block-agrees T out o self ds f es p b bs j way s outer h =
    let n : List ℕ = b ∷ bs in
    let q : List ℕ = p ++ j ∷ way in
    let l : Local = block_start o self ds (own f) in
    let all : List Classed = es ++ classed_at p 1 f in
    let g : Reached q n s.local all =
    subst (Reached q n s.local) (ap (λ z. es ++ z) (append-nil (classed_at p 1 (own f)) ∙ own-classed p 1 f))
    (reach out b bs p q 1 l (own f) j way es [] s h.orderly h.stands h.used refl (Knows-start q n o self ds (own f) es h.parameters h.before) tt) in
    let names : entry_of s.local.names n ≡ class_of (first_of all n) =
    ap (λ z. entry_of z n) (spot-names out l 1 (own f) j way s h.stands)
    ∙ Matches-append n (keys ds) (declared_in (own f)) es (classed_at p 1 f) h.parameters (matches-declared b bs p 1 (own f) h.orderly ∙ ap (λ z. class_of (first_of z n)) (own-classed p 1 f)) in
    let back : all ≡ g.before ++ g.others = sym g.whole in
    subst (λ z. Agrees T (find out s.local n) (seen_among q z n outer)) (ap places_in g.whole ∙ places_in-append es (classed_at p 1 f) ∙ ap (λ z. places_in es ++ z) (places_in-classed p 1 f))
    (Knows-agrees T q n out s.local outer g.before g.others g.knows g.hidden (names ∙ ap (λ z. class_of (first_of z n)) back) (subst (AllClassed T) back h.classed) h.no_field h.around)
