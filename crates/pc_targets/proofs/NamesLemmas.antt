-- No block of a well-formed program declares the empty name.
use Rattle.std.proofs.Common.{◌≡◌, ℕ, suc, Bool, true, false, if◌then◌else◌, List, [], ◌∷◌, ◌++◌, Option, None, refl, sym, ◌∙◌, ap, true≢false, map}
use Rattle.std.proofs.lemmas.Bool.{and_parts}
use Rattle.std.specs.Option.{is_some}
use Rattle.pc_syntax.specs.declared.kind.Kind.{Kind}
use Rattle.pc_syntax.specs.declared.kind.Kind.TheVariants as kind
use Rattle.pc_syntax.specs.declared.class.Class.TheVariants as class
use Rattle.pc_syntax.specs.Classes.{has}
use Rattle.pc_syntax.specs.Fits.{takes_from}
use Rattle.pc_syntax.specs.Layout.{layout}
use Rattle.pc_syntax.specs.Plain.{Forest, Nil, Cons, count, kinds, Plain}
use Rattle.pc_syntax.specs.Sorts.{is_hole}
use Rattle.pc_syntax.specs.WellFormed.{WellFormed, fits_some, IsProper}
use Rattle.pc_syntax.specs.Words.{lowered, is_identifier}
use Rattle.pc_types.specs.Shapes.{Owner, Keyed}
use Rattle.pc_scope.specs.Headings.{is_routine_kind, first_name, names_of, names_of_first}
use Rattle.pc_scope.specs.Blocks.{block_kids}
use Rattle.pc_rules.specs.Declarations.{routine_class}
use Rattle.pc_rules.specs.Meanings.{Class, ConstantName, ElementName, TypeName, VariableName, entry_of, Meaning, Found}
use Rattle.pc_rules.specs.OwnBlock.{own, bare_heading, named_of_class, all_of_class, declared_by, declared_in}
use Rattle.pc_rules.specs.Errors.{is_program}
use Rattle.pc_rules.specs.RequiredMeanings.{required_or_missing}
use Rattle.pc_rules.specs.RoutineList.{program_routine}
use Rattle.pc_rules.specs.Routines.{firsts, heading_marks, params_in, parameters_of}
use Rattle.pc_needs.proofs.BodyKinds.{node-takes, either-way}
use Rattle.pc_rule_laws.specs.Standing.{or_else, entry_of-append}
use Rattle.pc_rule_laws.specs.Roles.{role}
use Rattle.pc_targets.specs.Program.{declares}
use Rattle.pc_targets.proofs.HeadingLemmas.{is_silent, heads-silent, marks_in, params-silent}

-- the empty name isn't among some
abbrev pub NotEmpty : List (List ℕ × Class) → Type 0
NotEmpty names = entry_of names [] ≡ None

pub append-none : (xs ys : List (List ℕ × Class)) → NotEmpty xs → NotEmpty ys → NotEmpty (xs ++ ys)
append-none xs ys e f = entry_of-append xs ys [] ∙ ap (λ (o : Option Class). or_else o (entry_of ys [])) e ∙ f

named-none : (c : Class) (n : List ℕ) → NotEmpty (named_of_class c n)
named-none c [] = refl
named-none c (b ∷ bs) = refl

-- ---- lists of names

-- a name that isn't empty, in front of others
one-more : (c : Class) (v : List ℕ) (js : Forest) (ns : List (List ℕ)) → fits_some (layout kind.Name v (count js)) (kinds js) ≡ true → NotEmpty (all_of_class c ns) → NotEmpty (all_of_class c (lowered v ∷ ns))
unfolding is_identifier
one-more c [] js ns e h = absurd (true≢false (sym e))
one-more c (b ∷ bs) js ns e h = h

list-none : (c : Class) (n : ℕ) (f : Forest) → WellFormed f → takes_from kind.Names n (kinds f) ≡ true → NotEmpty (all_of_class c (names_of f))
list-none c n Nil w e = refl
list-none c n (Cons k v ns ks ts) w e =
    let x = and_parts (has class.Name k) (takes_from kind.Names (suc n) (kinds ts)) e in
    by k x.0 w.0 (list-none c (suc n) ts w.4 x.1) where
      by : (j : Kind) → has class.Name j ≡ true → fits_some (layout j v (count ks)) (kinds ks) ≡ true → NotEmpty (all_of_class c (names_of ts)) →
          NotEmpty (all_of_class c (if is_hole j then names_of ts else lowered v ∷ names_of ts))
      by kind.Name h f g = one-more c v ks (names_of ts) f g
      by (kind.Hole s) h f g = g
      by _ h f g = absurd (true≢false (sym h))

own-names : (f : Forest) → names_of (own f) ≡ names_of f
unfolding own
own-names Nil = refl
own-names (Cons k w ns ks ts) = ap (λ (x : List (List ℕ)). if is_hole k then x else lowered w ∷ x) (own-names ts)

-- the list of names that stands first
head-none : (c : Class) (k : Kind) (w : List ℕ) (ns : List (List ℕ)) (ks ts : Forest) → has class.Names k ≡ true → fits_some (layout k w (count ks)) (kinds ks) ≡ true → WellFormed ks →
    NotEmpty (all_of_class c (names_of_first (own (Cons k w ns ks ts))))
unfolding own
head-none c kind.Names w ns ks ts e f g = ap (λ (x : List (List ℕ)). entry_of (all_of_class c x) []) (own-names ks) ∙ list-none c 0 ks g (node-takes kind.Names w ks f)
head-none c _ w ns ks ts e f g = absurd (true≢false (sym e))

-- ---- blocks

variables-none : (w : List ℕ) (f : Forest) → fits_some (layout kind.Vardef w (count f)) (kinds f) ≡ true → WellFormed f → NotEmpty (all_of_class VariableName (names_of_first (own f)))
variables-none (b ∷ w) f e g = absurd (true≢false (sym e))
variables-none [] Nil e g = absurd (true≢false (sym e))
variables-none [] (Cons k w ns ks ts) e g = head-none VariableName k w ns ks ts (and_parts (has class.Names k) _ e).0 g.0 g.3

elements-none : (w : List ℕ) (f : Forest) → fits_some (layout kind.Enum w (count f)) (kinds f) ≡ true → WellFormed f → NotEmpty (all_of_class ElementName (names_of_first (own f)))
elements-none (b ∷ w) f e g = absurd (true≢false (sym e))
elements-none [] Nil e g = absurd (true≢false (sym e))
elements-none [] (Cons k w ns ks ts) e g = head-none ElementName k w ns ks ts (and_parts (has class.Names k) _ e).0 g.0 g.3

-- what a node declares itself
node-none : (k : Kind) (w : List ℕ) (ks : Forest) → fits_some (layout k w (count ks)) (kinds ks) ≡ true → WellFormed ks →
    NotEmpty (declared_by k (if is_routine_kind k then bare_heading ks else own ks))
node-none kind.Constdef w ks e g = named-none ConstantName (first_name (own ks))
node-none kind.Typedef w ks e g = named-none TypeName (first_name (own ks))
node-none kind.Vardef w ks e g = variables-none w ks e g
node-none kind.Enum w ks e g = elements-none w ks e g
node-none kind.Procedure w ks e g = named-none (routine_class kind.Procedure) (first_name (bare_heading ks))
node-none kind.Function w ks e g = named-none (routine_class kind.Function) (first_name (bare_heading ks))
node-none kind.Funbody w ks e g = named-none (routine_class kind.Funbody) (first_name (bare_heading ks))
node-none _ w ks e g = refl

-- what a block declares
pub block-none : (f : Forest) → WellFormed f → NotEmpty (declared_in (own f))
unfolding own
block-none Nil g = refl
block-none (Cons k w ns ks ts) g =
    let kids = if is_routine_kind k then bare_heading ks else own ks in
    let below = if is_routine_kind k then [] else declared_in kids in
    append-none (declared_by k kids ++ below) (declared_in (own ts))
    (append-none (declared_by k kids) below (node-none k w ks g.0 g.3) (by (block-none ks g.3) (is_routine_kind k))) (block-none ts g.4) where
      by : NotEmpty (declared_in (own ks)) → (b : Bool) → NotEmpty (if b then [] else declared_in (if b then bare_heading ks else own ks))
      by h true = refl
      by h false = h

-- ---- the heading of a program gives no parameters

no-parameters : (m : List ℕ → Found) (o : Owner) (k : Kind) (w : List ℕ) (f : Forest) → is_program k ≡ true → fits_some (layout k w (count f)) (kinds f) ≡ true → (params_in (marks_in m o f)).defines ≡ []
no-parameters m o kind.Program (b ∷ w) f p e = absurd (true≢false (sym e))
no-parameters m o kind.Program [] Nil p e = absurd (true≢false (sym e))
no-parameters m o kind.Program [] (Cons j v os js Nil) p e = absurd (true≢false (sym (and_parts (has class.Name j) _ e).1))
no-parameters m o kind.Program [] (Cons j v os js (Cons q w ns ps ts)) p e =
    let x = and_parts (has class.Name j) _ e in
    params-silent m o j q v w os ns js ps ts x.0 (either-way (is_silent (role q)) (has class.Heads q) (heads-silent q) (and_parts (has class.Heads q) _ x.1).0)
no-parameters m o k w f p e = absurd (true≢false (sym p))

pub program-parameters : (t : Plain) → IsProper t → is_program t.kind ≡ true → parameters_of (program_routine t) ≡ []
unfolding heading_marks
program-parameters t proper p = ap (firsts []) (no-parameters required_or_missing (Keyed []) t.kind t.word t.kids p proper.sound.0)

-- ---- a program declares nothing under the empty name

kids-well : (f : Forest) → WellFormed f → WellFormed (block_kids f)
kids-well Nil c = tt
kids-well (Cons kind.Block w ns ks ts) c = c.3
kids-well (Cons k w ns ks ts) c = kids-well ts c.4

pub no-empty : (t : Plain) → IsProper t → is_program t.kind ≡ true → declares (program_routine t) [] ≡ false
no-empty t proper p =
    let b = declared_in (own (block_kids t.kids)) in
    ap (λ (ds : List (List ℕ × Meaning)). is_some (entry_of (map (λ (d : List ℕ × Meaning). (d.0, d.1.class)) ds ++ b) [])) (program-parameters t proper p)
    ∙ ap (λ (o : Option Class). is_some o) (block-none (block_kids t.kids) (kids-well t.kids proper.sound.3))
