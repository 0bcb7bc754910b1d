-- A block declares the names that stand in its type definitions.
use Rattle.std.specs.Prelude.{◌≡◌, ℕ, Bool, true, false, ◌||◌, if◌then◌else◌, List, [], ◌∷◌, ◌++◌, Some, None}
use Rattle.std.specs.Option.{is_some}
use Rattle.std.specs.Str.{bytes_eq}
use Rattle.std.proofs.Common.{refl, sym, ◌∙◌, subst, true≢false}
use Rattle.std.proofs.lemmas.Bool.{and_parts}
use Rattle.pc_syntax.specs.declared.kind.Kind.{Kind}
use Rattle.pc_syntax.specs.declared.kind.Kind.TheVariants as kind
use Rattle.pc_syntax.specs.declared.class.Class.TheVariants as class
use Rattle.pc_syntax.specs.Classes.{has}
use Rattle.pc_syntax.specs.Layout.{layout}
use Rattle.pc_syntax.specs.Plain.{Forest, Nil, Cons, count, kinds}
use Rattle.pc_syntax.specs.Sorts.{is_hole}
use Rattle.pc_syntax.specs.WellFormed.{WellFormed, fits_some}
use Rattle.pc_syntax.specs.Words.{is_among, lowered, is_identifier}
use Rattle.pc_scope.specs.Headings.{is_routine_kind}
use Rattle.pc_rules.specs.Meanings.{TypeName, Meaning, Local, Outside, entry_of, define, define_all}
use Rattle.pc_rules.specs.Meanings as rules
use Rattle.pc_rules.specs.OwnBlock.{named_of_class, declared_by, declared_in}
use Rattle.pc_rule_laws.specs.Standing.{is_among-append}
use Rattle.pc_needs.proofs.BodyKinds.{Passes}
use Rattle.pc_block_laws.specs.Block.{name_in_front, type_names}
use Rattle.pc_block_laws.proofs.TypePartLemmas.{is_typedef}

-- ---- the block declares their names

pub some-front : {X : Type 0} (xs ys : List (List ℕ × X)) (n : List ℕ) → is_some (entry_of xs n) ≡ true → is_some (entry_of (xs ++ ys) n) ≡ true
some-front [] ys n e = absurd (true≢false (sym e))
some-front {X = X} (x ∷ xs) ys n e = by (some-front {X = X} xs ys n) (bytes_eq x.0 n) e where
  by : (is_some (entry_of xs n) ≡ true → is_some (entry_of (xs ++ ys) n) ≡ true) → (b : Bool) → is_some (if b then Some x.1 else entry_of xs n) ≡ true →
      is_some (if b then Some x.1 else entry_of (xs ++ ys) n) ≡ true
  by rest true q = refl
  by rest false q = rest q

pub some-back : {X : Type 0} (xs ys : List (List ℕ × X)) (n : List ℕ) → is_some (entry_of ys n) ≡ true → is_some (entry_of (xs ++ ys) n) ≡ true
some-back [] ys n e = e
some-back {X = X} (x ∷ xs) ys n e = by (some-back {X = X} xs ys n e) (bytes_eq x.0 n) where
  by : is_some (entry_of (xs ++ ys) n) ≡ true → (b : Bool) → is_some (if b then Some x.1 else entry_of (xs ++ ys) n) ≡ true
  by rest true = refl
  by rest false = rest

-- a word that is a name isn't empty
word-there : (c : rules.Class) (v : List ℕ) (js : Forest) (n : List ℕ) → fits_some (layout kind.Name v (count js)) (kinds js) ≡ true → is_among (lowered v ∷ []) n ≡ true →
    is_some (entry_of (named_of_class c (lowered v)) n) ≡ true
unfolding is_identifier
word-there c [] js n e q = absurd (true≢false (sym e))
word-there c (b ∷ v) js n e q = by (bytes_eq (lowered (b ∷ v)) n) q where
  by : (x : Bool) → (x || false) ≡ true → is_some (if x then Some c else None) ≡ true
  by true f = refl
  by false f = absurd (true≢false (sym f))

name-kind : (j : Kind) → has class.Name j ≡ true → is_hole j ≡ false → j ≡ kind.Name
name-kind kind.Name e h = refl
name-kind (kind.Hole s) e h = absurd (true≢false h)
name-kind _ e h = absurd (true≢false (sym e))

front-there : (c : rules.Class) (j : Kind) (v : List ℕ) (js : Forest) (n : List ℕ) → has class.Name j ≡ true → fits_some (layout j v (count js)) (kinds js) ≡ true → (b : Bool) → is_hole j ≡ b →
    is_among (if b then [] else lowered v ∷ []) n ≡ true → is_some (entry_of (named_of_class c (if b then [] else lowered v)) n) ≡ true
front-there c j v js n k e true h q = absurd (true≢false (sym q))
front-there c j v js n k e false h q = word-there c v js n (subst (λ (x : Kind). fits_some (layout x v (count js)) (kinds js) ≡ true) (name-kind j k h) e) q

definition-declared : (k : Kind) (w : List ℕ) (ks : Forest) (n : List ℕ) → is_typedef k ≡ true → fits_some (layout k w (count ks)) (kinds ks) ≡ true → WellFormed ks →
    is_among (name_in_front ks) n ≡ true → is_some (entry_of (declared_by k ks) n) ≡ true
definition-declared k w Nil n t e c q = absurd (true≢false (sym q))
definition-declared kind.Typedef [] (Cons j v ms js us) n t e c q = front-there TypeName j v js n (and_parts (has class.Name j) _ e).0 c.0 (is_hole j) refl q
definition-declared kind.Typedef (b ∷ w) (Cons j v ms js us) n t e c q = absurd (true≢false (sym e))
definition-declared (kind.Hole s) [] (Cons j v ms js us) n t e c q = absurd (true≢false (sym e))
definition-declared (kind.Hole s) (b ∷ w) (Cons j v ms js us) n t e c q = absurd (true≢false (sym e))
definition-declared k w (Cons j v ms js us) n t e c q = absurd (true≢false (sym t))

pub definitions-declared : (f : Forest) (n : List ℕ) → WellFormed f → Passes is_typedef f → is_among (type_names f) n ≡ true → is_some (entry_of (declared_in f) n) ≡ true
definitions-declared Nil n c p q = absurd (true≢false (sym q))
definitions-declared (Cons k w xs ks ts) n c p q = by (definitions-declared ts n c.4 p.1) (is_among (name_in_front ks) n) refl (sym (is_among-append (name_in_front ks) (type_names ts) n) ∙ q) where
  by : (is_among (type_names ts) n ≡ true → is_some (entry_of (declared_in ts) n) ≡ true) → (b : Bool) → is_among (name_in_front ks) n ≡ b → (b || is_among (type_names ts) n) ≡ true →
      is_some (entry_of ((declared_by k ks ++ (if is_routine_kind k then [] else declared_in ks)) ++ declared_in ts) n) ≡ true
  by g true e h =
      some-front {X = rules.Class} (declared_by k ks ++ (if is_routine_kind k then [] else declared_in ks)) (declared_in ts) n (some-front {X = rules.Class} (declared_by k ks) (if is_routine_kind k then [] else declared_in ks) n (definition-declared k w ks n p.0 c.0 c.3 e))
  by g false e h = some-back {X = rules.Class} (declared_by k ks ++ (if is_routine_kind k then [] else declared_in ks)) (declared_in ts) n (g h)
