-- The type definitions of a block declare types of that block, under the names that stand in them.
use Rattle.std.specs.Prelude.{◌≡◌, ℕ, Bool, true, false, if◌then◌else◌, List, [], ◌∷◌, ◌++◌, Some}
use Rattle.std.specs.Str.{bytes_eq}
use Rattle.std.proofs.Common.{refl, ap, sym, ◌∙◌, subst, true≢false}
use Rattle.std.proofs.lemmas.Bool.{or_left}
use Rattle.std.proofs.lemmas.Slice.Eq.{bytes_eq-Decides}
use Rattle.pc_syntax.specs.declared.kind.Kind.{Kind}
use Rattle.pc_syntax.specs.declared.kind.Kind.TheVariants as kind
use Rattle.pc_syntax.specs.Layout.{layout}
use Rattle.pc_syntax.specs.Plain.{Forest, Nil, Cons, count, kinds}
use Rattle.pc_syntax.specs.Sorts.{is_hole}
use Rattle.pc_syntax.specs.WellFormed.{WellFormed, fits_some}
use Rattle.pc_syntax.specs.Words.{is_among, lowered}
use Rattle.pc_types.specs.Shapes.{Owner}
use Rattle.pc_rules.specs.Attributes.{Marked, Node, nodes}
use Rattle.pc_rules.specs.DeclaringNames.{declares}
use Rattle.pc_rules.specs.Decorated.{seen, rule, decorate}
use Rattle.pc_rules.specs.HandedOn.{all_defines}
use Rattle.pc_rules.specs.Meanings.{Meaning, Local, Outside, entry_of, define, define_all}
use Rattle.pc_rules.specs.NameClasses.{is_type_class}
use Rattle.pc_rules.specs.Places.{inner, beside}
use Rattle.pc_rule_laws.specs.Roles.{first_node, second_node}
use Rattle.pc_needs.proofs.BodyKinds.{Passes}
use Rattle.pc_needs.proofs.Lists.{Each, each-append}
use Rattle.pc_needs.proofs.Owners.{beside-owner}
use Rattle.pc_carrying.specs.Carrying.{AllDenoting, AllDefining}
use Rattle.pc_block_laws.specs.Block.{name_in_front, type_names}
use Rattle.pc_block_laws.specs.OwnTypes.{NoTypes}
use Rattle.pc_block_laws.proofs.OnceLemmas.{among-front, among-back}
use Rattle.pc_block_laws.proofs.TypelessLemmas.{no-types, typeless-nodes, typeless-at, marks-typeless, denoters-typeless}

-- ---- declarations

-- a type is one of this owner, under one of these names
abbrev pub IsOwnType : Owner → List (List ℕ) → List ℕ × Meaning → Type 0
IsOwnType o ns d = is_type_class d.1.class ≡ true → (d.1.owner ≡ o) × (is_among ns d.0 ≡ true)

abbrev pub AllOwn : Owner → List (List ℕ) → List (List ℕ × Meaning) → Type 0
AllOwn o ns ds = Each (IsOwnType o ns) ds

pub no-own : (o : Owner) (ns : List (List ℕ)) (ds : List (List ℕ × Meaning)) → NoTypes ds → AllOwn o ns ds
no-own o ns [] h = tt
no-own o ns (d ∷ ds) h = ((λ e. absurd (true≢false (sym e ∙ h.0))), no-own o ns ds h.1)

define-own : (o : Owner) (ns : List (List ℕ)) (l : Local) (n : List ℕ) (m : Meaning) → AllOwn o ns l.known → IsOwnType o ns (n, m) → AllOwn o ns (define l n m).known
define-own o ns l n m h g = by (is_among l.passed n) where
  by : (b : Bool) → AllOwn o ns (if b then l.known else l.known ++ (n, m) ∷ [])
  by true = h
  by false = each-append (IsOwnType o ns) l.known ((n, m) ∷ []) h (g, tt)

pub all-own : (o : Owner) (ns : List (List ℕ)) (l : Local) (ds : List (List ℕ × Meaning)) → AllOwn o ns l.known → AllOwn o ns ds → AllOwn o ns (define_all l ds).known
all-own o ns l [] h g = h
all-own o ns l (d ∷ ds) h g = all-own o ns (define l d.0 d.1) ds (define-own o ns l d.0 d.1 h g.0) g.1

-- what stands under a name is one of them
pub entry-own : (o : Owner) (ns : List (List ℕ)) (ds : List (List ℕ × Meaning)) (n : List ℕ) (m : Meaning) → AllOwn o ns ds → entry_of ds n ≡ Some m → IsOwnType o ns (n, m)
entry-own o ns [] n m h e = absurd (cc e)
entry-own o ns (d ∷ ds) n m h e = by (entry-own o ns ds n m h.1) (bytes_eq d.0 n) refl e where
  by : (entry_of ds n ≡ Some m → IsOwnType o ns (n, m)) → (b : Bool) → bytes_eq d.0 n ≡ b → (if b then Some d.1 else entry_of ds n) ≡ Some m → IsOwnType o ns (n, m)
  by rest true q f =
      let same : d.1 ≡ m = cc f in
      subst (λ (x : Meaning). IsOwnType o ns (n, x)) same (subst (λ (x : List ℕ). IsOwnType o ns (x, d.1)) ((bytes_eq-Decides d.0 n).0 q) h.0)
  by rest false q f = rest f

-- ---- one definition

-- type definitions, and holes
abbrev pub is_typedef : Kind → Bool
is_typedef kind.Typedef = true
is_typedef (kind.Hole s) = true
is_typedef _ = false

-- a definition has a first kid
first-named : (out : Outside) (l : Local) (w : List ℕ) (ks : Forest) → fits_some (layout kind.Typedef w (count ks)) (kinds ks) ≡ true → is_hole (first_node (decorate out l ks)).kind ≡ false →
    is_among (name_in_front ks) (lowered (first_node (decorate out l ks)).word) ≡ true
unfolding decorate rule
first-named out l [] Nil e h = absurd (true≢false (sym e))
first-named out l (b ∷ w) Nil e h = absurd (true≢false (sym e))
first-named out l w (Cons j v ms js us) e h =
    ap (λ (b : Bool). is_among (if b then [] else lowered v ∷ []) (lowered v)) h ∙ or_left (bytes_eq (lowered v) (lowered v)) false ((bytes_eq-Decides (lowered v) (lowered v)).1 refl)

declares-own : (o : Owner) (ns : List (List ℕ)) (a : Node) (m : Meaning) → m.owner ≡ o → (is_hole a.kind ≡ false → is_among ns (lowered a.word) ≡ true) → AllOwn o ns (declares a m)
declares-own o ns a m e h = by (is_hole a.kind) refl where
  by : (b : Bool) → is_hole a.kind ≡ b → AllOwn o ns (if b then [] else (lowered a.word, m) ∷ [])
  by true q = tt
  by false q = ((λ c. (e, h q)), tt)

definition-own : (out : Outside) (l : Local) (k : Kind) (w : List ℕ) (ks : Forest) (o : Owner) (ns : List (List ℕ)) → l.owner ≡ o → is_typedef k ≡ true →
    fits_some (layout k w (count ks)) (kinds ks) ≡ true → AllDenoting ks → ((n : List ℕ) → is_among (name_in_front ks) n ≡ true → is_among ns n ≡ true) →
    AllOwn o ns (rule l k w (seen out l k w) (decorate out (inner l k ks) ks)).defines
unfolding rule
definition-own out l kind.Typedef w ks o ns e t f a h =
    let m : Marked = decorate out (inner l kind.Typedef ks) ks in
    each-append (IsOwnType o ns) _ (second_node m).defines
    (declares-own o ns (first_node m) _ e (λ q. h (lowered (first_node m).word) (first-named out (inner l kind.Typedef ks) w ks f q)))
    (no-own o ns (second_node m).defines (no-types (second_node m).defines (typeless-at (nodes m) 1 (typeless-nodes m (marks-typeless out (inner l kind.Typedef ks) ks (denoters-typeless ks a))))))
definition-own out l (kind.Hole s) w ks o ns e t f a h = tt
definition-own out l k w ks o ns e t f a h = absurd (true≢false (sym t))

-- ---- definitions in a row

pub definitions-own : (out : Outside) (l : Local) (f : Forest) (o : Owner) (ns : List (List ℕ)) → l.owner ≡ o → WellFormed f → Passes is_typedef f → AllDefining f →
    ((n : List ℕ) → is_among (type_names f) n ≡ true → is_among ns n ≡ true) → AllOwn o ns (all_defines (nodes (decorate out l f)))
unfolding decorate
definitions-own out l Nil o ns e c p a h = tt
definitions-own out l (Cons k w xs ks ts) o ns e c p a h =
    let r = rule l k w (seen out l k w) (decorate out (inner l k ks) ks) in
    each-append (IsOwnType o ns) r.defines _
    (definition-own out l k w ks o ns e p.0 c.0 a.1 (λ n q. h n (among-front (name_in_front ks) (type_names ts) n q)))
    (definitions-own out (beside l k r) ts o ns (beside-owner l k r ∙ e) c.4 p.1 a.2 (λ n q. h n (among-back (name_in_front ks) (type_names ts) n q)))
