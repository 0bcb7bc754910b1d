-- The names that nodes declare, without their classes: lemmas.
use Rattle.std.proofs.Common.{◌≡◌, ◌⊎◌, inl, inr, ℕ, Bool, true, false, zero, suc, List, [], ◌∷◌, ◌++◌, take, slice_get, Some, refl, ap, sym, ◌∙◌, if◌then◌else◌, append-nil, append_assoc}
use Rattle.pc_syntax.specs.Plain.{Forest, Nil, Cons, Plain, kids_of, trees_of}
use Rattle.pc_syntax.specs.PartsLaws.{kids_of-is}
use Rattle.pc_syntax.specs.Sorts.{is_hole}
use Rattle.pc_syntax.specs.Words.{lowered}
use Rattle.pc_syntax.specs.declared.kind.Kind.{Kind}
use Rattle.pc_syntax.specs.declared.kind.Kind.TheVariants as kind
use Rattle.pc_scope.specs.Headings.{first_name, names_of, names_of_first}
use Rattle.pc_rules.specs.Meanings.{Class, ConstantName, ElementName, TypeName, VariableName, ProcedureName, FunctionName}
use Rattle.pc_rules.specs.OwnBlock.{all_of_class, declared_by, named_of_class}
use Rattle.pc_rules.specs.Places.{first_of_names}
use Rattle.pc_definitions.specs.Numbered.{defined_name}
use Rattle.pc_counts.specs.Counting.{all_names, if_listed, if_named}

-- ---- of one class

pub names-named : (c : Class) (n : List ℕ) → all_names (named_of_class c n) ≡ if_named n
names-named c [] = refl
names-named c (b ∷ bs) = refl

pub names-all : (c : Class) (ns : List (List ℕ)) → all_names (all_of_class c ns) ≡ ns
names-all c [] = refl
names-all c (n ∷ ns) = ap (λ (ms : List (List ℕ)). n ∷ ms) (names-all c ns)

pub if_named-some : (w : List ℕ) → (w ≡ [] → ⊥) → if_named (lowered w) ≡ lowered w ∷ []
if_named-some [] some = absurd (some refl)
if_named-some (b ∷ bs) some = refl

-- ---- of a list, one by one

abbrev pub all_listed : List Plain → List (List ℕ)
all_listed [] = []
all_listed (t ∷ ts) = if_listed t ++ all_listed ts

listed-is : (ts : Forest) → names_of ts ≡ all_listed (trees_of ts)
listed-is Nil = refl
listed-is (Cons k w ns ks ts) = by (is_hole k) (listed-is ts)
  where
    by : (b : Bool) → names_of ts ≡ all_listed (trees_of ts) → (if b then names_of ts else lowered w ∷ names_of ts) ≡ (if b then [] else lowered w ∷ []) ++ all_listed (trees_of ts)
    by true rest = rest
    by false rest = ap (λ (ms : List (List ℕ)). lowered w ∷ ms) rest

pub listed-kids : (t : Plain) → names_of t.kids ≡ all_listed (kids_of t)
listed-kids t = listed-is t.kids ∙ ap all_listed (sym (kids_of-is t))

pub listed-end : (ts : List Plain) (t : Plain) → all_listed (ts ++ t ∷ []) ≡ all_listed ts ++ if_listed t
listed-end [] t = append-nil (if_listed t)
listed-end (u ∷ us) t = ap (λ (xs : List (List ℕ)). if_listed u ++ xs) (listed-end us t) ∙ sym (append_assoc (if_listed u) (all_listed us) (if_listed t))

-- the first name, behind holes
pub first-listed : (ts : List Plain) (i : ℕ) (t : Plain) → all_listed (take i ts) ≡ [] → slice_get ts i ≡ Some t → is_hole t.kind ≡ false → first_of_names (all_listed ts) ≡ lowered t.word
first-listed [] i t none at named = cc
first-listed (u ∷ us) zero t none at named =
    let same : u ≡ t = cc in
    ap (λ (v : Plain). first_of_names (if_listed v ++ all_listed us)) same ∙ ap (λ (b : Bool). first_of_names ((if b then [] else lowered t.word ∷ []) ++ all_listed us)) named
first-listed (u ∷ us) (suc i) t none at named = by (is_hole u.kind) none (λ e. first-listed us i t e at named)
  where
    by : (b : Bool) → (if b then [] else lowered u.word ∷ []) ++ all_listed (take i us) ≡ [] → (all_listed (take i us) ≡ [] → first_of_names (all_listed us) ≡ lowered t.word) →
        first_of_names ((if b then [] else lowered u.word ∷ []) ++ all_listed us) ≡ lowered t.word
    by true e rest = rest e
    by false e rest = cc e

pub listed-hole : (t : Plain) → is_hole t.kind ≡ true → if_listed t ≡ []
listed-hole t e = ap (λ (b : Bool). if b then [] else lowered t.word ∷ []) e

-- ---- by a node itself

pub none-declared : (k : Kind) (ks : Forest) → (k ≡ kind.Constdef → ⊥) → (k ≡ kind.Typedef → ⊥) → (k ≡ kind.Vardef → ⊥) → (k ≡ kind.Enum → ⊥) → (k ≡ kind.Procedure → ⊥) →
    (k ≡ kind.Function → ⊥) → (k ≡ kind.Funbody → ⊥) → all_names (declared_by k ks) ≡ []
none-declared kind.Constdef ks a b c d e f g = absurd (a refl)
none-declared kind.Typedef ks a b c d e f g = absurd (b refl)
none-declared kind.Vardef ks a b c d e f g = absurd (c refl)
none-declared kind.Enum ks a b c d e f g = absurd (d refl)
none-declared kind.Procedure ks a b c d e f g = absurd (e refl)
none-declared kind.Function ks a b c d e f g = absurd (f refl)
none-declared kind.Funbody ks a b c d e f g = absurd (g refl)
none-declared k ks a b c d e f g = refl

pub definition-names : (k : Kind) (ks : Forest) → (k ≡ kind.Constdef) ⊎ (k ≡ kind.Typedef) → all_names (declared_by k ks) ≡ if_named (first_name ks)
definition-names k ks (inl e) = ap (λ (j : Kind). all_names (declared_by j ks)) e ∙ names-named ConstantName (first_name ks)
definition-names k ks (inr e) = ap (λ (j : Kind). all_names (declared_by j ks)) e ∙ names-named TypeName (first_name ks)

pub list-names : (k : Kind) (ks : Forest) → (k ≡ kind.Vardef) ⊎ (k ≡ kind.Enum) → all_names (declared_by k ks) ≡ names_of_first ks
list-names k ks (inl e) = ap (λ (j : Kind). all_names (declared_by j ks)) e ∙ names-all VariableName (names_of_first ks)
list-names k ks (inr e) = ap (λ (j : Kind). all_names (declared_by j ks)) e ∙ names-all ElementName (names_of_first ks)

pub routine-names : (k : Kind) (ks : Forest) → (k ≡ kind.Procedure) ⊎ ((k ≡ kind.Function) ⊎ (k ≡ kind.Funbody)) → all_names (declared_by k ks) ≡ if_named (first_name ks)
routine-names k ks (inl e) = ap (λ (j : Kind). all_names (declared_by j ks)) e ∙ names-named ProcedureName (first_name ks)
routine-names k ks (inr (inl e)) = ap (λ (j : Kind). all_names (declared_by j ks)) e ∙ names-named FunctionName (first_name ks)
routine-names k ks (inr (inr e)) = ap (λ (j : Kind). all_names (declared_by j ks)) e ∙ names-named FunctionName (first_name ks)

-- the name of a definition
pub defined-other : (k : Kind) (ks : Forest) → (k ≡ kind.Vardef → ⊥) → defined_name k ks ≡ first_name ks
defined-other kind.Vardef ks other = absurd (other refl)
defined-other k ks other = refl
