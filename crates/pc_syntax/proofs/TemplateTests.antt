-- The table of templates, tested over all its entries.
use Rattle.std.proofs.Common.{◌≡◌, ℕ, ◌≤◌, Bool, true, false, not, ◌&&◌, nat_le, if◌then◌else◌, List, [], ◌∷◌, Option, Some, None, length, refl, sym, codes, arith, ◌⊎◌, inl, inr, subst}
use Rattle.std.specs.List.{list_all}
use Rattle.std.specs.Str.{bytes_eq}
use Rattle.std.specs.Cmp.Lexicographic.{same_text}
use Rattle.std.proofs.lemmas.Bool.{and_parts, leb-true}
use Rattle.pc_syntax.specs.declared.kind.Kind.{Kind}
use Rattle.pc_syntax.specs.declared.kind.Kind.TheVariants.{For, Mul, Add, Sign, Rel}
use Rattle.pc_syntax.specs.Slots.{is_list, places_of}
use Rattle.pc_syntax.specs.Words.{is_forward}
use Rattle.pc_syntax.specs.Fits.{word_fits}
use Rattle.pc_syntax.specs.WellFormed.{IsProper}
use Rattle.pc_syntax.specs.Blanks.{fresh}
use Rattle.pc_syntax.specs.Templates.{kind_name, named_kinds, kind_among, worded_kind, or_worded, template_kind, template_word}
use Rattle.pc_syntax.proofs.Blanks.{proper-fresh}

-- a node of the kind with the word may be made
pub record IsTemplate (k : Kind) (w : List ℕ) : Type 0 where
  pub single : is_list k ≡ false
  pub word : word_fits k w ≡ true
  pub few : length (places_of k) ≤ 5

abbrev is_template : Kind → List ℕ → Bool
is_template k w = not (is_list k) && (word_fits k w && nat_le (length (places_of k)) 5)

not-true : (b : Bool) → not b ≡ true → b ≡ false
not-true true e = cc
not-true false e = refl

tested : (k : Kind) (w : List ℕ) → is_template k w ≡ true → IsTemplate k w
tested k w e =
    let a = and_parts (not (is_list k)) _ e in
    let b = and_parts (word_fits k w) _ a.1 in
    record { single = not-true _ a.0; word = b.0; few = leb-true _ _ b.1 }

abbrev named_is_template : Kind → Bool
named_is_template k = is_template k (template_word k (kind_name k))

all_named : list_all named_is_template named_kinds ≡ true
unfolding template_word is_forward
all_named = refl

-- a test that was met, or not
step : (b : Bool) (j k : Kind) (rest : Option Kind) → (if b then Some j else rest) ≡ Some k → ((b ≡ true) × (j ≡ k)) ⊎ (rest ≡ Some k)
step true j k rest e = inl (refl, cc)
step false j k rest e = inr e

-- a template by the word that names it
module _ (spelled name : List ℕ) (j k : Kind) where
  named : bytes_eq spelled name ≡ true → j ≡ k → is_template j (template_word j spelled) ≡ true → IsTemplate k (template_word k name)
  named same is e =
      let P : List ℕ → Type 0 = λ n. IsTemplate j (template_word j n) in
      let Q : Kind → Type 0 = λ x. IsTemplate x (template_word x name) in
      subst Q is (subst P (same_text spelled name (sym same)) (tested j _ e))

-- a kind that is found by its name
found : (ks : List Kind) (name : List ℕ) (k : Kind) → list_all named_is_template ks ≡ true → kind_among ks name ≡ Some k → IsTemplate k (template_word k name)
found [] name k all e = cc
found (j ∷ ks) name k all e =
    let parts = and_parts (named_is_template j) _ all in
    elim (step (bytes_eq (kind_name j) name) j k (kind_among ks name) e) [
      | inl h ↦ named (kind_name j) name j k h.0 h.1 parts.0
      | inr rest ↦ found ks name k parts.1 rest
    ]

-- an operator's node
module _ (name : List ℕ) where
  operator : (j k : Kind) → j ≡ k → IsTemplate j (template_word j name) → IsTemplate k (template_word k name)
  operator j k is t = let Q : Kind → Type 0 = λ x. IsTemplate x (template_word x name) in subst Q is t

  mul : word_fits Mul name ≡ true → IsTemplate Mul (template_word Mul name)
  unfolding template_word
  mul e = record { single = refl; word = e; few = omega arith }

  add : word_fits Add name ≡ true → IsTemplate Add (template_word Add name)
  unfolding template_word
  add e = record { single = refl; word = e; few = omega arith }

  rel : word_fits Rel name ≡ true → IsTemplate Rel (template_word Rel name)
  unfolding template_word
  rel e = record { single = refl; word = e; few = omega arith }

downto : is_template For (template_word For (codes "downto")) ≡ true
unfolding template_word
downto = refl

neg : is_template Sign (template_word Sign (codes "neg")) ≡ true
unfolding template_word
neg = refl

pos : is_template Sign (template_word Sign (codes "pos")) ≡ true
unfolding template_word
pos = refl

worded : (name : List ℕ) (k : Kind) → worded_kind name ≡ Some k → IsTemplate k (template_word k name)
worded name k e =
    elim (step (bytes_eq (codes "downto") name) For k _ e) [
      | inl h ↦ named (codes "downto") name For k h.0 h.1 downto
      | inr e1 ↦ elim (step (bytes_eq (codes "neg") name) Sign k _ e1) [
        | inl h ↦ named (codes "neg") name Sign k h.0 h.1 neg
        | inr e2 ↦ elim (step (bytes_eq (codes "pos") name) Sign k _ e2) [
          | inl h ↦ named (codes "pos") name Sign k h.0 h.1 pos
          | inr e3 ↦ elim (step (word_fits Mul name) Mul k _ e3) [
            | inl h ↦ operator name Mul k h.1 (mul name h.0)
            | inr e4 ↦ elim (step (word_fits Add name) Add k _ e4) [
              | inl h ↦ operator name Add k h.1 (add name h.0)
              | inr e5 ↦ elim (step (word_fits Rel name) Rel k _ e5) [
                | inl h ↦ operator name Rel k h.1 (rel name h.0)
                | inr e6 ↦ cc
              ]
            ]
          ]
        ]
      ]
    ]

either : (o : Option Kind) (name : List ℕ) (k : Kind) → kind_among named_kinds name ≡ o → or_worded o name ≡ Some k → IsTemplate k (template_word k name)
either None name k among e = worded name k e
either (Some j) name k among e = let same : j ≡ k = cc in operator name j k same (found named_kinds name j all_named among)

-- a template may be made
pub proper-template : (name : List ℕ) (k : Kind) → template_kind name ≡ Some k → IsProper (fresh k (template_word k name))
unfolding template_kind
proper-template name k e =
    let t = either (kind_among named_kinds name) name k refl e in
    proper-fresh k (template_word k name) t.single t.word t.few
