-- Types, constants and values that are the same as one are the same as each other: lemmas.
use Rattle.std.specs.Prelude.{◌≡◌, ℕ, ℤ, pos, negsuc, Bool, true, false, ◌&&◌, ◌||◌, ◌==◌, if◌then◌else◌, List, [], ◌∷◌, Option}
use Rattle.std.specs.Str.{bytes_eq}
use Rattle.std.proofs.Common.{refl, ap, subst, sym, ◌∙◌, true≢false, arith, Some, None}
use Rattle.std.proofs.lemmas.Bool.{and_parts, and_from}
use Rattle.std.proofs.lemmas.Bool.Decides.{nat_tests}
use Rattle.std.proofs.lemmas.Slice.Eq.{bytes_eq-Decides}
use Rattle.pc_types.specs.Sameness.{same, same_words, same_owner, same_definition, same_definitions, definition_of, required_number}
use Rattle.pc_types.specs.Shapes.{Owner, Keyed, Placed, Definition, Shape, IntegerType, BooleanType, CharType, NilType, NoMembers, MembersType, TextType, EnumeratedType, SubrangeType, ArrayType, RecordType, SetType, PointerType}
use Rattle.pc_rules.specs.CaseStatements.{is_text_type, same_integer, same_constant, same_value, is_given}
use Rattle.pc_rules.specs.Meanings.{Constant, Ordinal, Chars, Value}
use Rattle.pc_statement_rules.specs.Given.{is_one_type}

number-equal : (m n : ℕ) → (m == n) ≡ true → m ≡ n
number-equal m n e = grind (arith, nat_tests)

same_words-equal : (v w : List (List ℕ)) → same_words v w ≡ true → v ≡ w
same_words-equal [] [] e = refl
same_words-equal [] (w ∷ ws) e = absurd (true≢false (sym e))
same_words-equal (v ∷ vs) [] e = absurd (true≢false (sym e))
same_words-equal (v ∷ vs) (w ∷ ws) e =
    let both = and_parts (bytes_eq v w) (same_words vs ws) e in
    let first : v ≡ w = (bytes_eq-Decides v w).0 both.0 in
    let rest : vs ≡ ws = same_words-equal vs ws both.1 in
    λ i. first i ∷ rest i

same_owner-equal : (a b : Owner) → same_owner a b ≡ true → a ≡ b
same_owner-equal (Keyed k) (Keyed l) e = ap Keyed (same_words-equal k l e)
same_owner-equal (Keyed k) (Placed q) e = absurd (true≢false (sym e))
same_owner-equal (Placed p) (Keyed l) e = absurd (true≢false (sym e))
same_owner-equal (Placed p) (Placed q) e = ap Placed ((bytes_eq-Decides p q).0 e)

same_definition-equal : (a b : Definition) → same_definition a b ≡ true → a ≡ b
same_definition-equal a b e =
    let p = and_parts (same_owner a.owner b.owner && bytes_eq a.name b.name && a.number == b.number) (bytes_eq a.inside b.inside) e in
    let q = and_parts (same_owner a.owner b.owner && bytes_eq a.name b.name) (a.number == b.number) p.0 in
    let r = and_parts (same_owner a.owner b.owner) (bytes_eq a.name b.name) q.0 in
    let o : a.owner ≡ b.owner = same_owner-equal a.owner b.owner r.0 in
    let n : a.name ≡ b.name = (bytes_eq-Decides a.name b.name).0 r.1 in
    let m : a.number ≡ b.number = number-equal a.number b.number q.1 in
    let s : a.inside ≡ b.inside = (bytes_eq-Decides a.inside b.inside).0 p.1 in
    λ i. record { owner = o i; name = n i; number = m i; inside = s i }

-- ---- types

abbrev by_number : Bool → ℕ → Option Definition → ℕ → Option Definition → Bool
by_number none m d n e = if none then same_definitions d e else m == n

same-chain : (none other : Bool) (m n p : ℕ) (d e f : Option Definition) → none ≡ (m == 0) → other ≡ (n == 0) → ((x : Definition) → e ≡ Some x → n ≡ 0) →
    by_number none m d n e ≡ true → by_number other n e p f ≡ true → by_number none m d p f ≡ true
same-chain true true m n p (Some x) (Some y) f i j h g k = let P : Definition → Type 0 = λ z. same_definitions (Some z) f ≡ true in subst P (sym (same_definition-equal x y g)) k
same-chain true true m n p (Some x) None f i j h g k = absurd (true≢false (sym g))
same-chain true true m n p None e f i j h g k = absurd (true≢false (sym g))
same-chain true false m n p (Some x) (Some y) f i j h g k = let zero = h y refl in let l = j ∙ ap (λ z. z == 0) zero in absurd (true≢false (sym l))
same-chain true false m n p (Some x) None f i j h g k = absurd (true≢false (sym g))
same-chain true false m n p None e f i j h g k = absurd (true≢false (sym g))
same-chain false true m n p d e f i j h g k = let l = number-equal m n g in absurd (true≢false (j ∙ ap (λ z. z == 0) (sym l) ∙ sym i))
same-chain false false m n p d e f i j h g k = ap (λ z. z == p) (number-equal m n g) ∙ k

defined-number : (a : Shape) (x : Definition) → definition_of a ≡ Some x → required_number a ≡ 0
defined-number IntegerType x e = cc
defined-number BooleanType x e = cc
defined-number CharType x e = cc
defined-number NilType x e = cc
defined-number _ x e = refl

same-trans : (a b c : Shape) → same a b ≡ true → same b c ≡ true → same a c ≡ true
unfolding same
same-trans a b c g k =
    same-chain (required_number a == 0) (required_number b == 0) (required_number a) (required_number b) (required_number c) (definition_of a) (definition_of b) (definition_of c) refl refl (defined-number b) g k

text-left : (b c : Shape) → is_text_type b ≡ true → same b c ≡ false
unfolding same
text-left (TextType n) c e = refl
text-left _ c e = absurd (true≢false (sym e))

text-at : (a : Shape) (n : ℕ) → same a (TextType n) ≡ false
unfolding same
text-at IntegerType n = refl
text-at BooleanType n = refl
text-at CharType n = refl
text-at NilType n = refl
text-at NoMembers n = refl
text-at (MembersType m) n = refl
text-at (TextType m) n = refl
text-at (EnumeratedType d ns) n = refl
text-at (SubrangeType d h x y) n = refl
text-at (ArrayType d p i e) n = refl
text-at (RecordType d p fs) n = refl
text-at (SetType d p m) n = refl
text-at (PointerType d o m) n = refl

text-right : (a b : Shape) → is_text_type b ≡ true → same a b ≡ false
text-right a (TextType n) e = text-at a n
text-right a _ e = absurd (true≢false (sym e))

or-true : (b : Bool) → (b || true) ≡ true
or-true true = refl
or-true false = refl

chain-or : (y x z s t u : Bool) → (y ≡ true → s ≡ false) → (y ≡ true → t ≡ false) → (s ≡ true → t ≡ true → u ≡ true) → ((x && y) || s) ≡ true → ((y && z) || t) ≡ true → ((x && z) || u) ≡ true
chain-or true true true s t u f g h i j = refl
chain-or true true false s t u f g h i j = absurd (true≢false (sym j ∙ g refl))
chain-or true false z s t u f g h i j = absurd (true≢false (sym i ∙ f refl))
chain-or false true z s t u f g h i j = ap (λ b. z || b) (h i j) ∙ or-true z
chain-or false false z s t u f g h i j = h i j

one_type-trans : (a b c : Shape) → is_one_type a b ≡ true → is_one_type b c ≡ true → is_one_type a c ≡ true
one_type-trans a b c = chain-or (is_text_type b) (is_text_type a) (is_text_type c) (same a b) (same b c) (same a c) (text-right a b) (text-left b c) (same-trans a b c)

-- ---- constants and values

pub same_integer-equal : (i j : ℤ) → same_integer i j ≡ true → i ≡ j
same_integer-equal (pos m) (pos n) e = ap pos (number-equal m n e)
same_integer-equal (pos m) (negsuc n) e = absurd (true≢false (sym e))
same_integer-equal (negsuc m) (pos n) e = absurd (true≢false (sym e))
same_integer-equal (negsuc m) (negsuc n) e = ap negsuc (number-equal m n e)

same_constant-equal : (c d : Constant) → same_constant c d ≡ true → c ≡ d
same_constant-equal (Ordinal i) (Ordinal j) e = ap Ordinal (same_integer-equal i j e)
same_constant-equal (Ordinal i) (Chars d) e = absurd (true≢false (sym e))
same_constant-equal (Chars c) (Ordinal j) e = absurd (true≢false (sym e))
same_constant-equal (Chars c) (Chars d) e = ap Chars ((bytes_eq-Decides c d).0 e)

same_value-trans : (v w x : Value) → same_value v w ≡ true → same_value w x ≡ true → same_value v x ≡ true
same_value-trans v w x e f =
    let p = and_parts (is_one_type v.type w.type) (same_constant v.constant w.constant) e in
    let q = and_parts (is_one_type w.type x.type) (same_constant w.constant x.constant) f in
    and_from (is_one_type v.type x.type) (same_constant v.constant x.constant) (one_type-trans v.type w.type x.type p.0 q.0)
    (ap (λ c. same_constant c x.constant) (same_constant-equal v.constant w.constant p.1) ∙ q.1)

given-step : (a b c d : Bool) → (a ≡ true → c ≡ true) → (b ≡ true → d ≡ true) → (a || b) ≡ true → (c || d) ≡ true
given-step true b c d f g e = ap (λ x. x || d) (f refl)
given-step false b c d f g e = ap (λ x. c || x) (g e) ∙ or-true c

-- a value like one that is given is given
pub given-again : (ws : List Value) (w x : Value) → is_given ws w ≡ true → same_value w x ≡ true → is_given ws x ≡ true
given-again [] w x e f = e
given-again (v ∷ ws) w x e f =
    given-step (same_value v w) (is_given ws w) (same_value v x) (is_given ws x) (λ g. same_value-trans v w x g f) (λ g. given-again ws w x g f) e
