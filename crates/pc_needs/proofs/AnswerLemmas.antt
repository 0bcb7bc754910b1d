-- What the same meaning of a name says of what a block and a heading have from outside.
use Rattle.std.specs.Prelude.{ℕ, ◌≡◌, Bool, true, false, if◌then◌else◌, List, [], ◌∷◌, Option, Some, None, map}
use Rattle.std.proofs.Common.{refl, ap, sym, ◌∙◌, true≢false}
use Rattle.pc_syntax.specs.Words.{is_among}
use Rattle.pc_rules.specs.Law.{SameAt, AgreeOn}
use Rattle.pc_rules.specs.Meanings.{Signature, Class, Meaning, Found, Here, Later, Component, Required, Missing, Outside, entry_of, is_routine_class}
use Rattle.pc_rules.specs.Outsides.{completed_by, signature_named, outside_of}
use Rattle.pc_rules.specs.Routines.{Routine, bare, start_of}
use Rattle.pc_needs.specs.Answers.{Answer, answer, body_answer, heading_answer, NameMeaning, meaning}
use Rattle.pc_needs.specs.Needs.{Need, need_of}
use Rattle.pc_needs.specs.UsedNames.{used_in_heading}
use Rattle.pc_needs.proofs.Lists.{Each}

-- a name means the same in two routines
abbrev pub MeansSame : List Routine → List Routine → Routine → Routine → List ℕ → Type 0
MeansSame rs us r u n = meaning rs r n ≡ meaning us u n

-- ---- equal needs

need_name : List ℕ → List Need → List ℕ
need_name d [] = d
need_name d (x ∷ xs) = x.name

need_meaning : NameMeaning → List Need → NameMeaning
need_meaning d [] = d
need_meaning d (x ∷ xs) = x.meaning

is_none : List Need → Bool
is_none [] = true
is_none (x ∷ xs) = false

rest : List Need → List Need
rest [] = []
rest (x ∷ xs) = xs

-- each of the names has one meaning
pub needs-each : (rs us : List Routine) (r u : Routine) (ns ms : List (List ℕ)) → map (need_of rs r) ns ≡ map (need_of us u) ms → Each (MeansSame rs us r u) ns
unfolding need_name need_meaning is_none rest
needs-each rs us r u [] ms e = tt
needs-each rs us r u (n ∷ ns) [] e = absurd (true≢false (sym (ap is_none e)))
needs-each rs us r u (n ∷ ns) (m ∷ ms) e =
    (ap (need_meaning (meaning rs r n)) e ∙ ap (meaning us u) (sym (ap (need_name n) e)), needs-each rs us r u ns ms (ap rest e))

-- ---- an answer

-- it has the look-up's
answer-found : (rs : List Routine) (n : List ℕ) (f : Found) → (answer rs n f).found ≡ f
answer-found rs n (Here m) = refl
answer-found rs n (Later c) = refl
answer-found rs n (Component t p) = refl
answer-found rs n (Required m) = refl
answer-found rs n Missing = refl

-- a declaration with the parameters and result of a routine
completed : Found → Option Signature → Found
completed (Here m) s = Here (if is_routine_class m.class then record m { signature = s } else m)
completed f s = f

pick : (b : Bool) (m : Meaning) (s : Option Signature) → (if b then record m { signature = s } else m) ≡ (if b then record m { signature = if b then s else None } else m)
pick true m s = refl
pick false m s = refl

answer-completed : (rs : List Routine) (n : List ℕ) (f : Found) → completed_by rs n f ≡ completed (answer rs n f).found (answer rs n f).signature
unfolding completed
answer-completed rs n (Here m) = ap Here (pick (is_routine_class m.class) m (signature_named rs m.owner n))
answer-completed rs n (Later c) = refl
answer-completed rs n (Component t p) = refl
answer-completed rs n (Required m) = refl
answer-completed rs n Missing = refl

-- the same answer means the same with the parameters and result of a routine
completed-same : (rs us : List Routine) (n : List ℕ) (f g : Found) → answer rs n f ≡ answer us n g → completed_by rs n f ≡ completed_by us n g
completed-same rs us n f g e = answer-completed rs n f ∙ (λ i. completed (e i).found (e i).signature) ∙ sym (answer-completed us n g)

found-same : (rs us : List Routine) (n : List ℕ) (f g : Found) → answer rs n f ≡ answer us n g → f ≡ g
found-same rs us n f g e = sym (answer-found rs n f) ∙ (λ i. (e i).found) ∙ answer-found us n g

-- ---- at a heading

answer_or : Answer → Option Answer → Answer
answer_or d None = d
answer_or d (Some a) = a

some-same : (a b : Answer) → Some a ≡ Some b → a ≡ b
unfolding answer_or
some-same a b e = ap (answer_or a) e

given-same : (x y : Bool) (a b : Answer) → x ≡ true → y ≡ true → (if x then Some a else None) ≡ (if y then Some b else None) → a ≡ b
given-same true true a b p q e = some-same a b e
given-same true false a b p q e = absurd (true≢false (sym q))
given-same false y a b p q e = absurd (true≢false (sym p))

-- a name that both headings use means the same around them
pub heading-same : (rs us : List Routine) (r u : Routine) (n : List ℕ) → used_in_heading r ≡ used_in_heading u → is_among (used_in_heading r) n ≡ true →
    heading_answer rs r n ≡ heading_answer us u n → SameAt [] (bare r.means) (bare u.means) n
heading-same rs us r u n names used e = record {
  means = λ w. found-same rs us n (r.means n) (u.means n) (given-same _ _ _ _ used ((λ i. is_among (sym names i) n) ∙ used) e);
  heading = refl;
  touched = refl;
}

-- ---- at the body

body-same : (rs us : List Routine) (r u : Routine) (n : List ℕ) (c d : Option Class) → c ≡ d → c ≡ None → body_answer rs r n c ≡ body_answer us u n d →
    answer rs n (r.means n) ≡ answer us n (u.means n)
body-same rs us r u n c d p q e =
    sym (ap (body_answer rs r n) q) ∙ e ∙ ap (body_answer us u n) (sym p ∙ q)

-- a name that means the same in two routines whose blocks begin at the same
pub block-same : (rs us : List Routine) (r u : Routine) (n : List ℕ) → start_of r ≡ start_of u → MeansSame rs us r u n →
    SameAt (start_of r).names (outside_of rs r) (outside_of us u) n
unfolding outside_of meaning
block-same rs us r u n s e = record {
  means = λ w. completed-same rs us n (r.means n) (u.means n)
      (body-same rs us r u n (entry_of (start_of r).names n) (entry_of (start_of u).names n) (λ i. entry_of (s i).names n) w (λ i. (e i).body));
  heading = λ i. (e i).declared;
  touched = λ i. (e i).changed;
}

-- agreement on a list of names
pub agree-each : (names : List (List ℕ × Class)) (ns : List (List ℕ)) (a b : Outside) → Each (SameAt names a b) ns → AgreeOn names ns a b
agree-each names [] a b h = tt
agree-each names (n ∷ ns) a b h = (h.0, agree-each names ns a b h.1)
