-- Entries of a node seen from a place above it: lemmas.
use Rattle.std.specs.Prelude.{◌≡◌, ℕ, ◌-◌, List, [], ◌∷◌, ◌++◌, length, take}
use Rattle.std.proofs.Common.{refl, ap, sym, ◌∙◌, append-nil, append_assoc, arith}
use Rattle.std.proofs.lemmas.List.{take_at, length-append}
use Rattle.pc_rules.specs.Attributes.{Entry, at_kid}
use Rattle.pc_rules.specs.Errors.{from_place}

-- no entries are none from any place
pub from_place-none : (p : List ℕ) → from_place p [] ≡ []
from_place-none [] = refl
from_place-none (i ∷ is) = ap (at_kid i) (from_place-none is)

-- an entry at the node is an entry at the place
pub from_place-one : (p : List ℕ) (row : ℕ) (text : List ℕ) → from_place p (record { place = []; row = row; text = text } ∷ []) ≡ record { place = p; row = row; text = text } ∷ []
from_place-one [] row text = refl
from_place-one (i ∷ is) row text = ap (at_kid i) (from_place-one is row text)

pub at_kid-append : (i : ℕ) (es fs : List Entry) → at_kid i (es ++ fs) ≡ at_kid i es ++ at_kid i fs
at_kid-append i [] fs = refl
at_kid-append i (e ∷ es) fs = ap (λ xs. record e { place = i ∷ e.place } ∷ xs) (at_kid-append i es fs)

pub from_place-append : (p : List ℕ) (es fs : List Entry) → from_place p (es ++ fs) ≡ from_place p es ++ from_place p fs
from_place-append [] es fs = refl
from_place-append (i ∷ is) es fs = ap (at_kid i) (from_place-append is es fs) ∙ at_kid-append i (from_place is es) (from_place is fs)

-- from the place of kid i they are what the entries at kid i are from the place of the node
pub from_place-kid : (p : List ℕ) (i : ℕ) (es : List Entry) → from_place (p ++ i ∷ []) es ≡ from_place p (at_kid i es)
from_place-kid [] i es = refl
from_place-kid (j ∷ p) i es = ap (at_kid j) (from_place-kid p i es)

-- the first of some entries, and those after it
pub from_place-cons : (p q : List ℕ) (row : ℕ) (text : List ℕ) (es : List Entry) →
    from_place p (record { place = q; row = row; text = text } ∷ es) ≡ record { place = p ++ q; row = row; text = text } ∷ from_place p es
from_place-cons [] q row text es = refl
from_place-cons (i ∷ is) q row text es = ap (at_kid i) (from_place-cons is q row text es)

-- ---- a list of entries that grows

pub nothing-more : (old : List Entry) (p : List ℕ) → old ≡ old ++ from_place p []
nothing-more old p = sym (ap (λ xs. old ++ xs) (from_place-none p) ∙ append-nil old)

pub one-more : (old new : List Entry) (p : List ℕ) (row : ℕ) (text : List ℕ) → new ≡ old ++ record { place = p; row = row; text = text } ∷ [] →
    new ≡ old ++ from_place p (record { place = []; row = row; text = text } ∷ [])
one-more old new p row text e = e ∙ ap (λ xs. old ++ xs) (sym (from_place-one p row text))

-- further entries of the node, and then again
pub more-more : (old mid new : List Entry) (p : List ℕ) (es fs : List Entry) → mid ≡ old ++ from_place p es → new ≡ mid ++ from_place p fs →
    new ≡ old ++ from_place p (es ++ fs)
more-more old mid new p es fs f g =
    g ∙ ap (λ xs. xs ++ from_place p fs) f ∙ append_assoc old (from_place p es) (from_place p fs) ∙ ap (λ xs. old ++ xs) (sym (from_place-append p es fs))

-- two further lists of entries of a kid
pub two-more : (old mid new : List Entry) (p q : List ℕ) (i : ℕ) (es fs : List Entry) → q ≡ p ++ i ∷ [] → mid ≡ old ++ from_place q es → new ≡ mid ++ from_place q fs →
    new ≡ old ++ from_place p (at_kid i (es ++ fs))
two-more old mid new p q i es fs e f g =
    more-more old mid new q es fs f g ∙ ap (λ xs. old ++ xs) (ap (λ x. from_place x (es ++ fs)) e ∙ from_place-kid p i (es ++ fs))

-- further entries of the node, and then of a kid
pub kid-more : (old mid new : List Entry) (p q : List ℕ) (i : ℕ) (es fs : List Entry) → mid ≡ old ++ from_place p es → q ≡ p ++ i ∷ [] → new ≡ mid ++ from_place q fs →
    new ≡ old ++ from_place p (es ++ at_kid i fs)
kid-more old mid new p q i es fs f e g =
    more-more old mid new p es (at_kid i fs) f (g ∙ ap (λ xs. mid ++ xs) (ap (λ x. from_place x fs) e ∙ from_place-kid p i fs))

-- ---- a path that is entered and left

pub take-entered : (p : List ℕ) (i : ℕ) → take (length (p ++ i ∷ []) - 1) (p ++ i ∷ []) ≡ p
take-entered p i = take_at p (i ∷ []) (length (p ++ i ∷ []) - 1) (omega (arith, length-append p (i ∷ [])))

pub ruleset places = (from_place-none, from_place-cons, from_place-append, from_place-kid, at_kid-append, append_assoc, append-nil, take-entered)
