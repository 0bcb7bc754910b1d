-- Entries seen from nodes above: lemmas.
use Rattle.std.proofs.Common.{◌≡◌, ℕ, List, [], ◌∷◌, ◌++◌, refl, ap, sym, ◌∙◌, append_assoc}
use Rattle.pc_rules.specs.Attributes.{Entry, at_kid}
use Rattle.pc_rules.specs.Errors.{from_place}

-- a place with one step more
pub from_place-last : (is : List ℕ) (i : ℕ) (es : List Entry) → from_place (is ++ i ∷ []) es ≡ from_place is (at_kid i es)
from_place-last [] i es = refl
from_place-last (j ∷ is) i es = ap (at_kid j) (from_place-last is i es)

-- two lists of entries, one behind the other, seen from above
pub at_kid-append : (i : ℕ) (es fs : List Entry) → at_kid i (es ++ fs) ≡ at_kid i es ++ at_kid i fs
at_kid-append i [] fs = refl
at_kid-append i (e ∷ es) fs = ap (λ (gs : List Entry). record e { place = i ∷ e.place } ∷ gs) (at_kid-append i es fs)

pub from_place-append : (is : List ℕ) (es fs : List Entry) → from_place is (es ++ fs) ≡ from_place is es ++ from_place is fs
from_place-append [] es fs = refl
from_place-append (i ∷ is) es fs = ap (at_kid i) (from_place-append is es fs) ∙ at_kid-append i (from_place is es) (from_place is fs)

-- entries seen from one node further up, on the way to the root
pub one-up : (place front rest : List ℕ) (last : ℕ) (entries so none above : List Entry) → rest ≡ front ++ last ∷ [] → none ≡ [] → above ≡ none ++ at_kid last so → from_place rest so ≡ from_place place entries →
    from_place front above ≡ from_place place entries
one-up place front rest last entries so none above steps begun added same =
    ap (from_place front) (added ∙ ap (λ (es : List Entry). es ++ at_kid last so) begun) ∙ sym (from_place-last front last so) ∙ sym (ap (λ (is : List ℕ). from_place is so) steps) ∙ same

-- one more entry behind those so far
pub one-more : (first so all behind : List Entry) (e : Entry) → so ≡ first ++ all → behind ≡ so ++ e ∷ [] → behind ≡ first ++ (all ++ e ∷ [])
one-more first so all behind e h pushed = pushed ∙ ap (λ (es : List Entry). es ++ e ∷ []) h ∙ append_assoc first all (e ∷ [])

-- the entries of five parts, one behind the other
pub five-parts : (e0 e1 e2 e3 e4 e5 a b c d e : List Entry) → e0 ≡ [] → e1 ≡ e0 ++ a → e2 ≡ e1 ++ b → e3 ≡ e2 ++ c → e4 ≡ e3 ++ d → e5 ≡ e4 ++ e → e5 ≡ a ++ b ++ c ++ d ++ e
five-parts e0 e1 e2 e3 e4 e5 a b c d e none h1 h2 h3 h4 h5 =
    let s1 : e1 ≡ a = h1 ∙ ap (λ (es : List Entry). es ++ a) none in
    let s2 : e2 ≡ a ++ b = h2 ∙ ap (λ (es : List Entry). es ++ b) s1 in
    let s3 : e3 ≡ a ++ b ++ c = h3 ∙ ap (λ (es : List Entry). es ++ c) s2 in
    let s4 : e4 ≡ a ++ b ++ c ++ d = h4 ∙ ap (λ (es : List Entry). es ++ d) s3 in
    h5 ∙ ap (λ (es : List Entry). es ++ e) s4
