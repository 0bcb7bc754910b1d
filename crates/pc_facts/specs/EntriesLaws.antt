-- Entries of a kid, one after the other: lemmas.
use Rattle.std.specs.Prelude.{◌≡◌, ℕ, List, [], ◌∷◌, ◌++◌}
use Rattle.std.proofs.Common.{refl, ap, sym, ◌∙◌, append_assoc}
use Rattle.pc_rules.specs.Attributes.{Entry, at_kid}

pub at_kid-more : (i : ℕ) (es : List Entry) (e : Entry) → at_kid i (es ++ e ∷ []) ≡ at_kid i es ++ record e { place = i ∷ e.place } ∷ []
at_kid-more i [] e = refl
at_kid-more i (f ∷ es) e = ap (λ gs. record f { place = i ∷ f.place } ∷ gs) (at_kid-more i es e)

-- a list that has the entries of a kid so far, with one more of them
pub kid-so-far : (i : ℕ) (old all more : List Entry) (es : List Entry) (e f : Entry) → all ≡ old ++ at_kid i es → f ≡ record e { place = i ∷ e.place } → more ≡ all ++ f ∷ [] →
    more ≡ old ++ at_kid i (es ++ e ∷ [])
kid-so-far i old all more es e f is one grown =
    grown ∙ ap (λ gs. gs ++ f ∷ []) is ∙ append_assoc old (at_kid i es) (f ∷ []) ∙ ap (λ g. old ++ (at_kid i es ++ g ∷ [])) one ∙ ap (λ gs. old ++ gs) (sym (at_kid-more i es e))
