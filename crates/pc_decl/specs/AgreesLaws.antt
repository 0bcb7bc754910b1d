-- How texts that agree up to the limit are put together.
use Rattle.std.proofs.Common.{◌≡◌, ℕ, ◌<◌, List, ◌++◌, length, inl, inr, ap, ◌∙◌, append_assoc, length-append, arith, subst}
use Rattle.pc_views.specs.Limit.{text_limit, limited, Agrees}

-- a text agrees with what it equals
pub agrees-same : (text whole : List ℕ) → text ≡ whole → Agrees text whole
agrees-same text whole e = inl e

-- behind a text that is over the limit anything may be left away
pub agrees-stopped : (text more : List ℕ) → text_limit < length text → Agrees text (text ++ more)
agrees-stopped text more h = inr (h, omega (arith, h, length-append text more))

agrees-append : (text whole more : List ℕ) → Agrees text whole → Agrees (text ++ more) (whole ++ more)
agrees-append text whole more (inl e) = inl (ap (λ (bs : List ℕ). bs ++ more) e)
agrees-append text whole more (inr h) = inr (omega (arith, h.0, length-append text more), omega (arith, h.1, length-append whole more))

pub agrees-trans : (text middle whole : List ℕ) → Agrees text middle → Agrees middle whole → Agrees text whole
agrees-trans text middle whole (inl e) (inl f) = inl (e ∙ f)
agrees-trans text middle whole (inl e) (inr h) = inr (omega (arith, h.0, ap length e), h.1)
agrees-trans text middle whole (inr h) (inl f) = inr (h.0, omega (arith, h.1, ap length f))
agrees-trans text middle whole (inr h) (inr g) = inr (h.0, g.1)

-- a piece, and then what comes behind it
pub agrees-then : (text text' text'' piece more : List ℕ) → Agrees text' (text ++ piece) → Agrees text'' (text' ++ more) → Agrees text'' (text ++ (piece ++ more))
agrees-then text text' text'' piece more first second =
    agrees-trans text'' (text' ++ more) (text ++ (piece ++ more)) second (subst (λ (bs : List ℕ). Agrees (text' ++ more) bs) (append_assoc text piece more) (agrees-append text' (text ++ piece) more first))

-- what is shown of texts that agree is the same
pub limited-agrees : (text whole : List ℕ) → Agrees text whole → limited text ≡ limited whole
limited-agrees text whole (inl e) = ap limited e
limited-agrees text whole (inr h) = grind (arith, h.0, h.1)

pub ruleset shown = (limited-agrees)
